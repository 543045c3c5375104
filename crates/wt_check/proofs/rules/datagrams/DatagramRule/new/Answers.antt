use Rattle.wt_check.proofs.DatagramSteps.{follow_none}
use Rattle.wt_check.proofs.rules.datagrams.DatagramRule.new.Goals as goal

pub returns : goal.returns
returns c = follow_none c.new-left.result c.new-left.ensures
