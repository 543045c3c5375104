use Rattle.wt_relay.proofs.Leading.{leads_trans}
use Rattle.wt_relay.proofs.streams.accept_streams.Goals as goal

pub loop-member-preserved : goal.loop-member-preserved
loop-member-preserved c = leads_trans _ _ _ c.loop-member.invariant c.in_ok-accept_of.ensures
