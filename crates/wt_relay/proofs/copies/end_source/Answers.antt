use Rattle.wt_relay.proofs.Leading.{leads_trans}
use Rattle.wt_relay.proofs.copies.end_source.Goals as goal

pub loop-copy-preserved : goal.loop-copy-preserved
loop-copy-preserved c = leads_trans _ _ _ c.loop-copy.invariant c.in_ok-end_copy.ensures
