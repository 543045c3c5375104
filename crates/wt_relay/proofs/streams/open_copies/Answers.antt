use Rattle.wt_relay.proofs.Leading.{leads_trans}
use Rattle.wt_relay.proofs.streams.open_copies.Goals as goal

pub loop-other-preserved : goal.loop-other-preserved
loop-other-preserved c = leads_trans _ _ _ c.loop-other.invariant c.in_ok-open_copy.ensures
