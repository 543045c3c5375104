use Rattle.wt_relay.proofs.Leading.{leads_trans}
use Rattle.wt_relay.proofs.streams.accept_of.Goals as goal

pub loop-id-preserved : goal.loop-id-preserved
loop-id-preserved c = leads_trans _ _ _ c.loop-id.invariant c.in_ok-open_copies.ensures
