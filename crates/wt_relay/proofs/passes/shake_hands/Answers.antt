use Rattle.wt_relay.proofs.Leading.{leads_trans}
use Rattle.wt_relay.proofs.passes.shake_hands.Goals as goal

pub shakes-preserved : goal.shakes-preserved
shakes-preserved c = leads_trans _ _ _ c.shakes.invariant c.in_ok-reply.ensures
