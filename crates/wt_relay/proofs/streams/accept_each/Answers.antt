use Rattle.wt_relay.proofs.Leading.{leads_trans}
use Rattle.wt_relay.proofs.streams.accept_each.Goals as goal

pub streams-preserved : goal.streams-preserved
streams-preserved c = leads_trans _ _ _ c.streams.invariant c.in_ok-id.ensures
