use Rattle.wt_relay.proofs.Leading.{leads_trans}
use Rattle.wt_relay.proofs.copies.serve.Goals as goal

pub loop-ask-preserved : goal.loop-ask-preserved
loop-ask-preserved c = leads_trans _ _ _ c.loop-ask.invariant c.in_ok-serve_one.ensures
