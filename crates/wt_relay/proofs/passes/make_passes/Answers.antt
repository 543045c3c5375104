use Rattle.wt_relay.proofs.Leading.{leads_trans}
use Rattle.wt_relay.proofs.passes.make_passes.Goals as goal

pub passes-preserved : goal.passes-preserved
passes-preserved c = leads_trans _ _ _ c.passes.invariant c.in_ok-goes_on.ensures
