use Rattle.wt_promise.proofs.CallFinds.{finds_nothing}
use Rattle.wt_promise.proofs.sides.calls_find_nothing.Goals as goal

pub returns : goal.returns
returns c = record { nothing = finds_nothing }
