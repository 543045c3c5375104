use Rattle.wt_promise.proofs.Theorems.{sends_theorem}
use Rattle.wt_promise.proofs.sends_are_in_order.Goals as goal

pub returns : goal.returns
returns c = record { order = sends_theorem }
