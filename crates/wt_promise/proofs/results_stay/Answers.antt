use Rattle.wt_promise.proofs.Theorems.{result_theorem}
use Rattle.wt_promise.proofs.results_stay.Goals as goal

pub returns : goal.returns
returns c = record { result = result_theorem }
