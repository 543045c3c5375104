use Rattle.wt_promise.proofs.Theorems.{established_theorem}
use Rattle.wt_promise.proofs.sessions_are_established_rightly.Goals as goal

pub returns : goal.returns
returns c = record { established = established_theorem }
