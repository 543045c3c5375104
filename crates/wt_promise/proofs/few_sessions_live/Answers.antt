use Rattle.wt_promise.proofs.Theorems.{few_theorem}
use Rattle.wt_promise.proofs.few_sessions_live.Goals as goal

pub returns : goal.returns
returns c = record { few = few_theorem }
