use Rattle.wt_promise.proofs.Theorems.{gone_theorem}
use Rattle.wt_promise.proofs.streams_of_a_gone_session_are_told.Goals as goal

pub returns : goal.returns
returns c = record { told = gone_theorem }
