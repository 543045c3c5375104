use Rattle.wt_promise.proofs.Theorems.{settings_theorem}
use Rattle.wt_promise.proofs.settings_go_out.Goals as goal

pub returns : goal.returns
returns c = record { settings = settings_theorem }
