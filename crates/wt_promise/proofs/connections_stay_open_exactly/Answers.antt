use Rattle.wt_promise.proofs.Theorems.{open_theorem}
use Rattle.wt_promise.proofs.connections_stay_open_exactly.Goals as goal

pub returns : goal.returns
returns c = record { stays_open = open_theorem }
