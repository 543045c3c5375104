use Rattle.wt_promise.proofs.Theorems.{cut_theorem}
use Rattle.wt_promise.proofs.pieces_may_be_cut.Goals as goal

pub returns : goal.returns
returns c = record { cut = cut_theorem }
