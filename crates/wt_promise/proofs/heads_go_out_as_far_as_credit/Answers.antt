use Rattle.wt_promise.proofs.Theorems.{heads_theorem}
use Rattle.wt_promise.proofs.heads_go_out_as_far_as_credit.Goals as goal

pub returns : goal.returns
returns c = record { heads = heads_theorem }
