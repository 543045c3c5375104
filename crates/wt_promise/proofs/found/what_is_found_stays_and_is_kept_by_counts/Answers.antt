use Rattle.wt_promise.proofs.EachFound.{found_rightly}
use Rattle.wt_promise.proofs.InRipeOrder.{classified_in_order}
use Rattle.wt_promise.proofs.found.what_is_found_stays_and_is_kept_by_counts.Goals as goal

pub returns : goal.returns
returns c = record { each = found_rightly; order = classified_in_order }
