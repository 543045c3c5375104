use Rattle.wt_promise.proofs.Facts.{classified_rightly}
use Rattle.wt_promise.proofs.found.streams_are_classified_by_their_bytes.Goals as goal

pub returns : goal.returns
returns c = record { classified = classified_rightly }
