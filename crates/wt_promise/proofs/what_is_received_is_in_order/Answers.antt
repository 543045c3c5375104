use Rattle.wt_promise.proofs.Theorems.{datagrams_theorem, reads_theorem}
use Rattle.wt_promise.proofs.what_is_received_is_in_order.Goals as goal

pub returns : goal.returns
returns c = record { reads = reads_theorem; datagrams = datagrams_theorem }
