use Rattle.wt_promise.proofs.Clauses.{opened_next, opened_own}
use Rattle.wt_promise.proofs.OpensFirst.{opens_first}
use Rattle.wt_promise.proofs.StopsFirst.{stops_first}
use Rattle.wt_promise.proofs.sides.streams_are_opened_in_order.Goals as goal

pub returns : goal.returns
returns c = record { next = opened_next; own = opened_own; first = opens_first; stops = stops_first }
