use Rattle.wt_promise.proofs.Facts.{fault_is_first}
use Rattle.wt_promise.proofs.found.a_fault_is_the_first_of_its_moment.Goals as goal

pub returns : goal.returns
returns c = record { first = fault_is_first }
