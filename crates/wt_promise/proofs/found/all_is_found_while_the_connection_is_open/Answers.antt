use Rattle.wt_promise.proofs.AllFound.{all_found}
use Rattle.wt_promise.proofs.found.all_is_found_while_the_connection_is_open.Goals as goal

pub returns : goal.returns
returns c = record { all = all_found }
