use Rattle.wt_promise.proofs.Unstirred.{unstirred}
use Rattle.wt_promise.proofs.sides.calls_wait_on_under_the_transport.Goals as goal

pub returns : goal.returns
returns c = record { alike = unstirred }
