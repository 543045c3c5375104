use Rattle.wt_promise.proofs.Waited.{still_waits}
use Rattle.wt_promise.proofs.sides.calls_on_a_stream_wait_on.Goals as goal

pub returns : goal.returns
returns c = record { waits = still_waits }
