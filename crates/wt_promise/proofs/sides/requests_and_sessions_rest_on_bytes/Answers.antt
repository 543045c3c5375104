use Rattle.wt_promise.proofs.Given.{request_came, session_came}
use Rattle.wt_promise.proofs.sides.requests_and_sessions_rest_on_bytes.Goals as goal

pub returns : goal.returns
returns c = record { request = request_came; session = session_came }
