-- The handshake of both sides up to the established session (RFC 9220, section 3; RFC 9114, section 4.4;
-- draft-ietf-webtrans-http3, section 3). The order of a connect's steps is this repository's rule.
use Rattle.std.specs.Prelude.{[], ◌&&◌, ◌++◌, ◌==◌, ◌||◌, ◌∷◌, Bool, List, None, Option, Some, codes, false, if◌then◌else◌, is_some, not, true, ℕ}
use Rattle.wt_meaning.specs.Handshakes.{is_nothing}
use Rattle.wt_message.specs.FixedBytes.{headers_frame_bytes}
use Rattle.wt_proto.specs.ResponseWalk.{response_walk_of}
use Rattle.wt_message.specs.Responses.{status_of}
use Rattle.wt_proto.specs.declared.response_walk.ResponseWalk.{ResponseWalk}
use Rattle.wt_proto.specs.declared.verdict.Verdict.{Verdict}
use Rattle.wt_turn.specs.Joined.{send_of}
use Rattle.wt_turn.specs.Outgoing.{bytes_within_credit, may_open, actions_to_open}
use Rattle.wt_turn.specs.Reports.{end_of, is_acknowledged, is_connected, stop_of}
use Rattle.wt_turn.specs.Sent.{is_finished}
use Rattle.wt_turn.specs.Streams.{contents, local_bi, local_count}
use Rattle.wt_turn.specs.Log.{AcceptanceFailed, CallRecord, ConnectStarted, HandshakeOver, Log, Polled, RequestDelivered, RequestRejected, ResponseStarted, SessionEstablished, actions_of, calls_of, events_of, is_open}
use Rattle.wt_turn.specs.declared.action.Action.{Action}
use Rattle.wt_turn.specs.declared.connecting_error.ConnectingError.{ConnectingError}
use Rattle.wt_turn.specs.declared.connection_error.ConnectionError.{ConnectionError}
use Rattle.wt_turn.specs.declared.reply.Reply.{Reply}
use Rattle.wt_wire.specs.Codes.{code_of}
use Rattle.wt_wire.specs.HeaderList.{Fields, with_field}
use Rattle.wt_wire.specs.Status.{is_successful}
use Rattle.wt_wire.specs.declared.side.Side.{Side}
use Rattle.wt_sessions.specs.Driver.{dispatched, ending_actions, has_no_session, settings_came, stream_table}
use Rattle.wt_sessions.specs.Effect.{Effect, close_when_open, driver_error, head_left, is_covered, log_call, poll_only, poll_sending, reply_with, transport_error}
use Rattle.wt_sessions.specs.StreamTable.{Classified, verdict_of}
use Rattle.wt_turn.specs.declared.action.Action.TheVariants as actions
use Rattle.wt_turn.specs.declared.connecting_error.ConnectingError.TheVariants as connects
use Rattle.wt_turn.specs.declared.connection_error.ConnectionError.TheVariants as errors
use Rattle.wt_wire.specs.declared.error.ErrorCode.TheVariants as h3
use Rattle.wt_turn.specs.declared.reply.Reply.TheVariants as replies
use Rattle.wt_proto.specs.declared.response_walk.ResponseWalk.TheVariants as responses
use Rattle.wt_proto.specs.declared.verdict.Verdict.TheVariants as verdicts

-- ---- where the handshake is

-- how far the handshake is
pub data HandshakeState : Type 0 where
  AwaitingRequest : HandshakeState  -- it didn't begin
  Requested : (id : ℕ) → HandshakeState  -- the request of this stream was delivered
  Responding : (accepts : Bool) (head : List ℕ) → HandshakeState  -- a response with this head goes out
  Connecting : (reserved : Option (List ℕ)) (head : List ℕ) → HandshakeState  -- a connect dialled
  Answered : HandshakeState  -- the request was accepted or rejected, or its acceptance failed; or a connect led to a session
  Over : HandshakeState  -- a connect failed, or no request comes any more

-- the request that the call delivered
abbrev pub requested_by : CallRecord → Option ℕ
requested_by (RequestDelivered id) = Some id
requested_by _ = None

-- the stream of the request that was delivered last
abbrev pub requested_stream : List CallRecord → ℕ
requested_stream [] = 0
requested_stream (r ∷ earlier) = elim (requested_by r) [ Some id ↦ id | None ↦ requested_stream earlier ]

-- the state that a call's record leads to, where it is one of the handshake; it asks which request was delivered last, since
-- the end of an earlier request's session has the record of a rejection
abbrev pub after_record : ℕ → CallRecord → Option HandshakeState
after_record requested (RequestDelivered id) = Some (Requested id)
after_record requested (ResponseStarted accepts head) = Some (Responding accepts head)
after_record requested (ConnectStarted reserved head) = Some (Connecting reserved head)
after_record requested (SessionEstablished id offset) = Some Answered
after_record requested (RequestRejected id) = if id == requested then Some Answered else None
after_record requested AcceptanceFailed = Some Answered
after_record requested HandshakeOver = Some Over
after_record requested _ = None

-- how far the handshake is, by its newest record
abbrev pub handshake_state : List CallRecord → HandshakeState
handshake_state [] = AwaitingRequest
handshake_state (r ∷ earlier) = elim (after_record (requested_stream earlier) r) [ Some s ↦ s | None ↦ handshake_state earlier ]

-- the handshake is over, with no session
abbrev pub fail_handshake : Side → Log → List Action → Reply → Effect
fail_handshake side log own reply = reply_with (log_call side log own HandshakeOver) reply

-- the session is established; its part of the stream begins at this offset
abbrev pub establish : Side → Log → List Action → ℕ → ℕ → Effect
establish side log own id offset = reply_with (log_call side log own (SessionEstablished id offset)) (replies.Session id)

-- ---- a server's request

-- the fields of a request
abbrev pub request_fields_of : Verdict → Fields
request_fields_of (verdicts.Request headers offset) = headers
request_fields_of _ = []

-- the offset after a request
abbrev pub request_end : Option Verdict → ℕ
request_end (Some (verdicts.Request headers offset)) = offset
request_end _ = 0

-- the first queued request is delivered; without one the call waits, or fails once the connection has ended
abbrev pub deliver : Side → Log → List Classified → Effect
deliver side log (c ∷ later) = reply_with (log_call side log [] (RequestDelivered c.id)) (replies.Request c.id (request_fields_of c.verdict))
deliver side log [] = if is_open log then poll_only side log replies.Pending else fail_handshake side log [] (replies.Failed (driver_error side log))

-- the queued requests that weren't delivered, none of which counts before the peer's SETTINGS came
abbrev pub queued_requests : Side → Log → List Classified
queued_requests side log =
    if settings_came side log then (dispatched side log).requests else []

-- a server's call for a request
abbrev pub incoming : Side → Log → Effect
incoming side log = deliver side log (queued_requests side log)

-- ---- a server's response

-- the frame of a response with this status code; a `:status` among the headers is left out
abbrev pub response_head : List ℕ → Fields → List ℕ
response_head digits headers = headers_frame_bytes (with_field (codes ":status") digits headers)

-- the peer stopped the stream before all of its head was out
abbrev pub is_refused : Log → ℕ → List ℕ → Bool
is_refused log k left = is_some (stop_of (events_of log) k) && not (is_nothing left)

-- the acceptance fails
abbrev pub fail_acceptance : Side → Log → List Action → ConnectionError → Effect
fail_acceptance side log own e = reply_with (log_call side log own AcceptanceFailed) (replies.Failed e)

-- an acceptance: where the peer stopped the stream before, a fault ends the connection; once all of it is out, the session is established
abbrev pub accept_response : Side → Log → ℕ → List ℕ → CallRecord → Effect
accept_response side log id left waiting =
    if not (is_open log) then fail_acceptance side log [] (transport_error log) else
    (if is_refused log id left
    then fail_acceptance side log (close_when_open log (code_of h3.ClosedCriticalStream)) (errors.LocalH3Error h3.ClosedCriticalStream) else
    (if is_covered log id left
    then establish side log (send_of id left) id (request_end (verdict_of id (stream_table side log).classified))
    else reply_with (log_call side log (send_of id (bytes_within_credit log id left)) waiting) replies.Pending))

-- the rejection is over, and the session of its request is gone
abbrev pub end_rejection : Side → Log → ℕ → List Action → Effect
end_rejection side log id own = reply_with (log_call side log own (RequestRejected id)) replies.Rejected

-- the close of a connection on which no session lives
abbrev pub close_when_alone : Side → Log → List Action
close_when_alone side log = if has_no_session side log then close_when_open log 0 else []

-- a rejection whose response is out waits until the peer has it or doesn't want it
abbrev pub finish_rejection : Side → Log → ℕ → List ℕ → CallRecord → Effect
finish_rejection side log id left waiting =
    if not (is_finished (actions_of log) id) then reply_with (log_call side log (send_of id left ++ actions.Finish id ∷ []) waiting) replies.Pending else
    (if is_some (stop_of (events_of log) id) || is_acknowledged (events_of log) id
    then end_rejection side log id (ending_actions side log id ++ close_when_alone side log)
    else reply_with (log_call side log [] waiting) replies.Pending)

-- a rejection: its response goes out as far as credit goes, and then the stream is finished
abbrev pub reject_response : Side → Log → ℕ → List ℕ → CallRecord → Effect
reject_response side log id left waiting =
    if not (is_open log) then end_rejection side log id [] else
    (if is_refused log id left then end_rejection side log id (ending_actions side log id ++ close_when_open log (code_of h3.ClosedCriticalStream)) else
    (if is_covered log id left then finish_rejection side log id left waiting
    else reply_with (log_call side log (send_of id (bytes_within_credit log id left)) waiting) replies.Pending))

-- the response goes on; a call that leaves it unfinished leaves this record
abbrev pub respond : Side → Log → Bool → List ℕ → CallRecord → Effect
respond side log true head waiting = accept_response side log (requested_stream (calls_of log)) (head_left log (requested_stream (calls_of log)) head) waiting
respond side log false head waiting = reject_response side log (requested_stream (calls_of log)) (head_left log (requested_stream (calls_of log)) head) waiting

-- a response begins, and goes out as far as credit goes
abbrev pub start_response : Side → Log → Bool → List ℕ → Effect
start_response side log accepts head = respond side log accepts head (ResponseStarted accepts head)

-- ---- a client's connect, from its last step to its first

-- the connect fails
abbrev pub fail_connect : Side → Log → List Action → ConnectingError → Effect
fail_connect side log own e = fail_handshake side log own (replies.ConnectFailed e)

-- the connect fails, and the connection is closed where it is open
abbrev pub abandon : Side → Log → List Action → ConnectingError → Effect
abandon side log own e = fail_connect side log (own ++ close_when_open log 0) e

-- how a connect fails where the connection ended; while it is open, as if it was closed here
abbrev pub loss_to_connect : Log → ConnectingError
loss_to_connect log = connects.ConnectionError (transport_error log)

-- a status code from 200 to 299 establishes the session
abbrev pub has_success : Fields → Bool
has_success fields = elim (status_of fields) [ Some code ↦ is_successful code | None ↦ false ]

-- what the walk over the response leads to
abbrev pub read_response : Side → Log → ℕ → List Action → ResponseWalk → Effect
read_response side log id own (responses.Fault code) =
    fail_connect side log (own ++ close_when_open log (code_of code)) (connects.ConnectionError (errors.LocalH3Error code))
read_response side log id own responses.Ended = abandon side log own (loss_to_connect log)
read_response side log id own responses.Waiting =
    if is_open log then poll_sending side log own replies.Pending else fail_connect side log own (loss_to_connect log)
read_response side log id own (responses.Response fields offset) =
    if not (has_success fields) then abandon side log own connects.SessionRejected else
    (if is_open log then establish side log own id offset else fail_connect side log own (connects.ConnectionError (driver_error side log)))

-- the response is read as far as it came
abbrev pub await_response : Side → Log → ℕ → List Action → Effect
await_response side log id own = read_response side log id own (response_walk_of (contents log id) (end_of (events_of log) id))

-- the request goes out as far as credit goes; once it is out, its response is awaited
abbrev pub send_request : Side → Log → ℕ → List Action → List ℕ → Effect
send_request side log id own left =
    if is_nothing left then await_response side log id own else
    (if not (is_open log) then fail_connect side log own (loss_to_connect log) else
    (if is_some (stop_of (events_of log) id) then abandon side log own connects.SessionRejected else
    (if is_covered log id left then await_response side log id (own ++ send_of id left)
    else poll_sending side log (own ++ send_of id (bytes_within_credit log id left)) replies.Pending)))

-- the request goes out on the client's first bidirectional stream, which is opened first
abbrev pub open_request : Side → Log → List ℕ → Effect
open_request side log head =
    if not (local_count (actions_of log) (local_bi side) == 0) then send_request side log (local_bi side) [] (head_left log (local_bi side) head) else
    (if not (is_open log) then fail_connect side log [] (loss_to_connect log) else
    (if may_open side log (local_bi side) then send_request side log (local_bi side) (actions_to_open side log (local_bi side)) (head_left log (local_bi side) head)
    else poll_only side log replies.Pending))

-- a header that only the session layer sets fails the connect
abbrev pub unless_reserved : Side → Log → Option (List ℕ) → List ℕ → Effect
unless_reserved side log (Some name) head = abandon side log [] (connects.ReservedHeader name)
unless_reserved side log None head = open_request side log head

-- a step of the connect waits while the connection is open, and fails with it
abbrev pub await_or_fail : Side → Log → ConnectionError → Effect
await_or_fail side log e = if is_open log then poll_only side log replies.Pending else fail_connect side log [] (connects.ConnectionError e)

-- the connection, then the peer's SETTINGS, then the request and its response
abbrev pub continue_connect : Side → Log → Option (List ℕ) → List ℕ → Effect
continue_connect side log reserved head =
    if not (is_connected (events_of log)) then await_or_fail side log (transport_error log) else
    (if settings_came side log then unless_reserved side log reserved head else await_or_fail side log (driver_error side log))

-- ---- a handshake goes on with what it is at

-- a poll of the handshake in this state
abbrev pub continue_by : HandshakeState → Side → Log → Effect
continue_by (Responding accepts head) side log = respond side log accepts head Polled
continue_by (Connecting reserved head) side log = continue_connect side log reserved head
continue_by _ side log = poll_only side log replies.Pending

-- a poll of the handshake
abbrev pub continue_handshake : Side → Log → Effect
continue_handshake side log = continue_by (handshake_state (calls_of log)) side log

-- a response or a connect goes on
abbrev pub is_continuable : HandshakeState → Bool
is_continuable (Responding accepts head) = true
is_continuable (Connecting reserved head) = true
is_continuable _ = false

-- no request was delivered yet, or each that was delivered is answered
abbrev pub awaits_request : HandshakeState → Bool
awaits_request AwaitingRequest = true
awaits_request Answered = true
awaits_request _ = false

-- a request was delivered and isn't answered
abbrev pub awaits_answer : HandshakeState → Bool
awaits_answer (Requested id) = true
awaits_answer _ = false
