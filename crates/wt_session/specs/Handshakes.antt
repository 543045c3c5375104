-- The values of a handshake, and when the application has them.
use Rattle.std.specs.Prelude.{[], ◌++◌, ◌==◌, ◌∷◌, ◌≡◌, Bool, List, None, Ok, Err, Option, Result, Some, codes, false, if◌then◌else◌, true, ℕ}
use Rattle.wt_meaning.specs.Handshakes.{is_nothing}
use Rattle.wt_meaning.specs.Lawful.{is_client}
use Rattle.wt_message.specs.FixedBytes.{response_bytes}
use Rattle.wt_driver_laws.specs.Calling.{Did, Within, log_record}
use Rattle.wt_driver_laws.specs.Driving.{Follows, IsReachable}
use Rattle.wt_kept.specs.Kept.{DriverNow}
use Rattle.wt_driver_laws.specs.Handing.{BeginsSession, finish_actions, is_at_hand, is_through, write_actions, write_answer}
use Rattle.wt_driver_laws.specs.LogLaws.{RequestLaws}
use Rattle.wt_driver_laws.specs.Records.{is_unnoticed}
use Rattle.wt_session.specs.Replies.{Request, accepting_reply, rejecting_reply}
use Rattle.wt_turn.specs.Joined.{send_of}
use Rattle.wt_turn.specs.Sent.{is_finished}
use Rattle.wt_turn.specs.Streams.{local_bi, local_count}
use Rattle.wt_sessions.specs.Effect.{head_left, log_call}
use Rattle.wt_sessions.specs.Handshake.{Connecting, Requested, Responding, accept_response, handshake_state, queued_requests, reject_response, request_fields_of, requested_stream, response_head}
use Rattle.wt_sessions.specs.StreamTable.{Classified}
use Rattle.wt_turn.specs.Log.{CallRecord, Called, Log, Polled, RequestDelivered, actions_of, calls_of, is_open, with_actions}
use Rattle.wt_turn.specs.declared.action.Action.{Action}
use Rattle.wt_turn.specs.declared.action.Action.TheVariants as actions
use Rattle.wt_turn.specs.declared.call.Call.{Call}
use Rattle.wt_turn.specs.declared.call.Call.TheVariants as calls
use Rattle.wt_turn.specs.declared.connection_error.ConnectionError.{ConnectionError}
use Rattle.wt_turn.specs.declared.poll.Poll.{Poll}
use Rattle.wt_turn.specs.declared.poll.Poll.TheVariants.{Pending, Ready}
use Rattle.wt_turn.specs.declared.proto_error.ProtoWriteError.{ProtoWriteError}
use Rattle.wt_wire.specs.declared.side.Side.{Side}

-- ---- a server's request

-- the application has this request, which isn't answered
pub record HasRequest (id : ℕ) (side : Side) (log : Log) : Type 0 where
  pub state : handshake_state (calls_of log) ≡ Requested id
  pub requested : requested_stream (calls_of log) ≡ id

-- the first queued request is given
pub record GivesQueued (side : Side) (log : Log) (collected : ℕ) (later : DriverNow) (r : Request) : Type 0 where
  pub first : Classified
  pub more : List Classified
  pub queued : queued_requests side log ≡ first ∷ more
  pub is : r ≡ record { id = first.id; fields = request_fields_of first.verdict }
  pub follows : Follows side later (log_call side log [] (RequestDelivered first.id)) collected

-- a request is given, or none is queued and nothing changes
abbrev pub Queued : Side → Log → ℕ → DriverNow → DriverNow → Option Request → Type 0
Queued side log collected d later (Some r) = GivesQueued side log collected later r
Queued side log collected d later None = (queued_requests side log ≡ []) × (later ≡ d)

-- ---- its response

-- a response: the stream of its request, its frame, and what of that isn't out
pub record Response : Type 0 where
  pub id : ℕ
  pub head : List ℕ
  pub left : List ℕ

-- a response of which nothing is out
abbrev pub new_response : ℕ → List ℕ → Response
new_response id head = record { id = id; head = head; left = head }

-- the response goes on
pub record IsResponding (accepts : Bool) (r : Response) (log : Log) : Type 0 where
  pub state : handshake_state (calls_of log) ≡ Responding accepts r.head
  pub requested : requested_stream (calls_of log) ≡ r.id
  pub left : head_left log r.id r.head ≡ r.left

-- the application has this acceptance, whose next poll is this call: its first answers the request, each later one goes on
abbrev pub HasAcceptance : Response → Call → Side → Log → Type 0
HasAcceptance r (calls.Accept headers) side log = HasRequest r.id side log × (r.head ≡ response_head (codes "200") headers) × (r.left ≡ r.head)
HasAcceptance r calls.Handshake side log = IsResponding true r log × (is_nothing r.left ≡ false)
HasAcceptance r _ side log = ⊥

-- the session's beginning, by its answer: it begins with its part of its stream at this offset, or the connection isn't open
abbrev pub IsBegun : Side → Log → ℕ → ℕ → ℕ → DriverNow → Poll (Result ℕ ConnectionError) → Type 0
IsBegun side log collected id offset later (Ready (Ok s)) = (s ≡ id) × BeginsSession side log collected id offset later
IsBegun side log collected id offset later (Ready (Err e)) = is_open log ≡ false
IsBegun side log collected id offset later Pending = ⊥

-- after a write of what is left of a response, whose call leaves this record while the response isn't through
abbrev pub GoesOn : DriverNow → DriverNow → ℕ → Poll (Result (Unit {0}) ProtoWriteError) → Poll (Result ℕ ConnectionError) → Type 0
GoesOn d later id written answer = (side : Side) (log : Log) (collected : ℕ) (left : List ℕ) (waiting : CallRecord) → Follows side d (with_actions (write_actions log id left) log) collected
    → IsReachable side log → is_client side ≡ false → RequestLaws side log id → is_finished (actions_of log) id ≡ false → is_unnoticed waiting ≡ true → is_nothing left ≡ false
    → written ≡ write_answer log id left → Did side later collected (accepting_reply answer) (accept_response side log id left waiting)

-- a rejection: its response, and whether all of that is out
pub record Rejection : Type 0 where
  pub response : Response
  pub is_sent : Bool

-- a rejection of which nothing is out
abbrev pub new_rejection : ℕ → List ℕ → Rejection
new_rejection id head = record { response = new_response id head; is_sent = false }

-- the request is rejected by this response, nothing of which is out
abbrev pub IsNewRejection : Rejection → List ℕ → Side → Log → Type 0
IsNewRejection r head side log = HasRequest r.response.id side log × (r.response.head ≡ head) × (r.response.left ≡ r.response.head) × (r.is_sent ≡ false)

-- the rejection goes on; once all of its response is out the stream is finished
pub record IsRejecting (r : Rejection) (log : Log) : Type 0 where
  pub state : handshake_state (calls_of log) ≡ Responding false r.response.head
  pub requested : requested_stream (calls_of log) ≡ r.response.id
  pub finished : is_finished (actions_of log) r.response.id ≡ r.is_sent
  pub left : r.is_sent ≡ false → head_left log r.response.id r.response.head ≡ r.response.left
  pub waits : r.is_sent ≡ false → is_nothing r.response.left ≡ false
  pub out : r.is_sent ≡ true → head_left log r.response.id r.response.head ≡ []

-- all of what was left is out
abbrev pub is_all_out : Poll (Result (Unit {0}) ProtoWriteError) → Bool
is_all_out (Ready (Ok u)) = true
is_all_out _ = false

-- the driver follows the log after records that it needn't be told, too
abbrev pub IsAtRest : DriverNow → Type 0
IsAtRest d = (r : CallRecord) → is_unnoticed r ≡ true → Within d (λ side log collected. Follows side d (log_record side log [] r) collected)

-- after a write of what is left of a rejection's response, whose call leaves this record while the rejection isn't over
abbrev pub RejectionGoesOn : DriverNow → DriverNow → ℕ → Poll (Result (Unit {0}) ProtoWriteError) → Poll (Unit {0}) → Type 0
RejectionGoesOn d later id written answer = (side : Side) (log : Log) (collected : ℕ) (left : List ℕ) (waiting : CallRecord) → Follows side d (with_actions (write_actions log id left) log) collected
    → IsReachable side log → is_at_hand (handshake_state (calls_of log)) ≡ true → requested_stream (calls_of log) ≡ id → RequestLaws side log id → is_finished (actions_of log) id ≡ false
    → is_unnoticed waiting ≡ true → is_nothing left ≡ false → written ≡ write_answer log id left
    → Did side later collected (rejecting_reply answer) (reject_response side log id left waiting)

-- what goes out at a poll of a rejection whose response isn't out, where the rejection goes on: the write, and the finish behind the last of it
abbrev pub rejected_actions : Poll (Result (Unit {0}) ProtoWriteError) → Log → ℕ → List ℕ → List Action
rejected_actions written log id left = if is_all_out written then send_of id left ++ actions.Finish id ∷ [] else write_actions log id left

-- the poll leaves this, and its record
abbrev pub RejectionStays : DriverNow → ℕ → Poll (Result (Unit {0}) ProtoWriteError) → Type 0
RejectionStays d id written = (side : Side) (log : Log) (collected : ℕ) (left : List ℕ) (waiting : CallRecord) → Follows side d (with_actions (write_actions log id left) log) collected
    → IsReachable side log → RequestLaws side log id → is_finished (actions_of log) id ≡ false → is_unnoticed waiting ≡ true → is_nothing left ≡ false → written ≡ write_answer log id left
    → Called waiting ∷ with_actions (rejected_actions written log id left) log ≡ (reject_response side log id left waiting).log

-- after the finish of a stream on which all of the response is out
abbrev pub RejectionEnds : DriverNow → DriverNow → ℕ → Poll (Unit {0}) → Poll (Unit {0}) → Type 0
RejectionEnds d later id through answer = (side : Side) (log : Log) (collected : ℕ) → Follows side d (with_actions (finish_actions log id) log) collected
    → IsReachable side log → is_at_hand (handshake_state (calls_of log)) ≡ true → requested_stream (calls_of log) ≡ id → RequestLaws side log id → is_finished (actions_of log) id ≡ true
    → through ≡ (if is_through log id then Ready tt else Pending) → Did side later collected (rejecting_reply answer) (reject_response side log id [] Polled)

-- the application has this rejection, whose next poll is this call
abbrev pub HasRejection : Rejection → Call → Side → Log → Type 0
HasRejection r calls.Forbidden side log = IsNewRejection r (response_bytes (codes "403")) side log
HasRejection r calls.NotFound side log = IsNewRejection r (response_bytes (codes "404")) side log
HasRejection r calls.TooManyRequests side log = IsNewRejection r (response_bytes (codes "429")) side log
HasRejection r calls.Handshake side log = IsRejecting r log
HasRejection r _ side log = ⊥

-- ---- a client's connect

-- a connect: it fails for a name that only the session layer sets; or its request, whose stream isn't open; or that is open, and
-- this of the request isn't out
pub data Connect : Type 0 where
  Reserved : (name : List ℕ) → Connect
  Dialled : (head : List ℕ) → Connect
  Asking : (id : ℕ) (head left : List ℕ) (is_sent : Bool) → Connect

-- a request on its stream: its frame, what of that isn't out, and whether all of it is
pub record Asked : Type 0 where
  pub id : ℕ
  pub head : List ℕ
  pub left : List ℕ
  pub is_sent : Bool

-- the connect goes on
abbrev pub IsConnecting : Connect → Side → Log → Type 0
IsConnecting (Reserved name) side log = (head : List ℕ) × (handshake_state (calls_of log) ≡ Connecting (Some name) head)
IsConnecting (Dialled head) side log =
    (handshake_state (calls_of log) ≡ Connecting None head) × (local_count (actions_of log) (local_bi side) ≡ 0)
IsConnecting (Asking id head left is_sent) side log =
    (id ≡ local_bi side) × (handshake_state (calls_of log) ≡ Connecting None head) × ((local_count (actions_of log) (local_bi side) == 0) ≡ false)
    × (is_sent ≡ false → (head_left log id head ≡ left) × (is_nothing left ≡ false)) × (is_sent ≡ true → head_left log id head ≡ [])

-- the application has this connect
abbrev pub HasConnect : Connect → Side → Log → Type 0
HasConnect c side log = (is_client side ≡ true) × IsConnecting c side log
