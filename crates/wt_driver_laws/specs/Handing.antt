-- What a handshake asks of a driver: a request that is queued, a stream for one, what goes out on it, the session's beginning, a rejection's end.
use Rattle.std.specs.Prelude.{[], ◌&&◌, ◌++◌, ◌||◌, ◌≡◌, ◌∷◌, Bool, Err, List, None, Ok, Option, Result, Some, drop, false, if◌then◌else◌, is_some, length, not, true, ℕ}
use Rattle.wt_driver_laws.specs.Calling.{log_record}
use Rattle.wt_driver_laws.specs.Driving.{Follows}
use Rattle.wt_kept.specs.Kept.{DriverNow}
use Rattle.wt_driver_laws.specs.Ends.{connection_end}
use Rattle.wt_driver_laws.specs.Giving.{GivesNothing}
use Rattle.wt_proto.specs.ResponseWalk.{response_walk_of}
use Rattle.wt_proto.specs.declared.response_walk.ResponseWalk.TheVariants as responses
use Rattle.wt_turn.specs.Joined.{send_of}
use Rattle.wt_turn.specs.Outgoing.{actions_to_open, bytes_within_credit, may_open, next_id}
use Rattle.wt_turn.specs.Reports.{end_of, stop_of}
use Rattle.wt_turn.specs.Sent.{is_finished, is_reset}
use Rattle.wt_turn.specs.Streams.{can_send, contents, local_bi}
use Rattle.wt_sessions.specs.Driver.{call_view, dispatched, ending_actions, stream_table}
use Rattle.wt_sessions.specs.Effect.{is_covered, log_call}
use Rattle.wt_sessions.specs.Halves.{is_done}
use Rattle.wt_sessions.specs.Handshake.{HandshakeState, Connecting, Requested, Responding, handshake_state, request_end, request_fields_of, requested_stream}
use Rattle.wt_sessions.specs.StreamTable.{Classified, verdict_of, was_established}
use Rattle.wt_turn.specs.Log.{Log, RequestDelivered, SessionEstablished, actions_of, calls_of, events_of, is_open, with_actions}
use Rattle.wt_turn.specs.declared.action.Action.{Action}
use Rattle.wt_turn.specs.declared.action.Action.TheVariants as actions
use Rattle.wt_turn.specs.declared.driver_error.DriverError.{DriverError}
use Rattle.wt_turn.specs.declared.driver_error.DriverError.TheVariants as errors
use Rattle.wt_turn.specs.declared.poll.Poll.{Poll}
use Rattle.wt_turn.specs.declared.poll.Poll.TheVariants.{Pending, Ready}
use Rattle.wt_turn.specs.declared.proto_error.ProtoWriteError.{ProtoWriteError}
use Rattle.wt_turn.specs.declared.proto_error.ProtoWriteError.TheVariants as writes
use Rattle.wt_seam.specs.Typed.{StreamPair, Typed, both}
use Rattle.wt_seam.specs.Writing.{nothing_begun}
use Rattle.wt_seam.specs.declared.stream.Session.{Session}
use Rattle.wt_wire.specs.HeaderList.{Fields}
use Rattle.wt_wire.specs.declared.side.Side.{Side}

-- ---- a server's request

-- the stream of a request with these fields, on which nothing was written
pub record IsRequestStream (stream : Typed StreamPair Session) (id : ℕ) (fields : Fields) : Type 0 where
  pub halves : stream.halves ≡ both id
  pub session : stream.stage.session ≡ id
  pub request : stream.stage.request ≡ fields
  pub writing : stream.stage.writing ≡ nothing_begun

-- nothing was written on the stream, and its session has its id
pub record IsFresh (stream : Typed StreamPair Session) : Type 0 where
  pub session : stream.stage.session ≡ stream.halves.0.id
  pub writing : stream.stage.writing ≡ nothing_begun

-- the first queued request is given, on its stream
pub record GivesRequest (side : Side) (log : Log) (collected : ℕ) (later : DriverNow) (stream : Typed StreamPair Session) : Type 0 where
  pub first : Classified
  pub more : List Classified
  pub queued : (dispatched side log).requests ≡ first ∷ more
  pub is : IsRequestStream stream first.id (request_fields_of first.verdict)
  pub follows : Follows side later (log_call side log [] (RequestDelivered first.id)) collected

-- none is queued
pub record HasNoRequest (side : Side) (log : Log) (d later : DriverNow) (said : Option DriverError) : Type 0 where
  pub none : (dispatched side log).requests ≡ []
  pub nothing : GivesNothing d later (connection_end side log) said

-- a call for a request, by its answer
abbrev pub Delivers : Side → Log → ℕ → DriverNow → DriverNow → Poll (Result (Typed StreamPair Session) DriverError) → Type 0
Delivers side log collected d later (Ready (Ok stream)) = GivesRequest side log collected later stream
Delivers side log collected d later (Ready (Err e)) = HasNoRequest side log d later (Some e)
Delivers side log collected d later Pending = HasNoRequest side log d later None

-- ---- what goes out on a session's stream

-- the stream is there, and while the connection is open its sending half neither was finished nor reset
pub record MayWrite (side : Side) (log : Log) (id : ℕ) : Type 0 where
  pub can : can_send side log id ≡ true
  pub finished : is_open log ≡ true → is_finished (actions_of log) id ≡ false
  pub reset : is_open log ≡ true → is_reset log id ≡ false

-- nothing hinders a write
abbrev pub writes_on : Log → ℕ → Bool
writes_on log id = is_open log && not (is_some (stop_of (events_of log) id))

-- what a write of the bytes that are left answers
abbrev pub write_answer : Log → ℕ → List ℕ → Poll (Result (Unit {0}) ProtoWriteError)
write_answer log id left =
    if not (is_open log) then Ready (Err writes.NotConnected) else
    (if is_some (stop_of (events_of log) id) then Ready (Err writes.Stopped) else (if is_covered log id left then Ready (Ok tt) else Pending))

-- what it sends
abbrev pub write_actions : Log → ℕ → List ℕ → List Action
write_actions log id left = if writes_on log id then send_of id (bytes_within_credit log id left) else []

-- what is left then, where not all went out
abbrev pub write_leaves : Log → ℕ → List ℕ → List ℕ
write_leaves log id left = if writes_on log id then drop (length (bytes_within_credit log id left)) left else left

-- a write of what is left of a frame
pub record Writes (side : Side) (log : Log) (collected id : ℕ) (left after : List ℕ) (later : DriverNow) (answer : Poll (Result (Unit {0}) ProtoWriteError)) : Type 0 where
  pub says : answer ≡ write_answer log id left
  pub rest : answer ≡ Pending → after ≡ write_leaves log id left
  pub follows : Follows side later (with_actions (write_actions log id left) log) collected

-- a finish goes out once, where nothing hinders it
abbrev pub finish_actions : Log → ℕ → List Action
finish_actions log id =
    if writes_on log id && not (is_finished (actions_of log) id) && not (is_reset log id) then actions.Finish id ∷ [] else []

-- whether nothing is to be waited for any more: the peer stopped it, it was reset, all was acknowledged, or the connection ended
abbrev pub is_through : Log → ℕ → Bool
is_through log id = is_some (stop_of (events_of log) id) || (is_done log id || not (is_open log))

-- the end of the stream's sending half
pub record Finishes (side : Side) (log : Log) (collected id : ℕ) (later : DriverNow) (answer : Poll (Unit {0})) : Type 0 where
  pub says : answer ≡ (if is_through log id then Ready tt else Pending)
  pub follows : Follows side later (with_actions (finish_actions log id) log) collected

-- ---- a client's request

-- the client's first bidirectional stream is opened for the request
pub record OpensRequest (side : Side) (log : Log) (collected : ℕ) (later : DriverNow) (request : Fields) (stream : Typed StreamPair Session) : Type 0 where
  pub is_open : is_open log ≡ true
  pub may : may_open side log (local_bi side) ≡ true
  pub is : IsRequestStream stream (next_id side log (local_bi side)) request
  pub follows : Follows side later (with_actions (actions_to_open side log (local_bi side)) log) collected

-- none may be opened yet
pub record WaitsToOpen (side : Side) (log : Log) (d later : DriverNow) : Type 0 where
  pub is_open : is_open log ≡ true
  pub may : may_open side log (local_bi side) ≡ false
  pub same : later ≡ d

-- the connection isn't open
pub record HasEnded (log : Log) (d later : DriverNow) (e : DriverError) : Type 0 where
  pub is_open : is_open log ≡ false
  pub says : e ≡ errors.NotConnected
  pub same : later ≡ d

-- a connect goes on
pub record IsDialling (log : Log) : Type 0 where
  pub reserved : Option (List ℕ)
  pub head : List ℕ
  pub state : handshake_state (calls_of log) ≡ Connecting reserved head

-- ---- a session begins

-- the session may begin, its part of its stream begins at the offset, and this end may send on it: a server's was asked for, and
-- neither began nor was rejected; a client's is its first, and the response came
abbrev pub MayBegin : Bool → Side → Log → ℕ → ℕ → Type 0
MayBegin false side log id offset =
    ((call_view log).delivered id ≡ true) × (was_established (call_view log) id ≡ false) × ((call_view log).ended id ≡ false)
    × (offset ≡ request_end (verdict_of id (stream_table side log).classified)) × MayWrite side log id
MayBegin true side log id offset =
    (id ≡ local_bi side) × ((call_view log).sessions ≡ []) × ((fields : Fields) × (response_walk_of (contents log id) (end_of (events_of log) id) ≡ responses.Response fields offset))
    × MayWrite side log id

-- ---- the end of a rejection

-- what goes out where a request's rejection is over: the ends of the streams that were for its session, then a close with this code
abbrev pub rejecting_actions : Side → Log → ℕ → Option ℕ → List Action
rejecting_actions side log id None = if is_open log then ending_actions side log id else []
rejecting_actions side log id (Some code) = if is_open log then ending_actions side log id ++ actions.Close code [] ∷ [] else []

-- a request was given and isn't answered whole
abbrev pub is_at_hand : HandshakeState → Bool
is_at_hand (Requested id) = true
is_at_hand (Responding accepts head) = true
is_at_hand _ = false

-- the request of this stream is at hand
pub record IsAnswering (log : Log) (id : ℕ) : Type 0 where
  pub state : is_at_hand (handshake_state (calls_of log)) ≡ true
  pub requested : requested_stream (calls_of log) ≡ id

-- the session lives from now on, and what came on its stream is read
pub record BeginsSession (side : Side) (log : Log) (collected id offset : ℕ) (later : DriverNow) : Type 0 where
  pub is_open : is_open log ≡ true
  pub follows : Follows side later (log_record side log [] (SessionEstablished id offset)) collected

-- a session's beginning, by its answer
abbrev pub Begins : Side → Log → ℕ → ℕ → ℕ → DriverNow → DriverNow → Result (Unit {0}) DriverError → Type 0
Begins side log collected id offset d later (Ok u) = BeginsSession side log collected id offset later
Begins side log collected id offset d later (Err e) = (is_open log ≡ false) × (later ≡ d)
