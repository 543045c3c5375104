-- Turns of the transport and calls, on what is kept.
use Rattle.std.specs.Prelude.{[], ◌%◌, ◌++◌, ◌==◌, ◌∷◌, ◌&&◌, ◌||◌, Bool, List, None, Option, Some, false, if◌then◌else◌, is_some, length, nat_lt, not, true, ℕ}
use Rattle.std.specs.List.{list_any}
use Rattle.wt_kept.specs.Arriving.{none_arriving}
use Rattle.wt_kept.specs.Classifying.{with_dispatched, with_sessions}
use Rattle.wt_kept.specs.Ending.{finish_and_retire, forget_session, retire_now}
use Rattle.wt_kept.specs.Kept.{DispatchedNow, DriverNow, Ended, LiveNow, QueuedRequest, Refused, RequestsNow, SessionsNow, WorkNow}
use Rattle.wt_kept.specs.Moment.{moment_now, with_work}
use Rattle.wt_kept.specs.Pieces.{take_piece_now}
use Rattle.wt_kept.specs.Readers.{ReadOn, ResponseReading, Slot, read_on, response_rules}
use Rattle.wt_kept.specs.Windows.{empty_window, establish_now, is_gone_now, lives_now, with_live}
use Rattle.wt_transport.specs.State.{TransportState}
use Rattle.wt_transport.specs.Step.{after_close, after_turn, fits_now, nothing_connected}
use Rattle.wt_proto.specs.declared.response_walk.ResponseWalk.{ResponseWalk}
use Rattle.wt_turn.specs.Streams.{local_bi}
use Rattle.wt_turn.specs.declared.turn.Turn.{Turn}
use Rattle.wt_turn.specs.declared.turn.Turn.TheVariants as turns
use Rattle.wt_wire.specs.HeaderList.{Fields}
use Rattle.wt_wire.specs.declared.side.Side.{Side}
use Rattle.wt_wire.specs.declared.side.Side.TheVariants.{Client, Server}

-- ---- at first

-- nothing was reported yet
abbrev pub driver_at_first : Side → DriverNow
driver_at_first side = record {
  own_control = record { stream = None; sent = 0 };
  unis = none_arriving false;
  bis = none_arriving true;
  work = record {
    transport = nothing_connected side;
    dispatched = record {
      critical = record { control = None; encoder = None; decoder = None };
      requests = record { queued = []; held = [] };
      sessions = record { living = []; gone = []; early = empty_window };
      fault = None;
    };
  };
  datagrams = [];
  response = None;
  gave_settings = false;
}

-- ---- turns of the transport

-- the transport took it
abbrev pub with_turn : Turn → DriverNow → DriverNow
with_turn turn d = with_work (λ w. record w { transport = after_turn w.transport turn }) d

-- a datagram waits to be looked at
abbrev pub with_datagram_queued : Turn → DriverNow → DriverNow
with_datagram_queued (turns.Datagram piece) d = record d { datagrams = d.datagrams ++ piece ∷ [] }
with_datagram_queued turn d = d

-- a turn on an open connection
abbrev pub open_turn : Turn → DriverNow → DriverNow
open_turn (turns.Bytes id piece) d = take_piece_now id piece d
open_turn turn d = moment_now (with_datagram_queued turn (with_turn turn d))

-- after the end a turn decides what else may come, and nothing more
abbrev pub lawful_turn : Turn → DriverNow → DriverNow
lawful_turn turn d = if d.work.transport.is_open then open_turn turn d else with_turn turn d

-- a turn that may not come changes nothing
unfoldable pub turn_now : Turn → DriverNow → DriverNow
turn_now turn d = if fits_now d.work.transport turn then lawful_turn turn d else d

-- ---- a client's response

-- the client's request stream, and the reader of what comes on it, which begins at the first byte (RFC 9114, section 4.1)
abbrev pub response_slot : Side → Option (Slot ResponseReading) → Slot ResponseReading
response_slot side None = record { id = local_bi side; reader = response_rules.start }
response_slot side (Some x) = x

-- so much of it was read
abbrev pub response_read_so : ℕ → ReadOn ResponseReading → DriverNow → DriverNow
response_read_so id x d = record (with_work (λ w. record w { transport = x.transport }) d) { response = Some (record { id = id; reader = x.reader }) }

abbrev pub response_read_by : Slot ResponseReading → DriverNow → DriverNow
response_read_by x d = response_read_so x.id (read_on response_rules x.id x.reader d.work.transport) d

-- the response is read on as far as it came
unfoldable pub response_read : DriverNow → DriverNow
response_read d = response_read_by (response_slot d.work.transport.side d.response) d

-- what it says so far
abbrev pub response_said : DriverNow → ResponseWalk
response_said d = response_rules.outcome (response_slot d.work.transport.side d.response).reader

-- the part of its stream begins that is the session's: on a client behind the response, which is kept no more
abbrev pub response_over : Side → DriverNow → DriverNow
response_over Server d = d
response_over Client d = record (response_read d) { response = None }

-- ---- the life of sessions

-- no session lives and none is gone
abbrev pub has_no_session_now : SessionsNow → Bool
has_no_session_now d = (length d.living == 0) && (length d.gone == 0)

-- a further session may be registered: a server has up to 4, a client one
abbrev pub has_place : Side → SessionsNow → Bool
has_place Client d = has_no_session_now d
has_place Server d = nat_lt (length d.living) 4

abbrev pub may_register : ℕ → DriverNow → Bool
may_register s d =
    has_place d.work.transport.side d.work.dispatched.sessions && not (lives_now d.work.dispatched.sessions s)
    && not (is_gone_now d.work.dispatched.sessions s)

-- the sessions changed so
abbrev pub on_sessions : (SessionsNow → SessionsNow) → DriverNow → DriverNow
on_sessions f d = with_work (with_dispatched (λ x. with_sessions (f x.sessions) x)) d

-- the session lives from now on, and what came on its stream is read
unfoldable pub register_now : ℕ → DriverNow → DriverNow
register_now s d =
    if d.work.transport.is_open && may_register s d
    then moment_now (on_sessions (establish_now s) (response_over d.work.transport.side d)) else d

-- the application ends the session
unfoldable pub end_session_now : ℕ → DriverNow → DriverNow
end_session_now s d =
    if d.work.transport.is_open && lives_now d.work.dispatched.sessions s then with_work (finish_and_retire s Ended) d else d

-- the stream's request is held
abbrev pub is_held : RequestsNow → ℕ → Bool
is_held r k = list_any (λ (h : ℕ). h == k) r.held

-- the stream's request is queued
abbrev pub is_queued_now : RequestsNow → ℕ → Bool
is_queued_now r k = list_any (λ (q : QueuedRequest). q.id == k) r.queued

-- the stream's request is held, and was given
abbrev pub was_given_now : RequestsNow → ℕ → Bool
was_given_now r k = is_held r k && not (is_queued_now r k)

-- the session's request was given, and the session doesn't live
abbrev pub awaits_answer_now : ℕ → DispatchedNow → Bool
awaits_answer_now s d = was_given_now d.requests s && not (lives_now d.sessions s)

-- the next request by its session, where one is given, and those that are left
pub record RequestTaken : Type 0 where
  pub request : Option (ℕ × Fields)
  pub requests : RequestsNow

-- a request is given where its stream is a session's; on a client, whose peer opens no such stream, it stays queued (RFC 9220, section 3)
abbrev pub request_taken_if : Bool → QueuedRequest → List QueuedRequest → RequestsNow → RequestTaken
request_taken_if true q later r = record { request = Some (q.id, q.fields); requests = record r { queued = later } }
request_taken_if false q later r = record { request = None; requests = r }

abbrev pub take_request_of : List QueuedRequest → RequestsNow → RequestTaken
take_request_of [] r = record { request = None; requests = r }
take_request_of (q ∷ later) r = request_taken_if (q.id % 4 == 0) q later r

-- the next queued request is taken
abbrev pub take_request_now : RequestsNow → RequestTaken
take_request_now r = take_request_of r.queued r

-- the session becomes gone; after the connection's end no stream of it ends any more
abbrev pub refused_by : Bool → ℕ → WorkNow → WorkNow
refused_by true s w = retire_now s Refused w
refused_by false s w = with_dispatched (forget_session s Refused) w

-- the request for the session is rejected
unfoldable pub refuse_session_now : ℕ → DriverNow → DriverNow
refuse_session_now s d = if awaits_answer_now s d.work.dispatched then with_work (refused_by d.work.transport.is_open s) d else d

-- ---- the end

-- the application, the endpoint or a handshake closes the connection where it is open
unfoldable pub close_now : ℕ → List ℕ → DriverNow → DriverNow
close_now code reason d = record (with_work (λ w. record w { transport = after_close w.transport code reason }) d) { datagrams = [] }
