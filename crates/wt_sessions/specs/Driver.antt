-- What the driver knows after a log, and what it sends: its table by one recursion over the moments, and this end's
-- control stream, which opens first with SETTINGS as its first frame (RFC 9114, sections 3.2 and 6.2.1).
use Rattle.std.specs.Prelude.{[], ◌&&◌, ◌++◌, ◌==◌, ◌∷◌, Bool, List, None, Option, Some, drop, false, if◌then◌else◌, is_some, length, nat_lt, not, take, true, ℕ}
use Rattle.std.specs.List.{list_any}
use Rattle.std.specs.Option.{option_or}
use Rattle.wt_message.specs.FixedBytes.{local_control_bytes}
use Rattle.wt_meaning.specs.Sends.{action_if}
use Rattle.wt_turn.specs.Joined.{send_of}
use Rattle.wt_turn.specs.Reports.{credit, datagrams_of, end_of, if_same, is_connected, is_running, stop_of, unis_allowed}
use Rattle.wt_turn.specs.Sent.{is_finished, is_reset, sent_on}
use Rattle.wt_turn.specs.Streams.{can_receive, can_send, contents, local_count, local_uni, peer_bi, peer_count, peer_uni}
use Rattle.wt_turn.specs.Log.{CallRecord, DatagramReceived, Entry, Log, OpeningStarted, ReportedLate, RequestDelivered, RequestRejected, Sent, SessionEstablished, StreamAccepted, StreamGivenUp, actions_of, calls_of, events_of, is_open, with_actions}
use Rattle.wt_turn.specs.declared.action.Action.{Action}
use Rattle.wt_wire.specs.Codes.{code_of}
use Rattle.wt_wire.specs.declared.error.ErrorCode.{ErrorCode}
use Rattle.wt_wire.specs.declared.side.Side.{Side}
use Rattle.wt_sessions.specs.Scan.{scan_order}
use Rattle.wt_sessions.specs.StreamTable.{CallView, Dispatched, DriverProgress, Session, StreamTable, TransportView, dispatched_streams, gone_actions, is_gone, no_streams, was_established, with_id}
use Rattle.wt_turn.specs.declared.action.Action.TheVariants as actions

-- ---- what a moment looks at

-- this end's SETTINGS are out, or can go out whole: one unidirectional stream is allowed, with credit for all of them
abbrev pub settings_ready : Side → Log → Bool
settings_ready side log =
    is_connected (events_of log) && nat_lt 0 (unis_allowed (events_of log))
    && not (nat_lt (credit (events_of log) (local_uni side)) (length local_control_bytes))

-- the call gave up the receiving half of this stream
abbrev pub gives_up : ℕ → CallRecord → Bool
gives_up k (StreamGivenUp id) = id == k
gives_up k _ = false

-- the stream has a sending half that this end neither finished nor reset (RFC 9000, section 3.1)
abbrev pub still_sends : Side → Log → ℕ → Bool
still_sends side log k = can_send side log k && not (is_finished (actions_of log) k) && not (is_reset log k)

-- the stream has a receiving half that neither the peer ended nor the application gave up (RFC 9000, section 3.2)
abbrev pub still_receives : Side → Log → ℕ → Bool
still_receives side log k = can_receive side log k && is_running (end_of (events_of log) k) && not (list_any (gives_up k) (calls_of log))

-- what the transport reported up to the end of the log
abbrev pub transport_view : Side → Log → TransportView
transport_view side log = record {
  side = side;
  ready = settings_ready side log;
  unis = peer_count side (events_of log) (peer_uni side);
  bis = peer_count side (events_of log) (peer_bi side);
  contents = contents log;
  end = end_of (events_of log);
  is_stopped = λ k. is_some (stop_of (events_of log) k);
  still_sends = still_sends side log;
  still_receives = still_receives side log;
  datagrams = datagrams_of (events_of log);
  may_open = nat_lt 0 (unis_allowed (events_of log));
  credit = credit (events_of log) (local_uni side);
}

-- the call gave the stream: an accept, or the poll that ended its opening
abbrev pub accepts_stream : ℕ → CallRecord → Bool
accepts_stream k (StreamAccepted id session) = id == k
accepts_stream k _ = false

-- the call delivered the request of this stream
abbrev pub delivers : ℕ → CallRecord → Bool
delivers k (RequestDelivered id) = id == k
delivers k _ = false

-- the call received this datagram
abbrev pub receives : ℕ → CallRecord → Bool
receives n (DatagramReceived index) = index == n
receives n _ = false

-- the call made the session gone: the rejection of its request is over, or the application ended it (both have one record)
abbrev pub ends_session : ℕ → CallRecord → Bool
ends_session s (RequestRejected id) = id == s
ends_session s _ = false

-- the sessions with one more, by id
abbrev pub with_session : Session → List Session → List Session
with_session s [] = s ∷ []
with_session s (x ∷ xs) = if nat_lt s.id x.id then s ∷ x ∷ xs else x ∷ with_session s xs

-- the sessions with the one that the call established, if it did
abbrev pub sessions_after : CallRecord → List Session → List Session
sessions_after (SessionEstablished id offset) before = with_session (record { id = id; offset = offset }) before
sessions_after _ before = before

-- the sessions that were established, by id
abbrev pub sessions_of : List CallRecord → List Session
sessions_of [] = []
sessions_of (r ∷ earlier) = sessions_after r (sessions_of earlier)

-- the session that the call established
abbrev pub establishes : CallRecord → Option ℕ
establishes (SessionEstablished id offset) = Some id
establishes _ = None

-- the session that was established first
abbrev pub first_session : List CallRecord → Option ℕ
first_session [] = None
first_session (r ∷ earlier) = option_or (first_session earlier) (establishes r)

-- the stream of this session that the call accepted or began to open
abbrev pub member_by : ℕ → CallRecord → Option ℕ
member_by s (StreamAccepted id session) = if_same session s id
member_by s (OpeningStarted id session) = if_same session s id
member_by s _ = None

-- the ids with one more, where there is one
abbrev pub with_member : Option ℕ → List ℕ → List ℕ
with_member None ids = ids
with_member (Some k) ids = with_id k ids

-- the streams of this session that calls accepted or began to open, by id
abbrev pub members_of : List CallRecord → ℕ → List ℕ
members_of [] s = []
members_of (r ∷ earlier) s = with_member (member_by s r) (members_of earlier s)

-- what the calls did up to the end of the log
abbrev pub call_view : Log → CallView
call_view log = record {
  accepted = λ k. list_any (accepts_stream k) (calls_of log);
  received = λ n. list_any (receives n) (calls_of log);
  delivered = λ k. list_any (delivers k) (calls_of log);
  ended = λ s. list_any (ends_session s) (calls_of log);
  sessions = sessions_of (calls_of log);
  members = members_of (calls_of log);
}

-- ---- after each moment

-- the entry is a moment: it is no action, and no event after the end
abbrev pub is_moment : Entry → Bool
is_moment (Sent action) = false
is_moment (ReportedLate event) = false
is_moment _ = true

-- the step is taken where the test holds
abbrev pub apply_if : {S : Type 0} → Bool → (S → S) → S → S
apply_if true f s = f s
apply_if false f s = s

-- the table after the log: each moment of an open connection goes through the steps once
unfoldable pub stream_table : Side → Log → StreamTable
stream_table side [] = no_streams
stream_table side (e ∷ log) =
    apply_if (is_moment e && is_open (e ∷ log)) (scan_order (transport_view side (e ∷ log)) (call_view (e ∷ log))) (stream_table side log)

-- the peer's SETTINGS came
abbrev pub settings_came : Side → Log → Bool
settings_came side log = (stream_table side log).progress.settings

-- ---- what goes out at a moment

-- how far this end's control stream is
pub record ControlSent : Type 0 where
  pub opened : Bool
  pub sent : ℕ  -- how many bytes went out on it

-- how far this end's control stream is after the log
abbrev pub control_sent : Side → Log → ControlSent
control_sent side log = record {
  opened = not (local_count (actions_of log) (local_uni side) == 0);
  sent = length (sent_on (actions_of log) (local_uni side));
}

-- this end's first stream is its control stream; it opens as soon as it may, and sends as far as credit goes
abbrev pub control_actions : Bool → ℕ → ℕ → ControlSent → List Action
control_actions false id credit s = []
control_actions true id credit s = action_if (not s.opened) (actions.Opened id) ++ send_of id (drop s.sent (take credit local_control_bytes))

-- a fault closes the connection with its code
abbrev pub close_actions : Option ErrorCode → List Action
close_actions None = []
close_actions (Some code) = actions.Close (code_of code) [] ∷ []

-- what goes out after a moment, in its order
abbrev pub actions_after : TransportView → ControlSent → DriverProgress → List Action
actions_after t s p = control_actions t.may_open (local_uni t.side) t.credit s ++ p.actions ++ close_actions p.fault

-- what the driver sends at the moment that ends the log: its control stream, then what the moment's steps send, then the close
abbrev pub pending_actions : Side → Log → List Action
pending_actions side log = actions_after (transport_view side log) (control_sent side log) (stream_table side log).progress

-- the log with what the driver sends at its newest moment
unfoldable pub flush : Side → Log → Log
flush side [] = []
flush side (e ∷ log) = apply_if (is_moment e && is_open (e ∷ log)) (with_actions (pending_actions side (e ∷ log))) (e ∷ log)

-- the log with one entry more, and with what the driver sends then
abbrev pub log_and_flush : Side → Log → Entry → Log
log_and_flush side log e = flush side (e ∷ log)

-- ---- sessions

-- the session is gone
abbrev pub is_session_gone : Side → Log → ℕ → Bool
is_session_gone side log s = is_gone (call_view log) (stream_table side log) s

-- the session was established, and isn't gone
abbrev pub is_living : Side → Log → ℕ → Bool
is_living side log s = was_established (call_view log) s && not (is_session_gone side log s)

-- no session lives
abbrev pub has_no_session : Side → Log → Bool
has_no_session side log = not (list_any (λ (s : Session). not (is_session_gone side log s.id)) (call_view log).sessions)

-- the driver's table by its uses
abbrev pub dispatched : Side → Log → Dispatched
dispatched side log = dispatched_streams (call_view log) (stream_table side log)

-- what goes out for the streams of a session that a call makes gone
abbrev pub ending_actions : Side → Log → ℕ → List Action
ending_actions side log s = gone_actions (transport_view side log) (dispatched side log) s
