-- The datagrams that came are looked at, and the streams of sessions, the peer's control stream and its QPACK streams are read on.
use Rattle.std.specs.Prelude.{[], ◌&&◌, ◌*◌, ◌∷◌, ◌||◌, Bool, Err, List, None, Ok, Option, Result, Some, false, if◌then◌else◌, is_none, is_some, map, not, true, ℕ}
use Rattle.wt_kept.specs.Classifying.{fail_with, with_dispatched, with_sessions}
use Rattle.wt_kept.specs.Ending.{finish_and_retire, reset_and_retire}
use Rattle.wt_kept.specs.Kept.{Closed, CriticalNow, DispatchedNow, LiveNow, OwnControlNow, SessionEndNow, SessionsNow, WorkNow}
use Rattle.wt_kept.specs.Readers.{ControlReading, ReadOn, Slot, control_rules, read_on, session_rules}
use Rattle.wt_kept.specs.Windows.{admit_datagram_now, live_in, with_live}
use Rattle.wt_message.specs.Datagram.{datagram_of}
use Rattle.wt_proto.specs.WalkProgress.{reached_in}
use Rattle.wt_proto.specs.declared.session_walk.SessionWalk.{SessionWalk}
use Rattle.wt_turn.specs.Reports.{is_running}
use Rattle.wt_proto.specs.SessionReader.{SessionReader}
use Rattle.wt_transport.specs.State.{TransportState}
use Rattle.wt_transport.specs.Step.{end_now, stop_now}
use Rattle.wt_wire.specs.declared.error.ErrorCode.{ErrorCode}
use Rattle.wt_proto.specs.declared.session_walk.SessionWalk.TheVariants as walks
use Rattle.wt_wire.specs.declared.error.ErrorCode.TheVariants as h3

-- ---- datagrams

-- a datagram is admitted or dropped; one that is none is a fault (RFC 9297, section 2.1)
abbrev pub admit_parsed : Result (ℕ × List ℕ) ErrorCode → DispatchedNow → DispatchedNow
admit_parsed (Ok x) d = with_sessions (admit_datagram_now (4 * x.0) x.1 d.sessions).sessions d
admit_parsed (Err code) d = fail_with code d

-- nothing is done after a fault
abbrev pub unless_fault : {T : Type 0} → Option ErrorCode → T → T → T
unless_fault None goes stops = goes
unless_fault (Some code) goes stops = stops

-- these datagrams, one after another, up to the first fault
abbrev pub admit_each : List (List ℕ) → DispatchedNow → DispatchedNow
admit_each [] d = d
admit_each (piece ∷ later) d = unless_fault d.fault (admit_each later (admit_parsed (datagram_of piece) d)) d

-- ---- sessions

-- what stopped the walk over capsules closes the session
abbrev pub closes : Option SessionWalk → Bool
closes (Some (walks.Closed code reason)) = true
closes _ = false

-- a capsule closed the session, and not the stream's end
abbrev pub is_closed_by_capsule : SessionReader → Bool
is_closed_by_capsule r = closes (reached_in r.capsules).stop

-- the peer closed the session
abbrev pub close_by_peer : Bool → ℕ → SessionEndNow → WorkNow → WorkNow
close_by_peer true s end w = reset_and_retire s end w
close_by_peer false s end w = finish_and_retire s end w

-- what a session's walk leads to
abbrev pub after_walk : ℕ → Bool → SessionWalk → WorkNow → WorkNow
after_walk s by_capsule walks.Running w = w
after_walk s by_capsule (walks.Closed code reason) w = close_by_peer by_capsule s (Closed code reason) w
after_walk s by_capsule (walks.Fault code) w = with_dispatched (fail_with code) w

-- a session's reader is so far
abbrev pub with_session_reader : SessionReader → ℕ → SessionsNow → SessionsNow
with_session_reader r s d = with_live (λ x. record x { reader = r }) s d

-- a session's stream was read on
abbrev pub session_read : ℕ → ReadOn SessionReader → WorkNow → WorkNow
session_read s x w =
    after_walk s (is_closed_by_capsule x.reader) (session_rules.outcome x.reader)
    (record { transport = x.transport; dispatched = with_sessions (with_session_reader x.reader s w.dispatched.sessions) w.dispatched })

-- the session's stream is read on, where it lives
abbrev pub read_session_by : ℕ → Option LiveNow → WorkNow → WorkNow
read_session_by s None w = w
read_session_by s (Some x) w = session_read s (read_on session_rules s x.reader w.transport) w

abbrev pub read_session : ℕ → WorkNow → WorkNow
read_session s w = read_session_by s (live_in w.dispatched.sessions s) w

-- those of these sessions, one after another, up to the first fault
abbrev pub read_each : List ℕ → WorkNow → WorkNow
read_each [] w = w
read_each (s ∷ later) w = unless_fault w.dispatched.fault (read_each later (read_session s w)) w

-- those of all that live, by id
abbrev pub read_sessions : WorkNow → WorkNow
read_sessions w = read_each (map (λ (x : LiveNow). x.id) w.dispatched.sessions.living) w

-- ---- critical streams

-- critical streams must not end (RFC 9114, section 6.2.1; RFC 9204, section 4.2)
abbrev pub fail_if_closed : Bool → DispatchedNow → DispatchedNow
fail_if_closed closed d = if closed && is_none d.fault then fail_with h3.ClosedCriticalStream d else d

-- the peer stopped the stream, where it is there
abbrev pub is_stopped_at : Option ℕ → TransportState → Bool
is_stopped_at None t = false
is_stopped_at (Some k) t = is_some (stop_now t k)

-- the peer stopped this end's control stream
abbrev pub is_own_stopped : OwnControlNow → TransportState → Bool
is_own_stopped c t = is_stopped_at c.stream t

-- the control stream was read on
abbrev pub control_read : ℕ → ReadOn ControlReading → WorkNow → WorkNow
control_read k x w = record {
  transport = x.transport;
  dispatched = record w.dispatched {
    critical = record w.dispatched.critical { control = Some (record { id = k; reader = x.reader }) };
    fault = (control_rules.outcome x.reader).fault;
  };
}

-- the peer's control stream is read on, where it is there (RFC 9114, section 6.2.1)
abbrev pub read_control_by : Option (Slot ControlReading) → WorkNow → WorkNow
read_control_by None w = w
read_control_by (Some x) w = control_read x.id (read_on control_rules x.id x.reader w.transport) w

abbrev pub read_control : WorkNow → WorkNow
read_control w = unless_fault w.dispatched.fault (read_control_by w.dispatched.critical.control w) w

-- one of the QPACK streams ended
abbrev pub has_ended : Option ℕ → TransportState → Bool
has_ended None t = false
has_ended (Some k) t = not (is_running (end_now t k))

-- the QPACK streams must not end (RFC 9204, section 4.2)
abbrev pub check_qpack_now : WorkNow → WorkNow
check_qpack_now w =
    with_dispatched (fail_if_closed (has_ended w.dispatched.critical.encoder w.transport || has_ended w.dispatched.critical.decoder w.transport)) w
