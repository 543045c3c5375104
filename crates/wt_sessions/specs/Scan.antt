-- One moment of the driver: its steps in their order, up to the first fault. (How many streams are looked at, and the order of the
-- steps, is this repository's rule.)
use Rattle.std.specs.Prelude.{[], ◌&&◌, ◌*◌, ◌++◌, ◌||◌, ◌∷◌, Bool, Err, List, None, Ok, Option, Result, Some, drop, false, filter, if◌then◌else◌, is_none, is_some, map, not, suc, true, zero, ℕ}
use Rattle.wt_proto.specs.Bi.{bi_verdict_of}
use Rattle.wt_proto.specs.ControlWalk.{control_walk_of}
use Rattle.wt_message.specs.Datagram.{datagram_of}
use Rattle.wt_meaning.specs.Moments.{ids_from}
use Rattle.wt_meaning.specs.Sends.{action_if}
use Rattle.wt_proto.specs.SessionWalk.{is_over, session_walk_of}
use Rattle.wt_proto.specs.Uni.{uni_verdict_of}
use Rattle.wt_proto.specs.declared.control_walk.ControlWalk.{ControlWalk}
use Rattle.wt_proto.specs.declared.session_walk.SessionWalk.{SessionWalk}
use Rattle.wt_proto.specs.declared.verdict.Verdict.{Verdict}
use Rattle.wt_turn.specs.Reports.{is_running}
use Rattle.wt_turn.specs.Streams.{local_uni, peer_bi, peer_uni}
use Rattle.wt_turn.specs.declared.action.Action.{Action}
use Rattle.wt_wire.specs.Codes.{code_of}
use Rattle.wt_wire.specs.declared.error.ErrorCode.{ErrorCode}
use Rattle.wt_wire.specs.declared.side.StreamEnd.{StreamEnd}
use Rattle.wt_sessions.specs.StreamTable.{Admitted, CallView, Consequence, Dispatched, DriverProgress, Session, StreamTable, TransportView, consequence, control_start, decoder_start, dispatched_streams, encoder_start, first_at, gone_actions, has_room, is_gone, verdict_of}
use Rattle.wt_turn.specs.declared.action.Action.TheVariants as actions
use Rattle.wt_wire.specs.declared.side.StreamEnd.TheVariants as ends
use Rattle.wt_wire.specs.declared.error.ErrorCode.TheVariants as h3
use Rattle.wt_proto.specs.declared.verdict.Verdict.TheVariants as verdicts
use Rattle.wt_proto.specs.declared.session_walk.SessionWalk.TheVariants as walks

-- ---- what a step leaves behind

-- nothing is done after a fault
abbrev pub unless_ended : {S : Type 0} → Option ErrorCode → (S → S) → S → S
unless_ended None f s = f s
unless_ended (Some code) f s = s

-- the fault ends the connection, where there is one
abbrev pub with_fault : Option ErrorCode → DriverProgress → DriverProgress
with_fault None p = p
with_fault (Some code) p = record p { fault = Some code }

-- these go out at this moment too
abbrev pub with_more : List Action → DriverProgress → DriverProgress
with_more own p = record p { actions = p.actions ++ own }

-- the table with its progress changed so
abbrev pub on_progress : (DriverProgress → DriverProgress) → StreamTable → StreamTable
on_progress f t = record t { progress = f t.progress }

-- ---- the streams of a kind

-- what classifying a stream leads to, beside its place
abbrev pub with_consequence : Consequence → DriverProgress → DriverProgress
with_consequence e p = with_fault e.fault (with_more e.actions p)

-- the table with one more classified stream, as the last
abbrev pub with_classified : ℕ → Verdict → Consequence → StreamTable → StreamTable
with_classified k v e t = record t {
  classified = t.classified ++ record { id = k; verdict = v; admitted = e.admitted } ∷ [];
  progress = with_consequence e t.progress;
}

-- the table after the stream was looked at: it is classified once its header shows what it is
abbrev pub classify : TransportView → CallView → ℕ → Verdict → StreamTable → StreamTable
classify t calls k verdicts.Incomplete table = table
classify t calls k v table = with_classified k v (consequence t (dispatched_streams calls table) k v) table

-- how many more may stay without a verdict, after one with this verdict
abbrev pub places_after : Verdict → ℕ → ℕ
places_after verdicts.Incomplete n = n
places_after _ n = suc n

-- the streams of these ids, one after another, until n stay without a verdict
abbrev pub scan : TransportView → CallView → (ℕ → Verdict) → ℕ → List ℕ → StreamTable → StreamTable
scan t calls verdict n [] table = table
scan t calls verdict zero (k ∷ ks) table = table
scan t calls verdict (suc n) (k ∷ ks) table =
    unless_ended table.progress.fault (λ u. scan t calls verdict (places_after (verdict k) n) ks (classify t calls k (verdict k) u)) table

-- the stream has no verdict yet
abbrev pub is_unclassified : StreamTable → ℕ → Bool
is_unclassified table k = is_none (verdict_of k table.classified)

-- the streams of a kind that have no verdict are looked at, once this end is ready, until 4 stay without one
abbrev pub scan_kind : TransportView → CallView → (ℕ → Verdict) → List ℕ → StreamTable → StreamTable
scan_kind t calls verdict ids table = if t.ready then scan t calls verdict 4 (filter (is_unclassified table) ids) table else table

-- the peer's unidirectional streams, by id
abbrev pub uni_ids : TransportView → List ℕ
uni_ids t = ids_from (peer_uni t.side) 0 t.unis

-- the peer's bidirectional streams, by id
abbrev pub bi_ids : TransportView → List ℕ
bi_ids t = ids_from (peer_bi t.side) 0 t.bis

-- the table after the scan of the unidirectional streams
abbrev pub scan_unis : TransportView → CallView → StreamTable → StreamTable
scan_unis t calls table = scan_kind t calls (λ k. uni_verdict_of (t.contents k) (t.end k)) (uni_ids t) table

-- the table after the scan of the bidirectional streams
abbrev pub scan_bis : TransportView → CallView → StreamTable → StreamTable
scan_bis t calls table = scan_kind t calls (λ k. bi_verdict_of (t.contents k) (t.end k)) (bi_ids t) table

-- ---- datagrams

-- one more datagram was looked at
abbrev pub with_looked_at : DriverProgress → DriverProgress
with_looked_at p = record p { datagrams = suc p.datagrams }

-- a datagram of the session is admitted: the session isn't gone, and its window has room
abbrev pub is_admitted : Dispatched → ℕ → Bool
is_admitted d s = not (d.is_gone s) && has_room d s (map (λ (x : Admitted). x.session) d.datagrams)

-- the next datagram was looked at, and has a place or is dropped
abbrev pub admit_datagram : Bool → ℕ → List ℕ → StreamTable → StreamTable
admit_datagram true s payload t = record t {
  datagrams = t.datagrams ++ record { index = t.progress.datagrams; session = s; payload = payload } ∷ [];
  progress = with_looked_at t.progress;
}
admit_datagram false s payload t = on_progress with_looked_at t

-- the next datagram has a quarter id, and is admitted or dropped; or it has none, a fault (RFC 9297, section 2.1)
abbrev pub take_parsed : CallView → Result (ℕ × List ℕ) ErrorCode → StreamTable → StreamTable
take_parsed calls (Ok d) t = admit_datagram (is_admitted (dispatched_streams calls t) (4 * d.0)) (4 * d.0) d.1 t
take_parsed calls (Err code) t = on_progress (with_fault (Some code)) t

-- these datagrams, one after another
abbrev pub take_each : CallView → List (List ℕ) → StreamTable → StreamTable
take_each calls [] t = t
take_each calls (piece ∷ later) t =
    unless_ended t.progress.fault (λ u. take_each calls later (take_parsed calls (datagram_of piece) u)) t

-- the datagrams that came since the last were looked at, once this end is ready
abbrev pub take_datagrams : TransportView → CallView → StreamTable → StreamTable
take_datagrams t calls table = if t.ready then take_each calls (drop table.progress.datagrams t.datagrams) table else table

-- ---- the sessions

-- what goes out on a session's own stream as it ends: a reset where a capsule ended it, else a finish, unless the peer stopped it
abbrev pub session_end : TransportView → ℕ → Bool → List Action
session_end t s true = actions.ResetOut s (code_of h3.NoError) ∷ []
session_end t s false = action_if (not (t.is_stopped s)) (actions.Finish s)

-- the table after the peer closed the session; its own stream and its streams end
abbrev pub close_session : TransportView → CallView → ℕ → Bool → ℕ → List ℕ → StreamTable → StreamTable
close_session t calls s by_capsule code reason table = record table {
  closed = table.closed ++ record { id = s; code = code; reason = reason } ∷ [];
  progress = with_more (session_end t s by_capsule ++ gone_actions t (dispatched_streams calls table) s) table.progress;
}

-- what the walk over a session's stream leads to
abbrev pub session_walked : TransportView → CallView → ℕ → Bool → SessionWalk → StreamTable → StreamTable
session_walked t calls s by_capsule walks.Running table = table
session_walked t calls s by_capsule (walks.Closed code reason) table = close_session t calls s by_capsule code reason table
session_walked t calls s by_capsule (walks.Fault code) table = on_progress (with_fault (Some code)) table

-- a session's stream after the request or the response (draft-ietf-webtrans-http3, section 5); a capsule closes it before the stream ends
abbrev pub check_session : TransportView → CallView → ℕ → List ℕ → StreamEnd → StreamTable → StreamTable
check_session t calls s bytes end table = session_walked t calls s (is_over (session_walk_of bytes ends.Running)) (session_walk_of bytes end) table

-- the session's stream, where the session isn't gone
abbrev pub check_living : TransportView → CallView → Session → StreamTable → StreamTable
check_living t calls s table = if is_gone calls table s.id then table else check_session t calls s.id (drop s.offset (t.contents s.id)) (t.end s.id) table

-- these sessions, one after another
abbrev pub check_each : TransportView → CallView → List Session → StreamTable → StreamTable
check_each t calls [] table = table
check_each t calls (s ∷ later) table = unless_ended table.progress.fault (λ u. check_each t calls later (check_living t calls s u)) table

-- the table after the check of the established sessions, by id
abbrev pub check_sessions : TransportView → CallView → StreamTable → StreamTable
check_sessions t calls table = check_each t calls calls.sessions table

-- ---- the streams on which the connection rests

-- a critical stream must not end (RFC 9114, section 6.2.1; RFC 9204, section 4.2)
abbrev pub critical_if : Bool → DriverProgress → DriverProgress
critical_if false p = p
critical_if true p = with_fault (Some h3.ClosedCriticalStream) p

-- what is kept after this walk over the peer's control stream: whether SETTINGS came, and the fault
abbrev pub control_read : ControlWalk → DriverProgress → DriverProgress
control_read walk p = with_fault walk.fault (record p { settings = p.settings || is_some walk.settings })

-- what is kept after a look at the peer's control stream, where there is one, from behind its type
abbrev pub check_control : TransportView → Option (ℕ × ℕ) → DriverProgress → DriverProgress
check_control t None p = p
check_control t (Some c) p = control_read (control_walk_of (drop c.1 (t.contents c.0)) (t.end c.0)) p

-- a QPACK stream of the peer must not end (RFC 9204, section 4.2)
abbrev pub check_qpack : TransportView → Option (ℕ × ℕ) → DriverProgress → DriverProgress
check_qpack t None p = p
check_qpack t (Some c) p = critical_if (not (is_running (t.end c.0))) p

-- ---- a moment

-- The steps in their order: the peer's unidirectional streams, its bidirectional ones, its datagrams, the sessions, the stop of this
-- end's control stream, the peer's control stream, its QPACK streams.
abbrev pub steps : TransportView → CallView → List (StreamTable → StreamTable)
steps t calls =
    scan_unis t calls ∷ scan_bis t calls ∷ take_datagrams t calls ∷ check_sessions t calls
    ∷ on_progress (critical_if (t.is_stopped (local_uni t.side)))
    ∷ (λ table. on_progress (check_control t (first_at control_start table.classified)) table)
    ∷ (λ table. on_progress (check_qpack t (first_at encoder_start table.classified)) table)
    ∷ (λ table. on_progress (check_qpack t (first_at decoder_start table.classified)) table) ∷ []

-- these steps, one after another, up to the first fault
abbrev pub in_order : List (StreamTable → StreamTable) → StreamTable → StreamTable
in_order [] t = t
in_order (step ∷ later) t = in_order later (unless_ended t.progress.fault step t)

-- a moment begins with nothing to send
abbrev pub with_no_actions : DriverProgress → DriverProgress
with_no_actions p = record p { actions = [] }

-- the table after a moment
abbrev pub scan_order : TransportView → CallView → StreamTable → StreamTable
scan_order t calls table = in_order (steps t calls) (on_progress with_no_actions table)
