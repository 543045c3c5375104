-- One moment on what a driver keeps: the steps in their order, what goes out, and what an entry of the log changes.
use Rattle.std.specs.Prelude.{[], ◌&&◌, ◌*◌, ◌++◌, ◌+◌, ◌==◌, ◌||◌, ◌∷◌, Bool, Err, List, None, Ok, Option, Result, Some, drop, false, filter, if◌then◌else◌, length, not, suc, true, zero, ℕ}
use Rattle.std.specs.Option.{option_or}
use Rattle.wt_proto.specs.Bi.{bi_verdict_of}
use Rattle.wt_message.specs.Datagram.{datagram_of}
use Rattle.wt_proto.specs.SessionWalk.{is_over, session_walk_of}
use Rattle.wt_proto.specs.Uni.{uni_verdict_of}
use Rattle.wt_proto.specs.declared.session_walk.SessionWalk.{SessionWalk}
use Rattle.wt_proto.specs.declared.verdict.Verdict.{Verdict}
use Rattle.wt_turn.specs.Streams.{local_uni, opens, peer_bi, peer_uni}
use Rattle.wt_sessions.specs.Driver.{ControlSent, actions_after, with_session}
use Rattle.wt_sessions.specs.Scan.{check_control, check_qpack, critical_if, is_admitted, places_after, session_end, unless_ended, with_consequence, with_fault, with_looked_at, with_more, with_no_actions}
use Rattle.wt_sessions.specs.StreamTable.{Admitted, Classified, Closed, Consequence, Dispatched, DriverProgress, Session, TransportView, Waiting, consequence, gone_actions, with_id}
use Rattle.wt_turn.specs.Log.{CallRecord, Called, DatagramReceived, Entry, Event, OpeningStarted, PeerBi, PeerUni, Reported, RequestDelivered, RequestRejected, Sent, SessionEstablished, StreamAccepted, ends_by}
use Rattle.wt_turn.specs.declared.action.Action.{Action}
use Rattle.wt_wire.specs.declared.error.ErrorCode.{ErrorCode}
use Rattle.wt_wire.specs.declared.side.StreamEnd.{StreamEnd}
use Rattle.wt_sessions.specs.DriverState.{DriverState}
use Rattle.wt_turn.specs.declared.action.Action.TheVariants as actions
use Rattle.wt_wire.specs.declared.side.StreamEnd.TheVariants as ends
use Rattle.wt_proto.specs.declared.verdict.Verdict.TheVariants as verdicts
use Rattle.wt_proto.specs.declared.session_walk.SessionWalk.TheVariants as walks

-- ---- the table by its uses

-- the session becomes gone: nothing waits for it, and its request is held no more
abbrev pub forget : ℕ → Dispatched → Dispatched
forget k d = record d {
  held = filter (λ (h : ℕ). not (k == h)) d.held;
  streams = filter (λ (w : Waiting). not (k == w.session)) d.streams;
  datagrams = filter (λ (x : Admitted). not (k == x.session)) d.datagrams;
  is_gone = λ s. d.is_gone s || k == s;
}

-- a request that is queued, or whose session is gone
abbrev pub queue_or_forget : Bool → Classified → Dispatched → Dispatched
queue_or_forget true c d = record d { requests = d.requests ++ c ∷ []; held = d.held ++ c.id ∷ [] }
queue_or_forget false c d = forget c.id d

-- a stream of a session that waits, or was stopped
abbrev pub wait_or_drop : Bool → Waiting → Dispatched → Dispatched
wait_or_drop true w d = record d { streams = d.streams ++ w ∷ [] }
wait_or_drop false w d = d

-- the dispatched streams with one more, whose verdict is this
abbrev pub dispatch_by : Verdict → Classified → Dispatched → Dispatched
dispatch_by (verdicts.Control offset) c d = record d { control = option_or d.control (Some (c.id, offset)) }
dispatch_by (verdicts.Encoder offset) c d = record d { encoder = option_or d.encoder (Some (c.id, offset)) }
dispatch_by (verdicts.Decoder offset) c d = record d { decoder = option_or d.decoder (Some (c.id, offset)) }
dispatch_by (verdicts.Request headers offset) c d = queue_or_forget c.admitted c d
dispatch_by (verdicts.Refused code) c d = forget c.id d
dispatch_by (verdicts.WebTransport session offset) c d = wait_or_drop c.admitted (record { id = c.id; session = session }) d
dispatch_by _ c d = d

-- the dispatched streams with one more
abbrev pub dispatch : Dispatched → Classified → Dispatched
dispatch d c = dispatch_by c.verdict c d

-- ---- the steps of a moment

-- the state with its progress changed so
abbrev pub on_progress_now : (DriverProgress → DriverProgress) → DriverState → DriverState
on_progress_now f s = record s { progress = f s.progress }

-- a stream is classified
abbrev pub classified_now : ℕ → Verdict → Consequence → DriverState → DriverState
classified_now k v e s = record s {
  dispatched = dispatch s.dispatched (record { id = k; verdict = v; admitted = e.admitted });
  progress = with_consequence e s.progress;
}

-- which streams stay without a verdict, and the state
pub record Scanned : Type 0 where
  pub left : List ℕ
  pub state : DriverState

-- a stream that stays, in front of those after it
abbrev pub stays : ℕ → Scanned → Scanned
stays k x = record { left = k ∷ x.left; state = x.state }

-- in front of those after it, a stream stays where it has no verdict
abbrev pub stays_if : Verdict → ℕ → Scanned → Scanned
stays_if verdicts.Incomplete k x = stays k x
stays_if _ k x = x

-- nothing is looked at after a fault
abbrev pub unless_faulty : Option ErrorCode → (DriverState → Scanned) → List ℕ → DriverState → Scanned
unless_faulty None f ks s = f s
unless_faulty (Some code) f ks s = record { left = ks; state = s }

-- the state after the stream was looked at: it is classified once its header shows what it is
abbrev pub classify_now : TransportView → ℕ → Verdict → DriverState → DriverState
classify_now t k verdicts.Incomplete s = s
classify_now t k v s = classified_now k v (consequence t s.dispatched k v) s

-- the streams without a verdict, one after another, until n stay so
abbrev pub scan_ids : TransportView → (ℕ → Verdict) → ℕ → List ℕ → DriverState → Scanned
scan_ids t verdict n [] s = record { left = []; state = s }
scan_ids t verdict zero (k ∷ ks) s = record { left = k ∷ ks; state = s }
scan_ids t verdict (suc n) (k ∷ ks) s =
    unless_faulty s.progress.fault (λ u. stays_if (verdict k) k (scan_ids t verdict (places_after (verdict k) n) ks (classify_now t k (verdict k) u))) (k ∷ ks) s

-- the state after the scan of the unidirectional streams
abbrev pub scan_unis_now : TransportView → DriverState → DriverState
scan_unis_now t s =
    if t.ready
    then (let x = scan_ids t (λ k. uni_verdict_of (t.contents k) (t.end k)) 4 s.unis s in record x.state { unis = x.left })
    else s

-- the state after the scan of the bidirectional streams
abbrev pub scan_bis_now : TransportView → DriverState → DriverState
scan_bis_now t s =
    if t.ready
    then (let x = scan_ids t (λ k. bi_verdict_of (t.contents k) (t.end k)) 4 s.bis s in record x.state { bis = x.left })
    else s

-- the next datagram was looked at, and has a place or is dropped
abbrev pub place_now : Bool → ℕ → List ℕ → DriverState → DriverState
place_now true session payload s = record s {
  dispatched = record s.dispatched { datagrams = s.dispatched.datagrams ++ record { index = s.progress.datagrams; session = session; payload = payload } ∷ [] };
  progress = with_looked_at s.progress;
}
place_now false session payload s = on_progress_now with_looked_at s

-- the next datagram has a quarter id, and is admitted or dropped; or it has none, a fault (RFC 9297, section 2.1)
abbrev pub parsed_now : Result (ℕ × List ℕ) ErrorCode → DriverState → DriverState
parsed_now (Ok d) s = place_now (is_admitted s.dispatched (4 * d.0)) (4 * d.0) d.1 s
parsed_now (Err code) s = on_progress_now (with_fault (Some code)) s

-- these datagrams, one after another
abbrev pub take_each_now : List (List ℕ) → DriverState → DriverState
take_each_now [] s = s
take_each_now (piece ∷ later) s = unless_ended s.progress.fault (λ u. take_each_now later (parsed_now (datagram_of piece) u)) s

-- the datagrams that came since the last were looked at, once this end is ready
abbrev pub take_datagrams_now : TransportView → DriverState → DriverState
take_datagrams_now t s = if t.ready then take_each_now (drop s.progress.datagrams t.datagrams) s else s

-- how one session was closed, beside the others
abbrev pub with_closed : Closed → (ℕ → Option Closed) → ℕ → Option Closed
with_closed x closed k = if x.id == k then Some x else closed k

-- the session is gone, and lives no more
abbrev pub gone_now : ℕ → DriverState → DriverState
gone_now k s = record s { dispatched = forget k s.dispatched; sessions = filter (λ (x : Session). not (k == x.id)) s.sessions }

-- what the walk over a session's stream leads to
abbrev pub walked_now : TransportView → ℕ → Bool → SessionWalk → DriverState → DriverState
walked_now t k by_capsule walks.Running s = s
walked_now t k by_capsule (walks.Closed code reason) s =
    on_progress_now (with_more (session_end t k by_capsule ++ gone_actions t s.dispatched k))
    (gone_now k (record s { closed = with_closed (record { id = k; code = code; reason = reason }) s.closed }))
walked_now t k by_capsule (walks.Fault code) s = on_progress_now (with_fault (Some code)) s

-- a session's stream after the request or the response (draft-ietf-webtrans-http3, section 5)
abbrev pub check_session_now : TransportView → ℕ → List ℕ → StreamEnd → DriverState → DriverState
check_session_now t k bytes end s = walked_now t k (is_over (session_walk_of bytes ends.Running)) (session_walk_of bytes end) s

-- these sessions, one after another
abbrev pub check_each_now : TransportView → List Session → DriverState → DriverState
check_each_now t [] s = s
check_each_now t (x ∷ later) s =
    unless_ended s.progress.fault (λ u. check_each_now t later (check_session_now t x.id (drop x.offset (t.contents x.id)) (t.end x.id) u)) s

-- the steps in their order
abbrev pub steps_now : TransportView → List (DriverState → DriverState)
steps_now t =
    scan_unis_now t ∷ scan_bis_now t ∷ take_datagrams_now t ∷ (λ s. check_each_now t s.sessions s)
    ∷ on_progress_now (critical_if (t.is_stopped (local_uni t.side)))
    ∷ (λ s. on_progress_now (check_control t s.dispatched.control) s)
    ∷ (λ s. on_progress_now (check_qpack t s.dispatched.encoder) s)
    ∷ (λ s. on_progress_now (check_qpack t s.dispatched.decoder) s) ∷ []

-- these steps, one after another, up to the first fault
abbrev pub in_order_now : List (DriverState → DriverState) → DriverState → DriverState
in_order_now [] s = s
in_order_now (step ∷ later) s = in_order_now later (unless_ended s.progress.fault step s)

-- the state after a moment's steps
abbrev pub scan_state : TransportView → DriverState → DriverState
scan_state t s = in_order_now (steps_now t) (on_progress_now with_no_actions s)

-- what goes out then
abbrev pub step_actions : TransportView → DriverState → List Action
step_actions t s = actions_after t s.control_sent s.progress

-- ---- what an entry of the log changes

-- how many bytes the action sends on this stream
abbrev pub sent_length : ℕ → Action → ℕ
sent_length k (actions.Send id piece) = if id == k then length piece else 0
sent_length k _ = 0

-- how far this end's control stream is after an action
abbrev pub control_after : ℕ → Action → ControlSent → ControlSent
control_after id a s = record { opened = opens id a || s.opened; sent = s.sent + sent_length id a }

-- a stream that the peer opened
abbrev pub with_arrival : TransportView → Event → DriverState → DriverState
with_arrival t PeerUni s = record s { unis = s.unis ++ (4 * t.unis + peer_uni t.side) ∷ [] }
with_arrival t PeerBi s = record s { bis = s.bis ++ (4 * t.bis + peer_bi t.side) ∷ [] }
with_arrival t _ s = s

-- the members of each session, of which one has one more
abbrev pub with_member_now : ℕ → ℕ → (ℕ → List ℕ) → ℕ → List ℕ
with_member_now session k members s = if session == s then with_id k (members s) else members s

-- a session is established, and lives unless it is gone
abbrev pub established_now : Session → DriverState → DriverState
established_now x s = record s {
  dispatched = record s.dispatched { is_established = λ k. x.id == k || s.dispatched.is_established k };
  sessions = if s.dispatched.is_gone x.id then s.sessions else with_session x s.sessions;
}

-- the state after a call's record
abbrev pub after_call : CallRecord → DriverState → DriverState
after_call (StreamAccepted id session) s = record s {
  dispatched = record s.dispatched {
    streams = filter (λ (w : Waiting). not (id == w.id)) s.dispatched.streams;
    members = with_member_now session id s.dispatched.members;
  };
}
after_call (OpeningStarted id session) s = record s { dispatched = record s.dispatched { members = with_member_now session id s.dispatched.members } }
after_call (DatagramReceived index) s = record s { dispatched = record s.dispatched { datagrams = filter (λ (x : Admitted). not (index == x.index)) s.dispatched.datagrams } }
after_call (RequestDelivered id) s = record s { dispatched = record s.dispatched { requests = filter (λ (c : Classified). not (id == c.id)) s.dispatched.requests } }
after_call (RequestRejected id) s = gone_now id s
after_call (SessionEstablished id offset) s = established_now (record { id = id; offset = offset }) s
after_call _ s = s

-- the state after an entry, by its kind; whether it ends the connection is asked beside it
abbrev pub after_kind : TransportView → Entry → DriverState → DriverState
after_kind t (Reported e) s = with_arrival t e s
after_kind t (Called r) s = after_call r s
after_kind t (Sent a) s = record s { control_sent = control_after (local_uni t.side) a s.control_sent }
after_kind t _ s = s

-- the state after an entry, before its moment's steps, by what the transport reported before it
abbrev pub after_entry : TransportView → Entry → DriverState → DriverState
after_entry t e s = record (after_kind t e s) { is_open = not (ends_by e) && s.is_open }
