-- Of how many pieces a driver keeps an unread byte: no call adds one, and a turn of the transport at most one, where it is a piece.
use Rattle.std.proofs.Common.{◌+◌, ◌-◌, ◌^◌, ◌∙◌, ◌≡◌, ◌≤◌, List, None, Option, Some, ap, arith, min, refl, subst, sym, ℕ, ℤ}
use Rattle.wt_driver_laws.proofs.PieceCounts.{consume-keeps, either-keeps, finishing-keeps, give-up-keeps, prioritising-keeps, resetting-keeps, stop-keeps, write-keeps}
use Rattle.wt_driver_laws.proofs.PieceSteps.{close-kept, end-session-kept, pieces_kept, refuse-session-kept, register-kept, response-kept, turn-kept}
use Rattle.wt_driver_laws.specs.Answering.{gave_by, gave_settings_now, with_actions_taken, with_dialled}
use Rattle.wt_driver_laws.specs.Driving.{pieces_in, pieces_of}
use Rattle.wt_driver_laws.specs.Passing.{on_transport, then_finish, then_read, then_read_exact, then_reset, then_set_priority, then_stop, then_write}
use Rattle.wt_kept.specs.Calling.{close_now, driver_at_first, end_session_now, on_sessions, refuse_session_now, register_now, response_read, turn_now}
use Rattle.wt_kept.specs.Classifying.{with_dispatched}
use Rattle.wt_kept.specs.Kept.{DispatchedNow, DriverNow, SessionsNow}
use Rattle.wt_kept.specs.Moment.{with_work}
use Rattle.wt_message.specs.declared.settings.Settings.{Settings}
use Rattle.wt_transport.specs.HalfRules.{read_count, read_exact_count}
use Rattle.wt_transport.specs.Rules.{after_finishing, after_priority_unless_closed, after_reset_unless_closed, after_write, receiving_half_now}
use Rattle.wt_transport.specs.Step.{after_consume, after_give_up, after_stop, can_receive_now, can_send_now}
use Rattle.wt_peer_streams.specs.Critical.{control_settings}
use Rattle.wt_turn.specs.declared.turn.Turn.{Turn}
use Rattle.wt_wire.specs.declared.addr.Addr.{Addr}
use Rattle.wt_wire.specs.declared.side.Side.{Side}
use Rattle.wt_wire.specs.declared.side.Side.TheVariants.{Client, Server}

-- the count stands still at its type's end
capped : (a b k most : ℕ) → a ≤ b + k → min a most ≤ min b most + k
capped a b k most le = omega (arith, le)

-- a driver that keeps no more
pub kept_pieces : (d e : DriverNow) → pieces_kept e ≤ pieces_kept d → pieces_of e ≤ pieces_of d
kept_pieces d e le = let x = capped (pieces_kept e) (pieces_kept d) 0 (2 ^ 64 - 1) (omega (arith, le)) in omega (arith, x)

-- that the driver became
pub became : (d now later : DriverNow) → later ≡ now → pieces_kept now ≤ pieces_kept d → pieces_of later ≤ pieces_of d
became d now later e le = subst (λ (x : DriverNow). pieces_of x ≤ pieces_of d) (sym e) (kept_pieces d now le)

-- ---- the connection

pub init_pieces : (side : Side) (d : DriverNow) → d ≡ driver_at_first side → pieces_of d ≡ 0
init_pieces side d e = ap pieces_of e ∙ by side
  where
    by : (x : Side) → pieces_of (driver_at_first x) ≡ 0
    by Client = refl
    by Server = refl

pub turn_pieces : (turn : Turn) (d later : DriverNow) → later ≡ turn_now turn d → pieces_of later ≤ pieces_of d + pieces_in turn
turn_pieces turn d later e = subst (λ (x : DriverNow). pieces_of x ≤ pieces_of d + pieces_in turn) (sym e) (capped (pieces_kept (turn_now turn d)) (pieces_kept d) (pieces_in turn) (2 ^ 64 - 1) (turn-kept turn d))

-- where nothing changes
pub same_pieces : (d later : DriverNow) → later ≡ d → pieces_of later ≤ pieces_of d
same_pieces d later e = became d d later e (omega arith)

pub actions_pieces : (d later : DriverNow) → later ≡ with_actions_taken d → pieces_of later ≤ pieces_of d
actions_pieces d later e = became d (with_actions_taken d) later e (omega arith)

pub dial_pieces : (address : Addr) (name : List ℕ) (d later : DriverNow) → later ≡ with_dialled address name d → pieces_of later ≤ pieces_of d
dial_pieces address name d later e = became d (with_dialled address name d) later e (omega arith)

pub close_pieces : (code : ℕ) (reason : List ℕ) (d later : DriverNow) → later ≡ close_now code reason d → pieces_of later ≤ pieces_of d
close_pieces code reason d later e = became d (close_now code reason d) later e (close-kept code reason d)

-- ---- halves

pub write-kept : (id : ℕ) (bytes : List ℕ) (d : DriverNow) → pieces_kept (on_transport (then_write id bytes) d) ≤ pieces_kept d
write-kept id bytes d = let t = d.work.transport in either-keeps (can_send_now t id) t (after_write t id bytes) (write-keeps t id bytes)

pub write_pieces : (id : ℕ) (bytes : List ℕ) (d later : DriverNow) → later ≡ on_transport (then_write id bytes) d → pieces_of later ≤ pieces_of d
write_pieces id bytes d later e = became d (on_transport (then_write id bytes) d) later e (write-kept id bytes d)

pub finish_pieces : (id : ℕ) (d later : DriverNow) → later ≡ on_transport (then_finish id) d → pieces_of later ≤ pieces_of d
finish_pieces id d later e = became d (on_transport (then_finish id) d) later e (let t = d.work.transport in either-keeps (can_send_now t id) t (after_finishing t id) (finishing-keeps t id))

pub reset_pieces : (id code : ℕ) (d later : DriverNow) → later ≡ on_transport (then_reset id code) d → pieces_of later ≤ pieces_of d
reset_pieces id code d later e = became d (on_transport (then_reset id code) d) later e (let t = d.work.transport in either-keeps (can_send_now t id) t (after_reset_unless_closed t id code) (resetting-keeps t id code))

pub set_priority_pieces : (id : ℕ) (priority : ℤ) (d later : DriverNow) → later ≡ on_transport (then_set_priority id priority) d → pieces_of later ≤ pieces_of d
set_priority_pieces id priority d later e =
    became d (on_transport (then_set_priority id priority) d) later e (let t = d.work.transport in either-keeps (can_send_now t id) t (after_priority_unless_closed t id priority) (prioritising-keeps t id priority))

pub read_pieces : (id size : ℕ) (d later : DriverNow) → later ≡ on_transport (then_read id size) d → pieces_of later ≤ pieces_of d
read_pieces id size d later e = became d (on_transport (then_read id size) d) later e (let t = d.work.transport in
    either-keeps (can_receive_now t id) t (after_consume t id (read_count (receiving_half_now t id) size)) (consume-keeps t id (read_count (receiving_half_now t id) size)))

pub read_exact_pieces : (id size : ℕ) (d later : DriverNow) → later ≡ on_transport (then_read_exact id size) d → pieces_of later ≤ pieces_of d
read_exact_pieces id size d later e = became d (on_transport (then_read_exact id size) d) later e (let t = d.work.transport in
    either-keeps (can_receive_now t id) t (after_consume t id (read_exact_count (receiving_half_now t id) size)) (consume-keeps t id (read_exact_count (receiving_half_now t id) size)))

pub stop_pieces : (id code : ℕ) (d later : DriverNow) → later ≡ on_transport (then_stop id code) d → pieces_of later ≤ pieces_of d
stop_pieces id code d later e = became d (on_transport (then_stop id code) d) later e (let t = d.work.transport in
    either-keeps (can_receive_now t id) t (after_give_up (after_stop t id code) id) (let x = stop-keeps t id code in let y = give-up-keeps (after_stop t id code) id in omega (arith, x, y)))

-- ---- sessions

-- where streams and sessions went is no transport's
pub dispatched_pieces : (f : DispatchedNow → DispatchedNow) (d later : DriverNow) → later ≡ with_work (with_dispatched f) d → pieces_of later ≤ pieces_of d
dispatched_pieces f d later e = became d (with_work (with_dispatched f) d) later e (omega arith)

pub sessions_pieces : (f : SessionsNow → SessionsNow) (d later : DriverNow) → later ≡ on_sessions f d → pieces_of later ≤ pieces_of d
sessions_pieces f d later e = became d (on_sessions f d) later e (omega arith)

pub register_pieces : (s : ℕ) (d later : DriverNow) → later ≡ register_now s d → pieces_of later ≤ pieces_of d
register_pieces s d later e = became d (register_now s d) later e (register-kept s d)

pub end_session_pieces : (s : ℕ) (d later : DriverNow) → later ≡ end_session_now s d → pieces_of later ≤ pieces_of d
end_session_pieces s d later e = became d (end_session_now s d) later e (end-session-kept s d)

pub refuse_session_pieces : (s : ℕ) (d later : DriverNow) → later ≡ refuse_session_now s d → pieces_of later ≤ pieces_of d
refuse_session_pieces s d later e = became d (refuse_session_now s d) later e (refuse-session-kept s d)

pub response_pieces : (d later : DriverNow) → later ≡ response_read d → pieces_of later ≤ pieces_of d
response_pieces d later e = became d (response_read d) later e (response-kept d)

pub gave_settings_pieces : (d later : DriverNow) → later ≡ gave_settings_now d → pieces_of later ≤ pieces_of d
gave_settings_pieces d later e = became d (gave_settings_now d) later e (by (control_settings d.work.dispatched.critical.control))
  where
    by : (o : Option Settings) → pieces_kept (gave_by o d) ≤ pieces_kept d
    by None = omega arith
    by (Some settings) = omega arith
