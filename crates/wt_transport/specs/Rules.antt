-- What calls on one half of a stream find and do, over a log and over what is kept.
use Rattle.std.specs.Prelude.{ℕ, ℤ, List, [], ◌∷◌, length, Bool, ◌||◌, not, if◌then◌else◌}
use Rattle.wt_wire.specs.declared.side.Side.{Side}
use Rattle.wt_turn.specs.declared.action.Action.{Action}
use Rattle.wt_turn.specs.declared.action.Action.TheVariants as actions
use Rattle.wt_turn.specs.Log.{Log, Called, PrioritySet, is_open, events_of, actions_of, calls_of}
use Rattle.wt_turn.specs.Reports.{end_of, stop_of, is_acknowledged}
use Rattle.wt_turn.specs.Sent.{is_finished, is_reset, priority_of}
use Rattle.wt_turn.specs.Outgoing.{credit_left, may_send, actions_to_send, if_open, reset_entry}
use Rattle.wt_turn.specs.Unread.{ReadPosition, unread}
use Rattle.wt_transport.specs.HalfRules.{SendingHalf, ReceivingHalf, is_closed}
use Rattle.wt_transport.specs.StreamState.{stream_at, sending_half_of}
use Rattle.wt_transport.specs.State.{TransportState}
use Rattle.wt_transport.specs.Step.{may_send_now, after_send, after_finish, after_reset, after_priority, unread_now, end_now}

-- ---- by a log

-- the sending half of a stream, by a log
abbrev pub sending_half : Log → ℕ → SendingHalf
sending_half log k = record {
  finished = is_finished (actions_of log) k;
  reset = is_reset log k;
  stop = stop_of (events_of log) k;
  acknowledged = is_acknowledged (events_of log) k;
  left = credit_left log k;
  priority = priority_of (calls_of log) k;
}

-- the receiving half of a stream, by a log
abbrev pub receiving_half : Log → (ℕ → ReadPosition) → ℕ → ReceivingHalf
receiving_half log position k = record { unread = length (unread log position k); end = end_of (events_of log) k }

-- a half isn't closed for a write: the connection has ended, or this end neither finished nor reset it
abbrev pub is_writable : Bool → SendingHalf → Bool
is_writable open_ half = not open_ || not (half.finished || half.reset)

-- a write isn't closed, by a log
abbrev pub may_write : Log → ℕ → Bool
may_write log k = is_writable (is_open log) (sending_half log k)

-- what a write of these bytes sends
abbrev pub actions_of_write : Side → Log → ℕ → List ℕ → List Action
actions_of_write side log k bytes = if may_send side log k then actions_to_send log k bytes else []

-- what a finish sends
abbrev pub actions_of_finish : Side → Log → ℕ → List Action
actions_of_finish side log k = if may_send side log k then actions.Finish k ∷ [] else []

-- the log after a reset, which counts only on a half that isn't closed
abbrev pub log_reset : Log → ℕ → ℕ → Log
log_reset log k code = if is_closed (sending_half log k) then log else reset_entry log k code ∷ log

-- what a reset sends
abbrev pub actions_of_reset : Log → ℕ → ℕ → List Action
actions_of_reset log k code = if is_closed (sending_half log k) then [] else if_open log (actions.ResetOut k code)

-- the log after a priority was set, which counts only on a half that isn't closed
abbrev pub log_priority : Log → ℕ → ℤ → Log
log_priority log k priority = if is_closed (sending_half log k) then log else Called (PrioritySet k priority) ∷ log

-- ---- over what is kept

-- the sending half of a stream, by what is kept
abbrev pub sending_half_now : TransportState → ℕ → SendingHalf
sending_half_now t id = sending_half_of (stream_at t.streams id)

-- the receiving half of a stream, by what is kept
abbrev pub receiving_half_now : TransportState → ℕ → ReceivingHalf
receiving_half_now t id = record { unread = length (unread_now t id); end = end_now t id }

-- a write isn't closed, by what is kept
abbrev pub may_write_now : TransportState → ℕ → Bool
may_write_now t id = is_writable t.is_open (sending_half_now t id)

-- after a write of these bytes
abbrev pub after_write : TransportState → ℕ → List ℕ → TransportState
after_write t id bytes = if may_send_now t id then after_send t id bytes else t

-- after a finish, which sends on a half that can still send
abbrev pub after_finishing : TransportState → ℕ → TransportState
after_finishing t id = if may_send_now t id then after_finish t id else t

-- after a reset, which counts only on a half that isn't closed
abbrev pub after_reset_unless_closed : TransportState → ℕ → ℕ → TransportState
after_reset_unless_closed t id code = if is_closed (sending_half_now t id) then t else after_reset t id code

-- after a priority was set, which counts only on a half that isn't closed
abbrev pub after_priority_unless_closed : TransportState → ℕ → ℤ → TransportState
after_priority_unless_closed t id priority = if is_closed (sending_half_now t id) then t else after_priority t id priority
