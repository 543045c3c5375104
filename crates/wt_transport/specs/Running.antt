-- What still runs of a stream: what a stop or a reset of it does, and whether anything of it is to be read (RFC 9000, sections 3.1 and 3.2).
use Rattle.std.specs.Prelude.{ℕ, List, [], ◌∷◌, length, Option, Bool, ◌==◌, ◌&&◌, not, if◌then◌else◌}
use Rattle.wt_wire.specs.declared.side.Side.{Side}
use Rattle.wt_turn.specs.declared.action.Action.{Action}
use Rattle.wt_turn.specs.declared.action.Action.TheVariants as actions
use Rattle.wt_turn.specs.Log.{Log, actions_of, events_of}
use Rattle.wt_turn.specs.Streams.{can_receive, can_send}
use Rattle.wt_turn.specs.Reports.{end_of, is_running}
use Rattle.wt_turn.specs.Sent.{is_finished, is_reset}
use Rattle.wt_turn.specs.Outgoing.{if_open, reset_entry}
use Rattle.wt_turn.specs.Unread.{ReadPosition, is_given_up}
use Rattle.wt_transport.specs.StreamState.{stream_at}
use Rattle.wt_transport.specs.Kind.{peer_kind}
use Rattle.wt_transport.specs.State.{TransportState}
use Rattle.wt_transport.specs.Step.{after_reset, after_stop, can_receive_now, can_send_now, count_now, end_now, unread_now}
use Rattle.wt_transport.specs.Accepting.{stream_after}

-- ---- by what is kept

-- the receiving half exists, hasn't ended and wasn't given up
abbrev pub still_receives_now : TransportState → ℕ → Bool
still_receives_now t id = can_receive_now t id && is_running (end_now t id) && not (stream_at t.streams id).given_up

-- the sending half exists, and this end neither finished nor reset it
abbrev pub still_sends_now : TransportState → ℕ → Bool
still_sends_now t id = can_send_now t id && not (stream_at t.streams id).finished && not (stream_at t.streams id).reset

-- after the receiving half was stopped, where it still receives
abbrev pub stop_running_now : TransportState → ℕ → ℕ → TransportState
stop_running_now t id code = if still_receives_now t id then after_stop t id code else t

-- after the sending half was reset, where it still sends
abbrev pub reset_running_now : TransportState → ℕ → ℕ → TransportState
reset_running_now t id code = if still_sends_now t id then after_reset t id code else t

-- nothing of the stream is unread, and its end is still to come
abbrev pub is_quiet_now : TransportState → ℕ → Bool
is_quiet_now t id = (length (unread_now t id) == 0) && is_running (end_now t id)

-- of the peer's streams of a kind, the one that comes after n others by its id
abbrev pub peer_stream_now : TransportState → Bool → ℕ → Option ℕ
peer_stream_now t bidirectional count = stream_after (count_now t (peer_kind bidirectional t.side)) (peer_kind bidirectional t.side) count

-- ---- by a log

-- the receiving half exists, hasn't ended and wasn't given up, by a log and how far it was read
abbrev pub still_receives : Side → Log → (ℕ → ReadPosition) → ℕ → Bool
still_receives side log position k = can_receive side log k && is_running (end_of (events_of log) k) && not (is_given_up (position k))

-- the sending half exists, and this end neither finished nor reset it, by a log
abbrev pub still_sends : Side → Log → ℕ → Bool
still_sends side log k = can_send side log k && not (is_finished (actions_of log) k) && not (is_reset log k)

-- what a stop of a half that may still receive sends
abbrev pub actions_of_stop_running : Side → Log → (ℕ → ReadPosition) → ℕ → ℕ → List Action
actions_of_stop_running side log position k code = if still_receives side log position k then if_open log (actions.StopOut k code) else []

-- what a reset of a half that may still send sends
abbrev pub actions_of_reset_running : Side → Log → ℕ → ℕ → List Action
actions_of_reset_running side log k code = if still_sends side log k then if_open log (actions.ResetOut k code) else []

-- the log after such a reset, which counts only where the half still sends
abbrev pub log_reset_running : Side → Log → ℕ → ℕ → Log
log_reset_running side log k code = if still_sends side log k then reset_entry log k code ∷ log else log
