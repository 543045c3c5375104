-- Which logs a driver follows: its data follows the log, of which some actions were collected.
use Rattle.std.specs.Prelude.{[], ◌-◌, ◌^◌, ◌≡◌, ◌≤◌, List, length, min, take, true, ℕ}
use Rattle.wt_follows.specs.Tie as tie
use Rattle.wt_kept.specs.Kept.{DriverNow}
use Rattle.wt_transport.specs.StreamState.{piece_count}
use Rattle.wt_sessions.specs.Answers.{is_lawful, log_after}
use Rattle.wt_turn.specs.Log.{Log, actions_of, with_actions}
use Rattle.wt_turn.specs.declared.action.Action.{Action}
use Rattle.wt_turn.specs.declared.turn.Turn.{Turn}
use Rattle.wt_turn.specs.declared.turn.Turn.TheVariants as turns
use Rattle.wt_wire.specs.declared.side.Side.{Side}

-- of how many pieces a byte is kept that wasn't read; the count stands still at its type's end
abbrev pub pieces_of : DriverNow → ℕ
pieces_of d = min (piece_count d.work.transport.streams) (2 ^ 64 - 1)

-- how many pieces a turn may add to those of which a byte is unread
abbrev pub pieces_in : Turn → ℕ
pieces_in (turns.Bytes id piece) = 1
pieces_in _ = 0

-- the actions of the log that weren't collected yet, the newest first, where n were collected
abbrev pub uncollected_since : ℕ → Log → List Action
uncollected_since collected log = take (length (actions_of log) - collected) (actions_of log)

-- a driver follows a log, of which n actions were collected
pub record Follows (side : Side) (d : DriverNow) (log : Log) (collected : ℕ) : Type 0 where
  pub kept : tie.Follows side d log (uncollected_since collected log)
  pub within : collected ≤ length (actions_of log)

-- a log that lawful turns lead to, from the start
pub data IsReachable (side : Side) : Log → Type 0 where
  AtStart : IsReachable side []
  AfterTurn : {log : Log} (turn : Turn) → IsReachable side log → is_lawful side log turn ≡ true → IsReachable side (log_after side log turn)

-- a log that lawful turns lead to, with actions that the call that goes on sent before its record
pub record IsWithin (side : Side) (log : Log) : Type 0 where
  pub before : Log
  pub own : List Action
  pub reached : IsReachable side before
  pub is : log ≡ with_actions own before
