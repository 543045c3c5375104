-- What a call does. A type has no log, so its contract speaks of each log that the driver follows, and in which the
-- application has the value that is called.
use Rattle.std.specs.Prelude.{◌≡◌, List, ℕ}
use Rattle.wt_driver_laws.specs.Driving.{Follows, IsReachable, IsWithin}
use Rattle.wt_kept.specs.Kept.{DriverNow}
use Rattle.wt_sessions.specs.Answers.{call_effect}
use Rattle.wt_sessions.specs.Driver.{log_and_flush}
use Rattle.wt_sessions.specs.Effect.{Effect}
use Rattle.wt_turn.specs.Log.{CallRecord, Called, Log, with_actions}
use Rattle.wt_turn.specs.declared.action.Action.{Action}
use Rattle.wt_turn.specs.declared.call.Call.{Call}
use Rattle.wt_turn.specs.declared.reply.Reply.{Reply}
use Rattle.wt_wire.specs.declared.side.Side.{Side}

-- ---- a whole call

-- the driver then follows the log after this, and the answer is its reply
pub record Did (side : Side) (later : DriverNow) (collected : ℕ) (answer : Reply) (effect : Effect) : Type 0 where
  pub reply : answer ≡ effect.reply
  pub log : Follows side later effect.log collected

-- where the application has the value, the driver and the answer are as the definitions say of this call
abbrev pub Does : {T : Type 0} → DriverNow → DriverNow → (Side → Log → Type 0) → Call → (T → Reply) → T → Type 0
Does d later Has call reply answer = (side : Side) (log : Log) (collected : ℕ) → Follows side d log collected → IsReachable side log → Has side log
    → Did side later collected (reply answer) (call_effect side log call)

-- ---- a part of a call

-- of each log of lawful turns
abbrev pub Always : DriverNow → (Side → Log → ℕ → Type 0) → Type 0
Always d P = (side : Side) (log : Log) (collected : ℕ) → Follows side d log collected → IsReachable side log → P side log collected

-- of each log of lawful turns, and of each in the middle of a call
abbrev pub Within : DriverNow → (Side → Log → ℕ → Type 0) → Type 0
Within d P = (side : Side) (log : Log) (collected : ℕ) → Follows side d log collected → IsWithin side log → P side log collected

-- the log after a record, and what goes out at its moment
abbrev pub log_record : Side → Log → List Action → CallRecord → Log
log_record side log own r = log_and_flush side (with_actions own log) (Called r)
