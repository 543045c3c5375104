-- What a call and a turn do to what a core keeps.
use Rattle.std.specs.Prelude.{◌≡◌, IfOk, Result, true, ℕ}
use Rattle.wt_core.specs.CoreState.{CoreState, Keeps, Refines}
use Rattle.wt_sessions.specs.Answers.{answer_to, call_effect, is_lawful, log_after, may_call, turn_effect}
use Rattle.wt_turn.specs.Log.{Log}
use Rattle.wt_turn.specs.declared.answer.Answer.{Answer}
use Rattle.wt_turn.specs.declared.call.Call.{Call}
use Rattle.wt_turn.specs.declared.reply.Reply.{Reply}
use Rattle.wt_turn.specs.declared.turn.Turn.{Turn}
use Rattle.wt_wire.specs.declared.side.Side.{Side}

-- a call is answered as the definitions say, and what is kept then is that of the log after it
pub record CallTaken (side : Side) (log : Log) (collected : ℕ) (call : Call) (answer : Reply) (k : CoreState) : Type 0 where
  pub reply : answer ≡ (call_effect side log call).reply
  pub kept : Keeps side k (call_effect side log call).log collected

-- of each log that is kept, after which the call may come; whether a turn came or ran out of memory stays
abbrev pub CallAnswers : {E : Type 0} → CoreState → Call → Result Reply E → CoreState → Type 0
CallAnswers k call result m = IfOk result (λ reply. (m.failed ≡ k.failed)
    × ((side : Side) (log : Log) (collected : ℕ) → Keeps side k log collected → may_call side log call ≡ true → CallTaken side log collected call reply m))

-- a turn is answered so
pub record Taken (side : Side) (log : Log) (collected : ℕ) (turn : Turn) (answer : Reply) (k : CoreState) : Type 0 where
  pub reply : answer ≡ (turn_effect side log turn).reply
  pub kept : Keeps side k (log_after side log turn) collected

-- of each log that is kept, after which the turn is lawful
abbrev pub TurnAnswers : {E : Type 0} → CoreState → Turn → Result Reply E → CoreState → Type 0
TurnAnswers k turn result m = IfOk result (λ reply. (m.failed ≡ k.failed)
    × ((side : Side) (log : Log) (collected : ℕ) → Keeps side k log collected → is_lawful side log turn ≡ true → Taken side log collected turn reply m))

-- the answer to a turn, and what is kept once its actions were collected, are as the definitions say
pub record Stepped (side : Side) (log : Log) (turn : Turn) (answer : Answer) (k : CoreState) : Type 0 where
  pub is : answer ≡ answer_to side log turn
  pub kept : Refines side k (log_after side log turn)
