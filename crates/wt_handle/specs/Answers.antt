-- What a turn leads to, and what can be read of the last answer.
use Rattle.std.specs.Prelude.{◌≡◌, ⊤, ℕ, IsTrue, true, List, [], Option, Some, None}
use Rattle.wt_abi.specs.Replies.{answer_head, bare, reply_bytes, reply_fields}
use Rattle.wt_abi.specs.declared.head.ReplyHead.{ReplyHead}
use Rattle.wt_core.specs.CoreState.{KeepsHistory}
use Rattle.wt_handle.specs.declared.State.{State}
use Rattle.wt_handle.specs.declared.Status.{Status}
use Rattle.wt_handle.specs.declared.Status.TheVariants as statuses
use Rattle.wt_meaning.specs.History.{History}
use Rattle.wt_meaning.specs.Lawful.{is_lawful}
use Rattle.wt_meaning.specs.Meaning.{answer_to, history_after}
use Rattle.wt_turn.specs.declared.action.Action.{Action}
use Rattle.wt_turn.specs.declared.answer.Answer.{Answer}
use Rattle.wt_turn.specs.declared.turn.Turn.{Turn}
use Rattle.wt_wire.specs.HeaderList.{Fields}
use Rattle.wt_wire.specs.declared.side.Side.{Side}

-- the turn is lawful after the history, its answer is the last one, and the core keeps the history with it
pub record Answered (side : Side) (h : History) (turn : Turn) (after : State) : Type 0 where
  pub lawful : is_lawful side h turn ≡ true
  pub last : after.last ≡ Some (answer_to side h turn)
  pub kept : KeepsHistory side after.core (history_after side h turn)

-- memory ran out in a turn, and no answer is left to be read
pub record HasFailed (after : State) : Type 0 where
  pub failed : IsTrue after.core.failed
  pub last : after.last ≡ None

-- the turn was refused
abbrev pub ChangesNothing : Status → Type 0
ChangesNothing statuses.Done = ⊥
ChangesNothing statuses.Malformed = ⊤
ChangesNothing statuses.Unlawful = ⊤
ChangesNothing statuses.OutOfMemory = ⊤
ChangesNothing statuses.Failed = ⊥

-- the head of the last answer
abbrev pub last_head : Option Answer → ReplyHead
last_head None = bare 0
last_head (Some answer) = answer_head answer

-- the bytes of its reply
abbrev pub last_bytes : Option Answer → List ℕ
last_bytes None = []
last_bytes (Some answer) = reply_bytes answer.reply

-- the header fields of its reply
abbrev pub last_fields : Option Answer → Fields
last_fields None = []
last_fields (Some answer) = reply_fields answer.reply

-- the actions that go out with it
abbrev pub last_actions : Option Answer → List Action
last_actions None = []
last_actions (Some answer) = answer.actions
