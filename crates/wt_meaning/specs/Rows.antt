-- A call's answers as rows in order: the first that holds is the answer, and where none holds it is Pending.
use Rattle.std.specs.Prelude.{[], ◌∷◌, Bool, List, None, Option, Some, if◌then◌else◌}
use Rattle.wt_turn.specs.declared.action.Action.{Action}
use Rattle.wt_turn.specs.declared.answer.Answer.{Answer}
use Rattle.wt_turn.specs.declared.reply.Reply.{Reply}
use Rattle.wt_turn.specs.declared.reply.Reply.TheVariants as replies

-- a reply, with the call's own actions
abbrev pub answer : Reply → List Action → Answer
answer reply own = record { reply = reply; actions = own }

-- a row is an answer where its condition holds
abbrev pub Row : Type 0
Row = Option Answer

-- the answer, where the condition holds
abbrev pub row : Bool → Reply → List Action → Row
row holds reply own = if holds then Some (answer reply own) else None

-- the answer by a value, where the value is there
abbrev pub row_for : {T : Type 0} → Option T → (T → Reply) → List Action → Row
row_for None reply own = None
row_for (Some x) reply own = Some (answer (reply x) own)

-- the first row that holds
abbrev pub first_row : List Row → Answer
first_row [] = answer replies.Pending []
first_row (None ∷ later) = first_row later
first_row (Some a ∷ later) = a
