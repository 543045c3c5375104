-- The one answer to a turn after a history, the answers to a list of turns, and the run of a list of any turns.
use Rattle.std.specs.Prelude.{[], ◌++◌, ◌∷◌, Bool, List, false, if◌then◌else◌, true, ℕ}
use Rattle.wt_turn.specs.Joined.{join_all}
use Rattle.wt_turn.specs.declared.action.Action.{Action}
use Rattle.wt_turn.specs.declared.answer.Answer.{Answer}
use Rattle.wt_turn.specs.declared.turn.Turn.{Turn}
use Rattle.wt_wire.specs.declared.side.Side.{Side}
use Rattle.wt_meaning.specs.Calls.{rows_of}
use Rattle.wt_meaning.specs.History.{History}
use Rattle.wt_meaning.specs.Lawful.{is_lawful}
use Rattle.wt_meaning.specs.Rows.{answer, first_row}
use Rattle.wt_meaning.specs.Sends.{moment_actions}
use Rattle.wt_turn.specs.declared.reply.Reply.TheVariants as replies
use Rattle.wt_turn.specs.declared.turn.Turn.TheVariants as turns

-- ---- one turn

-- the history with one more pair
abbrev pub with_pair : History → Turn → Answer → History
with_pair h turn a = record { turn = turn; answer = a } ∷ h

-- the reply and the call's own actions: a call's first row that holds; a turn of the transport is Done
abbrev pub own_answer : Side → History → Turn → Answer
own_answer side h (turns.Call c) = first_row (rows_of side h c)
own_answer side h _ = answer replies.Done []

-- the own actions, then what goes out at this moment; bytes for one stream with no other action between them are one send
abbrev pub completed : Side → History → Turn → Answer → Answer
completed side h turn own = answer own.reply (join_all [] (own.actions ++ moment_actions side (with_pair h turn own)))

-- the one answer to a turn: of the turns that bring bytes, to those that bring one
abbrev pub next : Side → History → Turn → Answer
next side h turn = completed side h turn (own_answer side h turn)

-- the history after such a turn
abbrev pub step : Side → History → Turn → History
step side h turn = with_pair h turn (next side h turn)

-- ---- a turn of many bytes is its bytes, one after another

-- the history after these bytes
abbrev pub after_bytes : Side → History → ℕ → List ℕ → History
after_bytes side h k [] = h
after_bytes side h k (b ∷ bytes) = after_bytes side (step side h (turns.Bytes k (b ∷ []))) k bytes

-- what goes out during these bytes, joined
abbrev pub bytes_actions : Side → History → ℕ → List ℕ → List Action
bytes_actions side h k [] = []
bytes_actions side h k (b ∷ bytes) =
    join_all (next side h (turns.Bytes k (b ∷ []))).actions (bytes_actions side (step side h (turns.Bytes k (b ∷ []))) k bytes)

-- the history after a turn
abbrev pub history_after : Side → History → Turn → History
history_after side h (turns.Bytes id piece) = after_bytes side h id piece
history_after side h turn = step side h turn

-- the answer to a turn
abbrev pub answer_to : Side → History → Turn → Answer
answer_to side h (turns.Bytes id piece) = answer replies.Done (bytes_actions side h id piece)
answer_to side h turn = next side h turn

-- ---- a list of turns

-- the answers to turns that come after this history
abbrev pub meaning_from : Side → History → List Turn → List Answer
meaning_from side h [] = []
meaning_from side h (turn ∷ later) = answer_to side h turn ∷ meaning_from side (history_after side h turn) later

-- what a list of turns means: an answer to each
abbrev pub meaning : Side → List Turn → List Answer
meaning side all = meaning_from side [] all

-- ---- a list of any turns

-- the answers to the longest lawful prefix of a list, and whether that is all of it
pub record Run : Type 0 where
  pub answers : List Answer
  pub is_all : Bool

-- a run with one more answer in front
abbrev pub with_answer : Answer → Run → Run
with_answer a r = record { answers = a ∷ r.answers; is_all = r.is_all }

-- the run of turns that come after this history
abbrev pub run_from : Side → History → List Turn → Run
run_from side h [] = record { answers = []; is_all = true }
run_from side h (turn ∷ later) =
    if is_lawful side h turn then with_answer (answer_to side h turn) (run_from side (history_after side h turn) later)
    else record { answers = []; is_all = false }

-- the run of a list of turns
abbrev pub run : Side → List Turn → Run
run side all = run_from side [] all
