-- What a shared connection stores under its lock, and what one turn adds to it (this repository's own).
use Rattle.std.specs.Prelude.{ℕ, ◌<◌, ◌≡◌, ◌∷◌, ◌++◌, Bool, [], false, length}
use Rattle.wt_meaning.specs.Lawful.{is_lawful}
use Rattle.wt_meaning.specs.Meaning.{answer_to}
use Rattle.wt_core.specs.CoreState.{CoreState, KeepsHistory}
use Rattle.wt_turn.specs.declared.answer.Answer.{Answer}
use Rattle.wt_turn.specs.declared.turn.Turn.{Turn}
use Rattle.wt_wire.specs.declared.side.Side.{Side}
use Rattle.wt_shared.specs.History.{Pairs, Replays, changes_in, past_of}
use Rattle.wt_shared.specs.declared.told.Told.{Told}

-- what callers see of the locked value: its side, its history, and whether a step ran out of memory
pub record Stored : Type 0 where
  pub side : Side
  pub history : Pairs
  pub failed : Bool

-- a turn and its answer, with their place in the history
abbrev pub told_at : ℕ → Turn → Answer → Told
told_at place turn answer = record { place = place; turn = turn; answer = answer }

-- the turn is lawful after the history
abbrev pub may_come : Stored → Turn → Bool
may_come s turn = is_lawful s.side (past_of s.side s.history) turn

-- the one answer to a turn after the history
abbrev pub next_answer : Stored → Turn → Answer
next_answer s turn = answer_to s.side (past_of s.side s.history) turn

-- the turn and that answer, at the place after the history's last
abbrev pub next_told : Stored → Turn → Told
next_told s turn = told_at (length s.history) turn (next_answer s turn)

-- what is stored once the turn was made: the history has it and its answer at the end
abbrev pub after_turn : Stored → Turn → Stored
after_turn s turn = record s { history = s.history ++ (turn, next_answer s turn) ∷ [] }

-- what is stored before the first turn of a connection on this side
abbrev pub nothing_stored : Side → Stored
nothing_stored side = record { side = side; history = []; failed = false }

-- What the lock's value always keeps: its history has a first turn and replays to every stored answer; unless a step ran out of
-- memory the core is where the history leads to; and the count of changes is the history's.
pub record ReplaysTo (side : Side) (core : CoreState) (history : Pairs) (changes : ℕ) (failed : Bool) : Type 0 where
  pub some : 0 < length history
  pub replays : Replays side history
  pub keeps : failed ≡ false → KeepsHistory side core (past_of side history)
  pub counted : changes ≡ changes_in history
