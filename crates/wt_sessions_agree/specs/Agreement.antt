-- What is proved: the agreement of one turn, of a lawful list, and of any list.
use Rattle.std.specs.Prelude.{[], ◌∷◌, ◌≡◌, Bool, List, false, true, ℕ}
use Rattle.wt_meaning.specs.History.{History}
use Rattle.wt_meaning.specs.Lawful.{is_lawful}
use Rattle.wt_meaning.specs.Meaning.{meaning, next, run_from, step}
use Rattle.wt_meaning.specs.Moments.{findings}
use Rattle.wt_promise.specs.Promise.{AllLawful, IsHistory}
use Rattle.wt_sessions.specs.Answers.{AtUnlawful, Finished, RunEnd, answers_to, log_after}
use Rattle.wt_sessions.specs.Answers as answers
use Rattle.wt_sessions.specs.Driver.{call_view}
use Rattle.wt_sessions_agree.specs.Members.{MembersIn}
use Rattle.wt_sessions_agree.specs.Stands.{Stands}
use Rattle.wt_turn.specs.Log.{Log}
use Rattle.wt_turn.specs.declared.turn.Turn.{Turn}
use Rattle.wt_wire.specs.declared.side.Side.{Side}
use Rattle.wt_turn.specs.declared.turn.Turn.TheVariants as turns

-- a turn that brings bytes brings one
abbrev pub is_one : Turn → Bool
is_one (turns.Bytes id []) = false
is_one (turns.Bytes id (b ∷ c ∷ later)) = false
is_one _ = true

-- a history of lawful turns stands for the log, with some offsets of its sessions' parts; the sessions' streams are the same
abbrev pub Agree : Side → History → Log → Type 0
Agree side h log = (offset : ℕ → ℕ) × IsHistory side h × MembersIn side h (call_view log) (findings side h) × Stands side offset h log

-- a lawful turn has the same answer in both, and leads to a history and a log that agree
pub record TurnAgrees (side : Side) (h : History) (log : Log) (turn : Turn) : Type 0 where
  pub same : answers.answer_to side log turn ≡ next side h turn
  pub after : Agree side (step side h turn) (log_after side log turn)

-- so does every lawful turn wherever a history and a log agree; of the turns that bring bytes, those that bring one
abbrev pub EachTurnAgrees : Side → Type 0
EachTurnAgrees side = (h : History) (log : Log) (turn : Turn) → Agree side h log → is_one turn ≡ true → is_lawful side h turn ≡ true → TurnAgrees side h log turn

-- what a lawful list means is what the definitions for code answer
abbrev pub ListsAgree : Side → Type 0
ListsAgree side = (all : List Turn) → AllLawful side [] all → meaning side all ≡ answers_to side all

-- the run took all of its turns
abbrev pub is_whole : RunEnd → Bool
is_whole Finished = true
is_whole AtUnlawful = false

-- a list of any turns runs as far in both, with the same answers
pub record RunAgrees (side : Side) (h : History) (log : Log) (all : List Turn) : Type 0 where
  pub same : (run_from side h all).answers ≡ (answers.run_from side log all).answers
  pub as_far : (run_from side h all).is_all ≡ is_whole (answers.run_from side log all).stop

-- so does every list of turns from the start
abbrev pub RunsAgree : Side → Type 0
RunsAgree side = (all : List Turn) → RunAgrees side [] [] all
