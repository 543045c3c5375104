-- What two ends keep of their turns and of what waits for them: a core for each end that keeps its history, and the same items.
use Rattle.std.specs.Prelude.{◌≡◌, Err, List, None, Ok, Option, Result, Some, false, length, true}
use Rattle.wt_meaning.specs.Lawful.{is_lawful}
use Rattle.wt_meaning.specs.Meaning.{answer_to}
use Rattle.wt_core.specs.CoreState.{KeepsHistory}
use Rattle.wt_pair.specs.Kept.{EndNow, LinkNow, PairNow}
use Rattle.wt_pair.specs.Pair.{End, Ends, Happened, end_at, other, run_pair, with_turn}
use Rattle.wt_pair.specs.declared.answer.PairAnswer.{PairAnswer}
use Rattle.wt_pair.specs.declared.event.PairEvent.{PairEvent}
use Rattle.wt_pair.specs.declared.event.PairFacts.{PairFacts}
use Rattle.wt_pair.specs.declared.run.PairError.{PairError}
use Rattle.wt_pair.specs.declared.run.PairError.TheVariants as errors
use Rattle.wt_turn.specs.declared.answer.Answer.{Answer}
use Rattle.wt_turn.specs.declared.turn.Turn.{Turn}
use Rattle.wt_wire.specs.declared.side.Side.{Side}
use Rattle.wt_wire.specs.declared.side.Side.TheVariants.{Client, Server}

-- ---- what is kept

-- what waits for an end
abbrev pub link_of : End → LinkNow
link_of e = record { waiting = e.waiting; came = e.came }

-- of one end
pub record KeepsEnd (side : Side) (now : EndNow) (e : End) : Type 0 where
  pub core : KeepsHistory side now.core e.history
  pub link : now.link ≡ link_of e

-- of the end of this side and of the other
pub record KeepsBoth (side : Side) (near far : EndNow) (p : Ends) : Type 0 where
  pub here : KeepsEnd side near (end_at p side)
  pub there : KeepsEnd (other side) far (end_at p (other side))

-- of both, with these facts
pub record KeepsPair (f : PairFacts) (now : PairNow) (p : Ends) : Type 0 where
  pub facts : now.facts ≡ f
  pub client : KeepsEnd Client now.client p.client
  pub server : KeepsEnd Server now.server p.server

-- ---- what a step leads to

-- a turn is answered as it means, where it is lawful, and none is where it isn't
abbrev pub TakesTurn : Side → End → Turn → Option Answer → EndNow → Type 0
TakesTurn side e turn (Some a) now = (is_lawful side e.history turn ≡ true) × (a ≡ answer_to side e.history turn) × KeepsEnd side now (with_turn side turn e)
TakesTurn side e turn None now = (is_lawful side e.history turn ≡ false) × KeepsEnd side now e

-- what becomes of an event here is as the definitions say it, and what is kept then is that of both ends after it
abbrev pub Becomes : Side → Ends → Option Happened → Option PairAnswer → EndNow → EndNow → Type 0
Becomes side p (Some x) answer here there = (answer ≡ Some x.answer) × KeepsBoth side here there x.ends
Becomes side p None answer here there = (answer ≡ None) × KeepsBoth side here there p

-- the same of a pair
abbrev pub Steps : PairFacts → Ends → Option Happened → Option PairAnswer → PairNow → Type 0
Steps f p (Some x) answer now = (answer ≡ Some x.answer) × KeepsPair f now x.ends
Steps f p None answer now = (answer ≡ None) × KeepsPair f now p

-- ---- lists of events

-- the answers are those of the run of these events, which all fit, or of those before the first that doesn't
abbrev pub IsPairRun : PairFacts → List PairEvent → Result (List PairAnswer) PairError → Type 0
IsPairRun f events (Ok answers) = ((run_pair f events).answers ≡ answers) × ((run_pair f events).is_all ≡ true)
IsPairRun f events (Err (errors.Refused at answers)) = ((run_pair f events).answers ≡ answers) × ((run_pair f events).is_all ≡ false) × (at ≡ length answers)
IsPairRun f events (Err errors.OutOfMemory) = Unit {0}

-- of the answers that were given, those before an event that is refused too
abbrev pub OfAnswers : (List PairAnswer → Type 0) → Result (List PairAnswer) PairError → Type 0
OfAnswers P (Ok answers) = P answers
OfAnswers P (Err (errors.Refused at answers)) = P answers
OfAnswers P (Err errors.OutOfMemory) = Unit {0}
