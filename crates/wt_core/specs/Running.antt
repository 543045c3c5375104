-- What the answers to a list of turns are.
use Rattle.std.specs.Prelude.{◌≡◌, Err, List, Ok, Result, false, length, true}
use Rattle.wt_meaning.specs.Meaning.{run}
use Rattle.wt_core.specs.declared.trace.TraceError.{TraceError}
use Rattle.wt_core.specs.declared.trace.TraceError.TheVariants as errors
use Rattle.wt_turn.specs.declared.answer.Answer.{Answer}
use Rattle.wt_turn.specs.declared.turn.Turn.{Turn}
use Rattle.wt_wire.specs.declared.side.Side.{Side}

-- the answers are those of the run of these turns, which takes all of them, or stops at the first that isn't lawful
abbrev pub IsRun : Side → List Turn → Result (List Answer) TraceError → Type 0
IsRun side all (Ok answers) = run side all ≡ record { answers = answers; is_all = true }
IsRun side all (Err (errors.Unlawful at answers)) = (run side all ≡ record { answers = answers; is_all = false }) × (at ≡ length answers)
IsRun side all (Err errors.OutOfMemory) = Unit {0}
