-- What the command `shared` answers: a status and a text (this repository's own).
use Rattle.std.specs.Prelude.{ℕ, ◌==◌, ◌||◌, ◌++◌, ◌∷◌, Bool, List, None, Option, Some, [], codes, if◌then◌else◌}
use Rattle.std.specs.Fmt.{decimal}
use Rattle.wt_meaning.specs.Meaning.{run}
use Rattle.wt_script.specs.Words.{is_word}
use Rattle.wt_trace.specs.Command.{streams_of}
use Rattle.wt_trace.specs.Generate.{generated_turns}
use Rattle.wt_trace.specs.Outcome.{Outcome, usage}
use Rattle.wt_trace.specs.Summary.{summary_of}
use Rattle.wt_trace.specs.declared.summary.Summary.{Summary}
use Rattle.wt_wire.specs.declared.side.Side.TheVariants.{Server}

-- how many streams the words ask for: they are `shared` and a number from 1 to 10,000
abbrev pub shared_count_of : List (List ℕ) → Option ℕ
shared_count_of [] = None
shared_count_of (word ∷ []) = None
shared_count_of (word ∷ streams ∷ []) = if is_word word (codes "shared") then streams_of streams else None
shared_count_of (word ∷ streams ∷ other ∷ more) = None

-- what one thread's answers to the generated run come to
abbrev pub numbers_of : ℕ → Summary
numbers_of streams = summary_of (run Server (generated_turns streams)).answers

-- the line that says how many streams were accepted and how many bytes were read
abbrev pub numbers_line : Summary → List ℕ
numbers_line s = codes "streams " ++ decimal s.streams ++ codes " bytes " ++ decimal s.bytes ++ codes "\n"

-- for a number of streams the line of one thread's numbers, else how the program is asked
abbrev pub shared_by : Option ℕ → Outcome
shared_by None = usage
shared_by (Some streams) = record { status = 0; text = numbers_line (numbers_of streams) }

-- the outcome of `shared` for these words, where writing doesn't fail and memory suffices
abbrev pub shared_outcome : List (List ℕ) → Outcome
shared_outcome words = shared_by (shared_count_of words)

-- writing failed, or the program ran out of memory
abbrev pub is_stopped : ℕ → Bool
is_stopped status = status == 5 || status == 6
