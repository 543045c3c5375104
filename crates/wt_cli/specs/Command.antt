-- What the command line answers: a status and a text (this repository's own).
use Rattle.std.specs.Prelude.{[], ◌∷◌, Bool, List, codes, false, if◌then◌else◌, ℕ}
use Rattle.wt_pair.specs.Program.{pair_asked}
use Rattle.wt_script.specs.Words.{is_word}
use Rattle.wt_shared.specs.SharedRun.{shared_outcome}
use Rattle.wt_trace.specs.Outcome.{Outcome, asked_outcome}
use Rattle.wt_trace.specs.Program.{outcome}

-- the first word is this one
abbrev pub asks_for : List ℕ → List (List ℕ) → Bool
asks_for name [] = false
asks_for name (word ∷ more) = is_word word name

-- the outcome of the command line for these words, which don't ask for a check, and this input, by the program that the first word names: `shared`,
-- which reads no input, `pair`, and for every other word that of `trace` and `large`
abbrev pub command_outcome : List (List ℕ) → List ℕ → Outcome
command_outcome words input =
    if asks_for (codes "shared") words then shared_outcome words
    else (if asks_for (codes "pair") words then asked_outcome (pair_asked words) input else outcome words input)
