-- What the program answers to its words and its input: a status and a text (this repository's own).
use Rattle.std.specs.Prelude.{ℕ, List, Option}
use Rattle.std.specs.Option.{option_map}
use Rattle.wt_trace.specs.Answer.{script_outcome}
use Rattle.wt_trace.specs.Command.{command_of, command_script}
use Rattle.wt_trace.specs.Outcome.{Outcome, asked_outcome, input_outcome}

-- what the words ask for, by the outcome that it gives an input
abbrev pub asked_by : List (List ℕ) → Option (List ℕ → Outcome)
asked_by words = option_map (λ command. input_outcome (command_script command) (script_outcome command)) (command_of words)

-- the outcome for these words and this input, where nothing outside fails and memory suffices
abbrev pub outcome : List (List ℕ) → List ℕ → Outcome
outcome words input = asked_outcome (asked_by words) input
