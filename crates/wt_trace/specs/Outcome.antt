-- What a program answers to an input: a status and a text (this repository's own).
use Rattle.std.specs.Prelude.{ℕ, Bool, ◌==◌, ◌||◌, nat_lt, List, ◌++◌, length, codes, Option, Some, None, Result, Ok, Err, if◌then◌else◌}
use Rattle.std.specs.Fmt.{decimal}
use Rattle.wt_script.specs.declared.script.ScriptRefused.{ScriptRefused}
use Rattle.wt_trace.specs.Input.{script_limit}

-- a status, and the text that is written
pub record Outcome : Type 0 where
  pub status : ℕ
  pub text : List ℕ

-- how the program is asked: status 1
abbrev pub usage : Outcome
usage = record { status = 1; text = codes "usage: trace | large <n>\n" }

-- a script above the limit: status 7
abbrev pub too_long : Outcome
too_long = record { status = 7; text = codes "script too long\n" }

-- the first line that isn't in the grammar: status 2
abbrev pub refused_at : ℕ → Outcome
refused_at line = record { status = 2; text = codes "line " ++ decimal line ++ codes " refused\n" }

-- a script that is refused is answered by its line, another one as its program answers it
abbrev pub read_outcome : {Script : Type 0} → (Script → Outcome) → Result Script ScriptRefused → Outcome
read_outcome outcome_of (Err refused) = refused_at refused.line
read_outcome outcome_of (Ok script) = outcome_of script

-- the outcome of an input for a program that reads scripts so and answers them so: too long, or that of the script that it is
abbrev pub input_outcome : {Script : Type 0} → (List ℕ → Result Script ScriptRefused) → (Script → Outcome) → List ℕ → Outcome
input_outcome script_of outcome_of input = if nat_lt script_limit (length input) then too_long else read_outcome outcome_of (script_of input)

-- the outcome of an input for the program that is asked for, by the outcome that it gives each; the usage line where none is
abbrev pub asked_outcome : Option (List ℕ → Outcome) → List ℕ → Outcome
asked_outcome None input = usage
asked_outcome (Some outcome_of) input = outcome_of input

-- a status that a program gives a script: it ran to its end, stopped, or is a record that isn't safe
abbrev pub is_run_status : ℕ → Bool
is_run_status status = status == 0 || status == 3 || status == 9

-- a status of a script that was read to its end
abbrev pub is_script_status : ℕ → Bool
is_script_status status = is_run_status status || status == 2

-- a status of an input
abbrev pub is_input_status : ℕ → Bool
is_input_status status = is_script_status status || status == 7
