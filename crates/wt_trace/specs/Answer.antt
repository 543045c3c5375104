-- What a command answers to a script: a status and a text (this repository's own).
use Rattle.std.specs.Prelude.{ℕ, Bool, true, false, List, [], ◌++◌, length, codes}
use Rattle.std.specs.Fmt.{decimal}
use Rattle.wt_turn.specs.declared.answer.Answer.{Answer}
use Rattle.wt_meaning.specs.Meaning.{Run, run}
use Rattle.wt_script.specs.declared.script.Script.{Script}
use Rattle.wt_script.specs.Print.{print}
use Rattle.wt_trace.specs.declared.command.Command.{Command}
use Rattle.wt_trace.specs.declared.command.Command.TheVariants.{Large, Trace}
use Rattle.wt_trace.specs.Outcome.{Outcome}
use Rattle.wt_trace.specs.Summary.{summary_line, summary_of}

-- the first turn that has no answer stands after these answers
abbrev pub stop_line : List Answer → List ℕ → List ℕ
stop_line answers reason = codes "turn " ++ decimal (length answers) ++ reason

-- what a command writes of the answers to a whole run: a line for each, or one that sums them up
abbrev pub finished_text : Command → List Answer → List ℕ
finished_text Trace answers = print answers
finished_text (Large streams) answers = summary_line (summary_of answers)

-- what a command writes of the answers to a run that stopped: a line for each, or nothing
abbrev pub stopped_text : Command → List Answer → List ℕ
stopped_text Trace answers = print answers
stopped_text (Large streams) answers = []

-- a run that took all turns with these answers, or stopped after them: status 0 or 3
abbrev pub stop_outcome : Command → Bool → List Answer → Outcome
stop_outcome command true answers = record { status = 0; text = finished_text command answers }
stop_outcome command false answers = record { status = 3; text = stopped_text command answers ++ stop_line answers (codes " unlawful\n") }

-- the outcome of a run
abbrev pub run_outcome : Command → Run → Outcome
run_outcome command r = stop_outcome command r.is_all r.answers

-- the outcome of a script: that of its run
abbrev pub script_outcome : Command → Script → Outcome
script_outcome command script = run_outcome command (run script.side script.turns)
