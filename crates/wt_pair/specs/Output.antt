-- The lines of the answers of two ends, and what a script of theirs is answered (this repository's own).
use Rattle.std.specs.Prelude.{ℕ, Bool, true, false, List, [], ◌∷◌, ◌++◌, codes, length}
use Rattle.std.specs.Fmt.{decimal}
use Rattle.wt_pair.specs.Lines.{Scripted}
use Rattle.wt_pair.specs.Pair.{PairRun, end_of_event, run_pair}
use Rattle.wt_pair.specs.declared.answer.PairAnswer.{PairAnswer}
use Rattle.wt_pair.specs.declared.answer.PairAnswer.TheVariants as pair_answers
use Rattle.wt_pair.specs.declared.event.PairEvent.{PairEvent}
use Rattle.wt_script.specs.Print.{answer_text}
use Rattle.wt_trace.specs.Outcome.{Outcome}
use Rattle.wt_wire.specs.declared.side.Side.{Side}
use Rattle.wt_wire.specs.declared.side.Side.TheVariants.{Client, Server}

-- the end's name, and a blank
abbrev pub name_text : Side → List ℕ
name_text Client = codes "client "
name_text Server = codes "server "

-- what became of an event
abbrev pub outcome_text : PairAnswer → List ℕ
outcome_text (pair_answers.Turn a) = answer_text a
outcome_text pair_answers.Stale = codes "stale"
outcome_text pair_answers.Lost = codes "lost"

-- the line of an answer to an event
abbrev pub pair_line : PairEvent → PairAnswer → List ℕ
pair_line event a = name_text (end_of_event event) ++ outcome_text a ++ codes "\n"

-- a line for each answer to these events
abbrev pub print_pair : List PairEvent → List PairAnswer → List ℕ
print_pair (event ∷ events) (a ∷ answers) = pair_line event a ++ print_pair events answers
print_pair events answers = []

-- the first event that doesn't fit stands behind these answers
abbrev pub refused_line : List PairAnswer → List ℕ
refused_line answers = codes "event " ++ decimal (length answers) ++ codes " refused\n"

-- a run in which all events fit, or that stopped behind these answers: status 0 or 3
abbrev pub stop_outcome : List PairEvent → Bool → List PairAnswer → Outcome
stop_outcome events true answers = record { status = 0; text = print_pair events answers }
stop_outcome events false answers = record { status = 3; text = print_pair events answers ++ refused_line answers }

abbrev pub run_outcome : List PairEvent → PairRun → Outcome
run_outcome events r = stop_outcome events r.is_all r.answers

-- what a script is answered: the lines of its run
abbrev pub pair_outcome : Scripted → Outcome
pair_outcome script = run_outcome script.events (run_pair script.facts script.events)
