-- What the program of two ends answers to its words and its input, and what holds of what it wrote (this repository's own).
use Rattle.std.specs.Prelude.{[], ◌++◌, ◌==◌, ◌≡◌, List, Ok, Option, codes, if◌then◌else◌, ℕ}
use Rattle.std.specs.Io.KnownBytes.{Appends, Consumes}
use Rattle.wt_pair.specs.Claims.{TwoEnds}
use Rattle.wt_pair.specs.Lines.{Scripted}
use Rattle.wt_pair.specs.Output.{pair_outcome, print_pair, refused_line}
use Rattle.wt_pair.specs.Pair.{run_pair}
use Rattle.wt_pair.specs.Script.{pair_script_of}
use Rattle.wt_pair.specs.declared.answer.PairAnswer.{PairAnswer}
use Rattle.wt_trace.specs.Asked.{alone}
use Rattle.wt_trace.specs.Outcome.{Outcome, input_outcome}

-- the word `pair` alone asks for it: what it gives an input
abbrev pub pair_asked : List (List ℕ) → Option (List ℕ → Outcome)
pair_asked words = alone (codes "pair") (input_outcome pair_script_of pair_outcome) words

-- what stands behind the answers: with status 3 which event doesn't fit
abbrev pub last_text : ℕ → List PairAnswer → List ℕ
last_text given answers = if given == 3 then refused_line answers else []

-- a script was read, what was written are the lines of two ends' answers to its events, as far as they fit, and the four claims hold of these answers
pub record TellsTwoEnds (left left_now took took_now : Option (List ℕ)) (given : ℕ) : Type 0 where
  pub input : List ℕ
  pub consumed : Consumes left left_now input
  pub script : Scripted
  pub spelled : pair_script_of input ≡ Ok script
  pub answers : List PairAnswer
  pub answered : answers ≡ (run_pair script.facts script.events).answers
  pub written : Appends took took_now (print_pair script.events answers ++ last_text given answers)
  pub agree : TwoEnds script.facts script.events answers
