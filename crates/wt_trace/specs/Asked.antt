-- Which program words ask for, and what holds of a run of it (this repository's own).
use Rattle.std.specs.Prelude.{◌≡◌, ◌≢◌, ◌⊎◌, ℕ, ◌+◌, ◌≤◌, Bool, ◌==◌, ◌||◌, List, [], ◌∷◌, length, IfSome, IsTrue, None, Option, Some, Result, Ok, Err, false, if◌then◌else◌}
use Rattle.std.specs.Io.KnownBytes.{Appends, Consumes, IsAtEnd}
use Rattle.wt_script.specs.Words.{is_word}
use Rattle.wt_trace.specs.declared.cut_short.CutShort.{CutShort}
use Rattle.wt_trace.specs.declared.cut_short.CutShort.TheVariants as cuts
use Rattle.wt_trace.specs.Input.{ReadsFew, script_limit}
use Rattle.wt_trace.specs.Outcome.{Outcome, asked_outcome, is_script_status, usage}
use Rattle.wt_trace.specs.Outside.{AppendsPart, Outside, Rose}

-- the program of a word, where that is the only one
abbrev pub alone : {P : Type 0} → List ℕ → P → List (List ℕ) → Option P
alone word program [] = None
alone word program (only ∷ []) = if is_word only word then Some program else None
alone word program (first ∷ second ∷ more) = None

-- the status of a whole answer, or that of what cut it short
abbrev pub status_of : Result ℕ CutShort → ℕ
status_of (Ok given) = given
status_of (Err cuts.SourceFailed) = 4
status_of (Err cuts.SinkFailed) = 5
status_of (Err cuts.OutOfMemory) = 6

-- bytes were read from a source, at most one more than the greatest script has, and the status and the text are those that
-- they are given; where the source reports its bytes and was read to its end, they are all of them
pub record AnswersInput (outcome_of : List ℕ → Outcome) (left_before left_now took_before took_now : Option (List ℕ)) (given : ℕ) : Type 0 where
  pub input : List ℕ
  pub few : length input ≤ script_limit + 1
  pub consumed : Consumes left_before left_now input
  pub answered : given ≡ (outcome_of input).status
  pub written : Appends took_before took_now (outcome_of input).text

-- bytes were read from a source, at most one more than the greatest script has, and what was written is a first part of
-- the text for them
pub record WritesPart (asked : Option (List ℕ → Outcome)) (left_before left_now took_before took_now : Option (List ℕ)) : Type 0 where
  pub input : List ℕ
  pub few : length input ≤ script_limit + 1
  pub consumed : Consumes left_before left_now input
  pub part : AppendsPart took_before took_now (asked_outcome asked input).text

-- reading failed, writing failed, or the program ran out of memory
abbrev pub is_cut_short : ℕ → Bool
is_cut_short status = status == 4 || status == 5 || status == 6

-- What holds of a run of the program that was asked for, by the outcome that it gives an input (None where the words ask for none),
-- with the source and the sink before it and now, and the status that it ended with.
pub record Ran (asked : Option (List ℕ → Outcome)) (source source_now sink sink_now : Outside) (given : ℕ) : Type 0 where
  -- the status is that of the input
  pub status : is_cut_short given ≡ false → IfSome source.bytes (λ input. given ≡ (asked_outcome asked input).status)
  -- the text is that of the input
  pub text : is_cut_short given ≡ false → IfSome source.bytes (λ input. Appends sink.bytes sink_now.bytes (asked_outcome asked input).text)
  -- the status and the text are those of the bytes that were read
  pub input : is_cut_short given ≡ false
      → IfSome asked (λ outcome_of. AnswersInput outcome_of source.bytes source_now.bytes sink.bytes sink_now.bytes given)
  -- at most 16,777,217 bytes were read, whatever the status
  pub reads : ReadsFew source.bytes source_now.bytes
  -- what was written is a first part of the text, whatever the status
  pub part : IfSome source.bytes (λ input. AppendsPart sink.bytes sink_now.bytes (asked_outcome asked input).text)
  -- it is a first part of the text for the bytes that were read, also where the source doesn't say which bytes it has
  pub writes : WritesPart asked source.bytes source_now.bytes sink.bytes sink_now.bytes
  -- a script was read to its end
  pub end : IsTrue (is_script_status given) → IsAtEnd source_now.bytes
  -- other words are answered 1, or the sink failed
  pub unasked : asked ≡ None → (given ≡ 1) ⊎ (given ≡ 5)
  -- with 1 comes the usage line
  pub usage_text : given ≡ 1 → Appends sink.bytes sink_now.bytes usage.text
  -- the words of a program aren't answered 1
  pub command : asked ≢ None → given ≢ 1
  -- 4 comes only where the source failed
  pub read_fault : given ≡ 4 → Rose source.faults source_now.faults
  -- 5 comes only where the sink failed
  pub write_fault : given ≡ 5 → Rose sink.faults sink_now.faults
  -- with 4 nothing was written
  pub nothing : given ≡ 4 → sink_now.bytes ≡ sink.bytes
  -- no other status hides a fault of the source
  pub source_same : given ≢ 4 → source_now.faults ≡ source.faults
  -- no other status hides a fault of the sink
  pub sink_same : given ≢ 5 → sink_now.faults ≡ sink.faults
