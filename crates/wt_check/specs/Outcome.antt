-- What the check answers to a record (this repository's own).
use Rattle.std.specs.Prelude.{[], ◌∷◌, ◌++◌, ◌+◌, ◌≡◌, ◌≢◌, ◌≤◌, Bool, Err, IsTrue, List, Ok, Option, Result, codes, false, length, nat_lt, true, ℕ}
use Rattle.std.specs.Fmt.{decimal}
use Rattle.std.specs.Io.KnownBytes.{Appends, Consumes, IsAtEnd}
use Rattle.wt_check.specs.Judged.{IsJudged}
use Rattle.wt_check.specs.Reading.{record_of}
use Rattle.wt_check.specs.Records.{Record}
use Rattle.wt_check.specs.Verdict.{Accepted, Broken, Verdict}
use Rattle.wt_script.specs.declared.script.ScriptRefused.{ScriptRefused}
use Rattle.wt_script.specs.Words.{is_word}
use Rattle.wt_trace.specs.Asked.{is_cut_short}
use Rattle.wt_trace.specs.Input.{ReadsFew, script_limit}
use Rattle.wt_trace.specs.Outcome.{Outcome, is_script_status, refused_at, too_long}
use Rattle.wt_trace.specs.Outside.{Outside, Rose}

-- the words ask for the check
abbrev pub asks_check : List (List ℕ) → Bool
asks_check (only ∷ []) = is_word only (codes "check")
asks_check words = false

-- status 0, or status 9 with the place and the rule
abbrev pub verdict_outcome : Verdict → Outcome
verdict_outcome Accepted = record { status = 0; text = codes "accepted\n" }
verdict_outcome (Broken at rule) = record { status = 9; text = codes "broken " ++ decimal at ++ codes " " ++ decimal rule ++ codes "\n" }

-- the outcome is that of a verdict on the record, as far as that is proved
pub record AnswersRecord (r : Record) (o : Outcome) : Type 0 where
  pub verdict : Verdict
  pub judged : IsJudged r verdict
  pub told : o ≡ verdict_outcome verdict

-- a text that is no record is refused by its line
abbrev pub AnswersRead : Result Record ScriptRefused → Outcome → Type 0
AnswersRead (Err refused) o = o ≡ refused_at refused.line
AnswersRead (Ok r) o = AnswersRecord r o

-- a text above the limit isn't read
abbrev pub AnswersWithin : Bool → List ℕ → Outcome → Type 0
AnswersWithin true input o = o ≡ too_long
AnswersWithin false input o = AnswersRead (record_of input) o

-- the outcome of an input
abbrev pub AnswersInput : List ℕ → Outcome → Type 0
AnswersInput input o = AnswersWithin (nat_lt script_limit (length input)) input o

-- bytes were read from a source, at most one more than the greatest script has, and the status and the text are those that they are given
pub record Judges (left_before left_now took_before took_now : Option (List ℕ)) (given : ℕ) : Type 0 where
  pub input : List ℕ
  pub few : length input ≤ script_limit + 1
  pub consumed : Consumes left_before left_now input
  pub outcome : Outcome
  pub right : AnswersInput input outcome
  pub answered : given ≡ outcome.status
  pub written : Appends took_before took_now outcome.text

-- What holds of a run of the check, with the source and the sink before it and now, and the status that it ended with.
pub record RanCheck (source source_now sink sink_now : Outside) (given : ℕ) : Type 0 where
  -- the status and the text are those of the bytes that were read
  pub input : is_cut_short given ≡ false → Judges source.bytes source_now.bytes sink.bytes sink_now.bytes given
  -- at most 16,777,217 bytes were read, whatever the status
  pub reads : ReadsFew source.bytes source_now.bytes
  -- a script was read to its end
  pub end : IsTrue (is_script_status given) → IsAtEnd source_now.bytes
  -- the words aren't answered 1
  pub command : given ≢ 1
  -- 4 comes only where the source failed
  pub read_fault : given ≡ 4 → Rose source.faults source_now.faults
  -- 5 comes only where the sink failed
  pub write_fault : given ≡ 5 → Rose sink.faults sink_now.faults
  -- with 4 nothing was written
  pub nothing : given ≡ 4 → sink_now.bytes ≡ sink.bytes
  -- no other status hides a fault of the source
  pub source_same : given ≢ 4 → source_now.faults ≡ source.faults
  -- no other status hides a fault of the sink
  pub sink_same : given ≢ 5 → sink_now.faults ≡ sink.faults
