-- What a recorded case says (this repository's own).
use Rattle.std.specs.Prelude.{◌≡◌, List, None, Option, Some, false, map, string_bytes, ℕ}
use Rattle.wt_cases.specs.declared.case.Case.{Case}
use Rattle.wt_check.specs.Outcome.{asks_check}
use Rattle.wt_pair.specs.Program.{pair_asked}
use Rattle.wt_trace.specs.Outcome.{Outcome, asked_outcome}
use Rattle.wt_trace.specs.Program.{asked_by}

-- what the words ask for: two ends, or one
abbrev pub case_asked : List (List ℕ) → Option (List ℕ → Outcome)
case_asked words = elim (pair_asked words) [ Some asked ↦ Some asked | None ↦ asked_by words ]

-- the definitions give the case's text and status for its words and its script, but for a record that is checked, of which nothing is said
pub record IsAnswered (case : Case) : Type 0 where
  pub status : asks_check (map string_bytes case.words.items) ≡ false → (asked_outcome (case_asked (map string_bytes case.words.items)) case.script.items).status ≡ case.status
  pub text : asks_check (map string_bytes case.words.items) ≡ false → (asked_outcome (case_asked (map string_bytes case.words.items)) case.script.items).text ≡ case.text.items
