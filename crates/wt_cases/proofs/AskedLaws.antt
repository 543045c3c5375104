-- What the words of a case ask for.
use Rattle.std.proofs.Common.{◌≡◌, ℕ, Bool, true, false, List, refl, subst, sym, ap, ◌∙◌}
use Rattle.std.proofs.lemmas.Bool.{true≢false}
use Rattle.std.specs.Prelude.{None, Option, Some, is_some}
use Rattle.wt_cases.specs.Cases.{case_asked}
use Rattle.wt_pair.specs.Program.{pair_asked}
use Rattle.wt_trace.specs.Asked.{Ran}
use Rattle.wt_trace.specs.Outcome.{Outcome}
use Rattle.wt_trace.specs.Outside.{Outside}
use Rattle.wt_trace.specs.Program.{asked_by}

abbrev chosen : Option (List ℕ → Outcome) → Option (List ℕ → Outcome) → Option (List ℕ → Outcome)
chosen first second = elim first [ Some asked ↦ Some asked | None ↦ second ]

first_chosen : (first second : Option (List ℕ → Outcome)) → is_some first ≡ true → first ≡ chosen first second
first_chosen (Some asked) second e = refl
first_chosen None second e = absurd (true≢false (sym e))

second_chosen : (first second : Option (List ℕ → Outcome)) → is_some first ≡ false → second ≡ chosen first second
second_chosen (Some asked) second e = absurd (true≢false e)
second_chosen None second e = refl

-- the words ask for two ends
pub asks_two_ends : (words : List (List ℕ)) (source source_now sink sink_now : Outside) (given : ℕ) → is_some (pair_asked words) ≡ true
    → Ran (pair_asked words) source source_now sink sink_now given → Ran (case_asked words) source source_now sink sink_now given
asks_two_ends words source source_now sink sink_now given e r =
    subst (λ asked. Ran asked source source_now sink sink_now given) (first_chosen (pair_asked words) (asked_by words) e) r

-- they ask for one end
pub asks_one_end : (words : List (List ℕ)) (source source_now sink sink_now : Outside) (given : ℕ) → is_some (pair_asked words) ≡ false
    → Ran (asked_by words) source source_now sink sink_now given → Ran (case_asked words) source source_now sink sink_now given
asks_one_end words source source_now sink sink_now given e r =
    subst (λ asked. Ran asked source source_now sink sink_now given) (second_chosen (pair_asked words) (asked_by words) e) r
