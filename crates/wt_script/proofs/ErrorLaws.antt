-- The error of a code.
use Rattle.std.proofs.Common.{◌≡◌, ℕ, List, [], ◌∷◌, ap, refl, sym, ◌∙◌}
use Rattle.std.proofs.lemmas.Bool.{ne_eqb}
use Rattle.std.specs.Option.{option_map}
use Rattle.std.specs.Prelude.{None, Some, codes, false, if◌then◌else◌}
use Rattle.wt_wire.specs.Codes.{code_of}
use Rattle.wt_wire.specs.declared.error.ErrorCode.{ErrorCode}
use Rattle.wt_script.specs.AnswerErrors.{all_errors, error_among, error_of, exact_failed_of, read_failed_of, with_bytes}
use Rattle.wt_script.specs.Numbers.{bytes_of, count_of}
use Rattle.wt_script.specs.Words.{is_word, two}
use Rattle.wt_script.proofs.SpelledErrors.{error_of_code}

pub error_is : (e : ErrorCode) (code : ℕ) → code_of e ≡ code → error_of code ≡ Some e
error_is e code is = ap error_of (sym is) ∙ error_of_code e

none_among : (es : List ErrorCode) (code : ℕ) → ((e : ErrorCode) → code_of e ≡ code → ⊥) → error_among es code ≡ None
none_among [] code none = refl
none_among (e ∷ es) code none = ap (λ b. if b then Some e else error_among es code) (ne_eqb (code_of e) code (none e)) ∙ none_among es code none

pub no_error : (code : ℕ) → ((e : ErrorCode) → code_of e ≡ code → ⊥) → error_of code ≡ None
no_error code none = none_among all_errors code none

-- an exact read that failed in another way
pub other_failed : (fields : List (List ℕ)) (name : List ℕ) (found : List (List ℕ)) → fields ≡ name ∷ found → is_word name (codes "finished_early") ≡ false
    → exact_failed_of fields ≡ read_failed_of fields
other_failed fields name found is differs =
    ap exact_failed_of is ∙ ap (λ b. if b then option_map with_bytes (two count_of bytes_of found) else read_failed_of (name ∷ found)) differs ∙ ap read_failed_of (sym is)
