-- Fields, one after another.
use Rattle.std.proofs.Common.{◌≡◌, ℕ, zero, suc, ◌-◌, ◌<◌, List, [], ◌∷◌, ◌∙◌, refl, ap, arith}
use Rattle.std.specs.Prelude.{Option, Some, None}
use Rattle.std.specs.Option.{option_and_then}
use Rattle.wt_wire.specs.HeaderList.{Fields, with_field}
use Rattle.wt_abi.specs.Texts.{field_at, fields_from}

pub refused : (n : ℕ) (fields : Fields) (bytes : List ℕ) → 0 < n → field_at bytes ≡ None → fields_from n fields bytes ≡ None
refused zero fields bytes some e = absurd (omega arith)
refused (suc n) fields bytes some e = ap (option_and_then (λ f. fields_from n (with_field f.0.0 f.0.1 fields) f.1)) e

pub added : (n : ℕ) (fields : Fields) (bytes name value after : List ℕ) → 0 < n → field_at bytes ≡ Some ((name, value), after)
    → fields_from n fields bytes ≡ fields_from (n - 1) (with_field name value fields) after
added zero fields bytes name value after some e = absurd (omega arith)
added (suc n) fields bytes name value after some e =
    let back : n ≡ suc n - 1 = omega arith in
    ap (option_and_then (λ f. fields_from n (with_field f.0.0 f.0.1 fields) f.1)) e ∙ ap (λ m. fields_from m (with_field name value fields) after) back

pub ends : (n : ℕ) (fields : Fields) (bytes : List ℕ) → n ≡ 0 → bytes ≡ [] → fields_from n fields bytes ≡ Some fields
ends zero fields [] e none = refl
ends zero fields (b ∷ bytes) e none = cc
ends (suc n) fields bytes e none = absurd (omega arith)

pub goes_on : (n : ℕ) (fields : Fields) (bytes : List ℕ) → n ≡ 0 → (bytes ≡ [] → ⊥) → fields_from n fields bytes ≡ None
goes_on zero fields [] e some = absurd (some refl)
goes_on zero fields (b ∷ bytes) e some = refl
goes_on (suc n) fields bytes e some = absurd (omega arith)
