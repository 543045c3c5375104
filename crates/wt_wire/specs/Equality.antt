-- When two lists of fields are equal: same names and same values, in the same order.
use Rattle.std.specs.Prelude.{ℕ, Bool, ◌&&◌, List, nat_eq}
use Rattle.std.specs.Cmp.{IsEquivalence, and_equiv, on_equiv}
use Rattle.std.specs.Cmp.Lexicographic.{pointwise, lists_equiv, nat_list_eq_equiv}

-- two fields
abbrev pub field_eq : List ℕ × List ℕ → List ℕ × List ℕ → Bool
field_eq f g = pointwise nat_eq f.0 g.0 && pointwise nat_eq f.1 g.1

-- two lists of fields
abbrev pub fields_eq : List (List ℕ × List ℕ) → List (List ℕ × List ℕ) → Bool
fields_eq = pointwise field_eq

-- it is an equivalence
pub fields_equiv : IsEquivalence fields_eq
fields_equiv = lists_equiv (and_equiv (on_equiv (λ f. f.0) nat_list_eq_equiv) (on_equiv (λ f. f.1) nat_list_eq_equiv))
