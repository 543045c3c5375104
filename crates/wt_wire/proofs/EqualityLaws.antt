-- The tests of equality of lists of fields are those of their values.
use Rattle.std.proofs.Common.{◌≡◌, ℕ, Bool, true, List, subst, refl, sym, ◌∙◌}
use Rattle.std.specs.Cmp.{first_so, second_so}
use Rattle.std.specs.Cmp.Lexicographic.{pointwise, pointwise_decides, bytes_decides}
use Rattle.std.specs.Prelude.{nat_eq, ◌&&◌}
use Rattle.wt_wire.specs.Equality.{field_eq, fields_eq}

itself : (f : List ℕ × List ℕ) → field_eq f f ≡ true
itself f = λ i. (bytes_decides f.0 f.0).1 refl i && (bytes_decides f.1 f.1).1 refl i

field_decides : (f g : List ℕ × List ℕ) → (field_eq f g ≡ true → f ≡ g) × (f ≡ g → field_eq f g ≡ true)
field_decides f g = (
  λ e. λ i. ((bytes_decides f.0 g.0).0 (first_so (pointwise nat_eq f.0 g.0) (pointwise nat_eq f.1 g.1) e) i, (bytes_decides f.1 g.1).0 (second_so (pointwise nat_eq f.0 g.0) (pointwise nat_eq f.1 g.1) e) i),
  λ e. subst (λ (h : List ℕ × List ℕ). field_eq f h ≡ true) e (itself f),
)

pub fields_decide : (fs gs : List (List ℕ × List ℕ)) → (fields_eq fs gs ≡ true → fs ≡ gs) × (fs ≡ gs → fields_eq fs gs ≡ true)
fields_decide = pointwise_decides field_decides

pub fields_same : (r : Bool) (fs gs : List (List ℕ × List ℕ)) → r ≡ fields_eq fs gs → (r ≡ true → fs ≡ gs) × (fs ≡ gs → r ≡ true)
fields_same r fs gs e = (λ t. (fields_decide fs gs).0 (sym e ∙ t), λ s. e ∙ (fields_decide fs gs).1 s)
