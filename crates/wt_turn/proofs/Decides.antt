-- A test that is an equivalence, and that finds equal only what is equal, decides equality.
use Rattle.std.proofs.Common.{◌≡◌, Bool, true, sym, subst, Decides}
use Rattle.std.specs.Cmp.{IsEquivalence}

pub decides : {A : Type 0} (test : A → A → Bool) → IsEquivalence test → ((a b : A) → test a b ≡ true → a ≡ b)
    → (a b : A) → Decides (test a b) (a ≡ b)
decides test laws joins a b = (joins a b, λ same. subst (λ other. test a other ≡ true) same (laws.refl a))

-- so does what answers as the test does
pub answered : {A : Type 0} {test : A → A → Bool} → ((a b : A) → Decides (test a b) (a ≡ b))
    → (a b : A) (answer : Bool) → answer ≡ test a b → Decides answer (a ≡ b)
answered both a b answer e = subst (λ t. Decides t (a ≡ b)) (sym e) (both a b)
