-- Small laws of booleans, numbers, options and lists that several files cite.
use Rattle.std.specs.Prelude.{[], ◌&&◌, ◌==◌, ◌||◌, ◌≡◌, Bool, None, Option, Some, false, is_some, suc, take, true, zero, ℕ}
use Rattle.std.specs.Option.{option_or}
use Rattle.std.proofs.Common.{◌∙◌, refl, sym}
use Rattle.std.proofs.lemmas.Bool.{eq-eqb, eqb-true}

pub or-false : (b : Bool) → (b || false) ≡ b
or-false true = refl
or-false false = refl

pub and-false : (b : Bool) → (b && false) ≡ false
and-false true = refl
and-false false = refl

pub and-true : (b : Bool) → (b && true) ≡ b
and-true true = refl
and-true false = refl

pub or-turned : (a b c : Bool) → (a || (b || c)) ≡ (b || (a || c))
or-turned true true c = refl
or-turned true false c = refl
or-turned false b c = refl

-- where one of two holds and the second doesn't, the first does
pub or-first : (a b : Bool) → (a || b) ≡ true → b ≡ false → a ≡ true
or-first true b e f = refl
or-first false b e f = absurd (let r : true ≡ false = sym e ∙ f in cc r)

pub eqb-sym : (a b : ℕ) → (a == b) ≡ (b == a)
eqb-sym a b = by (a == b) (b == a) refl refl
  where
    by : (p q : Bool) → (a == b) ≡ p → (b == a) ≡ q → p ≡ q
    by true true e f = refl
    by false false e f = refl
    by true false e f = let r : (b == a) ≡ true = eq-eqb b a (sym (eqb-true a b e)) in absurd (cc (sym r ∙ f))
    by false true e f = let r : (a == b) ≡ true = eq-eqb a b (sym (eqb-true b a f)) in absurd (cc (sym e ∙ r))

pub or-none : {T : Type 0} (o : Option T) → option_or o None ≡ o
or-none None = refl
or-none (Some x) = refl

pub is-none : {T : Type 0} (o : Option T) → is_some o ≡ false → o ≡ None
is-none None e = refl
is-none (Some x) e = absurd (cc e)

pub take-none : (n : ℕ) → take {A = ℕ} n [] ≡ []
take-none zero = refl
take-none (suc n) = refl
