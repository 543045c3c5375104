-- A map from ids, as values by id.
use Rattle.std.proofs.Common.{arith, ◌≡◌, ◌<◌, ℕ, Bool, true, false, List, [], ◌∷◌, cond, refl, sym, ap, ◌∙◌}
use Rattle.std.proofs.lemmas.Bool.{eq-eqb, eqb-true, ltb-true, ne_eqb}
use Rattle.std.specs.BTreeMap.{is_at}
use Rattle.std.specs.Map.{lookup}
use Rattle.std.specs.Ordering.{is_eq, nat_cmp}
use Rattle.std.specs.declared.cmp.Ordering.TheVariants.{Equal, Greater, Less}
use Rattle.std.specs.Prelude.{◌==◌, None, Option, Some, if◌then◌else◌, nat_lt}
use Rattle.wt_check.specs.ById.{value_at}

turned : (k q : ℕ) → (k == q) ≡ (q == k)
turned k q = by (k == q) refl where
  by : (b : Bool) → (k == q) ≡ b → b ≡ (q == k)
  by true e = sym (eq-eqb q k (sym (eqb-true k q e)))
  by false e = sym (ne_eqb q k (λ same. let t : (k == q) ≡ true = eq-eqb k q (sym same) in absurd cc))

-- ids compare as equal where they are
pub same_test : (k q : ℕ) → is_at (nat_cmp k) q ≡ (q == k)
same_test k q = by (nat_lt k q) refl (k == q) (turned k q) where
  by : (b : Bool) → nat_lt k q ≡ b → (c : Bool) → c ≡ (q == k) → is_eq (cond b Less (cond c Equal Greater)) ≡ (q == k)
  by true e c f = sym (ne_eqb q k (λ same. omega (arith, ltb-true k q e)))
  by false e true f = f
  by false e false f = f

pub value_is : {T : Type 0} (entries : List (ℕ × T)) (k : ℕ) → lookup (is_at (nat_cmp k)) entries ≡ value_at entries k
value_is [] k = refl
value_is {T = T} (e ∷ entries) k =
    ap (λ b. cond b (Some e.1) (lookup (is_at (nat_cmp k)) entries)) (same_test k e.0) ∙ ap (λ (o : Option T). if e.0 == k then Some e.1 else o) (value_is entries k)

-- a map in which one value was changed
pub value_changed : {T : Type 0} (old new : List (ℕ × T)) (id : ℕ) (v : Option T)
    → ((q : ℕ) → lookup (is_at (nat_cmp q)) new ≡ cond (is_at (nat_cmp id) q) v (lookup (is_at (nat_cmp q)) old))
    → (k : ℕ) → value_at new k ≡ (if k == id then v else value_at old k)
value_changed {T = T} old new id v e k =
    sym (value_is new k) ∙ e k ∙ ap (λ b. cond b v (lookup (is_at (nat_cmp k)) old)) (same_test id k) ∙ ap (λ (o : Option T). if k == id then v else o) (value_is old k)

-- the same by a key that is the id
pub value_of : {T : Type 0} (entries : List (ℕ × T)) (id key : ℕ) → key ≡ id → lookup (is_at (nat_cmp key)) entries ≡ value_at entries id
value_of entries id key e = value_is entries key ∙ ap (value_at entries) e

pub values_changed : {T : Type 0} (old new : List (ℕ × T)) (id key : ℕ) (v : Option T) → key ≡ id
    → ((q : ℕ) → lookup (is_at (nat_cmp q)) new ≡ cond (is_at (nat_cmp key) q) v (lookup (is_at (nat_cmp q)) old))
    → (k : ℕ) → value_at new k ≡ (if k == id then v else value_at old k)
values_changed {T = T} old new id key v e changes k =
    value_changed old new key v changes k ∙ ap (λ (n : ℕ). if k == n then v else value_at old k) e
