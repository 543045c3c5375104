-- The set of pins, as the keys of an ordered set.
use Rattle.std.proofs.Common.{◌≡◌, ℕ, List, [], ◌∷◌, ◌++◌, Bool, true, false, cond, refl, sym, ap, ◌∙◌, Result, Ok, Err}
use Rattle.std.proofs.lemmas.Cmp.{nat_list_cmp_total}
use Rattle.std.specs.declared.cmp.Ordering.{Ordering}
use Rattle.std.specs.declared.cmp.Ordering.TheVariants.{Less, Equal, Greater}
use Rattle.std.specs.Cmp.Lexicographic.{slice_cmp}
use Rattle.std.specs.FinMap.{slice_cmp-IsAntisymmetric, nat_cmp-IsAntisymmetric}
use Rattle.std.specs.FinSet as set
use Rattle.std.specs.List.{list_any}
use Rattle.std.specs.Ordering.{nat_cmp, eq_by_cmp, is_eq, ordering_reverse}
use Rattle.std.specs.Prelude.{◌||◌, OnOk}
use Rattle.wt_config.specs.Pin.{Pins}

-- whether a digest is equal to another
abbrev pub tied : List ℕ → List ℕ → Bool
tied x y = eq_by_cmp (slice_cmp nat_cmp) x y

abbrev pub pins_of : List (List ℕ) → Pins
pins_of keys = set.from_list {R = slice_cmp nat_cmp} keys

pub pins_contain : (keys : List (List ℕ)) (digest : List ℕ) → set.contains (pins_of keys) digest ≡ list_any (tied digest) keys
pins_contain keys digest = set.contains-from_list nat_list_cmp_total keys digest

reversed_eq : (o : Ordering) → is_eq (ordering_reverse o) ≡ is_eq o
reversed_eq Less = refl
reversed_eq Equal = refl
reversed_eq Greater = refl

tied_back : (x y : List ℕ) → tied x y ≡ tied y x
tied_back x y = ap is_eq (nat_list_cmp_total.antisymm x y) ∙ reversed_eq (slice_cmp nat_cmp y x)

either : (b c : Bool) → cond b true c ≡ (b || c)
either true c = refl
either false c = refl

-- a set that has one more key is the set with that digest pinned too
pub pinned_too : (old new : List (List ℕ)) (digest : List ℕ) → ((q : List ℕ) → list_any (tied q) new ≡ cond (tied digest q) true (list_any (tied q) old)) → pins_of new ≡ set.insert (pins_of old) digest
pinned_too old new digest h =
    set.same_set nat_list_cmp_total (slice_cmp-IsAntisymmetric nat_cmp-IsAntisymmetric) (pins_of new) (set.insert (pins_of old) digest) (λ q.
    pins_contain new q ∙ h q ∙ either (tied digest q) (list_any (tied q) old)
    ∙ ap (λ b. b || list_any (tied q) old) (tied_back digest q)
    ∙ ap (λ b. tied q digest || b) (sym (pins_contain old q))
    ∙ sym (set.contains-insert nat_list_cmp_total (pins_of old) digest q))

pub one_more : (yielded : List (List ℕ)) (digest : List ℕ) → pins_of (yielded ++ digest ∷ []) ≡ set.insert (pins_of yielded) digest
one_more yielded digest = set.from_list_push nat_list_cmp_total (slice_cmp-IsAntisymmetric nat_cmp-IsAntisymmetric) yielded digest

pub on_ok : {A E : Type 0} {P : Type 0} (r : Result A E) (v : A) → r ≡ Ok v → P → OnOk r P
on_ok (Ok x) v e p = p
on_ok (Err x) v e p = tt

pub on_err : {A E : Type 0} (P : Type 0) (r : Result A E) (x : E) → r ≡ Err x → OnOk r P
on_err P (Ok v) x e = cc
on_err P (Err v) x e = tt
