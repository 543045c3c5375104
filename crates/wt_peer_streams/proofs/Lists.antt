-- The first of a list that passes a test: where it stands, and what is left without it.
use Rattle.std.proofs.Common.{◌<◌, ◌≡◌, ◌∙◌, ◌∷◌, [], Bool, List, None, Option, Some, ap, arith, false, get_or, length, refl, set, suc, sym, true, zero, ℕ, inl, inr}
use Rattle.std.proofs.lemmas.Bool.{cases_lt}
use Rattle.std.proofs.lemmas.Bool.Decides.{nat_tests}
use Rattle.std.proofs.lemmas.List.Quantifiers.{position-Some}
use Rattle.std.proofs.lemmas.List.Sums.{fails_before_first}
use Rattle.std.specs.List.{list_any, position, position_or_len, remove}
use Rattle.std.specs.Prelude.{◌==◌, ◌||◌, find, is_some, nat_lt}
use Rattle.wt_kept.specs.Lists.{changed_first, without_first}
use Rattle.wt_kept.specs.Windows.{is_of_kind, without_stream}
use Rattle.wt_sessions.specs.StreamTable.{Waiting}

-- no test passes
none-passes : {X : Type 0} (p : X → Bool) (xs : List X) (d : X) → position p xs ≡ None → (k : ℕ) → k < length xs → p (get_or xs k d) ≡ false
none-passes p xs d e k l = elim (cases_lt k (position_or_len p xs)) [
  | inl lt ↦ fails_before_first p xs k d lt
  | inr le ↦ (let some : nat_lt (position_or_len p xs) (length xs) ≡ true = grind (arith, nat_tests) in
      let found : position p xs ≡ Some (position_or_len p xs) = rw some refl in
      absurd (cc))
]

module _ {X : Type 0} (p : X → Bool) where
  -- ---- by the index

  find-at : (xs : List X) (i : ℕ) (d : X) → i < length xs → p (get_or xs i d) ≡ true → ((k : ℕ) → k < i → p (get_or xs k d) ≡ false) → find p xs ≡ Some (get_or xs i d)
  find-at [] i d l e first = absurd (omega arith)
  find-at (x ∷ xs) zero d l e first = rw e refl
  find-at (x ∷ xs) (suc i) d l e first = rw (first 0 (omega arith)) (find-at xs i d (omega arith) e (λ k lt. first (suc k) (omega arith)))

  any-at : (xs : List X) (i : ℕ) (d : X) → i < length xs → p (get_or xs i d) ≡ true → list_any p xs ≡ true
  any-at [] i d l e = absurd (omega arith)
  any-at (x ∷ xs) zero d l e = rw e refl
  any-at (x ∷ xs) (suc i) d l e = either (p x) (any-at xs i d (omega arith) e)
    where
      either : (b : Bool) → list_any p xs ≡ true → (b || list_any p xs) ≡ true
      either true e = refl
      either false e = e

  pub without-at : (xs : List X) (i : ℕ) (d : X) → i < length xs → p (get_or xs i d) ≡ true → ((k : ℕ) → k < i → p (get_or xs k d) ≡ false) → remove xs i ≡ without_first p xs
  without-at [] i d l e first = absurd (omega arith)
  without-at (x ∷ xs) zero d l e first = rw e refl
  without-at (x ∷ xs) (suc i) d l e first = rw (first 0 (omega arith)) (ap (λ ys. x ∷ ys) (without-at xs i d (omega arith) e (λ k lt. first (suc k) (omega arith))))

  changed-at : (f : X → X) (xs : List X) (i : ℕ) (d : X) → i < length xs → p (get_or xs i d) ≡ true → ((k : ℕ) → k < i → p (get_or xs k d) ≡ false) → set xs i (f (get_or xs i d)) ≡ changed_first p f xs
  changed-at f [] i d l e first = absurd (omega arith)
  changed-at f (x ∷ xs) zero d l e first = rw e refl
  changed-at f (x ∷ xs) (suc i) d l e first = rw (first 0 (omega arith)) (ap (λ ys. x ∷ ys) (changed-at f xs i d (omega arith) e (λ k lt. first (suc k) (omega arith))))

  find-never : (xs : List X) (d : X) → ((k : ℕ) → k < length xs → p (get_or xs k d) ≡ false) → find p xs ≡ None
  find-never [] d never = refl
  find-never (x ∷ xs) d never = rw (never 0 (omega arith)) (find-never xs d (λ k lt. never (suc k) (omega arith)))

  any-never : (xs : List X) (d : X) → ((k : ℕ) → k < length xs → p (get_or xs k d) ≡ false) → list_any p xs ≡ false
  any-never [] d never = refl
  any-never (x ∷ xs) d never = rw (never 0 (omega arith)) (any-never xs d (λ k lt. never (suc k) (omega arith)))

  without-never : (xs : List X) (d : X) → ((k : ℕ) → k < length xs → p (get_or xs k d) ≡ false) → without_first p xs ≡ xs
  without-never [] d never = refl
  without-never (x ∷ xs) d never = rw (never 0 (omega arith)) (ap (λ ys. x ∷ ys) (without-never xs d (λ k lt. never (suc k) (omega arith))))

  changed-never : (f : X → X) (xs : List X) (d : X) → ((k : ℕ) → k < length xs → p (get_or xs k d) ≡ false) → changed_first p f xs ≡ xs
  changed-never f [] d never = refl
  changed-never f (x ∷ xs) d never = rw (never 0 (omega arith)) (ap (λ ys. x ∷ ys) (changed-never f xs d (λ k lt. never (suc k) (omega arith))))

  -- ---- where it stands

  pub found-below : (xs : List X) (i : ℕ) (d : X) → position p xs ≡ Some i → i < length xs
  found-below xs i d e = (position-Some p xs i d e).0

  pub found-is : (xs : List X) (i : ℕ) (d : X) → position p xs ≡ Some i → find p xs ≡ Some (get_or xs i d)
  found-is xs i d e = let at = position-Some p xs i d e in find-at xs i d at.0 at.1 at.2

  pub found-any : (xs : List X) (i : ℕ) (d : X) → position p xs ≡ Some i → list_any p xs ≡ true
  found-any xs i d e = let at = position-Some p xs i d e in any-at xs i d at.0 at.1

  pub found-out : (xs : List X) (i : ℕ) (d : X) → position p xs ≡ Some i → remove xs i ≡ without_first p xs
  found-out xs i d e = let at = position-Some p xs i d e in without-at xs i d at.0 at.1 at.2

  pub found-changed : (f : X → X) (xs : List X) (i : ℕ) (d : X) → position p xs ≡ Some i → set xs i (f (get_or xs i d)) ≡ changed_first p f xs
  found-changed f xs i d e = let at = position-Some p xs i d e in changed-at f xs i d at.0 at.1 at.2

  -- ---- it is nowhere

  pub none-is : (xs : List X) → position p xs ≡ None → find p xs ≡ None
  none-is [] e = refl
  none-is (x ∷ xs) e = find-never (x ∷ xs) x (none-passes p (x ∷ xs) x e)

  pub none-any : (xs : List X) → position p xs ≡ None → list_any p xs ≡ false
  none-any [] e = refl
  none-any (x ∷ xs) e = any-never (x ∷ xs) x (none-passes p (x ∷ xs) x e)

  pub none-out : (xs : List X) → position p xs ≡ None → without_first p xs ≡ xs
  none-out [] e = refl
  none-out (x ∷ xs) e = without-never (x ∷ xs) x (none-passes p (x ∷ xs) x e)

  pub none-changed : (f : X → X) (xs : List X) → position p xs ≡ None → xs ≡ changed_first p f xs
  none-changed f [] e = refl
  none-changed f (x ∷ xs) e = sym (changed-never f (x ∷ xs) x (none-passes p (x ∷ xs) x e))

  pub any-position : (xs : List X) (o : Option ℕ) → position p xs ≡ o → list_any p xs ≡ is_some o
  any-position [] None e = refl
  any-position [] (Some i) e = absurd (cc)
  any-position (x ∷ xs) None e = none-any (x ∷ xs) e
  any-position (x ∷ xs) (Some i) e = found-any (x ∷ xs) i x e

-- the first stream of a kind is the first of its id
pub kind-out : (b : Bool) (xs : List Waiting) (i : ℕ) (x : Waiting) → position (λ (y : Waiting). is_of_kind b y.id) xs ≡ Some i → x ≡ get_or xs i x → remove xs i ≡ without_stream x.id xs
kind-out b xs i x at is =
    let found = position-Some (λ (y : Waiting). is_of_kind b y.id) xs i x at in
    without-at (λ (y : Waiting). y.id == x.id) xs i x found.0 (same found.1) (λ k lt. other k ((get_or xs k x).id == x.id) refl (found.2 k lt) found.1)
  where
    same : is_of_kind b (get_or xs i x).id ≡ true → ((get_or xs i x).id == x.id) ≡ true
    same e = let ids : (get_or xs i x).id ≡ x.id = ap (λ (y : Waiting). y.id) (sym is) in grind (arith, nat_tests)

    other : (k : ℕ) (c : Bool) → ((get_or xs k x).id == x.id) ≡ c → is_of_kind b (get_or xs k x).id ≡ false → is_of_kind b (get_or xs i x).id ≡ true → c ≡ false
    other k false e no_kind kind = refl
    other k true e no_kind kind =
        let ids : (get_or xs k x).id ≡ x.id = grind (arith, nat_tests) in
        let here : (get_or xs i x).id ≡ x.id = ap (λ (y : Waiting). y.id) (sym is) in
        let f : is_of_kind b x.id ≡ false = ap (λ n. is_of_kind b n) (sym ids) ∙ no_kind in
        let t : is_of_kind b x.id ≡ true = ap (λ n. is_of_kind b n) (sym here) ∙ kind in
        absurd (cc)
