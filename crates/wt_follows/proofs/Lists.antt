-- Small laws of lists and of ids among them.
use Rattle.std.proofs.Common.{◌∙◌, ◌≡◌, ◌∷◌, Bool, List, [], ap, cond, false, filter, map, refl, sym, true, ℕ}
use Rattle.std.proofs.lemmas.Bool.{eq-eqb, eqb-true, or_from, or_parts, true≢false}
use Rattle.std.specs.List.{list_any}
use Rattle.std.specs.Prelude.{◌==◌, ◌||◌, nat_lt, if◌then◌else◌, not}
use Rattle.wt_follows.specs.Roles.{AreDistinct, is_in}
use Rattle.wt_kept.specs.Lists.{without_first}
use Rattle.wt_sessions.specs.StreamTable.{with_id, with_ids}

-- ---- tests

pub flip : (a b : ℕ) → (a == b) ≡ (b == a)
flip a b = by (a == b) (b == a) refl refl
  where
    by : (x y : Bool) → (a == b) ≡ x → (b == a) ≡ y → x ≡ y
    by true true e f = refl
    by false false e f = refl
    by true false e f = absurd (true≢false (sym (eq-eqb b a (sym (eqb-true a b e))) ∙ f))
    by false true e f = absurd (true≢false (sym (eq-eqb a b (sym (eqb-true b a f))) ∙ e))

pub same : (a : ℕ) → (a == a) ≡ true
same a = eq-eqb a a refl

pub not-true : (b : Bool) → not b ≡ true → b ≡ false
not-true true e = absurd (true≢false (sym e))
not-true false e = refl

-- a test that can't hold doesn't
pub refuted : (b : Bool) → (b ≡ true → ⊥) → b ≡ false
refuted true f = absurd (f refl)
refuted false f = refl

pub or-true : (b : Bool) → (b || true) ≡ true
or-true true = refl
or-true false = refl

-- ---- some in a list

pub any-filter : {X : Type 0} (p q : X → Bool) (xs : List X) → list_any p (filter q xs) ≡ true → list_any p xs ≡ true
any-filter p q [] e = e
any-filter p q (x ∷ xs) e = by (q x) e (any-filter p q xs)
  where
    by : (b : Bool) → list_any p (cond b (x ∷ filter q xs) (filter q xs)) ≡ true → (list_any p (filter q xs) ≡ true → list_any p xs ≡ true) → (p x || list_any p xs) ≡ true
    by false f again = ap (λ b. p x || b) (again f) ∙ or-true (p x)
    by true f again = here (p x) f again
      where
        here : (c : Bool) → (c || list_any p (filter q xs)) ≡ true → (list_any p (filter q xs) ≡ true → list_any p xs ≡ true) → (c || list_any p xs) ≡ true
        here true g again = refl
        here false g again = again g

pub none-filtered : {X : Type 0} (p q : X → Bool) (xs : List X) → list_any p xs ≡ false → list_any p (filter q xs) ≡ false
none-filtered p q xs e = refuted (list_any p (filter q xs)) (λ f. true≢false (sym (any-filter p q xs f) ∙ e))

-- a filter that keeps what the test asks for
pub any-kept : {X : Type 0} (p q : X → Bool) → ((x : X) → p x ≡ true → q x ≡ true) → (xs : List X) → list_any p (filter q xs) ≡ list_any p xs
any-kept p q keeps [] = refl
any-kept p q keeps (x ∷ xs) = by (p x) refl (q x) refl (any-kept p q keeps xs)
  where
    by : (a : Bool) → p x ≡ a → (b : Bool) → q x ≡ b → list_any p (filter q xs) ≡ list_any p xs → list_any p (cond b (x ∷ filter q xs) (filter q xs)) ≡ (a || list_any p xs)
    by true e true f again = ap (λ c. c || list_any p (filter q xs)) e
    by true e false f again = absurd (true≢false (sym (keeps x e) ∙ f))
    by false e true f again = ap (λ c. c || list_any p (filter q xs)) e ∙ again
    by false e false f again = again

pub any-map : {X : Type 0} (f : X → ℕ) (k : ℕ) (xs : List X) → is_in k (map f xs) ≡ list_any (λ (x : X). f x == k) xs
any-map f k [] = refl
any-map f k (x ∷ xs) = ap (λ b. (f x == k) || b) (any-map f k xs)

-- what a filter leaves out by a test, none has that passes it
pub none-left : {X : Type 0} (p q : X → Bool) → ((x : X) → p x ≡ true → q x ≡ false) → (xs : List X) → list_any p (filter q xs) ≡ false
none-left p q out [] = refl
none-left p q out (x ∷ xs) = by (q x) refl (p x) refl (none-left p q out xs)
  where
    by : (b : Bool) → q x ≡ b → (a : Bool) → p x ≡ a → list_any p (filter q xs) ≡ false → list_any p (cond b (x ∷ filter q xs) (filter q xs)) ≡ false
    by false e a f again = again
    by true e true f again = absurd (true≢false (sym e ∙ out x f))
    by true e false f again = ap (λ c. c || list_any p (filter q xs)) f ∙ again

-- ---- filters

-- a filter that all pass
pub all-pass : {X : Type 0} (q : X → Bool) (xs : List X) → list_any (λ (x : X). not (q x)) xs ≡ false → filter q xs ≡ xs
all-pass q [] e = refl
all-pass q (x ∷ xs) e = by (q x) refl (or_parts (not (q x)) (list_any (λ (y : _). not (q y)) xs) e) (all-pass q xs)
  where
    by : (b : Bool) → q x ≡ b → (not (q x) ≡ false) × (list_any (λ (y : _). not (q y)) xs ≡ false) → (list_any (λ (y : _). not (q y)) xs ≡ false → filter q xs ≡ xs) → cond b (x ∷ filter q xs) (filter q xs) ≡ x ∷ xs
    by true f parts again = ap (λ ys. x ∷ ys) (again parts.1)
    by false f parts again = absurd (true≢false (sym (ap not f) ∙ parts.0))

-- a second filter that the first implies
pub filter-implied : {X : Type 0} (p q : X → Bool) → ((x : X) → p x ≡ true → q x ≡ true) → (xs : List X) → filter p (filter q xs) ≡ filter p xs
filter-implied p q implies [] = refl
filter-implied p q implies (x ∷ xs) = by (p x) refl (q x) refl (filter-implied p q implies xs)
  where
    by : (a : Bool) → p x ≡ a → (b : Bool) → q x ≡ b → filter p (filter q xs) ≡ filter p xs → filter p (cond b (x ∷ filter q xs) (filter q xs)) ≡ cond a (x ∷ filter p xs) (filter p xs)
    by true e true f again = λ i. cond (e i) (x ∷ again i) (again i)
    by true e false f again = absurd (true≢false (sym (implies x e) ∙ f))
    by false e true f again = λ i. cond (e i) (x ∷ again i) (again i)
    by false e false f again = again

pub filter-swap : {X : Type 0} (p q : X → Bool) (xs : List X) → filter p (filter q xs) ≡ filter q (filter p xs)
filter-swap p q [] = refl
filter-swap p q (x ∷ xs) = by (p x) refl (q x) refl (filter-swap p q xs)
  where
    by : (a : Bool) → p x ≡ a → (b : Bool) → q x ≡ b → filter p (filter q xs) ≡ filter q (filter p xs)
        → filter p (cond b (x ∷ filter q xs) (filter q xs)) ≡ filter q (cond a (x ∷ filter p xs) (filter p xs))
    by true e true f again = (λ i. cond (e i) (x ∷ again i) (again i)) ∙ sym (λ i. cond (f i) (x ∷ filter q (filter p xs)) (filter q (filter p xs)))
    by true e false f again = again ∙ sym (λ i. cond (f i) (x ∷ filter q (filter p xs)) (filter q (filter p xs)))
    by false e true f again = (λ i. cond (e i) (x ∷ again i) (again i))
    by false e false f again = again

pub map-filter : {X Y : Type 0} (f : X → Y) (q : Y → Bool) (xs : List X) → map f (filter (λ (x : X). q (f x)) xs) ≡ filter q (map f xs)
map-filter f q [] = refl
map-filter f q (x ∷ xs) = by (q (f x)) (map-filter f q xs)
  where
    by : (b : Bool) → map f (filter (λ (x : _). q (f x)) xs) ≡ filter q (map f xs)
        → map f (cond b (x ∷ filter (λ (x : _). q (f x)) xs) (filter (λ (x : _). q (f x)) xs)) ≡ cond b (f x ∷ filter q (map f xs)) (filter q (map f xs))
    by true again = ap (λ ys. f x ∷ ys) again
    by false again = again

pub filter-same : {X : Type 0} (p q : X → Bool) → ((x : X) → p x ≡ q x) → (xs : List X) → filter p xs ≡ filter q xs
filter-same p q e xs = λ i. filter (λ x. e x i) xs

-- ---- ids that stand once

pub distinct-filter : (q : ℕ → Bool) (ks : List ℕ) → AreDistinct ks → AreDistinct (filter q ks)
distinct-filter q [] d = tt
distinct-filter q (k ∷ ks) d = by (q k) (distinct-filter q ks d.1)
  where
    by : (b : Bool) → AreDistinct (filter q ks) → AreDistinct (cond b (k ∷ filter q ks) (filter q ks))
    by true again = (none-filtered (λ (j : ℕ). j == k) q ks d.0, again)
    by false again = again

or-swap : (a b c : Bool) → (a || (b || c)) ≡ (b || (a || c))
or-swap true true c = refl
or-swap true false c = refl
or-swap false b c = refl

or-twice : (a c : Bool) → (a || c) ≡ (a || (a || c))
or-twice true c = refl
or-twice false c = refl

-- one more id
pub in-with : (j k : ℕ) (xs : List ℕ) → is_in j (with_id k xs) ≡ ((k == j) || is_in j xs)
in-with j k [] = refl
in-with j k (x ∷ xs) = by (k == x) refl (nat_lt k x) (in-with j k xs)
  where
    by : (b : Bool) → (k == x) ≡ b → (c : Bool) → is_in j (with_id k xs) ≡ ((k == j) || is_in j xs)
        → is_in j (if b then x ∷ xs else (if c then k ∷ x ∷ xs else x ∷ with_id k xs)) ≡ ((k == j) || ((x == j) || is_in j xs))
    by true e c again = or-twice (x == j) (is_in j xs) ∙ (λ i. (sym (eqb-true k x e) i == j) || ((x == j) || is_in j xs))
    by false e true again = refl
    by false e false again = ap (λ b. (x == j) || b) again ∙ or-swap (x == j) (k == j) (is_in j xs)

pub distinct-with : (k : ℕ) (xs : List ℕ) → is_in k xs ≡ false → AreDistinct xs → AreDistinct (with_id k xs)
distinct-with k [] e d = (refl, tt)
distinct-with k (x ∷ xs) e d = by (k == x) (nat_lt k x) (distinct-with k xs parts.1 d.1)
  where
    parts : ((x == k) ≡ false) × (is_in k xs ≡ false)
    parts = or_parts (x == k) (is_in k xs) e

    by : (b c : Bool) → AreDistinct (with_id k xs) → AreDistinct (if b then x ∷ xs else (if c then k ∷ x ∷ xs else x ∷ with_id k xs))
    by true c again = d
    by false true again = (e, d)
    by false false again = (in-with x k xs ∙ or_from (k == x) (is_in x xs) (flip k x ∙ parts.0) d.0, again)

-- more ids
pub in-with-all : (j : ℕ) (ks xs : List ℕ) → is_in j (with_ids ks xs) ≡ (is_in j ks || is_in j xs)
in-with-all j [] xs = refl
in-with-all j (k ∷ ks) xs = in-with-all j ks (with_id k xs) ∙ (ap (λ b. is_in j ks || b) (in-with j k xs) ∙ turned (is_in j ks) (k == j) (is_in j xs))
  where
    turned : (a b c : Bool) → (a || (b || c)) ≡ ((b || a) || c)
    turned true true c = refl
    turned true false c = refl
    turned false true c = refl
    turned false false c = refl

pub distinct-with-all : (ks xs : List ℕ) → AreDistinct ks → AreDistinct xs → ((k : ℕ) → is_in k ks ≡ true → is_in k xs ≡ false) → AreDistinct (with_ids ks xs)
distinct-with-all [] xs d e apart = e
distinct-with-all (k ∷ ks) xs d e apart = distinct-with-all ks (with_id k xs) d.1
    (distinct-with k xs (apart k (ap (λ b. b || is_in k ks) (same k))) e)
    (λ j f. in-with j k xs ∙ or_from (k == j) (is_in j xs) (refuted (k == j) (λ g. true≢false (sym f ∙ (ap (λ (i : ℕ). is_in i ks) (sym (eqb-true k j g)) ∙ d.0))))
    (apart j (ap (λ b. (k == j) || b) f ∙ or-true (k == j))))

-- ids of those that pass a test stand once where all do
pub distinct-sub : {X : Type 0} (f : X → ℕ) (q : X → Bool) (xs : List X) → AreDistinct (map f xs) → AreDistinct (map f (filter q xs))
distinct-sub f q [] d = tt
distinct-sub f q (x ∷ xs) d = by (q x) (distinct-sub f q xs d.1)
  where
    by : (b : Bool) → AreDistinct (map f (filter q xs)) → AreDistinct (map f (cond b (x ∷ filter q xs) (filter q xs)))
    by true again = (any-map f (f x) (filter q xs) ∙ none-filtered (λ (y : _). f y == f x) q xs (sym (any-map f (f x) xs) ∙ d.0), again)
    by false again = again

-- an id that stands once among those that pass one test isn't among those that pass its opposite
pub once : {X : Type 0} (f : X → ℕ) (q r : X → Bool) → ((x : X) → q x ≡ true → r x ≡ false) → (j : ℕ) (xs : List X) → AreDistinct (map f xs)
    → list_any (λ (x : X). f x == j) (filter q xs) ≡ true → list_any (λ (x : X). f x == j) (filter r xs) ≡ false
once f q r opposite j [] d e = refl
once f q r opposite j (x ∷ xs) d e = by (f x == j) refl (q x) refl (r x) refl e (once f q r opposite j xs d.1)
  where
    alone : (f x == j) ≡ true → list_any (λ (y : _). f y == j) xs ≡ false
    alone g = sym (any-map f j xs) ∙ (ap (λ (i : ℕ). is_in i (map f xs)) (sym (eqb-true (f x) j g)) ∙ d.0)

    by : (a : Bool) → (f x == j) ≡ a → (b : Bool) → q x ≡ b → (c : Bool) → r x ≡ c → list_any (λ (y : _). f y == j) (cond b (x ∷ filter q xs) (filter q xs)) ≡ true
        → (list_any (λ (y : _). f y == j) (filter q xs) ≡ true → list_any (λ (y : _). f y == j) (filter r xs) ≡ false)
        → list_any (λ (y : _). f y == j) (cond c (x ∷ filter r xs) (filter r xs)) ≡ false
    by true g true h true i t again = absurd (true≢false (sym i ∙ opposite x h))
    by true g true h false i t again = none-filtered (λ (y : _). f y == j) r xs (alone g)
    by true g false h c i t again = absurd (true≢false (sym t ∙ none-filtered (λ (y : _). f y == j) q xs (alone g)))
    by false g true h true i t again = absurd (true≢false (sym i ∙ opposite x h))
    by false g true h false i t again = again (ap (λ (b : Bool). b || list_any (λ (y : _). f y == j) (filter q xs)) (sym g) ∙ t)
    by false g false h true i t again = ap (λ (b : Bool). b || list_any (λ (y : _). f y == j) (filter r xs)) g ∙ again t
    by false g false h false i t again = again t

-- ---- lists that are the same

first_of : List ℕ → ℕ
first_of [] = 0
first_of (x ∷ xs) = x

rest_of : List ℕ → List ℕ
rest_of [] = []
rest_of (x ∷ xs) = xs

pub same-parts : (a b : ℕ) (as_ bs : List ℕ) → a ∷ as_ ≡ b ∷ bs → (a ≡ b) × (as_ ≡ bs)
unfolding first_of rest_of
same-parts a b as_ bs e = (ap first_of e, ap rest_of e)

-- where ids stand once, leaving out the first of an id leaves out all
pub without-first : {X : Type 0} (f : X → ℕ) (k : ℕ) (xs : List X) → AreDistinct (map f xs) → without_first (λ (x : X). f x == k) xs ≡ filter (λ (x : X). not (f x == k)) xs
without-first f k [] d = refl
without-first f k (x ∷ xs) d = by (f x == k) refl (without-first f k xs d.1)
  where
    back : (b : Bool) → not (not b) ≡ b
    back true = refl
    back false = refl

    by : (b : Bool) → (f x == k) ≡ b → without_first (λ (y : _). f y == k) xs ≡ filter (λ (y : _). not (f y == k)) xs
        → (if b then xs else x ∷ without_first (λ (y : _). f y == k) xs) ≡ cond (not b) (x ∷ filter (λ (y : _). not (f y == k)) xs) (filter (λ (y : _). not (f y == k)) xs)
    by true e again = sym (all-pass (λ (y : _). not (f y == k)) xs
        ((λ i. list_any (λ (y : _). back (f y == k) i) xs) ∙ (sym (any-map f k xs) ∙ (ap (λ (i : ℕ). is_in i (map f xs)) (sym (eqb-true (f x) k e)) ∙ d.0))))
    by false e again = ap (λ ys. x ∷ ys) again
