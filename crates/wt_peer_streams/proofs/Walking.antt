-- Going over a list from its front: what is through, and what is left.
use Rattle.std.proofs.Common.{◌+◌, ◌<◌, ◌≡◌, ◌≤◌, ◌∙◌, ◌++◌, ◌∷◌, [], Bool, List, add-one, ap, arith, drop, false, get_or, length, map, refl, suc, sym, take, true, zero, ℕ}
use Rattle.std.specs.List.{remove}
use Rattle.std.specs.Prelude.{filter, if◌then◌else◌, not}

module _ {X : Type 0} where
  -- nothing is left behind the end
  pub none-left : (xs : List X) (i : ℕ) → length xs ≤ i → drop i xs ≡ []
  none-left [] zero l = refl
  none-left [] (suc i) l = refl
  none-left (x ∷ xs) zero l = absurd (omega arith)
  none-left (x ∷ xs) (suc i) l = none-left xs i (omega arith)

  -- all is through at the end
  pub all-through : (xs : List X) (i : ℕ) → length xs ≤ i → take i xs ≡ xs
  all-through [] zero l = refl
  all-through [] (suc i) l = refl
  all-through (x ∷ xs) zero l = absurd (omega arith)
  all-through (x ∷ xs) (suc i) l = ap (λ ys. x ∷ ys) (all-through xs i (omega arith))

  -- the next one
  pub next-at : (xs : List X) (i : ℕ) (d x : X) → i < length xs → get_or xs i d ≡ x → drop i xs ≡ x ∷ drop (suc i) xs
  next-at [] i d x l is = absurd (omega arith)
  next-at (y ∷ xs) zero d x l is = ap (λ z. z ∷ xs) is
  next-at (y ∷ xs) (suc i) d x l is = next-at xs i d x (omega arith) is

  pub next-left : (xs : List X) (i : ℕ) (x : X) → i < length xs → x ≡ get_or xs i x → drop i xs ≡ x ∷ drop (suc i) xs
  next-left xs i x l is = next-at xs i x x l (sym is)

  pub next-through : (xs : List X) (i : ℕ) (x : X) → i < length xs → x ≡ get_or xs i x → take (suc i) xs ≡ take i xs ++ x ∷ []
  next-through [] i x l is = absurd (omega arith)
  next-through (y ∷ xs) zero x l is = ap (λ z. z ∷ []) (sym is)
  next-through (y ∷ xs) (suc i) x l is = ap (λ zs. y ∷ zs) (next-through xs i x (omega arith) is)

  -- one is taken out
  pub out-through : (xs : List X) (i : ℕ) → i < length xs → take i (remove xs i) ≡ take i xs
  out-through [] i l = absurd (omega arith)
  out-through (x ∷ xs) zero l = refl
  out-through (x ∷ xs) (suc i) l = ap (λ ys. x ∷ ys) (out-through xs i (omega arith))

  pub out-left : (xs : List X) (i : ℕ) → i < length xs → drop i (remove xs i) ≡ drop (suc i) xs
  out-left [] i l = absurd (omega arith)
  out-left (x ∷ xs) zero l = refl
  out-left (x ∷ xs) (suc i) l = out-left xs i (omega arith)

  pub out-length : (xs : List X) (i : ℕ) → i < length xs → length (remove xs i) + 1 ≡ length xs
  out-length [] i l = absurd (omega arith)
  out-length (x ∷ xs) zero l = omega arith
  out-length (x ∷ xs) (suc i) l = let e = out-length xs i (omega arith) in omega arith

  append-one : (xs : List X) (y : X) (zs : List X) → (xs ++ y ∷ []) ++ zs ≡ xs ++ y ∷ zs
  append-one [] y zs = refl
  append-one (x ∷ xs) y zs = ap (λ ys. x ∷ ys) (append-one xs y zs)

  append-none : (xs : List X) → xs ++ [] ≡ xs
  append-none [] = refl
  append-none (x ∷ xs) = ap (λ ys. x ∷ ys) (append-none xs)

  length-append : (xs ys : List X) → length (xs ++ ys) ≡ length xs + length ys
  length-append [] ys = omega arith
  length-append (x ∷ xs) ys = let e = length-append xs ys in omega arith

  -- ---- a list that is split by a test: `front` stays, `part` went

  pub record IsSplit (p : X → Bool) (first part_first from part : List X) (index : ℕ) : Type 0 where
    pub rest : take index from ++ filter (λ (x : X). not (p x)) (drop index from) ≡ filter (λ (x : X). not (p x)) first
    pub gone : part ++ filter p (drop index from) ≡ part_first ++ filter p first
    pub within : index ≤ length from
    pub few : length from ≤ length first
    pub few_more : length part + length from ≤ length part_first + length first

  pub split-none : (p : X → Bool) (first part : List X) → IsSplit p first part first part 0
  split-none p first part = record { rest = refl; gone = refl; within = omega arith; few = omega arith; few_more = omega arith }

  pub split-goes : (p : X → Bool) (first part_first from part : List X) (index : ℕ) (x : X) → IsSplit p first part_first from part index → index < length from → x ≡ get_or from index x → p x ≡ true
      → IsSplit p first part_first (remove from index) (part ++ x ∷ []) index
  split-goes p first part_first from part index x s l is goes =
      let left = next-left from index x l is in
      let count = out-length from index l in
      let few = s.few in
      let more = s.few_more in
      let longer = length-append part (x ∷ []) in
      record {
        rest = ap (λ ys. ys ++ filter (λ (y : X). not (p y)) (drop index (remove from index))) (out-through from index l)
            ∙ (ap (λ ys. take index from ++ filter (λ (y : X). not (p y)) ys) (out-left from index l)
            ∙ (sym (ap (λ ys. take index from ++ filter (λ (y : X). not (p y)) ys) left ∙ ap (λ b. take index from ++ (if not b then x ∷ filter (λ (y : X). not (p y)) (drop (suc index) from) else filter (λ (y : X). not (p y)) (drop (suc index) from))) goes) ∙ s.rest));
        gone = ap (λ ys. (part ++ x ∷ []) ++ filter p ys) (out-left from index l)
            ∙ (append-one part x (filter p (drop (suc index) from))
            ∙ (sym (ap (λ ys. part ++ filter p ys) left ∙ ap (λ b. part ++ (if b then x ∷ filter p (drop (suc index) from) else filter p (drop (suc index) from))) goes) ∙ s.gone));
        within = omega arith;
        few = omega arith;
        few_more = omega arith;
      }

  pub split-stays : (p : X → Bool) (first part_first from part : List X) (index : ℕ) (x : X) → IsSplit p first part_first from part index → index < length from → x ≡ get_or from index x → p x ≡ false
      → IsSplit p first part_first from part (index + 1)
  split-stays p first part_first from part index x s l is stays =
      let left = next-left from index x l is in
      record {
        rest = ap (λ ys. ys ++ filter (λ (y : X). not (p y)) (drop (index + 1) from)) (ap (λ n. take n from) (add-one index) ∙ next-through from index x l is)
            ∙ (append-one (take index from) x (filter (λ (y : X). not (p y)) (drop (index + 1) from))
            ∙ (ap (λ n. take index from ++ x ∷ filter (λ (y : X). not (p y)) (drop n from)) (add-one index)
            ∙ (sym (ap (λ ys. take index from ++ filter (λ (y : X). not (p y)) ys) left ∙ ap (λ b. take index from ++ (if not b then x ∷ filter (λ (y : X). not (p y)) (drop (suc index) from) else filter (λ (y : X). not (p y)) (drop (suc index) from))) stays) ∙ s.rest)));
        gone = ap (λ n. part ++ filter p (drop n from)) (add-one index)
            ∙ (sym (ap (λ ys. part ++ filter p ys) left ∙ ap (λ b. part ++ (if b then x ∷ filter p (drop (suc index) from) else filter p (drop (suc index) from))) stays) ∙ s.gone);
        within = omega arith;
        few = s.few;
        few_more = s.few_more;
      }

  pub split-rest : (p : X → Bool) (first part_first from part : List X) (index : ℕ) → IsSplit p first part_first from part index → length from ≤ index → from ≡ filter (λ (x : X). not (p x)) first
  split-rest p first part_first from part index s le =
      sym (append-none from) ∙ (ap (λ ys. ys ++ []) (sym (all-through from index le)) ∙ (ap (λ ys. take index from ++ filter (λ (x : X). not (p x)) ys) (sym (none-left from index le)) ∙ s.rest))

  pub split-part : (p : X → Bool) (first part_first from part : List X) (index : ℕ) → IsSplit p first part_first from part index → length from ≤ index → part ≡ part_first ++ filter p first
  split-part p first part_first from part index s le = sym (append-none part) ∙ (ap (λ ys. part ++ filter p ys) (sym (none-left from index le)) ∙ s.gone)

-- ---- a list that is mapped

pub mapped-more : {X Y : Type 0} (f : X → Y) (xs : List X) (i : ℕ) (x : X) (ys : List Y) → i < length xs → x ≡ get_or xs i x → ys ≡ map f (take i xs) → ys ++ f x ∷ [] ≡ map f (take (i + 1) xs)
mapped-more {X} {Y} f xs i x ys l is e = ap (λ zs. zs ++ f x ∷ []) e ∙ (sym (map-one (take i xs)) ∙ ap (λ zs. map f zs) (sym (next-through xs i x l is) ∙ ap (λ n. take n xs) (sym (add-one i))))
  where
    map-one : (zs : List X) → map f (zs ++ x ∷ []) ≡ map f zs ++ f x ∷ []
    map-one [] = refl
    map-one (z ∷ zs) = ap (λ ws. f z ∷ ws) (map-one zs)

-- both are what stands there
pub same-read : {X : Type 0} (xs : List X) (i : ℕ) (x y : X) → i < length xs → x ≡ get_or xs i x → y ≡ get_or xs i y → x ≡ y
same-read [] i x y l a b = absurd (omega arith)
same-read (z ∷ xs) zero x y l a b = a ∙ sym b
same-read (z ∷ xs) (suc i) x y l a b = same-read xs i x y (omega arith) a b
