-- Items that begin with a type and a length: what is decided of them is steady, and awaits no more bytes than it needs.
use Rattle.std.proofs.Common.{◌≡◌, ℕ, ◌+◌, ◌<◌, ◌≤◌, Bool, true, false, List, ◌++◌, length, drop, Option, Some, None, cond, refl, sym, ap, ◌∙◌, arith}
use Rattle.std.proofs.lemmas.List.{length-append, length-drop, drop-append-le}
use Rattle.wt_proto.specs.declared.walk.Step.{Step}
use Rattle.wt_proto.specs.declared.walk.Step.TheVariants.{Cut}
use Rattle.wt_proto.specs.Steady.{IsAwaited, IsSteady, size_of_step}
use Rattle.wt_proto.specs.Wanted.{varint_wants}
use Rattle.wt_proto.proofs.WantedLaws.{after-onward, after-still, varint-few, varint-onward, varint-still}
use Rattle.wt_wire.specs.Varint.{varint_at}
use Rattle.wt_wire.proofs.VarintLaws.{varint_at-front, varint_at-more, varint_at-within}

-- how an item is judged: some types at once, after their own bytes; others with their length, and how many bytes that wants
pub record Judge (O : Type 0) : Type 0 where
  pub early : ℕ → Bool
  pub at_once : ℕ → Step (Unit {0}) O
  pub judge : List ℕ → ℕ → ℕ → ℕ → Step (Unit {0}) O
  pub wants : ℕ → ℕ → ℕ → ℕ

abbrev pub by_length : {O : Type 0} → Judge O → List ℕ → ℕ → ℕ → Option (ℕ × ℕ) → Step (Unit {0}) O
by_length j bytes kind offset None = Cut
by_length j bytes kind offset (Some l) = j.judge bytes kind (offset + l.1) l.0

abbrev pub by_type : {O : Type 0} → Judge O → List ℕ → Option (ℕ × ℕ) → Step (Unit {0}) O
by_type j bytes None = Cut
by_type j bytes (Some t) = cond (j.early t.0) (j.at_once t.1) (by_length j bytes t.0 t.1 (varint_at (drop t.1 bytes)))

abbrev pub wants_by_length : {O : Type 0} → Judge O → List ℕ → ℕ → ℕ → Option (ℕ × ℕ) → ℕ
wants_by_length j bytes kind offset None = offset + varint_wants (drop offset bytes)
wants_by_length j bytes kind offset (Some l) = j.wants kind (offset + l.1) l.0

abbrev pub wants_by_type : {O : Type 0} → Judge O → List ℕ → Option (ℕ × ℕ) → ℕ
wants_by_type j bytes None = varint_wants bytes
wants_by_type j bytes (Some t) = cond (j.early t.0) t.1 (wants_by_length j bytes t.0 t.1 (varint_at (drop t.1 bytes)))

-- what such a judge has to meet, and at most how many bytes it wants beside the header
pub record IsJudge {O : Type 0} (j : Judge O) (most : ℕ) : Type 0 where
  pub once : (n : ℕ) → size_of_step (j.at_once n) ≡ Some n
  pub more : (xs ys : List ℕ) (kind header size n : ℕ) → header ≤ length xs → size_of_step (j.judge xs kind header size) ≡ Some n
      → j.judge (xs ++ ys) kind header size ≡ j.judge xs kind header size
  pub front : (xs ys : List ℕ) (kind header size n : ℕ) → header ≤ length xs → size_of_step (j.judge (xs ++ ys) kind header size) ≡ Some n → n ≤ length xs
      → j.judge xs kind header size ≡ j.judge (xs ++ ys) kind header size
  pub whole : (xs : List ℕ) (kind header size n : ℕ) → size_of_step (j.judge xs kind header size) ≡ Some n → header ≤ n
  pub still : (xs : List ℕ) (kind header size : ℕ) → header ≤ length xs → length xs < j.wants kind header size → j.judge xs kind header size ≡ Cut
  pub onward : (xs : List ℕ) (kind header size : ℕ) → j.judge xs kind header size ≡ Cut → length xs < j.wants kind header size
  pub few : (kind header size : ℕ) → j.wants kind header size ≤ header + most

module _ {O : Type 0} (j : Judge O) (most : ℕ) (is : IsJudge j most) where
  length-more : (xs ys : List ℕ) (kind offset n : ℕ) (l : Option (ℕ × ℕ)) → offset ≤ length xs → varint_at (drop offset xs) ≡ l → size_of_step (by_length j xs kind offset l) ≡ Some n
      → by_length j (xs ++ ys) kind offset (varint_at (drop offset (xs ++ ys))) ≡ by_length j xs kind offset l
  length-more xs ys kind offset n None le e f = absurd cc
  length-more xs ys kind offset n (Some m) le e f =
      rw (drop-append-le offset xs ys le, varint_at-more (drop offset xs) ys m e)
      (is.more xs ys kind (offset + m.1) m.0 n (omega (arith, varint_at-within (drop offset xs) m e, length-drop offset xs)) f)

  length-size : (xs : List ℕ) (kind offset n : ℕ) (l : Option (ℕ × ℕ)) → size_of_step (by_length j xs kind offset l) ≡ Some n → offset ≤ n
  length-size xs kind offset n None f = absurd cc
  length-size xs kind offset n (Some m) f = let g = is.whole xs kind (offset + m.1) m.0 n f in omega (arith, g)

  length-front : (xs ys : List ℕ) (kind offset n : ℕ) (l : Option (ℕ × ℕ)) → offset ≤ length xs → varint_at (drop offset (xs ++ ys)) ≡ l
      → size_of_step (by_length j (xs ++ ys) kind offset l) ≡ Some n → n ≤ length xs
      → by_length j xs kind offset (varint_at (drop offset xs)) ≡ by_length j (xs ++ ys) kind offset l
  length-front xs ys kind offset n None le e f lt = absurd cc
  length-front xs ys kind offset n (Some m) le e f lt =
      let size : offset + m.1 ≤ n = is.whole (xs ++ ys) kind (offset + m.1) m.0 n f in
      let moved : varint_at (drop offset xs ++ ys) ≡ Some m = ap (λ (zs : List ℕ). varint_at zs) (sym (drop-append-le offset xs ys le)) ∙ e in
      let read : varint_at (drop offset xs) ≡ Some m = varint_at-front (drop offset xs) ys m moved (omega (arith, size, lt, length-drop offset xs)) in
      rw read (is.front xs ys kind (offset + m.1) m.0 n (omega (arith, size, lt)) f lt)

  type-size : (xs : List ℕ) (n : ℕ) (t : ℕ × ℕ) (b : Bool) → size_of_step (cond b (j.at_once t.1) (by_length j xs t.0 t.1 (varint_at (drop t.1 xs)))) ≡ Some n → t.1 ≤ n
  type-size xs n t true f = let g = is.once t.1 in let e : Some t.1 ≡ Some n = sym g ∙ f in let same : t.1 ≡ n = cc in omega (arith, same)
  type-size xs n t false f = length-size xs t.0 t.1 n (varint_at (drop t.1 xs)) f

  type-more : (xs ys : List ℕ) (n : ℕ) (t : Option (ℕ × ℕ)) → varint_at xs ≡ t → size_of_step (by_type j xs t) ≡ Some n → by_type j (xs ++ ys) (varint_at (xs ++ ys)) ≡ by_type j xs t
  type-more xs ys n None e f = absurd cc
  type-more xs ys n (Some t) e f = rw (varint_at-more xs ys t e) (by (j.early t.0) f)
    where
      by : (b : Bool) → size_of_step (cond b (j.at_once t.1) (by_length j xs t.0 t.1 (varint_at (drop t.1 xs)))) ≡ Some n
          → cond b (j.at_once t.1) (by_length j (xs ++ ys) t.0 t.1 (varint_at (drop t.1 (xs ++ ys)))) ≡ cond b (j.at_once t.1) (by_length j xs t.0 t.1 (varint_at (drop t.1 xs)))
      by true g = refl
      by false g = length-more xs ys t.0 t.1 n (varint_at (drop t.1 xs)) ((varint_at-within xs t e).2) refl g

  type-some : (xs : List ℕ) (n : ℕ) (t : Option (ℕ × ℕ)) → varint_at xs ≡ t → size_of_step (by_type j xs t) ≡ Some n → 1 ≤ n
  type-some xs n None e f = absurd cc
  type-some xs n (Some t) e f = let g = type-size xs n t (j.early t.0) f in let w = varint_at-within xs t e in omega (arith, g, w)

  type-front : (xs ys : List ℕ) (n : ℕ) (t : Option (ℕ × ℕ)) → varint_at (xs ++ ys) ≡ t → size_of_step (by_type j (xs ++ ys) t) ≡ Some n → n ≤ length xs
      → by_type j xs (varint_at xs) ≡ by_type j (xs ++ ys) t
  type-front xs ys n None e f lt = absurd cc
  type-front xs ys n (Some t) e f lt = rw (varint_at-front xs ys t e within) (by (j.early t.0) f)
    where
      within : t.1 ≤ length xs
      within = let g = type-size (xs ++ ys) n t (j.early t.0) f in omega (arith, g, lt)

      by : (b : Bool) → size_of_step (cond b (j.at_once t.1) (by_length j (xs ++ ys) t.0 t.1 (varint_at (drop t.1 (xs ++ ys))))) ≡ Some n
          → cond b (j.at_once t.1) (by_length j xs t.0 t.1 (varint_at (drop t.1 xs))) ≡ cond b (j.at_once t.1) (by_length j (xs ++ ys) t.0 t.1 (varint_at (drop t.1 (xs ++ ys))))
      by true g = refl
      by false g = length-front xs ys t.0 t.1 n (varint_at (drop t.1 (xs ++ ys))) within refl g lt

  pub typed-steady : IsSteady (λ (s : Unit {0}) (bytes : List ℕ). by_type j bytes (varint_at bytes))
  unfolding varint_at
  typed-steady = record {
    nothing = λ s. refl;
    more = λ s xs ys n e. type-more xs ys n (varint_at xs) refl e;
    front = λ s xs ys n e le. type-front xs ys n (varint_at (xs ++ ys)) refl e le;
    some = λ s xs n e. type-some xs n (varint_at xs) refl e;
  }

  length-still : (xs ys : List ℕ) (kind offset : ℕ) (l : Option (ℕ × ℕ)) → offset ≤ length xs → varint_at (drop offset xs) ≡ l → length (xs ++ ys) < wants_by_length j xs kind offset l
      → by_length j (xs ++ ys) kind offset (varint_at (drop offset (xs ++ ys))) ≡ Cut
  length-still xs ys kind offset None le e lt = rw (after-still xs ys offset le lt) refl
  length-still xs ys kind offset (Some m) le e lt =
      rw (drop-append-le offset xs ys le, varint_at-more (drop offset xs) ys m e)
      (is.still (xs ++ ys) kind (offset + m.1) m.0 (omega (arith, varint_at-within (drop offset xs) m e, length-drop offset xs, length-append xs ys)) lt)

  type-still : (xs ys : List ℕ) (t : Option (ℕ × ℕ)) → varint_at xs ≡ t → length (xs ++ ys) < wants_by_type j xs t → by_type j (xs ++ ys) (varint_at (xs ++ ys)) ≡ Cut
  type-still xs ys None e lt = rw (varint-still xs ys lt) refl
  type-still xs ys (Some t) e lt = rw (varint_at-more xs ys t e) (by (j.early t.0) lt)
    where
      within : t.1 ≤ length xs
      within = (varint_at-within xs t e).2

      by : (b : Bool) → length (xs ++ ys) < cond b t.1 (wants_by_length j xs t.0 t.1 (varint_at (drop t.1 xs)))
          → cond b (j.at_once t.1) (by_length j (xs ++ ys) t.0 t.1 (varint_at (drop t.1 (xs ++ ys)))) ≡ Cut
      by true less = absurd (omega (arith, less, within, length-append xs ys))
      by false less = length-still xs ys t.0 t.1 (varint_at (drop t.1 xs)) within refl less

  length-onward : (xs : List ℕ) (kind offset : ℕ) (l : Option (ℕ × ℕ)) → offset ≤ length xs → varint_at (drop offset xs) ≡ l → by_length j xs kind offset l ≡ Cut → length xs < wants_by_length j xs kind offset l
  length-onward xs kind offset None le e f = after-onward xs offset le e
  length-onward xs kind offset (Some m) le e f = is.onward xs kind (offset + m.1) m.0 f

  type-onward : (xs : List ℕ) (t : Option (ℕ × ℕ)) → varint_at xs ≡ t → by_type j xs t ≡ Cut → length xs < wants_by_type j xs t
  type-onward xs None e f = varint-onward xs e
  type-onward xs (Some t) e f = by (j.early t.0) f
    where
      by : (b : Bool) → cond b (j.at_once t.1) (by_length j xs t.0 t.1 (varint_at (drop t.1 xs))) ≡ Cut → length xs < cond b t.1 (wants_by_length j xs t.0 t.1 (varint_at (drop t.1 xs)))
      by true g = absurd (let o = is.once t.1 in let none = ap (λ d. size_of_step d) g in cc)
      by false g = length-onward xs t.0 t.1 (varint_at (drop t.1 xs)) ((varint_at-within xs t e).2) refl g

  length-few : (xs : List ℕ) (kind offset : ℕ) (l : Option (ℕ × ℕ)) → offset ≤ 8 → varint_at (drop offset xs) ≡ l → wants_by_length j xs kind offset l ≤ 16 + most
  length-few xs kind offset None le e = omega (arith, varint-few (drop offset xs))
  length-few xs kind offset (Some m) le e = omega (arith, is.few kind (offset + m.1) m.0, varint_at-within (drop offset xs) m e)

  type-few : (xs : List ℕ) (t : Option (ℕ × ℕ)) → varint_at xs ≡ t → wants_by_type j xs t ≤ 16 + most
  type-few xs None e = omega (arith, varint-few xs)
  type-few xs (Some t) e = by (j.early t.0)
    where
      short : t.1 ≤ 8
      short = (varint_at-within xs t e).1

      by : (b : Bool) → cond b t.1 (wants_by_length j xs t.0 t.1 (varint_at (drop t.1 xs))) ≤ 16 + most
      by true = omega (arith, short)
      by false = length-few xs t.0 t.1 (varint_at (drop t.1 xs)) short refl

  -- two integers of 8 bytes each, and what is wanted beside them
  pub typed-few : (xs : List ℕ) → wants_by_type j xs (varint_at xs) ≤ 16 + most
  typed-few xs = type-few xs (varint_at xs) refl

  pub typed-awaited : most ≤ 4096 → IsAwaited (λ (s : Unit {0}) (bytes : List ℕ). by_type j bytes (varint_at bytes)) (λ (bytes : List ℕ). wants_by_type j bytes (varint_at bytes))
  typed-awaited le = record {
    still = λ s xs ys lt. type-still xs ys (varint_at xs) refl lt;
    onward = λ s xs e. type-onward xs (varint_at xs) refl e;
    few = λ xs. let few = type-few xs (varint_at xs) refl in omega (arith, few, le);
  }
