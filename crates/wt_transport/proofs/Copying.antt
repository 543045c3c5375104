-- Bytes of pieces that are copied into a buffer, one piece after another.
use Rattle.std.proofs.Common.{arith, ◌≡◌, ◌≤◌, ◌<◌, ◌+◌, ◌-◌, ℕ, zero, suc, Bool, true, false, List, [], ◌∷◌, ◌++◌, length, take, drop, min, refl, sym, ap, ◌∙◌, length-append}
use Rattle.std.specs.Prelude.{nat_lt}
use Rattle.std.proofs.Math.Seq.{take-append-add}
use Rattle.std.proofs.lemmas.Bool.Decides.{nat_tests}
use Rattle.std.proofs.lemmas.List.{take_at, drop_at, drop-drop, take-append-le, length-take-le}

take_whole : (xs : List ℕ) → take (length xs) xs ≡ xs
take_whole [] = refl
take_whole (x ∷ xs) = ap (λ ys. x ∷ ys) (take_whole xs)

-- what of a piece follows what was copied before it
copied-if : (b : Bool) (done p : List ℕ) (offset n : ℕ) → nat_lt 0 n ≡ b → offset ≤ length done → (0 < n → offset ≡ length done) → take offset done ++ take n p ≡ take (offset + n) (done ++ p)
copied-if true done p offset n e l f =
    let some : 0 < n = grind (arith, nat_tests) in
    let all : offset ≡ length done = f some in
    rw all (ap (λ xs. xs ++ take n p) (take_whole done) ∙ sym (take-append-add done p n))
copied-if false done p offset zero e l f = let same : offset + 0 ≡ offset = omega arith in
    rw same (append-nothing (take offset done) ∙ sym (take-append-le offset done p l))
  where
    append-nothing : (xs : List ℕ) → xs ++ [] ≡ xs
    append-nothing [] = refl
    append-nothing (x ∷ xs) = ap (λ ys. x ∷ ys) (append-nothing xs)
copied-if false done p offset (suc n) e l f = absurd (grind (arith, nat_tests))

module _ (done p old buffer : List ℕ) (offset n : ℕ) (a : offset ≡ min (length old) (length done)) (same : length buffer ≡ length old) (b : buffer ≡ take offset done ++ drop offset old) (c : n ≡ min (length p) (length buffer - offset)) where
  pub more_at : offset + n ≡ min (length old) (length (done ++ p))
  more_at = omega (arith, length-append done p)

  pub more_copied : take offset buffer ++ take n p ++ drop (offset + n) buffer ≡ take (offset + n) (done ++ p) ++ drop (offset + n) old
  more_copied =
      let few : offset ≤ length done = omega arith in
      let long : length (take offset done) ≡ offset = length-take-le offset done few in
      let front : take offset buffer ≡ take offset done = ap (take offset) b ∙ take_at (take offset done) (drop offset old) offset long in
      let rest : drop offset buffer ≡ drop offset old = ap (drop offset) b ∙ drop_at (take offset done) (drop offset old) offset long in
      let back : drop (offset + n) buffer ≡ drop (offset + n) old = sym (drop-drop n offset buffer) ∙ ap (drop n) rest ∙ drop-drop n offset old in
      ap (λ xs. xs ++ take n p ++ drop (offset + n) buffer) front
      ∙ ap (λ xs. take offset done ++ take n p ++ xs) back
      ∙ ap (λ xs. xs ++ drop (offset + n) old) (copied-if (nat_lt 0 n) done p offset n refl few (λ some. omega arith))

pub none_copied : (old : List ℕ) → old ≡ take 0 [] ++ drop 0 old
none_copied old = refl
