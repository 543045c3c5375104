-- No shorter encoding than the written one is read as the same prefixed integer.
use Rattle.std.proofs.Common.{◌≡◌, ◌≤◌, ◌<◌, ◌+◌, ◌-◌, ◌*◌, ◌/◌, ◌%◌, ℕ, zero, suc, Bool, true, false, cond, List, [], ◌∷◌, length, Option, Some, None, refl, subst, arith, ltb}
use Rattle.std.proofs.lemmas.Bool.{lt-ltb, le-ltb, ltb-true, ltb-false}
use Rattle.std.specs.Option.{option_map}
use Rattle.std.specs.Prelude.{All}
use Rattle.wt_wire.specs.PrefixedInteger.{after_full_prefix, continuation_at, continuation_bytes, prefixed_at, prefixed_bytes}

abbrev AreBytes : List ℕ → Type 0
AreBytes bytes = All (λ b. b < 256) bytes

first_is_byte : (b : ℕ) (bytes : List ℕ) → AreBytes (b ∷ bytes) → b < 256
first_is_byte b bytes all = all 0 0 (omega arith)

rest_are_bytes : (b : ℕ) (bytes : List ℕ) → AreBytes (b ∷ bytes) → AreBytes bytes
rest_are_bytes b bytes all = λ k d l. all (suc k) d (omega arith)

-- a byte with a high bit, and an integer after it
one_more : (j b : ℕ) (q : ℕ × ℕ) → 128 ≤ b → b < 256 → ((i : ℕ) → length (continuation_bytes i q.0) ≤ q.1) → length (continuation_bytes j (b - 128 + 128 * q.0)) ≤ q.1 + 1
one_more zero b q l h rest = omega arith
one_more (suc j) b q l h rest = by (ltb (b - 128 + 128 * q.0) 128) refl
  where
    by : (t : Bool) → ltb (b - 128 + 128 * q.0) 128 ≡ t → length (continuation_bytes (suc j) (b - 128 + 128 * q.0)) ≤ q.1 + 1
    by true e = rw e (omega arith)
    by false e = let following : (b - 128 + 128 * q.0) / 128 ≡ q.0 = omega arith in rw (e, following) (omega (arith, rest j))

continuation_shortest : (k j : ℕ) (bytes : List ℕ) (p : ℕ × ℕ) → AreBytes bytes → continuation_at k bytes ≡ Some p → length (continuation_bytes j p.0) ≤ p.1
unfolding continuation_at
continuation_shortest zero j bytes p all e = absurd cc
continuation_shortest (suc k) j [] p all e = absurd cc
continuation_shortest (suc k) j (b ∷ bytes) p all e = by j (ltb b 128) (continuation_at k bytes) refl (λ i q f. continuation_shortest k i bytes q (rest_are_bytes b bytes all) f) refl e
  where
    by : (j : ℕ) (t : Bool) (o : Option (ℕ × ℕ)) → ltb b 128 ≡ t → ((i : ℕ) (q : ℕ × ℕ) → continuation_at k bytes ≡ Some q → length (continuation_bytes i q.0) ≤ q.1) → continuation_at k bytes ≡ o →
        cond t (Some (b, 1)) (option_map (λ p. (b - 128 + 128 * p.0, p.1 + 1)) o) ≡ Some p → length (continuation_bytes j p.0) ≤ p.1
    by zero true o f rest g e = let same : (b, 1) ≡ p = cc in subst (λ (q : ℕ × ℕ). length (continuation_bytes zero q.0) ≤ q.1) same (omega arith)
    by (suc j) true o f rest g e = let same : (b, 1) ≡ p = cc in subst (λ (q : ℕ × ℕ). length (continuation_bytes (suc j) q.0) ≤ q.1) same (rw f (omega arith))
    by j false None f rest g e = absurd cc
    by j false (Some q) f rest g e =
        let same : (b - 128 + 128 * q.0, q.1 + 1) ≡ p = cc in
        subst (λ (r : ℕ × ℕ). length (continuation_bytes j r.0) ≤ r.1) same
        (one_more j b q (ltb-false b 128 f) (first_is_byte b bytes all) (λ i. rest i q g))

-- an integer that fits its prefix, and one after a full prefix
abbrev IsShortest : ℕ → ℕ → ℕ × ℕ → Type 0
IsShortest high full p = length (prefixed_bytes high full p.0) ≤ p.1

in_prefix : (high full n : ℕ) → n < full → IsShortest high full (n, 1)
unfolding prefixed_bytes
in_prefix high full n h = rw (lt-ltb n full h) (omega arith)

after_prefix : (high full : ℕ) (q : ℕ × ℕ) → length (continuation_bytes 9 q.0) ≤ q.1 → IsShortest high full (full + q.0, q.1 + 1)
unfolding prefixed_bytes
after_prefix high full q h = let same : full + q.0 - full ≡ q.0 = omega arith in rw (le-ltb (full + q.0) full (omega arith), same) (omega arith)

pub prefixed_shortest : (bytes : List ℕ) (high full n size : ℕ) → AreBytes bytes → prefixed_at full bytes ≡ Some (n, size) → length (prefixed_bytes high full n) ≤ size
unfolding prefixed_at
prefixed_shortest [] high full n size all e = absurd cc
prefixed_shortest (b ∷ bytes) high full n size all e = by (ltb (b % (full + 1)) full) (continuation_at 4 bytes) refl refl e
  where
    by : (t : Bool) (o : Option (ℕ × ℕ)) → ltb (b % (full + 1)) full ≡ t → continuation_at 4 bytes ≡ o → cond t (Some (b % (full + 1), 1)) (after_full_prefix full o) ≡ Some (n, size) → IsShortest high full (n, size)
    by true o f g e =
        let same : (b % (full + 1), 1) ≡ (n, size) = cc in
        subst (IsShortest high full) same (in_prefix high full (b % (full + 1)) (ltb-true (b % (full + 1)) full f))
    by false None f g e = absurd cc
    by false (Some q) f g e =
        let same : (full + q.0, q.1 + 1) ≡ (n, size) = cc in
        subst (IsShortest high full) same (after_prefix high full q (continuation_shortest 4 9 bytes q (rest_are_bytes b bytes all) g))
