-- No shorter encoding than the written one is read as the same integer.
use Rattle.std.proofs.Common.{◌≡◌, ◌≤◌, ◌<◌, ◌-◌, ◌%◌, ℕ, suc, Bool, cond, true, false, List, [], ◌∷◌, length, take, Some, None, refl, ap, ◌∙◌, subst, arith, ltb}
use Rattle.std.proofs.lemmas.Bool.{lt-ltb, ltb-true, ltb-false}
use Rattle.std.specs.Prelude.{All}
use Rattle.wt_wire.specs.Varint.{varint_at, varint_bytes, varint_length, big_endian}
use Rattle.wt_wire.proofs.VarintAgain.{of_length, length_one, length_two, length_four, length_eight}

abbrev IsByte : ℕ → Type 0
IsByte b = b < 256

-- what is written of the integer isn't longer than what was read
abbrev IsShortest : ℕ × ℕ → Type 0
IsShortest p = length (varint_bytes p.0) ≤ p.1

one_byte : (n : ℕ) → n < 64 → IsShortest (n, 1)
unfolding varint_bytes
one_byte n h = rw (lt-ltb n 64 h) (omega arith)

two_bytes : (n : ℕ) → n < 16384 → IsShortest (n, 2)
unfolding varint_bytes
two_bytes n h = by (ltb n 64) refl
  where
    by : (t : Bool) → ltb n 64 ≡ t → IsShortest (n, 2)
    by true e = rw e (omega arith)
    by false e = rw (e, lt-ltb n 16384 h) (omega arith)

four_bytes : (n : ℕ) → n < 1073741824 → IsShortest (n, 4)
unfolding varint_bytes
four_bytes n h = by (ltb n 64) (ltb n 16384) refl refl
  where
    by : (t u : Bool) → ltb n 64 ≡ t → ltb n 16384 ≡ u → IsShortest (n, 4)
    by true u e f = rw e (omega arith)
    by false true e f = rw (e, f) (omega arith)
    by false false e f = rw (e, f, lt-ltb n 1073741824 h) (omega arith)

eight_bytes : (n : ℕ) → IsShortest (n, 8)
unfolding varint_bytes
eight_bytes n = by (ltb n 64) (ltb n 16384) (ltb n 1073741824) refl refl refl
  where
    by : (t u v : Bool) → ltb n 64 ≡ t → ltb n 16384 ≡ u → ltb n 1073741824 ≡ v → IsShortest (n, 8)
    by true u v e f g = rw e (omega arith)
    by false true v e f g = rw (e, f) (omega arith)
    by false false true e f g = rw (e, f, g) (omega arith)
    by false false false e f g = rw (e, f, g) (omega arith)

-- what is read is the integer that these bytes are
shortest_of : (bytes : List ℕ) (p q : ℕ × ℕ) → varint_at bytes ≡ Some p → varint_at bytes ≡ Some q → IsShortest q → IsShortest p
shortest_of bytes p q e f s = let same : q ≡ p = cc in subst IsShortest same s

-- fewer bytes than the first byte asks for are no integer
cut_short : (b k : ℕ) (bytes : List ℕ) → varint_length b ≡ suc k → length bytes < k → varint_at (b ∷ bytes) ≡ None
unfolding varint_at
cut_short b k bytes e h =
    let same : suc k - 1 ≡ k = omega arith in
    ap (λ l. cond (ltb (length bytes) (l - 1)) None (Some (big_endian (b % 64) (take (l - 1) bytes), l))) e
    ∙ rw (same, lt-ltb (length bytes) k h) refl

never : {A : Type 0} (bytes : List ℕ) (p : ℕ × ℕ) → varint_at bytes ≡ Some p → varint_at bytes ≡ None → A
never bytes p e f = absurd cc

from_two : (b : ℕ) (bytes : List ℕ) (p : ℕ × ℕ) → 64 ≤ b → b < 128 → All IsByte bytes → varint_at (b ∷ bytes) ≡ Some p → IsShortest p
from_two b [] p l h all e = never (b ∷ []) p e (cut_short b 1 [] (length_two b l h) (omega arith))
from_two b (c ∷ bytes) p l h all e =
    let small : c < 256 = all 0 0 (omega arith) in
    shortest_of (b ∷ c ∷ bytes) p _ e (of_length b 1 (c ∷ bytes) (length_two b l h) (omega arith)) (two_bytes _ (omega arith))

from_four : (b : ℕ) (bytes : List ℕ) (p : ℕ × ℕ) → 128 ≤ b → b < 192 → All IsByte bytes → varint_at (b ∷ bytes) ≡ Some p → IsShortest p
from_four b [] p l h all e = never (b ∷ []) p e (cut_short b 3 [] (length_four b l h) (omega arith))
from_four b (c ∷ []) p l h all e = never (b ∷ c ∷ []) p e (cut_short b 3 (c ∷ []) (length_four b l h) (omega arith))
from_four b (c ∷ d ∷ []) p l h all e = never (b ∷ c ∷ d ∷ []) p e (cut_short b 3 (c ∷ d ∷ []) (length_four b l h) (omega arith))
from_four b (c ∷ d ∷ f ∷ bytes) p l h all e =
    let first : c < 256 = all 0 0 (omega arith) in
    let second : d < 256 = all 1 0 (omega arith) in
    let third : f < 256 = all 2 0 (omega arith) in
    shortest_of (b ∷ c ∷ d ∷ f ∷ bytes) p _ e (of_length b 3 (c ∷ d ∷ f ∷ bytes) (length_four b l h) (omega arith)) (four_bytes _ (omega arith))

from_eight : (b : ℕ) (bytes : List ℕ) (p : ℕ × ℕ) → 192 ≤ b → varint_at (b ∷ bytes) ≡ Some p → IsShortest p
from_eight b bytes p l e = by (ltb (length bytes) 7) refl
  where
    by : (t : Bool) → ltb (length bytes) 7 ≡ t → IsShortest p
    by true f = never (b ∷ bytes) p e (cut_short b 7 bytes (length_eight b l) (ltb-true (length bytes) 7 f))
    by false f = shortest_of (b ∷ bytes) p _ e (of_length b 7 bytes (length_eight b l) (ltb-false (length bytes) 7 f)) (eight_bytes _)

from_one : (b : ℕ) (bytes : List ℕ) (p : ℕ × ℕ) → b < 64 → varint_at (b ∷ bytes) ≡ Some p → IsShortest p
from_one b bytes p h e = shortest_of (b ∷ bytes) p _ e (of_length b 0 bytes (length_one b h) (omega arith)) (one_byte _ (omega arith))

pub varint_shortest : (bytes : List ℕ) (n size : ℕ) → All IsByte bytes → varint_at bytes ≡ Some (n, size) → length (varint_bytes n) ≤ size
unfolding varint_at
varint_shortest [] n size all e = absurd cc
varint_shortest (b ∷ bytes) n size all e = by (ltb b 64) (ltb b 128) (ltb b 192) refl refl refl
  where
    rest : All IsByte bytes
    rest = λ k d l. all (suc k) d (omega arith)

    by : (t u v : Bool) → ltb b 64 ≡ t → ltb b 128 ≡ u → ltb b 192 ≡ v → IsShortest (n, size)
    by true u v f g h = from_one b bytes (n, size) (ltb-true b 64 f) e
    by false true v f g h = from_two b bytes (n, size) (ltb-false b 64 f) (ltb-true b 128 g) rest e
    by false false true f g h = from_four b bytes (n, size) (ltb-false b 128 g) (ltb-true b 192 h) rest e
    by false false false f g h = from_eight b bytes (n, size) (ltb-false b 192 h) e
