-- An integer that is written reads back, whatever follows.
use Rattle.std.proofs.Common.{◌≡◌, ◌≤◌, ◌<◌, ◌+◌, ◌-◌, ◌/◌, ◌%◌, ◌^◌, ℕ, suc, Bool, true, false, cond, List, ◌∷◌, ◌++◌, length, take, drop, append_assoc, Some, None, refl, ap, ◌∙◌, arith, ltb}
use Rattle.std.proofs.lemmas.Bool.{lt-ltb, le-ltb, ltb-true}
use Rattle.std.proofs.Math.Seq.{drop-append_seam}
use Rattle.wt_wire.specs.Varint.{varint_length, varint_at, varint_bytes, big_endian}

-- an integer of k bytes more than the first
pub of_length : (b k : ℕ) (bytes : List ℕ) → varint_length b ≡ suc k → k ≤ length bytes → varint_at (b ∷ bytes) ≡ Some (big_endian (b % 64) (take k bytes), suc k)
unfolding varint_at
of_length b k bytes e h =
    let same : suc k - 1 ≡ k = omega arith in
    let enough : ltb (length bytes) k ≡ false = le-ltb (length bytes) k h in
    ap (λ l. cond (ltb (length bytes) (l - 1)) None (Some (big_endian (b % 64) (take (l - 1) bytes), l))) e ∙ rw (same, enough) refl

pub length_one : (b : ℕ) → b < 64 → varint_length b ≡ 1
length_one b h = rw (lt-ltb b 64 h) refl

pub length_two : (b : ℕ) → 64 ≤ b → b < 128 → varint_length b ≡ 2
length_two b l h = rw (le-ltb b 64 l, lt-ltb b 128 h) refl

pub length_four : (b : ℕ) → 128 ≤ b → b < 192 → varint_length b ≡ 4
length_four b l h = let l64 : 64 ≤ b = omega arith in rw (le-ltb b 64 l64, le-ltb b 128 l, lt-ltb b 192 h) refl

pub length_eight : (b : ℕ) → 192 ≤ b → varint_length b ≡ 8
length_eight b l = let l64 : 64 ≤ b = omega arith in let l128 : 128 ≤ b = omega arith in rw (le-ltb b 64 l64, le-ltb b 128 l128, le-ltb b 192 l) refl

one_again : (n : ℕ) (more : List ℕ) → n < 64 → varint_at (n ∷ more) ≡ Some (n, 1)
one_again n more h = of_length n 0 more (length_one n h) (omega arith) ∙ ap (λ m. Some (m, 1)) (omega arith)

two_again : (n : ℕ) (more : List ℕ) → n < 16384 → varint_at ((64 + n / 256) ∷ (n % 256) ∷ more) ≡ Some (n, 2)
two_again n more h =
    of_length (64 + n / 256) 1 ((n % 256) ∷ more) (length_two (64 + n / 256) (omega arith) (omega arith)) (omega arith)
    ∙ ap (λ m. Some (m, 2)) (omega arith)

four_again : (n : ℕ) (more : List ℕ) → n < 1073741824 → varint_at ((128 + n / 256 / 256 / 256) ∷ (n / 256 / 256 % 256) ∷ (n / 256 % 256) ∷ (n % 256) ∷ more) ≡ Some (n, 4)
four_again n more h =
    of_length (128 + n / 256 / 256 / 256) 3 ((n / 256 / 256 % 256) ∷ (n / 256 % 256) ∷ (n % 256) ∷ more) (length_four (128 + n / 256 / 256 / 256) (omega arith) (omega arith)) (omega arith)
    ∙ ap (λ m. Some (m, 4)) (omega arith)

eight_again : (n : ℕ) (more : List ℕ) → n < 2 ^ 62 → varint_at ((192 + n / 256 / 256 / 256 / 256 / 256 / 256 / 256) ∷ (n / 256 / 256 / 256 / 256 / 256 / 256 % 256) ∷ (n / 256 / 256 / 256 / 256 / 256 % 256) ∷ (n / 256 / 256 / 256 / 256 % 256)
    ∷ (n / 256 / 256 / 256 % 256) ∷ (n / 256 / 256 % 256) ∷ (n / 256 % 256) ∷ (n % 256) ∷ more) ≡ Some (n, 8)
eight_again n more h =
    of_length (192 + n / 256 / 256 / 256 / 256 / 256 / 256 / 256) 7 ((n / 256 / 256 / 256 / 256 / 256 / 256 % 256) ∷ (n / 256 / 256 / 256 / 256 / 256 % 256) ∷ (n / 256 / 256 / 256 / 256 % 256)
    ∷ (n / 256 / 256 / 256 % 256) ∷ (n / 256 / 256 % 256) ∷ (n / 256 % 256) ∷ (n % 256) ∷ more) (length_eight (192 + n / 256 / 256 / 256 / 256 / 256 / 256 / 256) (omega arith)) (omega arith)
    ∙ ap (λ m. Some (m, 8)) (omega arith)

pub varint_again : (n : ℕ) (more : List ℕ) → n < 2 ^ 62 → varint_at (varint_bytes n ++ more) ≡ Some (n, length (varint_bytes n))
unfolding varint_bytes
varint_again n more h = by (ltb n 64) (ltb n 16384) (ltb n 1073741824) refl refl refl
  where
    by : (b c d : Bool) → ltb n 64 ≡ b → ltb n 16384 ≡ c → ltb n 1073741824 ≡ d → varint_at (varint_bytes n ++ more) ≡ Some (n, length (varint_bytes n))
    by true c d e f g = rw e (one_again n more (ltb-true n 64 e))
    by false true d e f g = rw (e, f) (two_again n more (ltb-true n 16384 f))
    by false false true e f g = rw (e, f, g) (four_again n more (ltb-true n 1073741824 g))
    by false false false e f g = rw (e, f, g) (eight_again n more h)

-- an integer after another
pub second_again : (m n : ℕ) (more : List ℕ) → n < 2 ^ 62 →
    varint_at (drop (length (varint_bytes m)) ((varint_bytes m ++ varint_bytes n) ++ more)) ≡ Some (n, length (varint_bytes n))
second_again m n more small =
    ap (λ (xs : List ℕ). varint_at (drop (length (varint_bytes m)) xs)) (append_assoc (varint_bytes m) (varint_bytes n) more)
    ∙ ap (λ (xs : List ℕ). varint_at xs) (drop-append_seam (varint_bytes m) (varint_bytes n ++ more))
    ∙ varint_again n more small

pub first_again : (m n : ℕ) (more : List ℕ) → m < 2 ^ 62 → varint_at ((varint_bytes m ++ varint_bytes n) ++ more) ≡ Some (m, length (varint_bytes m))
first_again m n more small = ap (λ (xs : List ℕ). varint_at xs) (append_assoc (varint_bytes m) (varint_bytes n) more) ∙ varint_again m (varint_bytes n ++ more) small
