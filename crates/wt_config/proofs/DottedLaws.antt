-- The dotted form, index by index.
use Rattle.std.proofs.Common.{◌≡◌, ◌≤◌, ◌<◌, ◌+◌, ◌*◌, ◌/◌, ◌%◌, ℕ, zero, suc, List, [], ◌∷◌, length, get_or, refl, sym, ap, ◌∙◌, subst, arith, inl, inr}
use Rattle.std.proofs.lemmas.Bool.Decides.{nat_tests}
use Rattle.std.specs.Prelude.{flat_map}
use Rattle.std.proofs.lemmas.Bool.{cases_lt}
use Rattle.wt_config.specs.DigestText.{IsBytes, IsLowerDigit, IsDottedHex, lower_digit, two_digits, dotted_hex}

below_ten : (d : ℕ) → d < 10 → lower_digit d ≡ 48 + d
below_ten d h = grind (arith, nat_tests)

from_ten : (d : ℕ) → 10 ≤ d → lower_digit d ≡ 87 + d
from_ten d h = grind (arith, nat_tests)

lower_is : (d : ℕ) → d < 16 → IsLowerDigit (lower_digit d)
lower_is d h = elim (cases_lt d 10) [
  | inl small ↦ let e = below_ten d small in inl (omega arith, omega arith)
  | inr large ↦ let e = from_ten d large in inr (omega arith, omega arith)
]

-- the bytes after the first, each after a colon
abbrev tail : List ℕ → List ℕ
tail bs = flat_map (λ byte. 58 ∷ two_digits byte) bs

length-tail : (bs : List ℕ) → length (tail bs) ≡ 3 * length bs
length-tail [] = refl
length-tail (b ∷ bs) = omega (arith, length-tail bs)

three_more : (b : ℕ) (bs : List ℕ) (k j : ℕ) → get_or (tail (b ∷ bs)) (3 * suc k + j) 0 ≡ get_or (tail bs) (3 * k + j) 0
three_more b bs k j = let e : 3 * suc k + j ≡ suc (suc (suc (3 * k + j))) = omega arith in ap (λ i. get_or (tail (b ∷ bs)) i 0) e

tail_colon : (bs : List ℕ) (k : ℕ) → k < length bs → get_or (tail bs) (3 * k + 0) 0 ≡ 58
tail_colon [] k h = absurd (omega arith)
tail_colon (b ∷ bs) zero h = refl
tail_colon (b ∷ bs) (suc k) h = three_more b bs k 0 ∙ tail_colon bs k (omega arith)

tail_high : (bs : List ℕ) (k : ℕ) → IsBytes bs → k < length bs → IsLowerDigit (get_or (tail bs) (3 * k + 1) 0)
tail_high [] k s h = absurd (omega arith)
tail_high (b ∷ bs) zero s h = lower_is (b / 16) (let small = s 0 in omega arith)
tail_high (b ∷ bs) (suc k) s h = subst (λ (c : ℕ). IsLowerDigit c) (sym (three_more b bs k 1)) (tail_high bs k (λ i. s (suc i)) (omega arith))

tail_low : (bs : List ℕ) (k : ℕ) → IsBytes bs → k < length bs → IsLowerDigit (get_or (tail bs) (3 * k + 2) 0)
tail_low [] k s h = absurd (omega arith)
tail_low (b ∷ bs) zero s h = lower_is (b % 16) (let small = s 0 in omega arith)
tail_low (b ∷ bs) (suc k) s h = subst (λ (c : ℕ). IsLowerDigit c) (sym (three_more b bs k 2)) (tail_low bs k (λ i. s (suc i)) (omega arith))

-- the text is the tail of all bytes without its first colon
at_index : (b : ℕ) (bs : List ℕ) (i : ℕ) → get_or (dotted_hex (b ∷ bs)) i 0 ≡ get_or (tail (b ∷ bs)) (i + 1) 0
at_index b bs i = let e : i + 1 ≡ suc i = omega arith in ap (λ i. get_or (tail (b ∷ bs)) i 0) (sym e)

dotted_cells : (b : ℕ) (bs : List ℕ) → length bs ≡ 31 → IsBytes (b ∷ bs) → IsDottedHex (dotted_hex (b ∷ bs))
dotted_cells b bs l s = record {
  whole = omega (arith, length-tail bs);
  high = λ k h. subst (λ (c : ℕ). IsLowerDigit c) (sym (at_index b bs (3 * k))) (tail_high (b ∷ bs) k s (omega arith));
  low = λ k h.
      let e : 3 * k + 1 + 1 ≡ 3 * k + 2 = omega arith in
      subst (λ (c : ℕ). IsLowerDigit c) (sym (at_index b bs (3 * k + 1) ∙ ap (λ i. get_or (tail (b ∷ bs)) i 0) e)) (tail_low (b ∷ bs) k s (omega arith));
  colon = λ k h.
      let e : 3 * k + 2 + 1 ≡ 3 * suc k + 0 = omega arith in
      at_index b bs (3 * k + 2) ∙ ap (λ i. get_or (tail (b ∷ bs)) i 0) e ∙ tail_colon (b ∷ bs) (suc k) (omega arith);
}

pub dotted_is : (bytes : List ℕ) → length bytes ≡ 32 → IsBytes bytes → IsDottedHex (dotted_hex bytes)
dotted_is [] l s = absurd (omega arith)
dotted_is (b ∷ bs) l s = dotted_cells b bs (omega arith) s
