-- The value of digits grows with each digit.
use Rattle.std.proofs.Common.{arith, ◌≡◌, ◌+◌, ◌-◌, ◌*◌, ◌≤◌, ◌<◌, ◌^◌, ℕ, List, [], ◌∷◌, ap, sym, ◌∙◌, suc, length, drop, get_or, drop-cons}
use Rattle.wt_script.specs.Numbers.{value}

pub value_grows : (n : ℕ) (digits : List ℕ) → n ≤ value n digits
value_grows n [] = omega arith
value_grows n (c ∷ digits) = omega (arith, value_grows (10 * n + (c - 48)) digits)

-- where one more digit doesn't fit, the whole value doesn't
pub too_large : (word : List ℕ) (n i : ℕ) → i < length word → value n (drop i word) ≡ value 0 word
    → (10 * n + (get_or word i 0 - 48) < 2 ^ 64 → ⊥) → value 0 word < 2 ^ 64 → ⊥
too_large word n i within v large small =
    let e : value (10 * n + (get_or word i 0 - 48)) (drop (suc i) word) ≡ value 0 word = ap (value n) (sym (drop-cons word i 0 within)) ∙ v in
    large (omega (arith, e, value_grows (10 * n + (get_or word i 0 - 48)) (drop (suc i) word)))
