-- An integer at the front stays under more bytes, and is read from its own bytes alone.
use Rattle.std.proofs.Common.{◌≡◌, ℕ, ◌≤◌, List, [], ◌∷◌, ◌++◌, length, Some, arith}
use Rattle.std.proofs.lemmas.List.{take-append-le, length-append}
use Rattle.std.proofs.lemmas.Grind.{common_steps}
use Rattle.wt_wire.specs.Varint.{varint_at, varint_length}

varint_length-few : (b : ℕ) → (1 ≤ varint_length b) × (varint_length b ≤ 8)
varint_length-few b = (grind (arith, common_steps), grind (arith, common_steps))

pub varint_at-more : (xs ys : List ℕ) (p : ℕ × ℕ) → varint_at xs ≡ Some p → varint_at (xs ++ ys) ≡ Some p
unfolding varint_at
varint_at-more [] ys p e = absurd cc
varint_at-more (b ∷ bytes) ys p e = grind (arith, common_steps, take-append-le {A = ℕ}, length-append {A = ℕ})

pub varint_at-within : (xs : List ℕ) (p : ℕ × ℕ) → varint_at xs ≡ Some p → (1 ≤ p.1) × (p.1 ≤ 8) × (p.1 ≤ length xs)
unfolding varint_at
varint_at-within [] p e = absurd cc
varint_at-within (b ∷ bytes) p e = grind (arith, common_steps, varint_length-few)

pub varint_at-front : (xs ys : List ℕ) (p : ℕ × ℕ) → varint_at (xs ++ ys) ≡ Some p → p.1 ≤ length xs → varint_at xs ≡ Some p
unfolding varint_at
varint_at-front [] ys p e le = absurd (omega (arith, le, varint_at-within ys p e))
varint_at-front (b ∷ bytes) ys p e le = grind (arith, common_steps, take-append-le {A = ℕ}, length-append {A = ℕ})
