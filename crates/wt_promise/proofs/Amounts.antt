-- The first bytes of a list, as many as were taken.
use Rattle.std.specs.Prelude.{◌≡◌, List, length, take, ℕ}
use Rattle.std.proofs.Common.{◌∙◌, ap, length-take, sym}
use Rattle.std.proofs.Math.Seq.{take-length}
use Rattle.std.proofs.lemmas.List.{take_min}

-- ---- writes

-- the first bytes, as many as were taken, are those that were taken
pub taken : (c : ℕ) (xs : List ℕ) → take (length (take c xs)) xs ≡ take c xs
taken c xs = ap (λ (n : ℕ). take n xs) (length-take c xs) ∙ take_min c xs

pub all-taken : (c : ℕ) (xs : List ℕ) → length (take c xs) ≡ length xs → xs ≡ take c xs
all-taken c xs e = sym (take-length xs) ∙ ap (λ (n : ℕ). take n xs) (sym e) ∙ taken c xs
