-- Where a separator first stands, a part ends.
use Rattle.std.proofs.Common.{arith, ◌≡◌, ℕ, zero, suc, ◌<◌, List, [], ◌∷◌, ◌++◌, sym, ap, ◌∙◌, length, take, drop, get_or, append_assoc, append-nil}
use Rattle.std.proofs.lemmas.Bool.{eq-eqb, ne_eqb}
use Rattle.std.specs.Prelude.{if◌then◌else◌}
use Rattle.wt_script.specs.Words.{split_from}

module _ (last : List ℕ → List (List ℕ)) (separator : ℕ) where
  one_more : (part bytes : List ℕ) (b : ℕ) → (b ≡ separator → ⊥)
      → split_from last separator part (b ∷ bytes) ≡ split_from last separator (part ++ b ∷ []) bytes
  one_more part bytes b other =
      ap (λ t. if t then part ∷ split_from last separator [] bytes else split_from last separator (part ++ b ∷ []) bytes) (ne_eqb b separator other)

  -- the first separator ends the part that has begun
  pub split_at : (part bytes : List ℕ) (n : ℕ) → n < length bytes → ((k : ℕ) → k < n → get_or bytes k 0 ≡ separator → ⊥)
      → get_or bytes n 0 ≡ separator
      → split_from last separator part bytes ≡ (part ++ take n bytes) ∷ split_from last separator [] (drop (suc n) bytes)
  split_at part [] n within before here = absurd (omega arith)
  split_at part (b ∷ bytes) zero within before here =
      ap (λ t. if t then part ∷ split_from last separator [] bytes else split_from last separator (part ++ b ∷ []) bytes) (eq-eqb b separator here)
      ∙ ap (λ p. p ∷ split_from last separator [] bytes) (sym (append-nil part))
  split_at part (b ∷ bytes) (suc n) within before here =
      one_more part bytes b (before 0 (omega arith))
      ∙ split_at (part ++ b ∷ []) bytes n (omega (arith, within)) (λ k within_n. before (suc k) (omega (arith, within_n))) here
      ∙ ap (λ p. p ∷ split_from last separator [] (drop (suc n) bytes)) (append_assoc part (b ∷ []) (take n bytes))

  -- without a separator the part that has begun is the last
  pub split_nowhere : (part bytes : List ℕ) → ((k : ℕ) → k < length bytes → get_or bytes k 0 ≡ separator → ⊥)
      → split_from last separator part bytes ≡ last (part ++ bytes)
  split_nowhere part [] nowhere = ap last (sym (append-nil part))
  split_nowhere part (b ∷ bytes) nowhere =
      one_more part bytes b (nowhere 0 (omega arith))
      ∙ split_nowhere (part ++ b ∷ []) bytes (λ k within. nowhere (suc k) (omega (arith, within)))
      ∙ ap last (append_assoc part (b ∷ []) bytes)
