-- The steps in which a prefixed integer is written.
use Rattle.std.proofs.Common.{◌≡◌, ◌≤◌, ◌<◌, ◌+◌, ◌-◌, ◌/◌, ◌%◌, ℕ, zero, suc, List, [], ◌∷◌, ◌++◌, refl, sym, ap, ◌∙◌, arith, append_assoc}
use Rattle.std.proofs.lemmas.Bool.{lt-ltb, le-ltb}
use Rattle.wt_wire.specs.PrefixedInteger.{continuation_bytes}

pub continuation_last : (most n : ℕ) → 0 < most → n < 128 → continuation_bytes most n ≡ n ∷ []
continuation_last zero n h l = absurd (omega arith)
continuation_last (suc k) n h l = rw (lt-ltb n 128 l) refl

continuation_more : (most n : ℕ) → 0 < most → 128 ≤ n → continuation_bytes most n ≡ (n % 128 + 128) ∷ continuation_bytes (most - 1) (n / 128)
continuation_more zero n h l = absurd (omega arith)
continuation_more (suc k) n h l = rw (le-ltb n 128 l) (ap (λ j. (n % 128 + 128) ∷ continuation_bytes j (n / 128)) (omega arith))

pub pushed_more : (old : List ℕ) (most n : ℕ) → 0 < most → 128 ≤ n → (old ++ (n % 128 + 128) ∷ []) ++ continuation_bytes (most - 1) (n / 128) ≡ old ++ continuation_bytes most n
pushed_more old most n h l = append_assoc old ((n % 128 + 128) ∷ []) (continuation_bytes (most - 1) (n / 128)) ∙ ap (λ bs. old ++ bs) (sym (continuation_more most n h l))
