-- A row with one place more, a row with another value in a place, and rows of which one changed.
use Rattle.std.proofs.Common.{ap, arith, inl, inr, refl, sym}
use Rattle.std.proofs.lemmas.Bool.{cases_eq, eq-eqb, ne_eqb}
use Rattle.std.proofs.lemmas.List.{get_or-set_other, get_or-set_same}
use Rattle.std.specs.Prelude.{[], ◌%◌, ◌++◌, ◌/◌, ◌==◌, ◌∷◌, ◌≡◌, ◌⊎◌, List, None, Option, false, get_or, if◌then◌else◌, length, slice_set, suc, zero, ℕ}
use Rattle.wt_core.specs.Rows.{IsPut, in_row, value_at}

module _ {T : Type 0} where
  pub push_same : (row : List (Option T)) (n : ℕ) → in_row (row ++ None ∷ []) n ≡ in_row row n
  push_same [] zero = refl
  push_same [] (suc n) = refl
  push_same (x ∷ row) zero = refl
  push_same (x ∷ row) (suc n) = push_same row n

  pub none_at : (k : ℕ) → value_at {T = T} ([] ∷ [] ∷ [] ∷ [] ∷ []) k ≡ None
  none_at k = ap (λ (row : List (Option T)). in_row row (k / 4)) (by (k % 4))
    where
      by : (n : ℕ) → get_or {A = List (Option T)} ([] ∷ [] ∷ [] ∷ [] ∷ []) n [] ≡ []
      by zero = refl
      by (suc zero) = refl
      by (suc (suc zero)) = refl
      by (suc (suc (suc zero))) = refl
      by (suc (suc (suc (suc n)))) = refl

  pub put_at : (rows : List (List (Option T))) (id : ℕ) (row : List (Option T)) (to : Option T) → length rows ≡ 4 → IsPut (get_or rows (id % 4) []) row (id / 4) to
      → (k : ℕ) → value_at (slice_set rows (id % 4) row) k ≡ (if id == k then to else value_at rows k)
  put_at rows id row to l s k = by (cases_eq id k) (cases_eq (id % 4) (k % 4))
    where
      by : (id ≡ k) ⊎ (id ≡ k → ⊥) → (id % 4 ≡ k % 4) ⊎ (id % 4 ≡ k % 4 → ⊥) → value_at (slice_set rows (id % 4) row) k ≡ (if id == k then to else value_at rows k)
      by (inl e) m =
          let r : get_or (slice_set rows (id % 4) row) (id % 4) [] ≡ row = get_or-set_same rows (id % 4) row [] (omega (arith, l)) in
          rw (← e, eq-eqb id id refl, r) s.there
      by (inr n) (inl m) =
          let r : get_or (slice_set rows (id % 4) row) (k % 4) [] ≡ row = rw (← m) (get_or-set_same rows (id % 4) row [] (omega (arith, l))) in
          let d : (id / 4 == k / 4) ≡ false = ne_eqb (id / 4) (k / 4) (λ q. n (omega arith)) in
          let o : in_row row (k / 4) ≡ in_row (get_or rows (id % 4) []) (k / 4) = s.others (k / 4) d in
          rw (ne_eqb id k n, r, o, m) refl
      by (inr n) (inr d) =
          let r : get_or (slice_set rows (id % 4) row) (k % 4) [] ≡ get_or rows (k % 4) [] = get_or-set_other rows (id % 4) (k % 4) row [] (λ q. d (sym q)) in
          rw (ne_eqb id k n, r) refl
