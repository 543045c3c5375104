-- The fields of a list, put in their order one after another, are the list.
use Rattle.std.proofs.Common.{◌+◌, ◌∷◌, ◌≡◌, ◌∙◌, List, Some, [], ap, arith, subst, suc, take, zero, ℕ}
use Rattle.std.specs.Cmp.Lexicographic.{nat_list_cmp_total}
use Rattle.std.specs.List.{slice_get}
use Rattle.std.specs.Ordering.{match_ordering, ordering_reverse}
use Rattle.std.specs.declared.cmp.Ordering.TheVariants.{Less}
use Rattle.wt_wire.specs.HeaderList.{Fields, IsAhead, IsHeaderList, compare_names, sort_key, with_field}

-- a name that is ahead of a list is ahead of each name in it
ahead_at : (name : List ℕ) (fields : Fields) (i : ℕ) (f : List ℕ × List ℕ) → IsAhead name fields → IsHeaderList fields → slice_get fields i ≡ Some f → compare_names name f.0 ≡ Less
ahead_at name [] i f a h e = absurd cc
ahead_at name (g ∷ fields) zero f a h e = let same : g ≡ f = cc in let P : List ℕ × List ℕ → Type 0 = λ x. compare_names name x.0 ≡ Less in subst P same a
ahead_at name (g ∷ fields) (suc i) f a h e = nat_list_cmp_total.trans (sort_key name) (sort_key g.0) (sort_key f.0) a (ahead_at g.0 fields i f h.0 h.3 e)

-- the field at an index goes after those before it
pub put_next : (fields : Fields) (i : ℕ) (f : List ℕ × List ℕ) → IsHeaderList fields → slice_get fields i ≡ Some f → with_field f.0 f.1 (take i fields) ≡ take (i + 1) fields
put_next [] i f h e = absurd cc
put_next (g ∷ fields) zero f h e = let same : f ≡ g = cc in ap (λ (x : List ℕ × List ℕ). x ∷ []) same
put_next (g ∷ fields) (suc i) f h e =
    let following : suc (i + 1) ≡ suc i + 1 = omega arith in
    ap (λ o. match_ordering o ((f.0, f.1) ∷ g ∷ take i fields) ((g.0, f.1) ∷ take i fields) (g ∷ with_field f.0 f.1 (take i fields)))
    (nat_list_cmp_total.antisymm (sort_key f.0) (sort_key g.0) ∙ ap ordering_reverse (ahead_at g.0 fields i f h.0 h.3 e))
    ∙ ap (λ (fs : Fields). g ∷ fs) (put_next fields i f h.3 e) ∙ ap (λ n. take n (g ∷ fields)) following
