-- What a binary search finds in a list of fields, whose names ascend.
use Rattle.std.proofs.Common.{arith, ◌≡◌, ◌≤◌, ◌<◌, ℕ, zero, suc, List, [], ◌∷◌, Result, Ok, Err, IfOk, IfErr, length, set, refl, ap, ◌∙◌}
use Rattle.std.specs.List.{insert, AllWithin, slice_index_or}
use Rattle.std.specs.List.Sorted.{IsBinarySearchResult, IsNonDecreasingBy, IsSearchInRange}
use Rattle.std.specs.Ordering.{match_ordering, ordering_index, ordering_reverse}
use Rattle.std.specs.declared.cmp.Ordering.{Ordering}
use Rattle.std.specs.declared.cmp.Ordering.TheVariants.{Less, Equal, Greater}
use Rattle.std.specs.Cmp.Lexicographic.{nat_list_cmp_total}
use Rattle.wt_wire.specs.HeaderList.{Fields, sort_key, compare_names, with_field, IsAhead, IsHeaderList}

turned : (a b : List ℕ) (o : Ordering) → compare_names a b ≡ o → compare_names b a ≡ ordering_reverse o
turned a b o e = nat_list_cmp_total.antisymm (sort_key b) (sort_key a) ∙ ap ordering_reverse e

below : (a b c : List ℕ) → compare_names a b ≡ Less → compare_names b c ≡ Less → compare_names a c ≡ Less
below a b c = nat_list_cmp_total.trans (sort_key a) (sort_key b) (sort_key c)

-- a name below one that is equal to c is below c
below_equal : (a b c : List ℕ) → compare_names a b ≡ Less → compare_names b c ≡ Equal → compare_names a c ≡ Less
below_equal a b c less same = turned c a Greater (nat_list_cmp_total.congr (sort_key c) (sort_key b) (sort_key a) (turned b c Equal same) ∙ turned a b Less less)

-- what is ahead of a list is below each of its names
below_all : (first : List ℕ) (fields : Fields) → IsHeaderList fields → IsAhead first fields → (j : ℕ) (d : List ℕ × List ℕ) → j < length fields → compare_names first (slice_index_or fields j d).0 ≡ Less
below_all first [] h a j d within = absurd (omega (arith, within))
below_all first (f ∷ fields) h a zero d within = a
below_all first (f ∷ fields) h a (suc j) d within =
    below first f.0 (slice_index_or fields j d).0 a (below_all f.0 fields h.3 h.0 j d (omega (arith, within)))

compares_less : (a b name : List ℕ) → compare_names a b ≡ Less → ordering_index (compare_names a name) ≤ ordering_index (compare_names b name)
compares_less a b name less = by (compare_names b name) refl
  where
    by : (o : Ordering) → compare_names b name ≡ o → ordering_index (compare_names a name) ≤ ordering_index o
    by Less e = omega (arith, ap ordering_index (below a b name less e))
    by Equal e = grind (arith, below_equal a b name less e)
    by Greater e = any (compare_names a name)
      where
        any : (o : Ordering) → ordering_index o ≤ 2
        any Less = omega arith
        any Equal = omega arith
        any Greater = omega arith

rises : (name : List ℕ) (fields : Fields) → IsHeaderList fields → IsNonDecreasingBy (λ (f : List ℕ × List ℕ). ordering_index (compare_names f.0 name)) fields
rises name [] h i j d le within = absurd (omega (arith, within))
rises name (f ∷ fields) h zero zero d le within = omega arith
rises name (f ∷ fields) h zero (suc j) d le within =
    compares_less f.0 (slice_index_or fields j d).0 name (below_all f.0 fields h.3 h.0 j d (omega (arith, within)))
rises name (f ∷ fields) h (suc i) zero d le within = absurd (omega (arith, le))
rises name (f ∷ fields) h (suc i) (suc j) d le within = rises name fields h.3 i j d (omega (arith, le)) (omega (arith, within))

-- where this is how the name compares with the first field's, that is what becomes of the list
at_first : (name value : List ℕ) (f : List ℕ × List ℕ) (fields : Fields) (o : Ordering) → compare_names f.0 name ≡ o →
    with_field name value (f ∷ fields) ≡ match_ordering (ordering_reverse o) ((name, value) ∷ f ∷ fields) ((f.0, value) ∷ fields) (f ∷ with_field name value fields)
at_first name value f fields o e = ap (λ p. match_ordering p ((name, value) ∷ f ∷ fields) ((f.0, value) ∷ fields) (f ∷ with_field name value fields)) (turned f.0 name o e)

with_field_there : (name value : List ℕ) (d : List ℕ × List ℕ) (fields : Fields) → IsHeaderList fields → (offset : ℕ) → offset < length fields →
    compare_names (slice_index_or fields offset d).0 name ≡ Equal → with_field name value fields ≡ set fields offset ((slice_index_or fields offset d).0, value)
with_field_there name value d [] h offset within same = absurd (omega (arith, within))
with_field_there name value d (f ∷ fields) h zero within same = at_first name value f fields Equal same
with_field_there name value d (f ∷ fields) h (suc offset) within same =
    let inside : offset < length fields = omega (arith, within) in
    at_first name value f fields Less (below_equal f.0 (slice_index_or fields offset d).0 name (below_all f.0 fields h.3 h.0 offset d inside) same)
    ∙ ap (λ rest. f ∷ rest) (with_field_there name value d fields h.3 offset inside same)

with_field_new : (name value : List ℕ) (fields : Fields) (offset : ℕ) → offset ≤ length fields →
    AllWithin (λ (f : List ℕ × List ℕ). compare_names f.0 name ≡ Less) fields 0 offset → AllWithin (λ (f : List ℕ × List ℕ). compare_names f.0 name ≡ Greater) fields offset (length fields) →
    with_field name value fields ≡ insert fields offset (name, value)
with_field_new name value [] zero within less greater = refl
with_field_new name value [] (suc offset) within less greater = absurd (omega (arith, within))
with_field_new name value (f ∷ fields) zero within less greater = at_first name value f fields Greater (greater 0 f (omega arith) (omega arith))
with_field_new name value (f ∷ fields) (suc offset) within less greater =
    at_first name value f fields Less (less 0 f (omega arith) (omega arith))
    ∙ ap (λ rest. f ∷ rest) (with_field_new name value fields offset (omega (arith, within))
    (λ k d low high. less (suc k) d (omega arith) (omega (arith, high)))
    (λ k d low high. greater (suc k) d (omega (arith, low)) (omega (arith, high))))

-- the field with the name, or the index where it belongs
pub searched : (name : List ℕ) (fields : Fields) → IsHeaderList fields → (r : Result ℕ ℕ) → IsSearchInRange r (length fields) →
    IsBinarySearchResult (λ (f : List ℕ × List ℕ). compare_names f.0 name) fields r → record {
      within : IsSearchInRange r (length fields);
      found : (value : List ℕ) (d : List ℕ × List ℕ) → IfOk r (λ offset. with_field name value fields ≡ set fields offset ((slice_index_or fields offset d).0, value));
      absent : (value : List ℕ) → IfErr r (λ offset. with_field name value fields ≡ insert fields offset (name, value));
    }
searched name fields h (Ok offset) within same = record {
  within = within;
  found = λ value d. with_field_there name value d fields h offset within (same d);
  absent = λ value. tt;
}
searched name fields h (Err offset) within parted = record {
  within = within;
  found = λ value d. tt;
  absent = λ value. let around = parted (rises name fields h) in with_field_new name value fields offset within around.0 around.1;
}
