-- What setting a field keeps of the values at other names.
use Rattle.std.proofs.Common.{Bool, true, ◌≡◌, ℕ, false, cond, List, [], ◌∷◌, Some, refl, sym, ap, ◌∙◌}
use Rattle.std.proofs.lemmas.Map.Lookups.{exact_bytes}
use Rattle.std.specs.Ordering.{match_ordering, ordering_reverse}
use Rattle.std.specs.declared.cmp.Ordering.{Ordering}
use Rattle.std.specs.declared.cmp.Ordering.TheVariants.{Less, Equal, Greater}
use Rattle.std.specs.Cmp.Lexicographic.{bytes_decides, nat_list_eq_equiv, nat_list_cmp_total}
use Rattle.std.specs.Str.{bytes_eq}
use Rattle.wt_wire.specs.HeaderList.{Fields, sort_key, compare_names, with_field, value_of}

abbrev tail_of : List ℕ → List ℕ
tail_of [] = []
tail_of (b ∷ bytes) = bytes

-- names that compare as equal are equal
same_names : (a b : List ℕ) → compare_names a b ≡ Equal → a ≡ b
same_names a b e = ap tail_of (exact_bytes (sort_key a) (sort_key b) e)

not_equal : (a b : List ℕ) → compare_names a b ≡ Greater → bytes_eq a b ≡ false
not_equal a b e = by (bytes_eq a b) refl
  where
    never : compare_names a a ≡ Greater → ⊥
    never g = let less : Less ≡ Greater = ap ordering_reverse (sym g) ∙ sym (nat_list_cmp_total.antisymm (sort_key a) (sort_key a)) ∙ g in cc

    by : (t : Bool) → bytes_eq a b ≡ t → t ≡ false
    by true h = absurd (never (ap (compare_names a) ((bytes_decides a b).0 h) ∙ e))
    by false h = refl

pub value_of_other : (wanted name value : List ℕ) (fields : Fields) → bytes_eq wanted name ≡ false → value_of wanted (with_field name value fields) ≡ value_of wanted fields
value_of_other wanted name value [] h = rw h refl
value_of_other wanted name value (f ∷ fields) h = by (value_of_other wanted name value fields h) (compare_names name f.0) refl
  where
    by : value_of wanted (with_field name value fields) ≡ value_of wanted fields → (o : Ordering) → compare_names name f.0 ≡ o →
        value_of wanted (match_ordering o ((name, value) ∷ f ∷ fields) ((f.0, value) ∷ fields) (f ∷ with_field name value fields)) ≡ value_of wanted (f ∷ fields)
    by rest Less e = rw h refl
    by rest Equal e = let other : bytes_eq wanted f.0 ≡ false = ap (bytes_eq wanted) (sym (same_names name f.0 e)) ∙ h in rw other refl
    by rest Greater e = ap (λ v. cond (bytes_eq wanted f.0) (Some f.1) v) rest

itself : (name : List ℕ) → bytes_eq name name ≡ true
itself name = nat_list_eq_equiv.refl name

pub value_of_set : (name value : List ℕ) (fields : Fields) → value_of name (with_field name value fields) ≡ Some value
value_of_set name value [] = rw (itself name) refl
value_of_set name value (f ∷ fields) = by (value_of_set name value fields) (compare_names name f.0) refl
  where
    by : value_of name (with_field name value fields) ≡ Some value → (o : Ordering) → compare_names name f.0 ≡ o →
        value_of name (match_ordering o ((name, value) ∷ f ∷ fields) ((f.0, value) ∷ fields) (f ∷ with_field name value fields)) ≡ Some value
    by rest Less e = rw (itself name) refl
    by rest Equal e = let same : bytes_eq name f.0 ≡ true = ap (bytes_eq name) (sym (same_names name f.0 e)) ∙ itself name in rw same refl
    by rest Greater e = let other : bytes_eq name f.0 ≡ false = not_equal name f.0 e in rw other rest
