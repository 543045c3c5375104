-- What setting a field keeps of a list of fields.
use Rattle.std.proofs.Common.{◌≡◌, ℕ, List, [], ◌∷◌, refl, ap, ◌∙◌}
use Rattle.std.specs.Str.{IsUtf8}
use Rattle.std.specs.Ordering.{match_ordering, ordering_reverse}
use Rattle.std.specs.declared.cmp.Ordering.{Ordering}
use Rattle.std.specs.declared.cmp.Ordering.TheVariants.{Less, Equal, Greater}
use Rattle.std.specs.Cmp.Lexicographic.{nat_list_cmp_total}
use Rattle.wt_wire.specs.HeaderList.{Fields, sort_key, compare_names, with_field, IsAhead, IsHeaderList}

-- what comes after a name has that name ahead
after_is_ahead : (a b : List ℕ) → compare_names a b ≡ Greater → compare_names b a ≡ Less
after_is_ahead a b h = nat_list_cmp_total.antisymm (sort_key b) (sort_key a) ∙ ap ordering_reverse h

IsAhead-with_field : (first name value : List ℕ) (fields : Fields) → compare_names first name ≡ Less → IsAhead first fields → IsAhead first (with_field name value fields)
IsAhead-with_field first name value [] h a = h
IsAhead-with_field first name value (f ∷ fields) h a = by (compare_names name f.0)
  where
    by : (o : Ordering) → IsAhead first (match_ordering o ((name, value) ∷ f ∷ fields) ((f.0, value) ∷ fields) (f ∷ with_field name value fields))
    by Less = h
    by Equal = a
    by Greater = a

pub with_field_keeps : (name value : List ℕ) (fields : Fields) → IsHeaderList fields → IsUtf8 name → IsUtf8 value → IsHeaderList (with_field name value fields)
with_field_keeps name value [] h n v = (tt, n, v, tt)
with_field_keeps name value (f ∷ fields) h n v = by (with_field_keeps name value fields h.3 n v) (compare_names name f.0) refl
  where
    by : IsHeaderList (with_field name value fields) → (o : Ordering) → compare_names name f.0 ≡ o → IsHeaderList (match_ordering o ((name, value) ∷ f ∷ fields) ((f.0, value) ∷ fields) (f ∷ with_field name value fields))
    by rest Less e = (e, n, v, h)
    by rest Equal e = (h.0, h.1, v, h.3)
    by rest Greater e = (IsAhead-with_field f.0 name value fields (after_is_ahead name f.0 e) h.0, h.1, h.2, rest)
