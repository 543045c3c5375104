-- Lists of fields in one order: pseudo-header fields first (RFC 9114 section 4.3).
use Rattle.std.specs.Prelude.{◌≡◌, ℕ, ◌==◌, Bool, false, List, [], ◌∷◌, Option, Some, None, if◌then◌else◌}
use Rattle.std.specs.Str.{IsUtf8, bytes_eq}
use Rattle.std.specs.Ordering.{match_ordering, nat_cmp}
use Rattle.std.specs.declared.cmp.Ordering.{Ordering}
use Rattle.std.specs.declared.cmp.Ordering.TheVariants.{Less}
use Rattle.std.specs.Cmp.Lexicographic.{slice_cmp}

-- names with their values
abbrev pub Fields : Type 0
Fields = List (List ℕ × List ℕ)

-- the name of a pseudo-header field begins with ':'
abbrev pub is_pseudo : List ℕ → Bool
is_pseudo [] = false
is_pseudo (b ∷ name) = b == 58

-- the key by which names ascend: a 0 before those that begin with ':', and a 1 before the others
abbrev pub sort_key : List ℕ → List ℕ
sort_key name = (if is_pseudo name then 0 else 1) ∷ name

-- the order of two names
abbrev pub compare_names : List ℕ → List ℕ → Ordering
compare_names a b = slice_cmp nat_cmp (sort_key a) (sort_key b)

-- the fields with this value at the name, in place of the one that an equal name has
abbrev pub with_field : List ℕ → List ℕ → Fields → Fields
with_field name value [] = (name, value) ∷ []
with_field name value (f ∷ fields) =
    match_ordering (compare_names name f.0) ((name, value) ∷ f ∷ fields) ((f.0, value) ∷ fields) (f ∷ with_field name value fields)

-- the value at the name
abbrev pub value_of : List ℕ → Fields → Option (List ℕ)
value_of name [] = None
value_of name (f ∷ fields) = if bytes_eq name f.0 then Some f.1 else value_of name fields

-- the name comes before that of the first field
abbrev pub IsAhead : List ℕ → Fields → Type 0
IsAhead name [] = Unit {0}
IsAhead name (f ∷ fields) = compare_names name f.0 ≡ Less

-- the names ascend, so no two are equal; names and values are UTF-8
abbrev pub IsHeaderList : Fields → Type 0
IsHeaderList [] = Unit {0}
IsHeaderList (f ∷ fields) = IsAhead f.0 fields × IsUtf8 f.0 × IsUtf8 f.1 × IsHeaderList fields
