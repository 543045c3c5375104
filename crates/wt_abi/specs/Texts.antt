-- Texts and header fields in the bytes of a turn.
use Rattle.std.specs.Prelude.{ℕ, zero, suc, nat_lt, List, [], ◌∷◌, length, take, drop, Option, Some, None, if◌then◌else◌}
use Rattle.std.specs.Int.{from_le_bytes, w64}
use Rattle.std.specs.Option.{option_and_then, option_map}
use Rattle.wt_wire.specs.HeaderList.{Fields, with_field}
use Rattle.wt_wire.specs.Utf8.{is_text}

-- bytes that are a text (RFC 3629)
abbrev pub as_text : List ℕ → Option (List ℕ)
as_text bytes = if is_text bytes then Some bytes else None

-- the text of the first n bytes, and the bytes after it
abbrev pub text_of_length : ℕ → List ℕ → Option (List ℕ × List ℕ)
text_of_length n bytes = if nat_lt (length bytes) n then None else option_map (λ text. (text, drop n bytes)) (as_text (take n bytes))

-- the text at the front, and the bytes after it: eight bytes are its length, the lowest first, and its own bytes follow
unfoldable pub text_at : List ℕ → Option (List ℕ × List ℕ)
text_at bytes = if nat_lt (length bytes) 8 then None else text_of_length (from_le_bytes w64 (take 8 bytes)) (drop 8 bytes)

-- the name and the value at the front, and the bytes after them
abbrev pub field_at : List ℕ → Option ((List ℕ × List ℕ) × List ℕ)
field_at bytes = option_and_then (λ name. option_map (λ value. ((name.0, value.0), value.1)) (text_at name.1)) (text_at bytes)

-- n more fields, which are all that is left; a later value takes the place of an earlier one
abbrev pub fields_from : ℕ → Fields → List ℕ → Option Fields
fields_from zero fields [] = Some fields
fields_from zero fields (b ∷ bytes) = None
fields_from (suc n) fields bytes = option_and_then (λ f. fields_from n (with_field f.0.0 f.0.1 fields) f.1) (field_at bytes)

-- the n fields of the bytes
abbrev pub fields_of : ℕ → List ℕ → Option Fields
fields_of n bytes = fields_from n [] bytes
