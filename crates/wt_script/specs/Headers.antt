-- Header fields in a script.
use Rattle.std.specs.Prelude.{ℕ, List, [], ◌∷◌, Option, Some, None}
use Rattle.std.specs.Option.{option_and_then, option_map}
use Rattle.wt_wire.specs.HeaderList.{Fields, with_field}
use Rattle.wt_script.specs.Numbers.{digits_of, as_text}
use Rattle.wt_script.specs.Words.{parts, two}

-- a name or a value: the bytes of a text, of which there may be none
abbrev pub header_text_of : List ℕ → Option (List ℕ)
header_text_of digits = option_and_then as_text (digits_of digits)

-- a name and a value with '=' between them
abbrev pub header_of : List ℕ → Option (List ℕ × List ℕ)
header_of word = two header_text_of header_text_of (parts 61 word)

-- the fields with that of one more word; a later value takes the place of an earlier one
abbrev pub with_header : Fields → List ℕ → Option Fields
with_header fields word = option_map (λ field. with_field field.0 field.1 fields) (header_of word)

-- the fields that words spell, added to those that are there
abbrev pub headers_from : Fields → List (List ℕ) → Option Fields
headers_from fields [] = Some fields
headers_from fields (word ∷ words) = elim (with_header fields word) [ Some more ↦ headers_from more words | None ↦ None ]

-- the fields that words spell
abbrev pub headers_of_words : List (List ℕ) → Option Fields
headers_of_words words = headers_from [] words
