-- Field sections of literal field lines with literal names (RFC 9204 section 4.5).
use Rattle.std.specs.Prelude.{ℕ, zero, suc, ◌+◌, ◌-◌, ◌/◌, ◌==◌, ◌||◌, ◌<◌, nat_lt, Bool, false, List, [], ◌∷◌, ◌++◌, length, take, drop, Option, Some, None, Result, if◌then◌else◌}
use Rattle.std.specs.List.{flat_map}
use Rattle.std.specs.Option.{ok_or}
use Rattle.wt_wire.specs.OptionBind.{◌>>=◌}
use Rattle.wt_wire.specs.declared.error.ErrorCode.{ErrorCode}
use Rattle.wt_wire.specs.declared.error.ErrorCode.TheVariants.{Decompression}
use Rattle.wt_wire.specs.Utf8.{is_text}
use Rattle.wt_wire.specs.HeaderList.{Fields, with_field}
use Rattle.wt_wire.specs.PrefixedInteger.{prefixed_at, prefixed_bytes}

-- a string literal without Huffman code: its length, and the text (RFC 9204 section 4.1.2); text and length
abbrev pub text_of : ℕ → List ℕ → Option (List ℕ × ℕ)
text_of len text = if is_text text then Some (text, len) else None

-- the same, where its length n.0 is read in n.1 bytes
abbrev pub string_with_size : List ℕ → ℕ × ℕ → Option (List ℕ × ℕ)
string_with_size bytes n =
    if nat_lt (length bytes - n.1) n.0 then None else text_of (n.1 + n.0) (take n.0 (drop n.1 bytes))

-- the string literal at the front, whose length has a prefix that is all ones at full; text and length
unfoldable pub string_at : ℕ → List ℕ → Option (List ℕ × ℕ)
string_at full bytes = do
  n ← prefixed_at full bytes
  string_with_size bytes n

-- a literal field line with literal name (RFC 9204 section 4.5.6): a name, a value and how many bytes they take
pub record FieldLine : Type 0 where
  pub name : List ℕ
  pub value : List ℕ
  pub len : ℕ

-- the bits 0 0 1 N 0 and three bits of the length of the name, where N is 0 or 1
abbrev pub begins_line : ℕ → Bool
begins_line b = b / 8 == 4 || b / 8 == 6

-- the bit 0 and seven bits of the length of the value
abbrev pub begins_value : List ℕ → Bool
begins_value [] = false
begins_value (b ∷ bytes) = nat_lt b 128

-- the value at the front; text and length
abbrev pub value_at : List ℕ → Option (List ℕ × ℕ)
value_at bytes = if begins_value bytes then string_at 127 bytes else None

-- a name, and a value after it
abbrev pub name_and_value_at : List ℕ → Option FieldLine
name_and_value_at bytes = do
  name ← string_at 7 bytes
  value ← value_at (drop name.1 bytes)
  Some (record { name = name.0; value = value.0; len = name.1 + value.1 })

-- the field line at the front
unfoldable pub line_at : List ℕ → Option FieldLine
line_at [] = None
line_at (b ∷ bytes) = if begins_line b then name_and_value_at (b ∷ bytes) else None

-- the fields of the lines up to the end, after lines with these fields and n bytes that were read
unfoldable pub field_lines_from : Fields → ℕ → List ℕ → Option Fields
field_lines_from fields zero [] = Some fields
field_lines_from fields (suc k) [] = None
field_lines_from fields (suc k) (b ∷ bytes) = field_lines_from fields k bytes
field_lines_from fields zero (b ∷ bytes) = do
  line ← line_at (b ∷ bytes)
  field_lines_from (with_field line.name line.value fields) (line.len - 1) bytes

-- a field section: 00 00, which says that no table is used (RFC 9204 section 4.5.1), and lines; a repeated name keeps the last value
-- (this repository's rule; RFC 9110, section 5.3, combines the values of a repeated name in their order, and RFC 9204, section 4.5, also has lines that name entries of tables, and Huffman code)
abbrev pub section_at : List ℕ → Option Fields
section_at (zero ∷ zero ∷ lines) = field_lines_from [] 0 lines
section_at _ = None

-- the fields of a payload; what is no such section is the error QPACK_DECOMPRESSION_FAILED (RFC 9204, section 8.3)
abbrev pub headers_of : List ℕ → Result Fields ErrorCode
headers_of payload = ok_or (section_at payload) Decompression

-- ---- how they are written: N is 0

-- a string literal whose first byte has these bits above its prefix
abbrev pub literal_bytes : ℕ → ℕ → List ℕ → List ℕ
literal_bytes high full text = prefixed_bytes high full (length text) ++ text

-- a field line
abbrev pub line_bytes : List ℕ × List ℕ → List ℕ
line_bytes f = literal_bytes 32 7 f.0 ++ literal_bytes 0 127 f.1

-- a field section
abbrev pub section_bytes : Fields → List ℕ
section_bytes fields = 0 ∷ 0 ∷ flat_map line_bytes fields

-- each text is shorter than 2 ^ 28 bytes, which a reader that takes four further bytes reads
abbrev pub AreShort : Fields → Type 0
AreShort [] = Unit {0}
AreShort (f ∷ fields) = (length f.0 < 268435456) × (length f.1 < 268435456) × AreShort fields
