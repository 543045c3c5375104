-- The two text forms of a SHA-256 digest, as functions on the bytes of a text. They are the forms
-- of `wtransport`'s `Sha256DigestFmt`.
use Rattle.std.specs.Prelude.{◌≡◌, ℕ, ◌+◌, ◌*◌, ◌/◌, ◌%◌, ◌<◌, ◌≤◌, ◌⊎◌, ◌==◌, ◌&&◌, nat_lt, nat_le, if◌then◌else◌, List, [], ◌∷◌, ◌++◌, length, slice_index, flat_map, codes, Option, Some, None}
use Rattle.std.specs.List.{slice_split, list_all}
use Rattle.std.specs.Option.{option_or}
use Rattle.std.specs.Fmt.{decimal}
use Rattle.std.specs.Char.{digit_value}
use Rattle.std.specs.Str.{trim}
use Rattle.std.specs.Str.Parse.{digits_value, without_leading_plus}
use Rattle.wt_wire.specs.OptionBind.{◌>>=◌}
use Rattle.wt_config.specs.declared.digest.Sha256DigestFmt.{Sha256DigestFmt}
use Rattle.wt_config.specs.declared.digest.Sha256DigestFmt.TheVariants.{BytesArray, DottedHex}

-- each number is a byte
abbrev pub IsBytes : List ℕ → Type 0
IsBytes bytes = (i : ℕ) → slice_index bytes i < 256

-- The number that some digits write, where there is one digit or more, each is a digit of the radix
-- (a letter in either case), and the number is at most 255.
abbrev pub byte_of_digits : ℕ → List ℕ → Option ℕ
byte_of_digits radix [] = None
byte_of_digits radix (digit ∷ digits) =
    if list_all (λ c. nat_lt (digit_value c) radix) (digit ∷ digits) && nat_le (digits_value radix (digit ∷ digits)) 255
    then Some (digits_value radix (digit ∷ digits)) else None

-- The number of a piece: white space around it is passed over, and so is one `+` before the digits.
--
-- `trim` is that of a Rust `str`. It takes from both ends the characters that have Unicode's property
-- White_Space: U+0009 to U+000D, U+0020, U+0085 (in UTF-8 the bytes C2 85), U+00A0 (C2 A0), U+1680
-- (E1 9A 80), U+2000 to U+200A (E2 80 80 to E2 80 8A), U+2028, U+2029, U+202F (E2 80 A8, A9, AF),
-- U+205F (E2 81 9F) and U+3000 (E3 80 80).
abbrev pub number_of : ℕ → List ℕ → Option ℕ
number_of radix piece = byte_of_digits radix (without_leading_plus (trim piece))

-- a first number before others, if each is there
abbrev pub with_first : Option ℕ → Option (List ℕ) → Option (List ℕ)
with_first first following = do
  number ← first
  numbers ← following
  Some (number ∷ numbers)

-- the numbers of some pieces, if each has one
abbrev pub numbers_of : ℕ → List (List ℕ) → Option (List ℕ)
numbers_of radix [] = Some []
numbers_of radix (piece ∷ pieces) = with_first (number_of radix piece) (numbers_of radix pieces)

-- the numbers of exactly 32 pieces
abbrev pub numbers_of_32 : ℕ → List (List ℕ) → Option (List ℕ)
numbers_of_32 radix pieces = if length pieces == 32 then numbers_of radix pieces else None

-- the pieces of a text that is split at each separator
abbrev pub pieces_of : ℕ → List ℕ → List (List ℕ)
pieces_of separator text = slice_split (λ byte. byte == separator) text

-- the pieces of the text that follows a separator, if one does
abbrev pub remaining_pieces : ℕ → Option (List ℕ) → List (List ℕ)
remaining_pieces separator None = []
remaining_pieces separator (Some text) = pieces_of separator text

-- the numbers of a text's pieces
abbrev pub numbers_of_text : ℕ → ℕ → List ℕ → Option (List ℕ)
numbers_of_text radix separator text = numbers_of_32 radix (pieces_of separator text)

-- a text without each of these bytes at its front
abbrev pub without_front : ℕ → List ℕ → List ℕ
without_front bracket [] = []
without_front bracket (byte ∷ bytes) = if byte == bracket then without_front bracket bytes else byte ∷ bytes

-- a byte before a text without each of these bytes at its end
abbrev pub byte_before : ℕ → ℕ → List ℕ → List ℕ
byte_before bracket byte [] = if byte == bracket then [] else byte ∷ []
byte_before bracket byte (kept ∷ bytes) = byte ∷ kept ∷ bytes

-- a text without each of these bytes at its end
abbrev pub without_back : ℕ → List ℕ → List ℕ
without_back bracket [] = []
without_back bracket (byte ∷ bytes) = byte_before bracket byte (without_back bracket bytes)

-- a text without each `[` at its front and each `]` at its end
abbrev pub without_brackets : List ℕ → List ℕ
without_brackets text = without_back 93 (without_front 91 text)

-- The digest that a text writes in a form: 32 numbers of at most 255, decimal between commas and
-- within brackets, or hexadecimal between colons.
abbrev pub digest_of_text : Sha256DigestFmt → List ℕ → Option (List ℕ)
digest_of_text BytesArray text = numbers_of_text 10 44 (without_brackets text)
digest_of_text DottedHex text = numbers_of_text 16 58 text

-- the code of a hexadecimal digit: `0` to `9` are 48 to 57, and the lower-case `a` to `f` 97 to 102
abbrev pub lower_digit : ℕ → ℕ
lower_digit digit = if nat_lt digit 10 then 48 + digit else 87 + digit

-- a byte in two hexadecimal digits, the high four bits first
abbrev pub two_digits : ℕ → List ℕ
two_digits byte = lower_digit (byte / 16) ∷ lower_digit (byte % 16) ∷ []

-- some bytes, each as it is written, with a text between each two
abbrev pub joined_by : List ℕ → (ℕ → List ℕ) → List ℕ → List ℕ
joined_by between written [] = []
joined_by between written (first ∷ following) = written first ++ flat_map (λ byte. between ++ written byte) following

-- the dotted form: two lower-case hexadecimal digits for each byte, joined by colons
abbrev pub dotted_hex : List ℕ → List ℕ
dotted_hex bytes = joined_by (codes ":") two_digits bytes

-- the array form: the decimal numbers, joined by a comma and a blank, within brackets
abbrev pub bytes_array : List ℕ → List ℕ
bytes_array bytes = codes "[" ++ (joined_by (codes ", ") decimal bytes ++ codes "]")

-- the text of a digest in a form
abbrev pub text_of_digest : Sha256DigestFmt → List ℕ → List ℕ
text_of_digest BytesArray bytes = bytes_array bytes
text_of_digest DottedHex bytes = dotted_hex bytes

-- the digest that a text writes in either form: the array form is tried first
abbrev pub digest_of_any_text : List ℕ → Option (List ℕ)
digest_of_any_text text = option_or (digest_of_text BytesArray text) (digest_of_text DottedHex text)

-- a lower-case hexadecimal digit, `0` to `9` or `a` to `f`
abbrev pub IsLowerDigit : ℕ → Type 0
IsLowerDigit c = ((48 ≤ c) × (c ≤ 57)) ⊎ ((97 ≤ c) × (c ≤ 102))

-- 32 times two lower-case hexadecimal digits, joined by colons
pub record IsDottedHex (text : List ℕ) : Type 0 where
  pub whole : length text ≡ 95
  pub high : (k : ℕ) → k < 32 → IsLowerDigit (slice_index text (3 * k))
  pub low : (k : ℕ) → k < 32 → IsLowerDigit (slice_index text (3 * k + 1))
  pub colon : (k : ℕ) → k < 31 → slice_index text (3 * k + 2) ≡ 58
