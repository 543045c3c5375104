-- Numbers, bytes and texts that are printed are read back.
use Rattle.std.proofs.Common.{arith, ◌≡◌, ◌<◌, ◌≤◌, ◌+◌, ◌-◌, ◌*◌, ◌^◌, ◌%◌, ℕ, zero, suc, Bool, true, false, List, [], ◌∷◌, ◌++◌, length, get_or, refl, sym, ap, ◌∙◌}
use Rattle.std.proofs.lemmas.Bool.{and_from, and_parts, eq-eqb, false_from_ne_true, le-leb, leb-true, lt-ltb, ne_eqb, true≢false}
use Rattle.std.proofs.lemmas.Fmt.{decimal_digit, decimal_nonempty, digits_decimal, digits_value-decimal, first_decimal}
use Rattle.std.proofs.lemmas.List.Sums.{list_all-from_AllPass}
use Rattle.std.proofs.lemmas.Str.Parse.{IsNumeralModel, numerals_by_fold, tells_all_ascii_digits}
use Rattle.std.specs.Prelude.{◌==◌, ◌&&◌, Ok, None, Option, Some, ℤ, codes, decimal, if◌then◌else◌, nat_le, nat_lt, negsuc, not, pos}
use Rattle.std.specs.Char.{is_ascii_digit}
use Rattle.std.specs.Fmt.{signed_decimal}
use Rattle.std.specs.List.{list_all}
use Rattle.std.specs.Option.{option_and_then, option_map}
use Rattle.std.specs.Result.{result_ok}
use Rattle.std.specs.Str.{all_ascii_digits}
use Rattle.hex.proofs.HexLemmas.{decode_of-encode_lower, decode_of-ok}
use Rattle.hex.specs.Hex.{IsBytes, decode_of, encode_lower, encode_with, is_hex_digit}
use Rattle.wt_wire.proofs.TextLaws.{is_text_yes}
use Rattle.wt_wire.specs.Utf8.{is_text}
use Rattle.wt_script.specs.Fits.{IsCount, IsId, IsPriority, IsSession, IsText}
use Rattle.wt_script.specs.Numbers.{as_text, bytes_of, count_of, digits_of, id_of, is_decimal, minus, number, priority_of_word, session_of_word, text_of_word, value}
use Rattle.wt_script.specs.PrintErrors.{code_text, hex_text}
use Rattle.wt_script.proofs.Separators.{lacks}

-- ---- digits have no separator

-- all are hexadecimal digits
abbrev pub are_hex : List ℕ → Bool
are_hex word = list_all is_hex_digit word

pub hex_lacks : (s : ℕ) → is_hex_digit s ≡ false → (word : List ℕ) → are_hex word ≡ true → lacks s word ≡ true
hex_lacks s other [] e = refl
hex_lacks s other (b ∷ word) e =
    let both = and_parts (is_hex_digit b) (are_hex word) e in
    and_from (not (b == s)) (lacks s word) (ap not (ne_eqb b s (λ q. true≢false (sym both.0 ∙ ap is_hex_digit q ∙ other)))) (hex_lacks s other word both.1)

digit_is_hex : (c : ℕ) → 48 ≤ c → c ≤ 57 → is_hex_digit c ≡ true
digit_is_hex c low high =
    let no_upper : nat_le 65 c ≡ false = false_from_ne_true (nat_le 65 c) (λ t. omega (arith, leb-true 65 c t)) in
    let no_lower : nat_le 97 c ≡ false = false_from_ne_true (nat_le 97 c) (λ t. omega (arith, leb-true 97 c t)) in
    rw (no_upper, no_lower, le-leb 48 c low, le-leb c 57 high) refl

ascii_is_hex : (word : List ℕ) → all_ascii_digits word ≡ true → are_hex word ≡ true
ascii_is_hex [] e = refl
ascii_is_hex (c ∷ word) e =
    let both = and_parts (is_ascii_digit c) (all_ascii_digits word) e in
    let bounds = and_parts (nat_le 48 c) (nat_le c 57) both.0 in
    and_from (is_hex_digit c) (are_hex word) (digit_is_hex c (leb-true 48 c bounds.0) (leb-true c 57 bounds.1)) (ascii_is_hex word both.1)

-- ---- numbers

-- the value of digits is std's
model : IsNumeralModel (λ ds. all_ascii_digits ds ≡ true) (value 0)
model = numerals_by_fold (λ ds. all_ascii_digits ds ≡ true) tells_all_ascii_digits value
    (record { empty = λ n. refl; more = λ n c cs k. ap (λ m. value (m + (c - 48)) cs) (omega arith) })

ascii_decimal : (n : ℕ) → IsCount n → all_ascii_digits (decimal n) ≡ true
ascii_decimal n h = digits_decimal model n h

pub decimal_hex : (n : ℕ) → IsCount n → are_hex (decimal n) ≡ true
decimal_hex n h = ascii_is_hex (decimal n) (ascii_decimal n h)

is_decimal_by : (ds : List ℕ) → all_ascii_digits ds ≡ true → 0 < length ds → (get_or ds 0 0 ≡ 48 → length ds ≡ 1) → is_decimal ds ≡ true
is_decimal_by [] e some lead = absurd (omega arith)
is_decimal_by (c ∷ []) e some lead = (and_parts (is_ascii_digit c) true e).0
is_decimal_by (c ∷ d ∷ ds) e some lead =
    and_from (not (c == 48)) (all_ascii_digits (c ∷ d ∷ ds)) (ap not (ne_eqb c 48 (λ q. omega (arith, lead q)))) e

leads : (n : ℕ) → IsCount n → get_or (decimal n) 0 0 ≡ 48 → length (decimal n) ≡ 1
leads zero h q = ap length (decimal_digit 0 (omega arith))
leads (suc n) h q = absurd (omega (arith, first_decimal (suc n) (omega arith) h))

pub number_decimal : (limit n : ℕ) → IsCount n → n < limit → number limit (decimal n) ≡ Some n
number_decimal limit n h small =
    ap (λ t. if t && nat_lt (value 0 (decimal n)) limit then Some (value 0 (decimal n)) else None)
    (is_decimal_by (decimal n) (ascii_decimal n h) (decimal_nonempty n h) (leads n h))
    ∙ ap (λ v. if nat_lt v limit then Some v else None) (digits_value-decimal model n h)
    ∙ ap (λ t. if t then Some n else None) (lt-ltb n limit small)

pub count_decimal : (n : ℕ) → IsCount n → count_of (decimal n) ≡ Some n
count_decimal n h = number_decimal (2 ^ 64) n h h

pub id_decimal : (n : ℕ) → IsId n → id_of (decimal n) ≡ Some n
id_decimal n h = number_decimal (2 ^ 62) n (omega arith) h

pub session_decimal : (id : ℕ) → IsSession id → session_of_word (decimal id) ≡ Some id
session_decimal id h =
    ap (option_and_then (λ (id : ℕ). if id % 4 == 0 then Some id else None)) (id_decimal id h.0)
    ∙ ap (λ t. if t then Some id else None) (eq-eqb (id % 4) 0 h.1)

unsigned : (ds : List ℕ) → all_ascii_digits ds ≡ true → 0 < length ds → priority_of_word ds ≡ option_map pos (number (2 ^ 31) ds)
unsigned [] e some = absurd (omega arith)
unsigned (c ∷ ds) e some =
    let bounds = and_parts (nat_le 48 c) (nat_le c 57) (and_parts (is_ascii_digit c) (all_ascii_digits ds) e).0 in
    ap (λ t. if t then option_map minus (number (2 ^ 31 + 1) ds) else option_map pos (number (2 ^ 31) (c ∷ ds)))
    (ne_eqb c 45 (λ q. omega (arith, leb-true 48 c bounds.0)))

pub priority_decimal : (priority : ℤ) → IsPriority priority → priority_of_word (signed_decimal priority) ≡ Some priority
priority_decimal (pos n) h =
    let count : IsCount n = omega arith in
    unsigned (decimal n) (ascii_decimal n count) (decimal_nonempty n count) ∙ ap (option_map pos) (number_decimal (2 ^ 31) n count h)
priority_decimal (negsuc n) h = ap (option_map minus) (number_decimal (2 ^ 31 + 1) (suc n) (omega arith) (omega arith))

pub priority_lacks : (s : ℕ) → is_hex_digit s ≡ false → (45 == s) ≡ false → (priority : ℤ) → IsPriority priority → lacks s (signed_decimal priority) ≡ true
priority_lacks s other dash (pos n) h = hex_lacks s other (decimal n) (decimal_hex n (omega arith))
priority_lacks s other dash (negsuc n) h =
    and_from (not (45 == s)) (lacks s (decimal (suc n))) (ap not dash) (hex_lacks s other (decimal (suc n)) (decimal_hex (suc n) (omega arith)))

-- ---- bytes

pub digits_encoded : (bytes : List ℕ) → IsBytes bytes → digits_of (encode_lower bytes) ≡ Some bytes
digits_encoded bytes h = ap result_ok (decode_of-encode_lower bytes h)

pub encoded_hex : (bytes : List ℕ) → IsBytes bytes → are_hex (encode_lower bytes) ≡ true
encoded_hex bytes h =
    list_all-from_AllPass is_hex_digit (encode_lower bytes) (decode_of-ok (encode_lower bytes) bytes (decode_of-encode_lower bytes h)).1

pub hex_text_lacks : (s : ℕ) → is_hex_digit s ≡ false → (45 == s) ≡ false → (bytes : List ℕ) → IsBytes bytes → lacks s (hex_text bytes) ≡ true
hex_text_lacks s other dash [] h = and_from (not (45 == s)) true (ap not dash) refl
hex_text_lacks s other dash (b ∷ bytes) h = hex_lacks s other (encode_lower (b ∷ bytes)) (encoded_hex (b ∷ bytes) h)

-- digits are no dash
two_digits : (c d : ℕ) (word : List ℕ) → bytes_of (c ∷ d ∷ word) ≡ digits_of (c ∷ d ∷ word)
two_digits c d word = by (c == 45) where
  by : (t : Bool) → (if t && false then Some [] else digits_of (c ∷ d ∷ word)) ≡ digits_of (c ∷ d ∷ word)
  by true = refl
  by false = refl

pub bytes_encoded : (bytes : List ℕ) → IsBytes bytes → bytes_of (hex_text bytes) ≡ Some bytes
unfolding encode_with
bytes_encoded [] h = refl
bytes_encoded (b ∷ bytes) h = two_digits _ _ _ ∙ digits_encoded (b ∷ bytes) h

-- ---- texts

pub text_encoded : (text : List ℕ) → IsText text → text_of_word (hex_text text) ≡ Some text
text_encoded text h = ap (option_and_then as_text) (bytes_encoded text h.1) ∙ ap (λ t. if t then Some text else None) (is_text_yes text h.0)
