-- What is written of a digest reads back.
use Rattle.std.proofs.Common.{◌≡◌, ◌≢◌, ◌≤◌, ◌<◌, ◌/◌, ◌%◌, ℕ, zero, suc, false, List, [], ◌∷◌, ◌++◌, length, get_or, Some, Result, Ok, Err, refl, sym, ap, ◌∙◌, arith, append-nil, lit<}
use Rattle.std.proofs.lemmas.Bool.Decides.{nat_tests}
use Rattle.std.proofs.lemmas.Fmt.{decimal_is_IsNumeral}
use Rattle.std.proofs.lemmas.Str.{chars-IsAscii, encodes-IsAscii, digit_value-digit_char}
use Rattle.std.proofs.lemmas.Str.Parse.{without_leading_plus_none}
use Rattle.std.specs.Char.{digit_value, is_whitespace}
use Rattle.std.specs.Fmt.{decimal}
use Rattle.std.specs.List.{AllByRecursion}
use Rattle.std.specs.Prelude.{IfOk, String, string_bytes, flat_map}
use Rattle.std.specs.Str.{IsAscii, skip_leading_whitespace, drop_trailing_whitespace, encode_utf8_all, trim, trim_start, trim_end}
use Rattle.std.specs.Str.Parse.{AllDigits, IsNumeral, digits_value, without_leading_plus}
use Rattle.wt_config.specs.declared.digest.Sha256DigestFmt.{Sha256DigestFmt}
use Rattle.wt_config.specs.declared.digest.Sha256DigestFmt.TheVariants.{BytesArray, DottedHex}
use Rattle.wt_config.specs.DigestText.{IsBytes, byte_of_digits, number_of, numbers_of, numbers_of_32, pieces_of, numbers_of_text, without_front, without_back, byte_before, without_brackets, digest_of_text, lower_digit, two_digits, joined_by, text_of_digest}
use Rattle.wt_config.proofs.DigestReading.{one_piece, piece_front, skip_front, skip_back, equal, byte_some}

-- ---- numerals
-- digits and letters are no white space, no sign, no separator and no bracket
record IsWordByte (c : ℕ) : Type 0 where
  low : 48 ≤ c
  high : c ≤ 122
  colon : c ≢ 58
  opening : c ≢ 91
  closing : c ≢ 93

word_byte : (c : ℕ) → digit_value c < 36 → IsWordByte c
word_byte c h = record { low = grind (arith, nat_tests); high = grind (arith, nat_tests); colon = λ e. grind (arith, nat_tests); opening = λ e. grind (arith, nat_tests); closing = λ e. grind (arith, nat_tests) }

word_bytes : (radix : ℕ) (ds : List ℕ) → radix ≤ 36 → AllDigits radix ds → AllByRecursion IsWordByte ds
word_bytes radix [] h a = tt
word_bytes radix (c ∷ cs) h a = (word_byte c (omega (arith, a.0)), word_bytes radix cs h a.1)

ascii : (ds : List ℕ) → AllByRecursion (λ c. c < 128) ds → IsAscii ds
ascii [] a i = omega arith
ascii (c ∷ cs) a zero = a.0
ascii (c ∷ cs) a (suc i) = ascii cs a.1 i

word_ascii : (ds : List ℕ) → AllByRecursion IsWordByte ds → AllByRecursion (λ c. c < 128) ds
word_ascii [] a = tt
word_ascii (c ∷ cs) a = (omega (arith, a.0.high), word_ascii cs a.1)

not_white : (c : ℕ) → IsWordByte c → is_whitespace c ≡ false
not_white c w = let low = w.low in let high = w.high in grind (arith, nat_tests)

skip_none : (ds : List ℕ) → AllByRecursion IsWordByte ds → skip_leading_whitespace ds ≡ ds
skip_none [] a = refl
skip_none (c ∷ cs) a = rw (not_white c a.0)

drop_none : (ds : List ℕ) → AllByRecursion IsWordByte ds → drop_trailing_whitespace ds ≡ ds
drop_none [] a = refl
drop_none (c ∷ cs) a = rw (not_white c a.0, drop_none cs a.1)

trim_end_none : (ds : List ℕ) → AllByRecursion IsWordByte ds → trim_end ds ≡ ds
unfolding trim_end
trim_end_none ds a =
    let small = ascii ds (word_ascii ds a) in
    ap (λ cs. encode_utf8_all (drop_trailing_whitespace cs)) (chars-IsAscii ds small) ∙ ap encode_utf8_all (drop_none ds a) ∙ encodes-IsAscii ds small

trim_none : (ds : List ℕ) → AllByRecursion IsWordByte ds → trim ds ≡ ds
unfolding trim_start
trim_none ds a =
    let small = ascii ds (word_ascii ds a) in
    ap trim_end (ap (λ cs. encode_utf8_all (skip_leading_whitespace cs)) (chars-IsAscii ds small) ∙ ap encode_utf8_all (skip_none ds a) ∙ encodes-IsAscii ds small) ∙ trim_end_none ds a

trim_blank : (ds : List ℕ) → AllByRecursion IsWordByte ds → trim (32 ∷ ds) ≡ ds
unfolding trim_start
trim_blank ds a =
    let small = ascii ds (word_ascii ds a) in
    let blank = ascii (32 ∷ ds) (lit< tt, word_ascii ds a) in
    ap trim_end (ap (λ cs. encode_utf8_all (skip_leading_whitespace cs)) (chars-IsAscii (32 ∷ ds) blank) ∙ ap encode_utf8_all (skip_none ds a) ∙ encodes-IsAscii ds small) ∙ trim_end_none ds a

no_plus : (ds : List ℕ) → AllByRecursion IsWordByte ds → get_or ds 0 0 ≢ 43
no_plus [] a e = cc
no_plus (c ∷ cs) a e = omega (arith, a.0.low)

number_of_trimmed : (radix n : ℕ) (piece ds : List ℕ) → radix ≤ 36 → trim piece ≡ ds → IsNumeral radix ds → digits_value radix ds ≡ n → n < 256 → number_of radix piece ≡ Some n
number_of_trimmed radix n piece ds h t d v small =
    ap (λ text. byte_of_digits radix (without_leading_plus text)) t
    ∙ ap (byte_of_digits radix) (without_leading_plus_none ds (no_plus ds (word_bytes radix ds h d.1)))
    ∙ byte_some radix ds d (omega arith) ∙ ap Some v

-- a number as it is written, and with a blank before it
record IsWritten (radix n : ℕ) (ds : List ℕ) : Type 0 where
  digits : AllByRecursion IsWordByte ds
  plain : number_of radix ds ≡ Some n
  blank : number_of radix (32 ∷ ds) ≡ Some n

written : (radix n : ℕ) (ds : List ℕ) → radix ≤ 36 → IsNumeral radix ds → digits_value radix ds ≡ n → n < 256 → IsWritten radix n ds
written radix n ds h d v small =
    let digits = word_bytes radix ds h d.1 in
    record {
      digits = digits;
      plain = number_of_trimmed radix n ds ds h (trim_none ds digits) d v small;
      blank = number_of_trimmed radix n (32 ∷ ds) ds h (trim_blank ds digits) d v small;
    }

decimal_written : (n : ℕ) → n < 256 → IsWritten 10 n (decimal n)
decimal_written n small = let facts = decimal_is_IsNumeral n (omega arith) in written 10 n (decimal n) (omega arith) facts.0 facts.1 small

lower_value : (d : ℕ) → d < 16 → digit_value (lower_digit d) ≡ d
lower_value d h = digit_value-digit_char d (omega arith)

two_digits_written : (n : ℕ) → n < 256 → IsWritten 16 n (two_digits n)
two_digits_written n small =
    let high : n / 16 < 16 = omega arith in
    let low : n % 16 < 16 = omega arith in
    let h = lower_value (n / 16) high in
    let l = lower_value (n % 16) low in
    written 16 n (two_digits n) (omega arith) (omega arith, rw (h, l) (high, (low, tt))) (rw (h, l) (omega arith)) small

-- ---- pieces
-- a text without a byte
abbrev Lacks : ℕ → List ℕ → Type 0
Lacks c bs = AllByRecursion (λ b. b ≢ c) bs

lacks_append : (c : ℕ) (xs ys : List ℕ) → Lacks c xs → Lacks c ys → Lacks c (xs ++ ys)
lacks_append c [] ys p q = q
lacks_append c (x ∷ xs) ys p q = (p.0, lacks_append c xs ys p.1 q)

lacks_at : (c : ℕ) (bs : List ℕ) → Lacks c bs → (i : ℕ) → i < length bs → get_or bs i 0 ≢ c
lacks_at c [] p i l = absurd (omega arith)
lacks_at c (b ∷ bs) p zero l = p.0
lacks_at c (b ∷ bs) p (suc i) l = lacks_at c bs p.1 i (omega arith)

word_lacks : (c : ℕ) (ds : List ℕ) → ((b : ℕ) → IsWordByte b → b ≢ c) → AllByRecursion IsWordByte ds → Lacks c ds
word_lacks c [] h a = tt
word_lacks c (d ∷ ds) h a = (h d a.0, word_lacks c ds h a.1)

-- how a form writes a byte: the radix, the separator, what follows it, and the digits
record Form (radix c : ℕ) (after : List ℕ) (shown : ℕ → List ℕ) : Type 0 where
  plain : (n : ℕ) → n < 256 → number_of radix (shown n) ≡ Some n
  later : (n : ℕ) → n < 256 → number_of radix (after ++ shown n) ≡ Some n
  front : (n : ℕ) → n < 256 → Lacks c (shown n)
  gap : Lacks c after

-- the pieces after the first
abbrev later_pieces : List ℕ → (ℕ → List ℕ) → List ℕ → List (List ℕ)
later_pieces after shown [] = []
later_pieces after shown (b ∷ bs) = (after ++ shown b) ∷ later_pieces after shown bs

length-later_pieces : (after : List ℕ) (shown : ℕ → List ℕ) (bs : List ℕ) → length (later_pieces after shown bs) ≡ length bs
length-later_pieces after shown [] = refl
length-later_pieces after shown (b ∷ bs) = ap suc (length-later_pieces after shown bs)

pieces_after : {radix c : ℕ} {after : List ℕ} {shown : ℕ → List ℕ} (form : Form radix c after shown) (front bs : List ℕ) → Lacks c front → AllByRecursion (λ b. b < 256) bs
    → pieces_of c (front ++ flat_map (λ b. (c ∷ after) ++ shown b) bs) ≡ front ∷ later_pieces after shown bs
pieces_after {radix} {c} {after} {shown} form front [] l a = ap (pieces_of c) (append-nil front) ∙ one_piece c front (lacks_at c front l)
pieces_after {radix} {c} {after} {shown} form front (b ∷ bs) l a =
    piece_front c _ front ((after ++ shown b) ++ flat_map (λ b. (c ∷ after) ++ shown b) bs) refl (lacks_at c front l)
    ∙ ap (λ pieces. front ∷ pieces) (pieces_after form (after ++ shown b) bs (lacks_append c after (shown b) form.gap (form.front b a.0)) a.1)

later_numbers : {radix c : ℕ} {after : List ℕ} {shown : ℕ → List ℕ} (form : Form radix c after shown) (bs : List ℕ) → AllByRecursion (λ b. b < 256) bs → numbers_of radix (later_pieces after shown bs) ≡ Some bs
later_numbers form [] a = refl
later_numbers form (b ∷ bs) a = rw (form.later b a.0, later_numbers form bs a.1)

joined_reads : {radix c : ℕ} {after : List ℕ} {shown : ℕ → List ℕ} (form : Form radix c after shown) (bs : List ℕ) → AllByRecursion (λ b. b < 256) bs → length bs ≡ 32
    → numbers_of_text radix c (joined_by (c ∷ after) shown bs) ≡ Some bs
joined_reads form [] a l = absurd (omega arith)
joined_reads {radix} {c} {after} {shown} form (b ∷ bs) a l =
    let numbers : numbers_of radix (shown b ∷ later_pieces after shown bs) ≡ Some (b ∷ bs) = rw (form.plain b a.0, later_numbers form bs a.1) in
    ap (numbers_of_32 radix) (pieces_after form (shown b) bs (form.front b a.0) a.1)
    ∙ equal (length (shown b ∷ later_pieces after shown bs)) (numbers_of radix (shown b ∷ later_pieces after shown bs)) (omega (arith, length-later_pieces after shown bs))
    ∙ numbers

dotted_form : Form 16 58 [] two_digits
dotted_form = record {
  plain = λ n small. (two_digits_written n small).plain;
  later = λ n small. (two_digits_written n small).plain;
  front = λ n small. word_lacks 58 (two_digits n) (λ b w. w.colon) (two_digits_written n small).digits;
  gap = tt;
}

array_form : Form 10 44 (32 ∷ []) decimal
array_form = record {
  plain = λ n small. (decimal_written n small).plain;
  later = λ n small. (decimal_written n small).blank;
  front = λ n small. word_lacks 44 (decimal n) (λ b w e. omega (arith, w.low)) (decimal_written n small).digits;
  gap = ((λ e. omega arith), tt);
}

-- ---- brackets
front_clear : (c : ℕ) (bs : List ℕ) → Lacks c bs → without_front c bs ≡ bs
front_clear c [] a = refl
front_clear c (b ∷ bs) a = let other : b ≢ c = a.0 in grind (arith, nat_tests)

back_clear : (c : ℕ) (bs : List ℕ) → Lacks c bs → without_back c bs ≡ bs
back_clear c [] a = refl
back_clear c (b ∷ []) a = let other : b ≢ c = a.0 in grind (arith, nat_tests)
back_clear c (b ∷ x ∷ xs) a = ap (λ kept. byte_before c b kept) (back_clear c (x ∷ xs) a.1)

flat_lacks : (c : ℕ) (f : ℕ → List ℕ) (bs : List ℕ) → ((b : ℕ) → b < 256 → Lacks c (f b)) → AllByRecursion (λ b. b < 256) bs → Lacks c (flat_map f bs)
flat_lacks c f [] h a = tt
flat_lacks c f (b ∷ bs) h a = lacks_append c (f b) (flat_map f bs) (h b a.0) (flat_lacks c f bs h a.1)

joined_lacks : (c : ℕ) (between : List ℕ) (shown : ℕ → List ℕ) (bs : List ℕ) → Lacks c between → ((b : ℕ) → b < 256 → Lacks c (shown b)) → AllByRecursion (λ b. b < 256) bs → Lacks c (joined_by between shown bs)
joined_lacks c between shown [] g h a = tt
joined_lacks c between shown (b ∷ bs) g h a =
    lacks_append c (shown b) _ (h b a.0) (flat_lacks c (λ byte. between ++ shown byte) bs (λ x small. lacks_append c between (shown x) g (h x small)) a.1)

unbracketed : (text : List ℕ) → Lacks 91 text → Lacks 93 text → without_brackets (91 ∷ (text ++ 93 ∷ [])) ≡ text
unbracketed text opening closing =
    ap (without_back 93) (skip_front 91 (text ++ 93 ∷ []) ∙ front_clear 91 (text ++ 93 ∷ []) (lacks_append 91 text (93 ∷ []) opening ((λ e. omega arith), tt)))
    ∙ skip_back 93 text ∙ back_clear 93 text closing

small_bytes : (bs : List ℕ) → IsBytes bs → AllByRecursion (λ b. b < 256) bs
small_bytes [] h = tt
small_bytes (b ∷ bs) h = (h 0, small_bytes bs (λ i. h (suc i)))

array_lacks : (c : ℕ) (bytes : List ℕ) → c ≢ 44 → c ≢ 32 → ((b : ℕ) → IsWordByte b → b ≢ c) → AllByRecursion (λ b. b < 256) bytes → Lacks c (joined_by (44 ∷ 32 ∷ []) decimal bytes)
array_lacks c bytes comma blank other small =
    joined_lacks c (44 ∷ 32 ∷ []) decimal bytes ((λ e. comma (sym e)), ((λ e. blank (sym e)), tt)) (λ b s. word_lacks c (decimal b) other (decimal_written b s).digits) small

array_reads : (bytes : List ℕ) → length bytes ≡ 32 → AllByRecursion (λ b. b < 256) bytes → numbers_of_text 10 44 (without_brackets (91 ∷ (joined_by (44 ∷ 32 ∷ []) decimal bytes ++ 93 ∷ []))) ≡ Some bytes
array_reads bytes l small =
    let opening = array_lacks 91 bytes (λ e. omega arith) (λ e. omega arith) (λ b w. w.opening) small in
    let closing = array_lacks 93 bytes (λ e. omega arith) (λ e. omega arith) (λ b w. w.closing) small in
    ap (numbers_of_text 10 44) (unbracketed (joined_by (44 ∷ 32 ∷ []) decimal bytes) opening closing) ∙ joined_reads array_form bytes small l

-- the text of a digest, in either form, is read as that digest
pub text_reads : (fmt : Sha256DigestFmt) (bytes : List ℕ) → length bytes ≡ 32 → IsBytes bytes → digest_of_text fmt (text_of_digest fmt bytes) ≡ Some bytes
text_reads DottedHex bytes l h = joined_reads dotted_form bytes (small_bytes bytes h) l
text_reads BytesArray bytes l h = array_reads bytes l (small_bytes bytes h)

-- and so is each text that `fmt` answers
pub text_reads_back : {E Z : Type 0} (fmt : Sha256DigestFmt) (inside bytes : List ℕ) (answer : Result (String Z) E) → length inside ≡ 32 → IsBytes inside → inside ≡ bytes
    → IfOk answer (λ text. string_bytes text ≡ text_of_digest fmt bytes) → IfOk answer (λ text. digest_of_text fmt (string_bytes text) ≡ Some bytes)
text_reads_back fmt inside bytes (Ok text) l h same e =
    ap (digest_of_text fmt) (e ∙ ap (text_of_digest fmt) (sym same)) ∙ text_reads fmt inside l h ∙ ap Some same
text_reads_back fmt inside bytes (Err error) l h same e = tt
