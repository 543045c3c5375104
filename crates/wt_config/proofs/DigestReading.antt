-- Why the reader of digests computes the definitions of `specs/DigestText.antt`.
use Rattle.std.proofs.Common.{◌≡◌, ◌≢◌, ◌<◌, ◌+◌, ◌^◌, ℕ, Bool, true, false, List, [], ◌∷◌, ◌++◌, length, get_or, take, drop, Option, Some, None, Result, Ok, Err, refl, sym, ap, ◌∙◌, ◌-◌, arith, zero-add, append_assoc, append-nil, length-append}
use Rattle.std.proofs.lemmas.Bool.Decides.{nat_tests}
use Rattle.std.proofs.lemmas.List.Elements.{All-from_get_or}
use Rattle.std.proofs.lemmas.List.Splits.{slice_split_none, slice_split_at, length-slice_split}
use Rattle.std.proofs.lemmas.List.{drop_all, take-append-drop}
use Rattle.std.proofs.lemmas.Str.{encode_ascii, len_utf8_ascii}
use Rattle.std.proofs.lemmas.Str.Pattern.{drop_at_char}
use Rattle.std.specs.Char.{len_utf8}
use Rattle.std.specs.Prelude.{IfSome}
use Rattle.std.specs.Char.{digit_value}
use Rattle.std.specs.List.{list_all}
use Rattle.std.specs.Prelude.{◌&&◌, nat_eq, nat_le, nat_lt, if◌then◌else◌}
use Rattle.std.specs.Prelude.{option_map}
use Rattle.std.specs.Str.Pattern.{FindsCharPrefix, FindsCharSuffix, IsTrimStartMatches, IsTrimEndMatches, CutsPrefixes, CutsSuffixes, HasCharAt}
use Rattle.std.specs.Result.{result_ok, OkIff}
use Rattle.std.specs.Str.Parse.{AllDigits, IsNumeral, digits_value}
use Rattle.wt_config.specs.DigestText.{byte_of_digits, pieces_of, number_of, numbers_of, with_first, numbers_of_32, without_front, without_back, byte_before}

-- a text without the separator is one piece
pub one_piece : (c : ℕ) (bs : List ℕ) → ((i : ℕ) → i < length bs → get_or bs i 0 ≢ c) → pieces_of c bs ≡ bs ∷ []
one_piece c bs h = slice_split_none (λ b. nat_eq b c) bs (All-from_get_or (λ b. nat_eq b c ≡ false) bs 0 (λ i l. let n : get_or bs i 0 ≢ c = h i l in grind (arith, nat_tests)))

-- a text has a piece
pub some_piece : (c : ℕ) (bs : List ℕ) → 0 < length (pieces_of c bs)
some_piece c bs = omega (arith, length-slice_split (λ b. nat_eq b c) bs)

-- and a first piece ends at the first separator
pub piece_front : (c : ℕ) (bs xs ys : List ℕ) → bs ≡ xs ++ (c ∷ ys) → ((i : ℕ) → i < length xs → get_or xs i 0 ≢ c) → pieces_of c bs ≡ xs ∷ pieces_of c ys
piece_front c bs xs ys e h =
    ap (λ b. pieces_of c b) e
    ∙ slice_split_at (λ b. nat_eq b c) xs c ys (All-from_get_or (λ b. nat_eq b c ≡ false) xs 0 (λ i l. let n : get_or xs i 0 ≢ c = h i l in grind (arith, nat_tests))) (grind (arith, nat_tests))

-- the test on digits decides the fact of std
digits_true : (radix : ℕ) (ds : List ℕ) → AllDigits radix ds → list_all (λ c. nat_lt (digit_value c) radix) ds ≡ true
digits_true radix [] h = refl
digits_true radix (c ∷ cs) h = let below : digit_value c < radix = h.0 in let rest = digits_true radix cs h.1 in rw rest (grind (arith, nat_tests))

digits_all : (radix : ℕ) (ds : List ℕ) → list_all (λ c. nat_lt (digit_value c) radix) ds ≡ true → AllDigits radix ds
digits_all radix [] h = tt
digits_all radix (c ∷ cs) h = (grind (arith, nat_tests), digits_all radix cs (grind (arith, nat_tests)))

pub byte_some : (radix : ℕ) (ds : List ℕ) → IsNumeral radix ds → digits_value radix ds < 2 ^ 8 → byte_of_digits radix ds ≡ Some (digits_value radix ds)
byte_some radix [] h l = absurd (omega (arith, h.0))
byte_some radix (c ∷ cs) h l =
    let all = digits_true radix (c ∷ cs) h.1 in
    rw all (grind (arith, nat_tests))

none_unless : {A : Type 0} (a b : Bool) (x : A) → ¬ ((a ≡ true) × (b ≡ true)) → (if a && b then Some x else None) ≡ None
none_unless true true x h = absurd (h (refl, refl))
none_unless true false x h = refl
none_unless false b x h = refl

small_byte : (n : ℕ) → nat_le n 255 ≡ true → n < 2 ^ 8
small_byte n h = grind (arith, nat_tests)

byte_none : (radix : ℕ) (ds : List ℕ) → ¬ (IsNumeral radix ds × (digits_value radix ds < 2 ^ 8)) → byte_of_digits radix ds ≡ None
byte_none radix [] h = refl
byte_none radix (c ∷ cs) h =
    none_unless (list_all (λ c. nat_lt (digit_value c) radix) (c ∷ cs)) (nat_le (digits_value radix (c ∷ cs)) 255) (digits_value radix (c ∷ cs))
    (λ t. h ((omega arith, digits_all radix (c ∷ cs) t.0), small_byte _ t.1))

-- what std reads as a number of eight bits is the definition's
pub parsed_byte : {E : Type 0} (radix : ℕ) (ds : List ℕ) (r : Result ℕ E) → OkIff r (IsNumeral radix ds × (digits_value radix ds < 2 ^ 8)) (digits_value radix ds) → result_ok r ≡ byte_of_digits radix ds
parsed_byte radix ds (Ok x) h = ap Some h.1 ∙ sym (byte_some radix ds h.0.0 h.0.1)
parsed_byte radix ds (Err e) h = sym (byte_none radix ds h)

-- ---- the brackets
pub skip_front : (c : ℕ) (bs : List ℕ) → without_front c (c ∷ bs) ≡ without_front c bs
skip_front c bs = grind (arith, nat_tests)

-- a cut at the front changes nothing
front_cuts : (c : ℕ) (s ns r : List ℕ) → c < 128 → CutsPrefixes (FindsCharPrefix c) s ns r → without_front c s ≡ without_front c r
front_cuts c s [] r small h = ap (λ bs. without_front c bs) (sym h)
front_cuts c s (n ∷ ns) r small h =
    let begins : h.0 ≡ c ∷ drop n h.0 = drop_at_char c h.0 0 n h.2 small in
    front_cuts c s ns h.0 small h.1 ∙ ap (λ bs. without_front c bs) begins ∙ skip_front c (drop n h.0) ∙ ap (λ bs. without_front c bs) (sym h.3)

-- and where the text doesn't begin with c, nothing is cut
front_kept : (c : ℕ) (r : List ℕ) → ((rest : List ℕ) → r ≢ c ∷ rest) → without_front c r ≡ r
front_kept c [] h = refl
front_kept c (x ∷ xs) h = let other : x ≢ c = λ e. h xs (ap (λ b. b ∷ xs) e) in grind (arith, nat_tests)

no_width : (c : ℕ) → c < 128 → 0 ≡ len_utf8 c → ⊥
no_width c small e = omega (arith, len_utf8_ascii c small)

front_done : (c : ℕ) (r : List ℕ) (o : Option ℕ) → c < 128 → FindsCharPrefix c r o → IfSome o (λ n. n ≡ 0) → without_front c r ≡ r
front_done c r None small h z = front_kept c r (λ rest e. h rest (e ∙ ap (λ bs. bs ++ rest) (sym (encode_ascii c small))))
front_done c r (Some n) small h z = absurd (no_width c small (sym z ∙ h.ends ∙ zero-add (len_utf8 c)))

pub trimmed_front : (c : ℕ) (s r : List ℕ) → c < 128 → IsTrimStartMatches (FindsCharPrefix c) s r → r ≡ without_front c s
trimmed_front c s r small h = sym (front_cuts c s h.0.0 r small h.0.1 ∙ front_done c r h.1.0 small h.1.1 h.1.2)

pub skip_back : (c : ℕ) (bs : List ℕ) → without_back c (bs ++ c ∷ []) ≡ without_back c bs
skip_back c [] = grind (arith, nat_tests)
skip_back c (x ∷ xs) = ap (λ kept. byte_before c x kept) (skip_back c xs)

back_kept : (c : ℕ) (r : List ℕ) → ((front : List ℕ) → r ≢ front ++ c ∷ []) → without_back c r ≡ r
back_kept c [] h = refl
back_kept c (x ∷ []) h = let other : x ≢ c = λ e. h [] (ap (λ b. b ∷ []) e) in grind (arith, nat_tests)
back_kept c (x ∷ y ∷ ys) h = ap (λ kept. byte_before c x kept) (back_kept c (y ∷ ys) (λ front e. h (x ∷ front) (ap (λ bs. x ∷ bs) e)))

-- the text before its last character
before_last_char : (c n : ℕ) (m : List ℕ) → c < 128 → HasCharAt c m (length m - n) (length m) → m ≡ take (length m - n) m ++ c ∷ []
before_last_char c n m small h =
    sym (take-append-drop (length m - n) m)
    ∙ ap (λ end. take (length m - n) m ++ end) (drop_at_char c m (length m - n) (length m) h small ∙ ap (λ end. c ∷ end) (drop_all (length m) m (omega arith)))

back_cuts : (c : ℕ) (s ns r : List ℕ) → c < 128 → CutsSuffixes (FindsCharSuffix c) s ns r → without_back c s ≡ without_back c r
back_cuts c s [] r small h = ap (λ bs. without_back c bs) (sym h)
back_cuts c s (n ∷ ns) r small h =
    back_cuts c s ns h.0 small h.1 ∙ ap (λ bs. without_back c bs) (before_last_char c n h.0 small h.2.1) ∙ skip_back c (take (length h.0 - n) h.0) ∙ ap (λ bs. without_back c bs) (sym h.3)

back_done : (c : ℕ) (r : List ℕ) (o : Option ℕ) → c < 128 → FindsCharSuffix c r o → IfSome o (λ n. n ≡ 0) → without_back c r ≡ r
back_done c r None small h z = back_kept c r (λ front e. h front (e ∙ ap (λ bs. front ++ bs) (sym (encode_ascii c small))))
back_done c r (Some n) small h z = absurd (no_width c small (sym z ∙ h.0))

pub trimmed_back : (c : ℕ) (s r : List ℕ) → c < 128 → IsTrimEndMatches (FindsCharSuffix c) s r → r ≡ without_back c s
trimmed_back c s r small h = sym (back_cuts c s h.0.0 r small h.0.1 ∙ back_done c r h.1.0 small h.1.1 h.1.2)

-- ---- the 32 numbers
-- what the reader answers where it read some numbers and has some pieces left
abbrev pub with_read : ℕ → List ℕ → List (List ℕ) → Option (List ℕ)
with_read radix numbers pieces = if nat_eq (length numbers + length pieces) 32 then option_map (λ more. numbers ++ more) (numbers_of radix pieces) else None

joined_nothing : (o : Option (List ℕ)) → option_map (λ more. [] ++ more) o ≡ o
joined_nothing None = refl
joined_nothing (Some more) = refl

joined_more : (numbers : List ℕ) (n : ℕ) (o : Option (List ℕ)) → option_map (λ more. numbers ++ more) (with_first (Some n) o) ≡ option_map (λ more. (numbers ++ n ∷ []) ++ more) o
joined_more numbers n None = refl
joined_more numbers n (Some more) = ap Some (sym (append_assoc numbers (n ∷ []) more))

none_both : (b : Bool) (o : Option (List ℕ)) → o ≡ None → (if b then o else None) ≡ None
none_both true o h = h
none_both false o h = refl

pub read_nothing : (radix : ℕ) (pieces : List (List ℕ)) → with_read radix [] pieces ≡ numbers_of_32 radix pieces
read_nothing radix pieces =
    ap (λ o. if nat_eq (0 + length pieces) 32 then o else None) (joined_nothing (numbers_of radix pieces))
    ∙ ap (λ n. if nat_eq n 32 then numbers_of radix pieces else None) (zero-add (length pieces))

pub read_more : (radix : ℕ) (numbers : List ℕ) (piece : List ℕ) (pieces : List (List ℕ)) (n : ℕ) → number_of radix piece ≡ Some n → with_read radix numbers (piece ∷ pieces) ≡ with_read radix (numbers ++ n ∷ []) pieces
read_more radix numbers piece pieces n h =
    let count : length numbers + length (piece ∷ pieces) ≡ length (numbers ++ n ∷ []) + length pieces = omega (arith, length-append numbers (n ∷ [])) in
    ap (λ o. if nat_eq (length numbers + length (piece ∷ pieces)) 32 then option_map (λ more. numbers ++ more) (with_first o (numbers_of radix pieces)) else None) h
    ∙ ap (λ o. if nat_eq (length numbers + length (piece ∷ pieces)) 32 then o else None) (joined_more numbers n (numbers_of radix pieces))
    ∙ ap (λ k. if nat_eq k 32 then option_map (λ more. (numbers ++ n ∷ []) ++ more) (numbers_of radix pieces) else None) count

pub read_none : (radix : ℕ) (numbers : List ℕ) (piece : List ℕ) (pieces : List (List ℕ)) → number_of radix piece ≡ None → with_read radix numbers (piece ∷ pieces) ≡ None
read_none radix numbers piece pieces h =
    none_both (nat_eq (length numbers + length (piece ∷ pieces)) 32) _ (ap (λ o. option_map (λ more. numbers ++ more) (with_first o (numbers_of radix pieces))) h)

unequal : (n : ℕ) (o : Option (List ℕ)) → n ≢ 32 → (if nat_eq n 32 then o else None) ≡ None
unequal n o h = grind (arith, nat_tests)

pub equal : (n : ℕ) (o : Option (List ℕ)) → n ≡ 32 → (if nat_eq n 32 then o else None) ≡ o
equal n o h = grind (arith, nat_tests)

pub read_few : (radix : ℕ) (numbers : List ℕ) → length numbers < 32 → with_read radix numbers [] ≡ None
read_few radix numbers h = unequal (length numbers + 0) _ (omega arith)

pub read_many : (radix : ℕ) (numbers : List ℕ) (pieces : List (List ℕ)) → length numbers ≡ 32 → 0 < length pieces → with_read radix numbers pieces ≡ None
read_many radix numbers pieces h more = unequal (length numbers + length pieces) _ (omega arith)

pub read_all : (radix : ℕ) (numbers : List ℕ) → length numbers ≡ 32 → with_read radix numbers [] ≡ Some numbers
read_all radix numbers h = equal (length numbers + 0) _ (omega arith) ∙ ap Some (append-nil numbers)
