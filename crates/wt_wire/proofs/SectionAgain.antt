-- A field section that is written is read again.
use Rattle.std.proofs.Common.{ok_or, Ok, ◌≡◌, ◌≤◌, ◌<◌, ◌+◌, ◌-◌, ◌*◌, ◌/◌, ◌%◌, ℕ, zero, suc, Bool, true, false, cond, List, [], ◌∷◌, ◌++◌, length, take, drop, Some, refl, sym, ap, ◌∙◌, arith, append_assoc, length-append, ltb, eq-eqb, add-one, subst}
use Rattle.std.proofs.lemmas.Bool.{lt-ltb, le-ltb, ltb-false, ltb-true}
use Rattle.std.proofs.lemmas.List.{append-nil, drop_at, take_at}
use Rattle.std.specs.List.{flat_map}
use Rattle.std.specs.Str.{IsUtf8}
use Rattle.std.specs.Ordering.{match_ordering, ordering_reverse}
use Rattle.std.specs.declared.cmp.Ordering.TheVariants.{Less}
use Rattle.std.specs.Cmp.Lexicographic.{nat_list_cmp_total}
use Rattle.wt_wire.specs.OptionBind.{◌>>=◌}
use Rattle.wt_wire.specs.declared.error.ErrorCode.TheVariants.{Decompression}
use Rattle.wt_wire.specs.Utf8.{is_text}
use Rattle.wt_wire.specs.HeaderList.{Fields, sort_key, compare_names, with_field, IsAhead, IsHeaderList}
use Rattle.wt_wire.specs.PrefixedInteger.{continuation_at, continuation_bytes, after_full_prefix, prefixed_at, prefixed_bytes, seven_bits}
use Rattle.wt_wire.specs.FieldSection.{headers_of, string_at, string_with_size, line_at, field_lines_from, begins_line, begins_value, name_and_value_at, section_bytes, literal_bytes, line_bytes, AreShort}
use Rattle.wt_wire.proofs.LineLaws.{line_in_front}
use Rattle.wt_wire.proofs.TextLaws.{is_text_yes}

-- ---- the order of names

ahead_of_all : (first : List ℕ) (done : Fields) (f : List ℕ × List ℕ) (todo : Fields) → IsAhead first (done ++ f ∷ todo) → IsHeaderList (done ++ f ∷ todo) → compare_names first f.0 ≡ Less
ahead_of_all first [] f todo a h = a
ahead_of_all first (e ∷ done) f todo a h = nat_list_cmp_total.trans (sort_key first) (sort_key e.0) (sort_key f.0) a (ahead_of_all e.0 done f todo h.0 h.3)

-- a field that belongs after all is put there
with_field_last : (done : Fields) (f : List ℕ × List ℕ) (todo : Fields) → IsHeaderList (done ++ f ∷ todo) → with_field f.0 f.1 done ≡ done ++ f ∷ []
with_field_last [] f todo h = refl
with_field_last (e ∷ done) f todo h =
    ap (λ o. match_ordering o ((f.0, f.1) ∷ e ∷ done) ((e.0, f.1) ∷ done) (e ∷ with_field f.0 f.1 done))
    (nat_list_cmp_total.antisymm (sort_key f.0) (sort_key e.0) ∙ ap ordering_reverse (ahead_of_all e.0 done f todo h.0 h.3))
    ∙ ap (λ fs. e ∷ fs) (with_field_last done f todo h.3)

-- ---- prefixed integers

one_byte_again : (k j n : ℕ) (more : List ℕ) → ltb n 128 ≡ true → continuation_at (suc k) (continuation_bytes (suc j) n ++ more) ≡ Some (n, length (continuation_bytes (suc j) n))
unfolding continuation_at
one_byte_again k j n more e = rw e (rw e refl)

more_again : (k j n : ℕ) (more : List ℕ) → ltb n 128 ≡ false → continuation_at k (continuation_bytes j (n / 128) ++ more) ≡ Some (n / 128, length (continuation_bytes j (n / 128))) →
    continuation_at (suc k) (continuation_bytes (suc j) n ++ more) ≡ Some (n, length (continuation_bytes (suc j) n))
unfolding continuation_at
more_again k j n more e again =
    let high : ltb (n % 128 + 128) 128 ≡ false = le-ltb (n % 128 + 128) 128 (omega arith) in
    let whole : n % 128 + 128 - 128 + 128 * (n / 128) ≡ n = omega arith in
    let len : ℕ = length (continuation_bytes j (n / 128)) in
    rw e (rw (high, again) (ap (λ m. Some (m, len + 1)) whole ∙ ap (λ l. Some (n, l)) (add-one len)))

at_least_two : (k n : ℕ) → n < seven_bits (suc k) → 128 ≤ n → 1 ≤ k
at_least_two zero n h big = absurd (omega arith)
at_least_two (suc k) n h big = omega arith

continuation_again : (k j n : ℕ) (more : List ℕ) → n < seven_bits k → 1 ≤ k → k ≤ j → continuation_at k (continuation_bytes j n ++ more) ≡ Some (n, length (continuation_bytes j n))
continuation_again zero j n more h some fits = absurd (omega arith)
continuation_again (suc k) zero n more h some fits = absurd (omega arith)
continuation_again (suc k) (suc j) n more h some fits = by (λ e. continuation_again k j (n / 128) more) (ltb n 128) refl
  where
    by : (ltb n 128 ≡ false → n / 128 < seven_bits k → 1 ≤ k → k ≤ j → continuation_at k (continuation_bytes j (n / 128) ++ more) ≡ Some (n / 128, length (continuation_bytes j (n / 128)))) → (b : Bool) → ltb n 128 ≡ b →
        continuation_at (suc k) (continuation_bytes (suc j) n ++ more) ≡ Some (n, length (continuation_bytes (suc j) n))
    by rest true e = one_byte_again k j n more e
    by rest false e = let big : 128 ≤ n = ltb-false n 128 e in more_again k j n more e (rest e (omega arith) (at_least_two k n h big) (omega arith))

-- the bits above the prefix are lost on a reader
abbrev IsAbove : ℕ → ℕ → Type 0
IsAbove high full = (i : ℕ) → i ≤ full → (high + i) % (full + 1) ≡ i

prefixed_again : (high full n : ℕ) (more : List ℕ) → IsAbove high full → n < 268435456 → prefixed_at full (prefixed_bytes high full n ++ more) ≡ Some (n, length (prefixed_bytes high full n))
unfolding prefixed_at prefixed_bytes
prefixed_again high full n more above h = by (ltb n full) refl
  where
    by : (b : Bool) → ltb n full ≡ b → prefixed_at full (cond b ((high + n) ∷ []) ((high + full) ∷ continuation_bytes 9 (n - full)) ++ more) ≡ Some (n, length (cond b ((high + n) ∷ []) ((high + full) ∷ continuation_bytes 9 (n - full))))
    by true e = let is : (high + n) % (full + 1) ≡ n = above n (omega (arith, ltb-true n full e)) in rw is (rw e refl)
    by false e =
        let big : full ≤ n = ltb-false n full e in
        let len : ℕ = length (continuation_bytes 9 (n - full)) in
        let is : (high + full) % (full + 1) ≡ full = above full (omega arith) in
        let is_full : ltb full full ≡ false = le-ltb full full (omega arith) in
        let rest : continuation_at 4 (continuation_bytes 9 (n - full) ++ more) ≡ Some (n - full, len) = continuation_again 4 9 (n - full) more (omega arith) (omega arith) (omega arith) in
        rw is (rw is_full (ap (after_full_prefix full) rest ∙ ap (λ m. Some (m, len + 1)) (omega arith) ∙ ap (λ l. Some (n, l)) (add-one len)))

-- ---- string literals

after_again : (bytes front text more : List ℕ) → bytes ≡ front ++ (text ++ more) → is_text text ≡ true → string_with_size bytes (length text, length front) ≡ Some (text, length front + length text)
after_again bytes front text more e u =
    let enough : ltb (length bytes - length front) (length text) ≡ false = le-ltb (length bytes - length front) (length text) (omega (arith, ap length e, length-append front (text ++ more), length-append text more)) in
    let rest : take (length text) (drop (length front) bytes) ≡ text = ap (λ bs. take (length text) (drop (length front) bs)) e ∙ ap (take (length text)) (drop_at front (text ++ more) (length front) refl) ∙ take_at text more (length text) refl in
    rw (enough, rest, u) refl

string_again : (high full : ℕ) (text more : List ℕ) → IsAbove high full → is_text text ≡ true → length text < 268435456 →
    string_at full (literal_bytes high full text ++ more) ≡ Some (text, length (literal_bytes high full text))
unfolding string_at
string_again high full text more above u h =
    let front : List ℕ = prefixed_bytes high full (length text) in
    let joined : (front ++ text) ++ more ≡ front ++ (text ++ more) = append_assoc front text more in
    ap (λ o. o >>= string_with_size ((front ++ text) ++ more)) (ap (prefixed_at full) joined ∙ prefixed_again high full (length text) (text ++ more) above h)
    ∙ after_again ((front ++ text) ++ more) front text more joined u
    ∙ ap (λ l. Some (text, l)) (sym (length-append front text))

-- ---- field lines

-- the first byte lies from low to up
record BeginsIn (bytes : List ℕ) (low up : ℕ) : Type 0 where
  first : ℕ
  rest : List ℕ
  is : bytes ≡ first ∷ rest
  from : low ≤ first
  upto : first ≤ up

prefixed_begins : (high full n : ℕ) → BeginsIn (prefixed_bytes high full n) high (high + full)
unfolding prefixed_bytes
prefixed_begins high full n = by (ltb n full) refl
  where
    by : (b : Bool) → ltb n full ≡ b → BeginsIn (cond b ((high + n) ∷ []) ((high + full) ∷ continuation_bytes 9 (n - full))) high (high + full)
    by true e = let l : n < full = ltb-true n full e in record { first = high + n; rest = []; is = refl; from = omega arith; upto = omega arith }
    by false e = record { first = high + full; rest = continuation_bytes 9 (n - full); is = refl; from = omega arith; upto = omega arith }

string_begins : (high full : ℕ) (text more : List ℕ) → BeginsIn (literal_bytes high full text ++ more) high (high + full)
string_begins high full text more =
    let b = prefixed_begins high full (length text) in
    record { first = b.first; rest = (b.rest ++ text) ++ more; is = ap (λ bs. (bs ++ text) ++ more) b.is; from = b.from; upto = b.upto }

line_at_first : (bytes : List ℕ) → BeginsIn bytes 32 39 → line_at bytes ≡ name_and_value_at bytes
unfolding line_at
line_at_first bytes b =
    let begins : begins_line b.first ≡ true = rw (eq-eqb (b.first / 8) 4 (omega (arith, b.from, b.upto))) refl in
    rw b.is (rw begins refl)

value_first : (bytes : List ℕ) → BeginsIn bytes 0 127 → begins_value bytes ≡ true
value_first bytes b = rw b.is (lt-ltb b.first 128 (omega (arith, b.upto)))

named_again : (bytes name : List ℕ) (offset : ℕ) (rest value : List ℕ) (len : ℕ) → string_at 7 bytes ≡ Some (name, offset) → drop offset bytes ≡ rest → begins_value rest ≡ true → string_at 127 rest ≡ Some (value, len) →
    name_and_value_at bytes ≡ Some (record { name = name; value = value; len = offset + len })
named_again bytes name offset rest value len n d p t = rw n (rw d (rw p (rw t refl)))

line_again : (f : List ℕ × List ℕ) (more : List ℕ) → IsUtf8 f.0 → IsUtf8 f.1 → length f.0 < 268435456 → length f.1 < 268435456 →
    line_at (line_bytes f ++ more) ≡ Some (record { name = f.0; value = f.1; len = length (line_bytes f) })
line_again f more u v h k =
    let name : List ℕ = literal_bytes 32 7 f.0 in
    let value : List ℕ = literal_bytes 0 127 f.1 in
    let regrouped : (name ++ value) ++ more ≡ name ++ (value ++ more) = append_assoc name value more in
    let starts : BeginsIn ((name ++ value) ++ more) 32 39 = let b = string_begins 32 7 f.0 (value ++ more) in record { first = b.first; rest = b.rest; is = regrouped ∙ b.is; from = b.from; upto = b.upto } in
    line_at_first ((name ++ value) ++ more) starts
    ∙ named_again ((name ++ value) ++ more) f.0 (length name) (value ++ more) f.1 (length value)
    (ap (string_at 7) regrouped ∙ string_again 32 7 f.0 (value ++ more) (λ i l. omega arith) (is_text_yes f.0 u) h)
    (ap (drop (length name)) regrouped ∙ drop_at name (value ++ more) (length name) refl)
    (value_first (value ++ more) (string_begins 0 127 f.1 more))
    (string_again 0 127 f.1 more (λ i l. omega arith) (is_text_yes f.1 v) k)
    ∙ ap (λ l. Some (record { name = f.0; value = f.1; len = l })) (sym (length-append name value))

-- ---- field sections

texts_of : (done : Fields) (f : List ℕ × List ℕ) (todo : Fields) → IsHeaderList (done ++ f ∷ todo) → IsUtf8 f.0 × IsUtf8 f.1
texts_of [] f todo h = (h.1, h.2)
texts_of (e ∷ done) f todo h = texts_of done f todo h.3

line_not_empty : (f : List ℕ × List ℕ) → 1 ≤ length (line_bytes f)
line_not_empty f = let b = string_begins 32 7 f.0 (literal_bytes 0 127 f.1) in omega (arith, ap length b.is)

lines_again : (done todo : Fields) → IsHeaderList (done ++ todo) → AreShort todo → field_lines_from done 0 (flat_map line_bytes todo) ≡ Some (done ++ todo)
unfolding field_lines_from
lines_again done [] h short = ap (λ fs. Some fs) (sym (append-nil done))
lines_again done (f ∷ todo) h short =
    let line : List ℕ = line_bytes f in
    let rest : List ℕ = flat_map line_bytes todo in
    let texts = texts_of done f todo h in
    let regrouped : (done ++ f ∷ []) ++ todo ≡ done ++ f ∷ todo = append_assoc done (f ∷ []) todo in
    line_in_front done (line ++ rest) (record { name = f.0; value = f.1; len = length line })
    (sym (line_again f rest texts.0 texts.1 short.0 short.1)) (line_not_empty f) (omega (arith, length-append line rest))
    ∙ ap (λ bs. field_lines_from (with_field f.0 f.1 done) 0 bs) (drop_at line rest (length line) refl)
    ∙ ap (λ fs. field_lines_from fs 0 rest) (with_field_last done f todo h)
    ∙ lines_again (done ++ f ∷ []) todo (subst IsHeaderList (sym regrouped) h) short.2
    ∙ ap (λ fs. Some fs) regrouped

pub fields_again : (fields : Fields) → IsHeaderList fields → AreShort fields → headers_of (section_bytes fields) ≡ Ok fields
fields_again fields h short = ap (λ o. ok_or o Decompression) (lines_again [] fields h short)

pub headers_again : (bytes : List ℕ) (fields : Fields) → bytes ≡ section_bytes fields → IsHeaderList fields → AreShort fields → headers_of bytes ≡ Ok fields
headers_again bytes fields e h short = ap headers_of e ∙ fields_again fields h short
