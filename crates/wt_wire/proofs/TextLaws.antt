-- The test of UTF-8 that computes is std's.
use Rattle.std.proofs.Common.{ltb, ◌⊎◌, ◌≡◌, ◌≤◌, ◌<◌, ◌+◌, ◌-◌, ◌*◌, ◌/◌, ℕ, zero, suc, Bool, true, false, List, [], ◌∷◌, ◌++◌, length, refl, sym, ap, ◌∙◌, subst, arith, inl, inr}
use Rattle.std.proofs.lemmas.Bool.{lt-ltb, le-ltb, ltb-true, ltb-false, eqb-true, eqb-false}
use Rattle.std.proofs.lemmas.Bool.Decides.{nat_tests}
use Rattle.std.proofs.lemmas.Str.{is_utf8-from_IsUtf8, IsUtf8-from_is_utf8, IsUtf8-nil, IsUtf8-append, IsUtf8-encode}
use Rattle.std.specs.Cmp.{both_ways, first_so, second_so}
use Rattle.std.specs.Prelude.{nat_lt, not, ◌&&◌, ◌==◌}
use Rattle.std.specs.Str.{IsUtf8, is_utf8}
use lib.Utf8.{encode, encodes, scalar, scalars, next, scalar_cases, low_scalar}
use Rattle.wt_wire.specs.Utf8.{Lead, NotLead, Begins, least_second, most_second, lead, if_begins, is_text_from, is_text}

-- ---- the first two bytes

-- what the table says of a second byte
record Second (a b : ℕ) : Type 0 where
  low : 128 ≤ b
  high : b < 192
  at_e0 : a ≡ 0xE0 → 0xA0 ≤ b
  at_ed : a ≡ 0xED → b < 0xA0
  at_f0 : a ≡ 0xF0 → 0x90 ≤ b
  at_f4 : a ≡ 0xF4 → b < 0x90

second : (a b : ℕ) → nat_lt b (least_second a) ≡ false → nat_lt (most_second a) b ≡ false → Second a b
second a b l m = grind (arith, nat_tests)

least_of : (a b : ℕ) → Second a b → nat_lt b (least_second a) ≡ false
least_of a b s = grind (arith, nat_tests)

most_of : (a b : ℕ) → Second a b → nat_lt (most_second a) b ≡ false
most_of a b s = grind (arith, nat_tests)

lead_one : (a : ℕ) → a < 128 → lead a ≡ Begins 0 0x80 0xBF
lead_one a h = rw (lt-ltb a 0x80 h) refl

lead_two : (a : ℕ) → 194 ≤ a → a < 224 → lead a ≡ Begins 1 (least_second a) (most_second a)
lead_two a l h = let l0 : 0x80 ≤ a = omega arith in rw (le-ltb a 0x80 l0, le-ltb a 0xC2 l, lt-ltb a 0xE0 h) refl

lead_three : (a : ℕ) → 224 ≤ a → a < 240 → lead a ≡ Begins 2 (least_second a) (most_second a)
lead_three a l h = let l0 : 0x80 ≤ a = omega arith in let l1 : 0xC2 ≤ a = omega arith in rw (le-ltb a 0x80 l0, le-ltb a 0xC2 l1, le-ltb a 0xE0 l, lt-ltb a 0xF0 h) refl

lead_four : (a : ℕ) → 240 ≤ a → a < 245 → lead a ≡ Begins 3 (least_second a) (most_second a)
lead_four a l h =
    let l0 : 0x80 ≤ a = omega arith in let l1 : 0xC2 ≤ a = omega arith in let l2 : 0xE0 ≤ a = omega arith in
    rw (le-ltb a 0x80 l0, le-ltb a 0xC2 l1, le-ltb a 0xE0 l2, le-ltb a 0xF0 l, lt-ltb a 0xF5 h) refl

-- ---- one character

encode_two : (c : ℕ) → 128 ≤ c → c < 2048 → encode c ≡ (192 + c / 64) ∷ next c ∷ []
unfolding encode
encode_two c l h = rw (le-ltb c 128 l, lt-ltb c 2048 h) refl

encode_three : (c : ℕ) → 2048 ≤ c → c < 65536 → encode c ≡ (224 + c / 4096) ∷ next (c / 64) ∷ next c ∷ []
unfolding encode
encode_three c l h = let l0 : 128 ≤ c = omega arith in rw (le-ltb c 128 l0, le-ltb c 2048 l, lt-ltb c 65536 h) refl

encode_four : (c : ℕ) → 65536 ≤ c → encode c ≡ (240 + c / 262144) ∷ next (c / 4096) ∷ next (c / 64) ∷ next c ∷ []
unfolding encode
encode_four c l = let l0 : 128 ≤ c = omega arith in let l1 : 2048 ≤ c = omega arith in rw (le-ltb c 128 l0, le-ltb c 2048 l1, le-ltb c 65536 l) refl

encode_one : (c : ℕ) → c < 128 → encode c ≡ c ∷ []
unfolding encode
encode_one c h = rw (lt-ltb c 128 h) refl

abbrev Follows : ℕ → Type 0
Follows b = (128 ≤ b) × (b < 192)

high_scalar : (c : ℕ) → 57344 ≤ c → c < 1114112 → scalar c ≡ true
high_scalar c l h = grind (arith, nat_tests)

one_is : (a : ℕ) → a < 128 → IsUtf8 (a ∷ [])
one_is a h = subst IsUtf8 (encode_one a h) (IsUtf8-encode a (low_scalar a (omega arith)))

two_is : (a b : ℕ) → 194 ≤ a → a < 224 → Second a b → IsUtf8 (a ∷ b ∷ [])
two_is a b l h s =
    let c : ℕ = (a - 192) * 64 + (b - 128) in
    let first : 192 + c / 64 ≡ a = omega (arith, s.low, s.high) in
    let last : next c ≡ b = omega (arith, s.low, s.high) in
    subst IsUtf8 (encode_two c (omega (arith, s.low)) (omega (arith, s.high)) ∙ (λ i. first i ∷ last i ∷ [])) (IsUtf8-encode c (low_scalar c (omega (arith, s.high))))

three_low : (a b : ℕ) → 224 ≤ a → Second a b → 2048 ≤ (a - 224) * 4096 + (b - 128) * 64
three_low a b l s = by (a == 224) refl
  where
    by : (t : Bool) → (a == 224) ≡ t → 2048 ≤ (a - 224) * 4096 + (b - 128) * 64
    by true e = let is : a ≡ 224 = eqb-true a 224 e in let b_low : 160 ≤ b = s.at_e0 is in omega arith
    by false e = let b_low : 128 ≤ b = s.low in let other : ¬ (a ≡ 224) = eqb-false a 224 e in omega arith

three_scalar : (a b d : ℕ) → 224 ≤ a → a < 240 → Second a b → Follows d → scalar ((a - 224) * 4096 + (b - 128) * 64 + (d - 128)) ≡ true
three_scalar a b d l h s f = by (ltb a 237) (a == 237) refl refl
  where
    by : (t u : Bool) → ltb a 237 ≡ t → (a == 237) ≡ u → scalar ((a - 224) * 4096 + (b - 128) * 64 + (d - 128)) ≡ true
    by true u e g = let below : a < 237 = ltb-true a 237 e in low_scalar ((a - 224) * 4096 + (b - 128) * 64 + (d - 128)) (omega (arith, s.high, f.1))
    by false true e g = let is : a ≡ 237 = eqb-true a 237 g in let b_high : b < 160 = s.at_ed is in low_scalar ((a - 224) * 4096 + (b - 128) * 64 + (d - 128)) (omega (arith, f.1))
    by false false e g = let above : 237 ≤ a = ltb-false a 237 e in let other : ¬ (a ≡ 237) = eqb-false a 237 g in high_scalar ((a - 224) * 4096 + (b - 128) * 64 + (d - 128)) (omega (arith, s.low)) (omega (arith, s.high, f.1))

three_is : (a b d : ℕ) → 224 ≤ a → a < 240 → Second a b → Follows d → IsUtf8 (a ∷ b ∷ d ∷ [])
three_is a b d l h s f =
    let c : ℕ = (a - 224) * 4096 + (b - 128) * 64 + (d - 128) in
    let first : 224 + c / 4096 ≡ a = omega (arith, s.low, s.high, f.0, f.1) in
    let middle : next (c / 64) ≡ b = omega (arith, s.low, s.high, f.0, f.1) in
    let last : next c ≡ d = omega (arith, s.low, s.high, f.0, f.1) in
    subst IsUtf8 (encode_three c (omega (arith, three_low a b l s)) (omega (arith, s.high, f.1)) ∙ (λ i. first i ∷ middle i ∷ last i ∷ []))
    (IsUtf8-encode c (three_scalar a b d l h s f))

four_bounds : (a b : ℕ) → 240 ≤ a → a < 245 → Second a b → (16 ≤ (a - 240) * 64 + (b - 128)) × ((a - 240) * 64 + (b - 128) < 272)
four_bounds a b l h s = by (a == 240) (a == 244) refl refl
  where
    by : (t u : Bool) → (a == 240) ≡ t → (a == 244) ≡ u → (16 ≤ (a - 240) * 64 + (b - 128)) × ((a - 240) * 64 + (b - 128) < 272)
    by true u e g = let is : a ≡ 240 = eqb-true a 240 e in let b_low : 144 ≤ b = s.at_f0 is in (omega arith, omega (arith, s.high))
    by false true e g = let is : a ≡ 244 = eqb-true a 244 g in let b_high : b < 144 = s.at_f4 is in (omega (arith, s.low), omega arith)
    by false false e g = let other : ¬ (a ≡ 240) = eqb-false a 240 e in let less : ¬ (a ≡ 244) = eqb-false a 244 g in (omega (arith, s.low), omega (arith, s.high))

four_is : (a b d e : ℕ) → 240 ≤ a → a < 245 → Second a b → Follows d → Follows e → IsUtf8 (a ∷ b ∷ d ∷ e ∷ [])
four_is a b d e l h s f g =
    let c : ℕ = (a - 240) * 262144 + (b - 128) * 4096 + (d - 128) * 64 + (e - 128) in
    let bounds = four_bounds a b l h s in
    let first : 240 + c / 262144 ≡ a = omega (arith, s.low, s.high, f.0, f.1, g.0, g.1) in
    let middle : next (c / 4096) ≡ b = omega (arith, s.low, s.high, f.0, f.1, g.0, g.1) in
    let shifted : c / 64 ≡ (a - 240) * 4096 + (b - 128) * 64 + (d - 128) = omega (arith, s.low, s.high, f.0, f.1, g.0, g.1) in
    let third : next (c / 64) ≡ d = subst (λ (n : ℕ). next n ≡ d) (sym shifted) (omega (arith, f.0, f.1)) in
    let last : next c ≡ e = omega (arith, g.0, g.1) in
    subst IsUtf8 (encode_four c (omega (arith, bounds.0)) ∙ (λ i. first i ∷ middle i ∷ third i ∷ last i ∷ []))
    (IsUtf8-encode c (high_scalar c (omega (arith, bounds.0)) (omega (arith, bounds.1, f.1, g.1))))

-- ---- from the test to std's

step : (n least most b : ℕ) (bytes : List ℕ) → is_text_from (suc n) least most (b ∷ bytes) ≡ true → (nat_lt b least ≡ false) × (nat_lt most b ≡ false) × (is_text_from n 0x80 0xBF bytes ≡ true)
unfolding is_text_from
step n least most b bytes h = by (nat_lt b least) (nat_lt most b) (is_text_from n 0x80 0xBF bytes) h
  where
    by : (t u v : Bool) → (not t && not u && v) ≡ true → (t ≡ false) × (u ≡ false) × (v ≡ true)
    by false false true e = (refl, refl, refl)
    by false false false e = absurd cc
    by false true v e = absurd cc
    by true u v e = absurd cc

follows : (n b : ℕ) (bytes : List ℕ) → is_text_from (suc n) 0x80 0xBF (b ∷ bytes) ≡ true → Follows b × (is_text_from n 0x80 0xBF bytes ≡ true)
follows n b bytes h =
    let s = step n 0x80 0xBF b bytes h in
    let low : 128 ≤ b = ltb-false b 128 s.0 in
    let high : b ≤ 191 = ltb-false 191 b s.1 in
    ((low, omega arith), s.2)

data LeadIs (a : ℕ) : Type 0 where
  One : a < 128 → LeadIs a
  Two : 194 ≤ a → a < 224 → LeadIs a
  Three : 224 ≤ a → a < 240 → LeadIs a
  Four : 240 ≤ a → a < 245 → LeadIs a
  Never : lead a ≡ NotLead → LeadIs a

lead_is : (a : ℕ) → LeadIs a
lead_is a = by (ltb a 0x80) (ltb a 0xC2) (ltb a 0xE0) (ltb a 0xF0) (ltb a 0xF5) refl refl refl refl refl
  where
    by : (t u v w x : Bool) → ltb a 0x80 ≡ t → ltb a 0xC2 ≡ u → ltb a 0xE0 ≡ v → ltb a 0xF0 ≡ w → ltb a 0xF5 ≡ x → LeadIs a
    by true u v w x e f g h k = One (ltb-true a 128 e)
    by false true v w x e f g h k = Never (rw (e, f) refl)
    by false false true w x e f g h k = Two (ltb-false a 194 f) (ltb-true a 224 g)
    by false false false true x e f g h k = Three (ltb-false a 224 g) (ltb-true a 240 h)
    by false false false false true e f g h k = Four (ltb-false a 240 h) (ltb-true a 245 k)
    by false false false false false e f g h k = Never (rw (e, f, g, h, k) refl)

abbrev Shorter : ℕ → Type 0
Shorter n = (bytes : List ℕ) → length bytes ≤ n → is_text bytes ≡ true → IsUtf8 bytes

after_two : (n a : ℕ) (bytes : List ℕ) → Shorter n → 194 ≤ a → a < 224 → length bytes ≤ n → is_text_from 1 (least_second a) (most_second a) bytes ≡ true → IsUtf8 (a ∷ bytes)
unfolding is_text_from
after_two n a [] r l h fits e = absurd cc
after_two n a (b ∷ bytes) r l h fits e =
    let s = step 0 (least_second a) (most_second a) b bytes e in
    IsUtf8-append (a ∷ b ∷ []) bytes (two_is a b l h (second a b s.0 s.1)) (r bytes (omega arith) s.2)

after_three : (n a : ℕ) (bytes : List ℕ) → Shorter n → 224 ≤ a → a < 240 → length bytes ≤ n → is_text_from 2 (least_second a) (most_second a) bytes ≡ true → IsUtf8 (a ∷ bytes)
unfolding is_text_from
after_three n a [] r l h fits e = absurd cc
after_three n a (b ∷ []) r l h fits e = let no : false ≡ true = (step 1 (least_second a) (most_second a) b [] e).2 in absurd cc
after_three n a (b ∷ d ∷ bytes) r l h fits e =
    let s = step 1 (least_second a) (most_second a) b (d ∷ bytes) e in
    let f = follows 0 d bytes s.2 in
    IsUtf8-append (a ∷ b ∷ d ∷ []) bytes (three_is a b d l h (second a b s.0 s.1) f.0) (r bytes (omega arith) f.1)

after_four : (n a : ℕ) (bytes : List ℕ) → Shorter n → 240 ≤ a → a < 245 → length bytes ≤ n → is_text_from 3 (least_second a) (most_second a) bytes ≡ true → IsUtf8 (a ∷ bytes)
unfolding is_text_from
after_four n a [] r l h fits e = absurd cc
after_four n a (b ∷ []) r l h fits e = let no : false ≡ true = (step 2 (least_second a) (most_second a) b [] e).2 in absurd cc
after_four n a (b ∷ d ∷ []) r l h fits e = let no : false ≡ true = (follows 1 d [] (step 2 (least_second a) (most_second a) b (d ∷ []) e).2).1 in absurd cc
after_four n a (b ∷ d ∷ x ∷ bytes) r l h fits e =
    let s = step 2 (least_second a) (most_second a) b (d ∷ x ∷ bytes) e in
    let f = follows 1 d (x ∷ bytes) s.2 in
    let g = follows 0 x bytes f.1 in
    IsUtf8-append (a ∷ b ∷ d ∷ x ∷ []) bytes (four_is a b d x l h (second a b s.0 s.1) f.0 g.0) (r bytes (omega arith) g.1)

-- what the test says of the bytes after_first a first byte
after_first : (a : ℕ) (bytes : List ℕ) (l : Lead) → lead a ≡ l → is_text (a ∷ bytes) ≡ if_begins l (λ further low high. is_text_from further low high bytes)
unfolding is_text_from
after_first a bytes l e = ap (λ k. if_begins k (λ further low high. is_text_from further low high bytes)) e

within : (n : ℕ) → Shorter n
within n [] fits h = IsUtf8-nil
within zero (a ∷ bytes) fits h = absurd (omega arith)
within (suc n) (a ∷ bytes) fits h = by (within n) (lead_is a)
  where
    by : Shorter n → LeadIs a → IsUtf8 (a ∷ bytes)
    by r (One l) = IsUtf8-append (a ∷ []) bytes (one_is a l) (r bytes (omega arith) (sym (after_first a bytes _ (lead_one a l)) ∙ h))
    by r (Two l u) = after_two n a bytes r l u (omega arith) (sym (after_first a bytes _ (lead_two a l u)) ∙ h)
    by r (Three l u) = after_three n a bytes r l u (omega arith) (sym (after_first a bytes _ (lead_three a l u)) ∙ h)
    by r (Four l u) = after_four n a bytes r l u (omega arith) (sym (after_first a bytes _ (lead_four a l u)) ∙ h)
    by r (Never e) = let no : false ≡ true = sym (after_first a bytes _ e) ∙ h in absurd cc

pub utf8_of : (bytes : List ℕ) → is_text bytes ≡ true → IsUtf8 bytes
utf8_of bytes h = within (length bytes) bytes (omega arith) h

-- ---- from std's to the test

unstep : (n least most b : ℕ) (bytes : List ℕ) → nat_lt b least ≡ false → nat_lt most b ≡ false → is_text_from (suc n) least most (b ∷ bytes) ≡ is_text_from n 0x80 0xBF bytes
unfolding is_text_from
unstep n least most b bytes l m = λ i. not (l i) && not (m i) && is_text_from n 0x80 0xBF bytes

unfollow : (n x : ℕ) (bytes : List ℕ) → is_text_from (suc n) 0x80 0xBF (next x ∷ bytes) ≡ is_text_from n 0x80 0xBF bytes
unfollow n x bytes = unstep n 0x80 0xBF (next x) bytes (le-ltb (next x) 0x80 (omega arith)) (le-ltb 0xBF (next x) (omega arith))

unsecond : (n a b : ℕ) (bytes : List ℕ) → Second a b → is_text_from (suc n) (least_second a) (most_second a) (b ∷ bytes) ≡ is_text_from n 0x80 0xBF bytes
unsecond n a b bytes s = unstep n (least_second a) (most_second a) b bytes (least_of a b s) (most_of a b s)

below_all : (c : ℕ) → (c < 55296) ⊎ ((57344 ≤ c) × (c < 1114112)) → c < 1114112
below_all c (inl h) = omega arith
below_all c (inr h) = h.1

second_of_three : (c : ℕ) → 2048 ≤ c → c < 65536 → (c < 55296) ⊎ ((57344 ≤ c) × (c < 1114112)) → Second (224 + c / 4096) (next (c / 64))
second_of_three c l h (inl s) = record { low = omega arith; high = omega arith; at_e0 = λ e. omega arith; at_ed = λ e. omega arith; at_f0 = λ e. absurd (omega arith); at_f4 = λ e. absurd (omega arith) }
second_of_three c l h (inr s) = record { low = omega arith; high = omega arith; at_e0 = λ e. omega arith; at_ed = λ e. absurd (omega (arith, s.0)); at_f0 = λ e. absurd (omega arith); at_f4 = λ e. absurd (omega arith) }

second_of_four : (c : ℕ) → 65536 ≤ c → c < 1114112 → Second (240 + c / 262144) (next (c / 4096))
second_of_four c l h = record { low = omega arith; high = omega arith; at_e0 = λ e. absurd (omega arith); at_ed = λ e. absurd (omega arith); at_f0 = λ e. omega arith; at_f4 = λ e. omega arith }

past_char : (c : ℕ) (rest : List ℕ) → scalar c ≡ true → is_text (encode c ++ rest) ≡ is_text rest
past_char c rest s = by (ltb c 128) (ltb c 2048) (ltb c 65536) refl refl refl
  where
    ranges : (c < 55296) ⊎ ((57344 ≤ c) × (c < 1114112))
    ranges = scalar_cases c s

    by : (t u v : Bool) → ltb c 128 ≡ t → ltb c 2048 ≡ u → ltb c 65536 ≡ v → is_text (encode c ++ rest) ≡ is_text rest
    by true u v e f g = let h : c < 128 = ltb-true c 128 e in ap (λ bs. is_text (bs ++ rest)) (encode_one c h) ∙ after_first c rest _ (lead_one c h)
    by false true v e f g =
        let l : 128 ≤ c = ltb-false c 128 e in
        let h : c < 2048 = ltb-true c 2048 f in
        let a : ℕ = 192 + c / 64 in
        ap (λ bs. is_text (bs ++ rest)) (encode_two c l h) ∙ after_first a (next c ∷ rest) _ (lead_two a (omega arith) (omega arith))
        ∙ unsecond 0 a (next c) rest (record { low = omega arith; high = omega arith; at_e0 = λ k. absurd (omega arith); at_ed = λ k. absurd (omega arith); at_f0 = λ k. absurd (omega arith); at_f4 = λ k. absurd (omega arith) })
    by false false true e f g =
        let l : 2048 ≤ c = ltb-false c 2048 f in
        let h : c < 65536 = ltb-true c 65536 g in
        let a : ℕ = 224 + c / 4096 in
        ap (λ bs. is_text (bs ++ rest)) (encode_three c l h) ∙ after_first a (next (c / 64) ∷ next c ∷ rest) _ (lead_three a (omega arith) (omega arith))
        ∙ unsecond 1 a (next (c / 64)) (next c ∷ rest) (second_of_three c l h ranges) ∙ unfollow 0 c rest
    by false false false e f g =
        let l : 65536 ≤ c = ltb-false c 65536 g in
        let h : c < 1114112 = below_all c ranges in
        let a : ℕ = 240 + c / 262144 in
        ap (λ bs. is_text (bs ++ rest)) (encode_four c l) ∙ after_first a (next (c / 4096) ∷ next (c / 64) ∷ next c ∷ rest) _ (lead_four a (omega arith) (omega arith))
        ∙ unsecond 2 a (next (c / 4096)) (next (c / 64) ∷ next c ∷ rest) (second_of_four c l h) ∙ unfollow 1 (c / 64) (next c ∷ rest) ∙ unfollow 0 c rest

of_chars : (cs : List ℕ) → scalars cs ≡ true → is_text (encodes cs) ≡ true
unfolding is_text_from
of_chars [] h = refl
of_chars (c ∷ cs) h = past_char c (encodes cs) (first_so (scalar c) (scalars cs) h) ∙ of_chars cs (second_so (scalar c) (scalars cs) h)

pub is_text_yes : (bytes : List ℕ) → IsUtf8 bytes → is_text bytes ≡ true
is_text_yes bytes h = ap is_text (sym h.1.1) ∙ of_chars h.0 h.1.0

pub is_text_no : (bytes : List ℕ) → ¬ (IsUtf8 bytes) → is_text bytes ≡ false
is_text_no bytes h = by (is_text bytes) (λ e. h (utf8_of bytes e))
  where
    by : (t : Bool) → ¬ (t ≡ true) → t ≡ false
    by true n = absurd (n refl)
    by false n = refl

pub is_text_same : (bytes : List ℕ) → is_text bytes ≡ is_utf8 bytes
is_text_same bytes = both_ways (is_text bytes) (is_utf8 bytes) (λ e. is_utf8-from_IsUtf8 bytes (utf8_of bytes e)) (λ e. is_text_yes bytes (IsUtf8-from_is_utf8 bytes e))
