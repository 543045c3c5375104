-- The histories of an endpoint's connections, by number.
use Rattle.std.proofs.Common.{◌≡◌, ◌+◌, ◌<◌, ◌≤◌, ◌==◌, ◌&&◌, ◌∷◌, ◌++◌, Bool, List, [], ap, arith, false, get_or, length, map, refl, suc, sym, true, zero, ◌∙◌, ℕ}
use Rattle.std.proofs.lemmas.Bool.Decides.{nat_tests}
use Rattle.std.specs.Prelude.{if◌then◌else◌, nat_lt}
use Rattle.wt_meaning.specs.History.{History, is_open}
use Rattle.wt_meaning.specs.Lawful.{is_first}
use Rattle.wt_meaning.specs.Meaning.{answer_to, history_after, meaning_from}
use Rattle.wt_promise.specs.Lists.{history_of}
use Rattle.wt_promise.specs.Promise.{AllLawful}
use Rattle.wt_turn.specs.declared.answer.Answer.{Answer}
use Rattle.wt_turn.specs.declared.turn.Turn.{Turn}
use Rattle.wt_wire.specs.declared.side.Side.{Side}
use Rattle.wt_endpoint.specs.Endpoints.{closings_from, put_history}
use Rattle.wt_endpoint.specs.Isolation.{of_number}

-- ---- one history put in its place

pub put-same : (hs : List History) (n : ℕ) (h : History) → n ≤ length hs → get_or (put_history hs n h) n [] ≡ h
put-same [] zero h l = refl
put-same [] (suc n) h l = let none : suc n ≤ 0 = l in absurd (omega (arith, none))
put-same (x ∷ hs) zero h l = refl
put-same (x ∷ hs) (suc n) h l = put-same hs n h (omega (arith, l))

pub put-other : (hs : List History) (n m : ℕ) (h : History) → (m == n) ≡ false → get_or (put_history hs n h) m [] ≡ get_or hs m []
put-other [] zero zero h e = absurd (cc)
put-other [] zero (suc m) h e = refl
put-other [] (suc n) m h e = refl
put-other (x ∷ hs) zero zero h e = absurd (cc)
put-other (x ∷ hs) zero (suc m) h e = refl
put-other (x ∷ hs) (suc n) zero h e = refl
put-other (x ∷ hs) (suc n) (suc m) h e = let differ : (m == n) ≡ false = grind (arith, nat_tests) in put-other hs n m h differ

-- ---- each connection began

-- something happened to each connection
abbrev pub AllBegun : List History → Type 0
AllBegun [] = Unit {0}
AllBegun (h ∷ hs) = (is_first h ≡ false) × AllBegun hs

pub begun-get : (hs : List History) (n : ℕ) → AllBegun hs → n < length hs → is_first (get_or hs n []) ≡ false
begun-get [] n b l = absurd (omega (arith, l))
begun-get (x ∷ hs) zero b l = b.0
begun-get (x ∷ hs) (suc n) b l = begun-get hs n b.1 (omega (arith, l))

pub begun-put : (hs : List History) (n : ℕ) (h : History) → AllBegun hs → is_first h ≡ false → AllBegun (put_history hs n h)
begun-put [] zero h b f = (f, tt)
begun-put [] (suc n) h b f = tt
begun-put (x ∷ hs) zero h b f = (f, b.1)
begun-put (x ∷ hs) (suc n) h b f = (b.0, begun-put hs n h b.1 f)

pub begun-map : (g : History → History) → ((h : History) → is_first h ≡ false → is_first (g h) ≡ false) → (hs : List History) → AllBegun hs → AllBegun (map g hs)
begun-map g k [] b = tt
begun-map g k (x ∷ hs) b = (k x b.0, begun-map g k hs b.1)

-- ---- all are closed

pub get-map : (g : History → History) (hs : List History) (n : ℕ) → n < length hs → get_or (map g hs) n [] ≡ g (get_or hs n [])
get-map g [] n l = absurd (omega (arith, l))
get-map g (x ∷ hs) zero l = refl
get-map g (x ∷ hs) (suc n) l = get-map g hs n (omega (arith, l))

pub get-past : (hs : List History) (n : ℕ) → nat_lt n (length hs) ≡ false → get_or hs n [] ≡ []
get-past [] n l = refl
get-past (x ∷ hs) zero l = let some : nat_lt 0 (length (x ∷ hs)) ≡ true = grind (arith, nat_tests) in absurd (cc)
get-past (x ∷ hs) (suc n) l = let less : nat_lt n (length hs) ≡ false = grind (arith, nat_tests) in get-past hs n less

pub get-map-past : (g : History → History) (hs : List History) (n : ℕ) → nat_lt n (length hs) ≡ false → get_or (map g hs) n [] ≡ []
get-map-past g [] n l = refl
get-map-past g (x ∷ hs) zero l = let some : nat_lt 0 (length (x ∷ hs)) ≡ true = grind (arith, nat_tests) in absurd (cc)
get-map-past g (x ∷ hs) (suc n) l = let less : nat_lt n (length hs) ≡ false = grind (arith, nat_tests) in get-map-past g hs n less

below-by : (side : Side) (n from : ℕ) (turn : Turn) (h : History) (hs : List History) → n < from → (b : Bool) → is_open h ≡ b
    → of_number n (closings_from side (suc from) turn hs) ≡ [] → of_number n (closings_from side from turn (h ∷ hs)) ≡ []
below-by side n from turn h hs l true e later = let differ : (n == from) ≡ false = grind (arith, nat_tests) in rw (e, differ) later
below-by side n from turn h hs l false e later = rw e later

-- a number below all of them has none of the answers
below : (side : Side) (n from : ℕ) (turn : Turn) (hs : List History) → n < from → of_number n (closings_from side from turn hs) ≡ []
below side n from turn [] l = refl
below side n from turn (h ∷ hs) l = below-by side n from turn h hs l (is_open h) refl (below side n (suc from) turn hs (omega (arith, l)))

-- the answer of the connection at a place, where it is there and open
abbrev pub closing_of : Side → Turn → List History → ℕ → List Answer
closing_of side turn hs k = if nat_lt k (length hs) && is_open (get_or hs k []) then answer_to side (get_or hs k []) turn ∷ [] else []

first-at : (side : Side) (from : ℕ) (turn : Turn) (h : History) (hs : List History) → (b : Bool) → is_open h ≡ b
    → of_number (from + zero) (closings_from side from turn (h ∷ hs)) ≡ closing_of side turn (h ∷ hs) zero
first-at side from turn h hs true e =
    let same : (from + 0 == from) ≡ true = grind (arith, nat_tests) in
    let none : of_number (from + 0) (closings_from side (suc from) turn hs) ≡ [] = below side (from + 0) (suc from) turn hs (omega arith) in
    let here : nat_lt 0 (length (h ∷ hs)) ≡ true = grind (arith, nat_tests) in
    rw (e, same, none, here) refl
first-at side from turn h hs false e =
    let none : of_number (from + 0) (closings_from side (suc from) turn hs) ≡ [] = below side (from + 0) (suc from) turn hs (omega arith) in
    let here : nat_lt 0 (length (h ∷ hs)) ≡ true = grind (arith, nat_tests) in
    rw (e, none, here) refl

closing-later : (side : Side) (turn : Turn) (k : ℕ) (h : History) (hs : List History) → closing_of side turn (h ∷ hs) (suc k) ≡ closing_of side turn hs k
closing-later side turn k h hs =
    let less : nat_lt (suc k) (length (h ∷ hs)) ≡ nat_lt k (length hs) = grind (arith, nat_tests) in
    ap (λ (b : Bool). if b && is_open (get_or hs k []) then answer_to side (get_or hs k []) turn ∷ [] else []) less

later-at : (side : Side) (from k : ℕ) (turn : Turn) (h : History) (hs : List History) → (b : Bool) → is_open h ≡ b
    → of_number (suc from + k) (closings_from side (suc from) turn hs) ≡ closing_of side turn hs k
    → of_number (from + suc k) (closings_from side from turn (h ∷ hs)) ≡ closing_of side turn (h ∷ hs) (suc k)
later-at side from k turn h hs true e later =
    let differ : (from + suc k == from) ≡ false = grind (arith, nat_tests) in
    let same : from + suc k ≡ suc from + k = omega arith in
    rw (e, differ) (ap (λ n. of_number n (closings_from side (suc from) turn hs)) same ∙ later ∙ sym (closing-later side turn k h hs))
later-at side from k turn h hs false e later =
    let same : from + suc k ≡ suc from + k = omega arith in
    rw e (ap (λ n. of_number n (closings_from side (suc from) turn hs)) same ∙ later ∙ sym (closing-later side turn k h hs))

pub closings-at : (side : Side) (from k : ℕ) (turn : Turn) (hs : List History) → of_number (from + k) (closings_from side from turn hs) ≡ closing_of side turn hs k
closings-at side from k turn [] = let none : nat_lt k 0 ≡ false = grind (arith, nat_tests) in rw none refl
closings-at side from zero turn (h ∷ hs) = first-at side from turn h hs (is_open h) refl
closings-at side from (suc k) turn (h ∷ hs) = later-at side from k turn h hs (is_open h) refl (closings-at side (suc from) k turn hs)

pub closings-all : (side : Side) (k : ℕ) (turn : Turn) (hs : List History) → of_number k (closings_from side 0 turn hs) ≡ closing_of side turn hs k
closings-all side k turn hs =
    let from_zero : k ≡ 0 + k = omega arith in
    ap (λ n. of_number n (closings_from side 0 turn hs)) from_zero ∙ closings-at side 0 k turn hs

-- ---- two parts of a list of turns

pub history-parts : (side : Side) (h : History) (xs ys : List Turn) → history_of side h (xs ++ ys) ≡ history_of side (history_of side h xs) ys
history-parts side h [] ys = refl
history-parts side h (x ∷ xs) ys = history-parts side (history_after side h x) xs ys

pub answers-parts : (side : Side) (h : History) (xs ys : List Turn) → meaning_from side h (xs ++ ys) ≡ meaning_from side h xs ++ meaning_from side (history_of side h xs) ys
answers-parts side h [] ys = refl
answers-parts side h (x ∷ xs) ys = ap (λ (as_ : List Answer). answer_to side h x ∷ as_) (answers-parts side (history_after side h x) xs ys)

pub lawful-parts : (side : Side) (h : History) (xs ys : List Turn) → AllLawful side h xs → AllLawful side (history_of side h xs) ys → AllLawful side h (xs ++ ys)
lawful-parts side h [] ys a b = b
lawful-parts side h (x ∷ xs) ys a b = (a.0, lawful-parts side (history_after side h x) xs ys a.1 b)
