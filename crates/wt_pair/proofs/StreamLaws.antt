-- Of each stream, what a link delivers and what then waits, joined, is what waited; and behind what waits stands what is added.
use Rattle.std.specs.Prelude.{[], ◌++◌, ◌==◌, ◌∷◌, ◌≡◌, Bool, List, None, Option, Some, drop, false, flat_map, if◌then◌else◌, length, map, take, true, ℕ}
use Rattle.std.specs.List.{list_any}
use Rattle.std.proofs.Common.{◌∙◌, ap, refl, sym}
use Rattle.std.proofs.lemmas.Bool.{eqb-true}
use Rattle.std.proofs.lemmas.List.{append-nil, map-append, take-append-drop}
use Rattle.std.proofs.lemmas.List.Concat.{flat_map-append}
use Rattle.std.proofs.Math.Seq.{take-length}
use Rattle.wt_pair.proofs.LinkLaws.{ready-first}
use Rattle.wt_pair.proofs.Views.{marks-before, view-same, view-taken}
use Rattle.wt_pair.specs.Kept.{LinkNow, delivered_from, lost_from, ready_at, with_more}
use Rattle.wt_pair.specs.Link.{brings_datagram, delivered_turn, first_of, is_before, is_datagram, is_first, item_at, left_of, open_alike, taken_at}
use Rattle.wt_pair.specs.Streams.{Byte, Mark, delivered_on, item_marks, marks_if, named_marks, turn_marks, waiting_on}
use Rattle.wt_pair.specs.declared.item.Item.{Item}
use Rattle.wt_promise.proofs.Accepted.{not-true, or-left, or-right}
use Rattle.wt_turn.specs.declared.turn.Turn.{Turn}
use Rattle.wt_turn.specs.declared.turn.Turn.TheVariants as turns

-- ---- of what waits one item is taken

abbrev pub item : Option ℕ → Turn → Item
item o t = record { stream = o; turn = t }

-- in front of an item that is first nothing of its stream waits
marks-first : (k : ℕ) (x : Item) → x.stream ≡ Some k → (xs : List Item) (place : ℕ) → is_first xs place x ≡ true → flat_map (item_marks k) (take place xs) ≡ []
marks-first k x s xs place e = by (take place xs) (not-true (list_any (λ (y : Item). is_before y x) (take place xs)) e)
  where
    by : (ys : List Item) → list_any (λ (y : Item). is_before y x) ys ≡ false → flat_map (item_marks k) ys ≡ []
    by [] n = refl
    by (y ∷ ys) n =
        ap (λ (l : List Mark). l ++ flat_map (item_marks k) ys) (marks-before k x y s (or-left (is_before y x) (list_any (λ (z : Item). is_before z x) ys) n))
        ∙ by ys (or-right (is_before y x) (list_any (λ (z : Item). is_before z x) ys) n)

-- what is taken of a piece, and what waits on
part-marks : (k n j : ℕ) (t : Turn) → named_marks k (Some j) t ≡ named_marks k (Some j) (first_of n t) ++ flat_map (item_marks k) (left_of n (Some j) t)
part-marks k n j (turns.Bytes id piece) = by (n == length piece) refl
  where
    whole : (x : Bool) → n ≡ length piece → marks_if x (map Byte piece) ≡ marks_if x (map Byte (take n piece)) ++ []
    whole true e = ap (map Byte) (sym (ap (λ (m : ℕ). take m piece) e ∙ take-length piece)) ∙ sym (append-nil (map Byte (take n piece)))
    whole false e = refl

    part : (x : Bool) → marks_if x (map Byte piece) ≡ marks_if x (map Byte (take n piece)) ++ (marks_if x (map Byte (drop n piece)) ++ [])
    part true =
        ap (map Byte) (sym (take-append-drop n piece)) ∙ map-append Byte (take n piece) (drop n piece) ∙ ap (λ (l : List Mark). map Byte (take n piece) ++ l) (sym (append-nil (map Byte (drop n piece))))
    part false = refl

    by : (c : Bool) → (n == length piece) ≡ c → marks_if (j == k) (map Byte piece)
        ≡ marks_if (j == k) (map Byte (take n piece)) ++ flat_map (item_marks k) (if c then [] else item (Some j) (turns.Bytes id (drop n piece)) ∷ [])
    by true q = whole (j == k) (eqb-true n (length piece) q)
    by false q = part (j == k)
part-marks k n j t = sym (append-nil (named_marks k (Some j) t))

none-left : (k n : ℕ) (t : Turn) → flat_map (item_marks k) (left_of n None t) ≡ []
none-left k n (turns.Bytes id piece) = by (n == length piece)
  where
    by : (c : Bool) → flat_map (item_marks k) (if c then [] else item None (turns.Bytes id (drop n piece)) ∷ []) ≡ []
    by true = refl
    by false = refl
none-left k n t = refl

-- of what is taken of an item that is first, and of what then waits
pub left-marks : (w : List Item) (place n : ℕ) (o : Option ℕ) (t : Turn) → item_at w place ≡ Some (item o t) → is_first w place (item o t) ≡ true
    → (k : ℕ) → flat_map (item_marks k) w ≡ named_marks k o (first_of n t) ++ flat_map (item_marks k) (taken_at w place (left_of n o t))
left-marks w place n o t at first k = by o refl
  where
    by : (p : Option ℕ) → o ≡ p → flat_map (item_marks k) w ≡ named_marks k p (first_of n t) ++ flat_map (item_marks k) (taken_at w place (left_of n o t))
    by None q =
        view-same (item_marks k) w place (item o t) (left_of n o t) at (ap (λ (p : Option ℕ). named_marks k p t) q ∙ sym (ap (λ (p : Option ℕ). flat_map (item_marks k) (left_of n p t)) q ∙ none-left k n t))
    by (Some j) q = of (j == k) refl
      where
        parts : named_marks k o t ≡ named_marks k (Some j) (first_of n t) ++ flat_map (item_marks k) (left_of n o t)
        parts = ap (λ (p : Option ℕ). named_marks k p t) q ∙ part-marks k n j t ∙ ap (λ (p : Option ℕ). named_marks k (Some j) (first_of n t) ++ flat_map (item_marks k) (left_of n p t)) (sym q)

        of : (b : Bool) → (j == k) ≡ b → flat_map (item_marks k) w ≡ named_marks k (Some j) (first_of n t) ++ flat_map (item_marks k) (taken_at w place (left_of n o t))
        of true r =
            view-taken (item_marks k) w place (item o t) (named_marks k (Some j) (first_of n t)) (left_of n o t) at
            (marks-first k (item o t) (q ∙ ap (λ (m : ℕ). Some m) (eqb-true j k r)) w place first) parts
        of false r =
            let none : named_marks k (Some j) (first_of n t) ≡ [] = ap (λ (b : Bool). marks_if b (turn_marks (first_of n t))) r in
            view-same (item_marks k) w place (item o t) (left_of n o t) at (parts ∙ ap (λ (l : List Mark). l ++ flat_map (item_marks k) (left_of n o t)) none)
            ∙ ap (λ (l : List Mark). l ++ flat_map (item_marks k) (taken_at w place (left_of n o t))) (sym none)

-- ---- a link

-- what is added stands behind what waits
pub added_on : (l now : LinkNow) (x : Item) → now ≡ with_more (x ∷ []) l → (k : ℕ) → waiting_on k now ≡ waiting_on k l ++ item_marks k x
added_on l now x e k =
    ap (waiting_on k) e ∙ flat_map-append (item_marks k) l.waiting (x ∷ []) ∙ ap (λ (m : List Mark). waiting_on k l ++ m) (append-nil (item_marks k x))

-- what is delivered stood in front of what then waits
pub delivered_waits : (l now : LinkNow) (place n : ℕ) (turn : Option Turn) → turn ≡ delivered_turn n (ready_at l place n) → now ≡ delivered_from place n l (ready_at l place n)
    → (k : ℕ) → waiting_on k l ≡ delivered_on k (ready_at l place n) turn ++ waiting_on k now
delivered_waits l now place n turn t e k = by (ready_at l place n) refl t e
  where
    by : (o : Option Item) → ready_at l place n ≡ o → turn ≡ delivered_turn n o → now ≡ delivered_from place n l o → waiting_on k l ≡ delivered_on k o turn ++ waiting_on k now
    by None r u q = sym (ap (waiting_on k) q)
    by (Some x) r u q =
        let f = ready-first l place n x r in
        left-marks l.waiting place n x.stream x.turn f.0 f.1 k
        ∙ ap (λ (m : Option Turn). delivered_on k (Some x) m ++ flat_map (item_marks k) (taken_at l.waiting place (left_of n x.stream x.turn))) (sym u)
        ∙ ap (λ (m : List Mark). delivered_on k (Some x) turn ++ m) (sym (ap (waiting_on k) q))

-- a datagram is on no stream
none-marked : (k : ℕ) (o : Option ℕ) (t : Turn) → brings_datagram t ≡ true → named_marks k o t ≡ []
none-marked k None t d = refl
none-marked k (Some j) (turns.Datagram piece) d = by (j == k)
  where
    by : (b : Bool) → ◌≡◌ {A = List Mark} (marks_if b []) []
    by true = refl
    by false = refl
none-marked k (Some j) t d = absurd (cc d)

-- what is lost was on none
pub lost_on : (l now : LinkNow) (place : ℕ) (b : Bool) → b ≡ is_datagram (item_at l.waiting place) → now ≡ lost_from place l b → (k : ℕ) → waiting_on k now ≡ waiting_on k l
lost_on l now place false d e k = ap (waiting_on k) e
lost_on l now place true d e k = by (item_at l.waiting place) refl d
  where
    by : (o : Option Item) → item_at l.waiting place ≡ o → true ≡ is_datagram o → waiting_on k now ≡ waiting_on k l
    by None a q = absurd (cc q)
    by (Some x) a q = ap (waiting_on k) e ∙ sym (view-same (item_marks k) l.waiting place x [] a (none-marked k x.stream x.turn (sym q)))
