-- What is kept of datagrams follows one more pair.
use Rattle.std.proofs.Common.{◌≡◌, ℕ, Bool, true, false, List, [], ◌∷◌, ◌++◌, map, filter, filter_map, cond, refl, sym, ap, ◌∙◌, append_assoc, append-nil, bytes_eq, inl, inr}
use Rattle.std.proofs.lemmas.Bool.{eq-eqb, ne_eqb}
use Rattle.std.proofs.lemmas.Bool.Decides.{eqb_tells}
use Rattle.std.specs.List.{cons_option}
use Rattle.std.specs.Prelude.{◌==◌, ◌⊎◌, None, Option, Some, if◌then◌else◌, is_some, unwrap_or}
use Rattle.wt_check.specs.ById.{value_at}
use Rattle.wt_check.specs.Datagrams.{datagrams_hold, is_subsequence, received, receives_rightly}
use Rattle.wt_check.specs.KeptDatagrams.{DatagramsFollow, arriving, behind, came_for, left_after, of_session, payloads_of, received_by, rest_behind, was_there}
use Rattle.wt_check.specs.Keeps.{FactsSay}
use Rattle.wt_check.specs.Records.{field_of, named_of, names}
use Rattle.wt_check.specs.declared.facts.Facts.{Facts}
use Rattle.wt_meaning.specs.History.{History, Pair, events, is_open, with_event}
use Rattle.wt_meaning.specs.Windows.{first_session, is_number}
use Rattle.wt_message.specs.Datagram.{datagram_of}
use Rattle.wt_promise.specs.Found.{said_by}
use Rattle.wt_promise.specs.Promise.{payload_in}
use Rattle.wt_promise.specs.Sides.{arrived}
use Rattle.wt_turn.specs.Reports.{datagrams_of}
use Rattle.wt_turn.specs.Log.{Event}
use Rattle.wt_turn.specs.Turns.{event_of}
use Rattle.wt_turn.specs.declared.reply.Reply.{Reply}
use Rattle.wt_turn.specs.declared.turn.Turn.{Turn}
use Rattle.wt_turn.specs.declared.reply.Reply.TheVariants as replies
use Rattle.wt_turn.specs.declared.turn.Turn.TheVariants as turns
use Rattle.wt_wire.specs.declared.side.Side.{Side}

pub follow_none : (left : List (ℕ × List (List ℕ))) → ((k : ℕ) → value_at left k ≡ None) → DatagramsFollow left []
follow_none left none s later more = ap (λ (o : Option (List (List ℕ))). is_subsequence later (unwrap_or o [] ++ more)) (sym (none s))

-- ---- what comes

-- what these datagrams bring to the session
abbrev brought : ℕ → List (List ℕ) → List (List ℕ)
brought s pieces = map (λ (d : ℕ × List ℕ). d.1) (filter (λ (d : ℕ × List ℕ). d.0 == s) (filter_map (λ (piece : List ℕ). said_by (datagram_of piece)) pieces))

brought_first : (s : ℕ) (piece : List ℕ) (pieces : List (List ℕ)) → brought s (piece ∷ pieces) ≡ came_for s piece ++ brought s pieces
brought_first s piece pieces = by (said_by (datagram_of piece)) where
  rest : List (ℕ × List ℕ)
  rest = filter_map (λ (piece : List ℕ). said_by (datagram_of piece)) pieces

  of : (d : ℕ × List ℕ) (b : Bool)
      → map (λ (d : ℕ × List ℕ). d.1) (cond b (d ∷ filter (λ (d : ℕ × List ℕ). d.0 == s) rest) (filter (λ (d : ℕ × List ℕ). d.0 == s) rest))
      ≡ (if b then d.1 ∷ [] else []) ++ map (λ (d : ℕ × List ℕ). d.1) (filter (λ (d : ℕ × List ℕ). d.0 == s) rest)
  of d true = refl
  of d false = refl

  by : (o : Option (ℕ × List ℕ)) → map (λ (d : ℕ × List ℕ). d.1) (filter (λ (d : ℕ × List ℕ). d.0 == s) (cons_option o rest))
      ≡ of_session s o ++ map (λ (d : ℕ × List ℕ). d.1) (filter (λ (d : ℕ × List ℕ). d.0 == s) rest)
  by None = refl
  by (Some d) = of d (d.0 == s)

brought_last : (s : ℕ) (pieces : List (List ℕ)) (piece : List ℕ) → brought s (pieces ++ piece ∷ []) ≡ brought s pieces ++ came_for s piece
brought_last s [] piece = brought_first s piece [] ∙ append-nil (came_for s piece)
brought_last s (first ∷ pieces) piece =
    brought_first s first (pieces ++ piece ∷ [])
    ∙ ap (λ l. came_for s first ++ l) (brought_last s pieces piece)
    ∙ sym (append_assoc (came_for s first) (brought s pieces) (came_for s piece))
    ∙ ap (λ l. l ++ came_for s piece) (sym (brought_first s first pieces))

arrived_by : (s : ℕ) (b : Bool) (turn : Turn) (before : List Event)
    → brought s (datagrams_of (if b then with_event (event_of turn) before else before)) ≡ brought s (datagrams_of before) ++ arriving s b turn
arrived_by s true (turns.Datagram piece) before = brought_last s (datagrams_of before) piece
arrived_by s true turn before = sym (append-nil (brought s (datagrams_of before)))
arrived_by s false turn before = sym (append-nil (brought s (datagrams_of before)))

arrived_more : (h : History) (p : Pair) (s : ℕ) → arrived (p ∷ h) s ≡ arrived h s ++ arriving s (is_open h) p.turn
arrived_more h p s = arrived_by s (is_open h) p.turn (events h)

-- ---- what is received

-- one payload behind others
first_behind : (x : List ℕ) (xs ys more : List (List ℕ)) → is_some (behind x ys) ≡ true → is_subsequence (x ∷ xs) (ys ++ more) ≡ is_subsequence xs (rest_behind x ys ++ more)
first_behind x xs [] more e = absurd cc
first_behind x xs (y ∷ ys) more e = by (bytes_eq x y) e (first_behind x xs ys more) where
  by : (b : Bool) → is_some (if b then Some ys else behind x ys) ≡ true
      → (is_some (behind x ys) ≡ true → is_subsequence (x ∷ xs) (ys ++ more) ≡ is_subsequence xs (rest_behind x ys ++ more))
      → (if b then is_subsequence xs (ys ++ more) else is_subsequence (x ∷ xs) (ys ++ more)) ≡ is_subsequence xs (unwrap_or (if b then Some ys else behind x ys) [] ++ more)
  by true e again = refl
  by false e again = again e

alone_behind : (x : List ℕ) (ys : List (List ℕ)) → is_subsequence (x ∷ []) ys ≡ is_some (behind x ys)
alone_behind x [] = refl
alone_behind x (y ∷ ys) = by (bytes_eq x y) (alone_behind x ys) where
  by : (b : Bool) → is_subsequence (x ∷ []) ys ≡ is_some (behind x ys)
      → (if b then true else is_subsequence (x ∷ []) ys) ≡ is_some (if b then Some ys else behind x ys)
  by true again = refl
  by false again = again

-- what is kept once the turn was taken, and before its reply
abbrev Arrives : List (ℕ × List (List ℕ)) → History → Pair → Type 0
Arrives left h p = (s : ℕ) (later more : List (List ℕ)) → is_subsequence (received h s ++ later) (arrived (p ∷ h) s ++ more) ≡ is_subsequence later (payloads_of left s ++ more)

arrives : (left after : List (ℕ × List (List ℕ))) (h : History) (p : Pair) → DatagramsFollow left h
    → ((k : ℕ) → payloads_of after k ≡ payloads_of left k ++ arriving k (is_open h) p.turn) → Arrives after h p
arrives left after h p f e s later more =
    ap (λ l. is_subsequence (received h s ++ later) (l ++ more)) (arrived_more h p s)
    ∙ ap (is_subsequence (received h s ++ later)) (append_assoc (arrived h s) (arriving s (is_open h) p.turn) more)
    ∙ f s later (arriving s (is_open h) p.turn ++ more)
    ∙ ap (is_subsequence later) (sym (append_assoc (payloads_of left s) (arriving s (is_open h) p.turn) more))
    ∙ ap (λ l. is_subsequence later (l ++ more)) (sym (e s))

same_number : (n : ℕ) → (n == n) ≡ true
same_number n = eq-eqb n n refl

-- what the pair adds to what was received
abbrev adds : History → Pair → ℕ → List (List ℕ)
adds h p s = if is_number s (names h p.turn) then payload_in p.answer.reply else []

adds_here : (h : History) (p : Pair) (n : ℕ) (x : List ℕ) → names h p.turn ≡ Some n → p.answer.reply ≡ replies.Datagram x → adds h p n ≡ x ∷ []
adds_here h p n x named says =
    ap (λ (o : Option ℕ). if is_number n o then payload_in p.answer.reply else []) named
    ∙ ap (λ b. if b then payload_in p.answer.reply else []) (same_number n)
    ∙ ap payload_in says

adds_elsewhere : (h : History) (p : Pair) (n s : ℕ) → names h p.turn ≡ Some n → (s ≡ n → ⊥) → adds h p s ≡ []
adds_elsewhere h p n s named other =
    ap (λ (o : Option ℕ). if is_number s o then payload_in p.answer.reply else []) named
    ∙ ap (λ b. if b then payload_in p.answer.reply else []) (ne_eqb n s (λ q. other (sym q)))

-- a payload that the pair receives
pub received_rightly : (side : Side) (h : History) (p : Pair) (mid : List (ℕ × List (List ℕ))) (n : ℕ) (x : List ℕ) → Arrives mid h p → names h p.turn ≡ Some n
    → p.answer.reply ≡ replies.Datagram x → is_some (behind x (payloads_of mid n)) ≡ receives_rightly side h p
received_rightly side h p mid n x a named says = sym (
    ap (datagrams_hold (p ∷ h)) named
    ∙ ap (λ l. is_subsequence (received h n ++ l) (arrived (p ∷ h) n)) (adds_here h p n x named says)
    ∙ ap (is_subsequence (received h n ++ x ∷ [])) (sym (append-nil (arrived (p ∷ h) n)))
    ∙ a n (x ∷ []) []
    ∙ ap (is_subsequence (x ∷ [])) (append-nil (payloads_of mid n))
    ∙ alone_behind x (payloads_of mid n))

pub received_kept : (h : History) (p : Pair) (mid after : List (ℕ × List (List ℕ))) (n : ℕ) (x : List ℕ) → Arrives mid h p → names h p.turn ≡ Some n
    → p.answer.reply ≡ replies.Datagram x → is_some (behind x (payloads_of mid n)) ≡ true
    → ((k : ℕ) → payloads_of after k ≡ (if k == n then rest_behind x (payloads_of mid n) else payloads_of mid k)) → DatagramsFollow after (p ∷ h)
received_kept h p mid after n x a named says some e s later more = by (eqb_tells s n) where
  by : ((s == n) ≡ true) × (s ≡ n) ⊎ ((s == n) ≡ false) × (s ≡ n → ⊥)
      → is_subsequence (received (p ∷ h) s ++ later) (arrived (p ∷ h) s ++ more) ≡ is_subsequence later (payloads_of after s ++ more)
  by (inl (t, q)) =
      ap (λ j. is_subsequence (received (p ∷ h) j ++ later) (arrived (p ∷ h) j ++ more)) q
      ∙ ap (λ l. is_subsequence ((received h n ++ l) ++ later) (arrived (p ∷ h) n ++ more)) (adds_here h p n x named says)
      ∙ ap (λ l. is_subsequence l (arrived (p ∷ h) n ++ more)) (append_assoc (received h n) (x ∷ []) later)
      ∙ a n (x ∷ later) more
      ∙ first_behind x later (payloads_of mid n) more some
      ∙ ap (λ l. is_subsequence later (l ++ more)) (sym (ap (λ b. if b then rest_behind x (payloads_of mid n) else payloads_of mid s) t) ∙ sym (e s))
  by (inr (t, q)) =
      ap (λ l. is_subsequence ((received h s ++ l) ++ later) (arrived (p ∷ h) s ++ more)) (adds_elsewhere h p n s named q)
      ∙ ap (λ l. is_subsequence (l ++ later) (arrived (p ∷ h) s ++ more)) (append-nil (received h s))
      ∙ a s later more
      ∙ ap (λ l. is_subsequence later (l ++ more)) (sym (ap (λ b. if b then rest_behind x (payloads_of mid n) else payloads_of mid s) t) ∙ sym (e s))

-- nothing is received: no session is named, or the reply is no datagram
pub nothing_rightly : (side : Side) (h : History) (p : Pair) (mid : List (ℕ × List (List ℕ))) → Arrives mid h p → ((s : ℕ) → adds h p s ≡ []) → true ≡ receives_rightly side h p
nothing_rightly side h p mid a none = by (names h p.turn) where
  by : (o : Option ℕ) → true ≡ datagrams_hold (p ∷ h) o
  by None = refl
  by (Some n) = sym (
      ap (λ l. is_subsequence (received h n ++ l) (arrived (p ∷ h) n)) (none n)
      ∙ ap (is_subsequence (received h n ++ [])) (sym (append-nil (arrived (p ∷ h) n)))
      ∙ a n [] [])

pub nothing_kept : (h : History) (p : Pair) (mid : List (ℕ × List (List ℕ))) → Arrives mid h p → ((s : ℕ) → adds h p s ≡ []) → DatagramsFollow mid (p ∷ h)
nothing_kept h p mid a none s later more =
    ap (λ l. is_subsequence ((received h s ++ l) ++ later) (arrived (p ∷ h) s ++ more)) (none s)
    ∙ ap (λ l. is_subsequence (l ++ later) (arrived (p ∷ h) s ++ more)) (append-nil (received h s))
    ∙ a s later more

-- ---- both

-- what the pair receives, by the session that its turn names and its reply
Received : Option ℕ → Reply → Option (ℕ × List ℕ) → Type 0
Received name reply None = (s : ℕ) → (if is_number s name then payload_in reply else []) ≡ []
Received name reply (Some d) = (name ≡ Some d.0) × (reply ≡ replies.Datagram d.1)

nothing_in : (s n : ℕ) (reply : Reply) → payload_in reply ≡ [] → (if is_number s (Some n) then payload_in reply else []) ≡ []
nothing_in s n reply none = by (is_number s (Some n)) where
  by : (b : Bool) → (if b then payload_in reply else []) ≡ []
  by true = none
  by false = refl

by_parts : (name : Option ℕ) (reply : Reply) → Received name reply (received_by name reply)
unfolding Received
by_parts None reply = λ s. refl
by_parts (Some n) (replies.Datagram x) = (refl, refl)
by_parts (Some n) reply = λ s. nothing_in s n reply refl

-- whether the pair's payload was there says whether the rule holds
pub rightly : (side : Side) (h : History) (p : Pair) (left mid : List (ℕ × List (List ℕ))) → DatagramsFollow left h
    → ((k : ℕ) → payloads_of mid k ≡ payloads_of left k ++ arriving k (is_open h) p.turn)
    → was_there (received_by (names h p.turn) p.answer.reply) mid ≡ receives_rightly side h p
unfolding Received
rightly side h p left mid f e = by (received_by (names h p.turn) p.answer.reply) (by_parts (names h p.turn) p.answer.reply) where
  by : (d : Option (ℕ × List ℕ)) → Received (names h p.turn) p.answer.reply d → was_there d mid ≡ receives_rightly side h p
  by None none = nothing_rightly side h p mid (arrives left mid h p f e) none
  by (Some d) both = received_rightly side h p mid d.0 d.1 (arrives left mid h p f e) both.0 both.1

-- and where it holds, what is left then follows the pairs with it
pub kept_by : (h : History) (p : Pair) (left mid after : List (ℕ × List (List ℕ))) → DatagramsFollow left h
    → ((k : ℕ) → payloads_of mid k ≡ payloads_of left k ++ arriving k (is_open h) p.turn)
    → was_there (received_by (names h p.turn) p.answer.reply) mid ≡ true
    → ((k : ℕ) → payloads_of after k ≡ left_after (received_by (names h p.turn) p.answer.reply) mid k)
    → DatagramsFollow after (p ∷ h)
unfolding Received
kept_by h p left mid after f e = by (received_by (names h p.turn) p.answer.reply) (by_parts (names h p.turn) p.answer.reply) where
  by : (d : Option (ℕ × List ℕ)) → Received (names h p.turn) p.answer.reply d → was_there d mid ≡ true → ((k : ℕ) → payloads_of after k ≡ left_after d mid k)
      → DatagramsFollow after (p ∷ h)
  by None none there same s later more = nothing_kept h p mid (arrives left mid h p f e) none s later more ∙ ap (λ l. is_subsequence later (l ++ more)) (sym (same s))
  by (Some d) both there same s later more = received_kept h p mid after d.0 d.1 (arrives left mid h p f e) both.0 both.1 there same s later more

-- ---- the same, by what the code has

module _ (side : Side) (h : History) (p : Pair) (facts : Facts) (turn : Turn) (reply : Reply) (name : Option ℕ) (left mid : List (ℕ × List (List ℕ)))
    (of_turn : p.turn ≡ turn) (of_reply : p.answer.reply ≡ reply) (say : FactsSay side facts h) (follow : DatagramsFollow left h)
    (named : name ≡ named_of facts.first_session (field_of turn)) (came : (k : ℕ) → payloads_of mid k ≡ payloads_of left k ++ arriving k facts.is_open turn) where
  same_received : received_by name reply ≡ received_by (names h p.turn) p.answer.reply
  same_received =
      ap (λ n. received_by n reply) (named ∙ ap (λ o. named_of o (field_of turn)) say.first ∙ ap (λ t. named_of (first_session h) (field_of t)) (sym of_turn))
      ∙ ap (received_by (names h p.turn)) (sym of_reply)

  came_here : (k : ℕ) → payloads_of mid k ≡ payloads_of left k ++ arriving k (is_open h) p.turn
  came_here k =
      came k ∙ ap (λ b. payloads_of left k ++ arriving k b turn) say.still_open ∙ ap (λ t. payloads_of left k ++ arriving k (is_open h) t) (sym of_turn)

  pub holds_answer : was_there (received_by name reply) mid ≡ receives_rightly side h p
  holds_answer = ap (λ d. was_there d mid) same_received ∙ rightly side h p left mid follow came_here

  pub holds_kept : (after : List (ℕ × List (List ℕ))) → was_there (received_by name reply) mid ≡ true
      → ((k : ℕ) → payloads_of after k ≡ left_after (received_by name reply) mid k) → DatagramsFollow after (p ∷ h)
  holds_kept after there same =
      kept_by h p left mid after follow came_here (ap (λ d. was_there d mid) (sym same_received) ∙ there) (λ k. same k ∙ ap (λ d. left_after d mid k) same_received)
