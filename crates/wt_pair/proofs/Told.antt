-- What an end's turns and its answers tell is what its history says, where each piece stands byte by byte.
use Rattle.std.specs.Prelude.{[], ◌++◌, ◌==◌, ◌||◌, ◌∷◌, ◌≡◌, Bool, List, None, Option, Some, false, filter_map, flat_map, if◌then◌else◌, not, true, ℕ}
use Rattle.std.specs.List.{cons_option, list_any}
use Rattle.std.specs.Option.{option_or}
use Rattle.std.proofs.Common.{◌∙◌, ap, refl, subst, sym}
use Rattle.std.proofs.lemmas.Bool.{eqb-true}
use Rattle.std.proofs.lemmas.List.{append-nil}
use Rattle.wt_meaning.specs.History.{History, contents, ends_by, is_open, loses, out, with_bytes}
use Rattle.wt_meaning.specs.Meaning.{after_bytes, answer_to, bytes_actions, history_after, meaning_from, next, step, with_pair}
use Rattle.wt_meaning.specs.Windows.{establishes, first_session, is_number, named, receives}
use Rattle.wt_pair.proofs.Marks.{act_marks, bytes_marked, emitted, emitted-after, marked-out, marks-join}
use Rattle.wt_pair.proofs.Moves.{after_turns}
use Rattle.wt_pair.proofs.Receives.{BytesCame, bytes-came, bytes-open, bytes-other}
use Rattle.wt_pair.specs.Claims.{with_pairs, sent_by, sent_payload, sent_payloads}
use Rattle.wt_pair.specs.Streams.{Mark}
use Rattle.wt_promise.proofs.Actions.{any-join_all}
use Rattle.wt_promise.proofs.Opened.{open-before}
use Rattle.wt_promise.specs.Causes.{piece_of, pieces}
use Rattle.wt_promise.specs.Promise.{accepted, accepted_by, payload_in, payloads}
use Rattle.wt_turn.specs.Log.{closes}
use Rattle.wt_turn.specs.declared.action.Action.{Action}
use Rattle.wt_turn.specs.declared.answer.Answer.{Answer}
use Rattle.wt_turn.specs.declared.reply.Reply.{Reply}
use Rattle.wt_turn.specs.declared.turn.Turn.{Turn}
use Rattle.wt_turn.specs.declared.call.Call.TheVariants as calls
use Rattle.wt_turn.specs.declared.reply.Reply.TheVariants as replies
use Rattle.wt_turn.specs.declared.turn.Turn.TheVariants as turns
use Rattle.wt_wire.specs.declared.side.Side.{Side}

-- ---- histories that say the same

pub record Alike (h g : History) : Type 0 where
  pub read : (k : ℕ) → pieces h k ≡ pieces g k
  pub wrote : (k : ℕ) → accepted h k ≡ accepted g k
  pub received : (s : ℕ) → payloads h s ≡ payloads g s
  pub sent : (s : ℕ) → sent_payloads h s ≡ sent_payloads g s
  pub earliest : first_session h ≡ first_session g
  pub stands : filter_map establishes h ≡ filter_map establishes g
  pub went : (k : ℕ) → emitted (act_marks k) h ≡ emitted (act_marks k) g
  pub ended : list_any ends_by h ≡ list_any ends_by g
  pub came : is_open h ≡ true → (k : ℕ) → contents h k ≡ contents g k

pub still-open : (h g : History) → Alike h g → is_open h ≡ is_open g
still-open h g x = ap not x.ended

pub all-out : (h g : History) → Alike h g → (k : ℕ) → out h k ≡ out g k
all-out h g x k = sym (marked-out k h) ∙ ap bytes_marked (x.went k) ∙ marked-out k g

-- a name means the same session
names : (h g : History) → Alike h g → (name : Option ℕ) → named h name ≡ named g name
names h g x None = x.earliest
names h g x (Some s) = ap (λ (b : Bool). if b then Some s else None) (ap (list_any (λ (id : ℕ). id == s)) x.stands)

-- ---- one more pair

gets : (h g : History) → Alike h g → (s : ℕ) (turn : Turn) (reply : Reply) → receives h s turn reply ≡ receives g s turn reply
gets h g x s (turns.Call (calls.ReceiveDatagram name)) (replies.Datagram payload) = ap (is_number s) (names h g x name)
gets h g x s turn reply = refl

puts : (h g : History) → Alike h g → (s : ℕ) (turn : Turn) (reply : Reply) → sent_by h s turn reply ≡ sent_by g s turn reply
puts h g x s (turns.Call (calls.SendDatagram payload name)) reply = ap (λ (o : Option ℕ). sent_payload o s payload reply) (names h g x name)
puts h g x s turn reply = refl

pub alike-pair : (h g : History) (turn : Turn) (a : Answer) → Alike h g → Alike (with_pair h turn a) (with_pair g turn a)
alike-pair h g turn a x = record {
  read = λ k. ap (λ (l : List ℕ). l ++ piece_of k turn a.reply) (x.read k);
  wrote = λ k. ap (λ (l : List ℕ). l ++ accepted_by k turn a.reply) (x.wrote k);
  received = λ s. ap (λ (l : List (List ℕ)). l ++ (if receives h s turn a.reply then payload_in a.reply else [])) (x.received s)
      ∙ ap (λ (b : Bool). payloads g s ++ (if b then payload_in a.reply else [])) (gets h g x s turn a.reply);
  sent = λ s. ap (λ (l : List (List ℕ)). l ++ sent_by h s turn a.reply) (x.sent s) ∙ ap (λ (l : List (List ℕ)). sent_payloads g s ++ l) (puts h g x s turn a.reply);
  earliest = ap (λ (o : Option ℕ). option_or o (establishes (record { turn = turn; answer = a }))) x.earliest;
  stands = ap (cons_option (establishes (record { turn = turn; answer = a }))) x.stands;
  went = λ k. ap (λ (l : List Mark). l ++ flat_map (act_marks k) a.actions) (x.went k);
  ended = ap (λ (b : Bool). (loses turn || list_any closes a.actions) || b) x.ended;
  came = λ o k.
      let q : is_open h ≡ true = open-before (record { turn = turn; answer = a }) h o in
      ap (λ (b : Bool). if b then with_bytes k turn (contents h k) else contents h k) q
      ∙ ap (with_bytes k turn) (x.came q k)
      ∙ sym (ap (λ (b : Bool). if b then with_bytes k turn (contents g k) else contents g k) (sym (still-open h g x) ∙ q));
}

-- ---- a piece, byte by byte

-- the history after one byte
abbrev stepped : Side → ℕ → ℕ → History → History
stepped side k b h = step side h (turns.Bytes k (b ∷ []))

bytes-read : (side : Side) (k j : ℕ) (piece : List ℕ) (h : History) → pieces (after_bytes side h k piece) j ≡ pieces h j
bytes-read side k j [] h = refl
bytes-read side k j (b ∷ piece) h = bytes-read side k j piece (stepped side k b h) ∙ append-nil (pieces h j)

bytes-wrote : (side : Side) (k j : ℕ) (piece : List ℕ) (h : History) → accepted (after_bytes side h k piece) j ≡ accepted h j
bytes-wrote side k j [] h = refl
bytes-wrote side k j (b ∷ piece) h = bytes-wrote side k j piece (stepped side k b h) ∙ append-nil (accepted h j)

bytes-received : (side : Side) (k s : ℕ) (piece : List ℕ) (h : History) → payloads (after_bytes side h k piece) s ≡ payloads h s
bytes-received side k s [] h = refl
bytes-received side k s (b ∷ piece) h = bytes-received side k s piece (stepped side k b h) ∙ append-nil (payloads h s)

bytes-sent : (side : Side) (k s : ℕ) (piece : List ℕ) (h : History) → sent_payloads (after_bytes side h k piece) s ≡ sent_payloads h s
bytes-sent side k s [] h = refl
bytes-sent side k s (b ∷ piece) h = bytes-sent side k s piece (stepped side k b h) ∙ append-nil (sent_payloads h s)

or-none : (o : Option ℕ) → option_or o None ≡ o
or-none None = refl
or-none (Some s) = refl

bytes-earliest : (side : Side) (k : ℕ) (piece : List ℕ) (h : History) → first_session (after_bytes side h k piece) ≡ first_session h
bytes-earliest side k [] h = refl
bytes-earliest side k (b ∷ piece) h = bytes-earliest side k piece (stepped side k b h) ∙ or-none (first_session h)

bytes-stand : (side : Side) (k : ℕ) (piece : List ℕ) (h : History) → filter_map establishes (after_bytes side h k piece) ≡ filter_map establishes h
bytes-stand side k [] h = refl
bytes-stand side k (b ∷ piece) h = bytes-stand side k piece (stepped side k b h)

bytes-ended : (side : Side) (k : ℕ) (piece : List ℕ) (h : History) → list_any ends_by (after_bytes side h k piece) ≡ (list_any closes (bytes_actions side h k piece) || list_any ends_by h)
bytes-ended side k [] h = refl
bytes-ended side k (b ∷ piece) h =
    bytes-ended side k piece (stepped side k b h)
    ∙ shift (list_any closes (bytes_actions side (stepped side k b h) k piece)) (list_any closes one) (list_any ends_by h)
    ∙ ap (λ (x : Bool). x || list_any ends_by h) (sym (any-join_all closes (λ i p q. refl) one (bytes_actions side (stepped side k b h) k piece)))
  where
    one : List Action
    one = (next side h (turns.Bytes k (b ∷ []))).actions

    shift : (x y z : Bool) → (x || (y || z)) ≡ ((y || x) || z)
    shift true true z = refl
    shift true false z = refl
    shift false y z = same y
      where
        same : (c : Bool) → (c || z) ≡ ((c || false) || z)
        same true = refl
        same false = refl

bytes-contents : (side : Side) (k j : ℕ) (piece : List ℕ) (h : History) → is_open (after_bytes side h k piece) ≡ true → contents (after_bytes side h k piece) j ≡ with_bytes j (turns.Bytes k piece) (contents h j)
bytes-contents side k j piece h o = by (k == j) refl
  where
    c : BytesCame side h k piece
    c = bytes-came side k piece h

    whole : c.came ≡ piece
    whole = sym (append-nil c.came) ∙ ap (λ (l : List ℕ). c.came ++ l) (sym (c.whole o)) ∙ c.parts

    by : (b : Bool) → (k == j) ≡ b → contents (after_bytes side h k piece) j ≡ (if b then contents h j ++ piece else contents h j)
    by true e = subst (λ (n : ℕ). contents (after_bytes side h k piece) n ≡ contents h n ++ piece) (eqb-true k j e) (c.here ∙ ap (λ (l : List ℕ). contents h k ++ l) whole)
    by false e = bytes-other side k j piece h e

-- the piece is one pair in the one, and a pair a byte in the other
alike-piece : (side : Side) (k : ℕ) (piece : List ℕ) (h g : History) → Alike h g → Alike (after_bytes side h k piece) (with_pair g (turns.Bytes k piece) (answer_to side h (turns.Bytes k piece)))
alike-piece side k piece h g x = record {
  read = λ j. bytes-read side k j piece h ∙ x.read j ∙ sym (append-nil (pieces g j));
  wrote = λ j. bytes-wrote side k j piece h ∙ x.wrote j ∙ sym (append-nil (accepted g j));
  received = λ s. bytes-received side k s piece h ∙ x.received s ∙ sym (append-nil (payloads g s));
  sent = λ s. bytes-sent side k s piece h ∙ x.sent s ∙ sym (append-nil (sent_payloads g s));
  earliest = bytes-earliest side k piece h ∙ x.earliest ∙ sym (or-none (first_session g));
  stands = bytes-stand side k piece h ∙ x.stands;
  went = λ j. emitted-after (act_marks j) (marks-join j) side h (turns.Bytes k piece) ∙ ap (λ (l : List Mark). l ++ flat_map (act_marks j) (bytes_actions side h k piece)) (x.went j);
  ended = bytes-ended side k piece h ∙ ap (λ (b : Bool). list_any closes (bytes_actions side h k piece) || b) x.ended;
  came = λ o j.
      let q : is_open h ≡ true = bytes-open side k piece h o in
      bytes-contents side k j piece h o ∙ ap (with_bytes j (turns.Bytes k piece)) (x.came q j)
      ∙ sym (ap (λ (b : Bool). if b then with_bytes j (turns.Bytes k piece) (contents g j) else contents g j) (sym (still-open h g x) ∙ q));
}

-- ---- turns

alike-turn : (side : Side) (turn : Turn) (h g : History) → Alike h g → Alike (history_after side h turn) (with_pair g turn (answer_to side h turn))
alike-turn side (turns.Bytes id piece) h g x = alike-piece side id piece h g x
alike-turn side turn h g x = alike-pair h g turn (answer_to side h turn) x

-- each with what it means
pub alike-turns : (side : Side) (all : List Turn) (h g : History) → Alike h g → Alike (after_turns side h all) (with_pairs g all (meaning_from side h all))
alike-turns side [] h g x = x
alike-turns side (turn ∷ all) h g x = alike-turns side all (history_after side h turn) (with_pair g turn (answer_to side h turn)) (alike-turn side turn h g x)

pub alike-none : Alike [] []
alike-none = record {
  read = λ k. refl;
  wrote = λ k. refl;
  received = λ s. refl;
  sent = λ s. refl;
  earliest = refl;
  stands = refl;
  went = λ k. refl;
  ended = refl;
  came = λ o k. refl;
}
