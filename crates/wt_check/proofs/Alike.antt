-- The record of a lawful list, in which each piece is whole, and the history to which the list leads, byte by byte: what both say alike.
use Rattle.std.specs.Prelude.{[], ◌&&◌, ◌++◌, ◌==◌, ◌||◌, ◌∷◌, ◌≡◌, Bool, List, None, Option, Some, false, if◌then◌else◌, not, true, ℕ}
use Rattle.std.specs.List.{list_any}
use Rattle.std.proofs.Common.{◌∙◌, ap, append_assoc, refl, subst, sym}
use Rattle.std.proofs.lemmas.Bool.{eq-eqb, eqb-true}
use Rattle.std.proofs.lemmas.List.{append-nil}
use Rattle.wt_meaning.specs.History.{History, Pair, actions_out, all_events, can_receive, contents, ends_by, events, is_open, out, with_bytes, with_event}
use Rattle.wt_meaning.specs.Lawful.{is_first, is_lawful, is_lost}
use Rattle.wt_meaning.specs.Meaning.{after_bytes, answer_to, bytes_actions, history_after, next, step, with_pair}
use Rattle.wt_promise.proofs.Accepted.{and-left, and-right}
use Rattle.wt_promise.proofs.Actions.{AnyPiece, any-join_all}
use Rattle.wt_promise.proofs.BytesOut.{bytes-join, bytes_on, out-add}
use Rattle.wt_promise.proofs.Flow.{clash}
use Rattle.wt_promise.proofs.LateTurns.{still-shut}
use Rattle.wt_promise.proofs.SettingsOut.{open-events}
use Rattle.wt_promise.proofs.Stays.{any-newest}
use Rattle.wt_turn.specs.Reports.{end_of, is_connected, is_running}
use Rattle.wt_turn.specs.Log.{Event, closes}
use Rattle.wt_turn.specs.Turns.{event_of}
use Rattle.wt_turn.specs.declared.action.Action.{Action}
use Rattle.wt_turn.specs.declared.turn.Turn.{Turn}
use Rattle.wt_wire.specs.declared.side.Side.{Side}
use Rattle.wt_wire.specs.declared.side.StreamEnd.{StreamEnd}
use Rattle.wt_turn.specs.declared.reply.Reply.TheVariants as replies
use Rattle.wt_turn.specs.declared.turn.Turn.TheVariants as turns
use Rattle.wt_wire.specs.declared.side.StreamEnd.TheVariants as ends

-- ---- the same pairs but for pieces

-- a pair that brings bytes
abbrev pub brought : ℕ → List ℕ → List Action → Pair
brought k piece sent = record { turn = turns.Bytes k piece; answer = record { reply = replies.Done; actions = sent } }

-- the same pairs in the same order, but for those that bring bytes
pub data SamePairs : History → History → Type 0 where
  Nothing : SamePairs [] []
  Left : (k : ℕ) (piece : List ℕ) (sent : List Action) (r h : History) → SamePairs r h → SamePairs (brought k piece sent ∷ r) h
  Right : (k : ℕ) (piece : List ℕ) (sent : List Action) (r h : History) → SamePairs r h → SamePairs r (brought k piece sent ∷ h)
  Both : (p : Pair) (r h : History) → SamePairs r h → SamePairs (p ∷ r) (p ∷ h)

-- what asks nothing of pairs that bring bytes is the same of both
module _ {T : Type 0} (F : History → T) (quiet : (k : ℕ) (piece : List ℕ) (sent : List Action) (h : History) → F (brought k piece sent ∷ h) ≡ F h)
    (both : (p : Pair) (r h : History) → F r ≡ F h → F (p ∷ r) ≡ F (p ∷ h)) where
  pub same : (r h : History) → SamePairs r h → F r ≡ F h
  same r h Nothing = refl
  same r h (Left k piece sent q _ s) = quiet k piece sent q ∙ same q h s
  same r h (Right k piece sent _ g s) = same r g s ∙ sym (quiet k piece sent g)
  same r h (Both p q g s) = both p q g (same q g s)

-- ---- what both say alike

-- these bytes are all that the history has of the stream, or more: what came behind a close in the midst of a piece
pub data Behind (bytes : List ℕ) (h : History) (k : ℕ) : Type 0 where
  All : bytes ≡ contents h k → Behind bytes h k
  More : (rest : List ℕ) → bytes ≡ contents h k ++ rest → is_open h ≡ false → end_of (events h) k ≡ ends.Running → Behind bytes h k

pub record Alike (r h : History) : Type 0 where
  pub pairs : SamePairs r h
  pub ended : list_any ends_by r ≡ list_any ends_by h
  pub came : events r ≡ events h
  pub ever : all_events r ≡ all_events h
  pub bytes : (k : ℕ) → Behind (contents r k) h k
  pub done : (test : Action → Bool) → AnyPiece test → list_any test (actions_out r) ≡ list_any test (actions_out h)
  pub sent : (k : ℕ) → out r k ≡ out h k
  pub begun : is_first h ≡ true → is_first r ≡ true

pub at-first : Alike [] []
at-first = record { pairs = Nothing; ended = refl; came = refl; ever = refl; bytes = λ k. All refl; done = λ test n. refl; sent = λ k. refl; begun = λ e. refl }

-- ---- a piece: the bytes one by one

pub one-of : {T : Type 0} (b : Bool) (x : T) → (if b then x else x) ≡ x
one-of true x = refl
one-of false x = refl

shift : (a b c : Bool) → (b || (a || c)) ≡ ((a || b) || c)
shift true true c = refl
shift true false c = refl
shift false b c = refl

running-is : (end : StreamEnd) → is_running end ≡ true → end ≡ ends.Running
running-is ends.Running e = refl
running-is ends.Fin e = absurd (cc e)
running-is (ends.Reset code) e = absurd (cc e)

-- where the connection came something did
pub connected-later : (h : History) → is_connected (all_events h) ≡ true → is_first h ≡ false
connected-later [] e = absurd (cc e)
connected-later (p ∷ h) e = refl

module _ (side : Side) (id : ℕ) where
  -- the history after one byte
  abbrev byte : History → ℕ → History
  byte h b = step side h (turns.Bytes id (b ∷ []))

  -- what goes out at it
  abbrev sends : History → ℕ → List Action
  sends h b = (next side h (turns.Bytes id (b ∷ []))).actions

  bytes-pairs : (piece : List ℕ) (r h : History) → SamePairs r h → SamePairs r (after_bytes side h id piece)
  bytes-pairs [] r h s = s
  bytes-pairs (b ∷ piece) r h s = bytes-pairs piece r (byte h b) (Right id (b ∷ []) (sends h b) r h s)

  bytes-came : (piece : List ℕ) (h : History) → events (after_bytes side h id piece) ≡ events h
  bytes-came [] h = refl
  bytes-came (b ∷ piece) h = bytes-came piece (byte h b) ∙ one-of (is_open h) (events h)

  bytes-ever : (piece : List ℕ) (h : History) → all_events (after_bytes side h id piece) ≡ all_events h
  bytes-ever [] h = refl
  bytes-ever (b ∷ piece) h = bytes-ever piece (byte h b)

  bytes-ended : (piece : List ℕ) (h : History) → list_any ends_by (after_bytes side h id piece) ≡ (list_any closes (bytes_actions side h id piece) || list_any ends_by h)
  bytes-ended [] h = refl
  bytes-ended (b ∷ piece) h =
      bytes-ended piece (byte h b) ∙ shift (list_any closes (sends h b)) (list_any closes (bytes_actions side (byte h b) id piece)) (list_any ends_by h)
      ∙ ap (λ (x : Bool). x || list_any ends_by h) (sym (any-join_all closes (λ i p q. refl) (sends h b) (bytes_actions side (byte h b) id piece)))

  bytes-done : (test : Action → Bool) → AnyPiece test → (piece : List ℕ) (h : History)
      → list_any test (actions_out (after_bytes side h id piece)) ≡ (list_any test (bytes_actions side h id piece) || list_any test (actions_out h))
  bytes-done test n [] h = refl
  bytes-done test n (b ∷ piece) h =
      bytes-done test n piece (byte h b) ∙ ap (λ (x : Bool). list_any test (bytes_actions side (byte h b) id piece) || x) (any-newest test (sends h b) (actions_out h))
      ∙ shift (list_any test (sends h b)) (list_any test (bytes_actions side (byte h b) id piece)) (list_any test (actions_out h))
      ∙ ap (λ (x : Bool). x || list_any test (actions_out h)) (sym (any-join_all test n (sends h b) (bytes_actions side (byte h b) id piece)))

  bytes-sent : (k : ℕ) (piece : List ℕ) (h : History) → out (after_bytes side h id piece) k ≡ out h k ++ bytes_on k (bytes_actions side h id piece)
  bytes-sent k [] h = sym (append-nil (out h k))
  bytes-sent k (b ∷ piece) h =
      bytes-sent k piece (byte h b) ∙ ap (λ (xs : List ℕ). xs ++ bytes_on k (bytes_actions side (byte h b) id piece)) (out-add (brought id (b ∷ []) (sends h b)) h k)
      ∙ append_assoc (out h k) (bytes_on k (sends h b)) (bytes_on k (bytes_actions side (byte h b) id piece))
      ∙ ap (λ (xs : List ℕ). out h k ++ xs) (sym (bytes-join k (sends h b) (bytes_actions side (byte h b) id piece)))

  bytes-later : (piece : List ℕ) (h : History) → is_first h ≡ false → is_first (after_bytes side h id piece) ≡ false
  bytes-later [] h e = e
  bytes-later (b ∷ piece) h e = bytes-later piece (byte h b) refl

  -- once the connection has ended nothing more counts
  bytes-shut : (piece : List ℕ) (h : History) → is_open h ≡ false → is_open (after_bytes side h id piece) ≡ false
  bytes-shut [] h e = e
  bytes-shut (b ∷ piece) h e = bytes-shut piece (byte h b) (still-shut (brought id (b ∷ []) (sends h b)) h e)

  late-contents : (k : ℕ) (piece : List ℕ) (h : History) → is_open h ≡ false → contents (after_bytes side h id piece) k ≡ contents h k
  late-contents k [] h e = refl
  late-contents k (b ∷ piece) h e = late-contents k piece (byte h b) (still-shut (brought id (b ∷ []) (sends h b)) h e) ∙ rw e refl

  other-contents : (k : ℕ) (piece : List ℕ) (h : History) → (id == k) ≡ false → contents (after_bytes side h id piece) k ≡ contents h k
  other-contents k [] h e = refl
  other-contents k (b ∷ piece) h e = other-contents k piece (byte h b) e ∙ rw e (one-of (is_open h) (contents h k))

  -- the bytes of the stream itself, up to a close
  own-contents : (piece : List ℕ) (h : History) → is_open h ≡ true → end_of (events h) id ≡ ends.Running → Behind (contents h id ++ piece) (after_bytes side h id piece) id
  own-contents [] h o e = All (append-nil (contents h id))
  own-contents (b ∷ piece) h o e = by (is_open (byte h b)) refl (own-contents piece (byte h b))
    where
      one : contents (byte h b) id ≡ contents h id ++ b ∷ []
      one = rw (o, eq-eqb id id refl) refl

      whole : contents h id ++ b ∷ piece ≡ contents (byte h b) id ++ piece
      whole = sym (append_assoc (contents h id) (b ∷ []) piece) ∙ ap (λ (xs : List ℕ). xs ++ piece) (sym one)

      by : (x : Bool) → is_open (byte h b) ≡ x
          → (is_open (byte h b) ≡ true → end_of (events (byte h b)) id ≡ ends.Running → Behind (contents (byte h b) id ++ piece) (after_bytes side (byte h b) id piece) id)
          → Behind (contents h id ++ b ∷ piece) (after_bytes side (byte h b) id piece) id
      by true q again =
          rw whole (again q (ap (λ (es : List Event). end_of es id) (one-of (is_open h) (events h)) ∙ e))
      by false q again =
          More piece (whole ∙ ap (λ (xs : List ℕ). xs ++ piece) (sym (late-contents id piece (byte h b) q))) (bytes-shut piece (byte h b) q)
          (ap (λ (es : List Event). end_of es id) (bytes-came piece (byte h b) ∙ one-of (is_open h) (events h)) ∙ e)

-- ---- a turn more on both

-- what is the same of a longer history
carried : (bytes : List ℕ) (h g : History) (k : ℕ) → contents g k ≡ contents h k → (is_open h ≡ false → (is_open g ≡ false) × (events g ≡ events h)) → Behind bytes h k → Behind bytes g k
carried bytes h g k c f (All e) = All (e ∙ sym c)
carried bytes h g k c f (More rest e o r) =
    let x = f o in More rest (e ∙ ap (λ (xs : List ℕ). xs ++ rest) (sym c)) x.0 (ap (λ (es : List Event). end_of es k) x.1 ∙ r)

-- while the connection is open both have all
pub whole : (bytes : List ℕ) (h : History) (k : ℕ) → is_open h ≡ true → Behind bytes h k → bytes ≡ contents h k
whole bytes h k o (All e) = e
whole bytes h k o (More rest e c r) = absurd (clash (is_open h) o c)

pub open-alike : (r h : History) → Alike r h → is_open r ≡ is_open h
open-alike r h a = ap (λ (b : Bool). not b) a.ended

module _ (side : Side) (id : ℕ) (piece : List ℕ) where
  pub alike-piece : (r h : History) → is_lawful side h (turns.Bytes id piece) ≡ true → Alike r h → Alike (brought id piece (bytes_actions side h id piece) ∷ r) (after_bytes side h id piece)
  alike-piece r h l a = record {
    pairs = Left id piece sent r (after_bytes side h id piece) (bytes-pairs side id piece r h a.pairs);
    ended = ap (λ (x : Bool). list_any closes sent || x) a.ended ∙ sym (bytes-ended side id piece h);
    came = one-of (is_open r) (events r) ∙ a.came ∙ sym (bytes-came side id piece h);
    ever = a.ever ∙ sym (bytes-ever side id piece h);
    bytes = λ k. by k (id == k) refl (is_open h) refl;
    done = λ test n. any-newest test sent (actions_out r) ∙ ap (λ (x : Bool). list_any test sent || x) (a.done test n) ∙ sym (bytes-done side id test n piece h);
    sent = λ k. out-add (brought id piece sent) r k ∙ ap (λ (xs : List ℕ). xs ++ bytes_on k sent) (a.sent k) ∙ sym (bytes-sent side id k piece h);
    begun = λ e. absurd (clash (is_first (after_bytes side h id piece)) e (bytes-later side id piece h (connected-later h (and-left (is_connected (all_events h)) (not (is_lost h)) (and-left (is_connected (all_events h) && not (is_lost h)) _ l)))));
  }
    where
      sent : List Action
      sent = bytes_actions side h id piece

      later : is_open h ≡ false → (is_open (after_bytes side h id piece) ≡ false) × (events (after_bytes side h id piece) ≡ events h)
      later o = (bytes-shut side id piece h o, bytes-came side id piece h)

      runs : is_open h ≡ true → end_of (events h) id ≡ ends.Running
      runs o = running-is (end_of (events h) id) (ap (λ (es : List Event). is_running (end_of es id)) (open-events h o)
          ∙ and-right (can_receive side h id) (is_running (end_of (all_events h) id)) (and-right (is_connected (all_events h) && not (is_lost h)) (can_receive side h id && is_running (end_of (all_events h) id)) (and-3 l)))
        where
          and-3 : (is_connected (all_events h) && not (is_lost h) && (can_receive side h id && is_running (end_of (all_events h) id))) ≡ true
              → ((is_connected (all_events h) && not (is_lost h)) && (can_receive side h id && is_running (end_of (all_events h) id))) ≡ true
          and-3 e = e

      by : (k : ℕ) (c : Bool) → (id == k) ≡ c → (o : Bool) → is_open h ≡ o → Behind (if is_open r then (if id == k then contents r k ++ piece else contents r k) else contents r k) (after_bytes side h id piece) k
      by k false e o q = rw (e, one-of (is_open r) (contents r k)) (carried (contents r k) h (after_bytes side h id piece) k (other-contents side id k piece h e) later (a.bytes k))
      by k true e false q = rw (open-alike r h a, q) (carried (contents r k) h (after_bytes side h id piece) k (late-contents side id k piece h q) later (a.bytes k))
      by k true e true q =
          rw (open-alike r h a, q, e) (subst (λ (j : ℕ). Behind (contents r j ++ piece) (after_bytes side h id piece) j) (eqb-true id k e)
          (rw (whole (contents r id) h id q (a.bytes id)) (own-contents side id piece h q (runs q))))

-- the turn brings no bytes
abbrev pub is-piece : Turn → Bool
is-piece (turns.Bytes id piece) = true
is-piece _ = false

with-none : (k : ℕ) (turn : Turn) (bytes : List ℕ) → is-piece turn ≡ false → with_bytes k turn bytes ≡ bytes
with-none k (turns.Bytes id piece) bytes e = absurd (cc e)
with-none k turn bytes e = refl

pub same-contents : (p : Pair) (h : History) (k : ℕ) → is-piece p.turn ≡ false → contents (p ∷ h) k ≡ contents h k
same-contents p h k e = ap (λ (xs : List ℕ). if is_open h then xs else contents h k) (with-none k p.turn (contents h k) e) ∙ one-of (is_open h) (contents h k)

pub alike-turn : (p : Pair) (r h : History) → is-piece p.turn ≡ false → Alike r h → Alike (p ∷ r) (p ∷ h)
alike-turn p r h e a = record {
  pairs = Both p r h a.pairs;
  ended = ap (λ (x : Bool). ends_by p || x) a.ended;
  came =
      ap (λ (b : Bool). if b then with_event (event_of p.turn) (events r) else events r) (open-alike r h a)
      ∙ ap (λ (es : List Event). if is_open h then with_event (event_of p.turn) es else es) a.came;
  ever = ever (event_of p.turn) refl;
  bytes = λ k. rw (same-contents p r k e) (carried (contents r k) h (p ∷ h) k (same-contents p h k e) (λ o. (still-shut p h o, rw o refl)) (a.bytes k));
  done = λ test n. any-newest test p.answer.actions (actions_out r) ∙ ap (λ (x : Bool). list_any test p.answer.actions || x) (a.done test n) ∙ sym (any-newest test p.answer.actions (actions_out h));
  begun = λ e. absurd (cc e);
  sent = λ k. out-add p r k ∙ ap (λ (xs : List ℕ). xs ++ bytes_on k p.answer.actions) (a.sent k) ∙ sym (out-add p h k);
}
  where
    ever : (o : Option Event) → event_of p.turn ≡ o → all_events (p ∷ r) ≡ all_events (p ∷ h)
    ever None q = rw q a.ever
    ever (Some x) q = rw q (ap (λ (es : List Event). x ∷ es) a.ever)

-- the answers of a list: a turn more on both
pub alike-after : (side : Side) (turn : Turn) (r h : History) → is_lawful side h turn ≡ true → Alike r h → Alike (with_pair r turn (answer_to side h turn)) (history_after side h turn)
alike-after side (turns.Bytes id piece) r h l a = alike-piece side id piece r h l a
alike-after side turn r h l a = alike-turn (record { turn = turn; answer = next side h turn }) r h refl a
