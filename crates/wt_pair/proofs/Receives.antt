-- What a turn leaves at the end that takes it: contents, ends and openings of streams.
use Rattle.std.specs.Prelude.{[], ◌++◌, ◌==◌, ◌∷◌, ◌≡◌, ◌⊎◌, Bool, List, None, Option, Some, false, if◌then◌else◌, map, true, unwrap_or, ℕ}
use Rattle.std.specs.Option.{option_or}
use Rattle.std.proofs.Common.{◌∙◌, ap, append_assoc, inl, inr, refl, subst, sym}
use Rattle.std.proofs.lemmas.Bool.{eq-eqb, eqb-true}
use Rattle.std.proofs.lemmas.List.{append-nil}
use Rattle.wt_meaning.specs.History.{History, Pair, all_events, contents, is_open, with_bytes}
use Rattle.wt_meaning.specs.Meaning.{after_bytes, history_after, next, step}
use Rattle.wt_pair.proofs.Marks.{any_ends, bytes-map, bytes_marked, none-marked}
use Rattle.wt_pair.proofs.Views.{ABi, AConnection, ADatagram, ALoss, APiece, AReset, AStop, AUni, AnAck, AnEnd, IsItem}
use Rattle.wt_pair.specs.declared.event.PairFacts.{PairFacts}
use Rattle.wt_pair.specs.Pair.{gives_credit}
use Rattle.wt_pair.specs.Streams.{Byte, Ends, Mark, Opens, marks_if, named_marks}
use Rattle.wt_promise.proofs.Flow.{clash}
use Rattle.wt_promise.proofs.LateTurns.{still-shut}
use Rattle.wt_promise.proofs.Opened.{open-before}
use Rattle.wt_turn.specs.Reports.{end_of, end_reported, if_same, is_running}
use Rattle.wt_turn.specs.Log.{Event, newest}
use Rattle.wt_turn.specs.declared.call.Call.{Call}
use Rattle.wt_turn.specs.declared.turn.Turn.{Turn}
use Rattle.wt_wire.specs.declared.side.Side.{Side}
use Rattle.wt_wire.specs.declared.side.StreamEnd.{StreamEnd}
use Rattle.wt_turn.specs.declared.turn.Turn.TheVariants as turns
use Rattle.wt_wire.specs.declared.side.StreamEnd.TheVariants as ends

-- ---- bytes, one after another

-- the pair of one byte
abbrev one : Side → ℕ → ℕ → History → Pair
one side k b h = record { turn = turns.Bytes k (b ∷ []); answer = next side h (turns.Bytes k (b ∷ [])) }

pub bytes-open : (side : Side) (k : ℕ) (piece : List ℕ) (h : History) → is_open (after_bytes side h k piece) ≡ true → is_open h ≡ true
bytes-open side k [] h e = e
bytes-open side k (b ∷ piece) h e = let o = bytes-open side k piece (step side h (turns.Bytes k (b ∷ []))) e in open-before (one side k b h) h o

pub bytes-events : (side : Side) (k : ℕ) (piece : List ℕ) (h : History) → all_events (after_bytes side h k piece) ≡ all_events h
bytes-events side k [] h = refl
bytes-events side k (b ∷ piece) h = bytes-events side k piece (step side h (turns.Bytes k (b ∷ [])))

-- after the end nothing is added
bytes-shut : (side : Side) (k j : ℕ) (piece : List ℕ) (h : History) → is_open h ≡ false → contents (after_bytes side h k piece) j ≡ contents h j
bytes-shut side k j [] h o = refl
bytes-shut side k j (b ∷ piece) h o =
    bytes-shut side k j piece (step side h (turns.Bytes k (b ∷ []))) (still-shut (one side k b h) h o) ∙ ap (λ (x : Bool). if x then with_bytes j (turns.Bytes k (b ∷ [])) (contents h j) else contents h j) o

pub bytes-other : (side : Side) (k j : ℕ) (piece : List ℕ) (h : History) → (k == j) ≡ false → contents (after_bytes side h k piece) j ≡ contents h j
bytes-other side k j [] h n = refl
bytes-other side k j (b ∷ piece) h n = bytes-other side k j piece (step side h (turns.Bytes k (b ∷ []))) n ∙ by (is_open h)
  where
    by : (x : Bool) → (if x then (if k == j then contents h j ++ b ∷ [] else contents h j) else contents h j) ≡ contents h j
    by true = ap (λ (y : Bool). if y then contents h j ++ b ∷ [] else contents h j) n
    by false = refl

pub record BytesCame (side : Side) (h : History) (k : ℕ) (piece : List ℕ) : Type 0 where
  pub came : List ℕ
  pub rest : List ℕ
  pub parts : came ++ rest ≡ piece
  pub here : contents (after_bytes side h k piece) k ≡ contents h k ++ came
  pub whole : is_open (after_bytes side h k piece) ≡ true → rest ≡ []
  pub shut : is_open h ≡ false → came ≡ []

pub bytes-came : (side : Side) (k : ℕ) (piece : List ℕ) (h : History) → BytesCame side h k piece
bytes-came side k [] h = record { came = []; rest = []; parts = refl; here = sym (append-nil (contents h k)); whole = λ e. refl; shut = λ e. refl }
bytes-came side k (b ∷ piece) h = by (is_open h) refl (bytes-came side k piece later)
  where
    later : History
    later = step side h (turns.Bytes k (b ∷ []))

    by : (o : Bool) → is_open h ≡ o → BytesCame side later k piece → BytesCame side h k (b ∷ piece)
    by true q r = record {
      came = b ∷ r.came;
      rest = r.rest;
      parts = ap (λ (l : List ℕ). b ∷ l) r.parts;
      here = r.here ∙ ap (λ (l : List ℕ). l ++ r.came) (ap (λ (x : Bool). if x then (if k == k then contents h k ++ b ∷ [] else contents h k) else contents h k) q
          ∙ ap (λ (x : Bool). if x then contents h k ++ b ∷ [] else contents h k) (eq-eqb k k refl)) ∙ append_assoc (contents h k) (b ∷ []) r.came;
      whole = r.whole;
      shut = λ e. absurd (clash (is_open h) q e);
    }
    by false q r = record {
      came = [];
      rest = b ∷ piece;
      parts = refl;
      here = bytes-shut side k k (b ∷ piece) h q ∙ sym (append-nil (contents h k));
      whole = λ e. absurd (clash (is_open h) (bytes-open side k (b ∷ piece) h e) q);
      shut = λ e. refl;
    }

-- ---- a turn

-- these marks of a stream came
pub record Receives (h later : History) (k : ℕ) (marks : List Mark) : Type 0 where
  pub before : is_open later ≡ true → is_open h ≡ true
  pub came : List ℕ
  pub rest : List ℕ
  pub parts : came ++ rest ≡ bytes_marked marks
  pub here : contents later k ≡ contents h k ++ came
  pub whole : is_open later ≡ true → rest ≡ []
  pub shut : is_open h ≡ false → came ≡ []
  pub ended : is_running (end_of (all_events later) k) ≡ false → (is_running (end_of (all_events h) k) ≡ false) ⊎ (any_ends marks ≡ true)

-- a turn that brings no bytes
single : (p : Pair) (h : History) (k : ℕ) (marks : List Mark) → with_bytes k p.turn (contents h k) ≡ contents h k → bytes_marked marks ≡ []
    → (is_running (end_of (all_events (p ∷ h)) k) ≡ false → (is_running (end_of (all_events h) k) ≡ false) ⊎ (any_ends marks ≡ true)) → Receives h (p ∷ h) k marks
single p h k marks s b e = record {
  before = open-before p h;
  came = [];
  rest = [];
  parts = sym b;
  here = by (is_open h) ∙ sym (append-nil (contents h k));
  whole = λ o. refl;
  shut = λ o. refl;
  ended = e;
}
  where
    by : (x : Bool) → (if x then with_bytes k p.turn (contents h k) else contents h k) ≡ contents h k
    by true = s
    by false = refl

none-of : (m : Mark) → bytes_marked (m ∷ []) ≡ [] → (b : Bool) → bytes_marked (marks_if b (m ∷ [])) ≡ []
none-of m e true = e
none-of m e false = refl

module _ (f : PairFacts) (side : Side) (h : History) (k : ℕ) where
  piece-received : (id : ℕ) (piece : List ℕ) (b : Bool) → (id == k) ≡ b → Receives h (after_bytes side h id piece) k (marks_if b (map Byte piece))
  piece-received id piece true q = subst (λ (j : ℕ). Receives h (after_bytes side h id piece) j (map Byte piece)) (eqb-true id k q) (let r = bytes-came side id piece h in record {
    before = bytes-open side id piece h;
    came = r.came;
    rest = r.rest;
    parts = r.parts ∙ sym (bytes-map piece);
    here = r.here;
    whole = r.whole;
    shut = r.shut;
    ended = λ e. inl (ap (λ (es : List Event). is_running (end_of es id)) (sym (bytes-events side id piece h)) ∙ e);
  })
  piece-received id piece false q = record {
    before = bytes-open side id piece h;
    came = [];
    rest = [];
    parts = refl;
    here = bytes-other side id k piece h q ∙ sym (append-nil (contents h k));
    whole = λ o. refl;
    shut = λ o. refl;
    ended = λ e. inl (ap (λ (es : List Event). is_running (end_of es k)) (sym (bytes-events side id piece h)) ∙ e);
  }

  -- an end of one stream
  end-received : (id : ℕ) (how : StreamEnd) (b : Bool) → (id == k) ≡ b → is_running (unwrap_or (option_or (if_same id k how) (newest (end_reported k) (all_events h))) ends.Running) ≡ false
      → (is_running (end_of (all_events h) k) ≡ false) ⊎ (any_ends (marks_if b (Ends ∷ [])) ≡ true)
  end-received id how true q e = inr refl
  end-received id how false q e = inl (ap (λ (b : Bool). is_running (unwrap_or (option_or (if b then Some how else None) (newest (end_reported k) (all_events h))) ends.Running)) (sym q) ∙ e)

  pub item-received : (o : Option ℕ) (turn : Turn) → IsItem f o turn → Receives h (history_after side h turn) k (named_marks k o turn)
  item-received o turn (AUni id v) = single _ h k _ refl (none-of Opens refl (id == k)) inl
  item-received o turn (ABi id v) = single _ h k _ refl (none-of Opens refl (id == k)) inl
  item-received o turn (APiece id piece) = piece-received id piece (id == k) refl
  item-received o turn (AnEnd id) = single _ h k _ refl (none-of Ends refl (id == k)) (λ e. end-received id ends.Fin (id == k) refl e)
  item-received o turn (AReset id code) = single _ h k _ refl (none-of Ends refl (id == k)) (λ e. end-received id (ends.Reset code) (id == k) refl e)
  item-received o turn (AStop id code) = single _ h k _ refl (ap bytes_marked (none-marked (id == k))) inl
  item-received o turn (AnAck id) = single _ h k _ refl (ap bytes_marked (none-marked (id == k))) inl
  item-received o turn (ADatagram piece) = single _ h k _ refl refl inl
  item-received o turn (ALoss reason) = single _ h k _ refl refl inl
  item-received o turn AConnection = single _ h k _ refl refl inl

  pub call-received : (call : Call) → Receives h (history_after side h (turns.Call call)) k []
  call-received call = single _ h k _ refl refl inl

  pub credit-received : (turn : Turn) → gives_credit turn ≡ true → Receives h (history_after side h turn) k []
  credit-received (turns.MaxUni total) e = single _ h k _ refl refl inl
  credit-received (turns.MaxBi total) e = single _ h k _ refl refl inl
  credit-received (turns.MaxData id total) e = single _ h k _ refl refl inl
  credit-received turn e = absurd (cc e)
