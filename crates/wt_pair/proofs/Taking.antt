-- An item is taken: what it leaves of what waits, and what its turn leaves at the end.
use Rattle.std.specs.Prelude.{[], ◌%◌, ◌&&◌, ◌++◌, ◌+◌, ◌/◌, ◌==◌, ◌^◌, ◌∷◌, ◌||◌, ◌≡◌, ◌⊎◌, Bool, List, None, Option, Some, drop, false, flat_map, if◌then◌else◌, length, map, nat_le, nat_lt, not, suc, take, true, ℕ}
use Rattle.std.specs.List.{list_any}
use Rattle.std.proofs.Common.{◌∙◌, ap, arith, inl, inr, refl, sym}
use Rattle.std.proofs.lemmas.Bool.{eq-eqb, eqb-false, eqb-true}
use Rattle.std.proofs.lemmas.List.{append-nil, map-append, take-append-drop}
use Rattle.std.proofs.Math.Seq.{take-length}
use Rattle.std.proofs.lemmas.List.Folds.{list_any-append}
use Rattle.wt_meaning.specs.History.{History, Pair, actions_out, all_events}
use Rattle.wt_meaning.specs.Lawful.{has_begun, is_lawful, is_lost}
use Rattle.wt_meaning.specs.Meaning.{after_bytes, history_after, next, step}
use Rattle.wt_meaning.specs.Moments.{ids_from}
use Rattle.wt_pair.proofs.Counts.{none-of-peers}
use Rattle.wt_pair.proofs.Formed.{is_own, opens-emitted}
use Rattle.wt_pair.proofs.Held.{Held, Kind, Left, Takes, any_connects, fits, ids-at}
use Rattle.wt_pair.proofs.Marks.{item_opens, named_opens}
use Rattle.wt_pair.proofs.Receives.{bytes-events, call-received, credit-received, item-received}
use Rattle.wt_pair.proofs.StreamLaws.{item, left-marks}
use Rattle.wt_pair.proofs.Views.{ABi, AConnection, ADatagram, ALoss, APiece, AReset, AStop, AUni, AnAck, AnEnd, AreItems, IsItem, bi-before, items-left, split-at, uni-before, view-first, view-same, view-taken}
use Rattle.wt_pair.specs.declared.event.PairFacts.{PairFacts}
use Rattle.wt_pair.specs.Link.{connects, first_of, is_before, is_first, item_at, left_of, taken_at}
use Rattle.wt_pair.specs.declared.item.Item.{Item}
use Rattle.wt_pair.specs.Pair.{gives_credit, other}
use Rattle.wt_pair.specs.Streams.{item_marks, marks_if}
use Rattle.wt_promise.proofs.Accepted.{or-first, or-true}
use Rattle.wt_promise.proofs.MomentActs.{or-either}
use Rattle.wt_promise.proofs.Prefixes.{turn-history}
use Rattle.wt_promise.proofs.Stays.{any-newest}
use Rattle.wt_promise.specs.Promise.{IsHistory}
use Rattle.wt_turn.specs.Reports.{is_connected}
use Rattle.wt_turn.specs.Sent.{dials}
use Rattle.wt_turn.specs.Streams.{local_count, one_more_if, peer_bi, peer_count, peer_uni}
use Rattle.wt_turn.specs.declared.call.Call.{Call}
use Rattle.wt_turn.specs.declared.turn.Turn.{Turn}
use Rattle.wt_turn.specs.Log.{Event}
use Rattle.wt_wire.specs.Ids.{is_bidirectional}
use Rattle.wt_wire.specs.declared.side.Side.{Side}
use Rattle.wt_wire.specs.declared.side.Side.TheVariants.{Client, Server}
use Rattle.wt_turn.specs.declared.turn.Turn.TheVariants as turns

-- ---- what is left

-- of what is left, nothing connects and nothing opens
left-opens : (kind n : ℕ) (o : Option ℕ) (t : Turn) → flat_map (item_opens kind) (left_of n o t) ≡ []
left-opens kind n o (turns.Bytes id piece) = by o (n == length piece)
  where
    by : (p : Option ℕ) (c : Bool) → flat_map (item_opens kind) (if c then [] else item p (turns.Bytes id (drop n piece)) ∷ []) ≡ []
    by p true = refl
    by None false = refl
    by (Some j) false = refl
left-opens kind n o t = refl

first-opens : (kind n : ℕ) (o : Option ℕ) (t : Turn) → named_opens kind o (first_of n t) ≡ named_opens kind o t
first-opens kind n None t = refl
first-opens kind n (Some j) (turns.Bytes id piece) = refl
first-opens kind n (Some j) t = refl

left-connects : (n : ℕ) (o : Option ℕ) (t : Turn) → any_connects (left_of n o t) ≡ false
left-connects n o (turns.Bytes id piece) = by (n == length piece)
  where
    by : (c : Bool) → any_connects (if c then [] else item o (turns.Bytes id (drop n piece)) ∷ []) ≡ false
    by true = refl
    by false = refl
left-connects n o t = refl

left-items : (f : PairFacts) (n : ℕ) (o : Option ℕ) (t : Turn) → IsItem f o t → AreItems f (left_of n o t)
left-items f n o t (APiece id piece) = by (n == length piece)
  where
    by : (c : Bool) → AreItems f (if c then [] else item (Some id) (turns.Bytes id (drop n piece)) ∷ [])
    by true = tt
    by false = (APiece id (drop n piece), tt)
left-items f n o t (AUni id v) = tt
left-items f n o t (ABi id v) = tt
left-items f n o t (AnEnd id) = tt
left-items f n o t (AReset id code) = tt
left-items f n o t (AStop id code) = tt
left-items f n o t (AnAck id) = tt
left-items f n o t (ADatagram piece) = tt
left-items f n o t (ALoss reason) = tt
left-items f n o t AConnection = tt

-- what is taken is an item too
pub first-item : (f : PairFacts) (n : ℕ) (o : Option ℕ) (t : Turn) → IsItem f o t → IsItem f o (first_of n t)
first-item f n o t (APiece id piece) = APiece id (take n piece)
first-item f n o t (AUni id v) = AUni id v
first-item f n o t (ABi id v) = ABi id v
first-item f n o t (AnEnd id) = AnEnd id
first-item f n o t (AReset id code) = AReset id code
first-item f n o t (AStop id code) = AStop id code
first-item f n o t (AnAck id) = AnAck id
first-item f n o t (ADatagram piece) = ADatagram piece
first-item f n o t (ALoss reason) = ALoss reason
first-item f n o t AConnection = AConnection

-- what is left connects only where it did
less : (w : List Item) (place : ℕ) (x : Item) (left : List Item) → item_at w place ≡ Some x → any_connects left ≡ false → any_connects (taken_at w place left) ≡ true → any_connects w ≡ true
less w place x left at none q =
    ap any_connects (split-at w place x at) ∙ list_any-append test (take place w) (x ∷ drop (suc place) w)
    ∙ or-either {P = (any_connects (take place w) || (connects x.turn || any_connects (drop (suc place) w))) ≡ true} (any_connects (take place w ++ left)) (any_connects (drop (suc place) w)) (sym (list_any-append test (take place w ++ left) (drop (suc place) w)) ∙ q)
    (λ y. ap (λ (b : Bool). b || (connects x.turn || any_connects (drop (suc place) w))) (front y))
    (λ y. ap (λ (b : Bool). any_connects (take place w) || (connects x.turn || b)) y ∙ ap (λ (b : Bool). any_connects (take place w) || b) (or-true (connects x.turn)) ∙ or-true (any_connects (take place w)))
  where
    test : Item → Bool
    test y = connects y.turn

    front : any_connects (take place w ++ left) ≡ true → any_connects (take place w) ≡ true
    front y = or-first (any_connects (take place w)) (any_connects left) (sym (list_any-append test (take place w) left) ∙ y) none

pub any-at : (w : List Item) (place : ℕ) (x : Item) → item_at w place ≡ Some x → connects x.turn ≡ true → any_connects w ≡ true
any-at w place x at c =
    ap any_connects (split-at w place x at) ∙ list_any-append (λ (y : Item). connects y.turn) (take place w) (x ∷ drop (suc place) w)
    ∙ ap (λ (b : Bool). any_connects (take place w) || (b || any_connects (drop (suc place) w))) c ∙ or-true (any_connects (take place w))

-- a datagram that is lost leaves each view as it was
pub left-lost : (f : PairFacts) (w : List Item) (place : ℕ) (piece : List ℕ) → item_at w place ≡ Some (item None (turns.Datagram piece)) → AreItems f w → Left f w (taken_at w place []) None (turns.Datagram piece)
left-lost f w place piece at all = record {
  items = items-left f w place [] all tt;
  marks = λ k. view-same (item_marks k) w place (item None (turns.Datagram piece)) [] at refl;
  opens = λ kind. view-same (item_opens kind) w place (item None (turns.Datagram piece)) [] at refl;
  connects_less = less w place (item None (turns.Datagram piece)) [] at refl;
}

module _ (f : PairFacts) (w : List Item) (place n : ℕ) (o : Option ℕ) (t : Turn) (at : item_at w place ≡ Some (item o t)) (i : IsItem f o t) (all : AreItems f w) (first : is_first w place (item o t) ≡ true) where
  abbrev more : List Item
  more = taken_at w place (left_of n o t)

  left-opened : (kind : ℕ) → flat_map (item_opens kind) w ≡ named_opens kind o (first_of n t) ++ flat_map (item_opens kind) more
  left-opened kind = by o t i refl refl
    where
      parts : named_opens kind o t ≡ named_opens kind o (first_of n t) ++ flat_map (item_opens kind) (left_of n o t)
      parts = sym (first-opens kind n o t) ∙ sym (append-nil (named_opens kind o (first_of n t))) ∙ ap (λ (l : List ℕ). named_opens kind o (first_of n t) ++ l) (sym (left-opens kind n o t))

      Goal : Type 0
      Goal = flat_map (item_opens kind) w ≡ named_opens kind o (first_of n t) ++ flat_map (item_opens kind) more

      still : named_opens kind o t ≡ [] → Goal
      still z =
          view-same (item_opens kind) w place (item o t) (left_of n o t) at (z ∙ sym (left-opens kind n o t)) ∙ ap (λ (l : List ℕ). l ++ flat_map (item_opens kind) more) (sym (first-opens kind n o t ∙ z))

      opening : ((y : Item) → IsItem f y.stream y.turn → is_before y (item o t) ≡ false → item_opens kind y ≡ []) → Goal
      opening each = view-taken (item_opens kind) w place (item o t) (named_opens kind o (first_of n t)) (left_of n o t) at (view-first (item_opens kind) f (item o t) each w place all first) parts

      none : (p : Option ℕ) (u : Turn) → o ≡ p → t ≡ u → named_opens kind p u ≡ [] → named_opens kind o t ≡ []
      none p u x y z = ap (λ (a : Option ℕ). named_opens kind a t) x ∙ ap (named_opens kind p) y ∙ z

      by : (p : Option ℕ) (u : Turn) → IsItem f p u → o ≡ p → t ≡ u → Goal
      by p u (AUni j v) x y = of (j % 4 == kind) refl
        where
          of : (b : Bool) → (j % 4 == kind) ≡ b → Goal
          of true r = opening (λ z g b. ap (λ (m : ℕ). item_opens m z) (sym (eqb-true (j % 4) kind r)) ∙ uni-before f j (item o t) z y v g b)
          of false r = still (none p u x y (ap (λ (b : Bool). marks_if b (j ∷ [])) r))
      by p u (ABi j v) x y = of (j % 4 == kind) refl
        where
          of : (b : Bool) → (j % 4 == kind) ≡ b → Goal
          of true r = opening (λ z g b. ap (λ (m : ℕ). item_opens m z) (sym (eqb-true (j % 4) kind r)) ∙ bi-before f j (item o t) z y v g b)
          of false r = still (none p u x y (ap (λ (b : Bool). marks_if b (j ∷ [])) r))
      by p u (APiece id piece) x y = still (none p u x y refl)
      by p u (AnEnd id) x y = still (none p u x y refl)
      by p u (AReset id code) x y = still (none p u x y refl)
      by p u (AStop id code) x y = still (none p u x y refl)
      by p u (AnAck id) x y = still (none p u x y refl)
      by p u (ADatagram piece) x y = still (none p u x y refl)
      by p u (ALoss reason) x y = still (none p u x y refl)
      by p u AConnection x y = still (none p u x y refl)

  pub left-there : Left f w more o (first_of n t)
  left-there = record { items = items-left f w place (left_of n o t) all (left-items f n o t i); marks = left-marks w place n o t at first; opens = left-opened; connects_less = less w place (item o t) (left_of n o t) at (left-connects n o t) }

-- ---- what the turn leaves

begun-pair : (e : Side) (p : Pair) (h : History) → has_begun e h ≡ true → has_begun e (p ∷ h) ≡ true
begun-pair Server p h b = refl
begun-pair Client p h b = any-newest dials p.answer.actions (actions_out h) ∙ ap (λ (x : Bool). list_any dials p.answer.actions || x) b ∙ or-true (list_any dials p.answer.actions)

begun-bytes : (e : Side) (k : ℕ) (piece : List ℕ) (h : History) → has_begun e h ≡ true → has_begun e (after_bytes e h k piece) ≡ true
begun-bytes e k [] h b = b
begun-bytes e k (x ∷ piece) h b = begun-bytes e k piece (step e h (turns.Bytes k (x ∷ []))) (begun-pair e (record { turn = turns.Bytes k (x ∷ []); answer = next e h (turns.Bytes k (x ∷ [])) }) h b)

begun-turn : (e : Side) (h : History) (turn : Turn) → has_begun e h ≡ true → has_begun e (history_after e h turn) ≡ true
begun-turn e h (turns.Bytes id piece) b = begun-bytes e id piece h b
begun-turn e h turn b = begun-pair e (record { turn = turn; answer = next e h turn }) h b

-- the opening that a turn brings is of a kind of the peer
abbrev pub OfKind : Side → Option ℕ → Turn → Type 0
OfKind e (Some j) turns.PeerUni = j % 4 ≡ peer_uni e
OfKind e (Some j) turns.PeerBi = j % 4 ≡ peer_bi e
OfKind e o turn = Unit {0}

one-more : (a j kind n : ℕ) → j % 4 ≡ a → one_more_if (a == kind) n ≡ n + length (marks_if (j % 4 == kind) (j ∷ []))
one-more a j kind n s = ap (λ (m : ℕ). one_more_if (m == kind) n) (sym s) ∙ by (j % 4 == kind)
  where
    by : (b : Bool) → one_more_if b n ≡ n + length (marks_if b (j ∷ []))
    by true = refl
    by false = omega arith

module _ (f : PairFacts) (e : Side) (h : History) (i : IsHistory e h) where
  fits-of : (a b c x y z : Bool) → (a && b && c && x && y && z) ≡ true → (x && y && z) ≡ true
  fits-of true true true x y z q = q
  fits-of false b c x y z q = absurd (cc q)
  fits-of true false c x y z q = absurd (cc q)
  fits-of true true false x y z q = absurd (cc q)

  counts-same : (n : ℕ) → n ≡ n + 0
  counts-same n = omega arith

  pub item-takes : (o : Option ℕ) (turn : Turn) → IsItem f o turn → is_lawful e h turn ≡ true → OfKind e o turn → Takes f e h (history_after e h turn) o turn
  item-takes o turn g l k = record {
    own = turn-history e h turn i l;
    marks = λ j. item-received f e h j o turn g;
    counts = λ kind. counts kind o turn g k;
    begun = begun-turn e h turn;
    stays = stays o turn g;
    linked = linked o turn g;
    fit = fit o turn g l;
  }
    where
      counts : (kind : ℕ) (p : Option ℕ) (t : Turn) → IsItem f p t → OfKind e p t → peer_count e (all_events (history_after e h t)) kind ≡ peer_count e (all_events h) kind + length (named_opens kind p t)
      counts kind p t (AUni j v) q = one-more (peer_uni e) j kind (peer_count e (all_events h) kind) q
      counts kind p t (ABi j v) q = one-more (peer_bi e) j kind (peer_count e (all_events h) kind) q
      counts kind p t (APiece id piece) q = ap (λ (es : List Event). peer_count e es kind) (bytes-events e id piece h) ∙ counts-same (peer_count e (all_events h) kind)
      counts kind p t (AnEnd id) q = counts-same (peer_count e (all_events h) kind)
      counts kind p t (AReset id code) q = counts-same (peer_count e (all_events h) kind)
      counts kind p t (AStop id code) q = counts-same (peer_count e (all_events h) kind)
      counts kind p t (AnAck id) q = counts-same (peer_count e (all_events h) kind)
      counts kind p t (ADatagram piece) q = counts-same (peer_count e (all_events h) kind)
      counts kind p t (ALoss reason) q = counts-same (peer_count e (all_events h) kind)
      counts kind p t AConnection q = counts-same (peer_count e (all_events h) kind)

      stays : (p : Option ℕ) (t : Turn) → IsItem f p t → is_connected (all_events h) ≡ true → is_connected (all_events (history_after e h t)) ≡ true
      stays p t (APiece id piece) q = ap is_connected (bytes-events e id piece h) ∙ q
      stays p t (AUni j v) q = q
      stays p t (ABi j v) q = q
      stays p t (AnEnd id) q = q
      stays p t (AReset id code) q = q
      stays p t (AStop id code) q = q
      stays p t (AnAck id) q = q
      stays p t (ADatagram piece) q = q
      stays p t (ALoss reason) q = q
      stays p t AConnection q = refl

      linked : (p : Option ℕ) (t : Turn) → IsItem f p t → connects t ≡ true → is_connected (all_events (history_after e h t)) ≡ true
      linked p t AConnection q = refl
      linked p t (APiece id piece) q = absurd (cc q)
      linked p t (AUni j v) q = absurd (cc q)
      linked p t (ABi j v) q = absurd (cc q)
      linked p t (AnEnd id) q = absurd (cc q)
      linked p t (AReset id code) q = absurd (cc q)
      linked p t (AStop id code) q = absurd (cc q)
      linked p t (AnAck id) q = absurd (cc q)
      linked p t (ADatagram piece) q = absurd (cc q)
      linked p t (ALoss reason) q = absurd (cc q)

      fit : (p : Option ℕ) (t : Turn) → IsItem f p t → is_lawful e h t ≡ true → is_connected (all_events (history_after e h t)) ≡ true → (is_connected (all_events h) ≡ true) ⊎ (fits f ≡ true)
      fit p t AConnection m q = inr (fits-of (has_begun e h) (not (is_connected (all_events h))) (not (is_lost h)) (nat_le f.uni (2 ^ 60)) (nat_le f.bi (2 ^ 60)) (nat_lt f.credit (2 ^ 62)) m)
      fit p t (APiece id piece) m q = inl (sym (ap is_connected (bytes-events e id piece h)) ∙ q)
      fit p t (AUni j v) m q = inl q
      fit p t (ABi j v) m q = inl q
      fit p t (AnEnd id) m q = inl q
      fit p t (AReset id code) m q = inl q
      fit p t (AStop id code) m q = inl q
      fit p t (AnAck id) m q = inl q
      fit p t (ADatagram piece) m q = inl q
      fit p t (ALoss reason) m q = inl q

  -- a call, and more credit
  pub call-takes : (call : Call) → is_lawful e h (turns.Call call) ≡ true → Takes f e h (history_after e h (turns.Call call)) None (turns.Call call)
  call-takes call l = record {
    own = turn-history e h (turns.Call call) i l;
    marks = λ j. call-received f e h j call;
    counts = λ kind. counts-same (peer_count e (all_events h) kind);
    begun = begun-turn e h (turns.Call call);
    stays = λ q. q;
    linked = λ q. absurd (cc q);
    fit = inl;
  }

  pub credit-takes : (turn : Turn) → gives_credit turn ≡ true → is_lawful e h turn ≡ true → Takes f e h (history_after e h turn) None turn
  credit-takes turn c l = record {
    own = turn-history e h turn i l;
    marks = λ j. credit-received f e h j turn c;
    counts = λ kind. counts kind turn c;
    begun = begun-turn e h turn;
    stays = stays turn c;
    linked = linked turn c;
    fit = fit turn c;
  }
    where
      counts : (kind : ℕ) (t : Turn) → gives_credit t ≡ true → peer_count e (all_events (history_after e h t)) kind ≡ peer_count e (all_events h) kind + 0
      counts kind (turns.MaxUni total) q = counts-same (peer_count e (all_events h) kind)
      counts kind (turns.MaxBi total) q = counts-same (peer_count e (all_events h) kind)
      counts kind (turns.MaxData id total) q = counts-same (peer_count e (all_events h) kind)
      counts kind t q = absurd (cc q)

      stays : (t : Turn) → gives_credit t ≡ true → is_connected (all_events h) ≡ true → is_connected (all_events (history_after e h t)) ≡ true
      stays (turns.MaxUni total) q x = x
      stays (turns.MaxBi total) q x = x
      stays (turns.MaxData id total) q x = x
      stays t q x = absurd (cc q)

      linked : (t : Turn) → gives_credit t ≡ true → connects t ≡ true → is_connected (all_events (history_after e h t)) ≡ true
      linked (turns.Connected uni bi total fact) q x = absurd (cc q)
      linked t q x = absurd (cc x)

      fit : (t : Turn) → gives_credit t ≡ true → is_connected (all_events (history_after e h t)) ≡ true → (is_connected (all_events h) ≡ true) ⊎ (fits f ≡ true)
      fit (turns.MaxUni total) q x = inl x
      fit (turns.MaxBi total) q x = inl x
      fit (turns.MaxData id total) q x = inl x
      fit t q x = absurd (cc q)

-- what waits is as it was
pub left-same : (f : PairFacts) (w : List Item) (turn : Turn) → AreItems f w → Left f w w None turn
left-same f w turn a = record { items = a; marks = λ k. refl; opens = λ kind. refl; connects_less = λ q. q }

-- ---- the kinds of openings

-- an opening that waits is of a kind of the other end
pub kind-of : (f : PairFacts) (e : Side) (h : History) (w : List Item) (came : Bool) (g : History) → Held f e h w came g → (o : Option ℕ) (turn : Turn) → IsItem f o turn
    → ((kind : ℕ) → (more : List ℕ) × (flat_map (item_opens kind) w ≡ named_opens kind o turn ++ more)) → OfKind e o turn
kind-of f e h w came g l o turn i first = by o turn i first
  where
    own : (j : ℕ) → ((more : List ℕ) × (flat_map (item_opens (j % 4)) w ≡ marks_if (j % 4 == j % 4) (j ∷ []) ++ more)) → is_own (other e) j ≡ true
    own j m = of (is_own (other e) j) refl
      where
        z : Kind e h w g (j % 4)
        z = l.kind (j % 4)

        seen : z.gone ++ j ∷ m.0 ≡ ids_from (j % 4) 0 (local_count (actions_out g) (j % 4))
        seen = ap (λ (p : List ℕ). z.gone ++ p) (ap (λ (b : Bool). marks_if b (j ∷ []) ++ m.0) (sym (eq-eqb (j % 4) (j % 4) refl)) ∙ sym m.1) ∙ z.all ∙ opens-emitted (other e) g l.peers (j % 4)

        of : (b : Bool) → is_own (other e) j ≡ b → b ≡ true
        of true q = refl
        of false q = absurd (let a = none-of-peers (other e) g l.peers (j % 4) q in let b = (ids-at (j % 4) 0 (local_count (actions_out g) (j % 4)) z.gone j m.0 seen).1 in omega (arith, a, b))

    uni : (s : Side) (j : ℕ) → is_own (other s) j ≡ true → is_bidirectional j ≡ false → j % 4 ≡ peer_uni s
    uni Client j q v = or-either {P = j % 4 ≡ 3} (3 == j % 4) (1 == j % 4) q (λ x. sym (eqb-true 3 (j % 4) x)) (λ x. absurd (let y = eqb-true 1 (j % 4) x in eqb-false (j / 2 % 2) 0 v (omega (arith, y))))
    uni Server j q v = or-either {P = j % 4 ≡ 2} (2 == j % 4) (0 == j % 4) q (λ x. sym (eqb-true 2 (j % 4) x)) (λ x. absurd (let y = eqb-true 0 (j % 4) x in eqb-false (j / 2 % 2) 0 v (omega (arith, y))))

    bi : (s : Side) (j : ℕ) → is_own (other s) j ≡ true → is_bidirectional j ≡ true → j % 4 ≡ peer_bi s
    bi Client j q v = or-either {P = j % 4 ≡ 1} (3 == j % 4) (1 == j % 4) q (λ x. absurd (let y = eqb-true 3 (j % 4) x in let z = eqb-true (j / 2 % 2) 0 v in omega (arith, y, z))) (λ x. sym (eqb-true 1 (j % 4) x))
    bi Server j q v = or-either {P = j % 4 ≡ 0} (2 == j % 4) (0 == j % 4) q (λ x. absurd (let y = eqb-true 2 (j % 4) x in let z = eqb-true (j / 2 % 2) 0 v in omega (arith, y, z))) (λ x. sym (eqb-true 0 (j % 4) x))

    by : (p : Option ℕ) (t : Turn) → IsItem f p t → ((kind : ℕ) → (more : List ℕ) × (flat_map (item_opens kind) w ≡ named_opens kind p t ++ more)) → OfKind e p t
    by p t (AUni j v) m = uni e j (own j (m (j % 4))) v
    by p t (ABi j v) m = bi e j (own j (m (j % 4))) v
    by p t (APiece id piece) m = tt
    by p t (AnEnd id) m = tt
    by p t (AReset id code) m = tt
    by p t (AStop id code) m = tt
    by p t (AnAck id) m = tt
    by p t (ADatagram piece) m = tt
    by p t (ALoss reason) m = tt
    by p t AConnection m = tt
