-- What holds of an end, of what waits for it and of the other end: all that went out there came or waits, in order.
use Rattle.std.specs.Prelude.{[], ◌%◌, ◌&&◌, ◌*◌, ◌++◌, ◌+◌, ◌/◌, ◌<◌, ◌==◌, ◌^◌, ◌∷◌, ◌||◌, ◌≡◌, ◌≤◌, ◌⊎◌, Bool, List, None, Option, Some, false, filter_map, flat_map, if◌then◌else◌, length, map, nat_le, nat_lt, not, true, suc, zero, ℕ}
use Rattle.std.specs.List.{list_any}
use Rattle.std.proofs.Common.{◌∙◌, ap, append_assoc, arith, inl, inr, length-append, refl, subst, sym}
use Rattle.std.proofs.lemmas.Bool.{eq-eqb, eqb-true, lt-ltb, ltb-true}
use Rattle.std.proofs.lemmas.List.{append-nil}
use Rattle.std.proofs.lemmas.List.Concat.{flat_map-append}
use Rattle.std.proofs.lemmas.List.Folds.{list_any-append}
use Rattle.wt_meaning.specs.History.{History, actions_out, all_events, contents, ends_by, exists, is_open, loses, out, stream_count}
use Rattle.wt_meaning.specs.Lawful.{has_begun, is_lawful, is_lost}
use Rattle.wt_meaning.specs.Meaning.{answer_to, history_after}
use Rattle.wt_meaning.specs.Moments.{ids_from}
use Rattle.wt_pair.proofs.Counts.{counted, none-of-peers, there-connected}
use Rattle.wt_pair.proofs.Formed.{formed-byte, formed-history, is_own, opens-emitted, well_formed}
use Rattle.wt_pair.proofs.Marks.{act_marks, act_opens, any_ends, any_opens, bytes-parts, bytes_marked, emitted, emitted-after, ends-parts, item_opens, map-opens, marked-out, marks-item, marks-join, named_opens, opens-item, opens-join, opens-parts, view-items}
use Rattle.wt_pair.proofs.Receives.{Receives}
use Rattle.wt_pair.proofs.Sends.{sends-there}
use Rattle.wt_pair.proofs.Views.{AreItems, items-append, items-of}
use Rattle.wt_pair.specs.declared.event.PairFacts.{PairFacts}
use Rattle.wt_pair.specs.Link.{connects, item_of}
use Rattle.wt_pair.specs.declared.item.Item.{Item}
use Rattle.wt_pair.specs.Pair.{other}
use Rattle.wt_pair.specs.Streams.{Byte, Ends, Mark, Opens, item_marks, marks_if, named_marks, turn_marks}
use Rattle.wt_promise.proofs.Accepted.{or-true}
use Rattle.wt_promise.proofs.Flow.{clash}
use Rattle.wt_promise.proofs.MomentActs.{or-either}
use Rattle.wt_promise.proofs.Opened.{open-before}
use Rattle.wt_promise.proofs.Prefixes.{turn-history}
use Rattle.wt_promise.specs.Promise.{IsHistory}
use Rattle.wt_turn.specs.Reports.{end_of, is_connected, is_running}
use Rattle.wt_turn.specs.Streams.{local_bi, local_count, local_uni, peer_bi, peer_count, peer_uni}
use Rattle.wt_turn.specs.Log.{closes}
use Rattle.wt_turn.specs.declared.action.Action.{Action}
use Rattle.wt_turn.specs.declared.turn.Turn.{Turn}
use Rattle.wt_wire.specs.Ids.{is_bidirectional}
use Rattle.wt_wire.specs.declared.side.Side.{Side}
use Rattle.wt_wire.specs.declared.side.Side.TheVariants.{Client, Server}
use Rattle.wt_turn.specs.declared.action.Action.TheVariants as actions
use Rattle.wt_turn.specs.declared.turn.Turn.TheVariants as turns

-- ---- what holds

-- of one stream: what came of it, and what waits, is all that went out on it; while the end is open it has all that came
pub record Stream (e : Side) (h : History) (w : List Item) (g : History) (k : ℕ) : Type 0 where
  pub gone : List Mark
  pub all : gone ++ flat_map (item_marks k) w ≡ emitted (act_marks k) g
  pub rest : List ℕ
  pub front : contents h k ++ rest ≡ bytes_marked gone
  pub whole : is_open h ≡ true → rest ≡ []
  pub ended : is_open h ≡ true → is_running (end_of (all_events h) k) ≡ false → any_ends gone ≡ true
  pub there : is_open h ≡ true → any_opens gone ≡ true → k / 4 < peer_count e (all_events h) (k % 4)

-- of the openings of one kind
pub record Kind (e : Side) (h : History) (w : List Item) (g : History) (kind : ℕ) : Type 0 where
  pub gone : List ℕ
  pub all : gone ++ flat_map (item_opens kind) w ≡ emitted (act_opens kind) g
  pub few : peer_count e (all_events h) kind ≤ length gone
  pub exact : is_open h ≡ true → peer_count e (all_events h) kind ≡ length gone

-- a connection with these facts may come
abbrev pub fits : PairFacts → Bool
fits f = nat_le f.uni (2 ^ 60) && nat_le f.bi (2 ^ 60) && nat_lt f.credit (2 ^ 62)

abbrev pub any_connects : List Item → Bool
any_connects w = list_any (λ (x : Item). connects x.turn) w

-- of an end, what waits for it, whether its connection was delivered, and the other end
pub record Held (f : PairFacts) (e : Side) (h : History) (w : List Item) (came : Bool) (g : History) : Type 0 where
  pub own : IsHistory e h
  pub peers : IsHistory (other e) g
  pub items : AreItems f w
  pub stream : (k : ℕ) → Stream e h w g k
  pub kind : (kind : ℕ) → Kind e h w g kind
  pub begun : any_connects w ≡ true → has_begun e h ≡ true
  pub linked : came ≡ true → is_open h ≡ true → fits f ≡ true → is_connected (all_events h) ≡ true
  pub fit : is_connected (all_events h) ≡ true → fits f ≡ true

-- ---- more waits

-- items that no view sees
pub record Unseen (f : PairFacts) (xs : List Item) : Type 0 where
  pub items : AreItems f xs
  pub marks : (k : ℕ) → flat_map (item_marks k) xs ≡ []
  pub opens : (kind : ℕ) → flat_map (item_opens kind) xs ≡ []

more-view : {T : Type 0} (v : Item → List T) (w xs : List Item) (gone all : List T) → flat_map v xs ≡ [] → gone ++ flat_map v w ≡ all → gone ++ flat_map v (w ++ xs) ≡ all
more-view {T = T} v w xs gone all z e = ap (λ (l : List T). gone ++ l) (flat_map-append v w xs ∙ ap (λ (l : List T). flat_map v w ++ l) z ∙ append-nil (flat_map v w)) ∙ e

pub add : (f : PairFacts) (e : Side) (h : History) (w xs : List Item) (came : Bool) (g : History) → Unseen f xs → (any_connects xs ≡ true → has_begun e h ≡ true) → Held f e h w came g → Held f e h (w ++ xs) came g
add f e h w xs came g u b l = record {
  own = l.own;
  peers = l.peers;
  items = items-append f w xs l.items u.items;
  stream = λ k. let s = l.stream k in record {
    gone = s.gone;
    all = more-view (item_marks k) w xs s.gone (emitted (act_marks k) g) (u.marks k) s.all;
    rest = s.rest;
    front = s.front;
    whole = s.whole;
    ended = s.ended;
    there = s.there;
  };
  kind = λ kind. let s = l.kind kind in record { gone = s.gone; all = more-view (item_opens kind) w xs s.gone (emitted (act_opens kind) g) (u.opens kind) s.all; few = s.few; exact = s.exact };
  begun = λ q. or-either {P = has_begun e h ≡ true} (any_connects w) (any_connects xs) (sym (list_any-append (λ (x : Item). connects x.turn) w xs) ∙ q) l.begun b;
  linked = l.linked;
  fit = l.fit;
}

-- ---- the other end takes a turn

none-connect : (as_ : List Action) → any_connects (filter_map item_of as_) ≡ false
none-connect [] = refl
none-connect (actions.Dial address name ∷ as_) = none-connect as_
none-connect (actions.Opened id ∷ as_) = by (is_bidirectional id) (none-connect as_)
  where
    by : (b : Bool) → any_connects (filter_map item_of as_) ≡ false → (connects (if b then turns.PeerBi else turns.PeerUni) || any_connects (filter_map item_of as_)) ≡ false
    by true n = n
    by false n = n
none-connect (actions.Send id piece ∷ as_) = none-connect as_
none-connect (actions.Finish id ∷ as_) = none-connect as_
none-connect (actions.ResetOut id code ∷ as_) = none-connect as_
none-connect (actions.StopOut id code ∷ as_) = none-connect as_
none-connect (actions.DatagramOut piece ∷ as_) = none-connect as_
none-connect (actions.Close code reason ∷ as_) = none-connect as_

sent-view : {T : Type 0} (v : Action → List T) (w : Item → List T) (xs : List Item) (as_ : List Action) (gone all : List T) → flat_map w (filter_map item_of as_) ≡ flat_map v as_ → gone ++ flat_map w xs ≡ all
    → gone ++ flat_map w (xs ++ filter_map item_of as_) ≡ all ++ flat_map v as_
sent-view {T = T} v w xs as_ gone all s e =
    ap (λ (l : List T). gone ++ l) (flat_map-append w xs (filter_map item_of as_) ∙ ap (λ (l : List T). flat_map w xs ++ l) s) ∙ sym (append_assoc gone (flat_map w xs) (flat_map v as_))
    ∙ ap (λ (l : List T). l ++ flat_map v as_) e

pub sent : (f : PairFacts) (e : Side) (h : History) (w : List Item) (came : Bool) (g : History) (turn : Turn) → is_lawful (other e) g turn ≡ true → Held f e h w came g
    → Held f e h (w ++ filter_map item_of (answer_to (other e) g turn).actions) came (history_after (other e) g turn)
sent f e h w came g turn m l = record {
  own = l.own;
  peers = turn-history (other e) g turn l.peers m;
  items = items-append f w (filter_map item_of out) l.items (items-of f out);
  stream = λ k. let s = l.stream k in record {
    gone = s.gone;
    all = sent-view (act_marks k) (item_marks k) w out s.gone (emitted (act_marks k) g) (view-items (act_marks k) (item_marks k) (marks-item k) out) s.all ∙ sym (emitted-after (act_marks k) (marks-join k) (other e) g turn);
    rest = s.rest;
    front = s.front;
    whole = s.whole;
    ended = s.ended;
    there = s.there;
  };
  kind = λ kind. let s = l.kind kind in record {
    gone = s.gone;
    all = sent-view (act_opens kind) (item_opens kind) w out s.gone (emitted (act_opens kind) g) (view-items (act_opens kind) (item_opens kind) (opens-item kind) out) s.all ∙ sym (emitted-after (act_opens kind) (opens-join kind) (other e) g turn);
    few = s.few;
    exact = s.exact;
  };
  begun = λ q. or-either {P = has_begun e h ≡ true} (any_connects w) (any_connects (filter_map item_of out)) (sym (list_any-append (λ (x : Item). connects x.turn) w (filter_map item_of out)) ∙ q) l.begun (λ x. absurd (clash (any_connects (filter_map item_of out)) x (none-connect out)));
  linked = l.linked;
  fit = l.fit;
}
  where
    out : List Action
    out = (answer_to (other e) g turn).actions

-- ---- an end takes a turn

-- what the turn leaves there
pub record Takes (f : PairFacts) (e : Side) (h later : History) (o : Option ℕ) (turn : Turn) : Type 0 where
  pub own : IsHistory e later
  pub marks : (k : ℕ) → Receives h later k (named_marks k o turn)
  pub counts : (kind : ℕ) → peer_count e (all_events later) kind ≡ peer_count e (all_events h) kind + length (named_opens kind o turn)
  pub begun : has_begun e h ≡ true → has_begun e later ≡ true
  pub stays : is_connected (all_events h) ≡ true → is_connected (all_events later) ≡ true
  pub linked : connects turn ≡ true → is_connected (all_events later) ≡ true
  pub fit : is_connected (all_events later) ≡ true → (is_connected (all_events h) ≡ true) ⊎ (fits f ≡ true)

-- what a taken item leaves of what waits
pub record Left (f : PairFacts) (w more : List Item) (o : Option ℕ) (turn : Turn) : Type 0 where
  pub items : AreItems f more
  pub marks : (k : ℕ) → flat_map (item_marks k) w ≡ named_marks k o turn ++ flat_map (item_marks k) more
  pub opens : (kind : ℕ) → flat_map (item_opens kind) w ≡ named_opens kind o turn ++ flat_map (item_opens kind) more
  pub connects_less : any_connects more ≡ true → any_connects w ≡ true

next-view : {T : Type 0} (gone part more view all : List T) → gone ++ view ≡ all → view ≡ part ++ more → (gone ++ part) ++ more ≡ all
next-view {T = T} gone part more view all e v = append_assoc gone part more ∙ ap (λ (l : List T). gone ++ l) (sym v) ∙ e

-- the opening of a stream is seen as its id
opens-names : (k : ℕ) (o : Option ℕ) (turn : Turn) → any_opens (named_marks k o turn) ≡ true → named_opens (k % 4) o turn ≡ k ∷ []
opens-names k None turn e = absurd (cc e)
opens-names k (Some j) turn e = by (j == k) refl turn e
  where
    same : (j == k) ≡ true → marks_if (j % 4 == k % 4) (j ∷ []) ≡ k ∷ []
    same q = ap (λ (b : Bool). marks_if b (j ∷ [])) (eq-eqb (j % 4) (k % 4) (ap (λ (n : ℕ). n % 4) (eqb-true j k q))) ∙ ap (λ (n : ℕ). n ∷ []) (eqb-true j k q)

    by : (b : Bool) → (j == k) ≡ b → (t : Turn) → any_opens (marks_if b (turn_marks t)) ≡ true → named_opens (k % 4) (Some j) t ≡ k ∷ []
    by false q t x = absurd (cc x)
    by true q turns.PeerUni x = same q
    by true q turns.PeerBi x = same q
    by true q (turns.Bytes id piece) x = absurd (clash (any_opens (map Byte piece)) x (map-opens piece))
    by true q t x = absurd (cc x)

-- an id among those of a kind is at its place
pub ids-at : (kind n count : ℕ) (gone : List ℕ) (j : ℕ) (more : List ℕ) → gone ++ j ∷ more ≡ ids_from kind n count → (j ≡ 4 * (n + length gone) + kind) × (length gone < count)
ids-at kind n zero [] j more e = absurd (cc e)
ids-at kind n zero (x ∷ gone) j more e = absurd (cc e)
ids-at kind n (suc count) [] j more e = let s : j ≡ 4 * n + kind = cc e in (omega (arith, s), omega arith)
ids-at kind n (suc count) (x ∷ gone) j more e =
    let s : gone ++ j ∷ more ≡ ids_from kind (suc n) count = cc e in let r = ids-at kind (suc n) count gone j more s in let a = r.0 in let b = r.1 in (omega (arith, a), omega (arith, b))

pub take_turn : (f : PairFacts) (e : Side) (h later : History) (w more : List Item) (came : Bool) (g : History) (o : Option ℕ) (turn : Turn) → Takes f e h later o turn → Left f w more o turn → Held f e h w came g
    → Held f e later more (came || connects turn) g
take_turn f e h later w more came g o turn t r l = record {
  own = t.own;
  peers = l.peers;
  items = r.items;
  stream = λ k. stream k (l.stream k) (t.marks k);
  kind = λ kind. let s = l.kind kind in let c = t.counts kind in let a = length-append s.gone (named_opens kind o turn) in record {
    gone = s.gone ++ named_opens kind o turn;
    all = next-view s.gone (named_opens kind o turn) (flat_map (item_opens kind) more) (flat_map (item_opens kind) w) (emitted (act_opens kind) g) s.all (r.opens kind);
    few = let b = s.few in omega (arith, c, a, b);
    exact = λ q. let b = s.exact ((t.marks 0).before q) in omega (arith, c, a, b);
  };
  begun = λ q. t.begun (l.begun (r.connects_less q));
  linked = λ c q x. or-either {P = is_connected (all_events later) ≡ true} came (connects turn) c (λ y. t.stays (l.linked y ((t.marks 0).before q) x)) t.linked;
  fit = λ q. elim (t.fit q) as (λ z. fits f ≡ true) [ inl x ↦ l.fit x | inr x ↦ x ];
}
  where
    stream : (k : ℕ) → Stream e h w g k → Receives h later k (named_marks k o turn) → Stream e later more g k
    stream k s m = record {
      gone = s.gone ++ named_marks k o turn;
      all = next-view s.gone (named_marks k o turn) (flat_map (item_marks k) more) (flat_map (item_marks k) w) (emitted (act_marks k) g) s.all (r.marks k);
      rest = s.rest ++ m.rest;
      front = front;
      whole = λ q. ap (λ (x : List ℕ). x ++ m.rest) (s.whole (m.before q)) ∙ m.whole q;
      ended = λ q x. ends-parts s.gone (named_marks k o turn) ∙ elim (m.ended x) as (λ z. (any_ends s.gone || any_ends (named_marks k o turn)) ≡ true)
          [ inl y ↦ ap (λ (b : Bool). b || any_ends (named_marks k o turn)) (s.ended (m.before q) y) | inr y ↦ ap (λ (b : Bool). any_ends s.gone || b) y ∙ or-true (any_ends s.gone) ];
      there = λ q x. or-either {P = k / 4 < peer_count e (all_events later) (k % 4)} (any_opens s.gone) (any_opens (named_marks k o turn)) (sym (opens-parts s.gone (named_marks k o turn)) ∙ x) (old q) (new q);
    }
      where
        -- the bytes that were left out before stay so only where the end isn't open any more
        front : contents later k ++ (s.rest ++ m.rest) ≡ bytes_marked (s.gone ++ named_marks k o turn)
        front =
            ap (λ (l : List ℕ). l ++ (s.rest ++ m.rest)) m.here ∙ turned (is_open h) refl ∙ ap (λ (l : List ℕ). l ++ (m.came ++ m.rest)) s.front ∙ ap (λ (l : List ℕ). bytes_marked s.gone ++ l) m.parts
            ∙ sym (bytes-parts s.gone (named_marks k o turn))
          where
            turned : (b : Bool) → is_open h ≡ b → (contents h k ++ m.came) ++ (s.rest ++ m.rest) ≡ (contents h k ++ s.rest) ++ (m.came ++ m.rest)
            turned true q = let z = s.whole q in
                ap (λ (l : List ℕ). (contents h k ++ m.came) ++ (l ++ m.rest)) z ∙ append_assoc (contents h k) m.came m.rest
                ∙ ap (λ (l : List ℕ). l ++ (m.came ++ m.rest)) (sym (append-nil (contents h k)) ∙ ap (λ (l : List ℕ). contents h k ++ l) (sym z))
            turned false q = let z = m.shut q in
                ap (λ (l : List ℕ). (contents h k ++ l) ++ (s.rest ++ m.rest)) z ∙ ap (λ (l : List ℕ). l ++ (s.rest ++ m.rest)) (append-nil (contents h k))
                ∙ sym (append_assoc (contents h k) s.rest m.rest) ∙ ap (λ (l : List ℕ). (contents h k ++ s.rest) ++ (l ++ m.rest)) (sym z)

        old : is_open later ≡ true → any_opens s.gone ≡ true → k / 4 < peer_count e (all_events later) (k % 4)
        old q y = let a = s.there (m.before q) y in let c = t.counts (k % 4) in omega (arith, a, c)

        new : is_open later ≡ true → any_opens (named_marks k o turn) ≡ true → k / 4 < peer_count e (all_events later) (k % 4)
        new q y =
            let n = opens-names k o turn y in
            let z = l.kind (k % 4) in
            let x = z.exact (m.before q) in
            let c = t.counts (k % 4) in
            let d : length (named_opens (k % 4) o turn) ≡ 1 = ap length n in
            let at = ids-at (k % 4) 0 (local_count (actions_out g) (k % 4)) z.gone k (flat_map (item_opens (k % 4)) more)
            (ap (λ (p : List ℕ). z.gone ++ p) (ap (λ (p : List ℕ). p ++ flat_map (item_opens (k % 4)) more) (sym n) ∙ sym (r.opens (k % 4))) ∙ z.all ∙ opens-emitted (other e) g l.peers (k % 4)) in
            let a = at.0 in omega (arith, x, c, d, a)

-- ---- an item is taken, and its turn isn't lawful any more

pub drop_turn : (f : PairFacts) (e : Side) (h : History) (w more : List Item) (came : Bool) (g : History) (o : Option ℕ) (turn : Turn) → Left f w more o turn
    → (is_open h ≡ true → ((k : ℕ) → (bytes_marked (named_marks k o turn) ≡ []) × (any_opens (named_marks k o turn) ≡ false)) × ((kind : ℕ) → named_opens kind o turn ≡ []))
    → (connects turn ≡ true → is_open h ≡ true → fits f ≡ true → is_connected (all_events h) ≡ true) → Held f e h w came g → Held f e h more (came || connects turn) g
drop_turn f e h w more came g o turn r quiet linked l = record {
  own = l.own;
  peers = l.peers;
  items = r.items;
  stream = λ k. let s = l.stream k in record {
    gone = s.gone ++ named_marks k o turn;
    all = next-view s.gone (named_marks k o turn) (flat_map (item_marks k) more) (flat_map (item_marks k) w) (emitted (act_marks k) g) s.all (r.marks k);
    rest = s.rest ++ bytes_marked (named_marks k o turn);
    front = sym (append_assoc (contents h k) s.rest (bytes_marked (named_marks k o turn))) ∙ ap (λ (x : List ℕ). x ++ bytes_marked (named_marks k o turn)) s.front ∙ sym (bytes-parts s.gone (named_marks k o turn));
    whole = λ q. ap (λ (x : List ℕ). x ++ bytes_marked (named_marks k o turn)) (s.whole q) ∙ ((quiet q).0 k).0;
    ended = λ q x. ends-parts s.gone (named_marks k o turn) ∙ ap (λ (b : Bool). b || any_ends (named_marks k o turn)) (s.ended q x);
    there = λ q x. s.there q (sym (or-none (any_opens s.gone)) ∙ ap (λ (b : Bool). any_opens s.gone || b) (sym ((quiet q).0 k).1) ∙ sym (opens-parts s.gone (named_marks k o turn)) ∙ x);
  };
  kind = λ kind. let s = l.kind kind in let a = length-append s.gone (named_opens kind o turn) in record {
    gone = s.gone ++ named_opens kind o turn;
    all = next-view s.gone (named_opens kind o turn) (flat_map (item_opens kind) more) (flat_map (item_opens kind) w) (emitted (act_opens kind) g) s.all (r.opens kind);
    few = let b = s.few in omega (arith, a, b);
    exact = λ q. let b = s.exact q in let z : length (named_opens kind o turn) ≡ 0 = ap length ((quiet q).1 kind) in omega (arith, a, b, z);
  };
  begun = λ q. l.begun (r.connects_less q);
  linked = λ c q x. or-either {P = is_connected (all_events h) ≡ true} came (connects turn) c (λ y. l.linked y q x) (λ y. linked y q x);
  fit = l.fit;
}
  where
    or-none : (b : Bool) → (b || false) ≡ b
    or-none true = refl
    or-none false = refl

-- ---- an open end may take what stands first

-- no loss came to a connection that is open
pub open-unlost : (h : History) → is_open h ≡ true → is_lost h ≡ false
open-unlost [] o = refl
open-unlost (p ∷ h) o = by p.turn (open-unlost h (open-before p h o)) (ends (loses p.turn) (list_any closes p.answer.actions) (list_any ends_by h) o)
  where
    ends : (a b c : Bool) → not ((a || b) || c) ≡ true → a ≡ false
    ends true b c x = absurd (cc x)
    ends false b c x = refl

    by : (turn : Turn) → is_lost h ≡ false → loses turn ≡ false → is_lost (record { turn = turn; answer = p.answer } ∷ h) ≡ false
    by (turns.Loss reason) q n = absurd (cc n)
    by turn q n = q

-- kinds of one end are the peer's of the other
own-of-other : (e : Side) (n : ℕ) → (local_uni (other e) == n || local_bi (other e) == n) ≡ true → ((n == local_uni e) ≡ false) × ((local_uni e == n || local_bi e == n) ≡ false)
own-of-other Client n q = or-either {P = ((n == 2) ≡ false) × ((2 == n || 0 == n) ≡ false)} (3 == n) (1 == n) q (λ x. subst (λ (m : ℕ). ((m == 2) ≡ false) × ((2 == m || 0 == m) ≡ false)) (eqb-true 3 n x) (refl, refl))
    (λ x. subst (λ (m : ℕ). ((m == 2) ≡ false) × ((2 == m || 0 == m) ≡ false)) (eqb-true 1 n x) (refl, refl))
own-of-other Server n q = or-either {P = ((n == 3) ≡ false) × ((3 == n || 1 == n) ≡ false)} (2 == n) (0 == n) q (λ x. subst (λ (m : ℕ). ((m == 3) ≡ false) × ((3 == m || 1 == m) ≡ false)) (eqb-true 2 n x) (refl, refl))
    (λ x. subst (λ (m : ℕ). ((m == 3) ≡ false) × ((3 == m || 1 == m) ≡ false)) (eqb-true 0 n x) (refl, refl))

peer-of-other : (e : Side) → peer_uni (other e) ≡ local_uni e
peer-of-other Client = refl
peer-of-other Server = refl

module _ (f : PairFacts) (e : Side) (h : History) (w : List Item) (came : Bool) (g : History) (l : Held f e h w came g) (o : is_open h ≡ true) where
  -- bytes
  module _ (back : (kind : ℕ) → peer_count (other e) (all_events g) kind ≤ local_count (actions_out h) kind) (k b : ℕ) (more : List Mark) (first : flat_map (item_marks k) w ≡ Byte b ∷ more) where
    s : Stream e h w g k
    s = l.stream k

    went : s.gone ++ Byte b ∷ more ≡ emitted (act_marks k) g
    went = ap (λ (x : List Mark). s.gone ++ x) (sym first) ∙ s.all

    formed : ((not (is_own (other e) k) || any_opens s.gone) ≡ true) × ((false || any_ends s.gone) ≡ false)
    formed = formed-byte (not (is_own (other e) k)) false s.gone b more (ap (well_formed (not (is_own (other e) k)) false) went ∙ formed-history (other e) g l.peers k)

    running : is_running (end_of (all_events h) k) ≡ true
    running = by (is_running (end_of (all_events h) k)) refl
      where
        by : (x : Bool) → is_running (end_of (all_events h) k) ≡ x → x ≡ true
        by true q = refl
        by false q = absurd (clash (any_ends s.gone) (s.ended o q) formed.1)

    sent-some : out g k ≡ [] → ⊥
    sent-some z = by s.gone (sym (bytes-parts s.gone (Byte b ∷ more)) ∙ ap bytes_marked went ∙ marked-out k g ∙ z)
      where
        by : (ms : List Mark) → bytes_marked ms ++ b ∷ bytes_marked more ≡ [] → ⊥
        by [] q = cc q
        by (Byte n ∷ ms) q = cc q
        by (Opens ∷ ms) q = by ms q
        by (Ends ∷ ms) q = by ms q

    may : (exists e h k ≡ true) × ((k % 4 == local_uni e) ≡ false)
    may = by (is_own (other e) k) refl formed.0
      where
        by : (x : Bool) → is_own (other e) k ≡ x → (not x || any_opens s.gone) ≡ true → (exists e h k ≡ true) × ((k % 4 == local_uni e) ≡ false)
        by true q z = let a = s.there o z in (lt-ltb (k / 4) (stream_count e h (k % 4)) (omega (arith, a)), (own-of-other e (k % 4) q).0)
        by false q z =
            let t = sends-there (other e) g l.peers k q sent-some in
            let a = ltb-true (k / 4) (stream_count (other e) g (k % 4)) t.0 in
            let c = none-of-peers (other e) g l.peers (k % 4) q in
            let d = back (k % 4) in
            (lt-ltb (k / 4) (stream_count e h (k % 4)) (omega (arith, a, c, d)), ap (λ (n : ℕ). k % 4 == n) (sym (peer-of-other e)) ∙ t.1)

    pub bytes-lawful : (piece : List ℕ) → is_lawful e h (turns.Bytes k piece) ≡ true
    bytes-lawful piece = rw (there-connected e h l.own k may.0, open-unlost h o, may.0, may.1, running) refl

  -- an opening
  module _ (came-then : came ≡ true) (fit-then : is_connected (all_events g) ≡ true → fits f ≡ true) (j : ℕ) (more : List ℕ) (first : flat_map (item_opens (j % 4)) w ≡ j ∷ more) where
    z : Kind e h w g (j % 4)
    z = l.kind (j % 4)

    at : (j ≡ 4 * (0 + length z.gone) + j % 4) × (length z.gone < local_count (actions_out g) (j % 4))
    at = ids-at (j % 4) 0 (local_count (actions_out g) (j % 4)) z.gone j more (ap (λ (p : List ℕ). z.gone ++ p) (sym first) ∙ z.all ∙ opens-emitted (other e) g l.peers (j % 4))

    pub kind-own : is_own (other e) j ≡ true
    kind-own = by (is_own (other e) j) refl
      where
        by : (x : Bool) → is_own (other e) j ≡ x → x ≡ true
        by true q = refl
        by false q = absurd (let a = none-of-peers (other e) g l.peers (j % 4) q in let b = at.1 in omega (arith, a, b))

    below : stream_count e h (j % 4) < 2 ^ 60
    below =
        let a = z.exact o in
        let b = at.1 in
        let c = (counted (other e) g l.peers (j % 4)).few in
        let d = none-of-peers e h l.own (j % 4) (own-of-other e (j % 4) kind-own).1 in omega (arith, a, b, c, d)

    joined : is_connected (all_events h) ≡ true
    joined = l.linked came-then o (fit-then ((counted (other e) g l.peers (j % 4)).came (let b = at.1 in omega (arith, b))))

    pub uni-lawful : j % 4 ≡ peer_uni e → is_lawful e h turns.PeerUni ≡ true
    uni-lawful s = rw (joined, open-unlost h o) (lt-ltb (stream_count e h (peer_uni e)) (2 ^ 60) (subst (λ (n : ℕ). stream_count e h n < 2 ^ 60) s below))

    pub bi-lawful : j % 4 ≡ peer_bi e → is_lawful e h turns.PeerBi ≡ true
    bi-lawful s = rw (joined, open-unlost h o) (lt-ltb (stream_count e h (peer_bi e)) (2 ^ 60) (subst (λ (n : ℕ). stream_count e h n < 2 ^ 60) s below))

  -- the connection
  pub link-lawful : any_connects w ≡ true → fits f ≡ true → is_connected (all_events h) ≡ false → is_lawful e h (turns.Connected f.uni f.bi f.credit f.datagrams) ≡ true
  link-lawful c q n = by (nat_le f.uni (2 ^ 60)) (nat_le f.bi (2 ^ 60)) (nat_lt f.credit (2 ^ 62)) q
    where
      by : (x y z : Bool) → (x && y && z) ≡ true → (has_begun e h && not (is_connected (all_events h)) && not (is_lost h) && x && y && z) ≡ true
      by true true true p = rw (l.begun c, n, open-unlost h o) refl
      by false y z p = absurd (cc p)
      by true false z p = absurd (cc p)
      by true true false p = absurd (cc p)
