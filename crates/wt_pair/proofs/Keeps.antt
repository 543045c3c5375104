-- What holds of both ends holds after each event.
use Rattle.std.specs.Prelude.{[], ◌%◌, ◌&&◌, ◌++◌, ◌==◌, ◌∷◌, ◌||◌, ◌≡◌, ◌≤◌, Bool, List, None, Option, Some, false, flat_map, if◌then◌else◌, length, map, suc, true, zero, ℕ}
use Rattle.std.specs.List.{list_any}
use Rattle.std.proofs.Common.{◌∙◌, ap, append_assoc, arith, length-append, refl, subst, sym}
use Rattle.std.proofs.lemmas.Bool.{eq-eqb}
use Rattle.wt_meaning.specs.History.{History, actions_out, all_events, is_open}
use Rattle.wt_meaning.specs.Lawful.{has_begun, is_lawful}
use Rattle.wt_meaning.specs.Meaning.{answer_to, history_after}
use Rattle.wt_meaning.specs.Moments.{ids_from}
use Rattle.wt_pair.proofs.Formed.{opens-emitted}
use Rattle.wt_pair.proofs.Held.{Held, Left, Takes, Unseen, add, any_connects, bi-lawful, bytes-lawful, drop_turn, fits, link-lawful, sent, take_turn, uni-lawful}
use Rattle.wt_pair.proofs.Marks.{any_opens, bytes_marked, item_opens, named_opens, none-marked}
use Rattle.wt_pair.proofs.Plain.{answer-dials-not, dialled-after}
use Rattle.wt_pair.proofs.StreamLaws.{item}
use Rattle.wt_pair.proofs.Taking.{OfKind, any-at, call-takes, credit-takes, first-item, item-takes, kind-of, left-lost, left-same, left-there}
use Rattle.wt_pair.proofs.Views.{ABi, AConnection, ADatagram, ALoss, APiece, AReset, AStop, AUni, AnAck, AnEnd, IsItem, item-there}
use Rattle.wt_pair.specs.declared.event.PairEvent.{PairEvent}
use Rattle.wt_pair.specs.declared.event.PairEvent.TheVariants as pair_events
use Rattle.wt_pair.specs.declared.event.PairFacts.{PairFacts}
use Rattle.wt_pair.specs.Link.{brings_datagram, connects, first_of, is_datagram, is_first, item_at, left_of, may_deliver, taken_at, takes_bytes}
use Rattle.wt_pair.specs.declared.item.Item.{Item}
use Rattle.wt_pair.specs.Pair.{Ends, Happened, acknowledged, acknowledgement, arrived, at_end, at_first, delivered, delivered_item, end_at, gives_credit, happens, if_dialled, lost, other, run_behind, run_from, run_pair, taken, turned, with_end}
use Rattle.wt_pair.specs.Streams.{Byte, Ends as Ended, Mark, item_marks, marks_if, named_marks}
use Rattle.wt_promise.proofs.Accepted.{and-left, and-right}
use Rattle.wt_promise.proofs.Flow.{clash}
use Rattle.wt_promise.specs.Promise.{IsHistory}
use Rattle.wt_turn.specs.Reports.{is_connected}
use Rattle.wt_turn.specs.Sent.{dials}
use Rattle.wt_turn.specs.Streams.{local_count, peer_count}
use Rattle.wt_turn.specs.declared.action.Action.{Action}
use Rattle.wt_turn.specs.declared.turn.Turn.{Turn}
use Rattle.wt_wire.specs.declared.side.Side.{Side}
use Rattle.wt_wire.specs.declared.side.Side.TheVariants.{Client, Server}
use Rattle.wt_turn.specs.declared.turn.Turn.TheVariants as turns

-- ---- both ends

abbrev pub HeldAt : PairFacts → Ends → Side → Type 0
HeldAt f p e = Held f e (end_at p e).history (end_at p e).waiting (end_at p e).came (end_at p (other e)).history

abbrev pub AllHeld : PairFacts → Ends → Type 0
AllHeld f p = (e : Side) → HeldAt f p e

or-none : (b : Bool) → (b || false) ≡ b
or-none true = refl
or-none false = refl

-- ---- the connection that a dial brings

unseen-link : (f : PairFacts) (out : List Action) → Unseen f (if_dialled f out)
unseen-link f out = by (list_any dials out)
  where
    by : (b : Bool) → Unseen f (if b then record { stream = None; turn = turns.Connected f.uni f.bi f.credit f.datagrams } ∷ [] else [])
    by true = record { items = (AConnection, tt); marks = λ k. refl; opens = λ kind. refl }
    by false = record { items = tt; marks = λ k. refl; opens = λ kind. refl }

link-dials : (f : PairFacts) (out : List Action) → any_connects (if_dialled f out) ≡ true → list_any dials out ≡ true
link-dials f out e = by (list_any dials out) refl e
  where
    by : (b : Bool) → list_any dials out ≡ b → any_connects (if b then record { stream = None; turn = turns.Connected f.uni f.bi f.credit f.datagrams } ∷ [] else []) ≡ true → b ≡ true
    by true q x = refl
    by false q x = absurd (cc x)

begun-self : (e : Side) (h : History) (turn : Turn) → list_any dials (answer_to e h turn).actions ≡ true → has_begun e (history_after e h turn) ≡ true
begun-self Server h turn d = refl
begun-self Client h turn d = dialled-after Client h turn d

-- what is sent waits behind the connection
regroup : (f : PairFacts) (e : Side) (h : History) (w xs ys : List Item) (came : Bool) (g : History) → Held f e h ((w ++ xs) ++ ys) came g → Held f e h (w ++ (xs ++ ys)) came g
regroup f e h w xs ys came g l = subst (λ (v : List Item). Held f e h v came g) (append_assoc w xs ys) l

-- ---- an end takes a turn

pub turned-held : (f : PairFacts) (e : Side) (turn : Turn) (p : Ends) → is_lawful e (end_at p e).history turn ≡ true
    → Held f e (history_after e (end_at p e).history turn) (end_at p e).waiting (end_at p e).came (end_at p (other e)).history → HeldAt f p (other e) → AllHeld f (turned f e turn p)
turned-held f Client turn p m l o Client = add f Client _ p.client.waiting (if_dialled f (answer_to Client p.client.history turn).actions) p.client.came p.server.history (unseen-link f (answer_to Client p.client.history turn).actions)
    (λ q. begun-self Client p.client.history turn (link-dials f (answer_to Client p.client.history turn).actions q)) l
turned-held f Client turn p m l o Server =
    regroup f Server p.server.history p.server.waiting (if_dialled f out) _ p.server.came _
    (sent f Server p.server.history (p.server.waiting ++ if_dialled f out) p.server.came p.client.history turn m (add f Server p.server.history p.server.waiting (if_dialled f out) p.server.came p.client.history (unseen-link f out) (λ q. refl) o))
  where
    out : List Action
    out = (answer_to Client p.client.history turn).actions
turned-held f Server turn p m l o Server = add f Server _ p.server.waiting (if_dialled f (answer_to Server p.server.history turn).actions) p.server.came p.client.history (unseen-link f (answer_to Server p.server.history turn).actions)
    (λ q. begun-self Server p.server.history turn (link-dials f (answer_to Server p.server.history turn).actions q)) l
turned-held f Server turn p m l o Client =
    regroup f Client p.client.history p.client.waiting (if_dialled f out) _ p.client.came _
    (sent f Client p.client.history (p.client.waiting ++ if_dialled f out) p.client.came p.server.history turn m
    (add f Client p.client.history p.client.waiting (if_dialled f out) p.client.came p.server.history (unseen-link f out) (λ q. absurd (clash (list_any dials out) (link-dials f out q) (answer-dials-not p.server.history turn m))) o))
  where
    out : List Action
    out = (answer_to Server p.server.history turn).actions

-- ---- what is acknowledged

unseen-ack : (f : PairFacts) (turn : Turn) → Unseen f (acknowledgement turn)
unseen-ack f (turns.End id) = record { items = (AnAck id, tt); marks = λ k. ap (λ (l : List Mark). l ++ []) (none-marked (id == k)); opens = λ kind. refl }
unseen-ack f turn = record { items = tt; marks = λ k. refl; opens = λ kind. refl }

ack-dials : (turn : Turn) → any_connects (acknowledgement turn) ≡ true → ⊥
ack-dials (turns.End id) q = cc q
ack-dials turn q = cc q

pub acknowledged-held : (f : PairFacts) (e : Side) (turn : Turn) (p : Ends) → AllHeld f p → AllHeld f (acknowledged e turn p)
acknowledged-held f Client turn p l Client = l Client
acknowledged-held f Client turn p l Server = add f Server p.server.history p.server.waiting (acknowledgement turn) p.server.came p.client.history (unseen-ack f turn) (λ q. refl) (l Server)
acknowledged-held f Server turn p l Client =
    add f Client p.client.history p.client.waiting (acknowledgement turn) p.client.came p.server.history (unseen-ack f turn) (λ q. absurd (ack-dials turn q)) (l Client)
acknowledged-held f Server turn p l Server = l Server

-- ---- a call, and more credit

plain-turn : (f : PairFacts) (e : Side) (turn : Turn) (p : Ends) → AllHeld f p → is_lawful e (end_at p e).history turn ≡ true → connects turn ≡ false
    → Takes f e (end_at p e).history (history_after e (end_at p e).history turn) None turn → AllHeld f (turned f e turn p)
plain-turn f e turn p l m c t =
    turned-held f e turn p m
    (subst (λ (b : Bool). Held f e (history_after e (end_at p e).history turn) (end_at p e).waiting b (end_at p (other e)).history) (ap (λ (b : Bool). (end_at p e).came || b) c ∙ or-none (end_at p e).came)
    (take_turn f e (end_at p e).history (history_after e (end_at p e).history turn) (end_at p e).waiting (end_at p e).waiting (end_at p e).came (end_at p (other e)).history None turn t (left-same f (end_at p e).waiting turn (l e).items) (l e)))
    (l (other e))

credit-not : (turn : Turn) → gives_credit turn ≡ true → connects turn ≡ false
credit-not (turns.Connected uni bi total fact) e = absurd (cc e)
credit-not turn e = refl

-- ---- what is delivered

connects-first : (n : ℕ) (t : Turn) → connects (first_of n t) ≡ connects t
connects-first n (turns.Bytes id piece) = refl
connects-first n t = refl

module _ (f : PairFacts) (e : Side) (h : History) (w : List Item) (came : Bool) (g : History) (l : Held f e h w came g)
    (back : (kind : ℕ) → peer_count (other e) (all_events g) kind ≤ local_count (actions_out h) kind) (fit-then : is_connected (all_events g) ≡ true → fits f ≡ true)
    (place n : ℕ) (x : Item) (at : item_at w place ≡ Some x) (may : may_deliver came w place n x ≡ true) where
  abbrev turn : Turn
  turn = first_of n x.turn

  abbrev more : List Item
  more = taken_at w place (left_of n x.stream x.turn)

  ready : ((came || connects x.turn) ≡ true) × (is_first w place x ≡ true)
  ready =
      let a = and-left ((came || connects x.turn) && is_first w place x) (takes_bytes x.turn n) may in
      (and-left (came || connects x.turn) (is_first w place x) a, and-right (came || connects x.turn) (is_first w place x) a)

  there : IsItem f x.stream x.turn
  there = item-there f w place x at l.items

  left : Left f w more x.stream turn
  left = left-there f w place n x.stream x.turn at there l.items ready.1

  kinds : OfKind e x.stream turn
  kinds = kind-of f e h w came g l x.stream turn (first-item f n x.stream x.turn there) (λ kind. (flat_map (item_opens kind) more, left.opens kind))

  pub took : is_lawful e h turn ≡ true → Held f e (history_after e h turn) more (came || connects x.turn) g
  took m = subst (λ (b : Bool). Held f e (history_after e h turn) more (came || b) g) (connects-first n x.turn)
      (take_turn f e h (history_after e h turn) w more came g x.stream turn (item-takes f e h l.own x.stream turn (first-item f n x.stream x.turn there) m kinds) left l)

  -- what isn't lawful at an open end brings no bytes and opens nothing
  abbrev Still : Option ℕ → Turn → Type 0
  Still o t = ((k : ℕ) → (bytes_marked (named_marks k o t) ≡ []) × (any_opens (named_marks k o t) ≡ false)) × ((kind : ℕ) → named_opens kind o t ≡ [])

  pub stale : is_lawful e h turn ≡ false → Held f e h more (came || connects x.turn) g
  stale m = subst (λ (b : Bool). Held f e h more (came || b) g) (connects-first n x.turn) (drop_turn f e h w more came g x.stream turn left (λ o. quiet o x.stream turn (first-item f n x.stream x.turn there) refl refl kinds) linked l)
    where
      none : (b : Bool) (k : ℕ) → (bytes_marked (marks_if b []) ≡ []) × (any_opens (marks_if b []) ≡ false)
      none true k = (refl, refl)
      none false k = (refl, refl)

      ends : (b : Bool) → (bytes_marked (marks_if b (Ended ∷ [])) ≡ []) × (any_opens (marks_if b (Ended ∷ [])) ≡ false)
      ends true = (refl, refl)
      ends false = (refl, refl)

      came-then : (t : Turn) → turn ≡ t → connects t ≡ false → came ≡ true
      came-then t q c = sym (or-none came) ∙ ap (λ (b : Bool). came || b) (sym (sym (connects-first n x.turn) ∙ ap connects q ∙ c)) ∙ ready.0

      opened : (j : ℕ) (t : Turn) → x.stream ≡ Some j → turn ≡ t → named_opens (j % 4) (Some j) t ≡ j ∷ [] → flat_map (item_opens (j % 4)) w ≡ j ∷ flat_map (item_opens (j % 4)) more
      opened j t p q s = left.opens (j % 4) ∙ ap (λ (l : List ℕ). l ++ flat_map (item_opens (j % 4)) more) (ap (λ (o : Option ℕ). named_opens (j % 4) o turn) p ∙ ap (named_opens (j % 4) (Some j)) q ∙ s)

      self : (j : ℕ) → marks_if (j % 4 == j % 4) (j ∷ []) ≡ j ∷ []
      self j = ap (λ (b : Bool). marks_if b (j ∷ [])) (eq-eqb (j % 4) (j % 4) refl)

      not-lawful : (t : Turn) → turn ≡ t → is_lawful e h t ≡ true → ⊥
      not-lawful t q y = clash (is_lawful e h turn) (ap (is_lawful e h) q ∙ y) m

      piece : (open_now : is_open h ≡ true) (id : ℕ) (bytes : List ℕ) → x.stream ≡ Some id → turn ≡ turns.Bytes id bytes → Still (Some id) (turns.Bytes id bytes)
      piece o id [] p q = (λ k. none (id == k) k, λ kind. refl)
      piece o id (b ∷ bytes) p q = absurd (not-lawful (turns.Bytes id (b ∷ bytes)) q (bytes-lawful f e h w came g l o back id b (map Byte bytes ++ flat_map (item_marks id) more)
          (left.marks id ∙ ap (λ (z : List Mark). z ++ flat_map (item_marks id) more) (ap (λ (r : Option ℕ). named_marks id r turn) p ∙ ap (named_marks id (Some id)) q ∙ ap (λ (c : Bool). marks_if c (map Byte (b ∷ bytes))) (eq-eqb id id refl))) (b ∷ bytes)))

      quiet : (open_now : is_open h ≡ true) (o : Option ℕ) (t : Turn) → IsItem f o t → x.stream ≡ o → turn ≡ t → OfKind e o t → Still o t
      quiet y o t (AUni j v) p q k = absurd (not-lawful turns.PeerUni q (uni-lawful f e h w came g l y (came-then turns.PeerUni q refl) fit-then j (flat_map (item_opens (j % 4)) more) (opened j turns.PeerUni p q (self j)) k))
      quiet y o t (ABi j v) p q k = absurd (not-lawful turns.PeerBi q (bi-lawful f e h w came g l y (came-then turns.PeerBi q refl) fit-then j (flat_map (item_opens (j % 4)) more) (opened j turns.PeerBi p q (self j)) k))
      quiet y o t (APiece id bytes) p q k = piece y id bytes p q
      quiet y o t (AnEnd id) p q k = (λ j. ends (id == j), λ kind. refl)
      quiet y o t (AReset id code) p q k = (λ j. ends (id == j), λ kind. refl)
      quiet y o t (AStop id code) p q k = (λ j. none (id == j) j, λ kind. refl)
      quiet y o t (AnAck id) p q k = (λ j. none (id == j) j, λ kind. refl)
      quiet y o t (ADatagram bytes) p q k = (λ j. (refl, refl), λ kind. refl)
      quiet y o t (ALoss reason) p q k = (λ j. (refl, refl), λ kind. refl)
      quiet y o t AConnection p q k = (λ j. (refl, refl), λ kind. refl)

      linked : connects turn ≡ true → is_open h ≡ true → fits f ≡ true → is_connected (all_events h) ≡ true
      linked c o q = by (is_connected (all_events h)) refl
        where
          lawful : (r : Option ℕ) (t : Turn) → IsItem f r t → turn ≡ t → is_connected (all_events h) ≡ false → ⊥
          lawful r t AConnection z y = not-lawful t z (link-lawful f e h w came g l o (any-at w place x at (sym (connects-first n x.turn) ∙ c)) q y)
          lawful r t (AUni j v) z y = let b = ap connects z in cc (c, b)
          lawful r t (ABi j v) z y = let b = ap connects z in cc (c, b)
          lawful r t (APiece id bytes) z y = let b = ap connects z in cc (c, b)
          lawful r t (AnEnd id) z y = let b = ap connects z in cc (c, b)
          lawful r t (AReset id code) z y = let b = ap connects z in cc (c, b)
          lawful r t (AStop id code) z y = let b = ap connects z in cc (c, b)
          lawful r t (AnAck id) z y = let b = ap connects z in cc (c, b)
          lawful r t (ADatagram bytes) z y = let b = ap connects z in cc (c, b)
          lawful r t (ALoss reason) z y = let b = ap connects z in cc (c, b)

          by : (b : Bool) → is_connected (all_events h) ≡ b → b ≡ true
          by true y = refl
          by false y = absurd (lawful x.stream turn (first-item f n x.stream x.turn there) refl y)

-- ---- events

ids-length : (kind n count : ℕ) → length (ids_from kind n count) ≡ count
ids-length kind n zero = refl
ids-length kind n (suc count) = ap suc (ids-length kind (suc n) count)

-- no more streams came at the other end than were opened here
back-of : (f : PairFacts) (e : Side) (h : History) (o : Side) (g : History) (w : List Item) (came : Bool) → IsHistory e h → Held f o g w came h → (kind : ℕ) → peer_count o (all_events g) kind ≤ local_count (actions_out h) kind
back-of f e h o g w came i l kind =
    let k = l.kind kind in
    let a = k.few in
    let b = length-append k.gone (flat_map (item_opens kind) w) in
    let c : length (k.gone ++ flat_map (item_opens kind) w) ≡ local_count (actions_out h) kind = ap length (k.all ∙ opens-emitted e h i kind) ∙ ids-length kind 0 (local_count (actions_out h) kind) in omega (arith, a, b, c)

arrival-held : (f : PairFacts) (to : Side) (place n : ℕ) (x : Item) (p : Ends) → AllHeld f p → item_at (end_at p to).waiting place ≡ Some x → may_deliver (end_at p to).came (end_at p to).waiting place n x ≡ true
    → (b : Bool) → is_lawful to (end_at p to).history (first_of n x.turn) ≡ b → AllHeld f (arrived f to (first_of n x.turn) b (taken to place n x p))
arrival-held f Client place n x p l at may true m e =
    acknowledged-held f Client (first_of n x.turn) (turned f Client (first_of n x.turn) (taken Client place n x p)) (turned-held f Client (first_of n x.turn) (taken Client place n x p) m
    (took f Client p.client.history p.client.waiting p.client.came p.server.history (l Client) (back-of f Client p.client.history Server p.server.history p.server.waiting p.server.came (l Client).own (l Server)) (l Server).fit place n x at may m) (l Server)) e
arrival-held f Server place n x p l at may true m e =
    acknowledged-held f Server (first_of n x.turn) (turned f Server (first_of n x.turn) (taken Server place n x p)) (turned-held f Server (first_of n x.turn) (taken Server place n x p) m
    (took f Server p.server.history p.server.waiting p.server.came p.client.history (l Server) (back-of f Server p.server.history Client p.client.history p.client.waiting p.client.came (l Server).own (l Client)) (l Client).fit place n x at may m) (l Client)) e
arrival-held f Client place n x p l at may false m Client =
    stale f Client p.client.history p.client.waiting p.client.came p.server.history (l Client) (back-of f Client p.client.history Server p.server.history p.server.waiting p.server.came (l Client).own (l Server)) (l Server).fit place n x at may m
arrival-held f Client place n x p l at may false m Server = l Server
arrival-held f Server place n x p l at may false m Client = l Client
arrival-held f Server place n x p l at may false m Server =
    stale f Server p.server.history p.server.waiting p.server.came p.client.history (l Server) (back-of f Server p.server.history Client p.client.history p.client.waiting p.client.came (l Server).own (l Client)) (l Client).fit place n x at may m

-- a datagram is lost
lost-held : (f : PairFacts) (e : Side) (h : History) (w : List Item) (came : Bool) (g : History) (place : ℕ) (x : Item) → Held f e h w came g → item_at w place ≡ Some x → brings_datagram x.turn ≡ true → Held f e h (taken_at w place []) came g
lost-held f e h w came g place x l at d = by x.stream x.turn (item-there f w place x at l.items) at d
  where
    by : (o : Option ℕ) (t : Turn) → IsItem f o t → item_at w place ≡ Some (item o t) → brings_datagram t ≡ true → Held f e h (taken_at w place []) came g
    by o t (ADatagram piece) q z = subst (λ (b : Bool). Held f e h (taken_at w place []) b g) (or-none came)
        (drop_turn f e h w (taken_at w place []) came g None (turns.Datagram piece) (left-lost f w place piece q l.items) (λ y. (λ k. (refl, refl), λ kind. refl)) (λ y. absurd (cc y)) l)
    by o t (AUni j v) q z = absurd (cc z)
    by o t (ABi j v) q z = absurd (cc z)
    by o t (APiece id bytes) q z = absurd (cc z)
    by o t (AnEnd id) q z = absurd (cc z)
    by o t (AReset id code) q z = absurd (cc z)
    by o t (AStop id code) q z = absurd (cc z)
    by o t (AnAck id) q z = absurd (cc z)
    by o t (ALoss reason) q z = absurd (cc z)
    by o t AConnection q z = absurd (cc z)

-- where something happens, this holds after it
abbrev After : (Ends → Type 0) → Option Happened → Type 0
After P None = Unit {0}
After P (Some x) = P x.ends

at-end-held : (f : PairFacts) (e : Side) (t : Turn) (p : Ends) → AllHeld f p → connects t ≡ false
    → (is_lawful e (end_at p e).history t ≡ true → Takes f e (end_at p e).history (history_after e (end_at p e).history t) None t) → (b : Bool) → (b ≡ true → is_lawful e (end_at p e).history t ≡ true)
    → After (AllHeld f) (at_end f e t p b)
at-end-held f e t p l c takes false m = tt
at-end-held f e t p l c takes true m = plain-turn f e t p l (m refl) c (takes (m refl))

happens-held : (f : PairFacts) (event : PairEvent) (p : Ends) → AllHeld f p → After (AllHeld f) (happens f event p)
happens-held f (pair_events.Call e call) p l =
    at-end-held f e (turns.Call call) p l refl (call-takes f e (end_at p e).history (l e).own call) (is_lawful e (end_at p e).history (turns.Call call)) (λ q. q)
happens-held f (pair_events.Credit e t) p l = by (gives_credit t) refl
  where
    by : (b : Bool) → gives_credit t ≡ b → After (AllHeld f) (at_end f e t p (b && is_lawful e (end_at p e).history t))
    by true q = at-end-held f e t p l (credit-not t q) (credit-takes f e (end_at p e).history (l e).own t q) (is_lawful e (end_at p e).history t) (λ x. x)
    by false q = tt
happens-held f (pair_events.Deliver to place n) p l = by (item_at (end_at p to).waiting place) refl
  where
    by : (o : Option Item) → item_at (end_at p to).waiting place ≡ o → After (AllHeld f) (delivered f to place n (delivered_item p to place n o) p)
    by None q = tt
    by (Some x) q = of (may_deliver (end_at p to).came (end_at p to).waiting place n x) refl
      where
        same : (s : Side) → is_lawful s (end_at (taken s place n x p) s).history (first_of n x.turn) ≡ is_lawful s (end_at p s).history (first_of n x.turn)
        same Client = refl
        same Server = refl

        of : (b : Bool) → may_deliver (end_at p to).came (end_at p to).waiting place n x ≡ b → After (AllHeld f) (delivered f to place n (if b then Some x else None) p)
        of true m = arrival-held f to place n x p l q m (is_lawful to (end_at (taken to place n x p) to).history (first_of n x.turn)) (sym (same to))
        of false m = tt
happens-held f (pair_events.Lose to place) p l = by (item_at (end_at p to).waiting place) refl
  where
    by : (o : Option Item) → item_at (end_at p to).waiting place ≡ o → After (AllHeld f) (lost to place p (is_datagram o))
    by None q = tt
    by (Some x) q = of to q (brings_datagram x.turn) refl
      where
        at-client : item_at p.client.waiting place ≡ Some x → brings_datagram x.turn ≡ true → AllHeld f (with_end Client (record p.client { waiting = taken_at p.client.waiting place [] }) p)
        at-client r d Client = lost-held f Client p.client.history p.client.waiting p.client.came p.server.history place x (l Client) r d
        at-client r d Server = l Server

        at-server : item_at p.server.waiting place ≡ Some x → brings_datagram x.turn ≡ true → AllHeld f (with_end Server (record p.server { waiting = taken_at p.server.waiting place [] }) p)
        at-server r d Client = l Client
        at-server r d Server = lost-held f Server p.server.history p.server.waiting p.server.came p.client.history place x (l Server) r d

        of : (s : Side) → item_at (end_at p s).waiting place ≡ Some x → (b : Bool) → brings_datagram x.turn ≡ b → After (AllHeld f) (lost s place p b)
        of s r false d = tt
        of Client r true d = at-client r d
        of Server r true d = at-server r d

-- ---- lists of events

run-held : (f : PairFacts) (events : List PairEvent) (p : Ends) → AllHeld f p → AllHeld f (run_from f p events).ends
run-held f [] p l = l
run-held f (event ∷ later) p l = by (happens f event p) (happens-held f event p l) (run-held f later)
  where
    by : (o : Option Happened) → After (AllHeld f) o → ((q : Ends) → AllHeld f q → AllHeld f (run_from f q later).ends) → AllHeld f (run_behind o (λ (after : Ends). run_from f after later) p).ends
    by None a again = l
    by (Some x) a again = again x.ends a

first-held : (f : PairFacts) (e : Side) → Held f e [] [] false []
first-held f e = record {
  own = tt;
  peers = tt;
  items = tt;
  stream = λ k. record { gone = []; all = refl; rest = []; front = refl; whole = λ o. refl; ended = λ o r. absurd (cc r); there = λ o r. absurd (cc r) };
  kind = λ kind. record { gone = []; all = refl; few = omega arith; exact = λ o. refl };
  begun = λ q. absurd (cc q);
  linked = λ c o q. absurd (cc c);
  fit = λ q. absurd (cc q);
}

at-first-held : (f : PairFacts) → AllHeld f at_first
at-first-held f Client = first-held f Client
at-first-held f Server = first-held f Server

-- of each list of events
pub all-held : (f : PairFacts) (events : List PairEvent) → AllHeld f (run_pair f events).ends
all-held f events = run-held f events at_first (at-first-held f)
