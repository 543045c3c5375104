-- Each payload is received at most as often as the other end sent it: a datagram comes once, or is lost.
use Rattle.std.specs.Prelude.{[], ◌&&◌, ◌*◌, ◌++◌, ◌+◌, ◌/◌, ◌<◌, ◌==◌, ◌^◌, ◌∷◌, ◌≡◌, ◌≤◌, Bool, List, None, Option, Some, drop, false, filter, filter_map, flat_map, if◌then◌else◌, length, map, nat_eq, suc, take, true, ℕ}
use Rattle.std.specs.List.{cons_option, list_any}
use Rattle.std.specs.Cmp.Lexicographic.{pointwise}
use Rattle.std.proofs.Common.{◌∙◌, ap, arith, refl, subst, sym}
use Rattle.std.proofs.lemmas.List.{append-nil}
use Rattle.std.proofs.lemmas.List.Concat.{flat_map-append}
use Rattle.wt_meaning.specs.History.{History, events, is_open, with_event}
use Rattle.wt_meaning.specs.Lawful.{is_lawful}
use Rattle.wt_meaning.specs.Meaning.{after_bytes, answer_to, history_after, step}
use Rattle.wt_meaning.specs.Windows.{named}
use Rattle.wt_message.specs.Datagram.{datagram_bytes, datagram_of}
use Rattle.wt_message.proofs.DatagramLaws.{datagram_again}
use Rattle.wt_pair.proofs.Keeps.{all-held}
use Rattle.wt_pair.proofs.Marks.{emitted, emitted-after, view-items}
use Rattle.wt_pair.proofs.Plain.{SendsDatagrams, SendsNone, SendsOne, act_datagrams, next-datagrams}
use Rattle.wt_pair.proofs.Sessions.{session-id}
use Rattle.wt_pair.proofs.Views.{view-left, view-split}
use Rattle.wt_pair.specs.Claims.{ReceivedAsSent, sent_by, sent_payload, sent_payloads, times}
use Rattle.wt_pair.specs.declared.event.PairEvent.{PairEvent}
use Rattle.wt_pair.specs.declared.event.PairEvent.TheVariants as pair_events
use Rattle.wt_pair.specs.declared.event.PairFacts.{PairFacts}
use Rattle.wt_pair.specs.Link.{brings_datagram, first_of, is_datagram, item_at, item_of, left_of, may_deliver, taken_at}
use Rattle.wt_pair.specs.declared.item.Item.{Item}
use Rattle.wt_pair.specs.Pair.{Ends, Happened, acknowledged, acknowledgement, arrived, at_end, at_first, delivered, delivered_item, end_at, gives_credit, happens, histories, if_dialled, lost, other, run_behind, run_from, run_pair, taken, turned, with_end}
use Rattle.wt_promise.proofs.Came.{payloads_came}
use Rattle.wt_promise.proofs.Waiting.{named-established}
use Rattle.wt_promise.specs.Found.{IsSubsequence, LeftOut, Nil, Taken, said_by}
use Rattle.wt_promise.specs.Promise.{IsHistory, payloads}
use Rattle.wt_promise.specs.Sides.{arrived as arrived_at}
use Rattle.wt_turn.specs.Reports.{datagrams_of}
use Rattle.wt_turn.specs.declared.action.Action.{Action}
use Rattle.wt_turn.specs.Sent.{dials}
use Rattle.wt_turn.specs.Turns.{event_of}
use Rattle.wt_turn.specs.declared.reply.Reply.{Reply}
use Rattle.wt_turn.specs.declared.turn.Turn.{Turn}
use Rattle.wt_wire.specs.Ids.{is_bidirectional}
use Rattle.wt_wire.specs.declared.side.Side.{Side}
use Rattle.wt_wire.specs.declared.side.Side.TheVariants.{Client, Server}
use Rattle.wt_turn.specs.declared.action.Action.TheVariants as actions
use Rattle.wt_turn.specs.declared.call.Call.TheVariants as calls
use Rattle.wt_turn.specs.declared.reply.Reply.TheVariants as replies
use Rattle.wt_turn.specs.declared.turn.Turn.TheVariants as turns

-- ---- counts

-- how many pass the test
abbrev count : {T : Type 0} → (T → Bool) → List T → ℕ
count t xs = length (filter t xs)

count-parts : {T : Type 0} (t : T → Bool) (xs ys : List T) → count t (xs ++ ys) ≡ count t xs + count t ys
count-parts t [] ys = omega arith
count-parts {T = T} t (x ∷ xs) ys = by (t x) (count-parts t xs ys)
  where
    by : (b : Bool) → count t (xs ++ ys) ≡ count t xs + count t ys → length (if b then x ∷ filter t (xs ++ ys) else filter t (xs ++ ys)) ≡ length (if b then x ∷ filter t xs else filter t xs) + count t ys
    by true e = omega (arith, e)
    by false e = e

-- of a subsequence no more
count-less : {T : Type 0} (t : T → Bool) (xs ys : List T) → IsSubsequence xs ys → count t xs ≤ count t ys
count-less t xs ys (Nil zs) = omega arith
count-less {T = T} t xs ys (LeftOut us y zs s) = by (t y) (count-less t us zs s)
  where
    by : (b : Bool) → count t us ≤ count t zs → count t us ≤ length (if b then y ∷ filter t zs else filter t zs)
    by true e = omega (arith, e)
    by false e = e
count-less {T = T} t xs ys (Taken us y zs s) = by (t y) (count-less t us zs s)
  where
    by : (b : Bool) → count t us ≤ count t zs → length (if b then y ∷ filter t us else filter t us) ≤ length (if b then y ∷ filter t zs else filter t zs)
    by true e = omega (arith, e)
    by false e = e

-- ---- what a datagram says

-- it says this payload, for this session
abbrev says : ℕ → List ℕ → Option (ℕ × List ℕ) → Bool
says s payload None = false
says s payload (Some d) = d.0 == s && pointwise nat_eq payload d.1

abbrev said : ℕ → List ℕ → List ℕ → Bool
said s payload piece = says s payload (said_by (datagram_of piece))

came-count : (s : ℕ) (payload : List ℕ) (pieces : List (List ℕ))
    → times payload (map (λ (d : ℕ × List ℕ). d.1) (filter (λ (d : ℕ × List ℕ). d.0 == s) (filter_map (λ (piece : List ℕ). said_by (datagram_of piece)) pieces))) ≡ count (said s payload) pieces
came-count s payload [] = refl
came-count s payload (p ∷ pieces) = by (said_by (datagram_of p)) (came-count s payload pieces)
  where
    rest : List (ℕ × List ℕ)
    rest = filter_map (λ (piece : List ℕ). said_by (datagram_of piece)) pieces

    one : (d : ℕ × List ℕ) (a b : Bool) → pointwise nat_eq payload d.1 ≡ b → times payload (map (λ (x : ℕ × List ℕ). x.1) (filter (λ (x : ℕ × List ℕ). x.0 == s) rest)) ≡ count (said s payload) pieces
        → times payload (map (λ (x : ℕ × List ℕ). x.1) (if a then d ∷ filter (λ (x : ℕ × List ℕ). x.0 == s) rest else filter (λ (x : ℕ × List ℕ). x.0 == s) rest))
        ≡ length (if a && b then p ∷ filter (said s payload) pieces else filter (said s payload) pieces)
    one d false b q e = e
    one d true true q e = ap (λ (c : Bool). length (if c then d.1 ∷ filter (pointwise nat_eq payload) (map (λ (x : ℕ × List ℕ). x.1) (filter (λ (x : ℕ × List ℕ). x.0 == s) rest)) else filter (pointwise nat_eq payload) (map (λ (x : ℕ × List ℕ). x.1) (filter (λ (x : ℕ × List ℕ). x.0 == s) rest)))) q ∙ ap suc e
    one d true false q e = ap (λ (c : Bool). length (if c then d.1 ∷ filter (pointwise nat_eq payload) (map (λ (x : ℕ × List ℕ). x.1) (filter (λ (x : ℕ × List ℕ). x.0 == s) rest)) else filter (pointwise nat_eq payload) (map (λ (x : ℕ × List ℕ). x.1) (filter (λ (x : ℕ × List ℕ). x.0 == s) rest)))) q ∙ e

    by : (o : Option (ℕ × List ℕ)) → times payload (map (λ (x : ℕ × List ℕ). x.1) (filter (λ (x : ℕ × List ℕ). x.0 == s) rest)) ≡ count (said s payload) pieces
        → times payload (map (λ (x : ℕ × List ℕ). x.1) (filter (λ (x : ℕ × List ℕ). x.0 == s) (cons_option o rest))) ≡ length (if says s payload o then p ∷ filter (said s payload) pieces else filter (said s payload) pieces)
    by None e = e
    by (Some d) e = one d (d.0 == s) (pointwise nat_eq payload d.1) refl e

-- what a session received came in datagrams that say so
received-count : (side : Side) (h : History) → IsHistory side h → (s : ℕ) (payload : List ℕ) → times payload (payloads h s) ≤ count (said s payload) (datagrams_of (events h))
received-count side h i s payload =
    let a = count-less (pointwise nat_eq payload) (payloads h s) (arrived_at h s) (payloads_came side h i s) in
    let b = came-count s payload (datagrams_of (events h)) in omega (arith, a, b)

-- and such a datagram goes out for a payload that was sent
sent-count : (side : Side) (g : History) → IsHistory side g → (s : ℕ) (payload : List ℕ) → count (said s payload) (emitted act_datagrams g) ≤ times payload (sent_payloads g s)
sent-count side [] i s payload = omega arith
sent-count side (p ∷ g) i s payload = by (subst (SendsDatagrams g p.turn) (sym i.1) (next-datagrams side g p.turn)) (sent-count side g i.2 s payload)
  where
    out : List (List ℕ)
    out = flat_map act_datagrams p.answer.actions

    paid : List (List ℕ)
    paid = sent_by g s p.turn p.answer.reply

    Goal : Type 0
    Goal = count (said s payload) (emitted act_datagrams g ++ out) ≤ times payload (sent_payloads g s ++ paid)

    join : count (said s payload) (emitted act_datagrams g) ≤ times payload (sent_payloads g s) → count (said s payload) out ≤ times payload paid → Goal
    join a b = let c = count-parts (said s payload) (emitted act_datagrams g) out in let d = count-parts (pointwise nat_eq payload) (sent_payloads g s) paid in omega (arith, a, b, c, d)

    one : (q : List ℕ) (name : Option ℕ) (r : ℕ) → p.turn ≡ turns.Call (calls.SendDatagram q name) → p.answer.reply ≡ replies.Done → named g name ≡ Some r → out ≡ datagram_bytes (r / 4) q ∷ [] → count (said s payload) out ≤ times payload paid
    one q name r t d n e =
        let id = session-id side g i.2 r (named-established g name r n) in
        let x = id.0 in
        let y = id.1 in
        let l : r / 4 < 2 ^ 60 = omega (arith, y) in
        let z : 4 * (r / 4) ≡ r = omega (arith, x) in
        let spoken : said_by (datagram_of (datagram_bytes (r / 4) q)) ≡ Some (r, q) = ap said_by (datagram_again (r / 4) q l) ∙ ap (λ (m : ℕ). Some (m, q)) z in
        let one-out : count (said s payload) out ≡ length (if r == s && pointwise nat_eq payload q then datagram_bytes (r / 4) q ∷ [] else [])
        = ap (count (said s payload)) e ∙ ap (λ (o : Option (ℕ × List ℕ)). length (if says s payload o then datagram_bytes (r / 4) q ∷ [] else [])) spoken in
        let one-paid : times payload paid ≡ times payload (if r == s then q ∷ [] else [])
        = ap (λ (u : Turn). times payload (sent_by g s u p.answer.reply)) t ∙ ap (λ (a : Reply). times payload (sent_payload (named g name) s q a)) d ∙ ap (λ (o : Option ℕ). times payload (sent_payload o s q replies.Done)) n in
        let c = same (datagram_bytes (r / 4) q) (r == s) (pointwise nat_eq payload q) refl in omega (arith, one-out, one-paid, c)
      where
        same : (piece : List ℕ) (a b : Bool) → pointwise nat_eq payload q ≡ b → length (if a && b then piece ∷ [] else []) ≤ times payload (if a then q ∷ [] else [])
        same piece true true f = let n : times payload (q ∷ []) ≡ 1 = ap (λ (c : Bool). length (if c then q ∷ [] else [])) f in omega (arith, n)
        same piece true false f = omega arith
        same piece false b f = omega arith

    by : SendsDatagrams g p.turn p.answer → count (said s payload) (emitted act_datagrams g) ≤ times payload (sent_payloads g s) → Goal
    by (SendsNone e) a = join a (let z : count (said s payload) out ≡ 0 = ap (count (said s payload)) e in omega (arith, z))
    by (SendsOne q name r t d n e) a = join a (one q name r t d n e)

-- ---- what waits

abbrev turn_datagrams : Turn → List (List ℕ)
turn_datagrams (turns.Datagram piece) = piece ∷ []
turn_datagrams _ = []

abbrev item_datagrams : Item → List (List ℕ)
item_datagrams x = turn_datagrams x.turn

item-datagram : (a : Action) → flat_map item_datagrams (filter_map item_of (a ∷ [])) ≡ act_datagrams a
item-datagram (actions.Opened id) = by (is_bidirectional id)
  where
    by : (b : Bool) → turn_datagrams (if b then turns.PeerBi else turns.PeerUni) ++ [] ≡ []
    by true = refl
    by false = refl
item-datagram (actions.Dial address name) = refl
item-datagram (actions.DatagramOut piece) = refl
item-datagram a = refl

-- ---- what a turn leaves

module _ (t : List ℕ → Bool) where
  bytes-same : (e : Side) (k : ℕ) (piece : List ℕ) (h : History) → datagrams_of (events (after_bytes e h k piece)) ≡ datagrams_of (events h)
  bytes-same e k [] h = refl
  bytes-same e k (b ∷ piece) h = bytes-same e k piece (step e h (turns.Bytes k (b ∷ []))) ∙ by (is_open h)
    where
      by : (o : Bool) → datagrams_of (if o then events h else events h) ≡ datagrams_of (events h)
      by true = refl
      by false = refl

  came-later : (e : Side) (h : History) (turn : Turn) → count t (datagrams_of (events (history_after e h turn))) ≤ count t (datagrams_of (events h)) + count t (turn_datagrams turn)
  came-later e h (turns.Bytes id piece) = let s = ap (count t) (bytes-same e id piece h) in omega (arith, s)
  came-later e h turn = by (is_open h) turn
    where
      by : (o : Bool) (u : Turn) → count t (datagrams_of (if o then with_event (event_of u) (events h) else events h)) ≤ count t (datagrams_of (events h)) + count t (turn_datagrams u)
      by false u = omega arith
      by true (turns.Datagram piece) = let s = count-parts t (datagrams_of (events h)) (piece ∷ []) in omega (arith, s)
      by true u = omega arith

  -- ---- both ends

  -- of the datagrams that pass, those that came, some more, and those that wait are no more than went out
  abbrev Spared : ℕ → History → List Item → History → Type 0
  Spared m h w g = count t (datagrams_of (events h)) + m + count t (flat_map item_datagrams w) ≤ count t (emitted act_datagrams g)

  abbrev CarriedAt : Ends → Side → Type 0
  CarriedAt p e = Spared 0 (end_at p e).history (end_at p e).waiting (end_at p (other e)).history

  abbrev AllCarried : Ends → Type 0
  AllCarried p = (e : Side) → CarriedAt p e

  none-dialled : (f : PairFacts) (out : List Action) → flat_map item_datagrams (if_dialled f out) ≡ []
  none-dialled f out = by (list_any dials out)
    where
      by : (b : Bool) → flat_map item_datagrams (if b then record { stream = None; turn = turns.Connected f.uni f.bi f.credit f.datagrams } ∷ [] else []) ≡ []
      by true = refl
      by false = refl

  none-acknowledged : (turn : Turn) → flat_map item_datagrams (acknowledgement turn) ≡ []
  none-acknowledged (turns.End id) = refl
  none-acknowledged turn = refl

  more-waits : (w xs : List Item) → flat_map item_datagrams xs ≡ [] → count t (flat_map item_datagrams (w ++ xs)) ≡ count t (flat_map item_datagrams w)
  more-waits w xs z = ap (count t) (flat_map-append item_datagrams w xs ∙ ap (λ (l : List (List ℕ)). flat_map item_datagrams w ++ l) z ∙ append-nil (flat_map item_datagrams w))

  -- the end that takes the turn, and the other
  self-carried : (f : PairFacts) (e : Side) (h : History) (w : List Item) (g : History) (turn : Turn) → Spared (count t (turn_datagrams turn)) h w g → Spared 0 (history_after e h turn) (w ++ if_dialled f (answer_to e h turn).actions) g
  self-carried f e h w g turn s =
      let a = came-later e h turn in let b = more-waits w (if_dialled f (answer_to e h turn).actions) (none-dialled f (answer_to e h turn).actions) in omega (arith, s, a, b)

  other-carried : (f : PairFacts) (e : Side) (h : History) (w : List Item) (g : History) (turn : Turn) → Spared 0 g w h → Spared 0 g (w ++ (if_dialled f (answer_to e h turn).actions ++ filter_map item_of (answer_to e h turn).actions)) (history_after e h turn)
  other-carried f e h w g turn s =
      let a = ap (count t) (flat_map-append item_datagrams w (if_dialled f out ++ filter_map item_of out) ∙ ap (λ (l : List (List ℕ)). flat_map item_datagrams w ++ l) (flat_map-append item_datagrams (if_dialled f out) (filter_map item_of out) ∙ ap (λ (l : List (List ℕ)). l ++ flat_map item_datagrams (filter_map item_of out)) (none-dialled f out) ∙ view-items act_datagrams item_datagrams item-datagram out)) in
      let b = count-parts t (flat_map item_datagrams w) (flat_map act_datagrams out) in
      let c = ap (count t) (emitted-after act_datagrams (λ i p q. refl) e h turn) in
      let d = count-parts t (emitted act_datagrams h) (flat_map act_datagrams out) in omega (arith, s, a, b, c, d)
    where
      out : List Action
      out = (answer_to e h turn).actions

  turned-carried : (f : PairFacts) (e : Side) (turn : Turn) (p : Ends) → Spared (count t (turn_datagrams turn)) (end_at p e).history (end_at p e).waiting (end_at p (other e)).history → CarriedAt p (other e) → AllCarried (turned f e turn p)
  turned-carried f Client turn p s o Client = self-carried f Client p.client.history p.client.waiting p.server.history turn s
  turned-carried f Client turn p s o Server = other-carried f Client p.client.history p.server.waiting p.server.history turn o
  turned-carried f Server turn p s o Client = other-carried f Server p.server.history p.client.waiting p.client.history turn o
  turned-carried f Server turn p s o Server = self-carried f Server p.server.history p.server.waiting p.client.history turn s

  ack-carried : (e : Side) (turn : Turn) (p : Ends) → AllCarried p → AllCarried (acknowledged e turn p)
  ack-carried Client turn p l Client = l Client
  ack-carried Client turn p l Server = let a = l Server in let b = more-waits p.server.waiting (acknowledgement turn) (none-acknowledged turn) in omega (arith, a, b)
  ack-carried Server turn p l Client = let a = l Client in let b = more-waits p.client.waiting (acknowledgement turn) (none-acknowledged turn) in omega (arith, a, b)
  ack-carried Server turn p l Server = l Server

  -- ---- an item is taken

  none-left : (n : ℕ) (o : Option ℕ) (u : Turn) → flat_map item_datagrams (left_of n o u) ≡ []
  none-left n o (turns.Bytes id piece) = by (n == length piece)
    where
      by : (c : Bool) → flat_map item_datagrams (if c then [] else record { stream = o; turn = turns.Bytes id (drop n piece) } ∷ []) ≡ []
      by true = refl
      by false = refl
  none-left n o u = refl

  first-same : (n : ℕ) (u : Turn) → turn_datagrams (first_of n u) ≡ turn_datagrams u
  first-same n (turns.Bytes id piece) = refl
  first-same n u = refl

  waits-less : (w : List Item) (place : ℕ) (x : Item) (left : List Item) → item_at w place ≡ Some x → flat_map item_datagrams left ≡ []
      → count t (flat_map item_datagrams w) ≡ count t (turn_datagrams x.turn) + count t (flat_map item_datagrams (taken_at w place left))
  waits-less w place x left at z =
      let a = ap (count t) (view-split item_datagrams w place x at) in
      let b = count-parts t (flat_map item_datagrams (take place w)) (turn_datagrams x.turn ++ flat_map item_datagrams (drop (suc place) w)) in
      let c = count-parts t (turn_datagrams x.turn) (flat_map item_datagrams (drop (suc place) w)) in
      let d = ap (count t) (view-left item_datagrams w place left ∙ ap (λ (l : List (List ℕ)). flat_map item_datagrams (take place w) ++ (l ++ flat_map item_datagrams (drop (suc place) w))) z) in
      let e = count-parts t (flat_map item_datagrams (take place w)) (flat_map item_datagrams (drop (suc place) w)) in omega (arith, a, b, c, d, e)

  -- of an end that takes it, and of one where its turn isn't lawful
  took-carried : (h : History) (w : List Item) (g : History) (place n : ℕ) (x : Item) → item_at w place ≡ Some x → Spared 0 h w g → Spared (count t (turn_datagrams (first_of n x.turn))) h (taken_at w place (left_of n x.stream x.turn)) g
  took-carried h w g place n x at s =
      let a = waits-less w place x (left_of n x.stream x.turn) at (none-left n x.stream x.turn) in let b = ap (count t) (first-same n x.turn) in omega (arith, s, a, b)

  gone-carried : (h : History) (w : List Item) (g : History) (place : ℕ) (x : Item) (left : List Item) → item_at w place ≡ Some x → flat_map item_datagrams left ≡ [] → Spared 0 h w g → Spared 0 h (taken_at w place left) g
  gone-carried h w g place x left at z s = let a = waits-less w place x left at z in omega (arith, s, a)

  arrival-carried : (f : PairFacts) (to : Side) (place n : ℕ) (x : Item) (p : Ends) → AllCarried p → item_at (end_at p to).waiting place ≡ Some x → (b : Bool) → AllCarried (arrived f to (first_of n x.turn) b (taken to place n x p))
  arrival-carried f Client place n x p l at true e = ack-carried Client (first_of n x.turn) (turned f Client (first_of n x.turn) (taken Client place n x p))
      (turned-carried f Client (first_of n x.turn) (taken Client place n x p) (took-carried p.client.history p.client.waiting p.server.history place n x at (l Client)) (l Server)) e
  arrival-carried f Server place n x p l at true e = ack-carried Server (first_of n x.turn) (turned f Server (first_of n x.turn) (taken Server place n x p))
      (turned-carried f Server (first_of n x.turn) (taken Server place n x p) (took-carried p.server.history p.server.waiting p.client.history place n x at (l Server)) (l Client)) e
  arrival-carried f Client place n x p l at false Client = gone-carried p.client.history p.client.waiting p.server.history place x (left_of n x.stream x.turn) at (none-left n x.stream x.turn) (l Client)
  arrival-carried f Client place n x p l at false Server = l Server
  arrival-carried f Server place n x p l at false Client = l Client
  arrival-carried f Server place n x p l at false Server = gone-carried p.server.history p.server.waiting p.client.history place x (left_of n x.stream x.turn) at (none-left n x.stream x.turn) (l Server)

  lost-carried : (to : Side) (place : ℕ) (x : Item) (p : Ends) → AllCarried p → item_at (end_at p to).waiting place ≡ Some x → AllCarried (with_end to (record (end_at p to) { waiting = taken_at (end_at p to).waiting place [] }) p)
  lost-carried Client place x p l at Client = gone-carried p.client.history p.client.waiting p.server.history place x [] at refl (l Client)
  lost-carried Client place x p l at Server = l Server
  lost-carried Server place x p l at Client = l Client
  lost-carried Server place x p l at Server = gone-carried p.server.history p.server.waiting p.client.history place x [] at refl (l Server)

  -- ---- events

  abbrev After : Option Happened → Type 0
  After None = Unit {0}
  After (Some x) = AllCarried x.ends

  plain-carried : (f : PairFacts) (e : Side) (turn : Turn) (p : Ends) → turn_datagrams turn ≡ [] → AllCarried p → (b : Bool) → After (at_end f e turn p b)
  plain-carried f e turn p z l false = tt
  plain-carried f e turn p z l true = turned-carried f e turn p (let a = l e in let b : count t (turn_datagrams turn) ≡ 0 = ap (count t) z in omega (arith, a, b)) (l (other e))

  credit-none : (turn : Turn) → gives_credit turn ≡ true → turn_datagrams turn ≡ []
  credit-none (turns.Datagram piece) q = absurd (cc q)
  credit-none turn q = refl

  happens-carried : (f : PairFacts) (event : PairEvent) (p : Ends) → AllCarried p → After (happens f event p)
  happens-carried f (pair_events.Call e call) p l = plain-carried f e (turns.Call call) p refl l (is_lawful e (end_at p e).history (turns.Call call))
  happens-carried f (pair_events.Credit e turn) p l = by (gives_credit turn) refl
    where
      by : (b : Bool) → gives_credit turn ≡ b → After (at_end f e turn p (b && is_lawful e (end_at p e).history turn))
      by true q = plain-carried f e turn p (credit-none turn q) l (is_lawful e (end_at p e).history turn)
      by false q = tt
  happens-carried f (pair_events.Deliver to place n) p l = by (item_at (end_at p to).waiting place) refl
    where
      by : (o : Option Item) → item_at (end_at p to).waiting place ≡ o → After (delivered f to place n (delivered_item p to place n o) p)
      by None q = tt
      by (Some x) q = of (may_deliver (end_at p to).came (end_at p to).waiting place n x)
        where
          of : (b : Bool) → After (delivered f to place n (if b then Some x else None) p)
          of true = arrival-carried f to place n x p l q (is_lawful to (end_at (taken to place n x p) to).history (first_of n x.turn))
          of false = tt
  happens-carried f (pair_events.Lose to place) p l = by (item_at (end_at p to).waiting place) refl
    where
      by : (o : Option Item) → item_at (end_at p to).waiting place ≡ o → After (lost to place p (is_datagram o))
      by None q = tt
      by (Some x) q = of (brings_datagram x.turn)
        where
          of : (b : Bool) → After (lost to place p b)
          of true = lost-carried to place x p l q
          of false = tt

  run-carried : (f : PairFacts) (events : List PairEvent) (p : Ends) → AllCarried p → AllCarried (run_from f p events).ends
  run-carried f [] p l = l
  run-carried f (event ∷ later) p l = by (happens f event p) (happens-carried f event p l) (run-carried f later)
    where
      by : (o : Option Happened) → After o → ((q : Ends) → AllCarried q → AllCarried (run_from f q later).ends) → AllCarried (run_behind o (λ (after : Ends). run_from f after later) p).ends
      by None a again = l
      by (Some x) a again = again x.ends a

  at-first-carried : AllCarried at_first
  at-first-carried Client = omega arith
  at-first-carried Server = omega arith

-- whatever the events are
pub received_as_sent : (f : PairFacts) (events : List PairEvent) → ReceivedAsSent (histories (run_pair f events).ends)
received_as_sent f events e s payload =
    let p : Ends = (run_pair f events).ends in
    let l = all-held f events in
    let a = received-count e (end_at p e).history (l e).own s payload in
    let b = run-carried (said s payload) f events at_first (at-first-carried (said s payload)) e in
    let c = sent-count (other e) (end_at p (other e)).history (l e).peers s payload in omega (arith, a, b, c)
