-- A step of two ends, seen from one of them: what each part of it leads to.
use Rattle.std.specs.Prelude.{[], ◌&&◌, ◌++◌, ◌∷◌, ◌||◌, ◌≡◌, Bool, Err, IfOk, List, None, Ok, Option, Result, Some, false, filter_map, if◌then◌else◌, option_to_list, true, ℕ}
use Rattle.std.specs.List.{cons_option}
use Rattle.std.proofs.Common.{◌∙◌, ap, append_assoc, refl, subst, sym}
use Rattle.std.proofs.lemmas.List.{append-nil}
use Rattle.wt_meaning.specs.Lawful.{is_lawful}
use Rattle.wt_meaning.specs.Meaning.{answer_to}
use Rattle.wt_pair.specs.Keeping.{Becomes, KeepsBoth, KeepsEnd, KeepsPair, Steps, TakesTurn, link_of}
use Rattle.wt_pair.specs.Kept.{EndNow, LinkNow, PairNow, delivered_from, lost_from, ready_at, ready_item, with_more, without_item}
use Rattle.wt_pair.specs.Link.{connects, delivered_turn, first_of, is_datagram, item_at, item_of, left_of, taken_at}
use Rattle.wt_pair.specs.Pair.{End, Ends, Happened, acknowledgement, arrived, arrives, at_end, delivered, delivered_item, end_at, end_of_event, gives_credit, happens, if_dialled, lost, other, taken, turned, with_end, with_items, with_turn}
use Rattle.wt_pair.specs.declared.answer.PairAnswer.{PairAnswer}
use Rattle.wt_pair.specs.declared.answer.PairAnswer.TheVariants as pair_answers
use Rattle.wt_pair.specs.declared.event.PairEvent.{PairEvent}
use Rattle.wt_pair.specs.declared.event.PairEvent.TheVariants as pair_events
use Rattle.wt_pair.specs.declared.event.PairFacts.{PairFacts}
use Rattle.wt_pair.specs.declared.item.Item.{Item}
use Rattle.wt_turn.specs.declared.action.Action.{Action}
use Rattle.wt_turn.specs.declared.answer.Answer.{Answer}
use Rattle.wt_turn.specs.declared.turn.Turn.{Turn}
use Rattle.wt_wire.specs.declared.side.Side.{Side}
use Rattle.wt_wire.specs.declared.side.Side.TheVariants.{Client, Server}

-- ---- both ends

-- what is kept of both is of any ends that are these two
both : (side : Side) (here there : EndNow) (p : Ends) (e o : End) → end_at p side ≡ e → end_at p (other side) ≡ o → KeepsEnd side here e → KeepsEnd (other side) there o → KeepsBoth side here there p
both side here there p e o q r x y = record { here = subst (λ (z : End). KeepsEnd side here z) (sym q) x; there = subst (λ (z : End). KeepsEnd (other side) there z) (sym r) y }

-- more waits for an end
more-waits : (side : Side) (now : EndNow) (link : LinkNow) (e : End) (xs : List Item) → KeepsEnd side now e → link ≡ with_more xs now.link → KeepsEnd side (record { core = now.core; link = link }) (with_items xs e)
more-waits side now link e xs k q = record { core = k.core; link = q ∙ ap (with_more xs) k.link }

here-last : (side : Side) (e : End) (p : Ends) → end_at (with_end side e p) side ≡ e
here-last Client e p = refl
here-last Server e p = refl

there-same : (side : Side) (e : End) (p : Ends) → end_at (with_end side e p) (other side) ≡ end_at p (other side)
there-same Client e p = refl
there-same Server e p = refl

there-last : (side : Side) (e : End) (p : Ends) → end_at (with_end (other side) e p) (other side) ≡ e
there-last Client e p = refl
there-last Server e p = refl

here-same : (side : Side) (e : End) (p : Ends) → end_at (with_end (other side) e p) side ≡ end_at p side
here-same Client e p = refl
here-same Server e p = refl

-- ---- what goes out

pub no-more : (l : LinkNow) → with_more [] l ≡ l
no-more l = ap (λ (w : List Item). record { waiting = w; came = l.came }) (append-nil l.waiting)

-- one action after another
pub one-more : (l now first : LinkNow) (a : Action) (actions rest all : List Action) → actions ≡ a ∷ rest → now ≡ with_more (option_to_list (item_of a)) l
    → with_more (filter_map item_of actions) l ≡ with_more (filter_map item_of all) first → with_more (filter_map item_of rest) now ≡ with_more (filter_map item_of all) first
one-more l now first a actions rest all e q g =
    ap (with_more (filter_map item_of rest)) q ∙ by (item_of a) (filter_map item_of rest) ∙ sym (ap (λ (as_ : List Action). with_more (filter_map item_of as_) l) e) ∙ g
  where
    by : (o : Option Item) (xs : List Item) → with_more xs (with_more (option_to_list o) l) ≡ with_more (cons_option o xs) l
    by None xs = ap (with_more xs) (no-more l)
    by (Some x) xs = ap (λ (w : List Item). record { waiting = w; came = l.came }) (append_assoc l.waiting (x ∷ []) xs)

-- ---- a turn

-- what goes out at the end by this turn
abbrev sent : Side → Turn → Ends → List Action
sent side turn p = (answer_to side (end_at p side).history turn).actions

turned-here : (f : PairFacts) (side : Side) (turn : Turn) (p : Ends) → end_at (turned f side turn p) side ≡ with_items (if_dialled f (sent side turn p)) (with_turn side turn (end_at p side))
turned-here f Client turn p = refl
turned-here f Server turn p = refl

turned-there : (f : PairFacts) (side : Side) (turn : Turn) (p : Ends)
    → end_at (turned f side turn p) (other side) ≡ with_items (if_dialled f (sent side turn p) ++ filter_map item_of (sent side turn p)) (end_at p (other side))
turned-there f Client turn p = refl
turned-there f Server turn p = refl

-- a turn that the end took, once what goes out waits for the other
pub turn-becomes : (f : PairFacts) (side : Side) (turn : Turn) (p : Ends) (here there now : EndNow) (hl tl : LinkNow) (a : Answer)
    → KeepsBoth side here there p → TakesTurn side (end_at p side) turn (Some a) now → hl ≡ with_more (if_dialled f a.actions) now.link
    → tl ≡ with_more (if_dialled f a.actions ++ filter_map item_of a.actions) there.link
    → Becomes side p (at_end f side turn p (is_lawful side (end_at p side).history turn)) (Some (pair_answers.Turn a)) (record { core = now.core; link = hl }) (record { core = there.core; link = tl })
turn-becomes f side turn p here there now hl tl a k (lawful, is, kept) hq tq =
    subst (λ (b : Bool). Becomes side p (at_end f side turn p b) (Some (pair_answers.Turn a)) (record { core = now.core; link = hl }) (record { core = there.core; link = tl })) (sym lawful) (
      ap (λ (x : Answer). Some (pair_answers.Turn x)) is,
      both side (record { core = now.core; link = hl }) (record { core = there.core; link = tl }) (turned f side turn p) (with_items (if_dialled f (sent side turn p)) (with_turn side turn (end_at p side)))
          (with_items (if_dialled f (sent side turn p) ++ filter_map item_of (sent side turn p)) (end_at p (other side))) (turned-here f side turn p) (turned-there f side turn p)
          (more-waits side now hl (with_turn side turn (end_at p side)) (if_dialled f (sent side turn p)) kept (hq ∙ ap (λ (x : Answer). with_more (if_dialled f x.actions) now.link) is))
          (more-waits (other side) there tl (end_at p (other side)) (if_dialled f (sent side turn p) ++ filter_map item_of (sent side turn p)) k.there
          (tq ∙ ap (λ (x : Answer). with_more (if_dialled f x.actions ++ filter_map item_of x.actions) there.link) is)),
    )

-- a turn that isn't lawful
pub turn-refused : (f : PairFacts) (side : Side) (turn : Turn) (p : Ends) (here there now : EndNow) → KeepsBoth side here there p → TakesTurn side (end_at p side) turn None now
    → Becomes side p (at_end f side turn p (is_lawful side (end_at p side).history turn)) None now there
turn-refused f side turn p here there now k (unlawful, kept) =
    subst (λ (b : Bool). Becomes side p (at_end f side turn p b) None now there) (sym unlawful) (refl, record { here = kept; there = k.there })

-- ---- credit

pub credit-becomes : (f : PairFacts) (side : Side) (turn : Turn) (p : Ends) (answer : Option PairAnswer) (here there : EndNow) → gives_credit turn ≡ true
    → Becomes side p (at_end f side turn p (is_lawful side (end_at p side).history turn)) answer here there → Becomes side p (happens f (pair_events.Credit side turn) p) answer here there
credit-becomes f side turn p answer here there e b =
    subst (λ (c : Bool). Becomes side p (at_end f side turn p (c && is_lawful side (end_at p side).history turn)) answer here there) (sym e) b

pub no-credit : (f : PairFacts) (side : Side) (turn : Turn) (p : Ends) (here there : EndNow) → gives_credit turn ≡ false → KeepsBoth side here there p
    → Becomes side p (happens f (pair_events.Credit side turn) p) None here there
no-credit f side turn p here there e k =
    subst (λ (c : Bool). Becomes side p (at_end f side turn p (c && is_lawful side (end_at p side).history turn)) None here there) (sym e) (refl, k)

-- ---- the loss of a datagram

pub lost-becomes : (f : PairFacts) (side : Side) (place : ℕ) (p : Ends) (here there : EndNow) (link : LinkNow) (b : Bool) → KeepsBoth side here there p
    → b ≡ is_datagram (item_at here.link.waiting place) → link ≡ lost_from place here.link b
    → Becomes side p (happens f (pair_events.Lose side place) p) (if b then Some pair_answers.Lost else None) (record { core = here.core; link = link }) there
lost-becomes f side place p here there link b k q l =
    by b (q ∙ ap (λ (w : LinkNow). is_datagram (item_at w.waiting place)) k.here.link) (l ∙ ap (λ (w : LinkNow). lost_from place w b) k.here.link)
  where
    by : (c : Bool) → c ≡ is_datagram (item_at (end_at p side).waiting place) → link ≡ lost_from place (link_of (end_at p side)) c
        → Becomes side p (lost side place p (is_datagram (item_at (end_at p side).waiting place))) (if c then Some pair_answers.Lost else None) (record { core = here.core; link = link }) there
    by true d m =
        subst (λ (x : Bool). Becomes side p (lost side place p x) (Some pair_answers.Lost) (record { core = here.core; link = link }) there) d (
          refl,
          both side (record { core = here.core; link = link }) there (with_end side (record (end_at p side) { waiting = taken_at (end_at p side).waiting place [] }) p)
              (record (end_at p side) { waiting = taken_at (end_at p side).waiting place [] }) (end_at p (other side))
              (here-last side (record (end_at p side) { waiting = taken_at (end_at p side).waiting place [] }) p) (there-same side (record (end_at p side) { waiting = taken_at (end_at p side).waiting place [] }) p)
              (record { core = k.here.core; link = m }) k.there,
        )
    by false d m =
        subst (λ (x : Bool). Becomes side p (lost side place p x) None (record { core = here.core; link = link }) there) d (refl, record { here = record { core = k.here.core; link = m }; there = k.there })

-- ---- a delivery

-- what is ready at the end is what the definitions deliver there
ready-is : (p : Ends) (side : Side) (place n : ℕ) (o : Option Item) → ready_item (link_of (end_at p side)) place n o ≡ delivered_item p side place n o
ready-is p side place n None = refl
ready-is p side place n (Some x) = refl

ready-at : (p : Ends) (side : Side) (place n : ℕ) (now : EndNow) → KeepsEnd side now (end_at p side) → ready_at now.link place n ≡ delivered_item p side place n (item_at (end_at p side).waiting place)
ready-at p side place n now k = ap (λ (l : LinkNow). ready_at l place n) k.link ∙ ready-is p side place n (item_at (end_at p side).waiting place)

-- the ends after an item was taken
taken-keeps : (side : Side) (place n : ℕ) (x : Item) (p : Ends) (here there : EndNow) (link : LinkNow) → KeepsBoth side here there p → link ≡ without_item place n x here.link
    → KeepsBoth side (record { core = here.core; link = link }) there (taken side place n x p)
taken-keeps side place n x p here there link k l =
    both side (record { core = here.core; link = link }) there (taken side place n x p) e (end_at p (other side)) (here-last side e p) (there-same side e p)
    (record { core = k.here.core; link = l ∙ ap (without_item place n x) k.here.link }) k.there
  where
    e : End
    e = record (end_at p side) { waiting = taken_at (end_at p side).waiting place (left_of n x.stream x.turn); came = (end_at p side).came || connects x.turn }

pub deliver-becomes : (f : PairFacts) (side : Side) (place n : ℕ) (p : Ends) (here there : EndNow) (turn : Turn) (link : LinkNow) (answer : Option PairAnswer) (later far : EndNow)
    → KeepsBoth side here there p → Some turn ≡ delivered_turn n (ready_at here.link place n) → link ≡ delivered_from place n here.link (ready_at here.link place n)
    → ((q : Ends) → KeepsBoth side (record { core = here.core; link = link }) there q → Becomes side q (Some (arrives f side turn q)) answer later far)
    → Becomes side p (happens f (pair_events.Deliver side place n) p) answer later far
deliver-becomes f side place n p here there turn link answer later far k t l arrived =
    by (delivered_item p side place n (item_at (end_at p side).waiting place)) (ready-at p side place n here k.here)
  where
    by : (o : Option Item) → ready_at here.link place n ≡ o → Becomes side p (delivered f side place n o p) answer later far
    by None e = absurd (let c : Some turn ≡ None = t ∙ ap (delivered_turn n) e in cc c)
    by (Some x) e =
        let c : Some turn ≡ Some (first_of n x.turn) = t ∙ ap (delivered_turn n) e in
        let same : turn ≡ first_of n x.turn = cc c in
        subst (λ (u : Turn). Becomes side p (Some (arrives f side u (taken side place n x p))) answer later far) same
        (arrived (taken side place n x p) (taken-keeps side place n x p here there link k (l ∙ ap (delivered_from place n here.link) e)))

-- whatever memory does
pub deliver-ends : {E : Type 0} (r : Result (Option PairAnswer) E) (f : PairFacts) (side : Side) (place n : ℕ) (p : Ends) (here there : EndNow) (turn : Turn) (link : LinkNow) (later far : EndNow)
    → KeepsBoth side here there p → Some turn ≡ delivered_turn n (ready_at here.link place n) → link ≡ delivered_from place n here.link (ready_at here.link place n)
    → ((q : Ends) → KeepsBoth side (record { core = here.core; link = link }) there q → IfOk r (λ answer. Becomes side q (Some (arrives f side turn q)) answer later far))
    → IfOk r (λ answer. Becomes side p (happens f (pair_events.Deliver side place n) p) answer later far)
deliver-ends (Ok answer) f side place n p here there turn link later far k t l arrived = deliver-becomes f side place n p here there turn link answer later far k t l arrived
deliver-ends (Err e) f side place n p here there turn link later far k t l arrived = tt

pub none-delivered : (f : PairFacts) (side : Side) (place n : ℕ) (p : Ends) (here there : EndNow) (link : LinkNow) → KeepsBoth side here there p
    → None ≡ delivered_turn n (ready_at here.link place n) → link ≡ delivered_from place n here.link (ready_at here.link place n)
    → Becomes side p (happens f (pair_events.Deliver side place n) p) None (record { core = here.core; link = link }) there
none-delivered f side place n p here there link k t l = by (delivered_item p side place n (item_at (end_at p side).waiting place)) (ready-at p side place n here k.here)
  where
    by : (o : Option Item) → ready_at here.link place n ≡ o → Becomes side p (delivered f side place n o p) None (record { core = here.core; link = link }) there
    by None e = (refl, record { here = record { core = k.here.core; link = l ∙ ap (delivered_from place n here.link) e ∙ k.here.link }; there = k.there })
    by (Some x) e = absurd (let c : None ≡ Some (first_of n x.turn) = t ∙ ap (delivered_turn n) e in cc c)

-- ---- the turn that a delivery brings

-- what its arrival comes to, where it is lawful or not
abbrev arrives_if : PairFacts → Side → Turn → Ends → Bool → Happened
arrives_if f side turn p b = record { answer = if b then pair_answers.Turn (answer_to side (end_at p side).history turn) else pair_answers.Stale; ends = arrived f side turn b p }

pub arrival-answered : (f : PairFacts) (side : Side) (turn : Turn) (p : Ends) (a : PairAnswer) (here there : EndNow) (link : LinkNow)
    → Becomes side p (at_end f side turn p (is_lawful side (end_at p side).history turn)) (Some a) here there → link ≡ with_more (acknowledgement turn) there.link
    → Becomes side p (Some (arrives f side turn p)) (Some a) here (record { core = there.core; link = link })
arrival-answered f side turn p a here there link b l = by (is_lawful side (end_at p side).history turn) b
  where
    by : (c : Bool) → Becomes side p (at_end f side turn p c) (Some a) here there → Becomes side p (Some (arrives_if f side turn p c)) (Some a) here (record { core = there.core; link = link })
    by true (q, k) = (
      q,
      both side here (record { core = there.core; link = link }) (arrived f side turn true p) (end_at (turned f side turn p) side) (with_items (acknowledgement turn) (end_at (turned f side turn p) (other side)))
          (here-same side (with_items (acknowledgement turn) (end_at (turned f side turn p) (other side))) (turned f side turn p))
          (there-last side (with_items (acknowledgement turn) (end_at (turned f side turn p) (other side))) (turned f side turn p))
          k.here (more-waits (other side) there link (end_at (turned f side turn p) (other side)) (acknowledgement turn) k.there l),
    )
    by false (q, k) = absurd (cc q)

pub arrival-stale : (f : PairFacts) (side : Side) (turn : Turn) (p : Ends) (here there : EndNow) → Becomes side p (at_end f side turn p (is_lawful side (end_at p side).history turn)) None here there
    → Becomes side p (Some (arrives f side turn p)) (Some pair_answers.Stale) here there
arrival-stale f side turn p here there b = by (is_lawful side (end_at p side).history turn) b
  where
    by : (c : Bool) → Becomes side p (at_end f side turn p c) None here there → Becomes side p (Some (arrives_if f side turn p c)) (Some pair_answers.Stale) here there
    by true (q, k) = absurd (cc q)
    by false (q, k) = (refl, k)

-- ---- both sides

pub client-steps : (f : PairFacts) (p : Ends) (o : Option Happened) (answer : Option PairAnswer) (now : PairNow) → now.facts ≡ f → Becomes Client p o answer now.client now.server → Steps f p o answer now
client-steps f p (Some x) answer now e (q, k) = (q, record { facts = e; client = k.here; server = k.there })
client-steps f p None answer now e (q, k) = (q, record { facts = e; client = k.here; server = k.there })

pub server-steps : (f : PairFacts) (p : Ends) (o : Option Happened) (answer : Option PairAnswer) (now : PairNow) → now.facts ≡ f → Becomes Server p o answer now.server now.client → Steps f p o answer now
server-steps f p (Some x) answer now e (q, k) = (q, record { facts = e; client = k.there; server = k.here })
server-steps f p None answer now e (q, k) = (q, record { facts = e; client = k.there; server = k.here })

-- an event that happens at the client
pub client-ends : {E : Type 0} (r : Result (Option PairAnswer) E) (f g : PairFacts) (event : PairEvent) (p : Ends) (client server later far : EndNow) → end_of_event event ≡ Client
    → KeepsPair f (record { facts = g; client = client; server = server }) p
    → ((q : Ends) → KeepsBoth (end_of_event event) client server q → IfOk r (λ answer. Becomes (end_of_event event) q (happens g event q) answer later far))
    → IfOk r (λ answer. Steps f p (happens f event p) answer (record { facts = g; client = later; server = far }))
client-ends (Err x) f g event p client server later far e k happened = tt
client-ends (Ok answer) f g event p client server later far e k happened =
    client-steps f p (happens f event p) answer (record { facts = g; client = later; server = far }) k.facts
    (subst (λ (x : PairFacts). Becomes Client p (happens x event p) answer later far) k.facts
    (subst (λ (s : Side). Becomes s p (happens g event p) answer later far) e (happened p (subst (λ (s : Side). KeepsBoth s client server p) (sym e) (record { here = k.client; there = k.server })))))

-- and at the server
pub server-ends : {E : Type 0} (r : Result (Option PairAnswer) E) (f g : PairFacts) (event : PairEvent) (p : Ends) (client server later far : EndNow) → end_of_event event ≡ Server
    → KeepsPair f (record { facts = g; client = client; server = server }) p
    → ((q : Ends) → KeepsBoth (end_of_event event) server client q → IfOk r (λ answer. Becomes (end_of_event event) q (happens g event q) answer later far))
    → IfOk r (λ answer. Steps f p (happens f event p) answer (record { facts = g; client = far; server = later }))
server-ends (Err x) f g event p client server later far e k happened = tt
server-ends (Ok answer) f g event p client server later far e k happened =
    server-steps f p (happens f event p) answer (record { facts = g; client = far; server = later }) k.facts
    (subst (λ (x : PairFacts). Becomes Server p (happens x event p) answer later far) k.facts
    (subst (λ (s : Side). Becomes s p (happens g event p) answer later far) e (happened p (subst (λ (s : Side). KeepsBoth s server client p) (sym e) (record { here = k.server; there = k.client })))))
