-- An end's history is what its own turns lead to.
use Rattle.std.specs.Prelude.{[], ◌&&◌, ◌++◌, ◌∷◌, ◌≡◌, Bool, List, None, Option, Some, false, if◌then◌else◌, true, ℕ}
use Rattle.std.proofs.Common.{◌∙◌, ap, refl, sym}
use Rattle.wt_meaning.specs.History.{History}
use Rattle.wt_meaning.specs.Lawful.{is_lawful}
use Rattle.wt_meaning.specs.Meaning.{answer_to, history_after}
use Rattle.wt_pair.specs.Claims.{is_at, own_turns, turn_in, turn_of, turns_behind}
use Rattle.wt_pair.specs.declared.answer.PairAnswer.{PairAnswer}
use Rattle.wt_pair.specs.declared.answer.PairAnswer.TheVariants as pair_answers
use Rattle.wt_pair.specs.declared.event.PairEvent.{PairEvent}
use Rattle.wt_pair.specs.declared.event.PairEvent.TheVariants as pair_events
use Rattle.wt_pair.specs.declared.event.PairFacts.{PairFacts}
use Rattle.wt_pair.specs.Link.{delivered_turn, first_of, is_datagram, item_at, may_deliver}
use Rattle.wt_pair.specs.declared.item.Item.{Item}
use Rattle.wt_pair.specs.Pair.{Ends, Happened, arrival_answer, arrived, at_end, at_first, delivered, delivered_item, end_at, end_of_event, gives_credit, happens, lost, run_behind, run_from, run_pair, taken, turned}
use Rattle.wt_promise.proofs.Accepted.{and-right}
use Rattle.wt_turn.specs.declared.turn.Turn.{Turn}
use Rattle.wt_turn.specs.declared.turn.Turn.TheVariants as turns
use Rattle.wt_wire.specs.declared.side.Side.{Side}
use Rattle.wt_wire.specs.declared.side.Side.TheVariants.{Client, Server}

-- the history after these turns
abbrev pub after_turns : Side → History → List Turn → History
after_turns side h [] = h
after_turns side h (turn ∷ later) = after_turns side (history_after side h turn) later

after-both : (side : Side) (h : History) (first later : List Turn) → after_turns side h (first ++ later) ≡ after_turns side (after_turns side h first) later
after-both side h [] later = refl
after-both side h (turn ∷ first) later = after-both side (history_after side h turn) first later

module _ (f : PairFacts) where
  -- what an event at this end does to the history of an end
  abbrev Moves : Side → Ends → Side → Option Turn → Option Happened → Type 0
  Moves e p at turn None = Unit {0}
  Moves e p at turn (Some x) = (end_at x.ends e).history ≡ after_turns e (end_at p e).history (turn_in e (end_at p e).history (is_at e at) turn)

  one-turn : (e : Side) (h : History) (turn : Turn) (b : Bool) → is_lawful e h turn ≡ b → (if b then history_after e h turn else h) ≡ after_turns e h (if is_lawful e h turn then turn ∷ [] else [])
  one-turn e h turn true m = sym (ap (λ (c : Bool). after_turns e h (if c then turn ∷ [] else [])) m)
  one-turn e h turn false m = sym (ap (λ (c : Bool). after_turns e h (if c then turn ∷ [] else [])) m)

  turned-moves : (e at : Side) (turn : Turn) (p : Ends) (a : PairAnswer) → is_lawful at (end_at p at).history turn ≡ true → Moves e p at (Some turn) (Some (record { answer = a; ends = turned f at turn p }))
  turned-moves Client Client turn p a m = one-turn Client p.client.history turn true m
  turned-moves Client Server turn p a m = refl
  turned-moves Server Client turn p a m = refl
  turned-moves Server Server turn p a m = one-turn Server p.server.history turn true m

  arrived-moves : (e to : Side) (turn : Turn) (p : Ends) (place n : ℕ) (x : Item) (a : PairAnswer) (b : Bool) → is_lawful to (end_at p to).history turn ≡ b
      → Moves e p to (Some turn) (Some (record { answer = a; ends = arrived f to turn b (taken to place n x p) }))
  arrived-moves Client Client turn p place n x a true m = one-turn Client p.client.history turn true m
  arrived-moves Client Client turn p place n x a false m = one-turn Client p.client.history turn false m
  arrived-moves Client Server turn p place n x a true m = refl
  arrived-moves Client Server turn p place n x a false m = refl
  arrived-moves Server Client turn p place n x a true m = refl
  arrived-moves Server Client turn p place n x a false m = refl
  arrived-moves Server Server turn p place n x a true m = one-turn Server p.server.history turn true m
  arrived-moves Server Server turn p place n x a false m = one-turn Server p.server.history turn false m

  at-end-moves : (e at : Side) (turn : Turn) (p : Ends) (c : Bool) → (c ≡ true → is_lawful at (end_at p at).history turn ≡ true) → Moves e p at (Some turn) (at_end f at turn p c)
  at-end-moves e at turn p false m = tt
  at-end-moves e at turn p true m = turned-moves e at turn p (pair_answers.Turn (answer_to at (end_at p at).history turn)) (m refl)

  same-lawful : (to : Side) (place n : ℕ) (x : Item) (p : Ends) (turn : Turn) → is_lawful to (end_at p to).history turn ≡ is_lawful to (end_at (taken to place n x p) to).history turn
  same-lawful Client place n x p turn = refl
  same-lawful Server place n x p turn = refl

  delivered-moves : (e to : Side) (p : Ends) (place n : ℕ) (o : Option Item) → Moves e p to (delivered_turn n o) (delivered f to place n (delivered_item p to place n o) p)
  delivered-moves e to p place n None = tt
  delivered-moves e to p place n (Some x) = by (may_deliver (end_at p to).came (end_at p to).waiting place n x)
    where
      by : (may : Bool) → Moves e p to (Some (first_of n x.turn)) (delivered f to place n (if may then Some x else None) p)
      by false = tt
      by true = arrived-moves e to (first_of n x.turn) p place n x (arrival_answer to (first_of n x.turn) (taken to place n x p))
          (is_lawful to (end_at (taken to place n x p) to).history (first_of n x.turn)) (same-lawful to place n x p (first_of n x.turn))

  lost-moves : (e to : Side) (p : Ends) (place : ℕ) (c : Bool) → Moves e p to None (lost to place p c)
  lost-moves e to p place false = tt
  lost-moves Client Client p place true = refl
  lost-moves Client Server p place true = refl
  lost-moves Server Client p place true = refl
  lost-moves Server Server p place true = refl

  happens-moves : (e : Side) (event : PairEvent) (p : Ends) → Moves e p (end_of_event event) (turn_of event p) (happens f event p)
  happens-moves e (pair_events.Call at call) p = at-end-moves e at (turns.Call call) p (is_lawful at (end_at p at).history (turns.Call call)) (λ m. m)
  happens-moves e (pair_events.Deliver to place n) p = delivered-moves e to p place n (item_at (end_at p to).waiting place)
  happens-moves e (pair_events.Lose to place) p = lost-moves e to p place (is_datagram (item_at (end_at p to).waiting place))
  happens-moves e (pair_events.Credit to turn) p =
      at-end-moves e to turn p (gives_credit turn && is_lawful to (end_at p to).history turn) (and-right (gives_credit turn) (is_lawful to (end_at p to).history turn))

  run-moves : (e : Side) (events : List PairEvent) (p : Ends) → (end_at (run_from f p events).ends e).history ≡ after_turns e (end_at p e).history (own_turns e f p events)
  run-moves e [] p = refl
  run-moves e (event ∷ later) p = by (happens f event p) (happens-moves e event p) (run-moves e later)
    where
      by : (o : Option Happened) → Moves e p (end_of_event event) (turn_of event p) o
          → ((q : Ends) → (end_at (run_from f q later).ends e).history ≡ after_turns e (end_at q e).history (own_turns e f q later))
          → (end_at (run_behind o (λ (after : Ends). run_from f after later) p).ends e).history
          ≡ after_turns e (end_at p e).history (turns_behind (turn_in e (end_at p e).history (is_at e (end_of_event event)) (turn_of event p)) o (λ (after : Ends). own_turns e f after later))
      by None m again = refl
      by (Some x) m again =
          again x.ends ∙ ap (λ (h : History). after_turns e h (own_turns e f x.ends later)) m
          ∙ sym (after-both e (end_at p e).history (turn_in e (end_at p e).history (is_at e (end_of_event event)) (turn_of event p)) (own_turns e f x.ends later))

-- from the start
pub ends-history : (f : PairFacts) (events : List PairEvent) (e : Side) → (end_at (run_pair f events).ends e).history ≡ after_turns e [] (own_turns e f at_first events)
ends-history f events e = by e (run-moves f e events at_first)
  where
    by : (s : Side) → (end_at (run_pair f events).ends s).history ≡ after_turns s (end_at at_first s).history (own_turns s f at_first events) → (end_at (run_pair f events).ends s).history ≡ after_turns s [] (own_turns s f at_first events)
    by Client q = q
    by Server q = q
