-- Each end's answers are what its own turns mean.
use Rattle.std.specs.Prelude.{[], ◌&&◌, ◌++◌, ◌∷◌, ◌≡◌, Bool, List, None, Option, Some, false, if◌then◌else◌, true, ℕ}
use Rattle.std.proofs.Common.{◌∙◌, ap, refl, sym}
use Rattle.wt_meaning.specs.History.{History}
use Rattle.wt_meaning.specs.Lawful.{is_lawful}
use Rattle.wt_meaning.specs.Meaning.{answer_to, history_after, meaning_from}
use Rattle.wt_pair.specs.Claims.{EachMeans, answer_in, is_at, own_answers, own_turns, turn_in, turns_behind}
use Rattle.wt_pair.specs.declared.answer.PairAnswer.{PairAnswer}
use Rattle.wt_pair.specs.declared.answer.PairAnswer.TheVariants as pair_answers
use Rattle.wt_pair.specs.declared.event.PairEvent.{PairEvent}
use Rattle.wt_pair.specs.declared.event.PairEvent.TheVariants as pair_events
use Rattle.wt_pair.specs.declared.event.PairFacts.{PairFacts}
use Rattle.wt_pair.specs.Link.{delivered_turn, first_of, is_datagram, item_at, may_deliver}
use Rattle.wt_pair.specs.declared.item.Item.{Item}
use Rattle.wt_pair.specs.Pair.{Ends, Happened, arrived, at_end, at_first, delivered, delivered_item, end_at, end_of_event, gives_credit, lost, run_behind, run_from, run_pair, taken, turned}
use Rattle.wt_promise.proofs.Accepted.{and-right}
use Rattle.wt_turn.specs.declared.answer.Answer.{Answer}
use Rattle.wt_turn.specs.declared.call.Call.{Call}
use Rattle.wt_turn.specs.declared.turn.Turn.{Turn}
use Rattle.wt_wire.specs.declared.side.Side.{Side}
use Rattle.wt_wire.specs.declared.side.Side.TheVariants.{Client, Server}
use Rattle.wt_turn.specs.declared.turn.Turn.TheVariants as turns

module _ (f : PairFacts) (later : List PairEvent) where
  -- what an end answers to what comes later, and what its later turns mean
  abbrev behind_answers : Side → Ends → List Answer
  behind_answers e p = own_answers e later (run_from f p later).answers

  abbrev behind_turns : Side → Ends → List Turn
  behind_turns e p = own_turns e f p later

  abbrev Behind : Side → Type 0
  Behind e = (p : Ends) → behind_answers e p ≡ meaning_from e (end_at p e).history (behind_turns e p)

  -- a lawful turn at one end
  here : (e : Side) (h : History) (turn : Turn) (a : Answer) (answers : List Answer) (more : List Turn) → is_lawful e h turn ≡ true → a ≡ answer_to e h turn → answers ≡ meaning_from e (history_after e h turn) more
      → a ∷ answers ≡ meaning_from e h (turn_in e h true (Some turn) ++ more)
  here e h turn a answers more m s b =
      ap (λ (x : Answer). x ∷ answers) s ∙ ap (λ (xs : List Answer). answer_to e h turn ∷ xs) b ∙ ap (λ (c : Bool). meaning_from e h ((if c then turn ∷ [] else []) ++ more)) (sym m)

  turned-means : (e at : Side) (turn : Turn) (p : Ends) → is_lawful at (end_at p at).history turn ≡ true → Behind e
      → answer_in (is_at e at) (pair_answers.Turn (answer_to at (end_at p at).history turn)) ++ behind_answers e (turned f at turn p)
      ≡ meaning_from e (end_at p e).history (turn_in e (end_at p e).history (is_at e at) (Some turn) ++ behind_turns e (turned f at turn p))
  turned-means Client Client turn p m b =
      here Client p.client.history turn (answer_to Client p.client.history turn) (behind_answers Client (turned f Client turn p)) (behind_turns Client (turned f Client turn p)) m refl (b (turned f Client turn p))
  turned-means Client Server turn p m b = b (turned f Server turn p)
  turned-means Server Client turn p m b = b (turned f Client turn p)
  turned-means Server Server turn p m b =
      here Server p.server.history turn (answer_to Server p.server.history turn) (behind_answers Server (turned f Server turn p)) (behind_turns Server (turned f Server turn p)) m refl (b (turned f Server turn p))

  -- a turn that was delivered, where it is lawful or not
  abbrev answer_if : Bool → Side → Turn → Ends → PairAnswer
  answer_if b to turn q = if b then pair_answers.Turn (answer_to to (end_at q to).history turn) else pair_answers.Stale

  none-here : (e : Side) (h : History) (turn : Turn) (more : List Turn) → is_lawful e h turn ≡ false → meaning_from e h more ≡ meaning_from e h (turn_in e h true (Some turn) ++ more)
  none-here e h turn more m = ap (λ (c : Bool). meaning_from e h ((if c then turn ∷ [] else []) ++ more)) (sym m)

  arrived-means : (e to : Side) (turn : Turn) (p : Ends) (place n : ℕ) (x : Item) (b : Bool) → is_lawful to (end_at p to).history turn ≡ b → Behind e
      → answer_in (is_at e to) (answer_if b to turn (taken to place n x p)) ++ behind_answers e (arrived f to turn b (taken to place n x p))
      ≡ meaning_from e (end_at p e).history (turn_in e (end_at p e).history (is_at e to) (Some turn) ++ behind_turns e (arrived f to turn b (taken to place n x p)))
  arrived-means Client Client turn p place n x true m b = here Client p.client.history turn (answer_to Client p.client.history turn) (behind_answers Client (arrived f Client turn true (taken Client place n x p)))
      (behind_turns Client (arrived f Client turn true (taken Client place n x p))) m refl (b (arrived f Client turn true (taken Client place n x p)))
  arrived-means Client Server turn p place n x true m b = b (arrived f Server turn true (taken Server place n x p))
  arrived-means Server Client turn p place n x true m b = b (arrived f Client turn true (taken Client place n x p))
  arrived-means Server Server turn p place n x true m b = here Server p.server.history turn (answer_to Server p.server.history turn) (behind_answers Server (arrived f Server turn true (taken Server place n x p)))
      (behind_turns Server (arrived f Server turn true (taken Server place n x p))) m refl (b (arrived f Server turn true (taken Server place n x p)))
  arrived-means Client Client turn p place n x false m b = b (taken Client place n x p) ∙ none-here Client p.client.history turn (behind_turns Client (taken Client place n x p)) m
  arrived-means Client Server turn p place n x false m b = b (taken Server place n x p)
  arrived-means Server Client turn p place n x false m b = b (taken Client place n x p)
  arrived-means Server Server turn p place n x false m b = b (taken Server place n x p) ∙ none-here Server p.server.history turn (behind_turns Server (taken Server place n x p)) m

  -- ---- an event

  -- what an end answers from here on, where the event does this, and what its turns mean
  abbrev Means : Side → Ends → PairEvent → Option Turn → Option Happened → Type 0
  Means e p event turn o = own_answers e (event ∷ later) (run_behind o (λ (after : Ends). run_from f after later) p).answers
      ≡ meaning_from e (end_at p e).history (turns_behind (turn_in e (end_at p e).history (is_at e (end_of_event event)) turn) o (λ (after : Ends). own_turns e f after later))

  call-means : (e at : Side) (call : Call) (p : Ends) (b : Bool) → is_lawful at (end_at p at).history (turns.Call call) ≡ b → Behind e → Means e p (pair_events.Call at call) (Some (turns.Call call)) (at_end f at (turns.Call call) p b)
  call-means e at call p false m b = refl
  call-means e at call p true m b = turned-means e at (turns.Call call) p m b

  credit-means : (e to : Side) (turn : Turn) (p : Ends) (c : Bool) → (c ≡ true → is_lawful to (end_at p to).history turn ≡ true) → Behind e → Means e p (pair_events.Credit to turn) (Some turn) (at_end f to turn p c)
  credit-means e to turn p false m b = refl
  credit-means e to turn p true m b = turned-means e to turn p (m refl) b

  same-lawful : (to : Side) (place n : ℕ) (x : Item) (p : Ends) (turn : Turn) → is_lawful to (end_at p to).history turn ≡ is_lawful to (end_at (taken to place n x p) to).history turn
  same-lawful Client place n x p turn = refl
  same-lawful Server place n x p turn = refl

  delivered-means : (e to : Side) (p : Ends) (place n : ℕ) (o : Option Item) → Behind e → Means e p (pair_events.Deliver to place n) (delivered_turn n o) (delivered f to place n (delivered_item p to place n o) p)
  delivered-means e to p place n None b = refl
  delivered-means e to p place n (Some x) b = by (may_deliver (end_at p to).came (end_at p to).waiting place n x)
    where
      by : (may : Bool) → Means e p (pair_events.Deliver to place n) (Some (first_of n x.turn)) (delivered f to place n (if may then Some x else None) p)
      by false = refl
      by true = arrived-means e to (first_of n x.turn) p place n x (is_lawful to (end_at (taken to place n x p) to).history (first_of n x.turn)) (same-lawful to place n x p (first_of n x.turn)) b

  none-in : (e : Side) (h : History) (b : Bool) → turn_in e h b None ≡ []
  none-in e h true = refl
  none-in e h false = refl

  lost-means : (e to : Side) (p : Ends) (place : ℕ) (c : Bool) → Behind e → Means e p (pair_events.Lose to place) None (lost to place p c)
  lost-means e to p place false b = refl
  lost-means Client Client p place true b = b _
  lost-means Client Server p place true b = b _
  lost-means Server Client p place true b = b _
  lost-means Server Server p place true b = b _

each-means : (e : Side) (f : PairFacts) (events : List PairEvent) (p : Ends) → own_answers e events (run_from f p events).answers ≡ meaning_from e (end_at p e).history (own_turns e f p events)
each-means e f [] p = refl
each-means e f (pair_events.Call at call ∷ later) p = call-means f later e at call p (is_lawful at (end_at p at).history (turns.Call call)) refl (each-means e f later)
each-means e f (pair_events.Deliver to place n ∷ later) p = delivered-means f later e to p place n (item_at (end_at p to).waiting place) (each-means e f later)
each-means e f (pair_events.Lose to place ∷ later) p = lost-means f later e to p place (is_datagram (item_at (end_at p to).waiting place)) (each-means e f later)
each-means e f (pair_events.Credit to turn ∷ later) p =
    credit-means f later e to turn p (gives_credit turn && is_lawful to (end_at p to).history turn) (and-right (gives_credit turn) (is_lawful to (end_at p to).history turn)) (each-means e f later)

-- whatever the other end and the link do
pub each_means : (f : PairFacts) (events : List PairEvent) → EachMeans f events (run_pair f events).answers
each_means f events Client = each-means Client f events at_first
each_means f events Server = each-means Server f events at_first
