-- Two ends over a link: what each event does, and what the list of them leads to.
use Rattle.std.specs.Prelude.{[], ◌&&◌, ◌++◌, ◌∷◌, ◌||◌, Bool, List, None, Option, Some, false, filter_map, if◌then◌else◌, true, ℕ}
use Rattle.std.specs.List.{list_any}
use Rattle.wt_meaning.specs.History.{History}
use Rattle.wt_meaning.specs.Lawful.{is_lawful}
use Rattle.wt_meaning.specs.Meaning.{answer_to, history_after}
use Rattle.wt_pair.specs.declared.answer.PairAnswer.{PairAnswer}
use Rattle.wt_pair.specs.declared.answer.PairAnswer.TheVariants as pair_answers
use Rattle.wt_pair.specs.declared.event.PairEvent.{PairEvent}
use Rattle.wt_pair.specs.declared.event.PairEvent.TheVariants as pair_events
use Rattle.wt_pair.specs.declared.event.PairFacts.{PairFacts}
use Rattle.wt_pair.specs.Link.{connects, first_of, is_datagram, item_at, item_of, left_of, may_deliver, taken_at}
use Rattle.wt_pair.specs.declared.item.Item.{Item}
use Rattle.wt_turn.specs.Sent.{dials}
use Rattle.wt_turn.specs.declared.action.Action.{Action}
use Rattle.wt_turn.specs.declared.turn.Turn.{Turn}
use Rattle.wt_turn.specs.declared.turn.Turn.TheVariants as turns
use Rattle.wt_wire.specs.declared.side.Side.{Side}
use Rattle.wt_wire.specs.declared.side.Side.TheVariants.{Client, Server}

-- one end: its turns with their answers, what waits for it, and whether its `Connected` was delivered
pub record End : Type 0 where
  pub history : History
  pub waiting : List Item
  pub came : Bool

-- both
pub record Ends : Type 0 where
  pub client : End
  pub server : End

abbrev pub other : Side → Side
other Client = Server
other Server = Client

abbrev pub end_at : Ends → Side → End
end_at p Client = p.client
end_at p Server = p.server

-- the history of each
abbrev pub histories : Ends → Side → History
histories p e = (end_at p e).history

abbrev pub with_end : Side → End → Ends → Ends
with_end Client e p = record p { client = e }
with_end Server e p = record p { server = e }

-- an end at which nothing happened
abbrev pub no_end : End
no_end = record { history = []; waiting = []; came = false }

-- nothing happened
abbrev pub at_first : Ends
at_first = record { client = no_end; server = no_end }

-- ---- what waits more

abbrev pub with_items : List Item → End → End
with_items xs e = record e { waiting = e.waiting ++ xs }

-- the connection, for an end
abbrev pub connected : PairFacts → Item
connected f = record { stream = None; turn = turns.Connected f.uni f.bi f.credit f.datagrams }

-- a dial brings the connection to both ends
abbrev pub if_dialled : PairFacts → List Action → List Item
if_dialled f out = if list_any dials out then connected f ∷ [] else []

-- the items of what goes out at this end wait for the other
abbrev pub sent_from : PairFacts → Side → List Action → Ends → Ends
sent_from f e out p = with_end (other e) (with_items (if_dialled f out ++ filter_map item_of out) (end_at p (other e)))
    (with_end e (with_items (if_dialled f out) (end_at p e)) p)

-- ---- a turn at an end

abbrev pub with_turn : Side → Turn → End → End
with_turn side turn e = record e { history = history_after side e.history turn }

-- the end takes the turn, and what goes out there waits for the other
abbrev pub turned : PairFacts → Side → Turn → Ends → Ends
turned f e turn p = sent_from f e (answer_to e (end_at p e).history turn).actions (with_end e (with_turn e turn (end_at p e)) p)

-- the end of a stream that comes is acknowledged to the end that sent it
abbrev pub acknowledgement : Turn → List Item
acknowledgement (turns.End id) = record { stream = Some id; turn = turns.Acked id } ∷ []
acknowledgement turn = []

abbrev pub acknowledged : Side → Turn → Ends → Ends
acknowledged e turn p = with_end (other e) (with_items (acknowledgement turn) (end_at p (other e))) p

-- ---- events

-- the end at which the event happens
abbrev pub end_of_event : PairEvent → Side
end_of_event (pair_events.Call e call) = e
end_of_event (pair_events.Deliver to place n) = to
end_of_event (pair_events.Lose to place) = to
end_of_event (pair_events.Credit to turn) = to

-- the item that the event takes, where it may
abbrev pub delivered_item : Ends → Side → ℕ → ℕ → Option Item → Option Item
delivered_item p to place n None = None
delivered_item p to place n (Some x) = if may_deliver (end_at p to).came (end_at p to).waiting place n x then Some x else None

-- the item is taken, and so many bytes of it
abbrev pub taken : Side → ℕ → ℕ → Item → Ends → Ends
taken to place n x p = with_end to (record (end_at p to) { waiting = taken_at (end_at p to).waiting place (left_of n x.stream x.turn); came = (end_at p to).came || connects x.turn }) p

-- its turn comes at the end, where it is still lawful there
abbrev pub arrived : PairFacts → Side → Turn → Bool → Ends → Ends
arrived f to turn true p = acknowledged to turn (turned f to turn p)
arrived f to turn false p = p

abbrev pub arrival : PairFacts → Side → Turn → Ends → Ends
arrival f to turn p = arrived f to turn (is_lawful to (end_at p to).history turn) p

abbrev pub arrival_answer : Side → Turn → Ends → PairAnswer
arrival_answer to turn p = if is_lawful to (end_at p to).history turn then pair_answers.Turn (answer_to to (end_at p to).history turn) else pair_answers.Stale

-- the turn gives credit
abbrev pub gives_credit : Turn → Bool
gives_credit (turns.MaxUni total) = true
gives_credit (turns.MaxBi total) = true
gives_credit (turns.MaxData id total) = true
gives_credit _ = false

-- what happens, where it may: an answer and both ends after it
pub record Happened : Type 0 where
  pub answer : PairAnswer
  pub ends : Ends

-- a turn that was delivered comes at the end
abbrev pub arrives : PairFacts → Side → Turn → Ends → Happened
arrives f to turn p = record { answer = arrival_answer to turn p; ends = arrival f to turn p }

abbrev pub at_end : PairFacts → Side → Turn → Ends → Bool → Option Happened
at_end f e turn p true = Some (record { answer = pair_answers.Turn (answer_to e (end_at p e).history turn); ends = turned f e turn p })
at_end f e turn p false = None

abbrev pub delivered : PairFacts → Side → ℕ → ℕ → Option Item → Ends → Option Happened
delivered f to place n None p = None
delivered f to place n (Some x) p = Some (arrives f to (first_of n x.turn) (taken to place n x p))

abbrev pub lost : Side → ℕ → Ends → Bool → Option Happened
lost to place p true = Some (record { answer = pair_answers.Lost; ends = with_end to (record (end_at p to) { waiting = taken_at (end_at p to).waiting place [] }) p })
lost to place p false = None

-- an event; None where it doesn't fit
abbrev pub happens : PairFacts → PairEvent → Ends → Option Happened
happens f (pair_events.Call e call) p = at_end f e (turns.Call call) p (is_lawful e (end_at p e).history (turns.Call call))
happens f (pair_events.Deliver to place n) p = delivered f to place n (delivered_item p to place n (item_at (end_at p to).waiting place)) p
happens f (pair_events.Lose to place) p = lost to place p (is_datagram (item_at (end_at p to).waiting place))
happens f (pair_events.Credit to turn) p = at_end f to turn p (gives_credit turn && is_lawful to (end_at p to).history turn)

-- ---- lists of events

-- the answers to the events up to the first that doesn't fit, whether all fit, and both ends then
pub record PairRun : Type 0 where
  pub answers : List PairAnswer
  pub is_all : Bool
  pub ends : Ends

abbrev pub with_answer : PairAnswer → PairRun → PairRun
with_answer a r = record r { answers = a ∷ r.answers }

-- where the event fits its answer and the run of those behind it, else the end of the run
abbrev pub run_behind : Option Happened → (Ends → PairRun) → Ends → PairRun
run_behind None behind p = record { answers = []; is_all = false; ends = p }
run_behind (Some x) behind p = with_answer x.answer (behind x.ends)

abbrev pub run_from : PairFacts → Ends → List PairEvent → PairRun
run_from f p [] = record { answers = []; is_all = true; ends = p }
run_from f p (event ∷ later) = run_behind (happens f event p) (λ (after : Ends). run_from f after later) p

abbrev pub run_pair : PairFacts → List PairEvent → PairRun
run_pair f events = run_from f at_first events
