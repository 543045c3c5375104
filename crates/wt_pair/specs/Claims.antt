-- What holds of two ends over a link, whatever happens.
use Rattle.std.specs.Prelude.{[], ◌++◌, ◌==◌, ◌∷◌, ◌≡◌, ◌≤◌, Bool, List, None, Option, Some, false, filter, if◌then◌else◌, length, nat_eq, take, true, ℕ}
use Rattle.std.specs.Cmp.Lexicographic.{pointwise}
use Rattle.wt_meaning.specs.History.{History, contents, is_open, out}
use Rattle.wt_meaning.specs.Lawful.{is_lawful}
use Rattle.wt_meaning.specs.Meaning.{meaning, with_pair}
use Rattle.wt_meaning.specs.Windows.{named}
use Rattle.wt_pair.specs.declared.answer.PairAnswer.{PairAnswer}
use Rattle.wt_pair.specs.declared.answer.PairAnswer.TheVariants as pair_answers
use Rattle.wt_pair.specs.declared.event.PairEvent.{PairEvent}
use Rattle.wt_pair.specs.declared.event.PairEvent.TheVariants as pair_events
use Rattle.wt_pair.specs.declared.event.PairFacts.{PairFacts}
use Rattle.wt_pair.specs.Link.{delivered_turn, item_at}
use Rattle.wt_pair.specs.Pair.{Ends, Happened, at_first, end_at, end_of_event, happens, other, run_pair}
use Rattle.wt_promise.specs.Causes.{pieces}
use Rattle.wt_promise.specs.Promise.{accepted, payloads}
use Rattle.wt_turn.specs.declared.answer.Answer.{Answer}
use Rattle.wt_turn.specs.declared.reply.Reply.{Reply}
use Rattle.wt_turn.specs.declared.turn.Turn.{Turn}
use Rattle.wt_turn.specs.declared.call.Call.TheVariants as calls
use Rattle.wt_turn.specs.declared.reply.Reply.TheVariants as replies
use Rattle.wt_turn.specs.declared.turn.Turn.TheVariants as turns
use Rattle.wt_wire.specs.declared.side.Side.{Side}
use Rattle.wt_wire.specs.declared.side.Side.TheVariants.{Client, Server}

-- ---- bytes

abbrev pub IsPrefix : List ℕ → List ℕ → Type 0
IsPrefix xs ys = take (length xs) ys ≡ xs

-- what one end read on a stream is a prefix of what the other end's writes accepted there
abbrev pub ReadIsWritten : (Side → History) → Type 0
ReadIsWritten of = (e : Side) (k : ℕ) → IsPrefix (pieces (of e) k) (accepted (of (other e)) k)

-- where nothing waits for an end that is open, all that the other end sent on a stream came there
abbrev pub NothingHeldBack : Ends → (Side → History) → Type 0
NothingHeldBack p of = (e : Side) → (end_at p e).waiting ≡ [] → is_open (of e) ≡ true → (k : ℕ) → contents (of e) k ≡ out (of (other e)) k

-- ---- datagrams

-- the payload that a call sent for the session
abbrev pub sent_payload : Option ℕ → ℕ → List ℕ → Reply → List (List ℕ)
sent_payload (Some id) s payload replies.Done = if id == s then payload ∷ [] else []
sent_payload _ s payload reply = []

abbrev pub sent_by : History → ℕ → Turn → Reply → List (List ℕ)
sent_by h s (turns.Call (calls.SendDatagram payload name)) reply = sent_payload (named h name) s payload reply
sent_by h s turn reply = []

-- the payloads that an end sent for a session
abbrev pub sent_payloads : History → ℕ → List (List ℕ)
sent_payloads [] s = []
sent_payloads (p ∷ h) s = sent_payloads h s ++ sent_by h s p.turn p.answer.reply

-- how often a payload is among these
abbrev pub times : List ℕ → List (List ℕ) → ℕ
times payload all = length (filter (pointwise nat_eq payload) all)

-- each payload is received at most as often as the other end sent it
abbrev pub ReceivedAsSent : (Side → History) → Type 0
ReceivedAsSent of = (e : Side) (s : ℕ) (payload : List ℕ) → times payload (payloads (of e) s) ≤ times payload (sent_payloads (of (other e)) s)

-- ---- each end by itself

abbrev pub is_at : Side → Side → Bool
is_at Client Client = true
is_at Server Server = true
is_at _ _ = false

abbrev pub answer_in : Bool → PairAnswer → List Answer
answer_in true (pair_answers.Turn a) = a ∷ []
answer_in _ a = []

-- what this end answered, of the answers to these events
abbrev pub own_answers : Side → List PairEvent → List PairAnswer → List Answer
own_answers e (event ∷ later) (a ∷ answers) = answer_in (is_at e (end_of_event event)) a ++ own_answers e later answers
own_answers e events answers = []

-- the turn that the event brings to its end
abbrev pub turn_of : PairEvent → Ends → Option Turn
turn_of (pair_events.Call e call) p = Some (turns.Call call)
turn_of (pair_events.Deliver to place n) p = delivered_turn n (item_at (end_at p to).waiting place)
turn_of (pair_events.Lose to place) p = None
turn_of (pair_events.Credit to turn) p = Some turn

-- it, where it is this end's, and lawful there
abbrev pub turn_in : Side → History → Bool → Option Turn → List Turn
turn_in e h true (Some turn) = if is_lawful e h turn then turn ∷ [] else []
turn_in e h _ _ = []

abbrev pub turns_behind : List Turn → Option Happened → (Ends → List Turn) → List Turn
turns_behind now None behind = []
turns_behind now (Some x) behind = now ++ behind x.ends

-- the turns that came at this end, in order
abbrev pub own_turns : Side → PairFacts → Ends → List PairEvent → List Turn
own_turns e f p [] = []
own_turns e f p (event ∷ later) =
    turns_behind (turn_in e (end_at p e).history (is_at e (end_of_event event)) (turn_of event p)) (happens f event p) (λ (after : Ends). own_turns e f after later)

-- an end's answers are what its own turns mean, whatever the other end and the link do
abbrev pub EachMeans : PairFacts → List PairEvent → List PairAnswer → Type 0
EachMeans f events answers = (e : Side) → own_answers e events answers ≡ meaning e (own_turns e f at_first events)

-- ---- all of it

-- these turns and their answers, after those of a history
abbrev pub with_pairs : History → List Turn → List Answer → History
with_pairs h (turn ∷ later) (a ∷ answers) = with_pairs (with_pair h turn a) later answers
with_pairs h later answers = h

-- the turns of an end with its answers, by the events and the answers to them
abbrev pub told : PairFacts → List PairEvent → List PairAnswer → Side → History
told f events answers e = with_pairs [] (own_turns e f at_first events) (own_answers e events answers)

-- of the answers to a list of events, as far as they fit
pub record TwoEnds (f : PairFacts) (events : List PairEvent) (answers : List PairAnswer) : Type 0 where
  pub read : ReadIsWritten (told f events answers)
  pub received : ReceivedAsSent (told f events answers)
  pub means : EachMeans f events answers
  pub whole : NothingHeldBack (run_pair f events).ends (told f events answers)
