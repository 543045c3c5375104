-- Connections of an endpoint are apart.
use Rattle.std.proofs.Common.{◌≡◌, ◌<◌, ◌≤◌, ◌==◌, ◌&&◌, ◌∷◌, ◌++◌, Bool, List, [], ap, arith, false, get_or, length, map, refl, subst, sym, true, ◌∙◌, ℕ}
use Rattle.std.proofs.lemmas.Bool.{eq-eqb, eqb-true}
use Rattle.std.proofs.lemmas.Bool.Decides.{nat_tests}
use Rattle.std.specs.Prelude.{if◌then◌else◌, nat_lt}
use Rattle.wt_meaning.specs.History.{History, is_open}
use Rattle.wt_meaning.specs.Lawful.{is_first, is_lawful}
use Rattle.wt_meaning.specs.Meaning.{history_after, meaning_from}
use Rattle.wt_promise.specs.Lists.{history_of}
use Rattle.wt_promise.specs.Promise.{AllLawful}
use Rattle.wt_turn.specs.declared.answer.Answer.{Answer}
use Rattle.wt_turn.specs.declared.turn.Turn.{Turn}
use Rattle.wt_wire.specs.declared.side.Side.{Side}
use Rattle.wt_endpoint.specs.Endpoints.{AllMayCome, EndpointHistory, closing, closings, closings_from, connection_history, endpoint_after, endpoint_from, endpoint_history, endpoint_replies, endpoint_reply, has_begun, may_begin, may_come_next, no_connections, turned_if_open}
use Rattle.wt_endpoint.specs.Isolation.{AreApart, ClosedApart, of_number, own_answer, own_answers, own_history, own_turn, own_turns_from}
use Rattle.wt_endpoint.specs.declared.turn.EndpointTurn.{EndpointTurn}
use Rattle.wt_endpoint.specs.declared.turn.EndpointTurn.TheVariants as events
use Rattle.wt_endpoint.proofs.Histories.{begun-after, close-lawful, turned-begun}
use Rattle.wt_endpoint.proofs.ByNumber.{AllBegun, answers-parts, begun-get, begun-map, begun-put, closings-all, get-map, get-map-past, get-past, history-parts, lawful-parts, put-other, put-same}

-- ---- one turn

-- what a turn of the endpoint is to a connection: its own turns lead to its history, with their answers, and are lawful
record IsStep (side : Side) (e : EndpointHistory) (turn : EndpointTurn) (n : ℕ) : Type 0 where
  pub history_is : connection_history (endpoint_after side e turn) n ≡ history_of side (connection_history e n) (own_turn e n turn)
  pub answers_are : own_answer n turn (endpoint_reply side e turn) ≡ meaning_from side (connection_history e n) (own_turn e n turn)
  pub lawful : AllLawful side (connection_history e n) (own_turn e n turn)

pub and-left : (a b : Bool) → (a && b) ≡ true → a ≡ true
and-left true b e = refl
and-left false b e = e

pub and-right : (a b : Bool) → (a && b) ≡ true → b ≡ true
and-right true b e = e
and-right false b e = absurd (cc)

within-by : (e : EndpointHistory) (m : ℕ) (turn : Turn) → (p : Bool) → nat_lt m (length e.histories) ≡ p → (q : Bool) → (m == length e.histories) ≡ q → may_begin e m turn ≡ true → m ≤ length e.histories
within-by e m turn true p q d b = grind (arith, nat_tests)
within-by e m turn false p true d b = grind (arith, nat_tests)
within-by e m turn false p false d b = let none : false ≡ true = rw (p, d) at b in absurd (cc)

-- a connection that may have a turn has begun, or is the next
within : (e : EndpointHistory) (m : ℕ) (turn : Turn) → may_begin e m turn ≡ true → m ≤ length e.histories
within e m turn b = within-by e m turn (nat_lt m (length e.histories)) refl (m == length e.histories) refl b

own-step : (side : Side) (e : EndpointHistory) (m : ℕ) (turn : Turn) (n : ℕ) → is_lawful side (connection_history e m) turn ≡ true → m ≤ length e.histories → (b : Bool) → (n == m) ≡ b → IsStep side e (events.Connection m turn) n
own-step side e m turn n l w true d =
    let same : n ≡ m = eqb-true n m d in
    subst (λ (k : ℕ). IsStep side e (events.Connection m turn) k) (sym same) (
    let here : (m == m) ≡ true = eq-eqb m m refl in
    record {
      history_is = put-same e.histories m (history_after side (connection_history e m) turn) w ∙ rw here refl;
      answers_are = rw here refl;
      lawful = rw here (l, tt);
    })
own-step side e m turn n l w false d = record {
  history_is = put-other e.histories m n (history_after side (connection_history e m) turn) d ∙ rw d refl;
  answers_are = rw d refl;
  lawful = rw d tt;
}

-- what a turn that all open connections take is to one of them
record IsTakenByAll (side : Side) (turn : Turn) (hs : List History) (n : ℕ) (own : List Turn) : Type 0 where
  history_is : get_or (map (turned_if_open side turn) hs) n [] ≡ history_of side (get_or hs n []) own
  answers_are : of_number n (closings_from side 0 turn hs) ≡ meaning_from side (get_or hs n []) own
  lawful : AllLawful side (get_or hs n []) own

taken-by : (side : Side) (turn : Turn) (hs : List History) (n : ℕ) → (n < length hs → is_lawful side (get_or hs n []) turn ≡ true) → (p : Bool) → nat_lt n (length hs) ≡ p → (q : Bool) → is_open (get_or hs n []) ≡ q
    → IsTakenByAll side turn hs n (if p && q then turn ∷ [] else [])
taken-by side turn hs n l true p true q =
    let within : n < length hs = grind (arith, nat_tests) in
    record {
      history_is = get-map (turned_if_open side turn) hs n within ∙ rw q refl;
      answers_are = closings-all side n turn hs ∙ rw (p, q) refl;
      lawful = (l within, tt);
    }
taken-by side turn hs n l true p false q =
    let within : n < length hs = grind (arith, nat_tests) in
    record {
      history_is = get-map (turned_if_open side turn) hs n within ∙ rw q refl;
      answers_are = closings-all side n turn hs ∙ rw (p, q) refl;
      lawful = tt;
    }
taken-by side turn hs n l false p o q = record {
  history_is = get-map-past (turned_if_open side turn) hs n p ∙ sym (get-past hs n p);
  answers_are = closings-all side n turn hs ∙ rw p refl;
  lawful = tt;
}

-- the endpoint closes: a connection that has begun and is open is closed
close-step : (side : Side) (e : EndpointHistory) (code : ℕ) (reason : List ℕ) (n : ℕ) → AllBegun e.histories → IsStep side e (events.Close code reason) n
close-step side e code reason n b =
    let x = taken-by side (closing code reason) e.histories n (λ (l : n < length e.histories). close-lawful side (connection_history e n) code reason (begun-get e.histories n b l)) (has_begun e n) refl
    (is_open (connection_history e n)) refl in
    record { history_is = x.history_is; answers_are = x.answers_are; lawful = x.lawful }

step : (side : Side) (e : EndpointHistory) (turn : EndpointTurn) (n : ℕ) → may_come_next side e turn ≡ true → AllBegun e.histories → IsStep side e turn n
step side e (events.Connection m turn) n c b =
    let later = and-right (is_lawful side (connection_history e m) turn) _ c in
    own-step side e m turn n (and-left (is_lawful side (connection_history e m) turn) _ c) (within e m turn (and-left (may_begin e m turn) _ later)) (n == m) refl
step side e (events.Close code reason) n c b = close-step side e code reason n b
step side e events.Accept n c b = record { history_is = refl; answers_are = refl; lawful = tt }
step side e events.WaitIdle n c b = record { history_is = refl; answers_are = refl; lawful = tt }
step side e events.OpenConnections n c b = record { history_is = refl; answers_are = refl; lawful = tt }

-- ---- each connection that has begun had a turn

all-begun-after : (side : Side) (e : EndpointHistory) (turn : EndpointTurn) → may_come_next side e turn ≡ true → AllBegun e.histories → AllBegun (endpoint_after side e turn).histories
all-begun-after side e (events.Connection m turn) c b = begun-put e.histories m _ b (begun-after side (connection_history e m) turn (and-left (is_lawful side (connection_history e m) turn) _ c))
all-begun-after side e (events.Close code reason) c b = begun-map (turned_if_open side (closing code reason)) (λ (h : History) (f : is_first h ≡ false). turned-begun side (closing code reason) h f (close-lawful side h code reason f)) e.histories b
all-begun-after side e events.Accept c b = b
all-begun-after side e events.WaitIdle c b = b
all-begun-after side e events.OpenConnections c b = b

-- ---- all turns

-- what one turn after another leads a connection to, and the answers to it
record IsSteps (side : Side) (e : EndpointHistory) (all : List EndpointTurn) (n : ℕ) : Type 0 where
  pub history_is : connection_history (endpoint_from side e all) n ≡ history_of side (connection_history e n) (own_turns_from side e n all)
  pub answers_are : own_answers n all (endpoint_replies side e all) ≡ meaning_from side (connection_history e n) (own_turns_from side e n all)
  pub lawful : AllLawful side (connection_history e n) (own_turns_from side e n all)

apart-from : (side : Side) (e : EndpointHistory) (all : List EndpointTurn) (n : ℕ) → AllMayCome side e all → AllBegun e.histories → IsSteps side e all n
apart-from side e [] n c b = record { history_is = refl; answers_are = refl; lawful = tt }
apart-from side e (turn ∷ later) n c b =
    let s = step side e turn n c.0 b in
    let more = apart-from side (endpoint_after side e turn) later n c.1 (all-begun-after side e turn c.0 b) in
    let rest = own_turns_from side (endpoint_after side e turn) n later in
    let own = own_turn e n turn in
    let h = connection_history e n in record {
      history_is = more.history_is ∙ ap (λ (g : History). history_of side g rest) s.history_is ∙ sym (history-parts side h own rest);
      answers_are = ap (λ (as_ : List Answer). as_ ++ own_answers n later (endpoint_replies side (endpoint_after side e turn) later)) s.answers_are
          ∙ ap (λ (as_ : List Answer). meaning_from side h own ++ as_) (more.answers_are ∙ ap (λ (g : History). meaning_from side g rest) s.history_is)
          ∙ sym (answers-parts side h own rest);
      lawful = lawful-parts side h own rest s.lawful (subst (λ (g : History). AllLawful side g rest) s.history_is more.lawful);
    }

pub begun-all : (side : Side) (e : EndpointHistory) (all : List EndpointTurn) → AllMayCome side e all → AllBegun e.histories → AllBegun (endpoint_from side e all).histories
begun-all side e [] c b = b
begun-all side e (turn ∷ later) c b = begun-all side (endpoint_after side e turn) later c.1 (all-begun-after side e turn c.0 b)

pub apart_theorem : (side : Side) (all : List EndpointTurn) → AllMayCome side no_connections all → AreApart side all (endpoint_replies side no_connections all)
apart_theorem side all c n = let s = apart-from side no_connections all n c tt in (s.answers_are, s.lawful)

-- the history of a connection is that of its own turns
pub own_history_theorem : (side : Side) (all : List EndpointTurn) (n : ℕ) → AllMayCome side no_connections all → connection_history (endpoint_history side all) n ≡ own_history side n all
own_history_theorem side all n c = (apart-from side no_connections all n c tt).history_is

-- the answers of a close
pub closed_theorem : (side : Side) (all : List EndpointTurn) (code : ℕ) (reason : List ℕ) → AllMayCome side no_connections all
    → ClosedApart side all code reason (closings side (endpoint_history side all) code reason)
closed_theorem side all code reason c n =
    let e = endpoint_history side all in
    let s = step side e (events.Close code reason) n refl (begun-all side no_connections all c tt) in
    s.answers_are ∙ ap (λ (g : History). meaning_from side g (own_turn e n (events.Close code reason))) (own_history_theorem side all n c)
