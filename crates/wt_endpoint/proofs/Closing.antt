-- An endpoint closes its connections one after another.
use Rattle.std.proofs.Common.{◌≡◌, ◌<◌, ◌∷◌, ◌++◌, List, [], ap, append-nil, append_assoc, arith, drop, false, get_or, length, length-set, map, refl, set, subst, suc, sym, take, true, zero, ◌∙◌, ℕ}
use Rattle.std.specs.Prelude.{Err, IfOk, Ok, OnOk, Result}
use Rattle.wt_endpoint.proofs.Histories.{close-lawful, turned-begun}
use Rattle.wt_endpoint.proofs.Keeping.{keep-set, kept-nth, same-length}
use Rattle.wt_endpoint.specs.Connections.{AllKeep, ConnectionsState, KeepsBegun, Refines}
use Rattle.wt_endpoint.specs.Endpoints.{EndpointHistory, closed_at, closing, closings, closings_from, endpoint_after, put_history, turned_if_open}
use Rattle.wt_endpoint.specs.declared.turn.EndpointTurn.TheVariants as events
use Rattle.wt_meaning.specs.History.{History, is_open}
use Rattle.wt_meaning.specs.Lawful.{is_lawful}
use Rattle.wt_meaning.specs.Meaning.{answer_to, history_after}
use Rattle.wt_core.specs.CoreState.{CoreState, KeepsHistory}
use Rattle.wt_turn.specs.declared.answer.Answer.{Answer}
use Rattle.wt_turn.specs.declared.turn.Turn.{Turn}
use Rattle.wt_wire.specs.declared.error.OutOfMemory.{OutOfMemory}
use Rattle.wt_wire.specs.declared.side.Side.{Side}

-- the first so many take the turn, where they are open
abbrev pub close_first : Side → Turn → ℕ → List History → List History
close_first side turn zero hs = hs
close_first side turn (suc n) [] = []
close_first side turn (suc n) (h ∷ hs) = turned_if_open side turn h ∷ close_first side turn n hs

-- so many connections are closed, with these answers
pub record ClosedSoFar (side : Side) (cs : List CoreState) (given : List (ℕ × Answer)) (n : ℕ) (turn : Turn) (hs : List History) : Type 0 where
  pub keeps : AllKeep side cs (close_first side turn n hs)
  pub given_is : given ++ closings_from side n turn (drop n hs) ≡ closings_from side 0 turn hs
  pub counts : length cs ≡ length hs

first-same : (side : Side) (turn : Turn) (n : ℕ) (hs : List History) → get_or (close_first side turn n hs) n [] ≡ get_or hs n []
first-same side turn zero hs = refl
first-same side turn (suc n) [] = refl
first-same side turn (suc n) (h ∷ hs) = first-same side turn n hs

put-first : (side : Side) (turn : Turn) (n : ℕ) (hs : List History) → n < length hs
    → put_history (close_first side turn n hs) n (turned_if_open side turn (get_or hs n [])) ≡ close_first side turn (suc n) hs
put-first side turn n [] l = absurd (omega (arith, l))
put-first side turn zero (h ∷ hs) l = refl
put-first side turn (suc n) (h ∷ hs) l = ap (λ (gs : List History). turned_if_open side turn h ∷ gs) (put-first side turn n hs (omega (arith, l)))

first-all : (side : Side) (turn : Turn) (hs : List History) → close_first side turn (length hs) hs ≡ map (turned_if_open side turn) hs
first-all side turn [] = refl
first-all side turn (h ∷ hs) = ap (λ (gs : List History). turned_if_open side turn h ∷ gs) (first-all side turn hs)

drop-all : (hs : List History) → drop (length hs) hs ≡ []
drop-all [] = refl
drop-all (h ∷ hs) = drop-all hs

drop-next : (hs : List History) (n : ℕ) → n < length hs → drop n hs ≡ get_or hs n [] ∷ drop (suc n) hs
drop-next [] n l = absurd (omega (arith, l))
drop-next (h ∷ hs) zero l = refl
drop-next (h ∷ hs) (suc n) l = drop-next hs n (omega (arith, l))

-- ---- one connection

-- where it isn't open it is as before, without an answer
pub shut_answer : (side : Side) (h : History) (n : ℕ) (turn : Turn) (given : List (ℕ × Answer)) → is_open h ≡ false → given ≡ given ++ closed_at side n turn h
shut_answer side h n turn given o = rw o (sym (append-nil given))

pub shut_history : (side : Side) (c : CoreState) (h : History) (turn : Turn) → KeepsHistory side c h → is_open h ≡ false → KeepsHistory side c (turned_if_open side turn h)
shut_history side c h turn k o = rw o k

-- where it is open its answer goes to the others
pub taken_answer : {X : Type 0} (side : Side) (h : History) (n : ℕ) (turn : Turn) (a : Answer) (given later : List (ℕ × Answer)) (pushed : Result X OutOfMemory) → is_open h ≡ true → a ≡ answer_to side h turn
    → OnOk pushed (later ≡ given ++ (n, a) ∷ []) → OnOk pushed (later ≡ given ++ closed_at side n turn h)
taken_answer side h n turn a given later (Ok x) o e f = rw o (f ∙ ap (λ (b : Answer). given ++ (n, b) ∷ []) e)
taken_answer side h n turn a given later (Err x) o e f = tt

pub taken_history : {X : Type 0} (side : Side) (after : CoreState) (h : History) (turn : Turn) (pushed : Result X OutOfMemory) → is_open h ≡ true → KeepsHistory side after (history_after side h turn)
    → OnOk pushed (KeepsHistory side after (turned_if_open side turn h))
taken_history side after h turn (Ok x) o k = rw o k
taken_history side after h turn (Err x) o k = tt

-- ---- one after another

pub close_step : (side : Side) (cs : List CoreState) (given later : List (ℕ × Answer)) (n code : ℕ) (reason : List ℕ) (hs : List History) (turn : Turn) (d after : CoreState) → turn ≡ closing code reason
    → ClosedSoFar side cs given n turn hs → n < length cs → d ≡ get_or cs n d
    → ((s : Side) (h : History) → KeepsHistory s d h → is_lawful s h turn ≡ true → later ≡ given ++ closed_at s n turn h)
    → ((s : Side) (h : History) → KeepsHistory s d h → is_lawful s h turn ≡ true → KeepsHistory s after (turned_if_open s turn h))
    → ClosedSoFar side (set cs n after) later (suc n) turn hs
close_step side cs given later n code reason hs turn d after t so l i f g =
    let before = close_first side turn n hs in
    let h = get_or hs n [] in
    let within : n < length hs = let counts = so.counts in omega (arith, l, counts) in
    let kept : KeepsBegun side d h = subst (KeepsBegun side d) (first-same side turn n hs) (kept-nth side cs before n d so.keeps l i) in
    let lawful : is_lawful side h turn ≡ true = ap (is_lawful side h) t ∙ close-lawful side h code reason kept.begun in
    let one : KeepsBegun side after (turned_if_open side turn h) = record { keeps = g side h kept.keeps lawful; begun = turned-begun side turn h kept.begun lawful } in
    record {
      keeps = subst (AllKeep side (set cs n after)) (put-first side turn n hs within) (keep-set side cs before n after (turned_if_open side turn h) so.keeps l one);
      given_is = ap (λ (xs : List (ℕ × Answer)). xs ++ closings_from side (suc n) turn (drop (suc n) hs)) (f side h kept.keeps lawful)
          ∙ append_assoc given (closed_at side n turn h) (closings_from side (suc n) turn (drop (suc n) hs))
          ∙ ap (λ (gs : List History). given ++ closings_from side n turn gs) (sym (drop-next hs n within))
          ∙ so.given_is;
      counts = length-set cs n after ∙ so.counts;
    }

pub close_start : (side : Side) (cs : List CoreState) (turn : Turn) (hs : List History) → AllKeep side cs hs → ClosedSoFar side cs [] 0 turn hs
close_start side cs turn hs a = record { keeps = a; given_is = refl; counts = same-length side cs hs a }

pub close_answer : (side : Side) (cs : List CoreState) (given : List (ℕ × Answer)) (n : ℕ) (turn : Turn) (hs : List History) → ClosedSoFar side cs given n turn hs → n ≡ length cs
    → given ≡ closings_from side 0 turn hs
close_answer side cs given n turn hs so e =
    sym (append-nil given) ∙ ap (λ (gs : List History). given ++ closings_from side n turn gs) (sym (drop-all hs) ∙ ap (λ k. drop k hs) (sym (e ∙ so.counts))) ∙ so.given_is

pub close_keeps : (side : Side) (cs : List CoreState) (given : List (ℕ × Answer)) (n : ℕ) (turn : Turn) (hs : List History) → ClosedSoFar side cs given n turn hs → n ≡ length cs
    → AllKeep side cs (map (turned_if_open side turn) hs)
close_keeps side cs given n turn hs so e =
    subst (AllKeep side cs) (ap (λ k. close_first side turn k hs) (e ∙ so.counts) ∙ first-all side turn hs) so.keeps

pub take-whole : (n : ℕ) (ws xs : List CoreState) → length ws ≡ n → take n (ws ++ xs) ≡ ws
take-whole zero [] xs e = refl
take-whole zero (w ∷ ws) xs e = absurd (omega (arith, e))
take-whole (suc n) [] xs e = absurd (omega (arith, e))
take-whole (suc n) (w ∷ ws) xs e = ap (λ (cs : List CoreState). w ∷ cs) (take-whole n ws xs (omega (arith, e)))

pub close_refines : (side : Side) (k : ConnectionsState) (e : EndpointHistory) (code : ℕ) (reason : List ℕ) (turn : Turn) (accepted : ℕ) (cs ws : List CoreState) (given : Result (List (ℕ × Answer)) OutOfMemory) → turn ≡ closing code reason
    → accepted ≡ k.accepted → Refines side k e → cs ≡ ws → OnOk given (AllKeep side ws (map (turned_if_open side turn) e.histories))
    → OnOk given (Refines side (record { cores = cs; accepted = accepted; closed = true }) (endpoint_after side e (events.Close code reason)))
close_refines side k e code reason turn accepted cs ws (Ok x) t a r c f = record {
  each = subst (λ (u : Turn). AllKeep side cs (map (turned_if_open side u) e.histories)) t (subst (λ (ds : List CoreState). AllKeep side ds (map (turned_if_open side turn) e.histories)) (sym c) f);
  accepted_is = a ∙ r.accepted_is;
  closed_is = refl;
}
close_refines side k e code reason turn accepted cs ws (Err x) t a r c f = tt

pub closings_given : (side : Side) (e : EndpointHistory) (code : ℕ) (reason : List ℕ) (turn : Turn) (given : Result (List (ℕ × Answer)) OutOfMemory) → turn ≡ closing code reason
    → IfOk given (λ x. x ≡ closings_from side 0 turn e.histories) → IfOk given (λ x. x ≡ closings side e code reason)
closings_given side e code reason turn (Ok x) t f = f ∙ ap (λ (u : Turn). closings_from side 0 u e.histories) t
closings_given side e code reason turn (Err x) t f = tt
