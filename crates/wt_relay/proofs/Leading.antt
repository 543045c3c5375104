-- Calls of a relay lead on from one list of turns to a longer one.
use Rattle.std.proofs.Common.{◌≡◌, ◌&&◌, ◌∷◌, ◌++◌, Bool, List, [], ap, false, refl, subst, sym, true, ◌∙◌, ℕ}
use Rattle.std.proofs.lemmas.List.{append-nil, append_assoc}
use Rattle.std.specs.Prelude.{IsTrue, not}
use Rattle.wt_endpoint.proofs.Apart.{and-left, and-right, own_history_theorem}
use Rattle.wt_endpoint.specs.Connections.{ConnectionsState, StandsFor}
use Rattle.wt_endpoint.specs.Endpoints.{AllMayCome, EndpointHistory, endpoint_after, endpoint_from, endpoint_history, endpoint_reply, no_connections}
use Rattle.wt_endpoint.specs.Isolation.{own_history}
use Rattle.wt_endpoint.specs.declared.turn.EndpointTurn.{EndpointTurn}
use Rattle.wt_endpoint.specs.declared.turn.EndpointTurn.TheVariants as events
use Rattle.wt_meaning.specs.Meaning.{answer_to}
use Rattle.wt_turn.specs.declared.answer.Answer.{Answer}
use Rattle.wt_turn.specs.declared.turn.Turn.{Turn}
use Rattle.wt_wire.specs.declared.side.Side.TheVariants.{Server}
use Rattle.wt_relay.specs.Calls.{Answers, LeadsOn, all_followed, is_followed, is_relayed, told, told_from, told_of}
use Rattle.wt_relay.specs.Desk.{DeskState, Leads}

-- ---- lists of turns

from-more : (e : EndpointHistory) (all more : List EndpointTurn) → endpoint_from Server e (all ++ more) ≡ endpoint_from Server (endpoint_from Server e all) more
from-more e [] more = refl
from-more e (turn ∷ all) more = from-more (endpoint_after Server e turn) all more

pub told-more : (e : EndpointHistory) (all more : List EndpointTurn) → told_from e (all ++ more) ≡ told_from e all ++ told_from (endpoint_from Server e all) more
told-more e [] more = refl
told-more e (turn ∷ all) more =
    ap (λ (xs : List (ℕ × Answer)). told_of turn (endpoint_reply Server e turn) ++ xs) (told-more (endpoint_after Server e turn) all more)
    ∙ sym (append_assoc (told_of turn (endpoint_reply Server e turn)) (told_from (endpoint_after Server e turn) all) (told_from (endpoint_from Server (endpoint_after Server e turn) all) more))

pub both : (a b : Bool) → a ≡ true → b ≡ true → (a && b) ≡ true
both true b e f = f
both false b e f = e

followed-more : (calls more : List EndpointTurn) → all_followed calls ≡ true → all_followed more ≡ true → all_followed (calls ++ more) ≡ true
followed-more [] more e f = f
followed-more (turn ∷ calls) more e f =
    both (is_followed turn) (all_followed (calls ++ more)) (and-left (is_followed turn) (all_followed calls) e) (followed-more calls more (and-right (is_followed turn) (all_followed calls) e) f)

-- ---- no call, one call, and more

pub leads_none : (all : List EndpointTurn) (k : ConnectionsState) (given : List (ℕ × Answer)) → StandsFor Server k all → LeadsOn all k given given
leads_none all k given st = record {
  calls = [];
  stands = subst (λ (ts : List EndpointTurn). StandsFor Server k ts) (sym (append-nil all)) st;
  tells = sym (append-nil given);
  followed = refl;
}

pub leads_then : (all : List EndpointTurn) (k m : ConnectionsState) (given mid later : List (ℕ × Answer)) → LeadsOn all k given mid
    → ((ts : List EndpointTurn) → StandsFor Server k ts → LeadsOn ts m mid later) → LeadsOn all m given later
leads_then all k m given mid later a f =
    let b = f (all ++ a.calls) a.stands in
    let e = endpoint_history Server all in
    record {
      calls = a.calls ++ b.calls;
      stands = subst (λ (ts : List EndpointTurn). StandsFor Server m ts) (append_assoc all a.calls b.calls) b.stands;
      tells =
          b.tells ∙ ap (λ (xs : List (ℕ × Answer)). xs ++ told_from (endpoint_history Server (all ++ a.calls)) b.calls) a.tells
          ∙ ap (λ (h : EndpointHistory). given ++ told_from e a.calls ++ told_from h b.calls) (from-more no_connections all a.calls)
          ∙ append_assoc given (told_from e a.calls) (told_from (endpoint_from Server e a.calls) b.calls)
          ∙ ap (λ (xs : List (ℕ × Answer)). given ++ xs) (sym (told-more e a.calls b.calls));
      followed = followed-more a.calls b.calls a.followed b.followed;
    }

-- what is told of a turn of a connection by itself
told-one : (all : List EndpointTurn) (n : ℕ) (turn : Turn) (a : Answer) → AllMayCome Server no_connections all → a ≡ answer_to Server (own_history Server n all) turn
    → told n a ≡ told_of (events.Connection n turn) (endpoint_reply Server (endpoint_history Server all) (events.Connection n turn))
told-one all n turn a may e = ap (told n) (e ∙ ap (λ h. answer_to Server h turn) (sym (own_history_theorem Server all n may)))

pub leads_one : (all : List EndpointTurn) (k m : ConnectionsState) (n : ℕ) (turn : Turn) (a : Answer) (given later : List (ℕ × Answer)) → StandsFor Server k all → IsTrue (is_relayed turn)
    → a ≡ answer_to Server (own_history Server n all) turn → StandsFor Server m (all ++ events.Connection n turn ∷ []) → later ≡ given ++ told n a → LeadsOn all m given later
leads_one all k m n turn a given later st r e s p = record {
  calls = events.Connection n turn ∷ [];
  stands = s;
  tells = p ∙ ap (λ (xs : List (ℕ × Answer)). given ++ xs) (told-one all n turn a st.may_come e ∙ sym (append-nil (told_of (events.Connection n turn) (endpoint_reply Server (endpoint_history Server all) (events.Connection n turn)))));
  followed = both (is_relayed turn) true r refl;
}

-- the accept of a new connection tells nothing
pub leads_accept : (all : List EndpointTurn) (m : ConnectionsState) (given : List (ℕ × Answer)) → StandsFor Server m (all ++ events.Accept ∷ []) → LeadsOn all m given given
leads_accept all m given s = record {
  calls = events.Accept ∷ [];
  stands = s;
  tells = sym (append-nil given);
  followed = refl;
}

-- ---- a turn

pub no-takes : (b x : Bool) → b ≡ true → false ≡ (not b && x)
no-takes true x e = refl
no-takes false x e = absurd (cc)

pub takes-if : (b x r : Bool) → b ≡ false → r ≡ x → r ≡ (not b && x)
takes-if true x r e f = absurd (cc)
takes-if false x r e f = f

-- a turn, and what it leads on to
pub answers_then : (all : List EndpointTurn) (k l m : ConnectionsState) (n : ℕ) (turn : Turn) (a : Answer) (first given : List (ℕ × Answer)) → StandsFor Server k all
    → a ≡ answer_to Server (own_history Server n all) turn → StandsFor Server l (all ++ events.Connection n turn ∷ []) → first ≡ [] ++ told n a
    → ((ts : List EndpointTurn) → StandsFor Server l ts → LeadsOn ts m first given) → Answers all n turn m given
answers_then all k l m n turn a first given st e s p f =
    let b = f (all ++ events.Connection n turn ∷ []) s in
    let h = endpoint_history Server all in
    let t = events.Connection n turn in
    record {
      calls = b.calls;
      stands = subst (λ (ts : List EndpointTurn). StandsFor Server m ts) (append_assoc all (t ∷ []) b.calls) b.stands;
      tells =
          b.tells ∙ ap (λ (xs : List (ℕ × Answer)). xs ++ told_from (endpoint_history Server (all ++ t ∷ [])) b.calls) (p ∙ told-one all n turn a st.may_come e)
          ∙ ap (λ (x : EndpointHistory). told_of t (endpoint_reply Server h t) ++ told_from x b.calls) (from-more no_connections all (t ∷ []));
      followed = b.followed;
    }

-- the first answer of a turn, after which a new connection is accepted
pub answers_first : (all : List EndpointTurn) (k l m : ConnectionsState) (n : ℕ) (turn : Turn) (a : Answer) (given : List (ℕ × Answer)) → StandsFor Server k all
    → a ≡ answer_to Server (own_history Server n all) turn → StandsFor Server l (all ++ events.Connection n turn ∷ [])
    → ((ts : List EndpointTurn) → StandsFor Server l ts → StandsFor Server m (ts ++ events.Accept ∷ [])) → given ≡ [] ++ told n a → Answers all n turn m given
answers_first all k l m n turn a given st e s f p = answers_then all k l m n turn a given given st e s p (λ ts t. leads_accept ts m given (f ts t))

-- ---- of what the desk keeps

pub leads_refl : (d : DeskState) → Leads d d
leads_refl d = record { on = λ all st. leads_none all d.connections d.told st }

-- the same endpoint and answers
pub leads_same : (d e f : DeskState) → Leads d e → f.connections ≡ e.connections → f.told ≡ e.told → Leads d f
leads_same d e f l c a = record {
  on = λ all st.
      subst (λ (k : ConnectionsState). LeadsOn all k d.told f.told) (sym c)
      (subst (λ (given : List (ℕ × Answer)). LeadsOn all e.connections d.told given) (sym a) (l.on all st));
}

pub leads_trans : (d e f : DeskState) → Leads d e → Leads e f → Leads d f
leads_trans d e f a b = record { on = λ all st. leads_then all e.connections f.connections d.told e.told f.told (a.on all st) b.on }

-- a turn, and what its calls lead on to
pub answers_on : (all : List EndpointTurn) (n : ℕ) (turn : Turn) (d e : DeskState) → Answers all n turn d.connections d.told → Leads d e → Answers all n turn e.connections e.told
answers_on all n turn d e a l =
    let t = events.Connection n turn in
    let b = l.on (all ++ t ∷ a.calls) a.stands in
    let h = endpoint_history Server all in
    record {
      calls = a.calls ++ b.calls;
      stands = subst (λ (ts : List EndpointTurn). StandsFor Server e.connections ts) (append_assoc all (t ∷ a.calls) b.calls) b.stands;
      tells =
          b.tells ∙ ap (λ (xs : List (ℕ × Answer)). xs ++ told_from (endpoint_history Server (all ++ t ∷ a.calls)) b.calls) a.tells
          ∙ ap (λ (x : EndpointHistory). told_from h (t ∷ a.calls) ++ told_from x b.calls) (from-more no_connections all (t ∷ a.calls))
          ∙ sym (told-more h (t ∷ a.calls) b.calls);
      followed = followed-more a.calls b.calls a.followed b.followed;
    }

-- a call that was made, by what the endpoint says of it
pub leads_made : (d f : DeskState) (k l : ConnectionsState) (before : List (ℕ × Answer)) (n : ℕ) (turn : Turn) (a : Answer) → k ≡ d.connections → before ≡ d.told → IsTrue (is_relayed turn)
    → ((all : List EndpointTurn) → StandsFor Server k all → a ≡ answer_to Server (own_history Server n all) turn)
    → ((all : List EndpointTurn) → StandsFor Server k all → StandsFor Server l (all ++ events.Connection n turn ∷ []))
    → f.connections ≡ l → f.told ≡ before ++ told n a → Leads d f
leads_made d f k l before n turn a same_k same_told r apart turns now_l now_told = record {
  on = λ all st.
      let s = subst (λ (x : ConnectionsState). StandsFor Server x all) (sym same_k) st in
      leads_one all d.connections f.connections n turn a d.told f.told st r (apart all s)
      (subst (λ (x : ConnectionsState). StandsFor Server x (all ++ events.Connection n turn ∷ [])) (sym now_l) (turns all s))
      (now_told ∙ ap (λ (xs : List (ℕ × Answer)). xs ++ told n a) same_told);
}

-- the first answer of a turn, by what the endpoint says of it
pub answers_made : (all : List EndpointTurn) (d : DeskState) (k l m : ConnectionsState) (n : ℕ) (turn : Turn) (a : Answer) (given : List (ℕ × Answer)) → k ≡ d.connections → StandsFor Server d.connections all
    → ((ts : List EndpointTurn) → StandsFor Server k ts → a ≡ answer_to Server (own_history Server n ts) turn)
    → ((ts : List EndpointTurn) → StandsFor Server k ts → StandsFor Server l (ts ++ events.Connection n turn ∷ []))
    → ((ts : List EndpointTurn) → StandsFor Server l ts → StandsFor Server m (ts ++ events.Accept ∷ [])) → given ≡ told n a → Answers all n turn m given
answers_made all d k l m n turn a given same st apart turns accept p =
    let s = subst (λ (x : ConnectionsState). StandsFor Server x all) (sym same) st in
    answers_first all k l m n turn a given s (apart all s) (turns all s) accept p
