-- A run of a relay's turns.
use Rattle.std.proofs.Common.{◌≡◌, ◌&&◌, ◌+◌, ◌<◌, ◌∷◌, ◌++◌, ◌||◌, Bool, List, [], ap, arith, false, get_or, length, refl, subst, suc, sym, take, true, zero, ◌∙◌, ℕ}
use Rattle.std.proofs.lemmas.List.{append-nil, append_assoc, take_more}
use Rattle.std.specs.Prelude.{None, Some, if◌then◌else◌, not, slice_get}
use Rattle.wt_endpoint.specs.Connections.{ConnectionsState, StandsFor}
use Rattle.wt_endpoint.specs.Endpoints.{endpoint_history, no_connections}
use Rattle.wt_endpoint.specs.declared.turn.EndpointTurn.{EndpointTurn}
use Rattle.wt_endpoint.specs.declared.turn.EndpointTurn.TheVariants as events
use Rattle.wt_turn.specs.Turns.{is_call}
use Rattle.wt_turn.specs.declared.answer.Answer.{Answer}
use Rattle.wt_turn.specs.declared.turn.Turn.{Turn}
use Rattle.wt_turn.specs.declared.turn.Turn.TheVariants as turns
use Rattle.wt_wire.specs.declared.side.Side.TheVariants.{Server}
use Rattle.wt_endpoint.proofs.Apart.{and-left, and-right}
use Rattle.wt_relay.proofs.Leading.{both, told-more}
use Rattle.wt_relay.specs.Calls.{Answers, all_followed, is_followed, is_relayed, takes, told_from}
use Rattle.wt_endpoint.proofs.Apart.{apart_theorem}
use Rattle.wt_relay.specs.Run.{IsRelayRun, all_given_or_called, given_turn, given_turns, is_given_or_called, joined}

-- ---- what is given among turns of the endpoint

given-more : (all more : List EndpointTurn) → given_turns (all ++ more) ≡ given_turns all ++ given_turns more
given-more [] more = refl
given-more (turn ∷ all) more = ap (λ (xs : List (ℕ × Turn)). given_turn turn ++ xs) (given-more all more) ∙ sym (append_assoc (given_turn turn) (given_turns all) (given_turns more))

or-right : (a b : Bool) → b ≡ true → (a || b) ≡ true
or-right true b e = refl
or-right false b e = e

-- a call of the relay is none of the transport's turns
call-given : (turn : EndpointTurn) → is_followed turn ≡ true → given_turn turn ≡ []
call-given (events.Connection n (turns.Call c)) e = refl
call-given (events.Connection n _) e = absurd (cc)
call-given events.Accept e = refl
call-given _ e = refl

calls-given : (calls : List EndpointTurn) → all_followed calls ≡ true → given_turns calls ≡ []
calls-given [] e = refl
calls-given (turn ∷ calls) e =
    ap (λ (xs : List (ℕ × Turn)). xs ++ given_turns calls) (call-given turn (and-left (is_followed turn) (all_followed calls) e))
    ∙ calls-given calls (and-right (is_followed turn) (all_followed calls) e)

call-known : (turn : EndpointTurn) → is_followed turn ≡ true → is_given_or_called turn ≡ true
call-known (events.Connection n turn) e = or-right (not (is_call turn)) (is_relayed turn) e
call-known events.Accept e = refl
call-known _ e = e

calls-known : (calls : List EndpointTurn) → all_followed calls ≡ true → all_given_or_called calls ≡ true
calls-known [] e = refl
calls-known (turn ∷ calls) e =
    both (is_given_or_called turn) (all_given_or_called calls) (call-known turn (and-left (is_followed turn) (all_followed calls) e)) (calls-known calls (and-right (is_followed turn) (all_followed calls) e))

known-more : (all more : List EndpointTurn) → all_given_or_called all ≡ true → all_given_or_called more ≡ true → all_given_or_called (all ++ more) ≡ true
known-more [] more e f = f
known-more (turn ∷ all) more e f =
    both (is_given_or_called turn) (all_given_or_called (all ++ more)) (and-left (is_given_or_called turn) (all_given_or_called all) e)
    (known-more all more (and-right (is_given_or_called turn) (all_given_or_called all) e) f)

joined-more : (answers : List (List (ℕ × Answer))) (last : List (ℕ × Answer)) → joined (answers ++ last ∷ []) ≡ joined answers ++ last
joined-more [] last = append-nil last
joined-more (first ∷ answers) last = ap (λ (xs : List (ℕ × Answer)). first ++ xs) (joined-more answers last) ∙ sym (append_assoc first (joined answers) last)

-- ---- the turns so far

-- after the turns that were taken, with these answers to each
pub record Runs (k : ConnectionsState) (given : List (ℕ × Turn)) (answers : List (List (ℕ × Answer))) : Type 0 where
  pub all : List EndpointTurn
  pub stands : StandsFor Server k all
  pub turns : given_turns all ≡ given
  pub calls : all_given_or_called all ≡ true
  pub tells : joined answers ≡ told_from no_connections all

pub runs_none : (k : ConnectionsState) → StandsFor Server k [] → Runs k [] []
runs_none k st = record { all = []; stands = st; turns = refl; calls = refl; tells = refl }

-- one turn more
pub runs_more : (k m : ConnectionsState) (given : List (ℕ × Turn)) (answers : List (List (ℕ × Answer))) (n : ℕ) (turn : Turn) (last : List (ℕ × Answer)) → is_call turn ≡ false
    → (r : Runs k given answers) → Answers r.all n turn m last → Runs m (given ++ (n, turn) ∷ []) (answers ++ last ∷ [])
runs_more k m given answers n turn last c r a =
    let t = events.Connection n turn in
    record {
      all = r.all ++ t ∷ a.calls;
      stands = a.stands;
      turns =
          given-more r.all (t ∷ a.calls) ∙ ap (λ (xs : List (ℕ × Turn)). xs ++ given_turns (t ∷ a.calls)) r.turns
          ∙ ap (λ (b : Bool). given ++ ((if b then [] else (n, turn) ∷ []) ++ given_turns a.calls)) c
          ∙ ap (λ (xs : List (ℕ × Turn)). given ++ (n, turn) ∷ xs) (calls-given a.calls a.followed);
      calls = known-more r.all (t ∷ a.calls) r.calls (both (is_given_or_called t) (all_given_or_called a.calls) (ap (λ (b : Bool). not b || is_relayed turn) c) (calls-known a.calls a.followed));
      tells =
          joined-more answers last ∙ ap (λ (xs : List (ℕ × Answer)). xs ++ last) r.tells ∙ ap (λ (xs : List (ℕ × Answer)). told_from no_connections r.all ++ xs) a.tells
          ∙ sym (told-more no_connections r.all (t ∷ a.calls));
    }

no-call : (b c : Bool) → (not b && c) ≡ true → b ≡ false
no-call true c e = absurd (cc)
no-call false c e = refl

-- the turn at this index is taken
pub runs_step : (k m : ConnectionsState) (given : List (ℕ × Turn)) (answers later : List (List (ℕ × Answer))) (i : ℕ) (p : ℕ × Turn) (last : List (ℕ × Answer)) → i < length given
    → p ≡ get_or given i p → (r : Runs k (take i given) answers) → takes (endpoint_history Server r.all) p.0 p.1 ≡ true → Answers r.all p.0 p.1 m last → later ≡ answers ++ last ∷ []
    → Runs m (take (i + 1) given) later
runs_step k m given answers later i p last l e r t a q =
    subst (λ (xs : List (ℕ × Turn)). Runs m xs later) (sym (take_more given i p l ∙ ap (λ (x : ℕ × Turn). take i given ++ x ∷ []) (sym e)))
    (subst (λ (ys : List (List (ℕ × Answer))). Runs m (take i given ++ p ∷ []) ys) (sym q)
    (runs_more k m (take i given) answers p.0 p.1 last (no-call (is_call p.1) _ t) r a))

-- ---- the end

there-at : (given : List (ℕ × Turn)) (i : ℕ) (p : ℕ × Turn) → i < length given → p ≡ get_or given i p → slice_get given i ≡ Some p
there-at [] i p l e = absurd (omega (arith, l))
there-at (x ∷ given) zero p l e = ap Some (sym e)
there-at (x ∷ given) (suc i) p l e = there-at given i p (omega (arith, l)) e

-- all turns were taken
pub run_whole : (k : ConnectionsState) (given : List (ℕ × Turn)) (answers : List (List (ℕ × Answer))) (i : ℕ) → length answers ≡ i → i ≡ length given → Runs k (take i given) answers
    → IsRelayRun given answers None
run_whole k given answers i e f r = record {
  all = r.all;
  may_come = r.stands.may_come;
  apart = apart_theorem Server r.all r.stands.may_come;
  turns = r.turns ∙ ap (λ (n : ℕ). take n given) (sym e);
  calls = r.calls;
  tells = r.tells;
  whole = λ _. e ∙ f;
  stops = tt;
}

-- the next turn isn't lawful
pub run_stops : (k : ConnectionsState) (given : List (ℕ × Turn)) (answers : List (List (ℕ × Answer))) (i : ℕ) (p : ℕ × Turn) → length answers ≡ i → i < length given → p ≡ get_or given i p
    → (r : Runs k (take i given) answers) → takes (endpoint_history Server r.all) p.0 p.1 ≡ false → IsRelayRun given answers (Some i)
run_stops k given answers i p e l g r f = record {
  all = r.all;
  may_come = r.stands.may_come;
  apart = apart_theorem Server r.all r.stands.may_come;
  turns = r.turns ∙ ap (λ (n : ℕ). take n given) (sym e);
  calls = r.calls;
  tells = r.tells;
  whole = λ none. absurd (cc);
  stops = (sym e, record { turn = p; is_there = there-at given i p l g; is_not_taken = f });
}
