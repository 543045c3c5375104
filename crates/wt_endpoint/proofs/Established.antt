-- A server's connection begins as it is established, so one that is accepted was.
use Rattle.std.proofs.Common.{◌≡◌, ◌<◌, ◌∷◌, Bool, List, [], ap, arith, false, length, refl, subst, sym, true, ◌∙◌, ℕ}
use Rattle.std.proofs.lemmas.Bool.Decides.{nat_tests}
use Rattle.std.specs.Prelude.{Option, Some, nat_lt}
use Rattle.wt_endpoint.proofs.Apart.{apart_theorem, begun-all, own_history_theorem}
use Rattle.wt_endpoint.proofs.ByNumber.{begun-get}
use Rattle.wt_endpoint.specs.Endpoints.{AllMayCome, accept_answer, accept_next, endpoint_history, no_connections}
use Rattle.wt_endpoint.specs.Isolation.{begin_established, own_turns}
use Rattle.wt_endpoint.specs.declared.turn.EndpointTurn.{EndpointTurn}
use Rattle.wt_meaning.specs.History.{History}
use Rattle.wt_meaning.specs.Lawful.{is_first, is_lawful, may_call}
use Rattle.wt_promise.specs.Lists.{history_of}
use Rattle.wt_promise.specs.Promise.{AllLawful}
use Rattle.wt_turn.specs.declared.call.Call.{Call}
use Rattle.wt_turn.specs.declared.call.Call.TheVariants as calls
use Rattle.wt_turn.specs.declared.poll.Poll.{Poll}
use Rattle.wt_turn.specs.declared.poll.Poll.TheVariants.{Pending, Ready}
use Rattle.wt_turn.specs.declared.turn.Turn.{Turn}
use Rattle.wt_turn.specs.declared.turn.Turn.TheVariants as turns
use Rattle.wt_wire.specs.declared.side.Side.TheVariants.{Server}

-- no call comes first
no-call : (call : Call) → may_call Server [] call ≡ true → false ≡ true
no-call (calls.Connect options lookup outcome) l = l
no-call call l = l

first-turn : (turn : Turn) (later : List Turn) → is_lawful Server [] turn ≡ true → begin_established (turn ∷ later) ≡ true
first-turn (turns.Connected uni bi credit datagrams) later l = refl
first-turn (turns.Call call) later l = no-call call l
first-turn turn later l = l

first-of : (own : List Turn) → AllLawful Server [] own → is_first (history_of Server [] own) ≡ false → begin_established own ≡ true
first-of [] a f = sym f
first-of (turn ∷ later) a f = first-turn turn later a.0

begun-established : (all : List EndpointTurn) (n : ℕ) → AllMayCome Server no_connections all → n < length (endpoint_history Server all).histories → begin_established (own_turns Server n all) ≡ true
begun-established all n c l =
    let begun = begun-get (endpoint_history Server all).histories n (begun-all Server no_connections all c tt) l in
    first-of (own_turns Server n all) (apart_theorem Server all c n).1 (subst (λ (h : History). is_first h ≡ false) (own_history_theorem Server all n c) begun)

abbrev number-of : Option (Poll ℕ) → ℕ
number-of (Some (Ready n)) = n
number-of _ = 0

given-by : (closed : Bool) (accepted count n : ℕ) (p : Bool) → nat_lt accepted count ≡ p → accept_next closed accepted count ≡ Some (Ready n) → n < count
given-by true accepted count n p q e = absurd (cc)
given-by false accepted count n true q e =
    let same : accepted ≡ n = ap number-of (rw q at e) in
    let less : nat_lt n count ≡ true = ap (λ k. nat_lt k count) (sym same) ∙ q in
    grind (arith, nat_tests)
given-by false accepted count n false q e = let none : Some Pending ≡ Some (Ready n) = rw q at e in absurd (cc)

-- the connection that an accept gives
pub accepted_established : (all : List EndpointTurn) (n : ℕ) → AllMayCome Server no_connections all → accept_answer (endpoint_history Server all) ≡ Some (Ready n)
    → begin_established (own_turns Server n all) ≡ true
accepted_established all n c e =
    let after = endpoint_history Server all in
    begun-established all n c (given-by after.closed after.accepted (length after.histories) n (nat_lt after.accepted (length after.histories)) refl e)
