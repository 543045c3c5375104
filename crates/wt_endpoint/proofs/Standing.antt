-- What stands for a list of turns answers by it, and goes on.
use Rattle.std.proofs.Common.{◌≡◌, ◌||◌, ◌∷◌, ◌++◌, Bool, List, [], ap, arith, length, not, refl, subst, sym, true, ◌∙◌, ℕ, ◌^◌}
use Rattle.std.proofs.lemmas.Bool.{eq-eqb}
use Rattle.std.proofs.lemmas.Option.{slice_get_past}
use Rattle.std.specs.Prelude.{Err, IfOk, IsTrue, None, OnOk, Ok, Result, nat_lt, slice_get}
use Rattle.wt_endpoint.proofs.Apart.{and-right, closed_theorem, own_history_theorem}
use Rattle.wt_endpoint.proofs.Keeping.{accept_refines, lives_are, may_take_is, next_history, stands_more}
use Rattle.wt_endpoint.specs.Connections.{ConnectionsState, Refines, StandsFor, after_accept, lives_by, may_connect, may_take}
use Rattle.wt_endpoint.specs.Endpoints.{EndpointHistory, closings, connection_history, endpoint_after, endpoint_history, may_come_next, stops}
use Rattle.wt_endpoint.specs.Isolation.{ClosedApart, own_history}
use Rattle.wt_endpoint.specs.declared.turn.EndpointTurn.{EndpointTurn}
use Rattle.wt_endpoint.specs.declared.turn.EndpointTurn.TheVariants as events
use Rattle.wt_meaning.specs.Calls.{is_living}
use Rattle.wt_meaning.specs.History.{History}
use Rattle.wt_meaning.specs.Meaning.{answer_to}
use Rattle.wt_turn.specs.declared.answer.Answer.{Answer}
use Rattle.wt_turn.specs.declared.call.Call.TheVariants as calls
use Rattle.wt_turn.specs.declared.turn.Turn.{Turn}
use Rattle.wt_turn.specs.declared.turn.Turn.TheVariants as turns
use Rattle.wt_wire.specs.declared.error.OutOfMemory.{OutOfMemory}
use Rattle.wt_wire.specs.declared.lookup.ConnectOutcome.{ConnectOutcome}
use Rattle.wt_wire.specs.declared.lookup.Lookup.{Lookup}
use Rattle.wt_wire.specs.declared.side.Side.{Side}
use Rattle.wt_wire.specs.declared.side.Side.TheVariants.{Client, Server}

-- ---- a turn of a connection

pub turn_apart : (side s : Side) (k : ConnectionsState) (all : List EndpointTurn) (n : ℕ) (turn : Turn) (given : Result Answer OutOfMemory) → s ≡ side → StandsFor side k all
    → ((e : EndpointHistory) → Refines s k e → IfOk given (λ a. a ≡ answer_to s (connection_history e n) turn)) → IfOk given (λ a. a ≡ answer_to side (own_history side n all) turn)
turn_apart side s k all n turn given q st f =
    let g = subst (λ (x : Side). (e : EndpointHistory) → Refines x k e → IfOk given (λ a. a ≡ answer_to x (connection_history e n) turn)) q f in
    subst (λ (h : History). IfOk given (λ a. a ≡ answer_to side h turn)) (own_history_theorem side all n st.may_come) (g (endpoint_history side all) st.refines)

pub taken_stands : {X : Type 0} (side s : Side) (k m : ConnectionsState) (all : List EndpointTurn) (t : EndpointTurn) (given : Result X OutOfMemory) → s ≡ side → StandsFor side k all
    → may_come_next side (endpoint_history side all) t ≡ true → ((e : EndpointHistory) → Refines s k e → OnOk given (Refines s m (endpoint_after s e t))) → OnOk given (StandsFor side m (all ++ t ∷ []))
taken_stands side s k m all t (Ok a) q st may f =
    let g = subst (λ (x : Side). (e : EndpointHistory) → Refines x k e → Refines x m (endpoint_after x e t)) q f in
    stands_more side k m all t st may (g (endpoint_history side all) st.refines)
taken_stands side s k m all t (Err x) q st may f = tt

pub turn_may : (side : Side) (k : ConnectionsState) (all : List EndpointTurn) (n : ℕ) (turn : Turn) → StandsFor side k all → IsTrue (may_take side k n turn)
    → may_come_next side (endpoint_history side all) (events.Connection n turn) ≡ true
turn_may side k all n turn st t = sym (may_take_is side k (endpoint_history side all) n turn st.refines) ∙ t

-- ---- which sessions live

pub lives_own : (side : Side) (k : ConnectionsState) (all : List EndpointTurn) (n s : ℕ) (lives : Bool) → StandsFor side k all → lives ≡ lives_by s (slice_get k.cores n) → lives ≡ is_living side (own_history side n all) s
lives_own side k all n s lives st e = e ∙ lives_are side k (endpoint_history side all) n s st.refines ∙ ap (λ (h : History). is_living side h s) (own_history_theorem side all n st.may_come)

-- ---- close

pub close_given : (side s : Side) (k : ConnectionsState) (all : List EndpointTurn) (code : ℕ) (reason : List ℕ) (given : Result (List (ℕ × Answer)) OutOfMemory) → s ≡ side → StandsFor side k all
    → ((e : EndpointHistory) → Refines s k e → IfOk given (λ x. x ≡ closings s e code reason)) → IfOk given (λ x. x ≡ closings side (endpoint_history side all) code reason)
close_given side s k all code reason given q st f =
    let g = subst (λ (y : Side). (e : EndpointHistory) → Refines y k e → IfOk given (λ x. x ≡ closings y e code reason)) q f in
    g (endpoint_history side all) st.refines

pub close_apart : (side : Side) (k : ConnectionsState) (all : List EndpointTurn) (code : ℕ) (reason : List ℕ) (given : Result (List (ℕ × Answer)) OutOfMemory) → StandsFor side k all
    → IfOk given (λ x. x ≡ closings side (endpoint_history side all) code reason) → IfOk given (ClosedApart side all code reason)
close_apart side k all code reason (Ok x) st e = subst (ClosedApart side all code reason) (sym e) (closed_theorem side all code reason st.may_come)
close_apart side k all code reason (Err x) st e = tt

-- ---- accept

pub accept_stands : (k m : ConnectionsState) (all : List EndpointTurn) → StandsFor Server k all → m ≡ after_accept k → StandsFor Server m (all ++ events.Accept ∷ [])
accept_stands k m all st e =
    stands_more Server k m all events.Accept st refl
    (subst (λ (x : ConnectionsState). Refines Server x (endpoint_after Server (endpoint_history Server all) events.Accept)) (sym e) (accept_refines Server k (endpoint_history Server all) st.refines))

-- ---- connect

pub connect_may : (k : ConnectionsState) (n : ℕ) (options : List ℕ × List (List ℕ × List ℕ)) (lookup : Lookup) (outcome : ConnectOutcome) → n ≡ length k.cores → IsTrue (may_connect k outcome)
    → IsTrue (may_take Client k n (turns.Call (calls.Connect options lookup outcome)))
connect_may k n options lookup outcome e m =
    let none : slice_get k.cores n ≡ None = slice_get_past k.cores n (omega (arith, e)) in
    let may : (not k.closed || stops outcome) ≡ true = and-right (nat_lt (length k.cores) (2 ^ 32)) _ m in
    rw (none, eq-eqb n (length k.cores) e) may

pub connect_apart : (k : ConnectionsState) (all : List EndpointTurn) (n : ℕ) (turn : Turn) (given : Result Answer OutOfMemory) → n ≡ length k.cores → StandsFor Client k all
    → ((e : EndpointHistory) → Refines Client k e → IfOk given (λ a. a ≡ answer_to Client (connection_history e n) turn)) → IfOk given (λ a. a ≡ answer_to Client [] turn)
connect_apart k all n turn given i st f =
    subst (λ (h : History). IfOk given (λ a. a ≡ answer_to Client h turn)) (next_history Client k (endpoint_history Client all) n st.refines (omega (arith, i))) (f (endpoint_history Client all) st.refines)

-- a pair is that of its parts
pub pair_is : (o : List ℕ × List (List ℕ × List ℕ)) (url : List ℕ) (headers : List (List ℕ × List ℕ)) → o.0 ≡ url → o.1 ≡ headers → o ≡ (url, headers)
pair_is o url headers e f = ap (λ (x : List ℕ). (x, o.1)) e ∙ ap (λ (y : List (List ℕ × List ℕ)). (url, y)) f
