-- Which call may come, by the handshake that is kept: it is the definitions'.
use Rattle.std.proofs.Common.{◌∙◌, ap, refl, sym}
use Rattle.std.proofs.lemmas.Bool.{true≢false}
use Rattle.std.specs.Prelude.{[], ◌&&◌, ◌∷◌, ◌≡◌, Bool, List, None, Option, Some, false, not, true, ℕ}
use Rattle.wt_meaning.specs.Lawful.{is_client}
use Rattle.wt_core.specs.Shakes.{Accepting, Connecting, Idle, Incoming, Rejecting, Requested, Shake, ShakeIs, may_come}
use Rattle.wt_session.specs.Handshakes.{Asking, Connect, Dialled, HasConnect, Rejection, Reserved, Response}
use Rattle.wt_session.specs.Replies.{Request}
use Rattle.wt_sessions.specs.Answers.{is_first, may_call}
use Rattle.wt_sessions.specs.Handshake as shakes
use Rattle.wt_sessions.specs.Handshake.{HandshakeState, awaits_answer, awaits_request, handshake_state, is_continuable}
use Rattle.wt_turn.specs.Log.{Log, calls_of}
use Rattle.wt_turn.specs.declared.call.Call.{Call}
use Rattle.wt_turn.specs.declared.call.Call.TheVariants as calls
use Rattle.wt_wire.specs.declared.side.Side.{Side}

-- the definitions' rule, by whether this end is a client, whether something happened, and how far the handshake is
abbrev may-of : Bool → Bool → HandshakeState → Call → Bool
may-of cl fi st (calls.Connect options lookup outcome) = cl && fi
may-of cl fi st calls.Incoming = not cl && not fi && awaits_request st
may-of cl fi st (calls.Accept headers) = not cl && awaits_answer st
may-of cl fi st calls.Forbidden = not cl && awaits_answer st
may-of cl fi st calls.NotFound = not cl && awaits_answer st
may-of cl fi st calls.TooManyRequests = not cl && awaits_answer st
may-of cl fi st calls.Handshake = is_continuable st
may-of cl fi st _ = not fi

rule-is : (side : Side) (log : Log) (call : Call) → may-of (is_client side) (is_first log) (handshake_state (calls_of log)) call ≡ may_call side log call
rule-is side log (calls.Connect options lookup outcome) = refl
rule-is side log calls.Incoming = refl
rule-is side log (calls.Accept headers) = refl
rule-is side log calls.Forbidden = refl
rule-is side log calls.NotFound = refl
rule-is side log calls.TooManyRequests = refl
rule-is side log calls.Handshake = refl
rule-is side log _ = refl

-- ---- by the handshake

asks : (fi : Bool) (st : HandshakeState) → awaits_request st ≡ true → (call : Call) → may_come fi Incoming call ≡ may-of false fi st call
asks fi shakes.AwaitingRequest e (calls.Connect options lookup outcome) = refl
asks true shakes.AwaitingRequest e calls.Incoming = refl
asks false shakes.AwaitingRequest e calls.Incoming = refl
asks fi shakes.AwaitingRequest e (calls.Accept headers) = refl
asks fi shakes.AwaitingRequest e calls.Forbidden = refl
asks fi shakes.AwaitingRequest e calls.NotFound = refl
asks fi shakes.AwaitingRequest e calls.TooManyRequests = refl
asks fi shakes.AwaitingRequest e calls.Handshake = refl
asks fi shakes.AwaitingRequest e _ = refl
asks fi shakes.Answered e (calls.Connect options lookup outcome) = refl
asks true shakes.Answered e calls.Incoming = refl
asks false shakes.Answered e calls.Incoming = refl
asks fi shakes.Answered e (calls.Accept headers) = refl
asks fi shakes.Answered e calls.Forbidden = refl
asks fi shakes.Answered e calls.NotFound = refl
asks fi shakes.Answered e calls.TooManyRequests = refl
asks fi shakes.Answered e calls.Handshake = refl
asks fi shakes.Answered e _ = refl
asks fi _ e call = absurd cc

answers : (fi : Bool) (r : Request) (id : ℕ) (call : Call) → may_come fi (Requested r) call ≡ may-of false fi (shakes.Requested id) call
answers fi r id (calls.Connect options lookup outcome) = refl
answers true r id calls.Incoming = refl
answers false r id calls.Incoming = refl
answers fi r id (calls.Accept headers) = refl
answers fi r id calls.Forbidden = refl
answers fi r id calls.NotFound = refl
answers fi r id calls.TooManyRequests = refl
answers fi r id calls.Handshake = refl
answers fi r id _ = refl

accepts : (fi : Bool) (r : Response) (head : List ℕ) (call : Call) → may_come fi (Accepting r) call ≡ may-of false fi (shakes.Responding true head) call
accepts fi r head (calls.Connect options lookup outcome) = refl
accepts true r head calls.Incoming = refl
accepts false r head calls.Incoming = refl
accepts fi r head (calls.Accept headers) = refl
accepts fi r head calls.Forbidden = refl
accepts fi r head calls.NotFound = refl
accepts fi r head calls.TooManyRequests = refl
accepts fi r head calls.Handshake = refl
accepts fi r head _ = refl

rejects : (fi : Bool) (r : Rejection) (head : List ℕ) (call : Call) → may_come fi (Rejecting r) call ≡ may-of false fi (shakes.Responding false head) call
rejects fi r head (calls.Connect options lookup outcome) = refl
rejects true r head calls.Incoming = refl
rejects false r head calls.Incoming = refl
rejects fi r head (calls.Accept headers) = refl
rejects fi r head calls.Forbidden = refl
rejects fi r head calls.NotFound = refl
rejects fi r head calls.TooManyRequests = refl
rejects fi r head calls.Handshake = refl
rejects fi r head _ = refl

connects : (c : Connect) (reserved : Option (List ℕ)) (head : List ℕ) (call : Call) → may_come false (Connecting c) call ≡ may-of true false (shakes.Connecting reserved head) call
connects c reserved head (calls.Connect options lookup outcome) = refl
connects c reserved head calls.Incoming = refl
connects c reserved head (calls.Accept headers) = refl
connects c reserved head calls.Forbidden = refl
connects c reserved head calls.NotFound = refl
connects c reserved head calls.TooManyRequests = refl
connects c reserved head calls.Handshake = refl
connects c reserved head _ = refl

rests-client : (fi : Bool) (st : HandshakeState) → awaits_answer st ≡ false → is_continuable st ≡ false → (call : Call) → may_come fi Idle call ≡ may-of true fi st call
rests-client fi shakes.AwaitingRequest a b (calls.Connect options lookup outcome) = refl
rests-client fi shakes.AwaitingRequest a b calls.Incoming = refl
rests-client fi shakes.AwaitingRequest a b (calls.Accept headers) = refl
rests-client fi shakes.AwaitingRequest a b calls.Forbidden = refl
rests-client fi shakes.AwaitingRequest a b calls.NotFound = refl
rests-client fi shakes.AwaitingRequest a b calls.TooManyRequests = refl
rests-client fi shakes.AwaitingRequest a b calls.Handshake = refl
rests-client fi shakes.AwaitingRequest a b _ = refl
rests-client fi shakes.Answered a b (calls.Connect options lookup outcome) = refl
rests-client fi shakes.Answered a b calls.Incoming = refl
rests-client fi shakes.Answered a b (calls.Accept headers) = refl
rests-client fi shakes.Answered a b calls.Forbidden = refl
rests-client fi shakes.Answered a b calls.NotFound = refl
rests-client fi shakes.Answered a b calls.TooManyRequests = refl
rests-client fi shakes.Answered a b calls.Handshake = refl
rests-client fi shakes.Answered a b _ = refl
rests-client fi shakes.Over a b (calls.Connect options lookup outcome) = refl
rests-client fi shakes.Over a b calls.Incoming = refl
rests-client fi shakes.Over a b (calls.Accept headers) = refl
rests-client fi shakes.Over a b calls.Forbidden = refl
rests-client fi shakes.Over a b calls.NotFound = refl
rests-client fi shakes.Over a b calls.TooManyRequests = refl
rests-client fi shakes.Over a b calls.Handshake = refl
rests-client fi shakes.Over a b _ = refl
rests-client fi (shakes.Requested id) a b call = absurd cc
rests-client fi (shakes.Responding accepts head) a b call = absurd cc
rests-client fi (shakes.Connecting reserved head) a b call = absurd cc

rests-server : (st : HandshakeState) → awaits_answer st ≡ false → is_continuable st ≡ false → awaits_request st ≡ false → (call : Call) → may_come false Idle call ≡ may-of false false st call
rests-server shakes.Over a b w (calls.Connect options lookup outcome) = refl
rests-server shakes.Over a b w calls.Incoming = refl
rests-server shakes.Over a b w (calls.Accept headers) = refl
rests-server shakes.Over a b w calls.Forbidden = refl
rests-server shakes.Over a b w calls.NotFound = refl
rests-server shakes.Over a b w calls.TooManyRequests = refl
rests-server shakes.Over a b w calls.Handshake = refl
rests-server shakes.Over a b w _ = refl
rests-server shakes.AwaitingRequest a b w call = absurd cc
rests-server shakes.Answered a b w call = absurd cc
rests-server (shakes.Requested id) a b w call = absurd cc
rests-server (shakes.Responding accepts head) a b w call = absurd cc
rests-server (shakes.Connecting reserved head) a b w call = absurd cc

-- ---- by the log

nothing-yet : (log : Log) → is_first log ≡ true → handshake_state (calls_of log) ≡ shakes.AwaitingRequest
nothing-yet [] e = refl
nothing-yet (x ∷ log) e = absurd cc

module _ (side : Side) (log : Log) where
  abbrev state : HandshakeState
  state = handshake_state (calls_of log)

  pub not-first : (s : HandshakeState) → state ≡ s → (shakes.AwaitingRequest ≡ s → ⊥) → is_first log ≡ false
  not-first s e n = by (is_first log) refl
    where
      by : (b : Bool) → is_first log ≡ b → b ≡ false
      by true f = absurd (n (sym (nothing-yet log f) ∙ e))
      by false f = refl

  as-state : (b : Bool) (s : HandshakeState) (call : Call) → is_client side ≡ b → state ≡ s → may-of b (is_first log) s call ≡ may_call side log call
  as-state b s call c e = (λ i. may-of (sym c i) (is_first log) (sym e i) call) ∙ rule-is side log call

  pub connect-state : (c : Connect) → HasConnect c side log → (reserved : Option (List ℕ)) × (head : List ℕ) × (state ≡ shakes.Connecting reserved head)
  connect-state (Reserved name) h = (Some name, h.1.0, h.1.1)
  connect-state (Dialled head) h = (None, head, h.1.0)
  connect-state (Asking id head left sent) h = (None, head, h.1.1)

  connect-client : (c : Connect) → HasConnect c side log → is_client side ≡ true
  connect-client (Reserved name) h = h.0
  connect-client (Dialled head) h = h.0
  connect-client (Asking id head left sent) h = h.0

  may-now : (s : Shake) → ShakeIs side log s → (call : Call) → may_come (is_first log) s call ≡ may_call side log call
  may-now Incoming h call = asks (is_first log) state h.1 call ∙ as-state false state call h.0 refl
  may-now (Requested r) h call = answers (is_first log) r r.id call ∙ as-state false (shakes.Requested r.id) call h.0 h.1.state
  may-now (Accepting r) h call = accepts (is_first log) r r.head call ∙ as-state false (shakes.Responding true r.head) call h.0 h.1.0.state
  may-now (Rejecting r) h call = rejects (is_first log) r r.response.head call ∙ as-state false (shakes.Responding false r.response.head) call h.0 h.1.state
  may-now (Connecting c) h call =
      let s = connect-state c h in
      let n = not-first (shakes.Connecting s.0 s.1) s.2 (λ e. cc) in
      ap (λ (b : Bool). may_come b (Connecting c) call) n ∙ connects c s.0 s.1 call ∙ (λ i. may-of true (sym n i) (shakes.Connecting s.0 s.1) call) ∙ as-state true (shakes.Connecting s.0 s.1) call (connect-client c h) s.2
  may-now Idle h call = by (is_client side) refl
    where
      server : is_client side ≡ false → may_come (is_first log) Idle call ≡ may_call side log call
      server c =
          let n = not-first state refl (λ e. true≢false (ap awaits_request e ∙ h.over c)) in
          ap (λ (b : Bool). may_come b Idle call) n ∙ rests-server state h.unasked h.ended (h.over c) call ∙ (λ i. may-of false (sym n i) state call) ∙ as-state false state call c refl

      by : (b : Bool) → is_client side ≡ b → may_come (is_first log) Idle call ≡ may_call side log call
      by true c = rests-client (is_first log) state h.unasked h.ended call ∙ as-state true state call c refl
      by false c = server c

  pub may-is : (first : Bool) → first ≡ is_first log → (s : Shake) → ShakeIs side log s → (call : Call) → may_come first s call ≡ may_call side log call
  may-is first e s h call = ap (λ (b : Bool). may_come b s call) e ∙ may-now s h call
