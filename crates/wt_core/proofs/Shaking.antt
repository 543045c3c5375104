-- What a call of a handshake leaves: where the handshake is by the log after it, and the sessions.
use Rattle.std.proofs.Common.{◌∙◌, ap, refl, subst, sym}
use Rattle.std.proofs.lemmas.Bool.{and_parts, true≢false}
use Rattle.std.specs.Prelude.{◌≡◌, Bool, Err, IfOk, List, Ok, OnOk, Option, Result, false, not, true, ℕ}
use Rattle.wt_driver_laws.specs.Calling.{Always, Did, Does}
use Rattle.wt_driver_laws.specs.Driving.{Follows, IsReachable}
use Rattle.wt_driver_laws.specs.Having.{MayCall}
use Rattle.wt_kept.specs.Kept.{DriverNow}
use Rattle.wt_meaning.specs.Lawful.{is_client}
use Rattle.wt_meaning.specs.Targets.{Target}
use Rattle.wt_core.proofs.MayLaws.{connect-state, not-first}
use Rattle.wt_core.proofs.Reached.{told}
use Rattle.wt_core.specs.Answering.{GoesOnAs, ShakeAnswers, Shaken}
use Rattle.wt_core.specs.Calls.{is_handshake}
use Rattle.wt_core.specs.Held.{Held, accepting, asked, connect_by, connecting, handshake_by, held_after, rejecting}
use Rattle.wt_core.specs.HeldNow.{held_by}
use Rattle.wt_core.specs.Shakes.{Accepting, Connecting, Idle, Incoming, PollsBy, Rejecting, Requested, Shake, ShakeIs, accepted_outcome, accepted_shake, asked_outcome, asked_shake, begun_outcome, begun_shake, connected_outcome, connected_shake, rejected_outcome, rejected_shake, responding_shake}
use Rattle.wt_core.specs.declared.handshake.Outcome.{Outcome}
use Rattle.wt_core.specs.Told.{SameHeld}
use Rattle.wt_session.specs.Connects.{HasBegun, StillConnects}
use Rattle.wt_session.specs.Handshakes.{Connect, HasAcceptance, HasConnect, HasRejection, Rejection, Response}
use Rattle.wt_session.specs.Replies.{Request, accepting_reply, beginning_reply, connecting_reply, incoming_reply, rejecting_reply}
use Rattle.wt_sessions.specs.Answers.{call_effect, is_first, may_call, may_respond}
use Rattle.wt_sessions.specs.Handshake as shakes
use Rattle.wt_sessions.specs.Handshake.{HandshakeState, awaits_answer, awaits_request, handshake_state, is_continuable, response_head}
use Rattle.wt_turn.specs.Log.{Log, calls_of}
use Rattle.wt_turn.specs.declared.call.Call.{Call}
use Rattle.wt_turn.specs.declared.call.Call.TheVariants as calls
use Rattle.wt_turn.specs.declared.connecting_error.ConnectingError.{ConnectingError}
use Rattle.wt_turn.specs.declared.connection_error.ConnectionError.{ConnectionError}
use Rattle.wt_turn.specs.declared.poll.Poll.{Poll}
use Rattle.wt_turn.specs.declared.poll.Poll.TheVariants.{Pending, Ready}
use Rattle.wt_turn.specs.declared.reply.Reply.{Reply}
use Rattle.wt_turn.specs.declared.reply.Reply.TheVariants as replies
use Rattle.wt_wire.specs.HeaderList.{Fields}
use Rattle.wt_wire.specs.declared.lookup.ConnectOutcome.{ConnectOutcome}
use Rattle.wt_wire.specs.declared.lookup.Lookup.{Lookup}
use Rattle.wt_wire.specs.declared.side.Side.{Side}

-- the call answers a request
abbrev pub is_response : Call → Bool
is_response (calls.Accept headers) = true
is_response calls.Forbidden = true
is_response calls.NotFound = true
is_response calls.TooManyRequests = true
is_response _ = false

clash : {P : Type 0} (b : Bool) → b ≡ true → b ≡ false → P
clash b e f = absurd (true≢false (sym e ∙ f))

module _ (side : Side) (log : Log) (collected : ℕ) (d : DriverNow) (r : IsReachable side log) where
  abbrev h : Held
  h = held_by side log

  abbrev state : HandshakeState
  state = handshake_state (calls_of log)

  -- what the application has then, by the reply
  holds-then : (call : Call) (answer : Reply) (next : Held) → answer ≡ (call_effect side log call).reply → held_after call answer h ≡ next → SameHeld (held_by side (call_effect side log call).log) next
  holds-then call answer next e q = subst (SameHeld (held_by side (call_effect side log call).log)) (ap (λ (a : Reply). held_after call a h) (sym e) ∙ q) (told side log r call)

  -- ---- a client's connect

  idle-client : (later : Log) (s : HandshakeState) → is_client side ≡ true → handshake_state (calls_of later) ≡ s → awaits_answer s ≡ false → is_continuable s ≡ false → ShakeIs side later Idle
  idle-client later s c e a b = record { unasked = ap awaits_answer e ∙ a; ended = ap is_continuable e ∙ b; over = λ f. clash (is_client side) c f }

  pub connect-goes : (c next : Connect) (a : Poll (Result ℕ ConnectingError)) → HasConnect c side log → Did side d collected (connecting_reply a) (call_effect side log calls.Handshake) → StillConnects c next a side log collected
      → Shaken side log collected calls.Handshake (connected_outcome a) d (connected_shake a (Connecting next))
  connect-goes c next Pending has did still =
      let s = connect-state side log c has in
      let x = holds-then calls.Handshake replies.Pending (connecting s.0 s.1 replies.Pending h) did.reply (ap (λ (t : HandshakeState). handshake_by t replies.Pending h) s.2) in
      record { did = did; is = (has.0, still has); sessions = λ name. x.sessions name }
  connect-goes c next (Ready (Ok session)) has did still =
      let s = connect-state side log c has in
      let x = holds-then calls.Handshake (replies.Session session) (connecting s.0 s.1 (replies.Session session) h) did.reply (ap (λ (t : HandshakeState). handshake_by t (replies.Session session) h) s.2) in
      record { did = did; is = idle-client (call_effect side log calls.Handshake).log shakes.Answered has.0 x.stage refl refl; sessions = λ name. x.sessions name }
  connect-goes c next (Ready (Err e)) has did still =
      let s = connect-state side log c has in
      let x = holds-then calls.Handshake (replies.ConnectFailed e) (connecting s.0 s.1 (replies.ConnectFailed e) h) did.reply (ap (λ (t : HandshakeState). handshake_by t (replies.ConnectFailed e) h) s.2) in
      record { did = did; is = idle-client (call_effect side log calls.Handshake).log shakes.Over has.0 x.stage refl refl; sessions = λ name. x.sessions name }

  -- ---- a server's response

  accepts-by : (response : Response) (call : Call) → HasAcceptance response call side log → (y : Reply) → held_after call y h ≡ accepting response.head y h
  accepts-by response (calls.Accept headers) has y = ap (λ (xs : List ℕ). accepting xs y h) (sym has.1)
  accepts-by response calls.Handshake has y = ap (λ (t : HandshakeState). handshake_by t y h) has.0.state
  accepts-by response _ has y = absurd has

  pub accept-goes : (response next : Response) (call : Call) (a : Poll (Result ℕ ConnectionError)) → is_client side ≡ false → HasAcceptance response call side log → Did side d collected (accepting_reply a) (call_effect side log call)
      → (a ≡ Pending → HasAcceptance next calls.Handshake side (call_effect side log call).log) → Shaken side log collected call (accepted_outcome a) d (accepted_shake a (Accepting next))
  accept-goes response next call Pending server has did still =
      let x = holds-then call replies.Pending (accepting response.head replies.Pending h) did.reply (accepts-by response call has replies.Pending) in
      record { did = did; is = (server, still refl); sessions = λ name. x.sessions name }
  accept-goes response next call (Ready (Ok session)) server has did still =
      let x = holds-then call (replies.Session session) (accepting response.head (replies.Session session) h) did.reply (accepts-by response call has (replies.Session session)) in
      record { did = did; is = (server, ap awaits_request x.stage); sessions = λ name. x.sessions name }
  accept-goes response next call (Ready (Err e)) server has did still =
      let x = holds-then call (replies.Failed e) (accepting response.head (replies.Failed e) h) did.reply (accepts-by response call has (replies.Failed e)) in
      record { did = did; is = (server, ap awaits_request x.stage); sessions = λ name. x.sessions name }

  rejects-by : (rejection : Rejection) (call : Call) → HasRejection rejection call side log → (y : Reply) → held_after call y h ≡ rejecting rejection.response.head y h
  rejects-by rejection calls.Forbidden has y = ap (λ (xs : List ℕ). rejecting xs y h) (sym has.1)
  rejects-by rejection calls.NotFound has y = ap (λ (xs : List ℕ). rejecting xs y h) (sym has.1)
  rejects-by rejection calls.TooManyRequests has y = ap (λ (xs : List ℕ). rejecting xs y h) (sym has.1)
  rejects-by rejection calls.Handshake has y = ap (λ (t : HandshakeState). handshake_by t y h) has.state
  rejects-by rejection _ has y = absurd has

  pub reject-goes : (rejection next : Rejection) (call : Call) (a : Poll (Unit {0})) → is_client side ≡ false → HasRejection rejection call side log → Did side d collected (rejecting_reply a) (call_effect side log call)
      → (a ≡ Pending → HasRejection next calls.Handshake side (call_effect side log call).log) → Shaken side log collected call (rejected_outcome a) d (rejected_shake a (Rejecting next))
  reject-goes rejection next call Pending server has did still =
      let x = holds-then call replies.Pending (rejecting rejection.response.head replies.Pending h) did.reply (rejects-by rejection call has replies.Pending) in
      record { did = did; is = (server, still refl); sessions = λ name. x.sessions name }
  reject-goes rejection next call (Ready u) server has did still =
      let x = holds-then call replies.Rejected (rejecting rejection.response.head replies.Rejected h) did.reply (rejects-by rejection call has replies.Rejected) in
      record { did = did; is = (server, ap awaits_request x.stage); sessions = λ name. x.sessions name }

  -- ---- a server's request

  pub request-given : (a : Poll (Result Request ConnectionError)) → ShakeIs side log Incoming → Did side d collected (incoming_reply a) (call_effect side log calls.Incoming)
      → Shaken side log collected calls.Incoming (asked_outcome a) d (asked_shake a Incoming)
  request-given Pending is did =
      let x = holds-then calls.Incoming replies.Pending h did.reply refl in
      record { did = did; is = (is.0, ap awaits_request x.stage ∙ is.1); sessions = λ name. x.sessions name }
  request-given (Ready (Ok request)) is did =
      let x = holds-then calls.Incoming (replies.Request request.id request.fields) (asked (replies.Request request.id request.fields) h) did.reply refl in
      record { did = did; is = (is.0, record { state = x.stage; requested = x.requested }); sessions = λ name. x.sessions name }
  request-given (Ready (Err e)) is did =
      let x = holds-then calls.Incoming (replies.Failed e) (asked (replies.Failed e) h) did.reply refl in
      record { did = did; is = record { unasked = ap awaits_answer x.stage; ended = ap is_continuable x.stage; over = λ f. ap awaits_request x.stage }; sessions = λ name. x.sessions name }

  -- ---- a connect that begins

  began : (t : Result Target ConnectingError) (name : Option ℕ) → (connect_by t replies.Pending h).sessions name ≡ h.sessions name
  began (Ok t) name = refl
  began (Err e) name = refl

  failed : (t : Result Target ConnectingError) (e : ConnectingError) → (connect_by t (replies.ConnectFailed e) h).stage ≡ shakes.Over
  failed (Ok t) e = refl
  failed (Err c) e = refl

  failed-sessions : (t : Result Target ConnectingError) (e : ConnectingError) (name : Option ℕ) → (connect_by t (replies.ConnectFailed e) h).sessions name ≡ h.sessions name
  failed-sessions (Ok t) e name = refl
  failed-sessions (Err c) e name = refl

  begins-idle : (s : Shake) → ShakeIs side log s → is_client side ≡ true → is_first log ≡ true → (later : Log) → handshake_state (calls_of later) ≡ shakes.Over → ShakeIs side later s
  begins-idle Incoming is c f later e = clash (is_client side) c is.0
  begins-idle (Requested q) is c f later e = clash (is_client side) c is.0
  begins-idle (Accepting q) is c f later e = clash (is_client side) c is.0
  begins-idle (Rejecting q) is c f later e = clash (is_client side) c is.0
  begins-idle (Connecting q) is c f later e = let s = connect-state side log q is in clash (is_first log) f (not-first side log (shakes.Connecting s.0 s.1) s.2 (λ e. cc))
  begins-idle Idle is c f later e = idle-client later shakes.Over c e refl refl

  pub connect-begins : (options : List ℕ × Fields) (lookup : Lookup) (outcome : ConnectOutcome) (b : Result Connect ConnectingError) (s : Shake) → ShakeIs side log s → may_call side log (calls.Connect options lookup outcome) ≡ true
      → HasBegun b side (call_effect side log (calls.Connect options lookup outcome)).log → Did side d collected (beginning_reply b) (call_effect side log (calls.Connect options lookup outcome))
      → Shaken side log collected (calls.Connect options lookup outcome) (begun_outcome b) d (begun_shake b s)
  connect-begins options lookup outcome (Ok c) s is may has did =
      let x = holds-then (calls.Connect options lookup outcome) replies.Pending _ did.reply refl in
      record { did = did; is = has; sessions = λ name. x.sessions name ∙ began _ name }
  connect-begins options lookup outcome (Err e) s is may has did =
      let x = holds-then (calls.Connect options lookup outcome) (replies.ConnectFailed e) _ did.reply refl in
      let m = and_parts (is_client side) (is_first log) may in
      record { did = did; is = begins-idle s is m.0 m.1 (call_effect side log (calls.Connect options lookup outcome)).log (x.stage ∙ failed _ e); sessions = λ name. x.sessions name ∙ failed-sessions _ e name }

  -- ---- which poll comes next

  neither : (t : HandshakeState) → awaits_request t ≡ true → awaits_answer t ≡ true → ⊥
  neither (shakes.Requested id) a b = cc
  neither shakes.AwaitingRequest a b = cc
  neither shakes.Answered a b = cc
  neither _ a b = cc

  nor : (t : HandshakeState) → awaits_request t ≡ true → is_continuable t ≡ true → ⊥
  nor (shakes.Responding accepts head) a b = cc
  nor (shakes.Connecting reserved head) a b = cc
  nor shakes.AwaitingRequest a b = cc
  nor shakes.Answered a b = cc
  nor _ a b = cc

  asked-of : (s : Shake) → ShakeIs side log s → may_respond side log ≡ true → (q : Request) × (s ≡ Requested q)
  asked-of Incoming is m = absurd (neither state is.1 (and_parts (not (is_client side)) (awaits_answer state) m).1)
  asked-of (Requested q) is m = (q, refl)
  asked-of (Accepting q) is m = clash (awaits_answer state) (and_parts (not (is_client side)) (awaits_answer state) m).1 (ap awaits_answer is.1.0.state)
  asked-of (Rejecting q) is m = clash (awaits_answer state) (and_parts (not (is_client side)) (awaits_answer state) m).1 (ap awaits_answer is.1.state)
  asked-of (Connecting q) is m = let s = connect-state side log q is in clash (awaits_answer state) (and_parts (not (is_client side)) (awaits_answer state) m).1 (ap awaits_answer s.2)
  asked-of Idle is m = clash (awaits_answer state) (and_parts (not (is_client side)) (awaits_answer state) m).1 is.unasked

  -- the first poll of a response answers the request
  pub responds-polls : (s : Shake) → ShakeIs side log s → may_respond side log ≡ true → (call : Call) → is_response call ≡ true → PollsBy (responding_shake s call) call side log
  responds-polls s is m call e =
      let (q, same) = asked-of s is m in
      let has : ShakeIs side log (Requested q) = subst (ShakeIs side log) same is in
      subst (λ (t : Shake). PollsBy (responding_shake t call) call side log) (sym same) (by q has call e)
    where
      by : (q : Request) → ShakeIs side log (Requested q) → (call : Call) → is_response call ≡ true → PollsBy (responding_shake (Requested q) call) call side log
      by q has (calls.Accept headers) e = (has.0, (has.1, refl, refl))
      by q has calls.Forbidden e = (has.0, (has.1, refl, refl, refl))
      by q has calls.NotFound e = (has.0, (has.1, refl, refl, refl))
      by q has calls.TooManyRequests e = (has.0, (has.1, refl, refl, refl))
      by q has _ e = absurd cc

  -- what was begun goes on
  pub goes-polls : (s : Shake) → ShakeIs side log s → is_continuable state ≡ true → PollsBy s calls.Handshake side log
  goes-polls Incoming is m = absurd (nor state is.1 m)
  goes-polls (Requested q) is m = clash (is_continuable state) m (ap is_continuable is.1.state)
  goes-polls (Accepting q) is m = is
  goes-polls (Rejecting q) is m = is
  goes-polls (Connecting q) is m = (is, refl)
  goes-polls Idle is m = clash (is_continuable state) m is.ended

-- ---- the calls

pub shaken-as : (side : Side) (log : Log) (collected : ℕ) (call : Call) (d : DriverNow) (o p : Outcome) (s t : Shake) → p ≡ o → t ≡ s → Shaken side log collected call o d s → Shaken side log collected call p d t
shaken-as side log collected call d o p s t e q x = subst (λ (u : Shake). Shaken side log collected call p d u) (sym q) (subst (λ (y : Outcome). Shaken side log collected call y d s) (sym e) x)

pub incoming-answers : {E : Type 0} (result : Result Outcome E) (a : Poll (Result Request ConnectionError)) (d later : DriverNow) (next : Shake) → IfOk result (λ o. o ≡ asked_outcome a) → OnOk result (next ≡ asked_shake a Incoming)
    → Does d later (MayCall calls.Incoming) calls.Incoming incoming_reply a → ShakeAnswers d Incoming calls.Incoming result later next
incoming-answers (Ok o) a d later next e q does = λ side log collected f r is may. shaken-as side log collected calls.Incoming later (asked_outcome a) o (asked_shake a Incoming) next e q (request-given side log collected later r a is (does side log collected f r may))
incoming-answers (Err x) a d later next e q does = tt

pub connect-answers : (options : List ℕ × Fields) (lookup : Lookup) (outcome : ConnectOutcome) (b : Result Connect ConnectingError) (d later : DriverNow) (s next : Shake) (o : Outcome) → o ≡ begun_outcome b → next ≡ begun_shake b s
    → Does d later (MayCall (calls.Connect options lookup outcome)) (calls.Connect options lookup outcome) beginning_reply b
    → Always d (λ side log collected. MayCall (calls.Connect options lookup outcome) side log → HasBegun b side (call_effect side log (calls.Connect options lookup outcome)).log)
    → (side : Side) (log : Log) (collected : ℕ) → Follows side d log collected → IsReachable side log → ShakeIs side log s → may_call side log (calls.Connect options lookup outcome) ≡ true
    → Shaken side log collected (calls.Connect options lookup outcome) o later next
connect-answers options lookup outcome b d later s next o e q does begun side log collected f r is may =
    shaken-as side log collected (calls.Connect options lookup outcome) later (begun_outcome b) o (begun_shake b s) next e q
    (connect-begins side log collected later r options lookup outcome b s is may (begun side log collected f r may) (does side log collected f r may))

module _ (call : Call) (d later : DriverNow) (next : Shake) (o : Outcome) (side : Side) (log : Log) (collected : ℕ) (f : Follows side d log collected) (r : IsReachable side log) where
  pub connected-on : (c c' : Connect) (a : Poll (Result ℕ ConnectingError)) → o ≡ connected_outcome a → next ≡ connected_shake a (Connecting c') → Does d later (HasConnect c) calls.Handshake connecting_reply a → Always d (StillConnects c c' a)
      → PollsBy (Connecting c) call side log → Shaken side log collected call o later next
  connected-on c c' a e q does still p =
      subst (λ (x : Call). Shaken side log collected x o later next) (sym p.1)
      (shaken-as side log collected calls.Handshake later (connected_outcome a) o (connected_shake a (Connecting c')) next e q (connect-goes side log collected later r c c' a p.0 (does side log collected f r p.0) (still side log collected f r)))

  pub accepted-on : (c c' : Response) (a : Poll (Result ℕ ConnectionError)) → o ≡ accepted_outcome a → next ≡ accepted_shake a (Accepting c') → Does d later (HasAcceptance c call) call accepting_reply a
      → Always d (λ side log collected. HasAcceptance c call side log → a ≡ Pending → HasAcceptance c' calls.Handshake side (call_effect side log call).log) → PollsBy (Accepting c) call side log → Shaken side log collected call o later next
  accepted-on c c' a e q does still p =
      shaken-as side log collected call later (accepted_outcome a) o (accepted_shake a (Accepting c')) next e q (accept-goes side log collected later r c c' call a p.0 p.1 (does side log collected f r p.1) (still side log collected f r p.1))

  pub rejected-on : (c c' : Rejection) (a : Poll (Unit {0})) → o ≡ rejected_outcome a → next ≡ rejected_shake a (Rejecting c') → Does d later (HasRejection c call) call rejecting_reply a
      → Always d (λ side log collected. HasRejection c call side log → a ≡ Pending → HasRejection c' calls.Handshake side (call_effect side log call).log) → PollsBy (Rejecting c) call side log → Shaken side log collected call o later next
  rejected-on c c' a e q does still p =
      shaken-as side log collected call later (rejected_outcome a) o (rejected_shake a (Rejecting c')) next e q (reject-goes side log collected later r c c' call a p.0 p.1 (does side log collected f r p.1) (still side log collected f r p.1))

pub goes-answers : {E : Type 0} (call : Call) (result : Result Outcome E) (d later : DriverNow) (s mid next : Shake) → GoesOnAs d mid call result later next
    → ((side : Side) (log : Log) → IsReachable side log → ShakeIs side log s → may_call side log call ≡ true → PollsBy mid call side log) → ShakeAnswers d s call result later next
goes-answers call (Ok o) d later s mid next g p = λ side log collected f r is may. g side log collected f r (p side log r is may) may
goes-answers call (Err x) d later s mid next g p = tt

-- what was begun goes on
pub goes-begun : (d : DriverNow) (s : Shake) (side : Side) (log : Log) → IsReachable side log → ShakeIs side log s → may_call side log calls.Handshake ≡ true → PollsBy s calls.Handshake side log
goes-begun d s side log r is may = goes-polls side log 0 d r s is may

-- the call answers a request, where it is none of the other three
pub response-left : (call : Call) → is_handshake call ≡ true → ((options : List ℕ × Fields) (lookup : Lookup) (outcome : ConnectOutcome) → call ≡ calls.Connect options lookup outcome → ⊥) → (call ≡ calls.Incoming → ⊥) → (call ≡ calls.Handshake → ⊥) → is_response call ≡ true
response-left (calls.Connect options lookup outcome) e a b c = absurd (a options lookup outcome refl)
response-left calls.Incoming e a b c = absurd (b refl)
response-left calls.Handshake e a b c = absurd (c refl)
response-left (calls.Accept headers) e a b c = refl
response-left calls.Forbidden e a b c = refl
response-left calls.NotFound e a b c = refl
response-left calls.TooManyRequests e a b c = refl
response-left _ e a b c = absurd cc

may-response : (side : Side) (log : Log) (call : Call) → is_response call ≡ true → may_call side log call ≡ true → may_respond side log ≡ true
may-response side log (calls.Accept headers) e may = may
may-response side log calls.Forbidden e may = may
may-response side log calls.NotFound e may = may
may-response side log calls.TooManyRequests e may = may
may-response side log _ e may = absurd cc

-- the response that began goes on
pub goes-responding : (d : DriverNow) (s mid : Shake) (call : Call) → is_response call ≡ true → mid ≡ responding_shake s call → (side : Side) (log : Log) → IsReachable side log → ShakeIs side log s → may_call side log call ≡ true → PollsBy mid call side log
goes-responding d s mid call e q side log r is may = subst (λ (t : Shake). PollsBy t call side log) (sym q) (responds-polls side log 0 d r s is (may-response side log call e may) call e)
