-- A poll of an acceptance: by what a write of the response's rest answers, it does what the definitions say.
use Rattle.std.proofs.Common.{◌∙◌, ap, refl, subst, sym}
use Rattle.std.proofs.lemmas.Bool.{true≢false}
use Rattle.std.specs.List.{list_any}
use Rattle.std.specs.Prelude.{[], ◌&&◌, ◌++◌, ◌∷◌, ◌≡◌, Bool, Err, IfOk, List, Ok, Result, codes, drop, false, if◌then◌else◌, is_some, length, not, suc, take, true, zero, ℕ}
use Rattle.wt_meaning.specs.Handshakes.{is_nothing}
use Rattle.wt_meaning.specs.Lawful.{is_client}
use Rattle.wt_message.specs.FixedBytes.{headers_frame_bytes}
use Rattle.wt_driver_laws.specs.Calling.{Did, log_record}
use Rattle.wt_driver_laws.specs.Driving.{Follows, IsReachable, IsWithin}
use Rattle.wt_kept.specs.Kept.{DriverNow}
use Rattle.wt_driver_laws.specs.Handing.{BeginsSession, MayBegin, is_at_hand, write_actions, write_answer, write_leaves}
use Rattle.wt_driver_laws.specs.LogLaws.{LogLaws, RequestLaws}
use Rattle.wt_driver_laws.specs.Records.{is_unnoticed}
use Rattle.wt_session.proofs.AtRest.{at-rest}
use Rattle.wt_session.proofs.Heads.{left-after, some-left}
use Rattle.wt_session.proofs.Middle.{calls-stay, open-stays, sent-more, table-stays, writes-after}
use Rattle.wt_session.proofs.Sessions.{Rests, later-within}
use Rattle.wt_session.specs.Handshakes.{HasAcceptance, IsBegun, Response}
use Rattle.wt_session.specs.Replies.{accepting_reply}
use Rattle.wt_turn.specs.Joined.{send_of}
use Rattle.wt_turn.specs.Outgoing.{bytes_within_credit, credit_left, if_open}
use Rattle.wt_turn.specs.Reports.{stop_of}
use Rattle.wt_turn.specs.Sent.{is_finished, sent_on}
use Rattle.wt_sessions.specs.Answers.{call_effect}
use Rattle.wt_sessions.specs.Driver.{accepts_stream, call_view, delivers, ends_session, members_of, receives, sessions_of, stream_table}
use Rattle.wt_sessions.specs.Effect.{Effect, close_when_open, head_left, is_covered, log_call, reply_with, transport_error}
use Rattle.wt_sessions.specs.Handshake.{HandshakeState, Requested, Responding, accept_response, continue_by, establish, fail_acceptance, handshake_state, request_end, requested_stream, response_head}
use Rattle.wt_sessions.specs.StreamTable.{CallView, StreamTable, verdict_of, was_established}
use Rattle.wt_turn.specs.Log.{AcceptanceFailed, CallRecord, Called, Log, Polled, ResponseStarted, SessionEstablished, actions_of, calls_of, events_of, is_open, with_actions}
use Rattle.wt_turn.specs.declared.action.Action.{Action}
use Rattle.wt_turn.specs.declared.action.Action.TheVariants as actions
use Rattle.wt_turn.specs.declared.call.Call.{Call}
use Rattle.wt_turn.specs.declared.call.Call.TheVariants as calls
use Rattle.wt_turn.specs.declared.connection_error.ConnectionError.{ConnectionError}
use Rattle.wt_turn.specs.declared.connection_error.ConnectionError.TheVariants as errors
use Rattle.wt_turn.specs.declared.poll.Poll.{Poll}
use Rattle.wt_turn.specs.declared.poll.Poll.TheVariants.{Pending, Ready}
use Rattle.wt_turn.specs.declared.proto_error.ProtoWriteError.{ProtoWriteError}
use Rattle.wt_turn.specs.declared.proto_error.ProtoWriteError.TheVariants as writes
use Rattle.wt_turn.specs.declared.reply.Reply.{Reply}
use Rattle.wt_turn.specs.declared.reply.Reply.TheVariants as replies
use Rattle.wt_wire.specs.Codes.{code_of}
use Rattle.wt_wire.specs.HeaderList.{Fields}
use Rattle.wt_wire.specs.Varint.{varint_bytes}
use Rattle.wt_wire.specs.declared.error.ErrorCode.TheVariants as h3
use Rattle.wt_wire.specs.declared.side.Side.{Side}

-- ---- bytes

-- a frame has bytes
pub frame-begun : (fields : Fields) → is_nothing (headers_frame_bytes fields) ≡ false
unfolding varint_bytes
frame-begun fields = refl

-- where credit covers all of the bytes, all of them go out
pub covered-all : (n : ℕ) (xs : List ℕ) → is_nothing (drop (length (take n xs)) xs) ≡ true → take n xs ≡ xs
covered-all zero [] e = refl
covered-all zero (x ∷ xs) e = absurd cc
covered-all (suc n) [] e = refl
covered-all (suc n) (x ∷ xs) e = ap (λ ys. x ∷ ys) (covered-all n xs e)

-- ---- the log in the middle

-- the log after two lots of actions is in the middle of a call, too
pub twice-within : (side : Side) (log : Log) (own more : List Action) → IsReachable side log → IsWithin side (with_actions more (with_actions own log))
twice-within side log own more r = record { before = log; own = own ++ more; reached = r; is = sym (sent-more own more log) }

-- what these calls did
abbrev pub view-of : List CallRecord → CallView
view-of cs = record {
  accepted = λ k. list_any (accepts_stream k) cs;
  received = λ n. list_any (receives n) cs;
  delivered = λ k. list_any (delivers k) cs;
  ended = λ s. list_any (ends_session s) cs;
  sessions = sessions_of cs;
  members = members_of cs;
}

-- a server's session may begin in the middle of the call, where its request is at hand
pub may-begin : (side : Side) (log : Log) (id : ℕ) (left : List ℕ) → is_client side ≡ false → RequestLaws side log id → is_finished (actions_of log) id ≡ false
    → MayBegin (is_client side) side (with_actions (write_actions log id left) log) id (request_end (verdict_of id (stream_table side log).classified))
may-begin side log id left server laws unfinished = subst (λ (b : Bool). MayBegin b side (with_actions own log) id (request_end (verdict_of id (stream_table side log).classified))) (sym server) (
  same-view (λ (v : CallView). v.delivered id) ∙ laws.delivered,
  same-view (λ (v : CallView). was_established v id) ∙ laws.unestablished,
  same-view (λ (v : CallView). v.ended id) ∙ laws.unended,
  ap (λ (t : StreamTable). request_end (verdict_of id t.classified)) (sym (table-stays side own log)),
  writes-after side log id left (record { can = laws.can; finished = λ o. unfinished; reset = λ o. laws.reset }),
)
  where
    own : List Action
    own = write_actions log id left

    same-view : {T : Type 0} (f : CallView → T) → f (call_view (with_actions own log)) ≡ f (call_view log)
    same-view f = ap (λ (cs : List CallRecord). f (view-of cs)) (calls-stay own log)

module _ (side : Side) (log : Log) (collected id : ℕ) (left : List ℕ) (later : DriverNow) where
  abbrev bytes : List ℕ
  bytes = bytes_within_credit log id left

  abbrev pub own-by : Bool → Bool → List Action
  own-by o s = if o && not s then send_of id bytes else []

  abbrev pub answer-by : Bool → Bool → Bool → Poll (Result (Unit {0}) ProtoWriteError)
  answer-by o s c = if not o then Ready (Err writes.NotConnected) else (if s then Ready (Err writes.Stopped) else (if c then Ready (Ok tt) else Pending))

  abbrev accept-by : CallRecord → Bool → Bool → Bool → Bool → Effect
  accept-by waiting o s n c =
      if not o then fail_acceptance side log [] (transport_error log) else
      (if s && not n then fail_acceptance side log (close_when_open log (code_of h3.ClosedCriticalStream)) (errors.LocalH3Error h3.ClosedCriticalStream) else
      (if c then establish side log (send_of id left) id (request_end (verdict_of id (stream_table side log).classified))
      else reply_with (log_call side log (send_of id bytes) waiting) replies.Pending))

  -- a rest lacks credit
  pub pending-does : (waiting : CallRecord) → is_unnoticed waiting ≡ true → Rests later → IsReachable side log
      → Follows side later (with_actions (write_actions log id left) log) collected → Pending ≡ write_answer log id left
      → Did side later collected replies.Pending (accept_response side log id left waiting)
  pending-does waiting u rests r f e =
      by (is_open log) (is_some (stop_of (events_of log) id)) (is_nothing left) (is_covered log id left) (rests waiting u side _ collected f (later-within side log (write_actions log id left) r)) e
    where
      by : (o s n c : Bool) → Follows side later (log_record side (with_actions (own-by o s) log) [] waiting) collected → Pending ≡ answer-by o s c
          → Did side later collected replies.Pending (accept-by waiting o s n c)
      by false s n c g h = absurd cc
      by true true n c g h = absurd cc
      by true false n true g h = absurd cc
      by true false n false g h = record { reply = refl; log = g }

  -- and this is its log
  pub accept-pending : (waiting : CallRecord) → Pending ≡ write_answer log id left → (accept_response side log id left waiting).log ≡ log_call side log (write_actions log id left) waiting
  accept-pending waiting e = by (is_open log) (is_some (stop_of (events_of log) id)) (is_nothing left) (is_covered log id left) e
    where
      by : (o s n c : Bool) → Pending ≡ answer-by o s c → (accept-by waiting o s n c).log ≡ log_call side log (own-by o s) waiting
      by false s n c h = absurd cc
      by true true n c h = absurd cc
      by true false n true h = absurd cc
      by true false n false h = refl

  -- the connection isn't open
  pub closed-does : (waiting : CallRecord) (answer : Reply) → Rests later → IsReachable side log → Follows side later (with_actions (write_actions log id left) log) collected
      → Ready (Err writes.NotConnected) ≡ write_answer log id left → answer ≡ replies.Failed (transport_error log)
      → Did side later collected answer (accept_response side log id left waiting)
  closed-does waiting answer rests r f e is =
      by (is_open log) (is_some (stop_of (events_of log) id)) (is_nothing left) (is_covered log id left) (rests AcceptanceFailed refl side _ collected f (later-within side log (write_actions log id left) r)) e
    where
      by : (o s n c : Bool) → Follows side later (log_record side (with_actions (own-by o s) log) [] AcceptanceFailed) collected → Ready (Err writes.NotConnected) ≡ answer-by o s c
          → Did side later collected answer (accept-by waiting o s n c)
      by false s n c g h = record { reply = is; log = g }
      by true true n c g h = absurd cc
      by true false n true g h = absurd cc
      by true false n false g h = absurd cc

  -- the peer stopped the stream before all of the response was out
  stopped-does : (waiting : CallRecord) → Rests later → IsReachable side log → is_nothing left ≡ false
      → Follows side later (with_actions (if_open (with_actions (write_actions log id left) log) (actions.Close (code_of h3.ClosedCriticalStream) [])) (with_actions (write_actions log id left) log)) collected
      → Ready (Err writes.Stopped) ≡ write_answer log id left
      → Did side later collected (replies.Failed (errors.LocalH3Error h3.ClosedCriticalStream)) (accept_response side log id left waiting)
  stopped-does waiting rests r n f e =
      by (is_open log) (is_some (stop_of (events_of log) id)) (is_nothing left) (is_covered log id left) n
      (rests AcceptanceFailed refl side _ collected f (twice-within side log (write_actions log id left) (if_open (with_actions (write_actions log id left) log) (actions.Close (code_of h3.ClosedCriticalStream) [])) r)) e
    where
      by : (o s n c : Bool) → n ≡ false
          → Follows side later (log_record side (with_actions (if_open (with_actions (own-by o s) log) (actions.Close (code_of h3.ClosedCriticalStream) [])) (with_actions (own-by o s) log)) [] AcceptanceFailed) collected
          → Ready (Err writes.Stopped) ≡ answer-by o s c
          → Did side later collected (replies.Failed (errors.LocalH3Error h3.ClosedCriticalStream)) (accept-by waiting o s n c)
      by false s n c en g h = absurd cc
      by true true true c en g h = absurd cc
      by true true false c en g h = record { reply = refl; log = g }
      by true false n true en g h = absurd cc
      by true false n false en g h = absurd cc

  pub stopped-with : (waiting : CallRecord) (code : ℕ) (reason : List ℕ) → code ≡ code_of h3.ClosedCriticalStream → reason ≡ [] → Rests later → IsReachable side log → is_nothing left ≡ false
      → Follows side later (with_actions (if_open (with_actions (write_actions log id left) log) (actions.Close code reason)) (with_actions (write_actions log id left) log)) collected
      → Ready (Err writes.Stopped) ≡ write_answer log id left
      → Did side later collected (replies.Failed (errors.LocalH3Error h3.ClosedCriticalStream)) (accept_response side log id left waiting)
  stopped-with waiting code reason ec er rests r n f e =
      stopped-does waiting rests r n
      (subst (λ (c : ℕ). Follows side later (with_actions (if_open (with_actions (write_actions log id left) log) (actions.Close c [])) (with_actions (write_actions log id left) log)) collected) ec
      (subst (λ (bs : List ℕ). Follows side later (with_actions (if_open (with_actions (write_actions log id left) log) (actions.Close code bs)) (with_actions (write_actions log id left) log)) collected) er f)) e

  -- all of the response is out
  pub established-does : (waiting : CallRecord) → BeginsSession side (with_actions (write_actions log id left) log) collected id (request_end (verdict_of id (stream_table side log).classified)) later
      → Ready (Ok tt) ≡ write_answer log id left → Did side later collected (replies.Session id) (accept_response side log id left waiting)
  established-does waiting b e = by (is_open log) (is_some (stop_of (events_of log) id)) (is_nothing left) (is_covered log id left) refl b.follows e
    where
      by : (o s n c : Bool) → is_covered log id left ≡ c
          → Follows side later (log_record side (with_actions (own-by o s) log) [] (SessionEstablished id (request_end (verdict_of id (stream_table side log).classified)))) collected
          → Ready (Ok tt) ≡ answer-by o s c → Did side later collected (replies.Session id) (accept-by waiting o s n c)
      by false s n c ec g h = absurd cc
      by true true n c ec g h = absurd cc
      by true false n false ec g h = absurd cc
      by true false n true ec g h = record {
        reply = refl;
        log = subst (λ (bs : List ℕ). Follows side later (log_call side log (send_of id bs) (SessionEstablished id (request_end (verdict_of id (stream_table side log).classified)))) collected)
            (covered-all (credit_left log id) left ec) g;
      }

  -- and then the connection is open
  pub still-open : Ready (Ok tt) ≡ write_answer log id left → is_open (with_actions (write_actions log id left) log) ≡ false → ⊥
  still-open e o = by (is_open log) (is_some (stop_of (events_of log) id)) (is_covered log id left) refl e o
    where
      by : (b s c : Bool) → is_open log ≡ b → Ready (Ok tt) ≡ answer-by b s c → is_open (with_actions (own-by b s) log) ≡ false → ⊥
      by false s c eo h g = cc
      by true true c eo h g = cc
      by true false c eo h g = true≢false (sym eo ∙ sym (open-stays id bytes log) ∙ g)

  -- by what the session's beginning answers
  pub begun-does : (waiting : CallRecord) (a : Poll (Result ℕ ConnectionError))
      → IsBegun side (with_actions (write_actions log id left) log) collected id (request_end (verdict_of id (stream_table side log).classified)) later a
      → Ready (Ok tt) ≡ write_answer log id left → Did side later collected (accepting_reply a) (accept_response side log id left waiting)
  begun-does waiting (Ready (Ok s)) (is, b) e = subst (λ (n : ℕ). Did side later collected (replies.Session n) (accept_response side log id left waiting)) (sym is) (established-does waiting b e)
  begun-does waiting (Ready (Err x)) o e = absurd (still-open e o)
  begun-does waiting Pending o e = absurd o

-- ---- what a private function answered, where it answered

-- a write that failed says why
pub says-why : (w : Poll (Result (Unit {0}) ProtoWriteError)) (f : Result (Unit {0}) ProtoWriteError) (x y : ProtoWriteError) (v : Poll (Result (Unit {0}) ProtoWriteError)) → w ≡ Ready f → f ≡ Err x → x ≡ y → w ≡ v → Ready (Err y) ≡ v
says-why w f x y v a b c d = ap (λ (e : ProtoWriteError). Ready (Err e)) (sym c) ∙ ap (λ (r : Result (Unit {0}) ProtoWriteError). Ready r) (sym b) ∙ sym a ∙ d

pub if-ok : {T E : Type 0} (r : Result T E) {P Q : T → Type 0} → ((t : T) → P t → Q t) → IfOk r P → IfOk r Q
if-ok (Ok t) f p = f t p
if-ok (Err e) f p = tt

-- ---- a poll is this effect

module _ (side : Side) (log : Log) (r : Response) where
  -- what is left, at a first poll and at a later one, and what the call leaves while the response isn't through
  pub record Polls (call : Call) : Type 0 where
    pub waiting : CallRecord
    pub unnoticed : is_unnoticed waiting ≡ true
    pub some : is_nothing r.left ≡ false
    pub hand : is_at_hand (handshake_state (calls_of log)) ≡ true
    pub requested : requested_stream (calls_of log) ≡ r.id
    pub laws : RequestLaws side log r.id
    pub finished : is_finished (actions_of log) r.id ≡ false
    pub same : accept_response side log r.id r.left waiting ≡ call_effect side log call
    pub state : handshake_state (waiting ∷ calls_of log) ≡ Responding true r.head
    pub asked : requested_stream (waiting ∷ calls_of log) ≡ r.id
    pub left : head_left log r.id r.head ≡ r.left

  -- the laws of the request at hand
  own : LogLaws side log → is_at_hand (handshake_state (calls_of log)) ≡ true → requested_stream (calls_of log) ≡ r.id → RequestLaws side log r.id
  own laws hand e = subst (RequestLaws side log) e (laws.asked hand)

  pub polls : (call : Call) → HasAcceptance r call side log → LogLaws side log → Polls call
  unfolding call_effect
  polls (calls.Accept headers) (has, head, left) laws =
      let hand : is_at_hand (handshake_state (calls_of log)) ≡ true = rw has.state refl in
      let unsent : sent_on (actions_of log) r.id ≡ [] = subst (λ (n : ℕ). sent_on (actions_of log) n ≡ []) has.requested ((laws.asked hand).unsent (has.state ∙ ap Requested (sym has.requested))) in
      record {
        waiting = ResponseStarted true (response_head (codes "200") headers);
        unnoticed = refl;
        some = ap is_nothing (left ∙ head) ∙ frame-begun _;
        hand = hand;
        requested = has.requested;
        laws = own laws hand has.requested;
        finished = (own laws hand has.requested).unfinished has.state;
        same =
            ap (λ (xs : List ℕ). accept_response side log r.id xs (ResponseStarted true (response_head (codes "200") headers))) (left ∙ head ∙ ap (λ (xs : List ℕ). drop (length xs) (response_head (codes "200") headers)) (sym unsent))
            ∙ ap (λ (n : ℕ). accept_response side log n (head_left log n (response_head (codes "200") headers)) (ResponseStarted true (response_head (codes "200") headers))) (sym has.requested);
        state = ap (Responding true) (sym head);
        asked = has.requested;
        left = ap (λ (xs : List ℕ). drop (length xs) r.head) unsent ∙ sym left;
      }
  polls calls.Handshake (has, some) laws = record {
    waiting = Polled;
    unnoticed = refl;
    some = some;
    hand = rw has.state refl;
    requested = has.requested;
    laws = own laws (rw has.state refl) has.requested;
    finished = (own laws (rw has.state refl) has.requested).accepting r.head has.state;
    same =
        ap (λ (xs : List ℕ). accept_response side log r.id xs Polled) (sym has.left)
        ∙ ap (λ (n : ℕ). accept_response side log n (head_left log n r.head) Polled) (sym has.requested)
        ∙ ap (λ (s : HandshakeState). continue_by s side log) (sym has.state);
    state = has.state;
    asked = has.requested;
    left = has.left;
  }
  polls _ has laws = absurd has

  -- while it lacks credit the response goes on
  pub responds-on : (call : Call) (p : Polls call) (collected : ℕ) (d : DriverNow) (later : Response) → Follows side d (with_actions (write_actions log r.id r.left) log) collected → IsReachable side log
      → Pending ≡ write_answer log r.id r.left → later.id ≡ r.id → later.head ≡ r.head → later.left ≡ write_leaves log r.id r.left → HasAcceptance later calls.Handshake side (call_effect side log call).log
  responds-on call p collected d later f reached says id head rest =
      subst (λ (l : Log). HasAcceptance later calls.Handshake side l) log-is (
        record {
          state = ap handshake_state same-calls ∙ p.state ∙ ap (Responding true) (sym head);
          requested = ap requested_stream same-calls ∙ p.asked ∙ sym id;
          left = ap (λ (k : ℕ). head_left sent k later.head) id ∙ ap (head_left sent r.id) head ∙ left-after log r.id r.head r.left p.left ∙ sym rest;
        },
        ap is_nothing rest ∙ some-left log r.id r.left says,
      )
    where
      sent : Log
      sent = with_actions (write_actions log r.id r.left) log

      same-calls : p.waiting ∷ calls_of sent ≡ p.waiting ∷ calls_of log
      same-calls = ap (λ (cs : List CallRecord). p.waiting ∷ cs) (calls-stay (write_actions log r.id r.left) log)

      log-is : Called p.waiting ∷ sent ≡ (call_effect side log call).log
      log-is =
          sym (at-rest side sent collected d p.waiting p.unnoticed f (later-within side log (write_actions log r.id r.left) reached))
          ∙ sym (accept-pending side log collected r.id r.left d p.waiting says) ∙ ap (λ (e : Effect). e.log) p.same
