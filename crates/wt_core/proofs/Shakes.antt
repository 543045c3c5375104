-- What the application has after a call of a handshake, by the call's reply.
use Rattle.std.proofs.Common.{refl, subst}
use Rattle.std.specs.Prelude.{[], ◌++◌, ◌==◌, ◌||◌, ◌∷◌, ◌≡◌, Bool, Err, List, None, Ok, Option, Result, Some, false, if◌then◌else◌, is_some, not, true, ℕ}
use Rattle.wt_meaning.specs.Handshakes.{is_nothing}
use Rattle.wt_meaning.specs.Targets.{Target}
use Rattle.wt_core.proofs.After.{LeadsTo, either, quietly, recorded}
use Rattle.wt_core.proofs.Records.{begin-step, connect-step, deliver-step, establish-step, fail-step, over-step, quiet-step, reject-step}
use Rattle.wt_core.specs.Held.{Held, Holds, HoldsCalls, accepting, asked, connect_by, connecting, handshake_by, rejecting}
use Rattle.wt_proto.specs.ResponseWalk.{response_walk_of}
use Rattle.wt_proto.specs.declared.response_walk.ResponseWalk.{ResponseWalk}
use Rattle.wt_proto.specs.declared.response_walk.ResponseWalk.TheVariants as responses
use Rattle.wt_turn.specs.Joined.{send_of}
use Rattle.wt_turn.specs.Outgoing.{actions_to_open, bytes_within_credit, may_open}
use Rattle.wt_turn.specs.Reports.{end_of, is_acknowledged, is_connected, stop_of}
use Rattle.wt_turn.specs.Sent.{is_finished}
use Rattle.wt_turn.specs.Streams.{contents, local_bi, local_count}
use Rattle.wt_sessions.specs.Connect.{dial}
use Rattle.wt_sessions.specs.Driver.{ending_actions, settings_came, stream_table}
use Rattle.wt_sessions.specs.Effect.{Effect, close_when_open, driver_error, head_left, is_covered, log_call, poll_sending, reply_with, transport_error}
use Rattle.wt_sessions.specs.Handshake.{Answered, AwaitingRequest, Connecting, HandshakeState, Over, Requested, Responding, accept_response, await_or_fail, await_response, close_when_alone, continue_by, continue_connect, deliver, establish, fail_connect, handshake_state, has_success, incoming, is_refused, open_request, queued_requests, read_response, reject_response, request_end, request_fields_of, requested_stream, send_request, start_response, unless_reserved}
use Rattle.wt_sessions.specs.StreamTable.{Classified, verdict_of}
use Rattle.wt_turn.specs.Log.{AcceptanceFailed, CallRecord, ConnectStarted, HandshakeOver, Log, Polled, RequestDelivered, RequestRejected, ResponseStarted, SessionEstablished, actions_of, calls_of, events_of, is_open}
use Rattle.wt_turn.specs.declared.action.Action.{Action}
use Rattle.wt_turn.specs.declared.action.Action.TheVariants as actions
use Rattle.wt_turn.specs.declared.connecting_error.ConnectingError.{ConnectingError}
use Rattle.wt_turn.specs.declared.connection_error.ConnectionError.{ConnectionError}
use Rattle.wt_turn.specs.declared.connection_error.ConnectionError.TheVariants as errors
use Rattle.wt_turn.specs.declared.reply.Reply.{Reply}
use Rattle.wt_turn.specs.declared.reply.Reply.TheVariants as replies
use Rattle.wt_wire.specs.Codes.{code_of}
use Rattle.wt_wire.specs.declared.error.ErrorCode.TheVariants as h3
use Rattle.wt_wire.specs.declared.side.Side.{Side}

module _ (side : Side) (log : Log) (h : Held) (x : Holds side h log) where
  abbrev rec : (change : Reply → Held → Held) (own : List Action) (r : CallRecord) (reply : Reply) → HoldsCalls side (change reply h) (r ∷ calls_of log) → LeadsTo side change h log (reply_with (log_call side log own r) reply)
  rec change own r reply y = recorded side log h x change own r reply y

  abbrev choose : (change : Reply → Held → Held) (b : Bool) (e f : Effect) → LeadsTo side change h log e → LeadsTo side change h log f → LeadsTo side change h log (if b then e else f)
  choose change b e f p q = either side log h x change b e f p q

  -- ---- a server's request

  deliver-left : (cs : List Classified) → LeadsTo side asked h log (deliver side log cs)
  deliver-left (c ∷ later) = rec asked [] (RequestDelivered c.id) (replies.Request c.id (request_fields_of c.verdict)) (deliver-step side h (calls_of log) x c.id)
  deliver-left [] =
      choose asked (is_open log) _ _ (quietly side log h x asked [] Polled replies.Pending refl refl)
      (rec asked [] HandshakeOver (replies.Failed (driver_error side log)) (over-step side h (calls_of log) x))

  pub incoming-leads : LeadsTo side asked h log (incoming side log)
  incoming-leads = deliver-left (queued_requests side log)

  -- ---- its response

  -- a call that leaves the response unfinished
  Waits : Bool → List ℕ → CallRecord → Type 0
  Waits accepts head waiting = HoldsCalls side (record h { stage = Responding accepts head }) (waiting ∷ calls_of log)

  accepts-lead : (head : List ℕ) (id : ℕ) (left : List ℕ) (waiting : CallRecord) → HoldsCalls side (record h { stage = Responding true head }) (waiting ∷ calls_of log)
      → LeadsTo side (accepting head) h log (accept_response side log id left waiting)
  accepts-lead head id left waiting w =
      choose (accepting head) (not (is_open log)) _ _ (rec (accepting head) [] AcceptanceFailed (replies.Failed (transport_error log)) (fail-step side h (calls_of log) x))
      (choose (accepting head) (is_refused log id left) _ _ (rec (accepting head) (close_when_open log (code_of h3.ClosedCriticalStream)) AcceptanceFailed (replies.Failed (errors.LocalH3Error h3.ClosedCriticalStream)) (fail-step side h (calls_of log) x))
      (choose (accepting head) (is_covered log id left) _ _ (rec (accepting head) (send_of id left) (SessionEstablished id (request_end (verdict_of id (stream_table side log).classified))) (replies.Session id) (establish-step side h (calls_of log) x id _))
      (rec (accepting head) (send_of id (bytes_within_credit log id left)) waiting replies.Pending w)))

  rejects-lead : (head : List ℕ) (id : ℕ) (left : List ℕ) (waiting : CallRecord) → requested_stream (calls_of log) ≡ id → HoldsCalls side (record h { stage = Responding false head }) (waiting ∷ calls_of log)
      → LeadsTo side (rejecting head) h log (reject_response side log id left waiting)
  rejects-lead head id left waiting e w =
      let over = reject-step side h (calls_of log) x id e in
      choose (rejecting head) (not (is_open log)) _ _ (rec (rejecting head) [] (RequestRejected id) replies.Rejected over)
      (choose (rejecting head) (is_refused log id left) _ _ (rec (rejecting head) (ending_actions side log id ++ close_when_open log (code_of h3.ClosedCriticalStream)) (RequestRejected id) replies.Rejected over)
      (choose (rejecting head) (is_covered log id left) _ _
      (choose (rejecting head) (not (is_finished (actions_of log) id)) _ _ (rec (rejecting head) (send_of id left ++ actions.Finish id ∷ []) waiting replies.Pending w)
      (choose (rejecting head) (is_some (stop_of (events_of log) id) || is_acknowledged (events_of log) id) _ _
      (rec (rejecting head) (ending_actions side log id ++ close_when_alone side log) (RequestRejected id) replies.Rejected over)
      (rec (rejecting head) [] waiting replies.Pending w)))
      (rec (rejecting head) (send_of id (bytes_within_credit log id left)) waiting replies.Pending w)))

  pub accept-leads : (head : List ℕ) → LeadsTo side (accepting head) h log (start_response side log true head)
  accept-leads head = accepts-lead head (requested_stream (calls_of log)) (head_left log (requested_stream (calls_of log)) head) (ResponseStarted true head) (begin-step side h (calls_of log) x true head)

  pub reject-leads : (head : List ℕ) → LeadsTo side (rejecting head) h log (start_response side log false head)
  reject-leads head = rejects-lead head (requested_stream (calls_of log)) (head_left log (requested_stream (calls_of log)) head) (ResponseStarted false head) refl (begin-step side h (calls_of log) x false head)

  -- ---- a client's connect

  -- where the handshake is at this, a quiet record keeps it there
  still : (s : HandshakeState) → h.stage ≡ s → HoldsCalls side (record h { stage = s }) (Polled ∷ calls_of log)
  still s e = subst (λ (t : HandshakeState). HoldsCalls side (record h { stage = t }) (Polled ∷ calls_of log)) e (quiet-step side h (calls_of log) x Polled refl)

  module _ (reserved : Option (List ℕ)) (head : List ℕ) (at : h.stage ≡ Connecting reserved head) where
    abbrev change : Reply → Held → Held
    change = connecting reserved head

    fails : (own : List Action) (e : ConnectingError) → LeadsTo side (connecting reserved head) h log (fail_connect side log own e)
    fails own e = rec (connecting reserved head) own HandshakeOver (replies.ConnectFailed e) (over-step side h (calls_of log) x)

    waits : (own : List Action) → LeadsTo side (connecting reserved head) h log (poll_sending side log own replies.Pending)
    waits own = rec (connecting reserved head) own Polled replies.Pending (still (Connecting reserved head) at)

    begins : (own : List Action) (id offset : ℕ) → LeadsTo side (connecting reserved head) h log (establish side log own id offset)
    begins own id offset = rec (connecting reserved head) own (SessionEstablished id offset) (replies.Session id) (establish-step side h (calls_of log) x id offset)

    response-leads : (id : ℕ) (own : List Action) (w : ResponseWalk) → LeadsTo side (connecting reserved head) h log (read_response side log id own w)
    response-leads id own (responses.Fault code) = fails (own ++ close_when_open log (code_of code)) _
    response-leads id own responses.Ended = fails (own ++ close_when_open log 0) _
    response-leads id own responses.Waiting = choose (connecting reserved head) (is_open log) _ _ (waits own) (fails own _)
    response-leads id own (responses.Response fields offset) =
        choose (connecting reserved head) (not (has_success fields)) _ _ (fails (own ++ close_when_open log 0) _)
        (choose (connecting reserved head) (is_open log) _ _ (begins own id offset) (fails own _))

    await-leads : (id : ℕ) (own : List Action) → LeadsTo side (connecting reserved head) h log (await_response side log id own)
    await-leads id own = response-leads id own (response_walk_of (contents log id) (end_of (events_of log) id))

    request-leads : (id : ℕ) (own : List Action) (left : List ℕ) → LeadsTo side (connecting reserved head) h log (send_request side log id own left)
    request-leads id own left =
        choose (connecting reserved head) (is_nothing left) _ _ (await-leads id own)
        (choose (connecting reserved head) (not (is_open log)) _ _ (fails own _)
        (choose (connecting reserved head) (is_some (stop_of (events_of log) id)) _ _ (fails (own ++ close_when_open log 0) _)
        (choose (connecting reserved head) (is_covered log id left) _ _ (await-leads id (own ++ send_of id left)) (waits (own ++ send_of id (bytes_within_credit log id left))))))

    open-leads : (frame : List ℕ) → LeadsTo side (connecting reserved head) h log (open_request side log frame)
    open-leads frame =
        choose (connecting reserved head) (not (local_count (actions_of log) (local_bi side) == 0)) _ _ (request-leads (local_bi side) [] (head_left log (local_bi side) frame))
        (choose (connecting reserved head) (not (is_open log)) _ _ (fails [] _)
        (choose (connecting reserved head) (may_open side log (local_bi side)) _ _ (request-leads (local_bi side) (actions_to_open side log (local_bi side)) (head_left log (local_bi side) frame)) (waits [])))

    reserved-leads : (name : Option (List ℕ)) (frame : List ℕ) → LeadsTo side (connecting reserved head) h log (unless_reserved side log name frame)
    reserved-leads (Some name) frame = fails (close_when_open log 0) _
    reserved-leads None frame = open-leads frame

    step-leads : (e : ConnectionError) → LeadsTo side (connecting reserved head) h log (await_or_fail side log e)
    step-leads e = choose (connecting reserved head) (is_open log) _ _ (waits []) (fails [] _)

    connect-goes-on : LeadsTo side (connecting reserved head) h log (continue_connect side log reserved head)
    connect-goes-on =
        choose (connecting reserved head) (not (is_connected (events_of log))) _ _ (step-leads (transport_error log))
        (choose (connecting reserved head) (settings_came side log) _ _ (reserved-leads reserved head) (step-leads (driver_error side log)))

  pub dial-leads : (t : Result Target ConnectingError) → LeadsTo side (connect_by t) h log (dial side log t)
  dial-leads (Err e) = rec (connect_by (Err e)) [] HandshakeOver (replies.ConnectFailed e) (over-step side h (calls_of log) x)
  dial-leads (Ok t) = rec (connect_by (Ok t)) (actions.Dial t.address t.name ∷ []) (ConnectStarted t.reserved t.frame) replies.Pending (connect-step side h (calls_of log) x t.reserved t.frame)

  -- ---- what is begun goes on

  goes-on-by : (s : HandshakeState) → h.stage ≡ s → LeadsTo side (handshake_by s) h log (continue_by s side log)
  goes-on-by (Responding true head) e = accepts-lead head (requested_stream (calls_of log)) (head_left log (requested_stream (calls_of log)) head) Polled (still (Responding true head) e)
  goes-on-by (Responding false head) e = rejects-lead head (requested_stream (calls_of log)) (head_left log (requested_stream (calls_of log)) head) Polled refl (still (Responding false head) e)
  goes-on-by (Connecting reserved head) e = connect-goes-on reserved head e
  goes-on-by AwaitingRequest e = quietly side log h x (handshake_by AwaitingRequest) [] Polled replies.Pending refl refl
  goes-on-by (Requested id) e = quietly side log h x (handshake_by (Requested id)) [] Polled replies.Pending refl refl
  goes-on-by Answered e = quietly side log h x (handshake_by Answered) [] Polled replies.Pending refl refl
  goes-on-by Over e = quietly side log h x (handshake_by Over) [] Polled replies.Pending refl refl

  pub handshake-leads : LeadsTo side (λ reply held. handshake_by held.stage reply held) h log (continue_by (handshake_state (calls_of log)) side log)
  handshake-leads =
      let l = goes-on-by h.stage refl in
      subst (λ (s : HandshakeState). LeadsTo side (λ reply held. handshake_by held.stage reply held) h log (continue_by s side log)) x.stage (record { held = l.held; happened = l.happened })
