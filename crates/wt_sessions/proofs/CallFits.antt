-- Each lawful call keeps what lawful turns keep.
use Rattle.std.proofs.Common.{arith, ◌≡◌, ◌<◌, ℕ, ◌+◌, ◌*◌, ◌%◌, Bool, true, false, cond, List, [], ◌∷◌, ◌++◌, filter, filter_map, is_none, refl, sym, ap, ◌∙◌, ◌⊎◌, inl, inr}
use Rattle.std.specs.Prelude.{◌/◌, is_some, Option, Some, None, Result, Ok, Err, ◌==◌, ◌||◌, ◌&&◌, not}
use Rattle.std.specs.List.{cons_option, list_any}
use Rattle.std.specs.Option.{option_or}
use Rattle.std.proofs.lemmas.Bool.{eq-eqb, true≢false}
use Rattle.wt_meaning.specs.Handshakes.{is_nothing}
use Rattle.wt_meaning.specs.Lawful.{is_client}
use Rattle.wt_meaning.specs.Targets.{Target}
use Rattle.wt_proto.specs.declared.response_walk.ResponseWalk.{ResponseWalk}
use Rattle.wt_proto.specs.declared.verdict.Verdict.{Verdict}
use Rattle.wt_turn.specs.Joined.{send_of}
use Rattle.wt_turn.specs.Outgoing.{actions_to_open, bytes_within_credit, may_open, next_id}
use Rattle.wt_message.specs.Datagram.{datagram_bytes}
use Rattle.wt_proto.specs.ResponseWalk.{response_walk_of}
use Rattle.wt_turn.specs.Reports.{datagram_fact, end_of, is_acknowledged, is_connected, stop_of}
use Rattle.wt_turn.specs.Sent.{is_finished}
use Rattle.wt_turn.specs.Streams.{contents, local_bi, local_count, local_uni, stream_count}
use Rattle.wt_sessions.proofs.Entries.{any-insert}
use Rattle.wt_sessions.proofs.Indexed.{AllOf, all-filter, all-found, all-have-verdicts, log-indexed}
use Rattle.wt_sessions.proofs.Turns.{Holds, MayCome, call-holds, classified-known, delivered-known, established-known, is_asked, is_dialling, own-known}
use Rattle.wt_sessions.specs.Answers.{in_session, on_session}
use Rattle.wt_sessions.specs.Connect.{dial}
use Rattle.wt_sessions.specs.Connection.{accept_stream, continue_opening, datagram_allowed, datagram_within, end_session, ends_opening, give_datagram, give_stream, is_opening, next_datagram, next_stream, open_stream, opened_for, opened_reply, poll_for, poll_opening, receive_datagram, send_datagram, send_header, session_end_actions, starts_opening, stream_header, waits_for}
use Rattle.wt_sessions.specs.Driver.{call_view, dispatched, ending_actions, establishes, first_session, is_living, is_session_gone, sessions_after, sessions_of, settings_came, stream_table}
use Rattle.wt_sessions.specs.Effect.{Effect, close_when_open, driver_error, head_left, is_covered, log_call, pending_or_failed, poll_sending, reply_with, transport_error}
use Rattle.wt_sessions.specs.Handshake.{HandshakeState, Connecting, Responding, abandon, accept_response, await_or_fail, await_response, close_when_alone, continue_by, continue_connect, deliver, establish, fail_connect, finish_rejection, handshake_state, has_success, is_refused, loss_to_connect, open_request, queued_requests, read_response, reject_response, request_end, requested_stream, respond, send_request, unless_reserved}
use Rattle.wt_sessions.specs.Moment.{is_known, is_peers}
use Rattle.wt_sessions.specs.StreamTable.{Admitted, Classified, Session, StreamTable, Waiting, is_gone, is_queued, is_session, verdict_of, waits_by, waits_in, was_established}
use Rattle.wt_turn.specs.Log.{AcceptanceFailed, CallRecord, ConnectStarted, DatagramReceived, HandshakeOver, Log, OpeningFailed, OpeningStarted, Polled, RequestDelivered, RequestRejected, SessionEstablished, StreamAccepted, calls_of, actions_of, events_of, is_open, newest}
use Rattle.wt_turn.specs.declared.action.Action.{Action}
use Rattle.wt_turn.specs.declared.connecting_error.ConnectingError.{ConnectingError}
use Rattle.wt_turn.specs.declared.connection_error.ConnectionError.{ConnectionError}
use Rattle.wt_turn.specs.declared.connecting_error.ConnectingError.TheVariants as connects
use Rattle.wt_turn.specs.declared.connection_error.ConnectionError.TheVariants as errors
use Rattle.wt_turn.specs.declared.reply.Reply.TheVariants as replies
use Rattle.wt_turn.specs.declared.stream_error.SendDatagramError.TheVariants as datagrams
use Rattle.wt_turn.specs.declared.datagram_fact.DatagramFact.{DatagramFact}
use Rattle.wt_turn.specs.declared.reply.Reply.{Reply}
use Rattle.wt_wire.specs.Codes.{code_of}
use Rattle.wt_wire.specs.declared.side.Side.{Side}
use Rattle.wt_wire.specs.declared.side.Side.TheVariants.{Client, Server}
use Rattle.wt_proto.specs.declared.response_walk.ResponseWalk.TheVariants as responses
use Rattle.wt_proto.specs.declared.verdict.Verdict.TheVariants as verdicts
use Rattle.wt_turn.specs.declared.datagram_fact.DatagramFact.TheVariants as facts
use Rattle.wt_turn.specs.declared.action.Action.TheVariants as actions
use Rattle.wt_wire.specs.declared.error.ErrorCode.TheVariants as h3

-- the log of what a call leads to has it
pub record Leads (side : Side) (effect : Effect) : Type 0 where
  pub holds : Holds side effect.log

pub either : (side : Side) (b : Bool) (e f : Effect) → Leads side e → Leads side f → Leads side (cond b e f)
either side true e f p q = p
either side false e f p q = q

-- ---- lists

all-tested : {X : Type 0} (p : X → Bool) (xs : List X) → AllOf (λ (x : X). p x ≡ true) (filter p xs)
all-tested p [] = tt
all-tested {X = X} p (x ∷ xs) = by (p x) refl (all-tested p xs)
  where
    by : (b : Bool) → p x ≡ b → AllOf (λ (y : X). p y ≡ true) (filter p xs) → AllOf (λ (y : X). p y ≡ true) (cond b (x ∷ filter p xs) (filter p xs))
    by true e again = (e, again)
    by false e again = again

and-second : (a b : Bool) → (a && b) ≡ true → b ≡ true
and-second true b e = e
and-second false b e = absurd (true≢false (sym e))

and-one : (a b : Bool) → (a && b) ≡ true → a ≡ true
and-one true b e = refl
and-one false b e = absurd (true≢false (sym e))

pub not-true : (b : Bool) → not b ≡ true → b ≡ false
not-true true e = absurd (true≢false (sym e))
not-true false e = refl

-- the first session is established
or-later-true : (a b : Bool) → b ≡ true → (a || b) ≡ true
or-later-true true b e = refl
or-later-true false b e = e

first-after : (r : CallRecord) (rs : List CallRecord) (s : ℕ) → (first_session rs ≡ Some s → list_any (is_session s) (sessions_of rs) ≡ true) → (o : Option ℕ) → first_session rs ≡ o
    → option_or o (establishes r) ≡ Some s → list_any (is_session s) (sessions_after r (sessions_of rs)) ≡ true
first-after (SessionEstablished id offset) rs s again (Some t) e f =
    any-insert (is_session s) (record { id = id; offset = offset }) (sessions_of rs) ∙ or-later-true (id == s) (list_any (is_session s) (sessions_of rs)) (again (e ∙ f))
first-after (SessionEstablished id offset) rs s again None e f =
    let same : id ≡ s = cc in any-insert (is_session s) (record { id = id; offset = offset }) (sessions_of rs) ∙ (λ i. eq-eqb id s same i || list_any (is_session s) (sessions_of rs))
first-after _ rs s again (Some t) e f = again (e ∙ f)
first-after _ rs s again None e f = absurd cc

first-established : (rs : List CallRecord) (s : ℕ) → first_session rs ≡ Some s → list_any (is_session s) (sessions_of rs) ≡ true
first-established [] s e = absurd cc
first-established (r ∷ rs) s e = first-after r rs s (first-established rs s) (first_session rs) refl e

module _ (side : Side) (log : Log) (held : Holds side log) where
  abbrev table : StreamTable
  table = stream_table side log

  -- a call that records this, after what it sends
  pub does : (own : List Action) (r : CallRecord) (reply : Reply) → MayCome side log r → Leads side (reply_with (log_call side log own r) reply)
  does own r reply may = record { holds = call-holds side log own r may held }

  pub polls : (own : List Action) (reply : Reply) → Leads side (poll_sending side log own reply)
  polls own reply = does own Polled reply (tt, tt)

  -- ---- streams and datagrams

  waits-known : (cs : List Classified) → AllOf (λ (c : Classified). is_none (verdict_of c.id table.classified) ≡ false) cs
      → AllOf (λ (w : Waiting). is_known side log w.id ≡ true) (filter_map (waits_in (call_view log)) cs)
  waits-known [] all = tt
  waits-known (c ∷ cs) all = by c.verdict (c.admitted && not ((call_view log).accepted c.id)) (waits-known cs all.1)
    where
      by : (v : Verdict) (b : Bool) → AllOf (λ (w : Waiting). is_known side log w.id ≡ true) (filter_map (waits_in (call_view log)) cs)
          → AllOf (λ (w : Waiting). is_known side log w.id ≡ true) (cons_option (waits_by v c.id b) (filter_map (waits_in (call_view log)) cs))
      by (verdicts.WebTransport session offset) true again = (classified-known side log held c.id all.0, again)
      by (verdicts.WebTransport session offset) false again = again
      by _ b again = again

  streams-known : AllOf (λ (w : Waiting). is_known side log w.id ≡ true) (dispatched side log).streams
  streams-known = all-filter (λ (w : Waiting). is_known side log w.id ≡ true) (λ (w : Waiting). not (is_gone (call_view log) table w.session)) (filter_map (waits_in (call_view log)) table.classified)
      (waits-known table.classified (all-have-verdicts table.classified))

  pub accept-leads : (reply : ℕ → Reply) (kind s : ℕ) → Leads side (accept_stream side reply kind log s)
  accept-leads reply kind s = by (next_stream side log kind s) refl
    where
      by : (o : Option Waiting) → next_stream side log kind s ≡ o → Leads side (give_stream side reply log s o)
      by (Some w) e = does [] (StreamAccepted w.id s) (reply w.id) (all-found (λ (x : Waiting). is_known side log x.id ≡ true) (waits_for kind s) w (dispatched side log).streams streams-known e, tt)
      by None e = polls [] (pending_or_failed side log s)

  datagrams-looked : AllOf (λ (d : Admitted). d.index < table.progress.datagrams) (dispatched side log).datagrams
  datagrams-looked = all-filter (λ (d : Admitted). d.index < table.progress.datagrams)
      (λ (d : Admitted). not ((call_view log).received d.index) && not (is_gone (call_view log) table d.session)) table.datagrams (log-indexed side log)

  pub receive-leads : (s : ℕ) → Leads side (receive_datagram side log s)
  receive-leads s = by (next_datagram side log s) refl
    where
      by : (o : Option Admitted) → next_datagram side log s ≡ o → Leads side (give_datagram side log s o)
      by (Some d) e = does [] (DatagramReceived d.index) _ (all-found (λ (x : Admitted). x.index < table.progress.datagrams) (λ (x : Admitted). x.session == s) d (dispatched side log).datagrams datagrams-looked e, tt)
      by None e = polls [] (pending_or_failed side log s)

  -- ---- openings

  next-own : (kind : ℕ) → (kind ≡ local_uni side) ⊎ (kind ≡ local_bi side) → is_peers side (next_id side log kind) ≡ false
  next-own kind is = by side is
    where
      n : ℕ
      n = stream_count side log kind

      by : (s : Side) → (kind ≡ local_uni s) ⊎ (kind ≡ local_bi s) → is_peers s (4 * n + kind) ≡ false
      by Client (inl e) = let m : (4 * n + kind) % 4 ≡ 2 = omega (arith, e) in rw m refl
      by Client (inr e) = let m : (4 * n + kind) % 4 ≡ 0 = omega (arith, e) in rw m refl
      by Server (inl e) = let m : (4 * n + kind) % 4 ≡ 3 = omega (arith, e) in rw m refl
      by Server (inr e) = let m : (4 * n + kind) % 4 ≡ 1 = omega (arith, e) in rw m refl

  pub open-leads : (kind s : ℕ) → (kind ≡ local_uni side) ⊎ (kind ≡ local_bi side) → Leads side (open_stream side log kind s)
  open-leads kind s is =
      either side (is_session_gone side log s) _ _ (polls [] _)
      (either side (not (is_open log)) _ _ (polls [] _)
      (either side (may_open side log kind) _ _ (does (actions_to_open side log kind) (OpeningStarted (next_id side log kind) s) _ (tt, next-own kind is)) (polls [] _)))

  header-leads : (k s : ℕ) (left : List ℕ) → is_peers side k ≡ false → Leads side (send_header side log k s left)
  header-leads k s left own =
      either side (is_covered log k left) _ _ (does (send_of k left) (StreamAccepted k s) (opened_reply k) (own-known side log held k own, tt)) (polls (send_of k (bytes_within_credit log k left)) _)

  opening-leads : (k s : ℕ) (left : List ℕ) → is_peers side k ≡ false → Leads side (continue_opening side log k s left)
  opening-leads k s left own =
      either side (not (is_open log && is_living side log s)) _ _ (does [] (OpeningFailed k) _ (tt, tt))
      (either side (is_refused log k left) _ _ (does [] (OpeningFailed k) _ (tt, tt)) (header-leads k s left own))

  pub poll-leads : (k : ℕ) → Leads side (poll_opening side log k)
  poll-leads k = by (is_opening log k) refl
    where
      for : (o : Option ℕ) → is_peers side k ≡ false → Leads side (poll_for side log k o)
      for None own = polls [] _
      for (Some s) own = opening-leads k s (head_left log k (stream_header k s)) own

      by : (b : Bool) → is_opening log k ≡ b → Leads side (poll_for side log k (cond b (newest (opened_for k) (calls_of log)) None))
      by false e = polls [] _
      by true e = for (newest (opened_for k) (calls_of log)) (held.openings k (and-one (list_any (starts_opening k) (calls_of log)) (not (list_any (ends_opening k) (calls_of log))) e))

  -- ---- sessions

  pub end-leads : (s : ℕ) → was_established (call_view log) s ≡ true → Leads side (end_session side log s)
  end-leads s e =
      either side (is_open log) _ _ (does (cond (is_living side log s) (session_end_actions side log s) []) (RequestRejected s) _ (established-known side log held s e, tt)) (polls [] _)

  within-leads : (bytes : List ℕ) (fact : DatagramFact) → Leads side (datagram_within side log bytes fact)
  within-leads bytes facts.Disabled = polls [] _
  within-leads bytes facts.Unsupported = polls [] _
  within-leads bytes (facts.Limit limit) = either side _ _ _ (polls [] _) (polls (actions.DatagramOut bytes ∷ []) _)

  allowed-leads : (bytes : List ℕ) (o : Option DatagramFact) → Leads side (datagram_allowed side log bytes o)
  allowed-leads bytes None = polls [] _
  allowed-leads bytes (Some fact) = within-leads bytes fact

  pub send-leads : (payload : List ℕ) (s : ℕ) → Leads side (send_datagram side log payload s)
  send-leads payload s = either side (is_open log && is_living side log s) _ _ (allowed-leads (datagram_bytes (s / 4) payload) (datagram_fact (events_of log))) (polls [] (replies.DatagramFailed datagrams.NotConnected))

  -- a call on an established session
  pub session-leads : (name : Option ℕ) (call : ℕ → Effect) → ((s : ℕ) → was_established (call_view log) s ≡ true → Leads side (call s)) → Leads side (on_session side log name call)
  session-leads (Some s) call leads = by (was_established (call_view log) s) refl
    where
      by : (b : Bool) → was_established (call_view log) s ≡ b → Leads side (in_session side log call (cond b (Some s) None))
      by true e = leads s e
      by false e = polls [] _
  session-leads None call leads = by (first_session (calls_of log)) refl
    where
      by : (o : Option ℕ) → first_session (calls_of log) ≡ o → Leads side (in_session side log call o)
      by (Some s) e = leads s (first-established (calls_of log) s e)
      by None e = polls [] _

  -- ---- a server's requests

  requests-fresh : AllOf (λ (c : Classified). (is_queued c && not ((call_view log).delivered c.id)) ≡ true) (dispatched side log).requests
  requests-fresh = all-tested (λ (c : Classified). is_queued c && not ((call_view log).delivered c.id)) table.classified

  requests-known : AllOf (λ (c : Classified). is_none (verdict_of c.id table.classified) ≡ false) (dispatched side log).requests
  requests-known = all-filter (λ (c : Classified). is_none (verdict_of c.id table.classified) ≡ false) (λ (c : Classified). is_queued c && not ((call_view log).delivered c.id)) table.classified (all-have-verdicts table.classified)

  deliver-leads : (cs : List Classified) → is_client side ≡ false → AllOf (λ (c : Classified). (is_queued c && not ((call_view log).delivered c.id)) ≡ true) cs
      → AllOf (λ (c : Classified). is_none (verdict_of c.id table.classified) ≡ false) cs → Leads side (deliver side log cs)
  deliver-leads [] server fresh known = either side (is_open log) _ _ (polls [] _) (does [] HandshakeOver _ (tt, tt))
  deliver-leads (c ∷ later) server fresh known =
      does [] (RequestDelivered c.id) _ (
        classified-known side log held c.id known.0,
        (not-true ((call_view log).delivered c.id) (and-second (is_queued c) (not ((call_view log).delivered c.id)) fresh.0), server),
      )

  pub incoming-leads : is_client side ≡ false → Leads side (deliver side log (queued_requests side log))
  incoming-leads server = by (settings_came side log)
    where
      by : (b : Bool) → Leads side (deliver side log (cond b (dispatched side log).requests []))
      by true = deliver-leads (dispatched side log).requests server requests-fresh requests-known
      by false = deliver-leads [] server tt tt

  -- a session is established
  establish-leads : (own : List Action) (id offset : ℕ) → MayCome side log (SessionEstablished id offset) → Leads side (establish side log own id offset)
  establish-leads own id offset may = does own (SessionEstablished id offset) (replies.Session id) may

  -- ---- a server's response

  module _ (asked : is_asked (handshake_state (calls_of log)) ≡ true) (waiting : CallRecord) (may : MayCome side log waiting) where
    abbrev id : ℕ
    id = requested_stream (calls_of log)

    id-known : is_known side log id ≡ true
    id-known = delivered-known side log held id ((held.asked asked).0)

    accepts-leads : (left : List ℕ) → Leads side (accept_response side log id left waiting)
    accepts-leads left =
        either side (not (is_open log)) _ _ (does [] AcceptanceFailed _ (tt, tt))
        (either side (is_refused log id left) _ _ (does (close_when_open log (code_of h3.ClosedCriticalStream)) AcceptanceFailed (replies.Failed (errors.LocalH3Error h3.ClosedCriticalStream)) (tt, tt))
        (either side (is_covered log id left) _ _
        (establish-leads (send_of id left) id (request_end (verdict_of id table.classified)) ((id-known, (held.asked asked).1), λ server. (held.asked asked).0))
        (does (send_of id (bytes_within_credit log id left)) waiting replies.Pending may)))

    finish-leads : (left : List ℕ) → Leads side (finish_rejection side log id left waiting)
    finish-leads left =
        either side (not (is_finished (actions_of log) id)) _ _ (does (send_of id left ++ actions.Finish id ∷ []) waiting replies.Pending may)
        (either side (is_some (stop_of (events_of log) id) || is_acknowledged (events_of log) id) _ _
        (does (ending_actions side log id ++ close_when_alone side log) (RequestRejected id) replies.Rejected (id-known, tt))
        (does [] waiting replies.Pending may))

    rejects-leads : (left : List ℕ) → Leads side (reject_response side log id left waiting)
    rejects-leads left =
        either side (not (is_open log)) _ _ (does [] (RequestRejected id) replies.Rejected (id-known, tt))
        (either side (is_refused log id left) _ _ (does (ending_actions side log id ++ close_when_open log (code_of h3.ClosedCriticalStream)) (RequestRejected id) replies.Rejected (id-known, tt))
        (either side (is_covered log id left) _ _ (finish-leads left) (does (send_of id (bytes_within_credit log id left)) waiting replies.Pending may)))

    pub respond-leads : (accepts : Bool) (head : List ℕ) → Leads side (respond side log accepts head waiting)
    respond-leads true head = accepts-leads (head_left log id head)
    respond-leads false head = rejects-leads (head_left log id head)

  -- ---- a client's connect

  fails : (own : List Action) (e : ConnectingError) → Leads side (fail_connect side log own e)
  fails own e = does own HandshakeOver (replies.ConnectFailed e) (tt, tt)

  abandons : (own : List Action) (e : ConnectingError) → Leads side (abandon side log own e)
  abandons own e = fails (own ++ close_when_open log 0) e

  pub dial-leads : (r : Result Target ConnectingError) → (is_client side ≡ true) × ((call_view log).sessions ≡ []) → Leads side (dial side log r)
  dial-leads (Err e) first = fails [] e
  dial-leads (Ok t) first = does (actions.Dial t.address t.name ∷ []) (ConnectStarted t.reserved t.frame) replies.Pending (tt, first)

  module _ (dials : is_dialling (handshake_state (calls_of log)) ≡ true) where
    own-request : is_peers side (local_bi side) ≡ false
    own-request = by side ((held.dialling dials).0)
      where
        by : (s : Side) → is_client s ≡ true → is_peers s (local_bi s) ≡ false
        by Client e = refl
        by Server e = absurd (true≢false (sym e))

    may-establish : (offset : ℕ) → MayCome side log (SessionEstablished (local_bi side) offset)
    may-establish offset = (
      (own-known side log held (local_bi side) own-request, ap (λ (xs : List Session). list_any (is_session (local_bi side)) xs) ((held.dialling dials).1)),
      λ server. absurd (true≢false (sym ((held.dialling dials).0) ∙ server)),
    )

    read-leads : (own : List Action) (w : ResponseWalk) → Leads side (read_response side log (local_bi side) own w)
    read-leads own (responses.Fault code) = fails (own ++ close_when_open log (code_of code)) _
    read-leads own responses.Ended = abandons own (loss_to_connect log)
    read-leads own responses.Waiting = either side (is_open log) _ _ (polls own replies.Pending) (fails own (loss_to_connect log))
    read-leads own (responses.Response fields offset) =
        either side (not (has_success fields)) _ _ (abandons own connects.SessionRejected)
        (either side (is_open log) _ _ (establish-leads own (local_bi side) offset (may-establish offset)) (fails own (connects.ConnectionError (driver_error side log))))

    await-leads : (own : List Action) → Leads side (await_response side log (local_bi side) own)
    await-leads own = read-leads own (response_walk_of (contents log (local_bi side)) (end_of (events_of log) (local_bi side)))

    request-leads : (own : List Action) (left : List ℕ) → Leads side (send_request side log (local_bi side) own left)
    request-leads own left =
        either side (is_nothing left) _ _ (await-leads own)
        (either side (not (is_open log)) _ _ (fails own (loss_to_connect log))
        (either side (is_some (stop_of (events_of log) (local_bi side))) _ _ (abandons own connects.SessionRejected)
        (either side (is_covered log (local_bi side) left) _ _ (await-leads (own ++ send_of (local_bi side) left))
        (polls (own ++ send_of (local_bi side) (bytes_within_credit log (local_bi side) left)) replies.Pending))))

    open-request-leads : (head : List ℕ) → Leads side (open_request side log head)
    open-request-leads head =
        either side (not (local_count (actions_of log) (local_bi side) == 0)) _ _ (request-leads [] (head_left log (local_bi side) head))
        (either side (not (is_open log)) _ _ (fails [] (loss_to_connect log))
        (either side (may_open side log (local_bi side)) _ _ (request-leads (actions_to_open side log (local_bi side)) (head_left log (local_bi side) head)) (polls [] replies.Pending)))

    reserved-leads : (reserved : Option (List ℕ)) (head : List ℕ) → Leads side (unless_reserved side log reserved head)
    reserved-leads (Some name) head = abandons [] (connects.ReservedHeader name)
    reserved-leads None head = open-request-leads head

    await-or-fail : (e : ConnectionError) → Leads side (await_or_fail side log e)
    await-or-fail e = either side (is_open log) _ _ (polls [] replies.Pending) (fails [] (connects.ConnectionError e))

    pub connect-leads : (reserved : Option (List ℕ)) (head : List ℕ) → Leads side (continue_connect side log reserved head)
    connect-leads reserved head =
        either side (not (is_connected (events_of log))) _ _ (await-or-fail (transport_error log))
        (either side (settings_came side log) _ _ (reserved-leads reserved head) (await-or-fail (driver_error side log)))

  -- the handshake goes on
  pub continue-leads : (state : HandshakeState) → handshake_state (calls_of log) ≡ state → Leads side (continue_by state side log)
  continue-leads (Responding accepts head) e = respond-leads (ap is_asked e) Polled (tt, tt) accepts head
  continue-leads (Connecting reserved head) e = connect-leads (ap is_dialling e) reserved head
  continue-leads _ e = polls [] replies.Pending
