-- The rows of each call against what it can still give.
use Rattle.std.specs.Prelude.{[], ◌%◌, ◌&&◌, ◌/◌, ◌==◌, ◌∷◌, ◌||◌, ◌≡◌, Bool, List, None, Option, Result, Some, codes, false, filter_map, if◌then◌else◌, is_none, is_some, length, nat_le, not, true, unwrap_or, ℕ}
use Rattle.std.proofs.Common.{◌∙◌, ap, refl, sym}
use Rattle.url.specs.Parser.{parse_url}
use Rattle.wt_message.specs.Datagram.{datagram_bytes}
use Rattle.wt_message.specs.FixedBytes.{response_bytes}
use Rattle.wt_turn.specs.Reports.{datagram_fact, end_of, is_acknowledged, stop_of}
use Rattle.wt_turn.specs.Streams.{local_bi, local_uni, peer_bi, peer_uni}
use Rattle.wt_turn.specs.declared.call.Call.{Call}
use Rattle.wt_turn.specs.declared.connecting_error.ConnectingError.{ConnectingError}
use Rattle.wt_turn.specs.declared.reply.Reply.{Reply}
use Rattle.wt_wire.specs.HeaderList.{Fields}
use Rattle.wt_wire.specs.Ids.{is_bidirectional}
use Rattle.wt_wire.specs.declared.side.Side.{Side}
use Rattle.wt_wire.specs.declared.side.Side.TheVariants.{Client, Server}
use Rattle.wt_meaning.specs.Calls.{accept, being_opened, first_datagram, first_waiting, in_session, is_living, open_stream, opening_for, opening_rows, receive, refused_by, rows_of, session_error, stream_header}
use Rattle.wt_meaning.specs.Findings.{first_of, settings_came}
use Rattle.wt_meaning.specs.Halves.{has_receiving, has_sending, is_closed, is_done, priority_of, sent_now, unread}
use Rattle.wt_meaning.specs.Handshakes.{acceptance_frame, begin_rows, driver_error, head_left, is_nothing, is_refused, lacks_credit, next_request, rejection, response_to, send, transport_error, was_given}
use Rattle.wt_meaning.specs.History.{History, credit_left, events, is_open, is_reset, may_open, next_id, was_finished}
use Rattle.wt_meaning.specs.Lawful.{is_client, is_first, is_pending, is_response, may_call}
use Rattle.wt_meaning.specs.Rows.{row}
use Rattle.wt_meaning.specs.Moments.{findings}
use Rattle.wt_meaning.specs.Targets.{Target, target_of}
use Rattle.wt_meaning.specs.Windows.{is_gone, last_request, named, queued_request, waiting_datagrams, waiting_streams}
use Rattle.wt_promise.proofs.Waits.{awaits_credit, datagram_waits, is_empty, nothing_left, on_target, opening_waits, rejection_waits, request_waits, response_waits, stream_waits}
use Rattle.wt_promise.proofs.Waiting.{acceptance-waits, and-false, asked-waits, begin-waits, closed-waits, exact-waits, finish-waits, first-unless, first-waits, given-waits, half-waits, named-established, open-waits, opening-waits, read-waits, rejection-waits, send_datagram-waits, session-never, session-waits, stopped-waits, waits, write-waits, write_all-waits}
use Rattle.wt_turn.specs.declared.call.Call.TheVariants as calls
use Rattle.wt_turn.specs.declared.connection_error.ConnectionError.TheVariants as errors
use Rattle.wt_turn.specs.declared.reply.Reply.TheVariants as replies
use Rattle.wt_wire.specs.declared.error.ErrorCode.TheVariants as h3

-- what is asked of a call's rows
abbrev pub WaitsRightly : Side → History → Call → Type 0
WaitsRightly side h call = waits (rows_of side h call) ≡ (is_open h && nothing_left side h call)

-- ---- on a session

pub accept-waits : (side : Side) (h : History) (name : Option ℕ) (kind : ℕ) (given : ℕ → Reply) → ((k : ℕ) → is_pending (given k) ≡ false)
    → (s : ℕ) → named h name ≡ Some s → waits (accept side h kind given s) ≡ (is_open h && (is_living side h s && not (stream_waits side h kind s)))
accept-waits side h name kind given never s e =
    given-waits (is_open h) (is_living side h s) (stream_waits side h kind s) (first_waiting side h kind s) given (session_error side h s) never
    (first-waits (λ (w : ℕ × ℕ). w.0 % 4 == kind && w.1 == s) (λ (w : ℕ × ℕ). w.0) (waiting_streams h (findings side h)))

-- the first of a list is missing exactly where the list is empty
none-first : (xs : List (ℕ × List ℕ)) → is_none (first_of (λ (d : ℕ × List ℕ). Some d.1) xs) ≡ is_empty xs
none-first [] = refl
none-first (d ∷ xs) = refl

pub datagram-missing : (side : Side) (h : History) (s : ℕ) → is_none (first_datagram side h s) ≡ not (datagram_waits side h s)
datagram-missing side h s = by (is_gone h (findings side h) s)
  where
    double : (b : Bool) → b ≡ not (not b)
    double true = refl
    double false = refl

    by : (g : Bool) → is_none (if g then None else first_of (λ (d : ℕ × List ℕ). Some d.1) (waiting_datagrams h (findings side h) s))
        ≡ not (not g && not (is_empty (waiting_datagrams h (findings side h) s)))
    by true = refl
    by false = none-first (waiting_datagrams h (findings side h) s) ∙ double (is_empty (waiting_datagrams h (findings side h) s))

receive-waits : (side : Side) (h : History) (s : ℕ) → waits (receive side h s) ≡ (is_open h && (is_living side h s && not (datagram_waits side h s)))
receive-waits side h s =
    given-waits (is_open h) (is_living side h s) (datagram_waits side h s) (first_datagram side h s) (λ (payload : List ℕ). replies.Datagram payload) (session_error side h s)
    (λ (y : List ℕ). refl) (datagram-missing side h s)

pub opens-wait : (side : Side) (h : History) (name : Option ℕ) (kind s : ℕ) → named h name ≡ Some s → waits (open_stream side h kind s) ≡ (is_open h && (is_living side h s && not (may_open side h kind)))
opens-wait side h name kind s e =
    open-waits (is_open h) (is_gone h (findings side h) s) (may_open side h kind) (session_error side h s) (transport_error h) (next_id side h kind) _
    ∙ ap (λ (b : Bool). is_open h && ((b && not (is_gone h (findings side h) s)) && not (may_open side h kind))) (sym (named-established h name s e))

pub opening-of : (side : Side) (h : History) (k : ℕ) (x : Option (Option ℕ)) → waits (opening_for side h k x) ≡ (is_open h && opening_waits side h k x)
opening-of side h k None = and-false (is_open h)
opening-of side h k (Some name) = session-waits (is_open h) (named h name) (λ (s : ℕ). opening_rows side h k s (head_left h k (stream_header k s)))
    (λ (s : ℕ). is_living side h s && awaits_credit h k (head_left h k (stream_header k s)))
    (λ (s : ℕ) (e : named h name ≡ Some s). opening-waits (is_open h) (is_living side h s) (is_refused h k (head_left h k (stream_header k s))) (lacks_credit h k (head_left h k (stream_header k s)))
    (is_bidirectional k) k (send h k (head_left h k (stream_header k s))) (send h k (head_left h k (stream_header k s))))

-- ---- a server's request

request-missing : (side : Side) (h : History) → is_none (next_request side h) ≡ (not (settings_came (findings side h)) || not (request_waits side h))
request-missing side h = by (settings_came (findings side h))
  where
    by : (b : Bool) → is_none (if b then first_of (λ (q : ℕ × Fields). if was_given h q.0 then None else Some q) (filter_map queued_request (findings side h)) else None)
        ≡ (not b || not (request_waits side h))
    by true = first-unless (λ (q : ℕ × Fields). was_given h q.0) (filter_map queued_request (findings side h))
    by false = refl

-- ---- halves

-- what is done is closed
done-closed : (f r a : Bool) → (r || (f && a)) ≡ true → (f || r) ≡ true
done-closed true r a e = refl
done-closed false true a e = refl
done-closed false false a e = e

-- ---- every call

rejects : (side : Side) (h : History) (digits : List ℕ) → waits (rejection side h digits)
    ≡ (is_open h && rejection_waits h (unwrap_or (last_request h) 0) (head_left h (unwrap_or (last_request h) 0) (response_bytes digits)))
rejects side h digits =
    let s : ℕ = unwrap_or (last_request h) 0 in let left : List ℕ = head_left h s (response_bytes digits) in
    rejection-waits (is_open h) (is_refused h s left) (lacks_credit h s left) (was_finished h s) (is_some (stop_of (events h) s) || is_acknowledged (events h) s) _ _ _ _

pub response-rightly : (side : Side) (h : History) (call : Call) → is_response call ≡ true → waits (response_to side h call) ≡ (is_open h && response_waits h call)
response-rightly side h (calls.Accept headers) r =
    let s : ℕ = unwrap_or (last_request h) 0 in let left : List ℕ = head_left h s (acceptance_frame headers) in
    acceptance-waits (is_open h) (is_refused h s left) (lacks_credit h s left) (transport_error h) (errors.LocalH3Error h3.ClosedCriticalStream) s _ (send h s left)
response-rightly side h calls.Forbidden r = rejects side h (codes "403")
response-rightly side h calls.NotFound r = rejects side h (codes "404")
response-rightly side h calls.TooManyRequests r = rejects side h (codes "429")
response-rightly side h c r = absurd (cc r)

connect-waits : (side : Side) (h : History) (t : Result Target ConnectingError) → (is_client side && is_first h) ≡ true → waits (begin_rows t) ≡ (is_open h && on_target t (λ (t : Target). true))
connect-waits side [] t lawful = begin-waits t
connect-waits Client (p ∷ h) t lawful = absurd (cc lawful)
connect-waits Server (p ∷ h) t lawful = absurd (cc lawful)

-- (the poll of a handshake is a premise here)
pub waits-rightly : (side : Side) (h : History) (call : Call) → (call ≡ calls.Handshake → WaitsRightly side h calls.Handshake) → may_call side h call ≡ true → WaitsRightly side h call
waits-rightly side h (calls.Connect options lookup outcome) n lawful = connect-waits side h (target_of (parse_url None options.0) options.1 lookup outcome) lawful
waits-rightly side h calls.Incoming n lawful =
    asked-waits (is_open h) (not (settings_came (findings side h)) || not (request_waits side h)) (next_request side h) (λ (q : ℕ × Fields). replies.Request q.0 q.1) (driver_error side h)
    (λ (q : ℕ × Fields). refl) (request-missing side h)
waits-rightly side h (calls.Accept headers) n lawful = response-rightly side h (calls.Accept headers) refl
waits-rightly side h calls.Forbidden n lawful = response-rightly side h calls.Forbidden refl
waits-rightly side h calls.NotFound n lawful = response-rightly side h calls.NotFound refl
waits-rightly side h calls.TooManyRequests n lawful = response-rightly side h calls.TooManyRequests refl
waits-rightly side h calls.Handshake n lawful = n refl
waits-rightly side h (calls.EndpointClose code reason) n lawful = and-false (is_open h)
waits-rightly side h (calls.AcceptUni name) n lawful =
    session-waits (is_open h) (named h name) (accept side h (peer_uni side) replies.Uni) (λ (s : ℕ). is_living side h s && not (stream_waits side h (peer_uni side) s))
    (accept-waits side h name (peer_uni side) replies.Uni (λ (k : ℕ). refl))
waits-rightly side h (calls.AcceptBi name) n lawful =
    session-waits (is_open h) (named h name) (accept side h (peer_bi side) replies.Bi) (λ (s : ℕ). is_living side h s && not (stream_waits side h (peer_bi side) s))
    (accept-waits side h name (peer_bi side) replies.Bi (λ (k : ℕ). refl))
waits-rightly side h (calls.ReceiveDatagram name) n lawful =
    session-waits (is_open h) (named h name) (receive side h) (λ (s : ℕ). is_living side h s && not (datagram_waits side h s)) (λ (s : ℕ) (e : named h name ≡ Some s). receive-waits side h s)
waits-rightly side h (calls.OpenUni name) n lawful =
    session-waits (is_open h) (named h name) (open_stream side h (local_uni side)) (λ (s : ℕ). is_living side h s && not (may_open side h (local_uni side))) (opens-wait side h name (local_uni side))
waits-rightly side h (calls.OpenBi name) n lawful =
    session-waits (is_open h) (named h name) (open_stream side h (local_bi side)) (λ (s : ℕ). is_living side h s && not (may_open side h (local_bi side))) (opens-wait side h name (local_bi side))
waits-rightly side h (calls.PollOpening id) n lawful =
    session-waits (is_open h) (named h None) (λ (s : ℕ). opening_for side h id (being_opened h id)) (λ (s : ℕ). opening_waits side h id (being_opened h id))
    (λ (s : ℕ) (e : named h None ≡ Some s). opening-of side h id (being_opened h id))
waits-rightly side h (calls.SendDatagram payload name) n lawful =
    session-never (is_open h) (named h name) _ (λ (s : ℕ). send_datagram-waits (not (is_open h && is_living side h s)) (refused_by (length (datagram_bytes (s / 4) payload)) (datagram_fact (events h))) _)
waits-rightly side h (calls.EndSession name) n lawful = session-never (is_open h) (named h name) _ (λ (s : ℕ). refl)
waits-rightly side h (calls.MaxDatagramSize name) n lawful = session-never (is_open h) (named h name) _ (λ (s : ℕ). refl)
waits-rightly side h (calls.SessionId name) n lawful = session-never (is_open h) (named h name) _ (λ (s : ℕ). refl)
waits-rightly side h (calls.Close code reason) n lawful = session-never (is_open h) (named h None) _ (λ (s : ℕ). refl)
waits-rightly side h calls.Closed n lawful = by (named h None) (is_open h)
  where
    by : (name : Option ℕ) (o : Bool) → waits (in_session name (λ (s : ℕ). row (not o) (replies.Closed (transport_error h)) [] ∷ [])) ≡ (o && is_some name)
    by None o = and-false o
    by (Some s) true = refl
    by (Some s) false = refl
waits-rightly side h (calls.Write id bytes) n lawful =
    half-waits (is_open h) (has_sending side h id) _ _ (write-waits (is_open h) (is_closed h id) (stop_of (events h) id) (is_nothing bytes) (credit_left h id == 0) (sent_now h id bytes) (send h id bytes))
waits-rightly side h (calls.WriteAll id bytes) n lawful =
    half-waits (is_open h) (has_sending side h id) false _ (write_all-waits (is_open h) (is_closed h id) (stop_of (events h) id) (sent_now h id bytes == length bytes) (sent_now h id bytes) (send h id bytes) ∙ and-false (is_open h))
    ∙ ap (λ (b : Bool). is_open h && b) (sym (and-false (has_sending side h id)))
waits-rightly side h (calls.Finish id) n lawful =
    half-waits (is_open h) (has_sending side h id) _ _ (finish-waits (is_open h) (is_closed h id) (stop_of (events h) id) (is_done h id) _ (done-closed (was_finished h id) (is_reset h id) (is_acknowledged (events h) id)))
waits-rightly side h (calls.Stopped id) n lawful = half-waits (is_open h) (has_sending side h id) _ _ (stopped-waits (is_open h) (stop_of (events h) id) (is_done h id))
waits-rightly side h (calls.Priority id) n lawful =
    half-waits (is_open h) (has_sending side h id) false _ (closed-waits (is_done h id) (replies.Priority (priority_of h id)) [] refl ∙ and-false (is_open h)) ∙ ap (λ (b : Bool). is_open h && b) (sym (and-false (has_sending side h id)))
waits-rightly side h (calls.SetPriority id p) n lawful =
    half-waits (is_open h) (has_sending side h id) false _ (and-false (is_open h)) ∙ ap (λ (b : Bool). is_open h && b) (sym (and-false (has_sending side h id)))
waits-rightly side h (calls.ResetSend id code) n lawful =
    half-waits (is_open h) (has_sending side h id) false _ (closed-waits (is_done h id) replies.Done _ refl ∙ and-false (is_open h)) ∙ ap (λ (b : Bool). is_open h && b) (sym (and-false (has_sending side h id)))
waits-rightly side h (calls.Read id size) n lawful =
    half-waits (is_open h) (has_receiving side h id) _ _ (read-waits (is_open h) (size == 0) (is_nothing (unread side h id)) _ (end_of (events h) id))
waits-rightly side h (calls.ReadExact id size) n lawful =
    half-waits (is_open h) (has_receiving side h id) _ _ (exact-waits (is_open h) (nat_le size (length (unread side h id))) _ (unread side h id) (end_of (events h) id))
waits-rightly side h (calls.StopRecv id code) n lawful =
    half-waits (is_open h) (has_receiving side h id) false _ (and-false (is_open h)) ∙ ap (λ (b : Bool). is_open h && b) (sym (and-false (has_receiving side h id)))
