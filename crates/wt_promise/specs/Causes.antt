-- Why a call has its reply: its causes in order, of which the first that holds gives the reply. Where none holds the call waits.
use Rattle.std.specs.Prelude.{[], ◌%◌, ◌&&◌, ◌+◌, ◌-◌, ◌/◌, ◌==◌, ◌∷◌, ◌||◌, Bool, List, None, Option, Some, if◌then◌else◌, is_some, length, nat_le, nat_lt, not, pos, take, true, unwrap_or, ℕ, ℤ, ◌++◌, drop}
use Rattle.std.specs.List.{list_any}
use Rattle.url.specs.Parser.{parse_url}
use Rattle.url.specs.Parts.{Parts}
use Rattle.wt_message.specs.Responses.{status_of}
use Rattle.wt_proto.specs.ResponseWalk.{response_walk_of}
use Rattle.wt_proto.specs.declared.response_walk.ResponseWalk.{ResponseWalk}
use Rattle.wt_turn.specs.Reports.{datagram_fact, end_of, is_acknowledged, is_connected, loss_of, stop_of}
use Rattle.wt_turn.specs.Streams.{local_bi, local_count, local_uni, peer_bi, peer_uni}
use Rattle.wt_turn.specs.ProtoError.{error_of_loss}
use Rattle.wt_turn.specs.declared.call.Call.{Call}
use Rattle.wt_turn.specs.declared.connection_error.ConnectionError.{ConnectionError}
use Rattle.wt_turn.specs.declared.datagram_fact.DatagramFact.{DatagramFact}
use Rattle.wt_turn.specs.declared.reply.Reply.{Reply}
use Rattle.wt_turn.specs.declared.stream_error.SendDatagramError.{SendDatagramError}
use Rattle.wt_turn.specs.declared.stream_error.StreamReadError.{StreamReadError}
use Rattle.wt_turn.specs.declared.stream_error.StreamWriteError.{StreamWriteError}
use Rattle.wt_turn.specs.declared.turn.Turn.{Turn}
use Rattle.wt_wire.specs.HeaderList.{Fields}
use Rattle.wt_wire.specs.Ids.{is_bidirectional}
use Rattle.wt_wire.specs.Varint.{varint_bytes}
use Rattle.wt_wire.specs.declared.side.Side.{Side}
use Rattle.wt_wire.specs.declared.side.StreamEnd.{StreamEnd}
use Rattle.wt_meaning.specs.Calls.{being_opened}
use Rattle.wt_meaning.specs.Findings.{Classified, Finding, SessionClosed, fault_of, first_of, settings_came, verdict_of}
use Rattle.wt_meaning.specs.Lawful.{is_response}
use Rattle.wt_meaning.specs.History.{History, Pair, actions_out, contents, credit_left, events, is_given_up, is_handed_out, is_open, is_reset, may_open, next_id, out, was_finished}
use Rattle.wt_meaning.specs.Moments.{findings}
use Rattle.wt_meaning.specs.Windows.{is_gone, is_number, named, requests, waiting_datagrams}
use Rattle.wt_proto.specs.declared.verdict.Verdict.{Verdict}
use Rattle.wt_promise.specs.Connects.{of_url, refusal, request_head, reserved}
use Rattle.wt_promise.specs.Owed.{fits_credit, handshake_stream, head_of, header_for, stopped_early, begun_last}
use Rattle.wt_proto.specs.declared.response_walk.ResponseWalk.TheVariants as responses
use Rattle.wt_proto.specs.declared.verdict.Verdict.TheVariants as verdicts
use Rattle.wt_turn.specs.declared.call.Call.TheVariants as calls
use Rattle.wt_turn.specs.declared.connecting_error.ConnectingError.TheVariants as connects
use Rattle.wt_turn.specs.declared.connection_error.ConnectionError.TheVariants as errors
use Rattle.wt_turn.specs.declared.datagram_fact.DatagramFact.TheVariants as facts
use Rattle.wt_turn.specs.declared.reply.Reply.TheVariants as replies
use Rattle.wt_turn.specs.declared.stream_error.SendDatagramError.TheVariants as datagrams
use Rattle.wt_turn.specs.declared.stream_error.StreamOpeningError.TheVariants as openings
use Rattle.wt_turn.specs.declared.stream_error.StreamReadError.TheVariants as reads
use Rattle.wt_turn.specs.declared.stream_error.StreamReadExactError.TheVariants as exacts
use Rattle.wt_turn.specs.declared.stream_error.StreamWriteError.TheVariants as writes
use Rattle.wt_turn.specs.declared.turn.Turn.TheVariants as turns
use Rattle.wt_wire.specs.declared.error.ErrorCode.TheVariants as h3
use Rattle.wt_wire.specs.declared.side.StreamEnd.TheVariants as ends

-- a cause: the reply, where it holds
abbrev pub Cause : Type 0
Cause = Option Reply

-- this reply where the test holds
abbrev pub when : Bool → Reply → Cause
when holds reply = if holds then Some reply else None

-- the reply by a value, where there is one
abbrev pub from : {T : Type 0} → Option T → (T → Reply) → Cause
from None reply = None
from (Some x) reply = Some (reply x)

-- the first cause that holds
abbrev pub first_cause : List Cause → Reply
first_cause causes = unwrap_or (first_of (λ (c : Cause). c) causes) replies.Pending

-- ---- how the connection, or a session, ended

-- a loss by its reason, else a close of this end
abbrev pub transport_answer : History → ConnectionError
transport_answer h = elim (loss_of (events h)) [ Some reason ↦ error_of_loss reason | None ↦ errors.LocallyClosed ]

-- the same, but for a fault, which gives its code
abbrev pub driver_answer : Side → History → ConnectionError
driver_answer side h = elim (fault_of (findings side h)) [ Some code ↦ errors.LocalH3Error code | None ↦ transport_answer h ]

-- the code and reason with which the peer closed the session
abbrev pub closed_with : ℕ → Finding → Option ConnectionError
closed_with s (SessionClosed session code reason by_capsule) =
    if session == s then Some (errors.ApplicationClosed (record { code = code; reason = reason })) else None
closed_with s _ = None

-- a session that is gone was closed by its peer, else by this end; every other one ended with the connection
abbrev pub session_answer : Side → History → ℕ → ConnectionError
session_answer side h s =
    unwrap_or (first_of (closed_with s) (findings side h)) (if is_gone h (findings side h) s then errors.LocallyClosed else driver_answer side h)

-- ---- calls on a session

-- causes of the session that the call names, which was established
abbrev pub of_named : Option ℕ → (ℕ → List Cause) → List Cause
of_named None causes = Some replies.NoSession ∷ []
of_named (Some s) causes = causes s

-- the session is gone, or the connection has ended
abbrev pub is_over : Side → History → ℕ → Bool
is_over side h s = is_gone h (findings side h) s || not (is_open h)

-- the stream, where the finding admits it to the session, it is of this kind, and no reply handed it out
abbrev pub left_for : History → ℕ → ℕ → Finding → Option ℕ
left_for h kind s (Classified id (verdicts.WebTransport session offset) true) =
    if id % 4 == kind && session == s && not (is_handed_out h id) then Some id else None
left_for h kind s _ = None

-- AcceptUni, AcceptBi, ReceiveDatagram: what is left first is given, to a session that isn't gone; with nothing left the call fails once that is over
abbrev pub gives_left : Side → History → ℕ → Cause → List Cause
gives_left side h s given = (if is_gone h (findings side h) s then None else given) ∷ when (is_over side h s) (replies.Failed (session_answer side h s)) ∷ []

-- OpenUni, OpenBi
abbrev pub opens : Side → History → ℕ → ℕ → List Cause
opens side h kind s =
    when (is_gone h (findings side h) s) (replies.Failed (session_answer side h s)) ∷ when (not (is_open h)) (replies.Failed (transport_answer h))
    ∷ when (may_open side h kind) (replies.Opening (next_id side h kind)) ∷ []

-- PollOpening of a stream that is being opened with this name: it is handed out once its header is out
abbrev pub polls_opening : Side → History → ℕ → Option (Option ℕ) → List Cause
polls_opening side h k None = Some replies.NoStream ∷ []
polls_opening side h k (Some name) = of_named (named h name) (λ (s : ℕ).
    when (is_over side h s) (replies.OpeningFailed openings.NotConnected) ∷ when (stopped_early h k (header_for k (Some s))) (replies.OpeningFailed openings.Refused)
    ∷ when (fits_credit h k (header_for k (Some s))) (if is_bidirectional k then replies.BiReady k else replies.SendReady k) ∷ [])

-- why a datagram of n bytes isn't sent, by what was reported last (RFC 9221, section 3)
abbrev pub unsent_by : ℕ → Option DatagramFact → Option SendDatagramError
unsent_by n (Some (facts.Limit limit)) = if nat_lt limit n then Some datagrams.TooLarge else None
unsent_by n (Some facts.Disabled) = Some datagrams.Disabled
unsent_by n (Some facts.Unsupported) = Some datagrams.UnsupportedByPeer
unsent_by n None = Some datagrams.NotConnected

-- the greatest payload behind n bytes of header: none without a limit, or where it is below the header
abbrev pub size_behind : ℕ → Option DatagramFact → Option ℕ
size_behind n (Some (facts.Limit limit)) = if nat_le n limit then Some (limit - n) else None
size_behind n fact = None

-- ---- calls on a half

-- causes of a half that was handed out, on a stream that isn't the one-way stream of this kind
abbrev pub of_half : History → ℕ → ℕ → List Cause → List Cause
of_half h k kind causes = when (not (is_handed_out h k) || k % 4 == kind) replies.NoStream ∷ causes

-- it was reset by this end, or is finished and acknowledged (RFC 9000, section 3.1)
abbrev pub is_settled : History → ℕ → Bool
is_settled h k = is_reset h k || (was_finished h k && is_acknowledged (events h) k)

-- Write, WriteAll: why nothing is accepted, before these
abbrev pub writes_else : History → ℕ → List Cause → List Cause
writes_else h k causes =
    when (not (is_open h)) (replies.WriteFailed writes.NotConnected) ∷ when (was_finished h k || is_reset h k) (replies.WriteFailed writes.Closed)
    ∷ from (stop_of (events h) k) (λ (code : ℕ). replies.WriteFailed (writes.Stopped code)) ∷ causes

-- Finish, Stopped: how the half ended
abbrev pub half_ends : History → ℕ → (StreamWriteError → Reply) → Reply → List Cause
half_ends h k failed settled = from (stop_of (events h) k) (λ (code : ℕ). failed (writes.Stopped code)) ∷ when (is_settled h k) settled
    ∷ when (not (is_open h)) (failed writes.NotConnected) ∷ []

-- the priority that a turn with this reply sets
abbrev pub sets_priority : ℕ → Turn → Reply → Option ℤ
sets_priority k (turns.Call (calls.SetPriority id priority)) replies.Done = if id == k then Some priority else None
sets_priority k _ _ = None

-- the bytes that a read of the stream with this reply takes
abbrev pub piece_of : ℕ → Turn → Reply → List ℕ
piece_of k (turns.Call (calls.Read id size)) (replies.Read (Some piece)) = if id == k then piece else []
piece_of k (turns.Call (calls.ReadExact id size)) (replies.Exact piece) = if id == k then piece else []
piece_of k (turns.Call (calls.ReadExact id size)) (replies.ExactFailed e piece) = if id == k then piece else []
piece_of k _ _ = []

-- these, joined
abbrev pub pieces : History → ℕ → List ℕ
pieces [] k = []
pieces (p ∷ h) k = pieces h k ++ piece_of k p.turn p.answer.reply

-- the length of the header of a stream that the peer opened for a session
abbrev pub header_length : Option Verdict → ℕ
header_length (Some (verdicts.WebTransport session offset)) = offset
header_length _ = 0

-- what came for the stream behind that header
abbrev pub body : Side → History → ℕ → List ℕ
body side h k = drop (header_length (verdict_of (findings side h) k)) (contents h k)

-- what of it no read took
abbrev pub left_of : Side → History → ℕ → List ℕ
left_of side h k = drop (length (pieces h k)) (body side h k)

-- Read, ReadExact, with too few bytes: as the peer ended its half, else as the connection ended
abbrev pub read_ends : History → StreamEnd → Reply → (StreamReadError → Reply) → Cause
read_ends h ends.Fin fin failed = Some fin
read_ends h (ends.Reset code) fin failed = Some (failed (reads.Reset code))
read_ends h ends.Running fin failed = when (not (is_open h)) (failed reads.NotConnected)

-- ---- handshakes

-- the request, where the finding queues it and no reply gave it
abbrev pub left_request : History → Finding → Option (ℕ × Fields)
left_request h (Classified id (verdicts.Request headers offset) true) = if list_any (λ (p : Pair). is_number id (requests p)) h then None else Some (id, headers)
left_request h _ = None

-- Accept
abbrev pub accepts : History → ℕ → List ℕ → List Cause
accepts h s head =
    when (not (is_open h)) (replies.Failed (transport_answer h)) ∷ when (stopped_early h s head) (replies.Failed (errors.LocalH3Error h3.ClosedCriticalStream))
    ∷ when (fits_credit h s head) (replies.Session s) ∷ []

-- Forbidden, NotFound, TooManyRequests: over with the connection, with a stop, or once the response is out, finished and acknowledged
abbrev pub rejects : History → ℕ → List ℕ → List Cause
rejects h s head = when (not (is_open h) || stopped_early h s head
    || (fits_credit h s head && was_finished h s && (is_some (stop_of (events h) s) || is_acknowledged (events h) s))) replies.Rejected ∷ []

-- a connect fails as the connection ended
abbrev pub connect_fails : ConnectionError → Reply
connect_fails e = replies.ConnectFailed (connects.ConnectionError e)

-- the last steps of a connect, by what came for its stream: a status from 200 to 299 (draft-ietf-webtrans-http3, section 3.2) gives the session
abbrev pub answered : Side → History → ResponseWalk → List Cause
answered side h (responses.Fault code) = Some (connect_fails (errors.LocalH3Error code)) ∷ []
answered side h responses.Ended = Some (connect_fails (transport_answer h)) ∷ []
answered side h responses.Waiting = when (not (is_open h)) (connect_fails (transport_answer h)) ∷ []
answered side h (responses.Response fields offset) =
    when (not (nat_lt 199 (unwrap_or (status_of fields) 0) && nat_lt (unwrap_or (status_of fields) 0) 300)) (replies.ConnectFailed connects.SessionRejected)
    ∷ when (not (is_open h)) (connect_fails (driver_answer side h)) ∷ Some (replies.Session 0) ∷ []

-- before them its request goes out on stream 0
abbrev pub requested : Side → History → List ℕ → List Cause
requested side h head = when (nat_lt (length (out h 0)) (length head) && not (is_open h)) (connect_fails (transport_answer h))
    ∷ when (stopped_early h 0 head) (replies.ConnectFailed connects.SessionRejected)
    ∷ (if fits_credit h 0 head then answered side h (response_walk_of (contents h 0) (end_of (events h) 0)) else [])

-- before that the connection, the peer's SETTINGS and stream 0 are there; of the headers with a name that is reserved the first fails
abbrev pub connects_on : Side → History → Fields → List ℕ → List Cause
connects_on side h headers head = if not (is_connected (events h)) then when (not (is_open h)) (connect_fails (transport_answer h)) ∷ []
    else if not (settings_came (findings side h)) then when (not (is_open h)) (connect_fails (driver_answer side h)) ∷ []
    else from (reserved headers) (λ (name : List ℕ). replies.ConnectFailed (connects.ReservedHeader name))
    ∷ (if local_count (actions_out h) 0 == 0 && not (may_open side h 0) then when (not (is_open h)) (connect_fails (transport_answer h)) ∷ [] else requested side h head)

-- the connect or response that goes on
abbrev pub goes_on : Side → History → Option Call → List Cause
goes_on side h (Some (calls.Connect options lookup outcome)) =
    of_url (parse_url None options.0) lookup outcome (λ (url : Parts). connects_on side h options.1 (request_head url options.1))
goes_on side h (Some (calls.Accept headers)) = accepts h (handshake_stream h) (head_of (Some (calls.Accept headers)))
goes_on side h (Some c) = if is_response c then rejects h (handshake_stream h) (head_of (Some c)) else []
goes_on side h None = []

-- ---- each call

-- the causes of a call's replies, in order
abbrev pub causes_of : Side → History → Call → List Cause
causes_of side h (calls.Connect options lookup outcome) = from (refusal (parse_url None options.0) lookup outcome) replies.ConnectFailed ∷ []
causes_of side h calls.Incoming =
    from (if settings_came (findings side h) then first_of (left_request h) (findings side h) else None) (λ (q : ℕ × Fields). replies.Request q.0 q.1)
    ∷ when (not (is_open h)) (replies.Failed (driver_answer side h)) ∷ []
causes_of side h calls.Handshake = goes_on side h (begun_last h)
causes_of side h (calls.EndpointClose code reason) = Some replies.Done ∷ []
causes_of side h (calls.AcceptUni name) =
    of_named (named h name) (λ (s : ℕ). gives_left side h s (from (first_of (left_for h (peer_uni side) s) (findings side h)) replies.Uni))
causes_of side h (calls.AcceptBi name) =
    of_named (named h name) (λ (s : ℕ). gives_left side h s (from (first_of (left_for h (peer_bi side) s) (findings side h)) replies.Bi))
causes_of side h (calls.ReceiveDatagram name) =
    of_named (named h name) (λ (s : ℕ). gives_left side h s (from (first_of (λ (d : ℕ × List ℕ). Some d.1) (waiting_datagrams h (findings side h) s)) replies.Datagram))
causes_of side h (calls.OpenUni name) = of_named (named h name) (opens side h (local_uni side))
causes_of side h (calls.OpenBi name) = of_named (named h name) (opens side h (local_bi side))
causes_of side h (calls.PollOpening id) = of_named (named h None) (λ (s : ℕ). polls_opening side h id (being_opened h id))
causes_of side h (calls.SendDatagram payload name) = of_named (named h name) (λ (s : ℕ). when (is_over side h s) (replies.DatagramFailed datagrams.NotConnected)
    ∷ from (unsent_by (length (varint_bytes (s / 4)) + length payload) (datagram_fact (events h))) replies.DatagramFailed ∷ Some replies.Done ∷ [])
causes_of side h (calls.MaxDatagramSize name) =
    of_named (named h name) (λ (s : ℕ). Some (replies.Size (size_behind (length (varint_bytes (s / 4))) (datagram_fact (events h)))) ∷ [])
causes_of side h (calls.SessionId name) = of_named (named h name) (λ (s : ℕ). Some (replies.Id s) ∷ [])
causes_of side h (calls.EndSession name) = of_named (named h name) (λ (s : ℕ). Some replies.Done ∷ [])
causes_of side h (calls.Close code reason) = of_named (named h None) (λ (s : ℕ). Some replies.Done ∷ [])
causes_of side h calls.Closed = of_named (named h None) (λ (s : ℕ). when (not (is_open h)) (replies.Closed (transport_answer h)) ∷ [])
causes_of side h (calls.Write id bytes) =
    of_half h id (peer_uni side) (writes_else h id (when (length bytes == 0 || nat_lt 0 (credit_left h id)) (replies.Written (length (take (credit_left h id) bytes))) ∷ []))
causes_of side h (calls.WriteAll id bytes) =
    of_half h id (peer_uni side) (writes_else h id (when (nat_le (length bytes) (credit_left h id)) replies.AllWritten ∷ Some (replies.Count (credit_left h id)) ∷ []))
causes_of side h (calls.Finish id) = of_half h id (peer_uni side) (half_ends h id replies.WriteFailed replies.Finished)
causes_of side h (calls.Stopped id) = of_half h id (peer_uni side) (half_ends h id replies.StoppedBy (replies.StoppedBy writes.Closed))
causes_of side h (calls.Priority id) =
    of_half h id (peer_uni side) (when (is_settled h id) replies.ClosedStream ∷ Some (replies.Priority (unwrap_or (first_of (λ (p : Pair). sets_priority id p.turn p.answer.reply) h) (pos 0))) ∷ [])
causes_of side h (calls.SetPriority id p) = of_half h id (peer_uni side) (Some replies.Done ∷ [])
causes_of side h (calls.ResetSend id code) = of_half h id (peer_uni side) (when (is_settled h id) replies.ClosedStream ∷ Some replies.Done ∷ [])
causes_of side h (calls.Read id size) = of_half h id (local_uni side) (when (is_given_up h id) replies.NoStream
    ∷ when (size == 0 || nat_lt 0 (length (left_of side h id))) (replies.Read (Some (take size (left_of side h id))))
    ∷ read_ends h (end_of (events h) id) (replies.Read None) replies.ReadFailed ∷ [])
causes_of side h (calls.ReadExact id size) = of_half h id (local_uni side) (when (is_given_up h id) replies.NoStream
    ∷ when (nat_le size (length (left_of side h id))) (replies.Exact (take size (left_of side h id)))
    ∷ read_ends h (end_of (events h) id) (replies.ExactFailed (exacts.FinishedEarly (length (left_of side h id))) (left_of side h id)) (λ (e : StreamReadError). replies.ExactFailed (exacts.Read e) []) ∷ [])
causes_of side h (calls.StopRecv id code) = of_half h id (local_uni side) (when (is_given_up h id) replies.NoStream ∷ Some replies.Done ∷ [])
causes_of side h c = goes_on side h (Some c)

-- a call is answered by its first cause, every other turn at once
abbrev pub reply_to : Side → History → Turn → Reply
reply_to side h (turns.Call c) = first_cause (causes_of side h c)
reply_to side h turn = replies.Done
