-- What goes out with an answer: what the call owes by itself, as its reply says, then this end's control stream, then what is found.
use Rattle.std.specs.Prelude.{[], ◌&&◌, ◌++◌, ◌+◌, ◌/◌, ◌==◌, ◌∷◌, ◌||◌, Bool, List, None, Option, Some, codes, drop, false, filter, filter_map, flat_map, if◌then◌else◌, is_none, is_some, length, nat_le, nat_lt, not, take, unwrap_or, ℕ}
use Rattle.url.specs.Parser.{parse_url}
use Rattle.url.specs.Parts.{Parts, host_or_empty}
use Rattle.wt_message.specs.FixedBytes.{headers_frame_bytes, response_bytes}
use Rattle.wt_turn.specs.Joined.{send_of}
use Rattle.wt_turn.specs.Reports.{end_of, is_connected, is_running, stop_of, unis_allowed}
use Rattle.wt_turn.specs.Streams.{local_count, local_uni}
use Rattle.wt_turn.specs.declared.action.Action.{Action}
use Rattle.wt_turn.specs.declared.answer.Answer.{Answer}
use Rattle.wt_turn.specs.declared.call.Call.{Call}
use Rattle.wt_turn.specs.declared.reply.Reply.{Reply}
use Rattle.wt_turn.specs.declared.turn.Turn.{Turn}
use Rattle.wt_wire.specs.Codes.{code_of}
use Rattle.wt_wire.specs.HeaderList.{Fields, with_field}
use Rattle.wt_wire.specs.Ids.{is_bidirectional}
use Rattle.wt_wire.specs.Varint.{varint_bytes}
use Rattle.wt_wire.specs.declared.side.Side.{Side}
use Rattle.wt_meaning.specs.Calls.{being_opened}
use Rattle.wt_meaning.specs.Findings.{Classified, Faulted, Finding, SessionClosed, settings_came, first_of}
use Rattle.wt_meaning.specs.Lawful.{begins, is_pending, is_response}
use Rattle.wt_meaning.specs.History.{History, actions_out, can_receive, can_send, credit_left, events, is_given_up, is_open, is_reset, may_open, out, was_finished, Pair, hands_out}
use Rattle.wt_meaning.specs.Meaning.{with_pair}
use Rattle.wt_meaning.specs.Moments.{findings}
use Rattle.wt_meaning.specs.Sends.{is_of_session, stream_ids}
use Rattle.wt_meaning.specs.Windows.{establishes, is_gone, last_request, lives, named}
use Rattle.wt_promise.specs.Connects.{dial_to, of_url, request_head, reserved}
use Rattle.wt_proto.specs.declared.verdict.Verdict.TheVariants as verdicts
use Rattle.wt_turn.specs.declared.action.Action.TheVariants as actions
use Rattle.wt_turn.specs.declared.call.Call.TheVariants as calls
use Rattle.wt_turn.specs.declared.connecting_error.ConnectingError.TheVariants as connects
use Rattle.wt_turn.specs.declared.connection_error.ConnectionError.TheVariants as errors
use Rattle.wt_turn.specs.declared.reply.Reply.TheVariants as replies
use Rattle.wt_turn.specs.declared.turn.Turn.TheVariants as turns

-- ---- heads: what this layer sends first on a stream

-- this end's control stream: its type, then SETTINGS of 22 bytes (RFC 9114, section 7.2.4): 1 and 7 (RFC 9204) are 0, 8 (RFC 9220) and
-- 0x33 (RFC 9297) are 1, 0x2b603742 is 1 and 0xc671706a is 4 (draft-ietf-webtrans-http3, section 8.2)
abbrev pub control_bytes : List ℕ
control_bytes = 0x00 ∷ 0x04 ∷ 0x16 ∷ 0x01 ∷ 0x00 ∷ 0x07 ∷ 0x00 ∷ 0x08 ∷ 0x01 ∷ 0x33 ∷ 0x01 ∷ 0xab ∷ 0x60 ∷ 0x37 ∷ 0x42 ∷ 0x01
    ∷ 0xc0 ∷ 0x00 ∷ 0x00 ∷ 0x00 ∷ 0xc6 ∷ 0x71 ∷ 0x70 ∷ 0x6a ∷ 0x04 ∷ []

-- the header of a stream that was opened for this session (draft-ietf-webtrans-http3, sections 4.2 and 4.3)
abbrev pub header_for : ℕ → Option ℕ → List ℕ
header_for k None = []
header_for k (Some s) = 0x40 ∷ (if is_bidirectional k then 0x41 else 0x54) ∷ varint_bytes s

-- the header of a stream that was opened by a call with this name
abbrev pub header_on : History → ℕ → Option (Option ℕ) → List ℕ
header_on h k None = []
header_on h k (Some name) = header_for k (named h name)

-- the frame that the connect or response writes
abbrev pub head_of : Option Call → List ℕ
head_of (Some (calls.Connect options lookup outcome)) = of_url (parse_url None options.0) lookup outcome (λ (url : Parts). request_head url options.1)
head_of (Some (calls.Accept headers)) = headers_frame_bytes (with_field (codes ":status") (codes "200") headers)
head_of (Some calls.Forbidden) = response_bytes (codes "403")
head_of (Some calls.NotFound) = response_bytes (codes "404")
head_of (Some calls.TooManyRequests) = response_bytes (codes "429")
head_of _ = []

-- the connect or response that the turn begins
abbrev pub begun_in : Turn → Option Call
begun_in (turns.Call c) = if begins c then Some c else None
begun_in turn = None

-- the one that was begun last
abbrev pub begun_last : History → Option Call
begun_last h = first_of (λ (p : Pair). begun_in p.turn) h

-- its stream: that of the request that was given last, or a client's stream 0
abbrev pub handshake_stream : History → ℕ
handshake_stream h = unwrap_or (last_request h) 0

-- the peer stopped the stream before all of its head was out
abbrev pub stopped_early : History → ℕ → List ℕ → Bool
stopped_early h k head = is_some (stop_of (events h) k) && nat_lt (length (out h k)) (length head)

-- credit allows all of the head
abbrev pub fits_credit : History → ℕ → List ℕ → Bool
fits_credit h k head = nat_le (length head) (length (out h k) + credit_left h k)

-- as much of the head's rest as credit allows
abbrev pub rest_of : History → ℕ → List ℕ → List Action
rest_of h k head = send_of k (take (credit_left h k) (drop (length (out h k)) head))

-- ---- what ends

-- these actions where the test holds
abbrev pub owed_if : Bool → List Action → List Action
owed_if holds owed = if holds then owed else []

-- the streams of a session that is gone are told so, by id: each half that still runs
abbrev pub told : Side → History → List Finding → ℕ → List Action
told side h found s =
    flat_map (λ (k : ℕ). owed_if (can_receive side h k && is_running (end_of (events h) k) && not (is_given_up h k)) (actions.StopOut k 0x170d7b68 ∷ [])
    ++ owed_if (can_send side h k && not (was_finished h k) && not (is_reset h k)) (actions.ResetOut k 0x170d7b68 ∷ [])) (filter (is_of_session h found s) (stream_ids side h))

-- a session's own stream is finished, unless the peer stopped it
abbrev pub finish_unless_stopped : History → ℕ → List Action
finish_unless_stopped h s = owed_if (is_none (stop_of (events h) s)) (actions.Finish s ∷ [])

-- the sessions that live
abbrev pub living : Side → History → List ℕ
living side h = filter (lives h (findings side h)) (filter_map establishes h)

-- ---- what a handshake owes

-- an acceptance sends its frame; where the peer stopped the stream before, the connection is closed
abbrev pub owed_by_acceptance : History → ℕ → List ℕ → Reply → List Action
owed_by_acceptance h s head (replies.Failed e) = owed_if (is_open h) (actions.Close 0x104 [] ∷ [])
owed_by_acceptance h s head reply = owed_if (is_open h) (rest_of h s head)

-- a rejection sends its frame, and finishes the stream behind it; once that is over its session is gone, and the connection is closed
-- where the peer stopped the stream before the frame was out, else where no session lives
abbrev pub owed_by_rejection : Side → History → ℕ → List ℕ → Reply → List Action
owed_by_rejection side h s head replies.Rejected = owed_if (is_open h) (told side h (findings side h) s
    ++ (if stopped_early h s head then actions.Close 0x104 [] ∷ [] else owed_if (length (living side h) == 0) (actions.Close 0 [] ∷ [])))
owed_by_rejection side h s head reply =
    if fits_credit h s head && was_finished h s then [] else rest_of h s head ++ owed_if (fits_credit h s head) (actions.Finish s ∷ [])

-- a connect that fails on an open connection closes it, with the code of its response's fault, else with 0
abbrev pub owed_by_failure : Reply → List Action
owed_by_failure (replies.ConnectFailed (connects.ConnectionError (errors.LocalH3Error code))) = actions.Close (code_of code) [] ∷ []
owed_by_failure (replies.ConnectFailed e) = actions.Close 0 [] ∷ []
owed_by_failure _ = []

-- the request goes out: the connection and the peer's SETTINGS came, no header is reserved, stream 0 is there or allowed, and not stopped
abbrev pub request_goes : Side → History → Fields → List ℕ → Bool
request_goes side h headers head =
    is_connected (events h) && settings_came (findings side h) && is_none (reserved headers) && (not (local_count (actions_out h) 0 == 0) || may_open side h 0)
    && not (stopped_early h 0 head)

-- a connect opens stream 0 and sends its request, and closes where it fails
abbrev pub owed_by_connect : Side → History → Fields → List ℕ → Reply → List Action
owed_by_connect side h headers head reply =
    owed_if (is_open h) ((if request_goes side h headers head then owed_if (local_count (actions_out h) 0 == 0) (actions.Opened 0 ∷ []) ++ rest_of h 0 head else []) ++ owed_by_failure reply)

-- the same of the connect or response that was begun last
abbrev pub owed_by_handshake : Side → History → Option Call → Reply → List Action
owed_by_handshake side h (Some (calls.Connect options lookup outcome)) reply =
    of_url (parse_url None options.0) lookup outcome (λ (url : Parts). owed_by_connect side h options.1 (request_head url options.1) reply)
owed_by_handshake side h (Some (calls.Accept headers)) reply = owed_by_acceptance h (handshake_stream h) (head_of (Some (calls.Accept headers))) reply
owed_by_handshake side h (Some c) reply = owed_if (is_response c) (owed_by_rejection side h (handshake_stream h) (head_of (Some c)) reply)
owed_by_handshake side h None reply = []

-- ---- what a call owes

-- a living session that the application ends
abbrev pub owed_by_end : Side → History → Option ℕ → List Action
owed_by_end side h None = []
owed_by_end side h (Some s) = if is_open h && lives h (findings side h) s then finish_unless_stopped h s ++ told side h (findings side h) s else []

-- the call's own actions, in order, where this is its reply
abbrev pub owed_by_call : Side → History → Call → Reply → List Action
owed_by_call side h (calls.Connect options lookup outcome) reply =
    of_url (parse_url None options.0) lookup outcome (λ (url : Parts). dial_to (host_or_empty url) (unwrap_or url.port 443) lookup)
owed_by_call side h (calls.EndpointClose code reason) reply = owed_if (is_open h) (actions.Close code reason ∷ [])
owed_by_call side h (calls.Close code reason) replies.Done = owed_if (is_open h) (actions.Close code reason ∷ [])
owed_by_call side h (calls.OpenUni name) (replies.Opening id) = actions.Opened id ∷ []
owed_by_call side h (calls.OpenBi name) (replies.Opening id) = actions.Opened id ∷ []
owed_by_call side h (calls.PollOpening id) reply = owed_if (is_pending reply || hands_out id reply) (rest_of h id (header_on h id (being_opened h id)))
owed_by_call side h (calls.SendDatagram payload name) replies.Done = actions.DatagramOut (varint_bytes (unwrap_or (named h name) 0 / 4) ++ payload) ∷ []
owed_by_call side h (calls.EndSession name) replies.Done = owed_by_end side h (named h name)
owed_by_call side h (calls.Write id bytes) (replies.Written n) = send_of id (take n bytes)
owed_by_call side h (calls.WriteAll id bytes) (replies.Count n) = send_of id (take n bytes)
owed_by_call side h (calls.WriteAll id bytes) replies.AllWritten = send_of id bytes
owed_by_call side h (calls.Finish id) replies.Pending = owed_if (not (was_finished h id)) (actions.Finish id ∷ [])
owed_by_call side h (calls.ResetSend id code) replies.Done = owed_if (is_open h) (actions.ResetOut id code ∷ [])
owed_by_call side h (calls.StopRecv id code) replies.Done = owed_if (is_open h) (actions.StopOut id code ∷ [])
owed_by_call side h calls.Handshake reply = owed_by_handshake side h (begun_last h) reply
owed_by_call side h c reply = owed_by_handshake side h (Some c) reply

-- a turn of the transport owes nothing by itself
abbrev pub owed_by_turn : Side → History → Turn → Reply → List Action
owed_by_turn side h (turns.Call c) reply = owed_by_call side h c reply
owed_by_turn side h turn reply = []

-- ---- what is found

-- this end's control stream opens as soon as the peer allows it, and sends its bytes as far as credit goes
abbrev pub owed_by_control : Side → History → List Action
owed_by_control side h = if nat_le 1 (unis_allowed (events h))
    then owed_if (local_count (actions_out h) (local_uni side) == 0) (actions.Opened (local_uni side) ∷ []) ++ rest_of h (local_uni side) control_bytes else []

-- What a finding owes, after those before it. By its verdict a stream is stopped: of a session that is gone, or that no window takes
-- (draft-ietf-webtrans-http3, sections 4.5 and 5), refused with its code, or a surplus request with H3_REQUEST_REJECTED; these two make
-- an id gone. A session that the peer closed ends its own stream, with H3_NO_ERROR after a capsule; a fault closes with its code.
abbrev pub owed_by_finding : Side → History → List Finding → Finding → List Action
owed_by_finding side h found (Classified id (verdicts.WebTransport session offset) false) = actions.StopOut id (if is_gone h found session then 0x170d7b68 else 0x3994bd84) ∷ []
owed_by_finding side h found (Classified id (verdicts.Refused code) keeps) = actions.StopOut id (code_of code) ∷ told side h found id
owed_by_finding side h found (Classified id (verdicts.Request headers offset) false) = actions.StopOut id 0x10b ∷ told side h found id
owed_by_finding side h found (SessionClosed session code reason by_capsule) =
    (if by_capsule then actions.ResetOut session 0x100 ∷ [] else finish_unless_stopped h session) ++ told side h found session
owed_by_finding side h found (Faulted code) = actions.Close (code_of code) [] ∷ []
owed_by_finding side h found f = []

-- what these findings owe, one after another
abbrev pub owed_by_findings : Side → History → List Finding → List Finding → List Action
owed_by_findings side h before [] = []
owed_by_findings side h before (f ∷ later) = owed_by_finding side h before f ++ owed_by_findings side h (before ++ f ∷ []) later

-- ---- an answer

-- the history with the turn, its reply and what its call owes: as its moment meets it
abbrev pub as_called : Side → History → Turn → Answer → History
as_called side h turn a = with_pair h turn (record { reply = a.reply; actions = owed_by_turn side h turn a.reply })

-- what the control stream and the findings of this moment owe
abbrev pub owed_by_moment : Side → History → Turn → Answer → List Action
owed_by_moment side h turn a = if is_open (as_called side h turn a) then owed_by_control side (as_called side h turn a)
    ++ owed_by_findings side (as_called side h turn a) (findings side h) (drop (length (findings side h)) (findings side (with_pair h turn a))) else []
