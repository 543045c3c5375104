-- The calls on an established session: its streams are given in the order in which they were classified, its datagrams in the order
-- in which they came (draft-ietf-webtrans-http3, sections 4.2 to 4.4 and 5; RFC 9297, section 2.1).
use Rattle.std.specs.Prelude.{[], ◌%◌, ◌&&◌, ◌++◌, ◌-◌, ◌/◌, ◌==◌, ◌∷◌, Bool, List, None, Option, Some, false, find, if◌then◌else◌, is_some, length, nat_lt, not, ℕ}
use Rattle.std.specs.List.{list_any}
use Rattle.wt_meaning.specs.Sends.{action_if}
use Rattle.wt_message.specs.Datagram.{datagram_bytes}
use Rattle.wt_turn.specs.Joined.{send_of}
use Rattle.wt_turn.specs.Outgoing.{actions_to_open, bytes_within_credit, if_open, may_open, next_id}
use Rattle.wt_turn.specs.Reports.{datagram_fact, if_same, stop_of}
use Rattle.wt_turn.specs.Log.{CallRecord, DatagramReceived, Log, OpeningFailed, OpeningStarted, RequestRejected, StreamAccepted, calls_of, events_of, is_open, newest}
use Rattle.wt_turn.specs.declared.action.Action.{Action}
use Rattle.wt_turn.specs.declared.datagram_fact.DatagramFact.{DatagramFact}
use Rattle.wt_turn.specs.declared.reply.Reply.{Reply}
use Rattle.wt_wire.specs.Ids.{is_bidirectional}
use Rattle.wt_wire.specs.Varint.{varint_bytes}
use Rattle.wt_wire.specs.declared.side.Side.{Side}
use Rattle.wt_sessions.specs.Driver.{accepts_stream, dispatched, ending_actions, is_living, is_session_gone}
use Rattle.wt_sessions.specs.Effect.{Effect, head_left, is_covered, log_call, pending_or_failed, poll_only, poll_sending, reply_with, session_error, transport_error}
use Rattle.wt_sessions.specs.Handshake.{is_refused}
use Rattle.wt_sessions.specs.StreamTable.{Admitted, Waiting}
use Rattle.wt_turn.specs.declared.action.Action.TheVariants as actions
use Rattle.wt_turn.specs.declared.stream_error.SendDatagramError.TheVariants as datagrams
use Rattle.wt_turn.specs.declared.datagram_fact.DatagramFact.TheVariants as facts
use Rattle.wt_turn.specs.declared.stream_error.StreamOpeningError.TheVariants as openings
use Rattle.wt_turn.specs.declared.reply.Reply.TheVariants as replies

-- ---- accepting streams

-- the stream is of this kind and waits for this session
abbrev pub waits_for : ℕ → ℕ → Waiting → Bool
waits_for kind s w = w.id % 4 == kind && w.session == s

-- the first stream of this kind that waits for the session
abbrev pub next_stream : Side → Log → ℕ → ℕ → Option Waiting
next_stream side log kind s = find (waits_for kind s) (dispatched side log).streams

-- the stream is given; without one the call waits or fails
abbrev pub give_stream : Side → (ℕ → Reply) → Log → ℕ → Option Waiting → Effect
give_stream side reply log s (Some w) = reply_with (log_call side log [] (StreamAccepted w.id s)) (reply w.id)
give_stream side reply log s None = poll_only side log (pending_or_failed side log s)

-- the next stream of this kind of the session
abbrev pub accept_stream : Side → (ℕ → Reply) → ℕ → Log → ℕ → Effect
accept_stream side reply kind log s = give_stream side reply log s (next_stream side log kind s)

-- ---- receiving datagrams

-- the first datagram that waits for the session
abbrev pub next_datagram : Side → Log → ℕ → Option Admitted
next_datagram side log s = find (λ (d : Admitted). d.session == s) (dispatched side log).datagrams

-- the datagram is given; without one the call waits or fails
abbrev pub give_datagram : Side → Log → ℕ → Option Admitted → Effect
give_datagram side log s (Some d) = reply_with (log_call side log [] (DatagramReceived d.index)) (replies.Datagram d.payload)
give_datagram side log s None = poll_only side log (pending_or_failed side log s)

-- the next datagram of the session
abbrev pub receive_datagram : Side → Log → ℕ → Effect
receive_datagram side log s = give_datagram side log s (next_datagram side log s)

-- ---- opening streams

-- the next stream of this kind, as soon as the peer allows it (RFC 9000, section 4.6)
abbrev pub open_stream : Side → Log → ℕ → ℕ → Effect
open_stream side log kind s =
    if is_session_gone side log s then poll_only side log (replies.Failed (session_error side log s)) else
    (if not (is_open log) then poll_only side log (replies.Failed (transport_error log)) else
    (if may_open side log kind
    then reply_with (log_call side log (actions_to_open side log kind) (OpeningStarted (next_id side log kind) s)) (replies.Opening (next_id side log kind))
    else poll_only side log replies.Pending))

-- the call began to open this stream
abbrev pub starts_opening : ℕ → CallRecord → Bool
starts_opening k (OpeningStarted id session) = id == k
starts_opening k _ = false

-- the call ended the opening of this stream
abbrev pub ends_opening : ℕ → CallRecord → Bool
ends_opening k (OpeningFailed id) = id == k
ends_opening k r = accepts_stream k r

-- the stream is being opened: from the call that began to open it to the poll that gave it or failed
abbrev pub is_opening : Log → ℕ → Bool
is_opening log k = list_any (starts_opening k) (calls_of log) && not (list_any (ends_opening k) (calls_of log))

-- the session for which the call began to open this stream
abbrev pub opened_for : ℕ → CallRecord → Option ℕ
opened_for k (OpeningStarted id session) = if_same id k session
opened_for k _ = None

-- the session of a stream that is being opened
abbrev pub opening_session : Log → ℕ → Option ℕ
opening_session log k = if is_opening log k then newest (opened_for k) (calls_of log) else None

-- the header of a stream that this end opens for the session (draft-ietf-webtrans-http3, sections 4.2 and 4.3)
abbrev pub stream_header : ℕ → ℕ → List ℕ
stream_header k s = varint_bytes (if is_bidirectional k then 0x41 else 0x54) ++ varint_bytes s

-- the reply that gives an opened stream of this kind
abbrev pub opened_reply : ℕ → Reply
opened_reply k = if is_bidirectional k then replies.BiReady k else replies.SendReady k

-- the header goes out as far as credit goes; once it is out, the stream is given
abbrev pub send_header : Side → Log → ℕ → ℕ → List ℕ → Effect
send_header side log k s left =
    if is_covered log k left then reply_with (log_call side log (send_of k left) (StreamAccepted k s)) (opened_reply k)
    else poll_sending side log (send_of k (bytes_within_credit log k left)) replies.Pending

-- an opening goes on, unless the connection or the session ended or the peer stopped the stream
abbrev pub continue_opening : Side → Log → ℕ → ℕ → List ℕ → Effect
continue_opening side log k s left =
    if not (is_open log && is_living side log s) then reply_with (log_call side log [] (OpeningFailed k)) (replies.OpeningFailed openings.NotConnected) else
    (if is_refused log k left then reply_with (log_call side log [] (OpeningFailed k)) (replies.OpeningFailed openings.Refused)
    else send_header side log k s left)

-- a poll of this stream, by the session for which it is being opened, where it is
abbrev pub poll_for : Side → Log → ℕ → Option ℕ → Effect
poll_for side log k None = poll_only side log replies.NoStream
poll_for side log k (Some s) = continue_opening side log k s (head_left log k (stream_header k s))

-- a poll of a stream that is being opened
abbrev pub poll_opening : Side → Log → ℕ → Effect
poll_opening side log k = poll_for side log k (opening_session log k)

-- ---- sending datagrams

-- a datagram goes out where the fact allows one of its length
abbrev pub datagram_within : Side → Log → List ℕ → DatagramFact → Effect
datagram_within side log bytes facts.Disabled = poll_only side log (replies.DatagramFailed datagrams.Disabled)
datagram_within side log bytes facts.Unsupported = poll_only side log (replies.DatagramFailed datagrams.UnsupportedByPeer)
datagram_within side log bytes (facts.Limit limit) =
    if nat_lt limit (length bytes) then poll_only side log (replies.DatagramFailed datagrams.TooLarge)
    else poll_sending side log (actions.DatagramOut bytes ∷ []) replies.Done

-- a datagram goes out by what the transport reported last of datagrams
abbrev pub datagram_allowed : Side → Log → List ℕ → Option DatagramFact → Effect
datagram_allowed side log bytes None = poll_only side log (replies.DatagramFailed datagrams.NotConnected)
datagram_allowed side log bytes (Some fact) = datagram_within side log bytes fact

-- a datagram of the session is sent
abbrev pub send_datagram : Side → Log → List ℕ → ℕ → Effect
send_datagram side log payload s =
    if is_open log && is_living side log s then datagram_allowed side log (datagram_bytes (s / 4) payload) (datagram_fact (events_of log))
    else poll_only side log (replies.DatagramFailed datagrams.NotConnected)

-- what the limit leaves for a payload after the quarter id
abbrev pub payload_limit : ℕ → Option DatagramFact → Option ℕ
payload_limit s (Some (facts.Limit limit)) =
    if nat_lt limit (length (varint_bytes (s / 4))) then None else Some (limit - length (varint_bytes (s / 4)))
payload_limit s _ = None

-- ---- ends

-- what goes out where the application ends the session: its own stream is finished, unless the peer stopped it, then its streams end
abbrev pub session_end_actions : Side → Log → ℕ → List Action
session_end_actions side log s = action_if (not (is_some (stop_of (events_of log) s))) (actions.Finish s) ++ ending_actions side log s

-- the session ends, where the connection is open; one that is gone already sends nothing more
abbrev pub end_session : Side → Log → ℕ → Effect
end_session side log s =
    if is_open log then reply_with (log_call side log (if is_living side log s then session_end_actions side log s else []) (RequestRejected s)) replies.Done
    else poll_only side log replies.Done

-- the application or the endpoint closes the connection
abbrev pub close_connection : Side → Log → ℕ → List ℕ → Effect
close_connection side log code reason = poll_sending side log (if_open log (actions.Close code reason)) replies.Done

-- whether and how the connection ended
abbrev pub closed_reply : Log → Reply
closed_reply log = if is_open log then replies.Pending else replies.Closed (transport_error log)
