-- Sessions: which are established, gone or living; what waits for each in its window; which requests are held.
use Rattle.std.specs.Prelude.{[], ◌&&◌, ◌==◌, ◌∷◌, ◌||◌, Bool, List, None, Option, Some, drop, false, filter, filter_map, if◌then◌else◌, length, not, suc, true, unwrap_or, ℕ}
use Rattle.std.specs.List.{list_any}
use Rattle.std.specs.Option.{option_or}
use Rattle.wt_proto.specs.ResponseWalk.{response_walk_of}
use Rattle.wt_proto.specs.declared.response_walk.ResponseWalk.{ResponseWalk}
use Rattle.wt_proto.specs.declared.verdict.Verdict.{Verdict}
use Rattle.wt_turn.specs.Reports.{end_of}
use Rattle.wt_turn.specs.declared.reply.Reply.{Reply}
use Rattle.wt_turn.specs.declared.turn.Turn.{Turn}
use Rattle.wt_wire.specs.HeaderList.{Fields}
use Rattle.wt_meaning.specs.Findings.{Classified, DatagramRead, Finding, SessionClosed, first_of, verdict_of}
use Rattle.wt_meaning.specs.History.{History, Pair, contents, events, is_handed_out, is_open}
use Rattle.wt_proto.specs.declared.response_walk.ResponseWalk.TheVariants as responses
use Rattle.wt_proto.specs.declared.verdict.Verdict.TheVariants as verdicts
use Rattle.wt_turn.specs.declared.call.Call.TheVariants as calls
use Rattle.wt_turn.specs.declared.reply.Reply.TheVariants as replies
use Rattle.wt_turn.specs.declared.turn.Turn.TheVariants as turns

-- ---- which are established: a session's id is that of the stream of its CONNECT request (draft-ietf-webtrans-http3, section 2)

-- the session that the reply gives
abbrev pub session_in : Reply → Option ℕ
session_in (replies.Session id) = Some id
session_in _ = None

-- the session that the pair establishes
abbrev pub establishes : Pair → Option ℕ
establishes p = session_in p.answer.reply

-- the session is established from the reply that gave it on
abbrev pub is_established : History → ℕ → Bool
is_established h s = list_any (λ (id : ℕ). id == s) (filter_map establishes h)

-- the session that was established first
abbrev pub first_session : History → Option ℕ
first_session [] = None
first_session (p ∷ h) = option_or (first_session h) (establishes p)

-- the session that a call names, where it was established; a call that names none means the first
abbrev pub named : History → Option ℕ → Option ℕ
named h None = first_session h
named h (Some s) = if is_established h s then Some s else None

-- ---- which are gone

-- the request that the reply gives
abbrev pub request_in : Reply → Option ℕ
request_in (replies.Request id headers) = Some id
request_in _ = None

-- the request that the pair gives
abbrev pub requests : Pair → Option ℕ
requests p = request_in p.answer.reply

-- the request that was given last
abbrev pub last_request : History → Option ℕ
last_request h = first_of requests h

-- the session that the call makes gone: that of a request whose rejection is over, or one that the application ends while the connection is open
abbrev pub gone_in : History → Turn → Reply → Option ℕ
gone_in h turn replies.Rejected = last_request h
gone_in h (turns.Call (calls.EndSession name)) reply = if is_open h then named h name else None
gone_in h turn reply = None

-- the value is this number
abbrev pub is_number : ℕ → Option ℕ → Bool
is_number n None = false
is_number n (Some m) = m == n

-- a call made the session gone
abbrev pub is_gone_by_call : History → ℕ → Bool
is_gone_by_call [] s = false
is_gone_by_call (p ∷ h) s = is_number s (gone_in h p.turn p.answer.reply) || is_gone_by_call h s

-- the finding makes the session gone: the peer closed it, or the stream of its request is stopped as refused or surplus
abbrev pub makes_gone : ℕ → Finding → Bool
makes_gone s (SessionClosed session code reason by_capsule) = session == s
makes_gone s (Classified id (verdicts.Refused code) keeps) = id == s
makes_gone s (Classified id (verdicts.Request headers offset) false) = id == s
makes_gone s _ = false

-- the session is gone, and stays so (this repository's rule; draft-ietf-webtrans-http3, section 5, ends a session with its stream)
abbrev pub is_gone : History → List Finding → ℕ → Bool
is_gone h found s = is_gone_by_call h s || list_any (makes_gone s) found

-- the session lives: it is established and not gone
abbrev pub lives : History → List Finding → ℕ → Bool
lives h found s = is_established h s && not (is_gone h found s)

-- ---- a session's part of its stream

-- where it begins on a server: after the request
abbrev pub after_request : Option Verdict → Option ℕ
after_request (Some (verdicts.Request headers offset)) = Some offset
after_request _ = None

-- where it begins on a client: after the response
abbrev pub after_response : ResponseWalk → ℕ
after_response (responses.Response fields offset) = offset
after_response _ = 0

-- the bytes of the stream after the request's or the response's frame
abbrev pub session_part : History → List Finding → ℕ → List ℕ
session_part h found s =
    drop (unwrap_or (after_request (verdict_of found s)) (after_response (response_walk_of (contents h s) (end_of (events h) s)))) (contents h s)

-- ---- what waits (draft-ietf-webtrans-http3, section 4.5: what comes before its session is buffered, with a limit)

-- a window is that of a living session, which names it, or the early one of all that were never established and aren't gone
abbrev pub shares_window : History → List Finding → ℕ → ℕ → Bool
shares_window h found s other = if is_established h s then other == s else not (is_established h other) && not (is_gone h found other)

-- an admitted stream, and the session that its header names
abbrev pub admitted_stream : Finding → Option (ℕ × ℕ)
admitted_stream (Classified id (verdicts.WebTransport session offset) true) = Some (id, session)
admitted_stream _ = None

-- the streams that wait, with their sessions, in the order in which they were classified: until a reply hands them out or their session is gone
abbrev pub waiting_streams : History → List Finding → List (ℕ × ℕ)
waiting_streams h found = filter (λ (w : ℕ × ℕ). not (is_handed_out h w.0) && not (is_gone h found w.1)) (filter_map admitted_stream found)

-- how many streams wait in the session's window
abbrev pub streams_in_window : History → List Finding → ℕ → ℕ
streams_in_window h found s = length (filter (λ (w : ℕ × ℕ). shares_window h found s w.1) (waiting_streams h found))

-- an admitted datagram: the session that it names, and its payload
abbrev pub admitted_datagram : Finding → Option (ℕ × List ℕ)
admitted_datagram (DatagramRead index session payload true) = Some (session, payload)
admitted_datagram _ = None

-- the pair receives a datagram of this session
abbrev pub receives : History → ℕ → Turn → Reply → Bool
receives h s (turns.Call (calls.ReceiveDatagram name)) (replies.Datagram payload) = is_number s (named h name)
receives h s _ _ = false

-- how many datagrams of the session were received
abbrev pub received_count : History → ℕ → ℕ
received_count [] s = 0
received_count (p ∷ h) s = if receives h s p.turn p.answer.reply then suc (received_count h s) else received_count h s

-- the datagrams of the session that wait: the admitted ones, in order of arrival, after those that were received; whether
-- the session is gone, so that they are dropped, is asked where they are given
abbrev pub waiting_datagrams : History → List Finding → ℕ → List (ℕ × List ℕ)
waiting_datagrams h found s = drop (received_count h s) (filter (λ (d : ℕ × List ℕ). d.0 == s) (filter_map admitted_datagram found))

-- how many datagrams wait in the session's window; none of the early one was received
abbrev pub datagrams_in_window : History → List Finding → ℕ → ℕ
datagrams_in_window h found s =
    if is_established h s then length (waiting_datagrams h found s)
    else length (filter (λ (d : ℕ × List ℕ). shares_window h found s d.0) (filter_map admitted_datagram found))

-- ---- requests

-- a queued request: its stream and its fields
abbrev pub queued_request : Finding → Option (ℕ × Fields)
queued_request (Classified id (verdicts.Request headers offset) true) = Some (id, headers)
queued_request _ = None

-- how many requests are held: neither surplus nor gone
abbrev pub held_requests : History → List Finding → ℕ
held_requests h found = length (filter (λ (q : ℕ × Fields). not (is_gone h found q.0)) (filter_map queued_request found))
