-- What a call can still give, as a table of its own: a call is answered Pending exactly where nothing is left to give and
-- the connection is open.
use Rattle.std.specs.Prelude.{[], ◌%◌, ◌&&◌, ◌==◌, ◌∷◌, ◌||◌, Bool, Err, List, None, Ok, Option, Result, Some, codes, false, filter_map, is_none, is_some, length, nat_le, not, true, unwrap_or, ℕ}
use Rattle.std.specs.List.{list_any}
use Rattle.url.specs.Parser.{parse_url}
use Rattle.wt_message.specs.FixedBytes.{response_bytes}
use Rattle.wt_proto.specs.ResponseWalk.{response_walk_of}
use Rattle.wt_turn.specs.Reports.{end_of, is_acknowledged, is_connected, is_running, stop_of}
use Rattle.wt_turn.specs.Streams.{local_bi, local_uni, peer_bi, peer_uni}
use Rattle.wt_turn.specs.declared.call.Call.{Call}
use Rattle.wt_turn.specs.declared.connecting_error.ConnectingError.{ConnectingError}
use Rattle.wt_wire.specs.HeaderList.{Fields}
use Rattle.wt_wire.specs.declared.side.Side.{Side}
use Rattle.wt_meaning.specs.Calls.{being_opened, is_living, stream_header}
use Rattle.wt_meaning.specs.Findings.{settings_came}
use Rattle.wt_meaning.specs.Halves.{has_receiving, has_sending, is_closed, is_done, unread}
use Rattle.wt_meaning.specs.Handshakes.{acceptance_frame, head_left, is_nothing, is_opened, is_refused, lacks_credit, last_begun, response_incomplete, was_given}
use Rattle.wt_meaning.specs.History.{History, contents, credit_left, events, may_open, was_finished}
use Rattle.wt_meaning.specs.Moments.{findings}
use Rattle.wt_meaning.specs.Targets.{Target, target_of}
use Rattle.wt_meaning.specs.Windows.{is_gone, last_request, named, queued_request, waiting_datagrams, waiting_streams}
use Rattle.wt_turn.specs.declared.call.Call.TheVariants as calls

-- ---- sessions

-- the test holds of the session that a call names
abbrev pub on_named : Option ℕ → (ℕ → Bool) → Bool
on_named None test = false
on_named (Some s) test = test s

-- a stream of the kind waits for the session
abbrev pub stream_waits : Side → History → ℕ → ℕ → Bool
stream_waits side h kind s = list_any (λ (w : ℕ × ℕ). w.0 % 4 == kind && w.1 == s) (waiting_streams h (findings side h))

-- the list has nothing
abbrev pub is_empty : {T : Type 0} → List T → Bool
is_empty [] = true
is_empty (x ∷ xs) = false

-- a datagram waits for the session, which isn't gone
abbrev pub datagram_waits : Side → History → ℕ → Bool
datagram_waits side h s = not (is_gone h (findings side h) s) && not (is_empty (waiting_datagrams h (findings side h) s))

-- a queued request wasn't given yet
abbrev pub request_waits : Side → History → Bool
request_waits side h = list_any (λ (q : ℕ × Fields). not (was_given h q.0)) (filter_map queued_request (findings side h))

-- ---- handshakes

-- the rest of the stream's head lacks credit, and the peer didn't stop the stream
abbrev pub awaits_credit : History → ℕ → List ℕ → Bool
awaits_credit h k left = not (is_refused h k left) && lacks_credit h k left

-- the request lacks credit, or no response came yet
abbrev pub awaits_response : History → List ℕ → Bool
awaits_response h left =
    not (is_refused h 0 left) && (lacks_credit h 0 left || response_incomplete (response_walk_of (contents h 0) (end_of (events h) 0)))

-- a connect waits for the connection, for SETTINGS, for a stream, for credit or for the response
abbrev pub connect_waits : Side → History → Target → Bool
connect_waits side h t =
    not (is_connected (events h)) || not (settings_came (findings side h))
    || (is_none t.reserved && ((not (is_opened h) && not (may_open side h 0)) || awaits_response h (head_left h 0 t.frame)))

-- a rejection waits for credit, or for the acknowledgement of its stream
abbrev pub rejection_waits : History → ℕ → List ℕ → Bool
rejection_waits h s left =
    not (is_refused h s left)
    && (lacks_credit h s left || not (was_finished h s) || not (is_some (stop_of (events h) s) || is_acknowledged (events h) s))

-- a response to the request that was given last waits
abbrev pub response_waits : History → Call → Bool
response_waits h (calls.Accept headers) = awaits_credit h (unwrap_or (last_request h) 0) (head_left h (unwrap_or (last_request h) 0) (acceptance_frame headers))
response_waits h calls.Forbidden = rejection_waits h (unwrap_or (last_request h) 0) (head_left h (unwrap_or (last_request h) 0) (response_bytes (codes "403")))
response_waits h calls.NotFound = rejection_waits h (unwrap_or (last_request h) 0) (head_left h (unwrap_or (last_request h) 0) (response_bytes (codes "404")))
response_waits h calls.TooManyRequests = rejection_waits h (unwrap_or (last_request h) 0) (head_left h (unwrap_or (last_request h) 0) (response_bytes (codes "429")))
response_waits h c = false

-- the connect has a target of which the test holds
abbrev pub on_target : Result Target ConnectingError → (Target → Bool) → Bool
on_target (Err e) test = false
on_target (Ok t) test = test t

-- the connect or response that was begun last waits
abbrev pub handshake_waits : Side → History → Option Call → Bool
handshake_waits side h None = false
handshake_waits side h (Some (calls.Connect options lookup outcome)) =
    on_target (target_of (parse_url None options.0) options.1 lookup outcome) (connect_waits side h)
handshake_waits side h (Some c) = response_waits h c

-- ---- openings

-- the header of a stream that is being opened for a living session lacks credit
abbrev pub opening_waits : Side → History → ℕ → Option (Option ℕ) → Bool
opening_waits side h k None = false
opening_waits side h k (Some name) =
    on_named (named h name) (λ (s : ℕ). is_living side h s && awaits_credit h k (head_left h k (stream_header k s)))

-- ---- the table of every call

-- nothing is left that the call could give, so that it waits; the last clause is that of the responses, and of the calls that never wait
abbrev pub nothing_left : Side → History → Call → Bool
nothing_left side h (calls.Connect options lookup outcome) = on_target (target_of (parse_url None options.0) options.1 lookup outcome) (λ (t : Target). true)
nothing_left side h calls.Incoming = not (settings_came (findings side h)) || not (request_waits side h)
nothing_left side h calls.Handshake = handshake_waits side h (last_begun h)
nothing_left side h (calls.EndpointClose code reason) = false
nothing_left side h (calls.AcceptUni name) = on_named (named h name) (λ (s : ℕ). is_living side h s && not (stream_waits side h (peer_uni side) s))
nothing_left side h (calls.AcceptBi name) = on_named (named h name) (λ (s : ℕ). is_living side h s && not (stream_waits side h (peer_bi side) s))
nothing_left side h (calls.ReceiveDatagram name) = on_named (named h name) (λ (s : ℕ). is_living side h s && not (datagram_waits side h s))
nothing_left side h (calls.OpenUni name) = on_named (named h name) (λ (s : ℕ). is_living side h s && not (may_open side h (local_uni side)))
nothing_left side h (calls.OpenBi name) = on_named (named h name) (λ (s : ℕ). is_living side h s && not (may_open side h (local_bi side)))
nothing_left side h (calls.PollOpening id) = on_named (named h None) (λ (s : ℕ). opening_waits side h id (being_opened h id))
nothing_left side h calls.Closed = is_some (named h None)
nothing_left side h (calls.Write id bytes) =
    has_sending side h id && (not (is_closed h id) && not (is_some (stop_of (events h) id)) && not (is_nothing bytes) && credit_left h id == 0)
nothing_left side h (calls.Finish id) = has_sending side h id && (not (is_some (stop_of (events h) id)) && not (is_done h id))
nothing_left side h (calls.Stopped id) = has_sending side h id && (not (is_some (stop_of (events h) id)) && not (is_done h id))
nothing_left side h (calls.Read id size) = has_receiving side h id && (not (size == 0) && is_nothing (unread side h id) && is_running (end_of (events h) id))
nothing_left side h (calls.ReadExact id size) = has_receiving side h id && (not (nat_le size (length (unread side h id))) && is_running (end_of (events h) id))
nothing_left side h c = response_waits h c
