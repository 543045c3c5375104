-- The rows of the handshakes: a server's requests and responses, a client's connect.
use Rattle.std.specs.Prelude.{[], ◌&&◌, ◌++◌, ◌==◌, ◌∷◌, ◌||◌, Bool, Err, List, None, Ok, Option, Result, Some, codes, drop, false, filter_map, if◌then◌else◌, is_some, length, not, take, true, unwrap_or, ℕ}
use Rattle.std.specs.List.{list_any}
use Rattle.url.specs.Parser.{parse_url}
use Rattle.wt_message.specs.FixedBytes.{headers_frame_bytes, response_bytes}
use Rattle.wt_message.specs.Responses.{status_of}
use Rattle.wt_proto.specs.ResponseWalk.{response_walk_of}
use Rattle.wt_proto.specs.declared.response_walk.ResponseWalk.{ResponseWalk}
use Rattle.wt_turn.specs.Joined.{send_of}
use Rattle.wt_turn.specs.Reports.{end_of, is_acknowledged, is_connected, loss_of, stop_of}
use Rattle.wt_turn.specs.Streams.{local_count}
use Rattle.wt_turn.specs.ProtoError.{error_of_loss}
use Rattle.wt_turn.specs.declared.action.Action.{Action}
use Rattle.wt_turn.specs.declared.call.Call.{Call}
use Rattle.wt_turn.specs.declared.connecting_error.ConnectingError.{ConnectingError}
use Rattle.wt_turn.specs.declared.connection_error.ConnectionError.{ConnectionError}
use Rattle.wt_turn.specs.declared.loss.LossReason.{LossReason}
use Rattle.wt_turn.specs.declared.reply.Reply.{Reply}
use Rattle.wt_turn.specs.declared.turn.Turn.{Turn}
use Rattle.wt_wire.specs.Codes.{code_of}
use Rattle.wt_wire.specs.HeaderList.{Fields, with_field}
use Rattle.wt_wire.specs.Status.{is_successful}
use Rattle.wt_wire.specs.declared.error.ErrorCode.{ErrorCode}
use Rattle.wt_wire.specs.declared.side.Side.{Side}
use Rattle.wt_meaning.specs.Findings.{fault_of, first_of, settings_came}
use Rattle.wt_meaning.specs.History.{History, Pair, actions_out, contents, credit_left, events, is_open, may_open, out, was_finished}
use Rattle.wt_meaning.specs.Lawful.{begins}
use Rattle.wt_meaning.specs.Moments.{findings}
use Rattle.wt_meaning.specs.Rows.{Row, row, row_for}
use Rattle.wt_meaning.specs.Sends.{action_if, close_if_open, session_gone_actions}
use Rattle.wt_meaning.specs.Targets.{Target, target_of}
use Rattle.wt_meaning.specs.Windows.{establishes, last_request, lives, queued_request, requests}
use Rattle.wt_proto.specs.declared.response_walk.ResponseWalk.TheVariants as responses
use Rattle.wt_turn.specs.declared.action.Action.TheVariants as actions
use Rattle.wt_turn.specs.declared.call.Call.TheVariants as calls
use Rattle.wt_turn.specs.declared.connecting_error.ConnectingError.TheVariants as connects
use Rattle.wt_turn.specs.declared.connection_error.ConnectionError.TheVariants as errors
use Rattle.wt_turn.specs.declared.reply.Reply.TheVariants as replies
use Rattle.wt_turn.specs.declared.turn.Turn.TheVariants as turns
use Rattle.wt_wire.specs.declared.error.ErrorCode.TheVariants as h3

-- ---- how a connection ended

-- a loss by its reason, else a local close
abbrev pub loss_error : Option LossReason → ConnectionError
loss_error None = errors.LocallyClosed
loss_error (Some reason) = error_of_loss reason

-- how the connection ended, as its transport says
abbrev pub transport_error : History → ConnectionError
transport_error h = loss_error (loss_of (events h))

-- a fault by its code
abbrev pub fault_error : History → Option ErrorCode → ConnectionError
fault_error h None = transport_error h
fault_error h (Some code) = errors.LocalH3Error code

-- how it ended, with the code of a fault
abbrev pub driver_error : Side → History → ConnectionError
driver_error side h = fault_error h (fault_of (findings side h))

-- ---- what of a stream's head is out; the head is what this layer sends first: a request, a response or a header

-- the rest of the head
abbrev pub head_left : History → ℕ → List ℕ → List ℕ
head_left h k head = drop (length (out h k)) head

-- there are no bytes
abbrev pub is_nothing : List ℕ → Bool
is_nothing [] = true
is_nothing (b ∷ bytes) = false

-- these bytes go out as far as credit goes
abbrev pub send : History → ℕ → List ℕ → List Action
send h k bytes = send_of k (take (credit_left h k) bytes)

-- a rest of these bytes lacks credit
abbrev pub lacks_credit : History → ℕ → List ℕ → Bool
lacks_credit h k bytes = not (is_nothing (drop (credit_left h k) bytes))

-- the peer stopped the stream before all of its head was out
abbrev pub is_refused : History → ℕ → List ℕ → Bool
is_refused h k left = is_some (stop_of (events h) k) && not (is_nothing left)

-- ---- a server's requests

-- the request was given
abbrev pub was_given : History → ℕ → Bool
was_given h k = list_any (λ (id : ℕ). id == k) (filter_map requests h)

-- the first queued request that wasn't given, once the peer's SETTINGS came (draft-ietf-webtrans-http3, section 3.1)
abbrev pub next_request : Side → History → Option (ℕ × Fields)
next_request side h =
    if settings_came (findings side h)
    then first_of (λ (q : ℕ × Fields). if was_given h q.0 then None else Some q) (filter_map queued_request (findings side h))
    else None

-- Incoming
abbrev pub incoming_rows : Side → History → List Row
incoming_rows side h =
    row_for (next_request side h) (λ (q : ℕ × Fields). replies.Request q.0 q.1) []
    ∷ row (not (is_open h)) (replies.Failed (driver_error side h)) []
    ∷ []

-- ---- a server's responses

-- no session lives
abbrev pub none_lives : Side → History → Bool
none_lives side h = not (list_any (λ (s : ℕ). lives h (findings side h) s) (filter_map establishes h))

-- an acceptance of the request of stream s, of whose response this is left
abbrev pub acceptance_rows : History → ℕ → List ℕ → List Row
acceptance_rows h s left =
    row (not (is_open h)) (replies.Failed (transport_error h)) []
    ∷ row (is_refused h s left) (replies.Failed (errors.LocalH3Error h3.ClosedCriticalStream)) (close_if_open h 0x104)
    ∷ row (lacks_credit h s left) replies.Pending (send h s left)
    ∷ row true (replies.Session s) (send h s left)
    ∷ []

-- a rejection: its response, then its stream's finish, then its end once that is acknowledged or stopped; the connection
-- is closed where no session lives (this repository's rule)
abbrev pub rejection_rows : Side → History → ℕ → List ℕ → List Row
rejection_rows side h s left =
    row (not (is_open h)) replies.Rejected []
    ∷ row (is_refused h s left) replies.Rejected (session_gone_actions side h (findings side h) s ++ close_if_open h 0x104)
    ∷ row (lacks_credit h s left) replies.Pending (send h s left)
    ∷ row (not (was_finished h s)) replies.Pending (send h s left ++ actions.Finish s ∷ [])
    ∷ row (is_some (stop_of (events h) s) || is_acknowledged (events h) s) replies.Rejected
    (session_gone_actions side h (findings side h) s ++ (if none_lives side h then close_if_open h 0 else []))
    ∷ []

-- a response with this status code to the request that was given last
abbrev pub rejection : Side → History → List ℕ → List Row
rejection side h digits =
    rejection_rows side h (unwrap_or (last_request h) 0) (head_left h (unwrap_or (last_request h) 0) (response_bytes digits))

-- the frame of status 200 with these headers, of which a :status is left out
abbrev pub acceptance_frame : Fields → List ℕ
acceptance_frame headers = headers_frame_bytes (with_field (codes ":status") (codes "200") headers)

-- ---- a client's connect

-- it begins: it is refused, or it dials
abbrev pub begin_rows : Result Target ConnectingError → List Row
begin_rows (Err e) = row true (replies.ConnectFailed e) [] ∷ []
begin_rows (Ok t) = row true replies.Pending (actions.Dial t.address t.name ∷ []) ∷ []

-- the response's fault
abbrev pub response_fault : ResponseWalk → Option ErrorCode
response_fault (responses.Fault code) = Some code
response_fault _ = None

-- the stream ended before a response
abbrev pub response_ended : ResponseWalk → Bool
response_ended responses.Ended = true
response_ended _ = false

-- no response came yet
abbrev pub response_incomplete : ResponseWalk → Bool
response_incomplete responses.Waiting = true
response_incomplete _ = false

-- a status from 200 to 299 (draft-ietf-webtrans-http3, section 3.2)
abbrev pub is_success : ResponseWalk → Bool
is_success (responses.Response fields offset) = elim (status_of fields) [ Some code ↦ is_successful code | None ↦ false ]
is_success _ = false

-- the connect fails as the transport says; where the connection is open, and the response's stream ended, as if it was closed here
abbrev pub connect_lost : History → Reply
connect_lost h = replies.ConnectFailed (connects.ConnectionError (transport_error h))

-- the connect fails as the connection ended
abbrev pub connect_ended : Side → History → Reply
connect_ended side h = replies.ConnectFailed (connects.ConnectionError (driver_error side h))

-- the connect fails by a fault of its response
abbrev pub connect_fault : ErrorCode → Reply
connect_fault code = replies.ConnectFailed (connects.ConnectionError (errors.LocalH3Error code))

-- such a fault closes with its own code
abbrev pub close_by : History → Option ErrorCode → List Action
close_by h None = []
close_by h (Some code) = close_if_open h (code_of code)

-- its response, with what this poll sends; a response that came before the end is read after it too (this repository's rule)
abbrev pub response_rows : Side → History → List Action → ResponseWalk → List Row
response_rows side h own walk =
    row_for (response_fault walk) connect_fault (own ++ close_by h (response_fault walk))
    ∷ row (response_ended walk) (connect_lost h) (own ++ close_if_open h 0)
    ∷ row (response_incomplete walk && not (is_open h)) (connect_lost h) own
    ∷ row (response_incomplete walk) replies.Pending own
    ∷ row (not (is_success walk)) (replies.ConnectFailed connects.SessionRejected) (own ++ close_if_open h 0)
    ∷ row (not (is_open h)) (connect_ended side h) own
    ∷ row true (replies.Session 0) own
    ∷ []

-- its request on stream 0, of which this is left
abbrev pub request_rows : Side → History → List Action → List ℕ → List Row
request_rows side h opening left =
    row (not (is_nothing left) && not (is_open h)) (connect_lost h) []
    ∷ row (is_refused h 0 left) (replies.ConnectFailed connects.SessionRejected) (close_if_open h 0)
    ∷ row (lacks_credit h 0 left) replies.Pending (opening ++ send h 0 left)
    ∷ response_rows side h (opening ++ send h 0 left) (response_walk_of (contents h 0) (end_of (events h) 0))

-- stream 0 was opened
abbrev pub is_opened : History → Bool
is_opened h = not (local_count (actions_out h) 0 == 0)

-- it goes on after its dial: the connection, the peer's SETTINGS, its headers, its stream
abbrev pub connect_rows : Side → History → Target → List Row
connect_rows side h t =
    row (not (is_connected (events h)) && not (is_open h)) (connect_lost h) []
    ∷ row (not (is_connected (events h))) replies.Pending []
    ∷ row (not (settings_came (findings side h)) && not (is_open h)) (connect_ended side h) []
    ∷ row (not (settings_came (findings side h))) replies.Pending []
    ∷ row_for t.reserved (λ (name : List ℕ). replies.ConnectFailed (connects.ReservedHeader name)) (close_if_open h 0)
    ∷ row (not (is_opened h) && not (is_open h)) (connect_lost h) []
    ∷ row (not (is_opened h) && not (may_open side h 0)) replies.Pending []
    ∷ request_rows side h (action_if (not (is_opened h)) (actions.Opened 0)) (head_left h 0 t.frame)

-- it goes on where it dialled
abbrev pub connect_on : Side → History → Result Target ConnectingError → List Row
connect_on side h (Err e) = []
connect_on side h (Ok t) = connect_rows side h t

-- ---- the handshake that goes on

-- the call of the turn, where it begins a connect or a response
abbrev pub begun_by : Turn → Option Call
begun_by (turns.Call c) = if begins c then Some c else None
begun_by _ = None

-- the connect or response that was begun last
abbrev pub last_begun : History → Option Call
last_begun h = first_of (λ (p : Pair). begun_by p.turn) h

-- a response's rows, as it begins and at each poll
abbrev pub response_to : Side → History → Call → List Row
response_to side h (calls.Accept headers) = acceptance_rows h (unwrap_or (last_request h) 0) (head_left h (unwrap_or (last_request h) 0) (acceptance_frame headers))
response_to side h calls.Forbidden = rejection side h (codes "403")
response_to side h calls.NotFound = rejection side h (codes "404")
response_to side h calls.TooManyRequests = rejection side h (codes "429")
response_to side h _ = []

-- Handshake: the connect or response that was begun last goes on
abbrev pub poll_rows : Side → History → Option Call → List Row
poll_rows side h None = []
poll_rows side h (Some (calls.Connect options lookup outcome)) = connect_on side h (target_of (parse_url None options.0) options.1 lookup outcome)
poll_rows side h (Some c) = response_to side h c
