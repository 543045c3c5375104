-- The rows of the calls on a session, and the table of every call's rows.
use Rattle.std.specs.Prelude.{[], ◌%◌, ◌&&◌, ◌++◌, ◌-◌, ◌/◌, ◌==◌, ◌∷◌, Bool, List, None, Option, Some, false, if◌then◌else◌, length, nat_lt, not, true, ℕ}
use Rattle.std.specs.List.{list_any}
use Rattle.url.specs.Parser.{parse_url}
use Rattle.wt_message.specs.Datagram.{datagram_bytes}
use Rattle.wt_turn.specs.Reports.{datagram_fact}
use Rattle.wt_turn.specs.Streams.{local_bi, local_uni, peer_bi, peer_uni}
use Rattle.wt_turn.specs.declared.call.Call.{Call}
use Rattle.wt_turn.specs.declared.connection_error.ConnectionError.{ConnectionError}
use Rattle.wt_turn.specs.declared.datagram_fact.DatagramFact.{DatagramFact}
use Rattle.wt_turn.specs.declared.reply.Reply.{Reply}
use Rattle.wt_turn.specs.declared.stream_error.SendDatagramError.{SendDatagramError}
use Rattle.wt_turn.specs.declared.turn.Turn.{Turn}
use Rattle.wt_wire.specs.Ids.{is_bidirectional}
use Rattle.wt_wire.specs.Varint.{varint_bytes}
use Rattle.wt_wire.specs.declared.side.Side.{Side}
use Rattle.wt_meaning.specs.Findings.{Finding, SessionClosed, first_of}
use Rattle.wt_meaning.specs.Halves.{finish, has_receiving, has_sending, priority, read, read_exact, reset, stopped, unread, where_has, write, write_all}
use Rattle.wt_meaning.specs.Handshakes.{begin_rows, driver_error, head_left, incoming_rows, is_refused, lacks_credit, last_begun, poll_rows, response_to, send, transport_error}
use Rattle.wt_meaning.specs.History.{History, Pair, events, is_open, may_open, next_id}
use Rattle.wt_meaning.specs.Moments.{findings}
use Rattle.wt_meaning.specs.Rows.{Row, row, row_for}
use Rattle.wt_meaning.specs.Sends.{action_if, session_finish, session_gone_actions}
use Rattle.wt_meaning.specs.Targets.{target_of}
use Rattle.wt_meaning.specs.Windows.{is_gone, lives, named, waiting_datagrams, waiting_streams}
use Rattle.wt_turn.specs.declared.action.Action.TheVariants as actions
use Rattle.wt_turn.specs.declared.call.Call.TheVariants as calls
use Rattle.wt_turn.specs.declared.connection_error.ConnectionError.TheVariants as errors
use Rattle.wt_turn.specs.declared.datagram_fact.DatagramFact.TheVariants as facts
use Rattle.wt_turn.specs.declared.reply.Reply.TheVariants as replies
use Rattle.wt_turn.specs.declared.stream_error.SendDatagramError.TheVariants as datagrams
use Rattle.wt_turn.specs.declared.stream_error.StreamOpeningError.TheVariants as openings
use Rattle.wt_turn.specs.declared.turn.Turn.TheVariants as turns

-- ---- sessions

-- rows of the session that a call names, where it was established
abbrev pub in_session : Option ℕ → (ℕ → List Row) → List Row
in_session None rows = row true replies.NoSession [] ∷ []
in_session (Some s) rows = rows s

-- the session lives
abbrev pub is_living : Side → History → ℕ → Bool
is_living side h s = lives h (findings side h) s

-- how the peer closed the session
abbrev pub closed_by : ℕ → Finding → Option ConnectionError
closed_by s (SessionClosed session code reason by_capsule) =
    if session == s then Some (errors.ApplicationClosed (record { code = code; reason = reason })) else None
closed_by s _ = None

-- a session that is gone, and wasn't closed by the peer, was closed here; that of every other one is how the connection ended
abbrev pub session_error_with : Side → History → ℕ → Option ConnectionError → ConnectionError
session_error_with side h s (Some e) = e
session_error_with side h s None = if is_gone h (findings side h) s then errors.LocallyClosed else driver_error side h

-- how a session ended
abbrev pub session_error : Side → History → ℕ → ConnectionError
session_error side h s = session_error_with side h s (first_of (closed_by s) (findings side h))

-- ---- accepts and receives

-- with nothing left to give, the call fails where the session is gone or the connection isn't open
abbrev pub ended_row : Side → History → ℕ → Row
ended_row side h s = row (not (is_living side h s && is_open h)) (replies.Failed (session_error side h s)) []

-- the first stream of the kind that waits for the session
abbrev pub first_waiting : Side → History → ℕ → ℕ → Option ℕ
first_waiting side h kind s =
    first_of (λ (w : ℕ × ℕ). if w.0 % 4 == kind && w.1 == s then Some w.0 else None) (waiting_streams h (findings side h))

-- AcceptUni, AcceptBi
abbrev pub accept : Side → History → ℕ → (ℕ → Reply) → ℕ → List Row
accept side h kind given s = row_for (first_waiting side h kind s) given [] ∷ ended_row side h s ∷ []

-- the payload of the first datagram that waits for the session; what waits for a gone one is dropped
abbrev pub first_datagram : Side → History → ℕ → Option (List ℕ)
first_datagram side h s =
    if is_gone h (findings side h) s then None else first_of (λ (d : ℕ × List ℕ). Some d.1) (waiting_datagrams h (findings side h) s)

-- ReceiveDatagram
abbrev pub receive : Side → History → ℕ → List Row
receive side h s = row_for (first_datagram side h s) (λ (payload : List ℕ). replies.Datagram payload) [] ∷ ended_row side h s ∷ []

-- ---- opens

-- OpenUni, OpenBi
abbrev pub open_stream : Side → History → ℕ → ℕ → List Row
open_stream side h kind s =
    row (is_gone h (findings side h) s) (replies.Failed (session_error side h s)) []
    ∷ row (not (is_open h)) (replies.Failed (transport_error h)) []
    ∷ row (may_open side h kind) (replies.Opening (next_id side h kind)) (actions.Opened (next_id side h kind) ∷ [])
    ∷ []

-- the name in the call, where the pair begins to open the stream
abbrev pub opened_by : ℕ → Turn → Reply → Option (Option ℕ)
opened_by k (turns.Call (calls.OpenUni name)) (replies.Opening id) = if id == k then Some name else None
opened_by k (turns.Call (calls.OpenBi name)) (replies.Opening id) = if id == k then Some name else None
opened_by k _ _ = None

-- the pair ends the opening of the stream
abbrev pub opening_ends : ℕ → Turn → Reply → Bool
opening_ends k (turns.Call (calls.PollOpening id)) replies.Pending = false
opening_ends k (turns.Call (calls.PollOpening id)) (replies.NoStream) = false
opening_ends k (turns.Call (calls.PollOpening id)) (replies.NoSession) = false
opening_ends k (turns.Call (calls.PollOpening id)) reply = id == k
opening_ends k _ _ = false

-- the name in the call that began to open the stream, where its opening hasn't ended
abbrev pub being_opened : History → ℕ → Option (Option ℕ)
being_opened h k =
    if list_any (λ (p : Pair). opening_ends k p.turn p.answer.reply) h then None else first_of (λ (p : Pair). opened_by k p.turn p.answer.reply) h

-- the header of a session's stream: 40 54 or 40 41, and the session's id (draft-ietf-webtrans-http3, sections 4.2 and 4.3)
abbrev pub stream_header : ℕ → ℕ → List ℕ
stream_header k s = 0x40 ∷ (if is_bidirectional k then 0x41 else 0x54) ∷ varint_bytes s

-- PollOpening: the header goes out as credit lets it
abbrev pub opening_rows : Side → History → ℕ → ℕ → List ℕ → List Row
opening_rows side h k s left =
    row (not (is_open h && is_living side h s)) (replies.OpeningFailed openings.NotConnected) []
    ∷ row (is_refused h k left) (replies.OpeningFailed openings.Refused) []
    ∷ row (lacks_credit h k left) replies.Pending (send h k left)
    ∷ row true (if is_bidirectional k then replies.BiReady k else replies.SendReady k) (send h k left)
    ∷ []

-- the same, of the session for which the stream is opened
abbrev pub opening_for : Side → History → ℕ → Option (Option ℕ) → List Row
opening_for side h k None = row true replies.NoStream [] ∷ []
opening_for side h k (Some name) = in_session (named h name) (λ (s : ℕ). opening_rows side h k s (head_left h k (stream_header k s)))

-- ---- datagrams

-- why a datagram of n bytes isn't sent (RFC 9221, section 3); where a session is established, a fact was reported
abbrev pub refused_by : ℕ → Option DatagramFact → Option SendDatagramError
refused_by n None = Some datagrams.NotConnected
refused_by n (Some facts.Disabled) = Some datagrams.Disabled
refused_by n (Some facts.Unsupported) = Some datagrams.UnsupportedByPeer
refused_by n (Some (facts.Limit limit)) = if nat_lt limit n then Some datagrams.TooLarge else None

-- SendDatagram: a quarter of the session's id, and the payload (RFC 9297, section 2.1)
abbrev pub send_datagram : Side → History → List ℕ → ℕ → List Row
send_datagram side h payload s =
    row (not (is_open h && is_living side h s)) (replies.DatagramFailed datagrams.NotConnected) []
    ∷ row_for (refused_by (length (datagram_bytes (s / 4) payload)) (datagram_fact (events h))) (λ e. replies.DatagramFailed e) []
    ∷ row true replies.Done (actions.DatagramOut (datagram_bytes (s / 4) payload) ∷ [])
    ∷ []

-- the greatest payload after a header of n bytes; none without a limit, or where it is below the header
abbrev pub payload_limit : ℕ → Option DatagramFact → Option ℕ
payload_limit n (Some (facts.Limit limit)) = if nat_lt limit n then None else Some (limit - n)
payload_limit n _ = None

-- ---- the table of every call

-- the rows of a call, in order
abbrev pub rows_of : Side → History → Call → List Row
rows_of side h (calls.Connect options lookup outcome) = begin_rows (target_of (parse_url None options.0) options.1 lookup outcome)
rows_of side h calls.Incoming = incoming_rows side h
rows_of side h calls.Handshake = poll_rows side h (last_begun h)
rows_of side h (calls.EndpointClose code reason) = row true replies.Done (action_if (is_open h) (actions.Close code reason)) ∷ []
rows_of side h (calls.AcceptUni name) = in_session (named h name) (accept side h (peer_uni side) replies.Uni)
rows_of side h (calls.AcceptBi name) = in_session (named h name) (accept side h (peer_bi side) replies.Bi)
rows_of side h (calls.ReceiveDatagram name) = in_session (named h name) (receive side h)
rows_of side h (calls.OpenUni name) = in_session (named h name) (open_stream side h (local_uni side))
rows_of side h (calls.OpenBi name) = in_session (named h name) (open_stream side h (local_bi side))
rows_of side h (calls.PollOpening id) = in_session (named h None) (λ (s : ℕ). opening_for side h id (being_opened h id))
rows_of side h (calls.SendDatagram payload name) = in_session (named h name) (send_datagram side h payload)
rows_of side h (calls.MaxDatagramSize name) = in_session (named h name)
    (λ (s : ℕ). row true (replies.Size (payload_limit (length (varint_bytes (s / 4))) (datagram_fact (events h)))) [] ∷ [])
rows_of side h (calls.SessionId name) = in_session (named h name) (λ (s : ℕ). row true (replies.Id s) [] ∷ [])
rows_of side h (calls.EndSession name) = in_session (named h name)
    (λ (s : ℕ). row true replies.Done (if is_open h && is_living side h s then session_finish h s ++ session_gone_actions side h (findings side h) s else []) ∷ [])
rows_of side h (calls.Close code reason) = in_session (named h None) (λ (s : ℕ). row true replies.Done (action_if (is_open h) (actions.Close code reason)) ∷ [])
rows_of side h calls.Closed = in_session (named h None) (λ (s : ℕ). row (not (is_open h)) (replies.Closed (transport_error h)) [] ∷ [])
rows_of side h (calls.Write id bytes) = where_has (has_sending side h id) (write h id bytes)
rows_of side h (calls.WriteAll id bytes) = where_has (has_sending side h id) (write_all h id bytes)
rows_of side h (calls.Finish id) = where_has (has_sending side h id) (finish h id)
rows_of side h (calls.Stopped id) = where_has (has_sending side h id) (stopped h id)
rows_of side h (calls.Priority id) = where_has (has_sending side h id) (priority h id)
rows_of side h (calls.SetPriority id p) = where_has (has_sending side h id) (row true replies.Done [] ∷ [])
rows_of side h (calls.ResetSend id code) = where_has (has_sending side h id) (reset h id code)
rows_of side h (calls.Read id size) = where_has (has_receiving side h id) (read h id size (unread side h id))
rows_of side h (calls.ReadExact id size) = where_has (has_receiving side h id) (read_exact h id size (unread side h id))
rows_of side h (calls.StopRecv id code) = where_has (has_receiving side h id) (row true replies.Done (action_if (is_open h) (actions.StopOut id code)) ∷ [])
rows_of side h c = response_to side h c
