-- The record that a call leaves in the log, by its reply and the history before it.
use Rattle.std.specs.Prelude.{◌∷◌, Err, List, None, Ok, Option, Result, Some, codes, drop, false, filter, filter_map, if◌then◌else◌, length, true, unwrap_or, ℕ}
use Rattle.url.specs.Parser.{parse_url}
use Rattle.wt_meaning.specs.Calls.{being_opened}
use Rattle.wt_meaning.specs.Findings.{first_of}
use Rattle.wt_meaning.specs.Halves.{is_done}
use Rattle.wt_meaning.specs.Handshakes.{acceptance_frame}
use Rattle.wt_meaning.specs.History.{History, is_open}
use Rattle.wt_meaning.specs.Moments.{findings}
use Rattle.wt_meaning.specs.Targets.{Target, target_of}
use Rattle.wt_meaning.specs.Windows.{last_request, named, received_count}
use Rattle.wt_message.specs.FixedBytes.{response_bytes}
use Rattle.wt_sessions.specs.Effect.{Effect, log_call, reply_with}
use Rattle.wt_sessions.specs.StreamTable.{Admitted}
use Rattle.wt_sessions_agree.specs.Agrees.{admitted_in}
use Rattle.wt_sessions_agree.specs.Orderly.{begins_at, is_of}
use Rattle.wt_turn.specs.Log.{AcceptanceFailed, BytesRead, CallRecord, ConnectStarted, DatagramReceived, HandshakeOver, Log, OpeningFailed, OpeningStarted, Polled, PrioritySet, RequestDelivered, RequestRejected, ResetUnsent, ResponseStarted, SessionEstablished, StreamAccepted, StreamGivenUp}
use Rattle.wt_turn.specs.declared.answer.Answer.{Answer}
use Rattle.wt_turn.specs.declared.call.Call.{Call}
use Rattle.wt_turn.specs.declared.connecting_error.ConnectingError.{ConnectingError}
use Rattle.wt_turn.specs.declared.reply.Reply.{Reply}
use Rattle.wt_wire.specs.declared.side.Side.{Side}
use Rattle.wt_turn.specs.declared.call.Call.TheVariants as calls
use Rattle.wt_turn.specs.declared.reply.Reply.TheVariants as replies
use Rattle.wt_turn.specs.declared.stream_error.StreamReadExactError.TheVariants as exacts

-- ---- what a call is about

-- the name of a session in a call that gives or opens streams, receives datagrams or ends the session
abbrev pub name_in : Call → Option ℕ
name_in (calls.AcceptUni name) = name
name_in (calls.AcceptBi name) = name
name_in (calls.ReceiveDatagram name) = name
name_in (calls.OpenUni name) = name
name_in (calls.OpenBi name) = name
name_in (calls.EndSession name) = name
name_in _ = None

-- the established session that the call means; 0 where there is none
abbrev pub call_session : History → Call → ℕ
call_session h c = unwrap_or (named h (name_in c)) 0

-- the stream of a poll of an opening or of a read; 0 for every other call
abbrev pub stream_in : Call → ℕ
stream_in (calls.PollOpening id) = id
stream_in (calls.Read id size) = id
stream_in (calls.ReadExact id size) = id
stream_in _ = 0

-- the session for which the stream is being opened; 0 where it isn't
abbrev pub opened_session : History → ℕ → ℕ
opened_session h k = elim (being_opened h k) [ Some name ↦ unwrap_or (named h name) 0 | None ↦ 0 ]

-- the admitted datagrams of a session that weren't received
abbrev pub left_datagrams : Side → History → ℕ → List Admitted
left_datagrams side h s = drop (received_count h s) (filter (is_of s) (filter_map admitted_in (findings side h)))

-- the index of the next datagram of the session
abbrev pub next_index : Side → History → ℕ → ℕ
next_index side h s = unwrap_or (first_of (λ (d : Admitted). Some d.index) (left_datagrams side h s)) 0

-- ---- the record

-- the record of a call that answered Failed
abbrev pub failure_record : Call → CallRecord
failure_record calls.Incoming = HandshakeOver
failure_record (calls.Accept headers) = AcceptanceFailed
failure_record calls.Handshake = AcceptanceFailed
failure_record _ = Polled

-- the record of a call that answered Done
abbrev pub done_record : Side → History → Call → CallRecord
done_record side h (calls.ResetSend id code) = if is_open h then Polled else ResetUnsent id code
done_record side h (calls.SetPriority id priority) = if is_done h id then Polled else PrioritySet id priority
done_record side h (calls.StopRecv id code) = StreamGivenUp id
done_record side h (calls.EndSession name) = if is_open h then RequestRejected (unwrap_or (named h name) 0) else Polled
done_record side h _ = Polled

-- the record of a connect that dialled
abbrev pub connect_record : Result Target ConnectingError → CallRecord
connect_record (Err e) = Polled
connect_record (Ok t) = ConnectStarted t.reserved t.frame

-- the record of a call that answered Pending
abbrev pub pending_record : Call → CallRecord
pending_record (calls.Connect options lookup outcome) = connect_record (target_of (parse_url None options.0) options.1 lookup outcome)
pending_record (calls.Accept headers) = ResponseStarted true (acceptance_frame headers)
pending_record calls.Forbidden = ResponseStarted false (response_bytes (codes "403"))
pending_record calls.NotFound = ResponseStarted false (response_bytes (codes "404"))
pending_record calls.TooManyRequests = ResponseStarted false (response_bytes (codes "429"))
pending_record _ = Polled

-- the record of any call, by its reply
abbrev pub record_of : Side → History → Call → Reply → CallRecord
record_of side h c (replies.Uni id) = StreamAccepted id (call_session h c)
record_of side h c (replies.Bi id) = StreamAccepted id (call_session h c)
record_of side h c (replies.SendReady id) = StreamAccepted id (opened_session h id)
record_of side h c (replies.BiReady id) = StreamAccepted id (opened_session h id)
record_of side h c (replies.Opening id) = OpeningStarted id (call_session h c)
record_of side h c (replies.OpeningFailed e) = OpeningFailed (stream_in c)
record_of side h c (replies.Datagram payload) = DatagramReceived (next_index side h (call_session h c))
record_of side h c (replies.Request id headers) = RequestDelivered id
record_of side h c (replies.Session id) = SessionEstablished id (begins_at h (findings side h) id)
record_of side h c replies.Rejected = RequestRejected (unwrap_or (last_request h) 0)
record_of side h c (replies.ConnectFailed e) = HandshakeOver
record_of side h c (replies.Failed e) = failure_record c
record_of side h c (replies.Read (Some (b ∷ bytes))) = BytesRead (stream_in c) (length (b ∷ bytes))
record_of side h c (replies.Exact piece) = BytesRead (stream_in c) (length piece)
record_of side h c (replies.ExactFailed (exacts.FinishedEarly count) piece) = BytesRead (stream_in c) (length piece)
record_of side h c replies.Done = done_record side h c
record_of side h c replies.Pending = pending_record c
record_of side h c _ = Polled

-- ---- the effect

-- what a call with this own answer leads to: its own actions, its record, and what the driver sends then
abbrev pub effect_of : Side → History → Log → Call → Answer → Effect
effect_of side h log c a = reply_with (log_call side log a.actions (record_of side h c a.reply)) a.reply
