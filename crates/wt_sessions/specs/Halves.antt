-- The calls on the halves of a stream that was given to the application (RFC 9000, sections 2.4 and 3).
use Rattle.std.specs.Prelude.{[], ◌%◌, ◌&&◌, ◌+◌, ◌==◌, ◌||◌, ◌∷◌, Bool, List, None, Option, Some, drop, false, if◌then◌else◌, is_some, length, nat_lt, not, suc, take, true, zero, ℕ, ℤ}
use Rattle.std.specs.List.{list_any}
use Rattle.wt_meaning.specs.Halves.{body_start}
use Rattle.wt_turn.specs.Joined.{send_of}
use Rattle.wt_turn.specs.Outgoing.{bytes_within_credit, if_open}
use Rattle.wt_turn.specs.Reports.{end_of, is_acknowledged, stop_of}
use Rattle.wt_turn.specs.Sent.{is_finished, is_reset, priority_of}
use Rattle.wt_turn.specs.Streams.{contents, local_uni, peer_uni}
use Rattle.wt_turn.specs.Log.{BytesRead, CallRecord, Log, PrioritySet, ResetUnsent, StreamGivenUp, actions_of, calls_of, events_of, is_open}
use Rattle.wt_turn.specs.declared.action.Action.{Action}
use Rattle.wt_turn.specs.declared.reply.Reply.{Reply}
use Rattle.wt_turn.specs.declared.stream_error.StreamWriteError.{StreamWriteError}
use Rattle.wt_wire.specs.declared.side.Side.{Side}
use Rattle.wt_wire.specs.declared.side.StreamEnd.{StreamEnd}
use Rattle.wt_sessions.specs.Driver.{accepts_stream, gives_up, stream_table}
use Rattle.wt_sessions.specs.Effect.{Effect, log_call, poll_only, poll_sending, reply_with}
use Rattle.wt_sessions.specs.StreamTable.{verdict_of}
use Rattle.wt_turn.specs.declared.action.Action.TheVariants as actions
use Rattle.wt_wire.specs.declared.side.StreamEnd.TheVariants as ends
use Rattle.wt_turn.specs.declared.stream_error.StreamReadExactError.TheVariants as exacts
use Rattle.wt_turn.specs.declared.stream_error.StreamReadError.TheVariants as reads
use Rattle.wt_turn.specs.declared.reply.Reply.TheVariants as replies
use Rattle.wt_turn.specs.declared.stream_error.StreamWriteError.TheVariants as writes

-- ---- which halves it has

-- an accept or an opening gave the stream
abbrev pub is_accepted : Log → ℕ → Bool
is_accepted log k = list_any (accepts_stream k) (calls_of log)

-- the application has the sending half of this stream
abbrev pub has_sending_half : Side → Log → ℕ → Bool
has_sending_half side log k = is_accepted log k && not (k % 4 == peer_uni side)

-- the application has the receiving half of this stream, and didn't give it up
abbrev pub has_receiving_half : Side → Log → ℕ → Bool
has_receiving_half side log k = is_accepted log k && not (k % 4 == local_uni side) && not (list_any (gives_up k) (calls_of log))

-- a call on a half of the stream, where the application has it; else the answer is NoStream
abbrev pub on_half : Bool → Side → Log → (ℕ → Effect) → ℕ → Effect
on_half true side log call k = call k
on_half false side log call k = poll_only side log replies.NoStream

-- ---- writing

-- what hinders a write: the connection's end, this half's end, the peer's stop
abbrev pub write_error : Log → ℕ → Option StreamWriteError
write_error log k =
    if not (is_open log) then Some writes.NotConnected else
    (if is_finished (actions_of log) k || is_reset log k then Some writes.Closed else
    elim (stop_of (events_of log) k) [ Some code ↦ Some (writes.Stopped code) | None ↦ None ])

-- what a write of these bytes answers, of which n went out
abbrev pub written_reply : List ℕ → ℕ → Reply
written_reply [] n = replies.Written 0
written_reply (b ∷ bytes) zero = replies.Pending
written_reply (b ∷ bytes) (suc n) = replies.Written (suc n)

-- what a write of all these bytes answers, of which n went out
abbrev pub all_written_reply : List ℕ → ℕ → Reply
all_written_reply bytes n = if n == length bytes then replies.AllWritten else replies.Count n

-- a write that this hinders, or that sends as many of the bytes as credit is left for
abbrev pub write_by : (List ℕ → ℕ → Reply) → Side → Log → ℕ → List ℕ → Option StreamWriteError → Effect
write_by reply side log k bytes (Some e) = poll_only side log (replies.WriteFailed e)
write_by reply side log k bytes None = poll_sending side log (send_of k (bytes_within_credit log k bytes)) (reply bytes (length (bytes_within_credit log k bytes)))

-- as many of the bytes as may be sent
abbrev pub write : Side → Log → ℕ → List ℕ → Effect
write side log k bytes = write_by written_reply side log k bytes (write_error log k)

-- all of the bytes, as far as they may be sent
abbrev pub write_all : Side → Log → ℕ → List ℕ → Effect
write_all side log k bytes = write_by all_written_reply side log k bytes (write_error log k)

-- ---- the end of a sending half

-- reset here, or finished and acknowledged
abbrev pub is_done : Log → ℕ → Bool
is_done log k = is_reset log k || (is_finished (actions_of log) k && is_acknowledged (events_of log) k)

-- whether and how the half ended
abbrev pub stopped_reply : Log → ℕ → (StreamWriteError → Reply) → Reply → Option ℕ → Reply
stopped_reply log k failed closed (Some code) = failed (writes.Stopped code)
stopped_reply log k failed closed None = if is_done log k then closed else (if is_open log then replies.Pending else failed writes.NotConnected)

-- whether the peer stopped the sending half, or has all of it
abbrev pub stopped : Side → Log → ℕ → Effect
stopped side log k = poll_only side log (stopped_reply log k (λ e. replies.StoppedBy e) (replies.StoppedBy writes.Closed) (stop_of (events_of log) k))

-- a finish goes out once, on an open half that the peer didn't stop
abbrev pub finish_once : Log → ℕ → List Action
finish_once log k =
    if is_open log && not (is_finished (actions_of log) k) && not (is_reset log k) && not (is_some (stop_of (events_of log) k))
    then actions.Finish k ∷ [] else []

-- the sending half is finished, where it still may be
abbrev pub finish : Side → Log → ℕ → Effect
finish side log k =
    poll_sending side log (finish_once log k) (stopped_reply log k (λ e. replies.WriteFailed e) replies.Finished (stop_of (events_of log) k))

-- the sending half is reset, unless it is done; the reset counts also where it can't go out
abbrev pub reset : Side → Log → ℕ → ℕ → Effect
reset side log k code =
    if is_done log k then poll_only side log replies.ClosedStream else
    (if is_open log then poll_sending side log (actions.ResetOut k code ∷ []) replies.Done
    else reply_with (log_call side log [] (ResetUnsent k code)) replies.Done)

-- the priority of a sending half that isn't done
abbrev pub priority : Side → Log → ℕ → Effect
priority side log k = poll_only side log (if is_done log k then replies.ClosedStream else replies.Priority (priority_of (calls_of log) k))

-- the priority of a sending half is set, unless it is done
abbrev pub set_priority : Side → Log → ℕ → ℤ → Effect
set_priority side log k p =
    if is_done log k then poll_only side log replies.Done else reply_with (log_call side log [] (PrioritySet k p)) replies.Done

-- ---- reading

-- how many bytes of the stream the call read
abbrev pub bytes_read : ℕ → CallRecord → ℕ
bytes_read k (BytesRead id count) = if id == k then count else 0
bytes_read k _ = 0

-- how many bytes of a stream were read
abbrev pub total_read : ℕ → List CallRecord → ℕ
total_read k [] = 0
total_read k (r ∷ earlier) = bytes_read k r + total_read k earlier

-- what came for the stream and wasn't read
abbrev pub unread_body : Side → Log → ℕ → List ℕ
unread_body side log k = drop (body_start (verdict_of k (stream_table side log).classified) + total_read k (calls_of log)) (contents log k)

-- these bytes are read
abbrev pub take_bytes : Side → Log → ℕ → List ℕ → Reply → Effect
take_bytes side log k bytes reply = reply_with (log_call side log [] (BytesRead k (length bytes))) reply

-- what a read answers where nothing is unread
abbrev pub reply_at_end : Log → StreamEnd → Reply
reply_at_end log ends.Running = if is_open log then replies.Pending else replies.ReadFailed reads.NotConnected
reply_at_end log ends.Fin = replies.Read None
reply_at_end log (ends.Reset code) = replies.ReadFailed (reads.Reset code)

-- what a read of these unread bytes answers
abbrev pub read_reply : Side → Log → ℕ → ℕ → List ℕ → Effect
read_reply side log k size [] = poll_only side log (reply_at_end log (end_of (events_of log) k))
read_reply side log k size (b ∷ bytes) = take_bytes side log k (take size (b ∷ bytes)) (replies.Read (Some (take size (b ∷ bytes))))

-- at most `size` of the unread bytes
abbrev pub read : Side → Log → ℕ → ℕ → Effect
read side log k size =
    if size == 0 then poll_only side log (replies.Read (Some [])) else read_reply side log k size (unread_body side log k)

-- an exact read of too few bytes: they are taken only where the stream ended cleanly
abbrev pub exact_at_end : Side → Log → ℕ → List ℕ → StreamEnd → Effect
exact_at_end side log k bytes ends.Running =
    poll_only side log (if is_open log then replies.Pending else replies.ExactFailed (exacts.Read reads.NotConnected) [])
exact_at_end side log k bytes ends.Fin = take_bytes side log k bytes (replies.ExactFailed (exacts.FinishedEarly (length bytes)) bytes)
exact_at_end side log k bytes (ends.Reset code) = poll_only side log (replies.ExactFailed (exacts.Read (reads.Reset code)) [])

-- exactly `size` of the unread bytes
abbrev pub read_exact : Side → Log → ℕ → ℕ → Effect
read_exact side log k size =
    if nat_lt (length (unread_body side log k)) size then exact_at_end side log k (unread_body side log k) (end_of (events_of log) k)
    else take_bytes side log k (take size (unread_body side log k)) (replies.Exact (take size (unread_body side log k)))

-- the half is given up
abbrev pub stop_receiving : Side → Log → ℕ → ℕ → Effect
stop_receiving side log k code = reply_with (log_call side log (if_open log (actions.StopOut k code)) (StreamGivenUp k)) replies.Done
