-- The reply of a run's call that a typed answer of a half or of an opening stands for.
use Rattle.std.specs.Prelude.{Err, List, None, Ok, Option, Result, Some, take, ℕ, ℤ}
use Rattle.wt_turn.specs.declared.connection_error.ConnectionError.{ConnectionError}
use Rattle.wt_turn.specs.declared.poll.Poll.{Poll}
use Rattle.wt_turn.specs.declared.poll.Poll.TheVariants.{Pending, Ready}
use Rattle.wt_turn.specs.declared.reply.Reply.{Reply}
use Rattle.wt_turn.specs.declared.reply.Reply.TheVariants as replies
use Rattle.wt_turn.specs.declared.stream_error.ClosedStream.{ClosedStream}
use Rattle.wt_turn.specs.declared.stream_error.SendDatagramError.{SendDatagramError}
use Rattle.wt_turn.specs.declared.stream_error.StreamOpeningError.{StreamOpeningError}
use Rattle.wt_turn.specs.declared.stream_error.StreamReadError.{StreamReadError}
use Rattle.wt_turn.specs.declared.stream_error.StreamReadExactError.{StreamReadExactError}
use Rattle.wt_turn.specs.declared.stream_error.StreamReadExactError.TheVariants as exacts
use Rattle.wt_turn.specs.declared.stream_error.StreamWriteError.{StreamWriteError}
use Rattle.wt_turn.specs.declared.stream_error.WriteAll.{WriteAll}
use Rattle.wt_turn.specs.declared.stream_error.WriteAll.TheVariants as writes

-- a call that only does
abbrev pub done_reply : Unit {0} → Reply
done_reply u = replies.Done

-- ---- a sending half

-- a write of as many bytes as may go out
abbrev pub write_reply : Poll (Result ℕ StreamWriteError) → Reply
write_reply Pending = replies.Pending
write_reply (Ready (Ok n)) = replies.Written n
write_reply (Ready (Err e)) = replies.WriteFailed e

-- a write of all bytes
abbrev pub write_all_reply : Result WriteAll StreamWriteError → Reply
write_all_reply (Ok writes.Done) = replies.AllWritten
write_all_reply (Ok (writes.Count n)) = replies.Count n
write_all_reply (Err e) = replies.WriteFailed e

-- a finish
abbrev pub finish_reply : Poll (Result (Unit {0}) StreamWriteError) → Reply
finish_reply Pending = replies.Pending
finish_reply (Ready (Ok u)) = replies.Finished
finish_reply (Ready (Err e)) = replies.WriteFailed e

-- whether the half was stopped
abbrev pub stopped_reply : Poll StreamWriteError → Reply
stopped_reply Pending = replies.Pending
stopped_reply (Ready e) = replies.StoppedBy e

-- a priority
abbrev pub priority_reply : Result ℤ ClosedStream → Reply
priority_reply (Ok p) = replies.Priority p
priority_reply (Err e) = replies.ClosedStream

-- a reset
abbrev pub reset_reply : Result (Unit {0}) ClosedStream → Reply
reset_reply (Ok u) = replies.Done
reset_reply (Err e) = replies.ClosedStream

-- ---- a receiving half

-- how many bytes a read gave
abbrev pub read_into : Poll (Result (Option ℕ) StreamReadError) → ℕ
read_into (Ready (Ok (Some count))) = count
read_into (Ready (Ok None)) = 0
read_into (Ready (Err e)) = 0
read_into Pending = 0

-- a read into this buffer
abbrev pub read_reply : List ℕ → Poll (Result (Option ℕ) StreamReadError) → Reply
read_reply buffer (Ready (Ok (Some count))) = replies.Read (Some (take count buffer))
read_reply buffer (Ready (Ok None)) = replies.Read None
read_reply buffer (Ready (Err e)) = replies.ReadFailed e
read_reply buffer Pending = replies.Pending

-- how many bytes a failed exact read gave
abbrev pub exact_count : StreamReadExactError → ℕ
exact_count (exacts.FinishedEarly count) = count
exact_count (exacts.Read e) = 0

-- how many bytes an exact read into a buffer of this length gave
abbrev pub exact_into : ℕ → Poll (Result (Unit {0}) StreamReadExactError) → ℕ
exact_into size (Ready (Ok u)) = size
exact_into size (Ready (Err e)) = exact_count e
exact_into size Pending = 0

-- an exact read into this buffer
abbrev pub read_exact_reply : List ℕ → Poll (Result (Unit {0}) StreamReadExactError) → Reply
read_exact_reply buffer (Ready (Ok u)) = replies.Exact buffer
read_exact_reply buffer (Ready (Err e)) = replies.ExactFailed e (take (exact_count e) buffer)
read_exact_reply buffer Pending = replies.Pending

-- ---- what is given

-- a call that gives, by what it gives
abbrev pub poll_reply : {T : Type 0} → (T → Reply) → Poll (Result T ConnectionError) → Reply
poll_reply reply (Ready (Ok item)) = reply item
poll_reply reply (Ready (Err e)) = replies.Failed e
poll_reply reply Pending = replies.Pending

-- an opening that goes on, by what it gives
abbrev pub ready_reply : {T : Type 0} → (T → Reply) → Poll (Result T StreamOpeningError) → Reply
ready_reply reply (Ready (Ok item)) = reply item
ready_reply reply (Ready (Err e)) = replies.OpeningFailed e
ready_reply reply Pending = replies.Pending

-- the item that a poll gives has this
abbrev pub IfGiven : {T E : Type 0} → Poll (Result T E) → (T → Type 0) → Type 0
IfGiven (Ready (Ok item)) P = P item
IfGiven (Ready (Err e)) P = Unit {0}
IfGiven Pending P = Unit {0}

-- a datagram that is sent
abbrev pub datagram_reply : Result (Unit {0}) SendDatagramError → Reply
datagram_reply (Ok u) = replies.Done
datagram_reply (Err e) = replies.DatagramFailed e
