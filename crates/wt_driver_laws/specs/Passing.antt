-- Calls on the halves of streams: what they answer by the transport that is kept, and what they make of it. Where the transport has no
-- such half nothing happens.
use Rattle.std.specs.Prelude.{◌++◌, Err, List, Option, Result, drop, if◌then◌else◌, length, take, ℕ, ℤ}
use Rattle.wt_kept.specs.Kept.{DriverNow}
use Rattle.wt_kept.specs.Moment.{with_work}
use Rattle.wt_transport.specs.HalfRules.{finish_answer, priority_answer, read_answer, read_count, read_exact_answer, read_exact_count, reset_answer, stopped_answer, write_all_answer, write_answer}
use Rattle.wt_transport.specs.Rules.{after_finishing, after_priority_unless_closed, after_reset_unless_closed, after_write, receiving_half_now, sending_half_now}
use Rattle.wt_transport.specs.State.{TransportState}
use Rattle.wt_transport.specs.Step.{after_consume, after_give_up, after_stop, can_receive_now, can_send_now, unread_now}
use Rattle.wt_turn.specs.declared.poll.Poll.{Poll}
use Rattle.wt_turn.specs.declared.poll.Poll.TheVariants.{Ready}
use Rattle.wt_turn.specs.declared.stream_error.ClosedStream.{ClosedStream}
use Rattle.wt_turn.specs.declared.stream_error.StreamReadError.{StreamReadError}
use Rattle.wt_turn.specs.declared.stream_error.StreamReadExactError.{StreamReadExactError}
use Rattle.wt_turn.specs.declared.stream_error.StreamWriteError.{StreamWriteError}
use Rattle.wt_turn.specs.declared.stream_error.WriteAll.{WriteAll}
use Rattle.wt_turn.specs.declared.stream_error.StreamReadError.TheVariants as reads
use Rattle.wt_turn.specs.declared.stream_error.StreamReadExactError.TheVariants as exacts
use Rattle.wt_turn.specs.declared.stream_error.StreamWriteError.TheVariants as writes

-- the driver with its transport changed so
abbrev pub on_transport : (TransportState → TransportState) → DriverNow → DriverNow
on_transport f d = with_work (λ w. record w { transport = f w.transport }) d

-- ---- sending

-- what a write answers
abbrev pub write_said : ℕ → List ℕ → TransportState → Poll (Result ℕ StreamWriteError)
write_said id bytes t = if can_send_now t id then write_answer t.is_open (sending_half_now t id) bytes else Ready (Err writes.NotConnected)

-- what a write of all bytes answers
abbrev pub write_all_said : ℕ → List ℕ → TransportState → Result WriteAll StreamWriteError
write_all_said id bytes t = if can_send_now t id then write_all_answer t.is_open (sending_half_now t id) bytes else Err writes.NotConnected

-- the transport after a write
abbrev pub then_write : ℕ → List ℕ → TransportState → TransportState
then_write id bytes t = if can_send_now t id then after_write t id bytes else t

-- what a finish answers
abbrev pub finish_said : ℕ → TransportState → Poll (Result (Unit {0}) StreamWriteError)
finish_said id t = if can_send_now t id then finish_answer t.is_open (sending_half_now t id) else Ready (Err writes.NotConnected)

-- the transport after a finish
abbrev pub then_finish : ℕ → TransportState → TransportState
then_finish id t = if can_send_now t id then after_finishing t id else t

-- whether the half was stopped
abbrev pub stopped_said : ℕ → TransportState → Poll StreamWriteError
stopped_said id t = if can_send_now t id then stopped_answer t.is_open (sending_half_now t id) else Ready writes.NotConnected

-- what a reset answers
abbrev pub reset_said : ℕ → TransportState → Result (Unit {0}) ClosedStream
reset_said id t = if can_send_now t id then reset_answer (sending_half_now t id) else Err (record {})

-- the transport after a reset
abbrev pub then_reset : ℕ → ℕ → TransportState → TransportState
then_reset id code t = if can_send_now t id then after_reset_unless_closed t id code else t

-- the priority
abbrev pub priority_said : ℕ → TransportState → Result ℤ ClosedStream
priority_said id t = if can_send_now t id then priority_answer (sending_half_now t id) else Err (record {})

-- the transport after it was set
abbrev pub then_set_priority : ℕ → ℤ → TransportState → TransportState
then_set_priority id priority t = if can_send_now t id then after_priority_unless_closed t id priority else t

-- ---- receiving

-- so many unread bytes come into the buffer's front
abbrev pub filled : ℕ → ℕ → List ℕ → TransportState → List ℕ
filled count id buffer t = take count (unread_now t id) ++ drop count buffer

-- what a read into a buffer of this size answers
abbrev pub read_said : ℕ → ℕ → TransportState → Poll (Result (Option ℕ) StreamReadError)
read_said id size t = if can_receive_now t id then read_answer t.is_open (receiving_half_now t id) size else Ready (Err reads.NotConnected)

-- the buffer after it
abbrev pub read_buffer : ℕ → List ℕ → TransportState → List ℕ
read_buffer id buffer t = if can_receive_now t id then filled (read_count (receiving_half_now t id) (length buffer)) id buffer t else buffer

-- the transport after it
abbrev pub then_read : ℕ → ℕ → TransportState → TransportState
then_read id size t = if can_receive_now t id then after_consume t id (read_count (receiving_half_now t id) size) else t

-- what an exact read into a buffer of this size answers
abbrev pub exact_said : ℕ → ℕ → TransportState → Poll (Result (Unit {0}) StreamReadExactError)
exact_said id size t = if can_receive_now t id then read_exact_answer t.is_open (receiving_half_now t id) size else Ready (Err (exacts.Read reads.NotConnected))

-- the buffer after it
abbrev pub exact_buffer : ℕ → List ℕ → TransportState → List ℕ
exact_buffer id buffer t = if can_receive_now t id then filled (read_exact_count (receiving_half_now t id) (length buffer)) id buffer t else buffer

-- the transport after it
abbrev pub then_read_exact : ℕ → ℕ → TransportState → TransportState
then_read_exact id size t = if can_receive_now t id then after_consume t id (read_exact_count (receiving_half_now t id) size) else t

-- the transport after the half was stopped and given up
abbrev pub then_stop : ℕ → ℕ → TransportState → TransportState
then_stop id code t = if can_receive_now t id then after_give_up (after_stop t id code) id else t
