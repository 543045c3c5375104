-- What calls on one half of a stream answer: each a rule over whether the connection is open and what is known of the
-- half (this repository's rules, after quinn's streams).
use Rattle.std.specs.Prelude.{ℕ, ℤ, List, [], ◌∷◌, length, take, min, Option, Some, None, option_map, Result, Ok, Err, Bool, nat_lt, ◌==◌, ◌||◌, ◌&&◌, not, if◌then◌else◌}
use Rattle.wt_wire.specs.declared.side.StreamEnd.{StreamEnd}
use Rattle.wt_wire.specs.declared.side.StreamEnd.TheVariants as ends
use Rattle.wt_turn.specs.declared.poll.Poll.{Poll}
use Rattle.wt_turn.specs.declared.poll.Poll.TheVariants.{Ready, Pending}
use Rattle.wt_turn.specs.declared.stream_error.ClosedStream.{ClosedStream}
use Rattle.wt_turn.specs.declared.stream_error.StreamWriteError.{StreamWriteError}
use Rattle.wt_turn.specs.declared.stream_error.StreamWriteError.TheVariants as write_errors
use Rattle.wt_turn.specs.declared.stream_error.StreamReadError.{StreamReadError}
use Rattle.wt_turn.specs.declared.stream_error.StreamReadError.TheVariants as read_errors
use Rattle.wt_turn.specs.declared.stream_error.StreamReadExactError.{StreamReadExactError}
use Rattle.wt_turn.specs.declared.stream_error.StreamReadExactError.TheVariants as exact_errors
use Rattle.wt_turn.specs.declared.stream_error.WriteAll.{WriteAll}
use Rattle.wt_turn.specs.declared.stream_error.WriteAll.TheVariants as all

-- ---- what is known of a half

-- what a call on a sending half asks
pub record SendingHalf : Type 0 where
  pub finished : Bool
  pub reset : Bool
  pub stop : Option ℕ
  pub acknowledged : Bool
  pub left : ℕ  -- how many more bytes credit covers
  pub priority : ℤ

-- what a call on a receiving half asks
pub record ReceivingHalf : Type 0 where
  pub unread : ℕ
  pub end : StreamEnd

-- ---- the rules, over whether the connection is open and the half

-- the half can't be reset any more: it was reset, or all of it was acknowledged
abbrev pub is_closed : SendingHalf → Bool
is_closed half = half.reset || (half.finished && half.acknowledged)

-- why nothing can be written to the half
abbrev pub write_refusal : Bool → SendingHalf → Option StreamWriteError
write_refusal open_ half =
    if not open_ then Some write_errors.NotConnected else (if half.finished
    || half.reset then Some write_errors.Closed else option_map write_errors.Stopped half.stop)

-- what a write of these bytes answers, with so much credit left
abbrev pub written_count : ℕ → List ℕ → Poll (Result ℕ StreamWriteError)
written_count left [] = Ready (Ok 0)
written_count left (byte ∷ later) = if left == 0 then Pending else Ready (Ok (length (take left (byte ∷ later))))

-- the refusal, else what the write answers
abbrev pub written_unless : Option StreamWriteError → ℕ → List ℕ → Poll (Result ℕ StreamWriteError)
written_unless (Some error) left bytes = Ready (Err error)
written_unless None left bytes = written_count left bytes

-- what a write of these bytes answers
abbrev pub write_answer : Bool → SendingHalf → List ℕ → Poll (Result ℕ StreamWriteError)
write_answer open_ half bytes = written_unless (write_refusal open_ half) half.left bytes

-- how far a write of all of these bytes comes, with so much credit left
abbrev pub all_written : ℕ → List ℕ → WriteAll
all_written left bytes = if nat_lt left (length bytes) then all.Count left else all.Done

-- the refusal, else how far the write comes
abbrev pub all_unless : Option StreamWriteError → ℕ → List ℕ → Result WriteAll StreamWriteError
all_unless (Some error) left bytes = Err error
all_unless None left bytes = Ok (all_written left bytes)

-- what a write of all of these bytes answers
abbrev pub write_all_answer : Bool → SendingHalf → List ℕ → Result WriteAll StreamWriteError
write_all_answer open_ half bytes = all_unless (write_refusal open_ half) half.left bytes

-- a stop comes before a close, and a close before the end of the connection
abbrev pub stopped_unless : Option ℕ → Bool → Bool → Poll StreamWriteError
stopped_unless (Some code) closed open_ = Ready (write_errors.Stopped code)
stopped_unless None closed open_ = if closed then Ready write_errors.Closed else (if open_ then Pending else Ready write_errors.NotConnected)

-- how the half was stopped or closed
abbrev pub stopped_answer : Bool → SendingHalf → Poll StreamWriteError
stopped_answer open_ half = stopped_unless half.stop (is_closed half) open_

-- once all is acknowledged a finish is through
abbrev pub finish_unless : Option ℕ → Bool → Bool → Poll (Result (Unit {0}) StreamWriteError)
finish_unless (Some code) closed open_ = Ready (Err (write_errors.Stopped code))
finish_unless None closed open_ = if closed then Ready (Ok tt) else (if open_ then Pending else Ready (Err write_errors.NotConnected))

-- what a finish answers
abbrev pub finish_answer : Bool → SendingHalf → Poll (Result (Unit {0}) StreamWriteError)
finish_answer open_ half = finish_unless half.stop (is_closed half) open_

-- what a reset answers
abbrev pub reset_answer : SendingHalf → Result (Unit {0}) ClosedStream
reset_answer half = if is_closed half then Err (record {}) else Ok tt

-- what is answered of the priority
abbrev pub priority_answer : SendingHalf → Result ℤ ClosedStream
priority_answer half = if is_closed half then Err (record {}) else Ok half.priority

-- what a read answers where nothing is unread
abbrev pub nothing_unread : Bool → StreamEnd → Poll (Result (Option ℕ) StreamReadError)
nothing_unread open_ ends.Fin = Ready (Ok None)
nothing_unread open_ (ends.Reset code) = Ready (Err (read_errors.Reset code))
nothing_unread open_ ends.Running = if open_ then Pending else Ready (Err read_errors.NotConnected)

-- how many bytes a read takes
abbrev pub read_count : ReceivingHalf → ℕ → ℕ
read_count half size = min size half.unread

-- what a read of n bytes answers
abbrev pub read_answer : Bool → ReceivingHalf → ℕ → Poll (Result (Option ℕ) StreamReadError)
read_answer open_ half size =
    if size == 0 then Ready (Ok (Some 0)) else (if half.unread == 0 then nothing_unread open_ half.end else Ready (Ok (Some (read_count half size))))

-- what a read of exactly n bytes answers where only these many are unread
abbrev pub too_few : Bool → StreamEnd → ℕ → Poll (Result (Unit {0}) StreamReadExactError)
too_few open_ ends.Fin count = Ready (Err (exact_errors.FinishedEarly count))
too_few open_ (ends.Reset code) count = Ready (Err (exact_errors.Read (read_errors.Reset code)))
too_few open_ ends.Running count = if open_ then Pending else Ready (Err (exact_errors.Read read_errors.NotConnected))

-- what a read of exactly n bytes answers
abbrev pub read_exact_answer : Bool → ReceivingHalf → ℕ → Poll (Result (Unit {0}) StreamReadExactError)
read_exact_answer open_ half size = if nat_lt half.unread size then too_few open_ half.end half.unread else Ready (Ok tt)

-- how many of too few bytes are taken: all of them, once the peer ended the half
abbrev pub count_of_few : StreamEnd → ℕ → ℕ
count_of_few ends.Fin count = count
count_of_few (ends.Reset code) count = 0
count_of_few ends.Running count = 0

-- how many bytes a read of exactly n takes
abbrev pub read_exact_count : ReceivingHalf → ℕ → ℕ
read_exact_count half size = if nat_lt half.unread size then count_of_few half.end half.unread else size
