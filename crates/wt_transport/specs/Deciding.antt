-- What a call that moves bytes on a half comes to, and the answer that is made of it.
use Rattle.std.specs.Prelude.{ℕ, min, Option, Some, None, Result, Ok, Err, Bool, nat_lt, ◌==◌, ◌&&◌, not, if◌then◌else◌}
use Rattle.wt_wire.specs.declared.side.StreamEnd.{StreamEnd}
use Rattle.wt_wire.specs.declared.side.StreamEnd.TheVariants as ends
use Rattle.wt_turn.specs.declared.poll.Poll.{Poll}
use Rattle.wt_turn.specs.declared.poll.Poll.TheVariants.{Ready, Pending}
use Rattle.wt_turn.specs.declared.stream_error.StreamWriteError.{StreamWriteError}
use Rattle.wt_turn.specs.declared.stream_error.StreamReadError.{StreamReadError}
use Rattle.wt_turn.specs.declared.stream_error.StreamReadError.TheVariants as read_errors
use Rattle.wt_turn.specs.declared.stream_error.StreamReadExactError.{StreamReadExactError}
use Rattle.wt_turn.specs.declared.stream_error.StreamReadExactError.TheVariants as exact_errors
use Rattle.wt_turn.specs.declared.stream_error.WriteAll.{WriteAll}
use Rattle.wt_turn.specs.declared.stream_error.WriteAll.TheVariants as all
use Rattle.wt_transport.specs.declared.decision.Decision.{Decision}
use Rattle.wt_transport.specs.declared.decision.Decision.TheVariants.{Refused, Wait, Take}
use Rattle.wt_transport.specs.HalfRules.{ReceivingHalf, SendingHalf, write_refusal}

-- ---- decisions

-- how many bytes are moved
abbrev pub taken : {E : Type 0} → Decision E → ℕ
taken (Refused error) = 0
taken Wait = 0
taken (Take count) = count

-- the refusal, else as many of n bytes as credit is left for; some bytes wait where none is left
abbrev pub unless_refused : Option StreamWriteError → ℕ → ℕ → Decision StreamWriteError
unless_refused (Some error) left size = Refused error
unless_refused None left size = if not (size == 0) && left == 0 then Wait else Take (min size left)

-- what a write of n bytes comes to
abbrev pub write_decision : Bool → SendingHalf → ℕ → Decision StreamWriteError
write_decision open_ half size = unless_refused (write_refusal open_ half) half.left size

-- what a read comes to where too few bytes are unread: after the end these are all
abbrev pub few_decision : Bool → StreamEnd → ℕ → Decision StreamReadError
few_decision open_ ends.Fin unread = Take unread
few_decision open_ (ends.Reset code) unread = Refused (read_errors.Reset code)
few_decision open_ ends.Running unread = if open_ then Wait else Refused read_errors.NotConnected

-- what a read of at most n bytes comes to that waits for the least number of them
abbrev pub read_decision : Bool → ReceivingHalf → ℕ → ℕ → Decision StreamReadError
read_decision open_ half least size = if nat_lt half.unread least then few_decision open_ half.end half.unread else Take (min size half.unread)

-- ---- answers

-- what a write answers
abbrev pub write_of : Decision StreamWriteError → Poll (Result ℕ StreamWriteError)
write_of (Refused error) = Ready (Err error)
write_of Wait = Pending
write_of (Take count) = Ready (Ok count)

-- what a write of all of n bytes answers
abbrev pub write_all_of : ℕ → Decision StreamWriteError → Result WriteAll StreamWriteError
write_all_of size (Refused error) = Err error
write_all_of size Wait = Ok (all.Count 0)
write_all_of size (Take count) = if nat_lt count size then Ok (all.Count count) else Ok all.Done

-- what a read of at most n bytes answers: some were asked for, and none is left before the end
abbrev pub read_of : ℕ → Decision StreamReadError → Poll (Result (Option ℕ) StreamReadError)
read_of size (Refused error) = Ready (Err error)
read_of size Wait = Pending
read_of size (Take count) = if (count == 0) && nat_lt 0 size then Ready (Ok None) else Ready (Ok (Some count))

-- what a read of exactly n bytes answers
abbrev pub exact_read_of : ℕ → Decision StreamReadError → Poll (Result (Unit {0}) StreamReadExactError)
exact_read_of size (Refused error) = Ready (Err (exact_errors.Read error))
exact_read_of size Wait = Pending
exact_read_of size (Take count) = if nat_lt count size then Ready (Err (exact_errors.FinishedEarly count)) else Ready (Ok tt)
