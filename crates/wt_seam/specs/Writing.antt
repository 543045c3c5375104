-- A write that goes on as the peer grants credit (this repository's rules, after quinn's streams).
use Rattle.std.specs.Prelude.{◌≡◌, ℕ, ◌+◌, ◌<◌, List, [], length, take, drop, ◌++◌, Result, Ok, Err, Bool, is_some, nat_lt, not, ◌==◌, if◌then◌else◌}
use Rattle.wt_turn.specs.declared.poll.Poll.{Poll}
use Rattle.wt_turn.specs.declared.poll.Poll.TheVariants as polls
use Rattle.wt_turn.specs.declared.proto_error.ProtoWriteError.{ProtoWriteError}
use Rattle.wt_turn.specs.declared.proto_error.ProtoWriteError.TheVariants.{NotConnected, Stopped}
use Rattle.wt_transport.specs.HalfRules.{SendingHalf}

-- bytes that are being written, and how many of them went out
pub record Pending : Type 0 where
  pub bytes : List ℕ
  pub out : ℕ

-- nothing is being written
abbrev pub nothing_begun : Pending
nothing_begun = record { bytes = []; out = 0 }

-- a write was begun that isn't through
abbrev pub is_begun : Pending → Bool
is_begun p = not (length p.bytes == 0)

-- a write that was begun is of these bytes
abbrev pub Continues : Pending → List ℕ → Type 0
Continues p bytes = 0 < length p.bytes → p.bytes ≡ bytes

-- the write of these bytes that was begun, or a new one
abbrev pub write_of : Pending → List ℕ → Pending
write_of p bytes = record { bytes = bytes; out = p.out }

-- the bytes that are still to go out
abbrev pub rest : Pending → List ℕ
rest p = drop p.out p.bytes

-- what a write of these bytes answers: why it can't go on, else whether credit covers all of them
abbrev pub pending_answer : Bool → SendingHalf → List ℕ → Poll (Result (Unit {0}) ProtoWriteError)
pending_answer open_ half bytes =
    if not open_ then polls.Ready (Err NotConnected) else (if is_some half.stop then polls.Ready (Err Stopped) else (if nat_lt half.left (length bytes) then polls.Pending else polls.Ready (Ok tt)))

-- where the write is then: through, or n bytes further; where it can't go on, as before
abbrev pub after_pending : Bool → SendingHalf → Pending → Pending
after_pending open_ half p =
    if not open_ then p else (if is_some half.stop then p else (if nat_lt half.left (length (rest p)) then record p { out = p.out + half.left } else nothing_begun))

-- which of these bytes go out now: none where the write can't go on, else the first ones, as many as credit covers
abbrev pub going_out : Bool → SendingHalf → List ℕ → List ℕ
going_out open_ half bytes = if not open_ then [] else (if is_some half.stop then [] else take half.left bytes)

-- What goes out of these bytes follows what went out before: while the write isn't through both are a prefix, and else all of them.
pub record WritesPrefix (open_ : Bool) (half : SendingHalf) (old new : Pending) (bytes : List ℕ) : Type 0 where
  pub begun : 0 < length new.bytes → take new.out bytes ≡ take old.out bytes ++ going_out open_ half (drop old.out bytes)
  pub through : new.bytes ≡ [] → take old.out bytes ++ going_out open_ half (drop old.out bytes) ≡ bytes
