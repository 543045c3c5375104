-- What code keeps of a session's stream, and what holds of it.
use Rattle.std.specs.Prelude.{◌≡◌, Bool, List, None, Option, Some, false, true, unwrap_or, ℕ}
use Rattle.wt_proto.specs.SessionWalk.{capsule_decides, session_unfinished}
use Rattle.wt_proto.specs.Cursor.{IsPlaced, progress_of}
use Rattle.wt_proto.specs.SessionWords.{fault_in, payload_in}
use Rattle.wt_proto.specs.declared.session_reader.Walks.{Walks}
use Rattle.wt_proto.specs.WalkProgress.{reached_in}
use Rattle.wt_proto.specs.declared.session_walk.SessionWalk.{SessionWalk}
use Rattle.wt_proto.specs.SessionReader.{HeaderWalk, IsSettled, SessionAdvances, SessionReader, frame_stop, header_decides}
use Rattle.wt_wire.specs.declared.error.ErrorCode.{ErrorCode}
use Rattle.wt_proto.specs.declared.session_walk.SessionWalk.TheVariants as walks

-- where both walks stand, as data
abbrev pub session_value : Walks → SessionReader
session_value w = record { headers = progress_of w.frames; data_left = w.data_left; capsules = progress_of w.capsules; end = w.end }

-- both walks are placed, and the reader is settled
pub record IsSessionPlaced (w : Walks) : Type 0 where
  pub headers : IsPlaced header_decides w.frames
  pub capsules : IsPlaced capsule_decides w.capsules
  pub settled : IsSettled (session_value w)

-- what the frames stopped with is DATA, with a payload of this size
abbrev pub payload_found : Option HeaderWalk → Option ℕ
payload_found None = None
payload_found (Some frame) = payload_in frame

-- it is a fault
abbrev pub fault_found : Option HeaderWalk → Option ErrorCode
fault_found None = None
fault_found (Some frame) = fault_in frame

-- what a reader says where no capsule stopped it: a fault of a frame, else what the end makes of where it stands
abbrev pub unfinished_in : SessionReader → SessionWalk
unfinished_in r =
    unwrap_or (frame_stop (reached_in r.headers).stop) (session_unfinished r.end (record { data_left = r.data_left; capsules = r.capsules }) (reached_in r.headers).between)

-- the walks are placed, and what the reader keeps as outcome is that of walks that no capsule stopped
pub record IsSessionReading (w : Walks) (outcome : SessionWalk) : Type 0 where
  pub placed : IsSessionPlaced w
  pub waiting : outcome ≡ unfinished_in (session_value w)

-- some first bytes of a piece lead from one value to the next
abbrev pub SessionAdvancesSome : SessionReader → SessionReader → List ℕ → Type 0
SessionAdvancesSome old new piece = (n : ℕ) × SessionAdvances old new piece n

-- whether a capsule closes the session
abbrev pub is_close : Option SessionWalk → Bool
is_close (Some (walks.Closed code reason)) = true
is_close _ = false

-- whether a capsule closed the session, before any end
abbrev pub is_closed_by_capsule : SessionReader → Bool
is_closed_by_capsule r = is_close (reached_in r.capsules).stop
