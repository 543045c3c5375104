-- The walk over a session's part of its stream, over all bytes after the frame that established it and the end
-- (draft-ietf-webtrans-http3, section 5). Capsules stand one after the other in the joined payloads of DATA frames, which
-- cut them anywhere (RFC 9297, section 3.2): so there are two walks, one over the frames and one over the capsules.
use Rattle.std.specs.Prelude.{[], ◌&&◌, ◌+◌, ◌==◌, ◌∷◌, Bool, Err, List, None, Ok, Option, Result, Some, drop, false, if◌then◌else◌, length, nat_le, nat_lt, suc, take, true, zero, ℕ}
use Rattle.wt_message.specs.Capsule.{close_capsule_type, close_of}
use Rattle.wt_message.specs.SessionClose.{SessionClose}
use Rattle.wt_proto.specs.Walk.{outcome_at, whole_walk}
use Rattle.wt_proto.specs.WalkProgress.{WalkProgress, at_item, progress_after, reached_in}
use Rattle.wt_proto.specs.declared.session_walk.SessionWalk.{SessionWalk}
use Rattle.wt_proto.specs.declared.walk.Step.{Step}
use Rattle.wt_wire.specs.Frames.{data_type, is_known_type, settings_type, signal_type}
use Rattle.wt_wire.specs.Varint.{varint_at}
use Rattle.wt_wire.specs.declared.error.ErrorCode.{ErrorCode}
use Rattle.wt_wire.specs.declared.side.StreamEnd.{StreamEnd}
use Rattle.wt_proto.specs.declared.session_walk.SessionWalk.TheVariants as walks
use Rattle.wt_proto.specs.declared.walk.Step.TheVariants.{Cut, Goes, Stops}
use Rattle.wt_wire.specs.declared.error.ErrorCode.TheVariants.{ClosedCriticalStream, ExcessiveLoad, FrameUnexpected, Message}
use Rattle.wt_wire.specs.declared.side.StreamEnd.TheVariants.{Fin, Reset, Running}

-- ---- capsules: a type, a length and a value of that length

-- what CLOSE_WEBTRANSPORT_SESSION says: it closes the session, or is a fault where its reason isn't UTF-8
abbrev pub closed_by : Result SessionClose ErrorCode → SessionWalk
closed_by (Ok close) = walks.Closed close.error_code close.reason
closed_by (Err fault) = walks.Fault fault

-- its value has a code of 4 bytes and a reason of at most 1,024
abbrev pub may_close : ℕ → Bool
may_close size = nat_le 4 size && nat_le size 1028

-- a capsule with a header of `header` bytes and a value of size bytes: CLOSE_WEBTRANSPORT_SESSION is judged by its length,
-- then by its value; every other one is skipped, whatever its length (RFC 9297, section 3.2)
abbrev pub capsule_with_header : List ℕ → ℕ → ℕ → ℕ → Step (Unit {0}) SessionWalk
capsule_with_header bytes kind header size =
    if kind == close_capsule_type
    then (
    if may_close size
    then (if nat_lt (length bytes) (header + size) then Cut else Stops (closed_by (close_of (take size (drop header bytes)))) (header + size))
    else Stops (walks.Fault Message) header)
    else Goes tt (header + size)

-- the same, where the length is to be read after a type of `offset` bytes
abbrev pub capsule_with_length : List ℕ → ℕ → ℕ → Option (ℕ × ℕ) → Step (Unit {0}) SessionWalk
capsule_with_length bytes kind offset None = Cut
capsule_with_length bytes kind offset (Some l) = capsule_with_header bytes kind (offset + l.1) l.0

-- the same, where the type is to be read
abbrev pub capsule_with_type : List ℕ → Option (ℕ × ℕ) → Step (Unit {0}) SessionWalk
capsule_with_type bytes None = Cut
capsule_with_type bytes (Some t) = capsule_with_length bytes t.0 t.1 (varint_at (drop t.1 bytes))

-- what the capsule at the front does; the walk over capsules has one state
unfoldable pub capsule_decides : Unit {0} → List ℕ → Step (Unit {0}) SessionWalk
capsule_decides state bytes = capsule_with_type bytes (varint_at bytes)

-- ---- frames (RFC 9114, section 7)

-- what the walk over frames keeps: how many bytes of a DATA payload are to come, and how far the walk over the capsules is
pub record SessionProgress : Type 0 where
  pub data_left : ℕ
  pub capsules : WalkProgress (Unit {0}) SessionWalk

-- in front of the first frame
abbrev pub session_start : SessionProgress
session_start = record { data_left = 0; capsules = at_item tt }

-- what a byte of a DATA payload leads to: the capsules stop the walk, or `left` more bytes are to come
abbrev pub data_step : ℕ → WalkProgress (Unit {0}) SessionWalk → Option SessionWalk → Step SessionProgress SessionWalk
data_step left capsules (Some outcome) = Stops outcome 1
data_step left capsules None = Goes (record { data_left = left; capsules = capsules }) 1

-- the walk over the capsules has this byte too
abbrev pub data_byte : ℕ → WalkProgress (Unit {0}) SessionWalk → Step SessionProgress SessionWalk
data_byte left capsules = data_step left capsules (reached_in capsules).stop

-- a frame with a header of `header` bytes and a payload of size bytes: DATA may have any length, HEADERS and SETTINGS at
-- most 4,096 bytes (this repository's rule); HEADERS are skipped (this repository's rule; RFC 9114, section 4.4, asks
-- H3_FRAME_UNEXPECTED), SETTINGS are unexpected (RFC 9114, section 7.2.4), every other type is skipped
abbrev pub frame_step : WalkProgress (Unit {0}) SessionWalk → ℕ → ℕ → ℕ → Step SessionProgress SessionWalk
frame_step capsules kind header size =
    if kind == data_type then Goes (record { data_left = size; capsules = capsules }) header else
    (if is_known_type kind
    then (
    if nat_lt 4096 size then Stops (walks.Fault ExcessiveLoad) header else
    (if kind == settings_type then Stops (walks.Fault FrameUnexpected) (header + size)
    else Goes (record { data_left = 0; capsules = capsules }) (header + size)))
    else Goes (record { data_left = 0; capsules = capsules }) (header + size))

-- the same, where the length is to be read after a type of `offset` bytes
abbrev pub frame_step_with_length : WalkProgress (Unit {0}) SessionWalk → ℕ → ℕ → Option (ℕ × ℕ) → Step SessionProgress SessionWalk
frame_step_with_length capsules kind offset None = Cut
frame_step_with_length capsules kind offset (Some l) = frame_step capsules kind (offset + l.1) l.0

-- the same, where the type is to be read; a signal has no length, and is unexpected (this repository's rule;
-- draft-ietf-webtrans-http3, section 4.3, asks H3_FRAME_ERROR)
abbrev pub frame_step_with_type : WalkProgress (Unit {0}) SessionWalk → List ℕ → Option (ℕ × ℕ) → Step SessionProgress SessionWalk
frame_step_with_type capsules bytes None = Cut
frame_step_with_type capsules bytes (Some t) =
    if t.0 == signal_type then Stops (walks.Fault FrameUnexpected) t.1 else frame_step_with_length capsules t.0 t.1 (varint_at (drop t.1 bytes))

-- what stands at the front: a byte of a DATA payload, or a frame
abbrev pub session_step : ℕ → WalkProgress (Unit {0}) SessionWalk → List ℕ → Step SessionProgress SessionWalk
session_step left capsules [] = Cut
session_step zero capsules (b ∷ bytes) = frame_step_with_type capsules (b ∷ bytes) (varint_at (b ∷ bytes))
session_step (suc left) capsules (b ∷ bytes) = data_byte left (progress_after capsule_decides capsules (b ∷ []))

-- what the bytes at the front of a session's part do
unfoldable pub session_decides : SessionProgress → List ℕ → Step SessionProgress SessionWalk
session_decides state bytes = session_step state.data_left state.capsules bytes

-- ---- the outcome

-- a clean end between frames: between capsules it closes the session with code 0 and an empty reason
-- (draft-ietf-webtrans-http3, section 5), inside one it is a fault (RFC 9297, section 3.3)
abbrev pub session_at_end : Bool → SessionWalk
session_at_end true = walks.Closed 0 []
session_at_end false = walks.Fault Message

-- a clean end inside a frame is a fault, and so is a reset (this repository's rule; RFC 9114, section 7.1, asks
-- H3_FRAME_ERROR for a frame that is cut, and draft-ietf-webtrans-http3, section 5, ends the session at a reset)
abbrev pub session_unfinished : StreamEnd → SessionProgress → Bool → SessionWalk
session_unfinished Running state between = walks.Running
session_unfinished Fin state false = walks.Fault ClosedCriticalStream
session_unfinished Fin state true =
    if state.data_left == 0 then session_at_end (reached_in state.capsules).between else walks.Fault ClosedCriticalStream
session_unfinished (Reset code) state between = walks.Fault ClosedCriticalStream

-- how the peer ended the session
unfoldable pub session_walk_of : List ℕ → StreamEnd → SessionWalk
session_walk_of bytes end = outcome_at session_unfinished end (whole_walk session_decides session_start bytes)

-- an outcome that more bytes and an end don't change
abbrev pub is_over : SessionWalk → Bool
is_over walks.Running = false
is_over (walks.Closed code reason) = true
is_over (walks.Fault fault) = true
