-- The next frame on a stream (RFC 9114, section 7; draft-ietf-webtrans-http3, section 4.3).
use Rattle.std.specs.Prelude.{ℕ, ◌%◌, List, [], Option, Some, None, Result, Ok, Err, Bool, false, ◌==◌, if◌then◌else◌}
use Rattle.wt_wire.specs.declared.error.ErrorCode.{ErrorCode}
use Rattle.wt_wire.specs.declared.error.ErrorCode.TheVariants.{ExcessiveLoad, FrameUnexpected, Id}
use Rattle.wt_wire.specs.declared.frame.FrameKind.{FrameKind}
use Rattle.wt_wire.specs.declared.frame.FrameKind.TheVariants as kinds
use Rattle.wt_wire.specs.FrameBytes.{FrameParts}
use Rattle.wt_wire.specs.Frames as frames
use Rattle.wt_wire.specs.Varint.{varint_at}
use Rattle.wt_proto.specs.declared.walk.Step.{Step}
use Rattle.wt_proto.specs.declared.walk.Step.TheVariants.{Goes, Stops}
use Rattle.wt_proto.specs.FrameSteps.{step_of_item}
use Rattle.wt_proto.specs.WalkProgress.{WalkProgress}
use Rattle.wt_seam.specs.declared.next_frame.FrameSource.{FrameSource}
use Rattle.wt_seam.specs.declared.next_frame.FrameSource.TheVariants.{Request, Control, Other}

-- a frame of this kind is given
abbrev pub given_frame : FrameKind → List ℕ → Result FrameParts ErrorCode
given_frame kind payload = Ok (record { kind = kind; payload = payload; session = None })

-- the signal of a WebTransport stream is given where the id of its session is a multiple of 4
abbrev pub given_signal : ℕ → Result FrameParts ErrorCode
given_signal id = if id % 4 == 0 then Ok (record { kind = kinds.WebTransport; payload = []; session = Some id }) else Err Id

-- a signal begins a bidirectional stream that the peer opened, and may stand nowhere else
abbrev pub on_signal : FrameSource → ℕ → Result FrameParts ErrorCode
on_signal Request id = given_signal id
on_signal Control id = Err FrameUnexpected
on_signal Other id = Err FrameUnexpected

-- a control stream gives exercise frames, without their payload, which means nothing (this repository's rule; RFC 9114, section 7.2.8); every other frame of an unknown type is skipped
abbrev pub on_unknown_frame : FrameSource → ℕ → ℕ → Step FrameSource (Result FrameParts ErrorCode)
on_unknown_frame Control size kind = if frames.is_exercise kind then Stops (given_frame (kinds.Exercise kind) []) size else Goes Control size
on_unknown_frame Request size kind = Goes Request size
on_unknown_frame Other size kind = Goes Other size

-- what a frame does: DATA, HEADERS and SETTINGS are given, where they aren't too long
abbrev pub frame_effect : FrameSource → ℕ → frames.Frame → Step FrameSource (Result FrameParts ErrorCode)
frame_effect source size (frames.Data payload) = Stops (given_frame kinds.Data payload) size
frame_effect source size (frames.Headers payload) = Stops (given_frame kinds.Headers payload) size
frame_effect source size (frames.Settings payload) = Stops (given_frame kinds.Settings payload) size
frame_effect source size frames.TooLong = Stops (Err ExcessiveLoad) size
frame_effect source size (frames.Signal id) = Stops (on_signal source id) size
frame_effect source size (frames.Skipped kind) = on_unknown_frame source size kind

-- the id after a signal is read where the signal may stand
abbrev pub id_at : FrameSource → List ℕ → Option (ℕ × ℕ)
id_at Request bytes = varint_at bytes
id_at Control bytes = frames.session_id_ignored bytes
id_at Other bytes = frames.session_id_ignored bytes

-- what the frame at the front of such a stream does
unfoldable pub frame_decides : FrameSource → List ℕ → Step FrameSource (Result FrameParts ErrorCode)
frame_decides source bytes = step_of_item (frame_effect source) (frames.frame_at (id_at source) bytes)

-- an integer at the front is the type of the signal
abbrev pub is_signal_type : Option (ℕ × ℕ) → Bool
is_signal_type None = false
is_signal_type (Some t) = t.0 == frames.signal_type

-- the reader of a request's frames goes on for the session's: a signal that waits for its id is a fault there
abbrev pub session_reading : WalkProgress FrameSource (Result FrameParts ErrorCode) → WalkProgress FrameSource (Result FrameParts ErrorCode)
session_reading p =
    if is_signal_type (varint_at p.kept) then record { state = Other; stop = Some (Err FrameUnexpected); skip = 0; kept = [] } else record p { state = Other }
