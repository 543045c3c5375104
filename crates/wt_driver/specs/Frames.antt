-- Frames that are read on a session's own stream, and its stop, by what the driver keeps. Where it has no such half nothing happens.
use Rattle.std.specs.Prelude.{◌≡◌, Bool, Err, IfOk, Ok, Result, false, if◌then◌else◌, true, ℕ}
use Rattle.wt_seam.specs.NextFrame.{frame_decides}
use Rattle.wt_seam.specs.Reads.{ReadAnswers, ReadLeaves, ReadTakes}
use Rattle.wt_seam.specs.Typed.{after_stop_once, stop_answer}
use Rattle.wt_seam.specs.declared.next_frame.FrameSource.{FrameSource}
use Rattle.wt_transport.specs.State.{TransportState}
use Rattle.wt_transport.specs.Step.{can_receive_now}
use Rattle.wt_proto.specs.WalkProgress.{WalkProgress}
use Rattle.wt_turn.specs.declared.poll.Poll.{Poll}
use Rattle.wt_turn.specs.declared.poll.Poll.TheVariants.{Ready}
use Rattle.wt_turn.specs.declared.proto_error.IoReadError.TheVariants as ends
use Rattle.wt_turn.specs.declared.proto_error.ProtoReadError.{ProtoReadError}
use Rattle.wt_turn.specs.declared.proto_error.ProtoReadError.TheVariants.{IO}
use Rattle.wt_turn.specs.declared.stream_error.AlreadyStop.{AlreadyStop}
use Rattle.wt_wire.specs.FrameBytes.{FrameParts}
use Rattle.wt_wire.specs.declared.error.ErrorCode.{ErrorCode}

-- the reader of a stream's frames
abbrev pub FrameProgress : Type 0
FrameProgress = WalkProgress FrameSource (Result FrameParts ErrorCode)

-- a read takes what is unread, up to the end of a frame, and answers by it
pub record ReadsFrame {E : Type 0} (old new : FrameProgress) (t u : TransportState) (id : ℕ) (r : Result (Poll (Result FrameParts ProtoReadError)) E) : Type 0 where
  pub answer : ReadAnswers frame_decides old t id r
  pub left : ReadLeaves frame_decides old new t id r
  pub took : ReadTakes frame_decides old t u id r

-- there is nothing to read on
pub record ReadsNothing {E : Type 0} (old new : FrameProgress) (t u : TransportState) (r : Result (Poll (Result FrameParts ProtoReadError)) E) : Type 0 where
  pub answer : IfOk r (λ a. a ≡ Ready (Err (IO ends.NotConnected)))
  pub left : new ≡ old
  pub took : u ≡ t

-- by whether the half is there
abbrev pub ReadsIf : {E : Type 0} → Bool → (old new : FrameProgress) → (t u : TransportState) → ℕ → Result (Poll (Result FrameParts ProtoReadError)) E → Type 0
ReadsIf true old new t u id r = ReadsFrame old new t u id r
ReadsIf false old new t u id r = ReadsNothing old new t u r

-- what a stop answers
abbrev pub stop_said : Bool → ℕ → TransportState → Result (Unit {0}) AlreadyStop
stop_said stopped id t = if can_receive_now t id then stop_answer stopped else Ok tt

-- the transport after it
abbrev pub then_stop_once : Bool → ℕ → ℕ → TransportState → TransportState
then_stop_once stopped id code t = if can_receive_now t id then after_stop_once stopped t id code else t
