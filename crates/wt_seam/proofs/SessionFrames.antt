-- A reader of a request's frames goes on for the session's.
use Rattle.std.proofs.Common.{◌≡◌, ℕ, false, List, Option, Some, None, refl, sym, ◌∙◌}
use Rattle.wt_wire.specs.Frames.{frame_at, frame_with_type, session_id_ignored}
use Rattle.wt_wire.specs.Varint.{varint_at}
use Rattle.wt_proto.specs.declared.walk.Step.TheVariants.{Cut}
use Rattle.wt_proto.proofs.FrameLaws.{decided-cut}
use Rattle.wt_seam.specs.declared.next_frame.FrameSource.{FrameSource}
use Rattle.wt_seam.specs.declared.next_frame.FrameSource.TheVariants.{Request, Control, Other}
use Rattle.wt_seam.specs.NextFrame.{frame_decides, frame_effect, is_signal_type}
use Rattle.wt_seam.proofs.NextFrameLaws.{frame-effect}

-- what isn't a signal is read alike
alike : (bytes : List ℕ) (t : Option (ℕ × ℕ)) → is_signal_type t ≡ false → frame_with_type varint_at bytes t ≡ frame_with_type session_id_ignored bytes t
alike bytes None e = refl
alike bytes (Some t) e = rw e refl

frames-alike : (bytes : List ℕ) → is_signal_type (varint_at bytes) ≡ false → frame_at varint_at bytes ≡ frame_at session_id_ignored bytes
unfolding frame_at
frames-alike bytes e = alike bytes (varint_at bytes) e

pub waits_on : (s : FrameSource) (kept : List ℕ) → frame_decides s kept ≡ Cut → is_signal_type (varint_at kept) ≡ false → frame_decides Other kept ≡ Cut
unfolding frame_decides
waits_on Request kept waits e =
    let none : frame_at varint_at kept ≡ None = decided-cut frame_effect frame-effect Request (frame_at varint_at kept) waits in
    rw (sym (frames-alike kept e) ∙ none) refl
waits_on Control kept waits e =
    let none : frame_at session_id_ignored kept ≡ None = decided-cut frame_effect frame-effect Control (frame_at session_id_ignored kept) waits in
    rw none refl
waits_on Other kept waits e = waits
