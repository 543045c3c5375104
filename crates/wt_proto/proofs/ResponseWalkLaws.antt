-- The walk up to a response is steady, and stays once it is more than waiting.
use Rattle.std.proofs.Common.{◌≡◌, ℕ, ◌+◌, ◌-◌, true, List, ◌++◌, take, drop, Option, Some, refl, ap, arith}
use Rattle.wt_wire.specs.declared.side.StreamEnd.{StreamEnd}
use Rattle.wt_wire.specs.declared.side.StreamEnd.TheVariants.{Running}
use Rattle.wt_proto.specs.declared.walk.Step.TheVariants.{Stops}
use Rattle.wt_proto.specs.ResponseWalk.{headers_response, is_answered, response_decides, response_effect, response_unfinished, response_walk_of}
use Rattle.wt_wire.specs.FieldSection.{headers_of}
use Rattle.wt_wire.specs.Frames as frames
use Rattle.wt_proto.specs.FrameSteps.{step_of_item}
use Rattle.wt_proto.specs.Steady.{size_of_step, IsSteady}
use Rattle.wt_proto.proofs.FrameLaws.{IsEffect, frames-steady, session_id_ignored-on}
use Rattle.wt_proto.proofs.WalkLaws.{outcome-stays}

pub response-effect : IsEffect response_effect
response-effect = record { size_is = size_is }
  where
    size_is : (offset n : ℕ) (f : frames.Frame) → size_of_step (response_effect offset n f) ≡ Some n
    size_is offset n (frames.Skipped kind) = refl
    size_is offset n _ = refl

pub response-steady : IsSteady response_decides
unfolding response_decides
response-steady = frames-steady frames.session_id_ignored session_id_ignored-on response_effect response-effect

-- a HEADERS frame at the front is judged
pub response-headers : (offset : ℕ) (bytes : List ℕ) (header size : ℕ) → Some (frames.Headers (take size (drop header bytes)), header + size) ≡ frames.frame_at frames.session_id_ignored bytes →
    Stops (headers_response (offset + (header + size)) (headers_of (take (header + size - header) (drop header bytes)))) (header + size) ≡ response_decides offset bytes
unfolding response_decides
response-headers offset bytes header size e =
    let same : header + size - header ≡ size = omega arith in
    rw same (ap (λ (f : Option (frames.Frame × ℕ)). step_of_item (response_effect offset) f) e)

pub response_walk_stays : (bytes more : List ℕ) (end : StreamEnd) → is_answered (response_walk_of bytes Running) ≡ true → response_walk_of (bytes ++ more) end ≡ response_walk_of bytes Running
unfolding response_walk_of
response_walk_stays bytes more end final = outcome-stays response_decides response-steady 0 response_unfinished (λ w. is_answered w) (λ s b. refl) bytes more end final
