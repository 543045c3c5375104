-- The verdict of a bidirectional stream is a steady walk, and stays where it isn't Incomplete.
use Rattle.std.proofs.Common.{◌≡◌, ℕ, ◌+◌, ◌-◌, true, List, ◌++◌, take, drop, Option, Some, refl, ap, arith}
use Rattle.wt_wire.specs.declared.side.StreamEnd.{StreamEnd}
use Rattle.wt_wire.specs.declared.side.StreamEnd.TheVariants.{Running}
use Rattle.wt_proto.specs.declared.walk.Step.TheVariants.{Stops}
use Rattle.wt_proto.specs.Bi.{bi_decides, bi_effect, bi_unfinished, bi_verdict_of, headers_verdict}
use Rattle.wt_wire.specs.FieldSection.{headers_of}
use Rattle.wt_wire.specs.Frames as frames
use Rattle.wt_proto.specs.FrameSteps.{step_of_item}
use Rattle.wt_proto.specs.Steady.{size_of_step, IsSteady}
use Rattle.wt_proto.specs.Uni.{is_final}
use Rattle.wt_wire.specs.Varint.{varint_at}
use Rattle.wt_proto.proofs.FrameLaws.{IsEffect, frames-steady, varint-on}
use Rattle.wt_proto.proofs.WalkLaws.{outcome-stays}

pub bi-effect : IsEffect bi_effect
bi-effect = record { size_is = size_is }
  where
    size_is : (offset n : ℕ) (f : frames.Frame) → size_of_step (bi_effect offset n f) ≡ Some n
    size_is offset n (frames.Skipped kind) = refl
    size_is offset n _ = refl

pub bi-steady : IsSteady bi_decides
unfolding bi_decides
bi-steady = frames-steady varint_at varint-on bi_effect bi-effect

-- a HEADERS frame at the front is judged
pub bi-headers : (offset : ℕ) (bytes : List ℕ) (header size : ℕ) → Some (frames.Headers (take size (drop header bytes)), header + size) ≡ frames.frame_at varint_at bytes →
    Stops (headers_verdict (offset + (header + size)) (headers_of (take (header + size - header) (drop header bytes)))) (header + size) ≡ bi_decides offset bytes
unfolding bi_decides
bi-headers offset bytes header size e =
    let same : header + size - header ≡ size = omega arith in
    rw same (ap (λ (f : Option (frames.Frame × ℕ)). step_of_item (bi_effect offset) f) e)

pub bi_verdict_stays : (bytes more : List ℕ) (end : StreamEnd) → is_final (bi_verdict_of bytes Running) ≡ true → bi_verdict_of (bytes ++ more) end ≡ bi_verdict_of bytes Running
unfolding bi_verdict_of
bi_verdict_stays bytes more end final = outcome-stays bi_decides bi-steady 0 bi_unfinished (λ v. is_final v) (λ s b. refl) bytes more end final
