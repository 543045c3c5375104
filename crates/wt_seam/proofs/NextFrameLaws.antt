-- What a frame on a stream does is decided by its own bytes, and stays under more.
use Rattle.std.proofs.Common.{◌≡◌, ◌-◌, ℕ, zero, suc, Bool, true, false, cond, ◌≤◌, List, [], ◌∷◌, ◌++◌, length, Option, Some, None, Result, refl, ◌∙◌}
use Rattle.wt_wire.specs.declared.error.ErrorCode.{ErrorCode}
use Rattle.wt_wire.specs.declared.frame.FrameKind.TheVariants as kinds
use Rattle.wt_wire.specs.FrameBytes.{FrameParts}
use Rattle.wt_wire.specs.Frames as frames
use Rattle.wt_wire.specs.Varint.{varint_at}
use Rattle.wt_proto.specs.declared.walk.Step.{Step}
use Rattle.wt_proto.specs.declared.walk.Step.TheVariants.{Cut, Goes, Stops}
use Rattle.wt_proto.specs.FrameSteps.{step_of_item}
use Rattle.wt_proto.specs.WalkProgress.{WalkProgress, progress_over}
use Rattle.wt_proto.specs.Steady.{size_of_step, IsSteady}
use Rattle.wt_proto.specs.Walk.{step_on}
use Rattle.wt_proto.proofs.FrameLaws.{IsEffect, frames-steady, session_id_ignored-on, varint-on}
use Rattle.wt_seam.specs.declared.next_frame.FrameSource.{FrameSource}
use Rattle.wt_seam.specs.declared.next_frame.FrameSource.TheVariants.{Request, Control, Other}
use Rattle.wt_seam.specs.NextFrame.{frame_decides, frame_effect, given_frame, id_at}

skipped-taken : (b : Bool) (n kind : ℕ) → size_of_step (cond b (Stops (given_frame (kinds.Exercise kind) []) n) (Goes Control n)) ≡ Some n
skipped-taken true n kind = refl
skipped-taken false n kind = refl

pub frame-effect : IsEffect frame_effect
frame-effect = record { size_is = size_is }
  where
    size_is : (s : FrameSource) (n : ℕ) (f : frames.Frame) → size_of_step (frame_effect s n f) ≡ Some n
    size_is Request n (frames.Skipped kind) = refl
    size_is Control n (frames.Skipped kind) = skipped-taken (frames.is_exercise kind) n kind
    size_is Other n (frames.Skipped kind) = refl
    size_is s n _ = refl

with-id : IsSteady (λ (s : FrameSource) bytes. step_of_item (frame_effect s) (frames.frame_at varint_at bytes))
with-id = frames-steady varint_at varint-on frame_effect frame-effect

without-id : IsSteady (λ (s : FrameSource) bytes. step_of_item (frame_effect s) (frames.frame_at frames.session_id_ignored bytes))
without-id = frames-steady frames.session_id_ignored session_id_ignored-on frame_effect frame-effect

pub frame_steady : IsSteady frame_decides
unfolding frame_decides
frame_steady = record { nothing = nothing; more = more; front = front; some = some }
  where
    nothing : (s : FrameSource) → frame_decides s [] ≡ Cut
    nothing Request = with-id.nothing Request
    nothing Control = without-id.nothing Control
    nothing Other = without-id.nothing Other

    more : (s : FrameSource) (xs ys : List ℕ) (n : ℕ) → size_of_step (frame_decides s xs) ≡ Some n → frame_decides s (xs ++ ys) ≡ frame_decides s xs
    more Request = with-id.more Request
    more Control = without-id.more Control
    more Other = without-id.more Other

    front : (s : FrameSource) (xs ys : List ℕ) (n : ℕ) → size_of_step (frame_decides s (xs ++ ys)) ≡ Some n → n ≤ length xs → frame_decides s xs ≡ frame_decides s (xs ++ ys)
    front Request = with-id.front Request
    front Control = without-id.front Control
    front Other = without-id.front Other

    some : (s : FrameSource) (xs : List ℕ) (n : ℕ) → size_of_step (frame_decides s xs) ≡ Some n → 1 ≤ n
    some Request = with-id.some Request
    some Control = without-id.some Control
    some Other = without-id.some Other

-- ---- no frame changes where the frames stand

control-same : (b : Bool) (t : FrameSource) (m n kind : ℕ) → cond b (Stops (given_frame (kinds.Exercise kind) []) m) (Goes Control m) ≡ Goes t n → t ≡ Control
control-same true t m n kind e = absurd cc
control-same false t m n kind e = cc

effect-same : (s t : FrameSource) (m n : ℕ) (f : frames.Frame) → frame_effect s m f ≡ Goes t n → t ≡ s
effect-same Request t m n (frames.Skipped kind) e = cc
effect-same Control t m n (frames.Skipped kind) e = control-same (frames.is_exercise kind) t m n kind e
effect-same Other t m n (frames.Skipped kind) e = cc
effect-same s t m n _ e = absurd cc

decided-same : (s t : FrameSource) (n : ℕ) (item : Option (frames.Frame × ℕ)) → step_of_item (frame_effect s) item ≡ Goes t n → t ≡ s
decided-same s t n None e = absurd cc
decided-same s t n (Some f) e = effect-same s t f.1 n f.0 e

goes-same : (s t : FrameSource) (xs : List ℕ) (n : ℕ) → frame_decides s xs ≡ Goes t n → t ≡ s
unfolding frame_decides
goes-same s t xs n e = decided-same s t n (frames.frame_at (id_at s) xs) e

abbrev source_in : WalkProgress FrameSource (Result FrameParts ErrorCode) → FrameSource
source_in p = p.state

led-same : (s : FrameSource) (b : ℕ) (xs : List ℕ) → ((t : FrameSource) (stop : Option (Result FrameParts ErrorCode)) (n : ℕ) → source_in (progress_over frame_decides t stop n xs) ≡ t)
    → (d : Step FrameSource (Result FrameParts ErrorCode)) → frame_decides s (b ∷ xs) ≡ d
    → source_in (step_on (record { state = s; stop = None; skip = 0; kept = b ∷ xs }) (λ t stop n. progress_over frame_decides t stop (n - 1) xs) s d) ≡ s
led-same s b xs again Cut e = refl
led-same s b xs again (Goes t n) e = again t None (n - 1) ∙ goes-same s t (b ∷ xs) n e
led-same s b xs again (Stops o n) e = again s (Some o) (n - 1)

pub same-source : (xs : List ℕ) (s : FrameSource) (stop : Option (Result FrameParts ErrorCode)) (n : ℕ) → source_in (progress_over frame_decides s stop n xs) ≡ s
same-source [] s stop (suc n) = refl
same-source (b ∷ xs) s stop (suc n) = same-source xs s stop n
same-source [] s stop zero = refl
same-source (b ∷ xs) s (Some o) zero = refl
same-source (b ∷ xs) s None zero = led-same s b xs (same-source xs) (frame_decides s (b ∷ xs)) refl
