-- What a read answers is the grammar's over all bytes since the last item, whatever the pieces.
use Rattle.std.proofs.Common.{◌≡◌, ℕ, Bool, true, false, List, ◌++◌, Option, Some, None, Result, Ok, Err, refl, sym, ap, subst, ◌∙◌}
use Rattle.std.specs.Prelude.{IfOk, OnOk}
use Rattle.wt_wire.specs.declared.error.ErrorCode.{ErrorCode}
use Rattle.wt_wire.specs.declared.side.StreamEnd.{StreamEnd}
use Rattle.wt_wire.specs.declared.side.StreamEnd.TheVariants.{Running, Fin, Reset}
use Rattle.wt_wire.specs.FrameBytes.{FrameParts}
use Rattle.wt_turn.specs.declared.poll.Poll.{Poll}
use Rattle.wt_turn.specs.declared.proto_error.ProtoReadError.{ProtoReadError}
use Rattle.wt_proto.specs.declared.walk.Step.{Step}
use Rattle.wt_proto.specs.WalkProgress.{WalkProgress, at_item, progress_after, progress_over, reached_in}
use Rattle.wt_proto.specs.Steady.{IsSteady}
use Rattle.wt_proto.specs.Walk.{Reached, whole_walk}
use Rattle.wt_proto.proofs.ProgressLaws.{fed-append, walk-progress}
use Rattle.wt_seam.specs.declared.next_frame.FrameSource.{FrameSource}
use Rattle.wt_seam.specs.declared.uni_header.UniHeader.{UniHeader}
use Rattle.wt_seam.specs.NextFrame.{frame_decides}
use Rattle.wt_seam.specs.UniHeader.{header_decides}
use Rattle.wt_seam.specs.Reading.{HasBegun, after_read, answer_at_end, handed_out, reached_answer, since_item, stopped_or_ended}
use Rattle.wt_seam.proofs.HeaderLaws.{header_steady}
use Rattle.wt_seam.proofs.NextFrameLaws.{frame_steady, same-source}

pub begun_reached : {S O : Type 0} (decide : S → List ℕ → Step S O) → IsSteady decide → (s : S) (p : WalkProgress S O) (bytes more : List ℕ) → HasBegun decide s p bytes → reached_in (progress_after decide p more) ≡ whole_walk decide s (bytes ++ more)
begun_reached {S = S} {O = O} decide steady s p bytes more has =
    ap (λ (q : WalkProgress S O). reached_in (progress_after decide q more)) has
    ∙ (ap (λ (q : WalkProgress S O). reached_in q) (fed-append decide steady bytes more s None 0) ∙ sym (walk-progress decide (bytes ++ more) s None 0))

pub begun_answer : {S G : Type 0} (decide : S → List ℕ → Step S (Result G ErrorCode)) → IsSteady decide → (s : S) (p : WalkProgress S (Result G ErrorCode)) (bytes more : List ℕ) (open_ : Bool) (end : StreamEnd) → HasBegun decide s p bytes →
    reached_answer open_ end (reached_in (progress_after decide p more)) ≡ reached_answer open_ end (whole_walk decide s (bytes ++ more))
begun_answer {S = S} {G = G} decide steady s p bytes more open_ end has = ap (λ (r : Reached S (Result G ErrorCode)). reached_answer open_ end r) (begun_reached decide steady s p bytes more has)

-- ---- the bytes since the last item

ended-since : (G : Type 0) (open_ : Bool) (end : StreamEnd) (between : Bool) (bytes : List ℕ) → since_item {G = G} (answer_at_end open_ end between) bytes ≡ bytes
ended-since G true Running between bytes = refl
ended-since G false Running between bytes = refl
ended-since G open_ Fin true bytes = refl
ended-since G open_ Fin false bytes = refl
ended-since G open_ (Reset code) between bytes = refl

handed-since : {S G : Type 0} (decide : S → List ℕ → Step S (Result G ErrorCode)) (s : S) (p : WalkProgress S (Result G ErrorCode)) (bytes : List ℕ) (open_ : Bool) (end : StreamEnd) → p.state ≡ s → HasBegun decide s p bytes
    → (stop : Option (Result G ErrorCode)) (between : Bool) → HasBegun decide s (handed_out stop p) (since_item (stopped_or_ended open_ end between stop) bytes)
handed-since {S = S} {G = G} decide s p bytes open_ end same has (Some (Ok item)) between = ap (λ (x : S). at_item {O = Result G ErrorCode} x) same
handed-since decide s p bytes open_ end same has (Some (Err fault)) between = has
handed-since {S = S} {G = G} decide s p bytes open_ end same has None between = has ∙ ap (λ (xs : List ℕ). progress_over decide s None 0 xs) (sym (ended-since G open_ end between bytes))

-- what a read leaves has begun with the bytes after the last item, where no item changes the state
pub item_since : {S G E : Type 0} (decide : S → List ℕ → Step S (Result G ErrorCode)) → IsSteady decide → (s : S) → ((xs : List ℕ) → (progress_over decide s None 0 xs).state ≡ s)
    → (r : Result (Poll (Result G ProtoReadError)) E) (p new : WalkProgress S (Result G ErrorCode)) (more : List ℕ) (open_ : Bool) (end : StreamEnd)
    → IfOk r (λ a. a ≡ reached_answer open_ end (reached_in (progress_after decide p more))) → OnOk r (new ≡ after_read (progress_after decide p more))
    → (bytes : List ℕ) → HasBegun decide s p bytes → IfOk r (λ a. HasBegun decide s new (since_item a (bytes ++ more)))
item_since decide steady s stays (Err e) p new more open_ end reported left bytes has = tt
item_since {S = S} {G = G} decide steady s stays (Ok a) p new more open_ end reported left bytes has =
    let q : WalkProgress S (Result G ErrorCode) = progress_after decide p more in
    let begun : HasBegun decide s q (bytes ++ more) =
    ap (λ (x : WalkProgress S (Result G ErrorCode)). progress_after decide x more) has ∙ fed-append decide steady bytes more s None 0 in
    let same : q.state ≡ s = ap (λ (x : WalkProgress S (Result G ErrorCode)). x.state) begun ∙ stays (bytes ++ more) in
    left
    ∙ (handed-since decide s q (bytes ++ more) open_ end same begun (reached_in q).stop (reached_in q).between
    ∙ ap (λ (x : Poll (Result G ProtoReadError)). progress_over decide s None 0 (since_item x (bytes ++ more))) (sym reported))

-- the same of frames
pub frames_since : {E : Type 0} (r : Result (Poll (Result FrameParts ProtoReadError)) E) (s : FrameSource) (p new : WalkProgress FrameSource (Result FrameParts ErrorCode)) (more : List ℕ) (open_ : Bool) (end : StreamEnd)
    → IfOk r (λ a. a ≡ reached_answer open_ end (reached_in (progress_after frame_decides p more))) → OnOk r (new ≡ after_read (progress_after frame_decides p more))
    → (bytes : List ℕ) → HasBegun frame_decides s p bytes → IfOk r (λ a. HasBegun frame_decides s new (since_item a (bytes ++ more)))
frames_since r s p new more open_ end reported left = item_since frame_decides frame_steady s (λ xs. same-source xs s None 0) r p new more open_ end reported left

-- and of a header
pub header_since : (a : Poll (Result UniHeader ProtoReadError)) (p new : WalkProgress (Unit {0}) (Result UniHeader ErrorCode)) (more : List ℕ) (open_ : Bool) (end : StreamEnd)
    → a ≡ reached_answer open_ end (reached_in (progress_after header_decides p more)) → new ≡ after_read (progress_after header_decides p more)
    → (bytes : List ℕ) → HasBegun header_decides tt p bytes → HasBegun header_decides tt new (since_item a (bytes ++ more))
header_since a p new more open_ end reported left = item_since {E = Unit {0}} header_decides header_steady tt (λ xs. refl) (Ok a) p new more open_ end reported left

-- where the read answers so
pub header_since_as : (a b : Poll (Result UniHeader ProtoReadError)) (p new : WalkProgress (Unit {0}) (Result UniHeader ErrorCode)) (more : List ℕ) (open_ : Bool) (end : StreamEnd)
    → a ≡ reached_answer open_ end (reached_in (progress_after header_decides p more)) → new ≡ after_read (progress_after header_decides p more) → a ≡ b
    → (bytes : List ℕ) → HasBegun header_decides tt p bytes → HasBegun header_decides tt new (since_item b (bytes ++ more))
header_since_as a b p new more open_ end reported left is bytes has =
    subst (λ (x : Poll (Result UniHeader ProtoReadError)). HasBegun header_decides tt new (since_item x (bytes ++ more))) is (header_since a p new more open_ end reported left bytes has)
