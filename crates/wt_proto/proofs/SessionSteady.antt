-- The walk over a session's stream is steady: what it decides stays under more bytes, and rests on its item's own bytes.
use Rattle.std.proofs.Common.{◌≡◌, ℕ, zero, suc, ◌+◌, ◌≤◌, Bool, true, false, List, [], ◌∷◌, ◌++◌, length, drop, Option, Some, None, cond, refl, sym, ap, ◌∙◌, arith}
use Rattle.std.specs.Prelude.{◌==◌}
use Rattle.std.proofs.lemmas.List.{length-drop, drop-append-le}
use Rattle.wt_proto.specs.declared.session_walk.SessionWalk.{SessionWalk}
use Rattle.wt_proto.specs.declared.walk.Step.TheVariants.{Cut, Stops}
use Rattle.wt_proto.specs.Steady.{IsSteady, size_of_step}
use Rattle.wt_proto.specs.WalkProgress.{WalkProgress, progress_after, reached_in}
use Rattle.wt_proto.proofs.WalkLaws.{outcome-stays}
use Rattle.wt_proto.specs.SessionWalk.{SessionProgress, capsule_decides, data_step, frame_step, frame_step_with_length, frame_step_with_type, is_over, session_decides, session_start, session_step, session_unfinished, session_walk_of}
use Rattle.wt_wire.specs.declared.side.StreamEnd.{StreamEnd}
use Rattle.wt_wire.specs.declared.side.StreamEnd.TheVariants.{Running}
use Rattle.wt_wire.specs.Frames.{signal_type}
use Rattle.wt_proto.specs.declared.session_walk.SessionWalk.TheVariants as walks
use Rattle.wt_wire.specs.declared.error.ErrorCode.TheVariants.{FrameUnexpected}
use Rattle.std.proofs.lemmas.Grind.{common_steps}
use Rattle.wt_wire.specs.Varint.{varint_at}
use Rattle.wt_wire.proofs.VarintLaws.{varint_at-front, varint_at-more, varint_at-within}

-- a frame takes its header at least
frame-size : (capsules : WalkProgress (Unit {0}) SessionWalk) (kind header size n : ℕ) → size_of_step (frame_step capsules kind header size) ≡ Some n → header ≤ n
frame-size capsules kind header size n e = grind (arith, common_steps)

data-size : (left : ℕ) (capsules : WalkProgress (Unit {0}) SessionWalk) (o : Option SessionWalk) → size_of_step (data_step left capsules o) ≡ Some 1
data-size left capsules None = refl
data-size left capsules (Some o) = refl

module _ (capsules : WalkProgress (Unit {0}) SessionWalk) where
  length-more : (xs ys : List ℕ) (kind offset n : ℕ) (l : Option (ℕ × ℕ)) → varint_at xs ≡ l → size_of_step (frame_step_with_length capsules kind offset l) ≡ Some n
      → frame_step_with_length capsules kind offset (varint_at (xs ++ ys)) ≡ frame_step_with_length capsules kind offset l
  length-more xs ys kind offset n None e f = absurd cc
  length-more xs ys kind offset n (Some m) e f = ap (frame_step_with_length capsules kind offset) (varint_at-more xs ys m e)

  length-front : (xs ys : List ℕ) (kind offset n : ℕ) (l : Option (ℕ × ℕ)) → varint_at (xs ++ ys) ≡ l → size_of_step (frame_step_with_length capsules kind offset l) ≡ Some n
      → n ≤ offset + length xs → frame_step_with_length capsules kind offset (varint_at xs) ≡ frame_step_with_length capsules kind offset l
  length-front xs ys kind offset n None e f le = absurd cc
  length-front xs ys kind offset n (Some m) e f le =
      ap (frame_step_with_length capsules kind offset) (varint_at-front xs ys m e (let g = frame-size capsules kind (offset + m.1) m.0 n f in omega (arith, g, le)))

  length-some : (kind offset n : ℕ) (l : Option (ℕ × ℕ)) → size_of_step (frame_step_with_length capsules kind offset l) ≡ Some n → offset ≤ n
  length-some kind offset n None f = absurd cc
  length-some kind offset n (Some m) f = let g = frame-size capsules kind (offset + m.1) m.0 n f in omega (arith, g)

  type-more : (xs ys : List ℕ) (n : ℕ) (m : Option (ℕ × ℕ)) → varint_at xs ≡ m → size_of_step (frame_step_with_type capsules xs m) ≡ Some n
      → frame_step_with_type capsules (xs ++ ys) (varint_at (xs ++ ys)) ≡ frame_step_with_type capsules xs m
  type-more xs ys n None e f = absurd cc
  type-more xs ys n (Some m) e f =
      ap (frame_step_with_type capsules (xs ++ ys)) (varint_at-more xs ys m e) ∙ by (m.0 == signal_type) f
    where
      moved : drop m.1 (xs ++ ys) ≡ drop m.1 xs ++ ys
      moved = drop-append-le m.1 xs ys ((varint_at-within xs m e).2)

      by : (b : Bool) → size_of_step (cond b (Stops (walks.Fault FrameUnexpected) m.1) (frame_step_with_length capsules m.0 m.1 (varint_at (drop m.1 xs)))) ≡ Some n
          → cond b (Stops (walks.Fault FrameUnexpected) m.1) (frame_step_with_length capsules m.0 m.1 (varint_at (drop m.1 (xs ++ ys))))
          ≡ cond b (Stops (walks.Fault FrameUnexpected) m.1) (frame_step_with_length capsules m.0 m.1 (varint_at (drop m.1 xs)))
      by true g = refl
      by false g = ap (λ zs. frame_step_with_length capsules m.0 m.1 (varint_at zs)) moved ∙ length-more (drop m.1 xs) ys m.0 m.1 n (varint_at (drop m.1 xs)) refl g

  type-some : (xs : List ℕ) (n : ℕ) (m : Option (ℕ × ℕ)) → varint_at xs ≡ m → size_of_step (frame_step_with_type capsules xs m) ≡ Some n → 1 ≤ n
  type-some xs n None e f = absurd cc
  type-some xs n (Some m) e f = by (m.0 == signal_type) f
    where
      by : (b : Bool) → size_of_step (cond b (Stops (walks.Fault FrameUnexpected) m.1) (frame_step_with_length capsules m.0 m.1 (varint_at (drop m.1 xs)))) ≡ Some n → 1 ≤ n
      by true g = let w = varint_at-within xs m e in grind (arith, common_steps, w)
      by false g = let w = varint_at-within xs m e in let h = length-some m.0 m.1 n (varint_at (drop m.1 xs)) g in omega (arith, w, h)

  type-front : (xs ys : List ℕ) (n : ℕ) (m : Option (ℕ × ℕ)) → varint_at (xs ++ ys) ≡ m → size_of_step (frame_step_with_type capsules (xs ++ ys) m) ≡ Some n → n ≤ length xs
      → frame_step_with_type capsules xs (varint_at xs) ≡ frame_step_with_type capsules (xs ++ ys) m
  type-front xs ys n None e f le = absurd cc
  type-front xs ys n (Some m) e f le =
      ap (frame_step_with_type capsules xs) (varint_at-front xs ys m e within) ∙ by (m.0 == signal_type) f
    where
      header : (b : Bool) → size_of_step (cond b (Stops (walks.Fault FrameUnexpected) m.1) (frame_step_with_length capsules m.0 m.1 (varint_at (drop m.1 (xs ++ ys))))) ≡ Some n → m.1 ≤ n
      header true g = grind (arith, common_steps)
      header false g = length-some m.0 m.1 n (varint_at (drop m.1 (xs ++ ys))) g

      within : m.1 ≤ length xs
      within = let h = header (m.0 == signal_type) f in omega (arith, h, le)

      moved : drop m.1 (xs ++ ys) ≡ drop m.1 xs ++ ys
      moved = drop-append-le m.1 xs ys within

      by : (b : Bool) → size_of_step (cond b (Stops (walks.Fault FrameUnexpected) m.1) (frame_step_with_length capsules m.0 m.1 (varint_at (drop m.1 (xs ++ ys))))) ≡ Some n
          → cond b (Stops (walks.Fault FrameUnexpected) m.1) (frame_step_with_length capsules m.0 m.1 (varint_at (drop m.1 xs)))
          ≡ cond b (Stops (walks.Fault FrameUnexpected) m.1) (frame_step_with_length capsules m.0 m.1 (varint_at (drop m.1 (xs ++ ys))))
      by true g = refl
      by false g =
          length-front (drop m.1 xs) ys m.0 m.1 n (varint_at (drop m.1 (xs ++ ys))) (ap varint_at (sym moved)) g (omega (arith, le, within, length-drop m.1 xs))

pub session-steady : IsSteady session_decides
unfolding session_decides
session-steady = record { nothing = nothing; more = more; front = front; some = some }
  where
    nothing : (s : SessionProgress) → session_step s.data_left s.capsules [] ≡ Cut
    nothing s = refl

    more-by : (left : ℕ) (capsules : WalkProgress (Unit {0}) SessionWalk) (xs ys : List ℕ) (n : ℕ) → size_of_step (session_step left capsules xs) ≡ Some n
        → session_step left capsules (xs ++ ys) ≡ session_step left capsules xs
    more-by left capsules [] ys n e = absurd cc
    more-by zero capsules (b ∷ xs) ys n e = type-more capsules (b ∷ xs) ys n (varint_at (b ∷ xs)) refl e
    more-by (suc left) capsules (b ∷ xs) ys n e = refl

    some-by : (left : ℕ) (capsules : WalkProgress (Unit {0}) SessionWalk) (xs : List ℕ) (n : ℕ) → size_of_step (session_step left capsules xs) ≡ Some n → 1 ≤ n
    some-by left capsules [] n e = absurd cc
    some-by zero capsules (b ∷ xs) n e = type-some capsules (b ∷ xs) n (varint_at (b ∷ xs)) refl e
    some-by (suc left) capsules (b ∷ xs) n e =
        let f = data-size left (progress_after capsule_decides capsules (b ∷ [])) (reached_in (progress_after capsule_decides capsules (b ∷ []))).stop in grind (arith, common_steps, f, e)

    front-by : (left : ℕ) (capsules : WalkProgress (Unit {0}) SessionWalk) (xs ys : List ℕ) (n : ℕ) → size_of_step (session_step left capsules (xs ++ ys)) ≡ Some n → n ≤ length xs
        → session_step left capsules xs ≡ session_step left capsules (xs ++ ys)
    front-by left capsules [] ys n e le = absurd (let f = some-by left capsules ys n e in omega (arith, f, le))
    front-by zero capsules (b ∷ xs) ys n e le = type-front capsules (b ∷ xs) ys n (varint_at (b ∷ (xs ++ ys))) refl e le
    front-by (suc left) capsules (b ∷ xs) ys n e le = refl

    more : (s : SessionProgress) (xs ys : List ℕ) (n : ℕ) → size_of_step (session_step s.data_left s.capsules xs) ≡ Some n → session_step s.data_left s.capsules (xs ++ ys) ≡ session_step s.data_left s.capsules xs
    more s xs ys n e = more-by s.data_left s.capsules xs ys n e

    front : (s : SessionProgress) (xs ys : List ℕ) (n : ℕ) → size_of_step (session_step s.data_left s.capsules (xs ++ ys)) ≡ Some n → n ≤ length xs
        → session_step s.data_left s.capsules xs ≡ session_step s.data_left s.capsules (xs ++ ys)
    front s xs ys n e le = front-by s.data_left s.capsules xs ys n e le

    some : (s : SessionProgress) (xs : List ℕ) (n : ℕ) → size_of_step (session_step s.data_left s.capsules xs) ≡ Some n → 1 ≤ n
    some s xs n e = some-by s.data_left s.capsules xs n e

pub session_walk_stays : (bytes more : List ℕ) (end : StreamEnd) → is_over (session_walk_of bytes Running) ≡ true → session_walk_of (bytes ++ more) end ≡ session_walk_of bytes Running
unfolding session_walk_of
session_walk_stays bytes more end over = outcome-stays session_decides session-steady session_start session_unfinished (λ w. is_over w) (λ s b. refl) bytes more end over
