-- What a call that feeds a reader a piece leaves it at, byte by byte.
use Rattle.std.proofs.Common.{◌≡◌, ℕ, ◌<◌, Bool, false, List, [], ◌++◌, take, refl, sym, ap, ◌∙◌, arith}
use Rattle.wt_proto.specs.declared.walk.Step.{Step}
use Rattle.wt_proto.specs.Reading.{outcome_in}
use Rattle.wt_proto.specs.Steady.{IsSteady}
use Rattle.wt_proto.specs.WalkProgress.{Advances, IsProper, Reading, WalkProgress, fed_reading, progress_after, reached_in}
use Rattle.wt_proto.proofs.ProgressLaws.{fed-fed, fed-nothing}
use Rattle.wt_wire.specs.declared.side.StreamEnd.{StreamEnd}

module _ {S O : Type 0} (decide : S → List ℕ → Step S O) (steady : IsSteady decide) where
  -- bytes after other bytes are both
  pub fed-joins : (r : Reading S O) (xs ys : List ℕ) → fed_reading decide (fed_reading decide r xs) ys ≡ fed_reading decide r (xs ++ ys)
  fed-joins r xs ys = ap (λ (p : WalkProgress S O). record { progress = p; end = r.end }) (fed-fed decide steady r.progress xs ys)

  -- no bytes change nothing
  pub fed-none : (r : Reading S O) → IsProper decide r.progress → fed_reading decide r [] ≡ r
  fed-none r proper = ap (λ (p : WalkProgress S O). record { progress = p; end = r.end }) (fed-nothing decide steady r.progress proper)

  module _ (unfinished : StreamEnd → S → Bool → O) (final : O → Bool) (by_end : (end : StreamEnd) (s t : S) (b c : Bool) → final (unfinished end s b) ≡ final (unfinished end t c))
      (old : Reading S O) (new : WalkProgress S O) (piece : List ℕ) (n : ℕ) (proper : IsProper decide old.progress) (a : Advances decide old.progress new piece n) where
    open-at : (k : ℕ) → k < n → outcome_in unfinished (fed_reading decide old (take k piece))
        ≡ unfinished old.end (reached_in (progress_after decide old.progress (take k piece))).state (reached_in (progress_after decide old.progress (take k piece))).between
    open-at k lt = rw (a.running k lt) refl

    -- in front of the last byte that is taken the outcome isn't final
    pub feed-open : (0 < n → final (outcome_in unfinished old) ≡ false) → (k : ℕ) → k < n → final (outcome_in unfinished (fed_reading decide old (take k piece))) ≡ false
    feed-open goes k lt =
        let first : final (outcome_in unfinished (fed_reading decide old [])) ≡ false =
        ap (λ (r : Reading S O). final (outcome_in unfinished r)) (fed-none old proper) ∙ goes (omega (arith, lt)) in
        ap final (open-at k lt) ∙ (by_end old.end _ _ _ _ ∙ (ap final (sym (open-at 0 (omega (arith, lt)))) ∙ first))
