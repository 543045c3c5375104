-- What holds of a reader.
use Rattle.std.specs.Prelude.{◌≡◌, ℕ, List, IfSome, Bool, true}
use Rattle.wt_proto.specs.declared.cursor.Cursor.{Cursor}
use Rattle.wt_wire.specs.declared.side.StreamEnd.{StreamEnd}
use Rattle.wt_proto.specs.declared.walk.Step.{Step}
use Rattle.wt_proto.specs.Cursor.{IsPlaced, progress_of}
use Rattle.wt_proto.specs.WalkProgress.{Reading, reached_in}
use Rattle.wt_proto.specs.Steady.{IsLawful}
use Rattle.wt_proto.specs.Walk.{outcome_at}

-- the outcome
abbrev pub outcome_in : {S O : Type 0} → (StreamEnd → S → Bool → O) → Reading S O → O
outcome_in unfinished r = outcome_at unfinished r.end (reached_in r.progress)

-- the walk is lawful, what a reader keeps of it is placed, what stops it is final, and what the reader keeps as outcome is that of a walk that nothing stopped
pub record IsReading {S O : Type 0} (start : S) (decide : S → List ℕ → Step S O) (wants : List ℕ → ℕ) (unfinished : StreamEnd → S → Bool
    → O) (final : O → Bool) (outcome_of : List ℕ → StreamEnd → O)
    (c : Cursor S O) (end : StreamEnd) (outcome : O) : Type 0 where
  pub lawful : IsLawful start decide wants unfinished final outcome_of
  pub placed : IsPlaced decide c
  pub stops : IfSome c.stop (λ o. final o ≡ true)
  pub waiting : outcome ≡ unfinished end c.state (reached_in (progress_of c)).between
