-- What a walk can rest on: a decision, once made, stays, and rests on its item's own bytes alone.
use Rattle.std.specs.Prelude.{◌≡◌, ℕ, ◌<◌, ◌≤◌, List, [], ◌++◌, length, Option, Some, None, Bool, true}
use Rattle.wt_wire.specs.declared.side.StreamEnd.{StreamEnd}
use Rattle.wt_proto.specs.declared.walk.Step.{Step}
use Rattle.wt_proto.specs.declared.walk.Step.TheVariants.{Cut, Goes, Stops}
use Rattle.wt_proto.specs.Walk.{outcome_at, whole_walk}

-- how many bytes are taken
abbrev pub size_of_step : {S O : Type 0} → Step S O → Option ℕ
size_of_step Cut = None
size_of_step (Goes t n) = Some n
size_of_step (Stops o n) = Some n

-- what a walk decides stays under more bytes, and was decided by the item's own bytes
pub record IsSteady {S O : Type 0} (decide : S → List ℕ → Step S O) : Type 0 where
  pub nothing : (s : S) → decide s [] ≡ Cut
  pub more : (s : S) (xs ys : List ℕ) (n : ℕ) → size_of_step (decide s xs) ≡ Some n → decide s (xs ++ ys) ≡ decide s xs
  pub front : (s : S) (xs ys : List ℕ) (n : ℕ) → size_of_step (decide s (xs ++ ys)) ≡ Some n → n ≤ length xs → decide s xs ≡ decide s (xs ++ ys)
  pub some : (s : S) (xs : List ℕ) (n : ℕ) → size_of_step (decide s xs) ≡ Some n → 1 ≤ n

-- with fewer bytes than are wanted nothing is decided; as long as nothing is, more are wanted than are there
pub record IsAwaited {S O : Type 0} (decide : S → List ℕ → Step S O) (wants : List ℕ → ℕ) : Type 0 where
  pub still : (s : S) (xs ys : List ℕ) → length (xs ++ ys) < wants xs → decide s (xs ++ ys) ≡ Cut
  pub onward : (s : S) (xs : List ℕ) → decide s xs ≡ Cut → length xs < wants xs
  pub few : (xs : List ℕ) → wants xs ≤ 4112

-- what a walk has to meet: beside the two, its outcome is that of where it stands, what stops it is final, and where nothing did the end alone decides whether its outcome is
pub record IsLawful {S O : Type 0} (start : S) (decide : S → List ℕ → Step S O) (wants : List ℕ → ℕ) (unfinished : StreamEnd → S → Bool → O) (final : O → Bool) (outcome_of : List ℕ → StreamEnd → O) : Type 0 where
  pub steady : IsSteady decide
  pub awaited : IsAwaited decide wants
  pub reaches : (bytes : List ℕ) (end : StreamEnd) → outcome_of bytes end ≡ outcome_at unfinished end (whole_walk decide start bytes)
  pub stops : (s : S) (bytes : List ℕ) (o : O) (n : ℕ) → decide s bytes ≡ Stops o n → final o ≡ true
  pub by_end : (end : StreamEnd) (s t : S) (b c : Bool) → final (unfinished end s b) ≡ final (unfinished end t c)
