-- What an item at the front does to a walk, once it is read.
use Rattle.std.specs.Prelude.{ℕ, Option, Some, None}
use Rattle.wt_proto.specs.declared.walk.Step.{Step}
use Rattle.wt_proto.specs.declared.walk.Step.TheVariants.{Cut}

-- an item and how many bytes it takes; before it is read nothing is decided
abbrev pub step_of_item : {A S O : Type 0} → (ℕ → A → Step S O) → Option (A × ℕ) → Step S O
step_of_item effect None = Cut
step_of_item effect (Some item) = effect item.1 item.0
