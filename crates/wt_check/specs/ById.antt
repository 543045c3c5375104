-- Values by the ids of streams.
use Rattle.std.specs.Prelude.{[], ◌==◌, ◌∷◌, List, None, Option, Some, if◌then◌else◌, ℕ}

-- the value of a stream, in a list of ids with their values
abbrev pub value_at : {T : Type 0} → List (ℕ × T) → ℕ → Option T
value_at [] k = None
value_at (e ∷ entries) k = if e.0 == k then Some e.1 else value_at entries k
