-- The first of a list that passes a test.
use Rattle.std.specs.Prelude.{[], ◌∷◌, Bool, List, if◌then◌else◌}

-- it is changed
abbrev pub changed_first : {X : Type 0} → (X → Bool) → (X → X) → List X → List X
changed_first test f [] = []
changed_first test f (x ∷ xs) = if test x then f x ∷ xs else x ∷ changed_first test f xs

-- it is left out
abbrev pub without_first : {X : Type 0} → (X → Bool) → List X → List X
without_first test [] = []
without_first test (x ∷ xs) = if test x then xs else x ∷ without_first test xs
