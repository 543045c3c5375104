-- Lists in the order of a number that each of their elements has.
use Rattle.std.specs.Prelude.{[], ◌≤◌, ◌∷◌, List, if◌then◌else◌, nat_lt, suc, ℕ}

-- no number of these is below n
abbrev pub AllFrom : {X : Type 0} → (X → ℕ) → ℕ → List X → Type 0
AllFrom f n [] = Unit {0}
AllFrom f n (x ∷ xs) = (n ≤ f x) × AllFrom f n xs

-- their numbers ascend
abbrev pub IsOrdered : {X : Type 0} → (X → ℕ) → List X → Type 0
IsOrdered f [] = Unit {0}
IsOrdered f (x ∷ xs) = AllFrom f (f x) xs × IsOrdered f xs

-- how many in front have a number below n
abbrev pub place_by : {X : Type 0} → (X → ℕ) → ℕ → List X → ℕ
place_by f n [] = 0
place_by f n (x ∷ xs) = if nat_lt (f x) n then suc (place_by f n xs) else 0
