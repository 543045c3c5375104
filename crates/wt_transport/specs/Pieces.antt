-- Unread bytes in the pieces in which they came.
use Rattle.std.specs.Prelude.{ℕ, ◌-◌, ◌<◌, List, [], ◌∷◌, ◌++◌, length, drop, nat_lt, if◌then◌else◌}

-- no piece is empty
abbrev pub AreFilled : List (List ℕ) → Type 0
AreFilled [] = Unit {0}
AreFilled (p ∷ later) = (0 < length p) × AreFilled later

-- one more piece; an empty one is left out
abbrev pub with_piece : List (List ℕ) → List ℕ → List (List ℕ)
with_piece pieces [] = pieces
with_piece pieces (byte ∷ later) = pieces ++ (byte ∷ later) ∷ []

-- the piece in front; no bytes where there is none
abbrev pub first_piece : List (List ℕ) → List ℕ
first_piece [] = []
first_piece (p ∷ later) = p

-- n bytes are left out in front, and each piece that has none left
abbrev pub skip : ℕ → List (List ℕ) → List (List ℕ)
skip count [] = []
skip count (p ∷ later) = if nat_lt count (length p) then drop count p ∷ later else skip (count - length p) later
