-- How far a copy is, and what it lacks of the piece that was read of its source last (this repository's own).
use Rattle.std.specs.Prelude.{ℕ, Bool, List, [], drop, false, if◌then◌else◌, length, nat_lt, true}
use Rattle.wt_relay.specs.declared.source.Progress.{Progress}
use Rattle.wt_relay.specs.declared.source.Progress.TheVariants.{Behind, Level, Opening}

-- the source isn't read before the copy gets on: it is being opened, or lacks some of the piece
abbrev pub holds : Progress → Bool
holds Opening = true
holds (Behind n) = true
holds _ = false

-- what the copy lacks of the piece
abbrev pub rest_of : List ℕ → Progress → List ℕ
rest_of piece (Behind n) = drop n piece
rest_of piece _ = []

-- how far a copy is that accepted so many bytes of the piece
abbrev pub progress_at : List ℕ → ℕ → Progress
progress_at piece n = if nat_lt n (length piece) then Behind n else Level

-- how far a copy is of a new piece: one that had all before has nothing of it
abbrev pub if_level : Progress → Progress
if_level Level = Behind 0
if_level progress = progress
