-- What is read of a source as a script (this repository's own).
use Rattle.std.specs.Prelude.{ℕ, ◌+◌, ◌≤◌, List, length, Option}
use Rattle.std.specs.Io.KnownBytes.{Consumes}

-- the greatest script, in bytes
abbrev pub script_limit : ℕ
script_limit = 16777216

-- bytes were read from a source, at most one more than the greatest script has
pub record ReadsFew (left_before left_now : Option (List ℕ)) : Type 0 where
  pub input : List ℕ
  pub few : length input ≤ script_limit + 1
  pub consumed : Consumes left_before left_now input
