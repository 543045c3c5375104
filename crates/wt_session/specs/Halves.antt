-- The halves of a stream (this repository's own).
use Rattle.std.specs.Prelude.{ℕ}

-- the ids of a sending and of a receiving half
pub record Halves : Type 0 where
  pub send : ℕ
  pub recv : ℕ
