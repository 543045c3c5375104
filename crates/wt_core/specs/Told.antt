-- What is looked up is the same in both.
use Rattle.std.specs.Prelude.{◌≡◌, Option, ℕ}
use Rattle.wt_core.specs.Held.{Held}

-- a look-up finds the same in both
pub record SameHeld (h k : Held) : Type 0 where
  pub sends : (i : ℕ) → h.sends i ≡ k.sends i
  pub recvs : (i : ℕ) → h.recvs i ≡ k.recvs i
  pub openings : (i : ℕ) → h.openings i ≡ k.openings i
  pub sessions : (name : Option ℕ) → h.sessions name ≡ k.sessions name
  pub stage : h.stage ≡ k.stage
  pub requested : h.requested ≡ k.requested
