-- The row has the same values, and grows.
use Rattle.std.proofs.Common.{◌≡◌, ◌+◌, ◌-◌, length, ℕ}
use Rattle.wt_core.specs.Rows.{in_row}
use Rattle.wt_core.proofs.rows.Row.grow.Given as goal

abbrev pub invariant-loop-self : goal.invariant-loop-self
invariant-loop-self g l = (n : ℕ) → in_row l.self n ≡ in_row l.fn.self n

abbrev pub decreases-loop-self : goal.decreases-loop-self
decreases-loop-self g l = l.index + 1 - length l.self
