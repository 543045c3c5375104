-- How many pieces a core keeps, turn after turn.
use Rattle.std.proofs.Common.{arith}
use Rattle.std.specs.Prelude.{◌+◌, ◌≤◌, Err, Ok, OnOk, Result, ℕ}

-- what keeps no more keeps no more than that and what comes
pub no-more : {T E : Type 0} (r : Result T E) (a b n : ℕ) → OnOk r (a ≤ b) → OnOk r (a ≤ b + n)
no-more (Ok t) a b n p = omega (arith, p)
no-more (Err e) a b n p = tt

-- a result after a call that kept no more
pub whatever : {T E : Type 0} (r : Result T E) (a b : ℕ) → a ≤ b → OnOk r (a ≤ b)
whatever (Ok t) a b p = p
whatever (Err e) a b p = tt
