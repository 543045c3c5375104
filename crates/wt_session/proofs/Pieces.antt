-- How many pieces a driver keeps, call after call.
use Rattle.std.proofs.Common.{arith, subst, sym}
use Rattle.std.specs.Prelude.{◌≡◌, ◌≤◌, Err, Ok, OnOk, Result, ℕ}
use Rattle.wt_driver_laws.specs.Driving.{pieces_of}
use Rattle.wt_kept.specs.Kept.{DriverNow}

-- a call that keeps no more, after one that kept no more
pub onward : {T E : Type 0} (r : Result T E) (a b c : ℕ) → OnOk r (a ≤ b) → b ≤ c → OnOk r (a ≤ c)
onward (Ok t) a b c p q = omega (arith, p, q)
onward (Err e) a b c p q = tt

-- a call that changes nothing, after one that kept no more
pub unchanged : {T E : Type 0} (r : Result T E) (d later : DriverNow) (n : ℕ) → later ≡ d → pieces_of d ≤ n → OnOk r (pieces_of later ≤ n)
unchanged (Ok t) d later n same p = subst (λ (x : DriverNow). pieces_of x ≤ n) (sym same) p
unchanged (Err e) d later n same p = tt
