-- How large the integers after a full prefix are.
use Rattle.std.proofs.Common.{◌≡◌, ◌≤◌, ◌<◌, ◌-◌, ◌*◌, ℕ, zero, suc, ap, arith}
use Rattle.wt_wire.specs.PrefixedInteger.{seven_bits}

pub seven_more : (most : ℕ) → 0 < most → seven_bits most ≡ 128 * seven_bits (most - 1)
seven_more zero h = absurd (omega arith)
seven_more (suc n) h = ap (λ k. 128 * seven_bits k) (omega arith)

pub seven_few : (most : ℕ) → most ≤ 4 → seven_bits most ≤ 268435456
seven_few zero h = omega arith
seven_few (suc zero) h = omega arith
seven_few (suc (suc zero)) h = omega arith
seven_few (suc (suc (suc zero))) h = omega arith
seven_few (suc (suc (suc (suc zero)))) h = omega arith
seven_few (suc (suc (suc (suc (suc n))))) h = absurd (omega arith)

pub seven_one : (most : ℕ) → 0 < most → 128 ≤ seven_bits most
seven_one zero h = absurd (omega arith)
seven_one (suc zero) h = omega arith
seven_one (suc (suc n)) h = let fewer : 128 ≤ seven_bits (suc n) = seven_one (suc n) (omega arith) in omega arith
