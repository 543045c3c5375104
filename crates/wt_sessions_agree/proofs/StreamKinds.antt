-- The kinds of streams: each is less than 4, and what an id of a kind is.
use Rattle.std.specs.Prelude.{◌%◌, ◌*◌, ◌+◌, ◌/◌, ◌==◌, ◌||◌, ◌≡◌, ◌<◌, Bool, false, true, ℕ}
use Rattle.std.proofs.Common.{◌∙◌, ap, arith, refl}
use Rattle.wt_promise.proofs.Accepted.{or-true}
use Rattle.wt_promise.proofs.Grows.{is_peers}
use Rattle.wt_turn.specs.Streams.{local_bi, local_uni, peer_bi, peer_uni}
use Rattle.wt_wire.specs.Ids.{is_bidirectional}
use Rattle.wt_wire.specs.declared.side.Side.{Side}
use Rattle.wt_wire.specs.declared.side.Side.TheVariants.{Client, Server}

pub uni-small : (side : Side) → peer_uni side < 4
uni-small Client = omega arith
uni-small Server = omega arith

pub bi-small : (side : Side) → peer_bi side < 4
bi-small Client = omega arith
bi-small Server = omega arith

pub local-uni-small : (side : Side) → local_uni side < 4
local-uni-small Client = omega arith
local-uni-small Server = omega arith

pub local-bi-small : (side : Side) → local_bi side < 4
local-bi-small Client = omega arith
local-bi-small Server = omega arith

is-zero : (n : ℕ) → n ≡ 0 → (n == 0) ≡ true
is-zero n e = rw e refl

is-one : (n : ℕ) → n ≡ 1 → (n == 0) ≡ false
is-one n e = rw e refl

pub uni-direction : (side : Side) (m : ℕ) → is_bidirectional (4 * m + peer_uni side) ≡ false
uni-direction Client m = is-one ((4 * m + 3) / 2 % 2) (omega arith)
uni-direction Server m = is-one ((4 * m + 2) / 2 % 2) (omega arith)

pub bi-direction : (side : Side) (m : ℕ) → is_bidirectional (4 * m + peer_bi side) ≡ true
bi-direction Client m = is-zero ((4 * m + 1) / 2 % 2) (omega arith)
bi-direction Server m = is-zero ((4 * m + 0) / 2 % 2) (omega arith)

pub uni-peers : (side : Side) (m : ℕ) → is_peers side (4 * m + peer_uni side) ≡ true
uni-peers Client m = let r : (4 * m + 3) % 4 ≡ 3 = omega arith in rw r refl
uni-peers Server m = let r : (4 * m + 2) % 4 ≡ 2 = omega arith in rw r refl

pub bi-peers : (side : Side) (m : ℕ) → is_peers side (4 * m + peer_bi side) ≡ true
bi-peers Client m = let r : (4 * m + 1) % 4 ≡ 1 = omega arith in rw r refl
bi-peers Server m = let r : (4 * m + 0) % 4 ≡ 0 = omega arith in rw r refl

-- an id of either of the peer's kinds is the peer's
pub unis-peers : (side : Side) (id : ℕ) → (id % 4 == peer_uni side) ≡ true → is_peers side id ≡ true
unis-peers side id e = ap (λ (b : Bool). b || (id % 4 == peer_bi side)) e

pub bis-peers : (side : Side) (id : ℕ) → (id % 4 == peer_bi side) ≡ true → is_peers side id ≡ true
bis-peers side id e = ap (λ (b : Bool). (id % 4 == peer_uni side) || b) e ∙ or-true (id % 4 == peer_uni side)
