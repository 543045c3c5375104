-- What a stream's id says (RFC 9000, section 2.1).
use Rattle.std.specs.Prelude.{ℕ, ◌/◌, ◌%◌, Bool, ◌==◌, not}
use Rattle.wt_wire.specs.declared.side.Side.{Side}
use Rattle.wt_wire.specs.declared.side.Side.TheVariants.{Client, Server}

-- the second lowest bit is 0
abbrev pub is_bidirectional : ℕ → Bool
is_bidirectional id = id / 2 % 2 == 0

-- the lowest bit is 0
abbrev pub is_client_initiated : ℕ → Bool
is_client_initiated id = id % 2 == 0

-- this side opened it
abbrev pub is_local : Side → ℕ → Bool
is_local Client id = is_client_initiated id
is_local Server id = not (is_client_initiated id)
