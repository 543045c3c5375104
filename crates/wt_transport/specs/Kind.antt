-- Kinds of streams by the end that opens them (RFC 9000, section 2.1).
use Rattle.std.specs.Prelude.{ℕ, Bool, true, false}
use Rattle.wt_wire.specs.declared.side.Side.{Side}
use Rattle.wt_turn.specs.Streams.{local_bi, local_uni, peer_bi, peer_uni}

-- the kind of the streams that this end opens, bidirectional or not
abbrev pub local_kind : Bool → Side → ℕ
local_kind true side = local_bi side
local_kind false side = local_uni side

-- the kind of the streams that the peer opens, bidirectional or not
abbrev pub peer_kind : Bool → Side → ℕ
peer_kind true side = peer_bi side
peer_kind false side = peer_uni side
