-- What the lines of a script say so far.
use Rattle.std.specs.Prelude.{List, Option}
use Rattle.wt_wire.specs.declared.side.Side.{Side}
use Rattle.wt_turn.specs.declared.turn.Turn.{Turn}

-- the side, once a line gave it, and the turns in their order
pub record Lines : Type 0 where
  pub side : Option Side
  pub turns : List Turn
