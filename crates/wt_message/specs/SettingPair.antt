-- Pairs of a SETTINGS payload (RFC 9114, section 7.2.4).
use Rattle.std.specs.Prelude.{ℕ, ◌+◌, List, drop, Option, Some}
use Rattle.wt_wire.specs.OptionBind.{◌>>=◌}
use Rattle.wt_wire.specs.Varint.{varint_at}

-- two variable-length integers: an id, a value, and how many bytes they take
pub record ParsedPair : Type 0 where
  pub id : ℕ
  pub value : ℕ
  pub len : ℕ

-- the pair at the front
unfoldable pub pair_at : List ℕ → Option ParsedPair
pair_at bytes = do
  id ← varint_at bytes
  value ← varint_at (drop id.1 bytes)
  Some (record { id = id.0; value = value.0; len = id.1 + value.1 })
