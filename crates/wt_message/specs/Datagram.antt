-- HTTP/3 datagrams (RFC 9297 section 2.1).
use Rattle.std.specs.Prelude.{ℕ, ◌^◌, nat_lt, List, ◌++◌, drop, Option, Some, None, Result, ok_or, if◌then◌else◌}
use Rattle.wt_wire.specs.declared.error.ErrorCode.{ErrorCode}
use Rattle.wt_wire.specs.declared.error.ErrorCode.TheVariants.{Datagram}
use Rattle.wt_wire.specs.OptionBind.{◌>>=◌}
use Rattle.wt_wire.specs.Varint.{varint_at, varint_bytes}

-- a quarter stream id of at most 2 ^ 60 - 1, and the payload
abbrev pub quarter_and_payload : List ℕ → Option (ℕ × List ℕ)
quarter_and_payload bytes = do
  quarter ← varint_at bytes
  if nat_lt quarter.0 (2 ^ 60) then Some (quarter.0, drop quarter.1 bytes) else None

-- what a datagram says; an id that is cut or greater is H3_DATAGRAM_ERROR
unfoldable pub datagram_of : List ℕ → Result (ℕ × List ℕ) ErrorCode
datagram_of bytes = ok_or (quarter_and_payload bytes) Datagram

-- how one is written
abbrev pub datagram_bytes : ℕ → List ℕ → List ℕ
datagram_bytes quarter payload = varint_bytes quarter ++ payload
