-- What numbers of a head stand for.
use Rattle.std.specs.Prelude.{ℕ, ◌+◌, ◌*◌, ◌%◌, ◌^◌, ◌==◌, nat_lt, Option, Some, None, if◌then◌else◌}
use Rattle.std.specs.Option.{option_and_then, option_map, option_zip}
use Rattle.wt_turn.specs.declared.datagram_fact.DatagramFact.{DatagramFact}
use Rattle.wt_turn.specs.declared.datagram_fact.DatagramFact.TheVariants as facts
use Rattle.wt_wire.specs.declared.addr.Addr.{Addr}
use Rattle.wt_wire.specs.declared.addr.Addr.TheVariants as addresses
use Rattle.wt_abi.specs.declared.head.AddressHead.{AddressHead}
use Rattle.wt_abi.specs.declared.head.TurnHead.{TurnHead}

-- a number that stands in a variable-length integer: the id of a stream, or a code (RFC 9000, section 16)
abbrev pub varint_of : ℕ → Option ℕ
varint_of n = if nat_lt n (2 ^ 62) then Some n else None

-- the id of a session: that of its stream, a multiple of 4 (RFC 9000, section 2.1)
abbrev pub session_id_of : ℕ → Option ℕ
session_id_of n = option_and_then (λ (id : ℕ). if id % 4 == 0 then Some id else None) (varint_of n)

-- the session that a call names: 0 none, which is the only one, and 1 that with the id
abbrev pub session_of : TurnHead → Option (Option ℕ)
session_of h = if h.choice == 0 then Some None else (if h.choice == 1 then option_map Some (session_id_of h.session) else None)

-- the stream
abbrev pub stream_of : TurnHead → Option ℕ
stream_of h = varint_of h.id

-- the code
abbrev pub code_of : TurnHead → Option ℕ
code_of h = varint_of h.number

-- the stream and the code
abbrev pub stream_and_code : TurnHead → Option (ℕ × ℕ)
stream_and_code h = option_zip (stream_of h) (code_of h)

-- what holds of datagrams, by the choice
abbrev pub fact_of : TurnHead → Option DatagramFact
fact_of h =
    if h.choice == 0 then Some facts.Disabled else
    (if h.choice == 1 then Some facts.Unsupported else
    (if h.choice == 2 then Some (facts.Limit h.limit) else None))

-- the address of IPv4 of this number
abbrev pub ipv4_of : ℕ → ℕ → Option Addr
ipv4_of ip port = if nat_lt ip (2 ^ 32) then Some (addresses.V4 ip port) else None

-- an address, by its version
abbrev pub address_of : AddressHead → Option Addr
address_of a =
    if a.version == 4 then ipv4_of a.low a.port else
    (if a.version == 6 then Some (addresses.V6 (a.high * 2 ^ 64 + a.low) a.port) else None)
