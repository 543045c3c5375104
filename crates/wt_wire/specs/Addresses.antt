-- How a socket address is shown: RFC 3986 section 3.2.2 for the brackets.
use Rattle.std.specs.Prelude.{ℕ, ◌/◌, ◌%◌, ◌^◌, List, ◌++◌, codes, false}
use Rattle.std.specs.Fmt.{decimal, digits}
use Rattle.wt_wire.specs.declared.addr.Addr.{Addr}
use Rattle.wt_wire.specs.declared.addr.Addr.TheVariants.{V4, V6}

-- plain hexadecimal, in lower case and without leading zeros
abbrev pub hexadecimal : ℕ → List ℕ
hexadecimal n = digits 16 false n

-- four numbers with dots, the highest byte first
abbrev pub dotted_quad : ℕ → List ℕ
dotted_quad ip = decimal (ip / 2 ^ 24) ++ codes "." ++ decimal (ip / 2 ^ 16 % 256) ++ codes "." ++ decimal (ip / 2 ^ 8 % 256) ++ codes "." ++ decimal (ip % 256)

-- four groups of sixteen bits with colons, the highest first
abbrev pub four_groups : ℕ → List ℕ
four_groups half =
    hexadecimal (half / 2 ^ 48) ++ codes ":" ++ hexadecimal (half / 2 ^ 32 % 65536) ++ codes ":" ++ hexadecimal (half / 2 ^ 16 % 65536) ++ codes ":" ++ hexadecimal (half % 65536)

-- the groups of an address of IPv6
abbrev pub eight_groups : ℕ → List ℕ
eight_groups ip = four_groups (ip / 2 ^ 64) ++ codes ":" ++ four_groups (ip % 2 ^ 64)

-- an address and its port
abbrev pub address_text : Addr → List ℕ
address_text (V4 ip port) = dotted_quad ip ++ codes ":" ++ decimal port
address_text (V6 ip port) = codes "[" ++ eight_groups ip ++ codes "]:" ++ decimal port
