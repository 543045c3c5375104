-- The address that each choice of a builder means.
use Rattle.std.specs.Prelude.{ℕ}
use Rattle.wt_wire.specs.declared.addr.Addr.{Addr}
use Rattle.wt_wire.specs.declared.addr.Addr.TheVariants.{V4, V6}
use Rattle.wt_config.specs.declared.bind.BindAddressConfig.{BindAddressConfig}
use Rattle.wt_config.specs.declared.bind.BindAddressConfig.TheVariants.{AddressV4, AddressV6}
use Rattle.wt_config.specs.declared.bind.IpBindConfig.{IpBindConfig}
use Rattle.wt_config.specs.declared.bind.IpBindConfig.TheVariants.{LocalV4, LocalV6, LocalDual, InAddrAnyV4, InAddrAnyV6, InAddrAnyDual}
use Rattle.wt_config.specs.declared.bind.Ipv6DualStackConfig.TheVariants.{OsDefault, Deny, Allow}

-- 127.0.0.1 and 0.0.0.0 of IPv4, ::1 and :: of IPv6. A choice of IPv6 denies IPv4, a dual one allows it
abbrev pub bind_of : IpBindConfig → ℕ → BindAddressConfig
bind_of LocalV4 port = AddressV4 0x7f000001 port
bind_of LocalV6 port = AddressV6 1 port Deny
bind_of LocalDual port = AddressV6 1 port Allow
bind_of InAddrAnyV4 port = AddressV4 0 port
bind_of InAddrAnyV6 port = AddressV6 0 port Deny
bind_of InAddrAnyDual port = AddressV6 0 port Allow

-- an address of IPv6 is bound as the operating system has it by default
abbrev pub bind_of_address : Addr → BindAddressConfig
bind_of_address (V4 ip port) = AddressV4 ip port
bind_of_address (V6 ip port) = AddressV6 ip port OsDefault
