-- What a client is configured to.
use Rattle.std.specs.Global.{Global}
use Rattle.std.specs.Prelude.{ℕ, List, Option, Some, None}
use Rattle.std.specs.declared.dyn_box.DynBox.{DynBox}
use Rattle.wt_wire.specs.declared.lookup.Lookup.{Lookup}
use Rattle.wt_config.specs.Bind.{bind_of}
use Rattle.wt_config.specs.declared.bind.BindAddressConfig.{BindAddressConfig}
use Rattle.wt_config.specs.declared.bind.IpBindConfig.TheVariants.{InAddrAnyDual}
use Rattle.wt_config.specs.declared.client.ClientConfig.{ClientConfig}
use Rattle.wt_config.specs.declared.idle.IdleTimeout.{IdleTimeout}
use Rattle.wt_config.specs.declared.idle.IdleTimeout.TheVariants.{Unset}
use Rattle.wt_config.specs.declared.states.WantsTransportConfigClient.{WantsTransportConfigClient}
use Rattle.wt_config.specs.declared.tls.Opaque.{Opaque}
use Rattle.wt_config.specs.declared.tls.TlsChoice.{TlsChoice}
use Rattle.wt_config.specs.declared.tls.TlsChoice.TheVariants.{Native}

-- the choices of a client's builder, but for the resolver
pub record ClientSettings : Type 0 where
  pub bind : BindAddressConfig
  pub tls : TlsChoice
  pub transport : Option Opaque
  pub idle : IdleTimeout
  pub keep_alive : Option ℕ

-- the settings with which the transport is still to be chosen: an idle time that is left to the QUIC
-- library, and no keep-alive
abbrev pub client_settings : BindAddressConfig → TlsChoice → Option Opaque → ClientSettings
client_settings bind tls transport = record {
  bind = bind;
  tls = tls;
  transport = transport;
  idle = Unset;
  keep_alive = None;
}

-- any address of IPv6 and IPv4, any port, and the certificates that the machine trusts
abbrev pub default_settings : ClientSettings
default_settings = client_settings (bind_of InAddrAnyDual 0) Native None

-- a box of a resolver holds one of the values V i, by its table i of methods
module _ {I : Type 0} {V : I → Type 0} where
  -- the choices of a configuration, but for the resolver
  abbrev pub settings_of : ClientConfig I V → ClientSettings
  settings_of config = record {
    bind = config.bind;
    tls = config.tls;
    transport = config.transport;
    idle = config.idle;
    keep_alive = config.keep_alive;
  }

  -- its resolver
  abbrev pub resolver_of : ClientConfig I V → Option (DynBox I Global V)
  resolver_of config = config.dns_resolver

  -- the choices of a builder in its last state, but for the resolver
  abbrev pub builder_settings : WantsTransportConfigClient I V → ClientSettings
  builder_settings state = settings_of state.config

  -- its resolver
  abbrev pub builder_resolver : WantsTransportConfigClient I V → Option (DynBox I Global V)
  builder_resolver state = resolver_of state.config

  -- what a resolver answers for a host, by what each one answers, and None without one
  abbrev pub lookup_answer : ((i : I) → V i → List ℕ → Lookup) → Option (DynBox I Global V) → List ℕ → Option Lookup
  lookup_answer lookup_of None host = None
  lookup_answer lookup_of (Some resolver) host = Some (lookup_of resolver.vtable resolver.value host)
