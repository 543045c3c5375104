-- What a server is configured to.
use Rattle.std.specs.Prelude.{ℕ, Bool, true, Option, None}
use Rattle.wt_config.specs.declared.bind.BindAddressConfig.{BindAddressConfig}
use Rattle.wt_config.specs.declared.idle.IdleTimeout.{IdleTimeout}
use Rattle.wt_config.specs.declared.idle.IdleTimeout.TheVariants.{Unset}
use Rattle.wt_config.specs.declared.tls.Opaque.{Opaque}
use Rattle.wt_config.specs.declared.tls.TlsChoice.{TlsChoice}

-- the choices of a server's builder
pub record ServerSettings : Type 0 where
  pub bind : BindAddressConfig
  pub tls : TlsChoice
  pub transport : Option Opaque
  pub idle : IdleTimeout
  pub keep_alive : Option ℕ
  pub migration : Bool

-- the settings with which the transport is still to be chosen: an idle time that is left to the QUIC
-- library, no keep-alive, and migration
abbrev pub server_settings : BindAddressConfig → TlsChoice → Option Opaque → ServerSettings
server_settings bind tls transport = record {
  bind = bind;
  tls = tls;
  transport = transport;
  idle = Unset;
  keep_alive = None;
  migration = true;
}
