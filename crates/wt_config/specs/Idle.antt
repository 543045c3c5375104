-- The idle timeout of a configuration, in milliseconds (RFC 9000, section 10.1).
use Rattle.std.specs.Prelude.{ℕ, ◌-◌, ◌^◌, Bool, false, nat_lt, Option, Some, None}
use Rattle.wt_config.specs.declared.idle.IdleTimeout.{IdleTimeout}
use Rattle.wt_config.specs.declared.idle.IdleTimeout.TheVariants.{Infinite, Millis}

-- above what a variable-length integer holds (RFC 9000, section 16)
abbrev pub is_too_long : Option ℕ → Bool
is_too_long None = false
is_too_long (Some millis) = nat_lt (2 ^ 62 - 1) millis

-- the idle timeout of n milliseconds; none is an infinite time
abbrev pub idle_of : Option ℕ → IdleTimeout
idle_of None = Infinite
idle_of (Some millis) = Millis millis
