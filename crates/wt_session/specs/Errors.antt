-- How an ended session is reported to its user, by how its driver says that it ended.
use Rattle.std.specs.Prelude.{if◌then◌else◌, ℕ}
use Rattle.wt_sessions.specs.Driver.{is_session_gone}
use Rattle.wt_sessions.specs.Effect.{transport_error}
use Rattle.wt_turn.specs.Log.{Log}
use Rattle.wt_turn.specs.declared.connection_error.ConnectionError.{ConnectionError}
use Rattle.wt_turn.specs.declared.connection_error.ConnectionError.TheVariants as reported
use Rattle.wt_turn.specs.declared.driver_error.DriverError.{DriverError}
use Rattle.wt_turn.specs.declared.driver_error.DriverError.TheVariants as errors
use Rattle.wt_wire.specs.declared.side.Side.{Side}

-- a fault by its code, the peer's close as it is, and where neither is known this end's, or as the transport reports it
abbrev pub reported_error : Side → Log → ℕ → DriverError → ConnectionError
reported_error side log s (errors.Proto code) = reported.LocalH3Error code
reported_error side log s (errors.ApplicationClosed close) = reported.ApplicationClosed close
reported_error side log s errors.NotConnected = if is_session_gone side log s then reported.LocallyClosed else transport_error log
