-- How a driver says that a connection, a session or an opening ended, by a log.
use Rattle.std.specs.Prelude.{None, Option, Some, find, if◌then◌else◌, ℕ, Bool, true, false}
use Rattle.wt_sessions.specs.Driver.{is_session_gone, stream_table}
use Rattle.wt_sessions.specs.StreamTable.{Closed, is_closed}
use Rattle.wt_turn.specs.Log.{Log, is_open}
use Rattle.wt_turn.specs.declared.driver_error.DriverError.{DriverError}
use Rattle.wt_turn.specs.declared.driver_error.DriverError.TheVariants as errors
use Rattle.wt_wire.specs.declared.error.ErrorCode.{ErrorCode}
use Rattle.wt_wire.specs.declared.side.Side.{Side}

-- the driver closed the connection with this fault, or it ended otherwise
abbrev pub end_by : Option ErrorCode → DriverError
end_by (Some code) = errors.Proto code
end_by None = errors.NotConnected

-- how the connection ended; none while it is open
abbrev pub connection_end : Side → Log → Option DriverError
connection_end side log = if is_open log then None else Some (end_by (stream_table side log).progress.fault)

-- the peer closed the session, or it is gone by another cause, or the connection's end
abbrev pub end_of_session : Option DriverError → Bool → Option Closed → Option DriverError
end_of_session end gone (Some closed) = Some (errors.ApplicationClosed (record { code = closed.code; reason = closed.reason }))
end_of_session end true None = Some errors.NotConnected
end_of_session end false None = end

-- how the session ended; none while it goes on
abbrev pub session_end : Side → Log → ℕ → Option DriverError
session_end side log s = end_of_session (connection_end side log) (is_session_gone side log s) (find (is_closed s) (stream_table side log).closed)

-- why the session opens no stream: its end where it is gone, else the connection's, of which nothing more is said
abbrev pub opening_end : Side → Log → ℕ → Option DriverError
opening_end side log s =
    if is_session_gone side log s then session_end side log s else (if is_open log then None else Some errors.NotConnected)
