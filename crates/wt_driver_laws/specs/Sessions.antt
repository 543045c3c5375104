-- A session's beginning and a rejection's end, on what a driver keeps.
use Rattle.std.specs.Prelude.{[], Err, None, Ok, Option, Result, Some, ℕ}
use Rattle.wt_driver_laws.specs.Answering.{result_now}
use Rattle.wt_kept.specs.Calling.{close_now, refuse_session_now, response_read, response_said}
use Rattle.wt_kept.specs.Kept.{DriverNow}
use Rattle.wt_proto.specs.declared.response_walk.ResponseWalk.{ResponseWalk}
use Rattle.wt_turn.specs.declared.driver_error.DriverError.{DriverError}

-- how the connection ended, where it did
abbrev pub unless_ended : Option DriverError → Result (Unit {0}) DriverError
unless_ended None = Ok tt
unless_ended (Some error) = Err error

-- what a registration of a session answers
abbrev pub registered_said : DriverNow → Result (Unit {0}) DriverError
registered_said d = unless_ended (result_now d)

-- the connection is closed where a code is given
abbrev pub close_if : Option ℕ → DriverNow → DriverNow
close_if None d = d
close_if (Some code) d = close_now code [] d

-- the request for the session is rejected, and then the connection is closed where a code is given
abbrev pub reject_session_now : ℕ → Option ℕ → DriverNow → DriverNow
reject_session_now s close d = close_if close (refuse_session_now s d)

-- what the response on a client's request stream says, once it was read on
abbrev pub response_answer : DriverNow → ResponseWalk
response_answer d = response_said (response_read d)
