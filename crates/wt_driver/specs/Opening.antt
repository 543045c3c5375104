-- A stream for a client's request, by the answer of the call that opens it.
use Rattle.std.specs.Prelude.{◌%◌, ◌==◌, Err, None, Ok, Option, Result, Some, if◌then◌else◌, ℕ}
use Rattle.wt_driver_laws.specs.Given.{request_stream}
use Rattle.wt_driver_laws.specs.Handing.{HasEnded, IsFresh, OpensRequest, WaitsToOpen}
use Rattle.wt_kept.specs.Kept.{DriverNow}
use Rattle.wt_driver.specs.declared.driver.OpenSession.{OpenSession}
use Rattle.wt_driver.specs.declared.driver.OpenSession.TheVariants as opens
use Rattle.wt_turn.specs.Log.{Log}
use Rattle.wt_turn.specs.declared.driver_error.DriverError.{DriverError}
use Rattle.wt_wire.specs.HeaderList.{Fields}
use Rattle.wt_wire.specs.declared.side.Side.{Side}

-- the request's stream where one was opened that is a session's; else the request is given back, which may be tried again
abbrev pub stream_opened : Fields → Result (Option ℕ) DriverError → Result OpenSession DriverError
stream_opened request (Err e) = Err e
stream_opened request (Ok None) = Ok (opens.NotYet request)
stream_opened request (Ok (Some id)) = if id % 4 == 0 then Ok (opens.Ready (request_stream (id, request))) else Ok (opens.NotYet request)

-- the stream is open, or none may be opened yet, or the connection isn't open
abbrev pub OpensFor : Side → Log → ℕ → DriverNow → DriverNow → Fields → Result OpenSession DriverError → Type 0
OpensFor side log collected d later request (Ok (opens.Ready stream)) = OpensRequest side log collected later request stream
OpensFor side log collected d later request (Ok (opens.NotYet given)) = WaitsToOpen side log d later
OpensFor side log collected d later request (Err e) = HasEnded log d later e

-- nothing was written on a stream that was opened
abbrev pub IsFreshlyOpened : Result OpenSession DriverError → Type 0
IsFreshlyOpened (Ok (opens.Ready stream)) = IsFresh stream
IsFreshlyOpened _ = Unit {0}
