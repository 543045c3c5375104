-- What calls answer of a driver, and what they leave.
use Rattle.std.specs.Prelude.{[], Bool, Err, List, None, Ok, Option, Result, Some, false, is_some, true, ℕ}
use Rattle.wt_kept.specs.Classifying.{with_dispatched}
use Rattle.wt_kept.specs.Kept.{Closed, DispatchedNow, DriverNow, Ended, Refused, SessionEndNow}
use Rattle.wt_kept.specs.Moment.{with_work}
use Rattle.wt_kept.specs.Windows.{end_in}
use Rattle.wt_message.specs.declared.settings.Settings.{Settings}
use Rattle.wt_transport.specs.Step.{after_dial}
use Rattle.wt_peer_streams.specs.Critical.{control_settings}
use Rattle.wt_peer_streams.specs.Dispatched.{RequestGiven, request_taken}
use Rattle.wt_turn.specs.declared.driver_error.DriverError.{DriverError}
use Rattle.wt_turn.specs.declared.poll.Poll.{Poll}
use Rattle.wt_wire.specs.HeaderList.{Fields}
use Rattle.wt_wire.specs.declared.addr.Addr.{Addr}
use Rattle.wt_wire.specs.declared.error.ErrorCode.{ErrorCode}
use Rattle.wt_turn.specs.declared.driver_error.DriverError.TheVariants as errors
use Rattle.wt_turn.specs.declared.poll.Poll.TheVariants.{Pending, Ready}

-- the connection was dialled
abbrev pub with_dialled : Addr → List ℕ → DriverNow → DriverNow
with_dialled address name d = with_work (λ w. record w { transport = after_dial w.transport address name }) d

-- what goes out was collected
abbrev pub with_actions_taken : DriverNow → DriverNow
with_actions_taken d = with_work (λ w. record w { transport = record w.transport { actions = [] } }) d

-- ---- how it ended

abbrev pub ended_by_fault : Option ErrorCode → DriverError
ended_by_fault None = errors.NotConnected
ended_by_fault (Some code) = errors.Proto code

abbrev pub result_if : Bool → Option ErrorCode → Option DriverError
result_if true fault = None
result_if false fault = Some (ended_by_fault fault)

-- how the connection ended, where it did
abbrev pub result_now : DriverNow → Option DriverError
result_now d = result_if d.work.transport.is_open d.work.dispatched.fault

abbrev pub session_result_by : Option SessionEndNow → Option DriverError → Option DriverError
session_result_by None result = result
session_result_by (Some Refused) result = Some errors.NotConnected
session_result_by (Some Ended) result = Some errors.NotConnected
session_result_by (Some (Closed code reason)) result = Some (errors.ApplicationClosed (record { code = code; reason = reason }))

-- how the session ended, where it did
abbrev pub session_result_now : ℕ → DriverNow → Option DriverError
session_result_now s d = session_result_by (end_in d.work.dispatched.sessions.gone s) (result_now d)

-- the session is gone
abbrev pub is_ended_now : ℕ → DriverNow → Bool
is_ended_now s d = is_some (end_in d.work.dispatched.sessions.gone s)

-- ---- the peer's SETTINGS

abbrev pub polled_by : {T : Type 0} → Option DriverError → Poll (Result T DriverError)
polled_by None = Pending
polled_by (Some error) = Ready (Err error)

abbrev pub settings_by : Option Settings → Bool → Option DriverError → Poll (Result Settings DriverError)
settings_by (Some settings) false result = Ready (Ok settings)
settings_by (Some settings) true result = polled_by result
settings_by None gave result = polled_by result

-- they are given once
abbrev pub settings_given_now : DriverNow → Poll (Result Settings DriverError)
settings_given_now d = settings_by (control_settings d.work.dispatched.critical.control) d.gave_settings (result_now d)

abbrev pub gave_by : Option Settings → DriverNow → DriverNow
gave_by None d = d
gave_by (Some settings) d = record d { gave_settings = true }

abbrev pub gave_settings_now : DriverNow → DriverNow
gave_settings_now d = gave_by (control_settings d.work.dispatched.critical.control) d

-- ---- requests

pub record RequestNow : Type 0 where
  pub request : Option (ℕ × Fields)
  pub driver : DriverNow

abbrev pub request_now_so : RequestGiven → DriverNow → RequestNow
request_now_so x d = record { request = x.request; driver = with_work (with_dispatched (λ (e : DispatchedNow). x.dispatched)) d }

-- the next request is taken
abbrev pub request_taken_now : DriverNow → RequestNow
request_taken_now d = request_now_so (request_taken d.work.dispatched) d
