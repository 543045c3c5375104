-- What a turn leads to, and how an ended connection is reported.
use Rattle.std.specs.Prelude.{[], ◌&&◌, Bool, List, None, Option, Some, drop, false, find, if◌then◌else◌, length, true, ℕ}
use Rattle.wt_meaning.specs.Handshakes.{is_nothing, loss_error}
use Rattle.wt_turn.specs.Outgoing.{bytes_within_credit, if_open}
use Rattle.wt_turn.specs.Reports.{loss_of}
use Rattle.wt_turn.specs.Sent.{sent_on}
use Rattle.wt_turn.specs.Log.{CallRecord, Called, Log, Polled, actions_of, events_of, is_open, with_actions}
use Rattle.wt_turn.specs.declared.action.Action.{Action}
use Rattle.wt_turn.specs.declared.connection_error.ConnectionError.{ConnectionError}
use Rattle.wt_turn.specs.declared.reply.Reply.{Reply}
use Rattle.wt_wire.specs.declared.error.ErrorCode.{ErrorCode}
use Rattle.wt_wire.specs.declared.side.Side.{Side}
use Rattle.wt_sessions.specs.Driver.{is_living, is_session_gone, log_and_flush, stream_table}
use Rattle.wt_sessions.specs.StreamTable.{Closed, is_closed}
use Rattle.wt_turn.specs.declared.action.Action.TheVariants as actions
use Rattle.wt_turn.specs.declared.connection_error.ConnectionError.TheVariants as errors
use Rattle.wt_turn.specs.declared.reply.Reply.TheVariants as replies

-- the log with all that a turn adds, and the reply
pub record Effect : Type 0 where
  pub log : Log
  pub reply : Reply

-- the log after a call: the call's own actions, then its record, then what the driver sends at that moment
abbrev pub log_call : Side → Log → List Action → CallRecord → Log
log_call side log own r = log_and_flush side (with_actions own log) (Called r)

-- a turn leads to this log and this reply
abbrev pub reply_with : Log → Reply → Effect
reply_with log reply = record { log = log; reply = reply }

-- a call that records nothing else, with these actions of its own
abbrev pub poll_sending : Side → Log → List Action → Reply → Effect
poll_sending side log own reply = reply_with (log_call side log own Polled) reply

-- a call that records nothing else and sends nothing
abbrev pub poll_only : Side → Log → Reply → Effect
poll_only side log reply = poll_sending side log [] reply

-- ---- how a connection ended

-- the end as the transport reports it: its loss, or a local close
abbrev pub transport_error : Log → ConnectionError
transport_error log = loss_error (loss_of (events_of log))

-- the fault with which the driver ended the connection, and without one the transport's end
abbrev pub error_of_fault : Log → Option ErrorCode → ConnectionError
error_of_fault log None = transport_error log
error_of_fault log (Some code) = errors.LocalH3Error code

-- the end as the driver reports it
abbrev pub driver_error : Side → Log → ConnectionError
driver_error side log = error_of_fault log (stream_table side log).progress.fault

-- how a session's end is reported: the peer closed it, or it is gone by another cause, or the connection ended
abbrev pub error_of_session : Side → Log → Bool → Option Closed → ConnectionError
error_of_session side log gone (Some closed) = errors.ApplicationClosed (record { code = closed.code; reason = closed.reason })
error_of_session side log true None = errors.LocallyClosed
error_of_session side log false None = driver_error side log

-- the end of this session, or of the connection
abbrev pub session_error : Side → Log → ℕ → ConnectionError
session_error side log s = error_of_session side log (is_session_gone side log s) (find (is_closed s) (stream_table side log).closed)

-- the reply to a call for which nothing is left: it waits while the connection is open and the session lives
abbrev pub pending_or_failed : Side → Log → ℕ → Reply
pending_or_failed side log s = if is_open log && is_living side log s then replies.Pending else replies.Failed (session_error side log s)

-- ---- what a call sends of its own

-- what of a stream's head isn't out yet; the head is what this layer sends first: a request, a response or a header
abbrev pub head_left : Log → ℕ → List ℕ → List ℕ
head_left log k head = drop (length (sent_on (actions_of log) k)) head

-- the credit covers all of these bytes
abbrev pub is_covered : Log → ℕ → List ℕ → Bool
is_covered log k bytes = is_nothing (drop (length (bytes_within_credit log k bytes)) bytes)

-- the connection is closed with this code and no reason, where it is open
abbrev pub close_when_open : Log → ℕ → List Action
close_when_open log code = if_open log (actions.Close code [])
