-- What the streams show on which a connection rests, and what their runs answer.
use Rattle.std.specs.Prelude.{ℕ, List, ◌++◌, ◌||◌, Option, Some, None, Result, Ok, Err, Bool, false, if◌then◌else◌}
use Rattle.wt_wire.specs.declared.error.ErrorCode.{ErrorCode}
use Rattle.wt_wire.specs.declared.error.ErrorCode.TheVariants.{ClosedCriticalStream}
use Rattle.wt_wire.specs.declared.frame.FrameKind.TheVariants as kinds
use Rattle.wt_wire.specs.declared.side.StreamEnd.{StreamEnd}
use Rattle.wt_wire.specs.declared.side.StreamEnd.TheVariants as ends
use Rattle.wt_wire.specs.FrameBytes.{FrameParts, frame_bytes}
use Rattle.wt_message.specs.declared.settings.Settings.{Settings}
use Rattle.wt_message.specs.FixedBytes.{local_settings}
use Rattle.wt_message.specs.Settings.{settings_bytes}
use Rattle.wt_proto.specs.declared.session_walk.SessionWalk.{SessionWalk}
use Rattle.wt_proto.specs.declared.session_walk.SessionWalk.TheVariants as walks
use Rattle.wt_proto.specs.declared.control_walk.ControlWalk.{ControlWalk}
use Rattle.wt_proto.specs.ControlWalk.{control_decides, control_unfinished, control_walk_of}
use Rattle.wt_proto.specs.SessionWalk.{session_walk_of}
use Rattle.wt_proto.specs.SessionReader.{SessionReader, session_ended, session_fed, session_said}
use Rattle.wt_proto.specs.WalkProgress.{Reading, read_on}
use Rattle.wt_proto.specs.Reading.{outcome_in}
use Rattle.wt_turn.specs.declared.driver_error.DriverError.{DriverError}
use Rattle.wt_turn.specs.declared.driver_error.DriverError.TheVariants as errors
use Rattle.wt_turn.specs.declared.poll.Poll.{Poll}
use Rattle.wt_turn.specs.declared.poll.Poll.TheVariants as polls
use Rattle.wt_turn.specs.declared.proto_error.ProtoWriteError.{ProtoWriteError}
use Rattle.wt_turn.specs.declared.proto_error.ProtoWriteError.TheVariants as write_errors
use Rattle.wt_transport.specs.declared.halves.QuicSendStream.{QuicSendStream}
use Rattle.wt_transport.specs.declared.halves.QuicRecvStream.{QuicRecvStream}
use Rattle.wt_transport.specs.State.{TransportState}
use Rattle.wt_transport.specs.Rules.{after_write, sending_half_now}
use Rattle.wt_transport.specs.Step.{end_now, stop_now, unread_now}
use Rattle.wt_seam.specs.declared.stream.UniLocalH3.{UniLocalH3}
use Rattle.wt_seam.specs.declared.stream.UniRemoteH3.{UniRemoteH3}
use Rattle.wt_seam.specs.declared.stream.Session.{Session}
use Rattle.wt_seam.specs.Typed.{StreamPair, Typed, can_write_now, is_through}
use Rattle.wt_seam.specs.Writing.{Continues, Pending, after_pending, pending_answer, rest, write_of}
use Rattle.wt_seam.specs.ReadingAll.{after_reading_all}

-- a unidirectional stream of this end, after its header
abbrev pub LocalUni : Type 0
LocalUni = Typed QuicSendStream UniLocalH3

-- a unidirectional stream that the peer opened, after its header
abbrev pub RemoteUni : Type 0
RemoteUni = Typed QuicRecvStream UniRemoteH3

-- the stream of a session
abbrev pub SessionStream : Type 0
SessionStream = Typed StreamPair Session

-- this end's control stream, where it is set, and whether its SETTINGS are all out
pub record LocalControl : Type 0 where
  pub stream : Option LocalUni
  pub is_out : Bool

-- the stream that is set, and how far the walk over its bytes is
pub record Watched (T R : Type 0) : Type 0 where
  pub stream : Option T
  pub reading : R

-- ---- what a stream shows

-- a critical stream was closed (RFC 9114, section 6.2.1; RFC 9204, section 4.2)
abbrev pub closed_critical : DriverError
closed_critical = errors.Proto ClosedCriticalStream

-- an end or a reset of a critical stream of the peer closes it
abbrev pub shown_by_end : StreamEnd → Option DriverError
shown_by_end ends.Running = None
shown_by_end ends.Fin = Some closed_critical
shown_by_end (ends.Reset code) = Some closed_critical

-- a stop of a critical stream of this end closes it
abbrev pub shown_by_stop : Option ℕ → Option DriverError
shown_by_stop None = None
shown_by_stop (Some code) = Some closed_critical

-- the peer's control stream shows its fault
abbrev pub shown_by_fault : Option ErrorCode → Option DriverError
shown_by_fault None = None
shown_by_fault (Some code) = Some (errors.Proto code)

-- the stream of a session shows how the peer closed the session, or its fault (draft-ietf-webtrans-http3, section 5)
abbrev pub shown_by_walk : SessionWalk → Option DriverError
shown_by_walk walks.Running = None
shown_by_walk (walks.Closed code reason) = Some (errors.ApplicationClosed (record { code = code; reason = reason }))
shown_by_walk (walks.Fault code) = Some (errors.Proto code)

-- ---- what a run answers

-- what is shown comes first, also where the connection has ended; else the run reports that it has (this repository's rule)
abbrev pub shown_or_ended : Bool → Option DriverError → Poll DriverError
shown_or_ended open_ (Some error) = polls.Ready error
shown_or_ended open_ None = if open_ then polls.Pending else polls.Ready errors.NotConnected

-- what a run answers on this end's control stream: nothing is reported where none is set
abbrev pub local_answer : Option LocalUni → TransportState → Poll DriverError
local_answer None t = polls.Pending
local_answer (Some s) t = shown_or_ended t.is_open (shown_by_stop (stop_now t s.halves.id))

-- what it answers on an encoder or a decoder stream of the peer: tables aren't used, so what comes on it means nothing (this repository's rule)
abbrev pub qpack_answer : Option RemoteUni → TransportState → Poll DriverError
qpack_answer None t = polls.Pending
qpack_answer (Some s) t = shown_or_ended t.is_open (shown_by_end (end_now t s.halves.id))

-- what it answers on the peer's control stream, of which these bytes were read before: by them and all that is unread
abbrev pub control_answer : Option RemoteUni → TransportState → List ℕ → Poll DriverError
control_answer None t bytes = polls.Pending
control_answer (Some s) t bytes = shown_or_ended t.is_open (shown_by_fault (control_walk_of (bytes ++ unread_now t s.halves.id) (end_now t s.halves.id)).fault)

-- the same, by how far the walk over the stream is
abbrev pub control_shows : Option RemoteUni → Bool → Reading (Option Settings) ControlWalk → Poll DriverError
control_shows None open_ r = polls.Pending
control_shows (Some s) open_ r = shown_or_ended open_ (shown_by_fault (outcome_in control_unfinished r).fault)

-- what it answers on the stream of a session, of which these bytes were read before: by them and all that is unread
abbrev pub session_answer : Option SessionStream → TransportState → List ℕ → Poll DriverError
session_answer None t bytes = polls.Pending
session_answer (Some s) t bytes = shown_or_ended t.is_open (shown_by_walk (session_walk_of (bytes ++ unread_now t s.halves.0.id) (end_now t s.halves.0.id)))

-- the same, by how far the walk over the stream is
abbrev pub session_shows : Option SessionStream → Bool → SessionReader → Poll DriverError
session_shows None open_ r = polls.Pending
session_shows (Some s) open_ r = shown_or_ended open_ (shown_by_walk (session_said r))

-- ---- what a run leaves

-- after a run on a unidirectional stream of the peer: all that has come of it is read
abbrev pub after_uni_run : Option RemoteUni → TransportState → TransportState
after_uni_run None t = t
after_uni_run (Some s) t = after_reading_all t s.halves.id

-- after a run on the stream of a session: all that has come of it is read
abbrev pub after_session_run : Option SessionStream → TransportState → TransportState
after_session_run None t = t
after_session_run (Some s) t = after_reading_all t s.halves.0.id

-- how far the walk over the peer's control stream is after a run
abbrev pub control_after_run : Option RemoteUni → TransportState → Reading (Option Settings) ControlWalk → Reading (Option Settings) ControlWalk
control_after_run None t r = r
control_after_run (Some s) t r = read_on control_decides r (unread_now t s.halves.id) (end_now t s.halves.id)

-- the reader of a session's stream that took these bytes and then learned the end
abbrev pub session_read_on : SessionReader → List ℕ → StreamEnd → SessionReader
session_read_on r bytes end = session_ended end (session_fed (session_ended ends.Running r) bytes)

-- how far the walk over the stream of a session is after a run
abbrev pub session_after_run : Option SessionStream → TransportState → SessionReader → SessionReader
session_after_run None t r = r
session_after_run (Some s) t r = session_read_on r (unread_now t s.halves.0.id) (end_now t s.halves.0.id)

-- the bytes that were read after a run on a unidirectional stream of the peer
abbrev pub uni_bytes : Option RemoteUni → TransportState → List ℕ → List ℕ
uni_bytes None t bytes = bytes
uni_bytes (Some s) t bytes = bytes ++ unread_now t s.halves.id

-- the bytes that were read after a run on the stream of a session
abbrev pub session_bytes : Option SessionStream → TransportState → List ℕ → List ℕ
session_bytes None t bytes = bytes
session_bytes (Some s) t bytes = bytes ++ unread_now t s.halves.0.id

-- ---- this end's SETTINGS

-- the frame of this end's SETTINGS (RFC 9114, section 7.2.4)
abbrev pub settings_frame : FrameParts
settings_frame = record { kind = kinds.Settings; payload = settings_bytes local_settings; session = None }

-- the bytes of that frame
abbrev pub settings_frame_bytes : List ℕ
settings_frame_bytes = frame_bytes settings_frame

-- why the frame can't go out, as a driver reports it: a stop closes a critical stream
abbrev pub driver_write_error : ProtoWriteError → DriverError
driver_write_error write_errors.NotConnected = errors.NotConnected
driver_write_error write_errors.Stopped = closed_critical

-- what a write of the frame answers, as a driver reports it
abbrev pub written_answer : Poll (Result (Unit {0}) ProtoWriteError) → Poll (Result (Unit {0}) DriverError)
written_answer (polls.Ready (Ok through)) = polls.Ready (Ok through)
written_answer (polls.Ready (Err error)) = polls.Ready (Err (driver_write_error error))
written_answer polls.Pending = polls.Pending

-- a stream is set, and a write on it isn't closed
abbrev pub can_write_on : Option LocalUni → TransportState → Bool
can_write_on None t = false
can_write_on (Some s) t = can_write_now t s.halves.id

-- SETTINGS may be sent, or are out
abbrev pub can_send_settings : LocalControl → TransportState → Bool
can_send_settings s t = s.is_out || can_write_on s.stream t

-- no write was begun on the stream that isn't through, or that of SETTINGS
abbrev pub ContinuesSettings : Option LocalUni → Type 0
ContinuesSettings None = Unit {0}
ContinuesSettings (Some s) = Continues s.stage.writing settings_frame_bytes

-- the write of the frame that was begun on the stream, or a new one
abbrev pub settings_write : LocalUni → Pending
settings_write s = write_of s.stage.writing settings_frame_bytes

-- the stream, on which the write of the frame was begun
abbrev pub settings_begun : Option LocalUni → Option LocalUni
settings_begun None = None
settings_begun (Some s) = Some (record s { stage = record s.stage { writing = settings_write s } })

-- what a write of the frame on the stream answers
abbrev pub frame_answer : Option LocalUni → TransportState → Poll (Result (Unit {0}) DriverError)
frame_answer None t = polls.Pending
frame_answer (Some s) t = written_answer (pending_answer t.is_open (sending_half_now t s.halves.id) (rest (settings_write s)))

-- the transport then: as much went out as credit covers
abbrev pub after_frame : Option LocalUni → TransportState → TransportState
after_frame None t = t
after_frame (Some s) t = after_write t s.halves.id (rest (settings_write s))

-- the stream then
abbrev pub with_frame : Option LocalUni → TransportState → Option LocalUni
with_frame None t = None
with_frame (Some s) t = Some (record s { stage = record s.stage { writing = after_pending t.is_open (sending_half_now t s.halves.id) (settings_write s) } })

-- SETTINGS that are out aren't sent again (RFC 9114, section 7.2.4)
abbrev pub sent_answer : Bool → Poll (Result (Unit {0}) DriverError)
sent_answer open_ = if open_ then polls.Ready (Ok tt) else polls.Ready (Err errors.NotConnected)

-- what sending SETTINGS answers
abbrev pub settings_answer : LocalControl → TransportState → Poll (Result (Unit {0}) DriverError)
settings_answer s t = if s.is_out then sent_answer t.is_open else frame_answer s.stream t

-- the transport then
abbrev pub after_settings : LocalControl → TransportState → TransportState
after_settings s t = if s.is_out then t else after_frame s.stream t

-- the stream then, and whether SETTINGS are out
abbrev pub with_settings : LocalControl → TransportState → LocalControl
with_settings s t = if s.is_out then s else record { stream = with_frame s.stream t; is_out = is_through (frame_answer s.stream t) }

-- ---- the peer's SETTINGS

-- what a watcher answers: the settings, where they came and weren't given
abbrev pub given_once : Bool → Option Settings → Poll Settings
given_once given None = polls.Pending
given_once given (Some settings) = if given then polls.Pending else polls.Ready settings
