-- Streams that this end opens, on what a driver keeps: one that a session's application begins to open and polls until its header is out
-- (draft-ietf-webtrans-http3, sections 4.2 and 4.3), and the one for a client's request. Where a call fails or waits nothing changes.
use Rattle.std.specs.Prelude.{[], ◌%◌, ◌==◌, ◌∷◌, ◌≡◌, Bool, Err, List, None, Ok, Option, Result, Some, drop, if◌then◌else◌, true, ℕ}
use Rattle.wt_driver_laws.specs.Answering.{is_ended_now, session_result_now}
use Rattle.wt_driver_laws.specs.Handing.{HasEnded, IsRequestStream, OpensRequest, WaitsToOpen}
use Rattle.wt_driver_laws.specs.Having.{OpeningStream}
use Rattle.wt_driver_laws.specs.Passing.{on_transport, then_write, write_said}
use Rattle.wt_kept.specs.Calling.{on_sessions}
use Rattle.wt_kept.specs.Kept.{DriverNow}
use Rattle.wt_kept.specs.Windows.{joined_by, lives_now, with_live}
use Rattle.wt_meaning.specs.Lawful.{is_client}
use Rattle.wt_seam.specs.Typed.{StreamPair, Typed}
use Rattle.wt_seam.specs.declared.stream.Session.{Session}
use Rattle.wt_transport.specs.Kind.{local_kind}
use Rattle.wt_transport.specs.Step.{after_opening, opened_id_now}
use Rattle.wt_turn.specs.Streams.{local_bi}
use Rattle.wt_sessions.specs.Connection.{stream_header}
use Rattle.wt_turn.specs.Log.{Log}
use Rattle.wt_turn.specs.declared.driver_error.DriverError.{DriverError}
use Rattle.wt_turn.specs.declared.driver_error.DriverError.TheVariants as errors
use Rattle.wt_turn.specs.declared.poll.Poll.{Poll}
use Rattle.wt_turn.specs.declared.poll.Poll.TheVariants.{Pending, Ready}
use Rattle.wt_turn.specs.declared.stream_error.StreamOpeningError.{StreamOpeningError}
use Rattle.wt_turn.specs.declared.stream_error.StreamOpeningError.TheVariants as openings
use Rattle.wt_turn.specs.declared.stream_error.StreamWriteError.{StreamWriteError}
use Rattle.wt_turn.specs.declared.stream_error.StreamWriteError.TheVariants as writes
use Rattle.wt_wire.specs.HeaderList.{Fields}
use Rattle.wt_wire.specs.declared.side.Side.{Side}

-- ---- an opening begins

-- why the session opens no stream: its end where it is gone, else the connection's, of which nothing more is said
abbrev pub opening_error_now : ℕ → DriverNow → Option DriverError
opening_error_now s d =
    if is_ended_now s d then session_result_now s d else (if d.work.transport.is_open then None else Some errors.NotConnected)

-- what the call answers, and the driver after it
pub record OpensNow : Type 0 where
  pub answer : Poll (Result OpeningStream DriverError)
  pub driver : DriverNow

-- the opening of a stream for the session: nothing of its header is out
abbrev pub new_opening : ℕ → ℕ → OpeningStream
new_opening s id = record { id = id; session = s; left = stream_header id s }

-- the next stream of the kind was opened, has this id, and is the session's
abbrev pub opened_now : ℕ → ℕ → ℕ → DriverNow → DriverNow
opened_now kind s id d = on_sessions (with_live (joined_by id) s) (on_transport (λ t. after_opening t kind) d)

-- the peer allows one more stream, which has this id, or it doesn't
abbrev pub opens_if_allowed : ℕ → ℕ → Option ℕ → DriverNow → OpensNow
opens_if_allowed kind s None d = record { answer = Pending; driver = d }
opens_if_allowed kind s (Some id) d = record { answer = Ready (Ok (new_opening s id)); driver = opened_now kind s id d }

-- the session opens no stream for this reason, or it opens the next one of the kind
abbrev pub opens_unless : ℕ → ℕ → Option DriverError → DriverNow → OpensNow
opens_unless kind s (Some e) d = record { answer = Ready (Err e); driver = d }
opens_unless kind s None d = opens_if_allowed kind s (opened_id_now d.work.transport kind) d

-- an opening of a stream for the session, bidirectional or not
abbrev pub opens_now : Bool → ℕ → DriverNow → OpensNow
opens_now bidirectional s d = opens_unless (local_kind bidirectional d.work.transport.side) s (opening_error_now s d) d

-- ---- an opening goes on

-- what a poll answers, what of the header isn't out then, and the driver after it
pub record PolledNow (T : Type 0) : Type 0 where
  pub answer : Poll (Result T StreamOpeningError)
  pub left : List ℕ
  pub driver : DriverNow

-- why the opening fails whose header can't be written
abbrev pub opening_failure : StreamWriteError → StreamOpeningError
opening_failure (writes.Stopped code) = openings.Refused
opening_failure _ = openings.NotConnected

-- the stream is given once nothing of its header is left
abbrev pub given_if_out : {T : Type 0} → T → List ℕ → Poll (Result T StreamOpeningError)
given_if_out given [] = Ready (Ok given)
given_if_out given (byte ∷ later) = Pending

-- what is left of the header was written, with this answer
abbrev pub header_written : {T : Type 0} → T → List ℕ → Poll (Result ℕ StreamWriteError) → DriverNow → PolledNow T
header_written given left (Ready (Ok count)) d = record { answer = given_if_out given (drop count left); left = drop count left; driver = d }
header_written given left (Ready (Err e)) d = record { answer = Ready (Err (opening_failure e)); left = left; driver = d }
header_written given left Pending d = record { answer = Pending; left = left; driver = d }

-- the opening can't go on
abbrev pub fails_to_open : {T : Type 0} → OpeningStream → DriverNow → PolledNow T
fails_to_open o d = record { answer = Ready (Err openings.NotConnected); left = o.left; driver = d }

-- a poll of an opening, which gives this once its header is out
abbrev pub polled_now : {T : Type 0} → T → OpeningStream → DriverNow → PolledNow T
polled_now given o d =
    if lives_now d.work.dispatched.sessions o.session
    then header_written given o.left (write_said o.id o.left d.work.transport) (on_transport (then_write o.id o.left) d) else fails_to_open o d

-- ---- the stream for a client's request

-- the stream that was opened, if one may be; or the connection isn't open
pub record SessionOpened : Type 0 where
  pub answer : Result (Option ℕ) DriverError
  pub driver : DriverNow

-- the next bidirectional stream is opened, where it may be
abbrev pub session_opened_now : DriverNow → SessionOpened
session_opened_now d =
    if d.work.transport.is_open
    then record { answer = Ok (opened_id_now d.work.transport (local_bi d.work.transport.side)); driver = on_transport (λ t. after_opening t (local_bi t.side)) d }
    else record { answer = Err errors.NotConnected; driver = d }

-- the same by a log, of the typed stream that carries the request; a client's is a session's (RFC 9000, section 2.1)
abbrev pub OpensBy : Side → Log → ℕ → DriverNow → DriverNow → Fields → Result (Option ℕ) DriverError → Type 0
OpensBy side log collected d later request (Ok (Some id)) =
    (is_client side ≡ true → (id % 4 == 0) ≡ true) × ((stream : Typed StreamPair Session) → IsRequestStream stream id request → OpensRequest side log collected later request stream)
OpensBy side log collected d later request (Ok None) = WaitsToOpen side log d later
OpensBy side log collected d later request (Err e) = HasEnded log d later e
