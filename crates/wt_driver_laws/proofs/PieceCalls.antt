-- Of how many pieces a driver keeps an unread byte, after the calls whose answer and driver are one record: none adds one.
use Rattle.std.proofs.Common.{Err, List, None, Ok, Option, Result, Some, ap, arith, false, true, ℕ, ◌/◌, ◌≡◌, ◌≤◌, []}
use Rattle.std.specs.Prelude.{if◌then◌else◌, Bool}
use Rattle.wt_driver_laws.proofs.PieceCounts.{opening-keeps, write-keeps}
use Rattle.wt_driver_laws.proofs.PieceLaws.{became, write-kept}
use Rattle.wt_driver_laws.proofs.PieceSteps.{close-kept, pieces_kept, refuse-session-kept}
use Rattle.wt_driver_laws.specs.Answering.{request_taken_now}
use Rattle.wt_driver_laws.specs.Driving.{pieces_of}
use Rattle.wt_driver_laws.specs.Having.{OpeningStream}
use Rattle.wt_driver_laws.specs.Opening.{OpensNow, PolledNow, SessionOpened, fails_to_open, header_written, opening_error_now, opens_if_allowed, opens_now, opens_unless, polled_now, session_opened_now}
use Rattle.wt_driver_laws.specs.Passing.{on_transport, then_write, write_said}
use Rattle.wt_driver_laws.specs.Sessions.{close_if, reject_session_now}
use Rattle.wt_driver_laws.specs.Writing.{DatagramSent, FrameWritten, datagram_error_now, datagram_sent_now, datagram_sent_unless, frame_goes_on, frame_written_now}
use Rattle.wt_kept.specs.Calling.{refuse_session_now}
use Rattle.wt_kept.specs.Kept.{DriverNow}
use Rattle.wt_kept.specs.Windows.{lives_now}
use Rattle.wt_message.specs.Datagram.{datagram_bytes}
use Rattle.wt_seam.specs.Typed.{can_write_now}
use Rattle.wt_seam.specs.Writing as writing
use Rattle.wt_transport.specs.Step.{after_opening, opened_id_now}
use Rattle.wt_turn.specs.Streams.{local_bi}
use Rattle.wt_turn.specs.declared.driver_error.DriverError.{DriverError}
use Rattle.wt_turn.specs.declared.driver_error.DriverError.TheVariants as errors
use Rattle.wt_turn.specs.declared.poll.Poll.{Poll}
use Rattle.wt_turn.specs.declared.poll.Poll.TheVariants.{Pending, Ready}
use Rattle.wt_turn.specs.declared.proto_error.ProtoWriteError.{ProtoWriteError}
use Rattle.wt_turn.specs.declared.proto_error.ProtoWriteError.TheVariants as protos
use Rattle.wt_turn.specs.declared.stream_error.SendDatagramError.{SendDatagramError}
use Rattle.wt_turn.specs.declared.stream_error.StreamOpeningError.{StreamOpeningError}
use Rattle.wt_turn.specs.declared.stream_error.StreamWriteError.{StreamWriteError}

-- ---- openings

opening : (kind s : ℕ) (e : Option DriverError) (d : DriverNow) → pieces_kept (opens_unless kind s e d).driver ≤ pieces_kept d
opening kind s (Some e) d = omega arith
opening kind s None d = by (opened_id_now d.work.transport kind)
  where
    by : (o : Option ℕ) → pieces_kept (opens_if_allowed kind s o d).driver ≤ pieces_kept d
    by None = omega arith
    by (Some id) = opening-keeps d.work.transport kind

-- an opening begins
pub opens_pieces : (bidirectional : Bool) (s : ℕ) (a : Poll (Result OpeningStream DriverError)) (d later : DriverNow) → record { answer = a; driver = later } ≡ opens_now bidirectional s d → pieces_of later ≤ pieces_of d
opens_pieces bidirectional s a d later e = became d (opens_now bidirectional s d).driver later (ap (λ (x : OpensNow). x.driver) e) (opening _ s (opening_error_now s d) d)

heading : {T : Type 0} (given : T) (left : List ℕ) (a : Poll (Result ℕ StreamWriteError)) (d : DriverNow) → pieces_kept (header_written given left a d).driver ≤ pieces_kept d
heading given left (Ready (Ok count)) d = omega arith
heading given left (Ready (Err e)) d = omega arith
heading given left Pending d = omega arith

polling : {T : Type 0} (given : T) (o : OpeningStream) (d : DriverNow) → pieces_kept (polled_now given o d).driver ≤ pieces_kept d
polling given o d = by (lives_now d.work.dispatched.sessions o.session)
  where
    by : (b : Bool) → pieces_kept (if b then header_written given o.left (write_said o.id o.left d.work.transport) (on_transport (then_write o.id o.left) d) else fails_to_open o d).driver ≤ pieces_kept d
    by true =
        let x = write-kept o.id o.left d in
        let y = heading given o.left (write_said o.id o.left d.work.transport) (on_transport (then_write o.id o.left) d) in
        omega (arith, x, y)
    by false = omega arith

-- it goes on
pub polled_pieces : {T : Type 0} (given : T) (o : OpeningStream) (a : Poll (Result T StreamOpeningError)) (left : List ℕ) (d later : DriverNow) → record { answer = a; left = left; driver = later } ≡ polled_now given o d → pieces_of later ≤ pieces_of d
polled_pieces {T} given o a left d later e = became d (polled_now given o d).driver later (ap (λ (x : PolledNow T). x.driver) e) (polling given o d)

-- the stream for a client's request is opened
pub session_opened_pieces : (d later : DriverNow) → later ≡ (session_opened_now d).driver → pieces_of later ≤ pieces_of d
session_opened_pieces d later e = became d (session_opened_now d).driver later e (by d.work.transport.is_open)
  where
    opened : SessionOpened
    opened = record { answer = Ok (opened_id_now d.work.transport (local_bi d.work.transport.side)); driver = on_transport (λ t. after_opening t (local_bi t.side)) d }

    closed : SessionOpened
    closed = record { answer = Err errors.NotConnected; driver = d }

    either : Bool → SessionOpened
    either b = if b then opened else closed

    by : (b : Bool) → pieces_kept (either b).driver ≤ pieces_kept d
    by true = opening-keeps d.work.transport (local_bi d.work.transport.side)
    by false = omega arith

-- ---- what is sent

-- a datagram
pub datagram_pieces : (s : ℕ) (payload : List ℕ) (a : Result (Unit {0}) SendDatagramError) (d later : DriverNow) → record { answer = a; driver = later } ≡ datagram_sent_now s payload d → pieces_of later ≤ pieces_of d
datagram_pieces s payload a d later e = became d (datagram_sent_now s payload d).driver later (ap (λ (x : DatagramSent). x.driver) e) (by (datagram_error_now s _ d))
  where
    by : (o : Option SendDatagramError) → pieces_kept (datagram_sent_unless o (datagram_bytes (s / 4) payload) d).driver ≤ pieces_kept d
    by None = omega arith
    by (Some x) = omega arith

-- a frame
pub frame_pieces : (id : ℕ) (bytes : List ℕ) (p : writing.Pending) (a : Poll (Result (Unit {0}) ProtoWriteError)) (then_left : writing.Pending) (d later : DriverNow) → record { answer = a; writing = then_left; driver = later } ≡ frame_written_now id bytes p d
    → pieces_of later ≤ pieces_of d
frame_pieces id bytes p a then_left d later e = became d (frame_written_now id bytes p d).driver later (ap (λ (x : FrameWritten). x.driver) e) (by (can_write_now d.work.transport id))
  where
    failed : FrameWritten
    failed = record { answer = Ready (Err protos.NotConnected); writing = p; driver = d }

    either : Bool → FrameWritten
    either b = if b then frame_goes_on id (writing.write_of p bytes) d else failed

    by : (b : Bool) → pieces_kept (either b).driver ≤ pieces_kept d
    by true = write-keeps d.work.transport id (writing.rest (writing.write_of p bytes))
    by false = omega arith

-- ---- requests

-- a queued request is taken
pub request_pieces : (d later : DriverNow) → later ≡ (request_taken_now d).driver → pieces_of later ≤ pieces_of d
request_pieces d later e = became d (request_taken_now d).driver later e (omega arith)

-- ---- a rejection's end

closing : (close : Option ℕ) (d : DriverNow) → pieces_kept (close_if close d) ≤ pieces_kept d
closing None d = omega arith
closing (Some code) d = close-kept code [] d

-- the request for a session is rejected
pub reject_pieces : (s : ℕ) (close : Option ℕ) (d later : DriverNow) → later ≡ reject_session_now s close d → pieces_of later ≤ pieces_of d
reject_pieces s close d later e =
    became d (reject_session_now s close d) later e (let x = refuse-session-kept s d in let y = closing close (refuse_session_now s d) in omega (arith, x, y))
