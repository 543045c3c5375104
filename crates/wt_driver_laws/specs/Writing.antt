-- What this end sends, on what a driver keeps: datagrams of a session, and frames on a session's own stream.
use Rattle.std.specs.Prelude.{◌&&◌, ◌/◌, Err, List, None, Ok, Option, Result, Some, if◌then◌else◌, length, nat_lt, ℕ}
use Rattle.wt_driver_laws.specs.Passing.{on_transport}
use Rattle.wt_kept.specs.Kept.{DriverNow}
use Rattle.wt_kept.specs.Windows.{lives_now}
use Rattle.wt_message.specs.Datagram.{datagram_bytes}
use Rattle.wt_seam.specs.Typed.{can_write_now, ready_at_all}
use Rattle.wt_seam.specs.Writing as writing
use Rattle.wt_transport.specs.HalfRules.{finish_answer}
use Rattle.wt_transport.specs.Rules.{after_write, sending_half_now}
use Rattle.wt_transport.specs.State.{TransportState}
use Rattle.wt_transport.specs.Step.{can_send_now, with_action}
use Rattle.wt_turn.specs.declared.action.Action.TheVariants as actions
use Rattle.wt_turn.specs.declared.datagram_fact.DatagramFact.{DatagramFact}
use Rattle.wt_turn.specs.declared.datagram_fact.DatagramFact.TheVariants as facts
use Rattle.wt_turn.specs.declared.poll.Poll.{Poll}
use Rattle.wt_turn.specs.declared.poll.Poll.TheVariants.{Ready}
use Rattle.wt_turn.specs.declared.proto_error.ProtoWriteError.{ProtoWriteError}
use Rattle.wt_turn.specs.declared.proto_error.ProtoWriteError.TheVariants as protos
use Rattle.wt_turn.specs.declared.stream_error.SendDatagramError.{SendDatagramError}
use Rattle.wt_turn.specs.declared.stream_error.SendDatagramError.TheVariants as datagrams

-- ---- datagrams

-- why a datagram of this size can't go out, by what was reported last of datagrams (RFC 9221, section 3)
abbrev pub datagram_refusal : Option DatagramFact → ℕ → Option SendDatagramError
datagram_refusal None size = Some datagrams.NotConnected
datagram_refusal (Some facts.Disabled) size = Some datagrams.Disabled
datagram_refusal (Some facts.Unsupported) size = Some datagrams.UnsupportedByPeer
datagram_refusal (Some (facts.Limit limit)) size = if nat_lt limit size then Some datagrams.TooLarge else None

-- why one of the session can't
abbrev pub datagram_error_now : ℕ → ℕ → DriverNow → Option SendDatagramError
datagram_error_now s size d =
    if d.work.transport.is_open && lives_now d.work.dispatched.sessions s then datagram_refusal d.work.transport.datagram_fact size
    else Some datagrams.NotConnected

-- what the call answers, and the driver after it
pub record DatagramSent : Type 0 where
  pub answer : Result (Unit {0}) SendDatagramError
  pub driver : DriverNow

-- the datagram goes out, unless for this reason
abbrev pub datagram_sent_unless : Option SendDatagramError → List ℕ → DriverNow → DatagramSent
datagram_sent_unless (Some e) bytes d = record { answer = Err e; driver = d }
datagram_sent_unless None bytes d = record { answer = Ok tt; driver = on_transport (λ t. with_action t (actions.DatagramOut bytes)) d }

-- a datagram of the session with this payload is sent (RFC 9297, section 2.1)
abbrev pub datagram_sent_now : ℕ → List ℕ → DriverNow → DatagramSent
datagram_sent_now s payload d = datagram_sent_unless (datagram_error_now s (length (datagram_bytes (s / 4) payload)) d) (datagram_bytes (s / 4) payload) d

-- ---- frames on a session's own stream

-- what the call answers, how far the write of the frame is then, and the driver after it
pub record FrameWritten : Type 0 where
  pub answer : Poll (Result (Unit {0}) ProtoWriteError)
  pub writing : writing.Pending
  pub driver : DriverNow

-- what is left of the write goes out, as far as credit goes
abbrev pub frame_goes_on : ℕ → writing.Pending → DriverNow → FrameWritten
frame_goes_on id p d = record {
  answer = writing.pending_answer d.work.transport.is_open (sending_half_now d.work.transport id) (writing.rest p);
  writing = writing.after_pending d.work.transport.is_open (sending_half_now d.work.transport id) p;
  driver = on_transport (λ t. after_write t id (writing.rest p)) d;
}

-- a write of a frame with these bytes, where one may go on
abbrev pub frame_written_now : ℕ → List ℕ → writing.Pending → DriverNow → FrameWritten
frame_written_now id bytes p d =
    if can_write_now d.work.transport id then frame_goes_on id (writing.write_of p bytes) d
    else record { answer = Ready (Err protos.NotConnected); writing = p; driver = d }

-- whether the end of its sending half is through; where there is no such half it is
abbrev pub finished_said : ℕ → TransportState → Poll (Unit {0})
finished_said id t = if can_send_now t id then ready_at_all (finish_answer t.is_open (sending_half_now t id)) else Ready tt
