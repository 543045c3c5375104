-- What waits for a session is given, and what that leaves.
use Rattle.std.specs.Prelude.{Bool, None, Ok, Option, Result, Some, false, ℕ}
use Rattle.wt_kept.specs.Calling.{on_sessions}
use Rattle.wt_kept.specs.Kept.{DriverNow, WaitingDatagram}
use Rattle.wt_kept.specs.Windows.{first_datagram, first_stream_id, live_in}
use Rattle.wt_driver_laws.specs.Answering.{polled_by}
use Rattle.wt_seam.specs.Typed.{StreamPair, Typed, both}
use Rattle.wt_seam.specs.Writing.{nothing_begun}
use Rattle.wt_seam.specs.declared.next_frame.FrameSource.TheVariants as sources
use Rattle.wt_seam.specs.declared.stream.Session.{Session}
use Rattle.wt_seam.specs.declared.stream.BiRemoteWT.{BiRemoteWT}
use Rattle.wt_seam.specs.declared.stream.UniRemoteWT.{UniRemoteWT}
use Rattle.wt_transport.specs.declared.halves.QuicRecvStream.{QuicRecvStream}
use Rattle.wt_proto.specs.WalkProgress.{at_item}
use Rattle.wt_wire.specs.HeaderList.{Fields}
use Rattle.wt_peer_streams.specs.Living.{datagrams_of, stream_given, streams_of_live}
use Rattle.wt_turn.specs.declared.driver_error.DriverError.{DriverError}
use Rattle.wt_turn.specs.declared.poll.Poll.{Poll}
use Rattle.wt_turn.specs.declared.poll.Poll.TheVariants.{Ready}

-- ---- what waits

-- what a call gives where there is something, else how the session ended
abbrev pub given_or : {T : Type 0} → Option T → Option DriverError → Poll (Result T DriverError)
given_or (Some x) end = Ready (Ok x)
given_or None end = polled_by end

-- the session's next stream of a kind
abbrev pub next_stream_now : Bool → ℕ → DriverNow → Option ℕ
next_stream_now bidirectional s d = first_stream_id bidirectional (streams_of_live (live_in d.work.dispatched.sessions s))

-- it is the session's from now on
abbrev pub stream_accepted : Bool → ℕ → DriverNow → DriverNow
stream_accepted bidirectional s d = on_sessions (stream_given s (next_stream_now bidirectional s d)) d

-- the peer's unidirectional stream of a session
abbrev pub uni_of : ℕ → ℕ → Typed QuicRecvStream UniRemoteWT
uni_of s id = record { halves = record { id = id }; stage = record { session = s } }

-- its bidirectional one
abbrev pub bi_of : ℕ → ℕ → Typed StreamPair BiRemoteWT
bi_of s id = record { halves = both id; stage = record { session = s } }

-- the session's next datagram
abbrev pub next_datagram_now : ℕ → DriverNow → Option WaitingDatagram
next_datagram_now s d = first_datagram (datagrams_of (live_in d.work.dispatched.sessions s))

-- the stream of a request with these fields, on which nothing was read or written since
abbrev pub request_stream : ℕ × Fields → Typed StreamPair Session
request_stream x = record {
  halves = both x.0;
  stage = record { session = x.0; request = x.1; frames = at_item sources.Other; writing = nothing_begun; is_stopped = false };
}
