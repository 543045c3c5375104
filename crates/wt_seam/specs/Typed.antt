-- The typed streams, as their calls see them.
use Rattle.std.specs.Prelude.{ℕ, List, [], Option, Some, None, Result, Ok, Err, Bool, true, false, ◌&&◌, if◌then◌else◌}
use Rattle.wt_turn.specs.declared.poll.Poll.{Poll}
use Rattle.wt_turn.specs.declared.poll.Poll.TheVariants as polls
use Rattle.wt_turn.specs.declared.stream_error.AlreadyStop.{AlreadyStop}
use Rattle.wt_wire.specs.declared.frame.FrameKind.TheVariants as kinds
use Rattle.wt_wire.specs.FrameBytes.{frame_bytes}
use Rattle.wt_transport.specs.declared.halves.QuicSendStream.{QuicSendStream}
use Rattle.wt_transport.specs.declared.halves.QuicRecvStream.{QuicRecvStream}
use Rattle.wt_transport.specs.State.{TransportState}
use Rattle.wt_transport.specs.Step.{can_receive_now, can_send_now, after_give_up, after_stop}
use Rattle.wt_transport.specs.Rules.{may_write_now}
use Rattle.wt_seam.specs.declared.next_frame.FrameSource.{FrameSource}
use Rattle.wt_seam.specs.declared.next_frame.FrameSource.TheVariants as sources
use Rattle.wt_seam.specs.declared.uni_header.UniHeader.{UniHeader}
use Rattle.wt_seam.specs.declared.uni_header.UniHeader.TheVariants as headers

-- a stream: its halves, and what is known of it
pub record Typed (S P : Type 0) : Type 0 where
  pub halves : S
  pub stage : P

-- both halves of a bidirectional stream
abbrev pub StreamPair : Type 0
StreamPair = QuicSendStream × QuicRecvStream

-- both halves of the stream with this id
abbrev pub both : ℕ → StreamPair
both id = (record { id = id }, record { id = id })

-- a stream that is there, in this stage
abbrev pub in_stage : {S P : Type 0} → (ℕ → S) → P → Option ℕ → Option (Typed S P)
in_stage halves stage None = None
in_stage halves stage (Some id) = Some (record { halves = halves id; stage = stage })

-- the stream has both halves in the transport
abbrev pub has_both : TransportState → StreamPair → Bool
has_both t halves = can_send_now t halves.0.id && can_receive_now t halves.1.id

-- the sending half is in the transport, and a write isn't closed
abbrev pub can_write_now : TransportState → ℕ → Bool
can_write_now t id = can_send_now t id && may_write_now t id

-- what a poll answers, with something made of what it gives
abbrev pub map_poll : {A B E : Type 0} → (A → B) → Poll (Result A E) → Poll (Result B E)
map_poll f (polls.Ready (Ok a)) = polls.Ready (Ok (f a))
map_poll f (polls.Ready (Err error)) = polls.Ready (Err error)
map_poll f polls.Pending = polls.Pending

-- the poll gives what it is made for
abbrev pub is_through : {A E : Type 0} → Poll (Result A E) → Bool
is_through (polls.Ready (Ok a)) = true
is_through (polls.Ready (Err error)) = false
is_through polls.Pending = false

-- the poll is ready, whatever it gives
abbrev pub ready_at_all : {A : Type 0} → Poll A → Poll (Unit {0})
ready_at_all (polls.Ready a) = polls.Ready tt
ready_at_all polls.Pending = polls.Pending

-- the signal of a stream of this session (draft-ietf-webtrans-http3, section 4.3)
abbrev pub signal_bytes : ℕ → List ℕ
signal_bytes session = frame_bytes (record { kind = kinds.WebTransport; payload = []; session = Some session })

-- which frames a stream with this header gives
abbrev pub source_of : UniHeader → FrameSource
source_of headers.Control = sources.Control
source_of headers.QPackEncoder = sources.Other
source_of headers.QPackDecoder = sources.Other
source_of (headers.WebTransport session) = sources.Other
source_of (headers.Exercise number) = sources.Other

-- a stop of a half answers whether an earlier one succeeded
abbrev pub stop_answer : Bool → Result (Unit {0}) AlreadyStop
stop_answer stopped = if stopped then Err (record {}) else Ok tt

-- after a stop of a half, which counts once: the peer is asked to stop, and the half is given up
abbrev pub after_stop_once : Bool → TransportState → ℕ → ℕ → TransportState
after_stop_once stopped t id code = if stopped then t else after_give_up (after_stop t id code) id
