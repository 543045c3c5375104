-- One call on what a transport keeps.
use Rattle.std.specs.Prelude.{ℕ, ℤ, ◌+◌, ◌*◌, ◌%◌, ◌^◌, List, [], ◌∷◌, length, take, Option, Some, None, Bool, true, false, nat_lt, is_some, ◌==◌, ◌&&◌, not, if◌then◌else◌}
use Rattle.std.specs.List.{concat}
use Rattle.wt_wire.specs.declared.side.Side.{Side}
use Rattle.wt_wire.specs.declared.side.Side.TheVariants.{Client, Server}
use Rattle.wt_wire.specs.declared.side.StreamEnd.{StreamEnd}
use Rattle.wt_wire.specs.declared.side.StreamEnd.TheVariants as ends
use Rattle.wt_wire.specs.declared.addr.Addr.{Addr}
use Rattle.wt_turn.specs.declared.turn.Turn.{Turn}
use Rattle.wt_turn.specs.declared.turn.Turn.TheVariants as turns
use Rattle.wt_turn.specs.declared.action.Action.{Action}
use Rattle.wt_turn.specs.declared.action.Action.TheVariants as actions
use Rattle.wt_turn.specs.Log.{Event, Connected, PeerUni, PeerBi, End, Reset, Stop, Acked, Datagram, MaxUni, MaxBi, MaxData, DatagramLimit, Loss}
use Rattle.wt_turn.specs.Turns.{event_of}
use Rattle.wt_transport.specs.StreamState.{Stream}
use Rattle.wt_turn.specs.Streams.{local_uni, peer_uni, peer_bi}
use Rattle.wt_turn.specs.Reports.{is_running}
use Rattle.wt_turn.specs.Joined.{join_one}
use Rattle.wt_transport.specs.StreamState as stream
use Rattle.wt_transport.specs.State.{TransportState, nothing_accepted}

-- how many streams of a kind there are
abbrev pub count_now : TransportState → ℕ → ℕ
count_now t kind = length (stream.row_at t.streams kind)

-- ---- which turn may come

-- the connection may begin
abbrev pub may_begin_now : TransportState → Side → Bool
may_begin_now t Server = true
may_begin_now t Client = t.has_dialled

-- the connection may be lost
abbrev pub may_be_lost_now : TransportState → Side → Bool
may_be_lost_now t Server = t.is_connected
may_be_lost_now t Client = t.has_dialled

-- the stream exists and has a receiving half
abbrev pub can_receive_now : TransportState → ℕ → Bool
can_receive_now t id = stream.has_stream t.streams id && not (local_uni t.side == id % 4)

-- the stream exists and has a sending half
abbrev pub can_send_now : TransportState → ℕ → Bool
can_send_now t id = stream.has_stream t.streams id && not (peer_uni t.side == id % 4)

-- bytes, the end or a reset may come for the stream
abbrev pub may_receive_now : TransportState → ℕ → Bool
may_receive_now t id = t.is_connected && can_receive_now t id && is_running (stream.stream_at t.streams id).all_signals.end

-- the peer may stop this end's half
abbrev pub may_stop_now : TransportState → ℕ → Bool
may_stop_now t id =
    t.is_connected && can_send_now t id && not (is_some (stream.stream_at t.streams id).all_signals.stop)
    && not (stream.stream_at t.streams id).all_signals.acknowledged

-- all of this end's half may be acknowledged
abbrev pub may_ack_now : TransportState → ℕ → Bool
may_ack_now t id =
    t.is_connected && (stream.has_stream t.streams id && (stream.stream_at t.streams id).finished) && not (stream.stream_at t.streams id).reset
    && not (is_some (stream.stream_at t.streams id).all_signals.stop) && not (stream.stream_at t.streams id).all_signals.acknowledged

-- the credit of this end's half may be this total
abbrev pub may_raise_now : TransportState → ℕ → ℕ → Bool
may_raise_now t id total = t.is_connected && can_send_now t id && not (nat_lt total (stream.stream_at t.streams id).credit) && nat_lt total (2 ^ 62)

-- the connection may be established with these totals
abbrev pub may_connect_now : TransportState → ℕ → ℕ → ℕ → Bool
may_connect_now t uni bi credit =
    may_begin_now t t.side && not t.is_connected && not (nat_lt (2 ^ 60) uni) && not (nat_lt (2 ^ 60) bi) && nat_lt credit (2 ^ 62)

-- the turn is lawful but for a loss before it
abbrev pub may_come_now : TransportState → Turn → Bool
may_come_now t (turns.Connected uni bi credit datagrams) = may_connect_now t uni bi credit
may_come_now t turns.PeerUni = t.is_connected && nat_lt (count_now t (peer_uni t.side)) (2 ^ 60)
may_come_now t turns.PeerBi = t.is_connected && nat_lt (count_now t (peer_bi t.side)) (2 ^ 60)
may_come_now t (turns.Bytes id piece) = may_receive_now t id
may_come_now t (turns.End id) = may_receive_now t id
may_come_now t (turns.Reset id code) = may_receive_now t id
may_come_now t (turns.Stop id code) = may_stop_now t id
may_come_now t (turns.Acked id) = may_ack_now t id
may_come_now t (turns.Datagram piece) = t.is_connected
may_come_now t (turns.MaxUni total) = t.is_connected && not (nat_lt total t.unis_allowed) && not (nat_lt (2 ^ 60) total)
may_come_now t (turns.MaxBi total) = t.is_connected && not (nat_lt total t.bis_allowed) && not (nat_lt (2 ^ 60) total)
may_come_now t (turns.MaxData id total) = may_raise_now t id total
may_come_now t (turns.DatagramLimit fact) = t.is_connected
may_come_now t (turns.Loss reason) = may_be_lost_now t t.side
may_come_now t (turns.Call call) = false

-- the turn of the transport is lawful
abbrev pub fits_now : TransportState → Turn → Bool
fits_now t turn = may_come_now t turn && not t.is_lost

-- ---- a turn of the transport

-- one stream is changed
abbrev pub with_change : TransportState → ℕ → (Stream → Stream) → TransportState
with_change t id f = record t { streams = stream.with_changed t.streams id f }

-- a stream of this kind is opened
abbrev pub with_new_stream : TransportState → ℕ → TransportState
with_new_stream t kind = record t { streams = stream.with_pushed t.streams kind (stream.fresh t.initial_credit) }

-- the new where the test holds, else the old
abbrev pub if_so : {T : Type 0} → Bool → T → T → T
if_so true new old = new
if_so false new old = old

-- after an event
abbrev pub after_event : TransportState → Event → TransportState
after_event t (Connected uni bi credit datagrams) =
    record t { is_connected = true; unis_allowed = uni; bis_allowed = bi; initial_credit = credit; datagram_fact = if_so t.is_open (Some datagrams) t.datagram_fact }
after_event t PeerUni = with_new_stream t (peer_uni t.side)
after_event t PeerBi = with_new_stream t (peer_bi t.side)
after_event t (End id) = with_change t id (stream.signal t.is_open (stream.with_end ends.Fin))
after_event t (Reset id code) = with_change t id (stream.signal t.is_open (stream.with_end (ends.Reset code)))
after_event t (Stop id code) = with_change t id (stream.signal t.is_open (stream.with_stop code))
after_event t (Acked id) = with_change t id (stream.signal t.is_open stream.with_ack)
after_event t (Datagram piece) = t
after_event t (MaxUni total) = record t { unis_allowed = total }
after_event t (MaxBi total) = record t { bis_allowed = total }
after_event t (MaxData id total) = with_change t id (stream.with_credit total)
after_event t (DatagramLimit fact) = record t { datagram_fact = if_so t.is_open (Some fact) t.datagram_fact }
after_event t (Loss reason) = record t { is_open = false; is_lost = true; loss = if_so t.is_open (Some reason) t.loss }

-- after bytes for a stream
abbrev pub after_bytes : TransportState → ℕ → List ℕ → TransportState
after_bytes t id piece = if_so t.is_open (with_change t id (stream.with_bytes piece)) t

-- after what a turn reports, if it is an event
abbrev pub after_reported : TransportState → Option Event → TransportState
after_reported t (Some e) = after_event t e
after_reported t None = t

-- after a turn of the transport
abbrev pub after_turn : TransportState → Turn → TransportState
after_turn t (turns.Bytes id piece) = after_bytes t id piece
after_turn t turn = after_reported t (event_of turn)

-- the turn needs memory to be recorded
abbrev pub takes_memory : Turn → Bool
takes_memory turns.PeerUni = true
takes_memory turns.PeerBi = true
takes_memory (turns.Bytes id piece) = true
takes_memory (turns.Loss reason) = true
takes_memory _ = false

-- after a turn that takes no memory; any other is left
abbrev pub after_in_place : TransportState → Turn → TransportState
after_in_place t turn = if takes_memory turn then t else after_turn t turn

-- ---- what goes out

-- one more action is to go out
abbrev pub with_action : TransportState → Action → TransportState
with_action t a = record t { actions = join_one t.actions a }

-- how many streams of a local kind may be opened in all
abbrev pub streams_allowed_now : TransportState → ℕ → ℕ
streams_allowed_now t kind = if local_uni t.side == kind then t.unis_allowed else t.bis_allowed

-- this end may open one more stream of this kind
abbrev pub may_open_now : TransportState → ℕ → Bool
may_open_now t kind = t.is_open && nat_lt (count_now t kind) (streams_allowed_now t kind)

-- the id of the next stream of a kind
abbrev pub next_id_now : TransportState → ℕ → ℕ
next_id_now t kind = 4 * count_now t kind + kind

-- what opening a stream of a kind answers
abbrev pub opened_id_now : TransportState → ℕ → Option ℕ
opened_id_now t kind = if may_open_now t kind then Some (next_id_now t kind) else None

-- after a stream of this kind was opened, where it may be
abbrev pub after_opening : TransportState → ℕ → TransportState
after_opening t kind = if may_open_now t kind then with_action (with_new_stream t kind) (actions.Opened (next_id_now t kind)) else t

-- the sending half can still send
abbrev pub may_send_now : TransportState → ℕ → Bool
may_send_now t id =
    t.is_open && can_send_now t id && not (stream.stream_at t.streams id).finished && not (stream.stream_at t.streams id).reset
    && not (is_some (stream.stream_at t.streams id).signals.stop)

-- the bytes of these that credit is left for
abbrev pub covered_now : TransportState → ℕ → List ℕ → List ℕ
covered_now t id bytes = take (stream.credit_of (stream.stream_at t.streams id)) bytes

-- these bytes go out on the stream; no bytes send nothing
abbrev pub with_send : TransportState → ℕ → List ℕ → TransportState
with_send t id [] = t
with_send t id (byte ∷ later) = with_action (with_change t id (stream.with_sent (length (byte ∷ later)))) (actions.Send id (byte ∷ later))

-- after as many of these bytes were sent as credit is left for
abbrev pub after_send : TransportState → ℕ → List ℕ → TransportState
after_send t id bytes = with_send t id (covered_now t id bytes)

-- after the sending half was finished
abbrev pub after_finish : TransportState → ℕ → TransportState
after_finish t id = with_action (with_change t id stream.with_finish) (actions.Finish id)

-- after the sending half was reset, also where the connection has ended and nothing goes out
abbrev pub after_reset : TransportState → ℕ → ℕ → TransportState
after_reset t id code = if_so t.is_open (with_action (with_change t id stream.with_reset) (actions.ResetOut id code)) (with_change t id stream.with_reset)

-- after the peer was asked to stop, where the connection is open
abbrev pub after_stop : TransportState → ℕ → ℕ → TransportState
after_stop t id code = if_so t.is_open (with_action t (actions.StopOut id code)) t

-- after the priority of the sending half was set
abbrev pub after_priority : TransportState → ℕ → ℤ → TransportState
after_priority t id priority = with_change t id (stream.with_priority priority)

-- after a connection was asked for
abbrev pub after_dial : TransportState → Addr → List ℕ → TransportState
after_dial t address name = with_action (record t { has_dialled = true }) (actions.Dial address name)

-- after the connection was closed, where it was open
abbrev pub after_close : TransportState → ℕ → List ℕ → TransportState
after_close t code reason = if_so t.is_open (with_action (record t { is_open = false }) (actions.Close code reason)) t

-- ---- what came

-- the unread pieces of a stream
abbrev pub pieces_now : TransportState → ℕ → List (List ℕ)
pieces_now t id = if stream.has_stream t.streams id then (stream.stream_at t.streams id).unread else []

-- the unread bytes of a stream, in order
abbrev pub unread_now : TransportState → ℕ → List ℕ
unread_now t id = concat (pieces_now t id)

-- after n bytes of a stream were read
abbrev pub after_consume : TransportState → ℕ → ℕ → TransportState
after_consume t id count = if stream.has_stream t.streams id then with_change t id (stream.consume count) else t

-- after a stream was given up
abbrev pub after_give_up : TransportState → ℕ → TransportState
after_give_up t id = with_change t id stream.give_up

-- how the receiving half ended
abbrev pub end_now : TransportState → ℕ → StreamEnd
end_now t id = if stream.has_stream t.streams id then (stream.stream_at t.streams id).signals.end else ends.Running

-- ---- what was reported of a stream, and what went out on it

-- how many bytes may go out on it in all; before it is opened, what a new one may
abbrev pub credit_now : TransportState → ℕ → ℕ
credit_now t id = if stream.has_stream t.streams id then (stream.stream_at t.streams id).credit else t.initial_credit

-- the code with which the peer stopped this end's half
abbrev pub stop_now : TransportState → ℕ → Option ℕ
stop_now t id = if stream.has_stream t.streams id then (stream.stream_at t.streams id).signals.stop else None

-- how many bytes went out on it
abbrev pub sent_now : TransportState → ℕ → ℕ
sent_now t id = if stream.has_stream t.streams id then (stream.stream_at t.streams id).sent else 0

-- this end finished its half
abbrev pub is_finished_now : TransportState → ℕ → Bool
is_finished_now t id = stream.has_stream t.streams id && (stream.stream_at t.streams id).finished

-- this end reset its half
abbrev pub is_reset_now : TransportState → ℕ → Bool
is_reset_now t id = stream.has_stream t.streams id && (stream.stream_at t.streams id).reset

-- all of this end's half was acknowledged
abbrev pub is_acknowledged_now : TransportState → ℕ → Bool
is_acknowledged_now t id = stream.has_stream t.streams id && (stream.stream_at t.streams id).signals.acknowledged

-- at first
abbrev pub nothing_connected : Side → TransportState
nothing_connected side = record {
  side = side;
  is_open = true;
  has_dialled = false;
  is_connected = false;
  is_lost = false;
  unis_allowed = 0;
  bis_allowed = 0;
  initial_credit = 0;
  datagram_fact = None;
  loss = None;
  streams = [] ∷ [] ∷ [] ∷ [] ∷ [];
  accepted = nothing_accepted;
  actions = [];
}
