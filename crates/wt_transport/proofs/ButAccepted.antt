-- How many streams were accepted changes no other step and no answer: what is kept but for that goes the same way.
use Rattle.std.proofs.Common.{◌≡◌, ℕ, Bool, true, false, Some, None, List, [], ◌∷◌, refl}
use Rattle.std.specs.Prelude.{Option, if◌then◌else◌}
use Rattle.wt_wire.specs.declared.side.Side.{Side}
use Rattle.wt_wire.specs.declared.side.Side.TheVariants.{Client, Server}
use Rattle.wt_turn.specs.declared.turn.Turn.{Turn}
use Rattle.wt_turn.specs.declared.turn.Turn.TheVariants as turns
use Rattle.wt_turn.specs.declared.action.Action.TheVariants as actions
use Rattle.wt_turn.specs.Log.{Event, Connected, PeerUni, PeerBi, End, Reset, Stop, Acked, Datagram, MaxUni, MaxBi, MaxData, DatagramLimit, Loss}
use Rattle.wt_turn.specs.Turns.{event_of}
use Rattle.wt_transport.specs.StreamState.{consume, has_stream, with_bytes}
use Rattle.wt_transport.specs.State.{TransportState, but_accepted}
use Rattle.wt_transport.specs.Step.{after_bytes, after_close, after_consume, after_event, after_opening, after_reported, after_reset, after_send, after_stop, after_turn, covered_now, fits_now, if_so, may_be_lost_now, may_begin_now, may_open_now, next_id_now, with_action, with_change, with_new_stream, with_send}

-- the step goes the same way, whatever was accepted
abbrev pub Forgets : (TransportState → TransportState) → TransportState → Type 0
Forgets step t = but_accepted (step t) ≡ step (but_accepted t)

but-if : (b : Bool) (x y : TransportState) → but_accepted (if b then x else y) ≡ (if b then but_accepted x else but_accepted y)
but-if true x y = refl
but-if false x y = refl

but-so : (b : Bool) (x y : TransportState) → but_accepted (if_so b x y) ≡ if_so b (but_accepted x) (but_accepted y)
but-so true x y = refl
but-so false x y = refl

-- ---- what comes

begin-same : (t : TransportState) (side : Side) → may_begin_now (but_accepted t) side ≡ may_begin_now t side
begin-same t Client = refl
begin-same t Server = refl

lost-same : (t : TransportState) (side : Side) → may_be_lost_now (but_accepted t) side ≡ may_be_lost_now t side
lost-same t Client = refl
lost-same t Server = refl

pub fits-same : (t : TransportState) (turn : Turn) → fits_now (but_accepted t) turn ≡ fits_now t turn
fits-same t (turns.Connected uni bi credit datagrams) = rw (begin-same t t.side) refl
fits-same t turns.PeerUni = refl
fits-same t turns.PeerBi = refl
fits-same t (turns.Bytes id piece) = refl
fits-same t (turns.End id) = refl
fits-same t (turns.Reset id code) = refl
fits-same t (turns.Stop id code) = refl
fits-same t (turns.Acked id) = refl
fits-same t (turns.Datagram piece) = refl
fits-same t (turns.MaxUni total) = refl
fits-same t (turns.MaxBi total) = refl
fits-same t (turns.MaxData id total) = refl
fits-same t (turns.DatagramLimit fact) = refl
fits-same t (turns.Loss reason) = rw (lost-same t t.side) refl
fits-same t (turns.Call call) = refl

event-forgets : (t : TransportState) (e : Event) → Forgets (λ u. after_event u e) t
event-forgets t (Connected uni bi credit datagrams) = refl
event-forgets t PeerUni = refl
event-forgets t PeerBi = refl
event-forgets t (End id) = refl
event-forgets t (Reset id code) = refl
event-forgets t (Stop id code) = refl
event-forgets t (Acked id) = refl
event-forgets t (Datagram piece) = refl
event-forgets t (MaxUni total) = refl
event-forgets t (MaxBi total) = refl
event-forgets t (MaxData id total) = refl
event-forgets t (DatagramLimit fact) = refl
event-forgets t (Loss reason) = refl

reported-forgets : (t : TransportState) (e : Option Event) → Forgets (λ u. after_reported u e) t
reported-forgets t (Some e) = event-forgets t e
reported-forgets t None = refl

pub bytes-forgets : (t : TransportState) (id : ℕ) (bytes : List ℕ) → Forgets (λ u. after_bytes u id bytes) t
bytes-forgets t id bytes = but-so t.is_open (with_change t id (with_bytes bytes)) t

pub turn-forgets : (t : TransportState) (turn : Turn) → Forgets (λ u. after_turn u turn) t
turn-forgets t (turns.Bytes id piece) = bytes-forgets t id piece
turn-forgets t (turns.Connected uni bi credit datagrams) = reported-forgets t (event_of (turns.Connected uni bi credit datagrams))
turn-forgets t turns.PeerUni = refl
turn-forgets t turns.PeerBi = refl
turn-forgets t (turns.End id) = refl
turn-forgets t (turns.Reset id code) = refl
turn-forgets t (turns.Stop id code) = refl
turn-forgets t (turns.Acked id) = refl
turn-forgets t (turns.Datagram piece) = refl
turn-forgets t (turns.MaxUni total) = refl
turn-forgets t (turns.MaxBi total) = refl
turn-forgets t (turns.MaxData id total) = refl
turn-forgets t (turns.DatagramLimit fact) = refl
turn-forgets t (turns.Loss reason) = refl
turn-forgets t (turns.Call call) = refl

-- ---- what goes out, and what is read

pub opening-forgets : (t : TransportState) (kind : ℕ) → Forgets (λ u. after_opening u kind) t
opening-forgets t kind = but-if (may_open_now t kind) (with_action (with_new_stream t kind) (actions.Opened (next_id_now t kind))) t

send-forgets-of : (t : TransportState) (id : ℕ) (part : List ℕ) → Forgets (λ u. with_send u id part) t
send-forgets-of t id [] = refl
send-forgets-of t id (byte ∷ later) = refl

pub send-forgets : (t : TransportState) (id : ℕ) (bytes : List ℕ) → Forgets (λ u. after_send u id bytes) t
send-forgets t id bytes = send-forgets-of t id (covered_now t id bytes)

pub reset-forgets : (t : TransportState) (id code : ℕ) → Forgets (λ u. after_reset u id code) t
reset-forgets t id code = but-so t.is_open _ _

pub stop-forgets : (t : TransportState) (id code : ℕ) → Forgets (λ u. after_stop u id code) t
stop-forgets t id code = but-so t.is_open _ t

pub close-forgets : (t : TransportState) (code : ℕ) (reason : List ℕ) → Forgets (λ u. after_close u code reason) t
close-forgets t code reason = but-so t.is_open _ t

pub consume-forgets : (t : TransportState) (id count : ℕ) → Forgets (λ u. after_consume u id count) t
consume-forgets t id count = but-if (has_stream t.streams id) (with_change t id (consume count)) t
