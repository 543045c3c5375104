-- What a turn is: an event of the transport, bytes of a stream, or a call of the application.
use Rattle.std.specs.Prelude.{Bool, None, Option, Some, false, true}
use Rattle.wt_turn.specs.Log.{Acked, Connected, Datagram, DatagramLimit, End, Event, Loss, MaxBi, MaxData, MaxUni, PeerBi, PeerUni, Reset, Stop}
use Rattle.wt_turn.specs.declared.turn.Turn.{Turn}
use Rattle.wt_turn.specs.declared.turn.Turn.TheVariants as turns

-- the event that a turn of the transport reports, where it carries no bytes
abbrev pub event_of : Turn → Option Event
event_of (turns.Connected uni bi credit fact) = Some (Connected uni bi credit fact)
event_of turns.PeerUni = Some PeerUni
event_of turns.PeerBi = Some PeerBi
event_of (turns.Bytes id piece) = None
event_of (turns.End id) = Some (End id)
event_of (turns.Reset id code) = Some (Reset id code)
event_of (turns.Stop id code) = Some (Stop id code)
event_of (turns.Acked id) = Some (Acked id)
event_of (turns.Datagram piece) = Some (Datagram piece)
event_of (turns.MaxUni total) = Some (MaxUni total)
event_of (turns.MaxBi total) = Some (MaxBi total)
event_of (turns.MaxData id total) = Some (MaxData id total)
event_of (turns.DatagramLimit fact) = Some (DatagramLimit fact)
event_of (turns.Loss reason) = Some (Loss reason)
event_of (turns.Call call) = None

-- the turn is a call of the application
abbrev pub is_call : Turn → Bool
is_call (turns.Call call) = true
is_call _ = false
