-- The turn of a head and bytes.
use Rattle.std.specs.Prelude.{ℕ, ◌-◌, nat_lt, List, slice_get, Option, Some, if◌then◌else◌}
use Rattle.std.specs.Option.{option_and_then, option_map}
use Rattle.wt_turn.specs.declared.call.Call.{Call}
use Rattle.wt_turn.specs.declared.call.Call.TheVariants as calls
use Rattle.wt_turn.specs.declared.turn.Turn.{Turn}
use Rattle.wt_turn.specs.declared.turn.Turn.TheVariants as turns
use Rattle.wt_abi.specs.declared.head.TurnHead.{TurnHead}
use Rattle.wt_abi.specs.declared.kinds.CallKind.{CallKind}
use Rattle.wt_abi.specs.declared.kinds.CallKind.TheVariants as of
use Rattle.wt_abi.specs.declared.kinds.EventKind.{EventKind}
use Rattle.wt_abi.specs.declared.kinds.EventKind.TheVariants as event
use Rattle.wt_abi.specs.Connecting.{connect_of, loss_of}
use Rattle.wt_abi.specs.Kinds.{call_kinds, event_kinds}
use Rattle.wt_abi.specs.Numbers.{code_of, fact_of, session_of, stream_and_code, stream_of}
use Rattle.wt_abi.specs.Texts.{fields_of}

-- the event of this kind
abbrev pub event_with : EventKind → TurnHead → List ℕ → Option Turn
event_with event.Connected h bytes = option_map (turns.Connected h.uni h.bi h.number) (fact_of h)
event_with event.PeerUni h bytes = Some turns.PeerUni
event_with event.PeerBi h bytes = Some turns.PeerBi
event_with event.Bytes h bytes = option_map (λ id. turns.Bytes id bytes) (stream_of h)
event_with event.End h bytes = option_map turns.End (stream_of h)
event_with event.Reset h bytes = option_map (λ p. turns.Reset p.0 p.1) (stream_and_code h)
event_with event.Stop h bytes = option_map (λ p. turns.Stop p.0 p.1) (stream_and_code h)
event_with event.Acked h bytes = option_map turns.Acked (stream_of h)
event_with event.Datagram h bytes = Some (turns.Datagram bytes)
event_with event.MaxUni h bytes = Some (turns.MaxUni h.number)
event_with event.MaxBi h bytes = Some (turns.MaxBi h.number)
event_with event.MaxData h bytes = option_map (λ id. turns.MaxData id h.number) (stream_of h)
event_with event.DatagramLimit h bytes = option_map turns.DatagramLimit (fact_of h)
event_with event.Loss h bytes = option_map turns.Loss (loss_of h bytes)

-- the call of this kind
abbrev pub call_with : CallKind → TurnHead → List ℕ → Option Call
call_with of.Connect h bytes = connect_of h bytes
call_with of.Incoming h bytes = Some calls.Incoming
call_with of.Accept h bytes = option_map calls.Accept (fields_of h.fields bytes)
call_with of.Forbidden h bytes = Some calls.Forbidden
call_with of.NotFound h bytes = Some calls.NotFound
call_with of.TooManyRequests h bytes = Some calls.TooManyRequests
call_with of.Handshake h bytes = Some calls.Handshake
call_with of.EndpointClose h bytes = option_map (λ code. calls.EndpointClose code bytes) (code_of h)
call_with of.AcceptUni h bytes = option_map calls.AcceptUni (session_of h)
call_with of.AcceptBi h bytes = option_map calls.AcceptBi (session_of h)
call_with of.ReceiveDatagram h bytes = option_map calls.ReceiveDatagram (session_of h)
call_with of.OpenUni h bytes = option_map calls.OpenUni (session_of h)
call_with of.OpenBi h bytes = option_map calls.OpenBi (session_of h)
call_with of.PollOpening h bytes = option_map calls.PollOpening (stream_of h)
call_with of.SendDatagram h bytes = option_map (calls.SendDatagram bytes) (session_of h)
call_with of.EndSession h bytes = option_map calls.EndSession (session_of h)
call_with of.MaxDatagramSize h bytes = option_map calls.MaxDatagramSize (session_of h)
call_with of.SessionId h bytes = option_map calls.SessionId (session_of h)
call_with of.Close h bytes = option_map (λ code. calls.Close code bytes) (code_of h)
call_with of.Closed h bytes = Some calls.Closed
call_with of.Write h bytes = option_map (λ id. calls.Write id bytes) (stream_of h)
call_with of.WriteAll h bytes = option_map (λ id. calls.WriteAll id bytes) (stream_of h)
call_with of.Finish h bytes = option_map calls.Finish (stream_of h)
call_with of.Stopped h bytes = option_map calls.Stopped (stream_of h)
call_with of.Priority h bytes = option_map calls.Priority (stream_of h)
call_with of.SetPriority h bytes = option_map (λ id. calls.SetPriority id h.priority) (stream_of h)
call_with of.ResetSend h bytes = option_map (λ p. calls.ResetSend p.0 p.1) (stream_and_code h)
call_with of.Read h bytes = option_map (λ id. calls.Read id h.number) (stream_of h)
call_with of.ReadExact h bytes = option_map (λ id. calls.ReadExact id h.number) (stream_of h)
call_with of.StopRecv h bytes = option_map (λ p. calls.StopRecv p.0 p.1) (stream_and_code h)

-- the turn: events have the numbers below 64, and calls those from 64 on. None where there is no such turn
unfoldable pub turn_of : TurnHead → List ℕ → Option Turn
turn_of h bytes =
    if nat_lt h.kind 64
    then option_and_then (λ kind. event_with kind h bytes) (slice_get event_kinds h.kind)
    else option_and_then (λ kind. option_map turns.Call (call_with kind h bytes)) (slice_get call_kinds (h.kind - 64))
