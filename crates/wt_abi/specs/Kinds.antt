-- The kinds of turns: the number of a kind is its place in its list.
use Rattle.std.specs.Prelude.{List, [], ◌∷◌}
use Rattle.wt_abi.specs.declared.kinds.EventKind.{EventKind}
use Rattle.wt_abi.specs.declared.kinds.EventKind.TheVariants as events
use Rattle.wt_abi.specs.declared.kinds.CallKind.{CallKind}
use Rattle.wt_abi.specs.declared.kinds.CallKind.TheVariants as calls

-- the kinds of events of the transport, in the order of `Turn`
abbrev pub event_kinds : List EventKind
event_kinds =
    events.Connected ∷ events.PeerUni ∷ events.PeerBi ∷ events.Bytes ∷ events.End ∷ events.Reset ∷
    events.Stop ∷ events.Acked ∷ events.Datagram ∷ events.MaxUni ∷ events.MaxBi ∷ events.MaxData ∷
    events.DatagramLimit ∷ events.Loss ∷ []

-- the kinds of calls of the application, in the order of `Call`
abbrev pub call_kinds : List CallKind
call_kinds =
    calls.Connect ∷ calls.Incoming ∷ calls.Accept ∷ calls.Forbidden ∷ calls.NotFound ∷
    calls.TooManyRequests ∷ calls.Handshake ∷ calls.EndpointClose ∷ calls.AcceptUni ∷
    calls.AcceptBi ∷ calls.ReceiveDatagram ∷ calls.OpenUni ∷ calls.OpenBi ∷ calls.PollOpening ∷
    calls.SendDatagram ∷ calls.EndSession ∷ calls.MaxDatagramSize ∷ calls.SessionId ∷ calls.Close ∷
    calls.Closed ∷ calls.Write ∷ calls.WriteAll ∷ calls.Finish ∷ calls.Stopped ∷ calls.Priority ∷
    calls.SetPriority ∷ calls.ResetSend ∷ calls.Read ∷ calls.ReadExact ∷ calls.StopRecv ∷ []
