-- Recorded sessions: what the definitions give is what was recorded. Made by `tools/meaning lemmas`.
use Rattle.std.specs.Prelude.{[], ◌∷◌, ◌≡◌, None, Some, false, negsuc, pos, true}
use Rattle.std.proofs.Common.{refl}
use Rattle.wt_meaning.proofs.Recorded.{computed, parsed}
use Rattle.wt_meaning.specs.Meaning.{run}
use Rattle.wt_meaning.specs.Rows.{answer}
use Rattle.wt_wire.specs.declared.side.Side.TheVariants.{Client, Server}
use Rattle.wt_turn.specs.declared.action.Action.TheVariants as actions
use Rattle.wt_wire.specs.declared.addr.Addr.TheVariants as addresses
use Rattle.wt_turn.specs.declared.call.Call.TheVariants as calls
use Rattle.wt_turn.specs.declared.connecting_error.ConnectingError.TheVariants as connects
use Rattle.wt_turn.specs.declared.stream_error.SendDatagramError.TheVariants as datagrams
use Rattle.wt_turn.specs.declared.connection_error.ConnectionError.TheVariants as errors
use Rattle.wt_turn.specs.declared.datagram_fact.DatagramFact.TheVariants as facts
use Rattle.wt_wire.specs.declared.error.ErrorCode.TheVariants as h3
use Rattle.wt_wire.specs.declared.lookup.Lookup.TheVariants as lookups
use Rattle.wt_wire.specs.declared.lookup.ConnectOutcome.TheVariants as outcomes
use Rattle.wt_turn.specs.declared.loss.LossReason.TheVariants as losses
use Rattle.wt_turn.specs.declared.reply.Reply.TheVariants as replies
use Rattle.wt_turn.specs.declared.turn.Turn.TheVariants as turns
use Rattle.wt_turn.specs.declared.stream_error.StreamWriteError.TheVariants as writes

pub emit_45 : run Client (turns.Call (calls.Connect ((104 ∷ 116 ∷ 116 ∷ 112 ∷ 115 ∷ 58 ∷ 47 ∷ 47 ∷ 104 ∷ []), ([])) (lookups.Found (addresses.V4 1 443)) outcomes.Proceed) ∷ turns.Connected 9 9 1000 (facts.Limit 5) ∷ turns.PeerUni ∷ turns.Bytes 3 (0 ∷ 4 ∷ 0 ∷ []) ∷ turns.Call calls.Handshake ∷ turns.Bytes 0 (1 ∷ 15 ∷ 0 ∷ 0 ∷ 39 ∷ 0 ∷ 58 ∷ 115 ∷ 116 ∷ 97 ∷ 116 ∷ 117 ∷ 115 ∷ 3 ∷ 50 ∷ 48 ∷ 52 ∷ []) ∷ turns.Call calls.Handshake ∷ turns.Call (calls.Stopped 0) ∷ turns.Call (calls.Read 2 3) ∷ turns.Bytes 3 (202 ∷ []) ∷ turns.Call (calls.ResetSend 3 0) ∷ turns.PeerBi ∷ turns.End 3 ∷ turns.Call (calls.Priority 6) ∷ turns.Call (calls.Read 1 9) ∷ turns.MaxUni 11 ∷ turns.Call (calls.PollOpening 3) ∷ turns.Call (calls.Finish 1) ∷ turns.Bytes 1 (64 ∷ 65 ∷ 0 ∷ []) ∷ turns.Bytes 1 (64 ∷ 65 ∷ 4 ∷ []) ∷ turns.Call (calls.Write 10 (97 ∷ [])) ∷ turns.End 1 ∷ turns.Call (calls.SetPriority 2 (negsuc 4)) ∷ turns.Bytes 0 (0 ∷ 7 ∷ 104 ∷ 67 ∷ 4 ∷ 0 ∷ 0 ∷ 0 ∷ 0 ∷ []) ∷ turns.Bytes 0 (0 ∷ 10 ∷ 104 ∷ 67 ∷ 7 ∷ 0 ∷ 0 ∷ 0 ∷ 7 ∷ 98 ∷ 121 ∷ 101 ∷ []) ∷ turns.Call (calls.AcceptUni None) ∷ turns.Call (calls.WriteAll 2 (97 ∷ [])) ∷ turns.Bytes 0 (0 ∷ 3 ∷ 104 ∷ 67 ∷ 7 ∷ []) ∷ turns.Call (calls.ReceiveDatagram None) ∷ turns.PeerUni ∷ turns.End 0 ∷ turns.Call (calls.SessionId (Some 8)) ∷ turns.Call (calls.Finish 7) ∷ turns.Bytes 7 (0 ∷ []) ∷ turns.Call (calls.AcceptUni (Some 0)) ∷ turns.Bytes 7 (64 ∷ 84 ∷ 8 ∷ []) ∷ turns.Call (calls.EndSession (Some 0)) ∷ turns.Bytes 7 (64 ∷ 84 ∷ 1 ∷ []) ∷ turns.Call (calls.ResetSend 2 0) ∷ turns.PeerUni ∷ turns.Bytes 11 ([]) ∷ turns.Call (calls.StopRecv 3 7) ∷ turns.Call (calls.Read 7 3) ∷ turns.Loss losses.VersionMismatch ∷ turns.Call (calls.Finish 3) ∷ turns.Call (calls.StopRecv 1 1) ∷ turns.Call (calls.Finish 7) ∷ turns.Call (calls.OpenUni None) ∷ turns.Call (calls.ReadExact 7 1) ∷ turns.Call (calls.EndSession None) ∷ turns.Call (calls.StopRecv 1 0) ∷ turns.Call (calls.AcceptUni None) ∷ turns.Call (calls.StopRecv 0 1) ∷ turns.Call (calls.AcceptBi (Some 0)) ∷ turns.Call (calls.OpenUni (Some 16)) ∷ turns.Call (calls.StopRecv 18 1) ∷ turns.Acked 2 ∷ turns.Call (calls.AcceptBi (Some 16)) ∷ turns.Call (calls.AcceptBi None) ∷ turns.Call (calls.ReadExact 3 1) ∷ turns.Call (calls.PollOpening 2) ∷ []) ≡ record { answers = (answer replies.Pending (actions.Dial (addresses.V4 1 443) (104 ∷ []) ∷ []) ∷ answer replies.Done (actions.Opened 2 ∷ actions.Send 2 (0 ∷ 4 ∷ 22 ∷ 1 ∷ 0 ∷ 7 ∷ 0 ∷ 8 ∷ 1 ∷ 51 ∷ 1 ∷ 171 ∷ 96 ∷ 55 ∷ 66 ∷ 1 ∷ 192 ∷ 0 ∷ 0 ∷ 0 ∷ 198 ∷ 113 ∷ 112 ∷ 106 ∷ 4 ∷ []) ∷ []) ∷ answer replies.Done ([]) ∷ answer replies.Done ([]) ∷ answer replies.Pending (actions.Opened 0 ∷ actions.Send 0 (1 ∷ 64 ∷ 80 ∷ 0 ∷ 0 ∷ 39 ∷ 3 ∷ 58 ∷ 97 ∷ 117 ∷ 116 ∷ 104 ∷ 111 ∷ 114 ∷ 105 ∷ 116 ∷ 121 ∷ 1 ∷ 104 ∷ 39 ∷ 0 ∷ 58 ∷ 109 ∷ 101 ∷ 116 ∷ 104 ∷ 111 ∷ 100 ∷ 7 ∷ 67 ∷ 79 ∷ 78 ∷ 78 ∷ 69 ∷ 67 ∷ 84 ∷ 37 ∷ 58 ∷ 112 ∷ 97 ∷ 116 ∷ 104 ∷ 1 ∷ 47 ∷ 39 ∷ 2 ∷ 58 ∷ 112 ∷ 114 ∷ 111 ∷ 116 ∷ 111 ∷ 99 ∷ 111 ∷ 108 ∷ 12 ∷ 119 ∷ 101 ∷ 98 ∷ 116 ∷ 114 ∷ 97 ∷ 110 ∷ 115 ∷ 112 ∷ 111 ∷ 114 ∷ 116 ∷ 39 ∷ 0 ∷ 58 ∷ 115 ∷ 99 ∷ 104 ∷ 101 ∷ 109 ∷ 101 ∷ 5 ∷ 104 ∷ 116 ∷ 116 ∷ 112 ∷ 115 ∷ []) ∷ []) ∷ answer replies.Done ([]) ∷ answer (replies.Session 0) ([]) ∷ answer replies.NoStream ([]) ∷ answer replies.NoStream ([]) ∷ answer replies.Done ([]) ∷ answer replies.NoStream ([]) ∷ answer replies.Done ([]) ∷ answer replies.Done (actions.Close 260 ([]) ∷ []) ∷ answer replies.NoStream ([]) ∷ answer replies.NoStream ([]) ∷ answer replies.Done ([]) ∷ answer replies.NoStream ([]) ∷ answer replies.NoStream ([]) ∷ answer replies.Done ([]) ∷ answer replies.Done ([]) ∷ answer replies.NoStream ([]) ∷ answer replies.Done ([]) ∷ answer replies.NoStream ([]) ∷ answer replies.Done ([]) ∷ answer replies.Done ([]) ∷ answer (replies.Failed (errors.LocalH3Error h3.ClosedCriticalStream)) ([]) ∷ answer replies.NoStream ([]) ∷ answer replies.Done ([]) ∷ answer (replies.Failed (errors.LocalH3Error h3.ClosedCriticalStream)) ([]) ∷ answer replies.Done ([]) ∷ answer replies.Done ([]) ∷ answer replies.NoSession ([]) ∷ answer replies.NoStream ([]) ∷ answer replies.Done ([]) ∷ answer (replies.Failed (errors.LocalH3Error h3.ClosedCriticalStream)) ([]) ∷ answer replies.Done ([]) ∷ answer replies.Done ([]) ∷ answer replies.Done ([]) ∷ answer replies.NoStream ([]) ∷ answer replies.Done ([]) ∷ answer replies.Done ([]) ∷ answer replies.NoStream ([]) ∷ answer replies.NoStream ([]) ∷ answer replies.Done ([]) ∷ answer replies.NoStream ([]) ∷ answer replies.NoStream ([]) ∷ answer replies.NoStream ([]) ∷ answer (replies.Failed errors.LocallyClosed) ([]) ∷ answer replies.NoStream ([]) ∷ answer replies.Done ([]) ∷ answer replies.NoStream ([]) ∷ answer (replies.Failed (errors.LocalH3Error h3.ClosedCriticalStream)) ([]) ∷ answer replies.NoStream ([]) ∷ answer (replies.Failed (errors.LocalH3Error h3.ClosedCriticalStream)) ([]) ∷ answer replies.NoSession ([]) ∷ answer replies.NoStream ([]) ∷ []); is_all = false }
unfolding computed parsed
emit_45 = refl

pub emit_47 : run Client (turns.Call (calls.Connect ((104 ∷ 116 ∷ 116 ∷ 112 ∷ 115 ∷ 58 ∷ 47 ∷ 47 ∷ 104 ∷ []), ([])) (lookups.Found (addresses.V4 1 443)) outcomes.Proceed) ∷ turns.Connected 9 9 100 (facts.Limit 1200) ∷ turns.PeerUni ∷ turns.Bytes 3 (0 ∷ 4 ∷ 0 ∷ []) ∷ turns.Call calls.Handshake ∷ turns.Bytes 0 (1 ∷ 15 ∷ 0 ∷ 0 ∷ 39 ∷ 0 ∷ 58 ∷ 115 ∷ 116 ∷ 97 ∷ 116 ∷ 117 ∷ 115 ∷ 3 ∷ 50 ∷ 48 ∷ 48 ∷ []) ∷ turns.Call calls.Handshake ∷ turns.PeerUni ∷ turns.Bytes 0 (1 ∷ 0 ∷ []) ∷ turns.Call (calls.ResetSend 3 300) ∷ turns.Call (calls.OpenUni (Some 12)) ∷ turns.Call (calls.ReadExact 3 3) ∷ turns.PeerUni ∷ turns.End 0 ∷ turns.Call (calls.ReadExact 7 2) ∷ turns.Call (calls.Finish 0) ∷ turns.Call (calls.OpenUni (Some 12)) ∷ turns.Bytes 3 (51 ∷ []) ∷ turns.Call (calls.ReceiveDatagram None) ∷ turns.PeerUni ∷ turns.Call (calls.ReadExact 2 0) ∷ turns.Datagram (0 ∷ 121 ∷ 111 ∷ []) ∷ turns.Call (calls.Finish 2) ∷ turns.Call (calls.StopRecv 2 7) ∷ turns.Call (calls.Read 11 2) ∷ turns.Call (calls.OpenUni (Some 12)) ∷ turns.Call (calls.Read 15 1) ∷ turns.Call (calls.ReceiveDatagram (Some 0)) ∷ turns.Bytes 7 (0 ∷ 4 ∷ 0 ∷ []) ∷ turns.Call (calls.AcceptUni None) ∷ turns.PeerUni ∷ turns.Bytes 11 (64 ∷ 84 ∷ 1 ∷ []) ∷ turns.Bytes 19 (0 ∷ 33 ∷ 0 ∷ []) ∷ turns.Call (calls.Finish 15) ∷ turns.End 7 ∷ turns.Call (calls.Finish 19) ∷ turns.Acked 0 ∷ turns.MaxBi 10 ∷ turns.PeerBi ∷ turns.Call (calls.WriteAll 11 (97 ∷ 98 ∷ 99 ∷ 100 ∷ 101 ∷ [])) ∷ turns.Call (calls.StopRecv 7 1) ∷ turns.Bytes 3 ([]) ∷ turns.Bytes 11 ([]) ∷ turns.Datagram (0 ∷ 121 ∷ 111 ∷ []) ∷ turns.Call (calls.EndSession None) ∷ turns.Call (calls.StopRecv 11 300) ∷ turns.Call (calls.Read 19 1) ∷ turns.Call (calls.AcceptUni None) ∷ turns.Call (calls.WriteAll 1 (97 ∷ [])) ∷ turns.Datagram (0 ∷ 104 ∷ 105 ∷ []) ∷ turns.Bytes 15 (64 ∷ 84 ∷ 4 ∷ 97 ∷ 98 ∷ 99 ∷ []) ∷ turns.PeerBi ∷ turns.PeerUni ∷ turns.Datagram (0 ∷ 121 ∷ 111 ∷ []) ∷ turns.Call (calls.Write 11 (97 ∷ 98 ∷ 99 ∷ 100 ∷ 101 ∷ [])) ∷ turns.MaxData 1 101 ∷ turns.Bytes 11 (0 ∷ 4 ∷ 0 ∷ []) ∷ turns.PeerUni ∷ turns.Call (calls.ReceiveDatagram None) ∷ turns.Bytes 23 ([]) ∷ []) ≡ record { answers = (answer replies.Pending (actions.Dial (addresses.V4 1 443) (104 ∷ []) ∷ []) ∷ answer replies.Done (actions.Opened 2 ∷ actions.Send 2 (0 ∷ 4 ∷ 22 ∷ 1 ∷ 0 ∷ 7 ∷ 0 ∷ 8 ∷ 1 ∷ 51 ∷ 1 ∷ 171 ∷ 96 ∷ 55 ∷ 66 ∷ 1 ∷ 192 ∷ 0 ∷ 0 ∷ 0 ∷ 198 ∷ 113 ∷ 112 ∷ 106 ∷ 4 ∷ []) ∷ []) ∷ answer replies.Done ([]) ∷ answer replies.Done ([]) ∷ answer replies.Pending (actions.Opened 0 ∷ actions.Send 0 (1 ∷ 64 ∷ 80 ∷ 0 ∷ 0 ∷ 39 ∷ 3 ∷ 58 ∷ 97 ∷ 117 ∷ 116 ∷ 104 ∷ 111 ∷ 114 ∷ 105 ∷ 116 ∷ 121 ∷ 1 ∷ 104 ∷ 39 ∷ 0 ∷ 58 ∷ 109 ∷ 101 ∷ 116 ∷ 104 ∷ 111 ∷ 100 ∷ 7 ∷ 67 ∷ 79 ∷ 78 ∷ 78 ∷ 69 ∷ 67 ∷ 84 ∷ 37 ∷ 58 ∷ 112 ∷ 97 ∷ 116 ∷ 104 ∷ 1 ∷ 47 ∷ 39 ∷ 2 ∷ 58 ∷ 112 ∷ 114 ∷ 111 ∷ 116 ∷ 111 ∷ 99 ∷ 111 ∷ 108 ∷ 12 ∷ 119 ∷ 101 ∷ 98 ∷ 116 ∷ 114 ∷ 97 ∷ 110 ∷ 115 ∷ 112 ∷ 111 ∷ 114 ∷ 116 ∷ 39 ∷ 0 ∷ 58 ∷ 115 ∷ 99 ∷ 104 ∷ 101 ∷ 109 ∷ 101 ∷ 5 ∷ 104 ∷ 116 ∷ 116 ∷ 112 ∷ 115 ∷ []) ∷ []) ∷ answer replies.Done ([]) ∷ answer (replies.Session 0) ([]) ∷ answer replies.Done ([]) ∷ answer replies.Done ([]) ∷ answer replies.NoStream ([]) ∷ answer replies.NoSession ([]) ∷ answer replies.NoStream ([]) ∷ answer replies.Done ([]) ∷ answer replies.Done (actions.Finish 0 ∷ []) ∷ answer replies.NoStream ([]) ∷ answer replies.NoStream ([]) ∷ answer replies.NoSession ([]) ∷ answer replies.Done ([]) ∷ answer (replies.Failed (errors.ApplicationClosed (record { code = 0; reason = ([]) }))) ([]) ∷ answer replies.Done ([]) ∷ answer replies.NoStream ([]) ∷ answer replies.Done ([]) ∷ answer replies.NoStream ([]) ∷ answer replies.NoStream ([]) ∷ answer replies.NoStream ([]) ∷ answer replies.NoSession ([]) ∷ answer replies.NoStream ([]) ∷ answer (replies.Failed (errors.ApplicationClosed (record { code = 0; reason = ([]) }))) ([]) ∷ answer replies.Done (actions.Close 259 ([]) ∷ []) ∷ answer (replies.Failed (errors.ApplicationClosed (record { code = 0; reason = ([]) }))) ([]) ∷ answer replies.Done ([]) ∷ answer replies.Done ([]) ∷ answer replies.Done ([]) ∷ answer replies.NoStream ([]) ∷ answer replies.Done ([]) ∷ answer replies.NoStream ([]) ∷ answer replies.Done ([]) ∷ answer replies.Done ([]) ∷ answer replies.Done ([]) ∷ answer replies.NoStream ([]) ∷ answer replies.NoStream ([]) ∷ answer replies.Done ([]) ∷ answer replies.Done ([]) ∷ answer replies.Done ([]) ∷ answer replies.Done ([]) ∷ answer replies.NoStream ([]) ∷ answer replies.NoStream ([]) ∷ answer (replies.Failed (errors.ApplicationClosed (record { code = 0; reason = ([]) }))) ([]) ∷ answer replies.NoStream ([]) ∷ answer replies.Done ([]) ∷ answer replies.Done ([]) ∷ answer replies.Done ([]) ∷ answer replies.Done ([]) ∷ answer replies.Done ([]) ∷ answer replies.NoStream ([]) ∷ answer replies.Done ([]) ∷ answer replies.Done ([]) ∷ answer replies.Done ([]) ∷ answer (replies.Failed (errors.ApplicationClosed (record { code = 0; reason = ([]) }))) ([]) ∷ answer replies.Done ([]) ∷ []); is_all = true }
unfolding computed parsed
emit_47 = refl

pub emit_50 : run Server (turns.Connected 9 2 25 (facts.Limit 5) ∷ turns.Call (calls.Priority 3) ∷ turns.Call (calls.ReceiveDatagram None) ∷ turns.Call (calls.ReadExact 3 9) ∷ turns.Call (calls.Finish 3) ∷ turns.Call (calls.OpenBi None) ∷ turns.DatagramLimit (facts.Limit 1200) ∷ turns.Call (calls.Read 3 1) ∷ []) ≡ record { answers = (answer replies.Done (actions.Opened 3 ∷ actions.Send 3 (0 ∷ 4 ∷ 22 ∷ 1 ∷ 0 ∷ 7 ∷ 0 ∷ 8 ∷ 1 ∷ 51 ∷ 1 ∷ 171 ∷ 96 ∷ 55 ∷ 66 ∷ 1 ∷ 192 ∷ 0 ∷ 0 ∷ 0 ∷ 198 ∷ 113 ∷ 112 ∷ 106 ∷ 4 ∷ []) ∷ []) ∷ answer replies.NoStream ([]) ∷ answer replies.NoSession ([]) ∷ answer replies.NoStream ([]) ∷ answer replies.NoStream ([]) ∷ answer replies.NoSession ([]) ∷ answer replies.Done ([]) ∷ answer replies.NoStream ([]) ∷ []); is_all = true }
unfolding computed
emit_50 = refl

pub emit_51 : run Client (turns.Call (calls.Connect ((104 ∷ 116 ∷ 116 ∷ 112 ∷ 115 ∷ 58 ∷ 47 ∷ 47 ∷ 104 ∷ []), ([])) (lookups.Found (addresses.V4 1 443)) outcomes.Proceed) ∷ turns.Connected 9 9 1000 (facts.Limit 5) ∷ turns.PeerUni ∷ turns.Bytes 3 (0 ∷ 4 ∷ 0 ∷ []) ∷ turns.Call calls.Handshake ∷ turns.Bytes 0 (1 ∷ 15 ∷ 0 ∷ 0 ∷ 39 ∷ 0 ∷ 58 ∷ 115 ∷ 116 ∷ 97 ∷ 116 ∷ 117 ∷ 115 ∷ 3 ∷ 50 ∷ 48 ∷ 52 ∷ []) ∷ turns.Call calls.Handshake ∷ turns.Datagram (0 ∷ 121 ∷ 111 ∷ []) ∷ turns.Bytes 3 (33 ∷ 1 ∷ 97 ∷ []) ∷ turns.Bytes 3 (7 ∷ 2 ∷ 97 ∷ 98 ∷ []) ∷ turns.Bytes 3 (33 ∷ 1 ∷ 97 ∷ []) ∷ turns.Bytes 0 (1 ∷ []) ∷ turns.Call (calls.AcceptUni None) ∷ turns.PeerUni ∷ turns.Call (calls.PollOpening 7) ∷ turns.Bytes 0 (0 ∷ []) ∷ turns.Call (calls.ReceiveDatagram None) ∷ turns.Call (calls.AcceptBi None) ∷ turns.End 7 ∷ turns.Call (calls.AcceptUni None) ∷ []) ≡ record { answers = (answer replies.Pending (actions.Dial (addresses.V4 1 443) (104 ∷ []) ∷ []) ∷ answer replies.Done (actions.Opened 2 ∷ actions.Send 2 (0 ∷ 4 ∷ 22 ∷ 1 ∷ 0 ∷ 7 ∷ 0 ∷ 8 ∷ 1 ∷ 51 ∷ 1 ∷ 171 ∷ 96 ∷ 55 ∷ 66 ∷ 1 ∷ 192 ∷ 0 ∷ 0 ∷ 0 ∷ 198 ∷ 113 ∷ 112 ∷ 106 ∷ 4 ∷ []) ∷ []) ∷ answer replies.Done ([]) ∷ answer replies.Done ([]) ∷ answer replies.Pending (actions.Opened 0 ∷ actions.Send 0 (1 ∷ 64 ∷ 80 ∷ 0 ∷ 0 ∷ 39 ∷ 3 ∷ 58 ∷ 97 ∷ 117 ∷ 116 ∷ 104 ∷ 111 ∷ 114 ∷ 105 ∷ 116 ∷ 121 ∷ 1 ∷ 104 ∷ 39 ∷ 0 ∷ 58 ∷ 109 ∷ 101 ∷ 116 ∷ 104 ∷ 111 ∷ 100 ∷ 7 ∷ 67 ∷ 79 ∷ 78 ∷ 78 ∷ 69 ∷ 67 ∷ 84 ∷ 37 ∷ 58 ∷ 112 ∷ 97 ∷ 116 ∷ 104 ∷ 1 ∷ 47 ∷ 39 ∷ 2 ∷ 58 ∷ 112 ∷ 114 ∷ 111 ∷ 116 ∷ 111 ∷ 99 ∷ 111 ∷ 108 ∷ 12 ∷ 119 ∷ 101 ∷ 98 ∷ 116 ∷ 114 ∷ 97 ∷ 110 ∷ 115 ∷ 112 ∷ 111 ∷ 114 ∷ 116 ∷ 39 ∷ 0 ∷ 58 ∷ 115 ∷ 99 ∷ 104 ∷ 101 ∷ 109 ∷ 101 ∷ 5 ∷ 104 ∷ 116 ∷ 116 ∷ 112 ∷ 115 ∷ []) ∷ []) ∷ answer replies.Done ([]) ∷ answer (replies.Session 0) ([]) ∷ answer replies.Done ([]) ∷ answer replies.Done ([]) ∷ answer replies.Done ([]) ∷ answer replies.Done ([]) ∷ answer replies.Done ([]) ∷ answer replies.Pending ([]) ∷ answer replies.Done ([]) ∷ answer replies.NoStream ([]) ∷ answer replies.Done ([]) ∷ answer (replies.Datagram (121 ∷ 111 ∷ [])) ([]) ∷ answer replies.Pending ([]) ∷ answer replies.Done ([]) ∷ answer replies.Pending ([]) ∷ []); is_all = true }
unfolding computed parsed
emit_51 = refl

pub emit_52 : run Client (turns.Call (calls.Connect ((104 ∷ 116 ∷ 116 ∷ 112 ∷ 115 ∷ 58 ∷ 47 ∷ 47 ∷ 104 ∷ []), ([])) (lookups.Found (addresses.V4 1 443)) outcomes.Proceed) ∷ turns.Connected 9 9 1000 facts.Disabled ∷ turns.PeerUni ∷ turns.Bytes 3 (0 ∷ 4 ∷ 0 ∷ []) ∷ turns.Call calls.Handshake ∷ turns.Bytes 0 (1 ∷ 15 ∷ 0 ∷ 0 ∷ 39 ∷ 0 ∷ 58 ∷ 115 ∷ 116 ∷ 97 ∷ 116 ∷ 117 ∷ 115 ∷ 3 ∷ 50 ∷ 48 ∷ 52 ∷ []) ∷ turns.Call calls.Handshake ∷ turns.Bytes 3 (91 ∷ 21 ∷ []) ∷ turns.PeerBi ∷ turns.Call (calls.Finish 1) ∷ turns.Call (calls.Close 5 ([])) ∷ turns.PeerUni ∷ turns.PeerBi ∷ turns.Call (calls.PollOpening 3) ∷ turns.Call (calls.StopRecv 7 7) ∷ turns.Call (calls.AcceptBi (Some 12)) ∷ turns.Bytes 1 (33 ∷ 0 ∷ 1 ∷ 64 ∷ 80 ∷ 0 ∷ 0 ∷ 39 ∷ 3 ∷ 58 ∷ 97 ∷ 117 ∷ 116 ∷ 104 ∷ 111 ∷ 114 ∷ 105 ∷ 116 ∷ 121 ∷ 1 ∷ 104 ∷ 39 ∷ 0 ∷ 58 ∷ 109 ∷ 101 ∷ 116 ∷ 104 ∷ 111 ∷ 100 ∷ 7 ∷ 67 ∷ 79 ∷ 78 ∷ 78 ∷ 69 ∷ 67 ∷ 84 ∷ 37 ∷ 58 ∷ 112 ∷ 97 ∷ 116 ∷ 104 ∷ 1 ∷ 47 ∷ 39 ∷ 2 ∷ 58 ∷ 112 ∷ 114 ∷ 111 ∷ 116 ∷ 111 ∷ 99 ∷ 111 ∷ 108 ∷ 12 ∷ 119 ∷ 101 ∷ 98 ∷ 116 ∷ 114 ∷ 97 ∷ 110 ∷ 115 ∷ 112 ∷ 111 ∷ 114 ∷ 116 ∷ 39 ∷ 0 ∷ 58 ∷ 115 ∷ 99 ∷ 104 ∷ 101 ∷ 109 ∷ 101 ∷ 5 ∷ 104 ∷ 116 ∷ 116 ∷ 112 ∷ 115 ∷ []) ∷ turns.Call calls.Closed ∷ turns.Bytes 7 (0 ∷ []) ∷ turns.Call (calls.PollOpening 1) ∷ turns.PeerUni ∷ turns.PeerUni ∷ turns.Call (calls.PollOpening 11) ∷ turns.Call (calls.OpenUni (Some 4)) ∷ turns.Call (calls.Write 11 (97 ∷ 98 ∷ 99 ∷ 100 ∷ 101 ∷ [])) ∷ turns.PeerUni ∷ turns.Bytes 11 (64 ∷ 84 ∷ 0 ∷ 104 ∷ 101 ∷ 108 ∷ 108 ∷ []) ∷ turns.Bytes 5 (64 ∷ 65 ∷ 4 ∷ 120 ∷ 121 ∷ 122 ∷ []) ∷ turns.Call (calls.ReadExact 15 2) ∷ turns.Call (calls.OpenUni None) ∷ turns.Call (calls.Read 19 3) ∷ turns.MaxData 1 1001 ∷ turns.Bytes 1 ([]) ∷ turns.Bytes 11 (111 ∷ []) ∷ turns.PeerUni ∷ turns.Bytes 5 (1 ∷ 3 ∷ 0 ∷ 0 ∷ 193 ∷ []) ∷ turns.Call (calls.EndSession None) ∷ turns.Bytes 7 (4 ∷ 0 ∷ []) ∷ turns.Bytes 15 (64 ∷ 84 ∷ 4 ∷ 97 ∷ 98 ∷ 99 ∷ []) ∷ turns.PeerBi ∷ []) ≡ record { answers = (answer replies.Pending (actions.Dial (addresses.V4 1 443) (104 ∷ []) ∷ []) ∷ answer replies.Done (actions.Opened 2 ∷ actions.Send 2 (0 ∷ 4 ∷ 22 ∷ 1 ∷ 0 ∷ 7 ∷ 0 ∷ 8 ∷ 1 ∷ 51 ∷ 1 ∷ 171 ∷ 96 ∷ 55 ∷ 66 ∷ 1 ∷ 192 ∷ 0 ∷ 0 ∷ 0 ∷ 198 ∷ 113 ∷ 112 ∷ 106 ∷ 4 ∷ []) ∷ []) ∷ answer replies.Done ([]) ∷ answer replies.Done ([]) ∷ answer replies.Pending (actions.Opened 0 ∷ actions.Send 0 (1 ∷ 64 ∷ 80 ∷ 0 ∷ 0 ∷ 39 ∷ 3 ∷ 58 ∷ 97 ∷ 117 ∷ 116 ∷ 104 ∷ 111 ∷ 114 ∷ 105 ∷ 116 ∷ 121 ∷ 1 ∷ 104 ∷ 39 ∷ 0 ∷ 58 ∷ 109 ∷ 101 ∷ 116 ∷ 104 ∷ 111 ∷ 100 ∷ 7 ∷ 67 ∷ 79 ∷ 78 ∷ 78 ∷ 69 ∷ 67 ∷ 84 ∷ 37 ∷ 58 ∷ 112 ∷ 97 ∷ 116 ∷ 104 ∷ 1 ∷ 47 ∷ 39 ∷ 2 ∷ 58 ∷ 112 ∷ 114 ∷ 111 ∷ 116 ∷ 111 ∷ 99 ∷ 111 ∷ 108 ∷ 12 ∷ 119 ∷ 101 ∷ 98 ∷ 116 ∷ 114 ∷ 97 ∷ 110 ∷ 115 ∷ 112 ∷ 111 ∷ 114 ∷ 116 ∷ 39 ∷ 0 ∷ 58 ∷ 115 ∷ 99 ∷ 104 ∷ 101 ∷ 109 ∷ 101 ∷ 5 ∷ 104 ∷ 116 ∷ 116 ∷ 112 ∷ 115 ∷ []) ∷ []) ∷ answer replies.Done ([]) ∷ answer (replies.Session 0) ([]) ∷ answer replies.Done ([]) ∷ answer replies.Done ([]) ∷ answer replies.NoStream ([]) ∷ answer replies.Done (actions.Close 5 ([]) ∷ []) ∷ answer replies.Done ([]) ∷ answer replies.Done ([]) ∷ answer replies.NoStream ([]) ∷ answer replies.NoStream ([]) ∷ answer replies.NoSession ([]) ∷ answer replies.Done ([]) ∷ answer (replies.Closed errors.LocallyClosed) ([]) ∷ answer replies.Done ([]) ∷ answer replies.NoStream ([]) ∷ answer replies.Done ([]) ∷ answer replies.Done ([]) ∷ answer replies.NoStream ([]) ∷ answer replies.NoSession ([]) ∷ answer replies.NoStream ([]) ∷ answer replies.Done ([]) ∷ answer replies.Done ([]) ∷ answer replies.Done ([]) ∷ answer replies.NoStream ([]) ∷ answer (replies.Failed errors.LocallyClosed) ([]) ∷ answer replies.NoStream ([]) ∷ answer replies.Done ([]) ∷ answer replies.Done ([]) ∷ answer replies.Done ([]) ∷ answer replies.Done ([]) ∷ answer replies.Done ([]) ∷ answer replies.Done ([]) ∷ answer replies.Done ([]) ∷ answer replies.Done ([]) ∷ answer replies.Done ([]) ∷ []); is_all = true }
unfolding computed parsed
emit_52 = refl

pub emit_54 : run Client (turns.Call (calls.Connect ((104 ∷ 116 ∷ 116 ∷ 112 ∷ 115 ∷ 58 ∷ 47 ∷ 47 ∷ 104 ∷ []), ([])) (lookups.Found (addresses.V4 1 443)) outcomes.Proceed) ∷ turns.Connected 9 9 1000 (facts.Limit 5) ∷ turns.PeerUni ∷ turns.Bytes 3 (0 ∷ 4 ∷ 0 ∷ []) ∷ turns.Call calls.Handshake ∷ turns.Bytes 0 (1 ∷ 15 ∷ 0 ∷ 0 ∷ 39 ∷ 0 ∷ 58 ∷ 115 ∷ 116 ∷ 97 ∷ 116 ∷ 117 ∷ 115 ∷ 3 ∷ 50 ∷ 48 ∷ 52 ∷ []) ∷ turns.Call calls.Handshake ∷ turns.Bytes 3 ([]) ∷ turns.Call (calls.PollOpening 0) ∷ turns.PeerUni ∷ turns.Call (calls.Write 7 (113 ∷ 113 ∷ 113 ∷ 113 ∷ 113 ∷ 113 ∷ 113 ∷ 113 ∷ 113 ∷ 113 ∷ 113 ∷ 113 ∷ 113 ∷ 113 ∷ 113 ∷ 113 ∷ 113 ∷ 113 ∷ 113 ∷ 113 ∷ 113 ∷ 113 ∷ 113 ∷ 113 ∷ 113 ∷ 113 ∷ 113 ∷ 113 ∷ 113 ∷ 113 ∷ 113 ∷ 113 ∷ 113 ∷ 113 ∷ 113 ∷ 113 ∷ 113 ∷ 113 ∷ 113 ∷ 113 ∷ [])) ∷ turns.Datagram (0 ∷ 121 ∷ 111 ∷ []) ∷ turns.Datagram (1 ∷ 97 ∷ []) ∷ turns.Call (calls.OpenBi None) ∷ turns.Call (calls.AcceptBi (Some 16)) ∷ turns.Bytes 7 (64 ∷ 84 ∷ 8 ∷ []) ∷ turns.PeerBi ∷ turns.Datagram (0 ∷ 121 ∷ 111 ∷ []) ∷ turns.Call (calls.AcceptBi (Some 0)) ∷ turns.Bytes 4 (114 ∷ 101 ∷ 112 ∷ 108 ∷ 121 ∷ []) ∷ []) ≡ record { answers = (answer replies.Pending (actions.Dial (addresses.V4 1 443) (104 ∷ []) ∷ []) ∷ answer replies.Done (actions.Opened 2 ∷ actions.Send 2 (0 ∷ 4 ∷ 22 ∷ 1 ∷ 0 ∷ 7 ∷ 0 ∷ 8 ∷ 1 ∷ 51 ∷ 1 ∷ 171 ∷ 96 ∷ 55 ∷ 66 ∷ 1 ∷ 192 ∷ 0 ∷ 0 ∷ 0 ∷ 198 ∷ 113 ∷ 112 ∷ 106 ∷ 4 ∷ []) ∷ []) ∷ answer replies.Done ([]) ∷ answer replies.Done ([]) ∷ answer replies.Pending (actions.Opened 0 ∷ actions.Send 0 (1 ∷ 64 ∷ 80 ∷ 0 ∷ 0 ∷ 39 ∷ 3 ∷ 58 ∷ 97 ∷ 117 ∷ 116 ∷ 104 ∷ 111 ∷ 114 ∷ 105 ∷ 116 ∷ 121 ∷ 1 ∷ 104 ∷ 39 ∷ 0 ∷ 58 ∷ 109 ∷ 101 ∷ 116 ∷ 104 ∷ 111 ∷ 100 ∷ 7 ∷ 67 ∷ 79 ∷ 78 ∷ 78 ∷ 69 ∷ 67 ∷ 84 ∷ 37 ∷ 58 ∷ 112 ∷ 97 ∷ 116 ∷ 104 ∷ 1 ∷ 47 ∷ 39 ∷ 2 ∷ 58 ∷ 112 ∷ 114 ∷ 111 ∷ 116 ∷ 111 ∷ 99 ∷ 111 ∷ 108 ∷ 12 ∷ 119 ∷ 101 ∷ 98 ∷ 116 ∷ 114 ∷ 97 ∷ 110 ∷ 115 ∷ 112 ∷ 111 ∷ 114 ∷ 116 ∷ 39 ∷ 0 ∷ 58 ∷ 115 ∷ 99 ∷ 104 ∷ 101 ∷ 109 ∷ 101 ∷ 5 ∷ 104 ∷ 116 ∷ 116 ∷ 112 ∷ 115 ∷ []) ∷ []) ∷ answer replies.Done ([]) ∷ answer (replies.Session 0) ([]) ∷ answer replies.Done ([]) ∷ answer replies.NoStream ([]) ∷ answer replies.Done ([]) ∷ answer replies.NoStream ([]) ∷ answer replies.Done ([]) ∷ answer replies.Done ([]) ∷ answer (replies.Opening 4) (actions.Opened 4 ∷ []) ∷ answer replies.NoSession ([]) ∷ answer replies.Done ([]) ∷ answer replies.Done ([]) ∷ answer replies.Done ([]) ∷ answer replies.Pending ([]) ∷ answer replies.Done ([]) ∷ []); is_all = true }
unfolding computed parsed
emit_54 = refl

pub emit_58 : run Client (turns.Call (calls.Connect ((104 ∷ 116 ∷ 116 ∷ 112 ∷ 115 ∷ 58 ∷ 47 ∷ 47 ∷ 104 ∷ []), ([])) (lookups.Found (addresses.V4 1 443)) outcomes.Proceed) ∷ turns.Connected 9 9 100 (facts.Limit 1200) ∷ turns.PeerUni ∷ turns.Bytes 3 (0 ∷ 4 ∷ 0 ∷ []) ∷ turns.Call calls.Handshake ∷ turns.Bytes 0 (1 ∷ 15 ∷ 0 ∷ 0 ∷ 39 ∷ 0 ∷ 58 ∷ 115 ∷ 116 ∷ 97 ∷ 116 ∷ 117 ∷ 115 ∷ 3 ∷ 50 ∷ 48 ∷ 52 ∷ []) ∷ turns.Call calls.Handshake ∷ turns.Datagram (0 ∷ 104 ∷ 105 ∷ []) ∷ []) ≡ record { answers = (answer replies.Pending (actions.Dial (addresses.V4 1 443) (104 ∷ []) ∷ []) ∷ answer replies.Done (actions.Opened 2 ∷ actions.Send 2 (0 ∷ 4 ∷ 22 ∷ 1 ∷ 0 ∷ 7 ∷ 0 ∷ 8 ∷ 1 ∷ 51 ∷ 1 ∷ 171 ∷ 96 ∷ 55 ∷ 66 ∷ 1 ∷ 192 ∷ 0 ∷ 0 ∷ 0 ∷ 198 ∷ 113 ∷ 112 ∷ 106 ∷ 4 ∷ []) ∷ []) ∷ answer replies.Done ([]) ∷ answer replies.Done ([]) ∷ answer replies.Pending (actions.Opened 0 ∷ actions.Send 0 (1 ∷ 64 ∷ 80 ∷ 0 ∷ 0 ∷ 39 ∷ 3 ∷ 58 ∷ 97 ∷ 117 ∷ 116 ∷ 104 ∷ 111 ∷ 114 ∷ 105 ∷ 116 ∷ 121 ∷ 1 ∷ 104 ∷ 39 ∷ 0 ∷ 58 ∷ 109 ∷ 101 ∷ 116 ∷ 104 ∷ 111 ∷ 100 ∷ 7 ∷ 67 ∷ 79 ∷ 78 ∷ 78 ∷ 69 ∷ 67 ∷ 84 ∷ 37 ∷ 58 ∷ 112 ∷ 97 ∷ 116 ∷ 104 ∷ 1 ∷ 47 ∷ 39 ∷ 2 ∷ 58 ∷ 112 ∷ 114 ∷ 111 ∷ 116 ∷ 111 ∷ 99 ∷ 111 ∷ 108 ∷ 12 ∷ 119 ∷ 101 ∷ 98 ∷ 116 ∷ 114 ∷ 97 ∷ 110 ∷ 115 ∷ 112 ∷ 111 ∷ 114 ∷ 116 ∷ 39 ∷ 0 ∷ 58 ∷ 115 ∷ 99 ∷ 104 ∷ 101 ∷ 109 ∷ 101 ∷ 5 ∷ 104 ∷ 116 ∷ 116 ∷ 112 ∷ 115 ∷ []) ∷ []) ∷ answer replies.Done ([]) ∷ answer (replies.Session 0) ([]) ∷ answer replies.Done ([]) ∷ []); is_all = true }
unfolding computed parsed
emit_58 = refl

pub emit_59 : run Server (turns.Connected 9 9 60 (facts.Limit 5) ∷ turns.PeerUni ∷ turns.Bytes 2 (0 ∷ 4 ∷ 0 ∷ []) ∷ turns.PeerBi ∷ turns.Bytes 0 (1 ∷ 64 ∷ 80 ∷ 0 ∷ 0 ∷ 39 ∷ 3 ∷ 58 ∷ 97 ∷ 117 ∷ 116 ∷ 104 ∷ 111 ∷ 114 ∷ 105 ∷ 116 ∷ 121 ∷ 1 ∷ 104 ∷ 39 ∷ 0 ∷ 58 ∷ 109 ∷ 101 ∷ 116 ∷ 104 ∷ 111 ∷ 100 ∷ 7 ∷ 67 ∷ 79 ∷ 78 ∷ 78 ∷ 69 ∷ 67 ∷ 84 ∷ 37 ∷ 58 ∷ 112 ∷ 97 ∷ 116 ∷ 104 ∷ 1 ∷ 47 ∷ 39 ∷ 2 ∷ 58 ∷ 112 ∷ 114 ∷ 111 ∷ 116 ∷ 111 ∷ 99 ∷ 111 ∷ 108 ∷ 12 ∷ 119 ∷ 101 ∷ 98 ∷ 116 ∷ 114 ∷ 97 ∷ 110 ∷ 115 ∷ 112 ∷ 111 ∷ 114 ∷ 116 ∷ 39 ∷ 0 ∷ 58 ∷ 115 ∷ 99 ∷ 104 ∷ 101 ∷ 109 ∷ 101 ∷ 5 ∷ 104 ∷ 116 ∷ 116 ∷ 112 ∷ 115 ∷ []) ∷ turns.PeerBi ∷ turns.Bytes 4 (1 ∷ 15 ∷ 0 ∷ 0 ∷ 39 ∷ 0 ∷ 58 ∷ 109 ∷ 101 ∷ 116 ∷ 104 ∷ 111 ∷ 100 ∷ 3 ∷ 71 ∷ 69 ∷ 84 ∷ []) ∷ turns.PeerUni ∷ turns.Bytes 6 (64 ∷ 84 ∷ 0 ∷ []) ∷ turns.Call calls.Incoming ∷ turns.Call (calls.Accept ([])) ∷ turns.Call calls.Incoming ∷ turns.Call (calls.Finish 6) ∷ turns.Reset 0 1 ∷ turns.Datagram (0 ∷ 121 ∷ 111 ∷ []) ∷ turns.Call calls.Incoming ∷ turns.Datagram (0 ∷ 104 ∷ 105 ∷ []) ∷ turns.Call (calls.OpenBi None) ∷ turns.Call (calls.Finish 6) ∷ turns.Bytes 2 (7 ∷ 2 ∷ 97 ∷ 98 ∷ []) ∷ turns.PeerUni ∷ turns.Bytes 2 (7 ∷ 2 ∷ []) ∷ turns.Call (calls.Write 4 (113 ∷ 113 ∷ 113 ∷ 113 ∷ 113 ∷ 113 ∷ 113 ∷ 113 ∷ 113 ∷ 113 ∷ 113 ∷ 113 ∷ 113 ∷ 113 ∷ 113 ∷ 113 ∷ 113 ∷ 113 ∷ 113 ∷ 113 ∷ 113 ∷ 113 ∷ 113 ∷ 113 ∷ 113 ∷ 113 ∷ 113 ∷ 113 ∷ 113 ∷ 113 ∷ 113 ∷ 113 ∷ 113 ∷ 113 ∷ 113 ∷ 113 ∷ 113 ∷ 113 ∷ 113 ∷ 113 ∷ [])) ∷ turns.Call (calls.ReadExact 10 0) ∷ turns.Bytes 6 ([]) ∷ turns.Call (calls.Read 6 9) ∷ turns.MaxUni 9 ∷ turns.Call (calls.PollOpening 4) ∷ turns.Bytes 10 (64 ∷ 84 ∷ 4 ∷ 97 ∷ 98 ∷ 99 ∷ []) ∷ turns.Bytes 6 ([]) ∷ turns.Call (calls.Write 10 (97 ∷ 98 ∷ 99 ∷ 100 ∷ 101 ∷ [])) ∷ turns.Bytes 2 (97 ∷ 98 ∷ []) ∷ turns.PeerUni ∷ turns.Datagram (1 ∷ 97 ∷ []) ∷ turns.Call (calls.PollOpening 15) ∷ turns.PeerBi ∷ turns.End 4 ∷ turns.Call (calls.PollOpening 3) ∷ turns.Stop 8 300 ∷ turns.Call (calls.ReadExact 6 9) ∷ []) ≡ record { answers = (answer replies.Done (actions.Opened 3 ∷ actions.Send 3 (0 ∷ 4 ∷ 22 ∷ 1 ∷ 0 ∷ 7 ∷ 0 ∷ 8 ∷ 1 ∷ 51 ∷ 1 ∷ 171 ∷ 96 ∷ 55 ∷ 66 ∷ 1 ∷ 192 ∷ 0 ∷ 0 ∷ 0 ∷ 198 ∷ 113 ∷ 112 ∷ 106 ∷ 4 ∷ []) ∷ []) ∷ answer replies.Done ([]) ∷ answer replies.Done ([]) ∷ answer replies.Done ([]) ∷ answer replies.Done ([]) ∷ answer replies.Done ([]) ∷ answer replies.Done (actions.StopOut 4 267 ∷ []) ∷ answer replies.Done ([]) ∷ answer replies.Done ([]) ∷ answer (replies.Request 0 (((58 ∷ 97 ∷ 117 ∷ 116 ∷ 104 ∷ 111 ∷ 114 ∷ 105 ∷ 116 ∷ 121 ∷ []), (104 ∷ [])) ∷ ((58 ∷ 109 ∷ 101 ∷ 116 ∷ 104 ∷ 111 ∷ 100 ∷ []), (67 ∷ 79 ∷ 78 ∷ 78 ∷ 69 ∷ 67 ∷ 84 ∷ [])) ∷ ((58 ∷ 112 ∷ 97 ∷ 116 ∷ 104 ∷ []), (47 ∷ [])) ∷ ((58 ∷ 112 ∷ 114 ∷ 111 ∷ 116 ∷ 111 ∷ 99 ∷ 111 ∷ 108 ∷ []), (119 ∷ 101 ∷ 98 ∷ 116 ∷ 114 ∷ 97 ∷ 110 ∷ 115 ∷ 112 ∷ 111 ∷ 114 ∷ 116 ∷ [])) ∷ ((58 ∷ 115 ∷ 99 ∷ 104 ∷ 101 ∷ 109 ∷ 101 ∷ []), (104 ∷ 116 ∷ 116 ∷ 112 ∷ 115 ∷ [])) ∷ [])) ([]) ∷ answer (replies.Session 0) (actions.Send 0 (1 ∷ 15 ∷ 0 ∷ 0 ∷ 39 ∷ 0 ∷ 58 ∷ 115 ∷ 116 ∷ 97 ∷ 116 ∷ 117 ∷ 115 ∷ 3 ∷ 50 ∷ 48 ∷ 48 ∷ []) ∷ []) ∷ answer replies.Pending ([]) ∷ answer replies.NoStream ([]) ∷ answer replies.Done (actions.Close 260 ([]) ∷ []) ∷ answer replies.Done ([]) ∷ answer (replies.Failed (errors.LocalH3Error h3.ClosedCriticalStream)) ([]) ∷ answer replies.Done ([]) ∷ answer (replies.Failed errors.LocallyClosed) ([]) ∷ answer replies.NoStream ([]) ∷ answer replies.Done ([]) ∷ answer replies.Done ([]) ∷ answer replies.Done ([]) ∷ answer replies.NoStream ([]) ∷ answer replies.NoStream ([]) ∷ answer replies.Done ([]) ∷ answer replies.NoStream ([]) ∷ answer replies.Done ([]) ∷ answer replies.NoStream ([]) ∷ answer replies.Done ([]) ∷ answer replies.Done ([]) ∷ answer replies.NoStream ([]) ∷ answer replies.Done ([]) ∷ answer replies.Done ([]) ∷ answer replies.Done ([]) ∷ answer replies.NoStream ([]) ∷ answer replies.Done ([]) ∷ answer replies.Done ([]) ∷ answer replies.NoStream ([]) ∷ answer replies.Done ([]) ∷ answer replies.NoStream ([]) ∷ []); is_all = true }
unfolding computed
emit_59 = refl

pub emit_61 : run Client (turns.Call (calls.Connect ((104 ∷ 116 ∷ 116 ∷ 112 ∷ 115 ∷ 58 ∷ 47 ∷ 47 ∷ 104 ∷ []), ([])) (lookups.Found (addresses.V4 1 443)) outcomes.Proceed) ∷ turns.Connected 9 9 100 facts.Disabled ∷ turns.PeerUni ∷ turns.Bytes 3 (0 ∷ 4 ∷ 0 ∷ []) ∷ turns.Call calls.Handshake ∷ turns.Bytes 0 (1 ∷ 15 ∷ 0 ∷ 0 ∷ 39 ∷ 0 ∷ 58 ∷ 115 ∷ 116 ∷ 97 ∷ 116 ∷ 117 ∷ 115 ∷ 3 ∷ 50 ∷ 48 ∷ 48 ∷ []) ∷ turns.Call calls.Handshake ∷ turns.Call (calls.SendDatagram (97 ∷ 98 ∷ 99 ∷ 100 ∷ []) None) ∷ turns.Call (calls.PollOpening 7) ∷ turns.Call (calls.AcceptUni None) ∷ turns.Call (calls.AcceptBi None) ∷ turns.Bytes 3 (7 ∷ 2 ∷ 97 ∷ 98 ∷ []) ∷ turns.Call (calls.AcceptBi None) ∷ turns.Call (calls.SendDatagram ([]) None) ∷ turns.Call (calls.AcceptUni None) ∷ turns.Bytes 3 (7 ∷ 2 ∷ 97 ∷ 98 ∷ []) ∷ turns.Call (calls.Read 0 9) ∷ turns.Call calls.Closed ∷ turns.PeerBi ∷ turns.Datagram (0 ∷ 104 ∷ 105 ∷ []) ∷ turns.Loss (losses.ApplicationClosed (record { code = 9; reason = (255 ∷ []) })) ∷ turns.Call (calls.ReadExact 1 3) ∷ turns.Call (calls.AcceptBi None) ∷ turns.Call (calls.Read 1 3) ∷ turns.Call (calls.StopRecv 7 7) ∷ turns.Call (calls.OpenBi (Some 8)) ∷ turns.Call (calls.AcceptUni (Some 4)) ∷ turns.Call (calls.Read 0 3) ∷ turns.Call (calls.AcceptUni (Some 16)) ∷ turns.Call (calls.AcceptUni (Some 0)) ∷ turns.Call (calls.Read 7 2) ∷ turns.Call (calls.Write 7 (97 ∷ 98 ∷ 99 ∷ 100 ∷ 101 ∷ [])) ∷ turns.Call (calls.WriteAll 0 (113 ∷ 113 ∷ 113 ∷ 113 ∷ 113 ∷ 113 ∷ 113 ∷ 113 ∷ 113 ∷ 113 ∷ 113 ∷ 113 ∷ 113 ∷ 113 ∷ 113 ∷ 113 ∷ 113 ∷ 113 ∷ 113 ∷ 113 ∷ 113 ∷ 113 ∷ 113 ∷ 113 ∷ 113 ∷ 113 ∷ 113 ∷ 113 ∷ 113 ∷ 113 ∷ 113 ∷ 113 ∷ 113 ∷ 113 ∷ 113 ∷ 113 ∷ 113 ∷ 113 ∷ 113 ∷ 113 ∷ [])) ∷ turns.Call (calls.Read 7 0) ∷ turns.Call (calls.AcceptBi (Some 12)) ∷ turns.Call (calls.AcceptBi None) ∷ turns.Call (calls.PollOpening 7) ∷ turns.Call (calls.PollOpening 7) ∷ turns.Call (calls.AcceptUni (Some 8)) ∷ turns.Call (calls.AcceptUni None) ∷ []) ≡ record { answers = (answer replies.Pending (actions.Dial (addresses.V4 1 443) (104 ∷ []) ∷ []) ∷ answer replies.Done (actions.Opened 2 ∷ actions.Send 2 (0 ∷ 4 ∷ 22 ∷ 1 ∷ 0 ∷ 7 ∷ 0 ∷ 8 ∷ 1 ∷ 51 ∷ 1 ∷ 171 ∷ 96 ∷ 55 ∷ 66 ∷ 1 ∷ 192 ∷ 0 ∷ 0 ∷ 0 ∷ 198 ∷ 113 ∷ 112 ∷ 106 ∷ 4 ∷ []) ∷ []) ∷ answer replies.Done ([]) ∷ answer replies.Done ([]) ∷ answer replies.Pending (actions.Opened 0 ∷ actions.Send 0 (1 ∷ 64 ∷ 80 ∷ 0 ∷ 0 ∷ 39 ∷ 3 ∷ 58 ∷ 97 ∷ 117 ∷ 116 ∷ 104 ∷ 111 ∷ 114 ∷ 105 ∷ 116 ∷ 121 ∷ 1 ∷ 104 ∷ 39 ∷ 0 ∷ 58 ∷ 109 ∷ 101 ∷ 116 ∷ 104 ∷ 111 ∷ 100 ∷ 7 ∷ 67 ∷ 79 ∷ 78 ∷ 78 ∷ 69 ∷ 67 ∷ 84 ∷ 37 ∷ 58 ∷ 112 ∷ 97 ∷ 116 ∷ 104 ∷ 1 ∷ 47 ∷ 39 ∷ 2 ∷ 58 ∷ 112 ∷ 114 ∷ 111 ∷ 116 ∷ 111 ∷ 99 ∷ 111 ∷ 108 ∷ 12 ∷ 119 ∷ 101 ∷ 98 ∷ 116 ∷ 114 ∷ 97 ∷ 110 ∷ 115 ∷ 112 ∷ 111 ∷ 114 ∷ 116 ∷ 39 ∷ 0 ∷ 58 ∷ 115 ∷ 99 ∷ 104 ∷ 101 ∷ 109 ∷ 101 ∷ 5 ∷ 104 ∷ 116 ∷ 116 ∷ 112 ∷ 115 ∷ []) ∷ []) ∷ answer replies.Done ([]) ∷ answer (replies.Session 0) ([]) ∷ answer (replies.DatagramFailed datagrams.Disabled) ([]) ∷ answer replies.NoStream ([]) ∷ answer replies.Pending ([]) ∷ answer replies.Pending ([]) ∷ answer replies.Done ([]) ∷ answer replies.Pending ([]) ∷ answer (replies.DatagramFailed datagrams.Disabled) ([]) ∷ answer replies.Pending ([]) ∷ answer replies.Done ([]) ∷ answer replies.NoStream ([]) ∷ answer replies.Pending ([]) ∷ answer replies.Done ([]) ∷ answer replies.Done ([]) ∷ answer replies.Done ([]) ∷ answer replies.NoStream ([]) ∷ answer (replies.Failed (errors.ApplicationClosed (record { code = 9; reason = (255 ∷ []) }))) ([]) ∷ answer replies.NoStream ([]) ∷ answer replies.NoStream ([]) ∷ answer replies.NoSession ([]) ∷ answer replies.NoSession ([]) ∷ answer replies.NoStream ([]) ∷ answer replies.NoSession ([]) ∷ answer (replies.Failed (errors.ApplicationClosed (record { code = 9; reason = (255 ∷ []) }))) ([]) ∷ answer replies.NoStream ([]) ∷ answer replies.NoStream ([]) ∷ answer replies.NoStream ([]) ∷ answer replies.NoStream ([]) ∷ answer replies.NoSession ([]) ∷ answer (replies.Failed (errors.ApplicationClosed (record { code = 9; reason = (255 ∷ []) }))) ([]) ∷ answer replies.NoStream ([]) ∷ answer replies.NoStream ([]) ∷ answer replies.NoSession ([]) ∷ answer (replies.Failed (errors.ApplicationClosed (record { code = 9; reason = (255 ∷ []) }))) ([]) ∷ []); is_all = true }
unfolding computed parsed
emit_61 = refl

pub emit_64 : run Server (turns.Connected 9 0 1000 facts.Disabled ∷ turns.Call (calls.ReceiveDatagram (Some 16)) ∷ turns.Call (calls.AcceptBi None) ∷ turns.Call calls.Incoming ∷ turns.Datagram (0 ∷ []) ∷ turns.Call (calls.Read 3 2) ∷ turns.Call (calls.Read 3 1) ∷ turns.Datagram (0 ∷ 104 ∷ 105 ∷ []) ∷ turns.Datagram (1 ∷ 97 ∷ []) ∷ turns.Datagram (1 ∷ 97 ∷ []) ∷ turns.PeerUni ∷ turns.Call (calls.AcceptUni None) ∷ turns.Call (calls.Write 17 (97 ∷ 98 ∷ 99 ∷ 100 ∷ 101 ∷ [])) ∷ turns.Datagram (2 ∷ 98 ∷ []) ∷ turns.Call (calls.Priority 3) ∷ turns.Bytes 2 (0 ∷ 4 ∷ 2 ∷ 2 ∷ 0 ∷ []) ∷ turns.Call (calls.ReceiveDatagram (Some 4)) ∷ turns.PeerBi ∷ turns.Bytes 0 (1 ∷ 64 ∷ 80 ∷ 0 ∷ 0 ∷ 39 ∷ 3 ∷ 58 ∷ 97 ∷ 117 ∷ 116 ∷ 104 ∷ 111 ∷ 114 ∷ 105 ∷ 116 ∷ 121 ∷ 1 ∷ 104 ∷ 39 ∷ 0 ∷ 58 ∷ 109 ∷ 101 ∷ 116 ∷ 104 ∷ 111 ∷ 100 ∷ 7 ∷ []) ∷ turns.Datagram (1 ∷ 97 ∷ []) ∷ turns.MaxUni 9 ∷ turns.Call (calls.AcceptUni None) ∷ turns.PeerBi ∷ turns.Call (calls.SendDatagram ([]) (Some 8)) ∷ turns.Datagram (2 ∷ 98 ∷ []) ∷ turns.Call (calls.ReceiveDatagram (Some 16)) ∷ turns.Call (calls.ReceiveDatagram None) ∷ turns.Call calls.Incoming ∷ turns.Bytes 4 ([]) ∷ turns.Call (calls.ReceiveDatagram (Some 8)) ∷ turns.Call (calls.Write 3 (97 ∷ 98 ∷ 99 ∷ 100 ∷ 101 ∷ [])) ∷ turns.Call (calls.Read 4 0) ∷ turns.Call (calls.ReceiveDatagram (Some 12)) ∷ turns.End 2 ∷ turns.Call (calls.ReceiveDatagram None) ∷ turns.Call (calls.OpenBi None) ∷ turns.Call (calls.ReadExact 0 3) ∷ turns.Datagram (1 ∷ 97 ∷ []) ∷ turns.Call (calls.SendDatagram (97 ∷ 98 ∷ 99 ∷ 100 ∷ []) (Some 0)) ∷ turns.Call (calls.ReceiveDatagram None) ∷ turns.Call (calls.SetPriority 2 (pos 0)) ∷ turns.Datagram (1 ∷ 97 ∷ []) ∷ turns.Call (calls.Read 0 2) ∷ turns.Call (calls.Finish 0) ∷ turns.Bytes 0 (67 ∷ 79 ∷ 78 ∷ 78 ∷ 69 ∷ 67 ∷ 84 ∷ 37 ∷ 58 ∷ 112 ∷ 97 ∷ 116 ∷ 104 ∷ 1 ∷ 47 ∷ 39 ∷ 2 ∷ 58 ∷ 112 ∷ 114 ∷ 111 ∷ 116 ∷ 111 ∷ 99 ∷ 111 ∷ 108 ∷ 12 ∷ 119 ∷ 101 ∷ 98 ∷ 116 ∷ 114 ∷ 97 ∷ 110 ∷ 115 ∷ 112 ∷ 111 ∷ 114 ∷ 116 ∷ 39 ∷ 0 ∷ 58 ∷ 115 ∷ []) ∷ turns.Call (calls.AcceptUni None) ∷ turns.Datagram (0 ∷ 104 ∷ 105 ∷ []) ∷ turns.Call (calls.OpenUni (Some 0)) ∷ turns.Bytes 0 (99 ∷ 104 ∷ 101 ∷ 109 ∷ 101 ∷ 5 ∷ 104 ∷ 116 ∷ 116 ∷ 112 ∷ 115 ∷ []) ∷ turns.Datagram (0 ∷ 121 ∷ 111 ∷ []) ∷ turns.Call (calls.Finish 4) ∷ turns.Call (calls.ReceiveDatagram None) ∷ turns.Bytes 0 (1 ∷ 64 ∷ 80 ∷ 0 ∷ 0 ∷ 39 ∷ []) ∷ turns.Datagram (1 ∷ 97 ∷ []) ∷ turns.Call (calls.Write 2 (97 ∷ [])) ∷ turns.Call (calls.SessionId (Some 8)) ∷ turns.Call (calls.Finish 0) ∷ turns.Datagram (0 ∷ 104 ∷ 105 ∷ []) ∷ turns.Call (calls.Write 4 (97 ∷ [])) ∷ turns.Call (calls.PollOpening 3) ∷ []) ≡ record { answers = (answer replies.Done (actions.Opened 3 ∷ actions.Send 3 (0 ∷ 4 ∷ 22 ∷ 1 ∷ 0 ∷ 7 ∷ 0 ∷ 8 ∷ 1 ∷ 51 ∷ 1 ∷ 171 ∷ 96 ∷ 55 ∷ 66 ∷ 1 ∷ 192 ∷ 0 ∷ 0 ∷ 0 ∷ 198 ∷ 113 ∷ 112 ∷ 106 ∷ 4 ∷ []) ∷ []) ∷ answer replies.NoSession ([]) ∷ answer replies.NoSession ([]) ∷ answer replies.Pending ([]) ∷ answer replies.Done ([]) ∷ answer replies.NoStream ([]) ∷ answer replies.NoStream ([]) ∷ answer replies.Done ([]) ∷ answer replies.Done ([]) ∷ answer replies.Done ([]) ∷ answer replies.Done ([]) ∷ answer replies.NoSession ([]) ∷ answer replies.NoStream ([]) ∷ answer replies.Done ([]) ∷ answer replies.NoStream ([]) ∷ answer replies.Done (actions.Close 265 ([]) ∷ []) ∷ answer replies.NoSession ([]) ∷ answer replies.Done ([]) ∷ answer replies.Done ([]) ∷ answer replies.Done ([]) ∷ answer replies.Done ([]) ∷ answer replies.NoSession ([]) ∷ answer replies.Done ([]) ∷ answer replies.NoSession ([]) ∷ answer replies.Done ([]) ∷ answer replies.NoSession ([]) ∷ answer replies.NoSession ([]) ∷ answer (replies.Failed (errors.LocalH3Error h3.Settings)) ([]) ∷ answer replies.Done ([]) ∷ answer replies.NoSession ([]) ∷ answer replies.NoStream ([]) ∷ answer replies.NoStream ([]) ∷ answer replies.NoSession ([]) ∷ answer replies.Done ([]) ∷ answer replies.NoSession ([]) ∷ answer replies.NoSession ([]) ∷ answer replies.NoStream ([]) ∷ answer replies.Done ([]) ∷ answer replies.NoSession ([]) ∷ answer replies.NoSession ([]) ∷ answer replies.NoStream ([]) ∷ answer replies.Done ([]) ∷ answer replies.NoStream ([]) ∷ answer replies.NoStream ([]) ∷ answer replies.Done ([]) ∷ answer replies.NoSession ([]) ∷ answer replies.Done ([]) ∷ answer replies.NoSession ([]) ∷ answer replies.Done ([]) ∷ answer replies.Done ([]) ∷ answer replies.NoStream ([]) ∷ answer replies.NoSession ([]) ∷ answer replies.Done ([]) ∷ answer replies.Done ([]) ∷ answer replies.NoStream ([]) ∷ answer replies.NoSession ([]) ∷ answer replies.NoStream ([]) ∷ answer replies.Done ([]) ∷ answer replies.NoStream ([]) ∷ answer replies.NoSession ([]) ∷ []); is_all = true }
unfolding computed
emit_64 = refl

pub emit_66 : run Client (turns.Call (calls.Connect ((104 ∷ 116 ∷ 116 ∷ 112 ∷ 115 ∷ 58 ∷ 47 ∷ 47 ∷ 104 ∷ []), ([])) (lookups.Found (addresses.V4 1 443)) outcomes.Proceed) ∷ turns.Connected 9 9 100 (facts.Limit 5) ∷ turns.PeerUni ∷ turns.Bytes 3 (0 ∷ 4 ∷ 0 ∷ []) ∷ turns.Call calls.Handshake ∷ turns.Bytes 0 (1 ∷ 15 ∷ 0 ∷ 0 ∷ 39 ∷ 0 ∷ 58 ∷ 115 ∷ 116 ∷ 97 ∷ 116 ∷ 117 ∷ 115 ∷ 3 ∷ 50 ∷ 48 ∷ 48 ∷ []) ∷ turns.Call calls.Handshake ∷ turns.Datagram (0 ∷ 104 ∷ 105 ∷ []) ∷ turns.Call (calls.StopRecv 3 7) ∷ turns.Call (calls.ReadExact 0 0) ∷ turns.Call (calls.WriteAll 2 ([])) ∷ turns.Call (calls.ReceiveDatagram (Some 4)) ∷ turns.PeerUni ∷ turns.Call (calls.AcceptUni (Some 12)) ∷ turns.Call (calls.AcceptUni (Some 4)) ∷ turns.Bytes 7 (0 ∷ 33 ∷ 0 ∷ []) ∷ turns.Call (calls.ReceiveDatagram (Some 8)) ∷ turns.DatagramLimit (facts.Limit 3) ∷ turns.Bytes 7 (5 ∷ 150 ∷ []) ∷ turns.Call (calls.Priority 2) ∷ []) ≡ record { answers = (answer replies.Pending (actions.Dial (addresses.V4 1 443) (104 ∷ []) ∷ []) ∷ answer replies.Done (actions.Opened 2 ∷ actions.Send 2 (0 ∷ 4 ∷ 22 ∷ 1 ∷ 0 ∷ 7 ∷ 0 ∷ 8 ∷ 1 ∷ 51 ∷ 1 ∷ 171 ∷ 96 ∷ 55 ∷ 66 ∷ 1 ∷ 192 ∷ 0 ∷ 0 ∷ 0 ∷ 198 ∷ 113 ∷ 112 ∷ 106 ∷ 4 ∷ []) ∷ []) ∷ answer replies.Done ([]) ∷ answer replies.Done ([]) ∷ answer replies.Pending (actions.Opened 0 ∷ actions.Send 0 (1 ∷ 64 ∷ 80 ∷ 0 ∷ 0 ∷ 39 ∷ 3 ∷ 58 ∷ 97 ∷ 117 ∷ 116 ∷ 104 ∷ 111 ∷ 114 ∷ 105 ∷ 116 ∷ 121 ∷ 1 ∷ 104 ∷ 39 ∷ 0 ∷ 58 ∷ 109 ∷ 101 ∷ 116 ∷ 104 ∷ 111 ∷ 100 ∷ 7 ∷ 67 ∷ 79 ∷ 78 ∷ 78 ∷ 69 ∷ 67 ∷ 84 ∷ 37 ∷ 58 ∷ 112 ∷ 97 ∷ 116 ∷ 104 ∷ 1 ∷ 47 ∷ 39 ∷ 2 ∷ 58 ∷ 112 ∷ 114 ∷ 111 ∷ 116 ∷ 111 ∷ 99 ∷ 111 ∷ 108 ∷ 12 ∷ 119 ∷ 101 ∷ 98 ∷ 116 ∷ 114 ∷ 97 ∷ 110 ∷ 115 ∷ 112 ∷ 111 ∷ 114 ∷ 116 ∷ 39 ∷ 0 ∷ 58 ∷ 115 ∷ 99 ∷ 104 ∷ 101 ∷ 109 ∷ 101 ∷ 5 ∷ 104 ∷ 116 ∷ 116 ∷ 112 ∷ 115 ∷ []) ∷ []) ∷ answer replies.Done ([]) ∷ answer (replies.Session 0) ([]) ∷ answer replies.Done ([]) ∷ answer replies.NoStream ([]) ∷ answer replies.NoStream ([]) ∷ answer replies.NoStream ([]) ∷ answer replies.NoSession ([]) ∷ answer replies.Done ([]) ∷ answer replies.NoSession ([]) ∷ answer replies.NoSession ([]) ∷ answer replies.Done (actions.Close 259 ([]) ∷ []) ∷ answer replies.NoSession ([]) ∷ answer replies.Done ([]) ∷ answer replies.Done ([]) ∷ answer replies.NoStream ([]) ∷ []); is_all = true }
unfolding computed parsed
emit_66 = refl

pub emit_7 : run Server (turns.Connected 1 2 100 (facts.Limit 1) ∷ turns.PeerUni ∷ turns.Call (calls.ReceiveDatagram None) ∷ turns.Bytes 2 (64 ∷ []) ∷ turns.PeerBi ∷ turns.Bytes 2 (84 ∷ 4 ∷ []) ∷ turns.Datagram (2 ∷ 98 ∷ []) ∷ turns.Call (calls.ReceiveDatagram (Some 4)) ∷ turns.Datagram (0 ∷ 121 ∷ 111 ∷ []) ∷ turns.Bytes 2 ([]) ∷ turns.Call (calls.ReceiveDatagram None) ∷ turns.MaxUni 1 ∷ turns.MaxBi 3 ∷ turns.Bytes 2 (97 ∷ 98 ∷ 99 ∷ []) ∷ turns.Call (calls.Read 0 0) ∷ turns.Bytes 2 (63 ∷ []) ∷ turns.Call (calls.ResetSend 3 1) ∷ turns.Bytes 2 (218 ∷ 65 ∷ []) ∷ turns.Datagram (1 ∷ 97 ∷ []) ∷ turns.Call (calls.PollOpening 0) ∷ turns.Call (calls.Finish 3) ∷ turns.PeerBi ∷ turns.Datagram (0 ∷ 121 ∷ 111 ∷ []) ∷ turns.Bytes 2 (215 ∷ 222 ∷ []) ∷ turns.Call (calls.AcceptBi (Some 16)) ∷ turns.Call (calls.ResetSend 3 1) ∷ turns.Datagram (0 ∷ 104 ∷ 105 ∷ []) ∷ turns.Call (calls.Stopped 2) ∷ turns.Bytes 4 (64 ∷ 65 ∷ 5 ∷ []) ∷ turns.Datagram (2 ∷ 98 ∷ []) ∷ turns.Datagram (1 ∷ 97 ∷ []) ∷ turns.PeerUni ∷ turns.Call (calls.Read 4 0) ∷ turns.Bytes 4 ([]) ∷ turns.Datagram (1 ∷ 97 ∷ []) ∷ turns.Datagram (1 ∷ 97 ∷ []) ∷ turns.Call (calls.AcceptUni (Some 4)) ∷ turns.Call (calls.AcceptBi None) ∷ turns.Call (calls.AcceptUni (Some 0)) ∷ turns.Call (calls.SendDatagram (97 ∷ 98 ∷ 99 ∷ 100 ∷ []) None) ∷ []) ≡ record { answers = (answer replies.Done (actions.Opened 3 ∷ actions.Send 3 (0 ∷ 4 ∷ 22 ∷ 1 ∷ 0 ∷ 7 ∷ 0 ∷ 8 ∷ 1 ∷ 51 ∷ 1 ∷ 171 ∷ 96 ∷ 55 ∷ 66 ∷ 1 ∷ 192 ∷ 0 ∷ 0 ∷ 0 ∷ 198 ∷ 113 ∷ 112 ∷ 106 ∷ 4 ∷ []) ∷ []) ∷ answer replies.Done ([]) ∷ answer replies.NoSession ([]) ∷ answer replies.Done ([]) ∷ answer replies.Done ([]) ∷ answer replies.Done ([]) ∷ answer replies.Done ([]) ∷ answer replies.NoSession ([]) ∷ answer replies.Done ([]) ∷ answer replies.Done ([]) ∷ answer replies.NoSession ([]) ∷ answer replies.Done ([]) ∷ answer replies.Done ([]) ∷ answer replies.Done ([]) ∷ answer replies.NoStream ([]) ∷ answer replies.Done ([]) ∷ answer replies.NoStream ([]) ∷ answer replies.Done ([]) ∷ answer replies.Done ([]) ∷ answer replies.NoSession ([]) ∷ answer replies.NoStream ([]) ∷ answer replies.Done ([]) ∷ answer replies.Done ([]) ∷ answer replies.Done ([]) ∷ answer replies.NoSession ([]) ∷ answer replies.NoStream ([]) ∷ answer replies.Done ([]) ∷ answer replies.NoStream ([]) ∷ answer replies.Done (actions.Close 264 ([]) ∷ []) ∷ answer replies.Done ([]) ∷ answer replies.Done ([]) ∷ answer replies.Done ([]) ∷ answer replies.NoStream ([]) ∷ answer replies.Done ([]) ∷ answer replies.Done ([]) ∷ answer replies.Done ([]) ∷ answer replies.NoSession ([]) ∷ answer replies.NoSession ([]) ∷ answer replies.NoSession ([]) ∷ answer replies.NoSession ([]) ∷ []); is_all = true }
unfolding computed
emit_7 = refl

pub emit_70 : run Client (turns.Call (calls.Connect ((104 ∷ 116 ∷ 116 ∷ 112 ∷ 115 ∷ 58 ∷ 47 ∷ 47 ∷ 104 ∷ []), ([])) (lookups.Found (addresses.V4 1 443)) outcomes.Proceed) ∷ turns.Connected 9 9 100 facts.Disabled ∷ turns.PeerUni ∷ turns.Bytes 3 (0 ∷ 4 ∷ 0 ∷ []) ∷ turns.Call calls.Handshake ∷ turns.Bytes 0 (1 ∷ 15 ∷ 0 ∷ 0 ∷ 39 ∷ 0 ∷ 58 ∷ 115 ∷ 116 ∷ 97 ∷ 116 ∷ 117 ∷ 115 ∷ 3 ∷ 50 ∷ 48 ∷ 52 ∷ []) ∷ turns.Call calls.Handshake ∷ turns.Call (calls.ReceiveDatagram (Some 12)) ∷ turns.Call (calls.PollOpening 0) ∷ turns.Call (calls.AcceptBi None) ∷ turns.Call (calls.Write 3 (113 ∷ 113 ∷ 113 ∷ 113 ∷ 113 ∷ 113 ∷ 113 ∷ 113 ∷ 113 ∷ 113 ∷ 113 ∷ 113 ∷ 113 ∷ 113 ∷ 113 ∷ 113 ∷ 113 ∷ 113 ∷ 113 ∷ 113 ∷ 113 ∷ 113 ∷ 113 ∷ 113 ∷ 113 ∷ 113 ∷ 113 ∷ 113 ∷ 113 ∷ 113 ∷ 113 ∷ 113 ∷ 113 ∷ 113 ∷ 113 ∷ 113 ∷ 113 ∷ 113 ∷ 113 ∷ 113 ∷ [])) ∷ turns.Call (calls.AcceptBi None) ∷ turns.Call (calls.SendDatagram (97 ∷ []) None) ∷ turns.Bytes 3 (96 ∷ 27 ∷ 189 ∷ []) ∷ turns.Bytes 0 ([]) ∷ turns.Call (calls.ResetSend 0 1) ∷ turns.Call (calls.PollOpening 2) ∷ turns.Call (calls.OpenUni (Some 4)) ∷ turns.End 3 ∷ turns.Call (calls.SendDatagram (97 ∷ 98 ∷ 99 ∷ 100 ∷ []) None) ∷ []) ≡ record { answers = (answer replies.Pending (actions.Dial (addresses.V4 1 443) (104 ∷ []) ∷ []) ∷ answer replies.Done (actions.Opened 2 ∷ actions.Send 2 (0 ∷ 4 ∷ 22 ∷ 1 ∷ 0 ∷ 7 ∷ 0 ∷ 8 ∷ 1 ∷ 51 ∷ 1 ∷ 171 ∷ 96 ∷ 55 ∷ 66 ∷ 1 ∷ 192 ∷ 0 ∷ 0 ∷ 0 ∷ 198 ∷ 113 ∷ 112 ∷ 106 ∷ 4 ∷ []) ∷ []) ∷ answer replies.Done ([]) ∷ answer replies.Done ([]) ∷ answer replies.Pending (actions.Opened 0 ∷ actions.Send 0 (1 ∷ 64 ∷ 80 ∷ 0 ∷ 0 ∷ 39 ∷ 3 ∷ 58 ∷ 97 ∷ 117 ∷ 116 ∷ 104 ∷ 111 ∷ 114 ∷ 105 ∷ 116 ∷ 121 ∷ 1 ∷ 104 ∷ 39 ∷ 0 ∷ 58 ∷ 109 ∷ 101 ∷ 116 ∷ 104 ∷ 111 ∷ 100 ∷ 7 ∷ 67 ∷ 79 ∷ 78 ∷ 78 ∷ 69 ∷ 67 ∷ 84 ∷ 37 ∷ 58 ∷ 112 ∷ 97 ∷ 116 ∷ 104 ∷ 1 ∷ 47 ∷ 39 ∷ 2 ∷ 58 ∷ 112 ∷ 114 ∷ 111 ∷ 116 ∷ 111 ∷ 99 ∷ 111 ∷ 108 ∷ 12 ∷ 119 ∷ 101 ∷ 98 ∷ 116 ∷ 114 ∷ 97 ∷ 110 ∷ 115 ∷ 112 ∷ 111 ∷ 114 ∷ 116 ∷ 39 ∷ 0 ∷ 58 ∷ 115 ∷ 99 ∷ 104 ∷ 101 ∷ 109 ∷ 101 ∷ 5 ∷ 104 ∷ 116 ∷ 116 ∷ 112 ∷ 115 ∷ []) ∷ []) ∷ answer replies.Done ([]) ∷ answer (replies.Session 0) ([]) ∷ answer replies.NoSession ([]) ∷ answer replies.NoStream ([]) ∷ answer replies.Pending ([]) ∷ answer replies.NoStream ([]) ∷ answer replies.Pending ([]) ∷ answer (replies.DatagramFailed datagrams.Disabled) ([]) ∷ answer replies.Done ([]) ∷ answer replies.Done ([]) ∷ answer replies.NoStream ([]) ∷ answer replies.NoStream ([]) ∷ answer replies.NoSession ([]) ∷ answer replies.Done (actions.Close 260 ([]) ∷ []) ∷ answer (replies.DatagramFailed datagrams.NotConnected) ([]) ∷ []); is_all = true }
unfolding computed parsed
emit_70 = refl

pub emit_76 : run Client (turns.Call (calls.Connect ((104 ∷ 116 ∷ 116 ∷ 112 ∷ 115 ∷ 58 ∷ 47 ∷ 47 ∷ 104 ∷ []), ([])) (lookups.Found (addresses.V4 1 443)) outcomes.Proceed) ∷ turns.Connected 9 9 1000 facts.Disabled ∷ turns.PeerUni ∷ turns.Bytes 3 (0 ∷ 4 ∷ 0 ∷ []) ∷ turns.Call calls.Handshake ∷ turns.Bytes 0 (1 ∷ 15 ∷ 0 ∷ 0 ∷ 39 ∷ 0 ∷ 58 ∷ 115 ∷ 116 ∷ 97 ∷ 116 ∷ 117 ∷ 115 ∷ 3 ∷ 50 ∷ 48 ∷ 52 ∷ []) ∷ turns.Call calls.Handshake ∷ turns.Call (calls.AcceptUni (Some 16)) ∷ turns.Call (calls.AcceptBi None) ∷ turns.Call (calls.ReadExact 7 9) ∷ turns.Call (calls.ReadExact 7 9) ∷ turns.Call (calls.Read 7 3) ∷ turns.Datagram (0 ∷ 104 ∷ 105 ∷ []) ∷ turns.Bytes 3 (7 ∷ 2 ∷ 97 ∷ []) ∷ turns.Call (calls.MaxDatagramSize (Some 16)) ∷ turns.Datagram (1 ∷ 97 ∷ []) ∷ turns.Datagram (1 ∷ 97 ∷ []) ∷ turns.Call (calls.ReceiveDatagram None) ∷ turns.Bytes 3 (98 ∷ []) ∷ turns.Bytes 0 (0 ∷ 3 ∷ 16 ∷ 1 ∷ 122 ∷ []) ∷ turns.PeerUni ∷ turns.PeerBi ∷ turns.Call (calls.ReadExact 7 2) ∷ turns.Call (calls.PollOpening 0) ∷ turns.Call (calls.ReceiveDatagram (Some 8)) ∷ turns.Call (calls.AcceptBi (Some 4)) ∷ turns.Bytes 7 ([]) ∷ turns.Bytes 3 (7 ∷ 2 ∷ 97 ∷ 98 ∷ []) ∷ turns.Call (calls.WriteAll 7 (97 ∷ [])) ∷ turns.Call calls.Closed ∷ turns.PeerUni ∷ turns.Call (calls.Read 1 1) ∷ turns.Bytes 0 (33 ∷ 1 ∷ 97 ∷ []) ∷ turns.Datagram (1 ∷ 97 ∷ []) ∷ turns.Datagram (0 ∷ 121 ∷ 111 ∷ []) ∷ turns.Call (calls.AcceptBi None) ∷ turns.Datagram (0 ∷ 121 ∷ 111 ∷ []) ∷ turns.Call (calls.AcceptBi (Some 16)) ∷ turns.Datagram (0 ∷ 104 ∷ 105 ∷ []) ∷ turns.Call (calls.OpenBi (Some 0)) ∷ []) ≡ record { answers = (answer replies.Pending (actions.Dial (addresses.V4 1 443) (104 ∷ []) ∷ []) ∷ answer replies.Done (actions.Opened 2 ∷ actions.Send 2 (0 ∷ 4 ∷ 22 ∷ 1 ∷ 0 ∷ 7 ∷ 0 ∷ 8 ∷ 1 ∷ 51 ∷ 1 ∷ 171 ∷ 96 ∷ 55 ∷ 66 ∷ 1 ∷ 192 ∷ 0 ∷ 0 ∷ 0 ∷ 198 ∷ 113 ∷ 112 ∷ 106 ∷ 4 ∷ []) ∷ []) ∷ answer replies.Done ([]) ∷ answer replies.Done ([]) ∷ answer replies.Pending (actions.Opened 0 ∷ actions.Send 0 (1 ∷ 64 ∷ 80 ∷ 0 ∷ 0 ∷ 39 ∷ 3 ∷ 58 ∷ 97 ∷ 117 ∷ 116 ∷ 104 ∷ 111 ∷ 114 ∷ 105 ∷ 116 ∷ 121 ∷ 1 ∷ 104 ∷ 39 ∷ 0 ∷ 58 ∷ 109 ∷ 101 ∷ 116 ∷ 104 ∷ 111 ∷ 100 ∷ 7 ∷ 67 ∷ 79 ∷ 78 ∷ 78 ∷ 69 ∷ 67 ∷ 84 ∷ 37 ∷ 58 ∷ 112 ∷ 97 ∷ 116 ∷ 104 ∷ 1 ∷ 47 ∷ 39 ∷ 2 ∷ 58 ∷ 112 ∷ 114 ∷ 111 ∷ 116 ∷ 111 ∷ 99 ∷ 111 ∷ 108 ∷ 12 ∷ 119 ∷ 101 ∷ 98 ∷ 116 ∷ 114 ∷ 97 ∷ 110 ∷ 115 ∷ 112 ∷ 111 ∷ 114 ∷ 116 ∷ 39 ∷ 0 ∷ 58 ∷ 115 ∷ 99 ∷ 104 ∷ 101 ∷ 109 ∷ 101 ∷ 5 ∷ 104 ∷ 116 ∷ 116 ∷ 112 ∷ 115 ∷ []) ∷ []) ∷ answer replies.Done ([]) ∷ answer (replies.Session 0) ([]) ∷ answer replies.NoSession ([]) ∷ answer replies.Pending ([]) ∷ answer replies.NoStream ([]) ∷ answer replies.NoStream ([]) ∷ answer replies.NoStream ([]) ∷ answer replies.Done ([]) ∷ answer replies.Done ([]) ∷ answer replies.NoSession ([]) ∷ answer replies.Done ([]) ∷ answer replies.Done ([]) ∷ answer (replies.Datagram (104 ∷ 105 ∷ [])) ([]) ∷ answer replies.Done ([]) ∷ answer replies.Done ([]) ∷ answer replies.Done ([]) ∷ answer replies.Done ([]) ∷ answer replies.NoStream ([]) ∷ answer replies.NoStream ([]) ∷ answer replies.NoSession ([]) ∷ answer replies.NoSession ([]) ∷ answer replies.Done ([]) ∷ answer replies.Done ([]) ∷ answer replies.NoStream ([]) ∷ answer replies.Pending ([]) ∷ answer replies.Done ([]) ∷ answer replies.NoStream ([]) ∷ answer replies.Done ([]) ∷ answer replies.Done ([]) ∷ answer replies.Done ([]) ∷ answer replies.Pending ([]) ∷ answer replies.Done ([]) ∷ answer replies.NoSession ([]) ∷ answer replies.Done ([]) ∷ answer (replies.Opening 4) (actions.Opened 4 ∷ []) ∷ []); is_all = true }
unfolding computed parsed
emit_76 = refl

pub emit_77 : run Client (turns.Call (calls.Connect ((104 ∷ 116 ∷ 116 ∷ 112 ∷ 115 ∷ 58 ∷ 47 ∷ 47 ∷ 49 ∷ 50 ∷ 55 ∷ 46 ∷ 48 ∷ 46 ∷ 48 ∷ 46 ∷ 49 ∷ 47 ∷ []), (((58 ∷ 122 ∷ []), ([])) ∷ ((97 ∷ []), (98 ∷ [])) ∷ [])) (lookups.Found (addresses.V4 2130706433 443)) outcomes.Proceed) ∷ turns.Connected 9 2 24 (facts.Limit 5) ∷ turns.PeerUni ∷ turns.PeerUni ∷ turns.Call (calls.PollOpening 2) ∷ turns.MaxData 2 54 ∷ turns.Bytes 7 (0 ∷ []) ∷ turns.PeerUni ∷ turns.Bytes 3 (64 ∷ 84 ∷ 4 ∷ 97 ∷ 98 ∷ 99 ∷ []) ∷ turns.Call (calls.PollOpening 11) ∷ turns.Call calls.Handshake ∷ turns.Call (calls.PollOpening 11) ∷ turns.Call (calls.Read 7 2) ∷ turns.Call calls.Handshake ∷ turns.Call calls.Handshake ∷ turns.Call (calls.Read 11 1) ∷ turns.PeerUni ∷ turns.Call (calls.AcceptUni None) ∷ turns.Call (calls.AcceptBi (Some 16)) ∷ turns.Call (calls.OpenBi None) ∷ turns.Call (calls.StopRecv 2 300) ∷ turns.PeerUni ∷ turns.Bytes 7 (4 ∷ 0 ∷ 80 ∷ 0 ∷ 0 ∷ []) ∷ turns.Datagram (1 ∷ 97 ∷ []) ∷ turns.Datagram (2 ∷ 98 ∷ []) ∷ turns.PeerUni ∷ turns.Call (calls.AcceptUni None) ∷ turns.Call (calls.AcceptBi (Some 12)) ∷ turns.Call (calls.PollOpening 19) ∷ turns.Call (calls.Finish 19) ∷ turns.Call (calls.Read 3 3) ∷ turns.Call (calls.Finish 3) ∷ turns.Bytes 11 (0 ∷ 4 ∷ []) ∷ turns.Call (calls.Priority 15) ∷ turns.Bytes 19 ([]) ∷ turns.Call (calls.StopRecv 4 300) ∷ turns.End 7 ∷ turns.Call calls.Handshake ∷ turns.Bytes 15 (0 ∷ 4 ∷ 0 ∷ []) ∷ turns.Bytes 23 (64 ∷ 84 ∷ 4 ∷ 97 ∷ 98 ∷ 99 ∷ []) ∷ turns.Call (calls.OpenBi (Some 4)) ∷ turns.Call (calls.AcceptBi None) ∷ turns.MaxBi 3 ∷ turns.Call (calls.AcceptUni (Some 4)) ∷ turns.Bytes 15 (64 ∷ 84 ∷ 4 ∷ 97 ∷ 98 ∷ 99 ∷ []) ∷ turns.Call (calls.AcceptUni (Some 8)) ∷ turns.Call (calls.AcceptBi (Some 4)) ∷ turns.Bytes 3 (19 ∷ 91 ∷ []) ∷ turns.Call (calls.Read 23 2) ∷ turns.Bytes 11 (0 ∷ []) ∷ turns.Call (calls.Read 15 0) ∷ turns.PeerUni ∷ turns.Bytes 11 (54 ∷ 162 ∷ []) ∷ turns.Call (calls.ReceiveDatagram None) ∷ turns.Bytes 11 (46 ∷ []) ∷ turns.Bytes 19 (64 ∷ 84 ∷ 8 ∷ []) ∷ turns.PeerUni ∷ turns.PeerUni ∷ turns.Bytes 35 (0 ∷ 4 ∷ 0 ∷ []) ∷ turns.PeerBi ∷ []) ≡ record { answers = (answer replies.Pending (actions.Dial (addresses.V4 2130706433 443) (49 ∷ 50 ∷ 55 ∷ 46 ∷ 48 ∷ 46 ∷ 48 ∷ 46 ∷ 49 ∷ []) ∷ []) ∷ answer replies.Done (actions.Opened 2 ∷ actions.Send 2 (0 ∷ 4 ∷ 22 ∷ 1 ∷ 0 ∷ 7 ∷ 0 ∷ 8 ∷ 1 ∷ 51 ∷ 1 ∷ 171 ∷ 96 ∷ 55 ∷ 66 ∷ 1 ∷ 192 ∷ 0 ∷ 0 ∷ 0 ∷ 198 ∷ 113 ∷ 112 ∷ 106 ∷ []) ∷ []) ∷ answer replies.Done ([]) ∷ answer replies.Done ([]) ∷ answer replies.NoSession ([]) ∷ answer replies.Done (actions.Send 2 (4 ∷ []) ∷ []) ∷ answer replies.Done ([]) ∷ answer replies.Done ([]) ∷ answer replies.Done ([]) ∷ answer replies.NoSession ([]) ∷ answer replies.Pending ([]) ∷ answer replies.NoSession ([]) ∷ answer replies.NoStream ([]) ∷ answer replies.Pending ([]) ∷ answer replies.Pending ([]) ∷ answer replies.NoStream ([]) ∷ answer replies.Done ([]) ∷ answer replies.NoSession ([]) ∷ answer replies.NoSession ([]) ∷ answer replies.NoSession ([]) ∷ answer replies.NoStream ([]) ∷ answer replies.Done ([]) ∷ answer replies.Done ([]) ∷ answer replies.Done ([]) ∷ answer replies.Done ([]) ∷ answer replies.Done ([]) ∷ answer replies.NoSession ([]) ∷ answer replies.NoSession ([]) ∷ answer replies.NoSession ([]) ∷ answer replies.NoStream ([]) ∷ answer replies.NoStream ([]) ∷ answer replies.NoStream ([]) ∷ answer replies.Done (actions.Close 259 ([]) ∷ []) ∷ answer replies.NoStream ([]) ∷ answer replies.Done ([]) ∷ answer replies.NoStream ([]) ∷ answer replies.Done ([]) ∷ answer (replies.ConnectFailed (connects.ConnectionError errors.LocallyClosed)) ([]) ∷ answer replies.Done ([]) ∷ answer replies.Done ([]) ∷ answer replies.NoSession ([]) ∷ answer replies.NoSession ([]) ∷ answer replies.Done ([]) ∷ answer replies.NoSession ([]) ∷ answer replies.Done ([]) ∷ answer replies.NoSession ([]) ∷ answer replies.NoSession ([]) ∷ answer replies.Done ([]) ∷ answer replies.NoStream ([]) ∷ answer replies.Done ([]) ∷ answer replies.NoStream ([]) ∷ answer replies.Done ([]) ∷ answer replies.Done ([]) ∷ answer replies.NoSession ([]) ∷ answer replies.Done ([]) ∷ answer replies.Done ([]) ∷ answer replies.Done ([]) ∷ answer replies.Done ([]) ∷ answer replies.Done ([]) ∷ answer replies.Done ([]) ∷ []); is_all = true }
unfolding computed parsed
emit_77 = refl

pub emit_82 : run Client (turns.Call (calls.Connect ((104 ∷ 116 ∷ 116 ∷ 112 ∷ 115 ∷ 58 ∷ 47 ∷ 47 ∷ 104 ∷ []), ([])) (lookups.Found (addresses.V4 1 443)) outcomes.Proceed) ∷ turns.Connected 9 9 1000 (facts.Limit 1200) ∷ turns.PeerUni ∷ turns.Bytes 3 (0 ∷ 4 ∷ 0 ∷ []) ∷ turns.Call calls.Handshake ∷ turns.Bytes 0 (1 ∷ 15 ∷ 0 ∷ 0 ∷ 39 ∷ 0 ∷ 58 ∷ 115 ∷ 116 ∷ 97 ∷ 116 ∷ 117 ∷ 115 ∷ 3 ∷ 50 ∷ 48 ∷ 48 ∷ []) ∷ turns.Call calls.Handshake ∷ turns.Call (calls.AcceptUni None) ∷ turns.Call (calls.SetPriority 15 (negsuc 4)) ∷ turns.Bytes 3 (33 ∷ 1 ∷ 97 ∷ []) ∷ turns.Datagram (0 ∷ 104 ∷ 105 ∷ []) ∷ turns.Call (calls.Read 7 9) ∷ turns.Bytes 3 (15 ∷ 0 ∷ []) ∷ turns.Call (calls.PollOpening 0) ∷ turns.Bytes 0 (1 ∷ 0 ∷ []) ∷ turns.Call (calls.ReceiveDatagram (Some 8)) ∷ turns.Bytes 3 (7 ∷ 2 ∷ 97 ∷ 98 ∷ []) ∷ turns.Datagram (0 ∷ 121 ∷ 111 ∷ []) ∷ turns.Bytes 3 (33 ∷ 1 ∷ 97 ∷ []) ∷ turns.PeerBi ∷ turns.Call (calls.ResetSend 7 0) ∷ turns.Bytes 3 (15 ∷ 0 ∷ []) ∷ turns.Call (calls.Write 0 ([])) ∷ turns.Datagram (1 ∷ 97 ∷ []) ∷ turns.PeerUni ∷ turns.Bytes 1 (64 ∷ 65 ∷ 0 ∷ []) ∷ turns.Bytes 7 ([]) ∷ turns.Bytes 1 ([]) ∷ turns.Call (calls.OpenUni None) ∷ turns.Call (calls.AcceptBi None) ∷ turns.Call (calls.SetPriority 1 (negsuc 4)) ∷ turns.Bytes 7 (64 ∷ 84 ∷ []) ∷ turns.Call (calls.Read 1 9) ∷ turns.Bytes 3 (7 ∷ 2 ∷ 97 ∷ 98 ∷ []) ∷ turns.PeerUni ∷ turns.Call (calls.Priority 7) ∷ turns.Call (calls.PollOpening 6) ∷ turns.Bytes 3 (7 ∷ []) ∷ turns.Call (calls.AcceptBi None) ∷ turns.Bytes 1 (109 ∷ []) ∷ []) ≡ record { answers = (answer replies.Pending (actions.Dial (addresses.V4 1 443) (104 ∷ []) ∷ []) ∷ answer replies.Done (actions.Opened 2 ∷ actions.Send 2 (0 ∷ 4 ∷ 22 ∷ 1 ∷ 0 ∷ 7 ∷ 0 ∷ 8 ∷ 1 ∷ 51 ∷ 1 ∷ 171 ∷ 96 ∷ 55 ∷ 66 ∷ 1 ∷ 192 ∷ 0 ∷ 0 ∷ 0 ∷ 198 ∷ 113 ∷ 112 ∷ 106 ∷ 4 ∷ []) ∷ []) ∷ answer replies.Done ([]) ∷ answer replies.Done ([]) ∷ answer replies.Pending (actions.Opened 0 ∷ actions.Send 0 (1 ∷ 64 ∷ 80 ∷ 0 ∷ 0 ∷ 39 ∷ 3 ∷ 58 ∷ 97 ∷ 117 ∷ 116 ∷ 104 ∷ 111 ∷ 114 ∷ 105 ∷ 116 ∷ 121 ∷ 1 ∷ 104 ∷ 39 ∷ 0 ∷ 58 ∷ 109 ∷ 101 ∷ 116 ∷ 104 ∷ 111 ∷ 100 ∷ 7 ∷ 67 ∷ 79 ∷ 78 ∷ 78 ∷ 69 ∷ 67 ∷ 84 ∷ 37 ∷ 58 ∷ 112 ∷ 97 ∷ 116 ∷ 104 ∷ 1 ∷ 47 ∷ 39 ∷ 2 ∷ 58 ∷ 112 ∷ 114 ∷ 111 ∷ 116 ∷ 111 ∷ 99 ∷ 111 ∷ 108 ∷ 12 ∷ 119 ∷ 101 ∷ 98 ∷ 116 ∷ 114 ∷ 97 ∷ 110 ∷ 115 ∷ 112 ∷ 111 ∷ 114 ∷ 116 ∷ 39 ∷ 0 ∷ 58 ∷ 115 ∷ 99 ∷ 104 ∷ 101 ∷ 109 ∷ 101 ∷ 5 ∷ 104 ∷ 116 ∷ 116 ∷ 112 ∷ 115 ∷ []) ∷ []) ∷ answer replies.Done ([]) ∷ answer (replies.Session 0) ([]) ∷ answer replies.Pending ([]) ∷ answer replies.NoStream ([]) ∷ answer replies.Done ([]) ∷ answer replies.Done ([]) ∷ answer replies.NoStream ([]) ∷ answer replies.Done ([]) ∷ answer replies.NoStream ([]) ∷ answer replies.Done ([]) ∷ answer replies.NoSession ([]) ∷ answer replies.Done ([]) ∷ answer replies.Done ([]) ∷ answer replies.Done ([]) ∷ answer replies.Done ([]) ∷ answer replies.NoStream ([]) ∷ answer replies.Done ([]) ∷ answer replies.NoStream ([]) ∷ answer replies.Done ([]) ∷ answer replies.Done ([]) ∷ answer replies.Done ([]) ∷ answer replies.Done ([]) ∷ answer replies.Done ([]) ∷ answer (replies.Opening 6) (actions.Opened 6 ∷ []) ∷ answer (replies.Bi 1) ([]) ∷ answer replies.Done ([]) ∷ answer replies.Done ([]) ∷ answer replies.Pending ([]) ∷ answer replies.Done ([]) ∷ answer replies.Done ([]) ∷ answer replies.NoStream ([]) ∷ answer (replies.SendReady 6) (actions.Send 6 (64 ∷ 84 ∷ 0 ∷ []) ∷ []) ∷ answer replies.Done ([]) ∷ answer replies.Pending ([]) ∷ answer replies.Done ([]) ∷ []); is_all = true }
unfolding computed parsed
emit_82 = refl

pub emit_83 : run Client (turns.Call (calls.Connect ((104 ∷ 116 ∷ 116 ∷ 112 ∷ 115 ∷ 58 ∷ 47 ∷ 47 ∷ 104 ∷ []), ([])) (lookups.Found (addresses.V4 1 443)) outcomes.Proceed) ∷ turns.Connected 9 9 100 (facts.Limit 1200) ∷ turns.PeerUni ∷ turns.Bytes 3 (0 ∷ 4 ∷ 0 ∷ []) ∷ turns.Call calls.Handshake ∷ turns.Bytes 0 (1 ∷ 15 ∷ 0 ∷ 0 ∷ 39 ∷ 0 ∷ 58 ∷ 115 ∷ 116 ∷ 97 ∷ 116 ∷ 117 ∷ 115 ∷ 3 ∷ 50 ∷ 48 ∷ 52 ∷ []) ∷ turns.Call calls.Handshake ∷ turns.Call (calls.SendDatagram ([]) None) ∷ turns.Call (calls.AcceptBi None) ∷ turns.Call (calls.Read 7 2) ∷ turns.PeerBi ∷ turns.PeerBi ∷ turns.MaxBi 10 ∷ turns.Bytes 5 (64 ∷ 65 ∷ 0 ∷ 100 ∷ 97 ∷ 116 ∷ 97 ∷ []) ∷ turns.Call (calls.AcceptBi None) ∷ turns.PeerUni ∷ turns.Call (calls.WriteAll 5 (97 ∷ [])) ∷ turns.Call (calls.Read 5 2) ∷ turns.Bytes 1 (1 ∷ 64 ∷ 108 ∷ []) ∷ turns.Call (calls.ReceiveDatagram None) ∷ []) ≡ record { answers = (answer replies.Pending (actions.Dial (addresses.V4 1 443) (104 ∷ []) ∷ []) ∷ answer replies.Done (actions.Opened 2 ∷ actions.Send 2 (0 ∷ 4 ∷ 22 ∷ 1 ∷ 0 ∷ 7 ∷ 0 ∷ 8 ∷ 1 ∷ 51 ∷ 1 ∷ 171 ∷ 96 ∷ 55 ∷ 66 ∷ 1 ∷ 192 ∷ 0 ∷ 0 ∷ 0 ∷ 198 ∷ 113 ∷ 112 ∷ 106 ∷ 4 ∷ []) ∷ []) ∷ answer replies.Done ([]) ∷ answer replies.Done ([]) ∷ answer replies.Pending (actions.Opened 0 ∷ actions.Send 0 (1 ∷ 64 ∷ 80 ∷ 0 ∷ 0 ∷ 39 ∷ 3 ∷ 58 ∷ 97 ∷ 117 ∷ 116 ∷ 104 ∷ 111 ∷ 114 ∷ 105 ∷ 116 ∷ 121 ∷ 1 ∷ 104 ∷ 39 ∷ 0 ∷ 58 ∷ 109 ∷ 101 ∷ 116 ∷ 104 ∷ 111 ∷ 100 ∷ 7 ∷ 67 ∷ 79 ∷ 78 ∷ 78 ∷ 69 ∷ 67 ∷ 84 ∷ 37 ∷ 58 ∷ 112 ∷ 97 ∷ 116 ∷ 104 ∷ 1 ∷ 47 ∷ 39 ∷ 2 ∷ 58 ∷ 112 ∷ 114 ∷ 111 ∷ 116 ∷ 111 ∷ 99 ∷ 111 ∷ 108 ∷ 12 ∷ 119 ∷ 101 ∷ 98 ∷ 116 ∷ 114 ∷ 97 ∷ 110 ∷ 115 ∷ 112 ∷ 111 ∷ 114 ∷ 116 ∷ 39 ∷ 0 ∷ 58 ∷ 115 ∷ 99 ∷ 104 ∷ 101 ∷ 109 ∷ 101 ∷ 5 ∷ 104 ∷ 116 ∷ 116 ∷ 112 ∷ 115 ∷ []) ∷ []) ∷ answer replies.Done ([]) ∷ answer (replies.Session 0) ([]) ∷ answer replies.Done (actions.DatagramOut (0 ∷ []) ∷ []) ∷ answer replies.Pending ([]) ∷ answer replies.NoStream ([]) ∷ answer replies.Done ([]) ∷ answer replies.Done ([]) ∷ answer replies.Done ([]) ∷ answer replies.Done ([]) ∷ answer (replies.Bi 5) ([]) ∷ answer replies.Done ([]) ∷ answer replies.AllWritten (actions.Send 5 (97 ∷ []) ∷ []) ∷ answer (replies.Read (Some (100 ∷ 97 ∷ []))) ([]) ∷ answer replies.Done ([]) ∷ answer replies.Pending ([]) ∷ []); is_all = true }
unfolding computed parsed
emit_83 = refl

pub emit_87 : run Client (turns.Call (calls.Connect ((104 ∷ 116 ∷ 116 ∷ 112 ∷ 115 ∷ 58 ∷ 47 ∷ 47 ∷ 104 ∷ []), ([])) (lookups.Found (addresses.V4 1 443)) outcomes.Proceed) ∷ turns.Connected 9 9 100 (facts.Limit 1200) ∷ turns.PeerUni ∷ turns.Bytes 3 (0 ∷ 4 ∷ 0 ∷ []) ∷ turns.Call calls.Handshake ∷ turns.Bytes 0 (1 ∷ 15 ∷ 0 ∷ 0 ∷ 39 ∷ 0 ∷ 58 ∷ 115 ∷ 116 ∷ 97 ∷ 116 ∷ 117 ∷ 115 ∷ 3 ∷ 50 ∷ 48 ∷ 48 ∷ []) ∷ turns.Call calls.Handshake ∷ turns.Call (calls.OpenBi (Some 8)) ∷ turns.PeerUni ∷ turns.Reset 7 7 ∷ turns.Call (calls.EndSession (Some 16)) ∷ turns.PeerBi ∷ turns.Bytes 3 ([]) ∷ turns.Call (calls.AcceptUni (Some 16)) ∷ turns.Call (calls.AcceptBi None) ∷ turns.PeerUni ∷ turns.MaxBi 11 ∷ turns.Call (calls.EndSession None) ∷ turns.Bytes 1 (64 ∷ 65 ∷ 4 ∷ 120 ∷ 121 ∷ 122 ∷ []) ∷ turns.PeerBi ∷ []) ≡ record { answers = (answer replies.Pending (actions.Dial (addresses.V4 1 443) (104 ∷ []) ∷ []) ∷ answer replies.Done (actions.Opened 2 ∷ actions.Send 2 (0 ∷ 4 ∷ 22 ∷ 1 ∷ 0 ∷ 7 ∷ 0 ∷ 8 ∷ 1 ∷ 51 ∷ 1 ∷ 171 ∷ 96 ∷ 55 ∷ 66 ∷ 1 ∷ 192 ∷ 0 ∷ 0 ∷ 0 ∷ 198 ∷ 113 ∷ 112 ∷ 106 ∷ 4 ∷ []) ∷ []) ∷ answer replies.Done ([]) ∷ answer replies.Done ([]) ∷ answer replies.Pending (actions.Opened 0 ∷ actions.Send 0 (1 ∷ 64 ∷ 80 ∷ 0 ∷ 0 ∷ 39 ∷ 3 ∷ 58 ∷ 97 ∷ 117 ∷ 116 ∷ 104 ∷ 111 ∷ 114 ∷ 105 ∷ 116 ∷ 121 ∷ 1 ∷ 104 ∷ 39 ∷ 0 ∷ 58 ∷ 109 ∷ 101 ∷ 116 ∷ 104 ∷ 111 ∷ 100 ∷ 7 ∷ 67 ∷ 79 ∷ 78 ∷ 78 ∷ 69 ∷ 67 ∷ 84 ∷ 37 ∷ 58 ∷ 112 ∷ 97 ∷ 116 ∷ 104 ∷ 1 ∷ 47 ∷ 39 ∷ 2 ∷ 58 ∷ 112 ∷ 114 ∷ 111 ∷ 116 ∷ 111 ∷ 99 ∷ 111 ∷ 108 ∷ 12 ∷ 119 ∷ 101 ∷ 98 ∷ 116 ∷ 114 ∷ 97 ∷ 110 ∷ 115 ∷ 112 ∷ 111 ∷ 114 ∷ 116 ∷ 39 ∷ 0 ∷ 58 ∷ 115 ∷ 99 ∷ 104 ∷ 101 ∷ 109 ∷ 101 ∷ 5 ∷ 104 ∷ 116 ∷ 116 ∷ 112 ∷ 115 ∷ []) ∷ []) ∷ answer replies.Done ([]) ∷ answer (replies.Session 0) ([]) ∷ answer replies.NoSession ([]) ∷ answer replies.Done ([]) ∷ answer replies.Done ([]) ∷ answer replies.NoSession ([]) ∷ answer replies.Done ([]) ∷ answer replies.Done ([]) ∷ answer replies.NoSession ([]) ∷ answer replies.Pending ([]) ∷ answer replies.Done ([]) ∷ answer replies.Done ([]) ∷ answer replies.Done (actions.Finish 0 ∷ []) ∷ answer replies.Done ([]) ∷ answer replies.Done ([]) ∷ []); is_all = true }
unfolding computed parsed
emit_87 = refl

pub emit_89 : run Client (turns.Call (calls.Connect ((104 ∷ 116 ∷ 116 ∷ 112 ∷ 115 ∷ 58 ∷ 47 ∷ 47 ∷ 104 ∷ []), ([])) (lookups.Found (addresses.V4 1 443)) outcomes.Proceed) ∷ turns.Connected 9 9 100 (facts.Limit 1200) ∷ turns.PeerUni ∷ turns.Bytes 3 (0 ∷ 4 ∷ 0 ∷ []) ∷ turns.Call calls.Handshake ∷ turns.Bytes 0 (1 ∷ 15 ∷ 0 ∷ 0 ∷ 39 ∷ 0 ∷ 58 ∷ 115 ∷ 116 ∷ 97 ∷ 116 ∷ 117 ∷ 115 ∷ 3 ∷ 50 ∷ 48 ∷ 48 ∷ []) ∷ turns.Call calls.Handshake ∷ turns.Bytes 3 (33 ∷ 1 ∷ 97 ∷ []) ∷ turns.Call (calls.PollOpening 7) ∷ turns.Call (calls.Write 7 (97 ∷ 98 ∷ 99 ∷ 100 ∷ 101 ∷ [])) ∷ turns.Call (calls.ReceiveDatagram (Some 4)) ∷ turns.PeerUni ∷ turns.Call (calls.PollOpening 3) ∷ turns.Call (calls.PollOpening 7) ∷ turns.PeerBi ∷ turns.Call (calls.ReceiveDatagram None) ∷ turns.Call (calls.AcceptBi (Some 16)) ∷ turns.Datagram (0 ∷ 121 ∷ 111 ∷ []) ∷ turns.Datagram (0 ∷ 121 ∷ 111 ∷ []) ∷ turns.Call (calls.ReceiveDatagram (Some 8)) ∷ turns.Bytes 0 (0 ∷ 3 ∷ 16 ∷ 1 ∷ 122 ∷ []) ∷ turns.Bytes 3 ([]) ∷ turns.Call (calls.ReadExact 7 1) ∷ turns.Call (calls.AcceptBi (Some 16)) ∷ turns.Call (calls.SessionId None) ∷ turns.End 0 ∷ turns.Call (calls.ReceiveDatagram (Some 0)) ∷ turns.Call (calls.ReceiveDatagram None) ∷ turns.PeerUni ∷ turns.Call (calls.ReceiveDatagram (Some 12)) ∷ turns.Datagram (0 ∷ 104 ∷ 105 ∷ []) ∷ turns.Datagram (1 ∷ 97 ∷ []) ∷ turns.Datagram (1 ∷ 97 ∷ []) ∷ turns.PeerBi ∷ turns.Bytes 5 (64 ∷ 65 ∷ 4 ∷ 120 ∷ 121 ∷ 122 ∷ []) ∷ turns.Datagram (0 ∷ 104 ∷ 105 ∷ []) ∷ turns.Call (calls.ReceiveDatagram None) ∷ turns.Call (calls.ReceiveDatagram None) ∷ turns.Call (calls.AcceptBi (Some 4)) ∷ turns.MaxBi 10 ∷ turns.Bytes 5 (109 ∷ 111 ∷ 114 ∷ 101 ∷ []) ∷ turns.Call (calls.Read 5 2) ∷ turns.Datagram (1 ∷ 97 ∷ []) ∷ turns.Bytes 5 (109 ∷ 111 ∷ 114 ∷ []) ∷ turns.Datagram (0 ∷ 104 ∷ 105 ∷ []) ∷ turns.Datagram (0 ∷ 121 ∷ 111 ∷ []) ∷ turns.End 7 ∷ turns.Call (calls.ReceiveDatagram None) ∷ turns.Bytes 5 (101 ∷ []) ∷ turns.Call (calls.Read 7 2) ∷ turns.Bytes 3 (7 ∷ 2 ∷ 97 ∷ 98 ∷ []) ∷ turns.Call (calls.ReceiveDatagram (Some 16)) ∷ turns.PeerUni ∷ turns.Call (calls.ReceiveDatagram None) ∷ turns.MaxData 1 105 ∷ turns.MaxUni 10 ∷ turns.PeerUni ∷ turns.Call (calls.AcceptUni None) ∷ turns.Datagram (0 ∷ 121 ∷ 111 ∷ []) ∷ turns.Call (calls.AcceptUni (Some 12)) ∷ []) ≡ record { answers = (answer replies.Pending (actions.Dial (addresses.V4 1 443) (104 ∷ []) ∷ []) ∷ answer replies.Done (actions.Opened 2 ∷ actions.Send 2 (0 ∷ 4 ∷ 22 ∷ 1 ∷ 0 ∷ 7 ∷ 0 ∷ 8 ∷ 1 ∷ 51 ∷ 1 ∷ 171 ∷ 96 ∷ 55 ∷ 66 ∷ 1 ∷ 192 ∷ 0 ∷ 0 ∷ 0 ∷ 198 ∷ 113 ∷ 112 ∷ 106 ∷ 4 ∷ []) ∷ []) ∷ answer replies.Done ([]) ∷ answer replies.Done ([]) ∷ answer replies.Pending (actions.Opened 0 ∷ actions.Send 0 (1 ∷ 64 ∷ 80 ∷ 0 ∷ 0 ∷ 39 ∷ 3 ∷ 58 ∷ 97 ∷ 117 ∷ 116 ∷ 104 ∷ 111 ∷ 114 ∷ 105 ∷ 116 ∷ 121 ∷ 1 ∷ 104 ∷ 39 ∷ 0 ∷ 58 ∷ 109 ∷ 101 ∷ 116 ∷ 104 ∷ 111 ∷ 100 ∷ 7 ∷ 67 ∷ 79 ∷ 78 ∷ 78 ∷ 69 ∷ 67 ∷ 84 ∷ 37 ∷ 58 ∷ 112 ∷ 97 ∷ 116 ∷ 104 ∷ 1 ∷ 47 ∷ 39 ∷ 2 ∷ 58 ∷ 112 ∷ 114 ∷ 111 ∷ 116 ∷ 111 ∷ 99 ∷ 111 ∷ 108 ∷ 12 ∷ 119 ∷ 101 ∷ 98 ∷ 116 ∷ 114 ∷ 97 ∷ 110 ∷ 115 ∷ 112 ∷ 111 ∷ 114 ∷ 116 ∷ 39 ∷ 0 ∷ 58 ∷ 115 ∷ 99 ∷ 104 ∷ 101 ∷ 109 ∷ 101 ∷ 5 ∷ 104 ∷ 116 ∷ 116 ∷ 112 ∷ 115 ∷ []) ∷ []) ∷ answer replies.Done ([]) ∷ answer (replies.Session 0) ([]) ∷ answer replies.Done ([]) ∷ answer replies.NoStream ([]) ∷ answer replies.NoStream ([]) ∷ answer replies.NoSession ([]) ∷ answer replies.Done ([]) ∷ answer replies.NoStream ([]) ∷ answer replies.NoStream ([]) ∷ answer replies.Done ([]) ∷ answer replies.Pending ([]) ∷ answer replies.NoSession ([]) ∷ answer replies.Done ([]) ∷ answer replies.Done ([]) ∷ answer replies.NoSession ([]) ∷ answer replies.Done ([]) ∷ answer replies.Done ([]) ∷ answer replies.NoStream ([]) ∷ answer replies.NoSession ([]) ∷ answer (replies.Id 0) ([]) ∷ answer replies.Done (actions.Finish 0 ∷ []) ∷ answer (replies.Failed (errors.ApplicationClosed (record { code = 0; reason = ([]) }))) ([]) ∷ answer (replies.Failed (errors.ApplicationClosed (record { code = 0; reason = ([]) }))) ([]) ∷ answer replies.Done ([]) ∷ answer replies.NoSession ([]) ∷ answer replies.Done ([]) ∷ answer replies.Done ([]) ∷ answer replies.Done ([]) ∷ answer replies.Done ([]) ∷ answer replies.Done ([]) ∷ answer replies.Done ([]) ∷ answer (replies.Failed (errors.ApplicationClosed (record { code = 0; reason = ([]) }))) ([]) ∷ answer (replies.Failed (errors.ApplicationClosed (record { code = 0; reason = ([]) }))) ([]) ∷ answer replies.NoSession ([]) ∷ answer replies.Done ([]) ∷ answer replies.Done ([]) ∷ answer replies.NoStream ([]) ∷ answer replies.Done ([]) ∷ answer replies.Done ([]) ∷ answer replies.Done ([]) ∷ answer replies.Done ([]) ∷ answer replies.Done ([]) ∷ answer (replies.Failed (errors.ApplicationClosed (record { code = 0; reason = ([]) }))) ([]) ∷ answer replies.Done ([]) ∷ answer replies.NoStream ([]) ∷ answer replies.Done ([]) ∷ answer replies.NoSession ([]) ∷ answer replies.Done ([]) ∷ answer (replies.Failed (errors.ApplicationClosed (record { code = 0; reason = ([]) }))) ([]) ∷ answer replies.Done ([]) ∷ answer replies.Done ([]) ∷ answer replies.Done ([]) ∷ answer (replies.Failed (errors.ApplicationClosed (record { code = 0; reason = ([]) }))) ([]) ∷ answer replies.Done ([]) ∷ answer replies.NoSession ([]) ∷ []); is_all = true }
unfolding computed parsed
emit_89 = refl

pub emit_91 : run Client (turns.Call (calls.Connect ((104 ∷ 116 ∷ 116 ∷ 112 ∷ 115 ∷ 58 ∷ 47 ∷ 47 ∷ 104 ∷ []), ([])) (lookups.Found (addresses.V4 1 443)) outcomes.Proceed) ∷ turns.Connected 9 9 100 facts.Disabled ∷ turns.PeerUni ∷ turns.Bytes 3 (0 ∷ 4 ∷ 0 ∷ []) ∷ turns.Call calls.Handshake ∷ turns.Bytes 0 (1 ∷ 15 ∷ 0 ∷ 0 ∷ 39 ∷ 0 ∷ 58 ∷ 115 ∷ 116 ∷ 97 ∷ 116 ∷ 117 ∷ 115 ∷ 3 ∷ 50 ∷ 48 ∷ 48 ∷ []) ∷ turns.Call calls.Handshake ∷ turns.MaxUni 10 ∷ turns.Call (calls.Read 7 3) ∷ turns.Call (calls.ResetSend 7 7) ∷ turns.Call (calls.SendDatagram (97 ∷ 98 ∷ 99 ∷ 100 ∷ []) None) ∷ turns.PeerBi ∷ turns.Call (calls.PollOpening 7) ∷ turns.Call (calls.OpenBi (Some 0)) ∷ turns.Bytes 3 (15 ∷ 0 ∷ []) ∷ turns.Call (calls.OpenBi (Some 16)) ∷ turns.Call (calls.WriteAll 7 (97 ∷ [])) ∷ turns.Call (calls.PollOpening 4) ∷ turns.MaxData 4 105 ∷ turns.Call (calls.Finish 4) ∷ turns.Call (calls.OpenUni (Some 4)) ∷ turns.PeerBi ∷ turns.Call (calls.ResetSend 4 300) ∷ turns.Call (calls.EndSession (Some 12)) ∷ turns.Bytes 4 (114 ∷ 101 ∷ 112 ∷ 108 ∷ 121 ∷ []) ∷ turns.Call (calls.Finish 4) ∷ turns.Datagram (0 ∷ 121 ∷ 111 ∷ []) ∷ turns.Bytes 5 (64 ∷ 65 ∷ 0 ∷ []) ∷ turns.Call (calls.Write 4 (97 ∷ [])) ∷ turns.Bytes 0 (33 ∷ 1 ∷ 97 ∷ []) ∷ turns.Call (calls.Read 4 2) ∷ turns.MaxData 5 100 ∷ turns.Call (calls.MaxDatagramSize None) ∷ turns.Call (calls.WriteAll 7 (97 ∷ 98 ∷ 99 ∷ 100 ∷ 101 ∷ [])) ∷ turns.PeerUni ∷ turns.Call (calls.OpenBi (Some 16)) ∷ turns.PeerUni ∷ turns.Call (calls.StopRecv 4 0) ∷ turns.PeerUni ∷ turns.Call (calls.EndSession (Some 12)) ∷ turns.End 1 ∷ turns.Bytes 3 (7 ∷ 2 ∷ 97 ∷ 98 ∷ []) ∷ turns.Call (calls.ResetSend 4 0) ∷ turns.End 15 ∷ turns.Call (calls.StopRecv 4 300) ∷ turns.Call (calls.ReceiveDatagram (Some 4)) ∷ turns.PeerBi ∷ turns.Bytes 5 (109 ∷ 111 ∷ 114 ∷ 101 ∷ []) ∷ turns.PeerBi ∷ turns.Call (calls.PollOpening 7) ∷ turns.Call (calls.ReceiveDatagram None) ∷ turns.PeerBi ∷ turns.MaxUni 11 ∷ turns.Call (calls.MaxDatagramSize None) ∷ turns.Call (calls.EndSession None) ∷ turns.Call (calls.AcceptUni None) ∷ turns.End 17 ∷ turns.PeerBi ∷ turns.Loss losses.TimedOut ∷ turns.Call (calls.Read 4 3) ∷ []) ≡ record { answers = (answer replies.Pending (actions.Dial (addresses.V4 1 443) (104 ∷ []) ∷ []) ∷ answer replies.Done (actions.Opened 2 ∷ actions.Send 2 (0 ∷ 4 ∷ 22 ∷ 1 ∷ 0 ∷ 7 ∷ 0 ∷ 8 ∷ 1 ∷ 51 ∷ 1 ∷ 171 ∷ 96 ∷ 55 ∷ 66 ∷ 1 ∷ 192 ∷ 0 ∷ 0 ∷ 0 ∷ 198 ∷ 113 ∷ 112 ∷ 106 ∷ 4 ∷ []) ∷ []) ∷ answer replies.Done ([]) ∷ answer replies.Done ([]) ∷ answer replies.Pending (actions.Opened 0 ∷ actions.Send 0 (1 ∷ 64 ∷ 80 ∷ 0 ∷ 0 ∷ 39 ∷ 3 ∷ 58 ∷ 97 ∷ 117 ∷ 116 ∷ 104 ∷ 111 ∷ 114 ∷ 105 ∷ 116 ∷ 121 ∷ 1 ∷ 104 ∷ 39 ∷ 0 ∷ 58 ∷ 109 ∷ 101 ∷ 116 ∷ 104 ∷ 111 ∷ 100 ∷ 7 ∷ 67 ∷ 79 ∷ 78 ∷ 78 ∷ 69 ∷ 67 ∷ 84 ∷ 37 ∷ 58 ∷ 112 ∷ 97 ∷ 116 ∷ 104 ∷ 1 ∷ 47 ∷ 39 ∷ 2 ∷ 58 ∷ 112 ∷ 114 ∷ 111 ∷ 116 ∷ 111 ∷ 99 ∷ 111 ∷ 108 ∷ 12 ∷ 119 ∷ 101 ∷ 98 ∷ 116 ∷ 114 ∷ 97 ∷ 110 ∷ 115 ∷ 112 ∷ 111 ∷ 114 ∷ 116 ∷ 39 ∷ 0 ∷ 58 ∷ 115 ∷ 99 ∷ 104 ∷ 101 ∷ 109 ∷ 101 ∷ 5 ∷ 104 ∷ 116 ∷ 116 ∷ 112 ∷ 115 ∷ []) ∷ []) ∷ answer replies.Done ([]) ∷ answer (replies.Session 0) ([]) ∷ answer replies.Done ([]) ∷ answer replies.NoStream ([]) ∷ answer replies.NoStream ([]) ∷ answer (replies.DatagramFailed datagrams.Disabled) ([]) ∷ answer replies.Done ([]) ∷ answer replies.NoStream ([]) ∷ answer (replies.Opening 4) (actions.Opened 4 ∷ []) ∷ answer replies.Done ([]) ∷ answer replies.NoSession ([]) ∷ answer replies.NoStream ([]) ∷ answer (replies.BiReady 4) (actions.Send 4 (64 ∷ 65 ∷ 0 ∷ []) ∷ []) ∷ answer replies.Done ([]) ∷ answer replies.Pending (actions.Finish 4 ∷ []) ∷ answer replies.NoSession ([]) ∷ answer replies.Done ([]) ∷ answer replies.Done (actions.ResetOut 4 300 ∷ []) ∷ answer replies.NoSession ([]) ∷ answer replies.Done ([]) ∷ answer replies.Finished ([]) ∷ answer replies.Done ([]) ∷ answer replies.Done ([]) ∷ answer (replies.WriteFailed writes.Closed) ([]) ∷ answer replies.Done ([]) ∷ answer (replies.Read (Some (114 ∷ 101 ∷ []))) ([]) ∷ answer replies.Done ([]) ∷ answer (replies.Size None) ([]) ∷ answer replies.NoStream ([]) ∷ answer replies.Done ([]) ∷ answer replies.NoSession ([]) ∷ answer replies.Done ([]) ∷ answer replies.Done (actions.StopOut 4 0 ∷ []) ∷ answer replies.Done ([]) ∷ answer replies.NoSession ([]) ∷ answer replies.Done ([]) ∷ answer replies.Done ([]) ∷ answer replies.ClosedStream ([]) ∷ answer replies.Done ([]) ∷ answer replies.NoStream ([]) ∷ answer replies.NoSession ([]) ∷ answer replies.Done ([]) ∷ answer replies.Done ([]) ∷ answer replies.Done ([]) ∷ answer replies.NoStream ([]) ∷ answer (replies.Datagram (121 ∷ 111 ∷ [])) ([]) ∷ answer replies.Done ([]) ∷ answer replies.Done ([]) ∷ answer (replies.Size None) ([]) ∷ answer replies.Done (actions.Finish 0 ∷ actions.StopOut 5 386759528 ∷ actions.ResetOut 5 386759528 ∷ []) ∷ answer (replies.Failed errors.LocallyClosed) ([]) ∷ answer replies.Done ([]) ∷ answer replies.Done ([]) ∷ answer replies.Done ([]) ∷ answer replies.NoStream ([]) ∷ []); is_all = true }
unfolding computed parsed
emit_91 = refl

pub emit_92 : run Client (turns.Call (calls.Connect ((104 ∷ 116 ∷ 116 ∷ 112 ∷ 115 ∷ 58 ∷ 47 ∷ 47 ∷ 104 ∷ []), ([])) (lookups.Found (addresses.V4 1 443)) outcomes.Proceed) ∷ turns.Connected 9 9 1000 facts.Disabled ∷ turns.PeerUni ∷ turns.Bytes 3 (0 ∷ 4 ∷ 0 ∷ []) ∷ turns.Call calls.Handshake ∷ turns.Bytes 0 (1 ∷ 15 ∷ 0 ∷ 0 ∷ 39 ∷ 0 ∷ 58 ∷ 115 ∷ 116 ∷ 97 ∷ 116 ∷ 117 ∷ 115 ∷ 3 ∷ 50 ∷ 48 ∷ 48 ∷ []) ∷ turns.Call calls.Handshake ∷ turns.PeerUni ∷ turns.Loss (losses.ApplicationClosed (record { code = 9; reason = (255 ∷ []) })) ∷ turns.Call (calls.ReceiveDatagram (Some 12)) ∷ turns.Call (calls.AcceptUni None) ∷ turns.Call (calls.ReadExact 2 1) ∷ turns.Call (calls.AcceptBi (Some 4)) ∷ turns.Call calls.Closed ∷ turns.Call (calls.AcceptBi None) ∷ turns.Call (calls.WriteAll 7 ([])) ∷ turns.Call (calls.PollOpening 0) ∷ turns.Call (calls.OpenUni (Some 0)) ∷ turns.Call (calls.Read 7 0) ∷ turns.Call (calls.OpenUni None) ∷ turns.Call (calls.ReceiveDatagram None) ∷ turns.Call (calls.AcceptUni (Some 8)) ∷ turns.Call (calls.OpenBi None) ∷ turns.Call (calls.AcceptUni None) ∷ turns.Call (calls.OpenUni (Some 0)) ∷ turns.Call (calls.WriteAll 7 (97 ∷ 98 ∷ 99 ∷ 100 ∷ 101 ∷ [])) ∷ turns.Call (calls.PollOpening 7) ∷ turns.Call (calls.EndSession None) ∷ turns.Call (calls.SetPriority 7 (negsuc 4)) ∷ turns.Call (calls.OpenUni None) ∷ turns.Call (calls.Read 7 2) ∷ turns.Call (calls.AcceptBi (Some 12)) ∷ turns.Call (calls.AcceptUni None) ∷ turns.Call (calls.AcceptBi (Some 0)) ∷ turns.Call (calls.PollOpening 7) ∷ turns.Call (calls.Read 7 0) ∷ turns.Call (calls.WriteAll 11 (97 ∷ 98 ∷ 99 ∷ 100 ∷ 101 ∷ [])) ∷ turns.Call (calls.Write 7 (97 ∷ [])) ∷ turns.Call (calls.Finish 7) ∷ turns.Call (calls.AcceptBi None) ∷ []) ≡ record { answers = (answer replies.Pending (actions.Dial (addresses.V4 1 443) (104 ∷ []) ∷ []) ∷ answer replies.Done (actions.Opened 2 ∷ actions.Send 2 (0 ∷ 4 ∷ 22 ∷ 1 ∷ 0 ∷ 7 ∷ 0 ∷ 8 ∷ 1 ∷ 51 ∷ 1 ∷ 171 ∷ 96 ∷ 55 ∷ 66 ∷ 1 ∷ 192 ∷ 0 ∷ 0 ∷ 0 ∷ 198 ∷ 113 ∷ 112 ∷ 106 ∷ 4 ∷ []) ∷ []) ∷ answer replies.Done ([]) ∷ answer replies.Done ([]) ∷ answer replies.Pending (actions.Opened 0 ∷ actions.Send 0 (1 ∷ 64 ∷ 80 ∷ 0 ∷ 0 ∷ 39 ∷ 3 ∷ 58 ∷ 97 ∷ 117 ∷ 116 ∷ 104 ∷ 111 ∷ 114 ∷ 105 ∷ 116 ∷ 121 ∷ 1 ∷ 104 ∷ 39 ∷ 0 ∷ 58 ∷ 109 ∷ 101 ∷ 116 ∷ 104 ∷ 111 ∷ 100 ∷ 7 ∷ 67 ∷ 79 ∷ 78 ∷ 78 ∷ 69 ∷ 67 ∷ 84 ∷ 37 ∷ 58 ∷ 112 ∷ 97 ∷ 116 ∷ 104 ∷ 1 ∷ 47 ∷ 39 ∷ 2 ∷ 58 ∷ 112 ∷ 114 ∷ 111 ∷ 116 ∷ 111 ∷ 99 ∷ 111 ∷ 108 ∷ 12 ∷ 119 ∷ 101 ∷ 98 ∷ 116 ∷ 114 ∷ 97 ∷ 110 ∷ 115 ∷ 112 ∷ 111 ∷ 114 ∷ 116 ∷ 39 ∷ 0 ∷ 58 ∷ 115 ∷ 99 ∷ 104 ∷ 101 ∷ 109 ∷ 101 ∷ 5 ∷ 104 ∷ 116 ∷ 116 ∷ 112 ∷ 115 ∷ []) ∷ []) ∷ answer replies.Done ([]) ∷ answer (replies.Session 0) ([]) ∷ answer replies.Done ([]) ∷ answer replies.Done ([]) ∷ answer replies.NoSession ([]) ∷ answer (replies.Failed (errors.ApplicationClosed (record { code = 9; reason = (255 ∷ []) }))) ([]) ∷ answer replies.NoStream ([]) ∷ answer replies.NoSession ([]) ∷ answer (replies.Closed (errors.ApplicationClosed (record { code = 9; reason = (255 ∷ []) }))) ([]) ∷ answer (replies.Failed (errors.ApplicationClosed (record { code = 9; reason = (255 ∷ []) }))) ([]) ∷ answer replies.NoStream ([]) ∷ answer replies.NoStream ([]) ∷ answer (replies.Failed (errors.ApplicationClosed (record { code = 9; reason = (255 ∷ []) }))) ([]) ∷ answer replies.NoStream ([]) ∷ answer (replies.Failed (errors.ApplicationClosed (record { code = 9; reason = (255 ∷ []) }))) ([]) ∷ answer (replies.Failed (errors.ApplicationClosed (record { code = 9; reason = (255 ∷ []) }))) ([]) ∷ answer replies.NoSession ([]) ∷ answer (replies.Failed (errors.ApplicationClosed (record { code = 9; reason = (255 ∷ []) }))) ([]) ∷ answer (replies.Failed (errors.ApplicationClosed (record { code = 9; reason = (255 ∷ []) }))) ([]) ∷ answer (replies.Failed (errors.ApplicationClosed (record { code = 9; reason = (255 ∷ []) }))) ([]) ∷ answer replies.NoStream ([]) ∷ answer replies.NoStream ([]) ∷ answer replies.Done ([]) ∷ answer replies.NoStream ([]) ∷ answer (replies.Failed (errors.ApplicationClosed (record { code = 9; reason = (255 ∷ []) }))) ([]) ∷ answer replies.NoStream ([]) ∷ answer replies.NoSession ([]) ∷ answer (replies.Failed (errors.ApplicationClosed (record { code = 9; reason = (255 ∷ []) }))) ([]) ∷ answer (replies.Failed (errors.ApplicationClosed (record { code = 9; reason = (255 ∷ []) }))) ([]) ∷ answer replies.NoStream ([]) ∷ answer replies.NoStream ([]) ∷ answer replies.NoStream ([]) ∷ answer replies.NoStream ([]) ∷ answer replies.NoStream ([]) ∷ answer (replies.Failed (errors.ApplicationClosed (record { code = 9; reason = (255 ∷ []) }))) ([]) ∷ []); is_all = true }
unfolding computed parsed
emit_92 = refl

pub emit_93 : run Client (turns.Call (calls.Connect ((104 ∷ 116 ∷ 116 ∷ 112 ∷ 115 ∷ 58 ∷ 47 ∷ 47 ∷ 104 ∷ []), ([])) (lookups.Found (addresses.V4 1 443)) outcomes.Proceed) ∷ turns.Connected 9 9 1000 (facts.Limit 1200) ∷ turns.PeerUni ∷ turns.Bytes 3 (0 ∷ 4 ∷ 0 ∷ []) ∷ turns.Call calls.Handshake ∷ turns.Bytes 0 (1 ∷ 15 ∷ 0 ∷ 0 ∷ 39 ∷ 0 ∷ 58 ∷ 115 ∷ 116 ∷ 97 ∷ 116 ∷ 117 ∷ 115 ∷ 3 ∷ 50 ∷ 48 ∷ 52 ∷ []) ∷ turns.Call calls.Handshake ∷ turns.Bytes 3 (140 ∷ []) ∷ turns.Bytes 3 (158 ∷ 196 ∷ 132 ∷ []) ∷ turns.Bytes 0 (0 ∷ 7 ∷ 104 ∷ 67 ∷ 4 ∷ 0 ∷ 0 ∷ 0 ∷ 0 ∷ []) ∷ turns.Datagram (1 ∷ 97 ∷ []) ∷ turns.Call (calls.Stopped 3) ∷ turns.PeerUni ∷ turns.Call (calls.WriteAll 0 (97 ∷ [])) ∷ turns.Call (calls.OpenBi (Some 16)) ∷ turns.Call (calls.ReceiveDatagram (Some 8)) ∷ turns.Call (calls.Read 7 9) ∷ turns.Datagram (0 ∷ 104 ∷ 105 ∷ []) ∷ turns.Bytes 7 (0 ∷ 4 ∷ 0 ∷ 0 ∷ 0 ∷ []) ∷ turns.PeerBi ∷ turns.PeerBi ∷ turns.Bytes 1 (64 ∷ 65 ∷ 0 ∷ []) ∷ turns.Bytes 1 (0 ∷ []) ∷ turns.Call (calls.ReadExact 3 0) ∷ turns.Bytes 3 ([]) ∷ turns.PeerBi ∷ turns.Call (calls.ReceiveDatagram None) ∷ turns.Call (calls.PollOpening 3) ∷ turns.Bytes 1 ([]) ∷ turns.Datagram (2 ∷ 98 ∷ []) ∷ turns.PeerUni ∷ turns.PeerUni ∷ turns.Call (calls.ReceiveDatagram None) ∷ turns.Call (calls.AcceptBi (Some 16)) ∷ turns.Call (calls.ReadExact 1 1) ∷ turns.Datagram (1 ∷ 97 ∷ []) ∷ turns.Bytes 5 (1 ∷ 64 ∷ 80 ∷ 0 ∷ 0 ∷ 39 ∷ 3 ∷ 58 ∷ 97 ∷ 117 ∷ 116 ∷ 104 ∷ 111 ∷ 114 ∷ 105 ∷ 116 ∷ 121 ∷ 1 ∷ 104 ∷ 39 ∷ 0 ∷ 58 ∷ 109 ∷ 101 ∷ 116 ∷ 104 ∷ 111 ∷ 100 ∷ 7 ∷ 67 ∷ 79 ∷ 78 ∷ 78 ∷ 69 ∷ 67 ∷ 84 ∷ 37 ∷ 58 ∷ 112 ∷ 97 ∷ 116 ∷ 104 ∷ 1 ∷ 47 ∷ 39 ∷ 2 ∷ 58 ∷ 112 ∷ 114 ∷ 111 ∷ 116 ∷ 111 ∷ 99 ∷ 111 ∷ 108 ∷ 12 ∷ 119 ∷ 101 ∷ 98 ∷ 116 ∷ 114 ∷ 97 ∷ 110 ∷ 115 ∷ 112 ∷ 111 ∷ 114 ∷ 116 ∷ 39 ∷ 0 ∷ 58 ∷ 115 ∷ 99 ∷ 104 ∷ 101 ∷ 109 ∷ 101 ∷ 5 ∷ 104 ∷ 116 ∷ 116 ∷ 112 ∷ 115 ∷ []) ∷ turns.Call (calls.OpenUni None) ∷ turns.Call (calls.AcceptBi None) ∷ turns.PeerBi ∷ []) ≡ record { answers = (answer replies.Pending (actions.Dial (addresses.V4 1 443) (104 ∷ []) ∷ []) ∷ answer replies.Done (actions.Opened 2 ∷ actions.Send 2 (0 ∷ 4 ∷ 22 ∷ 1 ∷ 0 ∷ 7 ∷ 0 ∷ 8 ∷ 1 ∷ 51 ∷ 1 ∷ 171 ∷ 96 ∷ 55 ∷ 66 ∷ 1 ∷ 192 ∷ 0 ∷ 0 ∷ 0 ∷ 198 ∷ 113 ∷ 112 ∷ 106 ∷ 4 ∷ []) ∷ []) ∷ answer replies.Done ([]) ∷ answer replies.Done ([]) ∷ answer replies.Pending (actions.Opened 0 ∷ actions.Send 0 (1 ∷ 64 ∷ 80 ∷ 0 ∷ 0 ∷ 39 ∷ 3 ∷ 58 ∷ 97 ∷ 117 ∷ 116 ∷ 104 ∷ 111 ∷ 114 ∷ 105 ∷ 116 ∷ 121 ∷ 1 ∷ 104 ∷ 39 ∷ 0 ∷ 58 ∷ 109 ∷ 101 ∷ 116 ∷ 104 ∷ 111 ∷ 100 ∷ 7 ∷ 67 ∷ 79 ∷ 78 ∷ 78 ∷ 69 ∷ 67 ∷ 84 ∷ 37 ∷ 58 ∷ 112 ∷ 97 ∷ 116 ∷ 104 ∷ 1 ∷ 47 ∷ 39 ∷ 2 ∷ 58 ∷ 112 ∷ 114 ∷ 111 ∷ 116 ∷ 111 ∷ 99 ∷ 111 ∷ 108 ∷ 12 ∷ 119 ∷ 101 ∷ 98 ∷ 116 ∷ 114 ∷ 97 ∷ 110 ∷ 115 ∷ 112 ∷ 111 ∷ 114 ∷ 116 ∷ 39 ∷ 0 ∷ 58 ∷ 115 ∷ 99 ∷ 104 ∷ 101 ∷ 109 ∷ 101 ∷ 5 ∷ 104 ∷ 116 ∷ 116 ∷ 112 ∷ 115 ∷ []) ∷ []) ∷ answer replies.Done ([]) ∷ answer (replies.Session 0) ([]) ∷ answer replies.Done ([]) ∷ answer replies.Done ([]) ∷ answer replies.Done (actions.ResetOut 0 256 ∷ []) ∷ answer replies.Done ([]) ∷ answer replies.NoStream ([]) ∷ answer replies.Done ([]) ∷ answer replies.NoStream ([]) ∷ answer replies.NoSession ([]) ∷ answer replies.NoSession ([]) ∷ answer replies.NoStream ([]) ∷ answer replies.Done ([]) ∷ answer replies.Done (actions.Close 259 ([]) ∷ []) ∷ answer replies.Done ([]) ∷ answer replies.Done ([]) ∷ answer replies.Done ([]) ∷ answer replies.Done ([]) ∷ answer replies.NoStream ([]) ∷ answer replies.Done ([]) ∷ answer replies.Done ([]) ∷ answer (replies.Failed (errors.ApplicationClosed (record { code = 0; reason = ([]) }))) ([]) ∷ answer replies.NoStream ([]) ∷ answer replies.Done ([]) ∷ answer replies.Done ([]) ∷ answer replies.Done ([]) ∷ answer replies.Done ([]) ∷ answer (replies.Failed (errors.ApplicationClosed (record { code = 0; reason = ([]) }))) ([]) ∷ answer replies.NoSession ([]) ∷ answer replies.NoStream ([]) ∷ answer replies.Done ([]) ∷ answer replies.Done ([]) ∷ answer (replies.Failed (errors.ApplicationClosed (record { code = 0; reason = ([]) }))) ([]) ∷ answer (replies.Failed (errors.ApplicationClosed (record { code = 0; reason = ([]) }))) ([]) ∷ answer replies.Done ([]) ∷ []); is_all = true }
unfolding computed parsed
emit_93 = refl

pub emit_94 : run Client (turns.Call (calls.Connect ((104 ∷ 116 ∷ 116 ∷ 112 ∷ 115 ∷ 58 ∷ 47 ∷ 47 ∷ 91 ∷ 58 ∷ 58 ∷ 49 ∷ 93 ∷ 58 ∷ 57 ∷ 47 ∷ 97 ∷ 47 ∷ 46 ∷ 46 ∷ 47 ∷ 98 ∷ []), ([])) (lookups.Found (addresses.V4 2130706433 443)) outcomes.Proceed) ∷ turns.Call (calls.ReceiveDatagram (Some 16)) ∷ turns.Connected 9 2 1000 (facts.Limit 1) ∷ turns.Call (calls.ReceiveDatagram None) ∷ turns.Datagram (1 ∷ 97 ∷ []) ∷ turns.Datagram (0 ∷ 104 ∷ 105 ∷ []) ∷ turns.PeerBi ∷ turns.Call (calls.Stopped 7) ∷ turns.PeerUni ∷ turns.Bytes 3 (64 ∷ 84 ∷ 4 ∷ 97 ∷ []) ∷ turns.Datagram (0 ∷ 121 ∷ 111 ∷ []) ∷ turns.Call (calls.ReadExact 7 0) ∷ turns.Call (calls.Read 7 3) ∷ turns.Call (calls.AcceptBi None) ∷ turns.PeerUni ∷ turns.Call (calls.PollOpening 1) ∷ turns.Bytes 3 (98 ∷ 99 ∷ []) ∷ turns.Call (calls.ReceiveDatagram (Some 12)) ∷ turns.Bytes 7 (64 ∷ 84 ∷ 0 ∷ 104 ∷ []) ∷ turns.Bytes 7 (101 ∷ 108 ∷ 108 ∷ []) ∷ turns.Datagram (0 ∷ 104 ∷ 105 ∷ []) ∷ turns.Call (calls.Read 7 1) ∷ turns.Call calls.Handshake ∷ turns.Bytes 3 (122 ∷ 122 ∷ []) ∷ turns.Call (calls.ReceiveDatagram (Some 8)) ∷ turns.Call (calls.Read 1 1) ∷ turns.PeerUni ∷ turns.Call calls.Handshake ∷ turns.PeerBi ∷ turns.PeerUni ∷ turns.Reset 15 0 ∷ turns.PeerBi ∷ turns.Call (calls.ReceiveDatagram None) ∷ turns.PeerUni ∷ turns.Call (calls.SendDatagram ([]) None) ∷ turns.Call (calls.WriteAll 5 (97 ∷ [])) ∷ turns.Bytes 7 (111 ∷ []) ∷ turns.Datagram (0 ∷ 121 ∷ 111 ∷ []) ∷ turns.Bytes 1 (64 ∷ 65 ∷ 0 ∷ 100 ∷ 97 ∷ 116 ∷ 97 ∷ []) ∷ turns.Datagram (1 ∷ 97 ∷ []) ∷ turns.Datagram (1 ∷ 97 ∷ []) ∷ turns.Call (calls.AcceptUni (Some 4)) ∷ turns.Datagram (1 ∷ 97 ∷ []) ∷ turns.Call (calls.SetPriority 15 (pos 0)) ∷ turns.Call (calls.Accept ((([]), ([])) ∷ [])) ∷ turns.Bytes 19 (64 ∷ 84 ∷ []) ∷ turns.Bytes 19 (122 ∷ 122 ∷ []) ∷ turns.Bytes 3 (122 ∷ 122 ∷ []) ∷ turns.DatagramLimit (facts.Limit 3) ∷ turns.Datagram (0 ∷ 121 ∷ 111 ∷ []) ∷ turns.Bytes 7 (122 ∷ []) ∷ turns.Call (calls.WriteAll 5 (97 ∷ [])) ∷ turns.Datagram (1 ∷ 97 ∷ []) ∷ turns.Bytes 11 (64 ∷ 84 ∷ 0 ∷ 104 ∷ 101 ∷ 108 ∷ 108 ∷ 111 ∷ []) ∷ turns.PeerUni ∷ turns.Call (calls.AcceptUni (Some 4)) ∷ turns.Bytes 23 ([]) ∷ turns.Call (calls.AcceptBi (Some 16)) ∷ turns.Call (calls.ReadExact 5 9) ∷ turns.Datagram (0 ∷ 121 ∷ 111 ∷ []) ∷ turns.Bytes 7 (122 ∷ []) ∷ []) ≡ record { answers = (answer replies.Pending (actions.Dial (addresses.V6 1 9) (58 ∷ 58 ∷ 49 ∷ []) ∷ []) ∷ answer replies.NoSession ([]) ∷ answer replies.Done (actions.Opened 2 ∷ actions.Send 2 (0 ∷ 4 ∷ 22 ∷ 1 ∷ 0 ∷ 7 ∷ 0 ∷ 8 ∷ 1 ∷ 51 ∷ 1 ∷ 171 ∷ 96 ∷ 55 ∷ 66 ∷ 1 ∷ 192 ∷ 0 ∷ 0 ∷ 0 ∷ 198 ∷ 113 ∷ 112 ∷ 106 ∷ 4 ∷ []) ∷ []) ∷ answer replies.NoSession ([]) ∷ answer replies.Done ([]) ∷ answer replies.Done ([]) ∷ answer replies.Done ([]) ∷ answer replies.NoStream ([]) ∷ answer replies.Done ([]) ∷ answer replies.Done ([]) ∷ answer replies.Done ([]) ∷ answer replies.NoStream ([]) ∷ answer replies.NoStream ([]) ∷ answer replies.NoSession ([]) ∷ answer replies.Done ([]) ∷ answer replies.NoSession ([]) ∷ answer replies.Done ([]) ∷ answer replies.NoSession ([]) ∷ answer replies.Done ([]) ∷ answer replies.Done ([]) ∷ answer replies.Done ([]) ∷ answer replies.NoStream ([]) ∷ answer replies.Pending ([]) ∷ answer replies.Done ([]) ∷ answer replies.NoSession ([]) ∷ answer replies.NoStream ([]) ∷ answer replies.Done ([]) ∷ answer replies.Pending ([]) ∷ answer replies.Done ([]) ∷ answer replies.Done ([]) ∷ answer replies.Done ([]) ∷ answer replies.Done ([]) ∷ answer replies.NoSession ([]) ∷ answer replies.Done ([]) ∷ answer replies.NoSession ([]) ∷ answer replies.NoStream ([]) ∷ answer replies.Done ([]) ∷ answer replies.Done ([]) ∷ answer replies.Done ([]) ∷ answer replies.Done ([]) ∷ answer replies.Done ([]) ∷ answer replies.NoSession ([]) ∷ answer replies.Done ([]) ∷ answer replies.NoStream ([]) ∷ []); is_all = false }
unfolding computed parsed
emit_94 = refl

pub emit_96 : run Client (turns.Call (calls.Connect ((104 ∷ 116 ∷ 116 ∷ 112 ∷ 115 ∷ 58 ∷ 47 ∷ 47 ∷ 104 ∷ []), ([])) (lookups.Found (addresses.V4 1 443)) outcomes.Proceed) ∷ turns.Connected 9 9 1000 (facts.Limit 5) ∷ turns.PeerUni ∷ turns.Bytes 3 (0 ∷ 4 ∷ 0 ∷ []) ∷ turns.Call calls.Handshake ∷ turns.Bytes 0 (1 ∷ 15 ∷ 0 ∷ 0 ∷ 39 ∷ 0 ∷ 58 ∷ 115 ∷ 116 ∷ 97 ∷ 116 ∷ 117 ∷ 115 ∷ 3 ∷ 50 ∷ 48 ∷ 48 ∷ []) ∷ turns.Call calls.Handshake ∷ turns.Bytes 3 (15 ∷ []) ∷ turns.Call (calls.SessionId (Some 0)) ∷ turns.Datagram (0 ∷ 104 ∷ 105 ∷ []) ∷ turns.Call (calls.PollOpening 7) ∷ turns.Call (calls.OpenBi (Some 12)) ∷ turns.Bytes 3 ([]) ∷ turns.Call (calls.ReceiveDatagram (Some 8)) ∷ turns.Bytes 3 (0 ∷ []) ∷ turns.Datagram (1 ∷ 97 ∷ []) ∷ turns.Call (calls.OpenUni None) ∷ turns.Call (calls.PollOpening 6) ∷ turns.Call (calls.OpenUni None) ∷ turns.Datagram (0 ∷ 121 ∷ 111 ∷ []) ∷ []) ≡ record { answers = (answer replies.Pending (actions.Dial (addresses.V4 1 443) (104 ∷ []) ∷ []) ∷ answer replies.Done (actions.Opened 2 ∷ actions.Send 2 (0 ∷ 4 ∷ 22 ∷ 1 ∷ 0 ∷ 7 ∷ 0 ∷ 8 ∷ 1 ∷ 51 ∷ 1 ∷ 171 ∷ 96 ∷ 55 ∷ 66 ∷ 1 ∷ 192 ∷ 0 ∷ 0 ∷ 0 ∷ 198 ∷ 113 ∷ 112 ∷ 106 ∷ 4 ∷ []) ∷ []) ∷ answer replies.Done ([]) ∷ answer replies.Done ([]) ∷ answer replies.Pending (actions.Opened 0 ∷ actions.Send 0 (1 ∷ 64 ∷ 80 ∷ 0 ∷ 0 ∷ 39 ∷ 3 ∷ 58 ∷ 97 ∷ 117 ∷ 116 ∷ 104 ∷ 111 ∷ 114 ∷ 105 ∷ 116 ∷ 121 ∷ 1 ∷ 104 ∷ 39 ∷ 0 ∷ 58 ∷ 109 ∷ 101 ∷ 116 ∷ 104 ∷ 111 ∷ 100 ∷ 7 ∷ 67 ∷ 79 ∷ 78 ∷ 78 ∷ 69 ∷ 67 ∷ 84 ∷ 37 ∷ 58 ∷ 112 ∷ 97 ∷ 116 ∷ 104 ∷ 1 ∷ 47 ∷ 39 ∷ 2 ∷ 58 ∷ 112 ∷ 114 ∷ 111 ∷ 116 ∷ 111 ∷ 99 ∷ 111 ∷ 108 ∷ 12 ∷ 119 ∷ 101 ∷ 98 ∷ 116 ∷ 114 ∷ 97 ∷ 110 ∷ 115 ∷ 112 ∷ 111 ∷ 114 ∷ 116 ∷ 39 ∷ 0 ∷ 58 ∷ 115 ∷ 99 ∷ 104 ∷ 101 ∷ 109 ∷ 101 ∷ 5 ∷ 104 ∷ 116 ∷ 116 ∷ 112 ∷ 115 ∷ []) ∷ []) ∷ answer replies.Done ([]) ∷ answer (replies.Session 0) ([]) ∷ answer replies.Done ([]) ∷ answer (replies.Id 0) ([]) ∷ answer replies.Done ([]) ∷ answer replies.NoStream ([]) ∷ answer replies.NoSession ([]) ∷ answer replies.Done ([]) ∷ answer replies.NoSession ([]) ∷ answer replies.Done ([]) ∷ answer replies.Done ([]) ∷ answer (replies.Opening 6) (actions.Opened 6 ∷ []) ∷ answer (replies.SendReady 6) (actions.Send 6 (64 ∷ 84 ∷ 0 ∷ []) ∷ []) ∷ answer (replies.Opening 10) (actions.Opened 10 ∷ []) ∷ answer replies.Done ([]) ∷ []); is_all = true }
unfolding computed parsed
emit_96 = refl

pub emit_97 : run Client (turns.Call (calls.Connect ((104 ∷ 116 ∷ 116 ∷ 112 ∷ 115 ∷ 58 ∷ 47 ∷ 47 ∷ 104 ∷ []), ([])) (lookups.Found (addresses.V4 1 443)) outcomes.Proceed) ∷ turns.Connected 9 9 1000 facts.Disabled ∷ turns.PeerUni ∷ turns.Bytes 3 (0 ∷ 4 ∷ 0 ∷ []) ∷ turns.Call calls.Handshake ∷ turns.Bytes 0 (1 ∷ 15 ∷ 0 ∷ 0 ∷ 39 ∷ 0 ∷ 58 ∷ 115 ∷ 116 ∷ 97 ∷ 116 ∷ 117 ∷ 115 ∷ 3 ∷ 50 ∷ 48 ∷ 48 ∷ []) ∷ turns.Call calls.Handshake ∷ turns.Call (calls.ReceiveDatagram None) ∷ []) ≡ record { answers = (answer replies.Pending (actions.Dial (addresses.V4 1 443) (104 ∷ []) ∷ []) ∷ answer replies.Done (actions.Opened 2 ∷ actions.Send 2 (0 ∷ 4 ∷ 22 ∷ 1 ∷ 0 ∷ 7 ∷ 0 ∷ 8 ∷ 1 ∷ 51 ∷ 1 ∷ 171 ∷ 96 ∷ 55 ∷ 66 ∷ 1 ∷ 192 ∷ 0 ∷ 0 ∷ 0 ∷ 198 ∷ 113 ∷ 112 ∷ 106 ∷ 4 ∷ []) ∷ []) ∷ answer replies.Done ([]) ∷ answer replies.Done ([]) ∷ answer replies.Pending (actions.Opened 0 ∷ actions.Send 0 (1 ∷ 64 ∷ 80 ∷ 0 ∷ 0 ∷ 39 ∷ 3 ∷ 58 ∷ 97 ∷ 117 ∷ 116 ∷ 104 ∷ 111 ∷ 114 ∷ 105 ∷ 116 ∷ 121 ∷ 1 ∷ 104 ∷ 39 ∷ 0 ∷ 58 ∷ 109 ∷ 101 ∷ 116 ∷ 104 ∷ 111 ∷ 100 ∷ 7 ∷ 67 ∷ 79 ∷ 78 ∷ 78 ∷ 69 ∷ 67 ∷ 84 ∷ 37 ∷ 58 ∷ 112 ∷ 97 ∷ 116 ∷ 104 ∷ 1 ∷ 47 ∷ 39 ∷ 2 ∷ 58 ∷ 112 ∷ 114 ∷ 111 ∷ 116 ∷ 111 ∷ 99 ∷ 111 ∷ 108 ∷ 12 ∷ 119 ∷ 101 ∷ 98 ∷ 116 ∷ 114 ∷ 97 ∷ 110 ∷ 115 ∷ 112 ∷ 111 ∷ 114 ∷ 116 ∷ 39 ∷ 0 ∷ 58 ∷ 115 ∷ 99 ∷ 104 ∷ 101 ∷ 109 ∷ 101 ∷ 5 ∷ 104 ∷ 116 ∷ 116 ∷ 112 ∷ 115 ∷ []) ∷ []) ∷ answer replies.Done ([]) ∷ answer (replies.Session 0) ([]) ∷ answer replies.Pending ([]) ∷ []); is_all = true }
unfolding computed parsed
emit_97 = refl

pub emit_99 : run Client (turns.Call (calls.Connect ((104 ∷ 116 ∷ 116 ∷ 112 ∷ 115 ∷ 58 ∷ 47 ∷ 47 ∷ 104 ∷ []), ([])) (lookups.Found (addresses.V4 1 443)) outcomes.Proceed) ∷ turns.Connected 9 9 1000 (facts.Limit 5) ∷ turns.PeerUni ∷ turns.Bytes 3 (0 ∷ 4 ∷ 0 ∷ []) ∷ turns.Call calls.Handshake ∷ turns.Bytes 0 (1 ∷ 15 ∷ 0 ∷ 0 ∷ 39 ∷ 0 ∷ 58 ∷ 115 ∷ 116 ∷ 97 ∷ 116 ∷ 117 ∷ 115 ∷ 3 ∷ 50 ∷ 48 ∷ 48 ∷ []) ∷ turns.Call calls.Handshake ∷ turns.Call (calls.OpenBi (Some 8)) ∷ []) ≡ record { answers = (answer replies.Pending (actions.Dial (addresses.V4 1 443) (104 ∷ []) ∷ []) ∷ answer replies.Done (actions.Opened 2 ∷ actions.Send 2 (0 ∷ 4 ∷ 22 ∷ 1 ∷ 0 ∷ 7 ∷ 0 ∷ 8 ∷ 1 ∷ 51 ∷ 1 ∷ 171 ∷ 96 ∷ 55 ∷ 66 ∷ 1 ∷ 192 ∷ 0 ∷ 0 ∷ 0 ∷ 198 ∷ 113 ∷ 112 ∷ 106 ∷ 4 ∷ []) ∷ []) ∷ answer replies.Done ([]) ∷ answer replies.Done ([]) ∷ answer replies.Pending (actions.Opened 0 ∷ actions.Send 0 (1 ∷ 64 ∷ 80 ∷ 0 ∷ 0 ∷ 39 ∷ 3 ∷ 58 ∷ 97 ∷ 117 ∷ 116 ∷ 104 ∷ 111 ∷ 114 ∷ 105 ∷ 116 ∷ 121 ∷ 1 ∷ 104 ∷ 39 ∷ 0 ∷ 58 ∷ 109 ∷ 101 ∷ 116 ∷ 104 ∷ 111 ∷ 100 ∷ 7 ∷ 67 ∷ 79 ∷ 78 ∷ 78 ∷ 69 ∷ 67 ∷ 84 ∷ 37 ∷ 58 ∷ 112 ∷ 97 ∷ 116 ∷ 104 ∷ 1 ∷ 47 ∷ 39 ∷ 2 ∷ 58 ∷ 112 ∷ 114 ∷ 111 ∷ 116 ∷ 111 ∷ 99 ∷ 111 ∷ 108 ∷ 12 ∷ 119 ∷ 101 ∷ 98 ∷ 116 ∷ 114 ∷ 97 ∷ 110 ∷ 115 ∷ 112 ∷ 111 ∷ 114 ∷ 116 ∷ 39 ∷ 0 ∷ 58 ∷ 115 ∷ 99 ∷ 104 ∷ 101 ∷ 109 ∷ 101 ∷ 5 ∷ 104 ∷ 116 ∷ 116 ∷ 112 ∷ 115 ∷ []) ∷ []) ∷ answer replies.Done ([]) ∷ answer (replies.Session 0) ([]) ∷ answer replies.NoSession ([]) ∷ []); is_all = true }
unfolding computed parsed
emit_99 = refl
