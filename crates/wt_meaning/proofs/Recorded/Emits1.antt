-- Recorded sessions: what the definitions give is what was recorded. Made by `tools/meaning lemmas`.
use Rattle.std.specs.Prelude.{[], ◌∷◌, ◌≡◌, None, Some, negsuc, pos, true}
use Rattle.std.proofs.Common.{refl}
use Rattle.wt_meaning.proofs.Recorded.{computed, parsed}
use Rattle.wt_meaning.specs.Meaning.{run}
use Rattle.wt_meaning.specs.Rows.{answer}
use Rattle.wt_wire.specs.declared.side.Side.TheVariants.{Client, Server}
use Rattle.wt_turn.specs.declared.action.Action.TheVariants as actions
use Rattle.wt_wire.specs.declared.addr.Addr.TheVariants as addresses
use Rattle.wt_turn.specs.declared.call.Call.TheVariants as calls
use Rattle.wt_turn.specs.declared.connection_error.ConnectionError.TheVariants as errors
use Rattle.wt_turn.specs.declared.datagram_fact.DatagramFact.TheVariants as facts
use Rattle.wt_wire.specs.declared.error.ErrorCode.TheVariants as h3
use Rattle.wt_wire.specs.declared.lookup.Lookup.TheVariants as lookups
use Rattle.wt_wire.specs.declared.lookup.ConnectOutcome.TheVariants as outcomes
use Rattle.wt_turn.specs.declared.loss.LossReason.TheVariants as losses
use Rattle.wt_turn.specs.declared.reply.Reply.TheVariants as replies
use Rattle.wt_turn.specs.declared.turn.Turn.TheVariants as turns

pub emit_0 : run Client (turns.Call (calls.Connect ((104 ∷ 116 ∷ 116 ∷ 112 ∷ 115 ∷ 58 ∷ 47 ∷ 47 ∷ 49 ∷ 50 ∷ 55 ∷ 46 ∷ 48 ∷ 46 ∷ 48 ∷ 46 ∷ 49 ∷ 47 ∷ []), (((58 ∷ 112 ∷ 97 ∷ 116 ∷ 104 ∷ []), (113 ∷ [])) ∷ [])) (lookups.Found (addresses.V4 2130706433 443)) outcomes.Proceed) ∷ turns.Call (calls.Write 6 (97 ∷ 98 ∷ 99 ∷ 100 ∷ 101 ∷ [])) ∷ turns.Connected 9 9 1000 (facts.Limit 0) ∷ turns.Call (calls.Close 0 (98 ∷ 121 ∷ 101 ∷ [])) ∷ turns.Call calls.Handshake ∷ turns.Call (calls.ReceiveDatagram (Some 16)) ∷ turns.Call (calls.Write 2 (97 ∷ 98 ∷ 99 ∷ 100 ∷ 101 ∷ [])) ∷ turns.MaxData 2 1030 ∷ turns.Call (calls.OpenBi (Some 12)) ∷ turns.PeerBi ∷ turns.Call calls.Handshake ∷ turns.Call calls.Handshake ∷ turns.Bytes 1 (64 ∷ 65 ∷ 0 ∷ []) ∷ turns.Call (calls.PollOpening 1) ∷ turns.MaxUni 11 ∷ turns.Call (calls.Write 1 (97 ∷ 98 ∷ 99 ∷ 100 ∷ 101 ∷ [])) ∷ turns.Call (calls.AcceptBi None) ∷ turns.Bytes 1 (109 ∷ []) ∷ turns.Call (calls.SendDatagram (97 ∷ []) None) ∷ turns.Bytes 1 (111 ∷ 114 ∷ 101 ∷ []) ∷ []) ≡ record { answers = (answer replies.Pending (actions.Dial (addresses.V4 2130706433 443) (49 ∷ 50 ∷ 55 ∷ 46 ∷ 48 ∷ 46 ∷ 48 ∷ 46 ∷ 49 ∷ []) ∷ []) ∷ answer replies.NoStream ([]) ∷ answer replies.Done (actions.Opened 2 ∷ actions.Send 2 (0 ∷ 4 ∷ 22 ∷ 1 ∷ 0 ∷ 7 ∷ 0 ∷ 8 ∷ 1 ∷ 51 ∷ 1 ∷ 171 ∷ 96 ∷ 55 ∷ 66 ∷ 1 ∷ 192 ∷ 0 ∷ 0 ∷ 0 ∷ 198 ∷ 113 ∷ 112 ∷ 106 ∷ 4 ∷ []) ∷ []) ∷ answer replies.NoSession ([]) ∷ answer replies.Pending ([]) ∷ answer replies.NoSession ([]) ∷ answer replies.NoStream ([]) ∷ answer replies.Done ([]) ∷ answer replies.NoSession ([]) ∷ answer replies.Done ([]) ∷ answer replies.Pending ([]) ∷ answer replies.Pending ([]) ∷ answer replies.Done ([]) ∷ answer replies.NoSession ([]) ∷ answer replies.Done ([]) ∷ answer replies.NoStream ([]) ∷ answer replies.NoSession ([]) ∷ answer replies.Done ([]) ∷ answer replies.NoSession ([]) ∷ answer replies.Done ([]) ∷ []); is_all = true }
unfolding computed parsed
emit_0 = refl

pub emit_101 : run Client (turns.Call (calls.Connect ((104 ∷ 116 ∷ 116 ∷ 112 ∷ 115 ∷ 58 ∷ 47 ∷ 47 ∷ 104 ∷ []), ([])) (lookups.Found (addresses.V4 1 443)) outcomes.Proceed) ∷ turns.Connected 9 9 1000 (facts.Limit 5) ∷ turns.PeerUni ∷ turns.Bytes 3 (0 ∷ 4 ∷ 0 ∷ []) ∷ turns.Call calls.Handshake ∷ turns.Bytes 0 (1 ∷ 15 ∷ 0 ∷ 0 ∷ 39 ∷ 0 ∷ 58 ∷ 115 ∷ 116 ∷ 97 ∷ 116 ∷ 117 ∷ 115 ∷ 3 ∷ 50 ∷ 48 ∷ 48 ∷ []) ∷ turns.Call calls.Handshake ∷ turns.Bytes 3 ([]) ∷ []) ≡ record { answers = (answer replies.Pending (actions.Dial (addresses.V4 1 443) (104 ∷ []) ∷ []) ∷ answer replies.Done (actions.Opened 2 ∷ actions.Send 2 (0 ∷ 4 ∷ 22 ∷ 1 ∷ 0 ∷ 7 ∷ 0 ∷ 8 ∷ 1 ∷ 51 ∷ 1 ∷ 171 ∷ 96 ∷ 55 ∷ 66 ∷ 1 ∷ 192 ∷ 0 ∷ 0 ∷ 0 ∷ 198 ∷ 113 ∷ 112 ∷ 106 ∷ 4 ∷ []) ∷ []) ∷ answer replies.Done ([]) ∷ answer replies.Done ([]) ∷ answer replies.Pending (actions.Opened 0 ∷ actions.Send 0 (1 ∷ 64 ∷ 80 ∷ 0 ∷ 0 ∷ 39 ∷ 3 ∷ 58 ∷ 97 ∷ 117 ∷ 116 ∷ 104 ∷ 111 ∷ 114 ∷ 105 ∷ 116 ∷ 121 ∷ 1 ∷ 104 ∷ 39 ∷ 0 ∷ 58 ∷ 109 ∷ 101 ∷ 116 ∷ 104 ∷ 111 ∷ 100 ∷ 7 ∷ 67 ∷ 79 ∷ 78 ∷ 78 ∷ 69 ∷ 67 ∷ 84 ∷ 37 ∷ 58 ∷ 112 ∷ 97 ∷ 116 ∷ 104 ∷ 1 ∷ 47 ∷ 39 ∷ 2 ∷ 58 ∷ 112 ∷ 114 ∷ 111 ∷ 116 ∷ 111 ∷ 99 ∷ 111 ∷ 108 ∷ 12 ∷ 119 ∷ 101 ∷ 98 ∷ 116 ∷ 114 ∷ 97 ∷ 110 ∷ 115 ∷ 112 ∷ 111 ∷ 114 ∷ 116 ∷ 39 ∷ 0 ∷ 58 ∷ 115 ∷ 99 ∷ 104 ∷ 101 ∷ 109 ∷ 101 ∷ 5 ∷ 104 ∷ 116 ∷ 116 ∷ 112 ∷ 115 ∷ []) ∷ []) ∷ answer replies.Done ([]) ∷ answer (replies.Session 0) ([]) ∷ answer replies.Done ([]) ∷ []); is_all = true }
unfolding computed parsed
emit_101 = refl

pub emit_102 : run Server (turns.Connected 9 2 60 (facts.Limit 1200) ∷ turns.PeerUni ∷ turns.Call (calls.PollOpening 6) ∷ turns.Bytes 2 (0 ∷ 4 ∷ 0 ∷ []) ∷ turns.PeerBi ∷ turns.Bytes 0 (1 ∷ 64 ∷ 80 ∷ 0 ∷ 0 ∷ 39 ∷ 3 ∷ 58 ∷ 97 ∷ 117 ∷ 116 ∷ 104 ∷ 111 ∷ 114 ∷ 105 ∷ 116 ∷ 121 ∷ 1 ∷ 104 ∷ 39 ∷ 0 ∷ 58 ∷ 109 ∷ 101 ∷ 116 ∷ 104 ∷ 111 ∷ 100 ∷ 7 ∷ 67 ∷ 79 ∷ 78 ∷ 78 ∷ 69 ∷ 67 ∷ 84 ∷ 37 ∷ 58 ∷ 112 ∷ 97 ∷ 116 ∷ 104 ∷ 1 ∷ 47 ∷ 39 ∷ 2 ∷ 58 ∷ 112 ∷ 114 ∷ 111 ∷ 116 ∷ 111 ∷ 99 ∷ 111 ∷ 108 ∷ 12 ∷ 119 ∷ 101 ∷ 98 ∷ 116 ∷ 114 ∷ 97 ∷ 110 ∷ 115 ∷ 112 ∷ 111 ∷ 114 ∷ 116 ∷ 39 ∷ 0 ∷ 58 ∷ 115 ∷ 99 ∷ 104 ∷ 101 ∷ 109 ∷ 101 ∷ 5 ∷ 104 ∷ 116 ∷ 116 ∷ 112 ∷ 115 ∷ []) ∷ turns.PeerUni ∷ turns.Bytes 6 (64 ∷ 84 ∷ 8 ∷ []) ∷ turns.Call calls.Incoming ∷ turns.Call (calls.Accept ([])) ∷ turns.Call calls.Incoming ∷ []) ≡ record { answers = (answer replies.Done (actions.Opened 3 ∷ actions.Send 3 (0 ∷ 4 ∷ 22 ∷ 1 ∷ 0 ∷ 7 ∷ 0 ∷ 8 ∷ 1 ∷ 51 ∷ 1 ∷ 171 ∷ 96 ∷ 55 ∷ 66 ∷ 1 ∷ 192 ∷ 0 ∷ 0 ∷ 0 ∷ 198 ∷ 113 ∷ 112 ∷ 106 ∷ 4 ∷ []) ∷ []) ∷ answer replies.Done ([]) ∷ answer replies.NoSession ([]) ∷ answer replies.Done ([]) ∷ answer replies.Done ([]) ∷ answer replies.Done ([]) ∷ answer replies.Done ([]) ∷ answer replies.Done ([]) ∷ answer (replies.Request 0 (((58 ∷ 97 ∷ 117 ∷ 116 ∷ 104 ∷ 111 ∷ 114 ∷ 105 ∷ 116 ∷ 121 ∷ []), (104 ∷ [])) ∷ ((58 ∷ 109 ∷ 101 ∷ 116 ∷ 104 ∷ 111 ∷ 100 ∷ []), (67 ∷ 79 ∷ 78 ∷ 78 ∷ 69 ∷ 67 ∷ 84 ∷ [])) ∷ ((58 ∷ 112 ∷ 97 ∷ 116 ∷ 104 ∷ []), (47 ∷ [])) ∷ ((58 ∷ 112 ∷ 114 ∷ 111 ∷ 116 ∷ 111 ∷ 99 ∷ 111 ∷ 108 ∷ []), (119 ∷ 101 ∷ 98 ∷ 116 ∷ 114 ∷ 97 ∷ 110 ∷ 115 ∷ 112 ∷ 111 ∷ 114 ∷ 116 ∷ [])) ∷ ((58 ∷ 115 ∷ 99 ∷ 104 ∷ 101 ∷ 109 ∷ 101 ∷ []), (104 ∷ 116 ∷ 116 ∷ 112 ∷ 115 ∷ [])) ∷ [])) ([]) ∷ answer (replies.Session 0) (actions.Send 0 (1 ∷ 15 ∷ 0 ∷ 0 ∷ 39 ∷ 0 ∷ 58 ∷ 115 ∷ 116 ∷ 97 ∷ 116 ∷ 117 ∷ 115 ∷ 3 ∷ 50 ∷ 48 ∷ 48 ∷ []) ∷ []) ∷ answer replies.Pending ([]) ∷ []); is_all = true }
unfolding computed
emit_102 = refl

pub emit_104 : run Client (turns.Call (calls.Connect ((104 ∷ 116 ∷ 116 ∷ 112 ∷ 115 ∷ 58 ∷ 47 ∷ 47 ∷ 104 ∷ []), ([])) (lookups.Found (addresses.V4 1 443)) outcomes.Proceed) ∷ turns.Connected 9 9 1000 facts.Disabled ∷ turns.PeerUni ∷ turns.Bytes 3 (0 ∷ 4 ∷ 0 ∷ []) ∷ turns.Call calls.Handshake ∷ turns.Bytes 0 (1 ∷ 15 ∷ 0 ∷ 0 ∷ 39 ∷ 0 ∷ 58 ∷ 115 ∷ 116 ∷ 97 ∷ 116 ∷ 117 ∷ 115 ∷ 3 ∷ 50 ∷ 48 ∷ 52 ∷ []) ∷ turns.Call calls.Handshake ∷ turns.PeerBi ∷ turns.End 1 ∷ turns.Call (calls.WriteAll 3 (113 ∷ 113 ∷ 113 ∷ 113 ∷ 113 ∷ 113 ∷ 113 ∷ 113 ∷ 113 ∷ 113 ∷ 113 ∷ 113 ∷ 113 ∷ 113 ∷ 113 ∷ 113 ∷ 113 ∷ 113 ∷ 113 ∷ 113 ∷ 113 ∷ 113 ∷ 113 ∷ 113 ∷ 113 ∷ 113 ∷ 113 ∷ 113 ∷ 113 ∷ 113 ∷ 113 ∷ 113 ∷ 113 ∷ 113 ∷ 113 ∷ 113 ∷ 113 ∷ 113 ∷ 113 ∷ 113 ∷ [])) ∷ turns.Bytes 3 (81 ∷ 204 ∷ 36 ∷ []) ∷ turns.Call (calls.OpenBi None) ∷ turns.Call (calls.SetPriority 0 (pos 0)) ∷ turns.PeerUni ∷ turns.Bytes 0 (0 ∷ []) ∷ turns.Call (calls.Read 3 0) ∷ turns.Call (calls.StopRecv 0 300) ∷ turns.Bytes 4 (114 ∷ 101 ∷ 112 ∷ 108 ∷ 121 ∷ []) ∷ turns.Call (calls.AcceptUni (Some 12)) ∷ turns.Call (calls.Read 7 3) ∷ []) ≡ record { answers = (answer replies.Pending (actions.Dial (addresses.V4 1 443) (104 ∷ []) ∷ []) ∷ answer replies.Done (actions.Opened 2 ∷ actions.Send 2 (0 ∷ 4 ∷ 22 ∷ 1 ∷ 0 ∷ 7 ∷ 0 ∷ 8 ∷ 1 ∷ 51 ∷ 1 ∷ 171 ∷ 96 ∷ 55 ∷ 66 ∷ 1 ∷ 192 ∷ 0 ∷ 0 ∷ 0 ∷ 198 ∷ 113 ∷ 112 ∷ 106 ∷ 4 ∷ []) ∷ []) ∷ answer replies.Done ([]) ∷ answer replies.Done ([]) ∷ answer replies.Pending (actions.Opened 0 ∷ actions.Send 0 (1 ∷ 64 ∷ 80 ∷ 0 ∷ 0 ∷ 39 ∷ 3 ∷ 58 ∷ 97 ∷ 117 ∷ 116 ∷ 104 ∷ 111 ∷ 114 ∷ 105 ∷ 116 ∷ 121 ∷ 1 ∷ 104 ∷ 39 ∷ 0 ∷ 58 ∷ 109 ∷ 101 ∷ 116 ∷ 104 ∷ 111 ∷ 100 ∷ 7 ∷ 67 ∷ 79 ∷ 78 ∷ 78 ∷ 69 ∷ 67 ∷ 84 ∷ 37 ∷ 58 ∷ 112 ∷ 97 ∷ 116 ∷ 104 ∷ 1 ∷ 47 ∷ 39 ∷ 2 ∷ 58 ∷ 112 ∷ 114 ∷ 111 ∷ 116 ∷ 111 ∷ 99 ∷ 111 ∷ 108 ∷ 12 ∷ 119 ∷ 101 ∷ 98 ∷ 116 ∷ 114 ∷ 97 ∷ 110 ∷ 115 ∷ 112 ∷ 111 ∷ 114 ∷ 116 ∷ 39 ∷ 0 ∷ 58 ∷ 115 ∷ 99 ∷ 104 ∷ 101 ∷ 109 ∷ 101 ∷ 5 ∷ 104 ∷ 116 ∷ 116 ∷ 112 ∷ 115 ∷ []) ∷ []) ∷ answer replies.Done ([]) ∷ answer (replies.Session 0) ([]) ∷ answer replies.Done ([]) ∷ answer replies.Done ([]) ∷ answer replies.NoStream ([]) ∷ answer replies.Done ([]) ∷ answer (replies.Opening 4) (actions.Opened 4 ∷ []) ∷ answer replies.NoStream ([]) ∷ answer replies.Done ([]) ∷ answer replies.Done ([]) ∷ answer replies.NoStream ([]) ∷ answer replies.NoStream ([]) ∷ answer replies.Done ([]) ∷ answer replies.NoSession ([]) ∷ answer replies.NoStream ([]) ∷ []); is_all = true }
unfolding computed parsed
emit_104 = refl

pub emit_105 : run Server (turns.Connected 2 9 60 (facts.Limit 1) ∷ turns.Call (calls.EndpointClose 5 (98 ∷ 121 ∷ 101 ∷ [])) ∷ turns.Call (calls.OpenBi None) ∷ turns.Call (calls.PollOpening 6) ∷ turns.Call (calls.ReceiveDatagram (Some 8)) ∷ turns.Datagram (0 ∷ 121 ∷ 111 ∷ []) ∷ turns.Datagram (0 ∷ 104 ∷ 105 ∷ []) ∷ turns.Datagram (1 ∷ 97 ∷ []) ∷ turns.Datagram (0 ∷ 121 ∷ 111 ∷ []) ∷ turns.Datagram (0 ∷ 104 ∷ 105 ∷ []) ∷ turns.Datagram (0 ∷ 121 ∷ 111 ∷ []) ∷ turns.Loss losses.TimedOut ∷ turns.Call (calls.ReceiveDatagram None) ∷ turns.Call (calls.Finish 6) ∷ turns.Call (calls.ReceiveDatagram None) ∷ turns.Call (calls.AcceptBi (Some 12)) ∷ turns.Call (calls.WriteAll 6 (97 ∷ [])) ∷ turns.Call (calls.ReceiveDatagram (Some 8)) ∷ turns.Call (calls.ReceiveDatagram (Some 0)) ∷ turns.Call calls.Incoming ∷ turns.Call (calls.AcceptUni (Some 16)) ∷ turns.Call (calls.AcceptBi (Some 16)) ∷ turns.Call (calls.WriteAll 6 (97 ∷ 98 ∷ 99 ∷ 100 ∷ 101 ∷ [])) ∷ turns.Call (calls.AcceptUni None) ∷ turns.Call (calls.SendDatagram (97 ∷ []) None) ∷ turns.Call (calls.ReadExact 6 9) ∷ turns.Call (calls.WriteAll 6 (113 ∷ 113 ∷ 113 ∷ 113 ∷ 113 ∷ 113 ∷ 113 ∷ 113 ∷ 113 ∷ 113 ∷ 113 ∷ 113 ∷ 113 ∷ 113 ∷ 113 ∷ 113 ∷ 113 ∷ 113 ∷ 113 ∷ 113 ∷ 113 ∷ 113 ∷ 113 ∷ 113 ∷ 113 ∷ 113 ∷ 113 ∷ 113 ∷ 113 ∷ 113 ∷ 113 ∷ 113 ∷ 113 ∷ 113 ∷ 113 ∷ 113 ∷ 113 ∷ 113 ∷ 113 ∷ 113 ∷ [])) ∷ turns.Call (calls.ResetSend 6 1) ∷ turns.Call calls.Closed ∷ turns.Call (calls.Priority 6) ∷ turns.Call (calls.Write 6 (97 ∷ 98 ∷ 99 ∷ 100 ∷ 101 ∷ [])) ∷ turns.Call (calls.MaxDatagramSize None) ∷ turns.Call (calls.OpenUni None) ∷ turns.Call (calls.Read 6 1) ∷ turns.Call (calls.ReceiveDatagram (Some 4)) ∷ turns.Call (calls.Write 6 ([])) ∷ turns.Call (calls.AcceptBi (Some 4)) ∷ turns.Call (calls.Finish 6) ∷ turns.Call (calls.ReceiveDatagram (Some 12)) ∷ turns.Call (calls.ReadExact 6 2) ∷ turns.Call (calls.ReceiveDatagram (Some 12)) ∷ turns.Call (calls.ReceiveDatagram None) ∷ turns.Call (calls.PollOpening 6) ∷ turns.Call (calls.Read 6 0) ∷ turns.Call (calls.WriteAll 6 ([])) ∷ turns.Call (calls.AcceptBi None) ∷ turns.Call (calls.AcceptBi (Some 12)) ∷ turns.Call (calls.AcceptUni (Some 0)) ∷ turns.Call (calls.AcceptBi (Some 12)) ∷ turns.Call (calls.AcceptBi None) ∷ turns.Call (calls.AcceptBi None) ∷ turns.Call (calls.ReceiveDatagram None) ∷ turns.Call (calls.ReadExact 6 1) ∷ turns.Call (calls.ReceiveDatagram (Some 12)) ∷ turns.Call (calls.ReceiveDatagram None) ∷ turns.Call (calls.ReceiveDatagram (Some 16)) ∷ turns.Call (calls.AcceptBi None) ∷ turns.Call (calls.PollOpening 6) ∷ turns.Call (calls.AcceptUni (Some 16)) ∷ turns.Call (calls.AcceptBi (Some 12)) ∷ []) ≡ record { answers = (answer replies.Done (actions.Opened 3 ∷ actions.Send 3 (0 ∷ 4 ∷ 22 ∷ 1 ∷ 0 ∷ 7 ∷ 0 ∷ 8 ∷ 1 ∷ 51 ∷ 1 ∷ 171 ∷ 96 ∷ 55 ∷ 66 ∷ 1 ∷ 192 ∷ 0 ∷ 0 ∷ 0 ∷ 198 ∷ 113 ∷ 112 ∷ 106 ∷ 4 ∷ []) ∷ []) ∷ answer replies.Done (actions.Close 5 (98 ∷ 121 ∷ 101 ∷ []) ∷ []) ∷ answer replies.NoSession ([]) ∷ answer replies.NoSession ([]) ∷ answer replies.NoSession ([]) ∷ answer replies.Done ([]) ∷ answer replies.Done ([]) ∷ answer replies.Done ([]) ∷ answer replies.Done ([]) ∷ answer replies.Done ([]) ∷ answer replies.Done ([]) ∷ answer replies.Done ([]) ∷ answer replies.NoSession ([]) ∷ answer replies.NoStream ([]) ∷ answer replies.NoSession ([]) ∷ answer replies.NoSession ([]) ∷ answer replies.NoStream ([]) ∷ answer replies.NoSession ([]) ∷ answer replies.NoSession ([]) ∷ answer (replies.Failed errors.LocallyClosed) ([]) ∷ answer replies.NoSession ([]) ∷ answer replies.NoSession ([]) ∷ answer replies.NoStream ([]) ∷ answer replies.NoSession ([]) ∷ answer replies.NoSession ([]) ∷ answer replies.NoStream ([]) ∷ answer replies.NoStream ([]) ∷ answer replies.NoStream ([]) ∷ answer replies.NoSession ([]) ∷ answer replies.NoStream ([]) ∷ answer replies.NoStream ([]) ∷ answer replies.NoSession ([]) ∷ answer replies.NoSession ([]) ∷ answer replies.NoStream ([]) ∷ answer replies.NoSession ([]) ∷ answer replies.NoStream ([]) ∷ answer replies.NoSession ([]) ∷ answer replies.NoStream ([]) ∷ answer replies.NoSession ([]) ∷ answer replies.NoStream ([]) ∷ answer replies.NoSession ([]) ∷ answer replies.NoSession ([]) ∷ answer replies.NoSession ([]) ∷ answer replies.NoStream ([]) ∷ answer replies.NoStream ([]) ∷ answer replies.NoSession ([]) ∷ answer replies.NoSession ([]) ∷ answer replies.NoSession ([]) ∷ answer replies.NoSession ([]) ∷ answer replies.NoSession ([]) ∷ answer replies.NoSession ([]) ∷ answer replies.NoSession ([]) ∷ answer replies.NoStream ([]) ∷ answer replies.NoSession ([]) ∷ answer replies.NoSession ([]) ∷ answer replies.NoSession ([]) ∷ answer replies.NoSession ([]) ∷ answer replies.NoSession ([]) ∷ answer replies.NoSession ([]) ∷ answer replies.NoSession ([]) ∷ []); is_all = true }
unfolding computed
emit_105 = refl

pub emit_106 : run Client (turns.Call (calls.Connect ((104 ∷ 116 ∷ 116 ∷ 112 ∷ 115 ∷ 58 ∷ 47 ∷ 47 ∷ 104 ∷ []), ([])) (lookups.Found (addresses.V4 1 443)) outcomes.Proceed) ∷ turns.Connected 9 9 100 (facts.Limit 5) ∷ turns.PeerUni ∷ turns.Bytes 3 (0 ∷ 4 ∷ 0 ∷ []) ∷ turns.Call calls.Handshake ∷ turns.Bytes 0 (1 ∷ 15 ∷ 0 ∷ 0 ∷ 39 ∷ 0 ∷ 58 ∷ 115 ∷ 116 ∷ 97 ∷ 116 ∷ 117 ∷ 115 ∷ 3 ∷ 50 ∷ 48 ∷ 48 ∷ []) ∷ turns.Call calls.Handshake ∷ turns.PeerUni ∷ turns.PeerUni ∷ turns.Call (calls.WriteAll 2 (113 ∷ 113 ∷ 113 ∷ 113 ∷ 113 ∷ 113 ∷ 113 ∷ 113 ∷ 113 ∷ 113 ∷ 113 ∷ 113 ∷ 113 ∷ 113 ∷ 113 ∷ 113 ∷ 113 ∷ 113 ∷ 113 ∷ 113 ∷ 113 ∷ 113 ∷ 113 ∷ 113 ∷ 113 ∷ 113 ∷ 113 ∷ 113 ∷ 113 ∷ 113 ∷ 113 ∷ 113 ∷ 113 ∷ 113 ∷ 113 ∷ 113 ∷ 113 ∷ 113 ∷ 113 ∷ 113 ∷ [])) ∷ turns.Call (calls.AcceptUni None) ∷ turns.Call (calls.StopRecv 2 0) ∷ turns.Call (calls.PollOpening 3) ∷ turns.Call (calls.PollOpening 0) ∷ turns.Bytes 3 (17 ∷ 223 ∷ []) ∷ turns.Call (calls.Read 3 2) ∷ turns.Call (calls.OpenUni None) ∷ turns.PeerBi ∷ turns.Call (calls.AcceptUni None) ∷ turns.Call (calls.WriteAll 1 (113 ∷ 113 ∷ 113 ∷ 113 ∷ 113 ∷ 113 ∷ 113 ∷ 113 ∷ 113 ∷ 113 ∷ 113 ∷ 113 ∷ 113 ∷ 113 ∷ 113 ∷ 113 ∷ 113 ∷ 113 ∷ 113 ∷ 113 ∷ 113 ∷ 113 ∷ 113 ∷ 113 ∷ 113 ∷ 113 ∷ 113 ∷ 113 ∷ 113 ∷ 113 ∷ 113 ∷ 113 ∷ 113 ∷ 113 ∷ 113 ∷ 113 ∷ 113 ∷ 113 ∷ 113 ∷ 113 ∷ [])) ∷ []) ≡ record { answers = (answer replies.Pending (actions.Dial (addresses.V4 1 443) (104 ∷ []) ∷ []) ∷ answer replies.Done (actions.Opened 2 ∷ actions.Send 2 (0 ∷ 4 ∷ 22 ∷ 1 ∷ 0 ∷ 7 ∷ 0 ∷ 8 ∷ 1 ∷ 51 ∷ 1 ∷ 171 ∷ 96 ∷ 55 ∷ 66 ∷ 1 ∷ 192 ∷ 0 ∷ 0 ∷ 0 ∷ 198 ∷ 113 ∷ 112 ∷ 106 ∷ 4 ∷ []) ∷ []) ∷ answer replies.Done ([]) ∷ answer replies.Done ([]) ∷ answer replies.Pending (actions.Opened 0 ∷ actions.Send 0 (1 ∷ 64 ∷ 80 ∷ 0 ∷ 0 ∷ 39 ∷ 3 ∷ 58 ∷ 97 ∷ 117 ∷ 116 ∷ 104 ∷ 111 ∷ 114 ∷ 105 ∷ 116 ∷ 121 ∷ 1 ∷ 104 ∷ 39 ∷ 0 ∷ 58 ∷ 109 ∷ 101 ∷ 116 ∷ 104 ∷ 111 ∷ 100 ∷ 7 ∷ 67 ∷ 79 ∷ 78 ∷ 78 ∷ 69 ∷ 67 ∷ 84 ∷ 37 ∷ 58 ∷ 112 ∷ 97 ∷ 116 ∷ 104 ∷ 1 ∷ 47 ∷ 39 ∷ 2 ∷ 58 ∷ 112 ∷ 114 ∷ 111 ∷ 116 ∷ 111 ∷ 99 ∷ 111 ∷ 108 ∷ 12 ∷ 119 ∷ 101 ∷ 98 ∷ 116 ∷ 114 ∷ 97 ∷ 110 ∷ 115 ∷ 112 ∷ 111 ∷ 114 ∷ 116 ∷ 39 ∷ 0 ∷ 58 ∷ 115 ∷ 99 ∷ 104 ∷ 101 ∷ 109 ∷ 101 ∷ 5 ∷ 104 ∷ 116 ∷ 116 ∷ 112 ∷ 115 ∷ []) ∷ []) ∷ answer replies.Done ([]) ∷ answer (replies.Session 0) ([]) ∷ answer replies.Done ([]) ∷ answer replies.Done ([]) ∷ answer replies.NoStream ([]) ∷ answer replies.Pending ([]) ∷ answer replies.NoStream ([]) ∷ answer replies.NoStream ([]) ∷ answer replies.NoStream ([]) ∷ answer replies.Done ([]) ∷ answer replies.NoStream ([]) ∷ answer (replies.Opening 6) (actions.Opened 6 ∷ []) ∷ answer replies.Done ([]) ∷ answer replies.Pending ([]) ∷ answer replies.NoStream ([]) ∷ []); is_all = true }
unfolding computed parsed
emit_106 = refl

pub emit_108 : run Client (turns.Call (calls.Connect ((104 ∷ 116 ∷ 116 ∷ 112 ∷ 115 ∷ 58 ∷ 47 ∷ 47 ∷ 104 ∷ []), ([])) (lookups.Found (addresses.V4 1 443)) outcomes.Proceed) ∷ turns.Connected 9 9 100 (facts.Limit 1200) ∷ turns.PeerUni ∷ turns.Bytes 3 (0 ∷ 4 ∷ 0 ∷ []) ∷ turns.Call calls.Handshake ∷ turns.Bytes 0 (1 ∷ 15 ∷ 0 ∷ 0 ∷ 39 ∷ 0 ∷ 58 ∷ 115 ∷ 116 ∷ 97 ∷ 116 ∷ 117 ∷ 115 ∷ 3 ∷ 50 ∷ 48 ∷ 48 ∷ []) ∷ turns.Call calls.Handshake ∷ turns.Bytes 3 (15 ∷ 0 ∷ []) ∷ turns.Bytes 0 (0 ∷ 5 ∷ []) ∷ turns.Datagram (1 ∷ 97 ∷ []) ∷ turns.Bytes 3 (33 ∷ 1 ∷ []) ∷ turns.Datagram (1 ∷ 97 ∷ []) ∷ turns.Call (calls.Read 0 1) ∷ turns.Call (calls.ReadExact 7 9) ∷ turns.Bytes 3 ([]) ∷ turns.Call (calls.ReceiveDatagram (Some 16)) ∷ turns.PeerUni ∷ turns.Bytes 0 (104 ∷ 67 ∷ 3 ∷ 97 ∷ 98 ∷ 99 ∷ []) ∷ turns.Datagram (0 ∷ 104 ∷ 105 ∷ []) ∷ turns.Call (calls.StopRecv 7 1) ∷ turns.Call (calls.StopRecv 7 7) ∷ turns.Bytes 3 (97 ∷ []) ∷ turns.Call (calls.AcceptBi (Some 12)) ∷ turns.Call (calls.ResetSend 9 0) ∷ turns.Datagram (1 ∷ 97 ∷ []) ∷ turns.Bytes 0 ([]) ∷ turns.PeerBi ∷ turns.Call (calls.AcceptUni (Some 8)) ∷ turns.Datagram (1 ∷ 97 ∷ []) ∷ turns.Bytes 0 (0 ∷ 1 ∷ []) ∷ turns.Call (calls.ReceiveDatagram (Some 4)) ∷ turns.Call (calls.ReadExact 0 1) ∷ turns.Call (calls.PollOpening 1) ∷ turns.Call (calls.AcceptUni None) ∷ turns.Call (calls.Read 2 0) ∷ turns.Bytes 3 (7 ∷ 2 ∷ 97 ∷ 98 ∷ []) ∷ turns.Call calls.Closed ∷ turns.Call (calls.Read 1 3) ∷ turns.Datagram (0 ∷ 121 ∷ 111 ∷ []) ∷ turns.Call calls.Closed ∷ []) ≡ record { answers = (answer replies.Pending (actions.Dial (addresses.V4 1 443) (104 ∷ []) ∷ []) ∷ answer replies.Done (actions.Opened 2 ∷ actions.Send 2 (0 ∷ 4 ∷ 22 ∷ 1 ∷ 0 ∷ 7 ∷ 0 ∷ 8 ∷ 1 ∷ 51 ∷ 1 ∷ 171 ∷ 96 ∷ 55 ∷ 66 ∷ 1 ∷ 192 ∷ 0 ∷ 0 ∷ 0 ∷ 198 ∷ 113 ∷ 112 ∷ 106 ∷ 4 ∷ []) ∷ []) ∷ answer replies.Done ([]) ∷ answer replies.Done ([]) ∷ answer replies.Pending (actions.Opened 0 ∷ actions.Send 0 (1 ∷ 64 ∷ 80 ∷ 0 ∷ 0 ∷ 39 ∷ 3 ∷ 58 ∷ 97 ∷ 117 ∷ 116 ∷ 104 ∷ 111 ∷ 114 ∷ 105 ∷ 116 ∷ 121 ∷ 1 ∷ 104 ∷ 39 ∷ 0 ∷ 58 ∷ 109 ∷ 101 ∷ 116 ∷ 104 ∷ 111 ∷ 100 ∷ 7 ∷ 67 ∷ 79 ∷ 78 ∷ 78 ∷ 69 ∷ 67 ∷ 84 ∷ 37 ∷ 58 ∷ 112 ∷ 97 ∷ 116 ∷ 104 ∷ 1 ∷ 47 ∷ 39 ∷ 2 ∷ 58 ∷ 112 ∷ 114 ∷ 111 ∷ 116 ∷ 111 ∷ 99 ∷ 111 ∷ 108 ∷ 12 ∷ 119 ∷ 101 ∷ 98 ∷ 116 ∷ 114 ∷ 97 ∷ 110 ∷ 115 ∷ 112 ∷ 111 ∷ 114 ∷ 116 ∷ 39 ∷ 0 ∷ 58 ∷ 115 ∷ 99 ∷ 104 ∷ 101 ∷ 109 ∷ 101 ∷ 5 ∷ 104 ∷ 116 ∷ 116 ∷ 112 ∷ 115 ∷ []) ∷ []) ∷ answer replies.Done ([]) ∷ answer (replies.Session 0) ([]) ∷ answer replies.Done ([]) ∷ answer replies.Done ([]) ∷ answer replies.Done ([]) ∷ answer replies.Done ([]) ∷ answer replies.Done ([]) ∷ answer replies.NoStream ([]) ∷ answer replies.NoStream ([]) ∷ answer replies.Done ([]) ∷ answer replies.NoSession ([]) ∷ answer replies.Done ([]) ∷ answer replies.Done (actions.Close 270 ([]) ∷ []) ∷ answer replies.Done ([]) ∷ answer replies.NoStream ([]) ∷ answer replies.NoStream ([]) ∷ answer replies.Done ([]) ∷ answer replies.NoSession ([]) ∷ answer replies.NoStream ([]) ∷ answer replies.Done ([]) ∷ answer replies.Done ([]) ∷ answer replies.Done ([]) ∷ answer replies.NoSession ([]) ∷ answer replies.Done ([]) ∷ answer replies.Done ([]) ∷ answer replies.NoSession ([]) ∷ answer replies.NoStream ([]) ∷ answer replies.NoStream ([]) ∷ answer (replies.Failed (errors.LocalH3Error h3.Message)) ([]) ∷ answer replies.NoStream ([]) ∷ answer replies.Done ([]) ∷ answer (replies.Closed errors.LocallyClosed) ([]) ∷ answer replies.NoStream ([]) ∷ answer replies.Done ([]) ∷ answer (replies.Closed errors.LocallyClosed) ([]) ∷ []); is_all = true }
unfolding computed parsed
emit_108 = refl

pub emit_11 : run Server (turns.Connected 3 9 1000 (facts.Limit 1200) ∷ turns.Datagram (0 ∷ 121 ∷ 111 ∷ []) ∷ turns.Call (calls.WriteAll 6 (97 ∷ [])) ∷ turns.Call (calls.Read 6 1) ∷ turns.Datagram (1 ∷ 97 ∷ []) ∷ turns.PeerBi ∷ turns.Call (calls.Read 6 3) ∷ turns.Bytes 0 (64 ∷ 65 ∷ 0 ∷ 100 ∷ 97 ∷ 116 ∷ 97 ∷ []) ∷ turns.Bytes 0 (109 ∷ 111 ∷ 114 ∷ 101 ∷ []) ∷ turns.Call (calls.AcceptUni None) ∷ turns.Datagram (1 ∷ 97 ∷ []) ∷ turns.PeerUni ∷ turns.Call calls.Incoming ∷ turns.PeerBi ∷ turns.Bytes 0 (109 ∷ 111 ∷ 114 ∷ 101 ∷ []) ∷ turns.Call (calls.Finish 6) ∷ turns.Datagram (0 ∷ 121 ∷ 111 ∷ []) ∷ turns.Bytes 2 (64 ∷ 84 ∷ 4 ∷ 97 ∷ 98 ∷ 99 ∷ []) ∷ turns.MaxData 4 1000 ∷ turns.Datagram (0 ∷ 104 ∷ 105 ∷ []) ∷ turns.Bytes 4 (64 ∷ 65 ∷ 0 ∷ 100 ∷ 97 ∷ 116 ∷ 97 ∷ []) ∷ turns.Datagram (0 ∷ 121 ∷ 111 ∷ []) ∷ turns.Call (calls.Write 0 (97 ∷ 98 ∷ 99 ∷ 100 ∷ 101 ∷ [])) ∷ turns.Call (calls.AcceptUni (Some 0)) ∷ turns.Call calls.Incoming ∷ turns.Call (calls.StopRecv 6 7) ∷ turns.Call (calls.ReceiveDatagram (Some 12)) ∷ turns.Call (calls.AcceptBi None) ∷ turns.Call (calls.Write 6 ([])) ∷ turns.Datagram (1 ∷ 97 ∷ []) ∷ turns.Call (calls.AcceptBi (Some 4)) ∷ turns.PeerUni ∷ turns.Datagram (1 ∷ 97 ∷ []) ∷ turns.Call (calls.ReceiveDatagram (Some 0)) ∷ turns.Datagram (0 ∷ 121 ∷ 111 ∷ []) ∷ turns.Bytes 0 (109 ∷ 111 ∷ []) ∷ turns.Bytes 0 (114 ∷ 101 ∷ []) ∷ turns.Call (calls.ReceiveDatagram None) ∷ turns.Call (calls.ReadExact 0 0) ∷ turns.Bytes 4 (109 ∷ 111 ∷ 114 ∷ 101 ∷ []) ∷ []) ≡ record { answers = (answer replies.Done (actions.Opened 3 ∷ actions.Send 3 (0 ∷ 4 ∷ 22 ∷ 1 ∷ 0 ∷ 7 ∷ 0 ∷ 8 ∷ 1 ∷ 51 ∷ 1 ∷ 171 ∷ 96 ∷ 55 ∷ 66 ∷ 1 ∷ 192 ∷ 0 ∷ 0 ∷ 0 ∷ 198 ∷ 113 ∷ 112 ∷ 106 ∷ 4 ∷ []) ∷ []) ∷ answer replies.Done ([]) ∷ answer replies.NoStream ([]) ∷ answer replies.NoStream ([]) ∷ answer replies.Done ([]) ∷ answer replies.Done ([]) ∷ answer replies.NoStream ([]) ∷ answer replies.Done ([]) ∷ answer replies.Done ([]) ∷ answer replies.NoSession ([]) ∷ answer replies.Done ([]) ∷ answer replies.Done ([]) ∷ answer replies.Pending ([]) ∷ answer replies.Done ([]) ∷ answer replies.Done ([]) ∷ answer replies.NoStream ([]) ∷ answer replies.Done ([]) ∷ answer replies.Done ([]) ∷ answer replies.Done ([]) ∷ answer replies.Done ([]) ∷ answer replies.Done ([]) ∷ answer replies.Done ([]) ∷ answer replies.NoStream ([]) ∷ answer replies.NoSession ([]) ∷ answer replies.Pending ([]) ∷ answer replies.NoStream ([]) ∷ answer replies.NoSession ([]) ∷ answer replies.NoSession ([]) ∷ answer replies.NoStream ([]) ∷ answer replies.Done ([]) ∷ answer replies.NoSession ([]) ∷ answer replies.Done ([]) ∷ answer replies.Done ([]) ∷ answer replies.NoSession ([]) ∷ answer replies.Done ([]) ∷ answer replies.Done ([]) ∷ answer replies.Done ([]) ∷ answer replies.NoSession ([]) ∷ answer replies.NoStream ([]) ∷ answer replies.Done ([]) ∷ []); is_all = true }
unfolding computed
emit_11 = refl

pub emit_111 : run Server (turns.Connected 9 9 1000 (facts.Limit 1200) ∷ turns.Call (calls.PollOpening 3) ∷ turns.Call (calls.PollOpening 3) ∷ turns.MaxData 3 1001 ∷ turns.Call (calls.AcceptUni (Some 0)) ∷ turns.Call (calls.AcceptBi (Some 0)) ∷ turns.MaxData 3 1006 ∷ turns.Call (calls.OpenBi None) ∷ turns.Call (calls.ResetSend 3 300) ∷ turns.PeerUni ∷ turns.Bytes 2 (64 ∷ 84 ∷ 0 ∷ 104 ∷ 101 ∷ 108 ∷ 108 ∷ 111 ∷ []) ∷ turns.Datagram (1 ∷ 97 ∷ []) ∷ turns.Call (calls.Read 2 0) ∷ turns.PeerBi ∷ turns.PeerBi ∷ turns.End 0 ∷ turns.Call (calls.WriteAll 3 ([])) ∷ turns.Call (calls.AcceptUni None) ∷ turns.Datagram (2 ∷ 98 ∷ []) ∷ turns.Bytes 4 (4 ∷ 0 ∷ []) ∷ turns.Call (calls.ReadExact 0 0) ∷ turns.Call (calls.AcceptBi (Some 16)) ∷ turns.Call (calls.SessionId None) ∷ turns.Call (calls.ReadExact 4 9) ∷ turns.Call (calls.ReadExact 4 3) ∷ turns.Call (calls.AcceptBi None) ∷ turns.Call (calls.SendDatagram (97 ∷ []) None) ∷ turns.MaxUni 10 ∷ turns.Call (calls.ReadExact 0 2) ∷ turns.Call (calls.AcceptUni (Some 0)) ∷ turns.Call (calls.Read 3 0) ∷ turns.Stop 3 300 ∷ turns.Call (calls.AcceptBi None) ∷ turns.Call calls.Incoming ∷ turns.Bytes 4 (109 ∷ 111 ∷ 114 ∷ 101 ∷ []) ∷ turns.Call (calls.Stopped 0) ∷ turns.Bytes 4 (109 ∷ 111 ∷ 114 ∷ 101 ∷ []) ∷ turns.Bytes 2 (21 ∷ 46 ∷ 35 ∷ []) ∷ turns.Call (calls.SendDatagram (97 ∷ 98 ∷ 99 ∷ 100 ∷ []) None) ∷ turns.Call (calls.SendDatagram ([]) None) ∷ []) ≡ record { answers = (answer replies.Done (actions.Opened 3 ∷ actions.Send 3 (0 ∷ 4 ∷ 22 ∷ 1 ∷ 0 ∷ 7 ∷ 0 ∷ 8 ∷ 1 ∷ 51 ∷ 1 ∷ 171 ∷ 96 ∷ 55 ∷ 66 ∷ 1 ∷ 192 ∷ 0 ∷ 0 ∷ 0 ∷ 198 ∷ 113 ∷ 112 ∷ 106 ∷ 4 ∷ []) ∷ []) ∷ answer replies.NoSession ([]) ∷ answer replies.NoSession ([]) ∷ answer replies.Done ([]) ∷ answer replies.NoSession ([]) ∷ answer replies.NoSession ([]) ∷ answer replies.Done ([]) ∷ answer replies.NoSession ([]) ∷ answer replies.NoStream ([]) ∷ answer replies.Done ([]) ∷ answer replies.Done ([]) ∷ answer replies.Done ([]) ∷ answer replies.NoStream ([]) ∷ answer replies.Done ([]) ∷ answer replies.Done ([]) ∷ answer replies.Done ([]) ∷ answer replies.NoStream ([]) ∷ answer replies.NoSession ([]) ∷ answer replies.Done ([]) ∷ answer replies.Done (actions.Close 261 ([]) ∷ []) ∷ answer replies.NoStream ([]) ∷ answer replies.NoSession ([]) ∷ answer replies.NoSession ([]) ∷ answer replies.NoStream ([]) ∷ answer replies.NoStream ([]) ∷ answer replies.NoSession ([]) ∷ answer replies.NoSession ([]) ∷ answer replies.Done ([]) ∷ answer replies.NoStream ([]) ∷ answer replies.NoSession ([]) ∷ answer replies.NoStream ([]) ∷ answer replies.Done ([]) ∷ answer replies.NoSession ([]) ∷ answer (replies.Failed (errors.LocalH3Error h3.FrameUnexpected)) ([]) ∷ answer replies.Done ([]) ∷ answer replies.NoStream ([]) ∷ answer replies.Done ([]) ∷ answer replies.Done ([]) ∷ answer replies.NoSession ([]) ∷ answer replies.NoSession ([]) ∷ []); is_all = true }
unfolding computed
emit_111 = refl

pub emit_112 : run Server (turns.Connected 2 2 25 (facts.Limit 1) ∷ turns.Call calls.Incoming ∷ turns.PeerBi ∷ turns.Bytes 0 (4 ∷ 0 ∷ []) ∷ turns.Call (calls.PollOpening 3) ∷ turns.PeerBi ∷ turns.Call (calls.EndSession None) ∷ turns.Call (calls.Read 3 0) ∷ turns.Call (calls.ResetSend 3 300) ∷ turns.Call (calls.ReadExact 3 3) ∷ turns.Call calls.Incoming ∷ turns.MaxBi 2 ∷ turns.Bytes 0 (109 ∷ 111 ∷ 114 ∷ 101 ∷ []) ∷ turns.Call (calls.WriteAll 4 ([])) ∷ turns.MaxBi 3 ∷ turns.Call (calls.SendDatagram (97 ∷ []) None) ∷ turns.Bytes 0 (109 ∷ 111 ∷ 114 ∷ 101 ∷ []) ∷ turns.End 4 ∷ turns.Call (calls.Read 3 0) ∷ turns.Call (calls.Finish 16) ∷ []) ≡ record { answers = (answer replies.Done (actions.Opened 3 ∷ actions.Send 3 (0 ∷ 4 ∷ 22 ∷ 1 ∷ 0 ∷ 7 ∷ 0 ∷ 8 ∷ 1 ∷ 51 ∷ 1 ∷ 171 ∷ 96 ∷ 55 ∷ 66 ∷ 1 ∷ 192 ∷ 0 ∷ 0 ∷ 0 ∷ 198 ∷ 113 ∷ 112 ∷ 106 ∷ 4 ∷ []) ∷ []) ∷ answer replies.Pending ([]) ∷ answer replies.Done ([]) ∷ answer replies.Done (actions.Close 261 ([]) ∷ []) ∷ answer replies.NoSession ([]) ∷ answer replies.Done ([]) ∷ answer replies.NoSession ([]) ∷ answer replies.NoStream ([]) ∷ answer replies.NoStream ([]) ∷ answer replies.NoStream ([]) ∷ answer (replies.Failed (errors.LocalH3Error h3.FrameUnexpected)) ([]) ∷ answer replies.Done ([]) ∷ answer replies.Done ([]) ∷ answer replies.NoStream ([]) ∷ answer replies.Done ([]) ∷ answer replies.NoSession ([]) ∷ answer replies.Done ([]) ∷ answer replies.Done ([]) ∷ answer replies.NoStream ([]) ∷ answer replies.NoStream ([]) ∷ []); is_all = true }
unfolding computed
emit_112 = refl

pub emit_113 : run Server (turns.Connected 9 9 60 (facts.Limit 0) ∷ turns.Call (calls.Read 6 2) ∷ turns.Call (calls.Read 6 1) ∷ turns.Call (calls.Read 6 2) ∷ turns.Call calls.Incoming ∷ turns.Loss losses.CidsExhausted ∷ turns.Call (calls.PollOpening 6) ∷ turns.Call (calls.Write 6 (97 ∷ 98 ∷ 99 ∷ 100 ∷ 101 ∷ [])) ∷ []) ≡ record { answers = (answer replies.Done (actions.Opened 3 ∷ actions.Send 3 (0 ∷ 4 ∷ 22 ∷ 1 ∷ 0 ∷ 7 ∷ 0 ∷ 8 ∷ 1 ∷ 51 ∷ 1 ∷ 171 ∷ 96 ∷ 55 ∷ 66 ∷ 1 ∷ 192 ∷ 0 ∷ 0 ∷ 0 ∷ 198 ∷ 113 ∷ 112 ∷ 106 ∷ 4 ∷ []) ∷ []) ∷ answer replies.NoStream ([]) ∷ answer replies.NoStream ([]) ∷ answer replies.NoStream ([]) ∷ answer replies.Pending ([]) ∷ answer replies.Done ([]) ∷ answer replies.NoSession ([]) ∷ answer replies.NoStream ([]) ∷ []); is_all = true }
unfolding computed
emit_113 = refl

pub emit_117 : run Client (turns.Call (calls.Connect ((104 ∷ 116 ∷ 116 ∷ 112 ∷ 115 ∷ 58 ∷ 47 ∷ 47 ∷ 104 ∷ []), ([])) (lookups.Found (addresses.V4 1 443)) outcomes.Proceed) ∷ turns.Connected 9 9 100 facts.Disabled ∷ turns.PeerUni ∷ turns.Bytes 3 (0 ∷ 4 ∷ 0 ∷ []) ∷ turns.Call calls.Handshake ∷ turns.Bytes 0 (1 ∷ 15 ∷ 0 ∷ 0 ∷ 39 ∷ 0 ∷ 58 ∷ 115 ∷ 116 ∷ 97 ∷ 116 ∷ 117 ∷ 115 ∷ 3 ∷ 50 ∷ 48 ∷ 48 ∷ []) ∷ turns.Call calls.Handshake ∷ turns.Call (calls.OpenUni None) ∷ []) ≡ record { answers = (answer replies.Pending (actions.Dial (addresses.V4 1 443) (104 ∷ []) ∷ []) ∷ answer replies.Done (actions.Opened 2 ∷ actions.Send 2 (0 ∷ 4 ∷ 22 ∷ 1 ∷ 0 ∷ 7 ∷ 0 ∷ 8 ∷ 1 ∷ 51 ∷ 1 ∷ 171 ∷ 96 ∷ 55 ∷ 66 ∷ 1 ∷ 192 ∷ 0 ∷ 0 ∷ 0 ∷ 198 ∷ 113 ∷ 112 ∷ 106 ∷ 4 ∷ []) ∷ []) ∷ answer replies.Done ([]) ∷ answer replies.Done ([]) ∷ answer replies.Pending (actions.Opened 0 ∷ actions.Send 0 (1 ∷ 64 ∷ 80 ∷ 0 ∷ 0 ∷ 39 ∷ 3 ∷ 58 ∷ 97 ∷ 117 ∷ 116 ∷ 104 ∷ 111 ∷ 114 ∷ 105 ∷ 116 ∷ 121 ∷ 1 ∷ 104 ∷ 39 ∷ 0 ∷ 58 ∷ 109 ∷ 101 ∷ 116 ∷ 104 ∷ 111 ∷ 100 ∷ 7 ∷ 67 ∷ 79 ∷ 78 ∷ 78 ∷ 69 ∷ 67 ∷ 84 ∷ 37 ∷ 58 ∷ 112 ∷ 97 ∷ 116 ∷ 104 ∷ 1 ∷ 47 ∷ 39 ∷ 2 ∷ 58 ∷ 112 ∷ 114 ∷ 111 ∷ 116 ∷ 111 ∷ 99 ∷ 111 ∷ 108 ∷ 12 ∷ 119 ∷ 101 ∷ 98 ∷ 116 ∷ 114 ∷ 97 ∷ 110 ∷ 115 ∷ 112 ∷ 111 ∷ 114 ∷ 116 ∷ 39 ∷ 0 ∷ 58 ∷ 115 ∷ 99 ∷ 104 ∷ 101 ∷ 109 ∷ 101 ∷ 5 ∷ 104 ∷ 116 ∷ 116 ∷ 112 ∷ 115 ∷ []) ∷ []) ∷ answer replies.Done ([]) ∷ answer (replies.Session 0) ([]) ∷ answer (replies.Opening 6) (actions.Opened 6 ∷ []) ∷ []); is_all = true }
unfolding computed parsed
emit_117 = refl

pub emit_15 : run Client (turns.Call (calls.Connect ((104 ∷ 116 ∷ 116 ∷ 112 ∷ 115 ∷ 58 ∷ 47 ∷ 47 ∷ 104 ∷ []), ([])) (lookups.Found (addresses.V4 1 443)) outcomes.Proceed) ∷ turns.Connected 9 9 1000 (facts.Limit 1200) ∷ turns.PeerUni ∷ turns.Bytes 3 (0 ∷ 4 ∷ 0 ∷ []) ∷ turns.Call calls.Handshake ∷ turns.Bytes 0 (1 ∷ 15 ∷ 0 ∷ 0 ∷ 39 ∷ 0 ∷ 58 ∷ 115 ∷ 116 ∷ 97 ∷ 116 ∷ 117 ∷ 115 ∷ 3 ∷ 50 ∷ 48 ∷ 52 ∷ []) ∷ turns.Call calls.Handshake ∷ turns.Call (calls.ReadExact 3 9) ∷ []) ≡ record { answers = (answer replies.Pending (actions.Dial (addresses.V4 1 443) (104 ∷ []) ∷ []) ∷ answer replies.Done (actions.Opened 2 ∷ actions.Send 2 (0 ∷ 4 ∷ 22 ∷ 1 ∷ 0 ∷ 7 ∷ 0 ∷ 8 ∷ 1 ∷ 51 ∷ 1 ∷ 171 ∷ 96 ∷ 55 ∷ 66 ∷ 1 ∷ 192 ∷ 0 ∷ 0 ∷ 0 ∷ 198 ∷ 113 ∷ 112 ∷ 106 ∷ 4 ∷ []) ∷ []) ∷ answer replies.Done ([]) ∷ answer replies.Done ([]) ∷ answer replies.Pending (actions.Opened 0 ∷ actions.Send 0 (1 ∷ 64 ∷ 80 ∷ 0 ∷ 0 ∷ 39 ∷ 3 ∷ 58 ∷ 97 ∷ 117 ∷ 116 ∷ 104 ∷ 111 ∷ 114 ∷ 105 ∷ 116 ∷ 121 ∷ 1 ∷ 104 ∷ 39 ∷ 0 ∷ 58 ∷ 109 ∷ 101 ∷ 116 ∷ 104 ∷ 111 ∷ 100 ∷ 7 ∷ 67 ∷ 79 ∷ 78 ∷ 78 ∷ 69 ∷ 67 ∷ 84 ∷ 37 ∷ 58 ∷ 112 ∷ 97 ∷ 116 ∷ 104 ∷ 1 ∷ 47 ∷ 39 ∷ 2 ∷ 58 ∷ 112 ∷ 114 ∷ 111 ∷ 116 ∷ 111 ∷ 99 ∷ 111 ∷ 108 ∷ 12 ∷ 119 ∷ 101 ∷ 98 ∷ 116 ∷ 114 ∷ 97 ∷ 110 ∷ 115 ∷ 112 ∷ 111 ∷ 114 ∷ 116 ∷ 39 ∷ 0 ∷ 58 ∷ 115 ∷ 99 ∷ 104 ∷ 101 ∷ 109 ∷ 101 ∷ 5 ∷ 104 ∷ 116 ∷ 116 ∷ 112 ∷ 115 ∷ []) ∷ []) ∷ answer replies.Done ([]) ∷ answer (replies.Session 0) ([]) ∷ answer replies.NoStream ([]) ∷ []); is_all = true }
unfolding computed parsed
emit_15 = refl

pub emit_16 : run Server (turns.Connected 3 2 100 (facts.Limit 5) ∷ turns.PeerUni ∷ turns.Bytes 2 (0 ∷ 4 ∷ 0 ∷ []) ∷ turns.PeerBi ∷ turns.Bytes 0 (1 ∷ 64 ∷ 80 ∷ 0 ∷ 0 ∷ 39 ∷ 3 ∷ 58 ∷ 97 ∷ 117 ∷ 116 ∷ 104 ∷ 111 ∷ 114 ∷ 105 ∷ 116 ∷ 121 ∷ 1 ∷ 104 ∷ 39 ∷ 0 ∷ 58 ∷ 109 ∷ 101 ∷ 116 ∷ 104 ∷ 111 ∷ 100 ∷ 7 ∷ 67 ∷ 79 ∷ 78 ∷ 78 ∷ 69 ∷ 67 ∷ 84 ∷ 37 ∷ 58 ∷ 112 ∷ 97 ∷ 116 ∷ 104 ∷ 1 ∷ 47 ∷ 39 ∷ 2 ∷ 58 ∷ 112 ∷ 114 ∷ 111 ∷ 116 ∷ 111 ∷ 99 ∷ 111 ∷ 108 ∷ 12 ∷ 119 ∷ 101 ∷ 98 ∷ 116 ∷ 114 ∷ 97 ∷ 110 ∷ 115 ∷ 112 ∷ 111 ∷ 114 ∷ 116 ∷ 39 ∷ 0 ∷ 58 ∷ 115 ∷ 99 ∷ 104 ∷ 101 ∷ 109 ∷ 101 ∷ 5 ∷ 104 ∷ 116 ∷ 116 ∷ 112 ∷ 115 ∷ []) ∷ turns.Call calls.Incoming ∷ turns.Call (calls.Accept ([])) ∷ turns.Call calls.Incoming ∷ turns.MaxData 3 200 ∷ turns.End 2 ∷ turns.Call (calls.OpenBi (Some 16)) ∷ turns.Call (calls.OpenBi None) ∷ turns.Call (calls.WriteAll 3 (97 ∷ 98 ∷ 99 ∷ 100 ∷ 101 ∷ [])) ∷ turns.Call (calls.PollOpening 2) ∷ turns.Bytes 0 ([]) ∷ turns.Call (calls.Write 0 ([])) ∷ turns.MaxBi 2 ∷ turns.Call calls.Incoming ∷ turns.Bytes 0 (0 ∷ 80 ∷ []) ∷ turns.Bytes 0 (1 ∷ []) ∷ turns.Bytes 0 (0 ∷ 7 ∷ 104 ∷ 67 ∷ 4 ∷ 0 ∷ 0 ∷ 0 ∷ 0 ∷ []) ∷ turns.Bytes 0 (0 ∷ 3 ∷ 104 ∷ 67 ∷ 7 ∷ []) ∷ turns.Bytes 0 (0 ∷ 1 ∷ []) ∷ turns.End 0 ∷ turns.PeerUni ∷ turns.Datagram (1 ∷ 97 ∷ []) ∷ turns.Call (calls.OpenBi (Some 0)) ∷ turns.Call (calls.PollOpening 2) ∷ turns.Bytes 6 (64 ∷ 84 ∷ 0 ∷ []) ∷ turns.Call (calls.StopRecv 2 300) ∷ turns.Call (calls.SessionId None) ∷ turns.Bytes 6 (64 ∷ 84 ∷ 0 ∷ []) ∷ turns.Call (calls.OpenBi (Some 16)) ∷ turns.Call (calls.Write 6 ([])) ∷ turns.Call (calls.EndSession None) ∷ turns.Bytes 6 (0 ∷ 33 ∷ 0 ∷ []) ∷ turns.Bytes 6 (64 ∷ []) ∷ turns.Bytes 6 (84 ∷ 8 ∷ []) ∷ turns.Call (calls.AcceptBi None) ∷ turns.PeerUni ∷ []) ≡ record { answers = (answer replies.Done (actions.Opened 3 ∷ actions.Send 3 (0 ∷ 4 ∷ 22 ∷ 1 ∷ 0 ∷ 7 ∷ 0 ∷ 8 ∷ 1 ∷ 51 ∷ 1 ∷ 171 ∷ 96 ∷ 55 ∷ 66 ∷ 1 ∷ 192 ∷ 0 ∷ 0 ∷ 0 ∷ 198 ∷ 113 ∷ 112 ∷ 106 ∷ 4 ∷ []) ∷ []) ∷ answer replies.Done ([]) ∷ answer replies.Done ([]) ∷ answer replies.Done ([]) ∷ answer replies.Done ([]) ∷ answer (replies.Request 0 (((58 ∷ 97 ∷ 117 ∷ 116 ∷ 104 ∷ 111 ∷ 114 ∷ 105 ∷ 116 ∷ 121 ∷ []), (104 ∷ [])) ∷ ((58 ∷ 109 ∷ 101 ∷ 116 ∷ 104 ∷ 111 ∷ 100 ∷ []), (67 ∷ 79 ∷ 78 ∷ 78 ∷ 69 ∷ 67 ∷ 84 ∷ [])) ∷ ((58 ∷ 112 ∷ 97 ∷ 116 ∷ 104 ∷ []), (47 ∷ [])) ∷ ((58 ∷ 112 ∷ 114 ∷ 111 ∷ 116 ∷ 111 ∷ 99 ∷ 111 ∷ 108 ∷ []), (119 ∷ 101 ∷ 98 ∷ 116 ∷ 114 ∷ 97 ∷ 110 ∷ 115 ∷ 112 ∷ 111 ∷ 114 ∷ 116 ∷ [])) ∷ ((58 ∷ 115 ∷ 99 ∷ 104 ∷ 101 ∷ 109 ∷ 101 ∷ []), (104 ∷ 116 ∷ 116 ∷ 112 ∷ 115 ∷ [])) ∷ [])) ([]) ∷ answer (replies.Session 0) (actions.Send 0 (1 ∷ 15 ∷ 0 ∷ 0 ∷ 39 ∷ 0 ∷ 58 ∷ 115 ∷ 116 ∷ 97 ∷ 116 ∷ 117 ∷ 115 ∷ 3 ∷ 50 ∷ 48 ∷ 48 ∷ []) ∷ []) ∷ answer replies.Pending ([]) ∷ answer replies.Done ([]) ∷ answer replies.Done (actions.Close 260 ([]) ∷ []) ∷ answer replies.NoSession ([]) ∷ answer (replies.Failed errors.LocallyClosed) ([]) ∷ answer replies.NoStream ([]) ∷ answer replies.NoStream ([]) ∷ answer replies.Done ([]) ∷ answer replies.NoStream ([]) ∷ answer replies.Done ([]) ∷ answer (replies.Failed (errors.LocalH3Error h3.ClosedCriticalStream)) ([]) ∷ answer replies.Done ([]) ∷ answer replies.Done ([]) ∷ answer replies.Done ([]) ∷ answer replies.Done ([]) ∷ answer replies.Done ([]) ∷ answer replies.Done ([]) ∷ answer replies.Done ([]) ∷ answer replies.Done ([]) ∷ answer (replies.Failed errors.LocallyClosed) ([]) ∷ answer replies.NoStream ([]) ∷ answer replies.Done ([]) ∷ answer replies.NoStream ([]) ∷ answer (replies.Id 0) ([]) ∷ answer replies.Done ([]) ∷ answer replies.NoSession ([]) ∷ answer replies.NoStream ([]) ∷ answer replies.Done ([]) ∷ answer replies.Done ([]) ∷ answer replies.Done ([]) ∷ answer replies.Done ([]) ∷ answer (replies.Failed (errors.LocalH3Error h3.ClosedCriticalStream)) ([]) ∷ answer replies.Done ([]) ∷ []); is_all = true }
unfolding computed
emit_16 = refl

pub emit_17 : run Client (turns.Call (calls.Connect ((104 ∷ 116 ∷ 116 ∷ 112 ∷ 115 ∷ 58 ∷ 47 ∷ 47 ∷ 104 ∷ []), ([])) (lookups.Found (addresses.V4 1 443)) outcomes.Proceed) ∷ turns.Connected 9 9 100 (facts.Limit 1200) ∷ turns.PeerUni ∷ turns.Bytes 3 (0 ∷ 4 ∷ 0 ∷ []) ∷ turns.Call calls.Handshake ∷ turns.Bytes 0 (1 ∷ 15 ∷ 0 ∷ 0 ∷ 39 ∷ 0 ∷ 58 ∷ 115 ∷ 116 ∷ 97 ∷ 116 ∷ 117 ∷ 115 ∷ 3 ∷ 50 ∷ 48 ∷ 48 ∷ []) ∷ turns.Call calls.Handshake ∷ turns.Call (calls.ReceiveDatagram None) ∷ turns.Call (calls.PollOpening 7) ∷ turns.Datagram (0 ∷ 121 ∷ 111 ∷ []) ∷ turns.Call (calls.ResetSend 0 0) ∷ turns.Call (calls.ReceiveDatagram None) ∷ turns.Call (calls.AcceptBi None) ∷ turns.Bytes 0 (1 ∷ 0 ∷ []) ∷ turns.MaxData 0 105 ∷ turns.Bytes 0 (33 ∷ 1 ∷ 97 ∷ []) ∷ turns.Call (calls.SetPriority 7 (negsuc 4)) ∷ turns.Call (calls.SessionId (Some 0)) ∷ turns.Bytes 3 (7 ∷ 2 ∷ 97 ∷ 98 ∷ []) ∷ turns.Call (calls.AcceptUni (Some 16)) ∷ turns.Call (calls.ResetSend 0 7) ∷ turns.End 0 ∷ turns.Call (calls.PollOpening 7) ∷ turns.PeerUni ∷ turns.Call (calls.ReceiveDatagram (Some 0)) ∷ turns.PeerBi ∷ turns.End 7 ∷ turns.PeerBi ∷ turns.Call (calls.AcceptBi (Some 8)) ∷ turns.Bytes 1 (64 ∷ 65 ∷ 0 ∷ []) ∷ turns.PeerBi ∷ turns.MaxBi 9 ∷ turns.Bytes 5 (64 ∷ 65 ∷ 4 ∷ 120 ∷ 121 ∷ 122 ∷ []) ∷ turns.PeerBi ∷ turns.Bytes 3 (7 ∷ 2 ∷ []) ∷ turns.Call (calls.ReadExact 13 1) ∷ turns.Call (calls.Read 5 2) ∷ turns.PeerUni ∷ turns.Call (calls.AcceptBi (Some 12)) ∷ turns.Call (calls.ReadExact 11 0) ∷ []) ≡ record { answers = (answer replies.Pending (actions.Dial (addresses.V4 1 443) (104 ∷ []) ∷ []) ∷ answer replies.Done (actions.Opened 2 ∷ actions.Send 2 (0 ∷ 4 ∷ 22 ∷ 1 ∷ 0 ∷ 7 ∷ 0 ∷ 8 ∷ 1 ∷ 51 ∷ 1 ∷ 171 ∷ 96 ∷ 55 ∷ 66 ∷ 1 ∷ 192 ∷ 0 ∷ 0 ∷ 0 ∷ 198 ∷ 113 ∷ 112 ∷ 106 ∷ 4 ∷ []) ∷ []) ∷ answer replies.Done ([]) ∷ answer replies.Done ([]) ∷ answer replies.Pending (actions.Opened 0 ∷ actions.Send 0 (1 ∷ 64 ∷ 80 ∷ 0 ∷ 0 ∷ 39 ∷ 3 ∷ 58 ∷ 97 ∷ 117 ∷ 116 ∷ 104 ∷ 111 ∷ 114 ∷ 105 ∷ 116 ∷ 121 ∷ 1 ∷ 104 ∷ 39 ∷ 0 ∷ 58 ∷ 109 ∷ 101 ∷ 116 ∷ 104 ∷ 111 ∷ 100 ∷ 7 ∷ 67 ∷ 79 ∷ 78 ∷ 78 ∷ 69 ∷ 67 ∷ 84 ∷ 37 ∷ 58 ∷ 112 ∷ 97 ∷ 116 ∷ 104 ∷ 1 ∷ 47 ∷ 39 ∷ 2 ∷ 58 ∷ 112 ∷ 114 ∷ 111 ∷ 116 ∷ 111 ∷ 99 ∷ 111 ∷ 108 ∷ 12 ∷ 119 ∷ 101 ∷ 98 ∷ 116 ∷ 114 ∷ 97 ∷ 110 ∷ 115 ∷ 112 ∷ 111 ∷ 114 ∷ 116 ∷ 39 ∷ 0 ∷ 58 ∷ 115 ∷ 99 ∷ 104 ∷ 101 ∷ 109 ∷ 101 ∷ 5 ∷ 104 ∷ 116 ∷ 116 ∷ 112 ∷ 115 ∷ []) ∷ []) ∷ answer replies.Done ([]) ∷ answer (replies.Session 0) ([]) ∷ answer replies.Pending ([]) ∷ answer replies.NoStream ([]) ∷ answer replies.Done ([]) ∷ answer replies.NoStream ([]) ∷ answer (replies.Datagram (121 ∷ 111 ∷ [])) ([]) ∷ answer replies.Pending ([]) ∷ answer replies.Done ([]) ∷ answer replies.Done ([]) ∷ answer replies.Done ([]) ∷ answer replies.NoStream ([]) ∷ answer (replies.Id 0) ([]) ∷ answer replies.Done ([]) ∷ answer replies.NoSession ([]) ∷ answer replies.NoStream ([]) ∷ answer replies.Done (actions.Finish 0 ∷ []) ∷ answer replies.NoStream ([]) ∷ answer replies.Done ([]) ∷ answer (replies.Failed (errors.ApplicationClosed (record { code = 0; reason = ([]) }))) ([]) ∷ answer replies.Done ([]) ∷ answer replies.Done ([]) ∷ answer replies.Done ([]) ∷ answer replies.NoSession ([]) ∷ answer replies.Done (actions.StopOut 1 386759528 ∷ []) ∷ answer replies.Done ([]) ∷ answer replies.Done ([]) ∷ answer replies.Done ([]) ∷ answer replies.Done ([]) ∷ answer replies.Done ([]) ∷ answer replies.NoStream ([]) ∷ answer replies.NoStream ([]) ∷ answer replies.Done ([]) ∷ answer replies.NoSession ([]) ∷ answer replies.NoStream ([]) ∷ []); is_all = true }
unfolding computed parsed
emit_17 = refl

pub emit_19 : run Server (turns.Connected 9 9 25 (facts.Limit 1200) ∷ turns.PeerUni ∷ turns.Bytes 2 (0 ∷ 4 ∷ 0 ∷ []) ∷ turns.PeerBi ∷ turns.Bytes 0 (1 ∷ 64 ∷ 80 ∷ 0 ∷ 0 ∷ 39 ∷ 3 ∷ 58 ∷ 97 ∷ 117 ∷ 116 ∷ 104 ∷ 111 ∷ 114 ∷ 105 ∷ 116 ∷ 121 ∷ 1 ∷ 104 ∷ 39 ∷ 0 ∷ 58 ∷ 109 ∷ 101 ∷ 116 ∷ 104 ∷ 111 ∷ 100 ∷ 7 ∷ 67 ∷ 79 ∷ 78 ∷ 78 ∷ 69 ∷ 67 ∷ 84 ∷ 37 ∷ 58 ∷ 112 ∷ 97 ∷ 116 ∷ 104 ∷ 1 ∷ 47 ∷ 39 ∷ 2 ∷ 58 ∷ 112 ∷ 114 ∷ 111 ∷ 116 ∷ 111 ∷ 99 ∷ 111 ∷ 108 ∷ 12 ∷ 119 ∷ 101 ∷ 98 ∷ 116 ∷ 114 ∷ 97 ∷ 110 ∷ 115 ∷ 112 ∷ 111 ∷ 114 ∷ 116 ∷ 39 ∷ 0 ∷ 58 ∷ 115 ∷ 99 ∷ 104 ∷ 101 ∷ 109 ∷ 101 ∷ 5 ∷ 104 ∷ 116 ∷ 116 ∷ 112 ∷ 115 ∷ []) ∷ turns.Call calls.Incoming ∷ turns.Call (calls.Accept ([])) ∷ turns.Call calls.Incoming ∷ []) ≡ record { answers = (answer replies.Done (actions.Opened 3 ∷ actions.Send 3 (0 ∷ 4 ∷ 22 ∷ 1 ∷ 0 ∷ 7 ∷ 0 ∷ 8 ∷ 1 ∷ 51 ∷ 1 ∷ 171 ∷ 96 ∷ 55 ∷ 66 ∷ 1 ∷ 192 ∷ 0 ∷ 0 ∷ 0 ∷ 198 ∷ 113 ∷ 112 ∷ 106 ∷ 4 ∷ []) ∷ []) ∷ answer replies.Done ([]) ∷ answer replies.Done ([]) ∷ answer replies.Done ([]) ∷ answer replies.Done ([]) ∷ answer (replies.Request 0 (((58 ∷ 97 ∷ 117 ∷ 116 ∷ 104 ∷ 111 ∷ 114 ∷ 105 ∷ 116 ∷ 121 ∷ []), (104 ∷ [])) ∷ ((58 ∷ 109 ∷ 101 ∷ 116 ∷ 104 ∷ 111 ∷ 100 ∷ []), (67 ∷ 79 ∷ 78 ∷ 78 ∷ 69 ∷ 67 ∷ 84 ∷ [])) ∷ ((58 ∷ 112 ∷ 97 ∷ 116 ∷ 104 ∷ []), (47 ∷ [])) ∷ ((58 ∷ 112 ∷ 114 ∷ 111 ∷ 116 ∷ 111 ∷ 99 ∷ 111 ∷ 108 ∷ []), (119 ∷ 101 ∷ 98 ∷ 116 ∷ 114 ∷ 97 ∷ 110 ∷ 115 ∷ 112 ∷ 111 ∷ 114 ∷ 116 ∷ [])) ∷ ((58 ∷ 115 ∷ 99 ∷ 104 ∷ 101 ∷ 109 ∷ 101 ∷ []), (104 ∷ 116 ∷ 116 ∷ 112 ∷ 115 ∷ [])) ∷ [])) ([]) ∷ answer (replies.Session 0) (actions.Send 0 (1 ∷ 15 ∷ 0 ∷ 0 ∷ 39 ∷ 0 ∷ 58 ∷ 115 ∷ 116 ∷ 97 ∷ 116 ∷ 117 ∷ 115 ∷ 3 ∷ 50 ∷ 48 ∷ 48 ∷ []) ∷ []) ∷ answer replies.Pending ([]) ∷ []); is_all = true }
unfolding computed
emit_19 = refl

pub emit_20 : run Server (turns.Connected 9 9 1000 facts.Disabled ∷ turns.Call (calls.WriteAll 3 (97 ∷ 98 ∷ 99 ∷ 100 ∷ 101 ∷ [])) ∷ turns.Call (calls.AcceptUni (Some 12)) ∷ turns.PeerBi ∷ turns.Call (calls.StopRecv 3 1) ∷ turns.Bytes 0 (1 ∷ 64 ∷ 108 ∷ 0 ∷ 0 ∷ 39 ∷ 3 ∷ 58 ∷ 97 ∷ 117 ∷ 116 ∷ 104 ∷ 111 ∷ 114 ∷ 105 ∷ 116 ∷ 121 ∷ 5 ∷ 111 ∷ 116 ∷ 104 ∷ 101 ∷ 114 ∷ 39 ∷ 0 ∷ 58 ∷ 109 ∷ 101 ∷ 116 ∷ 104 ∷ 111 ∷ 100 ∷ 7 ∷ 67 ∷ 79 ∷ 78 ∷ 78 ∷ 69 ∷ 67 ∷ 84 ∷ 37 ∷ 58 ∷ 112 ∷ 97 ∷ 116 ∷ 104 ∷ 2 ∷ 47 ∷ 120 ∷ 39 ∷ 2 ∷ 58 ∷ 112 ∷ 114 ∷ 111 ∷ 116 ∷ 111 ∷ 99 ∷ 111 ∷ 108 ∷ 12 ∷ 119 ∷ 101 ∷ 98 ∷ 116 ∷ 114 ∷ 97 ∷ 110 ∷ 115 ∷ 112 ∷ 111 ∷ 114 ∷ 116 ∷ 39 ∷ 0 ∷ 58 ∷ 115 ∷ 99 ∷ 104 ∷ 101 ∷ 109 ∷ 101 ∷ 5 ∷ 104 ∷ 116 ∷ 116 ∷ 112 ∷ []) ∷ turns.Bytes 0 (115 ∷ 38 ∷ 111 ∷ 114 ∷ 105 ∷ 103 ∷ 105 ∷ 110 ∷ 1 ∷ 111 ∷ 39 ∷ 3 ∷ 117 ∷ 115 ∷ 101 ∷ 114 ∷ 45 ∷ 97 ∷ 103 ∷ 101 ∷ 110 ∷ 116 ∷ 1 ∷ 117 ∷ []) ∷ turns.PeerUni ∷ turns.Datagram (2 ∷ 98 ∷ []) ∷ turns.Stop 3 7 ∷ turns.Call (calls.AcceptBi (Some 8)) ∷ turns.Call (calls.Stopped 2) ∷ turns.Bytes 0 (0 ∷ []) ∷ turns.Bytes 0 (7 ∷ []) ∷ turns.Call (calls.Read 3 2) ∷ turns.Call (calls.SessionId None) ∷ turns.Bytes 2 (64 ∷ 84 ∷ 0 ∷ []) ∷ turns.Call (calls.Write 3 (97 ∷ [])) ∷ turns.PeerBi ∷ turns.PeerUni ∷ []) ≡ record { answers = (answer replies.Done (actions.Opened 3 ∷ actions.Send 3 (0 ∷ 4 ∷ 22 ∷ 1 ∷ 0 ∷ 7 ∷ 0 ∷ 8 ∷ 1 ∷ 51 ∷ 1 ∷ 171 ∷ 96 ∷ 55 ∷ 66 ∷ 1 ∷ 192 ∷ 0 ∷ 0 ∷ 0 ∷ 198 ∷ 113 ∷ 112 ∷ 106 ∷ 4 ∷ []) ∷ []) ∷ answer replies.NoStream ([]) ∷ answer replies.NoSession ([]) ∷ answer replies.Done ([]) ∷ answer replies.NoStream ([]) ∷ answer replies.Done ([]) ∷ answer replies.Done ([]) ∷ answer replies.Done ([]) ∷ answer replies.Done ([]) ∷ answer replies.Done (actions.Close 260 ([]) ∷ []) ∷ answer replies.NoSession ([]) ∷ answer replies.NoStream ([]) ∷ answer replies.Done ([]) ∷ answer replies.Done ([]) ∷ answer replies.NoStream ([]) ∷ answer replies.NoSession ([]) ∷ answer replies.Done ([]) ∷ answer replies.NoStream ([]) ∷ answer replies.Done ([]) ∷ answer replies.Done ([]) ∷ []); is_all = true }
unfolding computed
emit_20 = refl

pub emit_21 : run Client (turns.Call (calls.Connect ((104 ∷ 116 ∷ 116 ∷ 112 ∷ 115 ∷ 58 ∷ 47 ∷ 47 ∷ 104 ∷ []), ([])) (lookups.Found (addresses.V4 1 443)) outcomes.Proceed) ∷ turns.Connected 9 9 100 facts.Disabled ∷ turns.PeerUni ∷ turns.Bytes 3 (0 ∷ 4 ∷ 0 ∷ []) ∷ turns.Call calls.Handshake ∷ turns.Bytes 0 (1 ∷ 15 ∷ 0 ∷ 0 ∷ 39 ∷ 0 ∷ 58 ∷ 115 ∷ 116 ∷ 97 ∷ 116 ∷ 117 ∷ 115 ∷ 3 ∷ 50 ∷ 48 ∷ 48 ∷ []) ∷ turns.Call calls.Handshake ∷ turns.Call (calls.OpenUni None) ∷ turns.Call (calls.ReadExact 6 2) ∷ turns.Call (calls.Read 0 1) ∷ turns.Call (calls.ReceiveDatagram (Some 4)) ∷ turns.Bytes 3 (15 ∷ 0 ∷ []) ∷ turns.Bytes 0 (1 ∷ 0 ∷ []) ∷ turns.Call (calls.MaxDatagramSize None) ∷ turns.Call (calls.OpenBi (Some 4)) ∷ turns.PeerUni ∷ turns.Call (calls.ReceiveDatagram (Some 16)) ∷ turns.PeerUni ∷ turns.Bytes 0 (0 ∷ 3 ∷ 16 ∷ 1 ∷ 122 ∷ []) ∷ turns.Bytes 11 (64 ∷ 84 ∷ 4 ∷ []) ∷ turns.PeerUni ∷ turns.Bytes 3 (7 ∷ 2 ∷ 97 ∷ 98 ∷ []) ∷ turns.MaxBi 9 ∷ turns.Call (calls.Read 11 1) ∷ turns.Reset 15 0 ∷ turns.Call (calls.OpenBi None) ∷ turns.Call (calls.Write 15 ([])) ∷ turns.Call (calls.AcceptUni (Some 4)) ∷ turns.Bytes 3 (15 ∷ 0 ∷ []) ∷ turns.Bytes 3 (7 ∷ 2 ∷ 97 ∷ 98 ∷ []) ∷ turns.Bytes 11 (97 ∷ 98 ∷ 99 ∷ []) ∷ turns.Call (calls.ReadExact 7 9) ∷ turns.MaxData 6 105 ∷ turns.Datagram (0 ∷ 121 ∷ 111 ∷ []) ∷ turns.PeerUni ∷ turns.PeerBi ∷ turns.Bytes 7 (64 ∷ 84 ∷ []) ∷ turns.Call (calls.ReceiveDatagram None) ∷ turns.Bytes 19 (64 ∷ 84 ∷ 0 ∷ 104 ∷ 101 ∷ 108 ∷ 108 ∷ 111 ∷ []) ∷ turns.Call (calls.Finish 1) ∷ []) ≡ record { answers = (answer replies.Pending (actions.Dial (addresses.V4 1 443) (104 ∷ []) ∷ []) ∷ answer replies.Done (actions.Opened 2 ∷ actions.Send 2 (0 ∷ 4 ∷ 22 ∷ 1 ∷ 0 ∷ 7 ∷ 0 ∷ 8 ∷ 1 ∷ 51 ∷ 1 ∷ 171 ∷ 96 ∷ 55 ∷ 66 ∷ 1 ∷ 192 ∷ 0 ∷ 0 ∷ 0 ∷ 198 ∷ 113 ∷ 112 ∷ 106 ∷ 4 ∷ []) ∷ []) ∷ answer replies.Done ([]) ∷ answer replies.Done ([]) ∷ answer replies.Pending (actions.Opened 0 ∷ actions.Send 0 (1 ∷ 64 ∷ 80 ∷ 0 ∷ 0 ∷ 39 ∷ 3 ∷ 58 ∷ 97 ∷ 117 ∷ 116 ∷ 104 ∷ 111 ∷ 114 ∷ 105 ∷ 116 ∷ 121 ∷ 1 ∷ 104 ∷ 39 ∷ 0 ∷ 58 ∷ 109 ∷ 101 ∷ 116 ∷ 104 ∷ 111 ∷ 100 ∷ 7 ∷ 67 ∷ 79 ∷ 78 ∷ 78 ∷ 69 ∷ 67 ∷ 84 ∷ 37 ∷ 58 ∷ 112 ∷ 97 ∷ 116 ∷ 104 ∷ 1 ∷ 47 ∷ 39 ∷ 2 ∷ 58 ∷ 112 ∷ 114 ∷ 111 ∷ 116 ∷ 111 ∷ 99 ∷ 111 ∷ 108 ∷ 12 ∷ 119 ∷ 101 ∷ 98 ∷ 116 ∷ 114 ∷ 97 ∷ 110 ∷ 115 ∷ 112 ∷ 111 ∷ 114 ∷ 116 ∷ 39 ∷ 0 ∷ 58 ∷ 115 ∷ 99 ∷ 104 ∷ 101 ∷ 109 ∷ 101 ∷ 5 ∷ 104 ∷ 116 ∷ 116 ∷ 112 ∷ 115 ∷ []) ∷ []) ∷ answer replies.Done ([]) ∷ answer (replies.Session 0) ([]) ∷ answer (replies.Opening 6) (actions.Opened 6 ∷ []) ∷ answer replies.NoStream ([]) ∷ answer replies.NoStream ([]) ∷ answer replies.NoSession ([]) ∷ answer replies.Done ([]) ∷ answer replies.Done ([]) ∷ answer (replies.Size None) ([]) ∷ answer replies.NoSession ([]) ∷ answer replies.Done ([]) ∷ answer replies.NoSession ([]) ∷ answer replies.Done ([]) ∷ answer replies.Done ([]) ∷ answer replies.Done ([]) ∷ answer replies.Done ([]) ∷ answer replies.Done ([]) ∷ answer replies.Done ([]) ∷ answer replies.NoStream ([]) ∷ answer replies.Done ([]) ∷ answer (replies.Opening 4) (actions.Opened 4 ∷ []) ∷ answer replies.NoStream ([]) ∷ answer replies.NoSession ([]) ∷ answer replies.Done ([]) ∷ answer replies.Done ([]) ∷ answer replies.Done ([]) ∷ answer replies.NoStream ([]) ∷ answer replies.Done ([]) ∷ answer replies.Done ([]) ∷ answer replies.Done ([]) ∷ answer replies.Done ([]) ∷ answer replies.Done ([]) ∷ answer (replies.Datagram (121 ∷ 111 ∷ [])) ([]) ∷ answer replies.Done ([]) ∷ answer replies.NoStream ([]) ∷ []); is_all = true }
unfolding computed parsed
emit_21 = refl

pub emit_24 : run Server (turns.Connected 3 2 100 facts.Disabled ∷ turns.Call (calls.ReadExact 9 1) ∷ turns.Datagram (0 ∷ 121 ∷ 111 ∷ []) ∷ turns.Call (calls.SetPriority 6 (pos 7)) ∷ turns.Call (calls.Read 6 2) ∷ turns.Call (calls.OpenBi None) ∷ turns.PeerUni ∷ turns.Call (calls.Read 6 3) ∷ turns.Bytes 2 (64 ∷ 84 ∷ 0 ∷ []) ∷ turns.Call (calls.SendDatagram ([]) (Some 4)) ∷ turns.Call (calls.AcceptBi None) ∷ turns.Call (calls.OpenBi (Some 8)) ∷ turns.Call (calls.AcceptUni (Some 16)) ∷ turns.Call (calls.WriteAll 6 (97 ∷ [])) ∷ turns.Datagram (0 ∷ 104 ∷ 105 ∷ []) ∷ turns.Datagram (0 ∷ 104 ∷ 105 ∷ []) ∷ turns.Datagram (0 ∷ 104 ∷ 105 ∷ []) ∷ turns.Call calls.Incoming ∷ turns.Call (calls.ReceiveDatagram (Some 4)) ∷ turns.Call (calls.ReceiveDatagram (Some 0)) ∷ turns.PeerUni ∷ turns.Call (calls.AcceptBi None) ∷ turns.Call (calls.AcceptUni (Some 4)) ∷ turns.Call (calls.Read 6 3) ∷ turns.Call (calls.Read 6 1) ∷ turns.Datagram (1 ∷ 97 ∷ []) ∷ turns.Call (calls.StopRecv 6 7) ∷ turns.PeerUni ∷ turns.Call (calls.Write 6 (97 ∷ 98 ∷ 99 ∷ 100 ∷ 101 ∷ [])) ∷ turns.End 6 ∷ turns.Call (calls.ReadExact 6 9) ∷ turns.Datagram (0 ∷ 104 ∷ 105 ∷ []) ∷ turns.Call (calls.Finish 6) ∷ turns.Call (calls.Priority 6) ∷ turns.Bytes 10 (64 ∷ []) ∷ turns.Bytes 10 (84 ∷ []) ∷ turns.Bytes 10 (122 ∷ 122 ∷ []) ∷ turns.Call (calls.PollOpening 10) ∷ turns.Call (calls.ReceiveDatagram (Some 12)) ∷ turns.Datagram (0 ∷ 104 ∷ 105 ∷ []) ∷ []) ≡ record { answers = (answer replies.Done (actions.Opened 3 ∷ actions.Send 3 (0 ∷ 4 ∷ 22 ∷ 1 ∷ 0 ∷ 7 ∷ 0 ∷ 8 ∷ 1 ∷ 51 ∷ 1 ∷ 171 ∷ 96 ∷ 55 ∷ 66 ∷ 1 ∷ 192 ∷ 0 ∷ 0 ∷ 0 ∷ 198 ∷ 113 ∷ 112 ∷ 106 ∷ 4 ∷ []) ∷ []) ∷ answer replies.NoStream ([]) ∷ answer replies.Done ([]) ∷ answer replies.NoStream ([]) ∷ answer replies.NoStream ([]) ∷ answer replies.NoSession ([]) ∷ answer replies.Done ([]) ∷ answer replies.NoStream ([]) ∷ answer replies.Done ([]) ∷ answer replies.NoSession ([]) ∷ answer replies.NoSession ([]) ∷ answer replies.NoSession ([]) ∷ answer replies.NoSession ([]) ∷ answer replies.NoStream ([]) ∷ answer replies.Done ([]) ∷ answer replies.Done ([]) ∷ answer replies.Done ([]) ∷ answer replies.Pending ([]) ∷ answer replies.NoSession ([]) ∷ answer replies.NoSession ([]) ∷ answer replies.Done ([]) ∷ answer replies.NoSession ([]) ∷ answer replies.NoSession ([]) ∷ answer replies.NoStream ([]) ∷ answer replies.NoStream ([]) ∷ answer replies.Done ([]) ∷ answer replies.NoStream ([]) ∷ answer replies.Done ([]) ∷ answer replies.NoStream ([]) ∷ answer replies.Done ([]) ∷ answer replies.NoStream ([]) ∷ answer replies.Done ([]) ∷ answer replies.NoStream ([]) ∷ answer replies.NoStream ([]) ∷ answer replies.Done ([]) ∷ answer replies.Done ([]) ∷ answer replies.Done (actions.Close 264 ([]) ∷ []) ∷ answer replies.NoSession ([]) ∷ answer replies.NoSession ([]) ∷ answer replies.Done ([]) ∷ []); is_all = true }
unfolding computed
emit_24 = refl

pub emit_28 : run Client (turns.Call (calls.Connect ((104 ∷ 116 ∷ 116 ∷ 112 ∷ 115 ∷ 58 ∷ 47 ∷ 47 ∷ 104 ∷ []), ([])) (lookups.Found (addresses.V4 1 443)) outcomes.Proceed) ∷ turns.Connected 9 9 1000 (facts.Limit 5) ∷ turns.PeerUni ∷ turns.Bytes 3 (0 ∷ 4 ∷ 0 ∷ []) ∷ turns.Call calls.Handshake ∷ turns.Bytes 0 (1 ∷ 15 ∷ 0 ∷ 0 ∷ 39 ∷ 0 ∷ 58 ∷ 115 ∷ 116 ∷ 97 ∷ 116 ∷ 117 ∷ 115 ∷ 3 ∷ 50 ∷ 48 ∷ 48 ∷ []) ∷ turns.Call calls.Handshake ∷ turns.Bytes 3 ([]) ∷ []) ≡ record { answers = (answer replies.Pending (actions.Dial (addresses.V4 1 443) (104 ∷ []) ∷ []) ∷ answer replies.Done (actions.Opened 2 ∷ actions.Send 2 (0 ∷ 4 ∷ 22 ∷ 1 ∷ 0 ∷ 7 ∷ 0 ∷ 8 ∷ 1 ∷ 51 ∷ 1 ∷ 171 ∷ 96 ∷ 55 ∷ 66 ∷ 1 ∷ 192 ∷ 0 ∷ 0 ∷ 0 ∷ 198 ∷ 113 ∷ 112 ∷ 106 ∷ 4 ∷ []) ∷ []) ∷ answer replies.Done ([]) ∷ answer replies.Done ([]) ∷ answer replies.Pending (actions.Opened 0 ∷ actions.Send 0 (1 ∷ 64 ∷ 80 ∷ 0 ∷ 0 ∷ 39 ∷ 3 ∷ 58 ∷ 97 ∷ 117 ∷ 116 ∷ 104 ∷ 111 ∷ 114 ∷ 105 ∷ 116 ∷ 121 ∷ 1 ∷ 104 ∷ 39 ∷ 0 ∷ 58 ∷ 109 ∷ 101 ∷ 116 ∷ 104 ∷ 111 ∷ 100 ∷ 7 ∷ 67 ∷ 79 ∷ 78 ∷ 78 ∷ 69 ∷ 67 ∷ 84 ∷ 37 ∷ 58 ∷ 112 ∷ 97 ∷ 116 ∷ 104 ∷ 1 ∷ 47 ∷ 39 ∷ 2 ∷ 58 ∷ 112 ∷ 114 ∷ 111 ∷ 116 ∷ 111 ∷ 99 ∷ 111 ∷ 108 ∷ 12 ∷ 119 ∷ 101 ∷ 98 ∷ 116 ∷ 114 ∷ 97 ∷ 110 ∷ 115 ∷ 112 ∷ 111 ∷ 114 ∷ 116 ∷ 39 ∷ 0 ∷ 58 ∷ 115 ∷ 99 ∷ 104 ∷ 101 ∷ 109 ∷ 101 ∷ 5 ∷ 104 ∷ 116 ∷ 116 ∷ 112 ∷ 115 ∷ []) ∷ []) ∷ answer replies.Done ([]) ∷ answer (replies.Session 0) ([]) ∷ answer replies.Done ([]) ∷ []); is_all = true }
unfolding computed parsed
emit_28 = refl

pub emit_29 : run Client (turns.Call (calls.Connect ((104 ∷ 116 ∷ 116 ∷ 112 ∷ 115 ∷ 58 ∷ 47 ∷ 47 ∷ 104 ∷ []), ([])) (lookups.Found (addresses.V4 1 443)) outcomes.Proceed) ∷ turns.Connected 9 9 1000 facts.Disabled ∷ turns.PeerUni ∷ turns.Bytes 3 (0 ∷ 4 ∷ 0 ∷ []) ∷ turns.Call calls.Handshake ∷ turns.Bytes 0 (1 ∷ 15 ∷ 0 ∷ 0 ∷ 39 ∷ 0 ∷ 58 ∷ 115 ∷ 116 ∷ 97 ∷ 116 ∷ 117 ∷ 115 ∷ 3 ∷ 50 ∷ 48 ∷ 48 ∷ []) ∷ turns.Call calls.Handshake ∷ turns.Bytes 3 (33 ∷ []) ∷ []) ≡ record { answers = (answer replies.Pending (actions.Dial (addresses.V4 1 443) (104 ∷ []) ∷ []) ∷ answer replies.Done (actions.Opened 2 ∷ actions.Send 2 (0 ∷ 4 ∷ 22 ∷ 1 ∷ 0 ∷ 7 ∷ 0 ∷ 8 ∷ 1 ∷ 51 ∷ 1 ∷ 171 ∷ 96 ∷ 55 ∷ 66 ∷ 1 ∷ 192 ∷ 0 ∷ 0 ∷ 0 ∷ 198 ∷ 113 ∷ 112 ∷ 106 ∷ 4 ∷ []) ∷ []) ∷ answer replies.Done ([]) ∷ answer replies.Done ([]) ∷ answer replies.Pending (actions.Opened 0 ∷ actions.Send 0 (1 ∷ 64 ∷ 80 ∷ 0 ∷ 0 ∷ 39 ∷ 3 ∷ 58 ∷ 97 ∷ 117 ∷ 116 ∷ 104 ∷ 111 ∷ 114 ∷ 105 ∷ 116 ∷ 121 ∷ 1 ∷ 104 ∷ 39 ∷ 0 ∷ 58 ∷ 109 ∷ 101 ∷ 116 ∷ 104 ∷ 111 ∷ 100 ∷ 7 ∷ 67 ∷ 79 ∷ 78 ∷ 78 ∷ 69 ∷ 67 ∷ 84 ∷ 37 ∷ 58 ∷ 112 ∷ 97 ∷ 116 ∷ 104 ∷ 1 ∷ 47 ∷ 39 ∷ 2 ∷ 58 ∷ 112 ∷ 114 ∷ 111 ∷ 116 ∷ 111 ∷ 99 ∷ 111 ∷ 108 ∷ 12 ∷ 119 ∷ 101 ∷ 98 ∷ 116 ∷ 114 ∷ 97 ∷ 110 ∷ 115 ∷ 112 ∷ 111 ∷ 114 ∷ 116 ∷ 39 ∷ 0 ∷ 58 ∷ 115 ∷ 99 ∷ 104 ∷ 101 ∷ 109 ∷ 101 ∷ 5 ∷ 104 ∷ 116 ∷ 116 ∷ 112 ∷ 115 ∷ []) ∷ []) ∷ answer replies.Done ([]) ∷ answer (replies.Session 0) ([]) ∷ answer replies.Done ([]) ∷ []); is_all = true }
unfolding computed parsed
emit_29 = refl

pub emit_30 : run Client (turns.Call (calls.Connect ((104 ∷ 116 ∷ 116 ∷ 112 ∷ 115 ∷ 58 ∷ 47 ∷ 47 ∷ 104 ∷ []), ([])) (lookups.Found (addresses.V4 1 443)) outcomes.Proceed) ∷ turns.Connected 9 9 1000 (facts.Limit 5) ∷ turns.PeerUni ∷ turns.Bytes 3 (0 ∷ 4 ∷ 0 ∷ []) ∷ turns.Call calls.Handshake ∷ turns.Bytes 0 (1 ∷ 15 ∷ 0 ∷ 0 ∷ 39 ∷ 0 ∷ 58 ∷ 115 ∷ 116 ∷ 97 ∷ 116 ∷ 117 ∷ 115 ∷ 3 ∷ 50 ∷ 48 ∷ 48 ∷ []) ∷ turns.Call calls.Handshake ∷ turns.Call (calls.AcceptUni None) ∷ []) ≡ record { answers = (answer replies.Pending (actions.Dial (addresses.V4 1 443) (104 ∷ []) ∷ []) ∷ answer replies.Done (actions.Opened 2 ∷ actions.Send 2 (0 ∷ 4 ∷ 22 ∷ 1 ∷ 0 ∷ 7 ∷ 0 ∷ 8 ∷ 1 ∷ 51 ∷ 1 ∷ 171 ∷ 96 ∷ 55 ∷ 66 ∷ 1 ∷ 192 ∷ 0 ∷ 0 ∷ 0 ∷ 198 ∷ 113 ∷ 112 ∷ 106 ∷ 4 ∷ []) ∷ []) ∷ answer replies.Done ([]) ∷ answer replies.Done ([]) ∷ answer replies.Pending (actions.Opened 0 ∷ actions.Send 0 (1 ∷ 64 ∷ 80 ∷ 0 ∷ 0 ∷ 39 ∷ 3 ∷ 58 ∷ 97 ∷ 117 ∷ 116 ∷ 104 ∷ 111 ∷ 114 ∷ 105 ∷ 116 ∷ 121 ∷ 1 ∷ 104 ∷ 39 ∷ 0 ∷ 58 ∷ 109 ∷ 101 ∷ 116 ∷ 104 ∷ 111 ∷ 100 ∷ 7 ∷ 67 ∷ 79 ∷ 78 ∷ 78 ∷ 69 ∷ 67 ∷ 84 ∷ 37 ∷ 58 ∷ 112 ∷ 97 ∷ 116 ∷ 104 ∷ 1 ∷ 47 ∷ 39 ∷ 2 ∷ 58 ∷ 112 ∷ 114 ∷ 111 ∷ 116 ∷ 111 ∷ 99 ∷ 111 ∷ 108 ∷ 12 ∷ 119 ∷ 101 ∷ 98 ∷ 116 ∷ 114 ∷ 97 ∷ 110 ∷ 115 ∷ 112 ∷ 111 ∷ 114 ∷ 116 ∷ 39 ∷ 0 ∷ 58 ∷ 115 ∷ 99 ∷ 104 ∷ 101 ∷ 109 ∷ 101 ∷ 5 ∷ 104 ∷ 116 ∷ 116 ∷ 112 ∷ 115 ∷ []) ∷ []) ∷ answer replies.Done ([]) ∷ answer (replies.Session 0) ([]) ∷ answer replies.Pending ([]) ∷ []); is_all = true }
unfolding computed parsed
emit_30 = refl

pub emit_35 : run Server (turns.Connected 9 2 1000 (facts.Limit 5) ∷ turns.PeerUni ∷ turns.Bytes 2 (0 ∷ 4 ∷ 0 ∷ []) ∷ turns.PeerBi ∷ turns.Bytes 0 (1 ∷ 64 ∷ 80 ∷ 0 ∷ 0 ∷ 39 ∷ 3 ∷ 58 ∷ 97 ∷ 117 ∷ 116 ∷ 104 ∷ 111 ∷ 114 ∷ 105 ∷ 116 ∷ 121 ∷ 1 ∷ 104 ∷ 39 ∷ 0 ∷ 58 ∷ 109 ∷ 101 ∷ 116 ∷ 104 ∷ 111 ∷ 100 ∷ 7 ∷ 67 ∷ 79 ∷ 78 ∷ 78 ∷ 69 ∷ 67 ∷ 84 ∷ 37 ∷ 58 ∷ 112 ∷ 97 ∷ 116 ∷ 104 ∷ 1 ∷ 47 ∷ 39 ∷ 2 ∷ 58 ∷ 112 ∷ 114 ∷ 111 ∷ 116 ∷ 111 ∷ 99 ∷ 111 ∷ 108 ∷ 12 ∷ 119 ∷ 101 ∷ 98 ∷ 116 ∷ 114 ∷ 97 ∷ 110 ∷ 115 ∷ 112 ∷ 111 ∷ 114 ∷ 116 ∷ 39 ∷ 0 ∷ 58 ∷ 115 ∷ 99 ∷ 104 ∷ 101 ∷ 109 ∷ 101 ∷ 5 ∷ 104 ∷ 116 ∷ 116 ∷ 112 ∷ 115 ∷ []) ∷ turns.Call calls.Incoming ∷ turns.Call (calls.Accept ([])) ∷ turns.Call calls.Incoming ∷ turns.PeerBi ∷ turns.Call (calls.ReadExact 6 9) ∷ turns.Call (calls.AcceptBi (Some 12)) ∷ turns.End 4 ∷ turns.Call (calls.SendDatagram (97 ∷ 98 ∷ 99 ∷ 100 ∷ []) None) ∷ turns.Bytes 2 (33 ∷ 1 ∷ 97 ∷ []) ∷ turns.Bytes 0 ([]) ∷ turns.PeerBi ∷ turns.Call (calls.Write 0 (97 ∷ 98 ∷ 99 ∷ 100 ∷ 101 ∷ [])) ∷ turns.Datagram (0 ∷ 121 ∷ 111 ∷ []) ∷ turns.PeerUni ∷ turns.Call (calls.Read 3 2) ∷ []) ≡ record { answers = (answer replies.Done (actions.Opened 3 ∷ actions.Send 3 (0 ∷ 4 ∷ 22 ∷ 1 ∷ 0 ∷ 7 ∷ 0 ∷ 8 ∷ 1 ∷ 51 ∷ 1 ∷ 171 ∷ 96 ∷ 55 ∷ 66 ∷ 1 ∷ 192 ∷ 0 ∷ 0 ∷ 0 ∷ 198 ∷ 113 ∷ 112 ∷ 106 ∷ 4 ∷ []) ∷ []) ∷ answer replies.Done ([]) ∷ answer replies.Done ([]) ∷ answer replies.Done ([]) ∷ answer replies.Done ([]) ∷ answer (replies.Request 0 (((58 ∷ 97 ∷ 117 ∷ 116 ∷ 104 ∷ 111 ∷ 114 ∷ 105 ∷ 116 ∷ 121 ∷ []), (104 ∷ [])) ∷ ((58 ∷ 109 ∷ 101 ∷ 116 ∷ 104 ∷ 111 ∷ 100 ∷ []), (67 ∷ 79 ∷ 78 ∷ 78 ∷ 69 ∷ 67 ∷ 84 ∷ [])) ∷ ((58 ∷ 112 ∷ 97 ∷ 116 ∷ 104 ∷ []), (47 ∷ [])) ∷ ((58 ∷ 112 ∷ 114 ∷ 111 ∷ 116 ∷ 111 ∷ 99 ∷ 111 ∷ 108 ∷ []), (119 ∷ 101 ∷ 98 ∷ 116 ∷ 114 ∷ 97 ∷ 110 ∷ 115 ∷ 112 ∷ 111 ∷ 114 ∷ 116 ∷ [])) ∷ ((58 ∷ 115 ∷ 99 ∷ 104 ∷ 101 ∷ 109 ∷ 101 ∷ []), (104 ∷ 116 ∷ 116 ∷ 112 ∷ 115 ∷ [])) ∷ [])) ([]) ∷ answer (replies.Session 0) (actions.Send 0 (1 ∷ 15 ∷ 0 ∷ 0 ∷ 39 ∷ 0 ∷ 58 ∷ 115 ∷ 116 ∷ 97 ∷ 116 ∷ 117 ∷ 115 ∷ 3 ∷ 50 ∷ 48 ∷ 48 ∷ []) ∷ []) ∷ answer replies.Pending ([]) ∷ answer replies.Done ([]) ∷ answer replies.NoStream ([]) ∷ answer replies.NoSession ([]) ∷ answer replies.Done ([]) ∷ answer replies.Done (actions.DatagramOut (0 ∷ 97 ∷ 98 ∷ 99 ∷ 100 ∷ []) ∷ []) ∷ answer replies.Done ([]) ∷ answer replies.Done ([]) ∷ answer replies.Done ([]) ∷ answer replies.NoStream ([]) ∷ answer replies.Done ([]) ∷ answer replies.Done ([]) ∷ answer replies.NoStream ([]) ∷ []); is_all = true }
unfolding computed
emit_35 = refl

pub emit_36 : run Server (turns.Connected 9 9 24 facts.Disabled ∷ turns.Call (calls.AcceptUni (Some 8)) ∷ turns.Call (calls.ReadExact 6 3) ∷ turns.Call (calls.ReceiveDatagram (Some 12)) ∷ turns.Datagram (0 ∷ 121 ∷ 111 ∷ []) ∷ turns.PeerUni ∷ turns.MaxBi 11 ∷ turns.Bytes 2 (64 ∷ 84 ∷ 0 ∷ 104 ∷ 101 ∷ 108 ∷ 108 ∷ 111 ∷ []) ∷ turns.MaxBi 12 ∷ turns.Bytes 2 (122 ∷ []) ∷ turns.Call (calls.SessionId None) ∷ turns.Call (calls.ReadExact 6 9) ∷ turns.Bytes 2 (122 ∷ []) ∷ turns.Call (calls.Write 6 (97 ∷ [])) ∷ turns.Call (calls.OpenUni (Some 0)) ∷ turns.Bytes 2 (122 ∷ 122 ∷ []) ∷ turns.Call (calls.SessionId (Some 4)) ∷ turns.Bytes 2 (122 ∷ 122 ∷ []) ∷ turns.Call (calls.ReadExact 6 0) ∷ turns.Call (calls.AcceptUni (Some 16)) ∷ turns.Datagram (0 ∷ 104 ∷ 105 ∷ []) ∷ turns.Call (calls.Read 6 1) ∷ turns.Call (calls.ReceiveDatagram (Some 0)) ∷ turns.Bytes 2 (122 ∷ 122 ∷ []) ∷ turns.Call (calls.PollOpening 6) ∷ turns.Call (calls.Write 6 (97 ∷ 98 ∷ 99 ∷ 100 ∷ 101 ∷ [])) ∷ turns.Bytes 2 (122 ∷ 122 ∷ []) ∷ turns.Bytes 2 (122 ∷ 122 ∷ []) ∷ turns.Call (calls.PollOpening 6) ∷ turns.Call (calls.Read 6 9) ∷ turns.PeerBi ∷ turns.Bytes 0 (64 ∷ 65 ∷ 8 ∷ []) ∷ turns.Call (calls.Read 3 1) ∷ turns.Call (calls.Read 0 9) ∷ turns.Call (calls.AcceptBi (Some 8)) ∷ turns.Bytes 2 (122 ∷ 122 ∷ []) ∷ turns.Bytes 0 (109 ∷ 111 ∷ 114 ∷ 101 ∷ []) ∷ turns.Call (calls.OpenUni None) ∷ turns.Call (calls.ReadExact 6 0) ∷ turns.Call (calls.WriteAll 0 ([])) ∷ []) ≡ record { answers = (answer replies.Done (actions.Opened 3 ∷ actions.Send 3 (0 ∷ 4 ∷ 22 ∷ 1 ∷ 0 ∷ 7 ∷ 0 ∷ 8 ∷ 1 ∷ 51 ∷ 1 ∷ 171 ∷ 96 ∷ 55 ∷ 66 ∷ 1 ∷ 192 ∷ 0 ∷ 0 ∷ 0 ∷ 198 ∷ 113 ∷ 112 ∷ 106 ∷ []) ∷ []) ∷ answer replies.NoSession ([]) ∷ answer replies.NoStream ([]) ∷ answer replies.NoSession ([]) ∷ answer replies.Done ([]) ∷ answer replies.Done ([]) ∷ answer replies.Done ([]) ∷ answer replies.Done ([]) ∷ answer replies.Done ([]) ∷ answer replies.Done ([]) ∷ answer replies.NoSession ([]) ∷ answer replies.NoStream ([]) ∷ answer replies.Done ([]) ∷ answer replies.NoStream ([]) ∷ answer replies.NoSession ([]) ∷ answer replies.Done ([]) ∷ answer replies.NoSession ([]) ∷ answer replies.Done ([]) ∷ answer replies.NoStream ([]) ∷ answer replies.NoSession ([]) ∷ answer replies.Done ([]) ∷ answer replies.NoStream ([]) ∷ answer replies.NoSession ([]) ∷ answer replies.Done ([]) ∷ answer replies.NoSession ([]) ∷ answer replies.NoStream ([]) ∷ answer replies.Done ([]) ∷ answer replies.Done ([]) ∷ answer replies.NoSession ([]) ∷ answer replies.NoStream ([]) ∷ answer replies.Done ([]) ∷ answer replies.Done ([]) ∷ answer replies.NoStream ([]) ∷ answer replies.NoStream ([]) ∷ answer replies.NoSession ([]) ∷ answer replies.Done ([]) ∷ answer replies.Done ([]) ∷ answer replies.NoSession ([]) ∷ answer replies.NoStream ([]) ∷ answer replies.NoStream ([]) ∷ []); is_all = true }
unfolding computed
emit_36 = refl

pub emit_37 : run Client (turns.Call (calls.Connect ((104 ∷ 116 ∷ 116 ∷ 112 ∷ 115 ∷ 58 ∷ 47 ∷ 47 ∷ 104 ∷ 58 ∷ 52 ∷ 52 ∷ 51 ∷ 51 ∷ 47 ∷ 112 ∷ 63 ∷ 113 ∷ []), (((58 ∷ 122 ∷ []), ([])) ∷ ((97 ∷ []), (98 ∷ [])) ∷ [])) (lookups.Found (addresses.V4 2130706433 443)) outcomes.Proceed) ∷ turns.Connected 9 0 0 (facts.Limit 5) ∷ turns.PeerBi ∷ turns.Call (calls.AcceptUni None) ∷ turns.Call (calls.PollOpening 7) ∷ turns.Call calls.Handshake ∷ turns.Call (calls.AcceptUni (Some 16)) ∷ turns.Call (calls.Finish 1) ∷ turns.Call (calls.OpenUni None) ∷ turns.Bytes 1 (64 ∷ 65 ∷ 0 ∷ 100 ∷ 97 ∷ 116 ∷ 97 ∷ []) ∷ turns.Call (calls.Read 1 2) ∷ turns.Call (calls.Write 7 (97 ∷ 98 ∷ 99 ∷ 100 ∷ 101 ∷ [])) ∷ turns.PeerUni ∷ turns.Call (calls.Read 1 3) ∷ turns.Bytes 3 (64 ∷ 84 ∷ 4 ∷ 97 ∷ 98 ∷ 99 ∷ []) ∷ turns.PeerUni ∷ turns.Call (calls.AcceptBi None) ∷ turns.Bytes 3 (122 ∷ 122 ∷ []) ∷ turns.Call (calls.AcceptUni None) ∷ turns.Bytes 3 ([]) ∷ turns.Call (calls.AcceptUni None) ∷ turns.Call (calls.Write 7 (97 ∷ 98 ∷ 99 ∷ 100 ∷ 101 ∷ [])) ∷ turns.Call (calls.Read 7 0) ∷ turns.PeerUni ∷ turns.PeerUni ∷ turns.Bytes 7 (64 ∷ 84 ∷ 0 ∷ 104 ∷ 101 ∷ 108 ∷ 108 ∷ 111 ∷ []) ∷ turns.MaxData 1 5 ∷ turns.Bytes 15 (64 ∷ 84 ∷ 8 ∷ []) ∷ turns.Call (calls.ReadExact 7 9) ∷ turns.Call (calls.AcceptBi None) ∷ turns.MaxBi 2 ∷ turns.Datagram (0 ∷ 104 ∷ 105 ∷ []) ∷ turns.Datagram (0 ∷ 104 ∷ 105 ∷ []) ∷ turns.Datagram (0 ∷ 104 ∷ 105 ∷ []) ∷ turns.Call (calls.Finish 7) ∷ turns.Call (calls.AcceptBi (Some 0)) ∷ turns.Datagram (0 ∷ 104 ∷ 105 ∷ []) ∷ turns.Call (calls.EndSession (Some 4)) ∷ turns.Call (calls.OpenUni None) ∷ turns.Bytes 3 (122 ∷ 122 ∷ []) ∷ turns.Bytes 7 (122 ∷ 122 ∷ []) ∷ turns.Bytes 7 (122 ∷ 122 ∷ []) ∷ turns.Call (calls.ReadExact 8 2) ∷ turns.Call (calls.OpenBi None) ∷ turns.Bytes 11 (64 ∷ 84 ∷ 0 ∷ []) ∷ turns.Bytes 11 (104 ∷ 101 ∷ 108 ∷ 108 ∷ 111 ∷ []) ∷ turns.Call calls.Handshake ∷ turns.MaxData 1 35 ∷ turns.Call (calls.Priority 11) ∷ turns.Bytes 1 (109 ∷ 111 ∷ 114 ∷ 101 ∷ []) ∷ turns.Bytes 7 ([]) ∷ turns.Call (calls.ResetSend 1 1) ∷ turns.PeerUni ∷ turns.PeerBi ∷ turns.DatagramLimit facts.Unsupported ∷ turns.Bytes 3 (122 ∷ 122 ∷ []) ∷ turns.Call (calls.SetPriority 7 (negsuc 4)) ∷ turns.Datagram (0 ∷ 121 ∷ 111 ∷ []) ∷ turns.Call (calls.AcceptBi (Some 8)) ∷ turns.PeerBi ∷ []) ≡ record { answers = (answer replies.Pending (actions.Dial (addresses.V4 2130706433 443) (104 ∷ []) ∷ []) ∷ answer replies.Done (actions.Opened 2 ∷ []) ∷ answer replies.Done ([]) ∷ answer replies.NoSession ([]) ∷ answer replies.NoSession ([]) ∷ answer replies.Pending ([]) ∷ answer replies.NoSession ([]) ∷ answer replies.NoStream ([]) ∷ answer replies.NoSession ([]) ∷ answer replies.Done ([]) ∷ answer replies.NoStream ([]) ∷ answer replies.NoStream ([]) ∷ answer replies.Done ([]) ∷ answer replies.NoStream ([]) ∷ answer replies.Done ([]) ∷ answer replies.Done ([]) ∷ answer replies.NoSession ([]) ∷ answer replies.Done ([]) ∷ answer replies.NoSession ([]) ∷ answer replies.Done ([]) ∷ answer replies.NoSession ([]) ∷ answer replies.NoStream ([]) ∷ answer replies.NoStream ([]) ∷ answer replies.Done ([]) ∷ answer replies.Done ([]) ∷ answer replies.Done ([]) ∷ answer replies.Done ([]) ∷ answer replies.Done ([]) ∷ answer replies.NoStream ([]) ∷ answer replies.NoSession ([]) ∷ answer replies.Done ([]) ∷ answer replies.Done ([]) ∷ answer replies.Done ([]) ∷ answer replies.Done ([]) ∷ answer replies.NoStream ([]) ∷ answer replies.NoSession ([]) ∷ answer replies.Done ([]) ∷ answer replies.NoSession ([]) ∷ answer replies.NoSession ([]) ∷ answer replies.Done ([]) ∷ answer replies.Done ([]) ∷ answer replies.Done ([]) ∷ answer replies.NoStream ([]) ∷ answer replies.NoSession ([]) ∷ answer replies.Done ([]) ∷ answer replies.Done ([]) ∷ answer replies.Pending ([]) ∷ answer replies.Done ([]) ∷ answer replies.NoStream ([]) ∷ answer replies.Done ([]) ∷ answer replies.Done ([]) ∷ answer replies.NoStream ([]) ∷ answer replies.Done ([]) ∷ answer replies.Done ([]) ∷ answer replies.Done ([]) ∷ answer replies.Done ([]) ∷ answer replies.NoStream ([]) ∷ answer replies.Done ([]) ∷ answer replies.NoSession ([]) ∷ answer replies.Done ([]) ∷ []); is_all = true }
unfolding computed parsed
emit_37 = refl

pub emit_38 : run Server (turns.Connected 9 9 1000 (facts.Limit 1200) ∷ turns.PeerUni ∷ turns.Bytes 2 (0 ∷ 4 ∷ 0 ∷ []) ∷ turns.PeerBi ∷ turns.Bytes 0 (1 ∷ 64 ∷ 80 ∷ 0 ∷ 0 ∷ 39 ∷ 3 ∷ 58 ∷ 97 ∷ 117 ∷ 116 ∷ 104 ∷ 111 ∷ 114 ∷ 105 ∷ 116 ∷ 121 ∷ 1 ∷ 104 ∷ 39 ∷ 0 ∷ 58 ∷ 109 ∷ 101 ∷ 116 ∷ 104 ∷ 111 ∷ 100 ∷ 7 ∷ 67 ∷ 79 ∷ 78 ∷ 78 ∷ 69 ∷ 67 ∷ 84 ∷ 37 ∷ 58 ∷ 112 ∷ 97 ∷ 116 ∷ 104 ∷ 1 ∷ 47 ∷ 39 ∷ 2 ∷ 58 ∷ 112 ∷ 114 ∷ 111 ∷ 116 ∷ 111 ∷ 99 ∷ 111 ∷ 108 ∷ 12 ∷ 119 ∷ 101 ∷ 98 ∷ 116 ∷ 114 ∷ 97 ∷ 110 ∷ 115 ∷ 112 ∷ 111 ∷ 114 ∷ 116 ∷ 39 ∷ 0 ∷ 58 ∷ 115 ∷ 99 ∷ 104 ∷ 101 ∷ 109 ∷ 101 ∷ 5 ∷ 104 ∷ 116 ∷ 116 ∷ 112 ∷ 115 ∷ []) ∷ turns.Call calls.Incoming ∷ turns.Call (calls.Accept ([])) ∷ turns.Call (calls.Read 3 1) ∷ []) ≡ record { answers = (answer replies.Done (actions.Opened 3 ∷ actions.Send 3 (0 ∷ 4 ∷ 22 ∷ 1 ∷ 0 ∷ 7 ∷ 0 ∷ 8 ∷ 1 ∷ 51 ∷ 1 ∷ 171 ∷ 96 ∷ 55 ∷ 66 ∷ 1 ∷ 192 ∷ 0 ∷ 0 ∷ 0 ∷ 198 ∷ 113 ∷ 112 ∷ 106 ∷ 4 ∷ []) ∷ []) ∷ answer replies.Done ([]) ∷ answer replies.Done ([]) ∷ answer replies.Done ([]) ∷ answer replies.Done ([]) ∷ answer (replies.Request 0 (((58 ∷ 97 ∷ 117 ∷ 116 ∷ 104 ∷ 111 ∷ 114 ∷ 105 ∷ 116 ∷ 121 ∷ []), (104 ∷ [])) ∷ ((58 ∷ 109 ∷ 101 ∷ 116 ∷ 104 ∷ 111 ∷ 100 ∷ []), (67 ∷ 79 ∷ 78 ∷ 78 ∷ 69 ∷ 67 ∷ 84 ∷ [])) ∷ ((58 ∷ 112 ∷ 97 ∷ 116 ∷ 104 ∷ []), (47 ∷ [])) ∷ ((58 ∷ 112 ∷ 114 ∷ 111 ∷ 116 ∷ 111 ∷ 99 ∷ 111 ∷ 108 ∷ []), (119 ∷ 101 ∷ 98 ∷ 116 ∷ 114 ∷ 97 ∷ 110 ∷ 115 ∷ 112 ∷ 111 ∷ 114 ∷ 116 ∷ [])) ∷ ((58 ∷ 115 ∷ 99 ∷ 104 ∷ 101 ∷ 109 ∷ 101 ∷ []), (104 ∷ 116 ∷ 116 ∷ 112 ∷ 115 ∷ [])) ∷ [])) ([]) ∷ answer (replies.Session 0) (actions.Send 0 (1 ∷ 15 ∷ 0 ∷ 0 ∷ 39 ∷ 0 ∷ 58 ∷ 115 ∷ 116 ∷ 97 ∷ 116 ∷ 117 ∷ 115 ∷ 3 ∷ 50 ∷ 48 ∷ 48 ∷ []) ∷ []) ∷ answer replies.NoStream ([]) ∷ []); is_all = true }
unfolding computed
emit_38 = refl

pub emit_44 : run Server (turns.Connected 9 9 1000 (facts.Limit 1200) ∷ turns.PeerUni ∷ turns.Bytes 2 (0 ∷ 4 ∷ 0 ∷ []) ∷ turns.PeerBi ∷ turns.Bytes 0 (1 ∷ 64 ∷ 80 ∷ 0 ∷ 0 ∷ 39 ∷ 3 ∷ 58 ∷ 97 ∷ 117 ∷ 116 ∷ 104 ∷ 111 ∷ 114 ∷ 105 ∷ 116 ∷ 121 ∷ 1 ∷ 104 ∷ 39 ∷ 0 ∷ 58 ∷ 109 ∷ 101 ∷ 116 ∷ 104 ∷ 111 ∷ 100 ∷ 7 ∷ 67 ∷ 79 ∷ 78 ∷ 78 ∷ 69 ∷ 67 ∷ 84 ∷ 37 ∷ 58 ∷ 112 ∷ 97 ∷ 116 ∷ 104 ∷ 1 ∷ 47 ∷ 39 ∷ 2 ∷ 58 ∷ 112 ∷ 114 ∷ 111 ∷ 116 ∷ 111 ∷ 99 ∷ 111 ∷ 108 ∷ 12 ∷ 119 ∷ 101 ∷ 98 ∷ 116 ∷ 114 ∷ 97 ∷ 110 ∷ 115 ∷ 112 ∷ 111 ∷ 114 ∷ 116 ∷ 39 ∷ 0 ∷ 58 ∷ 115 ∷ 99 ∷ 104 ∷ 101 ∷ 109 ∷ 101 ∷ 5 ∷ 104 ∷ 116 ∷ 116 ∷ 112 ∷ 115 ∷ []) ∷ turns.PeerUni ∷ turns.Bytes 6 (64 ∷ 84 ∷ 0 ∷ []) ∷ turns.Call calls.Incoming ∷ turns.Call (calls.Accept ([])) ∷ turns.Call calls.Incoming ∷ []) ≡ record { answers = (answer replies.Done (actions.Opened 3 ∷ actions.Send 3 (0 ∷ 4 ∷ 22 ∷ 1 ∷ 0 ∷ 7 ∷ 0 ∷ 8 ∷ 1 ∷ 51 ∷ 1 ∷ 171 ∷ 96 ∷ 55 ∷ 66 ∷ 1 ∷ 192 ∷ 0 ∷ 0 ∷ 0 ∷ 198 ∷ 113 ∷ 112 ∷ 106 ∷ 4 ∷ []) ∷ []) ∷ answer replies.Done ([]) ∷ answer replies.Done ([]) ∷ answer replies.Done ([]) ∷ answer replies.Done ([]) ∷ answer replies.Done ([]) ∷ answer replies.Done ([]) ∷ answer (replies.Request 0 (((58 ∷ 97 ∷ 117 ∷ 116 ∷ 104 ∷ 111 ∷ 114 ∷ 105 ∷ 116 ∷ 121 ∷ []), (104 ∷ [])) ∷ ((58 ∷ 109 ∷ 101 ∷ 116 ∷ 104 ∷ 111 ∷ 100 ∷ []), (67 ∷ 79 ∷ 78 ∷ 78 ∷ 69 ∷ 67 ∷ 84 ∷ [])) ∷ ((58 ∷ 112 ∷ 97 ∷ 116 ∷ 104 ∷ []), (47 ∷ [])) ∷ ((58 ∷ 112 ∷ 114 ∷ 111 ∷ 116 ∷ 111 ∷ 99 ∷ 111 ∷ 108 ∷ []), (119 ∷ 101 ∷ 98 ∷ 116 ∷ 114 ∷ 97 ∷ 110 ∷ 115 ∷ 112 ∷ 111 ∷ 114 ∷ 116 ∷ [])) ∷ ((58 ∷ 115 ∷ 99 ∷ 104 ∷ 101 ∷ 109 ∷ 101 ∷ []), (104 ∷ 116 ∷ 116 ∷ 112 ∷ 115 ∷ [])) ∷ [])) ([]) ∷ answer (replies.Session 0) (actions.Send 0 (1 ∷ 15 ∷ 0 ∷ 0 ∷ 39 ∷ 0 ∷ 58 ∷ 115 ∷ 116 ∷ 97 ∷ 116 ∷ 117 ∷ 115 ∷ 3 ∷ 50 ∷ 48 ∷ 48 ∷ []) ∷ []) ∷ answer replies.Pending ([]) ∷ []); is_all = true }
unfolding computed
emit_44 = refl
