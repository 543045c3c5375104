-- Recorded sessions: what the definitions give is what was recorded. Made by `tools/meaning lemmas`.
use Rattle.std.specs.Prelude.{[], ◌∷◌, ◌≡◌, None, Some, false, negsuc, pos, true}
use Rattle.std.proofs.Common.{refl}
use Rattle.wt_meaning.proofs.Recorded.{computed, shown}
use Rattle.wt_meaning.specs.Meaning.{run}
use Rattle.wt_meaning.specs.Rows.{answer}
use Rattle.wt_wire.specs.declared.side.Side.TheVariants.{Server}
use Rattle.wt_turn.specs.declared.action.Action.TheVariants as actions
use Rattle.wt_turn.specs.declared.call.Call.TheVariants as calls
use Rattle.wt_turn.specs.declared.stream_error.SendDatagramError.TheVariants as datagrams
use Rattle.wt_turn.specs.declared.connection_error.ConnectionError.TheVariants as errors
use Rattle.wt_turn.specs.declared.datagram_fact.DatagramFact.TheVariants as facts
use Rattle.wt_turn.specs.declared.stream_error.StreamOpeningError.TheVariants as openings
use Rattle.wt_turn.specs.declared.reply.Reply.TheVariants as replies
use Rattle.wt_turn.specs.declared.turn.Turn.TheVariants as turns
use Rattle.wt_turn.specs.declared.stream_error.StreamWriteError.TheVariants as writes

pub send_datagram_148 : shown (8 ∷ 10 ∷ 11 ∷ 12 ∷ 14 ∷ []) (run Server (turns.Connected 9 9 1000 (facts.Limit 1200) ∷ turns.PeerUni ∷ turns.Bytes 2 (0 ∷ 4 ∷ 0 ∷ []) ∷ turns.PeerBi ∷ turns.Bytes 0 (1 ∷ 64 ∷ 80 ∷ 0 ∷ 0 ∷ 39 ∷ 3 ∷ 58 ∷ 97 ∷ 117 ∷ 116 ∷ 104 ∷ 111 ∷ 114 ∷ 105 ∷ 116 ∷ 121 ∷ 1 ∷ 104 ∷ 39 ∷ 0 ∷ 58 ∷ 109 ∷ 101 ∷ 116 ∷ 104 ∷ 111 ∷ 100 ∷ 7 ∷ 67 ∷ 79 ∷ 78 ∷ 78 ∷ 69 ∷ 67 ∷ 84 ∷ 37 ∷ 58 ∷ 112 ∷ 97 ∷ 116 ∷ 104 ∷ 1 ∷ 47 ∷ 39 ∷ 2 ∷ 58 ∷ 112 ∷ 114 ∷ 111 ∷ 116 ∷ 111 ∷ 99 ∷ 111 ∷ 108 ∷ 12 ∷ 119 ∷ 101 ∷ 98 ∷ 116 ∷ 114 ∷ 97 ∷ 110 ∷ 115 ∷ 112 ∷ 111 ∷ 114 ∷ 116 ∷ 39 ∷ 0 ∷ 58 ∷ 115 ∷ 99 ∷ 104 ∷ 101 ∷ 109 ∷ 101 ∷ 5 ∷ 104 ∷ 116 ∷ 116 ∷ 112 ∷ 115 ∷ []) ∷ turns.Call calls.Incoming ∷ turns.Call (calls.Accept ([])) ∷ turns.DatagramLimit (facts.Limit 0) ∷ turns.Call (calls.MaxDatagramSize None) ∷ turns.DatagramLimit (facts.Limit 3) ∷ turns.Call (calls.MaxDatagramSize None) ∷ turns.Call (calls.SendDatagram (104 ∷ 105 ∷ []) None) ∷ turns.Call (calls.SendDatagram (97 ∷ 98 ∷ 99 ∷ []) None) ∷ turns.DatagramLimit facts.Disabled ∷ turns.Call (calls.SendDatagram ([]) None) ∷ [])) ≡ record { answers = (answer (replies.Size None) ([]) ∷ answer (replies.Size (Some 2)) ([]) ∷ answer replies.Done (actions.DatagramOut (0 ∷ 104 ∷ 105 ∷ []) ∷ []) ∷ answer (replies.DatagramFailed datagrams.TooLarge) ([]) ∷ answer (replies.DatagramFailed datagrams.Disabled) ([]) ∷ []); is_all = true }
unfolding computed
send_datagram_148 = refl

pub write_149 : shown (1 ∷ 2 ∷ 3 ∷ 4 ∷ 5 ∷ []) (run Server (turns.Connected 9 9 1000 (facts.Limit 1200) ∷ turns.Call (calls.EndpointClose 5 ([])) ∷ turns.PeerUni ∷ turns.Bytes 2 (0 ∷ 4 ∷ 0 ∷ []) ∷ turns.PeerBi ∷ turns.Bytes 0 (1 ∷ 64 ∷ 80 ∷ 0 ∷ 0 ∷ 39 ∷ 3 ∷ 58 ∷ 97 ∷ 117 ∷ 116 ∷ 104 ∷ 111 ∷ 114 ∷ 105 ∷ 116 ∷ 121 ∷ 1 ∷ 104 ∷ 39 ∷ 0 ∷ 58 ∷ 109 ∷ 101 ∷ 116 ∷ 104 ∷ 111 ∷ 100 ∷ 7 ∷ 67 ∷ 79 ∷ 78 ∷ 78 ∷ 69 ∷ 67 ∷ 84 ∷ 37 ∷ 58 ∷ 112 ∷ 97 ∷ 116 ∷ 104 ∷ 1 ∷ 47 ∷ 39 ∷ 2 ∷ 58 ∷ 112 ∷ 114 ∷ 111 ∷ 116 ∷ 111 ∷ 99 ∷ 111 ∷ 108 ∷ 12 ∷ 119 ∷ 101 ∷ 98 ∷ 116 ∷ 114 ∷ 97 ∷ 110 ∷ 115 ∷ 112 ∷ 111 ∷ 114 ∷ 116 ∷ 39 ∷ 0 ∷ 58 ∷ 115 ∷ 99 ∷ 104 ∷ 101 ∷ 109 ∷ 101 ∷ 5 ∷ 104 ∷ 116 ∷ 116 ∷ 112 ∷ 115 ∷ []) ∷ turns.Call calls.Incoming ∷ turns.Call (calls.Accept ([])) ∷ turns.PeerBi ∷ turns.Bytes 4 (33 ∷ 0 ∷ 64 ∷ 65 ∷ 0 ∷ 97 ∷ 98 ∷ 99 ∷ 100 ∷ []) ∷ turns.Call (calls.AcceptBi None) ∷ turns.Call (calls.ReadExact 4 6) ∷ turns.Call (calls.ReadExact 4 2) ∷ turns.End 4 ∷ turns.Call (calls.ReadExact 4 3) ∷ turns.Call (calls.Read 4 9) ∷ turns.Call (calls.StopRecv 4 5) ∷ turns.Call (calls.Read 4 9) ∷ turns.Call (calls.Write 4 (97 ∷ [])) ∷ [])) ≡ record { answers = (answer replies.Done (actions.Close 5 ([]) ∷ []) ∷ answer replies.Done ([]) ∷ answer replies.Done ([]) ∷ answer replies.Done ([]) ∷ answer replies.Done ([]) ∷ []); is_all = false }
unfolding computed
write_149 = refl

pub write_150 : shown (2 ∷ 3 ∷ 4 ∷ 5 ∷ []) (run Server (turns.Connected 9 9 1000 (facts.Limit 1200) ∷ turns.PeerUni ∷ turns.Call (calls.EndpointClose 5 ([])) ∷ turns.Bytes 2 (0 ∷ 4 ∷ 0 ∷ []) ∷ turns.PeerBi ∷ turns.Bytes 0 (1 ∷ 64 ∷ 80 ∷ 0 ∷ 0 ∷ 39 ∷ 3 ∷ 58 ∷ 97 ∷ 117 ∷ 116 ∷ 104 ∷ 111 ∷ 114 ∷ 105 ∷ 116 ∷ 121 ∷ 1 ∷ 104 ∷ 39 ∷ 0 ∷ 58 ∷ 109 ∷ 101 ∷ 116 ∷ 104 ∷ 111 ∷ 100 ∷ 7 ∷ 67 ∷ 79 ∷ 78 ∷ 78 ∷ 69 ∷ 67 ∷ 84 ∷ 37 ∷ 58 ∷ 112 ∷ 97 ∷ 116 ∷ 104 ∷ 1 ∷ 47 ∷ 39 ∷ 2 ∷ 58 ∷ 112 ∷ 114 ∷ 111 ∷ 116 ∷ 111 ∷ 99 ∷ 111 ∷ 108 ∷ 12 ∷ 119 ∷ 101 ∷ 98 ∷ 116 ∷ 114 ∷ 97 ∷ 110 ∷ 115 ∷ 112 ∷ 111 ∷ 114 ∷ 116 ∷ 39 ∷ 0 ∷ 58 ∷ 115 ∷ 99 ∷ 104 ∷ 101 ∷ 109 ∷ 101 ∷ 5 ∷ 104 ∷ 116 ∷ 116 ∷ 112 ∷ 115 ∷ []) ∷ turns.Call calls.Incoming ∷ turns.Call (calls.Accept ([])) ∷ turns.PeerBi ∷ turns.Bytes 4 (33 ∷ 0 ∷ 64 ∷ 65 ∷ 0 ∷ 97 ∷ 98 ∷ 99 ∷ 100 ∷ []) ∷ turns.Call (calls.AcceptBi None) ∷ turns.Call (calls.ReadExact 4 6) ∷ turns.Call (calls.ReadExact 4 2) ∷ turns.End 4 ∷ turns.Call (calls.ReadExact 4 3) ∷ turns.Call (calls.Read 4 9) ∷ turns.Call (calls.StopRecv 4 5) ∷ turns.Call (calls.Read 4 9) ∷ turns.Call (calls.Write 4 (97 ∷ [])) ∷ [])) ≡ record { answers = (answer replies.Done (actions.Close 5 ([]) ∷ []) ∷ answer replies.Done ([]) ∷ answer replies.Done ([]) ∷ answer replies.Done ([]) ∷ []); is_all = false }
unfolding computed
write_150 = refl

pub write_151 : shown (3 ∷ 4 ∷ 5 ∷ []) (run Server (turns.Connected 9 9 1000 (facts.Limit 1200) ∷ turns.PeerUni ∷ turns.Bytes 2 (0 ∷ 4 ∷ 0 ∷ []) ∷ turns.Call (calls.EndpointClose 5 ([])) ∷ turns.PeerBi ∷ turns.Bytes 0 (1 ∷ 64 ∷ 80 ∷ 0 ∷ 0 ∷ 39 ∷ 3 ∷ 58 ∷ 97 ∷ 117 ∷ 116 ∷ 104 ∷ 111 ∷ 114 ∷ 105 ∷ 116 ∷ 121 ∷ 1 ∷ 104 ∷ 39 ∷ 0 ∷ 58 ∷ 109 ∷ 101 ∷ 116 ∷ 104 ∷ 111 ∷ 100 ∷ 7 ∷ 67 ∷ 79 ∷ 78 ∷ 78 ∷ 69 ∷ 67 ∷ 84 ∷ 37 ∷ 58 ∷ 112 ∷ 97 ∷ 116 ∷ 104 ∷ 1 ∷ 47 ∷ 39 ∷ 2 ∷ 58 ∷ 112 ∷ 114 ∷ 111 ∷ 116 ∷ 111 ∷ 99 ∷ 111 ∷ 108 ∷ 12 ∷ 119 ∷ 101 ∷ 98 ∷ 116 ∷ 114 ∷ 97 ∷ 110 ∷ 115 ∷ 112 ∷ 111 ∷ 114 ∷ 116 ∷ 39 ∷ 0 ∷ 58 ∷ 115 ∷ 99 ∷ 104 ∷ 101 ∷ 109 ∷ 101 ∷ 5 ∷ 104 ∷ 116 ∷ 116 ∷ 112 ∷ 115 ∷ []) ∷ turns.Call calls.Incoming ∷ turns.Call (calls.Accept ([])) ∷ turns.PeerBi ∷ turns.Bytes 4 (33 ∷ 0 ∷ 64 ∷ 65 ∷ 0 ∷ 97 ∷ 98 ∷ 99 ∷ 100 ∷ []) ∷ turns.Call (calls.AcceptBi None) ∷ turns.Call (calls.ReadExact 4 6) ∷ turns.Call (calls.ReadExact 4 2) ∷ turns.End 4 ∷ turns.Call (calls.ReadExact 4 3) ∷ turns.Call (calls.Read 4 9) ∷ turns.Call (calls.StopRecv 4 5) ∷ turns.Call (calls.Read 4 9) ∷ turns.Call (calls.Write 4 (97 ∷ [])) ∷ [])) ≡ record { answers = (answer replies.Done (actions.Close 5 ([]) ∷ []) ∷ answer replies.Done ([]) ∷ answer replies.Done ([]) ∷ []); is_all = false }
unfolding computed
write_151 = refl

pub write_152 : shown (4 ∷ 5 ∷ []) (run Server (turns.Connected 9 9 1000 (facts.Limit 1200) ∷ turns.PeerUni ∷ turns.Bytes 2 (0 ∷ 4 ∷ 0 ∷ []) ∷ turns.PeerBi ∷ turns.Call (calls.EndpointClose 5 ([])) ∷ turns.Bytes 0 (1 ∷ 64 ∷ 80 ∷ 0 ∷ 0 ∷ 39 ∷ 3 ∷ 58 ∷ 97 ∷ 117 ∷ 116 ∷ 104 ∷ 111 ∷ 114 ∷ 105 ∷ 116 ∷ 121 ∷ 1 ∷ 104 ∷ 39 ∷ 0 ∷ 58 ∷ 109 ∷ 101 ∷ 116 ∷ 104 ∷ 111 ∷ 100 ∷ 7 ∷ 67 ∷ 79 ∷ 78 ∷ 78 ∷ 69 ∷ 67 ∷ 84 ∷ 37 ∷ 58 ∷ 112 ∷ 97 ∷ 116 ∷ 104 ∷ 1 ∷ 47 ∷ 39 ∷ 2 ∷ 58 ∷ 112 ∷ 114 ∷ 111 ∷ 116 ∷ 111 ∷ 99 ∷ 111 ∷ 108 ∷ 12 ∷ 119 ∷ 101 ∷ 98 ∷ 116 ∷ 114 ∷ 97 ∷ 110 ∷ 115 ∷ 112 ∷ 111 ∷ 114 ∷ 116 ∷ 39 ∷ 0 ∷ 58 ∷ 115 ∷ 99 ∷ 104 ∷ 101 ∷ 109 ∷ 101 ∷ 5 ∷ 104 ∷ 116 ∷ 116 ∷ 112 ∷ 115 ∷ []) ∷ turns.Call calls.Incoming ∷ turns.Call (calls.Accept ([])) ∷ turns.PeerBi ∷ turns.Bytes 4 (33 ∷ 0 ∷ 64 ∷ 65 ∷ 0 ∷ 97 ∷ 98 ∷ 99 ∷ 100 ∷ []) ∷ turns.Call (calls.AcceptBi None) ∷ turns.Call (calls.ReadExact 4 6) ∷ turns.Call (calls.ReadExact 4 2) ∷ turns.End 4 ∷ turns.Call (calls.ReadExact 4 3) ∷ turns.Call (calls.Read 4 9) ∷ turns.Call (calls.StopRecv 4 5) ∷ turns.Call (calls.Read 4 9) ∷ turns.Call (calls.Write 4 (97 ∷ [])) ∷ [])) ≡ record { answers = (answer replies.Done (actions.Close 5 ([]) ∷ []) ∷ answer replies.Done ([]) ∷ []); is_all = false }
unfolding computed
write_152 = refl

pub write_153 : shown (5 ∷ 8 ∷ 9 ∷ 13 ∷ []) (run Server (turns.Connected 9 9 1000 (facts.Limit 1200) ∷ turns.PeerUni ∷ turns.Bytes 2 (0 ∷ 4 ∷ 0 ∷ []) ∷ turns.PeerBi ∷ turns.Bytes 0 (1 ∷ 64 ∷ 80 ∷ 0 ∷ 0 ∷ 39 ∷ 3 ∷ 58 ∷ 97 ∷ 117 ∷ 116 ∷ 104 ∷ 111 ∷ 114 ∷ 105 ∷ 116 ∷ 121 ∷ 1 ∷ 104 ∷ 39 ∷ 0 ∷ 58 ∷ 109 ∷ 101 ∷ 116 ∷ 104 ∷ 111 ∷ 100 ∷ 7 ∷ 67 ∷ 79 ∷ 78 ∷ 78 ∷ 69 ∷ 67 ∷ 84 ∷ 37 ∷ 58 ∷ 112 ∷ 97 ∷ 116 ∷ 104 ∷ 1 ∷ 47 ∷ 39 ∷ 2 ∷ 58 ∷ 112 ∷ 114 ∷ 111 ∷ 116 ∷ 111 ∷ 99 ∷ 111 ∷ 108 ∷ 12 ∷ 119 ∷ 101 ∷ 98 ∷ 116 ∷ 114 ∷ 97 ∷ 110 ∷ 115 ∷ 112 ∷ 111 ∷ 114 ∷ 116 ∷ 39 ∷ 0 ∷ 58 ∷ 115 ∷ 99 ∷ 104 ∷ 101 ∷ 109 ∷ 101 ∷ 5 ∷ 104 ∷ 116 ∷ 116 ∷ 112 ∷ 115 ∷ []) ∷ turns.Call (calls.EndpointClose 5 ([])) ∷ turns.Call calls.Incoming ∷ turns.Call (calls.Accept ([])) ∷ turns.PeerBi ∷ turns.Bytes 4 (33 ∷ 0 ∷ 64 ∷ 65 ∷ 0 ∷ 97 ∷ 98 ∷ 99 ∷ 100 ∷ []) ∷ turns.Call (calls.AcceptBi None) ∷ turns.Call (calls.ReadExact 4 6) ∷ turns.Call (calls.ReadExact 4 2) ∷ turns.End 4 ∷ turns.Call (calls.ReadExact 4 3) ∷ turns.Call (calls.Read 4 9) ∷ turns.Call (calls.StopRecv 4 5) ∷ turns.Call (calls.Read 4 9) ∷ turns.Call (calls.Write 4 (97 ∷ [])) ∷ [])) ≡ record { answers = (answer replies.Done (actions.Close 5 ([]) ∷ []) ∷ answer replies.Done ([]) ∷ answer replies.Done ([]) ∷ answer replies.Done ([]) ∷ []); is_all = true }
unfolding computed
write_153 = refl

pub write_154 : shown (6 ∷ 8 ∷ 9 ∷ 13 ∷ []) (run Server (turns.Connected 9 9 1000 (facts.Limit 1200) ∷ turns.PeerUni ∷ turns.Bytes 2 (0 ∷ 4 ∷ 0 ∷ []) ∷ turns.PeerBi ∷ turns.Bytes 0 (1 ∷ 64 ∷ 80 ∷ 0 ∷ 0 ∷ 39 ∷ 3 ∷ 58 ∷ 97 ∷ 117 ∷ 116 ∷ 104 ∷ 111 ∷ 114 ∷ 105 ∷ 116 ∷ 121 ∷ 1 ∷ 104 ∷ 39 ∷ 0 ∷ 58 ∷ 109 ∷ 101 ∷ 116 ∷ 104 ∷ 111 ∷ 100 ∷ 7 ∷ 67 ∷ 79 ∷ 78 ∷ 78 ∷ 69 ∷ 67 ∷ 84 ∷ 37 ∷ 58 ∷ 112 ∷ 97 ∷ 116 ∷ 104 ∷ 1 ∷ 47 ∷ 39 ∷ 2 ∷ 58 ∷ 112 ∷ 114 ∷ 111 ∷ 116 ∷ 111 ∷ 99 ∷ 111 ∷ 108 ∷ 12 ∷ 119 ∷ 101 ∷ 98 ∷ 116 ∷ 114 ∷ 97 ∷ 110 ∷ 115 ∷ 112 ∷ 111 ∷ 114 ∷ 116 ∷ 39 ∷ 0 ∷ 58 ∷ 115 ∷ 99 ∷ 104 ∷ 101 ∷ 109 ∷ 101 ∷ 5 ∷ 104 ∷ 116 ∷ 116 ∷ 112 ∷ 115 ∷ []) ∷ turns.Call calls.Incoming ∷ turns.Call (calls.EndpointClose 5 ([])) ∷ turns.Call (calls.Accept ([])) ∷ turns.PeerBi ∷ turns.Bytes 4 (33 ∷ 0 ∷ 64 ∷ 65 ∷ 0 ∷ 97 ∷ 98 ∷ 99 ∷ 100 ∷ []) ∷ turns.Call (calls.AcceptBi None) ∷ turns.Call (calls.ReadExact 4 6) ∷ turns.Call (calls.ReadExact 4 2) ∷ turns.End 4 ∷ turns.Call (calls.ReadExact 4 3) ∷ turns.Call (calls.Read 4 9) ∷ turns.Call (calls.StopRecv 4 5) ∷ turns.Call (calls.Read 4 9) ∷ turns.Call (calls.Write 4 (97 ∷ [])) ∷ [])) ≡ record { answers = (answer replies.Done (actions.Close 5 ([]) ∷ []) ∷ answer replies.Done ([]) ∷ answer replies.Done ([]) ∷ answer replies.Done ([]) ∷ []); is_all = true }
unfolding computed
write_154 = refl

pub write_155 : shown (7 ∷ 8 ∷ 9 ∷ 13 ∷ []) (run Server (turns.Connected 9 9 1000 (facts.Limit 1200) ∷ turns.PeerUni ∷ turns.Bytes 2 (0 ∷ 4 ∷ 0 ∷ []) ∷ turns.PeerBi ∷ turns.Bytes 0 (1 ∷ 64 ∷ 80 ∷ 0 ∷ 0 ∷ 39 ∷ 3 ∷ 58 ∷ 97 ∷ 117 ∷ 116 ∷ 104 ∷ 111 ∷ 114 ∷ 105 ∷ 116 ∷ 121 ∷ 1 ∷ 104 ∷ 39 ∷ 0 ∷ 58 ∷ 109 ∷ 101 ∷ 116 ∷ 104 ∷ 111 ∷ 100 ∷ 7 ∷ 67 ∷ 79 ∷ 78 ∷ 78 ∷ 69 ∷ 67 ∷ 84 ∷ 37 ∷ 58 ∷ 112 ∷ 97 ∷ 116 ∷ 104 ∷ 1 ∷ 47 ∷ 39 ∷ 2 ∷ 58 ∷ 112 ∷ 114 ∷ 111 ∷ 116 ∷ 111 ∷ 99 ∷ 111 ∷ 108 ∷ 12 ∷ 119 ∷ 101 ∷ 98 ∷ 116 ∷ 114 ∷ 97 ∷ 110 ∷ 115 ∷ 112 ∷ 111 ∷ 114 ∷ 116 ∷ 39 ∷ 0 ∷ 58 ∷ 115 ∷ 99 ∷ 104 ∷ 101 ∷ 109 ∷ 101 ∷ 5 ∷ 104 ∷ 116 ∷ 116 ∷ 112 ∷ 115 ∷ []) ∷ turns.Call calls.Incoming ∷ turns.Call (calls.Accept ([])) ∷ turns.Call (calls.EndpointClose 5 ([])) ∷ turns.PeerBi ∷ turns.Bytes 4 (33 ∷ 0 ∷ 64 ∷ 65 ∷ 0 ∷ 97 ∷ 98 ∷ 99 ∷ 100 ∷ []) ∷ turns.Call (calls.AcceptBi None) ∷ turns.Call (calls.ReadExact 4 6) ∷ turns.Call (calls.ReadExact 4 2) ∷ turns.End 4 ∷ turns.Call (calls.ReadExact 4 3) ∷ turns.Call (calls.Read 4 9) ∷ turns.Call (calls.StopRecv 4 5) ∷ turns.Call (calls.Read 4 9) ∷ turns.Call (calls.Write 4 (97 ∷ [])) ∷ [])) ≡ record { answers = (answer replies.Done (actions.Close 5 ([]) ∷ []) ∷ answer replies.Done ([]) ∷ answer replies.Done ([]) ∷ answer replies.Done ([]) ∷ []); is_all = true }
unfolding computed
write_155 = refl

pub write_156 : shown (8 ∷ 9 ∷ 13 ∷ []) (run Server (turns.Connected 9 9 1000 (facts.Limit 1200) ∷ turns.PeerUni ∷ turns.Bytes 2 (0 ∷ 4 ∷ 0 ∷ []) ∷ turns.PeerBi ∷ turns.Bytes 0 (1 ∷ 64 ∷ 80 ∷ 0 ∷ 0 ∷ 39 ∷ 3 ∷ 58 ∷ 97 ∷ 117 ∷ 116 ∷ 104 ∷ 111 ∷ 114 ∷ 105 ∷ 116 ∷ 121 ∷ 1 ∷ 104 ∷ 39 ∷ 0 ∷ 58 ∷ 109 ∷ 101 ∷ 116 ∷ 104 ∷ 111 ∷ 100 ∷ 7 ∷ 67 ∷ 79 ∷ 78 ∷ 78 ∷ 69 ∷ 67 ∷ 84 ∷ 37 ∷ 58 ∷ 112 ∷ 97 ∷ 116 ∷ 104 ∷ 1 ∷ 47 ∷ 39 ∷ 2 ∷ 58 ∷ 112 ∷ 114 ∷ 111 ∷ 116 ∷ 111 ∷ 99 ∷ 111 ∷ 108 ∷ 12 ∷ 119 ∷ 101 ∷ 98 ∷ 116 ∷ 114 ∷ 97 ∷ 110 ∷ 115 ∷ 112 ∷ 111 ∷ 114 ∷ 116 ∷ 39 ∷ 0 ∷ 58 ∷ 115 ∷ 99 ∷ 104 ∷ 101 ∷ 109 ∷ 101 ∷ 5 ∷ 104 ∷ 116 ∷ 116 ∷ 112 ∷ 115 ∷ []) ∷ turns.Call calls.Incoming ∷ turns.Call (calls.Accept ([])) ∷ turns.PeerBi ∷ turns.Call (calls.EndpointClose 5 ([])) ∷ turns.Bytes 4 (33 ∷ 0 ∷ 64 ∷ 65 ∷ 0 ∷ 97 ∷ 98 ∷ 99 ∷ 100 ∷ []) ∷ turns.Call (calls.AcceptBi None) ∷ turns.Call (calls.ReadExact 4 6) ∷ turns.Call (calls.ReadExact 4 2) ∷ turns.End 4 ∷ turns.Call (calls.ReadExact 4 3) ∷ turns.Call (calls.Read 4 9) ∷ turns.Call (calls.StopRecv 4 5) ∷ turns.Call (calls.Read 4 9) ∷ turns.Call (calls.Write 4 (97 ∷ [])) ∷ [])) ≡ record { answers = (answer replies.Done (actions.Close 5 ([]) ∷ []) ∷ answer replies.Done ([]) ∷ answer replies.Done ([]) ∷ []); is_all = true }
unfolding computed
write_156 = refl

pub write_157 : shown (9 ∷ 13 ∷ []) (run Server (turns.Connected 9 9 1000 (facts.Limit 1200) ∷ turns.PeerUni ∷ turns.Bytes 2 (0 ∷ 4 ∷ 0 ∷ []) ∷ turns.PeerBi ∷ turns.Bytes 0 (1 ∷ 64 ∷ 80 ∷ 0 ∷ 0 ∷ 39 ∷ 3 ∷ 58 ∷ 97 ∷ 117 ∷ 116 ∷ 104 ∷ 111 ∷ 114 ∷ 105 ∷ 116 ∷ 121 ∷ 1 ∷ 104 ∷ 39 ∷ 0 ∷ 58 ∷ 109 ∷ 101 ∷ 116 ∷ 104 ∷ 111 ∷ 100 ∷ 7 ∷ 67 ∷ 79 ∷ 78 ∷ 78 ∷ 69 ∷ 67 ∷ 84 ∷ 37 ∷ 58 ∷ 112 ∷ 97 ∷ 116 ∷ 104 ∷ 1 ∷ 47 ∷ 39 ∷ 2 ∷ 58 ∷ 112 ∷ 114 ∷ 111 ∷ 116 ∷ 111 ∷ 99 ∷ 111 ∷ 108 ∷ 12 ∷ 119 ∷ 101 ∷ 98 ∷ 116 ∷ 114 ∷ 97 ∷ 110 ∷ 115 ∷ 112 ∷ 111 ∷ 114 ∷ 116 ∷ 39 ∷ 0 ∷ 58 ∷ 115 ∷ 99 ∷ 104 ∷ 101 ∷ 109 ∷ 101 ∷ 5 ∷ 104 ∷ 116 ∷ 116 ∷ 112 ∷ 115 ∷ []) ∷ turns.Call calls.Incoming ∷ turns.Call (calls.Accept ([])) ∷ turns.PeerBi ∷ turns.Bytes 4 (33 ∷ 0 ∷ 64 ∷ 65 ∷ 0 ∷ 97 ∷ 98 ∷ 99 ∷ 100 ∷ []) ∷ turns.Call (calls.EndpointClose 5 ([])) ∷ turns.Call (calls.AcceptBi None) ∷ turns.Call (calls.ReadExact 4 6) ∷ turns.Call (calls.ReadExact 4 2) ∷ turns.End 4 ∷ turns.Call (calls.ReadExact 4 3) ∷ turns.Call (calls.Read 4 9) ∷ turns.Call (calls.StopRecv 4 5) ∷ turns.Call (calls.Read 4 9) ∷ turns.Call (calls.Write 4 (97 ∷ [])) ∷ [])) ≡ record { answers = (answer replies.Done (actions.Close 5 ([]) ∷ []) ∷ answer replies.Done ([]) ∷ []); is_all = true }
unfolding computed
write_157 = refl

pub write_158 : shown (10 ∷ 13 ∷ []) (run Server (turns.Connected 9 9 1000 (facts.Limit 1200) ∷ turns.PeerUni ∷ turns.Bytes 2 (0 ∷ 4 ∷ 0 ∷ []) ∷ turns.PeerBi ∷ turns.Bytes 0 (1 ∷ 64 ∷ 80 ∷ 0 ∷ 0 ∷ 39 ∷ 3 ∷ 58 ∷ 97 ∷ 117 ∷ 116 ∷ 104 ∷ 111 ∷ 114 ∷ 105 ∷ 116 ∷ 121 ∷ 1 ∷ 104 ∷ 39 ∷ 0 ∷ 58 ∷ 109 ∷ 101 ∷ 116 ∷ 104 ∷ 111 ∷ 100 ∷ 7 ∷ 67 ∷ 79 ∷ 78 ∷ 78 ∷ 69 ∷ 67 ∷ 84 ∷ 37 ∷ 58 ∷ 112 ∷ 97 ∷ 116 ∷ 104 ∷ 1 ∷ 47 ∷ 39 ∷ 2 ∷ 58 ∷ 112 ∷ 114 ∷ 111 ∷ 116 ∷ 111 ∷ 99 ∷ 111 ∷ 108 ∷ 12 ∷ 119 ∷ 101 ∷ 98 ∷ 116 ∷ 114 ∷ 97 ∷ 110 ∷ 115 ∷ 112 ∷ 111 ∷ 114 ∷ 116 ∷ 39 ∷ 0 ∷ 58 ∷ 115 ∷ 99 ∷ 104 ∷ 101 ∷ 109 ∷ 101 ∷ 5 ∷ 104 ∷ 116 ∷ 116 ∷ 112 ∷ 115 ∷ []) ∷ turns.Call calls.Incoming ∷ turns.Call (calls.Accept ([])) ∷ turns.PeerBi ∷ turns.Bytes 4 (33 ∷ 0 ∷ 64 ∷ 65 ∷ 0 ∷ 97 ∷ 98 ∷ 99 ∷ 100 ∷ []) ∷ turns.Call (calls.AcceptBi None) ∷ turns.Call (calls.EndpointClose 5 ([])) ∷ turns.Call (calls.ReadExact 4 6) ∷ turns.Call (calls.ReadExact 4 2) ∷ turns.End 4 ∷ turns.Call (calls.ReadExact 4 3) ∷ turns.Call (calls.Read 4 9) ∷ turns.Call (calls.StopRecv 4 5) ∷ turns.Call (calls.Read 4 9) ∷ turns.Call (calls.Write 4 (97 ∷ [])) ∷ [])) ≡ record { answers = (answer replies.Done (actions.Close 5 ([]) ∷ []) ∷ answer replies.Done ([]) ∷ []); is_all = true }
unfolding computed
write_158 = refl

pub write_159 : shown (11 ∷ 13 ∷ []) (run Server (turns.Connected 9 9 1000 (facts.Limit 1200) ∷ turns.PeerUni ∷ turns.Bytes 2 (0 ∷ 4 ∷ 0 ∷ []) ∷ turns.PeerBi ∷ turns.Bytes 0 (1 ∷ 64 ∷ 80 ∷ 0 ∷ 0 ∷ 39 ∷ 3 ∷ 58 ∷ 97 ∷ 117 ∷ 116 ∷ 104 ∷ 111 ∷ 114 ∷ 105 ∷ 116 ∷ 121 ∷ 1 ∷ 104 ∷ 39 ∷ 0 ∷ 58 ∷ 109 ∷ 101 ∷ 116 ∷ 104 ∷ 111 ∷ 100 ∷ 7 ∷ 67 ∷ 79 ∷ 78 ∷ 78 ∷ 69 ∷ 67 ∷ 84 ∷ 37 ∷ 58 ∷ 112 ∷ 97 ∷ 116 ∷ 104 ∷ 1 ∷ 47 ∷ 39 ∷ 2 ∷ 58 ∷ 112 ∷ 114 ∷ 111 ∷ 116 ∷ 111 ∷ 99 ∷ 111 ∷ 108 ∷ 12 ∷ 119 ∷ 101 ∷ 98 ∷ 116 ∷ 114 ∷ 97 ∷ 110 ∷ 115 ∷ 112 ∷ 111 ∷ 114 ∷ 116 ∷ 39 ∷ 0 ∷ 58 ∷ 115 ∷ 99 ∷ 104 ∷ 101 ∷ 109 ∷ 101 ∷ 5 ∷ 104 ∷ 116 ∷ 116 ∷ 112 ∷ 115 ∷ []) ∷ turns.Call calls.Incoming ∷ turns.Call (calls.Accept ([])) ∷ turns.PeerBi ∷ turns.Bytes 4 (33 ∷ 0 ∷ 64 ∷ 65 ∷ 0 ∷ 97 ∷ 98 ∷ 99 ∷ 100 ∷ []) ∷ turns.Call (calls.AcceptBi None) ∷ turns.Call (calls.ReadExact 4 6) ∷ turns.Call (calls.EndpointClose 5 ([])) ∷ turns.Call (calls.ReadExact 4 2) ∷ turns.End 4 ∷ turns.Call (calls.ReadExact 4 3) ∷ turns.Call (calls.Read 4 9) ∷ turns.Call (calls.StopRecv 4 5) ∷ turns.Call (calls.Read 4 9) ∷ turns.Call (calls.Write 4 (97 ∷ [])) ∷ [])) ≡ record { answers = (answer replies.Done (actions.Close 5 ([]) ∷ []) ∷ answer replies.Done ([]) ∷ []); is_all = true }
unfolding computed
write_159 = refl

pub write_160 : shown (12 ∷ 13 ∷ []) (run Server (turns.Connected 9 9 1000 (facts.Limit 1200) ∷ turns.PeerUni ∷ turns.Bytes 2 (0 ∷ 4 ∷ 0 ∷ []) ∷ turns.PeerBi ∷ turns.Bytes 0 (1 ∷ 64 ∷ 80 ∷ 0 ∷ 0 ∷ 39 ∷ 3 ∷ 58 ∷ 97 ∷ 117 ∷ 116 ∷ 104 ∷ 111 ∷ 114 ∷ 105 ∷ 116 ∷ 121 ∷ 1 ∷ 104 ∷ 39 ∷ 0 ∷ 58 ∷ 109 ∷ 101 ∷ 116 ∷ 104 ∷ 111 ∷ 100 ∷ 7 ∷ 67 ∷ 79 ∷ 78 ∷ 78 ∷ 69 ∷ 67 ∷ 84 ∷ 37 ∷ 58 ∷ 112 ∷ 97 ∷ 116 ∷ 104 ∷ 1 ∷ 47 ∷ 39 ∷ 2 ∷ 58 ∷ 112 ∷ 114 ∷ 111 ∷ 116 ∷ 111 ∷ 99 ∷ 111 ∷ 108 ∷ 12 ∷ 119 ∷ 101 ∷ 98 ∷ 116 ∷ 114 ∷ 97 ∷ 110 ∷ 115 ∷ 112 ∷ 111 ∷ 114 ∷ 116 ∷ 39 ∷ 0 ∷ 58 ∷ 115 ∷ 99 ∷ 104 ∷ 101 ∷ 109 ∷ 101 ∷ 5 ∷ 104 ∷ 116 ∷ 116 ∷ 112 ∷ 115 ∷ []) ∷ turns.Call calls.Incoming ∷ turns.Call (calls.Accept ([])) ∷ turns.PeerBi ∷ turns.Bytes 4 (33 ∷ 0 ∷ 64 ∷ 65 ∷ 0 ∷ 97 ∷ 98 ∷ 99 ∷ 100 ∷ []) ∷ turns.Call (calls.AcceptBi None) ∷ turns.Call (calls.ReadExact 4 6) ∷ turns.Call (calls.ReadExact 4 2) ∷ turns.Call (calls.EndpointClose 5 ([])) ∷ turns.End 4 ∷ turns.Call (calls.ReadExact 4 3) ∷ turns.Call (calls.Read 4 9) ∷ turns.Call (calls.StopRecv 4 5) ∷ turns.Call (calls.Read 4 9) ∷ turns.Call (calls.Write 4 (97 ∷ [])) ∷ [])) ≡ record { answers = (answer replies.Done (actions.Close 5 ([]) ∷ []) ∷ answer replies.Done ([]) ∷ []); is_all = true }
unfolding computed
write_160 = refl

pub write_161 : shown (13 ∷ []) (run Server (turns.Connected 9 9 1000 (facts.Limit 1200) ∷ turns.PeerUni ∷ turns.Bytes 2 (0 ∷ 4 ∷ 0 ∷ []) ∷ turns.PeerBi ∷ turns.Bytes 0 (1 ∷ 64 ∷ 80 ∷ 0 ∷ 0 ∷ 39 ∷ 3 ∷ 58 ∷ 97 ∷ 117 ∷ 116 ∷ 104 ∷ 111 ∷ 114 ∷ 105 ∷ 116 ∷ 121 ∷ 1 ∷ 104 ∷ 39 ∷ 0 ∷ 58 ∷ 109 ∷ 101 ∷ 116 ∷ 104 ∷ 111 ∷ 100 ∷ 7 ∷ 67 ∷ 79 ∷ 78 ∷ 78 ∷ 69 ∷ 67 ∷ 84 ∷ 37 ∷ 58 ∷ 112 ∷ 97 ∷ 116 ∷ 104 ∷ 1 ∷ 47 ∷ 39 ∷ 2 ∷ 58 ∷ 112 ∷ 114 ∷ 111 ∷ 116 ∷ 111 ∷ 99 ∷ 111 ∷ 108 ∷ 12 ∷ 119 ∷ 101 ∷ 98 ∷ 116 ∷ 114 ∷ 97 ∷ 110 ∷ 115 ∷ 112 ∷ 111 ∷ 114 ∷ 116 ∷ 39 ∷ 0 ∷ 58 ∷ 115 ∷ 99 ∷ 104 ∷ 101 ∷ 109 ∷ 101 ∷ 5 ∷ 104 ∷ 116 ∷ 116 ∷ 112 ∷ 115 ∷ []) ∷ turns.Call calls.Incoming ∷ turns.Call (calls.Accept ([])) ∷ turns.PeerBi ∷ turns.Bytes 4 (33 ∷ 0 ∷ 64 ∷ 65 ∷ 0 ∷ 97 ∷ 98 ∷ 99 ∷ 100 ∷ []) ∷ turns.Call (calls.AcceptBi None) ∷ turns.Call (calls.ReadExact 4 6) ∷ turns.Call (calls.ReadExact 4 2) ∷ turns.End 4 ∷ turns.Call (calls.EndpointClose 5 ([])) ∷ turns.Call (calls.ReadExact 4 3) ∷ turns.Call (calls.Read 4 9) ∷ turns.Call (calls.StopRecv 4 5) ∷ turns.Call (calls.Read 4 9) ∷ turns.Call (calls.Write 4 (97 ∷ [])) ∷ [])) ≡ record { answers = (answer replies.Done (actions.Close 5 ([]) ∷ []) ∷ []); is_all = true }
unfolding computed
write_161 = refl

pub write_162 : shown (14 ∷ []) (run Server (turns.Connected 9 9 1000 (facts.Limit 1200) ∷ turns.PeerUni ∷ turns.Bytes 2 (0 ∷ 4 ∷ 0 ∷ []) ∷ turns.PeerBi ∷ turns.Bytes 0 (1 ∷ 64 ∷ 80 ∷ 0 ∷ 0 ∷ 39 ∷ 3 ∷ 58 ∷ 97 ∷ 117 ∷ 116 ∷ 104 ∷ 111 ∷ 114 ∷ 105 ∷ 116 ∷ 121 ∷ 1 ∷ 104 ∷ 39 ∷ 0 ∷ 58 ∷ 109 ∷ 101 ∷ 116 ∷ 104 ∷ 111 ∷ 100 ∷ 7 ∷ 67 ∷ 79 ∷ 78 ∷ 78 ∷ 69 ∷ 67 ∷ 84 ∷ 37 ∷ 58 ∷ 112 ∷ 97 ∷ 116 ∷ 104 ∷ 1 ∷ 47 ∷ 39 ∷ 2 ∷ 58 ∷ 112 ∷ 114 ∷ 111 ∷ 116 ∷ 111 ∷ 99 ∷ 111 ∷ 108 ∷ 12 ∷ 119 ∷ 101 ∷ 98 ∷ 116 ∷ 114 ∷ 97 ∷ 110 ∷ 115 ∷ 112 ∷ 111 ∷ 114 ∷ 116 ∷ 39 ∷ 0 ∷ 58 ∷ 115 ∷ 99 ∷ 104 ∷ 101 ∷ 109 ∷ 101 ∷ 5 ∷ 104 ∷ 116 ∷ 116 ∷ 112 ∷ 115 ∷ []) ∷ turns.Call calls.Incoming ∷ turns.Call (calls.Accept ([])) ∷ turns.PeerBi ∷ turns.Bytes 4 (33 ∷ 0 ∷ 64 ∷ 65 ∷ 0 ∷ 97 ∷ 98 ∷ 99 ∷ 100 ∷ []) ∷ turns.Call (calls.AcceptBi None) ∷ turns.Call (calls.ReadExact 4 6) ∷ turns.Call (calls.ReadExact 4 2) ∷ turns.End 4 ∷ turns.Call (calls.ReadExact 4 3) ∷ turns.Call (calls.EndpointClose 5 ([])) ∷ turns.Call (calls.Read 4 9) ∷ turns.Call (calls.StopRecv 4 5) ∷ turns.Call (calls.Read 4 9) ∷ turns.Call (calls.Write 4 (97 ∷ [])) ∷ [])) ≡ record { answers = (answer replies.Done (actions.Close 5 ([]) ∷ []) ∷ []); is_all = true }
unfolding computed
write_162 = refl

pub write_163 : shown (15 ∷ []) (run Server (turns.Connected 9 9 1000 (facts.Limit 1200) ∷ turns.PeerUni ∷ turns.Bytes 2 (0 ∷ 4 ∷ 0 ∷ []) ∷ turns.PeerBi ∷ turns.Bytes 0 (1 ∷ 64 ∷ 80 ∷ 0 ∷ 0 ∷ 39 ∷ 3 ∷ 58 ∷ 97 ∷ 117 ∷ 116 ∷ 104 ∷ 111 ∷ 114 ∷ 105 ∷ 116 ∷ 121 ∷ 1 ∷ 104 ∷ 39 ∷ 0 ∷ 58 ∷ 109 ∷ 101 ∷ 116 ∷ 104 ∷ 111 ∷ 100 ∷ 7 ∷ 67 ∷ 79 ∷ 78 ∷ 78 ∷ 69 ∷ 67 ∷ 84 ∷ 37 ∷ 58 ∷ 112 ∷ 97 ∷ 116 ∷ 104 ∷ 1 ∷ 47 ∷ 39 ∷ 2 ∷ 58 ∷ 112 ∷ 114 ∷ 111 ∷ 116 ∷ 111 ∷ 99 ∷ 111 ∷ 108 ∷ 12 ∷ 119 ∷ 101 ∷ 98 ∷ 116 ∷ 114 ∷ 97 ∷ 110 ∷ 115 ∷ 112 ∷ 111 ∷ 114 ∷ 116 ∷ 39 ∷ 0 ∷ 58 ∷ 115 ∷ 99 ∷ 104 ∷ 101 ∷ 109 ∷ 101 ∷ 5 ∷ 104 ∷ 116 ∷ 116 ∷ 112 ∷ 115 ∷ []) ∷ turns.Call calls.Incoming ∷ turns.Call (calls.Accept ([])) ∷ turns.PeerBi ∷ turns.Bytes 4 (33 ∷ 0 ∷ 64 ∷ 65 ∷ 0 ∷ 97 ∷ 98 ∷ 99 ∷ 100 ∷ []) ∷ turns.Call (calls.AcceptBi None) ∷ turns.Call (calls.ReadExact 4 6) ∷ turns.Call (calls.ReadExact 4 2) ∷ turns.End 4 ∷ turns.Call (calls.ReadExact 4 3) ∷ turns.Call (calls.Read 4 9) ∷ turns.Call (calls.EndpointClose 5 ([])) ∷ turns.Call (calls.StopRecv 4 5) ∷ turns.Call (calls.Read 4 9) ∷ turns.Call (calls.Write 4 (97 ∷ [])) ∷ [])) ≡ record { answers = (answer replies.Done (actions.Close 5 ([]) ∷ []) ∷ []); is_all = true }
unfolding computed
write_163 = refl

pub write_164 : shown (16 ∷ []) (run Server (turns.Connected 9 9 1000 (facts.Limit 1200) ∷ turns.PeerUni ∷ turns.Bytes 2 (0 ∷ 4 ∷ 0 ∷ []) ∷ turns.PeerBi ∷ turns.Bytes 0 (1 ∷ 64 ∷ 80 ∷ 0 ∷ 0 ∷ 39 ∷ 3 ∷ 58 ∷ 97 ∷ 117 ∷ 116 ∷ 104 ∷ 111 ∷ 114 ∷ 105 ∷ 116 ∷ 121 ∷ 1 ∷ 104 ∷ 39 ∷ 0 ∷ 58 ∷ 109 ∷ 101 ∷ 116 ∷ 104 ∷ 111 ∷ 100 ∷ 7 ∷ 67 ∷ 79 ∷ 78 ∷ 78 ∷ 69 ∷ 67 ∷ 84 ∷ 37 ∷ 58 ∷ 112 ∷ 97 ∷ 116 ∷ 104 ∷ 1 ∷ 47 ∷ 39 ∷ 2 ∷ 58 ∷ 112 ∷ 114 ∷ 111 ∷ 116 ∷ 111 ∷ 99 ∷ 111 ∷ 108 ∷ 12 ∷ 119 ∷ 101 ∷ 98 ∷ 116 ∷ 114 ∷ 97 ∷ 110 ∷ 115 ∷ 112 ∷ 111 ∷ 114 ∷ 116 ∷ 39 ∷ 0 ∷ 58 ∷ 115 ∷ 99 ∷ 104 ∷ 101 ∷ 109 ∷ 101 ∷ 5 ∷ 104 ∷ 116 ∷ 116 ∷ 112 ∷ 115 ∷ []) ∷ turns.Call calls.Incoming ∷ turns.Call (calls.Accept ([])) ∷ turns.PeerBi ∷ turns.Bytes 4 (33 ∷ 0 ∷ 64 ∷ 65 ∷ 0 ∷ 97 ∷ 98 ∷ 99 ∷ 100 ∷ []) ∷ turns.Call (calls.AcceptBi None) ∷ turns.Call (calls.ReadExact 4 6) ∷ turns.Call (calls.ReadExact 4 2) ∷ turns.End 4 ∷ turns.Call (calls.ReadExact 4 3) ∷ turns.Call (calls.Read 4 9) ∷ turns.Call (calls.StopRecv 4 5) ∷ turns.Call (calls.EndpointClose 5 ([])) ∷ turns.Call (calls.Read 4 9) ∷ turns.Call (calls.Write 4 (97 ∷ [])) ∷ [])) ≡ record { answers = (answer replies.Done (actions.Close 5 ([]) ∷ []) ∷ []); is_all = true }
unfolding computed
write_164 = refl

pub write_165 : shown (17 ∷ []) (run Server (turns.Connected 9 9 1000 (facts.Limit 1200) ∷ turns.PeerUni ∷ turns.Bytes 2 (0 ∷ 4 ∷ 0 ∷ []) ∷ turns.PeerBi ∷ turns.Bytes 0 (1 ∷ 64 ∷ 80 ∷ 0 ∷ 0 ∷ 39 ∷ 3 ∷ 58 ∷ 97 ∷ 117 ∷ 116 ∷ 104 ∷ 111 ∷ 114 ∷ 105 ∷ 116 ∷ 121 ∷ 1 ∷ 104 ∷ 39 ∷ 0 ∷ 58 ∷ 109 ∷ 101 ∷ 116 ∷ 104 ∷ 111 ∷ 100 ∷ 7 ∷ 67 ∷ 79 ∷ 78 ∷ 78 ∷ 69 ∷ 67 ∷ 84 ∷ 37 ∷ 58 ∷ 112 ∷ 97 ∷ 116 ∷ 104 ∷ 1 ∷ 47 ∷ 39 ∷ 2 ∷ 58 ∷ 112 ∷ 114 ∷ 111 ∷ 116 ∷ 111 ∷ 99 ∷ 111 ∷ 108 ∷ 12 ∷ 119 ∷ 101 ∷ 98 ∷ 116 ∷ 114 ∷ 97 ∷ 110 ∷ 115 ∷ 112 ∷ 111 ∷ 114 ∷ 116 ∷ 39 ∷ 0 ∷ 58 ∷ 115 ∷ 99 ∷ 104 ∷ 101 ∷ 109 ∷ 101 ∷ 5 ∷ 104 ∷ 116 ∷ 116 ∷ 112 ∷ 115 ∷ []) ∷ turns.Call calls.Incoming ∷ turns.Call (calls.Accept ([])) ∷ turns.PeerBi ∷ turns.Bytes 4 (33 ∷ 0 ∷ 64 ∷ 65 ∷ 0 ∷ 97 ∷ 98 ∷ 99 ∷ 100 ∷ []) ∷ turns.Call (calls.AcceptBi None) ∷ turns.Call (calls.ReadExact 4 6) ∷ turns.Call (calls.ReadExact 4 2) ∷ turns.End 4 ∷ turns.Call (calls.ReadExact 4 3) ∷ turns.Call (calls.Read 4 9) ∷ turns.Call (calls.StopRecv 4 5) ∷ turns.Call (calls.Read 4 9) ∷ turns.Call (calls.EndpointClose 5 ([])) ∷ turns.Call (calls.Write 4 (97 ∷ [])) ∷ [])) ≡ record { answers = (answer replies.Done (actions.Close 5 ([]) ∷ []) ∷ []); is_all = true }
unfolding computed
write_165 = refl

pub priority_166 : shown (7 ∷ 8 ∷ 9 ∷ 10 ∷ 11 ∷ 12 ∷ 14 ∷ 15 ∷ 16 ∷ 17 ∷ 19 ∷ 20 ∷ 21 ∷ []) (run Server (turns.Connected 9 9 25 (facts.Limit 1200) ∷ turns.PeerUni ∷ turns.Bytes 2 (0 ∷ 4 ∷ 0 ∷ []) ∷ turns.PeerBi ∷ turns.Bytes 0 (1 ∷ 64 ∷ 80 ∷ 0 ∷ 0 ∷ 39 ∷ 3 ∷ 58 ∷ 97 ∷ 117 ∷ 116 ∷ 104 ∷ 111 ∷ 114 ∷ 105 ∷ 116 ∷ 121 ∷ 1 ∷ 104 ∷ 39 ∷ 0 ∷ 58 ∷ 109 ∷ 101 ∷ 116 ∷ 104 ∷ 111 ∷ 100 ∷ 7 ∷ 67 ∷ 79 ∷ 78 ∷ 78 ∷ 69 ∷ 67 ∷ 84 ∷ 37 ∷ 58 ∷ 112 ∷ 97 ∷ 116 ∷ 104 ∷ 1 ∷ 47 ∷ 39 ∷ 2 ∷ 58 ∷ 112 ∷ 114 ∷ 111 ∷ 116 ∷ 111 ∷ 99 ∷ 111 ∷ 108 ∷ 12 ∷ 119 ∷ 101 ∷ 98 ∷ 116 ∷ 114 ∷ 97 ∷ 110 ∷ 115 ∷ 112 ∷ 111 ∷ 114 ∷ 116 ∷ 39 ∷ 0 ∷ 58 ∷ 115 ∷ 99 ∷ 104 ∷ 101 ∷ 109 ∷ 101 ∷ 5 ∷ 104 ∷ 116 ∷ 116 ∷ 112 ∷ 115 ∷ []) ∷ turns.Call calls.Incoming ∷ turns.Call (calls.Accept ([])) ∷ turns.Call (calls.OpenUni None) ∷ turns.Call (calls.PollOpening 7) ∷ turns.Call (calls.WriteAll 7 (97 ∷ 97 ∷ 97 ∷ 97 ∷ 97 ∷ 97 ∷ 97 ∷ 97 ∷ 97 ∷ 97 ∷ 97 ∷ 97 ∷ 97 ∷ 97 ∷ 97 ∷ 97 ∷ 97 ∷ 97 ∷ 97 ∷ 97 ∷ [])) ∷ turns.Call (calls.Write 7 (97 ∷ 98 ∷ 99 ∷ 100 ∷ 101 ∷ [])) ∷ turns.Call (calls.Write 7 (99 ∷ 100 ∷ 101 ∷ [])) ∷ turns.Call (calls.Write 7 ([])) ∷ turns.MaxData 7 28 ∷ turns.Call (calls.Write 7 (99 ∷ 100 ∷ 101 ∷ [])) ∷ turns.Call (calls.WriteAll 7 (97 ∷ [])) ∷ turns.Call (calls.Finish 7) ∷ turns.Call (calls.Write 7 (97 ∷ [])) ∷ turns.Acked 7 ∷ turns.Call (calls.Finish 7) ∷ turns.Call (calls.ResetSend 7 1) ∷ turns.Call (calls.Priority 7) ∷ [])) ≡ record { answers = (answer (replies.Opening 7) (actions.Opened 7 ∷ []) ∷ answer (replies.SendReady 7) (actions.Send 7 (64 ∷ 84 ∷ 0 ∷ []) ∷ []) ∷ answer replies.AllWritten (actions.Send 7 (97 ∷ 97 ∷ 97 ∷ 97 ∷ 97 ∷ 97 ∷ 97 ∷ 97 ∷ 97 ∷ 97 ∷ 97 ∷ 97 ∷ 97 ∷ 97 ∷ 97 ∷ 97 ∷ 97 ∷ 97 ∷ 97 ∷ 97 ∷ []) ∷ []) ∷ answer (replies.Written 2) (actions.Send 7 (97 ∷ 98 ∷ []) ∷ []) ∷ answer replies.Pending ([]) ∷ answer (replies.Written 0) ([]) ∷ answer (replies.Written 3) (actions.Send 7 (99 ∷ 100 ∷ 101 ∷ []) ∷ []) ∷ answer (replies.Count 0) ([]) ∷ answer replies.Pending (actions.Finish 7 ∷ []) ∷ answer (replies.WriteFailed writes.Closed) ([]) ∷ answer replies.Finished ([]) ∷ answer replies.ClosedStream ([]) ∷ answer replies.ClosedStream ([]) ∷ []); is_all = true }
unfolding computed
priority_166 = refl

pub max_uni_173 : shown (1 ∷ 2 ∷ []) (run Server (turns.Connected 0 9 1000 (facts.Limit 1200) ∷ turns.Datagram (64 ∷ []) ∷ turns.MaxUni 1 ∷ [])) ≡ record { answers = (answer replies.Done ([]) ∷ answer replies.Done (actions.Opened 3 ∷ actions.Send 3 (0 ∷ 4 ∷ 22 ∷ 1 ∷ 0 ∷ 7 ∷ 0 ∷ 8 ∷ 1 ∷ 51 ∷ 1 ∷ 171 ∷ 96 ∷ 55 ∷ 66 ∷ 1 ∷ 192 ∷ 0 ∷ 0 ∷ 0 ∷ 198 ∷ 113 ∷ 112 ∷ 106 ∷ 4 ∷ []) ∷ actions.Close 51 ([]) ∷ []) ∷ []); is_all = true }
unfolding computed
max_uni_173 = refl

pub incoming_174 : shown (5 ∷ 6 ∷ 7 ∷ 8 ∷ []) (run Server (turns.Connected 9 9 1000 (facts.Limit 1200) ∷ turns.PeerUni ∷ turns.Bytes 2 (0 ∷ 4 ∷ 0 ∷ []) ∷ turns.PeerBi ∷ turns.Bytes 0 (1 ∷ 64 ∷ 80 ∷ 0 ∷ 0 ∷ 39 ∷ 3 ∷ 58 ∷ 97 ∷ 117 ∷ 116 ∷ 104 ∷ 111 ∷ 114 ∷ 105 ∷ 116 ∷ 121 ∷ 1 ∷ 104 ∷ 39 ∷ 0 ∷ 58 ∷ 109 ∷ 101 ∷ 116 ∷ 104 ∷ 111 ∷ 100 ∷ 7 ∷ 67 ∷ 79 ∷ 78 ∷ 78 ∷ 69 ∷ 67 ∷ 84 ∷ 37 ∷ 58 ∷ 112 ∷ 97 ∷ 116 ∷ 104 ∷ 1 ∷ 47 ∷ 39 ∷ 2 ∷ 58 ∷ 112 ∷ 114 ∷ 111 ∷ 116 ∷ 111 ∷ 99 ∷ 111 ∷ 108 ∷ 12 ∷ 119 ∷ 101 ∷ 98 ∷ 116 ∷ 114 ∷ 97 ∷ 110 ∷ 115 ∷ 112 ∷ 111 ∷ 114 ∷ 116 ∷ 39 ∷ 0 ∷ 58 ∷ 115 ∷ 99 ∷ 104 ∷ 101 ∷ 109 ∷ 101 ∷ 5 ∷ 104 ∷ 116 ∷ 116 ∷ 112 ∷ 115 ∷ []) ∷ turns.Call (calls.EndpointClose 5 ([])) ∷ turns.Call calls.Incoming ∷ turns.Call (calls.Accept ([])) ∷ turns.Call calls.Incoming ∷ [])) ≡ record { answers = (answer replies.Done (actions.Close 5 ([]) ∷ []) ∷ answer (replies.Request 0 (((58 ∷ 97 ∷ 117 ∷ 116 ∷ 104 ∷ 111 ∷ 114 ∷ 105 ∷ 116 ∷ 121 ∷ []), (104 ∷ [])) ∷ ((58 ∷ 109 ∷ 101 ∷ 116 ∷ 104 ∷ 111 ∷ 100 ∷ []), (67 ∷ 79 ∷ 78 ∷ 78 ∷ 69 ∷ 67 ∷ 84 ∷ [])) ∷ ((58 ∷ 112 ∷ 97 ∷ 116 ∷ 104 ∷ []), (47 ∷ [])) ∷ ((58 ∷ 112 ∷ 114 ∷ 111 ∷ 116 ∷ 111 ∷ 99 ∷ 111 ∷ 108 ∷ []), (119 ∷ 101 ∷ 98 ∷ 116 ∷ 114 ∷ 97 ∷ 110 ∷ 115 ∷ 112 ∷ 111 ∷ 114 ∷ 116 ∷ [])) ∷ ((58 ∷ 115 ∷ 99 ∷ 104 ∷ 101 ∷ 109 ∷ 101 ∷ []), (104 ∷ 116 ∷ 116 ∷ 112 ∷ 115 ∷ [])) ∷ [])) ([]) ∷ answer (replies.Failed errors.LocallyClosed) ([]) ∷ answer (replies.Failed errors.LocallyClosed) ([]) ∷ []); is_all = true }
unfolding computed
incoming_174 = refl

pub end_session_175 : shown (7 ∷ 9 ∷ 10 ∷ 11 ∷ []) (run Server (turns.Connected 9 9 1000 (facts.Limit 1200) ∷ turns.PeerUni ∷ turns.Bytes 2 (0 ∷ 4 ∷ 0 ∷ []) ∷ turns.PeerBi ∷ turns.Bytes 0 (1 ∷ 64 ∷ 80 ∷ 0 ∷ 0 ∷ 39 ∷ 3 ∷ 58 ∷ 97 ∷ 117 ∷ 116 ∷ 104 ∷ 111 ∷ 114 ∷ 105 ∷ 116 ∷ 121 ∷ 1 ∷ 104 ∷ 39 ∷ 0 ∷ 58 ∷ 109 ∷ 101 ∷ 116 ∷ 104 ∷ 111 ∷ 100 ∷ 7 ∷ 67 ∷ 79 ∷ 78 ∷ 78 ∷ 69 ∷ 67 ∷ 84 ∷ 37 ∷ 58 ∷ 112 ∷ 97 ∷ 116 ∷ 104 ∷ 1 ∷ 47 ∷ 39 ∷ 2 ∷ 58 ∷ 112 ∷ 114 ∷ 111 ∷ 116 ∷ 111 ∷ 99 ∷ 111 ∷ 108 ∷ 12 ∷ 119 ∷ 101 ∷ 98 ∷ 116 ∷ 114 ∷ 97 ∷ 110 ∷ 115 ∷ 112 ∷ 111 ∷ 114 ∷ 116 ∷ 39 ∷ 0 ∷ 58 ∷ 115 ∷ 99 ∷ 104 ∷ 101 ∷ 109 ∷ 101 ∷ 5 ∷ 104 ∷ 116 ∷ 116 ∷ 112 ∷ 115 ∷ []) ∷ turns.Call calls.Incoming ∷ turns.Call (calls.Accept ([])) ∷ turns.Call (calls.EndSession None) ∷ turns.PeerBi ∷ turns.Bytes 4 (64 ∷ 65 ∷ 0 ∷ []) ∷ turns.Call (calls.AcceptBi None) ∷ turns.Call (calls.EndSession None) ∷ [])) ≡ record { answers = (answer replies.Done (actions.Finish 0 ∷ []) ∷ answer replies.Done (actions.StopOut 4 386759528 ∷ []) ∷ answer (replies.Failed errors.LocallyClosed) ([]) ∷ answer replies.Done ([]) ∷ []); is_all = true }
unfolding computed
end_session_175 = refl

pub session_id_176 : shown (7 ∷ 8 ∷ 9 ∷ 10 ∷ 11 ∷ []) (run Server (turns.Connected 9 9 1000 (facts.Limit 1200) ∷ turns.PeerUni ∷ turns.Bytes 2 (0 ∷ 4 ∷ 0 ∷ []) ∷ turns.PeerBi ∷ turns.Bytes 0 (1 ∷ 64 ∷ 80 ∷ 0 ∷ 0 ∷ 39 ∷ 3 ∷ 58 ∷ 97 ∷ 117 ∷ 116 ∷ 104 ∷ 111 ∷ 114 ∷ 105 ∷ 116 ∷ 121 ∷ 1 ∷ 104 ∷ 39 ∷ 0 ∷ 58 ∷ 109 ∷ 101 ∷ 116 ∷ 104 ∷ 111 ∷ 100 ∷ 7 ∷ 67 ∷ 79 ∷ 78 ∷ 78 ∷ 69 ∷ 67 ∷ 84 ∷ 37 ∷ 58 ∷ 112 ∷ 97 ∷ 116 ∷ 104 ∷ 1 ∷ 47 ∷ 39 ∷ 2 ∷ 58 ∷ 112 ∷ 114 ∷ 111 ∷ 116 ∷ 111 ∷ 99 ∷ 111 ∷ 108 ∷ 12 ∷ 119 ∷ 101 ∷ 98 ∷ 116 ∷ 114 ∷ 97 ∷ 110 ∷ 115 ∷ 112 ∷ 111 ∷ 114 ∷ 116 ∷ 39 ∷ 0 ∷ 58 ∷ 115 ∷ 99 ∷ 104 ∷ 101 ∷ 109 ∷ 101 ∷ 5 ∷ 104 ∷ 116 ∷ 116 ∷ 112 ∷ 115 ∷ []) ∷ turns.Call calls.Incoming ∷ turns.Call (calls.Accept ([])) ∷ turns.Bytes 0 (0 ∷ 11 ∷ 104 ∷ 67 ∷ 8 ∷ 0 ∷ 0 ∷ 0 ∷ 7 ∷ 98 ∷ 121 ∷ 101 ∷ 101 ∷ []) ∷ turns.Call (calls.AcceptUni None) ∷ turns.Call (calls.OpenUni None) ∷ turns.Call (calls.SendDatagram (97 ∷ []) None) ∷ turns.Call (calls.SessionId None) ∷ [])) ≡ record { answers = (answer replies.Done (actions.ResetOut 0 256 ∷ []) ∷ answer (replies.Failed (errors.ApplicationClosed (record { code = 7; reason = (98 ∷ 121 ∷ 101 ∷ 101 ∷ []) }))) ([]) ∷ answer (replies.Failed (errors.ApplicationClosed (record { code = 7; reason = (98 ∷ 121 ∷ 101 ∷ 101 ∷ []) }))) ([]) ∷ answer (replies.DatagramFailed datagrams.NotConnected) ([]) ∷ answer (replies.Id 0) ([]) ∷ []); is_all = true }
unfolding computed
session_id_176 = refl

pub open_bi_178 : shown (7 ∷ 8 ∷ 9 ∷ 10 ∷ 11 ∷ []) (run Server (turns.Connected 9 0 1000 (facts.Limit 1200) ∷ turns.PeerUni ∷ turns.Bytes 2 (0 ∷ 4 ∷ 0 ∷ []) ∷ turns.PeerBi ∷ turns.Bytes 0 (1 ∷ 64 ∷ 80 ∷ 0 ∷ 0 ∷ 39 ∷ 3 ∷ 58 ∷ 97 ∷ 117 ∷ 116 ∷ 104 ∷ 111 ∷ 114 ∷ 105 ∷ 116 ∷ 121 ∷ 1 ∷ 104 ∷ 39 ∷ 0 ∷ 58 ∷ 109 ∷ 101 ∷ 116 ∷ 104 ∷ 111 ∷ 100 ∷ 7 ∷ 67 ∷ 79 ∷ 78 ∷ 78 ∷ 69 ∷ 67 ∷ 84 ∷ 37 ∷ 58 ∷ 112 ∷ 97 ∷ 116 ∷ 104 ∷ 1 ∷ 47 ∷ 39 ∷ 2 ∷ 58 ∷ 112 ∷ 114 ∷ 111 ∷ 116 ∷ 111 ∷ 99 ∷ 111 ∷ 108 ∷ 12 ∷ 119 ∷ 101 ∷ 98 ∷ 116 ∷ 114 ∷ 97 ∷ 110 ∷ 115 ∷ 112 ∷ 111 ∷ 114 ∷ 116 ∷ 39 ∷ 0 ∷ 58 ∷ 115 ∷ 99 ∷ 104 ∷ 101 ∷ 109 ∷ 101 ∷ 5 ∷ 104 ∷ 116 ∷ 116 ∷ 112 ∷ 115 ∷ []) ∷ turns.Call calls.Incoming ∷ turns.Call (calls.Accept ([])) ∷ turns.Call (calls.OpenBi None) ∷ turns.MaxBi 1 ∷ turns.Call (calls.OpenBi None) ∷ turns.Call (calls.PollOpening 1) ∷ turns.Call (calls.OpenBi None) ∷ [])) ≡ record { answers = (answer replies.Pending ([]) ∷ answer replies.Done ([]) ∷ answer (replies.Opening 1) (actions.Opened 1 ∷ []) ∷ answer (replies.BiReady 1) (actions.Send 1 (64 ∷ 65 ∷ 0 ∷ []) ∷ []) ∷ answer replies.Pending ([]) ∷ []); is_all = true }
unfolding computed
open_bi_178 = refl

pub priority_179 : shown (8 ∷ 9 ∷ 10 ∷ 11 ∷ 12 ∷ 13 ∷ 14 ∷ 15 ∷ 16 ∷ 17 ∷ []) (run Server (turns.Connected 9 9 1000 (facts.Limit 1200) ∷ turns.PeerUni ∷ turns.Bytes 2 (0 ∷ 4 ∷ 0 ∷ []) ∷ turns.PeerBi ∷ turns.Bytes 0 (1 ∷ 64 ∷ 80 ∷ 0 ∷ 0 ∷ 39 ∷ 3 ∷ 58 ∷ 97 ∷ 117 ∷ 116 ∷ 104 ∷ 111 ∷ 114 ∷ 105 ∷ 116 ∷ 121 ∷ 1 ∷ 104 ∷ 39 ∷ 0 ∷ 58 ∷ 109 ∷ 101 ∷ 116 ∷ 104 ∷ 111 ∷ 100 ∷ 7 ∷ 67 ∷ 79 ∷ 78 ∷ 78 ∷ 69 ∷ 67 ∷ 84 ∷ 37 ∷ 58 ∷ 112 ∷ 97 ∷ 116 ∷ 104 ∷ 1 ∷ 47 ∷ 39 ∷ 2 ∷ 58 ∷ 112 ∷ 114 ∷ 111 ∷ 116 ∷ 111 ∷ 99 ∷ 111 ∷ 108 ∷ 12 ∷ 119 ∷ 101 ∷ 98 ∷ 116 ∷ 114 ∷ 97 ∷ 110 ∷ 115 ∷ 112 ∷ 111 ∷ 114 ∷ 116 ∷ 39 ∷ 0 ∷ 58 ∷ 115 ∷ 99 ∷ 104 ∷ 101 ∷ 109 ∷ 101 ∷ 5 ∷ 104 ∷ 116 ∷ 116 ∷ 112 ∷ 115 ∷ []) ∷ turns.Call calls.Incoming ∷ turns.Call (calls.Accept ([])) ∷ turns.Call (calls.OpenUni None) ∷ turns.Call (calls.PollOpening 7) ∷ turns.Call (calls.OpenUni None) ∷ turns.Call (calls.EndSession None) ∷ turns.Call (calls.PollOpening 11) ∷ turns.Call (calls.PollOpening 11) ∷ turns.Call (calls.Write 7 (97 ∷ [])) ∷ turns.Call (calls.Finish 7) ∷ turns.Call (calls.Stopped 7) ∷ turns.Call (calls.ResetSend 7 1) ∷ turns.Call (calls.Priority 7) ∷ [])) ≡ record { answers = (answer (replies.SendReady 7) (actions.Send 7 (64 ∷ 84 ∷ 0 ∷ []) ∷ []) ∷ answer (replies.Opening 11) (actions.Opened 11 ∷ []) ∷ answer replies.Done (actions.Finish 0 ∷ actions.ResetOut 7 386759528 ∷ actions.ResetOut 11 386759528 ∷ []) ∷ answer (replies.OpeningFailed openings.NotConnected) ([]) ∷ answer replies.NoStream ([]) ∷ answer (replies.WriteFailed writes.Closed) ([]) ∷ answer replies.Finished ([]) ∷ answer (replies.StoppedBy writes.Closed) ([]) ∷ answer replies.ClosedStream ([]) ∷ answer replies.ClosedStream ([]) ∷ []); is_all = true }
unfolding computed
priority_179 = refl

pub accept_uni_181 : shown (8 ∷ 9 ∷ []) (run Server (turns.Connected 9 9 1000 (facts.Limit 1200) ∷ turns.PeerUni ∷ turns.Bytes 2 (0 ∷ 4 ∷ 0 ∷ []) ∷ turns.PeerBi ∷ turns.Bytes 0 (1 ∷ 64 ∷ 80 ∷ 0 ∷ 0 ∷ 39 ∷ 3 ∷ 58 ∷ 97 ∷ 117 ∷ 116 ∷ 104 ∷ 111 ∷ 114 ∷ 105 ∷ 116 ∷ 121 ∷ 1 ∷ 104 ∷ 39 ∷ 0 ∷ 58 ∷ 109 ∷ 101 ∷ 116 ∷ 104 ∷ 111 ∷ 100 ∷ 7 ∷ 67 ∷ 79 ∷ 78 ∷ 78 ∷ 69 ∷ 67 ∷ 84 ∷ 37 ∷ 58 ∷ 112 ∷ 97 ∷ 116 ∷ 104 ∷ 1 ∷ 47 ∷ 39 ∷ 2 ∷ 58 ∷ 112 ∷ 114 ∷ 111 ∷ 116 ∷ 111 ∷ 99 ∷ 111 ∷ 108 ∷ 12 ∷ 119 ∷ 101 ∷ 98 ∷ 116 ∷ 114 ∷ 97 ∷ 110 ∷ 115 ∷ 112 ∷ 111 ∷ 114 ∷ 116 ∷ 39 ∷ 0 ∷ 58 ∷ 115 ∷ 99 ∷ 104 ∷ 101 ∷ 109 ∷ 101 ∷ 5 ∷ 104 ∷ 116 ∷ 116 ∷ 112 ∷ 115 ∷ []) ∷ turns.Call calls.Incoming ∷ turns.Call (calls.Accept ([])) ∷ turns.Stop 0 7 ∷ turns.End 0 ∷ turns.Call (calls.AcceptUni None) ∷ [])) ≡ record { answers = (answer replies.Done ([]) ∷ answer (replies.Failed (errors.ApplicationClosed (record { code = 0; reason = ([]) }))) ([]) ∷ []); is_all = true }
unfolding computed
accept_uni_181 = refl

pub accept_uni_182 : shown (8 ∷ 9 ∷ []) (run Server (turns.Connected 9 9 1000 (facts.Limit 1200) ∷ turns.PeerUni ∷ turns.Bytes 2 (0 ∷ 4 ∷ 0 ∷ []) ∷ turns.PeerBi ∷ turns.Bytes 0 (1 ∷ 64 ∷ 80 ∷ 0 ∷ 0 ∷ 39 ∷ 3 ∷ 58 ∷ 97 ∷ 117 ∷ 116 ∷ 104 ∷ 111 ∷ 114 ∷ 105 ∷ 116 ∷ 121 ∷ 1 ∷ 104 ∷ 39 ∷ 0 ∷ 58 ∷ 109 ∷ 101 ∷ 116 ∷ 104 ∷ 111 ∷ 100 ∷ 7 ∷ 67 ∷ 79 ∷ 78 ∷ 78 ∷ 69 ∷ 67 ∷ 84 ∷ 37 ∷ 58 ∷ 112 ∷ 97 ∷ 116 ∷ 104 ∷ 1 ∷ 47 ∷ 39 ∷ 2 ∷ 58 ∷ 112 ∷ 114 ∷ 111 ∷ 116 ∷ 111 ∷ 99 ∷ 111 ∷ 108 ∷ 12 ∷ 119 ∷ 101 ∷ 98 ∷ 116 ∷ 114 ∷ 97 ∷ 110 ∷ 115 ∷ 112 ∷ 111 ∷ 114 ∷ 116 ∷ 39 ∷ 0 ∷ 58 ∷ 115 ∷ 99 ∷ 104 ∷ 101 ∷ 109 ∷ 101 ∷ 5 ∷ 104 ∷ 116 ∷ 116 ∷ 112 ∷ 115 ∷ []) ∷ turns.Call calls.Incoming ∷ turns.Call (calls.Accept ([])) ∷ turns.Stop 0 7 ∷ turns.Bytes 0 (0 ∷ 7 ∷ 104 ∷ 67 ∷ 4 ∷ 0 ∷ 0 ∷ 0 ∷ 7 ∷ []) ∷ turns.Call (calls.AcceptUni None) ∷ [])) ≡ record { answers = (answer replies.Done (actions.ResetOut 0 256 ∷ []) ∷ answer (replies.Failed (errors.ApplicationClosed (record { code = 7; reason = ([]) }))) ([]) ∷ []); is_all = true }
unfolding computed
accept_uni_182 = refl

pub handshake_183 : shown (6 ∷ 7 ∷ 9 ∷ []) (run Server (turns.Connected 9 9 1000 (facts.Limit 1200) ∷ turns.PeerUni ∷ turns.Bytes 2 (0 ∷ 4 ∷ 0 ∷ []) ∷ turns.PeerBi ∷ turns.Bytes 0 (1 ∷ 64 ∷ 80 ∷ 0 ∷ 0 ∷ 39 ∷ 3 ∷ 58 ∷ 97 ∷ 117 ∷ 116 ∷ 104 ∷ 111 ∷ 114 ∷ 105 ∷ 116 ∷ 121 ∷ 1 ∷ 104 ∷ 39 ∷ 0 ∷ 58 ∷ 109 ∷ 101 ∷ 116 ∷ 104 ∷ 111 ∷ 100 ∷ 7 ∷ 67 ∷ 79 ∷ 78 ∷ 78 ∷ 69 ∷ 67 ∷ 84 ∷ 37 ∷ 58 ∷ 112 ∷ 97 ∷ 116 ∷ 104 ∷ 1 ∷ 47 ∷ 39 ∷ 2 ∷ 58 ∷ 112 ∷ 114 ∷ 111 ∷ 116 ∷ 111 ∷ 99 ∷ 111 ∷ 108 ∷ 12 ∷ 119 ∷ 101 ∷ 98 ∷ 116 ∷ 114 ∷ 97 ∷ 110 ∷ 115 ∷ 112 ∷ 111 ∷ 114 ∷ 116 ∷ 39 ∷ 0 ∷ 58 ∷ 115 ∷ 99 ∷ 104 ∷ 101 ∷ 109 ∷ 101 ∷ 5 ∷ 104 ∷ 116 ∷ 116 ∷ 112 ∷ 115 ∷ []) ∷ turns.Call calls.Incoming ∷ turns.Call calls.NotFound ∷ turns.Call calls.Handshake ∷ turns.Stop 0 3 ∷ turns.Call calls.Handshake ∷ [])) ≡ record { answers = (answer replies.Pending (actions.Send 0 (1 ∷ 15 ∷ 0 ∷ 0 ∷ 39 ∷ 0 ∷ 58 ∷ 115 ∷ 116 ∷ 97 ∷ 116 ∷ 117 ∷ 115 ∷ 3 ∷ 52 ∷ 48 ∷ 52 ∷ []) ∷ actions.Finish 0 ∷ []) ∷ answer replies.Pending ([]) ∷ answer replies.Rejected (actions.Close 0 ([]) ∷ []) ∷ []); is_all = true }
unfolding computed
handshake_183 = refl

pub too_many_requests_184 : shown (8 ∷ 9 ∷ []) (run Server (turns.Connected 9 9 1000 (facts.Limit 1200) ∷ turns.PeerUni ∷ turns.Bytes 2 (0 ∷ 4 ∷ 0 ∷ []) ∷ turns.PeerBi ∷ turns.Bytes 0 (1 ∷ 64 ∷ 80 ∷ 0 ∷ 0 ∷ 39 ∷ 3 ∷ 58 ∷ 97 ∷ 117 ∷ 116 ∷ 104 ∷ 111 ∷ 114 ∷ 105 ∷ 116 ∷ 121 ∷ 1 ∷ 104 ∷ 39 ∷ 0 ∷ 58 ∷ 109 ∷ 101 ∷ 116 ∷ 104 ∷ 111 ∷ 100 ∷ 7 ∷ 67 ∷ 79 ∷ 78 ∷ 78 ∷ 69 ∷ 67 ∷ 84 ∷ 37 ∷ 58 ∷ 112 ∷ 97 ∷ 116 ∷ 104 ∷ 1 ∷ 47 ∷ 39 ∷ 2 ∷ 58 ∷ 112 ∷ 114 ∷ 111 ∷ 116 ∷ 111 ∷ 99 ∷ 111 ∷ 108 ∷ 12 ∷ 119 ∷ 101 ∷ 98 ∷ 116 ∷ 114 ∷ 97 ∷ 110 ∷ 115 ∷ 112 ∷ 111 ∷ 114 ∷ 116 ∷ 39 ∷ 0 ∷ 58 ∷ 115 ∷ 99 ∷ 104 ∷ 101 ∷ 109 ∷ 101 ∷ 5 ∷ 104 ∷ 116 ∷ 116 ∷ 112 ∷ 115 ∷ []) ∷ turns.PeerUni ∷ turns.Bytes 6 (64 ∷ 84 ∷ 0 ∷ []) ∷ turns.Call calls.Incoming ∷ turns.Stop 0 3 ∷ turns.Call calls.TooManyRequests ∷ [])) ≡ record { answers = (answer replies.Done ([]) ∷ answer replies.Rejected (actions.StopOut 6 386759528 ∷ actions.Close 260 ([]) ∷ []) ∷ []); is_all = true }
unfolding computed
too_many_requests_184 = refl

pub handshake_185 : shown (6 ∷ 7 ∷ 8 ∷ []) (run Server (turns.Connected 9 9 1000 (facts.Limit 1200) ∷ turns.PeerUni ∷ turns.Bytes 2 (0 ∷ 4 ∷ 0 ∷ []) ∷ turns.PeerBi ∷ turns.Bytes 0 (1 ∷ 64 ∷ 80 ∷ 0 ∷ 0 ∷ 39 ∷ 3 ∷ 58 ∷ 97 ∷ 117 ∷ 116 ∷ 104 ∷ 111 ∷ 114 ∷ 105 ∷ 116 ∷ 121 ∷ 1 ∷ 104 ∷ 39 ∷ 0 ∷ 58 ∷ 109 ∷ 101 ∷ 116 ∷ 104 ∷ 111 ∷ 100 ∷ 7 ∷ 67 ∷ 79 ∷ 78 ∷ 78 ∷ 69 ∷ 67 ∷ 84 ∷ 37 ∷ 58 ∷ 112 ∷ 97 ∷ 116 ∷ 104 ∷ 1 ∷ 47 ∷ 39 ∷ 2 ∷ 58 ∷ 112 ∷ 114 ∷ 111 ∷ 116 ∷ 111 ∷ 99 ∷ 111 ∷ 108 ∷ 12 ∷ 119 ∷ 101 ∷ 98 ∷ 116 ∷ 114 ∷ 97 ∷ 110 ∷ 115 ∷ 112 ∷ 111 ∷ 114 ∷ 116 ∷ 39 ∷ 0 ∷ 58 ∷ 115 ∷ 99 ∷ 104 ∷ 101 ∷ 109 ∷ 101 ∷ 5 ∷ 104 ∷ 116 ∷ 116 ∷ 112 ∷ 115 ∷ []) ∷ turns.Call calls.Incoming ∷ turns.Call calls.TooManyRequests ∷ turns.Call (calls.EndpointClose 1 ([])) ∷ turns.Call calls.Handshake ∷ [])) ≡ record { answers = (answer replies.Pending (actions.Send 0 (1 ∷ 15 ∷ 0 ∷ 0 ∷ 39 ∷ 0 ∷ 58 ∷ 115 ∷ 116 ∷ 97 ∷ 116 ∷ 117 ∷ 115 ∷ 3 ∷ 52 ∷ 50 ∷ 57 ∷ []) ∷ actions.Finish 0 ∷ []) ∷ answer replies.Done (actions.Close 1 ([]) ∷ []) ∷ answer replies.Rejected ([]) ∷ []); is_all = true }
unfolding computed
handshake_185 = refl

pub session_id_186 : shown (9 ∷ 10 ∷ 11 ∷ 12 ∷ 13 ∷ []) (run Server (turns.Connected 9 9 1000 (facts.Limit 1200) ∷ turns.PeerUni ∷ turns.Bytes 2 (0 ∷ 4 ∷ 0 ∷ []) ∷ turns.PeerBi ∷ turns.Bytes 0 (1 ∷ 64 ∷ 80 ∷ 0 ∷ 0 ∷ 39 ∷ 3 ∷ 58 ∷ 97 ∷ 117 ∷ 116 ∷ 104 ∷ 111 ∷ 114 ∷ 105 ∷ 116 ∷ 121 ∷ 1 ∷ 104 ∷ 39 ∷ 0 ∷ 58 ∷ 109 ∷ 101 ∷ 116 ∷ 104 ∷ 111 ∷ 100 ∷ 7 ∷ 67 ∷ 79 ∷ 78 ∷ 78 ∷ 69 ∷ 67 ∷ 84 ∷ 37 ∷ 58 ∷ 112 ∷ 97 ∷ 116 ∷ 104 ∷ 1 ∷ 47 ∷ 39 ∷ 2 ∷ 58 ∷ 112 ∷ 114 ∷ 111 ∷ 116 ∷ 111 ∷ 99 ∷ 111 ∷ 108 ∷ 12 ∷ 119 ∷ 101 ∷ 98 ∷ 116 ∷ 114 ∷ 97 ∷ 110 ∷ 115 ∷ 112 ∷ 111 ∷ 114 ∷ 116 ∷ 39 ∷ 0 ∷ 58 ∷ 115 ∷ 99 ∷ 104 ∷ 101 ∷ 109 ∷ 101 ∷ 5 ∷ 104 ∷ 116 ∷ 116 ∷ 112 ∷ 115 ∷ []) ∷ turns.Call calls.Incoming ∷ turns.Call (calls.Accept ([])) ∷ turns.Call (calls.OpenUni None) ∷ turns.Call (calls.PollOpening 7) ∷ turns.Call (calls.SetPriority 7 (negsuc 2)) ∷ turns.Call (calls.SetPriority 11 (pos 2)) ∷ turns.Call (calls.Priority 7) ∷ turns.Call (calls.SessionId None) ∷ turns.Call (calls.SessionId (Some 4)) ∷ [])) ≡ record { answers = (answer replies.Done ([]) ∷ answer replies.NoStream ([]) ∷ answer (replies.Priority (negsuc 2)) ([]) ∷ answer (replies.Id 0) ([]) ∷ answer replies.NoSession ([]) ∷ []); is_all = true }
unfolding computed
session_id_186 = refl

pub accept_uni_187 : shown (9 ∷ 10 ∷ 11 ∷ 12 ∷ 13 ∷ 14 ∷ 15 ∷ 16 ∷ 17 ∷ 18 ∷ 19 ∷ []) (run Server (turns.Connected 9 9 1000 (facts.Limit 1200) ∷ turns.PeerUni ∷ turns.Bytes 2 (0 ∷ 4 ∷ 0 ∷ []) ∷ turns.PeerBi ∷ turns.Bytes 0 (1 ∷ 64 ∷ 80 ∷ 0 ∷ 0 ∷ 39 ∷ 3 ∷ 58 ∷ 97 ∷ 117 ∷ 116 ∷ 104 ∷ 111 ∷ 114 ∷ 105 ∷ 116 ∷ 121 ∷ 1 ∷ 104 ∷ 39 ∷ 0 ∷ 58 ∷ 109 ∷ 101 ∷ 116 ∷ 104 ∷ 111 ∷ 100 ∷ 7 ∷ 67 ∷ 79 ∷ 78 ∷ 78 ∷ 69 ∷ 67 ∷ 84 ∷ 37 ∷ 58 ∷ 112 ∷ 97 ∷ 116 ∷ 104 ∷ 1 ∷ 47 ∷ 39 ∷ 2 ∷ 58 ∷ 112 ∷ 114 ∷ 111 ∷ 116 ∷ 111 ∷ 99 ∷ 111 ∷ 108 ∷ 12 ∷ 119 ∷ 101 ∷ 98 ∷ 116 ∷ 114 ∷ 97 ∷ 110 ∷ 115 ∷ 112 ∷ 111 ∷ 114 ∷ 116 ∷ 39 ∷ 0 ∷ 58 ∷ 115 ∷ 99 ∷ 104 ∷ 101 ∷ 109 ∷ 101 ∷ 5 ∷ 104 ∷ 116 ∷ 116 ∷ 112 ∷ 115 ∷ []) ∷ turns.Call calls.Incoming ∷ turns.Call (calls.Accept ([])) ∷ turns.PeerBi ∷ turns.Bytes 4 (1 ∷ 64 ∷ 80 ∷ 0 ∷ 0 ∷ 39 ∷ 3 ∷ 58 ∷ 97 ∷ 117 ∷ 116 ∷ 104 ∷ 111 ∷ 114 ∷ 105 ∷ 116 ∷ 121 ∷ 1 ∷ 104 ∷ 39 ∷ 0 ∷ 58 ∷ 109 ∷ 101 ∷ 116 ∷ 104 ∷ 111 ∷ 100 ∷ 7 ∷ 67 ∷ 79 ∷ 78 ∷ 78 ∷ 69 ∷ 67 ∷ 84 ∷ 37 ∷ 58 ∷ 112 ∷ 97 ∷ 116 ∷ 104 ∷ 1 ∷ 47 ∷ 39 ∷ 2 ∷ 58 ∷ 112 ∷ 114 ∷ 111 ∷ 116 ∷ 111 ∷ 99 ∷ 111 ∷ 108 ∷ 12 ∷ 119 ∷ 101 ∷ 98 ∷ 116 ∷ 114 ∷ 97 ∷ 110 ∷ 115 ∷ 112 ∷ 111 ∷ 114 ∷ 116 ∷ 39 ∷ 0 ∷ 58 ∷ 115 ∷ 99 ∷ 104 ∷ 101 ∷ 109 ∷ 101 ∷ 5 ∷ 104 ∷ 116 ∷ 116 ∷ 112 ∷ 115 ∷ []) ∷ turns.Call calls.Incoming ∷ turns.Call (calls.Accept ([])) ∷ turns.Call (calls.OpenUni None) ∷ turns.Call (calls.OpenUni (Some 4)) ∷ turns.Call (calls.OpenBi (Some 4)) ∷ turns.Bytes 4 (0 ∷ 7 ∷ 104 ∷ 67 ∷ 4 ∷ 0 ∷ 0 ∷ 0 ∷ 5 ∷ []) ∷ turns.Call (calls.AcceptUni (Some 4)) ∷ turns.Call (calls.PollOpening 7) ∷ turns.Call (calls.EndSession None) ∷ turns.Call (calls.AcceptUni None) ∷ turns.Call (calls.AcceptUni (Some 8)) ∷ [])) ≡ record { answers = (answer (replies.Request 4 (((58 ∷ 97 ∷ 117 ∷ 116 ∷ 104 ∷ 111 ∷ 114 ∷ 105 ∷ 116 ∷ 121 ∷ []), (104 ∷ [])) ∷ ((58 ∷ 109 ∷ 101 ∷ 116 ∷ 104 ∷ 111 ∷ 100 ∷ []), (67 ∷ 79 ∷ 78 ∷ 78 ∷ 69 ∷ 67 ∷ 84 ∷ [])) ∷ ((58 ∷ 112 ∷ 97 ∷ 116 ∷ 104 ∷ []), (47 ∷ [])) ∷ ((58 ∷ 112 ∷ 114 ∷ 111 ∷ 116 ∷ 111 ∷ 99 ∷ 111 ∷ 108 ∷ []), (119 ∷ 101 ∷ 98 ∷ 116 ∷ 114 ∷ 97 ∷ 110 ∷ 115 ∷ 112 ∷ 111 ∷ 114 ∷ 116 ∷ [])) ∷ ((58 ∷ 115 ∷ 99 ∷ 104 ∷ 101 ∷ 109 ∷ 101 ∷ []), (104 ∷ 116 ∷ 116 ∷ 112 ∷ 115 ∷ [])) ∷ [])) ([]) ∷ answer (replies.Session 4) (actions.Send 4 (1 ∷ 15 ∷ 0 ∷ 0 ∷ 39 ∷ 0 ∷ 58 ∷ 115 ∷ 116 ∷ 97 ∷ 116 ∷ 117 ∷ 115 ∷ 3 ∷ 50 ∷ 48 ∷ 48 ∷ []) ∷ []) ∷ answer (replies.Opening 7) (actions.Opened 7 ∷ []) ∷ answer (replies.Opening 11) (actions.Opened 11 ∷ []) ∷ answer (replies.Opening 1) (actions.Opened 1 ∷ []) ∷ answer replies.Done (actions.ResetOut 4 256 ∷ actions.StopOut 1 386759528 ∷ actions.ResetOut 1 386759528 ∷ actions.ResetOut 11 386759528 ∷ []) ∷ answer (replies.Failed (errors.ApplicationClosed (record { code = 5; reason = ([]) }))) ([]) ∷ answer (replies.SendReady 7) (actions.Send 7 (64 ∷ 84 ∷ 0 ∷ []) ∷ []) ∷ answer replies.Done (actions.Finish 0 ∷ actions.ResetOut 7 386759528 ∷ []) ∷ answer (replies.Failed errors.LocallyClosed) ([]) ∷ answer replies.NoSession ([]) ∷ []); is_all = true }
unfolding computed
accept_uni_187 = refl

pub bytes_188 : shown (2 ∷ 4 ∷ []) (run Server (turns.Connected 9 9 1000 (facts.Limit 1200) ∷ turns.PeerUni ∷ turns.Bytes 2 (3 ∷ []) ∷ turns.PeerUni ∷ turns.Bytes 6 (3 ∷ []) ∷ [])) ≡ record { answers = (answer replies.Done ([]) ∷ answer replies.Done (actions.Close 259 ([]) ∷ []) ∷ []); is_all = true }
unfolding computed
bytes_188 = refl

pub end_189 : shown (2 ∷ 3 ∷ []) (run Server (turns.Connected 9 9 1000 (facts.Limit 1200) ∷ turns.PeerUni ∷ turns.Bytes 2 (3 ∷ []) ∷ turns.End 2 ∷ [])) ≡ record { answers = (answer replies.Done ([]) ∷ answer replies.Done (actions.Close 260 ([]) ∷ []) ∷ []); is_all = true }
unfolding computed
end_189 = refl

pub read_190 : shown (9 ∷ 10 ∷ 11 ∷ 12 ∷ 13 ∷ 14 ∷ 15 ∷ 16 ∷ 17 ∷ 18 ∷ []) (run Server (turns.Connected 9 9 1000 (facts.Limit 1200) ∷ turns.PeerUni ∷ turns.Bytes 2 (0 ∷ 4 ∷ 0 ∷ []) ∷ turns.PeerBi ∷ turns.Bytes 0 (1 ∷ 64 ∷ 80 ∷ 0 ∷ 0 ∷ 39 ∷ 3 ∷ 58 ∷ 97 ∷ 117 ∷ 116 ∷ 104 ∷ 111 ∷ 114 ∷ 105 ∷ 116 ∷ 121 ∷ 1 ∷ 104 ∷ 39 ∷ 0 ∷ 58 ∷ 109 ∷ 101 ∷ 116 ∷ 104 ∷ 111 ∷ 100 ∷ 7 ∷ 67 ∷ 79 ∷ 78 ∷ 78 ∷ 69 ∷ 67 ∷ 84 ∷ 37 ∷ 58 ∷ 112 ∷ 97 ∷ 116 ∷ 104 ∷ 1 ∷ 47 ∷ 39 ∷ 2 ∷ 58 ∷ 112 ∷ 114 ∷ 111 ∷ 116 ∷ 111 ∷ 99 ∷ 111 ∷ 108 ∷ 12 ∷ 119 ∷ 101 ∷ 98 ∷ 116 ∷ 114 ∷ 97 ∷ 110 ∷ 115 ∷ 112 ∷ 111 ∷ 114 ∷ 116 ∷ 39 ∷ 0 ∷ 58 ∷ 115 ∷ 99 ∷ 104 ∷ 101 ∷ 109 ∷ 101 ∷ 5 ∷ 104 ∷ 116 ∷ 116 ∷ 112 ∷ 115 ∷ []) ∷ turns.Call calls.Incoming ∷ turns.Call (calls.Accept ([])) ∷ turns.Call (calls.OpenUni None) ∷ turns.Call (calls.PollOpening 7) ∷ turns.Call (calls.Finish 7) ∷ turns.Call (calls.Finish 7) ∷ turns.Call (calls.Stopped 7) ∷ turns.Call (calls.Priority 7) ∷ turns.Call (calls.ResetSend 7 5) ∷ turns.Call (calls.Finish 7) ∷ turns.Call (calls.Stopped 7) ∷ turns.Call (calls.Write 0 (97 ∷ [])) ∷ turns.Call (calls.Read 3 9) ∷ turns.Call (calls.Read 7 9) ∷ [])) ≡ record { answers = (answer replies.Pending (actions.Finish 7 ∷ []) ∷ answer replies.Pending ([]) ∷ answer replies.Pending ([]) ∷ answer (replies.Priority (pos 0)) ([]) ∷ answer replies.Done (actions.ResetOut 7 5 ∷ []) ∷ answer replies.Finished ([]) ∷ answer (replies.StoppedBy writes.Closed) ([]) ∷ answer replies.NoStream ([]) ∷ answer replies.NoStream ([]) ∷ answer replies.NoStream ([]) ∷ []); is_all = true }
unfolding computed
read_190 = refl
