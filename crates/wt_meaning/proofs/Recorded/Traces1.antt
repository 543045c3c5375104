-- Recorded sessions: what the definitions give is what was recorded. Made by `tools/meaning lemmas`.
use Rattle.std.specs.Prelude.{[], ◌∷◌, ◌≡◌, None, Some, true}
use Rattle.std.proofs.Common.{refl}
use Rattle.wt_meaning.proofs.Recorded.{computed, parsed}
use Rattle.wt_meaning.specs.Meaning.{run}
use Rattle.wt_meaning.specs.Rows.{answer}
use Rattle.wt_wire.specs.declared.side.Side.TheVariants.{Client, Server}
use Rattle.wt_turn.specs.declared.action.Action.TheVariants as actions
use Rattle.wt_wire.specs.declared.addr.Addr.TheVariants as addresses
use Rattle.wt_turn.specs.declared.call.Call.TheVariants as calls
use Rattle.wt_turn.specs.declared.connecting_error.ConnectingError.TheVariants as connects
use Rattle.wt_turn.specs.declared.connection_error.ConnectionError.TheVariants as errors
use Rattle.wt_turn.specs.declared.datagram_fact.DatagramFact.TheVariants as facts
use Rattle.wt_wire.specs.declared.error.ErrorCode.TheVariants as h3
use Rattle.wt_wire.specs.declared.lookup.Lookup.TheVariants as lookups
use Rattle.wt_wire.specs.declared.lookup.ConnectOutcome.TheVariants as outcomes
use Rattle.wt_turn.specs.declared.loss.LossReason.TheVariants as losses
use Rattle.wt_turn.specs.declared.connecting_error.UrlRefusal.TheVariants as refusals
use Rattle.wt_turn.specs.declared.reply.Reply.TheVariants as replies
use Rattle.wt_turn.specs.declared.turn.Turn.TheVariants as turns
use Rattle.wt_turn.specs.declared.stream_error.StreamWriteError.TheVariants as writes

pub trace_0003 : run Server (turns.Connected 1 9 1048576 facts.Disabled ∷ turns.PeerBi ∷ turns.Bytes 0 (1 ∷ []) ∷ turns.PeerBi ∷ turns.Bytes 0 (64 ∷ 80 ∷ 0 ∷ []) ∷ turns.Datagram (0 ∷ []) ∷ turns.Datagram (0 ∷ 48 ∷ []) ∷ turns.Bytes 4 (5 ∷ 1 ∷ []) ∷ turns.Bytes 4 (180 ∷ []) ∷ turns.Bytes 0 (0 ∷ []) ∷ turns.Bytes 0 (39 ∷ 3 ∷ 58 ∷ 97 ∷ 117 ∷ []) ∷ turns.Bytes 0 (116 ∷ []) ∷ turns.PeerUni ∷ turns.Bytes 2 (0 ∷ 7 ∷ 1 ∷ 163 ∷ 192 ∷ []) ∷ turns.Bytes 4 (255 ∷ 255 ∷ 255 ∷ 255 ∷ 255 ∷ []) ∷ turns.Bytes 0 (104 ∷ 111 ∷ []) ∷ turns.Bytes 0 (114 ∷ []) ∷ []) ≡ record { answers = (answer replies.Done (actions.Opened 3 ∷ actions.Send 3 (0 ∷ 4 ∷ 22 ∷ 1 ∷ 0 ∷ 7 ∷ 0 ∷ 8 ∷ 1 ∷ 51 ∷ 1 ∷ 171 ∷ 96 ∷ 55 ∷ 66 ∷ 1 ∷ 192 ∷ 0 ∷ 0 ∷ 0 ∷ 198 ∷ 113 ∷ 112 ∷ 106 ∷ 4 ∷ []) ∷ []) ∷ answer replies.Done ([]) ∷ answer replies.Done ([]) ∷ answer replies.Done ([]) ∷ answer replies.Done ([]) ∷ answer replies.Done ([]) ∷ answer replies.Done ([]) ∷ answer replies.Done ([]) ∷ answer replies.Done ([]) ∷ answer replies.Done ([]) ∷ answer replies.Done ([]) ∷ answer replies.Done ([]) ∷ answer replies.Done ([]) ∷ answer replies.Done ([]) ∷ answer replies.Done ([]) ∷ answer replies.Done ([]) ∷ answer replies.Done ([]) ∷ []); is_all = true }
unfolding computed
trace_0003 = refl

pub trace_0006 : run Client (turns.Call (calls.Connect ((104 ∷ 116 ∷ 116 ∷ 112 ∷ 115 ∷ 58 ∷ 47 ∷ 47 ∷ 104 ∷ []), (((120 ∷ []), (121 ∷ [])) ∷ [])) (lookups.Found (addresses.V4 2130706433 4433)) outcomes.Proceed) ∷ turns.Connected 1 9 0 (facts.Limit 5) ∷ turns.MaxData 2 26 ∷ turns.Call calls.Handshake ∷ turns.Call calls.Handshake ∷ turns.Call calls.Handshake ∷ turns.Call calls.Handshake ∷ turns.Call calls.Handshake ∷ turns.Call calls.Handshake ∷ turns.Call calls.Handshake ∷ turns.Call calls.Handshake ∷ turns.PeerUni ∷ turns.Call calls.Handshake ∷ turns.Bytes 3 (0 ∷ 33 ∷ 1 ∷ 158 ∷ 4 ∷ 37 ∷ 51 ∷ 0 ∷ 171 ∷ 96 ∷ 55 ∷ 66 ∷ 1 ∷ 192 ∷ 0 ∷ 0 ∷ 0 ∷ 198 ∷ 113 ∷ 112 ∷ 106 ∷ 0 ∷ 1 ∷ 64 ∷ 1 ∷ 255 ∷ 255 ∷ 255 ∷ 255 ∷ 255 ∷ 255 ∷ 255 ∷ 255 ∷ 46 ∷ 8 ∷ 1 ∷ 7 ∷ 67 ∷ 232 ∷ 1 ∷ 0 ∷ 1 ∷ 0 ∷ 7 ∷ 64 ∷ 9 ∷ 18 ∷ 164 ∷ 222 ∷ 192 ∷ 118 ∷ 146 ∷ 8 ∷ 24 ∷ 5 ∷ 64 ∷ 95 ∷ 3 ∷ 183 ∷ 103 ∷ 30 ∷ 7 ∷ 1 ∷ 151 ∷ 1 ∷ 80 ∷ 1 ∷ []) ∷ turns.PeerBi ∷ []) ≡ record { answers = (answer replies.Pending (actions.Dial (addresses.V4 2130706433 4433) (104 ∷ []) ∷ []) ∷ answer replies.Done (actions.Opened 2 ∷ []) ∷ answer replies.Done (actions.Send 2 (0 ∷ 4 ∷ 22 ∷ 1 ∷ 0 ∷ 7 ∷ 0 ∷ 8 ∷ 1 ∷ 51 ∷ 1 ∷ 171 ∷ 96 ∷ 55 ∷ 66 ∷ 1 ∷ 192 ∷ 0 ∷ 0 ∷ 0 ∷ 198 ∷ 113 ∷ 112 ∷ 106 ∷ 4 ∷ []) ∷ []) ∷ answer replies.Pending ([]) ∷ answer replies.Pending ([]) ∷ answer replies.Pending ([]) ∷ answer replies.Pending ([]) ∷ answer replies.Pending ([]) ∷ answer replies.Pending ([]) ∷ answer replies.Pending ([]) ∷ answer replies.Pending ([]) ∷ answer replies.Done ([]) ∷ answer replies.Pending ([]) ∷ answer replies.Done (actions.Close 266 ([]) ∷ []) ∷ answer replies.Done ([]) ∷ []); is_all = true }
unfolding computed parsed
trace_0006 = refl

pub trace_0008 : run Server (turns.Connected 1 0 1000 (facts.Limit 2) ∷ turns.PeerBi ∷ turns.Bytes 0 (1 ∷ 64 ∷ 80 ∷ []) ∷ turns.PeerUni ∷ turns.PeerBi ∷ turns.Bytes 0 (0 ∷ []) ∷ turns.Bytes 2 (192 ∷ 0 ∷ 0 ∷ 0 ∷ 0 ∷ 0 ∷ 0 ∷ 0 ∷ 192 ∷ 0 ∷ 0 ∷ 0 ∷ 0 ∷ 0 ∷ 0 ∷ 6 ∷ 5 ∷ 193 ∷ 198 ∷ 69 ∷ 3 ∷ 247 ∷ 7 ∷ 20 ∷ 67 ∷ 152 ∷ 185 ∷ 246 ∷ 106 ∷ 31 ∷ 142 ∷ 159 ∷ 97 ∷ 107 ∷ 119 ∷ 124 ∷ 231 ∷ 219 ∷ 78 ∷ 94 ∷ 82 ∷ 190 ∷ 133 ∷ 117 ∷ 4 ∷ 80 ∷ 1 ∷ 4 ∷ 9 ∷ []) ∷ turns.Bytes 2 (51 ∷ 5 ∷ 8 ∷ []) ∷ turns.Bytes 2 (1 ∷ 64 ∷ []) ∷ turns.Bytes 2 (64 ∷ 5 ∷ 1 ∷ []) ∷ []) ≡ record { answers = (answer replies.Done (actions.Opened 3 ∷ actions.Send 3 (0 ∷ 4 ∷ 22 ∷ 1 ∷ 0 ∷ 7 ∷ 0 ∷ 8 ∷ 1 ∷ 51 ∷ 1 ∷ 171 ∷ 96 ∷ 55 ∷ 66 ∷ 1 ∷ 192 ∷ 0 ∷ 0 ∷ 0 ∷ 198 ∷ 113 ∷ 112 ∷ 106 ∷ 4 ∷ []) ∷ []) ∷ answer replies.Done ([]) ∷ answer replies.Done ([]) ∷ answer replies.Done ([]) ∷ answer replies.Done ([]) ∷ answer replies.Done ([]) ∷ answer replies.Done (actions.Close 263 ([]) ∷ []) ∷ answer replies.Done ([]) ∷ answer replies.Done ([]) ∷ answer replies.Done ([]) ∷ []); is_all = true }
unfolding computed
trace_0008 = refl

pub trace_0011 : run Client (turns.Call (calls.Connect ((120 ∷ 58 ∷ 47 ∷ 47 ∷ 97 ∷ 64 ∷ 98 ∷ 64 ∷ 51 ∷ 48 ∷ 48 ∷ 58 ∷ 54 ∷ 53 ∷ 53 ∷ 51 ∷ 54 ∷ 47 ∷ 96 ∷ []), ([])) (lookups.Found (addresses.V4 2130706433 4433)) outcomes.Proceed) ∷ []) ≡ record { answers = (answer (replies.ConnectFailed (connects.InvalidUrl refusals.Parse)) ([]) ∷ []); is_all = true }
unfolding computed parsed
trace_0011 = refl

pub trace_0014 : run Server (turns.Connected 9 1 1000 facts.Unsupported ∷ turns.Call (calls.EndpointClose 4611686018427387903 (98 ∷ 121 ∷ [])) ∷ turns.PeerBi ∷ turns.Call (calls.Close 4611686018427387903 ([])) ∷ []) ≡ record { answers = (answer replies.Done (actions.Opened 3 ∷ actions.Send 3 (0 ∷ 4 ∷ 22 ∷ 1 ∷ 0 ∷ 7 ∷ 0 ∷ 8 ∷ 1 ∷ 51 ∷ 1 ∷ 171 ∷ 96 ∷ 55 ∷ 66 ∷ 1 ∷ 192 ∷ 0 ∷ 0 ∷ 0 ∷ 198 ∷ 113 ∷ 112 ∷ 106 ∷ 4 ∷ []) ∷ []) ∷ answer replies.Done (actions.Close 4611686018427387903 (98 ∷ 121 ∷ []) ∷ []) ∷ answer replies.Done ([]) ∷ answer replies.NoSession ([]) ∷ []); is_all = true }
unfolding computed
trace_0014 = refl

pub trace_0018 : run Server (turns.Connected 9 9 1000 (facts.Limit 1200) ∷ turns.PeerUni ∷ turns.Call (calls.AcceptBi (Some 0)) ∷ turns.PeerBi ∷ turns.Bytes 2 (64 ∷ 84 ∷ 4 ∷ []) ∷ turns.Bytes 0 (64 ∷ 65 ∷ 64 ∷ 64 ∷ 220 ∷ 53 ∷ 208 ∷ 156 ∷ 108 ∷ 11 ∷ 237 ∷ []) ∷ turns.Call (calls.AcceptUni (Some 4)) ∷ turns.Bytes 0 (169 ∷ 182 ∷ 149 ∷ 84 ∷ 232 ∷ 56 ∷ 220 ∷ 57 ∷ 197 ∷ 250 ∷ 145 ∷ []) ∷ turns.MaxUni 10 ∷ turns.Bytes 0 (31 ∷ []) ∷ turns.Reset 2 7 ∷ turns.Call (calls.AcceptUni None) ∷ turns.Bytes 0 (186 ∷ []) ∷ turns.PeerUni ∷ turns.Bytes 6 (0 ∷ []) ∷ turns.Loss losses.VersionMismatch ∷ []) ≡ record { answers = (answer replies.Done (actions.Opened 3 ∷ actions.Send 3 (0 ∷ 4 ∷ 22 ∷ 1 ∷ 0 ∷ 7 ∷ 0 ∷ 8 ∷ 1 ∷ 51 ∷ 1 ∷ 171 ∷ 96 ∷ 55 ∷ 66 ∷ 1 ∷ 192 ∷ 0 ∷ 0 ∷ 0 ∷ 198 ∷ 113 ∷ 112 ∷ 106 ∷ 4 ∷ []) ∷ []) ∷ answer replies.Done ([]) ∷ answer replies.NoSession ([]) ∷ answer replies.Done ([]) ∷ answer replies.Done ([]) ∷ answer replies.Done ([]) ∷ answer replies.NoSession ([]) ∷ answer replies.Done ([]) ∷ answer replies.Done ([]) ∷ answer replies.Done ([]) ∷ answer replies.Done ([]) ∷ answer replies.NoSession ([]) ∷ answer replies.Done ([]) ∷ answer replies.Done ([]) ∷ answer replies.Done ([]) ∷ answer replies.Done ([]) ∷ []); is_all = true }
unfolding computed
trace_0018 = refl

pub trace_0022 : run Server (turns.Connected 0 9 25 (facts.Limit 1200) ∷ turns.PeerUni ∷ turns.MaxUni 2 ∷ turns.Bytes 2 (0 ∷ []) ∷ turns.PeerBi ∷ turns.Bytes 0 (3 ∷ 1 ∷ 221 ∷ 64 ∷ 95 ∷ []) ∷ turns.PeerBi ∷ turns.Bytes 0 (20 ∷ 7 ∷ []) ∷ turns.PeerBi ∷ turns.Bytes 2 (3 ∷ []) ∷ turns.Bytes 8 (8 ∷ []) ∷ turns.Bytes 0 (200 ∷ 138 ∷ 110 ∷ []) ∷ turns.Bytes 2 (3 ∷ 43 ∷ []) ∷ turns.Bytes 2 (16 ∷ []) ∷ turns.PeerBi ∷ turns.Bytes 2 (184 ∷ []) ∷ turns.Bytes 12 (91 ∷ []) ∷ []) ≡ record { answers = (answer replies.Done ([]) ∷ answer replies.Done ([]) ∷ answer replies.Done (actions.Opened 3 ∷ actions.Send 3 (0 ∷ 4 ∷ 22 ∷ 1 ∷ 0 ∷ 7 ∷ 0 ∷ 8 ∷ 1 ∷ 51 ∷ 1 ∷ 171 ∷ 96 ∷ 55 ∷ 66 ∷ 1 ∷ 192 ∷ 0 ∷ 0 ∷ 0 ∷ 198 ∷ 113 ∷ 112 ∷ 106 ∷ 4 ∷ []) ∷ []) ∷ answer replies.Done ([]) ∷ answer replies.Done ([]) ∷ answer replies.Done ([]) ∷ answer replies.Done ([]) ∷ answer replies.Done ([]) ∷ answer replies.Done ([]) ∷ answer replies.Done ([]) ∷ answer replies.Done ([]) ∷ answer replies.Done ([]) ∷ answer replies.Done ([]) ∷ answer replies.Done ([]) ∷ answer replies.Done ([]) ∷ answer replies.Done ([]) ∷ answer replies.Done ([]) ∷ []); is_all = true }
unfolding computed
trace_0022 = refl

pub trace_0023 : run Server (turns.Connected 9 9 25 (facts.Limit 1200) ∷ turns.PeerBi ∷ turns.PeerBi ∷ turns.Bytes 0 (1 ∷ 64 ∷ 80 ∷ []) ∷ turns.PeerUni ∷ turns.Bytes 2 (0 ∷ 64 ∷ 64 ∷ 9 ∷ 103 ∷ 84 ∷ 38 ∷ 2 ∷ 167 ∷ 239 ∷ 244 ∷ 219 ∷ 18 ∷ 4 ∷ 27 ∷ 192 ∷ 0 ∷ 0 ∷ 0 ∷ 198 ∷ 113 ∷ 112 ∷ 106 ∷ 255 ∷ 255 ∷ 255 ∷ 255 ∷ 255 ∷ 255 ∷ 255 ∷ 255 ∷ 7 ∷ 0 ∷ 255 ∷ 255 ∷ 255 ∷ 255 ∷ 255 ∷ 255 ∷ 255 ∷ 255 ∷ 47 ∷ 3 ∷ 192 ∷ 0 ∷ 0 ∷ 0 ∷ 0 ∷ 0 ∷ 0 ∷ 3 ∷ 134 ∷ 171 ∷ 230 ∷ []) ∷ []) ≡ record { answers = (answer replies.Done (actions.Opened 3 ∷ actions.Send 3 (0 ∷ 4 ∷ 22 ∷ 1 ∷ 0 ∷ 7 ∷ 0 ∷ 8 ∷ 1 ∷ 51 ∷ 1 ∷ 171 ∷ 96 ∷ 55 ∷ 66 ∷ 1 ∷ 192 ∷ 0 ∷ 0 ∷ 0 ∷ 198 ∷ 113 ∷ 112 ∷ 106 ∷ 4 ∷ []) ∷ []) ∷ answer replies.Done ([]) ∷ answer replies.Done ([]) ∷ answer replies.Done ([]) ∷ answer replies.Done ([]) ∷ answer replies.Done (actions.Close 266 ([]) ∷ []) ∷ []); is_all = true }
unfolding computed
trace_0023 = refl

pub trace_0025 : run Client (turns.Call (calls.Connect ((104 ∷ 116 ∷ 116 ∷ 112 ∷ 115 ∷ 58 ∷ 47 ∷ 47 ∷ 104 ∷ 58 ∷ 52 ∷ 52 ∷ 51 ∷ 51 ∷ 47 ∷ 112 ∷ 63 ∷ 113 ∷ []), ([])) (lookups.Found (addresses.V4 2130706433 4433)) outcomes.Proceed) ∷ turns.Connected 0 9 50 (facts.Limit 1200) ∷ turns.Call calls.Handshake ∷ turns.Call calls.Handshake ∷ turns.Call calls.Handshake ∷ turns.Call calls.Handshake ∷ turns.Datagram (0 ∷ 184 ∷ []) ∷ turns.Call calls.Handshake ∷ turns.MaxUni 9 ∷ turns.Call calls.Handshake ∷ turns.PeerUni ∷ turns.Call calls.Handshake ∷ turns.Call calls.Handshake ∷ turns.Call calls.Handshake ∷ turns.Call calls.Handshake ∷ turns.PeerUni ∷ turns.Call calls.Handshake ∷ []) ≡ record { answers = (answer replies.Pending (actions.Dial (addresses.V4 2130706433 4433) (104 ∷ []) ∷ []) ∷ answer replies.Done ([]) ∷ answer replies.Pending ([]) ∷ answer replies.Pending ([]) ∷ answer replies.Pending ([]) ∷ answer replies.Pending ([]) ∷ answer replies.Done ([]) ∷ answer replies.Pending ([]) ∷ answer replies.Done (actions.Opened 2 ∷ actions.Send 2 (0 ∷ 4 ∷ 22 ∷ 1 ∷ 0 ∷ 7 ∷ 0 ∷ 8 ∷ 1 ∷ 51 ∷ 1 ∷ 171 ∷ 96 ∷ 55 ∷ 66 ∷ 1 ∷ 192 ∷ 0 ∷ 0 ∷ 0 ∷ 198 ∷ 113 ∷ 112 ∷ 106 ∷ 4 ∷ []) ∷ []) ∷ answer replies.Pending ([]) ∷ answer replies.Done ([]) ∷ answer replies.Pending ([]) ∷ answer replies.Pending ([]) ∷ answer replies.Pending ([]) ∷ answer replies.Pending ([]) ∷ answer replies.Done ([]) ∷ answer replies.Pending ([]) ∷ []); is_all = true }
unfolding computed parsed
trace_0025 = refl

pub trace_0026 : run Client (turns.Call (calls.Connect ((72 ∷ 84 ∷ 84 ∷ 80 ∷ 83 ∷ 58 ∷ 47 ∷ 47 ∷ 47 ∷ 91 ∷ 47 ∷ 39 ∷ []), ([])) (lookups.Found (addresses.V4 2130706433 4433)) outcomes.Proceed) ∷ []) ≡ record { answers = (answer (replies.ConnectFailed (connects.InvalidUrl refusals.Parse)) ([]) ∷ []); is_all = true }
unfolding computed parsed
trace_0026 = refl

pub trace_0029 : run Client (turns.Call (calls.Connect ((104 ∷ 116 ∷ 116 ∷ 112 ∷ 115 ∷ 58 ∷ 47 ∷ 47 ∷ 91 ∷ 58 ∷ 58 ∷ 49 ∷ 93 ∷ 58 ∷ 57 ∷ 57 ∷ 47 ∷ 120 ∷ 63 ∷ 121 ∷ 35 ∷ 122 ∷ []), ([])) (lookups.Found (addresses.V4 2130706433 4433)) outcomes.EndpointStopping) ∷ []) ≡ record { answers = (answer (replies.ConnectFailed connects.EndpointStopping) ([]) ∷ []); is_all = true }
unfolding computed parsed
trace_0029 = refl

pub trace_0035 : run Client (turns.Call (calls.Connect ((104 ∷ 116 ∷ 116 ∷ 112 ∷ 115 ∷ 58 ∷ 47 ∷ 47 ∷ 91 ∷ 58 ∷ 58 ∷ 49 ∷ 93 ∷ 58 ∷ 57 ∷ 57 ∷ 47 ∷ 120 ∷ 63 ∷ 121 ∷ 35 ∷ 122 ∷ []), (((58 ∷ 112 ∷ 97 ∷ 116 ∷ 104 ∷ []), (120 ∷ [])) ∷ [])) (lookups.Found (addresses.V4 2130706433 4433)) outcomes.Proceed) ∷ turns.Connected 100 1 26 facts.Unsupported ∷ turns.Call calls.Handshake ∷ turns.PeerUni ∷ turns.Call calls.Handshake ∷ turns.Call calls.Handshake ∷ turns.Call calls.Handshake ∷ turns.Bytes 3 (0 ∷ 4 ∷ 12 ∷ 1 ∷ 67 ∷ 232 ∷ 51 ∷ 255 ∷ 255 ∷ 255 ∷ 255 ∷ 255 ∷ 255 ∷ 255 ∷ 255 ∷ []) ∷ turns.Call calls.Handshake ∷ []) ≡ record { answers = (answer replies.Pending (actions.Dial (addresses.V6 1 99) (58 ∷ 58 ∷ 49 ∷ []) ∷ []) ∷ answer replies.Done (actions.Opened 2 ∷ actions.Send 2 (0 ∷ 4 ∷ 22 ∷ 1 ∷ 0 ∷ 7 ∷ 0 ∷ 8 ∷ 1 ∷ 51 ∷ 1 ∷ 171 ∷ 96 ∷ 55 ∷ 66 ∷ 1 ∷ 192 ∷ 0 ∷ 0 ∷ 0 ∷ 198 ∷ 113 ∷ 112 ∷ 106 ∷ 4 ∷ []) ∷ []) ∷ answer replies.Pending ([]) ∷ answer replies.Done ([]) ∷ answer replies.Pending ([]) ∷ answer replies.Pending ([]) ∷ answer replies.Pending ([]) ∷ answer replies.Done ([]) ∷ answer (replies.ConnectFailed (connects.ReservedHeader (58 ∷ 112 ∷ 97 ∷ 116 ∷ 104 ∷ []))) (actions.Close 0 ([]) ∷ []) ∷ []); is_all = true }
unfolding computed parsed
trace_0035 = refl

pub trace_0036 : run Server (turns.Connected 100 1 1000 (facts.Limit 1200) ∷ turns.MaxData 3 1001 ∷ turns.Datagram (16 ∷ 156 ∷ 103 ∷ 112 ∷ 15 ∷ 86 ∷ 126 ∷ 241 ∷ 255 ∷ 109 ∷ []) ∷ turns.PeerUni ∷ turns.DatagramLimit facts.Disabled ∷ turns.Call (calls.Stopped 6) ∷ turns.PeerBi ∷ turns.Datagram (0 ∷ 142 ∷ 105 ∷ 213 ∷ 3 ∷ 189 ∷ 136 ∷ 171 ∷ 181 ∷ 79 ∷ 168 ∷ 169 ∷ 12 ∷ 158 ∷ 124 ∷ 251 ∷ 155 ∷ 79 ∷ 224 ∷ 179 ∷ 192 ∷ []) ∷ turns.PeerBi ∷ turns.Call (calls.Finish 0) ∷ turns.Loss losses.VersionMismatch ∷ []) ≡ record { answers = (answer replies.Done (actions.Opened 3 ∷ actions.Send 3 (0 ∷ 4 ∷ 22 ∷ 1 ∷ 0 ∷ 7 ∷ 0 ∷ 8 ∷ 1 ∷ 51 ∷ 1 ∷ 171 ∷ 96 ∷ 55 ∷ 66 ∷ 1 ∷ 192 ∷ 0 ∷ 0 ∷ 0 ∷ 198 ∷ 113 ∷ 112 ∷ 106 ∷ 4 ∷ []) ∷ []) ∷ answer replies.Done ([]) ∷ answer replies.Done ([]) ∷ answer replies.Done ([]) ∷ answer replies.Done ([]) ∷ answer replies.NoStream ([]) ∷ answer replies.Done ([]) ∷ answer replies.Done ([]) ∷ answer replies.Done ([]) ∷ answer replies.NoStream ([]) ∷ answer replies.Done ([]) ∷ []); is_all = true }
unfolding computed
trace_0036 = refl

pub trace_0037 : run Client (turns.Call (calls.Connect ((72 ∷ 46 ∷ 101 ∷ 88 ∷ 58 ∷ []), (((58 ∷ 97 ∷ 117 ∷ 116 ∷ 104 ∷ 111 ∷ 114 ∷ 105 ∷ 116 ∷ 121 ∷ []), (98 ∷ [])) ∷ ((58 ∷ 115 ∷ 99 ∷ 104 ∷ 101 ∷ 109 ∷ 101 ∷ []), (97 ∷ [])) ∷ [])) (lookups.Found (addresses.V4 2130706433 4433)) outcomes.Proceed) ∷ []) ≡ record { answers = (answer (replies.ConnectFailed (connects.InvalidUrl refusals.Scheme)) ([]) ∷ []); is_all = true }
unfolding computed parsed
trace_0037 = refl

pub trace_0040 : run Client (turns.Call (calls.Connect ((72 ∷ 84 ∷ 84 ∷ 80 ∷ 83 ∷ 58 ∷ 47 ∷ 47 ∷ 47 ∷ 64 ∷ 104 ∷ 37 ∷ 52 ∷ 49 ∷ 58 ∷ 47 ∷ 46 ∷ 46 ∷ []), ([])) (lookups.Found (addresses.V4 2130706433 4433)) outcomes.Proceed) ∷ turns.Connected 1 9 26 facts.Unsupported ∷ turns.Call (calls.PollOpening 2) ∷ turns.PeerUni ∷ turns.PeerUni ∷ turns.PeerBi ∷ turns.Bytes 1 (113 ∷ 137 ∷ 1 ∷ 230 ∷ 128 ∷ 0 ∷ 0 ∷ 65 ∷ 0 ∷ 39 ∷ []) ∷ turns.Call calls.Handshake ∷ turns.Bytes 7 (64 ∷ 65 ∷ 206 ∷ 110 ∷ 103 ∷ 145 ∷ 104 ∷ []) ∷ turns.MaxData 1 27 ∷ turns.Reset 1 7 ∷ turns.Call calls.Handshake ∷ turns.Datagram (208 ∷ 0 ∷ 0 ∷ 0 ∷ 0 ∷ 0 ∷ 0 ∷ 0 ∷ []) ∷ []) ≡ record { answers = (answer replies.Pending (actions.Dial (addresses.V4 2130706433 4433) (104 ∷ 97 ∷ []) ∷ []) ∷ answer replies.Done (actions.Opened 2 ∷ actions.Send 2 (0 ∷ 4 ∷ 22 ∷ 1 ∷ 0 ∷ 7 ∷ 0 ∷ 8 ∷ 1 ∷ 51 ∷ 1 ∷ 171 ∷ 96 ∷ 55 ∷ 66 ∷ 1 ∷ 192 ∷ 0 ∷ 0 ∷ 0 ∷ 198 ∷ 113 ∷ 112 ∷ 106 ∷ 4 ∷ []) ∷ []) ∷ answer replies.NoSession ([]) ∷ answer replies.Done ([]) ∷ answer replies.Done ([]) ∷ answer replies.Done ([]) ∷ answer replies.Done ([]) ∷ answer replies.Pending ([]) ∷ answer replies.Done ([]) ∷ answer replies.Done ([]) ∷ answer replies.Done ([]) ∷ answer replies.Pending ([]) ∷ answer replies.Done (actions.Close 51 ([]) ∷ []) ∷ []); is_all = true }
unfolding computed parsed
trace_0040 = refl

pub trace_0041 : run Client (turns.Call (calls.Connect ((104 ∷ 116 ∷ 116 ∷ 112 ∷ 115 ∷ 58 ∷ 47 ∷ 47 ∷ 104 ∷ []), ([])) (lookups.Found (addresses.V4 2130706433 4433)) outcomes.Proceed) ∷ turns.Connected 3 9 26 facts.Disabled ∷ turns.Call calls.Handshake ∷ turns.Call calls.Handshake ∷ turns.PeerUni ∷ turns.Call calls.Handshake ∷ turns.Bytes 3 (0 ∷ []) ∷ turns.Call calls.Handshake ∷ turns.Call calls.Handshake ∷ turns.Call calls.Handshake ∷ turns.Bytes 3 (4 ∷ 34 ∷ 6 ∷ 67 ∷ 232 ∷ 8 ∷ 0 ∷ 7 ∷ 255 ∷ 255 ∷ 255 ∷ 255 ∷ 255 ∷ 255 ∷ 255 ∷ 255 ∷ 192 ∷ 0 ∷ 0 ∷ 0 ∷ 198 ∷ 113 ∷ 112 ∷ 106 ∷ 0 ∷ 51 ∷ 5 ∷ 1 ∷ 255 ∷ 255 ∷ 255 ∷ 255 ∷ 255 ∷ 255 ∷ 255 ∷ 255 ∷ []) ∷ turns.Call calls.Handshake ∷ turns.MaxData 0 126 ∷ turns.Call calls.Handshake ∷ turns.Bytes 0 (1 ∷ []) ∷ turns.Bytes 0 (2 ∷ 0 ∷ 0 ∷ []) ∷ turns.PeerUni ∷ turns.Call calls.Handshake ∷ []) ≡ record { answers = (answer replies.Pending (actions.Dial (addresses.V4 2130706433 4433) (104 ∷ []) ∷ []) ∷ answer replies.Done (actions.Opened 2 ∷ actions.Send 2 (0 ∷ 4 ∷ 22 ∷ 1 ∷ 0 ∷ 7 ∷ 0 ∷ 8 ∷ 1 ∷ 51 ∷ 1 ∷ 171 ∷ 96 ∷ 55 ∷ 66 ∷ 1 ∷ 192 ∷ 0 ∷ 0 ∷ 0 ∷ 198 ∷ 113 ∷ 112 ∷ 106 ∷ 4 ∷ []) ∷ []) ∷ answer replies.Pending ([]) ∷ answer replies.Pending ([]) ∷ answer replies.Done ([]) ∷ answer replies.Pending ([]) ∷ answer replies.Done ([]) ∷ answer replies.Pending ([]) ∷ answer replies.Pending ([]) ∷ answer replies.Pending ([]) ∷ answer replies.Done ([]) ∷ answer replies.Pending (actions.Opened 0 ∷ actions.Send 0 (1 ∷ 64 ∷ 80 ∷ 0 ∷ 0 ∷ 39 ∷ 3 ∷ 58 ∷ 97 ∷ 117 ∷ 116 ∷ 104 ∷ 111 ∷ 114 ∷ 105 ∷ 116 ∷ 121 ∷ 1 ∷ 104 ∷ 39 ∷ 0 ∷ 58 ∷ 109 ∷ 101 ∷ 116 ∷ 104 ∷ []) ∷ []) ∷ answer replies.Done ([]) ∷ answer replies.Pending (actions.Send 0 (111 ∷ 100 ∷ 7 ∷ 67 ∷ 79 ∷ 78 ∷ 78 ∷ 69 ∷ 67 ∷ 84 ∷ 37 ∷ 58 ∷ 112 ∷ 97 ∷ 116 ∷ 104 ∷ 1 ∷ 47 ∷ 39 ∷ 2 ∷ 58 ∷ 112 ∷ 114 ∷ 111 ∷ 116 ∷ 111 ∷ 99 ∷ 111 ∷ 108 ∷ 12 ∷ 119 ∷ 101 ∷ 98 ∷ 116 ∷ 114 ∷ 97 ∷ 110 ∷ 115 ∷ 112 ∷ 111 ∷ 114 ∷ 116 ∷ 39 ∷ 0 ∷ 58 ∷ 115 ∷ 99 ∷ 104 ∷ 101 ∷ 109 ∷ 101 ∷ 5 ∷ 104 ∷ 116 ∷ 116 ∷ 112 ∷ 115 ∷ []) ∷ []) ∷ answer replies.Done ([]) ∷ answer replies.Done ([]) ∷ answer replies.Done ([]) ∷ answer (replies.ConnectFailed (connects.ConnectionError (errors.LocalH3Error h3.Message))) (actions.Close 270 ([]) ∷ []) ∷ []); is_all = true }
unfolding computed parsed
trace_0041 = refl

pub trace_0044 : run Server (turns.Connected 1 2 1000 (facts.Limit 5) ∷ turns.PeerBi ∷ turns.Bytes 0 (13 ∷ 20 ∷ []) ∷ turns.PeerUni ∷ turns.MaxData 0 1024 ∷ turns.Call (calls.AcceptBi (Some 0)) ∷ turns.Bytes 2 (64 ∷ 0 ∷ 4 ∷ 61 ∷ 171 ∷ []) ∷ turns.Bytes 0 (141 ∷ 82 ∷ 52 ∷ 73 ∷ 125 ∷ 134 ∷ 204 ∷ 255 ∷ 188 ∷ 61 ∷ 54 ∷ 223 ∷ 255 ∷ 12 ∷ 2 ∷ 106 ∷ []) ∷ turns.Call (calls.AcceptUni None) ∷ turns.Call (calls.AcceptBi None) ∷ turns.Bytes 0 (151 ∷ []) ∷ turns.MaxBi 3 ∷ turns.Call (calls.MaxDatagramSize None) ∷ turns.MaxBi 4 ∷ turns.Bytes 2 (96 ∷ 55 ∷ 66 ∷ 5 ∷ 51 ∷ 67 ∷ 232 ∷ 192 ∷ 0 ∷ 0 ∷ 0 ∷ 198 ∷ 113 ∷ 112 ∷ 106 ∷ 1 ∷ 255 ∷ 255 ∷ 255 ∷ 255 ∷ 255 ∷ 255 ∷ 255 ∷ 255 ∷ 2 ∷ 6 ∷ 1 ∷ 1 ∷ 255 ∷ 255 ∷ 255 ∷ 255 ∷ 255 ∷ 255 ∷ 255 ∷ 255 ∷ 8 ∷ 128 ∷ 0 ∷ 0 ∷ 5 ∷ 255 ∷ 255 ∷ 255 ∷ 255 ∷ []) ∷ turns.PeerUni ∷ turns.Call (calls.EndpointClose 4611686018427387903 ([])) ∷ turns.Call (calls.ReceiveDatagram (Some 0)) ∷ turns.Bytes 0 (142 ∷ []) ∷ turns.Bytes 6 (64 ∷ []) ∷ turns.Bytes 2 (255 ∷ 255 ∷ 255 ∷ 255 ∷ 64 ∷ 86 ∷ 7 ∷ 255 ∷ 255 ∷ 255 ∷ 255 ∷ []) ∷ turns.Reset 0 386759528 ∷ turns.Bytes 2 (255 ∷ 255 ∷ 255 ∷ 255 ∷ []) ∷ turns.Call (calls.ReceiveDatagram None) ∷ turns.Bytes 6 (84 ∷ 0 ∷ 133 ∷ []) ∷ turns.End 6 ∷ turns.PeerBi ∷ []) ≡ record { answers = (answer replies.Done (actions.Opened 3 ∷ actions.Send 3 (0 ∷ 4 ∷ 22 ∷ 1 ∷ 0 ∷ 7 ∷ 0 ∷ 8 ∷ 1 ∷ 51 ∷ 1 ∷ 171 ∷ 96 ∷ 55 ∷ 66 ∷ 1 ∷ 192 ∷ 0 ∷ 0 ∷ 0 ∷ 198 ∷ 113 ∷ 112 ∷ 106 ∷ 4 ∷ []) ∷ []) ∷ answer replies.Done ([]) ∷ answer replies.Done ([]) ∷ answer replies.Done ([]) ∷ answer replies.Done ([]) ∷ answer replies.NoSession ([]) ∷ answer replies.Done ([]) ∷ answer replies.Done ([]) ∷ answer replies.NoSession ([]) ∷ answer replies.NoSession ([]) ∷ answer replies.Done ([]) ∷ answer replies.Done ([]) ∷ answer replies.NoSession ([]) ∷ answer replies.Done ([]) ∷ answer replies.Done ([]) ∷ answer replies.Done ([]) ∷ answer replies.Done (actions.Close 4611686018427387903 ([]) ∷ []) ∷ answer replies.NoSession ([]) ∷ answer replies.Done ([]) ∷ answer replies.Done ([]) ∷ answer replies.Done ([]) ∷ answer replies.Done ([]) ∷ answer replies.Done ([]) ∷ answer replies.NoSession ([]) ∷ answer replies.Done ([]) ∷ answer replies.Done ([]) ∷ answer replies.Done ([]) ∷ []); is_all = true }
unfolding computed
trace_0044 = refl

pub trace_0045 : run Client (turns.Call (calls.Connect ((104 ∷ 116 ∷ 116 ∷ 112 ∷ 115 ∷ 58 ∷ 47 ∷ 47 ∷ 104 ∷ []), ([])) (lookups.Found (addresses.V4 2130706433 4433)) outcomes.Proceed) ∷ turns.Connected 1 0 26 (facts.Limit 1200) ∷ turns.PeerUni ∷ turns.Call calls.Handshake ∷ turns.Call calls.Handshake ∷ turns.Bytes 3 (0 ∷ 7 ∷ 0 ∷ 3 ∷ 3 ∷ 254 ∷ 157 ∷ 69 ∷ 64 ∷ 4 ∷ 5 ∷ 171 ∷ 96 ∷ 55 ∷ 66 ∷ 1 ∷ 2 ∷ 2 ∷ 122 ∷ 37 ∷ 7 ∷ 3 ∷ 9 ∷ 159 ∷ 101 ∷ 6 ∷ 1 ∷ 73 ∷ []) ∷ turns.Call calls.Handshake ∷ turns.Call calls.Handshake ∷ turns.Call calls.Handshake ∷ turns.Call (calls.Close 1 (98 ∷ 121 ∷ [])) ∷ turns.Call calls.Handshake ∷ turns.Call calls.Handshake ∷ turns.Call calls.Handshake ∷ turns.Call calls.Handshake ∷ turns.Call calls.Handshake ∷ turns.Call calls.Handshake ∷ turns.Call calls.Handshake ∷ turns.Call calls.Handshake ∷ turns.MaxBi 2 ∷ turns.Call calls.Handshake ∷ turns.Bytes 0 (8 ∷ 2 ∷ 37 ∷ 12 ∷ 1 ∷ 22 ∷ 0 ∷ 0 ∷ 39 ∷ 0 ∷ 58 ∷ 115 ∷ 116 ∷ 97 ∷ 116 ∷ 117 ∷ 115 ∷ 3 ∷ 50 ∷ 48 ∷ 48 ∷ 33 ∷ 120 ∷ 4 ∷ 97 ∷ 195 ∷ 191 ∷ 120 ∷ 64 ∷ 95 ∷ 2 ∷ 73 ∷ 27 ∷ []) ∷ turns.MaxData 0 126 ∷ turns.Call calls.Handshake ∷ turns.Call (calls.WriteAll 2 (107 ∷ 210 ∷ [])) ∷ turns.PeerBi ∷ turns.Call (calls.ReceiveDatagram None) ∷ turns.Call (calls.PollOpening 1) ∷ turns.Bytes 0 (45 ∷ 113 ∷ 63 ∷ []) ∷ turns.Datagram (6 ∷ []) ∷ turns.Call (calls.ReadExact 0 18446744073709551615) ∷ turns.Bytes 1 (64 ∷ 65 ∷ 12 ∷ 232 ∷ 110 ∷ 20 ∷ []) ∷ turns.Call (calls.PollOpening 0) ∷ turns.PeerBi ∷ turns.Bytes 5 (64 ∷ 65 ∷ 0 ∷ 100 ∷ 18 ∷ 110 ∷ 61 ∷ 124 ∷ 241 ∷ 145 ∷ 44 ∷ 177 ∷ []) ∷ turns.Call (calls.ReceiveDatagram None) ∷ turns.Call (calls.ReceiveDatagram (Some 0)) ∷ turns.PeerBi ∷ turns.End 9 ∷ turns.Call calls.Closed ∷ turns.Call (calls.AcceptUni (Some 0)) ∷ turns.PeerBi ∷ turns.Call (calls.OpenBi (Some 0)) ∷ turns.Call (calls.AcceptUni (Some 0)) ∷ turns.Call (calls.EndpointClose 5 (98 ∷ 121 ∷ [])) ∷ turns.MaxData 13 26 ∷ turns.Bytes 4 (112 ∷ 132 ∷ 149 ∷ 175 ∷ 34 ∷ 248 ∷ 182 ∷ 206 ∷ 133 ∷ 210 ∷ 167 ∷ 172 ∷ 233 ∷ 141 ∷ 218 ∷ 152 ∷ 176 ∷ 25 ∷ 217 ∷ 200 ∷ []) ∷ turns.Reset 13 5 ∷ turns.Loss losses.Reset ∷ turns.Call (calls.AcceptUni (Some 0)) ∷ turns.Call (calls.Read 8 1) ∷ turns.Call (calls.AcceptBi (Some 0)) ∷ turns.Call (calls.ReceiveDatagram (Some 0)) ∷ turns.Call (calls.Write 5 (183 ∷ [])) ∷ turns.Call (calls.OpenUni (Some 0)) ∷ turns.Call (calls.AcceptBi (Some 0)) ∷ turns.Call (calls.Write 5 (184 ∷ 13 ∷ [])) ∷ turns.Call (calls.Read 5 1000) ∷ turns.Call (calls.AcceptUni (Some 0)) ∷ turns.Call (calls.AcceptUni (Some 0)) ∷ []) ≡ record { answers = (answer replies.Pending (actions.Dial (addresses.V4 2130706433 4433) (104 ∷ []) ∷ []) ∷ answer replies.Done (actions.Opened 2 ∷ actions.Send 2 (0 ∷ 4 ∷ 22 ∷ 1 ∷ 0 ∷ 7 ∷ 0 ∷ 8 ∷ 1 ∷ 51 ∷ 1 ∷ 171 ∷ 96 ∷ 55 ∷ 66 ∷ 1 ∷ 192 ∷ 0 ∷ 0 ∷ 0 ∷ 198 ∷ 113 ∷ 112 ∷ 106 ∷ 4 ∷ []) ∷ []) ∷ answer replies.Done ([]) ∷ answer replies.Pending ([]) ∷ answer replies.Pending ([]) ∷ answer replies.Done ([]) ∷ answer replies.Pending ([]) ∷ answer replies.Pending ([]) ∷ answer replies.Pending ([]) ∷ answer replies.NoSession ([]) ∷ answer replies.Pending ([]) ∷ answer replies.Pending ([]) ∷ answer replies.Pending ([]) ∷ answer replies.Pending ([]) ∷ answer replies.Pending ([]) ∷ answer replies.Pending ([]) ∷ answer replies.Pending ([]) ∷ answer replies.Pending ([]) ∷ answer replies.Done ([]) ∷ answer replies.Pending (actions.Opened 0 ∷ actions.Send 0 (1 ∷ 64 ∷ 80 ∷ 0 ∷ 0 ∷ 39 ∷ 3 ∷ 58 ∷ 97 ∷ 117 ∷ 116 ∷ 104 ∷ 111 ∷ 114 ∷ 105 ∷ 116 ∷ 121 ∷ 1 ∷ 104 ∷ 39 ∷ 0 ∷ 58 ∷ 109 ∷ 101 ∷ 116 ∷ 104 ∷ []) ∷ []) ∷ answer replies.Done ([]) ∷ answer replies.Done ([]) ∷ answer (replies.Session 0) (actions.Send 0 (111 ∷ 100 ∷ 7 ∷ 67 ∷ 79 ∷ 78 ∷ 78 ∷ 69 ∷ 67 ∷ 84 ∷ 37 ∷ 58 ∷ 112 ∷ 97 ∷ 116 ∷ 104 ∷ 1 ∷ 47 ∷ 39 ∷ 2 ∷ 58 ∷ 112 ∷ 114 ∷ 111 ∷ 116 ∷ 111 ∷ 99 ∷ 111 ∷ 108 ∷ 12 ∷ 119 ∷ 101 ∷ 98 ∷ 116 ∷ 114 ∷ 97 ∷ 110 ∷ 115 ∷ 112 ∷ 111 ∷ 114 ∷ 116 ∷ 39 ∷ 0 ∷ 58 ∷ 115 ∷ 99 ∷ 104 ∷ 101 ∷ 109 ∷ 101 ∷ 5 ∷ 104 ∷ 116 ∷ 116 ∷ 112 ∷ 115 ∷ []) ∷ []) ∷ answer replies.NoStream ([]) ∷ answer replies.Done ([]) ∷ answer replies.Pending ([]) ∷ answer replies.NoStream ([]) ∷ answer replies.Done ([]) ∷ answer replies.Done ([]) ∷ answer replies.NoStream ([]) ∷ answer replies.Done ([]) ∷ answer replies.NoStream ([]) ∷ answer replies.Done ([]) ∷ answer replies.Done ([]) ∷ answer replies.Pending ([]) ∷ answer replies.Pending ([]) ∷ answer replies.Done ([]) ∷ answer replies.Done ([]) ∷ answer replies.Pending ([]) ∷ answer replies.Pending ([]) ∷ answer replies.Done ([]) ∷ answer (replies.Opening 4) (actions.Opened 4 ∷ []) ∷ answer replies.Pending ([]) ∷ answer replies.Done (actions.Close 5 (98 ∷ 121 ∷ []) ∷ []) ∷ answer replies.Done ([]) ∷ answer replies.Done ([]) ∷ answer replies.Done ([]) ∷ answer replies.Done ([]) ∷ answer (replies.Failed errors.LocallyClosed) ([]) ∷ answer replies.NoStream ([]) ∷ answer (replies.Bi 5) ([]) ∷ answer (replies.Failed errors.LocallyClosed) ([]) ∷ answer (replies.WriteFailed writes.NotConnected) ([]) ∷ answer (replies.Failed errors.LocallyClosed) ([]) ∷ answer (replies.Failed errors.LocallyClosed) ([]) ∷ answer (replies.WriteFailed writes.NotConnected) ([]) ∷ answer (replies.Read (Some (100 ∷ 18 ∷ 110 ∷ 61 ∷ 124 ∷ 241 ∷ 145 ∷ 44 ∷ 177 ∷ []))) ([]) ∷ answer (replies.Failed errors.LocallyClosed) ([]) ∷ answer (replies.Failed errors.LocallyClosed) ([]) ∷ []); is_all = true }
unfolding computed parsed
trace_0045 = refl

pub trace_0047 : run Client (turns.Call (calls.Connect ((104 ∷ 116 ∷ 116 ∷ 112 ∷ 115 ∷ 58 ∷ 47 ∷ 47 ∷ 97 ∷ 64 ∷ 98 ∷ 64 ∷ 49 ∷ 46 ∷ 50 ∷ 46 ∷ 51 ∷ 46 ∷ 50 ∷ 53 ∷ 54 ∷ 47 ∷ 46 ∷ 46 ∷ 47 ∷ 123 ∷ []), ([])) (lookups.Found (addresses.V6 1 1)) outcomes.Proceed) ∷ []) ≡ record { answers = (answer (replies.ConnectFailed (connects.InvalidUrl refusals.Parse)) ([]) ∷ []); is_all = true }
unfolding computed parsed
trace_0047 = refl

pub trace_0050 : run Client (turns.Call (calls.Connect ((104 ∷ 116 ∷ 116 ∷ 112 ∷ 115 ∷ 58 ∷ 47 ∷ 47 ∷ 49 ∷ 50 ∷ 55 ∷ 46 ∷ 48 ∷ 46 ∷ 48 ∷ 46 ∷ 49 ∷ 47 ∷ []), ([])) (lookups.Found (addresses.V4 2130706433 4433)) (outcomes.InvalidServerName (104 ∷ []))) ∷ turns.Call (calls.AcceptUni (Some 0)) ∷ []) ≡ record { answers = (answer (replies.ConnectFailed (connects.InvalidServerName (104 ∷ []))) ([]) ∷ answer replies.NoSession ([]) ∷ []); is_all = true }
unfolding computed parsed
trace_0050 = refl

pub trace_0051 : run Client (turns.Call (calls.Connect ((104 ∷ 116 ∷ 116 ∷ 112 ∷ 115 ∷ 58 ∷ 92 ∷ 92 ∷ 64 ∷ 47 ∷ 64 ∷ 63 ∷ 124 ∷ 58 ∷ 34 ∷ 60 ∷ 59 ∷ 58 ∷ []), ([])) (lookups.Found (addresses.V4 2130706433 4433)) outcomes.Proceed) ∷ []) ≡ record { answers = (answer (replies.ConnectFailed (connects.InvalidUrl refusals.Parse)) ([]) ∷ []); is_all = true }
unfolding computed parsed
trace_0051 = refl
