-- Recorded sessions: what the definitions give is what was recorded. Made by `tools/meaning lemmas`.
use Rattle.std.specs.Prelude.{[], ◌∷◌, ◌≡◌, None, false, true}
use Rattle.std.proofs.Common.{refl}
use Rattle.wt_meaning.proofs.Recorded.{computed, parsed}
use Rattle.wt_meaning.specs.Meaning.{run}
use Rattle.wt_meaning.specs.Rows.{answer}
use Rattle.wt_wire.specs.declared.side.Side.TheVariants.{Client, Server}
use Rattle.wt_turn.specs.declared.action.Action.TheVariants as actions
use Rattle.wt_wire.specs.declared.addr.Addr.TheVariants as addresses
use Rattle.wt_turn.specs.declared.call.Call.TheVariants as calls
use Rattle.wt_turn.specs.declared.connecting_error.ConnectingError.TheVariants as connects
use Rattle.wt_turn.specs.declared.datagram_fact.DatagramFact.TheVariants as facts
use Rattle.wt_wire.specs.declared.lookup.Lookup.TheVariants as lookups
use Rattle.wt_wire.specs.declared.lookup.ConnectOutcome.TheVariants as outcomes
use Rattle.wt_turn.specs.declared.loss.LossReason.TheVariants as losses
use Rattle.wt_turn.specs.declared.connecting_error.UrlRefusal.TheVariants as refusals
use Rattle.wt_turn.specs.declared.reply.Reply.TheVariants as replies
use Rattle.wt_turn.specs.declared.turn.Turn.TheVariants as turns

pub grammar_0000 : run Client ([]) ≡ record { answers = ([]); is_all = true }
unfolding computed
grammar_0000 = refl

pub grammar_0006 : run Server (turns.Connected 9 9 40 facts.Unsupported ∷ turns.PeerUni ∷ turns.Bytes 2 (192 ∷ 0 ∷ 0 ∷ 0 ∷ 0 ∷ 0 ∷ 0 ∷ 0 ∷ 6 ∷ 1 ∷ 212 ∷ 4 ∷ 9 ∷ 192 ∷ 0 ∷ 0 ∷ 0 ∷ 0 ∷ 0 ∷ 0 ∷ 1 ∷ 0 ∷ 6 ∷ 1 ∷ 191 ∷ 9 ∷ 1 ∷ 32 ∷ 104 ∷ 67 ∷ 1 ∷ 253 ∷ []) ∷ turns.Acked 0 ∷ []) ≡ record { answers = (answer replies.Done (actions.Opened 3 ∷ actions.Send 3 (0 ∷ 4 ∷ 22 ∷ 1 ∷ 0 ∷ 7 ∷ 0 ∷ 8 ∷ 1 ∷ 51 ∷ 1 ∷ 171 ∷ 96 ∷ 55 ∷ 66 ∷ 1 ∷ 192 ∷ 0 ∷ 0 ∷ 0 ∷ 198 ∷ 113 ∷ 112 ∷ 106 ∷ 4 ∷ []) ∷ []) ∷ answer replies.Done ([]) ∷ answer replies.Done ([]) ∷ []); is_all = false }
unfolding computed
grammar_0006 = refl

pub grammar_0017 : run Server (turns.Connected 9 9 1000 (facts.Limit 1200) ∷ turns.Datagram (0 ∷ 223 ∷ 117 ∷ 8 ∷ 160 ∷ 48 ∷ 218 ∷ 219 ∷ 152 ∷ 83 ∷ []) ∷ turns.PeerBi ∷ turns.Call (calls.SendDatagram (0 ∷ []) None) ∷ []) ≡ record { answers = (answer replies.Done (actions.Opened 3 ∷ actions.Send 3 (0 ∷ 4 ∷ 22 ∷ 1 ∷ 0 ∷ 7 ∷ 0 ∷ 8 ∷ 1 ∷ 51 ∷ 1 ∷ 171 ∷ 96 ∷ 55 ∷ 66 ∷ 1 ∷ 192 ∷ 0 ∷ 0 ∷ 0 ∷ 198 ∷ 113 ∷ 112 ∷ 106 ∷ 4 ∷ []) ∷ []) ∷ answer replies.Done ([]) ∷ answer replies.Done ([]) ∷ answer replies.NoSession ([]) ∷ []); is_all = true }
unfolding computed
grammar_0017 = refl

pub grammar_0025 : run Client (turns.Call (calls.Connect ((104 ∷ 116 ∷ 116 ∷ 112 ∷ 115 ∷ 58 ∷ 47 ∷ 47 ∷ 104 ∷ 58 ∷ 52 ∷ 52 ∷ 51 ∷ 51 ∷ 47 ∷ 112 ∷ 63 ∷ 113 ∷ []), ([])) (lookups.Found (addresses.V4 2130706433 4433)) outcomes.Proceed) ∷ turns.Connected 0 100 50 (facts.Limit 1200) ∷ turns.Call calls.Handshake ∷ turns.Datagram (170 ∷ 255 ∷ []) ∷ []) ≡ record { answers = (answer replies.Pending (actions.Dial (addresses.V4 2130706433 4433) (104 ∷ []) ∷ []) ∷ answer replies.Done ([]) ∷ answer replies.Pending ([]) ∷ answer replies.Done ([]) ∷ []); is_all = true }
unfolding computed parsed
grammar_0025 = refl

pub grammar_0026 : run Server (turns.Connected 9 2 40 (facts.Limit 5) ∷ turns.PeerUni ∷ turns.PeerBi ∷ turns.Bytes 0 (1 ∷ 2 ∷ []) ∷ turns.Bytes 2 (0 ∷ 4 ∷ 24 ∷ 192 ∷ 0 ∷ 0 ∷ 0 ∷ 198 ∷ 113 ∷ 112 ∷ 106 ∷ 1 ∷ 171 ∷ 96 ∷ 55 ∷ 66 ∷ 5 ∷ 7 ∷ 0 ∷ 1 ∷ 5 ∷ 64 ∷ 64 ∷ 64 ∷ 80 ∷ 192 ∷ 0 ∷ 237 ∷ []) ∷ turns.PeerUni ∷ turns.PeerUni ∷ []) ≡ record { answers = (answer replies.Done (actions.Opened 3 ∷ actions.Send 3 (0 ∷ 4 ∷ 22 ∷ 1 ∷ 0 ∷ 7 ∷ 0 ∷ 8 ∷ 1 ∷ 51 ∷ 1 ∷ 171 ∷ 96 ∷ 55 ∷ 66 ∷ 1 ∷ 192 ∷ 0 ∷ 0 ∷ 0 ∷ 198 ∷ 113 ∷ 112 ∷ 106 ∷ 4 ∷ []) ∷ []) ∷ answer replies.Done ([]) ∷ answer replies.Done ([]) ∷ answer replies.Done ([]) ∷ answer replies.Done (actions.Close 262 ([]) ∷ []) ∷ answer replies.Done ([]) ∷ answer replies.Done ([]) ∷ []); is_all = true }
unfolding computed
grammar_0026 = refl

pub grammar_0028 : run Server (turns.Connected 1 9 91 (facts.Limit 0) ∷ turns.PeerBi ∷ turns.Bytes 0 (64 ∷ 95 ∷ 64 ∷ 1 ∷ 101 ∷ []) ∷ turns.Bytes 0 (1 ∷ 64 ∷ 80 ∷ 0 ∷ 0 ∷ 39 ∷ 3 ∷ 58 ∷ 97 ∷ 117 ∷ 116 ∷ 104 ∷ 111 ∷ 114 ∷ 105 ∷ 116 ∷ 121 ∷ 1 ∷ 104 ∷ 39 ∷ 0 ∷ 58 ∷ 109 ∷ 101 ∷ 116 ∷ 104 ∷ 111 ∷ 100 ∷ 7 ∷ 67 ∷ 79 ∷ 78 ∷ 78 ∷ 69 ∷ 67 ∷ 84 ∷ 37 ∷ 58 ∷ 112 ∷ 97 ∷ 116 ∷ 104 ∷ 1 ∷ 47 ∷ 39 ∷ 2 ∷ 58 ∷ 112 ∷ 114 ∷ 111 ∷ 116 ∷ 111 ∷ 99 ∷ 111 ∷ 108 ∷ 12 ∷ 119 ∷ 101 ∷ 98 ∷ 116 ∷ 114 ∷ 97 ∷ 110 ∷ 115 ∷ 112 ∷ 111 ∷ 114 ∷ 116 ∷ 39 ∷ 0 ∷ 58 ∷ 115 ∷ 99 ∷ 104 ∷ 101 ∷ 109 ∷ 101 ∷ 5 ∷ 104 ∷ 116 ∷ 116 ∷ 112 ∷ 115 ∷ []) ∷ turns.PeerUni ∷ turns.Bytes 2 (0 ∷ 128 ∷ 0 ∷ 0 ∷ 13 ∷ 0 ∷ 3 ∷ 3 ∷ 50 ∷ 72 ∷ 110 ∷ 4 ∷ 0 ∷ []) ∷ turns.PeerBi ∷ turns.PeerBi ∷ turns.Call (calls.EndpointClose 4611686018427387903 ([])) ∷ []) ≡ record { answers = (answer replies.Done (actions.Opened 3 ∷ actions.Send 3 (0 ∷ 4 ∷ 22 ∷ 1 ∷ 0 ∷ 7 ∷ 0 ∷ 8 ∷ 1 ∷ 51 ∷ 1 ∷ 171 ∷ 96 ∷ 55 ∷ 66 ∷ 1 ∷ 192 ∷ 0 ∷ 0 ∷ 0 ∷ 198 ∷ 113 ∷ 112 ∷ 106 ∷ 4 ∷ []) ∷ []) ∷ answer replies.Done ([]) ∷ answer replies.Done ([]) ∷ answer replies.Done ([]) ∷ answer replies.Done ([]) ∷ answer replies.Done ([]) ∷ answer replies.Done ([]) ∷ answer replies.Done ([]) ∷ answer replies.Done (actions.Close 4611686018427387903 ([]) ∷ []) ∷ []); is_all = true }
unfolding computed
grammar_0028 = refl

pub grammar_0029 : run Server (turns.Connected 1 9 25 (facts.Limit 2) ∷ turns.Datagram (255 ∷ 255 ∷ 255 ∷ 255 ∷ 255 ∷ 255 ∷ 255 ∷ 255 ∷ []) ∷ turns.PeerUni ∷ turns.Call (calls.Connect ((54 ∷ []), ([])) lookups.NotFound outcomes.Proceed) ∷ []) ≡ record { answers = (answer replies.Done (actions.Opened 3 ∷ actions.Send 3 (0 ∷ 4 ∷ 22 ∷ 1 ∷ 0 ∷ 7 ∷ 0 ∷ 8 ∷ 1 ∷ 51 ∷ 1 ∷ 171 ∷ 96 ∷ 55 ∷ 66 ∷ 1 ∷ 192 ∷ 0 ∷ 0 ∷ 0 ∷ 198 ∷ 113 ∷ 112 ∷ 106 ∷ 4 ∷ []) ∷ []) ∷ answer replies.Done (actions.Close 51 ([]) ∷ []) ∷ answer replies.Done ([]) ∷ []); is_all = false }
unfolding computed parsed
grammar_0029 = refl

pub grammar_0032 : run Server (turns.Call calls.TooManyRequests ∷ []) ≡ record { answers = ([]); is_all = false }
unfolding computed
grammar_0032 = refl

pub grammar_0033 : run Client (turns.Call (calls.Connect ((104 ∷ 116 ∷ 116 ∷ 112 ∷ 58 ∷ 47 ∷ 47 ∷ 64 ∷ 48 ∷ 120 ∷ 55 ∷ 102 ∷ 46 ∷ 49 ∷ 58 ∷ 63 ∷ 63 ∷ 34 ∷ []), ([])) (lookups.Found (addresses.V4 2130706433 4433)) outcomes.Proceed) ∷ turns.DatagramLimit facts.Unsupported ∷ []) ≡ record { answers = (answer (replies.ConnectFailed (connects.InvalidUrl refusals.Scheme)) ([]) ∷ []); is_all = false }
unfolding computed parsed
grammar_0033 = refl

pub grammar_0036 : run Server (turns.Connected 1 9 1000 (facts.Limit 1200) ∷ turns.PeerBi ∷ []) ≡ record { answers = (answer replies.Done (actions.Opened 3 ∷ actions.Send 3 (0 ∷ 4 ∷ 22 ∷ 1 ∷ 0 ∷ 7 ∷ 0 ∷ 8 ∷ 1 ∷ 51 ∷ 1 ∷ 171 ∷ 96 ∷ 55 ∷ 66 ∷ 1 ∷ 192 ∷ 0 ∷ 0 ∷ 0 ∷ 198 ∷ 113 ∷ 112 ∷ 106 ∷ 4 ∷ []) ∷ []) ∷ answer replies.Done ([]) ∷ []); is_all = true }
unfolding computed
grammar_0036 = refl

pub grammar_0037 : run Server (turns.Connected 9 9 26 (facts.Limit 1200) ∷ turns.Call (calls.AcceptUni None) ∷ []) ≡ record { answers = (answer replies.Done (actions.Opened 3 ∷ actions.Send 3 (0 ∷ 4 ∷ 22 ∷ 1 ∷ 0 ∷ 7 ∷ 0 ∷ 8 ∷ 1 ∷ 51 ∷ 1 ∷ 171 ∷ 96 ∷ 55 ∷ 66 ∷ 1 ∷ 192 ∷ 0 ∷ 0 ∷ 0 ∷ 198 ∷ 113 ∷ 112 ∷ 106 ∷ 4 ∷ []) ∷ []) ∷ answer replies.NoSession ([]) ∷ []); is_all = true }
unfolding computed
grammar_0037 = refl

pub grammar_0040 : run Client (turns.Call (calls.Connect ((102 ∷ 105 ∷ 108 ∷ 101 ∷ 58 ∷ 47 ∷ 47 ∷ 97 ∷ 46 ∷ 49 ∷ 58 ∷ 54 ∷ 53 ∷ 53 ∷ 51 ∷ 54 ∷ []), ([])) (lookups.Found (addresses.V4 2130706433 4433)) outcomes.Proceed) ∷ turns.Call (calls.MaxDatagramSize None) ∷ turns.Call (calls.ReceiveDatagram None) ∷ []) ≡ record { answers = (answer (replies.ConnectFailed (connects.InvalidUrl refusals.Parse)) ([]) ∷ answer replies.NoSession ([]) ∷ answer replies.NoSession ([]) ∷ []); is_all = true }
unfolding computed parsed
grammar_0040 = refl

pub grammar_0041 : run Server (turns.Connected 9 1 1048576 (facts.Limit 2) ∷ turns.PeerBi ∷ []) ≡ record { answers = (answer replies.Done (actions.Opened 3 ∷ actions.Send 3 (0 ∷ 4 ∷ 22 ∷ 1 ∷ 0 ∷ 7 ∷ 0 ∷ 8 ∷ 1 ∷ 51 ∷ 1 ∷ 171 ∷ 96 ∷ 55 ∷ 66 ∷ 1 ∷ 192 ∷ 0 ∷ 0 ∷ 0 ∷ 198 ∷ 113 ∷ 112 ∷ 106 ∷ 4 ∷ []) ∷ []) ∷ answer replies.Done ([]) ∷ []); is_all = true }
unfolding computed
grammar_0041 = refl

pub grammar_0043 : run Server (turns.Connected 3 100 1048576 (facts.Limit 0) ∷ turns.PeerBi ∷ turns.Bytes 0 (1 ∷ []) ∷ turns.PeerUni ∷ turns.Bytes 2 (0 ∷ []) ∷ turns.Bytes 2 (64 ∷ []) ∷ turns.Bytes 2 (13 ∷ []) ∷ turns.PeerUni ∷ turns.Call (calls.OpenBi None) ∷ []) ≡ record { answers = (answer replies.Done (actions.Opened 3 ∷ actions.Send 3 (0 ∷ 4 ∷ 22 ∷ 1 ∷ 0 ∷ 7 ∷ 0 ∷ 8 ∷ 1 ∷ 51 ∷ 1 ∷ 171 ∷ 96 ∷ 55 ∷ 66 ∷ 1 ∷ 192 ∷ 0 ∷ 0 ∷ 0 ∷ 198 ∷ 113 ∷ 112 ∷ 106 ∷ 4 ∷ []) ∷ []) ∷ answer replies.Done ([]) ∷ answer replies.Done ([]) ∷ answer replies.Done ([]) ∷ answer replies.Done ([]) ∷ answer replies.Done ([]) ∷ answer replies.Done ([]) ∷ answer replies.Done ([]) ∷ answer replies.NoSession ([]) ∷ []); is_all = true }
unfolding computed
grammar_0043 = refl

pub grammar_0046 : run Client (turns.Call (calls.ReadExact 4611686018427387903 9) ∷ turns.Call (calls.SendDatagram ([]) None) ∷ []) ≡ record { answers = ([]); is_all = false }
unfolding computed
grammar_0046 = refl

pub grammar_0050 : run Client (turns.Call (calls.Connect ((104 ∷ 116 ∷ 116 ∷ 112 ∷ 115 ∷ 58 ∷ 47 ∷ 47 ∷ 49 ∷ 50 ∷ 55 ∷ 46 ∷ 48 ∷ 46 ∷ 48 ∷ 46 ∷ 49 ∷ 47 ∷ []), ([])) (lookups.Found (addresses.V4 2130706433 4433)) outcomes.Proceed) ∷ turns.Call (calls.SendDatagram ([]) None) ∷ []) ≡ record { answers = (answer replies.Pending (actions.Dial (addresses.V4 2130706433 443) (49 ∷ 50 ∷ 55 ∷ 46 ∷ 48 ∷ 46 ∷ 48 ∷ 46 ∷ 49 ∷ []) ∷ []) ∷ answer replies.NoSession ([]) ∷ []); is_all = true }
unfolding computed parsed
grammar_0050 = refl

pub grammar_0051 : run Server (turns.Connected 9 1 50 facts.Unsupported ∷ turns.PeerUni ∷ turns.Call calls.Closed ∷ turns.Call calls.Incoming ∷ []) ≡ record { answers = (answer replies.Done (actions.Opened 3 ∷ actions.Send 3 (0 ∷ 4 ∷ 22 ∷ 1 ∷ 0 ∷ 7 ∷ 0 ∷ 8 ∷ 1 ∷ 51 ∷ 1 ∷ 171 ∷ 96 ∷ 55 ∷ 66 ∷ 1 ∷ 192 ∷ 0 ∷ 0 ∷ 0 ∷ 198 ∷ 113 ∷ 112 ∷ 106 ∷ 4 ∷ []) ∷ []) ∷ answer replies.Done ([]) ∷ answer replies.NoSession ([]) ∷ answer replies.Pending ([]) ∷ []); is_all = true }
unfolding computed
grammar_0051 = refl

pub grammar_0052 : run Client (turns.Connected 2 9 1000 facts.Disabled ∷ []) ≡ record { answers = ([]); is_all = false }
unfolding computed
grammar_0052 = refl

pub grammar_0053 : run Server (turns.Connected 9 9 50 (facts.Limit 0) ∷ turns.PeerBi ∷ turns.Datagram (192 ∷ 0 ∷ 0 ∷ 0 ∷ 0 ∷ 0 ∷ 0 ∷ 0 ∷ 40 ∷ 11 ∷ 161 ∷ 87 ∷ 99 ∷ 195 ∷ 247 ∷ 26 ∷ 3 ∷ []) ∷ turns.Bytes 0 (1 ∷ []) ∷ turns.PeerUni ∷ turns.Bytes 0 (64 ∷ 80 ∷ 0 ∷ 0 ∷ 39 ∷ 3 ∷ 58 ∷ 97 ∷ 117 ∷ 116 ∷ 104 ∷ 111 ∷ 114 ∷ 105 ∷ 116 ∷ 121 ∷ 1 ∷ 104 ∷ 39 ∷ 0 ∷ 58 ∷ 109 ∷ 101 ∷ 116 ∷ 104 ∷ 111 ∷ 100 ∷ 7 ∷ 67 ∷ 79 ∷ 78 ∷ 78 ∷ 69 ∷ 67 ∷ 84 ∷ 37 ∷ 58 ∷ 112 ∷ 97 ∷ 116 ∷ 104 ∷ 1 ∷ 47 ∷ 39 ∷ 2 ∷ 58 ∷ 112 ∷ 114 ∷ 111 ∷ 116 ∷ 111 ∷ 99 ∷ 111 ∷ 108 ∷ 12 ∷ 119 ∷ 101 ∷ 98 ∷ 116 ∷ 114 ∷ 97 ∷ 110 ∷ 115 ∷ 112 ∷ 111 ∷ 114 ∷ 116 ∷ 39 ∷ 0 ∷ 58 ∷ 115 ∷ 99 ∷ 104 ∷ 101 ∷ 109 ∷ 101 ∷ 5 ∷ 104 ∷ 116 ∷ 116 ∷ 112 ∷ 115 ∷ 128 ∷ 0 ∷ 118 ∷ 236 ∷ 9 ∷ 8 ∷ 81 ∷ 21 ∷ 91 ∷ 131 ∷ 96 ∷ []) ∷ turns.Bytes 2 (0 ∷ 13 ∷ []) ∷ turns.Bytes 2 (1 ∷ []) ∷ turns.Call calls.TooManyRequests ∷ []) ≡ record { answers = (answer replies.Done (actions.Opened 3 ∷ actions.Send 3 (0 ∷ 4 ∷ 22 ∷ 1 ∷ 0 ∷ 7 ∷ 0 ∷ 8 ∷ 1 ∷ 51 ∷ 1 ∷ 171 ∷ 96 ∷ 55 ∷ 66 ∷ 1 ∷ 192 ∷ 0 ∷ 0 ∷ 0 ∷ 198 ∷ 113 ∷ 112 ∷ 106 ∷ 4 ∷ []) ∷ []) ∷ answer replies.Done ([]) ∷ answer replies.Done ([]) ∷ answer replies.Done ([]) ∷ answer replies.Done ([]) ∷ answer replies.Done ([]) ∷ answer replies.Done ([]) ∷ answer replies.Done ([]) ∷ []); is_all = false }
unfolding computed
grammar_0053 = refl

pub grammar_0057 : run Server (turns.Connected 3 0 1000 (facts.Limit 5) ∷ turns.PeerUni ∷ turns.Bytes 2 (0 ∷ 2 ∷ 20 ∷ 167 ∷ 16 ∷ 170 ∷ 122 ∷ 55 ∷ 72 ∷ 103 ∷ 8 ∷ 248 ∷ 164 ∷ 66 ∷ 99 ∷ 35 ∷ 151 ∷ 116 ∷ 101 ∷ 25 ∷ 218 ∷ 225 ∷ 137 ∷ 4 ∷ 33 ∷ 128 ∷ 0 ∷ 0 ∷ 1 ∷ 67 ∷ 232 ∷ 171 ∷ 96 ∷ 55 ∷ 66 ∷ 255 ∷ 255 ∷ 255 ∷ 255 ∷ 255 ∷ 255 ∷ 255 ∷ 255 ∷ 192 ∷ 0 ∷ 0 ∷ 0 ∷ 198 ∷ 113 ∷ 112 ∷ 106 ∷ 128 ∷ 0 ∷ 0 ∷ 1 ∷ 6 ∷ 67 ∷ 232 ∷ []) ∷ turns.End 2 ∷ turns.MaxData 0 18446744073709551615 ∷ []) ≡ record { answers = (answer replies.Done (actions.Opened 3 ∷ actions.Send 3 (0 ∷ 4 ∷ 22 ∷ 1 ∷ 0 ∷ 7 ∷ 0 ∷ 8 ∷ 1 ∷ 51 ∷ 1 ∷ 171 ∷ 96 ∷ 55 ∷ 66 ∷ 1 ∷ 192 ∷ 0 ∷ 0 ∷ 0 ∷ 198 ∷ 113 ∷ 112 ∷ 106 ∷ 4 ∷ []) ∷ []) ∷ answer replies.Done ([]) ∷ answer replies.Done ([]) ∷ answer replies.Done (actions.Close 260 ([]) ∷ []) ∷ []); is_all = false }
unfolding computed
grammar_0057 = refl

pub grammar_0058 : run Server (turns.Call calls.TooManyRequests ∷ []) ≡ record { answers = ([]); is_all = false }
unfolding computed
grammar_0058 = refl

pub grammar_0061 : run Client (turns.Call (calls.Connect ((104 ∷ 116 ∷ 116 ∷ 112 ∷ 115 ∷ 58 ∷ 47 ∷ 47 ∷ 104 ∷ 37 ∷ 50 ∷ 70 ∷ 58 ∷ 120 ∷ []), ([])) (lookups.Found (addresses.V4 2130706433 4433)) outcomes.Proceed) ∷ turns.Call (calls.ReceiveDatagram None) ∷ []) ≡ record { answers = (answer (replies.ConnectFailed (connects.InvalidUrl refusals.Parse)) ([]) ∷ answer replies.NoSession ([]) ∷ []); is_all = true }
unfolding computed parsed
grammar_0061 = refl

pub grammar_0064 : run Client ([]) ≡ record { answers = ([]); is_all = true }
unfolding computed
grammar_0064 = refl

pub grammar_0065 : run Client ([]) ≡ record { answers = ([]); is_all = true }
unfolding computed
grammar_0065 = refl

pub grammar_0066 : run Server (turns.Connected 9 9 50 (facts.Limit 1200) ∷ turns.PeerBi ∷ turns.PeerUni ∷ turns.Bytes 0 (3 ∷ 3 ∷ 160 ∷ 66 ∷ 251 ∷ 2 ∷ 1 ∷ 125 ∷ 1 ∷ 64 ∷ 80 ∷ 0 ∷ 0 ∷ 39 ∷ 3 ∷ 58 ∷ 97 ∷ 117 ∷ 116 ∷ 104 ∷ 111 ∷ 114 ∷ 105 ∷ 116 ∷ 121 ∷ 1 ∷ 104 ∷ 39 ∷ 0 ∷ 58 ∷ 109 ∷ 101 ∷ 116 ∷ 104 ∷ 111 ∷ 100 ∷ 7 ∷ 67 ∷ 79 ∷ 78 ∷ 78 ∷ 69 ∷ 67 ∷ 84 ∷ 37 ∷ 58 ∷ 112 ∷ 97 ∷ 116 ∷ 104 ∷ 1 ∷ 47 ∷ 39 ∷ 2 ∷ 58 ∷ 112 ∷ 114 ∷ 111 ∷ 116 ∷ 111 ∷ 99 ∷ 111 ∷ 108 ∷ 12 ∷ 119 ∷ 101 ∷ 98 ∷ 116 ∷ 114 ∷ 97 ∷ 110 ∷ 115 ∷ 112 ∷ 111 ∷ 114 ∷ 116 ∷ 39 ∷ 0 ∷ 58 ∷ 115 ∷ 99 ∷ 104 ∷ 101 ∷ 109 ∷ 101 ∷ 5 ∷ 104 ∷ 116 ∷ 116 ∷ 112 ∷ 115 ∷ []) ∷ turns.Loss (losses.ConnectionClosed (record { code = 0; reason = (255 ∷ []) })) ∷ turns.Call (calls.ResetSend 4611686018427387903 3) ∷ []) ≡ record { answers = (answer replies.Done (actions.Opened 3 ∷ actions.Send 3 (0 ∷ 4 ∷ 22 ∷ 1 ∷ 0 ∷ 7 ∷ 0 ∷ 8 ∷ 1 ∷ 51 ∷ 1 ∷ 171 ∷ 96 ∷ 55 ∷ 66 ∷ 1 ∷ 192 ∷ 0 ∷ 0 ∷ 0 ∷ 198 ∷ 113 ∷ 112 ∷ 106 ∷ 4 ∷ []) ∷ []) ∷ answer replies.Done ([]) ∷ answer replies.Done ([]) ∷ answer replies.Done ([]) ∷ answer replies.Done ([]) ∷ answer replies.NoStream ([]) ∷ []); is_all = true }
unfolding computed
grammar_0066 = refl

pub grammar_0070 : run Server (turns.Connected 0 1 91 (facts.Limit 1200) ∷ turns.PeerUni ∷ turns.Bytes 2 (0 ∷ 7 ∷ 1 ∷ 205 ∷ 3 ∷ 1 ∷ 117 ∷ 4 ∷ 28 ∷ 7 ∷ 192 ∷ 0 ∷ 0 ∷ 0 ∷ 0 ∷ 0 ∷ 0 ∷ 1 ∷ 51 ∷ 67 ∷ 232 ∷ 6 ∷ 1 ∷ 192 ∷ 0 ∷ 0 ∷ 0 ∷ 198 ∷ 113 ∷ 112 ∷ 106 ∷ 5 ∷ 8 ∷ 64 ∷ 0 ∷ 1 ∷ 64 ∷ 6 ∷ 0 ∷ 2 ∷ 20 ∷ 13 ∷ 247 ∷ 178 ∷ 58 ∷ 145 ∷ 174 ∷ 121 ∷ 103 ∷ 154 ∷ 43 ∷ 103 ∷ 63 ∷ []) ∷ turns.MaxUni 9 ∷ turns.Call calls.Handshake ∷ []) ≡ record { answers = (answer replies.Done ([]) ∷ answer replies.Done ([]) ∷ answer replies.Done ([]) ∷ answer replies.Done (actions.Opened 3 ∷ actions.Send 3 (0 ∷ 4 ∷ 22 ∷ 1 ∷ 0 ∷ 7 ∷ 0 ∷ 8 ∷ 1 ∷ 51 ∷ 1 ∷ 171 ∷ 96 ∷ 55 ∷ 66 ∷ 1 ∷ 192 ∷ 0 ∷ 0 ∷ 0 ∷ 198 ∷ 113 ∷ 112 ∷ 106 ∷ 4 ∷ []) ∷ actions.Close 262 ([]) ∷ []) ∷ []); is_all = false }
unfolding computed
grammar_0070 = refl

pub grammar_0074 : run Server (turns.Connected 3 9 26 (facts.Limit 5) ∷ turns.Call (calls.ResetSend 3 3) ∷ []) ≡ record { answers = (answer replies.Done (actions.Opened 3 ∷ actions.Send 3 (0 ∷ 4 ∷ 22 ∷ 1 ∷ 0 ∷ 7 ∷ 0 ∷ 8 ∷ 1 ∷ 51 ∷ 1 ∷ 171 ∷ 96 ∷ 55 ∷ 66 ∷ 1 ∷ 192 ∷ 0 ∷ 0 ∷ 0 ∷ 198 ∷ 113 ∷ 112 ∷ 106 ∷ 4 ∷ []) ∷ []) ∷ answer replies.NoStream ([]) ∷ []); is_all = true }
unfolding computed
grammar_0074 = refl

pub grammar_0082 : run Server (turns.Connected 9 100 1048576 (facts.Limit 1200) ∷ turns.PeerUni ∷ turns.Bytes 2 (0 ∷ 2 ∷ 3 ∷ 189 ∷ 140 ∷ 232 ∷ 64 ∷ 13 ∷ 192 ∷ 0 ∷ 0 ∷ 0 ∷ 0 ∷ 0 ∷ 0 ∷ 1 ∷ 168 ∷ 4 ∷ 11 ∷ 171 ∷ 96 ∷ 55 ∷ 66 ∷ 5 ∷ 8 ∷ 67 ∷ 232 ∷ 64 ∷ 2 ∷ 0 ∷ 104 ∷ 67 ∷ 3 ∷ 140 ∷ 6 ∷ 93 ∷ []) ∷ turns.PeerUni ∷ turns.PeerUni ∷ turns.PeerUni ∷ turns.MaxBi 2 ∷ []) ≡ record { answers = (answer replies.Done (actions.Opened 3 ∷ actions.Send 3 (0 ∷ 4 ∷ 22 ∷ 1 ∷ 0 ∷ 7 ∷ 0 ∷ 8 ∷ 1 ∷ 51 ∷ 1 ∷ 171 ∷ 96 ∷ 55 ∷ 66 ∷ 1 ∷ 192 ∷ 0 ∷ 0 ∷ 0 ∷ 198 ∷ 113 ∷ 112 ∷ 106 ∷ 4 ∷ []) ∷ []) ∷ answer replies.Done ([]) ∷ answer replies.Done (actions.Close 265 ([]) ∷ []) ∷ answer replies.Done ([]) ∷ answer replies.Done ([]) ∷ answer replies.Done ([]) ∷ []); is_all = false }
unfolding computed
grammar_0082 = refl

pub grammar_0090 : run Server (turns.Connected 1 0 26 (facts.Limit 2) ∷ turns.Call (calls.Write 0 ([])) ∷ turns.Call (calls.Finish 4611686018427387903) ∷ []) ≡ record { answers = (answer replies.Done (actions.Opened 3 ∷ actions.Send 3 (0 ∷ 4 ∷ 22 ∷ 1 ∷ 0 ∷ 7 ∷ 0 ∷ 8 ∷ 1 ∷ 51 ∷ 1 ∷ 171 ∷ 96 ∷ 55 ∷ 66 ∷ 1 ∷ 192 ∷ 0 ∷ 0 ∷ 0 ∷ 198 ∷ 113 ∷ 112 ∷ 106 ∷ 4 ∷ []) ∷ []) ∷ answer replies.NoStream ([]) ∷ answer replies.NoStream ([]) ∷ []); is_all = true }
unfolding computed
grammar_0090 = refl

pub grammar_0100 : run Server (turns.Connected 9 9 1000 (facts.Limit 2) ∷ turns.PeerBi ∷ turns.PeerBi ∷ turns.Connected 9 4611686018427387904 1000 (facts.Limit 2) ∷ []) ≡ record { answers = (answer replies.Done (actions.Opened 3 ∷ actions.Send 3 (0 ∷ 4 ∷ 22 ∷ 1 ∷ 0 ∷ 7 ∷ 0 ∷ 8 ∷ 1 ∷ 51 ∷ 1 ∷ 171 ∷ 96 ∷ 55 ∷ 66 ∷ 1 ∷ 192 ∷ 0 ∷ 0 ∷ 0 ∷ 198 ∷ 113 ∷ 112 ∷ 106 ∷ 4 ∷ []) ∷ []) ∷ answer replies.Done ([]) ∷ answer replies.Done ([]) ∷ []); is_all = false }
unfolding computed
grammar_0100 = refl

pub grammar_0105 : run Server (turns.Connected 3 1 1000 (facts.Limit 2) ∷ turns.PeerUni ∷ turns.Datagram (0 ∷ 153 ∷ []) ∷ turns.End 0 ∷ []) ≡ record { answers = (answer replies.Done (actions.Opened 3 ∷ actions.Send 3 (0 ∷ 4 ∷ 22 ∷ 1 ∷ 0 ∷ 7 ∷ 0 ∷ 8 ∷ 1 ∷ 51 ∷ 1 ∷ 171 ∷ 96 ∷ 55 ∷ 66 ∷ 1 ∷ 192 ∷ 0 ∷ 0 ∷ 0 ∷ 198 ∷ 113 ∷ 112 ∷ 106 ∷ 4 ∷ []) ∷ []) ∷ answer replies.Done ([]) ∷ answer replies.Done ([]) ∷ []); is_all = false }
unfolding computed
grammar_0105 = refl
