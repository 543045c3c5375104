-- Recorded sessions: what the definitions give is what was recorded. Made by `tools/meaning lemmas`.
use Rattle.std.specs.Prelude.{[], ◌∷◌, ◌≡◌, true}
use Rattle.std.proofs.Common.{refl}
use Rattle.wt_meaning.proofs.Recorded.{computed, parsed, shown}
use Rattle.wt_meaning.specs.Meaning.{run}
use Rattle.wt_meaning.specs.Rows.{answer}
use Rattle.wt_wire.specs.declared.side.Side.TheVariants.{Client, Server}
use Rattle.wt_turn.specs.declared.action.Action.TheVariants as actions
use Rattle.wt_wire.specs.declared.addr.Addr.TheVariants as addresses
use Rattle.wt_turn.specs.declared.call.Call.TheVariants as calls
use Rattle.wt_turn.specs.declared.connecting_error.ConnectingError.TheVariants as connects
use Rattle.wt_turn.specs.declared.connection_error.ConnectionError.TheVariants as errors
use Rattle.wt_turn.specs.declared.datagram_fact.DatagramFact.TheVariants as facts
use Rattle.wt_wire.specs.declared.error.ErrorCode.TheVariants as h3
use Rattle.wt_wire.specs.declared.lookup.Lookup.TheVariants as lookups
use Rattle.wt_wire.specs.declared.lookup.ConnectOutcome.TheVariants as outcomes
use Rattle.wt_turn.specs.declared.reply.Reply.TheVariants as replies
use Rattle.wt_turn.specs.declared.turn.Turn.TheVariants as turns

pub handshake_074 : shown (0 ∷ 1 ∷ 2 ∷ 5 ∷ 7 ∷ []) (run Client (turns.Call (calls.Connect ((104 ∷ 116 ∷ 116 ∷ 112 ∷ 115 ∷ 58 ∷ 47 ∷ 47 ∷ 104 ∷ 58 ∷ 52 ∷ 52 ∷ 51 ∷ 51 ∷ 47 ∷ 112 ∷ 63 ∷ 113 ∷ []), ([])) (lookups.Found (addresses.V4 2130706433 4433)) outcomes.Proceed) ∷ turns.Connected 1 1 1000 (facts.Limit 1200) ∷ turns.Call calls.Handshake ∷ turns.PeerUni ∷ turns.Bytes 3 (0 ∷ 4 ∷ 0 ∷ []) ∷ turns.Call calls.Handshake ∷ turns.End 0 ∷ turns.Call calls.Handshake ∷ [])) ≡ record { answers = (answer replies.Pending (actions.Dial (addresses.V4 2130706433 4433) (104 ∷ []) ∷ []) ∷ answer replies.Done (actions.Opened 2 ∷ actions.Send 2 (0 ∷ 4 ∷ 22 ∷ 1 ∷ 0 ∷ 7 ∷ 0 ∷ 8 ∷ 1 ∷ 51 ∷ 1 ∷ 171 ∷ 96 ∷ 55 ∷ 66 ∷ 1 ∷ 192 ∷ 0 ∷ 0 ∷ 0 ∷ 198 ∷ 113 ∷ 112 ∷ 106 ∷ 4 ∷ []) ∷ []) ∷ answer replies.Pending ([]) ∷ answer replies.Pending (actions.Opened 0 ∷ actions.Send 0 (1 ∷ 64 ∷ 88 ∷ 0 ∷ 0 ∷ 39 ∷ 3 ∷ 58 ∷ 97 ∷ 117 ∷ 116 ∷ 104 ∷ 111 ∷ 114 ∷ 105 ∷ 116 ∷ 121 ∷ 6 ∷ 104 ∷ 58 ∷ 52 ∷ 52 ∷ 51 ∷ 51 ∷ 39 ∷ 0 ∷ 58 ∷ 109 ∷ 101 ∷ 116 ∷ 104 ∷ 111 ∷ 100 ∷ 7 ∷ 67 ∷ 79 ∷ 78 ∷ 78 ∷ 69 ∷ 67 ∷ 84 ∷ 37 ∷ 58 ∷ 112 ∷ 97 ∷ 116 ∷ 104 ∷ 4 ∷ 47 ∷ 112 ∷ 63 ∷ 113 ∷ 39 ∷ 2 ∷ 58 ∷ 112 ∷ 114 ∷ 111 ∷ 116 ∷ 111 ∷ 99 ∷ 111 ∷ 108 ∷ 12 ∷ 119 ∷ 101 ∷ 98 ∷ 116 ∷ 114 ∷ 97 ∷ 110 ∷ 115 ∷ 112 ∷ 111 ∷ 114 ∷ 116 ∷ 39 ∷ 0 ∷ 58 ∷ 115 ∷ 99 ∷ 104 ∷ 101 ∷ 109 ∷ 101 ∷ 5 ∷ 104 ∷ 116 ∷ 116 ∷ 112 ∷ 115 ∷ []) ∷ []) ∷ answer (replies.ConnectFailed (connects.ConnectionError errors.LocallyClosed)) (actions.Close 0 ([]) ∷ []) ∷ []); is_all = true }
unfolding computed parsed
handshake_074 = refl

pub handshake_075 : shown (0 ∷ 2 ∷ 5 ∷ 7 ∷ []) (run Client (turns.Call (calls.Connect ((104 ∷ 116 ∷ 116 ∷ 112 ∷ 115 ∷ 58 ∷ 47 ∷ 47 ∷ 104 ∷ 58 ∷ 52 ∷ 52 ∷ 51 ∷ 51 ∷ 47 ∷ 112 ∷ 63 ∷ 113 ∷ []), ([])) (lookups.Found (addresses.V4 2130706433 4433)) outcomes.Proceed) ∷ turns.Connected 1 1 50 (facts.Limit 1200) ∷ turns.Call calls.Handshake ∷ turns.PeerUni ∷ turns.Bytes 3 (0 ∷ 4 ∷ 0 ∷ []) ∷ turns.Call calls.Handshake ∷ turns.Stop 0 7 ∷ turns.Call calls.Handshake ∷ [])) ≡ record { answers = (answer replies.Pending (actions.Dial (addresses.V4 2130706433 4433) (104 ∷ []) ∷ []) ∷ answer replies.Pending ([]) ∷ answer replies.Pending (actions.Opened 0 ∷ actions.Send 0 (1 ∷ 64 ∷ 88 ∷ 0 ∷ 0 ∷ 39 ∷ 3 ∷ 58 ∷ 97 ∷ 117 ∷ 116 ∷ 104 ∷ 111 ∷ 114 ∷ 105 ∷ 116 ∷ 121 ∷ 6 ∷ 104 ∷ 58 ∷ 52 ∷ 52 ∷ 51 ∷ 51 ∷ 39 ∷ 0 ∷ 58 ∷ 109 ∷ 101 ∷ 116 ∷ 104 ∷ 111 ∷ 100 ∷ 7 ∷ 67 ∷ 79 ∷ 78 ∷ 78 ∷ 69 ∷ 67 ∷ 84 ∷ 37 ∷ 58 ∷ 112 ∷ 97 ∷ 116 ∷ 104 ∷ 4 ∷ 47 ∷ 112 ∷ []) ∷ []) ∷ answer (replies.ConnectFailed connects.SessionRejected) (actions.Close 0 ([]) ∷ []) ∷ []); is_all = true }
unfolding computed parsed
handshake_075 = refl

pub end_076 : shown (1 ∷ 2 ∷ 3 ∷ []) (run Server (turns.Connected 9 9 1000 (facts.Limit 1200) ∷ turns.PeerBi ∷ turns.Bytes 0 (1 ∷ 64 ∷ 80 ∷ 0 ∷ 0 ∷ 39 ∷ 3 ∷ 58 ∷ 97 ∷ 117 ∷ 116 ∷ 104 ∷ 111 ∷ 114 ∷ 105 ∷ 116 ∷ 121 ∷ 1 ∷ 104 ∷ 39 ∷ 0 ∷ 58 ∷ 109 ∷ 101 ∷ 116 ∷ 104 ∷ 111 ∷ 100 ∷ 7 ∷ 67 ∷ 79 ∷ 78 ∷ 78 ∷ 69 ∷ 67 ∷ 84 ∷ 37 ∷ 58 ∷ 112 ∷ 97 ∷ 116 ∷ 104 ∷ 1 ∷ 47 ∷ 39 ∷ []) ∷ turns.End 0 ∷ [])) ≡ record { answers = (answer replies.Done ([]) ∷ answer replies.Done ([]) ∷ answer replies.Done ([]) ∷ []); is_all = true }
unfolding computed
end_076 = refl

pub end_077 : shown (1 ∷ 2 ∷ 3 ∷ []) (run Server (turns.Connected 9 9 1000 (facts.Limit 1200) ∷ turns.PeerBi ∷ turns.Bytes 0 (1 ∷ 64 ∷ 80 ∷ 0 ∷ 0 ∷ 39 ∷ 3 ∷ 58 ∷ 97 ∷ 117 ∷ 116 ∷ 104 ∷ 111 ∷ 114 ∷ 105 ∷ 116 ∷ 121 ∷ 1 ∷ 104 ∷ 39 ∷ 0 ∷ 58 ∷ 109 ∷ 101 ∷ 116 ∷ 104 ∷ 111 ∷ 100 ∷ 7 ∷ 67 ∷ 79 ∷ 78 ∷ 78 ∷ 69 ∷ 67 ∷ 84 ∷ 37 ∷ 58 ∷ 112 ∷ 97 ∷ 116 ∷ 104 ∷ 1 ∷ 47 ∷ 39 ∷ 2 ∷ []) ∷ turns.End 0 ∷ [])) ≡ record { answers = (answer replies.Done ([]) ∷ answer replies.Done ([]) ∷ answer replies.Done ([]) ∷ []); is_all = true }
unfolding computed
end_077 = refl

pub end_078 : shown (1 ∷ 2 ∷ 3 ∷ []) (run Server (turns.Connected 9 9 1000 (facts.Limit 1200) ∷ turns.PeerBi ∷ turns.Bytes 0 (1 ∷ 64 ∷ 80 ∷ 0 ∷ 0 ∷ 39 ∷ 3 ∷ 58 ∷ 97 ∷ 117 ∷ 116 ∷ 104 ∷ 111 ∷ 114 ∷ 105 ∷ 116 ∷ 121 ∷ 1 ∷ 104 ∷ 39 ∷ 0 ∷ 58 ∷ 109 ∷ 101 ∷ 116 ∷ 104 ∷ 111 ∷ 100 ∷ 7 ∷ 67 ∷ 79 ∷ 78 ∷ 78 ∷ 69 ∷ 67 ∷ 84 ∷ 37 ∷ 58 ∷ 112 ∷ 97 ∷ 116 ∷ 104 ∷ 1 ∷ 47 ∷ 39 ∷ 2 ∷ 58 ∷ []) ∷ turns.End 0 ∷ [])) ≡ record { answers = (answer replies.Done ([]) ∷ answer replies.Done ([]) ∷ answer replies.Done ([]) ∷ []); is_all = true }
unfolding computed
end_078 = refl

pub bytes_079 : shown (10 ∷ []) (run Server (turns.Connected 9 9 1000 (facts.Limit 1200) ∷ turns.PeerUni ∷ turns.PeerUni ∷ turns.PeerUni ∷ turns.PeerUni ∷ turns.PeerUni ∷ turns.Bytes 2 (64 ∷ 84 ∷ 0 ∷ []) ∷ turns.Bytes 6 (64 ∷ 84 ∷ 0 ∷ []) ∷ turns.Bytes 10 (64 ∷ 84 ∷ 0 ∷ []) ∷ turns.Bytes 18 (0 ∷ []) ∷ turns.Bytes 14 (0 ∷ 0 ∷ 0 ∷ []) ∷ [])) ≡ record { answers = (answer replies.Done (actions.Close 259 ([]) ∷ []) ∷ []); is_all = true }
unfolding computed
bytes_079 = refl

pub end_080 : shown (1 ∷ 2 ∷ 3 ∷ []) (run Server (turns.Connected 9 9 1000 (facts.Limit 1200) ∷ turns.PeerBi ∷ turns.Bytes 0 (1 ∷ 64 ∷ 80 ∷ 0 ∷ 0 ∷ 39 ∷ 3 ∷ 58 ∷ 97 ∷ 117 ∷ 116 ∷ 104 ∷ 111 ∷ 114 ∷ 105 ∷ 116 ∷ 121 ∷ 1 ∷ 104 ∷ 39 ∷ 0 ∷ 58 ∷ 109 ∷ 101 ∷ 116 ∷ 104 ∷ 111 ∷ 100 ∷ 7 ∷ 67 ∷ 79 ∷ 78 ∷ 78 ∷ 69 ∷ 67 ∷ 84 ∷ 37 ∷ 58 ∷ 112 ∷ 97 ∷ 116 ∷ 104 ∷ 1 ∷ 47 ∷ 39 ∷ 2 ∷ 58 ∷ 112 ∷ []) ∷ turns.End 0 ∷ [])) ≡ record { answers = (answer replies.Done ([]) ∷ answer replies.Done ([]) ∷ answer replies.Done ([]) ∷ []); is_all = true }
unfolding computed
end_080 = refl

pub end_081 : shown (1 ∷ 2 ∷ 3 ∷ []) (run Server (turns.Connected 9 9 1000 (facts.Limit 1200) ∷ turns.PeerBi ∷ turns.Bytes 0 (1 ∷ 64 ∷ 80 ∷ 0 ∷ 0 ∷ 39 ∷ 3 ∷ 58 ∷ 97 ∷ 117 ∷ 116 ∷ 104 ∷ 111 ∷ 114 ∷ 105 ∷ 116 ∷ 121 ∷ 1 ∷ 104 ∷ 39 ∷ 0 ∷ 58 ∷ 109 ∷ 101 ∷ 116 ∷ 104 ∷ 111 ∷ 100 ∷ 7 ∷ 67 ∷ 79 ∷ 78 ∷ 78 ∷ 69 ∷ 67 ∷ 84 ∷ 37 ∷ 58 ∷ 112 ∷ 97 ∷ 116 ∷ 104 ∷ 1 ∷ 47 ∷ 39 ∷ 2 ∷ 58 ∷ 112 ∷ 114 ∷ []) ∷ turns.End 0 ∷ [])) ≡ record { answers = (answer replies.Done ([]) ∷ answer replies.Done ([]) ∷ answer replies.Done ([]) ∷ []); is_all = true }
unfolding computed
end_081 = refl

pub end_082 : shown (1 ∷ 2 ∷ 3 ∷ []) (run Server (turns.Connected 9 9 1000 (facts.Limit 1200) ∷ turns.PeerBi ∷ turns.Bytes 0 (1 ∷ 64 ∷ 80 ∷ 0 ∷ 0 ∷ 39 ∷ 3 ∷ 58 ∷ 97 ∷ 117 ∷ 116 ∷ 104 ∷ 111 ∷ 114 ∷ 105 ∷ 116 ∷ 121 ∷ 1 ∷ 104 ∷ 39 ∷ 0 ∷ 58 ∷ 109 ∷ 101 ∷ 116 ∷ 104 ∷ 111 ∷ 100 ∷ 7 ∷ 67 ∷ 79 ∷ 78 ∷ 78 ∷ 69 ∷ 67 ∷ 84 ∷ 37 ∷ 58 ∷ 112 ∷ 97 ∷ 116 ∷ 104 ∷ 1 ∷ 47 ∷ 39 ∷ 2 ∷ 58 ∷ 112 ∷ 114 ∷ 111 ∷ []) ∷ turns.End 0 ∷ [])) ≡ record { answers = (answer replies.Done ([]) ∷ answer replies.Done ([]) ∷ answer replies.Done ([]) ∷ []); is_all = true }
unfolding computed
end_082 = refl

pub end_083 : shown (1 ∷ 2 ∷ 3 ∷ []) (run Server (turns.Connected 9 9 1000 (facts.Limit 1200) ∷ turns.PeerBi ∷ turns.Bytes 0 (1 ∷ 64 ∷ 80 ∷ 0 ∷ 0 ∷ 39 ∷ 3 ∷ 58 ∷ 97 ∷ 117 ∷ 116 ∷ 104 ∷ 111 ∷ 114 ∷ 105 ∷ 116 ∷ 121 ∷ 1 ∷ 104 ∷ 39 ∷ 0 ∷ 58 ∷ 109 ∷ 101 ∷ 116 ∷ 104 ∷ 111 ∷ 100 ∷ 7 ∷ 67 ∷ 79 ∷ 78 ∷ 78 ∷ 69 ∷ 67 ∷ 84 ∷ 37 ∷ 58 ∷ 112 ∷ 97 ∷ 116 ∷ 104 ∷ 1 ∷ 47 ∷ 39 ∷ 2 ∷ 58 ∷ 112 ∷ 114 ∷ 111 ∷ 116 ∷ []) ∷ turns.End 0 ∷ [])) ≡ record { answers = (answer replies.Done ([]) ∷ answer replies.Done ([]) ∷ answer replies.Done ([]) ∷ []); is_all = true }
unfolding computed
end_083 = refl

pub end_084 : shown (1 ∷ 2 ∷ 3 ∷ []) (run Server (turns.Connected 9 9 1000 (facts.Limit 1200) ∷ turns.PeerBi ∷ turns.Bytes 0 (1 ∷ 64 ∷ 80 ∷ 0 ∷ 0 ∷ 39 ∷ 3 ∷ 58 ∷ 97 ∷ 117 ∷ 116 ∷ 104 ∷ 111 ∷ 114 ∷ 105 ∷ 116 ∷ 121 ∷ 1 ∷ 104 ∷ 39 ∷ 0 ∷ 58 ∷ 109 ∷ 101 ∷ 116 ∷ 104 ∷ 111 ∷ 100 ∷ 7 ∷ 67 ∷ 79 ∷ 78 ∷ 78 ∷ 69 ∷ 67 ∷ 84 ∷ 37 ∷ 58 ∷ 112 ∷ 97 ∷ 116 ∷ 104 ∷ 1 ∷ 47 ∷ 39 ∷ 2 ∷ 58 ∷ 112 ∷ 114 ∷ 111 ∷ 116 ∷ 111 ∷ []) ∷ turns.End 0 ∷ [])) ≡ record { answers = (answer replies.Done ([]) ∷ answer replies.Done ([]) ∷ answer replies.Done ([]) ∷ []); is_all = true }
unfolding computed
end_084 = refl

pub end_085 : shown (1 ∷ 2 ∷ 3 ∷ []) (run Server (turns.Connected 9 9 1000 (facts.Limit 1200) ∷ turns.PeerBi ∷ turns.Bytes 0 (1 ∷ 64 ∷ 80 ∷ 0 ∷ 0 ∷ 39 ∷ 3 ∷ 58 ∷ 97 ∷ 117 ∷ 116 ∷ 104 ∷ 111 ∷ 114 ∷ 105 ∷ 116 ∷ 121 ∷ 1 ∷ 104 ∷ 39 ∷ 0 ∷ 58 ∷ 109 ∷ 101 ∷ 116 ∷ 104 ∷ 111 ∷ 100 ∷ 7 ∷ 67 ∷ 79 ∷ 78 ∷ 78 ∷ 69 ∷ 67 ∷ 84 ∷ 37 ∷ 58 ∷ 112 ∷ 97 ∷ 116 ∷ 104 ∷ 1 ∷ 47 ∷ 39 ∷ 2 ∷ 58 ∷ 112 ∷ 114 ∷ 111 ∷ 116 ∷ 111 ∷ 99 ∷ []) ∷ turns.End 0 ∷ [])) ≡ record { answers = (answer replies.Done ([]) ∷ answer replies.Done ([]) ∷ answer replies.Done ([]) ∷ []); is_all = true }
unfolding computed
end_085 = refl

pub end_086 : shown (1 ∷ 2 ∷ 3 ∷ []) (run Server (turns.Connected 9 9 1000 (facts.Limit 1200) ∷ turns.PeerBi ∷ turns.Bytes 0 (1 ∷ 64 ∷ 80 ∷ 0 ∷ 0 ∷ 39 ∷ 3 ∷ 58 ∷ 97 ∷ 117 ∷ 116 ∷ 104 ∷ 111 ∷ 114 ∷ 105 ∷ 116 ∷ 121 ∷ 1 ∷ 104 ∷ 39 ∷ 0 ∷ 58 ∷ 109 ∷ 101 ∷ 116 ∷ 104 ∷ 111 ∷ 100 ∷ 7 ∷ 67 ∷ 79 ∷ 78 ∷ 78 ∷ 69 ∷ 67 ∷ 84 ∷ 37 ∷ 58 ∷ 112 ∷ 97 ∷ 116 ∷ 104 ∷ 1 ∷ 47 ∷ 39 ∷ 2 ∷ 58 ∷ 112 ∷ 114 ∷ 111 ∷ 116 ∷ 111 ∷ 99 ∷ 111 ∷ []) ∷ turns.End 0 ∷ [])) ≡ record { answers = (answer replies.Done ([]) ∷ answer replies.Done ([]) ∷ answer replies.Done ([]) ∷ []); is_all = true }
unfolding computed
end_086 = refl

pub end_087 : shown (1 ∷ 2 ∷ 3 ∷ []) (run Server (turns.Connected 9 9 1000 (facts.Limit 1200) ∷ turns.PeerBi ∷ turns.Bytes 0 (1 ∷ 64 ∷ 80 ∷ 0 ∷ 0 ∷ 39 ∷ 3 ∷ 58 ∷ 97 ∷ 117 ∷ 116 ∷ 104 ∷ 111 ∷ 114 ∷ 105 ∷ 116 ∷ 121 ∷ 1 ∷ 104 ∷ 39 ∷ 0 ∷ 58 ∷ 109 ∷ 101 ∷ 116 ∷ 104 ∷ 111 ∷ 100 ∷ 7 ∷ 67 ∷ 79 ∷ 78 ∷ 78 ∷ 69 ∷ 67 ∷ 84 ∷ 37 ∷ 58 ∷ 112 ∷ 97 ∷ 116 ∷ 104 ∷ 1 ∷ 47 ∷ 39 ∷ 2 ∷ 58 ∷ 112 ∷ 114 ∷ 111 ∷ 116 ∷ 111 ∷ 99 ∷ 111 ∷ 108 ∷ []) ∷ turns.End 0 ∷ [])) ≡ record { answers = (answer replies.Done ([]) ∷ answer replies.Done ([]) ∷ answer replies.Done ([]) ∷ []); is_all = true }
unfolding computed
end_087 = refl

pub end_088 : shown (1 ∷ 2 ∷ 3 ∷ []) (run Server (turns.Connected 9 9 1000 (facts.Limit 1200) ∷ turns.PeerBi ∷ turns.Bytes 0 (1 ∷ 64 ∷ 80 ∷ 0 ∷ 0 ∷ 39 ∷ 3 ∷ 58 ∷ 97 ∷ 117 ∷ 116 ∷ 104 ∷ 111 ∷ 114 ∷ 105 ∷ 116 ∷ 121 ∷ 1 ∷ 104 ∷ 39 ∷ 0 ∷ 58 ∷ 109 ∷ 101 ∷ 116 ∷ 104 ∷ 111 ∷ 100 ∷ 7 ∷ 67 ∷ 79 ∷ 78 ∷ 78 ∷ 69 ∷ 67 ∷ 84 ∷ 37 ∷ 58 ∷ 112 ∷ 97 ∷ 116 ∷ 104 ∷ 1 ∷ 47 ∷ 39 ∷ 2 ∷ 58 ∷ 112 ∷ 114 ∷ 111 ∷ 116 ∷ 111 ∷ 99 ∷ 111 ∷ 108 ∷ 12 ∷ []) ∷ turns.End 0 ∷ [])) ≡ record { answers = (answer replies.Done ([]) ∷ answer replies.Done ([]) ∷ answer replies.Done ([]) ∷ []); is_all = true }
unfolding computed
end_088 = refl

pub end_089 : shown (1 ∷ 2 ∷ 3 ∷ []) (run Server (turns.Connected 9 9 1000 (facts.Limit 1200) ∷ turns.PeerBi ∷ turns.Bytes 0 (1 ∷ 64 ∷ 80 ∷ 0 ∷ 0 ∷ 39 ∷ 3 ∷ 58 ∷ 97 ∷ 117 ∷ 116 ∷ 104 ∷ 111 ∷ 114 ∷ 105 ∷ 116 ∷ 121 ∷ 1 ∷ 104 ∷ 39 ∷ 0 ∷ 58 ∷ 109 ∷ 101 ∷ 116 ∷ 104 ∷ 111 ∷ 100 ∷ 7 ∷ 67 ∷ 79 ∷ 78 ∷ 78 ∷ 69 ∷ 67 ∷ 84 ∷ 37 ∷ 58 ∷ 112 ∷ 97 ∷ 116 ∷ 104 ∷ 1 ∷ 47 ∷ 39 ∷ 2 ∷ 58 ∷ 112 ∷ 114 ∷ 111 ∷ 116 ∷ 111 ∷ 99 ∷ 111 ∷ 108 ∷ 12 ∷ 119 ∷ []) ∷ turns.End 0 ∷ [])) ≡ record { answers = (answer replies.Done ([]) ∷ answer replies.Done ([]) ∷ answer replies.Done ([]) ∷ []); is_all = true }
unfolding computed
end_089 = refl

pub bytes_090 : shown (10 ∷ 11 ∷ 12 ∷ []) (run Server (turns.Connected 9 9 1000 (facts.Limit 1200) ∷ turns.PeerUni ∷ turns.PeerUni ∷ turns.PeerUni ∷ turns.PeerUni ∷ turns.PeerUni ∷ turns.Bytes 2 (64 ∷ 84 ∷ 0 ∷ []) ∷ turns.Bytes 6 (64 ∷ 84 ∷ 0 ∷ []) ∷ turns.Bytes 10 (64 ∷ 84 ∷ 0 ∷ []) ∷ turns.Bytes 18 (0 ∷ []) ∷ turns.Bytes 14 (0 ∷ []) ∷ turns.Bytes 14 (0 ∷ []) ∷ turns.Bytes 14 (0 ∷ []) ∷ [])) ≡ record { answers = (answer replies.Done (actions.Close 259 ([]) ∷ []) ∷ answer replies.Done ([]) ∷ answer replies.Done ([]) ∷ []); is_all = true }
unfolding computed
bytes_090 = refl

pub end_091 : shown (1 ∷ 2 ∷ 3 ∷ []) (run Server (turns.Connected 9 9 1000 (facts.Limit 1200) ∷ turns.PeerBi ∷ turns.Bytes 0 (1 ∷ 64 ∷ 80 ∷ 0 ∷ 0 ∷ 39 ∷ 3 ∷ 58 ∷ 97 ∷ 117 ∷ 116 ∷ 104 ∷ 111 ∷ 114 ∷ 105 ∷ 116 ∷ 121 ∷ 1 ∷ 104 ∷ 39 ∷ 0 ∷ 58 ∷ 109 ∷ 101 ∷ 116 ∷ 104 ∷ 111 ∷ 100 ∷ 7 ∷ 67 ∷ 79 ∷ 78 ∷ 78 ∷ 69 ∷ 67 ∷ 84 ∷ 37 ∷ 58 ∷ 112 ∷ 97 ∷ 116 ∷ 104 ∷ 1 ∷ 47 ∷ 39 ∷ 2 ∷ 58 ∷ 112 ∷ 114 ∷ 111 ∷ 116 ∷ 111 ∷ 99 ∷ 111 ∷ 108 ∷ 12 ∷ 119 ∷ 101 ∷ []) ∷ turns.End 0 ∷ [])) ≡ record { answers = (answer replies.Done ([]) ∷ answer replies.Done ([]) ∷ answer replies.Done ([]) ∷ []); is_all = true }
unfolding computed
end_091 = refl

pub end_092 : shown (1 ∷ 2 ∷ 3 ∷ []) (run Server (turns.Connected 9 9 1000 (facts.Limit 1200) ∷ turns.PeerBi ∷ turns.Bytes 0 (1 ∷ 64 ∷ 80 ∷ 0 ∷ 0 ∷ 39 ∷ 3 ∷ 58 ∷ 97 ∷ 117 ∷ 116 ∷ 104 ∷ 111 ∷ 114 ∷ 105 ∷ 116 ∷ 121 ∷ 1 ∷ 104 ∷ 39 ∷ 0 ∷ 58 ∷ 109 ∷ 101 ∷ 116 ∷ 104 ∷ 111 ∷ 100 ∷ 7 ∷ 67 ∷ 79 ∷ 78 ∷ 78 ∷ 69 ∷ 67 ∷ 84 ∷ 37 ∷ 58 ∷ 112 ∷ 97 ∷ 116 ∷ 104 ∷ 1 ∷ 47 ∷ 39 ∷ 2 ∷ 58 ∷ 112 ∷ 114 ∷ 111 ∷ 116 ∷ 111 ∷ 99 ∷ 111 ∷ 108 ∷ 12 ∷ 119 ∷ 101 ∷ 98 ∷ []) ∷ turns.End 0 ∷ [])) ≡ record { answers = (answer replies.Done ([]) ∷ answer replies.Done ([]) ∷ answer replies.Done ([]) ∷ []); is_all = true }
unfolding computed
end_092 = refl

pub end_093 : shown (1 ∷ 2 ∷ 3 ∷ []) (run Server (turns.Connected 9 9 1000 (facts.Limit 1200) ∷ turns.PeerBi ∷ turns.Bytes 0 (1 ∷ 64 ∷ 80 ∷ 0 ∷ 0 ∷ 39 ∷ 3 ∷ 58 ∷ 97 ∷ 117 ∷ 116 ∷ 104 ∷ 111 ∷ 114 ∷ 105 ∷ 116 ∷ 121 ∷ 1 ∷ 104 ∷ 39 ∷ 0 ∷ 58 ∷ 109 ∷ 101 ∷ 116 ∷ 104 ∷ 111 ∷ 100 ∷ 7 ∷ 67 ∷ 79 ∷ 78 ∷ 78 ∷ 69 ∷ 67 ∷ 84 ∷ 37 ∷ 58 ∷ 112 ∷ 97 ∷ 116 ∷ 104 ∷ 1 ∷ 47 ∷ 39 ∷ 2 ∷ 58 ∷ 112 ∷ 114 ∷ 111 ∷ 116 ∷ 111 ∷ 99 ∷ 111 ∷ 108 ∷ 12 ∷ 119 ∷ 101 ∷ 98 ∷ 116 ∷ []) ∷ turns.End 0 ∷ [])) ≡ record { answers = (answer replies.Done ([]) ∷ answer replies.Done ([]) ∷ answer replies.Done ([]) ∷ []); is_all = true }
unfolding computed
end_093 = refl

pub end_094 : shown (1 ∷ 2 ∷ 3 ∷ []) (run Server (turns.Connected 9 9 1000 (facts.Limit 1200) ∷ turns.PeerBi ∷ turns.Bytes 0 (1 ∷ 64 ∷ 80 ∷ 0 ∷ 0 ∷ 39 ∷ 3 ∷ 58 ∷ 97 ∷ 117 ∷ 116 ∷ 104 ∷ 111 ∷ 114 ∷ 105 ∷ 116 ∷ 121 ∷ 1 ∷ 104 ∷ 39 ∷ 0 ∷ 58 ∷ 109 ∷ 101 ∷ 116 ∷ 104 ∷ 111 ∷ 100 ∷ 7 ∷ 67 ∷ 79 ∷ 78 ∷ 78 ∷ 69 ∷ 67 ∷ 84 ∷ 37 ∷ 58 ∷ 112 ∷ 97 ∷ 116 ∷ 104 ∷ 1 ∷ 47 ∷ 39 ∷ 2 ∷ 58 ∷ 112 ∷ 114 ∷ 111 ∷ 116 ∷ 111 ∷ 99 ∷ 111 ∷ 108 ∷ 12 ∷ 119 ∷ 101 ∷ 98 ∷ 116 ∷ 114 ∷ []) ∷ turns.End 0 ∷ [])) ≡ record { answers = (answer replies.Done ([]) ∷ answer replies.Done ([]) ∷ answer replies.Done ([]) ∷ []); is_all = true }
unfolding computed
end_094 = refl

pub end_095 : shown (1 ∷ 2 ∷ 3 ∷ []) (run Server (turns.Connected 9 9 1000 (facts.Limit 1200) ∷ turns.PeerBi ∷ turns.Bytes 0 (1 ∷ 64 ∷ 80 ∷ 0 ∷ 0 ∷ 39 ∷ 3 ∷ 58 ∷ 97 ∷ 117 ∷ 116 ∷ 104 ∷ 111 ∷ 114 ∷ 105 ∷ 116 ∷ 121 ∷ 1 ∷ 104 ∷ 39 ∷ 0 ∷ 58 ∷ 109 ∷ 101 ∷ 116 ∷ 104 ∷ 111 ∷ 100 ∷ 7 ∷ 67 ∷ 79 ∷ 78 ∷ 78 ∷ 69 ∷ 67 ∷ 84 ∷ 37 ∷ 58 ∷ 112 ∷ 97 ∷ 116 ∷ 104 ∷ 1 ∷ 47 ∷ 39 ∷ 2 ∷ 58 ∷ 112 ∷ 114 ∷ 111 ∷ 116 ∷ 111 ∷ 99 ∷ 111 ∷ 108 ∷ 12 ∷ 119 ∷ 101 ∷ 98 ∷ 116 ∷ 114 ∷ 97 ∷ []) ∷ turns.End 0 ∷ [])) ≡ record { answers = (answer replies.Done ([]) ∷ answer replies.Done ([]) ∷ answer replies.Done ([]) ∷ []); is_all = true }
unfolding computed
end_095 = refl

pub handshake_096 : shown (0 ∷ 1 ∷ 2 ∷ 5 ∷ 7 ∷ []) (run Client (turns.Call (calls.Connect ((104 ∷ 116 ∷ 116 ∷ 112 ∷ 115 ∷ 58 ∷ 47 ∷ 47 ∷ 104 ∷ 58 ∷ 52 ∷ 52 ∷ 51 ∷ 51 ∷ 47 ∷ 112 ∷ 63 ∷ 113 ∷ []), ([])) (lookups.Found (addresses.V4 2130706433 4433)) outcomes.Proceed) ∷ turns.Connected 1 1 1000 (facts.Limit 1200) ∷ turns.Call calls.Handshake ∷ turns.PeerUni ∷ turns.Bytes 3 (0 ∷ 4 ∷ 0 ∷ []) ∷ turns.Call calls.Handshake ∷ turns.Bytes 0 (1 ∷ 15 ∷ 0 ∷ 0 ∷ 39 ∷ 0 ∷ 58 ∷ 115 ∷ 116 ∷ 97 ∷ 116 ∷ 117 ∷ 115 ∷ 3 ∷ 50 ∷ 48 ∷ 48 ∷ []) ∷ turns.Call calls.Handshake ∷ [])) ≡ record { answers = (answer replies.Pending (actions.Dial (addresses.V4 2130706433 4433) (104 ∷ []) ∷ []) ∷ answer replies.Done (actions.Opened 2 ∷ actions.Send 2 (0 ∷ 4 ∷ 22 ∷ 1 ∷ 0 ∷ 7 ∷ 0 ∷ 8 ∷ 1 ∷ 51 ∷ 1 ∷ 171 ∷ 96 ∷ 55 ∷ 66 ∷ 1 ∷ 192 ∷ 0 ∷ 0 ∷ 0 ∷ 198 ∷ 113 ∷ 112 ∷ 106 ∷ 4 ∷ []) ∷ []) ∷ answer replies.Pending ([]) ∷ answer replies.Pending (actions.Opened 0 ∷ actions.Send 0 (1 ∷ 64 ∷ 88 ∷ 0 ∷ 0 ∷ 39 ∷ 3 ∷ 58 ∷ 97 ∷ 117 ∷ 116 ∷ 104 ∷ 111 ∷ 114 ∷ 105 ∷ 116 ∷ 121 ∷ 6 ∷ 104 ∷ 58 ∷ 52 ∷ 52 ∷ 51 ∷ 51 ∷ 39 ∷ 0 ∷ 58 ∷ 109 ∷ 101 ∷ 116 ∷ 104 ∷ 111 ∷ 100 ∷ 7 ∷ 67 ∷ 79 ∷ 78 ∷ 78 ∷ 69 ∷ 67 ∷ 84 ∷ 37 ∷ 58 ∷ 112 ∷ 97 ∷ 116 ∷ 104 ∷ 4 ∷ 47 ∷ 112 ∷ 63 ∷ 113 ∷ 39 ∷ 2 ∷ 58 ∷ 112 ∷ 114 ∷ 111 ∷ 116 ∷ 111 ∷ 99 ∷ 111 ∷ 108 ∷ 12 ∷ 119 ∷ 101 ∷ 98 ∷ 116 ∷ 114 ∷ 97 ∷ 110 ∷ 115 ∷ 112 ∷ 111 ∷ 114 ∷ 116 ∷ 39 ∷ 0 ∷ 58 ∷ 115 ∷ 99 ∷ 104 ∷ 101 ∷ 109 ∷ 101 ∷ 5 ∷ 104 ∷ 116 ∷ 116 ∷ 112 ∷ 115 ∷ []) ∷ []) ∷ answer (replies.Session 0) ([]) ∷ []); is_all = true }
unfolding computed parsed
handshake_096 = refl

pub handshake_097 : shown (0 ∷ 1 ∷ 2 ∷ 5 ∷ 7 ∷ []) (run Client (turns.Call (calls.Connect ((104 ∷ 116 ∷ 116 ∷ 112 ∷ 115 ∷ 58 ∷ 47 ∷ 47 ∷ 104 ∷ 58 ∷ 52 ∷ 52 ∷ 51 ∷ 51 ∷ 47 ∷ 112 ∷ 63 ∷ 113 ∷ []), ([])) (lookups.Found (addresses.V4 2130706433 4433)) outcomes.Proceed) ∷ turns.Connected 1 1 1000 (facts.Limit 1200) ∷ turns.Call calls.Handshake ∷ turns.PeerUni ∷ turns.Bytes 3 (0 ∷ 4 ∷ 0 ∷ []) ∷ turns.Call calls.Handshake ∷ turns.Bytes 0 (1 ∷ 15 ∷ 0 ∷ 0 ∷ 39 ∷ 0 ∷ 58 ∷ 115 ∷ 116 ∷ 97 ∷ 116 ∷ 117 ∷ 115 ∷ 3 ∷ 52 ∷ 48 ∷ 52 ∷ []) ∷ turns.Call calls.Handshake ∷ [])) ≡ record { answers = (answer replies.Pending (actions.Dial (addresses.V4 2130706433 4433) (104 ∷ []) ∷ []) ∷ answer replies.Done (actions.Opened 2 ∷ actions.Send 2 (0 ∷ 4 ∷ 22 ∷ 1 ∷ 0 ∷ 7 ∷ 0 ∷ 8 ∷ 1 ∷ 51 ∷ 1 ∷ 171 ∷ 96 ∷ 55 ∷ 66 ∷ 1 ∷ 192 ∷ 0 ∷ 0 ∷ 0 ∷ 198 ∷ 113 ∷ 112 ∷ 106 ∷ 4 ∷ []) ∷ []) ∷ answer replies.Pending ([]) ∷ answer replies.Pending (actions.Opened 0 ∷ actions.Send 0 (1 ∷ 64 ∷ 88 ∷ 0 ∷ 0 ∷ 39 ∷ 3 ∷ 58 ∷ 97 ∷ 117 ∷ 116 ∷ 104 ∷ 111 ∷ 114 ∷ 105 ∷ 116 ∷ 121 ∷ 6 ∷ 104 ∷ 58 ∷ 52 ∷ 52 ∷ 51 ∷ 51 ∷ 39 ∷ 0 ∷ 58 ∷ 109 ∷ 101 ∷ 116 ∷ 104 ∷ 111 ∷ 100 ∷ 7 ∷ 67 ∷ 79 ∷ 78 ∷ 78 ∷ 69 ∷ 67 ∷ 84 ∷ 37 ∷ 58 ∷ 112 ∷ 97 ∷ 116 ∷ 104 ∷ 4 ∷ 47 ∷ 112 ∷ 63 ∷ 113 ∷ 39 ∷ 2 ∷ 58 ∷ 112 ∷ 114 ∷ 111 ∷ 116 ∷ 111 ∷ 99 ∷ 111 ∷ 108 ∷ 12 ∷ 119 ∷ 101 ∷ 98 ∷ 116 ∷ 114 ∷ 97 ∷ 110 ∷ 115 ∷ 112 ∷ 111 ∷ 114 ∷ 116 ∷ 39 ∷ 0 ∷ 58 ∷ 115 ∷ 99 ∷ 104 ∷ 101 ∷ 109 ∷ 101 ∷ 5 ∷ 104 ∷ 116 ∷ 116 ∷ 112 ∷ 115 ∷ []) ∷ []) ∷ answer (replies.ConnectFailed connects.SessionRejected) (actions.Close 0 ([]) ∷ []) ∷ []); is_all = true }
unfolding computed parsed
handshake_097 = refl

pub handshake_098 : shown (0 ∷ 1 ∷ 2 ∷ 5 ∷ 7 ∷ []) (run Client (turns.Call (calls.Connect ((104 ∷ 116 ∷ 116 ∷ 112 ∷ 115 ∷ 58 ∷ 47 ∷ 47 ∷ 104 ∷ 58 ∷ 52 ∷ 52 ∷ 51 ∷ 51 ∷ 47 ∷ 112 ∷ 63 ∷ 113 ∷ []), ([])) (lookups.Found (addresses.V4 2130706433 4433)) outcomes.Proceed) ∷ turns.Connected 1 1 1000 (facts.Limit 1200) ∷ turns.Call calls.Handshake ∷ turns.PeerUni ∷ turns.Bytes 3 (0 ∷ 4 ∷ 0 ∷ []) ∷ turns.Call calls.Handshake ∷ turns.Bytes 0 (1 ∷ 15 ∷ 0 ∷ 0 ∷ 39 ∷ 0 ∷ 58 ∷ 115 ∷ 116 ∷ 97 ∷ 116 ∷ 117 ∷ 115 ∷ 3 ∷ 97 ∷ 98 ∷ 99 ∷ []) ∷ turns.Call calls.Handshake ∷ [])) ≡ record { answers = (answer replies.Pending (actions.Dial (addresses.V4 2130706433 4433) (104 ∷ []) ∷ []) ∷ answer replies.Done (actions.Opened 2 ∷ actions.Send 2 (0 ∷ 4 ∷ 22 ∷ 1 ∷ 0 ∷ 7 ∷ 0 ∷ 8 ∷ 1 ∷ 51 ∷ 1 ∷ 171 ∷ 96 ∷ 55 ∷ 66 ∷ 1 ∷ 192 ∷ 0 ∷ 0 ∷ 0 ∷ 198 ∷ 113 ∷ 112 ∷ 106 ∷ 4 ∷ []) ∷ []) ∷ answer replies.Pending ([]) ∷ answer replies.Pending (actions.Opened 0 ∷ actions.Send 0 (1 ∷ 64 ∷ 88 ∷ 0 ∷ 0 ∷ 39 ∷ 3 ∷ 58 ∷ 97 ∷ 117 ∷ 116 ∷ 104 ∷ 111 ∷ 114 ∷ 105 ∷ 116 ∷ 121 ∷ 6 ∷ 104 ∷ 58 ∷ 52 ∷ 52 ∷ 51 ∷ 51 ∷ 39 ∷ 0 ∷ 58 ∷ 109 ∷ 101 ∷ 116 ∷ 104 ∷ 111 ∷ 100 ∷ 7 ∷ 67 ∷ 79 ∷ 78 ∷ 78 ∷ 69 ∷ 67 ∷ 84 ∷ 37 ∷ 58 ∷ 112 ∷ 97 ∷ 116 ∷ 104 ∷ 4 ∷ 47 ∷ 112 ∷ 63 ∷ 113 ∷ 39 ∷ 2 ∷ 58 ∷ 112 ∷ 114 ∷ 111 ∷ 116 ∷ 111 ∷ 99 ∷ 111 ∷ 108 ∷ 12 ∷ 119 ∷ 101 ∷ 98 ∷ 116 ∷ 114 ∷ 97 ∷ 110 ∷ 115 ∷ 112 ∷ 111 ∷ 114 ∷ 116 ∷ 39 ∷ 0 ∷ 58 ∷ 115 ∷ 99 ∷ 104 ∷ 101 ∷ 109 ∷ 101 ∷ 5 ∷ 104 ∷ 116 ∷ 116 ∷ 112 ∷ 115 ∷ []) ∷ []) ∷ answer (replies.ConnectFailed (connects.ConnectionError (errors.LocalH3Error h3.Message))) (actions.Close 270 ([]) ∷ []) ∷ []); is_all = true }
unfolding computed parsed
handshake_098 = refl

pub end_099 : shown (1 ∷ 2 ∷ 3 ∷ []) (run Server (turns.Connected 9 9 1000 (facts.Limit 1200) ∷ turns.PeerBi ∷ turns.Bytes 0 (1 ∷ 64 ∷ 80 ∷ 0 ∷ 0 ∷ 39 ∷ 3 ∷ 58 ∷ 97 ∷ 117 ∷ 116 ∷ 104 ∷ 111 ∷ 114 ∷ 105 ∷ 116 ∷ 121 ∷ 1 ∷ 104 ∷ 39 ∷ 0 ∷ 58 ∷ 109 ∷ 101 ∷ 116 ∷ 104 ∷ 111 ∷ 100 ∷ 7 ∷ 67 ∷ 79 ∷ 78 ∷ 78 ∷ 69 ∷ 67 ∷ 84 ∷ 37 ∷ 58 ∷ 112 ∷ 97 ∷ 116 ∷ 104 ∷ 1 ∷ 47 ∷ 39 ∷ 2 ∷ 58 ∷ 112 ∷ 114 ∷ 111 ∷ 116 ∷ 111 ∷ 99 ∷ 111 ∷ 108 ∷ 12 ∷ 119 ∷ 101 ∷ 98 ∷ 116 ∷ 114 ∷ 97 ∷ 110 ∷ []) ∷ turns.End 0 ∷ [])) ≡ record { answers = (answer replies.Done ([]) ∷ answer replies.Done ([]) ∷ answer replies.Done ([]) ∷ []); is_all = true }
unfolding computed
end_099 = refl

pub end_100 : shown (1 ∷ 2 ∷ 3 ∷ []) (run Server (turns.Connected 9 9 1000 (facts.Limit 1200) ∷ turns.PeerBi ∷ turns.Bytes 0 (1 ∷ 64 ∷ 80 ∷ 0 ∷ 0 ∷ 39 ∷ 3 ∷ 58 ∷ 97 ∷ 117 ∷ 116 ∷ 104 ∷ 111 ∷ 114 ∷ 105 ∷ 116 ∷ 121 ∷ 1 ∷ 104 ∷ 39 ∷ 0 ∷ 58 ∷ 109 ∷ 101 ∷ 116 ∷ 104 ∷ 111 ∷ 100 ∷ 7 ∷ 67 ∷ 79 ∷ 78 ∷ 78 ∷ 69 ∷ 67 ∷ 84 ∷ 37 ∷ 58 ∷ 112 ∷ 97 ∷ 116 ∷ 104 ∷ 1 ∷ 47 ∷ 39 ∷ 2 ∷ 58 ∷ 112 ∷ 114 ∷ 111 ∷ 116 ∷ 111 ∷ 99 ∷ 111 ∷ 108 ∷ 12 ∷ 119 ∷ 101 ∷ 98 ∷ 116 ∷ 114 ∷ 97 ∷ 110 ∷ 115 ∷ []) ∷ turns.End 0 ∷ [])) ≡ record { answers = (answer replies.Done ([]) ∷ answer replies.Done ([]) ∷ answer replies.Done ([]) ∷ []); is_all = true }
unfolding computed
end_100 = refl

pub end_101 : shown (1 ∷ 2 ∷ 3 ∷ []) (run Server (turns.Connected 9 9 1000 (facts.Limit 1200) ∷ turns.PeerBi ∷ turns.Bytes 0 (1 ∷ 64 ∷ 80 ∷ 0 ∷ 0 ∷ 39 ∷ 3 ∷ 58 ∷ 97 ∷ 117 ∷ 116 ∷ 104 ∷ 111 ∷ 114 ∷ 105 ∷ 116 ∷ 121 ∷ 1 ∷ 104 ∷ 39 ∷ 0 ∷ 58 ∷ 109 ∷ 101 ∷ 116 ∷ 104 ∷ 111 ∷ 100 ∷ 7 ∷ 67 ∷ 79 ∷ 78 ∷ 78 ∷ 69 ∷ 67 ∷ 84 ∷ 37 ∷ 58 ∷ 112 ∷ 97 ∷ 116 ∷ 104 ∷ 1 ∷ 47 ∷ 39 ∷ 2 ∷ 58 ∷ 112 ∷ 114 ∷ 111 ∷ 116 ∷ 111 ∷ 99 ∷ 111 ∷ 108 ∷ 12 ∷ 119 ∷ 101 ∷ 98 ∷ 116 ∷ 114 ∷ 97 ∷ 110 ∷ 115 ∷ 112 ∷ []) ∷ turns.End 0 ∷ [])) ≡ record { answers = (answer replies.Done ([]) ∷ answer replies.Done ([]) ∷ answer replies.Done ([]) ∷ []); is_all = true }
unfolding computed
end_101 = refl

pub end_102 : shown (1 ∷ 2 ∷ 3 ∷ []) (run Server (turns.Connected 9 9 1000 (facts.Limit 1200) ∷ turns.PeerBi ∷ turns.Bytes 0 (1 ∷ 64 ∷ 80 ∷ 0 ∷ 0 ∷ 39 ∷ 3 ∷ 58 ∷ 97 ∷ 117 ∷ 116 ∷ 104 ∷ 111 ∷ 114 ∷ 105 ∷ 116 ∷ 121 ∷ 1 ∷ 104 ∷ 39 ∷ 0 ∷ 58 ∷ 109 ∷ 101 ∷ 116 ∷ 104 ∷ 111 ∷ 100 ∷ 7 ∷ 67 ∷ 79 ∷ 78 ∷ 78 ∷ 69 ∷ 67 ∷ 84 ∷ 37 ∷ 58 ∷ 112 ∷ 97 ∷ 116 ∷ 104 ∷ 1 ∷ 47 ∷ 39 ∷ 2 ∷ 58 ∷ 112 ∷ 114 ∷ 111 ∷ 116 ∷ 111 ∷ 99 ∷ 111 ∷ 108 ∷ 12 ∷ 119 ∷ 101 ∷ 98 ∷ 116 ∷ 114 ∷ 97 ∷ 110 ∷ 115 ∷ 112 ∷ 111 ∷ []) ∷ turns.End 0 ∷ [])) ≡ record { answers = (answer replies.Done ([]) ∷ answer replies.Done ([]) ∷ answer replies.Done ([]) ∷ []); is_all = true }
unfolding computed
end_102 = refl

pub end_103 : shown (1 ∷ 2 ∷ 3 ∷ []) (run Server (turns.Connected 9 9 1000 (facts.Limit 1200) ∷ turns.PeerBi ∷ turns.Bytes 0 (1 ∷ 64 ∷ 80 ∷ 0 ∷ 0 ∷ 39 ∷ 3 ∷ 58 ∷ 97 ∷ 117 ∷ 116 ∷ 104 ∷ 111 ∷ 114 ∷ 105 ∷ 116 ∷ 121 ∷ 1 ∷ 104 ∷ 39 ∷ 0 ∷ 58 ∷ 109 ∷ 101 ∷ 116 ∷ 104 ∷ 111 ∷ 100 ∷ 7 ∷ 67 ∷ 79 ∷ 78 ∷ 78 ∷ 69 ∷ 67 ∷ 84 ∷ 37 ∷ 58 ∷ 112 ∷ 97 ∷ 116 ∷ 104 ∷ 1 ∷ 47 ∷ 39 ∷ 2 ∷ 58 ∷ 112 ∷ 114 ∷ 111 ∷ 116 ∷ 111 ∷ 99 ∷ 111 ∷ 108 ∷ 12 ∷ 119 ∷ 101 ∷ 98 ∷ 116 ∷ 114 ∷ 97 ∷ 110 ∷ 115 ∷ 112 ∷ 111 ∷ 114 ∷ []) ∷ turns.End 0 ∷ [])) ≡ record { answers = (answer replies.Done ([]) ∷ answer replies.Done ([]) ∷ answer replies.Done ([]) ∷ []); is_all = true }
unfolding computed
end_103 = refl

pub end_104 : shown (1 ∷ 2 ∷ 3 ∷ []) (run Server (turns.Connected 9 9 1000 (facts.Limit 1200) ∷ turns.PeerBi ∷ turns.Bytes 0 (1 ∷ 64 ∷ 80 ∷ 0 ∷ 0 ∷ 39 ∷ 3 ∷ 58 ∷ 97 ∷ 117 ∷ 116 ∷ 104 ∷ 111 ∷ 114 ∷ 105 ∷ 116 ∷ 121 ∷ 1 ∷ 104 ∷ 39 ∷ 0 ∷ 58 ∷ 109 ∷ 101 ∷ 116 ∷ 104 ∷ 111 ∷ 100 ∷ 7 ∷ 67 ∷ 79 ∷ 78 ∷ 78 ∷ 69 ∷ 67 ∷ 84 ∷ 37 ∷ 58 ∷ 112 ∷ 97 ∷ 116 ∷ 104 ∷ 1 ∷ 47 ∷ 39 ∷ 2 ∷ 58 ∷ 112 ∷ 114 ∷ 111 ∷ 116 ∷ 111 ∷ 99 ∷ 111 ∷ 108 ∷ 12 ∷ 119 ∷ 101 ∷ 98 ∷ 116 ∷ 114 ∷ 97 ∷ 110 ∷ 115 ∷ 112 ∷ 111 ∷ 114 ∷ 116 ∷ []) ∷ turns.End 0 ∷ [])) ≡ record { answers = (answer replies.Done ([]) ∷ answer replies.Done ([]) ∷ answer replies.Done ([]) ∷ []); is_all = true }
unfolding computed
end_104 = refl

pub end_105 : shown (1 ∷ 2 ∷ 3 ∷ []) (run Server (turns.Connected 9 9 1000 (facts.Limit 1200) ∷ turns.PeerBi ∷ turns.Bytes 0 (1 ∷ 64 ∷ 80 ∷ 0 ∷ 0 ∷ 39 ∷ 3 ∷ 58 ∷ 97 ∷ 117 ∷ 116 ∷ 104 ∷ 111 ∷ 114 ∷ 105 ∷ 116 ∷ 121 ∷ 1 ∷ 104 ∷ 39 ∷ 0 ∷ 58 ∷ 109 ∷ 101 ∷ 116 ∷ 104 ∷ 111 ∷ 100 ∷ 7 ∷ 67 ∷ 79 ∷ 78 ∷ 78 ∷ 69 ∷ 67 ∷ 84 ∷ 37 ∷ 58 ∷ 112 ∷ 97 ∷ 116 ∷ 104 ∷ 1 ∷ 47 ∷ 39 ∷ 2 ∷ 58 ∷ 112 ∷ 114 ∷ 111 ∷ 116 ∷ 111 ∷ 99 ∷ 111 ∷ 108 ∷ 12 ∷ 119 ∷ 101 ∷ 98 ∷ 116 ∷ 114 ∷ 97 ∷ 110 ∷ 115 ∷ 112 ∷ 111 ∷ 114 ∷ 116 ∷ 39 ∷ []) ∷ turns.End 0 ∷ [])) ≡ record { answers = (answer replies.Done ([]) ∷ answer replies.Done ([]) ∷ answer replies.Done ([]) ∷ []); is_all = true }
unfolding computed
end_105 = refl

pub end_106 : shown (1 ∷ 2 ∷ 3 ∷ []) (run Server (turns.Connected 9 9 1000 (facts.Limit 1200) ∷ turns.PeerBi ∷ turns.Bytes 0 (1 ∷ 64 ∷ 80 ∷ 0 ∷ 0 ∷ 39 ∷ 3 ∷ 58 ∷ 97 ∷ 117 ∷ 116 ∷ 104 ∷ 111 ∷ 114 ∷ 105 ∷ 116 ∷ 121 ∷ 1 ∷ 104 ∷ 39 ∷ 0 ∷ 58 ∷ 109 ∷ 101 ∷ 116 ∷ 104 ∷ 111 ∷ 100 ∷ 7 ∷ 67 ∷ 79 ∷ 78 ∷ 78 ∷ 69 ∷ 67 ∷ 84 ∷ 37 ∷ 58 ∷ 112 ∷ 97 ∷ 116 ∷ 104 ∷ 1 ∷ 47 ∷ 39 ∷ 2 ∷ 58 ∷ 112 ∷ 114 ∷ 111 ∷ 116 ∷ 111 ∷ 99 ∷ 111 ∷ 108 ∷ 12 ∷ 119 ∷ 101 ∷ 98 ∷ 116 ∷ 114 ∷ 97 ∷ 110 ∷ 115 ∷ 112 ∷ 111 ∷ 114 ∷ 116 ∷ 39 ∷ 0 ∷ []) ∷ turns.End 0 ∷ [])) ≡ record { answers = (answer replies.Done ([]) ∷ answer replies.Done ([]) ∷ answer replies.Done ([]) ∷ []); is_all = true }
unfolding computed
end_106 = refl

pub end_107 : shown (1 ∷ 2 ∷ 3 ∷ []) (run Server (turns.Connected 9 9 1000 (facts.Limit 1200) ∷ turns.PeerBi ∷ turns.Bytes 0 (1 ∷ 64 ∷ 80 ∷ 0 ∷ 0 ∷ 39 ∷ 3 ∷ 58 ∷ 97 ∷ 117 ∷ 116 ∷ 104 ∷ 111 ∷ 114 ∷ 105 ∷ 116 ∷ 121 ∷ 1 ∷ 104 ∷ 39 ∷ 0 ∷ 58 ∷ 109 ∷ 101 ∷ 116 ∷ 104 ∷ 111 ∷ 100 ∷ 7 ∷ 67 ∷ 79 ∷ 78 ∷ 78 ∷ 69 ∷ 67 ∷ 84 ∷ 37 ∷ 58 ∷ 112 ∷ 97 ∷ 116 ∷ 104 ∷ 1 ∷ 47 ∷ 39 ∷ 2 ∷ 58 ∷ 112 ∷ 114 ∷ 111 ∷ 116 ∷ 111 ∷ 99 ∷ 111 ∷ 108 ∷ 12 ∷ 119 ∷ 101 ∷ 98 ∷ 116 ∷ 114 ∷ 97 ∷ 110 ∷ 115 ∷ 112 ∷ 111 ∷ 114 ∷ 116 ∷ 39 ∷ 0 ∷ 58 ∷ []) ∷ turns.End 0 ∷ [])) ≡ record { answers = (answer replies.Done ([]) ∷ answer replies.Done ([]) ∷ answer replies.Done ([]) ∷ []); is_all = true }
unfolding computed
end_107 = refl

pub end_108 : shown (1 ∷ 2 ∷ 3 ∷ []) (run Server (turns.Connected 9 9 1000 (facts.Limit 1200) ∷ turns.PeerBi ∷ turns.Bytes 0 (1 ∷ 64 ∷ 80 ∷ 0 ∷ 0 ∷ 39 ∷ 3 ∷ 58 ∷ 97 ∷ 117 ∷ 116 ∷ 104 ∷ 111 ∷ 114 ∷ 105 ∷ 116 ∷ 121 ∷ 1 ∷ 104 ∷ 39 ∷ 0 ∷ 58 ∷ 109 ∷ 101 ∷ 116 ∷ 104 ∷ 111 ∷ 100 ∷ 7 ∷ 67 ∷ 79 ∷ 78 ∷ 78 ∷ 69 ∷ 67 ∷ 84 ∷ 37 ∷ 58 ∷ 112 ∷ 97 ∷ 116 ∷ 104 ∷ 1 ∷ 47 ∷ 39 ∷ 2 ∷ 58 ∷ 112 ∷ 114 ∷ 111 ∷ 116 ∷ 111 ∷ 99 ∷ 111 ∷ 108 ∷ 12 ∷ 119 ∷ 101 ∷ 98 ∷ 116 ∷ 114 ∷ 97 ∷ 110 ∷ 115 ∷ 112 ∷ 111 ∷ 114 ∷ 116 ∷ 39 ∷ 0 ∷ 58 ∷ 115 ∷ []) ∷ turns.End 0 ∷ [])) ≡ record { answers = (answer replies.Done ([]) ∷ answer replies.Done ([]) ∷ answer replies.Done ([]) ∷ []); is_all = true }
unfolding computed
end_108 = refl

pub end_109 : shown (1 ∷ 2 ∷ 3 ∷ []) (run Server (turns.Connected 9 9 1000 (facts.Limit 1200) ∷ turns.PeerBi ∷ turns.Bytes 0 (1 ∷ 64 ∷ 80 ∷ 0 ∷ 0 ∷ 39 ∷ 3 ∷ 58 ∷ 97 ∷ 117 ∷ 116 ∷ 104 ∷ 111 ∷ 114 ∷ 105 ∷ 116 ∷ 121 ∷ 1 ∷ 104 ∷ 39 ∷ 0 ∷ 58 ∷ 109 ∷ 101 ∷ 116 ∷ 104 ∷ 111 ∷ 100 ∷ 7 ∷ 67 ∷ 79 ∷ 78 ∷ 78 ∷ 69 ∷ 67 ∷ 84 ∷ 37 ∷ 58 ∷ 112 ∷ 97 ∷ 116 ∷ 104 ∷ 1 ∷ 47 ∷ 39 ∷ 2 ∷ 58 ∷ 112 ∷ 114 ∷ 111 ∷ 116 ∷ 111 ∷ 99 ∷ 111 ∷ 108 ∷ 12 ∷ 119 ∷ 101 ∷ 98 ∷ 116 ∷ 114 ∷ 97 ∷ 110 ∷ 115 ∷ 112 ∷ 111 ∷ 114 ∷ 116 ∷ 39 ∷ 0 ∷ 58 ∷ 115 ∷ 99 ∷ []) ∷ turns.End 0 ∷ [])) ≡ record { answers = (answer replies.Done ([]) ∷ answer replies.Done ([]) ∷ answer replies.Done ([]) ∷ []); is_all = true }
unfolding computed
end_109 = refl

pub end_110 : shown (1 ∷ 2 ∷ 3 ∷ []) (run Server (turns.Connected 9 9 1000 (facts.Limit 1200) ∷ turns.PeerBi ∷ turns.Bytes 0 (1 ∷ 64 ∷ 80 ∷ 0 ∷ 0 ∷ 39 ∷ 3 ∷ 58 ∷ 97 ∷ 117 ∷ 116 ∷ 104 ∷ 111 ∷ 114 ∷ 105 ∷ 116 ∷ 121 ∷ 1 ∷ 104 ∷ 39 ∷ 0 ∷ 58 ∷ 109 ∷ 101 ∷ 116 ∷ 104 ∷ 111 ∷ 100 ∷ 7 ∷ 67 ∷ 79 ∷ 78 ∷ 78 ∷ 69 ∷ 67 ∷ 84 ∷ 37 ∷ 58 ∷ 112 ∷ 97 ∷ 116 ∷ 104 ∷ 1 ∷ 47 ∷ 39 ∷ 2 ∷ 58 ∷ 112 ∷ 114 ∷ 111 ∷ 116 ∷ 111 ∷ 99 ∷ 111 ∷ 108 ∷ 12 ∷ 119 ∷ 101 ∷ 98 ∷ 116 ∷ 114 ∷ 97 ∷ 110 ∷ 115 ∷ 112 ∷ 111 ∷ 114 ∷ 116 ∷ 39 ∷ 0 ∷ 58 ∷ 115 ∷ 99 ∷ 104 ∷ []) ∷ turns.End 0 ∷ [])) ≡ record { answers = (answer replies.Done ([]) ∷ answer replies.Done ([]) ∷ answer replies.Done ([]) ∷ []); is_all = true }
unfolding computed
end_110 = refl
