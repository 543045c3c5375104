-- Recorded sessions: what the definitions give is what was recorded. Made by `tools/meaning lemmas`.
use Rattle.std.specs.Prelude.{[], ◌∷◌, ◌≡◌, None, Some, false, pos, true}
use Rattle.std.proofs.Common.{refl}
use Rattle.wt_meaning.proofs.Recorded.{computed, parsed, shown}
use Rattle.wt_meaning.specs.Meaning.{run}
use Rattle.wt_meaning.specs.Rows.{answer}
use Rattle.wt_wire.specs.declared.side.Side.TheVariants.{Server}
use Rattle.wt_turn.specs.declared.action.Action.TheVariants as actions
use Rattle.wt_turn.specs.declared.call.Call.TheVariants as calls
use Rattle.wt_turn.specs.declared.connection_error.ConnectionError.TheVariants as errors
use Rattle.wt_turn.specs.declared.stream_error.StreamReadExactError.TheVariants as exacts
use Rattle.wt_turn.specs.declared.datagram_fact.DatagramFact.TheVariants as facts
use Rattle.wt_wire.specs.declared.error.ErrorCode.TheVariants as h3
use Rattle.wt_wire.specs.declared.lookup.Lookup.TheVariants as lookups
use Rattle.wt_wire.specs.declared.lookup.ConnectOutcome.TheVariants as outcomes
use Rattle.wt_turn.specs.declared.loss.LossReason.TheVariants as losses
use Rattle.wt_turn.specs.declared.stream_error.StreamOpeningError.TheVariants as openings
use Rattle.wt_turn.specs.declared.stream_error.StreamReadError.TheVariants as reads
use Rattle.wt_turn.specs.declared.reply.Reply.TheVariants as replies
use Rattle.wt_turn.specs.declared.turn.Turn.TheVariants as turns
use Rattle.wt_turn.specs.declared.stream_error.StreamWriteError.TheVariants as writes

pub end_111 : shown (1 ∷ 2 ∷ 3 ∷ []) (run Server (turns.Connected 9 9 1000 (facts.Limit 1200) ∷ turns.PeerBi ∷ turns.Bytes 0 (1 ∷ 64 ∷ 80 ∷ 0 ∷ 0 ∷ 39 ∷ 3 ∷ 58 ∷ 97 ∷ 117 ∷ 116 ∷ 104 ∷ 111 ∷ 114 ∷ 105 ∷ 116 ∷ 121 ∷ 1 ∷ 104 ∷ 39 ∷ 0 ∷ 58 ∷ 109 ∷ 101 ∷ 116 ∷ 104 ∷ 111 ∷ 100 ∷ 7 ∷ 67 ∷ 79 ∷ 78 ∷ 78 ∷ 69 ∷ 67 ∷ 84 ∷ 37 ∷ 58 ∷ 112 ∷ 97 ∷ 116 ∷ 104 ∷ 1 ∷ 47 ∷ 39 ∷ 2 ∷ 58 ∷ 112 ∷ 114 ∷ 111 ∷ 116 ∷ 111 ∷ 99 ∷ 111 ∷ 108 ∷ 12 ∷ 119 ∷ 101 ∷ 98 ∷ 116 ∷ 114 ∷ 97 ∷ 110 ∷ 115 ∷ 112 ∷ 111 ∷ 114 ∷ 116 ∷ 39 ∷ 0 ∷ 58 ∷ 115 ∷ 99 ∷ 104 ∷ 101 ∷ []) ∷ turns.End 0 ∷ [])) ≡ record { answers = (answer replies.Done ([]) ∷ answer replies.Done ([]) ∷ answer replies.Done ([]) ∷ []); is_all = true }
unfolding computed
end_111 = refl

pub end_112 : shown (1 ∷ 2 ∷ 3 ∷ []) (run Server (turns.Connected 9 9 1000 (facts.Limit 1200) ∷ turns.PeerBi ∷ turns.Bytes 0 (1 ∷ 64 ∷ 80 ∷ 0 ∷ 0 ∷ 39 ∷ 3 ∷ 58 ∷ 97 ∷ 117 ∷ 116 ∷ 104 ∷ 111 ∷ 114 ∷ 105 ∷ 116 ∷ 121 ∷ 1 ∷ 104 ∷ 39 ∷ 0 ∷ 58 ∷ 109 ∷ 101 ∷ 116 ∷ 104 ∷ 111 ∷ 100 ∷ 7 ∷ 67 ∷ 79 ∷ 78 ∷ 78 ∷ 69 ∷ 67 ∷ 84 ∷ 37 ∷ 58 ∷ 112 ∷ 97 ∷ 116 ∷ 104 ∷ 1 ∷ 47 ∷ 39 ∷ 2 ∷ 58 ∷ 112 ∷ 114 ∷ 111 ∷ 116 ∷ 111 ∷ 99 ∷ 111 ∷ 108 ∷ 12 ∷ 119 ∷ 101 ∷ 98 ∷ 116 ∷ 114 ∷ 97 ∷ 110 ∷ 115 ∷ 112 ∷ 111 ∷ 114 ∷ 116 ∷ 39 ∷ 0 ∷ 58 ∷ 115 ∷ 99 ∷ 104 ∷ 101 ∷ 109 ∷ []) ∷ turns.End 0 ∷ [])) ≡ record { answers = (answer replies.Done ([]) ∷ answer replies.Done ([]) ∷ answer replies.Done ([]) ∷ []); is_all = true }
unfolding computed
end_112 = refl

pub end_113 : shown (1 ∷ 2 ∷ 3 ∷ []) (run Server (turns.Connected 9 9 1000 (facts.Limit 1200) ∷ turns.PeerBi ∷ turns.Bytes 0 (1 ∷ 64 ∷ 80 ∷ 0 ∷ 0 ∷ 39 ∷ 3 ∷ 58 ∷ 97 ∷ 117 ∷ 116 ∷ 104 ∷ 111 ∷ 114 ∷ 105 ∷ 116 ∷ 121 ∷ 1 ∷ 104 ∷ 39 ∷ 0 ∷ 58 ∷ 109 ∷ 101 ∷ 116 ∷ 104 ∷ 111 ∷ 100 ∷ 7 ∷ 67 ∷ 79 ∷ 78 ∷ 78 ∷ 69 ∷ 67 ∷ 84 ∷ 37 ∷ 58 ∷ 112 ∷ 97 ∷ 116 ∷ 104 ∷ 1 ∷ 47 ∷ 39 ∷ 2 ∷ 58 ∷ 112 ∷ 114 ∷ 111 ∷ 116 ∷ 111 ∷ 99 ∷ 111 ∷ 108 ∷ 12 ∷ 119 ∷ 101 ∷ 98 ∷ 116 ∷ 114 ∷ 97 ∷ 110 ∷ 115 ∷ 112 ∷ 111 ∷ 114 ∷ 116 ∷ 39 ∷ 0 ∷ 58 ∷ 115 ∷ 99 ∷ 104 ∷ 101 ∷ 109 ∷ 101 ∷ []) ∷ turns.End 0 ∷ [])) ≡ record { answers = (answer replies.Done ([]) ∷ answer replies.Done ([]) ∷ answer replies.Done ([]) ∷ []); is_all = true }
unfolding computed
end_113 = refl

pub end_114 : shown (1 ∷ 2 ∷ 3 ∷ []) (run Server (turns.Connected 9 9 1000 (facts.Limit 1200) ∷ turns.PeerBi ∷ turns.Bytes 0 (1 ∷ 64 ∷ 80 ∷ 0 ∷ 0 ∷ 39 ∷ 3 ∷ 58 ∷ 97 ∷ 117 ∷ 116 ∷ 104 ∷ 111 ∷ 114 ∷ 105 ∷ 116 ∷ 121 ∷ 1 ∷ 104 ∷ 39 ∷ 0 ∷ 58 ∷ 109 ∷ 101 ∷ 116 ∷ 104 ∷ 111 ∷ 100 ∷ 7 ∷ 67 ∷ 79 ∷ 78 ∷ 78 ∷ 69 ∷ 67 ∷ 84 ∷ 37 ∷ 58 ∷ 112 ∷ 97 ∷ 116 ∷ 104 ∷ 1 ∷ 47 ∷ 39 ∷ 2 ∷ 58 ∷ 112 ∷ 114 ∷ 111 ∷ 116 ∷ 111 ∷ 99 ∷ 111 ∷ 108 ∷ 12 ∷ 119 ∷ 101 ∷ 98 ∷ 116 ∷ 114 ∷ 97 ∷ 110 ∷ 115 ∷ 112 ∷ 111 ∷ 114 ∷ 116 ∷ 39 ∷ 0 ∷ 58 ∷ 115 ∷ 99 ∷ 104 ∷ 101 ∷ 109 ∷ 101 ∷ 5 ∷ []) ∷ turns.End 0 ∷ [])) ≡ record { answers = (answer replies.Done ([]) ∷ answer replies.Done ([]) ∷ answer replies.Done ([]) ∷ []); is_all = true }
unfolding computed
end_114 = refl

pub end_115 : shown (1 ∷ 2 ∷ 3 ∷ []) (run Server (turns.Connected 9 9 1000 (facts.Limit 1200) ∷ turns.PeerBi ∷ turns.Bytes 0 (1 ∷ 64 ∷ 80 ∷ 0 ∷ 0 ∷ 39 ∷ 3 ∷ 58 ∷ 97 ∷ 117 ∷ 116 ∷ 104 ∷ 111 ∷ 114 ∷ 105 ∷ 116 ∷ 121 ∷ 1 ∷ 104 ∷ 39 ∷ 0 ∷ 58 ∷ 109 ∷ 101 ∷ 116 ∷ 104 ∷ 111 ∷ 100 ∷ 7 ∷ 67 ∷ 79 ∷ 78 ∷ 78 ∷ 69 ∷ 67 ∷ 84 ∷ 37 ∷ 58 ∷ 112 ∷ 97 ∷ 116 ∷ 104 ∷ 1 ∷ 47 ∷ 39 ∷ 2 ∷ 58 ∷ 112 ∷ 114 ∷ 111 ∷ 116 ∷ 111 ∷ 99 ∷ 111 ∷ 108 ∷ 12 ∷ 119 ∷ 101 ∷ 98 ∷ 116 ∷ 114 ∷ 97 ∷ 110 ∷ 115 ∷ 112 ∷ 111 ∷ 114 ∷ 116 ∷ 39 ∷ 0 ∷ 58 ∷ 115 ∷ 99 ∷ 104 ∷ 101 ∷ 109 ∷ 101 ∷ 5 ∷ 104 ∷ []) ∷ turns.End 0 ∷ [])) ≡ record { answers = (answer replies.Done ([]) ∷ answer replies.Done ([]) ∷ answer replies.Done ([]) ∷ []); is_all = true }
unfolding computed
end_115 = refl

pub end_116 : shown (1 ∷ 2 ∷ 3 ∷ []) (run Server (turns.Connected 9 9 1000 (facts.Limit 1200) ∷ turns.PeerBi ∷ turns.Bytes 0 (1 ∷ 64 ∷ 80 ∷ 0 ∷ 0 ∷ 39 ∷ 3 ∷ 58 ∷ 97 ∷ 117 ∷ 116 ∷ 104 ∷ 111 ∷ 114 ∷ 105 ∷ 116 ∷ 121 ∷ 1 ∷ 104 ∷ 39 ∷ 0 ∷ 58 ∷ 109 ∷ 101 ∷ 116 ∷ 104 ∷ 111 ∷ 100 ∷ 7 ∷ 67 ∷ 79 ∷ 78 ∷ 78 ∷ 69 ∷ 67 ∷ 84 ∷ 37 ∷ 58 ∷ 112 ∷ 97 ∷ 116 ∷ 104 ∷ 1 ∷ 47 ∷ 39 ∷ 2 ∷ 58 ∷ 112 ∷ 114 ∷ 111 ∷ 116 ∷ 111 ∷ 99 ∷ 111 ∷ 108 ∷ 12 ∷ 119 ∷ 101 ∷ 98 ∷ 116 ∷ 114 ∷ 97 ∷ 110 ∷ 115 ∷ 112 ∷ 111 ∷ 114 ∷ 116 ∷ 39 ∷ 0 ∷ 58 ∷ 115 ∷ 99 ∷ 104 ∷ 101 ∷ 109 ∷ 101 ∷ 5 ∷ 104 ∷ 116 ∷ []) ∷ turns.End 0 ∷ [])) ≡ record { answers = (answer replies.Done ([]) ∷ answer replies.Done ([]) ∷ answer replies.Done ([]) ∷ []); is_all = true }
unfolding computed
end_116 = refl

pub end_117 : shown (1 ∷ 2 ∷ 3 ∷ []) (run Server (turns.Connected 9 9 1000 (facts.Limit 1200) ∷ turns.PeerBi ∷ turns.Bytes 0 (1 ∷ 64 ∷ 80 ∷ 0 ∷ 0 ∷ 39 ∷ 3 ∷ 58 ∷ 97 ∷ 117 ∷ 116 ∷ 104 ∷ 111 ∷ 114 ∷ 105 ∷ 116 ∷ 121 ∷ 1 ∷ 104 ∷ 39 ∷ 0 ∷ 58 ∷ 109 ∷ 101 ∷ 116 ∷ 104 ∷ 111 ∷ 100 ∷ 7 ∷ 67 ∷ 79 ∷ 78 ∷ 78 ∷ 69 ∷ 67 ∷ 84 ∷ 37 ∷ 58 ∷ 112 ∷ 97 ∷ 116 ∷ 104 ∷ 1 ∷ 47 ∷ 39 ∷ 2 ∷ 58 ∷ 112 ∷ 114 ∷ 111 ∷ 116 ∷ 111 ∷ 99 ∷ 111 ∷ 108 ∷ 12 ∷ 119 ∷ 101 ∷ 98 ∷ 116 ∷ 114 ∷ 97 ∷ 110 ∷ 115 ∷ 112 ∷ 111 ∷ 114 ∷ 116 ∷ 39 ∷ 0 ∷ 58 ∷ 115 ∷ 99 ∷ 104 ∷ 101 ∷ 109 ∷ 101 ∷ 5 ∷ 104 ∷ 116 ∷ 116 ∷ []) ∷ turns.End 0 ∷ [])) ≡ record { answers = (answer replies.Done ([]) ∷ answer replies.Done ([]) ∷ answer replies.Done ([]) ∷ []); is_all = true }
unfolding computed
end_117 = refl

pub end_118 : shown (1 ∷ 2 ∷ 3 ∷ []) (run Server (turns.Connected 9 9 1000 (facts.Limit 1200) ∷ turns.PeerBi ∷ turns.Bytes 0 (1 ∷ 64 ∷ 80 ∷ 0 ∷ 0 ∷ 39 ∷ 3 ∷ 58 ∷ 97 ∷ 117 ∷ 116 ∷ 104 ∷ 111 ∷ 114 ∷ 105 ∷ 116 ∷ 121 ∷ 1 ∷ 104 ∷ 39 ∷ 0 ∷ 58 ∷ 109 ∷ 101 ∷ 116 ∷ 104 ∷ 111 ∷ 100 ∷ 7 ∷ 67 ∷ 79 ∷ 78 ∷ 78 ∷ 69 ∷ 67 ∷ 84 ∷ 37 ∷ 58 ∷ 112 ∷ 97 ∷ 116 ∷ 104 ∷ 1 ∷ 47 ∷ 39 ∷ 2 ∷ 58 ∷ 112 ∷ 114 ∷ 111 ∷ 116 ∷ 111 ∷ 99 ∷ 111 ∷ 108 ∷ 12 ∷ 119 ∷ 101 ∷ 98 ∷ 116 ∷ 114 ∷ 97 ∷ 110 ∷ 115 ∷ 112 ∷ 111 ∷ 114 ∷ 116 ∷ 39 ∷ 0 ∷ 58 ∷ 115 ∷ 99 ∷ 104 ∷ 101 ∷ 109 ∷ 101 ∷ 5 ∷ 104 ∷ 116 ∷ 116 ∷ 112 ∷ []) ∷ turns.End 0 ∷ [])) ≡ record { answers = (answer replies.Done ([]) ∷ answer replies.Done ([]) ∷ answer replies.Done ([]) ∷ []); is_all = true }
unfolding computed
end_118 = refl

pub accept_119 : run Server (turns.Connected 9 9 1000 (facts.Limit 1200) ∷ turns.PeerUni ∷ turns.Bytes 2 (0 ∷ 4 ∷ 0 ∷ []) ∷ turns.PeerBi ∷ turns.Bytes 0 (1 ∷ 64 ∷ 80 ∷ 0 ∷ 0 ∷ 39 ∷ 3 ∷ 58 ∷ 97 ∷ 117 ∷ 116 ∷ 104 ∷ 111 ∷ 114 ∷ 105 ∷ 116 ∷ 121 ∷ 1 ∷ 104 ∷ 39 ∷ 0 ∷ 58 ∷ 109 ∷ 101 ∷ 116 ∷ 104 ∷ 111 ∷ 100 ∷ 7 ∷ 67 ∷ 79 ∷ 78 ∷ 78 ∷ 69 ∷ 67 ∷ 84 ∷ 37 ∷ 58 ∷ 112 ∷ 97 ∷ 116 ∷ 104 ∷ 1 ∷ 47 ∷ 39 ∷ 2 ∷ 58 ∷ 112 ∷ 114 ∷ 111 ∷ 116 ∷ 111 ∷ 99 ∷ 111 ∷ 108 ∷ 12 ∷ 119 ∷ 101 ∷ 98 ∷ 116 ∷ 114 ∷ 97 ∷ 110 ∷ 115 ∷ 112 ∷ 111 ∷ 114 ∷ 116 ∷ 39 ∷ 0 ∷ 58 ∷ 115 ∷ 99 ∷ 104 ∷ 101 ∷ 109 ∷ 101 ∷ 5 ∷ 104 ∷ 116 ∷ 116 ∷ 112 ∷ 115 ∷ []) ∷ turns.Call calls.Incoming ∷ turns.Call (calls.Accept ([])) ∷ []) ≡ record { answers = (answer replies.Done (actions.Opened 3 ∷ actions.Send 3 (0 ∷ 4 ∷ 22 ∷ 1 ∷ 0 ∷ 7 ∷ 0 ∷ 8 ∷ 1 ∷ 51 ∷ 1 ∷ 171 ∷ 96 ∷ 55 ∷ 66 ∷ 1 ∷ 192 ∷ 0 ∷ 0 ∷ 0 ∷ 198 ∷ 113 ∷ 112 ∷ 106 ∷ 4 ∷ []) ∷ []) ∷ answer replies.Done ([]) ∷ answer replies.Done ([]) ∷ answer replies.Done ([]) ∷ answer replies.Done ([]) ∷ answer (replies.Request 0 (((58 ∷ 97 ∷ 117 ∷ 116 ∷ 104 ∷ 111 ∷ 114 ∷ 105 ∷ 116 ∷ 121 ∷ []), (104 ∷ [])) ∷ ((58 ∷ 109 ∷ 101 ∷ 116 ∷ 104 ∷ 111 ∷ 100 ∷ []), (67 ∷ 79 ∷ 78 ∷ 78 ∷ 69 ∷ 67 ∷ 84 ∷ [])) ∷ ((58 ∷ 112 ∷ 97 ∷ 116 ∷ 104 ∷ []), (47 ∷ [])) ∷ ((58 ∷ 112 ∷ 114 ∷ 111 ∷ 116 ∷ 111 ∷ 99 ∷ 111 ∷ 108 ∷ []), (119 ∷ 101 ∷ 98 ∷ 116 ∷ 114 ∷ 97 ∷ 110 ∷ 115 ∷ 112 ∷ 111 ∷ 114 ∷ 116 ∷ [])) ∷ ((58 ∷ 115 ∷ 99 ∷ 104 ∷ 101 ∷ 109 ∷ 101 ∷ []), (104 ∷ 116 ∷ 116 ∷ 112 ∷ 115 ∷ [])) ∷ [])) ([]) ∷ answer (replies.Session 0) (actions.Send 0 (1 ∷ 15 ∷ 0 ∷ 0 ∷ 39 ∷ 0 ∷ 58 ∷ 115 ∷ 116 ∷ 97 ∷ 116 ∷ 117 ∷ 115 ∷ 3 ∷ 50 ∷ 48 ∷ 48 ∷ []) ∷ []) ∷ []); is_all = true }
unfolding computed
accept_119 = refl

pub incoming_120 : shown (3 ∷ 6 ∷ []) (run Server (turns.Connected 9 9 1000 (facts.Limit 1200) ∷ turns.PeerBi ∷ turns.Bytes 0 (1 ∷ 64 ∷ 80 ∷ 0 ∷ 0 ∷ 39 ∷ 3 ∷ 58 ∷ 97 ∷ 117 ∷ 116 ∷ 104 ∷ 111 ∷ 114 ∷ 105 ∷ 116 ∷ 121 ∷ 1 ∷ 104 ∷ 39 ∷ 0 ∷ 58 ∷ 109 ∷ 101 ∷ 116 ∷ 104 ∷ 111 ∷ 100 ∷ 7 ∷ 67 ∷ 79 ∷ 78 ∷ 78 ∷ 69 ∷ 67 ∷ 84 ∷ 37 ∷ 58 ∷ 112 ∷ 97 ∷ 116 ∷ 104 ∷ 1 ∷ 47 ∷ 39 ∷ 2 ∷ 58 ∷ 112 ∷ 114 ∷ 111 ∷ 116 ∷ 111 ∷ 99 ∷ 111 ∷ 108 ∷ 12 ∷ 119 ∷ 101 ∷ 98 ∷ 116 ∷ 114 ∷ 97 ∷ 110 ∷ 115 ∷ 112 ∷ 111 ∷ 114 ∷ 116 ∷ 39 ∷ 0 ∷ 58 ∷ 115 ∷ 99 ∷ 104 ∷ 101 ∷ 109 ∷ 101 ∷ 5 ∷ 104 ∷ 116 ∷ 116 ∷ 112 ∷ 115 ∷ []) ∷ turns.Call calls.Incoming ∷ turns.PeerUni ∷ turns.Bytes 2 (0 ∷ 4 ∷ 0 ∷ []) ∷ turns.Call calls.Incoming ∷ [])) ≡ record { answers = (answer replies.Pending ([]) ∷ answer (replies.Request 0 (((58 ∷ 97 ∷ 117 ∷ 116 ∷ 104 ∷ 111 ∷ 114 ∷ 105 ∷ 116 ∷ 121 ∷ []), (104 ∷ [])) ∷ ((58 ∷ 109 ∷ 101 ∷ 116 ∷ 104 ∷ 111 ∷ 100 ∷ []), (67 ∷ 79 ∷ 78 ∷ 78 ∷ 69 ∷ 67 ∷ 84 ∷ [])) ∷ ((58 ∷ 112 ∷ 97 ∷ 116 ∷ 104 ∷ []), (47 ∷ [])) ∷ ((58 ∷ 112 ∷ 114 ∷ 111 ∷ 116 ∷ 111 ∷ 99 ∷ 111 ∷ 108 ∷ []), (119 ∷ 101 ∷ 98 ∷ 116 ∷ 114 ∷ 97 ∷ 110 ∷ 115 ∷ 112 ∷ 111 ∷ 114 ∷ 116 ∷ [])) ∷ ((58 ∷ 115 ∷ 99 ∷ 104 ∷ 101 ∷ 109 ∷ 101 ∷ []), (104 ∷ 116 ∷ 116 ∷ 112 ∷ 115 ∷ [])) ∷ [])) ([]) ∷ []); is_all = true }
unfolding computed
incoming_120 = refl

pub open_uni_121 : shown (7 ∷ []) (run Server (turns.Connected 1 9 1000 (facts.Limit 1200) ∷ turns.PeerUni ∷ turns.Bytes 2 (0 ∷ 4 ∷ 0 ∷ []) ∷ turns.PeerBi ∷ turns.Bytes 0 (1 ∷ 64 ∷ 80 ∷ 0 ∷ 0 ∷ 39 ∷ 3 ∷ 58 ∷ 97 ∷ 117 ∷ 116 ∷ 104 ∷ 111 ∷ 114 ∷ 105 ∷ 116 ∷ 121 ∷ 1 ∷ 104 ∷ 39 ∷ 0 ∷ 58 ∷ 109 ∷ 101 ∷ 116 ∷ 104 ∷ 111 ∷ 100 ∷ 7 ∷ 67 ∷ 79 ∷ 78 ∷ 78 ∷ 69 ∷ 67 ∷ 84 ∷ 37 ∷ 58 ∷ 112 ∷ 97 ∷ 116 ∷ 104 ∷ 1 ∷ 47 ∷ 39 ∷ 2 ∷ 58 ∷ 112 ∷ 114 ∷ 111 ∷ 116 ∷ 111 ∷ 99 ∷ 111 ∷ 108 ∷ 12 ∷ 119 ∷ 101 ∷ 98 ∷ 116 ∷ 114 ∷ 97 ∷ 110 ∷ 115 ∷ 112 ∷ 111 ∷ 114 ∷ 116 ∷ 39 ∷ 0 ∷ 58 ∷ 115 ∷ 99 ∷ 104 ∷ 101 ∷ 109 ∷ 101 ∷ 5 ∷ 104 ∷ 116 ∷ 116 ∷ 112 ∷ 115 ∷ []) ∷ turns.Call calls.Incoming ∷ turns.Call (calls.Accept ([])) ∷ turns.Call (calls.OpenUni None) ∷ [])) ≡ record { answers = (answer replies.Pending ([]) ∷ []); is_all = true }
unfolding computed
open_uni_121 = refl

pub max_uni_122 : shown (0 ∷ 1 ∷ 2 ∷ 3 ∷ 4 ∷ 5 ∷ 6 ∷ []) (run Server (turns.Connected 9 9 1000 (facts.Limit 1200) ∷ turns.PeerUni ∷ turns.Bytes 2 (0 ∷ 4 ∷ 0 ∷ []) ∷ turns.PeerBi ∷ turns.Bytes 0 (1 ∷ 64 ∷ 80 ∷ 0 ∷ 0 ∷ 39 ∷ 3 ∷ 58 ∷ 97 ∷ 117 ∷ 116 ∷ 104 ∷ 111 ∷ 114 ∷ 105 ∷ 116 ∷ 121 ∷ 1 ∷ 104 ∷ 39 ∷ 0 ∷ 58 ∷ 109 ∷ 101 ∷ 116 ∷ 104 ∷ 111 ∷ 100 ∷ 7 ∷ 67 ∷ 79 ∷ 78 ∷ 78 ∷ 69 ∷ 67 ∷ 84 ∷ 37 ∷ 58 ∷ 112 ∷ 97 ∷ 116 ∷ 104 ∷ 1 ∷ 47 ∷ 39 ∷ 2 ∷ 58 ∷ 112 ∷ 114 ∷ 111 ∷ 116 ∷ 111 ∷ 99 ∷ 111 ∷ 108 ∷ 12 ∷ 119 ∷ 101 ∷ 98 ∷ 116 ∷ 114 ∷ 97 ∷ 110 ∷ 115 ∷ 112 ∷ 111 ∷ 114 ∷ 116 ∷ 39 ∷ 0 ∷ 58 ∷ 115 ∷ 99 ∷ 104 ∷ 101 ∷ 109 ∷ 101 ∷ 5 ∷ 104 ∷ 116 ∷ 116 ∷ 112 ∷ 115 ∷ []) ∷ turns.Call calls.Incoming ∷ turns.Call (calls.Accept ([])) ∷ turns.MaxUni 8 ∷ [])) ≡ record { answers = (answer replies.Done (actions.Opened 3 ∷ actions.Send 3 (0 ∷ 4 ∷ 22 ∷ 1 ∷ 0 ∷ 7 ∷ 0 ∷ 8 ∷ 1 ∷ 51 ∷ 1 ∷ 171 ∷ 96 ∷ 55 ∷ 66 ∷ 1 ∷ 192 ∷ 0 ∷ 0 ∷ 0 ∷ 198 ∷ 113 ∷ 112 ∷ 106 ∷ 4 ∷ []) ∷ []) ∷ answer replies.Done ([]) ∷ answer replies.Done ([]) ∷ answer replies.Done ([]) ∷ answer replies.Done ([]) ∷ answer (replies.Request 0 (((58 ∷ 97 ∷ 117 ∷ 116 ∷ 104 ∷ 111 ∷ 114 ∷ 105 ∷ 116 ∷ 121 ∷ []), (104 ∷ [])) ∷ ((58 ∷ 109 ∷ 101 ∷ 116 ∷ 104 ∷ 111 ∷ 100 ∷ []), (67 ∷ 79 ∷ 78 ∷ 78 ∷ 69 ∷ 67 ∷ 84 ∷ [])) ∷ ((58 ∷ 112 ∷ 97 ∷ 116 ∷ 104 ∷ []), (47 ∷ [])) ∷ ((58 ∷ 112 ∷ 114 ∷ 111 ∷ 116 ∷ 111 ∷ 99 ∷ 111 ∷ 108 ∷ []), (119 ∷ 101 ∷ 98 ∷ 116 ∷ 114 ∷ 97 ∷ 110 ∷ 115 ∷ 112 ∷ 111 ∷ 114 ∷ 116 ∷ [])) ∷ ((58 ∷ 115 ∷ 99 ∷ 104 ∷ 101 ∷ 109 ∷ 101 ∷ []), (104 ∷ 116 ∷ 116 ∷ 112 ∷ 115 ∷ [])) ∷ [])) ([]) ∷ answer (replies.Session 0) (actions.Send 0 (1 ∷ 15 ∷ 0 ∷ 0 ∷ 39 ∷ 0 ∷ 58 ∷ 115 ∷ 116 ∷ 97 ∷ 116 ∷ 117 ∷ 115 ∷ 3 ∷ 50 ∷ 48 ∷ 48 ∷ []) ∷ []) ∷ []); is_all = false }
unfolding computed
max_uni_122 = refl

pub bytes_123 : shown (7 ∷ []) (run Server (turns.Connected 9 9 1000 (facts.Limit 1200) ∷ turns.PeerUni ∷ turns.Bytes 2 (0 ∷ 4 ∷ 0 ∷ []) ∷ turns.PeerBi ∷ turns.Bytes 0 (1 ∷ 64 ∷ 80 ∷ 0 ∷ 0 ∷ 39 ∷ 3 ∷ 58 ∷ 97 ∷ 117 ∷ 116 ∷ 104 ∷ 111 ∷ 114 ∷ 105 ∷ 116 ∷ 121 ∷ 1 ∷ 104 ∷ 39 ∷ 0 ∷ 58 ∷ 109 ∷ 101 ∷ 116 ∷ 104 ∷ 111 ∷ 100 ∷ 7 ∷ 67 ∷ 79 ∷ 78 ∷ 78 ∷ 69 ∷ 67 ∷ 84 ∷ 37 ∷ 58 ∷ 112 ∷ 97 ∷ 116 ∷ 104 ∷ 1 ∷ 47 ∷ 39 ∷ 2 ∷ 58 ∷ 112 ∷ 114 ∷ 111 ∷ 116 ∷ 111 ∷ 99 ∷ 111 ∷ 108 ∷ 12 ∷ 119 ∷ 101 ∷ 98 ∷ 116 ∷ 114 ∷ 97 ∷ 110 ∷ 115 ∷ 112 ∷ 111 ∷ 114 ∷ 116 ∷ 39 ∷ 0 ∷ 58 ∷ 115 ∷ 99 ∷ 104 ∷ 101 ∷ 109 ∷ 101 ∷ 5 ∷ 104 ∷ 116 ∷ 116 ∷ 112 ∷ 115 ∷ []) ∷ turns.Call calls.Incoming ∷ turns.Call (calls.Accept ([])) ∷ turns.Bytes 0 (0 ∷ 80 ∷ 1 ∷ []) ∷ [])) ≡ record { answers = (answer replies.Done ([]) ∷ []); is_all = true }
unfolding computed
bytes_123 = refl

pub end_124 : shown (8 ∷ []) (run Server (turns.Connected 9 9 1000 (facts.Limit 1200) ∷ turns.PeerUni ∷ turns.Bytes 2 (0 ∷ 4 ∷ 0 ∷ []) ∷ turns.PeerBi ∷ turns.Bytes 0 (1 ∷ 64 ∷ 80 ∷ 0 ∷ 0 ∷ 39 ∷ 3 ∷ 58 ∷ 97 ∷ 117 ∷ 116 ∷ 104 ∷ 111 ∷ 114 ∷ 105 ∷ 116 ∷ 121 ∷ 1 ∷ 104 ∷ 39 ∷ 0 ∷ 58 ∷ 109 ∷ 101 ∷ 116 ∷ 104 ∷ 111 ∷ 100 ∷ 7 ∷ 67 ∷ 79 ∷ 78 ∷ 78 ∷ 69 ∷ 67 ∷ 84 ∷ 37 ∷ 58 ∷ 112 ∷ 97 ∷ 116 ∷ 104 ∷ 1 ∷ 47 ∷ 39 ∷ 2 ∷ 58 ∷ 112 ∷ 114 ∷ 111 ∷ 116 ∷ 111 ∷ 99 ∷ 111 ∷ 108 ∷ 12 ∷ 119 ∷ 101 ∷ 98 ∷ 116 ∷ 114 ∷ 97 ∷ 110 ∷ 115 ∷ 112 ∷ 111 ∷ 114 ∷ 116 ∷ 39 ∷ 0 ∷ 58 ∷ 115 ∷ 99 ∷ 104 ∷ 101 ∷ 109 ∷ 101 ∷ 5 ∷ 104 ∷ 116 ∷ 116 ∷ 112 ∷ 115 ∷ []) ∷ turns.Call calls.Incoming ∷ turns.Call (calls.Accept ([])) ∷ turns.Bytes 0 (0 ∷ []) ∷ turns.End 0 ∷ [])) ≡ record { answers = (answer replies.Done (actions.Close 260 ([]) ∷ []) ∷ []); is_all = true }
unfolding computed
end_124 = refl

pub bytes_125 : shown (7 ∷ []) (run Server (turns.Connected 9 9 1000 (facts.Limit 1200) ∷ turns.PeerUni ∷ turns.Bytes 2 (0 ∷ 4 ∷ 0 ∷ []) ∷ turns.PeerBi ∷ turns.Bytes 0 (1 ∷ 64 ∷ 80 ∷ 0 ∷ 0 ∷ 39 ∷ 3 ∷ 58 ∷ 97 ∷ 117 ∷ 116 ∷ 104 ∷ 111 ∷ 114 ∷ 105 ∷ 116 ∷ 121 ∷ 1 ∷ 104 ∷ 39 ∷ 0 ∷ 58 ∷ 109 ∷ 101 ∷ 116 ∷ 104 ∷ 111 ∷ 100 ∷ 7 ∷ 67 ∷ 79 ∷ 78 ∷ 78 ∷ 69 ∷ 67 ∷ 84 ∷ 37 ∷ 58 ∷ 112 ∷ 97 ∷ 116 ∷ 104 ∷ 1 ∷ 47 ∷ 39 ∷ 2 ∷ 58 ∷ 112 ∷ 114 ∷ 111 ∷ 116 ∷ 111 ∷ 99 ∷ 111 ∷ 108 ∷ 12 ∷ 119 ∷ 101 ∷ 98 ∷ 116 ∷ 114 ∷ 97 ∷ 110 ∷ 115 ∷ 112 ∷ 111 ∷ 114 ∷ 116 ∷ 39 ∷ 0 ∷ 58 ∷ 115 ∷ 99 ∷ 104 ∷ 101 ∷ 109 ∷ 101 ∷ 5 ∷ 104 ∷ 116 ∷ 116 ∷ 112 ∷ 115 ∷ []) ∷ turns.Call calls.Incoming ∷ turns.Call (calls.Accept ([])) ∷ turns.End 2 ∷ turns.Bytes 2 (97 ∷ []) ∷ [])) ≡ record { answers = (answer replies.Done (actions.Close 260 ([]) ∷ []) ∷ []); is_all = false }
unfolding computed
bytes_125 = refl

pub handshake_126 : shown (6 ∷ 8 ∷ []) (run Server (turns.Connected 9 9 1000 (facts.Limit 1200) ∷ turns.PeerUni ∷ turns.Bytes 2 (0 ∷ 4 ∷ 0 ∷ []) ∷ turns.PeerBi ∷ turns.Bytes 0 (1 ∷ 64 ∷ 80 ∷ 0 ∷ 0 ∷ 39 ∷ 3 ∷ 58 ∷ 97 ∷ 117 ∷ 116 ∷ 104 ∷ 111 ∷ 114 ∷ 105 ∷ 116 ∷ 121 ∷ 1 ∷ 104 ∷ 39 ∷ 0 ∷ 58 ∷ 109 ∷ 101 ∷ 116 ∷ 104 ∷ 111 ∷ 100 ∷ 7 ∷ 67 ∷ 79 ∷ 78 ∷ 78 ∷ 69 ∷ 67 ∷ 84 ∷ 37 ∷ 58 ∷ 112 ∷ 97 ∷ 116 ∷ 104 ∷ 1 ∷ 47 ∷ 39 ∷ 2 ∷ 58 ∷ 112 ∷ 114 ∷ 111 ∷ 116 ∷ 111 ∷ 99 ∷ 111 ∷ 108 ∷ 12 ∷ 119 ∷ 101 ∷ 98 ∷ 116 ∷ 114 ∷ 97 ∷ 110 ∷ 115 ∷ 112 ∷ 111 ∷ 114 ∷ 116 ∷ 39 ∷ 0 ∷ 58 ∷ 115 ∷ 99 ∷ 104 ∷ 101 ∷ 109 ∷ 101 ∷ 5 ∷ 104 ∷ 116 ∷ 116 ∷ 112 ∷ 115 ∷ []) ∷ turns.Call calls.Incoming ∷ turns.Call calls.Forbidden ∷ turns.Acked 0 ∷ turns.Call calls.Handshake ∷ [])) ≡ record { answers = (answer replies.Pending (actions.Send 0 (1 ∷ 15 ∷ 0 ∷ 0 ∷ 39 ∷ 0 ∷ 58 ∷ 115 ∷ 116 ∷ 97 ∷ 116 ∷ 117 ∷ 115 ∷ 3 ∷ 52 ∷ 48 ∷ 51 ∷ []) ∷ actions.Finish 0 ∷ []) ∷ answer replies.Rejected (actions.Close 0 ([]) ∷ []) ∷ []); is_all = true }
unfolding computed
handshake_126 = refl

pub loss_127 : shown (7 ∷ []) (run Server (turns.Connected 9 9 1000 (facts.Limit 1200) ∷ turns.PeerUni ∷ turns.Bytes 2 (0 ∷ 4 ∷ 0 ∷ []) ∷ turns.PeerBi ∷ turns.Bytes 0 (1 ∷ 64 ∷ 80 ∷ 0 ∷ 0 ∷ 39 ∷ 3 ∷ 58 ∷ 97 ∷ 117 ∷ 116 ∷ 104 ∷ 111 ∷ 114 ∷ 105 ∷ 116 ∷ 121 ∷ 1 ∷ 104 ∷ 39 ∷ 0 ∷ 58 ∷ 109 ∷ 101 ∷ 116 ∷ 104 ∷ 111 ∷ 100 ∷ 7 ∷ 67 ∷ 79 ∷ 78 ∷ 78 ∷ 69 ∷ 67 ∷ 84 ∷ 37 ∷ 58 ∷ 112 ∷ 97 ∷ 116 ∷ 104 ∷ 1 ∷ 47 ∷ 39 ∷ 2 ∷ 58 ∷ 112 ∷ 114 ∷ 111 ∷ 116 ∷ 111 ∷ 99 ∷ 111 ∷ 108 ∷ 12 ∷ 119 ∷ 101 ∷ 98 ∷ 116 ∷ 114 ∷ 97 ∷ 110 ∷ 115 ∷ 112 ∷ 111 ∷ 114 ∷ 116 ∷ 39 ∷ 0 ∷ 58 ∷ 115 ∷ 99 ∷ 104 ∷ 101 ∷ 109 ∷ 101 ∷ 5 ∷ 104 ∷ 116 ∷ 116 ∷ 112 ∷ 115 ∷ []) ∷ turns.Call calls.Incoming ∷ turns.Call (calls.Accept ([])) ∷ turns.Loss losses.Reset ∷ turns.Loss losses.Reset ∷ [])) ≡ record { answers = (answer replies.Done ([]) ∷ []); is_all = false }
unfolding computed
loss_127 = refl

pub closed_128 : shown (7 ∷ 8 ∷ 9 ∷ []) (run Server (turns.Connected 9 9 1000 (facts.Limit 1200) ∷ turns.PeerUni ∷ turns.Bytes 2 (0 ∷ 4 ∷ 0 ∷ []) ∷ turns.PeerBi ∷ turns.Bytes 0 (1 ∷ 64 ∷ 80 ∷ 0 ∷ 0 ∷ 39 ∷ 3 ∷ 58 ∷ 97 ∷ 117 ∷ 116 ∷ 104 ∷ 111 ∷ 114 ∷ 105 ∷ 116 ∷ 121 ∷ 1 ∷ 104 ∷ 39 ∷ 0 ∷ 58 ∷ 109 ∷ 101 ∷ 116 ∷ 104 ∷ 111 ∷ 100 ∷ 7 ∷ 67 ∷ 79 ∷ 78 ∷ 78 ∷ 69 ∷ 67 ∷ 84 ∷ 37 ∷ 58 ∷ 112 ∷ 97 ∷ 116 ∷ 104 ∷ 1 ∷ 47 ∷ 39 ∷ 2 ∷ 58 ∷ 112 ∷ 114 ∷ 111 ∷ 116 ∷ 111 ∷ 99 ∷ 111 ∷ 108 ∷ 12 ∷ 119 ∷ 101 ∷ 98 ∷ 116 ∷ 114 ∷ 97 ∷ 110 ∷ 115 ∷ 112 ∷ 111 ∷ 114 ∷ 116 ∷ 39 ∷ 0 ∷ 58 ∷ 115 ∷ 99 ∷ 104 ∷ 101 ∷ 109 ∷ 101 ∷ 5 ∷ 104 ∷ 116 ∷ 116 ∷ 112 ∷ 115 ∷ []) ∷ turns.Call calls.Incoming ∷ turns.Call (calls.Accept ([])) ∷ turns.End 0 ∷ turns.Call (calls.AcceptUni None) ∷ turns.Call calls.Closed ∷ [])) ≡ record { answers = (answer replies.Done (actions.Finish 0 ∷ []) ∷ answer (replies.Failed (errors.ApplicationClosed (record { code = 0; reason = ([]) }))) ([]) ∷ answer replies.Pending ([]) ∷ []); is_all = true }
unfolding computed
closed_128 = refl

pub end_129 : shown (8 ∷ []) (run Server (turns.Connected 9 9 1000 (facts.Limit 1200) ∷ turns.PeerUni ∷ turns.Bytes 2 (0 ∷ 4 ∷ 0 ∷ []) ∷ turns.PeerBi ∷ turns.Bytes 0 (1 ∷ 64 ∷ 80 ∷ 0 ∷ 0 ∷ 39 ∷ 3 ∷ 58 ∷ 97 ∷ 117 ∷ 116 ∷ 104 ∷ 111 ∷ 114 ∷ 105 ∷ 116 ∷ 121 ∷ 1 ∷ 104 ∷ 39 ∷ 0 ∷ 58 ∷ 109 ∷ 101 ∷ 116 ∷ 104 ∷ 111 ∷ 100 ∷ 7 ∷ 67 ∷ 79 ∷ 78 ∷ 78 ∷ 69 ∷ 67 ∷ 84 ∷ 37 ∷ 58 ∷ 112 ∷ 97 ∷ 116 ∷ 104 ∷ 1 ∷ 47 ∷ 39 ∷ 2 ∷ 58 ∷ 112 ∷ 114 ∷ 111 ∷ 116 ∷ 111 ∷ 99 ∷ 111 ∷ 108 ∷ 12 ∷ 119 ∷ 101 ∷ 98 ∷ 116 ∷ 114 ∷ 97 ∷ 110 ∷ 115 ∷ 112 ∷ 111 ∷ 114 ∷ 116 ∷ 39 ∷ 0 ∷ 58 ∷ 115 ∷ 99 ∷ 104 ∷ 101 ∷ 109 ∷ 101 ∷ 5 ∷ 104 ∷ 116 ∷ 116 ∷ 112 ∷ 115 ∷ []) ∷ turns.Call calls.Incoming ∷ turns.Call (calls.Accept ([])) ∷ turns.Bytes 0 (0 ∷ 3 ∷ 104 ∷ 67 ∷ 7 ∷ []) ∷ turns.End 0 ∷ [])) ≡ record { answers = (answer replies.Done (actions.Close 270 ([]) ∷ []) ∷ []); is_all = true }
unfolding computed
end_129 = refl

pub accept_uni_130 : shown (7 ∷ 8 ∷ 9 ∷ []) (run Server (turns.Connected 9 9 1000 (facts.Limit 1200) ∷ turns.PeerUni ∷ turns.Bytes 2 (0 ∷ 4 ∷ 0 ∷ []) ∷ turns.PeerBi ∷ turns.Bytes 0 (1 ∷ 64 ∷ 80 ∷ 0 ∷ 0 ∷ 39 ∷ 3 ∷ 58 ∷ 97 ∷ 117 ∷ 116 ∷ 104 ∷ 111 ∷ 114 ∷ 105 ∷ 116 ∷ 121 ∷ 1 ∷ 104 ∷ 39 ∷ 0 ∷ 58 ∷ 109 ∷ 101 ∷ 116 ∷ 104 ∷ 111 ∷ 100 ∷ 7 ∷ 67 ∷ 79 ∷ 78 ∷ 78 ∷ 69 ∷ 67 ∷ 84 ∷ 37 ∷ 58 ∷ 112 ∷ 97 ∷ 116 ∷ 104 ∷ 1 ∷ 47 ∷ 39 ∷ 2 ∷ 58 ∷ 112 ∷ 114 ∷ 111 ∷ 116 ∷ 111 ∷ 99 ∷ 111 ∷ 108 ∷ 12 ∷ 119 ∷ 101 ∷ 98 ∷ 116 ∷ 114 ∷ 97 ∷ 110 ∷ 115 ∷ 112 ∷ 111 ∷ 114 ∷ 116 ∷ 39 ∷ 0 ∷ 58 ∷ 115 ∷ 99 ∷ 104 ∷ 101 ∷ 109 ∷ 101 ∷ 5 ∷ 104 ∷ 116 ∷ 116 ∷ 112 ∷ 115 ∷ []) ∷ turns.Call calls.Incoming ∷ turns.Call (calls.Accept ([])) ∷ turns.Call (calls.Close 5 ([])) ∷ turns.PeerUni ∷ turns.Call (calls.AcceptUni None) ∷ [])) ≡ record { answers = (answer replies.Done (actions.Close 5 ([]) ∷ []) ∷ answer replies.Done ([]) ∷ answer (replies.Failed errors.LocallyClosed) ([]) ∷ []); is_all = true }
unfolding computed
accept_uni_130 = refl

pub accept_uni_131 : shown (8 ∷ 9 ∷ []) (run Server (turns.Connected 9 9 1000 (facts.Limit 1200) ∷ turns.PeerUni ∷ turns.Bytes 2 (0 ∷ 4 ∷ 0 ∷ []) ∷ turns.PeerBi ∷ turns.Bytes 0 (1 ∷ 64 ∷ 80 ∷ 0 ∷ 0 ∷ 39 ∷ 3 ∷ 58 ∷ 97 ∷ 117 ∷ 116 ∷ 104 ∷ 111 ∷ 114 ∷ 105 ∷ 116 ∷ 121 ∷ 1 ∷ 104 ∷ 39 ∷ 0 ∷ 58 ∷ 109 ∷ 101 ∷ 116 ∷ 104 ∷ 111 ∷ 100 ∷ 7 ∷ 67 ∷ 79 ∷ 78 ∷ 78 ∷ 69 ∷ 67 ∷ 84 ∷ 37 ∷ 58 ∷ 112 ∷ 97 ∷ 116 ∷ 104 ∷ 1 ∷ 47 ∷ 39 ∷ 2 ∷ 58 ∷ 112 ∷ 114 ∷ 111 ∷ 116 ∷ 111 ∷ 99 ∷ 111 ∷ 108 ∷ 12 ∷ 119 ∷ 101 ∷ 98 ∷ 116 ∷ 114 ∷ 97 ∷ 110 ∷ 115 ∷ 112 ∷ 111 ∷ 114 ∷ 116 ∷ 39 ∷ 0 ∷ 58 ∷ 115 ∷ 99 ∷ 104 ∷ 101 ∷ 109 ∷ 101 ∷ 5 ∷ 104 ∷ 116 ∷ 116 ∷ 112 ∷ 115 ∷ []) ∷ turns.Call calls.Incoming ∷ turns.Call (calls.Accept ([])) ∷ turns.PeerUni ∷ turns.Bytes 6 (0 ∷ []) ∷ turns.Call (calls.AcceptUni None) ∷ [])) ≡ record { answers = (answer replies.Done (actions.Close 259 ([]) ∷ []) ∷ answer (replies.Failed (errors.LocalH3Error h3.StreamCreation)) ([]) ∷ []); is_all = true }
unfolding computed
accept_uni_131 = refl

pub connect_132 : shown ([]) (run Server (turns.Connected 9 9 1000 (facts.Limit 1200) ∷ turns.PeerUni ∷ turns.Bytes 2 (0 ∷ 4 ∷ 0 ∷ []) ∷ turns.PeerBi ∷ turns.Bytes 0 (1 ∷ 64 ∷ 80 ∷ 0 ∷ 0 ∷ 39 ∷ 3 ∷ 58 ∷ 97 ∷ 117 ∷ 116 ∷ 104 ∷ 111 ∷ 114 ∷ 105 ∷ 116 ∷ 121 ∷ 1 ∷ 104 ∷ 39 ∷ 0 ∷ 58 ∷ 109 ∷ 101 ∷ 116 ∷ 104 ∷ 111 ∷ 100 ∷ 7 ∷ 67 ∷ 79 ∷ 78 ∷ 78 ∷ 69 ∷ 67 ∷ 84 ∷ 37 ∷ 58 ∷ 112 ∷ 97 ∷ 116 ∷ 104 ∷ 1 ∷ 47 ∷ 39 ∷ 2 ∷ 58 ∷ 112 ∷ 114 ∷ 111 ∷ 116 ∷ 111 ∷ 99 ∷ 111 ∷ 108 ∷ 12 ∷ 119 ∷ 101 ∷ 98 ∷ 116 ∷ 114 ∷ 97 ∷ 110 ∷ 115 ∷ 112 ∷ 111 ∷ 114 ∷ 116 ∷ 39 ∷ 0 ∷ 58 ∷ 115 ∷ 99 ∷ 104 ∷ 101 ∷ 109 ∷ 101 ∷ 5 ∷ 104 ∷ 116 ∷ 116 ∷ 112 ∷ 115 ∷ []) ∷ turns.Call calls.Incoming ∷ turns.Call (calls.Accept ([])) ∷ turns.Call (calls.Connect ((104 ∷ 116 ∷ 116 ∷ 112 ∷ 115 ∷ 58 ∷ 47 ∷ 47 ∷ 104 ∷ []), ([])) lookups.NotFound outcomes.Proceed) ∷ [])) ≡ record { answers = ([]); is_all = false }
unfolding computed parsed
connect_132 = refl

pub handshake_133 : shown (6 ∷ 8 ∷ []) (run Server (turns.Connected 9 9 25 (facts.Limit 1200) ∷ turns.PeerUni ∷ turns.Bytes 2 (0 ∷ 4 ∷ 0 ∷ []) ∷ turns.PeerBi ∷ turns.Bytes 0 (1 ∷ 64 ∷ 80 ∷ 0 ∷ 0 ∷ 39 ∷ 3 ∷ 58 ∷ 97 ∷ 117 ∷ 116 ∷ 104 ∷ 111 ∷ 114 ∷ 105 ∷ 116 ∷ 121 ∷ 1 ∷ 104 ∷ 39 ∷ 0 ∷ 58 ∷ 109 ∷ 101 ∷ 116 ∷ 104 ∷ 111 ∷ 100 ∷ 7 ∷ 67 ∷ 79 ∷ 78 ∷ 78 ∷ 69 ∷ 67 ∷ 84 ∷ 37 ∷ 58 ∷ 112 ∷ 97 ∷ 116 ∷ 104 ∷ 1 ∷ 47 ∷ 39 ∷ 2 ∷ 58 ∷ 112 ∷ 114 ∷ 111 ∷ 116 ∷ 111 ∷ 99 ∷ 111 ∷ 108 ∷ 12 ∷ 119 ∷ 101 ∷ 98 ∷ 116 ∷ 114 ∷ 97 ∷ 110 ∷ 115 ∷ 112 ∷ 111 ∷ 114 ∷ 116 ∷ 39 ∷ 0 ∷ 58 ∷ 115 ∷ 99 ∷ 104 ∷ 101 ∷ 109 ∷ 101 ∷ 5 ∷ 104 ∷ 116 ∷ 116 ∷ 112 ∷ 115 ∷ []) ∷ turns.Call calls.Incoming ∷ turns.Call (calls.Accept (((120 ∷ []), (97 ∷ 97 ∷ 97 ∷ 97 ∷ 97 ∷ 97 ∷ 97 ∷ 97 ∷ 97 ∷ 97 ∷ [])) ∷ [])) ∷ turns.Stop 0 3 ∷ turns.Call calls.Handshake ∷ [])) ≡ record { answers = (answer replies.Pending (actions.Send 0 (1 ∷ 28 ∷ 0 ∷ 0 ∷ 39 ∷ 0 ∷ 58 ∷ 115 ∷ 116 ∷ 97 ∷ 116 ∷ 117 ∷ 115 ∷ 3 ∷ 50 ∷ 48 ∷ 48 ∷ 33 ∷ 120 ∷ 10 ∷ 97 ∷ 97 ∷ 97 ∷ 97 ∷ 97 ∷ []) ∷ []) ∷ answer (replies.Failed (errors.LocalH3Error h3.ClosedCriticalStream)) (actions.Close 260 ([]) ∷ []) ∷ []); is_all = true }
unfolding computed
handshake_133 = refl

pub accept_bi_134 : shown (7 ∷ 8 ∷ []) (run Server (turns.Connected 9 9 1000 (facts.Limit 1200) ∷ turns.PeerUni ∷ turns.Bytes 2 (0 ∷ 4 ∷ 0 ∷ []) ∷ turns.PeerBi ∷ turns.Bytes 0 (1 ∷ 64 ∷ 80 ∷ 0 ∷ 0 ∷ 39 ∷ 3 ∷ 58 ∷ 97 ∷ 117 ∷ 116 ∷ 104 ∷ 111 ∷ 114 ∷ 105 ∷ 116 ∷ 121 ∷ 1 ∷ 104 ∷ 39 ∷ 0 ∷ 58 ∷ 109 ∷ 101 ∷ 116 ∷ 104 ∷ 111 ∷ 100 ∷ 7 ∷ 67 ∷ 79 ∷ 78 ∷ 78 ∷ 69 ∷ 67 ∷ 84 ∷ 37 ∷ 58 ∷ 112 ∷ 97 ∷ 116 ∷ 104 ∷ 1 ∷ 47 ∷ 39 ∷ 2 ∷ 58 ∷ 112 ∷ 114 ∷ 111 ∷ 116 ∷ 111 ∷ 99 ∷ 111 ∷ 108 ∷ 12 ∷ 119 ∷ 101 ∷ 98 ∷ 116 ∷ 114 ∷ 97 ∷ 110 ∷ 115 ∷ 112 ∷ 111 ∷ 114 ∷ 116 ∷ 39 ∷ 0 ∷ 58 ∷ 115 ∷ 99 ∷ 104 ∷ 101 ∷ 109 ∷ 101 ∷ 5 ∷ 104 ∷ 116 ∷ 116 ∷ 112 ∷ 115 ∷ []) ∷ turns.Call calls.Incoming ∷ turns.Call (calls.Accept ([])) ∷ turns.Bytes 0 (0 ∷ 10 ∷ 104 ∷ 67 ∷ 7 ∷ 0 ∷ 0 ∷ 0 ∷ 7 ∷ 98 ∷ 121 ∷ 101 ∷ []) ∷ turns.Call (calls.AcceptBi None) ∷ [])) ≡ record { answers = (answer replies.Done (actions.ResetOut 0 256 ∷ []) ∷ answer (replies.Failed (errors.ApplicationClosed (record { code = 7; reason = (98 ∷ 121 ∷ 101 ∷ []) }))) ([]) ∷ []); is_all = true }
unfolding computed
accept_bi_134 = refl

pub bytes_135 : shown (7 ∷ 8 ∷ []) (run Server (turns.Connected 9 9 1000 (facts.Limit 1200) ∷ turns.PeerUni ∷ turns.Bytes 2 (0 ∷ 4 ∷ 0 ∷ []) ∷ turns.PeerBi ∷ turns.Bytes 0 (1 ∷ 64 ∷ 80 ∷ 0 ∷ 0 ∷ 39 ∷ 3 ∷ 58 ∷ 97 ∷ 117 ∷ 116 ∷ 104 ∷ 111 ∷ 114 ∷ 105 ∷ 116 ∷ 121 ∷ 1 ∷ 104 ∷ 39 ∷ 0 ∷ 58 ∷ 109 ∷ 101 ∷ 116 ∷ 104 ∷ 111 ∷ 100 ∷ 7 ∷ 67 ∷ 79 ∷ 78 ∷ 78 ∷ 69 ∷ 67 ∷ 84 ∷ 37 ∷ 58 ∷ 112 ∷ 97 ∷ 116 ∷ 104 ∷ 1 ∷ 47 ∷ 39 ∷ 2 ∷ 58 ∷ 112 ∷ 114 ∷ 111 ∷ 116 ∷ 111 ∷ 99 ∷ 111 ∷ 108 ∷ 12 ∷ 119 ∷ 101 ∷ 98 ∷ 116 ∷ 114 ∷ 97 ∷ 110 ∷ 115 ∷ 112 ∷ 111 ∷ 114 ∷ 116 ∷ 39 ∷ 0 ∷ 58 ∷ 115 ∷ 99 ∷ 104 ∷ 101 ∷ 109 ∷ 101 ∷ 5 ∷ 104 ∷ 116 ∷ 116 ∷ 112 ∷ 115 ∷ []) ∷ turns.Call calls.Incoming ∷ turns.Call (calls.Accept ([])) ∷ turns.Bytes 0 (0 ∷ 3 ∷ 104 ∷ 67 ∷ 7 ∷ []) ∷ turns.Bytes 0 (0 ∷ 7 ∷ 0 ∷ 0 ∷ 0 ∷ 7 ∷ 98 ∷ 121 ∷ 101 ∷ []) ∷ [])) ≡ record { answers = (answer replies.Done ([]) ∷ answer replies.Done (actions.ResetOut 0 256 ∷ []) ∷ []); is_all = true }
unfolding computed
bytes_135 = refl

pub open_uni_136 : shown (8 ∷ 9 ∷ 10 ∷ 11 ∷ []) (run Server (turns.Connected 9 9 1000 (facts.Limit 1200) ∷ turns.PeerUni ∷ turns.Bytes 2 (0 ∷ 4 ∷ 0 ∷ []) ∷ turns.PeerBi ∷ turns.Bytes 0 (1 ∷ 64 ∷ 80 ∷ 0 ∷ 0 ∷ 39 ∷ 3 ∷ 58 ∷ 97 ∷ 117 ∷ 116 ∷ 104 ∷ 111 ∷ 114 ∷ 105 ∷ 116 ∷ 121 ∷ 1 ∷ 104 ∷ 39 ∷ 0 ∷ 58 ∷ 109 ∷ 101 ∷ 116 ∷ 104 ∷ 111 ∷ 100 ∷ 7 ∷ 67 ∷ 79 ∷ 78 ∷ 78 ∷ 69 ∷ 67 ∷ 84 ∷ 37 ∷ 58 ∷ 112 ∷ 97 ∷ 116 ∷ 104 ∷ 1 ∷ 47 ∷ 39 ∷ 2 ∷ 58 ∷ 112 ∷ 114 ∷ 111 ∷ 116 ∷ 111 ∷ 99 ∷ 111 ∷ 108 ∷ 12 ∷ 119 ∷ 101 ∷ 98 ∷ 116 ∷ 114 ∷ 97 ∷ 110 ∷ 115 ∷ 112 ∷ 111 ∷ 114 ∷ 116 ∷ 39 ∷ 0 ∷ 58 ∷ 115 ∷ 99 ∷ 104 ∷ 101 ∷ 109 ∷ 101 ∷ 5 ∷ 104 ∷ 116 ∷ 116 ∷ 112 ∷ 115 ∷ []) ∷ turns.Call calls.Incoming ∷ turns.Call (calls.Accept ([])) ∷ turns.PeerUni ∷ turns.Bytes 6 (0 ∷ []) ∷ turns.Call (calls.AcceptUni None) ∷ turns.Call calls.Closed ∷ turns.Call (calls.OpenUni None) ∷ [])) ≡ record { answers = (answer replies.Done (actions.Close 259 ([]) ∷ []) ∷ answer (replies.Failed (errors.LocalH3Error h3.StreamCreation)) ([]) ∷ answer (replies.Closed errors.LocallyClosed) ([]) ∷ answer (replies.Failed errors.LocallyClosed) ([]) ∷ []); is_all = true }
unfolding computed
open_uni_136 = refl

pub accept_uni_137 : shown (7 ∷ 8 ∷ []) (run Server (turns.Connected 9 9 1000 (facts.Limit 1200) ∷ turns.PeerUni ∷ turns.Bytes 2 (0 ∷ 4 ∷ 0 ∷ []) ∷ turns.PeerBi ∷ turns.Bytes 0 (1 ∷ 64 ∷ 80 ∷ 0 ∷ 0 ∷ 39 ∷ 3 ∷ 58 ∷ 97 ∷ 117 ∷ 116 ∷ 104 ∷ 111 ∷ 114 ∷ 105 ∷ 116 ∷ 121 ∷ 1 ∷ 104 ∷ 39 ∷ 0 ∷ 58 ∷ 109 ∷ 101 ∷ 116 ∷ 104 ∷ 111 ∷ 100 ∷ 7 ∷ 67 ∷ 79 ∷ 78 ∷ 78 ∷ 69 ∷ 67 ∷ 84 ∷ 37 ∷ 58 ∷ 112 ∷ 97 ∷ 116 ∷ 104 ∷ 1 ∷ 47 ∷ 39 ∷ 2 ∷ 58 ∷ 112 ∷ 114 ∷ 111 ∷ 116 ∷ 111 ∷ 99 ∷ 111 ∷ 108 ∷ 12 ∷ 119 ∷ 101 ∷ 98 ∷ 116 ∷ 114 ∷ 97 ∷ 110 ∷ 115 ∷ 112 ∷ 111 ∷ 114 ∷ 116 ∷ 39 ∷ 0 ∷ 58 ∷ 115 ∷ 99 ∷ 104 ∷ 101 ∷ 109 ∷ 101 ∷ 5 ∷ 104 ∷ 116 ∷ 116 ∷ 112 ∷ 115 ∷ []) ∷ turns.Call calls.Incoming ∷ turns.Call (calls.Accept ([])) ∷ turns.Bytes 0 (0 ∷ 12 ∷ 0 ∷ 0 ∷ 104 ∷ 67 ∷ 7 ∷ 0 ∷ 0 ∷ 0 ∷ 7 ∷ 98 ∷ 121 ∷ 101 ∷ []) ∷ turns.Call (calls.AcceptUni None) ∷ [])) ≡ record { answers = (answer replies.Done (actions.ResetOut 0 256 ∷ []) ∷ answer (replies.Failed (errors.ApplicationClosed (record { code = 7; reason = (98 ∷ 121 ∷ 101 ∷ []) }))) ([]) ∷ []); is_all = true }
unfolding computed
accept_uni_137 = refl

pub incoming_138 : shown (9 ∷ 11 ∷ []) (run Server (turns.Connected 9 9 1000 (facts.Limit 1200) ∷ turns.PeerUni ∷ turns.PeerUni ∷ turns.PeerUni ∷ turns.PeerUni ∷ turns.PeerUni ∷ turns.Bytes 18 (0 ∷ 4 ∷ 0 ∷ []) ∷ turns.PeerBi ∷ turns.Bytes 0 (1 ∷ 64 ∷ 80 ∷ 0 ∷ 0 ∷ 39 ∷ 3 ∷ 58 ∷ 97 ∷ 117 ∷ 116 ∷ 104 ∷ 111 ∷ 114 ∷ 105 ∷ 116 ∷ 121 ∷ 1 ∷ 104 ∷ 39 ∷ 0 ∷ 58 ∷ 109 ∷ 101 ∷ 116 ∷ 104 ∷ 111 ∷ 100 ∷ 7 ∷ 67 ∷ 79 ∷ 78 ∷ 78 ∷ 69 ∷ 67 ∷ 84 ∷ 37 ∷ 58 ∷ 112 ∷ 97 ∷ 116 ∷ 104 ∷ 1 ∷ 47 ∷ 39 ∷ 2 ∷ 58 ∷ 112 ∷ 114 ∷ 111 ∷ 116 ∷ 111 ∷ 99 ∷ 111 ∷ 108 ∷ 12 ∷ 119 ∷ 101 ∷ 98 ∷ 116 ∷ 114 ∷ 97 ∷ 110 ∷ 115 ∷ 112 ∷ 111 ∷ 114 ∷ 116 ∷ 39 ∷ 0 ∷ 58 ∷ 115 ∷ 99 ∷ 104 ∷ 101 ∷ 109 ∷ 101 ∷ 5 ∷ 104 ∷ 116 ∷ 116 ∷ 112 ∷ 115 ∷ []) ∷ turns.Call calls.Incoming ∷ turns.Bytes 2 (33 ∷ []) ∷ turns.Call calls.Incoming ∷ [])) ≡ record { answers = (answer replies.Pending ([]) ∷ answer (replies.Request 0 (((58 ∷ 97 ∷ 117 ∷ 116 ∷ 104 ∷ 111 ∷ 114 ∷ 105 ∷ 116 ∷ 121 ∷ []), (104 ∷ [])) ∷ ((58 ∷ 109 ∷ 101 ∷ 116 ∷ 104 ∷ 111 ∷ 100 ∷ []), (67 ∷ 79 ∷ 78 ∷ 78 ∷ 69 ∷ 67 ∷ 84 ∷ [])) ∷ ((58 ∷ 112 ∷ 97 ∷ 116 ∷ 104 ∷ []), (47 ∷ [])) ∷ ((58 ∷ 112 ∷ 114 ∷ 111 ∷ 116 ∷ 111 ∷ 99 ∷ 111 ∷ 108 ∷ []), (119 ∷ 101 ∷ 98 ∷ 116 ∷ 114 ∷ 97 ∷ 110 ∷ 115 ∷ 112 ∷ 111 ∷ 114 ∷ 116 ∷ [])) ∷ ((58 ∷ 115 ∷ 99 ∷ 104 ∷ 101 ∷ 109 ∷ 101 ∷ []), (104 ∷ 116 ∷ 116 ∷ 112 ∷ 115 ∷ [])) ∷ [])) ([]) ∷ []); is_all = true }
unfolding computed
incoming_138 = refl

pub read_139 : shown (9 ∷ 10 ∷ 11 ∷ []) (run Server (turns.Connected 9 9 1000 (facts.Limit 1200) ∷ turns.PeerUni ∷ turns.Bytes 2 (0 ∷ 4 ∷ 0 ∷ []) ∷ turns.PeerBi ∷ turns.Bytes 0 (1 ∷ 64 ∷ 80 ∷ 0 ∷ 0 ∷ 39 ∷ 3 ∷ 58 ∷ 97 ∷ 117 ∷ 116 ∷ 104 ∷ 111 ∷ 114 ∷ 105 ∷ 116 ∷ 121 ∷ 1 ∷ 104 ∷ 39 ∷ 0 ∷ 58 ∷ 109 ∷ 101 ∷ 116 ∷ 104 ∷ 111 ∷ 100 ∷ 7 ∷ 67 ∷ 79 ∷ 78 ∷ 78 ∷ 69 ∷ 67 ∷ 84 ∷ 37 ∷ 58 ∷ 112 ∷ 97 ∷ 116 ∷ 104 ∷ 1 ∷ 47 ∷ 39 ∷ 2 ∷ 58 ∷ 112 ∷ 114 ∷ 111 ∷ 116 ∷ 111 ∷ 99 ∷ 111 ∷ 108 ∷ 12 ∷ 119 ∷ 101 ∷ 98 ∷ 116 ∷ 114 ∷ 97 ∷ 110 ∷ 115 ∷ 112 ∷ 111 ∷ 114 ∷ 116 ∷ 39 ∷ 0 ∷ 58 ∷ 115 ∷ 99 ∷ 104 ∷ 101 ∷ 109 ∷ 101 ∷ 5 ∷ 104 ∷ 116 ∷ 116 ∷ 112 ∷ 115 ∷ []) ∷ turns.Call calls.Incoming ∷ turns.Call (calls.Accept ([])) ∷ turns.PeerUni ∷ turns.Bytes 6 (64 ∷ 84 ∷ 0 ∷ 104 ∷ 105 ∷ []) ∷ turns.Call (calls.AcceptUni None) ∷ turns.Call (calls.Read 6 16) ∷ turns.Call (calls.Read 6 16) ∷ [])) ≡ record { answers = (answer (replies.Uni 6) ([]) ∷ answer (replies.Read (Some (104 ∷ 105 ∷ []))) ([]) ∷ answer replies.Pending ([]) ∷ []); is_all = true }
unfolding computed
read_139 = refl

pub read_140 : shown (11 ∷ 12 ∷ []) (run Server (turns.Connected 9 9 1000 (facts.Limit 1200) ∷ turns.PeerUni ∷ turns.Bytes 2 (0 ∷ 4 ∷ 0 ∷ []) ∷ turns.PeerBi ∷ turns.Bytes 0 (1 ∷ 64 ∷ 80 ∷ 0 ∷ 0 ∷ 39 ∷ 3 ∷ 58 ∷ 97 ∷ 117 ∷ 116 ∷ 104 ∷ 111 ∷ 114 ∷ 105 ∷ 116 ∷ 121 ∷ 1 ∷ 104 ∷ 39 ∷ 0 ∷ 58 ∷ 109 ∷ 101 ∷ 116 ∷ 104 ∷ 111 ∷ 100 ∷ 7 ∷ 67 ∷ 79 ∷ 78 ∷ 78 ∷ 69 ∷ 67 ∷ 84 ∷ 37 ∷ 58 ∷ 112 ∷ 97 ∷ 116 ∷ 104 ∷ 1 ∷ 47 ∷ 39 ∷ 2 ∷ 58 ∷ 112 ∷ 114 ∷ 111 ∷ 116 ∷ 111 ∷ 99 ∷ 111 ∷ 108 ∷ 12 ∷ 119 ∷ 101 ∷ 98 ∷ 116 ∷ 114 ∷ 97 ∷ 110 ∷ 115 ∷ 112 ∷ 111 ∷ 114 ∷ 116 ∷ 39 ∷ 0 ∷ 58 ∷ 115 ∷ 99 ∷ 104 ∷ 101 ∷ 109 ∷ 101 ∷ 5 ∷ 104 ∷ 116 ∷ 116 ∷ 112 ∷ 115 ∷ []) ∷ turns.Call calls.Incoming ∷ turns.Call (calls.Accept ([])) ∷ turns.PeerUni ∷ turns.Bytes 6 (64 ∷ 84 ∷ 0 ∷ 97 ∷ []) ∷ turns.Reset 6 9 ∷ turns.Call (calls.AcceptUni None) ∷ turns.Call (calls.Read 6 9) ∷ turns.Call (calls.Read 6 9) ∷ [])) ≡ record { answers = (answer (replies.Read (Some (97 ∷ []))) ([]) ∷ answer (replies.ReadFailed (reads.Reset 9)) ([]) ∷ []); is_all = true }
unfolding computed
read_140 = refl

pub read_141 : shown (9 ∷ 10 ∷ 11 ∷ 13 ∷ []) (run Server (turns.Connected 9 9 1000 (facts.Limit 1200) ∷ turns.PeerUni ∷ turns.Bytes 2 (0 ∷ 4 ∷ 0 ∷ []) ∷ turns.PeerBi ∷ turns.Bytes 0 (1 ∷ 64 ∷ 80 ∷ 0 ∷ 0 ∷ 39 ∷ 3 ∷ 58 ∷ 97 ∷ 117 ∷ 116 ∷ 104 ∷ 111 ∷ 114 ∷ 105 ∷ 116 ∷ 121 ∷ 1 ∷ 104 ∷ 39 ∷ 0 ∷ 58 ∷ 109 ∷ 101 ∷ 116 ∷ 104 ∷ 111 ∷ 100 ∷ 7 ∷ 67 ∷ 79 ∷ 78 ∷ 78 ∷ 69 ∷ 67 ∷ 84 ∷ 37 ∷ 58 ∷ 112 ∷ 97 ∷ 116 ∷ 104 ∷ 1 ∷ 47 ∷ 39 ∷ 2 ∷ 58 ∷ 112 ∷ 114 ∷ 111 ∷ 116 ∷ 111 ∷ 99 ∷ 111 ∷ 108 ∷ 12 ∷ 119 ∷ 101 ∷ 98 ∷ 116 ∷ 114 ∷ 97 ∷ 110 ∷ 115 ∷ 112 ∷ 111 ∷ 114 ∷ 116 ∷ 39 ∷ 0 ∷ 58 ∷ 115 ∷ 99 ∷ 104 ∷ 101 ∷ 109 ∷ 101 ∷ 5 ∷ 104 ∷ 116 ∷ 116 ∷ 112 ∷ 115 ∷ []) ∷ turns.Call calls.Incoming ∷ turns.Call (calls.Accept ([])) ∷ turns.PeerUni ∷ turns.Bytes 6 (64 ∷ 84 ∷ 0 ∷ 104 ∷ 105 ∷ []) ∷ turns.Call (calls.AcceptUni None) ∷ turns.Call (calls.Read 6 16) ∷ turns.Call (calls.Read 6 16) ∷ turns.End 6 ∷ turns.Call (calls.Read 6 16) ∷ [])) ≡ record { answers = (answer (replies.Uni 6) ([]) ∷ answer (replies.Read (Some (104 ∷ 105 ∷ []))) ([]) ∷ answer replies.Pending ([]) ∷ answer (replies.Read None) ([]) ∷ []); is_all = true }
unfolding computed
read_141 = refl

pub receive_datagram_142 : shown (7 ∷ 8 ∷ 9 ∷ 10 ∷ 11 ∷ []) (run Server (turns.Connected 9 9 1000 (facts.Limit 1200) ∷ turns.PeerUni ∷ turns.Bytes 2 (0 ∷ 4 ∷ 0 ∷ []) ∷ turns.PeerBi ∷ turns.Bytes 0 (1 ∷ 64 ∷ 80 ∷ 0 ∷ 0 ∷ 39 ∷ 3 ∷ 58 ∷ 97 ∷ 117 ∷ 116 ∷ 104 ∷ 111 ∷ 114 ∷ 105 ∷ 116 ∷ 121 ∷ 1 ∷ 104 ∷ 39 ∷ 0 ∷ 58 ∷ 109 ∷ 101 ∷ 116 ∷ 104 ∷ 111 ∷ 100 ∷ 7 ∷ 67 ∷ 79 ∷ 78 ∷ 78 ∷ 69 ∷ 67 ∷ 84 ∷ 37 ∷ 58 ∷ 112 ∷ 97 ∷ 116 ∷ 104 ∷ 1 ∷ 47 ∷ 39 ∷ 2 ∷ 58 ∷ 112 ∷ 114 ∷ 111 ∷ 116 ∷ 111 ∷ 99 ∷ 111 ∷ 108 ∷ 12 ∷ 119 ∷ 101 ∷ 98 ∷ 116 ∷ 114 ∷ 97 ∷ 110 ∷ 115 ∷ 112 ∷ 111 ∷ 114 ∷ 116 ∷ 39 ∷ 0 ∷ 58 ∷ 115 ∷ 99 ∷ 104 ∷ 101 ∷ 109 ∷ 101 ∷ 5 ∷ 104 ∷ 116 ∷ 116 ∷ 112 ∷ 115 ∷ []) ∷ turns.Call calls.Incoming ∷ turns.Call (calls.Accept ([])) ∷ turns.Datagram (1 ∷ 97 ∷ []) ∷ turns.Datagram (0 ∷ 104 ∷ 105 ∷ []) ∷ turns.Datagram (64 ∷ []) ∷ turns.Call (calls.ReceiveDatagram None) ∷ turns.Call (calls.ReceiveDatagram None) ∷ [])) ≡ record { answers = (answer replies.Done ([]) ∷ answer replies.Done ([]) ∷ answer replies.Done (actions.Close 51 ([]) ∷ []) ∷ answer (replies.Datagram (104 ∷ 105 ∷ [])) ([]) ∷ answer (replies.Failed (errors.LocalH3Error h3.Datagram)) ([]) ∷ []); is_all = true }
unfolding computed
receive_datagram_142 = refl

pub read_143 : shown (11 ∷ 12 ∷ 13 ∷ []) (run Server (turns.Connected 9 9 1000 (facts.Limit 1200) ∷ turns.PeerUni ∷ turns.Bytes 2 (0 ∷ 4 ∷ 0 ∷ []) ∷ turns.PeerBi ∷ turns.Bytes 0 (1 ∷ 64 ∷ 80 ∷ 0 ∷ 0 ∷ 39 ∷ 3 ∷ 58 ∷ 97 ∷ 117 ∷ 116 ∷ 104 ∷ 111 ∷ 114 ∷ 105 ∷ 116 ∷ 121 ∷ 1 ∷ 104 ∷ 39 ∷ 0 ∷ 58 ∷ 109 ∷ 101 ∷ 116 ∷ 104 ∷ 111 ∷ 100 ∷ 7 ∷ 67 ∷ 79 ∷ 78 ∷ 78 ∷ 69 ∷ 67 ∷ 84 ∷ 37 ∷ 58 ∷ 112 ∷ 97 ∷ 116 ∷ 104 ∷ 1 ∷ 47 ∷ 39 ∷ 2 ∷ 58 ∷ 112 ∷ 114 ∷ 111 ∷ 116 ∷ 111 ∷ 99 ∷ 111 ∷ 108 ∷ 12 ∷ 119 ∷ 101 ∷ 98 ∷ 116 ∷ 114 ∷ 97 ∷ 110 ∷ 115 ∷ 112 ∷ 111 ∷ 114 ∷ 116 ∷ 39 ∷ 0 ∷ 58 ∷ 115 ∷ 99 ∷ 104 ∷ 101 ∷ 109 ∷ 101 ∷ 5 ∷ 104 ∷ 116 ∷ 116 ∷ 112 ∷ 115 ∷ []) ∷ turns.Call calls.Incoming ∷ turns.Call (calls.Accept ([])) ∷ turns.PeerUni ∷ turns.Bytes 6 (64 ∷ 84 ∷ 4 ∷ 97 ∷ []) ∷ turns.PeerUni ∷ turns.Bytes 10 (64 ∷ 84 ∷ 0 ∷ 98 ∷ []) ∷ turns.Call (calls.AcceptUni None) ∷ turns.Call (calls.Read 10 9) ∷ turns.Call (calls.Read 6 9) ∷ [])) ≡ record { answers = (answer (replies.Uni 10) ([]) ∷ answer (replies.Read (Some (98 ∷ []))) ([]) ∷ answer replies.NoStream ([]) ∷ []); is_all = true }
unfolding computed
read_143 = refl

pub read_144 : shown (13 ∷ 14 ∷ 15 ∷ 17 ∷ []) (run Server (turns.Connected 9 9 1000 (facts.Limit 1200) ∷ turns.PeerUni ∷ turns.Bytes 2 (0 ∷ 4 ∷ 0 ∷ []) ∷ turns.PeerBi ∷ turns.Bytes 0 (1 ∷ 64 ∷ 80 ∷ 0 ∷ 0 ∷ 39 ∷ 3 ∷ 58 ∷ 97 ∷ 117 ∷ 116 ∷ 104 ∷ 111 ∷ 114 ∷ 105 ∷ 116 ∷ 121 ∷ 1 ∷ 104 ∷ 39 ∷ 0 ∷ 58 ∷ 109 ∷ 101 ∷ 116 ∷ 104 ∷ 111 ∷ 100 ∷ 7 ∷ 67 ∷ 79 ∷ 78 ∷ 78 ∷ 69 ∷ 67 ∷ 84 ∷ 37 ∷ 58 ∷ 112 ∷ 97 ∷ 116 ∷ 104 ∷ 1 ∷ 47 ∷ 39 ∷ 2 ∷ 58 ∷ 112 ∷ 114 ∷ 111 ∷ 116 ∷ 111 ∷ 99 ∷ 111 ∷ 108 ∷ 12 ∷ 119 ∷ 101 ∷ 98 ∷ 116 ∷ 114 ∷ 97 ∷ 110 ∷ 115 ∷ 112 ∷ 111 ∷ 114 ∷ 116 ∷ 39 ∷ 0 ∷ 58 ∷ 115 ∷ 99 ∷ 104 ∷ 101 ∷ 109 ∷ 101 ∷ 5 ∷ 104 ∷ 116 ∷ 116 ∷ 112 ∷ 115 ∷ []) ∷ turns.Call calls.Incoming ∷ turns.Call (calls.Accept ([])) ∷ turns.PeerUni ∷ turns.Bytes 6 (64 ∷ []) ∷ turns.Bytes 6 (84 ∷ []) ∷ turns.Bytes 6 (0 ∷ []) ∷ turns.Bytes 6 (104 ∷ []) ∷ turns.Bytes 6 (105 ∷ []) ∷ turns.Call (calls.AcceptUni None) ∷ turns.Call (calls.Read 6 16) ∷ turns.Call (calls.Read 6 16) ∷ turns.End 6 ∷ turns.Call (calls.Read 6 16) ∷ [])) ≡ record { answers = (answer (replies.Uni 6) ([]) ∷ answer (replies.Read (Some (104 ∷ 105 ∷ []))) ([]) ∷ answer replies.Pending ([]) ∷ answer (replies.Read None) ([]) ∷ []); is_all = true }
unfolding computed
read_144 = refl

pub poll_opening_145 : shown (7 ∷ 8 ∷ 10 ∷ 11 ∷ 13 ∷ 14 ∷ 17 ∷ []) (run Server (turns.Connected 9 9 1000 (facts.Limit 1200) ∷ turns.PeerUni ∷ turns.Bytes 2 (0 ∷ 4 ∷ 0 ∷ []) ∷ turns.PeerBi ∷ turns.Bytes 0 (1 ∷ 64 ∷ 80 ∷ 0 ∷ 0 ∷ 39 ∷ 3 ∷ 58 ∷ 97 ∷ 117 ∷ 116 ∷ 104 ∷ 111 ∷ 114 ∷ 105 ∷ 116 ∷ 121 ∷ 1 ∷ 104 ∷ 39 ∷ 0 ∷ 58 ∷ 109 ∷ 101 ∷ 116 ∷ 104 ∷ 111 ∷ 100 ∷ 7 ∷ 67 ∷ 79 ∷ 78 ∷ 78 ∷ 69 ∷ 67 ∷ 84 ∷ 37 ∷ 58 ∷ 112 ∷ 97 ∷ 116 ∷ 104 ∷ 1 ∷ 47 ∷ 39 ∷ 2 ∷ 58 ∷ 112 ∷ 114 ∷ 111 ∷ 116 ∷ 111 ∷ 99 ∷ 111 ∷ 108 ∷ 12 ∷ 119 ∷ 101 ∷ 98 ∷ 116 ∷ 114 ∷ 97 ∷ 110 ∷ 115 ∷ 112 ∷ 111 ∷ 114 ∷ 116 ∷ 39 ∷ 0 ∷ 58 ∷ 115 ∷ 99 ∷ 104 ∷ 101 ∷ 109 ∷ 101 ∷ 5 ∷ 104 ∷ 116 ∷ 116 ∷ 112 ∷ 115 ∷ []) ∷ turns.Call calls.Incoming ∷ turns.Call (calls.Accept ([])) ∷ turns.Call (calls.OpenBi None) ∷ turns.Call (calls.PollOpening 1) ∷ turns.Bytes 1 (97 ∷ []) ∷ turns.Call (calls.Read 1 9) ∷ turns.Call (calls.Priority 1) ∷ turns.Stop 1 9 ∷ turns.Call (calls.Write 1 (97 ∷ [])) ∷ turns.Call (calls.Stopped 1) ∷ turns.Call (calls.OpenUni None) ∷ turns.Stop 7 3 ∷ turns.Call (calls.PollOpening 7) ∷ [])) ≡ record { answers = (answer (replies.Opening 1) (actions.Opened 1 ∷ []) ∷ answer (replies.BiReady 1) (actions.Send 1 (64 ∷ 65 ∷ 0 ∷ []) ∷ []) ∷ answer (replies.Read (Some (97 ∷ []))) ([]) ∷ answer (replies.Priority (pos 0)) ([]) ∷ answer (replies.WriteFailed (writes.Stopped 9)) ([]) ∷ answer (replies.StoppedBy (writes.Stopped 9)) ([]) ∷ answer (replies.OpeningFailed openings.Refused) ([]) ∷ []); is_all = true }
unfolding computed
poll_opening_145 = refl

pub closed_146 : shown (12 ∷ 13 ∷ 14 ∷ 15 ∷ 16 ∷ 17 ∷ []) (run Server (turns.Connected 9 9 1000 (facts.Limit 1200) ∷ turns.PeerUni ∷ turns.Bytes 2 (0 ∷ 4 ∷ 0 ∷ []) ∷ turns.PeerBi ∷ turns.Bytes 0 (1 ∷ 64 ∷ 80 ∷ 0 ∷ 0 ∷ 39 ∷ 3 ∷ 58 ∷ 97 ∷ 117 ∷ 116 ∷ 104 ∷ 111 ∷ 114 ∷ 105 ∷ 116 ∷ 121 ∷ 1 ∷ 104 ∷ 39 ∷ 0 ∷ 58 ∷ 109 ∷ 101 ∷ 116 ∷ 104 ∷ 111 ∷ 100 ∷ 7 ∷ 67 ∷ 79 ∷ 78 ∷ 78 ∷ 69 ∷ 67 ∷ 84 ∷ 37 ∷ 58 ∷ 112 ∷ 97 ∷ 116 ∷ 104 ∷ 1 ∷ 47 ∷ 39 ∷ 2 ∷ 58 ∷ 112 ∷ 114 ∷ 111 ∷ 116 ∷ 111 ∷ 99 ∷ 111 ∷ 108 ∷ 12 ∷ 119 ∷ 101 ∷ 98 ∷ 116 ∷ 114 ∷ 97 ∷ 110 ∷ 115 ∷ 112 ∷ 111 ∷ 114 ∷ 116 ∷ 39 ∷ 0 ∷ 58 ∷ 115 ∷ 99 ∷ 104 ∷ 101 ∷ 109 ∷ 101 ∷ 5 ∷ 104 ∷ 116 ∷ 116 ∷ 112 ∷ 115 ∷ []) ∷ turns.Call calls.Incoming ∷ turns.Call (calls.Accept ([])) ∷ turns.PeerUni ∷ turns.Bytes 6 (64 ∷ 84 ∷ 0 ∷ 97 ∷ []) ∷ turns.PeerUni ∷ turns.Bytes 10 (64 ∷ 84 ∷ 0 ∷ 97 ∷ []) ∷ turns.Loss losses.TimedOut ∷ turns.Call (calls.AcceptUni None) ∷ turns.Call (calls.AcceptUni None) ∷ turns.Call (calls.AcceptUni None) ∷ turns.Call (calls.Read 6 9) ∷ turns.Call (calls.Read 6 9) ∷ turns.Call calls.Closed ∷ [])) ≡ record { answers = (answer (replies.Uni 6) ([]) ∷ answer (replies.Uni 10) ([]) ∷ answer (replies.Failed errors.TimedOut) ([]) ∷ answer (replies.Read (Some (97 ∷ []))) ([]) ∷ answer (replies.ReadFailed reads.NotConnected) ([]) ∷ answer (replies.Closed errors.TimedOut) ([]) ∷ []); is_all = true }
unfolding computed
closed_146 = refl

pub write_147 : shown (9 ∷ 10 ∷ 11 ∷ 13 ∷ 14 ∷ 15 ∷ 16 ∷ 17 ∷ []) (run Server (turns.Connected 9 9 1000 (facts.Limit 1200) ∷ turns.PeerUni ∷ turns.Bytes 2 (0 ∷ 4 ∷ 0 ∷ []) ∷ turns.PeerBi ∷ turns.Bytes 0 (1 ∷ 64 ∷ 80 ∷ 0 ∷ 0 ∷ 39 ∷ 3 ∷ 58 ∷ 97 ∷ 117 ∷ 116 ∷ 104 ∷ 111 ∷ 114 ∷ 105 ∷ 116 ∷ 121 ∷ 1 ∷ 104 ∷ 39 ∷ 0 ∷ 58 ∷ 109 ∷ 101 ∷ 116 ∷ 104 ∷ 111 ∷ 100 ∷ 7 ∷ 67 ∷ 79 ∷ 78 ∷ 78 ∷ 69 ∷ 67 ∷ 84 ∷ 37 ∷ 58 ∷ 112 ∷ 97 ∷ 116 ∷ 104 ∷ 1 ∷ 47 ∷ 39 ∷ 2 ∷ 58 ∷ 112 ∷ 114 ∷ 111 ∷ 116 ∷ 111 ∷ 99 ∷ 111 ∷ 108 ∷ 12 ∷ 119 ∷ 101 ∷ 98 ∷ 116 ∷ 114 ∷ 97 ∷ 110 ∷ 115 ∷ 112 ∷ 111 ∷ 114 ∷ 116 ∷ 39 ∷ 0 ∷ 58 ∷ 115 ∷ 99 ∷ 104 ∷ 101 ∷ 109 ∷ 101 ∷ 5 ∷ 104 ∷ 116 ∷ 116 ∷ 112 ∷ 115 ∷ []) ∷ turns.Call calls.Incoming ∷ turns.Call (calls.Accept ([])) ∷ turns.PeerBi ∷ turns.Bytes 4 (33 ∷ 0 ∷ 64 ∷ 65 ∷ 0 ∷ 97 ∷ 98 ∷ 99 ∷ 100 ∷ []) ∷ turns.Call (calls.AcceptBi None) ∷ turns.Call (calls.ReadExact 4 6) ∷ turns.Call (calls.ReadExact 4 2) ∷ turns.End 4 ∷ turns.Call (calls.ReadExact 4 3) ∷ turns.Call (calls.Read 4 9) ∷ turns.Call (calls.StopRecv 4 5) ∷ turns.Call (calls.Read 4 9) ∷ turns.Call (calls.Write 4 (97 ∷ [])) ∷ [])) ≡ record { answers = (answer (replies.Bi 4) ([]) ∷ answer replies.Pending ([]) ∷ answer (replies.Exact (97 ∷ 98 ∷ [])) ([]) ∷ answer (replies.ExactFailed (exacts.FinishedEarly 2) (99 ∷ 100 ∷ [])) ([]) ∷ answer (replies.Read None) ([]) ∷ answer replies.Done (actions.StopOut 4 5 ∷ []) ∷ answer replies.NoStream ([]) ∷ answer (replies.Written 1) (actions.Send 4 (97 ∷ []) ∷ []) ∷ []); is_all = true }
unfolding computed
write_147 = refl
