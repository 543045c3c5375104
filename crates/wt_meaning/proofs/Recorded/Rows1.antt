-- Recorded sessions: what the definitions give is what was recorded. Made by `tools/meaning lemmas`.
use Rattle.std.specs.Prelude.{[], ◌∷◌, ◌≡◌, None, false, true}
use Rattle.std.proofs.Common.{refl}
use Rattle.wt_meaning.proofs.Recorded.{computed, parsed, shown}
use Rattle.wt_meaning.specs.Meaning.{run}
use Rattle.wt_meaning.specs.Rows.{answer}
use Rattle.wt_wire.specs.declared.side.Side.TheVariants.{Client, Server}
use Rattle.wt_turn.specs.declared.action.Action.TheVariants as actions
use Rattle.wt_wire.specs.declared.addr.Addr.TheVariants as addresses
use Rattle.wt_turn.specs.declared.call.Call.TheVariants as calls
use Rattle.wt_turn.specs.declared.connecting_error.ConnectingError.TheVariants as connects
use Rattle.wt_turn.specs.declared.datagram_fact.DatagramFact.TheVariants as facts
use Rattle.wt_wire.specs.declared.lookup.Lookup.TheVariants as lookups
use Rattle.wt_wire.specs.declared.lookup.ConnectOutcome.TheVariants as outcomes
use Rattle.wt_turn.specs.declared.connecting_error.UrlRefusal.TheVariants as refusals
use Rattle.wt_turn.specs.declared.reply.Reply.TheVariants as replies
use Rattle.wt_turn.specs.declared.turn.Turn.TheVariants as turns

pub incoming_000 : run Server (turns.Call calls.Incoming ∷ []) ≡ record { answers = ([]); is_all = false }
unfolding computed
incoming_000 = refl

pub connect_001 : run Client (turns.Call (calls.Connect ((104 ∷ 116 ∷ 116 ∷ 112 ∷ 58 ∷ 47 ∷ 47 ∷ 104 ∷ []), ([])) lookups.NotFound outcomes.Proceed) ∷ []) ≡ record { answers = (answer (replies.ConnectFailed (connects.InvalidUrl refusals.Scheme)) ([]) ∷ []); is_all = true }
unfolding computed parsed
connect_001 = refl

pub connect_002 : run Client (turns.Call (calls.Connect ((104 ∷ 116 ∷ 116 ∷ 112 ∷ 115 ∷ 58 ∷ 47 ∷ 47 ∷ []), ([])) lookups.NotFound outcomes.Proceed) ∷ []) ≡ record { answers = (answer (replies.ConnectFailed (connects.InvalidUrl refusals.Parse)) ([]) ∷ []); is_all = true }
unfolding computed parsed
connect_002 = refl

pub connect_003 : run Client (turns.Call (calls.Connect ((104 ∷ 116 ∷ 116 ∷ 112 ∷ 115 ∷ 58 ∷ 47 ∷ 47 ∷ 104 ∷ []), ([])) lookups.NotFound outcomes.Proceed) ∷ []) ≡ record { answers = (answer (replies.ConnectFailed connects.DnsNotFound) ([]) ∷ []); is_all = true }
unfolding computed parsed
connect_003 = refl

pub accept_uni_004 : shown (1 ∷ []) (run Server (turns.Connected 9 9 1000 (facts.Limit 1200) ∷ turns.Call (calls.AcceptUni None) ∷ [])) ≡ record { answers = (answer replies.NoSession ([]) ∷ []); is_all = true }
unfolding computed
accept_uni_004 = refl

pub connect_005 : run Client (turns.Call (calls.Connect ((104 ∷ 116 ∷ 116 ∷ 112 ∷ 115 ∷ 58 ∷ 47 ∷ 47 ∷ 49 ∷ 50 ∷ 55 ∷ 46 ∷ 48 ∷ 46 ∷ 48 ∷ 46 ∷ 49 ∷ 47 ∷ []), ([])) lookups.NotFound outcomes.Proceed) ∷ []) ≡ record { answers = (answer replies.Pending (actions.Dial (addresses.V4 2130706433 443) (49 ∷ 50 ∷ 55 ∷ 46 ∷ 48 ∷ 46 ∷ 48 ∷ 46 ∷ 49 ∷ []) ∷ []) ∷ []); is_all = true }
unfolding computed parsed
connect_005 = refl

pub bytes_006 : shown (2 ∷ []) (run Server (turns.Connected 9 9 1000 (facts.Limit 1200) ∷ turns.PeerBi ∷ turns.Bytes 0 (0 ∷ 0 ∷ []) ∷ [])) ≡ record { answers = (answer replies.Done (actions.Close 261 ([]) ∷ []) ∷ []); is_all = true }
unfolding computed
bytes_006 = refl

pub bytes_007 : shown (2 ∷ []) (run Server (turns.Connected 9 9 1000 (facts.Limit 1200) ∷ turns.PeerUni ∷ turns.Bytes 2 (0 ∷ 33 ∷ 0 ∷ []) ∷ [])) ≡ record { answers = (answer replies.Done (actions.Close 266 ([]) ∷ []) ∷ []); is_all = true }
unfolding computed
bytes_007 = refl

pub bytes_008 : shown (2 ∷ []) (run Server (turns.Connected 9 9 1000 (facts.Limit 1200) ∷ turns.PeerUni ∷ turns.Bytes 2 (64 ∷ 84 ∷ 1 ∷ []) ∷ [])) ≡ record { answers = (answer replies.Done (actions.Close 264 ([]) ∷ []) ∷ []); is_all = true }
unfolding computed
bytes_008 = refl

pub bytes_009 : shown (2 ∷ []) (run Server (turns.Connected 9 9 1000 (facts.Limit 1200) ∷ turns.PeerBi ∷ turns.Bytes 0 (1 ∷ 2 ∷ 0 ∷ 0 ∷ []) ∷ [])) ≡ record { answers = (answer replies.Done (actions.StopOut 0 270 ∷ []) ∷ []); is_all = true }
unfolding computed
bytes_009 = refl

pub end_010 : shown (1 ∷ 2 ∷ 3 ∷ []) (run Server (turns.Connected 9 9 1000 (facts.Limit 1200) ∷ turns.PeerBi ∷ turns.Bytes 0 (1 ∷ []) ∷ turns.End 0 ∷ [])) ≡ record { answers = (answer replies.Done ([]) ∷ answer replies.Done ([]) ∷ answer replies.Done ([]) ∷ []); is_all = true }
unfolding computed
end_010 = refl

pub bytes_011 : shown (2 ∷ []) (run Server (turns.Connected 9 9 1000 (facts.Limit 1200) ∷ turns.PeerUni ∷ turns.Bytes 2 (0 ∷ 4 ∷ 1 ∷ 1 ∷ []) ∷ [])) ≡ record { answers = (answer replies.Done (actions.Close 262 ([]) ∷ []) ∷ []); is_all = true }
unfolding computed
bytes_011 = refl

pub bytes_012 : shown (2 ∷ []) (run Server (turns.Connected 9 9 1000 (facts.Limit 1200) ∷ turns.PeerUni ∷ turns.Bytes 2 (0 ∷ 4 ∷ 80 ∷ 1 ∷ []) ∷ [])) ≡ record { answers = (answer replies.Done (actions.Close 263 ([]) ∷ []) ∷ []); is_all = true }
unfolding computed
bytes_012 = refl

pub end_013 : shown (3 ∷ []) (run Server (turns.Connected 9 9 1000 (facts.Limit 1200) ∷ turns.PeerUni ∷ turns.Bytes 2 (64 ∷ []) ∷ turns.End 2 ∷ [])) ≡ record { answers = (answer replies.Done ([]) ∷ []); is_all = true }
unfolding computed
end_013 = refl

pub bytes_014 : shown (2 ∷ []) (run Server (turns.Connected 9 9 1000 (facts.Limit 1200) ∷ turns.PeerBi ∷ turns.Bytes 0 (1 ∷ 3 ∷ 0 ∷ 0 ∷ 193 ∷ []) ∷ [])) ≡ record { answers = (answer replies.Done (actions.Close 512 ([]) ∷ []) ∷ []); is_all = true }
unfolding computed
bytes_014 = refl

pub end_015 : shown (1 ∷ 2 ∷ 3 ∷ []) (run Server (turns.Connected 9 9 1000 (facts.Limit 1200) ∷ turns.PeerBi ∷ turns.Bytes 0 (1 ∷ 64 ∷ []) ∷ turns.End 0 ∷ [])) ≡ record { answers = (answer replies.Done ([]) ∷ answer replies.Done ([]) ∷ answer replies.Done ([]) ∷ []); is_all = true }
unfolding computed
end_015 = refl

pub bytes_016 : shown (2 ∷ []) (run Server (turns.Connected 9 9 1000 (facts.Limit 1200) ∷ turns.PeerUni ∷ turns.Bytes 2 (0 ∷ 4 ∷ 2 ∷ 2 ∷ 0 ∷ []) ∷ [])) ≡ record { answers = (answer replies.Done (actions.Close 265 ([]) ∷ []) ∷ []); is_all = true }
unfolding computed
bytes_016 = refl

pub end_017 : shown (1 ∷ 2 ∷ 3 ∷ []) (run Server (turns.Connected 9 9 1000 (facts.Limit 1200) ∷ turns.PeerBi ∷ turns.Bytes 0 (1 ∷ 64 ∷ 80 ∷ []) ∷ turns.End 0 ∷ [])) ≡ record { answers = (answer replies.Done ([]) ∷ answer replies.Done ([]) ∷ answer replies.Done ([]) ∷ []); is_all = true }
unfolding computed
end_017 = refl

pub end_018 : shown (3 ∷ []) (run Server (turns.Connected 9 9 1000 (facts.Limit 1200) ∷ turns.PeerUni ∷ turns.Bytes 2 (0 ∷ 4 ∷ 0 ∷ []) ∷ turns.End 2 ∷ [])) ≡ record { answers = (answer replies.Done (actions.Close 260 ([]) ∷ []) ∷ []); is_all = true }
unfolding computed
end_018 = refl

pub reset_019 : shown (3 ∷ []) (run Server (turns.Connected 9 9 1000 (facts.Limit 1200) ∷ turns.PeerUni ∷ turns.Bytes 2 (2 ∷ []) ∷ turns.Reset 2 1 ∷ [])) ≡ record { answers = (answer replies.Done (actions.Close 260 ([]) ∷ []) ∷ []); is_all = true }
unfolding computed
reset_019 = refl

pub end_020 : shown (1 ∷ 2 ∷ 3 ∷ []) (run Server (turns.Connected 9 9 1000 (facts.Limit 1200) ∷ turns.PeerBi ∷ turns.Bytes 0 (1 ∷ 64 ∷ 80 ∷ 0 ∷ []) ∷ turns.End 0 ∷ [])) ≡ record { answers = (answer replies.Done ([]) ∷ answer replies.Done ([]) ∷ answer replies.Done ([]) ∷ []); is_all = true }
unfolding computed
end_020 = refl

pub bytes_021 : shown (2 ∷ []) (run Server (turns.Connected 9 9 1000 (facts.Limit 1200) ∷ turns.PeerUni ∷ turns.Bytes 2 (0 ∷ 4 ∷ 4 ∷ 1 ∷ 0 ∷ 1 ∷ 0 ∷ []) ∷ [])) ≡ record { answers = (answer replies.Done (actions.Close 265 ([]) ∷ []) ∷ []); is_all = true }
unfolding computed
bytes_021 = refl

pub end_022 : shown (1 ∷ 2 ∷ 3 ∷ []) (run Server (turns.Connected 9 9 1000 (facts.Limit 1200) ∷ turns.PeerBi ∷ turns.Bytes 0 (1 ∷ 64 ∷ 80 ∷ 0 ∷ 0 ∷ []) ∷ turns.End 0 ∷ [])) ≡ record { answers = (answer replies.Done ([]) ∷ answer replies.Done ([]) ∷ answer replies.Done ([]) ∷ []); is_all = true }
unfolding computed
end_022 = refl

pub end_023 : shown (1 ∷ 2 ∷ 3 ∷ []) (run Server (turns.Connected 9 9 1000 (facts.Limit 1200) ∷ turns.PeerBi ∷ turns.Bytes 0 (1 ∷ 64 ∷ 80 ∷ 0 ∷ 0 ∷ 39 ∷ []) ∷ turns.End 0 ∷ [])) ≡ record { answers = (answer replies.Done ([]) ∷ answer replies.Done ([]) ∷ answer replies.Done ([]) ∷ []); is_all = true }
unfolding computed
end_023 = refl

pub max_data_024 : shown (0 ∷ 2 ∷ []) (run Server (turns.Connected 3 1 24 (facts.Limit 1200) ∷ turns.PeerUni ∷ turns.Bytes 2 (0 ∷ 0 ∷ 0 ∷ []) ∷ turns.MaxData 3 25 ∷ [])) ≡ record { answers = (answer replies.Done (actions.Opened 3 ∷ actions.Send 3 (0 ∷ 4 ∷ 22 ∷ 1 ∷ 0 ∷ 7 ∷ 0 ∷ 8 ∷ 1 ∷ 51 ∷ 1 ∷ 171 ∷ 96 ∷ 55 ∷ 66 ∷ 1 ∷ 192 ∷ 0 ∷ 0 ∷ 0 ∷ 198 ∷ 113 ∷ 112 ∷ 106 ∷ []) ∷ []) ∷ answer replies.Done ([]) ∷ []); is_all = true }
unfolding computed
max_data_024 = refl

pub end_025 : shown (1 ∷ 2 ∷ 3 ∷ []) (run Server (turns.Connected 9 9 1000 (facts.Limit 1200) ∷ turns.PeerBi ∷ turns.Bytes 0 (1 ∷ 64 ∷ 80 ∷ 0 ∷ 0 ∷ 39 ∷ 3 ∷ []) ∷ turns.End 0 ∷ [])) ≡ record { answers = (answer replies.Done ([]) ∷ answer replies.Done ([]) ∷ answer replies.Done ([]) ∷ []); is_all = true }
unfolding computed
end_025 = refl

pub bytes_026 : shown (2 ∷ []) (run Server (turns.Connected 9 9 1000 (facts.Limit 1200) ∷ turns.PeerUni ∷ turns.Bytes 2 (0 ∷ 7 ∷ 5 ∷ 97 ∷ 97 ∷ 97 ∷ 97 ∷ 97 ∷ 4 ∷ 0 ∷ []) ∷ [])) ≡ record { answers = (answer replies.Done ([]) ∷ []); is_all = true }
unfolding computed
bytes_026 = refl

pub end_027 : shown (1 ∷ 2 ∷ 3 ∷ []) (run Server (turns.Connected 9 9 1000 (facts.Limit 1200) ∷ turns.PeerBi ∷ turns.Bytes 0 (1 ∷ 64 ∷ 80 ∷ 0 ∷ 0 ∷ 39 ∷ 3 ∷ 58 ∷ []) ∷ turns.End 0 ∷ [])) ≡ record { answers = (answer replies.Done ([]) ∷ answer replies.Done ([]) ∷ answer replies.Done ([]) ∷ []); is_all = true }
unfolding computed
end_027 = refl

pub end_028 : shown (1 ∷ 2 ∷ 3 ∷ []) (run Server (turns.Connected 9 9 1000 (facts.Limit 1200) ∷ turns.PeerBi ∷ turns.Bytes 0 (1 ∷ 64 ∷ 80 ∷ 0 ∷ 0 ∷ 39 ∷ 3 ∷ 58 ∷ 97 ∷ []) ∷ turns.End 0 ∷ [])) ≡ record { answers = (answer replies.Done ([]) ∷ answer replies.Done ([]) ∷ answer replies.Done ([]) ∷ []); is_all = true }
unfolding computed
end_028 = refl

pub bytes_029 : shown (4 ∷ []) (run Server (turns.Connected 9 9 1000 (facts.Limit 1200) ∷ turns.PeerUni ∷ turns.Bytes 2 (0 ∷ []) ∷ turns.Bytes 2 (33 ∷ []) ∷ turns.Bytes 2 (0 ∷ []) ∷ [])) ≡ record { answers = (answer replies.Done (actions.Close 266 ([]) ∷ []) ∷ []); is_all = true }
unfolding computed
bytes_029 = refl

pub bytes_030 : shown (4 ∷ []) (run Server (turns.Connected 9 9 1000 (facts.Limit 1200) ∷ turns.PeerUni ∷ turns.Bytes 2 (64 ∷ []) ∷ turns.Bytes 2 (84 ∷ []) ∷ turns.Bytes 2 (1 ∷ []) ∷ [])) ≡ record { answers = (answer replies.Done (actions.Close 264 ([]) ∷ []) ∷ []); is_all = true }
unfolding computed
bytes_030 = refl

pub end_031 : shown (1 ∷ 2 ∷ 3 ∷ []) (run Server (turns.Connected 9 9 1000 (facts.Limit 1200) ∷ turns.PeerBi ∷ turns.Bytes 0 (1 ∷ 64 ∷ 80 ∷ 0 ∷ 0 ∷ 39 ∷ 3 ∷ 58 ∷ 97 ∷ 117 ∷ []) ∷ turns.End 0 ∷ [])) ≡ record { answers = (answer replies.Done ([]) ∷ answer replies.Done ([]) ∷ answer replies.Done ([]) ∷ []); is_all = true }
unfolding computed
end_031 = refl

pub end_032 : shown (1 ∷ 2 ∷ 3 ∷ []) (run Server (turns.Connected 9 9 1000 (facts.Limit 1200) ∷ turns.PeerBi ∷ turns.Bytes 0 (1 ∷ 64 ∷ 80 ∷ 0 ∷ 0 ∷ 39 ∷ 3 ∷ 58 ∷ 97 ∷ 117 ∷ 116 ∷ []) ∷ turns.End 0 ∷ [])) ≡ record { answers = (answer replies.Done ([]) ∷ answer replies.Done ([]) ∷ answer replies.Done ([]) ∷ []); is_all = true }
unfolding computed
end_032 = refl

pub end_033 : shown (1 ∷ 2 ∷ 3 ∷ []) (run Server (turns.Connected 9 9 1000 (facts.Limit 1200) ∷ turns.PeerBi ∷ turns.Bytes 0 (1 ∷ 64 ∷ 80 ∷ 0 ∷ 0 ∷ 39 ∷ 3 ∷ 58 ∷ 97 ∷ 117 ∷ 116 ∷ 104 ∷ []) ∷ turns.End 0 ∷ [])) ≡ record { answers = (answer replies.Done ([]) ∷ answer replies.Done ([]) ∷ answer replies.Done ([]) ∷ []); is_all = true }
unfolding computed
end_033 = refl

pub end_034 : shown (1 ∷ 2 ∷ 3 ∷ []) (run Server (turns.Connected 9 9 1000 (facts.Limit 1200) ∷ turns.PeerBi ∷ turns.Bytes 0 (1 ∷ 64 ∷ 80 ∷ 0 ∷ 0 ∷ 39 ∷ 3 ∷ 58 ∷ 97 ∷ 117 ∷ 116 ∷ 104 ∷ 111 ∷ []) ∷ turns.End 0 ∷ [])) ≡ record { answers = (answer replies.Done ([]) ∷ answer replies.Done ([]) ∷ answer replies.Done ([]) ∷ []); is_all = true }
unfolding computed
end_034 = refl

pub bytes_035 : shown (2 ∷ []) (run Server (turns.Connected 9 9 1000 (facts.Limit 1200) ∷ turns.PeerBi ∷ turns.Bytes 0 (1 ∷ 15 ∷ 0 ∷ 0 ∷ 39 ∷ 0 ∷ 58 ∷ 109 ∷ 101 ∷ 116 ∷ 104 ∷ 111 ∷ 100 ∷ 3 ∷ 71 ∷ 69 ∷ 84 ∷ []) ∷ [])) ≡ record { answers = (answer replies.Done (actions.StopOut 0 267 ∷ []) ∷ []); is_all = true }
unfolding computed
bytes_035 = refl

pub end_036 : shown (1 ∷ 2 ∷ 3 ∷ []) (run Server (turns.Connected 9 9 1000 (facts.Limit 1200) ∷ turns.PeerBi ∷ turns.Bytes 0 (1 ∷ 64 ∷ 80 ∷ 0 ∷ 0 ∷ 39 ∷ 3 ∷ 58 ∷ 97 ∷ 117 ∷ 116 ∷ 104 ∷ 111 ∷ 114 ∷ []) ∷ turns.End 0 ∷ [])) ≡ record { answers = (answer replies.Done ([]) ∷ answer replies.Done ([]) ∷ answer replies.Done ([]) ∷ []); is_all = true }
unfolding computed
end_036 = refl
