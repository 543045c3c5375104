-- Recorded sessions: what the definitions give is what was recorded. Made by `tools/meaning lemmas`.
use Rattle.std.specs.Prelude.{[], ◌∷◌, ◌≡◌, None, Some, pos, true}
use Rattle.std.proofs.Common.{refl}
use Rattle.wt_meaning.proofs.Recorded.{computed, parsed}
use Rattle.wt_meaning.specs.Meaning.{run}
use Rattle.wt_meaning.specs.Rows.{answer}
use Rattle.wt_wire.specs.declared.side.Side.TheVariants.{Client, Server}
use Rattle.wt_turn.specs.declared.action.Action.TheVariants as actions
use Rattle.wt_wire.specs.declared.addr.Addr.TheVariants as addresses
use Rattle.wt_turn.specs.declared.call.Call.TheVariants as calls
use Rattle.wt_turn.specs.declared.connecting_error.ConnectingError.TheVariants as connects
use Rattle.wt_turn.specs.declared.stream_error.SendDatagramError.TheVariants as datagrams
use Rattle.wt_turn.specs.declared.connection_error.ConnectionError.TheVariants as errors
use Rattle.wt_turn.specs.declared.datagram_fact.DatagramFact.TheVariants as facts
use Rattle.wt_wire.specs.declared.lookup.Lookup.TheVariants as lookups
use Rattle.wt_wire.specs.declared.lookup.ConnectOutcome.TheVariants as outcomes
use Rattle.wt_turn.specs.declared.loss.LossReason.TheVariants as losses
use Rattle.wt_turn.specs.declared.connecting_error.UrlRefusal.TheVariants as refusals
use Rattle.wt_turn.specs.declared.reply.Reply.TheVariants as replies
use Rattle.wt_turn.specs.declared.turn.Turn.TheVariants as turns
use Rattle.wt_turn.specs.declared.stream_error.StreamWriteError.TheVariants as writes

pub trace_0052 : run Client (turns.Call (calls.Connect ((72 ∷ 84 ∷ 84 ∷ 80 ∷ 83 ∷ 58 ∷ 47 ∷ 47 ∷ 47 ∷ 64 ∷ 91 ∷ 49 ∷ 58 ∷ 50 ∷ 58 ∷ 58 ∷ 51 ∷ 46 ∷ 52 ∷ 46 ∷ 53 ∷ 46 ∷ 54 ∷ 93 ∷ 58 ∷ 54 ∷ 53 ∷ 53 ∷ 51 ∷ 54 ∷ 47 ∷ []), ([])) (lookups.Fault (110 ∷ 111 ∷ [])) outcomes.Proceed) ∷ []) ≡ record { answers = (answer (replies.ConnectFailed (connects.InvalidUrl refusals.Parse)) ([]) ∷ []); is_all = true }
unfolding computed parsed
trace_0052 = refl

pub trace_0053 : run Server (turns.Connected 3 1 40 (facts.Limit 1200) ∷ turns.PeerBi ∷ turns.Bytes 0 (13 ∷ 1 ∷ []) ∷ turns.PeerUni ∷ turns.Bytes 2 (0 ∷ 2 ∷ 2 ∷ 23 ∷ 177 ∷ 3 ∷ 3 ∷ 92 ∷ 123 ∷ 141 ∷ 4 ∷ 0 ∷ []) ∷ turns.Bytes 0 (13 ∷ 1 ∷ 64 ∷ 80 ∷ 0 ∷ []) ∷ turns.Bytes 0 (0 ∷ []) ∷ turns.Bytes 0 (39 ∷ 3 ∷ 58 ∷ 97 ∷ 117 ∷ 116 ∷ 104 ∷ 111 ∷ 114 ∷ 105 ∷ 116 ∷ 121 ∷ 1 ∷ 104 ∷ 39 ∷ 0 ∷ 58 ∷ 109 ∷ 101 ∷ 116 ∷ 104 ∷ 111 ∷ 100 ∷ 7 ∷ 67 ∷ 79 ∷ 78 ∷ 78 ∷ 69 ∷ 67 ∷ 84 ∷ 39 ∷ 2 ∷ 58 ∷ 112 ∷ 114 ∷ 111 ∷ 116 ∷ 111 ∷ 99 ∷ 111 ∷ 108 ∷ 12 ∷ 119 ∷ 101 ∷ 98 ∷ 116 ∷ 114 ∷ 97 ∷ 110 ∷ 115 ∷ 112 ∷ 111 ∷ 114 ∷ 116 ∷ 37 ∷ 58 ∷ 112 ∷ 97 ∷ 116 ∷ 104 ∷ 1 ∷ 47 ∷ 39 ∷ 0 ∷ 58 ∷ 115 ∷ 99 ∷ 104 ∷ 101 ∷ 109 ∷ 101 ∷ 5 ∷ 104 ∷ 116 ∷ 116 ∷ 112 ∷ 115 ∷ []) ∷ turns.Call calls.Incoming ∷ turns.Call (calls.Accept (((97 ∷ []), (98 ∷ 98 ∷ 98 ∷ 98 ∷ 98 ∷ 98 ∷ 98 ∷ 98 ∷ 98 ∷ 98 ∷ 98 ∷ 98 ∷ 98 ∷ 98 ∷ 98 ∷ 98 ∷ 98 ∷ 98 ∷ 98 ∷ 98 ∷ 98 ∷ 98 ∷ 98 ∷ 98 ∷ 98 ∷ 98 ∷ 98 ∷ 98 ∷ 98 ∷ 98 ∷ 98 ∷ 98 ∷ 98 ∷ 98 ∷ 98 ∷ 98 ∷ 98 ∷ 98 ∷ 98 ∷ 98 ∷ 98 ∷ 98 ∷ 98 ∷ 98 ∷ 98 ∷ 98 ∷ 98 ∷ 98 ∷ 98 ∷ 98 ∷ 98 ∷ 98 ∷ 98 ∷ 98 ∷ 98 ∷ 98 ∷ 98 ∷ 98 ∷ 98 ∷ 98 ∷ 98 ∷ 98 ∷ 98 ∷ 98 ∷ 98 ∷ 98 ∷ 98 ∷ 98 ∷ 98 ∷ 98 ∷ 98 ∷ 98 ∷ 98 ∷ 98 ∷ 98 ∷ 98 ∷ 98 ∷ 98 ∷ 98 ∷ 98 ∷ 98 ∷ 98 ∷ 98 ∷ 98 ∷ 98 ∷ 98 ∷ 98 ∷ 98 ∷ 98 ∷ 98 ∷ 98 ∷ 98 ∷ 98 ∷ 98 ∷ 98 ∷ 98 ∷ 98 ∷ 98 ∷ 98 ∷ 98 ∷ 98 ∷ 98 ∷ 98 ∷ 98 ∷ 98 ∷ 98 ∷ 98 ∷ 98 ∷ 98 ∷ 98 ∷ 98 ∷ 98 ∷ 98 ∷ 98 ∷ 98 ∷ 98 ∷ 98 ∷ 98 ∷ 98 ∷ 98 ∷ 98 ∷ 98 ∷ 98 ∷ 98 ∷ 98 ∷ 98 ∷ 98 ∷ 98 ∷ 98 ∷ 98 ∷ 98 ∷ 98 ∷ 98 ∷ 98 ∷ 98 ∷ 98 ∷ 98 ∷ 98 ∷ 98 ∷ 98 ∷ 98 ∷ 98 ∷ 98 ∷ 98 ∷ 98 ∷ 98 ∷ 98 ∷ 98 ∷ 98 ∷ 98 ∷ 98 ∷ 98 ∷ 98 ∷ 98 ∷ 98 ∷ 98 ∷ 98 ∷ 98 ∷ 98 ∷ 98 ∷ 98 ∷ 98 ∷ 98 ∷ 98 ∷ 98 ∷ 98 ∷ 98 ∷ 98 ∷ 98 ∷ 98 ∷ 98 ∷ 98 ∷ 98 ∷ 98 ∷ 98 ∷ 98 ∷ 98 ∷ 98 ∷ 98 ∷ 98 ∷ 98 ∷ 98 ∷ 98 ∷ 98 ∷ 98 ∷ 98 ∷ 98 ∷ 98 ∷ 98 ∷ 98 ∷ 98 ∷ 98 ∷ 98 ∷ 98 ∷ 98 ∷ 98 ∷ 98 ∷ 98 ∷ 98 ∷ 98 ∷ [])) ∷ [])) ∷ turns.MaxData 0 140 ∷ turns.MaxData 0 150 ∷ turns.MaxData 0 151 ∷ turns.Call calls.Handshake ∷ turns.MaxData 0 1151 ∷ turns.MaxData 0 2151 ∷ turns.Call calls.Handshake ∷ []) ≡ record { answers = (answer replies.Done (actions.Opened 3 ∷ actions.Send 3 (0 ∷ 4 ∷ 22 ∷ 1 ∷ 0 ∷ 7 ∷ 0 ∷ 8 ∷ 1 ∷ 51 ∷ 1 ∷ 171 ∷ 96 ∷ 55 ∷ 66 ∷ 1 ∷ 192 ∷ 0 ∷ 0 ∷ 0 ∷ 198 ∷ 113 ∷ 112 ∷ 106 ∷ 4 ∷ []) ∷ []) ∷ answer replies.Done ([]) ∷ answer replies.Done ([]) ∷ answer replies.Done ([]) ∷ answer replies.Done ([]) ∷ answer replies.Done ([]) ∷ answer replies.Done ([]) ∷ answer replies.Done ([]) ∷ answer (replies.Request 0 (((58 ∷ 97 ∷ 117 ∷ 116 ∷ 104 ∷ 111 ∷ 114 ∷ 105 ∷ 116 ∷ 121 ∷ []), (104 ∷ [])) ∷ ((58 ∷ 109 ∷ 101 ∷ 116 ∷ 104 ∷ 111 ∷ 100 ∷ []), (67 ∷ 79 ∷ 78 ∷ 78 ∷ 69 ∷ 67 ∷ 84 ∷ [])) ∷ ((58 ∷ 112 ∷ 97 ∷ 116 ∷ 104 ∷ []), (47 ∷ [])) ∷ ((58 ∷ 112 ∷ 114 ∷ 111 ∷ 116 ∷ 111 ∷ 99 ∷ 111 ∷ 108 ∷ []), (119 ∷ 101 ∷ 98 ∷ 116 ∷ 114 ∷ 97 ∷ 110 ∷ 115 ∷ 112 ∷ 111 ∷ 114 ∷ 116 ∷ [])) ∷ ((58 ∷ 115 ∷ 99 ∷ 104 ∷ 101 ∷ 109 ∷ 101 ∷ []), (104 ∷ 116 ∷ 116 ∷ 112 ∷ 115 ∷ [])) ∷ [])) ([]) ∷ answer replies.Pending (actions.Send 0 (1 ∷ 64 ∷ 219 ∷ 0 ∷ 0 ∷ 39 ∷ 0 ∷ 58 ∷ 115 ∷ 116 ∷ 97 ∷ 116 ∷ 117 ∷ 115 ∷ 3 ∷ 50 ∷ 48 ∷ 48 ∷ 33 ∷ 97 ∷ 127 ∷ 73 ∷ 98 ∷ 98 ∷ 98 ∷ 98 ∷ 98 ∷ 98 ∷ 98 ∷ 98 ∷ 98 ∷ 98 ∷ 98 ∷ 98 ∷ 98 ∷ 98 ∷ 98 ∷ 98 ∷ 98 ∷ 98 ∷ []) ∷ []) ∷ answer replies.Done ([]) ∷ answer replies.Done ([]) ∷ answer replies.Done ([]) ∷ answer replies.Pending (actions.Send 0 (98 ∷ 98 ∷ 98 ∷ 98 ∷ 98 ∷ 98 ∷ 98 ∷ 98 ∷ 98 ∷ 98 ∷ 98 ∷ 98 ∷ 98 ∷ 98 ∷ 98 ∷ 98 ∷ 98 ∷ 98 ∷ 98 ∷ 98 ∷ 98 ∷ 98 ∷ 98 ∷ 98 ∷ 98 ∷ 98 ∷ 98 ∷ 98 ∷ 98 ∷ 98 ∷ 98 ∷ 98 ∷ 98 ∷ 98 ∷ 98 ∷ 98 ∷ 98 ∷ 98 ∷ 98 ∷ 98 ∷ 98 ∷ 98 ∷ 98 ∷ 98 ∷ 98 ∷ 98 ∷ 98 ∷ 98 ∷ 98 ∷ 98 ∷ 98 ∷ 98 ∷ 98 ∷ 98 ∷ 98 ∷ 98 ∷ 98 ∷ 98 ∷ 98 ∷ 98 ∷ 98 ∷ 98 ∷ 98 ∷ 98 ∷ 98 ∷ 98 ∷ 98 ∷ 98 ∷ 98 ∷ 98 ∷ 98 ∷ 98 ∷ 98 ∷ 98 ∷ 98 ∷ 98 ∷ 98 ∷ 98 ∷ 98 ∷ 98 ∷ 98 ∷ 98 ∷ 98 ∷ 98 ∷ 98 ∷ 98 ∷ 98 ∷ 98 ∷ 98 ∷ 98 ∷ 98 ∷ 98 ∷ 98 ∷ 98 ∷ 98 ∷ 98 ∷ 98 ∷ 98 ∷ 98 ∷ 98 ∷ 98 ∷ 98 ∷ 98 ∷ 98 ∷ 98 ∷ 98 ∷ 98 ∷ 98 ∷ 98 ∷ 98 ∷ 98 ∷ []) ∷ []) ∷ answer replies.Done ([]) ∷ answer replies.Done ([]) ∷ answer (replies.Session 0) (actions.Send 0 (98 ∷ 98 ∷ 98 ∷ 98 ∷ 98 ∷ 98 ∷ 98 ∷ 98 ∷ 98 ∷ 98 ∷ 98 ∷ 98 ∷ 98 ∷ 98 ∷ 98 ∷ 98 ∷ 98 ∷ 98 ∷ 98 ∷ 98 ∷ 98 ∷ 98 ∷ 98 ∷ 98 ∷ 98 ∷ 98 ∷ 98 ∷ 98 ∷ 98 ∷ 98 ∷ 98 ∷ 98 ∷ 98 ∷ 98 ∷ 98 ∷ 98 ∷ 98 ∷ 98 ∷ 98 ∷ 98 ∷ 98 ∷ 98 ∷ 98 ∷ 98 ∷ 98 ∷ 98 ∷ 98 ∷ 98 ∷ 98 ∷ 98 ∷ 98 ∷ 98 ∷ 98 ∷ 98 ∷ 98 ∷ 98 ∷ 98 ∷ 98 ∷ 98 ∷ 98 ∷ 98 ∷ 98 ∷ 98 ∷ 98 ∷ 98 ∷ 98 ∷ 98 ∷ 98 ∷ 98 ∷ 98 ∷ 98 ∷ []) ∷ []) ∷ []); is_all = true }
unfolding computed
trace_0053 = refl

pub trace_0055 : run Client (turns.Call (calls.Connect ((104 ∷ 116 ∷ 116 ∷ 112 ∷ 115 ∷ 58 ∷ 47 ∷ 47 ∷ 104 ∷ 58 ∷ 52 ∷ 52 ∷ 51 ∷ 51 ∷ 47 ∷ 112 ∷ 63 ∷ 113 ∷ []), ([])) (lookups.Found (addresses.V4 2130706433 4433)) outcomes.Proceed) ∷ turns.Connected 2 9 10 (facts.Limit 0) ∷ turns.PeerUni ∷ turns.MaxData 2 1000 ∷ turns.Bytes 3 (0 ∷ 4 ∷ 24 ∷ 6 ∷ 67 ∷ 232 ∷ 33 ∷ 5 ∷ 8 ∷ 1 ∷ 7 ∷ 255 ∷ 255 ∷ 255 ∷ 255 ∷ 255 ∷ 255 ∷ 255 ∷ 255 ∷ 171 ∷ 96 ∷ 55 ∷ 66 ∷ 67 ∷ 232 ∷ 1 ∷ 1 ∷ []) ∷ turns.Call calls.Handshake ∷ turns.MaxData 0 1010 ∷ turns.Bytes 0 (5 ∷ 0 ∷ 1 ∷ 15 ∷ 0 ∷ 0 ∷ 39 ∷ 0 ∷ 58 ∷ 115 ∷ 116 ∷ 97 ∷ 116 ∷ 117 ∷ 115 ∷ 3 ∷ 52 ∷ 48 ∷ 52 ∷ []) ∷ turns.Call calls.Handshake ∷ turns.PeerUni ∷ []) ≡ record { answers = (answer replies.Pending (actions.Dial (addresses.V4 2130706433 4433) (104 ∷ []) ∷ []) ∷ answer replies.Done (actions.Opened 2 ∷ actions.Send 2 (0 ∷ 4 ∷ 22 ∷ 1 ∷ 0 ∷ 7 ∷ 0 ∷ 8 ∷ 1 ∷ 51 ∷ []) ∷ []) ∷ answer replies.Done ([]) ∷ answer replies.Done (actions.Send 2 (1 ∷ 171 ∷ 96 ∷ 55 ∷ 66 ∷ 1 ∷ 192 ∷ 0 ∷ 0 ∷ 0 ∷ 198 ∷ 113 ∷ 112 ∷ 106 ∷ 4 ∷ []) ∷ []) ∷ answer replies.Done ([]) ∷ answer replies.Pending (actions.Opened 0 ∷ actions.Send 0 (1 ∷ 64 ∷ 88 ∷ 0 ∷ 0 ∷ 39 ∷ 3 ∷ 58 ∷ 97 ∷ 117 ∷ []) ∷ []) ∷ answer replies.Done ([]) ∷ answer replies.Done ([]) ∷ answer (replies.ConnectFailed connects.SessionRejected) (actions.Send 0 (116 ∷ 104 ∷ 111 ∷ 114 ∷ 105 ∷ 116 ∷ 121 ∷ 6 ∷ 104 ∷ 58 ∷ 52 ∷ 52 ∷ 51 ∷ 51 ∷ 39 ∷ 0 ∷ 58 ∷ 109 ∷ 101 ∷ 116 ∷ 104 ∷ 111 ∷ 100 ∷ 7 ∷ 67 ∷ 79 ∷ 78 ∷ 78 ∷ 69 ∷ 67 ∷ 84 ∷ 37 ∷ 58 ∷ 112 ∷ 97 ∷ 116 ∷ 104 ∷ 4 ∷ 47 ∷ 112 ∷ 63 ∷ 113 ∷ 39 ∷ 2 ∷ 58 ∷ 112 ∷ 114 ∷ 111 ∷ 116 ∷ 111 ∷ 99 ∷ 111 ∷ 108 ∷ 12 ∷ 119 ∷ 101 ∷ 98 ∷ 116 ∷ 114 ∷ 97 ∷ 110 ∷ 115 ∷ 112 ∷ 111 ∷ 114 ∷ 116 ∷ 39 ∷ 0 ∷ 58 ∷ 115 ∷ 99 ∷ 104 ∷ 101 ∷ 109 ∷ 101 ∷ 5 ∷ 104 ∷ 116 ∷ 116 ∷ 112 ∷ 115 ∷ []) ∷ actions.Close 0 ([]) ∷ []) ∷ answer replies.Done ([]) ∷ []); is_all = true }
unfolding computed parsed
trace_0055 = refl

pub trace_0058 : run Client (turns.Call (calls.Connect ((104 ∷ 116 ∷ 116 ∷ 112 ∷ 115 ∷ 58 ∷ 47 ∷ 47 ∷ 117 ∷ 58 ∷ 112 ∷ 64 ∷ 49 ∷ 46 ∷ 50 ∷ 46 ∷ 51 ∷ 46 ∷ 52 ∷ 46 ∷ 53 ∷ 47 ∷ 59 ∷ 37 ∷ 50 ∷ 101 ∷ 92 ∷ []), ([])) (lookups.Found (addresses.V4 2130706433 4433)) outcomes.Proceed) ∷ []) ≡ record { answers = (answer (replies.ConnectFailed (connects.InvalidUrl refusals.Parse)) ([]) ∷ []); is_all = true }
unfolding computed parsed
trace_0058 = refl

pub trace_0062 : run Client (turns.Call (calls.Connect ((117 ∷ 64 ∷ 104 ∷ 37 ∷ 50 ∷ 70 ∷ 58 ∷ 56 ∷ 48 ∷ []), ([])) (lookups.Found (addresses.V4 2130706433 4433)) outcomes.Proceed) ∷ []) ≡ record { answers = (answer (replies.ConnectFailed (connects.InvalidUrl refusals.Parse)) ([]) ∷ []); is_all = true }
unfolding computed parsed
trace_0062 = refl

pub trace_0065 : run Client (turns.Call (calls.Connect ((104 ∷ 116 ∷ 116 ∷ 112 ∷ 115 ∷ 58 ∷ 47 ∷ 47 ∷ 50 ∷ 53 ∷ 54 ∷ 46 ∷ 49 ∷ 58 ∷ 120 ∷ []), ([])) (lookups.Found (addresses.V4 2130706433 4433)) outcomes.Proceed) ∷ []) ≡ record { answers = (answer (replies.ConnectFailed (connects.InvalidUrl refusals.Parse)) ([]) ∷ []); is_all = true }
unfolding computed parsed
trace_0065 = refl

pub trace_0067 : run Client (turns.Call (calls.Connect ((104 ∷ 116 ∷ 116 ∷ 112 ∷ 115 ∷ 58 ∷ 47 ∷ 47 ∷ 91 ∷ 58 ∷ 58 ∷ 49 ∷ 93 ∷ 58 ∷ 57 ∷ 57 ∷ 47 ∷ 120 ∷ 63 ∷ 121 ∷ 35 ∷ 122 ∷ []), ([])) (lookups.Found (addresses.V4 2130706433 4433)) outcomes.Proceed) ∷ turns.Connected 9 0 10 (facts.Limit 0) ∷ turns.MaxData 2 25 ∷ turns.PeerUni ∷ turns.Bytes 3 (0 ∷ 4 ∷ 28 ∷ 192 ∷ 0 ∷ 0 ∷ 0 ∷ 198 ∷ 113 ∷ 112 ∷ 106 ∷ 0 ∷ 7 ∷ 0 ∷ 64 ∷ 64 ∷ 26 ∷ 171 ∷ 96 ∷ 55 ∷ 66 ∷ 5 ∷ 8 ∷ 192 ∷ 0 ∷ 0 ∷ 0 ∷ 0 ∷ 0 ∷ 0 ∷ 0 ∷ []) ∷ turns.MaxBi 2 ∷ turns.Call calls.Handshake ∷ turns.MaxData 0 11 ∷ turns.Bytes 0 (1 ∷ 15 ∷ 0 ∷ []) ∷ turns.Bytes 0 (0 ∷ 39 ∷ 0 ∷ 58 ∷ 115 ∷ 116 ∷ 97 ∷ 116 ∷ 117 ∷ 115 ∷ 3 ∷ 50 ∷ 48 ∷ 49 ∷ []) ∷ turns.Call calls.Handshake ∷ turns.MaxData 0 1011 ∷ turns.Call calls.Handshake ∷ turns.PeerBi ∷ turns.Call (calls.AcceptBi (Some 0)) ∷ turns.Call (calls.PollOpening 1) ∷ turns.Call (calls.AcceptUni (Some 0)) ∷ turns.DatagramLimit (facts.Limit 1200) ∷ turns.Call (calls.AcceptUni (Some 400)) ∷ turns.Call (calls.OpenUni (Some 0)) ∷ turns.Call (calls.PollOpening 6) ∷ turns.Call (calls.Write 6 ([])) ∷ turns.Call (calls.OpenBi (Some 0)) ∷ turns.Call (calls.OpenBi (Some 0)) ∷ turns.Bytes 1 (64 ∷ 65 ∷ 64 ∷ 64 ∷ 239 ∷ []) ∷ turns.Call (calls.PollOpening 4) ∷ turns.Call (calls.WriteAll 4 ([])) ∷ turns.Call (calls.PollOpening 2) ∷ turns.Call (calls.Write 4 (119 ∷ 117 ∷ 29 ∷ 126 ∷ 112 ∷ [])) ∷ turns.Call (calls.AcceptUni (Some 0)) ∷ turns.Call (calls.AcceptBi (Some 0)) ∷ turns.Call (calls.AcceptUni (Some 0)) ∷ turns.Bytes 4 (225 ∷ 80 ∷ 5 ∷ []) ∷ turns.Call (calls.AcceptBi (Some 0)) ∷ turns.Call (calls.OpenBi (Some 0)) ∷ turns.Call (calls.Stopped 6) ∷ turns.Call (calls.PollOpening 4) ∷ turns.Loss losses.VersionMismatch ∷ turns.Call (calls.ReceiveDatagram (Some 0)) ∷ turns.Call (calls.AcceptUni (Some 0)) ∷ turns.Call (calls.SessionId (Some 0)) ∷ turns.Call (calls.Read 4 1) ∷ turns.Call (calls.Write 6 (26 ∷ 141 ∷ [])) ∷ turns.Call (calls.PollOpening 2) ∷ turns.Call (calls.ReceiveDatagram (Some 0)) ∷ turns.Call (calls.AcceptBi (Some 64)) ∷ turns.Call (calls.EndSession (Some 0)) ∷ turns.Call (calls.Write 6 (230 ∷ 234 ∷ [])) ∷ turns.Call (calls.WriteAll 4 (185 ∷ [])) ∷ turns.Call (calls.ReceiveDatagram None) ∷ turns.Call (calls.Finish 6) ∷ turns.Call (calls.PollOpening 2) ∷ turns.Call (calls.WriteAll 4 (251 ∷ 158 ∷ [])) ∷ turns.Call (calls.Stopped 4) ∷ turns.Call (calls.AcceptBi None) ∷ turns.Call (calls.AcceptBi (Some 0)) ∷ turns.Call (calls.StopRecv 4 256) ∷ turns.Call (calls.AcceptBi (Some 4611686018427387900)) ∷ turns.Call (calls.Read 4 18446744073709551615) ∷ turns.Call (calls.Finish 4) ∷ turns.Call (calls.Write 4 (231 ∷ 7 ∷ 21 ∷ 41 ∷ 26 ∷ 223 ∷ 86 ∷ 30 ∷ 202 ∷ 158 ∷ 127 ∷ 243 ∷ 195 ∷ 122 ∷ 22 ∷ 67 ∷ 62 ∷ 206 ∷ 70 ∷ 229 ∷ 141 ∷ 228 ∷ 207 ∷ 38 ∷ 77 ∷ 211 ∷ 98 ∷ 86 ∷ 228 ∷ 253 ∷ [])) ∷ turns.Call (calls.SendDatagram (20 ∷ 221 ∷ 81 ∷ 52 ∷ 65 ∷ []) None) ∷ turns.Call (calls.AcceptBi (Some 64)) ∷ turns.Call (calls.WriteAll 6 (91 ∷ 50 ∷ [])) ∷ turns.Call (calls.AcceptBi None) ∷ turns.Call (calls.WriteAll 4 (206 ∷ 9 ∷ 27 ∷ 204 ∷ 89 ∷ [])) ∷ turns.Call (calls.AcceptBi (Some 64)) ∷ turns.Call (calls.PollOpening 0) ∷ turns.Call (calls.OpenBi None) ∷ turns.Call (calls.Finish 6) ∷ turns.Call (calls.WriteAll 6 (107 ∷ 238 ∷ 93 ∷ 202 ∷ 183 ∷ [])) ∷ turns.Call (calls.PollOpening 6) ∷ turns.Call (calls.Write 6 (226 ∷ 165 ∷ 163 ∷ 41 ∷ 204 ∷ [])) ∷ turns.Call (calls.WriteAll 6 ([])) ∷ turns.Call (calls.WriteAll 6 ([])) ∷ turns.Call (calls.WriteAll 6 (161 ∷ 86 ∷ 161 ∷ 58 ∷ 181 ∷ [])) ∷ turns.Call (calls.ResetSend 4 386759528) ∷ turns.Call (calls.AcceptUni None) ∷ turns.Call (calls.OpenBi None) ∷ turns.Call (calls.AcceptBi None) ∷ turns.Call (calls.AcceptUni (Some 0)) ∷ turns.Call (calls.Read 4 2) ∷ turns.Call (calls.PollOpening 2) ∷ turns.Call (calls.AcceptBi (Some 64)) ∷ []) ≡ record { answers = (answer replies.Pending (actions.Dial (addresses.V6 1 99) (58 ∷ 58 ∷ 49 ∷ []) ∷ []) ∷ answer replies.Done (actions.Opened 2 ∷ actions.Send 2 (0 ∷ 4 ∷ 22 ∷ 1 ∷ 0 ∷ 7 ∷ 0 ∷ 8 ∷ 1 ∷ 51 ∷ []) ∷ []) ∷ answer replies.Done (actions.Send 2 (1 ∷ 171 ∷ 96 ∷ 55 ∷ 66 ∷ 1 ∷ 192 ∷ 0 ∷ 0 ∷ 0 ∷ 198 ∷ 113 ∷ 112 ∷ 106 ∷ 4 ∷ []) ∷ []) ∷ answer replies.Done ([]) ∷ answer replies.Done ([]) ∷ answer replies.Done ([]) ∷ answer replies.Pending (actions.Opened 0 ∷ actions.Send 0 (1 ∷ 64 ∷ 90 ∷ 0 ∷ 0 ∷ 39 ∷ 3 ∷ 58 ∷ 97 ∷ 117 ∷ []) ∷ []) ∷ answer replies.Done ([]) ∷ answer replies.Done ([]) ∷ answer replies.Done ([]) ∷ answer replies.Pending (actions.Send 0 (116 ∷ []) ∷ []) ∷ answer replies.Done ([]) ∷ answer (replies.Session 0) (actions.Send 0 (104 ∷ 111 ∷ 114 ∷ 105 ∷ 116 ∷ 121 ∷ 8 ∷ 91 ∷ 58 ∷ 58 ∷ 49 ∷ 93 ∷ 58 ∷ 57 ∷ 57 ∷ 39 ∷ 0 ∷ 58 ∷ 109 ∷ 101 ∷ 116 ∷ 104 ∷ 111 ∷ 100 ∷ 7 ∷ 67 ∷ 79 ∷ 78 ∷ 78 ∷ 69 ∷ 67 ∷ 84 ∷ 37 ∷ 58 ∷ 112 ∷ 97 ∷ 116 ∷ 104 ∷ 4 ∷ 47 ∷ 120 ∷ 63 ∷ 121 ∷ 39 ∷ 2 ∷ 58 ∷ 112 ∷ 114 ∷ 111 ∷ 116 ∷ 111 ∷ 99 ∷ 111 ∷ 108 ∷ 12 ∷ 119 ∷ 101 ∷ 98 ∷ 116 ∷ 114 ∷ 97 ∷ 110 ∷ 115 ∷ 112 ∷ 111 ∷ 114 ∷ 116 ∷ 39 ∷ 0 ∷ 58 ∷ 115 ∷ 99 ∷ 104 ∷ 101 ∷ 109 ∷ 101 ∷ 5 ∷ 104 ∷ 116 ∷ 116 ∷ 112 ∷ 115 ∷ []) ∷ []) ∷ answer replies.Done ([]) ∷ answer replies.Pending ([]) ∷ answer replies.NoStream ([]) ∷ answer replies.Pending ([]) ∷ answer replies.Done ([]) ∷ answer replies.NoSession ([]) ∷ answer (replies.Opening 6) (actions.Opened 6 ∷ []) ∷ answer (replies.SendReady 6) (actions.Send 6 (64 ∷ 84 ∷ 0 ∷ []) ∷ []) ∷ answer (replies.Written 0) ([]) ∷ answer (replies.Opening 4) (actions.Opened 4 ∷ []) ∷ answer replies.Pending ([]) ∷ answer replies.Done ([]) ∷ answer (replies.BiReady 4) (actions.Send 4 (64 ∷ 65 ∷ 0 ∷ []) ∷ []) ∷ answer replies.AllWritten ([]) ∷ answer replies.NoStream ([]) ∷ answer (replies.Written 5) (actions.Send 4 (119 ∷ 117 ∷ 29 ∷ 126 ∷ 112 ∷ []) ∷ []) ∷ answer replies.Pending ([]) ∷ answer replies.Pending ([]) ∷ answer replies.Pending ([]) ∷ answer replies.Done ([]) ∷ answer replies.Pending ([]) ∷ answer replies.Pending ([]) ∷ answer replies.Pending ([]) ∷ answer replies.NoStream ([]) ∷ answer replies.Done ([]) ∷ answer (replies.Failed (errors.QuicProto (record { code = None; reason = (81 ∷ 85 ∷ 73 ∷ 67 ∷ 32 ∷ 112 ∷ 114 ∷ 111 ∷ 116 ∷ 111 ∷ 99 ∷ 111 ∷ 108 ∷ 32 ∷ 118 ∷ 101 ∷ 114 ∷ 115 ∷ 105 ∷ 111 ∷ 110 ∷ 32 ∷ 109 ∷ 105 ∷ 115 ∷ 109 ∷ 97 ∷ 116 ∷ 99 ∷ 104 ∷ 101 ∷ 100 ∷ []) }))) ([]) ∷ answer (replies.Failed (errors.QuicProto (record { code = None; reason = (81 ∷ 85 ∷ 73 ∷ 67 ∷ 32 ∷ 112 ∷ 114 ∷ 111 ∷ 116 ∷ 111 ∷ 99 ∷ 111 ∷ 108 ∷ 32 ∷ 118 ∷ 101 ∷ 114 ∷ 115 ∷ 105 ∷ 111 ∷ 110 ∷ 32 ∷ 109 ∷ 105 ∷ 115 ∷ 109 ∷ 97 ∷ 116 ∷ 99 ∷ 104 ∷ 101 ∷ 100 ∷ []) }))) ([]) ∷ answer (replies.Id 0) ([]) ∷ answer (replies.Read (Some (225 ∷ []))) ([]) ∷ answer (replies.WriteFailed writes.NotConnected) ([]) ∷ answer replies.NoStream ([]) ∷ answer (replies.Failed (errors.QuicProto (record { code = None; reason = (81 ∷ 85 ∷ 73 ∷ 67 ∷ 32 ∷ 112 ∷ 114 ∷ 111 ∷ 116 ∷ 111 ∷ 99 ∷ 111 ∷ 108 ∷ 32 ∷ 118 ∷ 101 ∷ 114 ∷ 115 ∷ 105 ∷ 111 ∷ 110 ∷ 32 ∷ 109 ∷ 105 ∷ 115 ∷ 109 ∷ 97 ∷ 116 ∷ 99 ∷ 104 ∷ 101 ∷ 100 ∷ []) }))) ([]) ∷ answer replies.NoSession ([]) ∷ answer replies.Done ([]) ∷ answer (replies.WriteFailed writes.NotConnected) ([]) ∷ answer (replies.WriteFailed writes.NotConnected) ([]) ∷ answer (replies.Failed (errors.QuicProto (record { code = None; reason = (81 ∷ 85 ∷ 73 ∷ 67 ∷ 32 ∷ 112 ∷ 114 ∷ 111 ∷ 116 ∷ 111 ∷ 99 ∷ 111 ∷ 108 ∷ 32 ∷ 118 ∷ 101 ∷ 114 ∷ 115 ∷ 105 ∷ 111 ∷ 110 ∷ 32 ∷ 109 ∷ 105 ∷ 115 ∷ 109 ∷ 97 ∷ 116 ∷ 99 ∷ 104 ∷ 101 ∷ 100 ∷ []) }))) ([]) ∷ answer (replies.WriteFailed writes.NotConnected) ([]) ∷ answer replies.NoStream ([]) ∷ answer (replies.WriteFailed writes.NotConnected) ([]) ∷ answer (replies.StoppedBy writes.NotConnected) ([]) ∷ answer (replies.Failed (errors.QuicProto (record { code = None; reason = (81 ∷ 85 ∷ 73 ∷ 67 ∷ 32 ∷ 112 ∷ 114 ∷ 111 ∷ 116 ∷ 111 ∷ 99 ∷ 111 ∷ 108 ∷ 32 ∷ 118 ∷ 101 ∷ 114 ∷ 115 ∷ 105 ∷ 111 ∷ 110 ∷ 32 ∷ 109 ∷ 105 ∷ 115 ∷ 109 ∷ 97 ∷ 116 ∷ 99 ∷ 104 ∷ 101 ∷ 100 ∷ []) }))) ([]) ∷ answer (replies.Failed (errors.QuicProto (record { code = None; reason = (81 ∷ 85 ∷ 73 ∷ 67 ∷ 32 ∷ 112 ∷ 114 ∷ 111 ∷ 116 ∷ 111 ∷ 99 ∷ 111 ∷ 108 ∷ 32 ∷ 118 ∷ 101 ∷ 114 ∷ 115 ∷ 105 ∷ 111 ∷ 110 ∷ 32 ∷ 109 ∷ 105 ∷ 115 ∷ 109 ∷ 97 ∷ 116 ∷ 99 ∷ 104 ∷ 101 ∷ 100 ∷ []) }))) ([]) ∷ answer replies.Done ([]) ∷ answer replies.NoSession ([]) ∷ answer replies.NoStream ([]) ∷ answer (replies.WriteFailed writes.NotConnected) ([]) ∷ answer (replies.WriteFailed writes.NotConnected) ([]) ∷ answer (replies.DatagramFailed datagrams.NotConnected) ([]) ∷ answer replies.NoSession ([]) ∷ answer (replies.WriteFailed writes.NotConnected) ([]) ∷ answer (replies.Failed (errors.QuicProto (record { code = None; reason = (81 ∷ 85 ∷ 73 ∷ 67 ∷ 32 ∷ 112 ∷ 114 ∷ 111 ∷ 116 ∷ 111 ∷ 99 ∷ 111 ∷ 108 ∷ 32 ∷ 118 ∷ 101 ∷ 114 ∷ 115 ∷ 105 ∷ 111 ∷ 110 ∷ 32 ∷ 109 ∷ 105 ∷ 115 ∷ 109 ∷ 97 ∷ 116 ∷ 99 ∷ 104 ∷ 101 ∷ 100 ∷ []) }))) ([]) ∷ answer (replies.WriteFailed writes.NotConnected) ([]) ∷ answer replies.NoSession ([]) ∷ answer replies.NoStream ([]) ∷ answer (replies.Failed (errors.QuicProto (record { code = None; reason = (81 ∷ 85 ∷ 73 ∷ 67 ∷ 32 ∷ 112 ∷ 114 ∷ 111 ∷ 116 ∷ 111 ∷ 99 ∷ 111 ∷ 108 ∷ 32 ∷ 118 ∷ 101 ∷ 114 ∷ 115 ∷ 105 ∷ 111 ∷ 110 ∷ 32 ∷ 109 ∷ 105 ∷ 115 ∷ 109 ∷ 97 ∷ 116 ∷ 99 ∷ 104 ∷ 101 ∷ 100 ∷ []) }))) ([]) ∷ answer (replies.WriteFailed writes.NotConnected) ([]) ∷ answer (replies.WriteFailed writes.NotConnected) ([]) ∷ answer replies.NoStream ([]) ∷ answer (replies.WriteFailed writes.NotConnected) ([]) ∷ answer (replies.WriteFailed writes.NotConnected) ([]) ∷ answer (replies.WriteFailed writes.NotConnected) ([]) ∷ answer (replies.WriteFailed writes.NotConnected) ([]) ∷ answer replies.Done ([]) ∷ answer (replies.Failed (errors.QuicProto (record { code = None; reason = (81 ∷ 85 ∷ 73 ∷ 67 ∷ 32 ∷ 112 ∷ 114 ∷ 111 ∷ 116 ∷ 111 ∷ 99 ∷ 111 ∷ 108 ∷ 32 ∷ 118 ∷ 101 ∷ 114 ∷ 115 ∷ 105 ∷ 111 ∷ 110 ∷ 32 ∷ 109 ∷ 105 ∷ 115 ∷ 109 ∷ 97 ∷ 116 ∷ 99 ∷ 104 ∷ 101 ∷ 100 ∷ []) }))) ([]) ∷ answer (replies.Failed (errors.QuicProto (record { code = None; reason = (81 ∷ 85 ∷ 73 ∷ 67 ∷ 32 ∷ 112 ∷ 114 ∷ 111 ∷ 116 ∷ 111 ∷ 99 ∷ 111 ∷ 108 ∷ 32 ∷ 118 ∷ 101 ∷ 114 ∷ 115 ∷ 105 ∷ 111 ∷ 110 ∷ 32 ∷ 109 ∷ 105 ∷ 115 ∷ 109 ∷ 97 ∷ 116 ∷ 99 ∷ 104 ∷ 101 ∷ 100 ∷ []) }))) ([]) ∷ answer (replies.Failed (errors.QuicProto (record { code = None; reason = (81 ∷ 85 ∷ 73 ∷ 67 ∷ 32 ∷ 112 ∷ 114 ∷ 111 ∷ 116 ∷ 111 ∷ 99 ∷ 111 ∷ 108 ∷ 32 ∷ 118 ∷ 101 ∷ 114 ∷ 115 ∷ 105 ∷ 111 ∷ 110 ∷ 32 ∷ 109 ∷ 105 ∷ 115 ∷ 109 ∷ 97 ∷ 116 ∷ 99 ∷ 104 ∷ 101 ∷ 100 ∷ []) }))) ([]) ∷ answer (replies.Failed (errors.QuicProto (record { code = None; reason = (81 ∷ 85 ∷ 73 ∷ 67 ∷ 32 ∷ 112 ∷ 114 ∷ 111 ∷ 116 ∷ 111 ∷ 99 ∷ 111 ∷ 108 ∷ 32 ∷ 118 ∷ 101 ∷ 114 ∷ 115 ∷ 105 ∷ 111 ∷ 110 ∷ 32 ∷ 109 ∷ 105 ∷ 115 ∷ 109 ∷ 97 ∷ 116 ∷ 99 ∷ 104 ∷ 101 ∷ 100 ∷ []) }))) ([]) ∷ answer replies.NoStream ([]) ∷ answer replies.NoStream ([]) ∷ answer replies.NoSession ([]) ∷ []); is_all = true }
unfolding computed parsed
trace_0067 = refl

pub trace_0071 : run Server (turns.Connected 100 9 25 (facts.Limit 1200) ∷ turns.Call (calls.EndpointClose 386759528 (98 ∷ 121 ∷ [])) ∷ turns.PeerUni ∷ turns.PeerUni ∷ turns.Call calls.Incoming ∷ turns.Bytes 6 (64 ∷ 84 ∷ 64 ∷ 12 ∷ 175 ∷ 101 ∷ 84 ∷ 75 ∷ 240 ∷ 178 ∷ 240 ∷ 4 ∷ 18 ∷ []) ∷ turns.PeerUni ∷ turns.Bytes 10 (1 ∷ 58 ∷ 145 ∷ 255 ∷ 233 ∷ 214 ∷ []) ∷ []) ≡ record { answers = (answer replies.Done (actions.Opened 3 ∷ actions.Send 3 (0 ∷ 4 ∷ 22 ∷ 1 ∷ 0 ∷ 7 ∷ 0 ∷ 8 ∷ 1 ∷ 51 ∷ 1 ∷ 171 ∷ 96 ∷ 55 ∷ 66 ∷ 1 ∷ 192 ∷ 0 ∷ 0 ∷ 0 ∷ 198 ∷ 113 ∷ 112 ∷ 106 ∷ 4 ∷ []) ∷ []) ∷ answer replies.Done (actions.Close 386759528 (98 ∷ 121 ∷ []) ∷ []) ∷ answer replies.Done ([]) ∷ answer replies.Done ([]) ∷ answer (replies.Failed errors.LocallyClosed) ([]) ∷ answer replies.Done ([]) ∷ answer replies.Done ([]) ∷ answer replies.Done ([]) ∷ []); is_all = true }
unfolding computed
trace_0071 = refl

pub trace_0075 : run Client (turns.Call (calls.Connect ((102 ∷ 105 ∷ 108 ∷ 101 ∷ 58 ∷ 47 ∷ 47 ∷ 97 ∷ 95 ∷ 98 ∷ 58 ∷ 47 ∷ 124 ∷ []), ([])) (lookups.Found (addresses.V4 2130706433 443)) outcomes.Proceed) ∷ []) ≡ record { answers = (answer (replies.ConnectFailed (connects.InvalidUrl refusals.Parse)) ([]) ∷ []); is_all = true }
unfolding computed parsed
trace_0075 = refl

pub trace_0079 : run Client (turns.Call (calls.Connect ((104 ∷ 116 ∷ 116 ∷ 112 ∷ 58 ∷ 47 ∷ 47 ∷ 64 ∷ 104 ∷ 37 ∷ 52 ∷ 49 ∷ 58 ∷ 52 ∷ 52 ∷ 51 ∷ 47 ∷ 46 ∷ 63 ∷ 58 ∷ 126 ∷ 124 ∷ 39 ∷ 47 ∷ []), ([])) lookups.NotFound outcomes.Proceed) ∷ []) ≡ record { answers = (answer (replies.ConnectFailed (connects.InvalidUrl refusals.Scheme)) ([]) ∷ []); is_all = true }
unfolding computed parsed
trace_0079 = refl

pub trace_0080 : run Client (turns.Call (calls.Connect ((104 ∷ 116 ∷ 116 ∷ 112 ∷ 115 ∷ 58 ∷ 47 ∷ 47 ∷ 91 ∷ 58 ∷ 58 ∷ 49 ∷ 93 ∷ 58 ∷ 57 ∷ 57 ∷ 47 ∷ 120 ∷ 63 ∷ 121 ∷ 35 ∷ 122 ∷ []), ([])) (lookups.Found (addresses.V4 2130706433 4433)) outcomes.Proceed) ∷ turns.Connected 0 9 0 (facts.Limit 1200) ∷ turns.MaxUni 1 ∷ turns.PeerUni ∷ turns.Call calls.Handshake ∷ turns.MaxData 2 25 ∷ turns.PeerUni ∷ turns.PeerUni ∷ turns.Bytes 7 (64 ∷ 84 ∷ []) ∷ turns.Bytes 11 (0 ∷ 4 ∷ []) ∷ turns.Bytes 11 (39 ∷ 51 ∷ 255 ∷ []) ∷ turns.Call calls.Handshake ∷ turns.PeerUni ∷ turns.Bytes 11 (255 ∷ 255 ∷ 255 ∷ 255 ∷ 255 ∷ 255 ∷ 255 ∷ 9 ∷ 29 ∷ 192 ∷ 0 ∷ 0 ∷ 0 ∷ 198 ∷ 113 ∷ 112 ∷ 106 ∷ 1 ∷ 192 ∷ 0 ∷ 0 ∷ 0 ∷ 43 ∷ 96 ∷ 55 ∷ 66 ∷ []) ∷ turns.Bytes 11 (192 ∷ []) ∷ turns.Call calls.Handshake ∷ turns.Bytes 11 (0 ∷ []) ∷ turns.Bytes 11 (0 ∷ 0 ∷ 0 ∷ 0 ∷ 3 ∷ []) ∷ turns.Bytes 11 (232 ∷ 82 ∷ []) ∷ turns.Bytes 11 (52 ∷ []) ∷ turns.PeerBi ∷ turns.Bytes 11 (58 ∷ []) ∷ turns.Call calls.Handshake ∷ turns.MaxData 0 1 ∷ turns.Bytes 0 (1 ∷ []) ∷ turns.Call calls.Handshake ∷ turns.Call (calls.AcceptBi None) ∷ turns.Bytes 15 (64 ∷ 84 ∷ 0 ∷ []) ∷ turns.Stop 0 1 ∷ turns.MaxData 1 90 ∷ turns.MaxData 0 1001 ∷ turns.Call calls.Handshake ∷ []) ≡ record { answers = (answer replies.Pending (actions.Dial (addresses.V6 1 99) (58 ∷ 58 ∷ 49 ∷ []) ∷ []) ∷ answer replies.Done ([]) ∷ answer replies.Done (actions.Opened 2 ∷ []) ∷ answer replies.Done ([]) ∷ answer replies.Pending ([]) ∷ answer replies.Done (actions.Send 2 (0 ∷ 4 ∷ 22 ∷ 1 ∷ 0 ∷ 7 ∷ 0 ∷ 8 ∷ 1 ∷ 51 ∷ 1 ∷ 171 ∷ 96 ∷ 55 ∷ 66 ∷ 1 ∷ 192 ∷ 0 ∷ 0 ∷ 0 ∷ 198 ∷ 113 ∷ 112 ∷ 106 ∷ 4 ∷ []) ∷ []) ∷ answer replies.Done ([]) ∷ answer replies.Done ([]) ∷ answer replies.Done ([]) ∷ answer replies.Done ([]) ∷ answer replies.Done ([]) ∷ answer replies.Pending ([]) ∷ answer replies.Done ([]) ∷ answer replies.Done ([]) ∷ answer replies.Done ([]) ∷ answer replies.Pending ([]) ∷ answer replies.Done ([]) ∷ answer replies.Done ([]) ∷ answer replies.Done ([]) ∷ answer replies.Done ([]) ∷ answer replies.Done ([]) ∷ answer replies.Done ([]) ∷ answer replies.Pending (actions.Opened 0 ∷ []) ∷ answer replies.Done ([]) ∷ answer replies.Done ([]) ∷ answer replies.Pending (actions.Send 0 (1 ∷ []) ∷ []) ∷ answer replies.NoSession ([]) ∷ answer replies.Done ([]) ∷ answer replies.Done ([]) ∷ answer replies.Done ([]) ∷ answer replies.Done ([]) ∷ answer (replies.ConnectFailed connects.SessionRejected) (actions.Close 0 ([]) ∷ []) ∷ []); is_all = true }
unfolding computed parsed
trace_0080 = refl

pub trace_0083 : run Client (turns.Call (calls.Connect ((104 ∷ 116 ∷ 116 ∷ 112 ∷ 115 ∷ 58 ∷ 47 ∷ 47 ∷ 104 ∷ []), ([])) (lookups.Fault (110 ∷ 111 ∷ [])) outcomes.Proceed) ∷ []) ≡ record { answers = (answer (replies.ConnectFailed (connects.DnsLookup (110 ∷ 111 ∷ []))) ([]) ∷ []); is_all = true }
unfolding computed parsed
trace_0083 = refl

pub trace_0084 : run Server (turns.Connected 100 100 50 facts.Unsupported ∷ turns.PeerUni ∷ turns.PeerBi ∷ turns.Bytes 2 (0 ∷ 4 ∷ 128 ∷ 0 ∷ 0 ∷ 3 ∷ 51 ∷ 67 ∷ 232 ∷ 4 ∷ 0 ∷ []) ∷ []) ≡ record { answers = (answer replies.Done (actions.Opened 3 ∷ actions.Send 3 (0 ∷ 4 ∷ 22 ∷ 1 ∷ 0 ∷ 7 ∷ 0 ∷ 8 ∷ 1 ∷ 51 ∷ 1 ∷ 171 ∷ 96 ∷ 55 ∷ 66 ∷ 1 ∷ 192 ∷ 0 ∷ 0 ∷ 0 ∷ 198 ∷ 113 ∷ 112 ∷ 106 ∷ 4 ∷ []) ∷ []) ∷ answer replies.Done ([]) ∷ answer replies.Done ([]) ∷ answer replies.Done (actions.Close 261 ([]) ∷ []) ∷ []); is_all = true }
unfolding computed
trace_0084 = refl

pub trace_0087 : run Server (turns.Connected 9 9 1000 (facts.Limit 5) ∷ turns.Loss losses.CidsExhausted ∷ turns.Call (calls.Close 256 ([])) ∷ turns.Call (calls.Close 1 ([])) ∷ []) ≡ record { answers = (answer replies.Done (actions.Opened 3 ∷ actions.Send 3 (0 ∷ 4 ∷ 22 ∷ 1 ∷ 0 ∷ 7 ∷ 0 ∷ 8 ∷ 1 ∷ 51 ∷ 1 ∷ 171 ∷ 96 ∷ 55 ∷ 66 ∷ 1 ∷ 192 ∷ 0 ∷ 0 ∷ 0 ∷ 198 ∷ 113 ∷ 112 ∷ 106 ∷ 4 ∷ []) ∷ []) ∷ answer replies.Done ([]) ∷ answer replies.NoSession ([]) ∷ answer replies.NoSession ([]) ∷ []); is_all = true }
unfolding computed
trace_0087 = refl

pub trace_0090 : run Client (turns.Call (calls.Connect ((104 ∷ 116 ∷ 116 ∷ 112 ∷ 115 ∷ 58 ∷ 47 ∷ 47 ∷ 104 ∷ []), (((58 ∷ 122 ∷ []), (49 ∷ [])) ∷ (([]), ([])) ∷ [])) (lookups.Found (addresses.V4 2130706433 4433)) outcomes.Proceed) ∷ turns.Connected 100 1 1000 (facts.Limit 2) ∷ turns.PeerUni ∷ turns.Bytes 3 (0 ∷ 13 ∷ 3 ∷ 65 ∷ 216 ∷ 25 ∷ 128 ∷ 0 ∷ 0 ∷ 4 ∷ 192 ∷ 0 ∷ 0 ∷ 0 ∷ 0 ∷ 0 ∷ 0 ∷ 11 ∷ 1 ∷ 1 ∷ 51 ∷ 1 ∷ 171 ∷ 96 ∷ 55 ∷ []) ∷ turns.Call calls.Handshake ∷ turns.Call calls.Handshake ∷ turns.Call calls.Handshake ∷ turns.Call calls.Handshake ∷ turns.Call calls.Handshake ∷ turns.Bytes 3 (66 ∷ []) ∷ turns.Bytes 3 (0 ∷ 7 ∷ 5 ∷ []) ∷ turns.Call calls.Handshake ∷ turns.Call calls.Handshake ∷ turns.Bytes 0 (1 ∷ 15 ∷ 0 ∷ []) ∷ turns.Bytes 0 (0 ∷ 39 ∷ 0 ∷ 58 ∷ 115 ∷ 116 ∷ 97 ∷ 116 ∷ 117 ∷ 115 ∷ 3 ∷ 50 ∷ 48 ∷ 49 ∷ 13 ∷ 5 ∷ 83 ∷ 150 ∷ 13 ∷ []) ∷ turns.Call calls.Handshake ∷ turns.Call (calls.Finish 2) ∷ turns.Bytes 3 (13 ∷ []) ∷ turns.Call (calls.AcceptBi None) ∷ turns.Call calls.Closed ∷ turns.Call (calls.PollOpening 0) ∷ turns.Bytes 0 (61 ∷ []) ∷ turns.Call (calls.AcceptBi (Some 0)) ∷ turns.Call (calls.AcceptUni (Some 0)) ∷ turns.Bytes 0 (136 ∷ 104 ∷ []) ∷ turns.Call (calls.PollOpening 0) ∷ turns.Bytes 3 (0 ∷ []) ∷ turns.Call (calls.OpenUni None) ∷ turns.Call (calls.AcceptBi None) ∷ turns.Call (calls.PollOpening 6) ∷ turns.Call (calls.WriteAll 6 (77 ∷ 104 ∷ 68 ∷ 203 ∷ 44 ∷ 47 ∷ 139 ∷ 118 ∷ 106 ∷ 14 ∷ 245 ∷ 48 ∷ 10 ∷ 74 ∷ 32 ∷ 229 ∷ 13 ∷ 130 ∷ 208 ∷ 67 ∷ 55 ∷ 85 ∷ 31 ∷ 214 ∷ 155 ∷ 50 ∷ 55 ∷ 118 ∷ 82 ∷ 78 ∷ [])) ∷ turns.Call (calls.WriteAll 6 ([])) ∷ turns.Call (calls.WriteAll 6 ([])) ∷ turns.Call (calls.WriteAll 6 ([])) ∷ turns.Call (calls.Stopped 6) ∷ turns.Call (calls.ResetSend 6 0) ∷ turns.Call (calls.Write 6 (8 ∷ 69 ∷ 3 ∷ 174 ∷ 227 ∷ 65 ∷ 61 ∷ 241 ∷ 142 ∷ 39 ∷ 130 ∷ 25 ∷ 246 ∷ 183 ∷ 108 ∷ 126 ∷ 223 ∷ 72 ∷ 7 ∷ 73 ∷ [])) ∷ turns.Call (calls.ReceiveDatagram (Some 0)) ∷ turns.Call (calls.SetPriority 6 (pos 2147483647)) ∷ turns.PeerBi ∷ turns.Call (calls.EndSession None) ∷ turns.Call (calls.AcceptBi None) ∷ turns.Call (calls.AcceptUni None) ∷ turns.Call (calls.Write 6 (188 ∷ 13 ∷ 203 ∷ 152 ∷ 153 ∷ 125 ∷ 99 ∷ 125 ∷ 52 ∷ 50 ∷ 12 ∷ 123 ∷ 9 ∷ 98 ∷ 125 ∷ 234 ∷ 224 ∷ 117 ∷ 195 ∷ 229 ∷ 65 ∷ 177 ∷ 215 ∷ 221 ∷ 177 ∷ 238 ∷ 255 ∷ 84 ∷ 240 ∷ 236 ∷ [])) ∷ turns.Call (calls.ReadExact 1 3) ∷ turns.Call (calls.SetPriority 6 (pos 5)) ∷ turns.Call (calls.AcceptBi (Some 0)) ∷ turns.Call (calls.AcceptBi None) ∷ turns.Call calls.Closed ∷ turns.Call (calls.SendDatagram (30 ∷ 235 ∷ 214 ∷ 255 ∷ 10 ∷ []) None) ∷ turns.Bytes 0 (67 ∷ 128 ∷ 0 ∷ 0 ∷ 5 ∷ 218 ∷ 55 ∷ 123 ∷ 182 ∷ []) ∷ turns.PeerBi ∷ turns.PeerUni ∷ turns.Call (calls.ReceiveDatagram (Some 0)) ∷ turns.Call (calls.OpenBi (Some 0)) ∷ turns.Call (calls.ReadExact 1 9) ∷ turns.Call (calls.Finish 6) ∷ turns.Call (calls.OpenBi (Some 0)) ∷ turns.Call (calls.ResetSend 0 386759528) ∷ []) ≡ record { answers = (answer replies.Pending (actions.Dial (addresses.V4 2130706433 4433) (104 ∷ []) ∷ []) ∷ answer replies.Done (actions.Opened 2 ∷ actions.Send 2 (0 ∷ 4 ∷ 22 ∷ 1 ∷ 0 ∷ 7 ∷ 0 ∷ 8 ∷ 1 ∷ 51 ∷ 1 ∷ 171 ∷ 96 ∷ 55 ∷ 66 ∷ 1 ∷ 192 ∷ 0 ∷ 0 ∷ 0 ∷ 198 ∷ 113 ∷ 112 ∷ 106 ∷ 4 ∷ []) ∷ []) ∷ answer replies.Done ([]) ∷ answer replies.Done ([]) ∷ answer replies.Pending ([]) ∷ answer replies.Pending ([]) ∷ answer replies.Pending ([]) ∷ answer replies.Pending ([]) ∷ answer replies.Pending ([]) ∷ answer replies.Done ([]) ∷ answer replies.Done ([]) ∷ answer replies.Pending (actions.Opened 0 ∷ actions.Send 0 (1 ∷ 64 ∷ 87 ∷ 0 ∷ 0 ∷ 39 ∷ 3 ∷ 58 ∷ 97 ∷ 117 ∷ 116 ∷ 104 ∷ 111 ∷ 114 ∷ 105 ∷ 116 ∷ 121 ∷ 1 ∷ 104 ∷ 39 ∷ 0 ∷ 58 ∷ 109 ∷ 101 ∷ 116 ∷ 104 ∷ 111 ∷ 100 ∷ 7 ∷ 67 ∷ 79 ∷ 78 ∷ 78 ∷ 69 ∷ 67 ∷ 84 ∷ 37 ∷ 58 ∷ 112 ∷ 97 ∷ 116 ∷ 104 ∷ 1 ∷ 47 ∷ 39 ∷ 2 ∷ 58 ∷ 112 ∷ 114 ∷ 111 ∷ 116 ∷ 111 ∷ 99 ∷ 111 ∷ 108 ∷ 12 ∷ 119 ∷ 101 ∷ 98 ∷ 116 ∷ 114 ∷ 97 ∷ 110 ∷ 115 ∷ 112 ∷ 111 ∷ 114 ∷ 116 ∷ 39 ∷ 0 ∷ 58 ∷ 115 ∷ 99 ∷ 104 ∷ 101 ∷ 109 ∷ 101 ∷ 5 ∷ 104 ∷ 116 ∷ 116 ∷ 112 ∷ 115 ∷ 34 ∷ 58 ∷ 122 ∷ 1 ∷ 49 ∷ 32 ∷ 0 ∷ []) ∷ []) ∷ answer replies.Pending ([]) ∷ answer replies.Done ([]) ∷ answer replies.Done ([]) ∷ answer (replies.Session 0) ([]) ∷ answer replies.NoStream ([]) ∷ answer replies.Done ([]) ∷ answer replies.Pending ([]) ∷ answer replies.Pending ([]) ∷ answer replies.NoStream ([]) ∷ answer replies.Done ([]) ∷ answer replies.Pending ([]) ∷ answer replies.Pending ([]) ∷ answer replies.Done ([]) ∷ answer replies.NoStream ([]) ∷ answer replies.Done ([]) ∷ answer (replies.Opening 6) (actions.Opened 6 ∷ []) ∷ answer replies.Pending ([]) ∷ answer (replies.SendReady 6) (actions.Send 6 (64 ∷ 84 ∷ 0 ∷ []) ∷ []) ∷ answer replies.AllWritten (actions.Send 6 (77 ∷ 104 ∷ 68 ∷ 203 ∷ 44 ∷ 47 ∷ 139 ∷ 118 ∷ 106 ∷ 14 ∷ 245 ∷ 48 ∷ 10 ∷ 74 ∷ 32 ∷ 229 ∷ 13 ∷ 130 ∷ 208 ∷ 67 ∷ 55 ∷ 85 ∷ 31 ∷ 214 ∷ 155 ∷ 50 ∷ 55 ∷ 118 ∷ 82 ∷ 78 ∷ []) ∷ []) ∷ answer replies.AllWritten ([]) ∷ answer replies.AllWritten ([]) ∷ answer replies.AllWritten ([]) ∷ answer replies.Pending ([]) ∷ answer replies.Done (actions.ResetOut 6 0 ∷ []) ∷ answer (replies.WriteFailed writes.Closed) ([]) ∷ answer replies.Pending ([]) ∷ answer replies.Done ([]) ∷ answer replies.Done ([]) ∷ answer replies.Done (actions.Finish 0 ∷ []) ∷ answer (replies.Failed errors.LocallyClosed) ([]) ∷ answer (replies.Failed errors.LocallyClosed) ([]) ∷ answer (replies.WriteFailed writes.Closed) ([]) ∷ answer replies.NoStream ([]) ∷ answer replies.Done ([]) ∷ answer (replies.Failed errors.LocallyClosed) ([]) ∷ answer (replies.Failed errors.LocallyClosed) ([]) ∷ answer replies.Pending ([]) ∷ answer (replies.DatagramFailed datagrams.NotConnected) ([]) ∷ answer replies.Done ([]) ∷ answer replies.Done ([]) ∷ answer replies.Done ([]) ∷ answer (replies.Failed errors.LocallyClosed) ([]) ∷ answer (replies.Failed errors.LocallyClosed) ([]) ∷ answer replies.NoStream ([]) ∷ answer replies.Finished ([]) ∷ answer (replies.Failed errors.LocallyClosed) ([]) ∷ answer replies.NoStream ([]) ∷ []); is_all = true }
unfolding computed parsed
trace_0090 = refl

pub trace_0091 : run Client (turns.Call (calls.Connect ((120 ∷ 58 ∷ 47 ∷ 47 ∷ 117 ∷ 58 ∷ 112 ∷ 64 ∷ 49 ∷ 46 ∷ 50 ∷ 46 ∷ 51 ∷ 46 ∷ 50 ∷ 53 ∷ 54 ∷ 58 ∷ 52 ∷ 52 ∷ 51 ∷ 47 ∷ 37 ∷ 122 ∷ 122 ∷ []), ([])) (lookups.Found (addresses.V4 2130706433 4433)) outcomes.Proceed) ∷ []) ≡ record { answers = (answer (replies.ConnectFailed (connects.InvalidUrl refusals.Scheme)) ([]) ∷ []); is_all = true }
unfolding computed parsed
trace_0091 = refl

pub trace_0095 : run Client (turns.Call (calls.Connect ((104 ∷ 116 ∷ 116 ∷ 112 ∷ 115 ∷ 58 ∷ 47 ∷ 47 ∷ 49 ∷ 50 ∷ 55 ∷ 46 ∷ 48 ∷ 46 ∷ 48 ∷ 46 ∷ 49 ∷ 47 ∷ []), (((97 ∷ []), (98 ∷ 98 ∷ 98 ∷ 98 ∷ 98 ∷ 98 ∷ 98 ∷ 98 ∷ 98 ∷ 98 ∷ 98 ∷ 98 ∷ 98 ∷ 98 ∷ 98 ∷ 98 ∷ 98 ∷ 98 ∷ 98 ∷ 98 ∷ 98 ∷ 98 ∷ 98 ∷ 98 ∷ 98 ∷ 98 ∷ 98 ∷ 98 ∷ 98 ∷ 98 ∷ 98 ∷ 98 ∷ 98 ∷ 98 ∷ 98 ∷ 98 ∷ 98 ∷ 98 ∷ 98 ∷ 98 ∷ 98 ∷ 98 ∷ 98 ∷ 98 ∷ 98 ∷ 98 ∷ 98 ∷ 98 ∷ 98 ∷ 98 ∷ 98 ∷ 98 ∷ 98 ∷ 98 ∷ 98 ∷ 98 ∷ 98 ∷ 98 ∷ 98 ∷ 98 ∷ 98 ∷ 98 ∷ 98 ∷ 98 ∷ 98 ∷ 98 ∷ 98 ∷ 98 ∷ 98 ∷ 98 ∷ 98 ∷ 98 ∷ 98 ∷ 98 ∷ 98 ∷ 98 ∷ 98 ∷ 98 ∷ 98 ∷ 98 ∷ 98 ∷ 98 ∷ 98 ∷ 98 ∷ 98 ∷ 98 ∷ 98 ∷ 98 ∷ 98 ∷ 98 ∷ 98 ∷ 98 ∷ 98 ∷ 98 ∷ 98 ∷ 98 ∷ 98 ∷ 98 ∷ 98 ∷ 98 ∷ 98 ∷ 98 ∷ 98 ∷ 98 ∷ 98 ∷ 98 ∷ 98 ∷ 98 ∷ 98 ∷ 98 ∷ 98 ∷ 98 ∷ 98 ∷ 98 ∷ 98 ∷ 98 ∷ 98 ∷ 98 ∷ 98 ∷ 98 ∷ 98 ∷ 98 ∷ 98 ∷ 98 ∷ 98 ∷ 98 ∷ 98 ∷ 98 ∷ 98 ∷ 98 ∷ 98 ∷ 98 ∷ 98 ∷ 98 ∷ 98 ∷ 98 ∷ 98 ∷ 98 ∷ 98 ∷ 98 ∷ 98 ∷ 98 ∷ 98 ∷ 98 ∷ 98 ∷ 98 ∷ 98 ∷ 98 ∷ 98 ∷ 98 ∷ 98 ∷ 98 ∷ 98 ∷ 98 ∷ 98 ∷ 98 ∷ 98 ∷ 98 ∷ 98 ∷ 98 ∷ 98 ∷ 98 ∷ 98 ∷ 98 ∷ 98 ∷ 98 ∷ 98 ∷ 98 ∷ 98 ∷ 98 ∷ 98 ∷ 98 ∷ 98 ∷ 98 ∷ 98 ∷ 98 ∷ 98 ∷ 98 ∷ 98 ∷ 98 ∷ 98 ∷ 98 ∷ 98 ∷ 98 ∷ 98 ∷ 98 ∷ 98 ∷ 98 ∷ 98 ∷ 98 ∷ 98 ∷ 98 ∷ 98 ∷ 98 ∷ 98 ∷ 98 ∷ 98 ∷ 98 ∷ 98 ∷ 98 ∷ 98 ∷ 98 ∷ 98 ∷ 98 ∷ 98 ∷ 98 ∷ 98 ∷ 98 ∷ 98 ∷ 98 ∷ 98 ∷ 98 ∷ 98 ∷ 98 ∷ 98 ∷ 98 ∷ 98 ∷ 98 ∷ 98 ∷ 98 ∷ 98 ∷ 98 ∷ 98 ∷ 98 ∷ 98 ∷ 98 ∷ 98 ∷ 98 ∷ 98 ∷ 98 ∷ 98 ∷ 98 ∷ 98 ∷ 98 ∷ 98 ∷ 98 ∷ 98 ∷ 98 ∷ 98 ∷ 98 ∷ 98 ∷ 98 ∷ 98 ∷ 98 ∷ 98 ∷ 98 ∷ 98 ∷ 98 ∷ 98 ∷ 98 ∷ 98 ∷ 98 ∷ 98 ∷ 98 ∷ 98 ∷ 98 ∷ 98 ∷ 98 ∷ 98 ∷ 98 ∷ 98 ∷ 98 ∷ 98 ∷ 98 ∷ 98 ∷ 98 ∷ 98 ∷ 98 ∷ 98 ∷ 98 ∷ 98 ∷ 98 ∷ 98 ∷ 98 ∷ 98 ∷ 98 ∷ 98 ∷ 98 ∷ 98 ∷ 98 ∷ 98 ∷ 98 ∷ 98 ∷ 98 ∷ 98 ∷ 98 ∷ 98 ∷ 98 ∷ 98 ∷ 98 ∷ 98 ∷ 98 ∷ 98 ∷ 98 ∷ 98 ∷ 98 ∷ 98 ∷ 98 ∷ 98 ∷ 98 ∷ [])) ∷ [])) (lookups.Found (addresses.V4 2130706433 4433)) outcomes.Proceed) ∷ turns.Connected 3 0 1000 (facts.Limit 0) ∷ turns.PeerUni ∷ turns.Call calls.Handshake ∷ turns.Bytes 3 (128 ∷ 0 ∷ []) ∷ turns.Call calls.Handshake ∷ turns.Call calls.Handshake ∷ turns.Bytes 3 (0 ∷ []) ∷ turns.Bytes 3 (0 ∷ []) ∷ turns.MaxBi 9 ∷ turns.Bytes 3 (192 ∷ 0 ∷ 0 ∷ []) ∷ turns.Call calls.Handshake ∷ turns.Call calls.Handshake ∷ turns.Call calls.Handshake ∷ turns.Call calls.Handshake ∷ turns.Call calls.Handshake ∷ turns.Bytes 3 (0 ∷ 0 ∷ 0 ∷ 0 ∷ 4 ∷ []) ∷ []) ≡ record { answers = (answer replies.Pending (actions.Dial (addresses.V4 2130706433 443) (49 ∷ 50 ∷ 55 ∷ 46 ∷ 48 ∷ 46 ∷ 48 ∷ 46 ∷ 49 ∷ []) ∷ []) ∷ answer replies.Done (actions.Opened 2 ∷ actions.Send 2 (0 ∷ 4 ∷ 22 ∷ 1 ∷ 0 ∷ 7 ∷ 0 ∷ 8 ∷ 1 ∷ 51 ∷ 1 ∷ 171 ∷ 96 ∷ 55 ∷ 66 ∷ 1 ∷ 192 ∷ 0 ∷ 0 ∷ 0 ∷ 198 ∷ 113 ∷ 112 ∷ 106 ∷ 4 ∷ []) ∷ []) ∷ answer replies.Done ([]) ∷ answer replies.Pending ([]) ∷ answer replies.Done ([]) ∷ answer replies.Pending ([]) ∷ answer replies.Pending ([]) ∷ answer replies.Done ([]) ∷ answer replies.Done ([]) ∷ answer replies.Done ([]) ∷ answer replies.Done ([]) ∷ answer replies.Pending ([]) ∷ answer replies.Pending ([]) ∷ answer replies.Pending ([]) ∷ answer replies.Pending ([]) ∷ answer replies.Pending ([]) ∷ answer replies.Done ([]) ∷ []); is_all = true }
unfolding computed parsed
trace_0095 = refl

pub trace_0096 : run Client (turns.Call (calls.Connect ((104 ∷ 116 ∷ 116 ∷ 112 ∷ 115 ∷ 58 ∷ 47 ∷ 47 ∷ 117 ∷ 58 ∷ 112 ∷ 64 ∷ 91 ∷ 58 ∷ 58 ∷ 49 ∷ 93 ∷ 58 ∷ 52 ∷ 52 ∷ 51 ∷ []), ([])) (lookups.Found (addresses.V4 2130706433 443)) outcomes.Proceed) ∷ turns.Connected 100 9 10 (facts.Limit 0) ∷ turns.MaxData 2 25 ∷ turns.PeerUni ∷ turns.Bytes 3 (0 ∷ 4 ∷ 44 ∷ 6 ∷ 255 ∷ 255 ∷ 255 ∷ 255 ∷ 255 ∷ 255 ∷ 255 ∷ 255 ∷ 255 ∷ 255 ∷ 255 ∷ 255 ∷ 255 ∷ 255 ∷ 255 ∷ 255 ∷ 128 ∷ 0 ∷ 0 ∷ 19 ∷ 8 ∷ 1 ∷ 7 ∷ 5 ∷ 33 ∷ 4 ∷ 171 ∷ 96 ∷ 55 ∷ 66 ∷ 5 ∷ 192 ∷ 0 ∷ 0 ∷ 0 ∷ 198 ∷ 113 ∷ 112 ∷ 106 ∷ 67 ∷ 232 ∷ 33 ∷ 4 ∷ 0 ∷ 0 ∷ []) ∷ turns.PeerBi ∷ turns.Stop 1 5 ∷ turns.PeerUni ∷ turns.PeerBi ∷ turns.Bytes 5 (1 ∷ 64 ∷ 80 ∷ 0 ∷ 0 ∷ 39 ∷ 3 ∷ 58 ∷ 97 ∷ 117 ∷ 116 ∷ 104 ∷ 111 ∷ 114 ∷ 105 ∷ 116 ∷ 121 ∷ 1 ∷ 104 ∷ 39 ∷ 0 ∷ 58 ∷ 109 ∷ 101 ∷ 116 ∷ 104 ∷ 111 ∷ 100 ∷ 7 ∷ 67 ∷ 79 ∷ 78 ∷ 78 ∷ 69 ∷ 67 ∷ 84 ∷ 37 ∷ 58 ∷ 112 ∷ 97 ∷ 116 ∷ 104 ∷ 1 ∷ 47 ∷ 39 ∷ 2 ∷ 58 ∷ 112 ∷ 114 ∷ 111 ∷ 116 ∷ 111 ∷ 99 ∷ 111 ∷ 108 ∷ 12 ∷ 119 ∷ 101 ∷ 98 ∷ 116 ∷ 114 ∷ 97 ∷ 110 ∷ 115 ∷ 112 ∷ 111 ∷ 114 ∷ 116 ∷ 39 ∷ 0 ∷ 58 ∷ 115 ∷ 99 ∷ 104 ∷ 101 ∷ 109 ∷ 101 ∷ 5 ∷ 104 ∷ 116 ∷ 116 ∷ 112 ∷ 115 ∷ 1 ∷ 2 ∷ 190 ∷ 50 ∷ []) ∷ turns.Bytes 1 (64 ∷ 65 ∷ 24 ∷ []) ∷ turns.End 5 ∷ turns.MaxData 5 11 ∷ turns.Datagram (0 ∷ 71 ∷ 0 ∷ 165 ∷ 221 ∷ 221 ∷ 190 ∷ 220 ∷ 38 ∷ 45 ∷ []) ∷ turns.Bytes 7 (64 ∷ 84 ∷ 20 ∷ 70 ∷ []) ∷ turns.Datagram (128 ∷ 0 ∷ 64 ∷ 0 ∷ 135 ∷ []) ∷ []) ≡ record { answers = (answer replies.Pending (actions.Dial (addresses.V6 1 443) (58 ∷ 58 ∷ 49 ∷ []) ∷ []) ∷ answer replies.Done (actions.Opened 2 ∷ actions.Send 2 (0 ∷ 4 ∷ 22 ∷ 1 ∷ 0 ∷ 7 ∷ 0 ∷ 8 ∷ 1 ∷ 51 ∷ []) ∷ []) ∷ answer replies.Done (actions.Send 2 (1 ∷ 171 ∷ 96 ∷ 55 ∷ 66 ∷ 1 ∷ 192 ∷ 0 ∷ 0 ∷ 0 ∷ 198 ∷ 113 ∷ 112 ∷ 106 ∷ 4 ∷ []) ∷ []) ∷ answer replies.Done ([]) ∷ answer replies.Done (actions.Close 261 ([]) ∷ []) ∷ answer replies.Done ([]) ∷ answer replies.Done ([]) ∷ answer replies.Done ([]) ∷ answer replies.Done ([]) ∷ answer replies.Done ([]) ∷ answer replies.Done ([]) ∷ answer replies.Done ([]) ∷ answer replies.Done ([]) ∷ answer replies.Done ([]) ∷ answer replies.Done ([]) ∷ answer replies.Done ([]) ∷ []); is_all = true }
unfolding computed parsed
trace_0096 = refl

pub trace_0097 : run Server (turns.Connected 9 9 50 (facts.Limit 5) ∷ turns.PeerUni ∷ turns.PeerBi ∷ turns.Bytes 2 (0 ∷ 13 ∷ 3 ∷ 163 ∷ 109 ∷ 196 ∷ 3 ∷ 2 ∷ 147 ∷ 249 ∷ []) ∷ turns.Bytes 0 (1 ∷ 64 ∷ 80 ∷ 0 ∷ 0 ∷ 39 ∷ 3 ∷ 58 ∷ 97 ∷ 117 ∷ 116 ∷ 104 ∷ 111 ∷ 114 ∷ 105 ∷ 116 ∷ 121 ∷ 1 ∷ 104 ∷ 39 ∷ 0 ∷ 58 ∷ 109 ∷ 101 ∷ 116 ∷ 104 ∷ 111 ∷ 100 ∷ 7 ∷ 67 ∷ 79 ∷ 78 ∷ 78 ∷ 69 ∷ 67 ∷ 84 ∷ 37 ∷ 58 ∷ 112 ∷ 97 ∷ 116 ∷ 104 ∷ 1 ∷ 47 ∷ 39 ∷ 2 ∷ 58 ∷ 112 ∷ 114 ∷ 111 ∷ 116 ∷ 111 ∷ 99 ∷ 111 ∷ 108 ∷ 12 ∷ 119 ∷ 101 ∷ 98 ∷ 116 ∷ 114 ∷ 97 ∷ 110 ∷ 115 ∷ 112 ∷ 111 ∷ 114 ∷ 116 ∷ 39 ∷ 0 ∷ 58 ∷ 115 ∷ 99 ∷ 104 ∷ 101 ∷ 109 ∷ 101 ∷ 5 ∷ 104 ∷ 116 ∷ 116 ∷ 112 ∷ 115 ∷ 0 ∷ 44 ∷ 0 ∷ []) ∷ turns.Bytes 2 (64 ∷ 65 ∷ 4 ∷ 128 ∷ 0 ∷ 0 ∷ 4 ∷ 1 ∷ 0 ∷ 1 ∷ 0 ∷ []) ∷ turns.PeerBi ∷ []) ≡ record { answers = (answer replies.Done (actions.Opened 3 ∷ actions.Send 3 (0 ∷ 4 ∷ 22 ∷ 1 ∷ 0 ∷ 7 ∷ 0 ∷ 8 ∷ 1 ∷ 51 ∷ 1 ∷ 171 ∷ 96 ∷ 55 ∷ 66 ∷ 1 ∷ 192 ∷ 0 ∷ 0 ∷ 0 ∷ 198 ∷ 113 ∷ 112 ∷ 106 ∷ 4 ∷ []) ∷ []) ∷ answer replies.Done ([]) ∷ answer replies.Done ([]) ∷ answer replies.Done ([]) ∷ answer replies.Done ([]) ∷ answer replies.Done (actions.Close 261 ([]) ∷ []) ∷ answer replies.Done ([]) ∷ []); is_all = true }
unfolding computed
trace_0097 = refl

pub trace_0098 : run Client (turns.Call (calls.Connect ((104 ∷ 116 ∷ 116 ∷ 112 ∷ 115 ∷ 58 ∷ 47 ∷ 47 ∷ 49 ∷ 50 ∷ 55 ∷ 46 ∷ 48 ∷ 46 ∷ 48 ∷ 46 ∷ 49 ∷ 47 ∷ []), ([])) (lookups.Found (addresses.V4 2130706433 4433)) outcomes.Proceed) ∷ turns.Connected 9 100 1000 facts.Disabled ∷ turns.Call calls.Handshake ∷ turns.Call calls.Handshake ∷ turns.PeerUni ∷ turns.Bytes 3 (0 ∷ 3 ∷ 5 ∷ 117 ∷ 122 ∷ 130 ∷ 118 ∷ 29 ∷ 4 ∷ 16 ∷ 1 ∷ 5 ∷ 128 ∷ 0 ∷ 0 ∷ 7 ∷ 1 ∷ 171 ∷ 96 ∷ 55 ∷ 66 ∷ 67 ∷ 232 ∷ 6 ∷ 67 ∷ 232 ∷ []) ∷ turns.Call calls.Handshake ∷ turns.Call calls.Handshake ∷ turns.Bytes 0 (1 ∷ 15 ∷ 0 ∷ 0 ∷ 39 ∷ []) ∷ turns.PeerUni ∷ turns.Call calls.Handshake ∷ turns.Bytes 7 (64 ∷ []) ∷ turns.Bytes 0 (0 ∷ 58 ∷ 115 ∷ []) ∷ turns.Call calls.Handshake ∷ turns.Bytes 0 (116 ∷ 97 ∷ 116 ∷ []) ∷ turns.Call calls.Handshake ∷ turns.Bytes 0 (117 ∷ 115 ∷ []) ∷ turns.Bytes 0 (3 ∷ 50 ∷ 48 ∷ 48 ∷ 3 ∷ 20 ∷ 97 ∷ 120 ∷ 250 ∷ 234 ∷ 32 ∷ 48 ∷ 108 ∷ 53 ∷ 67 ∷ 11 ∷ 177 ∷ 179 ∷ 205 ∷ 99 ∷ 131 ∷ []) ∷ turns.Call calls.Handshake ∷ turns.Call (calls.AcceptBi (Some 0)) ∷ turns.Call (calls.SessionId (Some 0)) ∷ turns.Call (calls.OpenBi (Some 0)) ∷ turns.Call (calls.AcceptUni None) ∷ turns.Call (calls.PollOpening 4) ∷ turns.Call (calls.WriteAll 4 ([])) ∷ turns.Call (calls.ReceiveDatagram None) ∷ turns.Call (calls.AcceptBi None) ∷ turns.Bytes 7 (84 ∷ 0 ∷ 149 ∷ 71 ∷ 134 ∷ []) ∷ turns.Call (calls.SendDatagram (221 ∷ 78 ∷ 37 ∷ 9 ∷ 92 ∷ 119 ∷ 73 ∷ 225 ∷ 83 ∷ 205 ∷ 5 ∷ 34 ∷ 226 ∷ 82 ∷ 35 ∷ 109 ∷ 84 ∷ 213 ∷ 102 ∷ 226 ∷ []) (Some 0)) ∷ turns.Call (calls.ReceiveDatagram None) ∷ turns.Call (calls.SetPriority 4 (pos 0)) ∷ turns.Bytes 7 (104 ∷ 255 ∷ []) ∷ turns.Stop 4 0 ∷ turns.Call (calls.Read 4 0) ∷ turns.Bytes 7 (209 ∷ 43 ∷ 41 ∷ []) ∷ []) ≡ record { answers = (answer replies.Pending (actions.Dial (addresses.V4 2130706433 443) (49 ∷ 50 ∷ 55 ∷ 46 ∷ 48 ∷ 46 ∷ 48 ∷ 46 ∷ 49 ∷ []) ∷ []) ∷ answer replies.Done (actions.Opened 2 ∷ actions.Send 2 (0 ∷ 4 ∷ 22 ∷ 1 ∷ 0 ∷ 7 ∷ 0 ∷ 8 ∷ 1 ∷ 51 ∷ 1 ∷ 171 ∷ 96 ∷ 55 ∷ 66 ∷ 1 ∷ 192 ∷ 0 ∷ 0 ∷ 0 ∷ 198 ∷ 113 ∷ 112 ∷ 106 ∷ 4 ∷ []) ∷ []) ∷ answer replies.Pending ([]) ∷ answer replies.Pending ([]) ∷ answer replies.Done ([]) ∷ answer replies.Done ([]) ∷ answer replies.Pending (actions.Opened 0 ∷ actions.Send 0 (1 ∷ 64 ∷ 88 ∷ 0 ∷ 0 ∷ 39 ∷ 3 ∷ 58 ∷ 97 ∷ 117 ∷ 116 ∷ 104 ∷ 111 ∷ 114 ∷ 105 ∷ 116 ∷ 121 ∷ 9 ∷ 49 ∷ 50 ∷ 55 ∷ 46 ∷ 48 ∷ 46 ∷ 48 ∷ 46 ∷ 49 ∷ 39 ∷ 0 ∷ 58 ∷ 109 ∷ 101 ∷ 116 ∷ 104 ∷ 111 ∷ 100 ∷ 7 ∷ 67 ∷ 79 ∷ 78 ∷ 78 ∷ 69 ∷ 67 ∷ 84 ∷ 37 ∷ 58 ∷ 112 ∷ 97 ∷ 116 ∷ 104 ∷ 1 ∷ 47 ∷ 39 ∷ 2 ∷ 58 ∷ 112 ∷ 114 ∷ 111 ∷ 116 ∷ 111 ∷ 99 ∷ 111 ∷ 108 ∷ 12 ∷ 119 ∷ 101 ∷ 98 ∷ 116 ∷ 114 ∷ 97 ∷ 110 ∷ 115 ∷ 112 ∷ 111 ∷ 114 ∷ 116 ∷ 39 ∷ 0 ∷ 58 ∷ 115 ∷ 99 ∷ 104 ∷ 101 ∷ 109 ∷ 101 ∷ 5 ∷ 104 ∷ 116 ∷ 116 ∷ 112 ∷ 115 ∷ []) ∷ []) ∷ answer replies.Pending ([]) ∷ answer replies.Done ([]) ∷ answer replies.Done ([]) ∷ answer replies.Pending ([]) ∷ answer replies.Done ([]) ∷ answer replies.Done ([]) ∷ answer replies.Pending ([]) ∷ answer replies.Done ([]) ∷ answer replies.Pending ([]) ∷ answer replies.Done ([]) ∷ answer replies.Done ([]) ∷ answer (replies.Session 0) ([]) ∷ answer replies.Pending ([]) ∷ answer (replies.Id 0) ([]) ∷ answer (replies.Opening 4) (actions.Opened 4 ∷ []) ∷ answer replies.Pending ([]) ∷ answer (replies.BiReady 4) (actions.Send 4 (64 ∷ 65 ∷ 0 ∷ []) ∷ []) ∷ answer replies.AllWritten ([]) ∷ answer replies.Pending ([]) ∷ answer replies.Pending ([]) ∷ answer replies.Done ([]) ∷ answer (replies.DatagramFailed datagrams.Disabled) ([]) ∷ answer replies.Pending ([]) ∷ answer replies.Done ([]) ∷ answer replies.Done ([]) ∷ answer replies.Done ([]) ∷ answer (replies.Read (Some ([]))) ([]) ∷ answer replies.Done ([]) ∷ []); is_all = true }
unfolding computed parsed
trace_0098 = refl

pub trace_0119 : run Server (turns.Connected 100 9 0 (facts.Limit 5) ∷ turns.PeerUni ∷ turns.Bytes 2 (0 ∷ 4 ∷ 26 ∷ 51 ∷ 0 ∷ 255 ∷ 255 ∷ 255 ∷ 255 ∷ 255 ∷ 255 ∷ 255 ∷ 255 ∷ 64 ∷ 98 ∷ 171 ∷ 96 ∷ 55 ∷ 66 ∷ 1 ∷ 33 ∷ 60 ∷ 7 ∷ 1 ∷ 1 ∷ 0 ∷ 33 ∷ 64 ∷ 66 ∷ []) ∷ turns.Datagram (207 ∷ 255 ∷ 255 ∷ 255 ∷ 255 ∷ 255 ∷ 255 ∷ 255 ∷ 97 ∷ []) ∷ turns.PeerBi ∷ turns.Bytes 0 (1 ∷ 64 ∷ 80 ∷ 0 ∷ 0 ∷ 39 ∷ 3 ∷ 58 ∷ 97 ∷ 117 ∷ 116 ∷ 104 ∷ 111 ∷ 114 ∷ 105 ∷ 116 ∷ 121 ∷ 1 ∷ 104 ∷ 39 ∷ 0 ∷ 58 ∷ 109 ∷ 101 ∷ 116 ∷ 104 ∷ 111 ∷ 100 ∷ 7 ∷ 67 ∷ 79 ∷ 78 ∷ 78 ∷ 69 ∷ 67 ∷ 84 ∷ 37 ∷ 58 ∷ 112 ∷ 97 ∷ 116 ∷ 104 ∷ 1 ∷ 47 ∷ 39 ∷ 2 ∷ 58 ∷ 112 ∷ 114 ∷ 111 ∷ 116 ∷ 111 ∷ 99 ∷ 111 ∷ 108 ∷ 12 ∷ 119 ∷ 101 ∷ 98 ∷ 116 ∷ 114 ∷ 97 ∷ 110 ∷ 115 ∷ 112 ∷ 111 ∷ 114 ∷ 116 ∷ 39 ∷ 0 ∷ 58 ∷ 115 ∷ 99 ∷ 104 ∷ 101 ∷ 109 ∷ 101 ∷ 5 ∷ 104 ∷ 116 ∷ 116 ∷ 112 ∷ 115 ∷ []) ∷ turns.MaxData 3 26 ∷ turns.Call calls.Incoming ∷ turns.Call calls.NotFound ∷ turns.Call calls.Handshake ∷ turns.Call calls.Handshake ∷ turns.MaxData 0 1 ∷ turns.Call calls.Handshake ∷ turns.PeerUni ∷ turns.Call calls.Handshake ∷ turns.MaxData 0 2 ∷ turns.MaxData 0 12 ∷ turns.Call calls.Handshake ∷ turns.MaxData 0 112 ∷ turns.MaxData 0 122 ∷ turns.Call calls.Handshake ∷ turns.Call calls.Handshake ∷ turns.Acked 0 ∷ turns.Bytes 6 (128 ∷ 0 ∷ 0 ∷ []) ∷ turns.Call calls.Handshake ∷ turns.PeerUni ∷ turns.Bytes 6 (84 ∷ 0 ∷ 163 ∷ 198 ∷ 162 ∷ 23 ∷ 66 ∷ []) ∷ []) ≡ record { answers = (answer replies.Done (actions.Opened 3 ∷ []) ∷ answer replies.Done ([]) ∷ answer replies.Done ([]) ∷ answer replies.Done ([]) ∷ answer replies.Done ([]) ∷ answer replies.Done ([]) ∷ answer replies.Done (actions.Send 3 (0 ∷ 4 ∷ 22 ∷ 1 ∷ 0 ∷ 7 ∷ 0 ∷ 8 ∷ 1 ∷ 51 ∷ 1 ∷ 171 ∷ 96 ∷ 55 ∷ 66 ∷ 1 ∷ 192 ∷ 0 ∷ 0 ∷ 0 ∷ 198 ∷ 113 ∷ 112 ∷ 106 ∷ 4 ∷ []) ∷ []) ∷ answer (replies.Request 0 (((58 ∷ 97 ∷ 117 ∷ 116 ∷ 104 ∷ 111 ∷ 114 ∷ 105 ∷ 116 ∷ 121 ∷ []), (104 ∷ [])) ∷ ((58 ∷ 109 ∷ 101 ∷ 116 ∷ 104 ∷ 111 ∷ 100 ∷ []), (67 ∷ 79 ∷ 78 ∷ 78 ∷ 69 ∷ 67 ∷ 84 ∷ [])) ∷ ((58 ∷ 112 ∷ 97 ∷ 116 ∷ 104 ∷ []), (47 ∷ [])) ∷ ((58 ∷ 112 ∷ 114 ∷ 111 ∷ 116 ∷ 111 ∷ 99 ∷ 111 ∷ 108 ∷ []), (119 ∷ 101 ∷ 98 ∷ 116 ∷ 114 ∷ 97 ∷ 110 ∷ 115 ∷ 112 ∷ 111 ∷ 114 ∷ 116 ∷ [])) ∷ ((58 ∷ 115 ∷ 99 ∷ 104 ∷ 101 ∷ 109 ∷ 101 ∷ []), (104 ∷ 116 ∷ 116 ∷ 112 ∷ 115 ∷ [])) ∷ [])) ([]) ∷ answer replies.Pending ([]) ∷ answer replies.Pending ([]) ∷ answer replies.Pending ([]) ∷ answer replies.Done ([]) ∷ answer replies.Pending (actions.Send 0 (1 ∷ []) ∷ []) ∷ answer replies.Done ([]) ∷ answer replies.Pending ([]) ∷ answer replies.Done ([]) ∷ answer replies.Done ([]) ∷ answer replies.Pending (actions.Send 0 (15 ∷ 0 ∷ 0 ∷ 39 ∷ 0 ∷ 58 ∷ 115 ∷ 116 ∷ 97 ∷ 116 ∷ 117 ∷ []) ∷ []) ∷ answer replies.Done ([]) ∷ answer replies.Done ([]) ∷ answer replies.Pending (actions.Send 0 (115 ∷ 3 ∷ 52 ∷ 48 ∷ 52 ∷ []) ∷ actions.Finish 0 ∷ []) ∷ answer replies.Pending ([]) ∷ answer replies.Done ([]) ∷ answer replies.Done ([]) ∷ answer replies.Rejected (actions.Close 0 ([]) ∷ []) ∷ answer replies.Done ([]) ∷ answer replies.Done ([]) ∷ []); is_all = true }
unfolding computed
trace_0119 = refl
