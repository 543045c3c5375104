-- Recorded sessions: what the definitions give is what was recorded. Made by `tools/meaning lemmas`.
use Rattle.std.specs.Prelude.{[], ◌∷◌, ◌≡◌, None, Some, false, pos, true}
use Rattle.std.proofs.Common.{refl}
use Rattle.wt_meaning.proofs.Recorded.{computed, parsed, shown}
use Rattle.wt_meaning.specs.Meaning.{run}
use Rattle.wt_meaning.specs.Rows.{answer}
use Rattle.wt_wire.specs.declared.side.Side.TheVariants.{Client, Server}
use Rattle.wt_turn.specs.declared.action.Action.TheVariants as actions
use Rattle.wt_wire.specs.declared.addr.Addr.TheVariants as addresses
use Rattle.wt_turn.specs.declared.call.Call.TheVariants as calls
use Rattle.wt_turn.specs.declared.connecting_error.ConnectingError.TheVariants as connects
use Rattle.wt_turn.specs.declared.connection_error.ConnectionError.TheVariants as errors
use Rattle.wt_turn.specs.declared.datagram_fact.DatagramFact.TheVariants as facts
use Rattle.wt_wire.specs.declared.error.ErrorCode.TheVariants as h3
use Rattle.wt_wire.specs.declared.lookup.Lookup.TheVariants as lookups
use Rattle.wt_wire.specs.declared.lookup.ConnectOutcome.TheVariants as outcomes
use Rattle.wt_turn.specs.declared.reply.Reply.TheVariants as replies
use Rattle.wt_turn.specs.declared.turn.Turn.TheVariants as turns
use Rattle.wt_turn.specs.declared.stream_error.StreamWriteError.TheVariants as writes

pub close_191 : shown (9 ∷ 10 ∷ 11 ∷ 12 ∷ 13 ∷ 14 ∷ 15 ∷ 16 ∷ 17 ∷ 18 ∷ 19 ∷ []) (run Server (turns.Connected 9 9 1000 (facts.Limit 1200) ∷ turns.PeerUni ∷ turns.Bytes 2 (0 ∷ 4 ∷ 0 ∷ []) ∷ turns.PeerBi ∷ turns.Bytes 0 (1 ∷ 64 ∷ 80 ∷ 0 ∷ 0 ∷ 39 ∷ 3 ∷ 58 ∷ 97 ∷ 117 ∷ 116 ∷ 104 ∷ 111 ∷ 114 ∷ 105 ∷ 116 ∷ 121 ∷ 1 ∷ 104 ∷ 39 ∷ 0 ∷ 58 ∷ 109 ∷ 101 ∷ 116 ∷ 104 ∷ 111 ∷ 100 ∷ 7 ∷ 67 ∷ 79 ∷ 78 ∷ 78 ∷ 69 ∷ 67 ∷ 84 ∷ 37 ∷ 58 ∷ 112 ∷ 97 ∷ 116 ∷ 104 ∷ 1 ∷ 47 ∷ 39 ∷ 2 ∷ 58 ∷ 112 ∷ 114 ∷ 111 ∷ 116 ∷ 111 ∷ 99 ∷ 111 ∷ 108 ∷ 12 ∷ 119 ∷ 101 ∷ 98 ∷ 116 ∷ 114 ∷ 97 ∷ 110 ∷ 115 ∷ 112 ∷ 111 ∷ 114 ∷ 116 ∷ 39 ∷ 0 ∷ 58 ∷ 115 ∷ 99 ∷ 104 ∷ 101 ∷ 109 ∷ 101 ∷ 5 ∷ 104 ∷ 116 ∷ 116 ∷ 112 ∷ 115 ∷ []) ∷ turns.Call calls.Incoming ∷ turns.Call (calls.Accept ([])) ∷ turns.Call (calls.OpenUni None) ∷ turns.Call (calls.PollOpening 7) ∷ turns.Call (calls.Close 5 (97 ∷ 98 ∷ [])) ∷ turns.Call (calls.Stopped 7) ∷ turns.Call (calls.Finish 7) ∷ turns.Call (calls.Write 7 (97 ∷ [])) ∷ turns.Call (calls.WriteAll 7 (97 ∷ [])) ∷ turns.Call (calls.Priority 7) ∷ turns.Call (calls.ResetSend 7 3) ∷ turns.Call (calls.Stopped 7) ∷ turns.Call (calls.Priority 7) ∷ turns.Call calls.Closed ∷ turns.Call (calls.Close 5 ([])) ∷ [])) ≡ record { answers = (answer replies.Done (actions.Close 5 (97 ∷ 98 ∷ []) ∷ []) ∷ answer (replies.StoppedBy writes.NotConnected) ([]) ∷ answer (replies.WriteFailed writes.NotConnected) ([]) ∷ answer (replies.WriteFailed writes.NotConnected) ([]) ∷ answer (replies.WriteFailed writes.NotConnected) ([]) ∷ answer (replies.Priority (pos 0)) ([]) ∷ answer replies.Done ([]) ∷ answer (replies.StoppedBy writes.Closed) ([]) ∷ answer replies.ClosedStream ([]) ∷ answer (replies.Closed errors.LocallyClosed) ([]) ∷ answer replies.Done ([]) ∷ []); is_all = true }
unfolding computed
close_191 = refl

pub handshake_192 : shown (3 ∷ 4 ∷ []) (run Client (turns.Call (calls.Connect ((104 ∷ 116 ∷ 116 ∷ 112 ∷ 115 ∷ 58 ∷ 47 ∷ 47 ∷ 104 ∷ 58 ∷ 52 ∷ 52 ∷ 51 ∷ 51 ∷ 47 ∷ []), ([])) (lookups.Found (addresses.V4 2130706433 4433)) outcomes.Proceed) ∷ turns.Connected 1 1 1000 (facts.Limit 1200) ∷ turns.PeerUni ∷ turns.Bytes 3 (0 ∷ 0 ∷ 0 ∷ []) ∷ turns.Call calls.Handshake ∷ [])) ≡ record { answers = (answer replies.Done (actions.Close 261 ([]) ∷ []) ∷ answer (replies.ConnectFailed (connects.ConnectionError (errors.LocalH3Error h3.FrameUnexpected))) ([]) ∷ []); is_all = true }
unfolding computed parsed
handshake_192 = refl

pub accept_uni_193 : shown (7 ∷ 8 ∷ []) (run Server (turns.Connected 9 9 1000 (facts.Limit 1200) ∷ turns.PeerUni ∷ turns.Bytes 2 (0 ∷ 4 ∷ 0 ∷ []) ∷ turns.PeerBi ∷ turns.Bytes 0 (1 ∷ 64 ∷ 80 ∷ 0 ∷ 0 ∷ 39 ∷ 3 ∷ 58 ∷ 97 ∷ 117 ∷ 116 ∷ 104 ∷ 111 ∷ 114 ∷ 105 ∷ 116 ∷ 121 ∷ 1 ∷ 104 ∷ 39 ∷ 0 ∷ 58 ∷ 109 ∷ 101 ∷ 116 ∷ 104 ∷ 111 ∷ 100 ∷ 7 ∷ 67 ∷ 79 ∷ 78 ∷ 78 ∷ 69 ∷ 67 ∷ 84 ∷ 37 ∷ 58 ∷ 112 ∷ 97 ∷ 116 ∷ 104 ∷ 1 ∷ 47 ∷ 39 ∷ 2 ∷ 58 ∷ 112 ∷ 114 ∷ 111 ∷ 116 ∷ 111 ∷ 99 ∷ 111 ∷ 108 ∷ 12 ∷ 119 ∷ 101 ∷ 98 ∷ 116 ∷ 114 ∷ 97 ∷ 110 ∷ 115 ∷ 112 ∷ 111 ∷ 114 ∷ 116 ∷ 39 ∷ 0 ∷ 58 ∷ 115 ∷ 99 ∷ 104 ∷ 101 ∷ 109 ∷ 101 ∷ 5 ∷ 104 ∷ 116 ∷ 116 ∷ 112 ∷ 115 ∷ []) ∷ turns.Call calls.Incoming ∷ turns.Call (calls.Accept ([])) ∷ turns.Bytes 0 (0 ∷ 3 ∷ 104 ∷ 67 ∷ 3 ∷ []) ∷ turns.Call (calls.AcceptUni None) ∷ [])) ≡ record { answers = (answer replies.Done (actions.Close 270 ([]) ∷ []) ∷ answer (replies.Failed (errors.LocalH3Error h3.Message)) ([]) ∷ []); is_all = true }
unfolding computed
accept_uni_193 = refl

pub bytes_194 : shown (7 ∷ 8 ∷ []) (run Server (turns.Connected 9 9 1000 (facts.Limit 1200) ∷ turns.PeerUni ∷ turns.Bytes 2 (0 ∷ 4 ∷ 0 ∷ []) ∷ turns.PeerBi ∷ turns.Bytes 0 (1 ∷ 64 ∷ 80 ∷ 0 ∷ 0 ∷ 39 ∷ 3 ∷ 58 ∷ 97 ∷ 117 ∷ 116 ∷ 104 ∷ 111 ∷ 114 ∷ 105 ∷ 116 ∷ 121 ∷ 1 ∷ 104 ∷ 39 ∷ 0 ∷ 58 ∷ 109 ∷ 101 ∷ 116 ∷ 104 ∷ 111 ∷ 100 ∷ 7 ∷ 67 ∷ 79 ∷ 78 ∷ 78 ∷ 69 ∷ 67 ∷ 84 ∷ 37 ∷ 58 ∷ 112 ∷ 97 ∷ 116 ∷ 104 ∷ 1 ∷ 47 ∷ 39 ∷ 2 ∷ 58 ∷ 112 ∷ 114 ∷ 111 ∷ 116 ∷ 111 ∷ 99 ∷ 111 ∷ 108 ∷ 12 ∷ 119 ∷ 101 ∷ 98 ∷ 116 ∷ 114 ∷ 97 ∷ 110 ∷ 115 ∷ 112 ∷ 111 ∷ 114 ∷ 116 ∷ 39 ∷ 0 ∷ 58 ∷ 115 ∷ 99 ∷ 104 ∷ 101 ∷ 109 ∷ 101 ∷ 5 ∷ 104 ∷ 116 ∷ 116 ∷ 112 ∷ 115 ∷ []) ∷ turns.Call calls.Incoming ∷ turns.Call (calls.Accept ([])) ∷ turns.Bytes 0 (0 ∷ 5 ∷ 104 ∷ 67 ∷ []) ∷ turns.Bytes 0 (68 ∷ 5 ∷ []) ∷ [])) ≡ record { answers = (answer replies.Done ([]) ∷ answer replies.Done (actions.Close 270 ([]) ∷ []) ∷ []); is_all = true }
unfolding computed
bytes_194 = refl

pub reset_195 : shown (7 ∷ []) (run Server (turns.Connected 9 9 1000 (facts.Limit 1200) ∷ turns.PeerUni ∷ turns.Bytes 2 (0 ∷ 4 ∷ 0 ∷ []) ∷ turns.PeerBi ∷ turns.Bytes 0 (1 ∷ 64 ∷ 80 ∷ 0 ∷ 0 ∷ 39 ∷ 3 ∷ 58 ∷ 97 ∷ 117 ∷ 116 ∷ 104 ∷ 111 ∷ 114 ∷ 105 ∷ 116 ∷ 121 ∷ 1 ∷ 104 ∷ 39 ∷ 0 ∷ 58 ∷ 109 ∷ 101 ∷ 116 ∷ 104 ∷ 111 ∷ 100 ∷ 7 ∷ 67 ∷ 79 ∷ 78 ∷ 78 ∷ 69 ∷ 67 ∷ 84 ∷ 37 ∷ 58 ∷ 112 ∷ 97 ∷ 116 ∷ 104 ∷ 1 ∷ 47 ∷ 39 ∷ 2 ∷ 58 ∷ 112 ∷ 114 ∷ 111 ∷ 116 ∷ 111 ∷ 99 ∷ 111 ∷ 108 ∷ 12 ∷ 119 ∷ 101 ∷ 98 ∷ 116 ∷ 114 ∷ 97 ∷ 110 ∷ 115 ∷ 112 ∷ 111 ∷ 114 ∷ 116 ∷ 39 ∷ 0 ∷ 58 ∷ 115 ∷ 99 ∷ 104 ∷ 101 ∷ 109 ∷ 101 ∷ 5 ∷ 104 ∷ 116 ∷ 116 ∷ 112 ∷ 115 ∷ []) ∷ turns.Call calls.Incoming ∷ turns.Call (calls.Accept ([])) ∷ turns.Reset 0 5 ∷ [])) ≡ record { answers = (answer replies.Done (actions.Close 260 ([]) ∷ []) ∷ []); is_all = true }
unfolding computed
reset_195 = refl

pub connect_196 : shown (0 ∷ []) (run Client (turns.Call (calls.Connect ((104 ∷ 116 ∷ 116 ∷ 112 ∷ 115 ∷ 58 ∷ 47 ∷ 47 ∷ 49 ∷ 50 ∷ 55 ∷ 46 ∷ 48 ∷ 46 ∷ 48 ∷ 46 ∷ 49 ∷ 58 ∷ 52 ∷ 52 ∷ 51 ∷ 51 ∷ 47 ∷ []), ([])) lookups.NotFound outcomes.Proceed) ∷ [])) ≡ record { answers = (answer replies.Pending (actions.Dial (addresses.V4 2130706433 4433) (49 ∷ 50 ∷ 55 ∷ 46 ∷ 48 ∷ 46 ∷ 48 ∷ 46 ∷ 49 ∷ []) ∷ []) ∷ []); is_all = true }
unfolding computed parsed
connect_196 = refl

pub closed_197 : shown (0 ∷ 1 ∷ []) (run Client (turns.Call (calls.Connect ((104 ∷ 116 ∷ 116 ∷ 112 ∷ 115 ∷ 58 ∷ 47 ∷ 47 ∷ 49 ∷ 50 ∷ 55 ∷ 46 ∷ 48 ∷ 46 ∷ 48 ∷ 46 ∷ 49 ∷ 47 ∷ []), ([])) lookups.NotFound outcomes.EndpointStopping) ∷ turns.Call calls.Closed ∷ [])) ≡ record { answers = (answer (replies.ConnectFailed connects.EndpointStopping) ([]) ∷ answer replies.NoSession ([]) ∷ []); is_all = true }
unfolding computed parsed
closed_197 = refl

pub connect_198 : shown (0 ∷ []) (run Client (turns.Call (calls.Connect ((104 ∷ 116 ∷ 116 ∷ 112 ∷ 115 ∷ 58 ∷ 47 ∷ 47 ∷ 49 ∷ 50 ∷ 55 ∷ 46 ∷ 48 ∷ 46 ∷ 48 ∷ 46 ∷ 49 ∷ 47 ∷ []), ([])) lookups.NotFound outcomes.CidsExhausted) ∷ [])) ≡ record { answers = (answer (replies.ConnectFailed connects.CidsExhausted) ([]) ∷ []); is_all = true }
unfolding computed parsed
connect_198 = refl

pub connect_199 : shown (0 ∷ []) (run Client (turns.Call (calls.Connect ((104 ∷ 116 ∷ 116 ∷ 112 ∷ 115 ∷ 58 ∷ 47 ∷ 47 ∷ 49 ∷ 50 ∷ 55 ∷ 46 ∷ 48 ∷ 46 ∷ 48 ∷ 46 ∷ 49 ∷ 47 ∷ []), ([])) lookups.NotFound (outcomes.InvalidServerName (97 ∷ 98 ∷ []))) ∷ [])) ≡ record { answers = (answer (replies.ConnectFailed (connects.InvalidServerName (97 ∷ 98 ∷ []))) ([]) ∷ []); is_all = true }
unfolding computed parsed
connect_199 = refl

pub connect_200 : shown (0 ∷ []) (run Client (turns.Call (calls.Connect ((104 ∷ 116 ∷ 116 ∷ 112 ∷ 115 ∷ 58 ∷ 47 ∷ 47 ∷ 49 ∷ 50 ∷ 55 ∷ 46 ∷ 48 ∷ 46 ∷ 48 ∷ 46 ∷ 49 ∷ 47 ∷ []), ([])) lookups.NotFound (outcomes.InvalidRemoteAddress (addresses.V4 2130706433 1))) ∷ [])) ≡ record { answers = (answer (replies.ConnectFailed (connects.InvalidRemoteAddress (addresses.V4 2130706433 1))) ([]) ∷ []); is_all = true }
unfolding computed parsed
connect_200 = refl

pub poll_opening_201 : shown (5 ∷ 8 ∷ 9 ∷ 10 ∷ 11 ∷ []) (run Server (turns.Connected 9 9 1000 (facts.Limit 1200) ∷ turns.PeerUni ∷ turns.Bytes 2 (0 ∷ 4 ∷ 0 ∷ []) ∷ turns.PeerBi ∷ turns.Bytes 0 (1 ∷ 64 ∷ 80 ∷ 0 ∷ 0 ∷ 39 ∷ 3 ∷ 58 ∷ 97 ∷ 117 ∷ 116 ∷ 104 ∷ 111 ∷ 114 ∷ 105 ∷ 116 ∷ 121 ∷ 1 ∷ 104 ∷ 39 ∷ 0 ∷ 58 ∷ 109 ∷ 101 ∷ 116 ∷ 104 ∷ 111 ∷ 100 ∷ 7 ∷ 67 ∷ 79 ∷ 78 ∷ 78 ∷ 69 ∷ 67 ∷ 84 ∷ 37 ∷ 58 ∷ 112 ∷ 97 ∷ 116 ∷ 104 ∷ 1 ∷ 47 ∷ 39 ∷ 2 ∷ 58 ∷ 112 ∷ 114 ∷ 111 ∷ 116 ∷ 111 ∷ 99 ∷ 111 ∷ 108 ∷ 12 ∷ 119 ∷ 101 ∷ 98 ∷ 116 ∷ 114 ∷ 97 ∷ 110 ∷ 115 ∷ 112 ∷ 111 ∷ 114 ∷ 116 ∷ 39 ∷ 0 ∷ 58 ∷ 115 ∷ 99 ∷ 104 ∷ 101 ∷ 109 ∷ 101 ∷ 5 ∷ 104 ∷ 116 ∷ 116 ∷ 112 ∷ 115 ∷ []) ∷ turns.Call (calls.PollOpening 7) ∷ turns.Call calls.Incoming ∷ turns.Call (calls.Accept ([])) ∷ turns.Call (calls.OpenUni None) ∷ turns.Call (calls.PollOpening 11) ∷ turns.Call (calls.PollOpening 7) ∷ turns.Call (calls.PollOpening 7) ∷ [])) ≡ record { answers = (answer replies.NoSession ([]) ∷ answer (replies.Opening 7) (actions.Opened 7 ∷ []) ∷ answer replies.NoStream ([]) ∷ answer (replies.SendReady 7) (actions.Send 7 (64 ∷ 84 ∷ 0 ∷ []) ∷ []) ∷ answer replies.NoStream ([]) ∷ []); is_all = true }
unfolding computed
poll_opening_201 = refl

pub bytes_202 : shown (7 ∷ 8 ∷ []) (run Server (turns.Connected 9 9 1000 (facts.Limit 1200) ∷ turns.Datagram (0 ∷ 97 ∷ []) ∷ turns.PeerUni ∷ turns.PeerUni ∷ turns.PeerUni ∷ turns.PeerUni ∷ turns.PeerUni ∷ turns.Bytes 18 (64 ∷ 84 ∷ 3 ∷ []) ∷ turns.Bytes 2 (33 ∷ []) ∷ [])) ≡ record { answers = (answer replies.Done ([]) ∷ answer replies.Done (actions.Close 264 ([]) ∷ []) ∷ []); is_all = true }
unfolding computed
bytes_202 = refl

pub bytes_204 : shown ([]) (run Server (turns.Connected 9 9 1000 (facts.Limit 1200) ∷ turns.Bytes 2 (0 ∷ []) ∷ [])) ≡ record { answers = ([]); is_all = false }
unfolding computed
bytes_204 = refl

pub bytes_205 : shown ([]) (run Server (turns.Connected 9 9 1000 (facts.Limit 1200) ∷ turns.PeerBi ∷ turns.Bytes 4 (0 ∷ []) ∷ [])) ≡ record { answers = ([]); is_all = false }
unfolding computed
bytes_205 = refl

pub bytes_206 : shown ([]) (run Server (turns.Connected 9 9 1000 (facts.Limit 1200) ∷ turns.Bytes 3 (0 ∷ []) ∷ [])) ≡ record { answers = ([]); is_all = false }
unfolding computed
bytes_206 = refl

pub stop_207 : shown ([]) (run Server (turns.Connected 9 9 1000 (facts.Limit 1200) ∷ turns.PeerUni ∷ turns.Stop 2 1 ∷ [])) ≡ record { answers = ([]); is_all = false }
unfolding computed
stop_207 = refl

pub stop_208 : shown ([]) (run Server (turns.Connected 9 9 1000 (facts.Limit 1200) ∷ turns.PeerBi ∷ turns.Stop 0 7 ∷ turns.Stop 0 8 ∷ [])) ≡ record { answers = ([]); is_all = false }
unfolding computed
stop_208 = refl

pub incoming_209 : shown (1 ∷ 2 ∷ []) (run Server (turns.Connected 9 9 1000 (facts.Limit 1200) ∷ turns.Call (calls.EndpointClose 0 ([])) ∷ turns.Call calls.Incoming ∷ turns.Call calls.Incoming ∷ [])) ≡ record { answers = (answer replies.Done (actions.Close 0 ([]) ∷ []) ∷ answer (replies.Failed errors.LocallyClosed) ([]) ∷ []); is_all = false }
unfolding computed
incoming_209 = refl

pub handshake_210 : shown (8 ∷ []) (run Server (turns.Connected 9 9 1000 (facts.Limit 1200) ∷ turns.PeerUni ∷ turns.Bytes 2 (0 ∷ 4 ∷ 0 ∷ []) ∷ turns.PeerBi ∷ turns.Bytes 0 (1 ∷ 64 ∷ 80 ∷ 0 ∷ 0 ∷ 39 ∷ 3 ∷ 58 ∷ 97 ∷ 117 ∷ 116 ∷ 104 ∷ 111 ∷ 114 ∷ 105 ∷ 116 ∷ 121 ∷ 1 ∷ 104 ∷ 39 ∷ 0 ∷ 58 ∷ 109 ∷ 101 ∷ 116 ∷ 104 ∷ 111 ∷ 100 ∷ 7 ∷ 67 ∷ 79 ∷ 78 ∷ 78 ∷ 69 ∷ 67 ∷ 84 ∷ 37 ∷ 58 ∷ 112 ∷ 97 ∷ 116 ∷ 104 ∷ 1 ∷ 47 ∷ 39 ∷ 2 ∷ 58 ∷ 112 ∷ 114 ∷ 111 ∷ 116 ∷ 111 ∷ 99 ∷ 111 ∷ 108 ∷ 12 ∷ 119 ∷ 101 ∷ 98 ∷ 116 ∷ 114 ∷ 97 ∷ 110 ∷ 115 ∷ 112 ∷ 111 ∷ 114 ∷ 116 ∷ 39 ∷ 0 ∷ 58 ∷ 115 ∷ 99 ∷ 104 ∷ 101 ∷ 109 ∷ 101 ∷ 5 ∷ 104 ∷ 116 ∷ 116 ∷ 112 ∷ 115 ∷ []) ∷ turns.Call calls.Incoming ∷ turns.Call calls.Forbidden ∷ turns.Acked 0 ∷ turns.Call calls.Handshake ∷ turns.Call calls.Handshake ∷ [])) ≡ record { answers = (answer replies.Rejected (actions.Close 0 ([]) ∷ []) ∷ []); is_all = false }
unfolding computed
handshake_210 = refl

pub connected_211 : shown ([]) (run Server (turns.Connected 9 9 1000 (facts.Limit 1200) ∷ turns.Connected 9 9 1000 (facts.Limit 1200) ∷ [])) ≡ record { answers = ([]); is_all = false }
unfolding computed
connected_211 = refl

pub max_uni_212 : shown ([]) (run Server (turns.Connected 9 9 1000 (facts.Limit 1200) ∷ turns.MaxUni 8 ∷ [])) ≡ record { answers = ([]); is_all = false }
unfolding computed
max_uni_212 = refl

pub max_data_213 : shown ([]) (run Server (turns.Connected 9 9 1000 (facts.Limit 1200) ∷ turns.MaxData 3 999 ∷ [])) ≡ record { answers = ([]); is_all = false }
unfolding computed
max_data_213 = refl

pub connected_214 : shown ([]) (run Client (turns.Connected 2 9 1000 facts.Disabled ∷ [])) ≡ record { answers = ([]); is_all = false }
unfolding computed
connected_214 = refl

pub acked_215 : shown ([]) (run Server (turns.Connected 9 9 1000 (facts.Limit 1200) ∷ turns.Acked 3 ∷ [])) ≡ record { answers = ([]); is_all = false }
unfolding computed
acked_215 = refl

pub peer_uni_216 : shown ([]) (run Server (turns.PeerUni ∷ [])) ≡ record { answers = ([]); is_all = false }
unfolding computed
peer_uni_216 = refl

pub connected_217 : shown ([]) (run Server (turns.Connected 1152921504606846977 9 1000 facts.Disabled ∷ [])) ≡ record { answers = ([]); is_all = false }
unfolding computed
connected_217 = refl

pub read_219 : shown (11 ∷ 12 ∷ 13 ∷ 14 ∷ 17 ∷ 20 ∷ 21 ∷ 22 ∷ 23 ∷ []) (run Server (turns.Connected 9 9 1000 (facts.Limit 1200) ∷ turns.PeerUni ∷ turns.Bytes 2 (0 ∷ 4 ∷ 0 ∷ []) ∷ turns.PeerBi ∷ turns.Bytes 0 (1 ∷ 64 ∷ 80 ∷ 0 ∷ 0 ∷ 39 ∷ 3 ∷ 58 ∷ 97 ∷ 117 ∷ 116 ∷ 104 ∷ 111 ∷ 114 ∷ 105 ∷ 116 ∷ 121 ∷ 1 ∷ 104 ∷ 39 ∷ 0 ∷ 58 ∷ 109 ∷ 101 ∷ 116 ∷ 104 ∷ 111 ∷ 100 ∷ 7 ∷ 67 ∷ 79 ∷ 78 ∷ 78 ∷ 69 ∷ 67 ∷ 84 ∷ 37 ∷ 58 ∷ 112 ∷ 97 ∷ 116 ∷ 104 ∷ 1 ∷ 47 ∷ 39 ∷ 2 ∷ 58 ∷ 112 ∷ 114 ∷ 111 ∷ 116 ∷ 111 ∷ 99 ∷ 111 ∷ 108 ∷ 12 ∷ 119 ∷ 101 ∷ 98 ∷ 116 ∷ 114 ∷ 97 ∷ 110 ∷ 115 ∷ 112 ∷ 111 ∷ 114 ∷ 116 ∷ 39 ∷ 0 ∷ 58 ∷ 115 ∷ 99 ∷ 104 ∷ 101 ∷ 109 ∷ 101 ∷ 5 ∷ 104 ∷ 116 ∷ 116 ∷ 112 ∷ 115 ∷ []) ∷ turns.Call calls.Incoming ∷ turns.Call (calls.Accept ([])) ∷ turns.PeerUni ∷ turns.Bytes 6 (64 ∷ 84 ∷ 0 ∷ 97 ∷ []) ∷ turns.PeerUni ∷ turns.Bytes 10 (64 ∷ 84 ∷ 0 ∷ []) ∷ turns.Call (calls.AcceptUni None) ∷ turns.Call (calls.AcceptUni None) ∷ turns.End 6 ∷ turns.Call (calls.StopRecv 10 5) ∷ turns.Call (calls.OpenUni None) ∷ turns.Call (calls.PollOpening 7) ∷ turns.Call (calls.Finish 7) ∷ turns.Call (calls.OpenUni None) ∷ turns.Call (calls.PollOpening 11) ∷ turns.Call (calls.ResetSend 11 3) ∷ turns.Call (calls.EndSession None) ∷ turns.Call (calls.Read 6 9) ∷ turns.Call (calls.Read 6 9) ∷ [])) ≡ record { answers = (answer (replies.Uni 6) ([]) ∷ answer (replies.Uni 10) ([]) ∷ answer replies.Done ([]) ∷ answer replies.Done (actions.StopOut 10 5 ∷ []) ∷ answer replies.Pending (actions.Finish 7 ∷ []) ∷ answer replies.Done (actions.ResetOut 11 3 ∷ []) ∷ answer replies.Done (actions.Finish 0 ∷ []) ∷ answer (replies.Read (Some (97 ∷ []))) ([]) ∷ answer (replies.Read None) ([]) ∷ []); is_all = true }
unfolding computed
read_219 = refl

pub handshake_222 : shown (0 ∷ 4 ∷ []) (run Client (turns.Call (calls.Connect ((104 ∷ 116 ∷ 116 ∷ 112 ∷ 115 ∷ 58 ∷ 47 ∷ 47 ∷ 104 ∷ 58 ∷ 52 ∷ 52 ∷ 51 ∷ 51 ∷ 47 ∷ 112 ∷ 63 ∷ 113 ∷ []), (((120 ∷ []), (121 ∷ [])) ∷ [])) (lookups.Found (addresses.V4 2130706433 4433)) outcomes.Proceed) ∷ turns.Connected 1 1 1000 (facts.Limit 1200) ∷ turns.PeerUni ∷ turns.Bytes 3 (0 ∷ 4 ∷ 0 ∷ []) ∷ turns.Call calls.Handshake ∷ [])) ≡ record { answers = (answer replies.Pending (actions.Dial (addresses.V4 2130706433 4433) (104 ∷ []) ∷ []) ∷ answer replies.Pending (actions.Opened 0 ∷ actions.Send 0 (1 ∷ 64 ∷ 92 ∷ 0 ∷ 0 ∷ 39 ∷ 3 ∷ 58 ∷ 97 ∷ 117 ∷ 116 ∷ 104 ∷ 111 ∷ 114 ∷ 105 ∷ 116 ∷ 121 ∷ 6 ∷ 104 ∷ 58 ∷ 52 ∷ 52 ∷ 51 ∷ 51 ∷ 39 ∷ 0 ∷ 58 ∷ 109 ∷ 101 ∷ 116 ∷ 104 ∷ 111 ∷ 100 ∷ 7 ∷ 67 ∷ 79 ∷ 78 ∷ 78 ∷ 69 ∷ 67 ∷ 84 ∷ 37 ∷ 58 ∷ 112 ∷ 97 ∷ 116 ∷ 104 ∷ 4 ∷ 47 ∷ 112 ∷ 63 ∷ 113 ∷ 39 ∷ 2 ∷ 58 ∷ 112 ∷ 114 ∷ 111 ∷ 116 ∷ 111 ∷ 99 ∷ 111 ∷ 108 ∷ 12 ∷ 119 ∷ 101 ∷ 98 ∷ 116 ∷ 114 ∷ 97 ∷ 110 ∷ 115 ∷ 112 ∷ 111 ∷ 114 ∷ 116 ∷ 39 ∷ 0 ∷ 58 ∷ 115 ∷ 99 ∷ 104 ∷ 101 ∷ 109 ∷ 101 ∷ 5 ∷ 104 ∷ 116 ∷ 116 ∷ 112 ∷ 115 ∷ 33 ∷ 120 ∷ 1 ∷ 121 ∷ []) ∷ []) ∷ []); is_all = true }
unfolding computed parsed
handshake_222 = refl

pub connect_223 : shown (0 ∷ []) (run Client (turns.Call (calls.Connect ((104 ∷ 116 ∷ 116 ∷ 112 ∷ 115 ∷ 58 ∷ 47 ∷ 47 ∷ 104 ∷ 47 ∷ []), ([])) (lookups.Fault (111 ∷ 111 ∷ [])) outcomes.Proceed) ∷ [])) ≡ record { answers = (answer (replies.ConnectFailed (connects.DnsLookup (111 ∷ 111 ∷ []))) ([]) ∷ []); is_all = true }
unfolding computed parsed
connect_223 = refl

pub accept_uni_225 : shown (6 ∷ 7 ∷ 8 ∷ []) (run Client (turns.Call (calls.Connect ((104 ∷ 116 ∷ 116 ∷ 112 ∷ 115 ∷ 58 ∷ 47 ∷ 47 ∷ 104 ∷ 58 ∷ 52 ∷ 52 ∷ 51 ∷ 51 ∷ 47 ∷ 112 ∷ 63 ∷ 113 ∷ []), ([])) (lookups.Found (addresses.V4 2130706433 4433)) outcomes.Proceed) ∷ turns.Connected 1 1 1000 (facts.Limit 1200) ∷ turns.PeerUni ∷ turns.Bytes 3 (0 ∷ 4 ∷ 0 ∷ []) ∷ turns.Call calls.Handshake ∷ turns.Bytes 0 (33 ∷ 0 ∷ 1 ∷ 15 ∷ 0 ∷ 0 ∷ 39 ∷ 0 ∷ 58 ∷ 115 ∷ 116 ∷ 97 ∷ 116 ∷ 117 ∷ 115 ∷ 3 ∷ 50 ∷ 48 ∷ 48 ∷ []) ∷ turns.Call calls.Handshake ∷ turns.Bytes 0 (0 ∷ 7 ∷ 104 ∷ 67 ∷ 4 ∷ 0 ∷ 0 ∷ 0 ∷ 9 ∷ []) ∷ turns.Call (calls.AcceptUni None) ∷ [])) ≡ record { answers = (answer (replies.Session 0) ([]) ∷ answer replies.Done (actions.ResetOut 0 256 ∷ []) ∷ answer (replies.Failed (errors.ApplicationClosed (record { code = 9; reason = ([]) }))) ([]) ∷ []); is_all = true }
unfolding computed parsed
accept_uni_225 = refl
