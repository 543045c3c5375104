-- Recorded sessions: what the definitions give is what was recorded. Made by `tools/meaning lemmas`.
use Rattle.std.specs.Prelude.{[], ◌∷◌, ◌≡◌, false, true}
use Rattle.std.proofs.Common.{refl}
use Rattle.wt_meaning.proofs.Recorded.{computed, parsed}
use Rattle.wt_meaning.specs.Meaning.{run}
use Rattle.wt_meaning.specs.Rows.{answer}
use Rattle.wt_wire.specs.declared.side.Side.TheVariants.{Client}
use Rattle.wt_turn.specs.declared.action.Action.TheVariants as actions
use Rattle.wt_wire.specs.declared.addr.Addr.TheVariants as addresses
use Rattle.wt_turn.specs.declared.call.Call.TheVariants as calls
use Rattle.wt_turn.specs.declared.connecting_error.ConnectingError.TheVariants as connects
use Rattle.wt_turn.specs.declared.datagram_fact.DatagramFact.TheVariants as facts
use Rattle.wt_wire.specs.declared.lookup.Lookup.TheVariants as lookups
use Rattle.wt_wire.specs.declared.lookup.ConnectOutcome.TheVariants as outcomes
use Rattle.wt_turn.specs.declared.connecting_error.UrlRefusal.TheVariants as refusals
use Rattle.wt_turn.specs.declared.reply.Reply.TheVariants as replies
use Rattle.wt_turn.specs.declared.turn.Turn.TheVariants as turns

pub url_0000 : run Client (turns.Call (calls.Connect ((104 ∷ 116 ∷ 116 ∷ 112 ∷ 115 ∷ 58 ∷ 92 ∷ 92 ∷ 117 ∷ 58 ∷ 112 ∷ 64 ∷ 97 ∷ 124 ∷ 98 ∷ 58 ∷ 48 ∷ 54 ∷ 53 ∷ 53 ∷ 51 ∷ 53 ∷ []), ([])) lookups.NotFound outcomes.Proceed) ∷ turns.Connected 1 1 10000 (facts.Limit 1200) ∷ turns.PeerUni ∷ turns.Bytes 3 (0 ∷ 4 ∷ 0 ∷ []) ∷ turns.Call calls.Handshake ∷ []) ≡ record { answers = (answer (replies.ConnectFailed (connects.InvalidUrl refusals.Parse)) ([]) ∷ []); is_all = false }
unfolding computed parsed
url_0000 = refl

pub url_0001 : run Client (turns.Call (calls.Connect ((104 ∷ 116 ∷ 116 ∷ 112 ∷ 115 ∷ 58 ∷ 47 ∷ 47 ∷ 91 ∷ 58 ∷ 58 ∷ 91 ∷ 93 ∷ 58 ∷ 57 ∷ 57 ∷ 47 ∷ 120 ∷ 63 ∷ 121 ∷ 35 ∷ 122 ∷ []), ([])) (lookups.Fault (110 ∷ [])) outcomes.Proceed) ∷ turns.Connected 1 1 10000 (facts.Limit 1200) ∷ turns.PeerUni ∷ turns.Bytes 3 (0 ∷ 4 ∷ 0 ∷ []) ∷ turns.Call calls.Handshake ∷ []) ≡ record { answers = (answer (replies.ConnectFailed (connects.InvalidUrl refusals.Parse)) ([]) ∷ []); is_all = false }
unfolding computed parsed
url_0001 = refl

pub url_0002 : run Client (turns.Call (calls.Connect ((104 ∷ 116 ∷ 116 ∷ 112 ∷ 115 ∷ 58 ∷ 47 ∷ 47 ∷ 104 ∷ 58 ∷ 52 ∷ 52 ∷ 51 ∷ 51 ∷ 47 ∷ 112 ∷ 63 ∷ 113 ∷ []), ([])) (lookups.Found (addresses.V4 16909060 5)) outcomes.Proceed) ∷ turns.Connected 1 1 10000 (facts.Limit 1200) ∷ turns.PeerUni ∷ turns.Bytes 3 (0 ∷ 4 ∷ 0 ∷ []) ∷ turns.Call calls.Handshake ∷ []) ≡ record { answers = (answer replies.Pending (actions.Dial (addresses.V4 16909060 5) (104 ∷ []) ∷ []) ∷ answer replies.Done (actions.Opened 2 ∷ actions.Send 2 (0 ∷ 4 ∷ 22 ∷ 1 ∷ 0 ∷ 7 ∷ 0 ∷ 8 ∷ 1 ∷ 51 ∷ 1 ∷ 171 ∷ 96 ∷ 55 ∷ 66 ∷ 1 ∷ 192 ∷ 0 ∷ 0 ∷ 0 ∷ 198 ∷ 113 ∷ 112 ∷ 106 ∷ 4 ∷ []) ∷ []) ∷ answer replies.Done ([]) ∷ answer replies.Done ([]) ∷ answer replies.Pending (actions.Opened 0 ∷ actions.Send 0 (1 ∷ 64 ∷ 88 ∷ 0 ∷ 0 ∷ 39 ∷ 3 ∷ 58 ∷ 97 ∷ 117 ∷ 116 ∷ 104 ∷ 111 ∷ 114 ∷ 105 ∷ 116 ∷ 121 ∷ 6 ∷ 104 ∷ 58 ∷ 52 ∷ 52 ∷ 51 ∷ 51 ∷ 39 ∷ 0 ∷ 58 ∷ 109 ∷ 101 ∷ 116 ∷ 104 ∷ 111 ∷ 100 ∷ 7 ∷ 67 ∷ 79 ∷ 78 ∷ 78 ∷ 69 ∷ 67 ∷ 84 ∷ 37 ∷ 58 ∷ 112 ∷ 97 ∷ 116 ∷ 104 ∷ 4 ∷ 47 ∷ 112 ∷ 63 ∷ 113 ∷ 39 ∷ 2 ∷ 58 ∷ 112 ∷ 114 ∷ 111 ∷ 116 ∷ 111 ∷ 99 ∷ 111 ∷ 108 ∷ 12 ∷ 119 ∷ 101 ∷ 98 ∷ 116 ∷ 114 ∷ 97 ∷ 110 ∷ 115 ∷ 112 ∷ 111 ∷ 114 ∷ 116 ∷ 39 ∷ 0 ∷ 58 ∷ 115 ∷ 99 ∷ 104 ∷ 101 ∷ 109 ∷ 101 ∷ 5 ∷ 104 ∷ 116 ∷ 116 ∷ 112 ∷ 115 ∷ []) ∷ []) ∷ []); is_all = true }
unfolding computed parsed
url_0002 = refl

pub url_0003 : run Client (turns.Call (calls.Connect ((104 ∷ 58 ∷ 116 ∷ 112 ∷ 115 ∷ 47 ∷ 47 ∷ 104 ∷ 58 ∷ 52 ∷ 52 ∷ 51 ∷ 51 ∷ 47 ∷ 112 ∷ 63 ∷ 113 ∷ []), ([])) lookups.NotFound outcomes.Proceed) ∷ turns.Connected 1 1 10000 (facts.Limit 1200) ∷ turns.PeerUni ∷ turns.Bytes 3 (0 ∷ 4 ∷ 0 ∷ []) ∷ turns.Call calls.Handshake ∷ []) ≡ record { answers = (answer (replies.ConnectFailed (connects.InvalidUrl refusals.Scheme)) ([]) ∷ []); is_all = false }
unfolding computed parsed
url_0003 = refl

pub url_0004 : run Client (turns.Call (calls.Connect ((104 ∷ 116 ∷ 116 ∷ 112 ∷ 115 ∷ 58 ∷ 47 ∷ 47 ∷ 104 ∷ 58 ∷ 52 ∷ 52 ∷ 51 ∷ 51 ∷ 47 ∷ 112 ∷ 46 ∷ 113 ∷ []), ([])) (lookups.Found (addresses.V4 16909060 5)) outcomes.Proceed) ∷ turns.Connected 1 1 10000 (facts.Limit 1200) ∷ turns.PeerUni ∷ turns.Bytes 3 (0 ∷ 4 ∷ 0 ∷ []) ∷ turns.Call calls.Handshake ∷ []) ≡ record { answers = (answer replies.Pending (actions.Dial (addresses.V4 16909060 5) (104 ∷ []) ∷ []) ∷ answer replies.Done (actions.Opened 2 ∷ actions.Send 2 (0 ∷ 4 ∷ 22 ∷ 1 ∷ 0 ∷ 7 ∷ 0 ∷ 8 ∷ 1 ∷ 51 ∷ 1 ∷ 171 ∷ 96 ∷ 55 ∷ 66 ∷ 1 ∷ 192 ∷ 0 ∷ 0 ∷ 0 ∷ 198 ∷ 113 ∷ 112 ∷ 106 ∷ 4 ∷ []) ∷ []) ∷ answer replies.Done ([]) ∷ answer replies.Done ([]) ∷ answer replies.Pending (actions.Opened 0 ∷ actions.Send 0 (1 ∷ 64 ∷ 88 ∷ 0 ∷ 0 ∷ 39 ∷ 3 ∷ 58 ∷ 97 ∷ 117 ∷ 116 ∷ 104 ∷ 111 ∷ 114 ∷ 105 ∷ 116 ∷ 121 ∷ 6 ∷ 104 ∷ 58 ∷ 52 ∷ 52 ∷ 51 ∷ 51 ∷ 39 ∷ 0 ∷ 58 ∷ 109 ∷ 101 ∷ 116 ∷ 104 ∷ 111 ∷ 100 ∷ 7 ∷ 67 ∷ 79 ∷ 78 ∷ 78 ∷ 69 ∷ 67 ∷ 84 ∷ 37 ∷ 58 ∷ 112 ∷ 97 ∷ 116 ∷ 104 ∷ 4 ∷ 47 ∷ 112 ∷ 46 ∷ 113 ∷ 39 ∷ 2 ∷ 58 ∷ 112 ∷ 114 ∷ 111 ∷ 116 ∷ 111 ∷ 99 ∷ 111 ∷ 108 ∷ 12 ∷ 119 ∷ 101 ∷ 98 ∷ 116 ∷ 114 ∷ 97 ∷ 110 ∷ 115 ∷ 112 ∷ 111 ∷ 114 ∷ 116 ∷ 39 ∷ 0 ∷ 58 ∷ 115 ∷ 99 ∷ 104 ∷ 101 ∷ 109 ∷ 101 ∷ 5 ∷ 104 ∷ 116 ∷ 116 ∷ 112 ∷ 115 ∷ []) ∷ []) ∷ []); is_all = true }
unfolding computed parsed
url_0004 = refl

pub url_0005 : run Client (turns.Call (calls.Connect ((66 ∷ 37 ∷ 84 ∷ 98 ∷ 67 ∷ 74 ∷ 115 ∷ []), ([])) (lookups.Found (addresses.V4 16909060 5)) outcomes.Proceed) ∷ turns.Connected 1 1 10000 (facts.Limit 1200) ∷ turns.PeerUni ∷ turns.Bytes 3 (0 ∷ 4 ∷ 0 ∷ []) ∷ turns.Call calls.Handshake ∷ []) ≡ record { answers = (answer (replies.ConnectFailed (connects.InvalidUrl refusals.Parse)) ([]) ∷ []); is_all = false }
unfolding computed parsed
url_0005 = refl

pub url_0006 : run Client (turns.Call (calls.Connect ((104 ∷ 116 ∷ 116 ∷ 112 ∷ 115 ∷ 58 ∷ 47 ∷ 47 ∷ 104 ∷ 58 ∷ 52 ∷ 52 ∷ 51 ∷ 51 ∷ 47 ∷ 112 ∷ 63 ∷ 113 ∷ []), ([])) lookups.NotFound outcomes.Proceed) ∷ turns.Connected 1 1 10000 (facts.Limit 1200) ∷ turns.PeerUni ∷ turns.Bytes 3 (0 ∷ 4 ∷ 0 ∷ []) ∷ turns.Call calls.Handshake ∷ []) ≡ record { answers = (answer (replies.ConnectFailed connects.DnsNotFound) ([]) ∷ []); is_all = false }
unfolding computed parsed
url_0006 = refl

pub url_0007 : run Client (turns.Call (calls.Connect ((104 ∷ 116 ∷ 116 ∷ 112 ∷ 115 ∷ 58 ∷ 47 ∷ 47 ∷ 49 ∷ 50 ∷ 55 ∷ 46 ∷ 48 ∷ 46 ∷ 48 ∷ 46 ∷ 49 ∷ 47 ∷ []), ([])) lookups.NotFound outcomes.Proceed) ∷ turns.Connected 1 1 10000 (facts.Limit 1200) ∷ turns.PeerUni ∷ turns.Bytes 3 (0 ∷ 4 ∷ 0 ∷ []) ∷ turns.Call calls.Handshake ∷ []) ≡ record { answers = (answer replies.Pending (actions.Dial (addresses.V4 2130706433 443) (49 ∷ 50 ∷ 55 ∷ 46 ∷ 48 ∷ 46 ∷ 48 ∷ 46 ∷ 49 ∷ []) ∷ []) ∷ answer replies.Done (actions.Opened 2 ∷ actions.Send 2 (0 ∷ 4 ∷ 22 ∷ 1 ∷ 0 ∷ 7 ∷ 0 ∷ 8 ∷ 1 ∷ 51 ∷ 1 ∷ 171 ∷ 96 ∷ 55 ∷ 66 ∷ 1 ∷ 192 ∷ 0 ∷ 0 ∷ 0 ∷ 198 ∷ 113 ∷ 112 ∷ 106 ∷ 4 ∷ []) ∷ []) ∷ answer replies.Done ([]) ∷ answer replies.Done ([]) ∷ answer replies.Pending (actions.Opened 0 ∷ actions.Send 0 (1 ∷ 64 ∷ 88 ∷ 0 ∷ 0 ∷ 39 ∷ 3 ∷ 58 ∷ 97 ∷ 117 ∷ 116 ∷ 104 ∷ 111 ∷ 114 ∷ 105 ∷ 116 ∷ 121 ∷ 9 ∷ 49 ∷ 50 ∷ 55 ∷ 46 ∷ 48 ∷ 46 ∷ 48 ∷ 46 ∷ 49 ∷ 39 ∷ 0 ∷ 58 ∷ 109 ∷ 101 ∷ 116 ∷ 104 ∷ 111 ∷ 100 ∷ 7 ∷ 67 ∷ 79 ∷ 78 ∷ 78 ∷ 69 ∷ 67 ∷ 84 ∷ 37 ∷ 58 ∷ 112 ∷ 97 ∷ 116 ∷ 104 ∷ 1 ∷ 47 ∷ 39 ∷ 2 ∷ 58 ∷ 112 ∷ 114 ∷ 111 ∷ 116 ∷ 111 ∷ 99 ∷ 111 ∷ 108 ∷ 12 ∷ 119 ∷ 101 ∷ 98 ∷ 116 ∷ 114 ∷ 97 ∷ 110 ∷ 115 ∷ 112 ∷ 111 ∷ 114 ∷ 116 ∷ 39 ∷ 0 ∷ 58 ∷ 115 ∷ 99 ∷ 104 ∷ 101 ∷ 109 ∷ 101 ∷ 5 ∷ 104 ∷ 116 ∷ 116 ∷ 112 ∷ 115 ∷ []) ∷ []) ∷ []); is_all = true }
unfolding computed parsed
url_0007 = refl

pub url_0008 : run Client (turns.Call (calls.Connect ((113 ∷ 117 ∷ 123 ∷ 111 ∷ 73 ∷ []), ([])) lookups.NotFound outcomes.Proceed) ∷ turns.Connected 1 1 10000 (facts.Limit 1200) ∷ turns.PeerUni ∷ turns.Bytes 3 (0 ∷ 4 ∷ 0 ∷ []) ∷ turns.Call calls.Handshake ∷ []) ≡ record { answers = (answer (replies.ConnectFailed (connects.InvalidUrl refusals.Parse)) ([]) ∷ []); is_all = false }
unfolding computed parsed
url_0008 = refl

pub url_0009 : run Client (turns.Call (calls.Connect ((104 ∷ 116 ∷ 116 ∷ 112 ∷ 115 ∷ 58 ∷ 47 ∷ 47 ∷ 91 ∷ 58 ∷ 58 ∷ 49 ∷ 93 ∷ 58 ∷ 57 ∷ 57 ∷ 47 ∷ 120 ∷ 63 ∷ 121 ∷ 35 ∷ 91 ∷ []), ([])) (lookups.Found (addresses.V4 16909060 5)) outcomes.Proceed) ∷ []) ≡ record { answers = (answer replies.Pending (actions.Dial (addresses.V6 1 99) (58 ∷ 58 ∷ 49 ∷ []) ∷ []) ∷ []); is_all = true }
unfolding computed parsed
url_0009 = refl

pub url_0010 : run Client (turns.Call (calls.Connect ((120 ∷ 58 ∷ 47 ∷ 47 ∷ 64 ∷ 104 ∷ 37 ∷ 50 ∷ 70 ∷ 58 ∷ 120 ∷ 91 ∷ 46 ∷ 96 ∷ 97 ∷ 37 ∷ 122 ∷ 122 ∷ 97 ∷ 37 ∷ 39 ∷ 92 ∷ []), ([])) (lookups.Fault (110 ∷ [])) outcomes.Proceed) ∷ turns.Connected 1 1 10000 (facts.Limit 1200) ∷ turns.PeerUni ∷ turns.Bytes 3 (0 ∷ 4 ∷ 0 ∷ []) ∷ turns.Call calls.Handshake ∷ []) ≡ record { answers = (answer (replies.ConnectFailed (connects.InvalidUrl refusals.Parse)) ([]) ∷ []); is_all = false }
unfolding computed parsed
url_0010 = refl

pub url_0011 : run Client (turns.Call (calls.Connect ((104 ∷ 116 ∷ 116 ∷ 112 ∷ 115 ∷ 58 ∷ 117 ∷ 64 ∷ 104 ∷ 58 ∷ []), ([])) (lookups.Found (addresses.V4 16909060 5)) outcomes.Proceed) ∷ turns.Connected 1 1 10000 (facts.Limit 1200) ∷ turns.PeerUni ∷ turns.Bytes 3 (0 ∷ 4 ∷ 0 ∷ []) ∷ turns.Call calls.Handshake ∷ []) ≡ record { answers = (answer replies.Pending (actions.Dial (addresses.V4 16909060 5) (104 ∷ []) ∷ []) ∷ answer replies.Done (actions.Opened 2 ∷ actions.Send 2 (0 ∷ 4 ∷ 22 ∷ 1 ∷ 0 ∷ 7 ∷ 0 ∷ 8 ∷ 1 ∷ 51 ∷ 1 ∷ 171 ∷ 96 ∷ 55 ∷ 66 ∷ 1 ∷ 192 ∷ 0 ∷ 0 ∷ 0 ∷ 198 ∷ 113 ∷ 112 ∷ 106 ∷ 4 ∷ []) ∷ []) ∷ answer replies.Done ([]) ∷ answer replies.Done ([]) ∷ answer replies.Pending (actions.Opened 0 ∷ actions.Send 0 (1 ∷ 64 ∷ 80 ∷ 0 ∷ 0 ∷ 39 ∷ 3 ∷ 58 ∷ 97 ∷ 117 ∷ 116 ∷ 104 ∷ 111 ∷ 114 ∷ 105 ∷ 116 ∷ 121 ∷ 1 ∷ 104 ∷ 39 ∷ 0 ∷ 58 ∷ 109 ∷ 101 ∷ 116 ∷ 104 ∷ 111 ∷ 100 ∷ 7 ∷ 67 ∷ 79 ∷ 78 ∷ 78 ∷ 69 ∷ 67 ∷ 84 ∷ 37 ∷ 58 ∷ 112 ∷ 97 ∷ 116 ∷ 104 ∷ 1 ∷ 47 ∷ 39 ∷ 2 ∷ 58 ∷ 112 ∷ 114 ∷ 111 ∷ 116 ∷ 111 ∷ 99 ∷ 111 ∷ 108 ∷ 12 ∷ 119 ∷ 101 ∷ 98 ∷ 116 ∷ 114 ∷ 97 ∷ 110 ∷ 115 ∷ 112 ∷ 111 ∷ 114 ∷ 116 ∷ 39 ∷ 0 ∷ 58 ∷ 115 ∷ 99 ∷ 104 ∷ 101 ∷ 109 ∷ 101 ∷ 5 ∷ 104 ∷ 116 ∷ 116 ∷ 112 ∷ 115 ∷ []) ∷ []) ∷ []); is_all = true }
unfolding computed parsed
url_0011 = refl

pub url_0012 : run Client (turns.Call (calls.Connect ((48 ∷ []), ([])) (lookups.Found (addresses.V4 16909060 5)) outcomes.Proceed) ∷ turns.Connected 1 1 10000 (facts.Limit 1200) ∷ turns.PeerUni ∷ turns.Bytes 3 (0 ∷ 4 ∷ 0 ∷ []) ∷ turns.Call calls.Handshake ∷ []) ≡ record { answers = (answer (replies.ConnectFailed (connects.InvalidUrl refusals.Parse)) ([]) ∷ []); is_all = false }
unfolding computed parsed
url_0012 = refl

pub url_0013 : run Client (turns.Call (calls.Connect ((104 ∷ 116 ∷ 116 ∷ 112 ∷ 115 ∷ 58 ∷ 47 ∷ 47 ∷ 117 ∷ 64 ∷ 46 ∷ 49 ∷ 58 ∷ 56 ∷ 48 ∷ []), ([])) (lookups.Found (addresses.V4 16909060 5)) outcomes.Proceed) ∷ turns.Connected 1 1 10000 (facts.Limit 1200) ∷ turns.PeerUni ∷ turns.Bytes 3 (0 ∷ 4 ∷ 0 ∷ []) ∷ turns.Call calls.Handshake ∷ []) ≡ record { answers = (answer (replies.ConnectFailed (connects.InvalidUrl refusals.Parse)) ([]) ∷ []); is_all = false }
unfolding computed parsed
url_0013 = refl

pub url_0014 : run Client (turns.Call (calls.Connect ((47 ∷ 116 ∷ 116 ∷ 112 ∷ 115 ∷ 58 ∷ 47 ∷ 47 ∷ 117 ∷ 58 ∷ 112 ∷ 64 ∷ 104 ∷ 46 ∷ 58 ∷ 54 ∷ 53 ∷ 53 ∷ 51 ∷ 54 ∷ 47 ∷ 96 ∷ []), ([])) lookups.NotFound outcomes.Proceed) ∷ turns.Connected 1 1 10000 (facts.Limit 1200) ∷ turns.PeerUni ∷ turns.Bytes 3 (0 ∷ 4 ∷ 0 ∷ []) ∷ turns.Call calls.Handshake ∷ []) ≡ record { answers = (answer (replies.ConnectFailed (connects.InvalidUrl refusals.Parse)) ([]) ∷ []); is_all = false }
unfolding computed parsed
url_0014 = refl

pub url_0016 : run Client (turns.Call (calls.Connect ((97 ∷ 64 ∷ 98 ∷ 64 ∷ 49 ∷ 46 ∷ 50 ∷ 46 ∷ 51 ∷ 46 ∷ 52 ∷ 46 ∷ 53 ∷ 58 ∷ 120 ∷ 47 ∷ 34 ∷ 92 ∷ 37 ∷ 122 ∷ 122 ∷ 69 ∷ []), ([])) (lookups.Found (addresses.V4 16909060 5)) outcomes.Proceed) ∷ []) ≡ record { answers = (answer (replies.ConnectFailed (connects.InvalidUrl refusals.Parse)) ([]) ∷ []); is_all = true }
unfolding computed parsed
url_0016 = refl

pub url_0017 : run Client (turns.Call (calls.Connect ((91 ∷ 116 ∷ 116 ∷ 112 ∷ 115 ∷ 58 ∷ 47 ∷ 47 ∷ 102 ∷ 64 ∷ 98 ∷ 64 ∷ 104 ∷ 37 ∷ 52 ∷ 49 ∷ 58 ∷ 56 ∷ 48 ∷ 47 ∷ 96 ∷ []), ([])) lookups.NotFound outcomes.Proceed) ∷ turns.Connected 1 1 10000 (facts.Limit 1200) ∷ turns.PeerUni ∷ turns.Bytes 3 (0 ∷ 4 ∷ 0 ∷ []) ∷ turns.Call calls.Handshake ∷ []) ≡ record { answers = (answer (replies.ConnectFailed (connects.InvalidUrl refusals.Parse)) ([]) ∷ []); is_all = false }
unfolding computed parsed
url_0017 = refl

pub url_0018 : run Client (turns.Call (calls.Connect ((97 ∷ 83 ∷ 92 ∷ []), ([])) lookups.NotFound outcomes.Proceed) ∷ turns.Connected 1 1 10000 (facts.Limit 1200) ∷ turns.PeerUni ∷ turns.Bytes 3 (0 ∷ 4 ∷ 0 ∷ []) ∷ turns.Call calls.Handshake ∷ []) ≡ record { answers = (answer (replies.ConnectFailed (connects.InvalidUrl refusals.Parse)) ([]) ∷ []); is_all = false }
unfolding computed parsed
url_0018 = refl

pub url_0019 : run Client (turns.Call (calls.Connect ((104 ∷ 116 ∷ 116 ∷ 112 ∷ 115 ∷ 58 ∷ 117 ∷ 64 ∷ 104 ∷ 58 ∷ []), ([])) (lookups.Fault (110 ∷ [])) outcomes.Proceed) ∷ turns.Connected 1 1 10000 (facts.Limit 1200) ∷ turns.PeerUni ∷ turns.Bytes 3 (0 ∷ 4 ∷ 0 ∷ []) ∷ turns.Call calls.Handshake ∷ []) ≡ record { answers = (answer (replies.ConnectFailed (connects.DnsLookup (110 ∷ []))) ([]) ∷ []); is_all = false }
unfolding computed parsed
url_0019 = refl

pub url_0020 : run Client (turns.Call (calls.Connect ((104 ∷ 116 ∷ 116 ∷ 112 ∷ 115 ∷ 58 ∷ 47 ∷ 47 ∷ 104 ∷ 58 ∷ 52 ∷ 124 ∷ 52 ∷ 51 ∷ 51 ∷ 47 ∷ 112 ∷ 63 ∷ 113 ∷ []), ([])) (lookups.Fault (110 ∷ [])) outcomes.Proceed) ∷ []) ≡ record { answers = (answer (replies.ConnectFailed (connects.InvalidUrl refusals.Parse)) ([]) ∷ []); is_all = true }
unfolding computed parsed
url_0020 = refl

pub url_0021 : run Client (turns.Call (calls.Connect ((104 ∷ 116 ∷ 116 ∷ 112 ∷ 115 ∷ 58 ∷ 47 ∷ 47 ∷ 91 ∷ 58 ∷ 58 ∷ 49 ∷ 93 ∷ 58 ∷ 57 ∷ 57 ∷ 47 ∷ 120 ∷ 63 ∷ 121 ∷ 35 ∷ 122 ∷ []), ([])) lookups.NotFound outcomes.Proceed) ∷ []) ≡ record { answers = (answer replies.Pending (actions.Dial (addresses.V6 1 99) (58 ∷ 58 ∷ 49 ∷ []) ∷ []) ∷ []); is_all = true }
unfolding computed parsed
url_0021 = refl

pub url_0022 : run Client (turns.Call (calls.Connect ((104 ∷ 37 ∷ 54 ∷ 54 ∷ 116 ∷ 112 ∷ 115 ∷ 58 ∷ 47 ∷ 47 ∷ 49 ∷ 50 ∷ 55 ∷ 46 ∷ 48 ∷ 46 ∷ 48 ∷ 46 ∷ 49 ∷ 47 ∷ []), ([])) (lookups.Found (addresses.V4 16909060 5)) outcomes.Proceed) ∷ turns.Connected 1 1 10000 (facts.Limit 1200) ∷ turns.PeerUni ∷ turns.Bytes 3 (0 ∷ 4 ∷ 0 ∷ []) ∷ turns.Call calls.Handshake ∷ []) ≡ record { answers = (answer (replies.ConnectFailed (connects.InvalidUrl refusals.Parse)) ([]) ∷ []); is_all = false }
unfolding computed parsed
url_0022 = refl

pub url_0023 : run Client (turns.Call (calls.Connect ((104 ∷ 116 ∷ 116 ∷ 112 ∷ 115 ∷ 58 ∷ 47 ∷ 47 ∷ 91 ∷ 58 ∷ 58 ∷ 49 ∷ 93 ∷ 58 ∷ 57 ∷ 57 ∷ 47 ∷ 120 ∷ 63 ∷ 121 ∷ 35 ∷ 122 ∷ []), ([])) (lookups.Fault (110 ∷ [])) outcomes.Proceed) ∷ []) ≡ record { answers = (answer replies.Pending (actions.Dial (addresses.V6 1 99) (58 ∷ 58 ∷ 49 ∷ []) ∷ []) ∷ []); is_all = true }
unfolding computed parsed
url_0023 = refl

pub url_0024 : run Client (turns.Call (calls.Connect ((104 ∷ 116 ∷ 116 ∷ 112 ∷ 115 ∷ 58 ∷ 47 ∷ 47 ∷ 49 ∷ 50 ∷ 55 ∷ 46 ∷ 48 ∷ 46 ∷ 48 ∷ 46 ∷ 49 ∷ 47 ∷ []), ([])) lookups.NotFound outcomes.Proceed) ∷ turns.Connected 1 1 10000 (facts.Limit 1200) ∷ turns.PeerUni ∷ turns.Bytes 3 (0 ∷ 4 ∷ 0 ∷ []) ∷ turns.Call calls.Handshake ∷ []) ≡ record { answers = (answer replies.Pending (actions.Dial (addresses.V4 2130706433 443) (49 ∷ 50 ∷ 55 ∷ 46 ∷ 48 ∷ 46 ∷ 48 ∷ 46 ∷ 49 ∷ []) ∷ []) ∷ answer replies.Done (actions.Opened 2 ∷ actions.Send 2 (0 ∷ 4 ∷ 22 ∷ 1 ∷ 0 ∷ 7 ∷ 0 ∷ 8 ∷ 1 ∷ 51 ∷ 1 ∷ 171 ∷ 96 ∷ 55 ∷ 66 ∷ 1 ∷ 192 ∷ 0 ∷ 0 ∷ 0 ∷ 198 ∷ 113 ∷ 112 ∷ 106 ∷ 4 ∷ []) ∷ []) ∷ answer replies.Done ([]) ∷ answer replies.Done ([]) ∷ answer replies.Pending (actions.Opened 0 ∷ actions.Send 0 (1 ∷ 64 ∷ 88 ∷ 0 ∷ 0 ∷ 39 ∷ 3 ∷ 58 ∷ 97 ∷ 117 ∷ 116 ∷ 104 ∷ 111 ∷ 114 ∷ 105 ∷ 116 ∷ 121 ∷ 9 ∷ 49 ∷ 50 ∷ 55 ∷ 46 ∷ 48 ∷ 46 ∷ 48 ∷ 46 ∷ 49 ∷ 39 ∷ 0 ∷ 58 ∷ 109 ∷ 101 ∷ 116 ∷ 104 ∷ 111 ∷ 100 ∷ 7 ∷ 67 ∷ 79 ∷ 78 ∷ 78 ∷ 69 ∷ 67 ∷ 84 ∷ 37 ∷ 58 ∷ 112 ∷ 97 ∷ 116 ∷ 104 ∷ 1 ∷ 47 ∷ 39 ∷ 2 ∷ 58 ∷ 112 ∷ 114 ∷ 111 ∷ 116 ∷ 111 ∷ 99 ∷ 111 ∷ 108 ∷ 12 ∷ 119 ∷ 101 ∷ 98 ∷ 116 ∷ 114 ∷ 97 ∷ 110 ∷ 115 ∷ 112 ∷ 111 ∷ 114 ∷ 116 ∷ 39 ∷ 0 ∷ 58 ∷ 115 ∷ 99 ∷ 104 ∷ 101 ∷ 109 ∷ 101 ∷ 5 ∷ 104 ∷ 116 ∷ 116 ∷ 112 ∷ 115 ∷ []) ∷ []) ∷ []); is_all = true }
unfolding computed parsed
url_0024 = refl

pub url_0025 : run Client (turns.Call (calls.Connect ((104 ∷ 116 ∷ 116 ∷ 112 ∷ 115 ∷ 58 ∷ 47 ∷ 47 ∷ 49 ∷ 50 ∷ 55 ∷ 46 ∷ 48 ∷ 46 ∷ 48 ∷ 46 ∷ 49 ∷ 47 ∷ []), ([])) (lookups.Found (addresses.V4 16909060 5)) outcomes.Proceed) ∷ []) ≡ record { answers = (answer replies.Pending (actions.Dial (addresses.V4 2130706433 443) (49 ∷ 50 ∷ 55 ∷ 46 ∷ 48 ∷ 46 ∷ 48 ∷ 46 ∷ 49 ∷ []) ∷ []) ∷ []); is_all = true }
unfolding computed parsed
url_0025 = refl

pub url_0026 : run Client (turns.Call (calls.Connect ((104 ∷ 116 ∷ 116 ∷ 112 ∷ 115 ∷ 58 ∷ 47 ∷ 47 ∷ 104 ∷ []), ([])) (lookups.Fault (110 ∷ [])) outcomes.Proceed) ∷ turns.Connected 1 1 10000 (facts.Limit 1200) ∷ turns.PeerUni ∷ turns.Bytes 3 (0 ∷ 4 ∷ 0 ∷ []) ∷ turns.Call calls.Handshake ∷ []) ≡ record { answers = (answer (replies.ConnectFailed (connects.DnsLookup (110 ∷ []))) ([]) ∷ []); is_all = false }
unfolding computed parsed
url_0026 = refl

pub url_0028 : run Client (turns.Call (calls.Connect ((51 ∷ 64 ∷ 84 ∷ 46 ∷ 108 ∷ 123 ∷ 79 ∷ []), ([])) (lookups.Found (addresses.V4 16909060 5)) outcomes.Proceed) ∷ turns.Connected 1 1 10000 (facts.Limit 1200) ∷ turns.PeerUni ∷ turns.Bytes 3 (0 ∷ 4 ∷ 0 ∷ []) ∷ turns.Call calls.Handshake ∷ []) ≡ record { answers = (answer (replies.ConnectFailed (connects.InvalidUrl refusals.Parse)) ([]) ∷ []); is_all = false }
unfolding computed parsed
url_0028 = refl

pub url_0029 : run Client (turns.Call (calls.Connect ((104 ∷ 116 ∷ 116 ∷ 112 ∷ 115 ∷ 58 ∷ 47 ∷ 47 ∷ 104 ∷ 58 ∷ 52 ∷ 52 ∷ 51 ∷ 51 ∷ 47 ∷ 112 ∷ 63 ∷ 113 ∷ []), ([])) (lookups.Fault (110 ∷ [])) outcomes.Proceed) ∷ turns.Connected 1 1 10000 (facts.Limit 1200) ∷ turns.PeerUni ∷ turns.Bytes 3 (0 ∷ 4 ∷ 0 ∷ []) ∷ turns.Call calls.Handshake ∷ []) ≡ record { answers = (answer (replies.ConnectFailed (connects.DnsLookup (110 ∷ []))) ([]) ∷ []); is_all = false }
unfolding computed parsed
url_0029 = refl

pub url_0030 : run Client (turns.Call (calls.Connect ((104 ∷ 64 ∷ 116 ∷ 112 ∷ 115 ∷ 58 ∷ 47 ∷ 47 ∷ 104 ∷ 58 ∷ 52 ∷ 52 ∷ 47 ∷ 51 ∷ 47 ∷ 112 ∷ 63 ∷ 113 ∷ []), ([])) (lookups.Found (addresses.V4 16909060 5)) outcomes.Proceed) ∷ turns.Connected 1 1 10000 (facts.Limit 1200) ∷ turns.PeerUni ∷ turns.Bytes 3 (0 ∷ 4 ∷ 0 ∷ []) ∷ turns.Call calls.Handshake ∷ []) ≡ record { answers = (answer (replies.ConnectFailed (connects.InvalidUrl refusals.Parse)) ([]) ∷ []); is_all = false }
unfolding computed parsed
url_0030 = refl

pub url_0032 : run Client (turns.Call (calls.Connect ((120 ∷ 58 ∷ 117 ∷ 64 ∷ 97 ∷ 95 ∷ 98 ∷ 58 ∷ 47 ∷ []), ([])) (lookups.Fault (110 ∷ [])) outcomes.Proceed) ∷ turns.Connected 1 1 10000 (facts.Limit 1200) ∷ turns.PeerUni ∷ turns.Bytes 3 (0 ∷ 4 ∷ 0 ∷ []) ∷ turns.Call calls.Handshake ∷ []) ≡ record { answers = (answer (replies.ConnectFailed (connects.InvalidUrl refusals.Scheme)) ([]) ∷ []); is_all = false }
unfolding computed parsed
url_0032 = refl

pub url_0033 : run Client (turns.Call (calls.Connect ((104 ∷ 116 ∷ 116 ∷ 112 ∷ 115 ∷ 58 ∷ 58 ∷ 47 ∷ 104 ∷ []), ([])) lookups.NotFound outcomes.Proceed) ∷ turns.Connected 1 1 10000 (facts.Limit 1200) ∷ turns.PeerUni ∷ turns.Bytes 3 (0 ∷ 4 ∷ 0 ∷ []) ∷ turns.Call calls.Handshake ∷ []) ≡ record { answers = (answer (replies.ConnectFailed (connects.InvalidUrl refusals.Parse)) ([]) ∷ []); is_all = false }
unfolding computed parsed
url_0033 = refl

pub url_0034 : run Client (turns.Call (calls.Connect ((104 ∷ 116 ∷ 116 ∷ 112 ∷ 115 ∷ 58 ∷ 64 ∷ 47 ∷ 49 ∷ 50 ∷ 55 ∷ 46 ∷ 48 ∷ 46 ∷ 48 ∷ 46 ∷ 49 ∷ 47 ∷ []), ([])) lookups.NotFound outcomes.Proceed) ∷ turns.Connected 1 1 10000 (facts.Limit 1200) ∷ turns.PeerUni ∷ turns.Bytes 3 (0 ∷ 4 ∷ 0 ∷ []) ∷ turns.Call calls.Handshake ∷ []) ≡ record { answers = (answer (replies.ConnectFailed (connects.InvalidUrl refusals.Parse)) ([]) ∷ []); is_all = false }
unfolding computed parsed
url_0034 = refl

pub url_0035 : run Client (turns.Call (calls.Connect ((104 ∷ 116 ∷ 116 ∷ 112 ∷ 115 ∷ 58 ∷ 47 ∷ 104 ∷ []), ([])) (lookups.Found (addresses.V4 16909060 5)) outcomes.Proceed) ∷ []) ≡ record { answers = (answer replies.Pending (actions.Dial (addresses.V4 16909060 5) (104 ∷ []) ∷ []) ∷ []); is_all = true }
unfolding computed parsed
url_0035 = refl

pub url_0036 : run Client (turns.Call (calls.Connect ((104 ∷ 116 ∷ 116 ∷ 112 ∷ 115 ∷ 58 ∷ 92 ∷ 92 ∷ 96 ∷ 64 ∷ 37 ∷ 58 ∷ 49 ∷ []), ([])) lookups.NotFound outcomes.Proceed) ∷ []) ≡ record { answers = (answer (replies.ConnectFailed (connects.InvalidUrl refusals.Parse)) ([]) ∷ []); is_all = true }
unfolding computed parsed
url_0036 = refl

pub url_0037 : run Client (turns.Call (calls.Connect ((104 ∷ 116 ∷ 116 ∷ 112 ∷ 115 ∷ 58 ∷ 47 ∷ 47 ∷ 104 ∷ 58 ∷ 52 ∷ 52 ∷ 51 ∷ 51 ∷ 47 ∷ 112 ∷ 63 ∷ 113 ∷ []), ([])) (lookups.Found (addresses.V4 16909060 5)) outcomes.Proceed) ∷ turns.Connected 1 1 10000 (facts.Limit 1200) ∷ turns.PeerUni ∷ turns.Bytes 3 (0 ∷ 4 ∷ 0 ∷ []) ∷ turns.Call calls.Handshake ∷ []) ≡ record { answers = (answer replies.Pending (actions.Dial (addresses.V4 16909060 5) (104 ∷ []) ∷ []) ∷ answer replies.Done (actions.Opened 2 ∷ actions.Send 2 (0 ∷ 4 ∷ 22 ∷ 1 ∷ 0 ∷ 7 ∷ 0 ∷ 8 ∷ 1 ∷ 51 ∷ 1 ∷ 171 ∷ 96 ∷ 55 ∷ 66 ∷ 1 ∷ 192 ∷ 0 ∷ 0 ∷ 0 ∷ 198 ∷ 113 ∷ 112 ∷ 106 ∷ 4 ∷ []) ∷ []) ∷ answer replies.Done ([]) ∷ answer replies.Done ([]) ∷ answer replies.Pending (actions.Opened 0 ∷ actions.Send 0 (1 ∷ 64 ∷ 88 ∷ 0 ∷ 0 ∷ 39 ∷ 3 ∷ 58 ∷ 97 ∷ 117 ∷ 116 ∷ 104 ∷ 111 ∷ 114 ∷ 105 ∷ 116 ∷ 121 ∷ 6 ∷ 104 ∷ 58 ∷ 52 ∷ 52 ∷ 51 ∷ 51 ∷ 39 ∷ 0 ∷ 58 ∷ 109 ∷ 101 ∷ 116 ∷ 104 ∷ 111 ∷ 100 ∷ 7 ∷ 67 ∷ 79 ∷ 78 ∷ 78 ∷ 69 ∷ 67 ∷ 84 ∷ 37 ∷ 58 ∷ 112 ∷ 97 ∷ 116 ∷ 104 ∷ 4 ∷ 47 ∷ 112 ∷ 63 ∷ 113 ∷ 39 ∷ 2 ∷ 58 ∷ 112 ∷ 114 ∷ 111 ∷ 116 ∷ 111 ∷ 99 ∷ 111 ∷ 108 ∷ 12 ∷ 119 ∷ 101 ∷ 98 ∷ 116 ∷ 114 ∷ 97 ∷ 110 ∷ 115 ∷ 112 ∷ 111 ∷ 114 ∷ 116 ∷ 39 ∷ 0 ∷ 58 ∷ 115 ∷ 99 ∷ 104 ∷ 101 ∷ 109 ∷ 101 ∷ 5 ∷ 104 ∷ 116 ∷ 116 ∷ 112 ∷ 115 ∷ []) ∷ []) ∷ []); is_all = true }
unfolding computed parsed
url_0037 = refl

pub url_0038 : run Client (turns.Call (calls.Connect ((104 ∷ 116 ∷ 116 ∷ 112 ∷ 115 ∷ 58 ∷ 47 ∷ 47 ∷ 104 ∷ 58 ∷ 52 ∷ 52 ∷ 51 ∷ 51 ∷ 47 ∷ 112 ∷ 63 ∷ 113 ∷ []), ([])) (lookups.Found (addresses.V4 16909060 5)) outcomes.Proceed) ∷ turns.Connected 1 1 10000 (facts.Limit 1200) ∷ turns.PeerUni ∷ turns.Bytes 3 (0 ∷ 4 ∷ 0 ∷ []) ∷ turns.Call calls.Handshake ∷ []) ≡ record { answers = (answer replies.Pending (actions.Dial (addresses.V4 16909060 5) (104 ∷ []) ∷ []) ∷ answer replies.Done (actions.Opened 2 ∷ actions.Send 2 (0 ∷ 4 ∷ 22 ∷ 1 ∷ 0 ∷ 7 ∷ 0 ∷ 8 ∷ 1 ∷ 51 ∷ 1 ∷ 171 ∷ 96 ∷ 55 ∷ 66 ∷ 1 ∷ 192 ∷ 0 ∷ 0 ∷ 0 ∷ 198 ∷ 113 ∷ 112 ∷ 106 ∷ 4 ∷ []) ∷ []) ∷ answer replies.Done ([]) ∷ answer replies.Done ([]) ∷ answer replies.Pending (actions.Opened 0 ∷ actions.Send 0 (1 ∷ 64 ∷ 88 ∷ 0 ∷ 0 ∷ 39 ∷ 3 ∷ 58 ∷ 97 ∷ 117 ∷ 116 ∷ 104 ∷ 111 ∷ 114 ∷ 105 ∷ 116 ∷ 121 ∷ 6 ∷ 104 ∷ 58 ∷ 52 ∷ 52 ∷ 51 ∷ 51 ∷ 39 ∷ 0 ∷ 58 ∷ 109 ∷ 101 ∷ 116 ∷ 104 ∷ 111 ∷ 100 ∷ 7 ∷ 67 ∷ 79 ∷ 78 ∷ 78 ∷ 69 ∷ 67 ∷ 84 ∷ 37 ∷ 58 ∷ 112 ∷ 97 ∷ 116 ∷ 104 ∷ 4 ∷ 47 ∷ 112 ∷ 63 ∷ 113 ∷ 39 ∷ 2 ∷ 58 ∷ 112 ∷ 114 ∷ 111 ∷ 116 ∷ 111 ∷ 99 ∷ 111 ∷ 108 ∷ 12 ∷ 119 ∷ 101 ∷ 98 ∷ 116 ∷ 114 ∷ 97 ∷ 110 ∷ 115 ∷ 112 ∷ 111 ∷ 114 ∷ 116 ∷ 39 ∷ 0 ∷ 58 ∷ 115 ∷ 99 ∷ 104 ∷ 101 ∷ 109 ∷ 101 ∷ 5 ∷ 104 ∷ 116 ∷ 116 ∷ 112 ∷ 115 ∷ []) ∷ []) ∷ []); is_all = true }
unfolding computed parsed
url_0038 = refl

pub url_0039 : run Client (turns.Call (calls.Connect ((102 ∷ 105 ∷ 108 ∷ 101 ∷ 58 ∷ 47 ∷ 47 ∷ 91 ∷ 58 ∷ 58 ∷ 49 ∷ 91 ∷ 58 ∷ 56 ∷ 48 ∷ []), ([])) (lookups.Found (addresses.V4 16909060 5)) outcomes.Proceed) ∷ turns.Connected 1 1 10000 (facts.Limit 1200) ∷ turns.PeerUni ∷ turns.Bytes 3 (0 ∷ 4 ∷ 0 ∷ []) ∷ turns.Call calls.Handshake ∷ []) ≡ record { answers = (answer (replies.ConnectFailed (connects.InvalidUrl refusals.Parse)) ([]) ∷ []); is_all = false }
unfolding computed parsed
url_0039 = refl

pub url_0040 : run Client (turns.Call (calls.Connect ((104 ∷ 116 ∷ 116 ∷ 112 ∷ 115 ∷ 58 ∷ 47 ∷ 47 ∷ 104 ∷ 58 ∷ 52 ∷ 52 ∷ 51 ∷ 51 ∷ 47 ∷ 112 ∷ 63 ∷ 113 ∷ []), ([])) (lookups.Found (addresses.V4 16909060 5)) outcomes.Proceed) ∷ turns.Connected 1 1 10000 (facts.Limit 1200) ∷ turns.PeerUni ∷ turns.Bytes 3 (0 ∷ 4 ∷ 0 ∷ []) ∷ turns.Call calls.Handshake ∷ []) ≡ record { answers = (answer replies.Pending (actions.Dial (addresses.V4 16909060 5) (104 ∷ []) ∷ []) ∷ answer replies.Done (actions.Opened 2 ∷ actions.Send 2 (0 ∷ 4 ∷ 22 ∷ 1 ∷ 0 ∷ 7 ∷ 0 ∷ 8 ∷ 1 ∷ 51 ∷ 1 ∷ 171 ∷ 96 ∷ 55 ∷ 66 ∷ 1 ∷ 192 ∷ 0 ∷ 0 ∷ 0 ∷ 198 ∷ 113 ∷ 112 ∷ 106 ∷ 4 ∷ []) ∷ []) ∷ answer replies.Done ([]) ∷ answer replies.Done ([]) ∷ answer replies.Pending (actions.Opened 0 ∷ actions.Send 0 (1 ∷ 64 ∷ 88 ∷ 0 ∷ 0 ∷ 39 ∷ 3 ∷ 58 ∷ 97 ∷ 117 ∷ 116 ∷ 104 ∷ 111 ∷ 114 ∷ 105 ∷ 116 ∷ 121 ∷ 6 ∷ 104 ∷ 58 ∷ 52 ∷ 52 ∷ 51 ∷ 51 ∷ 39 ∷ 0 ∷ 58 ∷ 109 ∷ 101 ∷ 116 ∷ 104 ∷ 111 ∷ 100 ∷ 7 ∷ 67 ∷ 79 ∷ 78 ∷ 78 ∷ 69 ∷ 67 ∷ 84 ∷ 37 ∷ 58 ∷ 112 ∷ 97 ∷ 116 ∷ 104 ∷ 4 ∷ 47 ∷ 112 ∷ 63 ∷ 113 ∷ 39 ∷ 2 ∷ 58 ∷ 112 ∷ 114 ∷ 111 ∷ 116 ∷ 111 ∷ 99 ∷ 111 ∷ 108 ∷ 12 ∷ 119 ∷ 101 ∷ 98 ∷ 116 ∷ 114 ∷ 97 ∷ 110 ∷ 115 ∷ 112 ∷ 111 ∷ 114 ∷ 116 ∷ 39 ∷ 0 ∷ 58 ∷ 115 ∷ 99 ∷ 104 ∷ 101 ∷ 109 ∷ 101 ∷ 5 ∷ 104 ∷ 116 ∷ 116 ∷ 112 ∷ 115 ∷ []) ∷ []) ∷ []); is_all = true }
unfolding computed parsed
url_0040 = refl
