-- Recorded sessions: what the definitions give is what was recorded. Made by `tools/meaning lemmas`.
use Rattle.std.specs.Prelude.{[], ◌∷◌, ◌≡◌, false, true}
use Rattle.std.proofs.Common.{refl}
use Rattle.wt_meaning.proofs.Recorded.{computed, parsed}
use Rattle.wt_meaning.specs.Meaning.{run}
use Rattle.wt_meaning.specs.Rows.{answer}
use Rattle.wt_wire.specs.declared.side.Side.TheVariants.{Client}
use Rattle.wt_turn.specs.declared.action.Action.TheVariants as actions
use Rattle.wt_wire.specs.declared.addr.Addr.TheVariants as addresses
use Rattle.wt_turn.specs.declared.call.Call.TheVariants as calls
use Rattle.wt_turn.specs.declared.connecting_error.ConnectingError.TheVariants as connects
use Rattle.wt_turn.specs.declared.datagram_fact.DatagramFact.TheVariants as facts
use Rattle.wt_wire.specs.declared.lookup.Lookup.TheVariants as lookups
use Rattle.wt_wire.specs.declared.lookup.ConnectOutcome.TheVariants as outcomes
use Rattle.wt_turn.specs.declared.connecting_error.UrlRefusal.TheVariants as refusals
use Rattle.wt_turn.specs.declared.reply.Reply.TheVariants as replies
use Rattle.wt_turn.specs.declared.turn.Turn.TheVariants as turns

pub url_0080 : run Client (turns.Call (calls.Connect ((64 ∷ 97 ∷ 124 ∷ 98 ∷ []), ([])) (lookups.Found (addresses.V4 16909060 5)) outcomes.Proceed) ∷ turns.Connected 1 1 10000 (facts.Limit 1200) ∷ turns.PeerUni ∷ turns.Bytes 3 (0 ∷ 4 ∷ 0 ∷ []) ∷ turns.Call calls.Handshake ∷ []) ≡ record { answers = (answer (replies.ConnectFailed (connects.InvalidUrl refusals.Parse)) ([]) ∷ []); is_all = false }
unfolding computed parsed
url_0080 = refl

pub url_0081 : run Client (turns.Call (calls.Connect ((104 ∷ 116 ∷ 116 ∷ 112 ∷ 115 ∷ 58 ∷ 47 ∷ 47 ∷ 49 ∷ 46 ∷ 50 ∷ 46 ∷ 51 ∷ 58 ∷ 52 ∷ 58 ∷ 54 ∷ 53 ∷ 53 ∷ 51 ∷ 54 ∷ 47 ∷ 37 ∷ 34 ∷ 58 ∷ []), ([])) (lookups.Fault (110 ∷ [])) outcomes.Proceed) ∷ turns.Connected 1 1 10000 (facts.Limit 1200) ∷ turns.PeerUni ∷ turns.Bytes 3 (0 ∷ 4 ∷ 0 ∷ []) ∷ turns.Call calls.Handshake ∷ []) ≡ record { answers = (answer (replies.ConnectFailed (connects.InvalidUrl refusals.Parse)) ([]) ∷ []); is_all = false }
unfolding computed parsed
url_0081 = refl

pub url_0082 : run Client (turns.Call (calls.Connect ((104 ∷ 116 ∷ 116 ∷ 112 ∷ 115 ∷ 58 ∷ 47 ∷ 47 ∷ 49 ∷ 88 ∷ 55 ∷ 46 ∷ 48 ∷ 46 ∷ 48 ∷ 46 ∷ 49 ∷ 47 ∷ []), ([])) (lookups.Fault (110 ∷ [])) outcomes.Proceed) ∷ turns.Connected 1 1 10000 (facts.Limit 1200) ∷ turns.PeerUni ∷ turns.Bytes 3 (0 ∷ 4 ∷ 0 ∷ []) ∷ turns.Call calls.Handshake ∷ []) ≡ record { answers = (answer (replies.ConnectFailed (connects.InvalidUrl refusals.Parse)) ([]) ∷ []); is_all = false }
unfolding computed parsed
url_0082 = refl

pub url_0083 : run Client (turns.Call (calls.Connect ((104 ∷ 116 ∷ 116 ∷ 112 ∷ 115 ∷ 58 ∷ 47 ∷ 47 ∷ 49 ∷ 50 ∷ 55 ∷ 46 ∷ 48 ∷ 46 ∷ 48 ∷ 46 ∷ 49 ∷ 47 ∷ []), ([])) (lookups.Fault (110 ∷ [])) outcomes.Proceed) ∷ []) ≡ record { answers = (answer replies.Pending (actions.Dial (addresses.V4 2130706433 443) (49 ∷ 50 ∷ 55 ∷ 46 ∷ 48 ∷ 46 ∷ 48 ∷ 46 ∷ 49 ∷ []) ∷ []) ∷ []); is_all = true }
unfolding computed parsed
url_0083 = refl

pub url_0084 : run Client (turns.Call (calls.Connect ((104 ∷ 116 ∷ 116 ∷ 112 ∷ 115 ∷ 58 ∷ 47 ∷ 47 ∷ 104 ∷ 58 ∷ 77 ∷ 52 ∷ 52 ∷ 51 ∷ 51 ∷ 47 ∷ 112 ∷ 63 ∷ 113 ∷ []), ([])) lookups.NotFound outcomes.Proceed) ∷ []) ≡ record { answers = (answer (replies.ConnectFailed (connects.InvalidUrl refusals.Parse)) ([]) ∷ []); is_all = true }
unfolding computed parsed
url_0084 = refl

pub url_0085 : run Client (turns.Call (calls.Connect ((104 ∷ 116 ∷ 116 ∷ 112 ∷ 115 ∷ 58 ∷ 47 ∷ 91 ∷ 58 ∷ 58 ∷ 49 ∷ 93 ∷ 58 ∷ 46 ∷ 57 ∷ 57 ∷ 47 ∷ 120 ∷ 63 ∷ 121 ∷ 35 ∷ 122 ∷ []), ([])) (lookups.Found (addresses.V4 16909060 5)) outcomes.Proceed) ∷ turns.Connected 1 1 10000 (facts.Limit 1200) ∷ turns.PeerUni ∷ turns.Bytes 3 (0 ∷ 4 ∷ 0 ∷ []) ∷ turns.Call calls.Handshake ∷ []) ≡ record { answers = (answer (replies.ConnectFailed (connects.InvalidUrl refusals.Parse)) ([]) ∷ []); is_all = false }
unfolding computed parsed
url_0085 = refl

pub url_0086 : run Client (turns.Call (calls.Connect ((104 ∷ 116 ∷ 116 ∷ 112 ∷ 115 ∷ 58 ∷ 117 ∷ 58 ∷ 112 ∷ 64 ∷ 49 ∷ 46 ∷ 50 ∷ 46 ∷ 51 ∷ 46 ∷ 52 ∷ 47 ∷ 34 ∷ []), ([])) (lookups.Found (addresses.V4 16909060 5)) outcomes.Proceed) ∷ turns.Connected 1 1 10000 (facts.Limit 1200) ∷ turns.PeerUni ∷ turns.Bytes 3 (0 ∷ 4 ∷ 0 ∷ []) ∷ turns.Call calls.Handshake ∷ []) ≡ record { answers = (answer replies.Pending (actions.Dial (addresses.V4 16909060 443) (49 ∷ 46 ∷ 50 ∷ 46 ∷ 51 ∷ 46 ∷ 52 ∷ []) ∷ []) ∷ answer replies.Done (actions.Opened 2 ∷ actions.Send 2 (0 ∷ 4 ∷ 22 ∷ 1 ∷ 0 ∷ 7 ∷ 0 ∷ 8 ∷ 1 ∷ 51 ∷ 1 ∷ 171 ∷ 96 ∷ 55 ∷ 66 ∷ 1 ∷ 192 ∷ 0 ∷ 0 ∷ 0 ∷ 198 ∷ 113 ∷ 112 ∷ 106 ∷ 4 ∷ []) ∷ []) ∷ answer replies.Done ([]) ∷ answer replies.Done ([]) ∷ answer replies.Pending (actions.Opened 0 ∷ actions.Send 0 (1 ∷ 64 ∷ 89 ∷ 0 ∷ 0 ∷ 39 ∷ 3 ∷ 58 ∷ 97 ∷ 117 ∷ 116 ∷ 104 ∷ 111 ∷ 114 ∷ 105 ∷ 116 ∷ 121 ∷ 7 ∷ 49 ∷ 46 ∷ 50 ∷ 46 ∷ 51 ∷ 46 ∷ 52 ∷ 39 ∷ 0 ∷ 58 ∷ 109 ∷ 101 ∷ 116 ∷ 104 ∷ 111 ∷ 100 ∷ 7 ∷ 67 ∷ 79 ∷ 78 ∷ 78 ∷ 69 ∷ 67 ∷ 84 ∷ 37 ∷ 58 ∷ 112 ∷ 97 ∷ 116 ∷ 104 ∷ 4 ∷ 47 ∷ 37 ∷ 50 ∷ 50 ∷ 39 ∷ 2 ∷ 58 ∷ 112 ∷ 114 ∷ 111 ∷ 116 ∷ 111 ∷ 99 ∷ 111 ∷ 108 ∷ 12 ∷ 119 ∷ 101 ∷ 98 ∷ 116 ∷ 114 ∷ 97 ∷ 110 ∷ 115 ∷ 112 ∷ 111 ∷ 114 ∷ 116 ∷ 39 ∷ 0 ∷ 58 ∷ 115 ∷ 99 ∷ 104 ∷ 101 ∷ 109 ∷ 101 ∷ 5 ∷ 104 ∷ 116 ∷ 116 ∷ 112 ∷ 115 ∷ []) ∷ []) ∷ []); is_all = true }
unfolding computed parsed
url_0086 = refl

pub url_0087 : run Client (turns.Call (calls.Connect ((104 ∷ 116 ∷ 116 ∷ 112 ∷ 115 ∷ 58 ∷ 47 ∷ 47 ∷ 104 ∷ 58 ∷ 52 ∷ 52 ∷ 51 ∷ 51 ∷ 47 ∷ 112 ∷ 63 ∷ 113 ∷ []), ([])) lookups.NotFound outcomes.Proceed) ∷ turns.Connected 1 1 10000 (facts.Limit 1200) ∷ turns.PeerUni ∷ turns.Bytes 3 (0 ∷ 4 ∷ 0 ∷ []) ∷ turns.Call calls.Handshake ∷ []) ≡ record { answers = (answer (replies.ConnectFailed connects.DnsNotFound) ([]) ∷ []); is_all = false }
unfolding computed parsed
url_0087 = refl

pub url_0088 : run Client (turns.Call (calls.Connect ((104 ∷ 116 ∷ 116 ∷ 112 ∷ 115 ∷ 58 ∷ 47 ∷ 47 ∷ 49 ∷ 50 ∷ 55 ∷ 46 ∷ 48 ∷ 46 ∷ 48 ∷ 46 ∷ 49 ∷ 47 ∷ []), ([])) (lookups.Found (addresses.V4 16909060 5)) outcomes.Proceed) ∷ turns.Connected 1 1 10000 (facts.Limit 1200) ∷ turns.PeerUni ∷ turns.Bytes 3 (0 ∷ 4 ∷ 0 ∷ []) ∷ turns.Call calls.Handshake ∷ []) ≡ record { answers = (answer replies.Pending (actions.Dial (addresses.V4 2130706433 443) (49 ∷ 50 ∷ 55 ∷ 46 ∷ 48 ∷ 46 ∷ 48 ∷ 46 ∷ 49 ∷ []) ∷ []) ∷ answer replies.Done (actions.Opened 2 ∷ actions.Send 2 (0 ∷ 4 ∷ 22 ∷ 1 ∷ 0 ∷ 7 ∷ 0 ∷ 8 ∷ 1 ∷ 51 ∷ 1 ∷ 171 ∷ 96 ∷ 55 ∷ 66 ∷ 1 ∷ 192 ∷ 0 ∷ 0 ∷ 0 ∷ 198 ∷ 113 ∷ 112 ∷ 106 ∷ 4 ∷ []) ∷ []) ∷ answer replies.Done ([]) ∷ answer replies.Done ([]) ∷ answer replies.Pending (actions.Opened 0 ∷ actions.Send 0 (1 ∷ 64 ∷ 88 ∷ 0 ∷ 0 ∷ 39 ∷ 3 ∷ 58 ∷ 97 ∷ 117 ∷ 116 ∷ 104 ∷ 111 ∷ 114 ∷ 105 ∷ 116 ∷ 121 ∷ 9 ∷ 49 ∷ 50 ∷ 55 ∷ 46 ∷ 48 ∷ 46 ∷ 48 ∷ 46 ∷ 49 ∷ 39 ∷ 0 ∷ 58 ∷ 109 ∷ 101 ∷ 116 ∷ 104 ∷ 111 ∷ 100 ∷ 7 ∷ 67 ∷ 79 ∷ 78 ∷ 78 ∷ 69 ∷ 67 ∷ 84 ∷ 37 ∷ 58 ∷ 112 ∷ 97 ∷ 116 ∷ 104 ∷ 1 ∷ 47 ∷ 39 ∷ 2 ∷ 58 ∷ 112 ∷ 114 ∷ 111 ∷ 116 ∷ 111 ∷ 99 ∷ 111 ∷ 108 ∷ 12 ∷ 119 ∷ 101 ∷ 98 ∷ 116 ∷ 114 ∷ 97 ∷ 110 ∷ 115 ∷ 112 ∷ 111 ∷ 114 ∷ 116 ∷ 39 ∷ 0 ∷ 58 ∷ 115 ∷ 99 ∷ 104 ∷ 101 ∷ 109 ∷ 101 ∷ 5 ∷ 104 ∷ 116 ∷ 116 ∷ 112 ∷ 115 ∷ []) ∷ []) ∷ []); is_all = true }
unfolding computed parsed
url_0088 = refl

pub url_0089 : run Client (turns.Call (calls.Connect ((124 ∷ 64 ∷ 41 ∷ 43 ∷ 86 ∷ 74 ∷ 77 ∷ []), ([])) (lookups.Found (addresses.V4 16909060 5)) outcomes.Proceed) ∷ turns.Connected 1 1 10000 (facts.Limit 1200) ∷ turns.PeerUni ∷ turns.Bytes 3 (0 ∷ 4 ∷ 0 ∷ []) ∷ turns.Call calls.Handshake ∷ []) ≡ record { answers = (answer (replies.ConnectFailed (connects.InvalidUrl refusals.Parse)) ([]) ∷ []); is_all = false }
unfolding computed parsed
url_0089 = refl

pub url_0090 : run Client (turns.Call (calls.Connect ((104 ∷ 116 ∷ 116 ∷ 112 ∷ 115 ∷ 58 ∷ 47 ∷ 47 ∷ 104 ∷ 58 ∷ 52 ∷ 52 ∷ 51 ∷ 51 ∷ 47 ∷ 112 ∷ 63 ∷ 113 ∷ []), ([])) (lookups.Found (addresses.V4 16909060 5)) outcomes.Proceed) ∷ []) ≡ record { answers = (answer replies.Pending (actions.Dial (addresses.V4 16909060 5) (104 ∷ []) ∷ []) ∷ []); is_all = true }
unfolding computed parsed
url_0090 = refl

pub url_0092 : run Client (turns.Call (calls.Connect ((104 ∷ 116 ∷ 116 ∷ 58 ∷ 115 ∷ 58 ∷ 47 ∷ 47 ∷ 104 ∷ []), ([])) (lookups.Found (addresses.V4 16909060 5)) outcomes.Proceed) ∷ turns.Connected 1 1 10000 (facts.Limit 1200) ∷ turns.PeerUni ∷ turns.Bytes 3 (0 ∷ 4 ∷ 0 ∷ []) ∷ turns.Call calls.Handshake ∷ []) ≡ record { answers = (answer (replies.ConnectFailed (connects.InvalidUrl refusals.Scheme)) ([]) ∷ []); is_all = false }
unfolding computed parsed
url_0092 = refl

pub url_0093 : run Client (turns.Call (calls.Connect ((104 ∷ 116 ∷ 116 ∷ 112 ∷ 115 ∷ 58 ∷ 47 ∷ 47 ∷ 104 ∷ 58 ∷ 52 ∷ 52 ∷ 51 ∷ 51 ∷ 47 ∷ 112 ∷ 63 ∷ 113 ∷ []), ([])) (lookups.Found (addresses.V4 16909060 5)) outcomes.Proceed) ∷ []) ≡ record { answers = (answer replies.Pending (actions.Dial (addresses.V4 16909060 5) (104 ∷ []) ∷ []) ∷ []); is_all = true }
unfolding computed parsed
url_0093 = refl

pub url_0094 : run Client (turns.Call (calls.Connect ((104 ∷ 116 ∷ 116 ∷ 112 ∷ 115 ∷ 58 ∷ 47 ∷ 47 ∷ 58 ∷ []), ([])) lookups.NotFound outcomes.Proceed) ∷ turns.Connected 1 1 10000 (facts.Limit 1200) ∷ turns.PeerUni ∷ turns.Bytes 3 (0 ∷ 4 ∷ 0 ∷ []) ∷ turns.Call calls.Handshake ∷ []) ≡ record { answers = (answer (replies.ConnectFailed (connects.InvalidUrl refusals.Parse)) ([]) ∷ []); is_all = false }
unfolding computed parsed
url_0094 = refl

pub url_0095 : run Client (turns.Call (calls.Connect ((104 ∷ 116 ∷ 116 ∷ 112 ∷ 115 ∷ 58 ∷ 47 ∷ 47 ∷ 104 ∷ []), ([])) (lookups.Found (addresses.V4 16909060 5)) outcomes.Proceed) ∷ []) ≡ record { answers = (answer replies.Pending (actions.Dial (addresses.V4 16909060 5) (104 ∷ []) ∷ []) ∷ []); is_all = true }
unfolding computed parsed
url_0095 = refl

pub url_0096 : run Client (turns.Call (calls.Connect ((104 ∷ 116 ∷ 116 ∷ 112 ∷ 115 ∷ 58 ∷ 47 ∷ 47 ∷ 104 ∷ []), ([])) (lookups.Found (addresses.V4 16909060 5)) outcomes.Proceed) ∷ turns.Connected 1 1 10000 (facts.Limit 1200) ∷ turns.PeerUni ∷ turns.Bytes 3 (0 ∷ 4 ∷ 0 ∷ []) ∷ turns.Call calls.Handshake ∷ []) ≡ record { answers = (answer replies.Pending (actions.Dial (addresses.V4 16909060 5) (104 ∷ []) ∷ []) ∷ answer replies.Done (actions.Opened 2 ∷ actions.Send 2 (0 ∷ 4 ∷ 22 ∷ 1 ∷ 0 ∷ 7 ∷ 0 ∷ 8 ∷ 1 ∷ 51 ∷ 1 ∷ 171 ∷ 96 ∷ 55 ∷ 66 ∷ 1 ∷ 192 ∷ 0 ∷ 0 ∷ 0 ∷ 198 ∷ 113 ∷ 112 ∷ 106 ∷ 4 ∷ []) ∷ []) ∷ answer replies.Done ([]) ∷ answer replies.Done ([]) ∷ answer replies.Pending (actions.Opened 0 ∷ actions.Send 0 (1 ∷ 64 ∷ 80 ∷ 0 ∷ 0 ∷ 39 ∷ 3 ∷ 58 ∷ 97 ∷ 117 ∷ 116 ∷ 104 ∷ 111 ∷ 114 ∷ 105 ∷ 116 ∷ 121 ∷ 1 ∷ 104 ∷ 39 ∷ 0 ∷ 58 ∷ 109 ∷ 101 ∷ 116 ∷ 104 ∷ 111 ∷ 100 ∷ 7 ∷ 67 ∷ 79 ∷ 78 ∷ 78 ∷ 69 ∷ 67 ∷ 84 ∷ 37 ∷ 58 ∷ 112 ∷ 97 ∷ 116 ∷ 104 ∷ 1 ∷ 47 ∷ 39 ∷ 2 ∷ 58 ∷ 112 ∷ 114 ∷ 111 ∷ 116 ∷ 111 ∷ 99 ∷ 111 ∷ 108 ∷ 12 ∷ 119 ∷ 101 ∷ 98 ∷ 116 ∷ 114 ∷ 97 ∷ 110 ∷ 115 ∷ 112 ∷ 111 ∷ 114 ∷ 116 ∷ 39 ∷ 0 ∷ 58 ∷ 115 ∷ 99 ∷ 104 ∷ 101 ∷ 109 ∷ 101 ∷ 5 ∷ 104 ∷ 116 ∷ 116 ∷ 112 ∷ 115 ∷ []) ∷ []) ∷ []); is_all = true }
unfolding computed parsed
url_0096 = refl

pub url_0097 : run Client (turns.Call (calls.Connect ((102 ∷ 105 ∷ 108 ∷ 101 ∷ 58 ∷ 47 ∷ 47 ∷ 64 ∷ 37 ∷ 51 ∷ 49 ∷ 58 ∷ 52 ∷ 52 ∷ 51 ∷ 51 ∷ []), ([])) (lookups.Found (addresses.V4 16909060 5)) outcomes.Proceed) ∷ []) ≡ record { answers = (answer (replies.ConnectFailed (connects.InvalidUrl refusals.Parse)) ([]) ∷ []); is_all = true }
unfolding computed parsed
url_0097 = refl

pub url_0099 : run Client (turns.Call (calls.Connect ((91 ∷ 48 ∷ 48 ∷ 58 ∷ []), ([])) (lookups.Found (addresses.V4 16909060 5)) outcomes.Proceed) ∷ turns.Connected 1 1 10000 (facts.Limit 1200) ∷ turns.PeerUni ∷ turns.Bytes 3 (0 ∷ 4 ∷ 0 ∷ []) ∷ turns.Call calls.Handshake ∷ []) ≡ record { answers = (answer (replies.ConnectFailed (connects.InvalidUrl refusals.Parse)) ([]) ∷ []); is_all = false }
unfolding computed parsed
url_0099 = refl

pub url_0100 : run Client (turns.Call (calls.Connect ((104 ∷ 116 ∷ 116 ∷ 112 ∷ 58 ∷ 47 ∷ 47 ∷ 117 ∷ 64 ∷ 48 ∷ 58 ∷ 120 ∷ []), ([])) (lookups.Found (addresses.V4 16909060 5)) outcomes.Proceed) ∷ turns.Connected 1 1 10000 (facts.Limit 1200) ∷ turns.PeerUni ∷ turns.Bytes 3 (0 ∷ 4 ∷ 0 ∷ []) ∷ turns.Call calls.Handshake ∷ []) ≡ record { answers = (answer (replies.ConnectFailed (connects.InvalidUrl refusals.Parse)) ([]) ∷ []); is_all = false }
unfolding computed parsed
url_0100 = refl

pub url_0101 : run Client (turns.Call (calls.Connect ((104 ∷ 116 ∷ 116 ∷ 112 ∷ 115 ∷ 58 ∷ 47 ∷ 47 ∷ 58 ∷ 58 ∷ 49 ∷ 93 ∷ 58 ∷ 57 ∷ 57 ∷ 47 ∷ 120 ∷ 63 ∷ 121 ∷ 35 ∷ 122 ∷ []), ([])) (lookups.Fault (110 ∷ [])) outcomes.Proceed) ∷ []) ≡ record { answers = (answer (replies.ConnectFailed (connects.InvalidUrl refusals.Parse)) ([]) ∷ []); is_all = true }
unfolding computed parsed
url_0101 = refl

pub url_0102 : run Client (turns.Call (calls.Connect ((104 ∷ 116 ∷ 116 ∷ 112 ∷ 115 ∷ 58 ∷ 47 ∷ 47 ∷ 58 ∷ 52 ∷ 52 ∷ 51 ∷ 51 ∷ 47 ∷ 112 ∷ 63 ∷ 113 ∷ []), ([])) lookups.NotFound outcomes.Proceed) ∷ []) ≡ record { answers = (answer (replies.ConnectFailed (connects.InvalidUrl refusals.Parse)) ([]) ∷ []); is_all = true }
unfolding computed parsed
url_0102 = refl

pub url_0103 : run Client (turns.Call (calls.Connect ((104 ∷ 116 ∷ 116 ∷ 112 ∷ 115 ∷ 58 ∷ 47 ∷ 47 ∷ 37 ∷ 51 ∷ 49 ∷ 58 ∷ 48 ∷ 54 ∷ 53 ∷ 53 ∷ 51 ∷ 53 ∷ 47 ∷ 34 ∷ []), ([])) (lookups.Fault (110 ∷ [])) outcomes.Proceed) ∷ turns.Connected 1 1 10000 (facts.Limit 1200) ∷ turns.PeerUni ∷ turns.Bytes 3 (0 ∷ 4 ∷ 0 ∷ []) ∷ turns.Call calls.Handshake ∷ []) ≡ record { answers = (answer replies.Pending (actions.Dial (addresses.V4 1 65535) (48 ∷ 46 ∷ 48 ∷ 46 ∷ 48 ∷ 46 ∷ 49 ∷ []) ∷ []) ∷ answer replies.Done (actions.Opened 2 ∷ actions.Send 2 (0 ∷ 4 ∷ 22 ∷ 1 ∷ 0 ∷ 7 ∷ 0 ∷ 8 ∷ 1 ∷ 51 ∷ 1 ∷ 171 ∷ 96 ∷ 55 ∷ 66 ∷ 1 ∷ 192 ∷ 0 ∷ 0 ∷ 0 ∷ 198 ∷ 113 ∷ 112 ∷ 106 ∷ 4 ∷ []) ∷ []) ∷ answer replies.Done ([]) ∷ answer replies.Done ([]) ∷ answer replies.Pending (actions.Opened 0 ∷ actions.Send 0 (1 ∷ 64 ∷ 95 ∷ 0 ∷ 0 ∷ 39 ∷ 3 ∷ 58 ∷ 97 ∷ 117 ∷ 116 ∷ 104 ∷ 111 ∷ 114 ∷ 105 ∷ 116 ∷ 121 ∷ 13 ∷ 48 ∷ 46 ∷ 48 ∷ 46 ∷ 48 ∷ 46 ∷ 49 ∷ 58 ∷ 54 ∷ 53 ∷ 53 ∷ 51 ∷ 53 ∷ 39 ∷ 0 ∷ 58 ∷ 109 ∷ 101 ∷ 116 ∷ 104 ∷ 111 ∷ 100 ∷ 7 ∷ 67 ∷ 79 ∷ 78 ∷ 78 ∷ 69 ∷ 67 ∷ 84 ∷ 37 ∷ 58 ∷ 112 ∷ 97 ∷ 116 ∷ 104 ∷ 4 ∷ 47 ∷ 37 ∷ 50 ∷ 50 ∷ 39 ∷ 2 ∷ 58 ∷ 112 ∷ 114 ∷ 111 ∷ 116 ∷ 111 ∷ 99 ∷ 111 ∷ 108 ∷ 12 ∷ 119 ∷ 101 ∷ 98 ∷ 116 ∷ 114 ∷ 97 ∷ 110 ∷ 115 ∷ 112 ∷ 111 ∷ 114 ∷ 116 ∷ 39 ∷ 0 ∷ 58 ∷ 115 ∷ 99 ∷ 104 ∷ 101 ∷ 109 ∷ 101 ∷ 5 ∷ 104 ∷ 116 ∷ 116 ∷ 112 ∷ 115 ∷ []) ∷ []) ∷ []); is_all = true }
unfolding computed parsed
url_0103 = refl

pub url_0105 : run Client (turns.Call (calls.Connect ((104 ∷ 116 ∷ 116 ∷ 112 ∷ 115 ∷ 58 ∷ 47 ∷ 47 ∷ 91 ∷ 58 ∷ 58 ∷ 49 ∷ 93 ∷ 126 ∷ 57 ∷ 57 ∷ 47 ∷ 120 ∷ 63 ∷ 121 ∷ 35 ∷ 122 ∷ []), ([])) lookups.NotFound outcomes.Proceed) ∷ turns.Connected 1 1 10000 (facts.Limit 1200) ∷ turns.PeerUni ∷ turns.Bytes 3 (0 ∷ 4 ∷ 0 ∷ []) ∷ turns.Call calls.Handshake ∷ []) ≡ record { answers = (answer (replies.ConnectFailed (connects.InvalidUrl refusals.Parse)) ([]) ∷ []); is_all = false }
unfolding computed parsed
url_0105 = refl

pub url_0106 : run Client (turns.Call (calls.Connect ((104 ∷ 116 ∷ 116 ∷ 112 ∷ 115 ∷ 58 ∷ 47 ∷ 47 ∷ 49 ∷ 50 ∷ 55 ∷ 46 ∷ 48 ∷ 46 ∷ 48 ∷ 46 ∷ 49 ∷ 47 ∷ []), ([])) (lookups.Found (addresses.V4 16909060 5)) outcomes.Proceed) ∷ turns.Connected 1 1 10000 (facts.Limit 1200) ∷ turns.PeerUni ∷ turns.Bytes 3 (0 ∷ 4 ∷ 0 ∷ []) ∷ turns.Call calls.Handshake ∷ []) ≡ record { answers = (answer replies.Pending (actions.Dial (addresses.V4 2130706433 443) (49 ∷ 50 ∷ 55 ∷ 46 ∷ 48 ∷ 46 ∷ 48 ∷ 46 ∷ 49 ∷ []) ∷ []) ∷ answer replies.Done (actions.Opened 2 ∷ actions.Send 2 (0 ∷ 4 ∷ 22 ∷ 1 ∷ 0 ∷ 7 ∷ 0 ∷ 8 ∷ 1 ∷ 51 ∷ 1 ∷ 171 ∷ 96 ∷ 55 ∷ 66 ∷ 1 ∷ 192 ∷ 0 ∷ 0 ∷ 0 ∷ 198 ∷ 113 ∷ 112 ∷ 106 ∷ 4 ∷ []) ∷ []) ∷ answer replies.Done ([]) ∷ answer replies.Done ([]) ∷ answer replies.Pending (actions.Opened 0 ∷ actions.Send 0 (1 ∷ 64 ∷ 88 ∷ 0 ∷ 0 ∷ 39 ∷ 3 ∷ 58 ∷ 97 ∷ 117 ∷ 116 ∷ 104 ∷ 111 ∷ 114 ∷ 105 ∷ 116 ∷ 121 ∷ 9 ∷ 49 ∷ 50 ∷ 55 ∷ 46 ∷ 48 ∷ 46 ∷ 48 ∷ 46 ∷ 49 ∷ 39 ∷ 0 ∷ 58 ∷ 109 ∷ 101 ∷ 116 ∷ 104 ∷ 111 ∷ 100 ∷ 7 ∷ 67 ∷ 79 ∷ 78 ∷ 78 ∷ 69 ∷ 67 ∷ 84 ∷ 37 ∷ 58 ∷ 112 ∷ 97 ∷ 116 ∷ 104 ∷ 1 ∷ 47 ∷ 39 ∷ 2 ∷ 58 ∷ 112 ∷ 114 ∷ 111 ∷ 116 ∷ 111 ∷ 99 ∷ 111 ∷ 108 ∷ 12 ∷ 119 ∷ 101 ∷ 98 ∷ 116 ∷ 114 ∷ 97 ∷ 110 ∷ 115 ∷ 112 ∷ 111 ∷ 114 ∷ 116 ∷ 39 ∷ 0 ∷ 58 ∷ 115 ∷ 99 ∷ 104 ∷ 101 ∷ 109 ∷ 101 ∷ 5 ∷ 104 ∷ 116 ∷ 116 ∷ 112 ∷ 115 ∷ []) ∷ []) ∷ []); is_all = true }
unfolding computed parsed
url_0106 = refl

pub url_0107 : run Client (turns.Call (calls.Connect ((104 ∷ 116 ∷ 116 ∷ 112 ∷ 115 ∷ 58 ∷ 47 ∷ 47 ∷ 91 ∷ 58 ∷ 58 ∷ 49 ∷ 93 ∷ 58 ∷ 57 ∷ 57 ∷ 47 ∷ 120 ∷ 63 ∷ 121 ∷ 35 ∷ 122 ∷ []), ([])) (lookups.Found (addresses.V4 16909060 5)) outcomes.Proceed) ∷ turns.Connected 1 1 10000 (facts.Limit 1200) ∷ turns.PeerUni ∷ turns.Bytes 3 (0 ∷ 4 ∷ 0 ∷ []) ∷ turns.Call calls.Handshake ∷ []) ≡ record { answers = (answer replies.Pending (actions.Dial (addresses.V6 1 99) (58 ∷ 58 ∷ 49 ∷ []) ∷ []) ∷ answer replies.Done (actions.Opened 2 ∷ actions.Send 2 (0 ∷ 4 ∷ 22 ∷ 1 ∷ 0 ∷ 7 ∷ 0 ∷ 8 ∷ 1 ∷ 51 ∷ 1 ∷ 171 ∷ 96 ∷ 55 ∷ 66 ∷ 1 ∷ 192 ∷ 0 ∷ 0 ∷ 0 ∷ 198 ∷ 113 ∷ 112 ∷ 106 ∷ 4 ∷ []) ∷ []) ∷ answer replies.Done ([]) ∷ answer replies.Done ([]) ∷ answer replies.Pending (actions.Opened 0 ∷ actions.Send 0 (1 ∷ 64 ∷ 90 ∷ 0 ∷ 0 ∷ 39 ∷ 3 ∷ 58 ∷ 97 ∷ 117 ∷ 116 ∷ 104 ∷ 111 ∷ 114 ∷ 105 ∷ 116 ∷ 121 ∷ 8 ∷ 91 ∷ 58 ∷ 58 ∷ 49 ∷ 93 ∷ 58 ∷ 57 ∷ 57 ∷ 39 ∷ 0 ∷ 58 ∷ 109 ∷ 101 ∷ 116 ∷ 104 ∷ 111 ∷ 100 ∷ 7 ∷ 67 ∷ 79 ∷ 78 ∷ 78 ∷ 69 ∷ 67 ∷ 84 ∷ 37 ∷ 58 ∷ 112 ∷ 97 ∷ 116 ∷ 104 ∷ 4 ∷ 47 ∷ 120 ∷ 63 ∷ 121 ∷ 39 ∷ 2 ∷ 58 ∷ 112 ∷ 114 ∷ 111 ∷ 116 ∷ 111 ∷ 99 ∷ 111 ∷ 108 ∷ 12 ∷ 119 ∷ 101 ∷ 98 ∷ 116 ∷ 114 ∷ 97 ∷ 110 ∷ 115 ∷ 112 ∷ 111 ∷ 114 ∷ 116 ∷ 39 ∷ 0 ∷ 58 ∷ 115 ∷ 99 ∷ 104 ∷ 101 ∷ 109 ∷ 101 ∷ 5 ∷ 104 ∷ 116 ∷ 116 ∷ 112 ∷ 115 ∷ []) ∷ []) ∷ []); is_all = true }
unfolding computed parsed
url_0107 = refl

pub url_0108 : run Client (turns.Call (calls.Connect ((104 ∷ 116 ∷ 116 ∷ 112 ∷ 115 ∷ 58 ∷ 97 ∷ 41 ∷ 98 ∷ 58 ∷ 52 ∷ 52 ∷ 51 ∷ []), ([])) lookups.NotFound outcomes.Proceed) ∷ turns.Connected 1 1 10000 (facts.Limit 1200) ∷ turns.PeerUni ∷ turns.Bytes 3 (0 ∷ 4 ∷ 0 ∷ []) ∷ turns.Call calls.Handshake ∷ []) ≡ record { answers = (answer (replies.ConnectFailed connects.DnsNotFound) ([]) ∷ []); is_all = false }
unfolding computed parsed
url_0108 = refl

pub url_0109 : run Client (turns.Call (calls.Connect ((104 ∷ 116 ∷ 116 ∷ 112 ∷ 115 ∷ 46 ∷ 91 ∷ 47 ∷ 104 ∷ 58 ∷ 52 ∷ 52 ∷ 51 ∷ 51 ∷ 47 ∷ 112 ∷ 63 ∷ 113 ∷ []), ([])) (lookups.Found (addresses.V4 16909060 5)) outcomes.Proceed) ∷ turns.Connected 1 1 10000 (facts.Limit 1200) ∷ turns.PeerUni ∷ turns.Bytes 3 (0 ∷ 4 ∷ 0 ∷ []) ∷ turns.Call calls.Handshake ∷ []) ≡ record { answers = (answer (replies.ConnectFailed (connects.InvalidUrl refusals.Parse)) ([]) ∷ []); is_all = false }
unfolding computed parsed
url_0109 = refl

pub url_0110 : run Client (turns.Call (calls.Connect ((104 ∷ 116 ∷ 116 ∷ 112 ∷ 115 ∷ 58 ∷ 47 ∷ 47 ∷ 104 ∷ 58 ∷ 52 ∷ 52 ∷ 51 ∷ 51 ∷ 47 ∷ 112 ∷ 63 ∷ 113 ∷ []), ([])) lookups.NotFound outcomes.Proceed) ∷ turns.Connected 1 1 10000 (facts.Limit 1200) ∷ turns.PeerUni ∷ turns.Bytes 3 (0 ∷ 4 ∷ 0 ∷ []) ∷ turns.Call calls.Handshake ∷ []) ≡ record { answers = (answer (replies.ConnectFailed connects.DnsNotFound) ([]) ∷ []); is_all = false }
unfolding computed parsed
url_0110 = refl

pub url_0111 : run Client (turns.Call (calls.Connect ((104 ∷ 116 ∷ 116 ∷ 50 ∷ 112 ∷ 115 ∷ 58 ∷ 47 ∷ 47 ∷ 49 ∷ 50 ∷ 55 ∷ 46 ∷ 48 ∷ 46 ∷ 48 ∷ 49 ∷ 47 ∷ []), ([])) lookups.NotFound outcomes.Proceed) ∷ turns.Connected 1 1 10000 (facts.Limit 1200) ∷ turns.PeerUni ∷ turns.Bytes 3 (0 ∷ 4 ∷ 0 ∷ []) ∷ turns.Call calls.Handshake ∷ []) ≡ record { answers = (answer (replies.ConnectFailed (connects.InvalidUrl refusals.Scheme)) ([]) ∷ []); is_all = false }
unfolding computed parsed
url_0111 = refl

pub url_0112 : run Client (turns.Call (calls.Connect ((72 ∷ 84 ∷ 84 ∷ 80 ∷ 83 ∷ 91 ∷ 47 ∷ 47 ∷ 47 ∷ 72 ∷ 46 ∷ 101 ∷ 88 ∷ []), ([])) (lookups.Found (addresses.V4 16909060 5)) outcomes.Proceed) ∷ []) ≡ record { answers = (answer (replies.ConnectFailed (connects.InvalidUrl refusals.Parse)) ([]) ∷ []); is_all = true }
unfolding computed parsed
url_0112 = refl

pub url_0113 : run Client (turns.Call (calls.Connect ((59 ∷ 52 ∷ []), ([])) (lookups.Fault (110 ∷ [])) outcomes.Proceed) ∷ turns.Connected 1 1 10000 (facts.Limit 1200) ∷ turns.PeerUni ∷ turns.Bytes 3 (0 ∷ 4 ∷ 0 ∷ []) ∷ turns.Call calls.Handshake ∷ []) ≡ record { answers = (answer (replies.ConnectFailed (connects.InvalidUrl refusals.Parse)) ([]) ∷ []); is_all = false }
unfolding computed parsed
url_0113 = refl

pub url_0114 : run Client (turns.Call (calls.Connect ((104 ∷ 116 ∷ 116 ∷ 112 ∷ 115 ∷ 58 ∷ 47 ∷ 47 ∷ 49 ∷ 50 ∷ 55 ∷ 46 ∷ 48 ∷ 46 ∷ 48 ∷ 46 ∷ 91 ∷ []), ([])) (lookups.Found (addresses.V4 16909060 5)) outcomes.Proceed) ∷ turns.Connected 1 1 10000 (facts.Limit 1200) ∷ turns.PeerUni ∷ turns.Bytes 3 (0 ∷ 4 ∷ 0 ∷ []) ∷ turns.Call calls.Handshake ∷ []) ≡ record { answers = (answer (replies.ConnectFailed (connects.InvalidUrl refusals.Parse)) ([]) ∷ []); is_all = false }
unfolding computed parsed
url_0114 = refl

pub url_0115 : run Client (turns.Call (calls.Connect ((104 ∷ 116 ∷ 116 ∷ 112 ∷ 115 ∷ 58 ∷ 47 ∷ 47 ∷ 49 ∷ 50 ∷ 55 ∷ 46 ∷ 48 ∷ 46 ∷ 48 ∷ 46 ∷ 49 ∷ 47 ∷ []), ([])) (lookups.Fault (110 ∷ [])) outcomes.Proceed) ∷ turns.Connected 1 1 10000 (facts.Limit 1200) ∷ turns.PeerUni ∷ turns.Bytes 3 (0 ∷ 4 ∷ 0 ∷ []) ∷ turns.Call calls.Handshake ∷ []) ≡ record { answers = (answer replies.Pending (actions.Dial (addresses.V4 2130706433 443) (49 ∷ 50 ∷ 55 ∷ 46 ∷ 48 ∷ 46 ∷ 48 ∷ 46 ∷ 49 ∷ []) ∷ []) ∷ answer replies.Done (actions.Opened 2 ∷ actions.Send 2 (0 ∷ 4 ∷ 22 ∷ 1 ∷ 0 ∷ 7 ∷ 0 ∷ 8 ∷ 1 ∷ 51 ∷ 1 ∷ 171 ∷ 96 ∷ 55 ∷ 66 ∷ 1 ∷ 192 ∷ 0 ∷ 0 ∷ 0 ∷ 198 ∷ 113 ∷ 112 ∷ 106 ∷ 4 ∷ []) ∷ []) ∷ answer replies.Done ([]) ∷ answer replies.Done ([]) ∷ answer replies.Pending (actions.Opened 0 ∷ actions.Send 0 (1 ∷ 64 ∷ 88 ∷ 0 ∷ 0 ∷ 39 ∷ 3 ∷ 58 ∷ 97 ∷ 117 ∷ 116 ∷ 104 ∷ 111 ∷ 114 ∷ 105 ∷ 116 ∷ 121 ∷ 9 ∷ 49 ∷ 50 ∷ 55 ∷ 46 ∷ 48 ∷ 46 ∷ 48 ∷ 46 ∷ 49 ∷ 39 ∷ 0 ∷ 58 ∷ 109 ∷ 101 ∷ 116 ∷ 104 ∷ 111 ∷ 100 ∷ 7 ∷ 67 ∷ 79 ∷ 78 ∷ 78 ∷ 69 ∷ 67 ∷ 84 ∷ 37 ∷ 58 ∷ 112 ∷ 97 ∷ 116 ∷ 104 ∷ 1 ∷ 47 ∷ 39 ∷ 2 ∷ 58 ∷ 112 ∷ 114 ∷ 111 ∷ 116 ∷ 111 ∷ 99 ∷ 111 ∷ 108 ∷ 12 ∷ 119 ∷ 101 ∷ 98 ∷ 116 ∷ 114 ∷ 97 ∷ 110 ∷ 115 ∷ 112 ∷ 111 ∷ 114 ∷ 116 ∷ 39 ∷ 0 ∷ 58 ∷ 115 ∷ 99 ∷ 104 ∷ 101 ∷ 109 ∷ 101 ∷ 5 ∷ 104 ∷ 116 ∷ 116 ∷ 112 ∷ 115 ∷ []) ∷ []) ∷ []); is_all = true }
unfolding computed parsed
url_0115 = refl

pub url_0116 : run Client (turns.Call (calls.Connect ((112 ∷ 113 ∷ 40 ∷ 33 ∷ 120 ∷ 118 ∷ 58 ∷ []), ([])) lookups.NotFound outcomes.Proceed) ∷ []) ≡ record { answers = (answer (replies.ConnectFailed (connects.InvalidUrl refusals.Parse)) ([]) ∷ []); is_all = true }
unfolding computed parsed
url_0116 = refl

pub url_0117 : run Client (turns.Call (calls.Connect ((120 ∷ 58 ∷ 47 ∷ 58 ∷ 91 ∷ 58 ∷ 47 ∷ 37 ∷ 35 ∷ 59 ∷ 37 ∷ 50 ∷ 101 ∷ 124 ∷ 37 ∷ 50 ∷ 101 ∷ 37 ∷ 64 ∷ []), ([])) (lookups.Found (addresses.V4 16909060 5)) outcomes.Proceed) ∷ turns.Connected 1 1 10000 (facts.Limit 1200) ∷ turns.PeerUni ∷ turns.Bytes 3 (0 ∷ 4 ∷ 0 ∷ []) ∷ turns.Call calls.Handshake ∷ []) ≡ record { answers = (answer (replies.ConnectFailed (connects.InvalidUrl refusals.Scheme)) ([]) ∷ []); is_all = false }
unfolding computed parsed
url_0117 = refl

pub url_0118 : run Client (turns.Call (calls.Connect ((104 ∷ 116 ∷ 116 ∷ 112 ∷ 58 ∷ 47 ∷ 47 ∷ 117 ∷ 58 ∷ 112 ∷ 64 ∷ 49 ∷ 46 ∷ 50 ∷ 46 ∷ 51 ∷ 46 ∷ 52 ∷ 58 ∷ 52 ∷ 52 ∷ 51 ∷ 47 ∷ 91 ∷ 96 ∷ 96 ∷ []), ([])) (lookups.Fault (110 ∷ [])) outcomes.Proceed) ∷ turns.Connected 1 1 10000 (facts.Limit 1200) ∷ turns.PeerUni ∷ turns.Bytes 3 (0 ∷ 4 ∷ 0 ∷ []) ∷ turns.Call calls.Handshake ∷ []) ≡ record { answers = (answer (replies.ConnectFailed (connects.InvalidUrl refusals.Scheme)) ([]) ∷ []); is_all = false }
unfolding computed parsed
url_0118 = refl

pub url_0119 : run Client (turns.Call (calls.Connect ((104 ∷ 116 ∷ 116 ∷ 112 ∷ 115 ∷ 58 ∷ 47 ∷ 47 ∷ 49 ∷ 46 ∷ 50 ∷ 46 ∷ 51 ∷ 46 ∷ 52 ∷ 46 ∷ 53 ∷ 58 ∷ 56 ∷ 48 ∷ 47 ∷ 39 ∷ []), ([])) (lookups.Found (addresses.V4 16909060 5)) outcomes.Proceed) ∷ turns.Connected 1 1 10000 (facts.Limit 1200) ∷ turns.PeerUni ∷ turns.Bytes 3 (0 ∷ 4 ∷ 0 ∷ []) ∷ turns.Call calls.Handshake ∷ []) ≡ record { answers = (answer (replies.ConnectFailed (connects.InvalidUrl refusals.Parse)) ([]) ∷ []); is_all = false }
unfolding computed parsed
url_0119 = refl
