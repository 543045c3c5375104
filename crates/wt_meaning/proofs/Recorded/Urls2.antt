-- Recorded sessions: what the definitions give is what was recorded. Made by `tools/meaning lemmas`.
use Rattle.std.specs.Prelude.{[], ◌∷◌, ◌≡◌, false, true}
use Rattle.std.proofs.Common.{refl}
use Rattle.wt_meaning.proofs.Recorded.{computed, parsed}
use Rattle.wt_meaning.specs.Meaning.{run}
use Rattle.wt_meaning.specs.Rows.{answer}
use Rattle.wt_wire.specs.declared.side.Side.TheVariants.{Client}
use Rattle.wt_turn.specs.declared.action.Action.TheVariants as actions
use Rattle.wt_wire.specs.declared.addr.Addr.TheVariants as addresses
use Rattle.wt_turn.specs.declared.call.Call.TheVariants as calls
use Rattle.wt_turn.specs.declared.connecting_error.ConnectingError.TheVariants as connects
use Rattle.wt_turn.specs.declared.datagram_fact.DatagramFact.TheVariants as facts
use Rattle.wt_wire.specs.declared.lookup.Lookup.TheVariants as lookups
use Rattle.wt_wire.specs.declared.lookup.ConnectOutcome.TheVariants as outcomes
use Rattle.wt_turn.specs.declared.connecting_error.UrlRefusal.TheVariants as refusals
use Rattle.wt_turn.specs.declared.reply.Reply.TheVariants as replies
use Rattle.wt_turn.specs.declared.turn.Turn.TheVariants as turns

pub url_0041 : run Client (turns.Call (calls.Connect ((104 ∷ 116 ∷ 116 ∷ 112 ∷ 115 ∷ 58 ∷ 47 ∷ 47 ∷ 104 ∷ 58 ∷ 52 ∷ 52 ∷ 51 ∷ 51 ∷ 47 ∷ 112 ∷ 63 ∷ 113 ∷ []), ([])) (lookups.Found (addresses.V4 16909060 5)) outcomes.Proceed) ∷ []) ≡ record { answers = (answer replies.Pending (actions.Dial (addresses.V4 16909060 5) (104 ∷ []) ∷ []) ∷ []); is_all = true }
unfolding computed parsed
url_0041 = refl

pub url_0042 : run Client (turns.Call (calls.Connect ((104 ∷ 116 ∷ 116 ∷ 112 ∷ 115 ∷ 58 ∷ 47 ∷ 47 ∷ 104 ∷ []), ([])) lookups.NotFound outcomes.Proceed) ∷ turns.Connected 1 1 10000 (facts.Limit 1200) ∷ turns.PeerUni ∷ turns.Bytes 3 (0 ∷ 4 ∷ 0 ∷ []) ∷ turns.Call calls.Handshake ∷ []) ≡ record { answers = (answer (replies.ConnectFailed connects.DnsNotFound) ([]) ∷ []); is_all = false }
unfolding computed parsed
url_0042 = refl

pub url_0043 : run Client (turns.Call (calls.Connect ((104 ∷ 116 ∷ 116 ∷ 112 ∷ 115 ∷ 58 ∷ 64 ∷ 47 ∷ 49 ∷ 50 ∷ 55 ∷ 46 ∷ 48 ∷ 46 ∷ 48 ∷ 37 ∷ 51 ∷ 51 ∷ 49 ∷ 47 ∷ []), ([])) (lookups.Found (addresses.V4 16909060 5)) outcomes.Proceed) ∷ turns.Connected 1 1 10000 (facts.Limit 1200) ∷ turns.PeerUni ∷ turns.Bytes 3 (0 ∷ 4 ∷ 0 ∷ []) ∷ turns.Call calls.Handshake ∷ []) ≡ record { answers = (answer (replies.ConnectFailed (connects.InvalidUrl refusals.Parse)) ([]) ∷ []); is_all = false }
unfolding computed parsed
url_0043 = refl

pub url_0044 : run Client (turns.Call (calls.Connect ((74 ∷ 58 ∷ 74 ∷ 38 ∷ 124 ∷ 57 ∷ []), ([])) (lookups.Fault (110 ∷ [])) outcomes.Proceed) ∷ turns.Connected 1 1 10000 (facts.Limit 1200) ∷ turns.PeerUni ∷ turns.Bytes 3 (0 ∷ 4 ∷ 0 ∷ []) ∷ turns.Call calls.Handshake ∷ []) ≡ record { answers = (answer (replies.ConnectFailed (connects.InvalidUrl refusals.Scheme)) ([]) ∷ []); is_all = false }
unfolding computed parsed
url_0044 = refl

pub url_0045 : run Client (turns.Call (calls.Connect ((104 ∷ 116 ∷ 116 ∷ 112 ∷ 64 ∷ 58 ∷ 47 ∷ 47 ∷ 91 ∷ 58 ∷ 58 ∷ 49 ∷ 93 ∷ 58 ∷ 57 ∷ 57 ∷ 47 ∷ 120 ∷ 63 ∷ 121 ∷ 35 ∷ 122 ∷ []), ([])) (lookups.Found (addresses.V4 16909060 5)) outcomes.Proceed) ∷ turns.Connected 1 1 10000 (facts.Limit 1200) ∷ turns.PeerUni ∷ turns.Bytes 3 (0 ∷ 4 ∷ 0 ∷ []) ∷ turns.Call calls.Handshake ∷ []) ≡ record { answers = (answer (replies.ConnectFailed (connects.InvalidUrl refusals.Parse)) ([]) ∷ []); is_all = false }
unfolding computed parsed
url_0045 = refl

pub url_0046 : run Client (turns.Call (calls.Connect ((104 ∷ 116 ∷ 116 ∷ 112 ∷ 115 ∷ 58 ∷ 92 ∷ 92 ∷ 97 ∷ 124 ∷ 98 ∷ 58 ∷ 120 ∷ 47 ∷ 123 ∷ []), ([])) (lookups.Found (addresses.V4 16909060 5)) outcomes.Proceed) ∷ turns.Connected 1 1 10000 (facts.Limit 1200) ∷ turns.PeerUni ∷ turns.Bytes 3 (0 ∷ 4 ∷ 0 ∷ []) ∷ turns.Call calls.Handshake ∷ []) ≡ record { answers = (answer (replies.ConnectFailed (connects.InvalidUrl refusals.Parse)) ([]) ∷ []); is_all = false }
unfolding computed parsed
url_0046 = refl

pub url_0047 : run Client (turns.Call (calls.Connect ((120 ∷ 58 ∷ 64 ∷ 97 ∷ 46 ∷ 46 ∷ 47 ∷ 37 ∷ 122 ∷ 122 ∷ 37 ∷ 50 ∷ 101 ∷ 34 ∷ []), ([])) (lookups.Found (addresses.V4 16909060 5)) outcomes.Proceed) ∷ turns.Connected 1 1 10000 (facts.Limit 1200) ∷ turns.PeerUni ∷ turns.Bytes 3 (0 ∷ 4 ∷ 0 ∷ []) ∷ turns.Call calls.Handshake ∷ []) ≡ record { answers = (answer (replies.ConnectFailed (connects.InvalidUrl refusals.Scheme)) ([]) ∷ []); is_all = false }
unfolding computed parsed
url_0047 = refl

pub url_0048 : run Client (turns.Call (calls.Connect ((104 ∷ 116 ∷ 116 ∷ 112 ∷ 115 ∷ 58 ∷ 47 ∷ 47 ∷ 97 ∷ 46 ∷ 49 ∷ 58 ∷ 48 ∷ 64 ∷ 53 ∷ 53 ∷ 51 ∷ 53 ∷ []), ([])) lookups.NotFound outcomes.Proceed) ∷ turns.Connected 1 1 10000 (facts.Limit 1200) ∷ turns.PeerUni ∷ turns.Bytes 3 (0 ∷ 4 ∷ 0 ∷ []) ∷ turns.Call calls.Handshake ∷ []) ≡ record { answers = (answer replies.Pending (actions.Dial (addresses.V4 5535 443) (48 ∷ 46 ∷ 48 ∷ 46 ∷ 50 ∷ 49 ∷ 46 ∷ 49 ∷ 53 ∷ 57 ∷ []) ∷ []) ∷ answer replies.Done (actions.Opened 2 ∷ actions.Send 2 (0 ∷ 4 ∷ 22 ∷ 1 ∷ 0 ∷ 7 ∷ 0 ∷ 8 ∷ 1 ∷ 51 ∷ 1 ∷ 171 ∷ 96 ∷ 55 ∷ 66 ∷ 1 ∷ 192 ∷ 0 ∷ 0 ∷ 0 ∷ 198 ∷ 113 ∷ 112 ∷ 106 ∷ 4 ∷ []) ∷ []) ∷ answer replies.Done ([]) ∷ answer replies.Done ([]) ∷ answer replies.Pending (actions.Opened 0 ∷ actions.Send 0 (1 ∷ 64 ∷ 89 ∷ 0 ∷ 0 ∷ 39 ∷ 3 ∷ 58 ∷ 97 ∷ 117 ∷ 116 ∷ 104 ∷ 111 ∷ 114 ∷ 105 ∷ 116 ∷ 121 ∷ 10 ∷ 48 ∷ 46 ∷ 48 ∷ 46 ∷ 50 ∷ 49 ∷ 46 ∷ 49 ∷ 53 ∷ 57 ∷ 39 ∷ 0 ∷ 58 ∷ 109 ∷ 101 ∷ 116 ∷ 104 ∷ 111 ∷ 100 ∷ 7 ∷ 67 ∷ 79 ∷ 78 ∷ 78 ∷ 69 ∷ 67 ∷ 84 ∷ 37 ∷ 58 ∷ 112 ∷ 97 ∷ 116 ∷ 104 ∷ 1 ∷ 47 ∷ 39 ∷ 2 ∷ 58 ∷ 112 ∷ 114 ∷ 111 ∷ 116 ∷ 111 ∷ 99 ∷ 111 ∷ 108 ∷ 12 ∷ 119 ∷ 101 ∷ 98 ∷ 116 ∷ 114 ∷ 97 ∷ 110 ∷ 115 ∷ 112 ∷ 111 ∷ 114 ∷ 116 ∷ 39 ∷ 0 ∷ 58 ∷ 115 ∷ 99 ∷ 104 ∷ 101 ∷ 109 ∷ 101 ∷ 5 ∷ 104 ∷ 116 ∷ 116 ∷ 112 ∷ 115 ∷ []) ∷ []) ∷ []); is_all = true }
unfolding computed parsed
url_0048 = refl

pub url_0049 : run Client (turns.Call (calls.Connect ((104 ∷ 116 ∷ 116 ∷ 112 ∷ 115 ∷ 58 ∷ 117 ∷ 58 ∷ 112 ∷ 64 ∷ 72 ∷ 47 ∷ 101 ∷ 88 ∷ 58 ∷ 47 ∷ []), ([])) lookups.NotFound outcomes.Proceed) ∷ []) ≡ record { answers = (answer (replies.ConnectFailed connects.DnsNotFound) ([]) ∷ []); is_all = true }
unfolding computed parsed
url_0049 = refl

pub url_0050 : run Client (turns.Call (calls.Connect ((104 ∷ 116 ∷ 116 ∷ 91 ∷ 115 ∷ 58 ∷ 92 ∷ 92 ∷ 91 ∷ 37 ∷ 51 ∷ 57 ∷ 58 ∷ 49 ∷ 93 ∷ 58 ∷ 56 ∷ 48 ∷ []), ([])) (lookups.Found (addresses.V4 16909060 5)) outcomes.Proceed) ∷ []) ≡ record { answers = (answer (replies.ConnectFailed (connects.InvalidUrl refusals.Parse)) ([]) ∷ []); is_all = true }
unfolding computed parsed
url_0050 = refl

pub url_0051 : run Client (turns.Call (calls.Connect ((102 ∷ 105 ∷ 108 ∷ 101 ∷ 58 ∷ 47 ∷ 47 ∷ 117 ∷ 64 ∷ 48 ∷ 120 ∷ 55 ∷ 102 ∷ 46 ∷ 49 ∷ 58 ∷ 48 ∷ 54 ∷ 53 ∷ 53 ∷ 51 ∷ 53 ∷ []), ([])) (lookups.Found (addresses.V4 16909060 5)) outcomes.Proceed) ∷ []) ≡ record { answers = (answer (replies.ConnectFailed (connects.InvalidUrl refusals.Parse)) ([]) ∷ []); is_all = true }
unfolding computed parsed
url_0051 = refl

pub url_0052 : run Client (turns.Call (calls.Connect ((104 ∷ 116 ∷ 116 ∷ 112 ∷ 115 ∷ 58 ∷ 47 ∷ 47 ∷ 91 ∷ 58 ∷ 58 ∷ 49 ∷ 93 ∷ 58 ∷ 57 ∷ 57 ∷ 47 ∷ 120 ∷ 63 ∷ 121 ∷ 35 ∷ 122 ∷ []), ([])) (lookups.Fault (110 ∷ [])) outcomes.Proceed) ∷ turns.Connected 1 1 10000 (facts.Limit 1200) ∷ turns.PeerUni ∷ turns.Bytes 3 (0 ∷ 4 ∷ 0 ∷ []) ∷ turns.Call calls.Handshake ∷ []) ≡ record { answers = (answer replies.Pending (actions.Dial (addresses.V6 1 99) (58 ∷ 58 ∷ 49 ∷ []) ∷ []) ∷ answer replies.Done (actions.Opened 2 ∷ actions.Send 2 (0 ∷ 4 ∷ 22 ∷ 1 ∷ 0 ∷ 7 ∷ 0 ∷ 8 ∷ 1 ∷ 51 ∷ 1 ∷ 171 ∷ 96 ∷ 55 ∷ 66 ∷ 1 ∷ 192 ∷ 0 ∷ 0 ∷ 0 ∷ 198 ∷ 113 ∷ 112 ∷ 106 ∷ 4 ∷ []) ∷ []) ∷ answer replies.Done ([]) ∷ answer replies.Done ([]) ∷ answer replies.Pending (actions.Opened 0 ∷ actions.Send 0 (1 ∷ 64 ∷ 90 ∷ 0 ∷ 0 ∷ 39 ∷ 3 ∷ 58 ∷ 97 ∷ 117 ∷ 116 ∷ 104 ∷ 111 ∷ 114 ∷ 105 ∷ 116 ∷ 121 ∷ 8 ∷ 91 ∷ 58 ∷ 58 ∷ 49 ∷ 93 ∷ 58 ∷ 57 ∷ 57 ∷ 39 ∷ 0 ∷ 58 ∷ 109 ∷ 101 ∷ 116 ∷ 104 ∷ 111 ∷ 100 ∷ 7 ∷ 67 ∷ 79 ∷ 78 ∷ 78 ∷ 69 ∷ 67 ∷ 84 ∷ 37 ∷ 58 ∷ 112 ∷ 97 ∷ 116 ∷ 104 ∷ 4 ∷ 47 ∷ 120 ∷ 63 ∷ 121 ∷ 39 ∷ 2 ∷ 58 ∷ 112 ∷ 114 ∷ 111 ∷ 116 ∷ 111 ∷ 99 ∷ 111 ∷ 108 ∷ 12 ∷ 119 ∷ 101 ∷ 98 ∷ 116 ∷ 114 ∷ 97 ∷ 110 ∷ 115 ∷ 112 ∷ 111 ∷ 114 ∷ 116 ∷ 39 ∷ 0 ∷ 58 ∷ 115 ∷ 99 ∷ 104 ∷ 101 ∷ 109 ∷ 101 ∷ 5 ∷ 104 ∷ 116 ∷ 116 ∷ 112 ∷ 115 ∷ []) ∷ []) ∷ []); is_all = true }
unfolding computed parsed
url_0052 = refl

pub url_0053 : run Client (turns.Call (calls.Connect ((104 ∷ 116 ∷ 116 ∷ 112 ∷ 115 ∷ 47 ∷ 47 ∷ 47 ∷ 104 ∷ []), ([])) (lookups.Found (addresses.V4 16909060 5)) outcomes.Proceed) ∷ turns.Connected 1 1 10000 (facts.Limit 1200) ∷ turns.PeerUni ∷ turns.Bytes 3 (0 ∷ 4 ∷ 0 ∷ []) ∷ turns.Call calls.Handshake ∷ []) ≡ record { answers = (answer (replies.ConnectFailed (connects.InvalidUrl refusals.Parse)) ([]) ∷ []); is_all = false }
unfolding computed parsed
url_0053 = refl

pub url_0054 : run Client (turns.Call (calls.Connect ((104 ∷ 116 ∷ 116 ∷ 112 ∷ 115 ∷ 58 ∷ 47 ∷ 47 ∷ 49 ∷ 50 ∷ 69 ∷ 55 ∷ 46 ∷ 48 ∷ 46 ∷ 48 ∷ 46 ∷ 49 ∷ 47 ∷ []), ([])) (lookups.Found (addresses.V4 16909060 5)) outcomes.Proceed) ∷ []) ≡ record { answers = (answer (replies.ConnectFailed (connects.InvalidUrl refusals.Parse)) ([]) ∷ []); is_all = true }
unfolding computed parsed
url_0054 = refl

pub url_0055 : run Client (turns.Call (calls.Connect ((104 ∷ 116 ∷ 116 ∷ 112 ∷ 115 ∷ 58 ∷ 47 ∷ 47 ∷ 91 ∷ 58 ∷ 58 ∷ 49 ∷ 93 ∷ 58 ∷ 57 ∷ 57 ∷ 47 ∷ 120 ∷ 63 ∷ 121 ∷ 35 ∷ 122 ∷ []), ([])) lookups.NotFound outcomes.Proceed) ∷ turns.Connected 1 1 10000 (facts.Limit 1200) ∷ turns.PeerUni ∷ turns.Bytes 3 (0 ∷ 4 ∷ 0 ∷ []) ∷ turns.Call calls.Handshake ∷ []) ≡ record { answers = (answer replies.Pending (actions.Dial (addresses.V6 1 99) (58 ∷ 58 ∷ 49 ∷ []) ∷ []) ∷ answer replies.Done (actions.Opened 2 ∷ actions.Send 2 (0 ∷ 4 ∷ 22 ∷ 1 ∷ 0 ∷ 7 ∷ 0 ∷ 8 ∷ 1 ∷ 51 ∷ 1 ∷ 171 ∷ 96 ∷ 55 ∷ 66 ∷ 1 ∷ 192 ∷ 0 ∷ 0 ∷ 0 ∷ 198 ∷ 113 ∷ 112 ∷ 106 ∷ 4 ∷ []) ∷ []) ∷ answer replies.Done ([]) ∷ answer replies.Done ([]) ∷ answer replies.Pending (actions.Opened 0 ∷ actions.Send 0 (1 ∷ 64 ∷ 90 ∷ 0 ∷ 0 ∷ 39 ∷ 3 ∷ 58 ∷ 97 ∷ 117 ∷ 116 ∷ 104 ∷ 111 ∷ 114 ∷ 105 ∷ 116 ∷ 121 ∷ 8 ∷ 91 ∷ 58 ∷ 58 ∷ 49 ∷ 93 ∷ 58 ∷ 57 ∷ 57 ∷ 39 ∷ 0 ∷ 58 ∷ 109 ∷ 101 ∷ 116 ∷ 104 ∷ 111 ∷ 100 ∷ 7 ∷ 67 ∷ 79 ∷ 78 ∷ 78 ∷ 69 ∷ 67 ∷ 84 ∷ 37 ∷ 58 ∷ 112 ∷ 97 ∷ 116 ∷ 104 ∷ 4 ∷ 47 ∷ 120 ∷ 63 ∷ 121 ∷ 39 ∷ 2 ∷ 58 ∷ 112 ∷ 114 ∷ 111 ∷ 116 ∷ 111 ∷ 99 ∷ 111 ∷ 108 ∷ 12 ∷ 119 ∷ 101 ∷ 98 ∷ 116 ∷ 114 ∷ 97 ∷ 110 ∷ 115 ∷ 112 ∷ 111 ∷ 114 ∷ 116 ∷ 39 ∷ 0 ∷ 58 ∷ 115 ∷ 99 ∷ 104 ∷ 101 ∷ 109 ∷ 101 ∷ 5 ∷ 104 ∷ 116 ∷ 116 ∷ 112 ∷ 115 ∷ []) ∷ []) ∷ []); is_all = true }
unfolding computed parsed
url_0055 = refl

pub url_0056 : run Client (turns.Call (calls.Connect ((64 ∷ 58 ∷ 47 ∷ 47 ∷ 62 ∷ 46 ∷ 50 ∷ 46 ∷ 51 ∷ 46 ∷ 52 ∷ 46 ∷ 53 ∷ 58 ∷ 52 ∷ 52 ∷ 51 ∷ []), ([])) (lookups.Found (addresses.V4 16909060 5)) outcomes.Proceed) ∷ turns.Connected 1 1 10000 (facts.Limit 1200) ∷ turns.PeerUni ∷ turns.Bytes 3 (0 ∷ 4 ∷ 0 ∷ []) ∷ turns.Call calls.Handshake ∷ []) ≡ record { answers = (answer (replies.ConnectFailed (connects.InvalidUrl refusals.Parse)) ([]) ∷ []); is_all = false }
unfolding computed parsed
url_0056 = refl

pub url_0057 : run Client (turns.Call (calls.Connect ((104 ∷ 116 ∷ 91 ∷ 112 ∷ 115 ∷ 58 ∷ 47 ∷ 47 ∷ 97 ∷ 95 ∷ 98 ∷ []), ([])) (lookups.Found (addresses.V4 16909060 5)) outcomes.Proceed) ∷ turns.Connected 1 1 10000 (facts.Limit 1200) ∷ turns.PeerUni ∷ turns.Bytes 3 (0 ∷ 4 ∷ 0 ∷ []) ∷ turns.Call calls.Handshake ∷ []) ≡ record { answers = (answer (replies.ConnectFailed (connects.InvalidUrl refusals.Parse)) ([]) ∷ []); is_all = false }
unfolding computed parsed
url_0057 = refl

pub url_0058 : run Client (turns.Call (calls.Connect ((104 ∷ 116 ∷ 116 ∷ 112 ∷ 115 ∷ 47 ∷ 58 ∷ 47 ∷ 47 ∷ 91 ∷ 58 ∷ 58 ∷ 49 ∷ 93 ∷ 58 ∷ 57 ∷ 57 ∷ 47 ∷ 120 ∷ 63 ∷ 121 ∷ 35 ∷ 122 ∷ []), ([])) (lookups.Found (addresses.V4 16909060 5)) outcomes.Proceed) ∷ turns.Connected 1 1 10000 (facts.Limit 1200) ∷ turns.PeerUni ∷ turns.Bytes 3 (0 ∷ 4 ∷ 0 ∷ []) ∷ turns.Call calls.Handshake ∷ []) ≡ record { answers = (answer (replies.ConnectFailed (connects.InvalidUrl refusals.Parse)) ([]) ∷ []); is_all = false }
unfolding computed parsed
url_0058 = refl

pub url_0059 : run Client (turns.Call (calls.Connect ((104 ∷ 116 ∷ 116 ∷ 112 ∷ 115 ∷ 58 ∷ 47 ∷ 47 ∷ 49 ∷ 50 ∷ 55 ∷ 46 ∷ 48 ∷ 46 ∷ 48 ∷ 46 ∷ 49 ∷ 47 ∷ []), ([])) (lookups.Found (addresses.V4 16909060 5)) outcomes.Proceed) ∷ []) ≡ record { answers = (answer replies.Pending (actions.Dial (addresses.V4 2130706433 443) (49 ∷ 50 ∷ 55 ∷ 46 ∷ 48 ∷ 46 ∷ 48 ∷ 46 ∷ 49 ∷ []) ∷ []) ∷ []); is_all = true }
unfolding computed parsed
url_0059 = refl

pub url_0060 : run Client (turns.Call (calls.Connect ((104 ∷ 116 ∷ 116 ∷ 112 ∷ 115 ∷ 58 ∷ 47 ∷ 47 ∷ 104 ∷ 97 ∷ []), ([])) lookups.NotFound outcomes.Proceed) ∷ turns.Connected 1 1 10000 (facts.Limit 1200) ∷ turns.PeerUni ∷ turns.Bytes 3 (0 ∷ 4 ∷ 0 ∷ []) ∷ turns.Call calls.Handshake ∷ []) ≡ record { answers = (answer (replies.ConnectFailed connects.DnsNotFound) ([]) ∷ []); is_all = false }
unfolding computed parsed
url_0060 = refl

pub url_0061 : run Client (turns.Call (calls.Connect ((117 ∷ 58 ∷ 112 ∷ 64 ∷ 37 ∷ 51 ∷ 49 ∷ 58 ∷ 56 ∷ 48 ∷ 47 ∷ 96 ∷ 37 ∷ 37 ∷ 60 ∷ 126 ∷ 63 ∷ 46 ∷ 46 ∷ 64 ∷ []), ([])) (lookups.Fault (110 ∷ [])) outcomes.Proceed) ∷ turns.Connected 1 1 10000 (facts.Limit 1200) ∷ turns.PeerUni ∷ turns.Bytes 3 (0 ∷ 4 ∷ 0 ∷ []) ∷ turns.Call calls.Handshake ∷ []) ≡ record { answers = (answer (replies.ConnectFailed (connects.InvalidUrl refusals.Scheme)) ([]) ∷ []); is_all = false }
unfolding computed parsed
url_0061 = refl

pub url_0062 : run Client (turns.Call (calls.Connect ((45 ∷ 116 ∷ 116 ∷ 112 ∷ 115 ∷ 58 ∷ 47 ∷ 47 ∷ 104 ∷ 58 ∷ 52 ∷ 52 ∷ 51 ∷ 51 ∷ 47 ∷ 112 ∷ 63 ∷ 113 ∷ []), ([])) lookups.NotFound outcomes.Proceed) ∷ turns.Connected 1 1 10000 (facts.Limit 1200) ∷ turns.PeerUni ∷ turns.Bytes 3 (0 ∷ 4 ∷ 0 ∷ []) ∷ turns.Call calls.Handshake ∷ []) ≡ record { answers = (answer (replies.ConnectFailed (connects.InvalidUrl refusals.Parse)) ([]) ∷ []); is_all = false }
unfolding computed parsed
url_0062 = refl

pub url_0063 : run Client (turns.Call (calls.Connect ((104 ∷ 116 ∷ 116 ∷ 112 ∷ 115 ∷ 47 ∷ 47 ∷ 104 ∷ 58 ∷ 52 ∷ 52 ∷ 51 ∷ 58 ∷ 47 ∷ 112 ∷ 63 ∷ 113 ∷ []), ([])) lookups.NotFound outcomes.Proceed) ∷ []) ≡ record { answers = (answer (replies.ConnectFailed (connects.InvalidUrl refusals.Parse)) ([]) ∷ []); is_all = true }
unfolding computed parsed
url_0063 = refl

pub url_0064 : run Client (turns.Call (calls.Connect ((120 ∷ 58 ∷ 47 ∷ 47 ∷ 50 ∷ 53 ∷ 54 ∷ 46 ∷ 49 ∷ 58 ∷ 52 ∷ 52 ∷ 51 ∷ 35 ∷ []), ([])) (lookups.Fault (110 ∷ [])) outcomes.Proceed) ∷ []) ≡ record { answers = (answer (replies.ConnectFailed (connects.InvalidUrl refusals.Scheme)) ([]) ∷ []); is_all = true }
unfolding computed parsed
url_0064 = refl

pub url_0066 : run Client (turns.Call (calls.Connect ((104 ∷ 116 ∷ 116 ∷ 112 ∷ 58 ∷ 47 ∷ 47 ∷ 117 ∷ 58 ∷ 112 ∷ 64 ∷ 97 ∷ 95 ∷ 98 ∷ 58 ∷ []), ([])) (lookups.Found (addresses.V4 16909060 5)) outcomes.Proceed) ∷ []) ≡ record { answers = (answer (replies.ConnectFailed (connects.InvalidUrl refusals.Scheme)) ([]) ∷ []); is_all = true }
unfolding computed parsed
url_0066 = refl

pub url_0067 : run Client (turns.Call (calls.Connect ((104 ∷ 116 ∷ 78 ∷ 112 ∷ 115 ∷ 58 ∷ 47 ∷ 47 ∷ 104 ∷ []), ([])) lookups.NotFound outcomes.Proceed) ∷ turns.Connected 1 1 10000 (facts.Limit 1200) ∷ turns.PeerUni ∷ turns.Bytes 3 (0 ∷ 4 ∷ 0 ∷ []) ∷ turns.Call calls.Handshake ∷ []) ≡ record { answers = (answer (replies.ConnectFailed (connects.InvalidUrl refusals.Scheme)) ([]) ∷ []); is_all = false }
unfolding computed parsed
url_0067 = refl

pub url_0068 : run Client (turns.Call (calls.Connect ((104 ∷ 116 ∷ 116 ∷ 112 ∷ 115 ∷ 58 ∷ 47 ∷ 47 ∷ 104 ∷ 58 ∷ 52 ∷ 52 ∷ 51 ∷ 51 ∷ 47 ∷ 112 ∷ 63 ∷ 113 ∷ []), ([])) (lookups.Fault (110 ∷ [])) outcomes.Proceed) ∷ turns.Connected 1 1 10000 (facts.Limit 1200) ∷ turns.PeerUni ∷ turns.Bytes 3 (0 ∷ 4 ∷ 0 ∷ []) ∷ turns.Call calls.Handshake ∷ []) ≡ record { answers = (answer (replies.ConnectFailed (connects.DnsLookup (110 ∷ []))) ([]) ∷ []); is_all = false }
unfolding computed parsed
url_0068 = refl

pub url_0069 : run Client (turns.Call (calls.Connect ((47 ∷ 58 ∷ 47 ∷ 47 ∷ 37 ∷ 51 ∷ 49 ∷ []), ([])) lookups.NotFound outcomes.Proceed) ∷ turns.Connected 1 1 10000 (facts.Limit 1200) ∷ turns.PeerUni ∷ turns.Bytes 3 (0 ∷ 4 ∷ 0 ∷ []) ∷ turns.Call calls.Handshake ∷ []) ≡ record { answers = (answer (replies.ConnectFailed (connects.InvalidUrl refusals.Parse)) ([]) ∷ []); is_all = false }
unfolding computed parsed
url_0069 = refl

pub url_0070 : run Client (turns.Call (calls.Connect ((104 ∷ 116 ∷ 116 ∷ 112 ∷ 115 ∷ 58 ∷ 47 ∷ 49 ∷ 50 ∷ 55 ∷ 46 ∷ 48 ∷ 46 ∷ 48 ∷ 46 ∷ 49 ∷ 47 ∷ []), ([])) (lookups.Fault (110 ∷ [])) outcomes.Proceed) ∷ turns.Connected 1 1 10000 (facts.Limit 1200) ∷ turns.PeerUni ∷ turns.Bytes 3 (0 ∷ 4 ∷ 0 ∷ []) ∷ turns.Call calls.Handshake ∷ []) ≡ record { answers = (answer replies.Pending (actions.Dial (addresses.V4 2130706433 443) (49 ∷ 50 ∷ 55 ∷ 46 ∷ 48 ∷ 46 ∷ 48 ∷ 46 ∷ 49 ∷ []) ∷ []) ∷ answer replies.Done (actions.Opened 2 ∷ actions.Send 2 (0 ∷ 4 ∷ 22 ∷ 1 ∷ 0 ∷ 7 ∷ 0 ∷ 8 ∷ 1 ∷ 51 ∷ 1 ∷ 171 ∷ 96 ∷ 55 ∷ 66 ∷ 1 ∷ 192 ∷ 0 ∷ 0 ∷ 0 ∷ 198 ∷ 113 ∷ 112 ∷ 106 ∷ 4 ∷ []) ∷ []) ∷ answer replies.Done ([]) ∷ answer replies.Done ([]) ∷ answer replies.Pending (actions.Opened 0 ∷ actions.Send 0 (1 ∷ 64 ∷ 88 ∷ 0 ∷ 0 ∷ 39 ∷ 3 ∷ 58 ∷ 97 ∷ 117 ∷ 116 ∷ 104 ∷ 111 ∷ 114 ∷ 105 ∷ 116 ∷ 121 ∷ 9 ∷ 49 ∷ 50 ∷ 55 ∷ 46 ∷ 48 ∷ 46 ∷ 48 ∷ 46 ∷ 49 ∷ 39 ∷ 0 ∷ 58 ∷ 109 ∷ 101 ∷ 116 ∷ 104 ∷ 111 ∷ 100 ∷ 7 ∷ 67 ∷ 79 ∷ 78 ∷ 78 ∷ 69 ∷ 67 ∷ 84 ∷ 37 ∷ 58 ∷ 112 ∷ 97 ∷ 116 ∷ 104 ∷ 1 ∷ 47 ∷ 39 ∷ 2 ∷ 58 ∷ 112 ∷ 114 ∷ 111 ∷ 116 ∷ 111 ∷ 99 ∷ 111 ∷ 108 ∷ 12 ∷ 119 ∷ 101 ∷ 98 ∷ 116 ∷ 114 ∷ 97 ∷ 110 ∷ 115 ∷ 112 ∷ 111 ∷ 114 ∷ 116 ∷ 39 ∷ 0 ∷ 58 ∷ 115 ∷ 99 ∷ 104 ∷ 101 ∷ 109 ∷ 101 ∷ 5 ∷ 104 ∷ 116 ∷ 116 ∷ 112 ∷ 115 ∷ []) ∷ []) ∷ []); is_all = true }
unfolding computed parsed
url_0070 = refl

pub url_0071 : run Client (turns.Call (calls.Connect ((58 ∷ 52 ∷ 121 ∷ 117 ∷ 120 ∷ 120 ∷ 36 ∷ []), ([])) (lookups.Found (addresses.V4 16909060 5)) outcomes.Proceed) ∷ turns.Connected 1 1 10000 (facts.Limit 1200) ∷ turns.PeerUni ∷ turns.Bytes 3 (0 ∷ 4 ∷ 0 ∷ []) ∷ turns.Call calls.Handshake ∷ []) ≡ record { answers = (answer (replies.ConnectFailed (connects.InvalidUrl refusals.Parse)) ([]) ∷ []); is_all = false }
unfolding computed parsed
url_0071 = refl

pub url_0072 : run Client (turns.Call (calls.Connect ((119 ∷ 115 ∷ 58 ∷ 47 ∷ 47 ∷ 117 ∷ 64 ∷ 49 ∷ 46 ∷ 50 ∷ 46 ∷ 51 ∷ 46 ∷ 52 ∷ 46 ∷ 53 ∷ 58 ∷ 47 ∷ 37 ∷ 122 ∷ 122 ∷ []), ([])) lookups.NotFound outcomes.Proceed) ∷ []) ≡ record { answers = (answer (replies.ConnectFailed (connects.InvalidUrl refusals.Parse)) ([]) ∷ []); is_all = true }
unfolding computed parsed
url_0072 = refl

pub url_0073 : run Client (turns.Call (calls.Connect ((104 ∷ 116 ∷ 116 ∷ 112 ∷ 115 ∷ 58 ∷ 47 ∷ 47 ∷ 104 ∷ 58 ∷ 52 ∷ 52 ∷ 51 ∷ 51 ∷ 47 ∷ 112 ∷ 63 ∷ 113 ∷ []), ([])) lookups.NotFound outcomes.Proceed) ∷ []) ≡ record { answers = (answer (replies.ConnectFailed connects.DnsNotFound) ([]) ∷ []); is_all = true }
unfolding computed parsed
url_0073 = refl

pub url_0074 : run Client (turns.Call (calls.Connect ((104 ∷ 116 ∷ 116 ∷ 112 ∷ 115 ∷ 58 ∷ 117 ∷ 58 ∷ 112 ∷ 64 ∷ 51 ∷ 48 ∷ 48 ∷ 58 ∷ []), ([])) (lookups.Found (addresses.V4 16909060 5)) outcomes.Proceed) ∷ []) ≡ record { answers = (answer replies.Pending (actions.Dial (addresses.V4 300 443) (48 ∷ 46 ∷ 48 ∷ 46 ∷ 49 ∷ 46 ∷ 52 ∷ 52 ∷ []) ∷ []) ∷ []); is_all = true }
unfolding computed parsed
url_0074 = refl

pub url_0075 : run Client (turns.Call (calls.Connect ((104 ∷ 116 ∷ 116 ∷ 112 ∷ 115 ∷ 58 ∷ 47 ∷ 47 ∷ 104 ∷ 58 ∷ 52 ∷ 91 ∷ 51 ∷ 51 ∷ 47 ∷ 112 ∷ 63 ∷ 113 ∷ []), ([])) (lookups.Fault (110 ∷ [])) outcomes.Proceed) ∷ turns.Connected 1 1 10000 (facts.Limit 1200) ∷ turns.PeerUni ∷ turns.Bytes 3 (0 ∷ 4 ∷ 0 ∷ []) ∷ turns.Call calls.Handshake ∷ []) ≡ record { answers = (answer (replies.ConnectFailed (connects.InvalidUrl refusals.Parse)) ([]) ∷ []); is_all = false }
unfolding computed parsed
url_0075 = refl

pub url_0076 : run Client (turns.Call (calls.Connect ((104 ∷ 116 ∷ 116 ∷ 112 ∷ 115 ∷ 58 ∷ 47 ∷ 47 ∷ 104 ∷ []), ([])) (lookups.Found (addresses.V4 16909060 5)) outcomes.Proceed) ∷ turns.Connected 1 1 10000 (facts.Limit 1200) ∷ turns.PeerUni ∷ turns.Bytes 3 (0 ∷ 4 ∷ 0 ∷ []) ∷ turns.Call calls.Handshake ∷ []) ≡ record { answers = (answer replies.Pending (actions.Dial (addresses.V4 16909060 5) (104 ∷ []) ∷ []) ∷ answer replies.Done (actions.Opened 2 ∷ actions.Send 2 (0 ∷ 4 ∷ 22 ∷ 1 ∷ 0 ∷ 7 ∷ 0 ∷ 8 ∷ 1 ∷ 51 ∷ 1 ∷ 171 ∷ 96 ∷ 55 ∷ 66 ∷ 1 ∷ 192 ∷ 0 ∷ 0 ∷ 0 ∷ 198 ∷ 113 ∷ 112 ∷ 106 ∷ 4 ∷ []) ∷ []) ∷ answer replies.Done ([]) ∷ answer replies.Done ([]) ∷ answer replies.Pending (actions.Opened 0 ∷ actions.Send 0 (1 ∷ 64 ∷ 80 ∷ 0 ∷ 0 ∷ 39 ∷ 3 ∷ 58 ∷ 97 ∷ 117 ∷ 116 ∷ 104 ∷ 111 ∷ 114 ∷ 105 ∷ 116 ∷ 121 ∷ 1 ∷ 104 ∷ 39 ∷ 0 ∷ 58 ∷ 109 ∷ 101 ∷ 116 ∷ 104 ∷ 111 ∷ 100 ∷ 7 ∷ 67 ∷ 79 ∷ 78 ∷ 78 ∷ 69 ∷ 67 ∷ 84 ∷ 37 ∷ 58 ∷ 112 ∷ 97 ∷ 116 ∷ 104 ∷ 1 ∷ 47 ∷ 39 ∷ 2 ∷ 58 ∷ 112 ∷ 114 ∷ 111 ∷ 116 ∷ 111 ∷ 99 ∷ 111 ∷ 108 ∷ 12 ∷ 119 ∷ 101 ∷ 98 ∷ 116 ∷ 114 ∷ 97 ∷ 110 ∷ 115 ∷ 112 ∷ 111 ∷ 114 ∷ 116 ∷ 39 ∷ 0 ∷ 58 ∷ 115 ∷ 99 ∷ 104 ∷ 101 ∷ 109 ∷ 101 ∷ 5 ∷ 104 ∷ 116 ∷ 116 ∷ 112 ∷ 115 ∷ []) ∷ []) ∷ []); is_all = true }
unfolding computed parsed
url_0076 = refl

pub url_0077 : run Client (turns.Call (calls.Connect ((72 ∷ 84 ∷ 84 ∷ 80 ∷ 83 ∷ 58 ∷ 47 ∷ 47 ∷ 47 ∷ 97 ∷ 64 ∷ 98 ∷ 64 ∷ 49 ∷ 46 ∷ 50 ∷ 46 ∷ 51 ∷ 46 ∷ 52 ∷ 46 ∷ 53 ∷ 58 ∷ 48 ∷ 54 ∷ 53 ∷ 53 ∷ 51 ∷ 53 ∷ 92 ∷ []), ([])) (lookups.Found (addresses.V4 16909060 5)) outcomes.Proceed) ∷ turns.Connected 1 1 10000 (facts.Limit 1200) ∷ turns.PeerUni ∷ turns.Bytes 3 (0 ∷ 4 ∷ 0 ∷ []) ∷ turns.Call calls.Handshake ∷ []) ≡ record { answers = (answer (replies.ConnectFailed (connects.InvalidUrl refusals.Parse)) ([]) ∷ []); is_all = false }
unfolding computed parsed
url_0077 = refl

pub url_0078 : run Client (turns.Call (calls.Connect ((104 ∷ 116 ∷ 116 ∷ 112 ∷ 115 ∷ 47 ∷ 47 ∷ 47 ∷ 47 ∷ []), ([])) (lookups.Fault (110 ∷ [])) outcomes.Proceed) ∷ []) ≡ record { answers = (answer (replies.ConnectFailed (connects.InvalidUrl refusals.Parse)) ([]) ∷ []); is_all = true }
unfolding computed parsed
url_0078 = refl

pub url_0079 : run Client (turns.Call (calls.Connect ((104 ∷ 116 ∷ 116 ∷ 112 ∷ 115 ∷ 58 ∷ 47 ∷ 47 ∷ 91 ∷ 58 ∷ 58 ∷ 49 ∷ 58 ∷ 58 ∷ 57 ∷ 57 ∷ 47 ∷ 120 ∷ 63 ∷ 121 ∷ 122 ∷ []), ([])) lookups.NotFound outcomes.Proceed) ∷ turns.Connected 1 1 10000 (facts.Limit 1200) ∷ turns.PeerUni ∷ turns.Bytes 3 (0 ∷ 4 ∷ 0 ∷ []) ∷ turns.Call calls.Handshake ∷ []) ≡ record { answers = (answer (replies.ConnectFailed (connects.InvalidUrl refusals.Parse)) ([]) ∷ []); is_all = false }
unfolding computed parsed
url_0079 = refl
