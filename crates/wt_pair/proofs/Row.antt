-- A worked example, computed: a connect, both SETTINGS, a session, and a stream of which one byte is delivered and read.
use Rattle.std.specs.Prelude.{[], ◌∷◌, ◌≡◌, List, None, Some, codes, false, true}
use Rattle.std.proofs.Common.{refl}
use Rattle.wt_meaning.proofs.Recorded.{computed, parsed}
use Rattle.wt_message.specs.FixedBytes.{local_control_bytes}
use Rattle.wt_meaning.specs.Rows.{answer}
use Rattle.wt_pair.specs.declared.answer.PairAnswer.{PairAnswer}
use Rattle.wt_pair.specs.declared.answer.PairAnswer.TheVariants as pair_answers
use Rattle.wt_pair.specs.declared.event.PairEvent.{PairEvent}
use Rattle.wt_pair.specs.declared.event.PairEvent.TheVariants as pair_events
use Rattle.wt_pair.specs.declared.event.PairFacts.{PairFacts}
use Rattle.wt_pair.specs.Pair.{run_pair}
use Rattle.wt_wire.specs.HeaderList.{Fields}
use Rattle.wt_turn.specs.declared.action.Action.TheVariants as actions
use Rattle.wt_turn.specs.declared.call.Call.TheVariants as calls
use Rattle.wt_turn.specs.declared.datagram_fact.DatagramFact.TheVariants as facts
use Rattle.wt_turn.specs.declared.reply.Reply.TheVariants as replies
use Rattle.wt_wire.specs.declared.addr.Addr.TheVariants as addresses
use Rattle.wt_wire.specs.declared.lookup.ConnectOutcome.TheVariants as outcomes
use Rattle.wt_wire.specs.declared.lookup.Lookup.TheVariants as lookups
use Rattle.wt_wire.specs.declared.side.Side.TheVariants.{Client, Server}

-- the request's fields, in order
abbrev row_request : Fields
row_request = (codes ":authority", codes "h") ∷ (codes ":method", codes "CONNECT") ∷ (codes ":path", codes "/") ∷ (codes ":protocol", codes "webtransport")
    ∷ (codes ":scheme", codes "https") ∷ []

abbrev row_facts : PairFacts
row_facts = record { uni = 9; bi = 9; credit = 1000; datagrams = facts.Limit 1200 }

abbrev row_events : List PairEvent
row_events = pair_events.Call Client (calls.Connect (codes "https://h", []) (lookups.Found (addresses.V4 0x7f000001 443)) outcomes.Proceed)
    ∷ pair_events.Deliver Server 0 0
    ∷ pair_events.Deliver Client 0 0
    ∷ pair_events.Deliver Client 0 0
    ∷ pair_events.Deliver Client 0 25
    ∷ pair_events.Deliver Server 0 0
    ∷ pair_events.Deliver Server 0 25
    ∷ pair_events.Call Client calls.Handshake
    ∷ pair_events.Deliver Server 0 0
    ∷ pair_events.Deliver Server 0 83
    ∷ pair_events.Call Server calls.Incoming
    ∷ pair_events.Call Server (calls.Accept [])
    ∷ pair_events.Deliver Client 0 17
    ∷ pair_events.Call Client calls.Handshake
    ∷ pair_events.Call Client (calls.OpenUni None)
    ∷ pair_events.Call Client (calls.PollOpening 6)
    ∷ pair_events.Call Client (calls.WriteAll 6 (0x68 ∷ 0x69 ∷ []))
    ∷ pair_events.Deliver Server 0 0
    ∷ pair_events.Deliver Server 0 3
    ∷ pair_events.Deliver Server 0 1
    ∷ pair_events.Call Server (calls.AcceptUni None)
    ∷ pair_events.Call Server (calls.Read 6 9)
    ∷ []

abbrev row_answers : List PairAnswer
row_answers = pair_answers.Turn (answer replies.Pending (actions.Dial (addresses.V4 0x7f000001 443) (codes "h") ∷ []))
    ∷ pair_answers.Turn (answer replies.Done (actions.Opened 3 ∷ actions.Send 3 local_control_bytes ∷ []))
    ∷ pair_answers.Turn (answer replies.Done (actions.Opened 2 ∷ actions.Send 2 local_control_bytes ∷ []))
    ∷ pair_answers.Turn (answer replies.Done [])
    ∷ pair_answers.Turn (answer replies.Done [])
    ∷ pair_answers.Turn (answer replies.Done [])
    ∷ pair_answers.Turn (answer replies.Done [])
    ∷ pair_answers.Turn (answer replies.Pending (actions.Opened 0 ∷ actions.Send 0 (1 ∷ 64 ∷ 80 ∷ 0 ∷ 0 ∷ 39 ∷ 3 ∷ 58 ∷ 97 ∷ 117 ∷ 116 ∷ 104 ∷ 111 ∷ 114 ∷ 105 ∷ 116 ∷ 121 ∷ 1 ∷ 104 ∷ 39 ∷ 0 ∷ 58 ∷ 109 ∷ 101 ∷ 116 ∷ 104 ∷ 111 ∷ 100 ∷ 7 ∷ 67 ∷ 79 ∷ 78 ∷ 78 ∷ 69 ∷ 67 ∷ 84 ∷ 37 ∷ 58 ∷ 112 ∷ 97 ∷ 116 ∷ 104 ∷ 1 ∷ 47 ∷ 39 ∷ 2 ∷ 58 ∷ 112 ∷ 114 ∷ 111 ∷ 116 ∷ 111 ∷ 99 ∷ 111 ∷ 108 ∷ 12 ∷ 119 ∷ 101 ∷ 98 ∷ 116 ∷ 114 ∷ 97 ∷ 110 ∷ 115 ∷ 112 ∷ 111 ∷ 114 ∷ 116 ∷ 39 ∷ 0 ∷ 58 ∷ 115 ∷ 99 ∷ 104 ∷ 101 ∷ 109 ∷ 101 ∷ 5 ∷ 104 ∷ 116 ∷ 116 ∷ 112 ∷ 115 ∷ []) ∷ []))
    ∷ pair_answers.Turn (answer replies.Done [])
    ∷ pair_answers.Turn (answer replies.Done [])
    ∷ pair_answers.Turn (answer (replies.Request 0 row_request) [])
    ∷ pair_answers.Turn (answer (replies.Session 0) (actions.Send 0 (1 ∷ 15 ∷ 0 ∷ 0 ∷ 39 ∷ 0 ∷ 58 ∷ 115 ∷ 116 ∷ 97 ∷ 116 ∷ 117 ∷ 115 ∷ 3 ∷ 50 ∷ 48 ∷ 48 ∷ []) ∷ []))
    ∷ pair_answers.Turn (answer replies.Done [])
    ∷ pair_answers.Turn (answer (replies.Session 0) [])
    ∷ pair_answers.Turn (answer (replies.Opening 6) (actions.Opened 6 ∷ []))
    ∷ pair_answers.Turn (answer (replies.SendReady 6) (actions.Send 6 (0x40 ∷ 0x54 ∷ 0 ∷ []) ∷ []))
    ∷ pair_answers.Turn (answer replies.AllWritten (actions.Send 6 (0x68 ∷ 0x69 ∷ []) ∷ []))
    ∷ pair_answers.Turn (answer replies.Done [])
    ∷ pair_answers.Turn (answer replies.Done [])
    ∷ pair_answers.Turn (answer replies.Done [])
    ∷ pair_answers.Turn (answer (replies.Uni 6) [])
    ∷ pair_answers.Turn (answer (replies.Read (Some (0x68 ∷ []))) [])
    ∷ []

row : ((run_pair row_facts row_events).answers ≡ row_answers) × ((run_pair row_facts row_events).is_all ≡ true)
unfolding computed parsed
row = (refl, refl)

-- before the connect nothing waits: the first event is refused
refused : ((run_pair row_facts (pair_events.Deliver Server 0 0 ∷ [])).answers ≡ []) × ((run_pair row_facts (pair_events.Deliver Server 0 0 ∷ [])).is_all ≡ false)
refused = (refl, refl)
