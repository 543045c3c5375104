-- For worked rows: the verdict on what a server recorded.
use Rattle.std.specs.Prelude.{List}
use Rattle.wt_check.specs.Records.{paired}
use Rattle.wt_check.specs.Verdict.{Verdict, verdict_on}
use Rattle.wt_turn.specs.declared.answer.Answer.{Answer}
use Rattle.wt_turn.specs.declared.turn.Turn.{Turn}
use Rattle.wt_wire.specs.declared.side.Side.TheVariants.{Server}
use Rattle.wt_turn.specs.declared.datagram_fact.DatagramFact.TheVariants as facts
use Rattle.wt_turn.specs.declared.turn.Turn.TheVariants as turns

-- the connection came: 9 streams of each kind, 1,000 bytes on each, no datagrams
abbrev pub connected : Turn
connected = turns.Connected 9 9 1000 facts.Disabled

-- the verdict on a server's record of these turns and answers
abbrev pub of_server : List Turn → List Answer → Verdict
of_server all answers = verdict_on (record { side = Server; pairs = paired all answers })
