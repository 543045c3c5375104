-- The record of a lawful list is accepted.
use Rattle.std.specs.Prelude.{[], ◌≡◌, List}
use Rattle.wt_check.proofs.Along.{accepted-from}
use Rattle.wt_check.proofs.OfAccepts.{of_accepts}
use Rattle.wt_check.proofs.OfDatagrams.{of_datagrams}
use Rattle.wt_check.proofs.OfReads.{of_reads}
use Rattle.wt_check.proofs.OfSends.{of_sends}
use Rattle.wt_check.proofs.OfSessions.{of_sessions}
use Rattle.wt_check.proofs.OfTurns.{of_turns}
use Rattle.wt_check.specs.Records.{recorded}
use Rattle.wt_check.specs.Verdict.{Accepted, verdict_on}
use Rattle.wt_promise.specs.Promise.{AllLawful}
use Rattle.wt_turn.specs.declared.turn.Turn.{Turn}
use Rattle.wt_wire.specs.declared.side.Side.{Side}

pub accepted : (side : Side) (all : List Turn) → AllLawful side [] all → verdict_on (recorded side all) ≡ Accepted
accepted side all l = accepted-from side [] 0 (recorded side all).pairs (of_turns side all l) (of_sessions side all l) (of_accepts side all l) (of_reads side all l) (of_datagrams side all l) (of_sends side all l)
