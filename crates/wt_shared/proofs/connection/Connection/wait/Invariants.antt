use Rattle.std.proofs.Common.{◌≡◌}
use Rattle.wt_shared.specs.Waiting.{HasWaited}
use Rattle.wt_shared.proofs.connection.Connection.wait.Given as goal

-- all entries since the call began are Pending, and the gate hasn't given up
abbrev pub invariant-loop : goal.invariant-loop
invariant-loop g l = record { waited : HasWaited l.call l.fn.self l.self; same : g.G.Gate.refused l.gate ≡ g.G.Gate.refused l.fn.gate }
