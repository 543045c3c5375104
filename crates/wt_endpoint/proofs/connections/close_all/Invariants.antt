use Rattle.std.proofs.Common.{◌≡◌, List, ℕ}
use Rattle.wt_endpoint.proofs.Closing.{ClosedSoFar}
use Rattle.wt_endpoint.proofs.connections.close_all.Given as goal
use Rattle.wt_endpoint.specs.Connections.{AllKeep}
use Rattle.wt_endpoint.specs.Endpoints.{closing}
use Rattle.wt_meaning.specs.History.{History}
use Rattle.wt_wire.specs.declared.side.Side.{Side}

abbrev pub invariant-loop-index : goal.invariant-loop-index
invariant-loop-index l = (side : Side) (hs : List History) (code : ℕ) (reason : List ℕ) → l.turn ≡ closing code reason → AllKeep side l.initial.cores hs
    → ClosedSoFar side l.cores l.closings l.index l.turn hs
