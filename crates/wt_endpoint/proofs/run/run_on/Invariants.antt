use Rattle.std.proofs.Common.{◌≡◌, take}
use Rattle.wt_endpoint.proofs.run.run_on.Given as goal
use Rattle.wt_endpoint.specs.Connections.{StandsFor}
use Rattle.wt_endpoint.specs.Endpoints.{endpoint_replies, no_connections}

abbrev pub invariant-loop-index : goal.invariant-loop-index
invariant-loop-index l = StandsFor l.fn.side l.connections (take l.index l.turns) × (l.answers ≡ endpoint_replies l.fn.side no_connections (take l.index l.turns))
