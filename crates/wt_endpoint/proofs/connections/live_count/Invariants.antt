use Rattle.std.proofs.Common.{◌≡◌, ◌≤◌, take}
use Rattle.std.specs.Prelude.{count_by}
use Rattle.wt_endpoint.proofs.connections.live_count.Given as goal
use Rattle.wt_endpoint.specs.Connections.{is_live_now}

abbrev pub invariant-loop-index : goal.invariant-loop-index
invariant-loop-index l = (l.count ≡ count_by is_live_now (take l.index l.cores)) × (l.count ≤ l.index)
