use Rattle.std.proofs.Common.{◌-◌, length}
use Rattle.std.specs.Prelude.{◌==◌}
use Rattle.wt_peer_streams.proofs.Walking.{IsSplit}
use Rattle.wt_peer_streams.proofs.window.split.Given as goal

abbrev pub invariant-loop-index : goal.invariant-loop-index
invariant-loop-index g l = IsSplit (λ (x : g.row.T.Denot). g.T.Named.names x == l.session) l.fn.from.items l.fn.part.items l.from.items l.part.items l.index

abbrev pub decreases-loop-index : goal.decreases-loop-index
decreases-loop-index g l = length l.from.items - l.index
