use Rattle.std.proofs.Common.{◌≡◌, ◌^◌, ◌-◌, min, take}
use Rattle.wt_transport.specs.StreamState.{piece_count}
use Rattle.wt_transport.proofs.transport.Transport.pieces.Given as goal

abbrev pub invariant-loop-row : goal.invariant-loop-row
invariant-loop-row l = l.count ≡ min (piece_count (take l.row-index l.rows)) (2 ^ 64 - 1)
