use Rattle.std.proofs.Common.{◌≡◌, ◌^◌, ◌-◌, min, take}
use Rattle.wt_transport.specs.StreamState.{pieces_in}
use Rattle.wt_transport.proofs.row.Row.pieces.Given as goal

abbrev pub invariant-loop-stream : goal.invariant-loop-stream
invariant-loop-stream l = l.count ≡ min (pieces_in (take l.stream-index l.stream-items)) (2 ^ 64 - 1)
