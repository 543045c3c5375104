use Rattle.std.proofs.Common.{◌≡◌, length}
use Rattle.wt_transport.specs.Pieces.{AreFilled, skip}
use Rattle.wt_transport.proofs.unread.skip_bytes.Given as goal

abbrev pub invariant-loop-left : goal.invariant-loop-left
invariant-loop-left l = record {
  rest : skip l.left l.pieces.items ≡ skip l.count l.fn.pieces.items;
  filled : AreFilled l.pieces.items;
}

abbrev pub decreases-loop-left : goal.decreases-loop-left
decreases-loop-left l = length l.pieces.items
