use Rattle.std.proofs.Common.{◌≡◌, ◌-◌, ◌++◌, length, min, take, drop}
use Rattle.std.specs.List.{concat}
use Rattle.wt_transport.proofs.unread.copy_pieces.Given as goal

abbrev pub invariant-loop-index : goal.invariant-loop-index
invariant-loop-index l = record {
  offset : l.offset ≡ min (length l.fn.buffer) (length (concat (take l.index l.pieces.items)));
  bytes : l.buffer ≡ take l.offset (concat (take l.index l.pieces.items)) ++ drop l.offset l.fn.buffer;
}

abbrev pub decreases-loop-index : goal.decreases-loop-index
decreases-loop-index l = length l.pieces.items - l.index
