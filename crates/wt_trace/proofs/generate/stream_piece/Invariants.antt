use Rattle.std.proofs.Common.{◌≡◌, ◌-◌, [], ◌∷◌, ◌++◌, replicate}
use Rattle.wt_trace.specs.Generate.{counted_bytes}
use Rattle.wt_trace.proofs.generate.stream_piece.Given as goal

-- the header, the bytes at the places so far, and zeros at those after them
abbrev pub invariant-loop-index : goal.invariant-loop-index
invariant-loop-index l = l.bytes.items ≡ (0x40 ∷ 0x54 ∷ 0x00 ∷ []) ++ counted_bytes l.number l.index ++ replicate (l.count - l.index) 0
