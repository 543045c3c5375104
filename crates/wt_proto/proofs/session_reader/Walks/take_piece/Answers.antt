use Rattle.std.proofs.lemmas.List.{take_rest}
use Rattle.wt_proto.proofs.SessionPieces.{advances_none, advances_then}
use Rattle.wt_proto.proofs.session_reader.Walks.take_piece.Goals as goal

pub loop-taken-init : goal.loop-taken-init
loop-taken-init c = record { advances = advances_none _ _; placed = c.requires }

pub loop-taken-preserved : goal.loop-taken-preserved
loop-taken-preserved c = record {
  advances = advances_then _ _ _ _ _ _ c.loop-taken.invariant.advances (rw take_rest at c.in-Ok.ensures.advances);
  placed = c.in-Ok.ensures.placed;
}
