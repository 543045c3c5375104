use Rattle.wt_proto.proofs.SessionPieces.{advances_none}
use Rattle.wt_proto.proofs.session_reader.SessionReader.take_piece.Goals as goal

pub returns-then-is_over-clause-advances : goal.returns-then-is_over-clause-advances
returns-then-is_over-clause-advances c = advances_none _ _
