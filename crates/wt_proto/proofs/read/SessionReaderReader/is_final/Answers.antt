use Rattle.wt_proto.proofs.SessionPieces.{fed_joined}
use Rattle.wt_proto.proofs.SessionFeedLaws.{fed-nothing-more}
use Rattle.wt_proto.proofs.read.SessionReaderReader.is_final.Goals as goal

pub returns-clause-joins : goal.returns-clause-joins
returns-clause-joins c xs ys = fed_joined xs ys _

pub returns-clause-none : goal.returns-clause-none
returns-clause-none c = fed-nothing-more _
