use Rattle.wt_proto.proofs.SessionPieces.{fed_joined}
use Rattle.wt_proto.proofs.SessionFeedLaws.{fed-nothing-more}
use Rattle.wt_proto.proofs.read.SessionReaderReader.take.Goals as goal

pub returns-clause-joins : goal.returns-clause-joins
returns-clause-joins g c xs ys = fed_joined xs ys _

pub returns-clause-none : goal.returns-clause-none
returns-clause-none g c = fed-nothing-more _
