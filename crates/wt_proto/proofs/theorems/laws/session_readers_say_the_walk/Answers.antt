use Rattle.wt_proto.proofs.SessionPieces.{fed_alike, read_few}
use Rattle.wt_proto.proofs.SessionReaderLaws.{session_reader_says}
use Rattle.wt_proto.proofs.theorems.laws.session_readers_say_the_walk.Goals as goal

pub returns-clause-says : goal.returns-clause-says
returns-clause-says c = session_reader_says

pub returns-clause-cutting : goal.returns-clause-cutting
returns-clause-cutting c = fed_alike

pub returns-clause-few : goal.returns-clause-few
returns-clause-few c = read_few
