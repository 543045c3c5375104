use Rattle.std.proofs.Common.{◌∙◌}
use Rattle.wt_proto.proofs.SessionReaderLaws.{session_reader_says}
use Rattle.wt_proto.proofs.session_reader.SessionReader.into_outcome.Goals as goal

pub returns-clause-read : goal.returns-clause-read
returns-clause-read c bytes end has = c.into_current.ensures ∙ session_reader_says _ bytes end has
