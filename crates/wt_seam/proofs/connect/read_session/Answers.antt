use Rattle.wt_seam.proofs.SessionReadOn.{session-stays}
use Rattle.wt_seam.proofs.connect.read_session.Goals as goal

pub read_all-requires : goal.read_all-requires
read_all-requires c = session-stays c.args.reader.now
