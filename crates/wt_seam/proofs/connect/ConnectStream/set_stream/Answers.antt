use Rattle.wt_seam.proofs.SessionReadOn.{was-nothing}
use Rattle.wt_seam.proofs.connect.ConnectStream.set_stream.Goals as goal

pub returns-clause-read : goal.returns-clause-read
returns-clause-read c = was-nothing _ c.for_session.ensures.value
