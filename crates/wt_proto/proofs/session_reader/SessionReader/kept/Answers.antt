use Rattle.std.proofs.Common.{arith}
use Rattle.wt_proto.proofs.SessionPieces.{settled_few}
use Rattle.wt_proto.proofs.session_reader.SessionReader.kept.Goals as goal

pub returns-clause-few : goal.returns-clause-few
returns-clause-few c = let few = settled_few _ c.self.invariant.placed.settled in omega (arith, few.0, few.1, c.as_slice.ensures.len, c.as_slice-2.ensures.len)
