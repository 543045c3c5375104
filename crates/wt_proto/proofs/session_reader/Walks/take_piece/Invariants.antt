use Rattle.std.proofs.Common.{length, ◌-◌}
use Rattle.wt_proto.specs.SessionReading.{IsSessionPlaced, session_value}
use Rattle.wt_proto.specs.SessionReader.{SessionAdvances}
use Rattle.wt_proto.proofs.session_reader.Walks.take_piece.Given as goal

abbrev pub invariant-loop-taken : goal.invariant-loop-taken
invariant-loop-taken l = record {
  advances : SessionAdvances (session_value l.fn.self) (session_value l.self) l.piece l.taken;
  placed : IsSessionPlaced l.self;
}

abbrev pub decreases-loop-taken : goal.decreases-loop-taken
decreases-loop-taken l = length l.piece - l.taken
