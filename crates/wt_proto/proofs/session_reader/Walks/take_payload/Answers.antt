use Rattle.std.proofs.Common.{arith}
use Rattle.wt_proto.proofs.SessionItems.{capsule-awaited, capsule-steady}
use Rattle.wt_proto.proofs.SessionFeedLaws.{payload-taken, settled-after}
use Rattle.wt_proto.proofs.session_reader.Walks.take_payload.Goals as goal

pub advance-requires-clause-steady : goal.advance-requires-clause-steady
advance-requires-clause-steady c = capsule-steady

pub advance-requires-clause-awaited : goal.advance-requires-clause-awaited
advance-requires-clause-awaited c = capsule-awaited

pub returns-clause-advances : goal.returns-clause-advances
returns-clause-advances c =
    payload-taken _ _ c.args.piece.now c.min-count.result c.in_ok-taken.taken c.requires.placed.settled c.requires.goes (omega (arith, c.min-count.ensures)) c.in_ok-taken.ensures.advances

pub returns-clause-placed : goal.returns-clause-placed
returns-clause-placed c = record {
  headers = c.requires.placed.headers;
  capsules = c.in_ok-taken.ensures.placed;
  settled = settled-after _ _ c.args.piece.now c.in_ok-taken.taken c.requires.placed.settled
      (payload-taken _ _ c.args.piece.now c.min-count.result c.in_ok-taken.taken c.requires.placed.settled c.requires.goes (omega (arith, c.min-count.ensures)) c.in_ok-taken.ensures.advances);
}
