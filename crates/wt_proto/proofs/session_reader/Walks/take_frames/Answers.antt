use Rattle.std.proofs.Common.{sym, subst}
use Rattle.wt_proto.specs.SessionWalk.{capsule_decides}
use Rattle.wt_proto.specs.Cursor.{IsPlaced}
use Rattle.wt_proto.proofs.SessionItems.{header-awaited, header-steady}
use Rattle.wt_proto.proofs.SessionFeedLaws.{frames-taken, settled-after}
use Rattle.wt_proto.proofs.session_reader.Walks.take_frames.Goals as goal

pub advance-requires-clause-steady : goal.advance-requires-clause-steady
advance-requires-clause-steady c = header-steady

pub advance-requires-clause-awaited : goal.advance-requires-clause-awaited
advance-requires-clause-awaited c = header-awaited

pub returns-clause-advances : goal.returns-clause-advances
returns-clause-advances c =
    frames-taken _ _ _ c.args.piece.now c.in_ok-taken.taken c.requires.placed.settled c.requires.goes c.requires.between c.in_ok-taken.ensures.advances c.enter_payload.ensures.value

pub returns-clause-placed : goal.returns-clause-placed
returns-clause-placed c = record {
  headers = c.enter_payload.ensures.placed;
  capsules = subst (λ k. IsPlaced capsule_decides k) (sym c.enter_payload.ensures.capsules) c.requires.placed.capsules;
  settled = settled-after _ _ c.args.piece.now c.in_ok-taken.taken c.requires.placed.settled
      (frames-taken _ _ _ c.args.piece.now c.in_ok-taken.taken c.requires.placed.settled c.requires.goes c.requires.between c.in_ok-taken.ensures.advances c.enter_payload.ensures.value);
}
