use Rattle.std.proofs.Common.{sym, ap}
use Rattle.wt_proto.specs.Cursor.{progress_of}
use Rattle.wt_proto.specs.SessionReading.{unfinished_in}
use Rattle.wt_proto.specs.WalkProgress.{WalkProgress}
use Rattle.wt_proto.specs.SessionReader.{HeaderWalk}
use Rattle.wt_wire.specs.declared.side.StreamEnd.TheVariants.{Running}
use Rattle.wt_proto.proofs.SessionReaderLaws.{start-follows}
use Rattle.wt_proto.proofs.SessionFeedLaws.{placed-none, read-none}
use Rattle.wt_proto.proofs.SessionItems.{capsule-steady, header-steady}
use Rattle.wt_proto.proofs.session_reader.SessionReader.for_session.Goals as goal

pub invariant_of-result : goal.invariant_of-result
invariant_of-result c = record {
  placed = record {
    headers = placed-none _ header-steady tt _ c.at_item.ensures.progress c.at_item.ensures.wanted;
    capsules = placed-none _ capsule-steady tt _ c.at_item-2.ensures.progress c.at_item-2.ensures.wanted;
    settled = rw (c.at_item.ensures.progress, c.at_item-2.ensures.progress) start-follows.settled;
  };
  waiting = ap (λ (h : WalkProgress (Unit {0}) HeaderWalk). unfinished_in (record { headers = h; data_left = 0; capsules = progress_of c.at_item-2.result; end = Running })) (sym c.at_item.ensures.progress);
}

pub returns-clause-read : goal.returns-clause-read
returns-clause-read c = rw (c.at_item.ensures.progress, c.at_item-2.ensures.progress) read-none
