use Rattle.std.proofs.Common.{◌≡◌, ◌-◌, length}
use Rattle.wt_proto.specs.WalkProgress.{Advances}
use Rattle.wt_transport.specs.Step.{unread_now}
use Rattle.wt_seam.specs.Reading.{after_taking}
use Rattle.wt_seam.proofs.item_reader.ItemReader.take_unread.Given as goal

abbrev pub invariant-loop-consumed : goal.invariant-loop-consumed
invariant-loop-consumed g l = record {
  advances : Advances g.G.Grammar.decides l.fn.self l.self (unread_now l.fn.t l.id) l.consumed;
  state : l.t ≡ after_taking l.fn.t l.id l.consumed;
  limit : l.unread ≡ length (unread_now l.fn.t l.id);
}

abbrev pub decreases-loop-consumed : goal.decreases-loop-consumed
decreases-loop-consumed g l = l.unread - l.consumed
