use Rattle.std.proofs.Common.{sym, ap, ◌∙◌}
use Rattle.wt_wire.specs.Varint.{varint_at}
use Rattle.wt_seam.specs.NextFrame.{is_signal_type}
use Rattle.wt_seam.proofs.NextFrameLaws.{frame_steady}
use Rattle.wt_seam.proofs.SessionFrames.{waits_on}
use Rattle.wt_seam.proofs.next_frame.ItemReader+NextFrame.for_session.Goals as goal

pub invariant_of-result-2 : goal.invariant_of-result-2
invariant_of-result-2 c = record {
  steady = frame_steady;
  proper = record {
    waits = waits_on c.self.inside.state c.self.inside.kept.items c.self.invariant.proper.waits
        (ap (λ xs. is_signal_type (varint_at xs)) (sym c.as_slice.ensures.value) ∙ (sym c.begins_with_signal.ensures ∙ c.if-begins_with_signal.false));
    idle = c.self.invariant.proper.idle;
  };
}
