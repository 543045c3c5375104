use Rattle.std.proofs.Common.{◌≡◌, ℕ, [], false, length, ◌+◌}
use Rattle.std.specs.Prelude.{if◌then◌else◌}
use Rattle.wt_transport.specs.Step.{unread_now}
use Rattle.wt_seam.specs.ReadingAll.{ReadsSome}
use Rattle.wt_seam.proofs.reading.read_pieces.Given as goal

abbrev pub invariant-loop-goes : goal.invariant-loop-goes
invariant-loop-goes g l = record {
  some : (count : ℕ) × ReadsSome g.R.Reader.fed l.fn.reader l.reader l.fn.t l.t l.id count;
  none : l.goes ≡ false → unread_now l.t l.id ≡ [];
}

abbrev pub decreases-loop-goes : goal.decreases-loop-goes
decreases-loop-goes g l = length (unread_now l.t l.id) + (if l.goes then 1 else 0)
