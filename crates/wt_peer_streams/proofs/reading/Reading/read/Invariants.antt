use Rattle.std.proofs.Common.{◌≡◌, length}
use Rattle.wt_kept.specs.Counting.{CountsRead}
use Rattle.wt_transport.specs.Step.{unread_now}
use Rattle.wt_peer_streams.proofs.ReadLoop.{ReadSoFar}
use Rattle.wt_peer_streams.proofs.reading.Reading.read.Given as goal

abbrev pub invariant-loop-self : goal.invariant-loop-self
invariant-loop-self g l = record {
  so_far : ReadSoFar g.R.Reader.is_final g.R.Reader.fed l.fn.self.id l.fn.self.reader l.fn.t l.self.reader l.t;
  stream : l.self.id ≡ l.fn.self.id;
  steps : CountsRead g.R.Reader.is_final l.fn.self.id l.fn.t (record { reader = l.self.reader; transport = l.t }) l.fn.steps l.steps;
}

abbrev pub decreases-loop-self : goal.decreases-loop-self
decreases-loop-self g l = length (unread_now l.t l.self.id)
