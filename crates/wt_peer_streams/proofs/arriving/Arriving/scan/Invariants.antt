use Rattle.std.proofs.Common.{◌*◌, ◌+◌, ◌-◌, ◌≤◌, length}
use Rattle.wt_kept.specs.Arriving.{arrived_count}
use Rattle.wt_kept.specs.Counting.{scan_left}
use Rattle.wt_peer_streams.proofs.ScanSoFar.{SoFar}
use Rattle.wt_peer_streams.specs.Scanning.{header_rules}
use Rattle.wt_peer_streams.proofs.arriving.Arriving.scan.Given as goal

abbrev pub invariant-loop-self : goal.invariant-loop-self
invariant-loop-self g l = record {
  so_far : SoFar (header_rules g.R.HeaderReader.start g.R.Reader.fed g.R.Reader.ended g.R.Reader.said g.R.Reader.is_final) l.fn.self (record { transport = l.fn.t; dispatched = l.fn.to }) l.index l.self (record { transport = l.t; dispatched = l.to });
  steps : l.steps + scan_left l.self (record { transport = l.t; dispatched = l.to }) ≤ l.fn.steps + scan_left l.fn.self (record { transport = l.fn.t; dispatched = l.fn.to });
}

abbrev pub decreases-loop-self : goal.decreases-loop-self
decreases-loop-self g l = 2 * (arrived_count l.fn.t l.fn.self - l.self.next) + (length l.self.reading - l.index)
