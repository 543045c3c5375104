use Rattle.std.proofs.Common.{◌+◌, ◌≡◌, ◌≤◌, drop}
use Rattle.wt_kept.specs.Counting.{reads_left}
use Rattle.wt_kept.specs.Looking.{read_each, read_sessions}
use Rattle.wt_peer_streams.specs.Living.{some_ids}
use Rattle.wt_peer_streams.proofs.dispatched.Dispatched.read_sessions.Given as goal

abbrev pub invariant-loop-place : goal.invariant-loop-place
invariant-loop-place g l = record {
  left : read_each (some_ids (drop l.place-index l.place-items)) (record { transport = l.t; dispatched = l.self }) ≡ read_sessions (record { transport = l.fn.t; dispatched = l.fn.self });
  steps : l.steps + reads_left (record { transport = l.t; dispatched = l.self }) ≤ l.fn.steps + reads_left (record { transport = l.fn.t; dispatched = l.fn.self });
}
