-- The streams that the peer opened while the connection was open are among all that it opened.
use Rattle.std.proofs.Common.{arith}
use Rattle.std.specs.Prelude.{[], ◌∷◌, ◌≤◌, Bool, false, true, ℕ}
use Rattle.wt_turn.specs.Streams.{one_more_if, peer_count, peer_opens}
use Rattle.wt_turn.specs.Log.{Log, Reported, ReportedLate, all_events_of, events_of}
use Rattle.wt_wire.specs.declared.side.Side.{Side}

more-than : (b : Bool) (n m : ℕ) → n ≤ m → n ≤ one_more_if b m
more-than true n m le = omega arith
more-than false n m le = le

both-more : (b : Bool) (n m : ℕ) → n ≤ m → one_more_if b n ≤ one_more_if b m
both-more true n m le = omega arith
both-more false n m le = le

pub events-among : (side : Side) (kind : ℕ) (log : Log) → peer_count side (events_of log) kind ≤ peer_count side (all_events_of log) kind
events-among side kind [] = omega arith
events-among side kind (Reported e ∷ log) = both-more (peer_opens side kind e) _ _ (events-among side kind log)
events-among side kind (ReportedLate e ∷ log) = more-than (peer_opens side kind e) _ _ (events-among side kind log)
events-among side kind (_ ∷ log) = events-among side kind log
