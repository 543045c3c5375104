-- What reading on in a stream leads to, by the tie.
use Rattle.std.proofs.Common.{◌≡◌, List, drop, false, length, ℕ}
use Rattle.std.specs.Prelude.{◌==◌, ◌⊎◌}
use Rattle.wt_follows.specs.Tie.{ReaderAt}
use Rattle.wt_kept.specs.Readers.{ReaderRules, read_on}
use Rattle.wt_transport.specs.State.{Refines, TransportState}
use Rattle.wt_turn.specs.Reports.{end_of, is_running}
use Rattle.wt_turn.specs.Streams.{contents}
use Rattle.wt_turn.specs.Unread.{AtOffset, ReadPosition}
use Rattle.wt_turn.specs.Log.{Log, events_of}
use Rattle.wt_turn.specs.declared.action.Action.{Action}
use Rattle.wt_wire.specs.declared.side.Side.{Side}
use Rattle.wt_wire.specs.declared.side.StreamEnd.{StreamEnd}

-- The reader says what the walk over all that came and the end says; what it took before it learned the end is where the transport is,
-- and it learns the end where it took all; where what it says isn't final it learned none, and all that came is read; other streams are read as before.
pub record ReadsTo {V O : Type 0} (w : ReaderRules V O) (walk_of : List ℕ → StreamEnd → O) (side : Side) (t : TransportState) (log whole : Log) (position : ℕ → ReadPosition) (uncollected : List Action) (k : ℕ) (r : V) (offset : ℕ) : Type 0 where
  pub position_then : ℕ → ReadPosition
  pub elsewhere : (j : ℕ) → (k == j) ≡ false → position_then j ≡ position j
  pub transport : Refines side (read_on w k r t).transport whole position_then uncollected
  pub says : w.outcome (read_on w k r t).reader ≡ walk_of (drop offset (contents log k)) (end_of (events_of log) k)
  pub front : V
  pub at_front : ReaderAt w front offset (contents log k) (position_then k)
  pub noted : ((read_on w k r t).reader ≡ front) ⊎ (((read_on w k r t).reader ≡ w.ended (end_of (events_of log) k) front) × (is_running (end_of (events_of log) k) ≡ false) × (position_then k ≡ AtOffset (length (contents log k))))
  pub no_end : w.has_said (read_on w k r t).reader ≡ false → (read_on w k r t).reader ≡ front
  pub read_all : w.has_said (read_on w k r t).reader ≡ false → position_then k ≡ AtOffset (length (contents log k))
