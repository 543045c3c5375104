-- What a driver keeps of a log, as data: the peer's streams that have no verdict, and its table by its uses.
use Rattle.std.specs.Prelude.{Bool, List, Option, filter, find, not, ℕ}
use Rattle.wt_sessions.specs.Driver.{ControlSent, call_view, control_sent, stream_table, transport_view}
use Rattle.wt_sessions.specs.Scan.{bi_ids, is_unclassified, uni_ids}
use Rattle.wt_sessions.specs.StreamTable.{CallView, Closed, Dispatched, DriverProgress, Session, StreamTable, TransportView, dispatched_streams, is_closed, is_gone}
use Rattle.wt_turn.specs.Log.{Log, is_open}
use Rattle.wt_wire.specs.declared.side.Side.{Side}

-- what a driver keeps
pub record DriverState : Type 0 where
  pub unis : List ℕ  -- the unidirectional streams that have no verdict, by id
  pub bis : List ℕ  -- the bidirectional ones
  pub dispatched : Dispatched
  pub closed : ℕ → Option Closed  -- how the peer closed a session, where it did
  pub sessions : List Session  -- the established ones that aren't gone, by id
  pub progress : DriverProgress
  pub control_sent : ControlSent
  pub is_open : Bool

-- what is kept, by what the transport reported, what the calls did, and the table
abbrev pub state_by : TransportView → CallView → ControlSent → Bool → StreamTable → DriverState
state_by t calls sent open_ table = record {
  unis = filter (is_unclassified table) (uni_ids t);
  bis = filter (is_unclassified table) (bi_ids t);
  dispatched = dispatched_streams calls table;
  closed = λ k. find (is_closed k) table.closed;
  sessions = filter (λ (s : Session). not (is_gone calls table s.id)) calls.sessions;
  progress = table.progress;
  control_sent = sent;
  is_open = open_;
}

-- what a driver keeps of a log
unfoldable pub state_of : Side → Log → DriverState
state_of side log = state_by (transport_view side log) (call_view log) (control_sent side log) (is_open log) (stream_table side log)
