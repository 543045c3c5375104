-- What a transport keeps of a log, as data, and which logs it refines.
use Rattle.std.specs.Prelude.{◌≡◌, ℕ, ◌/◌, ◌%◌, ◌≤◌, Bool, true, false, List, [], length, Option, nat_lt, is_some, ◌==◌}
use Rattle.std.specs.List.{concat}
use Rattle.wt_wire.specs.declared.side.Side.{Side}
use Rattle.wt_wire.specs.declared.side.StreamEnd.TheVariants.{Running}
use Rattle.wt_turn.specs.declared.datagram_fact.DatagramFact.{DatagramFact}
use Rattle.wt_turn.specs.declared.loss.LossReason.{LossReason}
use Rattle.wt_turn.specs.declared.action.Action.{Action}
use Rattle.wt_turn.specs.Log.{Event, Log, events_of, all_events_of, actions_of, calls_of, is_open}
use Rattle.wt_transport.specs.StreamState.{Signals, Stream}
use Rattle.wt_turn.specs.Streams.{contents, stream_count, local_uni}
use Rattle.wt_turn.specs.Reports.{end_of, stop_of, is_acknowledged, credit, initial_credit, is_connected, unis_allowed, bis_allowed, datagram_fact, loss_of}
use Rattle.wt_turn.specs.Sent.{sent_on, is_finished, is_reset, has_dialled, priority_of}
use Rattle.wt_turn.specs.Joined.{joined_actions}
use Rattle.wt_turn.specs.Outgoing.{streams_allowed}
use Rattle.wt_turn.specs.Unread.{ReadPosition, AtOffset, GivenUp, is_given_up, unread}
use Rattle.wt_transport.specs.Pieces.{AreFilled}
use Rattle.wt_transport.specs.StreamState.{fresh, rows}

-- how many of the peer's streams were accepted, of each kind: the first ones by their ids
pub record AcceptedCounts : Type 0 where
  pub uni : ℕ
  pub bi : ℕ

-- none was accepted
abbrev pub nothing_accepted : AcceptedCounts
nothing_accepted = record { uni = 0; bi = 0 }

-- what a transport keeps of a connection
pub record TransportState : Type 0 where
  pub side : Side
  pub is_open : Bool
  pub has_dialled : Bool
  pub is_connected : Bool
  pub is_lost : Bool  -- a loss came, also after a close
  pub unis_allowed : ℕ  -- how many streams of a kind this end may open in all
  pub bis_allowed : ℕ
  pub initial_credit : ℕ  -- of a new stream
  pub datagram_fact : Option DatagramFact
  pub loss : Option LossReason  -- the one that ended the connection
  pub streams : List (List Stream)  -- those of each kind
  pub accepted : AcceptedCounts
  pub actions : List Action  -- those that weren't collected yet, joined

-- ---- the abstraction function

-- what events report of one stream
abbrev pub signals_of : List Event → ℕ → Signals
signals_of events k = record { end = end_of events k; stop = stop_of events k; acknowledged = is_acknowledged events k }

-- a log doesn't tell in which pieces the unread bytes of each stream lie: `pieces` does
abbrev pub stream_of : Log → (ℕ → ReadPosition) → (ℕ → List (List ℕ)) → ℕ → Stream
stream_of log position pieces k = record {
  unread = pieces k;
  given_up = is_given_up (position k);
  signals = signals_of (events_of log) k;
  all_signals = signals_of (all_events_of log) k;
  credit = credit (all_events_of log) k;
  sent = length (sent_on (actions_of log) k);
  finished = is_finished (actions_of log) k;
  reset = is_reset log k;
  priority = priority_of (calls_of log) k;
}

-- what is kept of a log, before a stream is accepted, where readers are at these positions, with these actions not collected yet, the newest first
abbrev pub state_of : Side → Log → (ℕ → ReadPosition) → (ℕ → List (List ℕ)) → List Action → TransportState
state_of side log position pieces uncollected = record {
  side = side;
  is_open = is_open log;
  has_dialled = has_dialled (actions_of log);
  is_connected = is_connected (all_events_of log);
  is_lost = is_some (loss_of (all_events_of log));
  unis_allowed = unis_allowed (all_events_of log);
  bis_allowed = bis_allowed (all_events_of log);
  initial_credit = initial_credit (all_events_of log);
  datagram_fact = datagram_fact (events_of log);
  loss = loss_of (events_of log);
  streams = rows (stream_of log position pieces) (stream_count side log);
  accepted = nothing_accepted;
  actions = joined_actions uncollected;
}

-- what is kept, but for how many streams were accepted, which is in no log
abbrev pub but_accepted : TransportState → TransportState
but_accepted t = record t { accepted = nothing_accepted }

-- ---- what holds of every log whose turns fit

-- the stream with this id, where there are n of each kind
pub record IsStream (side : Side) (count : ℕ → ℕ) (initial : ℕ) (k : ℕ) (s : Stream) : Type 0 where
  pub unopened : nat_lt (k / 4) (count (k % 4)) ≡ false → s ≡ fresh initial
  pub sent : s.sent ≤ s.credit  -- no more went out than there is credit for
  pub one_way : (local_uni side == k % 4) ≡ true → (s.unread ≡ []) × (s.signals.end ≡ Running)

-- what holds of a log whose turns fit, beside each of its streams
pub record Facts (side : Side) (log : Log) (position : ℕ → ReadPosition) (pieces : ℕ → List (List ℕ)) : Type 0 where
  pub streams : (k : ℕ) → IsStream side (stream_count side log) (initial_credit (all_events_of log)) k (stream_of log position pieces k)
  pub unconnected : is_connected (all_events_of log) ≡ false → (kind : ℕ) → stream_count side log kind ≡ 0
  pub unallowed : is_connected (all_events_of log) ≡ false → (kind : ℕ) → streams_allowed side log kind ≡ 0
  pub open_same : is_open log ≡ true → events_of log ≡ all_events_of log

-- no more is consumed than came
abbrev pub IsWithin : ReadPosition → List ℕ → Type 0
IsWithin (AtOffset offset) bytes = offset ≤ length bytes
IsWithin GivenUp bytes = Unit {0}

-- the pieces hold the unread bytes of a stream, in order
pub record Holds (log : Log) (position : ℕ → ReadPosition) (pieces : ℕ → List (List ℕ)) (k : ℕ) : Type 0 where
  pub bytes : concat (pieces k) ≡ unread log position k
  pub filled : AreFilled (pieces k)
  pub within : IsWithin (position k) (contents log k)

-- What is kept refines a log, of whose streams the readers are at these positions, with these actions not collected yet,
-- the newest first; how many streams were accepted it doesn't say.
pub record Refines (side : Side) (t : TransportState) (log : Log) (position : ℕ → ReadPosition) (uncollected : List Action) : Type 0 where
  pub pieces : ℕ → List (List ℕ)
  pub facts : Facts side log position pieces
  pub holds : (k : ℕ) → Holds log position pieces k
  pub state : but_accepted t ≡ state_of side log position pieces uncollected
