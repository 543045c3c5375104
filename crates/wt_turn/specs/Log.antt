-- What happened to one connection: a flat list of entries, the newest first. The events are what a QUIC transport reports
-- (RFC 9000, sections 2, 4 and 10), the calls are those of the application (draft-ietf-webtrans-http3, section 4).
use Rattle.std.specs.Prelude.{ℕ, ℤ, List, [], ◌∷◌, Bool, true, false, not, Option, Some, None}
use Rattle.std.specs.List.{list_any, filter_map}
use Rattle.std.specs.Option.{option_or}
use Rattle.wt_turn.specs.declared.action.Action.{Action}
use Rattle.wt_turn.specs.declared.action.Action.TheVariants as actions
use Rattle.wt_turn.specs.declared.datagram_fact.DatagramFact.{DatagramFact}
use Rattle.wt_turn.specs.declared.loss.LossReason.{LossReason}

-- what the transport reports, but for the bytes of a stream
pub data Event : Type 0 where
  Connected : (uni bi credit : ℕ) (datagrams : DatagramFact) → Event
  PeerUni : Event
  PeerBi : Event
  End : (id : ℕ) → Event
  Reset : (id code : ℕ) → Event
  Stop : (id code : ℕ) → Event
  Acked : (id : ℕ) → Event
  Datagram : (piece : List ℕ) → Event
  MaxUni : (total : ℕ) → Event
  MaxBi : (total : ℕ) → Event
  MaxData : (id total : ℕ) → Event
  DatagramLimit : (fact : DatagramFact) → Event
  Loss : (reason : LossReason) → Event

-- what a call of the application did
pub data CallRecord : Type 0 where
  -- the handshake
  ConnectStarted : (reserved : Option (List ℕ)) (head : List ℕ) → CallRecord  -- it dialled; once SETTINGS came it fails for a reserved name or sends this request
  RequestDelivered : (id : ℕ) → CallRecord  -- the request of this stream was given
  ResponseStarted : (accepts : Bool) (head : List ℕ) → CallRecord  -- this response is to be sent
  RequestRejected : (id : ℕ) → CallRecord  -- the rejection of this stream's request is over: there is no session
  AcceptanceFailed : CallRecord  -- the acceptance of the request failed: there is no session
  HandshakeOver : CallRecord  -- a connect failed, or no request comes any more: there is no session
  SessionEstablished : (id offset : ℕ) → CallRecord  -- the session's part of its stream begins at this offset
  -- streams
  StreamAccepted : (id session : ℕ) → CallRecord  -- by an accept, or by an opening that is through
  StreamPassed : (id : ℕ) → CallRecord  -- an accept met this stream of another session
  OpeningStarted : (id session : ℕ) → CallRecord
  OpeningFailed : (id : ℕ) → CallRecord
  BytesRead : (id count : ℕ) → CallRecord
  StreamGivenUp : (id : ℕ) → CallRecord  -- the application stopped its receiving half
  ResetUnsent : (id code : ℕ) → CallRecord  -- a reset after the end: it counts, and nothing goes out
  PrioritySet : (id : ℕ) (priority : ℤ) → CallRecord
  -- datagrams
  DatagramReceived : (index : ℕ) → CallRecord  -- the application took the next one of its session: this index among all that came
  DatagramPassed : CallRecord  -- a receive met one of another session
  -- every other call
  Polled : CallRecord

-- One entry a byte, an event, an action or a call record. A byte, an event of the open connection and a call record are
-- each a moment: what a call sends stands before its record, and what its work sends after it.
pub data Entry : Type 0 where
  Received : (id byte : ℕ) → Entry  -- a byte of a stream came
  Reported : (event : Event) → Entry  -- the transport reported an event while the connection was open
  ReportedLate : (event : Event) → Entry  -- it reported an event after the end: only what may come next depends on it
  Sent : (action : Action) → Entry  -- an action went out
  Called : (call : CallRecord) → Entry  -- a call did this

-- what happened to a connection, the newest entry first
abbrev pub Log : Type 0
Log = List Entry

-- the event that an entry reports while the connection is open
abbrev pub event_in : Entry → Option Event
event_in (Reported e) = Some e
event_in _ = None

-- the event that an entry reports, also after the end
abbrev pub event_ever_in : Entry → Option Event
event_ever_in (Reported e) = Some e
event_ever_in (ReportedLate e) = Some e
event_ever_in _ = None

-- the action that went out
abbrev pub action_in : Entry → Option Action
action_in (Sent a) = Some a
action_in _ = None

-- what a call did
abbrev pub record_in : Entry → Option CallRecord
record_in (Called c) = Some c
record_in _ = None

-- the events that came while the connection was open, the newest first
abbrev pub events_of : Log → List Event
events_of log = filter_map event_in log

-- all events, those after the end too, the newest first
abbrev pub all_events_of : Log → List Event
all_events_of log = filter_map event_ever_in log

-- the actions that went out, the newest first
abbrev pub actions_of : Log → List Action
actions_of log = filter_map action_in log

-- what the calls did, the newest first
abbrev pub calls_of : Log → List CallRecord
calls_of log = filter_map record_in log

-- the newest value that is there
abbrev pub newest : {S T : Type 0} → (S → Option T) → List S → Option T
newest says [] = None
newest says (x ∷ xs) = option_or (says x) (newest says xs)

-- the event ends the connection (RFC 9000, section 10)
abbrev pub loses : Event → Bool
loses (Loss reason) = true
loses _ = false

-- the action ends the connection (RFC 9000, section 10.2)
abbrev pub closes : Action → Bool
closes (actions.Close code reason) = true
closes _ = false

-- the entry ends the connection
abbrev pub ends_by : Entry → Bool
ends_by (Reported e) = loses e
ends_by (Sent a) = closes a
ends_by _ = false

-- no loss came, and no close went out
abbrev pub is_open : Log → Bool
is_open log = not (list_any ends_by log)

-- the log with these actions, the first of them the oldest
abbrev pub with_actions : List Action → Log → Log
with_actions [] log = log
with_actions (a ∷ later) log = with_actions later (Sent a ∷ log)
