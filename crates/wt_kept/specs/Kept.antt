-- What the driver of a connection keeps, as data: the value of each of its parts.
use Rattle.std.specs.Prelude.{Bool, List, Option, ℕ}
use Rattle.wt_kept.specs.Readers.{BiReading, ControlReading, ResponseReading, Slot, UniReading}
use Rattle.wt_proto.specs.SessionReader.{SessionReader}
use Rattle.wt_sessions.specs.StreamTable.{Waiting}
use Rattle.wt_transport.specs.State.{TransportState}
use Rattle.wt_wire.specs.HeaderList.{Fields}
use Rattle.wt_wire.specs.declared.error.ErrorCode.{ErrorCode}

-- the peer's streams of one kind that have no verdict: the header of those in `reading` is read, the first of them by id; those of
-- the kind from the `next` one on, as many as the transport counts, wait
pub record ArrivingNow (V : Type 0) : Type 0 where
  pub bidirectional : Bool
  pub reading : List (Slot V)
  pub next : ℕ

-- the peer's streams of which there is one each: the control stream with the reader of what follows its type, and the QPACK streams
pub record CriticalNow : Type 0 where
  pub control : Option (Slot ControlReading)
  pub encoder : Option ℕ
  pub decoder : Option ℕ

-- this end's control stream, where it is open, and how many bytes of its head are out
pub record OwnControlNow : Type 0 where
  pub stream : Option ℕ
  pub sent : ℕ

-- a request that is queued, by its stream
pub record QueuedRequest : Type 0 where
  pub id : ℕ
  pub fields : Fields

-- the requests that are queued until a call takes them, and the streams of all whose session isn't gone
pub record RequestsNow : Type 0 where
  pub queued : List QueuedRequest
  pub held : List ℕ

-- a datagram that waits, by its session
pub record WaitingDatagram : Type 0 where
  pub session : ℕ
  pub payload : List ℕ

-- a window: streams in the order in which they became ripe, datagrams in that in which they came
pub record WindowNow : Type 0 where
  pub streams : List Waiting
  pub datagrams : List WaitingDatagram

-- a session that lives: the reader of its stream, what waits for it, and the streams that calls accepted or began to open, by id
pub record LiveNow : Type 0 where
  pub id : ℕ
  pub reader : SessionReader
  pub window : WindowNow
  pub members : List ℕ

-- how a session became gone: its request was refused, surplus or rejected; the application ended it; or the peer closed it
pub data SessionEndNow : Type 0 where
  Refused : SessionEndNow
  Ended : SessionEndNow
  Closed : (code : ℕ) (reason : List ℕ) → SessionEndNow

-- a session that is gone
pub record GoneNow : Type 0 where
  pub id : ℕ
  pub end : SessionEndNow

-- the sessions: those that live, by id, those that are gone, by id, and what waits for ids that name none of either
pub record SessionsNow : Type 0 where
  pub living : List LiveNow
  pub gone : List GoneNow
  pub early : WindowNow

-- where streams, requests and datagrams went, and the fault that came with one of them
pub record DispatchedNow : Type 0 where
  pub critical : CriticalNow
  pub requests : RequestsNow
  pub sessions : SessionsNow
  pub fault : Option ErrorCode

-- the transport, and where what came on it went
pub record WorkNow : Type 0 where
  pub transport : TransportState
  pub dispatched : DispatchedNow

-- all that the driver keeps
pub record DriverNow : Type 0 where
  pub own_control : OwnControlNow
  pub unis : ArrivingNow UniReading
  pub bis : ArrivingNow BiReading
  pub work : WorkNow
  pub datagrams : List (List ℕ)  -- those that came and weren't looked at
  pub response : Option (Slot ResponseReading)  -- a client's request stream, once its response is asked for and until its session begins
  pub gave_settings : Bool  -- a call took the peer's SETTINGS
