-- What the calls on a session give: what waits for it first, or a stream that this end opens; where there is nothing to give, nothing changes.
use Rattle.std.specs.Prelude.{[], ◌≡◌, Err, None, Ok, Option, Result, Some, false, true, ℕ, List}
use Rattle.wt_driver_laws.specs.Driving.{Follows}
use Rattle.wt_kept.specs.Kept.{DriverNow}
use Rattle.wt_driver_laws.specs.Ends.{opening_end, session_end}
use Rattle.wt_driver_laws.specs.Having.{OpeningStream}
use Rattle.wt_turn.specs.Outgoing.{actions_to_open, may_open, next_id}
use Rattle.wt_sessions.specs.Connection.{next_datagram, next_stream, stream_header}
use Rattle.wt_sessions.specs.Effect.{log_call}
use Rattle.wt_sessions.specs.StreamTable.{Admitted, Waiting}
use Rattle.wt_turn.specs.Log.{DatagramReceived, Log, OpeningStarted, StreamAccepted}
use Rattle.wt_turn.specs.declared.driver_error.DriverError.{DriverError}
use Rattle.wt_turn.specs.declared.poll.Poll.{Poll}
use Rattle.wt_turn.specs.declared.poll.Poll.TheVariants.{Pending, Ready}
use Rattle.wt_wire.specs.declared.side.Side.{Side}

-- nothing is given, nothing changes, and the answer says how it ended, if it did
pub record GivesNothing (d later : DriverNow) (end said : Option DriverError) : Type 0 where
  pub same : later ≡ d
  pub says : end ≡ said

-- ---- streams of the peer

-- the first stream of the kind that waits for the session is given, and has this id
pub record GivesStream (kind : ℕ) (side : Side) (log : Log) (collected s : ℕ) (later : DriverNow) (id : ℕ) : Type 0 where
  pub waiting : Waiting
  pub next : next_stream side log kind s ≡ Some waiting
  pub is : waiting.id ≡ id
  pub follows : Follows side later (log_call side log [] (StreamAccepted waiting.id s)) collected

-- none waits
pub record HasNoStream (kind : ℕ) (side : Side) (log : Log) (s : ℕ) (d later : DriverNow) (said : Option DriverError) : Type 0 where
  pub none : next_stream side log kind s ≡ None
  pub nothing : GivesNothing d later (session_end side log s) said

-- an accept of a stream of the kind, which has this id, by its answer
abbrev pub Accepts : {T : Type 0} → (T → ℕ) → ℕ → Side → Log → ℕ → ℕ → DriverNow → DriverNow → Poll (Result T DriverError) → Type 0
Accepts id kind side log collected s d later (Ready (Ok stream)) = GivesStream kind side log collected s later (id stream)
Accepts id kind side log collected s d later (Ready (Err e)) = HasNoStream kind side log s d later (Some e)
Accepts id kind side log collected s d later Pending = HasNoStream kind side log s d later None

-- ---- datagrams

-- the first datagram that waits for the session is given, and has this payload
pub record GivesDatagram (side : Side) (log : Log) (collected s : ℕ) (later : DriverNow) (payload : List ℕ) : Type 0 where
  pub waiting : Admitted
  pub next : next_datagram side log s ≡ Some waiting
  pub is : waiting.payload ≡ payload
  pub follows : Follows side later (log_call side log [] (DatagramReceived waiting.index)) collected

-- none waits
pub record HasNoDatagram (side : Side) (log : Log) (s : ℕ) (d later : DriverNow) (said : Option DriverError) : Type 0 where
  pub none : next_datagram side log s ≡ None
  pub nothing : GivesNothing d later (session_end side log s) said

-- a receive, by its answer
abbrev pub Receives : {T : Type 0} → (T → List ℕ) → Side → Log → ℕ → ℕ → DriverNow → DriverNow → Poll (Result T DriverError) → Type 0
Receives payload side log collected s d later (Ready (Ok datagram)) = GivesDatagram side log collected s later (payload datagram)
Receives payload side log collected s d later (Ready (Err e)) = HasNoDatagram side log s d later (Some e)
Receives payload side log collected s d later Pending = HasNoDatagram side log s d later None

-- ---- streams of this end

-- the next stream of the kind is opened for the session, with its header still to go out
pub record OpensStream (kind : ℕ) (side : Side) (log : Log) (collected s : ℕ) (later : DriverNow) (o : OpeningStream) : Type 0 where
  pub goes_on : opening_end side log s ≡ None
  pub may : may_open side log kind ≡ true
  pub is : o ≡ record { id = next_id side log kind; session = s; left = stream_header (next_id side log kind) s }
  pub follows : Follows side later (log_call side log (actions_to_open side log kind) (OpeningStarted (next_id side log kind) s)) collected

-- the session opens no stream any more
pub record OpensNoStream (side : Side) (log : Log) (s : ℕ) (d later : DriverNow) (e : DriverError) : Type 0 where
  pub ended : opening_end side log s ≡ Some e
  pub same : later ≡ d

-- the peer doesn't allow one more
pub record MayNotOpen (kind : ℕ) (side : Side) (log : Log) (s : ℕ) (d later : DriverNow) : Type 0 where
  pub goes_on : opening_end side log s ≡ None
  pub may : may_open side log kind ≡ false
  pub same : later ≡ d

-- the beginning of an opening, by its answer
abbrev pub Opens : ℕ → Side → Log → ℕ → ℕ → DriverNow → DriverNow → Poll (Result OpeningStream DriverError) → Type 0
Opens kind side log collected s d later (Ready (Ok o)) = OpensStream kind side log collected s later o
Opens kind side log collected s d later (Ready (Err e)) = OpensNoStream side log s d later e
Opens kind side log collected s d later Pending = MayNotOpen kind side log s d later
