-- What a core keeps of what its application has, as data, and that it is what the application has by a log.
use Rattle.std.specs.Prelude.{◌≡◌, Bool, List, None, Option, Some, false, if◌then◌else◌, true, ℕ}
use Rattle.wt_driver_laws.specs.Having.{HasOpening, OpeningStream}
use Rattle.wt_core.specs.Held.{Held}
use Rattle.wt_core.specs.Rows.{HasPut, value_at}
use Rattle.wt_core.specs.declared.held.Way.{Way}
use Rattle.wt_core.specs.declared.held.Way.TheVariants as openings
use Rattle.wt_sessions.specs.Answers.{named_session}
use Rattle.wt_sessions.specs.Connection.{opening_session}
use Rattle.wt_sessions.specs.Halves.{has_receiving_half, has_sending_half}
use Rattle.wt_sessions.specs.Handshake.{handshake_state, requested_stream}
use Rattle.wt_turn.specs.Log.{Log, calls_of}
use Rattle.wt_wire.specs.declared.side.Side.{Side}

-- a stream that is being opened, of one direction or of both
pub record OpeningNow : Type 0 where
  pub bidirectional : Bool
  pub opening : OpeningStream

-- the value of one
abbrev pub opening_as : Way → OpeningNow
opening_as (openings.Uni o) = record { bidirectional = false; opening = o }
opening_as (openings.Bi o) = record { bidirectional = true; opening = o }

-- the session that was established first, and each by its stream's id
pub record SessionsNow : Type 0 where
  pub first : Option ℕ
  pub rows : List (List (Option ℕ))

-- the halves and the streams that are being opened, by the ids of their streams
pub record StreamsNow : Type 0 where
  pub sends : List (List (Option ℕ))
  pub recvs : List (List (Option ℕ))
  pub openings : List (List (Option OpeningNow))

-- what the application has by a log
abbrev pub held_by : Side → Log → Held
held_by side log = record {
  sends = has_sending_half side log;
  recvs = has_receiving_half side log;
  openings = opening_session log;
  sessions = named_session log;
  stage = handshake_state (calls_of log);
  requested = requested_stream (calls_of log);
}

-- the value of a half is its stream's id
abbrev pub half_if : Bool → ℕ → Option ℕ
half_if b k = if b then Some k else None

-- the session for which the stream is being opened
abbrev pub session_of : Option OpeningNow → Option ℕ
session_of None = None
session_of (Some o) = Some o.opening.session

-- a look-up of sessions finds what this function says
pub record FindsSessions (now : SessionsNow) (sessions : Option ℕ → Option ℕ) : Type 0 where
  pub rows : (s : ℕ) → value_at now.rows s ≡ sessions (Some s)
  pub first : now.first ≡ sessions None

-- a look-up of streams finds what these functions say
pub record FindsStreams (now : StreamsNow) (h : Held) : Type 0 where
  pub sends : (k : ℕ) → value_at now.sends k ≡ half_if (h.sends k) k
  pub recvs : (k : ℕ) → value_at now.recvs k ≡ half_if (h.recvs k) k
  pub openings : (k : ℕ) → session_of (value_at now.openings k) ≡ h.openings k

-- each stream that is being opened is the application's
abbrev pub HasOpenings : List (List (Option OpeningNow)) → Side → Log → Type 0
HasOpenings rows side log = (k : ℕ) (o : OpeningNow) → value_at rows k ≡ Some o → (o.opening.id ≡ k) × HasOpening o.bidirectional o.opening side log

-- the sessions that are kept are those that were established by this log
abbrev pub HoldsSessions : Side → SessionsNow → Log → Type 0
HoldsSessions side now log = FindsSessions now (named_session log)

-- the streams that are kept are those that the application has by this log
pub record HoldsStreams (side : Side) (now : StreamsNow) (log : Log) : Type 0 where
  pub finds : FindsStreams now (held_by side log)
  pub opens : HasOpenings now.openings side log

-- the same sessions are found
pub record SameSessions (old new : SessionsNow) : Type 0 where
  pub rows : (s : ℕ) → value_at new.rows s ≡ value_at old.rows s
  pub first : new.first ≡ old.first

-- the streams without this one that is being opened
pub record TakenOut (whole streams : StreamsNow) (o : OpeningNow) : Type 0 where
  pub had : value_at whole.openings o.opening.id ≡ Some o
  pub openings : HasPut whole.openings streams.openings o.opening.id None
  pub sends : streams.sends ≡ whole.sends
  pub recvs : streams.recvs ≡ whole.recvs
