-- What a core keeps of a log, as data: a driver that follows it, what the application has by it, and the handshake that goes on.
use Rattle.std.specs.Prelude.{◌||◌, ◌≡◌, Bool, false, length, ℕ}
use Rattle.wt_driver_laws.specs.Driving.{Follows, IsReachable}
use Rattle.wt_kept.specs.Kept.{DriverNow}
use Rattle.wt_kept.specs.Windows.{lives_now}
use Rattle.wt_meaning.specs.History.{History}
use Rattle.wt_core.specs.HeldNow.{HoldsSessions, HoldsStreams, SessionsNow, StreamsNow}
use Rattle.wt_core.specs.Shakes.{Shake, ShakeIs, may_come}
use Rattle.wt_transport.specs.Step.{fits_now}
use Rattle.wt_sessions.specs.Answers.{is_first}
use Rattle.wt_sessions_agree.specs.Agreement.{Agree}
use Rattle.wt_turn.specs.Log.{Log, actions_of}
use Rattle.wt_turn.specs.declared.turn.Turn.{Turn}
use Rattle.wt_turn.specs.declared.turn.Turn.TheVariants as turns
use Rattle.wt_wire.specs.declared.side.Side.{Side}

-- what a core keeps
pub record CoreState : Type 0 where
  pub failed : Bool  -- a turn ran out of memory
  pub is_first : Bool  -- no turn came yet
  pub driver : DriverNow
  pub shake : Shake
  pub sessions : SessionsNow
  pub streams : StreamsNow

-- ---- what is asked of it

-- the turn may come next, by what is kept
abbrev pub may_come_next : CoreState → Turn → Bool
may_come_next k (turns.Call call) = may_come k.is_first k.shake call
may_come_next k turn = fits_now k.driver.work.transport turn

-- the turn may be asked: it may come next, or a turn ran out of memory
abbrev pub may_turn : CoreState → Turn → Bool
may_turn k turn = k.failed || may_come_next k turn

-- the connection is open, by what is kept
abbrev pub open_now : CoreState → Bool
open_now k = k.driver.work.transport.is_open

-- the connection was established, by what is kept; of one that has ended it may be said later than the log says it
abbrev pub connected_now : CoreState → Bool
connected_now k = k.driver.work.transport.is_connected

-- the session lives, by what is kept
abbrev pub living_now : CoreState → ℕ → Bool
living_now k s = lives_now k.driver.work.dispatched.sessions s

-- ---- which log it is of

-- what is kept is that of this log, of which n actions were collected
pub record Keeps (side : Side) (k : CoreState) (log : Log) (collected : ℕ) : Type 0 where
  pub driver : Follows side k.driver log collected
  pub shake : ShakeIs side log k.shake
  pub sessions : HoldsSessions side k.sessions log
  pub streams : HoldsStreams side k.streams log
  pub reached : IsReachable side log

-- the same between turns: all actions were collected, and no turn ran out of memory
pub record Refines (side : Side) (k : CoreState) (log : Log) : Type 0 where
  pub works : k.failed ≡ false
  pub first : k.is_first ≡ is_first log
  pub kept : Keeps side k log (length (actions_of log))

-- what is kept is that of a connection to which this happened: of the log that stands for the history
pub record KeepsHistory (side : Side) (k : CoreState) (h : History) : Type 0 where
  pub log : Log
  pub refines : Refines side k log
  pub agrees : Agree side h log
