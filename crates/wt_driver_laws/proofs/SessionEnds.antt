-- How a connection and a session ended: what the driver says is what the log says.
use Rattle.std.proofs.Common.{◌%◌, ◌∙◌, ◌≡◌, Bool, None, Option, Some, ap, false, find, is_some, refl, sym, true, ℕ}
use Rattle.std.specs.Prelude.{if◌then◌else◌}
use Rattle.wt_driver_laws.proofs.ReachSessions.{has_established}
use Rattle.wt_driver_laws.specs.Answering.{result_if, result_now, session_result_by, session_result_now}
use Rattle.wt_driver_laws.specs.Calling.{Always}
use Rattle.wt_driver_laws.specs.Driving.{Follows, uncollected_since}
use Rattle.wt_driver_laws.specs.Ends.{connection_end, end_by, end_of_session, session_end}
use Rattle.wt_driver_laws.specs.Having.{HasSession}
use Rattle.wt_follows.specs.Tie as tie
use Rattle.wt_follows.specs.Tie.{closed_by}
use Rattle.wt_kept.specs.Kept.{Closed, DriverNow, Ended, Refused, SessionEndNow}
use Rattle.wt_kept.specs.Windows.{end_in}
use Rattle.wt_transport.proofs.Refining.{refined_open}
use Rattle.wt_sessions.specs.Driver.{call_view, dispatched, is_session_gone, stream_table}
use Rattle.wt_sessions.specs.DriverState.{state_of}
use Rattle.wt_sessions.specs.StreamTable.{Dispatched, is_closed, was_established}
use Rattle.wt_turn.specs.Log.{Log, is_open}
use Rattle.wt_turn.specs.declared.driver_error.DriverError.{DriverError}
use Rattle.wt_wire.specs.declared.error.ErrorCode.{ErrorCode}
use Rattle.wt_wire.specs.declared.side.Side.{Side}

-- what the state of a log says of an end
fault-of-state : (side : Side) (log : Log) → (state_of side log).progress.fault ≡ (stream_table side log).progress.fault
unfolding state_of
fault-of-state side log = refl

pub dispatched-of-state : (side : Side) (log : Log) → (state_of side log).dispatched ≡ dispatched side log
unfolding state_of
dispatched-of-state side log = refl

pub gone-of-state : (side : Side) (log : Log) (s : ℕ) → (state_of side log).dispatched.is_gone s ≡ is_session_gone side log s
gone-of-state side log s = ap (λ (x : Dispatched). x.is_gone s) (dispatched-of-state side log)

pub established-of-state : (side : Side) (log : Log) (s : ℕ) → (state_of side log).dispatched.is_established s ≡ was_established (call_view log) s
established-of-state side log s = ap (λ (x : Dispatched). x.is_established s) (dispatched-of-state side log)

closed-of-state : (side : Side) (log : Log) (s : ℕ) → (state_of side log).closed s ≡ find (is_closed s) (stream_table side log).closed
unfolding state_of
closed-of-state side log s = refl

module _ (side : Side) (d : DriverNow) (log : Log) (collected : ℕ) (f : Follows side d log collected) where
  abbrev kept : tie.Follows side d log (uncollected_since collected log)
  kept = f.kept

  pub open-same : d.work.transport.is_open ≡ is_open log
  open-same = refined_open side d.work.transport log kept.position (uncollected_since collected log) kept.amid.work.transport

  -- how the connection ended
  pub result_law : result_now d ≡ connection_end side log
  result_law = (λ i. result_if (open-same i) ((kept.amid.work.keeps.fault ∙ fault-of-state side log) i)) ∙ by (is_open log) (stream_table side log).progress.fault
    where
      by : (b : Bool) (o : Option ErrorCode) → result_if b o ≡ (if b then None else Some (end_by o))
      by true o = refl
      by false None = refl
      by false (Some code) = refl

  -- how a session ended that was established
  module _ (s : ℕ) (established : was_established (call_view log) s ≡ true) where
    four : (s % 4) ≡ 0
    four = kept.amid.work.keeps.named s (established-of-state side log s ∙ established)

    gone-kept : is_session_gone side log s ≡ is_some (end_in d.work.dispatched.sessions.gone s)
    gone-kept = sym (gone-of-state side log s) ∙ kept.amid.work.keeps.gone s four

    closed-kept : find (is_closed s) (stream_table side log).closed ≡ closed_by s (end_in d.work.dispatched.sessions.gone s)
    closed-kept = sym (closed-of-state side log s) ∙ kept.amid.work.keeps.closed s four

    by-end : (o : Option SessionEndNow) (end : Option DriverError) → session_result_by o end ≡ end_of_session end (is_some o) (closed_by s o)
    by-end None end = refl
    by-end (Some Refused) end = refl
    by-end (Some Ended) end = refl
    by-end (Some (Closed code reason)) end = refl

    pub session-result-is : session_result_now s d ≡ session_end side log s
    session-result-is =
        by-end (end_in d.work.dispatched.sessions.gone s) (result_now d)
        ∙ (λ i. end_of_session (result_law i) (sym gone-kept i) (sym closed-kept i))

-- of a session that the application has
pub session_result_law : (s : ℕ) (d : DriverNow) → Always d (λ side log collected. HasSession s side log → session_result_now s d ≡ session_end side log s)
session_result_law s d side log collected f reached has = session-result-is side d log collected f s (has_established side log s has)
