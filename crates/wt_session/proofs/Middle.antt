-- What a log says once actions of a call went out that neither close nor send on the stream that is asked of.
use Rattle.std.proofs.Common.{refl}
use Rattle.std.specs.Prelude.{[], ◌&&◌, ◌++◌, ◌∷◌, ◌≡◌, Bool, List, false, if◌then◌else◌, is_some, not, true, ℕ}
use Rattle.wt_driver_laws.specs.Handing.{MayWrite, write_actions}
use Rattle.wt_turn.specs.Joined.{send_of}
use Rattle.wt_turn.specs.Outgoing.{bytes_within_credit}
use Rattle.wt_turn.specs.Reports.{stop_of}
use Rattle.wt_sessions.specs.Driver.{stream_table}
use Rattle.wt_turn.specs.Log.{Log, Sent, all_events_of, calls_of, events_of, is_open, with_actions}
use Rattle.wt_turn.specs.declared.action.Action.{Action}
use Rattle.wt_wire.specs.declared.side.Side.{Side}

-- ---- one after another

pub sent-more : (as_ bs : List Action) (log : Log) → with_actions (as_ ++ bs) log ≡ with_actions bs (with_actions as_ log)
sent-more [] bs log = refl
sent-more (a ∷ as_) bs log = sent-more as_ bs (Sent a ∷ log)

-- ---- what stays

pub events-stay : (own : List Action) (log : Log) → events_of (with_actions own log) ≡ events_of log
events-stay [] log = refl
events-stay (a ∷ own) log = events-stay own (Sent a ∷ log)

pub all-events-stay : (own : List Action) (log : Log) → all_events_of (with_actions own log) ≡ all_events_of log
all-events-stay [] log = refl
all-events-stay (a ∷ own) log = all-events-stay own (Sent a ∷ log)

pub calls-stay : (own : List Action) (log : Log) → calls_of (with_actions own log) ≡ calls_of log
calls-stay [] log = refl
calls-stay (a ∷ own) log = calls-stay own (Sent a ∷ log)

pub table-stays : (side : Side) (own : List Action) (log : Log) → stream_table side (with_actions own log) ≡ stream_table side log
unfolding stream_table
table-stays side [] log = refl
table-stays side (a ∷ own) log = table-stays side own (Sent a ∷ log)

-- the sends of bytes leave the connection open
pub open-stays : (id : ℕ) (bytes : List ℕ) (log : Log) → is_open (with_actions (send_of id bytes) log) ≡ is_open log
open-stays id [] log = refl
open-stays id (b ∷ bytes) log = refl

-- and so do they leave what this end may write
pub writes-after : (side : Side) (log : Log) (id : ℕ) (left : List ℕ) → MayWrite side log id → MayWrite side (with_actions (write_actions log id left) log) id
writes-after side log id left may = by (is_open log && not (is_some (stop_of (events_of log) id))) (bytes_within_credit log id left)
  where
    by : (b : Bool) (bs : List ℕ) → MayWrite side (with_actions (if b then send_of id bs else []) log) id
    by true [] = may
    by true (b ∷ bs) = record { can = may.can; finished = may.finished; reset = may.reset }
    by false bs = may
