-- What is known of every log that lawful turns lead to: that its entries may follow one another, and a history that stands for it.
use Rattle.std.proofs.Common.{◌∙◌, refl, subst, sym}
use Rattle.std.specs.Prelude.{[], ◌≡◌, true, ℕ}
use Rattle.wt_driver_laws.specs.Driving.{AfterTurn, AtStart, IsReachable, IsWithin}
use Rattle.wt_meaning.specs.History.{History}
use Rattle.wt_meaning.specs.Meaning.{history_after}
use Rattle.wt_meaning.specs.Moments.{findings}
use Rattle.wt_promise.specs.Promise.{IsHistory}
use Rattle.wt_sessions.proofs.TurnFits.{turn-holds}
use Rattle.wt_sessions.proofs.Turns.{Holds, sent-holds, start-holds}
use Rattle.wt_sessions.specs.Answers as answers
use Rattle.wt_sessions.specs.Answers.{log_after}
use Rattle.wt_sessions.specs.Driver.{call_view}
use Rattle.wt_sessions.specs.Moment.{Fits}
use Rattle.wt_sessions_agree.proofs.EachTurn.{each-turn-agrees}
use Rattle.wt_sessions_agree.proofs.LawfulLaws.{lawful-agrees}
use Rattle.wt_sessions_agree.proofs.ListLaws.{any-agrees}
use Rattle.wt_sessions_agree.proofs.StartLaws.{members-first, stands-first}
use Rattle.wt_sessions_agree.specs.Agreement.{Agree}
use Rattle.wt_sessions_agree.specs.Members.{MembersIn}
use Rattle.wt_sessions_agree.specs.Stands.{Stands}
use Rattle.wt_turn.specs.Log.{Log}
use Rattle.wt_turn.specs.declared.turn.Turn.{Turn}
use Rattle.wt_wire.specs.declared.side.Side.{Side}

-- ---- its entries

-- what wt_sessions knows of lawful turns
pub reached_holds : (side : Side) (log : Log) → IsReachable side log → Holds side log
reached_holds side _ AtStart = start-holds side
reached_holds side _ (AfterTurn {log = log} turn r l) = turn-holds side log turn (reached_holds side log r) l

pub reached_fits : (side : Side) (log : Log) → IsReachable side log → Fits side log
reached_fits side log r = (reached_holds side log r).fits

-- the same in the middle of a call
pub within_holds : (side : Side) (log : Log) → IsWithin side log → Holds side log
within_holds side log w = subst (λ (l : Log). Holds side l) (sym w.is) (sent-holds side w.own w.before (reached_holds side w.before w.reached))

pub within_fits : (side : Side) (log : Log) → IsWithin side log → Fits side log
within_fits side log w = (within_holds side log w).fits

-- a log that lawful turns lead to is one in the middle of a call that sent nothing so far
pub reached_within : (side : Side) (log : Log) → IsReachable side log → IsWithin side log
reached_within side log r = record { before = log; own = []; reached = r; is = refl }

-- ---- a history

-- a history of lawful turns stands for the log
pub record Told (side : Side) (log : Log) : Type 0 where
  pub h : History
  pub offset : ℕ → ℕ
  pub hist : IsHistory side h
  pub members : MembersIn side h (call_view log) (findings side h)
  pub stands : Stands side offset h log

-- the history with one more turn stands for the log after that
pub agrees-after : (side : Side) (log : Log) (turn : Turn) (t : Told side log) → answers.is_lawful side log turn ≡ true → Agree side (history_after side t.h turn) (log_after side log turn)
agrees-after side log turn t l = (any-agrees side (each-turn-agrees side) t.h log turn (t.offset, t.hist, t.members, t.stands) (lawful-agrees side t.offset t.h log t.stands turn ∙ l)).after

told-after : (side : Side) (log : Log) (turn : Turn) → Told side log → answers.is_lawful side log turn ≡ true → Told side (log_after side log turn)
told-after side log turn t l = let a = agrees-after side log turn t l in record { h = history_after side t.h turn; offset = a.0; hist = a.1; members = a.2; stands = a.3 }

pub told : (side : Side) (log : Log) → IsReachable side log → Told side log
told side _ AtStart = record { h = []; offset = λ k. 0; hist = tt; members = members-first side; stands = stands-first side (λ k. 0) }
told side _ (AfterTurn {log = log} turn r l) = told-after side log turn (told side log r) l
