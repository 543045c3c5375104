-- What a core keeps of a history: which turn may come, whether the connection is open and established, and how it goes on.
use Rattle.std.proofs.Common.{◌∙◌, ap, sym}
use Rattle.std.specs.Prelude.{[], ◌≡◌, true, ℕ}
use Rattle.wt_meaning.specs.Calls.{is_living}
use Rattle.wt_meaning.specs.History.{History, events, is_open}
use Rattle.wt_meaning.specs.Lawful.{is_lawful}
use Rattle.wt_meaning.specs.Meaning.{answer_to, history_after}
use Rattle.wt_core.proofs.Refining.{kept_connected, kept_lives, kept_open, may_lawful}
use Rattle.wt_core.specs.CoreState.{CoreState, KeepsHistory, Refines, connected_now, living_now, may_come_next, may_turn, open_now}
use Rattle.wt_core.specs.Keeping.{Stepped}
use Rattle.wt_turn.specs.Reports.{is_connected}
use Rattle.wt_sessions.specs.Answers as logs
use Rattle.wt_sessions_agree.proofs.EachTurn.{each-turn-agrees}
use Rattle.wt_sessions_agree.proofs.LawfulLaws.{lawful-agrees}
use Rattle.wt_sessions_agree.proofs.ListLaws.{AnyAgrees, any-agrees}
use Rattle.wt_sessions_agree.proofs.StartLaws.{members-first, stands-first}
use Rattle.wt_sessions_agree.proofs.WaitLaws.{living-is}
use Rattle.wt_turn.specs.declared.answer.Answer.{Answer}
use Rattle.wt_turn.specs.declared.turn.Turn.{Turn}
use Rattle.wt_wire.specs.declared.side.Side.{Side}

-- nothing happened
pub keeps-nothing : (side : Side) (k : CoreState) → Refines side k [] → KeepsHistory side k []
keeps-nothing side k r = record { log = []; refines = r; agrees = (λ n. 0, tt, members-first side, stands-first side (λ n. 0)) }

-- ---- what is asked

pub may_next_is : (side : Side) (k : CoreState) (h : History) (turn : Turn) → KeepsHistory side k h → may_come_next k turn ≡ is_lawful side h turn
may_next_is side k h turn x = may_lawful side k x.log turn x.refines ∙ sym (lawful-agrees side x.agrees.0 h x.log x.agrees.3 turn)

-- no turn ran out of memory
pub may_is : (side : Side) (k : CoreState) (h : History) (turn : Turn) → KeepsHistory side k h → may_turn k turn ≡ is_lawful side h turn
may_is side k h turn x = rw (x.refines.works) (may_next_is side k h turn x)

pub open_is : (side : Side) (k : CoreState) (h : History) → KeepsHistory side k h → open_now k ≡ is_open h
open_is side k h x = kept_open side k x.log x.refines ∙ sym x.agrees.3.came.openness

pub connected_is : (side : Side) (k : CoreState) (h : History) → KeepsHistory side k h → is_open h ≡ true → connected_now k ≡ is_connected (events h)
connected_is side k h x o = kept_connected side k x.log x.refines (sym x.agrees.3.came.openness ∙ o) ∙ ap is_connected (sym x.agrees.3.came.events)

pub lives_is : (side : Side) (k : CoreState) (h : History) (s : ℕ) → KeepsHistory side k h → living_now k s ≡ is_living side h s
lives_is side k h s x = kept_lives side k x.log s x.refines ∙ sym (living-is side x.agrees.0 h x.log s x.agrees.3)

-- ---- a lawful turn

module _ (side : Side) (k : CoreState) (h : History) (turn : Turn) (x : KeepsHistory side k h) (lawful : is_lawful side h turn ≡ true) where
  pub lawful-so : logs.is_lawful side x.log turn ≡ true
  lawful-so = sym (lawful-agrees side x.agrees.0 h x.log x.agrees.3 turn) ∙ lawful

  agrees-on : AnyAgrees side (each-turn-agrees side) h x.log turn
  agrees-on = any-agrees side (each-turn-agrees side) h x.log turn x.agrees lawful

  module _ (answer : Answer) (m : CoreState) (s : Stepped side x.log turn answer m) where
    -- the answer is what the turn means
    pub answer-is : answer ≡ answer_to side h turn
    answer-is = s.is ∙ sym agrees-on.same

    -- and the history goes on with it
    pub keeps-on : KeepsHistory side m (history_after side h turn)
    keeps-on = record { log = logs.log_after side x.log turn; refines = s.kept; agrees = agrees-on.after }
