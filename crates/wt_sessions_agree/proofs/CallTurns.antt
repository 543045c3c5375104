-- A call agrees, where its moment sends and finds alike and its record keeps the relation.
use Rattle.std.specs.Prelude.{[], ◌&&◌, ◌++◌, ◌∷◌, ◌||◌, ◌≡◌, Bool, List, false, if◌then◌else◌, not, true, ℕ}
use Rattle.std.specs.List.{list_any}
use Rattle.std.proofs.Common.{◌∙◌, ap, refl, subst, sym}
use Rattle.wt_meaning.specs.Findings.{Finding}
use Rattle.wt_meaning.specs.History.{History, Pair, ends_by, is_open}
use Rattle.wt_meaning.specs.Meaning.{next, own_answer, step, with_pair}
use Rattle.wt_meaning.specs.Moments.{after_checks, after_moments, checks, findings}
use Rattle.wt_meaning.specs.Sends.{moment_actions}
use Rattle.wt_promise.proofs.Actions.{any-join_all}
use Rattle.wt_promise.proofs.Grows.{peers-checked}
use Rattle.wt_promise.proofs.OpenStays.{same-findings}
use Rattle.wt_turn.specs.Joined.{join_all, newest_first}
use Rattle.wt_sessions.specs.Answers.{call_effect, log_after}
use Rattle.wt_sessions.specs.Answers as answers
use Rattle.wt_sessions.specs.Driver.{call_view, is_moment, pending_actions, stream_table, transport_view}
use Rattle.wt_sessions.specs.Effect.{Effect, log_call}
use Rattle.wt_sessions_agree.proofs.AnswerLaws.{answer-agrees, called-actions, sent-then}
use Rattle.wt_sessions_agree.proofs.EntryTurns.{closed-more, closes-alike, ended-acted}
use Rattle.wt_sessions_agree.proofs.MomentAgrees.{moment-agrees}
use Rattle.wt_sessions_agree.proofs.OrderlyLaws.{orderly-checks}
use Rattle.wt_sessions_agree.proofs.RestTurns.{moments-once}
use Rattle.wt_sessions_agree.proofs.TurnFinds.{acted-table, found-same, table-same, table-then}
use Rattle.wt_sessions_agree.specs.Agrees.{IsTable}
use Rattle.wt_sessions_agree.specs.Orderly.{Known, Orderly}
use Rattle.wt_sessions_agree.specs.Records.{effect_of, record_of}
use Rattle.wt_sessions_agree.specs.Stands.{SeesAlike, Stands}
use Rattle.wt_turn.specs.Log.{CallRecord, Called, Log, actions_of, calls_of, closes, with_actions}
use Rattle.wt_turn.specs.Log as logs
use Rattle.wt_turn.specs.declared.action.Action.{Action}
use Rattle.wt_turn.specs.declared.answer.Answer.{Answer}
use Rattle.wt_turn.specs.declared.call.Call.{Call}
use Rattle.wt_turn.specs.declared.reply.Reply.{Reply}
use Rattle.wt_wire.specs.declared.side.Side.{Side}
use Rattle.wt_turn.specs.declared.turn.Turn.TheVariants as turns

-- what the newest pair's moment finds: a second one, of a reply that establishes a session, finds nothing
found-one : (side : Side) (p : Pair) (h : History) → Known side (p ∷ h) (findings side h) → is_open h ≡ true
    → findings side (p ∷ h) ≡ after_checks side (p ∷ h) (checks side (p ∷ h)) (findings side h)
unfolding findings
found-one side p h known o =
    ap (λ (b : Bool). if b then after_moments side (p ∷ h) p.answer.reply (findings side h) else findings side h) o
    ∙ moments-once side (p ∷ h) p.answer.reply (findings side h) known

-- ---- both end alike

-- what went out ends the connection in both
pub ends-alike : (h : History) (log : Log) (c : Call) (reply : Reply) (xs : List Action) (log2 : Log) → is_open h ≡ logs.is_open log
    → list_any logs.ends_by log2 ≡ (list_any closes xs || list_any logs.ends_by log)
    → is_open (with_pair h (turns.Call c) (record { reply = reply; actions = join_all [] xs })) ≡ logs.is_open log2
ends-alike h log c reply xs log2 o e =
    ap (λ (b : Bool). not ((false || b) || list_any ends_by h)) (any-join_all closes (λ i p q. refl) [] xs)
    ∙ closes-alike h log xs o ∙ ap not (sym e)

-- likewise before the answer's actions are joined
own-alike : (h : History) (log : Log) (c : Call) (a : Answer) (log2 : Log) → is_open h ≡ logs.is_open log → list_any logs.ends_by log2 ≡ (list_any closes a.actions || list_any logs.ends_by log)
    → is_open (with_pair h (turns.Call c) a) ≡ logs.is_open log2
own-alike h log c a log2 o e = closes-alike h log a.actions o ∙ ap not (sym e)

-- ---- the setting

module _ (side : Side) (offset : ℕ → ℕ) (h : History) (log : Log) (x : Stands side offset h log) (c : Call) where
  -- the call's own answer, and the history with it
  abbrev own : Answer
  own = own_answer side h (turns.Call c)

  abbrev with_own : History
  with_own = with_pair h (turns.Call c) own

  -- what the call leaves in the log
  abbrev left : CallRecord
  left = record_of side h c own.reply

  -- the log at the call's moment
  abbrev at : Log
  at = Called left ∷ with_actions own.actions log

  -- ---- both find the connection open, or neither

  pub at-ends : list_any logs.ends_by at ≡ (list_any closes own.actions || list_any logs.ends_by log)
  at-ends = ended-acted own.actions log

  pub at-open : is_open with_own ≡ logs.is_open at
  at-open = own-alike h log c own at x.came.openness at-ends

  -- what goes out at the moment
  pub sent-same : (is_open with_own ≡ true → pending_actions side at ≡ moment_actions side with_own) → sent-then side at ≡ moment_actions side with_own
  sent-same pending = by (is_open with_own) refl
    where
      by : (b : Bool) → is_open with_own ≡ b → sent-then side at ≡ moment_actions side with_own
      by true e =
          let o : logs.is_open at ≡ true = sym at-open ∙ e in
          ap (λ (b : Bool). if b then pending_actions side at else []) o ∙ pending e
      by false e =
          let o : logs.is_open at ≡ false = sym at-open ∙ e in
          let n : moment_actions side with_own ≡ [] = rw e refl in
          ap (λ (b : Bool). if b then pending_actions side at else []) o ∙ sym n

  -- ---- the call

  -- the log after it
  abbrev pub later : Log
  later = log_call side log own.actions left

  module _ (effect : call_effect side log c ≡ effect_of side h log c own) where
    pub later-is : log_after side log (turns.Call c) ≡ later
    later-is = ap (λ (e : Effect). e.log) effect

    module _ (pending : is_open with_own ≡ true → pending_actions side at ≡ moment_actions side with_own) where
      pub call-same : answers.answer_to side log (turns.Call c) ≡ next side h (turns.Call c)
      call-same =
          ap (λ (e : Effect). record { reply = e.reply; actions = answers.actions_since log e.log }) effect
          ∙ ap (λ (as_ : List Action). record { reply = own.reply; actions = as_ }) (answer-agrees side h log (turns.Call c) own left (sent-same pending))

      pub call-sent : actions_of later ≡ newest_first (own.actions ++ moment_actions side with_own) (actions_of log)
      call-sent = called-actions side log own.actions left ∙ ap (λ (as_ : List Action). newest_first (own.actions ++ as_) (actions_of log)) (sent-same pending)

  -- what it finds, where its session's part, if it establishes one, begins at the offset
  module _ (begins : ℕ → ℕ) (alike : SeesAlike side with_own (transport_view side at) (call_view at) begins) (orderly : Orderly side with_own (call_view at) begins (findings side h))
      (idle : is_open h ≡ true → is_open with_own ≡ false → after_checks side with_own (checks side with_own) (findings side h) ≡ findings side h) where
    finds-by : (b d : Bool) → is_open h ≡ b → is_open with_own ≡ d → IsTable (findings side with_own) (stream_table side later)
    finds-by true true o e =
        let m : (is_moment (Called left) && logs.is_open at) ≡ true = sym at-open ∙ e in
        subst (λ (found : List Finding). IsTable found (stream_table side later)) (sym (found-one side (record { turn = turns.Call c; answer = own }) h orderly.known o))
        (subst (IsTable (after_checks side with_own (checks side with_own) (findings side h))) (sym (table-then side (with_actions own.actions log) (Called left) m))
        (moment-agrees side with_own (transport_view side at) (call_view at) begins alike (findings side h) (stream_table side (with_actions own.actions log)) orderly
        (subst (IsTable (findings side h)) (sym (acted-table side own.actions log)) x.table)))
    finds-by true false o e =
        let m : (is_moment (Called left) && logs.is_open at) ≡ false = sym at-open ∙ e in
        subst (λ (found : List Finding). IsTable found (stream_table side later)) (sym (found-one side (record { turn = turns.Call c; answer = own }) h orderly.known o ∙ idle o e))
        (subst (IsTable (findings side h)) (sym (table-same side (with_actions own.actions log) (Called left) m ∙ acted-table side own.actions log)) x.table)
    finds-by false d o e =
        let m : (is_moment (Called left) && logs.is_open at) ≡ false = sym at-open ∙ closed-more h (record { turn = turns.Call c; answer = own }) o in
        subst (λ (found : List Finding). IsTable found (stream_table side later)) (sym (found-same side (record { turn = turns.Call c; answer = own }) h o))
        (subst (IsTable (findings side h)) (sym (table-same side (with_actions own.actions log) (Called left) m ∙ acted-table side own.actions log)) x.table)

    pub call-finds : IsTable (findings side (step side h (turns.Call c))) (stream_table side later)
    call-finds = subst (λ (found : List Finding). IsTable found (stream_table side later)) (sym (same-findings side h (turns.Call c))) (finds-by (is_open h) (is_open with_own) refl refl)

    -- and what was in order stays so
    order-by : (b : Bool) → is_open h ≡ b → Orderly side with_own (call_view at) begins (findings side with_own)
    order-by true o =
        subst (Orderly side with_own (call_view at) begins) (sym (found-one side (record { turn = turns.Call c; answer = own }) h orderly.known o))
        (orderly-checks side with_own (call_view at) begins (checks side with_own) (peers-checked side with_own) (findings side h) orderly)
    order-by false o = subst (Orderly side with_own (call_view at) begins) (sym (found-same side (record { turn = turns.Call c; answer = own }) h o)) orderly

    pub call-orders : Orderly side with_own (call_view at) begins (findings side (step side h (turns.Call c)))
    call-orders = subst (Orderly side with_own (call_view at) begins) (sym (same-findings side h (turns.Call c))) (order-by (is_open h) refl)
