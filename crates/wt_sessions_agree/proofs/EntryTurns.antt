-- A turn that leaves one entry in the log agrees: where its moment finds and sends alike, and where both find nothing.
use Rattle.std.specs.Prelude.{[], ◌&&◌, ◌∷◌, ◌||◌, ◌≡◌, Bool, List, false, if◌then◌else◌, not, true, ℕ}
use Rattle.std.specs.List.{list_any}
use Rattle.std.proofs.Common.{◌∙◌, ap, refl, subst, sym}
use Rattle.wt_meaning.specs.Findings.{Finding}
use Rattle.wt_meaning.specs.History.{History, Pair, contents, ends_by, events, is_open, loses}
use Rattle.wt_meaning.specs.Lawful.{is_lawful}
use Rattle.wt_meaning.specs.Meaning.{step, with_pair}
use Rattle.wt_meaning.specs.Moments.{findings}
use Rattle.wt_meaning.specs.Rows.{answer}
use Rattle.wt_promise.proofs.Actions.{any-join_all, or-assoc}
use Rattle.wt_promise.proofs.Opened.{open-before}
use Rattle.wt_promise.specs.Promise.{IsHistory}
use Rattle.wt_turn.specs.Arrivals.{event_entry}
use Rattle.wt_turn.specs.Joined.{join_all, newest_first}
use Rattle.wt_turn.specs.Streams as streams
use Rattle.wt_sessions.specs.Answers.{log_after}
use Rattle.wt_sessions.specs.Driver.{apply_if, call_view, flush, is_moment, log_and_flush, pending_actions, stream_table, transport_view}
use Rattle.wt_sessions.specs.StreamTable.{CallView}
use Rattle.wt_sessions_agree.proofs.Basics.{or-turned}
use Rattle.wt_sessions_agree.proofs.CameAgrees.{acted-contents, acted-events, flushed, is_single, turn_agrees}
use Rattle.wt_sessions_agree.proofs.OutLaws.{acted}
use Rattle.wt_sessions_agree.proofs.TurnAnswers.{done-next, sends-now, turn-agrees-by}
use Rattle.wt_sessions_agree.proofs.TurnFinds.{finds-alike, orderly-then, sees-alike, table-same}
use Rattle.wt_sessions_agree.proofs.TurnKeeps.{calls-after, count-after, sessions-after, single-plain, turn-calls, view-of}
use Rattle.wt_sessions_agree.specs.Agreement.{TurnAgrees}
use Rattle.wt_sessions_agree.specs.Agrees.{Agrees, IsTable}
use Rattle.wt_sessions_agree.specs.Members.{MembersIn}
use Rattle.wt_sessions_agree.specs.Orderly.{Orderly}
use Rattle.wt_sessions_agree.specs.Stands.{CallsAgree, SeesAlike, Stands}
use Rattle.wt_turn.specs.Log.{CallRecord, Entry, Event, Log, Received, Reported, ReportedLate, Sent, actions_of, calls_of, closes, events_of, with_actions}
use Rattle.wt_turn.specs.Log as logs
use Rattle.wt_turn.specs.declared.action.Action.{Action}
use Rattle.wt_turn.specs.declared.turn.Turn.{Turn}
use Rattle.wt_wire.specs.declared.side.Side.{Side}
use Rattle.wt_turn.specs.declared.reply.Reply.TheVariants as replies
use Rattle.wt_turn.specs.declared.turn.Turn.TheVariants as turns

-- ---- what an entry's moment sends

abbrev sent-entry : Side → Log → Entry → List Action
sent-entry side log e = if is_moment e && logs.is_open (e ∷ log) then pending_actions side (e ∷ log) else []

pub flush-as : (side : Side) (log : Log) (e : Entry) → log_and_flush side log e ≡ with_actions (sent-entry side log e) (e ∷ log)
unfolding flush
flush-as side log e = by (is_moment e && logs.is_open (e ∷ log))
  where
    by : (b : Bool) → apply_if b (with_actions (pending_actions side (e ∷ log))) (e ∷ log) ≡ with_actions (if b then pending_actions side (e ∷ log) else []) (e ∷ log)
    by true = refl
    by false = refl

-- ---- both end alike

pub ended-acted : (xs : List Action) (log : Log) → list_any logs.ends_by (with_actions xs log) ≡ (list_any closes xs || list_any logs.ends_by log)
ended-acted [] log = refl
ended-acted (a ∷ xs) log = ended-acted xs (Sent a ∷ log) ∙ or-turned (list_any closes xs) (closes a) (list_any logs.ends_by log) ∙ or-assoc (closes a) (list_any closes xs) (list_any logs.ends_by log)

pub open-after : (h : History) (log : Log) (turn : Turn) (e : Event) (xs : List Action) → loses turn ≡ logs.loses e → is_open h ≡ logs.is_open log
    → is_open (with_pair h turn (answer replies.Done (join_all [] xs))) ≡ logs.is_open (with_actions xs (event_entry (logs.is_open log) e ∷ log))
open-after h log turn e xs l o =
    ap (λ (b : Bool). not ((loses turn || b) || list_any ends_by h)) (any-join_all closes (λ i p q. refl) [] xs)
    ∙ ap (λ (b : Bool). not ((b || list_any closes xs) || list_any ends_by h)) l
    ∙ by (list_any ends_by h) (list_any logs.ends_by log) o (logs.loses e) refl (list_any closes xs)
    ∙ ap not (sym (ended-acted xs (event_entry (logs.is_open log) e ∷ log)))
  where
    by : (a b : Bool) → not a ≡ not b → (c : Bool) → logs.loses e ≡ c → (s : Bool) → not ((logs.loses e || s) || a) ≡ not (s || (logs.ends_by (event_entry (not b) e) || b))
    by false false q true m true = rw m refl
    by false false q true m false = rw m refl
    by false false q false m true = rw m refl
    by false false q false m false = rw m refl
    by true true q true m true = rw m refl
    by true true q true m false = rw m refl
    by true true q false m true = rw m refl
    by true true q false m false = rw m refl
    by true false q c m s = absurd (cc q)
    by false true q c m s = absurd (cc q)

-- where nothing but a close in what goes out ends the connection, both end alike
pub closes-alike : (h : History) (log : Log) (xs : List Action) → is_open h ≡ logs.is_open log
    → not ((false || list_any closes xs) || list_any ends_by h) ≡ not (list_any closes xs || list_any logs.ends_by log)
closes-alike h log xs o = by (list_any ends_by h) (list_any logs.ends_by log) o (list_any closes xs)
  where
    by : (a c : Bool) → not a ≡ not c → (s : Bool) → not ((false || s) || a) ≡ not (s || c)
    by true true q s = refl
    by false false q s = refl
    by true false q s = absurd (cc q)
    by false true q s = absurd (cc q)

pub open-byte : (h : History) (log : Log) (id b : ℕ) (xs : List Action) → is_open h ≡ logs.is_open log
    → is_open (with_pair h (turns.Bytes id (b ∷ [])) (answer replies.Done (join_all [] xs))) ≡ logs.is_open (with_actions xs (Received id b ∷ log))
open-byte h log id b xs o =
    ap (λ (c : Bool). not ((false || c) || list_any ends_by h)) (any-join_all closes (λ i p q. refl) [] xs) ∙ closes-alike h log xs o ∙ ap not (sym (ended-acted xs (Received id b ∷ log)))

-- what is closed stays closed
pub closed-more : (h : History) (p : Pair) → is_open h ≡ false → is_open (p ∷ h) ≡ false
closed-more h p o = by (is_open (p ∷ h)) refl
  where
    by : (b : Bool) → is_open (p ∷ h) ≡ b → b ≡ false
    by false q = refl
    by true q = absurd (let r = open-before p h q in cc (sym r ∙ o))

-- nothing goes out then
pub none-now : (side : Side) (h : History) (turn : Turn) → is_open (with_pair h turn (answer replies.Done [])) ≡ false → sends-now side h turn ≡ []
none-now side h turn o = rw o refl

-- ---- the turn

module _ (side : Side) (offset : ℕ → ℕ) (h : History) (log : Log) (x : Stands side offset h log) (hist : IsHistory side h) (turn : Turn) (single : is_single turn ≡ true)
    (lawful : is_lawful side h turn ≡ true) where
  abbrev pair : Pair
  pair = record { turn = turn; answer = answer replies.Done (join_all [] (sends-now side h turn)) }

  step-is : step side h turn ≡ pair ∷ h
  step-is = ap (with_pair h turn) (done-next side h turn single)

  -- what holds of the pair's history holds of the next one
  agrees-by : actions_of (log_after side log turn) ≡ newest_first (sends-now side h turn) (actions_of log) → is_open (pair ∷ h) ≡ logs.is_open (log_after side log turn)
      → IsTable (findings side (pair ∷ h)) (stream_table side (log_after side log turn)) → Orderly side (pair ∷ h) (call_view (log_after side log turn)) offset (findings side (pair ∷ h))
      → MembersIn side (step side h turn) (call_view (log_after side log turn)) (findings side (step side h turn))
      → TurnAgrees side h log turn
  agrees-by sent opened table orderly members =
      turn-agrees-by side offset h log x hist turn single lawful sent (ap is_open step-is ∙ opened)
      (subst (λ (g : History). IsTable (findings side g) (stream_table side (log_after side log turn))) (sym step-is) table)
      (subst (λ (g : History). Orderly side g (call_view (log_after side log turn)) offset (findings side g)) (sym step-is) orderly) members

  -- where nothing is left in the log, as of a byte after the end
  pub leaves-nothing : log_after side log turn ≡ log → sends-now side h turn ≡ [] → findings side (pair ∷ h) ≡ findings side h → is_open (pair ∷ h) ≡ logs.is_open log
      → Orderly side (pair ∷ h) (call_view log) offset (findings side h)
      → MembersIn side (step side h turn) (call_view (log_after side log turn)) (findings side (step side h turn))
      → TurnAgrees side h log turn
  leaves-nothing same none found opened orderly members =
      agrees-by (ap actions_of same ∙ ap (λ (as_ : List Action). newest_first as_ (actions_of log)) (sym none)) (opened ∙ ap logs.is_open (sym same))
      (subst (λ (l : Log). IsTable (findings side (pair ∷ h)) (stream_table side l)) (sym same) (subst (λ (found : List Finding). IsTable found (stream_table side log)) (sym found) x.table))
      (subst (λ (l : Log). Orderly side (pair ∷ h) (call_view l) offset (findings side (pair ∷ h))) (sym same) (subst (Orderly side (pair ∷ h) (call_view log) offset) (sym found) orderly)) members

  -- an entry is left, which is no call's, and what is sent at its moment
  module _ (entry : Entry) (after-is : log_after side log turn ≡ log_and_flush side log entry) (called : calls_of (entry ∷ log) ≡ calls_of log) (told : actions_of (entry ∷ log) ≡ actions_of log)
      (sends : sent-entry side log entry ≡ sends-now side h turn) (ends : is_open (pair ∷ h) ≡ logs.is_open (with_actions (sends-now side h turn) (entry ∷ log)))
      (orderly : Orderly side (pair ∷ h) (call_view (entry ∷ log)) offset (findings side h))
      (members : MembersIn side (step side h turn) (call_view (log_after side log turn)) (findings side (step side h turn))) where
    same-log : log_after side log turn ≡ with_actions (sends-now side h turn) (entry ∷ log)
    same-log = after-is ∙ flush-as side log entry ∙ ap (λ (as_ : List Action). with_actions as_ (entry ∷ log)) sends

    opened : is_open (pair ∷ h) ≡ logs.is_open (log_after side log turn)
    opened = ends ∙ ap logs.is_open (sym same-log)

    entry-agrees : IsTable (findings side (pair ∷ h)) (stream_table side (log_and_flush side log entry)) → Orderly side (pair ∷ h) (call_view (entry ∷ log)) offset (findings side (pair ∷ h))
        → TurnAgrees side h log turn
    entry-agrees table found =
        agrees-by (ap actions_of same-log ∙ acted (sends-now side h turn) (entry ∷ log) ∙ ap (newest_first (sends-now side h turn)) told) opened
        (subst (λ (l : Log). IsTable (findings side (pair ∷ h)) (stream_table side l)) (sym after-is) table)
        (subst (λ (v : CallView). Orderly side (pair ∷ h) v offset (findings side (pair ∷ h))) (ap view-of (called ∙ sym (turn-calls side log turn single))) found) members

    -- nothing is found in either
    pub finds-nothing : findings side (pair ∷ h) ≡ findings side h → (is_moment entry && logs.is_open (entry ∷ log)) ≡ false → TurnAgrees side h log turn
    finds-nothing found moment =
        entry-agrees (subst (IsTable (findings side (pair ∷ h))) (sym (table-same side log entry moment)) (subst (λ (found : List Finding). IsTable found (stream_table side log)) (sym found) x.table))
        (subst (Orderly side (pair ∷ h) (call_view (entry ∷ log)) offset) (sym found) orderly)

    -- while the connection is open the entry is a moment
    pub at-moment : is_open h ≡ true → (is_moment entry && logs.is_open (entry ∷ log)) ≡ true → TurnAgrees side h log turn
    at-moment o moment = entry-agrees (finds-alike side offset pair h log entry refl o moment alike orderly x.table) (orderly-then side offset pair h (call_view (entry ∷ log)) refl o orderly)
      where
        came : Agrees (pair ∷ h) (log_after side log turn)
        came = turn_agrees side h log turn (answer replies.Done (join_all [] (sends-now side h turn))) single x.came opened

        at : events (pair ∷ h) ≡ events_of (entry ∷ log)
        at = came.events ∙ ap events_of after-is ∙ flushed events_of acted-events side entry log

        bytes : (k : ℕ) → contents (pair ∷ h) k ≡ streams.contents (entry ∷ log) k
        bytes k = came.contents k ∙ ap (λ (l : Log). streams.contents l k) after-is ∙ flushed (λ l. streams.contents l k) (λ own l. acted-contents own l k) side entry log

        calls : CallsAgree (pair ∷ h) (call_view (entry ∷ log))
        calls = calls-after side offset h log x turn (single-plain turn single) (sends-now side h turn) (entry ∷ log) called

        alike : SeesAlike side (pair ∷ h) (transport_view side (entry ∷ log)) (call_view (entry ∷ log)) offset
        alike = sees-alike side offset (pair ∷ h) (entry ∷ log) at bytes calls
            (sessions-after side offset h log x turn (single-plain turn single) (sends-now side h turn) (entry ∷ log) called
            (count-after side offset h log x turn (single-plain turn single) (sends-now side h turn)))
