-- Each turn of the transport agrees.
use Rattle.std.specs.Prelude.{[], ◌&&◌, ◌++◌, ◌==◌, ◌∷◌, ◌||◌, ◌≡◌, Bool, List, Some, false, if◌then◌else◌, not, true, ℕ}
use Rattle.std.specs.List.{list_any}
use Rattle.std.proofs.Common.{◌∙◌, ap, refl, subst, sym}
use Rattle.wt_meaning.specs.History.{History, Pair, actions_out, all_events, contents, ends_by, events, is_open, loses, with_bytes, with_event}
use Rattle.wt_meaning.specs.Lawful.{is_lawful}
use Rattle.wt_meaning.specs.Meaning.{own_answer, step, with_pair}
use Rattle.wt_meaning.specs.Moments.{after_checks, checks, findings}
use Rattle.wt_meaning.specs.Rows.{answer}
use Rattle.wt_meaning.specs.Sends.{moment_actions}
use Rattle.wt_promise.specs.Promise.{IsHistory}
use Rattle.wt_turn.specs.Arrivals.{event_entry}
use Rattle.wt_turn.specs.Joined.{join_all}
use Rattle.wt_turn.specs.Streams as streams
use Rattle.wt_sessions.specs.Answers.{log_after}
use Rattle.wt_sessions.specs.Driver.{call_view, is_moment, log_and_flush, pending_actions, transport_view}
use Rattle.wt_sessions_agree.proofs.CameAgrees.{is_single}
use Rattle.wt_sessions_agree.proofs.EntryTurns.{at-moment, closed-more, finds-nothing, leaves-nothing, none-now, open-after, open-byte}
use Rattle.wt_sessions_agree.proofs.HalvesAlike.{halves-seen}
use Rattle.wt_sessions_agree.proofs.MembersBefore.{good-before, members-moment}
use Rattle.wt_sessions_agree.proofs.MembersKept.{Good}
use Rattle.wt_sessions_agree.proofs.MembersTurns.{members-plain}
use Rattle.wt_sessions_agree.proofs.OrderTurns.{order-plain}
use Rattle.wt_sessions_agree.proofs.PendingLaws.{sends-alike}
use Rattle.wt_sessions_agree.proofs.RestTurns.{idle-loss}
use Rattle.wt_sessions_agree.proofs.TurnAnswers.{done-next, sends-now}
use Rattle.wt_sessions_agree.proofs.TurnFinds.{found-same, found-then, sees-alike}
use Rattle.wt_sessions_agree.proofs.TurnKeeps.{calls-after, count-after, entry-actions, entry-calls, halves-after, out-after, sessions-after, single-plain, turn-calls}
use Rattle.wt_sessions_agree.specs.Agreement.{TurnAgrees}
use Rattle.wt_sessions_agree.specs.Members.{HalvesSeen, MembersIn}
use Rattle.wt_sessions_agree.specs.Orderly.{Orderly}
use Rattle.wt_sessions_agree.specs.Stands.{CallsAgree, HalvesAgree, SameOut, SeesAlike, Stands}
use Rattle.wt_turn.specs.Log.{Entry, Event, Log, Loss, Received, Reported, ReportedLate, actions_of, all_events_of, calls_of, events_of, with_actions}
use Rattle.wt_turn.specs.Log as logs
use Rattle.wt_turn.specs.Turns.{event_of, is_call}
use Rattle.wt_turn.specs.declared.answer.Answer.{Answer}
use Rattle.wt_turn.specs.declared.loss.LossReason.{LossReason}
use Rattle.wt_turn.specs.declared.turn.Turn.{Turn}
use Rattle.wt_wire.specs.declared.side.Side.{Side}
use Rattle.wt_turn.specs.declared.reply.Reply.TheVariants as replies
use Rattle.wt_turn.specs.declared.turn.Turn.TheVariants as turns

-- ---- what goes out at its moment

module _ (side : Side) (offset : ℕ → ℕ) (h : History) (log : Log) (x : Stands side offset h log) (hist : IsHistory side h) (members : MembersIn side h (call_view log) (findings side h))
    (turn : Turn) (plain : is_call turn ≡ false) (lawful : is_lawful side h turn ≡ true) (own-is : own_answer side h turn ≡ answer replies.Done []) where
  -- the pair before anything goes out, and the history with it
  abbrev bare : Pair
  bare = record { turn = turn; answer = answer replies.Done [] }

  module _ (e : Entry) (called : calls_of (e ∷ log) ≡ calls_of log) (acted : actions_of (e ∷ log) ≡ actions_of log) (at : events (bare ∷ h) ≡ events_of (e ∷ log))
      (all : all_events (bare ∷ h) ≡ all_events_of (e ∷ log)) (bytes : (k : ℕ) → contents (bare ∷ h) k ≡ streams.contents (e ∷ log) k) where
    orderly : Orderly side (bare ∷ h) (call_view (e ∷ log)) offset (findings side h)
    orderly = order-plain side offset h log hist x turn plain lawful [] (e ∷ log) called

    good : Good side (bare ∷ h) (call_view (e ∷ log)) (findings side h)
    good =
        let same : with_pair h turn (answer (own_answer side h turn).reply []) ≡ bare ∷ h = ap (λ (a : Answer). with_pair h turn (answer a.reply [])) own-is in
        subst (λ (g : History). Good side g (call_view (e ∷ log)) (findings side h)) same
        (good-before side h turn hist lawful [] (call_view (e ∷ log))
        (subst (λ (g : History). MembersIn side g (call_view (e ∷ log)) (findings side h)) (sym same) (members-plain side h log (e ∷ log) turn [] hist called members)))

    out : SameOut (actions_out (bare ∷ h)) (actions_of (e ∷ log))
    out = out-after side offset h log x turn plain [] (e ∷ log) called acted

    halves : HalvesAgree (bare ∷ h) (e ∷ log)
    halves = halves-after side offset h log x turn plain [] (e ∷ log) called acted

    seen : HalvesSeen side (bare ∷ h) (transport_view side (e ∷ log))
    seen = halves-seen side (bare ∷ h) (e ∷ log) at all out halves.given_up halves.reset

    calls : CallsAgree (bare ∷ h) (call_view (e ∷ log))
    calls = calls-after side offset h log x turn plain [] (e ∷ log) called

    alike : SeesAlike side (bare ∷ h) (transport_view side (e ∷ log)) (call_view (e ∷ log)) offset
    alike = sees-alike side offset (bare ∷ h) (e ∷ log) at bytes calls (sessions-after side offset h log x turn plain [] (e ∷ log) called (count-after side offset h log x turn plain []))

    entry-sends : is_open (bare ∷ h) ≡ true → (is_moment e && logs.is_open (e ∷ log)) ≡ true → pending_actions side (e ∷ log) ≡ moment_actions side (bare ∷ h)
    entry-sends opened moment = sends-alike side offset bare h hist log e opened moment at out alike seen orderly good x.table

-- ---- what a turn keeps of the streams of sessions

module _ (side : Side) (offset : ℕ → ℕ) (h : History) (log : Log) (x : Stands side offset h log) (hist : IsHistory side h) (members : MembersIn side h (call_view log) (findings side h))
    (turn : Turn) (single : is_single turn ≡ true) (lawful : is_lawful side h turn ≡ true) where
  abbrev pair : Pair
  pair = record { turn = turn; answer = answer replies.Done (join_all [] (sends-now side h turn)) }

  members-after : MembersIn side (step side h turn) (call_view (log_after side log turn)) (findings side (step side h turn))
  members-after = members-moment side h turn hist lawful (call_view (log_after side log turn))
      (subst (λ (g : History). MembersIn side g (call_view (log_after side log turn)) (findings side h)) (sym (ap (with_pair h turn) (done-next side h turn single)))
      (members-plain side h log (log_after side log turn) turn (join_all [] (sends-now side h turn)) hist (turn-calls side log turn single) members))

  ordered : (log2 : Log) → calls_of log2 ≡ calls_of log → Orderly side (pair ∷ h) (call_view log2) offset (findings side h)
  ordered log2 called = order-plain side offset h log hist x turn (single-plain turn single) lawful (sends-now side h turn) log2 called

  -- ---- an event

  module _ (e : Event) (told : event_of turn ≡ Some e) (no-bytes : (k : ℕ) (before : List ℕ) → with_bytes k turn before ≡ before) (own-is : own_answer side h turn ≡ answer replies.Done [])
      (after-is : log_after side log turn ≡ log_and_flush side log (event_entry (logs.is_open log) e)) (same-end : loses turn ≡ logs.loses e) where
    abbrev entry : Entry
    entry = event_entry (logs.is_open log) e

    called : calls_of (entry ∷ log) ≡ calls_of log
    called = entry-calls (logs.is_open log) e log

    acted : actions_of (entry ∷ log) ≡ actions_of log
    acted = entry-actions (logs.is_open log) e log

    ends : is_open (pair ∷ h) ≡ logs.is_open (with_actions (sends-now side h turn) (entry ∷ log))
    ends = open-after h log turn e (sends-now side h turn) same-end x.came.openness

    abbrev first : Pair
    first = record { turn = turn; answer = answer replies.Done [] }

    at : events (first ∷ h) ≡ events_of (entry ∷ log)
    at = by (is_open h) (logs.is_open log) x.came.openness
      where
        by : (b c : Bool) → b ≡ c → (if b then with_event (event_of turn) (events h) else events h) ≡ events_of (event_entry c e ∷ log)
        by true true q = rw told (ap (λ es. e ∷ es) x.came.events)
        by false false q = x.came.events
        by true false q = absurd (cc q)
        by false true q = absurd (cc q)

    all : all_events (first ∷ h) ≡ all_events_of (entry ∷ log)
    all = by (logs.is_open log)
      where
        by : (c : Bool) → all_events (first ∷ h) ≡ all_events_of (event_entry c e ∷ log)
        by true = rw told (ap (λ es. e ∷ es) x.came.all_events)
        by false = rw told (ap (λ es. e ∷ es) x.came.all_events)

    bytes : (k : ℕ) → contents (first ∷ h) k ≡ streams.contents (entry ∷ log) k
    bytes k = by (is_open h) (logs.is_open log)
      where
        by : (b c : Bool) → (if b then with_bytes k turn (contents h k) else contents h k) ≡ streams.contents (event_entry c e ∷ log) k
        by true true = no-bytes k (contents h k) ∙ x.came.contents k
        by true false = no-bytes k (contents h k) ∙ x.came.contents k
        by false true = x.came.contents k
        by false false = x.came.contents k

    -- where the connection has ended nothing is found or sent
    silent : is_open (first ∷ h) ≡ false → (is_moment entry && logs.is_open (entry ∷ log)) ≡ false → findings side (pair ∷ h) ≡ findings side h → TurnAgrees side h log turn
    silent shut m found =
        finds-nothing side offset h log x hist turn single lawful entry after-is called acted
        (ap (λ (b : Bool). if b then pending_actions side (entry ∷ log) else []) m ∙ sym (none-now side h turn shut)) ends (ordered (entry ∷ log) called) members-after found m

    event-late : is_open h ≡ false → TurnAgrees side h log turn
    event-late o =
        silent (closed-more h first o) (ap (λ (b : Bool). is_moment (event_entry b e) && logs.is_open (event_entry b e ∷ log)) (sym x.came.openness ∙ o)) (found-same side pair h o)

    -- whether the entry is a moment while the connection was open
    moment-here : is_open h ≡ true → (b : Bool) → loses turn ≡ b → (is_moment entry && logs.is_open (entry ∷ log)) ≡ not (b || list_any logs.ends_by log)
    moment-here o b l =
        ap (λ (c : Bool). is_moment (event_entry c e) && logs.is_open (event_entry c e ∷ log)) (sym x.came.openness ∙ o) ∙ ap (λ (c : Bool). not (c || list_any logs.ends_by log)) (sym same-end ∙ l)

    -- a loss, where its moment finds nothing
    event-loses : loses turn ≡ true → is_open h ≡ true → after_checks side (pair ∷ h) (checks side (pair ∷ h)) (findings side h) ≡ findings side h → TurnAgrees side h log turn
    event-loses l o idle = silent (ap (λ (b : Bool). not ((b || false) || list_any ends_by h)) l) (moment-here o true l) (found-then side pair h refl o ∙ idle)

    -- any other event
    event-turn : loses turn ≡ false → TurnAgrees side h log turn
    event-turn l = by (is_open h) refl
      where
        by : (b : Bool) → is_open h ≡ b → TurnAgrees side h log turn
        by false o = event-late o
        by true o =
            let m : (is_moment entry && logs.is_open (entry ∷ log)) ≡ true = moment-here o false l ∙ sym x.came.openness ∙ o in
            let opened : is_open (first ∷ h) ≡ true = ap (λ (b : Bool). not ((b || false) || list_any ends_by h)) l ∙ o in
            at-moment side offset h log x hist turn single lawful entry after-is called acted
            (ap (λ (b : Bool). if b then pending_actions side (entry ∷ log) else []) m
            ∙ entry-sends side offset h log x hist members turn (single-plain turn single) lawful own-is entry called acted at all bytes opened m)
            ends (ordered (entry ∷ log) called) members-after o m

-- ---- every turn

module _ (side : Side) (offset : ℕ → ℕ) (h : History) (log : Log) (x : Stands side offset h log) (hist : IsHistory side h) (members : MembersIn side h (call_view log) (findings side h)) where
  byte-turn : (id b : ℕ) → is_lawful side h (turns.Bytes id (b ∷ [])) ≡ true → TurnAgrees side h log (turns.Bytes id (b ∷ []))
  byte-turn id b lawful = by (is_open h) refl
    where
      kept : MembersIn side (step side h (turns.Bytes id (b ∷ []))) (call_view (log_after side log (turns.Bytes id (b ∷ [])))) (findings side (step side h (turns.Bytes id (b ∷ []))))
      kept = members-after side offset h log x hist members (turns.Bytes id (b ∷ [])) refl lawful

      pair : Pair
      pair = record { turn = turns.Bytes id (b ∷ []); answer = answer replies.Done (join_all [] (sends-now side h (turns.Bytes id (b ∷ [])))) }

      after-by : (o : Bool) → logs.is_open log ≡ o → log_after side log (turns.Bytes id (b ∷ [])) ≡ (if o then log_and_flush side log (Received id b) else log)
      after-by o p = ap (λ (c : Bool). if c then log_and_flush side log (Received id b) else log) p

      -- after the end it counts for nothing
      by : (o : Bool) → is_open h ≡ o → TurnAgrees side h log (turns.Bytes id (b ∷ []))
      by false o =
          let p : logs.is_open log ≡ false = sym x.came.openness ∙ o in
          leaves-nothing side offset h log x hist (turns.Bytes id (b ∷ [])) refl lawful (after-by false p)
          (none-now side h (turns.Bytes id (b ∷ [])) (closed-more h (record { turn = turns.Bytes id (b ∷ []); answer = answer replies.Done [] }) o)) (found-same side pair h o)
          (closed-more h pair o ∙ sym p)
          (ordered side offset h log x hist members (turns.Bytes id (b ∷ [])) refl lawful log refl) kept
      by true o =
          let p : logs.is_open log ≡ true = sym x.came.openness ∙ o in
          at-moment side offset h log x hist (turns.Bytes id (b ∷ [])) refl lawful (Received id b) (after-by true p) refl refl
          (ap (λ (c : Bool). if c then pending_actions side (Received id b ∷ log) else []) p
          ∙ entry-sends side offset h log x hist members (turns.Bytes id (b ∷ [])) refl lawful refl (Received id b) refl refl (at o) x.came.all_events bytes o p)
          (open-byte h log id b (sends-now side h (turns.Bytes id (b ∷ []))) x.came.openness)
          (ordered side offset h log x hist members (turns.Bytes id (b ∷ [])) refl lawful (Received id b ∷ log) refl) kept o p
        where
          at : is_open h ≡ true → (if is_open h then events h else events h) ≡ events_of log
          at q = ap (λ (c : Bool). if c then events h else events h) q ∙ x.came.events

          bytes : (k : ℕ) → (if is_open h then (if id == k then contents h k ++ b ∷ [] else contents h k) else contents h k) ≡ streams.contents (Received id b ∷ log) k
          bytes k = ap (λ (c : Bool). if c then (if id == k then contents h k ++ b ∷ [] else contents h k) else contents h k) o ∙ one (id == k)
            where
              one : (c : Bool) → (if c then contents h k ++ b ∷ [] else contents h k) ≡ (if c then streams.contents log k ++ b ∷ [] else streams.contents log k)
              one true = ap (λ (bytes : List ℕ). bytes ++ b ∷ []) (x.came.contents k)
              one false = x.came.contents k

  loss-turn : (reason : LossReason) → is_lawful side h (turns.Loss reason) ≡ true → TurnAgrees side h log (turns.Loss reason)
  loss-turn reason lawful = by (is_open h) refl
    where
      by : (o : Bool) → is_open h ≡ o → TurnAgrees side h log (turns.Loss reason)
      by false o = event-late side offset h log x hist members (turns.Loss reason) refl lawful (Loss reason) refl (λ k before. refl) refl refl refl o
      by true o =
          event-loses side offset h log x hist members (turns.Loss reason) refl lawful (Loss reason) refl (λ k before. refl) refl refl refl refl o
          (idle-loss side h (record { turn = turns.Loss reason; answer = answer replies.Done (join_all [] (sends-now side h (turns.Loss reason))) }) hist o refl reason refl)

  pub transport-turn : (turn : Turn) → is_single turn ≡ true → is_lawful side h turn ≡ true → TurnAgrees side h log turn
  transport-turn (turns.Bytes id (b ∷ [])) s l = byte-turn id b l
  transport-turn (turns.Bytes id (b ∷ c ∷ later)) s l = absurd (cc s)
  transport-turn (turns.Bytes id []) s l = absurd (cc s)
  transport-turn (turns.Call call) s l = absurd (cc s)
  transport-turn (turns.Loss reason) s l = loss-turn reason l
  transport-turn turn s l = event-turn side offset h log x hist members turn refl l _ refl (λ k before. refl) refl refl refl refl
