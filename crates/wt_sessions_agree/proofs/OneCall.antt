-- Each call agrees.
use Rattle.std.specs.Prelude.{◌&&◌, ◌++◌, ◌+◌, ◌∷◌, ◌||◌, ◌≡◌, Bool, List, None, Option, Some, false, filter_map, not, take, true, unwrap_or, ℕ}
use Rattle.std.specs.List.{list_any}
use Rattle.std.proofs.Common.{◌∙◌, ap, refl, subst, sym}
use Rattle.std.proofs.lemmas.List.Folds.{list_any-append}
use Rattle.wt_meaning.specs.Findings.{Finding}
use Rattle.wt_meaning.specs.Handshakes.{acceptance_frame, head_left, is_opened, last_begun, send}
use Rattle.wt_meaning.specs.History.{History, Pair, actions_out, all_events, contents, credit_left, events, is_given_up, is_open, is_reset, is_reset_of, stream_count}
use Rattle.wt_meaning.specs.Lawful.{is_lawful}
use Rattle.wt_meaning.specs.Meaning.{own_answer, step}
use Rattle.wt_meaning.specs.Moments.{after_checks, checks, findings, ids_from}
use Rattle.wt_meaning.specs.Sends.{action_if, moment_actions}
use Rattle.wt_meaning.specs.Windows.{is_established, last_request, session_in}
use Rattle.wt_promise.proofs.Actions.{none-append, none-if, none-sent, opened-next, or-assoc}
use Rattle.wt_promise.proofs.Few.{APoll, AnAccept, SessionCall, session-call}
use Rattle.wt_promise.proofs.Sessions.{Accepted, AcceptGives, ConnectGives, Connected, PollGives, accept-gives, poll-gives}
use Rattle.wt_promise.proofs.Tables.{fits-own}
use Rattle.wt_promise.proofs.OwnForms.{head_of}
use Rattle.wt_promise.specs.Promise.{IsHistory}
use Rattle.wt_turn.specs.Sent as sends
use Rattle.wt_turn.specs.Streams as streams
use Rattle.wt_sessions.specs.Answers.{call_effect}
use Rattle.wt_sessions.specs.Driver.{call_view, gives_up, is_moment, log_and_flush, pending_actions, stream_table, transport_view}
use Rattle.wt_sessions.specs.StreamTable.{CallView, was_established}
use Rattle.wt_sessions_agree.proofs.AnswerLaws.{sent-then}
use Rattle.wt_sessions_agree.proofs.Basics.{or-turned}
use Rattle.wt_sessions_agree.proofs.CallKeeps.{accepted-after, call-keeps, ended-after, given_up-after, reset-from}
use Rattle.wt_sessions_agree.proofs.CallTells.{reset-goes}
use Rattle.wt_sessions_agree.proofs.CallTurns as plain
use Rattle.wt_sessions_agree.proofs.CameAgrees.{acted-all, acted-contents, acted-events, called-contents, called-events, flushed}
use Rattle.wt_sessions_agree.proofs.DoneStays.{told-resets}
use Rattle.wt_sessions_agree.proofs.DueEnds.{ends-hold}
use Rattle.wt_sessions_agree.proofs.EntryTurns.{ended-acted, flush-as}
use Rattle.wt_sessions_agree.proofs.HalvesAlike.{halves-seen}
use Rattle.wt_sessions_agree.proofs.HandshakeTurns.{shake-call}
use Rattle.wt_sessions_agree.proofs.LawfulLaws.{lawful-agrees}
use Rattle.wt_sessions_agree.proofs.MembersBefore.{good-before, members-moment}
use Rattle.wt_sessions_agree.proofs.MembersKept.{Good}
use Rattle.wt_sessions_agree.proofs.MembersTurns.{members-call, members-own}
use Rattle.wt_sessions_agree.proofs.OrderTurns.{order-call, order-session}
use Rattle.wt_sessions_agree.proofs.OutLaws.{acted, any-newest, same-raw}
use Rattle.wt_sessions_agree.proofs.PendingLaws.{sends-alike}
use Rattle.wt_sessions_agree.proofs.RestTurns.{idle-call}
use Rattle.wt_sessions_agree.proofs.RowsAgree.{call-agrees}
use Rattle.wt_sessions_agree.proofs.SessionTurns.{calls-established, session-reply, sessions-call, sessions-session, with-offset}
use Rattle.wt_sessions_agree.proofs.TurnFinds.{acted-table, sees-alike}
use Rattle.wt_sessions_agree.proofs.TurnKeeps.{acted-calls, flushed-first, resets-apart, unsent-reset, view-of}
use Rattle.wt_sessions_agree.specs.Agreement.{Agree, TurnAgrees}
use Rattle.wt_sessions_agree.specs.Agrees.{IsTable}
use Rattle.wt_sessions_agree.specs.Members.{HalvesSeen, MembersIn}
use Rattle.wt_sessions_agree.specs.Orderly.{Orderly, begins_at, session_at}
use Rattle.wt_sessions_agree.specs.Records.{effect_of, record_of}
use Rattle.wt_sessions_agree.specs.Stands.{CallsAgree, SameOut, SeesAlike, Stands}
use Rattle.wt_turn.specs.Log.{CallRecord, Called, Log, Polled, actions_of, all_events_of, calls_of, closes, events_of, with_actions}
use Rattle.wt_turn.specs.Log as logs
use Rattle.wt_turn.specs.declared.action.Action.{Action}
use Rattle.wt_turn.specs.declared.answer.Answer.{Answer}
use Rattle.wt_turn.specs.declared.call.Call.{Call}
use Rattle.wt_wire.specs.HeaderList.{Fields}
use Rattle.wt_wire.specs.declared.side.Side.{Side}
use Rattle.wt_turn.specs.declared.action.Action.TheVariants as actions
use Rattle.wt_turn.specs.declared.reply.Reply.TheVariants as replies
use Rattle.wt_turn.specs.declared.turn.Turn.TheVariants as turns

-- ---- a session is given while the connection is open, and its call closes nothing

record GivesOpen (h : History) (a : Answer) : Type 0 where
  opened : is_open h ≡ true
  closes-none : list_any closes a.actions ≡ false

sent-none : (h : History) (k : ℕ) (left : List ℕ) → list_any closes (send h k left) ≡ false
sent-none h k left = none-sent closes k (take (credit_left h k) left) (λ p. refl)

open-accept : (h : History) (headers : Fields) (s : ℕ) (a : Answer) → AcceptGives h headers s a → GivesOpen h a
open-accept h headers s a g = record {
  opened = g.open_then;
  closes-none = ap (list_any closes) g.acts ∙ sent-none h (unwrap_or (last_request h) 0) (head_left h (unwrap_or (last_request h) 0) (acceptance_frame headers));
}

open-connect : (side : Side) (h : History) (frame : List ℕ) (s : ℕ) (a : Answer) → ConnectGives side h frame s a → GivesOpen h a
open-connect side h frame s a g = record {
  opened = g.open_then;
  closes-none = ap (list_any closes) g.acts
      ∙ none-append closes (action_if (not (is_opened h)) (actions.Opened 0)) (send h 0 (head_left h 0 frame)) (none-if closes (not (is_opened h)) (actions.Opened 0) refl)
      (sent-none h 0 (head_left h 0 frame));
}

open-poll : (side : Side) (h : History) (s : ℕ) (a : Answer) (o : Option Call) → PollGives side h s a o → GivesOpen h a
open-poll side h s a o (Accepted headers m g) = open-accept h headers s a g
open-poll side h s a o (Connected c m q g) = open-connect side h (head_of (Some c)) s a g

gives-open : (side : Side) (h : History) (c : Call) (s : ℕ) → session_in (own_answer side h (turns.Call c)).reply ≡ Some s → GivesOpen h (own_answer side h (turns.Call c))
gives-open side h c s e = by c (session-call c (own_answer side h (turns.Call c)).reply s (fits-own side h c) e) e
  where
    by : (d : Call) → SessionCall d → session_in (own_answer side h (turns.Call d)).reply ≡ Some s → GivesOpen h (own_answer side h (turns.Call d))
    by d (AnAccept headers q) f =
        subst (λ (x : Call). GivesOpen h (own_answer side h (turns.Call x))) (sym q)
        (open-accept h headers s _ (accept-gives side h headers s (ap (λ (x : Call). session_in (own_answer side h (turns.Call x)).reply) (sym q) ∙ f)))
    by d (APoll q) f =
        subst (λ (x : Call). GivesOpen h (own_answer side h (turns.Call x))) (sym q)
        (open-poll side h s _ (last_begun h) (poll-gives side h (last_begun h) s (ap (λ (x : Call). session_in (own_answer side h (turns.Call x)).reply) (sym q) ∙ f)))

-- ---- the setting

module _ (side : Side) (offset : ℕ → ℕ) (h : History) (log : Log) (x : Stands side offset h log) (hist : IsHistory side h) (members : MembersIn side h (call_view log) (findings side h))
    (c : Call) (lawful : is_lawful side h (turns.Call c) ≡ true) where
  -- the call's own answer, its pair, the history with it, and with all that goes out
  abbrev mine : Answer
  mine = own_answer side h (turns.Call c)

  abbrev pair : Pair
  pair = record { turn = turns.Call c; answer = mine }

  abbrev after : History
  after = step side h (turns.Call c)

  -- the call's record, and the log at its moment
  abbrev left : CallRecord
  left = record_of side h c mine.reply

  abbrev front : Log
  front = with_actions mine.actions log

  abbrev now : Log
  now = Called left ∷ front

  called-now : calls_of now ≡ left ∷ calls_of log
  called-now = ap (λ (rs : List CallRecord). left ∷ rs) (acted-calls mine.actions log)

  effect : call_effect side log c ≡ effect_of side h log c mine
  effect = call-agrees side offset h log x (ends-hold side offset h log hist x members) c (sym (lawful-agrees side offset h log x (turns.Call c)) ∙ lawful)

  -- ---- what came, and what went out

  events-now : events (pair ∷ h) ≡ events_of now
  events-now = called-events h c mine ∙ x.came.events ∙ sym (acted-events mine.actions log)

  all-now : all_events (pair ∷ h) ≡ all_events_of now
  all-now = x.came.all_events ∙ sym (acted-all mine.actions log)

  bytes-now : (k : ℕ) → contents (pair ∷ h) k ≡ streams.contents now k
  bytes-now k = called-contents h c mine k ∙ x.came.contents k ∙ sym (acted-contents mine.actions log k)

  out-now : SameOut (actions_out (pair ∷ h)) (actions_of now)
  out-now = subst (SameOut (actions_out (pair ∷ h))) (sym (acted mine.actions log)) (same-raw mine.actions (actions_out h) (actions_of log) x.out)

  reset-now : (k : ℕ) → is_reset (pair ∷ h) k ≡ sends.is_reset now k
  reset-now k =
      ap (λ (b : Bool). b || told-resets (pair ∷ h) k) went
      ∙ reset-from side offset h log x hist c lawful k (list_any (is_reset_of k) mine.actions) (λ o a. reset-goes side h c k o a)
      ∙ ap (λ (b : Bool). b || list_any (unsent-reset k) (left ∷ calls_of log)) (sym went ∙ out-now.reset k)
      ∙ ap (λ (rs : List CallRecord). list_any (is_reset_of k) (actions_of now) || list_any (unsent-reset k) rs) (sym called-now)
      ∙ sym (resets-apart k now)
    where
      went : list_any (is_reset_of k) (actions_out (pair ∷ h)) ≡ (list_any (is_reset_of k) (actions_out h) || list_any (is_reset_of k) mine.actions)
      went = any-newest (is_reset_of k) mine.actions (actions_out h)

  given-now : (k : ℕ) → is_given_up (pair ∷ h) k ≡ list_any (gives_up k) (calls_of now)
  given-now k = given_up-after side offset h log x hist c lawful (calls_of now) called-now k

  seen : HalvesSeen side (pair ∷ h) (transport_view side now)
  seen = halves-seen side (pair ∷ h) now events-now all-now out-now given-now reset-now

  -- ---- what calls did

  established-now : (s : ℕ) → was_established (call_view now) s ≡ is_established after s
  established-now = calls-established side offset h log x hist c lawful now called-now

  calls-now : CallsAgree (pair ∷ h) (call_view now)
  calls-now = record {
    accepted = accepted-after side offset h log x hist c lawful (calls_of now) called-now;
    ended = ended-after side offset h log x hist c lawful (calls_of now) called-now;
    established = established-now;
  }

  good : Good side (pair ∷ h) (call_view now) (findings side h)
  good = good-before side h (turns.Call c) hist lawful mine.actions (call_view now) (members-own side h log now c hist called-now members)

  table-front : IsTable (findings side h) (stream_table side front)
  table-front = subst (IsTable (findings side h)) (sym (acted-table side mine.actions log)) x.table

  -- as many streams of the sessions' kind are there before what the moment sends
  same-count : stream_count side after 0 ≡ stream_count side (pair ∷ h) 0
  same-count = ap (λ (n : ℕ). streams.peer_count side (all_events after) 0 + n) (opened-next side h (turns.Call c))

  alike-by : (at : ℕ → ℕ) → (call_view now).sessions ≡ filter_map (session_at after at) (ids_from 0 0 (stream_count side after 0))
      → SeesAlike side (pair ∷ h) (transport_view side now) (call_view now) at
  alike-by at s = sees-alike side at (pair ∷ h) now events-now bytes-now calls-now (s ∙ ap (λ (n : ℕ). filter_map (session_at after at) (ids_from 0 0 n)) same-count)

  moment-now : is_open (pair ∷ h) ≡ true → (is_moment (Called left) && logs.is_open now) ≡ true
  moment-now o = sym (plain.at-open side offset h log x c) ∙ o

  -- what its moment sends may end the connection
  ends-after : (is_open (pair ∷ h) ≡ true → pending_actions side now ≡ moment_actions side (pair ∷ h))
      → list_any logs.ends_by (log_and_flush side front (Called left)) ≡ (list_any closes (mine.actions ++ moment_actions side (pair ∷ h)) || list_any logs.ends_by log)
  ends-after pending =
      ap (list_any logs.ends_by) (flush-as side front (Called left)) ∙ ended-acted (sent-then side now) now
      ∙ ap (λ (as_ : List Action). list_any closes as_ || list_any logs.ends_by now) (plain.sent-same side offset h log x c pending)
      ∙ ap (λ (b : Bool). list_any closes (moment_actions side (pair ∷ h)) || b) (plain.at-ends side offset h log x c)
      ∙ or-turned (list_any closes (moment_actions side (pair ∷ h))) (list_any closes mine.actions) (list_any logs.ends_by log)
      ∙ or-assoc (list_any closes mine.actions) (list_any closes (moment_actions side (pair ∷ h))) (list_any logs.ends_by log)
      ∙ ap (λ (b : Bool). b || list_any logs.ends_by log) (sym (list_any-append closes mine.actions (moment_actions side (pair ∷ h))))

  -- what was found is in order by turns and replies, whatever went out
  order-own : (v : CallView) (at : ℕ → ℕ) (found : List Finding) → Orderly side after v at found → Orderly side (pair ∷ h) v at found
  order-own v at found o = record {
    few = o.few;
    none_early = o.none_early;
    received = record { left = o.received.left; within = o.received.within; early = o.received.early; later = o.received.later };
    begin = o.begin;
    known = o.known;
  }

  order-all : (v : CallView) (at : ℕ → ℕ) (found : List Finding) → Orderly side (pair ∷ h) v at found → Orderly side after v at found
  order-all v at found o = record {
    few = o.few;
    none_early = o.none_early;
    received = record { left = o.received.left; within = o.received.within; early = o.received.early; later = o.received.later };
    begin = o.begin;
    known = o.known;
  }

  -- ---- where the sessions' parts begin after it

  -- the log after the call
  abbrev later : Log
  later = plain.later side offset h log x c

  called-later : calls_of later ≡ left ∷ calls_of log
  called-later = flushed calls_of acted-calls side (Called left) front ∙ called-now

  module _ (begins : ℕ → ℕ) (sessions : (log2 : Log) → calls_of log2 ≡ left ∷ calls_of log
      → (call_view log2).sessions ≡ filter_map (session_at after begins) (ids_from 0 0 (stream_count side after 0)))
      (before : Orderly side after (call_view now) begins (findings side h))
      (idle : is_open h ≡ true → is_open (pair ∷ h) ≡ false → after_checks side (pair ∷ h) (checks side (pair ∷ h)) (findings side h) ≡ findings side h) where
    alike : SeesAlike side (pair ∷ h) (transport_view side now) (call_view now) begins
    alike = alike-by begins (sessions now called-now)

    orderly : Orderly side (pair ∷ h) (call_view now) begins (findings side h)
    orderly = order-own (call_view now) begins (findings side h) before

    pending : is_open (pair ∷ h) ≡ true → pending_actions side now ≡ moment_actions side (pair ∷ h)
    pending o = sends-alike side begins pair h hist front (Called left) o (moment-now o) events-now out-now alike seen orderly good table-front

    stands : Stands side begins after later
    stands =
        call-keeps side offset h log x hist c lawful later called-later (plain.call-sent side offset h log x c effect pending)
        (flushed events_of acted-events side (Called left) front ∙ acted-events mine.actions log)
        (flushed all_events_of acted-all side (Called left) front ∙ acted-all mine.actions log)
        (λ k. flushed (λ l. streams.contents l k) (λ own l. acted-contents own l k) side (Called left) front ∙ acted-contents mine.actions log k)
        (plain.ends-alike h log c mine.reply (mine.actions ++ moment_actions side (pair ∷ h)) later x.came.openness (ends-after pending))
        begins (flushed-first side (Called left) front)
        (plain.call-finds side offset h log x c begins alike orderly idle)
        (sessions later called-later)
        (calls-established side offset h log x hist c lawful later called-later)
        (subst (λ (v : CallView). Orderly side after v begins (findings side after)) (ap view-of (called-now ∙ sym called-later))
        (order-all (call_view now) begins (findings side after) (plain.call-orders side offset h log x c begins alike orderly idle)))
        (shake-call side offset h log x hist c lawful later called-later)

    agrees : TurnAgrees side h log (turns.Call c)
    agrees = record {
      same = plain.call-same side offset h log x c effect pending;
      after = subst (λ (l : Log). Agree side after l) (sym (plain.later-is side offset h log x c effect))
          (begins, (lawful, refl, hist), members-moment side h (turns.Call c) hist lawful (call_view later) (members-call side h log later c hist called-later members), stands);
    }

  -- a call that establishes a session ends nothing
  gives-idle : (id : ℕ) → session_in mine.reply ≡ Some id → is_open (pair ∷ h) ≡ true
  gives-idle id given =
      let g = gives-open side h c id given in
      plain.at-open side offset h log x c
      ∙ ap not (plain.at-ends side offset h log x c ∙ ap (λ (b : Bool). b || list_any logs.ends_by log) g.closes-none) ∙ sym x.came.openness ∙ g.opened

  pub call-turn : TurnAgrees side h log (turns.Call c)
  call-turn = by (session_in mine.reply) refl
    where
      by : (o : Option ℕ) → session_in mine.reply ≡ o → TurnAgrees side h log (turns.Call c)
      by None e =
          agrees offset (λ log2 called. sessions-call side offset h log x hist c lawful log2 called e) (order-call side offset h log x hist c lawful now called-now e)
          (λ o d. idle-call side h pair hist o e c refl)
      by (Some id) e =
          let r : mine.reply ≡ replies.Session id = session-reply mine.reply id e in
          agrees (with-offset id (begins_at h (findings side h) id) offset) (λ log2 called. sessions-session side offset h log x hist c lawful log2 called id r)
          (order-session side offset h log x hist c lawful now called-now id r)
          (λ o d. absurd (let t = gives-idle id e in cc (sym t ∙ d)))
