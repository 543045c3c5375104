-- A call keeps what its record tells of the relation: what went out, the streams that it gave, halves, openings, requests.
use Rattle.std.specs.Prelude.{[], ◌++◌, ◌==◌, ◌∷◌, ◌||◌, ◌≡◌, Bool, List, None, Option, Some, false, filter_map, length, pos, true, unwrap_or, ℕ, ℤ}
use Rattle.std.specs.List.{cons_option, list_any}
use Rattle.std.specs.Option.{option_or}
use Rattle.std.proofs.Common.{◌∙◌, ap, arith, refl, subst, sym}
use Rattle.std.proofs.lemmas.List.{length-append}
use Rattle.wt_meaning.specs.Findings.{first_of}
use Rattle.wt_meaning.specs.Halves.{is_done, priority_by, read_by, was_read}
use Rattle.wt_meaning.specs.Handshakes.{was_given}
use Rattle.wt_meaning.specs.History.{History, Pair, actions_out, answers_reset, answers_stop, exists, hands_out, is_given_up, is_handed_out, is_open, is_reset, is_reset_of, stream_count}
use Rattle.wt_meaning.specs.Lawful.{is_lawful}
use Rattle.wt_meaning.specs.Meaning.{next, own_answer, step, with_pair}
use Rattle.wt_meaning.specs.Moments.{findings, ids_from}
use Rattle.wt_meaning.specs.Sends.{moment_actions}
use Rattle.wt_meaning.specs.Windows.{first_session, gone_in, is_established, is_gone_by_call, is_number, last_request, request_in, requests, session_in}
use Rattle.wt_promise.proofs.Actions.{any-join_all}
use Rattle.wt_promise.proofs.Owed.{has-left}
use Rattle.wt_promise.specs.Promise.{IsHistory}
use Rattle.wt_turn.specs.Joined.{join_all, newest_first}
use Rattle.wt_turn.specs.Sent as sends
use Rattle.wt_turn.specs.Streams as streams
use Rattle.wt_sessions.specs.Answers as answers
use Rattle.wt_sessions.specs.Driver.{accepts_stream, call_view, delivers, ends_session, gives_up, members_of, receives, sessions_of, stream_table}
use Rattle.wt_sessions.specs.Driver as drivers
use Rattle.wt_sessions.specs.Halves as halves
use Rattle.wt_sessions.specs.Handshake.{handshake_state, requested_by, requested_stream}
use Rattle.wt_sessions.specs.StreamTable.{was_established}
use Rattle.wt_sessions_agree.proofs.CallOpenings.{opening-next, opening-of, unfailed-next}
use Rattle.wt_sessions_agree.proofs.CallReplies.{suits-own}
use Rattle.wt_sessions_agree.proofs.CallTells.{ended-by, priority-by, read-as, reset-by, reset-goes, stopped-by, told-if}
use Rattle.wt_sessions_agree.proofs.CameAgrees.{called-contents, called-events}
use Rattle.wt_sessions_agree.proofs.DoneStays.{done-before, told-resets}
use Rattle.wt_sessions_agree.proofs.OutLaws.{any-newest, same-out}
use Rattle.wt_sessions_agree.proofs.RecordLaws.{accepted-by, established-by, requested-by}
use Rattle.wt_sessions_agree.proofs.TurnKeeps.{resets-apart, unsent-reset}
use Rattle.wt_sessions_agree.specs.Agrees.{Agrees, IsTable}
use Rattle.wt_sessions_agree.specs.Orderly.{Orderly, session_at}
use Rattle.wt_sessions_agree.specs.Records.{record_of}
use Rattle.wt_sessions_agree.specs.Stands.{CallsAgree, HalvesAgree, HandshakeAgrees, OpeningAgrees, SameOut, Stands, fails_opening}
use Rattle.wt_turn.specs.Log.{CallRecord, Log, Polled, RequestDelivered, actions_of, all_events_of, calls_of, events_of}
use Rattle.wt_turn.specs.Log as logs
use Rattle.wt_turn.specs.declared.action.Action.{Action}
use Rattle.wt_turn.specs.declared.answer.Answer.{Answer}
use Rattle.wt_turn.specs.declared.call.Call.{Call}
use Rattle.wt_wire.specs.declared.side.Side.{Side}
use Rattle.wt_turn.specs.declared.turn.Turn.TheVariants as turns

-- ---- lists with one more

or-with : (a b c : Bool) → b ≡ c → (a || b) ≡ (a || c)
or-with a b c e = ap (λ (x : Bool). a || x) e

given-more : (k : ℕ) (r : CallRecord) → delivers k r ≡ elim (requested_by r) [ Some id ↦ id == k | None ↦ false ]
given-more k (RequestDelivered id) = refl
given-more k r = refl

-- ---- the relation after the call

module _ (side : Side) (offset : ℕ → ℕ) (h : History) (log : Log) (x : Stands side offset h log) (hist : IsHistory side h) (c : Call) (lawful : is_lawful side h (turns.Call c) ≡ true) where
  -- the call's own answer, all that goes out, the history with the pair, and what the call leaves in the log
  abbrev own : Answer
  own = own_answer side h (turns.Call c)

  abbrev all_sent : List Action
  all_sent = own.actions ++ moment_actions side (with_pair h (turns.Call c) own)

  abbrev after : History
  after = step side h (turns.Call c)

  abbrev left : CallRecord
  left = record_of side h c own.reply

  -- ---- what came, and what went out

  came-after : (log2 : Log) → events_of log2 ≡ events_of log → all_events_of log2 ≡ all_events_of log → ((k : ℕ) → streams.contents log2 k ≡ streams.contents log k)
      → is_open after ≡ logs.is_open log2 → Agrees after log2
  came-after log2 at all bytes opens = record {
    events = called-events h c (next side h (turns.Call c)) ∙ x.came.events ∙ sym at;
    all_events = x.came.all_events ∙ sym all;
    openness = opens;
    contents = λ k. called-contents h c (next side h (turns.Call c)) k ∙ x.came.contents k ∙ sym (bytes k);
  }

  out-after : (log2 : Log) → actions_of log2 ≡ newest_first all_sent (actions_of log) → SameOut (actions_out after) (actions_of log2)
  out-after log2 sent = subst (λ (as_ : List Action). SameOut (newest_first (join_all [] all_sent) (actions_out h)) as_) (sym sent) (same-out all_sent (actions_out h) (actions_of log) x.out)

  -- ---- what calls did

  module _ (rs : List CallRecord) (called : rs ≡ left ∷ calls_of log) where
    pub accepted-after : (k : ℕ) → list_any (accepts_stream k) rs ≡ is_handed_out after k
    accepted-after k =
        ap (list_any (accepts_stream k)) called ∙ ap (λ (b : Bool). b || list_any (accepts_stream k) (calls_of log)) (accepted-by side h c k own.reply)
        ∙ or-with (hands_out k own.reply) _ _ (x.calls.accepted k)

    pub ended-after : (s : ℕ) → list_any (ends_session s) rs ≡ is_gone_by_call after s
    ended-after s =
        ap (list_any (ends_session s)) called ∙ ap (λ (b : Bool). b || list_any (ends_session s) (calls_of log)) (ended-by side h c hist lawful s)
        ∙ or-with (is_number s (gone_in h (turns.Call c) own.reply)) _ _ (x.calls.ended s)

    named-after : first_session after ≡ drivers.first_session rs
    named-after =
        ap (λ (o : Option ℕ). option_or o (session_in own.reply)) x.named ∙ ap (option_or (drivers.first_session (calls_of log))) (sym (established-by side h c own.reply))
        ∙ sym (ap drivers.first_session called)

    delivered-after : (k : ℕ) → was_given after k ≡ list_any (delivers k) rs
    delivered-after k = by (request_in own.reply) ∙ or-with _ _ _ (x.delivered k) ∙ ap (λ (b : Bool). b || list_any (delivers k) (calls_of log)) (sym same) ∙ sym (ap (list_any (delivers k)) called)
      where
        same : delivers k left ≡ elim (request_in own.reply) [ Some id ↦ id == k | None ↦ false ]
        same = given-more k left ∙ ap (λ (o : Option ℕ). elim o [ Some id ↦ id == k | None ↦ false ]) (requested-by side h c own.reply)

        by : (o : Option ℕ) → list_any (λ (id : ℕ). id == k) (cons_option o (filter_map requests h)) ≡ ((elim o [ Some id ↦ id == k | None ↦ false ]) || was_given h k)
        by None = refl
        by (Some id) = refl

    request-after : unwrap_or (last_request after) 0 ≡ requested_stream rs
    request-after =
        by (request_in own.reply) ∙ ap (λ (n : ℕ). elim (request_in own.reply) [ Some id ↦ id | None ↦ n ]) x.request
        ∙ ap (λ (o : Option ℕ). elim o [ Some id ↦ id | None ↦ requested_stream (calls_of log) ]) (sym (requested-by side h c own.reply)) ∙ sym (ap requested_stream called)
      where
        by : (o : Option ℕ) → unwrap_or (option_or o (last_request h)) 0 ≡ elim o [ Some id ↦ id | None ↦ unwrap_or (last_request h) 0 ]
        by None = refl
        by (Some id) = refl

    pub given_up-after : (k : ℕ) → is_given_up after k ≡ list_any (gives_up k) rs
    given_up-after k =
        or-with (answers_stop k (turns.Call c) own.reply) _ _ (x.halves.given_up k)
        ∙ ap (λ (b : Bool). b || list_any (gives_up k) (calls_of log)) (sym (stopped-by side h c k own.reply)) ∙ sym (ap (list_any (gives_up k)) called)

    read-after : (k : ℕ) → length (was_read after k) ≡ halves.total_read k rs
    read-after k =
        let l = length-append (was_read h k) (read_by k (turns.Call c) own.reply) in
        let a = x.halves.read k in
        let b = read-as side h c k own.reply (suits-own side h c) in
        let d = ap (halves.total_read k) called in omega (arith, l, a, b, d)

    -- ---- halves

    priority-after : (k : ℕ) → is_done after k ≡ false → unwrap_or (first_of (λ (p : Pair). priority_by k p.turn p.answer.reply) after) (pos 0) ≡ sends.priority_of rs k
    priority-after k d =
        by (priority_by k (turns.Call c) own.reply) (x.halves.priority k (done-before (record { turn = turns.Call c; answer = next side h (turns.Call c) }) h k d))
        ∙ ap (λ (o : Option ℤ). unwrap_or (option_or o (logs.newest (sends.priority_set k) (calls_of log))) (pos 0))
        (sym (priority-by side h c k (done-before (record { turn = turns.Call c; answer = next side h (turns.Call c) }) h k d) own.reply))
        ∙ sym (ap (λ (ts : List CallRecord). sends.priority_of ts k) called)
      where
        by : (o : Option ℤ) → unwrap_or (first_of (λ (p : Pair). priority_by k p.turn p.answer.reply) h) (pos 0) ≡ sends.priority_of (calls_of log) k
            → unwrap_or (option_or o (first_of (λ (p : Pair). priority_by k p.turn p.answer.reply) h)) (pos 0) ≡ unwrap_or (option_or o (logs.newest (sends.priority_set k) (calls_of log))) (pos 0)
        by None e = e
        by (Some p) e = refl

  -- a reset goes out while the connection is open, and is recorded after its end
  either-reset : (a x ar o t u : Bool) → (a || t) ≡ (a || u) → (o ≡ true → ar ≡ true → x ≡ true) → ((a || x) || (ar || t)) ≡ ((a || x) || (told-if o ar || u))
  either-reset true x ar o t u e f = refl
  either-reset false true ar o t u e f = refl
  either-reset false false true true t u e f = absurd (let q = f refl refl in cc q)
  either-reset false false true false t u e f = refl
  either-reset false false false true t u e f = e
  either-reset false false false false t u e f = e

  -- a reset of the history is one of the log, where a reset that is answered while the connection is open goes out
  pub reset-from : (k : ℕ) (now : Bool) → (is_open h ≡ true → answers_reset k (turns.Call c) own.reply ≡ true → now ≡ true)
      → ((list_any (is_reset_of k) (actions_out h) || now) || (answers_reset k (turns.Call c) own.reply || told-resets h k))
      ≡ ((list_any (is_reset_of k) (actions_out h) || now) || list_any (unsent-reset k) (left ∷ calls_of log))
  reset-from k now goes =
      either-reset before now (answers_reset k (turns.Call c) own.reply) (is_open h) (told-resets h k) (list_any (unsent-reset k) (calls_of log)) same goes
      ∙ ap (λ (b : Bool). (before || now) || (b || list_any (unsent-reset k) (calls_of log))) (sym (reset-by side h c k own.reply))
    where
      before : Bool
      before = list_any (is_reset_of k) (actions_out h)

      same : (before || told-resets h k) ≡ (before || list_any (unsent-reset k) (calls_of log))
      same = x.halves.reset k ∙ resets-apart k log ∙ ap (λ (b : Bool). b || list_any (unsent-reset k) (calls_of log)) (sym (x.out.reset k))

  module _ (log2 : Log) (called : calls_of log2 ≡ left ∷ calls_of log) (sent : actions_of log2 ≡ newest_first all_sent (actions_of log)) where
    reset-after : (k : ℕ) → is_reset after k ≡ sends.is_reset log2 k
    reset-after k =
        ap (λ (b : Bool). b || told-resets after k) went
        ∙ reset-from k now (λ o a. any-join_all (is_reset_of k) (λ i p q. refl) [] all_sent
        ∙ has-left (is_reset_of k) own.actions (moment_actions side (with_pair h (turns.Call c) own)) (reset-goes side h c k o a))
        ∙ ap (λ (b : Bool). b || list_any (unsent-reset k) (left ∷ calls_of log)) (sym went ∙ (out-after log2 sent).reset k)
        ∙ or-with (list_any (is_reset_of k) (actions_of log2)) _ _ (sym (ap (list_any (unsent-reset k)) called)) ∙ sym (resets-apart k log2)
      where
        now : Bool
        now = list_any (is_reset_of k) (join_all [] all_sent)

        went : list_any (is_reset_of k) (actions_out after) ≡ (list_any (is_reset_of k) (actions_out h) || now)
        went = any-newest (is_reset_of k) (join_all [] all_sent) (actions_out h)

    halves-after : HalvesAgree after log2
    halves-after = record {
      given_up = given_up-after (calls_of log2) called;
      reset = reset-after;
      read = read-after (calls_of log2) called;
      priority = priority-after (calls_of log2) called;
    }

    -- ---- openings

    opening-after : (k : ℕ) → OpeningAgrees after log2 k
    opening-after k = opening-next side h hist log c lawful k (x.calls.accepted k) (x.unfailed k) (x.openings k) log2 (ap (opening-of k) called)

    unfailed-after : (k : ℕ) → exists side after k ≡ false → list_any (fails_opening k) (calls_of log2) ≡ false
    unfailed-after k e = ap (list_any (fails_opening k)) called ∙ unfailed-next side h hist log c lawful k (x.calls.accepted k) (x.unfailed k) e

    -- ---- the whole, where the moment finds alike, and what of sessions and the handshake is left holds

    calls-after : ((s : ℕ) → was_established (call_view log2) s ≡ is_established after s) → CallsAgree after (call_view log2)
    calls-after established = record { accepted = accepted-after (calls_of log2) called; ended = ended-after (calls_of log2) called; established = established }

    module _ (at : events_of log2 ≡ events_of log) (all : all_events_of log2 ≡ all_events_of log) (bytes : (k : ℕ) → streams.contents log2 k ≡ streams.contents log k)
        (opens : is_open after ≡ logs.is_open log2) where
      pub call-keeps : (offset2 : ℕ → ℕ) → answers.is_first log2 ≡ false → IsTable (findings side after) (stream_table side log2)
          → (call_view log2).sessions ≡ filter_map (session_at after offset2) (ids_from 0 0 (stream_count side after 0)) → ((s : ℕ) → was_established (call_view log2) s ≡ is_established after s)
          → Orderly side after (call_view log2) offset2 (findings side after) → HandshakeAgrees side after (handshake_state (calls_of log2)) → Stands side offset2 after log2
      call-keeps offset2 first table sessions established orderly handshake = record {
        first = sym first;
        came = came-after log2 at all bytes opens;
        out = out-after log2 sent;
        table = table;
        calls = calls-after established;
        sessions = sessions;
        named = named-after (calls_of log2) called;
        orderly = orderly;
        halves = halves-after;
        openings = opening-after;
        unfailed = unfailed-after;
        delivered = delivered-after (calls_of log2) called;
        request = request-after (calls_of log2) called;
        handshake = handshake;
      }
