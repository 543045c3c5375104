-- The calls on the sending half of a stream that the application has: each answers and leaves what the definitions say of it.
use Rattle.std.proofs.Common.{◌∙◌, ◌≡◌, ◌∷◌, Bool, List, None, Option, Some, [], ap, arith, false, length, refl, subst, suc, sym, take, true, zero, ℕ}
use Rattle.std.proofs.Math.Dec.{eqb-suc-zero}
use Rattle.std.proofs.lemmas.Bool.{ltb-false, ltb-true, ne_eqb}
use Rattle.std.proofs.lemmas.List.{length-take-le, take_all}
use Rattle.std.specs.Prelude.{◌&&◌, ◌==◌, ◌||◌, Err, IsTrue, Ok, Result, if◌then◌else◌, is_some, nat_lt, not, option_map, ℤ}
use Rattle.wt_driver_laws.proofs.HalfLogs.{called, did-poll, did-so, nothing-harms, with_transport}
use Rattle.wt_driver_laws.proofs.Reach.{reached_fits}
use Rattle.wt_driver_laws.proofs.ReachHalves.{sending_can, sending_stream}
use Rattle.wt_driver_laws.specs.Calling.{Did, Does}
use Rattle.wt_driver_laws.specs.Driving.{Follows, IsReachable, uncollected_since}
use Rattle.wt_driver_laws.specs.Having.{HasSending}
use Rattle.wt_driver_laws.specs.Passing.{finish_said, on_transport, priority_said, reset_said, stopped_said, then_finish, then_reset, then_set_priority, then_write, write_all_said, write_said}
use Rattle.wt_driver_laws.specs.Replies.{done_reply, finish_reply, priority_reply, reset_reply, write_all_reply, write_reply}
use Rattle.wt_driver_laws.specs.Replies as typed
use Rattle.wt_follows.proofs.HalfCalls.{joined-apart, reset-late-follows, priority-follows, safe-bytes, safe-finish, safe-reset}
use Rattle.wt_follows.proofs.Logs.{same-id}
use Rattle.wt_follows.proofs.SentFollows.{Harmless}
use Rattle.wt_follows.specs.Roles.{is_living}
use Rattle.wt_kept.specs.Kept.{DriverNow}
use Rattle.wt_transport.proofs.HalfLaws.{finishing_refines, sending_answer, sending_kept, write_refines}
use Rattle.wt_transport.proofs.Refining.{refined_can_send, reset_refines}
use Rattle.wt_transport.specs.HalfRules.{SendingHalf, all_unless, all_written, finish_answer, is_closed, priority_answer, reset_answer, stopped_answer, stopped_unless, finish_unless, write_all_answer, write_answer, written_count, written_unless}
use Rattle.wt_transport.specs.Rules.{actions_of_finish, actions_of_write, after_finishing, after_priority_unless_closed, after_reset_unless_closed, after_write, sending_half, sending_half_now}
use Rattle.wt_transport.specs.State.{Refines, TransportState}
use Rattle.wt_transport.specs.Step.{after_priority, after_reset, can_send_now}
use Rattle.wt_turn.specs.Joined.{newest_first}
use Rattle.wt_turn.specs.Outgoing.{actions_to_send, bytes_within_credit, credit_left, may_send}
use Rattle.wt_turn.specs.Reports.{stop_of}
use Rattle.wt_turn.specs.Sent.{is_finished, is_reset, priority_of}
use Rattle.wt_turn.specs.Streams.{can_send, local_uni}
use Rattle.wt_sessions.specs.Answers.{call_effect}
use Rattle.wt_sessions.specs.DriverState.{state_of}
use Rattle.wt_sessions.specs.Effect.{Effect, log_call, poll_only, poll_sending, reply_with}
use Rattle.wt_sessions.specs.Halves.{all_written_reply, finish, finish_once, has_sending_half, is_done, on_half, priority, reset, set_priority, stopped, stopped_reply, write, write_all, write_by, write_error, written_reply}
use Rattle.wt_sessions.specs.Moment.{Fits}
use Rattle.wt_turn.specs.Log.{Called, Log, PrioritySet, ResetUnsent, Sent, actions_of, calls_of, events_of, is_open, with_actions}
use Rattle.wt_turn.specs.declared.action.Action.{Action}
use Rattle.wt_turn.specs.declared.action.Action.TheVariants as actions
use Rattle.wt_turn.specs.declared.call.Call.TheVariants as calls
use Rattle.wt_turn.specs.declared.poll.Poll.{Poll}
use Rattle.wt_turn.specs.declared.poll.Poll.TheVariants.{Pending, Ready}
use Rattle.wt_turn.specs.declared.reply.Reply.{Reply}
use Rattle.wt_turn.specs.declared.reply.Reply.TheVariants as replies
use Rattle.wt_turn.specs.declared.stream_error.ClosedStream.{ClosedStream}
use Rattle.wt_turn.specs.declared.stream_error.StreamWriteError.{StreamWriteError}
use Rattle.wt_turn.specs.declared.stream_error.StreamWriteError.TheVariants as writes
use Rattle.wt_turn.specs.declared.stream_error.WriteAll.{WriteAll}
use Rattle.wt_turn.specs.declared.stream_error.WriteAll.TheVariants as all
use Rattle.wt_wire.specs.declared.side.Side.{Side}

-- ---- what a call on a half that the application has leads to

write-effect : (side : Side) (log : Log) (id : ℕ) (bytes : List ℕ) → has_sending_half side log id ≡ true → call_effect side log (calls.Write id bytes) ≡ write side log id bytes
unfolding call_effect
write-effect side log id bytes has = ap (λ (b : Bool). on_half b side log (λ k. write side log k bytes) id) has

write_all-effect : (side : Side) (log : Log) (id : ℕ) (bytes : List ℕ) → has_sending_half side log id ≡ true → call_effect side log (calls.WriteAll id bytes) ≡ write_all side log id bytes
unfolding call_effect
write_all-effect side log id bytes has = ap (λ (b : Bool). on_half b side log (λ k. write_all side log k bytes) id) has

finish-effect : (side : Side) (log : Log) (id : ℕ) → has_sending_half side log id ≡ true → call_effect side log (calls.Finish id) ≡ finish side log id
unfolding call_effect
finish-effect side log id has = ap (λ (b : Bool). on_half b side log (λ k. finish side log k) id) has

stopped-effect : (side : Side) (log : Log) (id : ℕ) → has_sending_half side log id ≡ true → call_effect side log (calls.Stopped id) ≡ stopped side log id
unfolding call_effect
stopped-effect side log id has = ap (λ (b : Bool). on_half b side log (λ k. stopped side log k) id) has

reset-effect : (side : Side) (log : Log) (id code : ℕ) → has_sending_half side log id ≡ true → call_effect side log (calls.ResetSend id code) ≡ reset side log id code
unfolding call_effect
reset-effect side log id code has = ap (λ (b : Bool). on_half b side log (λ k. reset side log k code) id) has

priority-effect : (side : Side) (log : Log) (id : ℕ) → has_sending_half side log id ≡ true → call_effect side log (calls.Priority id) ≡ priority side log id
unfolding call_effect
priority-effect side log id has = ap (λ (b : Bool). on_half b side log (λ k. priority side log k) id) has

set_priority-effect : (side : Side) (log : Log) (id : ℕ) (p : ℤ) → has_sending_half side log id ≡ true → call_effect side log (calls.SetPriority id p) ≡ set_priority side log id p
unfolding call_effect
set_priority-effect side log id p has = ap (λ (b : Bool). on_half b side log (λ k. set_priority side log k p) id) has

-- ---- replies

written-same : (left : ℕ) (bytes : List ℕ) → written_reply bytes (length (take left bytes)) ≡ write_reply (written_count left bytes)
written-same left [] = refl
written-same zero (b ∷ bytes) = refl
written-same (suc left) (b ∷ bytes) = sym (ap (λ (e : Bool). write_reply (if e then Pending else Ready (Ok (suc (length (take left bytes)))))) (eqb-suc-zero left))

-- a write of all bytes tells how many went out, where these aren't all
all-by : (left : ℕ) (bytes : List ℕ) (b : Bool) → nat_lt left (length bytes) ≡ b → all_written_reply bytes (length (take left bytes)) ≡ write_all_reply (Ok (if b then all.Count left else all.Done))
all-by left bytes true e =
    ap (λ (n : ℕ). if n == length bytes then replies.AllWritten else replies.Count n) (length-take-le left bytes (let less = ltb-true left (length bytes) e in omega (arith, less)))
    ∙ ap (λ (b : Bool). if b then replies.AllWritten else replies.Count left) (ne_eqb left (length bytes) (λ x. let less = ltb-true left (length bytes) e in omega (arith, less, x)))
all-by left bytes false e =
    ap (λ (xs : List ℕ). if length xs == length bytes then replies.AllWritten else replies.Count (length xs)) (take_all left bytes (ltb-false left (length bytes) e))
    ∙ ap (λ (b : Bool). if b then replies.AllWritten else replies.Count (length bytes)) (same-id (length bytes))

all-same : (left : ℕ) (bytes : List ℕ) → all_written_reply bytes (length (take left bytes)) ≡ write_all_reply (Ok (all_written left bytes))
all-same left bytes = all-by left bytes (nat_lt left (length bytes)) refl

-- what hinders a write, or else what it sends and answers
write-is : (reply : List ℕ → ℕ → Reply) (answer : Option StreamWriteError → ℕ → Reply) (side : Side) (log : Log) (id : ℕ) (bytes : List ℕ) → can_send side log id ≡ true
    → ((e : StreamWriteError) → answer (Some e) (credit_left log id) ≡ replies.WriteFailed e) → reply bytes (length (take (credit_left log id) bytes)) ≡ answer None (credit_left log id)
    → write_by reply side log id bytes (write_error log id) ≡ poll_sending side log (actions_of_write side log id bytes) (answer (if not (is_open log) then Some writes.NotConnected else (if is_finished (actions_of log) id || is_reset log id then Some writes.Closed else option_map writes.Stopped (stop_of (events_of log) id))) (credit_left log id))
write-is reply answer side log id bytes can fails through = by (is_open log) (can_send side log id) (is_finished (actions_of log) id) (is_reset log id) (stop_of (events_of log) id) can
  where
    by : (o c n r : Bool) (stop : Option ℕ) → c ≡ true
        → write_by reply side log id bytes (if not o then Some writes.NotConnected else (if n || r then Some writes.Closed else elim stop [ Some code ↦ Some (writes.Stopped code) | None ↦ None ]))
        ≡ poll_sending side log (if o && c && not n && not r && not (is_some stop) then actions_to_send log id bytes else [])
        (answer (if not o then Some writes.NotConnected else (if n || r then Some writes.Closed else option_map writes.Stopped stop)) (credit_left log id))
    by false c n r stop e = ap (poll_sending side log []) (sym (fails writes.NotConnected))
    by true false n r stop e = absurd cc
    by true true true r stop e = ap (poll_sending side log []) (sym (fails writes.Closed))
    by true true false true stop e = ap (poll_sending side log []) (sym (fails writes.Closed))
    by true true false false (Some code) e = ap (poll_sending side log []) (sym (fails (writes.Stopped code)))
    by true true false false None e = ap (poll_sending side log (actions_to_send log id bytes)) through

-- ---- the end of the half

-- whether it ended, and how
ended-by : (failed : StreamWriteError → Reply) (closed : Reply) (log : Log) (id : ℕ) (stop : Option ℕ)
    → stopped_reply log id failed closed stop ≡ elim stop [ Some code ↦ failed (writes.Stopped code) | None ↦ (if is_done log id then closed else (if is_open log then replies.Pending else failed writes.NotConnected)) ]
ended-by failed closed log id None = refl
ended-by failed closed log id (Some code) = refl

finish-same : (stop : Option ℕ) (done o : Bool)
    → elim stop [ Some code ↦ replies.WriteFailed (writes.Stopped code) | None ↦ (if done then replies.Finished else (if o then replies.Pending else replies.WriteFailed writes.NotConnected)) ] ≡ finish_reply (finish_unless stop done o)
finish-same (Some code) done o = refl
finish-same None true o = refl
finish-same None false true = refl
finish-same None false false = refl

stopped-same : (stop : Option ℕ) (done o : Bool)
    → elim stop [ Some code ↦ replies.StoppedBy (writes.Stopped code) | None ↦ (if done then replies.StoppedBy writes.Closed else (if o then replies.Pending else replies.StoppedBy writes.NotConnected)) ] ≡ typed.stopped_reply (stopped_unless stop done o)
stopped-same (Some code) done o = refl
stopped-same None true o = refl
stopped-same None false true = refl
stopped-same None false false = refl

-- what a finish sends and answers
finish-is : (side : Side) (log : Log) (id : ℕ) → can_send side log id ≡ true
    → finish side log id ≡ poll_sending side log (actions_of_finish side log id) (finish_reply (finish_answer (is_open log) (sending_half log id)))
finish-is side log id can =
    (λ i. poll_sending side log (sends i) ((ended-by (λ e. replies.WriteFailed e) replies.Finished log id (stop_of (events_of log) id) ∙ finish-same (stop_of (events_of log) id) (is_done log id) (is_open log)) i))
  where
    by : (o c : Bool) → c ≡ true
        → (if o && not (is_finished (actions_of log) id) && not (is_reset log id) && not (is_some (stop_of (events_of log) id)) then actions.Finish id ∷ [] else [])
        ≡ (if o && c && not (is_finished (actions_of log) id) && not (is_reset log id) && not (is_some (stop_of (events_of log) id)) then actions.Finish id ∷ [] else [])
    by false c e = refl
    by true true e = refl
    by true false e = absurd cc

    sends : finish_once log id ≡ actions_of_finish side log id
    sends = by (is_open log) (can_send side log id) can

-- ---- the calls

module _ (d : DriverNow) (id : ℕ) (side : Side) (log : Log) (collected : ℕ) (f : Follows side d log collected) (r : IsReachable side log) (has : HasSending id side log) where
  abbrev t : TransportState
  t = d.work.transport

  abbrev left : List Action
  left = uncollected_since collected log

  fits : Fits side log
  fits = reached_fits side log r

  can-log : can_send side log id ≡ true
  can-log = sending_can side log r id has

  can : IsTrue (can_send_now t id)
  can = refined_can_send side t log f.kept.position left f.kept.amid.work.transport id ∙ can-log

  apart : ((id == local_uni side) ≡ false) × (is_living (state_of side log) id ≡ false)
  apart = let x = sending_stream side log r id has in joined-apart side d log left f.kept id x.session x.member

  -- an answer by what is kept is one by the log
  said : {X : Type 0} (rule : Bool → SendingHalf → X) (none : X) → (if can_send_now t id then rule t.is_open (sending_half_now t id) else none) ≡ rule (is_open log) (sending_half log id)
  said rule none = ap (λ (b : Bool). if b then rule t.is_open (sending_half_now t id) else none) can ∙ sending_answer side t log f.kept.position left f.kept.amid.work.transport rule id can

  -- what the transport becomes where it has the half
  becomes : (u : TransportState) → with_transport d (if can_send_now t id then u else t) ≡ with_transport d u
  becomes u = ap (λ (b : Bool). with_transport d (if b then u else t)) can

  harmless-if : (b : Bool) (own : List Action) → Harmless side log own → Harmless side log (if b then own else [])
  harmless-if true own safe = safe
  harmless-if false own safe = nothing-harms side d log left f.kept

  poll-only : (effect : Effect) (answer : Reply) → effect ≡ poll_only side log answer → Did side d collected answer effect
  poll-only effect answer is = did-poll side d log collected f fits effect [] answer d t is refl (nothing-harms side d log left f.kept) f.kept.amid.work.transport

  -- ---- writing

  did-write : (bytes : List ℕ) (effect : Effect) (answer : Reply) → effect ≡ poll_sending side log (actions_of_write side log id bytes) answer → Did side (on_transport (then_write id bytes) d) collected answer effect
  did-write bytes effect answer is = did-poll side d log collected f fits effect (actions_of_write side log id bytes) answer (on_transport (then_write id bytes) d) (after_write t id bytes) is (becomes (after_write t id bytes))
      (harmless-if (may_send side log id) (actions_to_send log id bytes) (safe-bytes side d log left f.kept fits id apart.0 apart.1 (bytes_within_credit log id bytes)))
      (write_refines side t log f.kept.position left f.kept.amid.work.transport id bytes)

  wrote : (bytes : List ℕ) → Did side (on_transport (then_write id bytes) d) collected (write_reply (write_said id bytes t)) (call_effect side log (calls.Write id bytes))
  wrote bytes = did-write bytes (call_effect side log (calls.Write id bytes)) (write_reply (write_said id bytes t))
      (write-effect side log id bytes has
      ∙ (write-is written_reply (λ o n. write_reply (written_unless o n bytes)) side log id bytes can-log (λ e. refl) (written-same (credit_left log id) bytes)
      ∙ ap (λ (a : Poll (Result ℕ StreamWriteError)). poll_sending side log (actions_of_write side log id bytes) (write_reply a)) (sym (said (λ o h. write_answer o h bytes) (Ready (Err writes.NotConnected))))))

  wrote-all : (bytes : List ℕ) → Did side (on_transport (then_write id bytes) d) collected (write_all_reply (write_all_said id bytes t)) (call_effect side log (calls.WriteAll id bytes))
  wrote-all bytes = did-write bytes (call_effect side log (calls.WriteAll id bytes)) (write_all_reply (write_all_said id bytes t))
      (write_all-effect side log id bytes has
      ∙ (write-is all_written_reply (λ o n. write_all_reply (all_unless o n bytes)) side log id bytes can-log (λ e. refl) (all-same (credit_left log id) bytes)
      ∙ ap (λ (a : Result WriteAll StreamWriteError). poll_sending side log (actions_of_write side log id bytes) (write_all_reply a)) (sym (said (λ o h. write_all_answer o h bytes) (Err writes.NotConnected)))))

  -- ---- its end

  finished : Did side (on_transport (then_finish id) d) collected (finish_reply (finish_said id t)) (call_effect side log (calls.Finish id))
  finished = did-poll side d log collected f fits (call_effect side log (calls.Finish id)) (actions_of_finish side log id) (finish_reply (finish_said id t)) (on_transport (then_finish id) d) (after_finishing t id)
      (finish-effect side log id has
      ∙ (finish-is side log id can-log
      ∙ ap (λ (a : Poll (Result (Unit {0}) StreamWriteError)). poll_sending side log (actions_of_finish side log id) (finish_reply a)) (sym (said finish_answer (Ready (Err writes.NotConnected))))))
      (becomes (after_finishing t id))
      (harmless-if (may_send side log id) (actions.Finish id ∷ []) (safe-finish side d log left f.kept fits id apart.0 apart.1))
      (finishing_refines side t log f.kept.position left f.kept.amid.work.transport id)

  told : Did side d collected (typed.stopped_reply (stopped_said id t)) (call_effect side log (calls.Stopped id))
  told = poll-only (call_effect side log (calls.Stopped id)) (typed.stopped_reply (stopped_said id t))
      (stopped-effect side log id has
      ∙ ap (poll_only side log) (ended-by (λ e. replies.StoppedBy e) (replies.StoppedBy writes.Closed) log id (stop_of (events_of log) id) ∙ (stopped-same (stop_of (events_of log) id) (is_done log id) (is_open log)
      ∙ ap typed.stopped_reply (sym (said stopped_answer (Ready writes.NotConnected))))))

  -- it is closed as the log says
  closed-same : is_closed (sending_half_now t id) ≡ is_done log id
  closed-same = ap is_closed (sending_kept side t log f.kept.position left f.kept.amid.work.transport id can)

  reset-said : reset_said id t ≡ reset_answer (sending_half log id)
  reset-said = said (λ o h. reset_answer h) (Err (record {}))

  was-reset : (code : ℕ) → Did side (on_transport (then_reset id code) d) collected (reset_reply (reset_said id t)) (call_effect side log (calls.ResetSend id code))
  was-reset code = subst (Did side (on_transport (then_reset id code) d) collected (reset_reply (reset_said id t))) (sym (reset-effect side log id code has)) (by (is_done log id) (is_open log) refl refl)
    where
      Reset : Bool → Bool → Effect
      Reset done o = if done then poll_only side log replies.ClosedStream else (if o then poll_sending side log (actions.ResetOut id code ∷ []) replies.Done else reply_with (log_call side log [] (ResetUnsent id code)) replies.Done)

      reply : (done : Bool) → is_done log id ≡ done → reset_reply (reset_said id t) ≡ (if done then replies.ClosedStream else replies.Done)
      reply done e = ap reset_reply (reset-said ∙ ap (λ (b : Bool). if b then Err (record {}) else Ok tt) e) ∙ each done
        where
          each : (b : Bool) → reset_reply (if b then Err (record {}) else Ok tt) ≡ (if b then replies.ClosedStream else replies.Done)
          each true = refl
          each false = refl

      later : (done : Bool) → is_done log id ≡ done → on_transport (then_reset id code) d ≡ with_transport d (if done then t else after_reset t id code)
      later done e = becomes (after_reset_unless_closed t id code) ∙ ap (λ (b : Bool). with_transport d (if b then t else after_reset t id code)) (closed-same ∙ e)

      refines : is_open log ≡ true → Refines side (after_reset t id code) (with_actions (actions.ResetOut id code ∷ []) log) f.kept.position (newest_first (actions.ResetOut id code ∷ []) left)
      refines o = subst (λ (b : Bool). Refines side (after_reset t id code) ((if b then Sent (actions.ResetOut id code) else Called (ResetUnsent id code)) ∷ log) f.kept.position (newest_first (if b then actions.ResetOut id code ∷ [] else []) left)) o
          (reset_refines side t log f.kept.position left f.kept.amid.work.transport id code can)

      by : (done o : Bool) → is_done log id ≡ done → is_open log ≡ o → Did side (on_transport (then_reset id code) d) collected (reset_reply (reset_said id t)) (reset side log id code)
      by true o e q = subst (Did side (on_transport (then_reset id code) d) collected (reset_reply (reset_said id t))) (λ i. Reset (sym e i) (is_open log))
          (did-poll side d log collected f fits (poll_only side log replies.ClosedStream) [] (reset_reply (reset_said id t)) (on_transport (then_reset id code) d) t
          (ap (poll_only side log) (sym (reply true e))) (later true e) (nothing-harms side d log left f.kept) f.kept.amid.work.transport)
      by false true e q = subst (Did side (on_transport (then_reset id code) d) collected (reset_reply (reset_said id t))) (λ i. Reset (sym e i) (sym q i))
          (did-poll side d log collected f fits (poll_sending side log (actions.ResetOut id code ∷ []) replies.Done) (actions.ResetOut id code ∷ []) (reset_reply (reset_said id t)) (on_transport (then_reset id code) d) (after_reset t id code)
          (ap (poll_sending side log (actions.ResetOut id code ∷ [])) (sym (reply false e))) (later false e) (safe-reset side d log left f.kept fits id apart.0 apart.1 code) (refines q))
      by false false e q = subst (Did side (on_transport (then_reset id code) d) collected (reset_reply (reset_said id t))) (λ i. Reset (sym e i) (sym q i)) (record {
        reply = reply false e;
        log = subst (λ (x : DriverNow). Follows side x (log_call side log [] (ResetUnsent id code)) collected) (sym (later false e))
            (called side d log collected f fits d (with_transport d (after_reset t id code)) [] (ResetUnsent id code) f.kept tt (λ z. refl) (reset-late-follows side d log left f.kept fits id apart.0 apart.1 code q can));
      })

  -- ---- its priority

  priority-told : Did side d collected (priority_reply (priority_said id t)) (call_effect side log (calls.Priority id))
  priority-told = poll-only (call_effect side log (calls.Priority id)) (priority_reply (priority_said id t))
      (priority-effect side log id has ∙ ap (poll_only side log) (each (is_done log id) ∙ ap priority_reply (sym (said (λ o h. priority_answer h) (Err (record {}))))))
    where
      each : (b : Bool) → (if b then replies.ClosedStream else replies.Priority (priority_of (calls_of log) id)) ≡ priority_reply (if b then Err (record {}) else Ok (priority_of (calls_of log) id))
      each true = refl
      each false = refl

  prioritised : (p : ℤ) → Did side (on_transport (then_set_priority id p) d) collected replies.Done (call_effect side log (calls.SetPriority id p))
  prioritised p = subst (Did side (on_transport (then_set_priority id p) d) collected replies.Done) (sym (set_priority-effect side log id p has)) (by (is_done log id) refl)
    where
      later : (done : Bool) → is_done log id ≡ done → on_transport (then_set_priority id p) d ≡ with_transport d (if done then t else after_priority t id p)
      later done e = becomes (after_priority_unless_closed t id p) ∙ ap (λ (b : Bool). with_transport d (if b then t else after_priority t id p)) (closed-same ∙ e)

      Set : Bool → Effect
      Set done = if done then poll_only side log replies.Done else reply_with (log_call side log [] (PrioritySet id p)) replies.Done

      by : (done : Bool) → is_done log id ≡ done → Did side (on_transport (then_set_priority id p) d) collected replies.Done (set_priority side log id p)
      by true e = subst (Did side (on_transport (then_set_priority id p) d) collected replies.Done) (λ i. Set (sym e i))
          (did-poll side d log collected f fits (poll_only side log replies.Done) [] replies.Done (on_transport (then_set_priority id p) d) t refl (later true e) (nothing-harms side d log left f.kept) f.kept.amid.work.transport)
      by false e = subst (Did side (on_transport (then_set_priority id p) d) collected replies.Done) (λ i. Set (sym e i)) (record {
        reply = refl;
        log = subst (λ (x : DriverNow). Follows side x (log_call side log [] (PrioritySet id p)) collected) (sym (later false e))
            (called side d log collected f fits d (with_transport d (after_priority t id p)) [] (PrioritySet id p) f.kept tt (λ z. refl) (priority-follows side d log left f.kept fits id apart.0 apart.1 p can));
      })

-- ---- the laws

-- a write of as many bytes as may go out
pub write_law : (id : ℕ) (bytes : List ℕ) (a : Poll (Result ℕ StreamWriteError)) (d later : DriverNow) → a ≡ write_said id bytes d.work.transport → later ≡ on_transport (then_write id bytes) d
    → Does d later (HasSending id) (calls.Write id bytes) write_reply a
write_law id bytes a d later e q side log collected f r has =
    did-so side collected (call_effect side log (calls.Write id bytes)) write_reply (write_said id bytes d.work.transport) a (on_transport (then_write id bytes) d) later e q (wrote d id side log collected f r has bytes)

-- a write of all bytes
pub write_all_law : (id : ℕ) (bytes : List ℕ) (a : Result WriteAll StreamWriteError) (d later : DriverNow) → a ≡ write_all_said id bytes d.work.transport → later ≡ on_transport (then_write id bytes) d
    → Does d later (HasSending id) (calls.WriteAll id bytes) write_all_reply a
write_all_law id bytes a d later e q side log collected f r has =
    did-so side collected (call_effect side log (calls.WriteAll id bytes)) write_all_reply (write_all_said id bytes d.work.transport) a (on_transport (then_write id bytes) d) later e q (wrote-all d id side log collected f r has bytes)

-- a finish
pub finish_law : (id : ℕ) (a : Poll (Result (Unit {0}) StreamWriteError)) (d later : DriverNow) → a ≡ finish_said id d.work.transport → later ≡ on_transport (then_finish id) d
    → Does d later (HasSending id) (calls.Finish id) finish_reply a
finish_law id a d later e q side log collected f r has =
    did-so side collected (call_effect side log (calls.Finish id)) finish_reply (finish_said id d.work.transport) a (on_transport (then_finish id) d) later e q (finished d id side log collected f r has)

-- whether it was stopped
pub stopped_law : (id : ℕ) (a : Poll StreamWriteError) (d later : DriverNow) → a ≡ stopped_said id d.work.transport → later ≡ d → Does d later (HasSending id) (calls.Stopped id) typed.stopped_reply a
stopped_law id a d later e q side log collected f r has =
    did-so side collected (call_effect side log (calls.Stopped id)) typed.stopped_reply (stopped_said id d.work.transport) a d later e q (told d id side log collected f r has)

-- a reset
pub reset_law : (id code : ℕ) (a : Result (Unit {0}) ClosedStream) (d later : DriverNow) → a ≡ reset_said id d.work.transport → later ≡ on_transport (then_reset id code) d
    → Does d later (HasSending id) (calls.ResetSend id code) reset_reply a
reset_law id code a d later e q side log collected f r has =
    did-so side collected (call_effect side log (calls.ResetSend id code)) reset_reply (reset_said id d.work.transport) a (on_transport (then_reset id code) d) later e q (was-reset d id side log collected f r has code)

-- the priority
pub priority_law : (id : ℕ) (a : Result ℤ ClosedStream) (d later : DriverNow) → a ≡ priority_said id d.work.transport → later ≡ d → Does d later (HasSending id) (calls.Priority id) priority_reply a
priority_law id a d later e q side log collected f r has =
    did-so side collected (call_effect side log (calls.Priority id)) priority_reply (priority_said id d.work.transport) a d later e q (priority-told d id side log collected f r has)

-- it is set
pub set_priority_law : (id : ℕ) (priority : ℤ) (a : Unit {0}) (d later : DriverNow) → later ≡ on_transport (then_set_priority id priority) d → Does d later (HasSending id) (calls.SetPriority id priority) done_reply a
set_priority_law id priority a d later q side log collected f r has =
    did-so side collected (call_effect side log (calls.SetPriority id priority)) done_reply a a (on_transport (then_set_priority id priority) d) later refl q (prioritised d id side log collected f r has priority)
