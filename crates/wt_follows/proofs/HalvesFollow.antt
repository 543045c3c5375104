-- Calls on the sending half of a stream that the application has, whole: what they lead to, whether the half can still send or not.
use Rattle.std.proofs.Common.{◌∙◌, ◌≡◌, ◌∷◌, Bool, List, None, Option, Some, [], ap, false, refl, subst, subst₂, sym, true, ℕ}
use Rattle.std.specs.Prelude.{◌&&◌, ◌==◌, ◌||◌, IsTrue, if◌then◌else◌, is_some, not, ℤ}
use Rattle.wt_follows.proofs.HalfCalls.{bytes-follow, finish-follows, priority-follows, reset-follows, reset-late-follows}
use Rattle.wt_follows.proofs.Unnoticed.{unnoticed-follows}
use Rattle.wt_follows.specs.Roles.{is_living}
use Rattle.wt_follows.specs.Tie.{Follows}
use Rattle.wt_kept.specs.Kept.{DriverNow}
use Rattle.wt_transport.proofs.HalfLaws.{sending_kept}
use Rattle.wt_transport.proofs.Refining.{refined_can_send, refined_may_send}
use Rattle.wt_transport.specs.HalfRules.{is_closed}
use Rattle.wt_transport.specs.Rules.{actions_of_finish, actions_of_reset, actions_of_write, after_finishing, after_priority_unless_closed, after_reset_unless_closed, after_write, sending_half_now}
use Rattle.wt_transport.specs.State.{TransportState}
use Rattle.wt_transport.specs.Step.{after_finish, after_priority, after_reset, after_send, can_send_now, may_send_now}
use Rattle.wt_turn.specs.Joined.{newest_first}
use Rattle.wt_turn.specs.Outgoing.{actions_to_send, may_send}
use Rattle.wt_turn.specs.Reports.{stop_of}
use Rattle.wt_turn.specs.Sent.{is_finished, is_reset}
use Rattle.wt_turn.specs.Streams.{can_send, local_uni}
use Rattle.wt_sessions.specs.DriverState.{state_of}
use Rattle.wt_sessions.specs.Effect.{log_call, poll_only, poll_sending, reply_with}
use Rattle.wt_sessions.specs.Halves.{finish, is_done, reset, set_priority, write_by, write_error}
use Rattle.wt_sessions.specs.Moment.{Fits}
use Rattle.wt_turn.specs.Log.{Log, Polled, PrioritySet, ResetUnsent, actions_of, events_of, is_open}
use Rattle.wt_turn.specs.declared.action.Action.{Action}
use Rattle.wt_turn.specs.declared.action.Action.TheVariants as actions
use Rattle.wt_turn.specs.declared.reply.Reply.{Reply}
use Rattle.wt_turn.specs.declared.reply.Reply.TheVariants as replies
use Rattle.wt_turn.specs.declared.stream_error.StreamWriteError.TheVariants as writes
use Rattle.wt_wire.specs.declared.side.Side.{Side}

module _ (side : Side) (d : DriverNow) (log : Log) (uncollected : List Action) (f : Follows side d log uncollected) (fits : Fits side log) (id : ℕ)
    (no_control : (id == local_uni side) ≡ false) (no_session : is_living (state_of side log) id ≡ false) (can : IsTrue (can_send_now d.work.transport id)) where
  abbrev t : TransportState
  t = d.work.transport

  abbrev with_transport : TransportState → DriverNow
  with_transport u = record d { work = record d.work { transport = u } }

  can-log : can_send side log id ≡ true
  can-log = sym (refined_can_send side t log f.position uncollected f.amid.work.transport id) ∙ can

  may-same : may_send_now t id ≡ may_send side log id
  may-same = refined_may_send side t log f.position uncollected f.amid.work.transport id

  -- ---- a write

  -- a write that nothing hinders is one on a half that can still send
  write-log : (reply : List ℕ → ℕ → Reply) (bytes : List ℕ) → (write_by reply side log id bytes (write_error log id)).log ≡ log_call side log (actions_of_write side log id bytes) Polled
  write-log reply bytes = by (is_open log) (can_send side log id) (is_finished (actions_of log) id) (is_reset log id) (stop_of (events_of log) id) can-log
    where
      by : (o c n r : Bool) (stop : Option ℕ) → c ≡ true
          → (write_by reply side log id bytes (if not o then Some writes.NotConnected else (if n || r then Some writes.Closed else elim stop [ Some code ↦ Some (writes.Stopped code) | None ↦ None ]))).log
          ≡ log_call side log (if o && c && not n && not r && not (is_some stop) then actions_to_send log id bytes else []) Polled
      by false c n r stop e = refl
      by true false n r stop e = absurd cc
      by true true true r stop e = refl
      by true true false true stop e = refl
      by true true false false (Some code) e = refl
      by true true false false None e = refl

  write-sends : (bytes : List ℕ) → Follows side (with_transport (after_write t id bytes)) (log_call side log (actions_of_write side log id bytes) Polled) (newest_first (actions_of_write side log id bytes) uncollected)
  write-sends bytes = by (may_send side log id) refl
    where
      by : (b : Bool) → may_send side log id ≡ b → Follows side (with_transport (after_write t id bytes)) (log_call side log (actions_of_write side log id bytes) Polled) (newest_first (actions_of_write side log id bytes) uncollected)
      by true e = subst₂ (λ (x y : Bool). Follows side (with_transport (if x then after_send t id bytes else t)) (log_call side log (if y then actions_to_send log id bytes else []) Polled) (newest_first (if y then actions_to_send log id bytes else []) uncollected))
          (sym (may-same ∙ e)) (sym e) (bytes-follow side d log uncollected f fits id no_control no_session bytes (may-same ∙ e))
      by false e = subst₂ (λ (x y : Bool). Follows side (with_transport (if x then after_send t id bytes else t)) (log_call side log (if y then actions_to_send log id bytes else []) Polled) (newest_first (if y then actions_to_send log id bytes else []) uncollected))
          (sym (may-same ∙ e)) (sym e) (unnoticed-follows side log Polled refl d uncollected f fits)

  -- the driver follows the log with a write, of as many bytes as may be sent or of all
  pub write-follows : (reply : List ℕ → ℕ → Reply) (bytes : List ℕ) → Follows side (with_transport (after_write t id bytes)) (write_by reply side log id bytes (write_error log id)).log (newest_first (actions_of_write side log id bytes) uncollected)
  write-follows reply bytes = subst (λ (l : Log). Follows side (with_transport (after_write t id bytes)) l (newest_first (actions_of_write side log id bytes) uncollected)) (sym (write-log reply bytes)) (write-sends bytes)

  -- ---- a finish

  finish-log : (finish side log id).log ≡ log_call side log (actions_of_finish side log id) Polled
  finish-log = by (is_open log) (can_send side log id) can-log
    where
      by : (o c : Bool) → c ≡ true
          → log_call side log (if o && not (is_finished (actions_of log) id) && not (is_reset log id) && not (is_some (stop_of (events_of log) id)) then actions.Finish id ∷ [] else []) Polled
          ≡ log_call side log (if o && c && not (is_finished (actions_of log) id) && not (is_reset log id) && not (is_some (stop_of (events_of log) id)) then actions.Finish id ∷ [] else []) Polled
      by false c e = refl
      by true true e = refl
      by true false e = absurd cc

  finish-sends : Follows side (with_transport (after_finishing t id)) (log_call side log (actions_of_finish side log id) Polled) (newest_first (actions_of_finish side log id) uncollected)
  finish-sends = by (may_send side log id) refl
    where
      by : (b : Bool) → may_send side log id ≡ b → Follows side (with_transport (after_finishing t id)) (log_call side log (actions_of_finish side log id) Polled) (newest_first (actions_of_finish side log id) uncollected)
      by true e = subst₂ (λ (x y : Bool). Follows side (with_transport (if x then after_finish t id else t)) (log_call side log (if y then actions.Finish id ∷ [] else []) Polled) (newest_first (if y then actions.Finish id ∷ [] else []) uncollected))
          (sym (may-same ∙ e)) (sym e) (finish-follows side d log uncollected f fits id no_control no_session (may-same ∙ e))
      by false e = subst₂ (λ (x y : Bool). Follows side (with_transport (if x then after_finish t id else t)) (log_call side log (if y then actions.Finish id ∷ [] else []) Polled) (newest_first (if y then actions.Finish id ∷ [] else []) uncollected))
          (sym (may-same ∙ e)) (sym e) (unnoticed-follows side log Polled refl d uncollected f fits)

  -- the driver follows the log with a finish
  pub finishing-follows : Follows side (with_transport (after_finishing t id)) (finish side log id).log (newest_first (actions_of_finish side log id) uncollected)
  finishing-follows = subst (λ (l : Log). Follows side (with_transport (after_finishing t id)) l (newest_first (actions_of_finish side log id) uncollected)) (sym finish-log) finish-sends

  -- ---- a reset

  -- a half is closed as the log says
  closed-same : is_closed (sending_half_now t id) ≡ is_done log id
  closed-same = ap is_closed (sending_kept side t log f.position uncollected f.amid.work.transport id can)

  -- the driver follows the log with a reset, on an open connection and after its end
  pub resetting-follows : (code : ℕ) → Follows side (with_transport (after_reset_unless_closed t id code)) (reset side log id code).log (newest_first (actions_of_reset log id code) uncollected)
  resetting-follows code = subst (λ (x : Bool). Reset x (is_done log id) (is_open log)) (sym closed-same) (by (is_done log id) (is_open log) refl)
    where
      Reset : Bool → Bool → Bool → Type 0
      Reset x y o = Follows side (with_transport (if x then t else after_reset t id code))
          (if y then poll_only side log replies.ClosedStream else (if o then poll_sending side log (actions.ResetOut id code ∷ []) replies.Done else reply_with (log_call side log [] (ResetUnsent id code)) replies.Done)).log
          (newest_first (if y then [] else (if o then actions.ResetOut id code ∷ [] else [])) uncollected)

      by : (b o : Bool) → is_open log ≡ o → Reset b b o
      by true o e = unnoticed-follows side log Polled refl d uncollected f fits
      by false true e = reset-follows side d log uncollected f fits id no_control no_session code e can
      by false false e = reset-late-follows side d log uncollected f fits id no_control no_session code e can

  -- ---- its priority

  -- the driver follows the log with a priority
  pub prioritising-follows : (priority : ℤ) → Follows side (with_transport (after_priority_unless_closed t id priority)) (set_priority side log id priority).log uncollected
  prioritising-follows priority = subst (λ (x : Bool). Follows side (with_transport (if x then t else after_priority t id priority)) (set_priority side log id priority).log uncollected) (sym closed-same) (by (is_done log id))
    where
      by : (b : Bool) → Follows side (with_transport (if b then t else after_priority t id priority)) (if b then poll_only side log replies.Done else reply_with (log_call side log [] (PrioritySet id priority)) replies.Done).log uncollected
      by true = unnoticed-follows side log Polled refl d uncollected f fits
      by false = priority-follows side d log uncollected f fits id no_control no_session priority can
