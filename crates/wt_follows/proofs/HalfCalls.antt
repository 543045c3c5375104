-- Calls on the sending half of a stream that the application has: what goes out, and the driver follows the log with it.
use Rattle.std.proofs.Common.{◌∙◌, ◌≡◌, ◌++◌, ◌∷◌, Bool, List, [], ap, false, length, refl, subst, sym, true, ℕ}
use Rattle.std.proofs.lemmas.Bool.{eqb-true, true≢false}
use Rattle.std.specs.Prelude.{◌&&◌, ◌==◌, ◌||◌, IsTrue, if◌then◌else◌, not, ℤ}
use Rattle.wt_follows.proofs.Lists.{refuted}
use Rattle.wt_follows.proofs.PutFollows.{fits-actions}
use Rattle.wt_follows.proofs.QuietCalls.{record-follows}
use Rattle.wt_follows.proofs.SentFollows.{Harmless, sent-follows}
use Rattle.wt_follows.proofs.Unnoticed.{unnoticed-follows}
use Rattle.wt_follows.specs.Roles.{is_living, is_member}
use Rattle.wt_follows.specs.Tie.{Follows}
use Rattle.wt_kept.specs.Kept.{DriverNow}
use Rattle.wt_transport.proofs.Refining.{finish_refines, priority_refines, reset_refines, send_refines}
use Rattle.wt_transport.specs.State.{Refines, TransportState}
use Rattle.wt_transport.specs.Step.{after_finish, after_priority, after_reset, after_send, can_send_now, may_send_now}
use Rattle.wt_turn.specs.Joined.{newest_first, send_of}
use Rattle.wt_turn.specs.Outgoing.{actions_to_send, bytes_within_credit}
use Rattle.wt_turn.specs.Sent.{is_finished, is_reset, sent_on}
use Rattle.wt_turn.specs.Streams.{can_send, local_count, local_uni}
use Rattle.wt_sessions.specs.Driver.{control_sent}
use Rattle.wt_sessions.specs.DriverState.{state_of}
use Rattle.wt_sessions.specs.Effect.{log_call}
use Rattle.wt_sessions.specs.Moment.{Fits}
use Rattle.wt_turn.specs.Log.{Called, Log, Polled, PrioritySet, ResetUnsent, Sent, actions_of, is_open, with_actions}
use Rattle.wt_turn.specs.declared.action.Action.{Action}
use Rattle.wt_turn.specs.declared.action.Action.TheVariants as actions
use Rattle.wt_wire.specs.declared.side.Side.{Side}

-- a stream that joined a session is neither this end's control stream nor a session's own
pub joined-apart : (side : Side) (d : DriverNow) (log : Log) (uncollected : List Action) → Follows side d log uncollected → (id session : ℕ) → is_member (state_of side log) session id ≡ true
    → ((id == local_uni side) ≡ false) × (is_living (state_of side log) id ≡ false)
joined-apart side d log uncollected f id session joined = (
  refuted (id == local_uni side) (λ x. true≢false (sym joined ∙ (ap (is_member (state_of side log) session) (eqb-true id (local_uni side) x) ∙ f.amid.work.there.own session))),
  (f.amid.work.roles.members_alone id session joined).living,
)

module _ (side : Side) (d : DriverNow) (log : Log) (uncollected : List Action) (f : Follows side d log uncollected) (fits : Fits side log) (id : ℕ)
    (no_control : (id == local_uni side) ≡ false) (no_session : is_living (state_of side log) id ≡ false) where
  abbrev t : TransportState
  t = d.work.transport

  -- the driver with this transport
  abbrev with_transport : TransportState → DriverNow
  with_transport u = record d { work = record d.work { transport = u } }

  -- a session's own stream is another
  other : (k : ℕ) → is_living (state_of side log) k ≡ true → (id == k) ≡ false
  other k e = refuted (id == k) (λ x. true≢false (sym e ∙ (ap (is_living (state_of side log)) (sym (eqb-true id k x)) ∙ no_session)))

  -- what a call sends, and nothing is recorded
  polled-with : (own : List Action) (u : TransportState) → Harmless side log own → Refines side u (with_actions own log) f.position (newest_first own uncollected)
      → Follows side (with_transport u) (log_call side log own Polled) (newest_first own uncollected)
  polled-with own u safe refines = unnoticed-follows side (with_actions own log) Polled refl (with_transport u) (newest_first own uncollected) (sent-follows side d log uncollected f fits own safe u refines) (fits-actions side own log fits)

  -- ---- bytes

  sends-control : (piece : List ℕ) → control_sent side (Sent (actions.Send id piece) ∷ log) ≡ control_sent side log
  sends-control piece = ap (λ (b : Bool). record {
    opened = not (local_count (actions_of log) (local_uni side) == 0);
    sent = length (if b then sent_on (actions_of log) (local_uni side) ++ piece else sent_on (actions_of log) (local_uni side));
  }) no_control

  pub safe-bytes : (bytes : List ℕ) → Harmless side log (send_of id bytes)
  safe-bytes [] = record { there = λ k x. x; peers = (refl, refl); kinds = f.amid.work.there.kinds; control = refl; living = f.amid.work.sends.living; unfinished = f.amid.work.sends.own.0; unreset = f.amid.work.sends.own.1 }
  safe-bytes (byte ∷ later) = record {
    there = λ k x. x;
    peers = (refl, refl);
    kinds = f.amid.work.there.kinds;
    control = sends-control (byte ∷ later);
    living = f.amid.work.sends.living;
    unfinished = f.amid.work.sends.own.0;
    unreset = f.amid.work.sends.own.1;
  }

  -- as many bytes as credit is left for go out
  pub bytes-follow : (bytes : List ℕ) → IsTrue (may_send_now t id) → Follows side (with_transport (after_send t id bytes)) (log_call side log (actions_to_send log id bytes) Polled) (newest_first (actions_to_send log id bytes) uncollected)
  bytes-follow bytes may = polled-with (actions_to_send log id bytes) (after_send t id bytes) (safe-bytes (bytes_within_credit log id bytes)) (send_refines side t log f.position uncollected f.amid.work.transport id bytes may)

  -- ---- the end of the half

  pub safe-finish : Harmless side log (actions.Finish id ∷ [])
  safe-finish = record {
    there = λ k x. x;
    peers = (refl, refl);
    kinds = f.amid.work.there.kinds;
    control = refl;
    living = λ k x. ap (λ (b : Bool). can_send side log k && not (b || is_finished (actions_of log) k) && not (is_reset log k)) (other k x) ∙ f.amid.work.sends.living k x;
    unfinished = ap (λ (b : Bool). b || is_finished (actions_of log) (local_uni side)) no_control ∙ f.amid.work.sends.own.0;
    unreset = f.amid.work.sends.own.1;
  }

  -- it is finished
  pub finish-follows : IsTrue (may_send_now t id) → Follows side (with_transport (after_finish t id)) (log_call side log (actions.Finish id ∷ []) Polled) (actions.Finish id ∷ uncollected)
  finish-follows may = polled-with (actions.Finish id ∷ []) (after_finish t id) safe-finish (finish_refines side t log f.position uncollected f.amid.work.transport id may)

  pub safe-reset : (code : ℕ) → Harmless side log (actions.ResetOut id code ∷ [])
  safe-reset code = record {
    there = λ k x. x;
    peers = (refl, refl);
    kinds = f.amid.work.there.kinds;
    control = refl;
    living = λ k x. ap (λ (b : Bool). can_send side log k && not (is_finished (actions_of log) k) && not (b || is_reset log k)) (other k x) ∙ f.amid.work.sends.living k x;
    unfinished = f.amid.work.sends.own.0;
    unreset = ap (λ (b : Bool). b || is_reset log (local_uni side)) no_control ∙ f.amid.work.sends.own.1;
  }

  -- what a reset is to the log, where it goes out or doesn't
  resets-by : (b : Bool) (code : ℕ) → is_open log ≡ b → IsTrue (can_send_now t id)
      → Refines side (after_reset t id code) ((if b then Sent (actions.ResetOut id code) else Called (ResetUnsent id code)) ∷ log) f.position (newest_first (if b then actions.ResetOut id code ∷ [] else []) uncollected)
  resets-by b code o can = subst (λ (x : Bool). Refines side (after_reset t id code) ((if x then Sent (actions.ResetOut id code) else Called (ResetUnsent id code)) ∷ log) f.position (newest_first (if x then actions.ResetOut id code ∷ [] else []) uncollected)) o
      (reset_refines side t log f.position uncollected f.amid.work.transport id code can)

  -- it is reset
  pub reset-follows : (code : ℕ) → is_open log ≡ true → IsTrue (can_send_now t id)
      → Follows side (with_transport (after_reset t id code)) (log_call side log (actions.ResetOut id code ∷ []) Polled) (actions.ResetOut id code ∷ uncollected)
  reset-follows code opened can = polled-with (actions.ResetOut id code ∷ []) (after_reset t id code) (safe-reset code) (resets-by true code opened can)

  -- after the end of the connection a reset counts, and nothing goes out
  pub reset-late-follows : (code : ℕ) → is_open log ≡ false → IsTrue (can_send_now t id) → Follows side (with_transport (after_reset t id code)) (log_call side log [] (ResetUnsent id code)) uncollected
  reset-late-follows code ended can = record-follows side d log uncollected f fits (ResetUnsent id code) tt
      (record { keeps = λ z. refl; gives = λ k. refl; reads = λ k. refl; living = λ k x. other k x; own = no_control }) (after_reset t id code) (resets-by false code ended can)

  -- ---- its priority

  pub priority-follows : (priority : ℤ) → IsTrue (can_send_now t id) → Follows side (with_transport (after_priority t id priority)) (log_call side log [] (PrioritySet id priority)) uncollected
  priority-follows priority can = record-follows side d log uncollected f fits (PrioritySet id priority) tt
      (record { keeps = λ z. refl; gives = λ k. refl; reads = λ k. refl; living = λ k x. refl; own = refl }) (after_priority t id priority) (priority_refines side t log f.position uncollected f.amid.work.transport id priority can)
