-- The end of a session's own stream: what is answered is as the log says, and the driver follows the log with what goes out.
use Rattle.std.proofs.Common.{◌∙◌, ◌≡◌, ◌∷◌, Bool, List, None, Option, Some, [], ap, false, refl, subst, subst₂, sym, true, ℕ}
use Rattle.std.specs.Prelude.{◌&&◌, ◌==◌, ◌||◌, if◌then◌else◌, is_some, not}
use Rattle.wt_driver_laws.proofs.OpenLives.{state-lives}
use Rattle.wt_driver_laws.proofs.TurnCollected.{follows-with}
use Rattle.wt_driver_laws.proofs.Reach.{within_fits}
use Rattle.wt_driver_laws.proofs.WriteSafe.{finish-safe}
use Rattle.wt_driver_laws.specs.Calling.{Within}
use Rattle.wt_driver_laws.specs.Driving.{Follows, uncollected_since}
use Rattle.wt_driver_laws.specs.Handing.{Finishes, finish_actions, is_through}
use Rattle.wt_driver_laws.specs.Passing.{on_transport, then_finish}
use Rattle.wt_driver_laws.specs.Writing.{finished_said}
use Rattle.wt_follows.proofs.SentFollows.{sent-follows}
use Rattle.wt_kept.specs.Kept.{DriverNow}
use Rattle.wt_seam.specs.Typed.{ready_at_all}
use Rattle.wt_transport.proofs.HalfLaws.{finishing_refines, sending_answer}
use Rattle.wt_transport.proofs.Refining.{refined_can_send}
use Rattle.wt_transport.specs.HalfRules.{finish_answer, finish_unless}
use Rattle.wt_transport.specs.Rules.{actions_of_finish, after_finishing, sending_half_now}
use Rattle.wt_transport.specs.State.{TransportState}
use Rattle.wt_transport.specs.Step.{can_send_now}
use Rattle.wt_turn.specs.Reports.{stop_of}
use Rattle.wt_turn.specs.Sent.{is_finished, is_reset}
use Rattle.wt_turn.specs.Streams.{can_send, local_uni}
use Rattle.wt_sessions.specs.Driver.{is_living}
use Rattle.wt_sessions.specs.Halves.{is_done}
use Rattle.wt_sessions.specs.Moment.{Fits}
use Rattle.wt_turn.specs.Log.{Log, actions_of, events_of, is_open, with_actions}
use Rattle.wt_turn.specs.declared.action.Action.{Action}
use Rattle.wt_turn.specs.declared.action.Action.TheVariants as actions
use Rattle.wt_turn.specs.declared.poll.Poll.{Poll}
use Rattle.wt_turn.specs.declared.poll.Poll.TheVariants.{Pending, Ready}
use Rattle.wt_wire.specs.declared.side.Side.{Side}

module _ (id : ℕ) (d : DriverNow) (side : Side) (log : Log) (collected : ℕ) (f : Follows side d log collected) (fits : Fits side log)
    (can : can_send side log id ≡ true) (no_control : (id == local_uni side) ≡ false) (no_session : is_living side log id ≡ false) where
  abbrev t : TransportState
  t = d.work.transport

  abbrev left : List Action
  left = uncollected_since collected log

  can-now : can_send_now t id ≡ true
  can-now = refined_can_send side t log f.kept.position left f.kept.amid.work.transport id ∙ can

  through-by : (stop : Option ℕ) (done o : Bool) → ready_at_all (finish_unless stop done o) ≡ (if is_some stop || (done || not o) then Ready tt else Pending)
  through-by (Some code) done o = refl
  through-by None true o = refl
  through-by None false true = refl
  through-by None false false = refl

  says : finished_said id t ≡ (if is_through log id then Ready tt else Pending)
  says = (λ i. if can-now i then ready_at_all (finish_answer t.is_open (sending_half_now t id)) else Ready tt)
      ∙ (ap ready_at_all (sending_answer side t log f.kept.position left f.kept.amid.work.transport finish_answer id can-now)
      ∙ through-by (stop_of (events_of log) id) (is_done log id) (is_open log))

  out-same : actions_of_finish side log id ≡ finish_actions log id
  out-same = (λ i. if is_open log && can i && not (is_finished (actions_of log) id) && not (is_reset log id) && not (is_some (stop_of (events_of log) id)) then actions.Finish id ∷ [] else [])
      ∙ by (is_open log) (not (is_finished (actions_of log) id)) (not (is_reset log id)) (not (is_some (stop_of (events_of log) id)))
    where
      by : (o n r s : Bool) → (if o && true && n && r && s then actions.Finish id ∷ [] else []) ≡ (if (o && s) && n && r then actions.Finish id ∷ [] else [])
      by false n r s = refl
      by true false r true = refl
      by true false r false = refl
      by true true false true = refl
      by true true false false = refl
      by true true true true = refl
      by true true true false = refl

  finished : Follows side (on_transport (λ (x : TransportState). after_finishing x id) d) (with_actions (actions_of_finish side log id) log) collected
  finished = follows-with side d (on_transport (λ (x : TransportState). after_finishing x id) d) log collected (actions_of_finish side log id) f
      (sent-follows side d log left f.kept fits (actions_of_finish side log id)
      (finish-safe side d log left f.kept id no_control (state-lives side d log left f.kept id ∙ no_session)) (after_finishing t id)
      (finishing_refines side t log f.kept.position left f.kept.amid.work.transport id))

  follows : Follows side (on_transport (then_finish id) d) (with_actions (finish_actions log id) log) collected
  follows = subst (λ (xs : List Action). Follows side (on_transport (then_finish id) d) (with_actions xs log) collected) out-same
      (subst (λ (b : Bool). Follows side (record d { work = record d.work { transport = if b then after_finishing t id else t } }) (with_actions (actions_of_finish side log id) log) collected) (sym can-now) finished)

  pub finishes : Finishes side log collected id (on_transport (then_finish id) d) (finished_said id d.work.transport)
  finishes = record { says = says; follows = follows }

-- the sending half is finished, of a stream that is neither this end's control stream nor a session's that lives
pub finish_stream_law : (id : ℕ) (a : Poll (Unit {0})) (d later : DriverNow) → a ≡ finished_said id d.work.transport → later ≡ on_transport (then_finish id) d
    → Within d (λ side log collected. can_send side log id ≡ true → (id == local_uni side) ≡ false → is_living side log id ≡ false → Finishes side log collected id later a)
finish_stream_law id a d later said step side log collected f within can no_control no_session =
    subst₂ (λ (x : DriverNow) (y : Poll (Unit {0})). Finishes side log collected id x y) (sym step) (sym said)
    (finishes id d side log collected f (within_fits side log within) can no_control no_session)
