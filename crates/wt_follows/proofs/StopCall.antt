-- The application stops a receiving half: the peer is asked to stop, the half is given up, and the driver follows the log.
use Rattle.std.proofs.Common.{◌∙◌, ◌≡◌, ◌∷◌, Bool, List, [], ap, refl, true, false, ℕ}
use Rattle.std.specs.Prelude.{IsTrue, if◌then◌else◌}
use Rattle.wt_follows.proofs.MomentEnds.{state-sent}
use Rattle.wt_follows.proofs.PutFollows.{fits-actions}
use Rattle.wt_follows.proofs.ReadCalls.{given-up-follows}
use Rattle.wt_follows.proofs.SentFollows.{Harmless, sent-follows}
use Rattle.wt_follows.specs.Roles.{is_member}
use Rattle.wt_follows.specs.Tie.{Follows}
use Rattle.wt_kept.specs.Kept.{DriverNow}
use Rattle.wt_transport.proofs.Refining.{stop_refines}
use Rattle.wt_transport.specs.State.{TransportState}
use Rattle.wt_transport.specs.Step.{after_give_up, after_stop, can_receive_now, if_so, with_action}
use Rattle.wt_turn.specs.Joined.{newest_first}
use Rattle.wt_turn.specs.Outgoing.{if_open}
use Rattle.wt_sessions.specs.DriverState.{DriverState, state_of}
use Rattle.wt_sessions.specs.Halves.{stop_receiving}
use Rattle.wt_sessions.specs.Moment.{Fits}
use Rattle.wt_turn.specs.Log.{Log, is_open, with_actions}
use Rattle.wt_turn.specs.declared.action.Action.{Action}
use Rattle.wt_turn.specs.declared.action.Action.TheVariants as actions
use Rattle.wt_wire.specs.declared.side.Side.{Side}

module _ (side : Side) (d : DriverNow) (log : Log) (uncollected : List Action) (f : Follows side d log uncollected) (fits : Fits side log) (id session : ℕ) (joined : is_member (state_of side log) session id ≡ true)
    (can : IsTrue (can_receive_now d.work.transport id)) (code : ℕ) where
  abbrev t : TransportState
  t = d.work.transport

  abbrev own : List Action
  own = if_open log (actions.StopOut id code)

  pub safe-if : (b : Bool) → Harmless side log (if b then actions.StopOut id code ∷ [] else [])
  safe-if true = record { there = λ k x. x; peers = (refl, refl); kinds = f.amid.work.there.kinds; control = refl; living = f.amid.work.sends.living; unfinished = f.amid.work.sends.own.0; unreset = f.amid.work.sends.own.1 }
  safe-if false = record { there = λ k x. x; peers = (refl, refl); kinds = f.amid.work.there.kinds; control = refl; living = f.amid.work.sends.living; unfinished = f.amid.work.sends.own.0; unreset = f.amid.work.sends.own.1 }

  asked : Follows side (record d { work = record d.work { transport = after_stop t id code } }) (with_actions own log) (newest_first own uncollected)
  asked = sent-follows side d log uncollected f fits own (safe-if (is_open log)) (after_stop t id code) (stop_refines side t log f.position uncollected f.amid.work.transport id code)

  still-joined : is_member (state_of side (with_actions own log)) session id ≡ true
  still-joined = ap (λ (s : DriverState). is_member s session id) (state-sent side own log) ∙ joined

  can-still : can_receive_now (after_stop t id code) id ≡ true
  can-still = by t.is_open
    where
      by : (b : Bool) → can_receive_now (if_so b (with_action t (actions.StopOut id code)) t) id ≡ true
      by true = can
      by false = can

  -- the driver follows the log with a stop
  pub stop-follows : Follows side (record d { work = record d.work { transport = after_give_up (after_stop t id code) id } }) (stop_receiving side log id code).log (newest_first own uncollected)
  stop-follows = given-up-follows side (record d { work = record d.work { transport = after_stop t id code } }) (with_actions own log) (newest_first own uncollected) asked (fits-actions side own log fits) id session still-joined can-still
