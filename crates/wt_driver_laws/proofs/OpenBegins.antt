-- This end opens a stream, for a session or for a request: the driver follows the log with it.
use Rattle.std.proofs.Common.{◌∙◌, ◌≡◌, ◌∷◌, Bool, List, [], ap, false, refl, subst, sym, true, ℕ}
use Rattle.std.specs.Prelude.{if◌then◌else◌}
use Rattle.wt_driver_laws.proofs.OpenSafe.{may-join, opened-safe}
use Rattle.wt_driver_laws.proofs.TurnCollected.{follows-more, follows-with}
use Rattle.wt_driver_laws.specs.Driving.{Follows, uncollected_since}
use Rattle.wt_driver_laws.specs.Passing.{on_transport}
use Rattle.wt_follows.proofs.JoinedStream.{join-follows}
use Rattle.wt_follows.proofs.MomentEnds.{state-sent}
use Rattle.wt_follows.proofs.PutFollows.{actions-with, fits-actions}
use Rattle.wt_follows.proofs.RestingCall.{record-alone}
use Rattle.wt_follows.proofs.SentFollows as sent
use Rattle.wt_follows.specs.Roles.{is_living}
use Rattle.wt_follows.specs.Tie as tie
use Rattle.wt_kept.specs.Calling.{on_sessions}
use Rattle.wt_kept.specs.Kept.{DriverNow}
use Rattle.wt_kept.specs.Windows.{joined_by, with_live}
use Rattle.wt_transport.proofs.Refining.{bi_refines, uni_refines}
use Rattle.wt_transport.specs.Kind.{local_kind}
use Rattle.wt_transport.specs.State.{Refines, TransportState}
use Rattle.wt_transport.specs.Step.{after_opening}
use Rattle.wt_turn.specs.Joined.{newest_first}
use Rattle.wt_turn.specs.Outgoing.{actions_to_open, may_open, next_id}
use Rattle.wt_sessions.specs.DriverState.{DriverState, state_of}
use Rattle.wt_sessions.specs.Effect.{log_call}
use Rattle.wt_sessions.specs.Moment.{Fits}
use Rattle.wt_turn.specs.Log.{Called, Log, OpeningStarted, Sent, actions_of, with_actions}
use Rattle.wt_turn.specs.declared.action.Action.{Action}
use Rattle.wt_turn.specs.declared.action.Action.TheVariants as actions
use Rattle.wt_wire.specs.declared.side.Side.{Side}

-- what goes out where one may be opened
to-open : (side : Side) (log : Log) (kind : ℕ) → may_open side log kind ≡ true → actions.Opened (next_id side log kind) ∷ [] ≡ actions_to_open side log kind
to-open side log kind may = λ i. if sym may i then actions.Opened (next_id side log kind) ∷ [] else []

module _ (side : Side) (d : DriverNow) (log : Log) (collected : ℕ) (f : Follows side d log collected) (fits : Fits side log) (bidirectional : Bool) (may : may_open side log (local_kind bidirectional side) ≡ true) where
  abbrev left : List Action
  left = uncollected_since collected log

  abbrev kind : ℕ
  kind = local_kind bidirectional side

  abbrev id : ℕ
  id = next_id side log kind

  abbrev own : List Action
  own = actions.Opened id ∷ []

  abbrev g : Log
  g = Sent (actions.Opened id) ∷ log

  abbrev t : TransportState
  t = d.work.transport

  abbrev u : TransportState
  u = after_opening t (local_kind bidirectional t.side)

  -- the driver, whose transport opened it
  abbrev e : DriverNow
  e = on_transport (λ (x : TransportState). after_opening x (local_kind bidirectional t.side)) d

  by-kind : (b : Bool) → Refines side (after_opening t (local_kind b t.side)) (with_actions (actions_to_open side log (local_kind b side)) log) f.kept.position (newest_first (actions_to_open side log (local_kind b side)) left)
  by-kind true = bi_refines side t log f.kept.position left f.kept.amid.work.transport
  by-kind false = uni_refines side t log f.kept.position left f.kept.amid.work.transport

  refines : Refines side u g f.kept.position (actions.Opened id ∷ left)
  refines = subst (λ (xs : List Action). Refines side u (with_actions xs log) f.kept.position (newest_first xs left)) (sym (to-open side log kind may)) (by-kind bidirectional)

  -- readers are where they were
  abbrev opened : tie.Follows side e g (actions.Opened id ∷ left)
  opened = record {
    position = f.kept.position;
    amid = subst (λ (w : DriverState). tie.Amid side e g w [] f.kept.position (actions.Opened id ∷ left)) (sym (state-sent side own log))
        (sent.sent-amid side d log left f.kept fits own (opened-safe side d log left f.kept bidirectional may) u refines);
    rests = λ x. sent.sent-rests side d log left f.kept fits own (opened-safe side d log left f.kept bidirectional may) u refines x;
  }

  -- the driver follows the log with what went out
  pub opened-follows : Follows side (on_transport (λ (x : TransportState). after_opening x (local_kind bidirectional d.work.transport.side)) d)
      (with_actions (actions_to_open side log (local_kind bidirectional side)) log) collected
  opened-follows = subst (λ (xs : List Action). Follows side e (with_actions xs log) collected) (to-open side log kind may) (follows-with side d e log collected own f opened)

  module _ (s : ℕ) (lives : is_living (state_of side log) s ≡ true) where
    abbrev later : DriverNow
    later = on_sessions (with_live (joined_by id) s) e

    lives-then : is_living (state_of side g) s ≡ true
    lives-then = ap (λ (z : DriverState). is_living z s) (state-sent side own log) ∙ lives

    alone : log_call side log own (OpeningStarted id s) ≡ Called (OpeningStarted id s) ∷ g
    alone = record-alone side g (OpeningStarted id s) e (actions.Opened id ∷ left) opened (tt, fits-actions side own log fits)
        (record { unis = refl; bis = refl; sessions = refl; control = refl; encoder = refl; decoder = refl; progress = refl; sent = refl; is_open = refl })

    joined : tie.Follows side later (log_call side log own (OpeningStarted id s)) (newest_first own left)
    joined = join-follows side e g (actions.Opened id ∷ left) opened (fits-actions side own log fits) s lives-then id (may-join side d log left f.kept bidirectional may)

    begun : Follows side later (log_call side log own (OpeningStarted id s)) collected
    begun = follows-more side d later log (log_call side log own (OpeningStarted id s)) collected own f (ap actions_of alone ∙ actions-with own log) joined

    -- the driver follows the log with the call
    pub opening-follows : Follows side (on_sessions (with_live (joined_by (next_id side log (local_kind bidirectional side))) s) (on_transport (λ (x : TransportState). after_opening x (local_kind bidirectional d.work.transport.side)) d))
        (log_call side log (actions_to_open side log (local_kind bidirectional side)) (OpeningStarted (next_id side log (local_kind bidirectional side)) s)) collected
    opening-follows = subst (λ (xs : List Action). Follows side later (log_call side log xs (OpeningStarted id s)) collected) (to-open side log kind may) begun
