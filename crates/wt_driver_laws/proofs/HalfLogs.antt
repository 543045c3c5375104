-- The log of a call whose record changes nothing that is kept: its actions, then its record, and nothing more. And how a driver follows it.
use Rattle.std.proofs.Common.{◌∙◌, ◌≡◌, ◌∷◌, List, [], ap, refl, subst, subst₂, sym, true, ℕ}
use Rattle.wt_driver_laws.proofs.TurnCollected.{follows-more}
use Rattle.wt_driver_laws.proofs.Reach.{within_fits}
use Rattle.wt_driver_laws.specs.Calling.{Did, Within, log_record}
use Rattle.wt_driver_laws.specs.Driving.{Follows, uncollected_since}
use Rattle.wt_driver_laws.specs.Records.{is_unnoticed}
use Rattle.wt_follows.proofs.PutFollows.{actions-with, fits-actions}
use Rattle.wt_follows.proofs.RestingCall.{SameSources, record-alone}
use Rattle.wt_follows.proofs.SentFollows.{Harmless, sent-follows}
use Rattle.wt_follows.proofs.Unnoticed as told
use Rattle.wt_follows.proofs.Unnoticed.{may-come, stays-same, unnoticed-follows}
use Rattle.wt_follows.specs.Tie as tie
use Rattle.wt_kept.specs.Kept.{DriverNow}
use Rattle.wt_transport.specs.State.{Refines, TransportState}
use Rattle.wt_turn.specs.Joined.{newest_first}
use Rattle.wt_sessions.specs.Driver.{transport_view}
use Rattle.wt_sessions.specs.DriverState.{DriverState, state_of}
use Rattle.wt_sessions.specs.Effect.{Effect, log_call, poll_sending}
use Rattle.wt_sessions.specs.Moment.{Fits, MayRecord}
use Rattle.wt_sessions.specs.Step.{after_call, after_entry}
use Rattle.wt_turn.specs.Log.{AcceptanceFailed, CallRecord, Called, ConnectStarted, HandshakeOver, Log, OpeningFailed, Polled, ResponseStarted, actions_of, with_actions}
use Rattle.wt_turn.specs.declared.action.Action.{Action}
use Rattle.wt_turn.specs.declared.reply.Reply.{Reply}
use Rattle.wt_wire.specs.declared.side.Side.{Side}

-- ---- nothing more goes out

module _ (side : Side) (d : DriverNow) (log : Log) (uncollected : List Action) (f : tie.Follows side d log uncollected) (fits : Fits side log) (r : CallRecord) (may : MayRecord side log r)
    (keeps : (z : DriverState) → after_call r z ≡ z) where
  abbrev s : DriverState
  s = state_of side log

  same : SameSources s (after_entry (transport_view side log) (Called r) s)
  same = subst (λ (z : DriverState). SameSources s z) (sym (ap (λ (z : DriverState). record z { is_open = s.is_open }) (keeps s)))
      (record { unis = refl; bis = refl; sessions = refl; control = refl; encoder = refl; decoder = refl; progress = refl; sent = refl; is_open = refl })

  -- a driver at rest finds nothing at the record's moment
  pub alone : log_call side log [] r ≡ Called r ∷ log
  alone = record-alone side log r d uncollected f (may, fits) same

-- ---- the driver follows with the call

-- the driver with this transport
abbrev pub with_transport : DriverNow → TransportState → DriverNow
with_transport d u = record d { work = record d.work { transport = u } }

module _ (side : Side) (d : DriverNow) (log : Log) (collected : ℕ) (f : Follows side d log collected) (fits : Fits side log) where
  abbrev left : List Action
  left = uncollected_since collected log

  -- after these actions the driver e follows, and the driver `later` with the record behind them
  pub called : (e later : DriverNow) (own : List Action) (r : CallRecord) → tie.Follows side e (with_actions own log) (newest_first own left) → MayRecord side (with_actions own log) r → ((z : DriverState) → after_call r z ≡ z)
      → tie.Follows side later (log_call side log own r) (newest_first own left) → Follows side later (log_call side log own r) collected
  called e later own r sent may keeps kept = follows-more side d later log (log_call side log own r) collected own f
      (ap actions_of (alone side e (with_actions own log) (newest_first own left) sent (fits-actions side own log fits) r may keeps) ∙ actions-with own log) kept

  -- actions of a call went out
  pub acted : (own : List Action) (u : TransportState) → Harmless side log own → Refines side u (with_actions own log) f.kept.position (newest_first own left)
      → tie.Follows side (with_transport d u) (with_actions own log) (newest_first own left)
  acted own u safe refines = sent-follows side d log left f.kept fits own safe u refines

  -- a call that sends these, and of which nothing else is recorded
  pub polled : (own : List Action) (u : TransportState) → Harmless side log own → Refines side u (with_actions own log) f.kept.position (newest_first own left)
      → Follows side (with_transport d u) (log_call side log own Polled) collected
  polled own u safe refines = called (with_transport d u) (with_transport d u) own Polled (acted own u safe refines) tt (λ z. refl)
      (unnoticed-follows side (with_actions own log) Polled refl (with_transport d u) (newest_first own left) (acted own u safe refines) (fits-actions side own log fits))

  -- with its reply
  pub did-poll : (effect : Effect) (own : List Action) (answer : Reply) (later : DriverNow) (u : TransportState) → effect ≡ poll_sending side log own answer → later ≡ with_transport d u → Harmless side log own
      → Refines side u (with_actions own log) f.kept.position (newest_first own left) → Did side later collected answer effect
  did-poll effect own answer later u is same safe refines = record {
    reply = sym (ap (λ (e : Effect). e.reply) is);
    log = subst (λ (e : Effect). Follows side later e.log collected) (sym is) (subst (λ (x : DriverNow). Follows side x (log_call side log own Polled) collected) (sym same) (polled own u safe refines));
  }

-- the same of this answer and this driver
pub did-so : {T : Type 0} (side : Side) (collected : ℕ) (effect : Effect) (reply : T → Reply) (said a : T) (now later : DriverNow) → a ≡ said → later ≡ now → Did side now collected (reply said) effect → Did side later collected (reply a) effect
did-so {T} side collected effect reply said a now later e q did = subst₂ (λ (x : T) (y : DriverNow). Did side y collected (reply x) effect) (sym e) (sym q) did

-- nothing goes out
pub nothing-harms : (side : Side) (d : DriverNow) (log : Log) (uncollected : List Action) → tie.Follows side d log uncollected → Harmless side log []
nothing-harms side d log uncollected f = record {
  there = λ k x. x;
  peers = (refl, refl);
  kinds = f.amid.work.there.kinds;
  control = refl;
  living = f.amid.work.sends.living;
  unfinished = f.amid.work.sends.own.0;
  unreset = f.amid.work.sends.own.1;
}

-- ---- a record alone

both-ways : (r : CallRecord) → is_unnoticed r ≡ told.is_unnoticed r
both-ways Polled = refl
both-ways (ConnectStarted reserved head) = refl
both-ways (ResponseStarted accepts head) = refl
both-ways AcceptanceFailed = refl
both-ways HandshakeOver = refl
both-ways (OpeningFailed id) = refl
both-ways _ = refl

-- a record that no moment notices
pub rests_law : (d : DriverNow) (r : CallRecord) → is_unnoticed r ≡ true → Within d (λ side log collected. Follows side d (log_record side log [] r) collected)
rests_law d r unnoticed side log collected f w =
    let fits : Fits side log = within_fits side log w in
    let quiet : told.is_unnoticed r ≡ true = sym (both-ways r) ∙ unnoticed in
    called side d log collected f fits d d [] r f.kept (may-come side log r quiet fits).0 (stays-same side log r quiet)
    (unnoticed-follows side log r quiet d (uncollected_since collected log) f.kept fits)
