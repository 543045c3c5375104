-- A critical stream that ended closes the connection: this end's control stream that the peer stopped, and the peer's QPACK streams.
use Rattle.std.proofs.Common.{arith, tests, ◌∙◌, ◌≡◌, ◌∷◌, Bool, List, None, Option, Some, [], ap, false, is_none, is_some, option_map, refl, subst, subst₂, sym, true, ℕ}
use Rattle.std.proofs.lemmas.Bool.{true≢false}
use Rattle.std.specs.Prelude.{◌&&◌, ◌==◌, ◌||◌, if◌then◌else◌, not}
use Rattle.wt_follows.proofs.Datagrams.{LeavesStreams}
use Rattle.wt_follows.proofs.KeepsLaws.{keeps-progress}
use Rattle.wt_follows.proofs.Lifted.{lifted}
use Rattle.wt_follows.proofs.OwnRequest.{none-before}
use Rattle.wt_follows.proofs.SameStreams.{dated-amid}
use Rattle.wt_follows.proofs.StreamEnds.{actions-events}
use Rattle.wt_follows.specs.Tie.{Amid, WorkAmid, goes}
use Rattle.wt_kept.specs.Classifying.{with_dispatched}
use Rattle.wt_kept.specs.Kept.{DriverNow, WorkNow}
use Rattle.wt_kept.specs.Looking.{check_qpack_now, fail_if_closed, has_ended, is_own_stopped, is_stopped_at}
use Rattle.wt_kept.specs.Moment.{own_stop_step}
use Rattle.wt_transport.proofs.Asking.{refined_stop}
use Rattle.wt_transport.proofs.Refining.{refined_end}
use Rattle.wt_transport.specs.State.{Refines, TransportState}
use Rattle.wt_transport.specs.StreamState.{Stream}
use Rattle.wt_turn.specs.Reports.{end_of, is_running, stop_of}
use Rattle.wt_turn.specs.Streams.{exists, local_count, local_uni, one_more_if, peer_count, peer_opens}
use Rattle.wt_turn.specs.Unread.{ReadPosition}
use Rattle.wt_sessions.specs.Driver.{control_sent, transport_view}
use Rattle.wt_sessions.specs.DriverState.{DriverState}
use Rattle.wt_sessions.specs.Scan.{check_qpack, critical_if, unless_ended}
use Rattle.wt_sessions.specs.Step.{on_progress_now}
use Rattle.wt_sessions.specs.StreamTable.{DriverProgress, TransportView}
use Rattle.wt_turn.specs.Log.{Event, Log, PeerBi, PeerUni, actions_of, all_events_of, events_of, with_actions}
use Rattle.wt_turn.specs.declared.action.Action.{Action}
use Rattle.wt_wire.specs.declared.error.ErrorCode.{ErrorCode}
use Rattle.wt_wire.specs.declared.side.Side.{Side}
use Rattle.wt_wire.specs.declared.side.Side.TheVariants.{Client, Server}
use Rattle.wt_wire.specs.declared.error.ErrorCode.TheVariants as h3

-- ---- what fails

-- the state after a look at critical streams
abbrev pub looked : Bool → DriverState → DriverState
looked closed s = unless_ended s.progress.fault (on_progress_now (critical_if closed)) s

module _ (side : Side) (log : Log) (sent : List Action) (position : ℕ → ReadPosition) (uncollected : List Action) (w : WorkNow) (s : DriverState) (a : WorkAmid side w log s sent position uncollected) where
  pub fail-follows : (closed : Bool) → WorkAmid side (with_dispatched (fail_if_closed closed) w) log (looked closed s) sent position uncollected
  fail-follows closed = subst₂ (λ (x y : Option ErrorCode). WorkAmid side (record w { dispatched = if closed && is_none x then record w.dispatched { fault = Some h3.ClosedCriticalStream } else w.dispatched }) log
      (unless_ended y (on_progress_now (critical_if closed)) s) sent position uncollected) (sym a.keeps.fault) refl (by s.progress.fault refl closed)
    where
      same : WorkAmid side w log s sent position uncollected
      same = a

      by : (o : Option ErrorCode) → s.progress.fault ≡ o → (c : Bool) → WorkAmid side (record w { dispatched = if c && is_none o then record w.dispatched { fault = Some h3.ClosedCriticalStream } else w.dispatched }) log
          (unless_ended o (on_progress_now (critical_if c)) s) sent position uncollected
      by (Some code) f true = a
      by (Some code) f false = a
      by None f false = a
      by None f true = dated-amid side w log s sent position uncollected a s.dispatched.datagrams (record s.progress { fault = Some h3.ClosedCriticalStream }) (record w.dispatched { fault = Some h3.ClosedCriticalStream })
          (keeps-progress w.dispatched s a.keeps (Some h3.ClosedCriticalStream) (record s.progress { fault = Some h3.ClosedCriticalStream }) refl refl)
          (λ g. absurd (true≢false (sym (goes-not s.is_open g)))) (λ g. absurd (true≢false (sym (goes-not s.is_open g))))
        where
          goes-not : (b : Bool) → (b && false) ≡ true → false ≡ true
          goes-not true e = e
          goes-not false e = e

-- streams, datagrams and what goes out stay
pub looked-leaves : (closed : Bool) (s : DriverState) → LeavesStreams s (looked closed s) × ((looked closed s).progress.datagrams ≡ s.progress.datagrams) × ((looked closed s).dispatched ≡ s.dispatched) × ((looked closed s).sessions ≡ s.sessions)
looked-leaves closed s = by s.progress.fault closed
  where
    by : (o : Option ErrorCode) (c : Bool) → LeavesStreams s (unless_ended o (on_progress_now (critical_if c)) s) × ((unless_ended o (on_progress_now (critical_if c)) s).progress.datagrams ≡ s.progress.datagrams)
        × ((unless_ended o (on_progress_now (critical_if c)) s).dispatched ≡ s.dispatched) × ((unless_ended o (on_progress_now (critical_if c)) s).sessions ≡ s.sessions)
    by None true = (record { unis = refl; bis = refl; is_open = refl; actions = refl; control_sent = refl; established = λ k. refl }, refl, refl, refl)
    by None false = (record { unis = refl; bis = refl; is_open = refl; actions = refl; control_sent = refl; established = λ k. refl }, refl, refl, refl)
    by (Some code) c = (record { unis = refl; bis = refl; is_open = refl; actions = refl; control_sent = refl; established = λ k. refl }, refl, refl, refl)

pub looked-back : (closed : Bool) (s : DriverState) → goes (looked closed s) ≡ true → goes s ≡ true
looked-back closed s = by s.progress.fault refl closed
  where
    by : (o : Option ErrorCode) → s.progress.fault ≡ o → (c : Bool) → goes (unless_ended o (on_progress_now (critical_if c)) s) ≡ true → goes s ≡ true
    by None f false g = g
    by None f true g = absurd (true≢false (sym (no_ s.is_open g)))
      where
        no_ : (b : Bool) → (b && false) ≡ true → false ≡ true
        no_ true e = e
        no_ false e = e
    by (Some code) f c g = g

-- ---- this end's control stream

own-unopened : (side : Side) (events : List Event) → peer_count side events (local_uni side) ≡ 0
own-unopened side [] = refl
own-unopened side (e ∷ before) = by side e ∙ own-unopened side before
  where
    by : (n : Side) (e : Event) → one_more_if (peer_opens n (local_uni n) e) (peer_count side before (local_uni side)) ≡ peer_count side before (local_uni side)
    by Client PeerUni = refl
    by Client PeerBi = refl
    by Client _ = refl
    by Server PeerUni = refl
    by Server PeerBi = refl
    by Server _ = refl

module _ (side : Side) (t : TransportState) (log : Log) (position : ℕ → ReadPosition) (uncollected : List Action) (r : Refines side t log position uncollected) where
  not-there : (control_sent side log).opened ≡ false → exists side log (local_uni side) ≡ false
  not-there e = by side (own-unopened side (all_events_of log)) (none (local_count (actions_of log) (local_uni side)) e)
    where
      none : (n : ℕ) → not (n == 0) ≡ false → n ≡ 0
      none n f = grind (arith, tests)

      by : (n : Side) → peer_count n (all_events_of log) (local_uni n) ≡ 0 → local_count (actions_of log) (local_uni n) ≡ 0 → exists n log (local_uni n) ≡ false
      by Client p q = grind (arith, tests)
      by Server p q = grind (arith, tests)

  unstopped : (control_sent side log).opened ≡ false → stop_of (events_of log) (local_uni side) ≡ None
  unstopped e = ap (λ (s : Stream). s.signals.stop) ((r.facts.streams (local_uni side)).unopened (not-there e))

  pub own-stop : (o : Option ℕ) → o ≡ (if (control_sent side log).opened then Some (local_uni side) else None) → is_stopped_at o t ≡ is_some (stop_of (events_of log) (local_uni side))
  own-stop o e = ap (λ x. is_stopped_at x t) e ∙ by (control_sent side log).opened refl
    where
      by : (b : Bool) → (control_sent side log).opened ≡ b → is_stopped_at (if b then Some (local_uni side) else None) t ≡ is_some (stop_of (events_of log) (local_uni side))
      by true f = ap is_some (refined_stop side t log position uncollected r (local_uni side))
      by false f = ap is_some (sym (unstopped f))

module _ (side : Side) (d : DriverNow) (log : Log) (s : DriverState) (sent : List Action) (position : ℕ → ReadPosition) (uncollected : List Action) (a : Amid side d log s sent position uncollected) where
  abbrev pub own_stop_state : DriverState
  own_stop_state = looked ((transport_view side log).is_stopped (local_uni side)) s

  closed-is : is_own_stopped d.own_control d.work.transport ≡ (transport_view side log).is_stopped (local_uni side)
  closed-is = own-stop side d.work.transport (with_actions sent log) position uncollected a.work.transport d.own_control.stream a.own.stream
      ∙ ap (λ es. is_some (stop_of es (local_uni side))) (actions-events sent log)

  at : (closed : Bool) → Amid side (record d { work = with_dispatched (fail_if_closed closed) d.work }) log (looked closed s) sent position uncollected
  at closed = let l = looked-leaves closed s in lifted side d log s sent position uncollected a (with_dispatched (fail_if_closed closed) d.work) (looked closed s) sent position uncollected
      (fail-follows side log sent position uncollected d.work s a.work closed) (λ kind. refl) l.0.unis l.0.bis l.1 (looked-back closed s) (λ j e. refl) refl (λ c n. (none-before s (looked closed s) l.0.established n, refl))

  pub own_stop_follows : Amid side (own_stop_step d) log own_stop_state sent position uncollected
  unfolding own_stop_step
  own_stop_follows = subst (λ (b : Bool). Amid side (record d { work = with_dispatched (fail_if_closed (is_own_stopped d.own_control d.work.transport)) d.work }) log (looked b s) sent position uncollected) closed-is
      (at (is_own_stopped d.own_control d.work.transport))

-- ---- the peer's QPACK streams

-- the stream ended, where it is there
abbrev pub ended_at : TransportView → Option (ℕ × ℕ) → Bool
ended_at t None = false
ended_at t (Some c) = not (is_running (t.end c.0))

-- the state after both were looked at
abbrev pub qpack_state : TransportView → DriverState → DriverState
qpack_state t s = let z = unless_ended s.progress.fault (λ x. on_progress_now (check_qpack t x.dispatched.encoder) x) s in unless_ended z.progress.fault (λ x. on_progress_now (check_qpack t x.dispatched.decoder) x) z

module _ (side : Side) (log : Log) (sent : List Action) (position : ℕ → ReadPosition) (uncollected : List Action) (w : WorkNow) (s : DriverState) (a : WorkAmid side w log s sent position uncollected) where
  abbrev view : TransportView
  view = transport_view side log

  ended-same : (o : Option ℕ) (c : Option (ℕ × ℕ)) → o ≡ option_map (λ (x : ℕ × ℕ). x.0) c → has_ended o w.transport ≡ ended_at view c
  ended-same o None e = ap (λ x. has_ended x w.transport) e
  ended-same o (Some c) e = ap (λ x. has_ended x w.transport) e
      ∙ (ap (λ x. not (is_running x)) (refined_end side w.transport (with_actions sent log) position uncollected a.transport c.0) ∙ ap (λ es. not (is_running (end_of es c.0))) (actions-events sent log))

  qpack-is : (o : Option (ℕ × ℕ)) (p : DriverProgress) → check_qpack view o p ≡ critical_if (ended_at view o) p
  qpack-is None p = refl
  qpack-is (Some c) p = refl

  unless-same : (o : Option ErrorCode) (f g : DriverState → DriverState) (z : DriverState) → f z ≡ g z → unless_ended o f z ≡ unless_ended o g z
  unless-same None f g z e = e
  unless-same (Some code) f g z e = refl

  -- two looks are one
  two : (b c : Bool) (z : DriverState) (o : Option ErrorCode) → z.progress.fault ≡ o → unless_ended o (on_progress_now (critical_if (b || c))) z
      ≡ unless_ended (unless_ended o (on_progress_now (critical_if b)) z).progress.fault (on_progress_now (critical_if c)) (unless_ended o (on_progress_now (critical_if b)) z)
  two b c z (Some code) f = sym (ap (λ x. unless_ended x (on_progress_now (critical_if c)) z) f)
  two true c z None f = refl
  two false c z None f = sym (ap (λ x. unless_ended x (on_progress_now (critical_if c)) z) f)

  pub both : looked (ended_at view s.dispatched.encoder || ended_at view s.dispatched.decoder) s ≡ qpack_state view s
  both =
      let z : DriverState = looked (ended_at view s.dispatched.encoder) s in
      let one : z ≡ unless_ended s.progress.fault (λ x. on_progress_now (check_qpack view x.dispatched.encoder) x) s =
      unless-same s.progress.fault (on_progress_now (critical_if (ended_at view s.dispatched.encoder))) (λ x. on_progress_now (check_qpack view x.dispatched.encoder) x) s
      (ap (λ p. record s { progress = p }) (sym (qpack-is s.dispatched.encoder s.progress))) in
      let other : unless_ended z.progress.fault (on_progress_now (critical_if (ended_at view s.dispatched.decoder))) z ≡ unless_ended z.progress.fault (λ x. on_progress_now (check_qpack view x.dispatched.decoder) x) z =
      unless-same z.progress.fault (on_progress_now (critical_if (ended_at view s.dispatched.decoder))) (λ x. on_progress_now (check_qpack view x.dispatched.decoder) x) z
      (ap (λ p. record z { progress = p }) (ap (λ o. critical_if (ended_at view o) z.progress) (sym (ap (λ x. x.decoder) (looked-leaves (ended_at view s.dispatched.encoder) s).2)) ∙ sym (qpack-is z.dispatched.decoder z.progress))) in
      two (ended_at view s.dispatched.encoder) (ended_at view s.dispatched.decoder) s s.progress.fault refl
      ∙ (other ∙ ap (λ (x : DriverState). unless_ended x.progress.fault (λ y. on_progress_now (check_qpack view y.dispatched.decoder) y) x) one)

  pub qpack-follows : WorkAmid side (check_qpack_now w) log (qpack_state view s) sent position uncollected
  qpack-follows = subst (λ (z : DriverState). WorkAmid side (check_qpack_now w) log z sent position uncollected) both
      (subst (λ (b : Bool). WorkAmid side (check_qpack_now w) log (looked b s) sent position uncollected)
      (λ i. ended-same w.dispatched.critical.encoder s.dispatched.encoder a.keeps.encoder i || ended-same w.dispatched.critical.decoder s.dispatched.decoder a.keeps.decoder i)
      (fail-follows side log sent position uncollected w s a (has_ended w.dispatched.critical.encoder w.transport || has_ended w.dispatched.critical.decoder w.transport)))
