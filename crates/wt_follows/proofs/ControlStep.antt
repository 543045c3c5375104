-- The peer's control stream is read on, and its QPACK streams are looked at, as the log's last steps do.
use Rattle.std.proofs.Common.{◌∙◌, ◌≡◌, Bool, List, None, Option, Some, ap, drop, false, is_none, is_some, option_map, refl, subst, sym, true, ℕ}
use Rattle.std.proofs.lemmas.Bool.{eqb-true, true≢false}
use Rattle.std.specs.List.{list_any}
use Rattle.std.specs.Prelude.{◌&&◌, ◌==◌, ◌||◌, if◌then◌else◌, not}
use Rattle.wt_follows.proofs.Datagrams.{LeavesStreams, leaves-both, leaves-itself}
use Rattle.wt_follows.proofs.KeepsLaws.{keeps-sources}
use Rattle.wt_follows.proofs.Lifted.{lifted, read-counts}
use Rattle.wt_follows.proofs.Lists.{refuted, same}
use Rattle.wt_follows.proofs.Counts.{SameCounts}
use Rattle.wt_follows.proofs.Moved.{sessions-moved}
use Rattle.wt_follows.proofs.OwnRequest.{none-before, request-critical}
use Rattle.wt_follows.proofs.OwnStop.{both, looked-back, qpack-follows, qpack_state}
use Rattle.wt_follows.proofs.ReadsTo.{ReadsTo}
use Rattle.wt_follows.proofs.SameStreams.{read-amid}
use Rattle.wt_follows.proofs.StreamEnds.{there}
use Rattle.wt_follows.specs.Rests.{ControlRead}
use Rattle.wt_follows.specs.Roles.{is_at, is_critical, is_held, is_in, is_living, is_member, waits}
use Rattle.wt_follows.specs.Tie.{Amid, ControlFollows, ReaderAt, WorkAmid, goes, have_settings_come, rests_at_header}
use Rattle.wt_kept.specs.Classifying.{fail_with, with_dispatched}
use Rattle.wt_kept.specs.Kept.{DriverNow, WorkNow}
use Rattle.wt_kept.specs.Looking.{fail_if_closed, has_ended, check_qpack_now, control_read, read_control, read_control_by, unless_fault}
use Rattle.wt_kept.specs.Moment.{control_step}
use Rattle.wt_kept.specs.Readers.{ControlReading, Slot, control_rules, read_on}
use Rattle.wt_transport.specs.State.{Refines, TransportState}
use Rattle.wt_proto.specs.ControlWalk.{control_walk_of}
use Rattle.wt_proto.specs.declared.control_walk.ControlWalk.{ControlWalk}
use Rattle.wt_turn.specs.Reports.{end_of, is_running}
use Rattle.wt_turn.specs.Streams.{contents, local_bi}
use Rattle.wt_turn.specs.Unread.{ReadPosition}
use Rattle.wt_sessions.specs.Driver.{transport_view}
use Rattle.wt_sessions.specs.DriverState.{DriverState}
use Rattle.wt_sessions.specs.Scan.{check_control, check_qpack, critical_if, unless_ended, with_fault}
use Rattle.wt_sessions.specs.Scan as scan
use Rattle.wt_sessions.specs.Step.{on_progress_now}
use Rattle.wt_sessions.specs.StreamTable.{Classified, DriverProgress, TransportView}
use Rattle.wt_turn.specs.Log.{Log, events_of, with_actions}
use Rattle.wt_turn.specs.declared.action.Action.{Action}
use Rattle.wt_wire.specs.declared.error.ErrorCode.{ErrorCode}
use Rattle.wt_wire.specs.declared.error.ErrorCode.TheVariants as h3
use Rattle.wt_wire.specs.declared.side.Side.{Side}

-- reading on in the control stream leads to what the tie says
abbrev pub ReadsControl : Side → Log → List Action → (ℕ → ReadPosition) → List Action → TransportState → Type 0
ReadsControl side log sent position uncollected t = (k : ℕ) (r : ControlReading) (offset : ℕ) → Refines side t (with_actions sent log) position uncollected → ReaderAt control_rules r offset (contents log k) (position k)
    → ReadsTo control_rules control_walk_of side t log (with_actions sent log) position uncollected k r offset

-- the walk over the whole stream saw the SETTINGS that the reader saw
abbrev pub SettingsStay : Log → ControlReading → ℕ → ℕ → Type 0
SettingsStay log r offset k = is_some (control_rules.outcome r).settings ≡ true → is_some (control_walk_of (drop offset (contents log k)) (end_of (events_of log) k)).settings ≡ true

-- the state after a look at the control stream
abbrev pub control_state : TransportView → DriverState → DriverState
control_state t s = unless_ended s.progress.fault (λ x. on_progress_now (check_control t x.dispatched.control) x) s

module _ (side : Side) (log : Log) (sent : List Action) (position : ℕ → ReadPosition) (uncollected : List Action) (w : WorkNow) (s : DriverState) (a : WorkAmid side w log s sent position uncollected) (open_ : s.is_open ≡ true)
    (reads : ReadsControl side log sent position uncollected w.transport) (settings : (k : ℕ) (r : ControlReading) (offset : ℕ) → ReaderAt control_rules r offset (contents log k) (position k) → SettingsStay log r offset k) where
  abbrev view : TransportView
  view = transport_view side log

  -- positions change for critical streams alone
  pub record ControlLooked (v : WorkNow) (z : DriverState) : Type 0 where
    pub position_then : ℕ → ReadPosition
    pub elsewhere : (j : ℕ) → is_critical s j ≡ false → position_then j ≡ position j
    pub amid : WorkAmid side v log z sent position_then uncollected
    pub read : goes z ≡ true → ControlRead position_then (contents log) v.dispatched.critical.control

  -- ---- the control stream

  module _ (f : s.progress.fault ≡ None) (x : Slot ControlReading) (c : ℕ × ℕ) (slot : w.dispatched.critical.control ≡ Some x) (first : s.dispatched.control ≡ Some c) (at : ControlFollows (Some x) (Some c) (contents log) position) where
    read : ReadsTo control_rules control_walk_of side w.transport log (with_actions sent log) position uncollected x.id x.reader c.1
    read = reads x.id x.reader c.1 a.transport (subst (λ k. ReaderAt control_rules x.reader c.1 (contents log k) (position k)) (sym at.0) at.1)

    critical : is_critical s x.id ≡ true
    critical = ap (λ o. is_at o x.id || is_at s.dispatched.encoder x.id || is_at s.dispatched.decoder x.id) first
        ∙ ap (λ b. b || is_at s.dispatched.encoder x.id || is_at s.dispatched.decoder x.id) (ap (λ k. k == x.id) (sym at.0) ∙ same x.id)

    not-held : is_held s x.id ≡ false
    not-held = refuted (is_held s x.id) (λ e. true≢false (sym critical ∙ a.roles.requests_alone x.id e))

    not-waiting : waits s x.id ≡ false
    not-waiting = refuted (waits s x.id) (λ e. true≢false (sym critical ∙ (a.roles.waiting_alone x.id e).critical))

    no-rest : rests_at_header s x.id ≡ false
    no-rest = (λ i. not-waiting i || (is_in x.id s.dispatched.held && not (s.dispatched.is_established x.id)))
        ∙ none (is_in x.id s.dispatched.held) (list_any (λ (y : Classified). y.id == x.id) s.dispatched.requests) (not (s.dispatched.is_established x.id)) not-held
      where
        none : (p q r : Bool) → (p || q) ≡ false → (p && r) ≡ false
        none true q r e = absurd (true≢false e)
        none false q r e = refl

    walk : ControlWalk
    walk = control_walk_of (drop c.1 (contents log c.0)) (end_of (events_of log) c.0)

    says : control_rules.outcome (read_on control_rules x.id x.reader w.transport).reader ≡ control_walk_of (drop c.1 (contents log c.0)) (end_of (events_of log) c.0)
    says = read.says ∙ ap (λ k. control_walk_of (drop c.1 (contents log k)) (end_of (events_of log) k)) at.0

    abbrev progress : DriverProgress
    progress = scan.control_read (control_walk_of (drop c.1 (contents log c.0)) (end_of (events_of log) c.0)) s.progress

    came : is_some (control_walk_of (drop c.1 (contents log c.0)) (end_of (events_of log) c.0)).settings ≡ (s.progress.settings || is_some (control_walk_of (drop c.1 (contents log c.0)) (end_of (events_of log) c.0)).settings)
    came = by s.progress.settings refl
      where
        by : (b : Bool) → s.progress.settings ≡ b → is_some (control_walk_of (drop c.1 (contents log c.0)) (end_of (events_of log) c.0)).settings ≡ (b || is_some (control_walk_of (drop c.1 (contents log c.0)) (end_of (events_of log) c.0)).settings)
        by false e = refl
        by true e = settings c.0 x.reader c.1 at.1 (sym (ap have_settings_come slot) ∙ (a.keeps.settings ∙ e))

    settings-then : (o : Option ErrorCode) (p : DriverProgress) → (with_fault o p).settings ≡ p.settings
    settings-then None p = refl
    settings-then (Some code) p = refl

    fault-then : (o : Option ErrorCode) (p : DriverProgress) → p.fault ≡ None → o ≡ (with_fault o p).fault
    fault-then None p e = sym e
    fault-then (Some code) p e = refl

    back : goes (record s { progress = progress }) ≡ true → (control_walk_of (drop c.1 (contents log c.0)) (end_of (events_of log) c.0)).fault ≡ None
    back g = by (control_walk_of (drop c.1 (contents log c.0)) (end_of (events_of log) c.0)).fault (ap (λ b. b && is_none progress.fault) (sym open_) ∙ g)
      where
        by : (o : Option ErrorCode) → is_none (with_fault o (record s.progress { settings = s.progress.settings || is_some (control_walk_of (drop c.1 (contents log c.0)) (end_of (events_of log) c.0)).settings })).fault ≡ true → o ≡ None
        by None e = refl
        by (Some code) e = absurd (true≢false (sym e))

    goes-before : goes s ≡ true
    goes-before = λ i. open_ i && is_none (f i)

    read-then : WorkAmid side (control_read x.id (read_on control_rules x.id x.reader w.transport) w) log (record s { progress = progress }) sent read.position_then uncollected
    read-then = read-amid side w log s sent position uncollected a s.dispatched.datagrams progress
        (control_read x.id (read_on control_rules x.id x.reader w.transport) w).dispatched (read_on control_rules x.id x.reader w.transport).transport read.position_then x.id read.transport read.elsewhere
        no-rest (λ session. refuted (is_member s session x.id) (λ e. true≢false (sym critical ∙ (a.roles.members_alone x.id session e).critical))) (there side log x.id (a.there.critical x.id critical))
        (keeps-sources w.dispatched s a.keeps (record w.dispatched.critical { control = Some (record { id = x.id; reader = (read_on control_rules x.id x.reader w.transport).reader }) }) w.dispatched.requests
        (control_rules.outcome (read_on control_rules x.id x.reader w.transport).reader).fault s.dispatched.control s.dispatched.encoder s.dispatched.decoder s.dispatched.requests s.dispatched.held progress
        (ap Some at.0 ∙ sym (ap (option_map (λ (y : ℕ × ℕ). y.0)) first)) a.keeps.encoder a.keeps.decoder
        (ap (λ (v : ControlWalk). is_some v.settings) says ∙ (came ∙ sym (settings-then (control_walk_of (drop c.1 (contents log c.0)) (end_of (events_of log) c.0)).fault (record s.progress { settings = s.progress.settings || is_some (control_walk_of (drop c.1 (contents log c.0)) (end_of (events_of log) c.0)).settings }))))
        a.keeps.queued a.keeps.held
        (ap (λ (v : ControlWalk). v.fault) says ∙ fault-then (control_walk_of (drop c.1 (contents log c.0)) (end_of (events_of log) c.0)).fault (record s.progress { settings = s.progress.settings || is_some (control_walk_of (drop c.1 (contents log c.0)) (end_of (events_of log) c.0)).settings }) f))
        (λ g. subst (λ o. ControlFollows (Some (record { id = x.id; reader = (read_on control_rules x.id x.reader w.transport).reader })) o (contents log) read.position_then) (sym first) (
          at.0,
          subst (λ k. ReaderAt control_rules (read_on control_rules x.id x.reader w.transport).reader c.1 (contents log k) (read.position_then k)) at.0
              (subst (λ v. ReaderAt control_rules v c.1 (contents log x.id) (read.position_then x.id)) (sym (read.no_end (ap (λ (v : ControlWalk). is_some v.fault) says ∙ ap is_some (back g)))) read.at_front),
        ))
        (λ g. sessions-moved x.id position read.position_then read.elsewhere (contents log) w.dispatched.sessions.living s.sessions (refuted (is_living s x.id) (λ e. true≢false (sym critical ∙ a.roles.living_alone x.id e))) (a.sessions goes-before))

    here : ControlLooked (control_read x.id (read_on control_rules x.id x.reader w.transport) w) (record s { progress = progress })
    here = record {
      position_then = read.position_then;
      elsewhere = λ j e. read.elsewhere j (refuted (x.id == j) (λ g. true≢false (sym critical ∙ (ap (is_critical s) (eqb-true x.id j g) ∙ e))));
      amid = read-then;
      read = λ g. read.read_all (ap (λ (v : ControlWalk). is_some v.fault) says ∙ ap is_some (back g));
    }

  nothing-there : w.dispatched.critical.control ≡ None → ControlLooked w s
  nothing-there e = record { position_then = position; elsewhere = λ j f. refl; amid = a; read = λ g. subst (λ (o : Option (Slot ControlReading)). ControlRead position (contents log) o) (sym e) tt }

  after-fault : (code : ErrorCode) → s.progress.fault ≡ Some code → ControlLooked w s
  after-fault code f = record { position_then = position; elsewhere = λ j e. refl; amid = a; read = λ g. absurd (true≢false (sym (ap (λ b. b && is_none s.progress.fault) (sym open_) ∙ g) ∙ ap is_none f)) }

  -- by whether there is one
  looked-at : s.progress.fault ≡ None → (o : Option (Slot ControlReading)) (c : Option (ℕ × ℕ)) → w.dispatched.critical.control ≡ o → s.dispatched.control ≡ c → ControlFollows o c (contents log) position
      → ControlLooked (read_control_by o w) (on_progress_now (check_control view c) s)
  looked-at f None None e g h = nothing-there e
  looked-at f (Some x) (Some c) e g h = here f x c e g h
  looked-at f None (Some c) e g h = absurd h
  looked-at f (Some x) None e g h = absurd h

  pub control-follows : ControlLooked (read_control w) (control_state view s)
  control-follows = subst (λ (o : Option ErrorCode). ControlLooked (unless_fault o (read_control_by w.dispatched.critical.control w) w) (control_state view s)) (sym a.keeps.fault) (by s.progress.fault refl)
    where
      by : (o : Option ErrorCode) → s.progress.fault ≡ o → ControlLooked (unless_fault o (read_control_by w.dispatched.critical.control w) w) (unless_ended o (λ x. on_progress_now (check_control view x.dispatched.control) x) s)
      by (Some code) f = after-fault code f
      by None f = looked-at f w.dispatched.critical.control s.dispatched.control refl refl (a.control (λ i. open_ i && is_none (f i)))

-- ---- what the step leaves

unless-leaves : (f : DriverState → DriverState) (s : DriverState) → LeavesStreams s (f s) × ((f s).progress.datagrams ≡ s.progress.datagrams)
    → LeavesStreams s (unless_ended s.progress.fault f s) × ((unless_ended s.progress.fault f s).progress.datagrams ≡ s.progress.datagrams)
unless-leaves f s l = by s.progress.fault
  where
    by : (o : Option ErrorCode) → LeavesStreams s (unless_ended o f s) × ((unless_ended o f s).progress.datagrams ≡ s.progress.datagrams)
    by None = l
    by (Some code) = (leaves-itself s, refl)

control-leaves : (t : TransportView) (o : Option (ℕ × ℕ)) (s : DriverState) → LeavesStreams s (on_progress_now (check_control t o) s) × ((on_progress_now (check_control t o) s).progress.datagrams ≡ s.progress.datagrams)
control-leaves t None s = (leaves-itself s, refl)
control-leaves t (Some c) s = by (control_walk_of (drop c.1 (t.contents c.0)) (t.end c.0)).fault
  where
    p : DriverProgress
    p = record s.progress { settings = s.progress.settings || is_some (control_walk_of (drop c.1 (t.contents c.0)) (t.end c.0)).settings }

    by : (o : Option ErrorCode) → LeavesStreams s (record s { progress = with_fault o (record s.progress { settings = s.progress.settings || is_some (control_walk_of (drop c.1 (t.contents c.0)) (t.end c.0)).settings }) })
        × ((with_fault o (record s.progress { settings = s.progress.settings || is_some (control_walk_of (drop c.1 (t.contents c.0)) (t.end c.0)).settings })).datagrams ≡ s.progress.datagrams)
    by None = (record { unis = refl; bis = refl; is_open = refl; actions = refl; control_sent = refl; established = λ k. refl }, refl)
    by (Some code) = (record { unis = refl; bis = refl; is_open = refl; actions = refl; control_sent = refl; established = λ k. refl }, refl)

qpack-leaves : (t : TransportView) (o : Option (ℕ × ℕ)) (s : DriverState) → LeavesStreams s (on_progress_now (check_qpack t o) s) × ((on_progress_now (check_qpack t o) s).progress.datagrams ≡ s.progress.datagrams)
qpack-leaves t None s = (leaves-itself s, refl)
qpack-leaves t (Some c) s = by (not (is_running (t.end c.0)))
  where
    by : (b : Bool) → LeavesStreams s (on_progress_now (critical_if b) s) × ((critical_if b s.progress).datagrams ≡ s.progress.datagrams)
    by true = (record { unis = refl; bis = refl; is_open = refl; actions = refl; control_sent = refl; established = λ k. refl }, refl)
    by false = (leaves-itself s, refl)

module _ (t : TransportView) (s : DriverState) where
  abbrev after_control : DriverState
  after_control = control_state t s

  abbrev after_encoder : DriverState
  after_encoder = unless_ended after_control.progress.fault (λ x. on_progress_now (check_qpack t x.dispatched.encoder) x) after_control

  -- the state after the last three steps of a moment
  abbrev pub last_state : DriverState
  last_state = qpack_state t after_control

  pub last-leaves : LeavesStreams s last_state × (last_state.progress.datagrams ≡ s.progress.datagrams)
  last-leaves =
      let one = unless-leaves (λ x. on_progress_now (check_control t x.dispatched.control) x) s (control-leaves t s.dispatched.control s) in
      let two = unless-leaves (λ x. on_progress_now (check_qpack t x.dispatched.encoder) x) after_control (qpack-leaves t after_control.dispatched.encoder after_control) in
      let three = unless-leaves (λ x. on_progress_now (check_qpack t x.dispatched.decoder) x) after_encoder (qpack-leaves t after_encoder.dispatched.decoder after_encoder) in
      (leaves-both s after_encoder last_state (leaves-both s after_control after_encoder one.0 two.0) three.0, three.1 ∙ (two.1 ∙ one.1))

  -- no session and no table changes
  pub last-sessions : last_state.sessions ≡ s.sessions
  last-sessions = same-sessions after_encoder (λ x. on_progress_now (check_qpack t x.dispatched.decoder) x) refl
      ∙ (same-sessions after_control (λ x. on_progress_now (check_qpack t x.dispatched.encoder) x) refl ∙ same-sessions s (λ x. on_progress_now (check_control t x.dispatched.control) x) refl)
    where
      same-sessions : (z : DriverState) (f : DriverState → DriverState) → (f z).sessions ≡ z.sessions → (unless_ended z.progress.fault f z).sessions ≡ z.sessions
      same-sessions z f e = by z.progress.fault
        where
          by : (o : Option ErrorCode) → (unless_ended o f z).sessions ≡ z.sessions
          by None = e
          by (Some code) = refl

  ended : (f : DriverState → DriverState) (z : DriverState) (code : ErrorCode) → z.progress.fault ≡ Some code → unless_ended z.progress.fault f z ≡ z
  ended f z code e = ap (λ o. unless_ended o f z) e

  -- after a fault nothing is looked at
  last-ended : (code : ErrorCode) → s.progress.fault ≡ Some code → last_state ≡ s
  last-ended code e =
      let one = ended (λ x. on_progress_now (check_control t x.dispatched.control) x) s code e in
      let two = ended (λ x. on_progress_now (check_qpack t x.dispatched.encoder) x) after_control code (ap (λ x. x.progress.fault) one ∙ e) in
      let three = ended (λ x. on_progress_now (check_qpack t x.dispatched.decoder) x) after_encoder code (ap (λ x. x.progress.fault) (two ∙ one) ∙ e) in
      three ∙ (two ∙ one)

  pub last-back : s.is_open ≡ true → goes last_state ≡ true → goes s ≡ true
  last-back o g = by s.progress.fault refl
    where
      by : (e : Option ErrorCode) → s.progress.fault ≡ e → goes s ≡ true
      by None f = λ i. o i && is_none (f i)
      by (Some code) f = sym (ap goes (last-ended code f)) ∙ g

read-control-counts : (w : WorkNow) → SameCounts w.transport (read_control w).transport
read-control-counts w = by w.dispatched.fault w.dispatched.critical.control
  where
    by : (o : Option ErrorCode) (c : Option (Slot ControlReading)) → SameCounts w.transport (unless_fault o (read_control_by c w) w).transport
    by None None kind = refl
    by None (Some x) kind = read-counts control_rules x.id x.reader w.transport kind
    by (Some code) c kind = refl

-- ---- the step

module _ (side : Side) (d : DriverNow) (log : Log) (s : DriverState) (sent : List Action) (position : ℕ → ReadPosition) (uncollected : List Action) (a : Amid side d log s sent position uncollected) (open_ : s.is_open ≡ true)
    (reads : ReadsControl side log sent position uncollected d.work.transport) (settings : (k : ℕ) (r : ControlReading) (offset : ℕ) → ReaderAt control_rules r offset (contents log k) (position k) → SettingsStay log r offset k) where
  pub record ControlStepped : Type 0 where
    pub position_then : ℕ → ReadPosition
    pub amid : Amid side (control_step d) log (last_state (transport_view side log) s) sent position_then uncollected
    pub elsewhere : (j : ℕ) → is_critical s j ≡ false → position_then j ≡ position j
    pub read : goes (last_state (transport_view side log) s) ≡ true → ControlRead position_then (contents log) (control_step d).work.dispatched.critical.control

  r : ControlLooked side log sent position uncollected d.work s a.work open_ reads settings (read_control d.work) (control_state (transport_view side log) s)
  r = control-follows side log sent position uncollected d.work s a.work open_ reads settings

  l : LeavesStreams s (last_state (transport_view side log) s) × ((last_state (transport_view side log) s).progress.datagrams ≡ s.progress.datagrams)
  l = last-leaves (transport_view side log) s

  same-control : (b : Bool) (w : WorkNow) → (with_dispatched (fail_if_closed b) w).dispatched.critical.control ≡ w.dispatched.critical.control
  same-control b w = by (b && is_none w.dispatched.fault)
    where
      by : (c : Bool) → (if c then fail_with h3.ClosedCriticalStream w.dispatched else w.dispatched).critical.control ≡ w.dispatched.critical.control
      by true = refl
      by false = refl

  -- where it goes on, the control stream was no fault
  went : goes (last_state (transport_view side log) s) ≡ true → goes (control_state (transport_view side log) s) ≡ true
  went g = looked-back _ (control_state (transport_view side log) s) (ap goes (both side log sent r.position_then uncollected (read_control d.work) (control_state (transport_view side log) s) r.amid) ∙ g)

  pub control_step_follows : ControlStepped
  unfolding control_step
  control_step_follows = record {
    position_then = r.position_then;
    amid = lifted side d log s sent position uncollected a (check_qpack_now (read_control d.work)) (last_state (transport_view side log) s) sent r.position_then uncollected
        (qpack-follows side log sent r.position_then uncollected (read_control d.work) (control_state (transport_view side log) s) r.amid)
        (read-control-counts d.work) l.0.unis l.0.bis l.1 (last-back (transport_view side log) s open_) (λ j e. r.elsewhere j (a.work.roles.arriving j e).critical) refl
        (λ c n. (none-before s (last_state (transport_view side log) s) l.0.established n, r.elsewhere (local_bi side) (request-critical side s a.work.there.peers)));
    elsewhere = r.elsewhere;
    read = λ g. subst (λ (o : Option (Slot ControlReading)). ControlRead r.position_then (contents log) o)
        (sym (same-control (has_ended (read_control d.work).dispatched.critical.encoder (read_control d.work).transport || has_ended (read_control d.work).dispatched.critical.decoder (read_control d.work).transport) (read_control d.work)))
        (r.read (went g));
  }
