-- The application ends a session that lives, or a request is rejected: what is kept follows the log with what goes out and the call's record, whose moment finds nothing.
use Rattle.std.proofs.Common.{nat_lt, take, length, option_map, is_none, is_some, ◌∙◌, ◌≡◌, ◌∷◌, Bool, List, None, Option, Some, [], ap, cond, false, filter, refl, subst, sym, true, ℕ}
use Rattle.std.proofs.lemmas.Bool.{eqb-true, true≢false}
use Rattle.std.specs.List.{list_any}
use Rattle.std.specs.Prelude.{◌&&◌, ◌==◌, ◌||◌, if◌then◌else◌, not, unwrap_or}
use Rattle.wt_follows.proofs.Ends.{AreEnds, control-same, gone-ends}
use Rattle.wt_follows.proofs.EntryAtRest.{open-alone, open-state}
use Rattle.wt_follows.proofs.KeepsLaws.{keeps-progress}
use Rattle.wt_follows.proofs.Lifted.{lifted}
use Rattle.wt_follows.proofs.Lists.{any-filter, any-map, none-left, or-true, refuted, same}
use Rattle.wt_follows.proofs.MomentEnds.{ends-count, state-sent}
use Rattle.wt_follows.proofs.OwnRequest.{bi-apart}
use Rattle.wt_follows.proofs.PieceLog.{finds-with-actions}
use Rattle.wt_follows.proofs.QuietEntry.{and-first}
use Rattle.wt_follows.proofs.Retire.{may_retire}
use Rattle.wt_follows.proofs.Settled.{settles}
use Rattle.wt_follows.proofs.SameStreams.{dated-amid, told}
use Rattle.wt_follows.proofs.SessionCalls.{end-ends, ended-amid, end_actions, ended_driver, record-taken, reject_actions, rejected-amid, rejected_driver}
use Rattle.wt_follows.proofs.GoneRoles.{MayRetire, gone-elsewhere, gone_position}
use Rattle.wt_follows.proofs.ScanStep.{reading-kept}
use Rattle.wt_follows.proofs.StreamEnds.{actions-events}
use Rattle.wt_follows.specs.Pieces.{AllRun, FindsNothing, noted}
use Rattle.wt_follows.specs.Rests.{ControlRead, Resting, SessionsRead, SlotsRead}
use Rattle.wt_follows.specs.Roles.{is_arriving, is_at, is_critical, is_in, is_living, waits}
use Rattle.wt_follows.specs.Tie.{Amid, Follows, goes}
use Rattle.wt_kept.specs.Calling.{awaits_answer_now, end_session_now, refuse_session_now, refused_by, is_queued_now, was_given_now}
use Rattle.wt_kept.specs.Ending.{finish_and_retire, retire_now}
use Rattle.wt_kept.specs.Kept.{DriverNow, Ended, LiveNow, Refused, WorkNow}
use Rattle.wt_kept.specs.Readers.{ControlReading, Slot, bi_rules, uni_rules}
use Rattle.wt_kept.specs.Moment.{with_work}
use Rattle.wt_kept.specs.Windows.{is_live, lives_now}
use Rattle.wt_message.specs.FixedBytes.{local_control_bytes}
use Rattle.wt_transport.proofs.Refining.{actions-contents, refined_open}
use Rattle.wt_turn.specs.Joined.{newest_first}
use Rattle.wt_turn.specs.Reports.{credit, is_connected, unis_allowed}
use Rattle.wt_turn.specs.Streams.{contents, local_bi, local_uni, peer_bi, peer_uni}
use Rattle.wt_turn.specs.Unread.{AtOffset, ReadPosition}
use Rattle.wt_sessions.proofs.LogFollows.{sent-fits}
use Rattle.wt_sessions.specs.Driver.{ControlSent, control_actions, control_sent, transport_view}
use Rattle.wt_sessions.specs.DriverState.{DriverState, state_of}
use Rattle.wt_sessions.specs.Effect.{log_call}
use Rattle.wt_sessions.specs.Moment.{Fits, is_known}
use Rattle.wt_sessions.specs.Scan.{with_no_actions}
use Rattle.wt_sessions.specs.Step.{after_entry, gone_now}
use Rattle.wt_sessions.specs.StreamTable.{Classified, Session, TransportView}
use Rattle.wt_turn.specs.Log.{Called, Log, RequestRejected, is_open, with_actions}
use Rattle.wt_turn.specs.declared.action.Action.{Action}
use Rattle.wt_wire.specs.declared.side.Side.{Side}

-- fewer sessions run as these did
all-run : (t : TransportView) (p : Session → Bool) (xs : List Session) → AllRun t xs → AllRun t (filter p xs)
all-run t p [] h = tt
all-run t p (x ∷ xs) h = by (p x) (all-run t p xs h.1)
  where
    by : (b : Bool) → AllRun t (filter p xs) → AllRun t (cond b (x ∷ filter p xs) (filter p xs))
    by true again = (h.0, again)
    by false again = again

-- a session that becomes gone leaves nothing to find, and so does a record
pub finds-gone : (side : Side) (log : Log) (s : DriverState) (k : ℕ) (came : Bool) → FindsNothing (transport_view side log) s came → FindsNothing (transport_view side (Called (RequestRejected k) ∷ log)) (gone_now k s) came
finds-gone side log s k came q = record {
  unis = q.unis;
  bis = q.bis;
  datagrams = q.datagrams;
  sessions = all-run (transport_view side log) (λ (x : Session). not (k == x.id)) s.sessions q.sessions;
  unstopped = q.unstopped;
  control = q.control;
  encoder = q.encoder;
  decoder = q.decoder;
  going = q.going;
  idle = q.idle;
}

of-state : (side : Side) (log : Log) → (state_of side log).control_sent ≡ control_sent side log
unfolding state_of
of-state side log = refl

-- A call that makes a session gone: this work is left and these actions went out.
module _ (side : Side) (d : DriverNow) (log : Log) (uncollected : List Action) (f : Follows side d log uncollected) (fits : Fits side log) (opened : is_open log ≡ true) (k : ℕ) (may : MayRetire side log (state_of side log) k)
    (own : List Action) (own-ends : AreEnds own) (w : WorkNow) (critical_same : w.dispatched.critical ≡ d.work.dispatched.critical)
    (gone-amid : Amid side (record d { work = w }) log (gone_now k (state_of side log)) own (gone_position (state_of side log) k f.position) (newest_first own uncollected)) where
  abbrev s : DriverState
  s = state_of side log

  abbrev before : Log
  before = with_actions own log

  abbrev e : DriverNow
  e = record d { work = w }

  open_now : s.is_open ≡ true
  open_now = f.amid.work.is_open_same ∙ opened

  -- the state with the record
  abbrev gone : DriverState
  gone = told (control_sent side before) (is_open before) (gone_now k s)

  entry-is : after_entry (transport_view side before) (Called (RequestRejected k)) (state_of side before) ≡ gone
  entry-is = ap (λ (x : DriverState). after_entry (transport_view side before) (Called (RequestRejected k)) x) (state-sent side own log)

  taken : Amid side e (Called (RequestRejected k) ∷ before) gone [] (gone_position s k f.position) (newest_first own uncollected)
  taken = record-taken side e before gone (gone_position s k f.position) (newest_first own uncollected) (settles side e log (gone_now k s) own (gone_position s k f.position) (newest_first own uncollected) gone-amid (ends-count (peer_uni side) own log own-ends) (ends-count (peer_bi side) own log own-ends)) k

  -- it finds nothing
  finds-told : (c : ControlSent) (o : Bool) (z : DriverState) (came : Bool) (t : TransportView) → z.control_sent ≡ c → FindsNothing t z came → FindsNothing t (told c o z) came
  finds-told c o z came t same q = record {
    unis = q.unis;
    bis = q.bis;
    datagrams = q.datagrams;
    sessions = q.sessions;
    unstopped = q.unstopped;
    control = q.control;
    encoder = q.encoder;
    decoder = q.decoder;
    going = q.going;
    idle = ap (λ x. control_actions t.may_open (local_uni t.side) t.credit x) (sym same) ∙ q.idle;
  }

  state-control : s.control_sent ≡ control_sent side before
  state-control = of-state side log ∙ sym (control-same side own log own-ends)

  finds : FindsNothing (transport_view side (Called (RequestRejected k) ∷ before)) gone s.progress.settings
  finds = finds-told (control_sent side before) (is_open before) (gone_now k s) s.progress.settings (transport_view side (Called (RequestRejected k) ∷ before)) state-control
      (finds-gone side before s k s.progress.settings (finds-with-actions side own log s s.progress.settings (f.rests opened).finds))

  module _ (known : is_known side before k ≡ true) where
    whole-fits : Fits side (Called (RequestRejected k) ∷ before)
    whole-fits = (known, sent-fits side own log fits)

    before-open : gone.is_open ≡ true
    before-open = sym gone-amid.work.is_open_same ∙ open_now

    entry-open : (after_entry (transport_view side before) (Called (RequestRejected k)) (state_of side before)).is_open ≡ true
    entry-open = ap (λ (x : DriverState). x.is_open) entry-is ∙ before-open

    entry-finds : FindsNothing (transport_view side (Called (RequestRejected k) ∷ before)) (after_entry (transport_view side before) (Called (RequestRejected k)) (state_of side before)) s.progress.settings
    entry-finds = subst (λ (x : DriverState). FindsNothing (transport_view side (Called (RequestRejected k) ∷ before)) x s.progress.settings) (sym entry-is) finds

    -- nothing but the record is in the log
    pub alone : log_call side log own (RequestRejected k) ≡ Called (RequestRejected k) ∷ before
    alone = open-alone side before (Called (RequestRejected k)) whole-fits refl s.progress.settings entry-open entry-finds

    -- the state then
    pub state-then : state_of side (Called (RequestRejected k) ∷ before) ≡ noted s.progress.settings gone
    state-then = open-state side before (Called (RequestRejected k)) whole-fits refl s.progress.settings entry-open entry-finds ∙ ap (noted s.progress.settings) entry-is

    noted-amid : Amid side e (Called (RequestRejected k) ∷ before) (noted s.progress.settings gone) [] (gone_position s k f.position) (newest_first own uncollected)
    noted-amid = lifted side e (Called (RequestRejected k) ∷ before) gone [] (gone_position s k f.position) (newest_first own uncollected) taken e.work (noted s.progress.settings gone) [] (gone_position s k f.position) (newest_first own uncollected)
        (dated-amid side e.work (Called (RequestRejected k) ∷ before) gone [] (gone_position s k f.position) (newest_first own uncollected) taken.work gone.dispatched.datagrams (with_no_actions s.progress) e.work.dispatched
        (keeps-progress e.work.dispatched gone taken.work.keeps e.work.dispatched.fault (with_no_actions s.progress) refl taken.work.keeps.fault) (λ g. taken.work.control g) (λ g. taken.work.sessions g))
        (λ kind. refl) refl refl refl (λ g. g) (λ j x. refl) refl (λ c n. (n, refl))

    -- what is kept follows the log after the call
    pub end-follows : Amid side e (log_call side log own (RequestRejected k)) (state_of side (log_call side log own (RequestRejected k))) [] (gone_position s k f.position) (newest_first own uncollected)
    end-follows = subst (λ (l : Log). Amid side e l (state_of side l) [] (gone_position s k f.position) (newest_first own uncollected)) (sym alone)
        (subst (λ (x : DriverState). Amid side e (Called (RequestRejected k) ∷ before) x [] (gone_position s k f.position) (newest_first own uncollected)) (sym state-then) noted-amid)

    -- ---- at rest

    going : goes s ≡ true
    going = λ i. open_now i && is_none ((f.rests opened).finds.going i)

    same-contents : contents (Called (RequestRejected k) ∷ before) ≡ contents log
    same-contents = actions-contents own log

    abbrev new : ℕ → ReadPosition
    new = gone_position s k f.position

    arriving-moved : (j : ℕ) → is_arriving s j ≡ true → new j ≡ f.position j
    arriving-moved j x = gone-elsewhere s k f.position j (refuted (k == j) (λ g. true≢false (sym x ∙ (ap (is_arriving s) (sym (eqb-true k j g)) ∙ may.arriving)))) (f.amid.work.roles.arriving j x).waits

    critical-moved : (j : ℕ) → is_critical s j ≡ true → new j ≡ f.position j
    critical-moved j x = gone-elsewhere s k f.position j (refuted (k == j) (λ g. true≢false (sym x ∙ (ap (is_critical s) (sym (eqb-true k j g)) ∙ may.critical))))
        (refuted (waits s j) (λ g. true≢false (sym x ∙ (f.amid.work.roles.waiting_alone j g).critical)))

    control-read : (o : Option (Slot ControlReading)) (c : Option (ℕ × ℕ)) → s.dispatched.control ≡ c → option_map (λ (x : Slot ControlReading). x.id) o ≡ option_map (λ (x : ℕ × ℕ). x.0) c
        → ControlRead f.position (contents log) o → ControlRead new (contents log) o
    control-read None c x y h = tt
    control-read (Some o) None x y h = absurd (true≢false (ap is_some y))
    control-read (Some o) (Some c) x y h = critical-moved o.id here ∙ h
      where
        at : o.id ≡ c.0
        at = ap (λ (z : Option ℕ). unwrap_or z o.id) y

        here : is_critical s o.id ≡ true
        here = ap (λ z. is_at z o.id || is_at s.dispatched.encoder o.id || is_at s.dispatched.decoder o.id) x
            ∙ ap (λ b. b || is_at s.dispatched.encoder o.id || is_at s.dispatched.decoder o.id) (ap (λ n. n == o.id) (sym at) ∙ same o.id)

    read-of : (xs : List LiveNow) → SessionsRead f.position (contents log) xs → (j : ℕ) → list_any (λ (x : LiveNow). x.id == j) xs ≡ true → f.position j ≡ AtOffset (length (contents log j))
    read-of [] h j x = absurd (true≢false (sym x))
    read-of (y ∷ ys) h j x = by (y.id == j) refl x (read-of ys h.1 j)
      where
        by : (b : Bool) → (y.id == j) ≡ b → (b || list_any (λ (z : LiveNow). z.id == j) ys) ≡ true → (list_any (λ (z : LiveNow). z.id == j) ys ≡ true → f.position j ≡ AtOffset (length (contents log j))) → f.position j ≡ AtOffset (length (contents log j))
        by true g t again = subst (λ n. f.position n ≡ AtOffset (length (contents log n))) (eqb-true y.id j g) h.0
        by false g t again = again t

    read-live : (xs : List LiveNow) → ((j : ℕ) → list_any (λ (x : LiveNow). x.id == j) xs ≡ true → new j ≡ AtOffset (length (contents log j))) → SessionsRead new (contents log) xs
    read-live [] h = tt
    read-live (x ∷ xs) h = (h x.id (ap (λ b. b || list_any (λ (y : LiveNow). y.id == x.id) xs) (same x.id)), read-live xs (λ j g. h j (ap (λ b. (x.id == j) || b) g ∙ or-true (x.id == j))))

    -- of one that lives still
    still-live : (j : ℕ) → is_living (gone_now k s) j ≡ true → new j ≡ AtOffset (length (contents log j))
    still-live j x =
        let before_it : is_living s j ≡ true = any-filter (λ (y : Session). y.id == j) (λ (y : Session). not (k == y.id)) s.sessions x in
        let other : (k == j) ≡ false = refuted (k == j) (λ g. true≢false (sym x ∙ none-left (λ (y : Session). y.id == j) (λ (y : Session). not (k == y.id))
        (λ y h. ap (λ i. not (i == y.id)) (eqb-true k j g) ∙ (ap (λ i. not (j == i)) (eqb-true y.id j h) ∙ ap not (same j))) s.sessions)) in
        gone-elsewhere s k f.position j other (refuted (waits s j) (λ g. true≢false (sym before_it ∙ (f.amid.work.roles.waiting_alone j g).living)))
        ∙ read-of d.work.dispatched.sessions.living (f.rests opened).sessions j
        (sym (any-map (λ (y : LiveNow). y.id) j d.work.dispatched.sessions.living) ∙ (ap (is_in j) f.amid.work.keeps.living ∙ (any-map (λ (y : Session). y.id) j s.sessions ∙ before_it)))

    lives-same : (j : ℕ) → list_any (λ (x : LiveNow). x.id == j) e.work.dispatched.sessions.living ≡ is_living (gone_now k s) j
    lives-same j = sym (any-map (λ (x : LiveNow). x.id) j e.work.dispatched.sessions.living) ∙ (ap (is_in j) taken.work.keeps.living ∙ any-map (λ (x : Session). x.id) j (gone_now k s).sessions)

    finds-noted : FindsNothing (transport_view side (Called (RequestRejected k) ∷ before)) (noted s.progress.settings gone) s.progress.settings
    finds-noted = record {
      unis = finds.unis;
      bis = finds.bis;
      datagrams = finds.datagrams;
      sessions = finds.sessions;
      unstopped = finds.unstopped;
      control = finds.control;
      encoder = finds.encoder;
      decoder = finds.decoder;
      going = finds.going;
      idle = finds.idle;
    }

    same-ready : (transport_view side log).ready ≡ (transport_view side (Called (RequestRejected k) ∷ before)).ready
    same-ready = λ i. is_connected (sym (actions-events own log) i) && nat_lt 0 (unis_allowed (sym (actions-events own log) i))
        && not (nat_lt (credit (sym (actions-events own log) i) (local_uni side)) (length local_control_bytes))

    rests-then : Resting side e (Called (RequestRejected k) ∷ before) new
    rests-then = record {
      finds = subst (λ (x : DriverState). FindsNothing (transport_view side (Called (RequestRejected k) ∷ before)) x x.progress.settings) (sym state-then) finds-noted;
      unis = subst (λ c. SlotsRead new c d.unis.reading) (sym same-contents)
          (reading-kept uni_rules d.work.transport d.unis s.unis (contents log) f.position new (f.amid.unis going) (λ j x. arriving-moved j (ap (λ b. b || is_in j s.bis) x)) (f.rests opened).unis);
      bis = subst (λ c. SlotsRead new c d.bis.reading) (sym same-contents)
          (reading-kept bi_rules d.work.transport d.bis s.bis (contents log) f.position new (f.amid.bis going) (λ j x. arriving-moved j (ap (λ b. is_in j s.unis || b) x ∙ or-true (is_in j s.unis))) (f.rests opened).bis);
      control = subst (λ c. ControlRead new c e.work.dispatched.critical.control) (sym same-contents)
          (subst (λ c. ControlRead new (contents log) c.control) (sym critical_same) (control-read d.work.dispatched.critical.control s.dispatched.control refl f.amid.work.keeps.control (f.rests opened).control));
      sessions = subst (λ c. SessionsRead new c e.work.dispatched.sessions.living) (sym same-contents) (read-live e.work.dispatched.sessions.living (λ j x. still-live j (sym (lives-same j) ∙ x)));
      unready = λ x. (f.rests opened).unready (same-ready ∙ x);
      first_unis = λ x. ap (λ (z : DriverState). take 4 z.unis) state-then ∙ (f.rests opened).first_unis (same-ready ∙ x);
      first_bis = λ x. ap (λ (z : DriverState). take 4 z.bis) state-then ∙ (f.rests opened).first_bis (same-ready ∙ x);
    }

    pub gone-follows : Follows side e (log_call side log own (RequestRejected k)) (newest_first own uncollected)
    gone-follows = record { position = new; amid = end-follows; rests = λ x. subst (λ (l : Log). Resting side e l new) (sym alone) rests-then }

-- ---- the application ends a session that lives

module _ (side : Side) (d : DriverNow) (log : Log) (uncollected : List Action) (f : Follows side d log uncollected) (fits : Fits side log) (opened : is_open log ≡ true) (k : ℕ) (lives : is_living (state_of side log) k ≡ true) where
  abbrev ending : List Action
  ending = end_actions side d log (state_of side log) f.position uncollected f.amid k

  opened-so : (state_of side log).is_open ≡ true
  opened-so = f.amid.work.is_open_same ∙ opened

  driver-is : ended_driver side d log (state_of side log) f.position uncollected f.amid k ≡ end_session_now k d
  unfolding end_session_now
  driver-is = sym (λ i. if (refined_open side d.work.transport log f.position uncollected f.amid.work.transport ∙ opened) i && here i then ended_driver side d log (state_of side log) f.position uncollected f.amid k else d)
    where
      here : list_any (is_live k) d.work.dispatched.sessions.living ≡ true
      here = sym (any-map (λ (x : LiveNow). x.id) k d.work.dispatched.sessions.living) ∙ (ap (is_in k) f.amid.work.keeps.living ∙ (any-map (λ (x : Session). x.id) k (state_of side log).sessions ∙ lives))

  -- the driver follows the log with the call, and rests
  pub end-session-follows : is_known side (with_actions ending log) k ≡ true → Follows side (end_session_now k d) (log_call side log ending (RequestRejected k)) (newest_first ending uncollected)
  end-session-follows known = subst (λ (x : DriverNow). Follows side x (log_call side log ending (RequestRejected k)) (newest_first ending uncollected)) driver-is
      (gone-follows side d log uncollected f fits opened k (may_retire side d.work log (state_of side log) [] f.position uncollected f.amid.work k opened-so lives) ending
      (end-ends side d log (state_of side log) f.position uncollected f.amid k) (finish_and_retire k Ended d.work) refl (ended-amid side d log (state_of side log) f.position uncollected f.amid k opened-so lives) known)

-- ---- a request is rejected

module _ (side : Side) (d : DriverNow) (log : Log) (uncollected : List Action) (f : Follows side d log uncollected) (fits : Fits side log) (opened : is_open log ≡ true) (k : ℕ) (may : MayRetire side log (state_of side log) k)
    (awaits : awaits_answer_now k d.work.dispatched ≡ true) where
  abbrev rejecting : List Action
  rejecting = reject_actions side d log (state_of side log) f.position uncollected f.amid k

  refused-is : rejected_driver side d log (state_of side log) f.position uncollected f.amid k ≡ refuse_session_now k d
  unfolding refuse_session_now
  refused-is = sym (λ i. if awaits i then with_work (refused_by ((refined_open side d.work.transport log f.position uncollected f.amid.work.transport ∙ opened) i) k) d else d)

  held : is_in k (state_of side log).dispatched.held ≡ true
  held = ap (is_in k) (sym f.amid.work.keeps.held) ∙ and-first (list_any (λ (h : ℕ). h == k) d.work.dispatched.requests.held) (not (is_queued_now d.work.dispatched.requests k)) (and-first (was_given_now d.work.dispatched.requests k) (not (lives_now d.work.dispatched.sessions k)) awaits)

  -- the peer opened its stream
  pub awaits-apart : (k == local_bi side) ≡ false
  awaits-apart = bi-apart side k (f.amid.work.there.peers.held k (ap (λ b. b || list_any (λ (c : Classified). c.id == k) (state_of side log).dispatched.requests) held))

  -- the driver follows the log with the call, and rests
  pub refuse-session-follows : is_known side (with_actions rejecting log) k ≡ true → Follows side (refuse_session_now k d) (log_call side log rejecting (RequestRejected k)) (newest_first rejecting uncollected)
  refuse-session-follows known = subst (λ (x : DriverNow). Follows side x (log_call side log rejecting (RequestRejected k)) (newest_first rejecting uncollected)) refused-is
      (gone-follows side d log uncollected f fits opened k may rejecting (gone-ends (transport_view side log) (state_of side log).dispatched k) (retire_now k Refused d.work) refl
      (rejected-amid side d log (state_of side log) f.position uncollected f.amid k may (λ c n. awaits-apart)) known)
