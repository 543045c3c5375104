-- A rejection is over after the connection's end: by the log and by what is kept the session is gone, and nothing goes out.
use Rattle.std.proofs.Common.{◌%◌, ◌∙◌, ◌≡◌, ◌∷◌, Bool, List, None, Option, Some, [], ap, false, filter, refl, subst, sym, true, ℕ}
use Rattle.std.proofs.lemmas.Bool.{eqb-true, true≢false}
use Rattle.std.specs.Prelude.{◌&&◌, ◌==◌, ◌||◌, if◌then◌else◌, is_some, not}
use Rattle.wt_driver_laws.proofs.Reach.{reached_holds}
use Rattle.wt_driver_laws.proofs.RejectRequest.{awaiting, dead, held, known, not-arriving, not-critical, not-member, not-waiting, on-session, receives, remains-by}
use Rattle.wt_driver_laws.proofs.SessionEnds.{open-same}
use Rattle.wt_driver_laws.proofs.TurnCollected.{follows-more}
use Rattle.wt_driver_laws.specs.Driving.{Follows, IsReachable, uncollected_since}
use Rattle.wt_driver_laws.specs.Handing.{IsAnswering}
use Rattle.wt_follows.proofs.GoneKeeps.{gone_by, keeps-gone, lives-same, unliving}
use Rattle.wt_follows.proofs.GoneRoles.{MayRetire, roles-gone, there-gone}
use Rattle.wt_follows.proofs.Lifted.{lifted}
use Rattle.wt_follows.proofs.Lists.{any-filter, or-true}
use Rattle.wt_follows.proofs.RecordTold.{told-amid}
use Rattle.wt_follows.proofs.RestingCall.{SameSources, record-alone, resting-call-follows}
use Rattle.wt_follows.proofs.SameStreams.{told, told-roles, told-there}
use Rattle.wt_follows.specs.Rests.{SessionsRead}
use Rattle.wt_follows.specs.Roles.{Roles, is_in, is_living, waits}
use Rattle.wt_follows.specs.Tie.{Amid, Keeps, Placed, There, WorkAmid, closed_by, rests_at_header}
use Rattle.wt_kept.specs.Calling.{refuse_session_now, refused_by}
use Rattle.wt_kept.specs.Classifying.{with_dispatched}
use Rattle.wt_kept.specs.Ending.{ended_by, forget_session}
use Rattle.wt_kept.specs.Kept.{DispatchedNow, DriverNow, LiveNow, Refused, SessionEndNow}
use Rattle.wt_kept.specs.Moment.{with_work}
use Rattle.wt_kept.specs.Windows.{end_in, live_in}
use Rattle.wt_turn.specs.Streams.{contents}
use Rattle.wt_turn.specs.Unread.{ReadPosition}
use Rattle.wt_sessions.specs.DriverState.{DriverState, state_of}
use Rattle.wt_sessions.specs.Effect.{log_call}
use Rattle.wt_sessions.specs.Step.{gone_now}
use Rattle.wt_sessions.specs.StreamTable.{Session, Waiting}
use Rattle.wt_turn.specs.Log.{Called, Log, RequestRejected, actions_of, is_open}
use Rattle.wt_turn.specs.declared.action.Action.{Action}
use Rattle.wt_wire.specs.declared.side.Side.{Side}

-- how the peer closed a session that isn't gone
unclosed : (k : ℕ) (o : Option SessionEndNow) → is_some o ≡ false → closed_by k o ≡ None
unclosed k None e = refl
unclosed k (Some x) e = absurd (true≢false e)

module _ (side : Side) (d : DriverNow) (log : Log) (collected : ℕ) (f : Follows side d log collected) (reached : IsReachable side log) (k : ℕ) (answering : IsAnswering log k) (shut : is_open log ≡ false) where
  abbrev s : DriverState
  s = state_of side log

  abbrev position : ℕ → ReadPosition
  position = f.kept.position

  abbrev uncollected : List Action
  uncollected = uncollected_since collected log

  abbrev amid : Amid side d log s [] position uncollected
  amid = f.kept.amid

  abbrev kept_then : DispatchedNow
  kept_then = forget_session k Refused d.work.dispatched

  abbrev later : DriverState
  later = gone_now k s

  closed-state : s.is_open ≡ false
  closed-state = amid.work.is_open_same ∙ shut

  -- the laws of a session that becomes gone ask for an open connection, of which these say nothing
  abbrev opened : DriverState
  opened = told s.control_sent true s

  may : MayRetire side log opened k
  may = record {
    is_open = refl;
    is_session = on-session side d log collected f reached k answering;
    remains = remains-by side d log collected f reached k answering;
    there = receives side d log collected f k (held side d log collected f reached k answering);
    arriving = not-arriving side d log collected f k (held side d log collected f reached k answering);
    critical = not-critical side d log collected f k (held side d log collected f reached k answering);
    waits = not-waiting side d log collected f k (held side d log collected f reached k answering);
    member = not-member side d log collected f k (held side d log collected f reached k answering);
  }

  roles-opened : Roles opened
  roles-opened = told-roles s s.dispatched.datagrams s.progress s.control_sent true amid.work.roles

  roles-then : Roles later
  roles-then = told-roles (gone_by k s.closed opened) (gone_by k s.closed opened).dispatched.datagrams s.progress s.control_sent s.is_open (roles-gone side log opened k s.closed roles-opened may)

  there-then : There side later log
  there-then = told-there (gone_by k s.closed opened) (gone_by k s.closed opened).dispatched.datagrams s.progress s.control_sent s.is_open side log
      (there-gone side log opened k s.closed roles-opened may (told-there s s.dispatched.datagrams s.progress s.control_sent true side log amid.work.there))

  waited : (j : ℕ) → waits later j ≡ true → waits s j ≡ true
  waited j e = any-filter (λ (w : Waiting). w.id == j) (λ (w : Waiting). not (k == w.session)) s.dispatched.streams e

  rested : (j : ℕ) → rests_at_header later j ≡ true → rests_at_header s j ≡ true
  rested j e = by (waits later j) refl e
    where
      both : (b c : Bool) → (b && c) ≡ true → (b ≡ true) × (c ≡ true)
      both true c h = (refl, h)
      both false c h = absurd (true≢false (sym h))

      by : (b : Bool) → waits later j ≡ b → (b || (is_in j (filter (λ (i : ℕ). not (k == i)) s.dispatched.held) && not (s.dispatched.is_established j))) ≡ true → (waits s j || (is_in j s.dispatched.held && not (s.dispatched.is_established j))) ≡ true
      by true g h = ap (λ b. b || (is_in j s.dispatched.held && not (s.dispatched.is_established j))) (waited j g)
      by false g h =
          let parts = both (is_in j (filter (λ (i : ℕ). not (k == i)) s.dispatched.held)) (not (s.dispatched.is_established j)) h in
          (λ i. waits s j || (any-filter (λ (i : ℕ). i == j) (λ (i : ℕ). not (k == i)) s.dispatched.held parts.0 i && parts.1 i)) ∙ or-true (waits s j)

  placed-then : Placed side later log position
  placed-then = let p = amid.work.placed in record {
    headers = λ j e. p.headers j (rested j e);
    members = p.members;
    heads = p.heads;
    untouched = λ j e. p.untouched j (waited j e);
    arriving = p.arriving;
    unopened = p.unopened;
  }

  closed-so : (j : ℕ) → (j % 4) ≡ 0 → s.closed j ≡ (if k == j then None else s.closed j)
  closed-so j four = by (k == j) refl
    where
      by : (b : Bool) → (k == j) ≡ b → s.closed j ≡ (if b then None else s.closed j)
      by false e = refl
      by true e = amid.work.keeps.closed j four
          ∙ unclosed j (end_in d.work.dispatched.sessions.gone j) (sym (amid.work.keeps.gone j four) ∙ (ap s.dispatched.is_gone (sym (eqb-true k j e)) ∙ remains-by side d log collected f reached k answering))

  keeps-then : Keeps kept_then later
  keeps-then = keeps-gone d.work.dispatched s amid.work.keeps k (remains-by side d log collected f reached k answering) amid.work.roles.held amid.work.roles.living
      (on-session side d log collected f reached k answering) Refused s.closed closed-so

  unliving-so : is_living s k ≡ false
  unliving-so = dead side d log collected f reached k answering

  work-then : WorkAmid side (record d.work { dispatched = kept_then }) log later [] position uncollected
  work-then = record {
    transport = amid.work.transport;
    is_open_same = amid.work.is_open_same;
    keeps = keeps-then;
    roles = roles-then;
    placed = placed-then;
    there = there-then;
    sends = record {
      arriving = λ j e. refl;
      waiting = λ j e. refl;
      members = λ j session e g. refl;
      living = λ j e. amid.work.sends.living j (any-filter (λ (x : Session). x.id == j) (λ (x : Session). not (k == x.id)) s.sessions e);
      own = amid.work.sends.own;
    };
    control = λ e. absurd (true≢false (sym (first s.is_open _ e) ∙ closed-state));
    sessions = λ e. absurd (true≢false (sym (first s.is_open _ e) ∙ closed-state));
  }
    where
      first : (a b : Bool) → (a && b) ≡ true → a ≡ true
      first true b h = refl
      first false b h = absurd (true≢false (sym h))

  forgotten-amid : Amid side (record d { work = record d.work { dispatched = kept_then } }) log later [] position uncollected
  forgotten-amid = lifted side d log s [] position uncollected amid (record d.work { dispatched = kept_then }) later [] position uncollected work-then (λ kind. refl) refl refl refl (λ e. e) (λ j e. refl) refl (λ c n. (n, refl))

  same-sources : SameSources s later
  same-sources = record { unis = refl; bis = refl; sessions = unliving k s unliving-so; control = refl; encoder = refl; decoder = refl; progress = refl; sent = refl; is_open = refl }

  -- it didn't live
  none-lived : live_in d.work.dispatched.sessions k ≡ None
  none-lived = by (live_in d.work.dispatched.sessions k) refl
    where
      by : (o : Option LiveNow) → live_in d.work.dispatched.sessions k ≡ o → o ≡ None
      by None e = refl
      by (Some x) e = absurd (true≢false (sym (lives-same d.work.dispatched s amid.work.keeps k (Some x) e) ∙ unliving-so))

  read-then : SessionsRead position (contents log) d.work.dispatched.sessions.living → SessionsRead position (contents log) kept_then.sessions.living
  read-then h = subst (λ (o : Option LiveNow). SessionsRead position (contents log) (ended_by d.work.dispatched.sessions k Refused o).living) (sym none-lived) h

  alone : log_call side log [] (RequestRejected k) ≡ Called (RequestRejected k) ∷ log
  alone = record-alone side log (RequestRejected k) d uncollected f.kept (known side d log collected f reached k answering [], (reached_holds side log reached).fits) same-sources

  forgotten : Follows side (with_work (with_dispatched (forget_session k Refused)) d) (log_call side log [] (RequestRejected k)) collected
  forgotten = follows-more side d (with_work (with_dispatched (forget_session k Refused)) d) log (log_call side log [] (RequestRejected k)) collected [] f (ap actions_of alone)
      (resting-call-follows side log (RequestRejected k) (reached_holds side log reached).fits (known side d log collected f reached k answering []) d uncollected f.kept
      (record d.work { dispatched = kept_then }) refl read-then later refl same-sources
      (told-amid side log (RequestRejected k) (record { gives = λ j. refl; reads = λ j. refl; resets = λ j. refl; priorities = λ j. refl })
      (record d { work = record d.work { dispatched = kept_then } }) later position uncollected forgotten-amid))

  refused-is : with_work (with_dispatched (forget_session k Refused)) d ≡ refuse_session_now k d
  unfolding refuse_session_now
  refused-is = sym (λ i. if awaiting side d log collected f reached k answering i then with_work (refused_by ((open-same side d log collected f ∙ shut) i) k) d else d)

  pub closed-refused : Follows side (refuse_session_now k d) (log_call side log [] (RequestRejected k)) collected
  closed-refused = subst (λ (x : DriverNow). Follows side x (log_call side log [] (RequestRejected k)) collected) refused-is forgotten
