-- A stream that a session's application begins to open joins the session: the driver follows the log with the call, and rests.
use Rattle.std.proofs.Common.{◌∙◌, ◌≡◌, ◌∷◌, Bool, List, [], ap, false, is_some, map, refl, subst, sym, true, ℕ}
use Rattle.std.proofs.lemmas.Bool.{eqb-true, or_parts, true≢false}
use Rattle.std.specs.Prelude.{◌==◌, ◌||◌, if◌then◌else◌}
use Rattle.wt_follows.proofs.AcceptCall.{changed-read}
use Rattle.wt_follows.proofs.Admits.{ids-stay, readers-stay}
use Rattle.wt_follows.proofs.Lifted.{lifted}
use Rattle.wt_follows.proofs.Lists.{distinct-with, flip, in-with, refuted}
use Rattle.wt_follows.proofs.OwnRequest.{peers-kept}
use Rattle.wt_follows.proofs.RecordTold.{told-amid}
use Rattle.wt_follows.proofs.RestingCall.{resting-call-follows}
use Rattle.wt_follows.specs.Roles.{AreDistinct, IsSessions, Roles, is_arriving, is_in, is_living, is_member, waits}
use Rattle.wt_follows.specs.Tie.{Amid, Follows, Keeps, Placed, WindowFollows, WindowsFollow, WorkAmid, goes_on_at, header_verdict, member_position}
use Rattle.wt_kept.specs.Calling.{on_sessions}
use Rattle.wt_kept.specs.Kept.{DispatchedNow, DriverNow, LiveNow}
use Rattle.wt_kept.specs.Windows.{changed_live, joined_by, with_live}
use Rattle.wt_turn.specs.Streams.{contents, exists, local_uni}
use Rattle.wt_turn.specs.Unread.{ReadPosition}
use Rattle.wt_sessions.specs.DriverState.{DriverState, state_of}
use Rattle.wt_sessions.specs.Effect.{log_call}
use Rattle.wt_sessions.specs.Moment.{Fits, is_peers}
use Rattle.wt_sessions.specs.Step.{after_call}
use Rattle.wt_sessions.specs.StreamTable.{with_id}
use Rattle.wt_turn.specs.Log.{Log, OpeningStarted}
use Rattle.wt_turn.specs.declared.action.Action.{Action}
use Rattle.wt_wire.specs.declared.side.Side.{Side}

-- a stream of this end that has no place yet
pub record MayJoin (side : Side) (log : Log) (s : DriverState) (position : ℕ → ReadPosition) (id : ℕ) : Type 0 where
  pub alone : IsSessions s id
  pub waits : waits s id ≡ false
  pub member : (session : ℕ) → is_member s session id ≡ false
  pub there : exists side log id ≡ true
  pub own : (id == local_uni side) ≡ false
  pub local : is_peers side id ≡ false
  pub at : position id ≡ member_position side log id

module _ (side : Side) (d : DriverNow) (log : Log) (s : DriverState) (position : ℕ → ReadPosition) (uncollected : List Action) (a : Amid side d log s [] position uncollected) (session : ℕ) (lives : is_living s session ≡ true)
    (id : ℕ) (may : MayJoin side log s position id) where
  -- the state then
  abbrev z : DriverState
  z = after_call (OpeningStarted id session) s

  abbrev kept : DispatchedNow
  kept = d.work.dispatched

  keeps : Keeps kept s
  keeps = a.work.keeps

  roles : Roles s
  roles = a.work.roles

  established : s.dispatched.is_established session ≡ true
  established = keeps.established session (keeps.alive session lives) ∙ lives

  -- ---- windows

  same-window : (v : _) (q : ℕ → Bool) → WindowFollows v s.dispatched q → WindowFollows v z.dispatched q
  same-window v q h = record { streams = h.streams; datagrams = h.datagrams }

  windows-others : (xs : List LiveNow) → is_in session (map (λ (x : LiveNow). x.id) xs) ≡ false → WindowsFollow xs s.dispatched → WindowsFollow xs z.dispatched
  windows-others [] miss h = tt
  windows-others (x ∷ xs) miss h =
      let parts = or_parts (x.id == session) (is_in session (map (λ (y : LiveNow). y.id) xs)) miss in (
        same-window x.window (λ j. j == x.id) h.0,
        h.1 ∙ sym (ap (λ (b : Bool). if b then with_id id (s.dispatched.members x.id) else s.dispatched.members x.id) (flip session x.id ∙ parts.0)),
        windows-others xs parts.1 h.2,
      )

  windows-joined : (xs : List LiveNow) → AreDistinct (map (λ (x : LiveNow). x.id) xs) → WindowsFollow xs s.dispatched → WindowsFollow (changed_live (joined_by id) session xs) z.dispatched
  windows-joined [] apart h = tt
  windows-joined (x ∷ xs) apart h = by (x.id == session) refl (windows-joined xs apart.1 h.2)
    where
      by : (b : Bool) → (x.id == session) ≡ b → WindowsFollow (changed_live (joined_by id) session xs) z.dispatched
          → WindowsFollow (if b then joined_by id x ∷ xs else x ∷ changed_live (joined_by id) session xs) z.dispatched
      by true e again = (
        same-window x.window (λ j. j == x.id) h.0,
        ap (with_id id) h.1 ∙ sym (ap (λ (b : Bool). if b then with_id id (s.dispatched.members x.id) else s.dispatched.members x.id) (flip session x.id ∙ e)),
        windows-others xs (ap (λ j. is_in j (map (λ (y : LiveNow). y.id) xs)) (sym (eqb-true x.id session e)) ∙ apart.0) h.2,
      )
      by false e again = (
        same-window x.window (λ j. j == x.id) h.0,
        h.1 ∙ sym (ap (λ (b : Bool). if b then with_id id (s.dispatched.members x.id) else s.dispatched.members x.id) (flip session x.id ∙ e)),
        again,
      )

  abbrev kept_then : DispatchedNow
  kept_then = record kept { sessions = with_live (joined_by id) session kept.sessions }

  keeps-then : Keeps kept_then z
  keeps-then = record {
    control = keeps.control;
    encoder = keeps.encoder;
    decoder = keeps.decoder;
    settings = keeps.settings;
    queued = keeps.queued;
    held = keeps.held;
    living = ids-stay kept s keeps id session (joined_by id) (λ x. refl) session kept.sessions.living ∙ keeps.living;
    windows = windows-joined kept.sessions.living (subst AreDistinct (sym keeps.living) roles.living) keeps.windows;
    early = same-window kept.sessions.early _ keeps.early;
    gone = keeps.gone;
    gone_named = keeps.gone_named;
    closed = keeps.closed;
    established = keeps.established;
    alive = keeps.alive;
    named = keeps.named;
    named_streams = keeps.named_streams;
    named_datagrams = keeps.named_datagrams;
    unjoined = λ j e. ap (λ (b : Bool). if b then with_id id (s.dispatched.members j) else s.dispatched.members j)
        (refuted (session == j) (λ f. true≢false (sym established ∙ (ap s.dispatched.is_established (eqb-true session j f) ∙ e)))) ∙ keeps.unjoined j e;
    fault = keeps.fault;
  }

  -- ---- places

  -- what holds of the stream and of those that joined before holds of all that joined
  joins-by : (P : ℕ → ℕ → Type 0) → P id session → ((j k : ℕ) → is_member s k j ≡ true → P j k) → (j k : ℕ) → is_member z k j ≡ true → P j k
  joins-by P here there j k e = by (session == k) refl e
    where
      by : (b : Bool) → (session == k) ≡ b → is_in j (if b then with_id id (s.dispatched.members k) else s.dispatched.members k) ≡ true → P j k
      by false f g = there j k g
      by true f g = inner (id == j) refl (sym (in-with j id (s.dispatched.members k)) ∙ g)
        where
          inner : (b : Bool) → (id == j) ≡ b → (b || is_in j (s.dispatched.members k)) ≡ true → P j k
          inner true h i = subst (λ n. P n k) (eqb-true id j h) (subst (λ n. P id n) (eqb-true session k f) here)
          inner false h i = there j k i

  -- another stream joined where it did before
  joined-other : (j k : ℕ) → (id == j) ≡ false → is_member z k j ≡ is_member s k j
  joined-other j k e = by (session == k)
    where
      by : (b : Bool) → is_in j (if b then with_id id (s.dispatched.members k) else s.dispatched.members k) ≡ is_in j (s.dispatched.members k)
      by false = refl
      by true = in-with j id (s.dispatched.members k) ∙ ap (λ b. b || is_in j (s.dispatched.members k)) e

  other : (test : ℕ → Bool) → test id ≡ false → (j : ℕ) → test j ≡ true → (id == j) ≡ false
  other test miss j e = refuted (id == j) (λ f. true≢false (sym e ∙ (ap test (sym (eqb-true id j f)) ∙ miss)))

  roles-then : Roles z
  roles-then = record {
    unis = roles.unis;
    bis = roles.bis;
    kinds = roles.kinds;
    arriving = λ j e. let p = roles.arriving j e in record {
      critical = p.critical;
      held = p.held;
      living = p.living;
      waits = p.waits;
      member = λ k. joined-other j k (other (is_arriving s) may.alone.arriving j e) ∙ p.member k;
      gone = p.gone;
    };
    living = roles.living;
    living_alone = roles.living_alone;
    requests_alone = roles.requests_alone;
    waiting = roles.waiting;
    waiting_alone = λ j e. let p = roles.waiting_alone j e in record { arriving = p.arriving; critical = p.critical; held = p.held; living = p.living };
    waiting_unjoined = λ j k e. joined-other j k (other (waits s) may.waits j e) ∙ roles.waiting_unjoined j k e;
    members_alone = joins-by (λ j k. IsSessions z j) (let p = may.alone in record { arriving = p.arriving; critical = p.critical; held = p.held; living = p.living })
        (λ j k e. let p = roles.members_alone j k e in record { arriving = p.arriving; critical = p.critical; held = p.held; living = p.living });
    members_once = λ j one other e f. once j one other (id == j) refl e f;
    members_distinct = λ k. distinct-by k (session == k);
    held = roles.held;
  }
    where
      at-session : (k : ℕ) → is_member z k id ≡ true → session ≡ k
      at-session k e = by (session == k) refl e
        where
          by : (b : Bool) → (session == k) ≡ b → is_in id (if b then with_id id (s.dispatched.members k) else s.dispatched.members k) ≡ true → session ≡ k
          by true f g = eqb-true session k f
          by false f g = absurd (true≢false (sym g ∙ may.member k))

      once : (j one other : ℕ) (b : Bool) → (id == j) ≡ b → is_member z one j ≡ true → is_member z other j ≡ true → one ≡ other
      once j one other true g e f =
          sym (at-session one (ap (is_member z one) (eqb-true id j g) ∙ e)) ∙ at-session other (ap (is_member z other) (eqb-true id j g) ∙ f)
      once j one other false g e f = roles.members_once j one other (sym (joined-other j one g) ∙ e) (sym (joined-other j other g) ∙ f)

      distinct-by : (k : ℕ) (b : Bool) → AreDistinct (if b then with_id id (s.dispatched.members k) else s.dispatched.members k)
      distinct-by k true = distinct-with id (s.dispatched.members k) (may.member k) (roles.members_distinct k)
      distinct-by k false = roles.members_distinct k

  placed-then : Placed side z log position
  placed-then = let p = a.work.placed in record {
    headers = p.headers;
    members = λ j k e. joins-by (λ n m. position n ≡ member_position side log n) may.at p.members j k e;
    heads = λ j k e. joins-by (λ n m. is_peers side n ≡ true → is_some (goes_on_at (header_verdict log n)) ≡ true) (λ f. absurd (true≢false (sym f ∙ may.local))) p.heads j k e;
    untouched = p.untouched;
    arriving = p.arriving;
    unopened = p.unopened;
  }

  work-then : WorkAmid side (record d.work { dispatched = kept_then }) log z [] position uncollected
  work-then = record {
    transport = a.work.transport;
    is_open_same = a.work.is_open_same;
    keeps = keeps-then;
    roles = roles-then;
    placed = placed-then;
    there = let t = a.work.there in record {
      unis = t.unis;
      bis = t.bis;
      arriving = t.arriving;
      waiting = t.waiting;
      living = t.living;
      held = t.held;
      members = joins-by (λ j k. exists side log j ≡ true) may.there t.members;
      critical = t.critical;
      gone = t.gone;
      own = λ k. joined-other (local_uni side) k may.own ∙ t.own k;
      kinds = t.kinds;
      few = t.few;
      peers = peers-kept side s z (λ k e. e) (λ k e. e) (λ k e. e) (λ k e. e) t.peers;
    };
    sends = record { arriving = λ j e. refl; waiting = λ j e. refl; members = λ j k e f. refl; living = a.work.sends.living; own = a.work.sends.own };
    control = a.work.control;
    sessions = λ e. readers-stay kept s keeps id session (joined_by id) (λ x. refl) session kept.sessions.living s.sessions (contents log) position (a.work.sessions e);
  }

  -- the stream is one of the session's
  pub joined-amid : Amid side (on_sessions (with_live (joined_by id) session) d) log (after_call (OpeningStarted id session) s) [] position uncollected
  joined-amid = lifted side d log s [] position uncollected a (record d.work { dispatched = kept_then }) z [] position uncollected work-then (λ kind. refl) refl refl refl (λ e. e) (λ j e. refl) refl (λ c n. (n, refl))

module _ (side : Side) (d : DriverNow) (log : Log) (uncollected : List Action) (f : Follows side d log uncollected) (fits : Fits side log) (session : ℕ) (lives : is_living (state_of side log) session ≡ true)
    (id : ℕ) (may : MayJoin side log (state_of side log) f.position id) where
  abbrev joined : DriverState
  joined = after_call (OpeningStarted id session) (state_of side log)

  -- the driver follows the log with the call, and rests
  pub join-follows : Follows side (on_sessions (with_live (joined_by id) session) d) (log_call side log [] (OpeningStarted id session)) uncollected
  join-follows =
      resting-call-follows side log (OpeningStarted id session) fits tt d uncollected f (on_sessions (with_live (joined_by id) session) d).work refl
      (changed-read f.position (contents log) (joined_by id) (λ x. refl) session d.work.dispatched.sessions.living) joined refl
      (record { unis = refl; bis = refl; sessions = refl; control = refl; encoder = refl; decoder = refl; progress = refl; sent = refl; is_open = refl })
      (told-amid side log (OpeningStarted id session) (record { gives = λ k. refl; reads = λ k. refl; resets = λ k. refl; priorities = λ k. refl }) (on_sessions (with_live (joined_by id) session) d) joined f.position uncollected
      (joined-amid side d log (state_of side log) f.position uncollected f.amid session lives id may))
