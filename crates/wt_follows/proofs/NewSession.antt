-- A session is established: what is kept then, before the call's record is in the log.
use Rattle.std.proofs.Common.{◌+◌, ◌∙◌, ◌≡◌, ◌%◌, ◌≤◌, ◌∷◌, Bool, List, [], ap, arith, false, filter, length, map, refl, subst, sym, true, ℕ}
use Rattle.std.proofs.lemmas.Bool.{eqb-true, or_from, or_parts, true≢false}
use Rattle.std.specs.Prelude.{◌&&◌, ◌==◌, ◌||◌, if◌then◌else◌, nat_lt, not}
use Rattle.wt_follows.proofs.IsReader.{session_reader_is}
use Rattle.wt_follows.proofs.KeepsLaws.{windows-same}
use Rattle.wt_follows.proofs.Lifted.{lifted}
use Rattle.wt_follows.proofs.Lists.{any-map, distinct-with, filter-implied, flip, in-with, map-filter, refuted, same, same-parts}
use Rattle.wt_follows.proofs.OwnRequest.{peers-kept}
use Rattle.wt_follows.specs.Roles.{AreDistinct, Roles, is_arriving, is_critical, is_in, is_living, is_member, waits}
use Rattle.wt_follows.specs.Tie.{Amid, Keeps, NoneEstablished, Placed, ReaderAt, Sends, SessionsFollow, There, WindowFollows, WindowsFollow, WorkAmid}
use Rattle.wt_kept.specs.Calling.{on_sessions}
use Rattle.wt_kept.specs.Kept.{DispatchedNow, DriverNow, LiveNow, WaitingDatagram}
use Rattle.wt_kept.specs.Readers.{session_rules}
use Rattle.wt_kept.specs.Windows.{establish_now, live_from, with_live_by_id, without}
use Rattle.wt_turn.specs.Streams.{can_receive, contents}
use Rattle.wt_turn.specs.Unread.{AtOffset, ReadPosition}
use Rattle.wt_sessions.proofs.Scans.{filter-filter}
use Rattle.wt_sessions.specs.Driver.{still_sends, with_session}
use Rattle.wt_sessions.specs.DriverState.{DriverState}
use Rattle.wt_sessions.specs.Step.{established_now}
use Rattle.wt_sessions.specs.StreamTable.{Admitted, Dispatched, Session, Waiting, with_id}
use Rattle.wt_turn.specs.Log.{Log}
use Rattle.wt_turn.specs.declared.action.Action.{Action}
use Rattle.wt_wire.specs.declared.side.Side.{Side}

-- A session may be established: it isn't yet, and isn't gone; its stream has no place but that of its request, both ends use it, and it
-- is read up to where its own part begins.
pub record MayLive (side : Side) (log : Log) (s : DriverState) (position : ℕ → ReadPosition) (k offset : ℕ) : Type 0 where
  pub is_session : (k % 4) ≡ 0
  pub remains : s.dispatched.is_gone k ≡ false
  pub unestablished : s.dispatched.is_established k ≡ false
  pub at_offset : position k ≡ AtOffset offset
  pub within : offset ≤ length (contents log k)
  pub there : can_receive side log k ≡ true
  pub sends : still_sends side log k ≡ true
  pub arriving : is_arriving s k ≡ false
  pub critical : is_critical s k ≡ false
  pub waits : waits s k ≡ false
  pub member : (session : ℕ) → is_member s session k ≡ false

-- a datagram that waits, as a window has it
abbrev as_waiting : Admitted → WaitingDatagram
as_waiting x = record { session = x.session; payload = x.payload }

-- ---- one more of a list by id

live-ids : (y : LiveNow) (xs : List LiveNow) → is_in y.id (map (λ (x : LiveNow). x.id) xs) ≡ false → map (λ (x : LiveNow). x.id) (with_live_by_id y xs) ≡ with_id y.id (map (λ (x : LiveNow). x.id) xs)
live-ids y [] e = refl
live-ids y (x ∷ xs) e = by (y.id == x.id) (nat_lt y.id x.id) (flip y.id x.id ∙ parts.0) (live-ids y xs parts.1)
  where
    parts : ((x.id == y.id) ≡ false) × (is_in y.id (map (λ (z : LiveNow). z.id) xs) ≡ false)
    parts = or_parts (x.id == y.id) (is_in y.id (map (λ (z : LiveNow). z.id) xs)) e

    by : (b c : Bool) → b ≡ false → map (λ (z : LiveNow). z.id) (with_live_by_id y xs) ≡ with_id y.id (map (λ (z : LiveNow). z.id) xs)
        → map (λ (z : LiveNow). z.id) (if c then y ∷ x ∷ xs else x ∷ with_live_by_id y xs)
        ≡ (if b then x.id ∷ map (λ (z : LiveNow). z.id) xs else (if c then y.id ∷ x.id ∷ map (λ (z : LiveNow). z.id) xs else x.id ∷ with_id y.id (map (λ (z : LiveNow). z.id) xs)))
    by true c f again = absurd (true≢false f)
    by false true f again = refl
    by false false f again = ap (λ ks. x.id ∷ ks) again

session-ids : (y : Session) (xs : List Session) → is_in y.id (map (λ (x : Session). x.id) xs) ≡ false → map (λ (x : Session). x.id) (with_session y xs) ≡ with_id y.id (map (λ (x : Session). x.id) xs)
session-ids y [] e = refl
session-ids y (x ∷ xs) e = by (y.id == x.id) (nat_lt y.id x.id) (flip y.id x.id ∙ parts.0) (session-ids y xs parts.1)
  where
    parts : ((x.id == y.id) ≡ false) × (is_in y.id (map (λ (z : Session). z.id) xs) ≡ false)
    parts = or_parts (x.id == y.id) (is_in y.id (map (λ (z : Session). z.id) xs)) e

    by : (b c : Bool) → b ≡ false → map (λ (z : Session). z.id) (with_session y xs) ≡ with_id y.id (map (λ (z : Session). z.id) xs)
        → map (λ (z : Session). z.id) (if c then y ∷ x ∷ xs else x ∷ with_session y xs)
        ≡ (if b then x.id ∷ map (λ (z : Session). z.id) xs else (if c then y.id ∷ x.id ∷ map (λ (z : Session). z.id) xs else x.id ∷ with_id y.id (map (λ (z : Session). z.id) xs)))
    by true c f again = absurd (true≢false f)
    by false true f again = refl
    by false false f again = ap (λ ks. x.id ∷ ks) again

-- each session that lives has its own window, and so has the new one
windows-with : (y : LiveNow) (d : Dispatched) (xs : List LiveNow) → WindowFollows y.window d (λ k. k == y.id) → y.members ≡ d.members y.id → WindowsFollow xs d → WindowsFollow (with_live_by_id y xs) d
windows-with y d [] window members h = (window, members, tt)
windows-with y d (x ∷ xs) window members h = by (nat_lt y.id x.id) (windows-with y d xs window members h.2)
  where
    by : (b : Bool) → WindowsFollow (with_live_by_id y xs) d → WindowsFollow (if b then y ∷ x ∷ xs else x ∷ with_live_by_id y xs) d
    by true again = (window, members, h)
    by false again = (h.0, h.1, again)

-- each is read from where its part begins, and so is the new one
sessions-with : (y : LiveNow) (new : Session) (bytes : ℕ → List ℕ) (position : ℕ → ReadPosition) → y.id ≡ new.id → ReaderAt session_rules y.reader new.offset (bytes new.id) (position new.id)
    → (xs : List LiveNow) (ss : List Session) → map (λ (x : LiveNow). x.id) xs ≡ map (λ (x : Session). x.id) ss → SessionsFollow xs ss bytes position → SessionsFollow (with_live_by_id y xs) (with_session new ss) bytes position
sessions-with y new bytes position its at [] [] ids h = (at, tt)
sessions-with y new bytes position its at (x ∷ xs) (s ∷ ss) ids h =
    let parts = same-parts x.id s.id (map (λ (z : LiveNow). z.id) xs) (map (λ (z : Session). z.id) ss) ids in
    by (nat_lt y.id x.id) (nat_lt new.id s.id) (λ i. nat_lt (its i) (parts.0 i)) (sessions-with y new bytes position its at xs ss parts.1 h.1)
  where
    by : (b c : Bool) → b ≡ c → SessionsFollow (with_live_by_id y xs) (with_session new ss) bytes position
        → SessionsFollow (if b then y ∷ x ∷ xs else x ∷ with_live_by_id y xs) (if c then new ∷ s ∷ ss else s ∷ with_session new ss) bytes position
    by true true e again = (at, h)
    by false false e again = (h.0, again)
    by true false e again = absurd (true≢false e)
    by false true e again = absurd (true≢false (sym e))
sessions-with y new bytes position its at [] (s ∷ ss) ids h = absurd h
sessions-with y new bytes position its at (x ∷ xs) [] ids h = absurd h

-- ---- what is kept

module _ (side : Side) (d : DriverNow) (log : Log) (s : DriverState) (position : ℕ → ReadPosition) (uncollected : List Action) (a : Amid side d log s [] position uncollected) (k offset : ℕ) (may : MayLive side log s position k offset) where
  abbrev new : Session
  new = record { id = k; offset = offset }

  abbrev established : ℕ → Bool
  established j = k == j || s.dispatched.is_established j

  -- the state then
  abbrev z : DriverState
  z = record s { dispatched = record s.dispatched { is_established = established }; sessions = with_session new s.sessions }

  state-is : established_now new s ≡ z
  state-is = λ i. record s { dispatched = record s.dispatched { is_established = established }; sessions = if may.remains i then s.sessions else with_session new s.sessions }

  abbrev kept : DispatchedNow
  kept = d.work.dispatched

  abbrev live : LiveNow
  live = live_from k kept.sessions.early

  keeps : Keeps kept s
  keeps = a.work.keeps

  dead : is_living s k ≡ false
  dead = sym (keeps.established k may.remains) ∙ may.unestablished

  unlisted : is_in k (map (λ (x : Session). x.id) s.sessions) ≡ false
  unlisted = any-map (λ (x : Session). x.id) k s.sessions ∙ dead

  living-is : (j : ℕ) → is_living z j ≡ ((k == j) || is_living s j)
  living-is j =
      sym (any-map (λ (x : Session). x.id) j (with_session new s.sessions))
      ∙ (ap (is_in j) (session-ids new s.sessions unlisted)
      ∙ (in-with j k (map (λ (x : Session). x.id) s.sessions) ∙ ap (λ b. (k == j) || b) (any-map (λ (x : Session). x.id) j s.sessions)))

  -- what holds of the new one and of those before holds of all that live
  living-by : (P : ℕ → Type 0) → P k → ((j : ℕ) → is_living s j ≡ true → P j) → (j : ℕ) → is_living z j ≡ true → P j
  living-by P here there j e = by (k == j) refl (sym (living-is j) ∙ e)
    where
      by : (b : Bool) → (k == j) ≡ b → (b || is_living s j) ≡ true → P j
      by true f g = subst P (eqb-true k j f) here
      by false f g = there j g

  -- another than its stream doesn't live by it
  still-dead : (test : ℕ → Bool) → test k ≡ false → (j : ℕ) → test j ≡ true → is_living s j ≡ false → is_living z j ≡ false
  still-dead test miss j e f = living-is j ∙ or_from (k == j) (is_living s j) (refuted (k == j) (λ g. true≢false (sym e ∙ (ap test (sym (eqb-true k j g)) ∙ miss)))) f

  -- ---- windows

  own-is : (j : ℕ) → (j == k) ≡ true → not (s.dispatched.is_established j) ≡ true
  own-is j e = ap (λ i. not (s.dispatched.is_established i)) (eqb-true j k e) ∙ ap not may.unestablished

  own-window : WindowFollows live.window z.dispatched (λ j. j == k)
  own-window = record {
    streams = ap (λ (xs : List Waiting). filter (λ (x : Waiting). x.session == k) xs) keeps.early.streams
        ∙ filter-implied (λ (x : Waiting). x.session == k) (λ (x : Waiting). not (s.dispatched.is_established x.session)) (λ x e. own-is x.session e) s.dispatched.streams;
    datagrams = ap (λ (xs : List WaitingDatagram). filter (λ (x : WaitingDatagram). x.session == k) xs) keeps.early.datagrams
        ∙ (sym (map-filter as_waiting (λ (x : WaitingDatagram). x.session == k) (filter (λ (x : Admitted). not (s.dispatched.is_established x.session)) s.dispatched.datagrams))
        ∙ ap (λ (xs : List Admitted). map as_waiting xs) (filter-implied (λ (x : Admitted). x.session == k) (λ (x : Admitted). not (s.dispatched.is_established x.session)) (λ x e. own-is x.session e) s.dispatched.datagrams));
  }

  both : (j : ℕ) → not (k == j || s.dispatched.is_established j) ≡ (not (s.dispatched.is_established j) && not (j == k))
  both j = ap (λ b. not (b || s.dispatched.is_established j)) (flip k j) ∙ by (j == k) (s.dispatched.is_established j)
    where
      by : (b c : Bool) → not (b || c) ≡ (not c && not b)
      by true true = refl
      by true false = refl
      by false true = refl
      by false false = refl

  early-window : WindowFollows (without k kept.sessions.early) z.dispatched (λ j. not (established j))
  early-window = record {
    streams = ap (λ (xs : List Waiting). filter (λ (x : Waiting). not (x.session == k)) xs) keeps.early.streams
        ∙ sym (filter-filter (λ (x : Waiting). not (x.session == k)) (λ (x : Waiting). not (s.dispatched.is_established x.session)) (λ (x : Waiting). not (established x.session)) (λ x. both x.session) s.dispatched.streams);
    datagrams = ap (λ (xs : List WaitingDatagram). filter (λ (x : WaitingDatagram). not (x.session == k)) xs) keeps.early.datagrams
        ∙ (sym (map-filter as_waiting (λ (x : WaitingDatagram). not (x.session == k)) (filter (λ (x : Admitted). not (s.dispatched.is_established x.session)) s.dispatched.datagrams))
        ∙ ap (λ (xs : List Admitted). map as_waiting xs)
        (sym (filter-filter (λ (x : Admitted). not (x.session == k)) (λ (x : Admitted). not (s.dispatched.is_established x.session)) (λ (x : Admitted). not (established x.session)) (λ x. both x.session) s.dispatched.datagrams)));
  }

  abbrev kept_then : DispatchedNow
  kept_then = record kept { sessions = establish_now k kept.sessions }

  keeps-then : Keeps kept_then z
  keeps-then = record {
    control = keeps.control;
    encoder = keeps.encoder;
    decoder = keeps.decoder;
    settings = keeps.settings;
    queued = keeps.queued;
    held = keeps.held;
    living = live-ids live kept.sessions.living (ap (is_in k) keeps.living ∙ unlisted) ∙ (ap (with_id k) keeps.living ∙ sym (session-ids new s.sessions unlisted));
    windows = windows-with live z.dispatched kept.sessions.living own-window (sym (keeps.unjoined k may.unestablished)) (windows-same s.dispatched z.dispatched refl refl (λ j. refl) kept.sessions.living keeps.windows);
    early = early-window;
    gone = keeps.gone;
    gone_named = keeps.gone_named;
    closed = keeps.closed;
    established = λ j e. ap (λ b. (k == j) || b) (keeps.established j e) ∙ sym (living-is j);
    alive = living-by (λ j. s.dispatched.is_gone j ≡ false) may.remains keeps.alive;
    named = λ j e. named-by j (k == j) refl e;
    named_streams = keeps.named_streams;
    named_datagrams = keeps.named_datagrams;
    unjoined = λ j e. keeps.unjoined j (or_parts (k == j) (s.dispatched.is_established j) e).1;
    fault = keeps.fault;
  }
    where
      named-by : (j : ℕ) (b : Bool) → (k == j) ≡ b → (b || s.dispatched.is_established j) ≡ true → (j % 4) ≡ 0
      named-by j true f e = subst (λ i. (i % 4) ≡ 0) (eqb-true k j f) may.is_session
      named-by j false f e = keeps.named j e

  -- ---- places

  roles-then : Roles z
  roles-then = let r = a.work.roles in record {
    unis = r.unis;
    bis = r.bis;
    kinds = r.kinds;
    arriving = λ j e. let p = r.arriving j e in record { critical = p.critical; held = p.held; living = still-dead (is_arriving s) may.arriving j e p.living; waits = p.waits; member = p.member; gone = p.gone };
    living = subst AreDistinct (sym (session-ids new s.sessions unlisted)) (distinct-with k (map (λ (x : Session). x.id) s.sessions) unlisted r.living);
    living_alone = living-by (λ j. is_critical s j ≡ false) may.critical r.living_alone;
    requests_alone = r.requests_alone;
    waiting = r.waiting;
    waiting_alone = λ j e. let p = r.waiting_alone j e in record { arriving = p.arriving; critical = p.critical; held = p.held; living = still-dead (waits s) may.waits j e p.living };
    waiting_unjoined = r.waiting_unjoined;
    members_alone = λ j session e. let p = r.members_alone j session e in record { arriving = p.arriving; critical = p.critical; held = p.held; living = still-dead (is_member s session) (may.member session) j e p.living };
    members_once = r.members_once;
    members_distinct = r.members_distinct;
    held = r.held;
  }

  placed-then : Placed side z log position
  placed-then = let p = a.work.placed in record {
    headers = λ j e. p.headers j (fewer (waits s j) (is_in j s.dispatched.held) (k == j) (s.dispatched.is_established j) e);
    members = p.members;
    heads = p.heads;
    untouched = p.untouched;
    arriving = p.arriving;
    unopened = p.unopened;
  }
    where
      fewer : (w h b c : Bool) → (w || (h && not (b || c))) ≡ true → (w || (h && not c)) ≡ true
      fewer true h b c e = refl
      fewer false true true c e = absurd (true≢false (sym e))
      fewer false true false c e = e
      fewer false false b c e = absurd (true≢false (sym e))

  there-then : There side z log
  there-then = let t = a.work.there in record {
    unis = t.unis;
    bis = t.bis;
    arriving = t.arriving;
    waiting = t.waiting;
    living = living-by (λ j. can_receive side log j ≡ true) may.there t.living;
    held = t.held;
    members = t.members;
    critical = t.critical;
    gone = t.gone;
    own = t.own;
    kinds = t.kinds;
    few = t.few;
    peers = peers-kept side s z (λ k e. e) (λ k e. e) (λ k e. e) (λ k e. e) t.peers;
  }

  sends-then : Sends side z log log
  sends-then = let x = a.work.sends in record {
    arriving = x.arriving;
    waiting = x.waiting;
    members = x.members;
    living = living-by (λ j. still_sends side log j ≡ true) may.sends x.living;
    own = x.own;
  }

  -- its own part is read from the front
  reader-at : ReaderAt session_rules live.reader offset (contents log k) (position k)
  reader-at = record {
    count = 0;
    at_offset = may.at_offset ∙ ap AtOffset (let e : offset ≡ offset + 0 = omega arith in e);
    within = (let le = may.within in omega (arith, le));
    taken = sym session_reader_is.nothing;
    least = λ n lt. absurd (omega (arith, lt));
  }

  work-then : WorkAmid side (record d.work { dispatched = kept_then }) log z [] position uncollected
  work-then = record {
    transport = a.work.transport;
    is_open_same = a.work.is_open_same;
    keeps = keeps-then;
    roles = roles-then;
    placed = placed-then;
    there = there-then;
    sends = sends-then;
    control = a.work.control;
    sessions = λ e. sessions-with live new (contents log) position refl reader-at kept.sessions.living s.sessions keeps.living (a.work.sessions e);
  }

  -- a session was established
  begun : NoneEstablished z → ⊥
  begun n = true≢false (sym (ap (λ b. b || s.dispatched.is_established k) (same k)) ∙ n k)

  -- the session lives
  pub established-amid : Amid side (on_sessions (establish_now k) d) log (established_now (record { id = k; offset = offset }) s) [] position uncollected
  established-amid = subst (λ (x : DriverState). Amid side (on_sessions (establish_now k) d) log x [] position uncollected) (sym state-is)
      (lifted side d log s [] position uncollected a (record d.work { dispatched = kept_then }) z [] position uncollected work-then (λ kind. refl) refl refl refl (λ e. e) (λ j e. refl) refl (λ c n. absurd (begun n)))
