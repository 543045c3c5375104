-- A session becomes gone: its streams are those of the log's table, and what is kept then is what the state has.
use Rattle.std.proofs.Common.{map-id, ◌%◌, ◌∙◌, ◌≡◌, ◌∷◌, Bool, List, None, Option, Some, [], ap, cond, false, filter, find, is_some, map, refl, subst, sym, true, ℕ}
use Rattle.std.proofs.lemmas.Bool.{eq-eqb, eqb-true, or_from, or_parts, true≢false}
use Rattle.std.specs.List.{list_any}
use Rattle.std.specs.Prelude.{◌==◌, ◌||◌, if◌then◌else◌, nat_lt, not, unwrap_or}
use Rattle.wt_follows.proofs.Lists.{all-pass, any-filter, any-kept, any-map, filter-implied, filter-swap, flip, map-filter, none-left, or-true, refuted, same, without-first}
use Rattle.wt_follows.specs.Roles.{AreDistinct, is_in, is_living}
use Rattle.wt_follows.specs.Tie.{Keeps, WindowFollows, WindowsFollow, closed_by}
use Rattle.wt_kept.specs.Ending.{ended_by, forget_request, remains_of, with_gone}
use Rattle.wt_kept.specs.Kept.{DispatchedNow, GoneNow, LiveNow, SessionEndNow, WaitingDatagram, WindowNow}
use Rattle.wt_kept.specs.Lists.{without_first}
use Rattle.wt_kept.specs.Windows.{end_in, is_live, live_in, without}
use Rattle.wt_sessions.proofs.Scans.{or-false}
use Rattle.wt_sessions.specs.DriverState.{DriverState}
use Rattle.wt_sessions.specs.Step.{forget, gone_now}
use Rattle.wt_sessions.specs.StreamTable.{Admitted, Closed, Dispatched, Session, Waiting, streams_of, with_ids}

-- the ids of what waits for a session
abbrev pub waiting_for : Dispatched → ℕ → List ℕ
waiting_for d k = map (λ (w : Waiting). w.id) (filter (λ (w : Waiting). w.session == k) d.streams)

-- the session becomes gone, and these were closed
abbrev pub gone_by : ℕ → (ℕ → Option Closed) → DriverState → DriverState
gone_by k closed s = record (gone_now k s) { closed = closed }

-- a datagram that waits, as the driver keeps it
abbrev as_waiting : Admitted → WaitingDatagram
as_waiting x = record { session = x.session; payload = x.payload }

-- a session that doesn't live isn't among those that do
not-not : (b c : Bool) → b ≡ c → not (not b) ≡ c
not-not true c e = e
not-not false c e = e

pub unliving : (k : ℕ) (s : DriverState) → is_living s k ≡ false → filter (λ (x : Session). not (k == x.id)) s.sessions ≡ s.sessions
unliving k s e = all-pass (λ (x : Session). not (k == x.id)) s.sessions
    ((λ i. list_any (λ (x : Session). not-not (k == x.id) (x.id == k) (flip k x.id) i) s.sessions) ∙ e)

-- ---- lists

pub found-any : {X : Type 0} (p : X → Bool) (xs : List X) (o : Option X) → find p xs ≡ o → list_any p xs ≡ is_some o
found-any p [] o e = ap is_some e
found-any p (x ∷ xs) o e = by (p x) e (found-any p xs o)
  where
    by : (b : Bool) → cond b (Some x) (find p xs) ≡ o → (find p xs ≡ o → list_any p xs ≡ is_some o) → (b || list_any p xs) ≡ is_some o
    by true f again = ap is_some f
    by false f again = again f

pub none-is : {X : Type 0} (o : Option X) → is_some o ≡ false → o ≡ None
none-is None e = refl
none-is (Some x) e = absurd (true≢false e)

-- one more that is gone
pub end-in-with : (g : GoneNow) (gs : List GoneNow) (j : ℕ) → end_in gs g.id ≡ None → end_in (with_gone g gs) j ≡ (if g.id == j then Some g.end else end_in gs j)
end-in-with g [] j e = refl
end-in-with g (x ∷ xs) j e = by (nat_lt x.id g.id) (x.id == g.id) refl e (end-in-with g xs j)
  where
    swap : (a b : Bool) → (a ≡ true → b ≡ true → ⊥) → (if a then Some x.end else (if b then Some g.end else end_in xs j)) ≡ (if b then Some g.end else (if a then Some x.end else end_in xs j))
    swap true true f = absurd (f refl refl)
    swap true false f = refl
    swap false b f = refl

    by : (c b : Bool) → (x.id == g.id) ≡ b → (if b then Some x.end else end_in xs g.id) ≡ None → (end_in xs g.id ≡ None → end_in (with_gone g xs) j ≡ (if g.id == j then Some g.end else end_in xs j))
        → end_in (if c then x ∷ with_gone g xs else g ∷ x ∷ xs) j ≡ (if g.id == j then Some g.end else (if x.id == j then Some x.end else end_in xs j))
    by false b f h again = refl
    by true true f h again = absurd (true≢false (ap is_some h))
    by true false f h again = ap (λ o. if x.id == j then Some x.end else o) (again h)
        ∙ swap (x.id == j) (g.id == j) (λ a b. true≢false (sym (eq-eqb x.id g.id (eqb-true x.id j a ∙ sym (eqb-true g.id j b))) ∙ f))

-- ---- windows

module _ (d : Dispatched) (k : ℕ) where
  apart-test : (p : ℕ → Bool) → p k ≡ false → (j : ℕ) → p j ≡ true → not (k == j) ≡ true
  apart-test p e j f = by (k == j) refl
    where
      by : (b : Bool) → (k == j) ≡ b → not b ≡ true
      by false g = refl
      by true g = absurd (true≢false (sym f ∙ (ap p (sym (eqb-true k j g)) ∙ e)))

  window-apart : (w : WindowNow) (p : ℕ → Bool) → p k ≡ false → WindowFollows w d p → WindowFollows w (forget k d) p
  window-apart w p e f = record {
    streams = f.streams ∙ sym (filter-implied (λ (x : Waiting). p x.session) (λ (x : Waiting). not (k == x.session)) (λ x. apart-test p e x.session) d.streams);
    datagrams = f.datagrams ∙ ap (map (λ (x : Admitted). record { session = x.session; payload = x.payload }))
        (sym (filter-implied (λ (x : Admitted). p x.session) (λ (x : Admitted). not (k == x.session)) (λ x. apart-test p e x.session) d.datagrams));
  }

  windows-apart : (xs : List LiveNow) → WindowsFollow xs d → list_any (is_live k) xs ≡ false → WindowsFollow xs (forget k d)
  windows-apart [] all e = tt
  windows-apart (x ∷ xs) all e = let parts = or_parts (x.id == k) (list_any (is_live k) xs) e in
      (window-apart x.window (λ j. j == x.id) (flip k x.id ∙ parts.0) all.0, all.1, windows-apart xs all.2 parts.1)

  windows-filtered : (p : LiveNow → Bool) (xs : List LiveNow) → WindowsFollow xs d → WindowsFollow (filter p xs) d
  windows-filtered p [] all = tt
  windows-filtered p (x ∷ xs) all = by (p x) (windows-filtered p xs all.2)
    where
      by : (b : Bool) → WindowsFollow (filter p xs) d → WindowsFollow (cond b (x ∷ filter p xs) (filter p xs)) d
      by true again = (all.0, all.1, again)
      by false again = again

  -- the window of the session that lives
  pub found-window : (xs : List LiveNow) (x : LiveNow) → WindowsFollow xs d → find (is_live k) xs ≡ Some x → (x.id ≡ k) × WindowFollows x.window d (λ j. j == k) × (x.members ≡ d.members k)
  found-window [] x all e = absurd (true≢false (sym (ap is_some e)))
  found-window (y ∷ ys) x all e = by (y.id == k) refl e (found-window ys x all.2)
    where
      by : (b : Bool) → (y.id == k) ≡ b → cond b (Some y) (find (is_live k) ys) ≡ Some x → (find (is_live k) ys ≡ Some x → (x.id ≡ k) × WindowFollows x.window d (λ j. j == k) × (x.members ≡ d.members k))
          → (x.id ≡ k) × WindowFollows x.window d (λ j. j == k) × (x.members ≡ d.members k)
      by false f g again = again g
      by true f g again = subst (λ (z : LiveNow). (z.id ≡ k) × WindowFollows z.window d (λ j. j == k) × (z.members ≡ d.members k)) (ap (λ (o : Option LiveNow). unwrap_or o y) g)
          (subst (λ i. (y.id ≡ i) × WindowFollows y.window d (λ j. j == i) × (y.members ≡ d.members i)) (eqb-true y.id k f) (refl, all.0, all.1))

-- ---- which streams it leaves

module _ (d : DispatchedNow) (s : DriverState) (h : Keeps d s) (k : ℕ) where
  pub lives-same : (o : Option LiveNow) → live_in d.sessions k ≡ o → is_living s k ≡ is_some o
  lives-same o e = sym (any-map (λ (x : Session). x.id) k s.sessions) ∙ (ap (is_in k) (sym h.living) ∙ (any-map (λ (x : LiveNow). x.id) k d.sessions.living ∙ found-any (is_live k) d.sessions.living o e))

  module _ (remains : s.dispatched.is_gone k ≡ false) where
    unnamed : (x : ℕ) → s.dispatched.is_established k ≡ false → (x == k) ≡ true → not (s.dispatched.is_established x) ≡ true
    unnamed x e f = ap (λ i. not (s.dispatched.is_established i)) (eqb-true x k f) ∙ ap not e

    pub remains-are : (o : Option LiveNow) → live_in d.sessions k ≡ o → remains_of d.sessions k o ≡ record { streams = streams_of s.dispatched k; waiting = waiting_for s.dispatched k }
    remains-are (Some x) e =
        let w = found-window s.dispatched k d.sessions.living x h.windows e in
        λ i. record { streams = with_ids (map (λ (v : Waiting). v.id) (w.1.streams i)) (w.2 i); waiting = map (λ (v : Waiting). v.id) (w.1.streams i) }
    remains-are None e =
        let un : s.dispatched.is_established k ≡ false = h.established k remains ∙ lives-same None e in
        let early : filter (λ (v : Waiting). v.session == k) d.sessions.early.streams ≡ filter (λ (v : Waiting). v.session == k) s.dispatched.streams =
        ap (filter (λ (v : Waiting). v.session == k)) h.early.streams
        ∙ filter-implied (λ (v : Waiting). v.session == k) (λ (v : Waiting). not (s.dispatched.is_established v.session)) (λ v f. unnamed v.session un f) s.dispatched.streams in
        λ i. record { streams = with_ids (map (λ (v : Waiting). v.id) (early i)) (sym (h.unjoined k un) i); waiting = map (λ (v : Waiting). v.id) (early i) }

    -- ---- what is kept then

    abbrev table : Dispatched
    table = forget k s.dispatched

    early-then : s.dispatched.is_established k ≡ false → WindowFollows (without k d.sessions.early) table (λ j. not (s.dispatched.is_established j))
    early-then un = record {
      streams = (λ i. filter (λ (x : Waiting). not (flip x.session k i)) (h.early.streams i))
          ∙ filter-swap (λ (x : Waiting). not (k == x.session)) (λ (x : Waiting). not (s.dispatched.is_established x.session)) s.dispatched.streams;
      datagrams = (λ i. filter (λ (x : WaitingDatagram). not (flip x.session k i)) (h.early.datagrams i))
          ∙ (sym (map-filter as_waiting (λ (x : WaitingDatagram). not (k == x.session)) (filter (λ (x : Admitted). not (s.dispatched.is_established x.session)) s.dispatched.datagrams))
          ∙ ap (map as_waiting) (filter-swap (λ (x : Admitted). not (k == x.session)) (λ (x : Admitted). not (s.dispatched.is_established x.session)) s.dispatched.datagrams));
    }

    sessions-then : map (λ (x : LiveNow). x.id) (filter (λ (x : LiveNow). not (is_live k x)) d.sessions.living) ≡ map (λ (x : Session). x.id) (filter (λ (x : Session). not (k == x.id)) s.sessions)
    sessions-then =
        map-filter (λ (x : LiveNow). x.id) (λ j. not (j == k)) d.sessions.living
        ∙ ((λ i. filter (λ (j : ℕ). not (flip j k i)) (h.living i))
        ∙ sym (map-filter (λ (x : Session). x.id) (λ j. not (k == j)) s.sessions))

    -- both leave out the first of its id
    pub living-filtered : AreDistinct (map (λ (x : Session). x.id) s.sessions) → without_first (is_live k) d.sessions.living ≡ filter (λ (x : LiveNow). not (is_live k x)) d.sessions.living
    living-filtered once = without-first (λ (x : LiveNow). x.id) k d.sessions.living (subst AreDistinct (sym h.living) once)

    held-then : AreDistinct s.dispatched.held → without_first (λ (j : ℕ). j == k) d.requests.held ≡ filter (λ (j : ℕ). not (k == j)) s.dispatched.held
    held-then once = without-first (λ (j : ℕ). j) k d.requests.held (subst AreDistinct (sym (map-id d.requests.held ∙ h.held)) once) ∙ (λ i. filter (λ (j : ℕ). not (flip j k i)) (h.held i))

    ungone : (k % 4) ≡ 0 → end_in d.sessions.gone k ≡ None
    ungone four = none-is (end_in d.sessions.gone k) (sym (h.gone k four) ∙ remains)

    gone-then : (k % 4) ≡ 0 → (end : SessionEndNow) (j : ℕ) → (j % 4) ≡ 0 → (s.dispatched.is_gone j || k == j) ≡ is_some (end_in (with_gone (record { id = k; end = end }) d.sessions.gone) j)
    gone-then four end j f = by (k == j) (h.gone j f) ∙ ap is_some (sym (end-in-with (record { id = k; end = end }) d.sessions.gone j (ungone four)))
      where
        by : (b : Bool) → s.dispatched.is_gone j ≡ is_some (end_in d.sessions.gone j) → (s.dispatched.is_gone j || b) ≡ is_some (if b then Some end else end_in d.sessions.gone j)
        by true g = or-true (s.dispatched.is_gone j)
        by false g = or-false (s.dispatched.is_gone j) ∙ g

    gone-named : (k % 4) ≡ 0 → (end : SessionEndNow) (j : ℕ) → is_some (end_in (with_gone (record { id = k; end = end }) d.sessions.gone) j) ≡ true → (j % 4) ≡ 0
    gone-named four end j f = by (k == j) refl (ap is_some (sym (end-in-with (record { id = k; end = end }) d.sessions.gone j (ungone four))) ∙ f)
      where
        by : (b : Bool) → (k == j) ≡ b → is_some (if b then Some end else end_in d.sessions.gone j) ≡ true → (j % 4) ≡ 0
        by true e g = subst (λ i. (i % 4) ≡ 0) (eqb-true k j e) four
        by false e g = h.gone_named j g

    -- these are the closed ones where this one ended so
    abbrev pub AreClosed : SessionEndNow → (ℕ → Option Closed) → Type 0
    AreClosed end closed = (j : ℕ) → (j % 4) ≡ 0 → closed j ≡ (if k == j then closed_by k (Some end) else s.closed j)

    closed-then : (k % 4) ≡ 0 → (end : SessionEndNow) (closed : ℕ → Option Closed) → AreClosed end closed → (j : ℕ) → (j % 4) ≡ 0
        → closed j ≡ closed_by j (end_in (with_gone (record { id = k; end = end }) d.sessions.gone) j)
    closed-then four end closed c j f = c j f ∙ (by (k == j) refl (h.closed j f) ∙ ap (closed_by j) (sym (end-in-with (record { id = k; end = end }) d.sessions.gone j (ungone four))))
      where
        by : (b : Bool) → (k == j) ≡ b → s.closed j ≡ closed_by j (end_in d.sessions.gone j) → (if b then closed_by k (Some end) else s.closed j) ≡ closed_by j (if b then Some end else end_in d.sessions.gone j)
        by true e g = ap (λ i. closed_by i (Some end)) (eqb-true k j e)
        by false e g = g

    established-then : (j : ℕ) → (s.dispatched.is_gone j || k == j) ≡ false → s.dispatched.is_established j ≡ list_any (λ (x : Session). x.id == j) (filter (λ (x : Session). not (k == x.id)) s.sessions)
    established-then j e = let parts = or_parts (s.dispatched.is_gone j) (k == j) e in
        h.established j parts.0 ∙ sym (any-kept (λ (x : Session). x.id == j) (λ (x : Session). not (k == x.id))
        (λ x f. ap (λ i. not (k == i)) (eqb-true x.id j f) ∙ ap not parts.1) s.sessions)

    alive-then : (j : ℕ) → list_any (λ (x : Session). x.id == j) (filter (λ (x : Session). not (k == x.id)) s.sessions) ≡ true → (s.dispatched.is_gone j || k == j) ≡ false
    alive-then j e = or_from (s.dispatched.is_gone j) (k == j)
        (h.alive j (any-filter (λ (x : Session). x.id == j) (λ (x : Session). not (k == x.id)) s.sessions e))
        (refuted (k == j) (λ f. true≢false (sym e ∙ none-left (λ (x : Session). x.id == j) (λ (x : Session). not (k == x.id))
        (λ x g. ap (λ i. not (i == x.id)) (eqb-true k j f) ∙ (ap (λ i. not (j == i)) (eqb-true x.id j g) ∙ ap not (same j))) s.sessions)))

    keeps-then : AreDistinct s.dispatched.held → AreDistinct (map (λ (x : Session). x.id) s.sessions) → (k % 4) ≡ 0 → (end : SessionEndNow) (closed : ℕ → Option Closed) → AreClosed end closed → (o : Option LiveNow) → live_in d.sessions k ≡ o
        → Keeps (record d { requests = forget_request k d.requests; sessions = ended_by d.sessions k end o }) (gone_by k closed s)
    keeps-then once_held once_living four end closed c o e = by o e
      where
        by : (o : Option LiveNow) → live_in d.sessions k ≡ o → Keeps (record d { requests = forget_request k d.requests; sessions = ended_by d.sessions k end o }) (gone_by k closed s)
        by (Some x) e = record {
          control = h.control;
          encoder = h.encoder;
          decoder = h.decoder;
          settings = h.settings;
          queued = h.queued;
          held = held-then once_held;
          living = ap (map (λ (y : LiveNow). y.id)) (living-filtered once_living) ∙ sessions-then;
          windows = subst (λ xs. WindowsFollow xs table) (sym (living-filtered once_living))
              (windows-apart s.dispatched k (filter (λ (y : LiveNow). not (is_live k y)) d.sessions.living) (windows-filtered s.dispatched k (λ y. not (is_live k y)) d.sessions.living h.windows)
              (none-left (is_live k) (λ (y : LiveNow). not (is_live k y)) (λ y f. ap not f) d.sessions.living));
          early = window-apart s.dispatched k d.sessions.early (λ j. not (s.dispatched.is_established j)) (ap not (h.established k remains ∙ lives-same (Some x) e)) h.early;
          gone = gone-then four end;
          gone_named = gone-named four end;
          closed = closed-then four end closed c;
          established = established-then;
          alive = alive-then;
          named = h.named;
          named_streams = λ j f. h.named_streams j (any-filter (λ (w : Waiting). w.session == j) (λ (w : Waiting). not (k == w.session)) s.dispatched.streams f);
          named_datagrams = λ j f. h.named_datagrams j (any-filter (λ (w : Admitted). w.session == j) (λ (w : Admitted). not (k == w.session)) s.dispatched.datagrams f);
          unjoined = h.unjoined;
          fault = h.fault;
        }
        by None e = record {
          control = h.control;
          encoder = h.encoder;
          decoder = h.decoder;
          settings = h.settings;
          queued = h.queued;
          held = held-then once_held;
          living = h.living ∙ ap (map (λ (x : Session). x.id)) (sym (unliving k s (lives-same None e)));
          windows = windows-apart s.dispatched k d.sessions.living h.windows (found-any (is_live k) d.sessions.living None e);
          early = early-then (h.established k remains ∙ lives-same None e);
          gone = gone-then four end;
          gone_named = gone-named four end;
          closed = closed-then four end closed c;
          established = established-then;
          alive = alive-then;
          named = h.named;
          named_streams = λ j f. h.named_streams j (any-filter (λ (w : Waiting). w.session == j) (λ (w : Waiting). not (k == w.session)) s.dispatched.streams f);
          named_datagrams = λ j f. h.named_datagrams j (any-filter (λ (w : Admitted). w.session == j) (λ (w : Admitted). not (k == w.session)) s.dispatched.datagrams f);
          unjoined = h.unjoined;
          fault = h.fault;
        }

    pub keeps-gone : AreDistinct s.dispatched.held → AreDistinct (map (λ (x : Session). x.id) s.sessions) → (k % 4) ≡ 0 → (end : SessionEndNow) (closed : ℕ → Option Closed) → AreClosed end closed
        → Keeps (record d { requests = forget_request k d.requests; sessions = ended_by d.sessions k end (live_in d.sessions k) }) (gone_by k closed s)
    keeps-gone once_held once_living four end closed c = keeps-then once_held once_living four end closed c (live_in d.sessions k) refl
