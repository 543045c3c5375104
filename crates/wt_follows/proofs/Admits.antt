-- A stream of a session finds a place in the window that the table says, or none.
use Rattle.std.proofs.Common.{◌∙◌, ◌≡◌, ◌++◌, ◌∷◌, Bool, List, None, Option, Some, [], ap, cond, false, filter, find, length, map, nat_lt, refl, suc, subst, sym, true, ℕ}
use Rattle.std.proofs.lemmas.Bool.{eqb-true, or_parts}
use Rattle.std.proofs.lemmas.List.{append-nil}
use Rattle.std.proofs.lemmas.List.Folds.{list_any-append}
use Rattle.std.specs.List.{list_any}
use Rattle.std.specs.Prelude.{◌%◌, ◌==◌, ◌||◌, if◌then◌else◌, is_some, not}
use Rattle.wt_follows.proofs.Gains.{next}
use Rattle.wt_follows.proofs.Logs.{flip, same-id}
use Rattle.wt_follows.specs.Roles.{AreDistinct, is_in, is_living}
use Rattle.wt_follows.specs.Tie.{Keeps, ReaderAt, SessionsFollow, WindowFollows, WindowsFollow, closed_by}
use Rattle.wt_kept.specs.Kept.{DispatchedNow, GoneNow, LiveNow, SessionsNow, WindowNow}
use Rattle.wt_kept.specs.Readers.{session_rules}
use Rattle.wt_kept.specs.Windows.{Admits, Admitted, Full, Gone, Taken, admit_by, admit_stream_now, changed_live, end_in, in_live, is_full, is_gone_now, is_live, live_in, with_live, with_stream}
use Rattle.wt_turn.specs.Unread.{ReadPosition}
use Rattle.wt_sessions.specs.DriverState.{DriverState}
use Rattle.wt_sessions.specs.StreamTable.{Dispatched, DriverProgress, Session, Waiting, has_room}

-- ---- which sessions live, and which are gone

pub any-map : {X : Type 0} (f : X → ℕ) (k : ℕ) (xs : List X) → list_any (λ (x : X). f x == k) xs ≡ is_in k (map f xs)
any-map f k [] = refl
any-map f k (x ∷ xs) = ap (λ b. (f x == k) || b) (any-map f k xs)

pub lives-same : (d : DispatchedNow) (s : DriverState) → Keeps d s → (k : ℕ) → list_any (is_live k) d.sessions.living ≡ is_living s k
lives-same d s h k = any-map (λ (x : LiveNow). x.id) k d.sessions.living ∙ (ap (is_in k) h.living ∙ sym (any-map (λ (x : Session). x.id) k s.sessions))

pub gone-same : (xs : List GoneNow) (k : ℕ) → list_any (λ (g : GoneNow). g.id == k) xs ≡ is_some (end_in xs k)
gone-same [] k = refl
gone-same (x ∷ xs) k = by (x.id == k) (gone-same xs k)
  where
    by : (b : Bool) → list_any (λ (g : GoneNow). g.id == k) xs ≡ is_some (end_in xs k) → (b || list_any (λ (g : GoneNow). g.id == k) xs) ≡ is_some (if b then Some x.end else end_in xs k)
    by true again = refl
    by false again = again

pub lives-found : (k : ℕ) (xs : List LiveNow) → is_some (find (is_live k) xs) ≡ list_any (is_live k) xs
lives-found k [] = refl
lives-found k (x ∷ xs) = by (is_live k x) (lives-found k xs)
  where
    by : (b : Bool) → is_some (find (is_live k) xs) ≡ list_any (is_live k) xs → is_some (cond b (Some x) (find (is_live k) xs)) ≡ (b || list_any (is_live k) xs)
    by true again = refl
    by false again = again

-- the one that is found has this id, and its window follows
pub found-follows : (k : ℕ) (d : Dispatched) (xs : List LiveNow) (y : LiveNow) → WindowsFollow xs d → find (is_live k) xs ≡ Some y → ((y.id == k) ≡ true) × WindowFollows y.window d (λ j. j == y.id)
found-follows k d [] y h e = absurd cc
found-follows k d (x ∷ xs) y h e = by (x.id == k) refl e (λ f. found-follows k d xs y h.2 f)
  where
    is-some : {X : Type 0} {a b : X} → Some a ≡ Some b → a ≡ b
    is-some f = cc

    by : (b : Bool) → (x.id == k) ≡ b → cond b (Some x) (find (is_live k) xs) ≡ Some y → (find (is_live k) xs ≡ Some y → ((y.id == k) ≡ true) × WindowFollows y.window d (λ j. j == y.id))
        → ((y.id == k) ≡ true) × WindowFollows y.window d (λ j. j == y.id)
    by true f e again = subst (λ (z : LiveNow). ((z.id == k) ≡ true) × WindowFollows z.window d (λ j. j == z.id)) (is-some e) (f, h.0)
    by false f e again = again e

-- ---- streams that wait, with one more

module _ {X : Type 0} where
  pub filter-more : (q : X → Bool) (xs : List X) (y : X) → filter q (xs ++ y ∷ []) ≡ filter q xs ++ (if q y then y ∷ [] else [])
  filter-more q [] y = by (q y)
    where
      by : (b : Bool) → cond b (y ∷ []) [] ≡ (if b then y ∷ [] else [])
      by true = refl
      by false = refl
  filter-more q (x ∷ xs) y = by (q x) (filter-more q xs y)
    where
      by : (b : Bool) → filter q (xs ++ y ∷ []) ≡ filter q xs ++ (if q y then y ∷ [] else []) → cond b (x ∷ filter q (xs ++ y ∷ [])) (filter q (xs ++ y ∷ [])) ≡ cond b (x ∷ filter q xs) (filter q xs) ++ (if q y then y ∷ [] else [])
      by true e = ap (λ ys. x ∷ ys) e
      by false e = e

  pub filter-length : (f : X → ℕ) (q : ℕ → Bool) (xs : List X) → length (filter q (map f xs)) ≡ length (filter (λ (x : X). q (f x)) xs)
  filter-length f q [] = refl
  filter-length f q (x ∷ xs) = by (q (f x)) (filter-length f q xs)
    where
      by : (b : Bool) → length (filter q (map f xs)) ≡ length (filter (λ (y : X). q (f y)) xs) → length (cond b (f x ∷ filter q (map f xs)) (filter q (map f xs))) ≡ length (cond b (x ∷ filter (λ (y : X). q (f y)) xs) (filter (λ (y : X). q (f y)) xs))
      by true e = ap suc e
      by false e = e

module _ (d : DispatchedNow) (s : DriverState) (h : Keeps d s) (k session : ℕ) where
  abbrev pub waiter : Waiting
  waiter = record { id = k; session = session }

  abbrev pub joined : Dispatched
  joined = record s.dispatched { streams = s.dispatched.streams ++ waiter ∷ [] }

  -- fewer than 16 wait of these sessions
  abbrev pub room_of : (ℕ → Bool) → Bool
  room_of theirs = nat_lt (length (filter (λ (x : Waiting). theirs x.session) s.dispatched.streams)) 16

  pub room-same : (theirs : ℕ → Bool) → nat_lt (length (filter theirs (map (λ (x : Waiting). x.session) s.dispatched.streams))) 16 ≡ room_of theirs
  room-same theirs = ap (λ n. nat_lt n 16) (filter-length (λ (x : Waiting). x.session) theirs s.dispatched.streams)

  full-is : (win : WindowNow) (theirs : ℕ → Bool) → WindowFollows win s.dispatched theirs → is_full win.streams ≡ not (room_of theirs)
  full-is win theirs f = ap (λ (xs : List Waiting). not (nat_lt (length xs) 16)) f.streams

  -- a window into which it doesn't come
  pub window-stays : (win : WindowNow) (theirs : ℕ → Bool) → theirs session ≡ false → WindowFollows win s.dispatched theirs → WindowFollows win joined theirs
  window-stays win theirs e f = record {
    streams = f.streams ∙ sym (filter-more (λ (x : Waiting). theirs x.session) s.dispatched.streams waiter ∙ (ap (λ (b : Bool). filter (λ (x : Waiting). theirs x.session) s.dispatched.streams ++ (if b then waiter ∷ [] else [])) e ∙ append-nil _));
    datagrams = f.datagrams;
  }

  abbrev pub taken_in : WindowNow → WindowNow
  taken_in win = (with_stream waiter win).window

  taken-is : (win : WindowNow) → is_full win.streams ≡ false → with_stream waiter win ≡ record { admission = Admitted; window = record win { streams = win.streams ++ waiter ∷ [] } }
  taken-is win e = ap (λ (b : Bool). if b then record { admission = Full; window = win } else record { admission = Admitted; window = record win { streams = win.streams ++ waiter ∷ [] } }) e

  refused-is : (win : WindowNow) → is_full win.streams ≡ true → with_stream waiter win ≡ record { admission = Full; window = win }
  refused-is win e = ap (λ (b : Bool). if b then record { admission = Full; window = win } else record { admission = Admitted; window = record win { streams = win.streams ++ waiter ∷ [] } }) e

  -- the one into which it comes
  pub window-takes : (win : WindowNow) (theirs : ℕ → Bool) → theirs session ≡ true → room_of theirs ≡ true → WindowFollows win s.dispatched theirs → WindowFollows (taken_in win) joined theirs
  window-takes win theirs e room f =
      subst (λ (x : Taken). WindowFollows x.window joined theirs) (sym (taken-is win (full-is win theirs f ∙ ap not room)))
      (record {
        streams = ap (λ (xs : List Waiting). xs ++ waiter ∷ []) f.streams
            ∙ sym (filter-more (λ (x : Waiting). theirs x.session) s.dispatched.streams waiter ∙ ap (λ (b : Bool). filter (λ (x : Waiting). theirs x.session) s.dispatched.streams ++ (if b then waiter ∷ [] else [])) e);
        datagrams = f.datagrams;
      })

  -- ---- those of sessions that live

  abbrev pub live_taking : LiveNow → LiveNow
  live_taking y = record y { window = taken_in y.window }

  -- of others nothing changes
  pub windows-stay : (xs : List LiveNow) → list_any (is_live session) xs ≡ false → WindowsFollow xs s.dispatched → WindowsFollow xs joined
  windows-stay [] miss f = tt
  windows-stay (x ∷ xs) miss f =
      let parts = or_parts (x.id == session) (list_any (is_live session) xs) miss in
      (window-stays x.window (λ j. j == x.id) (flip x.id session parts.0) f.0, f.1, windows-stay xs parts.1 f.2)

  pub windows-take : (xs : List LiveNow) → AreDistinct (map (λ (x : LiveNow). x.id) xs) → room_of (λ j. j == session) ≡ true → WindowsFollow xs s.dispatched → WindowsFollow (changed_live live_taking session xs) joined
  windows-take [] apart room f = tt
  windows-take (x ∷ xs) apart room f = by (x.id == session) refl (windows-take xs apart.1 room f.2)
    where
      by : (b : Bool) → (x.id == session) ≡ b → WindowsFollow (changed_live live_taking session xs) joined → WindowsFollow (if b then live_taking x ∷ xs else x ∷ changed_live live_taking session xs) joined
      by true e again =
          let same : x.id ≡ session = eqb-true x.id session e in
          let others : list_any (is_live session) xs ≡ false = any-map (λ (y : LiveNow). y.id) session xs ∙ (ap (λ j. is_in j (map (λ (y : LiveNow). y.id) xs)) (sym same) ∙ apart.0) in (
            window-takes x.window (λ j. j == x.id) (ap (λ j. session == j) same ∙ same-id session) (ap (λ i. room_of (λ j. j == i)) same ∙ room) f.0,
            f.1,
            windows-stay xs others f.2,
          )
      by false e again = (window-stays x.window (λ j. j == x.id) (flip x.id session e) f.0, f.1, again)

  -- what a change of windows leaves
  pub ids-stay : (change : LiveNow → LiveNow) → ((x : LiveNow) → (change x).id ≡ x.id) → (j : ℕ) (xs : List LiveNow) → map (λ (x : LiveNow). x.id) (changed_live change j xs) ≡ map (λ (x : LiveNow). x.id) xs
  ids-stay change same j [] = refl
  ids-stay change same j (x ∷ xs) = by (x.id == j) (ids-stay change same j xs)
    where
      by : (b : Bool) → map (λ (y : LiveNow). y.id) (changed_live change j xs) ≡ map (λ (y : LiveNow). y.id) xs
          → map (λ (y : LiveNow). y.id) (if b then change x ∷ xs else x ∷ changed_live change j xs) ≡ x.id ∷ map (λ (y : LiveNow). y.id) xs
      by true again = ap (λ i. i ∷ map (λ (y : LiveNow). y.id) xs) (same x)
      by false again = ap (λ is. x.id ∷ is) again

  pub readers-stay : (change : LiveNow → LiveNow) → ((x : LiveNow) → (change x).reader ≡ x.reader) → (j : ℕ) (xs : List LiveNow) (ss : List Session) (bytes : ℕ → List ℕ) (position : ℕ → ReadPosition)
      → SessionsFollow xs ss bytes position → SessionsFollow (changed_live change j xs) ss bytes position
  readers-stay change same j [] ss bytes position f = f
  readers-stay change same j (x ∷ xs) [] bytes position f = absurd f
  readers-stay change same j (x ∷ xs) (y ∷ ss) bytes position f = by (x.id == j) (readers-stay change same j xs ss bytes position f.1)
    where
      by : (b : Bool) → SessionsFollow (changed_live change j xs) ss bytes position → SessionsFollow (if b then change x ∷ xs else x ∷ changed_live change j xs) (y ∷ ss) bytes position
      by true again = (subst (λ r. ReaderAt session_rules r y.offset (bytes y.id) (position y.id)) (sym (same x)) f.0, f.1)
      by false again = (f.0, again)

  pub unchanged : (change : LiveNow → LiveNow) (j : ℕ) (xs : List LiveNow) (y : LiveNow) → find (is_live j) xs ≡ Some y → change y ≡ y → changed_live change j xs ≡ xs
  unchanged change j [] y e f = refl
  unchanged change j (x ∷ xs) y e f = by (x.id == j) e (λ g. unchanged change j xs y g f)
    where
      is-some : {X : Type 0} {a b : X} → Some a ≡ Some b → a ≡ b
      is-some g = cc

      by : (b : Bool) → cond b (Some x) (find (is_live j) xs) ≡ Some y → (find (is_live j) xs ≡ Some y → changed_live change j xs ≡ xs) → (if b then change x ∷ xs else x ∷ changed_live change j xs) ≡ x ∷ xs
      by true g again = ap (λ (z : LiveNow). z ∷ xs) (let same : x ≡ y = is-some g in ap change same ∙ (f ∙ sym same))
      by false g again = ap (λ zs. x ∷ zs) (again g)

  -- ---- where it comes

  module _ (named : (session % 4) ≡ 0) (distinct : AreDistinct (map (λ (x : LiveNow). x.id) d.sessions.living)) (p : DriverProgress) (settings : p.settings ≡ s.progress.settings) (fault : d.fault ≡ p.fault) where
    named-then : (j : ℕ) → list_any (λ (x : Waiting). x.session == j) (s.dispatched.streams ++ waiter ∷ []) ≡ true → (j % 4) ≡ 0
    named-then j e = by (list_any (λ (x : Waiting). x.session == j) s.dispatched.streams) refl (session == j) refl (sym (list_any-append (λ (x : Waiting). x.session == j) s.dispatched.streams (waiter ∷ [])) ∙ e)
      where
        by : (b : Bool) → list_any (λ (x : Waiting). x.session == j) s.dispatched.streams ≡ b → (c : Bool) → (session == j) ≡ c → (b || (c || false)) ≡ true → (j % 4) ≡ 0
        by true f c g e = h.named_streams j f
        by false f true g e = ap (λ i. i % 4) (sym (eqb-true session j g)) ∙ named
        by false f false g e = absurd cc

    keeps-joined : (x : SessionsNow) → map (λ (y : LiveNow). y.id) x.living ≡ map (λ (y : LiveNow). y.id) d.sessions.living → x.gone ≡ d.sessions.gone
        → WindowsFollow x.living joined → WindowFollows x.early joined (λ j. not (s.dispatched.is_established j)) → Keeps (record d { sessions = x }) (next s joined p)
    keeps-joined x ids gone windows early = record {
      control = h.control;
      encoder = h.encoder;
      decoder = h.decoder;
      settings = h.settings ∙ sym settings;
      queued = h.queued;
      held = h.held;
      living = ids ∙ h.living;
      windows = windows;
      early = early;
      gone = λ j e. h.gone j e ∙ ap (λ gs. is_some (end_in gs j)) (sym gone);
      gone_named = λ j e. h.gone_named j (ap (λ gs. is_some (end_in gs j)) (sym gone) ∙ e);
      closed = λ j e. h.closed j e ∙ ap (λ gs. closed_by j (end_in gs j)) (sym gone);
      established = h.established;
      alive = h.alive;
      named = h.named;
      named_streams = named-then;
      named_datagrams = h.named_datagrams;
      unjoined = h.unjoined;
      fault = fault;
    }

    -- what the sessions then are
    pub record Placed : Type 0 where
      pub sessions : SessionsNow
      pub here : admit_stream_now k session d.sessions ≡ record { admission = Admitted; sessions = sessions }
      pub keeps : Keeps (record d { sessions = sessions }) (next s joined p)
      pub read : (ss : List Session) (bytes : ℕ → List ℕ) (position : ℕ → ReadPosition) → SessionsFollow d.sessions.living ss bytes position → SessionsFollow sessions.living ss bytes position

    abbrev pub AdmitsAs : Bool → Bool → Type 0
    AdmitsAs true room = admit_stream_now k session d.sessions ≡ record { admission = Gone; sessions = d.sessions }
    AdmitsAs false false = admit_stream_now k session d.sessions ≡ record { admission = Full; sessions = d.sessions }
    AdmitsAs false true = Placed

    gone-now-same : is_gone_now d.sessions session ≡ s.dispatched.is_gone session
    gone-now-same = gone-same d.sessions.gone session ∙ sym (h.gone session named)

    found-same : is_some (live_in d.sessions session) ≡ is_living s session
    found-same = lives-found session d.sessions.living ∙ lives-same d s h session

    -- where it is gone it doesn't live
    gone-dead : s.dispatched.is_gone session ≡ true → is_living s session ≡ false
    gone-dead e = by (is_living s session) refl
      where
        by : (b : Bool) → is_living s session ≡ b → is_living s session ≡ false
        by false f = f
        by true f = absurd (let g = h.alive session f in cc)

    found-none : (o : Option LiveNow) → is_some o ≡ false → o ≡ None
    found-none None e = refl
    found-none (Some x) e = absurd cc

    abbrev admitting_by : Option LiveNow → Bool → Admits
    admitting_by o gone = admit_by (with_stream waiter) o gone d.sessions

    pub admits-gone : s.dispatched.is_gone session ≡ true → admit_stream_now k session d.sessions ≡ record { admission = Gone; sessions = d.sessions }
    admits-gone e = λ i. admitting_by (found-none (live_in d.sessions session) (found-same ∙ gone-dead e) i) ((gone-now-same ∙ e) i)

    -- of one that lives
    live-case : (y : LiveNow) → live_in d.sessions session ≡ Some y → s.dispatched.is_gone session ≡ false → (room : Bool) → has_room s.dispatched session (map (λ (x : Waiting). x.session) s.dispatched.streams) ≡ room → AdmitsAs false room
    live-case y found alive room e =
        let its = found-follows session s.dispatched d.sessions.living y h.windows found in
        let same : y.id ≡ session = eqb-true y.id session its.0 in
        let lives : is_living s session ≡ true = sym found-same ∙ ap is_some found in
        let established : s.dispatched.is_established session ≡ true = h.established session alive ∙ lives in
        let room_is : room_of (λ j. j == session) ≡ room =
        sym (room-same (λ j. j == session))
        ∙ (ap (λ (b : Bool). nat_lt (length (filter (λ other. if b then other == session else not (s.dispatched.is_established other)) (map (λ (x : Waiting). x.session) s.dispatched.streams))) 16) (sym established) ∙ e) in
        let admits : admit_stream_now k session d.sessions ≡ in_live (with_stream waiter) y d.sessions = ap (λ o. admitting_by o (is_gone_now d.sessions session)) found in
        by room room_is same its.1 admits
      where
        by : (b : Bool) → room_of (λ j. j == session) ≡ b → y.id ≡ session → WindowFollows y.window s.dispatched (λ j. j == y.id) → admit_stream_now k session d.sessions ≡ in_live (with_stream waiter) y d.sessions → AdmitsAs false b
        by false none same follows admits =
            let full : is_full y.window.streams ≡ true = full-is y.window (λ j. j == y.id) follows ∙ ap not (ap (λ i. room_of (λ j. j == i)) same ∙ none) in
            let stays : changed_live live_taking y.id d.sessions.living ≡ d.sessions.living =
            ap (λ i. changed_live live_taking i d.sessions.living) same ∙ unchanged live_taking session d.sessions.living y found (ap (λ (x : Taken). record y { window = x.window }) (refused-is y.window full)) in
            admits ∙ (λ i. record { admission = (refused-is y.window full i).admission; sessions = record d.sessions { living = stays i } })
        by true some same follows admits =
            let free : is_full y.window.streams ≡ false = full-is y.window (λ j. j == y.id) follows ∙ ap not (ap (λ i. room_of (λ j. j == i)) same ∙ some) in
            record {
              sessions = with_live live_taking session d.sessions;
              here = admits ∙ (λ i. record { admission = (taken-is y.window free i).admission; sessions = with_live live_taking (same i) d.sessions });
              keeps = keeps-joined (with_live live_taking session d.sessions) (ids-stay live_taking (λ x. refl) session d.sessions.living) refl
                  (windows-take d.sessions.living distinct some h.windows)
                  (window-stays d.sessions.early (λ j. not (s.dispatched.is_established j)) (let lives : is_living s session ≡ true = sym found-same ∙ ap is_some found in ap not (h.established session alive ∙ lives)) h.early);
              read = λ ss bytes position f. readers-stay live_taking (λ x. refl) session d.sessions.living ss bytes position f;
            }

    -- of one that names none
    early-case : live_in d.sessions session ≡ None → s.dispatched.is_gone session ≡ false → (room : Bool) → has_room s.dispatched session (map (λ (x : Waiting). x.session) s.dispatched.streams) ≡ room → AdmitsAs false room
    early-case none alive room e =
        let dead : is_living s session ≡ false = sym found-same ∙ ap is_some none in
        let unknown : s.dispatched.is_established session ≡ false = h.established session alive ∙ dead in
        let room_is : room_of (λ j. not (s.dispatched.is_established j)) ≡ room =
        sym (room-same (λ j. not (s.dispatched.is_established j)))
        ∙ (ap (λ (b : Bool). nat_lt (length (filter (λ other. if b then other == session else not (s.dispatched.is_established other)) (map (λ (x : Waiting). x.session) s.dispatched.streams))) 16) (sym unknown) ∙ e) in
        by room room_is dead unknown (λ i. admitting_by (none i) ((gone-now-same ∙ alive) i))
      where
        by : (b : Bool) → room_of (λ j. not (s.dispatched.is_established j)) ≡ b → is_living s session ≡ false → s.dispatched.is_established session ≡ false
            → admit_stream_now k session d.sessions ≡ record { admission = (with_stream waiter d.sessions.early).admission; sessions = record d.sessions { early = taken_in d.sessions.early } } → AdmitsAs false b
        by false few dead unknown admits =
            let full : is_full d.sessions.early.streams ≡ true = full-is d.sessions.early (λ j. not (s.dispatched.is_established j)) h.early ∙ ap not few in
            admits ∙ (λ i. record { admission = (refused-is d.sessions.early full i).admission; sessions = record d.sessions { early = (refused-is d.sessions.early full i).window } })
        by true some dead unknown admits =
            let free : is_full d.sessions.early.streams ≡ false = full-is d.sessions.early (λ j. not (s.dispatched.is_established j)) h.early ∙ ap not some in
            record {
              sessions = record d.sessions { early = taken_in d.sessions.early };
              here = admits ∙ (λ i. record { admission = (taken-is d.sessions.early free i).admission; sessions = record d.sessions { early = taken_in d.sessions.early } });
              keeps = keeps-joined (record d.sessions { early = taken_in d.sessions.early }) refl refl
                  (windows-stay d.sessions.living (lives-same d s h session ∙ dead) h.windows)
                  (window-takes d.sessions.early (λ j. not (s.dispatched.is_established j)) (ap not unknown) some h.early);
              read = λ ss bytes position f. f;
            }

    pub admits : (room : Bool) → s.dispatched.is_gone session ≡ false → has_room s.dispatched session (map (λ (x : Waiting). x.session) s.dispatched.streams) ≡ room → AdmitsAs false room
    admits room alive e = by (live_in d.sessions session) refl
      where
        by : (o : Option LiveNow) → live_in d.sessions session ≡ o → AdmitsAs false room
        by None f = early-case f alive room e
        by (Some y) f = live-case y f alive room e
