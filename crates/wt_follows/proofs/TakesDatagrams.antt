-- A datagram finds a place in the window that the table says, or none.
use Rattle.std.proofs.Common.{◌∙◌, ◌≡◌, ◌++◌, ◌∷◌, Bool, List, None, Option, Some, [], ap, false, filter, length, map, nat_lt, refl, suc, subst, subst₂, sym, true, ℕ}
use Rattle.std.proofs.lemmas.Bool.{eqb-true, or_parts, true≢false}
use Rattle.std.proofs.lemmas.List.{append-nil}
use Rattle.std.proofs.lemmas.List.Folds.{list_any-append}
use Rattle.std.specs.List.{list_any}
use Rattle.std.specs.Prelude.{◌%◌, ◌==◌, ◌||◌, ◌&&◌, if◌then◌else◌, is_some, not}
use Rattle.wt_follows.proofs.Admits.{filter-length, filter-more, gone-same, ids-stay, readers-stay, unchanged}
use Rattle.wt_follows.proofs.GoneKeeps.{found-any, found-window, lives-same}
use Rattle.wt_follows.proofs.Lists.{any-map, flip, same}
use Rattle.wt_follows.proofs.SameStreams.{dated}
use Rattle.wt_follows.specs.Roles.{AreDistinct, is_in, is_living}
use Rattle.wt_follows.specs.Tie.{Keeps, SessionsFollow, WindowFollows, WindowsFollow, closed_by}
use Rattle.wt_kept.specs.Kept.{DispatchedNow, LiveNow, SessionsNow, WaitingDatagram, WindowNow}
use Rattle.wt_kept.specs.Windows.{Admits, Full, Gone, Taken, admit_by, admit_datagram_now, changed_live, end_in, in_live, is_full, is_gone_now, is_live, live_in, with_datagram, with_live}
use Rattle.wt_kept.specs.Windows as windows
use Rattle.wt_turn.specs.Unread.{ReadPosition}
use Rattle.wt_sessions.specs.DriverState.{DriverState}
use Rattle.wt_sessions.specs.Scan.{is_admitted, with_looked_at}
use Rattle.wt_sessions.specs.Step.{place_now}
use Rattle.wt_sessions.specs.StreamTable.{Admitted, Dispatched, DriverProgress, Session, has_room}

-- a datagram that waits, as the driver keeps it
abbrev pub as_waiting : Admitted → WaitingDatagram
as_waiting x = record { session = x.session; payload = x.payload }

-- ---- one more datagram

module _ (d : Dispatched) (session index : ℕ) (payload : List ℕ) where
  abbrev pub comer : Admitted
  comer = record { index = index; session = session; payload = payload }

  abbrev pub here : WaitingDatagram
  here = record { session = session; payload = payload }

  abbrev pub joined : Dispatched
  joined = record d { datagrams = d.datagrams ++ comer ∷ [] }

  -- fewer than 16 wait of these sessions
  abbrev pub room_of : (ℕ → Bool) → Bool
  room_of theirs = nat_lt (length (filter (λ (x : Admitted). theirs x.session) d.datagrams)) 16

  room-same : (theirs : ℕ → Bool) → nat_lt (length (filter theirs (map (λ (x : Admitted). x.session) d.datagrams))) 16 ≡ room_of theirs
  room-same theirs = ap (λ n. nat_lt n 16) (filter-length (λ (x : Admitted). x.session) theirs d.datagrams)

  map-length : (xs : List Admitted) → length (map as_waiting xs) ≡ length xs
  map-length [] = refl
  map-length (x ∷ xs) = ap suc (map-length xs)

  map-more : (xs : List Admitted) (y : Admitted) → map as_waiting (xs ++ y ∷ []) ≡ map as_waiting xs ++ as_waiting y ∷ []
  map-more [] y = refl
  map-more (x ∷ xs) y = ap (λ zs. as_waiting x ∷ zs) (map-more xs y)

  full-is : (win : WindowNow) (theirs : ℕ → Bool) → WindowFollows win d theirs → is_full win.datagrams ≡ not (room_of theirs)
  full-is win theirs f = ap (λ (xs : List WaitingDatagram). not (nat_lt (length xs) 16)) f.datagrams ∙ ap (λ n. not (nat_lt n 16)) (map-length (filter (λ (x : Admitted). theirs x.session) d.datagrams))

  -- a window into which it doesn't come
  window-stays : (win : WindowNow) (theirs : ℕ → Bool) → theirs session ≡ false → WindowFollows win d theirs → WindowFollows win joined theirs
  window-stays win theirs e f = record {
    streams = f.streams;
    datagrams = f.datagrams ∙ ap (map as_waiting) (sym (filter-more (λ (x : Admitted). theirs x.session) d.datagrams comer
        ∙ (ap (λ (b : Bool). filter (λ (x : Admitted). theirs x.session) d.datagrams ++ (if b then comer ∷ [] else [])) e ∙ append-nil _)));
  }

  abbrev pub taken_in : WindowNow → WindowNow
  taken_in win = (with_datagram here win).window

  taken-is : (win : WindowNow) → is_full win.datagrams ≡ false → with_datagram here win ≡ record { admission = windows.Admitted; window = record win { datagrams = win.datagrams ++ here ∷ [] } }
  taken-is win e = ap (λ (b : Bool). if b then record { admission = Full; window = win } else record { admission = windows.Admitted; window = record win { datagrams = win.datagrams ++ here ∷ [] } }) e

  refused-is : (win : WindowNow) → is_full win.datagrams ≡ true → with_datagram here win ≡ record { admission = Full; window = win }
  refused-is win e = ap (λ (b : Bool). if b then record { admission = Full; window = win } else record { admission = windows.Admitted; window = record win { datagrams = win.datagrams ++ here ∷ [] } }) e

  -- the one into which it comes
  window-takes : (win : WindowNow) (theirs : ℕ → Bool) → theirs session ≡ true → room_of theirs ≡ true → WindowFollows win d theirs → WindowFollows (taken_in win) joined theirs
  window-takes win theirs e room f =
      subst (λ (x : Taken). WindowFollows x.window joined theirs) (sym (taken-is win (full-is win theirs f ∙ ap not room)))
      (record {
        streams = f.streams;
        datagrams = ap (λ (xs : List WaitingDatagram). xs ++ here ∷ []) f.datagrams
            ∙ (sym (map-more (filter (λ (x : Admitted). theirs x.session) d.datagrams) comer)
            ∙ ap (map as_waiting) (sym (filter-more (λ (x : Admitted). theirs x.session) d.datagrams comer ∙ ap (λ (b : Bool). filter (λ (x : Admitted). theirs x.session) d.datagrams ++ (if b then comer ∷ [] else [])) e)));
      })

  -- ---- those of sessions that live

  abbrev pub live_taking : LiveNow → LiveNow
  live_taking y = record y { window = taken_in y.window }

  windows-stay : (xs : List LiveNow) → list_any (is_live session) xs ≡ false → WindowsFollow xs d → WindowsFollow xs joined
  windows-stay [] miss f = tt
  windows-stay (x ∷ xs) miss f =
      let parts = or_parts (x.id == session) (list_any (is_live session) xs) miss in
      (window-stays x.window (λ j. j == x.id) (flip session x.id ∙ parts.0) f.0, f.1, windows-stay xs parts.1 f.2)

  windows-take : (xs : List LiveNow) → AreDistinct (map (λ (x : LiveNow). x.id) xs) → room_of (λ j. j == session) ≡ true → WindowsFollow xs d → WindowsFollow (changed_live live_taking session xs) joined
  windows-take [] apart room f = tt
  windows-take (x ∷ xs) apart room f = by (x.id == session) refl (windows-take xs apart.1 room f.2)
    where
      by : (b : Bool) → (x.id == session) ≡ b → WindowsFollow (changed_live live_taking session xs) joined → WindowsFollow (if b then live_taking x ∷ xs else x ∷ changed_live live_taking session xs) joined
      by true e again =
          let is : x.id ≡ session = eqb-true x.id session e in
          let others : list_any (is_live session) xs ≡ false = sym (any-map (λ (y : LiveNow). y.id) session xs) ∙ (ap (λ j. is_in j (map (λ (y : LiveNow). y.id) xs)) (sym is) ∙ apart.0) in
          (window-takes x.window (λ j. j == x.id) (ap (λ j. session == j) is ∙ same session) (ap (λ i. room_of (λ j. j == i)) is ∙ room) f.0, f.1, windows-stay xs others f.2)
      by false e again = (window-stays x.window (λ j. j == x.id) (flip session x.id ∙ e) f.0, f.1, again)

-- ---- the driver

module _ (d : DispatchedNow) (s : DriverState) (h : Keeps d s) (distinct : AreDistinct (map (λ (x : LiveNow). x.id) d.sessions.living)) (session : ℕ) (payload : List ℕ) (four : (session % 4) ≡ 0) where
  abbrev index : ℕ
  index = s.progress.datagrams

  abbrev table : Dispatched
  table = joined s.dispatched session index payload

  -- the sessions then are kept, and their readers are the same
  pub record Placed (x : SessionsNow) (z : DriverState) : Type 0 where
    pub keeps : Keeps (record d { sessions = x }) z
    pub read : (ss : List Session) (bytes : ℕ → List ℕ) (position : ℕ → ReadPosition) → SessionsFollow d.sessions.living ss bytes position → SessionsFollow x.living ss bytes position

  abbrev looked : DriverProgress
  looked = with_looked_at s.progress

  -- it has no place
  dropped : Placed d.sessions (dated s.dispatched.datagrams looked s)
  dropped = record {
    keeps = record {
      control = h.control;
      encoder = h.encoder;
      decoder = h.decoder;
      settings = h.settings;
      queued = h.queued;
      held = h.held;
      living = h.living;
      windows = h.windows;
      early = h.early;
      gone = h.gone;
      gone_named = h.gone_named;
      closed = h.closed;
      established = h.established;
      alive = h.alive;
      named = h.named;
      named_streams = h.named_streams;
      named_datagrams = h.named_datagrams;
      unjoined = h.unjoined;
      fault = h.fault;
    };
    read = λ ss bytes position f. f;
  }

  named-then : (j : ℕ) → list_any (λ (x : Admitted). x.session == j) (s.dispatched.datagrams ++ comer s.dispatched session index payload ∷ []) ≡ true → (j % 4) ≡ 0
  named-then j e = by (list_any (λ (x : Admitted). x.session == j) s.dispatched.datagrams) refl (session == j) refl (sym (list_any-append (λ (x : Admitted). x.session == j) s.dispatched.datagrams (comer s.dispatched session index payload ∷ [])) ∙ e)
    where
      by : (b : Bool) → list_any (λ (x : Admitted). x.session == j) s.dispatched.datagrams ≡ b → (c : Bool) → (session == j) ≡ c → (b || (c || false)) ≡ true → (j % 4) ≡ 0
      by true f c g e = h.named_datagrams j f
      by false f true g e = ap (λ i. i % 4) (sym (eqb-true session j g)) ∙ four
      by false f false g e = absurd (true≢false (sym e))

  keeps-joined : (x : SessionsNow) → map (λ (y : LiveNow). y.id) x.living ≡ map (λ (y : LiveNow). y.id) d.sessions.living → x.gone ≡ d.sessions.gone
      → WindowsFollow x.living table → WindowFollows x.early table (λ j. not (s.dispatched.is_established j)) → Keeps (record d { sessions = x }) (dated table.datagrams looked s)
  keeps-joined x ids gone ws early = record {
    control = h.control;
    encoder = h.encoder;
    decoder = h.decoder;
    settings = h.settings;
    queued = h.queued;
    held = h.held;
    living = ids ∙ h.living;
    windows = ws;
    early = early;
    gone = λ j e. h.gone j e ∙ ap (λ gs. is_some (end_in gs j)) (sym gone);
    gone_named = λ j e. h.gone_named j (ap (λ gs. is_some (end_in gs j)) (sym gone) ∙ e);
    closed = λ j e. h.closed j e ∙ ap (λ gs. closed_by j (end_in gs j)) (sym gone);
    established = h.established;
    alive = h.alive;
    named = h.named;
    named_streams = h.named_streams;
    named_datagrams = named-then;
    unjoined = h.unjoined;
    fault = h.fault;
  }

  gone-is : is_gone_now d.sessions session ≡ s.dispatched.is_gone session
  gone-is = gone-same d.sessions.gone session ∙ sym (h.gone session four)

  abbrev admitting_by : Option LiveNow → Bool → Admits
  admitting_by o gone = admit_by (with_datagram (here s.dispatched session index payload)) o gone d.sessions

  -- whether it has room
  abbrev room : Bool
  room = has_room s.dispatched session (map (λ (x : Admitted). x.session) s.dispatched.datagrams)

  room-is : (b : Bool) → s.dispatched.is_established session ≡ b → room ≡ room_of s.dispatched session index payload (λ j. if b then j == session else not (s.dispatched.is_established j))
  room-is b e = ap (λ (c : Bool). nat_lt (length (filter (λ other. if c then other == session else not (s.dispatched.is_established other)) (map (λ (x : Admitted). x.session) s.dispatched.datagrams))) 16) e
      ∙ room-same s.dispatched session index payload (λ j. if b then j == session else not (s.dispatched.is_established j))

  abbrev Answer : Admits → Bool → Type 0
  Answer x admitted = Placed x.sessions (place_now admitted session payload s)

  live-case : (y : LiveNow) → live_in d.sessions session ≡ Some y → (b : Bool) → room ≡ b → Answer (in_live (with_datagram (here s.dispatched session index payload)) y d.sessions) b
  live-case y found b e =
      let its = found-window s.dispatched session d.sessions.living y h.windows found in
      let lives : is_living s session ≡ true = lives-same d s h session (Some y) found in
      let established : s.dispatched.is_established session ≡ true = h.established session (h.alive session lives) ∙ lives in
      by b (sym (room-is true established) ∙ e) its.0 its.1 established
    where
      by : (b : Bool) → room_of s.dispatched session index payload (λ j. j == session) ≡ b → y.id ≡ session → WindowFollows y.window s.dispatched (λ j. j == session) → s.dispatched.is_established session ≡ true
          → Answer (in_live (with_datagram (here s.dispatched session index payload)) y d.sessions) b
      by false none is follows established =
          let full : is_full y.window.datagrams ≡ true = full-is s.dispatched session index payload y.window (λ j. j == session) follows ∙ ap not none in
          let stays : changed_live (live_taking s.dispatched session index payload) y.id d.sessions.living ≡ d.sessions.living =
          ap (λ i. changed_live (live_taking s.dispatched session index payload) i d.sessions.living) is
          ∙ unchanged d s h 0 session (live_taking s.dispatched session index payload) session d.sessions.living y found (ap (λ (x : Taken). record y { window = x.window }) (refused-is s.dispatched session index payload y.window full)) in
          subst (λ (xs : List LiveNow). Placed (record d.sessions { living = xs }) (dated s.dispatched.datagrams looked s)) (sym stays) dropped
      by true some is follows established = subst (λ i. Placed (with_live (live_taking s.dispatched session index payload) i d.sessions) (dated table.datagrams looked s)) (sym is) (record {
        keeps = keeps-joined (with_live (live_taking s.dispatched session index payload) session d.sessions) (ids-stay d s h 0 session (live_taking s.dispatched session index payload) (λ x. refl) session d.sessions.living) refl
            (windows-take s.dispatched session index payload d.sessions.living distinct some h.windows)
            (window-stays s.dispatched session index payload d.sessions.early (λ j. not (s.dispatched.is_established j)) (ap not established) h.early);
        read = λ ss bytes position f. readers-stay d s h 0 session (live_taking s.dispatched session index payload) (λ x. refl) session d.sessions.living ss bytes position f;
      })

  early-case : live_in d.sessions session ≡ None → s.dispatched.is_gone session ≡ false → (b : Bool) → room ≡ b
      → Answer (record { admission = (with_datagram (here s.dispatched session index payload) d.sessions.early).admission; sessions = record d.sessions { early = taken_in s.dispatched session index payload d.sessions.early } }) b
  early-case none alive b e =
      let unknown : s.dispatched.is_established session ≡ false = h.established session alive ∙ lives-same d s h session None none in
      by b (sym (room-is false unknown) ∙ e) unknown
    where
      by : (b : Bool) → room_of s.dispatched session index payload (λ j. not (s.dispatched.is_established j)) ≡ b → s.dispatched.is_established session ≡ false
          → Answer (record { admission = (with_datagram (here s.dispatched session index payload) d.sessions.early).admission; sessions = record d.sessions { early = taken_in s.dispatched session index payload d.sessions.early } }) b
      by false few unknown =
          let full : is_full d.sessions.early.datagrams ≡ true = full-is s.dispatched session index payload d.sessions.early (λ j. not (s.dispatched.is_established j)) h.early ∙ ap not few in
          subst (λ (x : Taken). Placed (record d.sessions { early = x.window }) (dated s.dispatched.datagrams looked s)) (sym (refused-is s.dispatched session index payload d.sessions.early full)) dropped
      by true some unknown = record {
        keeps = keeps-joined (record d.sessions { early = taken_in s.dispatched session index payload d.sessions.early }) refl refl
            (windows-stay s.dispatched session index payload d.sessions.living (found-any (is_live session) d.sessions.living None none) h.windows)
            (window-takes s.dispatched session index payload d.sessions.early (λ j. not (s.dispatched.is_established j)) (ap not unknown) some h.early);
        read = λ ss bytes position f. f;
      }

  pub admits : Answer (admit_datagram_now session payload d.sessions) (is_admitted s.dispatched session)
  admits = by (live_in d.sessions session) refl (s.dispatched.is_gone session) refl
    where
      by : (o : Option LiveNow) → live_in d.sessions session ≡ o → (g : Bool) → s.dispatched.is_gone session ≡ g → Answer (admit_datagram_now session payload d.sessions) (not (s.dispatched.is_gone session) && room)
      by (Some y) e true f = absurd (true≢false (sym f ∙ h.alive session (lives-same d s h session (Some y) e)))
      by (Some y) e false f = subst (λ (b : Bool). Answer (admit_datagram_now session payload d.sessions) (not b && room)) (sym f)
          (subst (λ (o : Option LiveNow). Answer (admitting_by o (is_gone_now d.sessions session)) room) (sym e) (live-case y e room refl))
      by None e true f = subst (λ (b : Bool). Answer (admit_datagram_now session payload d.sessions) (not b && room)) (sym f)
          (subst₂ (λ (o : Option LiveNow) (g : Bool). Answer (admitting_by o g) false) (sym e) (sym (gone-is ∙ f)) dropped)
      by None e false f = subst (λ (b : Bool). Answer (admit_datagram_now session payload d.sessions) (not b && room)) (sym f)
          (subst₂ (λ (o : Option LiveNow) (g : Bool). Answer (admitting_by o g) room) (sym e) (sym (gone-is ∙ f)) (early-case e f room refl))
