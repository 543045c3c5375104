-- A call takes the first datagram that waits for its session: the driver follows the log with the call, and rests.
use Rattle.std.proofs.Common.{◌∙◌, ◌≡◌, ◌∷◌, Bool, List, Option, Some, [], ap, cond, false, filter, find, map, refl, subst, sym, true, ℕ}
use Rattle.std.proofs.lemmas.Bool.{eqb-true, or_parts}
use Rattle.std.specs.List.{list_any}
use Rattle.std.specs.Prelude.{◌==◌, if◌then◌else◌, not, unwrap_or}
use Rattle.wt_follows.proofs.AcceptCall.{changed-read}
use Rattle.wt_follows.proofs.Admits.{ids-stay, readers-stay}
use Rattle.wt_follows.proofs.DistinctDatagrams.{datagrams-distinct}
use Rattle.wt_follows.proofs.GivenStream.{others-stay}
use Rattle.wt_follows.proofs.Lifted.{lifted}
use Rattle.wt_follows.proofs.Lists.{all-pass, any-filter, any-map, distinct-sub, filter-swap, flip, same}
use Rattle.wt_follows.proofs.RecordTold.{told-amid}
use Rattle.wt_follows.proofs.RestingCall.{resting-call-follows}
use Rattle.wt_follows.proofs.SameStreams.{dated-amid}
use Rattle.wt_follows.specs.Roles.{AreDistinct, is_in, is_living}
use Rattle.wt_follows.specs.Tie.{Amid, Follows, Keeps, WindowFollows, WindowsFollow, WorkAmid}
use Rattle.wt_kept.specs.Calling.{on_sessions}
use Rattle.wt_kept.specs.Kept.{DispatchedNow, DriverNow, LiveNow, WaitingDatagram}
use Rattle.wt_kept.specs.Windows.{after_first, changed_live, given_datagram, with_live}
use Rattle.wt_turn.specs.Streams.{contents}
use Rattle.wt_turn.specs.Unread.{ReadPosition}
use Rattle.wt_sessions.specs.DriverState.{DriverState, state_of}
use Rattle.wt_sessions.specs.Effect.{log_call}
use Rattle.wt_sessions.specs.Moment.{Fits, MayRecord}
use Rattle.wt_sessions.specs.Step.{after_call}
use Rattle.wt_sessions.specs.StreamTable.{Admitted}
use Rattle.wt_turn.specs.Log.{DatagramReceived, Log}
use Rattle.wt_turn.specs.declared.action.Action.{Action}
use Rattle.wt_wire.specs.declared.side.Side.{Side}

-- a datagram that waits, as a window has it
abbrev as_waiting : Admitted → WaitingDatagram
as_waiting x = record { session = x.session; payload = x.payload }

-- what is found is the first of all that pass
found-first : {X : Type 0} (test : X → Bool) (a : X) (xs : List X) → find test xs ≡ Some a → filter test xs ≡ a ∷ after_first (filter test xs)
found-first test a [] e = absurd cc
found-first {X} test a (x ∷ xs) e = by (test x) e (found-first test a xs)
  where
    by : (b : Bool) → cond b (Some x) (find test xs) ≡ Some a → (find test xs ≡ Some a → filter test xs ≡ a ∷ after_first (filter test xs))
        → cond b (x ∷ filter test xs) (filter test xs) ≡ a ∷ after_first (cond b (x ∷ filter test xs) (filter test xs))
    by true g again = ap (λ (o : Option X). unwrap_or o x ∷ filter test xs) g
    by false g again = again g

after-map : {X Y : Type 0} (h : X → Y) (xs : List X) → after_first (map h xs) ≡ map h (after_first xs)
after-map h [] = refl
after-map h (x ∷ xs) = refl

module _ (side : Side) (d : DriverNow) (log : Log) (s : DriverState) (position : ℕ → ReadPosition) (uncollected : List Action) (a : Amid side d log s [] position uncollected) (session : ℕ) (lives : is_living s session ≡ true)
    (w : Admitted) (found : find (λ (x : Admitted). x.session == session) s.dispatched.datagrams ≡ Some w) (its : w.session ≡ session) (distinct : AreDistinct (map (λ (x : Admitted). x.index) s.dispatched.datagrams)) where
  abbrev z : DriverState
  z = after_call (DatagramReceived w.index) s

  abbrev kept : DispatchedNow
  kept = d.work.dispatched

  keeps : Keeps kept s
  keeps = a.work.keeps

  established : s.dispatched.is_established session ≡ true
  established = keeps.established session (keeps.alive session lives) ∙ lives

  other-window : (v : _) (q : ℕ → Bool) → q session ≡ false → WindowFollows v s.dispatched q → WindowFollows v z.dispatched q
  other-window v q miss h = record {
    streams = h.streams;
    datagrams = h.datagrams ∙ ap (λ (xs : List Admitted). map as_waiting xs)
        (sym (others-stay (λ (x : Admitted). x.index) (λ (x : Admitted). x.session) (λ (x : Admitted). x.session == session) w q (ap q its ∙ miss) s.dispatched.datagrams distinct found));
  }

  -- the session's without it are those after the first
  its-rest : filter (λ (x : Admitted). x.session == session) (filter (λ (x : Admitted). not (w.index == x.index)) s.dispatched.datagrams) ≡ after_first (filter (λ (x : Admitted). x.session == session) s.dispatched.datagrams)
  its-rest =
      filter-swap (λ (x : Admitted). x.session == session) (λ (x : Admitted). not (w.index == x.index)) s.dispatched.datagrams
      ∙ by (filter (λ (x : Admitted). x.session == session) s.dispatched.datagrams) (found-first (λ (x : Admitted). x.session == session) w s.dispatched.datagrams found)
      (distinct-sub (λ (x : Admitted). x.index) (λ (x : Admitted). x.session == session) s.dispatched.datagrams distinct)
    where
      back : (b : Bool) → not (not b) ≡ b
      back true = refl
      back false = refl

      by : (xs : List Admitted) → xs ≡ w ∷ after_first xs → AreDistinct (map (λ (x : Admitted). x.index) xs) → filter (λ (x : Admitted). not (w.index == x.index)) xs ≡ after_first xs
      by xs e apart =
          let alone : AreDistinct (map (λ (x : Admitted). x.index) (w ∷ after_first xs)) = subst (λ (ys : List Admitted). AreDistinct (map (λ (x : Admitted). x.index) ys)) e apart in
          ap (λ (ys : List Admitted). filter (λ (x : Admitted). not (w.index == x.index)) ys) e
          ∙ ((λ i. cond (not (same w.index i)) (w ∷ filter (λ (x : Admitted). not (w.index == x.index)) (after_first xs)) (filter (λ (x : Admitted). not (w.index == x.index)) (after_first xs)))
          ∙ all-pass (λ (x : Admitted). not (w.index == x.index)) (after_first xs)
          ((λ i. list_any (λ (x : Admitted). back (w.index == x.index) i) (after_first xs)) ∙ ((λ i. list_any (λ (x : Admitted). flip w.index x.index i) (after_first xs))
          ∙ (sym (any-map (λ (x : Admitted). x.index) w.index (after_first xs)) ∙ alone.0))))

  own-window : (x : LiveNow) → x.id ≡ session → WindowFollows x.window s.dispatched (λ j. j == x.id) → WindowFollows (given_datagram x).window z.dispatched (λ j. j == x.id)
  own-window x here h = record {
    streams = h.streams;
    datagrams = ap (λ (ys : List WaitingDatagram). after_first ys) h.datagrams
        ∙ (after-map as_waiting (filter (λ (v : Admitted). v.session == x.id) s.dispatched.datagrams)
        ∙ ap (λ (ys : List Admitted). map as_waiting ys) (subst (λ k. after_first (filter (λ (v : Admitted). v.session == k) s.dispatched.datagrams) ≡ filter (λ (v : Admitted). v.session == k) (filter (λ (v : Admitted). not (w.index == v.index)) s.dispatched.datagrams)) (sym here) (sym its-rest)));
  }

  windows-others : (xs : List LiveNow) → is_in session (map (λ (x : LiveNow). x.id) xs) ≡ false → WindowsFollow xs s.dispatched → WindowsFollow xs z.dispatched
  windows-others [] miss h = tt
  windows-others (x ∷ xs) miss h =
      let parts = or_parts (x.id == session) (is_in session (map (λ (y : LiveNow). y.id) xs)) miss in
      (other-window x.window (λ j. j == x.id) (flip session x.id ∙ parts.0) h.0, h.1, windows-others xs parts.1 h.2)

  windows-given : (xs : List LiveNow) → AreDistinct (map (λ (x : LiveNow). x.id) xs) → WindowsFollow xs s.dispatched → WindowsFollow (changed_live given_datagram session xs) z.dispatched
  windows-given [] apart h = tt
  windows-given (x ∷ xs) apart h = by (x.id == session) refl (windows-given xs apart.1 h.2)
    where
      by : (b : Bool) → (x.id == session) ≡ b → WindowsFollow (changed_live given_datagram session xs) z.dispatched
          → WindowsFollow (if b then given_datagram x ∷ xs else x ∷ changed_live given_datagram session xs) z.dispatched
      by true e again =
          let here : x.id ≡ session = eqb-true x.id session e in
          (own-window x here h.0, h.1, windows-others xs (ap (λ j. is_in j (map (λ (y : LiveNow). y.id) xs)) (sym here) ∙ apart.0) h.2)
      by false e again = (other-window x.window (λ j. j == x.id) (flip session x.id ∙ e) h.0, h.1, again)

  abbrev kept_then : DispatchedNow
  kept_then = record kept { sessions = with_live given_datagram session kept.sessions }

  keeps-then : Keeps kept_then z
  keeps-then = record {
    control = keeps.control;
    encoder = keeps.encoder;
    decoder = keeps.decoder;
    settings = keeps.settings;
    queued = keeps.queued;
    held = keeps.held;
    living = ids-stay kept s keeps w.index session given_datagram (λ x. refl) session kept.sessions.living ∙ keeps.living;
    windows = windows-given kept.sessions.living (subst AreDistinct (sym keeps.living) a.work.roles.living) keeps.windows;
    early = other-window kept.sessions.early (λ j. not (s.dispatched.is_established j)) (ap not established) keeps.early;
    gone = keeps.gone;
    gone_named = keeps.gone_named;
    closed = keeps.closed;
    established = keeps.established;
    alive = keeps.alive;
    named = keeps.named;
    named_streams = keeps.named_streams;
    named_datagrams = λ j e. keeps.named_datagrams j (any-filter (λ (x : Admitted). x.session == j) (λ (x : Admitted). not (w.index == x.index)) s.dispatched.datagrams e);
    unjoined = keeps.unjoined;
    fault = keeps.fault;
  }

  work-then : WorkAmid side (record d.work { dispatched = kept_then }) log z [] position uncollected
  work-then = dated-amid side d.work log s [] position uncollected a.work (filter (λ (x : Admitted). not (w.index == x.index)) s.dispatched.datagrams) s.progress kept_then keeps-then (λ e. a.work.control e)
      (λ e. readers-stay kept s keeps w.index session given_datagram (λ x. refl) session kept.sessions.living s.sessions (contents log) position (a.work.sessions e))

  -- the session's application has the datagram
  pub received-amid : Amid side (on_sessions (with_live given_datagram session) d) log (after_call (DatagramReceived w.index) s) [] position uncollected
  received-amid = lifted side d log s [] position uncollected a (record d.work { dispatched = kept_then }) z [] position uncollected work-then (λ kind. refl) refl refl refl (λ e. e) (λ j e. refl) refl (λ c n. (n, refl))

module _ (side : Side) (d : DriverNow) (log : Log) (uncollected : List Action) (f : Follows side d log uncollected) (fits : Fits side log) (session : ℕ) (lives : is_living (state_of side log) session ≡ true)
    (w : Admitted) (found : find (λ (x : Admitted). x.session == session) (state_of side log).dispatched.datagrams ≡ Some w) (its : w.session ≡ session)
    (recorded : MayRecord side log (DatagramReceived w.index)) where
  abbrev received : DriverState
  received = after_call (DatagramReceived w.index) (state_of side log)

  -- the driver follows the log with the call, and rests
  pub receive-follows : Follows side (on_sessions (with_live given_datagram session) d) (log_call side log [] (DatagramReceived w.index)) uncollected
  receive-follows =
      resting-call-follows side log (DatagramReceived w.index) fits recorded d uncollected f (on_sessions (with_live given_datagram session) d).work refl
      (changed-read f.position (contents log) given_datagram (λ x. refl) session d.work.dispatched.sessions.living) received refl
      (record { unis = refl; bis = refl; sessions = refl; control = refl; encoder = refl; decoder = refl; progress = refl; sent = refl; is_open = refl })
      (told-amid side log (DatagramReceived w.index) (record { gives = λ k. refl; reads = λ k. refl; resets = λ k. refl; priorities = λ k. refl }) (on_sessions (with_live given_datagram session) d) received f.position uncollected
      (received-amid side d log (state_of side log) f.position uncollected f.amid session lives w found its (datagrams-distinct side log)))
