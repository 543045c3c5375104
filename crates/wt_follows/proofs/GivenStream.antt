-- A stream that waited is given to its session's application: what is kept then, before the call's record is in the log.
use Rattle.std.proofs.Common.{◌∙◌, ◌≡◌, ◌%◌, ◌+◌, ◌∷◌, Bool, List, Option, Some, [], ap, arith, cond, false, filter, find, is_some, map, refl, subst, sym, true, ℕ}
use Rattle.std.proofs.lemmas.Bool.{and_parts, eqb-true, or_from, or_parts, true≢false}
use Rattle.std.specs.List.{list_any}
use Rattle.std.specs.Prelude.{◌&&◌, ◌==◌, ◌||◌, if◌then◌else◌, not, unwrap_or}
use Rattle.wt_follows.proofs.Admits.{ids-stay, readers-stay}
use Rattle.wt_follows.proofs.Lifted.{lifted}
use Rattle.wt_follows.proofs.Lists.{all-pass, any-filter, any-map, distinct-sub, distinct-with, filter-swap, flip, in-with, none-filtered, none-left, or-true, refuted, same, without-first}
use Rattle.wt_follows.proofs.OwnRequest.{peers-kept}
use Rattle.wt_follows.specs.Roles.{AreDistinct, IsSessions, Roles, is_arriving, is_in, is_living, is_member, waits}
use Rattle.wt_follows.specs.Tie.{Amid, AtHeader, Keeps, Placed, There, WindowFollows, WindowsFollow, WorkAmid, goes_on_at, header_verdict, member_position}
use Rattle.wt_kept.specs.Calling.{on_sessions}
use Rattle.wt_kept.specs.Kept.{DispatchedNow, DriverNow, LiveNow}
use Rattle.wt_kept.specs.Windows.{changed_live, given_stream, with_live, without_stream}
use Rattle.wt_turn.specs.Streams.{contents, exists, local_uni}
use Rattle.wt_turn.specs.Unread.{AtOffset, GivenUp, ReadPosition}
use Rattle.wt_sessions.specs.DriverState.{DriverState}
use Rattle.wt_sessions.specs.Moment.{is_peers}
use Rattle.wt_sessions.specs.Step.{after_call, with_member_now}
use Rattle.wt_sessions.specs.StreamTable.{Waiting, with_id}
use Rattle.wt_turn.specs.Log.{Log, StreamAccepted}
use Rattle.wt_turn.specs.declared.action.Action.{Action}
use Rattle.wt_wire.specs.declared.side.Side.{Side}
use Rattle.wt_wire.specs.declared.side.Side.TheVariants.{Client, Server}

-- ---- the one that is found is the only one of its id

module _ {X : Type 0} (key session_of : X → ℕ) (test : X → Bool) (w : X) where
  pub found-among : (xs : List X) → find test xs ≡ Some w → is_in (key w) (map key xs) ≡ true
  found-among [] e = absurd cc
  found-among (x ∷ xs) e = by (test x) e (found-among xs)
    where
      by : (b : Bool) → cond b (Some x) (find test xs) ≡ Some w → (find test xs ≡ Some w → is_in (key w) (map key xs) ≡ true) → ((key x == key w) || is_in (key w) (map key xs)) ≡ true
      by true g again = ap (λ b. b || is_in (key w) (map key xs)) (ap (λ (o : Option X). key x == key (unwrap_or o x)) (sym g) ∙ same (key x))
      by false g again = ap (λ b. (key x == key w) || b) (again g) ∙ or-true (key x == key w)

  -- where sessions pass a test that its session doesn't, it isn't among theirs
  pub lone : (q : ℕ → Bool) → q (session_of w) ≡ false → (xs : List X) → AreDistinct (map key xs) → find test xs ≡ Some w → list_any (λ (x : X). key x == key w) (filter (λ (x : X). q (session_of x)) xs) ≡ false
  lone q miss [] d e = refl
  lone q miss (x ∷ xs) d e = by (test x) e (lone q miss xs d.1)
    where
      rest : (b : Bool) → q (session_of x) ≡ b → (key x == key w) ≡ false → list_any (λ (y : X). key y == key w) (filter (λ (y : X). q (session_of y)) xs) ≡ false
          → list_any (λ (y : X). key y == key w) (cond b (x ∷ filter (λ (y : X). q (session_of y)) xs) (filter (λ (y : X). q (session_of y)) xs)) ≡ false
      rest true f other again = or_from (key x == key w) _ other again
      rest false f other again = again

      by : (b : Bool) → cond b (Some x) (find test xs) ≡ Some w → (find test xs ≡ Some w → list_any (λ (y : X). key y == key w) (filter (λ (y : X). q (session_of y)) xs) ≡ false)
          → list_any (λ (y : X). key y == key w) (cond (q (session_of x)) (x ∷ filter (λ (y : X). q (session_of y)) xs) (filter (λ (y : X). q (session_of y)) xs)) ≡ false
      by true g again =
          let it : x ≡ w = ap (λ (o : Option X). unwrap_or o x) g in
          (λ i. list_any (λ (y : X). key y == key w) (cond ((ap (λ (y : X). q (session_of y)) it ∙ miss) i) (x ∷ filter (λ (y : X). q (session_of y)) xs) (filter (λ (y : X). q (session_of y)) xs)))
          ∙ none-filtered (λ (y : X). key y == key w) (λ (y : X). q (session_of y)) xs (sym (any-map key (key w) xs) ∙ (ap (λ (y : X). is_in (key y) (map key xs)) (sym it) ∙ d.0))
      by false g again = rest (q (session_of x)) refl
          (refuted (key x == key w) (λ f. true≢false (sym (found-among xs g) ∙ (ap (λ (i : ℕ). is_in i (map key xs)) (sym (eqb-true (key x) (key w) f)) ∙ d.0)))) (again g)

  -- without it, nothing is left out of theirs
  pub others-stay : (q : ℕ → Bool) → q (session_of w) ≡ false → (xs : List X) → AreDistinct (map key xs) → find test xs ≡ Some w
      → filter (λ (x : X). q (session_of x)) (filter (λ (x : X). not (key w == key x)) xs) ≡ filter (λ (x : X). q (session_of x)) xs
  others-stay q miss xs distinct found =
      filter-swap (λ (x : X). q (session_of x)) (λ (x : X). not (key w == key x)) xs
      ∙ all-pass (λ (x : X). not (key w == key x)) (filter (λ (x : X). q (session_of x)) xs)
      ((λ i. list_any (λ (x : X). back (key w == key x) i) (filter (λ (x : X). q (session_of x)) xs))
      ∙ ((λ i. list_any (λ (x : X). flip (key w) (key x) i) (filter (λ (x : X). q (session_of x)) xs)) ∙ lone q miss xs distinct found))
    where
      back : (b : Bool) → not (not b) ≡ b
      back true = refl
      back false = refl

-- This end's unidirectional streams aren't the peer's.
own-apart : (side : Side) (id : ℕ) → is_peers side id ≡ true → (id == local_uni side) ≡ false
own-apart side id e = refuted (id == local_uni side) (λ f. true≢false (sym e ∙ (ap (is_peers side) (eqb-true id (local_uni side) f) ∙ none side)))
  where
    none : (side : Side) → is_peers side (local_uni side) ≡ false
    none Client = refl
    none Server = refl

-- ---- what is kept

module _ (side : Side) (d : DriverNow) (log : Log) (s : DriverState) (position : ℕ → ReadPosition) (uncollected : List Action) (a : Amid side d log s [] position uncollected) (session : ℕ) (lives : is_living s session ≡ true)
    (test : Waiting → Bool) (w : Waiting) (found : find test s.dispatched.streams ≡ Some w) (its : w.session ≡ session) (peers : is_peers side w.id ≡ true) where
  abbrev id : ℕ
  id = w.id

  abbrev left : List Waiting
  left = filter (λ (x : Waiting). not (id == x.id)) s.dispatched.streams

  abbrev members_then : ℕ → List ℕ
  members_then = with_member_now session id s.dispatched.members

  -- the state then
  abbrev z : DriverState
  z = after_call (StreamAccepted id session) s

  abbrev kept : DispatchedNow
  kept = d.work.dispatched

  keeps : Keeps kept s
  keeps = a.work.keeps

  roles : Roles s
  roles = a.work.roles

  waited : waits s id ≡ true
  waited = sym (any-map (λ (x : Waiting). x.id) id s.dispatched.streams) ∙ found-among (λ (x : Waiting). x.id) (λ (x : Waiting). x.session) test w s.dispatched.streams found

  still-waits : (j : ℕ) → waits z j ≡ true → waits s j ≡ true
  still-waits j e = any-filter (λ (x : Waiting). x.id == j) (λ (x : Waiting). not (id == x.id)) s.dispatched.streams e

  waits-other : (j : ℕ) → waits z j ≡ true → (id == j) ≡ false
  waits-other j e = refuted (id == j) (λ f. true≢false (sym e ∙ none-left (λ (x : Waiting). x.id == j) (λ (x : Waiting). not (id == x.id))
      (λ x g. ap (λ i. not (i == x.id)) (eqb-true id j f) ∙ (ap (λ i. not (j == i)) (eqb-true x.id j g) ∙ ap not (same j))) s.dispatched.streams))

  established : s.dispatched.is_established session ≡ true
  established = keeps.established session (keeps.alive session lives) ∙ lives

  -- ---- windows

  -- where its session isn't among theirs, nothing is left out
  untouched-streams : (q : ℕ → Bool) → q session ≡ false → filter (λ (x : Waiting). q x.session) left ≡ filter (λ (x : Waiting). q x.session) s.dispatched.streams
  untouched-streams q miss = others-stay (λ (x : Waiting). x.id) (λ (x : Waiting). x.session) test w q (ap q its ∙ miss) s.dispatched.streams roles.waiting found

  other-window : (v : _) (q : ℕ → Bool) → q session ≡ false → WindowFollows v s.dispatched q → WindowFollows v z.dispatched q
  other-window v q miss h = record { streams = h.streams ∙ sym (untouched-streams q miss); datagrams = h.datagrams }

  own-window : (x : LiveNow) → x.id ≡ session → WindowFollows x.window s.dispatched (λ j. j == x.id) → WindowFollows (given_stream id x).window z.dispatched (λ j. j == x.id)
  own-window x here h = record {
    streams = ap (λ (xs : List Waiting). without_of xs) h.streams
        ∙ (without-first (λ (v : Waiting). v.id) id theirs (distinct-sub (λ (v : Waiting). v.id) (λ (v : Waiting). v.session == x.id) s.dispatched.streams roles.waiting)
        ∙ ((λ i. filter (λ (v : Waiting). not (flip v.id id i)) theirs)
        ∙ sym (filter-swap (λ (v : Waiting). v.session == x.id) (λ (v : Waiting). not (id == v.id)) s.dispatched.streams)));
    datagrams = h.datagrams;
  }
    where
      theirs : List Waiting
      theirs = filter (λ (v : Waiting). v.session == x.id) s.dispatched.streams

      without_of : List Waiting → List Waiting
      without_of xs = without_stream id xs

  windows-others : (xs : List LiveNow) → is_in session (map (λ (x : LiveNow). x.id) xs) ≡ false → WindowsFollow xs s.dispatched → WindowsFollow xs z.dispatched
  windows-others [] miss h = tt
  windows-others (x ∷ xs) miss h =
      let parts = or_parts (x.id == session) (is_in session (map (λ (y : LiveNow). y.id) xs)) miss in
      (other-window x.window (λ j. j == x.id) (flip session x.id ∙ parts.0) h.0, h.1 ∙ sym (other-members x.id (flip session x.id ∙ parts.0)), windows-others xs parts.1 h.2)
    where
      other-members : (j : ℕ) → (session == j) ≡ false → members_then j ≡ s.dispatched.members j
      other-members j e = ap (λ (b : Bool). if b then with_id id (s.dispatched.members j) else s.dispatched.members j) e

  windows-given : (xs : List LiveNow) → AreDistinct (map (λ (x : LiveNow). x.id) xs) → WindowsFollow xs s.dispatched → WindowsFollow (changed_live (given_stream id) session xs) z.dispatched
  windows-given [] apart h = tt
  windows-given (x ∷ xs) apart h = by (x.id == session) refl (windows-given xs apart.1 h.2)
    where
      by : (b : Bool) → (x.id == session) ≡ b → WindowsFollow (changed_live (given_stream id) session xs) z.dispatched
          → WindowsFollow (if b then given_stream id x ∷ xs else x ∷ changed_live (given_stream id) session xs) z.dispatched
      by true e again =
          let here : x.id ≡ session = eqb-true x.id session e in (
            own-window x here h.0,
            ap (with_id id) h.1 ∙ sym (ap (λ (b : Bool). if b then with_id id (s.dispatched.members x.id) else s.dispatched.members x.id) (flip session x.id ∙ e)),
            windows-others xs (ap (λ j. is_in j (map (λ (y : LiveNow). y.id) xs)) (sym here) ∙ apart.0) h.2,
          )
      by false e again = (
        other-window x.window (λ j. j == x.id) (flip session x.id ∙ e) h.0,
        h.1 ∙ sym (ap (λ (b : Bool). if b then with_id id (s.dispatched.members x.id) else s.dispatched.members x.id) (flip session x.id ∙ e)),
        again,
      )

  abbrev kept_then : DispatchedNow
  kept_then = record kept { sessions = with_live (given_stream id) session kept.sessions }

  distinct-living : AreDistinct (map (λ (x : LiveNow). x.id) kept.sessions.living)
  distinct-living = subst AreDistinct (sym keeps.living) roles.living

  keeps-then : Keeps kept_then z
  keeps-then = record {
    control = keeps.control;
    encoder = keeps.encoder;
    decoder = keeps.decoder;
    settings = keeps.settings;
    queued = keeps.queued;
    held = keeps.held;
    living = ids-stay kept s keeps id session (given_stream id) (λ x. refl) session kept.sessions.living ∙ keeps.living;
    windows = windows-given kept.sessions.living distinct-living keeps.windows;
    early = other-window kept.sessions.early (λ j. not (s.dispatched.is_established j)) (ap not established) keeps.early;
    gone = keeps.gone;
    gone_named = keeps.gone_named;
    closed = keeps.closed;
    established = keeps.established;
    alive = keeps.alive;
    named = keeps.named;
    named_streams = λ j e. keeps.named_streams j (any-filter (λ (x : Waiting). x.session == j) (λ (x : Waiting). not (id == x.id)) s.dispatched.streams e);
    named_datagrams = keeps.named_datagrams;
    unjoined = λ j e. ap (λ (b : Bool). if b then with_id id (s.dispatched.members j) else s.dispatched.members j)
        (refuted (session == j) (λ f. true≢false (sym established ∙ (ap s.dispatched.is_established (eqb-true session j f) ∙ e)))) ∙ keeps.unjoined j e;
    fault = keeps.fault;
  }

  -- ---- places

  -- what holds of the stream and of those that joined before holds of all that joined
  joined-by : (P : ℕ → ℕ → Type 0) → P id session → ((j k : ℕ) → is_member s k j ≡ true → P j k) → (j k : ℕ) → is_member z k j ≡ true → P j k
  joined-by P here there j k e = by (session == k) refl e
    where
      by : (b : Bool) → (session == k) ≡ b → is_in j (if b then with_id id (s.dispatched.members k) else s.dispatched.members k) ≡ true → P j k
      by false f g = there j k g
      by true f g = inner (id == j) refl (sym (in-with j id (s.dispatched.members k)) ∙ g)
        where
          inner : (b : Bool) → (id == j) ≡ b → (b || is_in j (s.dispatched.members k)) ≡ true → P j k
          inner true h i = subst (λ n. P n k) (eqb-true id j h) (subst (λ n. P id n) (eqb-true session k f) here)
          inner false h i = there j k i

  -- another stream joined where it did before
  joined-other : (j k : ℕ) → (id == j) ≡ false → is_member z k j ≡ is_member s k j
  joined-other j k e = by (session == k)
    where
      by : (b : Bool) → is_in j (if b then with_id id (s.dispatched.members k) else s.dispatched.members k) ≡ is_in j (s.dispatched.members k)
      by false = refl
      by true = in-with j id (s.dispatched.members k) ∙ ap (λ b. b || is_in j (s.dispatched.members k)) e

  arrives-other : (j : ℕ) → is_arriving s j ≡ true → (id == j) ≡ false
  arrives-other j e = refuted (id == j) (λ f. true≢false (sym e ∙ (ap (is_arriving s) (sym (eqb-true id j f)) ∙ (roles.waiting_alone id waited).arriving)))

  roles-then : Roles z
  roles-then = record {
    unis = roles.unis;
    bis = roles.bis;
    kinds = roles.kinds;
    arriving = λ j e. let p = roles.arriving j e in record {
      critical = p.critical;
      held = p.held;
      living = p.living;
      waits = none-filtered (λ (x : Waiting). x.id == j) (λ (x : Waiting). not (id == x.id)) s.dispatched.streams p.waits;
      member = λ k. joined-other j k (arrives-other j e) ∙ p.member k;
      gone = p.gone;
    };
    living = roles.living;
    living_alone = roles.living_alone;
    requests_alone = roles.requests_alone;
    waiting = distinct-sub (λ (x : Waiting). x.id) (λ (x : Waiting). not (id == x.id)) s.dispatched.streams roles.waiting;
    waiting_alone = λ j e. let p = roles.waiting_alone j (still-waits j e) in record { arriving = p.arriving; critical = p.critical; held = p.held; living = p.living };
    waiting_unjoined = λ j k e. joined-other j k (waits-other j e) ∙ roles.waiting_unjoined j k (still-waits j e);
    members_alone = joined-by (λ j k. IsSessions z j) (let p = roles.waiting_alone id waited in record { arriving = p.arriving; critical = p.critical; held = p.held; living = p.living })
        (λ j k e. let p = roles.members_alone j k e in record { arriving = p.arriving; critical = p.critical; held = p.held; living = p.living });
    members_once = λ j one other e f. once j one other (id == j) refl e f;
    members_distinct = λ k. distinct-by k (session == k);
    held = roles.held;
  }
    where
      at-session : (k : ℕ) → is_member z k id ≡ true → session ≡ k
      at-session k e = by (session == k) refl e
        where
          by : (b : Bool) → (session == k) ≡ b → is_in id (if b then with_id id (s.dispatched.members k) else s.dispatched.members k) ≡ true → session ≡ k
          by true f g = eqb-true session k f
          by false f g = absurd (true≢false (sym g ∙ roles.waiting_unjoined id k waited))

      once : (j one other : ℕ) (b : Bool) → (id == j) ≡ b → is_member z one j ≡ true → is_member z other j ≡ true → one ≡ other
      once j one other true g e f =
          sym (at-session one (ap (is_member z one) (eqb-true id j g) ∙ e)) ∙ at-session other (ap (is_member z other) (eqb-true id j g) ∙ f)
      once j one other false g e f = roles.members_once j one other (sym (joined-other j one g) ∙ e) (sym (joined-other j other g) ∙ f)

      distinct-by : (k : ℕ) (b : Bool) → AreDistinct (if b then with_id id (s.dispatched.members k) else s.dispatched.members k)
      distinct-by k true = distinct-with id (s.dispatched.members k) (roles.waiting_unjoined id k waited) (roles.members_distinct k)
      distinct-by k false = roles.members_distinct k

  header : AtHeader log (position id) id
  header = a.work.placed.headers id (ap (λ b. b || (is_in id s.dispatched.held && not (s.dispatched.is_established id))) waited)

  -- its bytes come after its header
  its-position : position id ≡ member_position side log id
  its-position =
      let u = a.work.placed.untouched id waited in
      header.at_offset
      ∙ (let e : header.offset ≡ header.offset + 0 = omega arith in ap AtOffset e)
      ∙ sym (λ i. if u.0 i then GivenUp else AtOffset ((if peers i then unwrap_or (header.verdict i) 0 else 0) + u.1 i))

  placed-then : Placed side z log position
  placed-then = let p = a.work.placed in record {
    headers = λ j e. p.headers j (fewer (waits z j) (waits s j) (is_in j s.dispatched.held && not (s.dispatched.is_established j)) (still-waits j) e);
    members = λ j k e. joined-by (λ n m. position n ≡ member_position side log n) its-position p.members j k e;
    heads = λ j k e. joined-by (λ n m. is_peers side n ≡ true → is_some (goes_on_at (header_verdict log n)) ≡ true) (λ f. ap is_some header.verdict) p.heads j k e;
    untouched = λ j e. p.untouched j (still-waits j e);
    arriving = p.arriving;
    unopened = p.unopened;
  }
    where
      fewer : (b c h : Bool) → (b ≡ true → c ≡ true) → (b || h) ≡ true → (c || h) ≡ true
      fewer true c h f e = ap (λ x. x || h) (f refl)
      fewer false c h f e = ap (λ x. c || x) e ∙ or-true c

  there-then : There side z log
  there-then = let t = a.work.there in record {
    unis = t.unis;
    bis = t.bis;
    arriving = t.arriving;
    waiting = λ j e. t.waiting j (still-waits j e);
    living = t.living;
    held = t.held;
    members = joined-by (λ j k. exists side log j ≡ true) (and_parts (exists side log id) (not (local_uni side == id % 4)) (t.waiting id waited)).0 t.members;
    critical = t.critical;
    gone = t.gone;
    own = λ k. joined-other (local_uni side) k (own-apart side id peers) ∙ t.own k;
    kinds = t.kinds;
    few = t.few;
    peers = peers-kept side s z (λ j e. e) (λ j e. e) (λ j e. e) still-waits t.peers;
  }

  work-then : WorkAmid side (record d.work { dispatched = kept_then }) log z [] position uncollected
  work-then = record {
    transport = a.work.transport;
    is_open_same = a.work.is_open_same;
    keeps = keeps-then;
    roles = roles-then;
    placed = placed-then;
    there = there-then;
    sends = record { arriving = λ j e. refl; waiting = λ j e. refl; members = λ j k e f. refl; living = a.work.sends.living; own = a.work.sends.own };
    control = a.work.control;
    sessions = λ e. readers-stay kept s keeps id session (given_stream id) (λ x. refl) session kept.sessions.living s.sessions (contents log) position (a.work.sessions e);
  }

  -- the session's application has the stream
  pub given-amid : Amid side (on_sessions (with_live (given_stream w.id) session) d) log (after_call (StreamAccepted w.id session) s) [] position uncollected
  given-amid = lifted side d log s [] position uncollected a (record d.work { dispatched = kept_then }) z [] position uncollected work-then (λ kind. refl) refl refl refl (λ e. e) (λ j e. refl) refl (λ c n. (n, refl))
