-- What the reader of one session's stream changes in what is kept: its reader alone.
use Rattle.std.proofs.Common.{ap₂, ◌∙◌, ◌≡◌, ◌∷◌, Bool, List, None, Option, Some, [], ap, cond, false, find, map, option_map, refl, subst, sym, true, ℕ}
use Rattle.std.proofs.lemmas.Bool.{eqb-true, true≢false}
use Rattle.std.specs.Prelude.{◌==◌, if◌then◌else◌, is_some, unwrap_or}
use Rattle.wt_follows.proofs.Lists.{any-map, flip, same, same-parts}
use Rattle.wt_follows.proofs.Moved.{Elsewhere, sessions-moved}
use Rattle.wt_follows.specs.Roles.{AreDistinct, is_in}
use Rattle.wt_follows.specs.Tie.{Keeps, ReaderAt, SessionsFollow, WindowsFollow}
use Rattle.wt_kept.specs.Classifying.{with_sessions}
use Rattle.wt_kept.specs.Ending.{Remains, end_streams, ended_by, forget_request, give_up_all, give_up_now, remains_of, retire_now}
use Rattle.wt_kept.specs.Kept.{DispatchedNow, LiveNow, SessionEndNow, SessionsNow, WorkNow}
use Rattle.wt_kept.specs.Lists.{without_first}
use Rattle.wt_kept.specs.Looking.{with_session_reader}
use Rattle.wt_kept.specs.Readers.{session_rules}
use Rattle.wt_kept.specs.Windows.{changed_live, is_live, live_in}
use Rattle.wt_transport.specs.State.{TransportState}
use Rattle.wt_turn.specs.Unread.{ReadPosition}
use Rattle.wt_sessions.specs.DriverState.{DriverState}
use Rattle.wt_proto.specs.SessionReader.{SessionReader}
use Rattle.wt_sessions.specs.StreamTable.{Dispatched, Session}

-- a session that lives, with this reader
abbrev pub with_reader : SessionReader → LiveNow → LiveNow
with_reader r x = record x { reader = r }

-- the session of this id that is found, and its reader
pub record FoundLive (xs : List LiveNow) (k offset : ℕ) (bytes : List ℕ) (position : ReadPosition) : Type 0 where
  pub live : LiveNow
  pub found : find (is_live k) xs ≡ Some live
  pub id_same : live.id ≡ k
  pub at : ReaderAt session_rules live.reader offset bytes position

pub found-live : (xs : List LiveNow) (ss : List Session) (k : ℕ) (y : Session) (bytes : ℕ → List ℕ) (position : ℕ → ReadPosition) → map (λ (x : LiveNow). x.id) xs ≡ map (λ (x : Session). x.id) ss
    → find (λ (x : Session). x.id == k) ss ≡ Some y → SessionsFollow xs ss bytes position → FoundLive xs k y.offset (bytes k) (position k)
found-live [] [] k y bytes position e f h = absurd (true≢false (sym (ap is_some f)))
found-live [] (s ∷ ss) k y bytes position e f h = absurd h
found-live (x ∷ xs) [] k y bytes position e f h = absurd h
found-live (x ∷ xs) (s ∷ ss) k y bytes position e f h =
    let parts = same-parts x.id s.id (map (λ (z : LiveNow). z.id) xs) (map (λ (z : Session). z.id) ss) e in
    by (x.id == k) refl (s.id == k) (ap (λ i. i == k) (sym parts.0)) parts.0 f (λ g. found-live xs ss k y bytes position parts.1 g h.1)
  where
    by : (a : Bool) → (x.id == k) ≡ a → (b : Bool) → (s.id == k) ≡ (x.id == k) → x.id ≡ s.id → cond (s.id == k) (Some s) (find (λ (z : Session). z.id == k) ss) ≡ Some y
        → (find (λ (z : Session). z.id == k) ss ≡ Some y → FoundLive xs k y.offset (bytes k) (position k)) → FoundLive (x ∷ xs) k y.offset (bytes k) (position k)
    by true i b j same_id g again =
        let here : Some s ≡ Some y = sym (ap (λ (c : Bool). cond c (Some s) (find (λ (z : Session). z.id == k) ss)) (j ∙ i)) ∙ g in
        let is : s ≡ y = ap (λ (o : Option Session). unwrap_or o s) here in
        record {
          live = x;
          found = ap (λ (c : Bool). cond c (Some x) (find (is_live k) xs)) i;
          id_same = eqb-true x.id k i;
          at = subst (λ (z : Session). ReaderAt session_rules x.reader z.offset (bytes k) (position k)) is
              (subst (λ n. ReaderAt session_rules x.reader s.offset (bytes n) (position n)) (sym same_id ∙ eqb-true x.id k i) h.0);
        }
    by false i b j same_id g again =
        let r = again (sym (ap (λ (c : Bool). cond c (Some s) (find (λ (z : Session). z.id == k) ss)) (j ∙ i)) ∙ g) in
        record { live = r.live; found = ap (λ (c : Bool). cond c (Some x) (find (is_live k) xs)) i ∙ r.found; id_same = r.id_same; at = r.at }

-- ---- with another reader

module _ (k : ℕ) (r : SessionReader) where
  ids-read : (xs : List LiveNow) → map (λ (x : LiveNow). x.id) (changed_live (with_reader r) k xs) ≡ map (λ (x : LiveNow). x.id) xs
  ids-read [] = refl
  ids-read (x ∷ xs) = by (x.id == k) (ids-read xs)
    where
      by : (b : Bool) → map (λ (y : LiveNow). y.id) (changed_live (with_reader r) k xs) ≡ map (λ (y : LiveNow). y.id) xs
          → map (λ (y : LiveNow). y.id) (if b then with_reader r x ∷ xs else x ∷ changed_live (with_reader r) k xs) ≡ x.id ∷ map (λ (y : LiveNow). y.id) xs
      by true again = refl
      by false again = ap (λ is. x.id ∷ is) again

  windows-read : (d : Dispatched) (xs : List LiveNow) → WindowsFollow xs d → WindowsFollow (changed_live (with_reader r) k xs) d
  windows-read d [] h = tt
  windows-read d (x ∷ xs) h = by (x.id == k) (windows-read d xs h.2)
    where
      by : (b : Bool) → WindowsFollow (changed_live (with_reader r) k xs) d → WindowsFollow (if b then with_reader r x ∷ xs else x ∷ changed_live (with_reader r) k xs) d
      by true again = (h.0, h.1, h.2)
      by false again = (h.0, h.1, again)

  found-read : (xs : List LiveNow) → find (is_live k) (changed_live (with_reader r) k xs) ≡ option_map (with_reader r) (find (is_live k) xs)
  found-read [] = refl
  found-read (x ∷ xs) = by (x.id == k) refl (found-read xs)
    where
      by : (b : Bool) → (x.id == k) ≡ b → find (is_live k) (changed_live (with_reader r) k xs) ≡ option_map (with_reader r) (find (is_live k) xs)
          → find (is_live k) (if b then with_reader r x ∷ xs else x ∷ changed_live (with_reader r) k xs) ≡ option_map (with_reader r) (cond b (Some x) (find (is_live k) xs))
      by true e again = ap (λ (c : Bool). cond c (Some (with_reader r x)) (find (is_live k) xs)) e
      by false e again = ap (λ (c : Bool). cond c (Some x) (find (is_live k) (changed_live (with_reader r) k xs))) e ∙ again

  left-read : (xs : List LiveNow) → without_first (is_live k) (changed_live (with_reader r) k xs) ≡ without_first (is_live k) xs
  left-read [] = refl
  left-read (x ∷ xs) = by (x.id == k) refl (left-read xs)
    where
      by : (b : Bool) → (x.id == k) ≡ b → without_first (is_live k) (changed_live (with_reader r) k xs) ≡ without_first (is_live k) xs
          → without_first (is_live k) (if b then with_reader r x ∷ xs else x ∷ changed_live (with_reader r) k xs) ≡ (if b then xs else x ∷ without_first (is_live k) xs)
      by true e again = ap (λ (c : Bool). if c then xs else with_reader r x ∷ without_first (is_live k) xs) e
      by false e again = ap (λ (c : Bool). if c then changed_live (with_reader r) k xs else x ∷ without_first (is_live k) (changed_live (with_reader r) k xs)) e ∙ ap (λ ys. x ∷ ys) again

  pub reader-keeps : (d : DispatchedNow) (s : DriverState) → Keeps d s → Keeps (with_sessions (with_session_reader r k d.sessions) d) s
  reader-keeps d s h = record {
    control = h.control;
    encoder = h.encoder;
    decoder = h.decoder;
    settings = h.settings;
    queued = h.queued;
    held = h.held;
    living = ids-read d.sessions.living ∙ h.living;
    windows = windows-read s.dispatched d.sessions.living h.windows;
    early = h.early;
    gone = h.gone;
    gone_named = h.gone_named;
    closed = h.closed;
    established = h.established;
    alive = h.alive;
    named = h.named;
    named_streams = h.named_streams;
    named_datagrams = h.named_datagrams;
    unjoined = h.unjoined;
    fault = h.fault;
  }

  -- a session that becomes gone leaves the same, whatever its reader
  remains-read : (d : SessionsNow) (o : Option LiveNow) → remains_of (with_session_reader r k d) k (option_map (with_reader r) o) ≡ remains_of d k o
  remains-read d None = refl
  remains-read d (Some x) = refl

  ended-read : (d : SessionsNow) (end : SessionEndNow) (o : Option LiveNow) → live_in d k ≡ o → ended_by (with_session_reader r k d) k end (option_map (with_reader r) o) ≡ ended_by d k end o
  ended-read d end (Some x) e = λ i. record (ended_by d k end (Some x)) { living = left-read d.living i }
  ended-read d end None e = λ i. record (ended_by d k end None) { living = same-living i }
    where
      unchanged : (xs : List LiveNow) → find (is_live k) xs ≡ None → changed_live (with_reader r) k xs ≡ xs
      unchanged [] f = refl
      unchanged (x ∷ xs) f = by (x.id == k) f (unchanged xs)
        where
          by : (b : Bool) → cond b (Some x) (find (is_live k) xs) ≡ None → (find (is_live k) xs ≡ None → changed_live (with_reader r) k xs ≡ xs) → (if b then with_reader r x ∷ xs else x ∷ changed_live (with_reader r) k xs) ≡ x ∷ xs
          by true g again = absurd (true≢false (ap is_some g))
          by false g again = ap (λ ys. x ∷ ys) (again g)

      same-living : changed_live (with_reader r) k d.living ≡ d.living
      same-living = unchanged d.living e

  abbrev left_with : SessionEndNow → TransportState → DispatchedNow → Remains → SessionsNow → WorkNow
  left_with end t d x y = record { transport = give_up_now (give_up_all (end_streams t x.streams) x.waiting) k; dispatched = record d { requests = forget_request k d.requests; sessions = y } }

  pub retire-read : (end : SessionEndNow) (t : TransportState) (d : DispatchedNow) → retire_now k end (record { transport = t; dispatched = with_sessions (with_session_reader r k d.sessions) d }) ≡ retire_now k end (record { transport = t; dispatched = d })
  retire-read end t d =
      let found : live_in (with_session_reader r k d.sessions) k ≡ option_map (with_reader r) (live_in d.sessions k) = found-read d.sessions.living in
      ap₂ (λ (x : Remains) (y : SessionsNow). left_with end t d x y)
      (ap (remains_of (with_session_reader r k d.sessions) k) found ∙ remains-read d.sessions (live_in d.sessions k))
      (ap (ended_by (with_session_reader r k d.sessions) k end) found ∙ ended-read d.sessions end (live_in d.sessions k) refl)

-- its stream's position moves with its reader
pub sessions-read : (k : ℕ) (r : SessionReader) (y : Session) (bytes : ℕ → List ℕ) (old new : ℕ → ReadPosition) → Elsewhere k old new → ReaderAt session_rules r y.offset (bytes k) (new k)
    → (xs : List LiveNow) (ss : List Session) → map (λ (x : LiveNow). x.id) xs ≡ map (λ (x : Session). x.id) ss → AreDistinct (map (λ (x : Session). x.id) ss) → find (λ (x : Session). x.id == k) ss ≡ Some y
    → SessionsFollow xs ss bytes old → SessionsFollow (changed_live (with_reader r) k xs) ss bytes new
sessions-read k r y bytes old new elsewhere at [] [] e d f h = h
sessions-read k r y bytes old new elsewhere at [] (s ∷ ss) e d f h = h
sessions-read k r y bytes old new elsewhere at (x ∷ xs) [] e d f h = absurd h
sessions-read k r y bytes old new elsewhere at (x ∷ xs) (s ∷ ss) e d f h =
    let parts = same-parts x.id s.id (map (λ (z : LiveNow). z.id) xs) (map (λ (z : Session). z.id) ss) e in
    by (x.id == k) refl parts.0 f (λ g. sessions-read k r y bytes old new elsewhere at xs ss parts.1 d.1 g h.1)
  where
    by : (b : Bool) → (x.id == k) ≡ b → x.id ≡ s.id → cond (s.id == k) (Some s) (find (λ (z : Session). z.id == k) ss) ≡ Some y
        → (find (λ (z : Session). z.id == k) ss ≡ Some y → SessionsFollow (changed_live (with_reader r) k xs) ss bytes new)
        → SessionsFollow (if b then with_reader r x ∷ xs else x ∷ changed_live (with_reader r) k xs) (s ∷ ss) bytes new
    by true i same_id g again =
        let mine : s.id ≡ k = sym same_id ∙ eqb-true x.id k i in
        let is : s ≡ y = ap (λ (o : Option Session). unwrap_or o s) (sym (ap (λ (c : Bool). cond c (Some s) (find (λ (z : Session). z.id == k) ss)) (ap (λ n. n == k) mine ∙ same k)) ∙ g) in (
          subst (λ (z : Session). ReaderAt session_rules r z.offset (bytes s.id) (new s.id)) (sym is) (subst (λ n. ReaderAt session_rules r y.offset (bytes n) (new n)) (sym mine) at),
          sessions-moved k old new elsewhere bytes xs ss (sym (any-map (λ (z : Session). z.id) k ss) ∙ (ap (λ n. is_in n (map (λ (z : Session). z.id) ss)) (sym mine) ∙ d.0)) h.1,
        )
    by false i same_id g again =
        let other : (s.id == k) ≡ false = ap (λ n. n == k) (sym same_id) ∙ i in (
          subst (λ q. ReaderAt session_rules x.reader s.offset (bytes s.id) q) (sym (elsewhere s.id (flip k s.id ∙ other))) h.0,
          again (sym (ap (λ (c : Bool). cond c (Some s) (find (λ (z : Session). z.id == k) ss)) other) ∙ g),
        )
