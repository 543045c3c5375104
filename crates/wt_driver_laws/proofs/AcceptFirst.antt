-- What waits first for a session by what a driver keeps is what waits first for it by the log.
use Rattle.std.proofs.Common.{arith, ◌%◌, ◌/◌, ◌∙◌, ◌≡◌, ◌∷◌, Bool, List, None, Option, Some, [], ap, cond, false, filter, filter_map, find, option_map, refl, subst, sym, true, ℕ}
use Rattle.std.proofs.lemmas.Bool.{eqb-true, true≢false}
use Rattle.std.specs.List.{list_any}
use Rattle.std.specs.Prelude.{◌&&◌, ◌==◌, ◌||◌, not, unwrap_or}
use Rattle.wt_driver_laws.proofs.ReachSessions.{established_lives}
use Rattle.wt_driver_laws.proofs.SessionEnds.{dispatched-of-state}
use Rattle.wt_driver_laws.specs.Driving.{Follows}
use Rattle.wt_driver_laws.specs.Given.{next_stream_now}
use Rattle.wt_follows.proofs.GoneKeeps.{found-any, found-window, lives-same}
use Rattle.wt_follows.proofs.Lists.{or-true, same}
use Rattle.wt_follows.specs.Roles.{is_living}
use Rattle.wt_follows.specs.Tie.{Keeps, WindowFollows}
use Rattle.wt_kept.specs.Arriving.{peer_kind}
use Rattle.wt_kept.specs.Kept.{DriverNow, LiveNow}
use Rattle.wt_kept.specs.Windows.{first_stream, first_stream_id, is_live, is_of_kind, live_in, lives_now}
use Rattle.wt_peer_streams.specs.Living.{streams_of_live}
use Rattle.wt_turn.specs.Streams.{peer_bi, peer_uni}
use Rattle.wt_sessions.proofs.Indexed.{AllOf}
use Rattle.wt_sessions.specs.Connection.{next_stream, waits_for}
use Rattle.wt_sessions.specs.Driver.{call_view, dispatched, is_session_gone, stream_table}
use Rattle.wt_sessions.specs.DriverState.{DriverState, state_of}
use Rattle.wt_sessions.specs.Moment.{is_peers}
use Rattle.wt_sessions.specs.StreamTable.{Dispatched, Waiting, waits_in, was_established}
use Rattle.wt_turn.specs.Log.{Log}
use Rattle.wt_wire.specs.Ids.{is_bidirectional}
use Rattle.wt_wire.specs.declared.side.Side.{Side}
use Rattle.wt_wire.specs.declared.side.Side.TheVariants.{Client, Server}

-- ---- what is found

-- what is found passes
pub found-passes : {X : Type 0} (p : X → Bool) (x : X) (xs : List X) → find p xs ≡ Some x → p x ≡ true
found-passes p x [] e = absurd cc
found-passes {X} p x (y ∷ ys) e = by (p y) refl e (found-passes p x ys)
  where
    by : (b : Bool) → p y ≡ b → cond b (Some y) (find p ys) ≡ Some x → (find p ys ≡ Some x → p x ≡ true) → p x ≡ true
    by true f g again = ap (λ (o : Option X). p (unwrap_or o y)) (sym g) ∙ f
    by false f g again = again g

-- of those that pass one test, the first that passes another passes both
pub found-in-filter : {X : Type 0} (p q : X → Bool) (xs : List X) → find p (filter q xs) ≡ find (λ (x : X). q x && p x) xs
found-in-filter p q [] = refl
found-in-filter {X} p q (x ∷ xs) = by (q x) (found-in-filter p q xs)
  where
    by : (b : Bool) → find p (filter q xs) ≡ find (λ (y : X). q y && p y) xs → find p (cond b (x ∷ filter q xs) (filter q xs)) ≡ cond (b && p x) (Some x) (find (λ (y : X). q y && p y) xs)
    by true again = ap (λ (o : Option X). cond (p x) (Some x) o) again
    by false again = again

-- two tests that agree on all find the same
pub found-alike : {X : Type 0} (P : X → Type 0) (p q : X → Bool) → ((x : X) → P x → p x ≡ q x) → (xs : List X) → AllOf P xs → find p xs ≡ find q xs
found-alike P p q alike [] all = refl
found-alike P p q alike (x ∷ xs) all = λ i. cond (alike x all.0 i) (Some x) (found-alike P p q alike xs all.1 i)

pub none-found : {X : Type 0} (p : X → Bool) → ((x : X) → p x ≡ false) → (xs : List X) → find p xs ≡ None
none-found p out [] = refl
none-found {X} p out (x ∷ xs) = (λ i. cond (out x i) (Some x) (find p xs)) ∙ none-found p out xs

-- ---- kinds of the peer's streams

abbrev Kinds-are : ℕ → ℕ → ℕ → Type 0
Kinds-are u b k = (not (is_bidirectional k) ≡ (k % 4 == u)) × (is_bidirectional k ≡ (k % 4 == b))

kinds-by : (u b k : ℕ) → (u == b) ≡ false → (b == u) ≡ false → ((k % 4) ≡ u → is_bidirectional k ≡ false) → ((k % 4) ≡ b → is_bidirectional k ≡ true) → ((k % 4 == u) || (k % 4 == b)) ≡ true → Kinds-are u b k
kinds-by u b k apart apart_so one two e = by (k % 4 == u) refl (k % 4 == b) refl e
  where
    by : (x : Bool) → (k % 4 == u) ≡ x → (y : Bool) → (k % 4 == b) ≡ y → (x || y) ≡ true → (not (is_bidirectional k) ≡ x) × (is_bidirectional k ≡ y)
    by true f y g h =
        let r : (k % 4) ≡ u = eqb-true (k % 4) u f in
        (ap not (one r), one r ∙ (sym apart ∙ (ap (λ (n : ℕ). n == b) (sym r) ∙ g)))
    by false f true g h = let r : (k % 4) ≡ b = eqb-true (k % 4) b g in (ap not (two r), two r)
    by false f false g h = absurd (true≢false (sym h))

is-zero : (n : ℕ) → n ≡ 0 → (n == 0) ≡ true
is-zero n e = ap (λ (m : ℕ). m == 0) e

is-one : (n : ℕ) → n ≡ 1 → (n == 0) ≡ false
is-one n e = ap (λ (m : ℕ). m == 0) e

kinds-are : (side : Side) (k : ℕ) → is_peers side k ≡ true → Kinds-are (peer_uni side) (peer_bi side) k
kinds-are Client k e = kinds-by 3 1 k refl refl (λ r. is-one (k / 2 % 2) (omega (arith, r))) (λ r. is-zero (k / 2 % 2) (omega (arith, r))) e
kinds-are Server k e = kinds-by 2 0 k refl refl (λ r. is-one (k / 2 % 2) (omega (arith, r))) (λ r. is-zero (k / 2 % 2) (omega (arith, r))) e

of-kind : (side : Side) (b : Bool) (k : ℕ) → is_peers side k ≡ true → is_of_kind b k ≡ (k % 4 == peer_kind side b)
of-kind side true k e = (kinds-are side k e).1
of-kind side false k e = (kinds-are side k e).0

-- ---- by the log

-- what holds of each id that waits holds of all that wait
all-waiting : (P : ℕ → Type 0) (ws : List Waiting) → ((k : ℕ) → list_any (λ (w : Waiting). w.id == k) ws ≡ true → P k) → AllOf (λ (w : Waiting). P w.id) ws
all-waiting P [] h = tt
all-waiting P (w ∷ ws) h = (
  h w.id (ap (λ b. b || list_any (λ (v : Waiting). v.id == w.id) ws) (same w.id)),
  all-waiting P ws (λ k e. h k (ap (λ b. (w.id == k) || b) e ∙ or-true (w.id == k))),
)

-- nothing waits for a session that is gone
pub none-waits : (side : Side) (log : Log) (kind s : ℕ) → is_session_gone side log s ≡ true → next_stream side log kind s ≡ None
none-waits side log kind s gone =
    found-in-filter (waits_for kind s) (λ (w : Waiting). not (is_session_gone side log w.session)) (filter_map (waits_in (call_view log)) (stream_table side log).classified)
    ∙ none-found (λ (w : Waiting). not (is_session_gone side log w.session) && waits_for kind s w) out (filter_map (waits_in (call_view log)) (stream_table side log).classified)
  where
    out : (w : Waiting) → (not (is_session_gone side log w.session) && ((w.id % 4 == kind) && (w.session == s))) ≡ false
    out w = by (w.session == s) refl (not (is_session_gone side log w.session)) refl (w.id % 4 == kind)
      where
        by : (b : Bool) → (w.session == s) ≡ b → (g : Bool) → not (is_session_gone side log w.session) ≡ g → (k : Bool) → (g && (k && b)) ≡ false
        by true e true h k = absurd (true≢false (sym h ∙ (ap (λ (j : ℕ). not (is_session_gone side log j)) (eqb-true w.session s e) ∙ ap not gone)))
        by true e false h k = refl
        by false e true h true = refl
        by false e true h false = refl
        by false e false h k = refl

-- ---- by what is kept

module _ (side : Side) (d : DriverNow) (log : Log) (collected : ℕ) (f : Follows side d log collected) (s : ℕ) where
  abbrev state : DriverState
  state = state_of side log

  keeps : Keeps d.work.dispatched state
  keeps = f.kept.amid.work.keeps

  -- the peer opened each stream that waits
  pub streams-peers : AllOf (λ (w : Waiting). is_peers side w.id ≡ true) (dispatched side log).streams
  streams-peers = subst (λ (x : Dispatched). AllOf (λ (w : Waiting). is_peers side w.id ≡ true) x.streams) (dispatched-of-state side log)
      (all-waiting (λ (k : ℕ). is_peers side k ≡ true) state.dispatched.streams f.kept.amid.work.there.peers.waiting)

  -- a session lives by the one where it lives by the other
  pub lives-so : lives_now d.work.dispatched.sessions s ≡ is_living state s
  lives-so = found-any (is_live s) d.work.dispatched.sessions.living (live_in d.work.dispatched.sessions s) refl
      ∙ sym (lives-same d.work.dispatched state keeps s (live_in d.work.dispatched.sessions s) refl)

  -- a session that was established and doesn't live is gone
  pub gone-where-dead : was_established (call_view log) s ≡ true → live_in d.work.dispatched.sessions s ≡ None → is_session_gone side log s ≡ true
  gone-where-dead established none = by (is_session_gone side log s) refl
    where
      by : (b : Bool) → is_session_gone side log s ≡ b → b ≡ true
      by true e = refl
      by false e = absurd (true≢false (sym (established_lives side log s established e) ∙ lives-same d.work.dispatched state keeps s None none))

  -- the window of one that lives
  pub window-so : (x : LiveNow) → live_in d.work.dispatched.sessions s ≡ Some x → WindowFollows x.window (dispatched side log) (λ k. k == s)
  window-so x e = subst (λ (z : Dispatched). WindowFollows x.window z (λ k. k == s)) (dispatched-of-state side log) (found-window state.dispatched s d.work.dispatched.sessions.living x keeps.windows e).1

  module _ (b : Bool) (established : was_established (call_view log) s ≡ true) where
    abbrev kind : ℕ
    kind = peer_kind side b

    swapped : (p q : Bool) → (p && q) ≡ (q && p)
    swapped true true = refl
    swapped true false = refl
    swapped false true = refl
    swapped false false = refl

    in-window : (x : LiveNow) → live_in d.work.dispatched.sessions s ≡ Some x → next_stream side log kind s ≡ first_stream b x.window.streams
    in-window x e = sym (
        ap (λ (ws : List Waiting). first_stream b ws) (window-so x e).streams
        ∙ (found-in-filter (λ (w : Waiting). is_of_kind b w.id) (λ (w : Waiting). w.session == s) (dispatched side log).streams
        ∙ found-alike (λ (w : Waiting). is_peers side w.id ≡ true) (λ (w : Waiting). (w.session == s) && is_of_kind b w.id) (waits_for kind s)
        (λ w p. ap (λ c. (w.session == s) && c) (of-kind side b w.id p) ∙ swapped (w.session == s) (w.id % 4 == kind)) (dispatched side log).streams streams-peers)
        )

    -- the first stream of the kind that waits for the session
    pub next-stream-is : option_map (λ (w : Waiting). w.id) (next_stream side log kind s) ≡ next_stream_now b s d
    next-stream-is = by (live_in d.work.dispatched.sessions s) refl
      where
        by : (o : Option LiveNow) → live_in d.work.dispatched.sessions s ≡ o → option_map (λ (w : Waiting). w.id) (next_stream side log kind s) ≡ first_stream_id b (streams_of_live o)
        by (Some x) e = ap (λ (o : Option Waiting). option_map (λ (w : Waiting). w.id) o) (in-window x e)
        by None e = ap (λ (o : Option Waiting). option_map (λ (w : Waiting). w.id) o) (none-waits side log kind s (gone-where-dead established e))
