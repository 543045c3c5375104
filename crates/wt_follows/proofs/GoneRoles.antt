-- A session becomes gone: each stream that has a place keeps it, what is read of it and what it sends.
use Rattle.std.proofs.Common.{arith, ◌%◌, ◌∙◌, ◌≡◌, ◌∷◌, Bool, List, None, Option, Some, [], ap, cond, false, filter, map, refl, subst, sym, true, ℕ}
use Rattle.std.proofs.lemmas.Bool.{eq-eqb, eqb-true, or_from, or_parts, true≢false}
use Rattle.std.specs.List.{list_any}
use Rattle.std.specs.Prelude.{◌&&◌, ◌==◌, ◌||◌, not}
use Rattle.wt_follows.proofs.GoneKeeps.{gone_by, unliving, waiting_for}
use Rattle.wt_follows.proofs.Lists.{any-filter, any-map, distinct-filter, distinct-sub, flip, in-with-all, map-filter, none-filtered, none-left, once, or-true, refuted, same, same-parts}
use Rattle.wt_follows.proofs.OwnRequest.{peers-kept}
use Rattle.wt_follows.proofs.StreamEnds.{all-given-up-apart, all_given_up, given-up-apart, there}
use Rattle.wt_follows.specs.Roles.{AreDistinct, Roles, is_arriving, is_at, is_critical, is_held, is_in, is_living, is_member, waits}
use Rattle.wt_follows.specs.Tie.{AtHeader, ControlFollows, Placed, ReaderAt, Sends, SessionsFollow, There, rests_at_header}
use Rattle.wt_kept.specs.Kept.{LiveNow}
use Rattle.wt_kept.specs.Readers.{ControlReading, Slot, control_rules, session_rules}
use Rattle.wt_kept.specs.Windows.{is_live}
use Rattle.wt_turn.specs.Sent.{is_finished, is_reset}
use Rattle.wt_turn.specs.Streams.{can_receive, exists, local_uni}
use Rattle.wt_turn.specs.Unread.{ReadPosition, given_up}
use Rattle.wt_sessions.specs.Driver.{still_sends}
use Rattle.wt_sessions.specs.DriverState.{DriverState}
use Rattle.wt_sessions.specs.StreamTable.{Classified, Closed, Session, Waiting, streams_of}
use Rattle.wt_turn.specs.Log.{Log, actions_of}
use Rattle.wt_wire.specs.declared.side.Side.{Side}
use Rattle.wt_wire.specs.declared.side.Side.TheVariants.{Client, Server}

-- a session may become gone on an open connection: its own stream has no other place, and it isn't gone yet
pub record MayRetire (side : Side) (log : Log) (s : DriverState) (k : ℕ) : Type 0 where
  pub is_open : s.is_open ≡ true
  pub is_session : (k % 4) ≡ 0
  pub remains : s.dispatched.is_gone k ≡ false
  pub there : can_receive side log k ≡ true
  pub arriving : is_arriving s k ≡ false
  pub critical : is_critical s k ≡ false
  pub waits : waits s k ≡ false
  pub member : (session : ℕ) → is_member s session k ≡ false

-- the positions once it is gone: its own stream and those that waited for it are given up
abbrev pub gone_position : DriverState → ℕ → (ℕ → ReadPosition) → ℕ → ReadPosition
gone_position s k position = given_up (all_given_up position (waiting_for s.dispatched k)) k

gone-apart : (s : DriverState) (k : ℕ) (position : ℕ → ReadPosition) (j : ℕ) → (k == j) ≡ false → is_in j (waiting_for s.dispatched k) ≡ false → gone_position s k position j ≡ position j
gone-apart s k position j e f = given-up-apart (all_given_up position (waiting_for s.dispatched k)) k j e ∙ all-given-up-apart (waiting_for s.dispatched k) position j f

unwaiting : (s : DriverState) (k j : ℕ) → waits s j ≡ false → is_in j (waiting_for s.dispatched k) ≡ false
unwaiting s k j e = any-map (λ (w : Waiting). w.id) j (filter (λ (w : Waiting). w.session == k) s.dispatched.streams)
    ∙ none-filtered (λ (w : Waiting). w.id == j) (λ (w : Waiting). w.session == k) s.dispatched.streams e

pub gone-elsewhere : (s : DriverState) (k : ℕ) (position : ℕ → ReadPosition) (j : ℕ) → (k == j) ≡ false → waits s j ≡ false → gone_position s k position j ≡ position j
gone-elsewhere s k position j e f = gone-apart s k position j e (unwaiting s k j f)

module _ (side : Side) (log : Log) (s : DriverState) (k : ℕ) (closed : ℕ → Option Closed) (h : Roles s) (may : MayRetire side log s k) where
  abbrev later : DriverState
  later = gone_by k closed s

  -- ---- what has a place then had it before

  waited : (j : ℕ) → waits later j ≡ true → waits s j ≡ true
  waited j e = any-filter (λ (w : Waiting). w.id == j) (λ (w : Waiting). not (k == w.session)) s.dispatched.streams e

  lived : (j : ℕ) → is_living later j ≡ true → is_living s j ≡ true
  lived j e = any-filter (λ (x : Session). x.id == j) (λ (x : Session). not (k == x.id)) s.sessions e

  was-held : (j : ℕ) → is_held later j ≡ true → is_held s j ≡ true
  was-held j e = by (is_in j s.dispatched.held) refl
    where
      by : (b : Bool) → is_in j s.dispatched.held ≡ b → (b || list_any (λ (c : Classified). c.id == j) s.dispatched.requests) ≡ true
      by true f = refl
      by false f = ap (λ b. b || list_any (λ (c : Classified). c.id == j) s.dispatched.requests) (sym (none-filtered (λ (i : ℕ). i == j) (λ (i : ℕ). not (k == i)) s.dispatched.held f)) ∙ e

  not-living : (j : ℕ) → is_living s j ≡ false → is_living later j ≡ false
  not-living j e = refuted (is_living later j) (λ f. true≢false (sym (lived j f) ∙ e))

  not-waiting : (j : ℕ) → waits s j ≡ false → waits later j ≡ false
  not-waiting j e = refuted (waits later j) (λ f. true≢false (sym (waited j f) ∙ e))

  not-held : (j : ℕ) → is_held s j ≡ false → is_held later j ≡ false
  not-held j e = refuted (is_held later j) (λ f. true≢false (sym (was-held j f) ∙ e))

  -- another one than the session's own
  other : (test : ℕ → Bool) (j : ℕ) → test k ≡ false → test j ≡ true → (k == j) ≡ false
  other test j e f = refuted (k == j) (λ g. true≢false (sym f ∙ (ap test (sym (eqb-true k j g)) ∙ e)))

  living-other : (j : ℕ) → is_living later j ≡ true → (k == j) ≡ false
  living-other j e = refuted (k == j) (λ f. true≢false (sym e ∙ none-left (λ (x : Session). x.id == j) (λ (x : Session). not (k == x.id))
      (λ x g. ap (λ i. not (i == x.id)) (eqb-true k j f) ∙ (ap (λ i. not (j == i)) (eqb-true x.id j g) ∙ ap not (same j))) s.sessions))

  waiting-apart : (j : ℕ) → waits later j ≡ true → is_in j (waiting_for s.dispatched k) ≡ false
  waiting-apart j e = any-map (λ (w : Waiting). w.id) j (filter (λ (w : Waiting). w.session == k) s.dispatched.streams)
      ∙ once (λ (w : Waiting). w.id) (λ (w : Waiting). not (k == w.session)) (λ (w : Waiting). w.session == k) (λ w f. flip w.session k ∙ turned (k == w.session) f) j s.dispatched.streams h.waiting e
    where
      turned : (b : Bool) → not b ≡ true → b ≡ false
      turned true f = absurd (true≢false (sym f))
      turned false f = refl

  -- ---- roles

  pub roles-gone : Roles later
  roles-gone = record {
    unis = h.unis;
    bis = h.bis;
    kinds = h.kinds;
    arriving = λ j e. let a = h.arriving j e in record {
      critical = a.critical;
      held = not-held j a.held;
      living = not-living j a.living;
      waits = not-waiting j a.waits;
      member = a.member;
      gone = or_from (s.dispatched.is_gone j) (k == j) a.gone (other (is_arriving s) j may.arriving e);
    };
    living = subst AreDistinct (sym (map-filter (λ (x : Session). x.id) (λ j. not (k == j)) s.sessions)) (distinct-filter (λ j. not (k == j)) (map (λ (x : Session). x.id) s.sessions) h.living);
    living_alone = λ j e. h.living_alone j (lived j e);
    requests_alone = λ j e. h.requests_alone j (was-held j e);
    waiting = distinct-sub (λ (w : Waiting). w.id) (λ (w : Waiting). not (k == w.session)) s.dispatched.streams h.waiting;
    waiting_alone = λ j e. let a = h.waiting_alone j (waited j e) in record { arriving = a.arriving; critical = a.critical; held = not-held j a.held; living = not-living j a.living };
    waiting_unjoined = λ j session e. h.waiting_unjoined j session (waited j e);
    members_alone = λ j session e. let a = h.members_alone j session e in record { arriving = a.arriving; critical = a.critical; held = not-held j a.held; living = not-living j a.living };
    members_once = h.members_once;
    members_distinct = h.members_distinct;
    held = distinct-filter (λ j. not (k == j)) s.dispatched.held h.held;
  }

  -- ---- what is read

  module _ (position : ℕ → ReadPosition) where
    unjoined-apart : (j session : ℕ) → is_member s session j ≡ true → waits s j ≡ false
    unjoined-apart j session e = refuted (waits s j) (λ f. true≢false (sym e ∙ h.waiting_unjoined j session f))

    headers-then : Placed side s log position → (j : ℕ) → rests_at_header later j ≡ true → AtHeader log (gone_position s k position j) j
    headers-then p j e = by (waits later j) refl e
      where
        moved : gone_position s k position j ≡ position j → rests_at_header s j ≡ true → AtHeader log (gone_position s k position j) j
        moved e f = subst (λ q. AtHeader log q j) (sym e) (p.headers j f)

        held-at : (b : Bool) → is_in j (filter (λ (i : ℕ). not (k == i)) s.dispatched.held) ≡ b → (b && not (s.dispatched.is_established j)) ≡ true
            → (is_in j s.dispatched.held ≡ true) × (not (s.dispatched.is_established j) ≡ true) × ((k == j) ≡ false)
        held-at true g f = (
          any-filter (λ (i : ℕ). i == j) (λ (i : ℕ). not (k == i)) s.dispatched.held g,
          f,
          refuted (k == j) (λ t. true≢false (sym g ∙ none-left (λ (i : ℕ). i == j) (λ (i : ℕ). not (k == i))
              (λ i u. ap (λ n. not (n == i)) (eqb-true k j t) ∙ (ap (λ n. not (j == n)) (eqb-true i j u) ∙ ap not (same j))) s.dispatched.held)),
        )
        held-at false g f = absurd (true≢false (sym f))

        by : (b : Bool) → waits later j ≡ b → (b || (is_in j (filter (λ (i : ℕ). not (k == i)) s.dispatched.held) && not (s.dispatched.is_established j))) ≡ true
            → AtHeader log (gone_position s k position j) j
        by true g f = moved (gone-apart s k position j (other (waits s) j may.waits (waited j g)) (waiting-apart j g)) (ap (λ b. b || (is_in j s.dispatched.held && not (s.dispatched.is_established j))) (waited j g))
        by false g f =
            let a = held-at (is_in j (filter (λ (i : ℕ). not (k == i)) s.dispatched.held)) refl f in
            let alone : waits s j ≡ false = refuted (waits s j) (λ u. true≢false (sym (ap (λ b. b || list_any (λ (c : Classified). c.id == j) s.dispatched.requests) a.0) ∙ (h.waiting_alone j u).held)) in
            moved (gone-elsewhere s k position j a.2 alone) ((λ i. waits s j || (a.0 i && a.1 i)) ∙ or-true (waits s j))

    pub placed-gone : There side s log → Placed side s log position → Placed side later log (gone_position s k position)
    placed-gone t p = record {
      headers = headers-then p;
      members = λ j session e. gone-elsewhere s k position j (other (is_member s session) j (may.member session) e) (unjoined-apart j session e) ∙ p.members j session e;
      heads = p.heads;
      untouched = λ j e. p.untouched j (waited j e);
      arriving = p.arriving;
      unopened = λ j e.
          let same_position = gone-elsewhere s k position j
          (refuted (k == j) (λ f. true≢false (sym (ap (exists side log) (sym (eqb-true k j f)) ∙ there side log k may.there) ∙ e)))
          (refuted (waits s j) (λ f. true≢false (sym (there side log j (t.waiting j f)) ∙ e))) in
          (same_position ∙ (p.unopened j e).0, (p.unopened j e).1);
    }

  gone-there : There side s log → (j : ℕ) → (s.dispatched.is_gone j || k == j) ≡ true → exists side log j ≡ true
  gone-there t j e = by (s.dispatched.is_gone j) refl e
    where
      by : (b : Bool) → s.dispatched.is_gone j ≡ b → (b || k == j) ≡ true → exists side log j ≡ true
      by true f g = t.gone j f
      by false f g = ap (exists side log) (sym (eqb-true k j g)) ∙ there side log k may.there

  pub there-gone : There side s log → There side later log
  there-gone t = record {
    unis = t.unis;
    bis = t.bis;
    arriving = t.arriving;
    waiting = λ j e. t.waiting j (waited j e);
    living = λ j e. t.living j (lived j e);
    held = λ j e. t.held j (was-held j e);
    members = t.members;
    critical = t.critical;
    gone = gone-there t;
    own = t.own;
    kinds = t.kinds;
    few = t.few;
    peers = peers-kept side s later (λ j e. e) (λ j e. e) was-held waited t.peers;
  }

  -- ---- what is sent

  -- neither its own stream nor one of the session's
  unended : (j : ℕ) → waits s j ≡ false → is_member s k j ≡ false → is_in j (streams_of s.dispatched k) ≡ false
  unended j e f = in-with-all j (waiting_for s.dispatched k) (s.dispatched.members k) ∙ or_from (is_in j (waiting_for s.dispatched k)) (is_member s k j) (unwaiting s k j e) f

  own-apart : (n : Side) → (k % 4) ≡ 0 → (k == local_uni n) ≡ false
  own-apart n e = refuted (k == local_uni n) (λ f. by n (sym e ∙ ap (λ (i : ℕ). i % 4) (eqb-true k (local_uni n) f)))
    where
      by : (n : Side) → 0 ≡ (local_uni n % 4) → ⊥
      by Client e = absurd (omega (arith, e))
      by Server e = absurd (omega (arith, e))

  own-waits : There side s log → waits s (local_uni side) ≡ false
  own-waits t = refuted (waits s (local_uni side)) (λ e. true≢false (sym (t.waiting (local_uni side) e) ∙ by side (exists side log (local_uni side))))
    where
      by : (n : Side) (b : Bool) → (b && not (local_uni n == local_uni n % 4)) ≡ false
      by Client true = refl
      by Client false = refl
      by Server true = refl
      by Server false = refl

  pub sends-gone : (before after : Log) → There side s log → Sends side s log before
      → ((j : ℕ) → (k == j) ≡ false → is_in j (streams_of s.dispatched k) ≡ false → still_sends side after j ≡ still_sends side before j)
      → ((j : ℕ) → (k == j) ≡ false → is_in j (streams_of s.dispatched k) ≡ false → (is_finished (actions_of after) j ≡ is_finished (actions_of before) j) × (is_reset after j ≡ is_reset before j))
      → Sends side later log after
  sends-gone before after t x sends ends = record {
    arriving = λ j e. let a = h.arriving j e in sends j (other (is_arriving s) j may.arriving e) (unended j a.waits (a.member k)) ∙ x.arriving j e;
    waiting = λ j e. sends j (other (waits s) j may.waits (waited j e))
        (in-with-all j (waiting_for s.dispatched k) (s.dispatched.members k) ∙ or_from (is_in j (waiting_for s.dispatched k)) (is_member s k j) (waiting-apart j e) (h.waiting_unjoined j k (waited j e)))
        ∙ x.waiting j (waited j e);
    members = λ j session e g. let parts = or_parts (s.dispatched.is_gone session) (k == session) g in
        sends j (other (is_member s session) j (may.member session) e)
        (unended j (refuted (waits s j) (λ f. true≢false (sym e ∙ h.waiting_unjoined j session f)))
        (refuted (is_member s k j) (λ f. true≢false (sym (eq-eqb k session (h.members_once j k session f e)) ∙ parts.1))))
        ∙ x.members j session e parts.0;
    living = λ j e. sends j (living-other j e)
        (unended j (refuted (waits s j) (λ f. true≢false (sym (lived j e) ∙ (h.waiting_alone j f).living))) (refuted (is_member s k j) (λ f. true≢false (sym (lived j e) ∙ (h.members_alone j k f).living))))
        ∙ x.living j (lived j e);
    own = let both = ends (local_uni side) (own-apart side may.is_session) (unended (local_uni side) (own-waits t) (t.own k)) in (both.0 ∙ x.own.0, both.1 ∙ x.own.1);
  }

  -- ---- the readers of the control stream and of sessions

  critical-other : (j : ℕ) → is_critical s j ≡ true → (k == j) ≡ false
  critical-other j e = other (is_critical s) j may.critical e

  critical-unwaiting : (j : ℕ) → is_critical s j ≡ true → waits s j ≡ false
  critical-unwaiting j e = refuted (waits s j) (λ f. true≢false (sym e ∙ (h.waiting_alone j f).critical))

  pub control-gone : (o : Option (Slot ControlReading)) (c : Option (ℕ × ℕ)) (bytes : ℕ → List ℕ) (position : ℕ → ReadPosition) → s.dispatched.control ≡ c
      → ControlFollows o c bytes position → ControlFollows o c bytes (gone_position s k position)
  control-gone None None bytes position e f = f
  control-gone None (Some c) bytes position e f = f
  control-gone (Some x) None bytes position e f = f
  control-gone (Some x) (Some c) bytes position e f =
      let here : is_critical s c.0 ≡ true = (λ i. is_at (e i) c.0 || is_at s.dispatched.encoder c.0 || is_at s.dispatched.decoder c.0) ∙ ap (λ b. b || is_at s.dispatched.encoder c.0 || is_at s.dispatched.decoder c.0) (same c.0) in
      (f.0, subst (λ q. ReaderAt control_rules x.reader c.1 (bytes c.0) q) (sym (gone-elsewhere s k position c.0 (critical-other c.0 here) (critical-unwaiting c.0 here))) f.1)

  positions-changed : (xs : List LiveNow) (ss : List Session) (bytes : ℕ → List ℕ) (old new : ℕ → ReadPosition) → ((j : ℕ) → list_any (λ (x : Session). x.id == j) ss ≡ true → new j ≡ old j)
      → SessionsFollow xs ss bytes old → SessionsFollow xs ss bytes new
  positions-changed [] [] bytes old new e f = f
  positions-changed [] (y ∷ ys) bytes old new e f = f
  positions-changed (x ∷ xs) [] bytes old new e f = f
  positions-changed (x ∷ xs) (y ∷ ys) bytes old new e f = (
    subst (λ q. ReaderAt session_rules x.reader y.offset (bytes y.id) q) (sym (e y.id (ap (λ b. b || list_any (λ (z : Session). z.id == y.id) ys) (same y.id)))) f.0,
    positions-changed xs ys bytes old new (λ j g. e j (ap (λ b. (y.id == j) || b) g ∙ or-true (y.id == j))) f.1,
  )

  sessions-filtered : (xs : List LiveNow) (ss : List Session) (bytes : ℕ → List ℕ) (position : ℕ → ReadPosition) → map (λ (x : LiveNow). x.id) xs ≡ map (λ (x : Session). x.id) ss
      → SessionsFollow xs ss bytes position → SessionsFollow (filter (λ (x : LiveNow). not (is_live k x)) xs) (filter (λ (x : Session). not (k == x.id)) ss) bytes position
  sessions-filtered [] [] bytes position e f = f
  sessions-filtered [] (y ∷ ys) bytes position e f = absurd f
  sessions-filtered (x ∷ xs) [] bytes position e f = absurd f
  sessions-filtered (x ∷ xs) (y ∷ ys) bytes position e f =
      let parts = same-parts x.id y.id (map (λ (z : LiveNow). z.id) xs) (map (λ (z : Session). z.id) ys) e in
      by (x.id == k) (k == y.id) (ap (λ i. i == k) parts.0 ∙ flip y.id k) (sessions-filtered xs ys bytes position parts.1 f.1)
    where
      by : (a b : Bool) → a ≡ b → SessionsFollow (filter (λ (x : LiveNow). not (is_live k x)) xs) (filter (λ (x : Session). not (k == x.id)) ys) bytes position
          → SessionsFollow (cond (not a) (x ∷ filter (λ (x : LiveNow). not (is_live k x)) xs) (filter (λ (x : LiveNow). not (is_live k x)) xs))
          (cond (not b) (y ∷ filter (λ (x : Session). not (k == x.id)) ys) (filter (λ (x : Session). not (k == x.id)) ys)) bytes position
      by true true same again = again
      by true false same again = absurd (true≢false same)
      by false true same again = absurd (true≢false (sym same))
      by false false same again = (f.0, again)

  living-position : (position : ℕ → ReadPosition) (j : ℕ) → is_living later j ≡ true → gone_position s k position j ≡ position j
  living-position position j e = gone-elsewhere s k position j (living-other j e) (refuted (waits s j) (λ f. true≢false (sym (lived j e) ∙ (h.waiting_alone j f).living)))

  -- of one that lived
  pub sessions-gone : (xs : List LiveNow) (bytes : ℕ → List ℕ) (position : ℕ → ReadPosition) → map (λ (x : LiveNow). x.id) xs ≡ map (λ (x : Session). x.id) s.sessions
      → SessionsFollow xs s.sessions bytes position → SessionsFollow (filter (λ (x : LiveNow). not (is_live k x)) xs) (filter (λ (x : Session). not (k == x.id)) s.sessions) bytes (gone_position s k position)
  sessions-gone xs bytes position e f = positions-changed (filter (λ (x : LiveNow). not (is_live k x)) xs) (filter (λ (x : Session). not (k == x.id)) s.sessions) bytes position (gone_position s k position)
      (living-position position) (sessions-filtered xs s.sessions bytes position e f)

  -- of one that didn't
  pub sessions-same : (xs : List LiveNow) (bytes : ℕ → List ℕ) (position : ℕ → ReadPosition) → is_living s k ≡ false
      → SessionsFollow xs s.sessions bytes position → SessionsFollow xs (filter (λ (x : Session). not (k == x.id)) s.sessions) bytes (gone_position s k position)
  sessions-same xs bytes position e f = positions-changed xs (filter (λ (x : Session). not (k == x.id)) s.sessions) bytes position (gone_position s k position) (living-position position)
      (subst (λ ss. SessionsFollow xs ss bytes position) (sym (unliving k s e)) f)
