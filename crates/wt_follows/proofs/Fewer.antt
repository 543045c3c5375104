-- A stream of which a verdict is there leaves those that have none, in the midst of a moment.
use Rattle.std.proofs.Common.{◌∙◌, ◌≡◌, ◌++◌, ◌∷◌, Bool, List, [], ap, false, refl, subst, sym, true, ℕ}
use Rattle.std.proofs.lemmas.Bool.{or_parts}
use Rattle.std.proofs.lemmas.List.Folds.{list_any-append}
use Rattle.std.specs.Prelude.{◌==◌, ◌||◌, if◌then◌else◌}
use Rattle.wt_follows.proofs.Gains.{IsNew}
use Rattle.wt_follows.proofs.Logs.{flip, same-id}
use Rattle.wt_follows.proofs.OwnRequest.{peers-kept}
use Rattle.wt_follows.specs.Roles.{AreDistinct, IsApart, IsSessions, is_arriving, is_in}
use Rattle.wt_follows.specs.Tie.{WorkAmid}
use Rattle.wt_kept.specs.Kept.{WorkNow}
use Rattle.wt_turn.specs.Unread.{ReadPosition}
use Rattle.wt_sessions.specs.DriverState.{DriverState}
use Rattle.wt_turn.specs.Log.{Log}
use Rattle.wt_turn.specs.declared.action.Action.{Action}
use Rattle.wt_wire.specs.Ids.{is_bidirectional}
use Rattle.wt_wire.specs.declared.side.Side.{Side}

-- the state with these streams of a kind that have no verdict
abbrev pub with_ids : Bool → List ℕ → DriverState → DriverState
with_ids b ks s = record s { unis = if b then s.unis else ks; bis = if b then ks else s.bis }

-- those of a kind
abbrev pub ids_in : Bool → DriverState → List ℕ
ids_in b s = if b then s.bis else s.unis

or-some : (a : Bool) → (a || true) ≡ true
or-some true = refl
or-some false = refl

-- ---- ids in two parts

pub in-parts : (j : ℕ) (xs ys : List ℕ) → is_in j (xs ++ ys) ≡ (is_in j xs || is_in j ys)
in-parts j xs ys = list_any-append (λ i. i == j) xs ys

-- one in the middle is there
pub in-middle : (k : ℕ) (front ks : List ℕ) → is_in k (front ++ k ∷ ks) ≡ true
in-middle k front ks = in-parts k front (k ∷ ks) ∙ ((λ i. is_in k front || (same-id k i || is_in k ks)) ∙ or-some (is_in k front))

-- without the one in the middle
without-middle : (j k : ℕ) (front ks : List ℕ) → is_in j (front ++ ks) ≡ true → is_in j (front ++ k ∷ ks) ≡ true
without-middle j k [] ks e = ap (λ b. (k == j) || b) e ∙ or-some (k == j)
without-middle j k (x ∷ front) ks e = by (x == j) e (without-middle j k front ks)
  where
    by : (b : Bool) → (b || is_in j (front ++ ks)) ≡ true → (is_in j (front ++ ks) ≡ true → is_in j (front ++ k ∷ ks) ≡ true) → (b || is_in j (front ++ k ∷ ks)) ≡ true
    by true f again = refl
    by false f again = again f

-- it isn't among the others
pub alone-in : (k : ℕ) (front ks : List ℕ) → AreDistinct (front ++ k ∷ ks) → is_in k (front ++ ks) ≡ false
alone-in k [] ks h = h.0
alone-in k (x ∷ front) ks h =
    let parts = or_parts (is_in x front) (is_in x (k ∷ ks)) (sym (in-parts x front (k ∷ ks)) ∙ h.0) in
    let apart : (k == x) ≡ false = (or_parts (k == x) (is_in x ks) parts.1).0 in
    λ i. flip k x apart i || alone-in k front ks h.1 i

pub distinct-rest : (k : ℕ) (front ks : List ℕ) → AreDistinct (front ++ k ∷ ks) → AreDistinct (front ++ ks)
distinct-rest k [] ks h = h.1
distinct-rest k (x ∷ front) ks h =
    let parts = or_parts (is_in x front) (is_in x (k ∷ ks)) (sym (in-parts x front (k ∷ ks)) ∙ h.0) in
    (in-parts x front ks ∙ (λ i. parts.0 i || (or_parts (k == x) (is_in x ks) parts.1).1 i), distinct-rest k front ks h.1)

pub not-behind : (k : ℕ) (front ks : List ℕ) → AreDistinct (front ++ k ∷ ks) → is_in k ks ≡ false
not-behind k front ks h = (or_parts (is_in k front) (is_in k ks) (sym (in-parts k front ks) ∙ alone-in k front ks h)).1

-- the streams of a kind arrive
pub listed : (b : Bool) (s : DriverState) (ks : List ℕ) (j : ℕ) → is_in j ks ≡ true → is_arriving (with_ids b ks s) j ≡ true
listed true s ks j e = ap (λ a. is_in j s.unis || a) e ∙ or-some (is_in j s.unis)
listed false s ks j e = ap (λ a. a || is_in j s.bis) e

pub in-behind : (j k : ℕ) (front ks : List ℕ) → is_in j ks ≡ true → is_in j (front ++ k ∷ ks) ≡ true
in-behind j k front ks e = in-parts j front (k ∷ ks) ∙ ((λ i. is_in j front || ((k == j) || e i)) ∙ (ap (λ a. is_in j front || a) (or-some (k == j)) ∙ or-some (is_in j front)))

-- ---- the tie

module _ (side : Side) (w : WorkNow) (log : Log) (s : DriverState) (sent : List Action) (position : ℕ → ReadPosition) (uncollected : List Action) (b : Bool) (front : List ℕ) (k : ℕ) (ks : List ℕ)
    (amid : WorkAmid side w log (with_ids b (front ++ k ∷ ks) s) sent position uncollected) where
  abbrev full : DriverState
  full = with_ids b (front ++ k ∷ ks) s

  abbrev less : DriverState
  less = with_ids b (front ++ ks) s

  unis-less : (j : ℕ) → is_in j less.unis ≡ true → is_in j full.unis ≡ true
  unis-less j = by b
    where
      by : (c : Bool) → is_in j (if c then s.unis else front ++ ks) ≡ true → is_in j (if c then s.unis else front ++ k ∷ ks) ≡ true
      by true e = e
      by false e = without-middle j k front ks e

  bis-less : (j : ℕ) → is_in j less.bis ≡ true → is_in j full.bis ≡ true
  bis-less j = by b
    where
      by : (c : Bool) → is_in j (if c then front ++ ks else s.bis) ≡ true → is_in j (if c then front ++ k ∷ ks else s.bis) ≡ true
      by true e = without-middle j k front ks e
      by false e = e

  arriving-less : (j : ℕ) → is_arriving less j ≡ true → is_arriving full j ≡ true
  arriving-less j e = by (is_in j less.unis) refl e
    where
      by : (c : Bool) → is_in j less.unis ≡ c → (c || is_in j less.bis) ≡ true → is_arriving full j ≡ true
      by true f g = ap (λ a. a || is_in j full.bis) (unis-less j f)
      by false f g = ap (λ a. is_in j full.unis || a) (bis-less j g) ∙ or-some (is_in j full.unis)

  none-less : (j : ℕ) → is_arriving full j ≡ false → is_arriving less j ≡ false
  none-less j e = by (is_arriving less j) refl
    where
      by : (c : Bool) → is_arriving less j ≡ c → is_arriving less j ≡ false
      by false f = f
      by true f = absurd (let g = arriving-less j f in cc)

  apart-less : (j : ℕ) → IsApart full j → IsApart less j
  apart-less j a = record { critical = a.critical; held = a.held; living = a.living; waits = a.waits; member = a.member; gone = a.gone }

  sessions-less : (j : ℕ) → IsSessions full j → IsSessions less j
  sessions-less j a = record { arriving = none-less j a.arriving; critical = a.critical; held = a.held; living = a.living }

  distinct-unis : AreDistinct less.unis
  distinct-unis = by b amid.roles.unis
    where
      by : (c : Bool) → AreDistinct (if c then s.unis else front ++ k ∷ ks) → AreDistinct (if c then s.unis else front ++ ks)
      by true h = h
      by false h = distinct-rest k front ks h

  distinct-bis : AreDistinct less.bis
  distinct-bis = by b amid.roles.bis
    where
      by : (c : Bool) → AreDistinct (if c then front ++ k ∷ ks else s.bis) → AreDistinct (if c then front ++ ks else s.bis)
      by true h = distinct-rest k front ks h
      by false h = h

  kinds-less : (j : ℕ) → is_in j less.unis ≡ true → is_in j less.bis ≡ false
  kinds-less j e = by (is_in j less.bis) refl
    where
      by : (c : Bool) → is_in j less.bis ≡ c → is_in j less.bis ≡ false
      by false f = f
      by true f = absurd (let g = amid.roles.kinds j (unis-less j e) in let h = bis-less j f in cc)

  pub fewer : WorkAmid side w log less sent position uncollected
  fewer = record {
    transport = amid.transport;
    is_open_same = amid.is_open_same;
    keeps = record {
      control = amid.keeps.control;
      encoder = amid.keeps.encoder;
      decoder = amid.keeps.decoder;
      settings = amid.keeps.settings;
      queued = amid.keeps.queued;
      held = amid.keeps.held;
      living = amid.keeps.living;
      windows = amid.keeps.windows;
      early = amid.keeps.early;
      gone = amid.keeps.gone;
      gone_named = amid.keeps.gone_named;
      closed = amid.keeps.closed;
      established = amid.keeps.established;
      alive = amid.keeps.alive;
      named = amid.keeps.named;
      named_streams = amid.keeps.named_streams;
      named_datagrams = amid.keeps.named_datagrams;
      unjoined = amid.keeps.unjoined;
      fault = amid.keeps.fault;
    };
    roles = record {
      unis = distinct-unis;
      bis = distinct-bis;
      kinds = kinds-less;
      arriving = λ j e. apart-less j (amid.roles.arriving j (arriving-less j e));
      living = amid.roles.living;
      living_alone = amid.roles.living_alone;
      requests_alone = amid.roles.requests_alone;
      waiting = amid.roles.waiting;
      waiting_alone = λ j e. sessions-less j (amid.roles.waiting_alone j e);
      waiting_unjoined = amid.roles.waiting_unjoined;
      members_alone = λ j session e. sessions-less j (amid.roles.members_alone j session e);
      members_distinct = amid.roles.members_distinct;
      members_once = amid.roles.members_once;
      held = amid.roles.held;
    };
    placed = record {
      headers = amid.placed.headers;
      members = amid.placed.members;
      untouched = amid.placed.untouched;
      arriving = λ j e. amid.placed.arriving j (arriving-less j e);
      unopened = amid.placed.unopened;
      heads = amid.placed.heads;
    };
    there = record {
      unis = λ j e. amid.there.unis j (unis-less j e);
      bis = λ j e. amid.there.bis j (bis-less j e);
      arriving = λ j e. amid.there.arriving j (arriving-less j e);
      waiting = amid.there.waiting;
      living = amid.there.living;
      held = amid.there.held;
      members = amid.there.members;
      critical = amid.there.critical;
      gone = amid.there.gone;
      own = amid.there.own;
      kinds = amid.there.kinds;
      few = amid.there.few;
      peers = peers-kept side full less arriving-less (λ j e. e) (λ j e. e) (λ j e. e) amid.there.peers;
    };
    sends = record {
      arriving = λ j e. amid.sends.arriving j (arriving-less j e);
      waiting = amid.sends.waiting;
      members = amid.sends.members;
      living = amid.sends.living;
      own = amid.sends.own;
    };
    control = amid.control;
    sessions = amid.sessions;
  }

  -- the one in the middle is arriving before
  pub its-arriving : is_arriving full k ≡ true
  its-arriving = by b
    where
      by : (c : Bool) → (is_in k (if c then s.unis else front ++ k ∷ ks) || is_in k (if c then front ++ k ∷ ks else s.bis)) ≡ true
      by true = ap (λ a. is_in k s.unis || a) (in-middle k front ks) ∙ or-some (is_in k s.unis)
      by false = ap (λ a. a || is_in k s.bis) (in-middle k front ks)

  pub its-kind : is_bidirectional k ≡ b
  its-kind = by b refl
    where
      by : (c : Bool) → b ≡ c → is_bidirectional k ≡ b
      by true e = amid.there.bis k (ap (λ d. is_in k (if d then front ++ k ∷ ks else s.bis)) e ∙ in-middle k front ks) ∙ sym e
      by false e = amid.there.unis k (ap (λ d. is_in k (if d then s.unis else front ++ k ∷ ks)) e ∙ in-middle k front ks) ∙ sym e

  -- each stands there once
  pub all-distinct : AreDistinct (front ++ k ∷ ks)
  all-distinct = by b refl
    where
      by : (c : Bool) → b ≡ c → AreDistinct (front ++ k ∷ ks)
      by true e = subst (λ d. AreDistinct (if d then front ++ k ∷ ks else s.bis)) e amid.roles.bis
      by false e = subst (λ d. AreDistinct (if d then s.unis else front ++ k ∷ ks)) e amid.roles.unis

  -- and not after
  gone-now : is_arriving less k ≡ false
  gone-now = by b amid.roles.kinds
    where
      absent : (f : Bool) → (f ≡ true → is_in k (front ++ k ∷ ks) ≡ false) → f ≡ false
      absent false h = refl
      absent true h = absurd (let e = h refl in let g = in-middle k front ks in cc)

      by : (c : Bool) → ((j : ℕ) → is_in j (if c then s.unis else front ++ k ∷ ks) ≡ true → is_in j (if c then front ++ k ∷ ks else s.bis) ≡ false)
          → (is_in k (if c then s.unis else front ++ ks) || is_in k (if c then front ++ ks else s.bis)) ≡ false
      by true h = λ i. absent (is_in k s.unis) (h k) i || alone-in k front ks all-distinct i
      by false h = λ i. alone-in k front ks all-distinct i || h k (in-middle k front ks) i

  pub is-new : IsNew side log sent less k
  is-new = record {
    apart = apart-less k (amid.roles.arriving k its-arriving);
    arriving = gone-now;
    untouched = amid.placed.arriving k its-arriving;
    receives = amid.there.arriving k its-arriving;
    peers = amid.there.peers.arriving k its-arriving;
    sends = amid.sends.arriving k its-arriving;
  }
