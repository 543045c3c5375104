-- A call takes the first queued request: the driver follows the log with the call, and rests.
use Rattle.std.proofs.Common.{◌∙◌, ◌≡◌, ◌∷◌, Bool, List, Option, [], ap, cond, false, filter, map, refl, sym, true, ℕ}
use Rattle.std.proofs.lemmas.Bool.{true≢false}
use Rattle.std.specs.List.{list_any}
use Rattle.std.specs.Prelude.{◌==◌, ◌||◌, not}
use Rattle.wt_follows.proofs.KeepsLaws.{window-same, windows-same}
use Rattle.wt_follows.proofs.Lifted.{lifted}
use Rattle.wt_follows.proofs.Lists.{all-pass, any-filter, any-map, flip, refuted, same}
use Rattle.wt_follows.proofs.OnceClassified.{requests-distinct}
use Rattle.wt_follows.proofs.OwnRequest.{peers-kept}
use Rattle.wt_follows.proofs.RecordTold.{told-amid}
use Rattle.wt_follows.proofs.RestingCall.{resting-call-follows}
use Rattle.wt_follows.specs.Roles.{AreDistinct, Roles, is_held, is_in}
use Rattle.wt_follows.specs.Tie.{Amid, Follows, Keeps, WorkAmid, classified_as, queued_as}
use Rattle.wt_kept.specs.Classifying.{with_dispatched}
use Rattle.wt_kept.specs.Kept.{DispatchedNow, DriverNow, QueuedRequest}
use Rattle.wt_kept.specs.Moment.{with_work}
use Rattle.wt_turn.specs.Unread.{ReadPosition}
use Rattle.wt_sessions.specs.DriverState.{DriverState, state_of}
use Rattle.wt_sessions.specs.Effect.{log_call}
use Rattle.wt_sessions.specs.Moment.{Fits, MayRecord}
use Rattle.wt_sessions.specs.Step.{after_call}
use Rattle.wt_sessions.specs.StreamTable.{Classified}
use Rattle.wt_turn.specs.Log.{Log, RequestDelivered}
use Rattle.wt_turn.specs.declared.action.Action.{Action}
use Rattle.wt_wire.specs.HeaderList.{Fields}
use Rattle.wt_wire.specs.declared.side.Side.{Side}

-- ---- the first of both

first_pair : List (ℕ × Option Fields) → ℕ
first_pair [] = 0
first_pair (x ∷ xs) = x.0

later_pairs : List (ℕ × Option Fields) → List (ℕ × Option Fields)
later_pairs [] = []
later_pairs (x ∷ xs) = xs

-- where ids stand once, leaving out the id of the first leaves out the first alone
taken-queue : (q : QueuedRequest) (later : List QueuedRequest) (cs : List Classified) → AreDistinct (map (λ (c : Classified). c.id) cs) → map queued_as (q ∷ later) ≡ map classified_as cs
    → map queued_as later ≡ map classified_as (filter (λ (c : Classified). not (q.id == c.id)) cs)
unfolding first_pair later_pairs
taken-queue q later [] distinct e = absurd cc
taken-queue q later (c ∷ cs) distinct e =
    ap later_pairs e
    ∙ ap (λ (xs : List Classified). map classified_as xs)
    (sym ((λ i. cond (not (first i)) (c ∷ filter (λ (x : Classified). not (q.id == x.id)) cs) (filter (λ (x : Classified). not (q.id == x.id)) cs))
    ∙ all-pass (λ (x : Classified). not (q.id == x.id)) cs
    ((λ i. list_any (λ (x : Classified). back (q.id == x.id) i) cs) ∙ ((λ i. list_any (λ (x : Classified). flip q.id x.id i) cs)
    ∙ (sym (any-map (λ (x : Classified). x.id) q.id cs) ∙ (ap (λ k. is_in k (map (λ (x : Classified). x.id) cs)) its ∙ distinct.0))))))
  where
    back : (b : Bool) → not (not b) ≡ b
    back true = refl
    back false = refl

    its : q.id ≡ c.id
    its = ap first_pair e

    first : (q.id == c.id) ≡ true
    first = ap (λ k. k == c.id) its ∙ same c.id

module _ (side : Side) (d : DriverNow) (log : Log) (s : DriverState) (position : ℕ → ReadPosition) (uncollected : List Action) (a : Amid side d log s [] position uncollected)
    (q : QueuedRequest) (later : List QueuedRequest) (queue : d.work.dispatched.requests.queued ≡ q ∷ later) (distinct : AreDistinct (map (λ (c : Classified). c.id) s.dispatched.requests)) where
  -- the state then
  abbrev z : DriverState
  z = after_call (RequestDelivered q.id) s

  abbrev kept : DispatchedNow
  kept = d.work.dispatched

  abbrev kept_then : DispatchedNow
  kept_then = record kept { requests = record kept.requests { queued = later } }

  was-held : (j : ℕ) → is_held z j ≡ true → is_held s j ≡ true
  was-held j e = by (is_in j s.dispatched.held) e
    where
      by : (b : Bool) → (b || list_any (λ (c : Classified). c.id == j) (filter (λ (c : Classified). not (q.id == c.id)) s.dispatched.requests)) ≡ true → (b || list_any (λ (c : Classified). c.id == j) s.dispatched.requests) ≡ true
      by true f = refl
      by false f = any-filter (λ (c : Classified). c.id == j) (λ (c : Classified). not (q.id == c.id)) s.dispatched.requests f

  not-held : (j : ℕ) → is_held s j ≡ false → is_held z j ≡ false
  not-held j e = refuted (is_held z j) (λ f. true≢false (sym (was-held j f) ∙ e))

  keeps-then : Keeps kept_then z
  keeps-then = let h = a.work.keeps in record {
    control = h.control;
    encoder = h.encoder;
    decoder = h.decoder;
    settings = h.settings;
    queued = taken-queue q later s.dispatched.requests distinct (ap (λ (qs : List QueuedRequest). map queued_as qs) (sym queue) ∙ h.queued);
    held = h.held;
    living = h.living;
    windows = windows-same s.dispatched z.dispatched refl refl (λ k. refl) kept.sessions.living h.windows;
    early = window-same s.dispatched z.dispatched refl refl (λ k. refl) kept.sessions.early (λ k. not (s.dispatched.is_established k)) h.early;
    gone = h.gone;
    gone_named = h.gone_named;
    closed = h.closed;
    established = h.established;
    alive = h.alive;
    named = h.named;
    named_streams = h.named_streams;
    named_datagrams = h.named_datagrams;
    unjoined = h.unjoined;
    fault = h.fault;
  }

  roles-then : Roles z
  roles-then = let r = a.work.roles in record {
    unis = r.unis;
    bis = r.bis;
    kinds = r.kinds;
    arriving = λ j e. let p = r.arriving j e in record { critical = p.critical; held = not-held j p.held; living = p.living; waits = p.waits; member = p.member; gone = p.gone };
    living = r.living;
    living_alone = r.living_alone;
    requests_alone = λ j e. r.requests_alone j (was-held j e);
    waiting = r.waiting;
    waiting_alone = λ j e. let p = r.waiting_alone j e in record { arriving = p.arriving; critical = p.critical; held = not-held j p.held; living = p.living };
    waiting_unjoined = r.waiting_unjoined;
    members_alone = λ j session e. let p = r.members_alone j session e in record { arriving = p.arriving; critical = p.critical; held = not-held j p.held; living = p.living };
    members_once = r.members_once;
    members_distinct = r.members_distinct;
    held = r.held;
  }

  work-then : WorkAmid side (record d.work { dispatched = kept_then }) log z [] position uncollected
  work-then = record {
    transport = a.work.transport;
    is_open_same = a.work.is_open_same;
    keeps = keeps-then;
    roles = roles-then;
    placed = let p = a.work.placed in record { headers = p.headers; members = p.members; heads = p.heads; untouched = p.untouched; arriving = p.arriving; unopened = p.unopened };
    there = let t = a.work.there in record {
      unis = t.unis;
      bis = t.bis;
      arriving = t.arriving;
      waiting = t.waiting;
      living = t.living;
      held = λ j e. t.held j (was-held j e);
      members = t.members;
      critical = t.critical;
      gone = t.gone;
      own = t.own;
      kinds = t.kinds;
      few = t.few;
      peers = peers-kept side s z (λ j e. e) (λ j e. e) was-held (λ j e. e) t.peers;
    };
    sends = record { arriving = λ j e. refl; waiting = λ j e. refl; members = λ j k e f. refl; living = a.work.sends.living; own = a.work.sends.own };
    control = λ e. a.work.control e;
    sessions = λ e. a.work.sessions e;
  }

  -- the request was given
  pub taken-amid : Amid side (with_work (with_dispatched (λ (x : DispatchedNow). record x { requests = record x.requests { queued = later } })) d) log (after_call (RequestDelivered q.id) s) [] position uncollected
  taken-amid = lifted side d log s [] position uncollected a (record d.work { dispatched = kept_then }) z [] position uncollected work-then (λ kind. refl) refl refl refl (λ e. e) (λ j e. refl) refl (λ c n. (n, refl))

module _ (side : Side) (d : DriverNow) (log : Log) (uncollected : List Action) (f : Follows side d log uncollected) (fits : Fits side log)
    (q : QueuedRequest) (later : List QueuedRequest) (queue : d.work.dispatched.requests.queued ≡ q ∷ later) (recorded : MayRecord side log (RequestDelivered q.id)) where
  abbrev delivered : DriverState
  delivered = after_call (RequestDelivered q.id) (state_of side log)

  abbrev driver_then : DriverNow
  driver_then = with_work (with_dispatched (λ (x : DispatchedNow). record x { requests = record x.requests { queued = later } })) d

  -- the driver follows the log with the call, and rests
  pub request-follows : Follows side (with_work (with_dispatched (λ (x : DispatchedNow). record x { requests = record x.requests { queued = later } })) d) (log_call side log [] (RequestDelivered q.id)) uncollected
  request-follows =
      resting-call-follows side log (RequestDelivered q.id) fits recorded d uncollected f driver_then.work refl (λ h. h) delivered refl
      (record { unis = refl; bis = refl; sessions = refl; control = refl; encoder = refl; decoder = refl; progress = refl; sent = refl; is_open = refl })
      (told-amid side log (RequestDelivered q.id) (record { gives = λ k. refl; reads = λ k. refl; resets = λ k. refl; priorities = λ k. refl }) driver_then delivered f.position uncollected
      (taken-amid side d log (state_of side log) f.position uncollected f.amid q later queue (requests-distinct side log)))
