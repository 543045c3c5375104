-- The halves of streams end on the transport, one stream after another, as the log has it where no stream stands twice.
use Rattle.std.proofs.Common.{arith, tests, ◌∙◌, ◌≡◌, ◌++◌, ◌+◌, ◌/◌, ◌%◌, ◌∷◌, Bool, List, [], ap, false, flat_map, refl, subst, sym, true, ℕ}
use Rattle.std.proofs.lemmas.Bool.{eqb-true, or_parts, true≢false}
use Rattle.std.specs.Prelude.{◌==◌, ◌||◌, ◌&&◌, if◌then◌else◌, nat_lt, not}
use Rattle.wt_follows.proofs.Lists.{or-true, refuted, same}
use Rattle.wt_follows.specs.Roles.{AreDistinct, is_in}
use Rattle.wt_kept.specs.Ending.{end_stream, end_streams, give_up_all, give_up_now}
use Rattle.wt_meaning.specs.Sends.{action_if}
use Rattle.wt_transport.proofs.Refining.{give_up_refines, refined_can_receive}
use Rattle.wt_transport.proofs.StillRunning.{reset_running_refines, stop_running_refines}
use Rattle.wt_transport.specs.Running.{reset_running_now, still_receives, stop_running_now}
use Rattle.wt_transport.specs.Step.{after_give_up, can_receive_now}
use Rattle.wt_transport.specs.State.{Refines, TransportState}
use Rattle.wt_turn.specs.Joined.{newest_first}
use Rattle.wt_turn.specs.Outgoing.{if_open, reset_entry}
use Rattle.wt_turn.specs.Sent.{is_finished, is_reset}
use Rattle.wt_turn.specs.Streams.{can_receive, can_send, exists, local_count, local_uni, one_more_if, opens, peer_count}
use Rattle.wt_turn.specs.Unread.{GivenUp, ReadPosition, given_up}
use Rattle.wt_sessions.specs.Driver.{still_sends}
use Rattle.wt_turn.specs.Log.{Called, Log, ResetUnsent, Sent, actions_of, all_events_of, calls_of, events_of, is_open, with_actions}
use Rattle.wt_turn.specs.declared.action.Action.{Action}
use Rattle.wt_wire.specs.Codes.{code_of}
use Rattle.wt_wire.specs.declared.side.Side.{Side}
use Rattle.wt_turn.specs.declared.action.Action.TheVariants as actions
use Rattle.wt_wire.specs.declared.error.ErrorCode.TheVariants as h3

-- ---- a log with more actions

pub actions-events : (xs : List Action) (log : Log) → events_of (with_actions xs log) ≡ events_of log
actions-events [] log = refl
actions-events (a ∷ later) log = actions-events later (Sent a ∷ log)

pub actions-all-events : (xs : List Action) (log : Log) → all_events_of (with_actions xs log) ≡ all_events_of log
actions-all-events [] log = refl
actions-all-events (a ∷ later) log = actions-all-events later (Sent a ∷ log)

pub actions-calls : (xs : List Action) (log : Log) → calls_of (with_actions xs log) ≡ calls_of log
actions-calls [] log = refl
actions-calls (a ∷ later) log = actions-calls later (Sent a ∷ log)

pub actions-append : (xs ys : List Action) (log : Log) → with_actions (xs ++ ys) log ≡ with_actions ys (with_actions xs log)
actions-append [] ys log = refl
actions-append (a ∷ xs) ys log = actions-append xs ys (Sent a ∷ log)

pub newest-append : (xs ys before : List Action) → newest_first (xs ++ ys) before ≡ newest_first ys (newest_first xs before)
newest-append [] ys before = refl
newest-append (a ∷ xs) ys before = newest-append xs ys (a ∷ before)

-- a stream that is there stays
less-more : (b : Bool) (i p n : ℕ) → nat_lt i (p + n) ≡ true → nat_lt i (p + one_more_if b n) ≡ true
less-more true i p n e = grind (arith, tests)
less-more false i p n e = e

module _ (side : Side) where
  pub exists-then : (xs : List Action) (log : Log) (k : ℕ) → exists side log k ≡ true → exists side (with_actions xs log) k ≡ true
  exists-then [] log k e = e
  exists-then (a ∷ later) log k e =
      exists-then later (Sent a ∷ log) k (less-more (opens (k % 4) a) (k / 4) (peer_count side (all_events_of log) (k % 4)) (local_count (actions_of log) (k % 4)) e)

  pub receives-then : (xs : List Action) (log : Log) (k : ℕ) → can_receive side log k ≡ true → can_receive side (with_actions xs log) k ≡ true
  receives-then xs log k e = by (exists side log k) refl e
    where
      by : (b : Bool) → exists side log k ≡ b → (b && not (local_uni side == k % 4)) ≡ true → can_receive side (with_actions xs log) k ≡ true
      by true x f = ap (λ b. b && not (local_uni side == k % 4)) (exists-then xs log k x) ∙ f
      by false x f = absurd (true≢false (sym f))

  pub there : (log : Log) (k : ℕ) → can_receive side log k ≡ true → exists side log k ≡ true
  there log k e = by (exists side log k) e
    where
      by : (b : Bool) → (b && not (local_uni side == k % 4)) ≡ true → b ≡ true
      by true f = refl
      by false f = absurd (true≢false (sym f))

  -- what refines a log with actions after actions refines it with both
  pub both-refine : (t : TransportState) (position : ℕ → ReadPosition) (xs ys : List Action) (log : Log) (before : List Action)
      → Refines side t (with_actions ys (with_actions xs log)) position (newest_first ys (newest_first xs before))
      → Refines side t (with_actions (xs ++ ys) log) position (newest_first (xs ++ ys) before)
  both-refine t position xs ys log before r =
      subst (λ (g : Log). Refines side t g position (newest_first (xs ++ ys) before)) (sym (actions-append xs ys log))
      (subst (λ (u : List Action). Refines side t (with_actions ys (with_actions xs log)) position u) (sym (newest-append xs ys before)) r)

-- ---- the halves of one stream

-- the actions that end the halves of a stream that still run
abbrev pub ends_by : Bool → Bool → ℕ → List Action
ends_by receives sends k = action_if receives (actions.StopOut k (code_of h3.SessionGone)) ++ action_if sends (actions.ResetOut k (code_of h3.SessionGone))

module _ (side : Side) (k : ℕ) (log : Log) where
  pub ends-open : (r s : Bool) → is_open (with_actions (ends_by r s k) log) ≡ is_open log
  ends-open true true = refl
  ends-open true false = refl
  ends-open false true = refl
  ends-open false false = refl

  pub ends-finished : (r s : Bool) (j : ℕ) → is_finished (actions_of (with_actions (ends_by r s k) log)) j ≡ is_finished (actions_of log) j
  ends-finished true true j = refl
  ends-finished true false j = refl
  ends-finished false true j = refl
  ends-finished false false j = refl

  pub ends-receive : (r s : Bool) (j : ℕ) (position : ℕ → ReadPosition) → still_receives side (with_actions (ends_by r s k) log) position j ≡ still_receives side log position j
  ends-receive true true j position = refl
  ends-receive true false j position = refl
  ends-receive false true j position = refl
  ends-receive false false j position = refl

  pub ends-can-send : (r s : Bool) (j : ℕ) → can_send side (with_actions (ends_by r s k) log) j ≡ can_send side log j
  ends-can-send true true j = refl
  ends-can-send true false j = refl
  ends-can-send false true j = refl
  ends-can-send false false j = refl

  pub ends-reset : (r s : Bool) (j : ℕ) → (k == j) ≡ false → is_reset (with_actions (ends_by r s k) log) j ≡ is_reset log j
  ends-reset true true j e = ap (λ b. b || is_reset log j) e
  ends-reset true false j e = refl
  ends-reset false true j e = ap (λ b. b || is_reset log j) e
  ends-reset false false j e = refl

  pub ends-sends : (r s : Bool) (j : ℕ) → (k == j) ≡ false → still_sends side (with_actions (ends_by r s k) log) j ≡ still_sends side log j
  ends-sends r s j e = λ i. ends-can-send r s j i && not (ends-finished r s j i) && not (ends-reset r s j e i)

abbrev stop_it : ℕ → Action
stop_it k = actions.StopOut k (code_of h3.SessionGone)

abbrev reset_it : ℕ → Action
reset_it k = actions.ResetOut k (code_of h3.SessionGone)

module _ (side : Side) (t : TransportState) (log : Log) (position : ℕ → ReadPosition) (uncollected : List Action) (r : Refines side t log position uncollected) (open_ : is_open log ≡ true) (k : ℕ) where
  if-actions : (b : Bool) (a : Action) → (if b then if_open log a else []) ≡ action_if b a
  if-actions true a = ap (λ (o : Bool). if o then a ∷ [] else []) open_
  if-actions false a = refl

  if-reset : (b : Bool) → (if b then reset_entry log k (code_of h3.SessionGone) ∷ log else log) ≡ with_actions (action_if b (reset_it k)) log
  if-reset true = ap (λ (o : Bool). (if o then Sent (reset_it k) else Called (ResetUnsent k (code_of h3.SessionGone))) ∷ log) open_
  if-reset false = refl

  stopped : (b : Bool) → still_receives side log position k ≡ b
      → Refines side (stop_running_now t k (code_of h3.SessionGone)) (with_actions (action_if b (stop_it k)) log) position (newest_first (action_if b (stop_it k)) uncollected)
  stopped b e = subst (λ (xs : List Action). Refines side (stop_running_now t k (code_of h3.SessionGone)) (with_actions xs log) position (newest_first xs uncollected))
      ((λ i. if e i then if_open log (stop_it k) else []) ∙ if-actions b (stop_it k)) (stop_running_refines side t log position uncollected r k (code_of h3.SessionGone))

  was-reset : (b : Bool) → still_sends side log k ≡ b
      → Refines side (reset_running_now t k (code_of h3.SessionGone)) (with_actions (action_if b (reset_it k)) log) position (newest_first (action_if b (reset_it k)) uncollected)
  was-reset b e = subst (λ (xs : List Action). Refines side (reset_running_now t k (code_of h3.SessionGone)) (with_actions (action_if b (reset_it k)) log) position (newest_first xs uncollected))
      ((λ i. if e i then if_open log (reset_it k) else []) ∙ if-actions b (reset_it k))
      (subst (λ (g : Log). Refines side (reset_running_now t k (code_of h3.SessionGone)) g position (newest_first (if still_sends side log k then if_open log (reset_it k) else []) uncollected))
      ((λ i. if e i then reset_entry log k (code_of h3.SessionGone) ∷ log else log) ∙ if-reset b) (reset_running_refines side t log position uncollected r k (code_of h3.SessionGone)))

stop-open : (b : Bool) (k : ℕ) (log : Log) → is_open (with_actions (action_if b (stop_it k)) log) ≡ is_open log
stop-open true k log = refl
stop-open false k log = refl

stop-sends : (side : Side) (b : Bool) (k j : ℕ) (log : Log) → still_sends side (with_actions (action_if b (stop_it k)) log) j ≡ still_sends side log j
stop-sends side true k j log = refl
stop-sends side false k j log = refl

-- one stream ends
pub end-one : (side : Side) (t : TransportState) (log : Log) (position : ℕ → ReadPosition) (uncollected : List Action) → Refines side t log position uncollected → is_open log ≡ true
    → (k : ℕ) (r s : Bool) → still_receives side log position k ≡ r → still_sends side log k ≡ s
    → Refines side (end_stream t k) (with_actions (ends_by r s k) log) position (newest_first (ends_by r s k) uncollected)
end-one side t log position uncollected refines o k r s er es =
    both-refine side (end_stream t k) position (action_if r (stop_it k)) (action_if s (reset_it k)) log uncollected
    (was-reset side (stop_running_now t k (code_of h3.SessionGone)) (with_actions (action_if r (stop_it k)) log) position (newest_first (action_if r (stop_it k)) uncollected)
    (stopped side t log position uncollected refines o k r er) (stop-open r k log ∙ o) k s (stop-sends side r k k log ∙ es))

-- ---- the halves of several

module _ (side : Side) (position : ℕ → ReadPosition) (receives sends : ℕ → Bool) where
  -- what goes out for them
  abbrev pub all_ends : List ℕ → List Action
  all_ends ids = flat_map (λ (k : ℕ). ends_by (receives k) (sends k) k) ids

  -- both halves run as these tests say
  pub record RunsSo (log : Log) (k : ℕ) : Type 0 where
    pub received : still_receives side log position k ≡ receives k
    pub sent : still_sends side log k ≡ sends k

  pub all-open : (ids : List ℕ) (log : Log) → is_open (with_actions (all_ends ids) log) ≡ is_open log
  all-open [] log = refl
  all-open (k ∷ ks) log = ap is_open (actions-append (ends_by (receives k) (sends k) k) (all_ends ks) log)
      ∙ (all-open ks (with_actions (ends_by (receives k) (sends k) k) log) ∙ ends-open side k log (receives k) (sends k))

  pub all-finished : (ids : List ℕ) (log : Log) (j : ℕ) → is_finished (actions_of (with_actions (all_ends ids) log)) j ≡ is_finished (actions_of log) j
  all-finished [] log j = refl
  all-finished (k ∷ ks) log j = ap (λ (g : Log). is_finished (actions_of g) j) (actions-append (ends_by (receives k) (sends k) k) (all_ends ks) log)
      ∙ (all-finished ks (with_actions (ends_by (receives k) (sends k) k) log) j ∙ ends-finished side k log (receives k) (sends k) j)

  pub all-reset : (ids : List ℕ) (log : Log) (j : ℕ) → is_in j ids ≡ false → is_reset (with_actions (all_ends ids) log) j ≡ is_reset log j
  all-reset [] log j e = refl
  all-reset (k ∷ ks) log j e = let parts = or_parts (k == j) (is_in j ks) e in
      ap (λ (g : Log). is_reset g j) (actions-append (ends_by (receives k) (sends k) k) (all_ends ks) log)
      ∙ (all-reset ks (with_actions (ends_by (receives k) (sends k) k) log) j parts.1 ∙ ends-reset side k log (receives k) (sends k) j parts.0)

  pub all-sends : (ids : List ℕ) (log : Log) (j : ℕ) → is_in j ids ≡ false → still_sends side (with_actions (all_ends ids) log) j ≡ still_sends side log j
  all-sends [] log j e = refl
  all-sends (k ∷ ks) log j e = let parts = or_parts (k == j) (is_in j ks) e in
      ap (λ (g : Log). still_sends side g j) (actions-append (ends_by (receives k) (sends k) k) (all_ends ks) log)
      ∙ (all-sends ks (with_actions (ends_by (receives k) (sends k) k) log) j parts.1 ∙ ends-sends side k log (receives k) (sends k) j parts.0)

  apart : (k j : ℕ) (ks : List ℕ) → is_in k ks ≡ false → is_in j ks ≡ true → (k == j) ≡ false
  apart k j ks e f = refuted (k == j) (λ g. true≢false (sym f ∙ (ap (λ (i : ℕ). is_in i ks) (sym (eqb-true k j g)) ∙ e)))

  pub end-all : (ids : List ℕ) (t : TransportState) (log : Log) (uncollected : List Action) → AreDistinct ids → ((k : ℕ) → is_in k ids ≡ true → RunsSo log k) → is_open log ≡ true
      → Refines side t log position uncollected → Refines side (end_streams t ids) (with_actions (all_ends ids) log) position (newest_first (all_ends ids) uncollected)
  end-all [] t log uncollected distinct runs o r = r
  end-all (k ∷ ks) t log uncollected distinct runs o r =
      both-refine side (end_streams (end_stream t k) ks) position (ends_by (receives k) (sends k) k) (all_ends ks) log uncollected
      (end-all ks (end_stream t k) (with_actions (ends_by (receives k) (sends k) k) log) (newest_first (ends_by (receives k) (sends k) k) uncollected) distinct.1
      (λ j e. record {
        received = ends-receive side k log (receives k) (sends k) j position ∙ (runs j (ap (λ b. (k == j) || b) e ∙ or-true (k == j))).received;
        sent = ends-sends side k log (receives k) (sends k) j (apart k j ks distinct.0 e) ∙ (runs j (ap (λ b. (k == j) || b) e ∙ or-true (k == j))).sent;
      })
      (ends-open side k log (receives k) (sends k) ∙ o)
      (end-one side t log position uncollected r o k (receives k) (sends k) (runs k (ap (λ b. b || is_in k ks) (same k))).received (runs k (ap (λ b. b || is_in k ks) (same k))).sent))

-- ---- streams that are given up

-- the positions once these are given up
abbrev pub all_given_up : (ℕ → ReadPosition) → List ℕ → ℕ → ReadPosition
all_given_up position [] = position
all_given_up position (k ∷ ks) = all_given_up (given_up position k) ks

pub given-up-apart : (position : ℕ → ReadPosition) (k j : ℕ) → (k == j) ≡ false → given_up position k j ≡ position j
given-up-apart position k j e = ap (λ (b : Bool). if b then GivenUp else position j) e

pub all-given-up-apart : (ks : List ℕ) (position : ℕ → ReadPosition) (j : ℕ) → is_in j ks ≡ false → all_given_up position ks j ≡ position j
all-given-up-apart [] position j e = refl
all-given-up-apart (k ∷ ks) position j e = let parts = or_parts (k == j) (is_in j ks) e in
    all-given-up-apart ks (given_up position k) j parts.1 ∙ given-up-apart position k j parts.0

pub give-up-one : (side : Side) (t : TransportState) (log : Log) (position : ℕ → ReadPosition) (uncollected : List Action) (k : ℕ) → can_receive side log k ≡ true
    → Refines side t log position uncollected → Refines side (give_up_now t k) log (given_up position k) uncollected
give-up-one side t log position uncollected k e r = by (can_receive_now t k) refl (refined_can_receive side t log position uncollected r k ∙ e)
  where
    by : (b : Bool) → can_receive_now t k ≡ b → b ≡ true → Refines side (if b then after_give_up t k else t) log (given_up position k) uncollected
    by true f g = give_up_refines side t log position uncollected r k f
    by false f g = absurd (true≢false (sym g))

pub give-up-each : (side : Side) (ks : List ℕ) (t : TransportState) (log : Log) (position : ℕ → ReadPosition) (uncollected : List Action)
    → ((k : ℕ) → is_in k ks ≡ true → can_receive side log k ≡ true) → Refines side t log position uncollected → Refines side (give_up_all t ks) log (all_given_up position ks) uncollected
give-up-each side [] t log position uncollected e r = r
give-up-each side (k ∷ ks) t log position uncollected e r =
    give-up-each side ks (give_up_now t k) log (given_up position k) uncollected (λ j f. e j (ap (λ b. (k == j) || b) f ∙ or-true (k == j)))
    (give-up-one side t log position uncollected k (e k (ap (λ b. b || is_in k ks) (same k))) r)
