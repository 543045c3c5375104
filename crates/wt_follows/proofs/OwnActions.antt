-- What goes out on this end's control stream: it is opened, and bytes are sent on it.
use Rattle.std.proofs.Common.{◌∙◌, ◌≡◌, ◌≤◌, ◌<◌, ◌+◌, ◌-◌, ◌/◌, ◌%◌, ◌++◌, ◌∷◌, Bool, List, [], add-zero, ap, arith, drop, false, inl, inr, length, min, nat_lt, refl, suc, sym, take, true, zero, ℕ}
use Rattle.std.proofs.lemmas.Bool.Decides.{nat_tests}
use Rattle.std.proofs.lemmas.Bool.{cases_lt, eq-eqb, ne_eqb}
use Rattle.std.proofs.lemmas.List.{length-append, length-drop, length-take}
use Rattle.std.specs.Prelude.{◌==◌, ◌||◌, if◌then◌else◌, not}
use Rattle.wt_follows.proofs.Logs.{same-id}
use Rattle.wt_meaning.specs.Sends.{action_if}
use Rattle.wt_turn.specs.Joined.{send_of}
use Rattle.wt_turn.specs.Sent.{is_finished, is_reset, sent_on}
use Rattle.wt_turn.specs.Streams.{exists, local_count, local_uni, one_more_if, peer_bi, peer_count, peer_opens, peer_uni, stream_count}
use Rattle.wt_sessions.specs.Driver.{control_sent}
use Rattle.wt_turn.specs.Log.{Event, Log, PeerBi, PeerUni, actions_of, all_events_of, events_of, is_open, with_actions}
use Rattle.wt_turn.specs.declared.action.Action.{Action}
use Rattle.wt_turn.specs.declared.action.Action.TheVariants as actions
use Rattle.wt_wire.specs.declared.side.Side.{Side}
use Rattle.wt_wire.specs.declared.side.Side.TheVariants.{Client, Server}

-- it is opened, where the test holds, and these bytes are sent
abbrev pub own_actions : ℕ → Bool → List ℕ → List Action
own_actions id b part = action_if b (actions.Opened id) ++ send_of id part

-- ---- its id

pub low : (side : Side) → local_uni side % 4 ≡ local_uni side
low Client = refl
low Server = refl

pub first-of-kind : (side : Side) → local_uni side / 4 ≡ 0
first-of-kind Client = refl
first-of-kind Server = refl

pub no-peer-uni : (side : Side) → (local_uni side == peer_uni side) ≡ false
no-peer-uni Client = refl
no-peer-uni Server = refl

pub no-peer-bi : (side : Side) → (local_uni side == peer_bi side) ≡ false
no-peer-bi Client = refl
no-peer-bi Server = refl

pub no-peer : (side : Side) → (peer_uni side == local_uni side % 4) ≡ false
no-peer Client = refl
no-peer Server = refl

pub peer-not-own : (side : Side) → (local_uni side == peer_uni side) ≡ false
peer-not-own Client = refl
peer-not-own Server = refl

peer-opens-none : (side : Side) (e : Event) → peer_opens side (local_uni side) e ≡ false
peer-opens-none Client PeerUni = refl
peer-opens-none Server PeerUni = refl
peer-opens-none Client PeerBi = refl
peer-opens-none Server PeerBi = refl
peer-opens-none side _ = refl

pub peers-none : (side : Side) (events : List Event) → peer_count side events (local_uni side) ≡ 0
peers-none side [] = refl
peers-none side (e ∷ events) = (λ i. one_more_if (peer-opens-none side e i) (peer_count side events (local_uni side))) ∙ peers-none side events

zero-plus : (n : ℕ) → 0 + n ≡ n
zero-plus n = omega arith

pub own-count : (side : Side) (log : Log) → stream_count side log (local_uni side) ≡ local_count (actions_of log) (local_uni side)
own-count side log = ap (λ n. n + local_count (actions_of log) (local_uni side)) (peers-none side (all_events_of log)) ∙ zero-plus (local_count (actions_of log) (local_uni side))

some-is : (n : ℕ) → nat_lt 0 n ≡ not (n == 0)
some-is n = by (n == 0) refl
  where
    by : (b : Bool) → (n == 0) ≡ b → nat_lt 0 n ≡ not (n == 0)
    by true e = grind (arith, nat_tests)
    by false e = grind (arith, nat_tests)

pub own-exists : (side : Side) (log : Log) → exists side log (local_uni side) ≡ (control_sent side log).opened
own-exists side log = (λ i. nat_lt (first-of-kind side i) (stream_count side log (low side i))) ∙ (ap (nat_lt 0) (own-count side log) ∙ some-is (local_count (actions_of log) (local_uni side)))

-- ---- what they change

module _ (side : Side) (log : Log) where
  abbrev id : ℕ
  id = local_uni side

  abbrev after : Bool → List ℕ → Log
  after b part = with_actions (own_actions id b part) log

  pub own-open : (b : Bool) (part : List ℕ) → is_open (after b part) ≡ is_open log
  own-open true [] = refl
  own-open true (x ∷ part) = refl
  own-open false [] = refl
  own-open false (x ∷ part) = refl

  pub own-events : (b : Bool) (part : List ℕ) → events_of (after b part) ≡ events_of log
  own-events true [] = refl
  own-events true (x ∷ part) = refl
  own-events false [] = refl
  own-events false (x ∷ part) = refl

  pub own-finished : (b : Bool) (part : List ℕ) (k : ℕ) → is_finished (actions_of (after b part)) k ≡ is_finished (actions_of log) k
  own-finished true [] k = refl
  own-finished true (x ∷ part) k = refl
  own-finished false [] k = refl
  own-finished false (x ∷ part) k = refl

  pub own-reset : (b : Bool) (part : List ℕ) (k : ℕ) → is_reset (after b part) k ≡ is_reset log k
  own-reset true [] k = refl
  own-reset true (x ∷ part) k = refl
  own-reset false [] k = refl
  own-reset false (x ∷ part) k = refl

  -- streams of other kinds are as many
  pub own-others : (b : Bool) (part : List ℕ) (kind : ℕ) → (id == kind) ≡ false → stream_count side (after b part) kind ≡ stream_count side log kind
  own-others true [] kind e = ap (λ c. peer_count side (all_events_of log) kind + one_more_if c (local_count (actions_of log) kind)) ((λ i. low side i == kind) ∙ e)
  own-others true (x ∷ part) kind e = ap (λ c. peer_count side (all_events_of log) kind + one_more_if c (local_count (actions_of log) kind)) ((λ i. low side i == kind) ∙ e)
  own-others false [] kind e = refl
  own-others false (x ∷ part) kind e = refl

  one-there : (n : ℕ) → not (one_more_if (id % 4 == id) n == 0) ≡ true
  one-there n = (λ i. not (one_more_if (low side i == id) n == 0)) ∙ ((λ i. not (one_more_if (same-id id i) n == 0)) ∙ more n)
    where
      more : (m : ℕ) → not (m + 1 == 0) ≡ true
      more m = grind (arith, nat_tests)

  pub own-opened : (b : Bool) (part : List ℕ) → (control_sent side (after b part)).opened ≡ (b || (control_sent side log).opened)
  own-opened true [] = one-there (local_count (actions_of log) id)
  own-opened true (x ∷ part) = one-there (local_count (actions_of log) id)
  own-opened false [] = refl
  own-opened false (x ∷ part) = refl

  joined : (before part : List ℕ) → length (if id == id then before ++ part else before) ≡ length before + length part
  joined before part = ap (λ c. length (if c then before ++ part else before)) (same-id id) ∙ length-append before part

  pub own-sent : (b : Bool) (part : List ℕ) → (control_sent side (after b part)).sent ≡ (control_sent side log).sent + length part
  own-sent true [] = sym (add-zero (length (sent_on (actions_of log) id)))
  own-sent true (x ∷ part) = joined (sent_on (actions_of log) id) (x ∷ part)
  own-sent false [] = sym (add-zero (length (sent_on (actions_of log) id)))
  own-sent false (x ∷ part) = joined (sent_on (actions_of log) id) (x ∷ part)

-- ---- what credit is left for

drop-none : (n : ℕ) → drop {A = ℕ} n [] ≡ []
drop-none zero = refl
drop-none (suc n) = refl

take-none : (n : ℕ) → take {A = ℕ} n [] ≡ []
take-none zero = refl
take-none (suc n) = refl

pub within-credit : (n c : ℕ) (xs : List ℕ) → take (c - n) (drop n xs) ≡ drop n (take c xs)
within-credit zero c xs = ap (λ m. take m xs) (let e : c - 0 ≡ c = omega arith in e)
within-credit (suc n) zero xs = ap (λ m. take m (drop (suc n) xs)) (let e : 0 - suc n ≡ 0 = omega arith in e)
within-credit (suc n) (suc c) [] = take-none (suc c - suc n)
within-credit (suc n) (suc c) (x ∷ xs) = ap (λ m. take m (drop n xs)) (let e : suc c - suc n ≡ c - n = omega arith in e) ∙ within-credit n c xs

pub rest-length : (n c : ℕ) (xs : List ℕ) → length (drop n (take c xs)) ≡ min (length xs) c - n
rest-length n c xs = omega (arith, length-drop n (take c xs), length-take c xs)

below : (a b : ℕ) → a < b → nat_lt a b ≡ true
below a b lt = grind (arith, nat_tests)

not-below : (a b : ℕ) → b ≤ a → nat_lt a b ≡ false
not-below a b le = grind (arith, nat_tests)

-- all of it is out where credit covers it
pub covered-by : (n c whole rest : ℕ) → n ≤ c → n ≤ whole → rest ≡ min whole c - n → (n + rest == whole) ≡ not (nat_lt c whole)
covered-by n c whole rest few within e = elim (cases_lt c whole) [
  | inl lt ↦ ne_eqb (n + rest) whole (λ f. absurd (omega (arith, f, lt, few, e))) ∙ ap not (sym (below c whole lt))
  | inr le ↦ eq-eqb (n + rest) whole (omega (arith, within, le, e)) ∙ ap not (sym (not-below c whole le))
]
