-- A stream of the peer's that is there and has no header to be read has a verdict: calls may record what they do with it.
use Rattle.std.proofs.Common.{◌*◌, ◌+◌, ◌-◌, ◌<◌, ◌∙◌, ◌∷◌, ◌≡◌, ◌≤◌, Bool, List, ℕ, [], ap, arith, cond, false, filter, inl, inr, refl, subst, suc, sym, true, zero}
use Rattle.std.proofs.lemmas.Bool.{cases_lt, eq-eqb, eqb-true, ltb-true, true≢false}
use Rattle.std.specs.Prelude.{◌%◌, ◌&&◌, ◌/◌, ◌==◌, ◌||◌, nat_lt, not}
use Rattle.wt_follows.proofs.GoneRoles.{MayRetire}
use Rattle.wt_follows.proofs.Lists.{or-true}
use Rattle.wt_follows.proofs.QuietEntry.{and-first}
use Rattle.wt_follows.specs.Roles.{is_arriving, is_in}
use Rattle.wt_follows.specs.Tie.{Follows, There}
use Rattle.wt_kept.specs.Kept.{DriverNow}
use Rattle.wt_meaning.specs.Moments.{ids_from}
use Rattle.wt_turn.specs.Streams.{exists, local_count, local_uni, peer_bi, peer_count, peer_uni, stream_count}
use Rattle.wt_sessions.specs.Driver.{stream_table, transport_view}
use Rattle.wt_sessions.specs.DriverState.{DriverState, state_of}
use Rattle.wt_sessions.specs.Moment.{is_known, is_peers}
use Rattle.wt_sessions.specs.Scan.{is_unclassified}
use Rattle.wt_sessions.specs.StreamTable.{StreamTable}
use Rattle.wt_turn.specs.Log.{Log, Sent, actions_of, all_events_of, events_of, is_open, with_actions}
use Rattle.wt_turn.specs.declared.action.Action.{Action}
use Rattle.wt_wire.specs.declared.side.Side.{Side}

-- ---- lists

in-filter : (P : ℕ → Bool) (k : ℕ) (ks : List ℕ) → P k ≡ true → is_in k ks ≡ true → is_in k (filter P ks) ≡ true
in-filter P k [] p e = absurd (true≢false (sym e))
in-filter P k (x ∷ xs) p e = by (x == k) refl (P x) refl e (in-filter P k xs p)
  where
    by : (b : Bool) → (x == k) ≡ b → (c : Bool) → P x ≡ c → (b || is_in k xs) ≡ true → (is_in k xs ≡ true → is_in k (filter P xs) ≡ true) → is_in k (cond c (x ∷ filter P xs) (filter P xs)) ≡ true
    by true f true g h again = ap (λ b. b || is_in k (filter P xs)) f
    by true f false g h again = absurd (true≢false (sym p ∙ (ap P (sym (eqb-true x k f)) ∙ g)))
    by false f true g h again = ap (λ b. b || is_in k (filter P xs)) f ∙ again h
    by false f false g h again = again h

-- the stream of this number is among those of its kind
in-ids : (kind from count n : ℕ) → from ≤ n → n < from + count → is_in (4 * n + kind) (ids_from kind from count) ≡ true
in-ids kind from zero n le lt = absurd (omega (arith, le, lt))
in-ids kind from (suc count) n le lt = by (4 * from + kind == 4 * n + kind) refl (λ less. in-ids kind (suc from) count n less (omega (arith, lt)))
  where
    behind : (4 * from + kind == 4 * n + kind) ≡ false → from < n
    behind f = elim (cases_lt from n) [
      | inl less ↦ less
      | inr more ↦ absurd (true≢false (sym (eq-eqb (4 * from + kind) (4 * n + kind) (let e : 4 * from + kind ≡ 4 * n + kind = omega (arith, le, more) in e)) ∙ f))
    ]

    by : (b : Bool) → (4 * from + kind == 4 * n + kind) ≡ b → (suc from ≤ n → is_in (4 * n + kind) (ids_from kind (suc from) count) ≡ true) → (b || is_in (4 * n + kind) (ids_from kind (suc from) count)) ≡ true
    by true e again = refl
    by false e again = again (let less = behind e in omega (arith, less))

-- ---- a stream that is there

module _ (side : Side) (log : Log) (t : There side (state_of side log) log) (same : events_of log ≡ all_events_of log) (k : ℕ) (there : exists side log k ≡ true) where
  -- the table's view has as many of a kind as are there
  seen : (kind : ℕ) → local_count (actions_of log) kind ≡ 0 → (k % 4) ≡ kind → k / 4 < peer_count side (events_of log) kind
  seen kind none is =
      let lt : k / 4 < stream_count side log (k % 4) = ltb-true (k / 4) (stream_count side log (k % 4)) there in
      let counted : stream_count side log (k % 4) ≡ peer_count side (events_of log) kind =
      (λ i. peer_count side (sym same i) (is i) + local_count (actions_of log) (is i)) ∙ ap (λ n. peer_count side (events_of log) kind + n) none ∙ add-none (peer_count side (events_of log) kind) in
      subst (λ n. k / 4 < n) counted lt
    where
      add-none : (n : ℕ) → n + 0 ≡ n
      add-none n = omega arith

  listed : (kind count : ℕ) → (k % 4) ≡ kind → k / 4 < count → is_in k (ids_from kind 0 count) ≡ true
  listed kind count is lt = subst (λ n. is_in n (ids_from kind 0 count) ≡ true) (let e : 4 * (k / 4) + kind ≡ k = omega (arith, is) in e) (in-ids kind 0 count (k / 4) (omega arith) (omega (arith, lt)))

  -- without a verdict it would be among those whose header is read
  in-unis : (k % 4) ≡ peer_uni side → is_unclassified (stream_table side log) k ≡ true → is_in k (state_of side log).unis ≡ true
  unfolding state_of
  in-unis is new = in-filter (is_unclassified (stream_table side log)) k (ids_from (peer_uni side) 0 (peer_count side (events_of log) (peer_uni side))) new
      (listed (peer_uni side) (peer_count side (events_of log) (peer_uni side)) is (seen (peer_uni side) t.kinds.0 is))

  in-bis : (k % 4) ≡ peer_bi side → is_unclassified (stream_table side log) k ≡ true → is_in k (state_of side log).bis ≡ true
  unfolding state_of
  in-bis is new = in-filter (is_unclassified (stream_table side log)) k (ids_from (peer_bi side) 0 (peer_count side (events_of log) (peer_bi side))) new
      (listed (peer_bi side) (peer_count side (events_of log) (peer_bi side)) is (seen (peer_bi side) t.kinds.1 is))

  -- so it has one, or is this end's own
  pub known-there : is_arriving (state_of side log) k ≡ false → is_known side log k ≡ true
  known-there none = by (is_peers side k) refl (is_unclassified (stream_table side log) k) refl
    where
      arrives : (b c : Bool) → (k % 4 == peer_uni side) ≡ b → (k % 4 == peer_bi side) ≡ c → (b || c) ≡ true → is_unclassified (stream_table side log) k ≡ true → is_arriving (state_of side log) k ≡ true
      arrives true c e f g new = ap (λ a. a || is_in k (state_of side log).bis) (in-unis (eqb-true (k % 4) (peer_uni side) e) new)
      arrives false true e f g new = ap (λ a. is_in k (state_of side log).unis || a) (in-bis (eqb-true (k % 4) (peer_bi side) f) new) ∙ or-true (is_in k (state_of side log).unis)
      arrives false false e f g new = absurd (true≢false (sym g))

      by : (b : Bool) → is_peers side k ≡ b → (c : Bool) → is_unclassified (stream_table side log) k ≡ c → (not b || not c) ≡ true
      by false e c f = refl
      by true e false f = refl
      by true e true f = absurd (true≢false (sym (arrives (k % 4 == peer_uni side) (k % 4 == peer_bi side) refl refl e f) ∙ none))

-- ---- actions of a call

pub table-sent : (side : Side) (own : List Action) (log : Log) → stream_table side (with_actions own log) ≡ stream_table side log
unfolding stream_table
table-sent side [] log = refl
table-sent side (a ∷ later) log = table-sent side later (Sent a ∷ log)

-- they change nothing of what is known
pub known-sent : (side : Side) (own : List Action) (log : Log) (k : ℕ) → is_known side log k ≡ true → is_known side (with_actions own log) k ≡ true
known-sent side own log k e = ap (λ (table : StreamTable). not (is_peers side k) || not (is_unclassified table k)) (table-sent side own log) ∙ e

-- the stream of a session that may become gone is known, whatever a call sends before its record
pub retire-known : (side : Side) (d : DriverNow) (log : Log) (uncollected : List Action) (f : Follows side d log uncollected) → is_open log ≡ true → (k : ℕ) → MayRetire side log (state_of side log) k → (own : List Action)
    → is_known side (with_actions own log) k ≡ true
retire-known side d log uncollected f opened k may own = known-sent side own log k
    (known-there side log f.amid.work.there (f.amid.work.transport.facts.open_same opened) k (and-first (exists side log k) (not (local_uni side == k % 4)) may.there) may.arriving)
