-- What reads a stream is one thing: one that has no verdict is in no other list, no session's, and not the control stream.
use Rattle.std.proofs.Common.{◌%◌, ◌∙◌, ◌≡◌, ◌≢◌, ◌<◌, ◌∷◌, Bool, List, None, Option, Some, [], ap, cond, false, filter, inl, inr, is_none, refl, suc, sym, take, true, zero, ℕ}
use Rattle.std.proofs.lemmas.Bool.{eq-eqb, eqb-true, false_from_ne_true, true≢false}
use Rattle.std.specs.List.{list_any}
use Rattle.std.specs.Option.{option_or}
use Rattle.std.specs.Prelude.{◌==◌, ◌||◌, if◌then◌else◌, not}
use Rattle.wt_meaning.specs.Moments.{ids_from}
use Rattle.wt_proto.specs.declared.verdict.Verdict.{Verdict}
use Rattle.wt_turn.specs.Streams.{peer_bi, peer_uni}
use Rattle.wt_sessions.proofs.Following.{Kept}
use Rattle.wt_sessions.proofs.LogFollows.{kept-of}
use Rattle.wt_sessions.proofs.StreamIds.{bi-low, kind-is, kinds-differ, kinds-differ-so, uni-low}
use Rattle.wt_sessions.specs.Driver.{call_view, stream_table, transport_view}
use Rattle.wt_sessions.specs.DriverState.{state_of}
use Rattle.wt_sessions.specs.Moment.{Fits, is_peers}
use Rattle.wt_sessions.specs.Scan.{is_unclassified}
use Rattle.wt_sessions.specs.StreamTable.{Classified, Session, control_start, first_at, is_gone, is_session, offset_with_id, verdict_of}
use Rattle.wt_follows.specs.Pieces.{IsIn, is_in}
use Rattle.wt_turn.specs.Log.{Log}
use Rattle.wt_wire.specs.declared.side.Side.{Side}

or-false-left : (b : Bool) → (b || true) ≡ true
or-false-left true = refl
or-false-left false = refl

-- ---- lists

in-front : (k n : ℕ) (ks : List ℕ) → is_in k (take n ks) ≡ true → is_in k ks ≡ true
in-front k zero ks e = absurd (true≢false (sym e))
in-front k (suc n) [] e = absurd (true≢false (sym e))
in-front k (suc n) (x ∷ xs) e = by (x == k) e (in-front k n xs)
  where
    by : (b : Bool) → (b || is_in k (take n xs)) ≡ true → (is_in k (take n xs) ≡ true → is_in k xs ≡ true) → (b || is_in k xs) ≡ true
    by true f again = refl
    by false f again = again f

in-filter : (p : ℕ → Bool) (k : ℕ) (ks : List ℕ) → is_in k (filter p ks) ≡ true → (is_in k ks ≡ true) × (p k ≡ true)
in-filter p k [] e = absurd (true≢false (sym e))
in-filter p k (x ∷ xs) e = by (p x) refl (x == k) refl e (in-filter p k xs)
  where
    by : (b : Bool) → p x ≡ b → (c : Bool) → (x == k) ≡ c → is_in k (cond b (x ∷ filter p xs) (filter p xs)) ≡ true → (is_in k (filter p xs) ≡ true → (is_in k xs ≡ true) × (p k ≡ true)) → ((x == k) || is_in k xs ≡ true) × (p k ≡ true)
    by true f true g h again = (ap (λ (b : Bool). b || is_in k xs) g, ap p (sym (eqb-true x k g)) ∙ f)
    by true f false g h again =
        let r = again (ap (λ (b : Bool). b || is_in k (filter p xs)) (sym g) ∙ h) in
        (ap (λ (b : Bool). b || is_in k xs) g ∙ r.0, r.1)
    by false f c g h again = let r = again h in (ap (λ (b : Bool). (x == k) || b) r.0 ∙ or-false-left (x == k), r.1)

none-is : (o : Option Verdict) → is_none o ≡ true → o ≡ None
none-is None e = refl
none-is (Some v) e = absurd (true≢false (sym e))

-- a session among these is found
pub session-found : (k : ℕ) (x : Session) (xs : List Session) → x.id ≡ k → IsIn x xs → list_any (is_session k) xs ≡ true
session-found k x [] e m = absurd m
session-found k x (y ∷ ys) e (inl same) = ap (λ (b : Bool). b || list_any (is_session k) ys) (eq-eqb y.id k (ap (λ (z : Session). z.id) same ∙ e))
session-found k x (y ∷ ys) e (inr m) = ap (λ (b : Bool). (y.id == k) || b) (session-found k x ys e m) ∙ or-false-left (y.id == k)

still-in : (p : Session → Bool) (x : Session) (xs : List Session) → IsIn x (filter p xs) → IsIn x xs
still-in p x [] m = m
still-in p x (y ∷ ys) m = by (p y) m (still-in p x ys)
  where
    by : (b : Bool) → IsIn x (cond b (y ∷ filter p ys) (filter p ys)) → (IsIn x (filter p ys) → IsIn x ys) → IsIn x (y ∷ ys)
    by true (inl same) again = inl same
    by true (inr rest) again = inr (again rest)
    by false rest again = inr (again rest)

-- the control stream has a verdict
first-classified : (c : ℕ × ℕ) (cs : List Classified) → first_at control_start cs ≡ Some c → is_none (verdict_of c.0 cs) ≡ false
first-classified c [] e = absurd cc
first-classified c (x ∷ xs) e = by (control_start x.verdict) e (first-classified c xs)
  where
    at : (b : Bool) → is_none (verdict_of c.0 xs) ≡ false → is_none (if b then Some x.verdict else verdict_of c.0 xs) ≡ false
    at true h = refl
    at false h = h

    by : (o : Option ℕ) → option_or (offset_with_id x.id o) (first_at control_start xs) ≡ Some c → (first_at control_start xs ≡ Some c → is_none (verdict_of c.0 xs) ≡ false) → is_none (if x.id == c.0 then Some x.verdict else verdict_of c.0 xs) ≡ false
    by (Some offset) f again = let same : x.id ≡ c.0 = ap (λ (p : ℕ × ℕ). p.0) (let g : (x.id, offset) ≡ c = cc in g) in ap (λ (b : Bool). is_none (if b then Some x.verdict else verdict_of c.0 xs)) (eq-eqb x.id c.0 same)
    by None f again = at (x.id == c.0) (again f)

-- ---- a stream without a verdict

-- it has no other reader
pub record Alone (side : Side) (log : Log) (id : ℕ) (others : List ℕ) : Type 0 where
  pub other : is_in id (take 4 others) ≡ false
  pub session : (x : Session) → x.id ≡ id → IsIn x (state_of side log).sessions → ⊥
  pub control : (c : ℕ × ℕ) → (state_of side log).dispatched.control ≡ Some c → (c.0 == id) ≡ false

module _ (side : Side) (log : Log) (fits : Fits side log) (id : ℕ) where
  kept : Kept (transport_view side log) (call_view log) (stream_table side log)
  kept = kept-of side log fits

  alone-by : (kind other n m : ℕ) → kind < 4 → other < 4 → kind ≢ other → (id % 4 ≡ kind → is_peers side id ≡ true)
      → is_in id (take 4 (filter (is_unclassified (stream_table side log)) (ids_from kind 0 n))) ≡ true → Alone side log id (filter (is_unclassified (stream_table side log)) (ids_from other 0 m))
  unfolding state_of
  alone-by kind other n m low lower differ peers e =
      let here = in-filter (is_unclassified (stream_table side log)) id (ids_from kind 0 n) (in-front id 4 (filter (is_unclassified (stream_table side log)) (ids_from kind 0 n)) e) in
      let is_kind : id % 4 ≡ kind = kind-is kind 0 n id low here.0 in
      let none : verdict_of id (stream_table side log).classified ≡ None = none-is (verdict_of id (stream_table side log).classified) here.1 in
      let fresh = kept.fresh id (peers is_kind) none in
      record {
        other = false_from_ne_true (is_in id (take 4 (filter (is_unclassified (stream_table side log)) (ids_from other 0 m)))) (λ f.
            let there = in-filter (is_unclassified (stream_table side log)) id (ids_from other 0 m) (in-front id 4 (filter (is_unclassified (stream_table side log)) (ids_from other 0 m)) f) in
            differ (sym is_kind ∙ kind-is other 0 m id lower there.0));
        session = λ x same i.
            true≢false (sym (session-found id x (call_view log).sessions same (still-in (λ (s : Session). not (is_gone (call_view log) (stream_table side log) s.id)) x (call_view log).sessions i)) ∙ fresh.unestablished);
        control = λ c f. false_from_ne_true (c.0 == id) (λ g.
            true≢false (sym here.1 ∙ (ap (λ (k : ℕ). is_none (verdict_of k (stream_table side log).classified)) (sym (eqb-true c.0 id g)) ∙ first-classified c (stream_table side log).classified f)));
      }

  pub uni-alone : is_in id (take 4 (state_of side log).unis) ≡ true → Alone side log id (state_of side log).bis
  unfolding state_of
  uni-alone e =
      alone-by (peer_uni side) (peer_bi side) (transport_view side log).unis (transport_view side log).bis (uni-low side) (bi-low side) (kinds-differ side)
      (λ k. ap (λ (b : Bool). b || id % 4 == peer_bi side) (eq-eqb (id % 4) (peer_uni side) k)) e

  pub bi-alone : is_in id (take 4 (state_of side log).bis) ≡ true → Alone side log id (state_of side log).unis
  unfolding state_of
  bi-alone e =
      alone-by (peer_bi side) (peer_uni side) (transport_view side log).bis (transport_view side log).unis (bi-low side) (uni-low side) (kinds-differ-so side)
      (λ k. ap (λ (b : Bool). (id % 4 == peer_uni side) || b) (eq-eqb (id % 4) (peer_bi side) k) ∙ or-false-left (id % 4 == peer_uni side)) e
