-- Bytes of a stream that are consumed in steps are consumed at once.
use Rattle.std.proofs.Common.{arith, ◌≡◌, ◌<◌, ◌≤◌, ◌+◌, ◌-◌, ◌/◌, ◌%◌, ℕ, zero, suc, Bool, true, false, List, [], ◌∷◌, length, drop, refl, sym, ap, ◌∙◌, inl, inr}
use Rattle.std.specs.Prelude.{slice_set, nat_lt, IsTrue, ◌==◌, ◌&&◌, if◌then◌else◌}
use Rattle.std.specs.List.{concat}
use Rattle.std.proofs.lemmas.Bool.Decides.{nat_tests}
use Rattle.std.proofs.lemmas.Bool.{cases_lt}
use Rattle.std.proofs.lemmas.List.{get_or-set_same, get_or_past, length-drop, length-set, drop-drop}
use Rattle.wt_transport.specs.StreamState.{Stream}
use Rattle.wt_transport.specs.Pieces.{skip}
use Rattle.wt_transport.specs.StreamState.{fresh, row_at, stream_in, stream_at, has_stream, with_changed, changed_in, consume}
use Rattle.wt_transport.proofs.PieceLaws.{concat_skip}
use Rattle.wt_transport.specs.State.{TransportState}
use Rattle.wt_transport.specs.Step.{can_receive_now, after_consume, unread_now, with_change}
use Rattle.wt_seam.specs.Reading.{after_taking}

-- ---- lists

set-again : {X : Type 0} (xs : List X) (i : ℕ) (a b : X) → slice_set (slice_set xs i a) i b ≡ slice_set xs i b
set-again [] i a b = refl
set-again (x ∷ xs) zero a b = refl
set-again (x ∷ xs) (suc i) a b = ap (λ ys. x ∷ ys) (set-again xs i a b)

skip-if : (b : Bool) (n m : ℕ) (p : List ℕ) (later : List (List ℕ)) → nat_lt n (length p) ≡ b → skip m (skip (n - length p) later) ≡ skip (n - length p + m) later
    → skip m (if b then drop n p ∷ later else skip (n - length p) later) ≡ (if nat_lt (n + m) (length p) then drop (n + m) p ∷ later else skip (n + m - length p) later)
skip-if false n m p later e again =
    let far : nat_lt (n + m) (length p) ≡ false = grind (arith, nat_tests) in
    let le : length p ≤ n = grind (arith, nat_tests) in
    let same : n - length p + m ≡ n + m - length p = omega arith in
    rw far (again ∙ ap (λ k. skip k later) same)
skip-if true n m p later e again = by (nat_lt (n + m) (length p)) refl
  where
    lt : n < length p
    lt = grind (arith, nat_tests)

    by : (c : Bool) → nat_lt (n + m) (length p) ≡ c → (if nat_lt m (length (drop n p)) then drop m (drop n p) ∷ later else skip (m - length (drop n p)) later) ≡ (if c then drop (n + m) p ∷ later else skip (n + m - length p) later)
    by true f =
        let near : nat_lt m (length (drop n p)) ≡ true = rw (length-drop n p) (grind (arith, nat_tests)) in
        rw near (ap (λ xs. xs ∷ later) (drop-drop m n p))
    by false f =
        let le : length p ≤ n + m = grind (arith, nat_tests) in
        let far : nat_lt m (length (drop n p)) ≡ false = rw (length-drop n p) (grind (arith, nat_tests)) in
        let same : m - length (drop n p) ≡ n + m - length p = omega (arith, lt, le, length-drop n p) in
        rw far (ap (λ k. skip k later) same)

skip-again : (n m : ℕ) (pieces : List (List ℕ)) → skip m (skip n pieces) ≡ skip (n + m) pieces
skip-again n m [] = refl
skip-again n m (p ∷ later) = skip-if (nat_lt n (length p)) n m p later refl (skip-again (n - length p) m later)

-- ---- streams

kind-below : (streams : List (List Stream)) (id : ℕ) → has_stream streams id ≡ true → id % 4 < length streams
kind-below streams id has =
    elim (cases_lt (id % 4) (length streams)) [
      | inl lt ↦ lt
      | inr le ↦ absurd (none (get_or_past streams (id % 4) [] le))
    ]
  where
    none : row_at streams (id % 4) ≡ [] → ⊥
    none e = let short : length (row_at streams (id % 4)) ≡ 0 = ap length e in grind (arith, nat_tests)

index-below : (streams : List (List Stream)) (id : ℕ) → has_stream streams id ≡ true → id / 4 < length (row_at streams (id % 4))
index-below streams id has = grind (arith, nat_tests)

row-changed : (streams : List (List Stream)) (id : ℕ) (f : Stream → Stream) → has_stream streams id ≡ true → row_at (with_changed streams id f) (id % 4) ≡ changed_in (row_at streams (id % 4)) (id / 4) f
row-changed streams id f has = get_or-set_same streams (id % 4) (changed_in (row_at streams (id % 4)) (id / 4) f) [] (kind-below streams id has)

pub stream-changed : (streams : List (List Stream)) (id : ℕ) (f : Stream → Stream) → has_stream streams id ≡ true → stream_at (with_changed streams id f) id ≡ f (stream_at streams id)
stream-changed streams id f has =
    ap (λ r. stream_in r (id / 4)) (row-changed streams id f has)
    ∙ get_or-set_same (row_at streams (id % 4)) (id / 4) (f (stream_at streams id)) (fresh 0) (index-below streams id has)

pub still-there : (streams : List (List Stream)) (id : ℕ) (f : Stream → Stream) → has_stream streams id ≡ true → has_stream (with_changed streams id f) id ≡ true
still-there streams id f has =
    ap (λ r. nat_lt (id / 4) (length r)) (row-changed streams id f has)
    ∙ (ap (nat_lt (id / 4)) (length-set (row_at streams (id % 4)) (id / 4) (f (stream_at streams id))) ∙ has)

changed-again : (streams : List (List Stream)) (id : ℕ) (f g : Stream → Stream) → has_stream streams id ≡ true → with_changed (with_changed streams id f) id g ≡ with_changed streams id (λ s. g (f s))
changed-again streams id f g has =
    ap (λ r. slice_set (with_changed streams id f) (id % 4) (slice_set r (id / 4) (g (stream_in r (id / 4))))) (row-changed streams id f has)
    ∙ (ap (λ s. slice_set (with_changed streams id f) (id % 4) (slice_set (changed_in (row_at streams (id % 4)) (id / 4) f) (id / 4) (g s)))
    (get_or-set_same (row_at streams (id % 4)) (id / 4) (f (stream_at streams id)) (fresh 0) (index-below streams id has))
    ∙ (ap (λ r. slice_set (with_changed streams id f) (id % 4) r) (set-again (row_at streams (id % 4)) (id / 4) (f (stream_at streams id)) (g (f (stream_at streams id))))
    ∙ set-again streams (id % 4) (changed_in (row_at streams (id % 4)) (id / 4) f) (changed_in (row_at streams (id % 4)) (id / 4) (λ s. g (f s)))))

-- ---- a transport

first : (a b : Bool) → (a && b) ≡ true → a ≡ true
first true b e = refl
first false b e = absurd cc

module _ (t : TransportState) (id : ℕ) (can : IsTrue (can_receive_now t id)) where
  has : has_stream t.streams id ≡ true
  has = first (has_stream t.streams id) _ can

  consume-is : (n : ℕ) → after_consume t id n ≡ with_change t id (consume n)
  consume-is n = rw has refl

  pub consumed-there : (n : ℕ) → IsTrue (can_receive_now (after_consume t id n) id)
  consumed-there n = rw (consume-is n) (rw (still-there t.streams id (consume n) has) (rw has at can))

  consume-unread : (n : ℕ) → unread_now (with_change t id (consume n)) id ≡ drop n (unread_now t id)
  consume-unread n =
      rw (still-there t.streams id (consume n) has, has)
      (ap (λ (s : Stream). concat s.unread) (stream-changed t.streams id (consume n) has) ∙ concat_skip n (stream_at t.streams id).unread)

  pub consumed-unread : (n : ℕ) → unread_now (after_consume t id n) id ≡ drop n (unread_now t id)
  consumed-unread n = ap (λ u. unread_now u id) (consume-is n) ∙ consume-unread n

  again-is : (n m : ℕ) → after_consume (with_change t id (consume n)) id m ≡ with_change t id (consume (n + m))
  again-is n m =
      rw (still-there t.streams id (consume n) has)
      (ap (λ ss. record t { streams = ss }) (changed-again t.streams id (consume n) (consume m) has
      ∙ ap (λ (s : Stream). slice_set t.streams (id % 4) (slice_set (row_at t.streams (id % 4)) (id / 4) s)) (ap (λ ps. record (stream_at t.streams id) { unread = ps }) (skip-again n m (stream_at t.streams id).unread))))

  pub consumed-again : (n m : ℕ) → after_consume (after_consume t id n) id m ≡ after_consume t id (n + m)
  consumed-again n m = ap (λ u. after_consume u id m) (consume-is n) ∙ (again-is n m ∙ sym (consume-is (n + m)))

  -- ---- the same, where nothing may have been taken

  taken-if : (b : Bool) (n : ℕ) → (n == 0) ≡ b → IsTrue (can_receive_now (if b then t else after_consume t id n) id)
  taken-if true n e = can
  taken-if false n e = consumed-there n

  pub taken-there : (n : ℕ) → IsTrue (can_receive_now (after_taking t id n) id)
  taken-there n = taken-if (n == 0) n refl

  unread-if : (b : Bool) (n : ℕ) → (n == 0) ≡ b → unread_now (if b then t else after_consume t id n) id ≡ drop n (unread_now t id)
  unread-if true n e = let none : n ≡ 0 = grind (arith, nat_tests) in rw none refl
  unread-if false n e = consumed-unread n

  pub taken-unread : (n : ℕ) → unread_now (after_taking t id n) id ≡ drop n (unread_now t id)
  taken-unread n = unread-if (n == 0) n refl

  more-if : (b : Bool) (n m : ℕ) → (n == 0) ≡ b → 0 < m → after_consume (if b then t else after_consume t id n) id m ≡ after_taking t id (n + m)
  more-if true n m e some =
      let none : n ≡ 0 = grind (arith, nat_tests) in
      let whole : n + m ≡ m = omega arith in
      let not_none : (m == 0) ≡ false = grind (arith, nat_tests) in
      rw (whole, not_none) refl
  more-if false n m e some =
      let not_none : (n + m == 0) ≡ false = grind (arith, nat_tests) in
      rw not_none (consumed-again n m)

  pub taken-more : (n m : ℕ) → 0 < m → after_consume (after_taking t id n) id m ≡ after_taking t id (n + m)
  taken-more n m some = more-if (n == 0) n m refl some
