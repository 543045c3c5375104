-- Consuming bytes of a stream, on what a transport keeps.
use Rattle.std.proofs.Common.{arith, ◌≡◌, ◌≤◌, ◌<◌, ◌+◌, ◌-◌, ◌/◌, ◌%◌, ◌∷◌, [], zero, suc, ℕ, Bool, List, true, false, length, drop, refl, sym, ap, subst, ◌∙◌}
use Rattle.std.specs.Prelude.{◌==◌, if◌then◌else◌, nat_lt, slice_set}
use Rattle.std.proofs.lemmas.Bool.{eqb-true}
use Rattle.std.proofs.lemmas.Bool.Decides.{nat_tests}
use Rattle.std.proofs.lemmas.List.{drop-drop, length-drop, get_or-set_same}
use Rattle.wt_peer_streams.proofs.Streams.{has-changed, here-changed, here-has, index-below, other-changed, other-unread, row-changed}
use Rattle.wt_transport.proofs.PieceLaws.{concat_skip, drop_none}
use Rattle.wt_transport.specs.Pieces.{skip}
use Rattle.wt_transport.specs.StreamState.{Stream, changed_in, consume, fresh, has_stream, row_at, stream_at, stream_in, with_changed}
use Rattle.wt_transport.specs.State.{TransportState}
use Rattle.wt_transport.specs.Step.{after_consume, end_now, unread_now, with_change}
use Rattle.wt_wire.specs.declared.side.StreamEnd.{StreamEnd}
use Rattle.wt_wire.specs.declared.side.StreamEnd.TheVariants as ends

module _ (t : TransportState) (id n : ℕ) where
  here-if : (b : Bool) → has_stream t.streams id ≡ b → unread_now (if b then with_change t id (consume n) else t) id ≡ drop n (unread_now t id)
  here-if true has =
      let there = here-has t.streams id (consume n) has in
      let same = here-changed t.streams id (consume n) has in
      rw (there, same, has) (concat_skip n (stream_at t.streams id).unread)
  here-if false has = rw has (sym (drop_none n))

  pub consumed-here : unread_now (after_consume t id n) id ≡ drop n (unread_now t id)
  consumed-here = here-if (has_stream t.streams id) refl

  others-if : (b : Bool) → has_stream t.streams id ≡ b → (k : ℕ) → (id == k) ≡ false → unread_now (if b then with_change t id (consume n) else t) k ≡ unread_now t k
  others-if true has k d = other-unread t id (consume n) has k d
  others-if false has k d = refl

  at-end : (k : ℕ) (b : Bool) → (id == k) ≡ b → has_stream t.streams id ≡ true → (stream_at (with_changed t.streams id (consume n)) k).signals.end ≡ (stream_at t.streams k).signals.end
  at-end k true e has =
      let same : id ≡ k = eqb-true id k e in
      subst (λ (j : ℕ). (stream_at (with_changed t.streams id (consume n)) j).signals.end ≡ (stream_at t.streams j).signals.end) same
      (ap (λ (s : Stream). s.signals.end) (here-changed t.streams id (consume n) has))
  at-end k false e has = ap (λ (s : Stream). s.signals.end) (other-changed t.streams id (consume n) has k e)

  ends-if : (k : ℕ) (b : Bool) → has_stream t.streams id ≡ b → end_now (if b then with_change t id (consume n) else t) k ≡ end_now t k
  ends-if k true has =
      (λ i. if has-changed t.streams id (consume n) has k i then (stream_at (with_changed t.streams id (consume n)) k).signals.end else ends.Running)
      ∙ ap (λ (e : StreamEnd). if has_stream t.streams k then e else ends.Running) (at-end k (id == k) refl has)
  ends-if k false has = refl

  pub consumed-others : (k : ℕ) → (id == k) ≡ false → unread_now (after_consume t id n) k ≡ unread_now t k
  consumed-others k d = others-if (has_stream t.streams id) refl k d

  pub consumed-ends : (k : ℕ) → end_now (after_consume t id n) k ≡ end_now t k
  consumed-ends k = ends-if k (has_stream t.streams id) refl

-- ---- twice

skip-by : (m n : ℕ) (p : List ℕ) (later : List (List ℕ)) (a b : Bool) → nat_lt m (length p) ≡ a → nat_lt (m + n) (length p) ≡ b
    → skip n (skip (m - length p) later) ≡ skip ((m - length p) + n) later
    → skip n (if a then drop m p ∷ later else skip (m - length p) later) ≡ (if b then drop (m + n) p ∷ later else skip ((m + n) - length p) later)
skip-by m n p later false true e f again = absurd (grind (arith, nat_tests))
skip-by m n p later false false e f again =
    let le : length p ≤ m = grind (arith, nat_tests) in
    let same : (m - length p) + n ≡ (m + n) - length p = omega arith in
    again ∙ ap (λ (k : ℕ). skip k later) same
skip-by m n p later true b e f again = inner (nat_lt n (length (drop m p))) b refl f
  where
    inner : (c d : Bool) → nat_lt n (length (drop m p)) ≡ c → nat_lt (m + n) (length p) ≡ d
        → (if c then drop n (drop m p) ∷ later else skip (n - length (drop m p)) later) ≡ (if d then drop (m + n) p ∷ later else skip ((m + n) - length p) later)
    inner true true g h = ap (λ (q : List ℕ). q ∷ later) (drop-drop n m p)
    inner true false g h = absurd (let l = length-drop m p in grind (arith, nat_tests))
    inner false true g h = absurd (let l = length-drop m p in grind (arith, nat_tests))
    inner false false g h =
        let lt : m < length p = grind (arith, nat_tests) in
        let same : n - length (drop m p) ≡ (m + n) - length p = omega (arith, length-drop m p) in
        ap (λ (k : ℕ). skip k later) same

skip-twice : (m n : ℕ) (pieces : List (List ℕ)) → skip n (skip m pieces) ≡ skip (m + n) pieces
skip-twice m n [] = refl
skip-twice m n (p ∷ later) = skip-by m n p later (nat_lt m (length p)) (nat_lt (m + n) (length p)) refl refl (skip-twice (m - length p) n later)

set-twice : {X : Type 0} (xs : List X) (i : ℕ) (a b : X) → slice_set (slice_set xs i a) i b ≡ slice_set xs i b
set-twice [] i a b = refl
set-twice (x ∷ xs) zero a b = refl
set-twice (x ∷ xs) (suc i) a b = ap (λ ys. x ∷ ys) (set-twice xs i a b)

module _ (streams : List (List Stream)) (id : ℕ) (f g : Stream → Stream) (has : has_stream streams id ≡ true) where
  abbrev changed_row : List Stream
  changed_row = changed_in (row_at streams (id % 4)) (id / 4) f

  stream-there : stream_in changed_row (id / 4) ≡ f (stream_at streams id)
  stream-there = get_or-set_same (row_at streams (id % 4)) (id / 4) (f (stream_at streams id)) (fresh 0) (index-below streams id f has)

  changed-twice : with_changed (with_changed streams id f) id g ≡ with_changed streams id (λ s. g (f s))
  changed-twice =
      ap (λ (r : List Stream). slice_set (slice_set streams (id % 4) changed_row) (id % 4) (slice_set r (id / 4) (g (stream_in r (id / 4))))) (row-changed streams id f has)
      ∙ (ap (λ (s : Stream). slice_set (slice_set streams (id % 4) changed_row) (id % 4) (slice_set changed_row (id / 4) (g s))) stream-there
      ∙ (ap (λ (r : List Stream). slice_set (slice_set streams (id % 4) changed_row) (id % 4) r) (set-twice (row_at streams (id % 4)) (id / 4) (f (stream_at streams id)) (g (f (stream_at streams id))))
      ∙ set-twice streams (id % 4) changed_row (slice_set (row_at streams (id % 4)) (id / 4) (g (f (stream_at streams id))))))

consume-both : (m n : ℕ) → (λ (s : Stream). consume n (consume m s)) ≡ consume (m + n)
consume-both m n = λ i s. record s { unread = skip-twice m n s.unread i }

pub consumed-twice : (t : TransportState) (id m n : ℕ) → after_consume (after_consume t id m) id n ≡ after_consume t id (m + n)
consumed-twice t id m n = by (has_stream t.streams id) refl
  where
    by : (b : Bool) → has_stream t.streams id ≡ b → after_consume (if b then with_change t id (consume m) else t) id n ≡ (if b then with_change t id (consume (m + n)) else t)
    by true has =
        (λ i. if here-has t.streams id (consume m) has i then with_change (with_change t id (consume m)) id (consume n) else with_change t id (consume m))
        ∙ (λ i. record t { streams = (changed-twice t.streams id (consume m) (consume n) has ∙ ap (λ (h : Stream → Stream). with_changed t.streams id h) (consume-both m n)) i })
    by false has = λ i. if has i then with_change t id (consume n) else t
