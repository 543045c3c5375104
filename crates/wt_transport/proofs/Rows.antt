-- The streams of each kind, as lists that a function makes.
use Rattle.std.proofs.Common.{arith, ◌≡◌, ◌≢◌, ◌<◌, ◌≤◌, ◌+◌, ◌*◌, ◌/◌, ◌%◌, zero, suc, ℕ, true, false, [], ◌∷◌, ◌++◌, length, refl, sym, ap, ◌∙◌, add-zero}
use Rattle.std.specs.Prelude.{map, slice_set, nat_lt, ◌==◌, if◌then◌else◌}
use Rattle.std.specs.List.{range_with_len}
use Rattle.std.proofs.lemmas.List.FromFn.{length-map-range_with_len, get_or-map-range_with_len, map-range_with_len_more}
use Rattle.std.proofs.lemmas.Bool.Decides.{nat_tests}
use Rattle.wt_transport.specs.StreamState.{Stream}
use Rattle.wt_transport.specs.StreamState.{fresh, row_at, stream_in, stream_at, has_stream, with_changed, with_pushed, row, rows}

module _ {X : Type 0} where
  -- two functions that agree on a range
  pub map-same : (f g : ℕ → X) (from count : ℕ) → ((j : ℕ) → from ≤ j → j < from + count → g j ≡ f j) → map g (range_with_len from count) ≡ map f (range_with_len from count)
  map-same f g from zero e = refl
  map-same f g from (suc count) e =
      let here : g from ≡ f from = e from (omega arith) (omega arith) in
      let rest = map-same f g (from + 1) count (λ j l h. e j (omega arith) (omega arith)) in
      cc

  -- two functions that agree on a range but at one number
  map-set-from : (f g : ℕ → X) (from count offset : ℕ) → offset < count → ((j : ℕ) → from ≤ j → j < from + count → j ≢ from + offset → g j ≡ f j)
      → map g (range_with_len from count) ≡ slice_set (map f (range_with_len from count)) offset (g (from + offset))
  map-set-from f g from zero offset l e = absurd (omega arith)
  map-set-from f g from (suc count) zero l e =
      rw add-zero (ap (λ xs. g from ∷ xs) (map-same f g (from + 1) count (λ j h k. e j (omega arith) (omega arith) (λ s. omega arith))))
  map-set-from f g from (suc count) (suc offset) l e =
      let here : g from ≡ f from = e from (omega arith) (omega arith) (λ s. omega arith) in
      let same : (from + 1) + offset ≡ from + suc offset = omega arith in
      let rest = map-set-from f g (from + 1) count offset (omega arith) (λ j h k d. e j (omega arith) (omega arith) (λ s. d (omega arith))) in
      cc

  pub map-set : (f g : ℕ → X) (count offset : ℕ) → offset < count → ((j : ℕ) → j < count → j ≢ offset → g j ≡ f j)
      → map g (range_with_len 0 count) ≡ slice_set (map f (range_with_len 0 count)) offset (g offset)
  map-set f g count offset l e =
      let same : 0 + offset ≡ offset = omega arith in
      map-set-from f g 0 count offset l (λ j h k d. e j (omega arith) (λ s. d (omega arith))) ∙ ap (λ n. slice_set (map f (range_with_len 0 count)) offset (g n)) same

below-four : (id : ℕ) → id % 4 < 4
below-four id = omega arith

id-is : (id : ℕ) → 4 * (id / 4) + id % 4 ≡ id
id-is id = omega arith

-- ---- what stands there

pub row_at-rows : (f : ℕ → Stream) (count : ℕ → ℕ) (kind : ℕ) → kind < 4 → row_at (rows f count) kind ≡ row f count kind
row_at-rows f count kind l = get_or-map-range_with_len (row f count) 0 4 kind kind [] l (omega arith)

length-row : (f : ℕ → Stream) (count : ℕ → ℕ) (kind : ℕ) → length (row f count kind) ≡ count kind
length-row f count kind = length-map-range_with_len (λ i. f (4 * i + kind)) 0 (count kind)

pub count-rows : (f : ℕ → Stream) (count : ℕ → ℕ) (kind : ℕ) → kind < 4 → length (row_at (rows f count) kind) ≡ count kind
count-rows f count kind l = ap length (row_at-rows f count kind l) ∙ length-row f count kind

pub has-rows : (f : ℕ → Stream) (count : ℕ → ℕ) (id : ℕ) → has_stream (rows f count) id ≡ nat_lt (id / 4) (count (id % 4))
has-rows f count id = ap (nat_lt (id / 4)) (count-rows f count (id % 4) (below-four id))

pub stream_at-rows : (f : ℕ → Stream) (count : ℕ → ℕ) (id : ℕ) → nat_lt (id / 4) (count (id % 4)) ≡ true → stream_at (rows f count) id ≡ f id
stream_at-rows f count id l =
    let below : id / 4 < count (id % 4) = grind (arith, nat_tests) in
    ap (λ r. stream_in r (id / 4)) (row_at-rows f count (id % 4) (below-four id))
    ∙ get_or-map-range_with_len (λ i. f (4 * i + id % 4)) 0 (count (id % 4)) (id / 4) (id / 4) (fresh 0) below (omega arith)
    ∙ ap f (id-is id)

-- ---- what changes

-- a function that differs at one id alone
rows-set : (f g : ℕ → Stream) (count : ℕ → ℕ) (id : ℕ) → id / 4 < count (id % 4) → ((k : ℕ) → k ≢ id → g k ≡ f k)
    → rows g count ≡ slice_set (rows f count) (id % 4) (slice_set (row f count (id % 4)) (id / 4) (g id))
rows-set f g count id l e =
    map-set (row f count) (row g count) 4 (id % 4) (below-four id)
    (λ kind b d. map-same (λ i. f (4 * i + kind)) (λ i. g (4 * i + kind)) 0 (count kind) (λ i _ _. e (4 * i + kind) (λ s. d (omega arith))))
    ∙ ap (slice_set (rows f count) (id % 4)) here
  where
    here : row g count (id % 4) ≡ slice_set (row f count (id % 4)) (id / 4) (g id)
    here = map-set (λ i. f (4 * i + id % 4)) (λ i. g (4 * i + id % 4)) (count (id % 4)) (id / 4) l
        (λ i _ d. e (4 * i + id % 4) (λ s. d (omega arith)))
        ∙ ap (λ s. slice_set (row f count (id % 4)) (id / 4) (g s)) (id-is id)

pub rows-changed : (f g : ℕ → Stream) (count : ℕ → ℕ) (id : ℕ) (u : Stream → Stream) → nat_lt (id / 4) (count (id % 4)) ≡ true
    → ((k : ℕ) → g k ≡ (if id == k then u (f k) else f k)) → rows g count ≡ with_changed (rows f count) id u
rows-changed f g count id u l e =
    let below : id / 4 < count (id % 4) = grind (arith, nat_tests) in
    rows-set f g count id below other
    ∙ ap (λ s. slice_set (rows f count) (id % 4) (slice_set (row f count (id % 4)) (id / 4) s)) (same ∙ ap u (sym (stream_at-rows f count id l)))
    ∙ ap (λ r. slice_set (rows f count) (id % 4) (slice_set r (id / 4) (u (stream_at (rows f count) id)))) (sym (row_at-rows f count (id % 4) (below-four id)))
  where
    other : (k : ℕ) → k ≢ id → g k ≡ f k
    other k d = let differs : (id == k) ≡ false = grind (arith, nat_tests) in e k ∙ rw differs refl

    same : g id ≡ u (f id)
    same = let equals : (id == id) ≡ true = grind (arith, nat_tests) in e id ∙ rw equals refl

-- one more stream of a kind
pub rows-pushed : (f : ℕ → Stream) (count more : ℕ → ℕ) (kind : ℕ) (s : Stream) → kind < 4 → more kind ≡ count kind + 1 → ((j : ℕ) → j ≢ kind → more j ≡ count j)
    → f (4 * count kind + kind) ≡ s → rows f more ≡ with_pushed (rows f count) kind s
rows-pushed f count more kind s l m o e =
    map-set (row f count) (row f more) 4 kind l (λ j _ d. ap (λ n. map (λ i. f (4 * i + j)) (range_with_len 0 n)) (o j d))
    ∙ ap (slice_set (rows f count) kind) here
  where
    here : row f more kind ≡ row_at (rows f count) kind ++ s ∷ []
    here = ap (λ n. map (λ i. f (4 * i + kind)) (range_with_len 0 n)) m
        ∙ map-range_with_len_more (λ i. f (4 * i + kind)) 0 (count kind) (count kind) (omega arith)
        ∙ ap (λ x. row f count kind ++ x ∷ []) e
        ∙ ap (λ r. r ++ s ∷ []) (sym (row_at-rows f count kind l))

-- where there are none of any kind
pub rows-none : (f g : ℕ → Stream) (count : ℕ → ℕ) → ((kind : ℕ) → count kind ≡ 0) → rows g count ≡ rows f count
rows-none f g count z = map-same (row f count) (row g count) 0 4
    (λ kind _ _. ap (λ n. map (λ i. g (4 * i + kind)) (range_with_len 0 n)) (z kind) ∙ sym (ap (λ n. map (λ i. f (4 * i + kind)) (range_with_len 0 n)) (z kind)))
