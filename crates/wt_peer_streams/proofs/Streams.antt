-- What a change of one stream does to the streams of a transport.
use Rattle.std.proofs.Common.{arith, ◌≡◌, ◌≢◌, ◌<◌, ◌≤◌, ◌/◌, ◌%◌, zero, suc, ℕ, Bool, true, false, List, [], ◌∷◌, length, get_or, refl, sym, ap, ◌∙◌, inl, inr}
use Rattle.std.specs.Prelude.{nat_lt, ◌==◌, if◌then◌else◌}
use Rattle.std.specs.List.{concat}
use Rattle.std.proofs.lemmas.Bool.Decides.{nat_tests}
use Rattle.std.proofs.lemmas.Bool.{cases_lt}
use Rattle.std.proofs.lemmas.List.{get_or-set_same, get_or-set_other}
use Rattle.std.proofs.Math.ListN.{length-set}
use Rattle.wt_transport.specs.StreamState.{Stream, with_changed, changed_in, fresh, has_stream, row_at, stream_at, stream_in}
use Rattle.wt_transport.specs.State.{TransportState}
use Rattle.wt_transport.specs.Step.{with_change, unread_now}

-- past the end of a list there is the default
pub past-end : {X : Type 0} (xs : List X) (i : ℕ) (d : X) → length xs ≤ i → get_or xs i d ≡ d
past-end [] i d l = refl
past-end (x ∷ xs) zero d l = absurd (omega arith)
past-end (x ∷ xs) (suc i) d l = past-end xs i d (omega arith)

-- a kind that has a stream is there
kind-there : (streams : List (List Stream)) (kind index : ℕ) → index < length (row_at streams kind) → kind < length streams
kind-there streams kind index l = elim (cases_lt kind (length streams)) [
  | inl lt ↦ lt
  | inr le ↦ let none : length (row_at streams kind) ≡ 0 = ap length (past-end streams kind [] le) in absurd (omega arith)
]

module _ (streams : List (List Stream)) (id : ℕ) (f : Stream → Stream) (has : has_stream streams id ≡ true) where
  pub index-below : id / 4 < length (row_at streams (id % 4))
  index-below = grind (arith, nat_tests)

  pub kind-below : id % 4 < length streams
  kind-below = kind-there streams (id % 4) (id / 4) index-below

  pub row-changed : row_at (with_changed streams id f) (id % 4) ≡ changed_in (row_at streams (id % 4)) (id / 4) f
  row-changed = get_or-set_same streams (id % 4) (changed_in (row_at streams (id % 4)) (id / 4) f) [] kind-below

  pub here-changed : stream_at (with_changed streams id f) id ≡ f (stream_at streams id)
  here-changed = ap (λ (row : List Stream). stream_in row (id / 4)) row-changed
      ∙ get_or-set_same (row_at streams (id % 4)) (id / 4) (f (stream_at streams id)) (fresh 0) index-below

  pub here-has : has_stream (with_changed streams id f) id ≡ true
  here-has = ap (λ (row : List Stream). nat_lt (id / 4) (length row)) row-changed
      ∙ (ap (λ n. nat_lt (id / 4) n) (length-set (row_at streams (id % 4)) (id / 4) (f (stream_at streams id))) ∙ has)

  other-row : (k : ℕ) → k % 4 ≢ id % 4 → row_at (with_changed streams id f) (k % 4) ≡ row_at streams (k % 4)
  other-row k d = get_or-set_other streams (id % 4) (k % 4) (changed_in (row_at streams (id % 4)) (id / 4) f) [] d

  same-row : (k : ℕ) → k % 4 ≡ id % 4 → k / 4 ≢ id / 4 → stream_at (with_changed streams id f) k ≡ stream_at streams k
  same-row k e d = ap (λ kind. stream_in (row_at (with_changed streams id f) kind) (k / 4)) e
      ∙ (ap (λ (row : List Stream). stream_in row (k / 4)) row-changed
      ∙ (get_or-set_other (row_at streams (id % 4)) (id / 4) (k / 4) (f (stream_at streams id)) (fresh 0) d
      ∙ ap (λ kind. stream_in (row_at streams kind) (k / 4)) (sym e)))

  kinds : (k : ℕ) (b : Bool) → (k % 4 == id % 4) ≡ b → (id == k) ≡ false → stream_at (with_changed streams id f) k ≡ stream_at streams k
  kinds k true e n =
      let same : k % 4 ≡ id % 4 = grind (arith, nat_tests) in
      let other : id ≢ k = λ s. (let yes_ : (id == k) ≡ true = grind (arith, nat_tests) in absurd (cc)) in
      same-row k same (λ s. other (omega arith))
  kinds k false e n =
      let other : k % 4 ≢ id % 4 = λ s. (let yes_ : (k % 4 == id % 4) ≡ true = grind (arith, nat_tests) in absurd (cc)) in
      ap (λ (row : List Stream). stream_in row (k / 4)) (other-row k other)

  -- another stream stays as it is
  pub other-changed : (k : ℕ) → (id == k) ≡ false → stream_at (with_changed streams id f) k ≡ stream_at streams k
  other-changed k n = kinds k (k % 4 == id % 4) refl n

  has-kinds : (k : ℕ) (b : Bool) → (k % 4 == id % 4) ≡ b → has_stream (with_changed streams id f) k ≡ has_stream streams k
  has-kinds k true e =
      let same : k % 4 ≡ id % 4 = grind (arith, nat_tests) in
      ap (λ kind. nat_lt (k / 4) (length (row_at (with_changed streams id f) kind))) same
      ∙ (ap (λ (row : List Stream). nat_lt (k / 4) (length row)) row-changed
      ∙ (ap (λ n. nat_lt (k / 4) n) (length-set (row_at streams (id % 4)) (id / 4) (f (stream_at streams id)))
      ∙ ap (λ kind. nat_lt (k / 4) (length (row_at streams kind))) (sym same)))
  has-kinds k false e =
      let other : k % 4 ≢ id % 4 = λ s. (let yes_ : (k % 4 == id % 4) ≡ true = grind (arith, nat_tests) in absurd (cc)) in
      ap (λ (row : List Stream). nat_lt (k / 4) (length row)) (other-row k other)

  pub has-changed : (k : ℕ) → has_stream (with_changed streams id f) k ≡ has_stream streams k
  has-changed k = has-kinds k (k % 4 == id % 4) refl

-- the unread bytes of another stream stay
pub other-unread : (t : TransportState) (id : ℕ) (f : Stream → Stream) → has_stream t.streams id ≡ true → (k : ℕ) → (id == k) ≡ false → unread_now (with_change t id f) k ≡ unread_now t k
other-unread t id f has k n =
    let there = has-changed t.streams id f has k in
    let same = other-changed t.streams id f has k n in
    ap (λ (b : Bool). concat (if b then (stream_at (with_changed t.streams id f) k).unread else [])) there
    ∙ ap (λ (s : Stream). concat (if has_stream t.streams k then s.unread else [])) same
