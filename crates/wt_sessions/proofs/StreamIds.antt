-- The ids of the streams of a kind: each once, and those of two kinds apart.
use Rattle.std.proofs.Common.{arith, ◌≡◌, ◌≢◌, ◌<◌, ◌≤◌, ℕ, zero, suc, ◌+◌, ◌*◌, ◌%◌, Bool, true, false, List, [], ◌∷◌, ◌++◌, refl, sym, ap, ◌∙◌}
use Rattle.std.specs.Prelude.{◌==◌, ◌||◌}
use Rattle.std.proofs.lemmas.Bool.{eq-eqb, eqb-true, or_from, or_parts, false_from_ne_true}
use Rattle.wt_meaning.specs.Moments.{ids_from}
use Rattle.wt_turn.specs.Streams.{peer_bi, peer_uni}
use Rattle.wt_sessions.proofs.Moment.{AllMiss}
use Rattle.wt_sessions.proofs.Scans.{is_in}
use Rattle.wt_sessions.specs.Moment.{is_peers}
use Rattle.wt_wire.specs.declared.side.Side.{Side}
use Rattle.wt_wire.specs.declared.side.Side.TheVariants.{Client, Server}

pub record Among (kind n count k : ℕ) : Type 0 where
  pub index : ℕ
  pub from : n ≤ index
  pub below : index < n + count
  pub is : k ≡ 4 * index + kind

pub among : (kind n count k : ℕ) → is_in k (ids_from kind n count) ≡ true → Among kind n count k
among kind n zero k e = absurd cc
among kind n (suc count) k e = by (4 * n + kind == k) refl e (among kind (suc n) count k)
  where
    by : (b : Bool) → (4 * n + kind == k) ≡ b → (b || is_in k (ids_from kind (suc n) count)) ≡ true → (is_in k (ids_from kind (suc n) count) ≡ true → Among kind (suc n) count k) → Among kind n (suc count) k
    by true f g again = record { index = n; from = omega arith; below = omega arith; is = sym (eqb-true (4 * n + kind) k f) }
    by false f g again = let a = again g in record { index = a.index; from = omega arith; below = omega arith; is = a.is }

misses : (kind n count k : ℕ) → (Among kind n count k → ⊥) → is_in k (ids_from kind n count) ≡ false
misses kind n count k none = false_from_ne_true (is_in k (ids_from kind n count)) (λ e. none (among kind n count k e))

-- an id is of its kind, and comes once
pub kind-is : (kind n count k : ℕ) → kind < 4 → is_in k (ids_from kind n count) ≡ true → k % 4 ≡ kind
kind-is kind n count k low e = let a = among kind n count k e in omega arith

pub later-misses : (kind n count : ℕ) → is_in (4 * n + kind) (ids_from kind (suc n) count) ≡ false
later-misses kind n count = misses kind (suc n) count (4 * n + kind) (λ a. omega arith)

pub next-misses : (kind n count m : ℕ) → n + count ≤ m → is_in (4 * m + kind) (ids_from kind n count) ≡ false
next-misses kind n count m le = misses kind n count (4 * m + kind) (λ a. omega arith)

pub kinds-miss : (kind other n count m : ℕ) → kind < 4 → other < 4 → kind ≢ other → is_in (4 * m + other) (ids_from kind n count) ≡ false
kinds-miss kind other n count m low lower ne = misses kind n count (4 * m + other) (λ a. omega arith)

pub all-miss : (kind other n count m more : ℕ) → kind < 4 → other < 4 → kind ≢ other → AllMiss (ids_from kind n count) (ids_from other m more)
all-miss kind other n count m zero low lower ne = tt
all-miss kind other n count m (suc more) low lower ne = (kinds-miss kind other n count m low lower ne, all-miss kind other n count (suc m) more low lower ne)

pub ids-more : (kind n count m : ℕ) → m ≡ n + count → ids_from kind n (suc count) ≡ ids_from kind n count ++ (4 * m + kind) ∷ []
ids-more kind n zero m e = let same : n ≡ m = omega arith in ap (λ (i : ℕ). (4 * i + kind) ∷ []) same
ids-more kind n (suc count) m e = ap (λ (ks : List ℕ). (4 * n + kind) ∷ ks) (ids-more kind (suc n) count m (omega arith))

pub uni-low : (side : Side) → peer_uni side < 4
uni-low Client = omega arith
uni-low Server = omega arith

pub bi-low : (side : Side) → peer_bi side < 4
bi-low Client = omega arith
bi-low Server = omega arith

pub kinds-differ : (side : Side) → peer_uni side ≢ peer_bi side
kinds-differ Client e = absurd (omega arith)
kinds-differ Server e = absurd (omega arith)

pub kinds-differ-so : (side : Side) → peer_bi side ≢ peer_uni side
kinds-differ-so side e = kinds-differ side (sym e)

-- those of either kind are the peer's
pub uni-peers : (side : Side) (n : ℕ) → is_peers side (4 * n + peer_uni side) ≡ true
uni-peers side n = let low = uni-low side in let same : (4 * n + peer_uni side) % 4 ≡ peer_uni side = omega arith in rw (eq-eqb ((4 * n + peer_uni side) % 4) (peer_uni side) same) refl

or-true : (b : Bool) → (b || true) ≡ true
or-true true = refl
or-true false = refl

pub bi-peers : (side : Side) (n : ℕ) → is_peers side (4 * n + peer_bi side) ≡ true
bi-peers side n = let low = bi-low side in let same : (4 * n + peer_bi side) % 4 ≡ peer_bi side = omega arith in rw (eq-eqb ((4 * n + peer_bi side) % 4) (peer_bi side) same) (or-true ((4 * n + peer_bi side) % 4 == peer_uni side))

front-misses : (k : ℕ) (xs ys : List ℕ) → is_in k (xs ++ ys) ≡ false → is_in k xs ≡ false
front-misses k [] ys e = refl
front-misses k (x ∷ xs) ys e = let parts = or_parts (x == k) (is_in k (xs ++ ys)) e in or_from (x == k) (is_in k xs) parts.0 (front-misses k xs ys parts.1)

-- what misses one more of a kind misses those before it
pub fewer-miss : (k kind count : ℕ) → is_in k (ids_from kind 0 (suc count)) ≡ false → is_in k (ids_from kind 0 count) ≡ false
fewer-miss k kind count e = front-misses k (ids_from kind 0 count) ((4 * count + kind) ∷ []) (sym (ap (is_in k) (ids-more kind 0 count count (omega arith))) ∙ e)
