-- What a reader's value says of all bytes that it took.
use Rattle.std.proofs.Common.{◌≡◌, ℕ, zero, suc, ◌-◌, ◌<◌, ◌≤◌, true, false, Bool, List, [], ◌∷◌, ◌++◌, length, take, drop, Option, Some, None, IfSome, refl, sym, ap, ◌∙◌, arith, IsSome, is_some, inl, inr, ◌&&◌, ◌==◌, Result, Ok, Err, IfOk, OnErr}
use Rattle.std.proofs.lemmas.List.{append-nil, length-drop, length-take, take-append-drop}
use Rattle.std.proofs.lemmas.Bool.{cases_lt, eq-eqb, ne_eqb}
use Rattle.std.proofs.Math.ListN.{drop_of_length-le}
use Rattle.std.proofs.lemmas.Bool.Decides.{nat_tests}
use Rattle.wt_wire.specs.declared.side.StreamEnd.{StreamEnd}
use Rattle.wt_wire.specs.declared.side.StreamEnd.TheVariants.{Running}
use Rattle.wt_proto.specs.declared.walk.Step.{Step}
use Rattle.wt_proto.specs.declared.walk.Step.TheVariants.{Cut, Goes, Stops}
use Rattle.wt_proto.specs.declared.cursor.PassedItems.{PassedItems}
use Rattle.wt_proto.specs.Cursor.{passed_outcome, progress_passed}
use Rattle.wt_proto.specs.WalkProgress.{WalkProgress, Reading, HasRead, Advances, AdvancesSome, progress_over, progress_after, fed_reading, reached_in, reached_at, at_item, IsProper}
use Rattle.wt_proto.specs.Reading.{outcome_in}
use Rattle.wt_proto.specs.Steady.{IsSteady}
use Rattle.wt_proto.specs.Walk.{Reached, step_on, outcome_at, whole_walk}
use Rattle.wt_proto.proofs.ProgressLaws.{walk-progress, fed-append, fed-nothing}

-- what stops a walk is what an item stopped it with
module _ {S O : Type 0} (decide : S → List ℕ → Step S O) (P : O → Type 0) (all : (s : S) (bytes : List ℕ) (o : O) (n : ℕ) → decide s bytes ≡ Stops o n → P o) where
  led-stop : (s : S) (b : ℕ) (xs : List ℕ) → ((t : S) (stop : Option O) (n : ℕ) → IfSome stop P → IfSome (progress_over decide t stop n xs).stop P) → (d : Step S O) → decide s (b ∷ xs) ≡ d →
      IfSome (step_on (record { state = s; stop = None; skip = 0; kept = b ∷ xs }) (λ t stop n. progress_over decide t stop (n - 1) xs) s d).stop P
  led-stop s b xs again Cut e = tt
  led-stop s b xs again (Goes t n) e = again t None (n - 1) tt
  led-stop s b xs again (Stops o n) e = again s (Some o) (n - 1) (all s (b ∷ xs) o n e)

  pub progress-stop : (xs : List ℕ) (s : S) (stop : Option O) (n : ℕ) → IfSome stop P → IfSome (progress_over decide s stop n xs).stop P
  progress-stop [] s stop (suc n) h = h
  progress-stop (b ∷ xs) s stop (suc n) h = progress-stop xs s stop n h
  progress-stop [] s stop zero h = h
  progress-stop (b ∷ xs) s (Some o) zero h = h
  progress-stop (b ∷ xs) s None zero h = led-stop s b xs (progress-stop xs) (decide s (b ∷ xs)) refl

  pub advance-stop : (old new : WalkProgress S O) (piece : List ℕ) (n : ℕ) → Advances decide old new piece n → IfSome old.stop P → IfSome new.stop P
  advance-stop old new piece n a h = rw a.fed (progress-stop (old.kept ++ take n piece) old.state old.stop old.skip h)

-- a reader that has read bytes and is fed more has read both
pub fed-read : {S O : Type 0} (decide : S → List ℕ → Step S O) (start : S) → IsSteady decide → (r : Reading S O) (bytes more : List ℕ) (end : StreamEnd) → HasRead decide start r bytes end →
    HasRead decide start (fed_reading decide r more) (bytes ++ more) end
fed-read {S = S} {O = O} decide start steady r bytes more end has =
    ap (λ (x : Reading S O). fed_reading decide x more) has
    ∙ ap (λ (p : WalkProgress S O). record { progress = p; end = end }) (fed-append decide steady bytes more start None 0)

module _ {S O : Type 0} (decide : S → List ℕ → Step S O) (start : S) (unfinished : StreamEnd → S → Bool → O) (outcome_of : List ℕ → StreamEnd → O)
    (reaches : (bytes : List ℕ) (end : StreamEnd) → outcome_of bytes end ≡ outcome_at unfinished end (whole_walk decide start bytes)) where
  -- the outcome is that of all bytes and the end
  pub read-outcome : (r : Reading S O) (bytes : List ℕ) (end : StreamEnd) → HasRead decide start r bytes end → outcome_in unfinished r ≡ outcome_of bytes end
  read-outcome r bytes end has =
      ap (λ (x : Reading S O). outcome_in unfinished x) has
      ∙ (ap (λ (x : Reached S O). outcome_at unfinished end x) (sym (walk-progress decide bytes start None 0)) ∙ sym (reaches bytes end))

  module _ (final : O → Bool) (by_end : (end : StreamEnd) (s t : S) (b c : Bool) → final (unfinished end s b) ≡ final (unfinished end t c)) (steady : IsSteady decide)
      (old new : Reading S O) (piece bytes : List ℕ) (n : ℕ) (end : StreamEnd) (has : HasRead decide start old bytes end) (a : Advances decide old.progress new.progress piece n) where
    pub feed-read : new.end ≡ old.end → HasRead decide start new (bytes ++ take n piece) end
    feed-read same =
        let is : new ≡ fed_reading decide old (take n piece) = rw (a.fed, same) refl in
        is ∙ fed-read decide start steady old bytes (take n piece) end has

    open-outcome : (k : ℕ) → k < n → outcome_of (bytes ++ take k piece) end ≡ unfinished end (reached_in (progress_after decide old.progress (take k piece))).state (reached_in (progress_after decide old.progress (take k piece))).between
    open-outcome k lt =
        sym (read-outcome (fed_reading decide old (take k piece)) (bytes ++ take k piece) end (fed-read decide start steady old bytes (take k piece) end has))
        ∙ (rw (a.running k lt) (ap (λ (r : Reading S O). unfinished r.end (reached_in (progress_after decide old.progress (take k piece))).state (reached_in (progress_after decide old.progress (take k piece))).between) has))

    pub feed-running : (0 < n → final (outcome_in unfinished old) ≡ false) → (k : ℕ) → k < n → final (outcome_of (bytes ++ take k piece) end) ≡ false
    feed-running goes k lt =
        let first : final (outcome_of (bytes ++ take 0 piece) end) ≡ false =
        ap (λ (xs : List ℕ). final (outcome_of xs end)) (append-nil bytes) ∙ (ap final (sym (read-outcome old bytes end has)) ∙ goes (omega arith)) in
        ap final (open-outcome k lt) ∙ (by_end end _ _ _ _ ∙ (ap final (sym (open-outcome 0 (omega arith))) ∙ first))

    pub feed-stopped : new.end ≡ old.end → (n < length piece → final (outcome_in unfinished new) ≡ true) → n < length piece → final (outcome_of (bytes ++ take n piece) end) ≡ true
    feed-stopped same all lt = ap final (sym (read-outcome new (bytes ++ take n piece) end (feed-read same))) ∙ all lt

suc-not : (n : ℕ) → (suc n == 0) ≡ true → ⊥
suc-not n e = grind (arith, nat_tests)

suc-false : (n : ℕ) → (suc n == 0) ≡ false
suc-false n = grind (arith, nat_tests)

-- between two items there is nothing to skip, and nothing is kept
between-at : {S O : Type 0} (s : S) (stop : Option O) (skip : ℕ) (kept : List ℕ) → (reached_at s stop skip kept).between ≡ (skip == 0 && length kept == 0)
between-at s stop (suc skip) kept = rw suc-false refl
between-at s stop zero [] = refl
between-at s stop zero (b ∷ kept) = sym (suc-false (length kept))

pub between-is : {S O : Type 0} (p : WalkProgress S O) → (reached_in p).between ≡ (p.skip == 0 && length p.kept == 0)
between-is p = between-at p.state p.stop p.skip p.kept

-- a reader that stopped has a final outcome
module _ {S O : Type 0} (decide : S → List ℕ → Step S O) (unfinished : StreamEnd → S → Bool → O) (final : O → Bool) where
  stopped-at : (s : S) (stop : Option O) (skip : ℕ) (kept : List ℕ) (end : StreamEnd) → (0 < length kept → (skip ≡ 0) × (stop ≡ None)) → IfSome stop (λ o. final o ≡ true) →
      (is_some stop && skip == 0) ≡ true → final (outcome_at unfinished end (reached_in (record { state = s; stop = stop; skip = skip; kept = kept }))) ≡ true
  stopped-at s None skip kept end idle all e = absurd cc
  stopped-at s (Some o) (suc skip) kept end idle all e = absurd (suc-not skip e)
  stopped-at s (Some o) zero [] end idle all e = all
  stopped-at s (Some o) zero (b ∷ kept) end idle all e = let none = (idle (omega arith)).1 in absurd cc

  pub stopped-final : {X : Type 0} (r : Reading S O) → IsProper decide r.progress → IfSome r.progress.stop (λ o. final o ≡ true) → (X → (is_some r.progress.stop && r.progress.skip == 0) ≡ true) → X → final (outcome_in unfinished r) ≡ true
  stopped-final r proper all done_by x = stopped-at r.progress.state r.progress.stop r.progress.skip r.progress.kept r.end proper.idle all (done_by x)

-- answers where memory may run out
pub if_ok_with : {A E : Type 0} {P Q R : A → Type 0} (r : Result A E) → IfOk r P → IfOk r Q → ((x : A) → P x → Q x → R x) → IfOk r R
if_ok_with (Ok x) p q f = f x p q
if_ok_with (Err e) p q f = tt

pub advanced : {S O E : Type 0} (decide : S → List ℕ → Step S O) (old new : WalkProgress S O) (piece : List ℕ) (r : Result ℕ E) →
    IfOk r (λ n. Advances decide old new piece n) → OnErr r (AdvancesSome decide old new piece) → AdvancesSome decide old new piece
advanced decide old new piece (Ok n) a b = (n, a)
advanced decide old new piece (Err e) a b = b

-- the outcome of a walk that went over bytes

-- further bytes leave a reader that stopped as it is
stopped-over : {S O : Type 0} (decide : S → List ℕ → Step S O) (s : S) (o : O) (more : List ℕ) → progress_over decide s (Some o) 0 more ≡ record { state = s; stop = Some o; skip = 0; kept = [] }
stopped-over decide s o [] = refl
stopped-over decide s o (b ∷ more) = refl

fed-over : {S O : Type 0} (decide : S → List ℕ → Step S O) (s : S) (stop : Option O) (skip : ℕ) (kept more : List ℕ) → (0 < length kept → (skip ≡ 0) × (stop ≡ None)) → skip ≡ 0 → IsSome stop →
    progress_after decide (record { state = s; stop = stop; skip = skip; kept = kept }) more ≡ record { state = s; stop = stop; skip = skip; kept = kept }
fed-over decide s None skip kept more idle none some = absurd cc
fed-over decide s (Some o) (suc skip) kept more idle none some = absurd (omega arith)
fed-over decide s (Some o) zero (b ∷ kept) more idle none some = let bare = (idle (omega arith)).1 in absurd cc
fed-over decide s (Some o) zero [] more idle none some = stopped-over decide s o more

-- what is final while the stream runs was stopped: more bytes change nothing
module _ {S O : Type 0} (decide : S → List ℕ → Step S O) (final : O → Bool) (unfinished : StreamEnd → S → Bool → O) (still_going : (s : S) (b : Bool) → final (unfinished Running s b) ≡ false) where
  stays-at : (s : S) (stop : Option O) (skip : ℕ) (kept more : List ℕ) → final (outcome_at unfinished Running (reached_at s stop skip kept)) ≡ true
      → progress_after decide (record { state = s; stop = stop; skip = skip; kept = kept }) more ≡ record { state = s; stop = stop; skip = skip; kept = kept }
  stays-at s stop (suc skip) kept more e = let no_ = still_going s false in absurd cc
  stays-at s stop zero (b ∷ kept) more e = let no_ = still_going s false in absurd cc
  stays-at s None zero [] more e = let no_ = still_going s true in absurd cc
  stays-at s (Some o) zero [] more e = stopped-over decide s o more

  pub stays : (r : Reading S O) (more : List ℕ) → r.end ≡ Running → final (outcome_in unfinished r) ≡ true → progress_after decide r.progress more ≡ r.progress
  stays r more e f = stays-at r.progress.state r.progress.stop r.progress.skip r.progress.kept more (ap (λ (end : StreamEnd). final (outcome_at unfinished end (reached_in r.progress))) (sym e) ∙ f)

module _ {S O : Type 0} (unfinished : StreamEnd → S → Bool → O) (end : StreamEnd) (s : S) where
  kept-between : (rest consumed : ℕ) (kept : List ℕ) → rest ≤ consumed → length kept ≡ consumed - rest → outcome_at unfinished end (reached_at {O = O} s None 0 kept) ≡ unfinished end s (rest == consumed)
  kept-between rest consumed [] le len = let same : rest ≡ consumed = omega arith in ap (λ (b : Bool). unfinished end s b) (sym (eq-eqb rest consumed same))
  kept-between rest consumed (b ∷ kept) le len =
      let other : (rest == consumed) ≡ false = ne_eqb rest consumed (λ e. absurd (omega (arith, e))) in ap (λ (b : Bool). unfinished end s b) (sym other)

  passed-by : (stop : Option O) (skip rest consumed : ℕ) (kept : List ℕ) → (0 < length kept → (skip ≡ 0) × (stop ≡ None)) → rest ≤ consumed → length kept ≡ consumed - rest →
      passed_outcome unfinished end s (record { stop = stop; skip = skip; rest = rest; consumed = consumed }) ≡ outcome_at unfinished end (reached_at s stop skip kept)
  passed-by None (suc skip) rest consumed kept idle le len = rw suc-false refl
  passed-by (Some o) (suc skip) rest consumed kept idle le len = rw suc-false refl
  passed-by None zero rest consumed kept idle le len = sym (kept-between rest consumed kept le len)
  passed-by (Some o) zero rest consumed [] idle le len = refl
  passed-by (Some o) zero rest consumed (b ∷ kept) idle le len = let none = (idle (omega arith)).1 in absurd cc

pub passed-outcome : {S O : Type 0} (decide : S → List ℕ → Step S O) (steady : IsSteady decide) (unfinished : StreamEnd → S → Bool → O) (end : StreamEnd) (start s : S) (p : PassedItems O) (bytes : List ℕ) →
    Advances decide (at_item start) (progress_passed s p bytes) bytes p.consumed → IsProper decide (progress_passed s p bytes) → p.rest ≤ p.consumed → (p.consumed < length bytes → (p.skip ≡ 0) × IsSome p.stop) →
    passed_outcome unfinished end s p ≡ outcome_at unfinished end (whole_walk decide start bytes)
passed-outcome {S = S} {O = O} decide steady unfinished end start s p bytes a proper le all =
    let stays : progress_after decide (progress_passed s p bytes) (drop p.consumed bytes) ≡ progress_passed s p bytes =
    elim (cases_lt p.consumed (length bytes)) [
      | inl lt ↦ fed-over decide s p.stop p.skip (drop p.rest (take p.consumed bytes)) (drop p.consumed bytes) proper.idle (all lt).0 (all lt).1
      | inr whole ↦ ap (λ (xs : List ℕ). progress_after decide (progress_passed s p bytes) xs) (drop_of_length-le bytes whole) ∙ fed-nothing decide steady (progress_passed s p bytes) proper
    ] in
    let is : progress_over decide start None 0 bytes ≡ progress_passed s p bytes =
    ap (λ (xs : List ℕ). progress_over decide start None 0 xs) (sym (take-append-drop p.consumed bytes))
    ∙ (sym (fed-append decide steady (take p.consumed bytes) (drop p.consumed bytes) start None 0)
    ∙ (ap (λ (x : WalkProgress S O). progress_after decide x (drop p.consumed bytes)) (sym a.fed) ∙ stays)) in
    passed-by unfinished end s p.stop p.skip p.rest p.consumed (drop p.rest (take p.consumed bytes)) proper.idle le (omega (arith, a.within, length-drop p.rest (take p.consumed bytes), length-take p.consumed bytes))
    ∙ (ap (λ (x : WalkProgress S O). outcome_at unfinished end (reached_in x)) (sym is) ∙ ap (λ (r : Reached S O). outcome_at unfinished end r) (sym (walk-progress decide bytes start None 0)))
