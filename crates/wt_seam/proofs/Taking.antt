-- How a reader takes bytes, one at a time.
use Rattle.std.proofs.Common.{arith, ◌≡◌, ◌<◌, ◌≤◌, ◌-◌, ℕ, zero, suc, true, false, List, [], ◌∷◌, ◌++◌, length, take, drop, Option, Some, None, is_some, refl, sym, ap, ◌∙◌, inl, inr}
use Rattle.std.specs.Prelude.{slice_index}
use Rattle.std.specs.List.{concat}
use Rattle.std.proofs.lemmas.Bool.{cases_lt}
use Rattle.std.proofs.lemmas.List.{append-nil, length-append, take-append-drop, take_all}
use Rattle.wt_proto.specs.declared.walk.Step.{Step}
use Rattle.wt_proto.specs.declared.walk.Step.TheVariants.{Cut, Goes, Stops}
use Rattle.wt_proto.specs.WalkProgress.{WalkProgress, progress_over, progress_after, reached_in, reached_at, IsProper, Advances, progress_past}
use Rattle.wt_proto.specs.Steady.{size_of_step, IsSteady}
use Rattle.wt_proto.proofs.ProgressLaws.{progress-cut, progress-goes, progress-stops, fed-fed, kept-open}
use Rattle.wt_transport.specs.Pieces.{first_piece}
use Rattle.wt_transport.specs.State.{TransportState}
use Rattle.wt_transport.specs.Step.{unread_now}
use Rattle.wt_seam.specs.Reading.{TookFirst, after_taking}

module _ {S O : Type 0} (decide : S → List ℕ → Step S O) (steady : IsSteady decide) (s : S) (kept : List ℕ) (byte : ℕ) (waits : decide s kept ≡ Cut) where
  -- bytes of which all but the last decide nothing are no more than an item
  pub byte-long : (items : List ℕ) (m : ℕ) → items ≡ kept ++ byte ∷ [] → size_of_step (decide s items) ≡ Some m → length items ≤ m
  byte-long items m is e =
      elim (cases_lt m (length items)) [
        | inl lt ↦
            let short : m ≤ length kept = omega (arith, ap length is, length-append kept (byte ∷ [])) in
            let front = steady.front s kept (byte ∷ []) m (ap (λ (xs : List ℕ). size_of_step (decide s xs)) (sym is) ∙ e) short in
            let none : size_of_step (decide s items) ≡ None = ap (λ (xs : List ℕ). size_of_step (decide s xs)) is ∙ (ap (λ d. size_of_step d) (sym front) ∙ ap (λ d. size_of_step d) waits) in
            absurd cc
        | inr le ↦ le
      ]

  byte-passes : (items : List ℕ) (d : Step S O) → items ≡ kept ++ byte ∷ [] → decide s items ≡ d → progress_over decide s None 0 items ≡ progress_past s d (length items) items
  byte-passes items Cut is e = progress-cut decide s items e
  byte-passes items (Goes t m) is e = progress-goes decide steady s t m items e (byte-long items m is (ap (λ d. size_of_step d) e))
  byte-passes items (Stops o m) is e = progress-stops decide steady s o m items e (byte-long items m is (ap (λ d. size_of_step d) e))

  not-yet : (k : ℕ) (later : List ℕ) → k < 1 → (reached_in (progress_over decide s None 0 (kept ++ take k (byte ∷ later)))).stop ≡ None
  not-yet zero later lt = ap (λ (xs : List ℕ). (reached_in (progress_over decide s None 0 xs)).stop) (append-nil kept) ∙ (ap (λ (p : WalkProgress S O). (reached_in p).stop) (progress-cut decide s kept waits) ∙ kept-open decide steady s kept)
  not-yet (suc k) later lt = absurd (omega arith)

  byte-advances : (items : List ℕ) (new : WalkProgress S O) → items ≡ kept ++ byte ∷ [] → new ≡ progress_past s (decide s items) (length items) items → (later : List ℕ) →
      Advances decide (record { state = s; stop = None; skip = 0; kept = kept }) new (byte ∷ later) 1
  byte-advances items new is e later = record {
    within = omega arith;
    fed = e ∙ (sym (byte-passes items (decide s items) is refl) ∙ ap (λ (xs : List ℕ). progress_over decide s None 0 xs) is);
    running = λ k lt. not-yet k later lt;
  }

-- a byte that is kept, judged with those before it
pub kept-byte : {S O : Type 0} (decide : S → List ℕ → Step S O) → IsSteady decide → (s : S) (stop : Option O) (skip : ℕ) (kept items : List ℕ) (byte : ℕ) (new : WalkProgress S O) →
    IsProper decide (record { state = s; stop = stop; skip = skip; kept = kept }) → skip ≡ 0 → is_some stop ≡ false → items ≡ kept ++ byte ∷ [] →
    new ≡ progress_past s (decide s items) (length items) items → (later : List ℕ) →
    Advances decide (record { state = s; stop = stop; skip = skip; kept = kept }) new (byte ∷ later) 1
kept-byte decide steady s (Some o) skip kept items byte new proper none goes is e later = absurd cc
kept-byte decide steady s None skip kept items byte new proper none goes is e later =
    let same = byte-advances decide steady s kept byte proper.waits items new is e later in
    record {
      within = same.within;
      fed = same.fed ∙ ap (λ (n : ℕ). progress_over decide s None n (kept ++ byte ∷ [])) (sym none);
      running = λ k lt. ap (λ (n : ℕ). (reached_in (progress_over decide s None n (kept ++ take k (byte ∷ later)))).stop) none ∙ same.running k lt;
    }

-- the same, by what it decides
pub kept-goes : {S O : Type 0} (decide : S → List ℕ → Step S O) → IsSteady decide → (s t : S) (stop : Option O) (skip : ℕ) (kept items cleared : List ℕ) (byte m n : ℕ) →
    IsProper decide (record { state = s; stop = stop; skip = skip; kept = kept }) → skip ≡ 0 → is_some stop ≡ false → items ≡ kept ++ byte ∷ [] →
    decide s items ≡ Goes t m → n ≡ length items → cleared ≡ [] → (later : List ℕ) →
    Advances decide (record { state = s; stop = stop; skip = skip; kept = kept }) (record { state = t; stop = stop; skip = m - n; kept = cleared }) (byte ∷ later) 1
kept-goes decide steady s t (Some o) skip kept items cleared byte m n proper none goes is e f g later = absurd cc
kept-goes decide steady s t None skip kept items cleared byte m n proper none goes is e f g later =
    kept-byte decide steady s None skip kept items byte (record { state = t; stop = None; skip = m - n; kept = cleared }) proper none goes is (rw (e, f, g) refl) later

pub kept-stops : {S O : Type 0} (decide : S → List ℕ → Step S O) → IsSteady decide → (s : S) (stop : Option O) (skip : ℕ) (kept items cleared : List ℕ) (byte : ℕ) (o : O) (m n : ℕ) →
    IsProper decide (record { state = s; stop = stop; skip = skip; kept = kept }) → skip ≡ 0 → is_some stop ≡ false → items ≡ kept ++ byte ∷ [] →
    decide s items ≡ Stops o m → n ≡ length items → cleared ≡ [] → (later : List ℕ) →
    Advances decide (record { state = s; stop = stop; skip = skip; kept = kept }) (record { state = s; stop = Some o; skip = m - n; kept = cleared }) (byte ∷ later) 1
kept-stops decide steady s stop skip kept items cleared byte o m n proper none goes is e f g later =
    kept-byte decide steady s stop skip kept items byte (record { state = s; stop = Some o; skip = m - n; kept = cleared }) proper none goes is (rw (e, f, g) refl) later

-- a reader that stopped stays, and one that took all is where all bytes lead
module _ {S O : Type 0} (decide : S → List ℕ → Step S O) (steady : IsSteady decide) where
  over-stays : (s : S) (stop : Option O) (skip : ℕ) (kept more : List ℕ) → is_some (reached_at s stop skip kept).stop ≡ true → progress_over decide s stop skip (kept ++ more) ≡ record { state = s; stop = stop; skip = skip; kept = kept }
  over-stays s (Some o) zero [] [] e = refl
  over-stays s (Some o) zero [] (m ∷ more) e = refl
  over-stays s None zero [] more e = absurd cc
  over-stays s stop zero (b ∷ kept) more e = absurd cc
  over-stays s stop (suc skip) kept more e = absurd cc

  pub took-all : (old new : WalkProgress S O) (bytes : List ℕ) (n : ℕ) → new ≡ progress_after decide old (take n bytes) → n ≤ length bytes → (n < length bytes → is_some (reached_in new).stop ≡ true) → progress_after decide old bytes ≡ new
  took-all old new bytes n e le all =
      elim (cases_lt n (length bytes)) [
        | inl lt ↦
            ap (λ (xs : List ℕ). progress_after decide old xs) (sym (take-append-drop n bytes))
            ∙ (sym (fed-fed decide steady old (take n bytes) (drop n bytes))
            ∙ (ap (λ (p : WalkProgress S O). progress_after decide p (drop n bytes)) (sym e)
            ∙ over-stays new.state new.stop new.skip new.kept (drop n bytes) (all lt)))
        | inr whole ↦ ap (λ (xs : List ℕ). progress_after decide old xs) (sym (take_all n bytes whole)) ∙ sym e
      ]

-- where memory ran out, the bytes in front of the one that wasn't kept are taken
pub took-first : {S O : Type 0} (decide : S → List ℕ → Step S O) (old mid new : WalkProgress S O) (t u : TransportState) (id n : ℕ) → Advances decide old mid (unread_now t id) n → new ≡ mid → u ≡ after_taking t id n → TookFirst decide old new t u id n
took-first decide old mid new t u id n front same is = record { within = front.within; reading = same ∙ front.fed; running = front.running; state = is }

-- the first byte of the first piece is the first of all
pub first-byte : (pieces : List (List ℕ)) (piece : List ℕ) → piece ≡ first_piece pieces → 0 < length piece → slice_index piece 0 ∷ [] ≡ take 1 (concat pieces)
first-byte pieces [] is some = absurd (omega arith)
first-byte [] (b ∷ piece) is some = absurd cc
first-byte (p ∷ later) (b ∷ piece) is some = ap (λ (xs : List ℕ). take 1 (xs ++ concat later)) is
