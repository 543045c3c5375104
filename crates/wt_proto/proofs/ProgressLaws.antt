-- How far a walk is says where it stands, and goes on from there whatever the pieces are in which the bytes come.
use Rattle.std.proofs.Common.{◌≡◌, ℕ, zero, suc, ◌-◌, ◌<◌, ◌≤◌, false, List, [], ◌∷◌, ◌++◌, length, take, drop, Option, Some, None, refl, sym, ap, ◌∙◌, arith, append_assoc}
use Rattle.std.proofs.lemmas.List.{append-nil, length-take, take-append-drop}
use Rattle.wt_proto.specs.declared.walk.Step.{Step}
use Rattle.wt_proto.specs.declared.walk.Step.TheVariants.{Cut, Goes, Stops}
use Rattle.wt_proto.specs.WalkProgress.{WalkProgress, progress_over, progress_after, reached_in, reached_at, IsProper}
use Rattle.wt_proto.specs.Steady.{size_of_step, IsSteady}
use Rattle.wt_proto.specs.Walk.{step_on, walk}

module _ {S O : Type 0} (decide : S → List ℕ → Step S O) where
  led-reached : (s : S) (b : ℕ) (xs : List ℕ) → ((t : S) (stop : Option O) (n : ℕ) → walk decide t stop n xs ≡ reached_in (progress_over decide t stop n xs)) →
      (d : Step S O) →
      step_on (record { state = s; stop = None; between = false }) (λ t stop n. walk decide t stop (n - 1) xs) s d
      ≡ reached_in (step_on (record { state = s; stop = None; skip = 0; kept = b ∷ xs }) (λ t stop n. progress_over decide t stop (n - 1) xs) s d)
  led-reached s b xs again Cut = refl
  led-reached s b xs again (Goes t n) = again t None (n - 1)
  led-reached s b xs again (Stops o n) = again s (Some o) (n - 1)

  -- how far the walk is says where it stands
  pub walk-progress : (xs : List ℕ) (s : S) (stop : Option O) (n : ℕ) → walk decide s stop n xs ≡ reached_in (progress_over decide s stop n xs)
  walk-progress [] s stop (suc n) = refl
  walk-progress (b ∷ xs) s stop (suc n) = walk-progress xs s stop n
  walk-progress [] s stop zero = refl
  walk-progress (b ∷ xs) s (Some o) zero = refl
  walk-progress (b ∷ xs) s None zero = led-reached s b xs (walk-progress xs) (decide s (b ∷ xs))

  over-stopped : (s : S) (o : O) (ys : List ℕ) → progress_over decide s (Some o) 0 ys ≡ record { state = s; stop = Some o; skip = 0; kept = [] }
  over-stopped s o [] = refl
  over-stopped s o (y ∷ ys) = refl

  -- bytes inside an item
  pub progress-inside : (xs : List ℕ) (s : S) (stop : Option O) (n : ℕ) → length xs ≤ n → progress_over decide s stop n xs ≡ record { state = s; stop = stop; skip = n - length xs; kept = [] }
  progress-inside [] s stop zero le = refl
  progress-inside [] s stop (suc n) le = let same : suc n ≡ suc n - 0 = omega arith in ap (λ (m : ℕ). record { state = s; stop = stop; skip = m; kept = [] }) same
  progress-inside (x ∷ xs) s stop zero le = absurd (omega arith)
  progress-inside (x ∷ xs) s stop (suc n) le =
      let same : n - length xs ≡ suc n - suc (length xs) = omega arith in
      progress-inside xs s stop n (omega arith) ∙ ap (λ (m : ℕ). record { state = s; stop = stop; skip = m; kept = [] }) same

  -- bytes up to the end of an item, and after it
  pub progress-after : (xs : List ℕ) (s : S) (stop : Option O) (n : ℕ) → n ≤ length xs → progress_over decide s stop n xs ≡ progress_over decide s stop 0 (drop n xs)
  progress-after xs s stop zero le = refl
  progress-after [] s stop (suc n) le = absurd (omega arith)
  progress-after (x ∷ xs) s stop (suc n) le = progress-after xs s stop n (omega arith)

  pub progress-cut : (s : S) (xs : List ℕ) → decide s xs ≡ Cut → progress_over decide s None 0 xs ≡ record { state = s; stop = None; skip = 0; kept = xs }
  progress-cut s [] e = refl
  progress-cut s (x ∷ xs) e = rw e refl

module _ {S O : Type 0} (decide : S → List ℕ → Step S O) (steady : IsSteady decide) where
  -- an item's front decides; the item isn't through
  pub progress-goes : (s t : S) (n : ℕ) (xs : List ℕ) → decide s xs ≡ Goes t n → length xs ≤ n → progress_over decide s None 0 xs ≡ record { state = t; stop = None; skip = n - length xs; kept = [] }
  progress-goes s t n [] e le = let none = steady.nothing s in absurd cc
  progress-goes s t n (x ∷ xs) e le =
      let some : 1 ≤ n = steady.some s (x ∷ xs) n (ap (λ d. size_of_step d) e) in
      let same : n - 1 - length xs ≡ n - suc (length xs) = omega arith in
      rw e (progress-inside decide xs t None (n - 1) (omega arith) ∙ ap (λ (m : ℕ). record { state = t; stop = None; skip = m; kept = [] }) same)

  pub progress-stops : (s : S) (o : O) (n : ℕ) (xs : List ℕ) → decide s xs ≡ Stops o n → length xs ≤ n → progress_over decide s None 0 xs ≡ record { state = s; stop = Some o; skip = n - length xs; kept = [] }
  progress-stops s o n [] e le = let none = steady.nothing s in absurd cc
  progress-stops s o n (x ∷ xs) e le =
      let some : 1 ≤ n = steady.some s (x ∷ xs) n (ap (λ d. size_of_step d) e) in
      let same : n - 1 - length xs ≡ n - suc (length xs) = omega arith in
      rw e (progress-inside decide xs s (Some o) (n - 1) (omega arith) ∙ ap (λ (m : ℕ). record { state = s; stop = Some o; skip = m; kept = [] }) same)

  pub progress-stopped : (s : S) (o : O) (n : ℕ) (xs : List ℕ) → decide s xs ≡ Stops o n → n ≤ length xs → progress_over decide s None 0 xs ≡ record { state = s; stop = Some o; skip = 0; kept = [] }
  progress-stopped s o n [] e le = let none = steady.nothing s in absurd cc
  progress-stopped s o n (x ∷ xs) e le =
      let some : 1 ≤ n = steady.some s (x ∷ xs) n (ap (λ d. size_of_step d) e) in
      rw e (progress-after decide xs s (Some o) (n - 1) (omega arith) ∙ over-stopped decide s o (drop (n - 1) xs))

  led-fed : (s : S) (b : ℕ) (xs ys : List ℕ) →
      ((t : S) (stop : Option O) (n : ℕ) → progress_after decide (progress_over decide t stop n xs) ys ≡ progress_over decide t stop n (xs ++ ys)) →
      (d : Step S O) → decide s (b ∷ xs) ≡ d →
      progress_after decide (step_on (record { state = s; stop = None; skip = 0; kept = b ∷ xs }) (λ t stop n. progress_over decide t stop (n - 1) xs) s d) ys
      ≡ progress_over decide s None 0 (b ∷ xs ++ ys)
  led-fed s b xs ys again Cut e = refl
  led-fed s b xs ys again (Goes t n) e = rw (steady.more s (b ∷ xs) ys n (ap (λ d. size_of_step d) e) ∙ e) (again t None (n - 1))
  led-fed s b xs ys again (Stops o n) e = rw (steady.more s (b ∷ xs) ys n (ap (λ d. size_of_step d) e) ∙ e) (again s (Some o) (n - 1))

  -- whatever the pieces are in which bytes come
  pub fed-append : (xs ys : List ℕ) (s : S) (stop : Option O) (n : ℕ) → progress_after decide (progress_over decide s stop n xs) ys ≡ progress_over decide s stop n (xs ++ ys)
  fed-append [] ys s stop (suc n) = refl
  fed-append (b ∷ xs) ys s stop (suc n) = fed-append xs ys s stop n
  fed-append [] ys s stop zero = refl
  fed-append (b ∷ xs) ys s (Some o) zero = over-stopped decide s o ys
  fed-append (b ∷ xs) ys s None zero = led-fed s b xs ys (fed-append xs ys) (decide s (b ∷ xs)) refl

  pub fed-fed : (p : WalkProgress S O) (xs ys : List ℕ) → progress_after decide (progress_after decide p xs) ys ≡ progress_after decide p (xs ++ ys)
  fed-fed p xs ys = fed-append (p.kept ++ xs) ys p.state p.stop p.skip ∙ ap (λ (zs : List ℕ). progress_over decide p.state p.stop p.skip zs) (append_assoc p.kept xs ys)

  nothing-at : (s : S) (stop : Option O) (skip : ℕ) (kept : List ℕ) → decide s kept ≡ Cut → (0 < length kept → (skip ≡ 0) × (stop ≡ None)) →
      progress_over decide s stop skip (kept ++ []) ≡ record { state = s; stop = stop; skip = skip; kept = kept }
  nothing-at s stop zero [] e idle = refl
  nothing-at s stop (suc skip) [] e idle = refl
  nothing-at s None zero (b ∷ kept) e idle = ap (λ (xs : List ℕ). progress_over decide s None 0 xs) (append-nil (b ∷ kept)) ∙ progress-cut decide s (b ∷ kept) e
  nothing-at s (Some o) zero (b ∷ kept) e idle = let none = (idle (omega arith)).1 in absurd cc
  nothing-at s stop (suc skip) (b ∷ kept) e idle = absurd (omega (arith, (idle (omega arith)).0))

  pub fed-nothing : (p : WalkProgress S O) → IsProper decide p → progress_after decide p [] ≡ p
  fed-nothing p proper = nothing-at p.state p.stop p.skip p.kept proper.waits proper.idle

  -- in front of an item's last byte the walk didn't stop with it
  pub kept-open : (s : S) (kept : List ℕ) → (reached_at {O = O} s None 0 kept).stop ≡ None
  kept-open s [] = refl
  kept-open s (b ∷ kept) = refl

  skip-open : (s : S) (stop : Option O) (skip : ℕ) (kept : List ℕ) → 0 < skip → (reached_at s stop skip kept).stop ≡ None
  skip-open s stop zero kept lt = absurd (omega arith)
  skip-open s stop (suc skip) kept lt = refl

  pub inside-open : (xs : List ℕ) (s : S) (stop : Option O) (n : ℕ) → length xs < n → (reached_in (progress_over decide s stop n xs)).stop ≡ None
  inside-open xs s stop n lt = rw (progress-inside decide xs s stop n (omega arith)) (skip-open s stop (n - length xs) [] (omega arith))

  open-at : (s : S) (xs : List ℕ) (d : Step S O) → decide s xs ≡ d → ((n : ℕ) → size_of_step d ≡ Some n → length xs < n) → (reached_in (progress_over decide s None 0 xs)).stop ≡ None
  open-at s xs Cut e far = ap (λ (p : WalkProgress S O). (reached_in p).stop) (progress-cut decide s xs e) ∙ kept-open s xs
  open-at s xs (Goes t n) e far = let lt : length xs < n = far n refl in rw (progress-goes s t n xs e (omega arith)) (skip-open t None (n - length xs) [] (omega arith))
  open-at s xs (Stops o n) e far = let lt : length xs < n = far n refl in rw (progress-stops s o n xs e (omega arith)) (skip-open s (Some o) (n - length xs) [] (omega arith))

  pub item-open : (s : S) (xs : List ℕ) (n : ℕ) → size_of_step (decide s xs) ≡ Some n → (k : ℕ) → k < n → (reached_in (progress_over decide s None 0 (take k xs))).stop ≡ None
  item-open s xs n e k lt =
      open-at s (take k xs) (decide s (take k xs)) refl
      (λ m f. let more = steady.more s (take k xs) (drop k xs) m f in
      let whole : decide s xs ≡ decide s (take k xs) = rw take-append-drop at more in
      let same : Some m ≡ Some n = sym f ∙ (ap (λ d. size_of_step d) (sym whole) ∙ e) in
      let eq : m ≡ n = cc in
      omega (arith, length-take k xs))
