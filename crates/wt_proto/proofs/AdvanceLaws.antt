-- How code goes over a piece, some bytes at a time.
use Rattle.std.proofs.Common.{◌≡◌, ℕ, ◌+◌, ◌-◌, ◌<◌, ◌≤◌, ◌⊎◌, List, [], ◌∷◌, ◌++◌, length, take, drop, min, Option, Some, None, refl, sym, ap, ◌∙◌, arith, append_assoc, inl, inr}
use Rattle.std.proofs.lemmas.List.{length-append, length-drop, length-take, take-append-drop, take_all, take_rest, drop-take}
use Rattle.std.proofs.Math.Seq.{take-add, take-append-add}
use Rattle.std.proofs.Math.ListN.{drop_of_length-le}
use Rattle.std.proofs.lemmas.Bool.{cases_lt}
use Rattle.wt_proto.specs.declared.walk.Step.{Step}
use Rattle.wt_proto.specs.declared.walk.Step.TheVariants.{Cut, Goes, Stops}
use Rattle.wt_proto.specs.WalkProgress.{WalkProgress, progress_over, progress_after, reached_in, IsProper, Advances, progress_past, at_item}
use Rattle.wt_proto.specs.Steady.{size_of_step, IsSteady}
use Rattle.wt_proto.proofs.ProgressLaws.{progress-inside, progress-cut, progress-goes, progress-stops, fed-fed, fed-nothing, inside-open, item-open, kept-open}

drop-take-none : (n : ℕ) (xs : List ℕ) → drop n (take n xs) ≡ []
drop-take-none n xs = drop_of_length-le (take n xs) (omega (arith, length-take n xs))

advance-same : {S O : Type 0} (decide : S → List ℕ → Step S O) (old new other : WalkProgress S O) (piece : List ℕ) (n m : ℕ) → new ≡ other → n ≡ m → Advances decide old new piece n → Advances decide old other piece m
advance-same decide old new other piece n m e f a = record {
  within = omega (arith, a.within);
  fed = sym e ∙ (a.fed ∙ ap (λ (k : ℕ). progress_after decide old (take k piece)) f);
  running = λ k lt. a.running k (omega arith);
}

from-same : {S O : Type 0} (decide : S → List ℕ → Step S O) (old other new : WalkProgress S O) (piece : List ℕ) (n : ℕ) → old ≡ other → Advances decide old new piece n → Advances decide other new piece n
from-same {S = S} {O = O} decide old other new piece n e a = record {
  within = a.within;
  fed = a.fed ∙ ap (λ (p : WalkProgress S O). progress_after decide p (take n piece)) e;
  running = λ k lt. ap (λ (p : WalkProgress S O). (reached_in (progress_after decide p (take k piece))).stop) (sym e) ∙ a.running k lt;
}

module _ {S O : Type 0} (decide : S → List ℕ → Step S O) (steady : IsSteady decide) where
  pub advance-none : (p : WalkProgress S O) (piece : List ℕ) → IsProper decide p → Advances decide p p piece 0
  advance-none p piece proper = record { within = omega arith; fed = sym (fed-nothing decide steady p proper); running = λ k lt. absurd (omega arith) }

  further : (old mid : WalkProgress S O) (piece : List ℕ) (m : ℕ) → Advances decide old mid piece m → (k : ℕ) → progress_after decide mid (take k (drop m piece)) ≡ progress_after decide old (take (m + k) piece)
  further old mid piece m first k =
      ap (λ (p : WalkProgress S O). progress_after decide p (take k (drop m piece))) first.fed
      ∙ (fed-fed decide steady old (take m piece) (take k (drop m piece)) ∙ ap (λ (xs : List ℕ). progress_after decide old xs) (sym (take-add m k piece)))

  still-open : (old mid new : WalkProgress S O) (piece : List ℕ) (m n : ℕ) → Advances decide old mid piece m → Advances decide mid new (drop m piece) n →
      (k : ℕ) → k < m + n → (reached_in (progress_after decide old (take k piece))).stop ≡ None
  still-open old mid new piece m n first then k lt =
      elim (cases_lt k m) [
        | inl before ↦ first.running k before
        | inr next_offset ↦
            let same : m + (k - m) ≡ k = omega arith in
            let lt' : k - m < n = omega arith in
            ap (λ (p : WalkProgress S O). (reached_in p).stop) (sym (further old mid piece m first (k - m) ∙ ap (λ (j : ℕ). progress_after decide old (take j piece)) same)) ∙ then.running (k - m) lt'
      ]

  pub advance-then : (old mid new : WalkProgress S O) (piece : List ℕ) (m n : ℕ) → Advances decide old mid piece m → Advances decide mid new (drop m piece) n → Advances decide old new piece (m + n)
  advance-then old mid new piece m n first then = record {
    within = omega (arith, first.within, then.within, length-drop m piece);
    fed = then.fed ∙ further old mid piece m first n;
    running = still-open old mid new piece m n first then;
  }

  -- bytes inside an item
  pub advance-skip : (s : S) (stop : Option O) (skip : ℕ) (piece : List ℕ) (n : ℕ) → n ≤ skip → n ≤ length piece →
      Advances decide (record { state = s; stop = stop; skip = skip; kept = [] }) (record { state = s; stop = stop; skip = skip - n; kept = [] }) piece n
  advance-skip s stop skip piece n le within =
      let len : length (take n piece) ≡ n = omega (arith, length-take n piece) in
      record {
        within = within;
        fed = sym (progress-inside decide (take n piece) s stop skip (omega arith) ∙ ap (λ (k : ℕ). record { state = s; stop = stop; skip = skip - k; kept = [] }) len);
        running = λ k lt. inside-open decide steady (take k piece) s stop skip (omega (arith, length-take k piece));
      }

  cut-front : (s : S) (xs ys : List ℕ) → decide s (xs ++ ys) ≡ Cut → (d : Step S O) → decide s xs ≡ d → d ≡ Cut
  cut-front s xs ys e Cut f = refl
  cut-front s xs ys e (Goes t n) f = let more = steady.more s xs ys n (ap (λ d. size_of_step d) f) in absurd cc
  cut-front s xs ys e (Stops o n) f = let more = steady.more s xs ys n (ap (λ d. size_of_step d) f) in absurd cc

  cut-open : (s : S) (xs : List ℕ) → decide s xs ≡ Cut → (reached_in (progress_over decide s None 0 xs)).stop ≡ None
  cut-open s xs e = ap (λ (p : WalkProgress S O). (reached_in p).stop) (progress-cut decide s xs e) ∙ kept-open decide steady s xs

  -- bytes that decide nothing yet
  pub advance-keep : (s : S) (kept piece : List ℕ) (n : ℕ) → decide s (kept ++ take n piece) ≡ Cut → n ≤ length piece →
      Advances decide (record { state = s; stop = None; skip = 0; kept = kept }) (record { state = s; stop = None; skip = 0; kept = kept ++ take n piece }) piece n
  advance-keep s kept piece n e within = record {
    within = within;
    fed = sym (progress-cut decide s (kept ++ take n piece) e);
    running = λ k lt. cut-open s (kept ++ take k piece)
        (let split : take n piece ≡ take k piece ++ take (n - k) (drop k piece) = let same : n ≡ k + (n - k) = omega arith in ap (λ (j : ℕ). take j piece) same ∙ take-add k (n - k) piece in
        cut-front s (kept ++ take k piece) (take (n - k) (drop k piece)) (ap (λ (xs : List ℕ). decide s xs) (append_assoc kept (take k piece) (take (n - k) (drop k piece)) ∙ ap (λ (xs : List ℕ). kept ++ xs) (sym split)) ∙ e) (decide s (kept ++ take k piece)) refl);
  }

  passes : (s : S) (xs : List ℕ) (d : Step S O) (m : ℕ) → decide s xs ≡ d → size_of_step d ≡ Some m → length xs ≤ m → progress_over decide s None 0 xs ≡ progress_past s d (length xs) []
  passes s xs Cut m e f le = absurd cc
  passes s xs (Goes t n) m e f le = let same : n ≡ m = cc in progress-goes decide steady s t n xs e (omega arith)
  passes s xs (Stops o n) m e f le = let same : n ≡ m = cc in progress-stops decide steady s o n xs e (omega arith)

  front-decides : (s : S) (xs : List ℕ) (d : Step S O) (m n : ℕ) → decide s xs ≡ d → size_of_step d ≡ Some m → n ≤ length xs → (m ≤ n) ⊎ (length xs ≤ n) → decide s (take n xs) ≡ d
  front-decides s xs d m n e f within (inl near) =
      let whole : decide s (take n xs ++ drop n xs) ≡ d = ap (λ (ys : List ℕ). decide s ys) (take-append-drop n xs) ∙ e in
      steady.front s (take n xs) (drop n xs) m (ap (λ (x : Step S O). size_of_step x) whole ∙ f) (omega (arith, length-take n xs)) ∙ whole
  front-decides s xs d m n e f within (inr far) = ap (λ (ys : List ℕ). decide s ys) (take_all n xs far) ∙ e

  -- an item, up to its end or that of the bytes
  pub advance-item : (s : S) (xs : List ℕ) (d : Step S O) (m n : ℕ) → decide s xs ≡ d → size_of_step d ≡ Some m → n ≤ length xs → n ≤ m → (m ≤ n) ⊎ (length xs ≤ n) →
      Advances decide (record { state = s; stop = None; skip = 0; kept = [] }) (progress_past s d n []) xs n
  advance-item s xs d m n e f within le ends =
      let len : length (take n xs) ≡ n = omega (arith, length-take n xs) in
      record {
        within = within;
        fed = sym (passes s (take n xs) d m (front-decides s xs d m n e f within ends) f (omega arith) ∙ ap (λ (k : ℕ). progress_past s d k []) len);
        running = λ k lt. item-open decide steady s xs m (ap (λ (x : Step S O). size_of_step x) e ∙ f) k (omega arith);
      }

  -- with fewer bytes than were wanted nothing is decided
  module _ (s : S) (kept : List ℕ) (wanted : ℕ) (still : (ys : List ℕ) → length (kept ++ ys) < wanted → decide s (kept ++ ys) ≡ Cut) where
    -- what is kept and decides with the bytes that were wanted reaches no further than they do
    item-long : (more : List ℕ) (m : ℕ) → decide s kept ≡ Cut → size_of_step (decide s (kept ++ more)) ≡ Some m → length (kept ++ more) ≤ wanted → length (kept ++ more) ≤ m
    item-long more m e f le =
        elim (cases_lt m (length (kept ++ more))) [
          | inl lt ↦ elim (cases_lt (length kept) m) [
            | inl next_offset ↦
                let shorter : take m (kept ++ more) ≡ kept ++ take (m - length kept) more = let same : m ≡ length kept + (m - length kept) = omega arith in ap (λ (j : ℕ). take j (kept ++ more)) same ∙ take-append-add kept more (m - length kept) in
                let whole : decide s (take m (kept ++ more) ++ drop m (kept ++ more)) ≡ decide s (kept ++ more) = ap (λ (ys : List ℕ). decide s ys) (take-append-drop m (kept ++ more)) in
                let same = steady.front s (take m (kept ++ more)) (drop m (kept ++ more)) m (ap (λ (x : Step S O). size_of_step x) whole ∙ f) (omega (arith, length-take m (kept ++ more))) in
                let is_cut : decide s (kept ++ take (m - length kept) more) ≡ Cut = still (take (m - length kept) more) (omega (arith, ap length (sym shorter), length-take m (kept ++ more))) in
                let back : decide s (take m (kept ++ more)) ≡ Cut = ap (λ (ys : List ℕ). decide s ys) shorter ∙ is_cut in
                absurd cc
            | inr short ↦ let same = steady.front s kept more m f short in absurd cc
          ]
          | inr le' ↦ le'
        ]

    advance-kept : (piece : List ℕ) (n : ℕ) (d : Step S O) → decide s kept ≡ Cut → decide s (kept ++ take n piece) ≡ d →
        n ≤ length piece → length (kept ++ take n piece) ≤ wanted →
        Advances decide (record { state = s; stop = None; skip = 0; kept = kept }) (progress_past s d (length (kept ++ take n piece)) (kept ++ take n piece)) piece n
    advance-kept piece n Cut waits e within le = advance-keep s kept piece n e within
    advance-kept piece n (Goes t m) waits e within le = record {
      within = within;
      fed = sym (passes s (kept ++ take n piece) (Goes t m) m e refl (item-long (take n piece) m waits (ap (λ (x : Step S O). size_of_step x) e) le));
      running = λ k lt. cut-open s (kept ++ take k piece) (still (take k piece)
          (omega (arith, length-append kept (take k piece), length-append kept (take n piece), length-take k piece, length-take n piece)));
    }
    advance-kept piece n (Stops o m) waits e within le = record {
      within = within;
      fed = sym (passes s (kept ++ take n piece) (Stops o m) m e refl (item-long (take n piece) m waits (ap (λ (x : Step S O). size_of_step x) e) le));
      running = λ k lt. cut-open s (kept ++ take k piece) (still (take k piece)
          (omega (arith, length-append kept (take k piece), length-append kept (take n piece), length-take k piece, length-take n piece)));
    }

-- bytes after those that are kept, up to those that were wanted
module _ {S O : Type 0} (decide : S → List ℕ → Step S O) (steady : IsSteady decide) (s : S) (stop : Option O) (skip : ℕ) (kept : List ℕ)
    (proper : IsProper decide (record { state = s; stop = stop; skip = skip; kept = kept })) (some : 0 < length kept)
    (wanted : ℕ) (still : (ys : List ℕ) → length (kept ++ ys) < wanted → decide s (kept ++ ys) ≡ Cut) where
  bare : ◌≡◌ {A = WalkProgress S O} (record { state = s; stop = stop; skip = skip; kept = kept }) (record { state = s; stop = None; skip = 0; kept = kept })
  bare = rw ((proper.idle some).0, (proper.idle some).1) refl

  pub kept-long : (items more : List ℕ) (m : ℕ) → items ≡ kept ++ more → length items ≤ wanted → size_of_step (decide s items) ≡ Some m → length items ≤ m
  kept-long items more m e le f =
      let long = item-long decide steady s kept wanted still more m proper.waits (ap (λ (xs : List ℕ). size_of_step (decide s xs)) (sym e) ∙ f) (omega (arith, ap length e)) in
      omega (arith, long, ap length e)

  pub kept-advances : (new : WalkProgress S O) (items piece : List ℕ) (n : ℕ) → items ≡ kept ++ take n piece → n ≤ length piece → length items ≤ wanted →
      new ≡ progress_past s (decide s items) (length items) items → Advances decide (record { state = s; stop = stop; skip = skip; kept = kept }) new piece n
  kept-advances new items piece n e within le f =
      let more = advance-kept decide steady s kept wanted still piece n (decide s (kept ++ take n piece)) proper.waits refl within (omega (arith, ap length e)) in
      let is : progress_past s (decide s (kept ++ take n piece)) (length (kept ++ take n piece)) (kept ++ take n piece) ≡ new = ap (λ (xs : List ℕ). progress_past s (decide s xs) (length xs) xs) (sym e) ∙ sym f in
      from-same decide _ _ _ piece n (sym bare) (advance-same decide _ _ new piece n n is refl more)

  -- fewer bytes than were wanted
  pub kept-still : (items more ys : List ℕ) → items ≡ kept ++ more → length (items ++ ys) < wanted → decide s (items ++ ys) ≡ Cut
  kept-still items more ys e lt =
      let same : items ++ ys ≡ kept ++ (more ++ ys) = ap (λ (xs : List ℕ). xs ++ ys) e ∙ append_assoc kept more ys in
      ap (λ (xs : List ℕ). decide s xs) same ∙ still (more ++ ys) (omega (arith, ap length same))

  pub kept-proper : (items more : List ℕ) → items ≡ kept ++ more → length items < wanted → IsProper decide (record { state = s; stop = stop; skip = skip; kept = items })
  kept-proper items more e lt = record {
    waits = ap (λ (xs : List ℕ). decide s xs) e ∙ still more (omega (arith, ap length e));
    idle = λ _. proper.idle some;
  }

-- nothing is kept beside bytes to skip
pub advance-skipping : {S O : Type 0} (decide : S → List ℕ → Step S O) → IsSteady decide → (s : S) (stop : Option O) (skip : ℕ) (kept piece : List ℕ) (n : ℕ) →
    IsProper decide (record { state = s; stop = stop; skip = skip; kept = kept }) → 0 < skip → n ≤ skip → n ≤ length piece →
    Advances decide (record { state = s; stop = stop; skip = skip; kept = kept }) (record { state = s; stop = stop; skip = skip - n; kept = kept }) piece n
advance-skipping decide steady s stop skip [] piece n proper some le within = advance-skip decide steady s stop skip piece n le within
advance-skipping decide steady s stop skip (b ∷ kept) piece n proper some le within = absurd (omega (arith, (proper.idle (omega arith)).0))

pub skipping-proper : {S O : Type 0} (decide : S → List ℕ → Step S O) (s : S) (stop : Option O) (skip : ℕ) (kept : List ℕ) (n : ℕ) →
    IsProper decide (record { state = s; stop = stop; skip = skip; kept = kept }) → 0 < skip → IsProper decide (record { state = s; stop = stop; skip = skip - n; kept = kept })
skipping-proper decide s stop skip kept n proper some = record { waits = proper.waits; idle = λ more. absurd (omega (arith, (proper.idle more).0)) }

-- what is left of a piece, kept where nothing was
pub rest-kept : (rest size_of_step : ℕ) (xs kept items : List ℕ) → rest ≤ size_of_step → kept ≡ [] → items ≡ kept ++ take (size_of_step - rest) (drop rest xs) → drop rest (take size_of_step xs) ≡ items
rest-kept rest size_of_step xs kept items le none e =
    let same : size_of_step ≡ rest + (size_of_step - rest) = omega arith in
    ap (λ (n : ℕ). drop rest (take n xs)) same ∙ (drop-take rest (size_of_step - rest) xs ∙ sym (e ∙ ap (λ (ys : List ℕ). ys ++ take (size_of_step - rest) (drop rest xs)) none))

-- what code went over, seen from where the walk stood
pub advances-bare : {S O : Type 0} (decide : S → List ℕ → Step S O) (old other new following : WalkProgress S O) (piece : List ℕ) (n : ℕ) → old ≡ other → following ≡ new → Advances decide other following piece n → Advances decide old new piece n
advances-bare decide old other new following piece n e f a = from-same decide other old new piece n (sym e) (advance-same decide other following new piece n n f refl a)

-- a loop over bytes stands in front of an item, in a state
module _ {S O : Type 0} (decide : S → List ℕ → Step S O) (steady : IsSteady decide) (start s : S) (bytes : List ℕ) (offset : ℕ)
    (so_far : Advances decide (at_item start) (at_item s) bytes offset) where
  left : length (drop offset bytes) ≡ length bytes - offset
  left = length-drop offset bytes

  pub over-cut : decide s (take (length bytes - offset) (drop offset bytes)) ≡ Cut →
      Advances decide (at_item start) (record { state = s; stop = None; skip = 0; kept = drop offset (take (length bytes) bytes) }) bytes (length bytes)
  over-cut e =
      let rest : take (length bytes - offset) (drop offset bytes) ≡ drop offset (take (length bytes) bytes) = take_rest bytes offset ∙ ap (λ (xs : List ℕ). drop offset xs) (sym (take_all (length bytes) bytes (omega arith))) in
      let more = advance-then decide steady (at_item start) (at_item s) (record { state = s; stop = None; skip = 0; kept = [] ++ take (length bytes - offset) (drop offset bytes) }) bytes offset (length bytes - offset) so_far
      (advance-keep decide steady s [] (drop offset bytes) (length bytes - offset) e (omega (arith, left))) in
      advance-same decide (at_item start) _ _ bytes _ _ (ap (λ (xs : List ℕ). record { state = s; stop = None; skip = 0; kept = xs }) rest) (omega (arith, so_far.within)) more

  some-left : (d : Step S O) (m : ℕ) → decide s (take (length bytes - offset) (drop offset bytes)) ≡ d → size_of_step d ≡ Some m → decide s (drop offset bytes) ≡ d
  some-left d m e f = ap (λ (xs : List ℕ). decide s xs) (sym (take_rest bytes offset)) ∙ e

  over-item : (d : Step S O) (m n : ℕ) → decide s (take (length bytes - offset) (drop offset bytes)) ≡ d → size_of_step d ≡ Some m → n ≤ m → n ≤ length bytes - offset → (m ≤ n) ⊎ (length bytes - offset ≤ n) →
      Advances decide (at_item start) (progress_past s d n []) bytes (offset + n)
  over-item d m n e f le within ends =
      advance-then decide steady (at_item start) (at_item s) (progress_past s d n []) bytes offset n so_far
      (advance-item decide steady s (drop offset bytes) d m n (some-left d m e f) f (omega (arith, left)) le (rw left ends))

  pub over-goes : (t : S) (m : ℕ) → decide s (take (length bytes - offset) (drop offset bytes)) ≡ Goes t m → m ≤ length bytes - offset →
      Advances decide (at_item start) (at_item t) bytes (offset + m)
  over-goes t m e le =
      let none : m - m ≡ 0 = omega arith in
      advance-same decide (at_item start) _ (at_item t) bytes _ _ (ap (λ (k : ℕ). record { state = t; stop = None; skip = k; kept = [] }) none) refl
      (over-item (Goes t m) m m e refl (omega arith) le (inl (omega arith)))

  pub over-goes-far : (t : S) (m : ℕ) → decide s (take (length bytes - offset) (drop offset bytes)) ≡ Goes t m → length bytes - offset < m →
      Advances decide (at_item start) (record { state = t; stop = None; skip = m - (length bytes - offset); kept = drop (length bytes) (take (length bytes) bytes) }) bytes (length bytes)
  over-goes-far t m e lt =
      advance-same decide (at_item start) _ _ bytes _ _
      (ap (λ (xs : List ℕ). record { state = t; stop = None; skip = m - (length bytes - offset); kept = xs }) (sym (drop-take-none (length bytes) bytes)))
      (omega (arith, so_far.within))
      (over-item (Goes t m) m (length bytes - offset) e refl (omega arith) (omega arith) (inr (omega arith)))

  pub over-stops : (o : O) (m n : ℕ) → decide s (take (length bytes - offset) (drop offset bytes)) ≡ Stops o m → n ≡ min m (length bytes - offset) →
      Advances decide (at_item start) (record { state = s; stop = Some o; skip = m - n; kept = drop (offset + n) (take (offset + n) bytes) }) bytes (offset + n)
  over-stops o m n e least =
      advance-same decide (at_item start) _ _ bytes _ _
      (ap (λ (xs : List ℕ). record { state = s; stop = Some o; skip = m - n; kept = xs }) (sym (drop-take-none (offset + n) bytes))) refl
      (over-item (Stops o m) m n e refl (omega arith) (omega arith)
      (elim (cases_lt m (length bytes - offset)) [ inl lt ↦ inl (omega arith) | inr le ↦ inr (omega arith) ]))

  pub over-some : (d : Step S O) (m : ℕ) → decide s (take (length bytes - offset) (drop offset bytes)) ≡ d → size_of_step d ≡ Some m → 1 ≤ m
  over-some d m e f = steady.some s (take (length bytes - offset) (drop offset bytes)) m (ap (λ (x : Step S O). size_of_step x) e ∙ f)
