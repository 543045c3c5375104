-- A piece is put before a reader that read all that came: what it takes of it, and what it says of no fewer bytes.
use Rattle.std.proofs.Common.{◌∙◌, ◌≡◌, ◌≤◌, ◌<◌, ◌+◌, ◌-◌, ◌++◌, ◌∷◌, Bool, List, [], ap, arith, drop, false, inl, inr, length, refl, subst, suc, sym, take, true, true≢false, zero, ℕ}
use Rattle.std.proofs.lemmas.Bool.{cases_lt}
use Rattle.std.proofs.lemmas.List.{length-append, length-take}
use Rattle.std.specs.Prelude.{if◌then◌else◌}
use Rattle.wt_follows.proofs.BytesCome.{drop-front, length-drop, take-front}
use Rattle.wt_follows.proofs.IsReader.{IsReader}
use Rattle.wt_follows.proofs.ReaderLaws.{has-said-is, take-part, take-whole, taken-final, taken-runs, taken-within}
use Rattle.wt_follows.specs.Tie.{ReaderAt}
use Rattle.wt_kept.specs.Readers.{ReaderRules, fed_piece, taken}
use Rattle.wt_turn.specs.Unread.{AtOffset, GivenUp, ReadPosition}
use Rattle.wt_wire.specs.declared.side.StreamEnd.{StreamEnd}
use Rattle.wt_wire.specs.declared.side.StreamEnd.TheVariants.{Running}

abbrev far : ReadPosition → ℕ
far (AtOffset n) = n
far GivenUp = 0

take-behind : (xs ys : List ℕ) (k : ℕ) → length xs ≤ k → take k (xs ++ ys) ≡ xs ++ take (k - length xs) ys
take-behind xs ys k le = (λ i. take (let e : k ≡ length xs + (k - length xs) = omega (arith, le) in e i) (xs ++ ys)) ∙ sym (take-part xs ys (k - length xs))

pub take-taken : (j n : ℕ) (xs : List ℕ) → j ≤ n → take j (take n xs) ≡ take j xs
take-taken zero n xs le = refl
take-taken (suc j) zero xs le = absurd (omega (arith, le))
take-taken (suc j) (suc n) [] le = refl
take-taken (suc j) (suc n) (x ∷ xs) le = ap (λ zs. x ∷ zs) (take-taken j n xs (omega (arith, le)))

module _ {V O : Type 0} (w : ReaderRules V O) (final : O → Bool) (walk_of : List ℕ → StreamEnd → O) (is : IsReader w final walk_of) (r : V) (offset : ℕ) (bytes : List ℕ) (position : ReadPosition) (at : ReaderAt w r offset bytes position)
    (read : position ≡ AtOffset (length bytes)) (piece : List ℕ) where
  abbrev n : ℕ
  n = taken w r piece

  abbrev pub part : List ℕ
  part = take n piece

  abbrev so_far : List ℕ
  so_far = drop offset bytes

  all-read : offset + at.count ≡ length bytes
  all-read = ap far (sym at.at_offset ∙ read)

  short : offset ≤ length bytes
  short = omega (arith, all-read)

  so-long : length so_far ≡ at.count
  so-long = let l = length-drop offset bytes short in omega (arith, all-read, l)

  pub has : r ≡ w.fed w.start so_far
  has = at.taken ∙ ap (λ xs. w.fed w.start xs) (take-whole at.count so_far (omega (arith, so-long)))

  pub with-more : (more : List ℕ) → drop offset (bytes ++ more) ≡ so_far ++ more
  with-more more = drop-front offset bytes more short

  -- fewer bytes than it takes make nothing final
  pub fed-runs : (k : ℕ) → k < n → final (walk_of (drop offset (bytes ++ take k piece)) Running) ≡ false
  fed-runs k lt =
      ap (λ xs. final (walk_of xs Running)) (with-more (take k piece))
      ∙ taken-runs w final walk_of is piece so_far k (subst (λ (v : V). k < taken w v piece) has lt)

  pub fed-is : fed_piece w r piece ≡ w.fed w.start (so_far ++ part)
  fed-is = ap (λ (v : V). w.fed v part) has ∙ is.more so_far part

  -- what it says then is what the walk over all that it took says
  pub fed-said : w.has_said (fed_piece w r piece) ≡ final (walk_of (drop offset (bytes ++ part)) Running)
  fed-said = ap w.has_said fed-is ∙ (has-said-is w final walk_of is (so_far ++ part) ∙ ap (λ xs. final (walk_of xs Running)) (sym (with-more part)))

  pub fed-within : n ≤ length piece
  fed-within = taken-within w final walk_of is piece r

  part-long : length part ≡ n
  part-long = omega (arith, length-take n piece, fed-within)

  -- a reader that goes on took the whole piece
  pub fed-whole : w.has_said (fed_piece w r piece) ≡ false → n ≡ length piece
  fed-whole open_ = elim (cases_lt n (length piece)) [
    | inr le ↦ omega (arith, le, fed-within)
    | inl lt ↦
        let over : final (walk_of (so_far ++ take (taken w (w.fed w.start so_far) piece) piece) Running) ≡ true =
        taken-final w final walk_of is piece so_far (subst (λ (v : V). taken w v piece < length piece) has lt) in
        absurd (true≢false (sym (subst (λ (v : V). final (walk_of (so_far ++ take (taken w v piece) piece) Running) ≡ true) (sym has) over)
        ∙ (ap (λ xs. final (walk_of xs Running)) (sym (with-more part)) ∙ (sym fed-said ∙ open_))))
  ]

  least-then : (k : ℕ) → k < at.count + n → w.has_said (w.fed w.start (take k (drop offset (bytes ++ part)))) ≡ false
  least-then k lt = elim (cases_lt k at.count) [
    | inl less ↦
        ap (λ xs. w.has_said (w.fed w.start xs)) (ap (take k) (with-more part) ∙ take-front k so_far part (omega (arith, so-long, less))) ∙ at.least k less
    | inr more ↦
        let j : ℕ = k - length so_far in
        let few : j < n = omega (arith, so-long, lt, more) in
        let same : take k (drop offset (bytes ++ part)) ≡ drop offset (bytes ++ take j piece) =
        ap (take k) (with-more part) ∙ (take-behind so_far part k (omega (arith, so-long, more))
        ∙ (ap (λ xs. so_far ++ xs) (take-taken j n piece (omega (arith, few))) ∙ sym (with-more (take j piece)))) in
        ap (λ xs. w.has_said (w.fed w.start xs)) same ∙ (has-said-is w final walk_of is (drop offset (bytes ++ take j piece)) ∙ fed-runs j few)
  ]

  -- it stands at the end of what it took
  pub fed-at : ReaderAt w (fed_piece w r piece) offset (bytes ++ part) (AtOffset (length (bytes ++ part)))
  fed-at = record {
    count = at.count + n;
    at_offset = ap AtOffset (let e : length (bytes ++ part) ≡ offset + (at.count + n) = omega (arith, all-read, part-long, length-append bytes part) in e);
    within = omega (arith, all-read, part-long, length-append bytes part);
    taken =
        fed-is ∙ ap (λ xs. w.fed w.start xs) (sym (with-more part)
        ∙ sym (take-whole (at.count + n) (drop offset (bytes ++ part)) (let e = ap length (with-more part) in omega (arith, e, so-long, part-long, length-append so_far part))));
    least = least-then;
  }

  -- of a piece that is no empty one it takes a byte
  pub fed-some : (byte : ℕ) (later : List ℕ) → piece ≡ byte ∷ later → w.has_said r ≡ false → 0 < n
  fed-some byte later e open_ = subst (λ (xs : List ℕ). 0 < taken w r xs) (sym e) (subst (λ (b : Bool). 0 < (if b then 0 else suc (taken w (w.fed r (byte ∷ [])) later))) (sym open_) (omega arith))
