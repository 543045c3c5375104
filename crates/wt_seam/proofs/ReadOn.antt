-- A reader that is fed piece after piece of what is unread stands as one that took all.
use Rattle.std.proofs.Common.{append_assoc, arith, ◌≡◌, ◌<◌, ◌≤◌, ◌+◌, ◌-◌, ℕ, Bool, true, false, List, [], ◌∷◌, ◌++◌, length, take, drop, None, refl, sym, ap, subst, ◌∙◌, inl, inr}
use Rattle.std.proofs.lemmas.List.{length-drop, take-append-drop, take_all}
use Rattle.std.proofs.lemmas.Bool.{cases_lt}
use Rattle.std.proofs.Math.Seq.{take-add}
use Rattle.wt_wire.specs.declared.side.StreamEnd.{StreamEnd}
use Rattle.wt_wire.specs.declared.side.StreamEnd.TheVariants.{Running}
use Rattle.wt_proto.specs.declared.walk.Step.{Step}
use Rattle.wt_proto.specs.Walk.{outcome_at, whole_walk}
use Rattle.wt_proto.specs.WalkProgress.{WalkProgress, Reading, progress_after, fed_reading, reached_in, read_on}
use Rattle.wt_proto.specs.Reading.{outcome_in}
use Rattle.wt_proto.specs.Steady.{IsSteady}
use Rattle.wt_proto.proofs.ProgressLaws.{fed-append, walk-progress}
use Rattle.wt_proto.proofs.ReadingLaws.{stays}
use Rattle.wt_transport.specs.Pieces.{first_piece}
use Rattle.wt_transport.proofs.PieceLaws.{first_within, take_first}
use Rattle.wt_transport.specs.State.{TransportState}
use Rattle.wt_transport.specs.Step.{after_consume, pieces_now, unread_now}
use Rattle.wt_seam.specs.ReadingAll.{Joins, ReadsSome, Stays, WasRead, after_reading_all}
use Rattle.wt_seam.proofs.ConsumingAny.{consume-again, consume-unread}

-- ---- one piece

module _ {V : Type 0} (fed : V → List ℕ → V) where
  -- a reader that took all of a piece, or as much as it needs, stands as if it had taken all
  pub fed-whole : (final : V → Bool) (old new : V) (piece : List ℕ) (n : ℕ) → Joins fed old → Stays fed final old → n ≤ length piece → new ≡ fed old (take n piece)
      → (n < length piece → final new ≡ true) → new ≡ fed old piece
  fed-whole final old new piece n joins still within is stops_short =
      elim (cases_lt n (length piece)) [
        | inl lt ↦
            is
            ∙ (sym (still (take n piece) (drop n piece) (ap final (sym is) ∙ stops_short lt))
            ∙ (joins (take n piece) (drop n piece) ∙ ap (λ (xs : List ℕ). fed old xs) (take-append-drop n piece)))
        | inr le ↦ is ∙ ap (λ (xs : List ℕ). fed old xs) (take_all n piece le)
      ]

  -- where a reader stands after some bytes the same holds
  pub joins-after : (old new : V) (xs : List ℕ) → Joins fed old → new ≡ fed old xs → Joins fed new
  joins-after old new xs joins is ys zs =
      ap (λ (v : V). fed (fed v ys) zs) is
      ∙ (ap (λ (v : V). fed v zs) (joins xs ys)
      ∙ (joins (xs ++ ys) zs
      ∙ (ap (λ (ws : List ℕ). fed old ws) (append_assoc xs ys zs) ∙ (sym (joins xs (ys ++ zs)) ∙ ap (λ (v : V). fed v (ys ++ zs)) (sym is)))))

  pub stays-after : (final : V → Bool) (old new : V) (xs : List ℕ) → Joins fed old → Stays fed final old → new ≡ fed old xs → Stays fed final new
  stays-after final old new xs joins still is ys zs e =
      let same : fed new ys ≡ fed old (xs ++ ys) = ap (λ (v : V). fed v ys) is ∙ joins xs ys in
      ap (λ (v : V). fed v zs) same ∙ (still (xs ++ ys) zs (ap final (sym same) ∙ e) ∙ sym same)

  module _ (old new : V) (t u : TransportState) (id : ℕ) (piece : List ℕ) (is : piece ≡ first_piece (pieces_now t id)) (reading : new ≡ fed old piece) (after : u ≡ after_consume t id (length piece)) where
    within : length piece ≤ length (unread_now t id)
    within = subst (λ (xs : List ℕ). length xs ≤ length (unread_now t id)) (sym is) (first_within (pieces_now t id))

    front : take (length piece) (unread_now t id) ≡ piece
    front =
        take_first (length piece) (pieces_now t id) (subst (λ (xs : List ℕ). length piece ≤ length xs) is (omega arith))
        ∙ (ap (λ (xs : List ℕ). take (length piece) xs) (sym is) ∙ take_all (length piece) piece (omega arith))

    pub piece-read : ReadsSome fed old new t u id (length piece)
    piece-read = record { within = within; reading = reading ∙ ap (λ (xs : List ℕ). fed old xs) (sym front); state = after }

    left : length (unread_now u id) ≡ length (unread_now t id) - length piece
    left = ap (λ (v : TransportState). length (unread_now v id)) after ∙ (ap length (consume-unread t id (length piece)) ∙ length-drop (length piece) (unread_now t id))

    pub piece-less : 0 < length piece → length (unread_now u id) < length (unread_now t id)
    piece-less some = omega (arith, left, within, some)

    none : (xs : List ℕ) → length xs ≡ 0 → xs ≡ []
    none [] e = refl
    none (x ∷ xs) e = absurd (omega arith)

    pub piece-none : (0 < length (unread_now t id) → 0 < length piece) → length piece ≡ 0 → unread_now u id ≡ []
    piece-none some zero_ =
        elim (cases_lt 0 (length (unread_now t id))) [
          | inl lt ↦ let more = some lt in absurd (omega arith)
          | inr le ↦ none (unread_now u id) (omega (arith, left, le))
        ]

  -- ---- one piece after another

  pub reads-twice : (old mid new : V) (t u v : TransportState) (id m n : ℕ) → Joins fed old → ReadsSome fed old mid t u id m → ReadsSome fed mid new u v id n → ReadsSome fed old new t v id (m + n)
  reads-twice old mid new t u v id m n joins a b =
      let here : unread_now u id ≡ drop m (unread_now t id) = ap (λ (w : TransportState). unread_now w id) a.state ∙ consume-unread t id m in
      let left : length (unread_now u id) ≡ length (unread_now t id) - m = ap length here ∙ length-drop m (unread_now t id) in
      record {
        within = omega (arith, a.within, b.within, left);
        reading = b.reading ∙ (ap (λ (r : V). fed r (take n (unread_now u id))) a.reading
            ∙ (joins (take m (unread_now t id)) (take n (unread_now u id))
            ∙ ap (λ (xs : List ℕ). fed old xs) (ap (λ (xs : List ℕ). take m (unread_now t id) ++ take n xs) here ∙ sym (take-add m n (unread_now t id)))));
        state = b.state ∙ (ap (λ (w : TransportState). after_consume w id n) a.state ∙ consume-again t id m n);
      }

  pub reads-fewer : (old new : V) (t u : TransportState) (id n : ℕ) → ReadsSome fed old new t u id n → length (unread_now u id) ≤ length (unread_now t id)
  reads-fewer old new t u id n a =
      let left : length (unread_now u id) ≡ length (unread_now t id) - n = ap length (ap (λ (w : TransportState). unread_now w id) a.state ∙ consume-unread t id n) ∙ length-drop n (unread_now t id) in
      omega (arith, left)

  -- ---- all of it

  module _ (old new : V) (t u : TransportState) (id n : ℕ) (a : ReadsSome fed old new t u id n) (nothing : unread_now u id ≡ []) where
    whole : n ≡ length (unread_now t id)
    whole =
        let left : length (drop n (unread_now t id)) ≡ 0 = ap length (sym (ap (λ (w : TransportState). unread_now w id) a.state ∙ consume-unread t id n) ∙ nothing) in
        omega (arith, a.within, left, length-drop n (unread_now t id))

    pub all-reading : new ≡ fed old (unread_now t id)
    all-reading = a.reading ∙ ap (λ (xs : List ℕ). fed old xs) (take_all n (unread_now t id) (omega (arith, whole)))

    pub all-state : u ≡ after_reading_all t id
    all-state = a.state ∙ ap (λ k. after_consume t id k) whole

-- ---- a walk's reader

module _ {S O : Type 0} (decide : S → List ℕ → Step S O) (steady : IsSteady decide) where
  -- what is final while the stream runs was stopped
  pub reading-stays : (final : O → Bool) (unfinished : StreamEnd → S → Bool → O) → ((s : S) (b : Bool) → final (unfinished Running s b) ≡ false) → (r : Reading S O) → r.end ≡ Running
      → Stays (fed_reading decide) (λ (x : Reading S O). final (outcome_in unfinished x)) r
  reading-stays final unfinished still_going r runs xs ys e =
      ap (λ (p : WalkProgress S O). record { progress = p; end = r.end }) (stays decide final unfinished still_going (fed_reading decide r xs) ys runs e)

  -- by the bytes that were read

  module _ (start : S) (r : Reading S O) (bytes : List ℕ) (was : WasRead decide start r bytes) where
    pub was-read-more : (more : List ℕ) (end : StreamEnd) → WasRead decide start (read_on decide r more end) (bytes ++ more)
    was-read-more more end = ap (λ (p : WalkProgress S O). progress_after decide p more) was ∙ fed-append decide steady bytes more start None 0

    pub was-read-outcome : (unfinished : StreamEnd → S → Bool → O) (outcome_of : List ℕ → StreamEnd → O) → ((bytes : List ℕ) (end : StreamEnd) → outcome_of bytes end ≡ outcome_at unfinished end (whole_walk decide start bytes))
        → (more : List ℕ) (end : StreamEnd) → outcome_in unfinished (read_on decide r more end) ≡ outcome_of (bytes ++ more) end
    was-read-outcome unfinished outcome_of reaches more end =
        ap (λ (p : WalkProgress S O). outcome_at unfinished end (reached_in p)) (was-read-more more end)
        ∙ (ap (λ x. outcome_at unfinished end x) (sym (walk-progress decide (bytes ++ more) start None 0)) ∙ sym (reaches (bytes ++ more) end))
