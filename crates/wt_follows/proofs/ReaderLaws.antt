-- What a reader takes, and what it says then: it reads on to the byte with which what it says is final, or takes all.
use Rattle.std.proofs.Common.{true≢false, ◌∙◌, ◌≡◌, ◌≤◌, ◌<◌, ◌+◌, ◌-◌, ◌++◌, ◌∷◌, Bool, List, Option, Some, [], ap, append_assoc, arith, drop, false, inl, inr, length, refl, subst, suc, sym, take, true, zero, zero-add, ℕ}
use Rattle.std.proofs.lemmas.Bool.{false_from_ne_true, cases_lt, eq-eqb, eqb-true}
use Rattle.std.proofs.lemmas.List.{append-nil, drop-drop, length-append, length-drop, length-take, take-append-drop}
use Rattle.std.specs.Prelude.{◌&&◌, ◌==◌, if◌then◌else◌, not}
use Rattle.wt_follows.proofs.IsReader.{IsReader}
use Rattle.wt_follows.proofs.Offsets.{IsOffset}
use Rattle.wt_follows.specs.Tie.{ReaderAt}
use Rattle.wt_kept.specs.Readers.{ReaderRules, consumed, fed_piece, noted_if, read_on, reads_on_if, taken}
use Rattle.wt_transport.specs.State.{TransportState}
use Rattle.wt_transport.specs.Step.{end_now, unread_now}
use Rattle.wt_turn.specs.Reports.{is_running}
use Rattle.wt_turn.specs.Unread.{AtOffset, ReadPosition, advance, from_position}
use Rattle.wt_wire.specs.declared.side.StreamEnd.{StreamEnd}
use Rattle.wt_wire.specs.declared.side.StreamEnd.TheVariants.{Fin, Reset, Running}

pub take-whole : (n : ℕ) (xs : List ℕ) → length xs ≤ n → take n xs ≡ xs
take-whole zero [] le = refl
take-whole (suc n) [] le = refl
take-whole zero (x ∷ xs) le = absurd (omega arith)
take-whole (suc n) (x ∷ xs) le = ap (λ ys. x ∷ ys) (take-whole n xs (omega arith))

-- the first bytes of two parts
pub take-part : (xs ys : List ℕ) (k : ℕ) → xs ++ take k ys ≡ take (length xs + k) (xs ++ ys)
take-part [] ys k = ap (λ n. take n ys) (sym (zero-add k))
take-part (x ∷ xs) ys k = ap (λ zs. x ∷ zs) (take-part xs ys k) ∙ ap (λ n. take n (x ∷ xs ++ ys)) (let e : suc (length xs + k) ≡ suc (length xs) + k = omega arith in e)

take-prefix : (xs ys : List ℕ) (k : ℕ) → k ≤ length xs → take k (xs ++ ys) ≡ take k xs
take-prefix xs ys zero le = refl
take-prefix [] ys (suc k) le = absurd (omega arith)
take-prefix (x ∷ xs) ys (suc k) le = ap (λ zs. x ∷ zs) (take-prefix xs ys k (omega arith))

take-none : (n : ℕ) → take {A = ℕ} n [] ≡ []
take-none zero = refl
take-none (suc n) = refl

pub take-two : (n k : ℕ) (xs : List ℕ) → take n xs ++ take k (drop n xs) ≡ take (n + k) xs
take-two zero k xs = ap (λ m. take m xs) (sym (zero-add k))
take-two (suc n) k [] = take-none k ∙ sym (take-none (suc n + k))
take-two (suc n) k (x ∷ xs) = ap (λ zs. x ∷ zs) (take-two n k xs) ∙ ap (λ m. take m (x ∷ xs)) (let e : suc (n + k) ≡ suc n + k = omega arith in e)

module _ {V O : Type 0} (w : ReaderRules V O) (final : O → Bool) (walk_of : List ℕ → StreamEnd → O) (is : IsReader w final walk_of) where
  -- ---- what it says

  pub says-so-far : (bytes : List ℕ) → w.outcome (w.fed w.start bytes) ≡ walk_of bytes Running
  says-so-far bytes = ap w.outcome (sym (is.running bytes)) ∙ is.says bytes Running

  pub fed-none : (bytes : List ℕ) → w.fed (w.fed w.start bytes) [] ≡ w.fed w.start bytes
  fed-none bytes = is.more bytes [] ∙ ap (λ xs. w.fed w.start xs) (append-nil bytes)

  pub has-said-is : (bytes : List ℕ) → w.has_said (w.fed w.start bytes) ≡ final (walk_of bytes Running)
  has-said-is bytes = is.said (w.fed w.start bytes) ∙ ap final (says-so-far bytes)

  -- ---- how many bytes it takes

  abbrev takes : V → ℕ → List ℕ → Bool → ℕ
  takes r x xs b = if b then 0 else suc (taken w (w.fed r (x ∷ [])) xs)

  within-by : (r : V) (x : ℕ) (xs : List ℕ) (b : Bool) → taken w (w.fed r (x ∷ [])) xs ≤ length xs → takes r x xs b ≤ suc (length xs)
  within-by r x xs true le = omega arith
  within-by r x xs false le = omega arith

  pub taken-within : (xs : List ℕ) (r : V) → taken w r xs ≤ length xs
  taken-within [] r = omega arith
  taken-within (x ∷ xs) r = within-by r x xs (w.has_said r) (taken-within xs (w.fed r (x ∷ [])))

  -- in front of the last byte that it takes nothing is final
  runs-by : (before : List ℕ) (x : ℕ) (xs : List ℕ) (b : Bool) → final (walk_of before Running) ≡ b
      → ((k : ℕ) → k < taken w (w.fed (w.fed w.start before) (x ∷ [])) xs → final (walk_of ((before ++ x ∷ []) ++ take k xs) Running) ≡ false)
      → (k : ℕ) → k < takes (w.fed w.start before) x xs b → final (walk_of (before ++ take k (x ∷ xs)) Running) ≡ false
  runs-by before x xs true e again k lt = absurd (omega arith)
  runs-by before x xs false e again zero lt = ap (λ ys. final (walk_of ys Running)) (append-nil before) ∙ e
  runs-by before x xs false e again (suc k) lt = ap (λ ys. final (walk_of ys Running)) (sym (append_assoc before (x ∷ []) (take k xs))) ∙ again k (omega arith)

  pub taken-runs : (xs before : List ℕ) (k : ℕ) → k < taken w (w.fed w.start before) xs → final (walk_of (before ++ take k xs) Running) ≡ false
  taken-runs [] before k lt = absurd (omega arith)
  taken-runs (x ∷ xs) before k lt =
      runs-by before x xs (final (walk_of before Running)) refl
      (λ j less. taken-runs xs (before ++ x ∷ []) j (subst (λ (r : V). j < taken w r xs) (is.more before (x ∷ [])) less))
      k (subst (λ (b : Bool). k < takes (w.fed w.start before) x xs b) (has-said-is before) lt)

  -- where it doesn't take all, what it says is final
  final-by : (before : List ℕ) (x : ℕ) (xs : List ℕ) (b : Bool) → final (walk_of before Running) ≡ b
      → (taken w (w.fed (w.fed w.start before) (x ∷ [])) xs < length xs → final (walk_of ((before ++ x ∷ []) ++ take (taken w (w.fed (w.fed w.start before) (x ∷ [])) xs) xs) Running) ≡ true)
      → takes (w.fed w.start before) x xs b < suc (length xs) → final (walk_of (before ++ take (takes (w.fed w.start before) x xs b) (x ∷ xs)) Running) ≡ true
  final-by before x xs true e again lt = ap (λ ys. final (walk_of ys Running)) (append-nil before) ∙ e
  final-by before x xs false e again lt =
      ap (λ ys. final (walk_of ys Running)) (sym (append_assoc before (x ∷ []) (take (taken w (w.fed (w.fed w.start before) (x ∷ [])) xs) xs))) ∙ again (omega arith)

  pub taken-final : (xs before : List ℕ) → taken w (w.fed w.start before) xs < length xs → final (walk_of (before ++ take (taken w (w.fed w.start before) xs) xs) Running) ≡ true
  taken-final [] before lt = absurd (omega arith)
  taken-final (x ∷ xs) before lt =
      subst (λ (b : Bool). takes (w.fed w.start before) x xs b < suc (length xs) → final (walk_of (before ++ take (takes (w.fed w.start before) x xs b) (x ∷ xs)) Running) ≡ true) (sym (has-said-is before))
      (final-by before x xs (final (walk_of before Running)) refl
      (λ less. subst (λ (r : V). taken w r xs < length xs → final (walk_of ((before ++ x ∷ []) ++ take (taken w r xs) xs) Running) ≡ true) (sym (is.more before (x ∷ []))) (taken-final xs (before ++ x ∷ [])) less))
      lt

  -- ---- reading on

  -- a reader that takes these unread bytes, and learns this end
  abbrev read_further : V → List ℕ → StreamEnd → V
  read_further r xs end = noted_if w.ended (not (is_running end) && taken w r xs == length xs) end (fed_piece w r xs)

  -- the reader after them: one that said all stays as it is
  abbrev pub reader_after : V → List ℕ → StreamEnd → V
  reader_after r xs end = if w.has_said r then r else read_further r xs end

  pub taken-none : (r : V) (xs : List ℕ) → w.has_said r ≡ true → taken w r xs ≡ 0
  taken-none r [] e = refl
  taken-none r (x ∷ xs) e = ap (takes r x xs) e

  module _ (r : V) (before xs : List ℕ) (end : StreamEnd) (has : r ≡ w.fed w.start before) where
    piece-is : fed_piece w r xs ≡ w.fed w.start (before ++ take (taken w r xs) xs)
    piece-is = ap (λ (v : V). w.fed v (take (taken w r xs) xs)) has ∙ is.more before (take (taken w r xs) xs)

    final-here : taken w r xs < length xs → final (walk_of (before ++ take (taken w r xs) xs) Running) ≡ true
    final-here = subst (λ (v : V). taken w v xs < length xs → final (walk_of (before ++ take (taken w v xs) xs) Running) ≡ true) (sym has) (taken-final xs before)

    all-taken : taken w r xs ≡ length xs → before ++ take (taken w r xs) xs ≡ before ++ xs
    all-taken e = ap (λ ys. before ++ ys) (take-whole (taken w r xs) xs (omega (arith, e)))

    whole-again : (before ++ take (taken w r xs) xs) ++ drop (taken w r xs) xs ≡ before ++ xs
    whole-again = append_assoc before (take (taken w r xs) xs) (drop (taken w r xs) xs) ∙ ap (λ ys. before ++ ys) (take-append-drop (taken w r xs) xs)

    -- what was final stays so under the rest
    stays-final : taken w r xs < length xs → walk_of (before ++ xs) end ≡ walk_of (before ++ take (taken w r xs) xs) Running
    stays-final lt = ap (λ ys. walk_of ys end) (sym whole-again) ∙ is.stays (before ++ take (taken w r xs) xs) (drop (taken w r xs) xs) end (final-here lt)

    running-end : (e : StreamEnd) → is_running e ≡ true → e ≡ Running
    running-end Running e = refl
    running-end Fin e = absurd cc
    running-end (Reset code) e = absurd cc

    says-by : (b : Bool) → (not (is_running end) && taken w r xs == length xs) ≡ b → w.outcome (noted_if w.ended b end (fed_piece w r xs)) ≡ walk_of (before ++ xs) end
    says-by true e =
        let all : taken w r xs ≡ length xs = eqb-true (taken w r xs) (length xs) (second (is_running end) (taken w r xs == length xs) e) in
        ap (λ (v : V). w.outcome (w.ended end v)) piece-is ∙ (is.says (before ++ take (taken w r xs) xs) end ∙ ap (λ ys. walk_of ys end) (all-taken all))
      where
        second : (a b : Bool) → (not a && b) ≡ true → b ≡ true
        second true b e = absurd cc
        second false b e = e
    says-by false e =
        ap w.outcome piece-is ∙ (says-so-far (before ++ take (taken w r xs) xs)
        ∙ elim (cases_lt (taken w r xs) (length xs)) [
          | inl lt ↦ sym (stays-final lt)
          | inr le ↦
              let all : taken w r xs ≡ length xs = omega (arith, taken-within xs r, le) in
              let runs : end ≡ Running = running-end end (not-either (is_running end) (taken w r xs == length xs) e (eq-eqb (taken w r xs) (length xs) all)) in
              λ i. walk_of (all-taken all i) (sym runs i)
        ])
      where
        not-either : (a b : Bool) → (not a && b) ≡ false → b ≡ true → a ≡ true
        not-either true b e f = refl
        not-either false b e f = absurd cc

    -- it says what the walk over all bytes and the end says
    pub after-says : w.outcome (reader_after r xs end) ≡ walk_of (before ++ xs) end
    after-says = by (w.has_said r) refl
      where
        by : (b : Bool) → w.has_said r ≡ b → w.outcome (if b then r else read_further r xs end) ≡ walk_of (before ++ xs) end
        by true e = ap w.outcome has ∙ (says-so-far before ∙ sym (is.stays before xs end (sym (ap w.has_said has ∙ has-said-is before) ∙ e)))
        by false e = says-by (not (is_running end) && taken w r xs == length xs) refl

    further-runs : w.has_said (read_further r xs end) ≡ false → (taken w r xs ≡ length xs) × (read_further r xs end ≡ w.fed w.start (before ++ xs)) × (end ≡ Running)
    further-runs open_ =
        let still : final (walk_of (before ++ xs) end) ≡ false = ap final (sym (says-by (not (is_running end) && taken w r xs == length xs) refl)) ∙ (sym (is.said (read_further r xs end)) ∙ open_) in
        let all : taken w r xs ≡ length xs =
        elim (cases_lt (taken w r xs) (length xs)) [
          | inl lt ↦ absurd (let f = ap final (stays-final lt) ∙ final-here lt in cc)
          | inr le ↦ omega (arith, taken-within xs r, le)
        ] in
        let runs : is_running end ≡ true = running-by (is_running end) refl still in
        (all, ap (λ (b : Bool). noted_if w.ended (not b && taken w r xs == length xs) end (fed_piece w r xs)) runs ∙ (piece-is ∙ ap (λ ys. w.fed w.start ys) (all-taken all)), running-end end runs)
      where
        running-by : (b : Bool) → is_running end ≡ b → final (walk_of (before ++ xs) end) ≡ false → is_running end ≡ true
        running-by true e still = e
        running-by false e still = absurd (let f = is.ends (before ++ xs) end e in cc)

    -- where that isn't final, it took all and the stream runs
    pub after-runs : w.has_said (reader_after r xs end) ≡ false → (taken w r xs ≡ length xs) × (reader_after r xs end ≡ w.fed w.start (before ++ xs)) × (end ≡ Running)
    after-runs = by (w.has_said r) refl
      where
        by : (b : Bool) → w.has_said r ≡ b → w.has_said (if b then r else read_further r xs end) ≡ false
            → (taken w r xs ≡ length xs) × ((if b then r else read_further r xs end) ≡ w.fed w.start (before ++ xs)) × (end ≡ Running)
        by true e open_ = absurd (let f = sym e ∙ open_ in cc)
        by false e open_ = further-runs open_

  -- ---- in a transport

  pub reads-on : (t : TransportState) (id : ℕ) (r : V)
      → read_on w id r t ≡ record { reader = reader_after r (unread_now t id) (end_now t id); transport = consumed t id (taken w r (unread_now t id)) }
  reads-on t id r = by (w.has_said r) refl
    where
      by : (b : Bool) → w.has_said r ≡ b → reads_on_if w.has_said w.fed w.ended b id r t
          ≡ record { reader = if b then r else read_further r (unread_now t id) (end_now t id); transport = consumed t id (taken w r (unread_now t id)) }
      by true e = λ i. record { reader = r; transport = consumed t id (sym (taken-none r (unread_now t id) e) i) }
      by false e = refl

  -- ---- by the tie

  module _ (r : V) (offset : ℕ) (bytes : List ℕ) (position : ReadPosition) (end : StreamEnd) (at : ReaderAt w r offset bytes position) where
    abbrev before : List ℕ
    before = take at.count (drop offset bytes)

    abbrev rest : List ℕ
    rest = from_position position bytes

    rest-is : rest ≡ drop at.count (drop offset bytes)
    rest-is = ap (λ (p : ReadPosition). from_position p bytes) at.at_offset ∙ sym (drop-drop at.count offset bytes)

    whole-is : before ++ rest ≡ drop offset bytes
    whole-is = ap (λ ys. before ++ ys) rest-is ∙ take-append-drop at.count (drop offset bytes)

    before-long : length before ≡ at.count
    before-long = (let le = at.within in omega (arith, le, length-take at.count (drop offset bytes), length-drop offset bytes))

    rest-long : offset + at.count + length rest ≡ length bytes
    rest-long = (let le = at.within in let same = ap length rest-is in omega (arith, le, same, length-drop at.count (drop offset bytes), length-drop offset bytes))

    pub at-says : w.outcome (reader_after r rest end) ≡ walk_of (drop offset bytes) end
    at-says = after-says r before rest end at.taken ∙ ap (λ ys. walk_of ys end) whole-is

    -- what is final after fewer bytes is so after all
    whole-final : (k : ℕ) → w.has_said (w.fed w.start (take k (drop offset bytes))) ≡ true → w.has_said (w.fed w.start (drop offset bytes)) ≡ true
    whole-final k f =
        let over = sym (has-said-is (take k (drop offset bytes))) ∙ f in
        has-said-is (drop offset bytes)
        ∙ (ap final (ap (λ ys. walk_of ys Running) (sym (take-append-drop k (drop offset bytes))) ∙ is.stays (take k (drop offset bytes)) (drop k (drop offset bytes)) Running over) ∙ over)

    -- where that isn't final, all of the stream is read
    pub at-runs : w.has_said (reader_after r rest end) ≡ false
        → ReaderAt w (reader_after r rest end) offset bytes (advance (taken w r rest) position) × (advance (taken w r rest) position ≡ AtOffset (length bytes))
    at-runs open_ =
        let runs = after-runs r before rest end at.taken open_ in
        let all : taken w r rest ≡ length rest = runs.0 in
        let far : advance (taken w r rest) position ≡ AtOffset (offset + (at.count + length rest)) =
        (λ i. advance (all i) (at.at_offset i)) ∙ ap AtOffset (let e : offset + at.count + length rest ≡ offset + (at.count + length rest) = omega arith in e) in (
          record {
            count = at.count + length rest;
            at_offset = far;
            within = (let long = rest-long in omega (arith, long));
            taken = runs.1 ∙ ap (λ ys. w.fed w.start ys) (whole-is ∙ sym (take-whole (at.count + length rest) (drop offset bytes) (let long = rest-long in omega (arith, long, length-drop offset bytes))));
            least = λ k lt. false_from_ne_true (w.has_said (w.fed w.start (take k (drop offset bytes)))) (λ f. true≢false (sym (ap w.has_said (runs.1 ∙ ap (λ ys. w.fed w.start ys) whole-is) ∙ whole-final k f) ∙ open_));
          },
          far ∙ ap AtOffset (let long = rest-long in let e : offset + (at.count + length rest) ≡ length bytes = omega (arith, long) in e),
        )

  -- a header that is through tells how many bytes were taken
  module _ (offset_of : O → Option ℕ) (tells : IsOffset final walk_of offset_of) (r : V) (bytes : List ℕ) (position : ReadPosition) (end : StreamEnd) (at : ReaderAt w r 0 bytes position) where
    abbrev front : List ℕ
    front = take at.count bytes

    abbrev unread_part : List ℕ
    unread_part = from_position position bytes

    parts : front ++ unread_part ≡ bytes
    parts = whole-is r 0 bytes position end at

    front-long : length front ≡ at.count
    front-long = before-long r 0 bytes position end at

    part-long : at.count + length unread_part ≡ length bytes
    part-long = (let long = rest-long r 0 bytes position end at in omega (arith, long))

    not-before : (g : ℕ) → final (walk_of (take g bytes) Running) ≡ true → at.count + taken w r unread_part ≤ g
    not-before g f = elim (cases_lt g (at.count + taken w r unread_part)) [
      | inr le ↦ le
      | inl lt ↦ elim (cases_lt g at.count) [
        | inl less ↦
            let same : take at.count bytes ≡ take g bytes ++ take (at.count - g) (drop g bytes) =
            sym (take-two g (at.count - g) bytes ∙ ap (λ n. take n bytes) (let e : g + (at.count - g) ≡ at.count = omega (arith, less) in e)) in
            let over : final (walk_of front Running) ≡ true = ap final (ap (λ ys. walk_of ys Running) same ∙ is.stays (take g bytes) (take (at.count - g) (drop g bytes)) Running f) ∙ f in
            absurd (let open_ = sym (has-said-is (take g bytes)) ∙ at.least g less in cc)
        | inr more ↦
            let k : ℕ = g - at.count in
            let few : k < taken w (w.fed w.start front) unread_part = subst (λ (v : V). k < taken w v unread_part) at.taken (omega (arith, lt, more)) in
            let same : front ++ take k unread_part ≡ take g bytes =
            take-part front unread_part k ∙ (λ i. take (let e : length front + k ≡ g = (let long = front-long in omega (arith, long, more)) in e i) (parts i)) in
            absurd (let open_ = taken-runs unread_part front k few in let shut = ap (λ ys. final (walk_of ys Running)) same ∙ f in cc)
      ]
    ]

    not-behind : (g : ℕ) → offset_of (walk_of bytes end) ≡ Some g → g ≤ at.count + taken w r unread_part
    not-behind g e = elim (cases_lt (taken w r unread_part) (length unread_part)) [
      | inl lt ↦
          let same : walk_of bytes end ≡ walk_of (front ++ take (taken w r unread_part) unread_part) Running = ap (λ ys. walk_of ys end) (sym parts) ∙ stays-final r front unread_part end at.taken lt in
          let le = tells.within (front ++ take (taken w r unread_part) unread_part) Running g (ap offset_of (sym same) ∙ e) in
          let long = front-long in
          omega (arith, le, long, length-append front (take (taken w r unread_part) unread_part), length-take (taken w r unread_part) unread_part)
      | inr le ↦ (let all = tells.within bytes end g e in let long = part-long in omega (arith, all, long, le))
    ]

    pub at-tells : (g : ℕ) → offset_of (walk_of bytes end) ≡ Some g → advance (taken w r unread_part) position ≡ AtOffset g
    at-tells g e =
        let same : at.count + taken w r unread_part ≡ g = (let lower = not-before g (tells.decides bytes end g e) in let upper = not-behind g e in omega (arith, lower, upper)) in
        ap (advance (taken w r unread_part)) at.at_offset ∙ ap AtOffset (let f : 0 + at.count + taken w r unread_part ≡ g = omega (arith, same) in f)

-- a reader that took nothing
pub fresh-at : {V O : Type 0} (w : ReaderRules V O) (final : O → Bool) (walk_of : List ℕ → StreamEnd → O) → IsReader w final walk_of → (offset : ℕ) (bytes : List ℕ) (position : ReadPosition) → position ≡ AtOffset offset → offset ≤ length bytes
    → ReaderAt w w.start offset bytes position
fresh-at w final walk_of is offset bytes position e le = record {
  count = 0;
  at_offset = e ∙ ap AtOffset (let f : offset ≡ offset + 0 = omega arith in f);
  within = omega (arith, le);
  taken = sym is.nothing;
  least = λ k lt. absurd (omega (arith, lt));
}
