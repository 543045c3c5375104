-- A reader is fed what is unread of its stream, piece after piece: that is what it takes of all of it.
use Rattle.std.proofs.Common.{◌+◌, ◌-◌, ◌<◌, ◌≡◌, ◌≤◌, ◌∙◌, ◌++◌, ◌∷◌, [], Bool, List, ap, arith, drop, false, length, refl, subst, suc, sym, take, true, zero, ℕ, inl, inr}
use Rattle.std.proofs.lemmas.Bool.{cases_lt}
use Rattle.std.proofs.lemmas.Bool.Decides.{nat_tests}
use Rattle.std.proofs.lemmas.List.{length-drop}
use Rattle.std.specs.Prelude.{◌&&◌, ◌==◌, ◌⊎◌, if◌then◌else◌, not}
use Rattle.wt_kept.specs.Readers.{ReadOn, consumed, fed_piece_by, is_end_reached, noted_if, reads_unread, taken_by}
use Rattle.wt_transport.specs.State.{TransportState}
use Rattle.wt_transport.specs.Step.{after_consume, end_now, pieces_now, unread_now}
use Rattle.wt_transport.specs.Pieces.{first_piece}
use Rattle.wt_transport.proofs.PieceLaws.{first_within, take_first}
use Rattle.wt_peer_streams.proofs.Consuming.{consumed-ends, consumed-here, consumed-twice}
use Rattle.wt_peer_streams.specs.Feeding.{Took}
use Rattle.wt_turn.specs.Reports.{is_running}
use Rattle.wt_wire.specs.declared.side.StreamEnd.{StreamEnd}

module _ {V : Type 0} (said : V → Bool) (fed : V → List ℕ → V) where
  -- bytes may be put before the reader one after another
  pub record Joins (r : V) : Type 0 where
    pub none : fed r [] ≡ r
    pub joins : (xs ys : List ℕ) → fed (fed r xs) ys ≡ fed r (xs ++ ys)

  append-assoc : (xs ys zs : List ℕ) → (xs ++ ys) ++ zs ≡ xs ++ (ys ++ zs)
  append-assoc [] ys zs = refl
  append-assoc (x ∷ xs) ys zs = ap (λ ws. x ∷ ws) (append-assoc xs ys zs)

  append-none : (xs : List ℕ) → xs ++ [] ≡ xs
  append-none [] = refl
  append-none (x ∷ xs) = ap (λ ws. x ∷ ws) (append-none xs)

  pub joins-after : (r : V) (xs : List ℕ) → Joins r → Joins (fed r xs)
  joins-after r xs j = record {
    none = j.joins xs [] ∙ ap (λ ws. fed r ws) (append-none xs);
    joins = λ ys zs. ap (λ v. fed v zs) (j.joins xs ys) ∙ (j.joins (xs ++ ys) zs ∙ (ap (λ ws. fed r ws) (append-assoc xs ys zs) ∙ sym (j.joins xs (ys ++ zs))));
  }

  -- it takes n bytes where none in front makes what it says final, and with them it is, or none is left
  pub taken-is : (xs : List ℕ) (r : V) (n : ℕ) → Joins r → n ≤ length xs → ((k : ℕ) → k < n → said (fed r (take k xs)) ≡ false) → (n < length xs → said (fed r (take n xs)) ≡ true) → taken_by said fed r xs ≡ n
  taken-is [] r zero j le goes stops = refl
  taken-is [] r (suc n) j le goes stops = absurd (omega arith)
  taken-is (x ∷ xs) r zero j le goes stops =
      let over : said r ≡ true = ap (λ v. said v) (sym j.none) ∙ stops (omega arith) in
      ap (λ b. if b then 0 else suc (taken_by said fed (fed r (x ∷ [])) xs)) over
  taken-is (x ∷ xs) r (suc n) j le goes stops =
      let on : said r ≡ false = ap (λ v. said v) (sym j.none) ∙ goes 0 (omega arith) in
      ap (λ b. if b then 0 else suc (taken_by said fed (fed r (x ∷ [])) xs)) on
      ∙ ap (λ m. suc m) (taken-is xs (fed r (x ∷ [])) n (joins-after r (x ∷ []) j) (omega arith)
      (λ k lt. ap (λ v. said v) (j.joins (x ∷ []) (take k xs)) ∙ goes (suc k) (omega arith))
      (λ lt. ap (λ v. said v) (j.joins (x ∷ []) (take n xs)) ∙ stops (omega arith)))

  take-none : (k : ℕ) → take {A = ℕ} k [] ≡ []
  take-none zero = refl
  take-none (suc k) = refl

  take-more : (xs : List ℕ) (m n : ℕ) → take m xs ++ take n (drop m xs) ≡ take (m + n) xs
  take-more [] zero n = take-none n ∙ sym (take-none (0 + n))
  take-more [] (suc m) n = take-none n ∙ sym (take-none (suc m + n))
  take-more (x ∷ xs) zero n = let e : n ≡ 0 + n = omega arith in ap (λ k. take k (x ∷ xs)) e
  take-more (x ∷ xs) (suc m) n = let e : suc (m + n) ≡ suc m + n = omega arith in ap (λ ws. x ∷ ws) (take-more xs m n) ∙ ap (λ k. take k (x ∷ xs)) e

  -- ---- in the midst of it

  -- so many bytes of what was unread were taken
  pub record ReadSoFar (id : ℕ) (r : V) (t : TransportState) (now : V) (now_t : TransportState) : Type 0 where
    pub count : ℕ
    pub within : count ≤ length (unread_now t id)
    pub reader : now ≡ fed r (take count (unread_now t id))
    pub transport : now_t ≡ consumed t id count
    pub goes : (k : ℕ) → k < count → said (fed r (take k (unread_now t id))) ≡ false

  pub starts : (id : ℕ) (r : V) (t : TransportState) → Joins r → ReadSoFar id r t r t
  starts id r t j = record { count = 0; within = omega arith; reader = sym j.none; transport = refl; goes = λ k lt. absurd (omega arith) }

  left-unread : (id : ℕ) (t : TransportState) (n : ℕ) → unread_now (consumed t id n) id ≡ drop n (unread_now t id)
  left-unread id t zero = refl
  left-unread id t (suc n) = consumed-here t id (suc n)

  left-end : (id : ℕ) (t : TransportState) (n : ℕ) → end_now (consumed t id n) id ≡ end_now t id
  left-end id t zero = refl
  left-end id t (suc n) = consumed-ends t id (suc n) id

  more-consumed : (id : ℕ) (t : TransportState) (m n : ℕ) → 0 < n → after_consume (consumed t id m) id n ≡ consumed t id (m + n)
  more-consumed id t m zero some = absurd (omega arith)
  more-consumed id t zero (suc n) some = let e : suc n ≡ 0 + suc n = omega arith in ap (λ k. consumed t id k) e
  more-consumed id t (suc m) (suc n) some =
      let e : suc (m + suc n) ≡ suc m + suc n = omega arith in
      consumed-twice t id (suc m) (suc n) ∙ (ap (λ k. after_consume t id k) (sym e) ∙ ap (λ k. consumed t id k) e)

  pub unread-left : (id : ℕ) (r : V) (t : TransportState) (now : V) (now_t : TransportState) (s : ReadSoFar id r t now now_t) → unread_now now_t id ≡ drop s.count (unread_now t id)
  unread-left id r t now now_t s = ap (λ u. unread_now u id) s.transport ∙ left-unread id t s.count

  pub joins-now : (id : ℕ) (r : V) (t : TransportState) (now : V) (now_t : TransportState) → Joins r → ReadSoFar id r t now now_t → fed now [] ≡ now
  joins-now id r t now now_t j s = ap (λ v. fed v []) s.reader ∙ ((joins-after r (take s.count (unread_now t id)) j).none ∙ sym s.reader)

  -- some more were taken
  pub goes-on : (id : ℕ) (r : V) (t : TransportState) (now : V) (now_t : TransportState) (later : V) (later_t : TransportState) → Joins r → ReadSoFar id r t now now_t → Took said fed id now now_t later later_t → ReadSoFar id r t later later_t
  goes-on id r t now now_t later later_t j s k = record {
    count = s.count + k.count;
    within =
        let left = ap length left in
        let all = length-drop s.count (unread_now t id) in
        let has = k.within in
        let some = k.some in
        let before = s.within in
        omega arith;
    reader = k.reader
        ∙ (ap (λ ys. fed now (take k.count ys)) left
        ∙ (ap (λ v. fed v (take k.count (drop s.count (unread_now t id)))) s.reader
        ∙ (j.joins (take s.count (unread_now t id)) (take k.count (drop s.count (unread_now t id))) ∙ ap (λ ys. fed r ys) (take-more (unread_now t id) s.count k.count))));
    transport = k.transport ∙ (ap (λ u. after_consume u id k.count) s.transport ∙ more-consumed id t s.count k.count k.some);
    goes = λ i lt. by i lt (cases_lt i s.count);
  }
    where
      left : unread_now now_t id ≡ drop s.count (unread_now t id)
      left = unread-left id r t now now_t s

      from : (i : ℕ) → i < k.count → said (fed r (take (s.count + i) (unread_now t id))) ≡ false
      from i lt =
          ap (λ ys. said (fed r ys)) (sym (take-more (unread_now t id) s.count i))
          ∙ (ap (λ v. said v) (sym (j.joins (take s.count (unread_now t id)) (take i (drop s.count (unread_now t id)))))
          ∙ (ap (λ v. said (fed v (take i (drop s.count (unread_now t id))))) (sym s.reader)
          ∙ (ap (λ ys. said (fed now (take i ys))) (sym left) ∙ k.goes i lt)))

      by : (i : ℕ) → i < s.count + k.count → (i < s.count) ⊎ (s.count ≤ i) → said (fed r (take i (unread_now t id))) ≡ false
      by i lt (inl front) = s.goes i front
      by i lt (inr behind) =
          let same : s.count + (i - s.count) ≡ i = omega arith in
          subst (λ n. said (fed r (take n (unread_now t id))) ≡ false) same (from (i - s.count) (omega arith))

  -- bytes of the first piece were taken
  pub took : (id : ℕ) (r : V) (t : TransportState) (piece : List ℕ) (n : ℕ) (now : V) (now_t : TransportState) → fed r [] ≡ r → said r ≡ false → 0 < length (unread_now t id) → (0 < length (unread_now t id) → 0 < length piece)
      → piece ≡ first_piece (pieces_now t id) → n ≤ length piece → now ≡ fed r (take n piece) → ((k : ℕ) → k < n → said (fed r (take k piece)) ≡ false) → (n < length piece → said now ≡ true) → now_t ≡ after_consume t id n
      → Took said fed id r t now now_t
  took id r t piece n now now_t none on unread some is le e goes stops consumes = record {
    count = n;
    some = by n e stops;
    within = let first = first_within (pieces_now t id) in let same = ap length is in omega arith;
    reader = e ∙ ap (λ ys. fed r ys) (front n le);
    transport = consumes;
    goes = λ k lt. ap (λ ys. said (fed r ys)) (sym (front k (omega arith))) ∙ goes k lt;
  }
    where
      front : (k : ℕ) → k ≤ length piece → take k piece ≡ take k (unread_now t id)
      front k l = ap (λ ys. take k ys) is ∙ sym (take_first k (pieces_now t id) (let same = ap length is in omega arith))

      by : (m : ℕ) → now ≡ fed r (take m piece) → (m < length piece → said now ≡ true) → 0 < m
      by (suc m) e stops = omega arith
      by zero e stops =
          let over : said now ≡ true = stops (some unread) in
          let not_over : said now ≡ false = ap (λ v. said v) (e ∙ none) ∙ on in
          absurd (cc)

  -- fewer are left
  pub shorter : (id : ℕ) (r : V) (t : TransportState) (now : V) (now_t : TransportState) → Took said fed id r t now now_t → length (unread_now now_t id) < length (unread_now t id)
  shorter id r t now now_t k =
      let left = ap (λ u. length (unread_now u id)) k.transport in
      let here = ap length (consumed-here t id k.count) in
      let all = length-drop k.count (unread_now t id) in
      let some = k.some in
      let within = k.within in
      omega arith

  -- ---- at its end

  -- what it says is final, or nothing is unread
  pub taken-so-far : (id : ℕ) (r : V) (t : TransportState) (now : V) (now_t : TransportState) → Joins r → (s : ReadSoFar id r t now now_t) → (0 < length (unread_now now_t id) → said now ≡ true) → taken_by said fed r (unread_now t id) ≡ s.count
  taken-so-far id r t now now_t j s over = taken-is (unread_now t id) r s.count j s.within s.goes (λ lt. ap (λ v. said v) (sym s.reader) ∙ over (more lt))
    where
      more : s.count < length (unread_now t id) → 0 < length (unread_now now_t id)
      more lt =
          let left = ap length (unread-left id r t now now_t s) in
          let all = length-drop s.count (unread_now t id) in
          omega arith

  pub end-same : (id : ℕ) (r : V) (t : TransportState) (now : V) (now_t : TransportState) → ReadSoFar id r t now now_t → end_now now_t id ≡ end_now t id
  end-same id r t now now_t s = ap (λ u. end_now u id) s.transport ∙ left-end id t s.count

  empty-by : (n all left : ℕ) → n ≤ all → left ≡ all - n → (left == 0) ≡ (n == all)
  empty-by n all left le e = by (left == 0) refl (n == all) refl
    where
      by : (b : Bool) → (left == 0) ≡ b → (c : Bool) → (n == all) ≡ c → b ≡ c
      by true e1 true e2 = refl
      by false e1 false e2 = refl
      by true e1 false e2 = absurd (grind (arith, nat_tests))
      by false e1 true e2 = absurd (grind (arith, nat_tests))

  -- the end counts where nothing is left
  pub reached-same : (id : ℕ) (r : V) (t : TransportState) (now : V) (now_t : TransportState) → (s : ReadSoFar id r t now now_t) → (not (is_running (end_now now_t id)) && length (unread_now now_t id) == 0) ≡ is_end_reached s.count t id
  reached-same id r t now now_t s =
      ap (λ (e : StreamEnd). not (is_running e) && length (unread_now now_t id) == 0) (end-same id r t now now_t s)
      ∙ ap (λ b. not (is_running (end_now t id)) && b)
      (empty-by s.count (length (unread_now t id)) (length (unread_now now_t id)) s.within (ap length (unread-left id r t now now_t s) ∙ length-drop s.count (unread_now t id)))

  -- the whole
  pub read-whole : (ended : StreamEnd → V → V) (id : ℕ) (r : V) (t : TransportState) (now : V) (now_t : TransportState) → Joins r → (s : ReadSoFar id r t now now_t) → (0 < length (unread_now now_t id) → said now ≡ true)
      → (b : Bool) → (not (is_running (end_now now_t id)) && length (unread_now now_t id) == 0) ≡ b
      → ◌≡◌ {A = ReadOn V} (record { reader = noted_if ended b (end_now now_t id) now; transport = now_t }) (reads_unread said fed ended id r t)
  read-whole ended id r t now now_t j s over b is =
      let count = taken-so-far id r t now now_t j s over in
      let reached : b ≡ is_end_reached (taken_by said fed r (unread_now t id)) t id = sym is ∙ (reached-same id r t now now_t s ∙ ap (λ n. is_end_reached n t id) (sym count)) in
      let reader : now ≡ fed_piece_by said fed r (unread_now t id) = s.reader ∙ ap (λ n. fed r (take n (unread_now t id))) (sym count) in
      let transport : now_t ≡ consumed t id (taken_by said fed r (unread_now t id)) = s.transport ∙ ap (λ n. consumed t id n) (sym count) in
      λ i. record { reader = noted_if ended (reached i) (end-same id r t now now_t s i) (reader i); transport = transport i }

pub both-goes : (a b : Bool) → (not a && b) ≡ true → (a ≡ false) × (b ≡ true)
both-goes true b e = absurd (cc)
both-goes false b e = (refl, e)

pub either-over : (a b : Bool) → (not a && b) ≡ false → b ≡ true → a ≡ true
either-over true b e f = refl
either-over false true e f = absurd (cc)
either-over false false e f = absurd (cc)
