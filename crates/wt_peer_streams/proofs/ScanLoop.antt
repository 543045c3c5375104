-- The scan over the peer's streams that have no verdict, look by look.
use Rattle.std.proofs.Common.{◌*◌, ◌+◌, ◌-◌, ◌<◌, ◌≡◌, ◌≤◌, ◌∙◌, ◌++◌, ◌∷◌, [], List, None, Some, ap, arith, drop, get_or, inl, inr, length, refl, set, suc, sym, take, zero, ℕ}
use Rattle.std.specs.List.{remove}
use Rattle.std.specs.Prelude.{◌⊎◌, if◌then◌else◌}
use Rattle.wt_kept.specs.Arriving.{ScannedNow, after_slot, classify_final, scan_reading, scan_waiting, stays_now, unless_over, with_transport}
use Rattle.wt_kept.specs.Classifying.{classify_now}
use Rattle.wt_kept.specs.Kept.{ArrivingNow, WorkNow}
use Rattle.wt_kept.specs.Readers.{ReadOn, ReaderRules, Slot, read_on}
use Rattle.wt_peer_streams.proofs.Walking.{all-through, next-left, none-left, out-left, out-through}
use Rattle.wt_peer_streams.specs.Scanning.{Looked, is_incomplete, looked_by}
use Rattle.wt_proto.specs.declared.verdict.Verdict.{Verdict}
use Rattle.wt_proto.specs.declared.verdict.Verdict.TheVariants as verdicts
use Rattle.wt_sessions.specs.Scan.{places_after}
use Rattle.wt_wire.specs.declared.error.ErrorCode.{ErrorCode}

append-none : {X : Type 0} (xs : List X) → xs ++ [] ≡ xs
append-none [] = refl
append-none (x ∷ xs) = ap (λ ys. x ∷ ys) (append-none xs)

both-parts : {X : Type 0} (xs : List X) (i : ℕ) → take i xs ++ drop i xs ≡ xs
both-parts [] zero = refl
both-parts [] (suc i) = refl
both-parts (x ∷ xs) zero = refl
both-parts (x ∷ xs) (suc i) = ap (λ ys. x ∷ ys) (both-parts xs i)

append-one : {X : Type 0} (xs : List X) (y : X) (zs : List X) → (xs ++ y ∷ []) ++ zs ≡ xs ++ y ∷ zs
append-one [] y zs = refl
append-one (x ∷ xs) y zs = ap (λ ys. x ∷ ys) (append-one xs y zs)

pushed-front : {X : Type 0} (xs : List X) (y : X) → take (length xs) (xs ++ y ∷ []) ≡ xs
pushed-front [] y = refl
pushed-front (x ∷ xs) y = ap (λ ys. x ∷ ys) (pushed-front xs y)

pushed-back : {X : Type 0} (xs : List X) (y : X) → drop (length xs) (xs ++ y ∷ []) ≡ y ∷ []
pushed-back [] y = refl
pushed-back (x ∷ xs) y = pushed-back xs y

pub pushed-length : {X : Type 0} (xs : List X) (y : X) → length (xs ++ y ∷ []) ≡ length xs + 1
pushed-length [] y = refl
pushed-length (x ∷ xs) y = let e = pushed-length xs y in omega arith

set-front : {X : Type 0} (xs : List X) (i : ℕ) (y : X) → i < length xs → take (suc i) (set xs i y) ≡ take i xs ++ y ∷ []
set-front [] i y l = absurd (omega arith)
set-front (x ∷ xs) zero y l = refl
set-front (x ∷ xs) (suc i) y l = ap (λ ys. x ∷ ys) (set-front xs i y (omega arith))

set-back : {X : Type 0} (xs : List X) (i : ℕ) (y : X) → i < length xs → drop (suc i) (set xs i y) ≡ drop (suc i) xs
set-back [] i y l = absurd (omega arith)
set-back (x ∷ xs) zero y l = refl
set-back (x ∷ xs) (suc i) y l = set-back xs i y (omega arith)

set-length : {X : Type 0} (xs : List X) (i : ℕ) (y : X) → length (set xs i y) ≡ length xs
set-length [] i y = refl
set-length (x ∷ xs) zero y = refl
set-length (x ∷ xs) (suc i) y = ap (λ n. suc n) (set-length xs i y)

module _ {V : Type 0} (w : ReaderRules V Verdict) (kind count : ℕ) where
  -- these are in front of what a scan leaves
  abbrev pub in_front : List (Slot V) → ScannedNow V → ScannedNow V
  in_front xs s = record s { reading = xs ++ s.reading }

  -- what is left to do
  abbrev pub scan_rest : ℕ → ArrivingNow V → WorkNow → ScannedNow V
  scan_rest index a r = scan_reading w classify_now kind (4 - index) (count - a.next) a.next (drop index a.reading) r

  -- nothing is done after a fault
  pub over : (n left next : ℕ) (xs : List (Slot V)) (r : WorkNow) (code : ErrorCode) → r.dispatched.fault ≡ Some code → scan_reading w classify_now kind n left next xs r ≡ record { reading = xs; next = next; work = r }
  over zero left next [] r code e = refl
  over (suc n) zero next [] r code e = refl
  over (suc n) (suc left) next [] r code e =
      let goes : ScannedNow V = after_slot w classify_now (4 * next + kind) (read_on w (4 * next + kind) w.start r.transport) (λ k u. scan_waiting w classify_now kind k left (suc next) u) n r in
      ap (λ o. unless_over o goes (record { reading = []; next = next; work = r })) e
  over zero left next (x ∷ xs) r code e = refl
  over (suc n) left next (x ∷ xs) r code e =
      let goes : ScannedNow V = after_slot w classify_now x.id (read_on w x.id x.reader r.transport) (λ k u. scan_reading w classify_now kind k left next xs u) n r in
      ap (λ o. unless_over o goes (record { reading = x ∷ xs; next = next; work = r })) e

  pub over-rest : (whole : ScannedNow V) (index : ℕ) (a : ArrivingNow V) (r : WorkNow) → whole ≡ in_front (take index a.reading) (scan_rest index a r) → (code : ErrorCode) → r.dispatched.fault ≡ Some code
      → record { reading = a.reading; next = a.next; work = r } ≡ whole
  over-rest whole index a r e code fault =
      sym (e ∙ (ap (λ s. in_front (take index a.reading) s) (over (4 - index) (count - a.next) a.next (drop index a.reading) r code fault)
      ∙ ap (λ xs. record { reading = xs; next = a.next; work = r }) (both-parts a.reading index)))

  -- nothing is left: no place, or no stream
  done : (n left next : ℕ) (r : WorkNow) → (n ≡ 0) ⊎ (left ≡ 0) → scan_waiting w classify_now kind n left next r ≡ record { reading = []; next = next; work = r }
  done zero left next r e = refl
  done (suc n) zero next r e = refl
  done (suc n) (suc left) next r (inl e) = absurd (cc)
  done (suc n) (suc left) next r (inr e) = absurd (cc)

  pub done-rest : (whole : ScannedNow V) (index : ℕ) (a : ArrivingNow V) (r : WorkNow) → whole ≡ in_front (take index a.reading) (scan_rest index a r) → length a.reading ≤ index → (4 - index ≡ 0) ⊎ (count - a.next ≡ 0)
      → record { reading = a.reading; next = a.next; work = r } ≡ whole
  done-rest whole index a r e le none =
      sym (e ∙ (ap (λ xs. in_front (take index a.reading) (scan_reading w classify_now kind (4 - index) (count - a.next) a.next xs r)) (none-left a.reading index le)
      ∙ (ap (λ s. in_front (take index a.reading) s) (done (4 - index) (count - a.next) a.next r none)
      ∙ ap (λ xs. record { reading = xs; next = a.next; work = r }) (append-none (take index a.reading) ∙ all-through a.reading index le))))

  -- the next one that waits is read as those in front of it are
  waits : (m left next id : ℕ) (r : WorkNow) → r.dispatched.fault ≡ None → id ≡ 4 * next + kind
      → scan_waiting w classify_now kind (suc m) (suc left) next r ≡ scan_reading w classify_now kind (suc m) left (suc next) (record { id = id; reader = w.start } ∷ []) r
  waits m left next id r none same =
      let goes : ScannedNow V = after_slot w classify_now (4 * next + kind) (read_on w (4 * next + kind) w.start r.transport) (λ k u. scan_waiting w classify_now kind k left (suc next) u) m r in
      ap (λ o. unless_over o goes (record { reading = []; next = next; work = r })) none
      ∙ (sym (ap (λ o. unless_over o goes (record { reading = record { id = 4 * next + kind; reader = w.start } ∷ []; next = suc next; work = r })) none)
      ∙ ap (λ k. scan_reading w classify_now kind (suc m) left (suc next) (record { id = k; reader = w.start } ∷ []) r) (sym same))

  pub taken-rest : (whole : ScannedNow V) (index id : ℕ) (a : ArrivingNow V) (r : WorkNow) → whole ≡ in_front (take index a.reading) (scan_rest index a r) → index ≡ length a.reading → length a.reading < 4 → r.dispatched.fault ≡ None
      → a.next < count → id ≡ 4 * a.next + kind
      → whole ≡ in_front (take index (a.reading ++ record { id = id; reader = w.start } ∷ [])) (scan_rest index (record a { reading = a.reading ++ record { id = id; reader = w.start } ∷ []; next = suc a.next }) r)
  taken-rest whole index id a r e at few none there same =
      let x : Slot V = record { id = id; reader = w.start } in
      let places : 4 - index ≡ suc (3 - index) = omega arith in
      let left : count - a.next ≡ suc (count - suc a.next) = omega arith in
      let front : take index (a.reading ++ x ∷ []) ≡ take index a.reading =
      ap (λ n. take n (a.reading ++ x ∷ [])) at ∙ (pushed-front a.reading x ∙ sym (ap (λ n. take n a.reading) at ∙ all-through a.reading (length a.reading) (omega arith))) in
      let back : drop index (a.reading ++ x ∷ []) ≡ x ∷ [] = ap (λ n. drop n (a.reading ++ x ∷ [])) at ∙ pushed-back a.reading x in
      let gone : drop index a.reading ≡ [] = none-left a.reading index (omega arith) in
      e ∙ (ap (λ xs. in_front (take index a.reading) (scan_reading w classify_now kind (4 - index) (count - a.next) a.next xs r)) gone
      ∙ (ap (λ n. in_front (take index a.reading) (scan_waiting w classify_now kind n (count - a.next) a.next r)) places
      ∙ (ap (λ n. in_front (take index a.reading) (scan_waiting w classify_now kind (suc (3 - index)) n a.next r)) left
      ∙ (ap (λ s. in_front (take index a.reading) s) (waits (3 - index) (count - suc a.next) a.next id r none same)
      ∙ (ap (λ n. in_front (take index a.reading) (scan_reading w classify_now kind n (count - suc a.next) (suc a.next) (x ∷ []) r)) (sym places)
      ∙ (λ i. in_front (sym front i) (scan_reading w classify_now kind (4 - index) (count - suc a.next) (suc a.next) (sym back i) r)))))))

  -- ---- a look

  -- what a look leaves is to be done with
  abbrev pub after_look : ℕ → List (Slot V) → Looked V → ScannedNow V
  after_look index xs l = in_front (take (if l.stays then suc index else index) l.arriving.reading) (scan_rest (if l.stays then suc index else index) l.arriving l.work)

  looks : (index id : ℕ) (x : ReadOn V) (v : Verdict) (a : ArrivingNow V) (r : WorkNow) → w.outcome x.reader ≡ v → index < length a.reading → index < 4
      → in_front (take index a.reading) (after_slot w classify_now id x (λ k u. scan_reading w classify_now kind k (count - a.next) a.next (drop (suc index) a.reading) u) (3 - index) r)
      ≡ after_look index a.reading (looked_by (is_incomplete v) index (record { id = id; reader = x.reader }) v a (with_transport x.transport r))
  looks index id x v a r e l few = ap (λ u. in_front (take index a.reading) (slot_by u)) e ∙ by v
    where
      slot_by : Verdict → ScannedNow V
      slot_by u = stays_now u (record { id = id; reader = x.reader }) (scan_reading w classify_now kind (places_after u (3 - index)) (count - a.next) a.next (drop (suc index) a.reading) (classify_final classify_now id u (with_transport x.transport r)))

      places : 3 - index ≡ 4 - suc index
      places = omega arith

      more : suc (3 - index) ≡ 4 - index
      more = omega arith

      goes : (u : Verdict) → in_front (take index a.reading) (scan_reading w classify_now kind (suc (3 - index)) (count - a.next) a.next (drop (suc index) a.reading) (classify_now id u (with_transport x.transport r)))
          ≡ in_front (take index (remove a.reading index)) (scan_reading w classify_now kind (4 - index) (count - a.next) a.next (drop index (remove a.reading index)) (classify_now id u (with_transport x.transport r)))
      goes u = λ i. in_front (sym (out-through a.reading index l) i) (scan_reading w classify_now kind (more i) (count - a.next) a.next (sym (out-left a.reading index l) i) (classify_now id u (with_transport x.transport r)))

      by : (u : Verdict) → in_front (take index a.reading) (slot_by u) ≡ after_look index a.reading (looked_by (is_incomplete u) index (record { id = id; reader = x.reader }) u a (with_transport x.transport r))
      by verdicts.Incomplete =
          let y : Slot V = record { id = id; reader = x.reader } in
          sym ((λ i. in_front (set-front a.reading index y l i) (scan_reading w classify_now kind (sym places i) (count - a.next) a.next (set-back a.reading index y l i) (with_transport x.transport r)))
          ∙ ap (λ zs. record (scan_reading w classify_now kind (3 - index) (count - a.next) a.next (drop (suc index) a.reading) (with_transport x.transport r)) { reading = zs })
          (append-one (take index a.reading) y (scan_reading w classify_now kind (3 - index) (count - a.next) a.next (drop (suc index) a.reading) (with_transport x.transport r)).reading))
      by (verdicts.Control offset) = goes (verdicts.Control offset)
      by (verdicts.Encoder offset) = goes (verdicts.Encoder offset)
      by (verdicts.Decoder offset) = goes (verdicts.Decoder offset)
      by (verdicts.WebTransport session offset) = goes (verdicts.WebTransport session offset)
      by (verdicts.Request fields offset) = goes (verdicts.Request fields offset)
      by (verdicts.Refused code) = goes (verdicts.Refused code)
      by verdicts.Dropped = goes verdicts.Dropped
      by (verdicts.Fault code) = goes (verdicts.Fault code)

  pub looked-rest : (whole : ScannedNow V) (index : ℕ) (x : Slot V) (a : ArrivingNow V) (r : WorkNow) → whole ≡ in_front (take index a.reading) (scan_rest index a r) → index < length a.reading → length a.reading ≤ 4 → r.dispatched.fault ≡ None
      → x ≡ get_or a.reading index x
      → whole ≡ after_look index a.reading (looked_by (is_incomplete (w.outcome (read_on w x.id x.reader r.transport).reader)) index (record { id = x.id; reader = (read_on w x.id x.reader r.transport).reader })
      (w.outcome (read_on w x.id x.reader r.transport).reader) a (with_transport (read_on w x.id x.reader r.transport).transport r))
  looked-rest whole index x a r e l few none is =
      let y : ReadOn V = read_on w x.id x.reader r.transport in
      let places : 4 - index ≡ suc (3 - index) = omega arith in
      let goes : ScannedNow V = after_slot w classify_now x.id y (λ k u. scan_reading w classify_now kind k (count - a.next) a.next (drop (suc index) a.reading) u) (3 - index) r in
      e ∙ ((λ i. in_front (take index a.reading) (scan_reading w classify_now kind (places i) (count - a.next) a.next (next-left a.reading index x l is i) r))
      ∙ (ap (λ o. in_front (take index a.reading) (unless_over o goes (record { reading = x ∷ drop (suc index) a.reading; next = a.next; work = r }))) none
      ∙ looks index x.id y (w.outcome y.reader) a r refl l (omega arith)))
