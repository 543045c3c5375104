-- The scan of the streams of a kind as one over a list of slots: those that wait are slots of which nothing was read.
use Rattle.std.proofs.Common.{◌∙◌, ◌≡◌, ◌≤◌, ◌+◌, ◌-◌, ◌*◌, ◌++◌, ◌∷◌, List, None, Option, Some, [], ap, arith, length, map, refl, suc, sym, take, zero, ℕ}
use Rattle.wt_kept.specs.Arriving.{ScannedNow, after_slot, classify_final, fresh_slots, scan_reading, scan_waiting, stays_now, unless_over, with_transport}
use Rattle.wt_kept.specs.Kept.{WorkNow}
use Rattle.wt_kept.specs.Readers.{ReadOn, ReaderRules, Slot, read_on}
use Rattle.wt_proto.specs.declared.verdict.Verdict.{Verdict}
use Rattle.wt_proto.specs.declared.verdict.Verdict.TheVariants as verdicts
use Rattle.wt_sessions.specs.Scan.{places_after}
use Rattle.wt_wire.specs.declared.error.ErrorCode.{ErrorCode}

-- what a scan of slots leaves: those that were read and stay, those that it didn't come to, and the work
pub record Scanned (V : Type 0) : Type 0 where
  pub read : List (Slot V)
  pub rest : List (Slot V)
  pub work : WorkNow

abbrev pub slot_stays : {V : Type 0} → Verdict → Slot V → Scanned V → Scanned V
slot_stays verdicts.Incomplete x z = record z { read = x ∷ z.read }
slot_stays _ x z = z

abbrev pub unless_fault : {V : Type 0} → Option ErrorCode → Scanned V → Scanned V → Scanned V
unless_fault None goes stops = goes
unless_fault (Some code) goes stops = stops

abbrev pub slot_read : {V : Type 0} → ReaderRules V Verdict → (ℕ → Verdict → WorkNow → WorkNow) → ℕ → ReadOn V → (ℕ → WorkNow → Scanned V) → ℕ → WorkNow → Scanned V
slot_read w classify id x later n r =
    slot_stays (w.outcome x.reader) (record { id = id; reader = x.reader })
    (later (places_after (w.outcome x.reader) n) (classify_final classify id (w.outcome x.reader) (with_transport x.transport r)))

abbrev pub scan_slots : {V : Type 0} → ReaderRules V Verdict → (ℕ → Verdict → WorkNow → WorkNow) → ℕ → List (Slot V) → WorkNow → Scanned V
scan_slots w classify n [] r = record { read = []; rest = []; work = r }
scan_slots w classify zero (x ∷ xs) r = record { read = []; rest = x ∷ xs; work = r }
scan_slots w classify (suc n) (x ∷ xs) r =
    unless_fault r.dispatched.fault
    (slot_read w classify x.id (read_on w x.id x.reader r.transport) (λ m u. scan_slots w classify m xs u) n r)
    (record { read = []; rest = x ∷ xs; work = r })

-- up to a fault, those that were read and stay are the first of all that are left, as many as there are places
module _ {V : Type 0} (w : ReaderRules V Verdict) (classify : ℕ → Verdict → WorkNow → WorkNow) where
  abbrev FirstStay : ℕ → Scanned V → Type 0
  FirstStay n y = y.work.dispatched.fault ≡ None → take n (map (λ (x : Slot V). x.id) (y.read ++ y.rest)) ≡ map (λ (x : Slot V). x.id) y.read

  first-stays : (v : Verdict) (n : ℕ) (x : Slot V) (y : Scanned V) → FirstStay (places_after v n) y → FirstStay (suc n) (slot_stays v x y)
  first-stays verdicts.Incomplete n x y h e = ap (λ ks. x.id ∷ ks) (h e)
  first-stays (verdicts.Control offset) n x y h e = h e
  first-stays (verdicts.Encoder offset) n x y h e = h e
  first-stays (verdicts.Decoder offset) n x y h e = h e
  first-stays (verdicts.WebTransport session offset) n x y h e = h e
  first-stays (verdicts.Request fields offset) n x y h e = h e
  first-stays (verdicts.Refused code) n x y h e = h e
  first-stays verdicts.Dropped n x y h e = h e
  first-stays (verdicts.Fault code) n x y h e = h e

  pub first-read : (n : ℕ) (xs : List (Slot V)) (r : WorkNow) → FirstStay n (scan_slots w classify n xs r)
  first-read zero [] r = λ e. refl
  first-read (suc n) [] r = λ e. refl
  first-read zero (x ∷ xs) r = λ e. refl
  first-read (suc n) (x ∷ xs) r = by r.dispatched.fault refl (read_on w x.id x.reader r.transport) (λ m u. first-read m xs u)
    where
      by : (o : Option ErrorCode) → r.dispatched.fault ≡ o → (y : ReadOn V) → ((m : ℕ) (u : WorkNow) → FirstStay m (scan_slots w classify m xs u))
          → FirstStay (suc n) (unless_fault o (slot_read w classify x.id y (λ m u. scan_slots w classify m xs u) n r) (record { read = []; rest = x ∷ xs; work = r }))
      by None e y again = first-stays (w.outcome y.reader) n (record { id = x.id; reader = y.reader }) _ (again (places_after (w.outcome y.reader) n) _)
      by (Some code) e y again = λ f. absurd (let none = sym e ∙ f in cc)

module _ {V : Type 0} (w : ReaderRules V Verdict) (classify : ℕ → Verdict → WorkNow → WorkNow) (kind : ℕ) where
  -- those that wait come to the same
  pub record WaitingSame (n left next : ℕ) (z : ScannedNow V) (y : Scanned V) : Type 0 where
    pub reading : z.reading ≡ y.read
    pub work : z.work ≡ y.work
    pub from : next ≤ z.next
    pub upto : z.next ≤ next + left
    pub rest : y.rest ≡ fresh_slots w kind z.next (next + left - z.next)
    pub few : length z.reading ≤ n

  all-left : (next left : ℕ) → fresh_slots w kind next left ≡ fresh_slots w kind next (next + left - next)
  all-left next left = ap (fresh_slots w kind next) (let e : left ≡ next + left - next = omega arith in e)

  waiting-stays : (v : Verdict) (n left next : ℕ) (x : Slot V) (z : ScannedNow V) (y : Scanned V) → WaitingSame (places_after v n) left (suc next) z y → WaitingSame (suc n) (suc left) next (stays_now v x z) (slot_stays v x y)
  waiting-stays v n left next x z y s = by v s
    where
      less : suc next + left - z.next ≡ next + suc left - z.next
      less = (let e : suc next + left ≡ next + suc left = omega arith in ap (λ m. m - z.next) e)

      gone : (s : WaitingSame (suc n) left (suc next) z y) → WaitingSame (suc n) (suc left) next z y
      gone s = record {
        reading = s.reading;
        work = s.work;
        from = (let le = s.from in omega (arith, le));
        upto = (let le = s.upto in omega (arith, le));
        rest = s.rest ∙ ap (fresh_slots w kind z.next) less;
        few = s.few;
      }

      by : (c : Verdict) → WaitingSame (places_after c n) left (suc next) z y → WaitingSame (suc n) (suc left) next (stays_now c x z) (slot_stays c x y)
      by verdicts.Incomplete s = record {
        reading = ap (λ xs. x ∷ xs) s.reading;
        work = s.work;
        from = (let le = s.from in omega (arith, le));
        upto = (let le = s.upto in omega (arith, le));
        rest = s.rest ∙ ap (fresh_slots w kind z.next) less;
        few = (let le = s.few in omega (arith, le));
      }
      by (verdicts.Control offset) s = gone s
      by (verdicts.Encoder offset) s = gone s
      by (verdicts.Decoder offset) s = gone s
      by (verdicts.WebTransport session offset) s = gone s
      by (verdicts.Request fields offset) s = gone s
      by (verdicts.Refused code) s = gone s
      by verdicts.Dropped s = gone s
      by (verdicts.Fault code) s = gone s

  unmoved : (n left next : ℕ) (r : WorkNow) → WaitingSame n left next (record { reading = []; next = next; work = r }) (record { read = []; rest = fresh_slots w kind next left; work = r })
  unmoved n left next r = record { reading = refl; work = refl; from = omega arith; upto = omega arith; rest = all-left next left; few = omega arith }

  pub waiting-same : (n left next : ℕ) (r : WorkNow) → WaitingSame n left next (scan_waiting w classify kind n left next r) (scan_slots w classify n (fresh_slots w kind next left) r)
  waiting-same zero zero next r = unmoved 0 0 next r
  waiting-same zero (suc left) next r = unmoved 0 (suc left) next r
  waiting-same (suc n) zero next r = unmoved (suc n) 0 next r
  waiting-same (suc n) (suc left) next r = by r.dispatched.fault (read_on w (4 * next + kind) w.start r.transport) (λ m u. waiting-same m left (suc next) u)
    where
      by : (o : Option ErrorCode) (x : ReadOn V) → ((m : ℕ) (u : WorkNow) → WaitingSame m left (suc next) (scan_waiting w classify kind m left (suc next) u) (scan_slots w classify m (fresh_slots w kind (suc next) left) u))
          → WaitingSame (suc n) (suc left) next
          (unless_over o (after_slot w classify (4 * next + kind) x (λ m u. scan_waiting w classify kind m left (suc next) u) n r) (record { reading = []; next = next; work = r }))
          (unless_fault o (slot_read w classify (4 * next + kind) x (λ m u. scan_slots w classify m (fresh_slots w kind (suc next) left) u) n r)
          (record { read = []; rest = fresh_slots w kind next (suc left); work = r }))
      by None x again = waiting-stays (w.outcome x.reader) n left next (record { id = 4 * next + kind; reader = x.reader }) _ _ (again (places_after (w.outcome x.reader) n) _)
      by (Some code) x again = unmoved (suc n) (suc left) next r

  -- ---- those that are read, and then those that wait

  pub record ReadingSame (n left next : ℕ) (xs : List (Slot V)) (z : ScannedNow V) (y : Scanned V) : Type 0 where
    pub slots : z.reading ++ fresh_slots w kind z.next (next + left - z.next) ≡ y.read ++ y.rest
    pub work : z.work ≡ y.work
    pub from : next ≤ z.next
    pub upto : z.next ≤ next + left
    pub few : length xs ≤ n → length z.reading ≤ n
    pub reading : length xs ≤ n → y.work.dispatched.fault ≡ None → z.reading ≡ y.read

  reading-stays : (v : Verdict) (n left next : ℕ) (x y : Slot V) (xs : List (Slot V)) (z : ScannedNow V) (t : Scanned V) → ReadingSame (places_after v n) left next xs z t → ReadingSame (suc n) left next (y ∷ xs) (stays_now v x z) (slot_stays v x t)
  reading-stays v n left next x y xs z t s = by v s
    where
      gone : ReadingSame (suc n) left next xs z t → ReadingSame (suc n) left next (y ∷ xs) z t
      gone s = record { slots = s.slots; work = s.work; from = s.from; upto = s.upto; few = λ le. s.few (omega (arith, le)); reading = λ le e. s.reading (omega (arith, le)) e }

      by : (c : Verdict) → ReadingSame (places_after c n) left next xs z t → ReadingSame (suc n) left next (y ∷ xs) (stays_now c x z) (slot_stays c x t)
      by verdicts.Incomplete s = record {
        slots = ap (λ zs. x ∷ zs) s.slots;
        work = s.work;
        from = s.from;
        upto = s.upto;
        few = λ le. (let less = s.few (omega (arith, le)) in omega (arith, less));
        reading = λ le e. ap (λ zs. x ∷ zs) (s.reading (omega (arith, le)) e);
      }
      by (verdicts.Control offset) s = gone s
      by (verdicts.Encoder offset) s = gone s
      by (verdicts.Decoder offset) s = gone s
      by (verdicts.WebTransport session offset) s = gone s
      by (verdicts.Request fields offset) s = gone s
      by (verdicts.Refused code) s = gone s
      by verdicts.Dropped s = gone s
      by (verdicts.Fault code) s = gone s

  pub reading-same : (n left next : ℕ) (xs : List (Slot V)) (r : WorkNow) → ReadingSame n left next xs (scan_reading w classify kind n left next xs r) (scan_slots w classify n (xs ++ fresh_slots w kind next left) r)
  reading-same n left next [] r =
      let s = waiting-same n left next r in
      record {
        slots = (λ i. s.reading i ++ sym s.rest i);
        work = s.work;
        from = s.from;
        upto = s.upto;
        few = λ le. s.few;
        reading = λ le e. s.reading;
      }
  reading-same zero left next (x ∷ xs) r = record {
    slots = ap (λ ys. x ∷ xs ++ ys) (sym (all-left next left));
    work = refl;
    from = omega arith;
    upto = omega arith;
    few = λ le. le;
    reading = λ le e. absurd (omega (arith, le));
  }
  reading-same (suc n) left next (x ∷ xs) r = by r.dispatched.fault refl (read_on w x.id x.reader r.transport) (λ m u. reading-same m left next xs u)
    where
      by : (o : Option ErrorCode) → r.dispatched.fault ≡ o → (y : ReadOn V) → ((m : ℕ) (u : WorkNow) → ReadingSame m left next xs (scan_reading w classify kind m left next xs u) (scan_slots w classify m (xs ++ fresh_slots w kind next left) u))
          → ReadingSame (suc n) left next (x ∷ xs)
          (unless_over o (after_slot w classify x.id y (λ m u. scan_reading w classify kind m left next xs u) n r) (record { reading = x ∷ xs; next = next; work = r }))
          (unless_fault o (slot_read w classify x.id y (λ m u. scan_slots w classify m (xs ++ fresh_slots w kind next left) u) n r)
          (record { read = []; rest = x ∷ xs ++ fresh_slots w kind next left; work = r }))
      by None e y again = reading-stays (w.outcome y.reader) n left next (record { id = x.id; reader = y.reader }) x xs _ _ (again (places_after (w.outcome y.reader) n) _)
      by (Some code) e y again = record {
        slots = ap (λ ys. x ∷ xs ++ ys) (sym (all-left next left));
        work = refl;
        from = omega arith;
        upto = omega arith;
        few = λ le. le;
        reading = λ le f. absurd (let no_ = sym e ∙ f in cc);
      }
