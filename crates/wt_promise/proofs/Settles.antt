-- A pass over the peer's streams reads and classifies all that can be.
use Rattle.std.specs.Prelude.{[], ◌%◌, ◌&&◌, ◌*◌, ◌++◌, ◌+◌, ◌/◌, ◌<◌, ◌==◌, ◌∷◌, ◌||◌, ◌≡◌, ◌≤◌, Bool, List, None, Option, Some, false, filter, if◌then◌else◌, is_some, length, nat_lt, not, suc, true, zero, ℕ}
use Rattle.std.specs.List.{list_all, list_any}
use Rattle.std.specs.Option.{option_or}
use Rattle.std.proofs.Common.{◌∙◌, ap, arith, refl, subst, sym}
use Rattle.std.proofs.lemmas.Bool.{eq-eqb, eqb-true, lt-ltb, ltb-false, ltb-true}
use Rattle.std.proofs.lemmas.List.Folds.{list_any-append}
use Rattle.wt_meaning.specs.Findings.{Classified, Dequeued, Finding, dequeues, fault_in, fault_of, is_classified, is_dequeued, verdict_in, verdict_of}
use Rattle.wt_meaning.specs.History.{History}
use Rattle.wt_meaning.specs.Moments.{Check, Classify, Dequeue, after_checks, classified_as, found_by, ids_from, keeps, stream_checks, stream_fault, unclassified_before, verdict}
use Rattle.wt_promise.proofs.Fresh.{nth-of}
use Rattle.wt_promise.proofs.Grows.{first_of-append, of-stream-fault}
use Rattle.wt_promise.proofs.Passes.{each-keeps, goes-on, is-of, looks-at, none-read, none-shown, option-none, same-read, same-shown, stopped, touches-not}
use Rattle.wt_promise.specs.Found.{ShownBy, can_set_up, peer_opened}
use Rattle.wt_proto.specs.Uni.{is_final}
use Rattle.wt_proto.specs.declared.verdict.Verdict.{Verdict}
use Rattle.wt_wire.specs.declared.error.ErrorCode.{ErrorCode}
use Rattle.wt_wire.specs.declared.side.Side.{Side}
use Rattle.wt_proto.specs.declared.verdict.Verdict.TheVariants as verdicts

-- ---- how many lower streams aren't classified

-- how many of the `count` streams of a kind from the n-th on aren't classified
abbrev pub open-ones : List Finding → ℕ → ℕ → ℕ → ℕ
open-ones found kind n count = length (filter (λ (j : ℕ). not (is_classified found j)) (ids_from kind n count))

if-le : (a b : Bool) (m n : ℕ) → (b ≡ true → a ≡ true) → m ≤ n → (if not a then suc m else m) ≤ (if not b then suc n else n)
if-le true true m n f l = l
if-le true false m n f l = omega (arith, l)
if-le false true m n f l = absurd (let r = f refl in cc r)
if-le false false m n f l = omega (arith, l)

filter-length : (b : Bool) (k : ℕ) (ks : List ℕ) → length (if b then k ∷ ks else ks) ≡ (if b then suc (length ks) else length ks)
filter-length true k ks = refl
filter-length false k ks = refl

pub classified-more : (found new : List Finding) (k : ℕ) → is_classified found k ≡ true → is_classified (found ++ new) k ≡ true
classified-more found new k e = ap is_some (first_of-append (verdict_in k) found new) ∙ by (verdict_of found k) e
  where
    by : (o : Option Verdict) → is_some o ≡ true → is_some (option_or o (verdict_of new k)) ≡ true
    by None e = absurd (cc e)
    by (Some v) e = refl

pub fewer-open : (found new : List Finding) (kind count n : ℕ) → open-ones (found ++ new) kind n count ≤ open-ones found kind n count
fewer-open found new kind zero n = omega arith
fewer-open found new kind (suc count) n =
    rw (
      filter-length (not (is_classified (found ++ new) (4 * n + kind))) (4 * n + kind) (filter (λ (j : ℕ). not (is_classified (found ++ new) j)) (ids_from kind (suc n) count)),
      filter-length (not (is_classified found (4 * n + kind))) (4 * n + kind) (filter (λ (j : ℕ). not (is_classified found j)) (ids_from kind (suc n) count)),
    )
    (if-le (is_classified (found ++ new) (4 * n + kind)) (is_classified found (4 * n + kind)) _ _ (classified-more found new (4 * n + kind)) (fewer-open found new kind count (suc n)))

pub same-open : (found new : List Finding) (kind count n : ℕ) → ((i : ℕ) → n ≤ i → i < n + count → list_any (is-of (4 * i + kind)) new ≡ false) → open-ones (found ++ new) kind n count ≡ open-ones found kind n count
same-open found new kind zero n f = refl
same-open found new kind (suc count) n f =
    let here : is_classified (found ++ new) (4 * n + kind) ≡ is_classified found (4 * n + kind) = ap is_some (same-shown found new (4 * n + kind) (f n (omega arith) (omega arith))) in
    let rest = same-open found new kind count (suc n) (λ i a b. f i (omega (arith, a)) (omega (arith, b))) in
    filter-length (not (is_classified (found ++ new) (4 * n + kind))) (4 * n + kind) (filter (λ (j : ℕ). not (is_classified (found ++ new) j)) (ids_from kind (suc n) count))
    ∙ ap (λ (b : Bool). if not b then suc (open-ones (found ++ new) kind (suc n) count) else open-ones (found ++ new) kind (suc n) count) here
    ∙ ap (λ (m : ℕ). if not (is_classified found (4 * n + kind)) then suc m else m) rest
    ∙ sym (filter-length (not (is_classified found (4 * n + kind))) (4 * n + kind) (filter (λ (j : ℕ). not (is_classified found j)) (ids_from kind (suc n) count)))

pub more-open : (found : List Finding) (kind count total n : ℕ) → count ≤ total → open-ones found kind n count ≤ open-ones found kind n total
more-open found kind zero total n l = omega arith
more-open found kind (suc count) zero n l = absurd (omega (arith, l))
more-open found kind (suc count) (suc total) n l =
    rw (
      filter-length (not (is_classified found (4 * n + kind))) (4 * n + kind) (filter (λ (j : ℕ). not (is_classified found j)) (ids_from kind (suc n) count)),
      filter-length (not (is_classified found (4 * n + kind))) (4 * n + kind) (filter (λ (j : ℕ). not (is_classified found j)) (ids_from kind (suc n) total)),
    )
    (if-le (is_classified found (4 * n + kind)) (is_classified found (4 * n + kind)) _ _ (λ e. e) (more-open found kind count total (suc n) (omega (arith, l))))

less-lt : (a b n : ℕ) → a ≤ b → nat_lt b n ≡ true → nat_lt a n ≡ true
less-lt a b n l e = lt-ltb a n (let m = ltb-true b n e in omega (arith, l, m))

-- ---- what holds of what was found, at any time

pub record KeptStreams (side : Side) (h : History) (found : List Finding) : Type 0 where
  pub shown : (k : ℕ) (v : Verdict) → verdict_of found k ≡ Some v → (is_dequeued found k ≡ true) × ShownBy side h k v
  pub read : (k : ℕ) → is_dequeued found k ≡ true → ((can_set_up side h && nat_lt (unclassified_before found k) 4) ≡ true) × (peer_opened side h k ≡ true)

abbrev pub test-opened : Side → History → Check → Bool
test-opened side h (Dequeue k) = peer_opened side h k
test-opened side h (Classify k) = peer_opened side h k
test-opened side h _ = true

slot : (c : Bool) (a b : ℕ) → a ≤ b → (c && nat_lt b 4) ≡ true → (c && nat_lt a 4) ≡ true
slot true a b l e = less-lt a b 4 l e
slot false a b l e = absurd (cc e)

pub read-more : (found new : List Finding) (k : ℕ) → is_dequeued found k ≡ true → is_dequeued (found ++ new) k ≡ true
read-more found new k e = list_any-append (dequeues k) found new ∙ ap (λ (b : Bool). b || is_dequeued new k) e

either : {P : Type 0} (a b : Bool) → (a || b) ≡ true → (a ≡ true → P) → (b ≡ true → P) → P
either true b e f g = f refl
either false b e f g = g e

no-header : (k : ℕ) (found : List Finding) (v : Verdict) → list_any (is-of k) (stream_fault found v) ≡ false
no-header k = of-stream-fault (λ (fs : List Finding). list_any (is-of k) fs ≡ false) refl (λ code. refl)

module _ (side : Side) (h : History) where
  -- of what was read before, what holds of it stays
  read-stays : (found new : List Finding) (j : ℕ) → KeptStreams side h found → is_dequeued found j ≡ true → ((can_set_up side h && nat_lt (unclassified_before (found ++ new) j) 4) ≡ true) × (peer_opened side h j ≡ true)
  read-stays found new j g e =
      let r = g.read j e in (slot (can_set_up side h) (unclassified_before (found ++ new) j) (unclassified_before found j) (fewer-open found new (j % 4) (j / 4) 0) r.0, r.1)

  -- what isn't of a stream leaves what is known of it
  pub kept-apart : (found new : List Finding) → ((k : ℕ) → list_any (is-of k) new ≡ false) → KeptStreams side h found → KeptStreams side h (found ++ new)
  kept-apart found new none g = record {
    shown = λ k v e. let r = g.shown k v (sym (same-shown found new k (none k)) ∙ e) in (read-more found new k r.0, r.1);
    read = λ k e. read-stays found new k g (sym (same-read found new k (none k)) ∙ e);
  }

  kept-read : (found : List Finding) (k : ℕ) → KeptStreams side h found → peer_opened side h k ≡ true → (can_set_up side h && nat_lt (unclassified_before found k) 4) ≡ true → KeptStreams side h (found ++ Dequeued k ∷ [])
  kept-read found k g o r = record {
    shown = λ j v e.
        let q = g.shown j v (sym (first_of-append (verdict_in j) found (Dequeued k ∷ []) ∙ option-none (verdict_of found j)) ∙ e) in (read-more found (Dequeued k ∷ []) j q.0, q.1);
    read = λ j e. either (is_dequeued found j) (dequeues j (Dequeued k) || false) (sym (list_any-append (dequeues j) found (Dequeued k ∷ [])) ∙ e)
        (λ q. read-stays found (Dequeued k ∷ []) j g q)
        (λ q. either (k == j) false q
        (λ s. let i : k ≡ j = eqb-true k j s in (
          slot (can_set_up side h) (unclassified_before (found ++ Dequeued k ∷ []) j) (unclassified_before found j) (fewer-open found (Dequeued k ∷ []) (j % 4) (j / 4) 0)
              (ap (λ (m : ℕ). can_set_up side h && nat_lt (unclassified_before found m) 4) (sym i) ∙ r),
          ap (peer_opened side h) (sym i) ∙ o,
        )) (λ s. absurd (cc s)));
  }

  kept-shown : (found more : List Finding) (k : ℕ) (v : Verdict) (b : Bool) → KeptStreams side h found → ((j : ℕ) → list_any (is-of j) more ≡ false) → is_dequeued found k ≡ true → ShownBy side h k v
      → KeptStreams side h (found ++ (Classified k v b ∷ more))
  kept-shown found more k v b g none d s = record {
    shown = λ j w e. (read-more found new j (of j w e).0, (of j w e).1);
    read = λ j e. read-stays found new j g (either (is_dequeued found j) (is_dequeued more j) (sym (list_any-append (dequeues j) found new) ∙ e) (λ q. q) (λ q. absurd (let r = sym (none-of j) ∙ q in cc r)));
  }
    where
      new : List Finding
      new = Classified k v b ∷ more

      none-of : (j : ℕ) → is_dequeued more j ≡ false
      none-of j = none-read j more (none j)

      of : (j : ℕ) (w : Verdict) → verdict_of (found ++ new) j ≡ Some w → (is_dequeued found j ≡ true) × ShownBy side h j w
      of j w e = by (verdict_of found j) refl (sym (first_of-append (verdict_in j) found new) ∙ e)
        where
          here : (same : Bool) → (k == j) ≡ same → option_or (if same then Some v else None) (verdict_of more j) ≡ Some w → (is_dequeued found j ≡ true) × ShownBy side h j w
          here true q x = let i : k ≡ j = eqb-true k j q in let y : v ≡ w = cc x in (ap (is_dequeued found) (sym i) ∙ d, subst (λ (n : ℕ). ShownBy side h n w) i (subst (λ (z : Verdict). ShownBy side h k z) y s))
          here false q x = absurd (let r = sym (none-shown j more (none j)) ∙ x in cc r)

          by : (o : Option Verdict) → verdict_of found j ≡ o → option_or o (verdict_of new j) ≡ Some w → (is_dequeued found j ≡ true) × ShownBy side h j w
          by (Some x) q r = g.shown j w (q ∙ r)
          by None q r = here (k == j) refl r

  pub kept-check : (found : List Finding) (c : Check) → test-opened side h c ≡ true → KeptStreams side h found → KeptStreams side h (found ++ found_by side h found c)
  kept-check found (Dequeue k) o g = by (is_dequeued found k) (can_set_up side h) (nat_lt (unclassified_before found k) 4) refl refl
    where
      by : (d c l : Bool) → can_set_up side h ≡ c → nat_lt (unclassified_before found k) 4 ≡ l → KeptStreams side h (found ++ (if not d && c && l then Dequeued k ∷ [] else []))
      by false true true e f = kept-read found k g o (ap (λ (b : Bool). b && nat_lt (unclassified_before found k) 4) e ∙ f)
      by false true false e f = kept-apart found [] (λ j. refl) g
      by false false l e f = kept-apart found [] (λ j. refl) g
      by true c l e f = kept-apart found [] (λ j. refl) g
  kept-check found (Classify k) o g = by (is_dequeued found k) (is_classified found k) refl
    where
      shows : (v : Verdict) → verdict h k ≡ v → is_dequeued found k ≡ true → KeptStreams side h (found ++ classified_as h found k v)
      shows verdicts.Incomplete e d = kept-apart found [] (λ j. refl) g
      shows v e d = kept-shown found (stream_fault found v) k v (keeps h found v) g (λ j. no-header j found v) d (record { opened = o; shown = e; final = refl })

      by : (d c : Bool) → is_dequeued found k ≡ d → KeptStreams side h (found ++ (if d && not c then classified_as h found k (verdict h k) else []))
      by true false e = shows (verdict h k) refl e
      by true true e = kept-apart found [] (λ j. refl) g
      by false c e = kept-apart found [] (λ j. refl) g
  kept-check found c o g = kept-apart found (found_by side h found c) (λ k. touches-not side h found k c refl) g

-- ---- a stream is settled once a pass went over it

-- the n-th stream of the kind is read and classified as far as it can be
pub record SettledAt (side : Side) (h : History) (found : List Finding) (kind n : ℕ) : Type 0 where
  pub read : is_dequeued found (4 * n + kind) ≡ (can_set_up side h && nat_lt (open-ones found kind 0 n) 4)
  pub classified : is_classified found (4 * n + kind) ≡ (is_dequeued found (4 * n + kind) && is_final (verdict h (4 * n + kind)))

module _ (side : Side) (h : History) where
  -- what is of no stream up to it leaves it settled
  settled-keep : (found new : List Finding) (kind n : ℕ) → ((i : ℕ) → i < suc n → list_any (is-of (4 * i + kind)) new ≡ false) → SettledAt side h found kind n → SettledAt side h (found ++ new) kind n
  settled-keep found new kind n none g =
      let d = same-read found new (4 * n + kind) (none n (omega arith)) in
      record {
        read = d ∙ g.read ∙ ap (λ (m : ℕ). can_set_up side h && nat_lt m 4) (sym (same-open found new kind n 0 (λ i a b. none i (omega (arith, b)))));
        classified =
            ap is_some (same-shown found new (4 * n + kind) (none n (omega arith))) ∙ g.classified
            ∙ ap (λ (b : Bool). b && is_final (verdict h (4 * n + kind))) (sym d);
      }

  -- the check isn't of this kind
  abbrev pub other-kind : ℕ → Check → Bool
  other-kind kind (Dequeue k) = not (k % 4 == kind)
  other-kind kind (Classify k) = not (k % 4 == kind)
  other-kind kind _ = true

  other-id : (kind i k : ℕ) → kind < 4 → not (k % 4 == kind) ≡ true → (k == 4 * i + kind) ≡ false
  other-id kind i k l e = by (k == 4 * i + kind) refl
    where
      by : (b : Bool) → (k == 4 * i + kind) ≡ b → b ≡ false
      by true q =
          absurd (let s : (k % 4 == kind) ≡ true = eq-eqb (k % 4) kind (ap (λ (m : ℕ). m % 4) (eqb-true k (4 * i + kind) q) ∙ (nth-of i kind l).1) in
          let r : not (k % 4 == kind) ≡ false = ap not s in let t : true ≡ false = sym e ∙ r in cc t)
      by false q = refl

  other-looks : (kind i : ℕ) → kind < 4 → (c : Check) → other-kind kind c ≡ true → looks-at (4 * i + kind) c ≡ false
  other-looks kind i l (Dequeue k) e = other-id kind i k l e
  other-looks kind i l (Classify k) e = other-id kind i k l e
  other-looks kind i l c e = refl

  pub settled-stays : (kind n : ℕ) → kind < 4 → (cs : List Check) (found : List Finding) → list_all (other-kind kind) cs ≡ true → SettledAt side h found kind n → SettledAt side h (after_checks side h cs found) kind n
  settled-stays kind n l cs found =
      each-keeps side h (λ (f : List Finding). SettledAt side h f kind n) (other-kind kind)
      (λ f c t e g. settled-keep f (found_by side h f c) kind n (λ i b. touches-not side h f (4 * i + kind) c (other-looks kind i l c t)) g) cs found

  -- ---- both checks of a stream

  module _ (found : List Finding) (kind n : ℕ) (l : kind < 4) (g : KeptStreams side h found) (o : peer_opened side h (4 * n + kind) ≡ true) where
    abbrev pub k : ℕ
    k = 4 * n + kind

    abbrev pub once-read : List Finding
    once-read = found ++ found_by side h found (Dequeue k)

    abbrev pub once-shown : List Finding
    once-shown = once-read ++ found_by side h once-read (Classify k)

    kept-both : KeptStreams side h once-shown
    kept-both = kept-check side h once-read (Classify k) o (kept-check side h found (Dequeue k) o g)

    ones-is : (f : List Finding) → unclassified_before f k ≡ open-ones f kind 0 n
    ones-is f = let q = nth-of n kind l in rw (q.0, q.1) refl

    same-self : (k == k) ≡ true
    same-self = eq-eqb k k refl

    is-read : is_dequeued once-read k ≡ (can_set_up side h && nat_lt (open-ones found kind 0 n) 4)
    is-read = by (is_dequeued found k) (can_set_up side h) (nat_lt (unclassified_before found k) 4) refl refl refl ∙ ap (λ (m : ℕ). can_set_up side h && nat_lt m 4) (ones-is found)
      where
        by : (d c r : Bool) → is_dequeued found k ≡ d → can_set_up side h ≡ c → nat_lt (unclassified_before found k) 4 ≡ r
            → is_dequeued (found ++ (if not d && c && r then Dequeued k ∷ [] else [])) k ≡ (c && r)
        by d c r x y z = list_any-append (dequeues k) found _ ∙ of d c r x y z
          where
            of : (d c r : Bool) → is_dequeued found k ≡ d → can_set_up side h ≡ c → nat_lt (unclassified_before found k) 4 ≡ r
                → (is_dequeued found k || is_dequeued (if not d && c && r then Dequeued k ∷ [] else []) k) ≡ (c && r)
            of true c r x y z = ap (λ (b : Bool). b || is_dequeued (if not true && c && r then Dequeued k ∷ [] else []) k) x ∙ sym (ap (λ (b : Bool). b && r) (sym y) ∙ ap (λ (b : Bool). can_set_up side h && b) (sym z) ∙ (g.read k x).0)
            of false true true x y z = rw (x, same-self) refl
            of false true false x y z = rw x refl
            of false false r x y z = rw x refl

    g-read : KeptStreams side h once-read
    g-read = kept-check side h found (Dequeue k) o g

    no-dequeue : (v : Verdict) → is_dequeued (classified_as h once-read k v) k ≡ false
    no-dequeue verdicts.Incomplete = refl
    no-dequeue v = of-stream-fault (λ (fs : List Finding). is_dequeued fs k ≡ false) refl (λ code. refl) once-read v

    still-read : is_dequeued once-shown k ≡ is_dequeued once-read k
    still-read = list_any-append (dequeues k) once-read _ ∙ by (is_dequeued once-read k) (is_classified once-read k)
      where
        or-false : (b : Bool) → (b || false) ≡ b
        or-false true = refl
        or-false false = refl

        by : (d c : Bool) → (is_dequeued once-read k || is_dequeued (if d && not c then classified_as h once-read k (verdict h k) else []) k) ≡ is_dequeued once-read k
        by true false = ap (λ (b : Bool). is_dequeued once-read k || b) (no-dequeue (verdict h k)) ∙ or-false (is_dequeued once-read k)
        by true true = or-false (is_dequeued once-read k)
        by false c = or-false (is_dequeued once-read k)

    as-shown : (v : Verdict) → is_some (verdict_of (classified_as h once-read k v) k) ≡ is_final v
    as-shown verdicts.Incomplete = refl
    as-shown v = rw same-self refl

    is-shown : is_classified once-shown k ≡ (is_dequeued once-shown k && is_final (verdict h k))
    is-shown =
        ap is_some (first_of-append (verdict_in k) once-read _) ∙ by (is_dequeued once-read k) (verdict_of once-read k) refl refl
        ∙ ap (λ (b : Bool). b && is_final (verdict h k)) (sym still-read)
      where
        by : (d : Bool) (x : Option Verdict) → is_dequeued once-read k ≡ d → verdict_of once-read k ≡ x
            → is_some (option_or (verdict_of once-read k) (verdict_of (if d && not (is_some x) then classified_as h once-read k (verdict h k) else []) k)) ≡ (is_dequeued once-read k && is_final (verdict h k))
        by d (Some w) e f =
            let r = g-read.shown k w f in
            ap (λ (y : Option Verdict). is_some (option_or y (verdict_of (if d && false then classified_as h once-read k (verdict h k) else []) k))) f ∙ sym (rw (r.0, r.1.shown) r.1.final)
        by true None e f = rw (e, f) (as-shown (verdict h k))
        by false None e f = rw (e, f) refl

    no-fault-yet : fault_of found ≡ None → fault_of once-read ≡ None
    no-fault-yet e = first_of-append fault_in found _ ∙ ap (λ (f : Option ErrorCode). option_or f (fault_of (found_by side h found (Dequeue k)))) e ∙ by (not (is_dequeued found k) && can_set_up side h && nat_lt (unclassified_before found k) 4)
      where
        by : (b : Bool) → fault_of (if b then Dequeued k ∷ [] else []) ≡ None
        by true = refl
        by false = refl

    pub two-steps : (later : List Check) → fault_of found ≡ None → after_checks side h (Dequeue k ∷ Classify k ∷ later) found ≡ after_checks side h later once-shown
    two-steps later e = goes-on side h (Dequeue k) (Classify k ∷ later) found e ∙ goes-on side h (Classify k) later once-read (no-fault-yet e)

    apart : (i : ℕ) → i < n → (4 * n + kind == 4 * i + kind) ≡ false
    apart i b = by (4 * n + kind == 4 * i + kind) refl
      where
        by : (x : Bool) → (4 * n + kind == 4 * i + kind) ≡ x → x ≡ false
        by true e = absurd (let q = eqb-true (4 * n + kind) (4 * i + kind) e in omega (arith, q, b))
        by false e = refl

    before-stay : (i : ℕ) → i < n → SettledAt side h found kind i → SettledAt side h once-shown kind i
    before-stay i b s =
        settled-keep once-read (found_by side h once-read (Classify k)) kind i (λ j c. touches-not side h once-read (4 * j + kind) (Classify k) (apart j (omega (arith, b, c))))
        (settled-keep found (found_by side h found (Dequeue k)) kind i (λ j c. touches-not side h found (4 * j + kind) (Dequeue k) (apart j (omega (arith, b, c)))) s)

    pub settled-now : SettledAt side h once-shown kind n
    settled-now = record {
      read =
          still-read ∙ is-read
          ∙ ap (λ (m : ℕ). can_set_up side h && nat_lt m 4)
          (sym (same-open found (found_by side h found (Dequeue k)) kind n 0 (λ j a c. touches-not side h found (4 * j + kind) (Dequeue k) (apart j (omega (arith, c)))))
          ∙ sym (same-open once-read (found_by side h once-read (Classify k)) kind n 0 (λ j a c. touches-not side h once-read (4 * j + kind) (Classify k) (apart j (omega (arith, c))))));
      classified = is-shown;
    }

  -- ---- the checks of all streams of a kind

  pub settle : (kind : ℕ) → kind < 4 → (count n : ℕ) (found : List Finding) → KeptStreams side h found → ((i : ℕ) → i < n + count → peer_opened side h (4 * i + kind) ≡ true) → fault_of found ≡ None
      → ((i : ℕ) → i < n → SettledAt side h found kind i) → fault_of (after_checks side h (stream_checks (ids_from kind n count)) found) ≡ None
      → (i : ℕ) → i < n + count → SettledAt side h (after_checks side h (stream_checks (ids_from kind n count)) found) kind i
  settle kind l zero n found g o e before = λ f i b. before i (omega (arith, b))
  settle kind l (suc count) n found g o e before = by (fault_of (once-shown found kind n l g (o n (omega arith)))) refl
      (λ q. settle kind l count (suc n) (once-shown found kind n l g (o n (omega arith))) (kept-both found kind n l g (o n (omega arith))) (λ i b. o i (omega (arith, b))) q
      (λ i b. upto i b))
    where
      now : List Finding
      now = once-shown found kind n l g (o n (omega arith))

      rest : List Check
      rest = stream_checks (ids_from kind (suc n) count)

      is-now : after_checks side h (stream_checks (ids_from kind n (suc count))) found ≡ after_checks side h rest now
      is-now = two-steps found kind n l g (o n (omega arith)) rest e

      upto : (i : ℕ) → i < suc n → SettledAt side h now kind i
      upto i b = of (nat_lt i n) refl
        where
          of : (x : Bool) → nat_lt i n ≡ x → SettledAt side h now kind i
          of true q = before-stay found kind n l g (o n (omega arith)) i (ltb-true i n q) (before i (ltb-true i n q))
          of false q = let same : n ≡ i = let m = ltb-false i n q in omega (arith, m, b) in subst (λ (j : ℕ). SettledAt side h now kind j) same (settled-now found kind n l g (o n (omega arith)))

      by : (f : Option ErrorCode) → fault_of now ≡ f → (fault_of now ≡ None → fault_of (after_checks side h rest now) ≡ None → (i : ℕ) → i < suc n + count → SettledAt side h (after_checks side h rest now) kind i)
          → fault_of (after_checks side h (stream_checks (ids_from kind n (suc count))) found) ≡ None → (i : ℕ) → i < n + suc count
          → SettledAt side h (after_checks side h (stream_checks (ids_from kind n (suc count))) found) kind i
      by None q again f i b = rw is-now (again q (sym (ap fault_of is-now) ∙ f) i (omega (arith, b)))
      by (Some code) q again f i b = absurd (let r = sym (ap fault_of (is-now ∙ stopped side h rest now code q) ∙ q) ∙ f in cc r)
