-- A kind's streams: those that look by look become taken and ripe are those that a scan with places classifies.
use Rattle.std.specs.Prelude.{[], ◌%◌, ◌&&◌, ◌*◌, ◌++◌, ◌+◌, ◌-◌, ◌/◌, ◌<◌, ◌==◌, ◌∷◌, ◌||◌, ◌≡◌, ◌≤◌, Bool, List, None, Option, Some, cond, false, filter, is_some, length, nat_lt, not, suc, true, zero, ℕ}
use Rattle.std.specs.Option.{option_or}
use Rattle.std.proofs.Common.{◌∙◌, ap, arith, refl, subst, sym}
use Rattle.std.proofs.lemmas.Bool.{eq-eqb, eqb-true}
use Rattle.std.proofs.lemmas.List.{append-nil}
use Rattle.wt_meaning.specs.Findings.{Dequeued, Faulted, Finding, control_in, decoder_in, dequeues, encoder_in, fault_in, fault_of, first_of, is_classified, is_datagram, is_dequeued, reads_settings, settings_came, verdict_in}
use Rattle.wt_meaning.specs.Findings as finds
use Rattle.wt_meaning.specs.History.{History}
use Rattle.wt_meaning.specs.Moments.{Check, Classify, Dequeue, after_checks, classified_as, classifying, dequeuing, fault_if, found_by, ids_from, is_ready, keeps, stream_checks, stream_fault, unclassified_before, verdict}
use Rattle.wt_promise.proofs.Accepted.{or-true}
use Rattle.wt_proto.specs.declared.verdict.Verdict.{Verdict}
use Rattle.wt_sessions.specs.Scan.{classify, places_after, scan, with_classified}
use Rattle.wt_sessions.specs.StreamTable.{CallView, Classified, Consequence, StreamTable, TransportView, admit_or_stop, consequence, control_start, decoder_start, dispatched_streams, encoder_start, first_at, only_once}
use Rattle.wt_sessions_agree.proofs.Appends.{adds, any-append, cons-append, drops, filter-drops, filter-fewer, filter-ids, first-append, ids-more, not-same, one-if, classified-append, table-same, dequeued-append}
use Rattle.wt_sessions_agree.proofs.Basics.{or-false, or-none}
use Rattle.wt_sessions_agree.proofs.FoundLaws.{controls-agree, decoders-agree, encoders-agree}
use Rattle.wt_sessions_agree.specs.Agrees.{IsTable, admitted_in, classified_in, closed_in}
use Rattle.wt_turn.specs.declared.action.Action.{Action}
use Rattle.wt_wire.specs.declared.error.ErrorCode.{ErrorCode}
use Rattle.wt_wire.specs.declared.side.Side.{Side}
use Rattle.wt_proto.specs.declared.verdict.Verdict.TheVariants as verdicts
use Rattle.wt_wire.specs.declared.error.ErrorCode.TheVariants as h3

-- ---- a fault stops both

-- the finding of a fault, where there is one
abbrev pub faults_of : Option ErrorCode → List Finding
faults_of None = []
faults_of (Some code) = Faulted code ∷ []

pub checks-faulty : (side : Side) (h : History) (ls : List Check) (found : List Finding) (c : ErrorCode) → fault_of found ≡ Some c → after_checks side h ls found ≡ found
checks-faulty side h [] found c e = refl
checks-faulty side h (l ∷ ls) found c e = rw e refl

scan-faulty : (t : TransportView) (calls : CallView) (v : ℕ → Verdict) (n : ℕ) (ids : List ℕ) (table : StreamTable) (c : ErrorCode) → table.progress.fault ≡ Some c → scan t calls v n ids table ≡ table
scan-faulty t calls v n [] table c e = refl
scan-faulty t calls v zero (k ∷ ids) table c e = refl
scan-faulty t calls v (suc n) (k ∷ ids) table c e = rw e refl

scan-zero : (t : TransportView) (calls : CallView) (v : ℕ → Verdict) (ids : List ℕ) (table : StreamTable) → scan t calls v zero ids table ≡ table
scan-zero t calls v [] table = refl
scan-zero t calls v (k ∷ ids) table = refl

pub check-step : (side : Side) (h : History) (l : Check) (later : List Check) (found xs : List Finding) → fault_of found ≡ None → found_by side h found l ≡ xs
    → after_checks side h (l ∷ later) found ≡ after_checks side h later (found ++ xs)
check-step side h l later found xs f e = rw (f, e) refl

-- ---- the fault of a verdict is that of its consequence

pub faults-agree : (t : TransportView) (calls : CallView) (found : List Finding) (table : StreamTable) (k : ℕ) (w : Verdict) → IsTable found table
    → stream_fault found w ≡ faults_of (consequence t (dispatched_streams calls table) k w).fault
faults-agree t calls found table k (verdicts.Fault code) b = refl
faults-agree t calls found table k (verdicts.Control offset) b = by (first_of control_in found) (first_at control_start table.classified) (controls-agree found table b)
  where
    by : (x y : Option (ℕ × ℕ)) → x ≡ y → fault_if (is_some x) h3.StreamCreation ≡ faults_of (only_once y).fault
    by x None e = rw e refl
    by x (Some s) e = rw e refl
faults-agree t calls found table k (verdicts.Encoder offset) b = by (first_of encoder_in found) (first_at encoder_start table.classified) (encoders-agree found table b)
  where
    by : (x y : Option (ℕ × ℕ)) → x ≡ y → fault_if (is_some x) h3.StreamCreation ≡ faults_of (only_once y).fault
    by x None e = rw e refl
    by x (Some s) e = rw e refl
faults-agree t calls found table k (verdicts.Decoder offset) b = by (first_of decoder_in found) (first_at decoder_start table.classified) (decoders-agree found table b)
  where
    by : (x y : Option (ℕ × ℕ)) → x ≡ y → fault_if (is_some x) h3.StreamCreation ≡ faults_of (only_once y).fault
    by x None e = rw e refl
    by x (Some s) e = rw e refl
faults-agree t calls found table k (verdicts.WebTransport session offset) b = by _ _
  where
    by : (x y : Bool) → [] ≡ faults_of (admit_or_stop x y k).fault
    by true y = refl
    by false true = refl
    by false false = refl
faults-agree t calls found table k (verdicts.Request headers offset) b = by _ _ _ refl refl
  where
    by : (x : Bool) (y z : Consequence) → y.fault ≡ None → z.fault ≡ None → [] ≡ faults_of (cond x y z).fault
    by true y z e f = rw e refl
    by false y z e f = rw f refl
faults-agree t calls found table k (verdicts.Refused code) b = refl
faults-agree t calls found table k verdicts.Incomplete b = refl
faults-agree t calls found table k verdicts.Dropped b = refl

-- ---- one more ripe stream

-- without its fault
ripe-fields : (found : List Finding) (table : StreamTable) (k : ℕ) (w : Verdict) (b : Bool) (xs : List Action) → IsTable found table
    → IsTable (found ++ finds.Classified k w b ∷ []) (with_classified k w (record { admitted = b; actions = xs; fault = None }) table)
ripe-fields found table k w b xs t = record {
  classified = adds classified_in (finds.Classified k w b) _ refl found ∙ ap (λ (l : List Classified). l ++ record { id = k; verdict = w; admitted = b } ∷ []) t.classified;
  datagrams = drops admitted_in (finds.Classified k w b) refl found ∙ t.datagrams;
  closed = drops closed_in (finds.Classified k w b) refl found ∙ t.closed;
  looked_at = ap length (filter-drops is_datagram (finds.Classified k w b) refl found) ∙ t.looked_at;
  settings = any-append reads_settings found (finds.Classified k w b) ∙ or-false (settings_came found) ∙ t.settings;
  fault = first-append fault_in found (finds.Classified k w b) ∙ or-none (fault_of found) ∙ t.fault;
}

-- a fault after it
pub fault-fields : (found : List Finding) (table : StreamTable) (c : ErrorCode) → fault_of found ≡ None → IsTable found table
    → IsTable (found ++ Faulted c ∷ []) (record table { progress = record table.progress { fault = Some c } })
fault-fields found table c f t = record {
  classified = drops classified_in (Faulted c) refl found ∙ t.classified;
  datagrams = drops admitted_in (Faulted c) refl found ∙ t.datagrams;
  closed = drops closed_in (Faulted c) refl found ∙ t.closed;
  looked_at = ap length (filter-drops is_datagram (Faulted c) refl found) ∙ t.looked_at;
  settings = any-append reads_settings found (Faulted c) ∙ or-false (settings_came found) ∙ t.settings;
  fault = first-append fault_in found (Faulted c) ∙ ap (λ (o : Option ErrorCode). option_or o (Some c)) f;
}

-- the table with one more classified stream holds what was found with one more ripe stream and its fault
pub ripe-table : (found : List Finding) (table : StreamTable) (k : ℕ) (w : Verdict) (b : Bool) (xs : List Action) (o : Option ErrorCode) → fault_of found ≡ None → IsTable found table
    → IsTable ((found ++ finds.Classified k w b ∷ []) ++ faults_of o) (with_classified k w (record { admitted = b; actions = xs; fault = o }) table)
ripe-table found table k w b xs None f t =
    subst (λ (l : List Finding). IsTable l (with_classified k w (record { admitted = b; actions = xs; fault = None }) table)) (sym (append-nil (found ++ finds.Classified k w b ∷ [])))
    (ripe-fields found table k w b xs t)
ripe-table found table k w b xs (Some c) f t =
    fault-fields (found ++ finds.Classified k w b ∷ []) (with_classified k w (record { admitted = b; actions = xs; fault = None }) table) c
    (first-append fault_in found (finds.Classified k w b) ∙ or-none (fault_of found) ∙ f) (ripe-fields found table k w b xs t)

-- ---- the scan

lt-less : (a b : ℕ) → a ≤ b → nat_lt b 4 ≡ true → nat_lt a 4 ≡ true
lt-less a b l e = grind (arith, l, e)

-- what a scan keeps a stream of: its place in a window, or in the queue
abbrev pub Admits : History → TransportView → CallView → Type 0
Admits h t calls = (found : List Finding) (table : StreamTable) (k : ℕ) (w : Verdict) → IsTable found table → (consequence t (dispatched_streams calls table) k w).admitted ≡ keeps h found w

-- what the step of a kind's streams keeps, of what was found and the table
pub record ScanKeeps (h : History) (t : TransportView) (calls : CallView) (kind : ℕ) (Keeps : List Finding → StreamTable → Type 0) : Type 0 where
  pub table : (found : List Finding) (table : StreamTable) → Keeps found table → IsTable found table
  pub taken : (m : ℕ) (found : List Finding) (table : StreamTable) → fault_of found ≡ None → Keeps found table → Keeps (found ++ Dequeued (4 * m + kind) ∷ []) table
  pub ripe : (m : ℕ) (found : List Finding) (table : StreamTable) (w : Verdict) → fault_of found ≡ None → is_dequeued found (4 * m + kind) ≡ true → is_classified found (4 * m + kind) ≡ false
      → verdict h (4 * m + kind) ≡ w → Keeps found table
      → let c = consequence t (dispatched_streams calls table) (4 * m + kind) w in
      Keeps ((found ++ finds.Classified (4 * m + kind) w c.admitted ∷ []) ++ faults_of c.fault) (with_classified (4 * m + kind) w c table)

-- that the table holds what was found is kept
pub table-kept : (h : History) (t : TransportView) (calls : CallView) (kind : ℕ) → ScanKeeps h t calls kind IsTable
table-kept h t calls kind = record {
  table = λ found table holds. holds;
  taken = λ m found table f holds. table-same found table (Dequeued (4 * m + kind)) refl refl refl refl refl refl holds;
  ripe = λ m found table w f d r e holds.
      let c : Consequence = consequence t (dispatched_streams calls table) (4 * m + kind) w in ripe-table found table (4 * m + kind) w c.admitted c.actions c.fault f holds;
}

module _ (side : Side) (h : History) (t : TransportView) (calls : CallView) (v : ℕ → Verdict) (kind : ℕ) (small : kind < 4) (ready : is_ready side h ≡ true)
    (seen : (m : ℕ) → verdict h (4 * m + kind) ≡ v (4 * m + kind)) (admits : Admits h t calls)
    (Keeps : List Finding → StreamTable → Type 0) (kept : ScanKeeps h t calls kind Keeps) where
  -- the stream is unsettled
  abbrev unripe : List Finding → ℕ → Bool
  unripe found j = not (is_classified found j)

  -- so many of the first i streams are
  abbrev unsettled : List Finding → ℕ → ℕ
  unsettled found i = length (filter (unripe found) (ids_from kind 0 i))

  -- of a stream that is taken and not ripe fewer than 4 earlier ones are unsettled
  abbrev Few : List Finding → Type 0
  Few found = (i : ℕ) → is_dequeued found (4 * i + kind) ≡ true → is_classified found (4 * i + kind) ≡ false → nat_lt (unsettled found i) 4 ≡ true

  before-is : (found : List Finding) (m : ℕ) → unclassified_before found (4 * m + kind) ≡ unsettled found m
  before-is found m = let q : (4 * m + kind) % 4 ≡ kind = omega (arith, small) in let r : (4 * m + kind) / 4 ≡ m = omega (arith, small) in rw (q, r) refl

  -- what a look at whether the stream is taken leaves
  record Took (m : ℕ) (found later : List Finding) (table : StreamTable) : Type 0 where
    ripe : (j : ℕ) → is_classified later j ≡ is_classified found j
    taken : is_dequeued later (4 * m + kind) ≡ (is_dequeued found (4 * m + kind) || nat_lt (unsettled found m) 4)
    few : Few later
    holds : Keeps later table
    none : fault_of later ≡ None

  -- one more ripe stream leaves fewer unsettled
  fewer : (found later : List Finding) → ((j : ℕ) → is_classified found j ≡ true → is_classified later j ≡ true) → (i : ℕ) → unsettled later i ≤ unsettled found i
  fewer found later more i = filter-fewer (unripe found) (unripe later) (λ j q. by j (is_classified found j) refl q) (ids_from kind 0 i)
    where
      by : (j : ℕ) (b : Bool) → is_classified found j ≡ b → not (is_classified later j) ≡ true → not b ≡ true
      by j false e q = refl
      by j true e q = absurd (cc (sym q ∙ ap not (more j e)))

  -- the stream is taken now
  now-taken : (m : ℕ) (found : List Finding) (table : StreamTable) → nat_lt (unsettled found m) 4 ≡ true → fault_of found ≡ None → Few found → Keeps found table
      → Took m found (found ++ Dequeued (4 * m + kind) ∷ []) table
  now-taken m found table lt f few holds = record {
    ripe = same;
    taken = dequeued-append found (Dequeued (4 * m + kind)) (4 * m + kind) ∙ ap (λ b. is_dequeued found (4 * m + kind) || b) (self (4 * m + kind) ∙ sym lt);
    few = λ i x y. lt-less _ (unsettled found i) (fewer found (found ++ Dequeued (4 * m + kind) ∷ []) (λ j q. same j ∙ q) i)
        (by i (4 * m + kind == 4 * i + kind) refl (sym (dequeued-append found (Dequeued (4 * m + kind)) (4 * i + kind)) ∙ x) (sym (same (4 * i + kind)) ∙ y));
    holds = kept.taken m found table f holds;
    none = first-append fault_in found (Dequeued (4 * m + kind)) ∙ or-none (fault_of found) ∙ f;
  }
    where
      same : (j : ℕ) → is_classified (found ++ Dequeued (4 * m + kind) ∷ []) j ≡ is_classified found j
      same j = classified-append found (Dequeued (4 * m + kind)) j ∙ or-false (is_classified found j)

      self : (j : ℕ) → (j == j) ≡ true
      self j = eq-eqb j j refl

      by : (i : ℕ) (b : Bool) → (4 * m + kind == 4 * i + kind) ≡ b → (is_dequeued found (4 * i + kind) || (4 * m + kind == 4 * i + kind)) ≡ true → is_classified found (4 * i + kind) ≡ false
          → nat_lt (unsettled found i) 4 ≡ true
      by i true e x y = let q : 4 * m + kind ≡ 4 * i + kind = eqb-true _ _ e in let r : m ≡ i = omega (arith, q) in subst (λ (n : ℕ). nat_lt (unsettled found n) 4 ≡ true) r lt
      by i false e x y = few i (sym (or-false (is_dequeued found (4 * i + kind))) ∙ sym (ap (λ b. is_dequeued found (4 * i + kind) || b) e) ∙ x) y

  -- nothing changes
  not-taken : (m : ℕ) (found : List Finding) (table : StreamTable) → (is_dequeued found (4 * m + kind) ≡ (is_dequeued found (4 * m + kind) || nat_lt (unsettled found m) 4)) → fault_of found ≡ None
      → Few found → Keeps found table
      → Took m found (found ++ []) table
  not-taken m found table e f few holds = subst (λ (l : List Finding). Took m found l table) (sym (append-nil found)) (record { ripe = λ j. refl; taken = e; few = few; holds = holds; none = f })

  took : (m : ℕ) (found : List Finding) (table : StreamTable) → fault_of found ≡ None → Few found → Keeps found table → Took m found (found ++ dequeuing side h found (4 * m + kind)) table
  took m found table f few holds = by (is_dequeued found (4 * m + kind)) refl (nat_lt (unsettled found m) 4) refl
    where
      by : (a : Bool) → is_dequeued found (4 * m + kind) ≡ a → (b : Bool) → nat_lt (unsettled found m) 4 ≡ b → Took m found (found ++ dequeuing side h found (4 * m + kind)) table
      by false ta true lb =
          let q : dequeuing side h found (4 * m + kind) ≡ Dequeued (4 * m + kind) ∷ [] = rw (ta, ready, before-is found m, lb) refl in
          subst (λ (xs : List Finding). Took m found (found ++ xs) table) (sym q) (now-taken m found table lb f few holds)
      by true ta b lb =
          let q : dequeuing side h found (4 * m + kind) ≡ [] = rw ta refl in
          subst (λ (xs : List Finding). Took m found (found ++ xs) table) (sym q) (not-taken m found table (rw ta refl) f few holds)
      by false ta false lb =
          let q : dequeuing side h found (4 * m + kind) ≡ [] = rw (ta, ready, before-is found m, lb) refl in
          subst (λ (xs : List Finding). Took m found (found ++ xs) table) (sym q) (not-taken m found table (rw (ta, lb) refl) f few holds)

  -- ---- one stream after another

  abbrev Again : ℕ → ℕ → Type 0
  Again count m = (n : ℕ) (found : List Finding) (table : StreamTable) → n ≡ 4 - unsettled found (suc m) → Few found → Keeps found table
      → Keeps (after_checks side h (stream_checks (ids_from kind (suc m) count)) found) (scan t calls v n (filter (unripe found) (ids_from kind (suc m) count)) table)

  few-more : (found later : List Finding) → ((j : ℕ) → is_dequeued later j ≡ is_dequeued found j) → ((j : ℕ) → is_classified found j ≡ true → is_classified later j ≡ true) → Few found → Few later
  few-more found later same more few i x y = lt-less _ (unsettled found i) (fewer found later more i) (few i (sym (same (4 * i + kind)) ∙ x) (by (is_classified found (4 * i + kind)) refl))
    where
      by : (b : Bool) → is_classified found (4 * i + kind) ≡ b → b ≡ false
      by false e = refl
      by true e = absurd (cc (sym (more (4 * i + kind) e) ∙ y))

  few-fault : (found : List Finding) (o : Option ErrorCode) → Few found → Few (found ++ faults_of o)
  few-fault found None few = subst Few (sym (append-nil found)) few
  few-fault found (Some c) few =
      few-more found (found ++ Faulted c ∷ []) (λ j. dequeued-append found (Faulted c) j ∙ or-false (is_dequeued found j))
      (λ j q. classified-append found (Faulted c) j ∙ or-false (is_classified found j) ∙ q) few

  ripe-fault : (found : List Finding) (o : Option ErrorCode) (j : ℕ) → is_classified (found ++ faults_of o) j ≡ is_classified found j
  ripe-fault found None j = ap (λ (l : List Finding). is_classified l j) (append-nil found)
  ripe-fault found (Some c) j = classified-append found (Faulted c) j ∙ or-false (is_classified found j)

  few-ripe : (found : List Finding) (k : ℕ) (w : Verdict) (b : Bool) → Few found → Few (found ++ finds.Classified k w b ∷ [])
  few-ripe found k w b few =
      few-more found (found ++ finds.Classified k w b ∷ []) (λ j. dequeued-append found (finds.Classified k w b) j ∙ or-false (is_dequeued found j))
      (λ j q. classified-append found (finds.Classified k w b) j ∙ rw q refl) few

  -- other streams of the kind are as ripe as before
  others : (m i : ℕ) (found : List Finding) (w : Verdict) (b : Bool) (o : Option ErrorCode) → ((4 * m + kind == 4 * i + kind) ≡ false)
      → is_classified ((found ++ finds.Classified (4 * m + kind) w b ∷ []) ++ faults_of o) (4 * i + kind) ≡ is_classified found (4 * i + kind)
  others m i found w b o e =
      ripe-fault (found ++ finds.Classified (4 * m + kind) w b ∷ []) o (4 * i + kind) ∙ classified-append found (finds.Classified (4 * m + kind) w b) (4 * i + kind)
      ∙ rw e (or-false (is_classified found (4 * i + kind)))

  itself : (m : ℕ) (found : List Finding) (w : Verdict) (b : Bool) (o : Option ErrorCode) → is_classified ((found ++ finds.Classified (4 * m + kind) w b ∷ []) ++ faults_of o) (4 * m + kind) ≡ true
  itself m found w b o =
      ripe-fault (found ++ finds.Classified (4 * m + kind) w b ∷ []) o (4 * m + kind) ∙ classified-append found (finds.Classified (4 * m + kind) w b) (4 * m + kind)
      ∙ rw (eq-eqb (4 * m + kind) (4 * m + kind) refl) (or-true (is_classified found (4 * m + kind)))

  apart : (m i : ℕ) → ((m ≡ i) → (true ≡ false)) → (4 * m + kind == 4 * i + kind) ≡ false
  apart m i n = not-same _ _ (λ q b. n (omega (arith, q)))

  -- ---- the step

  places : (u : ℕ) → nat_lt u 4 ≡ true → (n : ℕ) → n ≡ 4 - u → (p : ℕ) × (n ≡ suc p) × (p ≡ 4 - (u + 1))
  places u l n e = (3 - u, grind (arith, l, e), grind (arith, l))

  no-places : (u : ℕ) → nat_lt u 4 ≡ false → (n : ℕ) → n ≡ 4 - u → (n ≡ 0) × (0 ≡ 4 - (u + 1))
  no-places u l n e = (grind (arith, l, e), grind (arith, l))

  ripen-none : (later : List Finding) (k : ℕ) → (is_dequeued later k && not (is_classified later k)) ≡ false → classifying h later k ≡ []
  ripen-none later k e = rw e refl

  -- a stream that doesn't become ripe
  stays : (count m n p : ℕ) (found later : List Finding) (table : StreamTable) → Took m found later table → Again count m → classifying h later (4 * m + kind) ≡ []
      → p ≡ 4 - unsettled found (suc m) → scan t calls v n (filter (unripe found) (ids_from kind m (suc count))) table ≡ scan t calls v p (filter (unripe found) (ids_from kind (suc m) count)) table
      → Keeps (after_checks side h (Classify (4 * m + kind) ∷ stream_checks (ids_from kind (suc m) count)) later) (scan t calls v n (filter (unripe found) (ids_from kind m (suc count))) table)
  stays count m n p found later table g again e q s =
      let l : after_checks side h (Classify (4 * m + kind) ∷ stream_checks (ids_from kind (suc m) count)) later ≡ after_checks side h (stream_checks (ids_from kind (suc m) count)) later
      = check-step side h (Classify (4 * m + kind)) _ later [] g.none e ∙ ap (after_checks side h (stream_checks (ids_from kind (suc m) count))) (append-nil later) in
      let u : filter (unripe later) (ids_from kind (suc m) count)
      ≡ filter (unripe found) (ids_from kind (suc m) count) = filter-ids (unripe later) (unripe found) kind (suc m) count (λ i a b. ap not (g.ripe (4 * i + kind))) in
      let c : unsettled later (suc m) ≡ unsettled found (suc m) = ap length (filter-ids (unripe later) (unripe found) kind 0 (suc m) (λ i a b. ap not (g.ripe (4 * i + kind)))) in
      rw (l, s, sym u) (again p later table (q ∙ ap (λ (x : ℕ). 4 - x) (sym c)) g.few g.holds)

  -- a stream that becomes ripe
  ripens : (count m n p : ℕ) (found later : List Finding) (table : StreamTable) (w : Verdict) → Took m found later table → Again count m → is_classified found (4 * m + kind) ≡ false
      → is_dequeued later (4 * m + kind) ≡ true → verdict h (4 * m + kind) ≡ w
      → classifying h later (4 * m + kind) ≡ finds.Classified (4 * m + kind) w (keeps h later w) ∷ stream_fault later w → n ≡ 4 - unsettled found m
      → scan t calls v n (filter (unripe found) (ids_from kind m (suc count))) table
      ≡ scan t calls v n (filter (unripe found) (ids_from kind (suc m) count)) (with_classified (4 * m + kind) w (consequence t (dispatched_streams calls table) (4 * m + kind) w) table)
      → Keeps (after_checks side h (Classify (4 * m + kind) ∷ stream_checks (ids_from kind (suc m) count)) later) (scan t calls v n (filter (unripe found) (ids_from kind m (suc count))) table)
  ripens count m n p found later table w g again unripe-now dequeued shows e q s =
      let c : Consequence = consequence t (dispatched_streams calls table) (4 * m + kind) w in
      let more : List Finding = (later ++ finds.Classified (4 * m + kind) w c.admitted ∷ []) ++ faults_of c.fault in
      let x : finds.Classified (4 * m + kind) w (keeps h later w) ∷ stream_fault later w
      ≡ finds.Classified (4 * m + kind) w c.admitted ∷ faults_of c.fault = rw
      (admits later table (4 * m + kind) w (kept.table later table g.holds), faults-agree t calls later table (4 * m + kind) w (kept.table later table g.holds)) refl in
      let l : after_checks side h (Classify (4 * m + kind) ∷ stream_checks (ids_from kind (suc m) count)) later ≡ after_checks side h (stream_checks (ids_from kind (suc m) count)) more
      =
      check-step side h (Classify (4 * m + kind)) _ later (finds.Classified (4 * m + kind) w c.admitted ∷ faults_of c.fault) g.none (e ∙ x)
      ∙ ap (after_checks side h (stream_checks (ids_from kind (suc m) count))) (cons-append later (finds.Classified (4 * m + kind) w c.admitted) (faults_of c.fault)) in
      let u : filter (unripe more) (ids_from kind (suc m) count) ≡ filter (unripe found) (ids_from kind (suc m) count)
      =
      filter-ids (unripe more) (unripe found) kind (suc m) count
      (λ i a b. ap not (others m i later w c.admitted c.fault (apart m i (λ r. absurd (omega (arith, r, a)))) ∙ g.ripe (4 * i + kind))) in
      let z : unsettled more m ≡ unsettled found m
      =
      ap length (filter-ids (unripe more) (unripe found) kind 0 m
      (λ i a b. ap not (others m i later w c.admitted c.fault (apart m i (λ r. absurd (omega (arith, r, b)))) ∙ g.ripe (4 * i + kind)))) in
      let i0 : 0 + m ≡ m = omega arith in
      let o : unsettled more (suc m) ≡ unsettled found m
      = ids-more (unripe more) kind 0 m ∙ ap (λ (i : ℕ). unsettled more m + one-if (unripe more (4 * i + kind))) i0 ∙ rw (itself m later w c.admitted c.fault) (omega (arith, z)) in
      rw (l, s, sym u) (again n more (with_classified (4 * m + kind) w c table) (q ∙ ap (λ (y : ℕ). 4 - y) (sym o))
      (few-fault (later ++ finds.Classified (4 * m + kind) w c.admitted ∷ []) c.fault (few-ripe later (4 * m + kind) w c.admitted g.few))
      (kept.ripe m later table w g.none dequeued (g.ripe (4 * m + kind) ∙ unripe-now) shows g.holds))

  -- what the verdict of a stream that is taken leads to
  decided : (count m n p : ℕ) (found later : List Finding) (table : StreamTable) → Took m found later table → Again count m → is_classified found (4 * m + kind) ≡ false
      → is_dequeued later (4 * m + kind) ≡ true
      → n ≡ suc p → n ≡ 4 - unsettled found m → p ≡ 4 - unsettled found (suc m)
      → Keeps (after_checks side h (Classify (4 * m + kind) ∷ stream_checks (ids_from kind (suc m) count)) later) (scan t calls v n (filter (unripe found) (ids_from kind m (suc count))) table)
  decided count m n p found later table g again r a np q qp = by (v (4 * m + kind)) refl
    where
      ripe-later : is_classified later (4 * m + kind) ≡ false
      ripe-later = g.ripe (4 * m + kind) ∙ r

      none : table.progress.fault ≡ None
      none = sym (kept.table later table g.holds).fault ∙ g.none

      becomes : (w : Verdict) → v (4 * m + kind) ≡ w → classifying h later (4 * m + kind) ≡ classified_as h later (4 * m + kind) w
      becomes w e = rw (a, ripe-later, seen m, e) refl

      scanned : (w : Verdict) → v (4 * m + kind) ≡ w → scan t calls v n (filter (unripe found) (ids_from kind m (suc count))) table
          ≡ scan t calls v (places_after w p) (filter (unripe found) (ids_from kind (suc m) count)) (classify t calls (4 * m + kind) w table)
      scanned w e = rw (np, r, none, e) refl

      by : (w : Verdict) → v (4 * m + kind) ≡ w → Keeps (after_checks side h (Classify (4 * m + kind) ∷ stream_checks (ids_from kind (suc m) count)) later)
          (scan t calls v n (filter (unripe found) (ids_from kind m (suc count))) table)
      by verdicts.Incomplete e = stays count m n p found later table g again (becomes verdicts.Incomplete e) qp (scanned verdicts.Incomplete e)
      by (verdicts.WebTransport s o) e =
          ripens count m n p found later table (verdicts.WebTransport s o) g again r a (seen m ∙ e) (becomes _ e) q
          (scanned _ e ∙ ap (λ (x : ℕ). scan t calls v x (filter (unripe found) (ids_from kind (suc m) count)) (classify t calls (4 * m + kind) (verdicts.WebTransport s o) table)) (sym np))
      by (verdicts.Control o) e =
          ripens count m n p found later table (verdicts.Control o) g again r a (seen m ∙ e) (becomes _ e) q
          (scanned _ e ∙ ap (λ (x : ℕ). scan t calls v x (filter (unripe found) (ids_from kind (suc m) count)) (classify t calls (4 * m + kind) (verdicts.Control o) table)) (sym np))
      by (verdicts.Encoder o) e =
          ripens count m n p found later table (verdicts.Encoder o) g again r a (seen m ∙ e) (becomes _ e) q
          (scanned _ e ∙ ap (λ (x : ℕ). scan t calls v x (filter (unripe found) (ids_from kind (suc m) count)) (classify t calls (4 * m + kind) (verdicts.Encoder o) table)) (sym np))
      by (verdicts.Decoder o) e =
          ripens count m n p found later table (verdicts.Decoder o) g again r a (seen m ∙ e) (becomes _ e) q
          (scanned _ e ∙ ap (λ (x : ℕ). scan t calls v x (filter (unripe found) (ids_from kind (suc m) count)) (classify t calls (4 * m + kind) (verdicts.Decoder o) table)) (sym np))
      by (verdicts.Request f o) e =
          ripens count m n p found later table (verdicts.Request f o) g again r a (seen m ∙ e) (becomes _ e) q
          (scanned _ e ∙ ap (λ (x : ℕ). scan t calls v x (filter (unripe found) (ids_from kind (suc m) count)) (classify t calls (4 * m + kind) (verdicts.Request f o) table)) (sym np))
      by (verdicts.Refused c) e =
          ripens count m n p found later table (verdicts.Refused c) g again r a (seen m ∙ e) (becomes _ e) q
          (scanned _ e ∙ ap (λ (x : ℕ). scan t calls v x (filter (unripe found) (ids_from kind (suc m) count)) (classify t calls (4 * m + kind) (verdicts.Refused c) table)) (sym np))
      by verdicts.Dropped e =
          ripens count m n p found later table verdicts.Dropped g again r a (seen m ∙ e) (becomes _ e) q
          (scanned _ e ∙ ap (λ (x : ℕ). scan t calls v x (filter (unripe found) (ids_from kind (suc m) count)) (classify t calls (4 * m + kind) verdicts.Dropped table)) (sym np))
      by (verdicts.Fault c) e =
          ripens count m n p found later table (verdicts.Fault c) g again r a (seen m ∙ e) (becomes _ e) q
          (scanned _ e ∙ ap (λ (x : ℕ). scan t calls v x (filter (unripe found) (ids_from kind (suc m) count)) (classify t calls (4 * m + kind) (verdicts.Fault c) table)) (sym np))

  -- after the look at whether it is taken
  after-took : (count m n : ℕ) (found later : List Finding) (table : StreamTable) → Took m found later table → Again count m → Few found → n ≡ 4 - unsettled found m
      → Keeps (after_checks side h (Classify (4 * m + kind) ∷ stream_checks (ids_from kind (suc m) count)) later) (scan t calls v n (filter (unripe found) (ids_from kind m (suc count))) table)
  after-took count m n found later table g again few q = by (is_classified found (4 * m + kind)) refl (nat_lt (unsettled found m) 4) refl
    where
      more : (b : Bool) → is_classified found (4 * m + kind) ≡ b → unsettled found (suc m) ≡ unsettled found m + one-if (not b)
      more b e =
          let i0 : 0 + m ≡ m = omega arith in ids-more (unripe found) kind 0 m ∙ ap (λ (i : ℕ). unsettled found m + one-if (unripe found (4 * i + kind))) i0
          ∙ ap (λ (x : Bool). unsettled found m + one-if (not x)) e

      and-not : (a b : Bool) → b ≡ true → (a && not b) ≡ false
      and-not true true e = refl
      and-not false b e = refl
      and-not true false e = absurd (cc e)

      by : (b : Bool) → is_classified found (4 * m + kind) ≡ b → (l : Bool) → nat_lt (unsettled found m) 4 ≡ l
          → Keeps (after_checks side h (Classify (4 * m + kind) ∷ stream_checks (ids_from kind (suc m) count)) later) (scan t calls v n (filter (unripe found) (ids_from kind m (suc count))) table)
      by true e l el = stays count m n n found later table g again (ripen-none later (4 * m + kind) (and-not _ _ (g.ripe (4 * m + kind) ∙ e))) (omega (arith, q, more true e)) (rw e refl)
      by false e false el =
          let z : (n ≡ 0) × (0 ≡ 4 - (unsettled found m + 1)) = no-places (unsettled found m) el n q in
          let d : is_dequeued found (4 * m + kind) ≡ false = untaken (is_dequeued found (4 * m + kind)) refl e el in
          let tk : is_dequeued later (4 * m + kind) ≡ false = g.taken ∙ rw (d, el) refl in
          stays count m n 0 found later table g again (ripen-none later (4 * m + kind) (ap (λ (x : Bool). x && not (is_classified later (4 * m + kind))) tk))
          (z.1 ∙ ap (λ (x : ℕ). 4 - x) (sym (more false e)))
          (ap (λ (x : ℕ). scan t calls v x (filter (unripe found) (ids_from kind m (suc count))) table) z.0 ∙ scan-zero t calls v _ table ∙ sym (scan-zero t calls v _ table))
        where
          untaken : (x : Bool) → is_dequeued found (4 * m + kind) ≡ x → is_classified found (4 * m + kind) ≡ false → nat_lt (unsettled found m) 4 ≡ false → x ≡ false
          untaken false p r l = refl
          untaken true p r l = absurd (cc (sym (few m p r) ∙ l))
      by false e true el =
          let z : (p : ℕ) × (n ≡ suc p) × (p ≡ 4 - (unsettled found m + 1)) = places (unsettled found m) el n q in
          decided count m n z.0 found later table g again e (g.taken ∙ rw el (or-true (is_dequeued found (4 * m + kind)))) z.1 q (z.2 ∙ ap (λ (x : ℕ). 4 - x) (sym (more false e)))

  -- looks at a kind's streams lead to the same as its scan
  scan-from : (count m n : ℕ) (found : List Finding) (table : StreamTable) → n ≡ 4 - unsettled found m → Few found → Keeps found table
      → Keeps (after_checks side h (stream_checks (ids_from kind m count)) found) (scan t calls v n (filter (unripe found) (ids_from kind m count)) table)
  scan-from zero m n found table q few holds = holds
  scan-from (suc count) m n found table q few holds = by (fault_of found) refl (λ n' f' t' q' w' h'. scan-from count (suc m) n' f' t' q' w' h')
    where
      by : (o : Option ErrorCode) → fault_of found ≡ o → Again count m
          → Keeps (after_checks side h (stream_checks (ids_from kind m (suc count))) found) (scan t calls v n (filter (unripe found) (ids_from kind m (suc count))) table)
      by (Some c) e again =
          rw (
            checks-faulty side h (stream_checks (ids_from kind m (suc count))) found c e,
            scan-faulty t calls v n (filter (unripe found) (ids_from kind m (suc count))) table c
                (sym (kept.table found table holds).fault ∙ e),
          ) holds
      by None e again = rw (check-step side h (Dequeue (4 * m + kind)) (Classify (4 * m + kind) ∷ stream_checks (ids_from kind (suc m) count)) found (dequeuing side h found (4 * m + kind)) e refl)
          (after-took count m n found (found ++ dequeuing side h found (4 * m + kind)) table (took m found table e few holds) again few q)

  -- from the first stream on, with 4 places
  pub scan-keeps : (count : ℕ) (found : List Finding) (table : StreamTable) → Few found → Keeps found table
      → Keeps (after_checks side h (stream_checks (ids_from kind 0 count)) found) (scan t calls v 4 (filter (unripe found) (ids_from kind 0 count)) table)
  scan-keeps count found table few holds = scan-from count 0 4 found table refl few holds
