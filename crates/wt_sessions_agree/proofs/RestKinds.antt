-- What one check finds where it finds no fault, and the streams of a kind after such checks: of none is more found.
use Rattle.std.specs.Prelude.{[], ◌%◌, ◌&&◌, ◌*◌, ◌++◌, ◌+◌, ◌/◌, ◌<◌, ◌==◌, ◌∷◌, ◌||◌, ◌≡◌, ◌≤◌, Bool, Err, List, None, Ok, Option, Result, Some, false, filter, if◌then◌else◌, is_some, length, nat_lt, not, suc, true, zero, ℕ}
use Rattle.std.specs.Option.{option_or}
use Rattle.std.proofs.Common.{◌∙◌, ap, arith, refl, subst, sym}
use Rattle.std.proofs.lemmas.Bool.{eq-eqb, eqb-true}
use Rattle.std.proofs.lemmas.List.{append-nil}
use Rattle.std.proofs.lemmas.List.Folds.{list_any-append}
use Rattle.wt_meaning.specs.Findings.{DatagramRead, Dequeued, Faulted, Finding, SessionClosed, SettingsRead, control_in, decoder_in, dequeues, encoder_in, fault_in, fault_of, first_of, is_classified, is_datagram, is_dequeued, settings_came, verdict_in, verdict_of}
use Rattle.wt_meaning.specs.Findings as finds
use Rattle.wt_meaning.specs.History.{History, events}
use Rattle.wt_meaning.specs.Moments.{Check, Classify, ControlFault, DecoderEnd, Dequeue, EncoderEnd, LocalStop, ReadDatagram, ReadSettings, WalkSession, after_checks, classified_as, classifying, control_walk, datagram_found, dequeuing, end_fault, fault_if, found_by, ids_from, is_ready, keeps, session_found, stream_checks, stream_fault, unclassified_before, verdict}
use Rattle.wt_proto.specs.SessionWalk.{is_over, session_walk_of}
use Rattle.wt_meaning.specs.Windows.{lives, session_part}
use Rattle.wt_message.specs.Datagram.{datagram_of}
use Rattle.wt_promise.proofs.Accepted.{and-left, or-true}
use Rattle.wt_promise.proofs.Grows.{first_of-append, first_of-stays}
use Rattle.wt_proto.specs.declared.session_walk.SessionWalk.{SessionWalk}
use Rattle.wt_proto.specs.declared.verdict.Verdict.{Verdict}
use Rattle.wt_turn.specs.Reports.{end_of, is_running, stop_of}
use Rattle.wt_turn.specs.Streams.{local_uni}
use Rattle.wt_sessions_agree.proofs.Appends.{classified-append, classified-more, dequeued-append, filter-fewer, filter-ids, ids-more, one-if}
use Rattle.wt_sessions_agree.proofs.Basics.{or-false}
use Rattle.wt_sessions_agree.specs.Orderly.{unclassified}
use Rattle.wt_wire.specs.declared.error.ErrorCode.{ErrorCode}
use Rattle.wt_wire.specs.declared.side.Side.{Side}
use Rattle.wt_proto.specs.declared.session_walk.SessionWalk.TheVariants as walks
use Rattle.wt_proto.specs.declared.verdict.Verdict.TheVariants as verdicts
use Rattle.wt_wire.specs.declared.error.ErrorCode.TheVariants as h3
use Rattle.wt_wire.specs.declared.side.StreamEnd.TheVariants as ends

-- ---- what one check finds

-- the header doesn't show yet what the stream is
abbrev pub is_incomplete : Verdict → Bool
is_incomplete verdicts.Incomplete = true
is_incomplete _ = false

-- what a check finds where it finds no fault
pub data Finds (side : Side) (h : History) (found : List Finding) : Check → List Finding → Type 0 where
  Nothing : (c : Check) → Finds side h found c []
  Dequeues : (k : ℕ) → (is_ready side h && nat_lt (unclassified_before found k) 4) ≡ true → Finds side h found (Dequeue k) (Dequeued k ∷ [])
  Classifies : (k : ℕ) (v : Verdict) (b : Bool) → is_incomplete (verdict h k) ≡ false → Finds side h found (Classify k) (finds.Classified k v b ∷ [])
  Reads : (n s : ℕ) (piece payload : List ℕ) (b : Bool) → length (filter is_datagram found) ≡ n → Finds side h found (ReadDatagram n piece) (DatagramRead n s payload b ∷ [])
  Closes : (s code : ℕ) (reason : List ℕ) (b : Bool) → Finds side h found (WalkSession s) (SessionClosed s code reason b ∷ [])
  Settles : Finds side h found ReadSettings (SettingsRead ∷ [])

-- none of these is a fault
abbrev pub NoFault : List Finding → Type 0
NoFault found = fault_of found ≡ None

fault-before : (found new : List Finding) → NoFault (found ++ new) → NoFault found
fault-before found new e = by (fault_of found) refl
  where
    by : (o : Option ErrorCode) → fault_of found ≡ o → o ≡ None
    by None q = refl
    by (Some code) q = absurd (cc (sym (first_of-stays fault_in found new code q) ∙ e))

pub fault-behind : (found new : List Finding) → NoFault (found ++ new) → NoFault new
fault-behind found new e = by (fault_of found) (fault-before found new e) (sym (first_of-append fault_in found new) ∙ e)
  where
    by : (o : Option ErrorCode) → o ≡ None → option_or o (fault_of new) ≡ None → NoFault new
    by None q r = r
    by (Some code) q r = absurd (cc q)

-- where a pass ends without a fault it began without one
pub fault-first : (side : Side) (h : History) (cs : List Check) (found : List Finding) → NoFault (after_checks side h cs found) → NoFault found
fault-first side h [] found e = e
fault-first side h (c ∷ cs) found e = by (fault_of found) (fault-first side h cs (found ++ found_by side h found c)) e
  where
    by : (o : Option ErrorCode) → (NoFault (after_checks side h cs (found ++ found_by side h found c)) → NoFault (found ++ found_by side h found c))
        → fault_of (if is_some o then found else after_checks side h cs (found ++ found_by side h found c)) ≡ None → NoFault found
    by None again q = fault-before found (found_by side h found c) (again q)
    by (Some code) again q = q

-- and goes on with what the first check leaves
pub pass-step : (side : Side) (h : History) (c : Check) (cs : List Check) (found : List Finding) → NoFault (after_checks side h (c ∷ cs) found)
    → after_checks side h (c ∷ cs) found ≡ after_checks side h cs (found ++ found_by side h found c)
pass-step side h c cs found e = let f : fault_of found ≡ None = fault-first side h (c ∷ cs) found e in rw f refl

fault-not : (b : Bool) (code : ErrorCode) → NoFault (fault_if b code) → fault_if b code ≡ []
fault-not true code e = absurd (cc e)
fault-not false code e = refl

-- a stream without a fault of its own
stream-calm : (found : List Finding) (v : Verdict) → NoFault (stream_fault found v) → stream_fault found v ≡ []
stream-calm found (verdicts.Fault code) e = absurd (cc e)
stream-calm found (verdicts.Control offset) e = fault-not (is_some (first_of control_in found)) h3.StreamCreation e
stream-calm found (verdicts.Encoder offset) e = fault-not (is_some (first_of encoder_in found)) h3.StreamCreation e
stream-calm found (verdicts.Decoder offset) e = fault-not (is_some (first_of decoder_in found)) h3.StreamCreation e
stream-calm found v e = refl

finds-dequeued : (side : Side) (h : History) (found : List Finding) (k : ℕ) (a b c : Bool) → is_ready side h ≡ b → nat_lt (unclassified_before found k) 4 ≡ c
    → Finds side h found (Dequeue k) (if not a && b && c then Dequeued k ∷ [] else [])
finds-dequeued side h found k false true true e q = Dequeues k (rw (e, q) refl)
finds-dequeued side h found k false true false e q = Nothing (Dequeue k)
finds-dequeued side h found k false false c e q = Nothing (Dequeue k)
finds-dequeued side h found k true b c e q = Nothing (Dequeue k)

finds-class : (side : Side) (h : History) (found : List Finding) (k : ℕ) (v : Verdict) → verdict h k ≡ v → NoFault (classified_as h found k v)
    → Finds side h found (Classify k) (classified_as h found k v)
finds-class side h found k verdicts.Incomplete q e = Nothing (Classify k)
finds-class side h found k v q e =
    subst (λ (xs : List Finding). Finds side h found (Classify k) (finds.Classified k v (keeps h found v) ∷ xs)) (sym (stream-calm found v e)) (Classifies k v (keeps h found v) (ap is_incomplete q))

finds-classified : (side : Side) (h : History) (found : List Finding) (k : ℕ) (b : Bool) → NoFault (if b then classified_as h found k (verdict h k) else [])
    → Finds side h found (Classify k) (if b then classified_as h found k (verdict h k) else [])
finds-classified side h found k true e = finds-class side h found k (verdict h k) refl e
finds-classified side h found k false e = Nothing (Classify k)

finds-read : (side : Side) (h : History) (found : List Finding) (n : ℕ) (piece : List ℕ) (r c : Bool) (d : Result (ℕ × List ℕ) ErrorCode) → (length (filter is_datagram found) == n) ≡ c
    → NoFault (if r && c then datagram_found h found n d ∷ [] else []) → Finds side h found (ReadDatagram n piece) (if r && c then datagram_found h found n d ∷ [] else [])
finds-read side h found n piece false c d q e = Nothing (ReadDatagram n piece)
finds-read side h found n piece true false d q e = Nothing (ReadDatagram n piece)
finds-read side h found n piece true true (Err code) q e = absurd (cc e)
finds-read side h found n piece true true (Ok d) q e = Reads n (4 * d.0) piece d.1 _ (eqb-true (length (filter is_datagram found)) n q)

finds-closed : (side : Side) (h : History) (found : List Finding) (s : ℕ) (l b : Bool) (walk : SessionWalk) → NoFault (if l then session_found s b walk else [])
    → Finds side h found (WalkSession s) (if l then session_found s b walk else [])
finds-closed side h found s false b walk e = Nothing (WalkSession s)
finds-closed side h found s true b walks.Running e = Nothing (WalkSession s)
finds-closed side h found s true b (walks.Closed code reason) e = Closes s code reason b
finds-closed side h found s true b (walks.Fault code) e = absurd (cc e)

finds-if : (side : Side) (h : History) (found : List Finding) (c : Check) (b : Bool) (code : ErrorCode) → NoFault (fault_if b code) → Finds side h found c (fault_if b code)
finds-if side h found c true code e = absurd (cc e)
finds-if side h found c false code e = Nothing c

finds-settings : (side : Side) (h : History) (found : List Finding) (b : Bool) → Finds side h found ReadSettings (if b then SettingsRead ∷ [] else [])
finds-settings side h found true = Settles
finds-settings side h found false = Nothing ReadSettings

finds-control : (side : Side) (h : History) (found : List Finding) (o : Option ErrorCode) → NoFault (elim o [ Some code ↦ Faulted code ∷ [] | None ↦ [] ])
    → Finds side h found ControlFault (elim o [ Some code ↦ Faulted code ∷ [] | None ↦ [] ])
finds-control side h found None e = Nothing ControlFault
finds-control side h found (Some code) e = absurd (cc e)

finds-end : (side : Side) (h : History) (found : List Finding) (c : Check) (stream : Option (ℕ × ℕ)) → NoFault (end_fault h stream) → Finds side h found c (end_fault h stream)
finds-end side h found c None e = Nothing c
finds-end side h found c (Some stream) e = finds-if side h found c (not (is_running (end_of (events h) stream.0))) h3.ClosedCriticalStream e

finds-one : (side : Side) (h : History) (found : List Finding) (c : Check) → NoFault (found_by side h found c) → Finds side h found c (found_by side h found c)
finds-one side h found (Dequeue k) e = finds-dequeued side h found k (is_dequeued found k) (is_ready side h) (nat_lt (unclassified_before found k) 4) refl refl
finds-one side h found (Classify k) e = finds-classified side h found k (is_dequeued found k && not (is_classified found k)) e
finds-one side h found (ReadDatagram n piece) e = finds-read side h found n piece (is_ready side h) (length (filter is_datagram found) == n) (datagram_of piece) refl e
finds-one side h found (WalkSession s) e =
    finds-closed side h found s (lives h found s) (is_over (session_walk_of (session_part h found s) ends.Running)) (session_walk_of (session_part h found s) (end_of (events h) s)) e
finds-one side h found LocalStop e = finds-if side h found LocalStop (is_some (stop_of (events h) (local_uni side))) h3.ClosedCriticalStream e
finds-one side h found ReadSettings e = finds-settings side h found (not (settings_came found) && is_some (control_walk h (first_of control_in found)).settings)
finds-one side h found ControlFault e = finds-control side h found (control_walk h (first_of control_in found)).fault e
finds-one side h found EncoderEnd e = finds-end side h found EncoderEnd (first_of encoder_in found) e
finds-one side h found DecoderEnd e = finds-end side h found DecoderEnd (first_of decoder_in found) e

-- what each check keeps, a pass without a fault keeps
abbrev pub KeptOn : Side → History → (List Finding → Type 0) → Type 0
KeptOn side h Good = (c : Check) (found new : List Finding) → Finds side h found c new → Good found → Good (found ++ new)

-- of the first check
pub pass-finds : (side : Side) (h : History) (c : Check) (cs : List Check) (found : List Finding) → NoFault (after_checks side h (c ∷ cs) found) → Finds side h found c (found_by side h found c)
pass-finds side h c cs found e =
    finds-one side h found c (fault-behind found (found_by side h found c) (fault-first side h cs (found ++ found_by side h found c) (sym (ap fault_of (pass-step side h c cs found e)) ∙ e)))

pub pass-keeps : (side : Side) (h : History) (Good : List Finding → Type 0) → KeptOn side h Good → (cs : List Check) (found : List Finding) → NoFault (after_checks side h cs found) → Good found
    → Good (after_checks side h cs found)
pass-keeps side h Good kept [] found e g = g
pass-keeps side h Good kept (c ∷ cs) found e g =
    let s = pass-step side h c cs found e in
    subst Good (sym s) (pass-keeps side h Good kept cs (found ++ found_by side h found c) (sym (ap fault_of s) ∙ e) (kept c found (found_by side h found c) (pass-finds side h c cs found e) g))

-- ---- streams of a kind

-- the stream has no verdict, and gets none at this history
abbrev pub is_stuck : History → List Finding → ℕ → Bool
is_stuck h found k = not (is_classified found k) && is_incomplete (verdict h k)

-- so many of the first i streams of the kind
abbrev pub stuck : History → List Finding → ℕ → ℕ → ℕ
stuck h found kind i = length (filter (is_stuck h found) (ids_from kind 0 i))

-- of the stream nothing more is found: it was dequeued and has its verdict or none yet, or 4 before it wait for theirs
pub data Still (side : Side) (h : History) (found : List Finding) (kind i : ℕ) : Type 0 where
  Taken : is_dequeued found (4 * i + kind) ≡ true → (is_classified found (4 * i + kind) || is_incomplete (verdict h (4 * i + kind))) ≡ true → Still side h found kind i
  Left : is_dequeued found (4 * i + kind) ≡ false → (is_ready side h && nat_lt (stuck h found kind i) 4) ≡ false → Still side h found kind i

-- so the first n of the kind
abbrev pub StillTo : Side → History → ℕ → ℕ → List Finding → Type 0
StillTo side h kind n found = (i : ℕ) → i < n → Still side h found kind i

-- what gets none has none
stuck-less : (h : History) (found : List Finding) (kind i : ℕ) → stuck h found kind i ≤ unclassified found kind i
stuck-less h found kind i = filter-fewer (λ (j : ℕ). not (is_classified found j)) (is_stuck h found) (λ j e. and-left (not (is_classified found j)) (is_incomplete (verdict h j)) e) (ids_from kind 0 i)

lt-less : (a b : ℕ) → a ≤ b → nat_lt a 4 ≡ false → nat_lt b 4 ≡ false
lt-less a b l e = grind (arith, l, e)

more-not : (r : Bool) (a b : ℕ) → a ≤ b → (r && nat_lt a 4) ≡ false → (r && nat_lt b 4) ≡ false
more-not true a b l e = lt-less a b l e
more-not false a b l e = refl

pub under : (n i : ℕ) → n < suc i → (n == i) ≡ false → n < i
under n i l q = grind (arith, l, q)

-- one more stream
ids-next : (p : ℕ → Bool) (kind n : ℕ) → length (filter p (ids_from kind 0 (suc n))) ≡ length (filter p (ids_from kind 0 n)) + one-if (p (4 * n + kind))
ids-next p kind n = let z : 0 + n ≡ n = omega arith in ids-more p kind 0 n ∙ ap (λ (i : ℕ). length (filter p (ids_from kind 0 n)) + one-if (p (4 * i + kind))) z

before-is : (found : List Finding) (kind i : ℕ) → kind < 4 → unclassified_before found (4 * i + kind) ≡ unclassified found kind i
before-is found kind i small = let q : (4 * i + kind) % 4 ≡ kind = omega (arith, small) in let r : (4 * i + kind) / 4 ≡ i = omega (arith, small) in rw (q, r) refl

module _ (side : Side) (h : History) (kind : ℕ) (small : kind < 4) where
  -- what was taken stays so
  taken-more : (found : List Finding) (f : Finding) (i : ℕ) → is_dequeued found (4 * i + kind) ≡ true → (is_classified found (4 * i + kind) || is_incomplete (verdict h (4 * i + kind))) ≡ true
      → Still side h (found ++ f ∷ []) kind i
  taken-more found f i d c =
      Taken (dequeued-append found f (4 * i + kind) ∙ rw d refl)
      (ap (λ (b : Bool). b || is_incomplete (verdict h (4 * i + kind))) (classified-append found f (4 * i + kind))
      ∙ by (is_classified found (4 * i + kind)) (is_some (verdict_in (4 * i + kind) f)) (is_incomplete (verdict h (4 * i + kind))) c)
    where
      by : (a b v : Bool) → (a || v) ≡ true → ((a || b) || v) ≡ true
      by true b v e = refl
      by false true v e = refl
      by false false v e = e

  -- what was left stays so, where the finding doesn't dequeue it and leaves what waits as it was
  left-more : (found : List Finding) (f : Finding) (i : ℕ) → dequeues (4 * i + kind) f ≡ false → ((j : ℕ) → is_stuck h (found ++ f ∷ []) j ≡ is_stuck h found j)
      → is_dequeued found (4 * i + kind) ≡ false → (is_ready side h && nat_lt (stuck h found kind i) 4) ≡ false → Still side h (found ++ f ∷ []) kind i
  left-more found f i n same d r =
      Left (dequeued-append found f (4 * i + kind) ∙ rw (d, n) refl)
      (ap (λ (js : List ℕ). is_ready side h && nat_lt (length js) 4) (filter-ids (is_stuck h (found ++ f ∷ [])) (is_stuck h found) kind 0 i (λ j a b. same (4 * j + kind))) ∙ r)

  -- a finding that is no verdict leaves what waits
  plain-stuck : (found : List Finding) (f : Finding) → ((j : ℕ) → verdict_in j f ≡ None) → (j : ℕ) → is_stuck h (found ++ f ∷ []) j ≡ is_stuck h found j
  plain-stuck found f n j =
      ap (λ (b : Bool). not b && is_incomplete (verdict h j)) (classified-append found f j ∙ ap (λ (o : Option Verdict). is_classified found j || is_some o) (n j) ∙ or-false (is_classified found j))

  plain-more : (found : List Finding) (f : Finding) (i : ℕ) → dequeues (4 * i + kind) f ≡ false → ((j : ℕ) → is_stuck h (found ++ f ∷ []) j ≡ is_stuck h found j) → Still side h found kind i
      → Still side h (found ++ f ∷ []) kind i
  plain-more found f i n same (Taken d c) = taken-more found f i d c
  plain-more found f i n same (Left d r) = left-more found f i n same d r

  still-kept : (i : ℕ) → KeptOn side h (λ (found : List Finding). Still side h found kind i)
  still-kept i c found _ (Nothing _) s = subst (λ (l : List Finding). Still side h l kind i) (sym (append-nil found)) s
  still-kept i c found _ (Dequeues k q) (Taken d e) = taken-more found (Dequeued k) i d e
  still-kept i c found _ (Dequeues k q) (Left d r) = left-more found (Dequeued k) i (by (k == 4 * i + kind) refl) (plain-stuck found (Dequeued k) (λ j. refl)) d r
    where
      by : (b : Bool) → (k == 4 * i + kind) ≡ b → b ≡ false
      by false e = refl
      by true e =
          let k-is : k ≡ 4 * i + kind = eqb-true k (4 * i + kind) e in
          let n : (is_ready side h && nat_lt (unclassified found kind i) 4) ≡ false = more-not (is_ready side h) (stuck h found kind i) (unclassified found kind i) (stuck-less h found kind i) r in
          let y : (is_ready side h && nat_lt (unclassified_before found k) 4) ≡ false = ap (λ (j : ℕ). is_ready side h && nat_lt (unclassified_before found j) 4) k-is
          ∙ ap (λ (m : ℕ). is_ready side h && nat_lt m 4) (before-is found kind i small) ∙ n in
          sym q ∙ y
  still-kept i c found _ (Classifies k v b n) s = plain-more found (finds.Classified k v b) i refl (λ j. by j (k == j) refl) s
    where
      by : (j : ℕ) (e : Bool) → (k == j) ≡ e → is_stuck h (found ++ finds.Classified k v b ∷ []) j ≡ is_stuck h found j
      by j true e =
          let m : is_incomplete (verdict h j) ≡ false = ap (λ (i : ℕ). is_incomplete (verdict h i)) (sym (eqb-true k j e)) ∙ n in
          rw m (none (not (is_classified (found ++ finds.Classified k v b ∷ []) j)) (not (is_classified found j)))
        where
          none : (x y : Bool) → (x && false) ≡ (y && false)
          none true true = refl
          none true false = refl
          none false true = refl
          none false false = refl
      by j false e =
          let m : verdict_in j (finds.Classified k v b) ≡ None = rw e refl in
          ap (λ (b : Bool). not b && is_incomplete (verdict h j))
          (classified-append found (finds.Classified k v b) j ∙ ap (λ (o : Option Verdict). is_classified found j || is_some o) m ∙ or-false (is_classified found j))
  still-kept i c found _ (Reads n s piece payload b e) t = plain-more found (DatagramRead n s payload b) i refl (plain-stuck found (DatagramRead n s payload b) (λ j. refl)) t
  still-kept i c found _ (Closes s code reason b) t = plain-more found (SessionClosed s code reason b) i refl (plain-stuck found (SessionClosed s code reason b) (λ j. refl)) t
  still-kept i c found _ Settles t = plain-more found SettingsRead i refl (plain-stuck found SettingsRead (λ j. refl)) t

  pub kind-kept : (n : ℕ) → KeptOn side h (StillTo side h kind n)
  kind-kept n c found new f s = λ i l. still-kept i c found new f (s i l)

  -- fewer than 4 of those before are stuck: then all of them without a verdict are
  few-wait : (found : List Finding) → is_ready side h ≡ true → (n : ℕ) → StillTo side h kind n found → nat_lt (stuck h found kind n) 4 ≡ true → unclassified found kind n ≤ stuck h found kind n
  few-wait found ready zero s l = omega arith
  few-wait found ready (suc n) s l =
      let u = ids-next (λ (j : ℕ). not (is_classified found j)) kind n in
      let w = ids-next (is_stuck h found) kind n in
      let b : nat_lt (stuck h found kind n) 4 ≡ true = below (stuck h found kind n) (stuck h found kind (suc n)) (one-if (is_stuck h found (4 * n + kind))) w l in
      let again : unclassified found kind n ≤ stuck h found kind n = few-wait found ready n (λ i m. s i (omega (arith, m))) b in
      let one = one-more (s n (omega arith)) b in
      omega (arith, u, w, again, one)
    where
      below : (a b c : ℕ) → b ≡ a + c → nat_lt b 4 ≡ true → nat_lt a 4 ≡ true
      below a b c e l = grind (arith, e, l)

      one-more : Still side h found kind n → nat_lt (stuck h found kind n) 4 ≡ true → one-if (not (is_classified found (4 * n + kind))) ≤ one-if (is_stuck h found (4 * n + kind))
      one-more (Taken d c) b = by (is_classified found (4 * n + kind)) (is_incomplete (verdict h (4 * n + kind))) c
        where
          by : (x y : Bool) → (x || y) ≡ true → one-if (not x) ≤ one-if (not x && y)
          by true y e = omega arith
          by false true e = omega arith
          by false false e = absurd (cc e)
      one-more (Left d r) b = absurd (let q : (is_ready side h && nat_lt (stuck h found kind n) 4) ≡ true = rw (ready, b) refl in cc (sym r ∙ q))

  -- ---- one stream after another

  dequeued-more : (found new : List Finding) (k : ℕ) → is_dequeued found k ≡ true → is_dequeued (found ++ new) k ≡ true
  dequeued-more found new k e = list_any-append (dequeues k) found new ∙ rw e refl

  -- the check of its header gives it a verdict, or there is none yet
  settles : (found : List Finding) (k : ℕ) → is_dequeued found k ≡ true → (is_classified (found ++ classifying h found k) k || is_incomplete (verdict h k)) ≡ true
  settles found k d = by (is_classified found k) refl
    where
      here : (v : Verdict) (b : Bool) (more : List Finding) → is_classified (found ++ finds.Classified k v b ∷ more) k ≡ true
      here v b more =
          let self : verdict_in k (finds.Classified k v b) ≡ Some v = rw (eq-eqb k k refl) refl in
          ap is_some (first_of-append (verdict_in k) found (finds.Classified k v b ∷ more))
          ∙ ap (λ (o : Option Verdict). is_some (option_or (verdict_of found k) (option_or o (verdict_of more k)))) self ∙ either (verdict_of found k)
        where
          either : (o : Option Verdict) → is_some (option_or o (Some v)) ≡ true
          either None = refl
          either (Some w) = refl

      as_ : (v : Verdict) → (is_classified (found ++ classified_as h found k v) k || is_incomplete v) ≡ true
      as_ verdicts.Incomplete = or-true (is_classified (found ++ []) k)
      as_ v = ap (λ (b : Bool). b || is_incomplete v) (here v (keeps h found v) (stream_fault found v))

      by : (b : Bool) → is_classified found k ≡ b → (is_classified (found ++ classifying h found k) k || is_incomplete (verdict h k)) ≡ true
      by true e = ap (λ (b : Bool). b || is_incomplete (verdict h k)) (classified-more found (classifying h found k) k e)
      by false e = let q : classifying h found k ≡ classified_as h found k (verdict h k) = rw (d, e) refl in rw q (as_ (verdict h k))

  -- the two checks of a stream leave it still
  one-still : (i : ℕ) (found : List Finding) (cs : List Check) → NoFault (after_checks side h (Dequeue (4 * i + kind) ∷ Classify (4 * i + kind) ∷ cs) found) → StillTo side h kind i found
      → (later : List Finding) × (after_checks side h (Dequeue (4 * i + kind) ∷ Classify (4 * i + kind) ∷ cs) found ≡ after_checks side h cs later) × StillTo side h kind (suc i) later
  one-still i found cs e s = (last, a ∙ b, all)
    where
      k : ℕ
      k = 4 * i + kind

      taken : List Finding
      taken = found ++ dequeuing side h found k

      last : List Finding
      last = taken ++ classifying h taken k

      a : after_checks side h (Dequeue k ∷ Classify k ∷ cs) found ≡ after_checks side h (Classify k ∷ cs) taken
      a = pass-step side h (Dequeue k) (Classify k ∷ cs) found e

      b : after_checks side h (Classify k ∷ cs) taken ≡ after_checks side h cs last
      b = pass-step side h (Classify k) cs taken (sym (ap fault_of a) ∙ e)

      later : (n : ℕ) → Still side h found kind n → Still side h last kind n
      later n t =
          still-kept n (Classify k) taken (classifying h taken k) (pass-finds side h (Classify k) cs taken (sym (ap fault_of a) ∙ e))
          (still-kept n (Dequeue k) found (dequeuing side h found k) (pass-finds side h (Dequeue k) (Classify k ∷ cs) found e) t)

      few : is_ready side h ≡ true → nat_lt (unclassified_before found k) 4 ≡ false → nat_lt (stuck h found kind i) 4 ≡ false
      few r l = by (nat_lt (stuck h found kind i) 4) refl
        where
          by : (b : Bool) → nat_lt (stuck h found kind i) 4 ≡ b → b ≡ false
          by false q = refl
          by true q =
              let m : unclassified found kind i ≤ stuck h found kind i = few-wait found r i s q in
              let n : nat_lt (unclassified found kind i) 4 ≡ false = sym (ap (λ (m : ℕ). nat_lt m 4) (before-is found kind i small)) ∙ l in
              sym q ∙ lt-less (unclassified found kind i) (stuck h found kind i) m n

      this : (d : Bool) → is_dequeued found k ≡ d → (r : Bool) → is_ready side h ≡ r → (l : Bool) → nat_lt (unclassified_before found k) 4 ≡ l → Still side h last kind i
      this true d r x l y = let t : is_dequeued taken k ≡ true = dequeued-more found (dequeuing side h found k) k d in Taken (dequeued-more taken (classifying h taken k) k t) (settles taken k t)
      this false d false x l y = later i (Left d (rw x refl))
      this false d true x false y = later i (Left d (let q = few x y in rw (x, q) refl))
      this false d true x true y =
          let q : dequeuing side h found k ≡ Dequeued k ∷ [] = rw (d, x, y) refl in
          let t : is_dequeued taken k ≡ true = ap (λ (xs : List Finding). is_dequeued (found ++ xs) k) q ∙ dequeued-append found (Dequeued k) k ∙ rw (d, eq-eqb k k refl) refl in
          Taken (dequeued-more taken (classifying h taken k) k t) (settles taken k t)

      all : StillTo side h kind (suc i) last
      all n l = by (n == i) refl
        where
          by : (b : Bool) → (n == i) ≡ b → Still side h last kind n
          by true q = subst (Still side h last kind) (sym (eqb-true n i q)) (this (is_dequeued found k) refl (is_ready side h) refl (nat_lt (unclassified_before found k) 4) refl)
          by false q = later n (s n (under n i l q))

  pub kind-still : (count i n : ℕ) (found : List Finding) → n ≡ i + count → NoFault (after_checks side h (stream_checks (ids_from kind i count)) found) → StillTo side h kind i found
      → StillTo side h kind n (after_checks side h (stream_checks (ids_from kind i count)) found)
  kind-still zero i n found q e s = λ j l. s j (omega (arith, q, l))
  kind-still (suc count) i n found q e s =
      let r = one-still i found (stream_checks (ids_from kind (suc i) count)) e s in
      subst (StillTo side h kind n) (sym r.1) (kind-still count (suc i) n r.0 (omega (arith, q)) (sym (ap fault_of r.1) ∙ e) r.2)

  -- ---- of such a stream nothing is found

  pub still-finds : (found : List Finding) (i : ℕ) → Still side h found kind i → (dequeuing side h found (4 * i + kind) ≡ []) × (classifying h found (4 * i + kind) ≡ [])
  still-finds found i (Taken d c) = (rw d refl, by (is_classified found (4 * i + kind)) refl c)
    where
      none : (v : Verdict) → is_incomplete v ≡ true → classified_as h found (4 * i + kind) v ≡ []
      none verdicts.Incomplete e = refl
      none v e = absurd (cc e)

      by : (b : Bool) → is_classified found (4 * i + kind) ≡ b → (b || is_incomplete (verdict h (4 * i + kind))) ≡ true → classifying h found (4 * i + kind) ≡ []
      by true e q = rw (d, e) refl
      by false e q = rw (d, e) (none (verdict h (4 * i + kind)) q)
  still-finds found i (Left d r) = (by (is_ready side h) refl r, rw d refl)
    where
      by : (b : Bool) → is_ready side h ≡ b → (b && nat_lt (stuck h found kind i) 4) ≡ false → dequeuing side h found (4 * i + kind) ≡ []
      by false e q = rw (d, e) refl
      by true e q =
          let n : nat_lt (unclassified_before found (4 * i + kind)) 4 ≡ false = ap (λ (m : ℕ). nat_lt m 4) (before-is found kind i small)
          ∙ lt-less (stuck h found kind i) (unclassified found kind i) (stuck-less h found kind i) q in
          rw (d, e, n) refl
