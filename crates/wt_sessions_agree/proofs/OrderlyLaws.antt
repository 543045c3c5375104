-- What holds of all that was found before a moment holds at each step of it.
use Rattle.std.specs.Prelude.{[], ◌&&◌, ◌++◌, ◌==◌, ◌∷◌, ◌≡◌, Bool, List, None, false, filter, if◌then◌else◌, is_some, length, not, true, ℕ}
use Rattle.std.specs.List.{list_all}
use Rattle.std.proofs.Common.{◌∙◌, ap, refl, subst, sym}
use Rattle.std.proofs.lemmas.Bool.{eqb-true}
use Rattle.std.proofs.lemmas.List.{append-nil}
use Rattle.wt_meaning.specs.Findings.{DatagramRead, Dequeued, Faulted, Finding, SessionClosed, SettingsRead, control_in, decoder_in, encoder_in, fault_of, first_of, is_classified, is_datagram, is_dequeued, verdict_in}
use Rattle.wt_meaning.specs.Findings as finds
use Rattle.wt_meaning.specs.History.{History}
use Rattle.wt_meaning.specs.Moments.{Check, after_checks, fault_if, found_by, is_ready, keeps, stream_fault}
use Rattle.wt_meaning.specs.Windows.{is_established}
use Rattle.wt_promise.proofs.Accepted.{and-left, and-right}
use Rattle.wt_promise.proofs.Grows.{AClassified, AClosed, ADatagram, ADequeued, AFault, ASettings, Kept, Nothing, asks_peers, checks-keep}
use Rattle.wt_proto.specs.declared.verdict.Verdict.{Verdict}
use Rattle.wt_sessions.specs.Moment.{is_peers}
use Rattle.wt_sessions.specs.StreamTable.{CallView}
use Rattle.wt_sessions_agree.proofs.Appends.{classified-append, cons-append, dequeued-append}
use Rattle.wt_sessions_agree.proofs.DatagramLaws.{received-more, received-same}
use Rattle.wt_sessions_agree.proofs.Few.{dequeues-none, few-checks, none-dequeued, plain-check}
use Rattle.wt_sessions_agree.proofs.SessionLaws.{begin-same}
use Rattle.wt_sessions_agree.specs.Orderly.{PartsBegin, Known, Orderly, Received}
use Rattle.wt_wire.specs.declared.error.ErrorCode.{ErrorCode}
use Rattle.wt_wire.specs.declared.side.Side.{Side}
use Rattle.wt_proto.specs.declared.verdict.Verdict.TheVariants as verdicts
use Rattle.wt_wire.specs.declared.error.ErrorCode.TheVariants as h3

-- ---- nothing is dequeued early

early-list : (new found : List Finding) (k : ℕ) → list_all dequeues-none new ≡ true → is_dequeued found k ≡ false → is_dequeued (found ++ new) k ≡ false
early-list [] found k e d = ap (λ (l : List Finding). is_dequeued l k) (append-nil found) ∙ d
early-list (f ∷ new) found k e d =
    ap (λ (l : List Finding). is_dequeued l k) (cons-append found f new)
    ∙ early-list new (found ++ f ∷ []) k (and-right (dequeues-none f) (list_all dequeues-none new) e)
    (dequeued-append found f k ∙ rw (d, none-dequeued f (and-left (dequeues-none f) (list_all dequeues-none new) e) k) refl)

early-checks : (side : Side) (h : History) → is_ready side h ≡ false → (cs : List Check) (found : List Finding) → ((k : ℕ) → is_dequeued found k ≡ false) → (k : ℕ)
    → is_dequeued (after_checks side h cs found) k ≡ false
early-checks side h e [] found none k = none k
early-checks side h e (c ∷ cs) found none k =
    by (is_some (fault_of found)) (early-checks side h e cs (found ++ found_by side h found c) (λ j. early-list (found_by side h found c) found j (plain-check side h found c e) (none j)) k)
  where
    by : (b : Bool) → is_dequeued (after_checks side h cs (found ++ found_by side h found c)) k ≡ false
        → is_dequeued (if b then found else after_checks side h cs (found ++ found_by side h found c)) k ≡ false
    by true again = none k
    by false again = again

-- ---- a fault changes nothing else

-- what is kept by a fault alone is kept by a stream's fault
pub stream-fault-keeps : (Good : List Finding → Type 0) → ((found : List Finding) (code : ErrorCode) → Good found → Good (found ++ Faulted code ∷ [])) → (found before : List Finding) (v : Verdict)
    → Good found → Good (found ++ stream_fault before v)
stream-fault-keeps Good kept found before v g = by v
  where
    none : Good (found ++ [])
    none = subst Good (sym (append-nil found)) g

    once : (b : Bool) (code : ErrorCode) → Good (found ++ fault_if b code)
    once true code = kept found code g
    once false code = none

    by : (v : Verdict) → Good (found ++ stream_fault before v)
    by (verdicts.Fault code) = kept found code g
    by (verdicts.Control offset) = once (is_some (first_of control_in before)) h3.StreamCreation
    by (verdicts.Encoder offset) = once (is_some (first_of encoder_in before)) h3.StreamCreation
    by (verdicts.Decoder offset) = once (is_some (first_of decoder_in before)) h3.StreamCreation
    by _ = none

-- ---- datagrams

received-kept : (side : Side) (h : History) (calls : CallView) → Kept side h (Received h calls)
received-kept side h calls found _ Nothing f r = subst (Received h calls) (sym (append-nil found)) r
received-kept side h calls found _ (ADequeued k p) f r = received-same h calls found (Dequeued k) refl refl r
received-kept side h calls found _ (AClassified k v more p d c e m) f r =
    subst (Received h calls) (ap (λ (l : List Finding). (found ++ finds.Classified k v (keeps h found v) ∷ []) ++ l) (sym m) ∙ sym (cons-append found (finds.Classified k v (keeps h found v)) more))
    (stream-fault-keeps (Received h calls) (λ before code g. received-same h calls before (Faulted code) refl refl g) (found ++ finds.Classified k v (keeps h found v) ∷ []) found v
    (received-same h calls found (finds.Classified k v (keeps h found v)) refl refl r))
received-kept side h calls found _ (ADatagram n s payload e) f r = received-more h calls found n s payload _ (eqb-true (length (filter is_datagram found)) n e) r
received-kept side h calls found _ (AClosed s code reason by_capsule e) f r = received-same h calls found (SessionClosed s code reason by_capsule) refl refl r
received-kept side h calls found _ (ASettings e) f r = received-same h calls found SettingsRead refl refl r
received-kept side h calls found _ (AFault code) f r = received-same h calls found (Faulted code) refl refl r

-- ---- sessions

-- where each session's part begins, and that its stream is known
pub record Parts (side : Side) (h : History) (offset : ℕ → ℕ) (found : List Finding) : Type 0 where
  pub begin : PartsBegin h offset found
  pub known : Known side h found

-- what is known stays known
known-more : (side : Side) (h : History) (found : List Finding) (f : Finding) → Known side h found → Known side h (found ++ f ∷ [])
known-more side h found f kn k e = by (is_peers side k) (is_classified found k) refl (kn k e)
  where
    by : (p c : Bool) → is_classified found k ≡ c → (p && not c) ≡ false → (p && not (is_classified (found ++ f ∷ []) k)) ≡ false
    by false c q x = refl
    by true true q x = rw (classified-append found f k, q) refl
    by true false q x = absurd (cc x)

parts-same : (side : Side) (h : History) (offset : ℕ → ℕ) (found : List Finding) (f : Finding) → ((k : ℕ) → is_established h k ≡ true → verdict_in k f ≡ None) → Parts side h offset found
    → Parts side h offset (found ++ f ∷ [])
parts-same side h offset found f e p = record { begin = begin-same h offset found f e p.begin; known = known-more side h found f p.known }

pub parts-kept : (side : Side) (h : History) (offset : ℕ → ℕ) → Kept side h (Parts side h offset)
parts-kept side h offset found _ Nothing f r = subst (Parts side h offset) (sym (append-nil found)) r
parts-kept side h offset found _ (ADequeued k p) f r = parts-same side h offset found (Dequeued k) (λ j s. refl) r
parts-kept side h offset found _ (AClassified k v more p d c e m) f r =
    subst (Parts side h offset) (ap (λ (l : List Finding). (found ++ finds.Classified k v (keeps h found v) ∷ []) ++ l) (sym m) ∙ sym (cons-append found (finds.Classified k v (keeps h found v)) more))
    (stream-fault-keeps (Parts side h offset) (λ before code g. parts-same side h offset before (Faulted code) (λ j s. refl) g) (found ++ finds.Classified k v (keeps h found v) ∷ []) found v
    (parts-same side h offset found (finds.Classified k v (keeps h found v)) (λ j s. other j s (k == j) refl) r))
  where
    other : (j : ℕ) → is_established h j ≡ true → (b : Bool) → (k == j) ≡ b → verdict_in j (finds.Classified k v (keeps h found v)) ≡ None
    other j s false q = rw q refl
    other j s true q =
        let i : k ≡ j = eqb-true k j q in
        let u : (is_peers side k && not (is_classified found k)) ≡ true = rw (p, c) refl in
        absurd (cc (sym u ∙ ap (λ (n : ℕ). is_peers side n && not (is_classified found n)) i ∙ r.known j s))
parts-kept side h offset found _ (ADatagram n s payload e) f r = parts-same side h offset found (DatagramRead n s payload _) (λ j q. refl) r
parts-kept side h offset found _ (AClosed s code reason by_capsule e) f r = parts-same side h offset found (SessionClosed s code reason by_capsule) (λ j q. refl) r
parts-kept side h offset found _ (ASettings e) f r = parts-same side h offset found SettingsRead (λ j q. refl) r
parts-kept side h offset found _ (AFault code) f r = parts-same side h offset found (Faulted code) (λ j q. refl) r

-- ---- all of it

pub orderly-checks : (side : Side) (h : History) (calls : CallView) (offset : ℕ → ℕ) (cs : List Check) → list_all (asks_peers side) cs ≡ true → (found : List Finding)
    → Orderly side h calls offset found → Orderly side h calls offset (after_checks side h cs found)
orderly-checks side h calls offset cs p found o =
    let parts = checks-keep side h (Parts side h offset) (parts-kept side h offset) cs found p (record { begin = o.begin; known = o.known }) in
    record {
      few = λ kind small. few-checks side h kind small cs found (o.few kind small);
      none_early = λ e. early-checks side h e cs found (o.none_early e);
      received = checks-keep side h (Received h calls) (received-kept side h calls) cs found p o.received;
      begin = parts.begin;
      known = parts.known;
    }
