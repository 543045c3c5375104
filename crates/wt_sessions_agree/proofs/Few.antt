-- Of a stream that is dequeued and has no verdict fewer than 4 earlier ones of its kind have none: every check keeps it so.
use Rattle.std.specs.Prelude.{[], ◌%◌, ◌&&◌, ◌*◌, ◌++◌, ◌+◌, ◌/◌, ◌<◌, ◌==◌, ◌∷◌, ◌||◌, ◌≡◌, ◌≤◌, Bool, Err, List, None, Ok, Option, Result, Some, false, filter, if◌then◌else◌, is_some, length, nat_lt, not, true, ℕ}
use Rattle.std.specs.List.{list_all}
use Rattle.std.proofs.Common.{◌∙◌, ap, arith, refl, subst, sym}
use Rattle.std.proofs.lemmas.Bool.{eqb-true}
use Rattle.std.proofs.lemmas.List.{append-nil}
use Rattle.wt_meaning.specs.Findings.{Dequeued, Faulted, Finding, SettingsRead, control_in, decoder_in, dequeues, encoder_in, fault_of, first_of, is_classified, is_datagram, is_dequeued, settings_came}
use Rattle.wt_meaning.specs.History.{History, events}
use Rattle.wt_meaning.specs.Moments.{Check, Classify, ControlFault, DecoderEnd, Dequeue, EncoderEnd, LocalStop, ReadDatagram, ReadSettings, WalkSession, after_checks, classified_as, control_walk, datagram_found, end_fault, fault_if, found_by, ids_from, is_ready, session_found, stream_fault, unclassified_before, verdict}
use Rattle.wt_proto.specs.SessionWalk.{is_over, session_walk_of}
use Rattle.wt_meaning.specs.Windows.{lives, session_part}
use Rattle.wt_message.specs.Datagram.{datagram_of}
use Rattle.wt_promise.proofs.Accepted.{and-left, and-right}
use Rattle.wt_proto.specs.declared.session_walk.SessionWalk.{SessionWalk}
use Rattle.wt_proto.specs.declared.verdict.Verdict.{Verdict}
use Rattle.wt_turn.specs.Reports.{end_of, is_running, stop_of}
use Rattle.wt_turn.specs.Streams.{local_uni}
use Rattle.wt_sessions_agree.proofs.Appends.{classified-append, cons-append, dequeued-append, filter-fewer}
use Rattle.wt_sessions_agree.proofs.Basics.{or-false}
use Rattle.wt_sessions_agree.specs.Orderly.{Few, unclassified}
use Rattle.wt_wire.specs.declared.error.ErrorCode.{ErrorCode}
use Rattle.wt_wire.specs.declared.side.Side.{Side}
use Rattle.wt_proto.specs.declared.session_walk.SessionWalk.TheVariants as walks
use Rattle.wt_proto.specs.declared.verdict.Verdict.TheVariants as verdicts
use Rattle.wt_wire.specs.declared.error.ErrorCode.TheVariants as h3
use Rattle.wt_wire.specs.declared.side.StreamEnd.TheVariants as ends

-- ---- what dequeues none

-- the finding dequeues no stream
abbrev pub dequeues-none : Finding → Bool
dequeues-none (Dequeued id) = false
dequeues-none _ = true

pub none-dequeued : (f : Finding) → dequeues-none f ≡ true → (k : ℕ) → dequeues k f ≡ false
none-dequeued (Dequeued id) e k = absurd (cc e)
none-dequeued _ e k = refl

lt-less : (a b : ℕ) → a ≤ b → nat_lt b 4 ≡ true → nat_lt a 4 ≡ true
lt-less a b l e = grind (arith, l, e)

-- more findings leave no more streams without a verdict
fewer : (kind : ℕ) (found : List Finding) (f : Finding) (i : ℕ) → unclassified (found ++ f ∷ []) kind i ≤ unclassified found kind i
fewer kind found f i = filter-fewer (λ (j : ℕ). not (is_classified found j)) (λ (j : ℕ). not (is_classified (found ++ f ∷ []) j)) (λ j q. by j (is_classified found j) refl q) (ids_from kind 0 i)
  where
    by : (j : ℕ) (b : Bool) → is_classified found j ≡ b → not (is_classified (found ++ f ∷ []) j) ≡ true → not b ≡ true
    by j false e q = refl
    by j true e q = let m : is_classified (found ++ f ∷ []) j ≡ true = classified-append found f j ∙ rw e refl in absurd (cc (sym q ∙ ap not m))

-- what has a verdict keeps it
unclassified-before : (found : List Finding) (f : Finding) (j : ℕ) → is_classified (found ++ f ∷ []) j ≡ false → is_classified found j ≡ false
unclassified-before found f j e = by (is_classified found j) refl
  where
    by : (b : Bool) → is_classified found j ≡ b → b ≡ false
    by false q = refl
    by true q = let m : is_classified (found ++ f ∷ []) j ≡ true = classified-append found f j ∙ rw q refl in absurd (cc (sym m ∙ e))

few-plain : (kind : ℕ) (found : List Finding) (f : Finding) → dequeues-none f ≡ true → Few kind found → Few kind (found ++ f ∷ [])
few-plain kind found f n few i x y =
    lt-less _ (unclassified found kind i) (fewer kind found f i)
    (few i (sym (dequeued-append found f (4 * i + kind) ∙ ap (λ (b : Bool). is_dequeued found (4 * i + kind) || b) (none-dequeued f n (4 * i + kind)) ∙ or-false (is_dequeued found (4 * i + kind)))
    ∙ x)
    (unclassified-before found f (4 * i + kind) y))

few-list : (kind : ℕ) (new found : List Finding) → list_all dequeues-none new ≡ true → Few kind found → Few kind (found ++ new)
few-list kind [] found e few = subst (Few kind) (sym (append-nil found)) few
few-list kind (f ∷ new) found e few =
    subst (Few kind) (sym (cons-append found f new))
    (few-list kind new (found ++ f ∷ []) (and-right (dequeues-none f) (list_all dequeues-none new) e) (few-plain kind found f (and-left (dequeues-none f) (list_all dequeues-none new) e) few))

-- ---- a stream that is dequeued

few-dequeued : (kind : ℕ) → kind < 4 → (found : List Finding) (k : ℕ) → nat_lt (unclassified_before found k) 4 ≡ true → Few kind found → Few kind (found ++ Dequeued k ∷ [])
few-dequeued kind small found k lt few i x y =
    lt-less _ (unclassified found kind i) (fewer kind found (Dequeued k) i) (by (k == 4 * i + kind) refl (sym (dequeued-append found (Dequeued k) (4 * i + kind)) ∙ x))
  where
    before-is : nat_lt (unclassified_before found (4 * i + kind)) 4 ≡ nat_lt (unclassified found kind i) 4
    before-is = let q : (4 * i + kind) % 4 ≡ kind = omega (arith, small) in let r : (4 * i + kind) / 4 ≡ i = omega (arith, small) in rw (q, r) refl

    by : (b : Bool) → (k == 4 * i + kind) ≡ b → (is_dequeued found (4 * i + kind) || b) ≡ true → nat_lt (unclassified found kind i) 4 ≡ true
    by true e q = sym before-is ∙ ap (λ (j : ℕ). nat_lt (unclassified_before found j) 4) (sym (eqb-true k (4 * i + kind) e)) ∙ lt
    by false e q = few i (sym (or-false (is_dequeued found (4 * i + kind))) ∙ q) (unclassified-before found (Dequeued k) (4 * i + kind) y)

-- ---- what the other checks find

fault-plain : (b : Bool) (code : ErrorCode) → list_all dequeues-none (fault_if b code) ≡ true
fault-plain true code = refl
fault-plain false code = refl

stream-plain : (found : List Finding) (v : Verdict) → list_all dequeues-none (stream_fault found v) ≡ true
stream-plain found (verdicts.Control offset) = fault-plain (is_some (first_of control_in found)) h3.StreamCreation
stream-plain found (verdicts.Encoder offset) = fault-plain (is_some (first_of encoder_in found)) h3.StreamCreation
stream-plain found (verdicts.Decoder offset) = fault-plain (is_some (first_of decoder_in found)) h3.StreamCreation
stream-plain found (verdicts.Fault code) = refl
stream-plain found v = refl

as-plain : (h : History) (found : List Finding) (k : ℕ) (v : Verdict) → list_all dequeues-none (classified_as h found k v) ≡ true
as-plain h found k verdicts.Incomplete = refl
as-plain h found k v = stream-plain found v

if-plain : (b : Bool) (xs : List Finding) → list_all dequeues-none xs ≡ true → list_all dequeues-none (if b then xs else []) ≡ true
if-plain true xs e = e
if-plain false xs e = refl

datagram-plain : (h : History) (found : List Finding) (n : ℕ) (d : Result (ℕ × List ℕ) ErrorCode) → list_all dequeues-none (datagram_found h found n d ∷ []) ≡ true
datagram-plain h found n (Err code) = refl
datagram-plain h found n (Ok d) = refl

session-plain : (s : ℕ) (by_capsule : Bool) (walk : SessionWalk) → list_all dequeues-none (session_found s by_capsule walk) ≡ true
session-plain s by_capsule walks.Running = refl
session-plain s by_capsule (walks.Closed code reason) = refl
session-plain s by_capsule (walks.Fault code) = refl

control-plain : (o : Option ErrorCode) → list_all dequeues-none (elim o [ Some code ↦ Faulted code ∷ [] | None ↦ [] ]) ≡ true
control-plain None = refl
control-plain (Some code) = refl

end-plain : (h : History) (x : Option (ℕ × ℕ)) → list_all dequeues-none (end_fault h x) ≡ true
end-plain h None = refl
end-plain h (Some x) = fault-plain (not (is_running (end_of (events h) x.0))) h3.ClosedCriticalStream

-- the check isn't whether a stream is dequeued
abbrev pub is-other : Check → Bool
is-other (Dequeue k) = false
is-other _ = true

pub plain-other : (side : Side) (h : History) (found : List Finding) (c : Check) → is-other c ≡ true → list_all dequeues-none (found_by side h found c) ≡ true
plain-other side h found (Dequeue k) e = absurd (cc e)
plain-other side h found (Classify k) e = if-plain (is_dequeued found k && not (is_classified found k)) (classified_as h found k (verdict h k)) (as-plain h found k (verdict h k))
plain-other side h found (ReadDatagram n piece) e =
    if-plain (is_ready side h && length (filter is_datagram found) == n) (datagram_found h found n (datagram_of piece) ∷ []) (datagram-plain h found n (datagram_of piece))
plain-other side h found (WalkSession s) e =
    if-plain (lives h found s) (session_found s (is_over (session_walk_of (session_part h found s) ends.Running)) (session_walk_of (session_part h found s) (end_of (events h) s)))
    (session-plain s (is_over (session_walk_of (session_part h found s) ends.Running)) (session_walk_of (session_part h found s) (end_of (events h) s)))
plain-other side h found LocalStop e = fault-plain (is_some (stop_of (events h) (local_uni side))) h3.ClosedCriticalStream
plain-other side h found ReadSettings e = if-plain (not (settings_came found) && is_some (control_walk h (first_of control_in found)).settings) (SettingsRead ∷ []) refl
plain-other side h found ControlFault e = control-plain (control_walk h (first_of control_in found)).fault
plain-other side h found EncoderEnd e = end-plain h (first_of encoder_in found)
plain-other side h found DecoderEnd e = end-plain h (first_of decoder_in found)

-- every check keeps it
few-check : (side : Side) (h : History) (kind : ℕ) → kind < 4 → (c : Check) (found : List Finding) → (b : Bool) → is-other c ≡ b → Few kind found → Few kind (found ++ found_by side h found c)
few-check side h kind small c found true e few = few-list kind (found_by side h found c) found (plain-other side h found c e) few
few-check side h kind small (Dequeue k) found false e few = by (is_dequeued found k) (is_ready side h) (nat_lt (unclassified_before found k) 4) refl
  where
    by : (a b c : Bool) → nat_lt (unclassified_before found k) 4 ≡ c → Few kind (found ++ (if not a && b && c then Dequeued k ∷ [] else []))
    by false true true e = few-dequeued kind small found k e few
    by false true false e = few-list kind [] found refl few
    by false false c e = few-list kind [] found refl few
    by true b c e = few-list kind [] found refl few
few-check side h kind small c found false e few = absurd (cc e)

-- before this end is ready no check dequeues a stream
pub plain-check : (side : Side) (h : History) (found : List Finding) (c : Check) → is_ready side h ≡ false → list_all dequeues-none (found_by side h found c) ≡ true
plain-check side h found (Dequeue k) e = rw e (by (is_dequeued found k) (nat_lt (unclassified_before found k) 4))
  where
    by : (a c : Bool) → list_all dequeues-none (if not a && false && c then Dequeued k ∷ [] else []) ≡ true
    by true c = refl
    by false c = refl
plain-check side h found (Classify k) e = plain-other side h found (Classify k) refl
plain-check side h found (ReadDatagram n piece) e = plain-other side h found (ReadDatagram n piece) refl
plain-check side h found (WalkSession s) e = plain-other side h found (WalkSession s) refl
plain-check side h found LocalStop e = plain-other side h found LocalStop refl
plain-check side h found ReadSettings e = plain-other side h found ReadSettings refl
plain-check side h found ControlFault e = plain-other side h found ControlFault refl
plain-check side h found EncoderEnd e = plain-other side h found EncoderEnd refl
plain-check side h found DecoderEnd e = plain-other side h found DecoderEnd refl

-- so do checks, one after another
pub few-checks : (side : Side) (h : History) (kind : ℕ) → kind < 4 → (cs : List Check) (found : List Finding) → Few kind found → Few kind (after_checks side h cs found)
few-checks side h kind small [] found few = few
few-checks side h kind small (c ∷ cs) found few =
    by (is_some (fault_of found)) (few-checks side h kind small cs (found ++ found_by side h found c) (few-check side h kind small c found (is-other c) refl few))
  where
    by : (b : Bool) → Few kind (after_checks side h cs (found ++ found_by side h found c)) → Few kind (if b then found else after_checks side h cs (found ++ found_by side h found c))
    by true again = few
    by false again = again
