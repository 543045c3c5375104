-- A moment goes over its checks one after another, up to a fault; the checks of a stream touch that stream alone.
use Rattle.std.specs.Prelude.{[], ◌++◌, ◌==◌, ◌∷◌, ◌||◌, ◌≡◌, Bool, Err, List, None, Ok, Option, Result, Some, false, if◌then◌else◌, is_some, not, true, ℕ}
use Rattle.std.specs.List.{list_all, list_any}
use Rattle.std.specs.Option.{option_or}
use Rattle.std.proofs.Common.{◌∙◌, ap, refl, sym}
use Rattle.std.proofs.lemmas.List.Folds.{list_any-append}
use Rattle.wt_meaning.specs.Findings.{Classified, DatagramRead, Dequeued, Faulted, Finding, SessionClosed, SettingsRead, control_in, decoder_in, dequeues, encoder_in, fault_of, first_of, is_dequeued, verdict_in, verdict_of}
use Rattle.wt_meaning.specs.History.{History, events}
use Rattle.wt_meaning.specs.Moments.{Check, Classify, ControlFault, DecoderEnd, Dequeue, EncoderEnd, LocalStop, ReadDatagram, ReadSettings, WalkSession, after_checks, classified_as, datagram_found, control_walk, end_fault, fault_if, found_by, session_found, stream_fault, verdict}
use Rattle.wt_proto.specs.SessionWalk.{is_over, session_walk_of}
use Rattle.wt_meaning.specs.Windows.{lives, session_part}
use Rattle.wt_message.specs.Datagram.{datagram_of}
use Rattle.wt_promise.proofs.Accepted.{and-left, and-right, or-left, or-right}
use Rattle.wt_promise.proofs.Grows.{first_of-append, of-stream-fault}
use Rattle.wt_proto.specs.declared.session_walk.SessionWalk.{SessionWalk}
use Rattle.wt_proto.specs.declared.verdict.Verdict.{Verdict}
use Rattle.wt_turn.specs.Reports.{end_of, is_running, stop_of}
use Rattle.wt_turn.specs.Streams.{local_uni}
use Rattle.wt_wire.specs.declared.error.ErrorCode.{ErrorCode}
use Rattle.wt_wire.specs.declared.side.Side.{Side}
use Rattle.wt_proto.specs.declared.session_walk.SessionWalk.TheVariants as walks
use Rattle.wt_proto.specs.declared.verdict.Verdict.TheVariants as verdicts
use Rattle.wt_wire.specs.declared.error.ErrorCode.TheVariants as h3
use Rattle.wt_wire.specs.declared.side.StreamEnd.TheVariants as ends

-- ---- one check after another

module _ (side : Side) (h : History) where
  pub stopped : (cs : List Check) (found : List Finding) (code : ErrorCode) → fault_of found ≡ Some code → after_checks side h cs found ≡ found
  stopped [] found code e = refl
  stopped (c ∷ cs) found code e = rw e refl

  pub goes-on : (c : Check) (cs : List Check) (found : List Finding) → fault_of found ≡ None → after_checks side h (c ∷ cs) found ≡ after_checks side h cs (found ++ found_by side h found c)
  goes-on c cs found e = rw e refl

  pub in-parts : (xs ys : List Check) (found : List Finding) → after_checks side h (xs ++ ys) found ≡ after_checks side h ys (after_checks side h xs found)
  in-parts [] ys found = refl
  in-parts (x ∷ xs) ys found = by (fault_of found) refl (in-parts xs ys (found ++ found_by side h found x))
    where
      by : (f : Option ErrorCode) → fault_of found ≡ f → after_checks side h (xs ++ ys) (found ++ found_by side h found x) ≡ after_checks side h ys (after_checks side h xs (found ++ found_by side h found x))
          → after_checks side h ((x ∷ xs) ++ ys) found ≡ after_checks side h ys (after_checks side h (x ∷ xs) found)
      by None e again = goes-on x (xs ++ ys) found e ∙ again ∙ ap (after_checks side h ys) (sym (goes-on x xs found e))
      by (Some code) e again = stopped ((x ∷ xs) ++ ys) found code e ∙ sym (stopped ys found code e) ∙ ap (after_checks side h ys) (sym (stopped (x ∷ xs) found code e))

  -- what each check of the list keeps, the list keeps
  pub each-keeps : (Good : List Finding → Type 0) (test : Check → Bool) → ((found : List Finding) (c : Check) → test c ≡ true → fault_of found ≡ None → Good found → Good (found ++ found_by side h found c))
      → (cs : List Check) (found : List Finding) → list_all test cs ≡ true → Good found → Good (after_checks side h cs found)
  each-keeps Good test kept [] found p g = g
  each-keeps Good test kept (c ∷ cs) found p g =
      by (fault_of found) refl (λ e. each-keeps Good test kept cs (found ++ found_by side h found c) (and-right (test c) (list_all test cs) p) (kept found c (and-left (test c) (list_all test cs) p) e g))
    where
      by : (f : Option ErrorCode) → fault_of found ≡ f → (fault_of found ≡ None → Good (after_checks side h cs (found ++ found_by side h found c)))
          → Good (if is_some f then found else after_checks side h cs (found ++ found_by side h found c))
      by (Some code) e more = g
      by None e more = more e

-- ---- what is found of one stream

-- the finding is of the stream
abbrev pub is-of : ℕ → Finding → Bool
is-of k (Dequeued id) = id == k
is-of k (Classified id v keeps) = id == k
is-of k _ = false

pub none-read : (k : ℕ) (new : List Finding) → list_any (is-of k) new ≡ false → is_dequeued new k ≡ false
none-read k [] e = refl
none-read k (Dequeued id ∷ new) e = rw (or-left (id == k) (list_any (is-of k) new) e, none-read k new (or-right (id == k) (list_any (is-of k) new) e)) refl
none-read k (Classified id v keeps ∷ new) e = none-read k new (or-right (id == k) (list_any (is-of k) new) e)
none-read k (DatagramRead n s payload keeps ∷ new) e = none-read k new e
none-read k (SessionClosed s code reason b ∷ new) e = none-read k new e
none-read k (SettingsRead ∷ new) e = none-read k new e
none-read k (Faulted code ∷ new) e = none-read k new e

pub none-shown : (k : ℕ) (new : List Finding) → list_any (is-of k) new ≡ false → verdict_of new k ≡ None
none-shown k [] e = refl
none-shown k (Dequeued id ∷ new) e = none-shown k new (or-right (id == k) (list_any (is-of k) new) e)
none-shown k (Classified id v keeps ∷ new) e = rw (or-left (id == k) (list_any (is-of k) new) e) (none-shown k new (or-right (id == k) (list_any (is-of k) new) e))
none-shown k (DatagramRead n s payload keeps ∷ new) e = none-shown k new e
none-shown k (SessionClosed s code reason b ∷ new) e = none-shown k new e
none-shown k (SettingsRead ∷ new) e = none-shown k new e
none-shown k (Faulted code ∷ new) e = none-shown k new e

pub option-none : {T : Type 0} (o : Option T) → option_or o None ≡ o
option-none None = refl
option-none (Some t) = refl

pub same-read : (found new : List Finding) (k : ℕ) → list_any (is-of k) new ≡ false → is_dequeued (found ++ new) k ≡ is_dequeued found k
same-read found new k e = list_any-append (dequeues k) found new ∙ ap (λ (b : Bool). is_dequeued found k || b) (none-read k new e) ∙ or-false (is_dequeued found k)
  where
    or-false : (b : Bool) → (b || false) ≡ b
    or-false true = refl
    or-false false = refl

pub same-shown : (found new : List Finding) (k : ℕ) → list_any (is-of k) new ≡ false → verdict_of (found ++ new) k ≡ verdict_of found k
same-shown found new k e = first_of-append (verdict_in k) found new ∙ ap (option_or (verdict_of found k)) (none-shown k new e) ∙ option-none (verdict_of found k)

-- ---- what a check touches

no-header : (k : ℕ) (found : List Finding) (v : Verdict) → list_any (is-of k) (stream_fault found v) ≡ false
no-header k = of-stream-fault (λ (fs : List Finding). list_any (is-of k) fs ≡ false) refl (λ code. refl)

-- the check is of the stream
abbrev pub looks-at : ℕ → Check → Bool
looks-at k (Dequeue id) = id == k
looks-at k (Classify id) = id == k
looks-at k _ = false

as-touches : (h : History) (found : List Finding) (j k : ℕ) (v : Verdict) → (j == k) ≡ false → list_any (is-of k) (classified_as h found j v) ≡ false
as-touches h found j k verdicts.Incomplete e = refl
as-touches h found j k v e = rw (e, no-header k found v) refl

if-touches : (k : ℕ) (b : Bool) (new : List Finding) → list_any (is-of k) new ≡ false → list_any (is-of k) (if b then new else []) ≡ false
if-touches k true new e = e
if-touches k false new e = refl

fault-touches : (k : ℕ) (b : Bool) (code : ErrorCode) → list_any (is-of k) (fault_if b code) ≡ false
fault-touches k true code = refl
fault-touches k false code = refl

pub touches-not : (side : Side) (h : History) (found : List Finding) (k : ℕ) (c : Check) → looks-at k c ≡ false → list_any (is-of k) (found_by side h found c) ≡ false
touches-not side h found k (Dequeue j) e = if-touches k _ (Dequeued j ∷ []) (rw e refl)
touches-not side h found k (Classify j) e = if-touches k _ (classified_as h found j (verdict h j)) (as-touches h found j k (verdict h j) e)
touches-not side h found k (ReadDatagram n piece) e = if-touches k _ (datagram_found h found n (datagram_of piece) ∷ []) (one (datagram_of piece))
  where
    one : (d : Result (ℕ × List ℕ) ErrorCode) → list_any (is-of k) (datagram_found h found n d ∷ []) ≡ false
    one (Err code) = refl
    one (Ok d) = refl
touches-not side h found k (WalkSession s) e = if-touches k (lives h found s) _ (one (is_over (session_walk_of (session_part h found s) ends.Running)) (session_walk_of (session_part h found s) (end_of (events h) s)))
  where
    one : (b : Bool) (w : SessionWalk) → list_any (is-of k) (session_found s b w) ≡ false
    one b walks.Running = refl
    one b (walks.Closed code reason) = refl
    one b (walks.Fault code) = refl
touches-not side h found k LocalStop e = fault-touches k (is_some (stop_of (events h) (local_uni side))) h3.ClosedCriticalStream
touches-not side h found k ReadSettings e = if-touches k _ (SettingsRead ∷ []) refl
touches-not side h found k ControlFault e = one (control_walk h (first_of control_in found)).fault
  where
    one : (f : Option ErrorCode) → list_any (is-of k) (elim f [ Some code ↦ Faulted code ∷ [] | None ↦ [] ]) ≡ false
    one (Some code) = refl
    one None = refl
touches-not side h found k EncoderEnd e = ended (first_of encoder_in found)
  where
    ended : (s : Option (ℕ × ℕ)) → list_any (is-of k) (end_fault h s) ≡ false
    ended None = refl
    ended (Some s) = fault-touches k (not (is_running (end_of (events h) s.0))) h3.ClosedCriticalStream
touches-not side h found k DecoderEnd e = ended (first_of decoder_in found)
  where
    ended : (s : Option (ℕ × ℕ)) → list_any (is-of k) (end_fault h s) ≡ false
    ended None = refl
    ended (Some s) = fault-touches k (not (is_running (end_of (events h) s.0))) h3.ClosedCriticalStream
