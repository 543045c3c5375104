-- What each finding of a moment rests on, beside what was found before it.
use Rattle.std.specs.Prelude.{[], ◌&&◌, ◌++◌, ◌==◌, ◌∷◌, ◌≡◌, Bool, Err, List, None, Ok, Option, Result, Some, filter, if◌then◌else◌, is_some, length, not, true, false, ℕ}
use Rattle.std.proofs.Common.{append_assoc, refl, subst, sym}
use Rattle.std.proofs.lemmas.List.{append-nil}
use Rattle.wt_meaning.specs.Findings.{Dequeued, Faulted, Finding, SettingsRead, control_in, decoder_in, encoder_in, fault_of, first_of, is_classified, is_datagram, is_dequeued}
use Rattle.wt_meaning.specs.History.{History, Pair, events, is_open}
use Rattle.wt_meaning.specs.Moments.{Check, Classify, ControlFault, DecoderEnd, Dequeue, EncoderEnd, LocalStop, ReadDatagram, ReadSettings, WalkSession, checks, classified_as, control_walk, datagram_found, end_fault, fault_if, findings, found_by, is_ready, session_found, verdict}
use Rattle.wt_proto.specs.SessionWalk.{is_over, session_walk_of}
use Rattle.wt_meaning.specs.Windows.{lives, session_part}
use Rattle.wt_message.specs.Datagram.{datagram_of}
use Rattle.wt_promise.proofs.Grows.{findings-add, more, more-by, news}
use Rattle.wt_promise.specs.Found.{FoundFor, FoundRightly, session_walk}
use Rattle.wt_proto.specs.declared.session_walk.SessionWalk.{SessionWalk}
use Rattle.wt_proto.specs.declared.verdict.Verdict.{Verdict}
use Rattle.wt_turn.specs.Reports.{end_of, is_running, stop_of}
use Rattle.wt_turn.specs.Streams.{local_uni}
use Rattle.wt_turn.specs.declared.reply.Reply.{Reply}
use Rattle.wt_wire.specs.declared.error.ErrorCode.{ErrorCode}
use Rattle.wt_wire.specs.declared.side.Side.{Side}
use Rattle.wt_proto.specs.declared.session_walk.SessionWalk.TheVariants as walks
use Rattle.wt_proto.specs.declared.verdict.Verdict.TheVariants as verdicts
use Rattle.wt_turn.specs.declared.reply.Reply.TheVariants as replies
use Rattle.wt_wire.specs.declared.error.ErrorCode.TheVariants as h3
use Rattle.wt_wire.specs.declared.side.StreamEnd.TheVariants as ends

-- each of these, after those before it
abbrev Each : History → List Finding → List Finding → Type 0
Each h found [] = Unit {0}
Each h found (f ∷ new) = FoundFor h found f × Each h (found ++ f ∷ []) new

each-append : (h : History) (xs found ys : List Finding) → Each h found xs → Each h (found ++ xs) ys → Each h found (xs ++ ys)
each-append h [] found ys a b = subst (λ (l : List Finding). Each h l ys) (append-nil found) b
each-append h (x ∷ xs) found ys a b = (a.0, each-append h xs (found ++ x ∷ []) ys a.1 (subst (λ (l : List Finding). Each h l ys) (sym (append_assoc found (x ∷ []) xs)) b))

each-at : (h : History) (before found : List Finding) (f : Finding) (after : List Finding) → Each h found (before ++ f ∷ after) → FoundFor h (found ++ before) f
each-at h [] found f after e = subst (λ (l : List Finding). FoundFor h l f) (sym (append-nil found)) e.0
each-at h (x ∷ before) found f after e = subst (λ (l : List Finding). FoundFor h l f) (append_assoc found (x ∷ []) before) (each-at h before (found ++ x ∷ []) f after e.1)

module _ (side : Side) (h : History) where
  each-if : (found new : List Finding) (b : Bool) → Each h found new → Each h found (if b then new else [])
  each-if found new true e = e
  each-if found new false e = tt

  each-fault : (found : List Finding) (b : Bool) (code : ErrorCode) → Each h found (fault_if b code)
  each-fault found true code = (tt, tt)
  each-fault found false code = tt

  each-end : (found : List Finding) (s : Option (ℕ × ℕ)) → Each h found (end_fault h s)
  each-end found None = tt
  each-end found (Some s) = each-fault found (not (is_running (end_of (events h) s.0))) h3.ClosedCriticalStream

  each-control : (found : List Finding) (f : Option ErrorCode) → Each h found (elim f [ Some code ↦ Faulted code ∷ [] | None ↦ [] ])
  each-control found (Some code) = (tt, tt)
  each-control found None = tt

  each-classified : (found : List Finding) (k : ℕ) (v : Verdict) → Each h found (classified_as h found k v)
  each-classified found k verdicts.Incomplete = tt
  each-classified found k (verdicts.WebTransport session offset) = (refl, tt)
  each-classified found k (verdicts.Request headers offset) = (refl, tt)
  each-classified found k (verdicts.Control offset) = (tt, each-fault _ (is_some (first_of control_in found)) h3.StreamCreation)
  each-classified found k (verdicts.Encoder offset) = (tt, each-fault _ (is_some (first_of encoder_in found)) h3.StreamCreation)
  each-classified found k (verdicts.Decoder offset) = (tt, each-fault _ (is_some (first_of decoder_in found)) h3.StreamCreation)
  each-classified found k (verdicts.Refused code) = (tt, tt)
  each-classified found k verdicts.Dropped = (tt, tt)
  each-classified found k (verdicts.Fault code) = (tt, (tt, tt))

  each-check : (found : List Finding) (c : Check) → Each h found (found_by side h found c)
  each-check found (Dequeue k) = each-if found (Dequeued k ∷ []) _ (tt, tt)
  each-check found (Classify k) = each-if found (classified_as h found k (verdict h k)) (is_dequeued found k && not (is_classified found k)) (each-classified found k (verdict h k))
  each-check found (ReadDatagram n piece) = each-if found (datagram_found h found n (datagram_of piece) ∷ []) (is_ready side h && length (filter is_datagram found) == n) (one (datagram_of piece))
    where
      one : (d : Result (ℕ × List ℕ) ErrorCode) → Each h found (datagram_found h found n d ∷ [])
      one (Err code) = (tt, tt)
      one (Ok d) = (refl, tt)
  each-check found (WalkSession s) = by (lives h found s) (session_walk h found s) (is_over (session_walk_of (session_part h found s) ends.Running)) refl refl refl
    where
      by : (l : Bool) (w : SessionWalk) (b : Bool) → lives h found s ≡ l → session_walk h found s ≡ w → b ≡ is_over (session_walk_of (session_part h found s) ends.Running) → Each h found (if l then session_found s b w else [])
      by true (walks.Closed code reason) b x y z = ((x, y, z), tt)
      by true walks.Running b x y z = tt
      by true (walks.Fault code) b x y z = (tt, tt)
      by false w b x y z = tt
  each-check found LocalStop = each-fault found (is_some (stop_of (events h) (local_uni side))) h3.ClosedCriticalStream
  each-check found ReadSettings = each-if found (SettingsRead ∷ []) _ (tt, tt)
  each-check found ControlFault = each-control found (control_walk h (first_of control_in found)).fault
  each-check found EncoderEnd = each-end found (first_of encoder_in found)
  each-check found DecoderEnd = each-end found (first_of decoder_in found)

  each-more : (cs : List Check) (found : List Finding) → Each h found (more side h cs found)
  each-more [] found = tt
  each-more (c ∷ cs) found = by (is_some (fault_of found)) (each-append h (found_by side h found c) found (more side h cs (found ++ found_by side h found c)) (each-check found c) (each-more cs (found ++ found_by side h found c)))
    where
      by : (b : Bool) → Each h found (found_by side h found c ++ more side h cs (found ++ found_by side h found c)) → Each h found (if b then [] else found_by side h found c ++ more side h cs (found ++ found_by side h found c))
      by true e = tt
      by false e = e

  each-by : (r : Reply) (found : List Finding) → Each h found (more-by side h r found)
  each-by (replies.Session id) found = each-append h (more side h (checks side h) found) found _ (each-more (checks side h) found) (each-more (checks side h) (found ++ more side h (checks side h) found))
  each-by r found = each-more (checks side h) found

pub found_rightly : (side : Side) (p : Pair) (h : History) → FoundRightly side p h
found_rightly side p h = record {
  new = news side p h;
  stays = findings-add side p h;
  each = λ before after f e. each-at (p ∷ h) before (findings side h) f after (subst (λ (new : List Finding). Each (p ∷ h) (findings side h) new) e (by (is_open h)));
}
  where
    by : (b : Bool) → Each (p ∷ h) (findings side h) (if b then more-by side (p ∷ h) p.answer.reply (findings side h) else [])
    by true = each-by side (p ∷ h) p.answer.reply (findings side h)
    by false = tt
