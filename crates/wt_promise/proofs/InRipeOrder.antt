-- The streams that a moment classifies come in order.
use Rattle.wt_promise.proofs.Statements.{ClassifiedInOrder}
use Rattle.std.specs.Prelude.{[], ◌&&◌, ◌*◌, ◌+◌, ◌++◌, ◌==◌, ◌∷◌, ◌≡◌, Bool, Err, List, None, Ok, Option, Result, Some, drop, false, filter, filter_map, if◌then◌else◌, is_some, length, map, not, suc, true, zero, ℕ}
use Rattle.std.proofs.Common.{◌∙◌, ap, append_assoc, refl, subst, sym}
use Rattle.std.proofs.Math.Seq.{drop-append_seam}
use Rattle.std.proofs.lemmas.List.{append-nil}
use Rattle.std.proofs.lemmas.List.Elements.{filter_map-append}
use Rattle.wt_meaning.specs.Findings.{Dequeued, Faulted, Finding, SettingsRead, control_in, decoder_in, encoder_in, fault_of, first_of, is_classified, is_datagram, is_dequeued}
use Rattle.wt_meaning.specs.History.{History, Pair, events, is_open, stream_count}
use Rattle.wt_meaning.specs.Moments.{Check, Classify, ControlFault, DecoderEnd, Dequeue, EncoderEnd, LocalStop, ReadDatagram, ReadSettings, WalkSession, checks, classified_as, control_walk, datagram_checks, datagram_found, end_fault, fault_if, findings, found_by, ids_from, is_ready, session_found, stream_checks, verdict}
use Rattle.wt_proto.specs.SessionWalk.{is_over, session_walk_of}
use Rattle.wt_meaning.specs.Windows.{lives, session_part}
use Rattle.wt_message.specs.Datagram.{datagram_of}
use Rattle.wt_promise.proofs.Facts.{ended-found, facts, open-found, open-pass}
use Rattle.wt_promise.proofs.Grows.{checks-add, more, of-stream-fault}
use Rattle.wt_promise.specs.Found.{IsSubsequence, LeftOut, Nil, Taken, classified_id}
use Rattle.wt_promise.specs.Promise.{IsHistory}
use Rattle.wt_proto.specs.declared.session_walk.SessionWalk.{SessionWalk}
use Rattle.wt_proto.specs.declared.verdict.Verdict.{Verdict}
use Rattle.wt_turn.specs.Reports.{datagrams_of, end_of, is_running, stop_of}
use Rattle.wt_turn.specs.Streams.{local_uni, peer_bi, peer_count, peer_uni}
use Rattle.wt_wire.specs.declared.error.ErrorCode.{ErrorCode}
use Rattle.wt_wire.specs.declared.side.Side.{Side}
use Rattle.wt_proto.specs.declared.session_walk.SessionWalk.TheVariants as walks
use Rattle.wt_proto.specs.declared.verdict.Verdict.TheVariants as verdicts
use Rattle.wt_wire.specs.declared.error.ErrorCode.TheVariants as h3
use Rattle.wt_wire.specs.declared.side.StreamEnd.TheVariants as ends

abbrev ids : List Finding → List ℕ
ids new = filter_map classified_id new

-- the stream that the check may classify
abbrev asked : Check → List ℕ
asked (Classify k) = k ∷ []
asked _ = []

abbrev asked-all : List Check → List ℕ
asked-all [] = []
asked-all (c ∷ cs) = asked c ++ asked-all cs

sub-append : (xs ys vs ws : List ℕ) → IsSubsequence xs ys → IsSubsequence vs ws → IsSubsequence (xs ++ vs) (ys ++ ws)
sub-append xs ys vs ws (Nil _) t = left ys
  where
    left : (zs : List ℕ) → IsSubsequence vs (zs ++ ws)
    left [] = t
    left (z ∷ zs) = LeftOut vs z (zs ++ ws) (left zs)
sub-append xs (y ∷ ys) vs ws (LeftOut _ _ _ s) t = LeftOut (xs ++ vs) y (ys ++ ws) (sub-append xs ys vs ws s t)
sub-append (x ∷ xs) (y ∷ ys) vs ws (Taken _ _ _ s) t = Taken (xs ++ vs) x (ys ++ ws) (sub-append xs ys vs ws s t)

none : (new : List Finding) (c : Check) → ids new ≡ [] → IsSubsequence (ids new) (asked c)
none new c e = subst (λ (l : List ℕ). IsSubsequence l (asked c)) (sym e) (Nil (asked c))

if-ids : (b : Bool) (new : List Finding) → ids new ≡ [] → ids (if b then new else []) ≡ []
if-ids true new e = e
if-ids false new e = refl

fault-ids : (b : Bool) (code : ErrorCode) → ids (fault_if b code) ≡ []
fault-ids true code = refl
fault-ids false code = refl

end-ids : (h : History) (s : Option (ℕ × ℕ)) → ids (end_fault h s) ≡ []
end-ids h None = refl
end-ids h (Some s) = fault-ids (not (is_running (end_of (events h) s.0))) h3.ClosedCriticalStream

control-ids : (f : Option ErrorCode) → ids (elim f [ Some code ↦ Faulted code ∷ [] | None ↦ [] ]) ≡ []
control-ids (Some code) = refl
control-ids None = refl

shown-ids : (h : History) (found : List Finding) (k : ℕ) (v : Verdict) → IsSubsequence (ids (classified_as h found k v)) (k ∷ [])
shown-ids h found k verdicts.Incomplete = Nil (k ∷ [])
shown-ids h found k v = subst (λ (l : List ℕ). IsSubsequence (k ∷ l) (k ∷ [])) (sym (of-stream-fault (λ (fs : List Finding). ids fs ≡ []) refl (λ code. refl) found v)) (Taken [] k [] (Nil []))

module _ (side : Side) (h : History) where
  check-ids : (found : List Finding) (c : Check) → IsSubsequence (ids (found_by side h found c)) (asked c)
  check-ids found (Dequeue k) = none (found_by side h found (Dequeue k)) (Dequeue k) (if-ids _ (Dequeued k ∷ []) refl)
  check-ids found (Classify k) = by (is_dequeued found k && not (is_classified found k))
    where
      by : (b : Bool) → IsSubsequence (ids (if b then classified_as h found k (verdict h k) else [])) (k ∷ [])
      by true = shown-ids h found k (verdict h k)
      by false = Nil (k ∷ [])
  check-ids found (ReadDatagram n piece) = none (found_by side h found (ReadDatagram n piece)) (ReadDatagram n piece) (if-ids (is_ready side h && length (filter is_datagram found) == n) (datagram_found h found n (datagram_of piece) ∷ []) (one (datagram_of piece)))
    where
      one : (d : Result (ℕ × List ℕ) ErrorCode) → ids (datagram_found h found n d ∷ []) ≡ []
      one (Err code) = refl
      one (Ok d) = refl
  check-ids found (WalkSession s) = none (found_by side h found (WalkSession s)) (WalkSession s) (if-ids (lives h found s) _ (one (is_over (session_walk_of (session_part h found s) ends.Running)) (session_walk_of (session_part h found s) (end_of (events h) s))))
    where
      one : (b : Bool) (w : SessionWalk) → ids (session_found s b w) ≡ []
      one b walks.Running = refl
      one b (walks.Closed code reason) = refl
      one b (walks.Fault code) = refl
  check-ids found LocalStop = none (found_by side h found LocalStop) LocalStop (fault-ids (is_some (stop_of (events h) (local_uni side))) h3.ClosedCriticalStream)
  check-ids found ReadSettings = none (found_by side h found ReadSettings) ReadSettings (if-ids _ (SettingsRead ∷ []) refl)
  check-ids found ControlFault = none (found_by side h found ControlFault) ControlFault (control-ids (control_walk h (first_of control_in found)).fault)
  check-ids found EncoderEnd = none (found_by side h found EncoderEnd) EncoderEnd (end-ids h (first_of encoder_in found))
  check-ids found DecoderEnd = none (found_by side h found DecoderEnd) DecoderEnd (end-ids h (first_of decoder_in found))

  more-ids : (cs : List Check) (found : List Finding) → IsSubsequence (ids (more side h cs found)) (asked-all cs)
  more-ids [] found = Nil []
  more-ids (c ∷ cs) found = by (is_some (fault_of found)) (more-ids cs (found ++ found_by side h found c))
    where
      by : (b : Bool) → IsSubsequence (ids (more side h cs (found ++ found_by side h found c))) (asked-all cs)
          → IsSubsequence (ids (if b then [] else found_by side h found c ++ more side h cs (found ++ found_by side h found c))) (asked c ++ asked-all cs)
      by true s = Nil (asked c ++ asked-all cs)
      by false s =
          subst (λ (l : List ℕ). IsSubsequence l (asked c ++ asked-all cs)) (sym (filter_map-append classified_id (found_by side h found c) (more side h cs (found ++ found_by side h found c))))
          (sub-append (ids (found_by side h found c)) (asked c) (ids (more side h cs (found ++ found_by side h found c))) (asked-all cs) (check-ids found c) s)

  asked-append : (xs ys : List Check) → asked-all (xs ++ ys) ≡ asked-all xs ++ asked-all ys
  asked-append [] ys = refl
  asked-append (c ∷ xs) ys = ap (λ (l : List ℕ). asked c ++ l) (asked-append xs ys) ∙ sym (append_assoc (asked c) (asked-all xs) (asked-all ys))

  asked-streams : (kind count n : ℕ) → asked-all (stream_checks (ids_from kind n count)) ≡ ids_from kind n count
  asked-streams kind zero n = refl
  asked-streams kind (suc count) n = ap (λ (l : List ℕ). (4 * n + kind) ∷ l) (asked-streams kind count (suc n))

  asked-datagrams : (pieces : List (List ℕ)) (n : ℕ) → asked-all (datagram_checks n pieces) ≡ []
  asked-datagrams [] n = refl
  asked-datagrams (piece ∷ pieces) n = asked-datagrams pieces (suc n)

  asked-sessions : (ids : List ℕ) → asked-all (map WalkSession ids) ≡ []
  asked-sessions [] = refl
  asked-sessions (s ∷ ids) = asked-sessions ids

  all-asked : asked-all (checks side h) ≡ ids_from (peer_uni side) 0 (peer_count side (events h) (peer_uni side)) ++ ids_from (peer_bi side) 0 (peer_count side (events h) (peer_bi side))
  all-asked =
      asked-append (((unis ++ bis) ++ pieces) ++ sessions) (LocalStop ∷ ReadSettings ∷ ControlFault ∷ EncoderEnd ∷ DecoderEnd ∷ []) ∙ append-nil (asked-all (((unis ++ bis) ++ pieces) ++ sessions))
      ∙ asked-append ((unis ++ bis) ++ pieces) sessions ∙ ap (λ (l : List ℕ). asked-all ((unis ++ bis) ++ pieces) ++ l) (asked-sessions (ids_from 0 0 (stream_count side h 0))) ∙ append-nil (asked-all ((unis ++ bis) ++ pieces))
      ∙ asked-append (unis ++ bis) pieces ∙ ap (λ (l : List ℕ). asked-all (unis ++ bis) ++ l) (asked-datagrams (datagrams_of (events h)) 0) ∙ append-nil (asked-all (unis ++ bis))
      ∙ asked-append unis bis
      ∙ ap (λ (l : List ℕ). l ++ asked-all bis) (asked-streams (peer_uni side) (peer_count side (events h) (peer_uni side)) 0)
      ∙ ap (λ (l : List ℕ). ids_from (peer_uni side) 0 (peer_count side (events h) (peer_uni side)) ++ l) (asked-streams (peer_bi side) (peer_count side (events h) (peer_bi side)) 0)
    where
      unis : List Check
      unis = stream_checks (ids_from (peer_uni side) 0 (peer_count side (events h) (peer_uni side)))

      bis : List Check
      bis = stream_checks (ids_from (peer_bi side) 0 (peer_count side (events h) (peer_bi side)))

      pieces : List Check
      pieces = datagram_checks 0 (datagrams_of (events h))

      sessions : List Check
      sessions = map WalkSession (ids_from 0 0 (stream_count side h 0))

pub classified_in_order : (side : Side) (p : Pair) (h : History) → IsHistory side (p ∷ h) → ClassifiedInOrder side p h
classified_in_order side p h i new e = by (is_open h) refl
  where
    same : (l : List Finding) → findings side (p ∷ h) ≡ findings side h ++ l → new ≡ l
    same l f = sym (drop-append_seam (findings side h) new) ∙ ap (drop (length (findings side h))) (sym e ∙ f) ∙ drop-append_seam (findings side h) l

    by : (b : Bool) → is_open h ≡ b → IsSubsequence (ids new) (ids_from (peer_uni side) 0 (peer_count side (events (p ∷ h)) (peer_uni side)) ++ ids_from (peer_bi side) 0 (peer_count side (events (p ∷ h)) (peer_bi side)))
    by false o = subst (λ (l : List Finding). IsSubsequence (ids l) (ids_from (peer_uni side) 0 (peer_count side (events (p ∷ h)) (peer_uni side)) ++ ids_from (peer_bi side) 0 (peer_count side (events (p ∷ h)) (peer_bi side)))) (sym (same [] (ended-found side p h o ∙ sym (append-nil (findings side h))))) (Nil (ids_from (peer_uni side) 0 (peer_count side (events (p ∷ h)) (peer_uni side)) ++ ids_from (peer_bi side) 0 (peer_count side (events (p ∷ h)) (peer_bi side))))
    by true o =
        subst (λ (l : List Finding). IsSubsequence (ids l) (ids_from (peer_uni side) 0 (peer_count side (events (p ∷ h)) (peer_uni side)) ++ ids_from (peer_bi side) 0 (peer_count side (events (p ∷ h)) (peer_bi side))))
        (sym (same (more side (p ∷ h) (checks side (p ∷ h)) (findings side h)) (open-found side p h o (open-pass side p h i o (facts side h i.2)) ∙ checks-add side (p ∷ h) (checks side (p ∷ h)) (findings side h))))
        (subst (λ (l : List ℕ). IsSubsequence (ids (more side (p ∷ h) (checks side (p ∷ h)) (findings side h))) l) (all-asked side (p ∷ h)) (more-ids side (p ∷ h) (checks side (p ∷ h)) (findings side h)))
