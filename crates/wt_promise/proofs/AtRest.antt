-- Where all was found, a further pass finds nothing.
use Rattle.std.specs.Prelude.{[], ◌&&◌, ◌*◌, ◌++◌, ◌+◌, ◌<◌, ◌==◌, ◌∷◌, ◌||◌, ◌≡◌, ◌≤◌, Bool, List, None, Option, Some, false, filter, if◌then◌else◌, is_some, length, map, nat_lt, not, suc, true, zero, ℕ}
use Rattle.std.specs.List.{list_any}
use Rattle.std.specs.Option.{option_or}
use Rattle.std.proofs.Common.{◌∙◌, ap, arith, refl, sym}
use Rattle.std.proofs.lemmas.Bool.{eq-eqb, eqb-true}
use Rattle.std.proofs.lemmas.List.{append-nil}
use Rattle.wt_meaning.specs.Findings.{Dequeued, Faulted, Finding, SettingsRead, control_in, decoder_in, encoder_in, fault_of, first_of, is_datagram, is_dequeued, settings_came}
use Rattle.wt_meaning.specs.History.{History, events, stream_count}
use Rattle.wt_meaning.specs.Moments.{Check, Classify, Dequeue, WalkSession, after_checks, checks, classified_as, control_walk, datagram_checks, datagram_found, end_fault, fault_if, found_by, ids_from, session_found, stream_checks, unclassified_before, verdict}
use Rattle.wt_proto.specs.SessionWalk.{is_over, session_walk_of}
use Rattle.wt_meaning.specs.Windows.{lives, session_part}
use Rattle.wt_message.specs.Datagram.{datagram_of}
use Rattle.wt_promise.proofs.DatagramReads.{read-number, read-of}
use Rattle.wt_promise.proofs.Fresh.{nth-of}
use Rattle.wt_promise.proofs.PassFaults.{Quiet, last-checks, late-fault, settings-there, stop-fault}
use Rattle.wt_promise.proofs.Settles.{SettledAt, open-ones}
use Rattle.wt_promise.specs.Found.{can_set_up, code_if, datagrams_fault, early_fault, ended_fault, first_fault, session_walk, sessions_fault, streams_fault}
use Rattle.wt_proto.specs.Uni.{is_final}
use Rattle.wt_proto.specs.declared.verdict.Verdict.{Verdict}
use Rattle.wt_promise.proofs.OnePass.{bi-kind, uni-kind}
use Rattle.wt_turn.specs.Reports.{datagrams_of, end_of, is_running, stop_of}
use Rattle.wt_turn.specs.Streams.{local_uni, peer_bi, peer_count, peer_uni}
use Rattle.wt_wire.specs.declared.error.ErrorCode.{ErrorCode}
use Rattle.wt_wire.specs.declared.side.Side.{Side}
use Rattle.wt_proto.specs.declared.verdict.Verdict.TheVariants as verdicts
use Rattle.wt_wire.specs.declared.error.ErrorCode.TheVariants as h3
use Rattle.wt_wire.specs.declared.side.StreamEnd.TheVariants as ends

-- all that is to be found was found, and it is no fault
pub record Whole (side : Side) (h : History) (found : List Finding) : Type 0 where
  pub unis : (i : ℕ) → i < peer_count side (events h) (peer_uni side) → SettledAt side h found (peer_uni side) i
  pub bis : (i : ℕ) → i < peer_count side (events h) (peer_bi side) → SettledAt side h found (peer_bi side) i
  pub read : can_set_up side h ≡ true → length (read-of found) ≡ length (datagrams_of (events h))
  pub quiet : (t : ℕ) → list_any (λ (s : ℕ). s == t) (ids_from 0 0 (stream_count side h 0)) ≡ true → Quiet side h t found
  pub fault : first_fault side h found ≡ None
  pub settings : settings-there side h found ≡ true → settings_came found ≡ true

pub none-left : {T : Type 0} (a b : Option T) → option_or a b ≡ None → a ≡ None
none-left None b e = refl
none-left (Some x) b e = absurd (cc e)

pub none-right : {T : Type 0} (a b : Option T) → option_or a b ≡ None → b ≡ None
none-right None b e = e
none-right (Some x) b e = absurd (cc e)

module _ (side : Side) (h : History) (found : List Finding) where
  abbrev RestsOn : List Check → Type 0
  RestsOn [] = Unit {0}
  RestsOn (c ∷ cs) = (found_by side h found c ≡ []) × RestsOn cs

  rests-append : (xs ys : List Check) → RestsOn xs → RestsOn ys → RestsOn (xs ++ ys)
  rests-append [] ys a b = b
  rests-append (x ∷ xs) ys a b = (a.0, rests-append xs ys a.1 b)

  at-rest : (cs : List Check) → RestsOn cs → after_checks side h cs found ≡ found
  at-rest [] r = refl
  at-rest (c ∷ cs) r = by (is_some (fault_of found)) (at-rest cs r.1)
    where
      by : (b : Bool) → after_checks side h cs found ≡ found → (if b then found else after_checks side h cs (found ++ found_by side h found c)) ≡ found
      by true q = refl
      by false q = ap (after_checks side h cs) (ap (λ (new : List Finding). found ++ new) r.0 ∙ append-nil found) ∙ q

  -- ---- streams

  module _ (kind i : ℕ) (l : kind < 4) (g : SettledAt side h found kind i) where
    no-read : found_by side h found (Dequeue (4 * i + kind)) ≡ []
    no-read = ap (λ (n : ℕ). if not (is_dequeued found (4 * i + kind)) && can_set_up side h && nat_lt n 4 then Dequeued (4 * i + kind) ∷ [] else []) ones
        ∙ ap (λ (b : Bool). if not b && can_set_up side h && nat_lt (open-ones found kind 0 i) 4 then Dequeued (4 * i + kind) ∷ [] else []) g.read
        ∙ by (can_set_up side h) (nat_lt (open-ones found kind 0 i) 4)
      where
        ones : unclassified_before found (4 * i + kind) ≡ open-ones found kind 0 i
        ones = let q = nth-of i kind l in rw (q.0, q.1) refl

        by : (a b : Bool) → (if not (a && b) && a && b then Dequeued (4 * i + kind) ∷ [] else []) ≡ []
        by true true = refl
        by true false = refl
        by false b = refl

    not-final : (v : Verdict) → is_final v ≡ false → classified_as h found (4 * i + kind) v ≡ []
    not-final verdicts.Incomplete e = refl
    not-final v e = absurd (cc e)

    no-classify : found_by side h found (Classify (4 * i + kind)) ≡ []
    no-classify =
        ap (λ (b : Bool). if is_dequeued found (4 * i + kind) && not b then classified_as h found (4 * i + kind) (verdict h (4 * i + kind)) else []) g.classified
        ∙ by (is_dequeued found (4 * i + kind)) (is_final (verdict h (4 * i + kind))) refl
      where
        by : (d f : Bool) → is_final (verdict h (4 * i + kind)) ≡ f → (if d && not (d && f) then classified_as h found (4 * i + kind) (verdict h (4 * i + kind)) else []) ≡ []
        by true true e = refl
        by true false e = not-final (verdict h (4 * i + kind)) e
        by false f e = refl

  streams-rest : (kind : ℕ) → kind < 4 → (count n : ℕ) → ((i : ℕ) → i < n + count → SettledAt side h found kind i) → RestsOn (stream_checks (ids_from kind n count))
  streams-rest kind l zero n g = tt
  streams-rest kind l (suc count) n g =
      (no-read kind n l (g n (omega arith)), (no-classify kind n l (g n (omega arith)), streams-rest kind l count (suc n) (λ i b. g i (omega (arith, b)))))

  -- ---- datagrams

  datagrams-rest : (ps : List (List ℕ)) (n : ℕ) → (can_set_up side h ≡ true → n + length ps ≤ length (read-of found)) → RestsOn (datagram_checks n ps)
  datagrams-rest [] n g = tt
  datagrams-rest (p ∷ ps) n g = (by (can_set_up side h) refl, datagrams-rest ps (suc n) (λ r. let q = g r in omega (arith, q)))
    where
      not-here : can_set_up side h ≡ true → (length (filter is_datagram found) == n) ≡ false
      not-here r = of (length (filter is_datagram found) == n) refl
        where
          of : (b : Bool) → (length (filter is_datagram found) == n) ≡ b → b ≡ false
          of true e = absurd (let x = eqb-true (length (filter is_datagram found)) n e in let y = g r in omega (arith, x, y, read-number found))
          of false e = refl

      by : (b : Bool) → can_set_up side h ≡ b → (if b && length (filter is_datagram found) == n then datagram_found h found n (datagram_of p) ∷ [] else []) ≡ []
      by true r = rw (not-here r) refl
      by false r = refl

  -- ---- sessions

  sessions-rest : (ids : List ℕ) → ((t : ℕ) → list_any (λ (s : ℕ). s == t) ids ≡ true → Quiet side h t found) → RestsOn (map WalkSession ids)
  sessions-rest [] g = tt
  sessions-rest (s ∷ ids) g =
      (by (lives h found s) (is_over (session_walk_of (session_part h found s) ends.Running)) refl, sessions-rest ids (λ t e. g t (ap (λ (b : Bool). (s == t) || b) e ∙ or-true (s == t))))
    where
      or-true : (b : Bool) → (b || true) ≡ true
      or-true true = refl
      or-true false = refl

      by : (l b : Bool) → lives h found s ≡ l → (if l then session_found s b (session_walk h found s) else []) ≡ []
      by true b e = ap (session_found s b) (g s (ap (λ (x : Bool). x || list_any (λ (t : ℕ). t == s) ids) (eq-eqb s s refl)) e)
      by false b e = refl

  -- ---- the last checks

  no-code : (b : Bool) (code : ErrorCode) → code_if b code ≡ None → fault_if b code ≡ []
  no-code true code e = absurd (cc e)
  no-code false code e = refl

  no-end : (s : Option (ℕ × ℕ)) → ended_fault h s ≡ None → end_fault h s ≡ []
  no-end None e = refl
  no-end (Some s) e = no-code (not (is_running (end_of (events h) s.0))) h3.ClosedCriticalStream e

  pub rests : Whole side h found → after_checks side h (checks side h) found ≡ found
  rests w =
      at-rest (checks side h)
      (rests-append (((unis ++ bis) ++ pieces) ++ sessions) (last-checks side h)
      (rests-append ((unis ++ bis) ++ pieces) sessions
      (rests-append (unis ++ bis) pieces
      (rests-append unis bis (streams-rest (peer_uni side) (uni-kind side) (peer_count side (events h) (peer_uni side)) 0 (λ i b. w.unis i (omega (arith, b))))
      (streams-rest (peer_bi side) (bi-kind side) (peer_count side (events h) (peer_bi side)) 0 (λ i b. w.bis i (omega (arith, b)))))
      (datagrams-rest (datagrams_of (events h)) 0 (λ r. let q = w.read r in omega (arith, q))))
      (sessions-rest (ids_from 0 0 (stream_count side h 0)) w.quiet)) (
        no-code (is_some (stop_of (events h) (local_uni side))) h3.ClosedCriticalStream stop,
        (
          settings (settings_came found) (settings-there side h found) refl refl,
          (
            control (control_walk h (first_of control_in found)).fault (none-left _ _ late),
            (no-end (first_of encoder_in found) (none-left _ _ (none-right _ _ late)), (no-end (first_of decoder_in found) (none-right _ _ (none-right _ _ late)), tt)),
          ),
        ),
      ))
    where
      unis : List Check
      unis = stream_checks (ids_from (peer_uni side) 0 (peer_count side (events h) (peer_uni side)))

      bis : List Check
      bis = stream_checks (ids_from (peer_bi side) 0 (peer_count side (events h) (peer_bi side)))

      pieces : List Check
      pieces = datagram_checks 0 (datagrams_of (events h))

      sessions : List Check
      sessions = map WalkSession (ids_from 0 0 (stream_count side h 0))

      late : late-fault side h found ≡ None
      late = none-right (early_fault side h found) (late-fault side h found) w.fault

      stop : stop-fault side h ≡ None
      stop = none-right (sessions_fault side h found) (stop-fault side h) (none-right (datagrams_fault side h) _ (none-right (streams_fault found) _ (none-left (early_fault side h found) (late-fault side h found) w.fault)))

      settings : (c t : Bool) → settings_came found ≡ c → settings-there side h found ≡ t → (if not c && t then SettingsRead ∷ [] else []) ≡ []
      settings true t e f = refl
      settings false false e f = refl
      settings false true e f = absurd (let q = sym e ∙ w.settings f in cc q)

      control : (f : Option ErrorCode) → f ≡ None → ◌≡◌ {A = List Finding} (elim f [ Some code ↦ Faulted code ∷ [] | None ↦ [] ]) []
      control None e = refl
      control (Some code) e = absurd (cc e)
