-- A lawful history that is open is at rest; a call that establishes no session, or a loss, leaves it so.
use Rattle.std.specs.Prelude.{[], ◌&&◌, ◌*◌, ◌++◌, ◌+◌, ◌<◌, ◌∷◌, ◌||◌, ◌≡◌, ◌≤◌, Bool, List, None, Option, Some, false, filter, if◌then◌else◌, is_some, length, nat_le, not, true, ℕ}
use Rattle.std.proofs.Common.{◌∙◌, ap, arith, refl, subst, sym}
use Rattle.std.proofs.lemmas.List.{append-nil}
use Rattle.wt_meaning.specs.Findings.{Faulted, Finding, SettingsRead, control_in, decoder_in, encoder_in, fault_of, first_of, is_classified, is_datagram, settings_came}
use Rattle.wt_meaning.specs.History.{History, Pair, contents, events, is_open, stream_count, with_bytes}
use Rattle.wt_meaning.specs.Moments.{ControlFault, DecoderEnd, EncoderEnd, LocalStop, ReadSettings, after_checks, after_moments, checks, control_walk, end_fault, fault_if, findings, is_ready, verdict}
use Rattle.wt_proto.specs.SessionWalk.{session_walk_of}
use Rattle.wt_meaning.specs.Windows.{is_established, is_gone, lives, session_in, session_part}
use Rattle.wt_promise.proofs.Accepted.{and-left}
use Rattle.wt_promise.proofs.Begun.{BegunFor}
use Rattle.wt_promise.proofs.Few.{gone-later}
use Rattle.wt_promise.proofs.Grows.{checks-add}
use Rattle.wt_promise.proofs.OpenStays.{no-fault}
use Rattle.wt_promise.proofs.Opened.{open-before}
use Rattle.wt_promise.proofs.Phases.{same-established}
use Rattle.wt_promise.proofs.Silent.{established-begun}
use Rattle.wt_promise.proofs.Verdicts.{given-classified}
use Rattle.wt_promise.specs.Promise.{IsHistory}
use Rattle.wt_sessions.specs.Moment.{is_peers}
use Rattle.wt_proto.specs.declared.control_walk.ControlWalk.{ControlWalk}
use Rattle.wt_proto.specs.declared.verdict.Verdict.{Verdict}
use Rattle.wt_turn.specs.Reports.{credit, datagrams_of, end_of, is_connected, stop_of, unis_allowed}
use Rattle.wt_turn.specs.Streams.{local_uni, peer_bi, peer_count, peer_uni}
use Rattle.wt_sessions_agree.proofs.Appends.{filter-ids}
use Rattle.wt_sessions_agree.proofs.Basics.{and-false}
use Rattle.wt_sessions_agree.proofs.RestKinds.{Left, Still, Taken, is_incomplete, is_stuck, stuck}
use Rattle.wt_sessions_agree.proofs.RestLaws.{And, AtRest, Empty, Quiet, at-rest, comes-to-rest, critical, quiet-more, rest-quiet}
use Rattle.wt_sessions_agree.proofs.ThereLaws.{established-there}
use Rattle.wt_sessions_agree.specs.Orderly.{Known}
use Rattle.wt_turn.specs.Log.{Event, Loss}
use Rattle.wt_turn.specs.declared.call.Call.{Call}
use Rattle.wt_turn.specs.declared.loss.LossReason.{LossReason}
use Rattle.wt_turn.specs.declared.reply.Reply.{Reply}
use Rattle.wt_turn.specs.declared.turn.Turn.{Turn}
use Rattle.wt_wire.specs.declared.side.Side.{Side}
use Rattle.wt_wire.specs.declared.side.Side.TheVariants.{Client, Server}
use Rattle.wt_wire.specs.declared.side.StreamEnd.{StreamEnd}
use Rattle.wt_turn.specs.declared.reply.Reply.TheVariants as replies
use Rattle.wt_turn.specs.declared.turn.Turn.TheVariants as turns
use Rattle.wt_wire.specs.declared.error.ErrorCode.TheVariants as h3

-- ---- a lawful history

-- what is established with a pair was known before its moment
known-before : (side : Side) (p : Pair) (h : History) → IsHistory side (p ∷ h) → Known side (p ∷ h) (findings side h)
known-before side p h i k e = by side i (established-begun side (p ∷ h) i k e)
  where
    by : (s : Side) → IsHistory s (p ∷ h) → BegunFor s (p ∷ h) k → (is_peers s k && not (is_classified (findings s h) k)) ≡ false
    by Client j b = rw b refl
    by Server j b = let c : is_classified (findings Server h) k ≡ true = given-classified Server p h j k b in rw c (and-false (is_peers Server k))

-- the second moment of a reply that establishes a session finds nothing
pub moments-once : (side : Side) (h : History) (r : Reply) (found : List Finding) → Known side h found → after_moments side h r found ≡ after_checks side h (checks side h) found
moments-once side h (replies.Session id) found known = at-rest side h found known
moments-once side h r found known = refl

-- so what a pair finds is found by one
findings-once : (side : Side) (p : Pair) (h : History) → IsHistory side (p ∷ h) → is_open h ≡ true → findings side (p ∷ h) ≡ after_checks side (p ∷ h) (checks side (p ∷ h)) (findings side h)
unfolding findings
findings-once side p h i o =
    ap (λ (b : Bool). if b then after_moments side (p ∷ h) p.answer.reply (findings side h) else findings side h) o
    ∙ moments-once side (p ∷ h) p.answer.reply (findings side h) (known-before side p h i)

first-rest : (side : Side) → AtRest side [] (findings side [])
unfolding findings
first-rest side = record {
  unis = λ i l. absurd (omega (arith, l));
  bis = λ i l. absurd (omega (arith, l));
  datagrams = λ e. omega arith;
  sessions = λ i l e. absurd (omega (arith, l));
  critical = And _ _ refl (And _ _ refl (And _ _ refl (And _ _ refl (And _ _ refl Empty))));
}

rest-of : (side : Side) (h : History) → IsHistory side h → is_open h ≡ true → AtRest side h (findings side h)
rest-of side [] i o = first-rest side
rest-of side (p ∷ h) i o =
    let same = findings-once side p h i (open-before p h o) in
    subst (AtRest side (p ∷ h)) (sym same) (comes-to-rest side (p ∷ h) (findings side h) (known-before side p h i) (sym (ap fault_of same) ∙ no-fault side (p ∷ h) i o))

-- at rest, the checks leave what was found
rest-same : (side : Side) (h : History) (found : List Finding) → AtRest side h found → after_checks side h (checks side h) found ≡ found
rest-same side h found r = checks-add side h (checks side h) found ∙ ap (λ (xs : List Finding). found ++ xs) (quiet-more side h found (checks side h) (rest-quiet side h found r)) ∙ append-nil found

-- ---- one more pair that brings nothing

-- what a moment asks of what came is as before
record SeesSame (side : Side) (h later : History) : Type 0 where
  ready : is_ready side later ≡ is_ready side h
  contents : (k : ℕ) → contents later k ≡ contents h k
  end : (k : ℕ) → end_of (events later) k ≡ end_of (events h) k
  stopped : stop_of (events later) (local_uni side) ≡ stop_of (events h) (local_uni side)
  peers : (kind : ℕ) → peer_count side (events later) kind ≡ peer_count side (events h) kind
  datagrams : datagrams_of (events later) ≡ datagrams_of (events h)

module _ (side : Side) (h later : History) (same : SeesSame side h later) where
  verdict-same : (k : ℕ) → verdict later k ≡ verdict h k
  verdict-same k = rw (same.contents k, same.end k) refl

  stuck-same : (found : List Finding) (kind i : ℕ) → stuck later found kind i ≡ stuck h found kind i
  stuck-same found kind i =
      ap length (filter-ids (is_stuck later found) (is_stuck h found) kind 0 i
      (λ j a b. ap (λ (v : Verdict). not (is_classified found (4 * j + kind)) && is_incomplete v) (verdict-same (4 * j + kind))))

  still-same : (found : List Finding) (kind i : ℕ) → Still side h found kind i → Still side later found kind i
  still-same found kind i (Taken d c) = Taken d (ap (λ (v : Verdict). is_classified found (4 * i + kind) || is_incomplete v) (verdict-same (4 * i + kind)) ∙ c)
  still-same found kind i (Left d r) = Left d (rw (same.ready, stuck-same found kind i) r)

  part-same : (found : List Finding) (s : ℕ) → session_part later found s ≡ session_part h found s
  part-same found s = rw (same.contents s, same.end s) refl

  walk-same : (stream : Option (ℕ × ℕ)) → control_walk later stream ≡ control_walk h stream
  walk-same None = refl
  walk-same (Some stream) = rw (same.contents stream.0, same.end stream.0) refl

  end-same : (stream : Option (ℕ × ℕ)) → end_fault later stream ≡ end_fault h stream
  end-same None = refl
  end-same (Some stream) = rw (same.end stream.0) refl

  critical-same : (found : List Finding) → Quiet side h found critical → Quiet side later found critical
  critical-same found (And _ _ a (And _ _ b (And _ _ c (And _ _ d (And _ _ e Empty))))) =
      And LocalStop _ (ap (λ (o : Option ℕ). fault_if (is_some o) h3.ClosedCriticalStream) same.stopped ∙ a)
      (And ReadSettings _ (ap (λ (w : ControlWalk). if not (settings_came found) && is_some w.settings then SettingsRead ∷ [] else []) (walk-same (first_of control_in found)) ∙ b)
      (And ControlFault _ (ap (λ (w : ControlWalk). elim w.fault as (λ x. List Finding) [ Some code ↦ Faulted code ∷ [] | None ↦ [] ]) (walk-same (first_of control_in found)) ∙ c)
      (And EncoderEnd _ (end-same (first_of encoder_in found) ∙ d) (And DecoderEnd _ (end-same (first_of decoder_in found) ∙ e) Empty))))

  -- so that all stays at rest, where a session that lives lived and was there
  rest-stays : (found : List Finding) → ((i : ℕ) → lives later found (4 * i + 0) ≡ true → (i < stream_count side h 0) × (lives h found (4 * i + 0) ≡ true)) → AtRest side h found
      → AtRest side later found
  rest-stays found old r = record {
    unis = λ i l. still-same found (peer_uni side) i (r.unis i (subst (λ (n : ℕ). i < n) (same.peers (peer_uni side)) l));
    bis = λ i l. still-same found (peer_bi side) i (r.bis i (subst (λ (n : ℕ). i < n) (same.peers (peer_bi side)) l));
    datagrams = λ e. subst (λ (ds : List (List ℕ)). length ds ≤ length (filter is_datagram found)) (sym same.datagrams) (r.datagrams (sym same.ready ∙ e));
    sessions = λ i l e. let o = old i e in
        ap (λ (bytes : List ℕ). session_walk_of bytes (end_of (events later) (4 * i + 0))) (part-same found (4 * i + 0))
        ∙ ap (λ (x : StreamEnd). session_walk_of (session_part h found (4 * i + 0)) x) (same.end (4 * i + 0)) ∙ r.sessions i o.0 o.1;
    critical = critical-same found r.critical;
  }

-- a session that lives after a pair that establishes none lived before it
lived : (p : Pair) (h : History) (found : List Finding) (s : ℕ) → session_in p.answer.reply ≡ None → lives (p ∷ h) found s ≡ true → lives h found s ≡ true
lived p h found s n e = by (is_established h s) (is_gone h found s) refl refl
  where
    established : is_established h s ≡ true
    established = sym (same-established p h s n) ∙ and-left (is_established (p ∷ h) s) (not (is_gone (p ∷ h) found s)) e

    by : (a g : Bool) → is_established h s ≡ a → is_gone h found s ≡ g → (a && not g) ≡ true
    by true false x y = refl
    by false g x y = absurd (cc (sym x ∙ established))
    by true true x y = let m : is_gone (p ∷ h) found s ≡ true = gone-later p h found s y in
        absurd (let f : lives (p ∷ h) found s ≡ false = rw (same-established p h s n, x, m) refl in cc (sym f ∙ e))

-- a pair that brings nothing and establishes no session
module _ (side : Side) (h : History) (p : Pair) (i : IsHistory side h) (o : is_open h ≡ true) (n : session_in p.answer.reply ≡ None) where
  old : (j : ℕ) → lives (p ∷ h) (findings side h) (4 * j + 0) ≡ true → (j < stream_count side h 0) × (lives h (findings side h) (4 * j + 0) ≡ true)
  old j e =
      let l = lived p h (findings side h) (4 * j + 0) n e in
      let t = (established-there side h i (4 * j + 0) (and-left (is_established h (4 * j + 0)) (not (is_gone h (findings side h) (4 * j + 0))) l)).there in
      (omega (arith, t), l)

  idle-rest : SeesSame side h (p ∷ h) → AtRest side (p ∷ h) (findings side h)
  idle-rest same = rest-stays side h (p ∷ h) same (findings side h) old (rest-of side h i o)

  abbrev ready-by : List Event → Bool
  ready-by es = is_connected es && nat_le 1 (unis_allowed es) && nat_le 25 (credit es (local_uni side))

  -- the turn brings no bytes, and these events, of which a moment asks the same
  sees-by : (es : List Event) → events (p ∷ h) ≡ es → ((k : ℕ) → with_bytes k p.turn (contents h k) ≡ contents h k) → ready-by es ≡ ready-by (events h)
      → ((k : ℕ) → end_of es k ≡ end_of (events h) k) → stop_of es (local_uni side) ≡ stop_of (events h) (local_uni side)
      → ((kind : ℕ) → peer_count side es kind ≡ peer_count side (events h) kind) → datagrams_of es ≡ datagrams_of (events h) → SeesSame side h (p ∷ h)
  sees-by es e bytes ready end stopped peers datagrams = record {
    ready = ap ready-by e ∙ ready;
    contents = λ k. ap (λ (b : Bool). if b then with_bytes k p.turn (contents h k) else contents h k) o ∙ bytes k;
    end = λ k. ap (λ (es : List Event). end_of es k) e ∙ end k;
    stopped = ap (λ (es : List Event). stop_of es (local_uni side)) e ∙ stopped;
    peers = λ kind. ap (λ (es : List Event). peer_count side es kind) e ∙ peers kind;
    datagrams = ap datagrams_of e ∙ datagrams;
  }

  call-same : (c : Call) → p.turn ≡ turns.Call c → SeesSame side h (p ∷ h)
  call-same c t = sees-by (events h) (rw (o, t) refl) (λ k. ap (λ (turn : Turn). with_bytes k turn (contents h k)) t) refl (λ k. refl) refl (λ kind. refl) refl

  loss-same : (reason : LossReason) → p.turn ≡ turns.Loss reason → SeesSame side h (p ∷ h)
  loss-same reason t = sees-by (Loss reason ∷ events h) (rw (o, t) refl) (λ k. ap (λ (turn : Turn). with_bytes k turn (contents h k)) t) refl (λ k. refl) refl (λ kind. refl) refl

  -- a call that establishes no session finds nothing at its moment
  pub idle-call : (c : Call) → p.turn ≡ turns.Call c → after_checks side (p ∷ h) (checks side (p ∷ h)) (findings side h) ≡ findings side h
  idle-call c t = rest-same side (p ∷ h) (findings side h) (idle-rest (call-same c t))

  -- nor does a loss
  pub idle-loss : (reason : LossReason) → p.turn ≡ turns.Loss reason → after_checks side (p ∷ h) (checks side (p ∷ h)) (findings side h) ≡ findings side h
  idle-loss reason t = rest-same side (p ∷ h) (findings side h) (idle-rest (loss-same reason t))
