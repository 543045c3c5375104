-- A verdict stays as contents grow, and the peer's streams stay opened; while the connection is open no event came late.
use Rattle.std.specs.Prelude.{[], ◌%◌, ◌&&◌, ◌++◌, ◌/◌, ◌==◌, ◌∷◌, ◌≡◌, ◌≤◌, Bool, List, None, Option, Some, false, if◌then◌else◌, not, true, unwrap_or, ℕ}
use Rattle.std.specs.Option.{option_or}
use Rattle.std.proofs.Common.{◌∙◌, ap, arith, refl, sym}
use Rattle.std.proofs.lemmas.Bool.{eqb-true, lt-ltb, ltb-true}
use Rattle.std.proofs.lemmas.List.{append-nil}
use Rattle.wt_meaning.specs.History.{History, Pair, all_events, can_receive, contents, events, is_open, with_bytes, with_event}
use Rattle.wt_meaning.specs.Lawful.{is_lawful, is_lost}
use Rattle.wt_meaning.specs.Moments.{verdict}
use Rattle.wt_promise.proofs.Accepted.{and-right}
use Rattle.wt_promise.proofs.SettingsOut.{open-events}
use Rattle.wt_promise.specs.Found.{peer_opened}
use Rattle.wt_proto.proofs.BiLaws.{bi_verdict_stays}
use Rattle.wt_proto.proofs.UniLaws.{uni_verdict_stays}
use Rattle.wt_proto.specs.Bi.{bi_verdict_of}
use Rattle.wt_proto.specs.Uni.{is_final, uni_verdict_of}
use Rattle.wt_proto.specs.declared.verdict.Verdict.{Verdict}
use Rattle.wt_turn.specs.Reports.{end_of, end_reported, is_connected, is_running}
use Rattle.wt_turn.specs.Streams.{one_more_if, peer_count, peer_opens}
use Rattle.wt_turn.specs.Log.{Event, newest}
use Rattle.wt_turn.specs.Turns.{event_of}
use Rattle.wt_turn.specs.declared.turn.Turn.{Turn}
use Rattle.wt_wire.specs.Ids.{is_bidirectional}
use Rattle.wt_wire.specs.declared.side.Side.{Side}
use Rattle.wt_wire.specs.declared.side.StreamEnd.{StreamEnd}
use Rattle.wt_turn.specs.declared.turn.Turn.TheVariants as turns
use Rattle.wt_wire.specs.declared.side.StreamEnd.TheVariants as ends

-- ---- what the peer opened stays

pub peers-more : (side : Side) (p : Pair) (h : History) (kind : ℕ) → peer_count side (events h) kind ≤ peer_count side (events (p ∷ h)) kind
peers-more side p h kind = by (is_open h) (event_of p.turn)
  where
    one-more : (b : Bool) (n : ℕ) → n ≤ one_more_if b n
    one-more true n = omega arith
    one-more false n = omega arith

    by : (o : Bool) (e : Option Event) → peer_count side (events h) kind ≤ peer_count side (if o then with_event e (events h) else events h) kind
    by true (Some e) = one-more (peer_opens side kind e) (peer_count side (events h) kind)
    by true None = omega arith
    by false e = omega arith

pub opened-more : (side : Side) (p : Pair) (h : History) (k : ℕ) → peer_opened side h k ≡ true → peer_opened side (p ∷ h) k ≡ true
opened-more side p h k e =
    lt-ltb (k / 4) (peer_count side (events (p ∷ h)) (k % 4)) (let a = ltb-true (k / 4) (peer_count side (events h) (k % 4)) e in let b = peers-more side p h (k % 4) in omega (arith, a, b))

-- ---- a verdict stays

-- the verdict over these bytes and this end
abbrev pub verdict-by : ℕ → List ℕ → StreamEnd → Verdict
verdict-by k bytes end = if is_bidirectional k then bi_verdict_of bytes end else uni_verdict_of bytes end

grown : (k : ℕ) (bytes more : List ℕ) (end : StreamEnd) (v : Verdict) → is_final v ≡ true → verdict-by k bytes ends.Running ≡ v → verdict-by k (bytes ++ more) end ≡ v
grown k bytes more end v f = by (is_bidirectional k)
  where
    by : (b : Bool) → (if b then bi_verdict_of bytes ends.Running else uni_verdict_of bytes ends.Running) ≡ v → (if b then bi_verdict_of (bytes ++ more) end else uni_verdict_of (bytes ++ more) end) ≡ v
    by true e = bi_verdict_stays bytes more end (ap is_final e ∙ f) ∙ e
    by false e = uni_verdict_stays bytes more end (ap is_final e ∙ f) ∙ e

running-is : (end : StreamEnd) → is_running end ≡ true → end ≡ ends.Running
running-is ends.Running e = refl
running-is ends.Fin e = absurd (cc e)
running-is (ends.Reset code) e = absurd (cc e)

-- what is received comes on a half that runs
runs : (side : Side) (h : History) (k : ℕ) (a b : Bool) → is_open h ≡ true → (a && (b && is_running (end_of (all_events h) k))) ≡ true → end_of (events h) k ≡ ends.Running
runs side h k a b o l = running-is (end_of (events h) k) (ap (λ (es : List Event). is_running (end_of es k)) (open-events h o) ∙ and-right b (is_running (end_of (all_events h) k)) (and-right a (b && is_running (end_of (all_events h) k)) l))

shown-now : (side : Side) (h : History) (turn : Turn) (k : ℕ) (v : Verdict) → is_open h ≡ true → is_lawful side h turn ≡ true → is_final v ≡ true → verdict h k ≡ v
    → verdict-by k (with_bytes k turn (contents h k)) (end_of (with_event (event_of turn) (events h)) k) ≡ v
shown-now side h (turns.Bytes id piece) k v o l f e = by (id == k) refl
  where
    by : (b : Bool) → (id == k) ≡ b → verdict-by k (if b then contents h k ++ piece else contents h k) (end_of (events h) k) ≡ v
    by false q = e
    by true q =
        let r : end_of (events h) k ≡ ends.Running = ap (end_of (events h)) (sym (eqb-true id k q)) ∙ runs side h id (is_connected (all_events h) && not (is_lost h)) (can_receive side h id) o l in
        ap (verdict-by k (contents h k ++ piece)) r ∙ grown k (contents h k) piece ends.Running v f (ap (verdict-by k (contents h k)) (sym r) ∙ e)
shown-now side h (turns.End id) k v o l f e = by (id == k) refl
  where
    by : (b : Bool) → (id == k) ≡ b → verdict-by k (contents h k) (unwrap_or (option_or (if b then Some ends.Fin else None) (newest (end_reported k) (events h))) ends.Running) ≡ v
    by false q = e
    by true q =
        let r : end_of (events h) k ≡ ends.Running = ap (end_of (events h)) (sym (eqb-true id k q)) ∙ runs side h id (is_connected (all_events h) && not (is_lost h)) (can_receive side h id) o l in
        ap (λ (bytes : List ℕ). verdict-by k bytes ends.Fin) (sym (append-nil (contents h k))) ∙ grown k (contents h k) [] ends.Fin v f (ap (verdict-by k (contents h k)) (sym r) ∙ e)
shown-now side h (turns.Reset id code) k v o l f e = by (id == k) refl
  where
    by : (b : Bool) → (id == k) ≡ b → verdict-by k (contents h k) (unwrap_or (option_or (if b then Some (ends.Reset code) else None) (newest (end_reported k) (events h))) ends.Running) ≡ v
    by false q = e
    by true q =
        let r : end_of (events h) k ≡ ends.Running = ap (end_of (events h)) (sym (eqb-true id k q)) ∙ runs side h id (is_connected (all_events h) && not (is_lost h)) (can_receive side h id) o l in
        ap (λ (bytes : List ℕ). verdict-by k bytes (ends.Reset code)) (sym (append-nil (contents h k))) ∙ grown k (contents h k) [] (ends.Reset code) v f (ap (verdict-by k (contents h k)) (sym r) ∙ e)
shown-now side h turn k v o l f e = e

pub shown-stays : (side : Side) (p : Pair) (h : History) (k : ℕ) (v : Verdict) → is_lawful side h p.turn ≡ true → is_final v ≡ true → verdict h k ≡ v → verdict (p ∷ h) k ≡ v
shown-stays side p h k v l f e = by (is_open h) refl
  where
    by : (b : Bool) → is_open h ≡ b → verdict-by k (if b then with_bytes k p.turn (contents h k) else contents h k) (end_of (if b then with_event (event_of p.turn) (events h) else events h) k) ≡ v
    by true o = shown-now side h p.turn k v o l f e
    by false o = e
