-- While the connection is open, what was found is all that is to be found, and the control stream is the one of least id.
use Rattle.std.specs.Prelude.{[], ◌%◌, ◌&&◌, ◌*◌, ◌++◌, ◌+◌, ◌/◌, ◌<◌, ◌==◌, ◌∷◌, ◌||◌, ◌≡◌, ◌≤◌, Bool, List, None, Option, Some, false, filter_map, if◌then◌else◌, is_some, length, nat_lt, not, suc, true, unwrap_or, zero, ℕ}
use Rattle.std.specs.List.{cons_option, list_any}
use Rattle.std.specs.Option.{option_or}
use Rattle.std.proofs.Common.{◌∙◌, ap, arith, refl, subst, sym}
use Rattle.std.proofs.lemmas.Bool.{eq-eqb, eqb-false, eqb-true, le-leb, lt-ltb, ltb-false, ltb-true}
use Rattle.wt_meaning.specs.Findings.{Classified, Finding, control_in, decoder_in, encoder_in, first_of, is_classified, is_dequeued, settings_came, verdict_in, verdict_of}
use Rattle.wt_meaning.specs.History.{History, all_events, contents, events, is_open, stream_count, with_event}
use Rattle.wt_meaning.specs.Moments.{findings, ids_from, stream_fault, unclassified_before, verdict}
use Rattle.wt_meaning.specs.Windows.{is_established, is_gone}
use Rattle.wt_promise.proofs.Accepted.{and-left}
use Rattle.wt_promise.proofs.AtRest.{Whole, none-left}
use Rattle.wt_promise.proofs.DatagramReads.{read-of}
use Rattle.wt_promise.proofs.Facts.{Facts, facts}
use Rattle.wt_promise.proofs.Few.{given-queued}
use Rattle.wt_promise.proofs.Fresh.{established-opened, nth-of}
use Rattle.wt_promise.proofs.Grows.{AClassified, AClosed, ADatagram, ADequeued, AFault, ASettings, Adds, Nothing, findings-keep, first_of-append, first_of-stays, of-stream-fault}
use Rattle.wt_promise.proofs.OnePass.{opened-nth, uni-kind}
use Rattle.wt_promise.proofs.PassFaults.{late-fault, settings-there}
use Rattle.wt_promise.proofs.Passes.{option-none}
use Rattle.wt_promise.proofs.Settles.{SettledAt, more-open, open-ones}
use Rattle.wt_promise.proofs.Silent.{client-zero, established-begun}
use Rattle.wt_promise.proofs.VerdictKinds.{bi-not-once, is_once, is_request, uni-no-request}
use Rattle.wt_promise.proofs.Verdicts.{ARequest, IsRequest, queued-verdict, queues-has}
use Rattle.wt_promise.specs.Found.{AllFound, ShownBy, StreamSettled, can_set_up, code_if, control_at, early_fault, header_fault, least_control, peer_opened, streams_fault, twice}
use Rattle.wt_promise.specs.Promise.{IsHistory}
use Rattle.wt_proto.specs.Bi.{bi_verdict_of}
use Rattle.wt_proto.specs.Uni.{is_final, uni_verdict_of}
use Rattle.wt_proto.specs.declared.verdict.Verdict.{Verdict}
use Rattle.wt_turn.specs.Reports.{datagrams_of, end_of}
use Rattle.wt_turn.specs.Streams.{one_more_if, peer_bi, peer_count, peer_opens, peer_uni}
use Rattle.wt_turn.specs.Log.{Event, PeerBi, PeerUni}
use Rattle.wt_turn.specs.Turns.{event_of}
use Rattle.wt_wire.specs.Ids.{is_bidirectional}
use Rattle.wt_wire.specs.declared.error.ErrorCode.{ErrorCode}
use Rattle.wt_wire.specs.declared.side.Side.{Side}
use Rattle.wt_wire.specs.declared.side.Side.TheVariants.{Client, Server}
use Rattle.wt_proto.specs.declared.verdict.Verdict.TheVariants as verdicts
use Rattle.wt_wire.specs.declared.error.ErrorCode.TheVariants as h3

-- ---- streams of the peer

-- of a kind that isn't the peer's it opened none
pub none-opened : (side : Side) (es : List Event) (kind : ℕ) → (peer_uni side == kind) ≡ false → (peer_bi side == kind) ≡ false → peer_count side es kind ≡ 0
none-opened side [] kind u b = refl
none-opened side (PeerUni ∷ es) kind u b = rw (u, none-opened side es kind u b) refl
none-opened side (PeerBi ∷ es) kind u b = rw (b, none-opened side es kind u b) refl
none-opened side (e ∷ es) kind u b = none-opened side es kind u b

-- the stream's kind is one of the peer's two
pub data OfPeer (side : Side) (k : ℕ) : Type 0 where
  AUni : peer_uni side ≡ k % 4 → OfPeer side k
  ABi : peer_bi side ≡ k % 4 → OfPeer side k

pub of-peer : (side : Side) (h : History) (k : ℕ) → peer_opened side h k ≡ true → OfPeer side k
of-peer side h k o = by (peer_uni side == k % 4) (peer_bi side == k % 4) refl refl
  where
    by : (a b : Bool) → (peer_uni side == k % 4) ≡ a → (peer_bi side == k % 4) ≡ b → OfPeer side k
    by true b x y = AUni (eqb-true (peer_uni side) (k % 4) x)
    by false true x y = ABi (eqb-true (peer_bi side) (k % 4) y)
    by false false x y = absurd (let z = none-opened side (events h) (k % 4) x y in let l = ltb-true (k / 4) (peer_count side (events h) (k % 4)) o in omega (arith, z, l))

whole-id : (k : ℕ) → 4 * (k / 4) + k % 4 ≡ k
whole-id k = omega arith

pub settled-of : (side : Side) (h : History) → Whole side h (findings side h) → (k : ℕ) → peer_opened side h k ≡ true → StreamSettled side h k
settled-of side h w k o = by (of-peer side h k o)
  where
    there : k / 4 < peer_count side (events h) (k % 4)
    there = ltb-true (k / 4) (peer_count side (events h) (k % 4)) o

    of : SettledAt side h (findings side h) (k % 4) (k / 4) → StreamSettled side h k
    of g = record {
      read = ap (is_dequeued (findings side h)) (sym (whole-id k)) ∙ g.read;
      classified = ap (is_classified (findings side h)) (sym (whole-id k)) ∙ g.classified ∙ ap (λ (j : ℕ). is_dequeued (findings side h) j && is_final (verdict h j)) (whole-id k);
    }

    by : OfPeer side k → StreamSettled side h k
    by (AUni q) = of (subst (λ (kind : ℕ). SettledAt side h (findings side h) kind (k / 4)) q (w.unis (k / 4) (subst (λ (kind : ℕ). k / 4 < peer_count side (events h) kind) (sym q) there)))
    by (ABi q) = of (subst (λ (kind : ℕ). SettledAt side h (findings side h) kind (k / 4)) q (w.bis (k / 4) (subst (λ (kind : ℕ). k / 4 < peer_count side (events h) kind) (sym q) there)))

-- ---- the session of a request or of a connect is on a stream that is walked

ids-have : (count n i : ℕ) → n ≤ i → i < n + count → list_any (λ (t : ℕ). t == 4 * i + 0) (ids_from 0 n count) ≡ true
ids-have zero n i a b = absurd (omega (arith, a, b))
ids-have (suc count) n i a b = by (4 * n + 0 == 4 * i + 0) refl (λ q. ids-have count (suc n) i q (omega (arith, b)))
  where
    by : (x : Bool) → (4 * n + 0 == 4 * i + 0) ≡ x → (suc n ≤ i → list_any (λ (t : ℕ). t == 4 * i + 0) (ids_from 0 (suc n) count) ≡ true) → (x || list_any (λ (t : ℕ). t == 4 * i + 0) (ids_from 0 (suc n) count)) ≡ true
    by true q again = refl
    by false q again = again (of (n == i) refl)
      where
        of : (y : Bool) → (n == i) ≡ y → suc n ≤ i
        of true r = absurd (let s : true ≡ false = sym (eq-eqb (4 * n + 0) (4 * i + 0) (ap (λ (m : ℕ). 4 * m + 0) (eqb-true n i r))) ∙ q in cc s)
        of false r = let s = eqb-false n i r in omega (arith, a, s)

listed : (count s : ℕ) → s % 4 ≡ 0 → s / 4 < count → list_any (λ (t : ℕ). t == s) (ids_from 0 0 count) ≡ true
listed count s m l =
    let e : 4 * (s / 4) + 0 ≡ s = omega (arith, m) in
    subst (λ (n : ℕ). list_any (λ (t : ℕ). t == n) (ids_from 0 0 count) ≡ true) e (ids-have count 0 (s / 4) (omega arith) (omega (arith, l)))

-- a request's stream is bidirectional
request-bi : (h : History) (k : ℕ) (v : Verdict) → IsRequest v → verdict h k ≡ v → is_bidirectional k ≡ true
request-bi h k v (ARequest headers offset) e = by (is_bidirectional k) e
  where
    by : (b : Bool) → (if b then bi_verdict_of (contents h k) (end_of (events h) k) else uni_verdict_of (contents h k) (end_of (events h) k)) ≡ verdicts.Request headers offset → b ≡ true
    by true q = refl
    by false q = absurd (let r = sym (uni-no-request (contents h k) (end_of (events h) k)) ∙ ap is_request q in cc r)

events-fewer : (side : Side) (h : History) (kind : ℕ) → peer_count side (events h) kind ≤ peer_count side (all_events h) kind
events-fewer side [] kind = omega arith
events-fewer side (p ∷ h) kind = by (is_open h) (event_of p.turn) refl (events-fewer side h kind)
  where
    one-more : (b : Bool) (m n : ℕ) → m ≤ n → one_more_if b m ≤ one_more_if b n
    one-more true m n l = omega (arith, l)
    one-more false m n l = l

    late : (b : Bool) (m n : ℕ) → m ≤ n → m ≤ one_more_if b n
    late true m n l = omega (arith, l)
    late false m n l = l

    by : (b : Bool) (e : Option Event) → event_of p.turn ≡ e → peer_count side (events h) kind ≤ peer_count side (all_events h) kind
        → peer_count side (if b then with_event e (events h) else events h) kind ≤ peer_count side (all_events (p ∷ h)) kind
    by true (Some e) q l = rw q (one-more (peer_opens side kind e) _ _ l)
    by true None q l = rw q l
    by false (Some e) q l = rw q (late (peer_opens side kind e) _ _ l)
    by false None q l = rw q l

established-listed : (side : Side) (h : History) → IsHistory side h → (s : ℕ) → is_established h s ≡ true → list_any (λ (t : ℕ). t == s) (ids_from 0 0 (stream_count side h 0)) ≡ true
established-listed Client h i s e =
    let z = client-zero h i s e in let n = established-opened h i s e in
    listed (stream_count Client h 0) s (rw z refl) (let d : s / 4 ≡ 0 = rw z refl in omega (arith, d, n))
established-listed Server h i s e =
    let r = queued-verdict Server h s (queues-has s (findings Server h) (given-queued Server h i s (established-begun Server h i s e))) in
    let k = (facts Server h i).kept.shown s r.0 r.1 in
    let b = request-bi h s r.0 r.2 k.1.shown in
    by (of-peer Server h s k.1.opened) b k.1.opened
  where
    by : OfPeer Server s → is_bidirectional s ≡ true → peer_opened Server h s ≡ true → list_any (λ (t : ℕ). t == s) (ids_from 0 0 (stream_count Server h 0)) ≡ true
    by (AUni q) b o = absurd (let x = eqb-true (s / 2 % 2) 0 b in omega (arith, q, x))
    by (ABi q) b o =
        listed (stream_count Server h 0) s (sym q)
        (let l = ltb-true (s / 4) (peer_count Server (events h) (s % 4)) o in let m : peer_count Server (events h) (s % 4) ≡ peer_count Server (events h) 0 = ap (peer_count Server (events h)) (sym q) in
        let n = events-fewer Server h 0 in omega (arith, l, m, n))

-- ---- the control stream

-- the first control stream was classified so
abbrev ControlKnown : List Finding → Type 0
ControlKnown found = (st : ℕ × ℕ) → first_of control_in found ≡ Some st → verdict_of found st.0 ≡ Some (verdicts.Control st.1)

known-same : (found new : List Finding) → first_of control_in new ≡ None → ControlKnown found → ControlKnown (found ++ new)
known-same found new e g st q =
    first_of-stays (verdict_in st.0) found new (verdicts.Control st.1) (g st (sym (first_of-append control_in found new ∙ ap (option_or (first_of control_in found)) e ∙ option-none (first_of control_in found)) ∙ q))

no-more-control : (found : List Finding) (v : Verdict) → first_of control_in (stream_fault found v) ≡ None
no-more-control = of-stream-fault (λ (fs : List Finding). first_of control_in fs ≡ None) refl (λ code. refl)

known-step : (side : Side) (h : History) (found new : List Finding) → Adds side h found new → ControlKnown found → ControlKnown (found ++ new)
known-step side h found [] Nothing g = known-same found [] refl g
known-step side h found new (ADequeued j p) g = known-same found new refl g
known-step side h found new (ADatagram n t payload c) g = known-same found new refl g
known-step side h found new (AClosed t code reason b l) g = known-same found new refl g
known-step side h found new (ASettings c) g = known-same found new refl g
known-step side h found new (AFault code) g = known-same found new refl g
known-step side h found new (AClassified k (verdicts.Control offset) more p d c w m) g = λ st q. by st (first_of control_in found) refl (sym (first_of-append control_in found new) ∙ q)
  where
    fresh : (o : Option Verdict) → is_some o ≡ false → o ≡ None
    fresh None e = refl
    fresh (Some v) e = absurd (cc e)

    by : (st : ℕ × ℕ) (o : Option (ℕ × ℕ)) → first_of control_in found ≡ o → option_or o (Some (k, offset)) ≡ Some st → verdict_of (found ++ new) st.0 ≡ Some (verdicts.Control st.1)
    by st (Some x) e q = first_of-stays (verdict_in st.0) found new (verdicts.Control st.1) (g st (e ∙ q))
    by st None e q =
        let same : (k, offset) ≡ st = cc q in
        subst (λ (x : ℕ × ℕ). verdict_of (found ++ new) x.0 ≡ Some (verdicts.Control x.1)) same
        (first_of-append (verdict_in k) found new ∙ ap (λ (o : Option Verdict). option_or o (first_of (verdict_in k) new)) (fresh (verdict_of found k) c)
        ∙ ap (λ (b : Bool). option_or (if b then Some (verdicts.Control offset) else None) (first_of (verdict_in k) more)) (eq-eqb k k refl))
known-step side h found new (AClassified k v more p d c w m) g = known-same found new (ap (first_of control_in) m ∙ no-more-control found v) g

control-known : (side : Side) (h : History) → ControlKnown (findings side h)
unfolding findings
control-known side [] = λ st q. absurd (cc q)
control-known side (p ∷ h) = findings-keep side p h ControlKnown (λ found new a n g. known-step side (p ∷ h) found new a g) (control-known side h)

in-control : (f : Finding) (k offset : ℕ) → verdict_in k f ≡ Some (verdicts.Control offset) → control_in f ≡ Some (k, offset)
in-control (Classified id v keeps) k offset e = by (id == k) refl e
  where
    by : (b : Bool) → (id == k) ≡ b → (if b then Some v else None) ≡ Some (verdicts.Control offset) → control_in (Classified id v keeps) ≡ Some (k, offset)
    by true q r = let w : v ≡ verdicts.Control offset = cc r in ap (λ (x : Verdict). control_in (Classified id x keeps)) w ∙ ap (λ (n : ℕ). Some (n, offset)) (eqb-true id k q)
    by false q r = absurd (cc r)
in-control f k offset e = absurd (cc e)

cons-more : (o : Option (ℕ × ℕ)) (xs : List (ℕ × ℕ)) → length xs ≤ length (cons_option o xs)
cons-more None xs = omega arith
cons-more (Some x) xs = omega arith

one-control : (found : List Finding) (k offset : ℕ) → verdict_of found k ≡ Some (verdicts.Control offset) → 1 ≤ length (filter_map control_in found)
one-control [] k offset e = absurd (cc e)
one-control (f ∷ found) k offset e = by (verdict_in k f) refl e (one-control found k offset)
  where
    by : (o : Option Verdict) → verdict_in k f ≡ o → option_or o (verdict_of found k) ≡ Some (verdicts.Control offset) → (verdict_of found k ≡ Some (verdicts.Control offset) → 1 ≤ length (filter_map control_in found))
        → 1 ≤ length (filter_map control_in (f ∷ found))
    by None q r again = let a = again r in let b = cons-more (control_in f) (filter_map control_in found) in omega (arith, a, b)
    by (Some v) q r again = rw (in-control f k offset (q ∙ r)) (omega arith)

two-controls : (found : List Finding) (j k a b : ℕ) → (j ≡ k → ⊥) → verdict_of found j ≡ Some (verdicts.Control a) → verdict_of found k ≡ Some (verdicts.Control b) → 2 ≤ length (filter_map control_in found)
two-controls [] j k a b n e f = absurd (cc e)
two-controls (x ∷ found) j k a b n e f = by (verdict_in j x) (verdict_in k x) refl refl e f (two-controls found j k a b n)
  where
    by : (y z : Option Verdict) → verdict_in j x ≡ y → verdict_in k x ≡ z → option_or y (verdict_of found j) ≡ Some (verdicts.Control a) → option_or z (verdict_of found k) ≡ Some (verdicts.Control b)
        → (verdict_of found j ≡ Some (verdicts.Control a) → verdict_of found k ≡ Some (verdicts.Control b) → 2 ≤ length (filter_map control_in found)) → 2 ≤ length (filter_map control_in (x ∷ found))
    by None None p q r s again = let c = again r s in let d = cons-more (control_in x) (filter_map control_in found) in omega (arith, c, d)
    by (Some v) None p q r s again = let c = one-control found k b s in rw (in-control x j a (p ∙ r)) (omega (arith, c))
    by None (Some w) p q r s again = let c = one-control found j a r in rw (in-control x k b (q ∙ s)) (omega (arith, c))
    by (Some v) (Some w) p q r s again = absurd (n (ap (λ (o : Option (ℕ × ℕ)). (unwrap_or o (0, 0)).0) (sym (in-control x j a (p ∙ r)) ∙ in-control x k b (q ∙ s))))

-- the first of these ids that shows a control stream
first-at : (h : History) (kind : ℕ) (st : ℕ × ℕ) (count n i : ℕ) → n ≤ i → i < n + count → ((j : ℕ) → n ≤ j → j < i → control_at (4 * j + kind) (verdict h (4 * j + kind)) ≡ None)
    → control_at (4 * i + kind) (verdict h (4 * i + kind)) ≡ Some st → first_of (λ (k : ℕ). control_at k (verdict h k)) (ids_from kind n count) ≡ Some st
first-at h kind st zero n i a b f e = absurd (omega (arith, a, b))
first-at h kind st (suc count) n i a b f e = by (nat_lt n i) refl (λ c. first-at h kind st count (suc n) i c (omega (arith, b)) (λ j x y. f j (omega (arith, x)) y) e)
  where
    by : (x : Bool) → nat_lt n i ≡ x → (suc n ≤ i → first_of (λ (k : ℕ). control_at k (verdict h k)) (ids_from kind (suc n) count) ≡ Some st)
        → option_or (control_at (4 * n + kind) (verdict h (4 * n + kind))) (first_of (λ (k : ℕ). control_at k (verdict h k)) (ids_from kind (suc n) count)) ≡ Some st
    by true q again = ap (λ (o : Option (ℕ × ℕ)). option_or o (first_of (λ (k : ℕ). control_at k (verdict h k)) (ids_from kind (suc n) count))) (f n (omega arith) (ltb-true n i q)) ∙ again (let l = ltb-true n i q in omega (arith, l))
    by false q again =
        let same : i ≡ n = let l = ltb-false n i q in omega (arith, a, l) in
        ap (λ (o : Option (ℕ × ℕ)). option_or o (first_of (λ (k : ℕ). control_at k (verdict h k)) (ids_from kind (suc n) count))) (subst (λ (m : ℕ). control_at (4 * m + kind) (verdict h (4 * m + kind)) ≡ Some st) same e)

uni-control : (h : History) (k offset : ℕ) → verdict h k ≡ verdicts.Control offset → is_bidirectional k ≡ false
uni-control h k offset e = by (is_bidirectional k) e
  where
    by : (b : Bool) → (if b then bi_verdict_of (contents h k) (end_of (events h) k) else uni_verdict_of (contents h k) (end_of (events h) k)) ≡ verdicts.Control offset → b ≡ false
    by false q = refl
    by true q = absurd (let r = sym (bi-not-once (contents h k) (end_of (events h) k)) ∙ ap is_once q in cc r)

at-control : (k : ℕ) (v : Verdict) → (o : Option (ℕ × ℕ)) → control_at k v ≡ o → ((offset : ℕ) → v ≡ verdicts.Control offset → ⊥) → control_at k v ≡ None
at-control k (verdicts.Control offset) o e never = absurd (never offset refl)
at-control k v o e never = refl

module _ (side : Side) (h : History) (i : IsHistory side h) (w : Whole side h (findings side h)) where
  abbrev found : List Finding
  found = findings side h

  no-second : twice control_in found ≡ false
  no-second = by (first_of header_fault found) (twice control_in found) (twice encoder_in found) (twice decoder_in found) (none-left (streams_fault found) _ (none-left (early_fault side h found) (late-fault side h found) w.fault))
    where
      by : (o : Option ErrorCode) (a b c : Bool) → option_or o (code_if (a || b || c) h3.StreamCreation) ≡ None → a ≡ false
      by None false b c e = refl
      by None true b c e = absurd (cc e)
      by (Some code) a b c e = absurd (cc e)

  -- a stream that shows a control stream below one that was read is classified as one
  module _ (st : ℕ × ℕ) (e : first_of control_in found ≡ Some st) where
    shown : (is_dequeued found st.0 ≡ true) × ShownBy side h st.0 (verdicts.Control st.1)
    shown = (facts side h i).kept.shown st.0 (verdicts.Control st.1) (control-known side h st e)

    uni : peer_uni side ≡ st.0 % 4
    uni = by (of-peer side h st.0 shown.1.opened)
      where
        by : OfPeer side st.0 → peer_uni side ≡ st.0 % 4
        by (AUni q) = q
        by (ABi q) = absurd (let r = uni-control h st.0 st.1 shown.1.shown in of side q r)
          where
            of : (x : Side) → peer_bi x ≡ st.0 % 4 → (st.0 / 2 % 2 == 0) ≡ false → ⊥
            of Client q r = let s = eqb-false (st.0 / 2 % 2) 0 r in s (omega (arith, q))
            of Server q r = let s = eqb-false (st.0 / 2 % 2) 0 r in s (omega (arith, q))

    there : st.0 / 4 < peer_count side (events h) (peer_uni side)
    there = subst (λ (kind : ℕ). st.0 / 4 < peer_count side (events h) kind) (sym uni) (ltb-true (st.0 / 4) (peer_count side (events h) (st.0 % 4)) shown.1.opened)

    below : (j : ℕ) → j < st.0 / 4 → (offset : ℕ) → verdict h (4 * j + peer_uni side) ≡ verdicts.Control offset → ⊥
    below j l offset q = by (verdict_of found k) refl
      where
        k : ℕ
        k = 4 * j + peer_uni side

        nth : ((4 * j + peer_uni side) / 4 ≡ j) × ((4 * j + peer_uni side) % 4 ≡ peer_uni side)
        nth = nth-of j (peer_uni side) (uni-kind side)

        s : StreamSettled side h (4 * j + peer_uni side)
        s = settled-of side h w (4 * j + peer_uni side) (opened-nth side h (peer_uni side) j (uni-kind side) (let t = there in omega (arith, l, t)))

        ones : unclassified_before found (4 * j + peer_uni side) ≡ open-ones found (peer_uni side) 0 j
        ones = rw (nth.0, nth.1) refl

        fewer : open-ones found (peer_uni side) 0 j ≤ unclassified_before found st.0
        fewer = subst (λ (kind : ℕ). open-ones found (peer_uni side) 0 j ≤ open-ones found kind 0 (st.0 / 4)) uni (more-open found (peer_uni side) j (st.0 / 4) 0 (omega (arith, l)))

        slot : (c : Bool) (x y : ℕ) → x ≤ y → (c && nat_lt y 4) ≡ true → (c && nat_lt x 4) ≡ true
        slot true x y a b = lt-ltb x 4 (let z = ltb-true y 4 b in omega (arith, a, z))
        slot false x y a b = absurd (cc b)

        is-read : is_dequeued found (4 * j + peer_uni side) ≡ true
        is-read = s.read ∙ slot (can_set_up side h) _ _ (rw ones fewer) ((facts side h i).kept.read st.0 shown.0).0

        classified : is_classified found (4 * j + peer_uni side) ≡ true
        classified = s.classified ∙ rw (is-read, q) refl

        by : (o : Option Verdict) → verdict_of found (4 * j + peer_uni side) ≡ o → ⊥
        by None x = absurd (let y = sym classified ∙ ap is_some x in cc y)
        by (Some v) x =
            let y = ((facts side h i).kept.shown (4 * j + peer_uni side) v x).1.shown in
            let two = two-controls found (4 * j + peer_uni side) st.0 offset st.1 (λ z. let m = ap (λ (n : ℕ). n / 4) z in let a = nth.0 in omega (arith, l, m, a)) (x ∙ ap (λ (u : Verdict). Some u) (sym y ∙ q))
            (control-known side h st e) in
            absurd (let z = sym (le-leb 2 (length (filter_map control_in found)) two) ∙ no-second in cc z)

    is-least : least_control side h ≡ Some st
    is-least =
        first-at h (peer_uni side) st (peer_count side (events h) (peer_uni side)) 0 (st.0 / 4) (omega arith) (let t = there in omega (arith, t))
        (λ j a b. at-control (4 * j + peer_uni side) (verdict h (4 * j + peer_uni side)) _ refl (λ offset q. below j b offset q))
        (subst (λ (k : ℕ). control_at k (verdict h k) ≡ Some st) (sym (ap (λ (kind : ℕ). 4 * (st.0 / 4) + kind) uni ∙ whole-id st.0)) (ap (control_at st.0) shown.1.shown))

  least : is_some (first_of control_in found) ≡ true → first_of control_in found ≡ least_control side h
  least = by (first_of control_in found) refl
    where
      by : (o : Option (ℕ × ℕ)) → first_of control_in found ≡ o → is_some o ≡ true → first_of control_in found ≡ least_control side h
      by None e f = absurd (cc f)
      by (Some st) e f = e ∙ sym (is-least st e)

pub all_found : (side : Side) (h : History) → IsHistory side h → is_open h ≡ true → AllFound side h
all_found side h i o = record {
  streams = settled-of side h w;
  datagrams = by (can_set_up side h) refl;
  sessions = λ s l. w.quiet s (established-listed side h i s (and-left (is_established h s) (not (is_gone h (findings side h) s)) l)) l;
  control = least side h i w;
  settings = both (settings_came (findings side h)) (settings-there side h (findings side h)) f.there w.settings;
}
  where
    f : Facts side h
    f = facts side h i

    w : Whole side h (findings side h)
    w = f.whole o

    by : (b : Bool) → can_set_up side h ≡ b → length (read-of (findings side h)) ≡ (if b then length (datagrams_of (events h)) else 0)
    by true e = w.read e
    by false e = f.unread e

    both : (a b : Bool) → (a ≡ true → b ≡ true) → (b ≡ true → a ≡ true) → a ≡ b
    both true true x y = refl
    both true false x y = sym (x refl)
    both false true x y = y refl
    both false false x y = refl
