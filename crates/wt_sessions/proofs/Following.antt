-- What a moment rests on is kept by each moment and each entry that may follow.
use Rattle.std.proofs.Common.{arith, ◌≡◌, ◌≤◌, ℕ, zero, suc, ◌+◌, ◌*◌, Bool, true, false, cond, List, [], ◌∷◌, filter, refl, sym, ap, ◌∙◌, subst}
use Rattle.std.specs.Prelude.{Option, Some, None, Result, Ok, Err, ◌==◌, ◌||◌, drop}
use Rattle.std.specs.List.{list_any}
use Rattle.std.proofs.lemmas.Bool.{eqb-true, or_parts}
use Rattle.wt_message.specs.Datagram.{datagram_of}
use Rattle.wt_meaning.specs.Moments.{ids_from}
use Rattle.wt_proto.specs.SessionWalk.{is_over, session_walk_of}
use Rattle.wt_proto.specs.Bi.{bi_verdict_of}
use Rattle.wt_proto.specs.Uni.{uni_verdict_of}
use Rattle.wt_wire.specs.declared.side.StreamEnd.TheVariants.{Running}
use Rattle.wt_proto.specs.declared.session_walk.SessionWalk.{SessionWalk}
use Rattle.wt_proto.specs.declared.verdict.Verdict.{Verdict}
use Rattle.wt_turn.specs.Streams.{local_uni, peer_bi, peer_uni}
use Rattle.wt_sessions.proofs.Moment.{MayWork, Sound, miss-filter, scan-datagrams, scan-keeps}
use Rattle.wt_sessions.proofs.Scans.{IsFresh, classified-here, is_in, more, other-verdict, scan-same, still-fresh}
use Rattle.wt_sessions.proofs.Steps.{AreDistinct, gone-apart, is_among}
use Rattle.wt_sessions.proofs.StreamIds.{all-miss, bi-low, bi-peers, kinds-differ, kinds-differ-so, later-misses, uni-low, uni-peers}
use Rattle.wt_sessions.specs.Driver.{ControlSent}
use Rattle.wt_sessions.specs.Moment.{is_peers}
use Rattle.wt_sessions.specs.Scan.{admit_datagram, bi_ids, check_control, check_each, check_living, check_qpack, check_sessions, classify, critical_if, in_order, is_admitted, is_unclassified, on_progress, places_after, scan, scan_kind, scan_order, session_walked, steps, take_datagrams, take_each, take_parsed, uni_ids, unless_ended, with_fault, with_no_actions}
use Rattle.wt_sessions.specs.StreamTable.{CallView, DriverProgress, control_start, decoder_start, dispatched_streams, encoder_start, first_at, Session, StreamTable, TransportView, is_closed, is_gone, is_turned_away, verdict_of}
use Rattle.wt_wire.specs.declared.error.ErrorCode.{ErrorCode}
use Rattle.wt_proto.specs.declared.verdict.Verdict.TheVariants as verdicts
use Rattle.wt_proto.specs.declared.session_walk.SessionWalk.TheVariants as walks

-- what holds of every log whose entries might follow one another: a stream of the peer's without a verdict is fresh, one that isn't
-- there has none, no datagram that wasn't looked at was received, no session stands twice
pub record Kept (t : TransportView) (calls : CallView) (table : StreamTable) : Type 0 where
  pub fresh : (k : ℕ) → is_peers t.side k ≡ true → verdict_of k table.classified ≡ None → IsFresh calls table k
  pub within : (k : ℕ) → is_in k (uni_ids t) ≡ false → is_in k (bi_ids t) ≡ false → verdict_of k table.classified ≡ None
  pub unreceived : (n : ℕ) → table.progress.datagrams ≤ n → calls.received n ≡ false
  pub distinct : AreDistinct calls.sessions

any_sent : ControlSent
any_sent = record { opened = false; sent = 0 }

module _ (t : TransportView) (calls : CallView) where
  -- ---- scans

  module _ (verdict : ℕ → Verdict) where
    -- what has no verdict after a scan is as fresh as before it
    scan-fresh : (n j : ℕ) (ks : List ℕ) (table : StreamTable) → verdict_of j table.classified ≡ None → verdict_of j (scan t calls verdict n ks table).classified ≡ None → IsFresh calls table j
        → IsFresh calls (scan t calls verdict n ks table) j
    scan-fresh n j [] table none after f = f
    scan-fresh zero j (k ∷ ks) table none after f = f
    scan-fresh (suc n) j (k ∷ ks) table none after f = by table.progress.fault (verdict k) after (λ m T e g h. scan-fresh m j ks T e g h)
      where
        one : (v : Verdict) → verdict_of j (scan t calls verdict (suc n) ks (more t calls table k v)).classified ≡ None
            → ((T : StreamTable) → verdict_of j T.classified ≡ None → verdict_of j (scan t calls verdict (suc n) ks T).classified ≡ None → IsFresh calls T j → IsFresh calls (scan t calls verdict (suc n) ks T) j)
            → IsFresh calls (scan t calls verdict (suc n) ks (more t calls table k v)) j
        one v e again = by_test (k == j) refl
          where
            by_test : (b : Bool) → (k == j) ≡ b → IsFresh calls (scan t calls verdict (suc n) ks (more t calls table k v)) j
            by_test true same =
                let is : k ≡ j = eqb-true k j same in
                let here : verdict_of k (more t calls table k v).classified ≡ Some v = classified-here _ table.classified (subst (λ i. verdict_of i table.classified ≡ None) (sym is) none) in
                let some : verdict_of j (scan t calls verdict (suc n) ks (more t calls table k v)).classified ≡ Some v =
                scan-keeps t calls verdict (suc n) j v ks (more t calls table k v) (subst (λ i. verdict_of i (more t calls table k v).classified ≡ Some v) is here) in
                absurd (let q : Some v ≡ None = sym some ∙ e in cc)
            by_test false ne = again (more t calls table k v) (other-verdict t calls table k j v ne ∙ none) e (still-fresh t calls table k j v ne f)

        by : (o : Option ErrorCode) (v : Verdict) → verdict_of j (unless_ended o (λ u. scan t calls verdict (places_after v n) ks (classify t calls k v u)) table).classified ≡ None
            → ((m : ℕ) (T : StreamTable) → verdict_of j T.classified ≡ None → verdict_of j (scan t calls verdict m ks T).classified ≡ None → IsFresh calls T j → IsFresh calls (scan t calls verdict m ks T) j)
            → IsFresh calls (unless_ended o (λ u. scan t calls verdict (places_after v n) ks (classify t calls k v u)) table) j
        by (Some code) v e again = f
        by None verdicts.Incomplete e again = again n table none e f
        by None (verdicts.Control offset) e again = one (verdicts.Control offset) e (again (suc n))
        by None (verdicts.Encoder offset) e again = one (verdicts.Encoder offset) e (again (suc n))
        by None (verdicts.Decoder offset) e again = one (verdicts.Decoder offset) e (again (suc n))
        by None (verdicts.WebTransport session offset) e again = one (verdicts.WebTransport session offset) e (again (suc n))
        by None (verdicts.Request headers offset) e again = one (verdicts.Request headers offset) e (again (suc n))
        by None (verdicts.Refused code) e again = one (verdicts.Refused code) e (again (suc n))
        by None verdicts.Dropped e again = one verdicts.Dropped e (again (suc n))
        by None (verdicts.Fault code) e again = one (verdicts.Fault code) e (again (suc n))

    kind-kept : (ids : List ℕ) (table : StreamTable) → ((k : ℕ) → is_in k (uni_ids t) ≡ false → is_in k (bi_ids t) ≡ false → is_in k ids ≡ false) → Kept t calls table
        → Kept t calls (scan_kind t calls verdict ids table)
    kind-kept ids table apart kept = by t.ready
      where
        ks : List ℕ
        ks = filter (is_unclassified table) ids

        none-before : (k : ℕ) (o : Option Verdict) → verdict_of k table.classified ≡ o → verdict_of k (scan t calls verdict 4 ks table).classified ≡ None → o ≡ None
        none-before k None e f = refl
        none-before k (Some w) e f = absurd (let some = scan-keeps t calls verdict 4 k w ks table e in let q : Some w ≡ None = sym some ∙ f in cc)

        scanned : Kept t calls (scan t calls verdict 4 ks table)
        scanned = record {
          fresh = λ k p e. let none = none-before k (verdict_of k table.classified) refl e in scan-fresh 4 k ks table none e (kept.fresh k p none);
          within = λ k u b. scan-same t calls verdict 4 k ks table (miss-filter (is_unclassified table) k ids (apart k u b)) ∙ kept.within k u b;
          unreceived = λ n le. kept.unreceived n (let same = scan-datagrams t calls any_sent false verdict 4 ks table in omega (arith, same, le));
          distinct = kept.distinct;
        }

        by : (b : Bool) → Kept t calls (cond b (scan t calls verdict 4 ks table) table)
        by true = scanned
        by false = kept

  -- ---- datagrams

  -- the streams and the closed sessions are the same, and no fewer datagrams were looked at
  record IsLater (old new : StreamTable) : Type 0 where
    classified : new.classified ≡ old.classified
    closed : new.closed ≡ old.closed
    datagrams : old.progress.datagrams ≤ new.progress.datagrams

  later-kept : (old new : StreamTable) → IsLater old new → Kept t calls old → Kept t calls new
  later-kept old new l kept = record {
    fresh = λ k p e.
        let f = kept.fresh k p (ap (λ cs. verdict_of k cs) (sym l.classified) ∙ e) in
        record {
          accepted = f.accepted;
          delivered = f.delivered;
          unestablished = f.unestablished;
          remains = (λ i. calls.ended k || (list_any (is_closed k) (l.closed i) || list_any (is_turned_away k) (l.classified i))) ∙ f.remains;
        };
    within = λ k u b. ap (λ cs. verdict_of k cs) l.classified ∙ kept.within k u b;
    unreceived = λ n le. kept.unreceived n (omega (arith, l.datagrams, le));
    distinct = kept.distinct;
  }

  admit-later : (b : Bool) (s : ℕ) (payload : List ℕ) (table : StreamTable) → IsLater table (admit_datagram b s payload table)
  admit-later true s payload table = record { classified = refl; closed = refl; datagrams = omega arith }
  admit-later false s payload table = record { classified = refl; closed = refl; datagrams = omega arith }

  parsed-later : (r : Result (ℕ × List ℕ) ErrorCode) (table : StreamTable) → IsLater table (take_parsed calls r table)
  parsed-later (Ok d) table = admit-later (is_admitted (dispatched_streams calls table) (4 * d.0)) (4 * d.0) d.1 table
  parsed-later (Err code) table = record { classified = refl; closed = refl; datagrams = omega arith }

  take-kept : (pieces : List (List ℕ)) (table : StreamTable) → Kept t calls table → Kept t calls (take_each calls pieces table)
  take-kept [] table kept = kept
  take-kept (piece ∷ later) table kept =
      by table.progress.fault (take-kept later (take_parsed calls (datagram_of piece) table) (later-kept table (take_parsed calls (datagram_of piece) table) (parsed-later (datagram_of piece) table) kept))
    where
      by : (o : Option ErrorCode) → Kept t calls (take_each calls later (take_parsed calls (datagram_of piece) table))
          → Kept t calls (unless_ended o (λ u. take_each calls later (take_parsed calls (datagram_of piece) u)) table)
      by None again = again
      by (Some code) again = kept

  datagrams-kept : (table : StreamTable) → Kept t calls table → Kept t calls (take_datagrams t calls table)
  datagrams-kept table kept = by t.ready
    where
      by : (b : Bool) → Kept t calls (cond b (take_each calls (drop table.progress.datagrams t.datagrams) table) table)
      by true = take-kept (drop table.progress.datagrams t.datagrams) table kept
      by false = kept

  -- ---- sessions

  -- the streams are the same, and no session is gone that isn't among these
  record IsChecked (xs : List Session) (old new : StreamTable) : Type 0 where
    classified : new.classified ≡ old.classified
    datagrams : new.progress.datagrams ≡ old.progress.datagrams
    apart : (k : ℕ) → is_among k xs ≡ false → is_gone calls old k ≡ false → is_gone calls new k ≡ false

  walked-classified : (k : ℕ) (by_capsule : Bool) (walk : SessionWalk) (table : StreamTable)
      → ((session_walked t calls k by_capsule walk table).classified ≡ table.classified) × ((session_walked t calls k by_capsule walk table).progress.datagrams ≡ table.progress.datagrams)
  walked-classified k by_capsule walks.Running table = (refl, refl)
  walked-classified k by_capsule (walks.Closed code reason) table = (refl, refl)
  walked-classified k by_capsule (walks.Fault code) table = (refl, refl)

  living-checked : (s : Session) (later : List Session) (table : StreamTable) → IsChecked (s ∷ later) table (check_living t calls s table)
  living-checked s later table = by (is_gone calls table s.id)
    where
      capsule : Bool
      capsule = is_over (session_walk_of (drop s.offset (t.contents s.id)) Running)

      walk : SessionWalk
      walk = session_walk_of (drop s.offset (t.contents s.id)) (t.end s.id)

      next : StreamTable
      next = session_walked t calls s.id capsule walk table

      by : (b : Bool) → IsChecked (s ∷ later) table (cond b table next)
      by true = record { classified = refl; datagrams = refl; apart = λ k miss e. e }
      by false = record {
        classified = (walked-classified s.id capsule walk table).0;
        datagrams = (walked-classified s.id capsule walk table).1;
        apart = λ k miss e. gone-apart t calls any_sent false s.id k capsule walk table ((or_parts (s.id == k) (is_among k later) miss).0) ∙ e;
      }

  check-checked : (xs : List Session) (table : StreamTable) → IsChecked xs table (check_each t calls xs table)
  check-checked [] table = record { classified = refl; datagrams = refl; apart = λ k miss e. e }
  check-checked (s ∷ xs) table = by table.progress.fault (living-checked s xs table) (check-checked xs (check_living t calls s table))
    where
      by : (o : Option ErrorCode) → IsChecked (s ∷ xs) table (check_living t calls s table) → IsChecked xs (check_living t calls s table) (check_each t calls xs (check_living t calls s table))
          → IsChecked (s ∷ xs) table (unless_ended o (λ u. check_each t calls xs (check_living t calls s u)) table)
      by (Some code) one again = record { classified = refl; datagrams = refl; apart = λ k miss e. e }
      by None one again = record {
        classified = again.classified ∙ one.classified;
        datagrams = again.datagrams ∙ one.datagrams;
        apart = λ k miss e. again.apart k ((or_parts (s.id == k) (is_among k xs) miss).1) (one.apart k miss e);
      }

  sessions-kept : (table : StreamTable) → Kept t calls table → Kept t calls (check_sessions t calls table)
  sessions-kept table kept = let c = check-checked calls.sessions table in record {
    fresh = λ k p e.
        let f = kept.fresh k p (ap (λ cs. verdict_of k cs) (sym c.classified) ∙ e) in
        record { accepted = f.accepted; delivered = f.delivered; unestablished = f.unestablished; remains = c.apart k f.unestablished f.remains };
    within = λ k u b. ap (λ cs. verdict_of k cs) c.classified ∙ kept.within k u b;
    unreceived = λ n le. kept.unreceived n (let same = c.datagrams in omega (arith, same, le));
    distinct = kept.distinct;
  }

  -- ---- the streams on which the connection rests

  progress-kept : (f : DriverProgress → DriverProgress) (table : StreamTable) → (f table.progress).datagrams ≡ table.progress.datagrams → Kept t calls table → Kept t calls (on_progress f table)
  progress-kept f table e kept = later-kept table (on_progress f table) (record { classified = refl; closed = refl; datagrams = omega (arith, e) }) kept

  fault-same : (o : Option ErrorCode) (p : DriverProgress) → (with_fault o p).datagrams ≡ p.datagrams
  fault-same None p = refl
  fault-same (Some code) p = refl

  critical-same : (b : Bool) (p : DriverProgress) → (critical_if b p).datagrams ≡ p.datagrams
  critical-same true p = refl
  critical-same false p = refl

  control-same : (o : Option (ℕ × ℕ)) (p : DriverProgress) → (check_control t o p).datagrams ≡ p.datagrams
  control-same None p = refl
  control-same (Some c) p = fault-same _ _

  qpack-same : (o : Option (ℕ × ℕ)) (p : DriverProgress) → (check_qpack t o p).datagrams ≡ p.datagrams
  qpack-same None p = refl
  qpack-same (Some c) p = critical-same _ p

  -- ---- a whole moment

  abbrev AllKeep : List (StreamTable → StreamTable) → Type 0
  AllKeep [] = Unit {0}
  AllKeep (f ∷ fs) = ((table : StreamTable) → Kept t calls table → Kept t calls (f table)) × AllKeep fs

  order-kept : (fs : List (StreamTable → StreamTable)) (table : StreamTable) → AllKeep fs → Kept t calls table → Kept t calls (in_order fs table)
  order-kept [] table all kept = kept
  order-kept (f ∷ fs) table all kept = order-kept fs (unless_ended table.progress.fault f table) all.1 (by table.progress.fault)
    where
      by : (o : Option ErrorCode) → Kept t calls (unless_ended o f table)
      by None = all.0 table kept
      by (Some code) = kept

  pub moment-kept : (table : StreamTable) → Kept t calls table → Kept t calls (scan_order t calls table)
  moment-kept table kept =
      order-kept (steps t calls) (on_progress with_no_actions table) (
        (λ T k. kind-kept (λ j. uni_verdict_of (t.contents j) (t.end j)) (uni_ids t) T (λ j u b. u) k),
        (
          (λ T k. kind-kept (λ j. bi_verdict_of (t.contents j) (t.end j)) (bi_ids t) T (λ j u b. b) k),
          (
            datagrams-kept,
            (
              sessions-kept,
              (
                (λ T k. progress-kept (critical_if (t.is_stopped (local_uni t.side))) T (critical-same _ T.progress) k),
                (
                  (λ T k. progress-kept (check_control t (first_at control_start T.classified)) T (control-same _ T.progress) k),
                  (
                    (λ T k. progress-kept (check_qpack t (first_at encoder_start T.classified)) T (qpack-same _ T.progress) k),
                    ((λ T k. progress-kept (check_qpack t (first_at decoder_start T.classified)) T (qpack-same _ T.progress) k), tt),
                  ),
                ),
              ),
            ),
          ),
        ),
      )
      (progress-kept with_no_actions table refl kept)

  sound-ids : (kind : ℕ) (table : StreamTable) → ((n : ℕ) → verdict_of (4 * n + kind) table.classified ≡ None → IsFresh calls table (4 * n + kind)) → (n count : ℕ) → Sound t calls table (ids_from kind n count)
  sound-ids kind table fresh n zero = tt
  sound-ids kind table fresh n (suc count) = (fresh n, later-misses kind n count, sound-ids kind table fresh (suc n) count)

  pub may-work : (sent : ControlSent) (open_ : Bool) (table : StreamTable) → Kept t calls table → MayWork t calls sent open_ table
  may-work sent open_ table kept = record {
    unis = sound-ids (peer_uni t.side) table (λ n e. kept.fresh (4 * n + peer_uni t.side) (uni-peers t.side n) e) 0 t.unis;
    bis = sound-ids (peer_bi t.side) table (λ n e. kept.fresh (4 * n + peer_bi t.side) (bi-peers t.side n) e) 0 t.bis;
    apart = all-miss (peer_uni t.side) (peer_bi t.side) 0 t.unis 0 t.bis (uni-low t.side) (bi-low t.side) (kinds-differ t.side);
    apart_too = all-miss (peer_bi t.side) (peer_uni t.side) 0 t.bis 0 t.unis (bi-low t.side) (uni-low t.side) (kinds-differ-so t.side);
    unreceived = kept.unreceived;
    distinct = kept.distinct;
  }

  pub moment-works : (sent : ControlSent) (open_ : Bool) (table : StreamTable) → Kept t calls table → MayWork t calls sent open_ (on_progress with_no_actions table)
  moment-works sent open_ table kept = may-work sent open_ (on_progress with_no_actions table) (progress-kept with_no_actions table refl kept)
