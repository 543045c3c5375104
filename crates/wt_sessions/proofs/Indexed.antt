-- Each admitted datagram was looked at; each stream in the table has a verdict.
use Rattle.std.proofs.Common.{arith, ◌≡◌, ◌<◌, ℕ, zero, suc, ◌*◌, Bool, true, false, cond, List, [], ◌∷◌, ◌++◌, filter, find, is_none, refl, sym, append_assoc, subst}
use Rattle.std.specs.Prelude.{Option, Some, None, Result, Ok, Err, ◌==◌, ◌&&◌, drop}
use Rattle.std.proofs.lemmas.Bool.{eq-eqb}
use Rattle.wt_message.specs.Datagram.{datagram_of}
use Rattle.wt_proto.specs.SessionWalk.{is_over, session_walk_of}
use Rattle.wt_proto.specs.Bi.{bi_verdict_of}
use Rattle.wt_proto.specs.Uni.{uni_verdict_of}
use Rattle.wt_proto.specs.declared.session_walk.SessionWalk.{SessionWalk}
use Rattle.wt_proto.specs.declared.verdict.Verdict.{Verdict}
use Rattle.wt_turn.specs.Streams.{local_uni}
use Rattle.wt_sessions.specs.Driver.{apply_if, call_view, is_moment, stream_table, transport_view}
use Rattle.wt_sessions.specs.Scan.{admit_datagram, bi_ids, check_control, check_each, check_living, check_qpack, classify, critical_if, in_order, is_admitted, is_unclassified, on_progress, places_after, scan, scan_kind, scan_order, session_walked, steps, take_datagrams, take_each, take_parsed, uni_ids, unless_ended, with_fault, with_no_actions}
use Rattle.wt_sessions.specs.StreamTable.{Admitted, CallView, Classified, DriverProgress, Session, StreamTable, TransportView, consequence, control_start, decoder_start, dispatched_streams, encoder_start, first_at, is_gone, verdict_of}
use Rattle.wt_turn.specs.Log.{Log, is_open}
use Rattle.wt_wire.specs.declared.error.ErrorCode.{ErrorCode}
use Rattle.wt_wire.specs.declared.side.Side.{Side}
use Rattle.wt_wire.specs.declared.side.StreamEnd.TheVariants.{Running}
use Rattle.wt_proto.specs.declared.session_walk.SessionWalk.TheVariants as walks
use Rattle.wt_proto.specs.declared.verdict.Verdict.TheVariants as verdicts

-- ---- lists

-- it holds of each
abbrev pub AllOf : {X : Type 0} → (X → Type 0) → List X → Type 0
AllOf P [] = Unit {0}
AllOf P (x ∷ xs) = P x × AllOf P xs

pub all-mapped : {X : Type 0} (P Q : X → Type 0) → ((x : X) → P x → Q x) → (xs : List X) → AllOf P xs → AllOf Q xs
all-mapped P Q f [] all = tt
all-mapped P Q f (x ∷ xs) all = (f x all.0, all-mapped P Q f xs all.1)

pub all-both : {X : Type 0} (P : X → Type 0) (xs ys : List X) → AllOf P xs → AllOf P ys → AllOf P (xs ++ ys)
all-both P [] ys a b = b
all-both P (x ∷ xs) ys a b = (a.0, all-both P xs ys a.1 b)

pub all-filter : {X : Type 0} (P : X → Type 0) (p : X → Bool) (xs : List X) → AllOf P xs → AllOf P (filter p xs)
all-filter P p [] all = tt
all-filter P p (x ∷ xs) all = by (p x) (all-filter P p xs all.1)
  where
    by : (b : Bool) → AllOf P (filter p xs) → AllOf P (cond b (x ∷ filter p xs) (filter p xs))
    by true again = (all.0, again)
    by false again = again

pub all-found : {X : Type 0} (P : X → Type 0) (p : X → Bool) (x : X) (xs : List X) → AllOf P xs → find p xs ≡ Some x → P x
all-found P p x [] all e = absurd cc
all-found {X = X} P p x (y ∷ ys) all e = by (p y) e (all-found P p x ys all.1)
  where
    by : (b : Bool) → cond b (Some y) (find p ys) ≡ Some x → (find p ys ≡ Some x → P x) → P x
    by true f again = let same : y ≡ x = cc in subst (λ (z : X). P z) same all.0
    by false f again = again f

-- ---- datagrams

-- each was looked at
abbrev pub AreIndexed : StreamTable → Type 0
AreIndexed table = AllOf (λ (d : Admitted). d.index < table.progress.datagrams) table.datagrams

-- the same datagrams are admitted, and as many were looked at
record IsSame (old new : StreamTable) : Type 0 where
  datagrams : new.datagrams ≡ old.datagrams
  looked_at : new.progress.datagrams ≡ old.progress.datagrams

same-indexed : (old new : StreamTable) → IsSame old new → AreIndexed old → AreIndexed new
same-indexed old new s all =
    subst (λ (n : ℕ). AllOf (λ (d : Admitted). d.index < n) new.datagrams) (sym s.looked_at)
    (subst (λ (ds : List Admitted). AllOf (λ (d : Admitted). d.index < old.progress.datagrams) ds) (sym s.datagrams) all)

fault-looked : (o : Option ErrorCode) (p : DriverProgress) → (with_fault o p).datagrams ≡ p.datagrams
fault-looked None p = refl
fault-looked (Some code) p = refl

critical-looked : (b : Bool) (p : DriverProgress) → (critical_if b p).datagrams ≡ p.datagrams
critical-looked true p = refl
critical-looked false p = refl

module _ (t : TransportView) (calls : CallView) where
  classify-same : (k : ℕ) (v : Verdict) (table : StreamTable) → IsSame table (classify t calls k v table)
  classify-same k verdicts.Incomplete table = record { datagrams = refl; looked_at = refl }
  classify-same k (verdicts.Control offset) table = record { datagrams = refl; looked_at = fault-looked (consequence t (dispatched_streams calls table) k (verdicts.Control offset)).fault _ }
  classify-same k (verdicts.Encoder offset) table = record { datagrams = refl; looked_at = fault-looked (consequence t (dispatched_streams calls table) k (verdicts.Encoder offset)).fault _ }
  classify-same k (verdicts.Decoder offset) table = record { datagrams = refl; looked_at = fault-looked (consequence t (dispatched_streams calls table) k (verdicts.Decoder offset)).fault _ }
  classify-same k (verdicts.WebTransport session offset) table = record { datagrams = refl; looked_at = fault-looked (consequence t (dispatched_streams calls table) k (verdicts.WebTransport session offset)).fault _ }
  classify-same k (verdicts.Request headers offset) table = record { datagrams = refl; looked_at = fault-looked (consequence t (dispatched_streams calls table) k (verdicts.Request headers offset)).fault _ }
  classify-same k (verdicts.Refused code) table = record { datagrams = refl; looked_at = refl }
  classify-same k verdicts.Dropped table = record { datagrams = refl; looked_at = refl }
  classify-same k (verdicts.Fault code) table = record { datagrams = refl; looked_at = refl }

  module _ (verdict : ℕ → Verdict) where
    scan-indexed : (n : ℕ) (ks : List ℕ) (table : StreamTable) → AreIndexed table → AreIndexed (scan t calls verdict n ks table)
    scan-indexed n [] table all = all
    scan-indexed zero (k ∷ ks) table all = all
    scan-indexed (suc n) (k ∷ ks) table all =
        by table.progress.fault (scan-indexed (places_after (verdict k) n) ks (classify t calls k (verdict k) table) (same-indexed table (classify t calls k (verdict k) table) (classify-same k (verdict k) table) all))
      where
        by : (o : Option ErrorCode) → AreIndexed (scan t calls verdict (places_after (verdict k) n) ks (classify t calls k (verdict k) table))
            → AreIndexed (unless_ended o (λ u. scan t calls verdict (places_after (verdict k) n) ks (classify t calls k (verdict k) u)) table)
        by None again = again
        by (Some code) again = all

    kind-indexed : (ids : List ℕ) (table : StreamTable) → AreIndexed table → AreIndexed (scan_kind t calls verdict ids table)
    kind-indexed ids table all = by t.ready
      where
        by : (b : Bool) → AreIndexed (cond b (scan t calls verdict 4 (filter (is_unclassified table) ids) table) table)
        by true = scan-indexed 4 (filter (is_unclassified table) ids) table all
        by false = all

  admit-indexed : (b : Bool) (s : ℕ) (payload : List ℕ) (table : StreamTable) → AreIndexed table → AreIndexed (admit_datagram b s payload table)
  admit-indexed true s payload table all =
      all-both (λ (d : Admitted). d.index < suc table.progress.datagrams) table.datagrams (record { index = table.progress.datagrams; session = s; payload = payload } ∷ [])
      (all-mapped (λ (d : Admitted). d.index < table.progress.datagrams) (λ (d : Admitted). d.index < suc table.progress.datagrams) (λ d lt. omega (arith, lt)) table.datagrams all)
      (omega arith, tt)
  admit-indexed false s payload table all =
      all-mapped (λ (d : Admitted). d.index < table.progress.datagrams) (λ (d : Admitted). d.index < suc table.progress.datagrams) (λ d lt. omega (arith, lt)) table.datagrams all

  parsed-indexed : (r : Result (ℕ × List ℕ) ErrorCode) (table : StreamTable) → AreIndexed table → AreIndexed (take_parsed calls r table)
  parsed-indexed (Ok d) table all = admit-indexed (is_admitted (dispatched_streams calls table) (4 * d.0)) (4 * d.0) d.1 table all
  parsed-indexed (Err code) table all = all

  take-indexed : (pieces : List (List ℕ)) (table : StreamTable) → AreIndexed table → AreIndexed (take_each calls pieces table)
  take-indexed [] table all = all
  take-indexed (piece ∷ later) table all = by table.progress.fault (take-indexed later (take_parsed calls (datagram_of piece) table) (parsed-indexed (datagram_of piece) table all))
    where
      by : (o : Option ErrorCode) → AreIndexed (take_each calls later (take_parsed calls (datagram_of piece) table)) → AreIndexed (unless_ended o (λ u. take_each calls later (take_parsed calls (datagram_of piece) u)) table)
      by None again = again
      by (Some code) again = all

  datagrams-indexed : (table : StreamTable) → AreIndexed table → AreIndexed (take_datagrams t calls table)
  datagrams-indexed table all = by t.ready
    where
      by : (b : Bool) → AreIndexed (cond b (take_each calls (drop table.progress.datagrams t.datagrams) table) table)
      by true = take-indexed (drop table.progress.datagrams t.datagrams) table all
      by false = all

  walked-indexed : (k : ℕ) (by_capsule : Bool) (walk : SessionWalk) (table : StreamTable) → AreIndexed table → AreIndexed (session_walked t calls k by_capsule walk table)
  walked-indexed k by_capsule walks.Running table all = all
  walked-indexed k by_capsule (walks.Closed code reason) table all = all
  walked-indexed k by_capsule (walks.Fault code) table all = all

  check-indexed : (xs : List Session) (table : StreamTable) → AreIndexed table → AreIndexed (check_each t calls xs table)
  check-indexed [] table all = all
  check-indexed (s ∷ xs) table all = by table.progress.fault (check-indexed xs (check_living t calls s table) (living (is_gone calls table s.id)))
    where
      living : (b : Bool) → AreIndexed (cond b table
          (session_walked t calls s.id (is_over (session_walk_of (drop s.offset (t.contents s.id)) Running)) (session_walk_of (drop s.offset (t.contents s.id)) (t.end s.id)) table))
      living true = all
      living false = walked-indexed s.id (is_over (session_walk_of (drop s.offset (t.contents s.id)) Running)) (session_walk_of (drop s.offset (t.contents s.id)) (t.end s.id)) table all

      by : (o : Option ErrorCode) → AreIndexed (check_each t calls xs (check_living t calls s table)) → AreIndexed (unless_ended o (λ u. check_each t calls xs (check_living t calls s u)) table)
      by None again = again
      by (Some code) again = all

  progress-indexed : (f : DriverProgress → DriverProgress) (table : StreamTable) → (f table.progress).datagrams ≡ table.progress.datagrams → AreIndexed table → AreIndexed (on_progress f table)
  progress-indexed f table e all = same-indexed table (on_progress f table) (record { datagrams = refl; looked_at = e }) all

  control-looked : (o : Option (ℕ × ℕ)) (p : DriverProgress) → (check_control t o p).datagrams ≡ p.datagrams
  control-looked None p = refl
  control-looked (Some c) p = fault-looked _ _

  qpack-looked : (o : Option (ℕ × ℕ)) (p : DriverProgress) → (check_qpack t o p).datagrams ≡ p.datagrams
  qpack-looked None p = refl
  qpack-looked (Some c) p = critical-looked _ p

  abbrev AllKeep : List (StreamTable → StreamTable) → Type 0
  AllKeep [] = Unit {0}
  AllKeep (f ∷ fs) = ((table : StreamTable) → AreIndexed table → AreIndexed (f table)) × AllKeep fs

  order-indexed : (fs : List (StreamTable → StreamTable)) (table : StreamTable) → AllKeep fs → AreIndexed table → AreIndexed (in_order fs table)
  order-indexed [] table all kept = kept
  order-indexed (f ∷ fs) table all kept = order-indexed fs (unless_ended table.progress.fault f table) all.1 (by table.progress.fault)
    where
      by : (o : Option ErrorCode) → AreIndexed (unless_ended o f table)
      by None = all.0 table kept
      by (Some code) = kept

  moment-indexed : (table : StreamTable) → AreIndexed table → AreIndexed (scan_order t calls table)
  moment-indexed table all =
      order-indexed (steps t calls) (on_progress with_no_actions table) (
        (λ T k. kind-indexed (λ j. uni_verdict_of (t.contents j) (t.end j)) (uni_ids t) T k),
        (
          (λ T k. kind-indexed (λ j. bi_verdict_of (t.contents j) (t.end j)) (bi_ids t) T k),
          (
            datagrams-indexed,
            (
              (λ T k. check-indexed calls.sessions T k),
              (
                (λ T k. progress-indexed (critical_if (t.is_stopped (local_uni t.side))) T (critical-looked _ T.progress) k),
                (
                  (λ T k. progress-indexed (check_control t (first_at control_start T.classified)) T (control-looked _ T.progress) k),
                  (
                    (λ T k. progress-indexed (check_qpack t (first_at encoder_start T.classified)) T (qpack-looked _ T.progress) k),
                    ((λ T k. progress-indexed (check_qpack t (first_at decoder_start T.classified)) T (qpack-looked _ T.progress) k), tt),
                  ),
                ),
              ),
            ),
          ),
        ),
      )
      all

-- of every log
pub log-indexed : (side : Side) (log : Log) → AreIndexed (stream_table side log)
unfolding stream_table
log-indexed side [] = tt
log-indexed side (e ∷ log) = by (is_moment e && is_open (e ∷ log)) (log-indexed side log)
  where
    by : (b : Bool) → AreIndexed (stream_table side log) → AreIndexed (apply_if b (scan_order (transport_view side (e ∷ log)) (call_view (e ∷ log))) (stream_table side log))
    by true all = moment-indexed (transport_view side (e ∷ log)) (call_view (e ∷ log)) (stream_table side log) all
    by false all = all

-- ---- what stands in the table has a verdict

verdict-here : (c : Classified) (before later : List Classified) → is_none (verdict_of c.id (before ++ c ∷ later)) ≡ false
verdict-here c [] later = rw (eq-eqb c.id c.id refl) refl
verdict-here c (x ∷ before) later = by (x.id == c.id) (verdict-here c before later)
  where
    by : (b : Bool) → is_none (verdict_of c.id (before ++ c ∷ later)) ≡ false → is_none (cond b (Some x.verdict) (verdict_of c.id (before ++ c ∷ later))) ≡ false
    by true again = refl
    by false again = again

have-verdicts : (before cs : List Classified) → AllOf (λ (c : Classified). is_none (verdict_of c.id (before ++ cs)) ≡ false) cs
have-verdicts before [] = tt
have-verdicts before (c ∷ cs) = (
  verdict-here c before cs,
  subst (λ (all : List Classified). AllOf (λ (x : Classified). is_none (verdict_of x.id all) ≡ false) cs) (append_assoc before (c ∷ []) cs) (have-verdicts (before ++ c ∷ []) cs),
)

pub all-have-verdicts : (cs : List Classified) → AllOf (λ (c : Classified). is_none (verdict_of c.id cs) ≡ false) cs
all-have-verdicts cs = have-verdicts [] cs
