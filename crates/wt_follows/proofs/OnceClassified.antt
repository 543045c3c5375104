-- The streams that have a verdict stand in the table once each.
use Rattle.std.proofs.Common.{arith, ◌∙◌, ◌≡◌, ◌<◌, ◌+◌, ℕ, zero, suc, ◌*◌, ap, Bool, true, false, cond, List, [], ◌∷◌, ◌++◌, filter, map, is_none, refl, sym}
use Rattle.std.proofs.lemmas.Bool.{eqb-true, or_from, or_parts, true≢false}
use Rattle.std.specs.Prelude.{Option, Some, None, Result, Ok, Err, ◌==◌, ◌&&◌, ◌||◌, drop, if◌then◌else◌, not, filter_map}
use Rattle.std.specs.List.{cons_option}
use Rattle.wt_follows.proofs.Lists.{distinct-sub, flip, none-filtered, refuted, any-filter, or-true}
use Rattle.wt_follows.proofs.QuietEntry.{and-first}
use Rattle.wt_follows.specs.Roles.{AreDistinct, is_in}
use Rattle.wt_message.specs.Datagram.{datagram_of}
use Rattle.wt_meaning.specs.Moments.{ids_from}
use Rattle.wt_proto.specs.SessionWalk.{is_over, session_walk_of}
use Rattle.wt_proto.specs.Bi.{bi_verdict_of}
use Rattle.wt_proto.specs.Uni.{uni_verdict_of}
use Rattle.wt_proto.specs.declared.session_walk.SessionWalk.{SessionWalk}
use Rattle.wt_proto.specs.declared.verdict.Verdict.{Verdict}
use Rattle.wt_turn.specs.Streams.{peer_bi, peer_uni}
use Rattle.wt_sessions.proofs.Scans.{classified-other}
use Rattle.wt_sessions.specs.Driver.{apply_if, call_view, is_moment, stream_table, transport_view}
use Rattle.wt_sessions.specs.DriverState.{state_of}
use Rattle.wt_sessions.specs.Scan.{admit_datagram, bi_ids, check_each, check_living, classify, in_order, is_admitted, is_unclassified, on_progress, places_after, scan, scan_kind, scan_order, session_walked, steps, take_datagrams, take_each, take_parsed, uni_ids, unless_ended, with_no_actions}
use Rattle.wt_sessions.specs.StreamTable.{CallView, Classified, Session, StreamTable, TransportView, dispatched_streams, is_gone, is_queued, verdict_of, is_request, queued_id}
use Rattle.wt_turn.specs.Log.{Log, is_open}
use Rattle.wt_wire.specs.HeaderList.{Fields}
use Rattle.wt_wire.specs.declared.error.ErrorCode.{ErrorCode}
use Rattle.wt_wire.specs.declared.side.Side.{Side}
use Rattle.wt_wire.specs.declared.side.StreamEnd.TheVariants.{Running}
use Rattle.wt_proto.specs.declared.session_walk.SessionWalk.TheVariants as walks
use Rattle.wt_proto.specs.declared.verdict.Verdict.TheVariants as verdicts

abbrev once_ids : List Classified → List ℕ
once_ids cs = map (λ (c : Classified). c.id) cs

-- no id stands there twice
abbrev AreOnce : StreamTable → Type 0
AreOnce table = AreDistinct (once_ids table.classified)

-- none of these ids has a verdict, and none stands there twice
abbrev AreNew : List Classified → List ℕ → Type 0
AreNew cs [] = Unit {0}
AreNew cs (k ∷ ks) = (verdict_of k cs ≡ None) × (is_in k ks ≡ false) × AreNew cs ks

-- ---- ids

none-is : (o : Option Verdict) → is_none o ≡ true → o ≡ None
none-is None e = refl
none-is (Some v) e = absurd (true≢false (sym e))

unlisted : (k : ℕ) (cs : List Classified) → verdict_of k cs ≡ None → is_in k (once_ids cs) ≡ false
unlisted k [] e = refl
unlisted k (c ∷ cs) e = by (c.id == k) e (unlisted k cs)
  where
    by : (b : Bool) → (if b then Some c.verdict else verdict_of k cs) ≡ None → (verdict_of k cs ≡ None → is_in k (once_ids cs) ≡ false) → (b || is_in k (once_ids cs)) ≡ false
    by true f again = absurd cc
    by false f again = again f

not-last : (k : ℕ) (c : Classified) (cs : List Classified) → (c.id == k) ≡ false → is_in k (once_ids cs) ≡ false → is_in k (once_ids (cs ++ c ∷ [])) ≡ false
not-last k c [] other miss = or_from (c.id == k) false other refl
not-last k c (x ∷ xs) other miss = let parts = or_parts (x.id == k) (is_in k (once_ids xs)) miss in or_from (x.id == k) _ parts.0 (not-last k c xs other parts.1)

once-more : (c : Classified) (cs : List Classified) → is_in c.id (once_ids cs) ≡ false → AreDistinct (once_ids cs) → AreDistinct (once_ids (cs ++ c ∷ []))
once-more c [] miss d = (refl, tt)
once-more c (x ∷ xs) miss d = let parts = or_parts (x.id == c.id) (is_in c.id (once_ids xs)) miss in (not-last x.id c xs (flip c.id x.id ∙ parts.0) d.0, once-more c xs parts.1 d.1)

new-filter : (cs : List Classified) (ks : List ℕ) → AreDistinct ks → AreNew cs (filter (λ (k : ℕ). is_none (verdict_of k cs)) ks)
new-filter cs [] d = tt
new-filter cs (k ∷ ks) d = by (is_none (verdict_of k cs)) refl (new-filter cs ks d.1)
  where
    by : (b : Bool) → is_none (verdict_of k cs) ≡ b → AreNew cs (filter (λ (j : ℕ). is_none (verdict_of j cs)) ks) → AreNew cs (cond b (k ∷ filter (λ (j : ℕ). is_none (verdict_of j cs)) ks) (filter (λ (j : ℕ). is_none (verdict_of j cs)) ks))
    by true e again = (none-is (verdict_of k cs) e, none-filtered (λ (j : ℕ). j == k) (λ (j : ℕ). is_none (verdict_of j cs)) ks d.0, again)
    by false e again = again

new-after : (c : Classified) (cs : List Classified) (ks : List ℕ) → is_in c.id ks ≡ false → AreNew cs ks → AreNew (cs ++ c ∷ []) ks
new-after c cs [] miss h = tt
new-after c cs (k ∷ ks) miss h = let parts = or_parts (k == c.id) (is_in c.id ks) miss in (classified-other c k cs (flip c.id k ∙ parts.0) ∙ h.0, h.1, new-after c cs ks parts.1 h.2)

later-apart : (kind n m count : ℕ) → n < m → is_in (4 * n + kind) (ids_from kind m count) ≡ false
later-apart kind n m zero lt = refl
later-apart kind n m (suc count) lt = or_from (4 * m + kind == 4 * n + kind) _ (refuted (4 * m + kind == 4 * n + kind) (λ e. let same = eqb-true (4 * m + kind) (4 * n + kind) e in omega (arith, lt, same))) (later-apart kind n (suc m) count (omega (arith, lt)))

ids-distinct : (kind n count : ℕ) → AreDistinct (ids_from kind n count)
ids-distinct kind n zero = tt
ids-distinct kind n (suc count) = (later-apart kind n (suc n) count (omega arith), ids-distinct kind (suc n) count)

-- ---- the steps of a moment

module _ (t : TransportView) (calls : CallView) where
  -- a stream is classified or not
  classified-by : (P : List Classified → Type 0) (k : ℕ) (v : Verdict) (table : StreamTable) → P table.classified → ((c : Classified) → c.id ≡ k → P (table.classified ++ c ∷ [])) → P (classify t calls k v table).classified
  classified-by P k verdicts.Incomplete table before after = before
  classified-by P k (verdicts.Control offset) table before after = after _ refl
  classified-by P k (verdicts.Encoder offset) table before after = after _ refl
  classified-by P k (verdicts.Decoder offset) table before after = after _ refl
  classified-by P k (verdicts.WebTransport session offset) table before after = after _ refl
  classified-by P k (verdicts.Request headers offset) table before after = after _ refl
  classified-by P k (verdicts.Refused code) table before after = after _ refl
  classified-by P k verdicts.Dropped table before after = after _ refl
  classified-by P k (verdicts.Fault code) table before after = after _ refl

  module _ (verdict : ℕ → Verdict) where
    scan-once : (n : ℕ) (ks : List ℕ) (table : StreamTable) → AreNew table.classified ks → AreOnce table → AreOnce (scan t calls verdict n ks table)
    scan-once n [] table new all = all
    scan-once zero (k ∷ ks) table new all = all
    scan-once (suc n) (k ∷ ks) table new all =
        by table.progress.fault (scan-once (places_after (verdict k) n) ks (classify t calls k (verdict k) table)
        (classified-by (λ cs. AreNew cs ks) k (verdict k) table new.2 (λ c e. new-after c table.classified ks (ap (λ i. is_in i ks) e ∙ new.1) new.2))
        (classified-by (λ cs. AreDistinct (once_ids cs)) k (verdict k) table all (λ c e. once-more c table.classified (ap (λ i. is_in i (once_ids table.classified)) e ∙ unlisted k table.classified new.0) all)))
      where
        by : (o : Option ErrorCode) → AreOnce (scan t calls verdict (places_after (verdict k) n) ks (classify t calls k (verdict k) table))
            → AreOnce (unless_ended o (λ u. scan t calls verdict (places_after (verdict k) n) ks (classify t calls k (verdict k) u)) table)
        by None again = again
        by (Some code) again = all

    kind-once : (ids : List ℕ) → AreDistinct ids → (table : StreamTable) → AreOnce table → AreOnce (scan_kind t calls verdict ids table)
    kind-once ids distinct table all = by t.ready
      where
        by : (b : Bool) → AreOnce (cond b (scan t calls verdict 4 (filter (is_unclassified table) ids) table) table)
        by true = scan-once 4 (filter (is_unclassified table) ids) table (new-filter table.classified ids distinct) all
        by false = all

  parsed-once : (r : Result (ℕ × List ℕ) ErrorCode) (table : StreamTable) → AreOnce table → AreOnce (take_parsed calls r table)
  parsed-once (Ok d) table all = by (is_admitted (dispatched_streams calls table) (4 * d.0))
    where
      by : (b : Bool) → AreOnce (admit_datagram b (4 * d.0) d.1 table)
      by true = all
      by false = all
  parsed-once (Err code) table all = all

  take-once : (pieces : List (List ℕ)) (table : StreamTable) → AreOnce table → AreOnce (take_each calls pieces table)
  take-once [] table all = all
  take-once (piece ∷ later) table all = by table.progress.fault (take-once later (take_parsed calls (datagram_of piece) table) (parsed-once (datagram_of piece) table all))
    where
      by : (o : Option ErrorCode) → AreOnce (take_each calls later (take_parsed calls (datagram_of piece) table)) → AreOnce (unless_ended o (λ u. take_each calls later (take_parsed calls (datagram_of piece) u)) table)
      by None again = again
      by (Some code) again = all

  datagrams-once : (table : StreamTable) → AreOnce table → AreOnce (take_datagrams t calls table)
  datagrams-once table all = by t.ready
    where
      by : (b : Bool) → AreOnce (cond b (take_each calls (drop table.progress.datagrams t.datagrams) table) table)
      by true = take-once (drop table.progress.datagrams t.datagrams) table all
      by false = all

  walked-once : (k : ℕ) (by_capsule : Bool) (walk : SessionWalk) (table : StreamTable) → AreOnce table → AreOnce (session_walked t calls k by_capsule walk table)
  walked-once k by_capsule walks.Running table all = all
  walked-once k by_capsule (walks.Closed code reason) table all = all
  walked-once k by_capsule (walks.Fault code) table all = all

  check-once : (xs : List Session) (table : StreamTable) → AreOnce table → AreOnce (check_each t calls xs table)
  check-once [] table all = all
  check-once (s ∷ xs) table all = by table.progress.fault (check-once xs (check_living t calls s table) (living (is_gone calls table s.id)))
    where
      living : (b : Bool) → AreOnce (cond b table
          (session_walked t calls s.id (is_over (session_walk_of (drop s.offset (t.contents s.id)) Running)) (session_walk_of (drop s.offset (t.contents s.id)) (t.end s.id)) table))
      living true = all
      living false = walked-once s.id (is_over (session_walk_of (drop s.offset (t.contents s.id)) Running)) (session_walk_of (drop s.offset (t.contents s.id)) (t.end s.id)) table all

      by : (o : Option ErrorCode) → AreOnce (check_each t calls xs (check_living t calls s table)) → AreOnce (unless_ended o (λ u. check_each t calls xs (check_living t calls s u)) table)
      by None again = again
      by (Some code) again = all

  abbrev AllKeep : List (StreamTable → StreamTable) → Type 0
  AllKeep [] = Unit {0}
  AllKeep (f ∷ fs) = ((table : StreamTable) → AreOnce table → AreOnce (f table)) × AllKeep fs

  order-once : (fs : List (StreamTable → StreamTable)) (table : StreamTable) → AllKeep fs → AreOnce table → AreOnce (in_order fs table)
  order-once [] table all kept = kept
  order-once (f ∷ fs) table all kept = order-once fs (unless_ended table.progress.fault f table) all.1 (by table.progress.fault)
    where
      by : (o : Option ErrorCode) → AreOnce (unless_ended o f table)
      by None = all.0 table kept
      by (Some code) = kept

  moment-once : (table : StreamTable) → AreOnce table → AreOnce (scan_order t calls table)
  moment-once table all =
      order-once (steps t calls) (on_progress with_no_actions table) (
        (λ T k. kind-once (λ j. uni_verdict_of (t.contents j) (t.end j)) (uni_ids t) (ids-distinct (peer_uni t.side) 0 t.unis) T k),
        (
          (λ T k. kind-once (λ j. bi_verdict_of (t.contents j) (t.end j)) (bi_ids t) (ids-distinct (peer_bi t.side) 0 t.bis) T k),
          (
            datagrams-once,
            (
              (λ T k. check-once calls.sessions T k),
              (
                (λ T k. k),
                (
                  (λ T k. k),
                  (
                    (λ T k. k),
                    ((λ T k. k), tt),
                  ),
                ),
              ),
            ),
          ),
        ),
      )
      all

-- of every log
log-once : (side : Side) (log : Log) → AreOnce (stream_table side log)
unfolding stream_table
log-once side [] = tt
log-once side (e ∷ log) = by (is_moment e && is_open (e ∷ log)) (log-once side log)
  where
    by : (b : Bool) → AreOnce (stream_table side log) → AreOnce (apply_if b (scan_order (transport_view side (e ∷ log)) (call_view (e ∷ log))) (stream_table side log))
    by true all = moment-once (transport_view side (e ∷ log)) (call_view (e ∷ log)) (stream_table side log) all
    by false all = all

-- those that are queued are some of them
pub requests-distinct : (side : Side) (log : Log) → AreDistinct (map (λ (c : Classified). c.id) (state_of side log).dispatched.requests)
unfolding state_of
requests-distinct side log = distinct-sub (λ (c : Classified). c.id) (λ (c : Classified). is_queued c && not ((call_view log).delivered c.id)) (stream_table side log).classified (log-once side log)

-- ---- what is held

queued-listed : (k : ℕ) (cs : List Classified) → is_in k (filter_map queued_id cs) ≡ true → is_in k (once_ids cs) ≡ true
queued-listed k [] e = e
queued-listed k (c ∷ cs) e = by (is_queued c) e (queued-listed k cs)
  where
    each : (b : Bool) → (b || is_in k (filter_map queued_id cs)) ≡ true → (is_in k (filter_map queued_id cs) ≡ true → is_in k (once_ids cs) ≡ true) → (b || is_in k (once_ids cs)) ≡ true
    each true g again = refl
    each false g again = again g

    by : (b : Bool) → is_in k (cons_option (if b then Some c.id else None) (filter_map queued_id cs)) ≡ true → (is_in k (filter_map queued_id cs) ≡ true → is_in k (once_ids cs) ≡ true) → ((c.id == k) || is_in k (once_ids cs)) ≡ true
    by true f again = each (c.id == k) f again
    by false f again = ap (λ b. (c.id == k) || b) (again f) ∙ or-true (c.id == k)

-- a request
pub record IsRequestOf (k : ℕ) (cs : List Classified) : Type 0 where
  pub fields : Fields
  pub offset : ℕ
  pub verdict : verdict_of k cs ≡ Some (verdicts.Request fields offset)

requested : (v : Verdict) → is_request v ≡ true → (fields : Fields) × ((offset : ℕ) × (v ≡ verdicts.Request fields offset))
requested (verdicts.Request fields offset) e = (fields, (offset, refl))
requested _ e = absurd cc

queued-verdict : (k : ℕ) (cs : List Classified) → AreDistinct (once_ids cs) → is_in k (filter_map queued_id cs) ≡ true → IsRequestOf k cs
queued-verdict k [] d e = absurd (true≢false (sym e))
queued-verdict k (c ∷ cs) d e = by (c.id == k) refl (is_queued c) refl e (queued-verdict k cs d.1)
  where
    behind : (c.id == k) ≡ false → IsRequestOf k cs → IsRequestOf k (c ∷ cs)
    behind f r = record { fields = r.fields; offset = r.offset; verdict = ap (λ (b : Bool). if b then Some c.verdict else verdict_of k cs) f ∙ r.verdict }

    by : (a : Bool) → (c.id == k) ≡ a → (b : Bool) → is_queued c ≡ b → is_in k (cons_option (if b then Some c.id else None) (filter_map queued_id cs)) ≡ true → (is_in k (filter_map queued_id cs) ≡ true → IsRequestOf k cs) → IsRequestOf k (c ∷ cs)
    by true f true g h again =
        let r = requested c.verdict (and-first (is_request c.verdict) c.admitted g) in
        record { fields = r.0; offset = r.1.0; verdict = ap (λ (b : Bool). if b then Some c.verdict else verdict_of k cs) f ∙ ap Some r.1.1 }
    by true f false g h again = absurd (true≢false (sym (queued-listed k cs h) ∙ (ap (λ j. is_in j (once_ids cs)) (sym (eqb-true c.id k f)) ∙ d.0)))
    by false f true g h again = behind f (again (sym (ap (λ (b : Bool). b || is_in k (filter_map queued_id cs)) f) ∙ h))
    by false f false g h again = behind f (again h)

-- a stream that is held has a request's verdict
pub held-request : (side : Side) (log : Log) (k : ℕ) → is_in k (state_of side log).dispatched.held ≡ true → IsRequestOf k (stream_table side log).classified
unfolding state_of
held-request side log k e = queued-verdict k (stream_table side log).classified (log-once side log)
    (any-filter (λ (j : ℕ). j == k) (λ (j : ℕ). not (is_gone (call_view log) (stream_table side log) j)) (filter_map queued_id (stream_table side log).classified) e)
