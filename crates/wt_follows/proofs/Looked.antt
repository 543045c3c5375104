-- No more datagrams were looked at than came.
use Rattle.std.proofs.Common.{◌*◌, ◌+◌, ◌≡◌, ◌≤◌, ◌∷◌, Bool, List, None, Option, Some, [], arith, drop, false, length, length-append, length-drop, refl, suc, true, ℕ}
use Rattle.std.specs.Prelude.{Err, Ok, Result, ◌&&◌, if◌then◌else◌}
use Rattle.wt_proto.specs.SessionWalk.{is_over, session_walk_of}
use Rattle.wt_message.specs.Datagram.{datagram_of}
use Rattle.wt_proto.specs.Bi.{bi_verdict_of}
use Rattle.wt_proto.specs.Uni.{uni_verdict_of}
use Rattle.wt_proto.specs.declared.session_walk.SessionWalk.{SessionWalk}
use Rattle.wt_proto.specs.declared.session_walk.SessionWalk.TheVariants as walks
use Rattle.wt_turn.specs.Reports.{datagrams_of}
use Rattle.wt_turn.specs.Streams.{local_uni}
use Rattle.wt_sessions.proofs.Moment.{kind-datagrams}
use Rattle.wt_sessions.specs.Driver.{ControlSent, apply_if, call_view, is_moment, stream_table, transport_view}
use Rattle.wt_sessions.specs.DriverState.{state_of}
use Rattle.wt_sessions.specs.Scan.{admit_datagram, bi_ids, check_control, check_each, check_living, check_qpack, critical_if, in_order, is_admitted, on_progress, scan_bis, scan_order, scan_unis, session_walked, steps, take_datagrams, take_each, take_parsed, uni_ids, unless_ended, with_fault, with_no_actions}
use Rattle.wt_sessions.specs.StreamTable.{CallView, DriverProgress, Session, StreamTable, TransportView, control_start, decoder_start, dispatched_streams, encoder_start, first_at, is_gone}
use Rattle.wt_turn.specs.Log.{Datagram, Entry, Event, Log, Reported, events_of, is_open}
use Rattle.wt_wire.specs.declared.error.ErrorCode.{ErrorCode}
use Rattle.wt_wire.specs.declared.side.Side.{Side}
use Rattle.wt_wire.specs.declared.side.StreamEnd.TheVariants.{Running}

-- ---- what looks at no datagram

fault-same : (o : Option ErrorCode) (p : DriverProgress) → (with_fault o p).datagrams ≡ p.datagrams
fault-same None p = refl
fault-same (Some code) p = refl

critical-same : (b : Bool) (p : DriverProgress) → (critical_if b p).datagrams ≡ p.datagrams
critical-same true p = refl
critical-same false p = refl

control-same : (t : TransportView) (o : Option (ℕ × ℕ)) (p : DriverProgress) → (check_control t o p).datagrams ≡ p.datagrams
control-same t None p = refl
control-same t (Some c) p = fault-same _ _

qpack-same : (t : TransportView) (o : Option (ℕ × ℕ)) (p : DriverProgress) → (check_qpack t o p).datagrams ≡ p.datagrams
qpack-same t None p = refl
qpack-same t (Some c) p = critical-same _ p

module _ (t : TransportView) (calls : CallView) where
  walked-same : (k : ℕ) (by_capsule : Bool) (walk : SessionWalk) (table : StreamTable) → (session_walked t calls k by_capsule walk table).progress.datagrams ≡ table.progress.datagrams
  walked-same k by_capsule walks.Running table = refl
  walked-same k by_capsule (walks.Closed code reason) table = refl
  walked-same k by_capsule (walks.Fault code) table = refl

  living-same : (s : Session) (table : StreamTable) → (check_living t calls s table).progress.datagrams ≡ table.progress.datagrams
  living-same s table = by (is_gone calls table s.id)
    where
      capsule : Bool
      capsule = is_over (session_walk_of (drop s.offset (t.contents s.id)) Running)

      walk : SessionWalk
      walk = session_walk_of (drop s.offset (t.contents s.id)) (t.end s.id)

      by : (b : Bool) → (if b then table else session_walked t calls s.id capsule walk table).progress.datagrams ≡ table.progress.datagrams
      by true = refl
      by false = walked-same s.id capsule walk table

  -- ---- each step

  abbrev AreWithin : StreamTable → Type 0
  AreWithin table = table.progress.datagrams ≤ length t.datagrams

  stay : (table next : StreamTable) → next.progress.datagrams ≡ table.progress.datagrams → AreWithin table → AreWithin next
  stay table next e l = omega (arith, e, l)

  each-within : (xs : List Session) (table : StreamTable) → AreWithin table → AreWithin (check_each t calls xs table)
  each-within [] table l = l
  each-within (s ∷ xs) table l = by table.progress.fault (each-within xs (check_living t calls s table) (stay table (check_living t calls s table) (living-same s table) l))
    where
      by : (o : Option ErrorCode) → AreWithin (check_each t calls xs (check_living t calls s table)) → AreWithin (unless_ended o (λ u. check_each t calls xs (check_living t calls s u)) table)
      by (Some code) again = l
      by None again = again

  admit-count : (b : Bool) (s : ℕ) (payload : List ℕ) (table : StreamTable) → (admit_datagram b s payload table).progress.datagrams ≡ suc table.progress.datagrams
  admit-count true s payload table = refl
  admit-count false s payload table = refl

  parsed-count : (r : Result (ℕ × List ℕ) ErrorCode) (table : StreamTable) → (take_parsed calls r table).progress.datagrams ≤ suc table.progress.datagrams
  parsed-count (Ok d) table = let e = admit-count (is_admitted (dispatched_streams calls table) (4 * d.0)) (4 * d.0) d.1 table in omega (arith, e)
  parsed-count (Err code) table = omega arith

  take-within : (pieces : List (List ℕ)) (table : StreamTable) → table.progress.datagrams + length pieces ≤ length t.datagrams → AreWithin (take_each calls pieces table)
  take-within [] table l = omega (arith, l)
  take-within (piece ∷ later) table l =
      by table.progress.fault (take-within later (take_parsed calls (datagram_of piece) table) (let one = parsed-count (datagram_of piece) table in omega (arith, one, l)))
    where
      by : (o : Option ErrorCode) → AreWithin (take_each calls later (take_parsed calls (datagram_of piece) table))
          → AreWithin (unless_ended o (λ u. take_each calls later (take_parsed calls (datagram_of piece) u)) table)
      by (Some code) again = omega (arith, l)
      by None again = again

  datagrams-within : (table : StreamTable) → AreWithin table → AreWithin (take_datagrams t calls table)
  datagrams-within table l = by t.ready
    where
      by : (b : Bool) → AreWithin (if b then take_each calls (drop table.progress.datagrams t.datagrams) table else table)
      by true = take-within (drop table.progress.datagrams t.datagrams) table (let left = length-drop table.progress.datagrams t.datagrams in omega (arith, left, l))
      by false = l

  -- ---- a moment

  abbrev AllStay : List (StreamTable → StreamTable) → Type 0
  AllStay [] = Unit {0}
  AllStay (f ∷ fs) = ((table : StreamTable) → AreWithin table → AreWithin (f table)) × AllStay fs

  order-within : (fs : List (StreamTable → StreamTable)) (table : StreamTable) → AllStay fs → AreWithin table → AreWithin (in_order fs table)
  order-within [] table all l = l
  order-within (f ∷ fs) table all l = order-within fs (unless_ended table.progress.fault f table) all.1 (by table.progress.fault)
    where
      by : (o : Option ErrorCode) → AreWithin (unless_ended o f table)
      by None = all.0 table l
      by (Some code) = l

  unless : (f : DriverProgress → DriverProgress) (table : StreamTable) → (f table.progress).datagrams ≡ table.progress.datagrams → AreWithin table → AreWithin (on_progress f table)
  unless f table e l = stay table (on_progress f table) e l

  moment-within : (table : StreamTable) → AreWithin table → AreWithin (scan_order t calls table)
  moment-within table l = order-within (steps t calls) (on_progress with_no_actions table) ((λ x a. stay x (scan_unis t calls x) (kind-datagrams t calls none_sent false (λ k. uni_verdict_of (t.contents k) (t.end k)) (uni_ids t) x) a), ((λ x a. stay x (scan_bis t calls x) (kind-datagrams t calls none_sent false (λ k. bi_verdict_of (t.contents k) (t.end k)) (bi_ids t) x) a), (datagrams-within, (each-within calls.sessions, ((λ x a. unless (critical_if (t.is_stopped (local_uni t.side))) x (critical-same (t.is_stopped (local_uni t.side)) x.progress) a), ((λ x a. unless (check_control t (first_at control_start x.classified)) x (control-same t (first_at control_start x.classified) x.progress) a), ((λ x a. unless (check_qpack t (first_at encoder_start x.classified)) x (qpack-same t (first_at encoder_start x.classified) x.progress) a), ((λ x a. unless (check_qpack t (first_at decoder_start x.classified)) x (qpack-same t (first_at decoder_start x.classified) x.progress) a), tt)))))))) l
    where
      none_sent : ControlSent
      none_sent = record { opened = false; sent = 0 }

-- ---- a log

event-more : (e : Event) (es : List Event) → length (datagrams_of es) ≤ length (datagrams_of (e ∷ es))
event-more (Datagram piece) es = let n = length-append (datagrams_of es) (piece ∷ []) in omega (arith, n)
event-more e es = omega arith

entry-more : (e : Entry) (log : Log) → length (datagrams_of (events_of log)) ≤ length (datagrams_of (events_of (e ∷ log)))
entry-more (Reported e) log = event-more e (events_of log)
entry-more e log = omega arith

table-within : (side : Side) (log : Log) → (stream_table side log).progress.datagrams ≤ length (datagrams_of (events_of log))
unfolding stream_table
table-within side [] = omega arith
table-within side (e ∷ log) = by (is_moment e && is_open (e ∷ log)) (let l = table-within side log in let m = entry-more e log in omega (arith, l, m))
  where
    by : (b : Bool) → (stream_table side log).progress.datagrams ≤ length (datagrams_of (events_of (e ∷ log)))
        → (apply_if b (scan_order (transport_view side (e ∷ log)) (call_view (e ∷ log))) (stream_table side log)).progress.datagrams ≤ length (datagrams_of (events_of (e ∷ log)))
    by true before = moment-within (transport_view side (e ∷ log)) (call_view (e ∷ log)) (stream_table side log) before
    by false before = before

-- no more datagrams were looked at than came
pub looked-at : (side : Side) (log : Log) → (state_of side log).progress.datagrams ≤ length (datagrams_of (events_of log))
unfolding state_of
looked-at side log = table-within side log
