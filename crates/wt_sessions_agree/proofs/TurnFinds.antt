-- The moment of a turn of the transport finds what the table holds after it.
use Rattle.std.specs.Prelude.{[], ◌&&◌, ◌∷◌, ◌≡◌, Bool, List, false, filter_map, if◌then◌else◌, is_some, true, ℕ}
use Rattle.std.proofs.Common.{◌∙◌, ap, refl, subst, sym}
use Rattle.wt_meaning.specs.Findings.{Finding}
use Rattle.wt_meaning.specs.History.{History, Pair, contents, events, is_open, stream_count}
use Rattle.wt_meaning.specs.Moments.{after_checks, after_moments, checks, findings, ids_from}
use Rattle.wt_promise.proofs.Grows.{peers-checked}
use Rattle.wt_turn.specs.Reports.{datagrams_of, end_of, stop_of}
use Rattle.wt_turn.specs.Streams.{peer_bi, peer_count, peer_uni}
use Rattle.wt_turn.specs.Streams as streams
use Rattle.wt_sessions.specs.Driver.{apply_if, call_view, flush, is_moment, log_and_flush, pending_actions, stream_table, transport_view}
use Rattle.wt_sessions.specs.Scan.{scan_order}
use Rattle.wt_sessions.specs.StreamTable.{CallView}
use Rattle.wt_sessions_agree.proofs.CameAgrees.{ready-by-events}
use Rattle.wt_sessions_agree.proofs.MomentAgrees.{moment-agrees}
use Rattle.wt_sessions_agree.proofs.OrderlyLaws.{orderly-checks}
use Rattle.wt_sessions_agree.specs.Agrees.{IsTable}
use Rattle.wt_sessions_agree.specs.Orderly.{Orderly, session_at}
use Rattle.wt_sessions_agree.specs.Stands.{CallsAgree, SeesAlike}
use Rattle.wt_turn.specs.Log.{Entry, Log, Sent, events_of, with_actions}
use Rattle.wt_turn.specs.Log as logs
use Rattle.wt_turn.specs.declared.action.Action.{Action}
use Rattle.wt_turn.specs.declared.reply.Reply.{Reply}
use Rattle.wt_wire.specs.declared.side.Side.{Side}
use Rattle.wt_turn.specs.declared.reply.Reply.TheVariants as replies

-- ---- what went out is no moment

pub acted-table : (side : Side) (own : List Action) (log : Log) → stream_table side (with_actions own log) ≡ stream_table side log
unfolding stream_table
acted-table side [] log = refl
acted-table side (a ∷ own) log = acted-table side own (Sent a ∷ log)

flushed-table : (side : Side) (log : Log) (e : Entry) → stream_table side (log_and_flush side log e) ≡ stream_table side (e ∷ log)
unfolding flush
flushed-table side log e = by (is_moment e && logs.is_open (e ∷ log))
  where
    by : (b : Bool) → stream_table side (apply_if b (with_actions (pending_actions side (e ∷ log))) (e ∷ log)) ≡ stream_table side (e ∷ log)
    by true = acted-table side (pending_actions side (e ∷ log)) (e ∷ log)
    by false = refl

-- the table at a moment that finds the connection open
pub entry-table : (side : Side) (log : Log) (e : Entry) → (is_moment e && logs.is_open (e ∷ log)) ≡ true
    → stream_table side (e ∷ log) ≡ scan_order (transport_view side (e ∷ log)) (call_view (e ∷ log)) (stream_table side log)
unfolding stream_table
entry-table side log e m = ap (λ (b : Bool). apply_if b (scan_order (transport_view side (e ∷ log)) (call_view (e ∷ log))) (stream_table side log)) m

-- so after such a moment, and after any other entry
pub table-then : (side : Side) (log : Log) (e : Entry) → (is_moment e && logs.is_open (e ∷ log)) ≡ true
    → stream_table side (log_and_flush side log e) ≡ scan_order (transport_view side (e ∷ log)) (call_view (e ∷ log)) (stream_table side log)
table-then side log e m = flushed-table side log e ∙ entry-table side log e m

pub table-same : (side : Side) (log : Log) (e : Entry) → (is_moment e && logs.is_open (e ∷ log)) ≡ false → stream_table side (log_and_flush side log e) ≡ stream_table side log
unfolding stream_table
table-same side log e m = flushed-table side log e ∙ ap (λ (b : Bool). apply_if b (scan_order (transport_view side (e ∷ log)) (call_view (e ∷ log))) (stream_table side log)) m

-- ---- both look at the same

pub sees-alike : (side : Side) (offset : ℕ → ℕ) (h : History) (log : Log) → events h ≡ events_of log → ((k : ℕ) → contents h k ≡ streams.contents log k) → CallsAgree h (call_view log)
    → (call_view log).sessions ≡ filter_map (session_at h offset) (ids_from 0 0 (stream_count side h 0)) → SeesAlike side h (transport_view side log) (call_view log) offset
sees-alike side offset h log e c calls sessions = record {
  views = record {
    own = refl;
    contents = λ k. sym (c k);
    end = λ k. ap (λ es. end_of es k) (sym e);
    stopped = λ k. ap (λ es. is_some (stop_of es k)) (sym e);
  };
  ready = sym (ready-by-events side h log e);
  unis = ap (λ es. peer_count side es (peer_uni side)) (sym e);
  bis = ap (λ es. peer_count side es (peer_bi side)) (sym e);
  datagrams = ap datagrams_of (sym e);
  calls = calls;
  sessions = sessions;
}

-- what the newest pair's moment finds, where its reply establishes no session
pub found-then : (side : Side) (p : Pair) (h : History) → p.answer.reply ≡ replies.Done → is_open h ≡ true → findings side (p ∷ h) ≡ after_checks side (p ∷ h) (checks side (p ∷ h)) (findings side h)
unfolding findings
found-then side p h d o =
    ap (λ (b : Bool). if b then after_moments side (p ∷ h) p.answer.reply (findings side h) else findings side h) o
    ∙ ap (λ (r : Reply). after_moments side (p ∷ h) r (findings side h)) d

pub found-same : (side : Side) (p : Pair) (h : History) → is_open h ≡ false → findings side (p ∷ h) ≡ findings side h
unfolding findings
found-same side p h o = rw o refl

-- the table and what it holds after a moment of both
pub finds-alike : (side : Side) (offset : ℕ → ℕ) (p : Pair) (h : History) (log : Log) (e : Entry) → p.answer.reply ≡ replies.Done → is_open h ≡ true → (is_moment e && logs.is_open (e ∷ log)) ≡ true
    → SeesAlike side (p ∷ h) (transport_view side (e ∷ log)) (call_view (e ∷ log)) offset → Orderly side (p ∷ h) (call_view (e ∷ log)) offset (findings side h)
    → IsTable (findings side h) (stream_table side log)
    → IsTable (findings side (p ∷ h)) (stream_table side (log_and_flush side log e))
finds-alike side offset p h log e d o m s orderly table =
    let f = found-then side p h d o in
    let t = table-then side log e m in
    subst (λ (found : List Finding). IsTable found (stream_table side (log_and_flush side log e))) (sym f)
    (subst (IsTable (after_checks side (p ∷ h) (checks side (p ∷ h)) (findings side h))) (sym t)
    (moment-agrees side (p ∷ h) (transport_view side (e ∷ log)) (call_view (e ∷ log)) offset s (findings side h) (stream_table side log) orderly table))

-- what held before the moment holds after it
pub orderly-then : (side : Side) (offset : ℕ → ℕ) (p : Pair) (h : History) (calls : CallView) → p.answer.reply ≡ replies.Done → is_open h ≡ true → Orderly side (p ∷ h) calls offset (findings side h)
    → Orderly side (p ∷ h) calls offset (findings side (p ∷ h))
orderly-then side offset p h calls d o orderly =
    subst (Orderly side (p ∷ h) calls offset) (sym (found-then side p h d o)) (orderly-checks side (p ∷ h) calls offset (checks side (p ∷ h)) (peers-checked side (p ∷ h)) (findings side h) orderly)
