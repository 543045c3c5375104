-- Sessions: those that a moment finds closed are those that a walk over the established ones closes.
use Rattle.std.specs.Prelude.{[], ◌++◌, ◌∷◌, ◌≡◌, Bool, List, None, Option, Some, drop, false, filter_map, if◌then◌else◌, length, map, true, unwrap_or, ℕ}
use Rattle.std.specs.Option.{option_or}
use Rattle.std.proofs.Common.{◌∙◌, ap, refl, subst, sym}
use Rattle.std.proofs.lemmas.List.{append-nil}
use Rattle.wt_meaning.specs.Findings.{Faulted, Finding, SessionClosed, fault_in, fault_of, is_datagram, reads_settings, settings_came, verdict_in, verdict_of}
use Rattle.wt_meaning.specs.History.{History, contents, events}
use Rattle.wt_meaning.specs.Moments.{WalkSession, after_checks, closing, session_found}
use Rattle.wt_proto.specs.SessionWalk.{is_over, session_walk_of}
use Rattle.wt_meaning.specs.Windows.{after_request, after_response, is_established, is_gone, lives, session_part}
use Rattle.wt_proto.specs.ResponseWalk.{response_walk_of}
use Rattle.wt_proto.specs.declared.session_walk.SessionWalk.{SessionWalk}
use Rattle.wt_proto.specs.declared.verdict.Verdict.{Verdict}
use Rattle.wt_turn.specs.Reports.{end_of}
use Rattle.wt_sessions.specs.Scan.{check_each, check_living, check_session, session_walked, unless_ended}
use Rattle.wt_sessions.specs.StreamTable.{CallView, Closed, Session, StreamTable, TransportView}
use Rattle.wt_sessions.specs.StreamTable as tables
use Rattle.wt_sessions_agree.proofs.Appends.{adds, any-append, drops, filter-drops, first-append}
use Rattle.wt_sessions_agree.proofs.Basics.{or-false, or-none}
use Rattle.wt_sessions_agree.proofs.ScanLaws.{fault-fields, check-step, checks-faulty}
use Rattle.wt_sessions_agree.proofs.WindowLaws.{gone-agrees}
use Rattle.wt_sessions_agree.specs.Agrees.{IsTable, admitted_in, classified_in, closed_in}
use Rattle.wt_sessions_agree.specs.Orderly.{PartsBegin, session_at}
use Rattle.wt_sessions_agree.specs.Stands.{CallsAgree, ViewsAgree}
use Rattle.wt_wire.specs.declared.error.ErrorCode.{ErrorCode}
use Rattle.wt_wire.specs.declared.side.Side.{Side}
use Rattle.wt_wire.specs.declared.side.StreamEnd.{StreamEnd}
use Rattle.wt_proto.specs.declared.session_walk.SessionWalk.TheVariants as walks
use Rattle.wt_wire.specs.declared.side.StreamEnd.TheVariants as ends

-- what is no stream moves none
pub begin-same : (h : History) (offset : ℕ → ℕ) (found : List Finding) (f : Finding) → ((k : ℕ) → is_established h k ≡ true → verdict_in k f ≡ None) → PartsBegin h offset found
    → PartsBegin h offset (found ++ f ∷ [])
begin-same h offset found f e b k s = ap part (first-append (verdict_in k) found f ∙ ap (option_or (verdict_of found k)) (e k s) ∙ or-none (verdict_of found k)) ∙ b k s
  where
    part : Option Verdict → ℕ
    part v = unwrap_or (after_request v) (after_response (response_walk_of (contents h k) (end_of (events h) k)))

module _ (t : TransportView) (calls : CallView) where
  -- a session that the peer closed
  closed-table : (found : List Finding) (table : StreamTable) (s code : ℕ) (reason : List ℕ) (by_capsule : Bool) → IsTable found table
      → IsTable (found ++ SessionClosed s code reason by_capsule ∷ []) (session_walked t calls s by_capsule (walks.Closed code reason) table)
  closed-table found table s code reason by_capsule holds = record {
    classified = drops classified_in (SessionClosed s code reason by_capsule) refl found ∙ holds.classified;
    datagrams = drops admitted_in (SessionClosed s code reason by_capsule) refl found ∙ holds.datagrams;
    closed =
        adds closed_in (SessionClosed s code reason by_capsule) (record { id = s; code = code; reason = reason }) refl found
        ∙ ap (λ (xs : List Closed). xs ++ record { id = s; code = code; reason = reason } ∷ []) holds.closed;
    looked_at = ap length (filter-drops is_datagram (SessionClosed s code reason by_capsule) refl found) ∙ holds.looked_at;
    settings = any-append reads_settings found (SessionClosed s code reason by_capsule) ∙ or-false (settings_came found) ∙ holds.settings;
    fault = first-append fault_in found (SessionClosed s code reason by_capsule) ∙ or-none (fault_of found) ∙ holds.fault;
  }

  -- what the walk over a living session's part leads to
  pub walked-table : (found : List Finding) (table : StreamTable) (s : ℕ) (by_capsule : Bool) (walk : SessionWalk) → fault_of found ≡ None → IsTable found table
      → IsTable (found ++ session_found s by_capsule walk) (session_walked t calls s by_capsule walk table)
  walked-table found table s by_capsule walks.Running f holds = subst (λ (l : List Finding). IsTable l table) (sym (append-nil found)) holds
  walked-table found table s by_capsule (walks.Closed code reason) f holds = closed-table found table s code reason by_capsule holds
  walked-table found table s by_capsule (walks.Fault code) f holds = fault-fields found table code f holds

-- what the step of a session keeps, of what was found and the table
pub record WalkKeeps (h : History) (t : TransportView) (calls : CallView) (Keeps : List Finding → StreamTable → Type 0) : Type 0 where
  pub table : (found : List Finding) (table : StreamTable) → Keeps found table → IsTable found table
  pub walked : (found : List Finding) (table : StreamTable) (s : ℕ) (by_capsule : Bool) (walk : SessionWalk) → fault_of found ≡ None → lives h found s ≡ true → Keeps found table
      → Keeps (found ++ session_found s by_capsule walk) (session_walked t calls s by_capsule walk table)

-- that the table holds what was found is kept
pub table-walked : (h : History) (t : TransportView) (calls : CallView) → WalkKeeps h t calls IsTable
table-walked h t calls = record { table = λ found table holds. holds; walked = λ found table s by_capsule walk f l holds. walked-table t calls found table s by_capsule walk f holds }

module _ (side : Side) (h : History) (t : TransportView) (calls : CallView) (offset : ℕ → ℕ) (g : ViewsAgree side h t) (c : CallsAgree h calls) (Keeps : List Finding → StreamTable → Type 0)
    (kept : WalkKeeps h t calls Keeps) where
  walked-begin : (found : List Finding) (s : ℕ) (by_capsule : Bool) (walk : SessionWalk) → PartsBegin h offset found → PartsBegin h offset (found ++ session_found s by_capsule walk)
  walked-begin found s by_capsule walks.Running b = subst (PartsBegin h offset) (sym (append-nil found)) b
  walked-begin found s by_capsule (walks.Closed code reason) b = begin-same h offset found (SessionClosed s code reason by_capsule) (λ k s. refl) b
  walked-begin found s by_capsule (walks.Fault code) b = begin-same h offset found (Faulted code) (λ k s. refl) b

  check-faulty : (xs : List Session) (table : StreamTable) (code : ErrorCode) → table.progress.fault ≡ Some code → check_each t calls xs table ≡ table
  check-faulty [] table code e = refl
  check-faulty (x ∷ xs) table code e = rw e refl

  abbrev Walks : List ℕ → Type 0
  Walks ids = (found : List Finding) (table : StreamTable) → PartsBegin h offset found → Keeps found table
      → Keeps (after_checks side h (map WalkSession ids) found) (check_each t calls (filter_map (session_at h offset) ids) table)

  -- an id of which nothing is found
  skips : (k : ℕ) (ids : List ℕ) (found : List Finding) (xs : List Session) (table : StreamTable) → fault_of found ≡ None → lives h found k ≡ false
      → Keeps (after_checks side h (map WalkSession ids) found) (check_each t calls xs table) → Keeps (after_checks side h (map WalkSession (k ∷ ids)) found) (check_each t calls xs table)
  skips k ids found xs table f l again =
      let x : closing h found k ≡ [] = rw l refl in
      rw (check-step side h (WalkSession k) (map WalkSession ids) found [] f x, append-nil found) again

  -- an established session
  established : (k : ℕ) (ids : List ℕ) (found : List Finding) (table : StreamTable) → is_established h k ≡ true → fault_of found ≡ None → Walks ids → PartsBegin h offset found → Keeps found table
      → (b : Bool) → is_gone h found k ≡ b
      → Keeps (after_checks side h (map WalkSession (k ∷ ids)) found) (check_each t calls (record { id = k; offset = offset k } ∷ filter_map (session_at h offset) ids) table)
  established k ids found table e f again b holds true q =
      let none : table.progress.fault ≡ None = sym (kept.table found table holds).fault ∙ f in
      let gone : tables.is_gone calls table k ≡ true = gone-agrees h calls found table k c (kept.table found table holds) ∙ q in
      let s : check_each t calls (record { id = k; offset = offset k } ∷ filter_map (session_at h offset) ids) table ≡ check_each t calls (filter_map (session_at h offset) ids) table
      = ap (λ (o : Option ErrorCode). unless_ended o (λ u. check_each t calls (filter_map (session_at h offset) ids) (check_living t calls (record { id = k; offset = offset k }) u)) table) none
      ∙ ap (λ (o : Bool). check_each t calls (filter_map (session_at h offset) ids) (if o then table else check_session t calls k (drop (offset k) (t.contents k)) (t.end k) table)) gone in
      rw s (skips k ids found (filter_map (session_at h offset) ids) table f (rw (e, q) refl) (again found table b holds))
  established k ids found table e f again b holds false q =
      let none : table.progress.fault ≡ None = sym (kept.table found table holds).fault ∙ f in
      let gone : tables.is_gone calls table k ≡ false = gone-agrees h calls found table k c (kept.table found table holds) ∙ q in
      let capsule : Bool = is_over (session_walk_of (drop (offset k) (contents h k)) ends.Running) in
      let walk : SessionWalk = session_walk_of (drop (offset k) (contents h k)) (end_of (events h) k) in
      let s : check_each t calls (record { id = k; offset = offset k } ∷ filter_map (session_at h offset) ids) table
      ≡ check_each t calls (filter_map (session_at h offset) ids) (session_walked t calls k capsule walk table)
      = ap (λ (o : Option ErrorCode). unless_ended o (λ u. check_each t calls (filter_map (session_at h offset) ids) (check_living t calls (record { id = k; offset = offset k }) u)) table) none
      ∙ ap (check_each t calls (filter_map (session_at h offset) ids)) (ap (λ (o : Bool). if o then table else check_session t calls k (drop (offset k) (t.contents k)) (t.end k) table) gone
      ∙ ap (λ (bytes : List ℕ). session_walked t calls k (is_over (session_walk_of bytes ends.Running)) (session_walk_of bytes (t.end k)) table) (ap (drop (offset k)) (g.contents k))
      ∙ ap (λ (e : StreamEnd). session_walked t calls k capsule (session_walk_of (drop (offset k) (contents h k)) e) table) (g.end k)) in
      let part : session_part h found k ≡ drop (offset k) (contents h k) = ap (λ (n : ℕ). drop n (contents h k)) (b k e) in
      let x : closing h found k ≡ session_found k capsule walk = rw (e, q, part) refl in
      rw (s, check-step side h (WalkSession k) (map WalkSession ids) found (session_found k capsule walk) f x)
      (again (found ++ session_found k capsule walk) (session_walked t calls k capsule walk table) (walked-begin found k capsule walk b)
      (kept.walked found table k capsule walk f (rw (e, q) refl) holds))

  pub walks-keep : (ids : List ℕ) → Walks ids
  walks-keep [] found table b holds = holds
  walks-keep (k ∷ ids) found table b holds = by (fault_of found) refl (is_established h k) refl (walks-keep ids)
    where
      by : (o : Option ErrorCode) → fault_of found ≡ o → (e : Bool) → is_established h k ≡ e → Walks ids
          → Keeps (after_checks side h (map WalkSession (k ∷ ids)) found) (check_each t calls (filter_map (session_at h offset) (k ∷ ids)) table)
      by (Some code) f e q again =
          rw (checks-faulty side h (map WalkSession (k ∷ ids)) found code f, check-faulty (filter_map (session_at h offset) (k ∷ ids)) table code (sym (kept.table found table holds).fault ∙ f)) holds
      by None f false q again =
          let m : filter_map (session_at h offset) (k ∷ ids) ≡ filter_map (session_at h offset) ids = rw q refl in
          rw m (skips k ids found (filter_map (session_at h offset) ids) table f (rw q refl) (again found table b holds))
      by None f true q again =
          let m : filter_map (session_at h offset) (k ∷ ids) ≡ record { id = k; offset = offset k } ∷ filter_map (session_at h offset) ids = rw q refl in
          rw m (established k ids found table q f again b holds (is_gone h found k) refl)
