-- Windows and requests: the same sessions are gone, as many streams wait, as many requests are held.
use Rattle.std.specs.Prelude.{[], ◌&&◌, ◌==◌, ◌∷◌, ◌||◌, ◌≡◌, Bool, List, None, Option, Some, cond, false, filter, filter_map, if◌then◌else◌, length, map, nat_lt, not, suc, true, ℕ}
use Rattle.std.specs.List.{list_any}
use Rattle.std.proofs.Common.{◌∙◌, ap, refl, sym}
use Rattle.wt_meaning.specs.Findings.{DatagramRead, Dequeued, Faulted, Finding, SessionClosed, SettingsRead}
use Rattle.wt_meaning.specs.Findings as finds
use Rattle.wt_meaning.specs.History.{History, is_handed_out}
use Rattle.wt_meaning.specs.Moments.{keeps}
use Rattle.wt_meaning.specs.Windows.{admitted_stream, held_requests, is_established, is_gone, makes_gone, queued_request, shares_window, streams_in_window}
use Rattle.wt_sessions.specs.StreamTable.{CallView, Classified, Consequence, StreamTable, TransportView, Waiting, admit_or_stop, consequence, dispatched_streams, has_room, is_closed, is_turned_away, queued_id, waits_in, was_established}
use Rattle.wt_sessions.specs.StreamTable as tables
use Rattle.wt_sessions_agree.proofs.Basics.{and-false, and-true}
use Rattle.wt_sessions_agree.proofs.ScanLaws.{Admits}
use Rattle.wt_sessions_agree.specs.Agrees.{IsTable, classified_in, closed_in}
use Rattle.wt_sessions_agree.specs.Stands.{CallsAgree}
use Rattle.wt_proto.specs.declared.verdict.Verdict.TheVariants as verdicts

-- ---- gone

or-left-true : (a b c : Bool) → a ≡ (b || c) → (x : Bool) → (x || a) ≡ (b || (x || c))
or-left-true a true c e true = refl
or-left-true a true c e false = e
or-left-true a false c e true = refl
or-left-true a false c e false = e

or-in-front : (a b c : Bool) → a ≡ (b || c) → (x : Bool) → (x || a) ≡ ((x || b) || c)
or-in-front a b c e true = refl
or-in-front a b c e false = e

gone-found : (s : ℕ) (found : List Finding) → list_any (makes_gone s) found ≡ (list_any (is_closed s) (filter_map closed_in found) || list_any (is_turned_away s) (filter_map classified_in found))
gone-found s [] = refl
gone-found s (finds.Classified id (verdicts.Refused code) keeps ∷ found) =
    rw (and-true (id == s)) (or-left-true _ (list_any (is_closed s) (filter_map closed_in found)) _ (gone-found s found) (id == s))
gone-found s (finds.Classified id (verdicts.Request f o) false ∷ found) =
    rw (and-true (id == s)) (or-left-true _ (list_any (is_closed s) (filter_map closed_in found)) _ (gone-found s found) (id == s))
gone-found s (finds.Classified id _ keeps ∷ found) = rw (and-false (id == s)) (gone-found s found)
gone-found s (SessionClosed session code reason by_capsule ∷ found) = or-in-front _ (list_any (is_closed s) (filter_map closed_in found)) _ (gone-found s found) (session == s)
gone-found s (_ ∷ found) = gone-found s found

pub gone-agrees : (h : History) (calls : CallView) (found : List Finding) (table : StreamTable) (s : ℕ) → CallsAgree h calls → IsTable found table → tables.is_gone calls table s ≡ is_gone h found s
gone-agrees h calls found table s c t = rw (c.ended s, gone-found s found, t.closed, t.classified) refl

-- ---- waiting streams

module _ (calls : CallView) (a g g2 p q : ℕ → Bool) (acc : (k : ℕ) → calls.accepted k ≡ a k) (gone : (s : ℕ) → g2 s ≡ g s) (pq : (s : ℕ) → g s ≡ false → q s ≡ p s) where
  abbrev Counts : List Finding → Type 0
  Counts found = length (filter p (map (λ (w : Waiting). w.session) (filter (λ (w : Waiting). not (g2 w.session)) (filter_map (waits_in calls) (filter_map classified_in found)))))
      ≡ length (filter (λ (w : ℕ × ℕ). q w.1) (filter (λ (w : ℕ × ℕ). not (a w.0) && not (g w.1)) (filter_map admitted_stream found)))

  window-count : (found : List Finding) → Counts found
  window-count [] = refl
  window-count (finds.Classified id (verdicts.WebTransport s o) true ∷ found) = by (a id) (g s) (p s) refl refl refl (window-count found)
    where
      by : (x y z : Bool) → a id ≡ x → g s ≡ y → p s ≡ z → Counts found → Counts (finds.Classified id (verdicts.WebTransport s o) true ∷ found)
      by true y z e f r again = rw (acc id, e) again
      by false true z e f r again = rw (acc id, e, gone s, f) again
      by false false true e f r again = rw (acc id, e, gone s, f, pq s f, r) (ap suc again)
      by false false false e f r again = rw (acc id, e, gone s, f, pq s f, r) again
  window-count (_ ∷ found) = window-count found

window-agrees : (h : History) (calls : CallView) (found : List Finding) (table : StreamTable) (s : ℕ) → CallsAgree h calls → IsTable found table
    → has_room (dispatched_streams calls table) s (map (λ (w : Waiting). w.session) (tables.waiting_streams calls table)) ≡ nat_lt (streams_in_window h found s) 16
window-agrees h calls found table s c t =
    ap (λ (n : ℕ). nat_lt n 16) (ap (λ (cs : List Classified). length
    (filter (tables.shares_window (dispatched_streams calls table) s)
    (map (λ (w : Waiting). w.session) (filter (λ (w : Waiting). not (tables.is_gone calls table w.session)) (filter_map (waits_in calls) cs))))) (sym t.classified)
    ∙ window-count calls (is_handed_out h) (is_gone h found) (tables.is_gone calls table) (tables.shares_window (dispatched_streams calls table) s) (shares_window h found s) c.accepted
    (λ k. gone-agrees h calls found table k c t) shares found)
  where
    shares : (k : ℕ) → is_gone h found k ≡ false → shares_window h found s k ≡ tables.shares_window (dispatched_streams calls table) s k
    shares k e = rw (c.established s, c.established k, e) (by (is_established h s))
      where
        by : (b : Bool) → (if b then k == s else (not (is_established h k) && true)) ≡ (if b then k == s else not (is_established h k))
        by true = refl
        by false = and-true (not (is_established h k))

-- ---- requests

module _ (g g2 : ℕ → Bool) (gone : (s : ℕ) → g2 s ≡ g s) where
  abbrev pub Held : List Finding → Type 0
  Held found =
      length (filter (λ (k : ℕ). not (g2 k)) (filter_map queued_id (filter_map classified_in found)))
      ≡ length (filter (λ (q : ℕ × List (List ℕ × List ℕ)). not (g q.0)) (filter_map queued_request found))

  pub held-count : (found : List Finding) → Held found
  held-count [] = refl
  held-count (finds.Classified id (verdicts.Request f o) true ∷ found) = by (g id) refl (held-count found)
    where
      by : (x : Bool) → g id ≡ x → Held found → Held (finds.Classified id (verdicts.Request f o) true ∷ found)
      by true e again = rw (gone id, e) again
      by false e again = rw (gone id, e) (ap suc again)
  held-count (_ ∷ found) = held-count found

-- ---- so a stream keeps its place in both or in none

pub admits-agree : (h : History) (t : TransportView) (calls : CallView) → CallsAgree h calls → Admits h t calls
admits-agree h t calls c found table k (verdicts.WebTransport s o) b =
    rw (gone-agrees h calls found table s c b, window-agrees h calls found table s c b) (by (is_gone h found s) (nat_lt (streams_in_window h found s) 16))
  where
    by : (x y : Bool) → (admit_or_stop x y k).admitted ≡ (not x && y)
    by true y = refl
    by false true = refl
    by false false = refl
admits-agree h t calls c found table k (verdicts.Request f o) b =
    let q : length (filter (λ (k : ℕ). not (tables.is_gone calls table k)) (filter_map queued_id table.classified)) ≡ held_requests h found
    =
    ap (λ (cs : List Classified). length (filter (λ (k : ℕ). not (tables.is_gone calls table k)) (filter_map queued_id cs))) (sym b.classified)
    ∙ held-count (is_gone h found) (tables.is_gone calls table) (λ s. gone-agrees h calls found table s c b) found in
    rw q (by (nat_lt (held_requests h found) 4) _ _ refl refl)
  where
    by : (x : Bool) (y z : Consequence) → y.admitted ≡ true → z.admitted ≡ false → (cond x y z).admitted ≡ x
    by true y z e f = e
    by false y z e f = f
admits-agree h t calls c found table k (verdicts.Refused code) b = refl
admits-agree h t calls c found table k (verdicts.Control o) b = by _
  where
    by : (x : Option (ℕ × ℕ)) → (tables.only_once x).admitted ≡ false
    by None = refl
    by (Some y) = refl
admits-agree h t calls c found table k (verdicts.Encoder o) b = by _
  where
    by : (x : Option (ℕ × ℕ)) → (tables.only_once x).admitted ≡ false
    by None = refl
    by (Some y) = refl
admits-agree h t calls c found table k (verdicts.Decoder o) b = by _
  where
    by : (x : Option (ℕ × ℕ)) → (tables.only_once x).admitted ≡ false
    by None = refl
    by (Some y) = refl
admits-agree h t calls c found table k verdicts.Incomplete b = refl
admits-agree h t calls c found table k verdicts.Dropped b = refl
admits-agree h t calls c found table k (verdicts.Fault code) b = refl
