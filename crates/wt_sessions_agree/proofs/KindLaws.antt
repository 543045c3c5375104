-- A kind's streams at a moment, ready or not.
use Rattle.std.specs.Prelude.{[], ◌*◌, ◌+◌, ◌<◌, ◌∷◌, ◌≡◌, Bool, List, None, Option, Some, false, filter, length, nat_lt, not, true, ℕ}
use Rattle.std.proofs.Common.{◌∙◌, ap, refl, sym}
use Rattle.std.proofs.lemmas.List.{append-nil}
use Rattle.wt_meaning.specs.Findings.{Finding, fault_of, is_classified, is_dequeued}
use Rattle.wt_meaning.specs.History.{History}
use Rattle.wt_meaning.specs.Moments.{Classify, Dequeue, after_checks, classifying, dequeuing, ids_from, is_ready, stream_checks, verdict}
use Rattle.wt_proto.specs.declared.verdict.Verdict.{Verdict}
use Rattle.wt_sessions.specs.Scan.{is_unclassified, scan_kind}
use Rattle.wt_sessions.specs.StreamTable.{CallView, StreamTable, TransportView}
use Rattle.wt_sessions_agree.proofs.Appends.{filter-ids}
use Rattle.wt_sessions_agree.proofs.FoundLaws.{ripe-agrees}
use Rattle.wt_sessions_agree.proofs.ScanLaws.{Admits, ScanKeeps, check-step, checks-faulty, scan-keeps}
use Rattle.wt_wire.specs.declared.error.ErrorCode.{ErrorCode}
use Rattle.wt_wire.specs.declared.side.Side.{Side}

-- before this end is ready nothing is taken, and nothing is found
idle : (side : Side) (h : History) (ids : List ℕ) (found : List Finding) → is_ready side h ≡ false → ((k : ℕ) → is_dequeued found k ≡ false) → after_checks side h (stream_checks ids) found ≡ found
idle side h [] found r u = refl
idle side h (k ∷ ids) found r u = by (fault_of found) refl (idle side h ids found r u)
  where
    by : (o : Option ErrorCode) → fault_of found ≡ o → after_checks side h (stream_checks ids) found ≡ found → after_checks side h (stream_checks (k ∷ ids)) found ≡ found
    by (Some c) e again = checks-faulty side h (stream_checks (k ∷ ids)) found c e
    by None e again =
        let t : dequeuing side h found k ≡ [] = rw (u k, r) refl in
        let p : classifying h found k ≡ [] = rw (u k) refl in
        check-step side h (Dequeue k) (Classify k ∷ stream_checks ids) found [] e t ∙ ap (after_checks side h (Classify k ∷ stream_checks ids)) (append-nil found)
        ∙ check-step side h (Classify k) (stream_checks ids) found [] e p ∙ ap (after_checks side h (stream_checks ids)) (append-nil found) ∙ again

pub kind-keeps : (side : Side) (h : History) (t : TransportView) (calls : CallView) (v : ℕ → Verdict) (kind count : ℕ) → kind < 4 → t.ready ≡ is_ready side h
    → ((m : ℕ) → verdict h (4 * m + kind) ≡ v (4 * m + kind)) → Admits h t calls
    → (Keeps : List Finding → StreamTable → Type 0) → ScanKeeps h t calls kind Keeps → (found : List Finding) (table : StreamTable) → (is_ready side h ≡ false → (k : ℕ) → is_dequeued found k ≡ false)
    → ((i : ℕ) → is_dequeued found (4 * i + kind) ≡ true → is_classified found (4 * i + kind) ≡ false → nat_lt (length (filter (λ (j : ℕ). not (is_classified found j)) (ids_from kind 0 i))) 4 ≡ true)
    → Keeps found table → Keeps (after_checks side h (stream_checks (ids_from kind 0 count)) found) (scan_kind t calls v (ids_from kind 0 count) table)
kind-keeps side h t calls v kind count small same seen admits Keeps kept found table untaken few holds = by (is_ready side h) refl
  where
    by : (b : Bool) → is_ready side h ≡ b → Keeps (after_checks side h (stream_checks (ids_from kind 0 count)) found) (scan_kind t calls v (ids_from kind 0 count) table)
    by false e = let q : t.ready ≡ false = same ∙ e in rw (idle side h (ids_from kind 0 count) found e (untaken e), q) holds
    by true e =
        let q : t.ready ≡ true = same ∙ e in
        let u : filter (is_unclassified table) (ids_from kind 0 count) ≡ filter (λ (j : ℕ). not (is_classified found j)) (ids_from kind 0 count)
        = filter-ids (is_unclassified table) (λ (j : ℕ). not (is_classified found j)) kind 0 count (λ i a b. sym (ripe-agrees (4 * i + kind) found table (kept.table found table holds))) in
        rw (q, u) (scan-keeps side h t calls v kind small e seen admits Keeps kept count found table few holds)
