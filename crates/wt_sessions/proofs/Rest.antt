-- One scan brings the streams of a kind to rest: a second one changes nothing.
use Rattle.std.proofs.Common.{◌≡◌, ℕ, zero, suc, cond, List, [], ◌∷◌, filter, is_none, refl, sym, ◌∙◌}
use Rattle.std.specs.Prelude.{Option, Some, None}
use Rattle.wt_sessions.proofs.Scans.{AllFresh, classified-here, fresh-after, led, more, scan-same}
use Rattle.wt_proto.specs.declared.verdict.Verdict.{Verdict}
use Rattle.wt_proto.specs.declared.verdict.Verdict.TheVariants as verdicts
use Rattle.wt_sessions.specs.Scan.{classify, is_unclassified, places_after, scan, unless_ended}
use Rattle.wt_sessions.specs.StreamTable.{CallView, StreamTable, TransportView, verdict_of}
use Rattle.wt_wire.specs.declared.error.ErrorCode.{ErrorCode}

module _ (t : TransportView) (calls : CallView) (verdict : ℕ → Verdict) where
  -- the headers of the first n don't show yet what they are
  abbrev pub AreIncomplete : ℕ → List ℕ → Type 0
  AreIncomplete n [] = Unit {0}
  AreIncomplete zero (k ∷ ks) = Unit {0}
  AreIncomplete (suc n) (k ∷ ks) = (verdict k ≡ verdicts.Incomplete) × AreIncomplete n ks

  pub rests : (n : ℕ) (ks : List ℕ) (table : StreamTable) → AreIncomplete n ks → scan t calls verdict n ks table ≡ table
  rests n [] table all = refl
  rests zero (k ∷ ks) table all = refl
  rests (suc n) (k ∷ ks) table all =
      (λ i. unless_ended table.progress.fault (λ u. scan t calls verdict (places_after (all.0 i) n) ks (classify t calls k (all.0 i) u)) table)
      ∙ by table.progress.fault (rests n ks table all.1)
    where
      by : (o : Option ErrorCode) → scan t calls verdict n ks table ≡ table → unless_ended o (λ u. scan t calls verdict n ks u) table ≡ table
      by None again = again
      by (Some code) again = refl

  pub brings-to-rest : (n : ℕ) (ks : List ℕ) (table : StreamTable) → AllFresh t calls table ks → (scan t calls verdict n ks table).progress.fault ≡ None
      → AreIncomplete n (filter (is_unclassified (scan t calls verdict n ks table)) ks)
  brings-to-rest n [] table all none = tt
  brings-to-rest zero (k ∷ ks) table all none = nothing (filter (is_unclassified table) (k ∷ ks))
    where
      nothing : (js : List ℕ) → AreIncomplete zero js
      nothing [] = tt
      nothing (j ∷ js) = tt
  brings-to-rest (suc n) (k ∷ ks) table all none = by table.progress.fault refl (verdict k) refl none (λ m T f e. brings-to-rest m ks T f e)
    where
      stays : (T : StreamTable) → verdict k ≡ verdicts.Incomplete → verdict_of k T.classified ≡ None → AreIncomplete n (filter (is_unclassified T) ks)
          → AreIncomplete (suc n) (filter (is_unclassified T) (k ∷ ks))
      stays T v e again = by_test (verdict_of k T.classified) e
        where
          by_test : (o : Option Verdict) → o ≡ None → AreIncomplete (suc n) (cond (is_none o) (k ∷ filter (is_unclassified T) ks) (filter (is_unclassified T) ks))
          by_test None f = (v, again)
          by_test (Some w) f = absurd cc

      goes : (T : StreamTable) (v : Verdict) → verdict_of k T.classified ≡ Some v → AreIncomplete (suc n) (filter (is_unclassified T) ks)
          → AreIncomplete (suc n) (filter (is_unclassified T) (k ∷ ks))
      goes T v e again = by_test (verdict_of k T.classified) e
        where
          by_test : (o : Option Verdict) → o ≡ Some v → AreIncomplete (suc n) (cond (is_none o) (k ∷ filter (is_unclassified T) ks) (filter (is_unclassified T) ks))
          by_test None f = absurd cc
          by_test (Some w) f = again

      one_more : (v : Verdict) → (scan t calls verdict (suc n) ks (more t calls table k v)).progress.fault ≡ None
          → ((m : ℕ) (T : StreamTable) → AllFresh t calls T ks → (scan t calls verdict m ks T).progress.fault ≡ None → AreIncomplete m (filter (is_unclassified (scan t calls verdict m ks T)) ks))
          → AreIncomplete (suc n) (filter (is_unclassified (scan t calls verdict (suc n) ks (more t calls table k v))) (k ∷ ks))
      one_more v e again =
          goes (scan t calls verdict (suc n) ks (more t calls table k v)) v
          (scan-same t calls verdict (suc n) k ks (more t calls table k v) all.2
          ∙ classified-here (record { id = k; verdict = v; admitted = (led t calls table k v).admitted }) table.classified all.1)
          (again (suc n) (more t calls table k v) (fresh-after t calls table k v ks all.2 all.3) e)

      by : (o : Option ErrorCode) → table.progress.fault ≡ o → (v : Verdict) → verdict k ≡ v
          → (unless_ended o (λ u. scan t calls verdict (places_after v n) ks (classify t calls k v u)) table).progress.fault ≡ None
          → ((m : ℕ) (T : StreamTable) → AllFresh t calls T ks → (scan t calls verdict m ks T).progress.fault ≡ None → AreIncomplete m (filter (is_unclassified (scan t calls verdict m ks T)) ks))
          → AreIncomplete (suc n) (filter (is_unclassified (unless_ended o (λ u. scan t calls verdict (places_after v n) ks (classify t calls k v u)) table)) (k ∷ ks))
      by (Some code) f v g e again = absurd (let h = sym f ∙ e in cc)
      by None f verdicts.Incomplete g e again =
          stays (scan t calls verdict n ks table) g (scan-same t calls verdict n k ks table all.2 ∙ all.1) (again n table all.3 e)
      by None f (verdicts.Control offset) g e again = one_more (verdicts.Control offset) e again
      by None f (verdicts.Encoder offset) g e again = one_more (verdicts.Encoder offset) e again
      by None f (verdicts.Decoder offset) g e again = one_more (verdicts.Decoder offset) e again
      by None f (verdicts.WebTransport session offset) g e again = one_more (verdicts.WebTransport session offset) e again
      by None f (verdicts.Request headers offset) g e again = one_more (verdicts.Request headers offset) e again
      by None f (verdicts.Refused code) g e again = one_more (verdicts.Refused code) e again
      by None f verdicts.Dropped g e again = one_more verdicts.Dropped e again
      by None f (verdicts.Fault code) g e again = one_more (verdicts.Fault code) e again
