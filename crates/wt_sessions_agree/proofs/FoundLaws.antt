-- What was found says the same of streams as the table.
use Rattle.std.specs.Prelude.{[], ◌==◌, ◌∷◌, ◌≡◌, Bool, List, None, Option, Some, false, filter_map, if◌then◌else◌, is_none, is_some, not, true, ℕ}
use Rattle.std.specs.Option.{option_or}
use Rattle.std.proofs.Common.{◌∙◌, ap, refl}
use Rattle.wt_meaning.specs.Findings.{DatagramRead, Dequeued, Faulted, Finding, SessionClosed, SettingsRead, control_in, decoder_in, encoder_in, first_of, is_classified, verdict_in, verdict_of}
use Rattle.wt_meaning.specs.Findings as finds
use Rattle.wt_proto.specs.declared.verdict.Verdict.{Verdict}
use Rattle.wt_sessions.specs.Scan.{is_unclassified}
use Rattle.wt_sessions.specs.StreamTable.{Classified, StreamTable, control_start, decoder_start, encoder_start, first_at}
use Rattle.wt_sessions.specs.StreamTable as tables
use Rattle.wt_sessions_agree.specs.Agrees.{IsTable, classified_in}
use Rattle.wt_proto.specs.declared.verdict.Verdict.TheVariants as verdicts

-- ---- the verdict of a stream

found-verdict : (k : ℕ) (found : List Finding) → verdict_of found k ≡ tables.verdict_of k (filter_map classified_in found)
found-verdict k [] = refl
found-verdict k (finds.Classified id v keeps ∷ found) = by (id == k) (found-verdict k found)
  where
    by : (b : Bool) → verdict_of found k ≡ tables.verdict_of k (filter_map classified_in found)
        → option_or (if b then Some v else None) (verdict_of found k) ≡ (if b then Some v else tables.verdict_of k (filter_map classified_in found))
    by true e = refl
    by false e = e
found-verdict k (_ ∷ found) = found-verdict k found

pub verdicts-agree : (k : ℕ) (found : List Finding) (table : StreamTable) → IsTable found table → verdict_of found k ≡ tables.verdict_of k table.classified
verdicts-agree k found table t = found-verdict k found ∙ ap (tables.verdict_of k) t.classified

-- ripe, or without a verdict
pub ripe-agrees : (k : ℕ) (found : List Finding) (table : StreamTable) → IsTable found table → not (is_classified found k) ≡ is_unclassified table k
ripe-agrees k found table t = by (verdict_of found k) (tables.verdict_of k table.classified) (verdicts-agree k found table t)
  where
    by : (x y : Option Verdict) → x ≡ y → not (is_some x) ≡ is_none y
    by x None e = rw e refl
    by x (Some v) e = rw e refl

-- ---- the first control, encoder and decoder stream

found-control : (found : List Finding) → first_of control_in found ≡ first_at control_start (filter_map classified_in found)
found-control [] = refl
found-control (finds.Classified id (verdicts.Control offset) keeps ∷ found) = refl
found-control (finds.Classified id _ keeps ∷ found) = found-control found
found-control (_ ∷ found) = found-control found

found-encoder : (found : List Finding) → first_of encoder_in found ≡ first_at encoder_start (filter_map classified_in found)
found-encoder [] = refl
found-encoder (finds.Classified id (verdicts.Encoder offset) keeps ∷ found) = refl
found-encoder (finds.Classified id _ keeps ∷ found) = found-encoder found
found-encoder (_ ∷ found) = found-encoder found

found-decoder : (found : List Finding) → first_of decoder_in found ≡ first_at decoder_start (filter_map classified_in found)
found-decoder [] = refl
found-decoder (finds.Classified id (verdicts.Decoder offset) keeps ∷ found) = refl
found-decoder (finds.Classified id _ keeps ∷ found) = found-decoder found
found-decoder (_ ∷ found) = found-decoder found

pub controls-agree : (found : List Finding) (table : StreamTable) → IsTable found table → first_of control_in found ≡ first_at control_start table.classified
controls-agree found table t = found-control found ∙ ap (first_at control_start) t.classified

pub encoders-agree : (found : List Finding) (table : StreamTable) → IsTable found table → first_of encoder_in found ≡ first_at encoder_start table.classified
encoders-agree found table t = found-encoder found ∙ ap (first_at encoder_start) t.classified

pub decoders-agree : (found : List Finding) (table : StreamTable) → IsTable found table → first_of decoder_in found ≡ first_at decoder_start table.classified
decoders-agree found table t = found-decoder found ∙ ap (first_at decoder_start) t.classified
