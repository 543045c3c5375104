-- Where a stream goes on after its header rests on its bytes alone: an end changes nothing of it.
use Rattle.std.proofs.Common.{◌∙◌, ◌≡◌, Bool, List, None, Option, Some, false, refl, sym, true, ℕ}
use Rattle.std.specs.Prelude.{if◌then◌else◌, unwrap_or}
use Rattle.wt_follows.specs.Tie.{goes_on_at, header_verdict}
use Rattle.wt_proto.specs.Bi.{bi_decides, bi_unfinished, bi_verdict_of}
use Rattle.wt_proto.specs.Uni.{at_stream_end, or_at_stream_end, uni_header_at, uni_verdict_of}
use Rattle.wt_proto.specs.Walk.{Reached, whole_walk}
use Rattle.wt_proto.specs.declared.verdict.Verdict.{Verdict}
use Rattle.wt_turn.specs.Reports.{end_of}
use Rattle.wt_turn.specs.Streams.{contents}
use Rattle.wt_turn.specs.Log.{Log, events_of}
use Rattle.wt_wire.specs.Ids.{is_bidirectional}
use Rattle.wt_wire.specs.declared.side.StreamEnd.{StreamEnd}
use Rattle.wt_wire.specs.declared.side.StreamEnd.TheVariants as ends

ends-nowhere : (end : StreamEnd) → goes_on_at (at_stream_end end) ≡ None
ends-nowhere ends.Running = refl
ends-nowhere ends.Fin = refl
ends-nowhere (ends.Reset code) = refl

uni-by : (h : Option (Verdict × ℕ)) (end later : StreamEnd) → goes_on_at (or_at_stream_end later h) ≡ goes_on_at (or_at_stream_end end h)
uni-by (Some h) end later = refl
uni-by None end later = ends-nowhere later ∙ sym (ends-nowhere end)

pub uni-goes : (bytes : List ℕ) (end later : StreamEnd) → goes_on_at (uni_verdict_of bytes later) ≡ goes_on_at (uni_verdict_of bytes end)
unfolding uni_verdict_of
uni-goes bytes end later = uni-by (uni_header_at bytes) end later

bi-by : (o : Option Verdict) (r : Reached ℕ Verdict) (end later : StreamEnd) → goes_on_at (unwrap_or o (bi_unfinished later r.state r.between)) ≡ goes_on_at (unwrap_or o (bi_unfinished end r.state r.between))
bi-by (Some v) r end later = refl
bi-by None r end later = ends-nowhere later ∙ sym (ends-nowhere end)

pub bi-goes : (bytes : List ℕ) (end later : StreamEnd) → goes_on_at (bi_verdict_of bytes later) ≡ goes_on_at (bi_verdict_of bytes end)
unfolding bi_verdict_of
bi-goes bytes end later = bi-by (whole_walk bi_decides 0 bytes).stop (whole_walk bi_decides 0 bytes) end later

-- where a stream goes on of which no byte came since
pub header-goes : (log g : Log) (k : ℕ) → contents g ≡ contents log → goes_on_at (header_verdict g k) ≡ goes_on_at (header_verdict log k)
header-goes log g k c =
    (λ i. goes_on_at (if is_bidirectional k then bi_verdict_of (c i k) (end_of (events_of g) k) else uni_verdict_of (c i k) (end_of (events_of g) k)))
    ∙ by (is_bidirectional k)
  where
    by : (b : Bool) → goes_on_at (if b then bi_verdict_of (contents log k) (end_of (events_of g) k) else uni_verdict_of (contents log k) (end_of (events_of g) k))
        ≡ goes_on_at (if b then bi_verdict_of (contents log k) (end_of (events_of log) k) else uni_verdict_of (contents log k) (end_of (events_of log) k))
    by true = bi-goes (contents log k) (end_of (events_of log) k) (end_of (events_of g) k)
    by false = uni-goes (contents log k) (end_of (events_of log) k) (end_of (events_of g) k)
