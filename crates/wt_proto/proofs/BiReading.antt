-- The walk over the front of a bidirectional stream, as a reader of it needs it.
use Rattle.std.proofs.Common.{◌≡◌, ℕ, ◌+◌, ◌%◌, Bool, true, false, cond, ◌==◌, List, Option, Some, None, Result, Ok, Err, refl}
use Rattle.wt_wire.specs.declared.error.ErrorCode.{ErrorCode}
use Rattle.wt_wire.specs.declared.error.ErrorCode.TheVariants.{Id}
use Rattle.wt_wire.specs.declared.side.StreamEnd.{StreamEnd}
use Rattle.wt_message.specs.declared.session.HeadersParseError.{HeadersParseError}
use Rattle.wt_message.specs.declared.session.HeadersParseError.TheVariants.{MethodNotConnect, Other}
use Rattle.wt_proto.specs.declared.verdict.Verdict.{Verdict}
use Rattle.wt_proto.specs.declared.verdict.Verdict.TheVariants.{Fault, WebTransport}
use Rattle.wt_proto.specs.declared.walk.Step.TheVariants.{Stops}
use Rattle.wt_wire.specs.FieldSection.{headers_of}
use Rattle.wt_wire.specs.Frames as frames
use Rattle.wt_wire.specs.HeaderList.{Fields}
use Rattle.wt_wire.specs.Varint.{varint_at}
use Rattle.wt_proto.specs.Bi.{bi_decides, bi_effect, bi_unfinished, bi_verdict_of, headers_verdict, parsed_verdict}
use Rattle.wt_proto.specs.FrameSteps.{step_of_item}
use Rattle.wt_message.specs.Requests.{request_of}
use Rattle.wt_proto.specs.Steady.{IsAwaited, IsLawful}
use Rattle.wt_proto.specs.Uni.{is_final, session_verdict}
use Rattle.wt_proto.specs.Walk.{outcome_at, whole_walk}
use Rattle.wt_proto.specs.Wanted.{frame_wants}
use Rattle.wt_proto.proofs.BiLaws.{bi-effect, bi-steady}
use Rattle.wt_proto.proofs.WantedLaws.{varint-awaited, item-awaited}

bi-awaited : IsAwaited bi_decides (frame_wants true)
unfolding bi_decides
bi-awaited = item-awaited (frames.frame_at varint_at) (frame_wants true) varint-awaited bi_effect bi-effect

bi-reaches : (bytes : List ℕ) (end : StreamEnd) → bi_verdict_of bytes end ≡ outcome_at bi_unfinished end (whole_walk bi_decides 0 bytes)
unfolding bi_verdict_of
bi-reaches bytes end = refl

pub session-final : (id offset : ℕ) → is_final (session_verdict id offset) ≡ true
session-final id offset = by (id % 4 == 0)
  where
    by : (b : Bool) → is_final (cond b (WebTransport id offset) (Fault Id)) ≡ true
    by true = refl
    by false = refl

parsed-final : (offset : ℕ) (r : Result Fields HeadersParseError) → is_final (parsed_verdict offset r) ≡ true
parsed-final offset (Ok request) = refl
parsed-final offset (Err MethodNotConnect) = refl
parsed-final offset (Err Other) = refl

headers-final : (offset : ℕ) (r : Result Fields ErrorCode) → is_final (headers_verdict offset r) ≡ true
headers-final offset (Ok fields) = parsed-final offset (request_of fields)
headers-final offset (Err fault) = refl

effect-final : (offset : ℕ) (f : Option (frames.Frame × ℕ)) (w : Verdict) (m : ℕ) → step_of_item (bi_effect offset) f ≡ Stops w m → is_final w ≡ true
effect-final offset None w m e = absurd cc
effect-final offset (Some (frames.Skipped kind, n)) w m e = absurd cc
effect-final offset (Some (frames.Signal id, n)) w m e = let of_item = session-final id (offset + n) in cc
effect-final offset (Some (frames.Headers payload, n)) w m e = let of_item = headers-final (offset + n) (headers_of payload) in cc
effect-final offset _ w m e = cc

bi-final : (offset : ℕ) (bytes : List ℕ) (w : Verdict) (n : ℕ) → bi_decides offset bytes ≡ Stops w n → is_final w ≡ true
unfolding bi_decides
bi-final offset bytes w n e = effect-final offset (frames.frame_at varint_at bytes) w n e

pub bi_lawful : IsLawful 0 bi_decides (frame_wants true) bi_unfinished is_final bi_verdict_of
bi_lawful = record { steady = bi-steady; awaited = bi-awaited; reaches = bi-reaches; stops = bi-final; by_end = λ end s t b c. refl }
