-- The walk up to a response, as a reader of it needs it.
use Rattle.std.proofs.Common.{◌≡◌, ℕ, ◌+◌, Bool, true, false, List, Option, Some, None, Result, Ok, Err, refl}
use Rattle.wt_wire.specs.declared.error.ErrorCode.{ErrorCode}
use Rattle.wt_wire.specs.declared.side.StreamEnd.{StreamEnd}
use Rattle.wt_wire.specs.declared.side.StreamEnd.TheVariants.{Running, Fin, Reset}
use Rattle.wt_proto.specs.declared.response_walk.ResponseWalk.{ResponseWalk}
use Rattle.wt_message.specs.declared.session.BadStatus.{BadStatus}
use Rattle.wt_proto.specs.declared.walk.Step.TheVariants.{Stops}
use Rattle.wt_wire.specs.FieldSection.{headers_of}
use Rattle.wt_wire.specs.Frames as frames
use Rattle.wt_wire.specs.HeaderList.{Fields}
use Rattle.wt_proto.specs.FrameSteps.{step_of_item}
use Rattle.wt_proto.specs.ResponseWalk.{headers_response, is_response_final, parsed_response, response_decides, response_effect, response_unfinished, response_walk_of}
use Rattle.wt_message.specs.Responses.{response_of}
use Rattle.wt_proto.specs.Steady.{IsAwaited, IsLawful}
use Rattle.wt_proto.specs.Walk.{outcome_at, whole_walk}
use Rattle.wt_proto.specs.Wanted.{frame_wants}
use Rattle.wt_proto.proofs.ResponseWalkLaws.{response-effect, response-steady}
use Rattle.wt_proto.proofs.WantedLaws.{ignored-awaited, item-awaited}

response-awaited : IsAwaited response_decides (frame_wants false)
unfolding response_decides
response-awaited = item-awaited (frames.frame_at frames.session_id_ignored) (frame_wants false) ignored-awaited response_effect response-effect

response-reaches : (bytes : List ℕ) (end : StreamEnd) → response_walk_of bytes end ≡ outcome_at response_unfinished end (whole_walk response_decides 0 bytes)
unfolding response_walk_of
response-reaches bytes end = refl

parsed-final : (offset : ℕ) (r : Result Fields BadStatus) → is_response_final (parsed_response offset r) ≡ true
parsed-final offset (Ok response) = refl
parsed-final offset (Err bad) = refl

headers-final : (offset : ℕ) (r : Result Fields ErrorCode) → is_response_final (headers_response offset r) ≡ true
headers-final offset (Ok fields) = parsed-final offset (response_of fields)
headers-final offset (Err fault) = refl

effect-final : (offset : ℕ) (f : Option (frames.Frame × ℕ)) (w : ResponseWalk) (m : ℕ) → step_of_item (response_effect offset) f ≡ Stops w m → is_response_final w ≡ true
effect-final offset None w m e = absurd cc
effect-final offset (Some (frames.Skipped kind, n)) w m e = absurd cc
effect-final offset (Some (frames.Headers payload, n)) w m e = let of_item = headers-final (offset + n) (headers_of payload) in cc
effect-final offset _ w m e = cc

response-final : (offset : ℕ) (bytes : List ℕ) (w : ResponseWalk) (n : ℕ) → response_decides offset bytes ≡ Stops w n → is_response_final w ≡ true
unfolding response_decides
response-final offset bytes w n e = effect-final offset (frames.frame_at frames.session_id_ignored bytes) w n e

response-by_end : (end : StreamEnd) (s t : ℕ) (b c : Bool) → is_response_final (response_unfinished end s b) ≡ is_response_final (response_unfinished end t c)
response-by_end Running s t b c = refl
response-by_end Fin s t b c = refl
response-by_end (Reset code) s t b c = refl

pub response_lawful : IsLawful 0 response_decides (frame_wants false) response_unfinished is_response_final response_walk_of
response_lawful = record { steady = response-steady; awaited = response-awaited; reaches = response-reaches; stops = response-final; by_end = response-by_end }
