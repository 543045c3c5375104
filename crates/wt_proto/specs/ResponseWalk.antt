-- The walk over a client's session stream from its first byte, over all bytes and the end (RFC 9114, sections 4.1 and 4.3.2; RFC 9220, section 3).
use Rattle.std.specs.Prelude.{ℕ, ◌+◌, List, Bool, true, false, None, Option, Result, Ok, Err, Some}
use Rattle.wt_wire.specs.declared.error.ErrorCode.{ErrorCode}
use Rattle.wt_wire.specs.declared.error.ErrorCode.TheVariants.{FrameUnexpected, ExcessiveLoad, Message}
use Rattle.wt_proto.specs.declared.response_walk.ResponseWalk.{ResponseWalk}
use Rattle.wt_proto.specs.declared.response_walk.ResponseWalk.TheVariants.{Waiting, Response, Ended, Fault}
use Rattle.wt_message.specs.declared.session.BadStatus.{BadStatus}
use Rattle.wt_wire.specs.declared.side.StreamEnd.{StreamEnd}
use Rattle.wt_wire.specs.declared.side.StreamEnd.TheVariants.{Running, Fin, Reset}
use Rattle.wt_proto.specs.declared.walk.Step.{Step}
use Rattle.wt_proto.specs.declared.walk.Step.TheVariants.{Goes, Stops}
use Rattle.wt_wire.specs.FieldSection.{headers_of}
use Rattle.wt_wire.specs.Frames as frames
use Rattle.wt_proto.specs.FrameSteps.{step_of_item}
use Rattle.wt_wire.specs.HeaderList.{Fields}
use Rattle.wt_message.specs.Responses.{response_of}
use Rattle.wt_proto.specs.Walk.{outcome_at, whole_walk}

-- a response in front of this offset; fields with no status code are a malformed message
abbrev pub parsed_response : ℕ → Result Fields BadStatus → ResponseWalk
parsed_response offset (Ok response) = Response response offset
parsed_response offset (Err bad) = Fault Message

-- the response of a HEADERS frame by its field section, or its fault
abbrev pub headers_response : ℕ → Result Fields ErrorCode → ResponseWalk
headers_response offset (Ok fields) = parsed_response offset (response_of fields)
headers_response offset (Err fault) = Fault fault

-- the state is the offset of the frame; the first one that isn't skipped is judged
abbrev pub response_effect : ℕ → ℕ → frames.Frame → Step ℕ ResponseWalk
response_effect offset size (frames.Skipped kind) = Goes (offset + size) size
response_effect offset size (frames.Headers payload) = Stops (headers_response (offset + size) (headers_of payload)) size
response_effect offset size frames.TooLong = Stops (Fault ExcessiveLoad) size
response_effect offset size (frames.Data payload) = Stops (Fault FrameUnexpected) size
response_effect offset size (frames.Settings payload) = Stops (Fault FrameUnexpected) size
response_effect offset size (frames.Signal id) = Stops (Fault FrameUnexpected) size

-- what the frame at the front of a client's session stream does before the response
unfoldable pub response_decides : ℕ → List ℕ → Step ℕ ResponseWalk
response_decides offset bytes = step_of_item (response_effect offset) (frames.frame_at frames.session_id_ignored bytes)

-- where no response and no fault came before
abbrev pub response_unfinished : StreamEnd → ℕ → Bool → ResponseWalk
response_unfinished Running offset between = Waiting
response_unfinished Fin offset between = Ended
response_unfinished (Reset code) offset between = Ended

-- the response on a client's session stream, or its fault, over all bytes and the end
unfoldable pub response_walk_of : List ℕ → StreamEnd → ResponseWalk
response_walk_of bytes end = outcome_at response_unfinished end (whole_walk response_decides 0 bytes)

-- an outcome that more bytes and an end don't change
abbrev pub is_answered : ResponseWalk → Bool
is_answered Waiting = false
is_answered (Response response offset) = true
is_answered Ended = true
is_answered (Fault fault) = true

-- a response or a fault: after it no more bytes are taken
abbrev pub is_response_final : ResponseWalk → Bool
is_response_final Waiting = false
is_response_final (Response response offset) = true
is_response_final Ended = false
is_response_final (Fault fault) = true

-- the offset after a response
abbrev pub response_offset : ResponseWalk → Option ℕ
response_offset (Response response offset) = Some offset
response_offset _ = None
