-- The verdict of a bidirectional stream that the peer opened, over all its bytes and its end (RFC 9114, sections 4.1 and 7; RFC 9220, section 3; draft-ietf-webtrans-http3, sections 3.3 and 4.3).
use Rattle.std.specs.Prelude.{ℕ, ◌+◌, List, Bool, Result, Ok, Err}
use Rattle.wt_wire.specs.declared.error.ErrorCode.{ErrorCode}
use Rattle.wt_wire.specs.declared.error.ErrorCode.TheVariants.{FrameUnexpected, ExcessiveLoad, RequestRejected, Message}
use Rattle.wt_message.specs.declared.session.HeadersParseError.{HeadersParseError}
use Rattle.wt_message.specs.declared.session.HeadersParseError.TheVariants.{MethodNotConnect, Other}
use Rattle.wt_wire.specs.declared.side.StreamEnd.{StreamEnd}
use Rattle.wt_proto.specs.declared.verdict.Verdict.{Verdict}
use Rattle.wt_proto.specs.declared.verdict.Verdict.TheVariants.{Request, Refused, Fault}
use Rattle.wt_proto.specs.declared.walk.Step.{Step}
use Rattle.wt_proto.specs.declared.walk.Step.TheVariants.{Goes, Stops}
use Rattle.wt_wire.specs.FieldSection.{headers_of}
use Rattle.wt_wire.specs.Frames as frames
use Rattle.wt_proto.specs.FrameSteps.{step_of_item}
use Rattle.wt_wire.specs.HeaderList.{Fields}
use Rattle.wt_message.specs.Requests.{request_of}
use Rattle.wt_proto.specs.Uni.{at_stream_end, session_verdict}
use Rattle.wt_wire.specs.Varint.{varint_at}
use Rattle.wt_proto.specs.Walk.{outcome_at, whole_walk}

-- a request in front of this offset, or what it is refused with
abbrev pub parsed_verdict : ℕ → Result Fields HeadersParseError → Verdict
parsed_verdict offset (Ok request) = Request request offset
parsed_verdict offset (Err MethodNotConnect) = Refused RequestRejected
parsed_verdict offset (Err Other) = Refused Message

-- the verdict of a HEADERS frame by its field section
abbrev pub headers_verdict : ℕ → Result Fields ErrorCode → Verdict
headers_verdict offset (Ok fields) = parsed_verdict offset (request_of fields)
headers_verdict offset (Err fault) = Fault fault

-- the state is the offset of the frame; the first one that isn't skipped is judged;
-- a signal may stand after frames that are skipped (this repository's rule; draft-ietf-webtrans-http3, section 4.3, has it at the very front, and asks H3_FRAME_ERROR elsewhere)
abbrev pub bi_effect : ℕ → ℕ → frames.Frame → Step ℕ Verdict
bi_effect offset size (frames.Skipped kind) = Goes (offset + size) size
bi_effect offset size (frames.Signal id) = Stops (session_verdict id (offset + size)) size
bi_effect offset size (frames.Headers payload) = Stops (headers_verdict (offset + size) (headers_of payload)) size
bi_effect offset size frames.TooLong = Stops (Fault ExcessiveLoad) size
bi_effect offset size (frames.Data payload) = Stops (Fault FrameUnexpected) size
bi_effect offset size (frames.Settings payload) = Stops (Fault FrameUnexpected) size

-- what the frame at the front of a peer's bidirectional stream does
unfoldable pub bi_decides : ℕ → List ℕ → Step ℕ Verdict
bi_decides offset bytes = step_of_item (bi_effect offset) (frames.frame_at varint_at bytes)

-- the verdict while no frame has decided it
abbrev pub bi_unfinished : StreamEnd → ℕ → Bool → Verdict
bi_unfinished end offset between = at_stream_end end

-- the verdict of a peer's bidirectional stream over all its bytes and its end
unfoldable pub bi_verdict_of : List ℕ → StreamEnd → Verdict
bi_verdict_of bytes end = outcome_at bi_unfinished end (whole_walk bi_decides 0 bytes)
