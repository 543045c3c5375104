-- The verdict of a peer's unidirectional stream, over all its bytes and its end (RFC 9114, section 6.2; RFC 9204, section 4.2; draft-ietf-webtrans-http3, section 4.2).
use Rattle.std.specs.Prelude.{ℕ, ◌+◌, ◌%◌, List, drop, Option, Some, None, ◌==◌, if◌then◌else◌, Bool, true, false}
use Rattle.wt_wire.specs.declared.error.ErrorCode.TheVariants.{Id}
use Rattle.wt_wire.specs.declared.side.StreamEnd.{StreamEnd}
use Rattle.wt_wire.specs.declared.side.StreamEnd.TheVariants.{Running, Fin, Reset}
use Rattle.wt_proto.specs.declared.verdict.Verdict.{Verdict}
use Rattle.wt_proto.specs.declared.verdict.Verdict.TheVariants.{Incomplete, WebTransport, Control, Encoder, Decoder, Request, Refused, Dropped, Fault}
use Rattle.wt_proto.specs.declared.walk.Step.{Step}
use Rattle.wt_proto.specs.declared.walk.Step.TheVariants.{Stops}
use Rattle.wt_wire.specs.Varint.{varint_at}
use Rattle.wt_proto.specs.FrameSteps.{step_of_item}
use Rattle.wt_message.specs.StreamTypes.{control_type, encoder_type, decoder_type, webtransport_type}

-- the bytes end inside the header: more may come, or never
abbrev pub at_stream_end : StreamEnd → Verdict
at_stream_end Running = Incomplete
at_stream_end Fin = Dropped
at_stream_end (Reset code) = Dropped

-- the id of a session that ends at this offset: a multiple of 4
abbrev pub session_verdict : ℕ → ℕ → Verdict
session_verdict id offset = if id % 4 == 0 then WebTransport id offset else Fault Id

-- a verdict, and how many bytes the header takes
abbrev pub session_header_at : ℕ → Option (ℕ × ℕ) → Option (Verdict × ℕ)
session_header_at offset None = None
session_header_at offset (Some s) = Some (session_verdict s.0 (offset + s.1), offset + s.1)

-- by the stream's type, which n bytes encode; of every other type the stream is of no use
abbrev pub header_by_type : ℕ → ℕ → Option (Verdict × ℕ) → Option (Verdict × ℕ)
header_by_type kind offset session =
    if kind == control_type then Some (Control offset, offset) else
    (if kind == encoder_type then Some (Encoder offset, offset) else
    (if kind == decoder_type then Some (Decoder offset, offset) else
    (if kind == webtransport_type then session else Some (Dropped, offset))))

-- the header of a stream after its type, where that is whole
abbrev pub typed_header_at : List ℕ → Option (ℕ × ℕ) → Option (Verdict × ℕ)
typed_header_at bytes None = None
typed_header_at bytes (Some t) = header_by_type t.0 t.1 (session_header_at t.1 (varint_at (drop t.1 bytes)))

-- what the header at the front says, and how many bytes it has; None where the bytes end inside it
abbrev pub uni_header_at : List ℕ → Option (Verdict × ℕ)
uni_header_at bytes = typed_header_at bytes (varint_at bytes)

-- the walk of one item, its header, has one state
abbrev pub uni_effect : Unit {0} → ℕ → Verdict → Step (Unit {0}) Verdict
uni_effect state size verdict = Stops verdict size

-- the walk over a unidirectional stream decides once, at its header
unfoldable pub uni_decides : Unit {0} → List ℕ → Step (Unit {0}) Verdict
uni_decides state bytes = step_of_item (uni_effect state) (uni_header_at bytes)

-- what the header says, or the end inside it
abbrev pub or_at_stream_end : StreamEnd → Option (Verdict × ℕ) → Verdict
or_at_stream_end end None = at_stream_end end
or_at_stream_end end (Some header) = header.0

-- the verdict while the header isn't whole
abbrev pub uni_unfinished : StreamEnd → Unit {0} → Bool → Verdict
uni_unfinished end state between = at_stream_end end

-- the verdict of a peer's unidirectional stream over all its bytes and its end
unfoldable pub uni_verdict_of : List ℕ → StreamEnd → Verdict
uni_verdict_of bytes end = or_at_stream_end end (uni_header_at bytes)

-- a verdict that more bytes and an end don't change
abbrev pub is_final : Verdict → Bool
is_final Incomplete = false
is_final (WebTransport session offset) = true
is_final (Control offset) = true
is_final (Encoder offset) = true
is_final (Decoder offset) = true
is_final (Request request offset) = true
is_final (Refused code) = true
is_final Dropped = true
is_final (Fault code) = true
