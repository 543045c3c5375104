-- The header of a unidirectional stream that the peer opened (RFC 9114, section 6.2; draft-ietf-webtrans-http3, section 4.2).
use Rattle.std.specs.Prelude.{ℕ, ◌+◌, ◌%◌, List, drop, Option, Some, None, Result, Ok, Err, ◌==◌, if◌then◌else◌}
use Rattle.wt_wire.specs.declared.error.ErrorCode.{ErrorCode}
use Rattle.wt_wire.specs.declared.error.ErrorCode.TheVariants.{Id, StreamCreation}
use Rattle.wt_wire.specs.Frames.{is_exercise}
use Rattle.wt_wire.specs.Varint.{varint_at}
use Rattle.wt_message.specs.StreamTypes.{control_type, encoder_type, decoder_type, webtransport_type}
use Rattle.wt_proto.specs.declared.stream_header.StreamKind.{StreamKind}
use Rattle.wt_proto.specs.declared.stream_header.StreamKind.TheVariants as kinds
use Rattle.wt_proto.specs.declared.walk.Step.{Step}
use Rattle.wt_proto.specs.declared.walk.Step.TheVariants.{Stops}
use Rattle.wt_proto.specs.FrameSteps.{step_of_item}
use Rattle.wt_seam.specs.declared.uni_header.UniHeader.{UniHeader}
use Rattle.wt_seam.specs.declared.uni_header.UniHeader.TheVariants.{Control, QPackEncoder, QPackDecoder, WebTransport, Exercise}

-- the kind of a stream with this header
abbrev pub kind_of : UniHeader → StreamKind
kind_of Control = kinds.Control
kind_of QPackEncoder = kinds.QPackEncoder
kind_of QPackDecoder = kinds.QPackDecoder
kind_of (WebTransport session) = kinds.WebTransport
kind_of (Exercise number) = kinds.Exercise number

-- the header of a stream of this session: its id is a multiple of 4 (draft-ietf-webtrans-http3, section 4)
abbrev pub session_header : ℕ → Result UniHeader ErrorCode
session_header id = if id % 4 == 0 then Ok (WebTransport id) else Err Id

-- a session's id after a type of n bytes, and how many bytes the header has
abbrev pub with_session_id : ℕ → Option (ℕ × ℕ) → Option (Result UniHeader ErrorCode × ℕ)
with_session_id offset None = None
with_session_id offset (Some s) = Some (session_header s.0, offset + s.1)

-- a header by its type, which n bytes encode; a type that is neither known nor reserved is a fault
abbrev pub header_of_type : ℕ → ℕ → Option (Result UniHeader ErrorCode × ℕ) → Option (Result UniHeader ErrorCode × ℕ)
header_of_type kind offset session =
    if kind == control_type then Some (Ok Control, offset) else
    (if kind == encoder_type then Some (Ok QPackEncoder, offset) else
    (if kind == decoder_type then Some (Ok QPackDecoder, offset) else
    (if kind == webtransport_type then session else
    (if is_exercise kind then Some (Ok (Exercise kind), offset) else Some (Err StreamCreation, offset)))))

-- a header after its type, where that is whole
abbrev pub header_with_type : List ℕ → Option (ℕ × ℕ) → Option (Result UniHeader ErrorCode × ℕ)
header_with_type bytes None = None
header_with_type bytes (Some t) = header_of_type t.0 t.1 (with_session_id t.1 (varint_at (drop t.1 bytes)))

-- the header at the front, and how many bytes it has; None where the bytes end inside it
unfoldable pub header_at : List ℕ → Option (Result UniHeader ErrorCode × ℕ)
header_at bytes = header_with_type bytes (varint_at bytes)

-- the header stops its reader, or its fault does
abbrev pub header_effect : Unit {0} → ℕ → Result UniHeader ErrorCode → Step (Unit {0}) (Result UniHeader ErrorCode)
header_effect state size header = Stops header size

-- what a reader of a header decides
unfoldable pub header_decides : Unit {0} → List ℕ → Step (Unit {0}) (Result UniHeader ErrorCode)
header_decides state bytes = step_of_item (header_effect state) (header_at bytes)
