-- The header of a unidirectional stream (RFC 9114, section 6.2; RFC 9204, section 4.2; draft-ietf-webtrans-http3, section 4.2).
use Rattle.std.specs.Prelude.{ℕ, List, ◌++◌, length, Option, Some, None, ◌==◌, if◌then◌else◌}
use Rattle.wt_proto.specs.declared.stream_header.StreamKind.{StreamKind}
use Rattle.wt_proto.specs.declared.stream_header.StreamKind.TheVariants.{Control, QPackEncoder, QPackDecoder, WebTransport, Exercise}
use Rattle.wt_proto.specs.declared.verdict.Verdict.{Verdict}
use Rattle.wt_proto.specs.declared.verdict.Verdict.TheVariants as verdicts
use Rattle.wt_message.specs.StreamTypes.{control_type, encoder_type, decoder_type, webtransport_type}
use Rattle.wt_wire.specs.Frames.{is_exercise}
use Rattle.wt_wire.specs.Varint.{varint_bytes}

-- the type on the wire
abbrev pub stream_type : StreamKind → ℕ
stream_type Control = control_type
stream_type QPackEncoder = encoder_type
stream_type QPackDecoder = decoder_type
stream_type WebTransport = webtransport_type
stream_type (Exercise number) = number

-- the kind of a type on the wire
abbrev pub kind_of_type : ℕ → Option StreamKind
kind_of_type n =
    if n == control_type then Some Control else
    (if n == encoder_type then Some QPackEncoder else
    (if n == decoder_type then Some QPackDecoder else
    (if n == webtransport_type then Some WebTransport else
    (if is_exercise n then Some (Exercise n) else None))))

-- the header of a stream that is opened here: that of the control stream, or that of a session's stream
abbrev pub header_kind : Option ℕ → StreamKind
header_kind None = Control
header_kind (Some session) = WebTransport

-- its bytes: the type, and the session's id after that of a session's stream
abbrev pub header_bytes : Option ℕ → List ℕ
header_bytes None = varint_bytes control_type
header_bytes (Some session) = varint_bytes webtransport_type ++ varint_bytes session

-- what the peer reads from it
abbrev pub header_verdict : Option ℕ → Verdict
header_verdict None = verdicts.Control 1
header_verdict (Some session) = verdicts.WebTransport session (length (header_bytes (Some session)))
