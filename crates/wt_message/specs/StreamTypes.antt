-- The types of unidirectional streams.
use Rattle.std.specs.Prelude.{ℕ}

-- a control stream (RFC 9114, section 6.2.1)
abbrev pub control_type : ℕ
control_type = 0x00

-- the stream of a QPACK encoder (RFC 9204, section 4.2)
abbrev pub encoder_type : ℕ
encoder_type = 0x02

-- the stream of a QPACK decoder (RFC 9204, section 4.2)
abbrev pub decoder_type : ℕ
decoder_type = 0x03

-- a WebTransport stream, whose session's id follows (draft-ietf-webtrans-http3, section 4.2)
abbrev pub webtransport_type : ℕ
webtransport_type = 0x54
