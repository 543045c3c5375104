-- What goes out in the same bytes each time.
use Rattle.std.specs.Prelude.{List, ℕ, ◌++◌, Some, None, codes}
use Rattle.wt_wire.specs.declared.frame.FrameKind.TheVariants as kinds
use Rattle.wt_message.specs.declared.settings.Settings.{Settings}
use Rattle.wt_message.specs.StreamTypes.{control_type}
use Rattle.wt_wire.specs.FieldSection.{section_bytes}
use Rattle.wt_wire.specs.FrameBytes.{frame_bytes}
use Rattle.wt_wire.specs.HeaderList.{Fields}
use Rattle.wt_message.specs.Responses.{status_fields}
use Rattle.wt_message.specs.Settings.{settings_bytes}
use Rattle.wt_wire.specs.Varint.{varint_bytes}

-- the protocol name that both ends agree on in the TLS handshake (RFC 7301, section 3.1; RFC 9114, section 3.1)
abbrev pub alpn : List ℕ
alpn = codes "h3"

-- the settings that this end sends (RFC 9204, section 5; RFC 9220, section 5; RFC 9297, section 2.1.1; draft-ietf-webtrans-http3, section 8.2):
-- no QPACK table, extended CONNECT, datagrams, and WebTransport with at most 4 sessions at a time
abbrev pub local_settings : Settings
local_settings = record {
  qpack_max_table_capacity = Some 0;
  max_field_section_size = None;
  qpack_blocked_streams = Some 0;
  enable_connect_protocol = Some 1;
  h3_datagram = Some 1;
  enable_webtransport = Some 1;
  webtransport_max_sessions = Some 4;
}

-- what this end's control stream begins with (RFC 9114, section 6.2.1): its type, and the frame of these settings, 25 bytes
abbrev pub local_control_bytes : List ℕ
local_control_bytes = varint_bytes control_type ++ frame_bytes (record { kind = kinds.Settings; payload = settings_bytes local_settings; session = None })

-- the frame of a request or a response
abbrev pub headers_frame_bytes : Fields → List ℕ
headers_frame_bytes fields = frame_bytes (record { kind = kinds.Headers; payload = section_bytes fields; session = None })

-- the frame of a response with this status code alone
abbrev pub response_bytes : List ℕ → List ℕ
response_bytes digits = headers_frame_bytes (status_fields digits)
