-- The error codes (RFC 9114, section 8.1; RFC 9204, section 8.3; RFC 9297, section 5.2; draft-ietf-webtrans-http3, section 8).
use Rattle.std.specs.Prelude.{ℕ, List, codes}
use Rattle.wt_wire.specs.declared.error.ErrorCode.{ErrorCode}
use Rattle.wt_wire.specs.declared.error.ErrorCode.TheVariants.{Datagram, NoError, StreamCreation, ClosedCriticalStream, FrameUnexpected, Frame, ExcessiveLoad, Id, Settings, MissingSettings, RequestRejected, Message, Decompression, SessionGone, BufferedStreamRejected}

-- the number on the wire
abbrev pub code_of : ErrorCode → ℕ
code_of Datagram = 0x33
code_of NoError = 0x100
code_of StreamCreation = 0x103
code_of ClosedCriticalStream = 0x104
code_of FrameUnexpected = 0x105
code_of Frame = 0x106
code_of ExcessiveLoad = 0x107
code_of Id = 0x108
code_of Settings = 0x109
code_of MissingSettings = 0x10a
code_of RequestRejected = 0x10b
code_of Message = 0x10e
code_of Decompression = 0x200
code_of SessionGone = 0x170d7b68
code_of BufferedStreamRejected = 0x3994bd84

-- how it is shown
abbrev pub name_of : ErrorCode → List ℕ
name_of Datagram = codes "Datagram"
name_of NoError = codes "NoError"
name_of StreamCreation = codes "StreamCreation"
name_of ClosedCriticalStream = codes "ClosedCriticalStream"
name_of FrameUnexpected = codes "FrameUnexpected"
name_of Frame = codes "Frame"
name_of ExcessiveLoad = codes "ExcessiveLoad"
name_of Id = codes "Id"
name_of Settings = codes "Settings"
name_of MissingSettings = codes "MissingSettings"
name_of RequestRejected = codes "RequestRejected"
name_of Message = codes "Message"
name_of Decompression = codes "Decompression"
name_of SessionGone = codes "SessionGone"
name_of BufferedStreamRejected = codes "BufferedStreamRejected"
