-- Frames (RFC 9114, section 7): a type, a length and a payload; the first two are variable-length integers.
use Rattle.std.specs.Prelude.{ℕ, ◌+◌, ◌%◌, List, length, take, drop, Option, Some, None, Bool, nat_lt, ◌==◌, ◌||◌, ◌&&◌, if◌then◌else◌}
use Rattle.wt_wire.specs.Varint.{varint_at}

-- a frame as it is received: DATA, HEADERS and SETTINGS once their last byte has come; the signal of a WebTransport stream, which has no length, with the id of the session after it
pub data Frame : Type 0 where
  Data : (payload : List ℕ) → Frame
  Headers : (payload : List ℕ) → Frame
  Settings : (payload : List ℕ) → Frame
  TooLong : Frame
  Signal : (id : ℕ) → Frame
  Skipped : (kind : ℕ) → Frame

-- the type of DATA (RFC 9114, section 7.2.1)
abbrev pub data_type : ℕ
data_type = 0x00

-- the type of HEADERS (RFC 9114, section 7.2.2)
abbrev pub headers_type : ℕ
headers_type = 0x01

-- the type of SETTINGS (RFC 9114, section 7.2.4)
abbrev pub settings_type : ℕ
settings_type = 0x04

-- the type of the signal (draft-ietf-webtrans-http3, section 4.3)
abbrev pub signal_type : ℕ
signal_type = 0x41

-- the longest payload of a frame of a known type (this repository's rule; RFC 9114, section 7.1, sets no bound, and section 10.5 lets a receiver set some)
abbrev pub longest_payload : ℕ
longest_payload = 4096

-- the types whose payload is read
abbrev pub is_known_type : ℕ → Bool
is_known_type kind = kind == data_type || kind == headers_type || kind == settings_type

-- the frame of a known type with this payload
abbrev pub frame_of_type : ℕ → List ℕ → Frame
frame_of_type kind payload = if kind == data_type then Data payload else (if kind == headers_type then Headers payload else Settings payload)

-- a reserved type, 0x1f * N + 0x21, whose frames are there to be skipped (RFC 9114, section 7.2.8)
abbrev pub is_exercise : ℕ → Bool
is_exercise kind = kind % 0x1f == 2 && nat_lt 0x20 kind

-- a frame of this type with a header of n bytes and a payload of size bytes, and how many bytes it takes;
-- one of a known type whose payload is longer than the bound is judged by its header alone;
-- every other type is one to skip, whatever its length, and so are those that HTTP/2 had, 0x02, 0x06, 0x08 and 0x09
-- (this repository's rule; RFC 9114, section 7.2.8, asks H3_FRAME_UNEXPECTED for these four, and sections 7.2.3 and 7.2.5 to 7.2.7 give further types a meaning)
abbrev pub frame_with_header : List ℕ → ℕ → ℕ → ℕ → Option (Frame × ℕ)
frame_with_header bytes kind header size =
    if is_known_type kind
    then (
    if nat_lt longest_payload size then Some (TooLong, header) else
    (if nat_lt (length bytes) (header + size) then None else Some (frame_of_type kind (take size (drop header bytes)), header + size)))
    else Some (Skipped kind, header + size)

-- the same, where the length is read after a type of n bytes
abbrev pub frame_with_length : List ℕ → ℕ → ℕ → Option (ℕ × ℕ) → Option (Frame × ℕ)
frame_with_length bytes kind offset None = None
frame_with_length bytes kind offset (Some l) = frame_with_header bytes kind (offset + l.1) l.0

-- the signal, where the id of the session is read after a type of n bytes
abbrev pub signal_with_id : ℕ → Option (ℕ × ℕ) → Option (Frame × ℕ)
signal_with_id offset None = None
signal_with_id offset (Some s) = Some (Signal s.0, offset + s.1)

-- the signal, or a frame with a length, where the type is read
abbrev pub frame_with_type : (List ℕ → Option (ℕ × ℕ)) → List ℕ → Option (ℕ × ℕ) → Option (Frame × ℕ)
frame_with_type id_at bytes None = None
frame_with_type id_at bytes (Some t) = if t.0 == signal_type then signal_with_id t.1 (id_at (drop t.1 bytes)) else frame_with_length bytes t.0 t.1 (varint_at (drop t.1 bytes))

-- the frame at the front and how many bytes it takes, where the bytes show it; `id_at` reads the id after a signal
unfoldable pub frame_at : (List ℕ → Option (ℕ × ℕ)) → List ℕ → Option (Frame × ℕ)
frame_at id_at bytes = frame_with_type id_at bytes (varint_at bytes)

-- no id is read: where a signal is a fault its type alone is judged, and nothing asks for the 0
abbrev pub session_id_ignored : List ℕ → Option (ℕ × ℕ)
session_id_ignored bytes = Some (0, 0)
