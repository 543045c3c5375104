-- How many bytes there have to be at least before what is at the front can be decided.
use Rattle.std.specs.Prelude.{ℕ, ◌+◌, List, [], ◌∷◌, drop, Option, Some, None, Bool, nat_le, ◌==◌, ◌&&◌, if◌then◌else◌}
use Rattle.wt_wire.specs.Frames.{is_known_type, longest_payload, signal_type}
use Rattle.wt_message.specs.StreamTypes.{webtransport_type}
use Rattle.wt_wire.specs.Varint.{varint_at, varint_length}

-- of an integer: by its first byte (RFC 9000, section 16)
abbrev pub varint_wants : List ℕ → ℕ
varint_wants [] = 1
varint_wants (b ∷ bytes) = varint_length b

-- of a frame (RFC 9114, section 7.1): its header, and the payload where it is given and has at most 4096 bytes
abbrev pub payload_wants : ℕ → ℕ → ℕ → ℕ
payload_wants kind header size = if is_known_type kind && nat_le size longest_payload then header + size else header

-- of a frame whose type is read: its length, then its payload
abbrev pub length_wants : List ℕ → ℕ → ℕ → Option (ℕ × ℕ) → ℕ
length_wants bytes kind offset None = offset + varint_wants (drop offset bytes)
length_wants bytes kind offset (Some l) = payload_wants kind (offset + l.1) l.0

-- of a signal: the id of its session, where that is read
abbrev pub id_wants : Bool → List ℕ → ℕ → ℕ
id_wants reads_id bytes offset = if reads_id then offset + varint_wants (drop offset bytes) else offset

-- of a frame by its type, where that is read
abbrev pub type_wants : Bool → List ℕ → Option (ℕ × ℕ) → ℕ
type_wants reads_id bytes None = varint_wants bytes
type_wants reads_id bytes (Some t) = if t.0 == signal_type then id_wants reads_id bytes t.1 else length_wants bytes t.0 t.1 (varint_at (drop t.1 bytes))

-- whether the id after a signal is read, too
unfoldable pub frame_wants : Bool → List ℕ → ℕ
frame_wants reads_id bytes = type_wants reads_id bytes (varint_at bytes)

-- of the header of a unidirectional stream
abbrev pub header_wants : List ℕ → Option (ℕ × ℕ) → ℕ
header_wants bytes None = varint_wants bytes
header_wants bytes (Some t) = if t.0 == webtransport_type then t.1 + varint_wants (drop t.1 bytes) else t.1

-- of a unidirectional stream: its type, then the id of its session
unfoldable pub uni_wants : List ℕ → ℕ
uni_wants bytes = header_wants bytes (varint_at bytes)
