-- How frames are written (RFC 9114, section 7.1; draft-ietf-webtrans-http3, section 4.3).
use Rattle.std.specs.Prelude.{◌≡◌, ℕ, ◌≤◌, List, [], ◌++◌, length, Option, Some, None, IsTrue}
use Rattle.wt_wire.specs.declared.frame.FrameKind.{FrameKind}
use Rattle.wt_wire.specs.declared.frame.FrameKind.TheVariants.{Data, Headers, Settings, WebTransport, Exercise}
use Rattle.wt_wire.specs.Varint.{varint_bytes}
use Rattle.wt_wire.specs.Frames as frames

-- a frame: its kind, its payload, and the session that a signal names
pub record FrameParts : Type 0 where
  pub kind : FrameKind
  pub payload : List ℕ
  pub session : Option ℕ

-- the type on the wire
abbrev pub frame_type : FrameKind → ℕ
frame_type Data = frames.data_type
frame_type Headers = frames.headers_type
frame_type Settings = frames.settings_type
frame_type WebTransport = frames.signal_type
frame_type (Exercise number) = number

-- a payload after its length
abbrev pub payload_bytes : List ℕ → List ℕ
payload_bytes payload = varint_bytes (length payload) ++ payload

-- a session's id, or a payload
abbrev pub session_or_payload : Option ℕ → List ℕ → List ℕ
session_or_payload (Some session) payload = varint_bytes session
session_or_payload None payload = payload_bytes payload

-- the bytes of a frame: its type, and what follows it
abbrev pub frame_bytes : FrameParts → List ℕ
frame_bytes f = varint_bytes (frame_type f.kind) ++ session_or_payload f.session f.payload

-- a signal names a session and has no payload, and no other frame names one; an exercise frame has a reserved type
abbrev pub kind_fits : FrameKind → Option ℕ → List ℕ → Type 0
kind_fits WebTransport None payload = ⊥
kind_fits WebTransport (Some session) payload = payload ≡ []
kind_fits (Exercise number) None payload = IsTrue (frames.is_exercise number)
kind_fits (Exercise number) (Some session) payload = ⊥
kind_fits Data None payload = Unit {0}
kind_fits Data (Some session) payload = ⊥
kind_fits Headers None payload = Unit {0}
kind_fits Headers (Some session) payload = ⊥
kind_fits Settings None payload = Unit {0}
kind_fits Settings (Some session) payload = ⊥

-- a frame that can be made
abbrev pub IsFrame : FrameParts → Type 0
IsFrame f = kind_fits f.kind f.session f.payload

-- a peer reads a frame of a known type where its payload isn't longer than the bound
abbrev pub size_fits : FrameKind → ℕ → Type 0
size_fits WebTransport size = Unit {0}
size_fits (Exercise number) size = Unit {0}
size_fits Data size = size ≤ frames.longest_payload
size_fits Headers size = size ≤ frames.longest_payload
size_fits Settings size = size ≤ frames.longest_payload

-- a peer reads the frame
abbrev pub IsReadable : FrameParts → Type 0
IsReadable f = size_fits f.kind (length f.payload)

-- the signal that it reads
abbrev pub signal_of : Option ℕ → frames.Frame
signal_of None = frames.Signal 0
signal_of (Some session) = frames.Signal session

-- the frame of this kind that it reads
abbrev pub frame_of_kind : FrameKind → Option ℕ → List ℕ → frames.Frame
frame_of_kind Data session payload = frames.Data payload
frame_of_kind Headers session payload = frames.Headers payload
frame_of_kind Settings session payload = frames.Settings payload
frame_of_kind WebTransport session payload = signal_of session
frame_of_kind (Exercise number) session payload = frames.Skipped number

-- the frame that it reads
abbrev pub frame_of : FrameParts → frames.Frame
frame_of f = frame_of_kind f.kind f.session f.payload
