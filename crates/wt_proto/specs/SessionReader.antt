-- A reader of a session's part of its stream, which is fed the bytes in pieces (draft-ietf-webtrans-http3, section 5). Two walks
-- take turns: one goes over the frames up to the header of the next DATA frame, the other over the capsules in the joined
-- payloads (RFC 9297, section 3.2). Both are walks over items, as those of wt_proto, with one state each.
use Rattle.std.specs.Prelude.{[], ◌&&◌, ◌+◌, ◌-◌, ◌<◌, ◌==◌, ◌∷◌, ◌≡◌, ◌≤◌, Bool, IfSome, List, None, Option, Some, drop, false, if◌then◌else◌, length, min, nat_lt, suc, take, true, unwrap_or, zero, ℕ}
use Rattle.wt_message.specs.Capsule.{close_capsule_type}
use Rattle.wt_proto.specs.SessionWalk.{capsule_decides, is_over, may_close, session_at_end, session_unfinished}
use Rattle.wt_proto.specs.Walk.{outcome_at, whole_walk}
use Rattle.wt_proto.specs.WalkProgress.{IsProper, WalkProgress, at_item, progress_after, reached_in}
use Rattle.wt_proto.specs.Wanted.{varint_wants}
use Rattle.wt_proto.specs.declared.session_walk.SessionWalk.{SessionWalk}
use Rattle.wt_proto.specs.declared.walk.Step.{Step}
use Rattle.wt_wire.specs.Frames.{data_type, is_known_type, longest_payload, settings_type, signal_type}
use Rattle.wt_wire.specs.Varint.{varint_at}
use Rattle.wt_wire.specs.declared.error.ErrorCode.{ErrorCode}
use Rattle.wt_wire.specs.declared.side.StreamEnd.{StreamEnd}
use Rattle.wt_proto.specs.declared.session_walk.SessionWalk.TheVariants as walks
use Rattle.wt_proto.specs.declared.walk.Step.TheVariants.{Cut, Goes, Stops}
use Rattle.wt_wire.specs.declared.error.ErrorCode.TheVariants.{ClosedCriticalStream, ExcessiveLoad, FrameUnexpected}
use Rattle.wt_wire.specs.declared.side.StreamEnd.TheVariants.{Fin, Reset, Running}

-- ---- the walk over frames up to the header of a DATA frame (RFC 9114, section 7)

-- what the frames said: no DATA yet, DATA with a payload of that size, or a fault
pub data HeaderWalk : Type 0 where
  Waiting : HeaderWalk
  Payload : (size : ℕ) → HeaderWalk
  Faulty : (code : ErrorCode) → HeaderWalk

-- a frame with a header of `header` bytes and a payload of size bytes, as the session's walk judges it
abbrev pub header_with_size : ℕ → ℕ → ℕ → Step (Unit {0}) HeaderWalk
header_with_size kind header size =
    if kind == data_type then Stops (Payload size) header else
    (if is_known_type kind
    then (
    if nat_lt longest_payload size then Stops (Faulty ExcessiveLoad) header else
    (if kind == settings_type then Stops (Faulty FrameUnexpected) (header + size) else Goes tt (header + size)))
    else Goes tt (header + size))

-- the same, where the length is to be read after a type of `offset` bytes
abbrev pub header_with_length : ℕ → ℕ → Option (ℕ × ℕ) → Step (Unit {0}) HeaderWalk
header_with_length kind offset None = Cut
header_with_length kind offset (Some l) = header_with_size kind (offset + l.1) l.0

-- the same, where the type is to be read; a signal is unexpected
abbrev pub header_with_type : List ℕ → Option (ℕ × ℕ) → Step (Unit {0}) HeaderWalk
header_with_type bytes None = Cut
header_with_type bytes (Some t) =
    if t.0 == signal_type then Stops (Faulty FrameUnexpected) t.1 else header_with_length t.0 t.1 (varint_at (drop t.1 bytes))

-- what the frame at the front does; the walk has one state
unfoldable pub header_decides : Unit {0} → List ℕ → Step (Unit {0}) HeaderWalk
header_decides state bytes = header_with_type bytes (varint_at bytes)

-- how many bytes have to be there before the length of a frame is read
abbrev pub header_length_wants : List ℕ → ℕ → Option (ℕ × ℕ) → ℕ
header_length_wants bytes offset None = offset + varint_wants (drop offset bytes)
header_length_wants bytes offset (Some l) = offset + l.1

-- the same, where its type is to be read too
abbrev pub header_type_wants : List ℕ → Option (ℕ × ℕ) → ℕ
header_type_wants bytes None = varint_wants bytes
header_type_wants bytes (Some t) = if t.0 == signal_type then t.1 else header_length_wants bytes t.1 (varint_at (drop t.1 bytes))

-- how many bytes there have to be before the frame at the front is decided
unfoldable pub header_wants : List ℕ → ℕ
header_wants bytes = header_type_wants bytes (varint_at bytes)

-- while no frame decided it
abbrev pub header_unfinished : StreamEnd → Unit {0} → Bool → HeaderWalk
header_unfinished end state between = Waiting

-- whether it is decided
abbrev pub is_header : HeaderWalk → Bool
is_header Waiting = false
is_header (Payload size) = true
is_header (Faulty code) = true

-- what the frames said, over all bytes and the end
unfoldable pub header_walk_of : List ℕ → StreamEnd → HeaderWalk
header_walk_of bytes end = outcome_at header_unfinished end (whole_walk header_decides tt bytes)

-- ---- the walk over capsules (RFC 9297, section 3.2)

-- how many bytes of a capsule have to be there: its header, and the value of one that closes the session
abbrev pub value_wants : ℕ → ℕ → ℕ → ℕ
value_wants kind header size = if kind == close_capsule_type && may_close size then header + size else header

-- the same, where its length is to be read
abbrev pub capsule_length_wants : List ℕ → ℕ → ℕ → Option (ℕ × ℕ) → ℕ
capsule_length_wants bytes kind offset None = offset + varint_wants (drop offset bytes)
capsule_length_wants bytes kind offset (Some l) = value_wants kind (offset + l.1) l.0

-- the same, where its type is to be read too
abbrev pub capsule_type_wants : List ℕ → Option (ℕ × ℕ) → ℕ
capsule_type_wants bytes None = varint_wants bytes
capsule_type_wants bytes (Some t) = capsule_length_wants bytes t.0 t.1 (varint_at (drop t.1 bytes))

-- how many bytes there have to be before the capsule at the front is decided
unfoldable pub capsule_wants : List ℕ → ℕ
capsule_wants bytes = capsule_type_wants bytes (varint_at bytes)

-- while no capsule stopped it
abbrev pub capsule_unfinished : StreamEnd → Unit {0} → Bool → SessionWalk
capsule_unfinished Running state between = walks.Running
capsule_unfinished Fin state between = session_at_end between
capsule_unfinished (Reset code) state between = walks.Fault ClosedCriticalStream

-- what the capsules say, over all joined payloads and the end
unfoldable pub capsule_walk_of : List ℕ → StreamEnd → SessionWalk
capsule_walk_of bytes end = outcome_at capsule_unfinished end (whole_walk capsule_decides tt bytes)

-- ---- the reader

-- its value: how far the frames are, how many bytes of a payload are to come, how far the capsules are, and the end
pub record SessionReader : Type 0 where
  pub headers : WalkProgress (Unit {0}) HeaderWalk
  pub data_left : ℕ
  pub capsules : WalkProgress (Unit {0}) SessionWalk
  pub end : StreamEnd

-- one that took no bytes
abbrev pub session_reader : SessionReader
session_reader = record { headers = at_item tt; data_left = 0; capsules = at_item tt; end = Running }

-- a fault of a frame
abbrev pub frame_stop : Option HeaderWalk → Option SessionWalk
frame_stop (Some (Faulty code)) = Some (walks.Fault code)
frame_stop _ = None

-- what a capsule stopped the reader with, else what a frame did
abbrev pub first_stop : Option SessionWalk → Option HeaderWalk → Option SessionWalk
first_stop (Some outcome) header = Some outcome
first_stop None header = frame_stop header

-- what stopped it
abbrev pub stop_in : SessionReader → Option SessionWalk
stop_in r = first_stop (reached_in r.capsules).stop (reached_in r.headers).stop

-- the frames are so far; where that is the header of a DATA frame, its payload follows
abbrev pub past_frames : SessionReader → WalkProgress (Unit {0}) HeaderWalk → Option HeaderWalk → SessionReader
past_frames r headers (Some (Payload size)) = record r { headers = at_item tt; data_left = size }
past_frames r headers _ = record r { headers = headers }

-- the frames are so far
abbrev pub with_frames : SessionReader → WalkProgress (Unit {0}) HeaderWalk → SessionReader
with_frames r headers = past_frames r headers (reached_in headers).stop

-- the capsules in the payload are so far, and `left` of its bytes are to come
abbrev pub with_payload : SessionReader → ℕ → WalkProgress (Unit {0}) SessionWalk → SessionReader
with_payload r left capsules = record r { data_left = left; capsules = capsules }

-- the next byte is a frame's, or that of a payload of which so many bytes are to come
abbrev pub byte_step : SessionReader → ℕ → ℕ → SessionReader
byte_step r zero byte = with_frames r (progress_after header_decides r.headers (byte ∷ []))
byte_step r (suc left) byte = with_payload r left (progress_after capsule_decides r.capsules (byte ∷ []))

-- no byte is taken after the one that stops it
abbrev pub byte_fed : SessionReader → Option SessionWalk → ℕ → SessionReader
byte_fed r (Some outcome) byte = r
byte_fed r None byte = byte_step r r.data_left byte

-- its value after more bytes
unfoldable pub session_fed : SessionReader → List ℕ → SessionReader
session_fed r [] = r
session_fed r (byte ∷ bytes) = session_fed (byte_fed r (stop_in r) byte) bytes

-- the end is known
abbrev pub session_ended : StreamEnd → SessionReader → SessionReader
session_ended end r = record r { end = end }

-- what it says: what stopped it, else what the end makes of where it stands
abbrev pub session_said : SessionReader → SessionWalk
session_said r =
    unwrap_or (stop_in r) (session_unfinished r.end (record { data_left = r.data_left; capsules = r.capsules }) (reached_in r.headers).between)

-- how many bytes have to come before a walk decides anything: the rest of an item, or of its front
abbrev pub to_come : {S O : Type 0} → (List ℕ → ℕ) → WalkProgress S O → ℕ
to_come wants p = if p.skip == 0 then wants p.kept - length p.kept else p.skip

-- the same of the reader: those that its state asks for, of a payload no more than are to come
abbrev pub asked_for : SessionReader → ℕ → ℕ
asked_for r zero = to_come header_wants r.headers
asked_for r (suc left) = min (suc left) (to_come capsule_wants r.capsules)

-- one that stopped asks for none
abbrev pub wanted_unless : Option SessionWalk → SessionReader → ℕ
wanted_unless (Some outcome) r = 0
wanted_unless None r = asked_for r r.data_left

-- how many bytes have to come before the reader's state changes otherwise than by keeping and skipping them
abbrev pub session_wants : SessionReader → ℕ
session_wants r = wanted_unless (stop_in r) r

-- ---- what holds of it

-- the reader stands where one does that took these bytes and learned this end
abbrev pub HasReadSession : SessionReader → List ℕ → StreamEnd → Type 0
HasReadSession r bytes end = r ≡ session_ended end (session_fed session_reader bytes)

-- the first n bytes of a piece lead from one value to the next, and in front of the last of them the reader didn't stop
pub record SessionAdvances (old new : SessionReader) (piece : List ℕ) (n : ℕ) : Type 0 where
  pub within : n ≤ length piece
  pub fed : new ≡ session_fed old (take n piece)
  pub running : (k : ℕ) → k < n → stop_in (session_fed old (take k piece)) ≡ None

-- the frames are a fault
abbrev pub is_faulty : HeaderWalk → Bool
is_faulty (Faulty code) = true
is_faulty _ = false

-- both walks are proper; in a payload the frames are between two; what stopped the frames is a fault, what stopped the capsules is final
pub record IsSettled (r : SessionReader) : Type 0 where
  pub headers : IsProper header_decides r.headers
  pub capsules : IsProper capsule_decides r.capsules
  pub inside : 0 < r.data_left → r.headers ≡ at_item tt
  pub faulty : IfSome r.headers.stop (λ w. is_faulty w ≡ true)
  pub final : IfSome r.capsules.stop (λ w. is_over w ≡ true)
