-- How many steps may still be counted, by what is unread. A step is one feed of a reader: it takes a whole unread piece, or stops within
-- one, with which what the reader says is final.
use Rattle.std.specs.Prelude.{[], ◌+◌, ◌-◌, ◌*◌, ◌∷◌, ◌≤◌, Bool, List, None, Option, Some, false, if◌then◌else◌, length, suc, true, zero, ℕ}
use Rattle.wt_kept.specs.Arriving.{arrived_count, peer_kind}
use Rattle.wt_kept.specs.Kept.{ArrivingNow, DriverNow, LiveNow, WorkNow}
use Rattle.wt_kept.specs.Pieces.{FedNow}
use Rattle.wt_kept.specs.Readers.{ControlReading, ReadOn, Slot, control_rules, read_on, session_rules}
use Rattle.wt_transport.specs.State.{TransportState}
use Rattle.wt_transport.specs.Step.{pieces_now, unread_now}
use Rattle.wt_transport.specs.StreamState.{piece_count}
use Rattle.wt_wire.specs.declared.error.ErrorCode.{ErrorCode}

-- ---- one reader

-- a reader is fed a piece as it comes, or there is none
abbrev pub feed_steps : Option FedNow → ℕ
feed_steps None = 0
feed_steps (Some x) = 1

-- of how many pieces of a stream a byte is unread
abbrev pub unread_pieces : TransportState → ℕ → ℕ
unread_pieces t id = length (pieces_now t id)

-- one more feed than whole pieces, where what the reader says is final and bytes are left
abbrev pub stopped_within : Bool → List ℕ → ℕ
stopped_within true (byte ∷ bytes) = 1
stopped_within true [] = 0
stopped_within false bytes = 0

-- a reader that reads on counts as many steps as pieces go, and one where it stopped within a piece
abbrev pub CountsRead : {V : Type 0} → (V → Bool) → ℕ → TransportState → ReadOn V → (before after : ℕ) → Type 0
CountsRead said id t x before after = after + unread_pieces x.transport id ≤ before + unread_pieces t id + stopped_within (said x.reader) (unread_now x.transport id)

-- the same of a session's reader, where it lives, and of the control stream's, where it is there
abbrev pub CountsLive : ℕ → Option LiveNow → TransportState → (before after : ℕ) → Type 0
CountsLive s None t before after = after ≤ before
CountsLive s (Some x) t before after = CountsRead session_rules.has_said s t (read_on session_rules s x.reader t) before after

abbrev pub CountsControl : Option (Slot ControlReading) → TransportState → (before after : ℕ) → Type 0
CountsControl None t before after = after ≤ before
CountsControl (Some x) t before after = CountsRead control_rules.has_said x.id t (read_on control_rules x.id x.reader t) before after

-- ---- what may still come

-- nothing is read after a fault
abbrev pub unless_failed : Option ErrorCode → ℕ → ℕ
unless_failed None count = count
unless_failed (Some code) count = 0

-- of the streams that go on after their header
abbrev pub reads_left : WorkNow → ℕ
reads_left w = unless_failed w.dispatched.fault (piece_count w.transport.streams)

-- the pieces of the streams whose header is read
abbrev pub slot_pieces : {V : Type 0} → TransportState → List (Slot V) → ℕ
slot_pieces t [] = 0
slot_pieces t (x ∷ xs) = unread_pieces t x.id + slot_pieces t xs

-- those of so many streams of a kind that wait, from the n-th on
abbrev pub waiting_pieces : TransportState → ℕ → ℕ → ℕ → ℕ
waiting_pieces t kind n zero = 0
waiting_pieces t kind n (suc count) = unread_pieces t (4 * n + kind) + waiting_pieces t kind (suc n) count

-- those of the streams of a kind that have no verdict
abbrev pub header_pieces : {V : Type 0} → TransportState → ArrivingNow V → ℕ
header_pieces t a = slot_pieces t a.reading + waiting_pieces t (peer_kind t.side a.bidirectional) a.next (arrived_count t a - a.next)

-- those count twice: a header's reader may stop within a piece, which another reader goes on with
abbrev pub scan_most : {V : Type 0} → ArrivingNow V → TransportState → ℕ
scan_most a t = header_pieces t a + piece_count t.streams

abbrev pub scan_left : {V : Type 0} → ArrivingNow V → WorkNow → ℕ
scan_left a w = unless_failed w.dispatched.fault (scan_most a w.transport)

-- of a driver in a moment, and of one whose connection may have ended, after which nothing is read
abbrev pub work_left : DriverNow → ℕ
work_left d =
    unless_failed d.work.dispatched.fault (header_pieces d.work.transport d.unis + (header_pieces d.work.transport d.bis + piece_count d.work.transport.streams))

abbrev pub steps_left : DriverNow → ℕ
steps_left d = if d.work.transport.is_open then work_left d else 0
