-- A piece of a stream, on what is kept: the reader of its header takes some of it, then the control stream's or a session's, and the
-- rest waits to be read. The bytes in front of the one that makes what a reader says final find nothing, so that only this one's moment
-- is worked; what is left of the piece is held back until that is done.
use Rattle.std.specs.Prelude.{[], ◌&&◌, ◌∷◌, ◌==◌, Bool, List, None, Option, Some, drop, false, find, if◌then◌else◌, not, true, ℕ}
use Rattle.wt_kept.specs.Classifying.{with_dispatched, with_sessions}
use Rattle.wt_kept.specs.Kept.{ArrivingNow, DispatchedNow, DriverNow, LiveNow, SessionsNow, WorkNow}
use Rattle.wt_kept.specs.Lists.{changed_first}
use Rattle.wt_kept.specs.Looking.{with_session_reader}
use Rattle.wt_kept.specs.Moment.{moment_now, with_work}
use Rattle.wt_kept.specs.Readers.{BiReading, ControlReading, ReaderRules, Slot, UniReading, bi_rules, control_rules, fed_piece, fed_piece_by, session_rules, taken_by, uni_rules}
use Rattle.wt_kept.specs.Windows.{live_in}
use Rattle.wt_proto.specs.SessionReader.{SessionReader}
use Rattle.wt_transport.specs.State.{TransportState}
use Rattle.wt_transport.specs.Step.{after_bytes, may_receive_now}
use Rattle.wt_wire.specs.Ids.{is_bidirectional}

-- what a reader did with a piece: how many bytes it took, and whether what it says is final
pub record FedNow : Type 0 where
  pub taken : ℕ
  pub is_final : Bool

-- of a reader with this value
abbrev pub feeds : {V : Type 0} → (V → Bool) → (V → List ℕ → V) → V → List ℕ → FedNow
feeds said fed r piece = record { taken = taken_by said fed r piece; is_final = said (fed_piece_by said fed r piece) }

abbrev pub fed_by : {V O : Type 0} → ReaderRules V O → V → List ℕ → FedNow
fed_by w r piece = feeds w.has_said w.fed r piece

-- ---- the reader of a header

-- the slot of this stream, where its header is read
abbrev pub slot_of : {V : Type 0} → ℕ → List (Slot V) → Option (Slot V)
slot_of {V} id xs = find (λ (x : Slot V). x.id == id) xs

-- the slots, of which the one of this stream was fed the piece
abbrev pub fed_slots : {V O : Type 0} → ReaderRules V O → ℕ → List ℕ → List (Slot V) → List (Slot V)
fed_slots {V} w id piece xs = changed_first (λ (x : Slot V). x.id == id) (λ x. record x { reader = fed_piece w x.reader piece }) xs

-- what the slot's reader does; None where there is none
abbrev pub fed_at : {V O : Type 0} → ReaderRules V O → List ℕ → Option (Slot V) → Option FedNow
fed_at w piece None = None
fed_at w piece (Some x) = Some (fed_by w x.reader piece)

-- what the reader of the stream's header does with the piece
abbrev pub header_feed : ℕ → List ℕ → DriverNow → Option FedNow
header_feed id piece d = if is_bidirectional id then fed_at bi_rules piece (slot_of id d.bis.reading) else fed_at uni_rules piece (slot_of id d.unis.reading)

-- the driver then
abbrev pub header_fed : ℕ → List ℕ → DriverNow → DriverNow
header_fed id piece d =
    if is_bidirectional id
    then record d { bis = record d.bis { reading = fed_slots bi_rules id piece d.bis.reading } }
    else record d { unis = record d.unis { reading = fed_slots uni_rules id piece d.unis.reading } }

-- ---- the reader of the control stream, or of a session's

-- the control stream, where it is this one
abbrev pub control_slot : ℕ → Option (Slot ControlReading) → Option (Slot ControlReading)
control_slot id None = None
control_slot id (Some x) = if x.id == id then Some x else None

-- what one of them does; None where the stream is neither's
abbrev pub body_feed_by : List ℕ → Option (Slot ControlReading) → Option LiveNow → Option FedNow
body_feed_by piece (Some x) live = Some (fed_by control_rules x.reader piece)
body_feed_by piece None (Some x) = Some (fed_by session_rules x.reader piece)
body_feed_by piece None None = None

abbrev pub body_feed : ℕ → List ℕ → DispatchedNow → Option FedNow
body_feed id piece d = body_feed_by piece (control_slot id d.critical.control) (live_in d.sessions id)

-- what is kept then
abbrev pub body_fed_by : ℕ → List ℕ → Option (Slot ControlReading) → Option LiveNow → DispatchedNow → DispatchedNow
body_fed_by id piece (Some x) live d = record d { critical = record d.critical { control = Some (record x { reader = fed_piece control_rules x.reader piece }) } }
body_fed_by id piece None (Some x) d = with_sessions (with_session_reader (fed_piece session_rules x.reader piece) id d.sessions) d
body_fed_by id piece None None d = d

abbrev pub body_fed : ℕ → List ℕ → DispatchedNow → DispatchedNow
body_fed id piece d = body_fed_by id piece (control_slot id d.critical.control) (live_in d.sessions id) d

-- ---- the parts of a piece

-- how many bytes of a piece were taken, and the driver then
pub record TookPart : Type 0 where
  pub taken : ℕ
  pub driver : DriverNow

-- the moment of the byte that made what the reader says final is worked
abbrev pub moment_if : Bool → DriverNow → DriverNow
moment_if true d = moment_now d
moment_if false d = d

abbrev pub work_after : Option FedNow → DriverNow → TookPart
work_after None d = record { taken = 0; driver = d }
work_after (Some x) d = record { taken = x.taken; driver = moment_if x.is_final d }

-- the part that the reader of the stream's header takes
unfoldable pub header_part : ℕ → List ℕ → DriverNow → TookPart
header_part id [] d = record { taken = 0; driver = d }
header_part id (byte ∷ bytes) d = work_after (header_feed id (byte ∷ bytes) d) (header_fed id (byte ∷ bytes) d)

-- the part that the control stream's reader or a session's takes, on an open connection
abbrev pub body_part_if : Bool → ℕ → List ℕ → DriverNow → TookPart
body_part_if false id piece d = record { taken = 0; driver = d }
body_part_if true id [] d = record { taken = 0; driver = d }
body_part_if true id (byte ∷ bytes) d =
    work_after (body_feed id (byte ∷ bytes) d.work.dispatched) (with_work (with_dispatched (body_fed id (byte ∷ bytes))) d)

unfoldable pub body_part : ℕ → List ℕ → DriverNow → TookPart
body_part id piece d = body_part_if d.work.transport.is_open id piece d

-- bytes of the stream may come
abbrev pub bytes_fit_now : TransportState → ℕ → Bool
bytes_fit_now t id = may_receive_now t id && not t.is_lost

-- the transport with these bytes, where they may come
abbrev pub with_bytes_if : Bool → ℕ → List ℕ → TransportState → TransportState
with_bytes_if true id piece t = after_bytes t id piece
with_bytes_if false id piece t = t

-- the rest waits in the transport
unfoldable pub rest_part : ℕ → List ℕ → DriverNow → DriverNow
rest_part id [] d = d
rest_part id (byte ∷ bytes) d = with_work (λ w. record w { transport = with_bytes_if (bytes_fit_now w.transport id) id (byte ∷ bytes) w.transport }) d

-- the body's part of what the header left, and the rest
abbrev pub after_header : ℕ → List ℕ → DriverNow → DriverNow
after_header id piece d = let x = body_part id piece d in rest_part id (drop x.taken piece) x.driver

-- the whole piece
unfoldable pub take_piece_now : ℕ → List ℕ → DriverNow → DriverNow
take_piece_now id piece d = let x = header_part id piece d in after_header id (drop x.taken piece) x.driver
