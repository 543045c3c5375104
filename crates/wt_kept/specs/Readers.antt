-- A stream with the reader of what comes on it, as data; what a reader takes of a piece, and how it reads on in what is unread.
use Rattle.std.specs.Prelude.{[], ◌&&◌, ◌==◌, ◌∷◌, Bool, List, None, Option, Some, false, if◌then◌else◌, is_some, length, not, suc, take, true, zero, ℕ}
use Rattle.wt_message.specs.declared.settings.Settings.{Settings}
use Rattle.wt_proto.specs.SessionWalk.{is_over}
use Rattle.wt_proto.specs.Bi.{bi_decides, bi_unfinished}
use Rattle.wt_proto.specs.ControlWalk.{control_decides, control_unfinished}
use Rattle.wt_proto.specs.Reading.{outcome_in}
use Rattle.wt_proto.specs.ResponseWalk.{is_response_final, response_decides, response_unfinished}
use Rattle.wt_proto.specs.Uni.{is_final, uni_decides, uni_unfinished}
use Rattle.wt_proto.specs.WalkProgress.{Reading, at_item, fed_reading}
use Rattle.wt_proto.specs.declared.control_walk.ControlWalk.{ControlWalk}
use Rattle.wt_proto.specs.declared.response_walk.ResponseWalk.{ResponseWalk}
use Rattle.wt_proto.specs.declared.session_walk.SessionWalk.{SessionWalk}
use Rattle.wt_proto.specs.declared.verdict.Verdict.{Verdict}
use Rattle.wt_proto.specs.declared.walk.Step.{Step}
use Rattle.wt_turn.specs.Reports.{is_running}
use Rattle.wt_proto.specs.SessionReader.{SessionReader, session_ended, session_fed, session_reader, session_said}
use Rattle.wt_transport.specs.State.{TransportState}
use Rattle.wt_transport.specs.Step.{after_consume, end_now, unread_now}
use Rattle.wt_wire.specs.declared.side.StreamEnd.{StreamEnd}
use Rattle.wt_wire.specs.declared.side.StreamEnd.TheVariants.{Running}

-- ---- readers

-- the rules of a reader whose value is a V: how it begins, its value after more bytes and once an end is known, what it says, and
-- whether that is final
pub record ReaderRules (V O : Type 0) : Type 0 where
  pub start : V
  pub fed : V → List ℕ → V
  pub ended : StreamEnd → V → V
  pub outcome : V → O
  pub has_said : V → Bool

-- a reader that took no bytes
abbrev pub nothing_read : {S O : Type 0} → S → Reading S O
nothing_read start = record { progress = at_item start; end = Running }

-- the end is known
abbrev pub reading_ended : {S O : Type 0} → StreamEnd → Reading S O → Reading S O
reading_ended end r = record r { end = end }

-- the rules of a walk's reader
abbrev pub walk_rules : {S O : Type 0} → S → (S → List ℕ → Step S O) → (StreamEnd → S → Bool → O) → (O → Bool) → ReaderRules (Reading S O) O
walk_rules start decide unfinished final = record {
  start = nothing_read start;
  fed = fed_reading decide;
  ended = reading_ended;
  outcome = outcome_in unfinished;
  has_said = λ r. final (outcome_in unfinished r);
}

-- how far the header of a unidirectional stream is read, and of a bidirectional one
abbrev pub UniReading : Type 0
UniReading = Reading (Unit {0}) Verdict

abbrev pub BiReading : Type 0
BiReading = Reading ℕ Verdict

-- how far the peer's control stream is read
abbrev pub ControlReading : Type 0
ControlReading = Reading (Option Settings) ControlWalk

-- how far the response on a client's request stream is read
abbrev pub ResponseReading : Type 0
ResponseReading = Reading ℕ ResponseWalk

-- of a unidirectional stream's header
abbrev pub uni_rules : ReaderRules UniReading Verdict
uni_rules = walk_rules tt uni_decides uni_unfinished is_final

-- of a bidirectional stream's header
abbrev pub bi_rules : ReaderRules BiReading Verdict
bi_rules = walk_rules 0 bi_decides bi_unfinished is_final

-- of the peer's control stream after its type
abbrev pub control_rules : ReaderRules ControlReading ControlWalk
control_rules = walk_rules None control_decides control_unfinished (λ w. is_some w.fault)

-- of a client's request stream from its first byte
abbrev pub response_rules : ReaderRules ResponseReading ResponseWalk
response_rules = walk_rules 0 response_decides response_unfinished is_response_final

-- of a session's stream after the request or the response
abbrev pub session_rules : ReaderRules SessionReader SessionWalk
session_rules = record { start = session_reader; fed = session_fed; ended = session_ended; outcome = session_said; has_said = λ r. is_over (session_said r) }

-- ---- what a reader does

-- how many of these bytes a reader takes: up to the one with which what it says is final
abbrev pub taken_by : {V : Type 0} → (V → Bool) → (V → List ℕ → V) → V → List ℕ → ℕ
taken_by said fed r [] = 0
taken_by said fed r (byte ∷ bytes) = if said r then 0 else suc (taken_by said fed (fed r (byte ∷ [])) bytes)

abbrev pub taken : {V O : Type 0} → ReaderRules V O → V → List ℕ → ℕ
taken w r piece = taken_by w.has_said w.fed r piece

-- the reader after a piece was put before it
abbrev pub fed_piece_by : {V : Type 0} → (V → Bool) → (V → List ℕ → V) → V → List ℕ → V
fed_piece_by said fed r piece = fed r (take (taken_by said fed r piece) piece)

abbrev pub fed_piece : {V O : Type 0} → ReaderRules V O → V → List ℕ → V
fed_piece w r piece = fed_piece_by w.has_said w.fed r piece

-- ---- a stream and its reader

-- a stream, and how far what comes on it is read
pub record Slot (V : Type 0) : Type 0 where
  pub id : ℕ
  pub reader : V

-- a reader, and the transport beside it
pub record ReadOn (V : Type 0) : Type 0 where
  pub reader : V
  pub transport : TransportState

-- n bytes of a stream were read; none leave the transport as it is
abbrev pub consumed : TransportState → ℕ → ℕ → TransportState
consumed t id zero = t
consumed t id (suc n) = after_consume t id (suc n)

-- an end counts once all bytes before it were taken
abbrev pub noted_if : {V : Type 0} → (StreamEnd → V → V) → Bool → StreamEnd → V → V
noted_if ended true end r = ended end r
noted_if ended false end r = r

-- the end of the stream counts, after this many unread bytes were taken
abbrev pub is_end_reached : ℕ → TransportState → ℕ → Bool
is_end_reached count t id = not (is_running (end_now t id)) && count == length (unread_now t id)

-- the reader reads on in what is unread of its stream, up to the byte with which what it says is final, and then learns the end
abbrev pub reads_unread : {V : Type 0} → (V → Bool) → (V → List ℕ → V) → (StreamEnd → V → V) → ℕ → V → TransportState → ReadOn V
reads_unread said fed ended id r t = record {
  reader = noted_if ended (is_end_reached (taken_by said fed r (unread_now t id)) t id) (end_now t id) (fed_piece_by said fed r (unread_now t id));
  transport = consumed t id (taken_by said fed r (unread_now t id));
}

-- the same, unless it said all that it will
abbrev pub reads_on_if : {V : Type 0} → (V → Bool) → (V → List ℕ → V) → (StreamEnd → V → V) → Bool → ℕ → V → TransportState → ReadOn V
reads_on_if said fed ended true id r t = record { reader = r; transport = t }
reads_on_if said fed ended false id r t = reads_unread said fed ended id r t

abbrev pub reads_on : {V : Type 0} → (V → Bool) → (V → List ℕ → V) → (StreamEnd → V → V) → ℕ → V → TransportState → ReadOn V
reads_on said fed ended id r t = reads_on_if said fed ended (said r) id r t

abbrev pub read_on : {V O : Type 0} → ReaderRules V O → ℕ → V → TransportState → ReadOn V
read_on w id r t = reads_on w.has_said w.fed w.ended id r t
