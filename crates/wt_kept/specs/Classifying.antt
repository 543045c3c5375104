-- What the verdict of a stream leads to, on what is kept: a control stream comes once (RFC 9114, section 6.2.1), and so do the QPACK
-- streams (RFC 9204, section 4.2); a stream of a session waits; a request is queued (RFC 9220, section 3) or refused.
use Rattle.std.specs.Prelude.{[], ◌%◌, ◌++◌, ◌==◌, ◌∷◌, Bool, List, None, Option, Some, false, if◌then◌else◌, length, nat_lt, true, ℕ}
use Rattle.wt_kept.specs.Ending.{give_up_now, retire_now}
use Rattle.wt_kept.specs.Kept.{CriticalNow, DispatchedNow, QueuedRequest, Refused, RequestsNow, SessionsNow, WorkNow}
use Rattle.wt_kept.specs.Readers.{ControlReading, Slot, control_rules}
use Rattle.wt_kept.specs.Windows.{Admits, AdmissionNow, Admitted, Full, Gone, admit_stream_now}
use Rattle.wt_proto.specs.declared.verdict.Verdict.{Verdict}
use Rattle.wt_transport.specs.State.{TransportState}
use Rattle.wt_transport.specs.Step.{after_give_up, after_stop, can_receive_now}
use Rattle.wt_wire.specs.Codes.{code_of}
use Rattle.wt_wire.specs.HeaderList.{Fields}
use Rattle.wt_wire.specs.declared.error.ErrorCode.{ErrorCode}
use Rattle.wt_proto.specs.declared.verdict.Verdict.TheVariants as verdicts
use Rattle.wt_wire.specs.declared.error.ErrorCode.TheVariants as h3

-- ---- the parts of what is kept

-- what came on the streams went here instead
abbrev pub with_dispatched : (DispatchedNow → DispatchedNow) → WorkNow → WorkNow
with_dispatched f w = record w { dispatched = f w.dispatched }

-- the transport changed so
abbrev pub with_transport_by : (TransportState → TransportState) → WorkNow → WorkNow
with_transport_by f w = record w { transport = f w.transport }

-- the connection ends with this fault
abbrev pub fail_with : ErrorCode → DispatchedNow → DispatchedNow
fail_with code d = record d { fault = Some code }

-- ---- critical streams

-- the control stream, of which nothing was read after its type
abbrev pub with_control : Option (Slot ControlReading) → ℕ → DispatchedNow → DispatchedNow
with_control None k d = record d { critical = record d.critical { control = Some (record { id = k; reader = control_rules.start }) } }
with_control (Some before) k d = fail_with h3.StreamCreation d

-- the encoder's stream
abbrev pub with_encoder : Option ℕ → ℕ → DispatchedNow → DispatchedNow
with_encoder None k d = record d { critical = record d.critical { encoder = Some k } }
with_encoder (Some before) k d = fail_with h3.StreamCreation d

-- the decoder's stream
abbrev pub with_decoder : Option ℕ → ℕ → DispatchedNow → DispatchedNow
with_decoder None k d = record d { critical = record d.critical { decoder = Some k } }
with_decoder (Some before) k d = fail_with h3.StreamCreation d

-- nothing of the stream is kept
abbrev pub gives_up_now : ℕ → WorkNow → WorkNow
gives_up_now k w = with_transport_by (λ t. give_up_now t k) w

-- ---- streams that are stopped

-- the stream's receiving half is stopped with this code, and nothing of it is kept, where this end receives on it
abbrev pub stop_and_give_up : ErrorCode → TransportState → ℕ → TransportState
stop_and_give_up code t k = if can_receive_now t k then after_give_up (after_stop t k (code_of code)) k else t

abbrev pub refuse_stream : ℕ → ErrorCode → WorkNow → WorkNow
refuse_stream k code w = with_transport_by (λ t. stop_and_give_up code t k) w

-- on a server the stream of a request is a session's, which becomes gone; a client's peer opens no session's stream
abbrev pub retire_if : Bool → ℕ → WorkNow → WorkNow
retire_if true k w = retire_now k Refused w
retire_if false k w = w

-- a request alone is refused, and the connection goes on (RFC 9114, section 4.1.2)
abbrev pub refuse_request : ℕ → ErrorCode → WorkNow → WorkNow
refuse_request k code w = retire_if (k % 4 == 0) k (refuse_stream k code w)

-- ---- streams of sessions

-- whether the stream found a place
abbrev pub admitted_by : AdmissionNow → ℕ → WorkNow → WorkNow
admitted_by Admitted k w = w
admitted_by Full k w = refuse_stream k h3.BufferedStreamRejected w
admitted_by Gone k w = refuse_stream k h3.SessionGone w

-- the sessions are these
abbrev pub with_sessions : SessionsNow → DispatchedNow → DispatchedNow
with_sessions s d = record d { sessions = s }

-- a stream of a session waits, or is stopped
abbrev pub admit_stream : ℕ → ℕ → WorkNow → WorkNow
admit_stream k s w =
    admitted_by (admit_stream_now k s w.dispatched.sessions).admission k
    (with_dispatched (with_sessions (admit_stream_now k s w.dispatched.sessions).sessions) w)

-- ---- requests

-- one more is queued and held
abbrev pub with_request : ℕ → Fields → RequestsNow → RequestsNow
with_request k fields r = record { queued = r.queued ++ record { id = k; fields = fields } ∷ []; held = r.held ++ k ∷ [] }

-- how the requests take one in
pub record RequestAdmitted : Type 0 where
  pub has_room : Bool
  pub requests : RequestsNow

-- it is queued where fewer than 4 are held
abbrev pub admitted_request : ℕ → Fields → RequestsNow → RequestAdmitted
admitted_request k fields r =
    if nat_lt (length r.held) 4 then record { has_room = true; requests = with_request k fields r } else record { has_room = false; requests = r }

-- H3_REQUEST_REJECTED says that nothing of a further one was processed (RFC 9114, section 4.1.1)
abbrev pub unless_room : Bool → ℕ → WorkNow → WorkNow
unless_room true k w = w
unless_room false k w = refuse_request k h3.RequestRejected w

-- a request comes
abbrev pub admit_request : ℕ → Fields → WorkNow → WorkNow
admit_request k fields w =
    unless_room (admitted_request k fields w.dispatched.requests).has_room k
    (with_dispatched (λ d. record d { requests = (admitted_request k fields w.dispatched.requests).requests }) w)

-- ---- all of them

-- a stream with this verdict
unfoldable pub classify_now : ℕ → Verdict → WorkNow → WorkNow
classify_now k (verdicts.Control offset) w = with_dispatched (with_control w.dispatched.critical.control k) w
classify_now k (verdicts.Encoder offset) w = with_dispatched (with_encoder w.dispatched.critical.encoder k) (gives_up_now k w)
classify_now k (verdicts.Decoder offset) w = with_dispatched (with_decoder w.dispatched.critical.decoder k) (gives_up_now k w)
classify_now k (verdicts.WebTransport session offset) w = admit_stream k session w
classify_now k (verdicts.Request fields offset) w = admit_request k fields w
classify_now k (verdicts.Refused code) w = refuse_request k code w
classify_now k verdicts.Dropped w = gives_up_now k w
classify_now k (verdicts.Fault code) w = with_dispatched (fail_with code) w
classify_now k verdicts.Incomplete w = w
