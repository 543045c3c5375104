-- What the moments of a history find, as a list in the order in which it was found, and what that list says.
use Rattle.std.specs.Prelude.{[], ◌==◌, ◌∷◌, Bool, List, None, Option, Some, false, is_some, true, ℕ}
use Rattle.std.specs.List.{list_any}
use Rattle.std.specs.Option.{option_or}
use Rattle.wt_proto.specs.declared.verdict.Verdict.{Verdict}
use Rattle.wt_turn.specs.Reports.{if_same}
use Rattle.wt_wire.specs.declared.error.ErrorCode.{ErrorCode}
use Rattle.wt_proto.specs.declared.verdict.Verdict.TheVariants as verdicts

-- What a moment finds. A stream of the peer is dequeued once its header may be read (no queue is kept: the finding says
-- it), and classified once its header shows what it is.
pub data Finding : Type 0 where
  Dequeued : (id : ℕ) → Finding
  Classified : (id : ℕ) (verdict : Verdict) (keeps : Bool) → Finding  -- keeps: a session's stream is admitted, a request is queued
  DatagramRead : (index session : ℕ) (payload : List ℕ) (keeps : Bool) → Finding  -- keeps: it is admitted
  SessionClosed : (session code : ℕ) (reason : List ℕ) (by_capsule : Bool) → Finding  -- by the peer
  SettingsRead : Finding  -- the peer's SETTINGS
  Faulted : (code : ErrorCode) → Finding  -- the connection is to be closed with this code

-- the first that says something, and what it says
abbrev pub first_of : {S T : Type 0} → (S → Option T) → List S → Option T
first_of says [] = None
first_of says (x ∷ xs) = option_or (says x) (first_of says xs)

-- ---- streams

-- the finding dequeues the stream
abbrev pub dequeues : ℕ → Finding → Bool
dequeues k (Dequeued id) = id == k
dequeues k _ = false

-- the stream was dequeued, and stays so
abbrev pub is_dequeued : List Finding → ℕ → Bool
is_dequeued found k = list_any (dequeues k) found

-- the verdict by which the finding classifies the stream
abbrev pub verdict_in : ℕ → Finding → Option Verdict
verdict_in k (Classified id verdict keeps) = if_same id k verdict
verdict_in k _ = None

-- the verdict by which the stream was classified
abbrev pub verdict_of : List Finding → ℕ → Option Verdict
verdict_of found k = first_of (verdict_in k) found

-- the stream was classified
abbrev pub is_classified : List Finding → ℕ → Bool
is_classified found k = is_some (verdict_of found k)

-- ---- the peer's control stream, and the streams of its QPACK encoder and decoder (RFC 9114, section 6.2.1; RFC 9204, section 4.2)

-- the id of a control stream, and where its frames begin
abbrev pub control_in : Finding → Option (ℕ × ℕ)
control_in (Classified id (verdicts.Control offset) keeps) = Some (id, offset)
control_in _ = None

-- the id of an encoder's stream, and where its bytes begin
abbrev pub encoder_in : Finding → Option (ℕ × ℕ)
encoder_in (Classified id (verdicts.Encoder offset) keeps) = Some (id, offset)
encoder_in _ = None

-- the id of a decoder's stream, and where its bytes begin
abbrev pub decoder_in : Finding → Option (ℕ × ℕ)
decoder_in (Classified id (verdicts.Decoder offset) keeps) = Some (id, offset)
decoder_in _ = None

-- ---- SETTINGS, datagrams, the fault

-- the peer's SETTINGS were read
abbrev pub reads_settings : Finding → Bool
reads_settings SettingsRead = true
reads_settings _ = false

-- the peer's SETTINGS came (RFC 9114, section 7.2.4)
abbrev pub settings_came : List Finding → Bool
settings_came found = list_any reads_settings found

-- the finding is of a datagram
abbrev pub is_datagram : Finding → Bool
is_datagram (DatagramRead index session payload keeps) = true
is_datagram _ = false

-- the fault that was found
abbrev pub fault_in : Finding → Option ErrorCode
fault_in (Faulted code) = Some code
fault_in _ = None

-- the fault for which the connection is closed
abbrev pub fault_of : List Finding → Option ErrorCode
fault_of found = first_of fault_in found
