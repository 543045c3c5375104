-- The peer's critical streams, step by step.
use Rattle.std.specs.Prelude.{◌==◌, List, None, Option, Some, if◌then◌else◌, ℕ}
use Rattle.wt_kept.specs.Kept.{CriticalNow}
use Rattle.wt_kept.specs.Pieces.{FedNow, fed_by}
use Rattle.wt_kept.specs.Readers.{ControlReading, ReadOn, Slot, control_rules, fed_piece, read_on}
use Rattle.wt_message.specs.declared.settings.Settings.{Settings}
use Rattle.wt_transport.specs.State.{TransportState}
use Rattle.wt_wire.specs.declared.error.ErrorCode.{ErrorCode}

-- the first one stays
abbrev pub with_once : Option ℕ → ℕ → Option ℕ
with_once None k = Some k
with_once (Some before) k = Some before

-- how many control streams there are
abbrev pub control_count : Option (Slot ControlReading) → ℕ
control_count None = 0
control_count (Some x) = 1

-- the SETTINGS that came on it
abbrev pub control_settings : Option (Slot ControlReading) → Option Settings
control_settings None = None
control_settings (Some x) = (control_rules.outcome x.reader).settings

-- what its reader does with a piece, where the stream is this one
abbrev pub control_feed : ℕ → List ℕ → Option (Slot ControlReading) → Option FedNow
control_feed id piece None = None
control_feed id piece (Some x) = if x.id == id then Some (fed_by control_rules x.reader piece) else None

-- the control stream then
abbrev pub control_fed : ℕ → List ℕ → Option (Slot ControlReading) → Option (Slot ControlReading)
control_fed id piece None = None
control_fed id piece (Some x) = if x.id == id then Some (record x { reader = fed_piece control_rules x.reader piece }) else Some x

-- what reading on leaves
pub record ControlReadNow : Type 0 where
  pub critical : CriticalNow
  pub fault : Option ErrorCode
  pub transport : TransportState

abbrev pub control_read_so : ℕ → ReadOn ControlReading → CriticalNow → ControlReadNow
control_read_so k x c = record {
  critical = record c { control = Some (record { id = k; reader = x.reader }) };
  fault = (control_rules.outcome x.reader).fault;
  transport = x.transport;
}

abbrev pub read_control_at : Option (Slot ControlReading) → CriticalNow → TransportState → ControlReadNow
read_control_at None c t = record { critical = c; fault = None; transport = t }
read_control_at (Some x) c t = control_read_so x.id (read_on control_rules x.id x.reader t) c
