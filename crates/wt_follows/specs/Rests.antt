-- A driver at rest: a moment would find nothing, and each reader that is kept has read all that came.
use Rattle.std.specs.Prelude.{[], ◌∷◌, ◌≡◌, List, None, Option, Some, false, length, map, take, true, ℕ}
use Rattle.wt_follows.specs.Pieces.{FindsNothing}
use Rattle.wt_kept.specs.Kept.{DriverNow, LiveNow}
use Rattle.wt_kept.specs.Readers.{BiReading, ControlReading, Slot, UniReading}
use Rattle.wt_turn.specs.Streams.{contents}
use Rattle.wt_turn.specs.Unread.{AtOffset, ReadPosition}
use Rattle.wt_sessions.specs.Driver.{transport_view}
use Rattle.wt_sessions.specs.DriverState.{state_of}
use Rattle.wt_turn.specs.Log.{Log}
use Rattle.wt_wire.specs.declared.side.Side.{Side}

-- all that came of the stream was read
abbrev pub IsRead : (ℕ → ReadPosition) → (ℕ → List ℕ) → ℕ → Type 0
IsRead position bytes k = position k ≡ AtOffset (length (bytes k))

-- of each of these slots
abbrev pub SlotsRead : {V : Type 0} → (ℕ → ReadPosition) → (ℕ → List ℕ) → List (Slot V) → Type 0
SlotsRead position bytes [] = Unit {0}
SlotsRead position bytes (x ∷ xs) = IsRead position bytes x.id × SlotsRead position bytes xs

-- of the control stream, where it is there
abbrev pub ControlRead : (ℕ → ReadPosition) → (ℕ → List ℕ) → Option (Slot ControlReading) → Type 0
ControlRead position bytes None = Unit {0}
ControlRead position bytes (Some x) = IsRead position bytes x.id

-- of each session that lives
abbrev pub SessionsRead : (ℕ → ReadPosition) → (ℕ → List ℕ) → List LiveNow → Type 0
SessionsRead position bytes [] = Unit {0}
SessionsRead position bytes (x ∷ xs) = IsRead position bytes x.id × SessionsRead position bytes xs

-- the driver of an open connection rests; until its own SETTINGS are out it reads no header
pub record Resting (side : Side) (d : DriverNow) (log : Log) (position : ℕ → ReadPosition) : Type 0 where
  pub finds : FindsNothing (transport_view side log) (state_of side log) (state_of side log).progress.settings
  pub unis : SlotsRead position (contents log) d.unis.reading
  pub bis : SlotsRead position (contents log) d.bis.reading
  pub control : ControlRead position (contents log) d.work.dispatched.critical.control
  pub sessions : SessionsRead position (contents log) d.work.dispatched.sessions.living
  pub unready : (transport_view side log).ready ≡ false → (d.unis.reading ≡ []) × (d.bis.reading ≡ [])
  pub first_unis : (transport_view side log).ready ≡ true → take 4 (state_of side log).unis ≡ map (λ (x : Slot UniReading). x.id) d.unis.reading
  pub first_bis : (transport_view side log).ready ≡ true → take 4 (state_of side log).bis ≡ map (λ (x : Slot BiReading). x.id) d.bis.reading
