-- What a call of a transport says of a log. A log knows neither how far the readers of its streams are nor which of its actions were
-- taken, so a call says it of each log that the transport refines, however far these are.
use Rattle.std.specs.Prelude.{List, OnOk, Result, ℕ}
use Rattle.wt_transport.specs.State.{Refines, TransportState}
use Rattle.wt_turn.specs.Joined.{newest_first}
use Rattle.wt_turn.specs.Unread.{ReadPosition}
use Rattle.wt_turn.specs.Log.{Log, with_actions}
use Rattle.wt_turn.specs.declared.action.Action.{Action}
use Rattle.wt_wire.specs.declared.side.Side.{Side}

-- the law holds of each log that the transport refines
abbrev pub OfEachLog : TransportState → (Side → Log → (ℕ → ReadPosition) → List Action → Type 0) → Type 0
OfEachLog t Law = (side : Side) (log : Log) (position : ℕ → ReadPosition) (uncollected : List Action) → Refines side t log position uncollected
    → Law side log position uncollected

-- it is so in each log that the transport refines
abbrev pub Tells : TransportState → (Side → Log → Type 0) → Type 0
Tells t Law = OfEachLog t (λ side log position uncollected. Law side log)

-- it is so in each log that the transport refines, by how far its streams were read
abbrev pub TellsUnread : TransportState → (Side → Log → (ℕ → ReadPosition) → Type 0) → Type 0
TellsUnread t Law = OfEachLog t (λ side log position uncollected. Law side log position)

-- where the call answers Ok, these actions went out: the transport then refines the log with them, and none of them was collected
abbrev pub SendsIfOk : {T E : Type 0} → Result T E → TransportState → TransportState → (Side → Log → List Action) → Type 0
SendsIfOk result t later own = OfEachLog t (λ side log position uncollected. OnOk result (Refines side later (with_actions (own side log) log) position (newest_first (own side log) uncollected)))
