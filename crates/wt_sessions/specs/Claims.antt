-- What the contracts of this crate claim of its definitions.
use Rattle.std.specs.Prelude.{[], ◌∷◌, ◌≡◌, List, true}
use Rattle.wt_sessions.specs.Answers.{is_lawful, log_after, log_from}
use Rattle.wt_sessions.specs.Driver.{log_and_flush, transport_view}
use Rattle.wt_sessions.specs.DriverState.{state_of}
use Rattle.wt_sessions.specs.Moment.{Fits, moment_actions, moment_state}
use Rattle.wt_turn.specs.Log.{Entry, Log, with_actions}
use Rattle.wt_turn.specs.declared.turn.Turn.{Turn}
use Rattle.wt_wire.specs.declared.side.Side.{Side}

-- each turn may come after those before it
abbrev pub AllLawful : Side → Log → List Turn → Type 0
AllLawful side log [] = Unit {0}
AllLawful side log (turn ∷ later) = (is_lawful side log turn ≡ true) × AllLawful side (log_after side log turn) later

-- lawful turns lead to a log whose entries may follow one another
abbrev pub LawfulTurnsFit : Side → Type 0
LawfulTurnsFit side = (all : List Turn) → AllLawful side [] all → Fits side (log_from side [] all)

-- at each entry of such a log what is kept changes as the table does
abbrev pub StateFollows : Side → Type 0
StateFollows side = (log : Log) (e : Entry) → Fits side (e ∷ log)
    → state_of side (log_and_flush side log e) ≡ moment_state (transport_view side log) (transport_view side (e ∷ log)) e (state_of side log)

-- and what is kept says what goes out
abbrev pub ActionsFollow : Side → Type 0
ActionsFollow side = (log : Log) (e : Entry) → Fits side (e ∷ log)
    → log_and_flush side log e ≡ with_actions (moment_actions (transport_view side log) (transport_view side (e ∷ log)) e (state_of side log)) (e ∷ log)
