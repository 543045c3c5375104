-- The theorems that the contracts name.
use Rattle.wt_sessions.proofs.LogFollows.{log-follows, log-sends}
use Rattle.wt_sessions.proofs.TurnFits.{turns-fit}
use Rattle.wt_sessions.specs.Claims.{ActionsFollow, LawfulTurnsFit, StateFollows}
use Rattle.wt_wire.specs.declared.side.Side.{Side}

pub fit_theorem : (side : Side) → LawfulTurnsFit side
fit_theorem = turns-fit

pub state_theorem : (side : Side) → StateFollows side
state_theorem = log-follows

pub actions_theorem : (side : Side) → ActionsFollow side
actions_theorem = log-sends
