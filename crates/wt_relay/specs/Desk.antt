-- How the calls of a relay lead on from what its endpoint keeps and what was answered since the turn began.
use Rattle.std.specs.Prelude.{ℕ, List}
use Rattle.wt_endpoint.specs.Connections.{ConnectionsState, StandsFor}
use Rattle.wt_endpoint.specs.declared.turn.EndpointTurn.{EndpointTurn}
use Rattle.wt_turn.specs.declared.answer.Answer.{Answer}
use Rattle.wt_wire.specs.declared.side.Side.TheVariants.{Server}
use Rattle.wt_relay.specs.Calls.{LeadsOn}

-- what the endpoint keeps of its connections, and what was told of the answers since the turn began
pub record DeskState : Type 0 where
  pub connections : ConnectionsState
  pub told : List (ℕ × Answer)

-- Whatever the endpoint stood for, calls of the relay led on from it, and their answers were told.
pub record Leads (before later : DeskState) : Type 0 where
  pub on : (all : List EndpointTurn) → StandsFor Server before.connections all → LeadsOn all later.connections before.told later.told
