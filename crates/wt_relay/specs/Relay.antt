-- What a relay keeps, as its contracts see it.
use Rattle.std.specs.Prelude.{ℕ, Bool, List}
use Rattle.wt_endpoint.specs.Connections.{ConnectionsState}
use Rattle.wt_turn.specs.declared.answer.Answer.{Answer}
use Rattle.wt_relay.specs.Little.{Place}

-- whether it ran out of memory, what its endpoint keeps, the answers of a turn that ran out of memory; what is kept of each source beside
-- what is unread; and of each copy that is asked the session of its source and its own
pub record RelayState : Type 0 where
  pub failed : Bool
  pub connections : ConnectionsState
  pub told : List (ℕ × Answer)
  pub pieces : List (List ℕ)
  pub copies : List (Place × Place)
