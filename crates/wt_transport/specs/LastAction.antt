-- What an outbox asks of its last action.
use Rattle.std.specs.Prelude.{ℕ, List, [], ◌∷◌, ◌++◌, Bool, true, false, ◌==◌}
use Rattle.wt_turn.specs.declared.action.Action.{Action}
use Rattle.wt_turn.specs.declared.action.Action.TheVariants as actions

-- the action sends no bytes
abbrev pub is_other : Action → Bool
is_other (actions.Send id piece) = false
is_other _ = true

-- the action sends on this stream
abbrev pub is_send : Action → ℕ → Bool
is_send (actions.Send i piece) id = i == id
is_send _ id = false

-- the last of these actions sends on this stream
abbrev pub ends_with_send : List Action → ℕ → Bool
ends_with_send [] id = false
ends_with_send (a ∷ []) id = is_send a id
ends_with_send (a ∷ b ∷ later) id = ends_with_send (b ∷ later) id

-- the action with these bytes added to those that it sends
abbrev pub with_more : Action → List ℕ → Action
with_more (actions.Send i piece) bytes = actions.Send i (piece ++ bytes)
with_more a bytes = a
