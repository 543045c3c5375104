-- What goes out together: bytes for one stream are one piece where no other action stands between them.
use Rattle.std.specs.Prelude.{ℕ, List, [], ◌∷◌, ◌++◌, ◌==◌, if◌then◌else◌}
use Rattle.wt_turn.specs.declared.action.Action.{Action}
use Rattle.wt_turn.specs.declared.action.Action.TheVariants as actions

-- the action that sends these bytes; no bytes send nothing
abbrev pub send_of : ℕ → List ℕ → List Action
send_of id [] = []
send_of id (byte ∷ later) = actions.Send id (byte ∷ later) ∷ []

-- two actions, one after the other
abbrev pub join_two : Action → Action → List Action
join_two (actions.Send i p) (actions.Send j q) = if i == j then actions.Send i (p ++ q) ∷ [] else actions.Send i p ∷ actions.Send j q ∷ []
join_two a b = a ∷ b ∷ []

-- an action after these, the oldest of which comes first
abbrev pub join_one : List Action → Action → List Action
join_one [] a = a ∷ []
join_one (b ∷ []) a = join_two b a
join_one (b ∷ c ∷ later) a = b ∷ join_one (c ∷ later) a

-- actions after these, the oldest first in both
abbrev pub join_all : List Action → List Action → List Action
join_all before [] = before
join_all before (a ∷ later) = join_all (join_one before a) later

-- actions whose newest comes first, in the order in which they go out
abbrev pub joined_actions : List Action → List Action
joined_actions [] = []
joined_actions (a ∷ before) = join_one (joined_actions before) a

-- actions whose newest comes first, with these after them, the first of which is the oldest
abbrev pub newest_first : List Action → List Action → List Action
newest_first [] before = before
newest_first (a ∷ later) before = newest_first later (a ∷ before)
