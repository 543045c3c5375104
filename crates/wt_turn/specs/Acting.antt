-- Which actions a call may send.
use Rattle.std.specs.Prelude.{◌≡◌, [], ◌∷◌, List, Some, if◌then◌else◌, true, ℕ}
use Rattle.wt_turn.specs.Outgoing.{may_send, opened_id, actions_to_send}
use Rattle.wt_turn.specs.Streams.{can_receive, can_send, local_bi, local_uni}
use Rattle.wt_turn.specs.Log.{Log, Sent, is_open}
use Rattle.wt_turn.specs.declared.action.Action.{Action}
use Rattle.wt_turn.specs.declared.action.Action.TheVariants as actions
use Rattle.wt_wire.specs.Ids.{is_bidirectional}
use Rattle.wt_wire.specs.declared.side.Side.{Side}

-- the kind of this end's streams that has the id's direction
abbrev pub local_kind : Side → ℕ → ℕ
local_kind side id = if is_bidirectional id then local_bi side else local_uni side

-- An action of a call may go out: the connection is open, the stream has the half that it is about, an opened stream is
-- the next one, and credit is left for all that is sent.
abbrev pub MayAct : Side → Log → Action → Type 0
MayAct side log (actions.Dial address name) = is_open log ≡ true
MayAct side log (actions.Opened id) = opened_id side log (local_kind side id) ≡ Some id
MayAct side log (actions.Send id piece) = (may_send side log id ≡ true) × (actions_to_send log id piece ≡ actions.Send id piece ∷ [])
MayAct side log (actions.Finish id) = may_send side log id ≡ true
MayAct side log (actions.ResetOut id code) = (is_open log ≡ true) × (can_send side log id ≡ true)
MayAct side log (actions.StopOut id code) = (is_open log ≡ true) × (can_receive side log id ≡ true)
MayAct side log (actions.DatagramOut piece) = is_open log ≡ true
MayAct side log (actions.Close code reason) = is_open log ≡ true

-- each of these actions may go out after those before it
abbrev pub MayActAll : Side → Log → List Action → Type 0
MayActAll side log [] = Unit {0}
MayActAll side log (a ∷ later) = MayAct side log a × MayActAll side (Sent a ∷ log) later
