-- What a run of a relay's turns answers (this repository's own).
use Rattle.std.specs.Prelude.{ℕ, ◌&&◌, ◌++◌, ◌≡◌, ◌∷◌, ◌||◌, Bool, IfSome, List, None, Option, Some, [], false, if◌then◌else◌, length, not, slice_get, take, true}
use Rattle.wt_turn.specs.Turns.{is_call}
use Rattle.wt_turn.specs.declared.answer.Answer.{Answer}
use Rattle.wt_turn.specs.declared.turn.Turn.{Turn}
use Rattle.wt_endpoint.specs.Endpoints.{AllMayCome, endpoint_history, endpoint_replies, no_connections}
use Rattle.wt_endpoint.specs.Isolation.{AreApart}
use Rattle.wt_endpoint.specs.declared.turn.EndpointTurn.{EndpointTurn}
use Rattle.wt_endpoint.specs.declared.turn.EndpointTurn.TheVariants as events
use Rattle.wt_wire.specs.declared.side.Side.TheVariants.{Server}
use Rattle.wt_relay.specs.Calls.{is_followed, takes, told_from}

-- the turn of the transport that a turn of the endpoint is, after its connection's number
abbrev pub given_turn : EndpointTurn → List (ℕ × Turn)
given_turn (events.Connection n turn) = if is_call turn then [] else (n, turn) ∷ []
given_turn _ = []

-- the turns of the transport among these
abbrev pub given_turns : List EndpointTurn → List (ℕ × Turn)
given_turns [] = []
given_turns (turn ∷ later) = given_turn turn ++ given_turns later

-- the turn is one of the transport, or a call of the relay
abbrev pub is_given_or_called : EndpointTurn → Bool
is_given_or_called (events.Connection n turn) = not (is_call turn) || is_followed (events.Connection n turn)
is_given_or_called turn = is_followed turn

-- each of these turns is
abbrev pub all_given_or_called : List EndpointTurn → Bool
all_given_or_called [] = true
all_given_or_called (turn ∷ later) = is_given_or_called turn && all_given_or_called later

-- all answers of a run, the first turn's first
abbrev pub joined : List (List (ℕ × Answer)) → List (ℕ × Answer)
joined [] = []
joined (first ∷ later) = first ++ joined later

-- the turn at this index, which comes after these turns of the endpoint, isn't lawful
pub record StopsAt (given : List (ℕ × Turn)) (all : List EndpointTurn) (index : ℕ) : Type 0 where
  pub turn : ℕ × Turn
  pub is_there : slice_get given index ≡ Some turn
  pub is_not_taken : takes (endpoint_history Server all) turn.0 turn.1 ≡ false

-- A run of these turns that gave these answers, one list a turn, up to the turn at this index, where there is one. The endpoint took the
-- turns and calls of the relay, and no others. Each connection was answered what its own turns mean, whatever happened on the others.
pub record IsRelayRun (given : List (ℕ × Turn)) (answers : List (List (ℕ × Answer))) (unlawful : Option ℕ) : Type 0 where
  pub all : List EndpointTurn
  pub may_come : AllMayCome Server no_connections all
  pub apart : AreApart Server all (endpoint_replies Server no_connections all)
  pub turns : given_turns all ≡ take (length answers) given
  pub calls : all_given_or_called all ≡ true
  pub tells : joined answers ≡ told_from no_connections all
  pub whole : unlawful ≡ None → length answers ≡ length given
  pub stops : IfSome unlawful (λ index. (index ≡ length answers) × StopsAt given all index)
