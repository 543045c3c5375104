-- What a run of an endpoint's turns answers.
use Rattle.std.specs.Prelude.{ℕ, ◌≡◌, Err, List, Ok, Result, Some, false, slice_get, take}
use Rattle.wt_wire.specs.declared.side.Side.{Side}
use Rattle.wt_endpoint.specs.Endpoints.{AllMayCome, endpoint_history, endpoint_replies, may_come_next, no_connections}
use Rattle.wt_endpoint.specs.declared.run.EndpointError.{EndpointError}
use Rattle.wt_endpoint.specs.declared.run.EndpointError.TheVariants as errors
use Rattle.wt_endpoint.specs.declared.turn.EndpointReply.{EndpointReply}
use Rattle.wt_endpoint.specs.declared.turn.EndpointTurn.{EndpointTurn}

-- these turns may come, one after another, and these are the replies to them
pub record AllAnswered (side : Side) (all : List EndpointTurn) (given : List EndpointReply) : Type 0 where
  pub may_come : AllMayCome side no_connections all
  pub replies : given ≡ endpoint_replies side no_connections all

-- the turn at this index may not come after those before it, which have these replies
pub record StopsAt (side : Side) (all : List EndpointTurn) (index : ℕ) (given : List EndpointReply) : Type 0 where
  pub before : AllAnswered side (take index all) given
  pub turn : EndpointTurn
  pub is_there : slice_get all index ≡ Some turn
  pub may_not : may_come_next side (endpoint_history side (take index all)) turn ≡ false

-- The answer of `run_endpoint`: a reply to each turn, or those to the turns before the first that may not come; nothing is said
-- where memory ran out.
abbrev pub IsEndpointTrace : Side → List EndpointTurn → Result (List EndpointReply) EndpointError → Type 0
IsEndpointTrace side all (Ok given) = AllAnswered side all given
IsEndpointTrace side all (Err (errors.Unlawful index given)) = StopsAt side all index given
IsEndpointTrace side all (Err errors.OutOfMemory) = Unit {0}

-- this holds of the turns that were answered and their replies, whether the run reached its end or stopped before
abbrev pub OfAnswered : (List EndpointTurn → List EndpointReply → Type 0) → List EndpointTurn → Result (List EndpointReply) EndpointError → Type 0
OfAnswered Law all (Ok given) = Law all given
OfAnswered Law all (Err (errors.Unlawful index given)) = Law (take index all) given
OfAnswered Law all (Err errors.OutOfMemory) = Unit {0}
