-- What an endpoint keeps of its connections, as data, and which list of turns it stands for.
use Rattle.std.specs.Prelude.{ℕ, ◌&&◌, ◌==◌, ◌≡◌, ◌∷◌, Bool, List, None, Option, Some, [], count_by, false, if◌then◌else◌, length, nat_lt, not, slice_get, true, ◌^◌, ◌||◌}
use Rattle.wt_meaning.specs.History.{History}
use Rattle.wt_meaning.specs.Lawful.{is_first, is_lawful}
use Rattle.wt_core.specs.CoreState.{CoreState, KeepsHistory, connected_now, living_now, may_turn, open_now}
use Rattle.wt_turn.specs.declared.poll.Poll.{Poll}
use Rattle.wt_turn.specs.declared.poll.Poll.TheVariants.{Pending, Ready}
use Rattle.wt_turn.specs.declared.turn.Turn.{Turn}
use Rattle.wt_wire.specs.declared.lookup.ConnectOutcome.{ConnectOutcome}
use Rattle.wt_wire.specs.declared.side.Side.{Side}
use Rattle.wt_endpoint.specs.Endpoints.{AllMayCome, EndpointHistory, accept_next, accepted_after, endpoint_history, may_name, may_start, no_connections, stops}
use Rattle.wt_endpoint.specs.declared.turn.EndpointTurn.{EndpointTurn}
use Rattle.wt_endpoint.specs.declared.turn.EndpointTurn.TheVariants as events

-- ---- what is kept

-- what an endpoint keeps of its connections: a core each, by number, how many were accepted, and whether it was closed
pub record ConnectionsState : Type 0 where
  pub cores : List CoreState
  pub accepted : ℕ
  pub closed : Bool

-- a new endpoint keeps no connection
abbrev pub no_cores : ConnectionsState
no_cores = record { cores = []; accepted = 0; closed = false }

-- an endpoint: what marks its side, and its connections
pub record EndpointValue (S : Type 0) : Type 0 where
  pub marker : S
  pub connections : ConnectionsState

-- ---- what is asked of it

-- this connection may take the turn, by its core; without one it is the next, and may start with the turn
abbrev pub takes : Side → ConnectionsState → ℕ → Turn → Option CoreState → Bool
takes side k n turn (Some c) = may_turn c turn
takes side k n turn None = (n == length k.cores) && (is_lawful side [] turn && may_start k.closed turn)

-- the turn of this connection may come next, by what is kept
abbrev pub may_take : Side → ConnectionsState → ℕ → Turn → Bool
may_take side k n turn = may_name side k.accepted n turn && takes side k n turn (slice_get k.cores n)

-- the turn of the endpoint may be taken, by what is kept
abbrev pub may_take_turn : Side → ConnectionsState → EndpointTurn → Bool
may_take_turn side k (events.Connection n turn) = may_take side k n turn
may_take_turn side k _ = true

-- a connect with this outcome may begin a connection, by what is kept
abbrev pub may_connect : ConnectionsState → ConnectOutcome → Bool
may_connect k outcome = nat_lt (length k.cores) (2 ^ 32) && (not k.closed || stops outcome)

-- what an accept answers, by what is kept
abbrev pub accept_now : ConnectionsState → Option (Poll ℕ)
accept_now k = accept_next k.closed k.accepted (length k.cores)

-- what is kept after an accept
abbrev pub after_accept : ConnectionsState → ConnectionsState
after_accept k = record k { accepted = accepted_after k.closed k.accepted (length k.cores) }

-- the connection is open and established, by its core, whose word on the latter counts while it is open
unfoldable pub is_live_now : CoreState → Bool
is_live_now c = open_now c && connected_now c

-- how many connections are established and open, by what is kept
abbrev pub live_now : ConnectionsState → ℕ
live_now k = count_by is_live_now k.cores

-- the session lives, by its connection's core
abbrev pub lives_by : ℕ → Option CoreState → Bool
lives_by s (Some c) = living_now c s
lives_by s None = false

-- a wait is over where no connection is left
abbrev pub idle_poll : ℕ → Poll Unit
idle_poll count = if count == 0 then Ready tt else Pending

-- ---- what it stands for

-- the core keeps this history, and the connection has begun
pub record KeepsBegun (side : Side) (c : CoreState) (h : History) : Type 0 where
  pub keeps : KeepsHistory side c h
  pub begun : is_first h ≡ false

-- the cores keep these histories, by number
abbrev pub AllKeep : Side → List CoreState → List History → Type 0
AllKeep side [] [] = Unit {0}
AllKeep side (c ∷ cs) (h ∷ hs) = KeepsBegun side c h × AllKeep side cs hs
AllKeep side _ _ = ⊥

-- what is kept is that of an endpoint to which this happened
pub record Refines (side : Side) (k : ConnectionsState) (e : EndpointHistory) : Type 0 where
  pub each : AllKeep side k.cores e.histories
  pub accepted_is : k.accepted ≡ e.accepted
  pub closed_is : k.closed ≡ e.closed

-- What is kept stands for a list of turns: they may come, one after another, and it is kept what they lead to.
pub record StandsFor (side : Side) (k : ConnectionsState) (all : List EndpointTurn) : Type 0 where
  pub may_come : AllMayCome side no_connections all
  pub refines : Refines side k (endpoint_history side all)
