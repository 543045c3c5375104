-- What this end did on a connection: what went out on its streams, and what its calls set.
use Rattle.std.specs.Prelude.{ℕ, ℤ, pos, List, [], ◌∷◌, ◌++◌, Option, Some, None, unwrap_or, Bool, true, false, ◌==◌, if◌then◌else◌}
use Rattle.std.specs.List.{list_any}
use Rattle.wt_turn.specs.declared.action.Action.{Action}
use Rattle.wt_turn.specs.declared.action.Action.TheVariants as actions
use Rattle.wt_turn.specs.Log.{CallRecord, ResetUnsent, PrioritySet, Entry, Sent, Called, Log, newest}
use Rattle.wt_turn.specs.Reports.{if_same}

-- these bytes, and those that the action sends on this stream
abbrev pub with_sent_piece : ℕ → Action → List ℕ → List ℕ
with_sent_piece k (actions.Send id piece) before = if id == k then before ++ piece else before
with_sent_piece k _ before = before

-- the bytes that went out on a stream, joined
abbrev pub sent_on : List Action → ℕ → List ℕ
sent_on [] k = []
sent_on (a ∷ before) k = with_sent_piece k a (sent_on before k)

-- the action finishes this stream's sending half
abbrev pub finishes : ℕ → Action → Bool
finishes k (actions.Finish id) = id == k
finishes k _ = false

-- this end finished its half (FIN: RFC 9000, section 3.1)
abbrev pub is_finished : List Action → ℕ → Bool
is_finished before k = list_any (finishes k) before

-- the entry resets this stream's sending half
abbrev pub resets : ℕ → Entry → Bool
resets k (Sent (actions.ResetOut id code)) = id == k
resets k (Called (ResetUnsent id code)) = id == k
resets k _ = false

-- this end reset its half (RESET_STREAM), also where the connection had ended and nothing went out
abbrev pub is_reset : Log → ℕ → Bool
is_reset log k = list_any (resets k) log

-- the action asks for a connection
abbrev pub dials : Action → Bool
dials (actions.Dial address name) = true
dials _ = false

-- this end asked for a connection
abbrev pub has_dialled : List Action → Bool
has_dialled before = list_any dials before

-- the priority that the call gives this stream
abbrev pub priority_set : ℕ → CallRecord → Option ℤ
priority_set k (PrioritySet id priority) = if_same id k priority
priority_set k _ = None

-- the priority of a sending half: the last that was set, 0 at first
abbrev pub priority_of : List CallRecord → ℕ → ℤ
priority_of calls k = unwrap_or (newest (priority_set k) calls) (pos 0)
