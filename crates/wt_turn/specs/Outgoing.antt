-- What each call on the transport sends, as actions, the oldest first. Nothing goes out once the connection has ended.
use Rattle.std.specs.Prelude.{ℕ, ◌+◌, ◌-◌, ◌*◌, List, [], ◌∷◌, length, take, Option, Some, None, Bool, nat_lt, is_some, ◌==◌, ◌&&◌, not, if◌then◌else◌}
use Rattle.wt_wire.specs.declared.side.Side.{Side}
use Rattle.wt_turn.specs.declared.action.Action.{Action}
use Rattle.wt_turn.specs.declared.action.Action.TheVariants as actions
use Rattle.wt_turn.specs.Log.{ResetUnsent, Entry, Sent, Called, Log, events_of, all_events_of, actions_of, is_open}
use Rattle.wt_turn.specs.Reports.{stop_of, credit, unis_allowed, bis_allowed}
use Rattle.wt_turn.specs.Sent.{sent_on, is_finished, is_reset}
use Rattle.wt_turn.specs.Streams.{local_uni, stream_count, can_send}
use Rattle.wt_turn.specs.Joined.{send_of}

-- how many streams of a local kind may be opened in all
abbrev pub streams_allowed : Side → Log → ℕ → ℕ
streams_allowed side log kind = if local_uni side == kind then unis_allowed (all_events_of log) else bis_allowed (all_events_of log)

-- this end may open one more stream of this kind
abbrev pub may_open : Side → Log → ℕ → Bool
may_open side log kind = is_open log && nat_lt (stream_count side log kind) (streams_allowed side log kind)

-- the id of the next stream of a kind
abbrev pub next_id : Side → Log → ℕ → ℕ
next_id side log kind = 4 * stream_count side log kind + kind

-- what opening a stream of a kind answers
abbrev pub opened_id : Side → Log → ℕ → Option ℕ
opened_id side log kind = if may_open side log kind then Some (next_id side log kind) else None

-- what opening a stream of a kind sends
abbrev pub actions_to_open : Side → Log → ℕ → List Action
actions_to_open side log kind = if may_open side log kind then actions.Opened (next_id side log kind) ∷ [] else []

-- the sending half can still send: it is neither finished, reset nor stopped, and the connection is open
abbrev pub may_send : Side → Log → ℕ → Bool
may_send side log k = is_open log && can_send side log k && not (is_finished (actions_of log) k) && not (is_reset log k)
    && not (is_some (stop_of (events_of log) k))

-- how many more bytes a sending half may send
abbrev pub credit_left : Log → ℕ → ℕ
credit_left log k = credit (all_events_of log) k - length (sent_on (actions_of log) k)

-- the bytes of these that credit is left for
abbrev pub bytes_within_credit : Log → ℕ → List ℕ → List ℕ
bytes_within_credit log k bytes = take (credit_left log k) bytes

-- what sending these bytes sends
abbrev pub actions_to_send : Log → ℕ → List ℕ → List Action
actions_to_send log k bytes = send_of k (bytes_within_credit log k bytes)

-- the action where the connection is open, else nothing
abbrev pub if_open : Log → Action → List Action
if_open log a = if is_open log then a ∷ [] else []

-- what a reset of a sending half is to the log: it counts also where the connection has ended and nothing goes out
abbrev pub reset_entry : Log → ℕ → ℕ → Entry
reset_entry log k code = if is_open log then Sent (actions.ResetOut k code) else Called (ResetUnsent k code)
