-- What an endpoint replies to each of its turns, and what the turn leads to: the history of each connection, how many were
-- accepted, and whether the endpoint was closed (this repository's own).
use Rattle.std.specs.Prelude.{ℕ, ◌&&◌, ◌==◌, ◌^◌, ◌||◌, ◌++◌, ◌≡◌, ◌∷◌, Bool, List, None, Option, Some, [], count_by, false, if◌then◌else◌, length, map, nat_lt, not, slice_index_or, suc, true, zero}
use Rattle.wt_meaning.specs.History.{History, is_open}
use Rattle.wt_meaning.specs.History as history
use Rattle.wt_meaning.specs.Lawful.{is_client, is_lawful}
use Rattle.wt_meaning.specs.Meaning.{answer_to, history_after}
use Rattle.wt_turn.specs.Reports.{is_connected}
use Rattle.wt_turn.specs.Turns.{is_call}
use Rattle.wt_turn.specs.declared.answer.Answer.{Answer}
use Rattle.wt_turn.specs.declared.call.Call.TheVariants as calls
use Rattle.wt_turn.specs.declared.poll.Poll.{Poll}
use Rattle.wt_turn.specs.declared.poll.Poll.TheVariants.{Pending, Ready}
use Rattle.wt_turn.specs.declared.turn.Turn.{Turn}
use Rattle.wt_turn.specs.declared.turn.Turn.TheVariants as turns
use Rattle.wt_wire.specs.declared.lookup.ConnectOutcome.{ConnectOutcome}
use Rattle.wt_wire.specs.declared.lookup.ConnectOutcome.TheVariants as outcomes
use Rattle.wt_wire.specs.declared.side.Side.{Side}
use Rattle.wt_endpoint.specs.declared.turn.EndpointReply.{EndpointReply}
use Rattle.wt_endpoint.specs.declared.turn.EndpointReply.TheVariants as replies
use Rattle.wt_endpoint.specs.declared.turn.EndpointTurn.{EndpointTurn}
use Rattle.wt_endpoint.specs.declared.turn.EndpointTurn.TheVariants as events

-- what happened to an endpoint: the history of each connection that has begun, by number, how many were accepted, and whether
-- it was closed
pub record EndpointHistory : Type 0 where
  pub histories : List History
  pub accepted : ℕ
  pub closed : Bool

-- an endpoint with no connection yet
abbrev pub no_connections : EndpointHistory
no_connections = record { histories = []; accepted = 0; closed = false }

-- the history of the connection with this number, empty where it hasn't begun
abbrev pub connection_history : EndpointHistory → ℕ → History
connection_history e n = slice_index_or e.histories n []

-- the connection with this number has begun
abbrev pub has_begun : EndpointHistory → ℕ → Bool
has_begun e n = nat_lt n (length e.histories)

-- the histories with another one at this number, which may be the next
abbrev pub put_history : List History → ℕ → History → List History
put_history [] zero h = h ∷ []
put_history [] (suc n) h = []
put_history (first ∷ hs) zero h = h ∷ hs
put_history (first ∷ hs) (suc n) h = first ∷ put_history hs n h

-- ---- close

-- the call by which an endpoint closes a connection
abbrev pub closing : ℕ → List ℕ → Turn
closing code reason = turns.Call (calls.EndpointClose code reason)

-- an open connection takes the turn, another one is as before
abbrev pub turned_if_open : Side → Turn → History → History
turned_if_open side turn h = if is_open h then history_after side h turn else h

-- an open connection's answer to the turn, after its number
abbrev pub closed_at : Side → ℕ → Turn → History → List (ℕ × Answer)
closed_at side n turn h = if is_open h then (n, answer_to side h turn) ∷ [] else []

-- the answers of the open connections to the turn, by number; the first history has this number
abbrev pub closings_from : Side → ℕ → Turn → List History → List (ℕ × Answer)
closings_from side n turn [] = []
closings_from side n turn (h ∷ hs) = closed_at side n turn h ++ closings_from side (suc n) turn hs

-- the answers of the endpoint's open connections as it closes, by number
abbrev pub closings : Side → EndpointHistory → ℕ → List ℕ → List (ℕ × Answer)
closings side e code reason = closings_from side 0 (closing code reason) e.histories

-- ---- established and open connections

-- the connection hasn't ended, and is established
abbrev pub is_live : History → Bool
is_live h = is_open h && is_connected (history.events h)

-- how many connections are established and open
abbrev pub live_count : EndpointHistory → ℕ
live_count e = count_by is_live e.histories

-- ---- accept

-- What an accept answers where `accepted` of `count` connections were accepted. A server's connection begins as it is
-- established, so the order of numbers is that in which the connections were established.
abbrev pub accept_next : Bool → ℕ → ℕ → Option (Poll ℕ)
accept_next closed accepted count = if closed then None else (if nat_lt accepted count then Some (Ready accepted) else Some Pending)

-- how many were accepted after it
abbrev pub accepted_after : Bool → ℕ → ℕ → ℕ
accepted_after closed accepted count = if not closed && nat_lt accepted count then suc accepted else accepted

-- what an accept answers
abbrev pub accept_answer : EndpointHistory → Option (Poll ℕ)
accept_answer e = accept_next e.closed e.accepted (length e.histories)

-- an accept's answer as the endpoint's reply
abbrev pub accept_reply : Option (Poll ℕ) → EndpointReply
accept_reply None = replies.NoMore
accept_reply (Some (Ready n)) = replies.Incoming n
accept_reply (Some Pending) = replies.Pending

-- ---- turns

-- the reply to a wait until no connection is established and open, where `count` are
abbrev pub idle_reply : ℕ → EndpointReply
idle_reply count = if count == 0 then replies.Done else replies.Pending

-- what an endpoint replies to a turn
abbrev pub endpoint_reply : Side → EndpointHistory → EndpointTurn → EndpointReply
endpoint_reply side e (events.Connection n turn) = replies.Turn (answer_to side (connection_history e n) turn)
endpoint_reply side e events.Accept = accept_reply (accept_answer e)
endpoint_reply side e (events.Close code reason) = replies.Closed (closings side e code reason)
endpoint_reply side e events.WaitIdle = idle_reply (live_count e)
endpoint_reply side e events.OpenConnections = replies.Count (live_count e)

-- what a turn of an endpoint leads to
abbrev pub endpoint_after : Side → EndpointHistory → EndpointTurn → EndpointHistory
endpoint_after side e (events.Connection n turn) = record e { histories = put_history e.histories n (history_after side (connection_history e n) turn) }
endpoint_after side e events.Accept = record e { accepted = accepted_after e.closed e.accepted (length e.histories) }
endpoint_after side e (events.Close code reason) = record e { histories = map (turned_if_open side (closing code reason)) e.histories; closed = true }
endpoint_after side e events.WaitIdle = e
endpoint_after side e events.OpenConnections = e

-- ---- which turn may come next

-- a connect that is answered that the endpoint is stopping
abbrev pub stops : ConnectOutcome → Bool
stops outcomes.EndpointStopping = true
stops _ = false

-- the turn is such a connect
abbrev pub is_stopping : Turn → Bool
is_stopping (turns.Call (calls.Connect options lookup outcome)) = stops outcome
is_stopping _ = false

-- once the endpoint is closed no connection begins, but by such a connect
abbrev pub may_start : Bool → Turn → Bool
may_start closed turn = not closed || is_stopping turn

-- the connection has begun, or it is the next and may start
abbrev pub may_begin : EndpointHistory → ℕ → Turn → Bool
may_begin e n turn = has_begun e n || ((n == length e.histories) && may_start e.closed turn)

-- on a server a call names one of the connections that were accepted
abbrev pub may_name : Side → ℕ → ℕ → Turn → Bool
may_name side accepted n turn = is_client side || (not (is_call turn) || nat_lt n accepted)

-- A client's connect with this outcome may begin a connection: there are fewer than 2^32, and the endpoint isn't closed, or the
-- outcome is that it is stopping.
abbrev pub may_connect_next : EndpointHistory → ConnectOutcome → Bool
may_connect_next e outcome = nat_lt (length e.histories) (2 ^ 32) && (not e.closed || stops outcome)

-- the turn may come next: a connection's is lawful for it by itself, and accepts are a server's
abbrev pub may_come_next : Side → EndpointHistory → EndpointTurn → Bool
may_come_next side e (events.Connection n turn) = is_lawful side (connection_history e n) turn && (may_begin e n turn && may_name side e.accepted n turn)
may_come_next side e events.Accept = not (is_client side)
may_come_next side e _ = true

-- ---- a list of turns

-- these turns may come, one after another
abbrev pub AllMayCome : Side → EndpointHistory → List EndpointTurn → Type 0
AllMayCome side e [] = Unit {0}
AllMayCome side e (turn ∷ later) = (may_come_next side e turn ≡ true) × AllMayCome side (endpoint_after side e turn) later

-- what these turns lead to
abbrev pub endpoint_from : Side → EndpointHistory → List EndpointTurn → EndpointHistory
endpoint_from side e [] = e
endpoint_from side e (turn ∷ later) = endpoint_from side (endpoint_after side e turn) later

-- what these turns lead to from the start
abbrev pub endpoint_history : Side → List EndpointTurn → EndpointHistory
endpoint_history side all = endpoint_from side no_connections all

-- the replies to these turns
abbrev pub endpoint_replies : Side → EndpointHistory → List EndpointTurn → List EndpointReply
endpoint_replies side e [] = []
endpoint_replies side e (turn ∷ later) = endpoint_reply side e turn ∷ endpoint_replies side (endpoint_after side e turn) later
