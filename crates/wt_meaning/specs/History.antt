-- A history: the turns of one connection, each with its answer. Every question here is a filter over it.
use Rattle.std.specs.Prelude.{[], ◌%◌, ◌&&◌, ◌*◌, ◌++◌, ◌+◌, ◌-◌, ◌/◌, ◌==◌, ◌∷◌, ◌||◌, Bool, List, None, Option, Some, false, filter_map, if◌then◌else◌, length, nat_lt, not, true, ℕ}
use Rattle.std.specs.List.{list_any}
use Rattle.wt_turn.specs.Joined.{newest_first}
use Rattle.wt_turn.specs.Reports.{bis_allowed, credit, unis_allowed}
use Rattle.wt_turn.specs.Sent.{is_finished, sent_on}
use Rattle.wt_turn.specs.Streams.{local_count, local_uni, peer_count, peer_uni}
use Rattle.wt_turn.specs.Log.{Event, closes}
use Rattle.wt_turn.specs.Turns.{event_of}
use Rattle.wt_turn.specs.declared.action.Action.{Action}
use Rattle.wt_turn.specs.declared.answer.Answer.{Answer}
use Rattle.wt_turn.specs.declared.reply.Reply.{Reply}
use Rattle.wt_turn.specs.declared.turn.Turn.{Turn}
use Rattle.wt_wire.specs.declared.side.Side.{Side}
use Rattle.wt_turn.specs.declared.action.Action.TheVariants as actions
use Rattle.wt_turn.specs.declared.call.Call.TheVariants as calls
use Rattle.wt_turn.specs.declared.reply.Reply.TheVariants as replies
use Rattle.wt_turn.specs.declared.turn.Turn.TheVariants as turns

-- a turn and its answer
pub record Pair : Type 0 where
  pub turn : Turn
  pub answer : Answer

-- the pairs of one connection, the newest first; bytes of a stream come one by one
abbrev pub History : Type 0
History = List Pair

-- ---- the connection

-- the turn reports that the connection is lost (RFC 9000, section 10)
abbrev pub loses : Turn → Bool
loses (turns.Loss reason) = true
loses _ = false

-- the pair ends the connection, by a loss or by a close that goes out (RFC 9000, section 10.2)
abbrev pub ends_by : Pair → Bool
ends_by p = loses p.turn || list_any closes p.answer.actions

-- the connection is open until the first loss or close
abbrev pub is_open : History → Bool
is_open h = not (list_any ends_by h)

-- ---- what came

-- these events, and the turn's in front of them, where it is one
abbrev pub with_event : Option Event → List Event → List Event
with_event None before = before
with_event (Some e) before = e ∷ before

-- the events that came while the connection was open, the newest first; what comes later counts for nothing but what may come next
abbrev pub events : History → List Event
events [] = []
events (p ∷ h) = if is_open h then with_event (event_of p.turn) (events h) else events h

-- all events, those after the end too, the newest first
abbrev pub all_events : History → List Event
all_events h = filter_map (λ (p : Pair). event_of p.turn) h

-- these bytes, and those that the turn brings for the stream
abbrev pub with_bytes : ℕ → Turn → List ℕ → List ℕ
with_bytes k (turns.Bytes id piece) before = if id == k then before ++ piece else before
with_bytes k _ before = before

-- the contents of a stream: all bytes that came for it while the connection was open, joined
abbrev pub contents : History → ℕ → List ℕ
contents [] k = []
contents (p ∷ h) k = if is_open h then with_bytes k p.turn (contents h k) else contents h k

-- ---- what went out

-- all actions, the newest first
abbrev pub actions_out : History → List Action
actions_out [] = []
actions_out (p ∷ h) = newest_first p.answer.actions (actions_out h)

-- all bytes that went out on a stream, joined
abbrev pub out : History → ℕ → List ℕ
out h k = sent_on (actions_out h) k

-- how many more bytes the peer's credit lets this end send on a stream (RFC 9000, section 4.1)
abbrev pub credit_left : History → ℕ → ℕ
credit_left h k = credit (events h) k - length (out h k)

-- ---- streams: the n-th of a kind, counted from 0, has the id 4 * n + kind (RFC 9000, section 2.1)

-- how many streams of a kind there are
abbrev pub stream_count : Side → History → ℕ → ℕ
stream_count side h kind = peer_count side (all_events h) kind + local_count (actions_out h) kind

-- the stream was opened
abbrev pub exists : Side → History → ℕ → Bool
exists side h k = nat_lt (k / 4) (stream_count side h (k % 4))

-- it was opened and has a receiving half: all have one but this end's unidirectional streams
abbrev pub can_receive : Side → History → ℕ → Bool
can_receive side h k = exists side h k && not (k % 4 == local_uni side)

-- it was opened and has a sending half: all have one but the peer's unidirectional streams
abbrev pub can_send : Side → History → ℕ → Bool
can_send side h k = exists side h k && not (k % 4 == peer_uni side)

-- how many streams of a local kind the peer allows (RFC 9000, section 4.6)
abbrev pub allowed : Side → List Event → ℕ → ℕ
allowed side before kind = if kind == local_uni side then unis_allowed before else bis_allowed before

-- this end may open one more stream of the kind
abbrev pub may_open : Side → History → ℕ → Bool
may_open side h kind = is_open h && nat_lt (stream_count side h kind) (allowed side (events h) kind)

-- the id of the next stream of a kind
abbrev pub next_id : Side → History → ℕ → ℕ
next_id side h kind = 4 * stream_count side h kind + kind

-- ---- halves

-- the action resets the stream's sending half (RFC 9000, section 19.4)
abbrev pub is_reset_of : ℕ → Action → Bool
is_reset_of k (actions.ResetOut id code) = id == k
is_reset_of k _ = false

-- a reset of the stream was answered Done: it counts after the end too, where nothing goes out (this repository's rule)
abbrev pub answers_reset : ℕ → Turn → Reply → Bool
answers_reset k (turns.Call (calls.ResetSend id code)) replies.Done = id == k
answers_reset k _ _ = false

-- this end reset the sending half
abbrev pub is_reset : History → ℕ → Bool
is_reset h k = list_any (is_reset_of k) (actions_out h) || list_any (λ (p : Pair). answers_reset k p.turn p.answer.reply) h

-- this end finished the sending half (RFC 9000, section 3.1)
abbrev pub was_finished : History → ℕ → Bool
was_finished h k = is_finished (actions_out h) k

-- a stop of the stream's receiving half was answered Done
abbrev pub answers_stop : ℕ → Turn → Reply → Bool
answers_stop k (turns.Call (calls.StopRecv id code)) replies.Done = id == k
answers_stop k _ _ = false

-- the application gave up the receiving half
abbrev pub is_given_up : History → ℕ → Bool
is_given_up h k = list_any (λ (p : Pair). answers_stop k p.turn p.answer.reply) h

-- the reply hands the stream out
abbrev pub hands_out : ℕ → Reply → Bool
hands_out k (replies.Uni id) = id == k
hands_out k (replies.Bi id) = id == k
hands_out k (replies.SendReady id) = id == k
hands_out k (replies.BiReady id) = id == k
hands_out k _ = false

-- the application was handed the stream
abbrev pub is_handed_out : History → ℕ → Bool
is_handed_out h k = list_any (λ (p : Pair). hands_out k p.answer.reply) h
