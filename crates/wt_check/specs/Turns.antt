-- Rule 1: each turn may follow the pairs before it (RFC 9000, sections 2 to 4 and 10: what a QUIC transport may report; the order of calls is
-- this repository's rule).
-- It is wt_meaning's `is_lawful`, but in two places that no list of turns with its own answers reaches: a stream of this side is there where an
-- action named it, since a record may skip ids, so that a count doesn't say which are there; and a request is given by the answer to an Incoming alone.
use Rattle.std.specs.Prelude.{◌%◌, ◌&&◌, ◌/◌, ◌==◌, ◌^◌, ◌||◌, Bool, false, filter, length, nat_le, nat_lt, not, ℕ}
use Rattle.std.specs.List.{list_any}
use Rattle.wt_check.specs.Records.{is_local}
use Rattle.wt_meaning.specs.History.{History, Pair, actions_out, all_events}
use Rattle.wt_meaning.specs.Lawful.{fails_incoming, gives_request, is_awaited, is_client, is_first, is_lawful, is_lost, is_pending, polls}
use Rattle.wt_turn.specs.Reports.{credit, end_of, is_connected, is_running}
use Rattle.wt_turn.specs.Streams.{local_uni, peer_bi, peer_count, peer_uni}
use Rattle.wt_turn.specs.declared.action.Action.{Action}
use Rattle.wt_turn.specs.declared.reply.Reply.{Reply}
use Rattle.wt_turn.specs.declared.turn.Turn.{Turn}
use Rattle.wt_wire.specs.declared.side.Side.{Side}
use Rattle.wt_turn.specs.declared.action.Action.TheVariants as actions
use Rattle.wt_turn.specs.declared.call.Call.TheVariants as calls
use Rattle.wt_turn.specs.declared.turn.Turn.TheVariants as turns

-- the action opens this stream
abbrev pub opens_it : ℕ → Action → Bool
opens_it k (actions.Opened id) = id == k
opens_it k _ = false

-- the stream is there: the peer opened it, as the n-th of its kind, or an action named it
abbrev pub is_there : Side → History → ℕ → Bool
is_there side h k = nat_lt (k / 4) (peer_count side (all_events h) (k % 4)) || (is_local side k && list_any (opens_it k) (actions_out h))

-- it is there and has a receiving half, which the peer hasn't ended
abbrev pub may_receive : Side → History → ℕ → Bool
may_receive side h k = is_there side h k && not (k % 4 == local_uni side) && is_running (end_of (all_events h) k)

-- it is there and has a sending half
abbrev pub has_sending_half : Side → History → ℕ → Bool
has_sending_half side h k = is_there side h k && not (k % 4 == peer_uni side)

-- the connection came, and wasn't lost
abbrev pub has_come : History → Bool
has_come h = is_connected (all_events h) && not (is_lost h)

-- an Incoming was answered by a request
abbrev pub gives : Turn → Reply → Bool
gives (turns.Call calls.Incoming) reply = gives_request reply
gives _ reply = false

-- each request that was given has a response, and that was answered something other than Pending
abbrev pub all_answered : History → Bool
all_answered h =
    length (filter (λ (p : Pair). gives p.turn p.answer.reply) h) == length (filter (λ (p : Pair). polls p.turn && not (is_pending p.answer.reply)) h)

-- the turn may follow
abbrev pub may_follow : Side → History → Turn → Bool
may_follow side h turns.PeerUni = has_come h && nat_lt (peer_count side (all_events h) (peer_uni side)) (2 ^ 60)
may_follow side h turns.PeerBi = has_come h && nat_lt (peer_count side (all_events h) (peer_bi side)) (2 ^ 60)
may_follow side h (turns.Bytes id piece) = has_come h && may_receive side h id
may_follow side h (turns.End id) = has_come h && may_receive side h id
may_follow side h (turns.Reset id code) = has_come h && may_receive side h id
may_follow side h (turns.Stop id code) = has_come h && has_sending_half side h id && is_awaited h id
may_follow side h (turns.MaxData id total) = has_come h && has_sending_half side h id && nat_le (credit (all_events h) id) total && nat_lt total (2 ^ 62)
may_follow side h (turns.Call calls.Incoming) =
    not (is_client side) && not (is_first h) && not (list_any (λ (p : Pair). fails_incoming p.turn p.answer.reply) h) && all_answered h
may_follow side h turn = is_lawful side h turn

-- rule 1
abbrev pub follows : Side → History → Pair → Bool
follows side h p = may_follow side h p.turn
