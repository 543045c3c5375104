-- Which turn may follow a history (this repository's rule: what a QUIC transport may report, and in which order an
-- application may call). Turns after the end are judged as if they counted.
use Rattle.std.specs.Prelude.{[], ◌&&◌, ◌==◌, ◌^◌, ◌∷◌, ◌||◌, Bool, filter, if◌then◌else◌, is_some, length, nat_le, nat_lt, not, true, false, ℕ}
use Rattle.std.specs.List.{list_any}
use Rattle.wt_turn.specs.Reports.{bis_allowed, credit, end_of, is_acknowledged, is_connected, is_running, loss_of, stop_of, unis_allowed}
use Rattle.wt_turn.specs.Sent.{has_dialled}
use Rattle.wt_turn.specs.Streams.{peer_bi, peer_uni}
use Rattle.wt_turn.specs.declared.call.Call.{Call}
use Rattle.wt_turn.specs.declared.reply.Reply.{Reply}
use Rattle.wt_turn.specs.declared.turn.Turn.{Turn}
use Rattle.wt_wire.specs.declared.side.Side.{Side}
use Rattle.wt_wire.specs.declared.side.Side.TheVariants.{Client, Server}
use Rattle.wt_meaning.specs.History.{History, Pair, actions_out, all_events, can_receive, can_send, is_reset, stream_count, was_finished}
use Rattle.wt_turn.specs.declared.call.Call.TheVariants as calls
use Rattle.wt_turn.specs.declared.reply.Reply.TheVariants as replies
use Rattle.wt_turn.specs.declared.turn.Turn.TheVariants as turns

-- ---- turns of the transport

-- a server's connection may come at once, a client's once it dialled
abbrev pub has_begun : Side → History → Bool
has_begun Server h = true
has_begun Client h = has_dialled (actions_out h)

-- the connection was lost
abbrev pub is_lost : History → Bool
is_lost h = is_some (loss_of (all_events h))

-- the receiving half is there, and the peer hasn't ended it (RFC 9000, section 3.2)
abbrev pub may_receive : Side → History → ℕ → Bool
may_receive side h k = can_receive side h k && is_running (end_of (all_events h) k)

-- the peer neither stopped the sending half nor acknowledged all of it (RFC 9000, sections 3.1 and 3.5)
abbrev pub is_awaited : History → ℕ → Bool
is_awaited h k = not (is_some (stop_of (all_events h) k)) && not (is_acknowledged (all_events h) k)

-- A turn on a connection that came and isn't lost may come: at most 2^60 streams of a kind, and credit of at most
-- 2^62 - 1 bytes, which never falls (RFC 9000, sections 4.1, 4.6 and 16).
abbrev pub may_come : Side → History → Turn → Bool
may_come side h turns.PeerUni = nat_lt (stream_count side h (peer_uni side)) (2 ^ 60)
may_come side h turns.PeerBi = nat_lt (stream_count side h (peer_bi side)) (2 ^ 60)
may_come side h (turns.Bytes id piece) = may_receive side h id
may_come side h (turns.End id) = may_receive side h id
may_come side h (turns.Reset id code) = may_receive side h id
may_come side h (turns.Stop id code) = can_send side h id && is_awaited h id
may_come side h (turns.Acked id) = was_finished h id && not (is_reset h id) && is_awaited h id
may_come side h (turns.MaxUni total) = nat_le (unis_allowed (all_events h)) total && nat_le total (2 ^ 60)
may_come side h (turns.MaxBi total) = nat_le (bis_allowed (all_events h)) total && nat_le total (2 ^ 60)
may_come side h (turns.MaxData id total) = can_send side h id && nat_le (credit (all_events h) id) total && nat_lt total (2 ^ 62)
may_come side h _ = true

-- ---- calls

-- nothing came before
abbrev pub is_first : History → Bool
is_first [] = true
is_first (p ∷ h) = false

-- the call is one of the four responses
abbrev pub is_response : Call → Bool
is_response (calls.Accept headers) = true
is_response calls.Forbidden = true
is_response calls.NotFound = true
is_response calls.TooManyRequests = true
is_response _ = false

-- the call begins a connect or a response
abbrev pub begins : Call → Bool
begins (calls.Connect options lookup outcome) = true
begins c = is_response c

-- the turn begins a connect or a response, or goes on with it
abbrev pub polls : Turn → Bool
polls (turns.Call calls.Handshake) = true
polls (turns.Call c) = begins c
polls _ = false

-- the reply is Pending
abbrev pub is_pending : Reply → Bool
is_pending replies.Pending = true
is_pending _ = false

-- the reply gives a request
abbrev pub gives_request : Reply → Bool
gives_request (replies.Request id headers) = true
gives_request _ = false

-- an Incoming was answered Failed
abbrev pub fails_incoming : Turn → Reply → Bool
fails_incoming (turns.Call calls.Incoming) (replies.Failed e) = true
fails_incoming _ _ = false

-- the connect or response that was polled last was answered Pending
abbrev pub is_waiting : History → Bool
is_waiting [] = false
is_waiting (p ∷ h) = if polls p.turn then is_pending p.answer.reply else is_waiting h

-- each request that was given has a response, and that was answered something other than Pending: a response is begun once
-- for each, and isn't polled after such an answer, so they can be counted
abbrev pub all_answered : History → Bool
all_answered h =
    length (filter (λ (p : Pair). gives_request p.answer.reply) h)
    == length (filter (λ (p : Pair). polls p.turn && not (is_pending p.answer.reply)) h)

-- the turn is an Incoming, or begins a response
abbrev pub is_of_request : Turn → Bool
is_of_request (turns.Call calls.Incoming) = true
is_of_request (turns.Call c) = is_response c
is_of_request _ = false

-- the last Incoming gave a request, and no response to it was begun
abbrev pub has_request : History → Bool
has_request [] = false
has_request (p ∷ h) = if is_of_request p.turn then gives_request p.answer.reply else has_request h

-- this end is the client
abbrev pub is_client : Side → Bool
is_client Client = true
is_client Server = false

-- A call may come: a connect is a client's first turn; a server asks for a request once the one before is answered, until
-- that fails, and answers it once; a handshake is polled while it waits; every other call may come after the first turn.
abbrev pub may_call : Side → History → Call → Bool
may_call side h (calls.Connect options lookup outcome) = is_client side && is_first h
may_call side h calls.Incoming =
    not (is_client side) && not (is_first h) && not (list_any (λ (p : Pair). fails_incoming p.turn p.answer.reply) h) && all_answered h
may_call side h calls.Handshake = is_waiting h
may_call side h c = not (is_first h) && (if is_response c then not (is_client side) && has_request h else true)

-- ---- turns

-- the turn may follow the history: the connection comes once, before it nothing of the transport but the loss of what a client dialled, and nothing after a loss
abbrev pub is_lawful : Side → History → Turn → Bool
is_lawful side h (turns.Call c) = may_call side h c
is_lawful side h (turns.Connected uni bi total fact) =
    has_begun side h && not (is_connected (all_events h)) && not (is_lost h) && nat_le uni (2 ^ 60) && nat_le bi (2 ^ 60) && nat_lt total (2 ^ 62)
is_lawful side h (turns.Loss reason) = has_begun side h && not (is_lost h) && (is_client side || is_connected (all_events h))
is_lawful side h turn = is_connected (all_events h) && not (is_lost h) && may_come side h turn
