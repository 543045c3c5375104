-- The one answer to each turn, which turn may come next, and the answers to a list of turns (a turn is one event of the
-- transport or one call; this repository's own).
use Rattle.std.specs.Prelude.{[], ◌&&◌, ◌-◌, ◌∷◌, Bool, List, None, Option, Some, codes, false, if◌then◌else◌, length, not, take, true, ℕ}
use Rattle.wt_meaning.specs.Lawful.{is_client}
use Rattle.wt_message.specs.FixedBytes.{response_bytes}
use Rattle.wt_turn.specs.Arrivals.{fits, log_turn}
use Rattle.wt_turn.specs.Joined.{joined_actions}
use Rattle.wt_turn.specs.Reports.{datagram_fact}
use Rattle.wt_turn.specs.Streams.{local_bi, local_uni, peer_bi, peer_uni}
use Rattle.wt_turn.specs.Log.{Log, Received, actions_of, calls_of, events_of, is_open}
use Rattle.wt_turn.specs.declared.action.Action.{Action}
use Rattle.wt_turn.specs.declared.answer.Answer.{Answer}
use Rattle.wt_turn.specs.declared.call.Call.{Call}
use Rattle.wt_turn.specs.declared.turn.Turn.{Turn}
use Rattle.wt_wire.specs.declared.side.Side.{Side}
use Rattle.wt_sessions.specs.Connect.{connect}
use Rattle.wt_sessions.specs.Connection.{accept_stream, close_connection, closed_reply, end_session, open_stream, payload_limit, poll_opening, receive_datagram, send_datagram}
use Rattle.wt_sessions.specs.Driver.{call_view, first_session, flush, log_and_flush}
use Rattle.wt_sessions.specs.Effect.{Effect, poll_only, reply_with}
use Rattle.wt_sessions.specs.Halves.{finish, has_receiving_half, has_sending_half, on_half, priority, read, read_exact, reset, set_priority, stop_receiving, stopped, write, write_all}
use Rattle.wt_sessions.specs.StreamTable.{was_established}
use Rattle.wt_sessions.specs.Handshake.{awaits_answer, awaits_request, continue_handshake, handshake_state, incoming, is_continuable, response_head, start_response}
use Rattle.wt_turn.specs.declared.call.Call.TheVariants as calls
use Rattle.wt_turn.specs.declared.reply.Reply.TheVariants as replies
use Rattle.wt_turn.specs.declared.turn.Turn.TheVariants as turns

-- ---- calls

-- the session that a call names, where it was established; a call that names none means the first
abbrev pub named_session : Log → Option ℕ → Option ℕ
named_session log None = first_session (calls_of log)
named_session log (Some s) = if was_established (call_view log) s then Some s else None

-- a call on this session; without one the answer is NoSession
abbrev pub in_session : Side → Log → (ℕ → Effect) → Option ℕ → Effect
in_session side log call None = poll_only side log replies.NoSession
in_session side log call (Some s) = call s

-- a call on the session that it names
abbrev pub on_session : Side → Log → Option ℕ → (ℕ → Effect) → Effect
on_session side log name call = in_session side log call (named_session log name)

-- a call on the sending half of a stream, where the application has it
abbrev pub on_sending : Side → Log → ℕ → (ℕ → Effect) → Effect
on_sending side log k call = on_half (has_sending_half side log k) side log call k

-- a call on the receiving half of a stream, where the application has it
abbrev pub on_receiving : Side → Log → ℕ → (ℕ → Effect) → Effect
on_receiving side log k call = on_half (has_receiving_half side log k) side log call k

-- what a call leads to
unfoldable pub call_effect : Side → Log → Call → Effect
call_effect side log (calls.Connect options lookup outcome) = connect side log options.0 options.1 lookup outcome
call_effect side log calls.Incoming = incoming side log
call_effect side log (calls.Accept headers) = start_response side log true (response_head (codes "200") headers)
call_effect side log calls.Forbidden = start_response side log false (response_bytes (codes "403"))
call_effect side log calls.NotFound = start_response side log false (response_bytes (codes "404"))
call_effect side log calls.TooManyRequests = start_response side log false (response_bytes (codes "429"))
call_effect side log calls.Handshake = continue_handshake side log
call_effect side log (calls.EndpointClose code reason) = close_connection side log code reason
call_effect side log (calls.AcceptUni session) = on_session side log session (accept_stream side replies.Uni (peer_uni side) log)
call_effect side log (calls.AcceptBi session) = on_session side log session (accept_stream side replies.Bi (peer_bi side) log)
call_effect side log (calls.ReceiveDatagram session) = on_session side log session (receive_datagram side log)
call_effect side log (calls.OpenUni session) = on_session side log session (open_stream side log (local_uni side))
call_effect side log (calls.OpenBi session) = on_session side log session (open_stream side log (local_bi side))
call_effect side log (calls.PollOpening id) = on_session side log None (λ s. poll_opening side log id)
call_effect side log (calls.SendDatagram payload session) = on_session side log session (send_datagram side log payload)
call_effect side log (calls.MaxDatagramSize session) = on_session side log session (λ s. poll_only side log (replies.Size (payload_limit s (datagram_fact (events_of log)))))
call_effect side log (calls.SessionId session) = on_session side log session (λ s. poll_only side log (replies.Id s))
call_effect side log (calls.EndSession session) = on_session side log session (end_session side log)
call_effect side log (calls.Close code reason) = on_session side log None (λ s. close_connection side log code reason)
call_effect side log calls.Closed = on_session side log None (λ s. poll_only side log (closed_reply log))
call_effect side log (calls.Write id bytes) = on_sending side log id (λ k. write side log k bytes)
call_effect side log (calls.WriteAll id bytes) = on_sending side log id (λ k. write_all side log k bytes)
call_effect side log (calls.Finish id) = on_sending side log id (λ k. finish side log k)
call_effect side log (calls.Stopped id) = on_sending side log id (λ k. stopped side log k)
call_effect side log (calls.Priority id) = on_sending side log id (λ k. priority side log k)
call_effect side log (calls.SetPriority id p) = on_sending side log id (λ k. set_priority side log k p)
call_effect side log (calls.ResetSend id code) = on_sending side log id (λ k. reset side log k code)
call_effect side log (calls.Read id size) = on_receiving side log id (λ k. read side log k size)
call_effect side log (calls.ReadExact id size) = on_receiving side log id (λ k. read_exact side log k size)
call_effect side log (calls.StopRecv id code) = on_receiving side log id (λ k. stop_receiving side log k code)

-- ---- turns

-- a piece is its bytes, one after another, each a moment of its own
abbrev pub receive : Side → Log → ℕ → List ℕ → Log
receive side log k [] = log
receive side log k (b ∷ bytes) = receive side (if is_open log then log_and_flush side log (Received k b) else log) k bytes

-- what a turn leads to
abbrev pub turn_effect : Side → Log → Turn → Effect
turn_effect side log (turns.Bytes id piece) = reply_with (receive side log id piece) replies.Done
turn_effect side log (turns.Call call) = call_effect side log call
turn_effect side log turn = reply_with (flush side (log_turn log turn)) replies.Done

-- what went out after a log, oldest first, with the sends on one stream that follow each other joined
abbrev pub actions_since : Log → Log → List Action
actions_since log later = joined_actions (take (length (actions_of later) - length (actions_of log)) (actions_of later))

-- the answer to a turn after this log: its reply, and the actions that went out during it
abbrev pub answer_to : Side → Log → Turn → Answer
answer_to side log turn = record { reply = (turn_effect side log turn).reply; actions = actions_since log (turn_effect side log turn).log }

-- the log after this turn
abbrev pub log_after : Side → Log → Turn → Log
log_after side log turn = (turn_effect side log turn).log

-- ---- which turn may come next

-- nothing happened yet
abbrev pub is_first : Log → Bool
is_first [] = true
is_first (e ∷ log) = false

-- a server answers a request once, after it was delivered
abbrev pub may_respond : Side → Log → Bool
may_respond side log = not (is_client side) && awaits_answer (handshake_state (calls_of log))

-- the call may come after this log
abbrev pub may_call : Side → Log → Call → Bool
may_call side log (calls.Connect options lookup outcome) = is_client side && is_first log
may_call side log calls.Incoming = not (is_client side) && not (is_first log) && awaits_request (handshake_state (calls_of log))
may_call side log (calls.Accept headers) = may_respond side log
may_call side log calls.Forbidden = may_respond side log
may_call side log calls.NotFound = may_respond side log
may_call side log calls.TooManyRequests = may_respond side log
may_call side log calls.Handshake = is_continuable (handshake_state (calls_of log))
may_call side log _ = not (is_first log)

-- the turn may come after this log
abbrev pub is_lawful : Side → Log → Turn → Bool
is_lawful side log (turns.Call call) = may_call side log call
is_lawful side log turn = fits side log turn

-- ---- a list of turns

-- the log after these turns
abbrev pub log_from : Side → Log → List Turn → Log
log_from side log [] = log
log_from side log (turn ∷ later) = log_from side (log_after side log turn) later

-- the answers to these turns, the first of which comes after this log
abbrev pub answers_from : Side → Log → List Turn → List Answer
answers_from side log [] = []
answers_from side log (turn ∷ later) = answer_to side log turn ∷ answers_from side (log_after side log turn) later

-- the answers to these turns from the start
abbrev pub answers_to : Side → List Turn → List Answer
answers_to side all = answers_from side [] all

-- how a run ends: with its turns, or at the first that isn't lawful
pub data RunEnd : Type 0 where
  Finished : RunEnd
  AtUnlawful : RunEnd

-- the answers of a run, and how it ended
pub record Run : Type 0 where
  pub answers : List Answer
  pub stop : RunEnd

-- a run with one more answer in front
abbrev pub with_answer : Answer → Run → Run
with_answer a r = record { answers = a ∷ r.answers; stop = r.stop }

-- the answers to the longest lawful prefix
abbrev pub run_from : Side → Log → List Turn → Run
run_from side log [] = record { answers = []; stop = Finished }
run_from side log (turn ∷ later) =
    elim (is_lawful side log turn) [
      | true ↦ with_answer (answer_to side log turn) (run_from side (log_after side log turn) later)
      | false ↦ record { answers = []; stop = AtUnlawful }
    ]

-- the answers to the longest lawful prefix of these turns, from the start
abbrev pub run : Side → List Turn → Run
run side all = run_from side [] all
