-- What is promised of every history of lawful turns and their answers, as sentences over its pairs.
use Rattle.std.specs.List.{list_any}
use Rattle.std.specs.Option.{option_or}
use Rattle.std.specs.Prelude.{Bool, Contains, List, None, Option, Some, [], false, if◌then◌else◌, length, nat_le, not, take, true, ℕ, ◌&&◌, ◌++◌, ◌==◌, ◌||◌, ◌∷◌, ◌≡◌, ◌≤◌}
use Rattle.wt_meaning.specs.Calls.{opened_by}
use Rattle.wt_meaning.specs.Findings.{Finding, first_of, settings_came}
use Rattle.wt_meaning.specs.Handshakes.{is_success}
use Rattle.wt_meaning.specs.History.{History, Pair, actions_out, can_receive, can_send, contents, events, hands_out, is_given_up, is_open, is_reset, is_reset_of, out, was_finished}
use Rattle.wt_meaning.specs.Lawful.{is_lawful, is_pending, polls}
use Rattle.wt_meaning.specs.Meaning.{answer_to, history_after, next, with_pair}
use Rattle.wt_meaning.specs.Moments.{findings}
use Rattle.wt_meaning.specs.Sends.{is_of_session}
use Rattle.wt_meaning.specs.Windows.{gone_in, is_established, is_gone, is_number, last_request, makes_gone, receives}
use Rattle.wt_promise.specs.Owed.{as_called, begun_in, begun_last, control_bytes, handshake_stream, head_of, header_on, owed_by_turn}
use Rattle.wt_proto.specs.ResponseWalk.{response_walk_of}
use Rattle.wt_turn.specs.Joined.{join_all}
use Rattle.wt_turn.specs.Reports.{bis_allowed, credit, end_of, is_connected, is_running}
use Rattle.wt_turn.specs.Sent.{finishes}
use Rattle.wt_turn.specs.Streams.{local_count, local_uni}
use Rattle.wt_turn.specs.declared.action.Action.TheVariants as actions
use Rattle.wt_turn.specs.declared.action.Action.{Action}
use Rattle.wt_turn.specs.declared.answer.Answer.{Answer}
use Rattle.wt_turn.specs.declared.call.Call.TheVariants as calls
use Rattle.wt_turn.specs.declared.call.Call.{Call}
use Rattle.wt_turn.specs.declared.reply.Reply.TheVariants as replies
use Rattle.wt_turn.specs.declared.reply.Reply.{Reply}
use Rattle.wt_turn.specs.declared.turn.Turn.TheVariants as turns
use Rattle.wt_turn.specs.declared.turn.Turn.{Turn}
use Rattle.wt_wire.specs.declared.side.Side.TheVariants.{Client, Server}
use Rattle.wt_wire.specs.declared.side.Side.{Side}

-- ---- lists of turns

-- each turn of the list is lawful after those before it
abbrev pub AllLawful : Side → History → List Turn → Type 0
AllLawful side h [] = Unit {0}
AllLawful side h (turn ∷ later) = (is_lawful side h turn ≡ true) × AllLawful side (history_after side h turn) later

-- each turn of the history was lawful after those before it, and was answered by `next`; a list of turns leads to such a
-- history, in which bytes come one by one
abbrev pub IsHistory : Side → History → Type 0
IsHistory side [] = Unit {0}
IsHistory side (p ∷ h) = (is_lawful side h p.turn ≡ true) × (p.answer ≡ next side h p.turn) × IsHistory side h

-- ---- a session is established only after the peer's SETTINGS and a CONNECT or a 2xx

-- the call that was begun last is a response of status 200
abbrev pub is_acceptance : Option Call → Bool
is_acceptance (Some (calls.Accept headers)) = true
is_acceptance _ = false

-- a server's session is that of the request that was given last, and the response that was begun last accepts; a
-- client's is on the stream that its connect opened, and a 2xx came
abbrev pub is_asked_for : Side → History → ℕ → Bool
is_asked_for Server h s = is_number s (last_request h) && is_acceptance (begun_last h)
is_asked_for Client h s = s == 0 && not (local_count (actions_out h) 0 == 0) && is_success (response_walk_of (contents h 0) (end_of (events h) 0))

-- what a session rests on: SETTINGS came, it was asked for, the whole frame went out, the connection is open, and it is new
pub record EstablishedFor (side : Side) (h later : History) (s : ℕ) : Type 0 where
  pub settings : settings_came (findings side h) ≡ true
  pub asked : is_asked_for side later s ≡ true
  pub frame : out later s ≡ head_of (begun_last later)
  pub open_before : is_open h ≡ true
  pub new : is_established h s ≡ false

-- ---- reads

-- ---- datagrams

-- the payload that the reply gives
abbrev pub payload_in : Reply → List (List ℕ)
payload_in (replies.Datagram payload) = payload ∷ []
payload_in _ = []

-- the payloads that the session received, in order
abbrev pub payloads : History → ℕ → List (List ℕ)
payloads [] s = []
payloads (p ∷ h) s = payloads h s ++ (if receives h s p.turn p.answer.reply then payload_in p.answer.reply else [])

-- ---- the end of the connection

-- ---- streams of a session that is gone

-- Both halves of a stream that still run are told that the session is gone: a receiving half that neither end gave up so
-- far, and a sending half that is neither finished nor reset, unless the call itself ends it.
pub record StreamTold (side : Side) (h later : History) (owed : List Action) (a : Answer) (k : ℕ) : Type 0 where
  pub receiving : (can_receive side h k && is_running (end_of (events later) k) && not (is_given_up later k)) ≡ true → Contains a.actions (actions.StopOut k 0x170d7b68)
  pub sending : (can_send side h k && not (was_finished h k) && not (is_reset h k)) ≡ true
      → list_any (λ (x : Action). finishes k x || is_reset_of k x) owed ≡ false → Contains a.actions (actions.ResetOut k 0x170d7b68)

-- the turn leaves the connection open, but for what is found at its moment
abbrev pub leaves_open : Side → History → Turn → Answer → Bool
leaves_open side h turn a = is_open (as_called side h turn a)

-- of these findings, those in front of the one that makes the session gone
abbrev pub until_gone : ℕ → List Finding → List Finding
until_gone s [] = []
until_gone s (f ∷ later) = if makes_gone s f then [] else f ∷ until_gone s later

-- where a session becomes gone, by a call or by what is found while the connection is open, each of its streams is told
-- in the same answer, one that is admitted at this very moment too
abbrev pub GoneIsTold : Side → History → Turn → Answer → Type 0
GoneIsTold side h turn a = (s k : ℕ) → is_open h ≡ true → (leaves_open side h turn a || is_number s (gone_in h turn a.reply)) ≡ true
    → is_gone h (findings side h) s ≡ false → is_gone (with_pair h turn a) (findings side (with_pair h turn a)) s ≡ true
    → is_of_session h (until_gone s (findings side (with_pair h turn a))) s k ≡ true → StreamTold side h (with_pair h turn a) (owed_by_turn side h turn a.reply) a k

-- ---- what this end sends

-- this end's control stream is open, and has as much of its 25 bytes as credit allows
pub record SettingsOut (side : Side) (h : History) : Type 0 where
  pub stream : (local_count (actions_out h) (local_uni side) == 0) ≡ false
  pub sent : out h (local_uni side) ≡ take (credit (events h) (local_uni side)) control_bytes

-- the bytes that a reply to a write of the stream accepts
abbrev pub accepted_by : ℕ → Turn → Reply → List ℕ
accepted_by k (turns.Call (calls.Write id bytes)) (replies.Written n) = if id == k then take n bytes else []
accepted_by k (turns.Call (calls.WriteAll id bytes)) (replies.Count n) = if id == k then take n bytes else []
accepted_by k (turns.Call (calls.WriteAll id bytes)) replies.AllWritten = if id == k then bytes else []
accepted_by k _ _ = []

-- all that writes of the stream accepted, joined
abbrev pub accepted : History → ℕ → List ℕ
accepted [] k = []
accepted (p ∷ h) k = accepted h k ++ accepted_by k p.turn p.answer.reply

-- the connect or response that was begun for the stream: a connect's is stream 0, a response's that of the request that was given last
abbrev pub begun_on : History → ℕ → Option Call
begun_on [] k = None
begun_on (p ∷ h) k = option_or (begun_on h k) (if handshake_stream h == k then begun_in p.turn else None)

-- the frame of a connect or response, else this header
abbrev pub frame_or : Option Call → List ℕ → List ℕ
frame_or None header = header
frame_or (Some c) header = head_of (Some c)

-- what this layer sends first on a stream: the 25 bytes of its control stream, a request or a response, a header of a
-- stream that it opened; nothing on a stream that it accepted
abbrev pub head_on : Side → History → ℕ → List ℕ
head_on side h k = if k == local_uni side then control_bytes
    else frame_or (begun_on h k) (header_on h k (first_of (λ (p : Pair). opened_by k p.turn p.answer.reply) h))

-- what went out on a stream is a prefix of its head and what was accepted, and all of it once the head is out
pub record SendsInOrder (side : Side) (h : History) (k : ℕ) : Type 0 where
  pub front : take (length (out h k)) (head_on side h k ++ accepted h k) ≡ out h k
  pub all : length (head_on side h k) ≤ length (out h k) → out h k ≡ head_on side h k ++ accepted h k

-- the head of a response or a request may go out: a response's at once, a request's once the connection and the peer's
-- SETTINGS came, where the peer allows a bidirectional stream
abbrev pub head_may_go : Side → History → Bool
head_may_go Server h = true
head_may_go Client h = is_connected (events h) && settings_came (findings Client h) && nat_le 1 (bis_allowed (events h))

-- a connect or a response that still waits, where its head may go out, has sent as much of that head as credit allows, on the
-- stream of the request that was given last, or a connect's on stream 0
abbrev pub HeadGoesOut : Side → History → Turn → Answer → Type 0
HeadGoesOut side h turn a = (polls turn && is_pending a.reply && head_may_go side h) ≡ true
    → out (with_pair h turn a) (handshake_stream h) ≡ take (credit (events (with_pair h turn a)) (handshake_stream h)) (head_of (begun_last (with_pair h turn a)))

-- so has an opening, which goes on or is through, of its header
abbrev pub HeaderGoesOut : Side → History → ℕ → Answer → Type 0
HeaderGoesOut side h k a = (is_pending a.reply || hands_out k a.reply) ≡ true → out (with_pair h (turns.Call (calls.PollOpening k)) a) k
    ≡ take (credit (events (with_pair h (turns.Call (calls.PollOpening k)) a)) k) (head_on side (with_pair h (turns.Call (calls.PollOpening k)) a) k)

-- the action sends on the stream, or finishes it
abbrev pub sends_on : ℕ → Action → Bool
sends_on k (actions.Send id piece) = id == k
sends_on k (actions.Finish id) = id == k
sends_on k _ = false

-- the action sends on the stream, finishes or resets it
abbrev pub acts_on : ℕ → Action → Bool
acts_on k a = sends_on k a || is_reset_of k a

-- behind each element that passes the first test none passes the second
abbrev pub NoneBehind : {T : Type 0} → (T → Bool) → (T → Bool) → List T → Type 0
NoneBehind first later [] = Unit {0}
NoneBehind first later (x ∷ xs) = (first x ≡ true → list_any later xs ≡ false) × NoneBehind first later xs

-- ---- cutting

-- a piece that is cut in two is lawful exactly where its parts are, leads to the same history, and both answers together have the actions of the one
pub record CutsFreely (side : Side) (h : History) (k : ℕ) (first second : List ℕ) : Type 0 where
  pub lawful : is_lawful side h (turns.Bytes k (first ++ second))
      ≡ (is_lawful side h (turns.Bytes k first) && is_lawful side (history_after side h (turns.Bytes k first)) (turns.Bytes k second))
  pub history : history_after side h (turns.Bytes k (first ++ second)) ≡ history_after side (history_after side h (turns.Bytes k first)) (turns.Bytes k second)
  pub actions : (answer_to side h (turns.Bytes k (first ++ second))).actions
      ≡ join_all (answer_to side h (turns.Bytes k first)).actions (answer_to side (history_after side h (turns.Bytes k first)) (turns.Bytes k second)).actions
