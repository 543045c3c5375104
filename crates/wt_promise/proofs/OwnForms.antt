-- What is promised, said of the answer that the rows give: the forms that are proved first.
use Rattle.std.specs.Prelude.{[], ◌&&◌, ◌++◌, ◌∷◌, ◌||◌, ◌≡◌, Bool, List, None, Option, Some, false, is_none, nat_le, not, true, ℕ, ◌==◌, ◌≤◌, Err, Ok, Result, codes, if◌then◌else◌, length, take, drop, ◌%◌}
use Rattle.std.specs.List.{list_any}
use Rattle.url.specs.Parser.{parse_url}
use Rattle.wt_meaning.specs.Calls.{is_living, opened_by, session_error}
use Rattle.wt_meaning.specs.Lawful.{is_pending, polls}
use Rattle.wt_meaning.specs.Targets.{Target, target_of}
use Rattle.wt_message.specs.FixedBytes.{response_bytes}
use Rattle.wt_meaning.specs.Halves.{body_start, was_read}
use Rattle.wt_promise.specs.Owed.{control_bytes, handshake_stream, header_on}
use Rattle.wt_turn.specs.declared.connecting_error.ConnectingError.{ConnectingError}
use Rattle.wt_meaning.specs.Findings.{fault_of, first_of, verdict_of}
use Rattle.wt_meaning.specs.Handshakes.{acceptance_frame, last_begun, response_fault}
use Rattle.wt_meaning.specs.History.{History, Pair, contents, events, hands_out, is_open, loses, out, is_handed_out, can_receive, can_send, is_given_up, is_reset, was_finished}
use Rattle.wt_meaning.specs.Meaning.{own_answer, with_pair}
use Rattle.wt_meaning.specs.Moments.{findings}
use Rattle.wt_meaning.specs.Sends.{is_of_session, admits}
use Rattle.wt_meaning.specs.Windows.{gone_in, is_established, is_gone, is_number, last_request, named}
use Rattle.wt_promise.specs.Promise.{SettingsOut, accepted, begun_on, head_may_go, until_gone}
use Rattle.wt_proto.specs.ResponseWalk.{response_walk_of}
use Rattle.wt_turn.specs.Reports.{credit, end_of, unis_allowed, is_running}
use Rattle.wt_turn.specs.Streams.{local_uni, peer_bi, peer_uni}
use Rattle.wt_turn.specs.Log.{closes}
use Rattle.wt_turn.specs.declared.action.Action.{Action}
use Rattle.wt_turn.specs.declared.answer.Answer.{Answer}
use Rattle.wt_turn.specs.declared.call.Call.{Call}
use Rattle.wt_turn.specs.declared.reply.Reply.{Reply}
use Rattle.wt_turn.specs.declared.turn.Turn.{Turn}
use Rattle.wt_wire.specs.Codes.{code_of}
use Rattle.wt_wire.specs.declared.error.ErrorCode.{ErrorCode}
use Rattle.wt_wire.specs.declared.side.Side.{Side}
use Rattle.wt_turn.specs.declared.action.Action.TheVariants as actions
use Rattle.wt_turn.specs.declared.call.Call.TheVariants as calls
use Rattle.wt_turn.specs.declared.reply.Reply.TheVariants as replies
use Rattle.wt_turn.specs.declared.turn.Turn.TheVariants as turns

-- ---- what a call may end

-- the action ends a half of a stream, or the connection
abbrev pub is_end : Action → Bool
is_end (actions.StopOut id code) = true
is_end (actions.ResetOut id code) = true
is_end (actions.Finish id) = true
is_end (actions.Close code reason) = true
is_end _ = false

-- the finish of this stream
abbrev pub finish_of : Option ℕ → List Action
finish_of None = []
finish_of (Some k) = actions.Finish k ∷ []

-- the close for this fault
abbrev pub fault_closes : Option ErrorCode → List Action
fault_closes None = []
fault_closes (Some code) = actions.Close (code_of code) [] ∷ []

-- what a rejection of this request may end: its stream is finished; where the peer stopped that, or no session lives, the connection is closed
abbrev pub rejection_ends : Option ℕ → List Action
rejection_ends request = finish_of request ++ actions.Close 0x104 [] ∷ actions.Close 0 [] ∷ []

-- what a handshake may end: a connect that fails closes the connection, with its response's fault if that is why; so does an acceptance
-- whose stream the peer stopped
abbrev pub handshake_ends : History → Option Call → List Action
handshake_ends h (Some (calls.Connect options lookup outcome)) = actions.Close 0 [] ∷ fault_closes (response_fault (response_walk_of (contents h 0) (end_of (events h) 0)))
handshake_ends h (Some (calls.Accept headers)) = actions.Close 0x104 [] ∷ []
handshake_ends h (Some calls.Forbidden) = rejection_ends (last_request h)
handshake_ends h (Some calls.NotFound) = rejection_ends (last_request h)
handshake_ends h (Some calls.TooManyRequests) = rejection_ends (last_request h)
handshake_ends h _ = []

-- what a call may end by itself
abbrev pub call_ends : History → Call → List Action
call_ends h (calls.Connect options lookup outcome) = []
call_ends h calls.Handshake = handshake_ends h (last_begun h)
call_ends h (calls.StopRecv id code) = actions.StopOut id code ∷ []
call_ends h (calls.ResetSend id code) = actions.ResetOut id code ∷ []
call_ends h (calls.Finish id) = actions.Finish id ∷ []
call_ends h (calls.EndSession name) = finish_of (named h name)
call_ends h (calls.Close code reason) = actions.Close code reason ∷ []
call_ends h (calls.EndpointClose code reason) = actions.Close code reason ∷ []
call_ends h c = handshake_ends h (Some c)

-- ---- streams that are told

-- the action stops the stream with this code
abbrev pub stops_with : ℕ → ℕ → Action → Bool
stops_with k code (actions.StopOut id c) = id == k && c == code
stops_with k code _ = false

-- the action resets the stream with this code
abbrev pub resets_with : ℕ → ℕ → Action → Bool
resets_with k code (actions.ResetOut id c) = id == k && c == code
resets_with k code _ = false

-- the action ends the stream's sending half
abbrev pub ends_sending : ℕ → Action → Bool
ends_sending k (actions.Finish id) = id == k
ends_sending k (actions.ResetOut id code) = id == k
ends_sending k _ = false

-- Both halves of a stream that still run are told that the session is gone: a receiving half that neither end gave up so
-- far, and a sending half that is neither finished nor reset, unless the call itself ends it.
pub record StreamTold (side : Side) (h later : History) (owed : List Action) (a : Answer) (k : ℕ) : Type 0 where
  pub receiving : (can_receive side h k && is_running (end_of (events later) k) && not (is_given_up later k)) ≡ true → list_any (stops_with k 0x170d7b68) a.actions ≡ true
  pub sending : (can_send side h k && not (was_finished h k) && not (is_reset h k)) ≡ true
      → (list_any (resets_with k 0x170d7b68) a.actions || list_any (ends_sending k) owed) ≡ true

-- ---- the end of the connection and of sessions

-- the turn leaves the connection open, but for what is found at its moment
abbrev pub leaves_open : Side → History → Turn → Bool
leaves_open side h turn = is_open (with_pair h turn (own_answer side h turn))

abbrev pub OpenByOwn : Side → History → Turn → Answer → Type 0
OpenByOwn side h turn a =
    is_open (with_pair h turn a)
    ≡ (is_open h && not (loses turn) && not (list_any closes (own_answer side h turn).actions) && is_none (fault_of (findings side (with_pair h turn a))))

abbrev pub ErrorStays : Side → History → Turn → Answer → Type 0
ErrorStays side h turn a =
    (s : ℕ) → is_established h s ≡ true → (is_open h && is_living side h s) ≡ false
    → session_error side (with_pair h turn a) s ≡ session_error side h s

abbrev pub GoneByOwn : Side → History → Turn → Answer → Type 0
GoneByOwn side h turn a =
    (s k : ℕ) → is_open h ≡ true → (leaves_open side h turn || is_number s (gone_in h turn a.reply)) ≡ true
    → is_gone h (findings side h) s ≡ false → is_gone (with_pair h turn a) (findings side (with_pair h turn a)) s ≡ true
    → is_of_session h (until_gone s (findings side (with_pair h turn a))) s k ≡ true → StreamTold side h (with_pair h turn a) (own_answer side h turn).actions a k

abbrev pub SettingsByOwn : Side → History → Turn → Answer → Type 0
SettingsByOwn side h turn a =
    leaves_open side h turn ≡ true → nat_le 1 (unis_allowed (events (with_pair h turn a))) ≡ true → SettingsOut side (with_pair h turn a)

-- ---- what is accepted

-- the reply to a write says how much it accepts
abbrev pub says_accepted : Reply → Bool
says_accepted (replies.Written n) = true
says_accepted (replies.Count n) = true
says_accepted replies.AllWritten = true
says_accepted _ = false

-- ---- heads

abbrev pub frame_of : Result Target ConnectingError → List ℕ
frame_of (Err e) = []
frame_of (Ok t) = t.frame

abbrev pub head_of : Option Call → List ℕ
head_of (Some (calls.Connect options lookup outcome)) = frame_of (target_of (parse_url None options.0) options.1 lookup outcome)
head_of (Some (calls.Accept headers)) = acceptance_frame headers
head_of (Some calls.Forbidden) = response_bytes (codes "403")
head_of (Some calls.NotFound) = response_bytes (codes "404")
head_of (Some calls.TooManyRequests) = response_bytes (codes "429")
head_of _ = []

abbrev pub frame_or : Option Call → List ℕ → List ℕ
frame_or None header = header
frame_or (Some c) header = head_of (Some c)

abbrev pub head_on : Side → History → ℕ → List ℕ
head_on side h k =
    if k == local_uni side then control_bytes
    else frame_or (begun_on h k) (header_on h k (first_of (λ (p : Pair). opened_by k p.turn p.answer.reply) h))

pub record SendsByHead (side : Side) (h : History) (k : ℕ) : Type 0 where
  pub front : take (length (out h k)) (head_on side h k ++ accepted h k) ≡ out h k
  pub all : length (head_on side h k) ≤ length (out h k) → out h k ≡ head_on side h k ++ accepted h k

abbrev pub HeadByFrame : Side → History → Turn → Answer → Type 0
HeadByFrame side h turn a =
    (polls turn && is_pending a.reply && head_may_go side h) ≡ true
    → out (with_pair h turn a) (handshake_stream h) ≡ take (credit (events (with_pair h turn a)) (handshake_stream h)) (head_of (last_begun (with_pair h turn a)))

abbrev pub HeaderByHead : Side → History → ℕ → Answer → Type 0
HeaderByHead side h k a =
    (is_pending a.reply || hands_out k a.reply) ≡ true
    → out (with_pair h (turns.Call (calls.PollOpening k)) a) k
    ≡ take (credit (events (with_pair h (turns.Call (calls.PollOpening k)) a)) k) (head_on side (with_pair h (turns.Call (calls.PollOpening k)) a) k)

-- ---- reads

abbrev pub ReadsByWas : Side → History → Type 0
ReadsByWas side h = (k : ℕ) → take (length (was_read h k)) (drop (body_start (verdict_of (findings side h) k)) (contents h k)) ≡ was_read h k

-- ---- accepted streams

-- the stream is of this kind of the peer's, is given once, and was admitted with that session's header at its front
pub record AcceptedFor (side : Side) (h : History) (id kind s : ℕ) : Type 0 where
  pub peers : (id % 4 == kind) ≡ true
  pub once : is_handed_out h id ≡ false
  pub header : list_any (admits s id) (findings side h) ≡ true

-- a unidirectional stream that an accept gives is one of the session that the call names
abbrev pub UniAccepted : Side → History → Option ℕ → ℕ → Type 0
UniAccepted side h name id = (s : ℕ) × (named h name ≡ Some s) × AcceptedFor side h id (peer_uni side) s

-- so is a bidirectional stream
abbrev pub BiAccepted : Side → History → Option ℕ → ℕ → Type 0
BiAccepted side h name id = (s : ℕ) × (named h name ≡ Some s) × AcceptedFor side h id (peer_bi side) s
