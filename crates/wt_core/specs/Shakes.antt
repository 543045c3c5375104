-- The handshake that goes on, as a value, and that it is where the log's is.
use Rattle.std.specs.Prelude.{◌≡◌, Bool, Err, Ok, Result, codes, false, not, true, ℕ}
use Rattle.wt_meaning.specs.Lawful.{is_client}
use Rattle.wt_message.specs.FixedBytes.{response_bytes}
use Rattle.wt_core.specs.declared.handshake.Stage.{Stage}
use Rattle.wt_core.specs.declared.handshake.Stage.TheVariants as shakes
use Rattle.wt_core.specs.declared.handshake.Outcome.{Outcome}
use Rattle.wt_core.specs.declared.handshake.Outcome.TheVariants as outcomes
use Rattle.wt_session.specs.Handshakes.{Connect, HasAcceptance, HasConnect, HasRejection, HasRequest, Rejection, Response, new_rejection, new_response}
use Rattle.wt_session.specs.Replies.{Request, beginning_reply, incoming_reply, rejecting_reply}
use Rattle.wt_sessions.specs.Handshake.{HandshakeState, awaits_answer, awaits_request, handshake_state, is_continuable, response_head}
use Rattle.wt_turn.specs.Log.{Log, calls_of}
use Rattle.wt_turn.specs.declared.call.Call.{Call}
use Rattle.wt_turn.specs.declared.call.Call.TheVariants as calls
use Rattle.wt_turn.specs.declared.connecting_error.ConnectingError.{ConnectingError}
use Rattle.wt_turn.specs.declared.connection_error.ConnectionError.{ConnectionError}
use Rattle.wt_turn.specs.declared.poll.Poll.{Poll}
use Rattle.wt_turn.specs.declared.poll.Poll.TheVariants.{Pending, Ready}
use Rattle.wt_turn.specs.declared.reply.Reply.{Reply}
use Rattle.wt_turn.specs.declared.reply.Reply.TheVariants as replies
use Rattle.wt_wire.specs.declared.side.Side.{Side}
use Rattle.wt_wire.specs.declared.side.Side.TheVariants.{Client, Server}

-- a server asks for a request; the request that was given isn't answered; it is accepted, or rejected; a client's connect goes on; or
-- none of these
pub data Shake : Type 0 where
  Incoming : Shake
  Requested : (request : Request) → Shake
  Accepting : (response : Response) → Shake
  Rejecting : (rejection : Rejection) → Shake
  Connecting : (connect : Connect) → Shake
  Idle : Shake

-- the value of a handshake
abbrev pub shake_as : Stage → Shake
shake_as (shakes.Incoming future) = Incoming
shake_as (shakes.Requested request) = Requested request
shake_as (shakes.Accepting accepting) = Accepting accepting
shake_as (shakes.Rejecting rejecting) = Rejecting rejecting
shake_as (shakes.Connecting connecting) = Connecting connecting
shake_as shakes.Idle = Idle

-- no handshake goes on, and a server gets no request any more
pub record IsIdle (side : Side) (state : HandshakeState) : Type 0 where
  pub unasked : awaits_answer state ≡ false
  pub ended : is_continuable state ≡ false
  pub over : is_client side ≡ false → awaits_request state ≡ false

-- the handshake is where the log's is
abbrev pub ShakeIs : Side → Log → Shake → Type 0
ShakeIs side log Incoming = (is_client side ≡ false) × (awaits_request (handshake_state (calls_of log)) ≡ true)
ShakeIs side log (Requested request) = (is_client side ≡ false) × HasRequest request.id side log
ShakeIs side log (Accepting response) = (is_client side ≡ false) × HasAcceptance response calls.Handshake side log
ShakeIs side log (Rejecting rejection) = (is_client side ≡ false) × HasRejection rejection calls.Handshake side log
ShakeIs side log (Connecting connect) = HasConnect connect side log
ShakeIs side log Idle = IsIdle side (handshake_state (calls_of log))

-- the call may come, by whether something happened and by the handshake
abbrev pub may_come : Bool → Shake → Call → Bool
may_come first Idle (calls.Connect options lookup outcome) = first
may_come first Incoming calls.Incoming = not first
may_come first (Requested request) (calls.Accept headers) = true
may_come first (Requested request) calls.Forbidden = true
may_come first (Requested request) calls.NotFound = true
may_come first (Requested request) calls.TooManyRequests = true
may_come first (Accepting response) calls.Handshake = true
may_come first (Rejecting rejection) calls.Handshake = true
may_come first (Connecting connect) calls.Handshake = true
may_come first shake (calls.Connect options lookup outcome) = false
may_come first shake calls.Incoming = false
may_come first shake (calls.Accept headers) = false
may_come first shake calls.Forbidden = false
may_come first shake calls.NotFound = false
may_come first shake calls.TooManyRequests = false
may_come first shake calls.Handshake = false
may_come first shake call = not first

-- the reply that an outcome stands for
abbrev pub outcome_reply : Outcome → Reply
outcome_reply (outcomes.Reply reply) = reply
outcome_reply (outcomes.Session session) = replies.Session session

-- ---- what answers are, and what they make of a handshake

-- a connect that began, or failed
abbrev pub begun_outcome : {T : Type 0} → Result T ConnectingError → Outcome
begun_outcome answer = outcomes.Reply (beginning_reply answer)

-- a poll of a connect
abbrev pub connected_outcome : Poll (Result ℕ ConnectingError) → Outcome
connected_outcome Pending = outcomes.Reply replies.Pending
connected_outcome (Ready (Ok session)) = outcomes.Session session
connected_outcome (Ready (Err e)) = outcomes.Reply (replies.ConnectFailed e)

-- a call for a request
abbrev pub asked_outcome : Poll (Result Request ConnectionError) → Outcome
asked_outcome answer = outcomes.Reply (incoming_reply answer)

-- a poll of an acceptance
abbrev pub accepted_outcome : Poll (Result ℕ ConnectionError) → Outcome
accepted_outcome Pending = outcomes.Reply replies.Pending
accepted_outcome (Ready (Ok session)) = outcomes.Session session
accepted_outcome (Ready (Err e)) = outcomes.Reply (replies.Failed e)

-- a poll of a rejection
abbrev pub rejected_outcome : Poll (Unit {0}) → Outcome
rejected_outcome answer = outcomes.Reply (rejecting_reply answer)

-- before the first turn a server asks for a request
abbrev pub first_shake : Side → Shake
first_shake Client = Idle
first_shake Server = Incoming

-- a connect began, or failed
abbrev pub begun_shake : Result Connect ConnectingError → Shake → Shake
begun_shake (Ok connect) shake = Connecting connect
begun_shake (Err e) shake = shake

-- a connect goes on, or is over
abbrev pub connected_shake : {T E : Type 0} → Poll (Result T E) → Shake → Shake
connected_shake Pending shake = shake
connected_shake (Ready answer) shake = Idle

-- a request is given, or none comes any more
abbrev pub asked_shake : Poll (Result Request ConnectionError) → Shake → Shake
asked_shake Pending shake = shake
asked_shake (Ready (Ok request)) shake = Requested request
asked_shake (Ready (Err e)) shake = Idle

-- an acceptance goes on, or is over
abbrev pub accepted_shake : {T E : Type 0} → Poll (Result T E) → Shake → Shake
accepted_shake Pending shake = shake
accepted_shake (Ready answer) shake = Incoming

-- a rejection goes on, or is over
abbrev pub rejected_shake : Poll (Unit {0}) → Shake → Shake
rejected_shake Pending shake = shake
rejected_shake (Ready u) shake = Incoming

-- the response begins
abbrev pub responding_shake : Shake → Call → Shake
responding_shake (Requested request) (calls.Accept headers) = Accepting (new_response request.id (response_head (codes "200") headers))
responding_shake (Requested request) calls.Forbidden = Rejecting (new_rejection request.id (response_bytes (codes "403")))
responding_shake (Requested request) calls.NotFound = Rejecting (new_rejection request.id (response_bytes (codes "404")))
responding_shake (Requested request) calls.TooManyRequests = Rejecting (new_rejection request.id (response_bytes (codes "429")))
responding_shake shake call = shake

-- the handshake's next poll is this call: its first answers a request, each later one goes on
abbrev pub PollsBy : Shake → Call → Side → Log → Type 0
PollsBy (Accepting response) call side log = (is_client side ≡ false) × HasAcceptance response call side log
PollsBy (Rejecting rejection) call side log = (is_client side ≡ false) × HasRejection rejection call side log
PollsBy (Connecting connect) call side log = HasConnect connect side log × (call ≡ calls.Handshake)
PollsBy _ call side log = ⊥
