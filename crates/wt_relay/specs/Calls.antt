-- What a relay calls, and what it tells of the answers (this repository's own).
use Rattle.std.specs.Prelude.{ℕ, ◌&&◌, ◌==◌, ◌++◌, ◌≡◌, ◌∷◌, Bool, List, None, Option, Some, [], false, if◌then◌else◌, length, not, true}
use Rattle.wt_turn.specs.Turns.{is_call}
use Rattle.wt_turn.specs.declared.answer.Answer.{Answer}
use Rattle.wt_turn.specs.declared.call.Call.{Call}
use Rattle.wt_turn.specs.declared.call.Call.TheVariants as calls
use Rattle.wt_turn.specs.declared.reply.Reply.{Reply}
use Rattle.wt_turn.specs.declared.reply.Reply.TheVariants as replies
use Rattle.wt_turn.specs.declared.turn.Turn.{Turn}
use Rattle.wt_turn.specs.declared.turn.Turn.TheVariants as turns
use Rattle.wt_endpoint.specs.Connections.{ConnectionsState, StandsFor}
use Rattle.wt_endpoint.specs.Endpoints.{EndpointHistory, endpoint_after, endpoint_history, endpoint_reply, may_come_next}
use Rattle.wt_endpoint.specs.declared.turn.EndpointReply.{EndpointReply}
use Rattle.wt_endpoint.specs.declared.turn.EndpointReply.TheVariants as endpoint_replies
use Rattle.wt_endpoint.specs.declared.turn.EndpointTurn.{EndpointTurn}
use Rattle.wt_endpoint.specs.declared.turn.EndpointTurn.TheVariants as events
use Rattle.wt_wire.specs.declared.side.Side.TheVariants.{Server}

-- ---- what is told

-- the reply is Pending
abbrev pub is_pending : Reply → Bool
is_pending replies.Pending = true
is_pending _ = false

-- there is none
abbrev pub has_none : {A : Type 0} → List A → Bool
has_none xs = length xs == 0

-- nothing came of a call
abbrev pub is_idle : Answer → Bool
is_idle a = is_pending a.reply && has_none a.actions

-- an answer after its connection's number, where something came of it
abbrev pub told : ℕ → Answer → List (ℕ × Answer)
told n a = if is_idle a then [] else (n, a) ∷ []

-- what is told of the endpoint's reply to a turn
abbrev pub told_of : EndpointTurn → EndpointReply → List (ℕ × Answer)
told_of (events.Connection n turn) (endpoint_replies.Turn a) = told n a
told_of _ _ = []

-- what is told of the replies to these turns
abbrev pub told_from : EndpointHistory → List EndpointTurn → List (ℕ × Answer)
told_from e [] = []
told_from e (turn ∷ later) = told_of turn (endpoint_reply Server e turn) ++ told_from (endpoint_after Server e turn) later

-- ---- what is called

-- it is a session's name
abbrev pub is_named : Option ℕ → Bool
is_named (Some s) = true
is_named None = false

-- The calls that a relay makes: of the responses Accept alone, with no header; stops with the code 0; reads of at most 4,096 bytes.
abbrev pub is_relayed_call : Call → Bool
is_relayed_call calls.Incoming = true
is_relayed_call (calls.Accept headers) = has_none headers
is_relayed_call calls.Handshake = true
is_relayed_call (calls.AcceptUni name) = is_named name
is_relayed_call (calls.OpenUni name) = is_named name
is_relayed_call (calls.StopRecv id code) = code == 0
is_relayed_call (calls.PollOpening id) = true
is_relayed_call (calls.Read id size) = size == 4096
is_relayed_call (calls.Write id bytes) = true
is_relayed_call (calls.Finish id) = true
is_relayed_call (calls.ResetSend id code) = true
is_relayed_call _ = false

-- the turn is one of these calls
abbrev pub is_relayed : Turn → Bool
is_relayed (turns.Call c) = is_relayed_call c
is_relayed _ = false

-- the turn of the endpoint is one of these calls, or the accept of a new connection
abbrev pub is_followed : EndpointTurn → Bool
is_followed (events.Connection n turn) = is_relayed turn
is_followed events.Accept = true
is_followed _ = false

-- each of these turns is
abbrev pub all_followed : List EndpointTurn → Bool
all_followed [] = true
all_followed (turn ∷ later) = is_followed turn && all_followed later

-- ---- which turn is taken

-- it is a lawful transport turn of this connection
abbrev pub takes : EndpointHistory → ℕ → Turn → Bool
takes e n turn = not (is_call turn) && may_come_next Server e (events.Connection n turn)

-- What the relay's endpoint stands for after calls that follow these turns, and what is told of them.
pub record LeadsOn (all : List EndpointTurn) (k : ConnectionsState) (given later : List (ℕ × Answer)) : Type 0 where
  pub calls : List EndpointTurn
  pub stands : StandsFor Server k (all ++ calls)
  pub tells : later ≡ given ++ told_from (endpoint_history Server all) calls
  pub followed : all_followed calls ≡ true

-- After these turns this turn of this connection is taken: calls of the relay follow it, and what is answered is what is told of all of
-- them.
pub record Answers (all : List EndpointTurn) (n : ℕ) (turn : Turn) (k : ConnectionsState) (given : List (ℕ × Answer)) : Type 0 where
  pub calls : List EndpointTurn
  pub stands : StandsFor Server k (all ++ events.Connection n turn ∷ calls)
  pub tells : given ≡ told_from (endpoint_history Server all) (events.Connection n turn ∷ calls)
  pub followed : all_followed calls ≡ true
