-- The turns of one connection of an endpoint, and the answers to it (this repository's own).
use Rattle.std.specs.Prelude.{ℕ, ◌&&◌, ◌==◌, ◌++◌, ◌≡◌, ◌∷◌, Bool, List, [], false, if◌then◌else◌, true}
use Rattle.wt_meaning.specs.History.{History, is_open}
use Rattle.wt_meaning.specs.Meaning.{meaning, meaning_from}
use Rattle.wt_promise.specs.Lists.{history_of}
use Rattle.wt_promise.specs.Promise.{AllLawful}
use Rattle.wt_turn.specs.declared.answer.Answer.{Answer}
use Rattle.wt_turn.specs.declared.turn.Turn.{Turn}
use Rattle.wt_turn.specs.declared.turn.Turn.TheVariants as turns
use Rattle.wt_wire.specs.declared.side.Side.{Side}
use Rattle.wt_endpoint.specs.Endpoints.{EndpointHistory, closing, connection_history, endpoint_after, endpoint_history, has_begun, no_connections}
use Rattle.wt_endpoint.specs.declared.turn.EndpointReply.{EndpointReply}
use Rattle.wt_endpoint.specs.declared.turn.EndpointReply.TheVariants as replies
use Rattle.wt_endpoint.specs.declared.turn.EndpointTurn.{EndpointTurn}
use Rattle.wt_endpoint.specs.declared.turn.EndpointTurn.TheVariants as events

-- ---- turns

-- the turn of this connection that a turn of the endpoint is: its own, or that it is closed where the endpoint is and it has
-- begun and is open
abbrev pub own_turn : EndpointHistory → ℕ → EndpointTurn → List Turn
own_turn e n (events.Connection m turn) = if n == m then turn ∷ [] else []
own_turn e n (events.Close code reason) = if has_begun e n && is_open (connection_history e n) then closing code reason ∷ [] else []
own_turn e n _ = []

-- the turns of this connection from there on
abbrev pub own_turns_from : Side → EndpointHistory → ℕ → List EndpointTurn → List Turn
own_turns_from side e n [] = []
own_turns_from side e n (turn ∷ later) = own_turn e n turn ++ own_turns_from side (endpoint_after side e turn) n later

-- the turns of this connection
abbrev pub own_turns : Side → ℕ → List EndpointTurn → List Turn
own_turns side n all = own_turns_from side no_connections n all

-- the history to which the turns of this connection lead, when they come alone
abbrev pub own_history : Side → ℕ → List EndpointTurn → History
own_history side n all = history_of side [] (own_turns side n all)

-- the first of these turns establishes the connection
abbrev pub begin_established : List Turn → Bool
begin_established (turns.Connected uni bi credit datagrams ∷ later) = true
begin_established _ = false

-- ---- answers

-- the answers that have this number
abbrev pub of_number : ℕ → List (ℕ × Answer) → List Answer
of_number n [] = []
of_number n (x ∷ later) = if n == x.0 then x.1 ∷ of_number n later else of_number n later

-- the answer to this connection that the reply to a turn of the endpoint is
abbrev pub own_answer : ℕ → EndpointTurn → EndpointReply → List Answer
own_answer n (events.Connection m turn) (replies.Turn answer) = if n == m then answer ∷ [] else []
own_answer n (events.Close code reason) (replies.Closed closings) = of_number n closings
own_answer n _ _ = []

-- the answers to this connection
abbrev pub own_answers : ℕ → List EndpointTurn → List EndpointReply → List Answer
own_answers n (turn ∷ later) (reply ∷ more) = own_answer n turn reply ++ own_answers n later more
own_answers n _ _ = []

-- ---- connections are apart

-- The replies give each connection what its own turns mean, and those turns are lawful by themselves.
abbrev pub AreApart : Side → List EndpointTurn → List EndpointReply → Type 0
AreApart side all given =
    (n : ℕ) → (own_answers n all given ≡ meaning side (own_turns side n all)) × AllLawful side [] (own_turns side n all)

-- As the endpoint closes after these turns, each connection's answer is that to the close after its own turns alone, and one that
-- hasn't begun or isn't open has none.
abbrev pub ClosedApart : Side → List EndpointTurn → ℕ → List ℕ → List (ℕ × Answer) → Type 0
ClosedApart side all code reason given =
    (n : ℕ) → of_number n given ≡ meaning_from side (own_history side n all) (own_turn (endpoint_history side all) n (events.Close code reason))
