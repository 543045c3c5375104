-- What the check keeps of datagrams: by session, the payloads behind the last that was received.
use Rattle.std.specs.Prelude.{[], ◌++◌, ◌==◌, ◌≡◌, ◌∷◌, Bool, List, None, Option, Some, bytes_eq, if◌then◌else◌, is_some, true, unwrap_or, ℕ}
use Rattle.wt_check.specs.ById.{value_at}
use Rattle.wt_check.specs.Datagrams.{is_subsequence, received}
use Rattle.wt_meaning.specs.History.{History}
use Rattle.wt_message.specs.Datagram.{datagram_of}
use Rattle.wt_promise.specs.Found.{said_by}
use Rattle.wt_promise.specs.Sides.{arrived}
use Rattle.wt_turn.specs.declared.reply.Reply.{Reply}
use Rattle.wt_turn.specs.declared.reply.Reply.TheVariants as replies
use Rattle.wt_turn.specs.declared.turn.Turn.{Turn}
use Rattle.wt_turn.specs.declared.turn.Turn.TheVariants as turns

-- the payloads of a session
abbrev pub payloads_of : List (ℕ × List (List ℕ)) → ℕ → List (List ℕ)
payloads_of left s = unwrap_or (value_at left s) []

-- the payloads behind the first that is this one
abbrev pub behind : List ℕ → List (List ℕ) → Option (List (List ℕ))
behind x [] = None
behind x (y ∷ ys) = if bytes_eq x y then Some ys else behind x ys

-- the same, nothing where there is none
abbrev pub rest_behind : List ℕ → List (List ℕ) → List (List ℕ)
rest_behind x ys = unwrap_or (behind x ys) []

-- the payload, where the datagram is one of the session
abbrev pub of_session : ℕ → Option (ℕ × List ℕ) → List (List ℕ)
of_session s None = []
of_session s (Some d) = if d.0 == s then d.1 ∷ [] else []

-- what the datagram brings to the session
abbrev pub came_for : ℕ → List ℕ → List (List ℕ)
came_for s piece = of_session s (said_by (datagram_of piece))

-- what a turn brings to the session while the connection is open
abbrev pub arriving : ℕ → Bool → Turn → List (List ℕ)
arriving s true (turns.Datagram piece) = came_for s piece
arriving s b turn = []

-- the session and the payload that a reply gives it
abbrev pub received_by : Option ℕ → Reply → Option (ℕ × List ℕ)
received_by (Some s) (replies.Datagram payload) = Some (s, payload)
received_by name reply = None

-- the payload, where one is received, came behind the last that was
abbrev pub was_there : Option (ℕ × List ℕ) → List (ℕ × List (List ℕ)) → Bool
was_there None left = true
was_there (Some d) left = is_some (behind d.1 (payloads_of left d.0))

-- the payloads of a session once that is received
abbrev pub left_after : Option (ℕ × List ℕ) → List (ℕ × List (List ℕ)) → ℕ → List (List ℕ)
left_after None left k = payloads_of left k
left_after (Some d) left k = if k == d.0 then rest_behind d.1 (payloads_of left d.0) else payloads_of left k

-- the payloads that are kept are those of which more can still be received, whatever comes
abbrev pub DatagramsFollow : List (ℕ × List (List ℕ)) → History → Type 0
DatagramsFollow left h =
    (s : ℕ) (later more : List (List ℕ)) → is_subsequence (received h s ++ later) (arrived h s ++ more) ≡ is_subsequence later (payloads_of left s ++ more)
