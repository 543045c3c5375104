-- What happened to a relay: the turns of its endpoint, and the streams that it copied (this repository's own).
use Rattle.std.specs.Prelude.{ℕ, ◌&&◌, ◌==◌, ◌++◌, ◌∷◌, Bool, List, None, Option, Some, [], codes, drop, false, filter, filter_map, flat_map, if◌then◌else◌, map, nat_lt, not, suc}
use Rattle.std.specs.List.{list_any}
use Rattle.std.specs.Str.{bytes_eq}
use Rattle.wt_endpoint.specs.Endpoints.{EndpointHistory, connection_history, no_connections}
use Rattle.wt_endpoint.specs.declared.turn.EndpointTurn.{EndpointTurn}
use Rattle.wt_meaning.specs.Calls.{is_living, opened_by}
use Rattle.wt_meaning.specs.Findings.{first_of, verdict_of}
use Rattle.wt_meaning.specs.Halves.{body_start}
use Rattle.wt_meaning.specs.History.{History, Pair, contents}
use Rattle.wt_meaning.specs.Moments.{findings}
use Rattle.wt_wire.specs.HeaderList.{value_of}
use Rattle.wt_turn.specs.declared.answer.Answer.{Answer}
use Rattle.wt_turn.specs.declared.call.Call.TheVariants as calls
use Rattle.wt_turn.specs.declared.reply.Reply.{Reply}
use Rattle.wt_turn.specs.declared.reply.Reply.TheVariants as replies
use Rattle.wt_turn.specs.declared.turn.Turn.{Turn}
use Rattle.wt_turn.specs.declared.turn.Turn.TheVariants as turns
use Rattle.wt_wire.specs.declared.side.Side.TheVariants.{Server}
use Rattle.wt_relay.specs.declared.source.Progress.{Progress}

-- ---- sources

-- a copy of a source: its connection's number, its stream, and how far it is
pub record CopyNow : Type 0 where
  pub number : ℕ
  pub id : ℕ
  pub progress : Progress

-- a stream that a session gave: the other sessions of the room that were asked as it was accepted, each by its connection's number and its
-- id; its copies, in the order of opening; what was read of it last; and whether it is asked no more
pub record SourceNow : Type 0 where
  pub number : ℕ
  pub id : ℕ
  pub others : List (ℕ × ℕ)
  pub copies : List CopyNow
  pub piece : List ℕ
  pub over : Bool

-- the turns of a relay's endpoint, its connections' histories, the sources in the order of acceptance, and what was told
pub record RelayNow : Type 0 where
  pub turns : List EndpointTurn
  pub endpoint : EndpointHistory
  pub sources : List SourceNow
  pub told : List (ℕ × Answer)

-- before the first turn
abbrev pub no_relay : RelayNow
no_relay = record { turns = []; endpoint = no_connections; sources = []; told = [] }

-- the history of the connection with this number
abbrev pub history : RelayNow → ℕ → History
history r n = connection_history r.endpoint n

-- ---- rooms

-- the path of the request that the reply gives for the session (RFC 9114, section 4.3.1)
abbrev pub requested_path : ℕ → Reply → Option (List ℕ)
requested_path s (replies.Request id headers) = if id == s then value_of (codes ":path") headers else None
requested_path s _ = None

-- the room of a session: the path of its request
abbrev pub room_of : History → ℕ → Option (List ℕ)
room_of h s = first_of (λ (p : Pair). requested_path s p.answer.reply) h

-- both are rooms, and the same
abbrev pub is_room : Option (List ℕ) → Option (List ℕ) → Bool
is_room (Some first) (Some second) = bytes_eq first second
is_room _ _ = false

-- the session that the reply establishes
abbrev pub session_by : Reply → Option ℕ
session_by (replies.Session s) = Some s
session_by _ = None

-- the pair is an AcceptUni of the session that failed
abbrev pub fails_accept : ℕ → Turn → Reply → Bool
fails_accept s (turns.Call (calls.AcceptUni (Some t))) (replies.Failed e) = s == t
fails_accept s _ _ = false

-- the session lives, and no AcceptUni of it failed
abbrev pub is_asked : History → ℕ → Bool
is_asked h s = is_living Server h s && not (list_any (λ (p : Pair). fails_accept s p.turn p.answer.reply) h)

-- a number among numbers in their order
abbrev pub insert_in_order : ℕ → List ℕ → List ℕ
insert_in_order n [] = n ∷ []
insert_in_order n (m ∷ ms) = if nat_lt m n then m ∷ insert_in_order n ms else n ∷ m ∷ ms

abbrev pub in_order : List ℕ → List ℕ
in_order [] = []
in_order (n ∷ ns) = insert_in_order n (in_order ns)

-- the sessions of a connection that are asked, by their ids
abbrev pub asked_sessions : History → List ℕ
asked_sessions h = filter (is_asked h) (in_order (filter_map (λ (p : Pair). session_by p.answer.reply) h))

-- the sessions that are asked, by connection and id; the first history has this number
abbrev pub members_from : ℕ → List History → List (ℕ × ℕ)
members_from n [] = []
members_from n (h ∷ hs) = map (λ s. (n, s)) (asked_sessions h) ++ members_from (suc n) hs

abbrev pub members : RelayNow → List (ℕ × ℕ)
members r = members_from 0 r.endpoint.histories

-- both are one session of one connection
abbrev pub is_member : (ℕ × ℕ) → (ℕ × ℕ) → Bool
is_member a b = a.0 == b.0 && a.1 == b.1

-- two different sessions of one room
abbrev pub share_room : RelayNow → (ℕ × ℕ) → (ℕ × ℕ) → Bool
share_room r a b = not (is_member a b) && is_room (room_of (history r a.0) a.1) (room_of (history r b.0) b.1)

-- the other sessions of the session's room that are asked
abbrev pub others_of : RelayNow → ℕ × ℕ → List (ℕ × ℕ)
others_of r m = filter (share_room r m) (members r)

-- ---- streams

-- the session whose AcceptUni gave the stream
abbrev pub given_by : ℕ → Turn → Reply → Option ℕ
given_by k (turns.Call (calls.AcceptUni name)) (replies.Uni id) = if id == k then name else None
given_by k _ _ = None

abbrev pub given_for : History → ℕ → Option ℕ
given_for h k = first_of (λ (p : Pair). given_by k p.turn p.answer.reply) h

-- the session on which the stream was opened
abbrev pub opened_for : History → ℕ → Option (Option ℕ)
opened_for h k = first_of (λ (p : Pair). opened_by k p.turn p.answer.reply) h

-- what arrived on a stream after its header
abbrev pub body : History → ℕ → List ℕ
body h k = drop (body_start (verdict_of (findings Server h) k)) (contents h k)

-- a source's stream, and the stream of each of its copies
abbrev pub copies_with : SourceNow → List ((ℕ × ℕ) × (ℕ × ℕ))
copies_with source = map (λ (c : CopyNow). ((source.number, source.id), (c.number, c.id))) source.copies

-- each copy that was ever opened, after its source
abbrev pub copies_of : RelayNow → List ((ℕ × ℕ) × (ℕ × ℕ))
copies_of r = flat_map copies_with r.sources
