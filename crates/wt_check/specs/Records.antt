-- What the six rules ask of a record: the pairs so far, the newest first, as wt_meaning's history, with each piece as it came. So what a turn
-- of the transport brought counts whole, also where its own answer has the first close; what comes after that answer counts for rule 1 alone.
use Rattle.std.specs.Prelude.{[], ◌%◌, ◌==◌, ◌∷◌, ◌||◌, Bool, List, None, Option, Some, bytes_eq, drop, if◌then◌else◌, length, take, ℕ}
use Rattle.wt_meaning.specs.History.{History, Pair, contents}
use Rattle.wt_meaning.specs.Meaning.{meaning}
use Rattle.wt_meaning.specs.Moments.{verdict}
use Rattle.wt_meaning.specs.Windows.{first_session}
use Rattle.wt_proto.specs.declared.verdict.Verdict.{Verdict}
use Rattle.wt_turn.specs.Streams.{local_bi, local_uni}
use Rattle.wt_turn.specs.declared.answer.Answer.{Answer}
use Rattle.wt_turn.specs.declared.turn.Turn.{Turn}
use Rattle.wt_wire.specs.declared.side.Side.{Side}
use Rattle.wt_proto.specs.declared.verdict.Verdict.TheVariants as verdicts
use Rattle.wt_turn.specs.declared.call.Call.TheVariants as calls
use Rattle.wt_turn.specs.declared.turn.Turn.TheVariants as turns

-- a recorded session: one side's turns with their answers, the oldest first
pub record Record : Type 0 where
  pub side : Side
  pub pairs : List Pair

-- pairs, as the code has them
abbrev pub pairs_of : List (Turn × Answer) → List Pair
pairs_of [] = []
pairs_of (p ∷ later) = record { turn = p.0; answer = p.1 } ∷ pairs_of later

-- turns with their answers
abbrev pub paired : List Turn → List Answer → List Pair
paired [] answers = []
paired (turn ∷ later) [] = []
paired (turn ∷ later) (a ∷ answers) = record { turn = turn; answer = a } ∷ paired later answers

-- the record of these turns, each with the answer that it means
abbrev pub recorded : Side → List Turn → Record
recorded side all = record { side = side; pairs = paired all (meaning side all) }

-- the first bytes stand in front of the second
abbrev pub is_prefix : List ℕ → List ℕ → Bool
is_prefix xs ys = bytes_eq (take (length xs) ys) xs

-- the id is of a kind that this side opens (RFC 9000, section 2.1)
abbrev pub is_local : Side → ℕ → Bool
is_local side k = k % 4 == local_uni side || k % 4 == local_bi side

-- ---- the session that a call names

-- the session in a call, where it has that field
abbrev pub field_of : Turn → Option (Option ℕ)
field_of (turns.Call (calls.AcceptUni name)) = Some name
field_of (turns.Call (calls.AcceptBi name)) = Some name
field_of (turns.Call (calls.ReceiveDatagram name)) = Some name
field_of (turns.Call (calls.OpenUni name)) = Some name
field_of (turns.Call (calls.OpenBi name)) = Some name
field_of (turns.Call (calls.SendDatagram payload name)) = Some name
field_of (turns.Call (calls.EndSession name)) = Some name
field_of (turns.Call (calls.MaxDatagramSize name)) = Some name
field_of (turns.Call (calls.SessionId name)) = Some name
field_of _ = None

-- the session that the field names; none in it means the first that was established
abbrev pub named_of : Option ℕ → Option (Option ℕ) → Option ℕ
named_of first None = None
named_of first (Some None) = first
named_of first (Some (Some s)) = Some s

-- The session that the turn names. wt_meaning's `named` asks that it is established; a record's sessions are what is judged, so here that isn't asked.
abbrev pub names : History → Turn → Option ℕ
names h turn = named_of (first_session h) (field_of turn)

-- ---- what may be read

-- the bytes behind a session's header (draft-ietf-webtrans-http3, sections 4.2 and 4.3)
abbrev pub behind : Verdict → List ℕ → List ℕ
behind (verdicts.WebTransport session offset) bytes = drop offset bytes
behind _ bytes = []

-- all that came for a stream that this side opened, of the peer's what follows a session's header
abbrev pub body : Side → History → ℕ → List ℕ
body side h k = if is_local side k then contents h k else behind (verdict h k) (contents h k)
