-- Rule 4: on each stream that a reply handed out, what reads gave, joined, is a prefix of what follows the header; a read says that the stream
-- ended only once its end came and all was given, and that it was reset only once that reset came: a Read with all given, a ReadExact also
-- with less left than it asks for (RFC 9000, sections 2.2 and 3.2).
-- A reply counts by what it gives; wt_meaning's `was_read` asks that it is one of its call's.
use Rattle.std.specs.Prelude.{[], ◌&&◌, ◌++◌, ◌==◌, ◌∷◌, Bool, List, None, Option, Some, false, filter_map, if◌then◌else◌, length, true, ℕ}
use Rattle.std.specs.List.{list_all}
use Rattle.wt_check.specs.Records.{body, is_prefix}
use Rattle.wt_meaning.specs.Halves.{is_fin}
use Rattle.wt_meaning.specs.History.{History, Pair, events}
use Rattle.wt_meaning.specs.Windows.{is_number}
use Rattle.wt_turn.specs.Reports.{end_of}
use Rattle.wt_turn.specs.declared.reply.Reply.{Reply}
use Rattle.wt_turn.specs.declared.turn.Turn.{Turn}
use Rattle.wt_wire.specs.declared.side.Side.{Side}
use Rattle.wt_wire.specs.declared.side.StreamEnd.{StreamEnd}
use Rattle.wt_turn.specs.declared.call.Call.TheVariants as calls
use Rattle.wt_turn.specs.declared.reply.Reply.TheVariants as replies
use Rattle.wt_turn.specs.declared.stream_error.StreamReadError.TheVariants as reads
use Rattle.wt_turn.specs.declared.stream_error.StreamReadExactError.TheVariants as exacts
use Rattle.wt_turn.specs.declared.turn.Turn.TheVariants as turns
use Rattle.wt_wire.specs.declared.side.StreamEnd.TheVariants as ends

-- the stream that the turn reads
abbrev pub read_in : Turn → Option ℕ
read_in (turns.Call (calls.Read id size)) = Some id
read_in (turns.Call (calls.ReadExact id size)) = Some id
read_in _ = None

-- the bytes that the reply to a read gives
abbrev pub piece_in : Reply → List ℕ
piece_in (replies.Read (Some piece)) = piece
piece_in (replies.Exact piece) = piece
piece_in (replies.ExactFailed (exacts.FinishedEarly n) piece) = piece
piece_in _ = []

-- all that reads of the stream gave, joined
abbrev pub given : History → ℕ → List ℕ
given [] k = []
given (p ∷ h) k = given h k ++ (if is_number k (read_in p.turn) then piece_in p.answer.reply else [])

-- it was reset with this code
abbrev pub is_reset_with : ℕ → StreamEnd → Bool
is_reset_with code (ends.Reset c) = c == code
is_reset_with code _ = false

-- the end that the reply tells, where it tells one, is the stream's, and all was given where it has to be
abbrev pub tells_rightly : StreamEnd → Bool → Reply → Bool
tells_rightly end all (replies.Read None) = is_fin end && all
tells_rightly end all (replies.ReadFailed (reads.Reset code)) = is_reset_with code end && all
tells_rightly end all (replies.ExactFailed (exacts.Read (reads.Reset code)) piece) = is_reset_with code end
tells_rightly end all _ = true

-- so does each reply to a read of the stream
abbrev pub ends_hold : Side → History → ℕ → Bool
ends_hold side [] k = true
ends_hold side (p ∷ h) k =
    ends_hold side h k
    && (if is_number k (read_in p.turn) then tells_rightly (end_of (events h) k) (length (given h k) == length (body side h k)) p.answer.reply else true)

-- the rule on one stream
abbrev pub reads_hold : Side → History → ℕ → Bool
reads_hold side h k = is_prefix (given h k) (body side h k) && ends_hold side h k

-- the stream that the pair's reply hands out
abbrev pub handed_in : Reply → Option ℕ
handed_in (replies.Uni id) = Some id
handed_in (replies.Bi id) = Some id
handed_in (replies.SendReady id) = Some id
handed_in (replies.BiReady id) = Some id
handed_in _ = None

-- rule 4: of each stream that was handed out, reads before that too
abbrev pub reads_rightly : Side → History → Pair → Bool
reads_rightly side h p = list_all (reads_hold side (p ∷ h)) (filter_map (λ (q : Pair). handed_in q.answer.reply) (p ∷ h))
