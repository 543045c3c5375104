-- Rule 6: what went out on a stream that was opened for the application, or on a bidirectional one that it accepted, is a prefix of the stream's
-- header, where this side opened it, followed by what writes accepted (RFC 9000, section 2.2; draft-ietf-webtrans-http3, sections 4.2 and 4.3).
-- A reply counts by what it accepts, whichever kind of write it answers.
use Rattle.std.specs.Prelude.{[], ◌&&◌, ◌++◌, ◌==◌, ◌∷◌, Bool, List, None, Option, Some, filter_map, if◌then◌else◌, is_some, take, ℕ}
use Rattle.std.specs.List.{list_all}
use Rattle.wt_check.specs.Records.{is_local, is_prefix, names}
use Rattle.wt_meaning.specs.Calls.{opened_by, stream_header}
use Rattle.wt_meaning.specs.History.{History, Pair, out}
use Rattle.wt_turn.specs.declared.reply.Reply.{Reply}
use Rattle.wt_turn.specs.declared.turn.Turn.{Turn}
use Rattle.wt_wire.specs.Ids.{is_bidirectional}
use Rattle.wt_wire.specs.declared.side.Side.{Side}
use Rattle.wt_turn.specs.declared.call.Call.TheVariants as calls
use Rattle.wt_turn.specs.declared.reply.Reply.TheVariants as replies
use Rattle.wt_turn.specs.declared.turn.Turn.TheVariants as turns

-- the session for which the stream was opened, by the last opening of that id that names one
abbrev pub session_of : History → ℕ → Option ℕ
session_of [] k = None
session_of (p ∷ h) k = if is_some (opened_by k p.turn p.answer.reply) && is_some (names h p.turn) then names h p.turn else session_of h k

-- the header of a session's stream
abbrev pub header_of : ℕ → Option ℕ → List ℕ
header_of k None = []
header_of k (Some s) = stream_header k s

-- what stands in front: the header, on a stream that this side opened
abbrev pub head : Side → History → ℕ → List ℕ
head side h k = if is_local side k then header_of k (session_of h k) else []

-- of the bytes of a write, those that the reply accepts
abbrev pub part_of : Reply → List ℕ → List ℕ
part_of (replies.Written n) bytes = take n bytes
part_of (replies.Count n) bytes = take n bytes
part_of replies.AllWritten bytes = bytes
part_of _ bytes = []

-- of the turn's bytes for the stream, those that the reply accepts
abbrev pub accepted_by : ℕ → Turn → Reply → List ℕ
accepted_by k (turns.Call (calls.Write id bytes)) reply = if id == k then part_of reply bytes else []
accepted_by k (turns.Call (calls.WriteAll id bytes)) reply = if id == k then part_of reply bytes else []
accepted_by k _ reply = []

-- all that writes of the stream accepted, joined
abbrev pub accepted : History → ℕ → List ℕ
accepted [] k = []
accepted (p ∷ h) k = accepted h k ++ accepted_by k p.turn p.answer.reply

-- the rule on one stream
abbrev pub sends_hold : Side → History → ℕ → Bool
sends_hold side h k = is_prefix (out h k) (head side h k ++ accepted h k)

-- the stream on which the rule stands from this reply on
abbrev pub watched_in : Reply → Option ℕ
watched_in (replies.Uni id) = if is_bidirectional id then Some id else None
watched_in (replies.Bi id) = Some id
watched_in (replies.SendReady id) = Some id
watched_in (replies.BiReady id) = Some id
watched_in _ = None

-- rule 6
abbrev pub sends_rightly : Side → History → Pair → Bool
sends_rightly side h p = list_all (sends_hold side (p ∷ h)) (filter_map (λ (q : Pair). watched_in q.answer.reply) (p ∷ h))
