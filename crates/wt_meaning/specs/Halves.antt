-- The rows of the calls on the halves of a stream that was handed out.
use Rattle.std.specs.Prelude.{[], ◌%◌, ◌&&◌, ◌+◌, ◌++◌, ◌==◌, ◌∷◌, ◌||◌, Bool, List, None, Option, Some, drop, false, if◌then◌else◌, is_some, length, nat_le, not, pos, take, true, unwrap_or, ℕ, ℤ}
use Rattle.wt_proto.specs.declared.verdict.Verdict.{Verdict}
use Rattle.wt_turn.specs.Reports.{end_of, is_acknowledged, stop_of}
use Rattle.wt_turn.specs.Streams.{local_uni, peer_uni}
use Rattle.wt_turn.specs.declared.reply.Reply.{Reply}
use Rattle.wt_turn.specs.declared.stream_error.StreamWriteError.{StreamWriteError}
use Rattle.wt_turn.specs.declared.turn.Turn.{Turn}
use Rattle.wt_wire.specs.declared.side.Side.{Side}
use Rattle.wt_wire.specs.declared.side.StreamEnd.{StreamEnd}
use Rattle.wt_meaning.specs.Findings.{first_of, verdict_of}
use Rattle.wt_meaning.specs.Handshakes.{is_nothing, send}
use Rattle.wt_meaning.specs.History.{History, Pair, contents, credit_left, events, is_given_up, is_handed_out, is_open, is_reset, was_finished}
use Rattle.wt_meaning.specs.Moments.{findings}
use Rattle.wt_meaning.specs.Rows.{Row, row, row_for}
use Rattle.wt_meaning.specs.Sends.{action_if}
use Rattle.wt_proto.specs.declared.verdict.Verdict.TheVariants as verdicts
use Rattle.wt_turn.specs.declared.action.Action.TheVariants as actions
use Rattle.wt_turn.specs.declared.call.Call.TheVariants as calls
use Rattle.wt_turn.specs.declared.reply.Reply.TheVariants as replies
use Rattle.wt_turn.specs.declared.stream_error.StreamReadError.TheVariants as reads
use Rattle.wt_turn.specs.declared.stream_error.StreamReadExactError.TheVariants as exacts
use Rattle.wt_turn.specs.declared.stream_error.StreamWriteError.TheVariants as writes
use Rattle.wt_turn.specs.declared.turn.Turn.TheVariants as turns
use Rattle.wt_wire.specs.declared.side.StreamEnd.TheVariants as ends

-- ---- halves

-- the application has the sending half
abbrev pub has_sending : Side → History → ℕ → Bool
has_sending side h k = is_handed_out h k && not (k % 4 == peer_uni side)

-- the application has the receiving half, and didn't give it up
abbrev pub has_receiving : Side → History → ℕ → Bool
has_receiving side h k = is_handed_out h k && not (k % 4 == local_uni side) && not (is_given_up h k)

-- rows of a half, where the application has it
abbrev pub where_has : Bool → List Row → List Row
where_has has rows = row (not has) replies.NoStream [] ∷ rows

-- ---- sending

-- the half was finished or reset by this end
abbrev pub is_closed : History → ℕ → Bool
is_closed h k = was_finished h k || is_reset h k

-- it was reset by this end, or is finished and acknowledged (RFC 9000, section 3.1)
abbrev pub is_done : History → ℕ → Bool
is_done h k = is_reset h k || (was_finished h k && is_acknowledged (events h) k)

-- why nothing can be written, before these rows
abbrev pub write_rows : History → ℕ → List Row → List Row
write_rows h k rows =
    row (not (is_open h)) (replies.WriteFailed writes.NotConnected) []
    ∷ row (is_closed h k) (replies.WriteFailed writes.Closed) []
    ∷ row_for (stop_of (events h) k) (λ (code : ℕ). replies.WriteFailed (writes.Stopped code)) []
    ∷ rows

-- how many of the bytes go out
abbrev pub sent_now : History → ℕ → List ℕ → ℕ
sent_now h k bytes = length (take (credit_left h k) bytes)

-- Write
abbrev pub write : History → ℕ → List ℕ → List Row
write h k bytes = write_rows h k
    (row (is_nothing bytes) (replies.Written 0) []
    ∷ row (not (credit_left h k == 0)) (replies.Written (sent_now h k bytes)) (send h k bytes)
    ∷ [])

-- WriteAll
abbrev pub write_all : History → ℕ → List ℕ → List Row
write_all h k bytes = write_rows h k
    (row (sent_now h k bytes == length bytes) replies.AllWritten (send h k bytes)
    ∷ row true (replies.Count (sent_now h k bytes)) (send h k bytes)
    ∷ [])

-- how a half ended: stopped by the peer, done, or with the connection
abbrev pub stopped_rows : History → ℕ → (StreamWriteError → Reply) → Reply → List Row
stopped_rows h k failed done =
    row_for (stop_of (events h) k) (λ (code : ℕ). failed (writes.Stopped code)) []
    ∷ row (is_done h k) done []
    ∷ row (not (is_open h)) (failed writes.NotConnected) []
    ∷ []

-- Stopped
abbrev pub stopped : History → ℕ → List Row
stopped h k = stopped_rows h k (λ e. replies.StoppedBy e) (replies.StoppedBy writes.Closed)

-- Finish: the first goes out
abbrev pub finish : History → ℕ → List Row
finish h k =
    row (is_open h && not (is_closed h k) && not (is_some (stop_of (events h) k))) replies.Pending (actions.Finish k ∷ [])
    ∷ stopped_rows h k (λ e. replies.WriteFailed e) replies.Finished

-- the priority that the pair sets, also on a half that is done, where nothing shows it
abbrev pub priority_by : ℕ → Turn → Reply → Option ℤ
priority_by k (turns.Call (calls.SetPriority id priority)) replies.Done = if id == k then Some priority else None
priority_by k _ _ = None

-- the last that was set, 0 at first
abbrev pub priority_of : History → ℕ → ℤ
priority_of h k = unwrap_or (first_of (λ (p : Pair). priority_by k p.turn p.answer.reply) h) (pos 0)

-- Priority
abbrev pub priority : History → ℕ → List Row
priority h k = row (is_done h k) replies.ClosedStream [] ∷ row true (replies.Priority (priority_of h k)) [] ∷ []

-- ResetSend
abbrev pub reset : History → ℕ → ℕ → List Row
reset h k code = row (is_done h k) replies.ClosedStream [] ∷ row true replies.Done (action_if (is_open h) (actions.ResetOut k code)) ∷ []

-- ---- receiving

-- where a stream's body begins: after its header, where the peer opened it
abbrev pub body_start : Option Verdict → ℕ
body_start (Some (verdicts.WebTransport session offset)) = offset
body_start _ = 0

-- the bytes that the reply to a read of the stream gives
abbrev pub read_by : ℕ → Turn → Reply → List ℕ
read_by k (turns.Call (calls.Read id size)) (replies.Read (Some piece)) = if id == k then piece else []
read_by k (turns.Call (calls.ReadExact id size)) (replies.Exact piece) = if id == k then piece else []
read_by k (turns.Call (calls.ReadExact id size)) (replies.ExactFailed e piece) = if id == k then piece else []
read_by k _ _ = []

-- all that was read of a stream, joined
abbrev pub was_read : History → ℕ → List ℕ
was_read [] k = []
was_read (p ∷ h) k = was_read h k ++ read_by k p.turn p.answer.reply

-- what of the contents wasn't read: bytes that came before a reset are read too (this repository's rule)
abbrev pub unread : Side → History → ℕ → List ℕ
unread side h k = drop (body_start (verdict_of (findings side h) k) + length (was_read h k)) (contents h k)

-- the code of a reset
abbrev pub reset_code : StreamEnd → Option ℕ
reset_code (ends.Reset code) = Some code
reset_code _ = None

-- a clean end
abbrev pub is_fin : StreamEnd → Bool
is_fin ends.Fin = true
is_fin _ = false

-- Read
abbrev pub read : History → ℕ → ℕ → List ℕ → List Row
read h k size left =
    row (size == 0) (replies.Read (Some [])) []
    ∷ row (not (is_nothing left)) (replies.Read (Some (take size left))) []
    ∷ row (is_fin (end_of (events h) k)) (replies.Read None) []
    ∷ row_for (reset_code (end_of (events h) k)) (λ (code : ℕ). replies.ReadFailed (reads.Reset code)) []
    ∷ row (not (is_open h)) (replies.ReadFailed reads.NotConnected) []
    ∷ []

-- ReadExact
abbrev pub read_exact : History → ℕ → ℕ → List ℕ → List Row
read_exact h k size left =
    row (nat_le size (length left)) (replies.Exact (take size left)) []
    ∷ row (is_fin (end_of (events h) k)) (replies.ExactFailed (exacts.FinishedEarly (length left)) left) []
    ∷ row_for (reset_code (end_of (events h) k)) (λ (code : ℕ). replies.ExactFailed (exacts.Read (reads.Reset code)) []) []
    ∷ row (not (is_open h)) (replies.ExactFailed (exacts.Read reads.NotConnected) []) []
    ∷ []
