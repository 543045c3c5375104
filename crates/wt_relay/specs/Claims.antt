-- What holds of a relay after each turn, in twelve sentences (this repository's own).
use Rattle.std.specs.Prelude.{ℕ, ◌&&◌, ◌+◌, ◌==◌, ◌≡◌, ◌∷◌, ◌||◌, Bool, List, None, Option, Some, [], false, filter, if◌then◌else◌, length, nat_le, not, take, true}
use Rattle.std.specs.List.{list_all, list_any}
use Rattle.std.specs.Str.{bytes_eq}
use Rattle.wt_endpoint.specs.Endpoints.{AllMayCome, endpoint_replies, no_connections}
use Rattle.wt_endpoint.specs.Isolation.{AreApart}
use Rattle.wt_meaning.specs.Calls.{is_living}
use Rattle.wt_meaning.specs.Halves.{is_fin, unread}
use Rattle.wt_meaning.specs.History.{History, Pair, actions_out, all_events, is_open}
use Rattle.wt_meaning.specs.Lawful.{has_request}
use Rattle.wt_promise.specs.Promise.{accepted}
use Rattle.wt_turn.specs.Reports.{end_of}
use Rattle.wt_turn.specs.Sent.{is_finished}
use Rattle.wt_turn.specs.declared.call.Call.{Call}
use Rattle.wt_turn.specs.declared.call.Call.TheVariants as calls
use Rattle.wt_turn.specs.declared.reply.Reply.{Reply}
use Rattle.wt_turn.specs.declared.reply.Reply.TheVariants as replies
use Rattle.wt_turn.specs.declared.stream_error.StreamReadError.TheVariants as reads
use Rattle.wt_turn.specs.declared.turn.Turn.{Turn}
use Rattle.wt_turn.specs.declared.turn.Turn.TheVariants as turns
use Rattle.wt_wire.specs.declared.side.Side.TheVariants.{Server}
use Rattle.wt_relay.specs.declared.source.Progress.{Progress}
use Rattle.wt_relay.specs.declared.source.Progress.TheVariants.{Behind, Opening, Over}
use Rattle.wt_relay.specs.Calls.{has_none, is_pending, is_relayed_call}
use Rattle.wt_relay.specs.Kept.{CopyNow, RelayNow, SourceNow, body, copies_of, given_for, history, is_member, opened_for, share_room}
use Rattle.wt_relay.specs.Progress.{rest_of}
use Rattle.wt_relay.specs.Passes.{answer_now, may_be_called, relay_run, session_gone}

-- ---- copies

-- both sessions are known, and they are two different ones of one room
abbrev pub are_across : RelayNow → ℕ → ℕ → Option ℕ → Option (Option ℕ) → Bool
are_across r n m (Some s) (Some (Some t)) = share_room r (n, s) (m, t)
are_across r n m _ _ = false

-- the copy's stream is one of another session, of the room of the source's
abbrev pub is_across : RelayNow → (ℕ × ℕ) × (ℕ × ℕ) → Bool
is_across r c = are_across r c.0.0 c.1.0 (given_for (history r c.0.0) c.0.1) (opened_for (history r c.1.0) c.1.1)

-- 1. A copy is a stream of another session than its source, and of the same room.
abbrev pub CopiesStayInRooms : RelayNow → Type 0
CopiesStayInRooms r = list_all (is_across r) (copies_of r) ≡ true

-- these bytes are the first of those
abbrev pub is_start : List ℕ → List ℕ → Bool
is_start xs ys = bytes_eq (take (length xs) ys) xs

abbrev pub is_copied : RelayNow → (ℕ × ℕ) × (ℕ × ℕ) → Bool
is_copied r c = is_start (accepted (history r c.1.0) c.1.1) (body (history r c.0.0) c.0.1)

-- 2. What a copy accepted is a first part of what arrived on its source after the header, unchanged and in order.
abbrev pub CopiesAreFirstParts : RelayNow → Type 0
CopiesAreFirstParts r = list_all (is_copied r) (copies_of r) ≡ true

-- the source ended, and the copy accepted all of it
abbrev pub has_all : RelayNow → (ℕ × ℕ) × (ℕ × ℕ) → Bool
has_all r c = is_fin (end_of (all_events (history r c.0.0)) c.0.1) && bytes_eq (accepted (history r c.1.0) c.1.1) (body (history r c.0.0) c.0.1)

-- 3. A copy is finished only where its source ended, and all of it was accepted.
abbrev pub FinishedCopiesAreWhole : RelayNow → Type 0
FinishedCopiesAreWhole r = list_all (λ c. not (is_finished (actions_out (history r c.1.0)) c.1.1) || has_all r c) (copies_of r) ≡ true

-- ---- calls

-- what is asked of each pair of each connection's history, by the connection's number; the first history has this one
abbrev pub each_pair_from : ℕ → (ℕ → Pair → Bool) → List History → Bool
each_pair_from n test [] = true
each_pair_from n test (h ∷ hs) = list_all (test n) h && each_pair_from (n + 1) test hs

abbrev pub each_pair : RelayNow → (ℕ → Pair → Bool) → Bool
each_pair r test = each_pair_from 0 test r.endpoint.histories

abbrev pub is_copy : RelayNow → ℕ → ℕ → Bool
is_copy r n k = list_any (λ (c : (ℕ × ℕ) × (ℕ × ℕ)). is_member c.1 (n, k)) (copies_of r)

-- what is written is a copy
abbrev pub writes_copy : RelayNow → ℕ → Turn → Bool
writes_copy r n (turns.Call (calls.Write id bytes)) = is_copy r n id
writes_copy r n _ = true

-- 4. Nothing is written on a stream that is no copy.
abbrev pub OnlyCopiesAreWritten : RelayNow → Type 0
OnlyCopiesAreWritten r = each_pair r (λ n p. writes_copy r n p.turn) ≡ true

-- the code with which copies are reset after this reply to a read of their source
abbrev pub code_after : ℕ → Turn → Reply → Option ℕ
code_after k (turns.Call (calls.Read id size)) (replies.ReadFailed (reads.Reset code)) = if id == k then Some code else None
code_after k (turns.Call (calls.Read id size)) (replies.ReadFailed e) = if id == k then Some session_gone else None
code_after k _ _ = None

abbrev pub is_code : ℕ → Option ℕ → Bool
is_code code (Some c) = c == code
is_code code None = false

-- the stream is a copy of a source of which a read failed, so that its copies are reset with this code
abbrev pub is_reset_by : RelayNow → ℕ → ℕ → ℕ → SourceNow → Bool
is_reset_by r n k code source =
    list_any (λ (c : CopyNow). is_member (c.number, c.id) (n, k)) source.copies
    && list_any (λ (p : Pair). is_code code (code_after source.id p.turn p.answer.reply)) (history r source.number)

-- the stream is a source that has no copy
abbrev pub is_alone : ℕ → ℕ → SourceNow → Bool
is_alone n k source = is_member (source.number, source.id) (n, k) && has_none source.copies

abbrev pub is_founded : RelayNow → ℕ → Call → Bool
is_founded r n (calls.StopRecv id code) = list_any (is_alone n id) r.sources
is_founded r n (calls.ResetSend id code) = list_any (is_reset_by r n id code) r.sources
is_founded r n c = true

-- a turn of the transport, or one of the relay's calls; a stop is one of a source without copies, a reset one of a copy whose source failed
abbrev pub is_one_of_passes : RelayNow → ℕ → Turn → Bool
is_one_of_passes r n (turns.Call c) = is_relayed_call c && is_founded r n c
is_one_of_passes r n _ = true

-- 5. What is told of these turns is what the passes tell, and each call is one of theirs.
pub record CallsAreThoseOfPasses (given : List (ℕ × Turn)) (r : RelayNow) : Type 0 where
  pub told : r.told ≡ (relay_run given).now.told
  pub calls : each_pair r (λ n p. is_one_of_passes r n p.turn) ≡ true

-- the reply to a call on a source ends it: its end, its reset, or another error
abbrev pub ends_source : Reply → Bool
ends_source replies.Pending = false
ends_source (replies.Read (Some piece)) = false
ends_source _ = true

-- the pair stops the source, or reads what ends it
abbrev pub ends_asks : ℕ → Turn → Reply → Bool
ends_asks k (turns.Call (calls.StopRecv id code)) reply = id == k
ends_asks k (turns.Call (calls.Read id size)) reply = id == k && ends_source reply
ends_asks k _ _ = false

-- a copy is given up after this reply
abbrev pub fails_copy : Reply → Bool
fails_copy replies.Pending = false
fails_copy (replies.Written n) = false
fails_copy (replies.SendReady id) = false
fails_copy _ = true

-- the pair finishes or resets the copy, or is a call of it that failed
abbrev pub gives_up : ℕ → Turn → Reply → Bool
gives_up k (turns.Call (calls.Finish id)) reply = id == k
gives_up k (turns.Call (calls.ResetSend id code)) reply = id == k
gives_up k (turns.Call (calls.PollOpening id)) reply = id == k && fails_copy reply
gives_up k (turns.Call (calls.Write id bytes)) reply = id == k && fails_copy reply
gives_up k _ _ = false

abbrev pub is_over : Progress → Bool
is_over Over = true
is_over _ = false

-- the copy is asked still, or a pair says why it isn't
abbrev pub copy_explained : RelayNow → CopyNow → Bool
copy_explained r c = not (is_over c.progress) || list_any (λ (p : Pair). gives_up c.id p.turn p.answer.reply) (history r c.number)

abbrev pub source_explained : RelayNow → SourceNow → Bool
source_explained r source =
    (not source.over || list_any (λ (p : Pair). ends_asks source.id p.turn p.answer.reply) (history r source.number))
    && list_all (copy_explained r) source.copies

-- 6. A source is asked no more only after its stop, its end or an error of it, a copy only after its finish, its reset or a call that failed.
abbrev pub AsksEndForAReason : RelayNow → Type 0
AsksEndForAReason r = list_all (source_explained r) r.sources ≡ true

-- ---- nothing is left to do

-- the call may not come, or would be answered Pending
abbrev pub waits_on : RelayNow → ℕ → Call → Bool
waits_on r n c = not (may_be_called r n c) || is_pending (answer_now r n c).reply

-- 7. Each request that was given has its response, and what goes on with it would be answered Pending.
pub record RequestsAreAccepted (r : RelayNow) : Type 0 where
  pub accepted : (n : ℕ) → has_request (history r n) ≡ false
  pub waits : (n : ℕ) → waits_on r n calls.Handshake ≡ true

-- 8. The next request, and the next stream of each session that lives on an open connection, would be answered Pending.
pub record StreamsAreAccepted (r : RelayNow) : Type 0 where
  pub requests : (n : ℕ) → waits_on r n calls.Incoming ≡ true
  pub streams : (n s : ℕ) → is_open (history r n) ≡ true → is_living Server (history r n) s ≡ true
      → waits_on r n (calls.AcceptUni (Some s)) ≡ true

-- an OpenUni of the session
abbrev pub opens_on : ℕ → Turn → Bool
opens_on s (turns.Call (calls.OpenUni (Some t))) = t == s
opens_on s _ = false

abbrev pub is_other : (ℕ × ℕ) → SourceNow → Bool
is_other m source = list_any (is_member m) source.others

-- the stream that the reply to an AcceptUni gives
abbrev pub gives_uni : Reply → Bool
gives_uni (replies.Uni id) = true
gives_uni _ = false

abbrev pub is_source_of : ℕ → SourceNow → Bool
is_source_of n source = source.number == n

-- 9. Each stream that was given is a source, and of each session OpenUni was called once for each source of which it was another asked
-- session of its room.
pub record EachIsOpenedOnce (r : RelayNow) : Type 0 where
  pub sources : (n : ℕ) → length (filter (λ (p : Pair). gives_uni p.answer.reply) (history r n)) ≡ length (filter (is_source_of n) r.sources)
  pub opens : (n s : ℕ) → length (filter (λ (p : Pair). opens_on s p.turn) (history r n)) ≡ length (filter (is_other (n, s)) r.sources)

-- the copy is being opened, or lacks some of the piece, and would be answered Pending
abbrev pub lacks_credit : RelayNow → SourceNow → CopyNow → Progress → Bool
lacks_credit r source c Opening = is_pending (answer_now r c.number (calls.PollOpening c.id)).reply
lacks_credit r source c (Behind n) = is_pending (answer_now r c.number (calls.Write c.id (rest_of source.piece (Behind n)))).reply
lacks_credit r source c _ = false

-- nothing of the source is unread, or a copy holds it that lacks credit
abbrev pub is_passed_on : RelayNow → SourceNow → Bool
is_passed_on r source =
    source.over || has_none source.copies || has_none (unread Server (history r source.number) source.id)
    || list_any (λ (c : CopyNow). lacks_credit r source c c.progress) source.copies

-- 10. Of each source that is asked and has copies nothing is unread, or one of its copies lacks credit.
abbrev pub AllIsPassedOn : RelayNow → Type 0
AllIsPassedOn r = list_all (is_passed_on r) r.sources ≡ true

-- 11. Beside what is unread at most 4,096 bytes of a source are kept.
abbrev pub LittleIsKept : RelayNow → Type 0
LittleIsKept r = list_all (λ (source : SourceNow). nat_le (length source.piece) 4096) r.sources ≡ true

-- 12. The turns may come one after another, and each connection is answered what its own turns mean.
pub record EachIsApart (r : RelayNow) : Type 0 where
  pub may_come : AllMayCome Server no_connections r.turns
  pub apart : AreApart Server r.turns (endpoint_replies Server no_connections r.turns)

-- What holds of a relay after these turns.
pub record IsRelay (given : List (ℕ × Turn)) (r : RelayNow) : Type 0 where
  pub rooms : CopiesStayInRooms r
  pub copied : CopiesAreFirstParts r
  pub whole : FinishedCopiesAreWhole r
  pub written : OnlyCopiesAreWritten r
  pub calls : CallsAreThoseOfPasses given r
  pub reasons : AsksEndForAReason r
  pub requests : RequestsAreAccepted r
  pub streams : StreamsAreAccepted r
  pub opened : EachIsOpenedOnce r
  pub passed_on : AllIsPassedOn r
  pub little : LittleIsKept r
  pub each : EachIsApart r
