-- The statements of contracts, by name.
use Rattle.std.specs.List.{list_any}
use Rattle.std.specs.Prelude.{List, None, Some, [], false, filter, filter_map, is_none, length, map, nat_le, not, take, true, ℕ, ◌%◌, ◌&&◌, ◌++◌, ◌==◌, ◌||◌, ◌∷◌, ◌≡◌, ◌≤◌}
use Rattle.wt_meaning.specs.Findings.{Finding, fault_of, verdict_of}
use Rattle.wt_meaning.specs.Halves.{unread}
use Rattle.wt_meaning.specs.History.{History, Pair, actions_out, events, exists, is_open, is_reset_of, loses, was_finished}
use Rattle.wt_meaning.specs.Meaning.{answer_to, history_after, meaning, meaning_from, next, with_pair}
use Rattle.wt_meaning.specs.Moments.{findings, ids_from}
use Rattle.wt_meaning.specs.Windows.{admitted_datagram, is_established, received_count, session_in}
use Rattle.wt_message.specs.Datagram.{datagram_of}
use Rattle.wt_promise.specs.Causes.{body, is_over, pieces, session_answer}
use Rattle.wt_promise.specs.Found.{IsSubsequence, ShownBy, classified_id, datagrams_read, said_by}
use Rattle.wt_promise.specs.Lists.{history_of}
use Rattle.wt_promise.specs.Owed.{living, owed_by_moment, owed_by_turn}
use Rattle.wt_promise.specs.Promise.{EstablishedFor, IsHistory, NoneBehind, SettingsOut, acts_on, leaves_open, payloads, sends_on}
use Rattle.wt_promise.specs.Sides.{RequestGiven, SessionGiven, StreamGiven, arrived, opened_first, opens_of}
use Rattle.wt_proto.specs.declared.verdict.Verdict.{Verdict}
use Rattle.wt_turn.specs.Joined.{join_all}
use Rattle.wt_turn.specs.Reports.{datagrams_of, end_of, unis_allowed}
use Rattle.wt_turn.specs.Sent.{finishes}
use Rattle.wt_turn.specs.Streams.{local_bi, local_count, local_uni, peer_bi, peer_count, peer_uni}
use Rattle.wt_turn.specs.Log.{closes}
use Rattle.wt_turn.specs.declared.answer.Answer.{Answer}
use Rattle.wt_turn.specs.declared.call.Call.TheVariants as calls
use Rattle.wt_turn.specs.declared.call.Call.{Call}
use Rattle.wt_turn.specs.declared.reply.Reply.TheVariants as replies
use Rattle.wt_turn.specs.declared.stream_error.StreamReadError.TheVariants as reads
use Rattle.wt_turn.specs.declared.stream_error.StreamReadExactError.TheVariants as exacts
use Rattle.wt_turn.specs.declared.turn.Turn.TheVariants as turns
use Rattle.wt_turn.specs.declared.turn.Turn.{Turn}
use Rattle.wt_wire.specs.HeaderList.{Fields}
use Rattle.wt_wire.specs.declared.side.Side.{Side}
use Rattle.wt_wire.specs.declared.side.StreamEnd.TheVariants as ends

-- each session that a reply gives rests on that
abbrev pub EstablishedRightly : Side → History → Turn → Answer → Type 0
EstablishedRightly side h turn a = (s : ℕ) → session_in a.reply ≡ Some s → EstablishedFor side h (with_pair h turn a) s

-- at most 4 sessions live
abbrev pub FewLive : Side → History → Type 0
FewLive side h = length (living side h) ≤ 4

-- what was read of a stream is a prefix of what follows its header
abbrev pub ReadsInOrder : Side → History → Type 0
ReadsInOrder side h = (k : ℕ) → take (length (pieces h k)) (body side h k) ≡ pieces h k

-- the payloads that a session received are the first of those that were admitted for it
abbrev pub DatagramsInOrder : Side → History → Type 0
DatagramsInOrder side h = (s : ℕ) → payloads h s
    ≡ take (received_count h s) (map (λ (d : ℕ × List ℕ). d.1) (filter (λ (d : ℕ × List ℕ). d.0 == s) (filter_map admitted_datagram (findings side h))))

-- the connection stays open exactly where no loss came, the call owes no close, and there is no fault
abbrev pub OpenExactly : Side → History → Turn → Answer → Type 0
OpenExactly side h turn a = is_open (with_pair h turn a)
    ≡ (is_open h && not (loses turn) && not (list_any closes (owed_by_turn side h turn a.reply)) && is_none (fault_of (findings side (with_pair h turn a))))

-- nothing goes out once the connection has ended
abbrev pub NothingAfterEnd : History → Answer → Type 0
NothingAfterEnd h a = is_open h ≡ false → a.actions ≡ []

-- how a session ended stays so, from its own end or the connection's on (so does what `Closed` and an opening say of the
-- connection's end: no later event counts)
abbrev pub ResultStays : Side → History → Turn → Answer → Type 0
ResultStays side h turn a = (s : ℕ) → is_established h s ≡ true → is_over side h s ≡ true
    → session_answer side (with_pair h turn a) s ≡ session_answer side h s

-- so it is after each turn that leaves the connection open but for what is found, where the peer allows a unidirectional stream
abbrev pub SettingsGoOut : Side → History → Turn → Answer → Type 0
SettingsGoOut side h turn a =
    leaves_open side h turn a ≡ true → nat_le 1 (unis_allowed (events (with_pair h turn a))) ≡ true → SettingsOut side (with_pair h turn a)

abbrev pub UniGiven : Side → History → Turn → Type 0
UniGiven side h turn = (k : ℕ) → (next side h turn).reply ≡ replies.Uni k → StreamGiven side h turn k (peer_uni side) calls.AcceptUni

abbrev pub BiGiven : Side → History → Turn → Type 0
BiGiven side h turn = (k : ℕ) → (next side h turn).reply ≡ replies.Bi k → StreamGiven side h turn k (peer_bi side) calls.AcceptBi

abbrev pub RequestCame : Side → History → Turn → Type 0
RequestCame side h turn = (k : ℕ) (headers : Fields) → (next side h turn).reply ≡ replies.Request k headers → RequestGiven side h turn k headers

abbrev pub SessionCame : Side → History → Turn → Type 0
SessionCame side h turn = (s : ℕ) → session_in (next side h turn).reply ≡ Some s → SessionGiven side h s

-- the payloads that a session received came for it, in that order
abbrev pub PayloadsCame : History → Type 0
PayloadsCame h = (s : ℕ) → IsSubsequence (payloads h s) (arrived h s)

-- what was found is the same after a call, unless that establishes a session
abbrev pub FindsNothing : Side → History → Call → Answer → Type 0
FindsNothing side h call a = session_in a.reply ≡ None → findings side (with_pair h (turns.Call call) a) ≡ findings side h

-- a stream of this end's that isn't there is opened before anything goes out on it
abbrev pub OpensFirst : Side → History → Answer → Type 0
OpensFirst side h a = (k : ℕ) → (local_uni side == k % 4 || local_bi side == k % 4) ≡ true → exists side h k ≡ false → opened_first k a.actions ≡ true

-- each stream that was classified is shown to be that
abbrev pub ClassifiedRightly : Side → History → Type 0
ClassifiedRightly side h = (k : ℕ) (v : Verdict) → verdict_of (findings side h) k ≡ Some v → ShownBy side h k v

-- the n-th datagram that was read is the n-th that came
abbrev pub DatagramsAsCame : Side → History → Type 0
DatagramsAsCame side h =
    map (λ (d : ℕ × List ℕ). Some d) (datagrams_read side h)
    ≡ map (λ (piece : List ℕ). said_by (datagram_of piece)) (take (length (datagrams_read side h)) (datagrams_of (events h)))

-- the streams that a moment classifies come in order: the unidirectional ones by id, then the bidirectional ones by id
abbrev pub ClassifiedInOrder : Side → Pair → History → Type 0
ClassifiedInOrder side p h =
    (new : List Finding) → findings side (p ∷ h) ≡ findings side h ++ new
    → IsSubsequence (filter_map classified_id new)
    (ids_from (peer_uni side) 0 (peer_count side (events (p ∷ h)) (peer_uni side)) ++ ids_from (peer_bi side) 0 (peer_count side (events (p ∷ h)) (peer_bi side)))

-- an answer's actions are these, each once and in this order; bytes for one stream with no other action between them are one send
abbrev pub AllOwedGoesOut : Side → History → Turn → Answer → Type 0
AllOwedGoesOut side h turn a = a.actions ≡ join_all [] (owed_by_turn side h turn a.reply ++ owed_by_moment side h turn a)

-- nothing goes out on a stream after its reset, in a later answer or behind it in the same one, nor a second reset
pub record SilentAfterReset (h : History) (a : Answer) (k : ℕ) : Type 0 where
  pub later : list_any (is_reset_of k) (actions_out h) ≡ true → list_any (acts_on k) a.actions ≡ false
  pub behind : NoneBehind (is_reset_of k) (acts_on k) a.actions

-- a read says that a stream was reset only once that reset came: a Read after all bytes before it, a ReadExact where fewer than it asks for are left
pub record ResetsRightly (side : Side) (h : History) (id size code : ℕ) : Type 0 where
  pub read : (next side h (turns.Call (calls.Read id size))).reply ≡ replies.ReadFailed (reads.Reset code) → (end_of (events h) id ≡ ends.Reset code) × (unread side h id ≡ [])
  pub exact : (piece : List ℕ) → (next side h (turns.Call (calls.ReadExact id size))).reply ≡ replies.ExactFailed (exacts.Read (reads.Reset code)) piece → end_of (events h) id ≡ ends.Reset code

-- the streams that an answer opens are the next ones of a kind that is this end's, in order (RFC 9000, section 2.1)
pub record OpensInOrder (side : Side) (h : History) (a : Answer) (kind : ℕ) : Type 0 where
  pub next : filter_map (opens_of kind) a.actions ≡ ids_from kind (local_count (actions_out h) kind) (length (filter_map (opens_of kind) a.actions))
  pub own : (local_uni side == kind || local_bi side == kind) ≡ false → filter_map (opens_of kind) a.actions ≡ []

-- nothing is sent on a stream after its finish, in a later answer or behind it in the same one, nor a second finish; a reset may follow
pub record SilentAfterFinish (h : History) (a : Answer) (k : ℕ) : Type 0 where
  pub later : was_finished h k ≡ true → list_any (sends_on k) a.actions ≡ false
  pub behind : NoneBehind (finishes k) (sends_on k) a.actions

-- each prefix of a lawful list leads to a history, of which all sentences hold, and what comes later is answered after it
pub record LeadsToHistory (side : Side) (first later : List Turn) : Type 0 where
  pub history : IsHistory side (history_of side [] first)
  pub answers : meaning side (first ++ later) ≡ meaning side first ++ meaning_from side (history_of side [] first) later

-- a turn of the transport is Done; once the connection has ended nothing goes out, and no later answer is another one
pub record OfTransport (side : Side) (h : History) (turn : Turn) : Type 0 where
  pub done : (answer_to side h turn).reply ≡ replies.Done
  pub silent : is_open h ≡ false → (answer_to side h turn).actions ≡ []
  pub alike : is_open h ≡ false → (later : List Turn) → meaning_from side (history_after side h turn) later ≡ meaning_from side h later
