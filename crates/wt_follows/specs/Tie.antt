-- The tie: what a driver keeps follows a log. The log enters here, and nowhere else. Between two turns the state is that of the log; in
-- the midst of a moment it is that after some of the moment's steps, and some of what goes out is out.
use Rattle.std.specs.Prelude.{[], ◌%◌, ◌&&◌, ◌+◌, ◌<◌, ◌==◌, ◌^◌, ◌||◌, ◌∷◌, ◌≡◌, ◌≤◌, ◌⊎◌, Bool, List, None, Option, Some, ℕ, drop, false, filter, if◌then◌else◌, is_none, is_some, length, map, nat_lt, not, option_map, take, true, unwrap_or}
use Rattle.std.specs.List.{list_any}
use Rattle.wt_follows.specs.Rests.{Resting}
use Rattle.wt_follows.specs.Roles.{Roles, is_arriving, is_critical, is_held, is_in, is_living, is_member, waits}
use Rattle.wt_kept.specs.Arriving.{arrived_count, slots_of}
use Rattle.wt_kept.specs.Kept.{ArrivingNow, Closed, DispatchedNow, DriverNow, LiveNow, OwnControlNow, QueuedRequest, SessionEndNow, WindowNow, WorkNow}
use Rattle.wt_kept.specs.Readers.{ControlReading, ReaderRules, ResponseReading, Slot, bi_rules, control_rules, response_rules, session_rules, uni_rules}
use Rattle.wt_kept.specs.Windows.{end_in}
use Rattle.wt_message.specs.FixedBytes.{local_control_bytes}
use Rattle.wt_meaning.specs.Lawful.{is_client}
use Rattle.wt_proto.specs.Bi.{bi_verdict_of}
use Rattle.wt_proto.specs.Uni.{uni_verdict_of}
use Rattle.wt_proto.specs.declared.verdict.Verdict.{Verdict}
use Rattle.wt_proto.specs.declared.verdict.Verdict.TheVariants as verdicts
use Rattle.wt_turn.specs.Reports.{datagrams_of, end_of, is_running, unis_allowed}
use Rattle.wt_turn.specs.Sent.{is_finished, is_reset}
use Rattle.wt_turn.specs.Streams.{can_receive, contents, exists, local_bi, local_count, local_uni, peer_bi, peer_uni, stream_count}
use Rattle.wt_turn.specs.Unread.{AtOffset, GivenUp, ReadPosition}
use Rattle.wt_sessions.specs.Driver.{ControlSent, control_sent, gives_up, still_sends}
use Rattle.wt_sessions.specs.DriverState.{DriverState, state_of}
use Rattle.wt_sessions.specs.Halves.{total_read}
use Rattle.wt_sessions.specs.Moment.{is_peers}
use Rattle.wt_sessions.specs.StreamTable.{Admitted, Classified, Dispatched, Session, Waiting}
use Rattle.wt_sessions.specs.StreamTable as streams
use Rattle.wt_transport.specs.State.{Refines, TransportState}
use Rattle.wt_turn.specs.Log.{Event, Log, actions_of, calls_of, events_of, is_open, with_actions}
use Rattle.wt_turn.specs.declared.action.Action.{Action}
use Rattle.wt_wire.specs.HeaderList.{Fields}
use Rattle.wt_wire.specs.Ids.{is_bidirectional}
use Rattle.wt_wire.specs.declared.side.Side.{Side}
use Rattle.wt_wire.specs.declared.side.StreamEnd.{StreamEnd}

-- ---- readers

-- a reader read a stream from this offset on: it took `count` bytes, as many as are read of the stream, and no fewer of them made what
-- it says final (the last one may have, where bytes were put before it as they came, and the moment is still to be worked)
pub record ReaderAt {V O : Type 0} (w : ReaderRules V O) (reader : V) (offset : ℕ) (bytes : List ℕ) (position : ReadPosition) : Type 0 where
  pub count : ℕ
  pub at_offset : position ≡ AtOffset (offset + count)
  pub within : offset + count ≤ length bytes
  pub taken : reader ≡ w.fed w.start (take count (drop offset bytes))
  pub least : (k : ℕ) → k < count → w.has_said (w.fed w.start (take k (drop offset bytes))) ≡ false

-- each slot's reader reads its stream from the front on
abbrev pub SlotsAt : {V O : Type 0} → ReaderRules V O → (ℕ → List ℕ) → (ℕ → ReadPosition) → List (Slot V) → Type 0
SlotsAt w bytes position [] = Unit {0}
SlotsAt w bytes position (x ∷ xs) = ReaderAt w x.reader 0 (bytes x.id) (position x.id) × SlotsAt w bytes position xs

-- the streams of a kind that have no verdict
pub record ArrivingFollows {V O : Type 0} (w : ReaderRules V O) (t : TransportState) (a : ArrivingNow V) (ids : List ℕ) (bytes : ℕ → List ℕ) (position : ℕ → ReadPosition) : Type 0 where
  pub ordered : a.next ≤ arrived_count t a
  pub few : length a.reading ≤ 4
  pub same_ids : map (λ (x : Slot V). x.id) (slots_of w t a) ≡ ids
  pub read : SlotsAt w bytes position (slots_of w t a)

-- the peer's control stream is read from behind its type
abbrev pub ControlFollows : Option (Slot ControlReading) → Option (ℕ × ℕ) → (ℕ → List ℕ) → (ℕ → ReadPosition) → Type 0
ControlFollows None None bytes position = Unit {0}
ControlFollows (Some x) (Some c) bytes position = (x.id ≡ c.0) × ReaderAt control_rules x.reader c.1 (bytes c.0) (position c.0)
ControlFollows _ _ bytes position = ⊥

-- a session's stream is read from where its part begins
abbrev pub SessionsFollow : List LiveNow → List Session → (ℕ → List ℕ) → (ℕ → ReadPosition) → Type 0
SessionsFollow [] [] bytes position = Unit {0}
SessionsFollow (x ∷ xs) (s ∷ ss) bytes position = ReaderAt session_rules x.reader s.offset (bytes s.id) (position s.id) × SessionsFollow xs ss bytes position
SessionsFollow _ _ bytes position = ⊥

-- ---- a client's response

-- no session was established
abbrev pub NoneEstablished : DriverState → Type 0
NoneEstablished s = (k : ℕ) → s.dispatched.is_established k ≡ false

-- the response's reader took the bytes that are read of its stream, and then noted the stream's end, if that came behind them
pub record ResponseAt (reader : ResponseReading) (bytes : List ℕ) (end : StreamEnd) (position : ReadPosition) : Type 0 where
  pub front : ResponseReading
  pub at_front : ReaderAt response_rules front 0 bytes position
  pub noted : (reader ≡ front) ⊎ ((reader ≡ response_rules.ended end front) × (is_running end ≡ false) × (position ≡ AtOffset (length bytes)))

-- before its session a client's request stream is read by the response's reader alone
abbrev pub ResponseFollows : Side → Option (Slot ResponseReading) → (ℕ → List ℕ) → List Event → (ℕ → ReadPosition) → Type 0
ResponseFollows side None bytes events position = position (local_bi side) ≡ AtOffset 0
ResponseFollows side (Some x) bytes events position =
    (x.id ≡ local_bi side) × ResponseAt x.reader (bytes (local_bi side)) (end_of events (local_bi side)) (position (local_bi side))

-- ---- windows

-- a window holds those that wait of these sessions
pub record WindowFollows (w : WindowNow) (d : Dispatched) (is_theirs : ℕ → Bool) : Type 0 where
  pub streams : w.streams ≡ filter (λ (x : Waiting). is_theirs x.session) d.streams
  pub datagrams : w.datagrams ≡ map (λ (x : Admitted). record { session = x.session; payload = x.payload }) (filter (λ (x : Admitted). is_theirs x.session) d.datagrams)

-- each session that lives has its own window, and its streams
abbrev pub WindowsFollow : List LiveNow → Dispatched → Type 0
WindowsFollow [] d = Unit {0}
WindowsFollow (x ∷ xs) d = WindowFollows x.window d (λ k. k == x.id) × (x.members ≡ d.members x.id) × WindowsFollow xs d

-- ---- where streams, requests and datagrams went

-- the request of a verdict
abbrev pub request_in : Verdict → Option Fields
request_in (verdicts.Request fields offset) = Some fields
request_in _ = None

-- a queued request, by its stream
abbrev pub queued_as : QueuedRequest → ℕ × Option Fields
queued_as q = (q.id, Some q.fields)

-- the same of the table's
abbrev pub classified_as : Classified → ℕ × Option Fields
classified_as c = (c.id, request_in c.verdict)

-- how the peer closed a session, where it did
abbrev pub closed_by : ℕ → Option SessionEndNow → Option streams.Closed
closed_by k (Some (Closed code reason)) = Some (record { id = k; code = code; reason = reason })
closed_by k _ = None

-- the peer's SETTINGS came
abbrev pub have_settings_come : Option (Slot ControlReading) → Bool
have_settings_come None = false
have_settings_come (Some x) = is_some (control_rules.outcome x.reader).settings

-- what is kept of a state, beside readers and the transport. (A client's peer opens no session's stream: of ids that name no session
-- nothing is kept.)
pub record Keeps (d : DispatchedNow) (s : DriverState) : Type 0 where
  pub control : option_map (λ (x : Slot ControlReading). x.id) d.critical.control ≡ option_map (λ (c : ℕ × ℕ). c.0) s.dispatched.control
  pub encoder : d.critical.encoder ≡ option_map (λ (c : ℕ × ℕ). c.0) s.dispatched.encoder
  pub decoder : d.critical.decoder ≡ option_map (λ (c : ℕ × ℕ). c.0) s.dispatched.decoder
  pub settings : have_settings_come d.critical.control ≡ s.progress.settings
  pub queued : map queued_as d.requests.queued ≡ map classified_as s.dispatched.requests
  pub held : d.requests.held ≡ s.dispatched.held
  pub living : map (λ (x : LiveNow). x.id) d.sessions.living ≡ map (λ (x : Session). x.id) s.sessions
  pub windows : WindowsFollow d.sessions.living s.dispatched
  pub early : WindowFollows d.sessions.early s.dispatched (λ k. not (s.dispatched.is_established k))
  pub gone : (k : ℕ) → (k % 4) ≡ 0 → s.dispatched.is_gone k ≡ is_some (end_in d.sessions.gone k)
  pub gone_named : (k : ℕ) → is_some (end_in d.sessions.gone k) ≡ true → (k % 4) ≡ 0
  pub closed : (k : ℕ) → (k % 4) ≡ 0 → s.closed k ≡ closed_by k (end_in d.sessions.gone k)
  pub established : (k : ℕ) → s.dispatched.is_gone k ≡ false → s.dispatched.is_established k ≡ is_living s k
  pub alive : (k : ℕ) → is_living s k ≡ true → s.dispatched.is_gone k ≡ false
  pub named : (k : ℕ) → s.dispatched.is_established k ≡ true → (k % 4) ≡ 0
  pub named_streams : (k : ℕ) → list_any (λ (w : Waiting). w.session == k) s.dispatched.streams ≡ true → (k % 4) ≡ 0
  pub named_datagrams : (k : ℕ) → list_any (λ (x : Admitted). x.session == k) s.dispatched.datagrams ≡ true → (k % 4) ≡ 0
  pub unjoined : (k : ℕ) → s.dispatched.is_established k ≡ false → s.dispatched.members k ≡ []
  pub fault : d.fault ≡ s.progress.fault

-- ---- how far streams are read that the driver reads no more

-- what the header of a peer's stream says, over all that came
abbrev pub header_verdict : Log → ℕ → Verdict
header_verdict log k =
    if is_bidirectional k then bi_verdict_of (contents log k) (end_of (events_of log) k) else uni_verdict_of (contents log k) (end_of (events_of log) k)

-- where a stream goes on after its header
abbrev pub goes_on_at : Verdict → Option ℕ
goes_on_at (verdicts.WebTransport session offset) = Some offset
goes_on_at (verdicts.Request fields offset) = Some offset
goes_on_at _ = None

-- where the bytes begin that the application gets: after the header on a peer's stream, at the front on an own one
abbrev pub body_of : Side → Log → ℕ → ℕ
body_of side log k = if is_peers side k then unwrap_or (goes_on_at (header_verdict log k)) 0 else 0

-- a stream that waits for its session, or whose request isn't a session's yet
abbrev pub rests_at_header : DriverState → ℕ → Bool
rests_at_header s k = waits s k || (is_in k s.dispatched.held && not (s.dispatched.is_established k))

-- it is read up to the end of its header
pub record AtHeader (log : Log) (position : ReadPosition) (k : ℕ) : Type 0 where
  pub offset : ℕ
  pub verdict : goes_on_at (header_verdict log k) ≡ Some offset
  pub at_offset : position ≡ AtOffset offset

-- the application read so far on a stream that it has, or gave it up
abbrev pub member_position : Side → Log → ℕ → ReadPosition
member_position side log k = if list_any (gives_up k) (calls_of log) then GivenUp else AtOffset (body_of side log k + total_read k (calls_of log))

-- no call gave it up or read from it
abbrev pub IsUntouched : Log → ℕ → Type 0
IsUntouched log k = (list_any (gives_up k) (calls_of log) ≡ false) × (total_read k (calls_of log) ≡ 0)

-- how far streams are read that have a place
pub record Placed (side : Side) (s : DriverState) (log : Log) (position : ℕ → ReadPosition) : Type 0 where
  pub headers : (k : ℕ) → rests_at_header s k ≡ true → AtHeader log (position k) k
  pub members : (k session : ℕ) → is_member s session k ≡ true → position k ≡ member_position side log k
  pub heads : (k session : ℕ) → is_member s session k ≡ true → is_peers side k ≡ true → is_some (goes_on_at (header_verdict log k)) ≡ true
  pub untouched : (k : ℕ) → waits s k ≡ true → IsUntouched log k
  pub arriving : (k : ℕ) → is_arriving s k ≡ true → IsUntouched log k
  pub unopened : (k : ℕ) → exists side log k ≡ false → (position k ≡ AtOffset 0) × IsUntouched log k

-- ---- which streams there are

-- the peer opened each stream whose header is read, each critical one, each that carries a request and each that waits
pub record ArePeers (side : Side) (s : DriverState) : Type 0 where
  pub arriving : (k : ℕ) → is_arriving s k ≡ true → is_peers side k ≡ true
  pub critical : (k : ℕ) → is_critical s k ≡ true → is_peers side k ≡ true
  pub held : (k : ℕ) → is_held s k ≡ true → is_peers side k ≡ true
  pub waiting : (k : ℕ) → waits s k ≡ true → is_peers side k ≡ true

-- The streams that have a place are there. (This end's control stream is no session's, and this end opens streams of its own kinds alone.)
pub record There (side : Side) (s : DriverState) (log : Log) : Type 0 where
  pub unis : (k : ℕ) → is_in k s.unis ≡ true → is_bidirectional k ≡ false
  pub bis : (k : ℕ) → is_in k s.bis ≡ true → is_bidirectional k ≡ true
  pub arriving : (k : ℕ) → is_arriving s k ≡ true → can_receive side log k ≡ true
  pub waiting : (k : ℕ) → waits s k ≡ true → can_receive side log k ≡ true
  pub living : (k : ℕ) → is_living s k ≡ true → can_receive side log k ≡ true
  pub held : (k : ℕ) → is_held s k ≡ true → can_receive side log k ≡ true
  pub members : (k session : ℕ) → is_member s session k ≡ true → exists side log k ≡ true
  pub critical : (k : ℕ) → is_critical s k ≡ true → can_receive side log k ≡ true
  pub gone : (k : ℕ) → s.dispatched.is_gone k ≡ true → exists side log k ≡ true
  pub own : (session : ℕ) → is_member s session (local_uni side) ≡ false
  pub kinds : (local_count (actions_of log) (peer_uni side) ≡ 0) × (local_count (actions_of log) (peer_bi side) ≡ 0)
  pub few : (stream_count side log (peer_uni side) ≤ 2 ^ 60) × (stream_count side log (peer_bi side) ≤ 2 ^ 60)
  pub peers : ArePeers side s

-- ---- the halves on which this end sends

-- this end's control stream is the first of its unidirectional ones
pub record OwnFollows (side : Side) (c : OwnControlNow) (sent : ControlSent) : Type 0 where
  pub stream : c.stream ≡ (if sent.opened then Some (local_uni side) else None)
  pub sent_same : c.sent ≡ sent.sent
  pub within : sent.sent ≤ length local_control_bytes

-- What goes out at a moment ended none of the streams that a session still has or may get, and never this end's control stream; and a
-- session that lives may send on its own.
pub record Sends (side : Side) (s : DriverState) (before after : Log) : Type 0 where
  pub arriving : (k : ℕ) → is_arriving s k ≡ true → still_sends side after k ≡ still_sends side before k
  pub waiting : (k : ℕ) → waits s k ≡ true → still_sends side after k ≡ still_sends side before k
  pub members : (k session : ℕ) → is_member s session k ≡ true → s.dispatched.is_gone session ≡ false → still_sends side after k ≡ still_sends side before k
  pub living : (k : ℕ) → is_living s k ≡ true → still_sends side after k ≡ true
  pub own : (is_finished (actions_of after) (local_uni side) ≡ false) × (is_reset after (local_uni side) ≡ false)

-- ---- all of it

-- readers go on as long as the connection is open and no fault came
abbrev pub goes : DriverState → Bool
goes s = s.is_open && is_none s.progress.fault

-- In the midst of a moment that ends this log, of the transport and of where what came on it went: the state is s; these actions went out
-- at it so far, the first of them the oldest; readers are at these positions; and of all actions these weren't collected yet, the newest
-- first.
pub record WorkAmid (side : Side) (w : WorkNow) (log : Log) (s : DriverState) (sent : List Action) (position : ℕ → ReadPosition) (uncollected : List Action) : Type 0 where
  pub transport : Refines side w.transport (with_actions sent log) position uncollected
  pub is_open_same : s.is_open ≡ is_open (with_actions sent log)
  pub keeps : Keeps w.dispatched s
  pub roles : Roles s
  pub placed : Placed side s log position
  pub there : There side s log
  pub sends : Sends side s log (with_actions sent log)
  pub control : goes s ≡ true → ControlFollows w.dispatched.critical.control s.dispatched.control (contents log) position
  pub sessions : goes s ≡ true → SessionsFollow w.dispatched.sessions.living s.sessions (contents log) position

-- the same of all that the driver keeps
pub record Amid (side : Side) (d : DriverNow) (log : Log) (s : DriverState) (sent : List Action) (position : ℕ → ReadPosition) (uncollected : List Action) : Type 0 where
  pub work : WorkAmid side d.work log s sent position uncollected
  pub kinds : (d.unis.bidirectional ≡ false) × (d.bis.bidirectional ≡ true)
  pub few : (length d.unis.reading ≤ 4) × (length d.bis.reading ≤ 4)
  pub own : OwnFollows side d.own_control (control_sent side (with_actions sent log))
  pub allowed : (control_sent side (with_actions sent log)).opened ≡ true → nat_lt 0 (unis_allowed (events_of log)) ≡ true
  pub unis : goes s ≡ true → ArrivingFollows uni_rules d.work.transport d.unis s.unis (contents log) position
  pub bis : goes s ≡ true → ArrivingFollows bi_rules d.work.transport d.bis s.bis (contents log) position
  pub datagrams : goes s ≡ true → d.datagrams ≡ drop s.progress.datagrams (datagrams_of (events_of log))
  pub response : is_client side ≡ true → NoneEstablished s → ResponseFollows side d.response (contents log) (events_of log) position

-- A driver follows a log, with these actions not collected yet, the newest first.
pub record Follows (side : Side) (d : DriverNow) (log : Log) (uncollected : List Action) : Type 0 where
  pub position : ℕ → ReadPosition
  pub amid : Amid side d log (state_of side log) [] position uncollected
  pub rests : is_open log ≡ true → Resting side d log position
