-- What the application has, by look-ups, and of which calls it is: exactly what the definitions say that it has.
use Rattle.std.specs.List.{list_any}
use Rattle.std.specs.Option.{option_or}
use Rattle.std.specs.Prelude.{◌%◌, ◌&&◌, ◌==◌, ◌||◌, ◌≡◌, Bool, Err, List, None, Ok, Option, Result, Some, codes, false, if◌then◌else◌, not, true, unwrap_or, ℕ}
use Rattle.url.specs.Parser.{parse_url}
use Rattle.wt_meaning.specs.Targets.{Target, target_of}
use Rattle.wt_message.specs.FixedBytes.{response_bytes}
use Rattle.wt_turn.specs.Outgoing.{next_id}
use Rattle.wt_turn.specs.Streams.{local_bi, local_uni, peer_uni}
use Rattle.wt_sessions.specs.Answers.{named_session}
use Rattle.wt_sessions.specs.Connection.{ends_opening, opened_for, starts_opening}
use Rattle.wt_sessions.specs.Driver.{accepts_stream, first_session, gives_up, sessions_of}
use Rattle.wt_sessions.specs.Handshake.{Answered, Connecting, HandshakeState, Over, Requested, Responding, handshake_state, requested_stream, response_head}
use Rattle.wt_sessions.specs.StreamTable.{is_session}
use Rattle.wt_turn.specs.Log.{CallRecord, Log, calls_of, is_open, newest}
use Rattle.wt_turn.specs.declared.call.Call.{Call}
use Rattle.wt_turn.specs.declared.call.Call.TheVariants as calls
use Rattle.wt_turn.specs.declared.connecting_error.ConnectingError.{ConnectingError}
use Rattle.wt_turn.specs.declared.reply.Reply.{Reply}
use Rattle.wt_turn.specs.declared.reply.Reply.TheVariants as replies
use Rattle.wt_wire.specs.declared.side.Side.{Side}

-- ---- what is held

-- the halves that the application has, by the ids of their streams; the session of each stream that is being opened; the session that
-- a name means; how far the handshake is, and the stream of the request that was given last
pub record Held : Type 0 where
  pub sends : ℕ → Bool
  pub recvs : ℕ → Bool
  pub openings : ℕ → Option ℕ
  pub sessions : Option ℕ → Option ℕ
  pub stage : HandshakeState
  pub requested : ℕ

-- ---- of which calls it is

-- the stream is being opened for this session
abbrev pub opening_in : List CallRecord → ℕ → Option ℕ
opening_in cs k = if list_any (starts_opening k) cs && not (list_any (ends_opening k) cs) then newest (opened_for k) cs else None

-- the session that was established and that a call names
abbrev pub named_in : List CallRecord → Option ℕ → Option ℕ
named_in cs None = first_session cs
named_in cs (Some s) = if list_any (is_session s) (sessions_of cs) then Some s else None

-- the stream is of a kind that this end opens
abbrev pub is_own : Side → ℕ → Bool
is_own side k = k % 4 == local_uni side || k % 4 == local_bi side

-- what is held is what the application has after these calls
pub record HoldsCalls (side : Side) (h : Held) (cs : List CallRecord) : Type 0 where
  pub sends : (k : ℕ) → h.sends k ≡ (list_any (accepts_stream k) cs && not (k % 4 == peer_uni side))
  pub recvs : (k : ℕ) → h.recvs k ≡ (list_any (accepts_stream k) cs && not (k % 4 == local_uni side) && not (list_any (gives_up k) cs))
  pub openings : (k : ℕ) → h.openings k ≡ opening_in cs k
  pub sessions : (name : Option ℕ) → h.sessions name ≡ named_in cs name
  pub stage : h.stage ≡ handshake_state cs
  pub requested : h.requested ≡ requested_stream cs
  -- what was given up was given, this end begins to open its own streams alone, and of those none ends that wasn't begun
  pub given : (k : ℕ) → list_any (gives_up k) cs ≡ true → list_any (accepts_stream k) cs ≡ true
  pub own : (k : ℕ) → list_any (starts_opening k) cs ≡ true → is_own side k ≡ true
  pub begun : (k : ℕ) → list_any (ends_opening k) cs ≡ true → is_own side k ≡ true → list_any (starts_opening k) cs ≡ true

-- what is held is what the application has by this log
abbrev pub Holds : Side → Held → Log → Type 0
Holds side h log = HoldsCalls side h (calls_of log)

-- ---- what a call changes, by its reply

-- one stream more
abbrev pub with_one : ℕ → (ℕ → Bool) → ℕ → Bool
with_one k f j = f j || k == j

-- one stream less
abbrev pub without_one : ℕ → (ℕ → Bool) → ℕ → Bool
without_one k f j = f j && not (k == j)

-- the stream begins to be opened for the session
abbrev pub starting : ℕ → ℕ → (ℕ → Option ℕ) → ℕ → Option ℕ
starting k s f j = if k == j then Some s else f j

-- the stream isn't being opened any more
abbrev pub ending : ℕ → (ℕ → Option ℕ) → ℕ → Option ℕ
ending k f j = if k == j then None else f j

-- one session more
abbrev pub with_session : ℕ → (Option ℕ → Option ℕ) → Option ℕ → Option ℕ
with_session s f None = option_or (f None) (Some s)
with_session s f (Some t) = if s == t then Some t else f (Some t)

-- what an accept gives
abbrev pub accepted : Reply → Held → Held
accepted (replies.Uni k) h = record h { recvs = with_one k h.recvs }
accepted (replies.Bi k) h = record h { sends = with_one k h.sends; recvs = with_one k h.recvs }
accepted _ h = h

-- an opening that begins for the session that the call names
abbrev pub begun : Option ℕ → Reply → Held → Held
begun name (replies.Opening k) h = record h { openings = starting k (unwrap_or (h.sessions name) 0) h.openings }
begun name _ h = h

-- an opening that is through, or failed
abbrev pub polled : ℕ → Reply → Held → Held
polled id (replies.SendReady k) h = record h { openings = ending id h.openings; sends = with_one k h.sends }
polled id (replies.BiReady k) h = record h { openings = ending id h.openings; sends = with_one k h.sends; recvs = with_one k h.recvs }
polled id (replies.OpeningFailed e) h = record h { openings = ending id h.openings }
polled id _ h = h

-- a half that is given up
abbrev pub stopped : ℕ → Reply → Held → Held
stopped id replies.Done h = record h { recvs = without_one id h.recvs }
stopped id _ h = h

-- a request that is given, or that none is any more
abbrev pub asked : Reply → Held → Held
asked (replies.Request id fields) h = record h { stage = Requested id; requested = id }
asked (replies.Failed e) h = record h { stage = Over }
asked _ h = h

-- an acceptance that begins or goes on with this response
abbrev pub accepting : List ℕ → Reply → Held → Held
accepting head (replies.Session s) h = record h { stage = Answered; sessions = with_session s h.sessions }
accepting head (replies.Failed e) h = record h { stage = Answered }
accepting head _ h = record h { stage = Responding true head }

-- a rejection that begins or goes on with this response
abbrev pub rejecting : List ℕ → Reply → Held → Held
rejecting head replies.Rejected h = record h { stage = Answered }
rejecting head _ h = record h { stage = Responding false head }

-- a connect that begins or goes on with this request
abbrev pub connecting : Option (List ℕ) → List ℕ → Reply → Held → Held
connecting reserved head (replies.Session s) h = record h { stage = Answered; sessions = with_session s h.sessions }
connecting reserved head (replies.ConnectFailed e) h = record h { stage = Over }
connecting reserved head _ h = record h { stage = Connecting reserved head }

-- a connect that begins, by its target
abbrev pub connect_by : Result Target ConnectingError → Reply → Held → Held
connect_by (Ok t) reply h = connecting t.reserved t.frame reply h
connect_by (Err e) reply h = record h { stage = Over }

-- what is begun goes on
abbrev pub handshake_by : HandshakeState → Reply → Held → Held
handshake_by (Responding true head) reply h = accepting head reply h
handshake_by (Responding false head) reply h = rejecting head reply h
handshake_by (Connecting reserved head) reply h = connecting reserved head reply h
handshake_by _ reply h = h

-- what is held after a call with this reply
abbrev pub held_after : Call → Reply → Held → Held
held_after (calls.Connect options lookup outcome) reply h = connect_by (target_of (parse_url None options.0) options.1 lookup outcome) reply h
held_after calls.Incoming reply h = asked reply h
held_after (calls.Accept headers) reply h = accepting (response_head (codes "200") headers) reply h
held_after calls.Forbidden reply h = rejecting (response_bytes (codes "403")) reply h
held_after calls.NotFound reply h = rejecting (response_bytes (codes "404")) reply h
held_after calls.TooManyRequests reply h = rejecting (response_bytes (codes "429")) reply h
held_after calls.Handshake reply h = handshake_by h.stage reply h
held_after (calls.AcceptUni name) reply h = accepted reply h
held_after (calls.AcceptBi name) reply h = accepted reply h
held_after (calls.OpenUni name) reply h = begun name reply h
held_after (calls.OpenBi name) reply h = begun name reply h
held_after (calls.PollOpening id) reply h = polled id reply h
held_after (calls.StopRecv id code) reply h = stopped id reply h
held_after _ reply h = h

-- ---- what lawful turns leave, and the law asks

-- this end's next streams weren't begun; an established session's request is answered while the connection is open
pub record Orderly (side : Side) (log : Log) : Type 0 where
  pub fresh_uni : list_any (starts_opening (next_id side log (local_uni side))) (calls_of log) ≡ false
  pub fresh_bi : list_any (starts_opening (next_id side log (local_bi side))) (calls_of log) ≡ false
  pub answered : (name : Option ℕ) (s : ℕ) → named_session log name ≡ Some s → is_open log ≡ true → requested_stream (calls_of log) ≡ s → handshake_state (calls_of log) ≡ Answered
