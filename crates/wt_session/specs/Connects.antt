-- A client's connect, as a value: how far it is, and how it goes on.
use Rattle.std.specs.Prelude.{[], ◌∷◌, ◌≡◌, Err, List, None, Ok, Result, Some, false, if◌then◌else◌, true, ℕ}
use Rattle.url.specs.Parser.{parse_url}
use Rattle.wt_meaning.specs.Handshakes.{is_nothing}
use Rattle.wt_meaning.specs.Lawful.{is_client}
use Rattle.wt_meaning.specs.Targets.{Target, reserved_name, target_of, with_fields}
use Rattle.wt_message.specs.FixedBytes.{headers_frame_bytes}
use Rattle.wt_message.specs.Requests.{request_fields}
use Rattle.wt_driver_laws.specs.Calling.{Did}
use Rattle.wt_driver_laws.specs.Driving.{Follows, IsReachable, IsWithin}
use Rattle.wt_driver_laws.specs.Handing.{IsDialling, MayWrite, write_actions, write_answer}
use Rattle.wt_kept.specs.Kept.{DriverNow}
use Rattle.wt_driver.specs.Opening.{OpensFor}
use Rattle.wt_driver.specs.declared.driver.OpenSession.{OpenSession}
use Rattle.wt_session.specs.Handshakes.{Asked, Asking, Connect, Dialled, HasConnect, IsConnecting, Reserved}
use Rattle.wt_session.specs.Replies.{connecting_reply}
use Rattle.wt_turn.specs.Streams.{local_bi, local_count}
use Rattle.wt_sessions.specs.Answers.{call_effect}
use Rattle.wt_sessions.specs.Driver.{call_view}
use Rattle.wt_sessions.specs.Effect.{Effect, driver_error, head_left}
use Rattle.wt_sessions.specs.Handshake.{Connecting, abandon, establish, fail_connect, handshake_state, open_request, send_request}
use Rattle.wt_turn.specs.Log.{Log, Polled, actions_of, calls_of, is_open, with_actions}
use Rattle.wt_turn.specs.declared.call.Call.TheVariants as calls
use Rattle.wt_turn.specs.declared.connecting_error.ConnectingError.{ConnectingError}
use Rattle.wt_turn.specs.declared.connecting_error.ConnectingError.TheVariants as connects
use Rattle.wt_turn.specs.declared.driver_error.DriverError.{DriverError}
use Rattle.wt_turn.specs.declared.poll.Poll.{Poll}
use Rattle.wt_turn.specs.declared.poll.Poll.TheVariants.{Pending, Ready}
use Rattle.wt_turn.specs.declared.proto_error.ProtoWriteError.{ProtoWriteError}
use Rattle.wt_wire.specs.HeaderList.{Fields}
use Rattle.wt_wire.specs.declared.lookup.ConnectOutcome.{ConnectOutcome}
use Rattle.wt_wire.specs.declared.lookup.Lookup.{Lookup}
use Rattle.wt_wire.specs.declared.side.Side.{Side}

-- the request to this authority and path has all these fields, none of which is reserved; or this is the first reserved name
abbrev pub IsRequestFor : List ℕ → List ℕ → Fields → Result Fields (List ℕ) → Type 0
IsRequestFor authority path headers (Ok request) =
    (request ≡ with_fields (request_fields authority path) headers) × (reserved_name headers ≡ None)
IsRequestFor authority path headers (Err name) = reserved_name headers ≡ Some name

-- how far a connect is that has just dialled
abbrev pub begun_as : Result Fields (List ℕ) → Connect
begun_as (Ok request) = Dialled (headers_frame_bytes request)
begun_as (Err name) = Reserved name

-- the connect to this target has just begun
abbrev pub IsNewConnect : Target → Connect → Type 0
IsNewConnect t (Reserved name) = t.reserved ≡ Some name
IsNewConnect t (Dialled head) = (t.reserved ≡ None) × (head ≡ t.frame)
IsNewConnect t (Asking id head left is_sent) = ⊥

-- a connect that begins is to the target that the definitions find
abbrev pub BeginsConnect : List ℕ → Fields → Lookup → ConnectOutcome → Result Connect ConnectingError → Type 0
BeginsConnect url headers lookup outcome (Ok c) = (t : Target) × (target_of (parse_url None url) headers lookup outcome ≡ Ok t) × IsNewConnect t c
BeginsConnect url headers lookup outcome (Err e) = target_of (parse_url None url) headers lookup outcome ≡ Err e

-- a connect that began goes on by this log
abbrev pub HasBegun : Result Connect ConnectingError → Side → Log → Type 0
HasBegun (Ok c) side log = HasConnect c side log
HasBegun (Err e) side log = Unit {0}

-- where a poll is pending, the connect goes on by this log
abbrev pub ConnectsOn : {T : Type 0} → Connect → Poll (Result T ConnectingError) → Side → Log → Type 0
ConnectsOn later Pending side log = IsConnecting later side log
ConnectsOn later (Ready answer) side log = Unit {0}

-- where a poll is pending, the value is the connect of the log after it
abbrev pub StillConnects : {T : Type 0} → Connect → Connect → Poll (Result T ConnectingError) → Side → Log → ℕ → Type 0
StillConnects c later answer side log collected = HasConnect c side log → ConnectsOn later answer side (call_effect side log calls.Handshake).log

-- what a connect leads to, once the connection was established and the peer's SETTINGS came
abbrev pub connect_effect : Side → Log → Connect → Effect
connect_effect side log (Reserved name) = abandon side log [] (connects.ReservedHeader name)
connect_effect side log (Dialled head) = open_request side log head
connect_effect side log (Asking id head left is_sent) = open_request side log head

-- ---- the request and its response

-- the request goes on by this log: what of it isn't out is what its value has
pub record GoesOut (a : Asked) (log : Log) : Type 0 where
  pub left : a.is_sent ≡ false → (head_left log a.id a.head ≡ a.left) × (is_nothing a.left ≡ false)
  pub out : a.is_sent ≡ true → head_left log a.id a.head ≡ []

-- a log with one more poll, which opened no stream
pub record IsPolled (side : Side) (before after : Log) : Type 0 where
  pub calls : calls_of after ≡ Polled ∷ calls_of before
  pub opened : local_count (actions_of after) (local_bi side) ≡ local_count (actions_of before) (local_bi side)

-- the request goes out on the client's first bidirectional stream
pub record IsAsking (a : Asked) (side : Side) (log : Log) : Type 0 where
  pub client : is_client side ≡ true
  pub id : a.id ≡ local_bi side
  pub state : handshake_state (calls_of log) ≡ Connecting None a.head
  pub unestablished : (call_view log).sessions ≡ []
  pub may : MayWrite side log a.id
  pub going : GoesOut a log

-- where its poll is pending, it goes on by the log after it
abbrev pub StillAsks : {T : Type 0} → Asked → Asked → Poll (Result T ConnectingError) → Side → Log → Type 0
StillAsks a later Pending side log =
    GoesOut later (send_request side log a.id [] (head_left log a.id a.head)).log × IsPolled side log (send_request side log a.id [] (head_left log a.id a.head)).log
StillAsks a later (Ready answer) side log = Unit {0}

-- a request on its stream, of which nothing is out
abbrev pub new_asked : ℕ → List ℕ → Asked
new_asked id head = record { id = id; head = head; left = head; is_sent = false }

-- the connect is this request on its stream, which goes on where its poll is pending
pub record AsksAs (a : Asked) (c : Connect) {T : Type 0} (answer : Poll (Result T ConnectingError)) (side : Side) (log : Log) : Type 0 where
  pub later : Asked
  pub is : c ≡ Asking later.id later.head later.left later.is_sent
  pub id : later.id ≡ a.id
  pub head : later.head ≡ a.head
  pub still : StillAsks a later answer side log

-- the stream for this request is open, or none may be opened yet, or the connection isn't open: it goes on
abbrev pub OpenedGoesOn : DriverNow → DriverNow → Connect → List ℕ → Result OpenSession DriverError → Poll (Result ℕ ConnectingError) → Type 0
OpenedGoesOn d later c head opened answer = (side : Side) (log : Log) (collected : ℕ) (before : DriverNow) (request : Fields) → Follows side before log collected → IsReachable side log → HasConnect (Dialled head) side log
    → is_nothing head ≡ false → OpensFor side log collected before d request opened
    → Did side later collected (connecting_reply answer) (open_request side log head) × ConnectsOn c answer side (open_request side log head).log

-- the response to the request of this stream may be read, and establish the session
pub record MayRespond (id : ℕ) (side : Side) (log : Log) : Type 0 where
  pub client : is_client side ≡ true
  pub first : id ≡ local_bi side
  pub dialling : IsDialling log
  pub unestablished : (call_view log).sessions ≡ []
  pub may : MayWrite side log id

-- after a write of what is left of a request
abbrev pub AskingGoesOn : DriverNow → DriverNow → ℕ → Poll (Result (Unit {0}) ProtoWriteError) → Poll (Result ℕ ConnectingError) → Type 0
AskingGoesOn d later id written answer = (side : Side) (log : Log) (collected : ℕ) (left : List ℕ) → Follows side d (with_actions (write_actions log id left) log) collected → IsWithin side log
    → MayRespond id side log → is_nothing left ≡ false → written ≡ write_answer log id left → Did side later collected (connecting_reply answer) (send_request side log id [] left)

-- the session is established while the connection is open, and fails with it
abbrev pub establish_if_open : Side → Log → ℕ → ℕ → Effect
establish_if_open side log id offset =
    if is_open log then establish side log [] id offset else fail_connect side log [] (connects.ConnectionError (driver_error side log))
