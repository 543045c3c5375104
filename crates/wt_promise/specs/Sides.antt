-- What one side can say of another's answers, by the bytes that came: on this a checker of recorded answers rests, and what joins two ends.
use Rattle.std.specs.Prelude.{[], ◌%◌, ◌&&◌, ◌==◌, ◌∷◌, ◌||◌, ◌≡◌, Bool, List, None, Option, Some, false, filter, filter_map, if◌then◌else◌, is_some, map, not, true, ℕ}
use Rattle.std.specs.List.{list_any}
use Rattle.wt_meaning.specs.Handshakes.{was_given}
use Rattle.wt_meaning.specs.History.{History, events, is_handed_out, is_open}
use Rattle.wt_meaning.specs.Meaning.{next, with_pair}
use Rattle.wt_meaning.specs.Moments.{control_walk, verdict}
use Rattle.wt_meaning.specs.Windows.{is_number, named}
use Rattle.wt_message.specs.Datagram.{datagram_of}
use Rattle.wt_meaning.specs.Lawful.{is_lawful, is_pending}
use Rattle.wt_promise.specs.Found.{least_control, peer_opened, said_by}
use Rattle.wt_promise.specs.Promise.{acts_on}
use Rattle.wt_turn.specs.Reports.{datagrams_of}
use Rattle.wt_turn.specs.declared.action.Action.{Action}
use Rattle.wt_turn.specs.declared.answer.Answer.{Answer}
use Rattle.wt_turn.specs.declared.call.Call.{Call}
use Rattle.wt_turn.specs.declared.turn.Turn.{Turn}
use Rattle.wt_wire.specs.HeaderList.{Fields}
use Rattle.wt_wire.specs.declared.side.Side.{Side}
use Rattle.wt_wire.specs.declared.side.Side.TheVariants.{Server}
use Rattle.wt_proto.specs.declared.verdict.Verdict.TheVariants as verdicts
use Rattle.wt_turn.specs.declared.action.Action.TheVariants as actions
use Rattle.wt_turn.specs.declared.call.Call.TheVariants as calls
use Rattle.wt_turn.specs.declared.turn.Turn.TheVariants as turns

-- ---- what is given, by bytes

-- A stream that a reply gives: the call is an accept of its kind, the peer opened it, no reply handed it out before, and at
-- its front stands the header of the session that the call names.
pub record StreamGiven (side : Side) (h : History) (turn : Turn) (k kind : ℕ) (accept : Option ℕ → Call) : Type 0 where
  pub name : Option ℕ
  pub asked : turn ≡ turns.Call (accept name)
  pub session : ℕ
  pub of_it : named h name ≡ Some session
  pub of_kind : k % 4 ≡ kind
  pub opened : peer_opened side h k ≡ true
  pub once : is_handed_out h k ≡ false
  pub offset : ℕ
  pub shown : verdict h k ≡ verdicts.WebTransport session offset

-- a request that a reply gives: the call is an Incoming, the peer opened the stream, no reply gave it before, and the stream carries it
pub record RequestGiven (side : Side) (h : History) (turn : Turn) (k : ℕ) (headers : Fields) : Type 0 where
  pub asked : turn ≡ turns.Call calls.Incoming
  pub opened : peer_opened side h k ≡ true
  pub once : was_given h k ≡ false
  pub offset : ℕ
  pub shown : verdict h k ≡ verdicts.Request headers offset

-- a CONNECT request came on the stream, which the peer opened
pub record AsksFor (side : Side) (h : History) (s : ℕ) : Type 0 where
  pub opened : peer_opened side h s ≡ true
  pub headers : Fields
  pub offset : ℕ
  pub shown : verdict h s ≡ verdicts.Request headers offset

-- what a session that a reply gives rests on, by bytes: the peer's control stream of least id has its SETTINGS, and on a
-- server the session's stream a CONNECT request
pub record SessionGiven (side : Side) (h : History) (s : ℕ) : Type 0 where
  pub settings : is_some (control_walk h (least_control side h)).settings ≡ true
  pub request : side ≡ Server → AsksFor side h s

-- ---- datagrams

-- the payloads that came for a session while the connection was open, in order
abbrev pub arrived : History → ℕ → List (List ℕ)
arrived h s = map (λ (d : ℕ × List ℕ). d.1) (filter (λ (d : ℕ × List ℕ). d.0 == s) (filter_map (λ (piece : List ℕ). said_by (datagram_of piece)) (datagrams_of (events h))))

-- ---- the end of a stream

-- ---- a call finds nothing

-- ---- streams that this end opens

-- the stream of this kind that the action opens
abbrev pub opens_of : ℕ → Action → Option ℕ
opens_of kind (actions.Opened id) = if id % 4 == kind then Some id else None
opens_of kind _ = None

-- in front of the opening of a stream no action passes the test
abbrev pub opened_before : (Action → Bool) → ℕ → List Action → Bool
opened_before acts k [] = true
opened_before acts k (a ∷ later) = is_number k (opens_of (k % 4) a) || (not (acts a) && opened_before acts k later)

-- in front of the opening of a stream nothing is sent on it, and it is neither finished nor reset
abbrev pub opened_first : ℕ → List Action → Bool
opened_first k all = opened_before (acts_on k) k all

-- ---- what waits on a stream

-- the turn is about the stream, or brings the connection
abbrev pub is_about : ℕ → Turn → Bool
is_about k (turns.Connected uni bi total fact) = true
is_about k (turns.Bytes id piece) = id == k
is_about k (turns.End id) = id == k
is_about k (turns.Reset id code) = id == k
is_about k (turns.Stop id code) = id == k
is_about k (turns.Acked id) = id == k
is_about k (turns.MaxData id total) = id == k
is_about k (turns.Call (calls.Read id size)) = id == k
is_about k (turns.Call (calls.ReadExact id size)) = id == k
is_about k (turns.Call (calls.ResetSend id code)) = id == k
is_about k (turns.Call (calls.StopRecv id code)) = id == k
is_about k _ = false

-- the turn brings the connection, or lets this end open more streams
abbrev pub brings_streams : Turn → Bool
brings_streams (turns.Connected uni bi total fact) = true
brings_streams (turns.MaxUni total) = true
brings_streams (turns.MaxBi total) = true
brings_streams _ = false

-- the call may wait on a half of the stream
abbrev pub waits_on : ℕ → Call → Bool
waits_on k (calls.Write id bytes) = id == k
waits_on k (calls.Finish id) = id == k
waits_on k (calls.Stopped id) = id == k
waits_on k (calls.Read id size) = id == k
waits_on k (calls.ReadExact id size) = id == k
waits_on k _ = false

-- a call that would be Pending on a stream still would after a turn that isn't about it, where nothing goes out on it, no
-- finish and no reset, and the connection is open
abbrev pub StillWaits : Side → History → Turn → Answer → Type 0
StillWaits side h turn a =
    (k : ℕ) (call : Call) → waits_on k call ≡ true → is_about k turn ≡ false → list_any (acts_on k) a.actions ≡ false → is_lawful side h (turns.Call call) ≡ true
    → is_open (with_pair h turn a) ≡ true → is_pending (next side h (turns.Call call)).reply ≡ true → is_pending (next side (with_pair h turn a) (turns.Call call)).reply ≡ true

-- ---- a finish is the last that is sent
