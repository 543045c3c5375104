-- The reply of a run's call that a typed answer of a session or of a handshake stands for.
use Rattle.std.specs.Prelude.{◌≡◌, Err, None, Ok, Option, Result, ℕ}
use Rattle.wt_sessions.specs.Answers.{named_session}
use Rattle.wt_turn.specs.Log.{Log}
use Rattle.wt_turn.specs.declared.connecting_error.ConnectingError.{ConnectingError}
use Rattle.wt_turn.specs.declared.connection_error.ConnectionError.{ConnectionError}
use Rattle.wt_turn.specs.declared.poll.Poll.{Poll}
use Rattle.wt_turn.specs.declared.poll.Poll.TheVariants.{Pending, Ready}
use Rattle.wt_turn.specs.declared.reply.Reply.{Reply}
use Rattle.wt_turn.specs.declared.reply.Reply.TheVariants as replies
use Rattle.wt_wire.specs.HeaderList.{Fields}
use Rattle.wt_wire.specs.declared.side.Side.{Side}

-- ---- a session

-- some session was established
abbrev pub HasAny : Side → Log → Type 0
HasAny side log = named_session log None ≡ None → ⊥

-- the greatest payload of a datagram
abbrev pub size_reply : Option ℕ → Reply
size_reply size = replies.Size size

-- how the connection ended
abbrev pub closed_reply : Poll ConnectionError → Reply
closed_reply Pending = replies.Pending
closed_reply (Ready e) = replies.Closed e

-- ---- handshakes

-- a request: the stream of its session, and its fields
pub record Request : Type 0 where
  pub id : ℕ
  pub fields : Fields

-- a call for a request
abbrev pub incoming_reply : Poll (Result Request ConnectionError) → Reply
incoming_reply Pending = replies.Pending
incoming_reply (Ready (Ok r)) = replies.Request r.id r.fields
incoming_reply (Ready (Err e)) = replies.Failed e

-- a poll of an acceptance
abbrev pub accepting_reply : Poll (Result ℕ ConnectionError) → Reply
accepting_reply Pending = replies.Pending
accepting_reply (Ready (Ok id)) = replies.Session id
accepting_reply (Ready (Err e)) = replies.Failed e

-- a poll of a rejection
abbrev pub rejecting_reply : Poll (Unit {0}) → Reply
rejecting_reply Pending = replies.Pending
rejecting_reply (Ready u) = replies.Rejected

-- a poll of a connect
abbrev pub connecting_reply : Poll (Result ℕ ConnectingError) → Reply
connecting_reply Pending = replies.Pending
connecting_reply (Ready (Ok id)) = replies.Session id
connecting_reply (Ready (Err e)) = replies.ConnectFailed e

-- the beginning of a connect, which gives what goes on
abbrev pub beginning_reply : {T : Type 0} → Result T ConnectingError → Reply
beginning_reply (Ok connecting) = replies.Pending
beginning_reply (Err e) = replies.ConnectFailed e
