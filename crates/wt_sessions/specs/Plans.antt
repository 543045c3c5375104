-- What the calls on a session do, as data, by what they ask of the driver and of the transport. Only those are here whose
-- plans differ once there are several sessions: accepts, receives, openings, the end of a session and that of a rejection.
use Rattle.std.specs.Prelude.{[], ◌&&◌, ◌++◌, ◌∷◌, Bool, List, None, Option, Some, if◌then◌else◌, not, ℕ}
use Rattle.wt_turn.specs.Outgoing.{may_open, next_id}
use Rattle.wt_sessions.specs.Answers.{named_session}
use Rattle.wt_sessions.specs.Connection.{next_datagram, next_stream, session_end_actions}
use Rattle.wt_sessions.specs.Driver.{ending_actions, has_no_session, is_living, is_session_gone}
use Rattle.wt_sessions.specs.Effect.{Effect, log_call, reply_with, session_error, transport_error}
use Rattle.wt_sessions.specs.StreamTable.{Admitted, Waiting}
use Rattle.wt_turn.specs.Log.{CallRecord, DatagramReceived, Log, OpeningStarted, Polled, RequestRejected, StreamAccepted, is_open}
use Rattle.wt_turn.specs.declared.action.Action.{Action}
use Rattle.wt_turn.specs.declared.connection_error.ConnectionError.{ConnectionError}
use Rattle.wt_turn.specs.declared.reply.Reply.{Reply}
use Rattle.wt_wire.specs.declared.side.Side.{Side}
use Rattle.wt_turn.specs.declared.action.Action.TheVariants as actions
use Rattle.wt_turn.specs.declared.reply.Reply.TheVariants as replies

-- what a call does: these go out, then this is recorded and answered
pub record Plan : Type 0 where
  pub own : List Action
  pub call : CallRecord
  pub reply : Reply

-- the plan with these
abbrev pub plan : List Action → CallRecord → Reply → Plan
plan own call reply = record { own = own; call = call; reply = reply }

-- what a plan leads to after a log
abbrev pub perform : Side → Log → Plan → Effect
perform side log p = reply_with (log_call side log p.own p.call) p.reply

-- nothing goes out, and nothing else is recorded
abbrev pub only_reply : Reply → Plan
only_reply reply = plan [] Polled reply

-- ---- what calls ask of sessions

-- the answers of the driver and of the transport
pub record SessionFacts : Type 0 where
  pub is_open : Bool
  pub named : Option ℕ → Option ℕ  -- the established session that a call means
  pub is_living : ℕ → Bool
  pub is_gone : ℕ → Bool
  pub error : ℕ → ConnectionError  -- how a session ended
  pub transport_error : ConnectionError
  pub next_stream : ℕ → ℕ → Option Waiting  -- of a kind, for a session
  pub next_datagram : ℕ → Option Admitted
  pub may_open : ℕ → Bool  -- of each kind
  pub next_id : ℕ → ℕ
  pub end_actions : ℕ → List Action  -- what goes out where the application ends a session
  pub gone_actions : ℕ → List Action  -- what goes out for the streams of one that becomes gone
  pub has_none : Bool  -- no session lives

-- the answers that a log gives
abbrev pub facts_of : Side → Log → SessionFacts
facts_of side log = record {
  is_open = is_open log;
  named = named_session log;
  is_living = is_living side log;
  is_gone = is_session_gone side log;
  error = session_error side log;
  transport_error = transport_error log;
  next_stream = next_stream side log;
  next_datagram = next_datagram side log;
  may_open = may_open side log;
  next_id = next_id side log;
  end_actions = session_end_actions side log;
  gone_actions = ending_actions side log;
  has_none = has_no_session side log;
}

-- a call on the session that it names; without one the answer is NoSession
abbrev pub in_session_plan : (ℕ → Plan) → Option ℕ → Plan
in_session_plan call None = only_reply replies.NoSession
in_session_plan call (Some s) = call s

-- nothing is left for the call: it waits while the connection is open and the session lives
abbrev pub left_plan : SessionFacts → ℕ → Plan
left_plan f s = only_reply (if f.is_open && f.is_living s then replies.Pending else replies.Failed (f.error s))

-- ---- accepts and receives

-- the stream is given; without one the call waits or fails
abbrev pub give_plan : SessionFacts → (ℕ → Reply) → ℕ → Option Waiting → Plan
give_plan f reply s (Some w) = plan [] (StreamAccepted w.id s) (reply w.id)
give_plan f reply s None = left_plan f s

-- the next stream of this kind of the session
abbrev pub accept_plan : SessionFacts → (ℕ → Reply) → ℕ → ℕ → Plan
accept_plan f reply kind s = give_plan f reply s (f.next_stream kind s)

-- the datagram is given; without one the call waits or fails
abbrev pub datagram_plan : SessionFacts → ℕ → Option Admitted → Plan
datagram_plan f s (Some d) = plan [] (DatagramReceived d.index) (replies.Datagram d.payload)
datagram_plan f s None = left_plan f s

-- the next datagram of the session
abbrev pub receive_plan : SessionFacts → ℕ → Plan
receive_plan f s = datagram_plan f s (f.next_datagram s)

-- ---- opens and ends

-- the next stream of this kind, as soon as the peer allows it (RFC 9000, section 4.6)
abbrev pub open_plan : SessionFacts → ℕ → ℕ → Plan
open_plan f kind s =
    if f.is_gone s then only_reply (replies.Failed (f.error s)) else
    (if not f.is_open then only_reply (replies.Failed f.transport_error) else
    (if f.may_open kind
    then plan (actions.Opened (f.next_id kind) ∷ []) (OpeningStarted (f.next_id kind) s) (replies.Opening (f.next_id kind))
    else only_reply replies.Pending))

-- the session ends, where the connection is open; one that is gone already sends nothing more
abbrev pub end_plan : SessionFacts → ℕ → Plan
end_plan f s =
    if f.is_open then plan (if f.is_living s then f.end_actions s else []) (RequestRejected s) replies.Done else only_reply replies.Done

-- the rejection of a request is over: its session is gone, and with no session left the connection is closed
abbrev pub rejected_plan : SessionFacts → ℕ → Plan
rejected_plan f s =
    plan (f.gone_actions s ++ (if f.has_none then (if f.is_open then actions.Close 0 [] ∷ [] else []) else [])) (RequestRejected s) replies.Rejected
