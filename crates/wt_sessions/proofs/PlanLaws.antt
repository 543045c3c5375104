-- The plans of the calls on a session, performed, are what these calls do.
use Rattle.std.specs.Prelude.{◌++◌, ◌≡◌, Bool, None, Option, Some, false, true, ℕ}
use Rattle.std.proofs.Common.{refl}
use Rattle.wt_turn.specs.Outgoing.{may_open}
use Rattle.wt_sessions.specs.Connection.{accept_stream, end_session, give_datagram, give_stream, next_datagram, next_stream, open_stream, receive_datagram}
use Rattle.wt_sessions.specs.Answers.{in_session, named_session, on_session}
use Rattle.wt_sessions.specs.Driver.{ending_actions, is_session_gone}
use Rattle.wt_sessions.specs.Effect.{Effect}
use Rattle.wt_sessions.specs.Handshake.{close_when_alone, end_rejection}
use Rattle.wt_sessions.specs.Plans.{Plan, accept_plan, datagram_plan, end_plan, facts_of, give_plan, in_session_plan, open_plan, perform, receive_plan, rejected_plan}
use Rattle.wt_sessions.specs.StreamTable.{Admitted, Waiting}
use Rattle.wt_turn.specs.Log.{Log, is_open}
use Rattle.wt_turn.specs.declared.reply.Reply.{Reply}
use Rattle.wt_wire.specs.declared.side.Side.{Side}

gives : (side : Side) (log : Log) (reply : ℕ → Reply) (s : ℕ) (o : Option Waiting) → perform side log (give_plan (facts_of side log) reply s o) ≡ give_stream side reply log s o
gives side log reply s (Some w) = refl
gives side log reply s None = refl

pub accepts : (side : Side) (log : Log) (reply : ℕ → Reply) (kind s : ℕ) → perform side log (accept_plan (facts_of side log) reply kind s) ≡ accept_stream side reply kind log s
accepts side log reply kind s = gives side log reply s (next_stream side log kind s)

given : (side : Side) (log : Log) (s : ℕ) (o : Option Admitted) → perform side log (datagram_plan (facts_of side log) s o) ≡ give_datagram side log s o
given side log s (Some d) = refl
given side log s None = refl

pub receives : (side : Side) (log : Log) (s : ℕ) → perform side log (receive_plan (facts_of side log) s) ≡ receive_datagram side log s
receives side log s = given side log s (next_datagram side log s)

pub opens : (side : Side) (log : Log) (kind s : ℕ) → perform side log (open_plan (facts_of side log) kind s) ≡ open_stream side log kind s
opens side log kind s = by (is_session_gone side log s) refl (is_open log) refl (may_open side log kind) refl
  where
    by : (g : Bool) → is_session_gone side log s ≡ g → (o : Bool) → is_open log ≡ o → (m : Bool) → may_open side log kind ≡ m → perform side log (open_plan (facts_of side log) kind s) ≡ open_stream side log kind s
    by true e o f m q = rw e refl
    by false e false f m q = rw (e, f) refl
    by false e true f true q = rw (q, e, f) refl
    by false e true f false q = rw (q, e, f) refl

pub ends : (side : Side) (log : Log) (s : ℕ) → perform side log (end_plan (facts_of side log) s) ≡ end_session side log s
ends side log s = by (is_open log) refl
  where
    by : (b : Bool) → is_open log ≡ b → perform side log (end_plan (facts_of side log) s) ≡ end_session side log s
    by true e = rw e refl
    by false e = rw e refl

pub rejects : (side : Side) (log : Log) (s : ℕ) → perform side log (rejected_plan (facts_of side log) s) ≡ end_rejection side log s (ending_actions side log s ++ close_when_alone side log)
rejects side log s = refl

-- a call on the session that it names, where its plan on that session does what the call does
pub in-session : (side : Side) (log : Log) (plan : ℕ → Plan) (call : ℕ → Effect) (name : Option ℕ) → ((s : ℕ) → perform side log (plan s) ≡ call s)
    → perform side log (in_session_plan plan (named_session log name)) ≡ on_session side log name call
in-session side log plan call name same = by (named_session log name)
  where
    by : (o : Option ℕ) → perform side log (in_session_plan plan o) ≡ in_session side log call o
    by None = refl
    by (Some s) = same s
