-- What a call does to a driver, and to what is kept of what the application has.
use Rattle.std.specs.Prelude.{◌≡◌, IfOk, Option, Result, true, ℕ}
use Rattle.wt_driver_laws.specs.Calling.{Did}
use Rattle.wt_driver_laws.specs.Driving.{Follows, IsReachable}
use Rattle.wt_driver_laws.specs.Having.{HasSession}
use Rattle.wt_kept.specs.Kept.{DriverNow}
use Rattle.wt_core.specs.Held.{with_session}
use Rattle.wt_core.specs.HeldNow.{HoldsSessions, HoldsStreams, OpeningNow, SessionsNow, StreamsNow, TakenOut}
use Rattle.wt_core.specs.Shakes.{PollsBy, Shake, ShakeIs, outcome_reply}
use Rattle.wt_core.specs.declared.handshake.Outcome.{Outcome}
use Rattle.wt_core.specs.declared.handshake.Outcome.TheVariants as outcomes
use Rattle.wt_sessions.specs.Answers.{call_effect, may_call, named_session}
use Rattle.wt_turn.specs.Log.{Log}
use Rattle.wt_turn.specs.declared.call.Call.{Call}
use Rattle.wt_turn.specs.declared.call.Call.TheVariants as calls
use Rattle.wt_turn.specs.declared.reply.Reply.{Reply}
use Rattle.wt_wire.specs.declared.side.Side.{Side}

-- a call is answered as the definitions say, and the streams that are kept then are the application's by the log after it
pub record Answered (side : Side) (log : Log) (collected : ℕ) (call : Call) (reply : Reply) (d : DriverNow) (streams : StreamsNow) : Type 0 where
  pub did : Did side d collected reply (call_effect side log call)
  pub holds : HoldsStreams side streams (call_effect side log call).log

-- of each log of lawful turns that the driver follows, after which the call may come
abbrev pub Answers : {E : Type 0} → DriverNow → StreamsNow → Call → Result Reply E → DriverNow → StreamsNow → Type 0
Answers d streams call result later m = IfOk result (λ reply. (side : Side) (log : Log) (collected : ℕ) → Follows side d log collected → IsReachable side log → HoldsStreams side streams log → may_call side log call ≡ true
    → Answered side log collected call reply later m)

-- the same where the application has this session
abbrev pub SessionAnswers : {E : Type 0} → ℕ → DriverNow → StreamsNow → Call → Result Reply E → DriverNow → StreamsNow → Type 0
SessionAnswers s d streams call result later m = IfOk result (λ reply. (side : Side) (log : Log) (collected : ℕ) → Follows side d log collected → IsReachable side log → HoldsStreams side streams log
    → HasSession s side log → may_call side log call ≡ true → Answered side log collected call reply later m)

-- the same where a session is found by its name
abbrev pub NamedAnswers : {E : Type 0} → DriverNow → SessionsNow → StreamsNow → Call → Result Reply E → DriverNow → StreamsNow → Type 0
NamedAnswers d sessions streams call result later m = IfOk result (λ reply. (side : Side) (log : Log) (collected : ℕ) → Follows side d log collected → IsReachable side log → HoldsSessions side sessions log
    → HoldsStreams side streams log → may_call side log call ≡ true → Answered side log collected call reply later m)

-- the same of a poll of this opening, which was taken out of what is kept, after which the poll may come
abbrev pub OpeningAnswers : {E : Type 0} → OpeningNow → DriverNow → StreamsNow → Result Reply E → DriverNow → StreamsNow → Type 0
OpeningAnswers o d streams result later m = IfOk result (λ reply. (side : Side) (log : Log) (collected : ℕ) (whole : StreamsNow) → Follows side d log collected → IsReachable side log
    → HoldsStreams side whole log → TakenOut whole streams o → may_call side log (calls.PollOpening o.opening.id) ≡ true → Answered side log collected (calls.PollOpening o.opening.id) reply later m)

-- the sessions that were established later: one more where the outcome is one
abbrev pub EstablishedBy : Outcome → Log → Log → Type 0
EstablishedBy (outcomes.Session s) log later = (name : Option ℕ) → named_session later name ≡ with_session s (named_session log) name
EstablishedBy (outcomes.Reply reply) log later = (name : Option ℕ) → named_session later name ≡ named_session log name

-- a call of a handshake is answered so, and the handshake and the sessions then are those of the log after it
pub record Shaken (side : Side) (log : Log) (collected : ℕ) (call : Call) (o : Outcome) (d : DriverNow) (shake : Shake) : Type 0 where
  pub did : Did side d collected (outcome_reply o) (call_effect side log call)
  pub is : ShakeIs side (call_effect side log call).log shake
  pub sessions : EstablishedBy o log (call_effect side log call).log

-- of each log of lawful turns that the driver follows, where the handshake is, and after which the call may come
abbrev pub ShakeAnswers : {E : Type 0} → DriverNow → Shake → Call → Result Outcome E → DriverNow → Shake → Type 0
ShakeAnswers d shake call result later next = IfOk result (λ o. (side : Side) (log : Log) (collected : ℕ) → Follows side d log collected → IsReachable side log → ShakeIs side log shake → may_call side log call ≡ true
    → Shaken side log collected call o later next)

-- the same of a handshake whose next poll is the call
abbrev pub GoesOnAs : {E : Type 0} → DriverNow → Shake → Call → Result Outcome E → DriverNow → Shake → Type 0
GoesOnAs d shake call result later next = IfOk result (λ o. (side : Side) (log : Log) (collected : ℕ) → Follows side d log collected → IsReachable side log → PollsBy shake call side log
    → may_call side log call ≡ true → Shaken side log collected call o later next)
