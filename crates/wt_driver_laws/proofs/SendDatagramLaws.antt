-- A datagram of a session is sent: the answer is as the log says, and the driver follows the log with it.
use Rattle.std.proofs.Common.{◌≡◌, ◌∷◌, Bool, List, None, Option, Some, [], ap, false, length, refl, subst, sym, true, ℕ}
use Rattle.std.specs.Prelude.{◌&&◌, ◌/◌, Result, if◌then◌else◌, nat_lt}
use Rattle.wt_driver_laws.proofs.HalfLogs.{did-poll}
use Rattle.wt_driver_laws.proofs.OpenLives.{lives-now}
use Rattle.wt_driver_laws.proofs.Reach.{reached_fits}
use Rattle.wt_driver_laws.proofs.WriteSafe.{datagram-safe, nothing-safe}
use Rattle.wt_driver_laws.specs.Calling.{Did, Does}
use Rattle.wt_driver_laws.specs.Driving.{Follows, uncollected_since}
use Rattle.wt_driver_laws.specs.Having.{HasSession}
use Rattle.wt_driver_laws.specs.Passing.{on_transport}
use Rattle.wt_driver_laws.specs.Replies.{datagram_reply}
use Rattle.wt_driver_laws.specs.Writing.{DatagramSent, datagram_error_now, datagram_refusal, datagram_sent_now, datagram_sent_unless}
use Rattle.wt_kept.specs.Kept.{DriverNow}
use Rattle.wt_message.specs.Datagram.{datagram_bytes}
use Rattle.wt_transport.proofs.Refining.{datagram_refines, refined_datagram_fact, refined_open}
use Rattle.wt_transport.specs.Step.{with_action}
use Rattle.wt_turn.specs.Reports.{datagram_fact}
use Rattle.wt_sessions.specs.Answers.{call_effect, in_session}
use Rattle.wt_sessions.specs.Connection.{datagram_allowed, send_datagram}
use Rattle.wt_sessions.specs.Driver.{is_living}
use Rattle.wt_sessions.specs.Effect.{Effect, poll_only, poll_sending}
use Rattle.wt_sessions.specs.Moment.{Fits}
use Rattle.wt_turn.specs.Log.{Log, events_of, is_open}
use Rattle.wt_turn.specs.declared.action.Action.{Action}
use Rattle.wt_turn.specs.declared.action.Action.TheVariants as actions
use Rattle.wt_turn.specs.declared.call.Call.TheVariants as calls
use Rattle.wt_turn.specs.declared.datagram_fact.DatagramFact.{DatagramFact}
use Rattle.wt_turn.specs.declared.datagram_fact.DatagramFact.TheVariants as facts
use Rattle.wt_turn.specs.declared.reply.Reply.TheVariants as replies
use Rattle.wt_turn.specs.declared.stream_error.SendDatagramError.{SendDatagramError}
use Rattle.wt_turn.specs.declared.stream_error.SendDatagramError.TheVariants as datagrams
use Rattle.wt_wire.specs.declared.side.Side.{Side}

send-effect : (s : ℕ) (payload : List ℕ) (side : Side) (log : Log) → HasSession s side log → call_effect side log (calls.SendDatagram payload (Some s)) ≡ send_datagram side log payload s
unfolding call_effect
send-effect s payload side log has = ap (in_session side log (send_datagram side log payload)) has

module _ (s : ℕ) (payload : List ℕ) (d : DriverNow) (side : Side) (log : Log) (collected : ℕ) (f : Follows side d log collected) (fits : Fits side log) where
  abbrev bytes : List ℕ
  bytes = datagram_bytes (s / 4) payload

  abbrev left : List Action
  left = uncollected_since collected log

  fails : (e : SendDatagramError) → Did side d collected (replies.DatagramFailed e) (poll_only side log (replies.DatagramFailed e))
  fails e = did-poll side d log collected f fits (poll_only side log (replies.DatagramFailed e)) [] (replies.DatagramFailed e) d d.work.transport refl refl
      (nothing-safe side d log left f.kept) f.kept.amid.work.transport

  sends : Did side (on_transport (λ t. with_action t (actions.DatagramOut bytes)) d) collected replies.Done (poll_sending side log (actions.DatagramOut bytes ∷ []) replies.Done)
  sends = did-poll side d log collected f fits (poll_sending side log (actions.DatagramOut bytes ∷ []) replies.Done) (actions.DatagramOut bytes ∷ []) replies.Done
      (on_transport (λ t. with_action t (actions.DatagramOut bytes)) d) (with_action d.work.transport (actions.DatagramOut bytes)) refl refl
      (datagram-safe side d log left f.kept bytes) (datagram_refines side d.work.transport log f.kept.position left f.kept.amid.work.transport bytes)

  abbrev DoneBy : Option SendDatagramError → Effect → Type 0
  DoneBy o effect = Did side (datagram_sent_unless o bytes d).driver collected (datagram_reply (datagram_sent_unless o bytes d).answer) effect

  within : (too_large : Bool) → DoneBy (if too_large then Some datagrams.TooLarge else None)
      (if too_large then poll_only side log (replies.DatagramFailed datagrams.TooLarge) else poll_sending side log (actions.DatagramOut bytes ∷ []) replies.Done)
  within true = fails datagrams.TooLarge
  within false = sends

  allowed : (fact : Option DatagramFact) → DoneBy (datagram_refusal fact (length bytes)) (datagram_allowed side log bytes fact)
  allowed None = fails datagrams.NotConnected
  allowed (Some facts.Disabled) = fails datagrams.Disabled
  allowed (Some facts.Unsupported) = fails datagrams.UnsupportedByPeer
  allowed (Some (facts.Limit limit)) = within (nat_lt limit (length bytes))

  lives : (b : Bool) → DoneBy (if b then datagram_refusal (datagram_fact (events_of log)) (length bytes) else Some datagrams.NotConnected)
      (if b then datagram_allowed side log bytes (datagram_fact (events_of log)) else poll_only side log (replies.DatagramFailed datagrams.NotConnected))
  lives true = allowed (datagram_fact (events_of log))
  lives false = fails datagrams.NotConnected

  error-same : datagram_error_now s (length bytes) d
      ≡ (if is_open log && is_living side log s then datagram_refusal (datagram_fact (events_of log)) (length bytes) else Some datagrams.NotConnected)
  error-same = λ i. if refined_open side d.work.transport log f.kept.position left f.kept.amid.work.transport i && lives-now side d log left f.kept s i
      then datagram_refusal (refined_datagram_fact side d.work.transport log f.kept.position left f.kept.amid.work.transport i) (length bytes) else Some datagrams.NotConnected

  pub sent : HasSession s side log → Did side (datagram_sent_now s payload d).driver collected (datagram_reply (datagram_sent_now s payload d).answer) (call_effect side log (calls.SendDatagram payload (Some s)))
  sent has = subst (λ (effect : Effect). DoneBy (datagram_error_now s (length bytes) d) effect) (sym (send-effect s payload side log has))
      (subst (λ (o : Option SendDatagramError). DoneBy o (send_datagram side log payload s)) (sym error-same) (lives (is_open log && is_living side log s)))

-- a datagram of the session is sent
pub send_datagram_law : (s : ℕ) (payload : List ℕ) (a : Result (Unit {0}) SendDatagramError) (d later : DriverNow) → record { answer = a; driver = later } ≡ datagram_sent_now s payload d
    → Does d later (HasSession s) (calls.SendDatagram payload (Some s)) datagram_reply a
send_datagram_law s payload a d later is side log collected f reached has =
    subst (λ (x : DatagramSent). Did side x.driver collected (datagram_reply x.answer) (call_effect side log (calls.SendDatagram payload (Some s)))) (sym is)
    (sent s payload d side log collected f (reached_fits side log reached) has)
