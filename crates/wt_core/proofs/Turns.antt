-- What turns of the transport leave as it was: they record no call, and after any turn something happened.
use Rattle.std.specs.Prelude.{[], ◌&&◌, ◌∷◌, ◌≡◌, Bool, List, false, if◌then◌else◌, is_some, not, true, ℕ}
use Rattle.std.proofs.Common.{◌∙◌, refl}
use Rattle.std.proofs.lemmas.Bool.{and_parts}
use Rattle.wt_core.proofs.Logged.{calls-flushed, first-flushed}
use Rattle.std.specs.Prelude.{}
use Rattle.wt_sessions.specs.Answers.{actions_since, answer_to}
use Rattle.wt_turn.specs.Log.{}
use Rattle.wt_turn.specs.declared.action.Action.{Action}
use Rattle.wt_turn.specs.declared.call.Call.{Call}
use Rattle.wt_turn.specs.declared.reply.Reply.{Reply}
use Rattle.wt_turn.specs.Turns.{is_call}
use Rattle.wt_turn.specs.Arrivals.{event_entry, fits, may_come}
use Rattle.wt_turn.specs.Reports.{end_of, is_connected, is_running, loss_of}
use Rattle.wt_turn.specs.Streams.{can_receive}
use Rattle.wt_sessions.specs.Answers.{is_first, is_lawful, log_after, receive, turn_effect}
use Rattle.wt_turn.specs.declared.reply.Reply.TheVariants as replies
use Rattle.wt_sessions.specs.Driver.{flush, log_and_flush}
use Rattle.wt_turn.specs.Log.{Event, Log, Received, Reported, ReportedLate, all_events_of, calls_of, is_open}
use Rattle.wt_turn.specs.declared.turn.Turn.{Turn}
use Rattle.wt_turn.specs.declared.turn.Turn.TheVariants as turns
use Rattle.wt_wire.specs.declared.side.Side.{Side}

-- ---- the calls stay

event-calls : (side : Side) (log : Log) (b : Bool) (e : Event) → calls_of (flush side (event_entry b e ∷ log)) ≡ calls_of log
event-calls side log true e = calls-flushed side (Reported e ∷ log)
event-calls side log false e = calls-flushed side (ReportedLate e ∷ log)

byte-calls : (side : Side) (log : Log) (id b : ℕ) (o : Bool) → calls_of (if o then log_and_flush side log (Received id b) else log) ≡ calls_of log
byte-calls side log id b true = calls-flushed side (Received id b ∷ log)
byte-calls side log id b false = refl

bytes-calls : (side : Side) (log : Log) (id : ℕ) (piece : List ℕ) → calls_of (receive side log id piece) ≡ calls_of log
bytes-calls side log id [] = refl
bytes-calls side log id (b ∷ piece) = bytes-calls side (if is_open log then log_and_flush side log (Received id b) else log) id piece ∙ byte-calls side log id b (is_open log)

-- a turn of the transport records no call
pub same_calls : (side : Side) (log : Log) (turn : Turn) → is_call turn ≡ false → calls_of (log_after side log turn) ≡ calls_of log
same_calls side log (turns.Call call) n = absurd (cc)
same_calls side log (turns.Bytes id piece) n = bytes-calls side log id piece
same_calls side log _ n = event-calls side log (is_open log) _

-- ---- something happened

byte-first : (side : Side) (log : Log) (id b : ℕ) (o : Bool) → is_first log ≡ false → is_first (if o then log_and_flush side log (Received id b) else log) ≡ false
byte-first side log id b true f = first-flushed side (Received id b) log
byte-first side log id b false f = f

bytes-first : (side : Side) (log : Log) (id : ℕ) (piece : List ℕ) → is_first log ≡ false → is_first (receive side log id piece) ≡ false
bytes-first side log id [] f = f
bytes-first side log id (b ∷ piece) f = bytes-first side (if is_open log then log_and_flush side log (Received id b) else log) id piece (byte-first side log id b (is_open log) f)

connected-first : (log : Log) → is_connected (all_events_of log) ≡ true → is_first log ≡ false
connected-first [] c = absurd (cc)
connected-first (e ∷ log) c = refl

bytes-connected : (side : Side) (log : Log) (id : ℕ) (piece : List ℕ) → fits side log (turns.Bytes id piece) ≡ true → is_connected (all_events_of log) ≡ true
bytes-connected side log id piece l =
    let a = and_parts (may_come side log (turns.Bytes id piece)) (not (is_some (loss_of (all_events_of log)))) l in
    let b = and_parts (is_connected (all_events_of log) && can_receive side log id) (is_running (end_of (all_events_of log) id)) a.0 in
    (and_parts (is_connected (all_events_of log)) (can_receive side log id) b.0).0

pub turn_first : (side : Side) (log : Log) (turn : Turn) → is_lawful side log turn ≡ true → is_call turn ≡ false → is_first (log_after side log turn) ≡ false
turn_first side log (turns.Call call) l n = absurd (cc)
turn_first side log (turns.Bytes id piece) l n = bytes-first side log id piece (connected-first log (bytes-connected side log id piece l))
turn_first side log _ l n = first-flushed side (event_entry (is_open log) _) log

pub lawful_fits : (side : Side) (log : Log) (turn : Turn) → is_call turn ≡ false → is_lawful side log turn ≡ true → fits side log turn ≡ true
lawful_fits side log (turns.Call call) n l = absurd (cc)
lawful_fits side log _ n l = l

pub event_reply : (side : Side) (log : Log) (turn : Turn) → is_call turn ≡ false → replies.Done ≡ (turn_effect side log turn).reply
event_reply side log (turns.Call call) n = absurd (cc)
event_reply side log _ n = refl

pub not_call : (turn : Turn) → ((call : Call) → turn ≡ turns.Call call → ⊥) → is_call turn ≡ false
not_call (turns.Call call) n = absurd (n call refl)
not_call _ n = refl

-- ---- the answer

answer_is : (side : Side) (log : Log) (turn : Turn) (reply : Reply) (actions : List Action) → reply ≡ (turn_effect side log turn).reply → actions ≡ actions_since log (turn_effect side log turn).log
    → record { reply = reply; actions = actions } ≡ answer_to side log turn
answer_is side log turn reply actions e f = rw (e, f) refl

-- ---- which turn may come

pub event_is : (side : Side) (log : Log) (turn : Turn) → ((call : Call) → turn ≡ turns.Call call → ⊥) → fits side log turn ≡ is_lawful side log turn
event_is side log (turns.Call call) n = absurd (n call refl)
event_is side log _ n = refl
