-- What came agrees: after each turn of the transport the history and the log have the same events, contents and end; a call brings nothing.
use Rattle.std.specs.Prelude.{[], ◌&&◌, ◌++◌, ◌==◌, ◌∷◌, ◌≡◌, Bool, List, Some, false, if◌then◌else◌, length, nat_le, nat_lt, not, true, ℕ}
use Rattle.std.proofs.Common.{◌∙◌, ap, arith, refl, sym}
use Rattle.wt_message.specs.FixedBytes.{local_control_bytes}
use Rattle.wt_meaning.specs.History.{History, all_events, contents, events, is_open, with_bytes, with_event}
use Rattle.wt_meaning.specs.Meaning.{with_pair}
use Rattle.wt_meaning.specs.Moments.{is_ready}
use Rattle.wt_turn.specs.Arrivals.{event_entry}
use Rattle.wt_turn.specs.Reports.{credit}
use Rattle.wt_turn.specs.Streams.{local_uni}
use Rattle.wt_turn.specs.Streams as streams
use Rattle.wt_sessions.specs.Answers.{log_after}
use Rattle.wt_sessions.specs.Driver.{apply_if, flush, is_moment, log_and_flush, pending_actions, settings_ready}
use Rattle.wt_sessions_agree.specs.Agrees.{Agrees}
use Rattle.wt_turn.specs.Log.{Called, CallRecord, Entry, Event, Log, Received, Reported, ReportedLate, Sent, all_events_of, closes, events_of, with_actions}
use Rattle.wt_turn.specs.Log as logs
use Rattle.wt_turn.specs.Turns.{event_of}
use Rattle.wt_turn.specs.declared.action.Action.{Action}
use Rattle.wt_turn.specs.declared.answer.Answer.{Answer}
use Rattle.wt_turn.specs.declared.call.Call.{Call}
use Rattle.wt_turn.specs.declared.turn.Turn.{Turn}
use Rattle.wt_wire.specs.Varint.{varint_bytes}
use Rattle.wt_wire.specs.declared.side.Side.{Side}
use Rattle.wt_turn.specs.declared.turn.Turn.TheVariants as turns

-- ---- actions change nothing of what came

pub acted-events : (own : List Action) (log : Log) → events_of (with_actions own log) ≡ events_of log
acted-events [] log = refl
acted-events (a ∷ own) log = acted-events own (Sent a ∷ log)

pub acted-all : (own : List Action) (log : Log) → all_events_of (with_actions own log) ≡ all_events_of log
acted-all [] log = refl
acted-all (a ∷ own) log = acted-all own (Sent a ∷ log)

pub acted-contents : (own : List Action) (log : Log) (k : ℕ) → streams.contents (with_actions own log) k ≡ streams.contents log k
acted-contents [] log k = refl
acted-contents (a ∷ own) log k = acted-contents own (Sent a ∷ log) k

pub flushed : {A : Type 0} (f : Log → A) → ((own : List Action) (log : Log) → f (with_actions own log) ≡ f log) → (side : Side) (e : Entry) (log : Log) → f (log_and_flush side log e) ≡ f (e ∷ log)
unfolding flush
flushed f same side e log = by (is_moment e && logs.is_open (e ∷ log))
  where
    by : (b : Bool) → f (apply_if b (with_actions (pending_actions side (e ∷ log))) (e ∷ log)) ≡ f (e ∷ log)
    by true = same (pending_actions side (e ∷ log)) (e ∷ log)
    by false = refl

-- ---- a turn of the transport

-- what a turn of the transport adds: a byte, an event, or nothing
event-agrees : (side : Side) (h : History) (log : Log) (turn : Turn) (a : Answer) (e : Event) → Agrees h log → event_of turn ≡ Some e → ((k : ℕ) (before : List ℕ) → with_bytes k turn before ≡ before)
    → is_open (with_pair h turn a) ≡ logs.is_open (log_and_flush side log (event_entry (logs.is_open log) e)) → Agrees (with_pair h turn a) (log_and_flush side log (event_entry (logs.is_open log) e))
event-agrees side h log turn a e g t w o = record {
  events = told (is_open h) (logs.is_open log) refl refl ∙ sym (flushed events_of acted-events side (event_entry (logs.is_open log) e) log);
  all_events = all (logs.is_open log) ∙ sym (flushed all_events_of acted-all side (event_entry (logs.is_open log) e) log);
  openness = o;
  contents = λ k. came k (is_open h) (logs.is_open log) ∙ sym (flushed (λ l. streams.contents l k) (λ own l. acted-contents own l k) side (event_entry (logs.is_open log) e) log);
}
  where
    told : (b c : Bool) → is_open h ≡ b → logs.is_open log ≡ c → (if b then with_event (event_of turn) (events h) else events h) ≡ events_of (event_entry c e ∷ log)
    told true true p q = rw t (ap (λ es. e ∷ es) g.events)
    told false false p q = g.events
    told true false p q = absurd (cc (sym p ∙ g.openness ∙ q))
    told false true p q = absurd (cc (sym p ∙ g.openness ∙ q))

    all : (c : Bool) → all_events (with_pair h turn a) ≡ all_events_of (event_entry c e ∷ log)
    all true = rw t (ap (λ es. e ∷ es) g.all_events)
    all false = rw t (ap (λ es. e ∷ es) g.all_events)

    came : (k : ℕ) (b c : Bool) → (if b then with_bytes k turn (contents h k) else contents h k) ≡ streams.contents (event_entry c e ∷ log) k
    came k true true = w k (contents h k) ∙ g.contents k
    came k true false = w k (contents h k) ∙ g.contents k
    came k false true = g.contents k
    came k false false = g.contents k

-- a byte of a stream
byte-agrees : (side : Side) (h : History) (log : Log) (id b : ℕ) (a : Answer) → Agrees h log
    → is_open (with_pair h (turns.Bytes id (b ∷ [])) a) ≡ logs.is_open (log_after side log (turns.Bytes id (b ∷ [])))
    → Agrees (with_pair h (turns.Bytes id (b ∷ [])) a) (log_after side log (turns.Bytes id (b ∷ [])))
byte-agrees side h log id b a g o = record {
  events = told (is_open h) (logs.is_open log) g.openness;
  all_events = all (logs.is_open log);
  openness = o;
  contents = λ k. came k (is_open h) (logs.is_open log) g.openness;
}
  where
    told : (x y : Bool) → x ≡ y → (if x then events h else events h) ≡ events_of (if y then log_and_flush side log (Received id b) else log)
    told true true e = g.events ∙ sym (flushed events_of acted-events side (Received id b) log)
    told false false e = g.events
    told true false e = absurd (cc e)
    told false true e = absurd (cc e)

    all : (y : Bool) → all_events h ≡ all_events_of (if y then log_and_flush side log (Received id b) else log)
    all true = g.all_events ∙ sym (flushed all_events_of acted-all side (Received id b) log)
    all false = g.all_events

    came : (k : ℕ) (x y : Bool) → x ≡ y → (if x then (if id == k then contents h k ++ b ∷ [] else contents h k) else contents h k)
        ≡ streams.contents (if y then log_and_flush side log (Received id b) else log) k
    came k true true e = one k (id == k) ∙ sym (flushed (λ l. streams.contents l k) (λ own l. acted-contents own l k) side (Received id b) log)
      where
        one : (k : ℕ) (c : Bool) → (if c then contents h k ++ b ∷ [] else contents h k) ≡ (if c then streams.contents log k ++ b ∷ [] else streams.contents log k)
        one k true = ap (λ (bytes : List ℕ). bytes ++ b ∷ []) (g.contents k)
        one k false = g.contents k
    came k false false e = g.contents k
    came k true false e = absurd (cc e)
    came k false true e = absurd (cc e)

-- the turn is one of the transport, and brings one byte at most
abbrev pub is_single : Turn → Bool
is_single (turns.Call call) = false
is_single (turns.Bytes id (b ∷ c ∷ later)) = false
is_single (turns.Bytes id []) = false
is_single _ = true

-- after each turn of the transport the same came, as long as both end alike
pub turn_agrees : (side : Side) (h : History) (log : Log) (turn : Turn) (a : Answer) → is_single turn ≡ true → Agrees h log
    → is_open (with_pair h turn a) ≡ logs.is_open (log_after side log turn) → Agrees (with_pair h turn a) (log_after side log turn)
turn_agrees side h log (turns.Bytes id (b ∷ [])) a s g o = byte-agrees side h log id b a g o
turn_agrees side h log (turns.Bytes id (b ∷ c ∷ later)) a s g o = absurd (cc)
turn_agrees side h log (turns.Bytes id []) a s g o = absurd (cc)
turn_agrees side h log (turns.Call call) a s g o = absurd (cc)
turn_agrees side h log turn a s g o = event-agrees side h log turn a _ g refl (λ k before. refl) o

-- ---- a call

pub called-events : (h : History) (c : Call) (a : Answer) → events (with_pair h (turns.Call c) a) ≡ events h
called-events h c a = by (is_open h)
  where
    by : (b : Bool) → (if b then events h else events h) ≡ events h
    by true = refl
    by false = refl

pub called-contents : (h : History) (c : Call) (a : Answer) (k : ℕ) → contents (with_pair h (turns.Call c) a) k ≡ contents h k
called-contents h c a k = by (is_open h)
  where
    by : (b : Bool) → (if b then contents h k else contents h k) ≡ contents h k
    by true = refl
    by false = refl

-- ---- this end is ready in both or in none

settings-length : length local_control_bytes ≡ 25
unfolding varint_bytes
settings-length = refl

le-lt : (n c : ℕ) → n ≡ 25 → nat_le 25 c ≡ not (nat_lt c n)
le-lt n c e = grind (arith, e)

pub ready-by-events : (side : Side) (h : History) (log : Log) → events h ≡ events_of log → is_ready side h ≡ settings_ready side log
ready-by-events side h log e = rw (e, le-lt (length local_control_bytes) (credit (events_of log) (local_uni side)) settings-length) refl
