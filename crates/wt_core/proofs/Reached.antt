-- What the application has by a log of lawful turns, and by the log after a call: it is told by the call's reply.
use Rattle.std.proofs.Common.{◌∙◌, refl, subst, sym}
use Rattle.std.specs.List.{list_any}
use Rattle.std.specs.Prelude.{[], ◌≡◌, List, None, Option, Some, false, true, ℕ}
use Rattle.wt_driver_laws.proofs.ReachOrderly.{next_bi_unbegun, next_uni_unbegun, request_answered}
use Rattle.wt_driver_laws.specs.Driving.{AfterTurn, AtStart, IsReachable}
use Rattle.wt_core.proofs.Law.{leads}
use Rattle.wt_core.proofs.Turns.{same_calls}
use Rattle.wt_core.specs.Held.{Held, Holds, HoldsCalls, Orderly, held_after, is_own, named_in}
use Rattle.wt_core.specs.HeldNow.{held_by}
use Rattle.wt_core.specs.Told.{SameHeld}
use Rattle.wt_sessions.specs.Answers.{call_effect, is_first, log_after, named_session}
use Rattle.wt_sessions.specs.Connection.{ends_opening, starts_opening}
use Rattle.wt_sessions.specs.Driver.{accepts_stream, gives_up}
use Rattle.wt_turn.specs.Log.{CallRecord, Log, calls_of}
use Rattle.wt_turn.specs.declared.call.Call.{Call}
use Rattle.wt_turn.specs.declared.turn.Turn.{Turn}
use Rattle.wt_turn.specs.declared.turn.Turn.TheVariants as turns
use Rattle.wt_wire.specs.declared.side.Side.{Side}

pub orderly : (side : Side) (log : Log) → IsReachable side log → Orderly side log
orderly side log r = record { fresh_uni = next_uni_unbegun side log r; fresh_bi = next_bi_unbegun side log r; answered = request_answered side log r }

-- what the calls leave beside what the application has
record Leaves (side : Side) (cs : List CallRecord) : Type 0 where
  given : (k : ℕ) → list_any (gives_up k) cs ≡ true → list_any (accepts_stream k) cs ≡ true
  own : (k : ℕ) → list_any (starts_opening k) cs ≡ true → is_own side k ≡ true
  begun : (k : ℕ) → list_any (ends_opening k) cs ≡ true → is_own side k ≡ true → list_any (starts_opening k) cs ≡ true

holds-by : (side : Side) (log : Log) → Leaves side (calls_of log) → Holds side (held_by side log) log
holds-by side log x = record {
  sends = λ k. refl;
  recvs = λ k. refl;
  openings = λ k. refl;
  sessions = λ name. by name;
  stage = refl;
  requested = refl;
  given = x.given;
  own = x.own;
  begun = x.begun;
}
  where
    by : (name : Option ℕ) → named_session log name ≡ named_in (calls_of log) name
    by None = refl
    by (Some s) = refl

leaves-of : (side : Side) (h : Held) (cs : List CallRecord) → HoldsCalls side h cs → Leaves side cs
leaves-of side h cs x = record { given = x.given; own = x.own; begun = x.begun }

none-left : (side : Side) → Leaves side []
none-left side = record { given = λ k e. absurd cc; own = λ k e. absurd cc; begun = λ k e f. absurd cc }

after : (side : Side) (log : Log) (turn : Turn) → IsReachable side log → Leaves side (calls_of log) → Leaves side (calls_of (log_after side log turn))
after side log (turns.Call call) r x = leaves-of side _ _ (leads side log (held_by side log) (holds-by side log x) (orderly side log r) call).held
after side log (turns.Bytes id piece) r x = subst (Leaves side) (sym (same_calls side log (turns.Bytes id piece) refl)) x
after side log turn r x = subst (Leaves side) (sym (same_calls side log turn refl)) x

leaves : (side : Side) (log : Log) → IsReachable side log → Leaves side (calls_of log)
leaves side _ AtStart = none-left side
leaves side _ (AfterTurn {log = log} turn r l) = after side log turn r (leaves side log r)

pub holds : (side : Side) (log : Log) → IsReachable side log → Holds side (held_by side log) log
holds side log r = holds-by side log (leaves side log r)

-- after a call it is what the reply tells
pub told : (side : Side) (log : Log) → IsReachable side log → (call : Call) → SameHeld (held_by side (call_effect side log call).log) (held_after call (call_effect side log call).reply (held_by side log))
told side log r call =
    let x = (leads side log (held_by side log) (holds side log r) (orderly side log r) call).held in
    record {
      sends = λ k. sym (x.sends k);
      recvs = λ k. sym (x.recvs k);
      openings = λ k. sym (x.openings k);
      sessions = λ name. sym (x.sessions name ∙ by name);
      stage = sym x.stage;
      requested = sym x.requested;
    }
  where
    by : (name : Option ℕ) → named_in (calls_of (call_effect side log call).log) name ≡ named_session (call_effect side log call).log name
    by None = refl
    by (Some s) = refl

-- something happened then
pub happened : (side : Side) (log : Log) → IsReachable side log → (call : Call) → is_first (call_effect side log call).log ≡ false
happened side log r call = (leads side log (held_by side log) (holds side log r) (orderly side log r) call).happened
