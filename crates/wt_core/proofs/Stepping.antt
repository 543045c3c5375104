-- What a core keeps goes on after a call, after a turn of the transport, and once what goes out was collected.
use Rattle.std.proofs.Common.{◌∙◌, ap, refl, subst, sym}
use Rattle.std.specs.Prelude.{◌≡◌, List, false, length, true, ℕ}
use Rattle.wt_driver_laws.specs.Driving.{AfterTurn, Follows, IsReachable, uncollected_since}
use Rattle.wt_kept.specs.Kept.{DriverNow}
use Rattle.wt_core.proofs.Apart.{stays-apart}
use Rattle.wt_core.proofs.Kept.{sessions-go-on, sessions-stay, streams-go-on}
use Rattle.wt_core.proofs.Reached.{happened}
use Rattle.wt_core.proofs.ShakeLaws.{shake-after, shake-goes-on}
use Rattle.wt_core.proofs.Turns.{event_reply, lawful_fits, turn_first}
use Rattle.wt_core.specs.Answering.{Answered}
use Rattle.wt_core.specs.Calls.{is_handshake}
use Rattle.wt_core.specs.HeldNow.{SameSessions, SessionsNow, StreamsNow}
use Rattle.wt_core.specs.CoreState.{CoreState, Keeps, Refines}
use Rattle.wt_core.specs.Keeping.{CallTaken, Stepped, Taken}
use Rattle.wt_turn.specs.Arrivals.{fits}
use Rattle.wt_turn.specs.Joined.{joined_actions}
use Rattle.wt_sessions.specs.Answers.{is_first, is_lawful, log_after, may_call}
use Rattle.wt_turn.specs.Log.{Log, actions_of}
use Rattle.wt_turn.specs.Turns.{is_call}
use Rattle.wt_turn.specs.declared.action.Action.{Action}
use Rattle.wt_turn.specs.declared.call.Call.{Call}
use Rattle.wt_turn.specs.declared.reply.Reply.{Reply}
use Rattle.wt_turn.specs.declared.reply.Reply.TheVariants as replies
use Rattle.wt_turn.specs.declared.turn.Turn.{Turn}
use Rattle.wt_turn.specs.declared.turn.Turn.TheVariants as turns
use Rattle.wt_wire.specs.declared.side.Side.{Side}

-- after a call past the handshake
pub call-taken : (side : Side) (log : Log) (collected : ℕ) (k : CoreState) → Keeps side k log collected → (call : Call) → may_call side log call ≡ true → is_handshake call ≡ false
    → (reply : Reply) (d : DriverNow) (sessions : SessionsNow) (streams : StreamsNow) → SameSessions k.sessions sessions → Answered side log collected call reply d streams
    → CallTaken side log collected call reply (record k { driver = d; sessions = sessions; streams = streams })
call-taken side log collected k x call may other reply d sessions streams same a = record {
  reply = a.did.reply;
  kept = record {
    driver = a.did.log;
    shake = shake-after side log x.reached call may other k.shake x.shake;
    sessions = sessions-stay side log x.reached call may k.sessions sessions x.sessions (λ r h. (stays-apart call r h other).sessions) same;
    streams = a.holds;
    reached = AfterTurn (turns.Call call) x.reached may;
  };
}

-- after a turn of the transport
pub event-taken : (side : Side) (log : Log) (collected : ℕ) (k : CoreState) → Keeps side k log collected → (turn : Turn) → is_call turn ≡ false → is_lawful side log turn ≡ true → (d : DriverNow)
    → (fits side log turn ≡ true → Follows side d (log_after side log turn) collected) → Taken side log collected turn replies.Done (record k { driver = d })
event-taken side log collected k x turn event lawful d f = record {
  reply = event_reply side log turn event;
  kept = record {
    driver = f (lawful_fits side log turn event lawful);
    shake = shake-goes-on side log x.reached turn event lawful k.shake x.shake;
    sessions = sessions-go-on side log x.reached turn event lawful k.sessions x.sessions;
    streams = streams-go-on side log x.reached turn event lawful k.streams x.streams;
    reached = AfterTurn turn x.reached lawful;
  };
}

first-after : (side : Side) (log : Log) → IsReachable side log → (turn : Turn) → is_lawful side log turn ≡ true → is_first (log_after side log turn) ≡ false
first-after side log r (turns.Call call) l = happened side log r call
first-after side log r turn l = turn_first side log turn l refl

-- once the actions were collected
pub stepped : (side : Side) (log : Log) (turn : Turn) (k m : CoreState) (reply : Reply) (actions : List Action) (d : DriverNow) → Refines side k log → is_lawful side log turn ≡ true → m.failed ≡ k.failed
    → Taken side log (length (actions_of log)) turn reply m → actions ≡ joined_actions (uncollected_since (length (actions_of log)) (log_after side log turn))
    → Follows side d (log_after side log turn) (length (actions_of (log_after side log turn))) → Stepped side log turn (record { reply = reply; actions = actions }) (record m { is_first = false; driver = d })
stepped side log turn k m reply actions d r lawful failed t e f = record {
  is = λ i. record { reply = t.reply i; actions = e i };
  kept = record {
    works = failed ∙ r.works;
    first = sym (first-after side log r.kept.reached turn lawful);
    kept = record { driver = f; shake = t.kept.shake; sessions = t.kept.sessions; streams = t.kept.streams; reached = t.kept.reached };
  };
}

-- the same, by what the driver says of any log that it follows
pub stepped-by : (side : Side) (log : Log) (turn : Turn) (k m w : CoreState) (reply : Reply) (actions : List Action) (d : DriverNow) → w ≡ m → Refines side k log → is_lawful side log turn ≡ true → m.failed ≡ k.failed
    → Taken side log (length (actions_of log)) turn reply m → ((later : Log) (collected : ℕ) → Follows side w.driver later collected → actions ≡ joined_actions (uncollected_since collected later))
    → ((later : Log) (collected : ℕ) → Follows side w.driver later collected → Follows side d later (length (actions_of later))) → Stepped side log turn (record { reply = reply; actions = actions }) (record w { is_first = false; driver = d })
stepped-by side log turn k m w reply actions d same r lawful failed taken out next =
    let t : Taken side log (length (actions_of log)) turn reply w = subst (λ (x : CoreState). Taken side log (length (actions_of log)) turn reply x) (sym same) taken in
    stepped side log turn k w reply actions d r lawful (ap (λ (x : CoreState). x.failed) same ∙ failed) t
    (out (log_after side log turn) (length (actions_of log)) t.kept.driver) (next (log_after side log turn) (length (actions_of log)) t.kept.driver)
