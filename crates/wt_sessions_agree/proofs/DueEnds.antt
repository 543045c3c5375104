-- What calls rest on beside the relation holds wherever a lawful history stands for a log.
use Rattle.std.specs.Prelude.{[], ◌%◌, ◌&&◌, ◌/◌, ◌==◌, ◌∷◌, ◌≡◌, Bool, List, None, Option, Some, false, if◌then◌else◌, is_some, not, true, unwrap_or, ℕ}
use Rattle.std.proofs.Common.{◌∙◌, ap, arith, refl, subst, sym}
use Rattle.std.proofs.lemmas.Bool.{eqb-true, ltb-true}
use Rattle.wt_meaning.specs.Findings.{verdict_of}
use Rattle.wt_meaning.specs.Handshakes.{last_begun}
use Rattle.wt_meaning.specs.History.{History, actions_out, all_events, can_send, events, exists, is_open, stream_count, with_event}
use Rattle.wt_meaning.specs.Lawful.{has_request, is_awaited, is_lawful, is_lost, is_waiting}
use Rattle.wt_meaning.specs.Moments.{findings}
use Rattle.wt_meaning.specs.Sends.{session_gone_actions}
use Rattle.wt_meaning.specs.Windows.{is_gone}
use Rattle.wt_promise.proofs.Accepted.{and-left, and-right, not-true, or-true}
use Rattle.wt_promise.proofs.Actions.{opened-out}
use Rattle.wt_promise.proofs.Flow.{clash}
use Rattle.wt_promise.proofs.Fresh.{client-begun}
use Rattle.wt_promise.proofs.HandedOut.{only-peers}
use Rattle.wt_promise.proofs.Phases.{server-begun}
use Rattle.wt_promise.proofs.Sessions.{is_connect}
use Rattle.wt_promise.specs.Promise.{IsHistory}
use Rattle.wt_proto.specs.declared.verdict.Verdict.{Verdict}
use Rattle.wt_turn.specs.Reports.{is_connected, stop_of}
use Rattle.wt_turn.specs.Streams.{local_count}
use Rattle.wt_sessions.specs.Driver.{call_view, ending_actions, is_living, is_session_gone, stream_table, transport_view}
use Rattle.wt_sessions.specs.Handshake.{HandshakeState, handshake_state, request_end, requested_stream}
use Rattle.wt_sessions.specs.Handshake as handshakes
use Rattle.wt_sessions.specs.StreamTable as tables
use Rattle.wt_sessions_agree.proofs.ConnectRows.{ConnectFacts, no-peers}
use Rattle.wt_sessions_agree.proofs.DueLaws.{DueRequest, due-not-gone, due-request, is_asked}
use Rattle.wt_sessions_agree.proofs.EndLaws.{none-agrees}
use Rattle.wt_sessions_agree.proofs.FoundLaws.{verdicts-agree}
use Rattle.wt_sessions_agree.proofs.HalvesAlike.{halves-seen}
use Rattle.wt_sessions_agree.proofs.MembersLaws.{gone-alike}
use Rattle.wt_sessions_agree.proofs.RowsAgree.{EndsAgree, is_due}
use Rattle.wt_sessions_agree.proofs.WaitLaws.{gone-is}
use Rattle.wt_sessions_agree.specs.Members.{MembersIn}
use Rattle.wt_sessions_agree.specs.Orderly.{begins_at}
use Rattle.wt_sessions_agree.specs.Stands.{BegunAgrees, IsResponse, Stands}
use Rattle.wt_turn.specs.Log.{Event, Log, calls_of}
use Rattle.wt_turn.specs.Turns.{event_of}
use Rattle.wt_turn.specs.declared.call.Call.{Call}
use Rattle.wt_turn.specs.declared.turn.Turn.{Turn}
use Rattle.wt_wire.specs.declared.side.Side.{Side}
use Rattle.wt_wire.specs.declared.side.Side.TheVariants.{Client, Server}
use Rattle.wt_turn.specs.declared.call.Call.TheVariants as calls
use Rattle.wt_turn.specs.declared.turn.Turn.TheVariants as turns

-- what goes out for the streams of a session that isn't gone is the same
abbrev GoneAlike : Side → History → Log → Type 0
GoneAlike side h log = (s : ℕ) → is_gone h (findings side h) s ≡ false → session_gone_actions side h (findings side h) s ≡ ending_actions side log s

-- ---- a client's own stream

unclassified : (h : History) → verdict_of (findings Client h) 0 ≡ None
unclassified h = by (verdict_of (findings Client h) 0) refl
  where
    by : (o : Option Verdict) → verdict_of (findings Client h) 0 ≡ o → o ≡ None
    by None e = refl
    by (Some v) e = absurd (let r = only-peers Client h 0 (ap is_some e) in cc r)

-- what isn't there can't send
unsent : (h : History) → local_count (actions_out h) 0 ≡ 0 → can_send Client h 0 ≡ false
unsent h n = by (can_send Client h 0) refl
  where
    by : (b : Bool) → can_send Client h 0 ≡ b → b ≡ false
    by false e = refl
    by true e =
        let l = ltb-true (0 / 4) (stream_count Client h (0 % 4)) (and-left (exists Client h 0) _ e) in
        let p = no-peers (all_events h) in absurd (omega (arith, l, p, n))

unstopped : (h : History) → IsHistory Client h → local_count (actions_out h) 0 ≡ 0 → stop_of (events h) 0 ≡ None
unstopped [] i n = refl
unstopped (p ∷ h) i n = by (is_open h) (unstopped h i.2 none)
  where
    none : local_count (actions_out h) 0 ≡ 0
    none = let a = opened-out 0 p.answer.actions (actions_out h) in omega (arith, a, n)

    of : (turn : Turn) → is_lawful Client h turn ≡ true → stop_of (events h) 0 ≡ None → stop_of (with_event (event_of turn) (events h)) 0 ≡ None
    of (turns.Stop id code) l e = at (id == 0) refl
      where
        at : (b : Bool) → (id == 0) ≡ b → stop_of (with_event (event_of (turns.Stop id code)) (events h)) 0 ≡ None
        at false q = rw q e
        at true q =
            let sends : can_send Client h id ≡ true = and-left (can_send Client h id) (is_awaited h id) (and-right (is_connected (all_events h) && not (is_lost h)) _ l) in
            absurd (clash (can_send Client h id) sends (ap (can_send Client h) (eqb-true id 0 q) ∙ unsent h none))
    of turn l e = e

    by : (b : Bool) → stop_of (events h) 0 ≡ None → stop_of (if b then with_event (event_of p.turn) (events h) else events h) 0 ≡ None
    by true e = of p.turn i.0 e
    by false e = e

connect-facts : (offset : ℕ → ℕ) (h : History) (log : Log) → IsHistory Client h → Stands Client offset h log → ConnectFacts h log
connect-facts offset h log i x = record {
  unknown = unclassified h;
  unstopped = λ n. ap (λ (es : List Event). stop_of es 0) (sym x.came.events) ∙ unstopped h i (x.out.opened 0 ∙ n);
}

-- ---- a response is due on a server

-- what was begun on a client is no response
no-response : (h : History) → IsHistory Client h → (accepts : Bool) (head : List ℕ) (o : Option Call) → last_begun h ≡ o → BegunAgrees (handshakes.Responding accepts head) o → ⊥
no-response h i accepts head None e b = b
no-response h i accepts head (Some c) e b = by accepts c (client-begun h i c e) b
  where
    by : (a : Bool) (c : Call) → is_connect c ≡ true → IsResponse a head c → ⊥
    by true (calls.Connect options lookup outcome) q r = r
    by false (calls.Connect options lookup outcome) q r = r
    by a c q r = cc q

-- what was begun on a server is no connect
no-connect : (h : History) → IsHistory Server h → (reserved : Option (List ℕ)) (head : List ℕ) (o : Option Call) → last_begun h ≡ o → BegunAgrees (handshakes.Connecting reserved head) o → ⊥
no-connect h i reserved head None e b = b
no-connect h i reserved head (Some (calls.Connect options lookup outcome)) e b = let r = server-begun h i (calls.Connect options lookup outcome) e in cc r
no-connect h i reserved head (Some c) e b = b

never-due : (offset : ℕ → ℕ) (h : History) (log : Log) → IsHistory Client h → Stands Client offset h log → is_due Client (handshake_state (calls_of log)) ≡ true → ⊥
never-due offset h log i x d = by (handshake_state (calls_of log)) x.handshake.begun d
  where
    by : (state : HandshakeState) → BegunAgrees state (last_begun h) → is_due Client state ≡ true → ⊥
    by (handshakes.Responding accepts head) b d = no-response h i accepts head (last_begun h) refl b
    by state b d = cc d

due-is : (offset : ℕ → ℕ) (h : History) (log : Log) → Stands Server offset h log → is_due Server (handshake_state (calls_of log)) ≡ true → is_asked h ≡ true
due-is offset h log x d = by (handshake_state (calls_of log)) x.handshake.waiting (x.handshake.requested refl) d
  where
    by : (state : HandshakeState) → is_waiting h ≡ handshakes.is_continuable state → has_request h ≡ handshakes.awaits_answer state → is_due Server state ≡ true → is_asked h ≡ true
    by (handshakes.Requested id) w q d = rw q refl
    by (handshakes.Responding accepts head) w q d = rw w (or-true (has_request h))
    by state w q d = absurd (cc d)

-- ---- the whole

module _ (offset : ℕ → ℕ) (h : History) (log : Log) (i : IsHistory Server h) (x : Stands Server offset h log) (gone : GoneAlike Server h log)
    (d : is_due Server (handshake_state (calls_of log)) ≡ true) where
  due-gone : session_gone_actions Server h (findings Server h) (requested_stream (calls_of log)) ≡ ending_actions Server log (requested_stream (calls_of log))
  due-gone = gone (requested_stream (calls_of log)) (ap (is_gone h (findings Server h)) (sym x.request) ∙ due-not-gone h i (due-is offset h log x d))

  due-start : begins_at h (findings Server h) (requested_stream (calls_of log)) ≡ request_end (tables.verdict_of (requested_stream (calls_of log)) (stream_table Server log).classified)
  due-start =
      let r : DueRequest h = due-request h i (due-is offset h log x d) in
      let same : requested_stream (calls_of log) ≡ r.id = sym x.request ∙ ap (λ (o : Option ℕ). unwrap_or o 0) r.last in
      rw (same, r.request.verdict, sym (verdicts-agree r.id (findings Server h) (stream_table Server log) x.table) ∙ r.request.verdict) refl

ends-living : (side : Side) (offset : ℕ → ℕ) (h : History) (log : Log) → Stands side offset h log → GoneAlike side h log
    → (s : ℕ) → is_living side log s ≡ true → session_gone_actions side h (findings side h) s ≡ ending_actions side log s
ends-living side offset h log x gone s l = gone s (gone-is side offset h log s x ∙ not-true (is_session_gone side log s) (and-right _ (not (is_session_gone side log s)) l))

ends-agree : (side : Side) (offset : ℕ → ℕ) (h : History) (log : Log) → IsHistory side h → Stands side offset h log → GoneAlike side h log → EndsAgree side h log
ends-agree Client offset h log i x gone = record {
  living = ends-living Client offset h log x gone;
  requested = λ d. absurd (never-due offset h log i x d);
  none = none-agrees Client offset h log x;
  starts = λ d. absurd (never-due offset h log i x d);
  client = λ e. connect-facts offset h log i x;
  connects = λ reserved head e. refl;
}
ends-agree Server offset h log i x gone = record {
  living = ends-living Server offset h log x gone;
  requested = due-gone offset h log i x gone;
  none = none-agrees Server offset h log x;
  starts = due-start offset h log i x gone;
  client = λ e. absurd (cc e);
  connects = λ reserved head e. absurd (no-connect h i reserved head (last_begun h) refl (subst (λ (state : HandshakeState). BegunAgrees state (last_begun h)) e x.handshake.begun));
}

-- ---- and what goes out for gone sessions is the same

gone-stands : (side : Side) (offset : ℕ → ℕ) (h : History) (log : Log) → Stands side offset h log → MembersIn side h (call_view log) (findings side h) → GoneAlike side h log
gone-stands side offset h log x m =
    gone-alike side h (findings side h) (transport_view side log) (call_view log) (stream_table side log) x.table x.calls
    (halves-seen side h log x.came.events x.came.all_events x.out x.halves.given_up x.halves.reset) m

-- all that calls rest on
pub ends-hold : (side : Side) (offset : ℕ → ℕ) (h : History) (log : Log) → IsHistory side h → Stands side offset h log → MembersIn side h (call_view log) (findings side h) → EndsAgree side h log
ends-hold side offset h log i x m = ends-agree side offset h log i x (gone-stands side offset h log x m)
