-- The calls of the handshakes: the rows of each lead to what its ladder of tests does.
use Rattle.std.specs.Prelude.{[], ◌&&◌, ◌∷◌, ◌||◌, ◌≡◌, Bool, Err, List, None, Ok, Option, Result, Some, false, filter, filter_map, if◌then◌else◌, is_some, not, true, unwrap_or, ℕ}
use Rattle.std.specs.List.{list_any}
use Rattle.std.proofs.Common.{◌∙◌, ap, refl}
use Rattle.url.specs.Parser.{parse_url}
use Rattle.wt_meaning.specs.Findings.{DatagramRead, Dequeued, Faulted, Finding, SessionClosed, SettingsRead, first_of, settings_came, verdict_of}
use Rattle.wt_meaning.specs.Findings as finds
use Rattle.wt_meaning.specs.Handshakes.{acceptance_rows, begin_rows, incoming_rows, next_request, none_lives, rejection_rows, was_given}
use Rattle.wt_meaning.specs.History.{History}
use Rattle.wt_meaning.specs.Moments.{findings}
use Rattle.wt_meaning.specs.Rows.{first_row}
use Rattle.wt_meaning.specs.Sends.{session_gone_actions}
use Rattle.wt_meaning.specs.Targets.{Target, target_of}
use Rattle.wt_meaning.specs.Windows.{last_request, queued_request}
use Rattle.wt_turn.specs.Reports.{is_acknowledged, stop_of}
use Rattle.wt_turn.specs.Sent.{is_finished}
use Rattle.wt_sessions.specs.Connect.{dial}
use Rattle.wt_sessions.specs.Driver.{delivers, dispatched, ending_actions, has_no_session, stream_table}
use Rattle.wt_sessions.specs.Driver as drivers
use Rattle.wt_sessions.specs.Effect.{is_covered}
use Rattle.wt_sessions.specs.Handshake.{accept_response, deliver, incoming, reject_response, request_end, request_fields_of}
use Rattle.wt_sessions.specs.Handshake as ladders
use Rattle.wt_sessions.specs.StreamTable.{Classified, is_queued}
use Rattle.wt_sessions.specs.StreamTable as tables
use Rattle.wt_sessions_agree.proofs.ConnectionRows.{covered-out, lacks-is, refused-is, send-is}
use Rattle.wt_sessions_agree.proofs.WaitLaws.{driver-is, transport-is}
use Rattle.wt_sessions_agree.specs.Agrees.{classified_in}
use Rattle.wt_sessions_agree.specs.Orderly.{begins_at}
use Rattle.wt_sessions_agree.specs.Records.{effect_of, failure_record, pending_record}
use Rattle.wt_sessions_agree.specs.Stands.{Stands}
use Rattle.wt_turn.specs.Log.{AcceptanceFailed, CallRecord, Log, actions_of, calls_of, events_of}
use Rattle.wt_turn.specs.Log as logs
use Rattle.wt_turn.specs.declared.call.Call.{Call}
use Rattle.wt_turn.specs.declared.connecting_error.ConnectingError.{ConnectingError}
use Rattle.wt_wire.specs.HeaderList.{Fields}
use Rattle.wt_wire.specs.declared.lookup.ConnectOutcome.{ConnectOutcome}
use Rattle.wt_wire.specs.declared.lookup.Lookup.{Lookup}
use Rattle.wt_wire.specs.declared.side.Side.{Side}
use Rattle.wt_proto.specs.declared.verdict.Verdict.TheVariants as verdicts
use Rattle.wt_turn.specs.declared.call.Call.TheVariants as calls

-- ---- a server's request

-- the first of these requests, as the history has it
abbrev request-of : List Classified → Option (ℕ × Fields)
request-of [] = None
request-of (c ∷ later) = Some (c.id, request_fields_of c.verdict)

module _ (given del : ℕ → Bool) (same : (k : ℕ) → given k ≡ del k) where
  abbrev First : List Finding → Type 0
  First found = first_of (λ (q : ℕ × Fields). if given q.0 then None else Some q) (filter_map queued_request found)
      ≡ request-of (filter (λ (c : Classified). is_queued c && not (del c.id)) (filter_map classified_in found))

  first-request : (found : List Finding) → First found
  first-request [] = refl
  first-request (finds.Classified id (verdicts.Request headers offset) true ∷ found) = by (del id) refl (first-request found)
    where
      by : (b : Bool) → del id ≡ b → First found → First (finds.Classified id (verdicts.Request headers offset) true ∷ found)
      by true e again = rw (same id, e) again
      by false e again = rw (same id, e) refl
  first-request (_ ∷ found) = first-request found

module _ (side : Side) (offset : ℕ → ℕ) (h : History) (log : Log) (x : Stands side offset h log) where
  next-request : next_request side h ≡ request-of (ladders.queued_requests side log)
  next-request = by (drivers.settings_came side log) refl
    where
      by : (b : Bool) → drivers.settings_came side log ≡ b → next_request side h ≡ request-of (ladders.queued_requests side log)
      by false e = let q : settings_came (findings side h) ≡ false = x.table.settings ∙ e in rw (q, e) refl
      by true e =
          let q : settings_came (findings side h) ≡ true = x.table.settings ∙ e in
          rw (q, e) (first-request (was_given h) (λ k. list_any (delivers k) (calls_of log)) x.delivered (findings side h)
          ∙ ap (λ (cs : List Classified). request-of (filter (λ (c : Classified). is_queued c && not (list_any (delivers c.id) (calls_of log))) cs)) x.table.classified)

  incoming-by : (cs : List Classified) → ladders.queued_requests side log ≡ cs → (o : Bool) → logs.is_open log ≡ o
      → deliver side log cs ≡ effect_of side h log calls.Incoming (first_row (incoming_rows side h))
  incoming-by (c ∷ cs) e o f = rw (next-request, e) refl
  incoming-by [] e true f = rw (next-request, e, x.came.openness, f) refl
  incoming-by [] e false f = rw (next-request, e, x.came.openness, f, driver-is side offset h log x) refl

  pub incoming-agrees : incoming side log ≡ effect_of side h log calls.Incoming (first_row (incoming_rows side h))
  incoming-agrees = incoming-by (ladders.queued_requests side log) refl (logs.is_open log) refl

  -- ---- a server's response

  pub accept-agrees : (c : Call) (waiting : CallRecord) (s : ℕ) (left : List ℕ) → pending_record c ≡ waiting → failure_record c ≡ AcceptanceFailed
      → begins_at h (findings side h) s ≡ request_end (tables.verdict_of s (stream_table side log).classified)
      → accept_response side log s left waiting ≡ effect_of side h log c (first_row (acceptance_rows h s left))
  accept-agrees c waiting s left p f starts = by (logs.is_open log) refl (ladders.is_refused log s left) refl (is_covered log s left) refl
    where
      by : (o : Bool) → logs.is_open log ≡ o → (r : Bool) → ladders.is_refused log s left ≡ r → (v : Bool) → is_covered log s left ≡ v
          → accept_response side log s left waiting ≡ effect_of side h log c (first_row (acceptance_rows h s left))
      by false o r g v k = rw (x.came.openness, o, transport-is side offset h log x, f) refl
      by true o true g v k = rw (x.came.openness, o, refused-is side offset h log x s left, g, f) refl
      by true o false g false k = rw (x.came.openness, o, refused-is side offset h log x s left, g, lacks-is side offset h log x s left o, k, send-is side offset h log x s left o, p) refl
      by true o false g true k =
          rw (
            x.came.openness,
            o,
            refused-is side offset h log x s left,
            g,
            lacks-is side offset h log x s left o,
            k,
            send-is side offset h log x s left o,
            covered-out side offset h log x s left k,
            starts,
          ) refl

  pub reject-agrees : (c : Call) (waiting : CallRecord) (s : ℕ) (left : List ℕ) → pending_record c ≡ waiting → unwrap_or (last_request h) 0 ≡ s
      → session_gone_actions side h (findings side h) s ≡ ending_actions side log s → none_lives side h ≡ has_no_session side log
      → reject_response side log s left waiting ≡ effect_of side h log c (first_row (rejection_rows side h s left))
  reject-agrees c waiting s left p last gone none = by (logs.is_open log) refl (ladders.is_refused log s left) refl (is_covered log s left) refl
    where
      out : logs.is_open log ≡ true → ladders.is_refused log s left ≡ false → is_covered log s left ≡ true → (b : Bool) → is_finished (actions_of log) s ≡ b → (d : Bool)
          → (is_some (stop_of (events_of log) s) || is_acknowledged (events_of log) s) ≡ d
          → (a : Bool) → has_no_session side log ≡ a → reject_response side log s left waiting ≡ effect_of side h log c (first_row (rejection_rows side h s left))
      out o g k false b d e a n =
          rw (
            x.came.openness,
            o,
            refused-is side offset h log x s left,
            g,
            lacks-is side offset h log x s left o,
            k,
            x.out.finished s,
            b,
            send-is side offset h log x s left o,
            covered-out side offset h log x s left k,
            p,
          ) refl
      out o g k true b true e true n =
          rw (x.came.openness, o, refused-is side offset h log x s left, g, lacks-is side offset h log x s left o, k, x.out.finished s, b, x.came.events, e, gone, none, n, last) refl
      out o g k true b true e false n =
          rw (x.came.openness, o, refused-is side offset h log x s left, g, lacks-is side offset h log x s left o, k, x.out.finished s, b, x.came.events, e, gone, none, n, last) refl
      out o g k true b false e a n =
          rw (x.came.openness, o, refused-is side offset h log x s left, g, lacks-is side offset h log x s left o, k, x.out.finished s, b, x.came.events, e, p) refl

      by : (o : Bool) → logs.is_open log ≡ o → (r : Bool) → ladders.is_refused log s left ≡ r → (v : Bool) → is_covered log s left ≡ v
          → reject_response side log s left waiting ≡ effect_of side h log c (first_row (rejection_rows side h s left))
      by false o r g v k = rw (x.came.openness, o, last) refl
      by true o true g v k = rw (x.came.openness, o, refused-is side offset h log x s left, g, gone, last) refl
      by true o false g false k = rw (x.came.openness, o, refused-is side offset h log x s left, g, lacks-is side offset h log x s left o, k, send-is side offset h log x s left o, p) refl
      by true o false g true k = out o g k (is_finished (actions_of log) s) refl (is_some (stop_of (events_of log) s) || is_acknowledged (events_of log) s) refl (has_no_session side log) refl

-- ---- a client's connect begins

pub begin-agrees : (side : Side) (h : History) (log : Log) (options : List ℕ × Fields) (lookup : Lookup) (outcome : ConnectOutcome)
    → dial side log (target_of (parse_url None options.0) options.1 lookup outcome)
    ≡ effect_of side h log (calls.Connect options lookup outcome) (first_row (begin_rows (target_of (parse_url None options.0) options.1 lookup outcome)))
begin-agrees side h log options lookup outcome = by (target_of (parse_url None options.0) options.1 lookup outcome) refl
  where
    by : (t : Result Target ConnectingError) → target_of (parse_url None options.0) options.1 lookup outcome ≡ t
        → dial side log (target_of (parse_url None options.0) options.1 lookup outcome)
        ≡ effect_of side h log (calls.Connect options lookup outcome) (first_row (begin_rows (target_of (parse_url None options.0) options.1 lookup outcome)))
    by (Err e) q = rw q refl
    by (Ok t) q = rw (q, q) refl
