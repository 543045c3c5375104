-- The rows of a connect or a response give the reply of its first cause.
use Rattle.std.specs.Prelude.{[], ◌&&◌, ◌==◌, ◌∷◌, ◌||◌, ◌≡◌, Bool, List, None, Option, Result, Some, false, if◌then◌else◌, is_some, length, nat_lt, not, true, unwrap_or, ℕ}
use Rattle.std.proofs.Common.{ap, refl, sym}
use Rattle.url.specs.Parser.{parse_url}
use Rattle.url.specs.Parts.{Parts}
use Rattle.url.specs.declared.error.ParseError.{ParseError}
use Rattle.wt_wire.specs.declared.lookup.ConnectOutcome.{ConnectOutcome}
use Rattle.wt_wire.specs.declared.lookup.Lookup.{Lookup}
use Rattle.wt_meaning.specs.Findings.{settings_came}
use Rattle.wt_meaning.specs.Handshakes.{acceptance_rows, connect_on, connect_rows, head_left, is_refused, is_success, lacks_credit, poll_rows, rejection_rows, request_rows, response_rows, transport_error}
use Rattle.wt_meaning.specs.History.{History, actions_out, contents, events, is_open, may_open, out, was_finished}
use Rattle.wt_meaning.specs.Moments.{findings}
use Rattle.wt_meaning.specs.Rows.{Row, answer, row}
use Rattle.wt_meaning.specs.Targets.{Target, target_of}
use Rattle.wt_message.specs.Responses.{status_of}
use Rattle.wt_promise.proofs.Accepted.{and-left}
use Rattle.wt_promise.proofs.Aims.{Aim, Aimed, Refused, aim, of-aimed, of-refused}
use Rattle.wt_promise.proofs.CauseLaws.{Caused, both-last, both-rows, both-some, both-wait, same-driver, same-transport}
use Rattle.wt_promise.proofs.HeadTests.{early, lacking, something-beyond}
use Rattle.wt_promise.specs.Causes.{Cause, accepts, answered, connect_fails, connects_on, goes_on, rejects, requested, when}
use Rattle.wt_promise.specs.Connects.{of_url, request_head, reserved}
use Rattle.wt_promise.specs.Owed.{fits_credit, handshake_stream, head_of, stopped_early}
use Rattle.wt_proto.specs.ResponseWalk.{response_walk_of}
use Rattle.wt_proto.specs.declared.response_walk.ResponseWalk.{ResponseWalk}
use Rattle.wt_turn.specs.Reports.{end_of, is_acknowledged, is_connected, stop_of}
use Rattle.wt_turn.specs.Streams.{local_count}
use Rattle.wt_turn.specs.declared.action.Action.{Action}
use Rattle.wt_turn.specs.declared.call.Call.{Call}
use Rattle.wt_turn.specs.declared.reply.Reply.{Reply}
use Rattle.wt_wire.specs.HeaderList.{Fields}
use Rattle.wt_wire.specs.Status.{is_successful}
use Rattle.wt_wire.specs.declared.side.Side.{Side}
use Rattle.wt_proto.specs.declared.response_walk.ResponseWalk.TheVariants as responses
use Rattle.wt_turn.specs.declared.call.Call.TheVariants as calls
use Rattle.wt_turn.specs.declared.reply.Reply.TheVariants as replies

-- ---- the other way round: a row that waits, and a cause once it doesn't

turned : (b c : Bool) → b ≡ not c → not b ≡ c
turned b true e = ap not e
turned b false e = ap not e

-- a row that waits in front of the last one
pub wait-or : (b c : Bool) (r : Reply) (own last : List Action) → b ≡ not c → Caused (row b replies.Pending own ∷ row true r last ∷ []) (when c r ∷ [])
wait-or true true r own last e = absurd (cc e)
wait-or true false r own last e = record { first = refl }
wait-or false true r own last e = record { first = refl }
wait-or false false r own last e = absurd (cc e)

pub skipped : {rows : List Row} {causes : List Cause} → Caused rows causes → Caused (None ∷ rows) causes
skipped c = record { first = c.first }

pending : {own : List Action} {rows : List Row} → Caused (Some (answer replies.Pending own) ∷ rows) []
pending = record { first = refl }

-- ---- responses

acceptance-caused : (h : History) (s : ℕ) (head : List ℕ) → Caused (acceptance_rows h s (head_left h s head)) (accepts h s head)
acceptance-caused h s head =
    rw (sym (same-transport h)) (both-rows _ [] refl
    (both-rows _ _ (early h s head) (wait-or (lacks_credit h s (head_left h s head)) (fits_credit h s head) (replies.Session s) _ _ (lacking h s head))))

rejection-caused : (side : Side) (h : History) (s : ℕ) (head : List ℕ) → Caused (rejection_rows side h s (head_left h s head)) (rejects h s head)
rejection-caused side h s head =
    by (is_open h) (is_refused h s (head_left h s head)) (stopped_early h s head) (lacks_credit h s (head_left h s head)) (fits_credit h s head) (was_finished h s) (is_some (stop_of (events h) s) || is_acknowledged (events h) s)
    _ _ _ _ (early h s head) (lacking h s head)
  where
    by : (o x y l f w e : Bool) (a b c d : List Action) → x ≡ y → l ≡ not f
        → Caused (row (not o) replies.Rejected [] ∷ row x replies.Rejected a ∷ row l replies.Pending b ∷ row (not w) replies.Pending c ∷ row e replies.Rejected d ∷ []) (when (not o || y || (f && w && e)) replies.Rejected ∷ [])
    by false x y l f w e a b c d p q = record { first = refl }
    by true true true l f w e a b c d p q = record { first = refl }
    by true true false l f w e a b c d p q = absurd (cc p)
    by true false true l f w e a b c d p q = absurd (cc p)
    by true false false true true w e a b c d p q = absurd (cc q)
    by true false false true false w e a b c d p q = record { first = refl }
    by true false false false false w e a b c d p q = absurd (cc q)
    by true false false false true false e a b c d p q = record { first = refl }
    by true false false false true true true a b c d p q = record { first = refl }
    by true false false false true true false a b c d p q = record { first = refl }

-- ---- a connect

succeeds : (fields : Fields) (offset : ℕ) → is_success (responses.Response fields offset) ≡ (nat_lt 199 (unwrap_or (status_of fields) 0) && nat_lt (unwrap_or (status_of fields) 0) 300)
succeeds fields offset = by (status_of fields)
  where
    by : (o : Option ℕ) → elim o [ Some code ↦ is_successful code | None ↦ false ] ≡ (nat_lt 199 (unwrap_or o 0) && nat_lt (unwrap_or o 0) 300)
    by None = refl
    by (Some code) = refl

response-caused : (side : Side) (h : History) (own : List Action) (walk : ResponseWalk) → Caused (response_rows side h own walk) (answered side h walk)
response-caused side h own (responses.Fault code) = record { first = refl }
response-caused side h own responses.Ended = record { first = ap connect_fails (same-transport h) }
response-caused side h own responses.Waiting =
    rw (sym (same-transport h)) (skipped (skipped (both-rows (connect_fails (transport_error h)) own refl pending)))
response-caused side h own (responses.Response fields offset) =
    rw (sym (same-driver side h)) (skipped (skipped (skipped (skipped (both-rows _ _ (ap not (succeeds fields offset)) (both-rows _ _ refl (both-last (replies.Session 0) own)))))))

request-caused : (side : Side) (h : History) (opening : List Action) (head : List ℕ) → Caused (request_rows side h opening (head_left h 0 head)) (requested side h head)
request-caused side h opening head =
    rw (sym (same-transport h)) (both-rows _ [] (ap (λ (b : Bool). b && not (is_open h)) (something-beyond (length (out h 0)) head))
    (both-rows _ _ (early h 0 head) (by (lacks_credit h 0 (head_left h 0 head)) (fits_credit h 0 head) _ _ _ (lacking h 0 head) (response-caused side h _ (response_walk_of (contents h 0) (end_of (events h) 0))))))
  where
    by : (l f : Bool) (own : List Action) (rows : List Row) (causes : List Cause) → l ≡ not f → Caused rows causes → Caused (row l replies.Pending own ∷ rows) (if f then causes else [])
    by true true own rows causes e later = absurd (cc e)
    by true false own rows causes e later = record { first = refl }
    by false true own rows causes e later = record { first = later.first }
    by false false own rows causes e later = absurd (cc e)

connect-caused : (side : Side) (h : History) (t : Target) (headers : Fields) → t.reserved ≡ reserved headers → Caused (connect_rows side h t) (connects_on side h headers t.frame)
connect-caused side h t headers r =
    rw (sym r, sym (same-transport h), sym (same-driver side h))
    (step (is_connected (events h)) (is_open h) _ (step (settings_came (findings side h)) (is_open h) _
    (both-some t.reserved _ _ (λ q. opens (local_count (actions_out h) 0 == 0) (may_open side h 0) (is_open h) _ (λ m. and-left (is_open h) _ m) (rw (same-transport h) (request-caused side h _ t.frame))))))
  where
    -- a step that fails where the connection isn't open, and waits where it isn't done
    step : (c o : Bool) (r : Reply) {rows : List Row} {causes : List Cause} → Caused rows causes
        → Caused (row (not c && not o) r [] ∷ row (not c) replies.Pending [] ∷ rows) (if not c then when (not o) r ∷ [] else causes)
    step true o r later = record { first = later.first }
    step false true r later = record { first = refl }
    step false false r later = record { first = refl }

    opens : (n m o : Bool) (r : Reply) → (m ≡ true → o ≡ true) → {rows : List Row} {causes : List Cause} → Caused rows causes
        → Caused (row (not (not n) && not o) r [] ∷ row (not (not n) && not m) replies.Pending [] ∷ rows) (if n && not m then when (not o) r ∷ [] else causes)
    opens false m o r e later = record { first = later.first }
    opens true true true r e later = record { first = later.first }
    opens true true false r e later = absurd (let q : false ≡ true = e refl in cc q)
    opens true false true r e later = record { first = refl }
    opens true false false r e later = record { first = refl }

-- ---- each of them

goes-caused : (side : Side) (h : History) (parsed : Result Parts ParseError) (headers : Fields) (lookup : Lookup) (outcome : ConnectOutcome) → Aim parsed headers lookup outcome
    → Caused (connect_on side h (target_of parsed headers lookup outcome)) (of_url parsed lookup outcome (λ (url : Parts). connects_on side h headers (request_head url headers)))
goes-caused side h parsed headers lookup outcome (Refused e p q) = rw (p, of-refused parsed lookup outcome e (λ (url : Parts). connects_on side h headers (request_head url headers)) q) both-wait
goes-caused side h parsed headers lookup outcome (Aimed url x p u q r f d) =
    rw (p, of-aimed parsed lookup outcome url (λ (url : Parts). connects_on side h headers (request_head url headers)) u q, sym f) (connect-caused side h x headers r)

pub shakes-caused : (side : Side) (h : History) (c : Option Call) → Caused (poll_rows side h c) (goes_on side h c)
shakes-caused side h None = both-wait
shakes-caused side h (Some (calls.Connect options lookup outcome)) =
    goes-caused side h (parse_url None options.0) options.1 lookup outcome (aim (parse_url None options.0) options.1 lookup outcome)
shakes-caused side h (Some (calls.Accept headers)) = acceptance-caused h (handshake_stream h) (head_of (Some (calls.Accept headers)))
shakes-caused side h (Some calls.Forbidden) = rejection-caused side h (handshake_stream h) (head_of (Some calls.Forbidden))
shakes-caused side h (Some calls.NotFound) = rejection-caused side h (handshake_stream h) (head_of (Some calls.NotFound))
shakes-caused side h (Some calls.TooManyRequests) = rejection-caused side h (handshake_stream h) (head_of (Some calls.TooManyRequests))
shakes-caused side h (Some c) = both-wait
