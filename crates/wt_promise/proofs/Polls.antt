-- The polls of a handshake: a connect or a response is Pending exactly where it still waits.
use Rattle.std.specs.Prelude.{[], ◌&&◌, ◌∷◌, ◌||◌, ◌≡◌, Bool, Err, List, None, Ok, Option, Result, Some, drop, false, if◌then◌else◌, is_none, not, true, ℕ}
use Rattle.std.proofs.Common.{◌∙◌, ap, refl, sym}
use Rattle.std.proofs.Math.Seq.{drop-nil}
use Rattle.url.specs.Parser.{parse_url}
use Rattle.wt_proto.specs.ResponseWalk.{response_walk_of}
use Rattle.wt_proto.specs.declared.response_walk.ResponseWalk.{ResponseWalk}
use Rattle.wt_turn.specs.Reports.{end_of, is_connected}
use Rattle.wt_turn.specs.declared.action.Action.{Action}
use Rattle.wt_turn.specs.declared.answer.Answer.{Answer}
use Rattle.wt_turn.specs.declared.call.Call.{Call}
use Rattle.wt_turn.specs.declared.connecting_error.ConnectingError.{ConnectingError}
use Rattle.wt_turn.specs.declared.turn.Turn.{Turn}
use Rattle.wt_wire.specs.declared.side.Side.{Side}
use Rattle.wt_meaning.specs.Findings.{settings_came}
use Rattle.wt_meaning.specs.Handshakes.{begin_rows, connect_rows, head_left, is_nothing, is_opened, is_refused, is_success, lacks_credit, last_begun, poll_rows, response_incomplete, response_rows}
use Rattle.wt_meaning.specs.History.{History, contents, credit_left, events, is_open, may_open}
use Rattle.wt_meaning.specs.Lawful.{begins, is_lawful, is_pending, is_waiting, may_call, polls}
use Rattle.wt_meaning.specs.Meaning.{next}
use Rattle.wt_meaning.specs.Moments.{findings}
use Rattle.wt_meaning.specs.Rows.{Row, first_row, row, row_for}
use Rattle.wt_meaning.specs.Targets.{Target, target_of}
use Rattle.wt_promise.specs.Promise.{IsHistory}
use Rattle.wt_promise.proofs.Accepted.{and-left}
use Rattle.wt_promise.proofs.Waits.{awaits_response, connect_waits, handshake_waits, nothing_left}
use Rattle.wt_promise.proofs.Pending.{WaitsRightly, response-rightly, waits-rightly}
use Rattle.wt_promise.proofs.Waiting.{and-false, waits}
use Rattle.wt_proto.specs.declared.response_walk.ResponseWalk.TheVariants as responses
use Rattle.wt_turn.specs.declared.call.Call.TheVariants as calls
use Rattle.wt_turn.specs.declared.connecting_error.ConnectingError.TheVariants as connects
use Rattle.wt_turn.specs.declared.reply.Reply.TheVariants as replies
use Rattle.wt_turn.specs.declared.turn.Turn.TheVariants as turns

-- ---- a connect

-- a response that came is answered at once
answered : (b o : Bool) (e : ConnectingError) (own more : List Action)
    → waits (row (not b) (replies.ConnectFailed connects.SessionRejected) more ∷ row (not o) (replies.ConnectFailed e) own ∷ row true (replies.Session 0) own ∷ []) ≡ (o && false)
answered true true e own more = refl
answered true false e own more = refl
answered false true e own more = refl
answered false false e own more = refl

response-waits : (side : Side) (h : History) (own : List Action) (walk : ResponseWalk) → waits (response_rows side h own walk) ≡ (is_open h && response_incomplete walk)
response-waits side h own (responses.Fault code) = and-false (is_open h)
response-waits side h own responses.Ended = and-false (is_open h)
response-waits side h own responses.Waiting = by (is_open h) refl
  where
    by : (o : Bool) → is_open h ≡ o → waits (response_rows side h own responses.Waiting) ≡ (is_open h && true)
    by true e = rw e refl
    by false e = rw e refl
response-waits side h own (responses.Response fields offset) = answered (is_success (responses.Response fields offset)) (is_open h) _ own _

request-waits : (o n r k i : Bool) (e : ConnectingError) (a b : List Action) (rows : List Row) → (n ≡ true → k ≡ false) → waits rows ≡ (o && i)
    → waits (row (not n && not o) (replies.ConnectFailed e) [] ∷ row r (replies.ConnectFailed connects.SessionRejected) a ∷ row k replies.Pending b ∷ rows) ≡ (o && (not r && (k || i)))
request-waits true true true k i e a b rows f q = refl
request-waits true false true k i e a b rows f q = refl
request-waits true true false true i e a b rows f q = refl
request-waits true false false true i e a b rows f q = refl
request-waits true true false false i e a b rows f q = q
request-waits true false false false i e a b rows f q = q
request-waits false false r k i e a b rows f q = refl
request-waits false true true k i e a b rows f q = refl
request-waits false true false true i e a b rows f q = f refl
request-waits false true false false i e a b rows f q = q

-- where nothing is left nothing lacks credit
nothing-lacks : (h : History) (k : ℕ) (left : List ℕ) → is_nothing left ≡ true → lacks_credit h k left ≡ false
nothing-lacks h k [] e = by (credit_left h k)
  where
    by : (n : ℕ) → not (is_nothing (drop n [])) ≡ false
    by n = rw (drop-nil n) refl
nothing-lacks h k (b ∷ left) e = absurd (cc e)

steps-wait : (c o s d m x : Bool) (reserved : Option (List ℕ)) (e f g : ConnectingError) (close : List Action) (rows : List Row) → waits rows ≡ (o && x)
    → waits (row (not c && not o) (replies.ConnectFailed e) [] ∷ row (not c) replies.Pending [] ∷ row (not s && not o) (replies.ConnectFailed f) [] ∷ row (not s) replies.Pending []
    ∷ row_for reserved (λ (name : List ℕ). replies.ConnectFailed (connects.ReservedHeader name)) close ∷ row (not d && not o) (replies.ConnectFailed g) [] ∷ row (not d && not m) replies.Pending [] ∷ rows)
    ≡ (o && (not c || not s || (is_none reserved && ((not d && not m) || x))))
steps-wait false true s d m x reserved e f g close rows q = refl
steps-wait false false s d m x reserved e f g close rows q = refl
steps-wait true true false d m x reserved e f g close rows q = refl
steps-wait true false false d m x reserved e f g close rows q = refl
steps-wait true o true d m x (Some name) e f g close rows q = and-false o
steps-wait true o true true m x None e f g close rows q = q
steps-wait true true true false true x None e f g close rows q = q
steps-wait true true true false false x None e f g close rows q = refl
steps-wait true false true false m x None e f g close rows q = refl

connect-rows-wait : (side : Side) (h : History) (t : Target) → waits (connect_rows side h t) ≡ (is_open h && connect_waits side h t)
connect-rows-wait side h t =
    let left : List ℕ = head_left h 0 t.frame in
    steps-wait (is_connected (events h)) (is_open h) (settings_came (findings side h)) (is_opened h) (may_open side h 0) (awaits_response h left) t.reserved _ _ _ _ _
    (request-waits (is_open h) (is_nothing left) (is_refused h 0 left) (lacks_credit h 0 left) (response_incomplete (response_walk_of (contents h 0) (end_of (events h) 0))) _ _ _ _
    (nothing-lacks h 0 left) (response-waits side h _ (response_walk_of (contents h 0) (end_of (events h) 0))))

-- ---- what waits was begun

-- a connect that waits has its target
abbrev HasTarget : Call → Type 0
HasTarget (calls.Connect options lookup outcome) = (t : Target) × (target_of (parse_url None options.0) options.1 lookup outcome ≡ Ok t)
HasTarget c = Unit {0}

record Begun (h : History) : Type 0 where
  call : Call
  last : last_begun h ≡ Some call
  begins_it : begins call ≡ true
  target : HasTarget call

begun : (side : Side) (h : History) → IsHistory side h → is_waiting h ≡ true → Begun h
begun side [] i w = absurd (cc w)
begun side (p ∷ h) i w = by p.turn p.answer (begun side h i.2) i.0 i.1 w
  where
    by : (turn : Turn) (a : Answer) → (is_waiting h ≡ true → Begun h) → is_lawful side h turn ≡ true → a ≡ next side h turn → (if polls turn then is_pending a.reply else is_waiting h) ≡ true → Begun (record { turn = turn; answer = a } ∷ h)
    by (turns.Call calls.Handshake) a earlier l e w = let b = earlier l in record { call = b.call; last = b.last; begins_it = b.begins_it; target = b.target }
    by (turns.Call (calls.Connect options lookup outcome)) a earlier l e w = record { call = calls.Connect options lookup outcome; last = refl; begins_it = refl; target = found (target_of (parse_url None options.0) options.1 lookup outcome) refl }
      where
        found : (t : Result Target ConnectingError) → target_of (parse_url None options.0) options.1 lookup outcome ≡ t → HasTarget (calls.Connect options lookup outcome)
        found (Ok t) q = (t, q)
        found (Err x) q = let no : is_pending a.reply ≡ false = ap (λ (b : Answer). is_pending b.reply) e ∙ ap (λ (t : Result Target ConnectingError). is_pending (first_row (begin_rows t)).reply) q in
            let bad : true ≡ false = sym w ∙ no in absurd (cc bad)
    by (turns.Call (calls.Accept headers)) a earlier l e w = record { call = calls.Accept headers; last = refl; begins_it = refl; target = tt }
    by (turns.Call calls.Forbidden) a earlier l e w = record { call = calls.Forbidden; last = refl; begins_it = refl; target = tt }
    by (turns.Call calls.NotFound) a earlier l e w = record { call = calls.NotFound; last = refl; begins_it = refl; target = tt }
    by (turns.Call calls.TooManyRequests) a earlier l e w = record { call = calls.TooManyRequests; last = refl; begins_it = refl; target = tt }
    by (turns.Call c) a earlier l e w = let b = earlier w in record { call = b.call; last = b.last; begins_it = b.begins_it; target = b.target }
    by turn a earlier l e w = let b = earlier w in record { call = b.call; last = b.last; begins_it = b.begins_it; target = b.target }

-- ---- the poll

poll-waits : (side : Side) (h : History) (c : Call) → begins c ≡ true → HasTarget c → waits (poll_rows side h (Some c)) ≡ (is_open h && handshake_waits side h (Some c))
poll-waits side h (calls.Connect options lookup outcome) b t = rw t.1 (connect-rows-wait side h t.0)
poll-waits side h (calls.Accept headers) b t = response-rightly side h (calls.Accept headers) refl
poll-waits side h calls.Forbidden b t = response-rightly side h calls.Forbidden refl
poll-waits side h calls.NotFound b t = response-rightly side h calls.NotFound refl
poll-waits side h calls.TooManyRequests b t = response-rightly side h calls.TooManyRequests refl
poll-waits side h c b t = absurd (cc b)

pub poll-rightly : (side : Side) (h : History) → IsHistory side h → is_waiting h ≡ true → WaitsRightly side h calls.Handshake
poll-rightly side h i w = let b = begun side h i w in rw b.last (poll-waits side h b.call b.begins_it b.target)

-- ---- every call

pub call-waits : (side : Side) (h : History) (call : Call) → IsHistory side h → may_call side h call ≡ true → WaitsRightly side h call
call-waits side h calls.Handshake i lawful = poll-rightly side h i lawful
call-waits side h call i lawful = waits-rightly side h call (λ e. absurd (cc e)) lawful

-- what is answered Pending is answered so while the connection is open
pub waits-while-open : (side : Side) (h : History) (turn : Turn) → IsHistory side h → is_lawful side h turn ≡ true → is_pending (next side h turn).reply ≡ true → is_open h ≡ true
waits-while-open side h (turns.Call call) i l e = and-left (is_open h) (nothing_left side h call) (sym (call-waits side h call i l) ∙ e)
waits-while-open side h turn i l e = absurd (cc e)
