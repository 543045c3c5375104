-- The calls on the halves of a stream: the rows of each lead to what its ladder of tests does.
use Rattle.std.specs.Prelude.{[], ◌+◌, ◌-◌, ◌==◌, ◌∷◌, ◌||◌, ◌≡◌, Bool, List, None, Option, Some, drop, false, if◌then◌else◌, length, nat_le, nat_lt, not, suc, take, true, zero, ℕ, ℤ}
use Rattle.std.specs.List.{cons_option}
use Rattle.std.proofs.Common.{◌∙◌, ap, arith, refl, sym}
use Rattle.std.proofs.lemmas.Bool.{eqb-true}
use Rattle.wt_meaning.specs.Halves.{body_start, finish, is_done, priority, priority_of, read, read_exact, reset, stopped, unread, was_read, where_has, write, write_all}
use Rattle.wt_meaning.specs.History.{History, all_events, contents, credit_left, events, is_open, is_reset, out, was_finished, with_event}
use Rattle.wt_meaning.specs.Moments.{findings}
use Rattle.wt_meaning.specs.Rows.{Row, first_row, row}
use Rattle.wt_meaning.specs.Sends.{action_if}
use Rattle.wt_promise.proofs.Opened.{open-before}
use Rattle.wt_turn.specs.Outgoing.{bytes_within_credit}
use Rattle.wt_turn.specs.Outgoing as outgoing
use Rattle.wt_turn.specs.Reports.{credit, end_of, is_acknowledged, stop_of}
use Rattle.wt_turn.specs.Sent as sends
use Rattle.wt_sessions.specs.Driver.{stream_table}
use Rattle.wt_sessions.specs.Effect.{Effect, poll_only}
use Rattle.wt_sessions.specs.Halves.{on_half}
use Rattle.wt_sessions.specs.Halves as ladders
use Rattle.wt_sessions.specs.StreamTable as tables
use Rattle.wt_sessions_agree.proofs.Basics.{take-none}
use Rattle.wt_sessions_agree.proofs.FoundLaws.{verdicts-agree}
use Rattle.wt_sessions_agree.specs.Records.{effect_of}
use Rattle.wt_sessions_agree.specs.Stands.{Stands}
use Rattle.wt_turn.specs.Log.{Event, Log, actions_of, all_events_of, calls_of, events_of}
use Rattle.wt_turn.specs.Log as logs
use Rattle.wt_turn.specs.Turns.{event_of}
use Rattle.wt_turn.specs.declared.call.Call.{Call}
use Rattle.wt_wire.specs.declared.side.Side.{Side}
use Rattle.wt_wire.specs.declared.side.StreamEnd.{StreamEnd}
use Rattle.wt_turn.specs.declared.action.Action.TheVariants as actions
use Rattle.wt_turn.specs.declared.call.Call.TheVariants as calls
use Rattle.wt_turn.specs.declared.reply.Reply.TheVariants as replies
use Rattle.wt_wire.specs.declared.side.StreamEnd.TheVariants as ends

-- ---- what the calls on a half ask

-- while the connection is open all events count
pub open-events : (h : History) → is_open h ≡ true → events h ≡ all_events h
open-events [] o = refl
open-events (p ∷ h) o = by (is_open h) refl (open-events h)
  where
    conses : (e : Option Event) (xs ys : List Event) → xs ≡ ys → with_event e xs ≡ cons_option e ys
    conses None xs ys q = q
    conses (Some e) xs ys q = ap (λ (l : List Event). e ∷ l) q

    by : (b : Bool) → is_open h ≡ b → (is_open h ≡ true → events h ≡ all_events h) → (if b then with_event (event_of p.turn) (events h) else events h) ≡ cons_option (event_of p.turn) (all_events h)
    by true e again = conses (event_of p.turn) (events h) (all_events h) (again e)
    by false e again = absurd (cc (sym e ∙ open-before p h o))

-- the same of a half
pub record HalfAgrees (h : History) (log : Log) (k : ℕ) : Type 0 where
  pub openness : is_open h ≡ logs.is_open log
  pub finished : was_finished h k ≡ sends.is_finished (actions_of log) k
  pub reset : is_reset h k ≡ sends.is_reset log k
  pub events : events h ≡ events_of log
  pub credit : logs.is_open log ≡ true → credit_left h k ≡ outgoing.credit_left log k

pub half-agrees : (side : Side) (offset : ℕ → ℕ) (h : History) (log : Log) (k : ℕ) → Stands side offset h log → HalfAgrees h log k
half-agrees side offset h log k s = record {
  openness = s.came.openness;
  finished = s.out.finished k;
  reset = s.halves.reset k;
  events = s.came.events;
  credit =
      λ o. ap (λ (es : List Event). credit es k - length (out h k)) (open-events h (s.came.openness ∙ o) ∙ s.came.all_events)
      ∙ ap (λ (bytes : List ℕ). credit (all_events_of log) k - length bytes) (s.out.sent k);
}

-- credit is left
more : (c : ℕ) → (suc c == 0) ≡ false
more c = by (suc c == 0) refl
  where
    by : (b : Bool) → (suc c == 0) ≡ b → b ≡ false
    by true e = let q : suc c ≡ 0 = eqb-true (suc c) 0 e in absurd (omega (arith, q))
    by false e = refl

-- the half of a call is there in both or in none
pub on-half : (side : Side) (h : History) (log : Log) (c : Call) (k : ℕ) (call : ℕ → Effect) (rows : List Row) (a b : Bool) → a ≡ b → call k ≡ effect_of side h log c (first_row rows)
    → on_half b side log call k ≡ effect_of side h log c (first_row (where_has a rows))
on-half side h log c k call rows true true e f = f
on-half side h log c k call rows false false e f = refl
on-half side h log c k call rows true false e f = absurd (cc e)
on-half side h log c k call rows false true e f = absurd (cc e)

module _ (side : Side) (h : History) (log : Log) (k : ℕ) (a : HalfAgrees h log k) where
  -- ---- writing

  pub write-agrees : (bytes : List ℕ) → ladders.write side log k bytes ≡ effect_of side h log (calls.Write k bytes) (first_row (write h k bytes))
  write-agrees bytes = by (logs.is_open log) refl (sends.is_finished (actions_of log) k || sends.is_reset log k) refl (stop_of (events_of log) k) refl bytes (outgoing.credit_left log k) refl
    where
      by : (x : Bool) → logs.is_open log ≡ x → (y : Bool) → (sends.is_finished (actions_of log) k || sends.is_reset log k) ≡ y → (o : Option ℕ) → stop_of (events_of log) k ≡ o → (bytes : List ℕ)
          → (c : ℕ) → outgoing.credit_left log k ≡ c
          → ladders.write side log k bytes ≡ effect_of side h log (calls.Write k bytes) (first_row (write h k bytes))
      by false e y f o g bytes c q = rw (a.openness, e) refl
      by true e true f o g bytes c q = rw (a.openness, e, a.finished, a.reset, f) refl
      by true e false f (Some code) g bytes c q = rw (a.openness, e, a.finished, a.reset, f, a.events, g) refl
      by true e false f None g [] c q = rw (a.openness, e, a.finished, a.reset, f, a.events, g, take-none (outgoing.credit_left log k)) refl
      by true e false f None g (b ∷ bytes) zero q = let m = a.credit e ∙ q in rw (a.openness, e, a.finished, a.reset, f, m, a.events, g, q) refl
      by true e false f None g (b ∷ bytes) (suc c) q = let m = a.credit e ∙ q in rw (a.openness, e, a.finished, a.reset, f, m, more c, a.events, g, q) refl

  pub write_all-agrees : (bytes : List ℕ) → ladders.write_all side log k bytes ≡ effect_of side h log (calls.WriteAll k bytes) (first_row (write_all h k bytes))
  write_all-agrees bytes =
      by (logs.is_open log) refl (sends.is_finished (actions_of log) k || sends.is_reset log k) refl (stop_of (events_of log) k) refl (length (bytes_within_credit log k bytes) == length bytes) refl
    where
      by : (x : Bool) → logs.is_open log ≡ x → (y : Bool) → (sends.is_finished (actions_of log) k || sends.is_reset log k) ≡ y → (o : Option ℕ) → stop_of (events_of log) k ≡ o → (z : Bool)
          → (length (bytes_within_credit log k bytes) == length bytes) ≡ z
          → ladders.write_all side log k bytes ≡ effect_of side h log (calls.WriteAll k bytes) (first_row (write_all h k bytes))
      by false e y f o g z q = rw (a.openness, e) refl
      by true e true f o g z q = rw (a.openness, e, a.finished, a.reset, f) refl
      by true e false f (Some code) g z q = rw (a.openness, e, a.finished, a.reset, f, a.events, g) refl
      by true e false f None g true q = let m = a.credit e in rw (a.openness, e, a.finished, a.reset, f, m, a.events, g, q) refl
      by true e false f None g false q = let m = a.credit e in rw (a.openness, e, a.finished, a.reset, f, m, a.events, g, q) refl

  -- ---- the end of a sending half

  -- done in both or in none
  done-agrees : is_done h k ≡ ladders.is_done log k
  done-agrees = rw (a.reset, a.finished, a.events) refl

  pub stopped-agrees : ladders.stopped side log k ≡ effect_of side h log (calls.Stopped k) (first_row (stopped h k))
  stopped-agrees = by (stop_of (events_of log) k) refl (ladders.is_done log k) refl (logs.is_open log) refl
    where
      by : (o : Option ℕ) → stop_of (events_of log) k ≡ o → (y : Bool) → ladders.is_done log k ≡ y → (x : Bool) → logs.is_open log ≡ x
          → ladders.stopped side log k ≡ effect_of side h log (calls.Stopped k) (first_row (stopped h k))
      by (Some code) g y f x e = rw (a.events, g) refl
      by None g true f x e = rw (a.events, g, a.reset, a.finished, f) refl
      by None g false f true e = rw (a.events, g, a.reset, a.finished, f, a.openness, e) refl
      by None g false f false e = rw (a.events, g, a.reset, a.finished, f, a.openness, e) refl

  pub finish-agrees : ladders.finish side log k ≡ effect_of side h log (calls.Finish k) (first_row (finish h k))
  finish-agrees = by (logs.is_open log) refl (sends.is_finished (actions_of log) k) refl (sends.is_reset log k) refl (stop_of (events_of log) k) refl (is_acknowledged (events_of log) k) refl
    where
      by : (x : Bool) → logs.is_open log ≡ x → (f : Bool) → sends.is_finished (actions_of log) k ≡ f → (r : Bool) → sends.is_reset log k ≡ r → (o : Option ℕ) → stop_of (events_of log) k ≡ o
          → (d : Bool) → is_acknowledged (events_of log) k ≡ d
          → ladders.finish side log k ≡ effect_of side h log (calls.Finish k) (first_row (finish h k))
      by true e true i r j (Some code) g d q = rw (a.events, g, a.openness, e, a.finished, i) refl
      by true e false i true j (Some code) g d q = rw (a.events, g, a.openness, e, a.finished, i, a.reset, j) refl
      by true e false i false j (Some code) g d q = rw (a.events, g, a.openness, e, a.finished, i, a.reset, j) refl
      by false e f i r j (Some code) g d q = rw (a.events, g, a.openness, e) refl
      by true e true i true j None g d q = rw (a.events, g, a.openness, e, a.finished, i, a.reset, j) refl
      by true e false i true j None g d q = rw (a.events, g, a.openness, e, a.finished, i, a.reset, j) refl
      by false e true i true j None g d q = rw (a.events, g, a.openness, e, a.finished, i, a.reset, j) refl
      by false e false i true j None g d q = rw (a.events, g, a.openness, e, a.finished, i, a.reset, j) refl
      by true e true i false j None g true q = rw (a.events, g, a.openness, e, a.finished, i, a.reset, j, q) refl
      by true e true i false j None g false q = rw (a.events, g, a.openness, e, a.finished, i, a.reset, j, q) refl
      by false e true i false j None g true q = rw (a.events, g, a.openness, e, a.finished, i, a.reset, j, q) refl
      by false e true i false j None g false q = rw (a.events, g, a.openness, e, a.finished, i, a.reset, j, q) refl
      by true e false i false j None g d q = rw (a.events, g, a.openness, e, a.finished, i, a.reset, j) refl
      by false e false i false j None g d q = rw (a.events, g, a.openness, e, a.finished, i, a.reset, j) refl

  pub reset-agrees : (code : ℕ) → ladders.reset side log k code ≡ effect_of side h log (calls.ResetSend k code) (first_row (reset h k code))
  reset-agrees code = by (ladders.is_done log k) refl (logs.is_open log) refl
    where
      by : (y : Bool) → ladders.is_done log k ≡ y → (x : Bool) → logs.is_open log ≡ x → ladders.reset side log k code ≡ effect_of side h log (calls.ResetSend k code) (first_row (reset h k code))
      by true f x e = rw (a.reset, a.finished, a.events, f) refl
      by false f true e = rw (a.reset, a.finished, a.events, f, a.openness, e) refl
      by false f false e = rw (a.reset, a.finished, a.events, f, a.openness, e) refl

  pub priority-agrees : (is_done h k ≡ false → priority_of h k ≡ sends.priority_of (calls_of log) k) → ladders.priority side log k ≡ effect_of side h log (calls.Priority k) (first_row (priority h k))
  priority-agrees p = by (ladders.is_done log k) refl
    where
      by : (y : Bool) → ladders.is_done log k ≡ y → ladders.priority side log k ≡ effect_of side h log (calls.Priority k) (first_row (priority h k))
      by true f = rw (a.reset, a.finished, a.events, f) refl
      by false f = let m = p (done-agrees ∙ f) in rw (m, a.reset, a.finished, a.events, f) refl

  pub set_priority-agrees : (p : ℤ) → ladders.set_priority side log k p ≡ effect_of side h log (calls.SetPriority k p) (first_row (row true replies.Done [] ∷ []))
  set_priority-agrees p = by (ladders.is_done log k) refl
    where
      by : (y : Bool) → ladders.is_done log k ≡ y → ladders.set_priority side log k p ≡ effect_of side h log (calls.SetPriority k p) (first_row (row true replies.Done [] ∷ []))
      by true f = rw (a.reset, a.finished, a.events, f) refl
      by false f = rw (a.reset, a.finished, a.events, f) refl

  -- ---- reading

  pub read-agrees : (size : ℕ) (left : List ℕ) → (if size == 0 then poll_only side log (replies.Read (Some [])) else ladders.read_reply side log k size left)
      ≡ effect_of side h log (calls.Read k size) (first_row (read h k size left))
  read-agrees zero left = refl
  read-agrees (suc n) (b ∷ bytes) = rw (more n) refl
  read-agrees (suc n) [] = by (end_of (events_of log) k) refl (logs.is_open log) refl
    where
      by : (e : StreamEnd) → end_of (events_of log) k ≡ e → (x : Bool) → logs.is_open log ≡ x
          → (if suc n == 0 then poll_only side log (replies.Read (Some [])) else ladders.read_reply side log k (suc n) [])
          ≡ effect_of side h log (calls.Read k (suc n)) (first_row (read h k (suc n) []))
      by ends.Fin g x e = rw (more n, a.events, g) refl
      by (ends.Reset code) g x e = rw (more n, a.events, g) refl
      by ends.Running g true e = rw (more n, a.events, g, a.openness, e) refl
      by ends.Running g false e = rw (more n, a.events, g, a.openness, e) refl

  le-not : (m n : ℕ) (b : Bool) → nat_lt m n ≡ b → nat_le n m ≡ not b
  le-not m n true e = grind (arith, e)
  le-not m n false e = grind (arith, e)

  pub read_exact-agrees : (size : ℕ) (left : List ℕ)
      → (if nat_lt (length left) size then ladders.exact_at_end side log k left (end_of (events_of log) k) else ladders.take_bytes side log k (take size left) (replies.Exact (take size left)))
      ≡ effect_of side h log (calls.ReadExact k size) (first_row (read_exact h k size left))
  read_exact-agrees size left = by (nat_lt (length left) size) refl (end_of (events_of log) k) refl (logs.is_open log) refl
    where
      by : (l : Bool) → nat_lt (length left) size ≡ l → (e : StreamEnd) → end_of (events_of log) k ≡ e → (x : Bool) → logs.is_open log ≡ x
          → (if nat_lt (length left) size then ladders.exact_at_end side log k left (end_of (events_of log) k) else ladders.take_bytes side log k (take size left) (replies.Exact (take size left)))
          ≡ effect_of side h log (calls.ReadExact k size) (first_row (read_exact h k size left))
      by false l e g x q = rw (le-not (length left) size false l, l) refl
      by true l ends.Fin g x q = rw (le-not (length left) size true l, l, a.events, g) refl
      by true l (ends.Reset code) g x q = rw (le-not (length left) size true l, l, a.events, g) refl
      by true l ends.Running g true q = rw (le-not (length left) size true l, l, a.events, g, a.openness, q) refl
      by true l ends.Running g false q = rw (le-not (length left) size true l, l, a.events, g, a.openness, q) refl

  pub stop-agrees : (code : ℕ) → ladders.stop_receiving side log k code
      ≡ effect_of side h log (calls.StopRecv k code) (first_row (row true replies.Done (action_if (is_open h) (actions.StopOut k code)) ∷ []))
  stop-agrees code = rw a.openness refl

-- ---- what is unread

pub unread-agrees : (side : Side) (offset : ℕ → ℕ) (h : History) (log : Log) (k : ℕ) → Stands side offset h log → unread side h k ≡ ladders.unread_body side log k
unread-agrees side offset h log k s =
    ap (λ (n : ℕ). drop (n + length (was_read h k)) (contents h k))
    (ap body_start (verdicts-agree k (findings side h) (stream_table side log) s.table))
    ∙ ap (λ (n : ℕ). drop (body_start (tables.verdict_of k (stream_table side log).classified) + n) (contents h k)) (s.halves.read k)
    ∙ ap (drop (body_start (tables.verdict_of k (stream_table side log).classified) + ladders.total_read k (calls_of log))) (s.came.contents k)
