-- A call on one half answers by its rule over what is kept as over the log that it refines.
use Rattle.std.proofs.Common.{arith, ◌≡◌, ◌≤◌, ℕ, ℤ, Bool, true, false, List, [], ◌∷◌, ◌++◌, length, take, drop, refl, subst, ap, ◌∙◌}
use Rattle.std.specs.Prelude.{IsTrue, nat_lt, if◌then◌else◌}
use Rattle.std.proofs.lemmas.Bool.Decides.{nat_tests}
use Rattle.wt_wire.specs.declared.side.StreamEnd.{StreamEnd}
use Rattle.wt_wire.specs.declared.side.StreamEnd.TheVariants as ends
use Rattle.wt_wire.specs.declared.side.Side.{Side}
use Rattle.wt_turn.specs.declared.action.Action.{Action}
use Rattle.wt_turn.specs.declared.action.Action.TheVariants as actions
use Rattle.wt_turn.specs.Log.{Log, Called, PrioritySet, is_open, with_actions}
use Rattle.wt_turn.specs.Joined.{newest_first}
use Rattle.wt_turn.specs.Outgoing.{actions_to_send, if_open, reset_entry}
use Rattle.wt_turn.specs.Unread.{ReadPosition, unread, given_up}
use Rattle.wt_transport.specs.StreamState.{stream_at}
use Rattle.wt_transport.specs.State.{TransportState, Refines}
use Rattle.wt_transport.specs.Step.{can_send_now, can_receive_now, may_send_now, after_send, after_finish, after_reset, after_priority, after_stop, after_give_up, unread_now, with_action, if_so}
use Rattle.wt_transport.specs.HalfRules.{SendingHalf, ReceivingHalf, is_closed, read_count, read_exact_count, count_of_few}
use Rattle.wt_transport.specs.StreamState.{sending_half_of}
use Rattle.wt_transport.specs.Rules.{sending_half, receiving_half, sending_half_now, receiving_half_now, actions_of_write, actions_of_finish, log_reset, actions_of_reset, log_priority, after_write, after_finishing, after_reset_unless_closed, after_priority_unless_closed}
use Rattle.wt_transport.proofs.Fitting.{at-is}
use Rattle.wt_transport.proofs.Refining as refining

pub read_within : (half : ReceivingHalf) (size : ℕ) → read_count half size ≤ half.unread
read_within half size = omega arith

few-within : (end : StreamEnd) (count : ℕ) → count_of_few end count ≤ count
few-within ends.Fin count = omega arith
few-within (ends.Reset code) count = omega arith
few-within ends.Running count = omega arith

exact-within : (b : Bool) (half : ReceivingHalf) (size : ℕ) → nat_lt half.unread size ≡ b → (if b then count_of_few half.end half.unread else size) ≤ half.unread
exact-within true half size e = few-within half.end half.unread
exact-within false half size e = grind (arith, nat_tests)

pub read_exact_within : (half : ReceivingHalf) (size : ℕ) → read_exact_count half size ≤ half.unread
read_exact_within half size = exact-within (nat_lt half.unread size) half size refl

keeps-if : (b : Bool) (t : TransportState) (id code : ℕ) → can_receive_now (if_so b (with_action t (actions.StopOut id code)) t) id ≡ can_receive_now t id
keeps-if true t id code = refl
keeps-if false t id code = refl

-- a stop leaves which halves there are
pub stop_keeps : (t : TransportState) (id code : ℕ) → can_receive_now (after_stop t id code) id ≡ can_receive_now t id
stop_keeps t id code = keeps-if t.is_open t id code

module _ (side : Side) (t : TransportState) (log : Log) (position : ℕ → ReadPosition) (uncollected : List Action) (r : Refines side t log position uncollected) where
  pub sending_kept : (id : ℕ) → IsTrue (can_send_now t id) → sending_half_now t id ≡ sending_half log id
  sending_kept id e = ap (λ u. sending_half_of (stream_at u.streams id)) r.state ∙ ap sending_half_of (at-is side log position r.pieces uncollected id (refining.half_exists side t log position uncollected r id e))

  pub receiving_kept : (id : ℕ) → receiving_half_now t id ≡ receiving_half log position id
  receiving_kept id = λ i. record { unread = length (refining.refined_unread side t log position uncollected r id i); end = refining.refined_end side t log position uncollected r id i }

  -- an answer by a rule over whether the connection is open and a half
  pub sending_answer : {X : Type 0} (rule : Bool → SendingHalf → X) (id : ℕ) → IsTrue (can_send_now t id) → rule t.is_open (sending_half_now t id) ≡ rule (is_open log) (sending_half log id)
  sending_answer rule id e = λ i. rule (refining.refined_open side t log position uncollected r i) (sending_kept id e i)

  pub receiving_answer : {X : Type 0} (rule : Bool → ReceivingHalf → X) (id : ℕ) → rule t.is_open (receiving_half_now t id) ≡ rule (is_open log) (receiving_half log position id)
  receiving_answer rule id = λ i. rule (refining.refined_open side t log position uncollected r i) (receiving_kept id i)

  -- the front of a buffer into which unread bytes were read
  pub front_kept : (count : ReceivingHalf → ℕ) (id : ℕ) (old : List ℕ) → take (count (receiving_half_now t id)) (unread_now t id) ++ drop (count (receiving_half_now t id)) old
      ≡ take (count (receiving_half log position id)) (unread log position id) ++ drop (count (receiving_half log position id)) old
  front_kept count id old = λ i. take (count (receiving_kept id i)) (refining.refined_unread side t log position uncollected r id i) ++ drop (count (receiving_kept id i)) old

  write-if : (b : Bool) (id : ℕ) (bytes : List ℕ) → may_send_now t id ≡ b
      → Refines side (if b then after_send t id bytes else t) (with_actions (if b then actions_to_send log id bytes else []) log) position (newest_first (if b then actions_to_send log id bytes else []) uncollected)
  write-if true id bytes e = refining.send_refines side t log position uncollected r id bytes e
  write-if false id bytes e = r

  pub write_refines : (id : ℕ) (bytes : List ℕ) → Refines side (after_write t id bytes) (with_actions (actions_of_write side log id bytes) log) position (newest_first (actions_of_write side log id bytes) uncollected)
  write_refines id bytes = subst (λ (b : Bool). Refines side (after_write t id bytes) (with_actions (if b then actions_to_send log id bytes else []) log) position (newest_first (if b then actions_to_send log id bytes else []) uncollected))
      (refining.refined_may_send side t log position uncollected r id) (write-if (may_send_now t id) id bytes refl)

  finish-if : (b : Bool) (id : ℕ) → may_send_now t id ≡ b
      → Refines side (if b then after_finish t id else t) (with_actions (if b then actions.Finish id ∷ [] else []) log) position (newest_first (if b then actions.Finish id ∷ [] else []) uncollected)
  finish-if true id e = refining.finish_refines side t log position uncollected r id e
  finish-if false id e = r

  pub finishing_refines : (id : ℕ) → Refines side (after_finishing t id) (with_actions (actions_of_finish side log id) log) position (newest_first (actions_of_finish side log id) uncollected)
  finishing_refines id = subst (λ (b : Bool). Refines side (after_finishing t id) (with_actions (if b then actions.Finish id ∷ [] else []) log) position (newest_first (if b then actions.Finish id ∷ [] else []) uncollected))
      (refining.refined_may_send side t log position uncollected r id) (finish-if (may_send_now t id) id refl)

  reset-if : (b : Bool) (id code : ℕ) → IsTrue (can_send_now t id)
      → Refines side (if b then t else after_reset t id code) (if b then log else (reset_entry log id code ∷ log)) position (newest_first (if b then [] else if_open log (actions.ResetOut id code)) uncollected)
  reset-if true id code e = r
  reset-if false id code e = refining.reset_refines side t log position uncollected r id code e

  pub reset_half_refines : (id code : ℕ) → IsTrue (can_send_now t id)
      → Refines side (after_reset_unless_closed t id code) (log_reset log id code) position (newest_first (actions_of_reset log id code) uncollected)
  reset_half_refines id code e = subst (λ (h : SendingHalf). Refines side (after_reset_unless_closed t id code) (if is_closed h then log else (reset_entry log id code ∷ log)) position (newest_first (if is_closed h then [] else if_open log (actions.ResetOut id code)) uncollected))
      (sending_kept id e) (reset-if (is_closed (sending_half_now t id)) id code e)

  priority-if : (b : Bool) (id : ℕ) (priority : ℤ) → IsTrue (can_send_now t id) → Refines side (if b then t else after_priority t id priority) (if b then log else (Called (PrioritySet id priority) ∷ log)) position uncollected
  priority-if true id priority e = r
  priority-if false id priority e = refining.priority_refines side t log position uncollected r id priority e

  pub set_priority_refines : (id : ℕ) (priority : ℤ) → IsTrue (can_send_now t id) → Refines side (after_priority_unless_closed t id priority) (log_priority log id priority) position uncollected
  set_priority_refines id priority e = subst (λ (h : SendingHalf). Refines side (after_priority_unless_closed t id priority) (if is_closed h then log else (Called (PrioritySet id priority) ∷ log)) position uncollected)
      (sending_kept id e) (priority-if (is_closed (sending_half_now t id)) id priority e)

  pub stop_half_refines : (id code : ℕ) → IsTrue (can_receive_now t id)
      → Refines side (after_give_up (after_stop t id code) id) (with_actions (if_open log (actions.StopOut id code)) log) (given_up position id) (newest_first (if_open log (actions.StopOut id code)) uncollected)
  stop_half_refines id code e = refining.give_up_refines side (after_stop t id code) (with_actions (if_open log (actions.StopOut id code)) log) position (newest_first (if_open log (actions.StopOut id code)) uncollected)
      (refining.stop_refines side t log position uncollected r id code) id (stop_keeps t id code ∙ e)
