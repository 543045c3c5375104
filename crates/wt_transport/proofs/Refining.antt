-- A transport that refines a log tells what the log says, and after each call refines the longer one.
use Rattle.std.proofs.Common.{arith, ◌≡◌, ◌<◌, ◌≤◌, ◌%◌, ℕ, ℤ, Bool, true, false, List, [], ◌∷◌, ◌++◌, length, take, min, refl, sym, subst, ap, ◌∙◌, length-take}
use Rattle.std.specs.Prelude.{IsTrue, is_some, ◌==◌, ◌&&◌, not, if◌then◌else◌}
use Rattle.std.specs.List.{concat}
use Rattle.wt_wire.specs.declared.side.Side.{Side}
use Rattle.wt_wire.specs.declared.side.Side.TheVariants.{Client, Server}
use Rattle.wt_wire.specs.declared.side.StreamEnd.TheVariants as ends
use Rattle.wt_wire.specs.declared.addr.Addr.{Addr}
use Rattle.wt_turn.specs.declared.action.Action.{Action}
use Rattle.wt_turn.specs.declared.action.Action.TheVariants as actions
use Rattle.wt_turn.specs.declared.turn.Turn.{Turn}
use Rattle.wt_turn.specs.declared.turn.Turn.TheVariants as turns
use Rattle.wt_turn.specs.Log.{Log, Sent, Called, ResetUnsent, PrioritySet, events_of, is_open, with_actions}
use Rattle.wt_transport.specs.StreamState.{Stream}
use Rattle.wt_turn.specs.Streams.{local_bi, local_uni, peer_uni, exists, contents, can_send, can_receive}
use Rattle.wt_turn.specs.Reports.{end_of, datagram_fact, loss_of}
use Rattle.wt_turn.specs.Arrivals.{fits, log_turn}
use Rattle.wt_turn.specs.Joined.{joined_actions, newest_first}
use Rattle.wt_turn.specs.Outgoing.{may_send, actions_to_open, opened_id, credit_left, bytes_within_credit, actions_to_send, if_open, reset_entry}
use Rattle.wt_turn.specs.Unread.{ReadPosition, unread, at_start, position_after, given_up, IsFront}
use Rattle.wt_transport.specs.Pieces.{AreFilled, first_piece}
use Rattle.wt_transport.specs.StreamState.{stream_at}
use Rattle.wt_transport.specs.State.{TransportState, but_accepted, state_of, Facts, Holds, Refines}
use Rattle.wt_transport.specs.Step.{nothing_connected, fits_now, may_receive_now, after_turn, after_bytes, after_opening, opened_id_now, may_send_now, can_send_now, can_receive_now, after_send, covered_now, after_finish, after_reset, after_stop, after_priority, after_dial, after_close, with_action, pieces_now, unread_now, after_consume, after_give_up, end_now}
use Rattle.wt_transport.proofs.Bools.{first, second, not-not}
use Rattle.wt_transport.proofs.StreamChanges.{skipped, emptied}
use Rattle.wt_transport.proofs.ButAccepted.{Forgets, close-forgets, consume-forgets, fits-same, opening-forgets, reset-forgets, send-forgets, stop-forgets, turn-forgets}
use Rattle.wt_transport.proofs.Fitting.{fits-is, send-is, receive-is}
use Rattle.wt_transport.proofs.Arriving.{same-holds, pieces_then, turn-is, turn-facts, turn-holds}
use Rattle.wt_transport.proofs.Calls.{opened-id-is, opening-is, opening-facts, send-then, send-facts, count-covered, finish-then, finish-facts, reset-here, reset-here-facts, priority-then, priority-facts, stop-out, stop-out-facts, dial-facts, datagram-out-facts, close-then, close-facts, pieces-is, end-is, consume-then, consume-facts, consume-holds, give-up-then, give-up-facts, give-up-holds, may-send-is}

pub new_refines : (side : Side) → Refines side (nothing_connected side) [] at_start []
new_refines side = record {
  pieces = λ k. [];
  facts = record { streams = λ k. record { unopened = λ _. refl; sent = omega arith; one_way = λ _. (refl, refl) }; unconnected = λ _ _. refl; unallowed = λ _ kind. none (local_uni side == kind) 0; open_same = λ _. refl };
  holds = λ k. record { bytes = refl; filled = tt; within = omega arith };
  state = refl;
}
  where
    none : (b : Bool) (n : ℕ) → (if b then n else n) ≡ n
    none true n = refl
    none false n = refl

uni-below : (side : Side) → local_uni side < 4
uni-below Client = omega arith
uni-below Server = omega arith

bi-below : (side : Side) → local_bi side < 4
bi-below Client = omega arith
bi-below Server = omega arith

take-min : (n : ℕ) (xs : List ℕ) → length (take n xs) ≡ min (length xs) n
take-min n xs = omega (arith, length-take n xs)

front-is : (pieces : List (List ℕ)) → AreFilled pieces → IsFront (first_piece pieces) (concat pieces)
front-is [] f = record { first = refl; some = λ l. l }
front-is (p ∷ later) f = record { first = take-all p (concat later); some = λ _. f.0 }
  where
    take-all : (p xs : List ℕ) → take (length p) (p ++ xs) ≡ p
    take-all [] xs = refl
    take-all (x ∷ p) xs = ap (λ ys. x ∷ ys) (take-all p xs)

-- actions leave the contents
pub actions-contents : (later : List Action) (log : Log) → contents (with_actions later log) ≡ contents log
actions-contents [] log = refl
actions-contents (a ∷ later) log = actions-contents later (Sent a ∷ log)

module _ (side : Side) (t : TransportState) (log : Log) (position : ℕ → ReadPosition) (uncollected : List Action) (r : Refines side t log position uncollected) where
  -- a step that leads from what is kept of this log to what is kept of that one
  refines-after : (step : TransportState → TransportState) (g : Log) (position_then : ℕ → ReadPosition) (pieces_after : ℕ → List (List ℕ)) (uncollected_then : List Action) → Forgets step t
      → step (state_of side log position r.pieces uncollected) ≡ state_of side g position_then pieces_after uncollected_then → Facts side g position_then pieces_after
      → ((k : ℕ) → Holds g position_then pieces_after k) → Refines side (step t) g position_then uncollected_then
  refines-after step g position_then pieces_after uncollected_then forgets e f h =
      record { pieces = pieces_after; facts = f; holds = h; state = forgets ∙ (ap step r.state ∙ e) }

  -- an entry that is no byte leaves what the pieces hold
  held-by : (g : Log) → contents g ≡ contents log → (k : ℕ) → Holds g position r.pieces k
  held-by g e = same-holds log g position r.pieces e r.holds

  -- an answer that what is kept of this log gives
  kept-gives : {X : Type 0} (answer : TransportState → X) (x : X) → answer (state_of side log position r.pieces uncollected) ≡ x → answer (but_accepted t) ≡ x
  kept-gives answer x e = ap answer r.state ∙ e

  -- ---- what a transport tells

  pub refined_fits : (turn : Turn) → fits_now t turn ≡ fits side log turn
  refined_fits turn = sym (fits-same t turn) ∙ kept-gives (λ u. fits_now u turn) (fits side log turn) (fits-is side log position r.pieces uncollected r.facts turn)

  pub refined_bytes_fit : (id : ℕ) (bytes : List ℕ) → (may_receive_now t id && not t.is_lost) ≡ fits side log (turns.Bytes id bytes)
  refined_bytes_fit id bytes = refined_fits (turns.Bytes id bytes)

  pieces-kept : (id : ℕ) → pieces_now t id ≡ r.pieces id
  pieces-kept id = kept-gives (λ u. pieces_now u id) (r.pieces id) (pieces-is side log position r.pieces uncollected r.facts id)

  pub refined_unread : (id : ℕ) → unread_now t id ≡ unread log position id
  refined_unread id = ap concat (pieces-kept id) ∙ (r.holds id).bytes

  pub refined_peek : (id : ℕ) → IsFront (first_piece (pieces_now t id)) (unread log position id)
  refined_peek id = subst (λ (ps : List (List ℕ)). IsFront (first_piece ps) (unread log position id)) (sym (pieces-kept id))
      (subst (IsFront (first_piece (r.pieces id))) (r.holds id).bytes (front-is (r.pieces id) (r.holds id).filled))

  pub front_told : (id : ℕ) (front : List ℕ) → front ≡ first_piece (pieces_now t id) → IsFront front (unread log position id)
  front_told id front e = subst (λ (bytes : List ℕ). IsFront bytes (unread log position id)) (sym e) (refined_peek id)

  pub refined_end : (id : ℕ) → end_now t id ≡ end_of (events_of log) id
  refined_end id = kept-gives (λ u. end_now u id) (end_of (events_of log) id) (end-is side log position r.pieces uncollected r.facts id)

  -- a stream without a receiving half
  no-half : (id : ℕ) (b : Bool) → exists side log id ≡ b → can_receive side log id ≡ false → (r.pieces id ≡ []) × (end_of (events_of log) id ≡ ends.Running)
  no-half id true x none =
      let one_way : (local_uni side == id % 4) ≡ true = not-not (local_uni side == id % 4) (rw x at none) in
      (r.facts.streams id).one_way one_way
  no-half id false x none = let fresh-is = (r.facts.streams id).unopened x in (ap (λ (s : Stream). s.unread) fresh-is, ap (λ (s : Stream). s.signals.end) fresh-is)

  pub refined_no_pieces : (id : ℕ) → can_receive side log id ≡ false → pieces_now t id ≡ []
  refined_no_pieces id none = pieces-kept id ∙ (no-half id (exists side log id) refl none).0

  pub refined_no_end : (id : ℕ) → can_receive side log id ≡ false → end_now t id ≡ ends.Running
  refined_no_end id none = refined_end id ∙ (no-half id (exists side log id) refl none).1

  pub refined_open : t.is_open ≡ is_open log
  refined_open = kept-gives (λ u. u.is_open) (is_open log) refl

  pub refined_side : t.side ≡ side
  refined_side = kept-gives (λ u. u.side) side refl

  pub refined_datagram_fact : t.datagram_fact ≡ datagram_fact (events_of log)
  refined_datagram_fact = kept-gives (λ u. u.datagram_fact) (datagram_fact (events_of log)) refl

  pub refined_loss : t.loss ≡ loss_of (events_of log)
  refined_loss = kept-gives (λ u. u.loss) (loss_of (events_of log)) refl

  pub refined_actions : t.actions ≡ joined_actions uncollected
  refined_actions = kept-gives (λ u. u.actions) (joined_actions uncollected) refl

  pub refined_may_send : (id : ℕ) → may_send_now t id ≡ may_send side log id
  refined_may_send id = kept-gives (λ u. may_send_now u id) (may_send side log id) (may-send-is side log position r.pieces uncollected r.facts id)

  pub refined_can_send : (id : ℕ) → can_send_now t id ≡ can_send side log id
  refined_can_send id = kept-gives (λ u. can_send_now u id) (can_send side log id) (send-is side log position r.pieces uncollected id)

  pub refined_can_receive : (id : ℕ) → can_receive_now t id ≡ can_receive side log id
  refined_can_receive id = kept-gives (λ u. can_receive_now u id) (can_receive side log id) (receive-is side log position r.pieces uncollected id)

  opened-id-kept : (kind : ℕ) → kind < 4 → opened_id_now t kind ≡ opened_id side log kind
  opened-id-kept kind l = kept-gives (λ u. opened_id_now u kind) (opened_id side log kind) (opened-id-is side log position r.pieces uncollected r.facts kind l)

  pub refined_uni : opened_id_now t (local_uni t.side) ≡ opened_id side log (local_uni side)
  refined_uni = ap (λ w. opened_id_now t (local_uni w)) refined_side ∙ opened-id-kept (local_uni side) (uni-below side)

  pub refined_bi : opened_id_now t (local_bi t.side) ≡ opened_id side log (local_bi side)
  refined_bi = ap (λ w. opened_id_now t (local_bi w)) refined_side ∙ opened-id-kept (local_bi side) (bi-below side)

  -- ---- which streams there are

  pub half_exists : (id : ℕ) → IsTrue (can_send_now t id) → exists side log id ≡ true
  half_exists id e = first (exists side log id) (not (peer_uni side == id % 4)) (sym (refined_can_send id) ∙ e)

  pub receiving_exists : (id : ℕ) → IsTrue (can_receive_now t id) → exists side log id ≡ true
  receiving_exists id e = first (exists side log id) (not (local_uni side == id % 4)) (sym (refined_can_receive id) ∙ e)

  sending-exists : (id : ℕ) → IsTrue (may_send_now t id) → exists side log id ≡ true
  sending-exists id e = half_exists id (second t.is_open (can_send_now t id) (first (t.is_open && can_send_now t id) (not (stream_at t.streams id).finished)
      (first (t.is_open && can_send_now t id && not (stream_at t.streams id).finished) (not (stream_at t.streams id).reset)
      (first (t.is_open && can_send_now t id && not (stream_at t.streams id).finished && not (stream_at t.streams id).reset) (not (is_some (stream_at t.streams id).signals.stop)) e))))

  pub refined_sent : (id : ℕ) (bytes : List ℕ) → IsTrue (may_send_now t id) → length (covered_now t id bytes) ≡ min (length bytes) (credit_left log id)
  refined_sent id bytes e = kept-gives (λ u. length (covered_now u id bytes)) (length (bytes_within_credit log id bytes)) (count-covered side log position r.pieces uncollected r.facts id bytes (sending-exists id e))
      ∙ take-min (credit_left log id) bytes

  -- ---- what it refines after a turn or a call

  pub turn_refines : (turn : Turn) → IsTrue (fits_now t turn) → Refines side (after_turn t turn) (log_turn log turn) position uncollected
  turn_refines turn f =
      let fits_then : fits side log turn ≡ true = sym (refined_fits turn) ∙ f in
      refines-after (λ u. after_turn u turn) (log_turn log turn) position (pieces_then log position r.pieces turn) uncollected
      (turn-forgets t turn) (turn-is side log position r.pieces uncollected r.facts turn fits_then) (turn-facts side log position r.pieces uncollected r.facts turn fits_then) (turn-holds log position r.pieces r.holds turn)

  pub bytes_refine : (id : ℕ) (bytes : List ℕ) → IsTrue (may_receive_now t id && not t.is_lost) → Refines side (after_bytes t id bytes) (log_turn log (turns.Bytes id bytes)) position uncollected
  bytes_refine id bytes f = turn_refines (turns.Bytes id bytes) f

  with-contents : (later : List Action) → contents (with_actions later log) ≡ contents log
  with-contents later = actions-contents later log

  opening_refines : (kind : ℕ) → kind < 4 → Refines side (after_opening t kind) (with_actions (actions_to_open side log kind) log) position (newest_first (actions_to_open side log kind) uncollected)
  opening_refines kind l = refines-after (λ u. after_opening u kind) (with_actions (actions_to_open side log kind) log) position r.pieces (newest_first (actions_to_open side log kind) uncollected)
      (opening-forgets t kind) (opening-is side log position r.pieces uncollected r.facts kind l) (opening-facts side log position r.pieces uncollected r.facts kind) (held-by _ (with-contents (actions_to_open side log kind)))

  pub uni_refines : Refines side (after_opening t (local_uni t.side)) (with_actions (actions_to_open side log (local_uni side)) log) position (newest_first (actions_to_open side log (local_uni side)) uncollected)
  uni_refines = subst (λ (w : Side). Refines side (after_opening t (local_uni w)) (with_actions (actions_to_open side log (local_uni side)) log) position (newest_first (actions_to_open side log (local_uni side)) uncollected))
      (sym refined_side) (opening_refines (local_uni side) (uni-below side))

  pub bi_refines : Refines side (after_opening t (local_bi t.side)) (with_actions (actions_to_open side log (local_bi side)) log) position (newest_first (actions_to_open side log (local_bi side)) uncollected)
  bi_refines = subst (λ (w : Side). Refines side (after_opening t (local_bi w)) (with_actions (actions_to_open side log (local_bi side)) log) position (newest_first (actions_to_open side log (local_bi side)) uncollected))
      (sym refined_side) (opening_refines (local_bi side) (bi-below side))

  pub send_refines : (id : ℕ) (bytes : List ℕ) → IsTrue (may_send_now t id) → Refines side (after_send t id bytes) (with_actions (actions_to_send log id bytes) log) position (newest_first (actions_to_send log id bytes) uncollected)
  send_refines id bytes e = refines-after (λ u. after_send u id bytes) (with_actions (actions_to_send log id bytes) log) position r.pieces (newest_first (actions_to_send log id bytes) uncollected)
      (send-forgets t id bytes) (send-then side log position r.pieces uncollected r.facts id bytes (sending-exists id e)) (send-facts side log position r.pieces uncollected r.facts id bytes (sending-exists id e)) (held-by _ (with-contents (actions_to_send log id bytes)))

  pub finish_refines : (id : ℕ) → IsTrue (may_send_now t id) → Refines side (after_finish t id) (Sent (actions.Finish id) ∷ log) position (actions.Finish id ∷ uncollected)
  finish_refines id e = refines-after (λ u. after_finish u id) (Sent (actions.Finish id) ∷ log) position r.pieces (actions.Finish id ∷ uncollected)
      refl (finish-then side log position r.pieces uncollected r.facts id (sending-exists id e)) (finish-facts side log position r.pieces uncollected r.facts id (sending-exists id e)) (held-by _ refl)

  reset-contents : (b : Bool) (id code : ℕ) → contents ((if b then Sent (actions.ResetOut id code) else Called (ResetUnsent id code)) ∷ log) ≡ contents log
  reset-contents true id code = refl
  reset-contents false id code = refl

  pub reset_refines : (id code : ℕ) → IsTrue (can_send_now t id) → Refines side (after_reset t id code) (reset_entry log id code ∷ log) position (newest_first (if_open log (actions.ResetOut id code)) uncollected)
  reset_refines id code e = refines-after (λ u. after_reset u id code) (reset_entry log id code ∷ log) position r.pieces (newest_first (if_open log (actions.ResetOut id code)) uncollected)
      (reset-forgets t id code) (reset-here side log position r.pieces uncollected r.facts id code (half_exists id e)) (reset-here-facts side log position r.pieces uncollected r.facts id code (half_exists id e)) (held-by _ (reset-contents (is_open log) id code))

  pub stop_refines : (id code : ℕ) → Refines side (after_stop t id code) (with_actions (if_open log (actions.StopOut id code)) log) position (newest_first (if_open log (actions.StopOut id code)) uncollected)
  stop_refines id code = refines-after (λ u. after_stop u id code) (with_actions (if_open log (actions.StopOut id code)) log) position r.pieces (newest_first (if_open log (actions.StopOut id code)) uncollected)
      (stop-forgets t id code) (stop-out side log position r.pieces uncollected r.facts id code) (stop-out-facts side log position r.pieces uncollected r.facts id code) (held-by _ (with-contents (if_open log (actions.StopOut id code))))

  pub priority_refines : (id : ℕ) (priority : ℤ) → IsTrue (can_send_now t id) → Refines side (after_priority t id priority) (Called (PrioritySet id priority) ∷ log) position uncollected
  priority_refines id priority e = refines-after (λ u. after_priority u id priority) (Called (PrioritySet id priority) ∷ log) position r.pieces uncollected
      refl (priority-then side log position r.pieces uncollected r.facts id priority (half_exists id e)) (priority-facts side log position r.pieces uncollected r.facts id priority (half_exists id e)) (held-by _ refl)

  pub dial_refines : (address : Addr) (name : List ℕ) → Refines side (after_dial t address name) (Sent (actions.Dial address name) ∷ log) position (actions.Dial address name ∷ uncollected)
  dial_refines address name = refines-after (λ u. after_dial u address name) (Sent (actions.Dial address name) ∷ log) position r.pieces (actions.Dial address name ∷ uncollected)
      refl refl (dial-facts side log position r.pieces uncollected r.facts address name) (held-by _ refl)

  pub datagram_refines : (piece : List ℕ) → Refines side (with_action t (actions.DatagramOut piece)) (Sent (actions.DatagramOut piece) ∷ log) position (actions.DatagramOut piece ∷ uncollected)
  datagram_refines piece = refines-after (λ u. with_action u (actions.DatagramOut piece)) (Sent (actions.DatagramOut piece) ∷ log) position r.pieces (actions.DatagramOut piece ∷ uncollected)
      refl refl (datagram-out-facts side log position r.pieces uncollected r.facts piece) (held-by _ refl)

  pub close_refines : (code : ℕ) (reason : List ℕ) → Refines side (after_close t code reason) (with_actions (if_open log (actions.Close code reason)) log) position (newest_first (if_open log (actions.Close code reason)) uncollected)
  close_refines code reason = refines-after (λ u. after_close u code reason) (with_actions (if_open log (actions.Close code reason)) log) position r.pieces (newest_first (if_open log (actions.Close code reason)) uncollected)
      (close-forgets t code reason) (close-then side log position r.pieces uncollected r.facts code reason) (close-facts side log position r.pieces uncollected r.facts code reason) (held-by _ (with-contents (if_open log (actions.Close code reason))))

  pub collected_refines : Refines side (record t { actions = [] }) log position []
  collected_refines = refines-after (λ u. record u { actions = [] }) log position r.pieces [] refl refl r.facts r.holds

  pub consume_refines : (id count : ℕ) → count ≤ length (unread_now t id) → Refines side (after_consume t id count) log (position_after position id count) uncollected
  consume_refines id count l =
      let few : count ≤ length (unread log position id) = subst (λ (xs : List ℕ). count ≤ length xs) (refined_unread id) l in
      refines-after (λ u. after_consume u id count) log (position_after position id count) (skipped r.pieces id count) uncollected
      (consume-forgets t id count) (consume-then side log position r.pieces uncollected r.facts id count) (consume-facts side log position r.pieces uncollected r.facts id count) (consume-holds log position r.pieces r.holds id count few)

  pub give_up_refines : (id : ℕ) → IsTrue (can_receive_now t id) → Refines side (after_give_up t id) log (given_up position id) uncollected
  give_up_refines id e = refines-after (λ u. after_give_up u id) log (given_up position id) (emptied r.pieces id) uncollected
      refl (give-up-then side log position r.pieces uncollected r.facts id (receiving_exists id e)) (give-up-facts side log position r.pieces uncollected r.facts id (receiving_exists id e)) (give-up-holds log position r.pieces r.holds id)
