-- What still runs of a stream is so by what is kept where it is so by the log.
use Rattle.std.proofs.Common.{◌≡◌, ◌%◌, ℕ, Bool, true, false, List, [], ◌∷◌, refl, sym, subst, ap, ◌∙◌, length}
use Rattle.std.specs.Prelude.{◌==◌, ◌&&◌, not, if◌then◌else◌}
use Rattle.wt_wire.specs.declared.side.Side.{Side}
use Rattle.wt_turn.specs.declared.action.Action.{Action}
use Rattle.wt_turn.specs.declared.action.Action.TheVariants as actions
use Rattle.wt_turn.specs.Log.{Log, events_of, with_actions}
use Rattle.wt_turn.specs.Streams.{can_receive, can_send, exists, local_uni, peer_uni, stream_count}
use Rattle.wt_turn.specs.Reports.{end_of, is_running}
use Rattle.wt_turn.specs.Joined.{newest_first}
use Rattle.wt_turn.specs.Outgoing.{if_open, reset_entry}
use Rattle.wt_turn.specs.Unread.{ReadPosition, unread}
use Rattle.wt_transport.specs.StreamState.{Stream, stream_at}
use Rattle.wt_transport.specs.State.{TransportState, Refines, state_of}
use Rattle.wt_transport.specs.Step.{after_reset, after_stop, can_send_now, end_now}
use Rattle.wt_transport.specs.Kind.{peer_kind}
use Rattle.wt_transport.specs.Accepting.{stream_after}
use Rattle.wt_transport.specs.Running.{actions_of_reset_running, actions_of_stop_running, is_quiet_now, log_reset_running, peer_stream_now, reset_running_now, still_receives, still_receives_now, still_sends, still_sends_now, stop_running_now}
use Rattle.wt_transport.proofs.Bools.{first, where-so-two}
use Rattle.wt_transport.proofs.Fitting.{at-is, receive-is, send-is}
use Rattle.wt_transport.proofs.Calls.{end-is}
use Rattle.wt_transport.proofs.Asking.{refined_peer_bis, refined_peer_unis}
use Rattle.wt_transport.proofs.Refining as refining

module _ (side : Side) (t : TransportState) (log : Log) (position : ℕ → ReadPosition) (uncollected : List Action) (r : Refines side t log position uncollected) where
  pub refined_still_receives : (id : ℕ) → still_receives_now t id ≡ still_receives side log position id
  refined_still_receives id = ap (λ (u : TransportState). still_receives_now u id) r.state
      ∙ (ap (λ b. b && is_running (end_now (state_of side log position r.pieces uncollected) id) && not (stream_at (state_of side log position r.pieces uncollected).streams id).given_up) (receive-is side log position r.pieces uncollected id)
      ∙ where-so-two (can_receive side log id) _ _ _ _ (λ _. ap is_running (end-is side log position r.pieces uncollected r.facts id))
      (λ c. ap (λ (s : Stream). not s.given_up) (at-is side log position r.pieces uncollected id (first (exists side log id) (not (local_uni side == id % 4)) c))))

  pub refined_still_sends : (id : ℕ) → still_sends_now t id ≡ still_sends side log id
  refined_still_sends id = ap (λ (u : TransportState). still_sends_now u id) r.state
      ∙ (ap (λ b. b && not (stream_at (state_of side log position r.pieces uncollected).streams id).finished && not (stream_at (state_of side log position r.pieces uncollected).streams id).reset) (send-is side log position r.pieces uncollected id)
      ∙ where-so-two (can_send side log id) _ _ _ _
      (λ c. ap (λ (s : Stream). not s.finished) (at-is side log position r.pieces uncollected id (first (exists side log id) (not (peer_uni side == id % 4)) c)))
      (λ c. ap (λ (s : Stream). not s.reset) (at-is side log position r.pieces uncollected id (first (exists side log id) (not (peer_uni side == id % 4)) c))))

  pub refined_quiet : (id : ℕ) → is_quiet_now t id ≡ ((length (unread log position id) == 0) && is_running (end_of (events_of log) id))
  refined_quiet id = λ i. (length (refining.refined_unread side t log position uncollected r id i) == 0) && is_running (refining.refined_end side t log position uncollected r id i)

  pub refined_peer_stream : (bidirectional : Bool) (count : ℕ) → peer_stream_now t bidirectional count ≡ stream_after (stream_count side log (peer_kind bidirectional side)) (peer_kind bidirectional side) count
  refined_peer_stream true count = λ i. stream_after (refined_peer_bis side t log position uncollected r i) (peer_kind true (refining.refined_side side t log position uncollected r i)) count
  refined_peer_stream false count = λ i. stream_after (refined_peer_unis side t log position uncollected r i) (peer_kind false (refining.refined_side side t log position uncollected r i)) count

  stop-if : (b : Bool) (id code : ℕ)
      → Refines side (if b then after_stop t id code else t) (with_actions (if b then if_open log (actions.StopOut id code) else []) log) position (newest_first (if b then if_open log (actions.StopOut id code) else []) uncollected)
  stop-if true id code = refining.stop_refines side t log position uncollected r id code
  stop-if false id code = r

  pub stop_running_refines : (id code : ℕ)
      → Refines side (stop_running_now t id code) (with_actions (actions_of_stop_running side log position id code) log) position (newest_first (actions_of_stop_running side log position id code) uncollected)
  stop_running_refines id code = subst (λ (b : Bool). Refines side (stop_running_now t id code) (with_actions (if b then if_open log (actions.StopOut id code) else []) log) position (newest_first (if b then if_open log (actions.StopOut id code) else []) uncollected))
      (refined_still_receives id) (stop-if (still_receives_now t id) id code)

  reset-if : (b : Bool) (id code : ℕ) → still_sends_now t id ≡ b
      → Refines side (if b then after_reset t id code else t) (if b then reset_entry log id code ∷ log else log) position (newest_first (if b then if_open log (actions.ResetOut id code) else []) uncollected)
  reset-if true id code e = refining.reset_refines side t log position uncollected r id code
      (first (can_send_now t id) (not (stream_at t.streams id).finished) (first (can_send_now t id && not (stream_at t.streams id).finished) (not (stream_at t.streams id).reset) e))
  reset-if false id code e = r

  pub reset_running_refines : (id code : ℕ)
      → Refines side (reset_running_now t id code) (log_reset_running side log id code) position (newest_first (actions_of_reset_running side log id code) uncollected)
  reset_running_refines id code = subst (λ (b : Bool). Refines side (reset_running_now t id code) (if b then reset_entry log id code ∷ log else log) position (newest_first (if b then if_open log (actions.ResetOut id code) else []) uncollected))
      (refined_still_sends id) (reset-if (still_sends_now t id) id code refl)

  -- after a stop that went out, and where there was nothing to stop
  pub stopped_refines : (u : TransportState) (id code : ℕ) → still_receives_now t id ≡ true → u ≡ after_stop t id code
      → Refines side u (with_actions (actions_of_stop_running side log position id code) log) position (newest_first (actions_of_stop_running side log position id code) uncollected)
  stopped_refines u id code b e = subst (λ (v : TransportState). Refines side v (with_actions (actions_of_stop_running side log position id code) log) position (newest_first (actions_of_stop_running side log position id code) uncollected))
      (ap (λ c. if c then after_stop t id code else t) b ∙ sym e) (stop_running_refines id code)

  pub unstopped_refines : (id code : ℕ) → still_receives_now t id ≡ false
      → Refines side t (with_actions (actions_of_stop_running side log position id code) log) position (newest_first (actions_of_stop_running side log position id code) uncollected)
  unstopped_refines id code b = subst (λ (v : TransportState). Refines side v (with_actions (actions_of_stop_running side log position id code) log) position (newest_first (actions_of_stop_running side log position id code) uncollected))
      (ap (λ c. if c then after_stop t id code else t) b) (stop_running_refines id code)

  -- after a reset that counts, and where there was nothing to reset
  pub reset_there_refines : (u : TransportState) (id code : ℕ) → still_sends_now t id ≡ true → u ≡ after_reset t id code
      → Refines side u (log_reset_running side log id code) position (newest_first (actions_of_reset_running side log id code) uncollected)
  reset_there_refines u id code b e = subst (λ (v : TransportState). Refines side v (log_reset_running side log id code) position (newest_first (actions_of_reset_running side log id code) uncollected))
      (ap (λ c. if c then after_reset t id code else t) b ∙ sym e) (reset_running_refines id code)

  pub unreset_refines : (id code : ℕ) → still_sends_now t id ≡ false
      → Refines side t (log_reset_running side log id code) position (newest_first (actions_of_reset_running side log id code) uncollected)
  unreset_refines id code b = subst (λ (v : TransportState). Refines side v (log_reset_running side log id code) position (newest_first (actions_of_reset_running side log id code) uncollected))
      (ap (λ c. if c then after_reset t id code else t) b) (reset_running_refines id code)
