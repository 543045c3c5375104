-- What is kept of a log tells which turn may come as the log does.
use Rattle.std.proofs.Common.{◌≡◌, ◌<◌, ◌%◌, ◌^◌, ℕ, Bool, true, false, refl, sym, ap, ◌∙◌, List}
use Rattle.std.specs.Prelude.{nat_lt, is_some, ◌==◌, ◌&&◌, not}
use Rattle.wt_wire.specs.declared.side.Side.{Side}
use Rattle.wt_wire.specs.declared.side.Side.TheVariants.{Client, Server}
use Rattle.wt_turn.specs.declared.action.Action.{Action}
use Rattle.wt_turn.specs.declared.datagram_fact.DatagramFact.{DatagramFact}
use Rattle.wt_turn.specs.declared.loss.LossReason.{LossReason}
use Rattle.wt_turn.specs.declared.turn.Turn.{Turn}
use Rattle.wt_turn.specs.declared.turn.Turn.TheVariants as turns
use Rattle.wt_turn.specs.Log.{Log, all_events_of, actions_of}
use Rattle.wt_transport.specs.StreamState.{Stream}
use Rattle.wt_turn.specs.Streams.{local_uni, peer_uni, peer_bi, stream_count, exists, can_receive, can_send}
use Rattle.wt_turn.specs.Reports.{is_connected, is_running, loss_of, stop_of, is_acknowledged, credit}
use Rattle.wt_turn.specs.Sent.{is_finished}
use Rattle.wt_turn.specs.Arrivals.{may_receive, may_come, fits}
use Rattle.wt_turn.specs.Unread.{ReadPosition}
use Rattle.wt_transport.specs.StreamState.{has_stream, stream_at}
use Rattle.wt_transport.specs.State.{TransportState, stream_of, state_of, Facts}
use Rattle.wt_transport.specs.Step.{count_now, can_receive_now, can_send_now, may_receive_now, may_stop_now, may_ack_now, may_raise_now, may_come_now, fits_now}
use Rattle.wt_transport.proofs.Rows.{count-rows, has-rows, stream_at-rows}
use Rattle.wt_transport.proofs.Events.{uni-below, bi-below}
use Rattle.wt_transport.proofs.Bools.{first, second, where-so, where-so-two, where-so-three}

module _ (side : Side) (log : Log) (position : ℕ → ReadPosition) (pieces : ℕ → List (List ℕ)) (uncollected : List Action) where
  abbrev state : TransportState
  state = state_of side log position pieces uncollected

  abbrev stream : ℕ → Stream
  stream = stream_of log position pieces

  abbrev connected : Bool
  connected = is_connected (all_events_of log)

  pub has-is : (id : ℕ) → has_stream state.streams id ≡ exists side log id
  has-is id = has-rows stream (stream_count side log) id

  pub at-is : (id : ℕ) → exists side log id ≡ true → stream_at state.streams id ≡ stream id
  at-is id x = stream_at-rows stream (stream_count side log) id x

  pub count-is : (kind : ℕ) → kind < 4 → count_now state kind ≡ stream_count side log kind
  count-is kind l = count-rows stream (stream_count side log) kind l

  pub receive-is : (id : ℕ) → can_receive_now state id ≡ can_receive side log id
  receive-is id = ap (λ b. b && not (local_uni side == id % 4)) (has-is id)

  pub send-is : (id : ℕ) → can_send_now state id ≡ can_send side log id
  send-is id = ap (λ b. b && not (peer_uni side == id % 4)) (has-is id)

  -- the stream exists where one of its halves does
  received : (id : ℕ) → (connected && can_receive side log id) ≡ true → exists side log id ≡ true
  received id e = first (exists side log id) (not (local_uni side == id % 4)) (second connected (can_receive side log id) e)

  sends : (id : ℕ) → (connected && can_send side log id) ≡ true → exists side log id ≡ true
  sends id e = first (exists side log id) (not (peer_uni side == id % 4)) (second connected (can_send side log id) e)

  bytes-is : (id : ℕ) → may_receive_now state id ≡ may_receive side log id
  bytes-is id = ap (λ b. connected && b && is_running (stream_at state.streams id).all_signals.end) (receive-is id)
      ∙ where-so (connected && can_receive side log id) _ _ (λ e. ap (λ (s : Stream). is_running s.all_signals.end) (at-is id (received id e)))

  stop-is : (id : ℕ) → may_stop_now state id
      ≡ (connected && can_send side log id && not (is_some (stop_of (all_events_of log) id)) && not (is_acknowledged (all_events_of log) id))
  stop-is id = ap (λ b. connected && b && not (is_some (stream_at state.streams id).all_signals.stop) && not (stream_at state.streams id).all_signals.acknowledged) (send-is id)
      ∙ where-so-two (connected && can_send side log id) _ _ _ _
      (λ e. ap (λ (s : Stream). not (is_some s.all_signals.stop)) (at-is id (sends id e)))
      (λ e. ap (λ (s : Stream). not s.all_signals.acknowledged) (at-is id (sends id e)))

  raise-is : (id total : ℕ) → may_raise_now state id total
      ≡ (connected && can_send side log id && not (nat_lt total (credit (all_events_of log) id)) && nat_lt total (2 ^ 62))
  raise-is id total = ap (λ b. connected && b && not (nat_lt total (stream_at state.streams id).credit) && nat_lt total (2 ^ 62)) (send-is id)
      ∙ where-so-two (connected && can_send side log id) _ _ _ _
      (λ e. ap (λ (s : Stream). not (nat_lt total s.credit)) (at-is id (sends id e)))
      (λ e. refl)

  pub finished-exists : Facts side log position pieces → (id : ℕ) (b : Bool) → exists side log id ≡ b → is_finished (actions_of log) id ≡ true → exists side log id ≡ true
  finished-exists facts id true x e = x
  finished-exists facts id false x e = let none = ap (λ (s : Stream). s.finished) ((facts.streams id).unopened x) in absurd (cc)

  finished-is : Facts side log position pieces → (id : ℕ) (b : Bool) → exists side log id ≡ b
      → (has_stream state.streams id && (stream_at state.streams id).finished) ≡ is_finished (actions_of log) id
  finished-is facts id true x = ap (λ b. b && (stream_at state.streams id).finished) (has-is id ∙ x) ∙ ap (λ (s : Stream). s.finished) (at-is id x)
  finished-is facts id false x = ap (λ b. b && (stream_at state.streams id).finished) (has-is id ∙ x)
      ∙ sym (ap (λ (s : Stream). s.finished) ((facts.streams id).unopened x))

  ack-is : Facts side log position pieces → (id : ℕ) → may_ack_now state id ≡ may_come side log (turns.Acked id)
  ack-is facts id = ap (λ b. connected && b && not (stream_at state.streams id).reset
      && not (is_some (stream_at state.streams id).all_signals.stop) && not (stream_at state.streams id).all_signals.acknowledged) (finished-is facts id (exists side log id) refl)
      ∙ where-so-three (connected && is_finished (actions_of log) id) _ _ _ _ _ _
      (λ e. ap (λ (s : Stream). not s.reset) (there e)) (λ e. ap (λ (s : Stream). not (is_some s.all_signals.stop)) (there e)) (λ e. ap (λ (s : Stream). not s.all_signals.acknowledged) (there e))
    where
      there : (connected && is_finished (actions_of log) id) ≡ true → stream_at state.streams id ≡ stream id
      there e = at-is id (finished-exists facts id (exists side log id) refl (second connected (is_finished (actions_of log) id) e))

  begin-is : (s : Side) (uni bi c : ℕ) (datagrams : DatagramFact) → may_come_now (state_of s log position pieces uncollected) (turns.Connected uni bi c datagrams) ≡ may_come s log (turns.Connected uni bi c datagrams)
  begin-is Client uni bi c datagrams = refl
  begin-is Server uni bi c datagrams = refl

  lost-is : (s : Side) (reason : LossReason) → may_come_now (state_of s log position pieces uncollected) (turns.Loss reason) ≡ may_come s log (turns.Loss reason)
  lost-is Client reason = refl
  lost-is Server reason = refl

  may-come-is : Facts side log position pieces → (turn : Turn) → may_come_now state turn ≡ may_come side log turn
  may-come-is facts (turns.Connected uni bi c datagrams) = begin-is side uni bi c datagrams
  may-come-is facts turns.PeerUni = ap (λ n. connected && nat_lt n (2 ^ 60)) (count-is (peer_uni side) (uni-below side))
  may-come-is facts turns.PeerBi = ap (λ n. connected && nat_lt n (2 ^ 60)) (count-is (peer_bi side) (bi-below side))
  may-come-is facts (turns.Bytes id piece) = bytes-is id
  may-come-is facts (turns.End id) = bytes-is id
  may-come-is facts (turns.Reset id code) = bytes-is id
  may-come-is facts (turns.Stop id code) = stop-is id
  may-come-is facts (turns.Acked id) = ack-is facts id
  may-come-is facts (turns.MaxData id total) = raise-is id total
  may-come-is facts (turns.Loss reason) = lost-is side reason
  may-come-is facts _ = refl

  pub fits-is : Facts side log position pieces → (turn : Turn) → fits_now state turn ≡ fits side log turn
  fits-is facts turn = ap (λ b. b && not (is_some (loss_of (all_events_of log)))) (may-come-is facts turn)
