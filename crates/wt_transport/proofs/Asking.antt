-- What a transport that refines a log tells of what was reported and of what went out.
use Rattle.std.proofs.Common.{◌≡◌, ◌<◌, ℕ, Bool, true, false, List, length, refl, sym, ap, ◌∙◌}
use Rattle.std.specs.Prelude.{◌&&◌, if◌then◌else◌}
use Rattle.wt_wire.specs.declared.side.Side.{Side}
use Rattle.wt_turn.specs.declared.action.Action.{Action}
use Rattle.wt_turn.specs.Log.{Log, events_of, all_events_of, actions_of, is_open}
use Rattle.wt_transport.specs.StreamState.{Stream}
use Rattle.wt_turn.specs.Streams.{peer_uni, peer_bi, stream_count, exists}
use Rattle.wt_turn.specs.Reports.{bis_allowed, credit, initial_credit, is_acknowledged, is_connected, stop_of, unis_allowed}
use Rattle.wt_turn.specs.Sent.{is_finished, is_reset, sent_on}
use Rattle.wt_turn.specs.Unread.{ReadPosition}
use Rattle.wt_transport.specs.StreamState.{fresh, has_stream, stream_at}
use Rattle.wt_transport.specs.State.{TransportState, Refines, state_of, stream_of}
use Rattle.wt_transport.specs.Step.{count_now, credit_now, stop_now, sent_now, is_finished_now, is_reset_now, is_acknowledged_now}
use Rattle.wt_transport.proofs.Events.{uni-below, bi-below}
use Rattle.wt_transport.proofs.Fitting.{at-is, count-is, has-is}

module _ (side : Side) (t : TransportState) (log : Log) (position : ℕ → ReadPosition) (uncollected : List Action) (r : Refines side t log position uncollected) where
  abbrev kept : TransportState
  kept = state_of side log position r.pieces uncollected

  -- while the connection is open the events that count are all of them
  pub open_events : is_open log ≡ true → events_of log ≡ all_events_of log
  open_events o = r.facts.open_same o

  pub refined_connected : t.is_connected ≡ is_connected (all_events_of log)
  refined_connected = ap (λ (u : TransportState). u.is_connected) r.state

  pub open_connected : is_open log ≡ true → t.is_connected ≡ is_connected (events_of log)
  open_connected o = refined_connected ∙ ap is_connected (sym (open_events o))

  pub refined_unis_allowed : t.unis_allowed ≡ unis_allowed (all_events_of log)
  refined_unis_allowed = ap (λ (u : TransportState). u.unis_allowed) r.state

  pub open_unis_allowed : is_open log ≡ true → t.unis_allowed ≡ unis_allowed (events_of log)
  open_unis_allowed o = refined_unis_allowed ∙ ap unis_allowed (sym (open_events o))

  pub refined_bis_allowed : t.bis_allowed ≡ bis_allowed (all_events_of log)
  refined_bis_allowed = ap (λ (u : TransportState). u.bis_allowed) r.state

  pub open_bis_allowed : is_open log ≡ true → t.bis_allowed ≡ bis_allowed (events_of log)
  open_bis_allowed o = refined_bis_allowed ∙ ap bis_allowed (sym (open_events o))

  side-is : t.side ≡ side
  side-is = ap (λ (u : TransportState). u.side) r.state

  count-at : (kind : ℕ) → kind < 4 → count_now t kind ≡ stream_count side log kind
  count-at kind l = ap (λ u. count_now u kind) r.state ∙ count-is side log position r.pieces uncollected kind l

  pub refined_peer_unis : count_now t (peer_uni t.side) ≡ stream_count side log (peer_uni side)
  refined_peer_unis = ap (λ w. count_now t (peer_uni w)) side-is ∙ count-at (peer_uni side) (uni-below side)

  pub refined_peer_bis : count_now t (peer_bi t.side) ≡ stream_count side log (peer_bi side)
  refined_peer_bis = ap (λ w. count_now t (peer_bi w)) side-is ∙ count-at (peer_bi side) (bi-below side)

  -- what is kept of a stream, or of one that wasn't opened
  stream-if : {X : Type 0} (f : Stream → X) (id : ℕ) (b : Bool) → exists side log id ≡ b →
      (if has_stream kept.streams id then f (stream_at kept.streams id) else f (fresh (initial_credit (all_events_of log)))) ≡ f (stream_of log position r.pieces id)
  stream-if f id true x = ap (λ b. if b then f (stream_at kept.streams id) else f (fresh (initial_credit (all_events_of log)))) (has-is side log position r.pieces uncollected id ∙ x)
      ∙ ap f (at-is side log position r.pieces uncollected id x)
  stream-if f id false x = ap (λ b. if b then f (stream_at kept.streams id) else f (fresh (initial_credit (all_events_of log)))) (has-is side log position r.pieces uncollected id ∙ x)
      ∙ sym (ap f ((r.facts.streams id).unopened x))

  both-if : (b c : Bool) → (b && c) ≡ (if b then c else false)
  both-if true c = refl
  both-if false c = refl

  pub refined_credit : (id : ℕ) → credit_now t id ≡ credit (all_events_of log) id
  refined_credit id = ap (λ u. credit_now u id) r.state ∙ stream-if (λ s. s.credit) id (exists side log id) refl

  pub open_credit : (id : ℕ) → is_open log ≡ true → credit_now t id ≡ credit (events_of log) id
  open_credit id o = refined_credit id ∙ ap (λ es. credit es id) (sym (open_events o))

  pub refined_stop : (id : ℕ) → stop_now t id ≡ stop_of (events_of log) id
  refined_stop id = ap (λ u. stop_now u id) r.state ∙ stream-if (λ s. s.signals.stop) id (exists side log id) refl

  pub refined_sent_count : (id : ℕ) → sent_now t id ≡ length (sent_on (actions_of log) id)
  refined_sent_count id = ap (λ u. sent_now u id) r.state ∙ stream-if (λ s. s.sent) id (exists side log id) refl

  pub refined_finished : (id : ℕ) → is_finished_now t id ≡ is_finished (actions_of log) id
  refined_finished id = ap (λ u. is_finished_now u id) r.state ∙ both-if (has_stream kept.streams id) (stream_at kept.streams id).finished ∙ stream-if (λ s. s.finished) id (exists side log id) refl

  pub refined_reset : (id : ℕ) → is_reset_now t id ≡ is_reset log id
  refined_reset id = ap (λ u. is_reset_now u id) r.state ∙ both-if (has_stream kept.streams id) (stream_at kept.streams id).reset ∙ stream-if (λ s. s.reset) id (exists side log id) refl

  pub refined_acknowledged : (id : ℕ) → is_acknowledged_now t id ≡ is_acknowledged (events_of log) id
  refined_acknowledged id = ap (λ u. is_acknowledged_now u id) r.state ∙ both-if (has_stream kept.streams id) (stream_at kept.streams id).signals.acknowledged ∙ stream-if (λ s. s.signals.acknowledged) id (exists side log id) refl
