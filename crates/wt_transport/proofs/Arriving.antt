-- A turn that fits leads from what is kept of a log to what is kept of the longer one.
use Rattle.std.proofs.Common.{arith, ◌≡◌, ◌≤◌, ◌+◌, ◌%◌, ◌^◌, ℕ, Bool, true, false, List, [], ◌∷◌, ◌++◌, refl, sym, subst, ap, ◌∙◌, append_assoc, append-nil, length, length-append}
use Rattle.std.specs.Prelude.{nat_lt, is_some, ◌==◌, ◌&&◌, not, if◌then◌else◌}
use Rattle.std.specs.List.{concat}
use Rattle.std.proofs.lemmas.Bool.Decides.{nat_tests}
use Rattle.std.proofs.lemmas.List.{drop-append-le}
use Rattle.wt_wire.specs.declared.side.Side.{Side}
use Rattle.wt_turn.specs.declared.action.Action.{Action}
use Rattle.wt_turn.specs.declared.turn.Turn.{Turn}
use Rattle.wt_turn.specs.declared.turn.Turn.TheVariants as turns
use Rattle.wt_turn.specs.Log.{Event, Received, Log, events_of, all_events_of, actions_of, calls_of, is_open}
use Rattle.wt_transport.specs.StreamState.{Stream}
use Rattle.wt_turn.specs.Streams.{contents, local_uni, peer_uni, peer_count, local_count, stream_count, exists, can_receive, can_send}
use Rattle.wt_turn.specs.Reports.{is_connected, is_running, loss_of, end_of, credit, unis_allowed, bis_allowed, initial_credit, datagram_fact}
use Rattle.wt_turn.specs.Sent.{sent_on, is_finished, is_reset, has_dialled, priority_of}
use Rattle.wt_turn.specs.Arrivals.{may_begin, may_receive, may_come, fits, event_entry, log_bytes, log_bytes_if, log_turn}
use Rattle.wt_turn.specs.Joined.{joined_actions}
use Rattle.wt_turn.specs.Unread.{ReadPosition, AtOffset, GivenUp, is_given_up, from_position}
use Rattle.wt_transport.specs.Pieces.{AreFilled}
use Rattle.wt_transport.specs.StreamState.{with_changed, with_bytes}
use Rattle.wt_transport.specs.StreamState.{rows}
use Rattle.wt_transport.specs.State.{TransportState, nothing_accepted, signals_of, stream_of, state_of, Facts, IsWithin, Holds}
use Rattle.wt_transport.specs.Step.{if_so, after_turn}
use Rattle.wt_transport.proofs.PieceLaws.{concat_more, filled_more}
use Rattle.wt_transport.proofs.StreamChanges.{received_unless, received, receive-changes}
use Rattle.wt_transport.proofs.Events.{with-streams, end-then, reset-then, stop-then, ack-then, credit-then, uni-then, bi-then, connected-then, datagram-then, unis-then, bis-then, limit-then, loss-then}
use Rattle.wt_transport.proofs.KeptFacts.{facts-changed, end-facts, reset-facts, stop-facts, ack-facts, credit-facts, uni-facts, bi-facts, connected-facts, datagram-facts, unis-facts, bis-facts, limit-facts, loss-facts, received-stream}
use Rattle.wt_transport.proofs.Fitting.{finished-exists}
use Rattle.wt_transport.proofs.Bools.{first, second, isnt}

-- ---- bytes

-- bytes of a stream leave all else as it was
record OnlyBytes (log g : Log) : Type 0 where
  pub events : events_of g ≡ events_of log
  pub all_events : all_events_of g ≡ all_events_of log
  pub actions : actions_of g ≡ actions_of log
  pub calls : calls_of g ≡ calls_of log
  pub open_same : is_open g ≡ is_open log
  pub reset_same : (k : ℕ) → is_reset g k ≡ is_reset log k

only-bytes : (log : Log) (id : ℕ) (piece : List ℕ) → OnlyBytes log (log_bytes log id piece)
only-bytes log id [] = record { events = refl; all_events = refl; actions = refl; calls = refl; open_same = refl; reset_same = λ k. refl }
only-bytes log id (b ∷ piece) = let o = only-bytes (Received id b ∷ log) id piece in
    record { events = o.events; all_events = o.all_events; actions = o.actions; calls = o.calls; open_same = o.open_same; reset_same = o.reset_same }

contents-with : (b : Bool) (bytes piece : List ℕ) (byte : ℕ)
    → (if b then (if b then bytes ++ byte ∷ [] else bytes) ++ piece else (if b then bytes ++ byte ∷ [] else bytes)) ≡ (if b then bytes ++ (byte ∷ piece) else bytes)
contents-with true bytes piece byte = append_assoc bytes (byte ∷ []) piece
contents-with false bytes piece byte = refl

contents-none : (b : Bool) (bytes : List ℕ) → bytes ≡ (if b then bytes ++ [] else bytes)
contents-none true bytes = sym (append-nil bytes)
contents-none false bytes = refl

contents-on : (log : Log) (id : ℕ) (piece : List ℕ) (k : ℕ) → contents (log_bytes log id piece) k ≡ (if id == k then contents log k ++ piece else contents log k)
contents-on log id [] k = contents-none (id == k) (contents log k)
contents-on log id (b ∷ piece) k = contents-on (Received id b ∷ log) id piece k ∙ contents-with (id == k) (contents log k) piece b

module _ (side : Side) (log g : Log) (o : OnlyBytes log g) where
  same-stream : (position : ℕ → ReadPosition) (pieces : ℕ → List (List ℕ)) → stream_of g position pieces ≡ stream_of log position pieces
  same-stream position pieces = λ i k. record {
    unread = pieces k;
    given_up = is_given_up (position k);
    signals = signals_of (o.events i) k;
    all_signals = signals_of (o.all_events i) k;
    credit = credit (o.all_events i) k;
    sent = length (sent_on (o.actions i) k);
    finished = is_finished (o.actions i) k;
    reset = o.reset_same k i;
    priority = priority_of (o.calls i) k;
  }

  same-count : stream_count side g ≡ stream_count side log
  same-count = λ i kind. peer_count side (o.all_events i) kind + local_count (o.actions i) kind

  same-state : (position : ℕ → ReadPosition) (pieces : ℕ → List (List ℕ)) (uncollected : List Action) → state_of side g position pieces uncollected ≡ state_of side log position pieces uncollected
  same-state position pieces uncollected = λ i. record {
    side = side;
    is_open = o.open_same i;
    has_dialled = has_dialled (o.actions i);
    is_connected = is_connected (o.all_events i);
    is_lost = is_some (loss_of (o.all_events i));
    unis_allowed = unis_allowed (o.all_events i);
    bis_allowed = bis_allowed (o.all_events i);
    initial_credit = initial_credit (o.all_events i);
    datagram_fact = datagram_fact (o.events i);
    loss = loss_of (o.events i);
    streams = rows (same-stream position pieces i) (same-count i);
    accepted = nothing_accepted;
    actions = joined_actions uncollected;
  }

-- the pieces of one stream with one more hold its bytes
one-more : (read_position : ReadPosition) (bytes piece : List ℕ) (pieces : List (List ℕ)) → concat pieces ≡ from_position read_position bytes → IsWithin read_position bytes
    → concat (received_unless (is_given_up read_position) pieces piece) ≡ from_position read_position (bytes ++ piece)
one-more (AtOffset offset) bytes piece pieces e w = concat_more pieces piece ∙ ap (λ xs. xs ++ piece) e ∙ sym (drop-append-le offset bytes piece w)
one-more GivenUp bytes piece pieces e w = e

more-within : (read_position : ReadPosition) (bytes piece : List ℕ) → IsWithin read_position bytes → IsWithin read_position (bytes ++ piece)
more-within (AtOffset offset) bytes piece w = omega (arith, length-append bytes piece)
more-within GivenUp bytes piece w = tt

filled-unless : (b : Bool) (pieces : List (List ℕ)) (piece : List ℕ) → AreFilled pieces → AreFilled (received_unless b pieces piece)
filled-unless true pieces piece f = f
filled-unless false pieces piece f = filled_more pieces piece f

module _ (log : Log) (position : ℕ → ReadPosition) (pieces : ℕ → List (List ℕ)) (holds : (k : ℕ) → Holds log position pieces k) (id : ℕ) (piece : List ℕ) where
  bytes-if : (b : Bool) (k : ℕ) → concat (if b then received_unless (is_given_up (position k)) (pieces k) piece else pieces k)
      ≡ from_position (position k) (if b then contents log k ++ piece else contents log k)
  bytes-if true k = one-more (position k) (contents log k) piece (pieces k) (holds k).bytes (holds k).within
  bytes-if false k = (holds k).bytes

  filled-if : (b : Bool) (k : ℕ) → AreFilled (if b then received_unless (is_given_up (position k)) (pieces k) piece else pieces k)
  filled-if true k = filled-unless (is_given_up (position k)) (pieces k) piece (holds k).filled
  filled-if false k = (holds k).filled

  within-if : (b : Bool) (k : ℕ) → IsWithin (position k) (if b then contents log k ++ piece else contents log k)
  within-if true k = more-within (position k) (contents log k) piece (holds k).within
  within-if false k = (holds k).within

  bytes-hold : (k : ℕ) → Holds (log_bytes log id piece) position (received position pieces id piece) k
  bytes-hold k = record {
    bytes = bytes-if (id == k) k ∙ ap (from_position (position k)) (sym (contents-on log id piece k));
    filled = filled-if (id == k) k;
    within = subst (IsWithin (position k)) (sym (contents-on log id piece k)) (within-if (id == k) k);
  }

-- entries that aren't bytes leave the contents
pub same-holds : (log g : Log) (position : ℕ → ReadPosition) (pieces : ℕ → List (List ℕ)) → contents g ≡ contents log → ((k : ℕ) → Holds log position pieces k) → (k : ℕ) → Holds g position pieces k
same-holds log g position pieces e holds k = record {
  bytes = (holds k).bytes ∙ ap (λ (c : ℕ → List ℕ). from_position (position k) (c k)) (sym e);
  filled = (holds k).filled;
  within = subst (λ (c : ℕ → List ℕ). IsWithin (position k) (c k)) (sym e) (holds k).within;
}

-- ---- a turn that fits

-- the pieces once a turn came
abbrev pub pieces_if : Bool → (ℕ → ReadPosition) → (ℕ → List (List ℕ)) → ℕ → List ℕ → ℕ → List (List ℕ)
pieces_if true position pieces id piece = received position pieces id piece
pieces_if false position pieces id piece = pieces

abbrev pub pieces_then : Log → (ℕ → ReadPosition) → (ℕ → List (List ℕ)) → Turn → ℕ → List (List ℕ)
pieces_then log position pieces (turns.Bytes id piece) = pieces_if (is_open log) position pieces id piece
pieces_then log position pieces _ = pieces

module _ (side : Side) (log : Log) (position : ℕ → ReadPosition) (pieces : ℕ → List (List ℕ)) (uncollected : List Action) (facts : Facts side log position pieces) where
  abbrev state : TransportState
  state = state_of side log position pieces uncollected

  abbrev stream : ℕ → Stream
  stream = stream_of log position pieces

  abbrev connected : Bool
  connected = is_connected (all_events_of log)

  bytes-then : (b : Bool) (id : ℕ) (piece : List ℕ) → exists side log id ≡ true
      → if_so b (record state { streams = with_changed (rows stream (stream_count side log)) id (with_bytes piece) }) state ≡ state_of side (log_bytes_if b log id piece) position (pieces_if b position pieces id piece) uncollected
  bytes-then true id piece x =
      with-streams state stream (stream_of log position (received position pieces id piece)) (stream_count side log) id (with_bytes piece) x (receive-changes log position pieces id piece)
      ∙ sym (same-state side log (log_bytes log id piece) (only-bytes log id piece) position (received position pieces id piece) uncollected)
  bytes-then false id piece x = refl

  bytes-facts : (b : Bool) (id : ℕ) (piece : List ℕ) → exists side log id ≡ true → (local_uni side == id % 4) ≡ false → Facts side (log_bytes_if b log id piece) position (pieces_if b position pieces id piece)
  bytes-facts true id piece x w = let o = only-bytes log id piece in
      facts-changed side log position pieces facts (log_bytes log id piece) position (received position pieces id piece) id (with_bytes piece) (same-count side log (log_bytes log id piece) o)
      (ap initial_credit o.all_events) (ap is_connected o.all_events) (λ p. o.events ∙ facts.open_same (sym o.open_same ∙ p) ∙ sym o.all_events)
      (λ p kind. ap (λ es. if local_uni side == kind then unis_allowed es else bis_allowed es) o.all_events ∙ facts.unallowed (sym (ap is_connected o.all_events) ∙ p) kind)
      (received-stream side (stream_count side log) (initial_credit (all_events_of log)) id (stream id) x (facts.streams id) piece w)
      (λ k. (λ i. same-stream side log (log_bytes log id piece) o position (received position pieces id piece) i k) ∙ receive-changes log position pieces id piece k)
  bytes-facts false id piece x w = facts

  -- ---- what a turn that fits needs

  opened-first : (a : Bool) → (connected && a) ≡ true → connected ≡ true
  opened-first a e = first connected a e

  opened-second : (a b : Bool) → (connected && a && b) ≡ true → connected ≡ true
  opened-second a b e = first connected a (first (connected && a) b e)

  receiving : (id : ℕ) → may_receive side log id ≡ true → can_receive side log id ≡ true
  receiving id e = second connected (can_receive side log id) (first (connected && can_receive side log id) (is_running (end_of (all_events_of log) id)) e)

  received-exists : (id : ℕ) → can_receive side log id ≡ true → exists side log id ≡ true
  received-exists id e = first (exists side log id) (not (local_uni side == id % 4)) e

  is-peers : (id : ℕ) → can_receive side log id ≡ true → (local_uni side == id % 4) ≡ false
  is-peers id e = isnt (local_uni side == id % 4) (second (exists side log id) (not (local_uni side == id % 4)) e)

  sending-exists : (id : ℕ) (a b : Bool) → (connected && can_send side log id && a && b) ≡ true → exists side log id ≡ true
  sending-exists id a b e = first (exists side log id) (not (peer_uni side == id % 4))
      (second connected (can_send side log id) (first (connected && can_send side log id) a (first (connected && can_send side log id && a) b e)))

  raises : (id total : ℕ) → (connected && can_send side log id && not (nat_lt total (credit (all_events_of log) id)) && nat_lt total (2 ^ 62)) ≡ true → credit (all_events_of log) id ≤ total
  raises id total e =
      let lower : nat_lt total (credit (all_events_of log) id) ≡ false = isnt (nat_lt total (credit (all_events_of log) id))
      (second (connected && can_send side log id) (not (nat_lt total (credit (all_events_of log) id))) (first (connected && can_send side log id && not (nat_lt total (credit (all_events_of log) id))) (nat_lt total (2 ^ 62)) e)) in
      grind (arith, nat_tests)

  unconnected : (uni bi n : ℕ) → (may_begin side log && not connected && not (nat_lt (2 ^ 60) uni) && not (nat_lt (2 ^ 60) bi) && nat_lt n (2 ^ 62)) ≡ true → connected ≡ false
  unconnected uni bi n e = isnt connected (second (may_begin side log) (not connected)
      (first (may_begin side log && not connected) (not (nat_lt (2 ^ 60) uni))
      (first (may_begin side log && not connected && not (nat_lt (2 ^ 60) uni)) (not (nat_lt (2 ^ 60) bi))
      (first (may_begin side log && not connected && not (nat_lt (2 ^ 60) uni) && not (nat_lt (2 ^ 60) bi)) (nat_lt n (2 ^ 62)) e))))

  acks : (id : ℕ) (a b c : Bool) → (connected && is_finished (actions_of log) id && a && b && c) ≡ true → exists side log id ≡ true
  acks id a b c e = finished-exists side log position pieces uncollected facts id (exists side log id) refl (second connected (is_finished (actions_of log) id)
      (first (connected && is_finished (actions_of log) id) a (first (connected && is_finished (actions_of log) id && a) b (first (connected && is_finished (actions_of log) id && a && b) c e))))

  -- ---- the turn

  came-then : (turn : Turn) → may_come side log turn ≡ true → after_turn state turn ≡ state_of side (log_turn log turn) position (pieces_then log position pieces turn) uncollected
  came-then (turns.Connected uni bi n datagrams) e = connected-then side log position pieces uncollected (is_open log) uni bi n datagrams refl (unconnected uni bi n e) facts
  came-then turns.PeerUni e = uni-then side log position pieces uncollected (is_open log) facts
  came-then turns.PeerBi e = bi-then side log position pieces uncollected (is_open log) facts
  came-then (turns.Bytes id piece) e = bytes-then (is_open log) id piece (received-exists id (receiving id e))
  came-then (turns.End id) e = end-then side log position pieces uncollected (is_open log) id refl (received-exists id (receiving id e))
  came-then (turns.Reset id code) e = reset-then side log position pieces uncollected (is_open log) id code refl (received-exists id (receiving id e))
  came-then (turns.Stop id code) e = stop-then side log position pieces uncollected (is_open log) id code refl (sending-exists id _ _ e)
  came-then (turns.Acked id) e = ack-then side log position pieces uncollected (is_open log) id refl (acks id _ _ _ e)
  came-then (turns.Datagram piece) e = datagram-then side log position pieces uncollected (is_open log) piece
  came-then (turns.MaxUni total) e = unis-then side log position pieces uncollected (is_open log) total
  came-then (turns.MaxBi total) e = bis-then side log position pieces uncollected (is_open log) total
  came-then (turns.MaxData id total) e = credit-then side log position pieces uncollected (is_open log) id total (sending-exists id _ _ e)
  came-then (turns.DatagramLimit fact) e = limit-then side log position pieces uncollected (is_open log) fact refl
  came-then (turns.Loss reason) e = loss-then side log position pieces uncollected (is_open log) reason refl
  came-then (turns.Call call) e = refl

  facts-then : (turn : Turn) → may_come side log turn ≡ true → Facts side (log_turn log turn) position (pieces_then log position pieces turn)
  facts-then (turns.Connected uni bi n datagrams) e = connected-facts side log position pieces facts (is_open log) uni bi n datagrams refl (unconnected uni bi n e)
  facts-then turns.PeerUni e = uni-facts side log position pieces facts (is_open log) refl (opened-first _ e)
  facts-then turns.PeerBi e = bi-facts side log position pieces facts (is_open log) refl (opened-first _ e)
  facts-then (turns.Bytes id piece) e = bytes-facts (is_open log) id piece (received-exists id (receiving id e)) (is-peers id (receiving id e))
  facts-then (turns.End id) e = end-facts side log position pieces facts (is_open log) id refl (received-exists id (receiving id e)) (is-peers id (receiving id e))
  facts-then (turns.Reset id code) e = reset-facts side log position pieces facts (is_open log) id code refl (received-exists id (receiving id e)) (is-peers id (receiving id e))
  facts-then (turns.Stop id code) e = stop-facts side log position pieces facts (is_open log) id code refl (sending-exists id _ _ e)
  facts-then (turns.Acked id) e = ack-facts side log position pieces facts (is_open log) id refl (acks id _ _ _ e)
  facts-then (turns.Datagram piece) e = datagram-facts side log position pieces facts (is_open log) piece refl
  facts-then (turns.MaxUni total) e = unis-facts side log position pieces facts (is_open log) total refl (opened-second _ _ e)
  facts-then (turns.MaxBi total) e = bis-facts side log position pieces facts (is_open log) total refl (opened-second _ _ e)
  facts-then (turns.MaxData id total) e = credit-facts side log position pieces facts (is_open log) id total refl (sending-exists id _ _ e) (raises id total e)
  facts-then (turns.DatagramLimit fact) e = limit-facts side log position pieces facts (is_open log) fact refl
  facts-then (turns.Loss reason) e = loss-facts side log position pieces facts (is_open log) reason refl
  facts-then (turns.Call call) e = facts

  pub turn-is : (turn : Turn) → fits side log turn ≡ true → after_turn state turn ≡ state_of side (log_turn log turn) position (pieces_then log position pieces turn) uncollected
  turn-is turn e = came-then turn (first (may_come side log turn) (not (is_some (loss_of (all_events_of log)))) e)

  pub turn-facts : (turn : Turn) → fits side log turn ≡ true → Facts side (log_turn log turn) position (pieces_then log position pieces turn)
  turn-facts turn e = facts-then turn (first (may_come side log turn) (not (is_some (loss_of (all_events_of log)))) e)

-- ---- what the pieces hold once a turn came

event-contents : (b : Bool) (log : Log) (e : Event) → contents (event_entry b e ∷ log) ≡ contents log
event-contents true log e = refl
event-contents false log e = refl

module _ (log : Log) (position : ℕ → ReadPosition) (pieces : ℕ → List (List ℕ)) (holds : (k : ℕ) → Holds log position pieces k) where
  bytes-hold-if : (b : Bool) (id : ℕ) (piece : List ℕ) (k : ℕ) → Holds (log_bytes_if b log id piece) position (pieces_if b position pieces id piece) k
  bytes-hold-if true id piece k = bytes-hold log position pieces holds id piece k
  bytes-hold-if false id piece k = holds k

  event-holds : (e : Event) (k : ℕ) → Holds (event_entry (is_open log) e ∷ log) position pieces k
  event-holds e k = same-holds log (event_entry (is_open log) e ∷ log) position pieces (event-contents (is_open log) log e) holds k

  pub turn-holds : (turn : Turn) (k : ℕ) → Holds (log_turn log turn) position (pieces_then log position pieces turn) k
  turn-holds (turns.Bytes id piece) k = bytes-hold-if (is_open log) id piece k
  turn-holds (turns.Call call) k = holds k
  turn-holds _ k = event-holds _ k
