-- What is kept of a log goes on, with each event, to what is kept of the longer log.
use Rattle.std.proofs.Common.{arith, ◌≡◌, ◌≢◌, ◌<◌, ◌+◌, ◌*◌, ◌/◌, ◌%◌, ℕ, Bool, true, false, List, ◌∷◌, refl, sym, ap, ◌∙◌}
use Rattle.std.specs.Prelude.{Some, nat_lt, ◌==◌}
use Rattle.std.proofs.lemmas.Bool.Decides.{nat_tests}
use Rattle.wt_wire.specs.declared.side.Side.{Side}
use Rattle.wt_wire.specs.declared.side.Side.TheVariants.{Client, Server}
use Rattle.wt_wire.specs.declared.side.StreamEnd.TheVariants as ends
use Rattle.wt_turn.specs.declared.action.Action.{Action}
use Rattle.wt_turn.specs.declared.datagram_fact.DatagramFact.{DatagramFact}
use Rattle.wt_turn.specs.declared.loss.LossReason.{LossReason}
use Rattle.wt_turn.specs.Log.{Event, Connected, PeerUni, PeerBi, End, Reset, Stop, Acked, Datagram, MaxUni, MaxBi, MaxData, DatagramLimit, Loss, Reported, Log, all_events_of, actions_of, is_open}
use Rattle.wt_transport.specs.StreamState.{Signals, Stream}
use Rattle.wt_turn.specs.Streams.{peer_uni, peer_bi, peer_count, local_count, one_more_if, stream_count, exists}
use Rattle.wt_turn.specs.Reports.{is_connected, initial_credit}
use Rattle.wt_turn.specs.Arrivals.{event_entry}
use Rattle.wt_turn.specs.Unread.{ReadPosition}
use Rattle.wt_transport.specs.StreamState.{fresh, signal, with_end, with_stop, with_ack, with_credit, with_changed, with_pushed}
use Rattle.wt_transport.specs.StreamState.{rows}
use Rattle.wt_transport.specs.State.{TransportState, stream_of, state_of, IsStream, Facts}
use Rattle.wt_transport.specs.Step.{if_so, after_event}
use Rattle.wt_transport.proofs.Rows.{rows-changed, rows-pushed, rows-none}
use Rattle.wt_transport.proofs.StreamChanges.{Changes, end-changes, reset-changes, stop-changes, ack-changes, credit-changes}

-- a change of one stream, in a transport that stays the same but for its streams
pub with-streams : (t : TransportState) (f g : ℕ → Stream) (count : ℕ → ℕ) (id : ℕ) (u : Stream → Stream)
    → nat_lt (id / 4) (count (id % 4)) ≡ true → Changes f id u g → record t { streams = with_changed (rows f count) id u } ≡ record t { streams = rows g count }
with-streams t f g count id u l c = ap (λ s. record t { streams = s }) (sym (rows-changed f g count id u l c))

-- the stream that is opened next is fresh
pub next-fresh : (side : Side) (f : ℕ → Stream) (count : ℕ → ℕ) (initial kind : ℕ) → kind < 4 → ((k : ℕ) → IsStream side count initial k (f k)) → f (4 * count kind + kind) ≡ fresh initial
next-fresh side f count initial kind l s =
    let id : ℕ = 4 * count kind + kind in
    let low : id % 4 ≡ kind = omega arith in
    let high : id / 4 ≡ count kind = omega arith in
    let none : nat_lt (id / 4) (count (id % 4)) ≡ false = rw (low, high) (grind (arith, nat_tests)) in
    (s id).unopened none

pub uni-below : (side : Side) → peer_uni side < 4
uni-below Client = omega arith
uni-below Server = omega arith

pub bi-below : (side : Side) → peer_bi side < 4
bi-below Client = omega arith
bi-below Server = omega arith

one-more : (kind peers local : ℕ) → one_more_if (kind == kind) peers + local ≡ peers + local + 1
one-more kind peers local = let yes_ : (kind == kind) ≡ true = grind (arith, nat_tests) in rw yes_ (omega arith)

same-count : (kind other peers local : ℕ) → other ≢ kind → one_more_if (kind == other) peers + local ≡ peers + local
same-count kind other peers local d = let no_ : (kind == other) ≡ false = grind (arith, nat_tests) in rw no_ refl

module _ (side : Side) (log : Log) (position : ℕ → ReadPosition) (pieces : ℕ → List (List ℕ)) (uncollected : List Action) where
  abbrev before : TransportState
  before = state_of side log position pieces uncollected

  abbrev stream : ℕ → Stream
  stream = stream_of log position pieces

  abbrev count : ℕ → ℕ
  count = stream_count side log

  -- ---- events about one stream

  signal-is : (b : Bool) (e : Event) (id : ℕ) (f : Signals → Signals) → is_open log ≡ b → exists side log id ≡ true
      → Changes stream id (signal b f) (stream_of (event_entry b e ∷ log) position pieces)
      → record before { streams = with_changed (rows stream count) id (signal (is_open log) f) }
      ≡ record before { streams = rows (stream_of (event_entry b e ∷ log) position pieces) count }
  signal-is b e id f o x c = ap (λ w. record before { streams = with_changed (rows stream count) id (signal w f) }) o
      ∙ with-streams before stream (stream_of (event_entry b e ∷ log) position pieces) count id (signal b f) x c

  pub end-then : (b : Bool) (id : ℕ) → is_open log ≡ b → exists side log id ≡ true
      → after_event before (End id) ≡ state_of side (event_entry b (End id) ∷ log) position pieces uncollected
  end-then true id o x = signal-is true (End id) id (with_end ends.Fin) o x (end-changes log position pieces true id)
  end-then false id o x = signal-is false (End id) id (with_end ends.Fin) o x (end-changes log position pieces false id)

  pub reset-then : (b : Bool) (id code : ℕ) → is_open log ≡ b → exists side log id ≡ true
      → after_event before (Reset id code) ≡ state_of side (event_entry b (Reset id code) ∷ log) position pieces uncollected
  reset-then true id code o x = signal-is true (Reset id code) id (with_end (ends.Reset code)) o x (reset-changes log position pieces true id code)
  reset-then false id code o x = signal-is false (Reset id code) id (with_end (ends.Reset code)) o x (reset-changes log position pieces false id code)

  pub stop-then : (b : Bool) (id code : ℕ) → is_open log ≡ b → exists side log id ≡ true
      → after_event before (Stop id code) ≡ state_of side (event_entry b (Stop id code) ∷ log) position pieces uncollected
  stop-then true id code o x = signal-is true (Stop id code) id (with_stop code) o x (stop-changes log position pieces true id code)
  stop-then false id code o x = signal-is false (Stop id code) id (with_stop code) o x (stop-changes log position pieces false id code)

  pub ack-then : (b : Bool) (id : ℕ) → is_open log ≡ b → exists side log id ≡ true
      → after_event before (Acked id) ≡ state_of side (event_entry b (Acked id) ∷ log) position pieces uncollected
  ack-then true id o x = signal-is true (Acked id) id with_ack o x (ack-changes log position pieces true id)
  ack-then false id o x = signal-is false (Acked id) id with_ack o x (ack-changes log position pieces false id)

  pub credit-then : (b : Bool) (id total : ℕ) → exists side log id ≡ true
      → after_event before (MaxData id total) ≡ state_of side (event_entry b (MaxData id total) ∷ log) position pieces uncollected
  credit-then true id total x = with-streams before stream _ count id (with_credit total) x (credit-changes log position pieces true id total)
  credit-then false id total x = with-streams before stream _ count id (with_credit total) x (credit-changes log position pieces false id total)

  -- ---- streams that the peer opens

  uni-pushed : Facts side log position pieces → with_pushed (rows stream count) (peer_uni side) (fresh (initial_credit (all_events_of log))) ≡ rows stream (stream_count side (Reported PeerUni ∷ log))
  uni-pushed facts = sym (rows-pushed stream count (stream_count side (Reported PeerUni ∷ log)) (peer_uni side) (fresh (initial_credit (all_events_of log))) (uni-below side)
      (one-more (peer_uni side) (peer_count side (all_events_of log) (peer_uni side)) (local_count (actions_of log) (peer_uni side)))
      (λ j d. same-count (peer_uni side) j (peer_count side (all_events_of log) j) (local_count (actions_of log) j) d)
      (next-fresh side stream count (initial_credit (all_events_of log)) (peer_uni side) (uni-below side) facts.streams))

  pub uni-then : (b : Bool) → Facts side log position pieces → after_event before PeerUni ≡ state_of side (event_entry b PeerUni ∷ log) position pieces uncollected
  uni-then true facts = ap (λ s. record before { streams = s }) (uni-pushed facts)
  uni-then false facts = ap (λ s. record before { streams = s }) (uni-pushed facts)

  bi-pushed : Facts side log position pieces → with_pushed (rows stream count) (peer_bi side) (fresh (initial_credit (all_events_of log))) ≡ rows stream (stream_count side (Reported PeerBi ∷ log))
  bi-pushed facts = sym (rows-pushed stream count (stream_count side (Reported PeerBi ∷ log)) (peer_bi side) (fresh (initial_credit (all_events_of log))) (bi-below side)
      (one-more (peer_bi side) (peer_count side (all_events_of log) (peer_bi side)) (local_count (actions_of log) (peer_bi side)))
      (λ j d. same-count (peer_bi side) j (peer_count side (all_events_of log) j) (local_count (actions_of log) j) d)
      (next-fresh side stream count (initial_credit (all_events_of log)) (peer_bi side) (bi-below side) facts.streams))

  pub bi-then : (b : Bool) → Facts side log position pieces → after_event before PeerBi ≡ state_of side (event_entry b PeerBi ∷ log) position pieces uncollected
  bi-then true facts = ap (λ s. record before { streams = s }) (bi-pushed facts)
  bi-then false facts = ap (λ s. record before { streams = s }) (bi-pushed facts)

  -- ---- events of the connection

  pub connected-then : (b : Bool) (uni bi credit : ℕ) (datagrams : DatagramFact) → is_open log ≡ b → is_connected (all_events_of log) ≡ false → Facts side log position pieces
      → after_event before (Connected uni bi credit datagrams) ≡ state_of side (event_entry b (Connected uni bi credit datagrams) ∷ log) position pieces uncollected
  connected-then true uni bi credit datagrams o n facts = λ i. record before {
    is_connected = true;
    unis_allowed = uni;
    bis_allowed = bi;
    initial_credit = credit;
    datagram_fact = if_so (o i) (Some datagrams) before.datagram_fact;
    streams = sym (rows-none stream (stream_of (event_entry true (Connected uni bi credit datagrams) ∷ log) position pieces) count (facts.unconnected n)) i;
  }
  connected-then false uni bi credit datagrams o n facts = λ i. record before {
    is_connected = true;
    unis_allowed = uni;
    bis_allowed = bi;
    initial_credit = credit;
    datagram_fact = if_so (o i) (Some datagrams) before.datagram_fact;
    streams = sym (rows-none stream (stream_of (event_entry false (Connected uni bi credit datagrams) ∷ log) position pieces) count (facts.unconnected n)) i;
  }

  pub datagram-then : (b : Bool) (piece : List ℕ) → after_event before (Datagram piece) ≡ state_of side (event_entry b (Datagram piece) ∷ log) position pieces uncollected
  datagram-then true piece = refl
  datagram-then false piece = refl

  pub unis-then : (b : Bool) (total : ℕ) → after_event before (MaxUni total) ≡ state_of side (event_entry b (MaxUni total) ∷ log) position pieces uncollected
  unis-then true total = refl
  unis-then false total = refl

  pub bis-then : (b : Bool) (total : ℕ) → after_event before (MaxBi total) ≡ state_of side (event_entry b (MaxBi total) ∷ log) position pieces uncollected
  bis-then true total = refl
  bis-then false total = refl

  pub limit-then : (b : Bool) (fact : DatagramFact) → is_open log ≡ b
      → after_event before (DatagramLimit fact) ≡ state_of side (event_entry b (DatagramLimit fact) ∷ log) position pieces uncollected
  limit-then true fact o = ap (λ w. record before { datagram_fact = if_so w (Some fact) before.datagram_fact }) o
  limit-then false fact o = ap (λ w. record before { datagram_fact = if_so w (Some fact) before.datagram_fact }) o

  pub loss-then : (b : Bool) (reason : LossReason) → is_open log ≡ b → after_event before (Loss reason) ≡ state_of side (event_entry b (Loss reason) ∷ log) position pieces uncollected
  loss-then true reason o = ap (λ w. record before { is_open = false; is_lost = true; loss = if_so w (Some reason) before.loss }) o
  loss-then false reason o = λ i. record before { is_open = sym o i; is_lost = true; loss = if_so (o i) (Some reason) before.loss }
