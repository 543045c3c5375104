-- What holds of every log whose turns fit is kept by each entry.
use Rattle.std.proofs.Common.{arith, ◌≡◌, ◌≤◌, ◌+◌, ◌/◌, ◌%◌, ℕ, ℤ, Bool, true, false, List, ◌∷◌, refl, sym, subst, ap, ◌∙◌}
use Rattle.std.specs.Prelude.{nat_lt, ◌==◌, if◌then◌else◌}
use Rattle.std.proofs.lemmas.Bool.Decides.{nat_tests}
use Rattle.wt_wire.specs.declared.side.Side.{Side}
use Rattle.wt_wire.specs.declared.side.StreamEnd.{StreamEnd}
use Rattle.wt_wire.specs.declared.side.StreamEnd.TheVariants as ends
use Rattle.wt_turn.specs.declared.datagram_fact.DatagramFact.{DatagramFact}
use Rattle.wt_turn.specs.declared.loss.LossReason.{LossReason}
use Rattle.wt_turn.specs.Log.{Event, Connected, PeerUni, PeerBi, End, Reset, Stop, Acked, Datagram, MaxUni, MaxBi, MaxData, DatagramLimit, Loss, Reported, ReportedLate, Log, events_of, all_events_of, actions_of, is_open}
use Rattle.wt_transport.specs.StreamState.{Stream}
use Rattle.wt_turn.specs.Streams.{local_uni, peer_uni, peer_bi, peer_count, local_count, one_more_if, stream_count, exists}
use Rattle.wt_turn.specs.Reports.{is_connected, initial_credit, credit}
use Rattle.wt_turn.specs.Arrivals.{event_entry}
use Rattle.wt_turn.specs.Outgoing.{streams_allowed}
use Rattle.wt_turn.specs.Unread.{ReadPosition}
use Rattle.wt_transport.specs.StreamState.{fresh, signal, with_end, with_stop, with_ack, with_credit, with_sent, with_finish, with_reset, with_priority, receive_unless, with_bytes, consume, give_up, credit_of}
use Rattle.wt_transport.specs.Pieces.{skip}
use Rattle.wt_transport.specs.State.{stream_of, IsStream, Facts}
use Rattle.wt_transport.proofs.StreamChanges.{Changes, end-changes, reset-changes, stop-changes, ack-changes, credit-changes}

-- what holds of each stream holds after a change of one, where it holds of that one
pub each-changed : (P : ℕ → Stream → Type 0) (f g : ℕ → Stream) (id : ℕ) (u : Stream → Stream) → ((k : ℕ) → P k (f k)) → P id (u (f id)) → Changes f id u g → (k : ℕ) → P k (g k)
each-changed P f g id u all one c k = subst (P k) (sym (c k)) (either (id == k) refl)
  where
    either : (b : Bool) → (id == k) ≡ b → P k (if b then u (f k) else f k)
    either true e = let same : id ≡ k = grind (arith, nat_tests) in subst (λ (j : ℕ). P j (u (f j))) same one
    either false e = all k

-- ---- one stream that was opened

module _ (side : Side) (count : ℕ → ℕ) (initial id : ℕ) (s : Stream) (x : nat_lt (id / 4) (count (id % 4)) ≡ true) (i : IsStream side count initial id s) where
  pub ended-stream : (b : Bool) (end : StreamEnd) → (local_uni side == id % 4) ≡ false → IsStream side count initial id (signal b (with_end end) s)
  ended-stream true end w = record { unopened = λ n. absurd (cc); sent = i.sent; one_way = λ o. absurd (cc) }
  ended-stream false end w = record { unopened = λ n. absurd (cc); sent = i.sent; one_way = i.one_way }

  pub stopped-stream : (b : Bool) (code : ℕ) → IsStream side count initial id (signal b (with_stop code) s)
  stopped-stream true code = record { unopened = λ n. absurd (cc); sent = i.sent; one_way = i.one_way }
  stopped-stream false code = record { unopened = λ n. absurd (cc); sent = i.sent; one_way = i.one_way }

  pub acked-stream : (b : Bool) → IsStream side count initial id (signal b with_ack s)
  acked-stream true = record { unopened = λ n. absurd (cc); sent = i.sent; one_way = i.one_way }
  acked-stream false = record { unopened = λ n. absurd (cc); sent = i.sent; one_way = i.one_way }

  pub raised-stream : (total : ℕ) → s.credit ≤ total → IsStream side count initial id (with_credit total s)
  raised-stream total l = let before : s.sent ≤ s.credit = i.sent in record { unopened = λ n. absurd (cc); sent = omega arith; one_way = i.one_way }

  received-if : (b : Bool) (bytes : List ℕ) → (local_uni side == id % 4) ≡ false → IsStream side count initial id (receive_unless b bytes s)
  received-if true bytes w = i
  received-if false bytes w = record { unopened = λ n. absurd (cc); sent = i.sent; one_way = λ o. absurd (cc) }

  pub received-stream : (bytes : List ℕ) → (local_uni side == id % 4) ≡ false → IsStream side count initial id (with_bytes bytes s)
  received-stream bytes w = received-if s.given_up bytes w

  pub consumed-stream : (n : ℕ) → IsStream side count initial id (consume n s)
  consumed-stream n = record { unopened = λ n. absurd (cc); sent = i.sent; one_way = λ o. (ap (skip n) (i.one_way o).0, (i.one_way o).1) }

  pub given-up-stream : IsStream side count initial id (give_up s)
  given-up-stream = record { unopened = λ n. absurd (cc); sent = i.sent; one_way = λ o. (refl, (i.one_way o).1) }

  pub sent-stream : (n : ℕ) → n ≤ credit_of s → IsStream side count initial id (with_sent n s)
  sent-stream n l = let before : s.sent ≤ s.credit = i.sent in record { unopened = λ n. absurd (cc); sent = omega arith; one_way = i.one_way }

  pub finished-stream : IsStream side count initial id (with_finish s)
  finished-stream = record { unopened = λ n. absurd (cc); sent = i.sent; one_way = i.one_way }

  pub reset-stream : IsStream side count initial id (with_reset s)
  reset-stream = record { unopened = λ n. absurd (cc); sent = i.sent; one_way = i.one_way }

  pub priority-stream : (priority : ℤ) → IsStream side count initial id (with_priority priority s)
  priority-stream priority = record { unopened = λ n. absurd (cc); sent = i.sent; one_way = i.one_way }

-- ---- all streams

-- a stream that is one of n is so where there are more
more-streams : (side : Side) (count more : ℕ → ℕ) (initial k : ℕ) (s : Stream) → ((kind : ℕ) → count kind ≤ more kind) → IsStream side count initial k s → IsStream side more initial k s
more-streams side count more initial k s l i =
    let here : count (k % 4) ≤ more (k % 4) = l (k % 4) in
    record { unopened = λ n. i.unopened (grind (arith, nat_tests)); sent = i.sent; one_way = i.one_way }

module _ (side : Side) (log : Log) (position : ℕ → ReadPosition) (pieces : ℕ → List (List ℕ)) (facts : Facts side log position pieces) where
  abbrev stream : ℕ → Stream
  stream = stream_of log position pieces

  abbrev count : ℕ → ℕ
  count = stream_count side log

  abbrev initial : ℕ
  initial = initial_credit (all_events_of log)

  -- one stream changes
  pub facts-changed : (g : Log) (position_then : ℕ → ReadPosition) (pieces_then : ℕ → List (List ℕ)) (id : ℕ) (u : Stream → Stream)
      → stream_count side g ≡ count → initial_credit (all_events_of g) ≡ initial → is_connected (all_events_of g) ≡ is_connected (all_events_of log)
      → (is_open g ≡ true → events_of g ≡ all_events_of g) → (is_connected (all_events_of g) ≡ false → (kind : ℕ) → streams_allowed side g kind ≡ 0)
      → IsStream side count initial id (u (stream id)) → Changes stream id u (stream_of g position_then pieces_then) → Facts side g position_then pieces_then
  facts-changed g position_then pieces_then id u n i c o a one w = record {
    streams = λ k. subst (λ (m : ℕ → ℕ). IsStream side m (initial_credit (all_events_of g)) k (stream_of g position_then pieces_then k)) (sym n)
        (subst (λ (m : ℕ). IsStream side count m k (stream_of g position_then pieces_then k)) (sym i)
        (each-changed (IsStream side count initial) stream (stream_of g position_then pieces_then) id u facts.streams one w k));
    unconnected = λ e kind. ap (λ (m : ℕ → ℕ). m kind) n ∙ facts.unconnected (sym c ∙ e) kind;
    unallowed = a;
    open_same = o;
  }

  -- a stream of some kind is opened
  pub facts-opened : (g : Log) → stream_of g position pieces ≡ stream → ((kind : ℕ) → count kind ≤ stream_count side g kind)
      → initial_credit (all_events_of g) ≡ initial → is_connected (all_events_of g) ≡ true → (is_open g ≡ true → events_of g ≡ all_events_of g) → Facts side g position pieces
  facts-opened g s n i c o = record {
    streams = λ k. subst (λ (t : Stream). IsStream side (stream_count side g) (initial_credit (all_events_of g)) k t) (λ j. sym s j k)
        (subst (λ (m : ℕ). IsStream side (stream_count side g) m k (stream k)) (sym i)
        (more-streams side count (stream_count side g) initial k (stream k) n (facts.streams k)));
    unconnected = λ e. absurd (cc);
    unallowed = λ e. absurd (cc);
    open_same = o;
  }

  -- ---- each event

  -- the events that count are all of them, while the connection is open
  pub opens-same : (b : Bool) (e : Event) → is_open log ≡ b → is_open (event_entry b e ∷ log) ≡ true → events_of (event_entry b e ∷ log) ≡ all_events_of (event_entry b e ∷ log)
  opens-same true e o p = ap (λ es. e ∷ es) (facts.open_same o)
  opens-same false e o p = let none : false ≡ true = sym o ∙ p in absurd (cc)

  pub end-facts : (b : Bool) (id : ℕ) → is_open log ≡ b → exists side log id ≡ true → (local_uni side == id % 4) ≡ false → Facts side (event_entry b (End id) ∷ log) position pieces
  end-facts true id o x w = facts-changed (Reported (End id) ∷ log) position pieces id (signal true (with_end ends.Fin)) refl refl refl (opens-same true (End id) o) facts.unallowed
      (ended-stream side count initial id (stream id) x (facts.streams id) true ends.Fin w) (end-changes log position pieces true id)
  end-facts false id o x w = facts-changed (ReportedLate (End id) ∷ log) position pieces id (signal false (with_end ends.Fin)) refl refl refl (opens-same false (End id) o) facts.unallowed
      (ended-stream side count initial id (stream id) x (facts.streams id) false ends.Fin w) (end-changes log position pieces false id)

  pub reset-facts : (b : Bool) (id code : ℕ) → is_open log ≡ b → exists side log id ≡ true → (local_uni side == id % 4) ≡ false → Facts side (event_entry b (Reset id code) ∷ log) position pieces
  reset-facts true id code o x w = facts-changed (Reported (Reset id code) ∷ log) position pieces id (signal true (with_end (ends.Reset code))) refl refl refl (opens-same true (Reset id code) o) facts.unallowed
      (ended-stream side count initial id (stream id) x (facts.streams id) true (ends.Reset code) w) (reset-changes log position pieces true id code)
  reset-facts false id code o x w = facts-changed (ReportedLate (Reset id code) ∷ log) position pieces id (signal false (with_end (ends.Reset code))) refl refl refl (opens-same false (Reset id code) o) facts.unallowed
      (ended-stream side count initial id (stream id) x (facts.streams id) false (ends.Reset code) w) (reset-changes log position pieces false id code)

  pub stop-facts : (b : Bool) (id code : ℕ) → is_open log ≡ b → exists side log id ≡ true → Facts side (event_entry b (Stop id code) ∷ log) position pieces
  stop-facts true id code o x = facts-changed (Reported (Stop id code) ∷ log) position pieces id (signal true (with_stop code)) refl refl refl (opens-same true (Stop id code) o) facts.unallowed
      (stopped-stream side count initial id (stream id) x (facts.streams id) true code) (stop-changes log position pieces true id code)
  stop-facts false id code o x = facts-changed (ReportedLate (Stop id code) ∷ log) position pieces id (signal false (with_stop code)) refl refl refl (opens-same false (Stop id code) o) facts.unallowed
      (stopped-stream side count initial id (stream id) x (facts.streams id) false code) (stop-changes log position pieces false id code)

  pub ack-facts : (b : Bool) (id : ℕ) → is_open log ≡ b → exists side log id ≡ true → Facts side (event_entry b (Acked id) ∷ log) position pieces
  ack-facts true id o x = facts-changed (Reported (Acked id) ∷ log) position pieces id (signal true with_ack) refl refl refl (opens-same true (Acked id) o) facts.unallowed
      (acked-stream side count initial id (stream id) x (facts.streams id) true) (ack-changes log position pieces true id)
  ack-facts false id o x = facts-changed (ReportedLate (Acked id) ∷ log) position pieces id (signal false with_ack) refl refl refl (opens-same false (Acked id) o) facts.unallowed
      (acked-stream side count initial id (stream id) x (facts.streams id) false) (ack-changes log position pieces false id)

  pub credit-facts : (b : Bool) (id total : ℕ) → is_open log ≡ b → exists side log id ≡ true → credit (all_events_of log) id ≤ total → Facts side (event_entry b (MaxData id total) ∷ log) position pieces
  credit-facts true id total o x l = facts-changed (Reported (MaxData id total) ∷ log) position pieces id (with_credit total) refl refl refl (opens-same true (MaxData id total) o) facts.unallowed
      (raised-stream side count initial id (stream id) x (facts.streams id) total l) (credit-changes log position pieces true id total)
  credit-facts false id total o x l = facts-changed (ReportedLate (MaxData id total) ∷ log) position pieces id (with_credit total) refl refl refl (opens-same false (MaxData id total) o) facts.unallowed
      (raised-stream side count initial id (stream id) x (facts.streams id) total l) (credit-changes log position pieces false id total)

  more-counted : (b : Bool) (peers local : ℕ) → peers + local ≤ one_more_if b peers + local
  more-counted true peers local = omega arith
  more-counted false peers local = omega arith

  pub uni-facts : (b : Bool) → is_open log ≡ b → is_connected (all_events_of log) ≡ true → Facts side (event_entry b PeerUni ∷ log) position pieces
  uni-facts true o c = facts-opened (Reported PeerUni ∷ log) refl (λ kind. more-counted (peer_uni side == kind) (peer_count side (all_events_of log) kind) (local_count (actions_of log) kind)) refl c (opens-same true PeerUni o)
  uni-facts false o c = facts-opened (ReportedLate PeerUni ∷ log) refl (λ kind. more-counted (peer_uni side == kind) (peer_count side (all_events_of log) kind) (local_count (actions_of log) kind)) refl c (opens-same false PeerUni o)

  pub bi-facts : (b : Bool) → is_open log ≡ b → is_connected (all_events_of log) ≡ true → Facts side (event_entry b PeerBi ∷ log) position pieces
  bi-facts true o c = facts-opened (Reported PeerBi ∷ log) refl (λ kind. more-counted (peer_bi side == kind) (peer_count side (all_events_of log) kind) (local_count (actions_of log) kind)) refl c (opens-same true PeerBi o)
  bi-facts false o c = facts-opened (ReportedLate PeerBi ∷ log) refl (λ kind. more-counted (peer_bi side == kind) (peer_count side (all_events_of log) kind) (local_count (actions_of log) kind)) refl c (opens-same false PeerBi o)

  -- no stream is there before the connection
  connected-stream : (n k : ℕ) → is_connected (all_events_of log) ≡ false → IsStream side count n k (with_credit n (stream k))
  connected-stream n k c =
      let z : count (k % 4) ≡ 0 = facts.unconnected c (k % 4) in
      let none : nat_lt (k / 4) (count (k % 4)) ≡ false = rw z (grind (arith, nat_tests)) in
      let fresh-is : stream k ≡ fresh initial = (facts.streams k).unopened none in
      subst (λ (s : Stream). IsStream side count n k (with_credit n s)) (sym fresh-is) (record { unopened = λ _. refl; sent = omega arith; one_way = λ _. (refl, refl) })

  pub connected-facts : (b : Bool) (uni bi n : ℕ) (datagrams : DatagramFact) → is_open log ≡ b → is_connected (all_events_of log) ≡ false → Facts side (event_entry b (Connected uni bi n datagrams) ∷ log) position pieces
  connected-facts true uni bi n datagrams o c = record { streams = λ k. connected-stream n k c; unconnected = λ e. absurd (cc); unallowed = λ e. absurd (cc); open_same = opens-same true (Connected uni bi n datagrams) o }
  connected-facts false uni bi n datagrams o c = record { streams = λ k. connected-stream n k c; unconnected = λ e. absurd (cc); unallowed = λ e. absurd (cc); open_same = opens-same false (Connected uni bi n datagrams) o }

  pub datagram-facts : (b : Bool) (piece : List ℕ) → is_open log ≡ b → Facts side (event_entry b (Datagram piece) ∷ log) position pieces
  datagram-facts true piece o = record { streams = facts.streams; unconnected = facts.unconnected; unallowed = facts.unallowed; open_same = opens-same true (Datagram piece) o }
  datagram-facts false piece o = record { streams = facts.streams; unconnected = facts.unconnected; unallowed = facts.unallowed; open_same = opens-same false (Datagram piece) o }

  pub unis-facts : (b : Bool) (total : ℕ) → is_open log ≡ b → is_connected (all_events_of log) ≡ true → Facts side (event_entry b (MaxUni total) ∷ log) position pieces
  unis-facts true total o c = record { streams = facts.streams; unconnected = facts.unconnected; unallowed = λ e. absurd (cc); open_same = opens-same true (MaxUni total) o }
  unis-facts false total o c = record { streams = facts.streams; unconnected = facts.unconnected; unallowed = λ e. absurd (cc); open_same = opens-same false (MaxUni total) o }

  pub bis-facts : (b : Bool) (total : ℕ) → is_open log ≡ b → is_connected (all_events_of log) ≡ true → Facts side (event_entry b (MaxBi total) ∷ log) position pieces
  bis-facts true total o c = record { streams = facts.streams; unconnected = facts.unconnected; unallowed = λ e. absurd (cc); open_same = opens-same true (MaxBi total) o }
  bis-facts false total o c = record { streams = facts.streams; unconnected = facts.unconnected; unallowed = λ e. absurd (cc); open_same = opens-same false (MaxBi total) o }

  pub limit-facts : (b : Bool) (fact : DatagramFact) → is_open log ≡ b → Facts side (event_entry b (DatagramLimit fact) ∷ log) position pieces
  limit-facts true fact o = record { streams = facts.streams; unconnected = facts.unconnected; unallowed = facts.unallowed; open_same = opens-same true (DatagramLimit fact) o }
  limit-facts false fact o = record { streams = facts.streams; unconnected = facts.unconnected; unallowed = facts.unallowed; open_same = opens-same false (DatagramLimit fact) o }

  pub loss-facts : (b : Bool) (reason : LossReason) → is_open log ≡ b → Facts side (event_entry b (Loss reason) ∷ log) position pieces
  loss-facts true reason o = record { streams = facts.streams; unconnected = facts.unconnected; unallowed = facts.unallowed; open_same = opens-same true (Loss reason) o }
  loss-facts false reason o = record { streams = facts.streams; unconnected = facts.unconnected; unallowed = facts.unallowed; open_same = opens-same false (Loss reason) o }
