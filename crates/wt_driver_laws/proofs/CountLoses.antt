-- What is unread after each step of a moment: nothing comes, and what goes on a stream is gone of all.
use Rattle.std.proofs.Common.{◌%◌, ◌*◌, ◌+◌, ◌/◌, ◌<◌, ◌≡◌, ◌≢◌, ◌≤◌, ◌∙◌, ◌++◌, ◌∷◌, Bool, List, None, Option, Some, [], ap, arith, drop, false, inl, inr, length, refl, suc, sym, true, zero, ℕ}
use Rattle.std.proofs.lemmas.Bool.{cases_lt, ltb-false}
use Rattle.std.proofs.lemmas.Bool.Decides.{nat_tests}
use Rattle.std.proofs.lemmas.List.{get_or-set_other, get_or-set_same}
use Rattle.std.specs.Prelude.{◌==◌, ◌⊎◌, if◌then◌else◌}
use Rattle.wt_driver_laws.proofs.PieceCounts.{new-keeps}
use Rattle.wt_kept.specs.Arriving.{ScannedNow, after_slot, classify_final, peer_kind, scan_now, scan_reading, scan_waiting, stays_now, unless_over, with_transport}
use Rattle.wt_kept.specs.Classifying.{classify_now, with_sessions}
use Rattle.wt_kept.specs.Counting.{unread_pieces}
use Rattle.wt_kept.specs.Kept.{ArrivingNow, Closed, LiveNow, OwnControlNow, WorkNow}
use Rattle.wt_kept.specs.Looking.{after_walk, is_closed_by_capsule, read_control_by, read_each, read_session, read_session_by, unless_fault, with_session_reader}
use Rattle.wt_kept.specs.Moment.{head_sent, is_ready_now, own_flushed, own_opened, own_sent}
use Rattle.wt_kept.specs.Readers.{ControlReading, ReadOn, ReaderRules, Slot, control_rules, read_on, session_rules}
use Rattle.wt_kept.specs.Windows.{live_in}
use Rattle.wt_message.specs.FixedBytes.{local_control_bytes}
use Rattle.wt_transport.specs.State.{TransportState}
use Rattle.wt_transport.specs.Step.{after_opening, after_send, covered_now, may_open_now, may_send_now, next_id_now, pieces_now, with_action, with_new_stream, with_send}
use Rattle.wt_transport.specs.StreamState.{Stream, fresh, has_stream, row_at, stream_at, stream_in, with_pushed, with_sent}
use Rattle.wt_peer_streams.proofs.Losing.{Loses, change-loses, classify-loses, finish-retire-loses, loses-both, loses-none, read-loses, reset-retire-loses, set-beyond}
use Rattle.wt_peer_streams.proofs.Streams.{past-end}
use Rattle.wt_proto.specs.declared.session_walk.SessionWalk.{SessionWalk}
use Rattle.wt_proto.specs.declared.session_walk.SessionWalk.TheVariants as walks
use Rattle.wt_proto.specs.declared.verdict.Verdict.{Verdict}
use Rattle.wt_proto.specs.declared.verdict.Verdict.TheVariants as verdicts
use Rattle.wt_turn.specs.Streams.{local_uni}
use Rattle.wt_sessions.specs.Scan.{places_after}
use Rattle.wt_turn.specs.declared.action.Action.TheVariants as actions
use Rattle.wt_wire.specs.declared.error.ErrorCode.{ErrorCode}
use Rattle.wt_wire.specs.declared.side.Side.{Side}
use Rattle.wt_wire.specs.declared.side.Side.TheVariants.{Client, Server}

-- ---- this end's control stream

-- a stream that isn't there has nothing unread
pub unread-is : (t : TransportState) (k : ℕ) → pieces_now t k ≡ (stream_at t.streams k).unread
unread-is t k = by (has_stream t.streams k) refl
  where
    by : (b : Bool) → has_stream t.streams k ≡ b → pieces_now t k ≡ (stream_at t.streams k).unread
    by true has = λ i. if has i then (stream_at t.streams k).unread else []
    by false none =
        (λ i. if none i then (stream_at t.streams k).unread else [])
        ∙ sym (ap (λ (s : Stream). s.unread) (past-end (row_at t.streams (k % 4)) (k / 4) (fresh 0) (ltb-false (k / 4) (length (row_at t.streams (k % 4))) none)))

pushed-unread : (row : List Stream) (i credit : ℕ) → (stream_in (row ++ fresh credit ∷ []) i).unread ≡ (stream_in row i).unread
pushed-unread [] zero credit = refl
pushed-unread [] (suc i) credit = refl
pushed-unread (x ∷ row) zero credit = refl
pushed-unread (x ∷ row) (suc i) credit = pushed-unread row i credit

-- a new stream has nothing unread
new-unread : (t : TransportState) (kind k : ℕ) → unread_pieces (with_new_stream t kind) k ≡ unread_pieces t k
new-unread t kind k = ap length (unread-is (with_new_stream t kind) k) ∙ (ap length (by (cases_lt kind (length t.streams)) (k % 4 == kind) refl) ∙ sym (ap length (unread-is t k)))
  where
    row : List Stream
    row = row_at t.streams kind ++ fresh t.initial_credit ∷ []

    by : (kind < length t.streams) ⊎ (length t.streams ≤ kind) → (b : Bool) → (k % 4 == kind) ≡ b → (stream_at (with_pushed t.streams kind (fresh t.initial_credit)) k).unread ≡ (stream_at t.streams k).unread
    by (inl lt) true e =
        let same : k % 4 ≡ kind = grind (arith, nat_tests, e) in
        ap (λ j. (stream_in (row_at (with_pushed t.streams kind (fresh t.initial_credit)) j) (k / 4)).unread) same
        ∙ (ap (λ (r : List Stream). (stream_in r (k / 4)).unread) (get_or-set_same t.streams kind row [] lt)
        ∙ (pushed-unread (row_at t.streams kind) (k / 4) t.initial_credit ∙ sym (ap (λ j. (stream_in (row_at t.streams j) (k / 4)).unread) same)))
    by (inl lt) false e =
        let other : k % 4 ≢ kind = λ s. (let yes_ : (k % 4 == kind) ≡ true = grind (arith, nat_tests) in absurd (cc)) in
        ap (λ (r : List Stream). (stream_in r (k / 4)).unread) (get_or-set_other t.streams kind (k % 4) row [] other)
    by (inr le) b e = ap (λ (streams : List (List Stream)). (stream_at streams k).unread) (set-beyond t.streams kind row le)

kinds-apart : (side : Side) (bidirectional : Bool) → peer_kind side bidirectional ≢ local_uni side
kinds-apart Client true e = absurd (omega (arith, e))
kinds-apart Client false e = absurd (omega (arith, e))
kinds-apart Server true e = absurd (omega (arith, e))
kinds-apart Server false e = absurd (omega (arith, e))

-- this end's streams are none of the peer's
own-opening-loses : (t : TransportState) → Loses t (after_opening t (local_uni t.side))
own-opening-loses t = by (may_open_now t (local_uni t.side))
  where
    opened : TransportState
    opened = with_action (with_new_stream t (local_uni t.side)) (actions.Opened (next_id_now t (local_uni t.side)))

    by : (b : Bool) → Loses t (if b then opened else t)
    by false = loses-none t
    by true = record {
      fewer = λ k. let e = new-unread t (local_uni t.side) k in omega (arith, e);
      lost = λ k. let e = new-unread t (local_uni t.side) k in let x = new-keeps t (local_uni t.side) in omega (arith, e, x);
      side = refl;
      counts = λ b. ap length (get_or-set_other t.streams (local_uni t.side) (peer_kind t.side b) (row_at t.streams (local_uni t.side) ++ fresh t.initial_credit ∷ []) [] (kinds-apart t.side b));
    }

send-loses : (t : TransportState) (id : ℕ) (bytes : List ℕ) → Loses t (after_send t id bytes)
send-loses t id bytes = by (covered_now t id bytes)
  where
    by : (bs : List ℕ) → Loses t (with_send t id bs)
    by [] = loses-none t
    by (b ∷ later) =
        let x = change-loses t id (with_sent (length (b ∷ later))) (λ s. omega arith) in record { fewer = x.fewer; lost = x.lost; side = x.side; counts = x.counts }

pub own-loses : (c : OwnControlNow) (t : TransportState) → Loses t (own_flushed c t).transport
own-loses c t = by (is_ready_now c)
  where
    opening : (o : Option ℕ) → Loses t (own_opened o c t).transport
    opening None = own-opening-loses t
    opening (Some k) = loses-none t

    heading : (b : Bool) (k : ℕ) (e : OwnControlNow) (u : TransportState) → Loses u (head_sent b k e u).transport
    heading true k e u = send-loses u k (drop e.sent local_control_bytes)
    heading false k e u = loses-none u

    sending : (o : Option ℕ) (e : OwnControlNow) (u : TransportState) → Loses u (own_sent o e u).transport
    sending None e u = loses-none u
    sending (Some k) e u = heading (may_send_now u k) k e u

    by : (b : Bool) → Loses t (if b then record { own = c; transport = t } else (let x = own_opened c.stream c t in own_sent x.own.stream x.own x.transport)).transport
    by true = loses-none t
    by false =
        let x = own_opened c.stream c t in
        loses-both t x.transport (own_sent x.own.stream x.own x.transport).transport (opening c.stream) (sending x.own.stream x.own x.transport)

-- ---- scans

module _ {V : Type 0} (w : ReaderRules V Verdict) where
  staying : (v : Verdict) (x : Slot V) (s : ScannedNow V) (t : TransportState) → Loses t s.work.transport → Loses t (stays_now v x s).work.transport
  staying verdicts.Incomplete x s t l = l
  staying (verdicts.Control offset) x s t l = l
  staying (verdicts.Encoder offset) x s t l = l
  staying (verdicts.Decoder offset) x s t l = l
  staying (verdicts.WebTransport session offset) x s t l = l
  staying (verdicts.Request fields offset) x s t l = l
  staying (verdicts.Refused code) x s t l = l
  staying verdicts.Dropped x s t l = l
  staying (verdicts.Fault code) x s t l = l

  judging : (k : ℕ) (v : Verdict) (r : WorkNow) → Loses r.transport (classify_final classify_now k v r).transport
  judging k verdicts.Incomplete r = loses-none r.transport
  judging k (verdicts.Control offset) r = classify-loses k (verdicts.Control offset) r
  judging k (verdicts.Encoder offset) r = classify-loses k (verdicts.Encoder offset) r
  judging k (verdicts.Decoder offset) r = classify-loses k (verdicts.Decoder offset) r
  judging k (verdicts.WebTransport session offset) r = classify-loses k (verdicts.WebTransport session offset) r
  judging k (verdicts.Request fields offset) r = classify-loses k (verdicts.Request fields offset) r
  judging k (verdicts.Refused code) r = classify-loses k (verdicts.Refused code) r
  judging k verdicts.Dropped r = classify-loses k verdicts.Dropped r
  judging k (verdicts.Fault code) r = classify-loses k (verdicts.Fault code) r

  slotting : (id : ℕ) (x : ReadOn V) (later : ℕ → WorkNow → ScannedNow V) (n : ℕ) (r : WorkNow) → Loses r.transport x.transport
      → ((m : ℕ) (u : WorkNow) → Loses u.transport (later m u).work.transport) → Loses r.transport (after_slot w classify_now id x later n r).work.transport
  slotting id x later n r l again =
      let v = w.outcome x.reader in
      let u = classify_final classify_now id v (with_transport x.transport r) in
      staying v (record { id = id; reader = x.reader }) (later (places_after v n) u) r.transport
      (loses-both r.transport x.transport (later (places_after v n) u).work.transport l
      (loses-both x.transport u.transport (later (places_after v n) u).work.transport (judging id v (with_transport x.transport r)) (again (places_after v n) u)))

  over : (o : Option ErrorCode) (goes stops : ScannedNow V) (t : TransportState) → Loses t goes.work.transport → Loses t stops.work.transport → Loses t (unless_over o goes stops).work.transport
  over None goes stops t x y = x
  over (Some code) goes stops t x y = y

  waiting-loses : (kind n left next : ℕ) (r : WorkNow) → Loses r.transport (scan_waiting w classify_now kind n left next r).work.transport
  waiting-loses kind zero left next r = loses-none r.transport
  waiting-loses kind (suc n) zero next r = loses-none r.transport
  waiting-loses kind (suc n) (suc left) next r = over r.dispatched.fault _ _ r.transport
      (slotting (4 * next + kind) (read_on w (4 * next + kind) w.start r.transport) (λ m u. scan_waiting w classify_now kind m left (suc next) u) n r (read-loses w (4 * next + kind) w.start r.transport) (λ m u. waiting-loses kind m left (suc next) u)) (loses-none r.transport)

  reading-loses : (kind n left next : ℕ) (xs : List (Slot V)) (r : WorkNow) → Loses r.transport (scan_reading w classify_now kind n left next xs r).work.transport
  reading-loses kind n left next [] r = waiting-loses kind n left next r
  reading-loses kind zero left next (x ∷ xs) r = loses-none r.transport
  reading-loses kind (suc n) left next (x ∷ xs) r = over r.dispatched.fault _ _ r.transport
      (slotting x.id (read_on w x.id x.reader r.transport) (λ m u. scan_reading w classify_now kind m left next xs u) n r (read-loses w x.id x.reader r.transport) (λ m u. reading-loses kind m left next xs u)) (loses-none r.transport)

  pub scan-loses : (a : ArrivingNow V) (r : WorkNow) → Loses r.transport (scan_now w classify_now a r).work.transport
  scan-loses a r = reading-loses (peer_kind r.transport.side a.bidirectional) 4 _ a.next a.reading r

-- ---- what reads on behind headers

walk-loses : (s : ℕ) (b : Bool) (walk : SessionWalk) (w : WorkNow) → Loses w.transport (after_walk s b walk w).transport
walk-loses s b walks.Running w = loses-none w.transport
walk-loses s true (walks.Closed code reason) w = reset-retire-loses s (Closed code reason) w
walk-loses s false (walks.Closed code reason) w = finish-retire-loses s (Closed code reason) w
walk-loses s b (walks.Fault code) w = loses-none w.transport

session-loses : (s : ℕ) (o : Option LiveNow) (w : WorkNow) → Loses w.transport (read_session_by s o w).transport
session-loses s None w = loses-none w.transport
session-loses s (Some x) w =
    let y = read_on session_rules s x.reader w.transport in
    let u : WorkNow = record { transport = y.transport; dispatched = with_sessions (with_session_reader y.reader s w.dispatched.sessions) w.dispatched } in
    let v = after_walk s (is_closed_by_capsule y.reader) (session_rules.outcome y.reader) u in
    loses-both w.transport y.transport v.transport (read-loses session_rules s x.reader w.transport) (walk-loses s (is_closed_by_capsule y.reader) (session_rules.outcome y.reader) u)

pub each-loses : (ss : List ℕ) (w : WorkNow) → Loses w.transport (read_each ss w).transport
each-loses [] w = loses-none w.transport
each-loses (s ∷ later) w = by w.dispatched.fault (each-loses later (read_session s w))
  where
    by : (o : Option ErrorCode) → Loses (read_session s w).transport (read_each later (read_session s w)).transport → Loses w.transport (unless_fault o (read_each later (read_session s w)) w).transport
    by None again = loses-both w.transport (read_session s w).transport (read_each later (read_session s w)).transport (session-loses s (live_in w.dispatched.sessions s) w) again
    by (Some code) again = loses-none w.transport

control-by-loses : (o : Option (Slot ControlReading)) (w : WorkNow) → Loses w.transport (read_control_by o w).transport
control-by-loses None w = loses-none w.transport
control-by-loses (Some x) w = read-loses control_rules x.id x.reader w.transport

pub control-loses : (o : Option ErrorCode) (w : WorkNow) → Loses w.transport (unless_fault o (read_control_by w.dispatched.critical.control w) w).transport
control-loses None w = control-by-loses w.dispatched.critical.control w
control-loses (Some code) w = loses-none w.transport
