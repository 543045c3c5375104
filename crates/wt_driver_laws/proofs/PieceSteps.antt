-- Of how many pieces a byte is unread, after each step of a driver: a moment adds none, and a piece of a stream at most itself.
use Rattle.std.proofs.Common.{◌+◌, ◌*◌, ◌%◌, ◌≤◌, ◌∷◌, Bool, List, None, Option, Some, [], arith, false, map, suc, true, zero, ℕ}
use Rattle.std.specs.Prelude.{◌==◌, drop, if◌then◌else◌}
use Rattle.wt_driver_laws.proofs.PieceCounts.{bytes-add-one, close-keeps, consume-keeps, either-keeps, finish-keeps, give-up-keeps, opening-keeps, pieces_at, reset-running-keeps, send-keeps, stop-keeps, stop-running-keeps, turn-adds}
use Rattle.wt_driver_laws.specs.Driving.{pieces_in}
use Rattle.wt_kept.specs.Arriving.{ScannedNow, after_slot, classify_final, peer_kind, scan_now, scan_reading, scan_waiting, stays_now, unless_over, with_transport}
use Rattle.wt_kept.specs.Calling.{awaits_answer_now, close_now, end_session_now, on_sessions, open_turn, refuse_session_now, refused_by, register_now, response_over, response_read, response_slot, turn_now, with_datagram_queued, with_turn}
use Rattle.wt_kept.specs.Classifying.{admitted_by, admitted_request, classify_now, refuse_request, refuse_stream, retire_if, stop_and_give_up, unless_room, with_dispatched, with_sessions}
use Rattle.wt_kept.specs.Ending.{end_stream, end_streams, finish_and_retire, finish_running, give_up_all, give_up_now, remains_of, reset_and_retire, retire_now}
use Rattle.wt_kept.specs.Kept.{ArrivingNow, Closed, DriverNow, Ended, LiveNow, OwnControlNow, Refused, SessionEndNow, WorkNow}
use Rattle.wt_kept.specs.Looking.{after_walk, is_closed_by_capsule, read_control_by, read_each, read_session, read_session_by, unless_fault, with_session_reader}
use Rattle.wt_kept.specs.Moment.{arrivals_step, bis_step, close_step, closed_with, control_step, datagrams_step, head_sent, is_ready_now, moment_now, own_flushed, own_opened, own_sent, own_step, own_stop_step, sessions_step, unis_step, with_work, without_datagrams, work_of_moment}
use Rattle.wt_kept.specs.Pieces.{FedNow, body_feed, body_fed, body_part, body_part_if, bytes_fit_now, fed_slots, header_fed, header_feed, header_part, moment_if, rest_part, take_piece_now, with_bytes_if, work_after}
use Rattle.wt_kept.specs.Readers.{ControlReading, ReadOn, ReaderRules, Slot, bi_rules, consumed, control_rules, read_on, reads_on_if, response_rules, session_rules, uni_rules}
use Rattle.wt_kept.specs.Windows.{AdmissionNow, Admitted, Full, Gone, admit_stream_now, establish_now, live_in}
use Rattle.wt_message.specs.FixedBytes.{local_control_bytes}
use Rattle.wt_transport.specs.Running.{reset_running_now, stop_running_now}
use Rattle.wt_transport.specs.State.{TransportState}
use Rattle.wt_transport.specs.Step.{after_finish, after_give_up, after_stop, can_receive_now, fits_now, may_send_now}
use Rattle.wt_proto.specs.declared.session_walk.SessionWalk.{SessionWalk}
use Rattle.wt_proto.specs.declared.session_walk.SessionWalk.TheVariants as walks
use Rattle.wt_proto.specs.declared.verdict.Verdict.{Verdict}
use Rattle.wt_proto.specs.declared.verdict.Verdict.TheVariants as verdicts
use Rattle.wt_turn.specs.Streams.{local_uni}
use Rattle.wt_sessions.specs.Scan.{places_after}
use Rattle.wt_turn.specs.declared.turn.Turn.{Turn}
use Rattle.wt_turn.specs.declared.turn.Turn.TheVariants as turns
use Rattle.wt_wire.specs.Codes.{code_of}
use Rattle.wt_wire.specs.Ids.{is_bidirectional}
use Rattle.wt_wire.specs.declared.error.ErrorCode.{ErrorCode}
use Rattle.wt_wire.specs.declared.error.ErrorCode.TheVariants as h3
use Rattle.wt_wire.specs.declared.side.Side.{Side}
use Rattle.wt_wire.specs.declared.side.Side.TheVariants.{Client, Server}

-- of the work, and of a driver
abbrev pieces_of_work : WorkNow → ℕ
pieces_of_work w = pieces_at w.transport

abbrev pub pieces_kept : DriverNow → ℕ
pieces_kept d = pieces_at d.work.transport

-- ---- streams that are given up, stopped or ended

giving-up : (t : TransportState) (k : ℕ) → pieces_at (give_up_now t k) ≤ pieces_at t
giving-up t k = either-keeps (can_receive_now t k) t (after_give_up t k) (give-up-keeps t k)

giving-all : (ks : List ℕ) (t : TransportState) → pieces_at (give_up_all t ks) ≤ pieces_at t
giving-all [] t = omega arith
giving-all (k ∷ ks) t = let x = giving-up t k in let y = giving-all ks (give_up_now t k) in omega (arith, x, y)

ending-one : (t : TransportState) (k : ℕ) → pieces_at (end_stream t k) ≤ pieces_at t
ending-one t k =
    let x = stop-running-keeps t k (code_of h3.SessionGone) in
    let y = reset-running-keeps (stop_running_now t k (code_of h3.SessionGone)) k (code_of h3.SessionGone) in
    omega (arith, x, y)

ending-all : (ks : List ℕ) (t : TransportState) → pieces_at (end_streams t ks) ≤ pieces_at t
ending-all [] t = omega arith
ending-all (k ∷ ks) t = let x = ending-one t k in let y = ending-all ks (end_stream t k) in omega (arith, x, y)

retiring : (s : ℕ) (end : SessionEndNow) (w : WorkNow) → pieces_of_work (retire_now s end w) ≤ pieces_of_work w
retiring s end w =
    let left = remains_of w.dispatched.sessions s (live_in w.dispatched.sessions s) in
    let x = ending-all left.streams w.transport in
    let y = giving-all left.waiting (end_streams w.transport left.streams) in
    let z = giving-up (give_up_all (end_streams w.transport left.streams) left.waiting) s in
    omega (arith, x, y, z)

finishing : (t : TransportState) (k : ℕ) → pieces_at (finish_running t k) ≤ pieces_at t
finishing t k = either-keeps (may_send_now t k) t (after_finish t k) (finish-keeps t k)

finish-retiring : (s : ℕ) (end : SessionEndNow) (w : WorkNow) → pieces_of_work (finish_and_retire s end w) ≤ pieces_of_work w
finish-retiring s end w = let x = finishing w.transport s in let y = retiring s end (record w { transport = finish_running w.transport s }) in omega (arith, x, y)

reset-retiring : (s : ℕ) (end : SessionEndNow) (w : WorkNow) → pieces_of_work (reset_and_retire s end w) ≤ pieces_of_work w
reset-retiring s end w =
    let x = reset-running-keeps w.transport s (code_of h3.NoError) in
    let y = retiring s end (record w { transport = reset_running_now w.transport s (code_of h3.NoError) }) in omega (arith, x, y)

refusing : (code : ErrorCode) (t : TransportState) (k : ℕ) → pieces_at (stop_and_give_up code t k) ≤ pieces_at t
refusing code t k = either-keeps (can_receive_now t k) t (after_give_up (after_stop t k (code_of code)) k)
    (let x = stop-keeps t k (code_of code) in let y = give-up-keeps (after_stop t k (code_of code)) k in omega (arith, x, y))

-- ---- verdicts

refusing-request : (k : ℕ) (code : ErrorCode) (w : WorkNow) → pieces_of_work (refuse_request k code w) ≤ pieces_of_work w
refusing-request k code w = by (k % 4 == 0)
  where
    by : (b : Bool) → pieces_of_work (retire_if b k (refuse_stream k code w)) ≤ pieces_of_work w
    by true = let x = refusing code w.transport k in let y = retiring k Refused (refuse_stream k code w) in omega (arith, x, y)
    by false = refusing code w.transport k

admitting : (a : AdmissionNow) (k : ℕ) (w : WorkNow) → pieces_of_work (admitted_by a k w) ≤ pieces_of_work w
admitting Admitted k w = omega arith
admitting Full k w = refusing h3.BufferedStreamRejected w.transport k
admitting Gone k w = refusing h3.SessionGone w.transport k

rooming : (b : Bool) (k : ℕ) (w : WorkNow) → pieces_of_work (unless_room b k w) ≤ pieces_of_work w
rooming true k w = omega arith
rooming false k w = refusing-request k h3.RequestRejected w

classifying : (k : ℕ) (v : Verdict) (w : WorkNow) → pieces_of_work (classify_now k v w) ≤ pieces_of_work w
unfolding classify_now
classifying k (verdicts.Control offset) w = omega arith
classifying k (verdicts.Encoder offset) w = giving-up w.transport k
classifying k (verdicts.Decoder offset) w = giving-up w.transport k
classifying k (verdicts.WebTransport session offset) w = admitting (admit_stream_now k session w.dispatched.sessions).admission k _
classifying k (verdicts.Request fields offset) w = rooming (admitted_request k fields w.dispatched.requests).has_room k _
classifying k (verdicts.Refused code) w = refusing-request k code w
classifying k verdicts.Dropped w = giving-up w.transport k
classifying k (verdicts.Fault code) w = omega arith
classifying k verdicts.Incomplete w = omega arith

-- ---- readers

consuming : (t : TransportState) (id count : ℕ) → pieces_at (consumed t id count) ≤ pieces_at t
consuming t id zero = omega arith
consuming t id (suc n) = consume-keeps t id (suc n)

reading : {V O : Type 0} (w : ReaderRules V O) (id : ℕ) (r : V) (t : TransportState) → pieces_at (read_on w id r t).transport ≤ pieces_at t
reading {V} w id r t = by (w.has_said r)
  where
    by : (b : Bool) → pieces_at (reads_on_if w.has_said w.fed w.ended b id r t).transport ≤ pieces_at t
    by true = omega arith
    by false = consuming t id _

-- ---- scans

module _ {V : Type 0} (w : ReaderRules V Verdict) where
  -- a stream stays or not: the rest is the same
  staying : (v : Verdict) (x : Slot V) (s : ScannedNow V) → pieces_of_work (stays_now v x s).work ≤ pieces_of_work s.work
  staying verdicts.Incomplete x s = omega arith
  staying (verdicts.Control offset) x s = omega arith
  staying (verdicts.Encoder offset) x s = omega arith
  staying (verdicts.Decoder offset) x s = omega arith
  staying (verdicts.WebTransport session offset) x s = omega arith
  staying (verdicts.Request fields offset) x s = omega arith
  staying (verdicts.Refused code) x s = omega arith
  staying verdicts.Dropped x s = omega arith
  staying (verdicts.Fault code) x s = omega arith

  judging : (k : ℕ) (v : Verdict) (r : WorkNow) → pieces_of_work (classify_final classify_now k v r) ≤ pieces_of_work r
  judging k verdicts.Incomplete r = omega arith
  judging k (verdicts.Control offset) r = classifying k (verdicts.Control offset) r
  judging k (verdicts.Encoder offset) r = classifying k (verdicts.Encoder offset) r
  judging k (verdicts.Decoder offset) r = classifying k (verdicts.Decoder offset) r
  judging k (verdicts.WebTransport session offset) r = classifying k (verdicts.WebTransport session offset) r
  judging k (verdicts.Request fields offset) r = classifying k (verdicts.Request fields offset) r
  judging k (verdicts.Refused code) r = classifying k (verdicts.Refused code) r
  judging k verdicts.Dropped r = classifying k verdicts.Dropped r
  judging k (verdicts.Fault code) r = classifying k (verdicts.Fault code) r

  slotting : (id : ℕ) (x : ReadOn V) (later : ℕ → WorkNow → ScannedNow V) (n : ℕ) (r : WorkNow) → pieces_at x.transport ≤ pieces_of_work r
      → ((m : ℕ) (u : WorkNow) → pieces_of_work (later m u).work ≤ pieces_of_work u) → pieces_of_work (after_slot w classify_now id x later n r).work ≤ pieces_of_work r
  slotting id x later n r less again =
      let a = judging id (w.outcome x.reader) (with_transport x.transport r) in
      let b = again (places_after (w.outcome x.reader) n) (classify_final classify_now id (w.outcome x.reader) (with_transport x.transport r)) in
      let c = staying (w.outcome x.reader) (record { id = id; reader = x.reader }) (later (places_after (w.outcome x.reader) n) (classify_final classify_now id (w.outcome x.reader) (with_transport x.transport r))) in
      omega (arith, less, a, b, c)

  over : (o : Option ErrorCode) (goes stops : ScannedNow V) (r : WorkNow) → pieces_of_work goes.work ≤ pieces_of_work r → pieces_of_work stops.work ≤ pieces_of_work r → pieces_of_work (unless_over o goes stops).work ≤ pieces_of_work r
  over None goes stops r x y = x
  over (Some code) goes stops r x y = y

  scanning-waiting : (kind n left next : ℕ) (r : WorkNow) → pieces_of_work (scan_waiting w classify_now kind n left next r).work ≤ pieces_of_work r
  scanning-waiting kind zero left next r = omega arith
  scanning-waiting kind (suc n) zero next r = omega arith
  scanning-waiting kind (suc n) (suc left) next r = over r.dispatched.fault _ _ r
      (slotting (4 * next + kind) (read_on w (4 * next + kind) w.start r.transport) (λ m u. scan_waiting w classify_now kind m left (suc next) u) n r (reading w (4 * next + kind) w.start r.transport) (λ m u. scanning-waiting kind m left (suc next) u)) (omega arith)

  scanning-reading : (kind n left next : ℕ) (xs : List (Slot V)) (r : WorkNow) → pieces_of_work (scan_reading w classify_now kind n left next xs r).work ≤ pieces_of_work r
  scanning-reading kind n left next [] r = scanning-waiting kind n left next r
  scanning-reading kind zero left next (x ∷ xs) r = omega arith
  scanning-reading kind (suc n) left next (x ∷ xs) r = over r.dispatched.fault _ _ r
      (slotting x.id (read_on w x.id x.reader r.transport) (λ m u. scan_reading w classify_now kind m left next xs u) n r (reading w x.id x.reader r.transport) (λ m u. scanning-reading kind m left next xs u)) (omega arith)

  scanning : (a : ArrivingNow V) (r : WorkNow) → pieces_of_work (scan_now w classify_now a r).work ≤ pieces_of_work r
  scanning a r = scanning-reading (peer_kind r.transport.side a.bidirectional) 4 _ a.next a.reading r

-- ---- sessions

walking : (s : ℕ) (b : Bool) (walk : SessionWalk) (w : WorkNow) → pieces_of_work (after_walk s b walk w) ≤ pieces_of_work w
walking s b walks.Running w = omega arith
walking s true (walks.Closed code reason) w = reset-retiring s (Closed code reason) w
walking s false (walks.Closed code reason) w = finish-retiring s (Closed code reason) w
walking s b (walks.Fault code) w = omega arith

session-reading : (s : ℕ) (o : Option LiveNow) (w : WorkNow) → pieces_of_work (read_session_by s o w) ≤ pieces_of_work w
session-reading s None w = omega arith
session-reading s (Some x) w =
    let y = read_on session_rules s x.reader w.transport in
    let a = reading session_rules s x.reader w.transport in
    let u : WorkNow = record { transport = y.transport; dispatched = with_sessions (with_session_reader y.reader s w.dispatched.sessions) w.dispatched } in
    let b = walking s (is_closed_by_capsule y.reader) (session_rules.outcome y.reader) u in
    omega (arith, a, b)

each-reading : (ss : List ℕ) (w : WorkNow) → pieces_of_work (read_each ss w) ≤ pieces_of_work w
each-reading [] w = omega arith
each-reading (s ∷ later) w = by w.dispatched.fault (each-reading later (read_session s w))
  where
    by : (o : Option ErrorCode) → pieces_of_work (read_each later (read_session s w)) ≤ pieces_of_work (read_session s w) → pieces_of_work (unless_fault o (read_each later (read_session s w)) w) ≤ pieces_of_work w
    by None again = let x = session-reading s (live_in w.dispatched.sessions s) w in omega (arith, x, again)
    by (Some code) again = omega arith

control-reading : (o : Option (Slot ControlReading)) (w : WorkNow) → pieces_of_work (read_control_by o w) ≤ pieces_of_work w
control-reading None w = omega arith
control-reading (Some x) w = reading control_rules x.id x.reader w.transport

-- ---- a moment

own-flushing : (c : OwnControlNow) (t : TransportState) → pieces_at (own_flushed c t).transport ≤ pieces_at t
own-flushing c t = by (is_ready_now c)
  where
    opening : (o : Option ℕ) → pieces_at (own_opened o c t).transport ≤ pieces_at t
    opening None = opening-keeps t (local_uni t.side)
    opening (Some k) = omega arith

    heading : (b : Bool) (k : ℕ) (c : OwnControlNow) (u : TransportState) → pieces_at (head_sent b k c u).transport ≤ pieces_at u
    heading true k c u = send-keeps u k (drop c.sent local_control_bytes)
    heading false k c u = omega arith

    sending : (o : Option ℕ) (c : OwnControlNow) (u : TransportState) → pieces_at (own_sent o c u).transport ≤ pieces_at u
    sending None c u = omega arith
    sending (Some k) c u = heading (may_send_now u k) k c u

    by : (b : Bool) → pieces_at (if b then record { own = c; transport = t } else (let x = own_opened c.stream c t in own_sent x.own.stream x.own x.transport)).transport ≤ pieces_at t
    by true = omega arith
    by false =
        let x = own_opened c.stream c t in
        let a = opening c.stream in
        let b = sending x.own.stream x.own x.transport in
        omega (arith, a, b)

own-stepping : (d : DriverNow) → pieces_kept (own_step d) ≤ pieces_kept d
unfolding own_step
own-stepping d = own-flushing d.own_control d.work.transport

unis-stepping : (d : DriverNow) → pieces_kept (unis_step d) ≤ pieces_kept d
unfolding unis_step
unis-stepping d = scanning uni_rules d.unis d.work

bis-stepping : (d : DriverNow) → pieces_kept (bis_step d) ≤ pieces_kept d
unfolding bis_step
bis-stepping d = scanning bi_rules d.bis d.work

datagrams-stepping : (d : DriverNow) → pieces_kept (datagrams_step d) ≤ pieces_kept d
unfolding datagrams_step
datagrams-stepping d = omega arith

arrivals-stepping : (d : DriverNow) → pieces_kept (arrivals_step d) ≤ pieces_kept d
unfolding arrivals_step
arrivals-stepping d = by (is_ready_now d.own_control)
  where
    by : (b : Bool) → pieces_kept (if b then datagrams_step (bis_step (unis_step d)) else d) ≤ pieces_kept d
    by true = let x = unis-stepping d in let y = bis-stepping (unis_step d) in let z = datagrams-stepping (bis_step (unis_step d)) in omega (arith, x, y, z)
    by false = omega arith

sessions-stepping : (d : DriverNow) → pieces_kept (sessions_step d) ≤ pieces_kept d
unfolding sessions_step
sessions-stepping d = each-reading (map (λ (x : LiveNow). x.id) d.work.dispatched.sessions.living) d.work

own-stop-stepping : (d : DriverNow) → pieces_kept (own_stop_step d) ≤ pieces_kept d
unfolding own_stop_step
own-stop-stepping d = omega arith

control-stepping : (d : DriverNow) → pieces_kept (control_step d) ≤ pieces_kept d
unfolding control_step
control-stepping d = by d.work.dispatched.fault
  where
    by : (o : Option ErrorCode) → pieces_of_work (unless_fault o (read_control_by d.work.dispatched.critical.control d.work) d.work) ≤ pieces_kept d
    by None = control-reading d.work.dispatched.critical.control d.work
    by (Some code) = omega arith

without : (b : Bool) (d : DriverNow) → pieces_kept (without_datagrams b d) ≤ pieces_kept d
without true d = omega arith
without false d = omega arith

close-stepping : (d : DriverNow) → pieces_kept (close_step d) ≤ pieces_kept d
unfolding close_step
close-stepping d =
    let t = closed_with d.work.dispatched.fault d.work.transport in
    let x = closing d.work.dispatched.fault in
    let y = without t.is_open (with_work (λ w. record w { transport = t }) d) in
    omega (arith, x, y)
  where
    closing : (o : Option ErrorCode) → pieces_at (closed_with o d.work.transport) ≤ pieces_kept d
    closing None = omega arith
    closing (Some code) = close-keeps d.work.transport (code_of code) []

work-of-moment : (d : DriverNow) → pieces_kept (work_of_moment d) ≤ pieces_kept d
unfolding work_of_moment
work-of-moment d =
    let a = own-stepping d in
    let b = arrivals-stepping (own_step d) in
    let c = sessions-stepping (arrivals_step (own_step d)) in
    let e = own-stop-stepping (sessions_step (arrivals_step (own_step d))) in
    let f = control-stepping (own_stop_step (sessions_step (arrivals_step (own_step d)))) in
    let g = close-stepping (control_step (own_stop_step (sessions_step (arrivals_step (own_step d))))) in
    omega (arith, a, b, c, e, f, g)

-- a moment adds none
pub moment-keeps : (d : DriverNow) → pieces_kept (moment_now d) ≤ pieces_kept d
unfolding moment_now
moment-keeps d = by d.work.transport.is_open
  where
    by : (b : Bool) → pieces_kept (if b then work_of_moment d else without_datagrams false d) ≤ pieces_kept d
    by true = work-of-moment d
    by false = omega arith

-- ---- a piece

fed-moment : (o : Option FedNow) (d : DriverNow) → pieces_kept (work_after o d).driver ≤ pieces_kept d
fed-moment None d = omega arith
fed-moment (Some x) d = by x.is_final
  where
    by : (b : Bool) → pieces_kept (moment_if b d) ≤ pieces_kept d
    by true = moment-keeps d
    by false = omega arith

header-keeps : (id : ℕ) (piece : List ℕ) (d : DriverNow) → pieces_kept (header_part id piece d).driver ≤ pieces_kept d
unfolding header_part
header-keeps id [] d = omega arith
header-keeps id (byte ∷ bytes) d = let x = fed-moment (header_feed id (byte ∷ bytes) d) (header_fed id (byte ∷ bytes) d) in let y = same (is_bidirectional id) in omega (arith, x, y)
  where
    same : (b : Bool) → pieces_kept (if b then record d { bis = record d.bis { reading = fed_slots bi_rules id (byte ∷ bytes) d.bis.reading } } else record d { unis = record d.unis { reading = fed_slots uni_rules id (byte ∷ bytes) d.unis.reading } }) ≤ pieces_kept d
    same true = omega arith
    same false = omega arith

body-keeps : (id : ℕ) (piece : List ℕ) (d : DriverNow) → pieces_kept (body_part id piece d).driver ≤ pieces_kept d
unfolding body_part
body-keeps id piece d = by d.work.transport.is_open piece
  where
    by : (b : Bool) (bs : List ℕ) → pieces_kept (body_part_if b id bs d).driver ≤ pieces_kept d
    by false bs = omega arith
    by true [] = omega arith
    by true (byte ∷ bytes) = fed-moment (body_feed id (byte ∷ bytes) d.work.dispatched) (with_work (with_dispatched (body_fed id (byte ∷ bytes))) d)

rest-adds : (id : ℕ) (piece : List ℕ) (d : DriverNow) → pieces_kept (rest_part id piece d) ≤ pieces_kept d + 1
unfolding rest_part
rest-adds id [] d = omega arith
rest-adds id (byte ∷ bytes) d = by (bytes_fit_now d.work.transport id)
  where
    by : (b : Bool) → pieces_at (with_bytes_if b id (byte ∷ bytes) d.work.transport) ≤ pieces_kept d + 1
    by true = bytes-add-one d.work.transport id (byte ∷ bytes)
    by false = omega arith

piece-adds-one : (id : ℕ) (piece : List ℕ) (d : DriverNow) → pieces_kept (take_piece_now id piece d) ≤ pieces_kept d + 1
unfolding take_piece_now
piece-adds-one id piece d =
    let x = header_part id piece d in
    let y = body_part id (drop x.taken piece) x.driver in
    let a = header-keeps id piece d in
    let b = body-keeps id (drop x.taken piece) x.driver in
    let c = rest-adds id (drop y.taken (drop x.taken piece)) y.driver in
    omega (arith, a, b, c)

-- ---- a turn of the transport

queueing : (turn : Turn) (d : DriverNow) → pieces_kept (with_datagram_queued turn d) ≤ pieces_kept d
queueing (turns.Datagram piece) d = omega arith
queueing _ d = omega arith

open-adds : (turn : Turn) (d : DriverNow) → pieces_kept (open_turn turn d) ≤ pieces_kept d + pieces_in turn
open-adds (turns.Bytes id piece) d = piece-adds-one id piece d
open-adds turn d =
    let x = turn-adds d.work.transport turn in
    let y = queueing turn (with_turn turn d) in
    let z = moment-keeps (with_datagram_queued turn (with_turn turn d)) in
    omega (arith, x, y, z)

pub turn-kept : (turn : Turn) (d : DriverNow) → pieces_kept (turn_now turn d) ≤ pieces_kept d + pieces_in turn
unfolding turn_now
turn-kept turn d = by (fits_now d.work.transport turn) d.work.transport.is_open
  where
    by : (b c : Bool) → pieces_kept (if b then (if c then open_turn turn d else with_turn turn d) else d) ≤ pieces_kept d + pieces_in turn
    by false c = omega arith
    by true true = open-adds turn d
    by true false = turn-adds d.work.transport turn

-- ---- calls

response-keeps : (d : DriverNow) → pieces_kept (response_read d) ≤ pieces_kept d
unfolding response_read
response-keeps d = let x = response_slot d.work.transport.side d.response in reading response_rules x.id x.reader d.work.transport

pub response-kept : (d : DriverNow) → pieces_kept (response_read d) ≤ pieces_kept d
response-kept d = response-keeps d

over-keeps : (side : Side) (d : DriverNow) → pieces_kept (response_over side d) ≤ pieces_kept d
over-keeps Server d = omega arith
over-keeps Client d = response-keeps d

pub register-kept : (s : ℕ) (d : DriverNow) → pieces_kept (register_now s d) ≤ pieces_kept d
unfolding register_now
register-kept s d = by _
  where
    by : (b : Bool) → pieces_kept (if b then moment_now (on_sessions (establish_now s) (response_over d.work.transport.side d)) else d) ≤ pieces_kept d
    by true =
        let x = over-keeps d.work.transport.side d in
        let y = moment-keeps (on_sessions (establish_now s) (response_over d.work.transport.side d)) in
        omega (arith, x, y)
    by false = omega arith

pub end-session-kept : (s : ℕ) (d : DriverNow) → pieces_kept (end_session_now s d) ≤ pieces_kept d
unfolding end_session_now
end-session-kept s d = by _
  where
    by : (b : Bool) → pieces_kept (if b then with_work (finish_and_retire s Ended) d else d) ≤ pieces_kept d
    by true = finish-retiring s Ended d.work
    by false = omega arith

pub refuse-session-kept : (s : ℕ) (d : DriverNow) → pieces_kept (refuse_session_now s d) ≤ pieces_kept d
unfolding refuse_session_now
refuse-session-kept s d = by (awaits_answer_now s d.work.dispatched) d.work.transport.is_open
  where
    by : (b c : Bool) → pieces_kept (if b then with_work (refused_by c s) d else d) ≤ pieces_kept d
    by true true = retiring s Refused d.work
    by true false = omega arith
    by false c = omega arith

pub close-kept : (code : ℕ) (reason : List ℕ) (d : DriverNow) → pieces_kept (close_now code reason d) ≤ pieces_kept d
unfolding close_now
close-kept code reason d = close-keeps d.work.transport code reason
