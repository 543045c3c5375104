-- The steps of a driver, against those that may still come: what each step of a moment leaves, and each part of a piece. The code of the
-- driver cites these beside its equations.
use Rattle.std.proofs.Common.{◌+◌, ◌≡◌, ◌≤◌, ◌∙◌, ◌∷◌, Bool, List, None, Option, Some, [], ap, arith, false, map, refl, subst, sym, true, ℕ}
use Rattle.std.specs.Prelude.{◌&&◌, ◌-◌, ◌==◌, ◌||◌, if◌then◌else◌, is_none, is_some}
use Rattle.wt_driver_laws.proofs.CountLoses.{control-loses, each-loses, own-loses, scan-loses}
use Rattle.wt_kept.specs.Arriving.{ScannedNow, arrived_count, arriving_after, peer_kind, scan_now}
use Rattle.wt_kept.specs.Classifying.{classify_now, fail_with, with_dispatched}
use Rattle.wt_kept.specs.Counting.{feed_steps, header_pieces, reads_left, scan_left, slot_pieces, steps_left, unless_failed, unread_pieces, waiting_pieces, work_left}
use Rattle.wt_kept.specs.Kept.{ArrivingNow, DispatchedNow, DriverNow, LiveNow, WorkNow}
use Rattle.wt_kept.specs.Looking.{admit_each, admit_parsed, fail_if_closed, has_ended, is_own_stopped, read_control, read_control_by, read_each, read_sessions, unless_fault}
use Rattle.wt_kept.specs.Moment.{bis_step, close_step, closed_with, control_step, datagrams_step, own_flushed, own_step, own_stop_step, sessions_step, unis_step, without_datagrams}
use Rattle.wt_kept.specs.Pieces.{FedNow, body_fed, body_fed_by, control_slot, fed_slots, header_fed}
use Rattle.wt_kept.specs.Readers.{ControlReading, ReaderRules, Slot, bi_rules, fed_piece, uni_rules}
use Rattle.wt_kept.specs.Windows.{live_in}
use Rattle.wt_message.specs.Datagram.{datagram_of}
use Rattle.wt_kept.specs.Moment.{with_work}
use Rattle.wt_transport.specs.State.{TransportState}
use Rattle.wt_transport.specs.StreamState.{piece_count}
use Rattle.wt_peer_streams.proofs.Counts.{header-loses}
use Rattle.wt_peer_streams.proofs.Losing.{Loses}
use Rattle.wt_peer_streams.proofs.ScanLoop.{over}
use Rattle.wt_peer_streams.proofs.SessionsLoop.{each-over}
use Rattle.wt_proto.specs.declared.verdict.Verdict.{Verdict}
use Rattle.wt_wire.specs.Ids.{is_bidirectional}
use Rattle.wt_wire.specs.declared.error.ErrorCode.{ErrorCode}
use Rattle.wt_wire.specs.declared.error.ErrorCode.TheVariants as h3

-- ---- a fault

-- fewer may come, and none after a fault
failed-less : (o p : Option ErrorCode) (n m : ℕ) → (is_some o ≡ true → is_some p ≡ true) → m ≤ n → unless_failed p m ≤ unless_failed o n
failed-less None None n m stays le = le
failed-less None (Some code) n m stays le = omega arith
failed-less (Some code) None n m stays le = let x = stays refl in absurd (cc)
failed-less (Some code) (Some other) n m stays le = omega arith

-- one kind of headers was scanned, and of the other kind no more is unread
scan-by : (o p : Option ErrorCode) (own other all own_then other_then all_then before after : ℕ) → (is_some o ≡ true → is_some p ≡ true) → other_then ≤ other
    → after + unless_failed p (own_then + all_then) ≤ before + unless_failed o (own + all) → after + unless_failed p (own_then + (other_then + all_then)) ≤ before + unless_failed o (own + (other + all))
scan-by None None own other all own_then other_then all_then before after stays less le = omega (arith, less, le)
scan-by None (Some code) own other all own_then other_then all_then before after stays less le = omega (arith, le)
scan-by (Some code) None own other all own_then other_then all_then before after stays less le = let x = stays refl in absurd (cc)
scan-by (Some code) (Some next) own other all own_then other_then all_then before after stays less le = le

-- streams behind their headers were read, and of headers no more is unread
read-by : (o p : Option ErrorCode) (headers all headers_then all_then before after : ℕ) → (is_some o ≡ true → is_some p ≡ true) → headers_then ≤ headers → after + unless_failed p all_then ≤ before + unless_failed o all
    → after + unless_failed p (headers_then + all_then) ≤ before + unless_failed o (headers + all)
read-by None None headers all headers_then all_then before after stays less le = omega (arith, less, le)
read-by None (Some code) headers all headers_then all_then before after stays less le = omega (arith, le)
read-by (Some code) None headers all headers_then all_then before after stays less le = let x = stays refl in absurd (cc)
read-by (Some code) (Some next) headers all headers_then all_then before after stays less le = le

-- what changes nothing once a fault is there
stays-so : (f : WorkNow → WorkNow) (w : WorkNow) → ((code : ErrorCode) → w.dispatched.fault ≡ Some code → f w ≡ w) → is_some w.dispatched.fault ≡ true → is_some (f w).dispatched.fault ≡ true
stays-so f w same e = by w.dispatched.fault refl e
  where
    by : (o : Option ErrorCode) → w.dispatched.fault ≡ o → is_some o ≡ true → is_some (f w).dispatched.fault ≡ true
    by None is x = absurd (cc)
    by (Some code) is x = ap (λ (v : WorkNow). is_some v.dispatched.fault) (same code is) ∙ ap is_some is

unless-stays : {T : Type 0} (o : Option ErrorCode) (goes stops : T) → is_some o ≡ true → unless_fault o goes stops ≡ stops
unless-stays None goes stops e = absurd (cc)
unless-stays (Some code) goes stops e = refl

fail-stays : (b : Bool) (d : DispatchedNow) → is_some d.fault ≡ true → is_some (fail_if_closed b d).fault ≡ true
fail-stays b d e = by (b && is_none d.fault)
  where
    by : (c : Bool) → is_some (if c then fail_with h3.ClosedCriticalStream d else d).fault ≡ true
    by true = refl
    by false = e

each-stays : (pieces : List (List ℕ)) (d : DispatchedNow) → is_some d.fault ≡ true → is_some (admit_each pieces d).fault ≡ true
each-stays [] d e = e
each-stays (p ∷ later) d e = ap (λ (x : DispatchedNow). is_some x.fault) (unless-stays d.fault (admit_each later (admit_parsed (datagram_of p) d)) d e) ∙ e

-- ---- the steps of a moment

-- nothing is fed where the control stream goes out
pub own_left : (d later : DriverNow) → later ≡ own_step d → work_left later ≤ work_left d
unfolding own_step
own_left d later e = subst (λ (x : DriverNow). work_left x ≤ work_left d) (sym e)
    (let u = (own_flushed d.own_control d.work.transport).transport in
    let l = own-loses d.own_control d.work.transport in
    let x = header-loses d.work.transport u l d.unis in
    let y = header-loses d.work.transport u l d.bis in
    let z = l.lost 0 in
    let f = l.fewer 0 in
    failed-less d.work.dispatched.fault d.work.dispatched.fault _ _ (λ h. h) (omega (arith, x, y, z, f)))

scan-stays : {V : Type 0} (w : ReaderRules V Verdict) (a : ArrivingNow V) (r : WorkNow) → is_some r.dispatched.fault ≡ true → is_some (scan_now w classify_now a r).work.dispatched.fault ≡ true
scan-stays {V} w a r = stays-so (λ x. (scan_now w classify_now a x).work) r
    (λ code is. ap (λ (s : ScannedNow V). s.work) (over w (peer_kind r.transport.side a.bidirectional) 0 4 (arrived_count r.transport a - a.next) a.next a.reading r code is))

-- unidirectional streams were scanned
pub unis_left : (d later : DriverNow) (before after : ℕ) → later ≡ unis_step d → after + scan_left later.unis later.work ≤ before + scan_left d.unis d.work → after + work_left later ≤ before + work_left d
unfolding unis_step
unis_left d later before after e = subst (λ (x : DriverNow). after + scan_left x.unis x.work ≤ before + scan_left d.unis d.work → after + work_left x ≤ before + work_left d) (sym e)
    (let s = scan_now uni_rules classify_now d.unis d.work in
    scan-by d.work.dispatched.fault s.work.dispatched.fault (header_pieces d.work.transport d.unis) (header_pieces d.work.transport d.bis) (piece_count d.work.transport.streams)
    (header_pieces s.work.transport (arriving_after d.unis s)) (header_pieces s.work.transport d.bis) (piece_count s.work.transport.streams) before after
    (scan-stays uni_rules d.unis d.work) (header-loses d.work.transport s.work.transport (scan-loses uni_rules d.unis d.work) d.bis))

-- bidirectional ones
pub bis_left : (d later : DriverNow) (before after : ℕ) → later ≡ bis_step d → after + scan_left later.bis later.work ≤ before + scan_left d.bis d.work → after + work_left later ≤ before + work_left d
unfolding bis_step
bis_left d later before after e = subst (λ (x : DriverNow). after + scan_left x.bis x.work ≤ before + scan_left d.bis d.work → after + work_left x ≤ before + work_left d) (sym e)
    (let s = scan_now bi_rules classify_now d.bis d.work in
    read-by d.work.dispatched.fault s.work.dispatched.fault (header_pieces d.work.transport d.unis) (header_pieces d.work.transport d.bis + piece_count d.work.transport.streams)
    (header_pieces s.work.transport d.unis) (header_pieces s.work.transport (arriving_after d.bis s) + piece_count s.work.transport.streams) before after
    (scan-stays bi_rules d.bis d.work) (header-loses d.work.transport s.work.transport (scan-loses bi_rules d.bis d.work) d.unis))

-- datagrams feed no reader
pub datagrams_left : (d later : DriverNow) → later ≡ datagrams_step d → work_left later ≤ work_left d
unfolding datagrams_step
datagrams_left d later e = subst (λ (x : DriverNow). work_left x ≤ work_left d) (sym e)
    (failed-less d.work.dispatched.fault (admit_each d.datagrams d.work.dispatched).fault _ _ (each-stays d.datagrams d.work.dispatched) (omega arith))

-- what was read on behind headers
behind-left : (d : DriverNow) (w : WorkNow) (before after : ℕ) → Loses d.work.transport w.transport → (is_some d.work.dispatched.fault ≡ true → is_some w.dispatched.fault ≡ true)
    → after + reads_left w ≤ before + reads_left d.work → after + work_left (record d { work = w }) ≤ before + work_left d
behind-left d w before after l stays counted =
    read-by d.work.dispatched.fault w.dispatched.fault (header_pieces d.work.transport d.unis) (header_pieces d.work.transport d.bis + piece_count d.work.transport.streams)
    (header_pieces w.transport d.unis) (header_pieces w.transport d.bis + piece_count w.transport.streams) before after stays (header-loses d.work.transport w.transport l d.unis)
    (read-by d.work.dispatched.fault w.dispatched.fault (header_pieces d.work.transport d.bis) (piece_count d.work.transport.streams) (header_pieces w.transport d.bis) (piece_count w.transport.streams) before after stays
    (header-loses d.work.transport w.transport l d.bis) counted)

-- the sessions' streams were read
pub sessions_left : (d later : DriverNow) (before after : ℕ) → later ≡ sessions_step d → after + reads_left later.work ≤ before + reads_left d.work → after + work_left later ≤ before + work_left d
unfolding sessions_step
sessions_left d later before after e = subst (λ (x : DriverNow). after + reads_left x.work ≤ before + reads_left d.work → after + work_left x ≤ before + work_left d) (sym e)
    (let ids = map (λ (x : LiveNow). x.id) d.work.dispatched.sessions.living in
    behind-left d (read_sessions d.work) before after (each-loses ids d.work) (stays-so (λ w. read_each ids w) d.work (λ code is. each-over ids d.work code is)))

-- nothing is fed where the peer stopped this end's control stream
pub own_stop_left : (d later : DriverNow) → later ≡ own_stop_step d → work_left later ≤ work_left d
unfolding own_stop_step
own_stop_left d later e = subst (λ (x : DriverNow). work_left x ≤ work_left d) (sym e)
    (let closed = is_own_stopped d.own_control d.work.transport in
    failed-less d.work.dispatched.fault (fail_if_closed closed d.work.dispatched).fault _ _ (fail-stays closed d.work.dispatched) (omega arith))

-- the control stream was read, and w is what that left; then the QPACK streams were looked at
pub control_left : (d later : DriverNow) (w : WorkNow) (before after : ℕ) → later ≡ control_step d → w ≡ read_control d.work → after + reads_left w ≤ before + reads_left d.work → after + work_left later ≤ before + work_left d
unfolding control_step
control_left d later w before after e is counted = subst (λ (x : DriverNow). after + work_left x ≤ before + work_left d) (sym e)
    (let r = read_control d.work in
    let ended = has_ended r.dispatched.critical.encoder r.transport || has_ended r.dispatched.critical.decoder r.transport in
    let a = behind-left d r before after (control-loses d.work.dispatched.fault d.work)
    (λ h. ap (λ (v : WorkNow). is_some v.dispatched.fault) (unless-stays d.work.dispatched.fault (read_control_by d.work.dispatched.critical.control d.work) d.work h) ∙ h)
    (subst (λ (v : WorkNow). after + reads_left v ≤ before + reads_left d.work) is counted) in
    let most = header_pieces r.transport d.unis + (header_pieces r.transport d.bis + piece_count r.transport.streams) in
    let b = failed-less r.dispatched.fault (fail_if_closed ended r.dispatched).fault most most (fail-stays ended r.dispatched) (omega arith) in
    omega (arith, a, b))

-- a fault closes the connection, after which nothing is counted
closed-same : (d : DriverNow) (b : Bool) → work_left (without_datagrams b (with_work (λ w. record w { transport = closed_with d.work.dispatched.fault d.work.transport }) d)) ≤ work_left d
closed-same d b = both b (by d.work.dispatched.fault)
  where
    most : TransportState → ℕ
    most t = header_pieces t d.unis + (header_pieces t d.bis + piece_count t.streams)

    by : (o : Option ErrorCode) → unless_failed o (most (closed_with o d.work.transport)) ≤ unless_failed o (most d.work.transport)
    by None = omega arith
    by (Some code) = omega arith

    both : (c : Bool) → unless_failed d.work.dispatched.fault (most (closed_with d.work.dispatched.fault d.work.transport)) ≤ work_left d
        → work_left (without_datagrams c (with_work (λ w. record w { transport = closed_with d.work.dispatched.fault d.work.transport }) d)) ≤ work_left d
    both true le = le
    both false le = le

-- the fault closed the connection
pub close_left : (d later : DriverNow) → later ≡ close_step d → work_left later ≤ work_left d
unfolding close_step
close_left d later e = subst (λ (x : DriverNow). work_left x ≤ work_left d) (sym e) (closed-same d (closed_with d.work.dispatched.fault d.work.transport).is_open)

-- ---- a moment

at-most : (b : Bool) (n : ℕ) → (if b then n else 0) ≤ n
at-most true n = omega arith
at-most false n = omega arith

-- of an open connection, after which it may have ended
pub open_left : (d later : DriverNow) (before after : ℕ) → d.work.transport.is_open ≡ true → after + work_left later ≤ before + work_left d → after + steps_left later ≤ before + steps_left d
open_left d later before after open_ counted =
    let same = ap (λ b. if b then work_left d else 0) open_ in
    let less = at-most later.work.transport.is_open (work_left later) in
    omega (arith, counted, same, less)

-- ---- a piece

pub feed_one : (o : Option FedNow) → feed_steps o ≤ 1
feed_one None = omega arith
feed_one (Some x) = omega arith

slots-fed : {V O : Type 0} (w : ReaderRules V O) (t : TransportState) (id : ℕ) (piece : List ℕ) (xs : List (Slot V)) → slot_pieces t (fed_slots w id piece xs) ≡ slot_pieces t xs
slots-fed w t id piece [] = refl
slots-fed {V} w t id piece (x ∷ xs) = by (x.id == id) (slots-fed w t id piece xs)
  where
    by : (b : Bool) → slot_pieces t (fed_slots w id piece xs) ≡ slot_pieces t xs → slot_pieces t (if b then record x { reader = fed_piece w x.reader piece } ∷ xs else x ∷ fed_slots w id piece xs) ≡ unread_pieces t x.id + slot_pieces t xs
    by true e = refl
    by false e = ap (λ n. unread_pieces t x.id + n) e

-- a header's reader was fed: as much may come as before
pub header_fed_left : (id : ℕ) (piece : List ℕ) (d later : DriverNow) → later ≡ header_fed id piece d → steps_left later ≡ steps_left d
header_fed_left id piece d later e = ap steps_left e ∙ by (is_bidirectional id)
  where
    by : (b : Bool) → steps_left (if b then record d { bis = record d.bis { reading = fed_slots bi_rules id piece d.bis.reading } } else record d { unis = record d.unis { reading = fed_slots uni_rules id piece d.unis.reading } }) ≡ steps_left d
    by true = with-bis (slots-fed bi_rules d.work.transport id piece d.bis.reading)
      where
        with-bis : slot_pieces d.work.transport (fed_slots bi_rules id piece d.bis.reading) ≡ slot_pieces d.work.transport d.bis.reading → steps_left (record d { bis = record d.bis { reading = fed_slots bi_rules id piece d.bis.reading } }) ≡ steps_left d
        with-bis same = ap (λ n. if d.work.transport.is_open then unless_failed d.work.dispatched.fault (header_pieces d.work.transport d.unis + ((n + waiting_bis) + piece_count d.work.transport.streams)) else 0) same
          where
            waiting_bis : ℕ
            waiting_bis = waiting_pieces d.work.transport (peer_kind d.work.transport.side d.bis.bidirectional) d.bis.next (arrived_count d.work.transport d.bis - d.bis.next)
    by false = with-unis (slots-fed uni_rules d.work.transport id piece d.unis.reading)
      where
        with-unis : slot_pieces d.work.transport (fed_slots uni_rules id piece d.unis.reading) ≡ slot_pieces d.work.transport d.unis.reading → steps_left (record d { unis = record d.unis { reading = fed_slots uni_rules id piece d.unis.reading } }) ≡ steps_left d
        with-unis same = ap (λ n. if d.work.transport.is_open then unless_failed d.work.dispatched.fault ((n + waiting_unis) + (header_pieces d.work.transport d.bis + piece_count d.work.transport.streams)) else 0) same
          where
            waiting_unis : ℕ
            waiting_unis = waiting_pieces d.work.transport (peer_kind d.work.transport.side d.unis.bidirectional) d.unis.next (arrived_count d.work.transport d.unis - d.unis.next)

-- the reader of a session's stream, or of the control stream
pub body_fed_left : (id : ℕ) (piece : List ℕ) (d later : DriverNow) → later ≡ with_work (with_dispatched (body_fed id piece)) d → steps_left later ≡ steps_left d
body_fed_left id piece d later e = ap steps_left e ∙ by (control_slot id d.work.dispatched.critical.control) (live_in d.work.dispatched.sessions id)
  where
    by : (c : Option (Slot ControlReading)) (o : Option LiveNow) → steps_left (with_work (with_dispatched (body_fed_by id piece c o)) d) ≡ steps_left d
    by (Some x) o = refl
    by None (Some x) = refl
    by None None = refl
