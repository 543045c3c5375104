-- The steps that the driver's parts count, against those that may still come.
use Rattle.std.proofs.Common.{◌*◌, ◌+◌, ◌≡◌, ◌≤◌, ◌∙◌, Err, List, Ok, OnOk, Option, Result, ap, arith, subst, true, ℕ}
use Rattle.wt_driver_laws.proofs.CountSteps.{bis_left, body_fed_left, close_left, control_left, datagrams_left, feed_one, header_fed_left, own_left, own_stop_left, sessions_left, unis_left}
use Rattle.wt_driver_laws.proofs.CountWithin.{event_steps}
use Rattle.wt_driver_laws.specs.Calling.{Always}
use Rattle.wt_kept.specs.Arriving.{scan_now}
use Rattle.wt_kept.specs.Calling.{with_datagram_queued}
use Rattle.wt_kept.specs.Classifying.{classify_now}
use Rattle.wt_kept.specs.Counting.{feed_steps, reads_left, scan_left, steps_left, work_left}
use Rattle.wt_kept.specs.Kept.{ArrivingNow, DispatchedNow, DriverNow, WorkNow}
use Rattle.wt_kept.specs.Looking.{check_qpack_now, read_control, read_sessions}
use Rattle.wt_kept.specs.Moment.{close_step, datagrams_step, own_step, own_stop_step}
use Rattle.wt_kept.specs.Pieces.{FedNow, body_fed, header_fed}
use Rattle.wt_kept.specs.Readers.{BiReading, UniReading, bi_rules, uni_rules}
use Rattle.wt_driver.proofs.Steps.{bis-so, control-so, sessions-so, unis-so}
use Rattle.wt_transport.specs.State.{TransportState}
use Rattle.wt_transport.specs.Step.{after_turn, fits_now}
use Rattle.wt_transport.specs.StreamState.{piece_count}
use Rattle.wt_peer_streams.specs.Scanning.{scanned}
use Rattle.wt_turn.specs.declared.turn.Turn.{Turn}
use Rattle.wt_turn.specs.declared.turn.Turn.TheVariants as turns

pub ok-both : {T E P Q R : Type 0} (r : Result T E) → (P → Q → R) → OnOk r P → OnOk r Q → OnOk r R
ok-both (Ok x) f p q = f p q
ok-both (Err e) f p q = p

-- ---- a moment

pub unis-counted : {d now : DriverNow} → d ≡ now → (a : ArrivingNow UniReading) (t : TransportState) (e : DispatchedNow) → a.bidirectional ≡ d.unis.bidirectional → scanned a t e ≡ scan_now uni_rules classify_now d.unis d.work
    → (before after : ℕ) → after + scan_left a (record { transport = t; dispatched = e }) ≤ before + scan_left d.unis d.work → after + work_left (record d { unis = a; work = record { transport = t; dispatched = e } }) ≤ before + work_left now
unis-counted {d} {now} at a t e kind scan before after counted =
    unis_left now (record d { unis = a; work = record { transport = t; dispatched = e } }) before after (unis-so at a t e scan kind)
    (subst (λ (x : DriverNow). after + scan_left a (record { transport = t; dispatched = e }) ≤ before + scan_left x.unis x.work) at counted)

pub bis-counted : {d now : DriverNow} → d ≡ now → (a : ArrivingNow BiReading) (t : TransportState) (e : DispatchedNow) → a.bidirectional ≡ d.bis.bidirectional → scanned a t e ≡ scan_now bi_rules classify_now d.bis d.work
    → (before after : ℕ) → after + scan_left a (record { transport = t; dispatched = e }) ≤ before + scan_left d.bis d.work → after + work_left (record d { bis = a; work = record { transport = t; dispatched = e } }) ≤ before + work_left now
bis-counted {d} {now} at a t e kind scan before after counted =
    bis_left now (record d { bis = a; work = record { transport = t; dispatched = e } }) before after (bis-so at a t e scan kind)
    (subst (λ (x : DriverNow). after + scan_left a (record { transport = t; dispatched = e }) ≤ before + scan_left x.bis x.work) at counted)

pub arrivals-counted : (d a b c : DriverNow) (first us bs : ℕ) → us + work_left a ≤ first + work_left d → bs + work_left b ≤ us + work_left a → c ≡ datagrams_step b → bs + work_left c ≤ first + work_left d
arrivals-counted d a b c first us bs x y e = let z = datagrams_left b c e in omega (arith, x, y, z)

pub sessions-counted : {d now : DriverNow} → d ≡ now → (t : TransportState) (e : DispatchedNow) → ◌≡◌ {A = WorkNow} (record { transport = t; dispatched = e }) (read_sessions d.work)
    → (before after : ℕ) → after + reads_left (record { transport = t; dispatched = e }) ≤ before + reads_left d.work → after + work_left (record d { work = record { transport = t; dispatched = e } }) ≤ before + work_left now
sessions-counted {d} {now} at t e so before after counted =
    sessions_left now (record d { work = record { transport = t; dispatched = e } }) before after (sessions-so at t e so)
    (subst (λ (x : DriverNow). after + reads_left (record { transport = t; dispatched = e }) ≤ before + reads_left x.work) at counted)

pub control-counted : {d now : DriverNow} → d ≡ now → (t : TransportState) (e f : DispatchedNow) → ◌≡◌ {A = WorkNow} (record { transport = t; dispatched = e }) (read_control d.work)
    → ◌≡◌ {A = WorkNow} (record { transport = t; dispatched = f }) (check_qpack_now (record { transport = t; dispatched = e }))
    → (before after : ℕ) → after + reads_left (record { transport = t; dispatched = e }) ≤ before + reads_left d.work → after + work_left (record d { work = record { transport = t; dispatched = f } }) ≤ before + work_left now
control-counted {d} {now} at t e f reads checks before after counted =
    control_left now (record d { work = record { transport = t; dispatched = f } }) (record { transport = t; dispatched = e }) before after (control-so at t e f reads checks)
    (reads ∙ ap (λ (x : DriverNow). read_control x.work) at)
    (subst (λ (x : DriverNow). after + reads_left (record { transport = t; dispatched = e }) ≤ before + reads_left x.work) at counted)

pub work-counted : (d a b c e f g : DriverNow) (first arrived read controlled : ℕ) → a ≡ own_step d → arrived + work_left b ≤ first + work_left a → read + work_left c ≤ arrived + work_left b → e ≡ own_stop_step c
    → controlled + work_left f ≤ read + work_left e → g ≡ close_step f → controlled + work_left g ≤ first + work_left d
work-counted d a b c e f g first arrived read controlled own x y stop z close =
    let u = own_left d a own in
    let v = own_stop_left c e stop in
    let w = close_left f g close in
    omega (arith, u, v, w, x, y, z)

-- the connection has ended: no datagram is looked at any more
pub ended-counted : {d now : DriverNow} → d ≡ now → (xs : List (List ℕ)) (steps : ℕ) → steps + steps_left (record d { datagrams = xs }) ≤ steps + steps_left now
ended-counted at xs steps = let e = ap steps_left at in omega (arith, e)

-- ---- a piece

pub header-counted : (id : ℕ) (piece : List ℕ) (d fed later : DriverNow) (o : Option FedNow) (before between after : ℕ) → fed ≡ header_fed id piece d → between ≡ before + feed_steps o
    → after + steps_left later ≤ between + steps_left fed → after + steps_left later ≤ before + steps_left d + 1
header-counted id piece d fed later o before between after e one counted = let same = header_fed_left id piece d fed e in let most = feed_one o in omega (arith, same, most, one, counted)

pub body-counted : {d now : DriverNow} → d ≡ now → (id : ℕ) (piece : List ℕ) (x : DispatchedNow) (later : DriverNow) (o : Option FedNow) (before between after : ℕ) → x ≡ body_fed id piece d.work.dispatched → between ≡ before + feed_steps o
    → after + steps_left later ≤ between + steps_left (record d { work = record d.work { dispatched = x } }) → after + steps_left later ≤ before + steps_left now + 1
body-counted {d} at id piece x later o before between after e one counted =
    let same = body_fed_left id piece d (record d { work = record d.work { dispatched = x } }) (ap (λ (y : DispatchedNow). record d { work = record d.work { dispatched = y } }) e) in
    let view = ap steps_left at in
    let most = feed_one o in
    omega (arith, same, view, most, one, counted)

pub unfed-counted : {d now : DriverNow} → d ≡ now → (steps : ℕ) → steps + steps_left d ≤ steps + steps_left now + 1
unfed-counted at steps = let e = ap steps_left at in omega (arith, e)

pub piece-counted : (d a b : DriverNow) (first header body : ℕ) → header + steps_left a ≤ first + steps_left d + 1 → body + steps_left b ≤ header + steps_left a + 1 → body ≤ first + steps_left d + 2
piece-counted d a b first header body x y = omega (arith, x, y)

-- ---- a turn

pub turn-counted : {d now : DriverNow} → d ≡ now → (turn : Turn) (t : TransportState) (q : DriverNow) (before after : ℕ) → fits_now d.work.transport turn ≡ true → d.work.transport.is_open ≡ true
    → ((id : ℕ) (piece : List ℕ) → turn ≡ turns.Bytes id piece → ⊥) → t ≡ after_turn d.work.transport turn → q ≡ with_datagram_queued turn (record d { work = record d.work { transport = t } })
    → (left : ℕ) → after + left ≤ before + steps_left q → Always now (λ side log collected. after ≤ before + 2 * (piece_count now.work.transport.streams + 1))
turn-counted {d} {now} at turn t q before after fits open_ other took queued left counted =
    subst (λ (x : DriverNow). Always x (λ side log collected. after ≤ before + 2 * (piece_count x.work.transport.streams + 1))) at
    (event_steps turn d q before after open_ fits other (queued ∙ ap (λ (x : TransportState). with_datagram_queued turn (record d { work = record d.work { transport = x } })) took) (omega (arith, counted)))
