-- The work of a moment, on what is kept: this end's control stream, then what came, in an order that is this repository's rule and up
-- to the first fault, which closes the connection with its code (RFC 9114, section 8).
use Rattle.std.specs.Prelude.{[], ◌==◌, ◌∷◌, Bool, List, None, Option, Some, drop, false, if◌then◌else◌, is_none, length, not, take, true, ℕ, ◌+◌}
use Rattle.wt_kept.specs.Arriving.{ScannedNow, arriving_after, scan_now}
use Rattle.wt_kept.specs.Classifying.{classify_now, with_dispatched}
use Rattle.wt_kept.specs.Kept.{DriverNow, OwnControlNow, WorkNow}
use Rattle.wt_kept.specs.Looking.{admit_each, check_qpack_now, fail_if_closed, is_own_stopped, read_control, read_sessions}
use Rattle.wt_kept.specs.Readers.{BiReading, UniReading, bi_rules, uni_rules}
use Rattle.wt_message.specs.FixedBytes.{local_control_bytes}
use Rattle.wt_turn.specs.Streams.{local_uni}
use Rattle.wt_transport.specs.State.{TransportState}
use Rattle.wt_transport.specs.Step.{after_close, after_opening, after_send, covered_now, may_send_now, opened_id_now}
use Rattle.wt_wire.specs.Codes.{code_of}
use Rattle.wt_wire.specs.declared.error.ErrorCode.{ErrorCode}

-- ---- this end's control stream

-- its whole head is out: SETTINGS are the first frame (RFC 9114, sections 3.2 and 6.2.1)
abbrev pub is_ready_now : OwnControlNow → Bool
is_ready_now c = c.sent == length local_control_bytes

-- this end's control stream, and the transport
pub record OwnFlushed : Type 0 where
  pub own : OwnControlNow
  pub transport : TransportState

-- it is opened as soon as it may, where it isn't open
abbrev pub own_opened : Option ℕ → OwnControlNow → TransportState → OwnFlushed
own_opened (Some k) c t = record { own = c; transport = t }
own_opened None c t = record { own = record c { stream = opened_id_now t (local_uni t.side) }; transport = after_opening t (local_uni t.side) }

-- its head goes out as far as credit goes
abbrev pub head_sent : Bool → ℕ → OwnControlNow → TransportState → OwnFlushed
head_sent false k c t = record { own = c; transport = t }
head_sent true k c t = record {
  own = record c { sent = c.sent + length (covered_now t k (drop c.sent local_control_bytes)) };
  transport = after_send t k (drop c.sent local_control_bytes);
}

-- the same, where it is open
abbrev pub own_sent : Option ℕ → OwnControlNow → TransportState → OwnFlushed
own_sent None c t = record { own = c; transport = t }
own_sent (Some k) c t = head_sent (may_send_now t k) k c t

-- it is opened and sends, until its whole head is out
abbrev pub own_flushed : OwnControlNow → TransportState → OwnFlushed
own_flushed c t =
    if is_ready_now c then record { own = c; transport = t } else (let x = own_opened c.stream c t in own_sent x.own.stream x.own x.transport)

-- ---- the steps

-- the driver with this work
abbrev pub with_work : (WorkNow → WorkNow) → DriverNow → DriverNow
with_work f d = record d { work = f d.work }

-- this end's control stream goes out
unfoldable pub own_step : DriverNow → DriverNow
own_step d = let x = own_flushed d.own_control d.work.transport in record d { own_control = x.own; work = record d.work { transport = x.transport } }

-- a scan left the unidirectional streams so
abbrev pub with_unis : ScannedNow UniReading → DriverNow → DriverNow
with_unis s d = record d { unis = arriving_after d.unis s; work = s.work }

-- and the bidirectional ones so
abbrev pub with_bis : ScannedNow BiReading → DriverNow → DriverNow
with_bis s d = record d { bis = arriving_after d.bis s; work = s.work }

-- the peer's unidirectional streams
unfoldable pub unis_step : DriverNow → DriverNow
unis_step d = with_unis (scan_now uni_rules classify_now d.unis d.work) d

-- its bidirectional streams
unfoldable pub bis_step : DriverNow → DriverNow
bis_step d = with_bis (scan_now bi_rules classify_now d.bis d.work) d

-- its datagrams: none is looked at twice
unfoldable pub datagrams_step : DriverNow → DriverNow
datagrams_step d = record (with_work (with_dispatched (admit_each d.datagrams)) d) { datagrams = [] }

-- what comes before SETTINGS of this end are out waits for that
unfoldable pub arrivals_step : DriverNow → DriverNow
arrivals_step d = if is_ready_now d.own_control then datagrams_step (bis_step (unis_step d)) else d

-- the streams of the sessions that live
unfoldable pub sessions_step : DriverNow → DriverNow
sessions_step d = with_work read_sessions d

-- a receiver must not ask for a control stream to be closed (RFC 9114, section 6.2.1)
unfoldable pub own_stop_step : DriverNow → DriverNow
own_stop_step d = with_work (with_dispatched (fail_if_closed (is_own_stopped d.own_control d.work.transport))) d

-- the peer's control stream, and its QPACK streams
unfoldable pub control_step : DriverNow → DriverNow
control_step d = with_work (λ w. check_qpack_now (read_control w)) d

-- the fault closes the connection
abbrev pub closed_with : Option ErrorCode → TransportState → TransportState
closed_with None t = t
closed_with (Some code) t = after_close t (code_of code) []

-- once the connection isn't open, no datagram is looked at any more
abbrev pub without_datagrams : Bool → DriverNow → DriverNow
without_datagrams true d = d
without_datagrams false d = record d { datagrams = [] }

-- a fault closes the connection
unfoldable pub close_step : DriverNow → DriverNow
close_step d =
    let t = closed_with d.work.dispatched.fault d.work.transport in
    without_datagrams t.is_open (with_work (λ w. record w { transport = t }) d)

-- the work of a moment of an open connection
unfoldable pub work_of_moment : DriverNow → DriverNow
work_of_moment d = close_step (control_step (own_stop_step (sessions_step (arrivals_step (own_step d)))))

-- the work of a moment
unfoldable pub moment_now : DriverNow → DriverNow
moment_now d = if d.work.transport.is_open then work_of_moment d else without_datagrams false d
