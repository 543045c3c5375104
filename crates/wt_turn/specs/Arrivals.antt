-- Which turn of the transport may come next, and what it adds to the log. Turns after the end are judged as if they
-- counted, and then change nothing else.
use Rattle.std.specs.Prelude.{ℕ, ◌^◌, List, [], ◌∷◌, Bool, true, false, nat_lt, Option, None, Some, is_some, ◌&&◌, not}
use Rattle.wt_wire.specs.declared.side.Side.{Side}
use Rattle.wt_wire.specs.declared.side.Side.TheVariants.{Client, Server}
use Rattle.wt_turn.specs.declared.turn.Turn.{Turn}
use Rattle.wt_turn.specs.declared.turn.Turn.TheVariants as turns
use Rattle.wt_turn.specs.Log.{Event, Entry, Received, Reported, ReportedLate, Log, all_events_of, actions_of, is_open}
use Rattle.wt_turn.specs.Turns.{event_of}
use Rattle.wt_turn.specs.Reports.{end_of, stop_of, is_acknowledged, credit, is_connected, unis_allowed, bis_allowed, loss_of, is_running}
use Rattle.wt_turn.specs.Sent.{is_finished, is_reset, has_dialled}
use Rattle.wt_turn.specs.Streams.{peer_uni, peer_bi, stream_count, can_receive, can_send}

-- ---- which turn may come

-- a server's connection may begin at any time, a client's once it dialled
abbrev pub may_begin : Side → Log → Bool
may_begin Server log = true
may_begin Client log = has_dialled (actions_of log)

-- a server can lose only what was established, a client what it dialled
abbrev pub may_be_lost : Side → Log → Bool
may_be_lost Server log = is_connected (all_events_of log)
may_be_lost Client log = has_dialled (actions_of log)

-- bytes, the end or a reset may come for a receiving half that hasn't ended (RFC 9000, section 3.2)
abbrev pub may_receive : Side → Log → ℕ → Bool
may_receive side log k = is_connected (all_events_of log) && can_receive side log k && is_running (end_of (all_events_of log) k)

-- Lawful but for a loss before it: at most 2^60 streams of a kind, and credit of at most 2^62 - 1 bytes, which never
-- falls (RFC 9000, sections 4.1, 4.6 and 16).
abbrev pub may_come : Side → Log → Turn → Bool
may_come side log (turns.Connected uni bi total datagrams) =
    may_begin side log && not (is_connected (all_events_of log)) && not (nat_lt (2 ^ 60) uni) && not (nat_lt (2 ^ 60) bi) && nat_lt total (2 ^ 62)
may_come side log turns.PeerUni = is_connected (all_events_of log) && nat_lt (stream_count side log (peer_uni side)) (2 ^ 60)
may_come side log turns.PeerBi = is_connected (all_events_of log) && nat_lt (stream_count side log (peer_bi side)) (2 ^ 60)
may_come side log (turns.Bytes id piece) = may_receive side log id
may_come side log (turns.End id) = may_receive side log id
may_come side log (turns.Reset id code) = may_receive side log id
may_come side log (turns.Stop id code) =
    is_connected (all_events_of log) && can_send side log id && not (is_some (stop_of (all_events_of log) id))
    && not (is_acknowledged (all_events_of log) id)
may_come side log (turns.Acked id) =
    is_connected (all_events_of log) && is_finished (actions_of log) id && not (is_reset log id)
    && not (is_some (stop_of (all_events_of log) id)) && not (is_acknowledged (all_events_of log) id)
may_come side log (turns.Datagram piece) = is_connected (all_events_of log)
may_come side log (turns.MaxUni total) = is_connected (all_events_of log) && not (nat_lt total (unis_allowed (all_events_of log)))
    && not (nat_lt (2 ^ 60) total)
may_come side log (turns.MaxBi total) = is_connected (all_events_of log) && not (nat_lt total (bis_allowed (all_events_of log)))
    && not (nat_lt (2 ^ 60) total)
may_come side log (turns.MaxData id total) =
    is_connected (all_events_of log) && can_send side log id && not (nat_lt total (credit (all_events_of log) id)) && nat_lt total (2 ^ 62)
may_come side log (turns.DatagramLimit fact) = is_connected (all_events_of log)
may_come side log (turns.Loss reason) = may_be_lost side log
may_come side log (turns.Call call) = false

-- the turn of the transport is lawful: nothing comes after a loss
abbrev pub fits : Side → Log → Turn → Bool
fits side log turn = may_come side log turn && not (is_some (loss_of (all_events_of log)))

-- ---- what it adds

-- what an event is to the log, while the connection is open and after its end
abbrev pub event_entry : Bool → Event → Entry
event_entry true e = Reported e
event_entry false e = ReportedLate e

-- the log after an event: it counts where the connection is open
abbrev pub log_event : Log → Event → Log
log_event log e = event_entry (is_open log) e ∷ log

-- these bytes came for a stream, each of them an entry
abbrev pub log_bytes : Log → ℕ → List ℕ → Log
log_bytes log id [] = log
log_bytes log id (byte ∷ later) = log_bytes (Received id byte ∷ log) id later

-- bytes that come after the end of the connection are left out
abbrev pub log_bytes_if : Bool → Log → ℕ → List ℕ → Log
log_bytes_if true log id piece = log_bytes log id piece
log_bytes_if false log id piece = log

-- the log after what a turn reports, if it is an event
abbrev pub log_reported : Log → Option Event → Log
log_reported log (Some e) = log_event log e
log_reported log None = log

-- the log after a turn of the transport: its event, or its bytes, which are left out once the connection has ended
abbrev pub log_turn : Log → Turn → Log
log_turn log (turns.Bytes id piece) = log_bytes_if (is_open log) log id piece
log_turn log turn = log_reported log (event_of turn)
