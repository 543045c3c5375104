-- Which entries may follow a log, as far as a driver is concerned; and one moment on what is kept, with what goes out.
use Rattle.std.specs.Prelude.{[], ◌%◌, ◌&&◌, ◌<◌, ◌==◌, ◌||◌, ◌∷◌, ◌≡◌, Bool, List, false, not, true, ℕ}
use Rattle.wt_turn.specs.Streams.{peer_bi, peer_uni}
use Rattle.wt_sessions.specs.Driver.{apply_if, call_view, is_moment, stream_table}
use Rattle.wt_sessions.specs.DriverState.{DriverState}
use Rattle.wt_sessions.specs.Scan.{is_unclassified}
use Rattle.wt_sessions.specs.Step.{after_entry, scan_state, step_actions}
use Rattle.wt_sessions.specs.StreamTable.{TransportView, was_established}
use Rattle.wt_turn.specs.Log.{CallRecord, Called, DatagramReceived, Entry, Log, RequestDelivered, RequestRejected, Sent, SessionEstablished, StreamAccepted}
use Rattle.wt_turn.specs.declared.action.Action.{Action}
use Rattle.wt_wire.specs.declared.side.Side.{Side}

-- ---- what may follow

-- the stream is one that the peer opens
abbrev pub is_peers : Side → ℕ → Bool
is_peers side k = k % 4 == peer_uni side || k % 4 == peer_bi side

-- the stream is this end's own, or has a verdict
abbrev pub is_known : Side → Log → ℕ → Bool
is_known side log k = not (is_peers side k) || not (is_unclassified (stream_table side log) k)

-- calls give known streams, requests and sessions, a session is established once, and a datagram was looked at before it is received
abbrev pub MayRecord : Side → Log → CallRecord → Type 0
MayRecord side log (StreamAccepted id session) = is_known side log id ≡ true
MayRecord side log (RequestDelivered id) = is_known side log id ≡ true
MayRecord side log (RequestRejected id) = is_known side log id ≡ true
MayRecord side log (SessionEstablished id offset) = (is_known side log id ≡ true) × (was_established (call_view log) id ≡ false)
MayRecord side log (DatagramReceived index) = index < (stream_table side log).progress.datagrams
MayRecord side log _ = Unit {0}

-- the entry may follow the log
abbrev pub MayFollow : Side → Log → Entry → Type 0
MayFollow side log (Called r) = MayRecord side log r
MayFollow side log _ = Unit {0}

-- each entry of a log might follow those before it
abbrev pub Fits : Side → Log → Type 0
Fits side [] = Unit {0}
Fits side (e ∷ log) = MayFollow side log e × Fits side log

-- ---- one moment on what is kept

-- after these actions went out, the first of them the oldest
abbrev pub state_with_actions : TransportView → List Action → DriverState → DriverState
state_with_actions t [] s = s
state_with_actions t (a ∷ later) s = state_with_actions t later (after_entry t (Sent a) s)

-- after what goes out at a moment
abbrev pub flush_state : TransportView → DriverState → DriverState
flush_state t s = state_with_actions t (step_actions t s) s

-- the entry is a moment, and the connection is open after it
abbrev pub scans : Entry → DriverState → Bool
scans e s = is_moment e && s.is_open

-- the steps of a moment and what goes out at it, where the test holds
abbrev pub scan_if : Bool → TransportView → DriverState → DriverState
scan_if b t s = apply_if b (λ u. flush_state t (scan_state t u)) s

-- what goes out at a moment, where the test holds
abbrev pub actions_if : Bool → TransportView → DriverState → List Action
actions_if true t s = step_actions t (scan_state t s)
actions_if false t s = []

-- the state after one more entry and its moment, by what the transport reported before it and up to it
abbrev pub moment_state : TransportView → TransportView → Entry → DriverState → DriverState
moment_state t u e s = scan_if (scans e (after_entry t e s)) u (after_entry t e s)

-- what goes out at it
abbrev pub moment_actions : TransportView → TransportView → Entry → DriverState → List Action
moment_actions t u e s = actions_if (scans e (after_entry t e s)) u (after_entry t e s)
