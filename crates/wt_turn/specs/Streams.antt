-- The streams of a connection: their kinds, how many there are, their halves, and the bytes that came for them.
use Rattle.std.specs.Prelude.{ℕ, ◌+◌, ◌/◌, ◌%◌, List, [], ◌∷◌, ◌++◌, Bool, true, false, nat_lt, ◌==◌, ◌&&◌, not, if◌then◌else◌}
use Rattle.wt_wire.specs.declared.side.Side.{Side}
use Rattle.wt_wire.specs.declared.side.Side.TheVariants.{Client, Server}
use Rattle.wt_turn.specs.declared.action.Action.{Action}
use Rattle.wt_turn.specs.declared.action.Action.TheVariants as actions
use Rattle.wt_turn.specs.Log.{Event, PeerUni, PeerBi, Entry, Received, Log, all_events_of, actions_of}

-- ---- kinds, by the low two bits of the id: 0 client bi, 1 server bi, 2 client uni, 3 server uni (RFC 9000, section 2.1)

-- the kind of the bidirectional streams that this end opens
abbrev pub local_bi : Side → ℕ
local_bi Client = 0
local_bi Server = 1

-- the kind of the unidirectional streams that this end opens
abbrev pub local_uni : Side → ℕ
local_uni Client = 2
local_uni Server = 3

-- the kind of the bidirectional streams that the peer opens
abbrev pub peer_bi : Side → ℕ
peer_bi Client = 1
peer_bi Server = 0

-- the kind of the unidirectional streams that the peer opens
abbrev pub peer_uni : Side → ℕ
peer_uni Client = 3
peer_uni Server = 2

-- ---- how many there are

-- with the event the peer opens a stream of this kind
abbrev pub peer_opens : Side → ℕ → Event → Bool
peer_opens side kind PeerUni = peer_uni side == kind
peer_opens side kind PeerBi = peer_bi side == kind
peer_opens side kind _ = false

-- with the action this end opens a stream of this kind
abbrev pub opens : ℕ → Action → Bool
opens kind (actions.Opened id) = id % 4 == kind
opens kind _ = false

-- one more where the test holds
abbrev pub one_more_if : Bool → ℕ → ℕ
one_more_if true n = n + 1
one_more_if false n = n

-- how many streams of a kind the peer opened
abbrev pub peer_count : Side → List Event → ℕ → ℕ
peer_count side [] kind = 0
peer_count side (e ∷ before) kind = one_more_if (peer_opens side kind e) (peer_count side before kind)

-- how many streams of a kind this end opened
abbrev pub local_count : List Action → ℕ → ℕ
local_count [] kind = 0
local_count (a ∷ before) kind = one_more_if (opens kind a) (local_count before kind)

-- how many streams of a kind there are
abbrev pub stream_count : Side → Log → ℕ → ℕ
stream_count side log kind = peer_count side (all_events_of log) kind + local_count (actions_of log) kind

-- the stream with this id was opened: the n-th of a kind, counted from 0, has the id 4 * n + kind
abbrev pub exists : Side → Log → ℕ → Bool
exists side log k = nat_lt (k / 4) (stream_count side log (k % 4))

-- the stream exists and has a receiving half: all have one but the unidirectional streams of this end
abbrev pub can_receive : Side → Log → ℕ → Bool
can_receive side log k = exists side log k && not (local_uni side == k % 4)

-- the stream exists and has a sending half: all have one but the unidirectional streams of the peer
abbrev pub can_send : Side → Log → ℕ → Bool
can_send side log k = exists side log k && not (peer_uni side == k % 4)

-- ---- what came for them

-- these bytes, and the one that the entry adds to this stream
abbrev pub with_byte : ℕ → Entry → List ℕ → List ℕ
with_byte k (Received id byte) before = if id == k then before ++ byte ∷ [] else before
with_byte k _ before = before

-- all bytes that came for a stream while the connection was open, joined
abbrev pub contents : Log → ℕ → List ℕ
contents [] k = []
contents (entry ∷ before) k = with_byte k entry (contents before k)
