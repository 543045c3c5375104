-- What the check keeps for all rules, as the code asks for it.
use Rattle.std.specs.Prelude.{◌<◌, ◌/◌, ◌^◌, Bool, List, None, Option, Some, drop, false, if◌then◌else◌, length, min, nat_lt, true, ℕ}
use Rattle.wt_turn.specs.declared.turn.Turn.{Turn}
use Rattle.wt_turn.specs.declared.turn.Turn.TheVariants as turns
use Rattle.wt_wire.specs.Ids.{is_bidirectional, is_local}
use Rattle.wt_wire.specs.declared.side.Side.{Side}
use Rattle.wt_wire.specs.declared.side.StreamEnd.{StreamEnd}
use Rattle.wt_wire.specs.declared.side.StreamEnd.TheVariants as ends

-- the peer opened the stream, by how many it opened of each kind
abbrev pub peer_has_now : Side → ℕ → ℕ → ℕ → Bool
peer_has_now side unis bis k = if is_local side k then false else (if is_bidirectional k then nat_lt (k / 4) bis else nat_lt (k / 4) unis)

-- the turn opens no stream of which there are too many
abbrev pub HasRoom : ℕ → ℕ → Turn → Type 0
HasRoom unis bis turns.PeerUni = unis < 2 ^ 60
HasRoom unis bis turns.PeerBi = bis < 2 ^ 60
HasRoom unis bis _ = Unit {0}

-- the bytes that the turn brings on a stream, where the connection is open, behind so many of a header
abbrev pub bytes_now : Bool → ℕ → Turn → Option (ℕ × List ℕ)
bytes_now true n (turns.Bytes id piece) = Some (id, drop (min n (length piece)) piece)
bytes_now _ _ _ = None

-- the end that it brings on a stream, where the connection is open
abbrev pub end_now : Bool → Turn → Option (ℕ × StreamEnd)
end_now true (turns.End id) = Some (id, ends.Fin)
end_now true (turns.Reset id code) = Some (id, ends.Reset code)
end_now _ _ = None
