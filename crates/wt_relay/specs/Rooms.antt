-- Two sessions of one room (this repository's own).
use Rattle.std.specs.Prelude.{◌&&◌, ◌==◌, Bool, not}
use Rattle.wt_relay.specs.declared.room.Member.{Member}

-- the other is another session of the room
abbrev pub is_across : Member → Member → Bool
is_across m other = not (m.number == other.number && m.session == other.session) && (m.room == other.room)
