-- The copies of a source (this repository's own).
use Rattle.std.specs.Prelude.{◌&&◌, ◌∷◌, Bool, List, [], true}
use Rattle.wt_relay.specs.declared.room.Member.{Member}
use Rattle.wt_relay.specs.declared.source.Copied.{Copied}
use Rattle.wt_relay.specs.Rooms.{is_across}

-- each of these copies is on another session of the member's room
abbrev pub are_across : Member → List Copied → Bool
are_across m [] = true
are_across m (c ∷ copies) = is_across m c.member && are_across m copies
