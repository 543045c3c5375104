-- What holds of each source and its copies: the source's own invariants say so.
use Rattle.std.proofs.Common.{◌≡◌, ◌++◌, ◌∷◌, List, [], true}
use Rattle.wt_relay.specs.declared.kept.Kept.{Kept}
use Rattle.wt_relay.specs.declared.room.Member.{Member}
use Rattle.wt_relay.specs.declared.source.Copied.{Copied}
use Rattle.wt_relay.specs.declared.source.Source.{Source}
use Rattle.wt_endpoint.proofs.Apart.{and-left, and-right}
use Rattle.wt_relay.specs.Copies.{are_across}
use Rattle.wt_relay.specs.Little.{CopiesStayInRooms, LittleIsKept, Place, copies_kept, copies_of, copies_with, pieces_kept, pieces_of, place_of}
use Rattle.wt_relay.specs.Rooms.{is_across}

are-little : (sources : List Source) → LittleIsKept (pieces_of sources)
are-little [] = tt
are-little (source ∷ sources) = (source.little, are-little sources)

pub little_is_kept : (kept : Kept) → LittleIsKept (pieces_kept kept)
little_is_kept kept = are-little kept.sources.items

stay-with : (m : Member) (copies : List Copied) (more : List (Place × Place)) → are_across m copies ≡ true → CopiesStayInRooms more → CopiesStayInRooms (copies_with (place_of m) copies ++ more)
stay-with m [] more e h = h
stay-with m (c ∷ copies) more e h =
    (and-left (is_across m c.member) (are_across m copies) e, stay-with m copies more (and-right (is_across m c.member) (are_across m copies) e) h)

stay : (sources : List Source) → CopiesStayInRooms (copies_of sources)
stay [] = tt
stay (source ∷ sources) = stay-with source.member source.copies.items (copies_of sources) source.across (stay sources)

pub copies_stay_in_rooms : (kept : Kept) → CopiesStayInRooms (copies_kept kept)
copies_stay_in_rooms kept = stay kept.sources.items
