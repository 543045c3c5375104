-- What is kept of the sources and their copies (this repository's own).
use Rattle.std.specs.Prelude.{ℕ, ◌&&◌, ◌==◌, ◌++◌, ◌≡◌, ◌≤◌, ◌∷◌, Bool, List, [], length, not, true}
use Rattle.wt_relay.specs.declared.kept.Kept.{Kept}
use Rattle.wt_relay.specs.declared.room.Member.{Member}
use Rattle.wt_relay.specs.declared.source.Copied.{Copied}
use Rattle.wt_relay.specs.declared.source.Source.{Source}

-- a session: its connection's number, its id, and its room
pub record Place : Type 0 where
  pub number : ℕ
  pub session : ℕ
  pub room : ℕ

abbrev pub place_of : Member → Place
place_of m = record { number = m.number; session = m.session; room = m.room }

-- ---- pieces

-- the piece of each source that is kept, in the order of acceptance
abbrev pub pieces_of : List Source → List (List ℕ)
pieces_of [] = []
pieces_of (source ∷ sources) = source.piece ∷ pieces_of sources

abbrev pub pieces_kept : Kept → List (List ℕ)
pieces_kept kept = pieces_of kept.sources.items

-- At most 4,096 bytes are kept of each source.
abbrev pub LittleIsKept : List (List ℕ) → Type 0
LittleIsKept [] = Unit {0}
LittleIsKept (piece ∷ pieces) = (length piece ≤ 4096) × LittleIsKept pieces

-- ---- copies

-- the session of a source, before the session of each of these copies
abbrev pub copies_with : Place → List Copied → List (Place × Place)
copies_with place [] = []
copies_with place (c ∷ copies) = (place, place_of c.member) ∷ copies_with place copies

abbrev pub copies_of : List Source → List (Place × Place)
copies_of [] = []
copies_of (source ∷ sources) = copies_with (place_of source.member) source.copies.items ++ copies_of sources

abbrev pub copies_kept : Kept → List (Place × Place)
copies_kept kept = copies_of kept.sources.items

-- both are in one room, and are two sessions
abbrev pub share_room : Place → Place → Bool
share_room a b = not (a.number == b.number && a.session == b.session) && (a.room == b.room)

-- Each copy is on another session than its source, of the same room.
abbrev pub CopiesStayInRooms : List (Place × Place) → Type 0
CopiesStayInRooms [] = Unit {0}
CopiesStayInRooms (c ∷ copies) = (share_room c.0 c.1 ≡ true) × CopiesStayInRooms copies
