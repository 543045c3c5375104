-- What is written into the room that a caller gives.
use Rattle.std.specs.Prelude.{ℕ, List, ◌++◌, drop, length, nat_lt, if◌then◌else◌}
use Rattle.wt_ffi.specs.declared.FieldHead.{FieldHead}

-- the bytes in front of the room, where it has a place for each; else the room as it was
abbrev pub placed : List ℕ → List ℕ → List ℕ
placed bytes room = if nat_lt (length room) (length bytes) then room else bytes ++ drop (length bytes) room

-- how long a name and a value are
abbrev pub field_head : List ℕ × List ℕ → FieldHead
field_head f = record { name = length f.0; value = length f.1 }

-- a name, and then the value
abbrev pub field_bytes : List ℕ × List ℕ → List ℕ
field_bytes f = f.0 ++ f.1
