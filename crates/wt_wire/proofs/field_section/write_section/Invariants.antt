use Rattle.std.proofs.Common.{◌≡◌, ◌∷◌, take}
use Rattle.std.specs.List.{flat_map}
use Rattle.wt_wire.specs.FieldSection.{line_bytes}
use Rattle.wt_wire.proofs.field_section.write_section.Given as goal

abbrev pub invariant-loop-index : goal.invariant-loop-index
invariant-loop-index l = l.out.items ≡ 0 ∷ 0 ∷ flat_map line_bytes (take l.index l.list)
