use Rattle.std.proofs.Common.{◌≡◌, drop}
use Rattle.wt_wire.specs.HeaderList.{value_of}
use Rattle.wt_wire.proofs.header_list.value_at.Given as goal

abbrev pub invariant-loop-field : goal.invariant-loop-field
invariant-loop-field l = value_of l.name l.fields ≡ value_of l.name (drop l.field-index l.fields)
