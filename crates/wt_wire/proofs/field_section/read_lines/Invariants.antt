use Rattle.std.proofs.Common.{◌≡◌, ◌≤◌, ◌-◌, length, drop}
use Rattle.wt_wire.specs.FieldSection.{field_lines_from}
use Rattle.wt_wire.proofs.field_section.read_lines.Given as goal

abbrev pub invariant-loop-offset : goal.invariant-loop-offset
invariant-loop-offset l = record {
  within : l.offset ≤ length l.bytes;
  passed : field_lines_from l.list 0 (drop l.offset l.bytes) ≡ field_lines_from l.fn.list 0 l.bytes;
}

abbrev pub decreases-loop-offset : goal.decreases-loop-offset
decreases-loop-offset l = length l.bytes - l.offset
