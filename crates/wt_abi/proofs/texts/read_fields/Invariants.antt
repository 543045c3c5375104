use Rattle.std.proofs.Common.{◌≡◌}
use Rattle.wt_abi.specs.Texts.{fields_from, fields_of}
use Rattle.wt_abi.proofs.texts.read_fields.Given as goal

abbrev pub invariant-loop-left : goal.invariant-loop-left
invariant-loop-left l = fields_from l.left l.fields l.rest ≡ fields_of l.fn.count l.fn.bytes

abbrev pub decreases-loop-left : goal.decreases-loop-left
decreases-loop-left l = l.left
