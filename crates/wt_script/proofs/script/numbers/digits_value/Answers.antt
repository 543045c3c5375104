use Rattle.std.proofs.Common.{arith}
use Rattle.wt_script.proofs.NumberLaws.{too_large}
use Rattle.wt_script.proofs.script.numbers.digits_value.Goals as goal

pub returns-in-None : goal.returns-in-None
returns-in-None c =
    too_large c.args.word.now c.loop-byte.number c.loop-byte.byte-index (omega arith) c.loop-byte.invariant.joined c.in-None.ensures
