use Rattle.std.proofs.Common.{◌≡◌, [], take}
use Rattle.std.specs.Prelude.{All}
use Rattle.wt_cases.specs.Cases.{IsAnswered}
use Rattle.wt_cases.proofs.case.differing.Given as goal

abbrev pub invariant-loop-number : goal.invariant-loop-number
invariant-loop-number l = l.numbers.items ≡ [] → All IsAnswered (take l.number l.cases)
