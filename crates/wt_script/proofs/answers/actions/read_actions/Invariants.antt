use Rattle.std.proofs.Common.{◌≡◌, [], length}
use Rattle.wt_script.specs.Answers.{actions_from}
use Rattle.wt_script.proofs.HeaderLaws.{left}
use Rattle.wt_script.proofs.answers.actions.read_actions.Given as goal

abbrev pub invariant-loop-rest : goal.invariant-loop-rest
invariant-loop-rest l = actions_from l.actions (left l.rest) ≡ actions_from [] l.parts

abbrev pub decreases-loop-rest : goal.decreases-loop-rest
decreases-loop-rest l = length (left l.rest)
