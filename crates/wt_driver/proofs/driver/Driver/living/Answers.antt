use Rattle.std.proofs.Common.{rules}
use Rattle.wt_driver_laws.proofs.QuestionLaws.{living_law}
use Rattle.wt_driver.proofs.driver.Driver.living.Goals as goal

pub returns-clause-now : goal.returns-clause-now
returns-clause-now c = search rules

pub returns-clause-log : goal.returns-clause-log
returns-clause-log c = living_law _ _ (returns-clause-now c)
