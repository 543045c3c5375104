use Rattle.std.proofs.Common.{rules}
use Rattle.wt_driver_laws.proofs.QuestionLaws.{fault_law}
use Rattle.wt_driver.proofs.driver.Driver.fault.Goals as goal

pub returns-clause-now : goal.returns-clause-now
returns-clause-now c = search rules

pub returns-clause-log : goal.returns-clause-log
returns-clause-log c = fault_law _ _ (returns-clause-now c)
