use Rattle.std.proofs.Common.{rules}
use Rattle.wt_driver_laws.proofs.HalfReads.{unread_law}
use Rattle.wt_driver.proofs.driver.Driver.unread.Goals as goal

pub returns-clause-now : goal.returns-clause-now
returns-clause-now c = search rules

pub returns-clause-log : goal.returns-clause-log
returns-clause-log c = unread_law _ _ _ (returns-clause-now c)
