use Rattle.std.proofs.Common.{rules}
use Rattle.wt_driver_laws.proofs.PieceLaws.{init_pieces}
use Rattle.wt_driver_laws.proofs.TurnLaws.{init_law}
use Rattle.wt_driver.proofs.driver.Driver.init.Goals as goal

pub returns-clause-value : goal.returns-clause-value
returns-clause-value c = search rules

pub returns-clause-log : goal.returns-clause-log
returns-clause-log c = init_law c.args.side _ (returns-clause-value c)

pub returns-clause-pieces : goal.returns-clause-pieces
returns-clause-pieces c = init_pieces c.args.side _ (returns-clause-value c)
