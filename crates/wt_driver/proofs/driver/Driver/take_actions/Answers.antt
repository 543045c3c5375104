use Rattle.std.proofs.Common.{rules}
use Rattle.wt_driver_laws.proofs.PieceLaws.{actions_pieces}
use Rattle.wt_driver_laws.proofs.TurnLaws.{actions_law, collected_law}
use Rattle.wt_driver.proofs.driver.Driver.take_actions.Goals as goal

pub returns-clause-actions : goal.returns-clause-actions
returns-clause-actions c = search rules

pub returns-clause-driver : goal.returns-clause-driver
returns-clause-driver c = search rules

pub returns-clause-log_actions : goal.returns-clause-log_actions
returns-clause-log_actions c = actions_law _ _ (returns-clause-actions c)

pub returns-clause-log : goal.returns-clause-log
returns-clause-log c = collected_law _ _ (returns-clause-driver c)

pub returns-clause-pieces : goal.returns-clause-pieces
returns-clause-pieces c = actions_pieces c.args.self.now _ (returns-clause-driver c)
