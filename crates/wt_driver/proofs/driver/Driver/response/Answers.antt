use Rattle.std.proofs.Common.{rules}
use Rattle.wt_driver_laws.proofs.PieceLaws.{response_pieces}
use Rattle.wt_driver_laws.proofs.ResponseLaws.{response_log_law, response_walk_law}
use Rattle.wt_driver.proofs.Steps.{if-ok-then, ok-then}
use Rattle.wt_driver.proofs.driver.Driver.response.Goals as goal

pub returns-clause-answer : goal.returns-clause-answer
returns-clause-answer c = search rules

pub returns-clause-driver : goal.returns-clause-driver
returns-clause-driver c = search rules

pub returns-clause-walk : goal.returns-clause-walk
returns-clause-walk c = if-ok-then c.response_counted.result (λ a q. response_walk_law _ c.args.self.now q) (returns-clause-answer c)

pub returns-clause-log : goal.returns-clause-log
returns-clause-log c = ok-then c.response_counted.result (λ e. response_log_law c.args.self.now _ e) (returns-clause-driver c)

pub returns-clause-pieces : goal.returns-clause-pieces
returns-clause-pieces c = ok-then c.response_counted.result (λ e. response_pieces c.args.self.now _ e) (returns-clause-driver c)
