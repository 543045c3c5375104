use Rattle.std.proofs.Common.{rules}
use Rattle.wt_driver_laws.proofs.PieceLaws.{dial_pieces}
use Rattle.wt_driver_laws.proofs.TurnLaws.{dial_law}
use Rattle.wt_driver.proofs.Steps.{ok-then}
use Rattle.wt_driver.proofs.driver.Driver.dial.Goals as goal

pub returns-clause-driver : goal.returns-clause-driver
returns-clause-driver c = search rules

pub returns-clause-log : goal.returns-clause-log
returns-clause-log c = ok-then c.dial.result (λ e. dial_law _ _ _ _ e) (returns-clause-driver c)

pub returns-clause-pieces : goal.returns-clause-pieces
returns-clause-pieces c = ok-then c.dial.result (λ e. dial_pieces c.args.address c.args.name c.args.self.now _ e) (returns-clause-driver c)
