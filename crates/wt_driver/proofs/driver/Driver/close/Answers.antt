use Rattle.wt_driver_laws.proofs.PieceLaws.{close_pieces}
use Rattle.wt_driver_laws.proofs.TurnLaws.{close_law}
use Rattle.wt_driver.proofs.Parts.{closed-so}
use Rattle.wt_driver.proofs.Steps.{ok-then}
use Rattle.wt_driver.proofs.driver.Driver.close.Goals as goal

pub returns-clause-driver : goal.returns-clause-driver
returns-clause-driver c =
    ok-then c.close.result (λ e. closed-so c.self.view_is c.close.new.self c.new.result.items c.args.code c.args.reason e c.new.ensures.items) c.close.ensures.now

pub returns-clause-log : goal.returns-clause-log
returns-clause-log c = ok-then c.close.result (λ e. close_law c.args.code c.args.reason c.args.self.now _ e) (returns-clause-driver c)

pub returns-clause-pieces : goal.returns-clause-pieces
returns-clause-pieces c = ok-then c.close.result (λ e. close_pieces c.args.code c.args.reason c.args.self.now _ e) (returns-clause-driver c)
