use Rattle.std.proofs.Common.{rules}
use Rattle.wt_driver_laws.proofs.HalfSends.{reset_law}
use Rattle.wt_driver_laws.proofs.PieceLaws.{reset_pieces}
use Rattle.wt_driver.proofs.Steps.{if-ok-both, ok-then}
use Rattle.wt_driver.proofs.halves.SendStream.reset.Goals as goal

pub returns-clause-answer : goal.returns-clause-answer
returns-clause-answer c = search rules

pub returns-clause-driver : goal.returns-clause-driver
returns-clause-driver c = search rules

pub returns-clause-does : goal.returns-clause-does
returns-clause-does c = if-ok-both c.reset.result (λ a q e. reset_law c.args.self.now c.args.code _ c.args.d.now _ q e) (returns-clause-answer c) (returns-clause-driver c)

pub returns-clause-pieces : goal.returns-clause-pieces
returns-clause-pieces c = ok-then c.reset.result (λ e. reset_pieces c.args.self.now c.args.code c.args.d.now _ e) (returns-clause-driver c)
