use Rattle.std.proofs.Common.{rules}
use Rattle.wt_driver_laws.proofs.HalfSends.{finish_law}
use Rattle.wt_driver_laws.proofs.PieceLaws.{finish_pieces}
use Rattle.wt_driver.proofs.Steps.{if-ok-both, ok-then}
use Rattle.wt_driver.proofs.halves.SendStream.finish.Goals as goal

pub returns-clause-answer : goal.returns-clause-answer
returns-clause-answer c = search rules

pub returns-clause-driver : goal.returns-clause-driver
returns-clause-driver c = search rules

pub returns-clause-does : goal.returns-clause-does
returns-clause-does c = if-ok-both c.finish.result (λ a q e. finish_law c.args.self.now _ c.args.d.now _ q e) (returns-clause-answer c) (returns-clause-driver c)

pub returns-clause-pieces : goal.returns-clause-pieces
returns-clause-pieces c = ok-then c.finish.result (λ e. finish_pieces c.args.self.now c.args.d.now _ e) (returns-clause-driver c)
