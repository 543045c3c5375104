use Rattle.std.proofs.Common.{rules}
use Rattle.wt_driver_laws.proofs.HalfSends.{write_all_law}
use Rattle.wt_driver_laws.proofs.PieceLaws.{write_pieces}
use Rattle.wt_driver.proofs.Steps.{if-ok-both, ok-then}
use Rattle.wt_driver.proofs.halves.SendStream.write_all.Goals as goal

pub returns-clause-answer : goal.returns-clause-answer
returns-clause-answer c = search rules

pub returns-clause-driver : goal.returns-clause-driver
returns-clause-driver c = search rules

pub returns-clause-does : goal.returns-clause-does
returns-clause-does c = if-ok-both c.write_all.result (λ a q e. write_all_law c.args.self.now c.args.bytes.now _ c.args.d.now _ q e) (returns-clause-answer c) (returns-clause-driver c)

pub returns-clause-pieces : goal.returns-clause-pieces
returns-clause-pieces c = ok-then c.write_all.result (λ e. write_pieces c.args.self.now c.args.bytes.now c.args.d.now _ e) (returns-clause-driver c)
