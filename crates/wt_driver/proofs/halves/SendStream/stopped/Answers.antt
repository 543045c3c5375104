use Rattle.std.proofs.Common.{rules}
use Rattle.wt_driver_laws.proofs.HalfSends.{stopped_law}
use Rattle.wt_driver_laws.proofs.PieceLaws.{same_pieces}
use Rattle.wt_driver.proofs.halves.SendStream.stopped.Goals as goal

pub returns-clause-answer : goal.returns-clause-answer
returns-clause-answer c = search rules

pub returns-clause-driver : goal.returns-clause-driver
returns-clause-driver c = search rules

pub returns-clause-does : goal.returns-clause-does
returns-clause-does c = stopped_law c.args.self.now _ c.args.d.now _ (returns-clause-answer c) (returns-clause-driver c)

pub returns-clause-pieces : goal.returns-clause-pieces
returns-clause-pieces c = same_pieces c.args.d.now _ (returns-clause-driver c)
