use Rattle.std.proofs.Common.{rules}
use Rattle.wt_driver_laws.proofs.HalfSends.{set_priority_law}
use Rattle.wt_driver_laws.proofs.PieceLaws.{set_priority_pieces}
use Rattle.wt_driver.proofs.halves.SendStream.set_priority.Goals as goal

pub returns-clause-driver : goal.returns-clause-driver
returns-clause-driver c = search rules

pub returns-clause-does : goal.returns-clause-does
returns-clause-does c = set_priority_law c.args.self.now c.args.priority _ c.args.d.now _ (returns-clause-driver c)

pub returns-clause-pieces : goal.returns-clause-pieces
returns-clause-pieces c = set_priority_pieces c.args.self.now c.args.priority c.args.d.now _ (returns-clause-driver c)
