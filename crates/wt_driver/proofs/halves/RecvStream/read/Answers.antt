use Rattle.std.proofs.Common.{length, rules}
use Rattle.wt_driver_laws.proofs.HalfReads.{read_size_law, read_law, read_within_law}
use Rattle.wt_driver_laws.proofs.PieceLaws.{read_pieces}
use Rattle.wt_driver.proofs.halves.RecvStream.read.Goals as goal

pub returns-clause-answer : goal.returns-clause-answer
returns-clause-answer c = search rules

pub returns-clause-bytes : goal.returns-clause-bytes
returns-clause-bytes c = search rules

pub returns-clause-driver : goal.returns-clause-driver
returns-clause-driver c = search rules

pub returns-clause-does : goal.returns-clause-does
returns-clause-does c = read_law c.args.self.now c.args.buffer.now _ _ c.args.d.now _ (returns-clause-answer c) (returns-clause-bytes c) (returns-clause-driver c)

pub returns-clause-size : goal.returns-clause-size
returns-clause-size c = read_size_law c.args.self.now c.args.buffer.now _ c.args.d.now.work.transport (returns-clause-bytes c)

pub returns-clause-within : goal.returns-clause-within
returns-clause-within c = read_within_law c.args.self.now c.args.buffer.now _ c.args.d.now.work.transport (returns-clause-answer c)

pub returns-clause-pieces : goal.returns-clause-pieces
returns-clause-pieces c = read_pieces c.args.self.now (length c.args.buffer.now) c.args.d.now _ (returns-clause-driver c)
