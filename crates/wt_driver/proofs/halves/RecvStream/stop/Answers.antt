use Rattle.std.proofs.Common.{rules}
use Rattle.wt_driver_laws.proofs.HalfReads.{stop_law}
use Rattle.wt_driver_laws.proofs.PieceLaws.{stop_pieces}
use Rattle.wt_driver.proofs.Steps.{ok-if, ok-then}
use Rattle.wt_driver.proofs.halves.RecvStream.stop.Goals as goal

pub returns-clause-driver : goal.returns-clause-driver
returns-clause-driver c = search rules

pub returns-clause-does : goal.returns-clause-does
returns-clause-does c = ok-if c.stop.result (λ u e. stop_law c.args.self c.args.code u c.args.d.now _ e) (returns-clause-driver c)

pub returns-clause-pieces : goal.returns-clause-pieces
returns-clause-pieces c = ok-then c.stop.result (λ e. stop_pieces c.args.self c.args.code c.args.d.now _ e) (returns-clause-driver c)
