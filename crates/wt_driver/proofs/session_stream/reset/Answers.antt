use Rattle.std.proofs.Common.{rules}
use Rattle.wt_driver_laws.proofs.PieceLaws.{reset_pieces}
use Rattle.wt_driver.proofs.Steps.{ok-then}
use Rattle.wt_driver.proofs.session_stream.reset.Goals as goal

pub returns-then-can_send-clause-driver : goal.returns-then-can_send-clause-driver
returns-then-can_send-clause-driver c = search rules

pub returns-then-can_send-clause-pieces : goal.returns-then-can_send-clause-pieces
returns-then-can_send-clause-pieces c = ok-then c.reset.result (λ e. reset_pieces c.args.stream.now.halves.0.id c.args.code c.args.d.now _ e) (returns-then-can_send-clause-driver c)

pub returns-clause-driver : goal.returns-clause-driver
returns-clause-driver c = search rules

pub returns-clause-pieces : goal.returns-clause-pieces
returns-clause-pieces c = reset_pieces c.args.stream.now.halves.0.id c.args.code c.args.d.now _ (returns-clause-driver c)
