use Rattle.std.proofs.Common.{rules}
use Rattle.wt_driver_laws.proofs.PieceLaws.{finish_pieces}
use Rattle.wt_driver_laws.proofs.WriteFinish.{finish_stream_law}
use Rattle.wt_driver.proofs.Steps.{if-ok-both, ok-then}
use Rattle.wt_driver.proofs.session_stream.finish.Goals as goal

pub returns-then-can_send-clause-answer : goal.returns-then-can_send-clause-answer
returns-then-can_send-clause-answer c = search rules

pub returns-then-can_send-clause-driver : goal.returns-then-can_send-clause-driver
returns-then-can_send-clause-driver c = search rules

pub returns-then-can_send-clause-finishes : goal.returns-then-can_send-clause-finishes
returns-then-can_send-clause-finishes c = if-ok-both c.finish.result (λ a q e. finish_stream_law c.args.stream.now.halves.0.id a c.args.d.now _ q e) (returns-then-can_send-clause-answer c) (returns-then-can_send-clause-driver c)

pub returns-then-can_send-clause-pieces : goal.returns-then-can_send-clause-pieces
returns-then-can_send-clause-pieces c = ok-then c.finish.result (λ e. finish_pieces c.args.stream.now.halves.0.id c.args.d.now _ e) (returns-then-can_send-clause-driver c)

pub returns-clause-answer : goal.returns-clause-answer
returns-clause-answer c = search rules

pub returns-clause-driver : goal.returns-clause-driver
returns-clause-driver c = search rules

pub returns-clause-finishes : goal.returns-clause-finishes
returns-clause-finishes c = finish_stream_law c.args.stream.now.halves.0.id _ c.args.d.now _ (returns-clause-answer c) (returns-clause-driver c)

pub returns-clause-pieces : goal.returns-clause-pieces
returns-clause-pieces c = finish_pieces c.args.stream.now.halves.0.id c.args.d.now _ (returns-clause-driver c)
