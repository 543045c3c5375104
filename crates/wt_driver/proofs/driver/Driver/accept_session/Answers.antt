use Rattle.std.proofs.Common.{rules}
use Rattle.wt_driver_laws.proofs.PieceCalls.{request_pieces}
use Rattle.wt_driver_laws.proofs.RequestDelivered.{accept_session_law, accepted_fresh_law}
use Rattle.wt_driver.proofs.driver.Driver.accept_session.Goals as goal

pub returns-in-Some-clause-answer : goal.returns-in-Some-clause-answer
returns-in-Some-clause-answer c = search rules

pub returns-in-Some-clause-driver : goal.returns-in-Some-clause-driver
returns-in-Some-clause-driver c = search rules

pub returns-in-Some-clause-delivers : goal.returns-in-Some-clause-delivers
returns-in-Some-clause-delivers c = accept_session_law _ c.args.self.now _ (returns-in-Some-clause-answer c) (returns-in-Some-clause-driver c)

pub returns-in-Some-clause-fresh : goal.returns-in-Some-clause-fresh
returns-in-Some-clause-fresh c = accepted_fresh_law _ c.args.self.now (returns-in-Some-clause-answer c)

pub returns-in-Some-clause-pieces : goal.returns-in-Some-clause-pieces
returns-in-Some-clause-pieces c = request_pieces c.args.self.now _ (returns-in-Some-clause-driver c)

pub returns-in-None-clause-answer : goal.returns-in-None-clause-answer
returns-in-None-clause-answer c = search rules

pub returns-in-None-clause-driver : goal.returns-in-None-clause-driver
returns-in-None-clause-driver c = search rules

pub returns-in-None-clause-delivers : goal.returns-in-None-clause-delivers
returns-in-None-clause-delivers c = accept_session_law _ c.args.self.now _ (returns-in-None-clause-answer c) (returns-in-None-clause-driver c)

pub returns-in-None-clause-fresh : goal.returns-in-None-clause-fresh
returns-in-None-clause-fresh c = accepted_fresh_law _ c.args.self.now (returns-in-None-clause-answer c)

pub returns-in-None-clause-pieces : goal.returns-in-None-clause-pieces
returns-in-None-clause-pieces c = request_pieces c.args.self.now _ (returns-in-None-clause-driver c)
