use Rattle.std.proofs.Common.{rules}
use Rattle.wt_driver_laws.proofs.PieceCalls.{reject_pieces}
use Rattle.wt_driver_laws.proofs.RejectSession.{reject_session_law}
use Rattle.wt_driver.proofs.Steps.{ok-then}
use Rattle.wt_driver.proofs.driver.Driver.reject_session.Goals as goal

pub returns-in-Some-clause-driver : goal.returns-in-Some-clause-driver
returns-in-Some-clause-driver c = search rules

pub returns-in-Some-clause-log : goal.returns-in-Some-clause-log
returns-in-Some-clause-log c = ok-then c.close-in-Some.result (λ e. reject_session_law c.args.session c.args.code c.args.self.now _ e) (returns-in-Some-clause-driver c)

pub returns-in-Some-clause-pieces : goal.returns-in-Some-clause-pieces
returns-in-Some-clause-pieces c = ok-then c.close-in-Some.result (λ e. reject_pieces c.args.session c.args.code c.args.self.now _ e) (returns-in-Some-clause-driver c)

pub returns-in-None-clause-driver : goal.returns-in-None-clause-driver
returns-in-None-clause-driver c = search rules

pub returns-in-None-clause-log : goal.returns-in-None-clause-log
returns-in-None-clause-log c = reject_session_law c.args.session c.args.code c.args.self.now _ (returns-in-None-clause-driver c)

pub returns-in-None-clause-pieces : goal.returns-in-None-clause-pieces
returns-in-None-clause-pieces c = reject_pieces c.args.session c.args.code c.args.self.now _ (returns-in-None-clause-driver c)
