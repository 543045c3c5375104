use Rattle.std.proofs.Common.{rules}
use Rattle.wt_driver_laws.proofs.PieceCalls.{session_opened_pieces}
use Rattle.wt_driver.proofs.Openings.{request-opens}
use Rattle.wt_driver.proofs.Steps.{if-ok-both, ok-then}
use Rattle.wt_driver.proofs.driver.Driver.open_session.Goals as goal

pub returns-then-not-is_open-clause-answer : goal.returns-then-not-is_open-clause-answer
returns-then-not-is_open-clause-answer c = search rules

pub returns-then-not-is_open-clause-driver : goal.returns-then-not-is_open-clause-driver
returns-then-not-is_open-clause-driver c = search rules

pub returns-then-not-is_open-clause-opens : goal.returns-then-not-is_open-clause-opens
returns-then-not-is_open-clause-opens c = request-opens c.args.request _ c.args.self.now _ (returns-then-not-is_open-clause-answer c) (returns-then-not-is_open-clause-driver c)

pub returns-then-not-is_open-clause-pieces : goal.returns-then-not-is_open-clause-pieces
returns-then-not-is_open-clause-pieces c = session_opened_pieces c.args.self.now _ (returns-then-not-is_open-clause-driver c)

pub returns-in_default-clause-answer : goal.returns-in_default-clause-answer
returns-in_default-clause-answer c = search rules

pub returns-in_default-clause-driver : goal.returns-in_default-clause-driver
returns-in_default-clause-driver c = search rules

pub returns-in_default-clause-opens : goal.returns-in_default-clause-opens
returns-in_default-clause-opens c = request-opens c.args.request _ c.args.self.now _ (returns-in_default-clause-answer c) (returns-in_default-clause-driver c)

pub returns-in_default-clause-pieces : goal.returns-in_default-clause-pieces
returns-in_default-clause-pieces c = session_opened_pieces c.args.self.now _ (returns-in_default-clause-driver c)

pub returns-clause-answer : goal.returns-clause-answer
returns-clause-answer c = search rules

pub returns-clause-driver : goal.returns-clause-driver
returns-clause-driver c = search rules

pub returns-clause-opens : goal.returns-clause-opens
returns-clause-opens c = if-ok-both c.match-try_from_session_stream.result (λ a q e. request-opens c.args.request _ c.args.self.now _ q e) (returns-clause-answer c) (returns-clause-driver c)

pub returns-clause-pieces : goal.returns-clause-pieces
returns-clause-pieces c = ok-then c.match-try_from_session_stream.result (λ e. session_opened_pieces c.args.self.now _ e) (returns-clause-driver c)
