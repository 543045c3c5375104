use Rattle.std.proofs.Common.{◌∙◌, rules, sym}
use Rattle.wt_driver_laws.proofs.PieceLaws.{register_pieces}
use Rattle.wt_driver_laws.proofs.RegisterSession.{register_law}
use Rattle.wt_driver.proofs.Beginning.{ended-over, goes-open, register-not, register-over, register-so}
use Rattle.wt_driver.proofs.driver.Driver.register.Goals as goal

pub returns-in-Some-clause-driver : goal.returns-in-Some-clause-driver
returns-in-Some-clause-driver c = register-over c.args.session c.args.self.now (ended-over c.args.self.now.work.transport.is_open c.args.self.now.work.dispatched.fault c.in-Some.error c.in-Some.ensures)

pub returns-then-not-may_register-clause-driver : goal.returns-then-not-may_register-clause-driver
returns-then-not-may_register-clause-driver c =
    register-not c.args.session c.args.self.now (goes-open c.args.self.now.work.transport.is_open c.args.self.now.work.dispatched.fault (sym c.in_default.is ∙ c.result.ensures)) (sym c.may_register.ensures ∙ c.if-not-may_register.true)

pub returns-clause-driver : goal.returns-clause-driver
returns-clause-driver c = register-so c.args.session c.args.self.now c.begin_session.new.self (goes-open c.args.self.now.work.transport.is_open c.args.self.now.work.dispatched.fault (sym c.in_default.is ∙ c.result.ensures)) (sym c.may_register.ensures ∙ c.if-not-may_register.false) c.in_ok-begin_session.ensures

pub returns-in-Some-clause-answer : goal.returns-in-Some-clause-answer
returns-in-Some-clause-answer c = search rules

pub returns-in-Some-clause-begins : goal.returns-in-Some-clause-begins
returns-in-Some-clause-begins c = register_law c.args.session _ c.args.self.now _ (returns-in-Some-clause-answer c) (returns-in-Some-clause-driver c)

pub returns-in-Some-clause-pieces : goal.returns-in-Some-clause-pieces
returns-in-Some-clause-pieces c = register_pieces c.args.session c.args.self.now _ (returns-in-Some-clause-driver c)

pub returns-then-not-may_register-clause-answer : goal.returns-then-not-may_register-clause-answer
returns-then-not-may_register-clause-answer c = search rules

pub returns-then-not-may_register-clause-begins : goal.returns-then-not-may_register-clause-begins
returns-then-not-may_register-clause-begins c = register_law c.args.session _ c.args.self.now _ (returns-then-not-may_register-clause-answer c) (returns-then-not-may_register-clause-driver c)

pub returns-then-not-may_register-clause-pieces : goal.returns-then-not-may_register-clause-pieces
returns-then-not-may_register-clause-pieces c = register_pieces c.args.session c.args.self.now _ (returns-then-not-may_register-clause-driver c)

pub returns-clause-answer : goal.returns-clause-answer
returns-clause-answer c = search rules

pub returns-clause-begins : goal.returns-clause-begins
returns-clause-begins c = register_law c.args.session _ c.args.self.now _ (returns-clause-answer c) (returns-clause-driver c)

pub returns-clause-pieces : goal.returns-clause-pieces
returns-clause-pieces c = register_pieces c.args.session c.args.self.now _ (returns-clause-driver c)
