use Rattle.std.proofs.Common.{◌∙◌, sym}
use Rattle.wt_driver.proofs.Parts.{refuse-not, refuse-over, refuse-so}
use Rattle.wt_driver.proofs.Steps.{ok-then}
use Rattle.wt_driver.proofs.driver.Driver.refuse_session.Goals as goal

pub returns-then-not-awaits_answer : goal.returns-then-not-awaits_answer
returns-then-not-awaits_answer c = sym c.self.view_is ∙ refuse-not c.self.view_is c.args.session (sym c.awaits_answer.ensures ∙ c.if-not-awaits_answer.true)

pub returns-then-is_open : goal.returns-then-is_open
returns-then-is_open c =
    ok-then c.retire.result
    (λ e. refuse-so c.self.view_is c.args.session c.retire.new.t c.retire.new.self (sym c.awaits_answer.ensures ∙ c.if-not-awaits_answer.false) (sym c.is_open.ensures.now ∙ c.if-is_open.true) e)
    c.retire.ensures

pub returns : goal.returns
returns c =
    ok-then c.forget.result
    (λ e. refuse-over c.self.view_is c.args.session c.forget.new.self (sym c.awaits_answer.ensures ∙ c.if-not-awaits_answer.false) (sym c.is_open.ensures.now ∙ c.if-is_open.false) e)
    c.forget.ensures
