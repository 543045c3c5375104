use Rattle.std.proofs.Common.{◌∙◌, ap, sym}
use Rattle.wt_kept.specs.Kept.{DriverNow}
use Rattle.wt_driver_laws.proofs.CountSteps.{open_left}
use Rattle.wt_driver.proofs.Counted.{ended-counted}
use Rattle.wt_driver.proofs.Steps.{moment-none, moment-open, ok-then}
use Rattle.wt_driver.proofs.driver.Driver.moment.Goals as goal

pub returns-then-is_open-clause-driver : goal.returns-then-is_open-clause-driver
returns-then-is_open-clause-driver g c =
    ok-then c.work.result
    (λ e. moment-open c.args.self.now c.work.new.self (sym (ap (λ (d : DriverNow). d.work.transport.is_open) c.self.view_is) ∙ (sym c.is_open.ensures.now ∙ c.if-is_open.true)) e)
    c.work.ensures.driver

pub returns-clause-driver : goal.returns-clause-driver
returns-clause-driver g c = moment-none c.self.view_is c.new.result.items (sym c.is_open.ensures.now ∙ c.if-is_open.false) c.new.ensures.items

pub returns-then-is_open-clause-steps : goal.returns-then-is_open-clause-steps
returns-then-is_open-clause-steps g c =
    ok-then c.work.result
    (λ counted. open_left c.args.self.now c.work.new.self c.args.steps.now c.work.new.steps (sym (ap (λ (d : DriverNow). d.work.transport.is_open) c.self.view_is) ∙ (sym c.is_open.ensures.now ∙ c.if-is_open.true)) counted)
    c.work.ensures.steps

pub returns-clause-steps : goal.returns-clause-steps
returns-clause-steps g c = ended-counted c.self.view_is c.new.result.items c.args.steps.now
