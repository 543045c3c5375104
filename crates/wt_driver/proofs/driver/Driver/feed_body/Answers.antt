use Rattle.std.proofs.Common.{◌∙◌, ap, sym}
use Rattle.wt_kept.specs.Kept.{DriverNow}
use Rattle.wt_driver.proofs.Counted.{body-counted}
use Rattle.wt_driver.proofs.Steps.{ok-then}
use Rattle.wt_driver.proofs.Parts.{body-fed-so, body-fits, body-none, body-over}
use Rattle.wt_driver.proofs.Steps.{if-ok-then}
use Rattle.wt_driver.proofs.driver.Driver.feed_body.Goals as goal

pub returns-then-not-is_open-clause-part : goal.returns-then-not-is_open-clause-part
returns-then-not-is_open-clause-part g c = body-over c.args.id c.args.bytes.now c.args.self.now (sym (ap (λ (d : DriverNow). d.work.transport.is_open) c.self.view_is) ∙ (sym c.is_open.ensures.now ∙ c.if-not-is_open.true))

pub returns-then-is_empty-clause-part : goal.returns-then-is_empty-clause-part
returns-then-is_empty-clause-part g c = body-none c.args.id c.args.bytes.now c.args.self.now (sym (ap (λ (d : DriverNow). d.work.transport.is_open) c.self.view_is) ∙ (sym c.is_open.ensures.now ∙ c.if-not-is_open.false)) (sym c.is_empty.ensures ∙ c.if-is_empty.true)

pub returns-clause-part : goal.returns-clause-part
returns-clause-part g c =
    if-ok-then c.work_after.result
    (λ taken e. body-fed-so c.self.view_is c.args.id c.args.bytes.now c.feed.new.self c.in_ok-fed.fed _ (sym c.is_open.ensures.now ∙ c.if-not-is_open.false) (sym c.is_empty.ensures ∙ c.if-is_empty.false) c.in_ok-fed.ensures.fed c.in_ok-fed.ensures.dispatched e)
    c.work_after.ensures.driver

pub returns-clause-steps : goal.returns-clause-steps
returns-clause-steps g c =
    ok-then c.work_after.result (λ counted. body-counted c.self.view_is c.args.id c.args.bytes.now c.feed.new.self c.work_after.new.self c.in_ok-fed.fed c.args.steps.now c.feed.new.steps c.work_after.new.steps c.in_ok-fed.ensures.dispatched c.in_ok-fed.ensures.steps counted) c.work_after.ensures.steps

pub returns-clause-within : goal.returns-clause-within
returns-clause-within g c = if-ok-then c.work_after.result (λ taken e. body-fits c.args.id c.args.bytes.now c.args.self.now _ taken e) (returns-clause-part g c)
