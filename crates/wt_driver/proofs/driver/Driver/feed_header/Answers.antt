use Rattle.std.proofs.Common.{◌∙◌, sym}
use Rattle.wt_driver.specs.contracts.driver.Driver.{the_view}
use Rattle.wt_driver.proofs.Counted.{header-counted}
use Rattle.wt_driver.proofs.Parts.{fed-bi, fed-uni, feed-bi, feed-uni, header-fits, header-none, header-so}
use Rattle.wt_driver.proofs.Steps.{if-ok-then, ok-then}
use Rattle.wt_driver.proofs.driver.Driver.feed_header.Goals as goal

pub returns-then-is_empty-clause-part : goal.returns-then-is_empty-clause-part
returns-then-is_empty-clause-part g c = header-none c.args.id c.args.bytes.now c.args.self.now (sym c.is_empty.ensures ∙ c.if-is_empty.true)

pub returns-then-is_bidirectional-clause-part : goal.returns-then-is_bidirectional-clause-part
returns-then-is_bidirectional-clause-part g c =
    let two = sym c.is_bidirectional.ensures ∙ c.if-is_bidirectional.true in
    if-ok-then c.work_after.result
    (λ taken e. header-so c.args.id c.args.bytes.now c.args.self.now (record (the_view c.self.inside) { bis = c.feed.new.self }) _ _ (sym c.is_empty.ensures ∙ c.if-is_empty.false)
    (feed-bi c.self.view_is c.args.id c.args.bytes.now _ two c.in_ok-fed.ensures.fed) (fed-bi c.self.view_is c.args.id c.args.bytes.now c.feed.new.self two c.in_ok-fed.ensures.reading) e)
    c.work_after.ensures.driver

pub returns-then-is_bidirectional-clause-steps : goal.returns-then-is_bidirectional-clause-steps
returns-then-is_bidirectional-clause-steps g c =
    let two = sym c.is_bidirectional.ensures ∙ c.if-is_bidirectional.true in
    ok-then c.work_after.result
    (λ counted. header-counted c.args.id c.args.bytes.now c.args.self.now (record (the_view c.self.inside) { bis = c.feed.new.self }) c.work_after.new.self _ c.args.steps.now c.feed.new.steps c.work_after.new.steps
    (fed-bi c.self.view_is c.args.id c.args.bytes.now c.feed.new.self two c.in_ok-fed.ensures.reading) c.in_ok-fed.ensures.steps counted) c.work_after.ensures.steps

pub returns-clause-part : goal.returns-clause-part
returns-clause-part g c =
    let two = sym c.is_bidirectional.ensures ∙ c.if-is_bidirectional.false in
    if-ok-then c.work_after-2.result
    (λ taken e. header-so c.args.id c.args.bytes.now c.args.self.now (record (the_view c.self-2.inside) { unis = c.feed-2.new.self }) _ _ (sym c.is_empty.ensures ∙ c.if-is_empty.false)
    (feed-uni c.self-2.view_is c.args.id c.args.bytes.now _ two c.in_ok-fed-2.ensures.fed) (fed-uni c.self-2.view_is c.args.id c.args.bytes.now c.feed-2.new.self two c.in_ok-fed-2.ensures.reading) e)
    c.work_after-2.ensures.driver

pub returns-clause-steps : goal.returns-clause-steps
returns-clause-steps g c =
    let two = sym c.is_bidirectional.ensures ∙ c.if-is_bidirectional.false in
    ok-then c.work_after-2.result
    (λ counted. header-counted c.args.id c.args.bytes.now c.args.self.now (record (the_view c.self-2.inside) { unis = c.feed-2.new.self }) c.work_after-2.new.self _ c.args.steps.now c.feed-2.new.steps c.work_after-2.new.steps
    (fed-uni c.self-2.view_is c.args.id c.args.bytes.now c.feed-2.new.self two c.in_ok-fed-2.ensures.reading) c.in_ok-fed-2.ensures.steps counted) c.work_after-2.ensures.steps

pub returns-then-is_bidirectional-clause-within : goal.returns-then-is_bidirectional-clause-within
returns-then-is_bidirectional-clause-within g c = if-ok-then c.work_after.result (λ taken e. header-fits c.args.id c.args.bytes.now c.args.self.now _ taken e) (returns-then-is_bidirectional-clause-part g c)

pub returns-clause-within : goal.returns-clause-within
returns-clause-within g c = if-ok-then c.work_after-2.result (λ taken e. header-fits c.args.id c.args.bytes.now c.args.self.now _ taken e) (returns-clause-part g c)
