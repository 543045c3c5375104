use Rattle.std.proofs.Common.{◌∙◌, arith, sym}
use Rattle.wt_driver.proofs.Openings.{ready-ok, send-waits, slice-drop, slice-more, slice-rest, slice-within, written-within}
use Rattle.wt_driver.proofs.opening.Opening.send.Goals as goal

pub returns-then-self-len-clause-polled : goal.returns-then-self-len-clause-polled
returns-then-self-len-clause-polled c =
    send-waits c.self.view_is c.args.d.now c.write.new.d _ _ c.in-Ready-Ok.count
    (slice-rest c.self.inside.header.items c.deref.result.now c.self.inside.out c.deref.ensures.value)
    (slice-drop c.self.inside.header.items c.deref.result.now c.self.inside.out c.in-Ready-Ok.count c.deref.ensures.value)
    (sym c.lives.ensures ∙ c.if-not-lives.false)
    (ready-ok c.in_ok-count.field-0 c.in-Ready-Ok.field-0 c.in-Ready-Ok.count c.in-Ready-Ok.is c.in-Ready-Ok.field-0-is ∙ c.in_ok-count.ensures.answer)
    c.in_ok-count.ensures.driver
    (slice-more c.self.inside.header.items c.deref.result.now c.self.inside.out c.in-Ready-Ok.count c.deref.ensures.value (omega (arith, c.if-self-len.true, c.len.ensures)))

pub invariant_of-self-in-Ready-Ok : goal.invariant_of-self-in-Ready-Ok
invariant_of-self-in-Ready-Ok c =
    slice-within c.self.inside.header.items c.deref.result.now c.self.inside.out c.in-Ready-Ok.count c.deref.ensures.value c.self.invariant
    (written-within c.self.inside.half.id _ c.args.d.now.work.transport c.in-Ready-Ok.count
    (ready-ok c.in_ok-count.field-0 c.in-Ready-Ok.field-0 c.in-Ready-Ok.count c.in-Ready-Ok.is c.in-Ready-Ok.field-0-is ∙ c.in_ok-count.ensures.answer))
