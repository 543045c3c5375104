use Rattle.std.proofs.Common.{◌∙◌, ap, not, refl}
use Rattle.wt_core.proofs.Given.{no-some}
use Rattle.wt_core.proofs.Polling.{nobody-polled, nothing-polled, taken-polled}
use Rattle.wt_core.proofs.calls.on_opening.Goals as goal

pub returns-then-is_none-clause-answers : goal.returns-then-is_none-clause-answers
returns-then-is_none-clause-answers c = λ side log collected f r xs x may.
    nobody-polled side log collected c.args.d.now f r c.args.sessions.now xs c.args.streams.now x c.args.id may c.named.result c.named.ensures (c.is_none.ensures ∙ ap not c.if-is_none.true) c.rests.ensures

pub returns-in_default-clause-answers : goal.returns-in_default-clause-answers
returns-in_default-clause-answers c = rw (← c.streams.view_is) (λ side log collected f r xs x may.
    nothing-polled side log collected c.args.d.now f r c.args.sessions.now xs _ x c.args.id may _ c.take.ensures.rest refl refl c.named.result c.take.result c.named.ensures (c.is_none.ensures ∙ ap not c.if-is_none.false) c.take.ensures.value
    (no-some _ c.in_default.not-Some) c.rests-in_default.ensures)

pub returns-in-Uni-clause-answers : goal.returns-in-Uni-clause-answers
returns-in-Uni-clause-answers c = rw (← c.streams.view_is)
    (taken-polled c.args.d.now c.poll_uni.new.d c.args.sessions.now _ _ c.poll_uni.new.streams c.args.id c.take.result _ c.in-Some.opening c.poll_uni.result c.take.ensures.rest refl refl c.take.ensures.value c.in-Some.is c.in-Uni.ensures c.poll_uni.ensures.answers)

pub returns-in-Bi-clause-answers : goal.returns-in-Bi-clause-answers
returns-in-Bi-clause-answers c = rw (← c.streams.view_is)
    (taken-polled c.args.d.now c.poll_bi.new.d c.args.sessions.now _ _ c.poll_bi.new.streams c.args.id c.take.result _ c.in-Some.opening c.poll_bi.result c.take.ensures.rest refl refl c.take.ensures.value c.in-Some.is c.in-Bi.ensures c.poll_bi.ensures.answers)
