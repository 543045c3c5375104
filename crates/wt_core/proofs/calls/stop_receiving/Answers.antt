use Rattle.std.proofs.Common.{refl}
use Rattle.wt_core.proofs.Given.{no-some, stop-did, stop-nothing}
use Rattle.wt_core.proofs.calls.stop_receiving.Goals as goal

pub returns-in_default-clause-answers : goal.returns-in_default-clause-answers
returns-in_default-clause-answers c = rw (← c.streams.view_is) (λ side log collected f r x may.
    stop-nothing side log collected c.args.d.now c.args.d.now _ _ c.args.id c.args.code f r x may refl refl c.take.result c.take.ensures.value (no-some _ c.in_default.not-Some) c.take.ensures.rest c.rests.ensures)

pub returns-clause-answers : goal.returns-clause-answers
returns-clause-answers c = rw (← c.streams.view_is) (λ side log collected f r x may.
    stop-did side log collected _ _ _ _ c.args.id c.args.code f r x may refl refl c.take.result c.in-Some.half c.take.ensures.value c.in-Some.is c.take.ensures.rest c.in_ok-stop.ensures.does)
