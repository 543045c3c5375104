use Rattle.std.proofs.Common.{refl}
use Rattle.wt_core.proofs.Given.{no-some, sending-did, sending-nothing}
use Rattle.wt_core.proofs.calls.on_sending.Goals as goal

pub returns-in_default-clause-answers : goal.returns-in_default-clause-answers
returns-in_default-clause-answers c = rw (← c.streams.view_is) (λ side log collected f r x may.
    sending-nothing side log collected c.args.d.now c.args.d.now _ _ _ c.args.id f r x may c.take.result c.requires c.take.ensures.value (no-some _ c.in_default.not-Some) c.take.ensures.rest refl refl c.rests.ensures)

pub returns-clause-answers : goal.returns-clause-answers
returns-clause-answers c = rw (← c.streams.view_is) (λ side log collected f r x may.
    sending-did side log collected _ _ _ _ _ c.args.id f r x may c.take.result c.in-Some.half c.sent.new.half _ c.in_ok-reply.reply c.requires c.take.ensures.value c.in-Some.is c.take.ensures.rest c.in_ok-put.ensures c.in_ok-reply.ensures.same
    refl refl c.in_ok-reply.ensures.does)
