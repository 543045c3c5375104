use Rattle.wt_core.proofs.Given.{no-some}
use Rattle.wt_core.proofs.OnSessions.{named-did, named-nothing, unnamed-nothing}
use Rattle.wt_core.proofs.calls.on_session.Goals as goal

pub returns-in_default-clause-answers : goal.returns-in_default-clause-answers
returns-in_default-clause-answers c = λ side log collected f r xs x may.
    unnamed-nothing side log collected c.args.d.now c.args.d.now c.args.sessions.now c.args.streams.now c.args.streams.now c.args.call.now c.args.name c.requires f r xs x may c.named.result c.named.ensures (no-some _ c.in_default.not-Some) c.rests.ensures

pub returns-in_default-take-clause-answers : goal.returns-in_default-take-clause-answers
returns-in_default-take-clause-answers c = λ side log collected f r xs x may.
    named-nothing side log collected c.args.d.now c.args.d.now c.args.sessions.now c.args.streams.now c.args.streams.now c.args.call.now c.args.name c.requires f r xs x may c.named.result c.take.result c.in-Some.session c.named.ensures c.in-Some.is
    c.take.ensures.value (no-some _ c.in_default-take.not-Some) c.rests-in_default-take.ensures

pub returns-clause-answers : goal.returns-clause-answers
returns-clause-answers c = λ side log collected f r xs x may.
    named-did side log collected c.args.d.now c.asked.new.d c.args.sessions.now c.args.streams.now c.asked.new.streams c.args.call.now c.args.name c.requires f r xs x may c.named.result c.take.result c.in-Some.session c.in-Some-take.connection
    c.in_ok-reply.reply c.named.ensures c.in-Some.is c.take.ensures.value c.in-Some-take.is c.in_ok-reply.ensures.answers
