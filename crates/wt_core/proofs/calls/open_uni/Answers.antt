use Rattle.std.proofs.Common.{refl}
use Rattle.std.specs.Prelude.{Some}
use Rattle.wt_driver_laws.specs.Having.{OpeningStream}
use Rattle.wt_core.proofs.Beginning.{uni-begun}
use Rattle.wt_core.proofs.Handing.{failed-so, pending-so}
use Rattle.wt_core.proofs.OnSessions.{session-other}
use Rattle.wt_core.proofs.calls.open_uni.Goals as goal
use Rattle.wt_turn.specs.declared.call.Call.TheVariants as calls
use Rattle.wt_turn.specs.declared.reply.Reply.TheVariants as replies

pub returns-in_ok-add_opening-in-Ready-Ok-clause-answers : goal.returns-in_ok-add_opening-in-Ready-Ok-clause-answers
returns-in_ok-add_opening-in-Ready-Ok-clause-answers c = λ side log collected f r x has may.
    let fresh = rw (c.in-Ready-Ok.is, c.in-Ready-Ok.field-0-is) at c.in_ok-opening.ensures.opening in
    let put = rw c.uni.ensures at c.in_ok-add_opening-in-Ready-Ok.ensures.put in
    uni-begun side log collected _ _ f r c.args.on.now has c.args.streams.now _ x _ _ c.in-Ready-Ok.opening c.in-Ready-Ok.is c.in-Ready-Ok.field-0-is fresh c.in_ok-add_opening-in-Ready-Ok.field-0 c.id-id.result
    c.in_ok-add_opening-in-Ready-Ok.ensures.id c.id-id.ensures c.in_ok-add_opening-in-Ready-Ok.ensures.sends c.in_ok-add_opening-in-Ready-Ok.ensures.recvs may put (c.in_ok-opening.ensures.does side log collected f r has)

pub returns-in-Ready-Err-clause-answers : goal.returns-in-Ready-Err-clause-answers
returns-in-Ready-Err-clause-answers c = λ side log collected f r x has may.
    failed-so side log collected r _ c.args.streams.now x (λ (o : OpeningStream). replies.Opening o.id) (calls.OpenUni (Some c.args.on.now)) may (session-other (calls.OpenUni (Some c.args.on.now)) (Some c.args.on.now) refl) _ _ c.in-Ready-Err.error refl c.in-Ready-Err.is c.in-Ready-Err.field-0-is
    (c.in_ok-opening.ensures.does side log collected f r has)

pub returns-in-Pending-clause-answers : goal.returns-in-Pending-clause-answers
returns-in-Pending-clause-answers c = λ side log collected f r x has may.
    pending-so side log collected r _ c.args.streams.now x (λ (o : OpeningStream). replies.Opening o.id) (calls.OpenUni (Some c.args.on.now)) may (session-other (calls.OpenUni (Some c.args.on.now)) (Some c.args.on.now) refl) _ refl c.in-Pending.is
    (c.in_ok-opening.ensures.does side log collected f r has)
