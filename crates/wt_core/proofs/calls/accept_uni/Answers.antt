use Rattle.std.proofs.Common.{refl}
use Rattle.std.specs.Prelude.{Some, ℕ}
use Rattle.wt_core.proofs.Handing.{failed-so, pending-so, uni-handed}
use Rattle.wt_core.proofs.OnSessions.{session-other}
use Rattle.wt_core.proofs.calls.accept_uni.Goals as goal
use Rattle.wt_turn.specs.declared.call.Call.TheVariants as calls
use Rattle.wt_turn.specs.declared.reply.Reply.TheVariants as replies

pub returns-in_ok-add_recv-in-Ready-Ok-clause-answers : goal.returns-in_ok-add_recv-in-Ready-Ok-clause-answers
returns-in_ok-add_recv-in-Ready-Ok-clause-answers c = λ side log collected f r x has may.
    uni-handed side log collected r _ c.args.streams.now x _ c.args.on.now may _ _ c.in-Ready-Ok.recv c.in_ok-add_recv-in-Ready-Ok.field-0 c.in-Ready-Ok.is c.in-Ready-Ok.field-0-is (c.in_ok-recv.ensures.does side log collected f r has)
    c.in_ok-add_recv-in-Ready-Ok.ensures.id c.in_ok-add_recv-in-Ready-Ok.ensures.put c.in_ok-add_recv-in-Ready-Ok.ensures.sends c.in_ok-add_recv-in-Ready-Ok.ensures.openings

pub returns-in-Ready-Err-clause-answers : goal.returns-in-Ready-Err-clause-answers
returns-in-Ready-Err-clause-answers c = λ side log collected f r x has may.
    failed-so side log collected r _ c.args.streams.now x (λ (n : ℕ). replies.Uni n) (calls.AcceptUni (Some c.args.on.now)) may (session-other (calls.AcceptUni (Some c.args.on.now)) (Some c.args.on.now) refl) _ _ c.in-Ready-Err.error refl c.in-Ready-Err.is c.in-Ready-Err.field-0-is
    (c.in_ok-recv.ensures.does side log collected f r has)

pub returns-in-Pending-clause-answers : goal.returns-in-Pending-clause-answers
returns-in-Pending-clause-answers c = λ side log collected f r x has may.
    pending-so side log collected r _ c.args.streams.now x (λ (n : ℕ). replies.Uni n) (calls.AcceptUni (Some c.args.on.now)) may (session-other (calls.AcceptUni (Some c.args.on.now)) (Some c.args.on.now) refl) _ refl c.in-Pending.is
    (c.in_ok-recv.ensures.does side log collected f r has)
