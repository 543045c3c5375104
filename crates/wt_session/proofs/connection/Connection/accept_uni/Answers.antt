use Rattle.std.proofs.Common.{◌∙◌, ap, refl, subst, sym, ℕ}
use Rattle.wt_driver_laws.specs.Having.{HasSession}
use Rattle.wt_session.specs.Errors.{reported_error}
use Rattle.wt_driver_laws.specs.Driving.{Follows}
use Rattle.wt_kept.specs.Kept.{DriverNow}
use Rattle.std.specs.Prelude.{None, Some}
use Rattle.wt_turn.specs.declared.reply.Reply.TheVariants as replies
use Rattle.wt_session.proofs.Sessions.{uni-given, uni-none}
use Rattle.wt_session.proofs.connection.Connection.accept_uni.Goals as goal

pub returns-in-Ready-Ok-clause-does : goal.returns-in-Ready-Ok-clause-does
returns-in-Ready-Ok-clause-does c side log collected f r =
    rw (c.from.ensures, c.into_stream.ensures, ← c.self.view_is) (λ has. let h = c.in_ok-answer.ensures.gives side log collected f r has in let g = rw (c.in-Ready-Ok.is, c.in-Ready-Ok.field-0-is) at h in
    uni-given side log c.self.inside.session collected c.accept_uni.new.self _ has g)

pub returns-in_ok-error-in-Ready-Err-clause-does : goal.returns-in_ok-error-in-Ready-Err-clause-does
returns-in_ok-error-in-Ready-Err-clause-does c side log collected f r =
    rw (← c.self.view_is) (λ has. let h = c.in_ok-answer.ensures.gives side log collected f r has in let n = rw (c.in-Ready-Err.is, c.in-Ready-Err.field-0-is) at h in
    uni-none side log c.self.inside.session collected c.accept_uni.new.self c.args.d.now (Some c.in-Ready-Err.e) _ has r c.rests.ensures f n
    (ap replies.Failed (c.in_ok-error-in-Ready-Err.ensures side log collected (subst (λ (x : DriverNow). Follows side x log collected) (sym n.nothing.same) f) (subst (λ (s : ℕ). HasSession s side log) c.self.view_is has)
    ∙ ap (λ (s : ℕ). reported_error side log s c.in-Ready-Err.e) (sym c.self.view_is))))

pub returns-in-Pending-clause-does : goal.returns-in-Pending-clause-does
returns-in-Pending-clause-does c side log collected f r =
    rw (← c.self.view_is) (λ has. let h = c.in_ok-answer.ensures.gives side log collected f r has in let n = rw c.in-Pending.is at h in
    uni-none side log c.self.inside.session collected c.accept_uni.new.self c.args.d.now None _ has r c.rests.ensures f n refl)
