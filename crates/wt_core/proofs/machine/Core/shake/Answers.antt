use Rattle.std.proofs.Common.{refl, subst}
use Rattle.wt_core.proofs.Taking.{established-taken, shaken-taken}
use Rattle.wt_core.specs.Answering.{Shaken}
use Rattle.wt_core.specs.declared.handshake.Outcome.{Outcome}
use Rattle.wt_core.specs.declared.handshake.Outcome.TheVariants as outcomes
use Rattle.wt_core.proofs.machine.Core.shake.Goals as goal

pub returns-in-Reply-clause-answers : goal.returns-in-Reply-clause-answers
returns-in-Reply-clause-answers c = rw (← c.self.view_is) (
  refl,
  λ side log collected x may. shaken-taken side log collected _ x c.args.call.now may c.requires (outcomes.Reply c.in-Reply.reply) _ _ _ (record { rows = λ s. refl; first = refl })
      (subst (λ (o : Outcome). Shaken side log collected c.args.call.now o c.answer.new.d c.answer.new.self) c.in-Reply.is (c.in_ok-reply.ensures.answers side log collected x.driver x.reached x.shake may)),
)

pub returns-in-Session-clause-answers : goal.returns-in-Session-clause-answers
returns-in-Session-clause-answers c = rw (← c.self.view_is) (established-taken _ c.args.call.now c.establish.result c.in-Session.session c.answer.new.d c.answer.new.self c.establish.new.self c.establish.ensures.reply c.establish.ensures.rows c.establish.ensures.first c.requires
    (λ side log collected f r is may. subst (λ (o : Outcome). Shaken side log collected c.args.call.now o c.answer.new.d c.answer.new.self) c.in-Session.is (c.in_ok-reply.ensures.answers side log collected f r is may)))
