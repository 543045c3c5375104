use Rattle.std.proofs.Common.{◌∙◌, ap, subst, sym}
use Rattle.wt_core.proofs.Shaking.{incoming-answers}
use Rattle.wt_core.specs.Answering.{ShakeAnswers}
use Rattle.wt_core.specs.Shakes.{Shake, shake_as}
use Rattle.wt_core.proofs.handshake.Handshake.incoming.Goals as goal
use Rattle.wt_turn.specs.declared.call.Call.TheVariants as calls

pub returns-clause-answers : goal.returns-clause-answers
returns-clause-answers c = subst (λ (s : Shake). ShakeAnswers c.args.d.now s calls.Incoming c.asked.result c.poll.new.d c.asked.new.self) (sym (ap shake_as c.in-Incoming.is) ∙ c.self.view_is)
    (incoming-answers c.asked.result c.in_ok-answer.answer c.args.d.now c.poll.new.d c.asked.new.self c.asked.ensures.outcome c.asked.ensures.shake c.in_ok-answer.ensures.does)
