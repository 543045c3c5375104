use Rattle.std.proofs.Common.{subst, sym}
use Rattle.wt_core.proofs.Taking.{call-turn}
use Rattle.wt_core.specs.Keeping.{TurnAnswers}
use Rattle.wt_core.proofs.machine.Core.reply.Goals as goal
use Rattle.wt_turn.specs.declared.turn.Turn.{Turn}

pub returns-in-Call-clause-answers : goal.returns-in-Call-clause-answers
returns-in-Call-clause-answers c = subst (λ (t : Turn). TurnAnswers c.args.self.now t c.call.result c.call.new.self) (sym c.in-Call.is) (call-turn c.args.self.now c.call.new.self c.in-Call.call c.call.result c.call.ensures.answers)
