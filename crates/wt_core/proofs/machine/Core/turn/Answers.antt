use Rattle.wt_core.proofs.Histories.{answer-is, keeps-on, lawful-so}
use Rattle.wt_core.proofs.machine.Core.turn.Goals as goal

pub returns-in-Ok-clause-answer : goal.returns-in-Ok-clause-answer
returns-in-Ok-clause-answer c = λ side h x l. answer-is side _ h c.args.turn.now x l _ _ (c.in-Ok.ensures.step side x.log x.refines (lawful-so side _ h c.args.turn.now x l))

pub returns-in-Ok-clause-history : goal.returns-in-Ok-clause-history
returns-in-Ok-clause-history c = λ side h x l. keeps-on side _ h c.args.turn.now x l _ _ (c.in-Ok.ensures.step side x.log x.refines (lawful-so side _ h c.args.turn.now x l))
