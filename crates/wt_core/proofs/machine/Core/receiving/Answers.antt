use Rattle.wt_core.proofs.Taking.{by-streams, receiving-past}
use Rattle.wt_core.proofs.machine.Core.receiving.Goals as goal

pub returns-clause-answers : goal.returns-clause-answers
returns-clause-answers c = rw (← c.self.view_is) (by-streams _ c.args.call.now c.on_receiving.result _ _ (receiving-past c.args.call.now c.args.id c.requires) c.on_receiving.ensures.answers)
