use Rattle.wt_core.proofs.Taking.{by-streams, sending-past}
use Rattle.wt_core.proofs.machine.Core.sending.Goals as goal

pub returns-clause-answers : goal.returns-clause-answers
returns-clause-answers c = rw (← c.self.view_is) (by-streams _ c.args.call.now c.on_sending.result _ _ (sending-past c.args.call.now c.args.id c.requires) c.on_sending.ensures.answers)
