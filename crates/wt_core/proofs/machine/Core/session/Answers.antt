use Rattle.wt_core.proofs.Taking.{by-sessions, session-past}
use Rattle.wt_core.proofs.machine.Core.session.Goals as goal

pub returns-clause-answers : goal.returns-clause-answers
returns-clause-answers c = rw (← c.self.view_is) (by-sessions _ c.args.call.now c.on_session.result _ _ _ (session-past c.args.call.now c.args.name c.requires) c.on_session.ensures.answers c.on_session.ensures.sessions)
