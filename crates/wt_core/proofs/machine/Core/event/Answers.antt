use Rattle.std.proofs.Common.{refl}
use Rattle.wt_core.proofs.Stepping.{event-taken}
use Rattle.wt_core.proofs.machine.Core.event.Goals as goal

pub returns-clause-answers : goal.returns-clause-answers
returns-clause-answers c = rw (← c.self.view_is) (λ e. (refl, λ side log collected x lawful. event-taken side log collected _ x c.args.turn.now e lawful _ (λ f. c.in_ok-event.ensures.log side log collected x.driver x.reached f)))
