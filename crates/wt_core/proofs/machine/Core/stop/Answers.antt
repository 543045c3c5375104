use Rattle.std.proofs.Common.{refl}
use Rattle.wt_core.proofs.Taking.{by-streams}
use Rattle.wt_core.proofs.machine.Core.stop.Goals as goal
use Rattle.wt_turn.specs.declared.call.Call.TheVariants as calls

pub returns-clause-answers : goal.returns-clause-answers
returns-clause-answers c = rw (← c.self.view_is) (by-streams _ (calls.StopRecv c.args.id c.args.code) c.stop_receiving.result _ _ refl c.stop_receiving.ensures.answers)
