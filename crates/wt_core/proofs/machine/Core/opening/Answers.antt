use Rattle.std.proofs.Common.{refl}
use Rattle.std.specs.Prelude.{Err, Ok, OnOk, Result}
use Rattle.wt_core.proofs.Taking.{by-sessions}
use Rattle.wt_core.proofs.machine.Core.opening.Goals as goal
use Rattle.wt_core.specs.HeldNow.{SameSessions, SessionsNow}
use Rattle.wt_turn.specs.declared.call.Call.TheVariants as calls

same : {T E : Type 0} (r : Result T E) (s : SessionsNow) → OnOk r (SameSessions s s)
same (Ok t) s = record { rows = λ k. refl; first = refl }
same (Err e) s = tt

pub returns-clause-answers : goal.returns-clause-answers
returns-clause-answers c = rw (← c.self.view_is) (by-sessions _ (calls.PollOpening c.args.id) c.on_opening.result _ _ _ refl c.on_opening.ensures.answers (same c.on_opening.result c.self.inside.sessions))
