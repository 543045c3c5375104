use Rattle.std.specs.Prelude.{length}
use Rattle.wt_core.proofs.Stepping.{stepped-by}
use Rattle.wt_turn.specs.Log.{actions_of}
use Rattle.wt_core.proofs.machine.Core.step.Goals as goal

pub returns-clause-step : goal.returns-clause-step
returns-clause-step c = λ side log r l.
    stepped-by side log c.args.turn.now c.args.self.now c.reply.new.self _ c.in_ok-reply.reply c.take_actions-actions.result c.take_actions-actions.new.self c.self.view_is r l c.in_ok-reply.ensures.answers.0
    (c.in_ok-reply.ensures.answers.1 side log (length (actions_of log)) r.kept l) (λ later collected f. c.take_actions-actions.ensures.log_actions side later collected f) (λ later collected f. c.take_actions-actions.ensures.log side later collected f)
