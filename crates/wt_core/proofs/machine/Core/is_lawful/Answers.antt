use Rattle.std.proofs.Common.{◌∙◌}
use Rattle.wt_core.proofs.Histories.{may_next_is}
use Rattle.wt_core.proofs.machine.Core.is_lawful.Goals as goal

pub returns-else-self-clause-history : goal.returns-else-self-clause-history
returns-else-self-clause-history c = λ side h x. c.may_come.ensures ∙ may_next_is side _ h c.args.turn.now x
