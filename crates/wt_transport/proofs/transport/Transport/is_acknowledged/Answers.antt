use Rattle.std.proofs.Common.{rules, ◌∙◌}
use Rattle.wt_transport.proofs.Asking.{refined_acknowledged}
use Rattle.wt_transport.proofs.transport.Transport.is_acknowledged.Goals as goal

pub returns-then-has-clause-log : goal.returns-then-has-clause-log
returns-then-has-clause-log c = λ side log position uncollected r. search rules ∙ refined_acknowledged side c.args.self.now log position uncollected r c.args.id

pub returns-else-has-clause-log : goal.returns-else-has-clause-log
returns-else-has-clause-log c = λ side log position uncollected r. search rules ∙ refined_acknowledged side c.args.self.now log position uncollected r c.args.id
