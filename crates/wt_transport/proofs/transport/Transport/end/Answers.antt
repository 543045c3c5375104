use Rattle.std.proofs.Common.{rules, ◌∙◌}
use Rattle.wt_transport.proofs.Refining.{refined_end, refined_no_end}
use Rattle.wt_transport.proofs.transport.Transport.end.Goals as goal

pub returns-then-has-clause-log : goal.returns-then-has-clause-log
returns-then-has-clause-log c = λ side log position uncollected r. search rules ∙ refined_end side c.args.self.now log position uncollected r c.args.id

pub returns-then-has-clause-no_half : goal.returns-then-has-clause-no_half
returns-then-has-clause-no_half c = λ side log position uncollected r none. search rules ∙ refined_no_end side c.args.self.now log position uncollected r c.args.id none

pub returns-else-has-clause-log : goal.returns-else-has-clause-log
returns-else-has-clause-log c = λ side log position uncollected r. search rules ∙ refined_end side c.args.self.now log position uncollected r c.args.id

pub returns-else-has-clause-no_half : goal.returns-else-has-clause-no_half
returns-else-has-clause-no_half c = λ side log position uncollected r none. search rules ∙ refined_no_end side c.args.self.now log position uncollected r c.args.id none
