use Rattle.std.proofs.Common.{rules, ◌∙◌}
use Rattle.wt_transport.proofs.Asking.{open_credit, refined_credit}
use Rattle.wt_transport.proofs.transport.Transport.credit.Goals as goal

pub returns-then-has-clause-log : goal.returns-then-has-clause-log
returns-then-has-clause-log c = λ side log position uncollected r. search rules ∙ refined_credit side c.args.self.now log position uncollected r c.args.id

pub returns-then-has-clause-log_open : goal.returns-then-has-clause-log_open
returns-then-has-clause-log_open c = λ side log position uncollected r o. search rules ∙ open_credit side c.args.self.now log position uncollected r c.args.id o

pub returns-else-has-clause-log : goal.returns-else-has-clause-log
returns-else-has-clause-log c = λ side log position uncollected r. search rules ∙ refined_credit side c.args.self.now log position uncollected r c.args.id

pub returns-else-has-clause-log_open : goal.returns-else-has-clause-log_open
returns-else-has-clause-log_open c = λ side log position uncollected r o. search rules ∙ open_credit side c.args.self.now log position uncollected r c.args.id o
