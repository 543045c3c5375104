use Rattle.std.proofs.Common.{rules, ◌∙◌}
use Rattle.wt_transport.proofs.Refining.{refined_may_send}
use Rattle.wt_transport.proofs.transport.Transport.may_send.Goals as goal

pub returns-then-can_send-clause-log : goal.returns-then-can_send-clause-log
returns-then-can_send-clause-log c = λ side log position uncollected r. search rules ∙ refined_may_send side c.args.self.now log position uncollected r c.args.id

pub returns-else-can_send-clause-log : goal.returns-else-can_send-clause-log
returns-else-can_send-clause-log c = λ side log position uncollected r. search rules ∙ refined_may_send side c.args.self.now log position uncollected r c.args.id
