use Rattle.std.proofs.Common.{rules, ◌∙◌}
use Rattle.wt_transport.proofs.Refining.{refined_bytes_fit}
use Rattle.wt_transport.proofs.transport.Transport.bytes_fit.Goals as goal

pub returns-then-may_receive-clause-log : goal.returns-then-may_receive-clause-log
returns-then-may_receive-clause-log c = λ side log position uncollected r bytes. search rules ∙ refined_bytes_fit side c.args.self.now log position uncollected r c.args.id bytes

pub returns-else-may_receive-clause-log : goal.returns-else-may_receive-clause-log
returns-else-may_receive-clause-log c = λ side log position uncollected r bytes. search rules ∙ refined_bytes_fit side c.args.self.now log position uncollected r c.args.id bytes
