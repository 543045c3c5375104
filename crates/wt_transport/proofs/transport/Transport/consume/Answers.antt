use Rattle.std.proofs.Common.{rules}
use Rattle.wt_transport.proofs.Results.{moved}
use Rattle.wt_transport.proofs.Refining.{consume_refines}
use Rattle.wt_transport.proofs.transport.Transport.consume.Goals as goal

pub returns-then-has-clause-log : goal.returns-then-has-clause-log
returns-then-has-clause-log c = λ side log position uncollected r. moved _ (search rules) (consume_refines side c.args.self.now log position uncollected r c.args.id c.args.count c.requires)
