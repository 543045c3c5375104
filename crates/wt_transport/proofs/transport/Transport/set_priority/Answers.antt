use Rattle.std.proofs.Common.{arith}
use Rattle.std.proofs.lemmas.Grind.{common_steps}
use Rattle.wt_transport.proofs.Results.{moved}
use Rattle.wt_transport.proofs.Refining.{priority_refines}
use Rattle.wt_transport.proofs.transport.Transport.set_priority.Goals as goal

pub returns-clause-log : goal.returns-clause-log
returns-clause-log c = λ side log position uncollected r. moved _ (grind (arith, common_steps)) (priority_refines side c.args.self.now log position uncollected r c.args.id c.args.priority c.requires)
