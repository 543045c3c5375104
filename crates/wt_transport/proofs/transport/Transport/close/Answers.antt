use Rattle.std.proofs.Common.{arith}
use Rattle.std.proofs.lemmas.Grind.{common_steps}
use Rattle.wt_transport.proofs.Results.{moved}
use Rattle.wt_transport.proofs.Refining.{close_refines}
use Rattle.wt_transport.proofs.transport.Transport.close.Goals as goal

pub returns-clause-log : goal.returns-clause-log
returns-clause-log c = λ side log position uncollected r. moved _ (grind (arith, common_steps)) (close_refines side c.args.self.now log position uncollected r c.args.code c.args.reason)
