use Rattle.std.proofs.Common.{arith}
use Rattle.std.proofs.lemmas.Grind.{common_steps}
use Rattle.wt_transport.proofs.Results.{moved}
use Rattle.wt_transport.proofs.HalfLaws.{set_priority_refines}
use Rattle.wt_transport.proofs.halves.QuicSendStream.set_priority.Goals as goal

pub returns-then-not-is_closed-clause-log : goal.returns-then-not-is_closed-clause-log
returns-then-not-is_closed-clause-log c = λ side log position uncollected r. moved _ (grind (arith, common_steps)) (set_priority_refines side c.args.t.now log position uncollected r c.args.self.now.id c.args.priority c.requires)

pub returns-else-not-is_closed-clause-log : goal.returns-else-not-is_closed-clause-log
returns-else-not-is_closed-clause-log c = λ side log position uncollected r. moved _ (grind (arith, common_steps)) (set_priority_refines side c.args.t.now log position uncollected r c.args.self.now.id c.args.priority c.requires)
