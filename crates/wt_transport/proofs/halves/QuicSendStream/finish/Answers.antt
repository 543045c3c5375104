use Rattle.std.proofs.Common.{arith, rules, ◌∙◌}
use Rattle.std.proofs.lemmas.Grind.{common_steps}
use Rattle.wt_transport.proofs.Results.{moved}
use Rattle.wt_transport.specs.HalfRules.{finish_answer}
use Rattle.wt_transport.proofs.HalfLaws.{finishing_refines, sending_answer}
use Rattle.wt_transport.proofs.halves.QuicSendStream.finish.Goals as goal

pub returns-clause-log_answer : goal.returns-clause-log_answer
returns-clause-log_answer c = λ side log position uncollected r. search rules ∙ sending_answer side c.args.t.now log position uncollected r finish_answer c.args.self.now.id c.requires

pub returns-clause-log : goal.returns-clause-log
returns-clause-log c = λ side log position uncollected r. moved _ (grind (arith, common_steps)) (finishing_refines side c.args.t.now log position uncollected r c.args.self.now.id)
