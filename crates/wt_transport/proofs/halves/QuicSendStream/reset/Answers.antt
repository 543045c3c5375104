use Rattle.std.proofs.Common.{arith, rules, ◌∙◌}
use Rattle.std.proofs.lemmas.Grind.{common_steps}
use Rattle.wt_transport.proofs.Results.{moved}
use Rattle.wt_transport.specs.HalfRules.{reset_answer}
use Rattle.wt_transport.proofs.HalfLaws.{reset_half_refines, sending_answer}
use Rattle.wt_transport.proofs.halves.QuicSendStream.reset.Goals as goal

pub returns-then-is_closed-clause-log_answer : goal.returns-then-is_closed-clause-log_answer
returns-then-is_closed-clause-log_answer c = λ side log position uncollected r. search rules ∙ sending_answer side c.args.t.now log position uncollected r (λ o h. reset_answer h) c.args.self.now.id c.requires

pub returns-then-is_closed-clause-log : goal.returns-then-is_closed-clause-log
returns-then-is_closed-clause-log c = λ side log position uncollected r. moved _ (grind (arith, common_steps)) (reset_half_refines side c.args.t.now log position uncollected r c.args.self.now.id c.args.code c.requires)

pub returns-clause-log_answer : goal.returns-clause-log_answer
returns-clause-log_answer c = λ side log position uncollected r. search rules ∙ sending_answer side c.args.t.now log position uncollected r (λ o h. reset_answer h) c.args.self.now.id c.requires

pub returns-clause-log : goal.returns-clause-log
returns-clause-log c = λ side log position uncollected r. moved _ (grind (arith, common_steps)) (reset_half_refines side c.args.t.now log position uncollected r c.args.self.now.id c.args.code c.requires)
