use Rattle.std.proofs.Common.{rules, ◌∙◌}
use Rattle.wt_transport.specs.HalfRules.{priority_answer}
use Rattle.wt_transport.proofs.HalfLaws.{sending_answer}
use Rattle.wt_transport.proofs.halves.QuicSendStream.priority.Goals as goal

pub returns-then-is_closed-clause-log_answer : goal.returns-then-is_closed-clause-log_answer
returns-then-is_closed-clause-log_answer c = λ side log position uncollected r. search rules ∙ sending_answer side c.args.t.now log position uncollected r (λ o h. priority_answer h) c.args.self.now.id c.requires

pub returns-clause-log_answer : goal.returns-clause-log_answer
returns-clause-log_answer c = λ side log position uncollected r. search rules ∙ sending_answer side c.args.t.now log position uncollected r (λ o h. priority_answer h) c.args.self.now.id c.requires
