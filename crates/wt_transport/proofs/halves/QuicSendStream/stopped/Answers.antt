use Rattle.std.proofs.Common.{rules, ◌∙◌}
use Rattle.wt_transport.specs.HalfRules.{stopped_answer}
use Rattle.wt_transport.proofs.HalfLaws.{sending_answer}
use Rattle.wt_transport.proofs.halves.QuicSendStream.stopped.Goals as goal

pub returns-clause-log_answer : goal.returns-clause-log_answer
returns-clause-log_answer c = λ side log position uncollected r. search rules ∙ sending_answer side c.args.t.now log position uncollected r stopped_answer c.args.self.now.id c.requires
