use Rattle.std.proofs.Common.{rules, ◌∙◌}
use Rattle.wt_transport.specs.Rules.{is_writable}
use Rattle.wt_transport.proofs.HalfLaws.{sending_answer}
use Rattle.wt_transport.proofs.halves.QuicSendStream.may_write.Goals as goal

pub returns-clause-log : goal.returns-clause-log
returns-clause-log c = λ side log position uncollected r. search rules ∙ sending_answer side c.args.t.now log position uncollected r is_writable c.args.self.now.id c.requires
