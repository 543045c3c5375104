use Rattle.std.proofs.Common.{ap, sym, ◌∙◌}
use Rattle.wt_transport.specs.HalfRules.{write_answer}
use Rattle.wt_transport.specs.Deciding.{write_of}
use Rattle.wt_transport.specs.Rules.{sending_half_now}
use Rattle.wt_transport.proofs.Results.{moved}
use Rattle.wt_transport.proofs.Decisions.{write_is}
use Rattle.wt_transport.proofs.HalfLaws.{sending_answer, write_refines}
use Rattle.wt_transport.proofs.halves.QuicSendStream.write.Goals as goal

pub returns-clause-answer : goal.returns-clause-answer
returns-clause-answer c = c.into_write.ensures ∙ (ap write_of c.in_ok-write.ensures.decision ∙ sym (write_is c.args.t.now.is_open (sending_half_now c.args.t.now c.args.self.now.id) c.args.bytes.now))

pub returns-clause-log_answer : goal.returns-clause-log_answer
returns-clause-log_answer c = λ side log position uncollected r. (c.into_write.ensures ∙ (ap write_of c.in_ok-write.ensures.decision ∙ sym (write_is c.args.t.now.is_open (sending_half_now c.args.t.now c.args.self.now.id) c.args.bytes.now))) ∙ sending_answer side c.args.t.now log position uncollected r (λ o h. write_answer o h c.args.bytes.now) c.args.self.now.id c.requires

pub returns-clause-log : goal.returns-clause-log
returns-clause-log c = λ side log position uncollected r. moved _ c.in_ok-write.ensures.state (write_refines side c.args.t.now log position uncollected r c.args.self.now.id c.args.bytes.now)
