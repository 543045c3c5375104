use Rattle.std.proofs.Common.{rules, ◌∙◌}
use Rattle.wt_transport.proofs.AcceptLaws.{refined_next_bi}
use Rattle.wt_transport.proofs.transport.Transport.accept_bi.Goals as goal

pub returns-in_err-id-clause-log_stream : goal.returns-in_err-id-clause-log_stream
returns-in_err-id-clause-log_stream c = λ side log position uncollected r. search rules ∙ refined_next_bi side c.args.self.now log position uncollected r

pub returns-clause-log_stream : goal.returns-clause-log_stream
returns-clause-log_stream c = λ side log position uncollected r. search rules ∙ refined_next_bi side c.args.self.now log position uncollected r
