use Rattle.std.proofs.Common.{◌∙◌}
use Rattle.std.proofs.lemmas.Result.{on_ok_weaker}
use Rattle.wt_transport.proofs.Results.{if_ok, moved}
use Rattle.wt_transport.proofs.Refining.{refined_bi, bi_refines}
use Rattle.wt_transport.proofs.transport.Transport.open_bi.Goals as goal

pub returns-clause-log_id : goal.returns-clause-log_id
returns-clause-log_id c = λ side log position uncollected r. if_ok c.open.result (λ id e. e ∙ refined_bi side c.args.self.now log position uncollected r) c.open.ensures.id

pub returns-clause-log : goal.returns-clause-log
returns-clause-log c = λ side log position uncollected r. on_ok_weaker c.open.result (λ e. moved _ e (bi_refines side c.args.self.now log position uncollected r)) c.open.ensures.state
