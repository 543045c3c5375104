use Rattle.std.proofs.Common.{sym, ◌∙◌}
use Rattle.std.proofs.lemmas.Result.{on_ok_weaker}
use Rattle.wt_transport.proofs.StillRunning.{reset_there_refines, unreset_refines}
use Rattle.wt_transport.proofs.transport.Transport.reset_running.Goals as goal

pub returns-then-still_sends-clause-log : goal.returns-then-still_sends-clause-log
returns-then-still_sends-clause-log c = λ side log position uncollected r.
    on_ok_weaker c.reset.result (reset_there_refines side c.args.self.now log position uncollected r c.reset.new.self c.args.id c.args.code (sym c.still_sends.ensures ∙ c.if-still_sends.true)) c.reset.ensures.now

pub returns-clause-log : goal.returns-clause-log
returns-clause-log c = λ side log position uncollected r. unreset_refines side c.args.self.now log position uncollected r c.args.id c.args.code (sym c.still_sends.ensures ∙ c.if-still_sends.false)
