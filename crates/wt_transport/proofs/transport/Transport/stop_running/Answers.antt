use Rattle.std.proofs.Common.{sym, ◌∙◌}
use Rattle.std.proofs.lemmas.Result.{on_ok_weaker}
use Rattle.wt_transport.proofs.StillRunning.{stopped_refines, unstopped_refines}
use Rattle.wt_transport.proofs.transport.Transport.stop_running.Goals as goal

pub returns-then-still_receives-clause-log : goal.returns-then-still_receives-clause-log
returns-then-still_receives-clause-log c = λ side log position uncollected r.
    on_ok_weaker c.stop.result (stopped_refines side c.args.self.now log position uncollected r c.stop.new.self c.args.id c.args.code (sym c.still_receives.ensures ∙ c.if-still_receives.true)) c.stop.ensures.now

pub returns-clause-log : goal.returns-clause-log
returns-clause-log c = λ side log position uncollected r. unstopped_refines side c.args.self.now log position uncollected r c.args.id c.args.code (sym c.still_receives.ensures ∙ c.if-still_receives.false)
