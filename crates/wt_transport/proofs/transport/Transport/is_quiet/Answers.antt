use Rattle.std.proofs.Common.{rules, ◌∙◌}
use Rattle.wt_transport.proofs.StillRunning.{refined_quiet}
use Rattle.wt_transport.proofs.transport.Transport.is_quiet.Goals as goal

pub returns-then-unread-eq0-clause-log : goal.returns-then-unread-eq0-clause-log
returns-then-unread-eq0-clause-log c = λ side log position uncollected r. search rules ∙ refined_quiet side c.args.self.now log position uncollected r c.args.id

pub returns-else-unread-eq0-clause-log : goal.returns-else-unread-eq0-clause-log
returns-else-unread-eq0-clause-log c = λ side log position uncollected r. search rules ∙ refined_quiet side c.args.self.now log position uncollected r c.args.id
