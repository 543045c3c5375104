use Rattle.std.proofs.Common.{rules, ◌∙◌}
use Rattle.wt_transport.proofs.Refining.{refined_fits}
use Rattle.wt_transport.proofs.transport.Transport.fits.Goals as goal

pub returns-then-may_come-clause-log : goal.returns-then-may_come-clause-log
returns-then-may_come-clause-log c = λ side log position uncollected r. search rules ∙ refined_fits side c.args.self.now log position uncollected r c.args.turn.now

pub returns-else-may_come-clause-log : goal.returns-else-may_come-clause-log
returns-else-may_come-clause-log c = λ side log position uncollected r. search rules ∙ refined_fits side c.args.self.now log position uncollected r c.args.turn.now
