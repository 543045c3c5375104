use Rattle.std.proofs.Common.{rules, ap, ◌∙◌}
use Rattle.wt_transport.specs.Pieces.{first_piece}
use Rattle.wt_transport.proofs.Refining.{front_told, refined_no_pieces}
use Rattle.wt_transport.proofs.transport.Transport.peek.Goals as goal

pub returns-then-has-clause-log : goal.returns-then-has-clause-log
returns-then-has-clause-log c = λ side log position uncollected r. front_told side c.args.self.now log position uncollected r c.args.id _ (search rules)

pub returns-then-has-clause-no_half : goal.returns-then-has-clause-no_half
returns-then-has-clause-no_half c = λ side log position uncollected r none. search rules ∙ ap first_piece (refined_no_pieces side c.args.self.now log position uncollected r c.args.id none)

pub returns-else-has-clause-log : goal.returns-else-has-clause-log
returns-else-has-clause-log c = λ side log position uncollected r. front_told side c.args.self.now log position uncollected r c.args.id _ (search rules)

pub returns-else-has-clause-no_half : goal.returns-else-has-clause-no_half
returns-else-has-clause-no_half c = λ side log position uncollected r none. search rules ∙ ap first_piece (refined_no_pieces side c.args.self.now log position uncollected r c.args.id none)
