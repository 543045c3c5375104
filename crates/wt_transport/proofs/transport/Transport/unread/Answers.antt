use Rattle.std.proofs.Common.{rules, ap, length, ◌∙◌}
use Rattle.std.specs.List.{concat}
use Rattle.wt_transport.proofs.Refining.{refined_no_pieces, refined_unread}
use Rattle.wt_transport.proofs.transport.Transport.unread.Goals as goal

pub returns-then-has-clause-log : goal.returns-then-has-clause-log
returns-then-has-clause-log c = λ side log position uncollected r. search rules ∙ ap length (refined_unread side c.args.self.now log position uncollected r c.args.id)

pub returns-then-has-clause-no_half : goal.returns-then-has-clause-no_half
returns-then-has-clause-no_half c = λ side log position uncollected r none. search rules ∙ ap (λ ps. length (concat ps)) (refined_no_pieces side c.args.self.now log position uncollected r c.args.id none)

pub returns-else-has-clause-log : goal.returns-else-has-clause-log
returns-else-has-clause-log c = λ side log position uncollected r. search rules ∙ ap length (refined_unread side c.args.self.now log position uncollected r c.args.id)

pub returns-else-has-clause-no_half : goal.returns-else-has-clause-no_half
returns-else-has-clause-no_half c = λ side log position uncollected r none. search rules ∙ ap (λ ps. length (concat ps)) (refined_no_pieces side c.args.self.now log position uncollected r c.args.id none)
