use Rattle.std.proofs.Common.{◌∙◌, ap}
use Rattle.wt_pair.proofs.LinkLaws.{lent}
use Rattle.wt_pair.proofs.link.Link.at.Goals as goal
use Rattle.wt_pair.specs.Kept.{LinkNow}
use Rattle.wt_pair.specs.Link.{item_at}

pub returns : goal.returns
returns c = lent c.self.inside.items.items c.args.place c.get.result c.get.ensures.item ∙ ap (λ (l : LinkNow). item_at l.waiting c.args.place) c.self.view_is
