use Rattle.std.proofs.Common.{◌∙◌, ap}
use Rattle.wt_pair.proofs.LinkLaws.{given}
use Rattle.wt_pair.proofs.link.Link.take.Goals as goal
use Rattle.wt_pair.specs.Kept.{LinkNow}
use Rattle.wt_pair.specs.Link.{item_at}

pub returns-clause-item : goal.returns-clause-item
returns-clause-item c =
    given c.self.inside.items.items c.args.place c.self.inside.items.len c.remove.result c.self.inside.items.ok.0 c.remove.ensures.value c.remove.ensures.variant
    ∙ ap (λ (l : LinkNow). item_at l.waiting c.args.place) c.self.view_is
