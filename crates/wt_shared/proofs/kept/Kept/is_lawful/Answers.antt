use Rattle.std.proofs.Common.{◌∙◌, ap}
use Rattle.wt_shared.proofs.kept.Kept.is_lawful.Goals as goal
use Rattle.wt_shared.specs.Stored.{Stored}

-- the core keeps the history
pub returns : goal.returns
returns c = rw (← c.self.view_is) (c.is_lawful.ensures.history _ _ (c.self.invariant.keeps (ap (λ (s : Stored). s.failed) c.self.view_is ∙ c.requires)))
