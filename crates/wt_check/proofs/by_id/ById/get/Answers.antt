use Rattle.std.proofs.Common.{◌∙◌, ap}
use Rattle.wt_check.specs.ById.{value_at}
use Rattle.wt_check.proofs.ByIdLaws.{value_of}
use Rattle.wt_check.proofs.by_id.ById.get.Goals as goal

pub returns : goal.returns
returns g c =
    c.get.ensures.value ∙ value_of c.self.inside.values.entries c.args.id c.into_u64.result c.into_u64.ensures.value ∙ ap (λ entries. value_at entries c.args.id) c.self.view_is
