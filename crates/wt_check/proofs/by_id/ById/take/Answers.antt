use Rattle.std.proofs.Common.{◌∙◌, ap}
use Rattle.std.specs.Prelude.{◌==◌, None, if◌then◌else◌}
use Rattle.wt_check.specs.ById.{value_at}
use Rattle.wt_check.proofs.ByIdLaws.{value_of, values_changed}
use Rattle.wt_check.proofs.by_id.ById.take.Goals as goal

pub returns-clause-value : goal.returns-clause-value
returns-clause-value g c =
    c.remove.ensures.value ∙ value_of c.self.inside.values.entries c.args.id c.into_u64.result c.into_u64.ensures.value ∙ ap (λ entries. value_at entries c.args.id) c.self.view_is

pub returns-clause-others : goal.returns-clause-others
returns-clause-others g c = λ k.
    values_changed c.self.inside.values.entries c.remove.new.self.entries c.args.id c.into_u64.result None c.into_u64.ensures.value c.remove.ensures.updates.0 k
    ∙ ap (λ entries. if k == c.args.id then None else value_at entries k) c.self.view_is
