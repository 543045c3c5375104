use Rattle.std.proofs.Common.{◌∙◌, ap}
use Rattle.std.specs.Prelude.{◌==◌, Some, if◌then◌else◌}
use Rattle.wt_check.specs.ById.{value_at}
use Rattle.wt_check.proofs.ByIdLaws.{values_changed}
use Rattle.wt_check.proofs.by_id.ById.put.Goals as goal

pub returns : goal.returns
returns g c = λ k.
    values_changed c.self.inside.values.entries c.insert.new.self.entries c.args.id c.into_u64.result (Some c.args.value) c.into_u64.ensures.value c.in_ok-insert.ensures.updates.0 k
    ∙ ap (λ entries. if k == c.args.id then Some c.args.value else value_at entries k) c.self.view_is
