use Rattle.std.proofs.Common.{ap, ◌∙◌}
use Rattle.wt_session.proofs.Fields.{put_next}
use Rattle.wt_session.proofs.response.fields_of.Goals as goal
use Rattle.wt_wire.specs.HeaderList.{with_field}

pub loop-index-preserved : goal.loop-index-preserved
loop-index-preserved c =
    c.in_ok-insert.ensures.ok
    ∙ ap (λ fields. with_field c.at.result.0.now c.at.result.1.now fields) c.loop-index.invariant
    ∙ put_next c.args.list.now c.loop-index.index _ c.len-index-end.ensures.ordered c.at.ensures
