use Rattle.std.proofs.Common.{◌++◌, ◌∷◌, sym, ap, ◌∙◌}
use Rattle.wt_wire.specs.FieldSection.{line_bytes}
use Rattle.wt_wire.proofs.WrittenSections.{lines_more}
use Rattle.wt_wire.proofs.field_section.write_section.Goals as goal

pub loop-index-preserved : goal.loop-index-preserved
loop-index-preserved c =
    c.in_ok-write_line.ensures ∙ ap (λ bs. bs ++ line_bytes (c.at.result.0.now, c.at.result.1.now)) c.loop-index.invariant
    ∙ ap (λ bs. 0 ∷ 0 ∷ bs) (sym (lines_more c.args.list.now c.loop-index.index _ c.at.ensures))
