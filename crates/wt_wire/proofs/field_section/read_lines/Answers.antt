use Rattle.std.proofs.Common.{◌≤◌, ◌+◌, length, drop, sym, ◌∙◌, ap, arith, length-drop}
use Rattle.std.proofs.lemmas.List.{take_rest}
use Rattle.wt_wire.specs.FieldSection.{field_lines_from}
use Rattle.wt_wire.proofs.LineLaws.{lines_step}
use Rattle.wt_wire.proofs.field_section.read_lines.Goals as goal

pub loop-offset-preserved : goal.loop-offset-preserved
loop-offset-preserved c =
    let bytes = c.args.bytes.now in
    let short : c.in-Some.line.len ≤ length (drop c.loop-offset.offset bytes) = rw take_rest at c.in-Some.ensures.within in
    let within : c.loop-offset.offset + c.in-Some.line.len ≤ length bytes = omega (arith, length-drop c.loop-offset.offset bytes) in
    record {
      within = within;
      passed = ap (λ fields. field_lines_from fields 0 (drop (c.loop-offset.offset + c.in-Some.line.len) bytes)) c.in_ok-set.ensures.ok
          ∙ sym (lines_step c.loop-offset.list c.loop-offset.offset bytes _ c.in-Some.ensures.value c.in-Some.ensures.some within) ∙ c.loop-offset.invariant.passed;
    }
