use Rattle.std.proofs.Common.{arith, length-drop, ◌∙◌}
use Rattle.wt_trace.proofs.OutsideLaws.{appends_more, rest_of, part_up_to}
use Rattle.wt_trace.proofs.output.write_all.Goals as goal

pub loop-offset-preserved : goal.loop-offset-preserved
loop-offset-preserved g c =
    let text = c.args.text.now in
    let offset = c.loop-offset.offset in
    let part = rw (rest_of text offset) at c.in-Ok.ensures.bytes in
    let bound = rw (rest_of text offset) at c.in-Ok.ensures.bound in
    record {
      written = appends_more _ _ _ text offset c.in-Ok.count c.loop-offset.invariant.written part;
      within = omega (arith, bound, length-drop offset text);
      same = c.in-Ok.ensures.same ∙ c.loop-offset.invariant.same;
    }

pub returns-in-Err-clause-part : goal.returns-in-Err-clause-part
returns-in-Err-clause-part g c =
    part_up_to _ _ _ c.args.text.now c.loop-offset.offset c.loop-offset.invariant.written c.in-Err.ensures.bytes
