use Rattle.std.proofs.Common.{◌≤◌, ◌+◌, length, drop, sym, ◌∙◌, arith, length-drop, Ok, Err}
use Rattle.std.proofs.lemmas.List.{take_rest}
use Rattle.wt_message.proofs.PairLaws.{pairs_step}
use Rattle.wt_message.proofs.settings.Settings.with_payload.Goals as goal

pub returns-in-Err-clause-settings : goal.returns-in-Err-clause-settings
returns-in-Err-clause-settings c =
    let bytes = c.args.payload.now in
    let short : c.in-Some.pair.len ≤ length (drop c.loop-offset.offset bytes) = rw take_rest at c.in-Some.ensures.within in
    let within : c.loop-offset.offset + c.in-Some.pair.len ≤ length bytes = omega (arith, length-drop c.loop-offset.offset bytes) in
    sym (pairs_step c.loop-offset.settings c.loop-offset.offset bytes _ c.in-Some.ensures.value c.in-Some.ensures.some within (Err c.in-Err.error) (sym c.in-Err.is ∙ c.with_pair.ensures.settings)) ∙ c.loop-offset.invariant.passed

pub loop-offset-preserved : goal.loop-offset-preserved
loop-offset-preserved c =
    let bytes = c.args.payload.now in
    let short : c.in-Some.pair.len ≤ length (drop c.loop-offset.offset bytes) = rw take_rest at c.in-Some.ensures.within in
    let within : c.loop-offset.offset + c.in-Some.pair.len ≤ length bytes = omega (arith, length-drop c.loop-offset.offset bytes) in
    record {
      within = within;
      passed = sym (pairs_step c.loop-offset.settings c.loop-offset.offset bytes _ c.in-Some.ensures.value c.in-Some.ensures.some within (Ok c.in-Ok.added) (sym c.in-Ok.is ∙ c.with_pair.ensures.settings)) ∙ c.loop-offset.invariant.passed;
    }
