use Rattle.std.proofs.Common.{ap, arith}
use Rattle.std.proofs.lemmas.Grind.{common_steps}
use Rattle.std.specs.Prelude.{Err}
use Rattle.wt_relay.proofs.Running.{run_stops, run_whole, runs_step}
use Rattle.wt_relay.specs.declared.relay.RelayError.{RelayError}
use Rattle.wt_relay.proofs.run.run_relay.Goals as goal

pub loop-index-preserved : goal.loop-index-preserved
loop-index-preserved c =
    let r = c.loop-index.invariant.runs in
    record {
      runs = runs_step _ _ c.args.turns.now _ _ c.loop-index.index c.index-turns-index.result c.in-Ok.more c.loop-index-test.true c.index-turns-index.is r
          (c.in-Ok.ensures.lawful r.all r.stands) (c.in-Ok.ensures.answers r.all r.stands) c.in_ok-push-in-Ok.ensures.items;
      count_is = grind (arith, common_steps, c.in_ok-push-in-Ok.ensures.items, c.loop-index.invariant.count_is);
    }

pub returns-in-Err-Unlawful : goal.returns-in-Err-Unlawful
returns-in-Err-Unlawful c =
    let r = c.loop-index.invariant.runs in
    run_stops _ c.args.turns.now _ c.loop-index.index c.index-turns-index.result c.loop-index.invariant.count_is c.loop-index-test.true c.index-turns-index.is r
    (c.in-Err-Unlawful.ensures.unlawful r.all r.stands (ap (λ (e : RelayError). Err e) c.in-Err-Unlawful.field-0-is))

pub returns : goal.returns
returns c = run_whole _ c.args.turns.now _ c.loop-index.index c.loop-index.invariant.count_is (omega arith) c.loop-index.invariant.runs
