use Rattle.std.proofs.Common.{◌≡◌, ◌<◌, arith, length, sym, take, true, ◌∙◌}
use Rattle.wt_endpoint.proofs.Running.{run_replies, run_stands}
use Rattle.wt_endpoint.proofs.run.run_on.Goals as goal
use Rattle.wt_endpoint.specs.Endpoints.{endpoint_history, may_come_next}

pub loop-index-preserved : goal.loop-index-preserved
loop-index-preserved c =
    let (stands, given) = c.loop-index.invariant in
    let all = c.args.turns.now in
    let n = c.loop-index.index in
    let t = c.index-turns-index.result in
    let within : n < length all = omega (arith, c.loop-index-test.true) in
    let e = endpoint_history c.args.side (take n all) in
    let may : may_come_next c.args.side e t ≡ true = sym (c.may_come.ensures.history e stands.refines) ∙ c.if-not-may_come.false in (
      run_stands c.args.side c.loop-index.connections c.step.new.connections all n t within c.index-turns-index.is stands may (c.in_ok-reply.ensures.history e stands.refines),
      run_replies c.args.side all n t c.loop-index.answers c.push.new.self c.in_ok-reply.reply within c.index-turns-index.is given (c.in_ok-reply.ensures.reply e stands.refines) c.in_ok-push.ensures.ok,
    )
