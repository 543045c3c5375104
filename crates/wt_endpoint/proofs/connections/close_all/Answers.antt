use Rattle.std.proofs.Common.{◌<◌, add-one, ap, arith, get_or, length, set, subst, sym}
use Rattle.wt_endpoint.proofs.Closing.{ClosedSoFar, close_answer, close_keeps, close_start, close_step}
use Rattle.wt_endpoint.proofs.connections.close_all.Goals as goal
use Rattle.wt_core.specs.CoreState.{CoreState}

pub loop-index-init : goal.loop-index-init
loop-index-init c = λ side hs code reason t a.
    rw (c.new-closings.ensures) (close_start side c.args.cores.now c.args.turn.now hs a)

pub loop-index-preserved : goal.loop-index-preserved
loop-index-preserved c = λ side hs code reason t a.
    let within : c.loop-index.index < length c.loop-index.cores = omega (arith, c.loop-index-test.true, c.loop-index.auto.cores) in
    subst (λ n. ClosedSoFar side (set c.loop-index.cores c.loop-index.index c.close_next.new.core) c.close_next.new.closings n c.args.turn.now hs) (sym (add-one c.loop-index.index))
    (close_step side c.loop-index.cores c.loop-index.closings c.close_next.new.closings c.loop-index.index code reason hs c.args.turn.now
    (get_or c.loop-index.cores c.loop-index.index c.index-cores-index.result) c.close_next.new.core t (c.loop-index.invariant side hs code reason t a) within
    (ap (λ (x : CoreState). get_or c.loop-index.cores c.loop-index.index x) c.index-cores-index.is) c.in_ok-close_next.ensures.answer c.in_ok-close_next.ensures.history)

pub returns-clause-answer : goal.returns-clause-answer
returns-clause-answer c = λ side hs code reason t a.
    close_answer side c.loop-index.cores c.loop-index.closings c.loop-index.index c.args.turn.now hs (c.loop-index.invariant side hs code reason t a) (omega (arith, c.loop-index-test.false, c.loop-index.auto.cores, c.loop-index.auto.index-end))

pub returns-clause-history : goal.returns-clause-history
returns-clause-history c = λ side hs code reason t a.
    close_keeps side c.loop-index.cores c.loop-index.closings c.loop-index.index c.args.turn.now hs (c.loop-index.invariant side hs code reason t a) (omega (arith, c.loop-index-test.false, c.loop-index.auto.cores, c.loop-index.auto.index-end))
