use Rattle.wt_driver.proofs.Counted.{piece-counted}
use Rattle.wt_driver.proofs.Parts.{piece-taken}
use Rattle.wt_driver.proofs.Steps.{ok-then}
use Rattle.wt_driver.proofs.driver.Driver.take_bytes.Goals as goal

pub returns-clause-driver : goal.returns-clause-driver
returns-clause-driver g c =
    ok-then c.keep.result (λ r. piece-taken c.args.id c.args.bytes.now c.args.self.now _ _ _ _ _ c.in_ok-header.ensures.part c.in_ok-body.ensures.part r) c.keep.ensures

pub returns-clause-steps : goal.returns-clause-steps
returns-clause-steps g c = ok-then c.keep.result (λ r. piece-counted c.args.self.now c.feed_header.new.self c.feed_body.new.self c.args.steps.now c.feed_header.new.steps c.feed_body.new.steps c.in_ok-header.ensures.steps c.in_ok-body.ensures.steps) c.keep.ensures
