use Rattle.std.proofs.Common.{subst}
use Rattle.wt_pair.proofs.Agreed.{given-means, given-read, given-received, given-whole}
use Rattle.wt_pair.proofs.run.run_pair.Goals as goal
use Rattle.wt_pair.specs.Keeping.{IsPairRun}
use Rattle.wt_pair.specs.declared.event.PairFacts.{PairFacts}

pub returns-clause-run : goal.returns-clause-run
returns-clause-run c = subst (λ (f : PairFacts). IsPairRun f c.args.events.now c.run_on.result) c.new-pair.ensures.facts c.run_on.ensures

pub returns-clause-read : goal.returns-clause-read
returns-clause-read c = given-read c.args.facts c.args.events.now c.run_on.result (returns-clause-run c)

pub returns-clause-received : goal.returns-clause-received
returns-clause-received c = given-received c.args.facts c.args.events.now c.run_on.result (returns-clause-run c)

pub returns-clause-means : goal.returns-clause-means
returns-clause-means c = given-means c.args.facts c.args.events.now c.run_on.result (returns-clause-run c)

pub returns-clause-whole : goal.returns-clause-whole
returns-clause-whole c = given-whole c.args.facts c.args.events.now c.run_on.result (returns-clause-run c)
