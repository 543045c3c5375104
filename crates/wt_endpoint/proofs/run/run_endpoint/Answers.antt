use Rattle.wt_endpoint.proofs.Running.{run_apart, run_complete}
use Rattle.wt_endpoint.proofs.run.run_endpoint.Goals as goal

pub returns-clause-complete : goal.returns-clause-complete
returns-clause-complete c = run_complete c.args.side c.args.turns.now _ c.run_on.ensures.trace

pub returns-clause-apart : goal.returns-clause-apart
returns-clause-apart c = run_apart c.args.side c.args.turns.now _ c.run_on.ensures.trace
