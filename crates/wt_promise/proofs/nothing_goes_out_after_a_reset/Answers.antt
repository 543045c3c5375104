use Rattle.wt_promise.proofs.Clauses.{behind_reset, later_reset}
use Rattle.wt_promise.proofs.nothing_goes_out_after_a_reset.Goals as goal

pub returns-clause-later : goal.returns-clause-later
returns-clause-later c = later_reset

pub returns-clause-behind : goal.returns-clause-behind
returns-clause-behind c = behind_reset
