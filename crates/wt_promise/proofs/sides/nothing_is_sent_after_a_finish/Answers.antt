use Rattle.wt_promise.proofs.Clauses.{behind_finish, later_finish}
use Rattle.wt_promise.proofs.sides.nothing_is_sent_after_a_finish.Goals as goal

pub returns-clause-later : goal.returns-clause-later
returns-clause-later c = later_finish

pub returns-clause-behind : goal.returns-clause-behind
returns-clause-behind c = behind_finish
