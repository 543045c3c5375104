use Rattle.wt_promise.proofs.Turns.{gone_by_call}
use Rattle.wt_promise.proofs.words.words_of_sessions.Goals as goal

pub returns-clause-gone_by_call : goal.returns-clause-gone_by_call
returns-clause-gone_by_call c = gone_by_call
