use Rattle.wt_turn.proofs.Decides.{answered}
use Rattle.wt_turn.proofs.EqualAnswers.{answers_decide}
use Rattle.wt_turn.proofs.equality.answers_are_equal.Goals as goal

pub returns : goal.returns
returns c = answered answers_decide c.args.first.now c.args.second.now c.eq.result c.eq.ensures
