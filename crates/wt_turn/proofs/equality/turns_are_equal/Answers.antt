use Rattle.wt_turn.proofs.Decides.{answered}
use Rattle.wt_turn.proofs.EqualTurns.{turns_decide}
use Rattle.wt_turn.proofs.equality.turns_are_equal.Goals as goal

pub returns : goal.returns
returns c = answered turns_decide c.args.first.now c.args.second.now c.eq.result c.eq.ensures
