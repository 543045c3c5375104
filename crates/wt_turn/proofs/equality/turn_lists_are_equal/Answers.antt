use Rattle.std.proofs.lemmas.Slice.Eq.{slice_eq-Decides}
use Rattle.wt_turn.proofs.EqualTurns.{turns_decide}
use Rattle.wt_turn.proofs.equality.turn_lists_are_equal.Goals as goal

pub returns : goal.returns
returns c = slice_eq-Decides turns_decide c.args.first.now c.args.second.now c.eq.result c.eq.ensures
