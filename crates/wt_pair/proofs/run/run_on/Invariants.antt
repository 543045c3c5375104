use Rattle.std.proofs.Common.{◌≡◌, drop, length}
use Rattle.wt_pair.proofs.EventLaws.{after_answers}
use Rattle.wt_pair.proofs.run.run_on.Given as goal
use Rattle.wt_pair.specs.Keeping.{KeepsPair}
use Rattle.wt_pair.specs.Pair.{Ends, run_from, run_pair}

abbrev pub invariant-loop-index : goal.invariant-loop-index
invariant-loop-index l = (p : Ends) × KeepsPair l.fn.pair.facts l.pair p
    × (after_answers l.answers (run_from l.fn.pair.facts p (drop l.index l.events)) ≡ run_pair l.fn.pair.facts l.events)
    × (length l.answers ≡ l.index)
